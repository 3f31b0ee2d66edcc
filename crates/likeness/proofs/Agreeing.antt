-- Readings agree with netlists that are alike, or with neither.
use Rattle.std.proofs.Common.{ℕ, ◌<◌, Bool, List, [], length, get_or, map, sym, ap, ◌∙◌, subst}
use Rattle.std.specs.List.{AllByRecursion}
use Rattle.quantity.specs.Group.{Group}
use Rattle.netlist.specs.declared.rows.Row.{Row}
use Rattle.netlist.specs.Netlist.{Netlist}
use Rattle.netlist.specs.Rows.{across_of}
use Rattle.likeness.specs.Alike.{nodes_of, nodes_in, Alike}
use Rattle.netlist.specs.Renaming.{renamed_row, renamed_law}
use Rattle.network.specs.Readings.{Readings}
use Rattle.network.specs.ReadingsAgree.{ReadingsAgree}
use Rattle.network.specs.Flows.{SetsKeep}
use Rattle.network.specs.Laws.{LawsHold}
use Rattle.network.specs.Walks.{WalksClose, read, no_row, row_at, tail_of, head_of, network_of}
use Rattle.likeness.specs.Agreeing.{ListedAlike, ReadAlike, AlikeAgree, PartsAgree}
use Rattle.likeness.proofs.Listing.{all_at, all_weaker, all_both, all_of_flat, place_of}
use Rattle.likeness.proofs.Renaming.{of_row, of_law, vertex, tail_renamed, head_renamed, across_renamed}
use Rattle.likeness.proofs.Occurring.{by_rows, by_laws}
use Rattle.likeness.proofs.Pairing.{law_place}
use Rattle.likeness.proofs.Turning.{alike_back, read_back}
use Rattle.likeness.proofs.Summing.{Kept, law_sum_renamed, law_reordered, out_renamed, flow_renamed, flow_reordered}
use Rattle.likeness.proofs.Carrying.{Carried, closing_carried}

-- Of two netlists that are alike, what holds of the second holds of the first.
module _ {G : Type 0} (𝓖 : Group G) (b c : Netlist) (s : Alike b c) where
  module _ (values values' : List G) (vs : ListedAlike 𝓖 b s.there values values') where
    row_kept : AllByRecursion (λ row. AllByRecursion (Kept 𝓖 s.there values values') (of_row row)) b.rows
    row_kept = by_rows b (Kept 𝓖 s.there values values') vs

    law_kept : (k : ℕ) → k < length b.laws → AllByRecursion (Kept 𝓖 s.there values values') (of_law (get_or b.laws k []))
    law_kept k l = all_at _ b.laws (by_laws b (Kept 𝓖 s.there values values') vs) k [] l

    sets_back : SetsKeep 𝓖 c.rows values' → SetsKeep 𝓖 b.rows values
    sets_back keep inside =
        let inside' : ℕ → Bool = λ n. inside (s.back.node n) in
        let ends = all_of_flat _ nodes_of b.rows (all_weaker _ _ (λ n e. ap inside e) (nodes_in b) s.nodes) in
        sym (flow_renamed 𝓖 s.there values values' inside inside' b.rows (all_both _ _ _ (out_renamed 𝓖 s.there values values' inside inside') b.rows ends row_kept))
        ∙ sym (flow_reordered 𝓖 values' inside' (map (renamed_row s.there) b.rows) c.rows s.rows)
        ∙ keep inside'

    carried : Carried (network_of 𝓖 b.rows values) (length b.rows) (network_of 𝓖 c.rows values') (length c.rows) (vertex s.there.node)
    carried j l =
        let row = row_at b.rows j in
        let place = place_of (renamed_row s.there) b.rows c.rows s.rows j no_row l in (
          place.0,
          place.1,
          ap tail_of place.2 ∙ tail_renamed s.there row,
          ap head_of place.2 ∙ head_renamed s.there row,
          ap (λ (r : Row ℕ). read 𝓖 values' (across_of r)) place.2 ∙ ap (read 𝓖 values') (across_renamed s.there row) ∙ (all_at _ b.rows row_kept j no_row l).1.0,
        )

    walks_back : WalksClose 𝓖 (network_of 𝓖 c.rows values') (length c.rows) → WalksClose 𝓖 (network_of 𝓖 b.rows values) (length b.rows)
    walks_back = closing_carried 𝓖 _ _ _ _ (vertex s.there.node) carried

  module _ (r r' : Readings G) (h : ReadAlike 𝓖 b s.there r r') where
    laws_back : LawsHold 𝓖 c.laws r' (length c.laws) → LawsHold 𝓖 b.laws r (length b.laws)
    laws_back hold k l =
        let place = law_place (renamed_law s.there) b.laws c.laws s.laws k l in
        sym (law_sum_renamed 𝓖 s.there r r' (get_or b.laws k []) (law_kept r.values r'.values h.values k l) (law_kept r.rates r'.rates h.rates k l))
        ∙ sym (law_reordered 𝓖 r' (renamed_law s.there (get_or b.laws k [])) (get_or c.laws place.0 []) place.2)
        ∙ hold place.0 place.1

    agree_back : ReadingsAgree 𝓖 c r' → ReadingsAgree 𝓖 b r
    agree_back agree = record {
      laws = laws_back agree.laws;
      sets = sets_back r.values r'.values h.values agree.sets;
      walks = walks_back r.values r'.values h.values agree.walks;
    }

module _ {G : Type 0} (𝓖 : Group G) where
  -- the readings the other way, under the numbers that lead back
  turned : (b c : Netlist) (s : Alike b c) (r r' : Readings G) → ReadAlike 𝓖 b s.there r r' → ReadAlike 𝓖 c (alike_back b c s).0.there r' r
  turned b c s r r' h = subst (λ to. ReadAlike 𝓖 c to r' r) (sym (alike_back b c s).1) (read_back 𝓖 b c s r r' h)

  pub alike_agree : AlikeAgree 𝓖
  alike_agree b c s r r' h = (
    agree_back 𝓖 c b (alike_back b c s).0 r' r (turned b c s r r' h),
    agree_back 𝓖 b c s r r' h,
  )

  pub parts_agree : PartsAgree 𝓖
  parts_agree b c s r r' h =
      let t = (alike_back b c s).0 in
      let k = turned b c s r r' h in
      record {
        laws = (laws_back 𝓖 c b t r' r k, laws_back 𝓖 b c s r r' h);
        sets = (sets_back 𝓖 c b t r'.values r.values k.values, sets_back 𝓖 b c s r.values r'.values h.values);
        walks = (walks_back 𝓖 c b t r'.values r.values k.values, walks_back 𝓖 b c s r.values r'.values h.values);
      }
