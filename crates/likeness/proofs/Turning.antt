-- Netlists that are alike, and readings of them: themselves, the other way, and on to a third.
use Rattle.std.proofs.Common.{◌≡◌, List, refl, sym, ap, ◌∙◌, subst}
use Rattle.std.specs.List.Sorted.{IsPermutation}
use Rattle.std.proofs.lemmas.List.{map-id}
use Rattle.std.proofs.lemmas.List.Sorted.{IsPermutation-refl}
use Rattle.quantity.specs.Group.{Group}
use Rattle.likeness.specs.Alike.{nodes_of, nodes_in, variables_in, Alike}
use Rattle.netlist.specs.Netlist.{Netlist}
use Rattle.netlist.specs.Renaming.{renamed_row, renamed_law}
use Rattle.network.specs.Walks.{read}
use Rattle.likeness.specs.Agreeing.{ListedAlike, ReadItself, ReadBack, ReadOnward}
use Rattle.likeness.specs.Turning.{unchanged, onward, AlikeItself, AlikeBack, AlikeOnward}
use Rattle.likeness.proofs.Listing.{all_from, all_weaker, all_both, all_of_flat, map_same, order_back, order_onward}
use Rattle.likeness.proofs.Pairing.{same_laws, same_back, same_further}
use Rattle.likeness.proofs.Renaming.{row_unchanged, row_undone, row_onward, law_undone, law_onward, law_keeps}
use Rattle.likeness.proofs.Occurring.{by_rows, by_laws, nodes_forth, nodes_back, variables_forth, variables_back}

pub alike_itself : AlikeItself
alike_itself b = (
  record {
    there = unchanged;
    back = unchanged;
    nodes = all_from _ (λ n. refl) (nodes_in b);
    variables = all_from _ (λ v. refl) (variables_in b);
    rows = subst (λ l. IsPermutation l b.rows) (sym (map_same (renamed_row unchanged) b.rows (all_from _ row_unchanged b.rows))) (IsPermutation-refl b.rows);
    laws = same_laws _ b.laws (subst (λ l. IsPermutation l b.laws) (sym (map_same (renamed_law unchanged) b.laws (all_from _ map-id b.laws))) (IsPermutation-refl b.laws));
  },
  refl,
  refl,
)

pub alike_back : AlikeBack
alike_back b c s = (
  record {
    there = s.back;
    back = s.there;
    nodes = nodes_forth b c s (λ n. s.there.node (s.back.node n) ≡ n) (all_weaker _ _ (λ n e. ap s.there.node e) (nodes_in b) s.nodes);
    variables = variables_forth b c s (λ v. s.there.variable (s.back.variable v) ≡ v) (all_weaker _ _ (λ v e. ap s.there.variable e) (variables_in b) s.variables);
    rows = order_back (renamed_row s.there) b.rows c.rows s.rows (renamed_row s.back) (all_both _ _ _ (row_undone s.there s.back) b.rows (all_of_flat _ nodes_of b.rows s.nodes) (by_rows b _ s.variables));
    laws = same_back (renamed_law s.back) (law_keeps s.back) (renamed_law s.there) b.laws c.laws s.laws (all_weaker _ _ (law_undone s.there s.back) b.laws (by_laws b _ s.variables));
  },
  refl,
  refl,
)

pub alike_onward : AlikeOnward
alike_onward b c d s t = (
  record {
    there = onward s.there t.there;
    back = onward t.back s.back;
    nodes = all_both _ _ _ (λ n e f. ap s.back.node f ∙ e) (nodes_in b) s.nodes (nodes_back b c s (λ n. t.back.node (t.there.node n) ≡ n) t.nodes);
    variables = all_both _ _ _ (λ v e f. ap s.back.variable f ∙ e) (variables_in b) s.variables (variables_back b c s (λ v. t.back.variable (t.there.variable v) ≡ v) t.variables);
    rows = order_onward (renamed_row s.there) b.rows c.rows s.rows (renamed_row t.there) _ (row_onward s.there t.there) d.rows t.rows;
    laws = same_further (renamed_law t.there) (law_keeps t.there) (renamed_law s.there) b.laws c.laws s.laws _ (law_onward s.there t.there) d.laws t.laws;
  },
  refl,
  refl,
)

module _ {G : Type 0} (𝓖 : Group G) where
  list_back : (b c : Netlist) (s : Alike b c) (old new : List G) → ListedAlike 𝓖 b s.there old new → ListedAlike 𝓖 c s.back new old
  list_back b c s old new h =
      variables_forth b c s (λ v. read 𝓖 old (s.back.variable v) ≡ read 𝓖 new v)
      (all_both _ _ _ (λ v e f. ap (read 𝓖 old) e ∙ sym f) (variables_in b) s.variables h)

  list_onward : (b c d : Netlist) (s : Alike b c) (t : Alike c d) (old new newer : List G) → ListedAlike 𝓖 b s.there old new → ListedAlike 𝓖 c t.there new newer → ListedAlike 𝓖 b (onward s.there t.there) old newer
  list_onward b c d s t old new newer h k =
      all_both _ _ _ (λ v e f. f ∙ e) (variables_in b) h
      (variables_back b c s (λ v. read 𝓖 newer (t.there.variable v) ≡ read 𝓖 new v) k)

  pub read_itself : ReadItself 𝓖
  read_itself b r = record {
    values = all_from _ (λ v. refl) (variables_in b);
    rates = all_from _ (λ v. refl) (variables_in b);
  }

  pub read_back : ReadBack 𝓖
  read_back b c s r r' h = record {
    values = list_back b c s r.values r'.values h.values;
    rates = list_back b c s r.rates r'.rates h.rates;
  }

  pub read_onward : ReadOnward 𝓖
  read_onward b c d s t r r' r'' h k = record {
    values = list_onward b c d s t r.values r'.values r''.values h.values k.values;
    rates = list_onward b c d s t r.rates r'.rates r''.rates h.rates k.rates;
  }
