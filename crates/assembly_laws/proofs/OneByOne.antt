-- A series fits exactly where its parts fit one by one, and then both draw the same.
use Rattle.std.proofs.Common.{◌≡◌, ℕ, ◌<◌, ◌↔◌, Bool, true, false, cond, ◌&&◌, List, [], ◌∷◌, length, None, sym, refl, ap, ◌∙◌, subst, arith}
use Rattle.std.proofs.lemmas.Bool.{and_parts, and_from, eqb-true, eq-eqb}
use Rattle.netlist.specs.declared.domains.Domain.{Domain}
use Rattle.netlist.specs.Domains.{domain_number}
use Rattle.netlist.specs.Netlist.{Netlist}
use Rattle.netlist.specs.Sound.{Sound}
use Rattle.draft.proofs.Rooms.{node_left}
use Rattle.assembly.specs.Meaning.{void, plan, Plan, size_in, is_small}
use Rattle.layers.proofs.Ends.{by_both_ends}
use Rattle.series.specs.Series.{series, meet}
use Rattle.place.specs.Place.{judge_place, judge_placing, with_assembly}
use Rattle.assembly_laws.specs.ButNodes.{SameButNodes}
use Rattle.assembly_laws.specs.Placed.{joint_before, joint_behind, with_both, FitOneByOne, SeriesFitsAsItsParts, SeriesIsDrawnAsItsParts}
use Rattle.assembly_laws.proofs.Alike.{same_alike}
use Rattle.assembly_laws.proofs.Fits.{fits_from, fits_judged}
use Rattle.assembly_laws.proofs.Placing.{with_ends, one, other, whole, joined, fronted, few, same, front_fits, back_fits}
use Rattle.assembly_laws.proofs.Together.{small, meets, whole_fits}

-- what is placed is not void
placed_if : (b : Netlist) (given : List ℕ) (t : Bool) (w : Plan) → judge_place b (cond t (plan w) void) given ≡ None → (t ≡ true) × (judge_placing b given w ≡ None)
placed_if b given true w h = (refl, h)
placed_if b given false w h = absurd (cc)

module _ (b : Netlist) (p q : ℕ) (a c : Plan) (x y u v : Domain) where
  abbrev front : Plan
  front = one b p q x y u v a c

  abbrev back : Plan
  back = other b p q x y u v a c

  abbrev w : Plan
  w = whole b p q x y u v a c

  abbrev not_void : Bool
  not_void = meet (plan front) (plan back) && is_small (size_in w)

  fit : judge_place b (series (plan front) (plan back)) (p ∷ q ∷ []) ≡ None → FitOneByOne b (plan front) (plan back) p q
  fit h =
      let s = placed_if b (p ∷ q ∷ []) not_void w h in
      let fits = fits_from b p q x v w refl s.1 in
      let alike : domain_number y ≡ domain_number u = eqb-true _ _ (and_parts (meet (plan front) (plan back)) (is_small (size_in w)) s.0).0 in
      record {
        joint = node_left b y (domain_number y) refl (omega (arith, few b p q x y u v a c fits));
        front = fits_judged (joined b p q x y u v a c) p (length b.domains) x y front refl (front_fits b p q x y u v a c fits);
        back = fits_judged (fronted b p q x y u v a c) (length b.domains) q u v back refl (back_fits b p q x y u v a c fits alike);
      }

  fits_whole : p < length b.domains → q < length b.domains → FitOneByOne b (plan front) (plan back) p q → judge_place b (series (plan front) (plan back)) (p ∷ q ∷ []) ≡ None
  fits_whole pl ql f =
      let first = fits_from (joined b p q x y u v a c) p (length b.domains) x y front refl f.front in
      let second = fits_from (fronted b p q x y u v a c) (length b.domains) q u v back refl f.back in
      let is : not_void ≡ true = and_from _ _ (eq-eqb _ _ (meets b p q x y u v a c pl ql first second)) (small b p q x y u v a c pl ql first second) in
      ap (λ (t : Bool). judge_place b (cond t (plan w) void) (p ∷ q ∷ [])) is
      ∙ fits_judged b p q x v w refl (whole_fits b p q x y u v a c pl ql first second)

  drawn : Sound b → judge_place b (series (plan front) (plan back)) (p ∷ q ∷ []) ≡ None → SameButNodes (joint_before b (plan front) (plan back)) (joint_behind b (plan front) (plan back)) (with_assembly b (series (plan front) (plan back)) (p ∷ q ∷ [])) (with_both b (plan front) (plan back) p q)
  drawn sound h =
      let s = placed_if b (p ∷ q ∷ []) not_void w h in
      let is : series (plan front) (plan back) ≡ plan w = ap (λ (t : Bool). cond t (plan w) void) s.0 in
      subst (λ m. SameButNodes (joint_before b (plan front) (plan back)) (joint_behind b (plan front) (plan back)) (with_assembly b m (p ∷ q ∷ [])) (with_both b (plan front) (plan back) p q)) (sym is)
      (same b p q x y u v a c (fits_from b p q x v w refl s.1) sound)

pub series_fits_as_its_parts : SeriesFitsAsItsParts
series_fits_as_its_parts b void n pm pn p q pl ql = (λ h. absurd (cc), λ f. absurd (let h = f.front in cc))
series_fits_as_its_parts b (plan a) void pm pn p q pl ql = (λ h. absurd (cc), λ f. absurd (let h = f.back in cc))
series_fits_as_its_parts b (plan a) (plan c) pm pn p q pl ql =
    by_both_ends
    (λ xs us. (judge_place b (series (plan (with_ends xs a)) (plan (with_ends us c))) (p ∷ q ∷ []) ≡ None) ↔ FitOneByOne b (plan (with_ends xs a)) (plan (with_ends us c)) p q)
    (λ x y u v. (fit b p q a c x y u v, fits_whole b p q a c x y u v pl ql)) a.ends c.ends pm.two_ends pn.two_ends

series_drawn : (b : Netlist) → Sound b → (a c : Plan) (p q : ℕ) → length a.ends ≡ 2 → length c.ends ≡ 2 → judge_place b (series (plan a) (plan c)) (p ∷ q ∷ []) ≡ None → SameButNodes (joint_before b (plan a) (plan c)) (joint_behind b (plan a) (plan c)) (with_assembly b (series (plan a) (plan c)) (p ∷ q ∷ [])) (with_both b (plan a) (plan c) p q)
series_drawn b sound a c p q e d =
    by_both_ends
    (λ xs us. judge_place b (series (plan (with_ends xs a)) (plan (with_ends us c))) (p ∷ q ∷ []) ≡ None → SameButNodes (joint_before b (plan a) (plan c)) (joint_behind b (plan a) (plan c)) (with_assembly b (series (plan (with_ends xs a)) (plan (with_ends us c))) (p ∷ q ∷ [])) (with_both b (plan (with_ends xs a)) (plan (with_ends us c)) p q))
    (λ x y u v. drawn b p q a c x y u v sound) a.ends c.ends e d

pub series_is_drawn_as_its_parts : SeriesIsDrawnAsItsParts
series_is_drawn_as_its_parts b sound void n pm pn p q h = absurd (cc)
series_is_drawn_as_its_parts b sound (plan a) void pm pn p q h = absurd (cc)
series_is_drawn_as_its_parts b sound (plan a) (plan c) pm pn p q h =
    let s = series_drawn b sound a c p q pm.two_ends pn.two_ends h in (s, same_alike _ _ _ _ s)
