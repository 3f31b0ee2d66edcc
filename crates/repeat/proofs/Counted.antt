-- What copies have, told by the size of the part.
use Rattle.std.proofs.Common.{◌≡◌, ℕ, Bool, true, false, cond, ◌&&◌, Some, None, refl, ap, ◌∙◌}
use Rattle.std.proofs.lemmas.Bool.{cond-true, cond-false, and_from}
use Rattle.assembly.specs.declared.plans.Size.{Size}
use Rattle.assembly.specs.Meaning.{void, plan, Plan, size_in, size_of, is_small}
use Rattle.repeat.specs.declared.copies.Copies.{Copies}
use Rattle.repeat.specs.Repeat.{in_copies, is_count, times_size, AreCopies}
use Rattle.repeat.specs.Sizes.{size_of_times, HaveInAll}
use Rattle.repeat.proofs.InCopies.{size_in_copies}

size_where : (b : Bool) (p : Plan) → size_of (cond b (plan p) void) ≡ cond b (Some (size_in p)) None
size_where true p = refl
size_where false p = refl

copies_have : (n : ℕ) (a : Size) → HaveInAll n a (size_of_times n a)
copies_have n a p bounds is e =
    ap (λ (t : Bool). size_of (cond ((t && is_count n) && is_small (size_in (in_copies n p))) (plan (in_copies n p)) void)) e
    ∙ size_where (is_count n && is_small (size_in (in_copies n p))) (in_copies n p)
    ∙ ap (λ (s : Size). cond (is_count n && is_small s) (Some s) None) (size_in_copies n p bounds ∙ ap (times_size n) is)

pub no_copies_have : (n : ℕ) (a : Size) → (is_count n && is_small (times_size n a)) ≡ false → HaveInAll n a None
no_copies_have n a large p bounds is e = copies_have n a p bounds is e ∙ cond-false _ _ _ large

pub are_copies_have : (n : ℕ) (a : Size) (c : Copies) → AreCopies n a c → HaveInAll n a (Some c.whole)
are_copies_have n a c are p bounds is e =
    let small = ap is_small are.whole_is in
    copies_have n a p bounds is e ∙ cond-true _ _ _ (and_from _ _ are.count (cc)) ∙ ap Some (cc)
