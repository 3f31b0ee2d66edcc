-- Tables of tests, line by line and part by part.
use Rattle.std.proofs.Common.{◌≡◌, ℕ, Bool, true, false, cond, [], ◌∷◌, ◌++◌, Option, Some, None, refl, ap, ◌∙◌, arith}
use Rattle.std.specs.List.{AllByRecursion}
use Rattle.refusal.specs.Tests.{Tests, first_of}

module _ {R : Type 0} where
  pub passes_line : (t : Bool) (why : R) (rest : Option R) → cond t (Some why) rest ≡ None → (t ≡ false) × (rest ≡ None)
  passes_line true why rest h = let z : ◌≡◌ {A = ℕ} 0 1 = cc in absurd (omega arith)
  passes_line false why rest h = (refl, h)

  -- every test of the table failed
  pub passes : (lines : Tests R) → first_of lines ≡ None → AllByRecursion (λ (line : Bool × R). line.0 ≡ false) lines
  passes [] h = tt
  passes (line ∷ rest) h =
      let p = passes_line line.0 line.1 (first_of rest) h in
      (p.0, passes rest p.1)

  -- a table in two parts
  pub passed_over : (xs ys : Tests R) → first_of xs ≡ None → first_of (xs ++ ys) ≡ first_of ys
  passed_over [] ys h = refl
  passed_over (line ∷ xs) ys h =
      let p = passes_line line.0 line.1 (first_of xs) h in
      ap (λ (t : Bool). cond t (Some line.1) (first_of (xs ++ ys))) p.0 ∙ passed_over xs ys p.1

  stops_line : (t : Bool) (why : R) (rest more : Option R) (found : R) → (rest ≡ Some found → more ≡ Some found) → cond t (Some why) rest ≡ Some found → cond t (Some why) more ≡ Some found
  stops_line true why rest more found k h = h
  stops_line false why rest more found k h = k h

  pub stopped_at : (xs ys : Tests R) (why : R) → first_of xs ≡ Some why → first_of (xs ++ ys) ≡ Some why
  stopped_at [] ys why h = let z : ◌≡◌ {A = ℕ} 0 1 = cc in absurd (omega arith)
  stopped_at (line ∷ xs) ys why h =
      stops_line line.0 line.1 (first_of xs) (first_of (xs ++ ys)) why (stopped_at xs ys why) h

  pub parts : (xs ys : Tests R) → first_of (xs ++ ys) ≡ None → (first_of xs ≡ None) × (first_of ys ≡ None)
  parts [] ys h = (refl, h)
  parts (line ∷ xs) ys h =
      let p = passes_line line.0 line.1 (first_of (xs ++ ys)) h in
      let q = parts xs ys p.1 in
      (ap (λ (t : Bool). cond t (Some line.1) (first_of xs)) p.0 ∙ q.0, q.1)
