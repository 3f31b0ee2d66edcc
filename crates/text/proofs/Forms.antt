-- Groups of fields as slots, and from the lines of one form to all lines.
use Rattle.std.proofs.Common.{◌≡◌, ℕ, zero, suc, ◌-◌, ◌<◌, ◌≤◌, false, List, [], ◌∷◌, ◌++◌, length, get_or, take, sym, refl, subst, arith}
use Rattle.text.specs.declared.kinds.Kind.{Kind}
use Rattle.text.specs.Grammar.{Bytes, Matches, Grouped, groups, form, Rest, Allowed, kinds_repeated}
use Rattle.text.specs.Faults.{Begins, FaultAt}
use Rattle.text.specs.Scan.{Fits, marked, layout, Laid, no_kinds, FieldsFor}

-- K is a group of at least one field
module _ (k₀ : Kind) (K₀ : List Kind) where
  abbrev K : List Kind
  K = k₀ ∷ K₀

  fits_in : (ks : List Kind) (n : ℕ) (fs : List Bytes) → Fits (no_kinds ks) (marked ks (layout K n)) fs → (j : ℕ) × (j ≤ n) × Matches (ks ++ kinds_repeated j K) fs
  fits_in [] n [] h = (0, omega arith, tt)
  fits_in [] zero (f ∷ fs) h = absurd h
  fits_in [] (suc n) (f ∷ fs) h = let r = fits_in K₀ n fs h.1 in let l = r.1 in (suc r.0, omega arith, (h.0, r.2))
  fits_in (k ∷ ks) n [] h = let z : ◌≡◌ {A = ℕ} 0 1 = cc in absurd (omega arith)
  fits_in (k ∷ ks) n (f ∷ fs) h = let r = fits_in ks n fs h.1 in (r.0, r.1, (h.0, r.2))

  fits_out : (ks : List Kind) (n : ℕ) (fs : List Bytes) (j : ℕ) → j ≤ n → Matches (ks ++ kinds_repeated j K) fs → Fits (no_kinds ks) (marked ks (layout K n)) fs
  fits_out [] n [] zero l h = refl
  fits_out [] n (f ∷ fs) zero l h = absurd h
  fits_out [] n [] (suc j) l h = absurd h
  fits_out [] zero (f ∷ fs) (suc j) l h = absurd (omega arith)
  fits_out [] (suc n) (f ∷ fs) (suc j) l h = (h.0, fits_out K₀ n fs j (omega arith) h.1)
  fits_out (k ∷ ks) n [] j l h = absurd h
  fits_out (k ∷ ks) n (f ∷ fs) j l h = (h.0, fits_out ks n fs j l h.1)

  pub row_grouped : (n : ℕ) (bs : Bytes) → FieldsFor (layout K n) bs → Grouped K n bs
  row_grouped zero bs r = absurd (empty r.0 r.2)
    where
      empty : (fs : List Bytes) → Fits false [] fs → ⊥
      empty [] h = let z : ◌≡◌ {A = ℕ} 0 1 = cc in omega arith
      empty (f ∷ fs) h = h
  row_grouped (suc n) bs r = let g = fits_in K n r.0 r.2 in let l = g.1 in (suc g.0, r.0, omega arith, omega arith, g.2, r.1)

  pub grouped_row : (n : ℕ) (bs : Bytes) → Grouped K n bs → FieldsFor (layout K n) bs
  grouped_row n bs g = go n g.0 g.2 g.3 g.4
    where
      go : (n m : ℕ) → 1 ≤ m → m ≤ n → Matches (kinds_repeated m K) g.1 → FieldsFor (layout K n) bs
      go n zero some l h = absurd (omega arith)
      go zero (suc m) some l h = absurd (omega arith)
      go (suc n) (suc m) some l h = (g.1, g.5, fits_out K n g.1 m (omega arith) h)

  pub allowed_form : (line : Bytes) (n : ℕ) → form (get_or line 0 0) ≡ groups K n → Laid (layout K n) line → Allowed line
  allowed_form [] n is h = absurd h
  allowed_form (c ∷ bs) n is h = subst (λ F. Rest F bs) (sym is) (row_grouped n bs h)

  pub fault_form : (line : Bytes) (n column : ℕ) → form (get_or line 0 0) ≡ groups K n → 1 < column → FaultAt (Laid (layout K n)) line column → FaultAt Allowed line column
  fault_form [] n column is h f = let w = f.within in absurd (omega arith)
  fault_form (c ∷ bs) n zero is h f = absurd (omega arith)
  fault_form (c ∷ bs) n (suc zero) is h f = absurd (omega arith)
  fault_form (c ∷ bs) n (suc (suc m)) is h f =
      let back : suc (suc m) - 1 ≡ suc m = omega arith in
      let in-to : (x : Bytes) → Rest (form c) x → FieldsFor (layout K n) x = λ x g. grouped_row n x (subst (λ F. Rest F x) is g) in
      let out : (x : Bytes) → FieldsFor (layout K n) x → Rest (form c) x = λ x g. subst (λ F. Rest F x) (sym is) (row_grouped n x g) in
      let b : Begins (Laid (layout K n)) (c ∷ take m bs) = subst (λ k. Begins (Laid (layout K n)) (take k (c ∷ bs))) back f.begins in
      let b' : Begins Allowed (take (suc m) (c ∷ bs)) = (b.0, out (take m bs ++ b.0) b.1) in
      record {
        first = f.first;
        within = f.within;
        begins = subst (λ k. Begins Allowed (take k (c ∷ bs))) (sym back) b';
        stops = λ l g. f.stops l (g.0, in-to (take (suc m) bs ++ g.0) g.1);
        refused = λ g. f.refused (in-to bs g);
      }

pub allowed_any : (ks : List Kind) (line : Bytes) (n : ℕ) → 1 ≤ length ks → form (get_or line 0 0) ≡ groups ks n → Laid (layout ks n) line → Allowed line
allowed_any [] line n some is h = absurd (omega arith)
allowed_any (k ∷ ks) line n some is h = allowed_form k ks line n is h

pub fault_any : (ks : List Kind) (line : Bytes) (n column : ℕ) → 1 ≤ length ks → form (get_or line 0 0) ≡ groups ks n → 1 < column → FaultAt (Laid (layout ks n)) line column → FaultAt Allowed line column
fault_any [] line n column some is h f = absurd (omega arith)
fault_any (k ∷ ks) line n column some is h f = fault_form k ks line n column is h f
