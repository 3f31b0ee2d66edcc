-- What the fields after a letter write, field by field.
use Rattle.std.proofs.Common.{◌≡◌, ℕ, ◌+◌, List, [], ◌∷◌, get_or, drop, ℤ, sym, refl, ap, ◌∙◌, subst, add-zero}
use Rattle.std.proofs.lemmas.List.{get_or-drop, drop-drop}
use Rattle.text.specs.declared.kinds.Kind.{Kind}
use Rattle.text.specs.declared.kinds.Kind.TheVariants.{Number, Coefficient}
use Rattle.text.specs.Grammar.{Bytes, Text, Matches, spaced}
use Rattle.text.specs.Decimal.{value_of_digits, value_of_signed}
use Rattle.commands.specs.Steps.{ReadsNumber, ReadsCoefficient}

-- what is left at s is the fields from the one at place k on, of these kinds
pub record Left (gs : List Bytes) (k : ℕ) (kinds : List Kind) (s : Bytes) : Type 0 where
  pub here : s ≡ spaced (drop k gs)
  pub kinds_are : Matches kinds (drop k gs)

pub left_all : (gs : List Bytes) (kinds : List Kind) (s : Bytes) → s ≡ spaced gs → Matches kinds gs → Left gs 0 kinds s
left_all gs kinds s here h = record { here = here; kinds_are = h }

-- a field of that kind and value is read, and the next is due
module _ {V : Type 0} (kind : Kind) (value : Bytes → V) where
  field_at : (gs : List Bytes) (k : ℕ) (kinds : List Kind) (s t : Bytes) (r : V) → ((g : Bytes) (hs : List Bytes) → s ≡ spaced (g ∷ hs) → Text kind g → (r ≡ value g) × (t ≡ spaced hs)) → Left gs k (kind ∷ kinds) s → (r ≡ value (get_or gs k [])) × Left gs (k + 1) kinds t
  field_at gs k kinds s t r read left = go (drop k gs) refl left.here left.kinds_are
    where
      go : (ds : List Bytes) → drop k gs ≡ ds → s ≡ spaced ds → Matches (kind ∷ kinds) ds → (r ≡ value (get_or gs k [])) × Left gs (k + 1) kinds t
      go [] is here h = absurd h
      go (f ∷ fs) is here h =
          let told = read f fs here h.0 in
          let first : f ≡ get_or gs k [] = ap (λ (ds : List Bytes). get_or ds 0 []) (sym is) ∙ get_or-drop k gs 0 [] ∙ ap (λ i. get_or gs i []) (add-zero k) in
          let others : fs ≡ drop (k + 1) gs = ap (drop 1) (sym is) ∙ drop-drop 1 k gs in
          (told.0 ∙ ap value first, record { here = told.1 ∙ ap spaced others; kinds_are = subst (Matches kinds) others h.1 })

pub number_at : (gs : List Bytes) (k : ℕ) (kinds : List Kind) (s t : Bytes) (r : ℕ) → ReadsNumber s r t → Left gs k (Number ∷ kinds) s → (r ≡ value_of_digits (get_or gs k [])) × Left gs (k + 1) kinds t
number_at = field_at Number value_of_digits

pub coefficient_at : (gs : List Bytes) (k : ℕ) (kinds : List Kind) (s t : Bytes) (r : ℤ) → ReadsCoefficient s r t → Left gs k (Coefficient ∷ kinds) s → (r ≡ value_of_signed (get_or gs k [])) × Left gs (k + 1) kinds t
coefficient_at = field_at Coefficient value_of_signed
