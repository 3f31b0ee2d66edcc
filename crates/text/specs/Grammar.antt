-- The lines that a sheet text may have.
use Rattle.std.specs.Prelude.{◌≡◌, ℕ, zero, suc, ◌≤◌, cond, ◌⊎◌, List, [], ◌∷◌, ◌++◌, length, ◌==◌}
use Rattle.netlist.specs.Limits.{most_terms_of_law}
use Rattle.text.specs.declared.kinds.Kind.{Kind}
use Rattle.text.specs.declared.kinds.Kind.TheVariants.{Number, Coefficient}
use Rattle.text.specs.Limits.{most_digits}

abbrev pub Bytes : Type 0
Bytes = List ℕ

abbrev pub Digit : ℕ → Type 0
Digit b = (48 ≤ b) × (b ≤ 57)

abbrev pub Digits : Bytes → Type 0
Digits [] = Unit {0}
Digits (b ∷ bs) = Digit b × Digits bs

-- digits, as many as a field may have
pub record Plain (f : Bytes) : Type 0 where
  pub digits : Digits f
  pub some : 1 ≤ length f
  pub short : length f ≤ most_digits

-- in front of a coefficient a minus may stand
abbrev pub Text : Kind → Bytes → Type 0
Text Number f = Plain f
Text Coefficient f = Plain f ⊎ ((g : Bytes) × (f ≡ 45 ∷ g) × Plain g)

-- the fields, each with a blank in front
abbrev pub spaced : List Bytes → Bytes
spaced [] = []
spaced (f ∷ fs) = 32 ∷ (f ++ spaced fs)

-- each field is of its kind
abbrev pub Matches : List Kind → List Bytes → Type 0
Matches [] [] = Unit {0}
Matches [] (f ∷ fs) = ⊥
Matches (k ∷ ks) [] = ⊥
Matches (k ∷ ks) (f ∷ fs) = Text k f × Matches ks fs

-- the kinds so many times
abbrev pub kinds_repeated : ℕ → List Kind → List Kind
kinds_repeated zero ks = []
kinds_repeated (suc n) ks = ks ++ kinds_repeated n ks

-- what may follow a line's first byte
pub data Form : Type 0 where
  groups : List Kind → ℕ → Form  -- one to so many groups of fields of these kinds
  anything : Form
  nothing : Form

-- a domain, or how many variables
abbrev pub value_kinds : List Kind
value_kinds = Number ∷ []

-- a flow, an across and two nodes
abbrev pub branch_kinds : List Kind
branch_kinds = Number ∷ Number ∷ Number ∷ Number ∷ []

-- a flow, an across and a node
abbrev pub earth_kinds : List Kind
earth_kinds = Number ∷ Number ∷ Number ∷ []

-- a coefficient, an order and a variable
abbrev pub term_kinds : List Kind
term_kinds = Coefficient ∷ Number ∷ Number ∷ []

-- a domain, four coefficients, how many singles, and two nodes
abbrev pub repeat_kinds : List Kind
repeat_kinds = Number ∷ Coefficient ∷ Coefficient ∷ Coefficient ∷ Coefficient ∷ Number ∷ Number ∷ Number ∷ []

abbrev pub form : ℕ → Form
form c =
    cond (c == 78) (groups value_kinds 1)  -- N
    (cond (c == 86) (groups value_kinds 1)  -- V
    (cond (c == 66) (groups branch_kinds 1)  -- B
    (cond (c == 69) (groups earth_kinds 1)  -- E
    (cond (c == 76) (groups term_kinds most_terms_of_law)  -- L
    (cond (c == 67) (groups repeat_kinds 1)  -- C
    (cond (c == 35) anything nothing))))))  -- #

-- one to n groups of fields of these kinds
abbrev pub Grouped : List Kind → ℕ → Bytes → Type 0
Grouped ks n bs = (m : ℕ) × (fs : List Bytes) × (1 ≤ m) × (m ≤ n) × Matches (kinds_repeated m ks) fs × (bs ≡ spaced fs)

abbrev pub Rest : Form → Bytes → Type 0
Rest (groups ks n) bs = Grouped ks n bs
Rest anything bs = Unit {0}
Rest nothing bs = ⊥

abbrev pub Allowed : Bytes → Type 0
Allowed [] = Unit {0}
Allowed (c ∷ bs) = Rest (form c) bs
