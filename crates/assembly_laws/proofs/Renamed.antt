-- Rows and laws in other numbers, and what it takes for two renamings to agree on them.
use Rattle.std.proofs.Common.{length, ◌≡◌, ℕ, ◌<◌, List, [], ◌∷◌, ◌++◌, map, refl}
use Rattle.std.specs.List.{AllByRecursion}
use Rattle.netlist.specs.declared.rows.Row.{Row}
use Rattle.netlist.specs.declared.rows.Row.TheVariants.{Branch, Earth}
use Rattle.netlist.specs.Renaming.{Renaming, renamed_row}
use Rattle.netlist.specs.Netlist.{Netlist}
use Rattle.assembly.specs.Plans.{PlanRow}
use Rattle.layers.specs.declared.renumbering.Renumbering.{Renumbering}
use Rattle.layers.specs.Renumbered.{renaming_of, moved_row}
use Rattle.place.specs.Moved.{moving, moved_node as seated_node, moved_row as seated_row}
use Rattle.assembly_laws.proofs.Passing.{Names, Kept, RowKept}

-- where a plan that is placed goes on a netlist: behind all that it has
abbrev pub placed_node : Netlist → List ℕ → ℕ → ℕ
placed_node b given n = seated_node (length b.domains) given n

abbrev pub placed_row : Netlist → List ℕ → Row ℕ → Row ℕ
placed_row b given row = seated_row (length b.domains) b.variables given row

-- from a part to its layer, and from a plan to the netlist
abbrev pub in_layer : Renumbering → Renaming
in_layer r = renaming_of r

abbrev pub in_netlist : Netlist → List ℕ → Renaming
in_netlist b given = moving (length b.domains) b.variables given

abbrev pub then : Renaming → Renaming → Renaming
then f g = record { node = λ n. g.node (f.node n); variable = λ v. g.variable (f.variable v) }

twice_is : (f g : Renaming) (row : Row ℕ) → renamed_row g (renamed_row f row) ≡ renamed_row (then f g) row
twice_is f g (Branch flow across first second) = refl
twice_is f g (Earth flow across node) = refl

pub rows_moved : (r : Renumbering) (rows : List PlanRow) → map (moved_row r) rows ≡ map (renamed_row (in_layer r)) rows
rows_moved r rows = refl

pub rows_placed : (b : Netlist) (given : List ℕ) (rows : List (Row ℕ)) → map (placed_row b given) rows ≡ map (renamed_row (in_netlist b given)) rows
rows_placed b given rows = refl

pub rows_twice : (f g : Renaming) (rows : List (Row ℕ)) → map (renamed_row g) (map (renamed_row f) rows) ≡ map (renamed_row (then f g)) rows
rows_twice f g [] = refl
rows_twice f g (row ∷ rows) = (λ i. twice_is f g row i ∷ rows_twice f g rows i)

module _ {X : Type 0} where
  pub all_parts : (P : X → Type 0) (xs ys : List X) → AllByRecursion P (xs ++ ys) → AllByRecursion P xs × AllByRecursion P ys
  all_parts P [] ys h = (tt, h)
  all_parts P (x ∷ xs) ys h = let p = all_parts P xs ys h.1 in ((h.0, p.0), p.1)

  pub all_joined : (P : X → Type 0) (xs ys : List X) → AllByRecursion P xs → AllByRecursion P ys → AllByRecursion P (xs ++ ys)
  all_joined P [] ys h k = k
  all_joined P (x ∷ xs) ys h k = (h.0, all_joined P xs ys h.1 k)

  pub all_weaker : (P Q : X → Type 0) → ((x : X) → P x → Q x) → (xs : List X) → AllByRecursion P xs → AllByRecursion Q xs
  all_weaker P Q f [] h = tt
  all_weaker P Q f (x ∷ xs) h = (f x h.0, all_weaker P Q f xs h.1)

module _ {X Y : Type 0} (f : X → Y) where
  pub all_mapped : (P : Y → Type 0) (xs : List X) → AllByRecursion P (map f xs) → AllByRecursion (λ x. P (f x)) xs
  all_mapped P [] h = tt
  all_mapped P (x ∷ xs) h = (h.0, all_mapped P xs h.1)

  pub all_map : (P : Y → Type 0) (xs : List X) → AllByRecursion (λ x. P (f x)) xs → AllByRecursion P (map f xs)
  all_map P [] h = tt
  all_map P (x ∷ xs) h = (h.0, all_map P xs h.1)

  pub map_same : (g : X → Y) (P : X → Type 0) → ((x : X) → P x → f x ≡ g x) → (xs : List X) → AllByRecursion P xs → map f xs ≡ map g xs
  map_same g P e [] h = refl
  map_same g P e (x ∷ xs) h = (λ i. e x h.0 i ∷ map_same g P e xs h.1 i)

module _ (f : Renaming) (nodes n : ℕ) where
  -- renamings that agree on the nodes and variables of a plan make the same rows of those that name no others
  pub row_same : (g : Renaming) → ((k : ℕ) → k < nodes → f.node k ≡ g.node k) → ((v : ℕ) → v < n → f.variable v ≡ g.variable v) → (row : Row ℕ) → Names nodes n row → renamed_row f row ≡ renamed_row g row
  row_same g node variable (Branch flow across first second) h =
      (λ i. Branch (variable flow h.0 i) (variable across h.1 i) (node first h.2 i) (node second h.3 i))
  row_same g node variable (Earth flow across at) h = (λ i. Earth (variable flow h.0 i) (variable across h.1 i) (node at h.2 i))

  -- a row names what the plan has, if only that gets a number within bounds
  pub row_named : (nodes' n' : ℕ) → ((k : ℕ) → f.node k < nodes' → k < nodes) → ((v : ℕ) → f.variable v < n' → v < n) → (row : Row ℕ) → Names nodes' n' (renamed_row f row) → Names nodes n row
  row_named nodes' n' node variable (Branch flow across first second) h =
      (variable flow h.0, variable across h.1, node first h.2, node second h.3)
  row_named nodes' n' node variable (Earth flow across at) h = (variable flow h.0, variable across h.1, node at h.2)

  pub row_kept : (to : ℕ → ℕ) (domains other : List ℕ) (m : ℕ) → ((k : ℕ) → k < nodes → Kept to domains other (f.node k)) → ((v : ℕ) → v < n → f.variable v < m) → (row : Row ℕ) → Names nodes n row → RowKept to domains other m (renamed_row f row)
  row_kept to domains other m node variable (Branch flow across first second) h =
      (variable flow h.0, variable across h.1, node first h.2, node second h.3)
  row_kept to domains other m node variable (Earth flow across at) h = (variable flow h.0, variable across h.1, node at h.2)
