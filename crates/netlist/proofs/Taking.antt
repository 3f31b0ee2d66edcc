-- Which variables the rows have, and what the flags say of it.
use Rattle.std.proofs.Common.{◌≡◌, ℕ, ◌+◌, ◌<◌, ◌≤◌, Bool, true, false, eqb, List, [], ◌∷◌, ◌++◌, length, get_or, set, sym, ap, ◌∙◌, ⊎_elim, arith}
use Rattle.std.proofs.lemmas.List.{length_push, get_or_append_left, get_or-set_same, get_or-set_other, length-set, get_or_past, get_or_push}
use Rattle.std.proofs.lemmas.Bool.{eq-eqb, ne_eqb, cases_eq, cases_lt}
use Rattle.netlist.specs.declared.rows.Row.{Row}
use Rattle.netlist.specs.Flags.{Marked, raised}
use Rattle.netlist.specs.Rows.{bit, hits, uses, flow_of, across_of}

pub uses_push : (rows : List (Row ℕ)) (row : Row ℕ) (v : ℕ) → uses (rows ++ row ∷ []) v ≡ uses rows v + hits row v
uses_push [] row v = omega arith
uses_push (r ∷ rows) row v = omega (arith, uses_push rows row v)

-- a variable more, that no row uses
flag_push : (taken : List Bool) (v : ℕ) → get_or (taken ++ false ∷ []) v false ≡ get_or taken v false
flag_push taken v =
    ⊎_elim (λ h. get_or_append_left taken (false ∷ []) false v h)
    (λ h. ⊎_elim
    (λ e. get_or_push taken false false v (sym e) ∙ sym (get_or_past taken v false h))
    (λ n. let long = length_push taken false in get_or_past (taken ++ false ∷ []) v false (omega arith) ∙ sym (get_or_past taken v false h))
    (cases_eq v (length taken)))
    (cases_lt v (length taken))

pub marked_variable : (taken : List Bool) (rows : List (Row ℕ)) → Marked taken rows → Marked (taken ++ false ∷ []) rows
marked_variable taken rows h v = h v ∙ ap bit (sym (flag_push taken v))

-- a row more, of two variables that no row uses
pub marked_row : (taken : List Bool) (rows : List (Row ℕ)) (row : Row ℕ) → flow_of row < length taken → across_of row < length taken → (across_of row ≡ flow_of row → ⊥) → uses rows (flow_of row) ≡ 0 → uses rows (across_of row) ≡ 0 → Marked taken rows → Marked (raised taken row) (rows ++ row ∷ [])
marked_row taken rows row fl al apart fu au h v =
    let pushed = uses_push rows row v in
    let long = length-set taken (flow_of row) true in
    ⊎_elim
    (λ (e : v ≡ across_of row).
    let flag : get_or (set (set taken (flow_of row) true) (across_of row) true) v false ≡ true = ap (λ k. get_or (set (set taken (flow_of row) true) (across_of row) true) k false) e ∙ get_or-set_same _ (across_of row) true false (omega arith) in
    let f = ne_eqb (flow_of row) v (λ k. apart (sym e ∙ sym k)) in
    let a = eq-eqb (across_of row) v (sym e) in
    let none = ap (uses rows) e ∙ au in
    pushed ∙ ap (λ n. n + hits row v) none ∙ ap (λ b. 0 + (bit b + bit (eqb (across_of row) v))) f ∙ ap (λ b. 0 + (bit false + bit b)) a ∙ ap bit (sym flag))
    (λ not-across. ⊎_elim
    (λ (e : v ≡ flow_of row).
    let flag : get_or (set (set taken (flow_of row) true) (across_of row) true) v false ≡ true =
    get_or-set_other _ (across_of row) v true false not-across ∙ ap (λ k. get_or (set taken (flow_of row) true) k false) e ∙ get_or-set_same taken (flow_of row) true false fl in
    let f = eq-eqb (flow_of row) v (sym e) in
    let a = ne_eqb (across_of row) v (λ k. not-across (sym k)) in
    let none = ap (uses rows) e ∙ fu in
    pushed ∙ ap (λ n. n + hits row v) none ∙ ap (λ b. 0 + (bit b + bit (eqb (across_of row) v))) f ∙ ap (λ b. 0 + (bit true + bit b)) a ∙ ap bit (sym flag))
    (λ not-flow.
    let flag = get_or-set_other (set taken (flow_of row) true) (across_of row) v true false not-across ∙ get_or-set_other taken (flow_of row) v true false not-flow in
    let f = ne_eqb (flow_of row) v (λ k. not-flow (sym k)) in
    let a = ne_eqb (across_of row) v (λ k. not-across (sym k)) in
    pushed ∙ ap (λ b. uses rows v + (bit b + bit (eqb (across_of row) v))) f ∙ ap (λ b. uses rows v + (bit false + bit b)) a ∙ omega arith ∙ h v ∙ ap bit (sym flag))
    (cases_eq v (flow_of row)))
    (cases_eq v (across_of row))

-- what the flags say of the rows
bit_le : (b : Bool) → bit b ≤ 1
bit_le true = omega arith
bit_le false = omega arith

pub marked_once : (taken : List Bool) (rows : List (Row ℕ)) → Marked taken rows → (v : ℕ) → uses rows v ≤ 1
marked_once taken rows h v = omega (arith, h v, bit_le (get_or taken v false))

pub marked_drawn : (taken : List Bool) (rows : List (Row ℕ)) → Marked taken rows → (v : ℕ) → length taken ≤ v → uses rows v ≡ 0
marked_drawn taken rows h v l = h v ∙ ap bit (get_or_past taken v false l)
