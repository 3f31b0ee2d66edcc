-- Variables that are drawn together.
use Rattle.std.proofs.Common.{◌≡◌, ℕ, zero, suc, ◌≤◌, Bool, true, false, List, [], ◌∷◌, ◌++◌, sym, subst, arith, replicate}
use Rattle.std.proofs.lemmas.List.{append-nil, append_assoc}
use Rattle.std.proofs.lemmas.Bool.{ltb-true, lt-ltb}
use Rattle.netlist.specs.declared.rows.Row.{Row}
use Rattle.netlist.specs.declared.terms.Term.{Term}
use Rattle.netlist.specs.Flags.{Marked}
use Rattle.netlist.specs.Sound.{names}
use Rattle.std.specs.List.{list_all}
use Rattle.netlist.proofs.Every.{every_weaker}
use Rattle.netlist.proofs.Taking.{marked_variable}

-- no row has them
pub marked_more : (n : ℕ) (taken : List Bool) (rows : List (Row ℕ)) → Marked taken rows → Marked (taken ++ replicate n false) rows
marked_more zero taken rows h = subst (λ (flags : List Bool). Marked flags rows) (sym (append-nil taken)) h
marked_more (suc n) taken rows h =
    subst (λ (flags : List Bool). Marked flags rows) (append_assoc taken (false ∷ []) (replicate n false))
    (marked_more n (taken ++ false ∷ []) rows (marked_variable taken rows h))

-- and what names a variable still does
pub named_more : (m n : ℕ) (ts : List Term) → m ≤ n → list_all (names m) ts ≡ true → list_all (names n) ts ≡ true
named_more m n ts le h = every_weaker (names m) (names n) (λ t k. lt-ltb t.variable n (omega (arith, ltb-true t.variable m k))) ts h
