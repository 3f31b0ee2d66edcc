-- A table cut into pieces, and put together again.
use Rattle.std.proofs.Common.{◌≡◌, ℕ, ◌+◌, ◌≤◌, List, [], ◌∷◌, ◌++◌, length, take, drop, sym, refl, ap, ◌∙◌, arith}
use Rattle.std.proofs.lemmas.List.{length-take-le, length-drop, take-append-le, drop-append-le, take_all, nil_from_length}
use Rattle.netlist.specs.Netlist.{term_count}
use Rattle.std.specs.List.{sum}
use Rattle.std.proofs.lemmas.List.Sums.{sum_by-cons, sum_by-append}
use Rattle.netlist.specs.Pieces.{pieces}

pub sum_cons : (n : ℕ) (ns : List ℕ) → sum (n ∷ ns) ≡ n + sum ns
sum_cons n ns = sum_by-cons (λ m. m) n ns

pub length_pieces : {X : Type 0} (ns : List ℕ) (ts : List X) → length (pieces ns ts) ≡ length ns
length_pieces [] ts = refl
length_pieces (n ∷ ns) ts = omega (arith, length_pieces ns (drop n ts))

pub count_pieces : {X : Type 0} (ns : List ℕ) (ts : List X) → sum ns ≡ length ts → term_count (pieces ns ts) ≡ length ts
count_pieces [] ts h = h
count_pieces (n ∷ ns) ts h =
    let left = length-drop n ts in
    let rest : sum ns ≡ length (drop n ts) = omega (arith, sum_cons n ns) in
    let front : length (take n ts) ≡ n = length-take-le n ts (omega (arith, sum_cons n ns)) in
    omega (arith, sum_cons n ns, count_pieces ns (drop n ts) rest)

-- a piece more
pub pieces_push : {X : Type 0} (ns : List ℕ) (ts new : List X) → sum ns ≡ length ts → pieces (ns ++ length new ∷ []) (ts ++ new) ≡ pieces ns ts ++ new ∷ []
pieces_push {X} [] ts new h =
    let none : ts ≡ [] = nil_from_length ts (sym h) in
    ap (λ (xs : List X). take (length new) (xs ++ new) ∷ []) none ∙ ap (λ (xs : List X). xs ∷ []) (take_all (length new) new (omega arith))
pieces_push {X} (n ∷ ns) ts new h =
    let left = length-drop n ts in
    let rest : sum ns ≡ length (drop n ts) = omega (arith, sum_cons n ns) in
    let fits : n ≤ length ts = omega (arith, sum_cons n ns) in
    let front = take-append-le n ts new fits in
    let back = drop-append-le n ts new fits in
    (λ i. front i ∷ pieces (ns ++ length new ∷ []) (back i)) ∙ ap (λ (ps : List (List X)). take n ts ∷ ps) (pieces_push ns (drop n ts) new rest)
