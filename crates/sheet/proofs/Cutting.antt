-- What is cut back keeps to what the whole kept to.
use Rattle.std.proofs.Common.{◌≡◌, ℕ, zero, suc, ◌+◌, ◌<◌, ◌≤◌, Bool, true, false, ◌&&◌, ltb, List, [], ◌∷◌, map, length, get_or, take, drop, min, sym, refl, ap, ◌∙◌, ⊎_elim, subst, arith}
use Rattle.std.specs.List.{list_all, sum}
use Rattle.std.proofs.lemmas.List.{take-map, take-append-drop, get_or-take, get_or_past, length-take, length-drop, drop-take, nil_from_length}
use Rattle.std.proofs.lemmas.List.Folds.{list_all-append}
use Rattle.std.proofs.lemmas.Bool.{and_parts, and_from, ltb-true, lt-ltb, eqb-true, eq-eqb, ne_eqb, cases_lt}
use Rattle.netlist.specs.declared.domains.Domain.{Domain}
use Rattle.netlist.specs.declared.rows.Row.{Row}
use Rattle.netlist.specs.declared.rows.Row.TheVariants.{Branch, Earth}
use Rattle.netlist.specs.declared.spans.Span.{Span}
use Rattle.netlist.specs.declared.terms.Term.{Term}
use Rattle.netlist.specs.Domains.{domain_number}
use Rattle.netlist.specs.Flags.{Marked}
use Rattle.netlist.specs.Pieces.{pieces}
use Rattle.netlist.specs.Rows.{bit, uses, flow_of, across_of, stands_on}
use Rattle.netlist.specs.Sound.{joins, names}
use Rattle.netlist.proofs.Cuts.{sum_cons}
use Rattle.sheet.specs.Steps.{has_only}
use Rattle.sheet.specs.Tiling.{lengths}
use Rattle.sheet.proofs.Tiling.{Tiles, tiles_sum, tiles_take}

pub take_again : {X : Type 0} (n m : ℕ) (xs : List X) → n ≤ m → take n (take m xs) ≡ take n xs
take_again zero m xs h = refl
take_again (suc n) zero xs h = absurd (omega arith)
take_again (suc n) (suc m) [] h = refl
take_again (suc n) (suc m) (x ∷ xs) h = ap (λ ys. x ∷ ys) (take_again n m xs (omega arith))

-- the first pieces of a table need only its front
pub pieces_take : {X : Type 0} (k : ℕ) (ns : List ℕ) (ts : List X) → pieces (take k ns) (take (sum (take k ns)) ts) ≡ take k (pieces ns ts)
pieces_take zero ns ts = refl
pieces_take (suc k) [] ts = refl
pieces_take {X} (suc k) (n ∷ ns) ts =
    let all = sum_cons n (take k ns) in
    (λ i. take n (take (all i) ts) ∷ pieces (take k ns) (drop n (take (all i) ts)))
    ∙ (λ i. take_again n (n + sum (take k ns)) ts (omega arith) i ∷ pieces (take k ns) (drop-take n (sum (take k ns)) ts i))
    ∙ ap (λ (ps : List (List X)). take n ts ∷ ps) (pieces_take k ns (drop n ts))

-- the first laws of a table, cut off where the next law begins
pub laws_cut : (spans : List Span) (ts : List Term) (end k : ℕ) (d : Span) → Tiles 0 spans end → k < length spans → pieces (lengths (take k spans)) (take (get_or spans k d).offset ts) ≡ take k (pieces (lengths spans) ts)
laws_cut spans ts end k d h l =
    let cut : lengths (take k spans) ≡ take k (lengths spans) = sym (take-map (λ (s : Span). s.length) k spans) in
    let front : (get_or spans k d).offset ≡ sum (take k (lengths spans)) =
    omega (arith, tiles_sum 0 (take k spans) _ (tiles_take 0 spans end k d h l), ap sum cut) in
    (λ i. pieces (cut i) (take (front i) ts)) ∙ pieces_take k (lengths spans) ts

-- what holds of all pieces of a table
pub all_pieces : {X : Type 0} (p : X → Bool) (ns : List ℕ) (ts : List X) → sum ns ≡ length ts → list_all (list_all p) (pieces ns ts) ≡ list_all p ts
all_pieces p [] ts h = ap (list_all p) (sym (nil_from_length ts (sym h)))
all_pieces p (n ∷ ns) ts h =
    let rest : sum ns ≡ length (drop n ts) = omega (arith, sum_cons n ns, length-drop n ts) in
    ap (λ (b : Bool). list_all p (take n ts) && b) (all_pieces p ns (drop n ts) rest)
    ∙ sym (list_all-append p (take n ts) (drop n ts))
    ∙ ap (list_all p) (take-append-drop n ts)

-- no row has a variable from n on
unused : (n v : ℕ) (rows : List (Row ℕ)) → list_all (has_only n) rows ≡ true → n ≤ v → uses rows v ≡ 0
unused n v [] h l = refl
unused n v (row ∷ rows) h l =
    let p = and_parts (has_only n row) (list_all (has_only n) rows) h in
    let q = and_parts (ltb (flow_of row) n) (ltb (across_of row) n) p.0 in
    let flow : flow_of row < n = ltb-true _ _ q.0 in
    let across : across_of row < n = ltb-true _ _ q.1 in
    let f = ap bit (ne_eqb (flow_of row) v (λ e. omega arith)) in
    let a = ap bit (ne_eqb (across_of row) v (λ e. omega arith)) in
    omega (arith, unused n v rows p.1 l)

-- so the flags of the others are right without those
pub marked_cut : (n : ℕ) (taken : List Bool) (rows : List (Row ℕ)) → list_all (has_only n) rows ≡ true → Marked taken rows → Marked (take n taken) rows
marked_cut n taken rows h marked v =
    ⊎_elim (λ (l : v < n). marked v ∙ ap bit (sym (get_or-take n taken v false l)))
    (λ (l : n ≤ v). let long = length-take n taken in unused n v rows h l ∙ ap bit (sym (get_or_past (take n taken) v false (omega arith))))
    (cases_lt v n)

pub named_cut : (n m : ℕ) (ts : List Term) → list_all (names n) ts ≡ true → list_all (names m) ts ≡ true → list_all (names (min n m)) ts ≡ true
named_cut n m ts h k =
    ⊎_elim (λ (l : n < m). let e : n ≡ min n m = omega arith in subst (λ (j : ℕ). list_all (names j) ts ≡ true) e h)
    (λ (l : m ≤ n). let e : m ≡ min n m = omega arith in subst (λ (j : ℕ). list_all (names j) ts ≡ true) e k)
    (cases_lt n m)

pub domains_cut : (n : ℕ) (ds : List Domain) → map domain_number (take n ds) ≡ take n (map domain_number ds)
domains_cut n ds = sym (take-map domain_number n ds)

-- rows that stand on the first n nodes alone join nodes among these
joins_cut : (n : ℕ) (ds : List ℕ) (row : Row ℕ) → stands_on n row ≡ true → joins ds row ≡ true → joins (take n ds) row ≡ true
joins_cut n ds (Branch flow across first second) h k =
    let p = and_parts (ltb first n) (ltb second n) h in
    let q = and_parts (ltb first (length ds)) _ k in
    let r = and_parts (ltb second (length ds)) _ q.1 in
    let long = length-take n ds in
    let one : first < n = ltb-true _ _ p.0 in
    let two : second < n = ltb-true _ _ p.1 in
    let one-drawn : first < length ds = ltb-true _ _ q.0 in
    let two-drawn : second < length ds = ltb-true _ _ r.0 in
    and_from _ _ (lt-ltb first _ (omega arith))
    (and_from _ _ (lt-ltb second _ (omega arith))
    (eq-eqb _ _ (get_or-take n ds first 0 one ∙ eqb-true _ _ r.1 ∙ sym (get_or-take n ds second 0 two))))
joins_cut n ds (Earth flow across node) h k =
    let long = length-take n ds in
    let one : node < n = ltb-true _ _ h in
    let drawn : node < length ds = ltb-true _ _ k in
    lt-ltb node _ (omega arith)

pub all_join_cut : (n : ℕ) (ds : List ℕ) (rows : List (Row ℕ)) → list_all (stands_on n) rows ≡ true → list_all (joins ds) rows ≡ true → list_all (joins (take n ds)) rows ≡ true
all_join_cut n ds [] h k = refl
all_join_cut n ds (row ∷ rows) h k =
    let p = and_parts (stands_on n row) (list_all (stands_on n) rows) h in
    let q = and_parts (joins ds row) (list_all (joins ds) rows) k in
    and_from _ _ (joins_cut n ds row p.0 q.0) (all_join_cut n ds rows p.1 q.1)
