-- Rows that pass their tables in turn, also where their nodes have other numbers.
use Rattle.std.proofs.Common.{◌≡◌, ℕ, ◌+◌, ◌<◌, Bool, false, cond, not, eqb, ltb, List, [], ◌∷◌, ◌++◌, map, length, get_or, Some, None, Option, sym, refl, ap, ◌∙◌, subst, arith}
use Rattle.std.specs.List.{AllByRecursion}
use Rattle.std.specs.Option.{option_map, option_or}
use Rattle.std.proofs.lemmas.Bool.{leb-false, lt-leb}
use Rattle.draft.specs.declared.refusals.DraftRefusal.{DraftRefusal}
use Rattle.plan_judging.specs.declared.refusals.PlaceRefusal.{PlaceRefusal}
use Rattle.plan_judging.specs.declared.refusals.PlaceRefusal.TheVariants.{Row as RowRefused}
use Rattle.netlist.specs.declared.rows.Row.{Row}
use Rattle.netlist.specs.declared.rows.Row.TheVariants.{Branch, Earth}
use Rattle.netlist.specs.Renaming.{renamed_row}
use Rattle.netlist.specs.Netlist.{Netlist, with_rows}
use Rattle.netlist.specs.Rows.{hits, uses}
use Rattle.draft.specs.Rules.{row_tests, table_row}
use Rattle.refusal.specs.Tests.{Tests, first_of}
use Rattle.refusal.proofs.Tables.{passes}
use Rattle.netlist.proofs.Taking.{uses_push}
use Rattle.plan_judging.specs.Alone.{judge_rows}
use Rattle.assembly_laws.specs.ButNodes.{nodes_only}

-- nothing refused by either
pub neither : {X : Type 0} (x y : Option X) → option_or x y ≡ None → (x ≡ None) × (y ≡ None)
neither None y h = (refl, h)
neither (Some a) y h = absurd (cc)

pub unmapped : {X Y : Type 0} (f : X → Y) (o : Option X) → option_map f o ≡ None → o ≡ None
unmapped f None h = refl
unmapped f (Some a) h = absurd (cc)

pub all_pass : {R : Type 0} (lines : Tests R) → AllByRecursion (λ line. line.0 ≡ false) lines → first_of lines ≡ None
all_pass [] h = refl
all_pass (line ∷ rest) h = ap (λ (t : Bool). cond t (Some line.1) (first_of rest)) h.0 ∙ all_pass rest h.1

-- The rows pass in turn, on nodes of these domains and variables 0 to n - 1, used so often before them.
abbrev pub Passing : List ℕ → ℕ → (ℕ → ℕ) → List (Row ℕ) → Type 0
Passing domains n used [] = Unit {0}
Passing domains n used (row ∷ rows) =
    (first_of (row_tests domains n (λ v. ltb 0 (used v)) row) ≡ None) × Passing domains n (λ v. used v + hits row v) rows

pub passing_from : (w : Netlist) (k : ℕ) (rows : List (Row ℕ)) → judge_rows w k rows ≡ None → Passing w.domains w.variables (uses w.rows) rows
passing_from w k [] h = tt
passing_from w k (row ∷ rows) h =
    let why : DraftRefusal → PlaceRefusal = λ why. RowRefused k why in
    let p = neither (option_map why (first_of (table_row w row))) (judge_rows (with_rows w (row ∷ [])) (k + 1) rows) h in
    let rest = passing_from (with_rows w (row ∷ [])) (k + 1) rows p.1 in
    (unmapped why _ p.0, subst (λ u. Passing w.domains w.variables u rows) (λ i v. uses_push w.rows row v i) rest)

pub passing_judged : (w : Netlist) (k : ℕ) (rows : List (Row ℕ)) → Passing w.domains w.variables (uses w.rows) rows → judge_rows w k rows ≡ None
passing_judged w k [] h = refl
passing_judged w k (row ∷ rows) h =
    let why : DraftRefusal → PlaceRefusal = λ why. RowRefused k why in
    let next = with_rows w (row ∷ []) in
    let rest = subst (λ u. Passing w.domains w.variables u rows) (λ i v. sym (uses_push w.rows row v) i) h.1 in
    ap (λ (o : Option DraftRefusal). option_or (option_map why o) (judge_rows next (k + 1) rows)) h.0 ∙ passing_judged next (k + 1) rows rest

pub passing_parts : (domains : List ℕ) (n : ℕ) (used : ℕ → ℕ) (xs ys : List (Row ℕ)) → Passing domains n used (xs ++ ys) → Passing domains n used xs × Passing domains n (λ v. used v + uses xs v) ys
passing_parts domains n used [] ys h =
    let none : (v : ℕ) → used v ≡ used v + 0 = λ v. omega arith in
    (tt, subst (λ u. Passing domains n u ys) (λ i v. none v i) h)
passing_parts domains n used (x ∷ xs) ys h =
    let p = passing_parts domains n (λ v. used v + hits x v) xs ys h.1 in
    let same : (v : ℕ) → used v + hits x v + uses xs v ≡ used v + (hits x v + uses xs v) = λ v. omega arith in
    ((h.0, p.0), subst (λ u. Passing domains n u ys) (λ i v. same v i) p.1)

pub passing_joined : (domains : List ℕ) (n : ℕ) (used : ℕ → ℕ) (xs ys : List (Row ℕ)) → Passing domains n used xs → Passing domains n (λ v. used v + uses xs v) ys → Passing domains n used (xs ++ ys)
passing_joined domains n used [] ys h k =
    let none : (v : ℕ) → used v + 0 ≡ used v = λ v. omega arith in
    subst (λ u. Passing domains n u ys) (λ i v. none v i) k
passing_joined domains n used (x ∷ xs) ys h k =
    let same : (v : ℕ) → used v + (hits x v + uses xs v) ≡ used v + hits x v + uses xs v = λ v. omega arith in
    (h.0, passing_joined domains n (λ v. used v + hits x v) xs ys h.1 (subst (λ u. Passing domains n u ys) (λ i v. same v i) k))

-- what the rows name is drawn
abbrev pub Names : ℕ → ℕ → Row ℕ → Type 0
Names nodes n (Branch flow across first second) = (flow < n) × (across < n) × (first < nodes) × (second < nodes)
Names nodes n (Earth flow across node) = (flow < n) × (across < n) × (node < nodes)

passing_row : (domains : List ℕ) (n : ℕ) (taken : ℕ → Bool) (row : Row ℕ) → first_of (row_tests domains n taken row) ≡ None → Names (length domains) n row
passing_row domains n taken (Branch flow across first second) h =
    let t = passes (row_tests domains n taken (Branch flow across first second)) h in
    (leb-false _ _ t.1.1.0, leb-false _ _ t.1.1.1.0, leb-false _ _ t.0, leb-false _ _ t.1.0)
passing_row domains n taken (Earth flow across node) h =
    let t = passes (row_tests domains n taken (Earth flow across node)) h in
    (leb-false _ _ t.1.0, leb-false _ _ t.1.1.0, leb-false _ _ t.0)

pub passing_names : (domains : List ℕ) (n : ℕ) (used : ℕ → ℕ) (rows : List (Row ℕ)) → Passing domains n used rows → AllByRecursion (Names (length domains) n) rows
passing_names domains n used [] h = tt
passing_names domains n used (row ∷ rows) h = (passing_row domains n _ row h.0, passing_names domains n (λ v. used v + hits row v) rows h.1)

-- Node n of the one is drawn in the other as node `to n`, with the same domain.
abbrev pub Kept : (ℕ → ℕ) → List ℕ → List ℕ → ℕ → Type 0
Kept to domains other n = (to n < length other) × (get_or other (to n) 0 ≡ get_or domains n 0)

abbrev pub RowKept : (ℕ → ℕ) → List ℕ → List ℕ → ℕ → Row ℕ → Type 0
RowKept to domains other m (Branch flow across first second) =
    (flow < m) × (across < m) × Kept to domains other first × Kept to domains other second
RowKept to domains other m (Earth flow across node) = (flow < m) × (across < m) × Kept to domains other node

row_still : (to : ℕ → ℕ) (domains other : List ℕ) (n m : ℕ) (taken : ℕ → Bool) (row : Row ℕ) → first_of (row_tests domains n taken row) ≡ None → RowKept to domains other m row → first_of (row_tests other m taken (renamed_row (nodes_only to) row)) ≡ None
row_still to domains other n m taken (Branch flow across first second) h k =
    let t = passes (row_tests domains n taken (Branch flow across first second)) h in
    let apart : not (eqb (get_or other (to first) 0) (get_or other (to second) 0)) ≡ false = (λ i. not (eqb (k.2.1 i) (k.3.1 i))) ∙ t.1.1.1.1.1.1.0 in
    all_pass (row_tests other m taken (Branch flow across (to first) (to second)))
    (lt-leb _ _ k.2.0, (lt-leb _ _ k.3.0, (lt-leb _ _ k.0, (lt-leb _ _ k.1, (t.1.1.1.1.0, (t.1.1.1.1.1.0, (apart, tt)))))))
row_still to domains other n m taken (Earth flow across node) h k =
    let t = passes (row_tests domains n taken (Earth flow across node)) h in
    all_pass (row_tests other m taken (Earth flow across (to node)))
    (lt-leb _ _ k.2.0, (lt-leb _ _ k.0, (lt-leb _ _ k.1, (t.1.1.1.0, (t.1.1.1.1.0, tt)))))

hits_kept : (to : ℕ → ℕ) (row : Row ℕ) (v : ℕ) → hits (renamed_row (nodes_only to) row) v ≡ hits row v
hits_kept to (Branch flow across first second) v = refl
hits_kept to (Earth flow across node) v = refl

pub uses_kept : (to : ℕ → ℕ) (rows : List (Row ℕ)) (v : ℕ) → uses (map (renamed_row (nodes_only to)) rows) v ≡ uses rows v
uses_kept to [] v = refl
uses_kept to (row ∷ rows) v = omega (arith, hits_kept to row v, uses_kept to rows v)

pub uses_append : (xs ys : List (Row ℕ)) (v : ℕ) → uses (xs ++ ys) v ≡ uses xs v + uses ys v
uses_append [] ys v = omega arith
uses_append (x ∷ xs) ys v = omega (arith, uses_append xs ys v)

-- Rows that pass still do with other numbers for nodes, if these are drawn likewise, and no variable is past m.
pub passing_still : (to : ℕ → ℕ) (domains other : List ℕ) (n m : ℕ) (used : ℕ → ℕ) (rows : List (Row ℕ)) → Passing domains n used rows → AllByRecursion (RowKept to domains other m) rows → Passing other m used (map (renamed_row (nodes_only to)) rows)
passing_still to domains other n m used [] h k = tt
passing_still to domains other n m used (row ∷ rows) h k =
    let same : (v : ℕ) → used v + hits row v ≡ used v + hits (renamed_row (nodes_only to) row) v = λ v. ap (λ h. used v + h) (sym (hits_kept to row v)) in
    (row_still to domains other n m _ row h.0 k.0, subst (λ u. Passing other m u (map (renamed_row (nodes_only to)) rows)) (λ i v. same v i) (passing_still to domains other n m (λ v. used v + hits row v) rows h.1 k.1))
