-- Each row's flow stands where it should in the equations of the nodes.
use Rattle.std.proofs.Common.{◌≡◌, ℕ, zero, suc, ◌<◌, ◌≤◌, Bool, true, false, cond, eqb, ltb, List, [], ◌∷◌, ◌++◌, length, get_or, Some, None, sym, refl, ap, ◌∙◌, append-nil, arith}
use Rattle.std.specs.Option.{option_to_list}
use Rattle.std.proofs.lemmas.Bool.{and_parts, ltb-true, eq-eqb, ne_eqb}
use Rattle.netlist.specs.declared.rows.Row.{Row}
use Rattle.netlist.specs.declared.rows.Row.TheVariants.{Branch, Earth}
use Rattle.netlist.specs.declared.terms.Term.{Term}
use Rattle.netlist.specs.Netlist.{Netlist}
use Rattle.netlist.specs.Rows.{bit, hits, uses, flow_of}
use Rattle.netlist.specs.Sound.{Sound, joins}
use Rattle.netlist.proofs.Every.{every_at}
use Rattle.equation.specs.Equations.{plus, minus, term_at, node_sum}
use Rattle.equation.specs.Placed.{node_equation, naming, PlacedRow, Placed}
use Rattle.equation.proofs.Counting.{equations_are}
use Rattle.equation.proofs.Finding.{node_at}

-- the equation of a node is the sum of its flows
node_is : (b : Netlist) (n : ℕ) → n < length b.domains → node_equation b n ≡ node_sum b.rows n
node_is b n h = node_at b.laws b.rows (length b.domains) b.variables n h

-- the terms that name a variable, in two lists
either : (p : Bool) (t : Term) (xs ys : List Term) → cond p (t ∷ (xs ++ ys)) (xs ++ ys) ≡ cond p (t ∷ xs) xs ++ ys
either true t xs ys = refl
either false t xs ys = refl

naming_append : (v : ℕ) (xs ys : List Term) → naming v (xs ++ ys) ≡ naming v xs ++ naming v ys
naming_append v [] ys = refl
naming_append v (t ∷ xs) ys =
    ap (λ (zs : List Term). cond (eqb t.variable v) (t ∷ zs) zs) (naming_append v xs ys)
    ∙ either (eqb t.variable v) t (naming v xs) (naming v ys)

-- one row's term names its flow, and nothing else
other : (t : Term) (v : ℕ) → (t.variable ≡ v → ⊥) → naming v (t ∷ []) ≡ []
other t v h = ap (λ (b : Bool). cond b (t ∷ []) []) (ne_eqb t.variable v h)

itself : (t : Term) (v : ℕ) → t.variable ≡ v → naming v (t ∷ []) ≡ t ∷ []
itself t v h = ap (λ (b : Bool). cond b (t ∷ []) []) (eq-eqb t.variable v h)

branch_other : (p q r : Bool) (f v : ℕ) → (f ≡ v → ⊥) → naming v (option_to_list (cond p None (cond q (Some (plus f)) (cond r (Some (minus f)) None)))) ≡ []
branch_other true q r f v h = refl
branch_other false true r f v h = other (plus f) v h
branch_other false false true f v h = other (minus f) v h
branch_other false false false f v h = refl

earth_other : (p : Bool) (f v : ℕ) → (f ≡ v → ⊥) → naming v (option_to_list (cond p (Some (plus f)) None)) ≡ []
earth_other true f v h = other (plus f) v h
earth_other false f v h = refl

row_other : (row : Row ℕ) (n v : ℕ) → (flow_of row ≡ v → ⊥) → naming v (option_to_list (term_at n row)) ≡ []
row_other (Branch flow across first second) n v h = branch_other (eqb first second) (eqb first n) (eqb second n) flow v h
row_other (Earth flow across node) n v h = earth_other (eqb node n) flow v h

branch_itself : (p q r : Bool) (f : ℕ) → naming f (option_to_list (cond p None (cond q (Some (plus f)) (cond r (Some (minus f)) None)))) ≡ option_to_list (cond p None (cond q (Some (plus f)) (cond r (Some (minus f)) None)))
branch_itself true q r f = refl
branch_itself false true r f = itself (plus f) f refl
branch_itself false false true f = itself (minus f) f refl
branch_itself false false false f = refl

earth_itself : (p : Bool) (f : ℕ) → naming f (option_to_list (cond p (Some (plus f)) None)) ≡ option_to_list (cond p (Some (plus f)) None)
earth_itself true f = itself (plus f) f refl
earth_itself false f = refl

row_itself : (row : Row ℕ) (n : ℕ) → naming (flow_of row) (option_to_list (term_at n row)) ≡ option_to_list (term_at n row)
row_itself (Branch flow across first second) n = branch_itself (eqb first second) (eqb first n) (eqb second n) flow
row_itself (Earth flow across node) n = earth_itself (eqb node n) flow

-- what is no row's flow stands in no sum
sum_other : (rows : List (Row ℕ)) (v n : ℕ) → ((k : ℕ) (d : Row ℕ) → k < length rows → flow_of (get_or rows k d) ≡ v → ⊥) → naming v (node_sum rows n) ≡ []
sum_other [] v n h = refl
sum_other (row ∷ rows) v n h =
    naming_append v (option_to_list (term_at n row)) (node_sum rows n)
    ∙ (λ i. row_other row n v (h 0 row (omega arith)) i ++ sum_other rows v n (λ k d l. h (suc k) d (omega arith)) i)

-- a row has its flow
flow_hit : (row : Row ℕ) (v : ℕ) → flow_of row ≡ v → 1 ≤ hits row v
flow_hit row v e = omega (arith, ap bit (eq-eqb (flow_of row) v e))

unused : (rows : List (Row ℕ)) (v : ℕ) → uses rows v ≡ 0 → (k : ℕ) (d : Row ℕ) → k < length rows → flow_of (get_or rows k d) ≡ v → ⊥
unused [] v h k d l e = omega arith
unused (row ∷ rows) v h zero d l e = omega (arith, flow_hit row v e)
unused (row ∷ rows) v h (suc k) d l e = unused rows v (omega arith) k d (omega arith) e

used : (rows : List (Row ℕ)) (k : ℕ) (d : Row ℕ) → k < length rows → 1 ≤ uses rows (flow_of (get_or rows k d))
used [] k d l = absurd (omega arith)
used (row ∷ rows) zero d l = omega (arith, flow_hit row (flow_of row) refl)
used (row ∷ rows) (suc k) d l = omega (arith, used rows k d (omega arith))

-- where no variable is taken twice, the terms that name a row's flow are the row's own
sum_itself : (rows : List (Row ℕ)) → ((v : ℕ) → uses rows v ≤ 1) → (k : ℕ) (d : Row ℕ) (n : ℕ) → k < length rows → naming (flow_of (get_or rows k d)) (node_sum rows n) ≡ option_to_list (term_at n (get_or rows k d))
sum_itself [] once k d n l = absurd (omega arith)
sum_itself (row ∷ rows) once zero d n l =
    let v = flow_of row in
    let none : uses rows v ≡ 0 = omega (arith, once v, flow_hit row v refl) in
    naming_append v (option_to_list (term_at n row)) (node_sum rows n)
    ∙ (λ i. row_itself row n i ++ sum_other rows v n (unused rows v none) i)
    ∙ append-nil (option_to_list (term_at n row))
sum_itself (row ∷ rows) once (suc k) d n l =
    let v = flow_of (get_or rows k d) in
    let apart : flow_of row ≡ v → ⊥ = λ e. omega (arith, once v, flow_hit row v e, used rows k d (omega arith)) in
    naming_append v (option_to_list (term_at n row)) (node_sum rows n)
    ∙ (λ i. row_other row n v apart i ++ sum_itself rows (λ u. omega (arith, once u)) k d n (omega arith) i)

-- what a row adds at each node, told apart
module _ (flow across first second : ℕ) where
  looped : first ≡ second → (n : ℕ) → option_to_list (term_at n (Branch flow across first second)) ≡ []
  looped e n = ap (λ (p : Bool). option_to_list (cond p None (cond (eqb first n) (Some (plus flow)) (cond (eqb second n) (Some (minus flow)) None)))) (eq-eqb first second e)

  module _ (apart : first ≡ second → ⊥) (n : ℕ) where
    parted : option_to_list (term_at n (Branch flow across first second)) ≡ option_to_list (cond (eqb first n) (Some (plus flow)) (cond (eqb second n) (Some (minus flow)) None))
    parted = ap (λ (p : Bool). option_to_list (cond p None (cond (eqb first n) (Some (plus flow)) (cond (eqb second n) (Some (minus flow)) None)))) (ne_eqb first second apart)

    at_first : first ≡ n → option_to_list (term_at n (Branch flow across first second)) ≡ plus flow ∷ []
    at_first e = parted ∙ ap (λ (p : Bool). option_to_list (cond p (Some (plus flow)) (cond (eqb second n) (Some (minus flow)) None))) (eq-eqb first n e)

    past_first : (first ≡ n → ⊥) → option_to_list (term_at n (Branch flow across first second)) ≡ option_to_list (cond (eqb second n) (Some (minus flow)) None)
    past_first h = parted ∙ ap (λ (p : Bool). option_to_list (cond p (Some (plus flow)) (cond (eqb second n) (Some (minus flow)) None))) (ne_eqb first n h)

    at_second : (first ≡ n → ⊥) → second ≡ n → option_to_list (term_at n (Branch flow across first second)) ≡ minus flow ∷ []
    at_second h e = past_first h ∙ ap (λ (p : Bool). option_to_list (cond p (Some (minus flow)) None)) (eq-eqb second n e)

    at_neither : (first ≡ n → ⊥) → (second ≡ n → ⊥) → option_to_list (term_at n (Branch flow across first second)) ≡ []
    at_neither h k = past_first h ∙ ap (λ (p : Bool). option_to_list (cond p (Some (minus flow)) None)) (ne_eqb second n k)

-- from the terms of its flow to the places of a row
placed_row : (b : Netlist) (row : Row ℕ) → joins b.domains row ≡ true → ((n : ℕ) → n < length b.domains → naming (flow_of row) (node_equation b n) ≡ option_to_list (term_at n row)) → PlacedRow b row
placed_row b (Branch flow across first second) j own =
    let p = and_parts (ltb first (length b.domains)) _ j in
    let q = and_parts (ltb second (length b.domains)) _ p.1 in (
      λ e n h. own n h ∙ looped flow across first second e n,
      λ apart. record {
        leaves = own first (ltb-true _ _ p.0) ∙ at_first flow across first second apart first refl;
        enters = own second (ltb-true _ _ q.0) ∙ at_second flow across first second apart second apart refl;
        elsewhere = λ n h one two. own n h ∙ at_neither flow across first second apart n (λ e. one (sym e)) (λ e. two (sym e));
      },
    )
placed_row b (Earth flow across node) j own =
    record {
      leaves = own node (ltb-true _ _ j) ∙ ap (λ (p : Bool). option_to_list (cond p (Some (plus flow)) None)) (eq-eqb node node refl);
      elsewhere = λ n h away. own n h ∙ ap (λ (p : Bool). option_to_list (cond p (Some (plus flow)) None)) (ne_eqb node n (λ e. away (sym e)));
    }

pub placed : (b : Netlist) → Sound b → Placed b
placed b s =
    record {
      count = equations_are b s;
      rows = λ k d l.
          placed_row b (get_or b.rows k d) (every_at (joins b.domains) b.rows k d l s.joined)
          (λ n h. ap (naming (flow_of (get_or b.rows k d))) (node_is b n h) ∙ sum_itself b.rows s.once k d n l);
      others = λ v none n h. ap (naming v) (node_is b n h) ∙ sum_other b.rows v n none;
    }
