use Rattle.std.proofs.Common.{◌≡◌, ◌+◌, ◌++◌, ◌∷◌, [], false, List, length, take, drop, replicate, ◌-◌, map, sym, refl, ap, ◌∙◌, arith, ℕ, ◌≤◌, Bool, ◌||◌}
use Rattle.std.specs.Prelude.{◌==◌, nat_lt}
use Rattle.std.proofs.lemmas.Bool.{cond-false, le-ltb}
use Rattle.std.proofs.lemmas.List.{at_drop_all, map_more, take_all, take_more_set, length-set, drop-set-lt, drop-drop, drop-replicate}
use Rattle.std.proofs.lemmas.Result.{err_from_is_err_and}
use Rattle.netlist.specs.declared.terms.RawTerm.{RawTerm}
use Rattle.netlist.specs.declared.terms.Term.{Term}
use Rattle.netlist.specs.Netlist.{term_of}
use Rattle.draft.specs.Rules.{table_terms, table_law}
use Rattle.refusal.specs.Tests.{first_of}
use Rattle.netlist.specs.Limits.{most_terms_of_law}
use Rattle.draft.specs.Judging.{no_term}
use Rattle.draft.proofs.Tables.{terms_next, terms_stop}
use Rattle.draft.proofs.laws.accept_terms.Goals as goal

-- a law whose terms are not too few or too many is judged by its terms
law_counted : (n : ℕ) (ts : List (RawTerm ℕ)) → false ≡ (length ts == 0) → length ts ≤ 8 → first_of (table_law n ts) ≡ first_of (table_terms n 1 ts)
law_counted n ts some few = cond-false _ _ _ (ap (λ (b : Bool). b || nat_lt 8 (length ts)) (sym some) ∙ le-ltb 8 (length ts) few)

pub loop-i-init : goal.loop-i-init
loop-i-init c = record { judged = refl; accepted = refl; rest = ap (λ (t : Term). replicate most_terms_of_law t) c.value-law.ensures; long = refl }

pub loop-i-preserved : goal.loop-i-preserved
loop-i-preserved c =
    let inv = c.loop-i.invariant in
    let ts = c.args.terms.now in
    let told = c.in_ok-law.ensures in
    record {
      judged = terms_next c.args.variables ts c.loop-i.i _ c.loop-i-test.true told.0 ∙ inv.judged;
      accepted =
          take_more_set c.loop-i.law c.loop-i.i c.in_ok-law.field-0 (omega arith)
          ∙ (λ i. inv.accepted i ++ (told.1 i ∷ []))
          ∙ sym (map_more term_of ts c.loop-i.i _ c.loop-i-test.true);
      rest =
          drop-set-lt (c.loop-i.i + 1) c.loop-i.law c.loop-i.i c.in_ok-law.field-0 (omega arith)
          ∙ sym (drop-drop 1 c.loop-i.i c.loop-i.law)
          ∙ ap (drop 1) inv.rest
          ∙ drop-replicate 1 (most_terms_of_law - c.loop-i.i) no_term
          ∙ ap (λ (n : ℕ). replicate n no_term) (omega arith);
      long = length-set c.loop-i.law c.loop-i.i c.in_ok-law.field-0 ∙ inv.long;
    }

pub returns-in_err-law : goal.returns-in_err-law
returns-in_err-law c =
    let n = c.args.variables in
    let ts = c.args.terms.now in
    let p = err_from_is_err_and c.from_residual.result c.from_residual.ensures.1 in
    rw (p.1, p.2)
    (law_counted n ts c.if-is_empty.ensures c.if-terms-gt-MOST_TERMS.false
    ∙ sym c.loop-i.invariant.judged
    ∙ terms_stop n ts c.loop-i.i _ _ c.loop-i-test.true c.in_err-law.ensures)

pub returns : goal.returns
returns c =
    let n = c.args.variables in
    let ts = c.args.terms.now in
    let end : length ts ≡ c.loop-i.i = omega arith in (
      law_counted n ts c.if-is_empty.ensures c.if-terms-gt-MOST_TERMS.false
          ∙ sym c.loop-i.invariant.judged
          ∙ at_drop_all (λ (xs : List (RawTerm ℕ)). first_of (table_terms n (c.loop-i.i + 1) xs)) ts c.loop-i.i c.loop-i-test.false,
      record {
        few = c.if-terms-gt-MOST_TERMS.false;
        front = ap (λ (k : ℕ). take k c.loop-i.law) end ∙ c.loop-i.invariant.accepted ∙ ap (map term_of) (take_all c.loop-i.i ts c.loop-i-test.false);
        rest = ap (λ (k : ℕ). drop k c.loop-i.law) end ∙ c.loop-i.invariant.rest ∙ ap (λ (k : ℕ). replicate (most_terms_of_law - k) no_term) (sym end);
      },
    )
