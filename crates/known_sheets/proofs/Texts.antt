-- What the texts draw.
use Rattle.std.proofs.Common.{◌≡◌, sym, ◌∙◌, [], ◌∷◌, refl, arith, Ok, Err, codes, inl, inr, pos, negsuc}
use Rattle.std.specs.Fmt.{digits}
use Rattle.netlist.specs.Netlist.{Netlist, empty}
use Rattle.draft.specs.declared.refusals.Argument.TheVariants.{Across}
use Rattle.draft.specs.declared.refusals.DraftRefusal.TheVariants.{Taken}
use Rattle.calls.specs.declared.refusals.CallRefusal.TheVariants.{Draft}
use Rattle.netlist.specs.declared.rows.Row.TheVariants.{Branch, Earth}
use Rattle.netlist.specs.declared.terms.Order.TheVariants.{Value}
use Rattle.netlist.specs.Limits.{most_terms_of_law}
use Rattle.text.specs.Grammar.{Bytes, value_kinds, branch_kinds, earth_kinds, term_kinds}
use Rattle.text.specs.Cut.{cut}
use Rattle.sheet_reader.specs.declared.faults.TextFault.TheVariants.{Form, Refused}
use Rattle.sheet_reader.specs.Reading.{TextAnswer, ReadsText}
use Rattle.sheet_reader.proofs.Laws.{reading_law}
use Rattle.printing.specs.Printing.{printed}
use Rattle.known_sheets.specs.Cases.{IsPrinted}
use Rattle.known_sheets.specs.Table.{resistance, resistance_equations, triangle, loop, one_variable, half_branch}
use Rattle.known_sheets.proofs.Allowed.{grouped}
use Rattle.known_sheets.proofs.Short.{half_branch_fault}

abbrev pub resistance_drawn : Netlist
resistance_drawn = record {
  domains = 1 ∷ 1 ∷ [];
  variables = 4;
  rows = Branch 0 1 0 1 ∷ Earth 2 3 1 ∷ [];
  laws =
      (record { coefficient = pos 200; order = Value; variable = 0 } ∷ record { coefficient = negsuc 0; order = Value; variable = 1 } ∷ [])
      ∷ (record { coefficient = pos 1; order = Value; variable = 3 } ∷ [])
      ∷ [];
}

abbrev pub triangle_drawn : Netlist
triangle_drawn = record { domains = 1 ∷ 1 ∷ 1 ∷ []; variables = 6; rows = Branch 0 1 0 1 ∷ Branch 2 3 1 2 ∷ Branch 4 5 0 2 ∷ []; laws = [] }

abbrev pub loop_drawn : Netlist
loop_drawn = record { domains = 1 ∷ []; variables = 2; rows = Branch 0 1 0 0 ∷ []; laws = [] }

-- what is drawn before the line at fault
abbrev pub one_variable_drawn : Netlist
one_variable_drawn = record { domains = 1 ∷ []; variables = 1; rows = []; laws = [] }

pub resistance_read : ReadsText resistance empty (Ok tt) resistance_drawn
unfolding cut
resistance_read = inr (
  omega arith,
  inl (
    (grouped value_kinds 1 1 (codes "1" ∷ []) refl, refl),
    inl (
      (grouped value_kinds 1 1 (codes "1" ∷ []) refl, refl),
      inl (
        (grouped value_kinds 1 1 (codes "4" ∷ []) refl, refl),
        inl (
          (grouped branch_kinds 1 1 (codes "0" ∷ codes "1" ∷ codes "0" ∷ codes "1" ∷ []) refl, refl),
          inl (
            (grouped earth_kinds 1 1 (codes "2" ∷ codes "3" ∷ codes "1" ∷ []) refl, refl),
            inl (
              (grouped term_kinds most_terms_of_law 2 (codes "200" ∷ codes "0" ∷ codes "0" ∷ codes "-1" ∷ codes "0" ∷ codes "1" ∷ []) refl, refl),
              inl (
                (grouped term_kinds most_terms_of_law 1 (codes "1" ∷ codes "0" ∷ codes "3" ∷ []) refl, refl),
                (refl, refl),
              ),
            ),
          ),
        ),
      ),
    ),
  ),
)

pub triangle_read : ReadsText triangle empty (Ok tt) triangle_drawn
unfolding cut
triangle_read = inr (
  omega arith,
  inl (
    (grouped value_kinds 1 1 (codes "1" ∷ []) refl, refl),
    inl (
      (grouped value_kinds 1 1 (codes "1" ∷ []) refl, refl),
      inl (
        (grouped value_kinds 1 1 (codes "1" ∷ []) refl, refl),
        inl (
          (grouped value_kinds 1 1 (codes "6" ∷ []) refl, refl),
          inl (
            (grouped branch_kinds 1 1 (codes "0" ∷ codes "1" ∷ codes "0" ∷ codes "1" ∷ []) refl, refl),
            inl (
              (grouped branch_kinds 1 1 (codes "2" ∷ codes "3" ∷ codes "1" ∷ codes "2" ∷ []) refl, refl),
              inl (
                (grouped branch_kinds 1 1 (codes "4" ∷ codes "5" ∷ codes "0" ∷ codes "2" ∷ []) refl, refl),
                (refl, refl),
              ),
            ),
          ),
        ),
      ),
    ),
  ),
)

pub loop_read : ReadsText loop empty (Ok tt) loop_drawn
unfolding cut
loop_read = inr (
  omega arith,
  inl (
    (grouped value_kinds 1 1 (codes "1" ∷ []) refl, refl),
    inl (
      (grouped value_kinds 1 1 (codes "2" ∷ []) refl, refl),
      inl (
        (grouped branch_kinds 1 1 (codes "0" ∷ codes "1" ∷ codes "0" ∷ codes "0" ∷ []) refl, refl),
        (refl, refl),
      ),
    ),
  ),
)

pub one_variable_read : ReadsText one_variable empty (Err (Refused 3 (Draft (Taken Across)))) one_variable_drawn
unfolding cut
one_variable_read = inr (
  omega arith,
  inl (
    (grouped value_kinds 1 1 (codes "1" ∷ []) refl, refl),
    inl (
      (grouped value_kinds 1 1 (codes "1" ∷ []) refl, refl),
      inr ((refl, grouped branch_kinds 1 1 (codes "0" ∷ codes "0" ∷ codes "0" ∷ codes "0" ∷ []) refl, refl), refl),
    ),
  ),
)

pub nothing_read : ReadsText [] empty (Ok tt) empty
unfolding cut
nothing_read = inr (omega arith, (refl, refl))

-- what is printed of a text, and nothing else
printed_of : (text bytes : Bytes) (answer : TextAnswer) (b : Netlist) → ReadsText text empty answer b → bytes ≡ printed answer b → IsPrinted text answer bytes
printed_of text bytes answer b reads e = record {
  so = (b, reads, e);
  only = λ other new p.
      let same = (reading_law text empty b answer reads).only other p.0 p.1 in
      (same.0, p.2 ∙ (λ i. printed (same.0 i) (same.1 i)) ∙ sym e);
}

pub resistance_prints : IsPrinted resistance (Ok tt) resistance_equations
unfolding cut digits
resistance_prints = printed_of _ _ (Ok tt) resistance_drawn resistance_read refl

pub nothing_prints : IsPrinted [] (Ok tt) (codes "equations 0\n")
unfolding digits
nothing_prints = printed_of _ _ (Ok tt) empty nothing_read refl

pub one_variable_prints : IsPrinted one_variable (Err (Refused 3 (Draft (Taken Across)))) (codes "fault 3 1 5 2 0\n")
unfolding digits
one_variable_prints = printed_of _ _ (Err (Refused 3 (Draft (Taken Across)))) one_variable_drawn one_variable_read refl

half_branch_read : ReadsText half_branch empty (Err (Form 1 8)) empty
unfolding cut
half_branch_read = inr (omega arith, inr ((refl, half_branch_fault), refl))

pub half_branch_prints : IsPrinted half_branch (Err (Form 1 8)) (codes "fault 1 8 11 0 0\n")
unfolding digits
half_branch_prints = printed_of _ _ (Err (Form 1 8)) empty half_branch_read refl
