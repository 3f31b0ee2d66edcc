use Rattle.std.proofs.Common.{◌≡◌, ◌+◌, refl, subst, arith}
use Rattle.text.specs.Reading.{Spells, Stands}
use Rattle.text.proofs.Words.{first_word, some_word, word_within}
use Rattle.text.proofs.fields.FieldsIterator.next.Goals as goal

pub returns-clause-steps : goal.returns-clause-steps
returns-clause-steps c =
    let bytes = c.args.self.now.bytes.now in
    let at = c.args.self.now.at in
    let told = c.place_of.ensures in
    let past : at + 1 + 1 ≡ at + 2 = omega arith in
    record {
      takes = (
        refl,
        refl,
        record {
          stands = subst (Stands c.field_at.result c.args.self.now.line) past c.field_at.ensures.stands;
          spells = c.field_at.ensures.spells;
          low = omega arith;
          high = word_within bytes at c.place_of.result (omega arith) told.within;
        },
      );
      first = λ g gs here whole.
          let word = first_word bytes at c.place_of.result g gs (record { within = told.within; before = told.before; found = told.found }) here whole in
          (subst (Spells c.field_at.result) word.0 c.field_at.ensures.spells, word.1);
      none = λ empty. some_word bytes at (omega arith) empty;
    }
