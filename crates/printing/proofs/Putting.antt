-- What stands at the front of a buffer once something is printed into it.
use Rattle.std.proofs.Common.{◌≡◌, ℕ, ◌^◌, ◌<◌, ◌≤◌, List, [], ◌++◌, length, take, drop, Ok, None, Result, Option, ap, ◌∙◌, codes, decimal, arith}
use Rattle.std.proofs.Math.Seq.{take-append_seam}
use Rattle.std.proofs.lemmas.Bool.Decides.{nat_tests}
use Rattle.std.proofs.lemmas.Fmt.{length-decimal-le}
use Rattle.std.proofs.lemmas.List.{length-append}
use Rattle.netlist.specs.Buffers.{filled}
use Rattle.refusal.specs.Tests.{answer}
use Rattle.spelling.specs.declared.refusals.WriteRefusal.{WriteRefusal}
use Rattle.spelling.specs.Headers.{header_text}
use Rattle.spelling.specs.Rules.{judge_text, answer_text, printed}

-- the text was printed: so many bytes of the buffer are the text
pub record Front {R : Type 0} (text : List ℕ) (r : Result ℕ R) (new : List ℕ) : Type 0 where
  pub done : r ≡ Ok (length text)
  pub bytes : take (length text) new ≡ text

front : {R : Type 0} (old text new : List ℕ) (r : Result ℕ R) (judged : Option R) → judged ≡ None → r ≡ answer judged (length text) → new ≡ filled judged old text → Front text r new
front {R} old text new r judged j a f = record {
  done = a ∙ ap (λ (why : Option R). answer why (length text)) j;
  bytes = ap (take (length text)) (f ∙ ap (λ (why : Option R). filled why old text) j) ∙ take-append_seam text (drop (length text) old);
}

text_passes : (old text : List ℕ) → length text ≤ length old → judge_text old text ≡ None
text_passes old text h = grind (arith, nat_tests)

pub text_front : (text old new : List ℕ) (r : Result ℕ WriteRefusal) → length text ≤ length old → r ≡ answer_text old text → new ≡ printed old text → Front text r new
text_front text old new r h a f = front old text new r (judge_text old text) (text_passes old text h) a f

pub header_short : (n : ℕ) → n < 2 ^ 64 → length (header_text n) ≤ 31
header_short n h =
    let number = codes " " ++ decimal n in
    omega (arith, length-decimal-le 20 n (omega arith) (omega arith) h, length-append (codes "equations") ((number ++ []) ++ codes "\n"), length-append (number ++ []) (codes "\n"), length-append number [], length-append (codes " ") (decimal n))
