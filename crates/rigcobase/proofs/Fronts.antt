-- One byte more than a text may have is enough of it.
use Rattle.std.proofs.Common.{◌≡◌, ℕ, ◌+◌, ◌≤◌, [], ◌++◌, Option, Some, None, length, take, inl, inr, ap, ◌∙◌, subst, arith}
use Rattle.std.proofs.lemmas.List.{length-take, take_all}
use Rattle.std.specs.Prelude.{IfSome}
use Rattle.std.specs.Option.{option_map}
use Rattle.std.specs.Io.KnownBytes.{Appends}
use Rattle.netlist.specs.Netlist.{Netlist, empty}
use Rattle.text.specs.Grammar.{Bytes}
use Rattle.text.specs.Limits.{most_bytes}
use Rattle.text.specs.Newlines.{lines_of}
use Rattle.sheet_reader.specs.Reading.{TextAnswer, ReadsLines, ReadsText}
use Rattle.printing.specs.Printing.{Prints}
use Rattle.rigcobase.specs.Answering.{Answers}

front_reads : (text : Bytes) (b c : Netlist) (r : TextAnswer) → ReadsText (take (most_bytes + 1) text) b r c → ReadsText text b r c
front_reads text b c r (inl (h, e, d)) = inl (omega (arith, length-take (most_bytes + 1) text), e, d)
front_reads text b c r (inr (h, reads)) =
    let fits : length text ≤ most_bytes = omega (arith, length-take (most_bytes + 1) text) in
    let all : take (most_bytes + 1) text ≡ text = take_all (most_bytes + 1) text (omega arith) in
    inr (fits, subst (λ (t : Bytes). ReadsLines b 0 (lines_of t) r c) all reads)

front_prints : (text : Bytes) (r : TextAnswer) (old new : Bytes) → Prints (take (most_bytes + 1) text) r old new → Prints text r old new
front_prints text r old new (c, reads, is) = (c, front_reads text empty c r reads, is)

-- what is read of a reader that gives no more than so many bytes
pub front_read : (given inner : Option Bytes) (limit : ℕ) (old items : Bytes) → inner ≡ given → limit ≡ most_bytes + 1 → old ≡ [] → IfSome (option_map (take limit) inner) (λ xs. items ≡ old ++ xs) → IfSome given (λ xs. items ≡ take (most_bytes + 1) xs)
front_read given inner limit old items e l d h =
    subst (λ (o : Option Bytes). IfSome o (λ xs. items ≡ take (most_bytes + 1) xs)) e (known inner h)
  where
    known : (o : Option Bytes) → IfSome (option_map (take limit) o) (λ xs. items ≡ old ++ xs) → IfSome o (λ xs. items ≡ take (most_bytes + 1) xs)
    known None k = k
    known (Some xs) k = k ∙ ap (λ (o : Bytes). o ++ take limit xs) d ∙ ap (λ (n : ℕ). take n xs) l

-- the front is read, what is printed of it stands alone, and is written
pub answered : (given : Option Bytes) (text read old printed written : Bytes) (r : TextAnswer) (held holds : Option Bytes) → read ≡ text → old ≡ [] → written ≡ printed → IfSome given (λ xs. text ≡ take (most_bytes + 1) xs) → Prints read r old printed → Appends held holds written → Answers given r held holds
answered None text read old printed written r held holds e d f h p a = tt
answered (Some xs) text read old printed written r held holds e d f h p a =
    let here = subst (λ (o : Bytes). Prints (take (most_bytes + 1) xs) r o printed) d (subst (λ (t : Bytes). Prints t r old printed) (e ∙ h) p) in
    (printed, front_prints xs r [] printed here, subst (Appends held holds) f a)
