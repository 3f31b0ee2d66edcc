-- What the program writes on what it reads.
use Rattle.std.specs.Prelude.{[], IfSome, Option}
use Rattle.std.specs.Io.KnownBytes.{Appends}
use Rattle.text.specs.Grammar.{Bytes}
use Rattle.sheet_reader.specs.Reading.{TextAnswer}
use Rattle.printing.specs.Printing.{Prints}

-- Where it is known that the reader gives this text, the text is read with this answer, and what is printed then is
-- written behind what the writer held.
abbrev pub Answers : Option Bytes → TextAnswer → Option Bytes → Option Bytes → Type 0
Answers given r held holds =
    IfSome given (λ text. (printed : Bytes) × Prints text r [] printed × Appends held holds printed)
