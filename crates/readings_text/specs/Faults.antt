-- How a user is told of a fault of readings.
use Rattle.std.specs.Prelude.{◌++◌, codes, decimal}
use Rattle.text.specs.Grammar.{Bytes}
use Rattle.small_readings.specs.Small.{largest_reading}
use Rattle.readings_text.specs.declared.faults.ReadingsFault.{ReadingsFault}
use Rattle.readings_text.specs.declared.faults.ReadingsFault.TheVariants.{Form, TooLarge, TooMany, TooFew}

abbrev pub readings_fault_text : ReadingsFault → Bytes
readings_fault_text (Form n) = codes "readings fault " ++ decimal n ++ codes ": not a value, a blank and a rate"
readings_fault_text (TooLarge n) =
    codes "readings fault " ++ decimal n
    ++ codes ": a number is not from -" ++ decimal largest_reading ++ codes " to " ++ decimal largest_reading
readings_fault_text (TooMany n) = codes "readings fault " ++ decimal n ++ codes ": more readings than variables"
readings_fault_text (TooFew n) = codes "readings fault " ++ decimal n ++ codes ": fewer readings than variables"
