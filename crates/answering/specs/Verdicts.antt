-- The line of a verdict.
use Rattle.std.specs.Prelude.{◌++◌, codes, decimal}
use Rattle.text.specs.Grammar.{Bytes}
use Rattle.checking.specs.declared.verdicts.Verdict.{Verdict}
use Rattle.checking.specs.declared.verdicts.Verdict.TheVariants.{Holds, Law, Node, Row}

-- laws, nodes and rows are counted from 0
abbrev pub verdict_text : Verdict → Bytes
verdict_text Holds = codes "holds\n"
verdict_text (Law k) = codes "law " ++ decimal k ++ codes "\n"
verdict_text (Node n) = codes "node " ++ decimal n ++ codes "\n"
verdict_text (Row k) = codes "row " ++ decimal k ++ codes "\n"
