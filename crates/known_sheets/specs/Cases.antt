-- A case: something that is known of a sheet, and what it is for it to hold.
use Rattle.std.specs.Prelude.{◌≡◌, List, [], length, map, replicate, ℕ, ℤ, Ok, Option, Result}
use Rattle.quantity.specs.Group.{Group}
use Rattle.quantity.specs.Integers.{integers}
use Rattle.quantity.specs.Wholes.{wholes, whole}
use Rattle.draft.specs.declared.refusals.DraftRefusal.{DraftRefusal}
use Rattle.netlist.specs.Netlist.{Netlist, empty, with_nodes}
use Rattle.draft.specs.Rules.{answer_node}
use Rattle.text.specs.Grammar.{Bytes}
use Rattle.sheet_reader.specs.Reading.{TextAnswer, ReadsText}
use Rattle.printing.specs.Printing.{Prints}
use Rattle.network.specs.Readings.{Readings}
use Rattle.checking.specs.declared.refusals.CheckRefusal.{CheckRefusal}
use Rattle.checking.specs.declared.verdicts.Verdict.{Verdict}
use Rattle.checking.specs.Checked.{Checked}
use Rattle.assembly.specs.declared.plans.Size.{Size}
use Rattle.assembly.specs.Meaning.{size_of}
use Rattle.parts.specs.declared.single.Single.{Single}
use Rattle.parts.specs.Single.{single}
use Rattle.repeat.specs.Repeat.{repeated}

-- what is known of a sheet, of an assembly or of a draft
pub data Case : Type 0 where
  -- a text, how its reading ends, and what is printed of it
  printed : Bytes → TextAnswer → Bytes → Case
  -- the text of a sheet, a value of each variable, where every rate is zero, the verdict, and a potential of each node
  checked : Bytes → List ℤ → Verdict → List ℤ → Case
  -- so many of a single in series, and how much they have; nothing if they are void
  copied : ℕ → Single → Option Size → Case
  -- one more node of domain 1 on a draft of so many, and what is answered
  node_behind : ℕ → Result ℕ DraftRefusal → Case

-- so the text is read and printed, and it cannot be otherwise
pub record IsPrinted (text : Bytes) (answer : TextAnswer) (bytes : Bytes) : Type 0 where
  pub so : Prints text answer [] bytes
  pub only : (other : TextAnswer) (new : Bytes) → Prints text other [] new → (other ≡ answer) × (new ≡ bytes)

-- these values, and every rate is zero
abbrev pub steady : {G : Type 0} → Group G → List G → Readings G
steady 𝓖 values = record { values = values; rates = replicate (length values) 𝓖.zero }

-- so the readings are checked, whatever the buffer of potentials held, and it cannot be otherwise
pub record IsChecked {G : Type 0} (𝓖 : Group G) (b : Netlist) (values : List G) (verdict : Verdict)
    (potentials : List G) : Type 0 where
  pub so :
      (old : List G) → length old ≡ length b.domains → Checked 𝓖 b (steady 𝓖 values) old potentials (Ok verdict)
  pub only :
      (old new : List G) (other : Result Verdict CheckRefusal)
      → length old ≡ length b.domains → Checked 𝓖 b (steady 𝓖 values) old new other
      → (other ≡ Ok verdict) × (new ≡ potentials)

-- that it is so
abbrev pub Holds : Case → Type 0
Holds (printed text answer bytes) = IsPrinted text answer bytes
Holds (checked text values verdict potentials) =
    (b : Netlist) × ReadsText text empty (Ok tt) b × IsChecked integers b values verdict potentials
    × IsChecked wholes b (map whole values) verdict (map whole potentials)
Holds (copied times s size) = size_of (repeated times (single s)) ≡ size
Holds (node_behind nodes answer) = answer_node (with_nodes empty (replicate nodes 1)) 1 ≡ answer
