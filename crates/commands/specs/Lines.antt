-- What a line commands.
use Rattle.std.specs.Prelude.{◌≡◌, ℕ, List, ◌∷◌}
use Rattle.text.specs.declared.kinds.Kind.{Kind}
use Rattle.text.specs.declared.line.Line.{Line}
use Rattle.text.specs.declared.line.Line.TheVariants as line
use Rattle.text.specs.Grammar.{Bytes, Allowed, Matches, spaced, value_kinds, branch_kinds, earth_kinds, repeat_kinds}
use Rattle.text.specs.Faults.{FaultAt}
use Rattle.text.specs.Reading.{rest_of}
use Rattle.commands.specs.declared.terms.Terms.{Terms}
use Rattle.commands.specs.declared.command.Command.{Command}
use Rattle.commands.specs.declared.command.Command.TheVariants.{Law, Nothing}
use Rattle.commands.specs.Spelling.{spelled, command_of}
use Rattle.commands.specs.Steps.{ReadsLaw, ReadsCommand}

-- the command of a line that was read, from the fields that its case holds
abbrev pub Follows : Line → Command → Type 0
Follows (line.Node fs) r = ReadsCommand 78 value_kinds (rest_of fs) r
Follows (line.Variables fs) r = ReadsCommand 86 value_kinds (rest_of fs) r
Follows (line.Branch fs) r = ReadsCommand 66 branch_kinds (rest_of fs) r
Follows (line.Earth fs) r = ReadsCommand 69 earth_kinds (rest_of fs) r
Follows (line.Law fs) r = (ts : Terms) × (r ≡ Law ts) × ReadsLaw (rest_of fs) ts
Follows (line.Repeat fs) r = ReadsCommand 67 repeat_kinds (rest_of fs) r
Follows (line.Comment text n) r = r ≡ Nothing
Follows (line.Empty n) r = r ≡ Nothing

-- The line is allowed, and v is what it commands. However it is written as a letter and fields of some kinds,
-- they spell v.
pub record Commands (line : Bytes) (v : Command) : Type 0 where
  pub allowed : Allowed line
  pub value : v ≡ command_of line
  pub spells : (c : ℕ) (ks : List Kind) (fs : List Bytes) → line ≡ c ∷ spaced fs → Matches ks fs → v ≡ spelled c fs

-- the line goes wrong at this column, and at no other
pub record Faulty (line : Bytes) (column : ℕ) : Type 0 where
  pub fault : FaultAt Allowed line column
  pub only : (d : ℕ) → FaultAt Allowed line d → d ≡ column
