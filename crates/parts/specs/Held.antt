-- What a `Stored` means: what the tables that it holds mean, and void if it holds none.
use Rattle.std.specs.Prelude.{Some, None, Option}
use Rattle.assembly.specs.Meaning.{Meaning, void, plan}
use Rattle.parts.specs.declared.stored.SoundTables.{SoundTables}
use Rattle.parts.specs.declared.stored.Stored.{Stored}
use Rattle.parts.specs.Tables.{plan_of}

abbrev pub plan_held : Option SoundTables → Meaning
plan_held None = void
plan_held (Some s) = plan (plan_of s.tables)

abbrev pub held : Stored → Meaning
held s = plan_held s.plan
