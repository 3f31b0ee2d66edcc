-- What it is to give bytes to a measure or to a cursor.
use Rattle.std.specs.Prelude.{◌≡◌, ℕ, ◌+◌, ◌-◌, ◌^◌, ◌≤◌, List, length, min, ⊤}
use Rattle.netlist.specs.Buffers.{written}
use Rattle.spelling.specs.declared.sinks.Cursor.{Cursor}
use Rattle.spelling.specs.declared.sinks.Measure.{Measure}

-- a count has room for any text
abbrev pub AlwaysRoom : Measure → List ℕ → Type 0
AlwaysRoom before text = ⊤

-- counts of 2^64 - 1 and more are not told apart
abbrev pub Counted : Measure → List ℕ → Measure → Type 0
Counted before text after = min after.used (2 ^ 64 - 1) ≡ min (before.used + length text) (2 ^ 64 - 1)

-- the text would end within the buffer
abbrev pub HasRoom : Cursor → List ℕ → Type 0
HasRoom before text = before.at + length text ≤ length before.buffer.now

-- The text had room, and stands in the same buffer from the old place on up to the new one; all else stays.
pub record Written (before : Cursor) (text : List ℕ) (after : Cursor) : Type 0 where
  pub room : HasRoom before text
  pub same_buffer : after.buffer.ghost_name ≡ before.buffer.ghost_name
  pub ends : after.at ≡ before.at + length text
  pub bytes : after.buffer.now ≡ written before.buffer.now before.at text
