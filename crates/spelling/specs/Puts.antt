-- What a function that writes into a lent buffer does.
use Rattle.std.specs.Prelude.{◌≡◌, ℕ, ◌+◌, List, length}
use Rattle.netlist.specs.Buffers.{written}

-- The buffer held old; now it has text in it from place at on, which ends before place end, and all
-- else stays.
pub record Put (old : List ℕ) (at : ℕ) (text : List ℕ) (new : List ℕ) (end : ℕ) : Type 0 where
  pub ends : end ≡ at + length text
  pub bytes : new ≡ written old at text
