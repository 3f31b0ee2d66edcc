-- That a measure and a cursor keep the laws of a sink, as the trait states them.
use Rattle.std.proofs.Common.{◌≡◌, ℕ, ◌+◌, ◌≤◌, List, [], ◌++◌, length, refl, sym, ap, ◌∙◌, arith}
use Rattle.std.proofs.lemmas.List.{length-append, length-take-le, length-drop}
use Rattle.netlist.specs.Buffers.{written}
use Rattle.netlist.proofs.Buffers.{written_none, written_written}
use Rattle.spelling.specs.declared.sinks.Cursor.{Cursor}
use Rattle.spelling.specs.declared.sinks.Measure.{Measure}
use Rattle.spelling.specs.Sinks.{AlwaysRoom, Counted, HasRoom, Written}

pub counted_nothing : (s : Measure) → AlwaysRoom s [] → Counted s [] s
counted_nothing s h = omega arith

pub counted_both : (s t u : Measure) (xs ys : List ℕ) → Counted s xs t → Counted t ys u → Counted s (xs ++ ys) u
counted_both s t u xs ys p q = omega (arith, length-append xs ys)

pub always_room_first : (s : Measure) (xs ys : List ℕ) → AlwaysRoom s (xs ++ ys) → AlwaysRoom s xs
always_room_first s xs ys h = h

pub always_room_second : (s t : Measure) (xs ys : List ℕ) → Counted s xs t → AlwaysRoom s (xs ++ ys) → AlwaysRoom t ys
always_room_second s t xs ys p h = h

length_written : (old new : List ℕ) (at : ℕ) → at + length new ≤ length old → length (written old at new) ≡ length old
length_written old new at h = grind (arith, length-append, length-take-le, length-drop)

-- the buffer is as long as before
length_after : {s t : Cursor} {xs : List ℕ} → Written s xs t → length t.buffer.now ≡ length s.buffer.now
length_after {s} {xs = xs} p = ap length p.bytes ∙ length_written s.buffer.now xs s.at p.room

pub written_nothing : (s : Cursor) → HasRoom s [] → Written s [] s
written_nothing s h =
    record { room = h; same_buffer = refl; ends = omega arith; bytes = sym (written_none s.buffer.now s.at) }

pub written_both : (s t u : Cursor) (xs ys : List ℕ) → Written s xs t → Written t ys u → Written s (xs ++ ys) u
written_both s t u xs ys p q =
    let room : s.at + length xs + length ys ≤ length s.buffer.now = omega (arith, length_after p) in
    record {
      room = omega (arith, length-append xs ys);
      same_buffer = q.same_buffer ∙ p.same_buffer;
      ends = omega (arith, length-append xs ys);
      bytes = q.bytes ∙ (λ i. written (p.bytes i) (p.ends i) ys) ∙ written_written s.buffer.now xs ys s.at room;
    }

pub has_room_first : (s : Cursor) (xs ys : List ℕ) → HasRoom s (xs ++ ys) → HasRoom s xs
has_room_first s xs ys h = omega (arith, length-append xs ys)

pub has_room_second : (s t : Cursor) (xs ys : List ℕ) → Written s xs t → HasRoom s (xs ++ ys) → HasRoom t ys
has_room_second s t xs ys p h = omega (arith, length-append xs ys, length_after p)
