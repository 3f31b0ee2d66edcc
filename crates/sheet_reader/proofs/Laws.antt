-- The laws of reading, by induction on the lines.
use Rattle.std.proofs.Common.{◌≡◌, ℕ, suc, ◌+◌, ◌<◌, List, [], ◌∷◌, length, Ok, Err, IsOk, MatchResult, is_ok, inl, inr, refl, sym, ap, ◌∙◌, subst, arith, get_or}
use Rattle.std.specs.Result.{IsErrAnd}
use Rattle.netlist.specs.Netlist.{Netlist}
use Rattle.text.specs.Grammar.{Bytes}
use Rattle.text.specs.Newlines.{lines_of}
use Rattle.text.proofs.Columns.{one_column}
use Rattle.sheet_reader.specs.declared.faults.TextFault.{TextFault}
use Rattle.sheet_reader.specs.declared.faults.TextFault.TheVariants.{Form, TooLong, Refused}
use Rattle.sheet_reader.specs.Reading.{TextAnswer, Passes, after_line, AtFault, ReadsLines, ReadsText}
use Rattle.sheet_reader.specs.Laws.{AllPass, Reached, ReadingLaw}

-- a line that passes is at no fault
not_at_fault : (b : Netlist) (n : ℕ) (line : Bytes) (f : TextFault) → Passes b line → AtFault b n line f → ⊥
not_at_fault b n line (Form at column) p h = h.1.refused p.0
not_at_fault b n line TooLong p h = h
not_at_fault b n line (Refused at why) p h = let e = h.2 in let d = p.1 in cc

-- the same netlist and the same line
same_fault : (b c : Netlist) (m n : ℕ) (line : Bytes) (f : TextFault) → b ≡ c → m ≡ n → AtFault b m line f → AtFault c n line f
same_fault b c m n line f d e h = subst (λ (k : ℕ). AtFault c k line f) e (subst (λ (x : Netlist). AtFault x m line f) d h)

-- no line is left
reached_end : (b c : Netlist) (n : ℕ) (r : TextAnswer) → r ≡ Ok tt → c ≡ b → Reached b n [] r c
reached_end b c n (Ok x) e d = record { count = 0; pass = tt; drawn = d; stop = refl }
reached_end b c n (Err f) e d = cc

-- the first line is at fault
reached_fault : (b c : Netlist) (n : ℕ) (line : Bytes) (lines : List Bytes) (r : TextAnswer) → IsErrAnd r (AtFault b (n + 1) line) → c ≡ b → Reached b n (line ∷ lines) r c
reached_fault b c n line lines (Ok x) h d = absurd h
reached_fault b c n line lines (Err f) h d = record {
  count = 0;
  pass = tt;
  drawn = d;
  stop = (omega arith, same_fault b c (n + 1) (n + 0 + 1) line f (sym d) (omega arith) h);
}

-- the first line passes, and so do others
stopped_later : (b c : Netlist) (n k : ℕ) (line : Bytes) (lines : List Bytes) (r : TextAnswer) → MatchResult r (λ _. k ≡ length lines) (λ f. (k < length lines) × AtFault c (n + 1 + k + 1) (get_or lines k []) f) → MatchResult r (λ _. suc k ≡ suc (length lines)) (λ f. (suc k < suc (length lines)) × AtFault c (n + suc k + 1) (get_or lines k []) f)
stopped_later b c n k line lines (Ok x) h = ap suc h
stopped_later b c n k line lines (Err f) h = (omega arith, same_fault c c (n + 1 + k + 1) (n + suc k + 1) (get_or lines k []) f refl (omega arith) h.1)

reached_later : (b c : Netlist) (n : ℕ) (line : Bytes) (lines : List Bytes) (r : TextAnswer) → Passes b line → Reached (after_line b line) (n + 1) lines r c → Reached b n (line ∷ lines) r c
reached_later b c n line lines r p s = record {
  count = suc s.count;
  pass = (p, s.pass);
  drawn = s.drawn;
  stop = stopped_later b c n s.count line lines r s.stop;
}

reached : (b c : Netlist) (n : ℕ) (lines : List Bytes) (r : TextAnswer) → ReadsLines b n lines r c → Reached b n lines r c
reached b c n [] r h = reached_end b c n r h.0 h.1
reached b c n (line ∷ lines) r (inl (p, h)) = reached_later b c n line lines r p (reached (after_line b line) c (n + 1) lines r h)
reached b c n (line ∷ lines) r (inr (h, d)) = reached_fault b c n line lines r h d

-- all lines pass exactly where none is at fault
all_pass : (b c : Netlist) (n : ℕ) (lines : List Bytes) (r : TextAnswer) → ReadsLines b n lines r c → IsOk r → AllPass b lines
all_pass b c n [] r h o = tt
all_pass b c n (line ∷ lines) r (inl (p, h)) o = (p, all_pass (after_line b line) c (n + 1) lines r h o)
all_pass b c n (line ∷ lines) (Ok x) (inr (h, d)) o = absurd h
all_pass b c n (line ∷ lines) (Err f) (inr (h, d)) o = cc

is_accepted : (b c : Netlist) (n : ℕ) (lines : List Bytes) (r : TextAnswer) → ReadsLines b n lines r c → AllPass b lines → IsOk r
is_accepted b c n [] r h p = ap is_ok h.0
is_accepted b c n (line ∷ lines) r (inl (p, h)) q = is_accepted (after_line b line) c (n + 1) lines r h q.1
is_accepted b c n (line ∷ lines) (Ok x) (inr (h, d)) q = absurd h
is_accepted b c n (line ∷ lines) (Err f) (inr (h, d)) q = absurd (not_at_fault b (n + 1) line f q.0 h)

-- a line has one fault at most
one_fault : (b : Netlist) (n : ℕ) (line : Bytes) (f g : TextFault) → AtFault b n line f → AtFault b n line g → f ≡ g
one_fault b n line (Form k i) (Form l j) h h' = let e : i ≡ j = one_column line i j h.1 h'.1 in let d = h.0 in let d' = h'.0 in cc
one_fault b n line (Form k i) TooLong h h' = absurd h'
one_fault b n line (Form k i) (Refused l why) h h' = absurd (h.1.refused h'.1)
one_fault b n line TooLong (Form l j) h h' = absurd h
one_fault b n line TooLong TooLong h h' = absurd h
one_fault b n line TooLong (Refused l why) h h' = absurd h
one_fault b n line (Refused k why) (Form l j) h h' = absurd (h'.1.refused h.1)
one_fault b n line (Refused k why) TooLong h h' = absurd h'
one_fault b n line (Refused k why) (Refused l why') h h' = cc (h.0, h'.0, h.2, h'.2)

-- two answers for one line at fault
same_answer : (b : Netlist) (n : ℕ) (line : Bytes) (q r : TextAnswer) → IsErrAnd q (AtFault b n line) → IsErrAnd r (AtFault b n line) → q ≡ r
same_answer b n line (Ok x) r h h' = absurd h
same_answer b n line (Err f) (Ok y) h h' = absurd h'
same_answer b n line (Err f) (Err g) h h' = ap Err (one_fault b n line f g h h')

-- a line that passes is at no fault that an answer tells
not_answered : (b : Netlist) (n : ℕ) (line : Bytes) (r : TextAnswer) → Passes b line → IsErrAnd r (AtFault b n line) → ⊥
not_answered b n line (Ok x) p h = h
not_answered b n line (Err f) p h = not_at_fault b n line f p h

one_reading : (b c d : Netlist) (n : ℕ) (lines : List Bytes) (r q : TextAnswer) → ReadsLines b n lines r c → ReadsLines b n lines q d → (q ≡ r) × (d ≡ c)
one_reading b c d n [] r q h h' = (h'.0 ∙ sym h.0, h'.1 ∙ sym h.1)
one_reading b c d n (line ∷ lines) r q (inl (p, h)) (inl (p', h')) = one_reading (after_line b line) c d (n + 1) lines r q h h'
one_reading b c d n (line ∷ lines) r q (inl (p, h)) (inr (h', e')) = absurd (not_answered b (n + 1) line q p h')
one_reading b c d n (line ∷ lines) r q (inr (h, e)) (inl (p', h')) = absurd (not_answered b (n + 1) line r p' h)
one_reading b c d n (line ∷ lines) r q (inr (h, e)) (inr (h', e')) = (same_answer b (n + 1) line q r h' h, e' ∙ sym e)

one_answer : (text : Bytes) (b c d : Netlist) (r q : TextAnswer) → ReadsText text b r c → ReadsText text b q d → (q ≡ r) × (d ≡ c)
one_answer text b c d r q (inl (k, h, e)) (inl (k', h', e')) = (h' ∙ sym h, e' ∙ sym e)
one_answer text b c d r q (inl (k, h, e)) (inr (k', h')) = absurd (omega arith)
one_answer text b c d r q (inr (k, h)) (inl (k', h', e')) = absurd (omega arith)
one_answer text b c d r q (inr (k, h)) (inr (k', h')) = one_reading b c d 0 (lines_of text) r q h h'

too_long_is_no_ok : (r : TextAnswer) → r ≡ Err TooLong → IsOk r → ⊥
too_long_is_no_ok (Ok x) e o = cc
too_long_is_no_ok (Err f) e o = cc

pub reading_law : (text : Bytes) (b c : Netlist) (r : TextAnswer) → ReadsText text b r c → ReadingLaw text b r c
reading_law text b c r (inl (k, h, e)) = record {
  reached = λ k'. absurd (omega arith);
  accepted = (λ o. absurd (too_long_is_no_ok r h o), λ p. let k' = p.0 in absurd (omega arith));
  only = λ q d h'. one_answer text b c d r q (inl (k, h, e)) h';
}
reading_law text b c r (inr (k, h)) = record {
  reached = λ k'. reached b c 0 (lines_of text) r h;
  accepted = (λ o. (k, all_pass b c 0 (lines_of text) r h o), λ p. is_accepted b c 0 (lines_of text) r h p.1);
  only = λ q d h'. one_answer text b c d r q (inr (k, h)) h';
}
