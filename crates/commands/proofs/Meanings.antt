-- From what the fields of a line spell to what the line commands.
use Rattle.std.proofs.Common.{◌≡◌, ℕ, zero, suc, ◌≤◌, List, [], ◌∷◌, ◌++◌, length, get_or, drop, sym, refl, ap, ◌∙◌, subst, append-nil, arith}
use Rattle.text.specs.declared.kinds.Kind.{Kind}
use Rattle.text.specs.declared.line.Fields.{Fields}
use Rattle.text.specs.declared.line.Line.{Line}
use Rattle.text.specs.declared.line.Line.TheVariants as line
use Rattle.text.specs.declared.line.TextLine.{TextLine}
use Rattle.text.specs.Grammar.{Bytes, Text, Matches, groups, form, Grouped, Rest, Allowed, kinds_repeated, spaced, value_kinds, branch_kinds, earth_kinds, repeat_kinds, term_kinds}
use Rattle.text.specs.Faults.{FaultAt}
use Rattle.text.specs.Cut.{cut}
use Rattle.text.specs.Reading.{Led, Says, Unbroken, rest_of}
use Rattle.text.proofs.Columns.{one_column}
use Rattle.text.proofs.Pieces.{cut_next, cut_last}
use Rattle.text.proofs.Steps.{never_empty}
use Rattle.text.proofs.Words.{text_unbroken}
use Rattle.commands.specs.declared.command.Command.{Command}
use Rattle.commands.specs.declared.command.Command.TheVariants.{Law}
use Rattle.commands.specs.Spelling.{fields_of, spelled, command_of}
use Rattle.commands.specs.Steps.{ReadsCommand}
use Rattle.commands.specs.Lines.{Follows, Commands, Faulty}

-- fields with a blank between them, cut at the blanks
cut_fields : (k : Kind) (ks : List Kind) (f : Bytes) (fs : List Bytes) → Text k f → Matches ks fs → cut 32 (f ++ spaced fs) ≡ f ∷ fs
cut_fields k [] f [] t h = ap (cut 32) (append-nil f) ∙ whole f t (text_unbroken k f t)
  where
    whole : (g : Bytes) → Text k g → Unbroken g → cut 32 g ≡ g ∷ []
    whole [] u w = absurd (never_empty k u)
    whole (b ∷ g) u w = cut_last 32 b g w
cut_fields k (j ∷ ks) f [] t h = absurd h
cut_fields k [] f (g ∷ fs) t h = absurd h
cut_fields k (j ∷ ks) f (g ∷ fs) t h =
    cut_next 32 f (g ++ spaced fs) (text_unbroken k f t) ∙ ap (λ (x : List Bytes). f ∷ x) (cut_fields j ks g fs h.0 h.1)

alone : (c : ℕ) → (c ≡ 32 → ⊥) → Unbroken (c ∷ [])
alone c other zero h is = other is
alone c other (suc k) h is = omega arith

-- the fields of a line are those that it is written with
pub fields_are : (c : ℕ) (ks : List Kind) (fs : List Bytes) → (c ≡ 32 → ⊥) → Matches ks fs → fields_of (c ∷ spaced fs) ≡ fs
fields_are c [] [] other h = ap (drop 1) (cut_last 32 c [] (alone c other))
fields_are c [] (f ∷ fs) other h = absurd h
fields_are c (k ∷ ks) [] other h = absurd h
fields_are c (k ∷ ks) (f ∷ fs) other h =
    ap (drop 1) (cut_next 32 (c ∷ []) (f ++ spaced fs) (alone c other)) ∙ cut_fields k ks f fs h.0 h.1

no_blank : (c : ℕ) (bs : Bytes) → Allowed (c ∷ bs) → c ≡ 32 → ⊥
no_blank c bs a e = subst (λ x. Rest (form x) bs) e a

-- what a line commands is what it is written with
pub commands : (line : Bytes) (v : Command) → Allowed line → v ≡ command_of line → Commands line v
commands line v a is = record {
  allowed = a;
  value = is;
  spells = λ c ks fs whole h.
      let other = no_blank c (spaced fs) (subst Allowed whole a) in
      is ∙ ap command_of whole ∙ ap (spelled c) (fields_are c ks fs other h);
}

-- an allowed line of groups of fields, by what its reader promises
by_fields : (line : Bytes) (c : ℕ) (ks : List Kind) (n : ℕ) (v : Command) → 1 ≤ length line → get_or line 0 0 ≡ c → form c ≡ groups ks n → Allowed line
    → ((m : ℕ) (gs : List Bytes) → 1 ≤ m → m ≤ n → drop 1 line ≡ spaced gs → Matches (kinds_repeated m ks) gs → v ≡ spelled c gs) → Commands line v
by_fields [] c ks n v some is letter a read = absurd (omega arith)
by_fields (b ∷ bs) c ks n v some is letter a read =
    let g : Grouped ks n bs = subst (λ F. Rest F bs) (ap form is ∙ letter) a in
    let fields = fields_are b (kinds_repeated g.0 ks) g.1 (no_blank b bs a) g.4 in
    commands (b ∷ bs) v a
    (read g.0 g.1 g.2 g.3 g.5 g.4
    ∙ ap (λ x. spelled x g.1) (sym is)
    ∙ ap (spelled b) (sym fields)
    ∙ ap (λ (x : Bytes). spelled b (fields_of (b ∷ x))) (sym g.5))

lettered : (bs : Bytes) (c : ℕ) → 1 ≤ c → get_or bs 0 0 ≡ c → 1 ≤ length bs
lettered [] c some is = omega arith
lettered (b ∷ bs) c some is = omega arith

-- one group of fields
once : (text : TextLine) (fs : Fields) (c : ℕ) (ks : List Kind) (v : Command) → 1 ≤ c → form c ≡ groups ks 1 → kinds_repeated 1 ks ≡ ks → Allowed text.bytes.now → Led c text fs → ReadsCommand c ks (rest_of fs) v → Commands text.bytes.now v
once text fs c ks v some letter single a led read =
    by_fields text.bytes.now c ks 1 v (lettered text.bytes.now c some led.letter) led.letter letter a
    (λ m gs low high here h.
    let one : m ≡ 1 = omega arith in
    let is : Matches ks gs = subst (λ x. Matches x gs) (ap (λ k. kinds_repeated k ks) one ∙ single) h in
    read gs (rest_is text fs led ∙ here) is)
  where
    rest_is : (l : TextLine) (s : Fields) → Led c l s → rest_of s ≡ drop 1 l.bytes.now
    rest_is l s e = ap (λ k. drop k s.bytes.now) e.start ∙ ap (drop 1) e.bytes

pub follows : (text : TextLine) (l : Line) (v : Command) → Allowed text.bytes.now → Says text l → Follows l v → Commands text.bytes.now v
follows text (line.Node fs) v a s h = once text fs 78 value_kinds v (omega arith) refl refl a s h
follows text (line.Variables fs) v a s h = once text fs 86 value_kinds v (omega arith) refl refl a s h
follows text (line.Branch fs) v a s h = once text fs 66 branch_kinds v (omega arith) refl refl a s h
follows text (line.Earth fs) v a s h = once text fs 69 earth_kinds v (omega arith) refl refl a s h
follows text (line.Repeat fs) v a s h = once text fs 67 repeat_kinds v (omega arith) refl refl a s h
follows text (line.Law fs) v a s h =
    by_fields text.bytes.now 76 term_kinds 8 v (lettered text.bytes.now 76 (omega arith) s.letter) s.letter refl a
    (λ m gs low high here k.
    h.1 ∙ ap Law (h.2 m gs high (ap (λ i. drop i fs.bytes.now) s.start ∙ ap (drop 1) s.bytes ∙ here) k))
follows text (line.Comment bytes n) v a s h =
    commands text.bytes.now v a (h ∙ sym (ap (λ (x : Bytes). spelled (get_or x 0 0) (fields_of text.bytes.now)) s.0))
follows text (line.Empty n) v a s h =
    commands text.bytes.now v a (h ∙ sym (ap (λ (x : Bytes). spelled (get_or x 0 0) (fields_of text.bytes.now)) s.0))

pub faulty : (line : Bytes) (column : ℕ) → FaultAt Allowed line column → Faulty line column
faulty line column f = record { fault = f; only = λ d g. one_column line d column g f }
