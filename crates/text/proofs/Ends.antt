-- The first line of a text, and all of them.
use Rattle.std.proofs.Common.{◌≡◌, ℕ, zero, suc, ◌+◌, ◌-◌, ◌<◌, ◌≤◌, ◌⊎◌, List, [], ◌∷◌, ◌++◌, length, get_or, take, drop, sym, refl, ap, ◌∙◌, subst, inl, inr, ⊎_elim, append_assoc, arith, length-append, length-drop, take-append-drop}
use Rattle.std.proofs.lemmas.Bool.{cases_eq}
use Rattle.std.proofs.lemmas.List.{take_all, drop_all, drop_more, take_rest, get_or-take, length-take-le}
use Rattle.text.specs.Grammar.{Bytes}
use Rattle.std.specs.Iterator.{Drains}
use Rattle.text.specs.declared.line.TextLine.{TextLine}
use Rattle.text.specs.declared.split.TextLines.{TextLines}
use Rattle.text.specs.Cut.{onto_first}
use Rattle.text.specs.Newlines.{lines_of, OneLine, FirstLine, LineStep, Splits, rejoined, Rejoins, LineCount}
use Rattle.text.proofs.Pieces.{cut_none, cut_here, cut_other, cut_next, cut_last}

-- past the newline at e, or at the end
abbrev pub Past : Bytes → ℕ → ℕ → Type 0
Past text e n = ((e < length text) × (n ≡ e + 1)) ⊎ ((length text ≤ e) × (n ≡ e))

pub first_line : (text : Bytes) (e n : ℕ) → 1 ≤ length text → e ≤ length text → ((k : ℕ) → k < e → get_or text k 0 ≡ 10 → ⊥) → (e < length text → get_or text e 0 ≡ 10) → Past text e n → FirstLine text (take e text) (take (length text - n) (drop n text))
first_line text e n some within before found past =
    let long = length-take-le e text within in
    let one : OneLine (take e text) = λ k h is. before k (omega arith) (sym (get_or-take e text k 0 (omega arith)) ∙ is) in
    subst (FirstLine text (take e text)) (sym (take_rest text n)) (record {
      whole = one;
      parts =
          ⊎_elim
          (λ p. inl (sym (take-append-drop e text) ∙ ap (λ (x : Bytes). take e text ++ x) (drop_more text e 0 p.0 ∙ ap (λ (x : ℕ). x ∷ drop (e + 1) text) (found p.0) ∙ ap (λ i. 10 ∷ drop i text) (sym p.1))))
          (λ p. let a = p.0 in let b = p.1 in inr (sym (take_all e text a), drop_all n text (omega arith), omega arith))
          past;
    })

pub rest_shorter : (text : Bytes) (e n : ℕ) → 1 ≤ length text → e ≤ length text → Past text e n → length (take (length text - n) (drop n text)) < length text
rest_shorter text e n some within past =
    let long = ap length (take_rest text n) ∙ length-drop n text in
    ⊎_elim (λ p. let b = p.1 in omega arith) (λ p. let a = p.0 in let b = p.1 in omega arith) past

-- the lines of a text, joined, are the text
pub splits_rejoin : (ls : List Bytes) (text : Bytes) → Splits text ls → Rejoins text ls
splits_rejoin [] text s = inl (sym s)
splits_rejoin (l ∷ ls) text s =
    ⊎_elim
    (λ p.
    ⊎_elim
    (λ q. inl (ap (λ (x : Bytes). l ++ 10 ∷ x) q ∙ sym p))
    (λ q. inr (ap (λ (x : Bytes). l ++ 10 ∷ x) q ∙ sym (append_assoc l (10 ∷ s.0) (10 ∷ [])) ∙ ap (λ (x : Bytes). x ++ 10 ∷ []) (sym p)))
    (splits_rejoin ls s.0 s.2))
    (λ p. inr (last ls s.2 p.1 ∙ ap (λ (x : Bytes). x ++ 10 ∷ []) (sym p.0)))
    s.1.parts
  where
    last : (ms : List Bytes) → Splits s.0 ms → s.0 ≡ [] → l ++ (10 ∷ rejoined ms) ≡ l ++ 10 ∷ []
    last [] h e = refl
    last (m ∷ ms) h e = absurd (none h.1.parts)
      where
        none : ((s.0 ≡ m ++ 10 ∷ h.0) ⊎ ((s.0 ≡ m) × (h.0 ≡ []) × (1 ≤ length m))) → ⊥
        none =
            ⊎_elim
            (λ p. let n = ap length (sym e ∙ p) in let k = length-append m (10 ∷ h.0) in omega arith)
            (λ p. let n = ap length (sym e ∙ p.0) in let k = p.2 in omega arith)

-- the list of a text's lines begins with its first line
pub first_listed : (text line rest : Bytes) → FirstLine text line rest → lines_of text ≡ line ∷ lines_of rest
first_listed text line rest f =
    ⊎_elim
    (λ p. ap lines_of p ∙ cut_next 10 line rest f.whole)
    (λ p. ap lines_of p.0 ∙ alone line f.whole p.2 ∙ ap (λ (x : List Bytes). line ∷ x) (sym (ap lines_of p.1 ∙ cut_none 10)))
    f.parts
  where
    alone : (l : Bytes) → OneLine l → 1 ≤ length l → lines_of l ≡ l ∷ []
    alone [] one some = absurd (omega arith)
    alone (b ∷ l) one some = cut_last 10 b l one

-- the text is its lines
splits_lines : (text : Bytes) → Splits text (lines_of text)
splits_lines [] = subst (Splits []) (sym (cut_none 10)) refl
splits_lines (b ∷ bs) =
    ⊎_elim
    (λ is. subst (λ x. Splits (x ∷ bs) (lines_of (x ∷ bs))) (sym is) (subst (Splits (10 ∷ bs)) (sym (cut_here 10 bs)) (bs, record { whole = λ k h. omega arith; parts = inl refl }, splits_lines bs)))
    (λ other. subst (Splits (b ∷ bs)) (sym (cut_other 10 b bs other)) (longer other (lines_of bs) (splits_lines bs)))
    (cases_eq b 10)
  where
    front : (b ≡ 10 → ⊥) → (l : Bytes) → OneLine l → OneLine (b ∷ l)
    front other l one zero h is = other is
    front other l one (suc k) h is = one k (omega arith) is

    longer : (b ≡ 10 → ⊥) → (ls : List Bytes) → Splits bs ls → Splits (b ∷ bs) (onto_first b ls)
    longer other [] s =
        ([], record { whole = front other [] (λ k h. omega arith); parts = inr (ap (λ (x : Bytes). b ∷ x) s, refl, omega arith) }, refl)
    longer other (l ∷ ls) s =
        let f = s.1 in (
          s.0,
          record {
            whole = front other l f.whole;
            parts = ⊎_elim (λ p. inl (ap (λ (x : Bytes). b ∷ x) p)) (λ p. inr (ap (λ (x : Bytes). b ∷ x) p.0, p.1, omega arith)) f.parts;
          },
          s.2,
        )

pub line_count : (text : Bytes) (n : ℕ) → n ≡ length (lines_of text) → LineCount text n
line_count text n is = record { count = is; splits = splits_lines text; rejoins = splits_rejoin (lines_of text) text (splits_lines text) }

-- a walk to the end takes all lines
pub all_taken : (ls : List TextLine) (s : TextLines) → Drains (λ (s : TextLines) r (t : TextLines). LineStep s.rest.now s.taken r t.rest.now t.taken) s ls → length ls ≡ length (lines_of s.rest.now)
all_taken [] s (u, (t, same, end)) = ap length (sym end.listed) ∙ ap (λ (x : TextLines). length (lines_of x.rest.now)) (sym same)
all_taken (l ∷ ls) s (u, (t, (j, step, on), end)) = ap suc (all_taken ls j (u, (t, on, end))) ∙ ap length (sym step.listed)
