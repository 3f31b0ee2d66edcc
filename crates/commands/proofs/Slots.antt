-- The terms of a law, slot by slot.
use Rattle.std.proofs.Common.{◌≡◌, ℕ, zero, suc, ◌+◌, ◌-◌, ◌<◌, ◌≤◌, List, [], ◌∷◌, ◌++◌, length, set, replicate, sym, ap, ◌∙◌, append_assoc, append-nil, arith, length-append}
use Rattle.std.proofs.lemmas.List.{set_at}
use Rattle.netlist.specs.declared.terms.RawTerm.{RawTerm}
use Rattle.text.specs.declared.kinds.Kind.TheVariants.{Number, Coefficient}
use Rattle.text.specs.Grammar.{Bytes, Text, Matches, kinds_repeated, spaced, term_kinds}
use Rattle.commands.specs.declared.terms.Terms.{Terms}
use Rattle.commands.specs.Spelling.{no_term, slotted, spelled_term, spelled_terms}
use Rattle.commands.specs.Steps.{ReadsLaw}

-- m groups of fields are left at t, after those of the terms `done`
pub record Left (gs : List Bytes) (n : ℕ) (done : List (RawTerm ℕ)) (t : Bytes) : Type 0 where
  pub groups : ℕ
  pub fields : List Bytes
  pub count : groups + length done ≡ n
  pub here : t ≡ spaced fields
  pub kinds : Matches (kinds_repeated groups term_kinds) fields
  pub terms : spelled_terms gs ≡ done ++ spelled_terms fields

-- of the rest s, these terms are in their slots, and t is left
pub record Filled (s : Bytes) (terms : Terms) (t : Bytes) : Type 0 where
  pub done : List (RawTerm ℕ)
  pub size : length done ≡ terms.count
  pub stored : terms.slots ≡ done ++ replicate (8 - terms.count) no_term
  pub left : (n : ℕ) (gs : List Bytes) → n ≤ 8 → s ≡ spaced gs → Matches (kinds_repeated n term_kinds) gs → Left gs n done t

-- what a turn reads
abbrev pub Turn : Bytes → RawTerm ℕ → Bytes → Type 0
Turn t v u =
    (a b c : Bytes) (gs : List Bytes) → t ≡ spaced (a ∷ b ∷ c ∷ gs) → Text Coefficient a → Text Number b → Text Number c → (v ≡ spelled_term a b c) × (u ≡ spaced gs)

one_more : (gs : List Bytes) (n : ℕ) (done : List (RawTerm ℕ)) (t u : Bytes) (v : RawTerm ℕ) → Turn t v u → (t ≡ [] → ⊥) → Left gs n done t → Left gs n (done ++ v ∷ []) u
one_more gs n done t u v turn some l = go l.groups l.fields l.count l.here l.kinds l.terms
  where
    go : (m : ℕ) (fs : List Bytes) → m + length done ≡ n → t ≡ spaced fs → Matches (kinds_repeated m term_kinds) fs → spelled_terms gs ≡ done ++ spelled_terms fs → Left gs n (done ++ v ∷ []) u
    go zero [] count here kinds terms = absurd (some here)
    go zero (a ∷ fs) count here kinds terms = absurd kinds
    go (suc m) [] count here kinds terms = absurd kinds
    go (suc m) (a ∷ []) count here kinds terms = absurd kinds.1
    go (suc m) (a ∷ b ∷ []) count here kinds terms = absurd kinds.1.1
    go (suc m) (a ∷ b ∷ c ∷ fs) count here kinds terms =
        let got = turn a b c fs here kinds.0 kinds.1.0 kinds.1.1.0 in
        let long = length-append done (v ∷ []) in
        record {
          groups = m;
          fields = fs;
          count = omega arith;
          here = got.1;
          kinds = kinds.1.1.1;
          terms = terms ∙ ap (λ (x : RawTerm ℕ). done ++ x ∷ spelled_terms fs) (sym got.0) ∙ sym (append_assoc done (v ∷ []) (spelled_terms fs));
        }

pub filled_more : (s : Bytes) (terms more : Terms) (t : Bytes) (v : RawTerm ℕ) (u : Bytes) → terms.count < 8 → (more.slots ≡ set terms.slots terms.count v) × (more.count ≡ terms.count + 1) → Turn t v u → (t ≡ [] → ⊥) → Filled s terms t → Filled s more u
filled_more s terms more t v u room pushed turn some f =
    let rest : 8 - terms.count ≡ suc (8 - (terms.count + 1)) = omega arith in
    let empty = replicate (8 - (terms.count + 1)) no_term in
    let open-slot : terms.slots ≡ f.done ++ no_term ∷ empty = f.stored ∙ ap (λ k. f.done ++ replicate k no_term) rest in
    let long = length-append f.done (v ∷ []) in
    let size = f.size in
    let count = pushed.1 in
    record {
      done = f.done ++ v ∷ [];
      size = omega arith;
      stored =
          pushed.0
          ∙ ap (λ (x : List (RawTerm ℕ)). set x terms.count v) open-slot
          ∙ set_at f.done no_term empty v terms.count size
          ∙ sym (append_assoc f.done (v ∷ []) empty)
          ∙ ap (λ k. (f.done ++ v ∷ []) ++ replicate (8 - k) no_term) (sym count);
      left = λ n gs few here kinds. one_more gs n f.done t u v turn some (f.left n gs few here kinds);
    }

slots_are : (terms : Terms) (done ts : List (RawTerm ℕ)) → length done ≡ terms.count → terms.slots ≡ done ++ replicate (8 - terms.count) no_term → ts ≡ done → terms ≡ slotted ts
slots_are terms done ts size stored same =
    let n : terms.count ≡ length ts = sym size ∙ ap length (sym same) in
    let xs : terms.slots ≡ ts ++ replicate (8 - length ts) no_term = stored ∙ ap (λ (x : List (RawTerm ℕ)). x ++ replicate (8 - terms.count) no_term) (sym same) ∙ ap (λ k. ts ++ replicate (8 - k) no_term) n in
    let both : ◌≡◌ {A = Terms} (record { slots = terms.slots; count = terms.count }) (slotted ts) = cc in
    both

-- no field is left where all groups are read
all_read : (fs : List Bytes) (done : List (RawTerm ℕ)) → Matches (kinds_repeated 0 term_kinds) fs → done ++ spelled_terms fs ≡ done
all_read [] done h = append-nil done
all_read (f ∷ fs) done h = absurd h

module _ (s : Bytes) (terms : Terms) (t : Bytes) (f : Filled s terms t) where
  -- the reading stops where no term is left
  pub filled_end : ((a b c : Bytes) (gs : List Bytes) → t ≡ spaced (a ∷ b ∷ c ∷ gs) → Text Coefficient a → Text Number b → Text Number c → ⊥) → ReadsLaw s terms
  filled_end none n gs few here kinds = let l = f.left n gs few here kinds in slots_are terms f.done (spelled_terms gs) f.size f.stored (go l.groups l.fields l.here l.kinds l.terms)
    where
      go : (m : ℕ) (fs : List Bytes) → t ≡ spaced fs → Matches (kinds_repeated m term_kinds) fs → spelled_terms gs ≡ f.done ++ spelled_terms fs → spelled_terms gs ≡ f.done
      go zero fs at h e = e ∙ all_read fs f.done h
      go (suc m) [] at h e = absurd h
      go (suc m) (a ∷ []) at h e = absurd h.1
      go (suc m) (a ∷ b ∷ []) at h e = absurd h.1.1
      go (suc m) (a ∷ b ∷ c ∷ fs) at h e = absurd (none a b c fs at h.0 h.1.0 h.1.1.0)

  -- or where the slots are full
  pub filled_full : 8 ≤ terms.count → ReadsLaw s terms
  filled_full full n gs few here kinds = let l = f.left n gs few here kinds in slots_are terms f.done (spelled_terms gs) f.size f.stored (go l.groups l.fields l.count l.kinds l.terms)
    where
      go : (m : ℕ) (fs : List Bytes) → m + length f.done ≡ n → Matches (kinds_repeated m term_kinds) fs → spelled_terms gs ≡ f.done ++ spelled_terms fs → spelled_terms gs ≡ f.done
      go zero fs count h e = e ∙ all_read fs f.done h
      go (suc m) fs count h e = let size = f.size in absurd (omega arith)
