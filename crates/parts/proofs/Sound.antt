-- What sound tables keep to.
use Rattle.std.proofs.Common.{◌≡◌, ℕ, ◌+◌, ◌-◌, ◌<◌, ◌≤◌, Bool, true, length, map, get_or, take, drop, Some, None, sym, refl, ap, ◌∙◌, arith}
use Rattle.std.specs.Bool.{then_some}
use Rattle.std.specs.Option.{option_map}
use Rattle.std.specs.List.{slice_get, slice_range, list_all}
use Rattle.std.proofs.lemmas.List.{length-map}
use Rattle.std.proofs.lemmas.Option.{slice_get-map, slice_get_read}
use Rattle.netlist.specs.declared.spans.Span.{Span}
use Rattle.netlist.specs.Pieces.{flat}
use Rattle.netlist.specs.Sound.{is_domain}
use Rattle.netlist.proofs.Every.{every_at}
use Rattle.assembly.specs.Meaning.{Bounded, Proper, plan, domains_of, laws_of}
use Rattle.assembly.proofs.Nth.{nth_two}
use Rattle.parts.specs.declared.tables.Tables.{Tables}
use Rattle.parts.specs.declared.stored.Stored.{Stored}
use Rattle.parts.specs.Held.{plan_held, held}
use Rattle.parts.specs.Numbers.{domain_at, domain_of}
use Rattle.parts.specs.Tables.{is_sound, fill, law_in, plan_of}
use Rattle.parts.proofs.Filled.{part_within, law_lengths, flat_filled}

inner_domains : (t : Tables) → is_sound t ≡ true → list_all is_domain t.inner.now ≡ true
inner_domains t sound = grind arith

filled : (t : Tables) → is_sound t ≡ true → fill 0 t.laws.now (length t.terms.now) ≡ true
filled t sound = grind arith

-- they are a plan within its bounds
pub bounded : (t : Tables) → is_sound t ≡ true → Bounded (plan_of t)
bounded t sound = record {
  two_ends = refl;
  few_inner = grind (arith, length-map t.inner.now domain_at);
  few_variables = grind arith;
  few_rows = grind arith;
  few_laws = grind (arith, length-map t.laws.now (law_in t.terms.now));
  law_lengths = law_lengths t.terms.now 0 t.laws.now (filled t sound);
}

-- the laws, one after another, are the table of terms
pub whole : (t : Tables) → is_sound t ≡ true → flat (map (law_in t.terms.now) t.laws.now) ≡ t.terms.now
whole t sound = flat_filled t.terms.now 0 t.laws.now (filled t sound)

-- the domain of an inner node
pub inner_here : (t : Tables) (i n : ℕ) → is_sound t ≡ true → 2 ≤ i → i - 2 < length t.inner.now → n ≡ get_or t.inner.now (i - 2) n → domain_of n ≡ slice_get (domains_of (plan (plan_of t))) i
inner_here t i n sound past within e =
    let domain : is_domain n ≡ true = ap is_domain e ∙ every_at is_domain t.inner.now (i - 2) n within (inner_domains t sound) in
    ap (λ (b : Bool). then_some b (domain_at n)) domain
    ∙ sym (nth_two _ _ _ i past ∙ slice_get-map domain_at t.inner.now (i - 2) ∙ ap (option_map domain_at) (slice_get_read t.inner.now _ (i - 2) n refl within e))

-- the part of a law lies in the table of terms
pub law_within : (t : Tables) (k : ℕ) (d : Span) → is_sound t ≡ true → k < length t.laws.now → (get_or t.laws.now k d).offset + (get_or t.laws.now k d).length ≤ length t.terms.now
law_within t k d sound within = part_within 0 t.laws.now (length t.terms.now) k d (filled t sound) within

-- and what stands there is the law
pub law_here : (t : Tables) (k : ℕ) (s : Span) → k < length t.laws.now → s ≡ get_or t.laws.now k s → Some (slice_range t.terms.now s.offset (s.offset + s.length)) ≡ slice_get (laws_of (plan (plan_of t))) k
law_here t k s within is =
    let n : s.offset + s.length - s.offset ≡ s.length = omega arith in
    ap (λ (n : ℕ). Some (take n (drop s.offset t.terms.now))) n
    ∙ sym (slice_get-map (law_in t.terms.now) t.laws.now k ∙ ap (option_map (law_in t.terms.now)) (slice_get_read t.laws.now _ k s refl within is))

-- what any `Stored` means keeps to the bounds of a plan
pub proper_held : (s : Stored) → Proper (held s)
proper_held s = elim s.plan as (λ p. Proper (plan_held p)) [ None ↦ tt | Some t ↦ bounded t.tables t.sound ]
