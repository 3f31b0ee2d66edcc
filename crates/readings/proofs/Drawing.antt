-- What the rows of a sound netlist name is drawn, nodes and variables.
use Rattle.std.proofs.Common.{◌≡◌, ℕ, zero, suc, ◌+◌, ◌<◌, ◌≤◌, true, ltb, List, [], ◌∷◌, length, refl, ap, ⊎_elim, arith}
use Rattle.std.proofs.lemmas.Bool.{and_parts, ltb-true, eq-eqb, cases_lt}
use Rattle.netlist.specs.declared.rows.Row.{Row}
use Rattle.netlist.specs.declared.rows.Row.TheVariants.{Branch, Earth}
use Rattle.netlist.specs.Netlist.{Netlist}
use Rattle.netlist.specs.Rows.{bit, hits, uses, flow_of, across_of}
use Rattle.netlist.specs.Sound.{Sound, joins}
use Rattle.netlist.proofs.Every.{every_at}
use Rattle.network.specs.Walks.{row_at, no_row, tail_of, head_of, Drawn}

row_ends : (ds : List ℕ) (row : Row ℕ) → joins ds row ≡ true → (tail_of row < length ds + 1) × (head_of row < length ds + 1)
row_ends ds (Branch flow across first second) h =
    let p = and_parts (ltb first (length ds)) _ h in
    let q = and_parts (ltb second (length ds)) _ p.1 in
    let one = ltb-true first (length ds) p.0 in
    let two = ltb-true second (length ds) q.0 in
    (omega arith, omega arith)
row_ends ds (Earth flow across node) h = let one = ltb-true node (length ds) h in (omega arith, omega arith)

-- what one row has, the rows have
used : (rows : List (Row ℕ)) (j : ℕ) (v : ℕ) → j < length rows → hits (row_at rows j) v ≤ uses rows v
used [] j v l = absurd (omega arith)
used (row ∷ rows) zero v l = omega arith
used (row ∷ rows) (suc j) v l = omega (arith, used rows j v (omega arith))

module _ (b : Netlist) (sound : Sound b) where
  pub sound_drawn : Drawn b.rows (length b.domains)
  sound_drawn j l = row_ends b.domains (row_at b.rows j) (every_at (joins b.domains) b.rows j no_row l sound.joined)

  below : (v : ℕ) → 0 < uses b.rows v → v < b.variables
  below v h = ⊎_elim (λ (l : v < b.variables). l) (λ past. absurd (omega (arith, sound.drawn v past))) (cases_lt v b.variables)

  pub flow_drawn : (j : ℕ) → j < length b.rows → flow_of (row_at b.rows j) < b.variables
  flow_drawn j l =
      let v = flow_of (row_at b.rows j) in
      below v (omega (arith, used b.rows j v l, ap bit (eq-eqb v v refl)))

  pub across_drawn : (j : ℕ) → j < length b.rows → across_of (row_at b.rows j) < b.variables
  across_drawn j l =
      let v = across_of (row_at b.rows j) in
      below v (omega (arith, used b.rows j v l, ap bit (eq-eqb v v refl)))
