-- Sums that grow by a last term.
use Rattle.std.proofs.Common.{◌≡◌, ℕ, ◌+◌, ◌<◌, Bool, List, [], ◌∷◌, ◌++◌, length, get_or, take, ℤ, pos, slice_index_or, sym, ap, ◌∙◌, ap₂}
use Rattle.std.proofs.lemmas.List.{take_more}
use Rattle.quantity.specs.Group.{Group}
use Rattle.quantity.proofs.Groups.{right}
use Rattle.netlist.specs.declared.rows.Row.{Row}
use Rattle.netlist.specs.declared.terms.Order.TheVariants.{Value}
use Rattle.netlist.specs.declared.terms.Term.{Term}
use Rattle.netlist.specs.Rows.{flow_of}
use Rattle.network.specs.Flows.{leaves, net_flow}
use Rattle.network.specs.Laws.{of_order, law_sum}
use Rattle.network.specs.Readings.{Readings}
use Rattle.network.specs.Walks.{read, no_row, row_at}

-- term i of a list, or one of no weight
abbrev pub no_term : Term
no_term = record { coefficient = pos 0; order = Value; variable = 0 }

abbrev pub nth_term : List Term → ℕ → Term
nth_term terms i = slice_index_or terms i no_term

module _ {G : Type 0} (𝓖 : Group G) where
  -- x at the end of a sum a + s
  last : (a s x whole : G) → whole ≡ 𝓖.sum s x → 𝓖.sum a whole ≡ 𝓖.sum (𝓖.sum a s) x
  last a s x whole e = ap (𝓖.sum a) e ∙ sym (𝓖.associative a s x)

  only_one : (x : G) → 𝓖.sum x 𝓖.zero ≡ 𝓖.sum 𝓖.zero x
  only_one x = right 𝓖 x ∙ sym (𝓖.neutral x)

  module _ (r : Readings G) where
    abbrev of_term : Term → G
    of_term t = 𝓖.multiple t.coefficient (read 𝓖 (of_order t.order r) t.variable)

    law_push : (ts : List Term) (t : Term) → law_sum 𝓖 (ts ++ t ∷ []) r ≡ 𝓖.sum (law_sum 𝓖 ts r) (of_term t)
    law_push [] t = only_one _
    law_push (u ∷ ts) t = last _ _ _ _ (law_push ts t)

    law_next : (ts : List Term) (i : ℕ) (d : Term) → i < length ts → law_sum 𝓖 (take (i + 1) ts) r ≡ 𝓖.sum (law_sum 𝓖 (take i ts) r) (of_term (get_or ts i d))
    law_next ts i d h = ap (λ (xs : List Term). law_sum 𝓖 xs r) (take_more ts i d h) ∙ law_push (take i ts) (get_or ts i d)

    -- the loop's sum after term i, which has the coefficient k and the reading x, and adds y
    pub law_more : (ts : List Term) (i : ℕ) (s : G) (k : ℤ) (x y s' : G) → i < length ts → s ≡ law_sum 𝓖 (take i ts) r → k ≡ (nth_term ts i).coefficient → x ≡ read 𝓖 (of_order (nth_term ts i).order r) (nth_term ts i).variable → y ≡ 𝓖.multiple k x → s' ≡ 𝓖.sum s y → s' ≡ law_sum 𝓖 (take (i + 1) ts) r
    law_more ts i s k x y s' h so coefficient reading is next =
        next ∙ ap₂ 𝓖.sum so (is ∙ ap₂ 𝓖.multiple coefficient reading) ∙ sym (law_next ts i no_term h)

  module _ (values : List G) (inside : ℕ → Bool) where
    abbrev of_row : Row ℕ → G
    of_row row = leaves 𝓖 inside row (read 𝓖 values (flow_of row))

    flow_push : (rows : List (Row ℕ)) (row : Row ℕ) → net_flow 𝓖 (rows ++ row ∷ []) values inside ≡ 𝓖.sum (net_flow 𝓖 rows values inside) (of_row row)
    flow_push [] row = only_one _
    flow_push (r ∷ rows) row = last _ _ _ _ (flow_push rows row)

    flow_next : (rows : List (Row ℕ)) (i : ℕ) (d : Row ℕ) → i < length rows → net_flow 𝓖 (take (i + 1) rows) values inside ≡ 𝓖.sum (net_flow 𝓖 (take i rows) values inside) (of_row (get_or rows i d))
    flow_next rows i d h = ap (λ (xs : List (Row ℕ)). net_flow 𝓖 xs values inside) (take_more rows i d h) ∙ flow_push (take i rows) (get_or rows i d)

    -- the loop's sum after row i, which brings x
    pub flow_more : (rows : List (Row ℕ)) (i : ℕ) (s x s' : G) → i < length rows → s ≡ net_flow 𝓖 (take i rows) values inside → x ≡ of_row (row_at rows i) → s' ≡ 𝓖.sum s x → s' ≡ net_flow 𝓖 (take (i + 1) rows) values inside
    flow_more rows i s x s' h so is next = next ∙ ap₂ 𝓖.sum so is ∙ sym (flow_next rows i no_row h)
