-- What a row joins is kept as nodes are drawn.
use Rattle.std.proofs.Common.{◌≡◌, ℕ, ◌<◌, true, ltb, List, [], ◌∷◌, ◌++◌, length, sym, ◌∙◌, arith}
use Rattle.std.proofs.lemmas.List.{length_push, get_or_append_left}
use Rattle.std.proofs.lemmas.Bool.{and_parts, and_from, ltb-true, lt-ltb, eqb-true, eq-eqb}
use Rattle.netlist.specs.declared.rows.Row.{Row}
use Rattle.netlist.specs.declared.rows.Row.TheVariants.{Branch, Earth}
use Rattle.netlist.specs.Sound.{joins}
use Rattle.std.specs.List.{list_all}
use Rattle.netlist.proofs.Every.{every_weaker}

-- a node more
joins_node : (ds : List ℕ) (d : ℕ) (row : Row ℕ) → joins ds row ≡ true → joins (ds ++ d ∷ []) row ≡ true
joins_node ds d (Branch flow across first second) h =
    let p = and_parts (ltb first (length ds)) _ h in
    let q = and_parts (ltb second (length ds)) _ p.1 in
    let one : first < length ds = ltb-true _ _ p.0 in
    let two : second < length ds = ltb-true _ _ q.0 in
    let long = length_push ds d in
    and_from _ _ (lt-ltb first _ (omega arith))
    (and_from _ _ (lt-ltb second _ (omega arith))
    (eq-eqb _ _ (get_or_append_left ds (d ∷ []) 0 first one ∙ eqb-true _ _ q.1 ∙ sym (get_or_append_left ds (d ∷ []) 0 second two))))
joins_node ds d (Earth flow across node) h =
    let one : node < length ds = ltb-true _ _ h in
    let long = length_push ds d in
    lt-ltb node _ (omega arith)

pub all_join_node : (ds : List ℕ) (d : ℕ) (rows : List (Row ℕ)) → list_all (joins ds) rows ≡ true → list_all (joins (ds ++ d ∷ [])) rows ≡ true
all_join_node ds d rows h = every_weaker (joins ds) (joins (ds ++ d ∷ [])) (joins_node ds d) rows h
