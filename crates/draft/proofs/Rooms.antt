-- What the lines on room say.
use Rattle.std.proofs.Common.{◌≡◌, ℕ, ◌+◌, ◌<◌, ◌≤◌, false, List, length, Some, None, sym, ap, ◌∙◌}
use Rattle.std.proofs.lemmas.Bool.{leb-false, ltb-false, lt-ltb, le-leb, lt-leb, le-ltb, cond-true, cond-false}
use Rattle.netlist.specs.declared.domains.Domain.{Domain}
use Rattle.draft.specs.declared.refusals.DraftRefusal.TheVariants.{Limit}
use Rattle.draft.specs.declared.refusals.Table.TheVariants.{Nodes, Laws, Terms}
use Rattle.netlist.specs.declared.terms.Term.{Term}
use Rattle.netlist.specs.Domains.{domain_number, no_domain}
use Rattle.netlist.specs.Limits.{most_nodes, most_laws, most_terms}
use Rattle.netlist.specs.Netlist.{Netlist, term_count}
use Rattle.draft.specs.Rules.{room_law, judge_node}
use Rattle.refusal.specs.Tests.{first_of}
use Rattle.refusal.proofs.Tables.{passes}
use Rattle.netlist.proofs.Named.{domain_drawn}

module _ (laws : List (List Term)) (n : ℕ) where
  pub no_law_left : most_laws ≤ length laws → first_of (room_law laws n) ≡ Some (Limit Laws)
  no_law_left h = cond-true _ _ _ (le-leb most_laws (length laws) h)

  pub no_term_left : length laws < most_laws → most_terms < term_count laws + n → first_of (room_law laws n) ≡ Some (Limit Terms)
  no_term_left l h = cond-false _ _ _ (lt-leb most_laws (length laws) l) ∙ cond-true _ _ _ (lt-ltb most_terms (term_count laws + n) h)

  pub room_left : length laws < most_laws → term_count laws + n ≤ most_terms → first_of (room_law laws n) ≡ None
  room_left l h = cond-false _ _ _ (lt-leb most_laws (length laws) l) ∙ cond-false _ _ _ (le-ltb most_terms (term_count laws + n) h)

  pub laws_left : first_of (room_law laws n) ≡ None → length laws < most_laws
  laws_left h = leb-false most_laws _ (passes (room_law laws n) h).0

  pub terms_left : first_of (room_law laws n) ≡ None → term_count laws + n ≤ most_terms
  terms_left h = ltb-false most_terms _ (passes (room_law laws n) h).1.0

module _ (b : Netlist) (kind : Domain) (domain : ℕ) (is : domain_number kind ≡ domain) where
  known : no_domain domain ≡ false
  known = ap no_domain (sym is) ∙ domain_drawn kind

  pub no_node_left : most_nodes ≤ length b.domains → judge_node b domain ≡ Some (Limit Nodes)
  no_node_left h = cond-false _ _ _ known ∙ cond-true _ _ _ (le-leb most_nodes (length b.domains) h)

  pub node_left : length b.domains < most_nodes → judge_node b domain ≡ None
  node_left h = cond-false _ _ _ known ∙ cond-false _ _ _ (lt-leb most_nodes (length b.domains) h)
