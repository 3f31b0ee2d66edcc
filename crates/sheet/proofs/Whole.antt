-- What all tables keep to, read on their netlist.
use Rattle.std.proofs.Common.{◌∙◌, arith}
use Rattle.netlist.specs.declared.domains.Domain.{Domain}
use Rattle.netlist.specs.Domains.{domain_number}
use Rattle.netlist.specs.Sound.{Sound, is_domain}
use Rattle.netlist.proofs.Every.{every_from, every_map}
use Rattle.netlist.proofs.Lawful.{lawful_pieces}
use Rattle.netlist.proofs.Named.{domain_named}
use Rattle.netlist.proofs.Taking.{marked_once, marked_drawn}
use Rattle.sheet.specs.declared.tables.Tables.TheInside.{Inside}
use Rattle.sheet.specs.Held.{netlist_of, Kept}
use Rattle.sheet.specs.Tiling.{lengths}
use Rattle.sheet.proofs.Sizes.{table_cut, law_count, term_count_of, node_count}

pub tables_sound : (t : Inside) → Kept t → Sound (netlist_of t)
tables_sound t k =
    let l = t.laws in
    let nodes = node_count t in
    let laws = law_count l in
    let terms = term_count_of l in
    record {
      domains = every_map is_domain domain_number t.domains.items ∙ every_from (λ (k : Domain). is_domain (domain_number k)) domain_named t.domains.items;
      joined = k.joined;
      once = marked_once t.taken.items t.rows.items k.marked;
      drawn = λ v h. marked_drawn t.taken.items t.rows.items k.marked v (omega arith);
      laws = lawful_pieces t.taken.len (lengths l.spans.items) l.terms.items (table_cut l) l.counted k.named l.sized;
      within = record { nodes = omega arith; variables = omega arith; rows = omega arith; laws = omega arith; terms = omega arith };
    }
