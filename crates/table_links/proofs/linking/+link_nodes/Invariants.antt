use Rattle.std.proofs.Common.{◌≡◌, ◌-◌, ◌≤◌, List, vec_items}
use Rattle.index.specs.declared.keyed.Keyed.{Keyed}
use Rattle.index.specs.declared.link.NodeLink.{NodeLink}
use Rattle.layout.proofs.Filling.{Fills, Whole}
use Rattle.table_check.specs.Given.{given as tables_in}
use Rattle.table_links.proofs.linking.+link_nodes.Given as goal

abbrev pub decreases-link_nodes : goal.decreases-link_nodes
decreases-link_nodes l = l.to - l.from

-- the rows that are left are sound, and what fills behind the links of those before fills behind the first
abbrev pub invariant-loop-i : goal.invariant-loop-i
invariant-loop-i l =
    let left = l.i-iterator in
    let t = tables_in l.tables.source in record {
      rows : left.rows.now ≡ l.tables.source.nodes.now;
      to : left.to ≡ l.to;
      from : l.from ≤ left.at;
      whole : Whole t left.at l.to;
      fills : (ys : List (Keyed NodeLink)) → Fills t left.at l.to l.parent (vec_items l.out) ys → Fills t l.from l.to l.parent (vec_items l.initial.out) ys;
    }
