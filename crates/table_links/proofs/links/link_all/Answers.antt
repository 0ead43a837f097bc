use Rattle.std.proofs.Common.{vec_items, ap, ◌∙◌}
use Rattle.index.specs.Links.{links_of, entry_links_of}
use Rattle.layout.specs.Tables.{document}
use Rattle.layout.proofs.Making.{ready, linked_nodes, linked_entries, empty_nodes, empty_entries}
use Rattle.table_check.specs.Given.{given as tables_in}
use Rattle.table_links.proofs.links.link_all.Goals as goal

pub returns-in-None : goal.returns-in-None
returns-in-None c =
    let t = tables_in c.args.source in
    record {
      nodes = empty_nodes t c.in-None.ensures (vec_items c.new-nodes.result) c.new-nodes.ensures.items;
      entries = empty_entries t c.in-None.ensures (vec_items c.new-entries.result) c.new-entries.ensures.items;
    }

pub link_nodes-requires-clause-whole : goal.link_nodes-requires-clause-whole
link_nodes-requires-clause-whole c = (ready (tables_in c.in-Some.tables.source) c.in-Some.tables.accepted).whole

pub returns-in_ok-link_entries-in-Some : goal.returns-in_ok-link_entries-in-Some
returns-in_ok-link_entries-in-Some c =
    let t = tables_in c.in-Some.tables.source in
    let r = ready t c.in-Some.tables.accepted in
    record {
      nodes = linked_nodes t r (vec_items c.new-nodes.result) _ c.new-nodes.ensures.items c.in_ok-link_nodes-in-Some.ensures ∙ ap (λ s. links_of (document (tables_in s))) c.in-Some.ensures;
      entries = linked_entries t r (vec_items c.new-entries.result) _ c.new-entries.ensures.items c.in_ok-link_entries-in-Some.ensures ∙ ap (λ s. entry_links_of (document (tables_in s))) c.in-Some.ensures;
    }
