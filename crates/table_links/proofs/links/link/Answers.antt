use Rattle.std.proofs.Common.{vec_items, refl, ◌∙◌}
use Rattle.std.proofs.lemmas.Result.{err_from_is_err_and}
use Rattle.layout.specs.Tables.{document}
use Rattle.layout.proofs.Making.{nodes_rise, entries_rise}
use Rattle.layout.proofs.Reading.{made}
use Rattle.table_check.specs.Given.{given as tables_in}
use Rattle.index.proofs.Found.{is_there}
use Rattle.table_links.proofs.links.link.Goals as goal

pub returns-in_err-nodes : goal.returns-in_err-nodes
returns-in_err-nodes c =
    let t = tables_in c.args.source in
    let p = err_from_is_err_and c.from_residual.result c.from_residual.ensures.1 in
    record { typed = c.note_source.ensures; law = made t (document t) refl; nodes = rw p.1 tt; entries = rw p.1 tt }

pub unwrap-requires : goal.unwrap-requires
unwrap-requires c =
    let t = tables_in c.args.source in
    let typed = c.note_source.ensures in
    let told = c.in_ok-nodes.ensures in
    is_there c.new.result c.new.ensures.none (λ rise. rise (nodes_rise t typed (vec_items c.in_ok-nodes.nodes) told.nodes) (entries_rise t typed (vec_items c.in_ok-nodes.entries) told.entries))

pub returns : goal.returns
returns c =
    let t = tables_in c.args.source in
    record {
      typed = c.note_source.ensures;
      law = made t (document t) refl;
      nodes = ∣ (rw c.unwrap.ensures at c.new.ensures.nodes) ∙ c.in_ok-nodes.ensures.nodes ∣₁;
      entries = ∣ (rw c.unwrap.ensures at c.new.ensures.entries) ∙ c.in_ok-nodes.ensures.entries ∣₁;
    }
