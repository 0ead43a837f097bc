use Rattle.std.proofs.Common.{◌≡◌, IfSome, vec_items, ◌∙◌, subst}
use Rattle.std.proofs.lemmas.Result.{err_from_is_err_and}
use Rattle.records.specs.Numbers.{Bytes}
use Rattle.records.proofs.Numbers.{bytes_are}
use Rattle.image_format.proofs.Made.{made, nodes_rise, entries_rise, bytes_from}
use Rattle.index.proofs.Found.{is_there}
use Rattle.image_read.proofs.links.link.Goals as goal

pub returns-in_err-keeper : goal.returns-in_err-keeper
returns-in_err-keeper c =
    let bs = c.args.bytes.now in
    let b : Bytes bs = bytes_from bs c.type_inv.bytes in
    let p = err_from_is_err_and c.from_residual.result c.from_residual.ensures.1 in
    record { typed = bytes_are bs b; law = made bs b; nodes = rw p.1 tt; entries = rw p.1 tt }

pub unwrap-requires : goal.unwrap-requires
unwrap-requires c =
    let bs = c.args.bytes.now in
    let b : Bytes bs = bytes_from bs c.type_inv.bytes in
    let k = c.in_ok-keeper.ensures in
    is_there c.new.result c.new.ensures.none (λ no. no (nodes_rise bs b _ k.nodes) (entries_rise bs b _ k.entries))

pub returns : goal.returns
returns c =
    let bs = c.args.bytes.now in
    let b : Bytes bs = bytes_from bs c.type_inv.bytes in
    let k = c.in_ok-keeper.ensures in
    record {
      typed = bytes_are bs b;
      law = made bs b;
      nodes = ∣ subst (λ o. IfSome o (λ l. vec_items l.nodes.items ≡ vec_items c.in_ok-keeper.keeper.nodes)) c.unwrap.ensures c.new.ensures.nodes ∙ k.nodes ∣₁;
      entries = ∣ subst (λ o. IfSome o (λ l. vec_items l.entries.items ≡ vec_items c.in_ok-keeper.keeper.entries)) c.unwrap.ensures c.new.ensures.entries ∙ k.entries ∣₁;
    }
