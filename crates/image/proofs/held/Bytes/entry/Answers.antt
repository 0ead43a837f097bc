use Rattle.records.proofs.Numbers.{bytes_from_are}
use Rattle.image.proofs.Bytes.{entry_bytes}
use Rattle.image.proofs.held.Bytes.entry.Goals as goal

pub returns : goal.returns
returns c =
    let t = c.args.self.now in
    entry_bytes t.bytes.now (bytes_from_are t.bytes.now t.typed) c.args.e c.get.result c.get.ensures.lookup
