use Rattle.records.proofs.Numbers.{bytes_from_are}
use Rattle.image.proofs.Bytes.{node_bytes}
use Rattle.image.proofs.held.Bytes.node.Goals as goal

pub returns : goal.returns
returns c =
    let t = c.args.self.now in
    node_bytes t.bytes.now (bytes_from_are t.bytes.now t.typed) c.args.n c.get.result c.get.ensures.lookup
