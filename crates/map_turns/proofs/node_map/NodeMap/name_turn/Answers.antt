use Rattle.std.proofs.Common.{rules}
use Rattle.map_turns.proofs.Asked.{asks}
use Rattle.map_turns.proofs.node_map.NodeMap.name_turn.Goals as goal

pub returns : goal.returns
returns g c = λ x is. asks _ c.asked.ensures (λ e. search rules) (λ e. search rules)
