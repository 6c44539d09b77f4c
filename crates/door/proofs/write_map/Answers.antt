-- `write_map` meets its contract: what is replied is the writer's outcome, whose count fits 32 bits.
use Rattle.door.proofs.Counts.{map_replied}
use Rattle.door.proofs.write_map.Goals as goal

pub returns : goal.returns
returns c = map_replied _ _ _ _ c.write_map-answer.result c.from.result c.from-2.result c.write_map-answer.ensures c.from.ensures c.from-2.ensures
