-- `feed::pieces::answer` meets its contract: the turn, and its answer line.
use Rattle.feed.specs.Reading.{text_of}
use Rattle.feed.proofs.Laws.{told_by}
use Rattle.feed.proofs.pieces.answer.Goals as goal

pub returns : goal.returns
returns c =
    told_by _ c.args.trace.rec c.turn.new.rec c.args.memory.now _ (text_of c.args.trace.line) _ c.args.room.now _ c.turn.result c.told-told.result _
    c.requires c.turn.ensures c.told-told.ensures c.write_answer.ensures c.none.ensures
