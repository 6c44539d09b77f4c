-- `heap::record::Record::make` meets its contract: a length that is not accepted is refused, and one that is gives one free chunk.
use mathlib.Core.Path.{refl}
use borrow.Author.Rules.{rules}
use Rattle.heap.proofs.Answers.{make_refused, make_done}
use Rattle.heap.proofs.record.Record.make.Goals as goal

pub returns-then-not-accepted : goal.returns-then-not-accepted
returns-then-not-accepted c = make_refused _ _ _ c.accepts-accepted.ensures c.if-not-accepted.true (search rules)

pub returns : goal.returns
returns c =
    make_done c.of_words-rec.result c.one_chunk.result c.args.heap.now _ _ _ c.accepts-accepted.ensures c.if-not-accepted.false refl
    c.of_words-rec.ensures c.one_chunk.ensures
