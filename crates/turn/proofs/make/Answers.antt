-- `turn::make` meets its contract: more words than there are, a length that the rules refuse, which changes nothing, or a heap made.
use mathlib.Core.Path.{◌≡◌, ap, ◌∙◌}
use Prim.Native.Nat.{◌-◌}
use borrow.Author.Rules.{rules}
use borrow.Rule.Slice.PartMut.{put_mid}
use Rattle.std.specs.Prelude.{Result, Err}
use Rattle.heap.specs.declared.answer.Refusal.{Refusal}
use Rattle.turn.specs.Told.{made, reply_of, outcome_of}
use Rattle.turn.proofs.Laws.{make_more, make_refused, make_done}
use Rattle.turn.proofs.make.Goals as goal

pub returns-then-memory-n : goal.returns-then-memory-n
returns-then-memory-n c = make_more c.args.rec.now c.args.memory.now _ c.if-memory-n.true

pub returns-in_err-rec : goal.returns-in_err-rec
returns-in_err-rec c =
    let same : c.from_residual.result ≡ Err c.in_err-rec.field-0.0.refusal = search rules in
    ap
    (λ (x : Result (Unit {0}) Refusal). outcome_of (reply_of (made x) c.args.rec.now) (put_mid 0 (c.args.words - 0) c.args.memory.now c.make.new.heap))
    same
    ∙ make_refused c.args.rec.now c.args.memory.now _ _ _ c.if-memory-n.false c.in_err-rec.ensures

pub returns : goal.returns
returns c = make_done c.args.rec.now _ c.args.memory.now _ _ c.if-memory-n.false c.in_ok-rec.ensures
