-- `turn::turn` meets its contract: a frame's request is asked of the heap, on the words that are lent.
use mathlib.Core.Path.{◌≡◌, ap, ◌∙◌}
use Prim.Native.Nat.{◌-◌}
use borrow.Author.Rules.{rules}
use borrow.Rule.Slice.PartMut.{put_mid}
use Rattle.std.specs.Prelude.{Ok, Err}
use Rattle.heap.specs.Kind.{places_of}
use Rattle.heap.specs.Answer.{just_done}
use Rattle.turn.specs.declared.Refusal.TheVariants.{Heap}
use Rattle.turn.specs.Told.{Answer, reply_of, outcome_of}
use Rattle.turn.proofs.Laws.{hand_by, back_by}
use Rattle.turn.proofs.turn.Goals as goal

pub returns-in_err-done-in-HandOut : goal.returns-in_err-done-in-HandOut
returns-in_err-done-in-HandOut c =
    let same : c.from_residual-in_err-done-in-HandOut.result ≡ Err (Heap c.in_err-done-in-HandOut.field-0.0) = search rules in
    ap
    (λ (x : Answer). outcome_of (reply_of x c.args.rec.now) (put_mid 0 (c.lent_words-n.result - 0) c.args.memory.now c.hand_out.new.heap))
    same
    ∙ hand_by (places_of c.args.kind) c.args.rec.now _ c.args.memory.now _ _ (Err c.in_err-done-in-HandOut.field-0.0) _ c.lent_words-n.ensures _ (search rules)
    c.in_err-done-in-HandOut.ensures

pub returns-in_err-rec-in-TakeBack : goal.returns-in_err-rec-in-TakeBack
returns-in_err-rec-in-TakeBack c =
    let same : c.from_residual-in_err-rec-in-TakeBack.result ≡ Err (Heap c.in_err-rec-in-TakeBack.field-0.0) = search rules in
    ap
    (λ (x : Answer). outcome_of (reply_of x c.args.rec.now) (put_mid 0 (c.lent_words-n.result - 0) c.args.memory.now c.take_back.new.heap))
    same
    ∙ back_by (places_of c.args.kind) c.args.rec.now _ c.args.memory.now _ _ (Err c.in_err-rec-in-TakeBack.field-0.0) _ c.lent_words-n.ensures _ (search rules)
    c.in_err-rec-in-TakeBack.ensures

pub returns-in_ok-done-in-HandOut : goal.returns-in_ok-done-in-HandOut
returns-in_ok-done-in-HandOut c =
    hand_by (places_of c.args.kind) c.args.rec.now _ c.args.memory.now _ _ (Ok c.in_ok-done-in-HandOut.done) _ c.lent_words-n.ensures _ (search rules)
    c.in_ok-done-in-HandOut.ensures

pub returns-in_ok-rec-in-TakeBack : goal.returns-in_ok-rec-in-TakeBack
returns-in_ok-rec-in-TakeBack c =
    ap
    (λ (d : _). outcome_of (reply_of (Ok d) c.in_ok-rec-in-TakeBack.field-0) (put_mid 0 (c.lent_words-n.result - 0) c.args.memory.now c.take_back.new.heap))
    c.nothing_out-in-TakeBack.ensures
    ∙ back_by (places_of c.args.kind) c.args.rec.now _ c.args.memory.now _ _ just_done _ c.lent_words-n.ensures _ (search rules)
    c.in_ok-rec-in-TakeBack.ensures
