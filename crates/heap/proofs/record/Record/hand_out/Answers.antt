-- `heap::record::Record::hand_out` meets its contract: a law for each test, in document 01's order, and for the request served.
use mathlib.Core.Path.{refl}
use Rattle.heap.specs.Kind.{places_of}
use Rattle.heap.proofs.Answers.{hand_zero, hand_large, hand_damaged, hand_never, rounded_served, hand_served}
use Rattle.heap.proofs.record.Record.hand_out.Goals as goal

pub returns-then-size-eq0 : goal.returns-then-size-eq0
returns-then-size-eq0 c = hand_zero (places_of c.args.kind) c.args.self c.args.heap.now _ c.if-size-eq0.true

pub returns-then-size-gt-MOST_SIZE : goal.returns-then-size-gt-MOST_SIZE
returns-then-size-gt-MOST_SIZE c = hand_large (places_of c.args.kind) c.args.self c.args.heap.now _ c.if-size-eq0.false c.if-size-gt-MOST_SIZE.true

pub returns-then-not-sound : goal.returns-then-not-sound
returns-then-not-sound c =
    let tested = hand_damaged (places_of c.args.kind) c.args.self c.args.heap.now _ _ in
    tested c.if-size-eq0.false c.if-size-gt-MOST_SIZE.false c.audit-sound.ensures c.if-not-sound.true

pub returns-then-hopeless : goal.returns-then-hopeless
returns-then-hopeless c =
    let tested = hand_never (places_of c.args.kind) c.args.self c.args.heap.now _ _ _ _ _ in
    let passed = tested c.if-size-eq0.false c.if-size-gt-MOST_SIZE.false c.audit-sound.ensures c.if-not-sound.false in
    passed c.rounded_size-z.ensures refl c.never-hopeless.ensures c.if-hopeless.true

pub serve-requires : goal.serve-requires
serve-requires c =
    let tested = rounded_served c.args.kind c.args.self c.args.heap.now _ _ _ in
    tested c.audit-sound.ensures c.if-not-sound.false c.rounded_size-z.ensures

pub returns : goal.returns
returns c =
    let tested = hand_served (places_of c.args.kind) c.args.self c.args.heap.now _ _ _ _ _ _ in
    let passed = tested c.if-size-eq0.false c.if-size-gt-MOST_SIZE.false c.audit-sound.ensures c.if-not-sound.false in
    passed c.rounded_size-z.ensures refl c.never-hopeless.ensures c.if-hopeless.false c.serve.ensures
