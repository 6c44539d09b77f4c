-- `heap::record::Record::take_back` meets its contract: a law for each test, and for the chunk taken back, whose link fits (`live_name`).
use mathlib.Core.Path.{sym, ap, ◌∙◌}
use native.Mathlib.Omega.{arith}
use Rattle.heap.specs.Seen.{seen}
use Rattle.heap.specs.Kind.{places_of}
use Rattle.heap.specs.Answer.{Out, outcome}
use Rattle.heap.proofs.Answers.{sound_four, places_some, places_few, passed_on, back_damaged, back_dead, live_name, back_done}
use Rattle.heap.proofs.record.Record.take_back.Goals as goal

pub returns-then-not-sound : goal.returns-then-not-sound
returns-then-not-sound c =
    back_damaged (places_of c.args.kind) c.args.self c.args.heap.now _ _ c.audit-sound.ensures
    c.if-not-sound.true

pub returns-in_err-length : goal.returns-in_err-length
returns-in_err-length c =
    let none = c.in_err-length.ensures.ok_part in
    let refused = passed_on c.args.self _ _ _ _ c.from_residual.ensures.1 c.in_err-length.ensures.value none in
    ap (λ (o : Out). outcome o.answer (seen o.rec c.args.heap.now)) refused
    ∙ back_dead (places_of c.args.kind) c.args.self c.args.heap.now _ _ c.audit-sound.ensures c.if-not-sound.false
    (sym none ∙ c.live_length.ensures)

pub settle-requires : goal.settle-requires
settle-requires c =
    let kind = c.args.kind in
    let test = c.audit-sound.ensures in
    let passed = c.if-not-sound.false in
    let found = sym c.in_ok-length.ensures.ok_part ∙ c.live_length.ensures in
    let name =
    live_name (places_of kind) c.args.self c.args.heap.now _ _ _ _ _ test passed found
    c.payload_to_hdr.ensures c.from-l.ensures in
    let many = c.places-places.ensures in
    let some = places_some c.args.kind in
    let few = places_few c.args.kind in
    let sound = sound_four kind (seen c.args.self c.args.heap.now) _ test passed in
    (sound, omega (arith, name), omega (arith, many, some), omega (arith, many, few))

pub returns : goal.returns
returns c =
    let kind = c.args.kind in
    let test = c.audit-sound.ensures in
    let passed = c.if-not-sound.false in
    let found = sym c.in_ok-length.ensures.ok_part ∙ c.live_length.ensures in
    let name =
    live_name (places_of kind) c.args.self c.args.heap.now _ _ _ _ _ test passed found
    c.payload_to_hdr.ensures c.from-l.ensures in
    let many = c.places-places.ensures in
    back_done (places_of kind) c.args.self c.args.heap.now c.settle.result _ _ _ _ _ _ _ many test passed
    found c.saturating_sub-held.ensures name c.settle.ensures
