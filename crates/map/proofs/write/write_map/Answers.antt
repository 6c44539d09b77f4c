-- `map::write::write_map` meets its contract: damaged, too little room, or the lines of the count's chunks. A sound heap's chunks end in time.
use mathlib.Core.Path.{sym, ◌∙◌}
use native.Mathlib.Omega.{arith}
use Rattle.map.proofs.Answers.{written_damaged}
use Rattle.map.proofs.Writing.{sound_short, sound_no_room, sound_done}
use Rattle.map.proofs.write.write_map.Goals as goal

pub returns-then-not-sound : goal.returns-then-not-sound
returns-then-not-sound c = sym (written_damaged _ _ _ (sym c.audit-sound.ensures ∙ c.if-not-sound.true))

pub count_chunks-n-requires : goal.count_chunks-n-requires
count_chunks-n-requires c = sound_short _ _ (sym c.audit-sound.ensures ∙ c.if-not-sound.false)

pub returns-then-room-n : goal.returns-then-room-n
returns-then-room-n c =
    let whole = sym c.audit-sound.ensures ∙ c.if-not-sound.false in
    sound_no_room _ c.args.rec c.args.heap.now c.args.room.now whole _ c.count_chunks-n.ensures
    c.if-room-n.true

pub write_lines-requires : goal.write_lines-requires
write_lines-requires c =
    let whole = sym c.audit-sound.ensures ∙ c.if-not-sound.false in
    (sound_short _ _ whole, omega (arith, c.count_chunks-n.ensures, c.if-room-n.false))

pub returns : goal.returns
returns c =
    let whole = sym c.audit-sound.ensures ∙ c.if-not-sound.false in
    sound_done _ c.args.rec c.args.heap.now c.args.room.now whole _ c.count_chunks-n.ensures _
    c.if-room-n.false c.write_lines.ensures
