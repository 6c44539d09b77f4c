-- `audit::windows::mark` meets its contract; Invariants.antt says what its loop keeps.
use Rattle.std.proofs.Common.{◌≡◌, ℕ, ◌+◌, ◌/◌, ◌<◌, List, length, sym, refl, ap, ◌∙◌, arith, IsSome, Some}
use Rattle.audit.specs.declared.tiling.Seen.{Seen}
use Rattle.audit.specs.declared.tiling.Seen.TheVariants.{Free, Used}
use Rattle.audit.specs.Walk.{seen_at}
use Rattle.audit.proofs.tiling.Headers.{some_seen}
use Rattle.audit.proofs.windows.Steps.{Onward, Marking, marking_starts, marking_free, marking_used, on_free, on_used, on_none}
use Rattle.audit.proofs.windows.mark.Goals as goal

-- the chunk at a word, whatever is left of it
abbrev Known : List ℕ → ℕ → Seen → Type 0
Known ws at y = (left : ℕ) → IsSome (seen_at ws at left) → Some y ≡ seen_at ws at left

-- where a walk stands there is one
seen_there : {ws ms : List ℕ} {from at side : ℕ} {y : Seen} → Marking ws ms from at side → at + 1 < length ws → Known ws at y → Some y ≡ seen_at ws at side
seen_there m more seen = seen _ (some_seen _ (on_none _ _ _ m.standing more))

-- the chunk that is seen is free: where the walk stands after it, and that its left neighbour is used
free_here : {ws ms : List ℕ} {from at side s : ℕ} {y : Seen} → Marking ws ms from at side → at + 1 < length ws → Known ws at y → y ≡ Free s
    → Onward ws at (s / 4) 0 (Some (Free s)) × (side ≡ 1)
free_here m more seen is = on_free _ _ _ m.standing more _ (sym (seen_there m more seen) ∙ ap Some is)

-- the chunk that is seen is used
used_here : {ws ms : List ℕ} {from at side s : ℕ} {y : Seen} → Marking ws ms from at side → at + 1 < length ws → Known ws at y → y ≡ Used s
    → Onward ws at (s / 4) 1 (Some (Used s))
used_here m more seen is = on_used _ _ _ m.standing more _ (sym (seen_there m more seen) ∙ ap Some is)

pub loop-stand-init : goal.loop-stand-init
loop-stand-init c = (marking_starts _ _ _ _ c.requires.standing c.requires.bare, refl)

pub loop-stand-smaller-in-Free : goal.loop-stand-smaller-in-Free
loop-stand-smaller-in-Free c =
    let o = free_here c.loop-stand.invariant.0 (omega arith) c.known_at.ensures c.in-Free.is in
    omega (arith, o.0.fit, o.0.span)

pub loop-stand-preserved-in-Free : goal.loop-stand-preserved-in-Free
loop-stand-preserved-in-Free c =
    let kept = c.loop-stand.invariant in
    let o = free_here c.loop-stand.invariant.0 (omega arith) c.known_at.ensures c.in-Free.is in (
      rw c.put_mark.ensures (marking_free _ _ _ _ _ kept.0 _ _ o.0 o.1 c.if-marks-d.false),
      c.put_mark.auto.marks ∙ kept.1,
    )

pub loop-stand-smaller : goal.loop-stand-smaller
loop-stand-smaller c =
    let o = used_here c.loop-stand.invariant.0 (omega arith) c.known_at.ensures c.in-Used.is in
    omega (arith, o.fit, o.span)

pub loop-stand-preserved : goal.loop-stand-preserved
loop-stand-preserved c =
    let kept = c.loop-stand.invariant in
    (marking_used _ _ _ _ _ kept.0 _ _ (used_here c.loop-stand.invariant.0 (omega arith) c.known_at.ensures c.in-Used.is), kept.1)
