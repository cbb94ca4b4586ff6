use Rattle.replay.proofs.ReadLaws.{filled_more, filled_kept}
use Rattle.replay.proofs.read_full.Goals as goal
use Rattle.replay.proofs.read_full.Goals.{in-Ok, in-Err}

pub loop-preserved : goal.loop-preserved
loop-preserved g c =
    elim c.match-read.branch [
      | in-Ok w ↦ filled_more _ _ _ _ _ _ _ c.loop.room c.read.new.buf w.done-is w.in-Ok.ensures.bound.0 c.loop.invariant w.in-Ok.ensures.bytes.0
      | in-Err w ↦ filled_kept _ _ _ _ _ _ c.loop.room c.read.new.buf w.done-is c.loop.invariant w.in-Err.ensures.bytes
    ]
