use Rattle.benchmarks.proofs.volume.fill.Goals as goal

pub loop-i-init : goal.loop-i-init
loop-i-init g c = c.requires.standing

pub put-requires : goal.put-requires
put-requires g c = record { standing = c.loop-i.invariant }

pub loop-i-preserved : goal.loop-i-preserved
loop-i-preserved g c = c.in_ok-put.ensures.standing

pub commit-requires : goal.commit-requires
commit-requires g c = record { standing = c.loop-i.invariant }
