use Rattle.std.proofs.Common.{◌∙◌, ap}
use Rattle.index_cache.specs.Paged.{keyed_tree_of}
use Rattle.benchmarks.proofs.Standing.{all_stand, same_dirty}
use Rattle.benchmarks.proofs.paged.fill.Goals.{then-i-eq0+in_ok-evict, else-i-eq0}
use Rattle.benchmarks.proofs.paged.fill.Goals as goal

pub evict-requires : goal.evict-requires
evict-requires g c = record { stands = all_stand (g.V.Volume.state c.put.new.volume) c.put.new.index c.put.ensures.dirty }

pub returns-in_err-evict-clause-dirty : goal.returns-in_err-evict-clause-dirty
returns-in_err-evict-clause-dirty g c = same_dirty c.put.new.index c.evict.new.self c.evict.ensures.tree c.put.ensures.dirty

pub loop-i-preserved : goal.loop-i-preserved
loop-i-preserved g c = (
  elim c.if-i-eq0.branch [
    | then-i-eq0+in_ok-evict w ↦ same_dirty c.put.new.index c.if-i-eq0.index (ap keyed_tree_of w.index-is ∙ w.evict.ensures.tree) c.put.ensures.dirty
    | else-i-eq0 w ↦ same_dirty c.put.new.index c.if-i-eq0.index (ap keyed_tree_of w.index-is) c.put.ensures.dirty
  ],
  c.put.ensures.kept,
)
