use Rattle.node_table.specs.declared.change.Change.TheVariants.{Insert}
use Rattle.index_cache.specs.Paged.{fanout_of, keyed_tree_of}
use Rattle.benchmarks.proofs.Standing.{changed_dirty, index_stands, same_dirty}
use Rattle.benchmarks.proofs.paged.put.Goals as goal

pub insert-requires-clause-stands : goal.insert-requires-clause-stands
insert-requires-clause-stands g c = index_stands (g.V.Volume.state c.args.volume.now) c.args.index.now c.requires.dirty

pub returns-in_err-insert-clause-dirty : goal.returns-in_err-insert-clause-dirty
returns-in_err-insert-clause-dirty g c = same_dirty c.args.index.now c.insert.new.self c.in_err-insert.ensures.err c.requires.dirty

pub returns-clause-dirty : goal.returns-clause-dirty
returns-clause-dirty g c =
    let old = c.args.index.now in
    changed_dirty old c.insert.new.self c.in_ok-insert.ensures.tree
    (λ contents lebs. c.changes_keep_what_stands.ensures.changed (fanout_of old) (Insert c.args.leaf) contents lebs (keyed_tree_of old) c.trees_are_sound.ensures.fits) c.requires.dirty
