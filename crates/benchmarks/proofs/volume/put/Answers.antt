use Rattle.std.proofs.Common.{[], ◌∷◌}
use Rattle.node_table.specs.Changing.{changed_by}
use Rattle.node_table.specs.declared.change.Change.TheVariants.{Insert}
use Rattle.benchmarks.proofs.OnVolume.{changed_well}
use Rattle.benchmarks.proofs.volume.put.Goals as goal

pub change-requires : goal.change-requires
change-requires g c = let own = c.requires.standing in record { shown = (own.row, own.shown); changes = (c.leaf.ensures, tt) }

pub returns-then-i : goal.returns-then-i
returns-then-i g c =
    let own = c.requires.standing in
    let made = changed_by c.args.index.now.geometry.fanout (Insert c.leaf.result ∷ []) own.row in
    let done = c.in_ok-change.ensures in
    record { standing = changed_well c.args.geometry.now (g.V.Volume.state c.args.volume.now) (g.V.Volume.state c.change.new.volume) c.args.index.now c.change.new.self c.args.next.now made own (done.changed own.row own.shown) done.reads.shape done.geometry }

pub commit-requires : goal.commit-requires
commit-requires g c =
    let own = c.requires.standing in
    let made = changed_by c.args.index.now.geometry.fanout (Insert c.leaf.result ∷ []) own.row in
    let done = c.in_ok-change.ensures in
    record { standing = changed_well c.args.geometry.now (g.V.Volume.state c.args.volume.now) (g.V.Volume.state c.change.new.volume) c.args.index.now c.change.new.self c.args.next.now made own (done.changed own.row own.shown) done.reads.shape done.geometry }
