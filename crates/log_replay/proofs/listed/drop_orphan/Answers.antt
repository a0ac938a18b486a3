use Rattle.log_replay.proofs.Orphans.{orphan_stands}
use Rattle.log_replay.proofs.listed.drop_orphan.Goals as goal

pub returns-clause-stands : goal.returns-clause-stands
returns-clause-stands c kept stands =
    orphan_stands (record { orphan = c.indexes_follow.ensures.orphan; left = c.indexes_follow.ensures.left }) c.args.ino kept c.args.standing.now c.drop_bare.new.standing c.drop_bare.ensures.does stands
