use Rattle.std.proofs.Common.{Err, inl, subst}
use Rattle.sound_image.specs.Wrong.{Misfit}
use Rattle.index_check.specs.IndexWalk.{told_misfit}
use Rattle.sound_image.specs.IndexBreaches.{LacksIndexNode}
use Rattle.image_check.specs.KeptLaws.{kept_start}
use Rattle.index_check.proofs.Contents.{lack_moved, node_moved}
use Rattle.index_check.proofs.Kept.{kept_on, reads_ok}
use Rattle.index_check.proofs.StandingNodes.{none_of, same_values}
use Rattle.index_check.proofs.judging.judge_node.Goals as goal

pub read_lack-requires : goal.read_lack-requires
read_lack-requires g c =
    let old = g.V.Volume.state c.args.volume.now in
    let mid = g.V.Volume.state c.read_node.new.volume in
    let branch = c.args.wanted.now.branch in
    record { none = λ said h. none_of c.in_ok-read.read c.in_default.is c.in_ok-read.ensures.none said (node_moved old.holds mid.holds branch said (c.read_node.ensures.reads.keeps.holds branch.lnum) h) }

pub returns-in_default-clause-broken : goal.returns-in_default-clause-broken
returns-in_default-clause-broken g c =
    let old = g.V.Volume.state c.args.volume.now in
    let mid = g.V.Volume.state c.read_node.new.volume in
    let branch = c.args.wanted.now.branch in
    let at = c.wrong_there.ensures in
    let P : Misfit → Type 0 = λ m. LacksIndexNode old.holds branch m in
    let misfit = c.in_ok-misfit.misfit in
    let there = c.wrong_there.result in
    record {
      lnum = at.lnum;
      offs = at.offs;
      wrong = inl (subst P (same_values misfit.wanted misfit.found there.wanted there.found at.wanted at.found) (lack_moved old.holds mid.holds branch (told_misfit misfit) (c.read_node.ensures.reads.keeps.holds branch.lnum) c.in_ok-misfit.ensures.lack));
    }

pub returns-in_default-clause-reads : goal.returns-in_default-clause-reads
returns-in_default-clause-reads g c =
    let old = g.V.Volume.state c.args.volume.now in
    let mid = g.V.Volume.state c.read_node.new.volume in
    let new = g.V.Volume.state c.read_lack.new.volume in
    reads_ok old new (Err c.wrong_there.result) (kept_on old mid new c.in_ok-misfit.misfit (kept_on old old mid c.in_ok-read.read (kept_start old) c.in_ok-read.ensures.reads) c.in_ok-misfit.ensures.reads)
