use Rattle.std.proofs.Common.{ℕ, List, ◌++◌}
use Rattle.commit_steps.specs.UnderWayLaws.{WorksBeside-on}
use Rattle.node_table.specs.Changing.{changed_by}
use Rattle.ubi_volume.specs.Volume.{ChangeUnderWay}
use Rattle.mounted_index.specs.RunningLaws.{IsCommitRunning-beside, IsTakenUp-running, StandsIn-running}
use Rattle.mounted_index.specs.ShownLaws.{IsStagedRow-beside}
use Rattle.mounted_index.proofs.client.write_and_adopt.Goals as goal

pub stage-requires-clause-shown : goal.stage-requires-clause-shown
stage-requires-clause-shown g c = let own = c.requires.running in (own.0, own.4.shown)

pub adopt-requires : goal.adopt-requires
adopt-requires g c =
    let own = c.requires.running in
    let a = g.V.Volume.state c.args.volume.now in
    let b = g.V.Volume.state c.stage.new.volume in
    let d = g.V.Volume.state c.change.new.self in
    let made = changed_by c.args.index.now.geometry.fanout c.args.changes.now own.0 in
    let lebs : List ℕ = own.3 ++ own.2 in
    let works = WorksBeside-on b d c.args.lnum (ChangeUnderWay b c.args.lnum c.args.bytes.now) lebs own.5 c.change.ensures.works in
    let s = c.in_ok-staged.ensures.staged own.0 own.4.shown in
    let stands = s.stands lebs (StandsIn-running a own.2 own.3 own.1 c.args.index.now own.0 own.4) in
    let beside = IsStagedRow-beside b d lebs c.stage.new.self c.in_ok-staged.staged made c.change.ensures.shape (λ k one. (works.same k one).holds) stands s.staged.nodes in
    record { staged = (made, c.clear_cache.ensures.staged c.in_ok-staged.staged made beside) }

pub returns : goal.returns
returns g c = record {
  adopted = λ row begun kept given h apart.
      let a = g.V.Volume.state c.args.volume.now in
      let b = g.V.Volume.state c.stage.new.volume in
      let d = g.V.Volume.state c.change.new.self in
      let before = c.stage.new.self in
      let after = c.clear_cache.new.self in
      let lebs : List ℕ = given ++ kept in
      let made = changed_by c.args.index.now.geometry.fanout c.args.changes.now row in
      let shape = c.change.ensures.shape in
      let works = WorksBeside-on b d c.args.lnum (ChangeUnderWay b c.args.lnum c.args.bytes.now) lebs apart c.change.ensures.works in
      let run = c.stage.ensures.running kept given begun row h in
      let shown = c.clear_cache.ensures.shown row (IsTakenUp-running c.an_index_depends_on_its_lebs_alone.ensures b d kept given begun before row shape works run) in
      let on = IsCommitRunning-beside b d kept given begun before after row shape works c.clear_cache.ensures.nodes shown run in
      let s = c.in_ok-staged.ensures.staged row h.shown in
      let stands = s.stands lebs (StandsIn-running a kept given begun c.args.index.now row h) in
      let beside = IsStagedRow-beside b d lebs before c.in_ok-staged.staged made shape (λ k one. (works.same k one).holds) stands s.staged.nodes in
      c.adopt.ensures.running kept given begun row made on (c.clear_cache.ensures.staged c.in_ok-staged.staged made beside) s.outside;
}
