use Rattle.std.proofs.Common.{rules}
use Rattle.node_table.specs.Changing.{changed_by}
use Rattle.mounted_index.proofs.mounted.MountedIndex.change.Goals as goal

pub returns-in_err-staged-clause-changed : goal.returns-in_err-staged-clause-changed
returns-in_err-staged-clause-changed g c = λ row h.
    let shown = (c.stage.ensures.staged row h).shown in
    record { done = search rules; err = search (rules, shown); stands = λ kept stands. search rules }

pub adopt-requires : goal.adopt-requires
adopt-requires g c =
    let own = c.requires.shown in
    record { staged = (changed_by c.args.self.now.geometry.fanout c.args.changes.now own.0, (c.in_ok-staged.ensures.staged own.0 own.1).staged) }

pub returns-clause-changed : goal.returns-clause-changed
returns-clause-changed g c = λ row h.
    let s = c.in_ok-staged.ensures.staged row h in
    record { done = c.adopt.ensures.shown (changed_by c.args.self.now.geometry.fanout c.args.changes.now row) s.staged; err = tt; stands = s.stands }

pub returns-in_err-staged-clause-running : goal.returns-in_err-staged-clause-running
returns-in_err-staged-clause-running g c = λ kept given begun row h. let on = c.stage.ensures.running kept given begun row h in (search rules, search (rules, on))

pub returns-clause-running : goal.returns-clause-running
returns-clause-running g c = λ kept given begun row h.
    let s = c.in_ok-staged.ensures.staged row h.shown in
    let made = changed_by c.args.self.now.geometry.fanout c.args.changes.now row in
    (c.adopt.ensures.running kept given begun row made (c.stage.ensures.running kept given begun row h) s.staged s.outside, tt)
