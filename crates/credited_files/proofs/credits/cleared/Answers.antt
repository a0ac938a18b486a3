use Rattle.std.proofs.Common.{subst, sym, ◌∙◌, arith}
use Rattle.std.proofs.lemmas.Bool.{false≢true}
use Rattle.vfs_ops.specs.declared.event.Event.{Event}
use Rattle.vfs_ops.specs.Fs.{files_state}
use Rattle.vfs_ops.specs.Passing.{IsStep}
use Rattle.credited_files.proofs.Moving.{AreGivenBack, of_drain, sure_still}
use Rattle.credited_files.proofs.credits.cleared.Goals as goal

pub returns-then-needs_room : goal.returns-then-needs_room
returns-then-needs_room g c =
    let old = files_state c.args.fs.now in
    let new = files_state c.drained.new.fs in
    let d = c.drained.ensures in
    let n = d.event.0 in
    let back : AreGivenBack old new n =
    of_drain old new n c.drained.result.outcome (subst (λ (e : Event). IsStep old new e c.drained.result.outcome) d.event.1 d.step) in
    let credits = back.credits in
    let less = d.event.2 in
    let paid = c.requires.paid in
    record {
      empty = λ yes. d.left.1;
      kept = λ no. absurd (false≢true (sym no ∙ (sym c.needs_room.ensures ∙ c.if-needs_room.true)));
      less = omega (arith, less);
      only = back.only;
      credits = omega (arith, credits, less, paid);
      held = d.left.0;
      master = d.master;
      sure = d.sure;
    }

pub returns-else-needs_room-clause-empty : goal.returns-else-needs_room-clause-empty
returns-else-needs_room-clause-empty g c = λ yes. absurd (false≢true (sym c.if-needs_room.false ∙ (c.needs_room.ensures ∙ yes)))

pub returns-else-needs_room-clause-master : goal.returns-else-needs_room-clause-master
returns-else-needs_room-clause-master g c = λ k. record { pool = c.requires.pool k; issued = c.requires.counted k; held = c.args.master.now.held; out = c.args.master.now.out }

pub returns-else-needs_room-clause-sure : goal.returns-else-needs_room-clause-sure
returns-else-needs_room-clause-sure g c = sure_still (g.B.Backing.outlook c.args.fs.now.backing) (files_state c.args.fs.now).backing
