use Rattle.std.proofs.Common.{◌≡◌, ℕ, ◌+◌, ◌-◌, ◌*◌, ap, arith, length, max, refl, subst, sym}
use Rattle.std.proofs.lemmas.Bool.{false≢true}
use Rattle.fs_model.specs.declared.reply.Reply.{Reply}
use Rattle.fs_model.specs.declared.op.Op.{Op}
use Rattle.vfs_plans.specs.Operations.{is_truncate}
use Rattle.vfs_ops.specs.Operations.{has_group, is_of_names, nodes_asked}
use Rattle.vfs_ops.specs.Steps.{WasAdmitted}
use Rattle.vfs_ops.specs.Writing.{Buffers, newly_by, write_need}
use Rattle.vfs_ops.proofs.Cutting.{cut_answered}
use Rattle.vfs_ops.proofs.Admitted.{on_ok, other_at_once, retyped}
use Rattle.vfs_ops.proofs.Looking.{only_early, whole_left}
use Rattle.vfs_ops.proofs.Others.{idle_on, others_on}
use Rattle.vfs_ops.proofs.Serving.{done_on, err_map, none_buffered, not_write, ok_map, refused_on}
use Rattle.vfs_ops.proofs.Held.{goes_wider, none_synced}
use Rattle.vfs_ops.proofs.NewSize.{size_turned}
use Rattle.fs_model.specs.Legal.{is_sync, pages_in}
use Rattle.buffered_files.specs.Present.{present}
use Rattle.vfs_ops.proofs.Orphaning.{write_keep}
use Rattle.vfs_ops.proofs.Weighing.{refused_wider, write_weighs}
use Rattle.vfs_ops.proofs.answers.serve.Goals as goal

pub returns-in-Err : goal.returns-in-Err
returns-in-Err g c = let e = c.in-Err.ensures in record {
  ready = e.ready;
  done = tt;
  left = tt;
  same = e.same;
  refused = e.refused;
  issued = tt;
  still = e.issued;
  looked = e.looked;
  written = tt;
  others = e.others;
  idle = e.idle;
  admitted = tt;
  at_once = λ is done out room. let once = e.at_once is done out room in (retyped Reply (Reply × ℕ) c.in-Err.refusal once.0, once.1);
  buffered = none_buffered (g.B.Backing.state c.args.backing.now) (g.B.Backing.state c.serve_without.new.backing) c.args.kept.now c.serve_without.new.kept c.args.caller c.args.grant c.args.op.now _ (not_write c.args.op.now c.in_default.not-Write);
  grows = refused_wider Reply (Reply × ℕ) (nodes_asked (present (g.B.Backing.state c.args.backing.now).tree c.args.kept.now) c.args.caller c.args.now c.args.op.now) (2 * pages_in c.args.op.now + nodes_asked (present (g.B.Backing.state c.args.backing.now).tree c.args.kept.now) c.args.caller c.args.now c.args.op.now) (max 2 (nodes_asked (present (g.B.Backing.state c.args.backing.now).tree c.args.kept.now) c.args.caller c.args.now c.args.op.now)) (max 2 (nodes_asked (present (g.B.Backing.state c.args.backing.now).tree c.args.kept.now) c.args.caller c.args.now c.args.op.now)) c.in-Err.refusal (g.B.Backing.state c.args.backing.now) (g.B.Backing.state c.serve_without.new.backing) c.args.kept.now c.serve_without.new.kept (omega arith) e.grows;
  orphans = e.orphans;
  cut = e.cut;
  goes = e.goes;
  sure = e.sure;
}

pub returns-in-Ok-clause-at_once : goal.returns-in-Ok-clause-at_once
returns-in-Ok-clause-at_once g c = λ is done out room. (tt, (c.in-Ok.ensures.at_once is done out room).1)

pub returns-in-Write-clause-admitted : goal.returns-in-Write-clause-admitted
returns-in-Write-clause-admitted g c =
    on_ok c.write.result (λ h. subst (λ (o : Op). WasAdmitted (g.B.Backing.state c.args.backing.now) (g.B.Backing.state c.write.new.backing) c.args.kept.now c.args.caller c.args.now c.args.grant o) (sym c.in-Write.is) h) c.write.ensures.admitted

pub returns-in-Write-clause-at_once : goal.returns-in-Write-clause-at_once
returns-in-Write-clause-at_once g c =
    other_at_once _ (g.B.Backing.state c.args.backing.now) (g.B.Backing.state c.write.new.backing) c.args.kept.now c.args.caller c.args.now c.args.op.now c.write.result (ap (λ (o : Op). has_group o) c.in-Write.is)

pub returns-in-Ok-clause-left : goal.returns-in-Ok-clause-left
returns-in-Ok-clause-left g c = whole_left c.args.kept.now c.args.caller c.args.grant c.args.op.now (not_write c.args.op.now c.in_default.not-Write)

pub returns-in-Ok-clause-looked : goal.returns-in-Ok-clause-looked
returns-in-Ok-clause-looked g c = c.in-Ok.ensures.looked

pub returns-in-Write-clause-left : goal.returns-in-Write-clause-left
returns-in-Write-clause-left g c =
    ok_map c.write.result (λ r h. subst (λ (o : Op). r.1 ≡ c.args.grant - newly_by c.args.kept.now c.args.caller o) (sym c.in-Write.is) h) c.write.ensures.left

pub returns-in-Write-clause-looked : goal.returns-in-Write-clause-looked
returns-in-Write-clause-looked g c = only_early c.args.op.now _ c.write.result c.in-Write.is refl c.write.ensures.early

pub returns-in-Write-clause-others : goal.returns-in-Write-clause-others
returns-in-Write-clause-others g c = others_on c.args.kept.now c.write.new.kept c.args.caller c.args.op.now _ c.in-Write.is tt

pub returns-in-Ok-clause-others : goal.returns-in-Ok-clause-others
returns-in-Ok-clause-others g c = c.in-Ok.ensures.others

pub returns-in-Ok-clause-grows : goal.returns-in-Ok-clause-grows
returns-in-Ok-clause-grows g c = let put = c.in-Ok.ensures.grows in omega (arith, put)

pub returns-in-Write-clause-grows : goal.returns-in-Write-clause-grows
returns-in-Write-clause-grows g c =
    write_weighs (present (g.B.Backing.state c.args.backing.now).tree c.args.kept.now) c.args.caller c.args.now c.args.op.now _ _ _ _ c.write.result (g.B.Backing.state c.args.backing.now) (g.B.Backing.state c.write.new.backing) c.args.kept.now c.write.new.kept c.in-Write.is c.write.ensures.grows

pub returns-in-Write-clause-orphans : goal.returns-in-Write-clause-orphans
returns-in-Write-clause-orphans g c =
    write_keep c.write.result (g.B.Backing.state c.args.backing.now) (g.B.Backing.state c.write.new.backing) (present (g.B.Backing.state c.args.backing.now).tree c.args.kept.now) (present (g.B.Backing.state c.write.new.backing).tree c.write.new.kept) c.args.caller c.args.now c.args.op.now _ _ _ _ c.in-Write.is c.requires.ready.sound
    (c.present_files_are_sound.ensures.nameless (g.B.Backing.state c.args.backing.now).tree c.args.kept.now c.requires.ready.kept_fits) (c.present_files_are_sound.ensures.nameless (g.B.Backing.state c.write.new.backing).tree c.write.new.kept c.write.ensures.kept) c.write.ensures.closed c.write.ensures.done c.write.ensures.same

pub returns-in-Write-clause-cut : goal.returns-in-Write-clause-cut
returns-in-Write-clause-cut g c =
    cut_answered (g.B.Backing.state c.args.backing.now) (g.B.Backing.state c.write.new.backing) c.args.kept.now c.args.caller c.args.now c.args.op.now c.write.result (ap (λ (o : Op). is_of_names o) c.in-Write.is) (ap (λ (o : Op). is_truncate o) c.in-Write.is) c.write.ensures.cut

pub returns-in-Write-clause-idle : goal.returns-in-Write-clause-idle
returns-in-Write-clause-idle g c =
    idle_on (g.B.Backing.state c.args.backing.now) (g.B.Backing.state c.write.new.backing) c.args.kept.now c.write.new.kept c.args.op.now _ c.in-Write.is (λ sync closed. absurd (false≢true sync))

pub returns-in-Ok-clause-idle : goal.returns-in-Ok-clause-idle
returns-in-Ok-clause-idle g c = c.in-Ok.ensures.idle

pub returns-in-Write-clause-ready : goal.returns-in-Write-clause-ready
returns-in-Write-clause-ready g c = record { kept_fits = c.write.ensures.kept; paid = c.write.ensures.paid; sound = c.write.ensures.sound }

pub returns-in-Write-clause-done : goal.returns-in-Write-clause-done
returns-in-Write-clause-done g c = ok_map c.write.result (λ r h. done_on (g.B.Backing.state c.args.backing.now) (present (g.B.Backing.state c.args.backing.now).tree c.args.kept.now) h.0 (present (g.B.Backing.state c.write.new.backing).tree c.write.new.kept) c.args.caller c.args.now c.args.op.now _ r.0 c.in-Write.is refl h.1 h.2) c.write.ensures.done

pub returns-in-Write-clause-written : goal.returns-in-Write-clause-written
returns-in-Write-clause-written g c = ok_map c.write.result (λ r h. none_synced (g.B.Backing.state c.args.backing.now).mode (g.B.Backing.state c.write.new.backing) c.args.kept.now c.write.new.kept c.args.caller c.args.op.now r.0 (ap is_sync c.in-Write.is)) c.write.ensures.done

pub returns-in-Write-clause-buffered : goal.returns-in-Write-clause-buffered
returns-in-Write-clause-buffered g c = subst (λ (o : Op). Buffers (g.B.Backing.state c.args.backing.now) (g.B.Backing.state c.write.new.backing) c.args.kept.now c.write.new.kept c.args.caller c.args.grant o c.write.result) (sym c.in-Write.is) c.write.ensures.buffered

pub returns-in-Write-clause-goes : goal.returns-in-Write-clause-goes
returns-in-Write-clause-goes g c = goes_wider (2 * length c.args.kept.now.pages.dirty) _ (g.B.Backing.state c.args.backing.now) (g.B.Backing.state c.write.new.backing) c.write.ensures.goes

pub returns-in-Write-clause-refused : goal.returns-in-Write-clause-refused
returns-in-Write-clause-refused g c = err_map c.write.result (λ refusal h. refused_on (g.B.Backing.state c.args.backing.now) (g.B.Backing.state c.write.new.backing) c.write.new.kept (present (g.B.Backing.state c.args.backing.now).tree c.args.kept.now) c.args.caller c.args.now c.args.grant c.args.op.now _ refusal c.in-Write.is refl (size_turned (g.B.Backing.state c.args.backing.now) (g.B.Backing.state c.write.new.backing) c.write.new.kept (write_need c.in-Write.offs c.in-Write.len c.args.grant) _ refusal h)) c.write.ensures.refused

pub returns-in-Ok-clause-buffered : goal.returns-in-Ok-clause-buffered
returns-in-Ok-clause-buffered g c = none_buffered (g.B.Backing.state c.args.backing.now) (g.B.Backing.state c.serve_without.new.backing) c.args.kept.now c.serve_without.new.kept c.args.caller c.args.grant c.args.op.now _ (not_write c.args.op.now c.in_default.not-Write)
