use Rattle.std.proofs.Common.{ℕ, ◌+◌, ◌*◌, arith, max, inl, inr, refl}
use Rattle.fs_model.specs.declared.reply.Reply.{Reply}
use Rattle.buffered_files.specs.Present.{present}
use Rattle.vfs_ops.specs.Steps.{read_only_cause}
use Rattle.vfs_ops.proofs.Admitted.{told_at_once}
use Rattle.vfs_ops.proofs.Cutting.{call_noted, call_replied}
use Rattle.vfs_ops.proofs.Looking.{noted_looks}
use Rattle.vfs_ops.proofs.Serving.{done_buffered, noted_for, refused_buffered, refused_synced}
use Rattle.fs_model.specs.Legal.{pages_in}
use Rattle.vfs_ops.specs.Operations.{nodes_asked}
use Rattle.vfs_ops.proofs.Weighing.{refusal_told, reply_told}
use Rattle.vfs_ops.proofs.Replying.{done_plain}
use Rattle.vfs_ops.proofs.fs.Fs.answer.Goals as goal

pub returns-in-Err-clause-answered : goal.returns-in-Err-clause-answered
returns-in-Err-clause-answered g c =
    let old = g.B.Backing.state c.args.self.now.backing in
    let files = present old.tree c.args.self.now.kept in
    let e = c.in-Err.ensures in
    inr (
      record {
        refusal = c.noted-refusal.result;
        told = refl;
        why = noted_for (read_only_cause old.mode c.args.op.now) old (g.B.Backing.state c.call.new.backing) c.call.new.kept files c.args.caller c.args.now c.args.grant c.args.op.now c.in-Err.refusal c.noted-refusal.result c.noted-refusal.ensures.refusal e.refused;
        same = e.same;
      },
      c.noted-refusal.ensures.noted,
    )

pub returns-in-Err-clause-written : goal.returns-in-Err-clause-written
returns-in-Err-clause-written g c =
    refused_synced (g.B.Backing.state c.args.self.now.backing).mode (g.B.Backing.state c.call.new.backing) c.args.self.now.kept c.call.new.kept c.args.caller c.args.op.now c.noted-refusal.result

pub returns-in-Err-clause-buffered : goal.returns-in-Err-clause-buffered
returns-in-Err-clause-buffered g c =
    refused_buffered _ (g.B.Backing.state c.args.self.now.backing) (g.B.Backing.state c.call.new.backing) c.args.self.now.kept c.call.new.kept c.args.self.now.refused.items c.noted-refusal.new.refused.items c.args.caller c.args.grant c.args.op.now c.in-Err.refusal c.noted-refusal.result
    c.in-Err.ensures.buffered c.noted-refusal.ensures.refusal c.noted-refusal.ensures.noted

pub returns-in-Err-clause-at_once : goal.returns-in-Err-clause-at_once
returns-in-Err-clause-at_once g c =
    told_at_once (Reply × ℕ) (g.B.Backing.state c.args.self.now.backing) (g.B.Backing.state c.call.new.backing) c.args.self.now.kept c.args.caller c.args.now c.args.op.now c.args.self.now.refused.items c.noted-refusal.new.refused.items c.in-Err.refusal c.noted-refusal.result
    c.in-Err.ensures.at_once c.noted-refusal.ensures.refusal c.noted-refusal.ensures.noted

pub returns-in-Ok-clause-buffered : goal.returns-in-Ok-clause-buffered
returns-in-Ok-clause-buffered g c =
    done_buffered _ (g.B.Backing.state c.args.self.now.backing) (g.B.Backing.state c.call.new.backing) c.args.self.now.kept c.call.new.kept c.args.self.now.refused.items c.args.caller c.args.grant c.args.op.now c.in-Ok.done c.in-Ok.done.0 c.in-Ok.ensures.buffered

pub returns-in-Err-clause-exact : goal.returns-in-Err-clause-exact
returns-in-Err-clause-exact g c =
    inr (record {
      refusal = c.noted-refusal.result;
      told = refl;
      given_back = refl;
      looked = noted_looks (Reply × ℕ) c.args.op.now c.in-Err.refusal c.noted-refusal.result c.noted-refusal.ensures.refusal c.in-Err.ensures.looked;
      closed = c.in-Err.ensures.closed;
    })

pub returns-in-Ok-clause-exact : goal.returns-in-Ok-clause-exact
returns-in-Ok-clause-exact g c =
    let e = c.in-Ok.ensures in
    inl (record { done = e.done; given_back = e.left; looked = λ asks. e.looked (inl asks); idle = e.idle })

pub returns-in-Ok-clause-left : goal.returns-in-Ok-clause-left
returns-in-Ok-clause-left g c = let e = c.in-Ok.ensures.left in omega (arith, e)

pub returns-in-Ok-clause-others : goal.returns-in-Ok-clause-others
returns-in-Ok-clause-others g c = c.in-Ok.ensures.others

pub returns-in-Err-clause-others : goal.returns-in-Err-clause-others
returns-in-Err-clause-others g c = c.in-Err.ensures.others

pub returns-in-Err-clause-weighed : goal.returns-in-Err-clause-weighed
returns-in-Err-clause-weighed g c =
    refusal_told (Reply × ℕ) (2 * pages_in c.args.op.now + nodes_asked (present (g.B.Backing.state c.args.self.now.backing).tree c.args.self.now.kept) c.args.caller c.args.now c.args.op.now) (max 2 (nodes_asked (present (g.B.Backing.state c.args.self.now.backing).tree c.args.self.now.kept) c.args.caller c.args.now c.args.op.now)) c.in-Err.refusal c.noted-refusal.result (g.B.Backing.state c.args.self.now.backing) (g.B.Backing.state c.call.new.backing) c.args.self.now.kept c.call.new.kept c.noted-refusal.ensures.refusal c.in-Err.ensures.grows

pub returns-in-Ok-clause-weighed : goal.returns-in-Ok-clause-weighed
returns-in-Ok-clause-weighed g c =
    reply_told (2 * pages_in c.args.op.now + nodes_asked (present (g.B.Backing.state c.args.self.now.backing).tree c.args.self.now.kept) c.args.caller c.args.now c.args.op.now) (max 2 (nodes_asked (present (g.B.Backing.state c.args.self.now.backing).tree c.args.self.now.kept) c.args.caller c.args.now c.args.op.now)) _ (g.B.Backing.state c.args.self.now.backing) (g.B.Backing.state c.call.new.backing) c.args.self.now.kept c.call.new.kept (done_plain (g.B.Backing.state c.args.self.now.backing) (present (g.B.Backing.state c.args.self.now.backing).tree c.args.self.now.kept) c.args.caller c.args.now c.args.op.now _ c.in-Ok.ensures.done.0 c.args.self.now.ready.sound c.in-Ok.ensures.done.1) c.in-Ok.ensures.grows

pub returns-in-Err-clause-cut : goal.returns-in-Err-clause-cut
returns-in-Err-clause-cut g c =
    call_noted (g.B.Backing.state c.args.self.now.backing) (g.B.Backing.state c.call.new.backing) c.args.self.now.kept c.args.caller c.args.now c.args.op.now c.in-Err.refusal c.noted-refusal.result c.noted-refusal.ensures.refusal c.in-Err.ensures.cut

pub returns-in-Ok-clause-cut : goal.returns-in-Ok-clause-cut
returns-in-Ok-clause-cut g c =
    call_replied (g.B.Backing.state c.args.self.now.backing) (g.B.Backing.state c.call.new.backing) c.args.self.now.kept c.args.caller c.args.now c.args.op.now _
    (done_plain (g.B.Backing.state c.args.self.now.backing) (present (g.B.Backing.state c.args.self.now.backing).tree c.args.self.now.kept) c.args.caller c.args.now c.args.op.now _ c.in-Ok.ensures.done.0 c.args.self.now.ready.sound c.in-Ok.ensures.done.1) c.in-Ok.ensures.cut

pub returns-in-Ok-clause-at_once : goal.returns-in-Ok-clause-at_once
returns-in-Ok-clause-at_once g c = λ is done out room. (refl, (c.in-Ok.ensures.at_once is done out room).1)
