use Rattle.std.proofs.Common.{◌+◌, ◌++◌, ap, arith, length, refl, sym, ◌∙◌}
use Rattle.std.specs.Prelude.{if◌then◌else◌}
use Rattle.ubifs_base.specs.RawOf.{raw_of}
use Rattle.fs_model.specs.declared.reply.Reply.{Reply}
use Rattle.fs_model.specs.Backing.{next_orphans, orphan_room}
use Rattle.fs_model.specs.Orphan.{leaves_orphan}
use Rattle.plain_backing.specs.PlainBacking.{backing_state_of}
use Rattle.vfs_ops.specs.declared.event.Outcome.TheVariants.{Replied}
use Rattle.vfs_ops.specs.Steps.{Passage, asked, no_space_in}
use Rattle.traced_files.proofs.Answering.{allowed_done}
use Rattle.script_run.specs.Run.{script_line_of, nodes_added, nodes_for, orphans_told}
use Rattle.script_run.specs.Sessions.{mounted_over}
use Rattle.script_run.proofs.Admitting.{admitted_of}
use Rattle.script_run.proofs.Answering.{answer_of, asks_of, exact_of, grows_of, issued_of, no_room, steady_next, told_of, weighed_of, written_of}
use Rattle.script_run.proofs.AtOnce.{over}
use Rattle.script_run.proofs.Covering.{steady_covers}
use Rattle.script_run.proofs.Growth.{grown_of}
use Rattle.script_run.proofs.Leaving.{stored_left, told_journal}
use Rattle.script_run.proofs.Storing.{still_of, stored_of}
use Rattle.vfs_ops.proofs.Truncating.{few_asked}
use Rattle.script_run.proofs.session.replied.Goals as goal

pub returns-clause-steady : goal.returns-clause-steady
returns-clause-steady c =
    let old = backing_state_of c.args.fs.now.backing in
    let new = backing_state_of c.stepped-reply.new.fs.backing in
    let before = c.args.fs.now.kept in
    let after = c.stepped-reply.new.fs.kept in
    let reply = c.stepped-reply.result in
    let left = c.stepped-reply.ensures.step.0 in
    let step = c.stepped-reply.ensures.step.1 in
    let told = told_of old new before after _ _ c.args.caller c.args.now c.args.op (Replied reply left) reply left refl step.answered in
    let issued = issued_of new.space.credits (length before.pages.dirty) old.space.credits (length after.pages.dirty) (Replied reply left) reply left refl step.issued in
    steady_next (raw_of c.args.fs.now.backing.geo) c.args.fs.now.backing c.stepped-reply.new.fs.backing before after _ left c.requires.steady step.goes c.stepped-reply.ensures.sure issued told.1

pub stepped-reply-requires-clause-grant : goal.stepped-reply-requires-clause-grant
stepped-reply-requires-clause-grant c =
    let paid = c.requires.steady.credits in
    omega (arith, paid)

pub returns-clause-written : goal.returns-clause-written
returns-clause-written c =
    let reply = c.stepped-reply.result in
    let left = c.stepped-reply.ensures.step.0 in
    written_of (backing_state_of c.args.fs.now.backing) (backing_state_of c.stepped-reply.new.fs.backing) c.args.fs.now.kept c.stepped-reply.new.fs.kept c.args.caller c.args.now c.args.op (Replied reply left) reply left c.requires.steady.mode refl
    c.stepped-reply.ensures.step.1.written

pub returns-clause-replied : goal.returns-clause-replied
returns-clause-replied c =
    let geo = raw_of c.args.fs.now.backing.geo in
    let old = c.args.fs.now.backing in
    let new = c.stepped-reply.new.fs.backing in
    let before = c.args.fs.now.kept in
    let after = c.stepped-reply.new.fs.kept in
    let was = mounted_over old before c.args.now in
    let here = mounted_over new after c.args.now in
    let reply = c.stepped-reply.result in
    let left = c.stepped-reply.ensures.step.0 in
    let step = c.stepped-reply.ensures.step.1 in
    let steady = returns-clause-steady c in
    let fits = c.stepped-reply.new.fs.ready.kept_fits in
    let clean = c.clean_files_are_those_of_the_backing.ensures (backing_state_of new).tree after in
    let nameless = c.present_files_are_sound.ensures.nameless in
    let told = told_of (backing_state_of old) (backing_state_of new) before after _ _ c.args.caller c.args.now c.args.op (Replied reply left) reply left refl step.answered in
    let first = over old before c.args.fs.now.refused.items in
    let last = over new after c.stepped-reply.new.fs.refused.items in
    let passage : Passage = record { old = backing_state_of old; new = backing_state_of new; before = before; after = after } in
    record {
      answer = answer_of geo (backing_state_of old) (backing_state_of new) after was here c.args.caller c.args.op reply first.refused last.refused
          (record {
            was = c.requires.steady.mode;
            is = steady.mode;
            faults_were = c.requires.steady.faults;
            faults = steady.faults;
            limit = c.requires.steady.orphans;
            orphans = ap (λ n. n + (backing_state_of old).closed) (sym (nameless (backing_state_of old).tree before c.args.fs.now.ready.kept_fits));
          })
          (no_room geo (backing_state_of old) new after c.args.now steady fits clean)
          (λ sides turned done there refused noted. asks_of (backing_state_of old) (backing_state_of new) before after c.args.caller c.args.now c.args.op reply first.refused last.refused sides (asked was.files c.args.caller c.args.now 0 c.args.op) turned done
          (allowed_done (orphan_room (backing_state_of old)) (backing_state_of old).orphan_limit was.files c.args.caller c.args.now c.args.op done there) (noted ∙ ap (λ (r : Reply). first.refused ++ no_space_in r) refused) step.at_once
          step.buffered)
          (sym c.is_memory.ensures ∙ c.if-is_memory.false) refl told.0;
      orphans = grows_of (orphans_told was) (orphans_told here) (next_orphans (backing_state_of old)) (next_orphans (backing_state_of new)) (if leaves_orphan was.files here.files then 1 else 0)
          (ap (λ n. n + (backing_state_of old).closed) (nameless (backing_state_of old).tree before c.args.fs.now.ready.kept_fits)) (ap (λ n. n + (backing_state_of new).closed) (nameless (backing_state_of new).tree after fits))
          step.orphans;
      under = record { kept = after; fits = fits; seen = refl };
      synced = stored_of old new before after c.args.now c.args.caller c.args.op reply fits clean (written_of (backing_state_of old) (backing_state_of new) before after c.args.caller c.args.now c.args.op (Replied reply left) reply left c.requires.steady.mode refl step.written);
      left = c.a_line_leaves_what_was_seen.ensures first last (script_line_of was c.args.caller c.args.op reply) 0 left c.requires.steady.mode (omega arith) c.requires.call c.args.fs.now.ready c.stepped-reply.new.fs.ready (told_journal old) (told_journal new) step;
      stored = stored_left new;
      still = still_of passage c.args.caller c.args.now c.args.op reply left c.a_plain_answer_is_no_refusal.ensures c.args.fs.now.ready.sound (exact_of passage c.args.caller c.args.now c.args.op (Replied reply left) reply left refl step.exact);
      grown = grown_of old new before after c.args.now (nodes_added was c.args.caller c.args.op reply) (nodes_for was c.args.caller c.args.op) _
          (weighed_of passage c.args.caller c.args.now c.args.op (Replied reply left) reply left refl step.weighed) step.goes (omega arith);
      few = few_asked was.files c.args.caller c.args.now c.args.op c.args.fs.now.ready.sound;
      covered = steady_covers geo new after c.args.now fits steady;
      admitted = admitted_of geo (backing_state_of old) (backing_state_of new) before c.args.caller c.args.now c.args.op reply
          (record {
            fits = c.args.fs.now.ready.kept_fits;
            geometry = refl;
            main = refl;
            used = refl;
            credits = c.requires.steady.credits;
            goes = step.goes;
          })
          step.admitted;
    }
