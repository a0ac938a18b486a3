use Rattle.std.proofs.Common.{◌≡◌, ℕ, ◌+◌, ◌*◌, Ok, Err, inl, inr, Result, [], ap, refl, sym, subst}
use Rattle.std.specs.Prelude.{OnOk}
use Rattle.ubifs_base.specs.declared.raw_geometry.RawGeometry.{RawGeometry}
use Rattle.fs_model.specs.declared.backing_answers.Mode.TheVariants.{ReadWrite}
use Rattle.fs_model.specs.declared.op.Op.TheVariants.{Flush}
use Rattle.fs_model.specs.declared.reply.Reply.{Reply}
use Rattle.fs_model.specs.declared.reply.Reply.TheVariants.{Done}
use Rattle.fs_model.specs.Files.{Files}
use Rattle.fs_model.specs.Outcome.{Outcome}
use Rattle.buffered_files.specs.Alike.{IsAlike}
use Rattle.plain_backing.specs.PlainBacking.{backing_state_of}
use Rattle.vfs_ops.specs.Events.{HasSynced}
use Rattle.vfs_ops.specs.Operations.{nodes_asked}
use Rattle.vfs_ops.proofs.Truncating.{no_nodes}
use Rattle.script_run.specs.Run.{HasGrown, IsScriptAnswer, ScriptRunning, nodes_added, nodes_for}
use Rattle.script_run.specs.Sessions.{IsSteady, mounted_over}
use Rattle.script_run.proofs.session.flush.Goals as goal

-- the files that an outcome leaves
abbrev left_files : Files → Outcome → Files
left_files files (Ok done) = done.1
left_files files (Err refusal) = files

-- what follows where it is done
on_then : {T E : Type 0} (r : Result T E) (P Q : Type 0) → (P → Q) → OnOk r P → OnOk r Q
on_then (Ok x) P Q then p = then p
on_then (Err e) P Q then p = p

-- callers see the same files behind a flush
same_files : (geo : RawGeometry) (before after : ScriptRunning) (caller : ℕ) (reply : Reply) → IsScriptAnswer geo before caller Flush reply after → IsAlike before.files after.files
same_files geo before after caller reply (inl (files, plain, same)) =
    let is : before.files ≡ files = ap (left_files before.files) plain in
    subst (λ (f : Files). IsAlike f after.files) (sym is) same
same_files geo before after caller reply (inr refusal) = refusal.same

-- a flush that is done adds no node
grown_none : (geo : RawGeometry) (before after : ScriptRunning) (caller : ℕ) (reply : Reply) → reply ≡ Done → HasGrown geo (nodes_added before caller Flush reply) (nodes_for before caller Flush) before after → HasGrown geo 0 0 before after
grown_none geo before after caller reply is grown =
    let none : nodes_asked before.files caller before.now Flush ≡ 0 = no_nodes before.files caller before.now Flush refl refl in
    let done = subst (λ (r : Reply). HasGrown geo (nodes_added before caller Flush r) (nodes_for before caller Flush) before after) is grown in
    subst (λ (n : ℕ). HasGrown geo (2 * 0 + n) n before after) none done

pub returns-clause-steady : goal.returns-clause-steady
returns-clause-steady c =
    let old = c.args.fs.now in
    let new = c.replied.new.fs in
    on_then c.is_done.result (c.in_ok-reply.reply ≡ Done) (IsSteady (backing_state_of old.backing).geometry new.backing new.kept) (λ is. c.in_ok-reply.ensures.steady) c.is_done.ensures

pub returns-clause-pages : goal.returns-clause-pages
returns-clause-pages c =
    let old = c.args.fs.now in
    let new = c.replied.new.fs in
    on_then c.is_done.result (c.in_ok-reply.reply ≡ Done) (new.kept.pages.dirty ≡ []) (λ is. (subst (λ (r : Reply). HasSynced ReadWrite (backing_state_of new.backing) old.kept new.kept 1 Flush r) is c.in_ok-reply.ensures.written).1) c.is_done.ensures

pub returns-clause-inodes : goal.returns-clause-inodes
returns-clause-inodes c =
    let old = c.args.fs.now in
    let new = c.replied.new.fs in
    on_then c.is_done.result (c.in_ok-reply.reply ≡ Done) (new.kept.inodes ≡ []) (λ is. (subst (λ (r : Reply). HasSynced ReadWrite (backing_state_of new.backing) old.kept new.kept 1 Flush r) is c.in_ok-reply.ensures.written).2) c.is_done.ensures

pub returns-clause-files : goal.returns-clause-files
returns-clause-files c =
    let old = c.args.fs.now in
    let new = c.replied.new.fs in
    let was = mounted_over old.backing old.kept 0 in
    let here = mounted_over new.backing new.kept 0 in
    on_then c.is_done.result (c.in_ok-reply.reply ≡ Done) (IsAlike was.files here.files) (λ is. same_files (backing_state_of old.backing).geometry was here 1 c.in_ok-reply.reply c.in_ok-reply.ensures.replied.answer) c.is_done.ensures

pub returns-clause-grown : goal.returns-clause-grown
returns-clause-grown c =
    let old = c.args.fs.now in
    let new = c.replied.new.fs in
    let geo = (backing_state_of old.backing).geometry in
    let was = mounted_over old.backing old.kept 0 in
    let here = mounted_over new.backing new.kept 0 in
    on_then c.is_done.result (c.in_ok-reply.reply ≡ Done) (HasGrown geo 0 0 was here) (λ is. grown_none geo was here 1 c.in_ok-reply.reply is c.in_ok-reply.ensures.replied.grown) c.is_done.ensures
