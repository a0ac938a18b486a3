use Rattle.std.proofs.Common.{◌≡◌, ℕ, ◌*◌, ◌-◌, ap, arith, inl, length, refl, rules, sym, ◌∙◌}
use Rattle.buffered_files.specs.Present.{present}
use Rattle.vfs_ops.proofs.Cutting.{cut_given, cut_then_looked}
use Rattle.vfs_ops.proofs.Admitted.{paid_then}
use Rattle.vfs_ops.proofs.Buffering.{goes_returned, goes_seen, plain_file, written_seen}
use Rattle.fs_model.specs.Backing.{BackingState}
use Rattle.fs_model.specs.Files.{pages_of}
use Rattle.buffered_files.specs.CallLaws.{Sure-then}
use Rattle.buffered_files.specs.Calls.{IsWithoutRoom}
use Rattle.buffered_files.specs.Present.{DirtyPages, newly_dirty}
use Rattle.vfs_plans.specs.Answers.{IsFault}
use Rattle.vfs_ops.specs.Writing.{write_need}
use Rattle.vfs_ops.proofs.Covered.{covered_buffered, covers_more, covers_returned, covers_written, fault_buffered, fault_given, issued_returned, issued_written, kept_given, same_given, second_of}
use Rattle.vfs_ops.proofs.States.{credits_on}
use Rattle.vfs_ops.proofs.Orphans.{closed_on}
use Rattle.vfs_ops.proofs.Weighing.{before_look, refused_wider, weigh_given, written}
use Rattle.vfs_ops.proofs.writes.write_some.Goals as goal

pub returns-in-Ok-clause-written : goal.returns-in-Ok-clause-written
returns-in-Ok-clause-written g c inode found =
    let before = present (g.B.Backing.state c.args.backing.now).tree c.args.kept.now in
    let covered = present (g.B.Backing.state c.cover.new.backing).tree c.cover.new.kept in
    written_seen before covered (present (g.B.Backing.state c.write_covered.new.backing).tree c.write_covered.new.kept) c.args.ino inode c.args.now c.args.offs c.args.len c.args.byte c.in_ok-have.ensures.same found (λ there. c.in-Ok.ensures.written inode there)
    (c.written_files_stay_alike.ensures before covered c.args.ino inode c.args.now c.args.offs c.args.len c.args.byte c.requires.some found (plain_file before c.args.ino inode c.requires.file found) c.in_ok-have.ensures.same)

pub returns-in-Ok-clause-goes : goal.returns-in-Ok-clause-goes
returns-in-Ok-clause-goes g c =
    goes_seen (2 * length c.args.kept.now.pages.dirty) (g.B.Backing.state c.args.backing.now) (g.B.Backing.state c.cover.new.backing) (g.B.Backing.state c.write_covered.new.backing) c.cover.ensures.goes c.write_covered.ensures.looks.goes

pub returns-in-Err-clause-goes : goal.returns-in-Err-clause-goes
returns-in-Err-clause-goes g c =
    let n = 2 * length c.args.kept.now.pages.dirty in
    let old = g.B.Backing.state c.args.backing.now in
    let seen = g.B.Backing.state c.write_covered.new.backing in
    goes_returned n old seen (g.B.Backing.state c.give_back.new.self) _ (goes_seen n old (g.B.Backing.state c.cover.new.backing) seen c.cover.ensures.goes c.write_covered.ensures.looks.goes) c.give_back.ensures.given

pub returns-in-Ok-clause-admitted : goal.returns-in-Ok-clause-admitted
returns-in-Ok-clause-admitted g c =
    paid_then (g.B.Backing.state c.args.backing.now) (g.B.Backing.state c.cover.new.backing) (g.B.Backing.state c.write_covered.new.backing) c.args.kept.now c.args.ino c.args.offs c.args.len c.args.grant c.in_ok-have.ensures.admitted c.write_covered.ensures.looks.goes

pub returns-in_err-have-clause-grows : goal.returns-in_err-have-clause-grows
returns-in_err-have-clause-grows g c =
    let f = refused_wider ℕ ℕ 0 (2 * length (pages_of c.args.offs c.args.len)) 2 2 c.in_err-have.field-0.0 (g.B.Backing.state c.args.backing.now) (g.B.Backing.state c.cover.new.backing) c.args.kept.now c.cover.new.kept (omega arith) c.in_err-have.ensures.grows in
    search (rules, f)

pub returns-in-Ok-clause-grows : goal.returns-in-Ok-clause-grows
returns-in-Ok-clause-grows g c =
    written c.cover.new.kept.pages.dirty c.args.ino c.args.offs c.args.len (g.B.Backing.state c.args.backing.now) (g.B.Backing.state c.cover.new.backing) (g.B.Backing.state c.write_covered.new.backing) c.args.kept.now c.cover.new.kept c.write_covered.new.kept c.in_ok-have.ensures.grows refl c.write_covered.ensures.looks.goes c.in-Ok.ensures.count

pub returns-in-Err-clause-grows : goal.returns-in-Err-clause-grows
returns-in-Err-clause-grows g c =
    let same : length c.write_covered.new.kept.pages.dirty ≡ length c.cover.new.kept.pages.dirty = ap (λ (d : DirtyPages). length d) c.in-Err.ensures.dirty in
    let none = before_look 0 (g.B.Backing.state c.args.backing.now) (g.B.Backing.state c.cover.new.backing) (g.B.Backing.state c.write_covered.new.backing) c.args.kept.now c.cover.new.kept c.write_covered.new.kept c.in_ok-have.ensures.grows c.write_covered.ensures.looks.goes (omega (arith, same)) in
    let whole = weigh_given 0 (g.B.Backing.state c.args.backing.now) (g.B.Backing.state c.write_covered.new.backing) (g.B.Backing.state c.give_back.new.self) _ c.args.kept.now c.write_covered.new.kept none c.give_back.ensures.given in
    omega (arith, whole)

pub returns-in-Ok-clause-closed : goal.returns-in-Ok-clause-closed
returns-in-Ok-clause-closed g c = let same = closed_on c.write_covered.ensures.looks in let few = c.cover.ensures.closed in omega (arith, same, few)

pub returns-in-Err-clause-closed : goal.returns-in-Err-clause-closed
returns-in-Err-clause-closed g c =
    let same = closed_on c.write_covered.ensures.looks in
    let given = ap (λ (s : BackingState). s.closed) c.give_back.ensures.given in
    let few = c.cover.ensures.closed in
    omega (arith, same, given, few)

pub returns-in-Ok-clause-cut : goal.returns-in-Ok-clause-cut
returns-in-Ok-clause-cut g c = cut_then_looked c.write_covered.ensures.looks (g.B.Backing.state c.args.backing.now) c.args.kept.now c.cover.ensures.cut

pub returns-in-Err-clause-cut : goal.returns-in-Err-clause-cut
returns-in-Err-clause-cut g c =
    let old = g.B.Backing.state c.args.backing.now in
    cut_given old (g.B.Backing.state c.write_covered.new.backing) (g.B.Backing.state c.give_back.new.self) c.args.kept.now _ (cut_then_looked c.write_covered.ensures.looks old c.args.kept.now c.cover.ensures.cut) c.give_back.ensures.given

pub write_covered-requires-clause-paid : goal.write_covered-requires-clause-paid
write_covered-requires-clause-paid g c = covers_more (g.B.Backing.state c.args.backing.now).space.credits (g.B.Backing.state c.cover.new.backing).space.credits (length c.args.kept.now.pages.dirty) (length c.cover.new.kept.pages.dirty) (newly_dirty c.cover.new.kept.pages.dirty c.args.ino c.args.offs c.args.len) c.args.grant c.in_ok-have.have c.requires.paid c.in_ok-have.ensures.issued c.in_ok-have.ensures.enough

pub returns-in-Ok-clause-paid : goal.returns-in-Ok-clause-paid
returns-in-Ok-clause-paid g c = covers_written (g.B.Backing.state c.args.backing.now).space.credits (g.B.Backing.state c.cover.new.backing).space.credits (g.B.Backing.state c.write_covered.new.backing).space.credits (length c.args.kept.now.pages.dirty) (length c.cover.new.kept.pages.dirty) (length c.write_covered.new.kept.pages.dirty) (newly_dirty c.cover.new.kept.pages.dirty c.args.ino c.args.offs c.args.len) c.args.grant c.in_ok-have.have c.requires.paid c.in_ok-have.ensures.issued c.in_ok-have.ensures.enough c.in-Ok.ensures.count (credits_on c.write_covered.ensures.looks)

pub returns-in-Ok-clause-left : goal.returns-in-Ok-clause-left
returns-in-Ok-clause-left g c = c.saturating_sub.ensures ∙ ap (λ n. c.args.grant - n) c.newly-touched.ensures

pub returns-in-Ok-clause-issued : goal.returns-in-Ok-clause-issued
returns-in-Ok-clause-issued g c =
    let left : c.saturating_sub.result ≡ c.args.grant - newly_dirty c.args.kept.now.pages.dirty c.args.ino c.args.offs c.args.len = c.saturating_sub.ensures ∙ ap (λ n. c.args.grant - n) c.newly-touched.ensures in
    issued_written (g.B.Backing.state c.args.backing.now).space.credits (g.B.Backing.state c.cover.new.backing).space.credits (g.B.Backing.state c.write_covered.new.backing).space.credits (length c.args.kept.now.pages.dirty) (length c.cover.new.kept.pages.dirty) (length c.write_covered.new.kept.pages.dirty) (newly_dirty c.cover.new.kept.pages.dirty c.args.ino c.args.offs c.args.len) c.args.grant c.in_ok-have.have c.saturating_sub.result c.in_ok-have.ensures.issued c.in_ok-have.ensures.enough (c.in_ok-have.ensures.exact ∙ sym left) c.in-Ok.ensures.count (credits_on c.write_covered.ensures.looks)

pub returns-in-Ok-clause-sure : goal.returns-in-Ok-clause-sure
returns-in-Ok-clause-sure g c = Sure-then (g.B.Backing.outlook c.args.backing.now) (g.B.Backing.outlook c.cover.new.backing) (g.B.Backing.outlook c.write_covered.new.backing) (g.B.Backing.state c.args.backing.now) (g.B.Backing.state c.cover.new.backing) (g.B.Backing.state c.write_covered.new.backing) c.cover.ensures.sure c.write_covered.ensures.looks.sure

pub returns-in-Ok-clause-buffered : goal.returns-in-Ok-clause-buffered
returns-in-Ok-clause-buffered g c room = covered_buffered c.write_covered.ensures.looks (g.B.Backing.state c.args.backing.now) c.args.kept.now c.cover.new.kept c.write_covered.new.kept c.args.ino c.args.offs c.args.len c.in_ok-have.have c.saturating_sub.result (c.in_ok-have.ensures.covered room) c.in-Ok.ensures.count

pub returns-in-Err-clause-kept : goal.returns-in-Err-clause-kept
returns-in-Err-clause-kept g c = kept_given (g.B.Backing.state c.write_covered.new.backing) (g.B.Backing.state c.give_back.new.self) _ c.write_covered.new.kept c.give_back.ensures.given c.write_covered.ensures.kept

pub returns-in-Err-clause-still_issued : goal.returns-in-Err-clause-still_issued
returns-in-Err-clause-still_issued g c = issued_returned (g.B.Backing.state c.args.backing.now).space.credits (g.B.Backing.state c.cover.new.backing).space.credits (g.B.Backing.state c.write_covered.new.backing).space.credits (g.B.Backing.state c.give_back.new.self).space.credits (length c.args.kept.now.pages.dirty) (length c.cover.new.kept.pages.dirty) (length c.write_covered.new.kept.pages.dirty) c.args.grant c.in_ok-have.have c.requires.paid c.in_ok-have.ensures.issued c.in_ok-have.ensures.more (ap (λ (d : DirtyPages). length d) c.in-Err.ensures.dirty) (credits_on c.write_covered.ensures.looks) (ap (λ (s : BackingState). s.space.credits) c.give_back.ensures.given)

pub returns-in-Err-clause-paid : goal.returns-in-Err-clause-paid
returns-in-Err-clause-paid g c = covers_returned (g.B.Backing.state c.args.backing.now).space.credits (g.B.Backing.state c.give_back.new.self).space.credits (length c.args.kept.now.pages.dirty) (length c.write_covered.new.kept.pages.dirty) c.args.grant c.requires.paid (issued_returned (g.B.Backing.state c.args.backing.now).space.credits (g.B.Backing.state c.cover.new.backing).space.credits (g.B.Backing.state c.write_covered.new.backing).space.credits (g.B.Backing.state c.give_back.new.self).space.credits (length c.args.kept.now.pages.dirty) (length c.cover.new.kept.pages.dirty) (length c.write_covered.new.kept.pages.dirty) c.args.grant c.in_ok-have.have c.requires.paid c.in_ok-have.ensures.issued c.in_ok-have.ensures.more (ap (λ (d : DirtyPages). length d) c.in-Err.ensures.dirty) (credits_on c.write_covered.ensures.looks) (ap (λ (s : BackingState). s.space.credits) c.give_back.ensures.given))

pub returns-in-Err-clause-same : goal.returns-in-Err-clause-same
returns-in-Err-clause-same g c = same_given (g.B.Backing.state c.write_covered.new.backing) (g.B.Backing.state c.give_back.new.self) _ (present (g.B.Backing.state c.args.backing.now).tree c.args.kept.now) (present (g.B.Backing.state c.cover.new.backing).tree c.cover.new.kept) c.write_covered.new.kept c.give_back.ensures.given c.in-Err.ensures.same c.in_ok-have.ensures.same

pub returns-in-Err-clause-refused : goal.returns-in-Err-clause-refused
returns-in-Err-clause-refused g c = inl (fault_given (2 * length c.args.kept.now.pages.dirty) (g.B.Backing.state c.args.backing.now) (g.B.Backing.state c.cover.new.backing) (g.B.Backing.state c.write_covered.new.backing) (g.B.Backing.state c.give_back.new.self) _ c.in-Err.refusal c.cover.ensures.goes c.give_back.ensures.given c.in-Err.ensures.refused)

pub returns-in-Err-clause-buffered : goal.returns-in-Err-clause-buffered
returns-in-Err-clause-buffered g c room = fault_buffered c.write_covered.ensures.looks (g.B.Backing.state c.args.backing.now) (g.B.Backing.state c.give_back.new.self) c.args.kept.now c.cover.new.kept c.write_covered.new.kept c.args.ino c.args.offs c.args.len c.in_ok-have.have _ c.in-Err.refusal (c.in_ok-have.ensures.covered room) c.in-Err.ensures.dirty c.give_back.ensures.given c.in-Err.ensures.refused

pub returns-in_err-have-clause-buffered : goal.returns-in_err-have-clause-buffered
returns-in_err-have-clause-buffered g c room = absurd (c.in_err-have.ensures.covered room).ok

pub returns-in_err-have-clause-same : goal.returns-in_err-have-clause-same
returns-in_err-have-clause-same g c = let same = c.in_err-have.ensures.same in search (rules, same)

pub returns-in_err-have-clause-still_issued : goal.returns-in_err-have-clause-still_issued
returns-in_err-have-clause-still_issued g c = let same = c.in_err-have.ensures.still_issued in search (rules, same)

pub returns-in_err-have-clause-refused : goal.returns-in_err-have-clause-refused
returns-in_err-have-clause-refused g c =
    let r = c.in_err-have.field-0.0 in
    let refused = second_of (IsFault (g.B.Backing.state c.args.backing.now) (g.B.Backing.state c.cover.new.backing) r) (IsWithoutRoom (g.B.Backing.state c.args.backing.now) (g.B.Backing.state c.cover.new.backing) c.cover.new.kept (write_need c.args.offs c.args.len c.args.grant) r) c.in_err-have.ensures.refused in
    search (rules, refused)
