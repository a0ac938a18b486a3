use Rattle.std.proofs.Common.{◌≡◌, ℕ, ◌*◌, length, inl, sym, refl, ◌∙◌, arith, Some, Ok, Err, rules}
use Rattle.fs_model.specs.declared.reply.Reply.TheVariants.{Count}
use Rattle.fs_model.specs.Files.{Files, handle_at}
use Rattle.fs_model.specs.Handles.{bytes_written, tree_written}
use Rattle.buffered_files.specs.CallLaws.{Sure-none}
use Rattle.buffered_files.specs.Present.{present}
use Rattle.vfs_ops.specs.Writing.{HasRoom, IsBuffered, WasPaid, write_need}
use Rattle.vfs_ops.proofs.Cutting.{cut_same}
use Rattle.vfs_ops.proofs.Admitted.{none_new}
use Rattle.vfs_ops.proofs.Buffering.{at_hand, bad_len, bad_slot, buffered_err, none_dirty, none_written, open_file, some_written, sound_written, too_far, unopened}
use Rattle.vfs_ops.proofs.Flushing.{same_open}
use Rattle.vfs_ops.proofs.Held.{goes_none, grows_none, no_more}
use Rattle.vfs_ops.proofs.Looking.{either_late, none_left, same_looks, write_left}
use Rattle.vfs_ops.proofs.Serving.{alike_self}
use Rattle.vfs_ops.proofs.Takes.{alike_on, alike_sound, last_done, refused_last}
use Rattle.fs_model.specs.declared.reply.Reply.{Reply}
use Rattle.fs_model.specs.Files.{pages_of}
use Rattle.vfs_ops.proofs.Weighing.{refused_wider}
use Rattle.vfs_ops.proofs.writes.write.Goals as goal

pub returns-then-is_bad_slot-clause-refused : goal.returns-then-is_bad_slot-clause-refused
returns-then-is_bad_slot-clause-refused g c =
    inl (inl (bad_slot (present (g.B.Backing.state c.args.backing.now).tree c.args.kept.now) c.args.caller c.args.now c.args.slot c.args.offs c.args.len c.args.byte (sym c.is_bad_slot.ensures ∙ c.if-is_bad_slot.true)))

pub returns-then-is_bad_len-clause-refused : goal.returns-then-is_bad_len-clause-refused
returns-then-is_bad_len-clause-refused g c =
    inl (inl (bad_len (present (g.B.Backing.state c.args.backing.now).tree c.args.kept.now) c.args.caller c.args.now c.args.slot c.args.offs c.args.len c.args.byte (sym c.is_bad_slot.ensures ∙ c.if-is_bad_slot.false) (sym c.is_bad_len.ensures ∙ c.if-is_bad_len.true)))

pub returns-then-ends_too_far-clause-refused : goal.returns-then-ends_too_far-clause-refused
returns-then-ends_too_far-clause-refused g c =
    let files = present (g.B.Backing.state c.args.backing.now).tree c.args.kept.now in
    let there : handle_at files c.args.caller c.args.slot ≡ Some c.in-Some.ino = sym c.get.ensures ∙ c.in-Some.is in
    let at = at_hand files c.in-Some.ino (open_file files c.args.caller c.args.slot c.in-Some.ino c.requires.sound there) in
    inl (inl (too_far files c.args.caller c.args.now c.args.slot c.args.offs c.args.len c.args.byte c.in-Some.ino (sym c.is_bad_slot.ensures ∙ c.if-is_bad_slot.false) (sym c.is_bad_len.ensures ∙ c.if-is_bad_len.false) there at (sym c.ends_too_far.ensures ∙ c.if-ends_too_far.true)))

pub returns-then-len-eq0-clause-done : goal.returns-then-len-eq0-clause-done
returns-then-len-eq0-clause-done g c =
    let tree = (g.B.Backing.state c.args.backing.now).tree in
    let files = present tree c.args.kept.now in
    let there : handle_at files c.args.caller c.args.slot ≡ Some c.in-Some.ino = sym c.get.ensures ∙ c.in-Some.is in
    let at = at_hand files c.in-Some.ino (open_file files c.args.caller c.args.slot c.in-Some.ino c.requires.sound there) in (
      files,
      none_written files c.args.caller c.args.now c.args.slot c.args.offs c.args.len c.args.byte c.in-Some.ino (sym c.is_bad_slot.ensures ∙ c.if-is_bad_slot.false) (sym c.is_bad_len.ensures ∙ c.if-is_bad_len.false) there at (sym c.ends_too_far.ensures ∙ c.if-ends_too_far.false) c.if-len-eq0.true,
      alike_on tree tree c.args.kept.now refl,
    )

pub write_some-requires-clause-file : goal.write_some-requires-clause-file
write_some-requires-clause-file g c =
    open_file (present (g.B.Backing.state c.args.backing.now).tree c.args.kept.now) c.args.caller c.args.slot c.in-Some.ino c.requires.sound (sym c.get.ensures ∙ c.in-Some.is)

pub returns-in_err-left-clause-sound : goal.returns-in_err-left-clause-sound
returns-in_err-left-clause-sound g c =
    let tree = (g.B.Backing.state c.write_some.new.backing).tree in
    alike_sound (present (g.B.Backing.state c.args.backing.now).tree c.args.kept.now) (present tree c.write_some.new.kept) c.in_err-left.ensures.same (c.present_files_are_sound.ensures.proper tree c.write_some.new.kept c.write_some.ensures.kept) c.requires.sound

pub returns-clause-done : goal.returns-clause-done
returns-clause-done g c =
    let files = present (g.B.Backing.state c.args.backing.now).tree c.args.kept.now in
    let there : handle_at files c.args.caller c.args.slot ≡ Some c.in-Some.ino = sym c.get.ensures ∙ c.in-Some.is in
    let at = at_hand files c.in-Some.ino (open_file files c.args.caller c.args.slot c.in-Some.ino c.requires.sound there) in (
      record files { tree = tree_written files.tree c.in-Some.ino at.inode c.args.now c.args.offs c.args.len c.args.byte },
      some_written files c.args.caller c.args.now c.args.slot c.args.offs c.args.len c.args.byte c.in-Some.ino at.inode (sym c.is_bad_slot.ensures ∙ c.if-is_bad_slot.false) (sym c.is_bad_len.ensures ∙ c.if-is_bad_len.false) there at.found (sym c.ends_too_far.ensures ∙ c.if-ends_too_far.false) (let some = c.if-len-eq0.false in omega (arith, some)),
      c.in_ok-left.ensures.written at.inode at.found,
    )

pub returns-clause-sound : goal.returns-clause-sound
returns-clause-sound g c =
    let files = present (g.B.Backing.state c.args.backing.now).tree c.args.kept.now in
    let tree = (g.B.Backing.state c.write_some.new.backing).tree in
    let there : handle_at files c.args.caller c.args.slot ≡ Some c.in-Some.ino = sym c.get.ensures ∙ c.in-Some.is in
    let at = at_hand files c.in-Some.ino (open_file files c.args.caller c.args.slot c.in-Some.ino c.requires.sound there) in
    let after : Files = record files { tree = tree_written files.tree c.in-Some.ino at.inode c.args.now c.args.offs c.args.len c.args.byte } in
    let answer = some_written files c.args.caller c.args.now c.args.slot c.args.offs c.args.len c.args.byte c.in-Some.ino at.inode (sym c.is_bad_slot.ensures ∙ c.if-is_bad_slot.false) (sym c.is_bad_len.ensures ∙ c.if-is_bad_len.false) there at.found (sym c.ends_too_far.ensures ∙ c.if-ends_too_far.false) (let some = c.if-len-eq0.false in omega (arith, some)) in
    sound_written files after (present tree c.write_some.new.kept) (Count c.args.len) (bytes_written files c.args.caller c.args.now c.args.slot c.args.offs c.args.len c.args.byte) answer
    (c.a_write_keeps_trees_proper.ensures files c.args.caller c.args.now c.args.slot c.args.offs c.args.len c.args.byte c.requires.sound c.ranges.now.fits c.ranges.byte.fits) (c.in_ok-left.ensures.written at.inode at.found)
    (c.present_files_are_sound.ensures.proper tree c.write_some.new.kept c.write_some.ensures.kept)

pub returns-in_err-left-clause-refused : goal.returns-in_err-left-clause-refused
returns-in_err-left-clause-refused g c =
    let old = g.B.Backing.state c.args.backing.now in
    let files = present old.tree c.args.kept.now in
    let there : handle_at files c.args.caller c.args.slot ≡ Some c.in-Some.ino = sym c.get.ensures ∙ c.in-Some.is in
    let at = at_hand files c.in-Some.ino (open_file files c.args.caller c.args.slot c.in-Some.ino c.requires.sound there) in
    let after : Files = record files { tree = tree_written files.tree c.in-Some.ino at.inode c.args.now c.args.offs c.args.len c.args.byte } in
    let answer = some_written files c.args.caller c.args.now c.args.slot c.args.offs c.args.len c.args.byte c.in-Some.ino at.inode (sym c.is_bad_slot.ensures ∙ c.if-is_bad_slot.false) (sym c.is_bad_len.ensures ∙ c.if-is_bad_len.false) there at.found (sym c.ends_too_far.ensures ∙ c.if-ends_too_far.false) (let some = c.if-len-eq0.false in omega (arith, some)) in
    let plain = bytes_written files c.args.caller c.args.now c.args.slot c.args.offs c.args.len c.args.byte in
    let refused = refused_last old (g.B.Backing.state c.write_some.new.backing) c.write_some.new.kept (write_need c.args.offs c.args.len c.args.grant) plain c.in_err-left.field-0.0 (last_done plain (Count c.args.len, after) c.in_err-left.field-0.0 answer) c.in_err-left.ensures.refused in
    search (rules, refused)

pub returns-then-len-eq0-clause-admitted : goal.returns-then-len-eq0-clause-admitted
returns-then-len-eq0-clause-admitted g c ino found = inl (none_new c.args.kept.now.pages.dirty ino c.args.offs c.args.len c.args.grant c.if-len-eq0.true)

pub returns-clause-admitted : goal.returns-clause-admitted
returns-clause-admitted g c ino found =
    same_open (λ i. WasPaid (g.B.Backing.state c.args.backing.now) (g.B.Backing.state c.write_some.new.backing) c.args.kept.now i c.args.offs c.args.len c.args.grant) _ c.in-Some.ino ino (sym c.get.ensures ∙ c.in-Some.is) found c.in_ok-left.ensures.admitted

pub returns-then-len-eq0-clause-left : goal.returns-then-len-eq0-clause-left
returns-then-len-eq0-clause-left g c = none_left c.args.kept.now c.args.caller c.args.grant c.args.slot c.args.offs c.args.len c.args.byte c.if-len-eq0.true

pub returns-clause-left : goal.returns-clause-left
returns-clause-left g c =
    write_left c.args.kept.now c.args.caller c.args.grant c.args.slot c.args.offs c.args.len c.args.byte c.in-Some.ino c.in_ok-left.left (sym c.get.ensures ∙ c.in-Some.is) c.in_ok-left.ensures.left

pub returns-in_err-left-clause-early : goal.returns-in_err-left-clause-early
returns-in_err-left-clause-early g c =
    let need = write_need c.args.offs c.args.len c.args.grant in
    let late = either_late (g.B.Backing.state c.args.backing.now) (g.B.Backing.state c.write_some.new.backing) c.write_some.new.kept need c.in_err-left.field-0.0 c.in_err-left.ensures.refused in
    search (rules, late)

pub returns-in_err-left-clause-grows : goal.returns-in_err-left-clause-grows
returns-in_err-left-clause-grows g c =
    let n = 2 * length (pages_of c.args.offs c.args.len) in
    let f = refused_wider ℕ (Reply × ℕ) n n 2 2 c.in_err-left.field-0.0 (g.B.Backing.state c.args.backing.now) (g.B.Backing.state c.write_some.new.backing) c.args.kept.now c.write_some.new.kept (no_more 2) c.in_err-left.ensures.grows in
    search (rules, f)

pub returns-then-is_bad_slot-clause-cut : goal.returns-then-is_bad_slot-clause-cut
returns-then-is_bad_slot-clause-cut g c = cut_same (g.B.Backing.state c.args.backing.now) (g.B.Backing.state c.args.backing.now) c.args.kept.now refl

pub returns-then-is_bad_len-clause-cut : goal.returns-then-is_bad_len-clause-cut
returns-then-is_bad_len-clause-cut g c = cut_same (g.B.Backing.state c.args.backing.now) (g.B.Backing.state c.args.backing.now) c.args.kept.now refl

pub returns-in_default-clause-cut : goal.returns-in_default-clause-cut
returns-in_default-clause-cut g c = cut_same (g.B.Backing.state c.args.backing.now) (g.B.Backing.state c.args.backing.now) c.args.kept.now refl

pub returns-then-ends_too_far-clause-cut : goal.returns-then-ends_too_far-clause-cut
returns-then-ends_too_far-clause-cut g c = cut_same (g.B.Backing.state c.args.backing.now) (g.B.Backing.state c.args.backing.now) c.args.kept.now refl

pub returns-then-len-eq0-clause-cut : goal.returns-then-len-eq0-clause-cut
returns-then-len-eq0-clause-cut g c = cut_same (g.B.Backing.state c.args.backing.now) (g.B.Backing.state c.args.backing.now) c.args.kept.now refl

pub returns-then-is_bad_slot-clause-goes : goal.returns-then-is_bad_slot-clause-goes
returns-then-is_bad_slot-clause-goes g c = goes_none _ (g.B.Backing.state c.args.backing.now)

pub returns-then-is_bad_slot-clause-grows : goal.returns-then-is_bad_slot-clause-grows
returns-then-is_bad_slot-clause-grows g c = grows_none 0 (g.B.Backing.state c.args.backing.now) c.args.kept.now

pub returns-then-is_bad_slot-clause-sure : goal.returns-then-is_bad_slot-clause-sure
returns-then-is_bad_slot-clause-sure g c = Sure-none (g.B.Backing.outlook c.args.backing.now) (g.B.Backing.state c.args.backing.now)

pub returns-then-is_bad_slot-clause-closed : goal.returns-then-is_bad_slot-clause-closed
returns-then-is_bad_slot-clause-closed g c = no_more (g.B.Backing.state c.args.backing.now).closed

pub returns-then-is_bad_slot-clause-early : goal.returns-then-is_bad_slot-clause-early
returns-then-is_bad_slot-clause-early g c early = same_looks (g.B.Backing.state c.args.backing.now) (g.B.Backing.state c.args.backing.now) c.args.kept.now c.args.kept.now refl refl

pub returns-then-is_bad_slot-clause-same : goal.returns-then-is_bad_slot-clause-same
returns-then-is_bad_slot-clause-same g c = alike_self (present (g.B.Backing.state c.args.backing.now).tree c.args.kept.now)

pub returns-then-is_bad_slot-clause-buffered : goal.returns-then-is_bad_slot-clause-buffered
returns-then-is_bad_slot-clause-buffered g c ino found room = record { geometry = refl; tree = refl; journal = refl; room = tt; dirty = tt; refused = refl }

pub returns-then-is_bad_len-clause-goes : goal.returns-then-is_bad_len-clause-goes
returns-then-is_bad_len-clause-goes g c = goes_none _ (g.B.Backing.state c.args.backing.now)

pub returns-then-is_bad_len-clause-grows : goal.returns-then-is_bad_len-clause-grows
returns-then-is_bad_len-clause-grows g c = grows_none 0 (g.B.Backing.state c.args.backing.now) c.args.kept.now

pub returns-then-is_bad_len-clause-sure : goal.returns-then-is_bad_len-clause-sure
returns-then-is_bad_len-clause-sure g c = Sure-none (g.B.Backing.outlook c.args.backing.now) (g.B.Backing.state c.args.backing.now)

pub returns-then-is_bad_len-clause-closed : goal.returns-then-is_bad_len-clause-closed
returns-then-is_bad_len-clause-closed g c = no_more (g.B.Backing.state c.args.backing.now).closed

pub returns-then-is_bad_len-clause-early : goal.returns-then-is_bad_len-clause-early
returns-then-is_bad_len-clause-early g c early = same_looks (g.B.Backing.state c.args.backing.now) (g.B.Backing.state c.args.backing.now) c.args.kept.now c.args.kept.now refl refl

pub returns-then-is_bad_len-clause-same : goal.returns-then-is_bad_len-clause-same
returns-then-is_bad_len-clause-same g c = alike_self (present (g.B.Backing.state c.args.backing.now).tree c.args.kept.now)

pub returns-then-is_bad_len-clause-buffered : goal.returns-then-is_bad_len-clause-buffered
returns-then-is_bad_len-clause-buffered g c ino found room = record { geometry = refl; tree = refl; journal = refl; room = tt; dirty = tt; refused = refl }

pub returns-in_default-clause-goes : goal.returns-in_default-clause-goes
returns-in_default-clause-goes g c = goes_none _ (g.B.Backing.state c.args.backing.now)

pub returns-in_default-clause-grows : goal.returns-in_default-clause-grows
returns-in_default-clause-grows g c = grows_none 0 (g.B.Backing.state c.args.backing.now) c.args.kept.now

pub returns-in_default-clause-sure : goal.returns-in_default-clause-sure
returns-in_default-clause-sure g c = Sure-none (g.B.Backing.outlook c.args.backing.now) (g.B.Backing.state c.args.backing.now)

pub returns-in_default-clause-closed : goal.returns-in_default-clause-closed
returns-in_default-clause-closed g c = no_more (g.B.Backing.state c.args.backing.now).closed

pub returns-in_default-clause-early : goal.returns-in_default-clause-early
returns-in_default-clause-early g c early = same_looks (g.B.Backing.state c.args.backing.now) (g.B.Backing.state c.args.backing.now) c.args.kept.now c.args.kept.now refl refl

pub returns-in_default-clause-same : goal.returns-in_default-clause-same
returns-in_default-clause-same g c = alike_self (present (g.B.Backing.state c.args.backing.now).tree c.args.kept.now)

pub returns-in_default-clause-buffered : goal.returns-in_default-clause-buffered
returns-in_default-clause-buffered g c ino found room = record { geometry = refl; tree = refl; journal = refl; room = tt; dirty = tt; refused = refl }

pub returns-then-ends_too_far-clause-goes : goal.returns-then-ends_too_far-clause-goes
returns-then-ends_too_far-clause-goes g c = goes_none _ (g.B.Backing.state c.args.backing.now)

pub returns-then-ends_too_far-clause-grows : goal.returns-then-ends_too_far-clause-grows
returns-then-ends_too_far-clause-grows g c = grows_none 0 (g.B.Backing.state c.args.backing.now) c.args.kept.now

pub returns-then-ends_too_far-clause-sure : goal.returns-then-ends_too_far-clause-sure
returns-then-ends_too_far-clause-sure g c = Sure-none (g.B.Backing.outlook c.args.backing.now) (g.B.Backing.state c.args.backing.now)

pub returns-then-ends_too_far-clause-closed : goal.returns-then-ends_too_far-clause-closed
returns-then-ends_too_far-clause-closed g c = no_more (g.B.Backing.state c.args.backing.now).closed

pub returns-then-ends_too_far-clause-early : goal.returns-then-ends_too_far-clause-early
returns-then-ends_too_far-clause-early g c early = same_looks (g.B.Backing.state c.args.backing.now) (g.B.Backing.state c.args.backing.now) c.args.kept.now c.args.kept.now refl refl

pub returns-then-ends_too_far-clause-same : goal.returns-then-ends_too_far-clause-same
returns-then-ends_too_far-clause-same g c = alike_self (present (g.B.Backing.state c.args.backing.now).tree c.args.kept.now)

pub returns-then-ends_too_far-clause-buffered : goal.returns-then-ends_too_far-clause-buffered
returns-then-ends_too_far-clause-buffered g c ino found room = record { geometry = refl; tree = refl; journal = refl; room = tt; dirty = tt; refused = refl }

pub returns-then-len-eq0-clause-goes : goal.returns-then-len-eq0-clause-goes
returns-then-len-eq0-clause-goes g c = goes_none _ (g.B.Backing.state c.args.backing.now)

pub returns-then-len-eq0-clause-grows : goal.returns-then-len-eq0-clause-grows
returns-then-len-eq0-clause-grows g c = grows_none (2 * length (pages_of c.args.offs c.args.len)) (g.B.Backing.state c.args.backing.now) c.args.kept.now

pub returns-then-len-eq0-clause-sure : goal.returns-then-len-eq0-clause-sure
returns-then-len-eq0-clause-sure g c = Sure-none (g.B.Backing.outlook c.args.backing.now) (g.B.Backing.state c.args.backing.now)

pub returns-then-len-eq0-clause-closed : goal.returns-then-len-eq0-clause-closed
returns-then-len-eq0-clause-closed g c = no_more (g.B.Backing.state c.args.backing.now).closed

pub returns-then-len-eq0-clause-early : goal.returns-then-len-eq0-clause-early
returns-then-len-eq0-clause-early g c early = absurd early

pub returns-then-len-eq0-clause-buffered : goal.returns-then-len-eq0-clause-buffered
returns-then-len-eq0-clause-buffered g c ino found room = record { geometry = refl; tree = refl; journal = refl; room = tt; dirty = none_dirty c.args.kept.now.pages.dirty ino c.args.offs c.args.len c.if-len-eq0.true; refused = tt }

pub returns-in_default-clause-refused : goal.returns-in_default-clause-refused
returns-in_default-clause-refused g c = inl (inl (unopened (present (g.B.Backing.state c.args.backing.now).tree c.args.kept.now) c.args.caller c.args.now c.args.slot c.args.offs c.args.len c.args.byte (sym c.is_bad_slot.ensures ∙ c.if-is_bad_slot.false) (sym c.is_bad_len.ensures ∙ c.if-is_bad_len.false) (sym c.get.ensures ∙ c.in_default.is)))

pub returns-clause-early : goal.returns-clause-early
returns-clause-early g c early = absurd early

pub returns-in_err-left-clause-same : goal.returns-in_err-left-clause-same
returns-in_err-left-clause-same g c = let same = c.in_err-left.ensures.same in search (rules, same)

pub returns-in_err-left-clause-still_issued : goal.returns-in_err-left-clause-still_issued
returns-in_err-left-clause-still_issued g c = let same = c.in_err-left.ensures.still_issued in search (rules, same)

pub returns-in_err-left-clause-buffered : goal.returns-in_err-left-clause-buffered
returns-in_err-left-clause-buffered g c ino found room =
    let there = same_open (λ i. HasRoom (g.B.Backing.state c.args.backing.now) c.args.kept.now i c.args.offs c.args.len c.args.grant → IsBuffered {T = ℕ} (g.B.Backing.state c.args.backing.now) (g.B.Backing.state c.write_some.new.backing) c.args.kept.now c.write_some.new.kept i c.args.offs c.args.len (Err c.in_err-left.field-0.0)) _ c.in-Some.ino ino (sym c.get.ensures ∙ c.in-Some.is) found c.in_err-left.ensures.buffered room in
    let buffered = buffered_err ℕ (Reply × ℕ) (g.B.Backing.state c.args.backing.now) (g.B.Backing.state c.write_some.new.backing) c.args.kept.now c.write_some.new.kept ino c.args.offs c.args.len c.in_err-left.field-0.0 there in
    search (rules, buffered)

pub returns-clause-buffered : goal.returns-clause-buffered
returns-clause-buffered g c ino found room =
    let there = same_open (λ i. HasRoom (g.B.Backing.state c.args.backing.now) c.args.kept.now i c.args.offs c.args.len c.args.grant → IsBuffered {T = ℕ} (g.B.Backing.state c.args.backing.now) (g.B.Backing.state c.write_some.new.backing) c.args.kept.now c.write_some.new.kept i c.args.offs c.args.len (Ok c.in_ok-left.left)) _ c.in-Some.ino ino (sym c.get.ensures ∙ c.in-Some.is) found c.in_ok-left.ensures.buffered room in
    record { geometry = there.geometry; tree = there.tree; journal = there.journal; room = tt; dirty = there.dirty; refused = tt }
