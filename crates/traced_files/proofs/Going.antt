-- A history goes on: by a caller's call, with a line more, and by work between them, without one.
use Rattle.std.proofs.Common.{◌≡◌, ◌⊎◌, inl, inr, ℕ, ◌+◌, ◌*◌, ◌≤◌, Bool, true, false, cond, ◌||◌, List, [], ◌∷◌, ◌++◌, length, Ok, Err, Some, None, refl, sym, ap, subst, ◌∙◌, arith}
use Rattle.std.specs.Prelude.{◌-◌, Option, if◌then◌else◌, nat_lt, filter, ◌==◌}
use Rattle.std.specs.BTreeMap.{is_at}
use Rattle.std.specs.Map.{keys_of, lookup}
use Rattle.std.specs.Ordering.{nat_cmp}
use Rattle.std.proofs.lemmas.Bool.Decides.{nat_tests}
use Rattle.std.proofs.lemmas.List.{append-nil, length-append}
use Rattle.ubifs_base.specs.Faults.{Rose}
use Rattle.fs_model.specs.declared.backing_answers.Mode.{Mode}
use Rattle.fs_model.specs.declared.backing_answers.Mode.TheVariants.{ReadWrite}
use Rattle.fs_model.specs.declared.change.Change.{Change}
use Rattle.fs_model.specs.declared.op.Op.{Op}
use Rattle.fs_model.specs.declared.op.Op.TheVariants.{OpenFile, Close, Read, Truncate, Write, Fsync, Flush, List as ListDir, Stat, Readlink}
use Rattle.fs_model.specs.declared.refusal.Cause.{Cause}
use Rattle.fs_model.specs.declared.refusal.Cause.TheVariants.{Faulted, Tight}
use Rattle.fs_model.specs.declared.refusal.Scarce.TheVariants.{Space}
use Rattle.fs_model.specs.declared.refusal.NoSpace.{NoSpace}
use Rattle.fs_model.specs.declared.refusal.Refusal.{Refusal}
use Rattle.fs_model.specs.declared.refusal.Refusal.TheVariants.{Einval, Efbig, Enospc, Erofs, Eio, Enomem, Enfile}
use Rattle.fs_model.specs.declared.refusal.Table.TheVariants.{Orphans}
use Rattle.fs_model.specs.declared.reply.Reply.{Reply}
use Rattle.fs_model.specs.declared.reply.Reply.TheVariants.{Count, Refused}
use Rattle.fs_model.specs.declared.space.Need.{Need}
use Rattle.fs_model.specs.declared.trace.TraceLine.{TraceLine}
use Rattle.fs_model.specs.Backing.{orphan_room}
use Rattle.fs_model.specs.Cover.{tree_bytes}
use Rattle.fs_model.specs.Files.{Files, Tree, Inodes, handle_at, inode_at, pages_of}
use Rattle.fs_model.specs.Handles.{is_bad_slot, size_limit, tree_written}
use Rattle.fs_model.specs.Legal.{IsRefusal as IsLegalRefusal, Opening, Place, count_in, least_room, most_asked, next_number, pages_in, plain, read_only_cause, sides_in, whole_bytes}
use Rattle.fs_model.specs.Need.{need_of, truncation_need}
use Rattle.fs_model.specs.Operation.{files_in, group_of, outcome_of, reply_in}
use Rattle.fs_model.specs.Orphan.{leaves_orphan, nameless}
use Rattle.fs_model.specs.Outcome.{Outcome, refuse, with_inode, with_open}
use Rattle.fs_model.specs.Same.{trimmed_blocks}
use Rattle.fs_laws.specs.Sound.{IsCall, IsMoment, IsSound}
use Rattle.buffered_files.specs.Alike.{IsAlike}
use Rattle.buffered_files.specs.Present.{newly_dirty}
use Rattle.credited_files.specs.Calls.{needs_room}
use Rattle.vfs_ops.specs.declared.event.Event.TheVariants.{Call}
use Rattle.vfs_ops.specs.declared.event.Outcome.TheVariants.{Replied}
use Rattle.vfs_ops.specs.FilesState.{FilesState, present_in}
use Rattle.vfs_ops.specs.Kinds.{is_late}
use Rattle.vfs_ops.specs.Passing.{IsCallStep}
use Rattle.vfs_ops.specs.Replies.{holds_bytes, is_refusal}
use Rattle.vfs_ops.specs.Writing.{BuffersReply}
use Rattle.vfs_ops.specs.Steps.{IsAnswered, IsDone, IsLast, IsReady, IsRefusal, IsRefusedFor, IsTurnedDown, allowed_on, asked, no_space_in}
use Rattle.traced_files.specs.Laws.{AreLaws}
use Rattle.traced_files.specs.History.{IsRoomAsked, IsRoomTold, IsWithinWeight, files_after_line, grown_weight}
use Rattle.traced_files.proofs.Answering.{IsChanging, IsCounted, IsDoneAlike, IsDowned, IsOverfull, alike_done, alike_refused, allowed_done, allowed_refused, asked_by, asked_none, counts_none, counts_one, downed, open_of, sides_told, tells_count, tells_room, told_none}
use Rattle.traced_files.proofs.Lines.{IsLine}
use Rattle.traced_files.proofs.Replaying.{done_after, refused_after}
use Rattle.traced_files.proofs.Sides.{IsFull, are_sides, room_told, whole_most}

pub alike_then : (a b c : Files) → IsAlike a b → IsAlike b c → IsAlike a c
alike_then a b c h k = record {
  inodes = h.inodes ∙ k.inodes;
  blocks = h.blocks ∙ k.blocks;
  entries = h.entries ∙ k.entries;
  highest = h.highest ∙ k.highest;
  handles = h.handles ∙ k.handles;
  sizes = λ ino inode found file.
      let same : inode_at a.tree ino ≡ inode_at b.tree ino = ap (λ (inodes : Inodes). lookup (is_at (nat_cmp ino)) inodes) h.inodes in
      h.sizes ino inode found file ∙ k.sizes ino inode (sym same ∙ found) file;
}

-- What a caller's step is: what was asked, and what is known of it beside what it says.
pub record Stepped : Type 0 where
  pub old : FilesState
  pub new : FilesState
  pub line : TraceLine
  pub grant : ℕ
  pub left : ℕ

pub record IsMadeCall (opening : Opening) (s : Stepped) : Type 0 where
  pub step : IsCallStep s.old s.new (Call s.line.caller s.line.now s.grant s.line.op) (Replied s.line.reply s.left)
  pub moment : IsMoment s.line.now
  pub call : IsCall s.line.op
  pub ready : IsReady s.old.backing s.old.kept
  pub after : IsReady s.new.backing s.new.kept
  pub used : s.new.backing.space.used ≡ tree_bytes s.new.backing.tree
  pub main : s.new.backing.space.main ≡ s.old.backing.space.main
  pub paid : s.grant ≤ pages_in s.line.op
  pub few : needs_room s.grant s.line.op ≡ true → s.old.backing.space.credits ≤ length s.old.kept.pages.dirty + s.grant + 17 * (opening.callers - 1)

-- What a call makes of a place: a line in the mode before or after it, and files that callers can't tell from the present ones.
pub record WasEntered (opening : Opening) (place : Place) (s : Stepped) : Type 0 where
  pub after : Files
  pub one : IsLine opening s.old.backing.mode place s.line after ⊎ IsLine opening s.new.backing.mode place s.line after
  pub replayed : after ≡ files_after_line place.files s.line
  pub same : IsAlike after (present_in s.new)
  pub sound : IsSound after
  pub refused : s.new.refused ≡ s.old.refused ++ sides_in s.line
  pub asked : IsRoomAsked s.line
  pub room : IsRoomTold opening place s.line
  pub counts : IsCounted s.old.backing.faults s.new.backing.faults (count_in s.line)

-- how many inodes have no name
abbrev lost_in : Inodes → ℕ
lost_in inodes = length (keys_of (filter (λ e. e.1.nlink == 0) inodes))

pub orphan_same : (a b c d : Files) → IsAlike a b → IsAlike c d → leaves_orphan a c ≡ leaves_orphan b d
orphan_same a b c d h k =
    ap (λ (i : Inodes). nat_lt (lost_in i) (length (nameless c.tree))) h.inodes ∙ ap (λ (i : Inodes). nat_lt (length (nameless b.tree)) (lost_in i)) k.inodes

no_sides : (reply : Reply) → is_refusal reply ≡ false → no_space_in reply ≡ []
no_sides (Refused refusal) e = absurd cc
no_sides reply e = refl

no_count : (reply : Reply) → is_refusal reply ≡ false → tells_count reply ≡ false
no_count (Refused refusal) e = absurd cc
no_count reply e = refl

no_count_early : (refusal : Refusal) → is_late refusal ≡ false → tells_count (Refused refusal) ≡ false
no_count_early (Eio count) e = absurd cc
no_count_early refusal e = refl

no_room : (reply : Reply) → is_refusal reply ≡ false → tells_room reply ≡ false
no_room (Refused refusal) e = absurd cc
no_room reply e = refl

no_room_early : (refusal : Refusal) → is_late refusal ≡ false → tells_room (Refused refusal) ≡ false
no_room_early (Enospc space) e = absurd cc
no_room_early refusal e = refl

-- the volume failed in no call that left the store as one that can be written
abbrev pub IsUnfailed : Reply → Type 0
IsUnfailed reply = (count : ℕ) → reply ≡ Refused (Eio count) → ⊥

-- where callers can't tell a place's files from the present ones, and its line has the next number
pub record IsReached (opening : Opening) (place : Place) (s : Stepped) : Type 0 where
  pub sound : IsSound place.files
  pub same : IsAlike place.files (present_in s.old)
  pub number : s.line.number ≡ next_number place.before s.line.caller
  pub geometry : s.old.backing.geometry ≡ opening.geometry
  pub main : s.old.backing.space.main ≡ opening.space.main
  pub limit : s.old.backing.orphan_limit ≡ opening.orphan_limit
  pub orphans : opening.orphan_room ≤ orphan_room s.old.backing + place.orphans
  pub within : s.old.backing.mode ≡ ReadWrite → IsUnfailed s.line.reply → IsWithinWeight opening (place.before ++ s.line ∷ []) s.new.backing s.new.kept

entered_done : (opening : Opening) (place : Place) (s : Stepped) → AreLaws → IsMadeCall opening s → IsReached opening place s → read_only_cause s.old.backing.mode s.line.op ≡ None
    → IsDone (allowed_on s.old.backing (present_in s.old) s.line.caller s.line.now s.line.op) (present_in s.new) s.line.reply → s.new.refused ≡ s.old.refused → WasEntered opening place s
entered_done opening place s laws h r closed done kept =
    let f : Files = place.files in
    let c : ℕ = s.line.caller in
    let n : ℕ = s.line.now in
    let op : Op = s.line.op in
    let seen : Files = done.0 in
    let there : outcome_of (present_in s.old) c n op ≡ Ok (s.line.reply, seen) = allowed_done (orphan_room s.old.backing) s.old.backing.orphan_limit (present_in s.old) c n op (s.line.reply, seen) done.1 in
    let alike = laws.answer f (present_in s.old) c n op r.sound h.ready.sound.proper r.same in
    let here : IsDoneAlike (outcome_of f c n op) s.line.reply seen = alike_done (outcome_of f c n op) (outcome_of (present_in s.old) c n op) s.line.reply seen alike there in
    let no : is_refusal s.line.reply ≡ false = laws.told (present_in s.old) c n op s.line.reply seen h.ready.sound there in
    record {
      after = here.after;
      one = inl (record { number = r.number; answer = inl (record { done = closed; told = sym (ap reply_in here.done); left = sym (ap (files_in f) here.done) }) });
      replayed = sym (done_after f s.line no ∙ ap (files_in f) here.done);
      same = alike_then here.after seen (present_in s.new) here.same done.2;
      sound = subst (λ (o : Outcome). IsSound (files_in f o)) here.done (laws.sound f c n op r.sound h.moment h.call).sound;
      refused = kept ∙ sym (append-nil s.old.refused) ∙ ap (λ (x : List NoSpace). s.old.refused ++ x) (sym (sides_told s.line ∙ no_sides s.line.reply no));
      asked = asked_none s.line (no_room s.line.reply no);
      room = told_none opening place s.line (no_room s.line.reply no);
      counts = inl (counts_none s.line (no_count s.line.reply no));
    }

-- why a line is refused, and what it counts
pub record IsTold (opening : Opening) (place : Place) (s : Stepped) : Type 0 where
  pub one : IsLine opening s.old.backing.mode place s.line place.files ⊎ IsLine opening s.new.backing.mode place s.line place.files
  pub asked : IsRoomAsked s.line
  pub room : IsRoomTold opening place s.line
  pub counts : IsCounted s.old.backing.faults s.new.backing.faults (count_in s.line)

told_as : (opening : Opening) (place : Place) (s : Stepped) (mode : Mode) (refusal : Refusal) → s.line.number ≡ next_number place.before s.line.caller → s.line.reply ≡ Refused refusal → IsLegalRefusal opening place mode s.line refusal → IsLine opening mode place s.line place.files
told_as opening place s mode refusal number told why = record { number = number; answer = inr (record { refusal = refusal; told = told; why = why; same = refl }) }

-- refused as the plain operation is
told_plain : (opening : Opening) (place : Place) (s : Stepped) (refusal : Refusal) → AreLaws → IsMadeCall opening s → IsReached opening place s → read_only_cause s.old.backing.mode s.line.op ≡ None → s.line.reply ≡ Refused refusal
    → outcome_of (present_in s.old) s.line.caller s.line.now s.line.op ≡ Err refusal → IsTold opening place s
told_plain opening place s refusal laws h r closed told there =
    let f : Files = place.files in
    let c : ℕ = s.line.caller in
    let n : ℕ = s.line.now in
    let op : Op = s.line.op in
    let alike = laws.answer f (present_in s.old) c n op r.sound h.ready.sound.proper r.same in
    let here : outcome_of f c n op ≡ Err refusal = alike_refused (outcome_of f c n op) (outcome_of (present_in s.old) c n op) refusal alike there in
    let early = laws.early f c n op refusal here in
    record {
      one = inl (record { number = r.number; answer = inl (record { done = closed; told = told ∙ sym (ap reply_in here); left = sym (ap (files_in f) here) }) });
      asked = asked_none s.line (ap tells_room told ∙ no_room_early refusal early);
      room = told_none opening place s.line (ap tells_room told ∙ no_room_early refusal early);
      counts = inl (counts_none s.line (ap tells_count told ∙ no_count_early refusal early));
    }

-- refused since no orphan more can be told of
told_overfull : (opening : Opening) (place : Place) (s : Stepped) (refusal : Refusal) → AreLaws → IsMadeCall opening s → IsReached opening place s → s.line.reply ≡ Refused refusal
    → IsOverfull (orphan_room s.old.backing) s.old.backing.orphan_limit (present_in s.old) (outcome_of (present_in s.old) s.line.caller s.line.now s.line.op) refusal → IsTold opening place s
told_overfull opening place s refusal laws h r told full =
    let f : Files = place.files in
    let c : ℕ = s.line.caller in
    let n : ℕ = s.line.now in
    let op : Op = s.line.op in
    let alike = laws.answer f (present_in s.old) c n op r.sound h.ready.sound.proper r.same in
    let here : IsDoneAlike (outcome_of f c n op) full.found.0 full.found.1 = alike_done (outcome_of f c n op) (outcome_of (present_in s.old) c n op) full.found.0 full.found.1 alike full.plain_is in
    let orphan : leaves_orphan f (files_in f (outcome_of f c n op)) ≡ true =
    ap (λ (o : Outcome). leaves_orphan f (files_in f o)) here.done ∙ orphan_same f (present_in s.old) here.after full.found.1 r.same here.same ∙ full.orphan in
    let refusal_is : s.line.reply ≡ Refused (Enfile Orphans s.old.backing.orphan_limit) = told ∙ ap Refused full.told in
    record {
      one = inl (told_as opening place s s.old.backing.mode (Enfile Orphans s.old.backing.orphan_limit) r.number refusal_is (((full.found.0, here.after), here.done), orphan, omega (arith, r.orphans, full.none), r.limit));
      asked = asked_none s.line (ap tells_room refusal_is);
      room = told_none opening place s.line (ap tells_room refusal_is);
      counts = inl (counts_none s.line (ap tells_count refusal_is));
    }

-- what an operation asks for, with credits for a write's pages beside its grant
abbrev AsksAs : ℕ → Op → Need → Need → Type 0
AsksAs grant op need plain = (need.bytes ≡ plain.bytes) × (need.nodes ≡ plain.nodes) × (need.class ≡ plain.class) × (grant ≤ pages_in op → need.credits + grant ≤ pages_in op)

cut_credits : (group : List Change) → (truncation_need group).credits ≡ 0
cut_credits [] = refl
cut_credits (set ∷ []) = refl
cut_credits (set ∷ cut ∷ rest) = refl

asked_is : (files : Files) (caller now grant : ℕ) (op : Op) → AsksAs grant op (asked files caller now grant op) (need_of files caller now op)
asked_is files caller now grant (Write slot offs len byte) = (refl, refl, refl, λ le. omega (arith, le))
asked_is files caller now grant (Truncate slot size) = let none = cut_credits (group_of files caller now (Truncate slot size)) in (refl, refl, refl, λ le. omega (arith, le, none))
asked_is files caller now grant op = (refl, refl, refl, λ le. omega (arith, le))

pub fewer : {A : Type 0} (p : A → Bool) (xs : List A) → length (filter p xs) ≤ length xs
fewer p [] = omega arith
fewer p (x ∷ xs) = by (p x) (fewer p xs)
  where
    by : (b : Bool) → length (filter p xs) ≤ length xs → length (cond b (x ∷ filter p xs) (filter p xs)) ≤ length (x ∷ xs)
    by true le = omega (arith, le)
    by false le = omega (arith, le)

-- a write that is done is one to a file that is open
pub open_for : (files : Files) (caller now slot offs len byte : ℕ) (done : Reply × Files) → outcome_of files caller now (Write slot offs len byte) ≡ Ok done → (ino : ℕ) × (handle_at files caller slot ≡ Some ino)
open_for files caller now slot offs len byte done is = by (is_bad_slot slot || nat_lt 65536 len) (handle_at files caller slot) refl is
  where
    by : (bad : Bool) (found : Option ℕ) → handle_at files caller slot ≡ found → refuse bad Einval (with_open found (λ ino.
        with_inode files ino (λ inode.
        refuse (nat_lt size_limit (offs + len)) Efbig
        (Ok (Count len, if len == 0 then files else record files { tree = tree_written files.tree ino inode now offs len byte }))))) ≡ Ok done → (ino : ℕ) × (handle_at files caller slot ≡ Some ino)
    by true found at e = absurd cc
    by false None at e = absurd cc
    by false (Some ino) at e = (ino, at)

-- What is refused for want of room may ask for room: a write whose grant pays all pages isn't.
asks_room : {opening : Opening} (s : Stepped) → IsMadeCall opening s → IsChanging s.line.op → (sides : NoSpace) → s.line.reply ≡ Refused (Enospc sides) → s.new.refused ≡ s.old.refused ++ no_space_in s.line.reply
    → (done : Reply × Files) × (allowed_on s.old.backing (present_in s.old) s.line.caller s.line.now s.line.op ≡ Ok done) → needs_room s.grant s.line.op ≡ true
asks_room s h changing sides told noted done =
    by s.line.op changing h.step.buffered (allowed_done (orphan_room s.old.backing) s.old.backing.orphan_limit (present_in s.old) s.line.caller s.line.now s.line.op done.0 done.1)
  where
    one_more : (xs : List NoSpace) (x : NoSpace) → xs ++ x ∷ [] ≡ xs → ⊥
    one_more xs x e = let same = ap length e in let long = length-append xs (x ∷ []) in absurd (omega (arith, same, long))

    noted_one : s.new.refused ≡ s.old.refused ++ sides ∷ []
    noted_one = noted ∙ ap (λ (r : Reply). s.old.refused ++ no_space_in r) told

    short : (slot offs len byte : ℕ) (b : Bool) → nat_lt s.grant (length (pages_of offs len)) ≡ b → BuffersReply s.old.backing s.new.backing s.old.kept s.new.kept s.old.refused s.new.refused s.line.caller s.grant (Write slot offs len byte) s.line.reply
        → outcome_of (present_in s.old) s.line.caller s.line.now (Write slot offs len byte) ≡ Ok done.0 → b ≡ true
    short slot offs len byte true is buffers there = refl
    short slot offs len byte false is buffers there =
        let held = open_for (present_in s.old) s.line.caller s.line.now slot offs len byte done.0 there in
        let few : newly_dirty s.old.kept.pages.dirty held.0 offs len ≤ length (pages_of offs len) = fewer _ (pages_of offs len) in
        let paid : newly_dirty s.old.kept.pages.dirty held.0 offs len ≤ s.grant = grind (arith, nat_tests, is, few) in
        absurd (one_more s.old.refused sides (sym noted_one ∙ (buffers held.0 held.1 (inl paid)).room))

    by : (op : Op) → IsChanging op → BuffersReply s.old.backing s.new.backing s.old.kept s.new.kept s.old.refused s.new.refused s.line.caller s.grant op s.line.reply → outcome_of (present_in s.old) s.line.caller s.line.now op ≡ Ok done.0 → needs_room s.grant op ≡ true
    by (OpenFile path slot) changing buffers there = let f = changing (Faulted 0) in absurd cc
    by (Close slot) changing buffers there = let f = changing (Faulted 0) in absurd cc
    by (Read slot offs len) changing buffers there = let f = changing (Faulted 0) in absurd cc
    by (ListDir path) changing buffers there = let f = changing (Faulted 0) in absurd cc
    by (Stat path) changing buffers there = let f = changing (Faulted 0) in absurd cc
    by (Readlink path) changing buffers there = let f = changing (Faulted 0) in absurd cc
    by (Fsync slot) changing buffers there = let f = changing (Tight Space 0 0) in absurd cc
    by Flush changing buffers there = let f = changing (Tight Space 0 0) in absurd cc
    by (Write slot offs len byte) changing buffers there = short slot offs len byte (nat_lt s.grant (length (pages_of offs len))) refl buffers there
    by op changing buffers there = refl

-- want of room is no fault, and tells its sides alone
no_fault : (sides : NoSpace) (count : ℕ) → Refused (Enospc sides) ≡ Refused (Eio count) → ⊥
no_fault sides count e = absurd cc

same_sides : (sides other : NoSpace) → Refused (Enospc sides) ≡ Refused (Enospc other) → sides ≡ other
same_sides sides other e = cc

-- refused for want of room
told_full : (opening : Opening) (place : Place) (s : Stepped) (sides : NoSpace) → AreLaws → IsMadeCall opening s → IsReached opening place s → read_only_cause s.old.backing.mode s.line.op ≡ None → s.line.reply ≡ Refused (Enospc sides)
    → s.new.refused ≡ s.old.refused ++ no_space_in s.line.reply → IsAlike (present_in s.old) (present_in s.new) → (done : Reply × Files) × (allowed_on s.old.backing (present_in s.old) s.line.caller s.line.now s.line.op ≡ Ok done)
    → IsDowned s.old.backing s.new.backing s.new.kept (asked (present_in s.old) s.line.caller s.line.now s.grant s.line.op) s.line.op (Enospc sides) → IsTold opening place s
told_full opening place s sides laws h r closed told noted same done why =
    let f : Files = place.files in
    let c : ℕ = s.line.caller in
    let n : ℕ = s.line.now in
    let op : Op = s.line.op in
    let there : outcome_of (present_in s.old) c n op ≡ Ok done.0 = allowed_done (orphan_room s.old.backing) s.old.backing.orphan_limit (present_in s.old) c n op done.0 done.1 in
    let alike = laws.answer f (present_in s.old) c n op r.sound h.ready.sound.proper r.same in
    let here : IsDoneAlike (outcome_of f c n op) done.0.0 done.0.1 = alike_done (outcome_of f c n op) (outcome_of (present_in s.old) c n op) done.0.0 done.0.1 alike there in
    let need : Need = asked (present_in s.old) c n s.grant op in
    let plain_need : need_of f c n op ≡ need_of (present_in s.old) c n op = laws.need f (present_in s.old) c n op (λ is. r.sound) r.same in
    let asks = asked_is (present_in s.old) c n s.grant op in
    let room = why.1 in
    let no_dirty : length s.new.kept.pages.dirty ≡ 0 = ap length room.3 in
    let clean : (present_in s.new).tree ≡ s.new.backing.tree = laws.clean s.new.backing.tree s.new.kept h.after.kept_fits room.3 in
    let seen : IsAlike f (present_in s.new) = alike_then f (present_in s.old) (present_in s.new) r.same same in
    let whole : tree_bytes s.new.backing.tree ≤ whole_bytes f.tree =
    whole_most s.new.backing.tree f.tree h.after.kept_fits.proper (seen.inodes ∙ ap (λ (t : Tree). t.inodes) clean) (seen.entries ∙ ap (λ (t : Tree). t.entries) clean) (seen.blocks ∙ ap (λ (t : Tree). trimmed_blocks t.blocks) clean) in
    let within = r.within (open_of s.old.backing.mode op closed why.0) (λ count fault. no_fault sides count (sym told ∙ fault)) in
    let used = h.used in
    let issued = h.step.issued in
    let left = h.step.answered.1 in
    let few = h.few (asks_room s h why.0 sides told noted done) in
    let own = asks.3 h.paid in
    let weight = within.weight in
    let full : IsFull opening place s.line sides s.new.backing need = record {
      need_is = room.0;
      room_is = room.1;
      exceeds = room.2;
      held = room.4.held;
      used = omega (arith, whole, used);
      geometry = h.step.goes.geometry ∙ r.geometry;
      main = h.main ∙ r.main;
      credits = omega (arith, issued, left, few, own, no_dirty);
      bytes = asks.0 ∙ sym (ap (λ (x : Need). x.bytes) plain_need);
      nodes = asks.1 ∙ sym (ap (λ (x : Need). x.nodes) plain_need);
      class = asks.2 ∙ sym (ap (λ (x : Need). x.class) plain_need);
      weight = omega (arith, weight);
      index = within.index;
    } in
    record {
      one = inl (told_as opening place s s.old.backing.mode (Enospc sides) r.number told (((done.0.0, here.after), here.done), are_sides opening place s.line sides s.new.backing need full));
      asked = λ other is. asked_by s.grant op (asks_room s h why.0 sides told noted done);
      room = λ other is.
          subst (λ (x : NoSpace). least_room opening (grown_weight opening (place.before ++ s.line ∷ [])) (most_asked opening place s.line) ≤ x.room) (same_sides sides other (sym told ∙ is))
          (room_told opening place s.line sides s.new.backing need full);
      counts = inl (counts_none s.line (ap tells_count told));
    }

-- turned down by the store
told_down : (opening : Opening) (place : Place) (s : Stepped) (refusal : Refusal) → AreLaws → IsMadeCall opening s → IsReached opening place s → read_only_cause s.old.backing.mode s.line.op ≡ None → s.line.reply ≡ Refused refusal
    → s.new.refused ≡ s.old.refused ++ no_space_in s.line.reply → IsAlike (present_in s.old) (present_in s.new) → IsLast (allowed_on s.old.backing (present_in s.old) s.line.caller s.line.now s.line.op) refusal
    → IsDowned s.old.backing s.new.backing s.new.kept (asked (present_in s.old) s.line.caller s.line.now s.grant s.line.op) s.line.op refusal → IsTold opening place s
told_down opening place s (Enospc sides) laws h r closed told noted same last why = told_full opening place s sides laws h r closed told noted same last why
told_down opening place s (Erofs cause) laws h r closed told noted same last why = record {
  one = inr (told_as opening place s s.new.backing.mode (Erofs cause) r.number told (ap (λ (m : Mode). read_only_cause m s.line.op) why.0 ∙ why.1));
  asked = asked_none s.line (ap tells_room told);
  room = told_none opening place s.line (ap tells_room told);
  counts = inl (counts_none s.line (ap tells_count told));
}
told_down opening place s (Eio count) laws h r closed told noted same last why = record {
  one = inr (told_as opening place s s.new.backing.mode (Eio count) r.number told why.2);
  asked = asked_none s.line (ap tells_room told);
  room = told_none opening place s.line (ap tells_room told);
  counts = inr (count, counts_one s.line count told, subst (λ (x : ℕ). Rose s.old.backing.faults x) (sym why.1) why.0, omega (arith, why.1));
}
told_down opening place s Enomem laws h r closed told noted same last why = record {
  one = inl (told_as opening place s s.old.backing.mode Enomem r.number told tt);
  asked = asked_none s.line (ap tells_room told);
  room = told_none opening place s.line (ap tells_room told);
  counts = inl (counts_none s.line (ap tells_count told));
}
told_down opening place s refusal laws h r closed told noted same last why = absurd why

entered_refused : (opening : Opening) (place : Place) (s : Stepped) → AreLaws → IsMadeCall opening s → IsReached opening place s
    → IsRefusal s.old.backing s.new.backing s.new.kept (present_in s.old) s.line.caller s.line.now s.grant s.line.op s.line.reply → s.new.refused ≡ s.old.refused ++ no_space_in s.line.reply → WasEntered opening place s
entered_refused opening place s laws h r refused noted =
    let told = by (read_only_cause s.old.backing.mode s.line.op) refl refused.why in
    record {
      after = place.files;
      one = told.one;
      replayed = sym (refused_after place.files s.line refused.refusal refused.told);
      same = alike_then place.files (present_in s.old) (present_in s.new) r.same refused.same;
      sound = r.sound;
      refused = noted ∙ ap (λ (x : List NoSpace). s.old.refused ++ x) (sym (sides_told s.line));
      asked = told.asked;
      room = told.room;
      counts = told.counts;
    }
  where
    open_told : read_only_cause s.old.backing.mode s.line.op ≡ None → (allowed_on s.old.backing (present_in s.old) s.line.caller s.line.now s.line.op ≡ Err refused.refusal)
        ⊎ (IsTurnedDown s.old.backing s.new.backing s.new.kept (asked (present_in s.old) s.line.caller s.line.now s.grant s.line.op) s.line.op refused.refusal × IsLast (allowed_on s.old.backing (present_in s.old) s.line.caller s.line.now s.line.op) refused.refusal)
        → IsTold opening place s
    open_told closed (inr why) = told_down opening place s refused.refusal laws h r closed refused.told noted refused.same why.1 (downed s.old.backing s.new.backing s.new.kept (asked (present_in s.old) s.line.caller s.line.now s.grant s.line.op) s.line.op refused.refusal h.step.goes.mode why.0)
    open_told closed (inl plain) = plain_told (allowed_refused (orphan_room s.old.backing) s.old.backing.orphan_limit (present_in s.old) s.line.caller s.line.now s.line.op refused.refusal plain)
      where
        plain_told : (outcome_of (present_in s.old) s.line.caller s.line.now s.line.op ≡ Err refused.refusal) ⊎ IsOverfull (orphan_room s.old.backing) s.old.backing.orphan_limit (present_in s.old) (outcome_of (present_in s.old) s.line.caller s.line.now s.line.op) refused.refusal → IsTold opening place s
        plain_told (inl there) = told_plain opening place s refused.refusal laws h r closed refused.told there
        plain_told (inr full) = told_overfull opening place s refused.refusal laws h r refused.told full

    by : (c : Option Cause) → read_only_cause s.old.backing.mode s.line.op ≡ c → IsRefusedFor c s.old.backing s.new.backing s.new.kept (present_in s.old) s.line.caller s.line.now s.grant s.line.op refused.refusal → IsTold opening place s
    by None closed why = open_told closed why
    by (Some cause) closed why = record {
      one = inl (told_as opening place s s.old.backing.mode (Erofs cause) r.number (refused.told ∙ ap Refused why) closed);
      asked = asked_none s.line (ap tells_room (refused.told ∙ ap Refused why));
      room = told_none opening place s.line (ap tells_room (refused.told ∙ ap Refused why));
      counts = inl (counts_none s.line (ap tells_count (refused.told ∙ ap Refused why)));
    }

pub entered : (opening : Opening) (place : Place) (s : Stepped) → AreLaws → IsMadeCall opening s → IsReached opening place s → WasEntered opening place s
entered opening place s laws h r = by h.step.answered.0
  where
    by : IsAnswered s.old.backing s.new.backing s.new.kept (present_in s.old) s.line.caller s.line.now s.grant s.line.op s.line.reply s.old.refused s.new.refused → WasEntered opening place s
    by (inl done) = entered_done opening place s laws h r done.0 done.1 done.2
    by (inr refused) = entered_refused opening place s laws h r refused.0 refused.1

-- the same step, of which another reply is told
abbrev pub with_reply : Stepped → Reply → Stepped
with_reply s reply = record s { line = record s.line { reply = reply } }

-- an answer that holds bytes is told as want of memory: the files were left
pub entered_short : (opening : Opening) (place : Place) (s : Stepped) → AreLaws → IsMadeCall opening s → IsReached opening place s → holds_bytes s.line.reply ≡ true → WasEntered opening place (with_reply s (Refused Enomem))
entered_short opening place s laws h r bytes = by h.step.answered.0
  where
    by : IsAnswered s.old.backing s.new.backing s.new.kept (present_in s.old) s.line.caller s.line.now s.grant s.line.op s.line.reply s.old.refused s.new.refused → WasEntered opening place (with_reply s (Refused Enomem))
    by (inl done) =
        let seen : Files = done.1.0 in
        let there : outcome_of (present_in s.old) s.line.caller s.line.now s.line.op ≡ Ok (s.line.reply, seen) = allowed_done (orphan_room s.old.backing) s.old.backing.orphan_limit (present_in s.old) s.line.caller s.line.now s.line.op (s.line.reply, seen) done.1.1 in
        let left : seen ≡ present_in s.old = laws.bytes (present_in s.old) s.line.caller s.line.now s.line.op s.line.reply seen h.ready.sound there bytes in
        let same : IsAlike (present_in s.old) (present_in s.new) = subst (λ (f : Files). IsAlike f (present_in s.new)) left done.1.2 in
        record {
          after = place.files;
          one = inl (told_as opening place (with_reply s (Refused Enomem)) s.old.backing.mode Enomem r.number refl tt);
          replayed = sym (refused_after place.files (record s.line { reply = Refused Enomem }) Enomem refl);
          same = alike_then place.files (present_in s.old) (present_in s.new) r.same same;
          sound = r.sound;
          refused = done.2 ∙ sym (append-nil s.old.refused) ∙ ap (λ (x : List NoSpace). s.old.refused ++ x) (sym (sides_told (record s.line { reply = Refused Enomem })));
          asked = asked_none (record s.line { reply = Refused Enomem }) refl;
          room = told_none opening place (record s.line { reply = Refused Enomem }) refl;
          counts = inl (counts_none (record s.line { reply = Refused Enomem }) refl);
        }
    by (inr refused) = let told = refused.0.told in absurd cc
