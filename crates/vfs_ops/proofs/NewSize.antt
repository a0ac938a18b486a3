-- A new size that passes its tests, over a backing that was looked at first.
use Rattle.std.proofs.Common.{◌≡◌, ℕ, ◌+◌, ◌*◌, ◌≤◌, ◌⊎◌, inl, inr, Bool, false, true, length, max, Ok, Err, Some, refl, sym, ap, subst, ◌∙◌, arith, Result}
use Rattle.std.specs.Prelude.{IfOk, IsTrue, OnErr, nat_lt}
use Rattle.std.proofs.lemmas.Bool.{false≢true}
use Rattle.std.specs.BTreeMap.{is_at}
use Rattle.std.specs.Map.{lookup}
use Rattle.std.specs.Ordering.{nat_cmp}
use Rattle.fs_model.specs.declared.inode.Inode.{Inode}
use Rattle.fs_model.specs.declared.inode.Kind.{Kind}
use Rattle.fs_model.specs.declared.inode.Kind.TheVariants.{File, Dir, Symlink, Block, Char, Fifo, Socket}
use Rattle.fs_model.specs.declared.op.Op.TheVariants.{Truncate}
use Rattle.fs_model.specs.declared.refusal.Refusal.{Refusal}
use Rattle.fs_model.specs.declared.refusal.Refusal.TheVariants.{Eio, Enomem}
use Rattle.fs_model.specs.declared.reply.Reply.{Reply}
use Rattle.fs_model.specs.declared.reply.Reply.TheVariants.{Done}
use Rattle.fs_model.specs.declared.space.Need.{Need}
use Rattle.fs_model.specs.Backing.{BackingState, Goes, Outlook}
use Rattle.fs_model.specs.Change.{apply}
use Rattle.fs_model.specs.Files.{Files, handle_at, inode_at, pair_cmp, size_of}
use Rattle.fs_model.specs.Handles.{is_bad_slot, size_limit}
use Rattle.fs_model.specs.Need.{need_of}
use Rattle.fs_model.specs.Operation.{group_of, outcome_of}
use Rattle.fs_model.specs.Orphan.{nameless}
use Rattle.fs_model.specs.Outcome.{Outcome, files_in}
use Rattle.fs_model.specs.Proper.{IsProper, has_kind, same_kind}
use Rattle.fs_model.specs.Truncation.{truncating}
use Rattle.fs_laws.specs.Sound.{IsSound, LeavesSound}
use Rattle.buffered_files.specs.declared.kept.Kept.{Kept}
use Rattle.buffered_files.specs.Alike.{IsAlike}
use Rattle.buffered_files.specs.CallLaws.{Goes-then, Goes-within}
use Rattle.buffered_files.specs.Calls.{GrowsBy, IsWithoutRoom, WasCovered, added_or_refused}
use Rattle.buffered_files.specs.Cuts.{GroupFate, PutsSeenWith}
use Rattle.buffered_files.specs.Present.{present}
use Rattle.buffered_files.specs.Resized.{PutsSize, need_by, size_need}
use Rattle.vfs_plans.specs.Answers.{IsFault, IsRefused, Looks}
use Rattle.vfs_ops.specs.Events.{PutsCall}
use Rattle.vfs_ops.specs.Kinds.{KeepsOrphans}
use Rattle.vfs_ops.specs.Operations.{nodes_asked}
use Rattle.vfs_ops.specs.Steps.{IsLast}
use Rattle.vfs_ops.specs.Writing.{HasGroupRoom, HasRoomAtOnce}
use Rattle.vfs_ops.proofs.Admitted.{covered_looked, room_looked}
use Rattle.vfs_ops.proofs.Buffering.{sound_written}
use Rattle.vfs_ops.proofs.Fewer.{sized_keeps}
use Rattle.vfs_ops.proofs.Orphaning.{Keeps, alike_count, keeps_alike, keeps_few, keeps_one}
use Rattle.vfs_ops.proofs.Serving.{fault_last}
use Rattle.vfs_ops.proofs.Takes.{last_done}
use Rattle.vfs_ops.proofs.States.{room_later}
use Rattle.vfs_ops.proofs.Truncating.{need_by_is, size_planned, sized}
use Rattle.vfs_ops.proofs.Weighing.{after_look}

-- The tests of a new size are passed: the slot is open, its inode is there, and the size isn't too big.
pub record PassesSize (files : Files) (caller now slot size ino : ℕ) (inode : Inode) : Type 0 where
  pub good : is_bad_slot slot ≡ false
  pub there : handle_at files caller slot ≡ Some ino
  pub found : inode_at files.tree ino ≡ Some inode
  pub fits : nat_lt size_limit size ≡ false

pub passes : {files : Files} {caller now slot size ino : ℕ} {inode : Inode} → is_bad_slot slot ≡ false → handle_at files caller slot ≡ Some ino → inode_at files.tree ino ≡ Some inode → nat_lt size_limit size ≡ false → PassesSize files caller now slot size ino inode
passes good there found fits = record { good = good; there = there; found = found; fits = fits }

-- an open file is a regular one
pub file_kind : (files : Files) (ino : ℕ) (inode : Inode) → IsTrue (has_kind files.tree ino File) → inode_at files.tree ino ≡ Some inode → inode.kind ≡ File
file_kind files ino inode file found = by inode.kind (rw found at file)
  where
    by : (kind : Kind) → same_kind kind File ≡ true → kind ≡ File
    by File h = refl
    by Dir h = absurd (false≢true h)
    by Symlink h = absurd (false≢true h)
    by Block h = absurd (false≢true h)
    by Char h = absurd (false≢true h)
    by Fifo h = absurd (false≢true h)
    by Socket h = absurd (false≢true h)

-- the files after it
abbrev pub resized_files : Files → ℕ → Inode → ℕ → ℕ → Files
resized_files files ino inode size now = record files { tree = apply files.tree (truncating files.tree ino inode size now) }

pub size_done : {files : Files} {caller now slot size ino : ℕ} {inode : Inode} → PassesSize files caller now slot size ino inode → outcome_of files caller now (Truncate slot size) ≡ Ok (Done, resized_files files ino inode size now)
size_done {files} {caller} {now} {slot} {size} {ino} {inode} p =
    (sized files caller now slot size (Ok (Done, truncating files.tree ino inode size now)) (size_planned files caller now slot size ino inode p.good p.there p.found p.fits)).outcome

pub size_group : {files : Files} {caller now slot size ino : ℕ} {inode : Inode} → PassesSize files caller now slot size ino inode → group_of files caller now (Truncate slot size) ≡ truncating files.tree ino inode size now
size_group {files} {caller} {now} {slot} {size} {ino} {inode} p =
    (sized files caller now slot size (Ok (Done, truncating files.tree ino inode size now)) (size_planned files caller now slot size ino inode p.good p.there p.found p.fits)).group

pub size_asked : {files : Files} {caller now slot size ino : ℕ} {inode : Inode} → PassesSize files caller now slot size ino inode → need_of files caller now (Truncate slot size) ≡ size_need files.tree ino inode size now
size_asked {files} {caller} {now} {slot} {size} {ino} {inode} p =
    (sized files caller now slot size (Ok (Done, truncating files.tree ino inode size now)) (size_planned files caller now slot size ino inode p.good p.there p.found p.fits)).need

-- a new size asks for nodes, so it has room at the first test
pub size_test : {files : Files} {caller now slot size ino : ℕ} {inode : Inode} → PassesSize files caller now slot size ino inode → (state : BackingState) → HasRoomAtOnce state (need_of files caller now (Truncate slot size)) → HasGroupRoom state (need_of files caller now (Truncate slot size))
size_test p state (inr room) = room
size_test {files} {caller} {now} {slot} {size} {ino} {inode} p state (inl none) =
    let by : need_of files caller now (Truncate slot size) ≡ need_by (nat_lt size (size_of files.tree ino inode)) = size_asked p ∙ need_by_is files.tree ino inode size now in
    absurd (some_nodes (nat_lt size (size_of files.tree ino inode)) (ap (λ (need : Need). need.nodes) (sym by) ∙ none))
  where
    some_nodes : (b : Bool) → (need_by b).nodes ≡ 0 → ⊥
    some_nodes true h = omega (arith, h)
    some_nodes false h = omega (arith, h)

-- and so they are by files that are alike
pub size_seen : {files : Files} {caller now slot size ino : ℕ} {inode : Inode} → PassesSize files caller now slot size ino inode → (seen : Files) → IsAlike files seen → PassesSize seen caller now slot size ino inode
size_seen {files} {caller} {now} {slot} {size} {ino} {inode} p seen alike = record {
  good = p.good;
  there = subst (λ handles. lookup (is_at (pair_cmp (caller, slot))) handles ≡ Some ino) alike.handles p.there;
  found = subst (λ inodes. lookup (is_at (nat_cmp ino)) inodes ≡ Some inode) alike.inodes p.found;
  fits = p.fits;
}

module _ {x y : Outlook} {a b : BackingState} (looks : Looks x y a b) (c : BackingState) (kept : Kept) {caller now slot size ino : ℕ} {inode : Inode} (p : PassesSize (present a.tree kept) caller now slot size ino inode) where
  -- what the operation asks for is what the size does
  asked_mid : size_need (present b.tree kept).tree ino inode size now ≡ need_of (present a.tree kept) caller now (Truncate slot size)
  asked_mid = sym (subst (λ (s : BackingState). need_of (present a.tree kept) caller now (Truncate slot size) ≡ size_need (present s.tree kept).tree ino inode size now) (sym looks.reads) (size_asked p))

  pub size_ok : (after : Files) → IsAlike (resized_files (present b.tree kept) ino inode size now) after → IsAlike (resized_files (present a.tree kept) ino inode size now) after
  size_ok after h = subst (λ (s : BackingState). IsAlike (resized_files (present s.tree kept) ino inode size now) after) looks.reads h

  pub size_admitted : (let need = size_need (present b.tree kept).tree ino inode size now in WasCovered b c kept need need need.nodes)
      → (let need = need_of (present a.tree kept) caller now (Truncate slot size) in WasCovered a c kept need need (nodes_asked (present a.tree kept) caller now (Truncate slot size)))
  size_admitted h =
      let need = size_need (present b.tree kept).tree ino inode size now in
      subst (λ n. WasCovered a c kept n n n.nodes) asked_mid (covered_looked looks c kept need need need.nodes h)

  pub size_room : HasGroupRoom a (need_of (present a.tree kept) caller now (Truncate slot size)) → HasGroupRoom b (size_need (present b.tree kept).tree ino inode size now)
  size_room room = subst (λ n. HasGroupRoom b n) (sym asked_mid) (room_looked looks (need_of (present a.tree kept) caller now (Truncate slot size)) room)

  pub size_refused : (last : Kept) (r : Refusal) → IsWithoutRoom b c last (size_need (present b.tree kept).tree ino inode size now) r
      → IsRefused a c (outcome_of (present a.tree kept) caller now (Truncate slot size)) r ⊎ (IsWithoutRoom a c last (need_of (present a.tree kept) caller now (Truncate slot size)) r × IsLast (outcome_of (present a.tree kept) caller now (Truncate slot size)) r)
  size_refused last r h = inr (
    subst (λ n. IsWithoutRoom a c last n r) asked_mid (room_later looks c last (size_need (present b.tree kept).tree ino inode size now) r h),
    last_done (outcome_of (present a.tree kept) caller now (Truncate slot size)) (Done, resized_files (present a.tree kept) ino inode size now) r (size_done p),
  )

  pub size_cut : (fate : GroupFate) → PutsSize b c kept ino inode size now fate → PutsCall a c kept caller now (Truncate slot size) fate
  size_cut fate h =
      let put : PutsSize a c kept ino inode size now fate = subst (λ (s : BackingState). PutsSize s c kept ino inode size now fate) looks.reads h in
      record {
        seen = put.0;
        alike = put.1;
        cut = subst (λ group. PutsSeenWith a c kept group fate) (sym (size_group (size_seen p put.0 put.1))) put.2;
      }

  pub size_goes : Goes (2 * length kept.pages.dirty + (size_need (present b.tree kept).tree ino inode size now).nodes) b c → Goes (2 * length kept.pages.dirty + nodes_asked (present a.tree kept) caller now (Truncate slot size)) a c
  size_goes h =
      let d = 2 * length kept.pages.dirty in
      let m = (size_need (present b.tree kept).tree ino inode size now).nodes in
      let n = nodes_asked (present a.tree kept) caller now (Truncate slot size) in
      let same : m ≡ n = ap (λ (need : Need). need.nodes) asked_mid in
      Goes-within (0 + (d + m)) (d + n) a c (omega (arith, same)) (Goes-then 0 (d + m) a b c looks.goes h)

  pub size_alone : Goes (size_need (present b.tree kept).tree ino inode size now).nodes b c → Goes (nodes_asked (present a.tree kept) caller now (Truncate slot size)) a c
  size_alone h =
      let m = (size_need (present b.tree kept).tree ino inode size now).nodes in
      let n = nodes_asked (present a.tree kept) caller now (Truncate slot size) in
      let same : m ≡ n = ap (λ (need : Need). need.nodes) asked_mid in
      Goes-within (0 + m) n a c (omega (arith, same)) (Goes-then 0 m a b c looks.goes h)

  pub size_grows : {T : Type 0} (result : Result T Refusal) (last : Kept)
      → (let m = (size_need (present b.tree kept).tree ino inode size now).nodes in GrowsBy (added_or_refused m (max 2 m) result) b c kept last)
      → (let n = nodes_asked (present a.tree kept) caller now (Truncate slot size) in GrowsBy (added_or_refused n (max 2 n) result) a c kept last)
  size_grows {T} result last h =
      let m = (size_need (present b.tree kept).tree ino inode size now).nodes in
      let n = nodes_asked (present a.tree kept) caller now (Truncate slot size) in
      let same : m ≡ n = ap (λ (need : Need). need.nodes) asked_mid in
      subst (λ k. GrowsBy (added_or_refused {T = T} k (max 2 k) result) a c kept last) same (after_look (added_or_refused {T = T} m (max 2 m) result) a b c kept last looks.goes h)

  -- what callers see then is sound
  pub size_sound : (after : Files) → LeavesSound (present a.tree kept) (files_in (present a.tree kept) (outcome_of (present a.tree kept) caller now (Truncate slot size))) → IsAlike (resized_files (present b.tree kept) ino inode size now) after → IsProper after.tree → IsSound after
  size_sound after leaves h proper =
      sound_written (present a.tree kept) (resized_files (present a.tree kept) ino inode size now) after Done (outcome_of (present a.tree kept) caller now (Truncate slot size)) (size_done p) leaves (size_ok after h) proper

-- a fault is a want of room of every need
fault_room : (old new : BackingState) (kept : Kept) (need : Need) (r : Refusal) → IsFault old new r → IsWithoutRoom old new kept need r
fault_room old new kept need (Eio count) h = h
fault_room old new kept need Enomem h = tt
fault_room old new kept need r h = absurd h

-- refused as the definition is, or turned down: for a fault, or at last for want of room
pub size_turned : (old new : BackingState) (kept : Kept) (need : Need) (plain : Outcome) (r : Refusal) → IsRefused old new plain r ⊎ (IsWithoutRoom old new kept need r × IsLast plain r) → (plain ≡ Err r) ⊎ (IsWithoutRoom old new kept need r × IsLast plain r)
size_turned old new kept need plain r (inl (inl told)) = inl told
size_turned old new kept need plain r (inl (inr fault)) = inr (fault_room old new kept need r fault, fault_last old new plain r fault)
size_turned old new kept need plain r (inr room) = inr room

-- a new size leaves all names
pub size_keep : (r : Result Reply Refusal) (old new : BackingState) (before seen : Files) (caller now slot size : ℕ) → IsSound before → length (nameless before.tree) ≡ length (nameless old.tree) → length (nameless seen.tree) ≡ length (nameless new.tree)
    → new.closed ≤ old.closed → IfOk r (λ x. (after : Files) × (outcome_of before caller now (Truncate slot size) ≡ Ok (x, after)) × IsAlike after seen) → OnErr r (IsAlike before seen) → KeepsOrphans old new before seen
size_keep (Ok x) old new before seen caller now slot size sound was is closed done same =
    let few : length (nameless done.0.tree) ≤ length (nameless before.tree) = subst (λ (o : Outcome). Keeps before o) done.1 (sized_keeps before caller now slot size sound) in
    let count = alike_count done.0 seen done.2 in
    keeps_one old new before seen was is closed (omega (arith, few, count))
size_keep (Err refusal) old new before seen caller now slot size sound was is closed done same = keeps_few old new before seen (keeps_alike old new before seen was is closed same)
