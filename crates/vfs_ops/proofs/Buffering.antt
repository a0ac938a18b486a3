-- What a write takes and leaves, call by call.
use Rattle.std.proofs.Common.{◌≡◌, ℕ, ◌+◌, ◌-◌, ◌/◌, ◌<◌, ◌≤◌, inl, inr, Bool, true, false, cond, List, [], ◌∷◌, length, Some, None, Ok, Err, refl, sym, ap, subst, ◌∙◌, arith}
use Rattle.std.specs.Prelude.{◌==◌, Option, filter, suc, IsTrue, nat_lt}
use Rattle.std.specs.List.{range_with_len}
use Rattle.std.specs.Map.{lookup}
use Rattle.std.specs.BTreeMap.{is_at}
use Rattle.std.specs.Ordering.{nat_cmp}
use Rattle.std.proofs.lemmas.Bool.{cases_lt, false≢true}
use Rattle.std.proofs.lemmas.Bool.Decides.{nat_tests}
use Rattle.std.proofs.lemmas.List.FromFn.{length-range_with_len}
use Rattle.fs_model.specs.declared.inode.Inode.{Inode}
use Rattle.fs_model.specs.declared.inode.Kind.{Kind}
use Rattle.fs_model.specs.declared.inode.Kind.TheVariants.{File, Dir, Symlink, Block, Char, Fifo, Socket}
use Rattle.fs_model.specs.declared.refusal.NoSpace.{NoSpace}
use Rattle.fs_model.specs.declared.refusal.Refusal.{Refusal}
use Rattle.fs_model.specs.declared.refusal.Refusal.TheVariants.{Einval, Efbig, Ebadf}
use Rattle.fs_model.specs.declared.reply.Reply.{Reply}
use Rattle.fs_model.specs.declared.reply.Reply.TheVariants.{Count}
use Rattle.fs_model.specs.declared.space.Need.{Need}
use Rattle.fs_model.specs.Backing.{BackingState, Goes, IsModest, given_back}
use Rattle.fs_model.specs.Cover.{needed, room_for}
use Rattle.fs_model.specs.Files.{Files, inode_at, handle_at, pair_cmp, pages_of}
use Rattle.fs_model.specs.Handles.{is_bad_slot, size_limit, bytes_written, tree_written}
use Rattle.fs_model.specs.Outcome.{Outcome, files_in}
use Rattle.fs_model.specs.Path.{is_dir}
use Rattle.fs_model.specs.Proper.{IsProper, has_kind, same_kind}
use Rattle.fs_laws.specs.Maps.{all_at}
use Rattle.fs_laws.specs.Orders.{pairs}
use Rattle.fs_laws.specs.Sound.{IsSound, LeavesSound}
use Rattle.buffered_files.specs.declared.kept.Kept.{Kept}
use Rattle.buffered_files.specs.Alike.{IsAlike}
use Rattle.buffered_files.specs.CallLaws.{Goes-then, Goes-within}
use Rattle.buffered_files.specs.Calls.{HasCommitted}
use Rattle.buffered_files.specs.Present.{DirtyPages, newly_dirty}
use Rattle.vfs_ops.specs.Writing.{IsBuffered, credits_need, write_need}
use Rattle.vfs_ops.proofs.Admitted.{retyped}
use Rattle.vfs_ops.proofs.Takes.{alike_sound}

fewer : (test : ℕ → Bool) (pages : List ℕ) → length (filter test pages) ≤ length pages
fewer test [] = omega arith
fewer test (page ∷ pages) = by (fewer test pages) (test page)
  where
    by : length (filter test pages) ≤ length pages → (b : Bool) → length (cond b (page ∷ filter test pages) (filter test pages)) ≤ length (page ∷ pages)
    by more true = omega (arith, more)
    by more false = omega (arith, more)

few_pages : (offs len : ℕ) → len ≤ 65536 → length (pages_of offs len) < 4294967296
few_pages offs len few = by (len == 0)
  where
    by : (b : Bool) → length (cond b [] (range_with_len (offs / 4096) (suc ((offs + len - 1) / 4096 - offs / 4096)))) < 4294967296
    by true = omega arith
    by false = let n = length-range_with_len (offs / 4096) (suc ((offs + len - 1) / 4096 - offs / 4096)) in omega (arith, n, few)

-- a write makes few pages dirty
pub few_new : (dirty : DirtyPages) (ino offs len : ℕ) → len ≤ 65536 → newly_dirty dirty ino offs len < 4294967296
few_new dirty ino offs len few =
    let a = few_pages offs len few in
    let b : newly_dirty dirty ino offs len ≤ length (pages_of offs len) = fewer _ (pages_of offs len) in
    omega (arith, a, b)

all_pass : (pages : List ℕ) → length (filter (λ page. true) pages) ≡ length pages
all_pass [] = refl
all_pass (page ∷ pages) = ap (λ n. suc n) (all_pass pages)

-- and all that it touches where none is
pub all_new : (dirty : DirtyPages) (ino offs len : ℕ) → dirty ≡ [] → newly_dirty dirty ino offs len ≡ length (pages_of offs len)
all_new dirty ino offs len none = ap (λ d. newly_dirty d ino offs len) none ∙ all_pass (pages_of offs len)

-- and no fewer than where some are
pub more_new : (before after : DirtyPages) (ino offs len : ℕ) → after ≡ [] → newly_dirty before ino offs len ≤ newly_dirty after ino offs len
more_new before after ino offs len none =
    let all = all_new after ino offs len none in
    let few : newly_dirty before ino offs len ≤ length (pages_of offs len) = fewer _ (pages_of offs len) in
    omega (arith, all, few)

-- what a write asks for is so little that a backing takes the question
pub modest_need : (dirty : DirtyPages) (ino offs len grant newly lacking : ℕ) (need : Need) → len ≤ 65536 → newly ≡ newly_dirty dirty ino offs len → lacking ≡ newly - grant → need ≡ credits_need lacking → IsModest need
modest_need dirty ino offs len grant newly lacking need few counted less asks =
    let n = few_new dirty ino offs len few in
    subst (λ q. IsModest q) (sym asks) (record { credits = omega (arith, n, counted, less); bytes = omega arith; nodes = omega arith })

-- to give credits back puts nothing
pub goes_returned : (n : ℕ) (a b c : BackingState) (credits : ℕ) → Goes n a b → c ≡ given_back b credits → Goes n a c
goes_returned n a b c credits goes same = subst (λ s. Goes n a s) (sym same) record {
  geometry = goes.geometry;
  orphan_limit = goes.orphan_limit;
  mode = goes.mode;
  faults = goes.faults;
  weight = goes.weight;
  index = goes.index;
  nodes_put = goes.nodes_put;
  told = goes.told;
}

-- nor to look
pub goes_seen : (n : ℕ) (a b c : BackingState) → Goes n a b → Goes 0 b c → Goes n a c
goes_seen n a b c first second = Goes-within (n + 0) n a c (omega arith) (Goes-then n 0 a b c first second)

-- files alike to those before a write are alike after it
pub written_seen : (a b after : Files) (ino : ℕ) (inode : Inode) (now offs len byte : ℕ) → IsAlike a b → inode_at a.tree ino ≡ Some inode
    → (inode_at b.tree ino ≡ Some inode → after ≡ record b { tree = tree_written b.tree ino inode now offs len byte })
    → IsAlike (record a { tree = tree_written a.tree ino inode now offs len byte }) (record b { tree = tree_written b.tree ino inode now offs len byte })
    → IsAlike (record a { tree = tree_written a.tree ino inode now offs len byte }) after
written_seen a b after ino inode now offs len byte same found made alike =
    let there : inode_at b.tree ino ≡ Some inode = subst (λ inodes. lookup (is_at (nat_cmp ino)) inodes ≡ Some inode) same.inodes found in
    subst (λ files. IsAlike (record a { tree = tree_written a.tree ino inode now offs len byte }) files) (sym (made there)) alike

-- where no page is dirty a write lacks credits for all that it touches
pub whole_need : (kept : Kept) (ino offs len grant newly lacking : ℕ) (need : Need) → need ≡ credits_need lacking → lacking ≡ newly - grant → newly ≡ newly_dirty kept.pages.dirty ino offs len → kept.pages.dirty ≡ [] → need ≡ write_need offs len grant
whole_need kept ino offs len grant newly lacking need asks less counted none =
    let all = all_new kept.pages.dirty ino offs len none in
    let n : lacking ≡ length (pages_of offs len) - grant = omega (arith, less, counted, all) in
    asks ∙ ap (λ k. credits_need k) n

-- there is no room once no page is dirty
pub no_room : (b c : BackingState) (kept : Kept) (ino offs len grant newly lacking : ℕ) (need : Need) (space : NoSpace) → c ≡ b → need ≡ credits_need lacking → lacking ≡ newly - grant → newly ≡ newly_dirty kept.pages.dirty ino offs len
    → kept.pages.dirty ≡ [] → HasCommitted b → (space.need ≡ needed b.space need) × (space.room ≡ room_for b.geometry b.space need) → (needed b.space need ≤ room_for b.geometry b.space need → ⊥)
    → (space.need ≡ needed c.space (write_need offs len grant)) × (space.room ≡ room_for c.geometry c.space (write_need offs len grant)) × (space.room < space.need) × (kept.pages.dirty ≡ []) × HasCommitted c
no_room b c kept ino offs len grant newly lacking need space same asks less counted none done told fails =
    let whole = whole_need kept ino offs len grant newly lacking need asks less counted none in
    let a = told.0 in
    let b1 = told.1 in
    let more : space.room < space.need = refuted (needed b.space need) (room_for b.geometry b.space need) space.need space.room a b1 fails in
    subst (λ s. (space.need ≡ needed s.space (write_need offs len grant)) × (space.room ≡ room_for s.geometry s.space (write_need offs len grant)) × (space.room < space.need) × (kept.pages.dirty ≡ []) × HasCommitted s) (sym same)
    (subst (λ q. space.need ≡ needed b.space q) whole a, subst (λ q. space.room ≡ room_for b.geometry b.space q) whole b1, more, none, done)
  where
    refuted : (x y m r : ℕ) → m ≡ x → r ≡ y → (x ≤ y → ⊥) → r < m
    refuted x y m r p q never = elim (cases_lt y x) [
      | inl lt ↦ omega (arith, p, q, lt)
      | inr ge ↦ absurd (never (omega (arith, ge)))
    ]

-- a file that is open, with its inode
pub record AtHand (files : Files) (ino : ℕ) : Type 0 where
  pub inode : Inode
  pub found : inode_at files.tree ino ≡ Some inode

pub open_file : (files : Files) (caller slot ino : ℕ) → IsSound files → handle_at files caller slot ≡ Some ino → IsTrue (has_kind files.tree ino File)
open_file files caller slot ino sound found = all_at pair_cmp pairs (λ handle. has_kind files.tree handle.1 File) files.handles (caller, slot) ino sound.handles found

pub at_hand : (files : Files) (ino : ℕ) → IsTrue (has_kind files.tree ino File) → AtHand files ino
at_hand files ino file = by (inode_at files.tree ino) refl
  where
    by : (o : Option Inode) → inode_at files.tree ino ≡ o → AtHand files ino
    by None none = let never = rw none at file in absurd cc
    by (Some inode) found = record { inode = inode; found = found }

-- a regular file is no directory
pub plain_file : (files : Files) (ino : ℕ) (inode : Inode) → IsTrue (has_kind files.tree ino File) → inode_at files.tree ino ≡ Some inode → is_dir inode.kind ≡ false
plain_file files ino inode file found = by inode.kind (rw found at file)
  where
    by : (kind : Kind) → same_kind kind File ≡ true → is_dir kind ≡ false
    by File h = refl
    by Dir h = absurd (false≢true h)
    by Symlink h = refl
    by Block h = refl
    by Char h = refl
    by Fifo h = refl
    by Socket h = refl

-- the answers to a write, one test after another
pub bad_slot : (files : Files) (caller now slot offs len byte : ℕ) → is_bad_slot slot ≡ true → bytes_written files caller now slot offs len byte ≡ Err Einval
bad_slot files caller now slot offs len byte bad = rw bad refl

pub bad_len : (files : Files) (caller now slot offs len byte : ℕ) → is_bad_slot slot ≡ false → nat_lt 65536 len ≡ true → bytes_written files caller now slot offs len byte ≡ Err Einval
bad_len files caller now slot offs len byte good bad = rw (good, bad) refl

pub too_far : (files : Files) (caller now slot offs len byte ino : ℕ) → is_bad_slot slot ≡ false → nat_lt 65536 len ≡ false → handle_at files caller slot ≡ Some ino → AtHand files ino → nat_lt size_limit (offs + len) ≡ true
    → bytes_written files caller now slot offs len byte ≡ Err Efbig
too_far files caller now slot offs len byte ino good few there at far = rw (good, few, there, at.found, far) refl

pub none_written : (files : Files) (caller now slot offs len byte ino : ℕ) → is_bad_slot slot ≡ false → nat_lt 65536 len ≡ false → handle_at files caller slot ≡ Some ino → AtHand files ino → nat_lt size_limit (offs + len) ≡ false
    → len ≡ 0 → bytes_written files caller now slot offs len byte ≡ Ok (Count 0, files)
none_written files caller now slot offs len byte ino good few there at near none = rw (good, few, there, at.found, near) (answer len none)
  where
    told : ℕ → Outcome
    told n = Ok (Count n, cond (n == 0) files (record files { tree = tree_written files.tree ino at.inode now offs n byte }))

    nothing : Outcome
    nothing = Ok (Count 0, files)

    answer : (n : ℕ) → n ≡ 0 → told n ≡ nothing
    answer n zero = ap told zero

pub some_written : (files : Files) (caller now slot offs len byte ino : ℕ) (inode : Inode) → is_bad_slot slot ≡ false → nat_lt 65536 len ≡ false → handle_at files caller slot ≡ Some ino → inode_at files.tree ino ≡ Some inode → nat_lt size_limit (offs + len) ≡ false
    → 0 < len → bytes_written files caller now slot offs len byte ≡ Ok (Count len, record files { tree = tree_written files.tree ino inode now offs len byte })
some_written files caller now slot offs len byte ino inode good few there found near some =
    let more : (len == 0) ≡ false = grind (arith, nat_tests) in
    rw (good, few, there, found, near, more) refl

-- what callers see after a write is sound
pub sound_written : (files after b : Files) (reply : Reply) (outcome : Outcome) → outcome ≡ Ok (reply, after) → LeavesSound files (files_in files outcome) → IsAlike after b → IsProper b.tree → IsSound b
sound_written files after b reply outcome is leaves alike proper =
    let sound : IsSound after = subst (λ (o : Outcome). IsSound (files_in files o)) is leaves.sound in
    alike_sound after b alike proper sound

-- nor is it where the slot isn't open
pub unopened : (files : Files) (caller now slot offs len byte : ℕ) → is_bad_slot slot ≡ false → nat_lt 65536 len ≡ false → handle_at files caller slot ≡ None → bytes_written files caller now slot offs len byte ≡ Err Ebadf
unopened files caller now slot offs len byte good fits none = rw (good, fits, none) refl

-- a write of nothing makes no page dirty
pub none_dirty : (dirty : DirtyPages) (ino offs len : ℕ) → len ≡ 0 → length dirty ≡ length dirty + newly_dirty dirty ino offs len
none_dirty dirty ino offs len none =
    let zero : length dirty ≡ length dirty + newly_dirty dirty ino offs 0 = omega arith in
    subst (λ n. length dirty ≡ length dirty + newly_dirty dirty ino offs n) (sym none) zero

-- a write that is refused is kept in memory whatever it would have answered
pub buffered_err : (T U : Type 0) (old new : BackingState) (kept after : Kept) (ino offs len : ℕ) (refusal : Refusal) → IsBuffered {T = T} old new kept after ino offs len (Err refusal) → IsBuffered {T = U} old new kept after ino offs len (Err refusal)
buffered_err T U old new kept after ino offs len refusal buffered =
    record { geometry = buffered.geometry; tree = buffered.tree; journal = buffered.journal; room = retyped T U refusal buffered.room; dirty = tt; refused = buffered.refused }
