-- A slot that is closed, and an inode that goes with its last handle.
use Rattle.std.proofs.Common.{◌≡◌, ℕ, ◌&&◌, not, Bool, true, false, None, Some, Ok, Err, refl, sym, ap, subst, ◌∙◌}
use Rattle.std.specs.Prelude.{◌==◌, IsTrue}
use Rattle.std.proofs.lemmas.Bool.{false≢true}
use Rattle.std.specs.BTreeMap.{is_at}
use Rattle.std.specs.List.{list_any}
use Rattle.std.specs.Map.{remove_entry}
use Rattle.fs_model.specs.declared.refusal.Refusal.TheVariants.{Ebadf, Einval}
use Rattle.fs_model.specs.declared.reply.Reply.TheVariants.{Done}
use Rattle.fs_model.specs.Change.{without_inode}
use Rattle.fs_model.specs.Files.{Tree, Files, Handles, handle_at, pair_cmp}
use Rattle.fs_model.specs.Handles.{closed, is_bad_slot}
use Rattle.fs_model.specs.Orphan.{is_nameless}
use Rattle.fs_model.specs.Outcome.{Outcome, files_in}
use Rattle.fs_laws.specs.Sound.{IsSound, LeavesSound}
use Rattle.buffered_files.specs.declared.kept.Kept.{Kept}
use Rattle.buffered_files.specs.Present.{present, IsKept}

-- files without the handle of a slot are sound
pub closed_sound : (files : Files) (caller slot ino : ℕ) → is_bad_slot slot ≡ false → handle_at files caller slot ≡ Some ino
    → (is_nameless files.tree ino && not (list_any (λ handle. handle.1 == ino) (remove_entry (is_at (pair_cmp (caller, slot))) files.handles))) ≡ false
    → LeavesSound files (files_in files (closed files caller slot)) → IsSound (record files { handles = remove_entry (is_at (pair_cmp (caller, slot))) files.handles })
closed_sound files caller slot ino bad found lost law =
    let out : closed files caller slot ≡ Ok (Done, record files { handles = remove_entry (is_at (pair_cmp (caller, slot))) files.handles }) = rw (bad, found, lost) refl in
    subst (λ (o : Outcome). IsSound (files_in files o)) out law.sound

-- and so are those without its inode, where that is lost
pub lost_sound : (files : Files) (caller slot ino : ℕ) → is_bad_slot slot ≡ false → handle_at files caller slot ≡ Some ino
    → (is_nameless files.tree ino && not (list_any (λ handle. handle.1 == ino) (remove_entry (is_at (pair_cmp (caller, slot))) files.handles))) ≡ true
    → LeavesSound files (files_in files (closed files caller slot)) → IsSound (record { tree = without_inode files.tree ino; handles = remove_entry (is_at (pair_cmp (caller, slot))) files.handles })
lost_sound files caller slot ino bad found lost law =
    let out : closed files caller slot ≡ Ok (Done, record { tree = without_inode files.tree ino; handles = remove_entry (is_at (pair_cmp (caller, slot))) files.handles }) = rw (bad, found, lost) refl in
    subst (λ (o : Outcome). IsSound (files_in files o)) out law.sound

-- what is kept fits the same tree with any handles
pub handles_kept : (t tree : Tree) (kept : Kept) (handles : Handles) → t ≡ tree → IsKept tree kept → IsKept t (record kept { handles = handles })
handles_kept t tree kept handles same is =
    subst (λ s. IsKept s (record kept { handles = handles })) (sym same) (record { proper = is.proper; ascends = is.ascends; inodes = is.inodes; ends = is.ends; pages = is.pages; settled = is.settled; clean = is.clean; covers = is.covers })

-- files over the same tree are sound still
pub handles_sound : (t tree : Tree) (kept : Kept) (handles left : Handles) → t ≡ tree → handles ≡ left → IsSound (record (present tree kept) { handles = left }) → IsSound (present t (record kept { handles = handles }))
handles_sound t tree kept handles left same is sound =
    subst (λ s. IsSound (present s (record kept { handles = handles }))) (sym same) (subst (λ h. IsSound (present tree (record kept { handles = h }))) (sym is) sound)

-- and so are those over a tree from which an inode went
pub dropped_sound : (t tree new : Tree) (kept after : Kept) (handles : Handles) (caller slot ino : ℕ) → t ≡ tree → present new after ≡ record (present t kept) { tree = without_inode (present t kept).tree ino }
    → handles ≡ remove_entry (is_at (pair_cmp (caller, slot))) after.handles
    → IsSound (record { tree = without_inode (present tree kept).tree ino; handles = remove_entry (is_at (pair_cmp (caller, slot))) kept.handles }) → IsSound (present new (record after { handles = handles }))
dropped_sound t tree new kept after handles caller slot ino same made gone sound =
    let seen : (present new after).tree ≡ without_inode (present tree kept).tree ino = ap (λ files. files.tree) made ∙ ap (λ s. without_inode (present s kept).tree ino) same in
    let held : handles ≡ remove_entry (is_at (pair_cmp (caller, slot))) kept.handles = gone ∙ ap (λ files. remove_entry (is_at (pair_cmp (caller, slot))) files.handles) made in
    subst (λ h. IsSound (record { tree = (present new after).tree; handles = h })) (sym held)
    (subst (λ z. IsSound (record { tree = z; handles = remove_entry (is_at (pair_cmp (caller, slot))) kept.handles })) (sym seen) sound)

-- a slot that none may have isn't closed
pub bad_closed : (files : Files) (caller slot : ℕ) → is_bad_slot slot ≡ true → closed files caller slot ≡ Err Einval
bad_closed files caller slot bad = rw bad refl

-- nor is one that isn't open
pub unopened_closed : (files : Files) (caller slot : ℕ) → is_bad_slot slot ≡ false → handle_at files caller slot ≡ None → closed files caller slot ≡ Err Ebadf
unopened_closed files caller slot bad none = rw (bad, none) refl

-- what callers see once a slot is closed
pub handles_done : (t tree : Tree) (kept : Kept) (handles : Handles) (caller slot ino : ℕ) → is_bad_slot slot ≡ false → handle_at (present tree kept) caller slot ≡ Some ino
    → (is_nameless (present tree kept).tree ino && not (list_any (λ handle. handle.1 == ino) (remove_entry (is_at (pair_cmp (caller, slot))) kept.handles))) ≡ false
    → t ≡ tree → handles ≡ remove_entry (is_at (pair_cmp (caller, slot))) kept.handles → closed (present tree kept) caller slot ≡ Ok (Done, present t (record kept { handles = handles }))
handles_done t tree kept handles caller slot ino bad found lost same gone =
    let left = remove_entry (is_at (pair_cmp (caller, slot))) kept.handles in
    let out : closed (present tree kept) caller slot ≡ Ok (Done, present tree (record kept { handles = left })) = rw (bad, found, lost) refl in
    let P : Handles → Outcome = λ h. Ok (Done, present tree (record kept { handles = h })) in
    let Q : Tree → Outcome = λ s. Ok (Done, present s (record kept { handles = handles })) in
    out ∙ ap P (sym gone) ∙ ap Q (sym same)

-- and once an inode went with it
pub dropped_done : (t tree new : Tree) (kept after : Kept) (handles : Handles) (caller slot ino : ℕ) → is_bad_slot slot ≡ false → handle_at (present tree kept) caller slot ≡ Some ino
    → (is_nameless (present tree kept).tree ino && not (list_any (λ handle. handle.1 == ino) (remove_entry (is_at (pair_cmp (caller, slot))) kept.handles))) ≡ true
    → t ≡ tree → present new after ≡ record (present t kept) { tree = without_inode (present t kept).tree ino } → handles ≡ remove_entry (is_at (pair_cmp (caller, slot))) after.handles
    → closed (present tree kept) caller slot ≡ Ok (Done, present new (record after { handles = handles }))
dropped_done t tree new kept after handles caller slot ino bad found lost same made gone =
    let left = remove_entry (is_at (pair_cmp (caller, slot))) kept.handles in
    let out : closed (present tree kept) caller slot ≡ Ok (Done, record { tree = without_inode (present tree kept).tree ino; handles = left }) = rw (bad, found, lost) refl in
    let seen : (present new after).tree ≡ without_inode (present tree kept).tree ino = ap (λ files. files.tree) made ∙ ap (λ s. without_inode (present s kept).tree ino) same in
    let held : handles ≡ left = gone ∙ ap (λ files. remove_entry (is_at (pair_cmp (caller, slot))) files.handles) made in
    let P : Tree → Outcome = λ z. Ok (Done, record { tree = z; handles = left }) in
    let Q : Handles → Outcome = λ h. Ok (Done, record { tree = (present new after).tree; handles = h }) in
    out ∙ ap P (sym seen) ∙ ap Q (sym held)

-- an inode that goes has no name
pub lost_nameless : (t tree : Tree) (kept : Kept) (ino : ℕ) (alone : Bool) → t ≡ tree → (is_nameless (present tree kept).tree ino && alone) ≡ true → IsTrue (is_nameless (present t kept).tree ino)
lost_nameless t tree kept ino alone same lost = subst (λ s. IsTrue (is_nameless (present s kept).tree ino)) (sym same) (by (is_nameless (present tree kept).tree ino) lost)
  where
    by : (nameless : Bool) → (nameless && alone) ≡ true → IsTrue nameless
    by true both = refl
    by false both = absurd (false≢true both)
