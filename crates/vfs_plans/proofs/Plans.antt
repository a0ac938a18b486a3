-- Chains of refusals, walked to their ends.
use Rattle.std.proofs.Common.{◌≡◌, ℕ, inl, inr, Bool, true, false, List, [], ◌∷◌, Some, refl, sym, ap, subst, ◌∙◌}
use Rattle.std.specs.Prelude.{Option, None, Result, Ok, Err, is_some, nat_le, ◌&&◌, ◌||◌, ◌==◌, not, ◌+◌}
use Rattle.fs_model.specs.declared.change.Change.{Change}
use Rattle.fs_model.specs.declared.inode.Inode.{Inode}
use Rattle.fs_model.specs.declared.inode.Entry.{Entry}
use Rattle.fs_model.specs.declared.refusal.Refusal.{Refusal}
use Rattle.fs_model.specs.declared.refusal.Refusal.TheVariants.{Enoent, Eexist, Enotdir, Eisdir, Enotempty, Einval, Emlink, Enfile}
use Rattle.fs_model.specs.declared.refusal.Table.TheVariants.{Inodes}
use Rattle.fs_model.specs.declared.reply.Reply.{Reply}
use Rattle.fs_model.specs.declared.reply.Reply.TheVariants.{Done, Ino}
use Rattle.fs_model.specs.Backing.{BackingState, Outlook}
use Rattle.fs_model.specs.Directory.{dir_links, has_no_entry, is_linked_out}
use Rattle.fs_model.specs.Files.{Tree, Files, inode_at, entry_at}
use Rattle.fs_model.specs.Links.{losing, linked, linking}
use Rattle.fs_model.specs.Making.{made, making, inode_limit, is_name_path}
use Rattle.fs_model.specs.Outcome.{Plan, refuse, with_found, with_named, with_some}
use Rattle.fs_model.specs.Path.{has_long_name, components, last_of, walked, parent_of, is_dir}
use Rattle.fs_model.specs.Rename.{is_under, moved, moving, renamed}
use Rattle.buffered_files.specs.declared.kept.Kept.{Kept}
use Rattle.buffered_files.specs.Present.{IsKept}
use Rattle.vfs_plans.specs.Answers.{IsRefused, Looks}
use Rattle.vfs_plans.specs.Parts.{ends_of, free_parent, linkable, lost_to}
use Rattle.vfs_plans.proofs.Walking.{fault_later, same_tree}

-- what is kept fits the tree after a look
pub kept_on : {x y : Outlook} {a b : BackingState} {kept : Kept} → Looks x y a b → IsKept a.tree kept → IsKept b.tree kept
kept_on {x} {y} {a} {b} {kept} looks k = subst (λ t. IsKept t kept) (sym (same_tree x y a b looks)) k

-- the tree after a look
pub tree_on : {x y : Outlook} {a b : BackingState} → Looks x y a b → b.tree ≡ a.tree
tree_on {x} {y} {a} {b} looks = same_tree x y a b looks

-- refused as the whole is, where a part of it was refused
pub refused_so : (old new : BackingState) (refusal : Refusal) {A B : Type 0} {part : Result A Refusal} {whole : Result B Refusal}
    → (part ≡ Err refusal → whole ≡ Err refusal) → IsRefused old new part refusal → IsRefused old new whole refusal
refused_so old new refusal so (inl stops) = inl (so stops)
refused_so old new refusal so (inr fault) = inr fault

-- the same, after a look
pub refused_then : {x y : Outlook} {old now : BackingState} (new : BackingState) (refusal : Refusal) {A B : Type 0} {part : Result A Refusal} {whole : Result B Refusal}
    → Looks x y old now → (part ≡ Err refusal → whole ≡ Err refusal) → IsRefused now new part refusal → IsRefused old new whole refusal
refused_then new refusal looks so (inl stops) = inl (so stops)
refused_then {x} {y} {old} {now} new refusal looks so (inr fault) = inr (fault_later old now new refusal looks.goes.faults fault)

-- what follows where nothing stands yet
free_then : (tree : Tree) (path : List ℕ) (next : Entry → Plan)
    → with_found (parent_of tree path) (λ parent. refuse (is_some (entry_at tree parent.ino (last_of (components path)))) Eexist (next parent)) ≡ with_found (free_parent tree path) next
free_then tree path next = by (parent_of tree path)
  where
    here : (parent : Entry) (b : Bool) → refuse b Eexist (next parent) ≡ with_found (refuse b Eexist (Ok parent)) next
    here parent true = refl
    here parent false = refl

    by : (found : Result Entry Refusal) → with_found found (λ parent. refuse (is_some (entry_at tree parent.ino (last_of (components path)))) Eexist (next parent))
        ≡ with_found (with_found found (λ parent. refuse (is_some (entry_at tree parent.ino (last_of (components path)))) Eexist (Ok parent))) next
    by (Err refusal) = refl
    by (Ok parent) = here parent (is_some (entry_at tree parent.ino (last_of (components path))))

-- what can have a further name where nothing refuses it
linkable_is : (tree : Tree) (path : List ℕ) (from : Entry) (inode : Inode) → walked tree path ≡ Ok from → is_dir from.kind ≡ false → inode_at tree from.ino ≡ Some inode → is_linked_out inode.nlink ≡ false → linkable tree path ≡ Ok (from, inode)
linkable_is tree path from inode there plain found room = rw (there, plain, found, room) refl

-- what follows where something can have a further name
linkable_then : (tree : Tree) (path : List ℕ) (next : Entry → Inode → Plan)
    → with_found (walked tree path) (λ entry. refuse (is_dir entry.kind) Eisdir (with_named tree entry.ino (λ inode. refuse (is_linked_out inode.nlink) Emlink (next entry inode)))) ≡ with_found (linkable tree path) (λ found. next found.0 found.1)
linkable_then tree path next = by (walked tree path)
  where
    pair : Entry → Inode → Result (Entry × Inode) Refusal
    pair entry inode = Ok (entry, inode)

    room : (entry : Entry) (inode : Inode) (b : Bool) → refuse b Emlink (next entry inode) ≡ with_found (refuse b Emlink (pair entry inode)) (λ found. next found.0 found.1)
    room entry inode true = refl
    room entry inode false = refl

    plain : (entry : Entry) (b : Bool) (o : Option Inode) → refuse b Eisdir (with_some o Enoent (λ inode. refuse (is_linked_out inode.nlink) Emlink (next entry inode)))
        ≡ with_found (refuse b Eisdir (with_some o Enoent (λ inode. refuse (is_linked_out inode.nlink) Emlink (pair entry inode)))) (λ found. next found.0 found.1)
    plain entry true o = refl
    plain entry false None = refl
    plain entry false (Some inode) = room entry inode (is_linked_out inode.nlink)

    by : (found : Result Entry Refusal) → with_found found (λ entry. refuse (is_dir entry.kind) Eisdir (with_named tree entry.ino (λ inode. refuse (is_linked_out inode.nlink) Emlink (next entry inode))))
        ≡ with_found (with_found found (λ entry. refuse (is_dir entry.kind) Eisdir (with_named tree entry.ino (λ inode. refuse (is_linked_out inode.nlink) Emlink (pair entry inode))))) (λ found. next found.0 found.1)
    by (Err refusal) = refl
    by (Ok entry) = plain entry (is_dir entry.kind) (inode_at tree entry.ino)

-- what is made where nothing refuses it
pub made_is : (files : Files) (now : ℕ) (path : List ℕ) (new : Inode) (parent : Entry) (highest : ℕ) (group : List Change)
    → has_long_name path ≡ false → parent_of files.tree path ≡ Ok parent → entry_at files.tree parent.ino (last_of (components path)) ≡ None
    → (is_dir new.kind && is_linked_out (dir_links files.tree parent.ino)) ≡ false → highest ≡ files.tree.highest → nat_le inode_limit files.tree.highest ≡ false
    → group ≡ making files.tree parent.ino (last_of (components path)) new now → made files now path new ≡ Ok (Ino (highest + 1), group)
made_is files now path new parent highest group short there free room top left is = rw (short, there, free, room, left, top) (ap (λ g. Ok (Ino (files.tree.highest + 1), g)) (sym is))

-- what is not made, since something stands there
pub made_not : (files : Files) (now : ℕ) (path : List ℕ) (new : Inode) (refusal : Refusal) → has_long_name path ≡ false → free_parent files.tree path ≡ Err refusal → made files now path new ≡ Err refusal
made_not files now path new refusal short stops =
    let next : Entry → Plan = λ parent. refuse (is_dir new.kind && is_linked_out (dir_links files.tree parent.ino)) Emlink (refuse (nat_le inode_limit files.tree.highest) (Enfile Inodes inode_limit) (Ok (Ino (files.tree.highest + 1), making files.tree parent.ino (last_of (components path)) new now))) in
    rw short (free_then files.tree path next ∙ ap (λ r. with_found r next) stops)

-- what becomes of an inode where nothing refuses it
pub lost_is : (files : Files) (now : ℕ) (from over : Entry) (inode : Inode) (lost : Change)
    → (is_dir from.kind && not (is_dir over.kind)) ≡ false → (not (is_dir from.kind) && is_dir over.kind) ≡ false → (is_dir over.kind && not (has_no_entry files.tree over.ino)) ≡ false
    → inode_at files.tree over.ino ≡ Some inode → lost ≡ losing files over.ino now inode → lost_to files now from over ≡ Ok lost
lost_is files now from over inode lost a b empty there gone = rw (a, b, empty, there) (ap (λ l. Ok l) (sym gone))

-- what is moved over another entry goes by what the other one's inode becomes
moved_by : (files : Files) (now : ℕ) (from : Entry) (dir : ℕ) (name : List ℕ) (over : Entry) → (over.ino == from.ino) ≡ false
    → moved files now from dir name (Some over) ≡ with_found (lost_to files now from over) (λ lost. Ok (Done, moving files from dir name (lost ∷ []) now))
moved_by files now from dir name over other =
    rw other (by (is_dir from.kind && not (is_dir over.kind)) (not (is_dir from.kind) && is_dir over.kind) (is_dir over.kind && not (has_no_entry files.tree over.ino)) (inode_at files.tree over.ino))
  where
    by : (a b c : Bool) (o : Option Inode) → refuse {A = Reply × List Change} a Enotdir (refuse b Eisdir (refuse c Enotempty (with_some o Enoent (λ inode. Ok (Done, moving files from dir name (losing files over.ino now inode ∷ []) now)))))
        ≡ with_found (refuse a Enotdir (refuse b Eisdir (refuse c Enotempty (with_some o Enoent (λ inode. Ok (losing files over.ino now inode)))))) (λ lost. Ok (Done, moving files from dir name (lost ∷ []) now))
    by true b c o = refl
    by false true c o = refl
    by false false true o = refl
    by false false false None = refl
    by false false false (Some inode) = refl

-- what is not moved over another entry
pub moved_not : (files : Files) (now : ℕ) (from : Entry) (dir : ℕ) (name : List ℕ) (over : Entry) (refusal : Refusal) → (over.ino == from.ino) ≡ false → lost_to files now from over ≡ Err refusal → moved files now from dir name (Some over) ≡ Err refusal
moved_not files now from dir name over refusal other stops = moved_by files now from dir name over other ∙ ap (λ r. with_found r (λ lost. Ok (Done, moving files from dir name (lost ∷ []) now))) stops

-- what is moved over another entry where nothing refuses it
pub moved_over_is : (files : Files) (now : ℕ) (from : Entry) (dir : ℕ) (name : List ℕ) (over : Entry) (lost : Change) (group : List Change)
    → (over.ino == from.ino) ≡ false → lost_to files now from over ≡ Ok lost → group ≡ moving files from dir name (lost ∷ []) now → moved files now from dir name (Some over) ≡ Ok (Done, group)
moved_over_is files now from dir name over lost group other gone is =
    moved_by files now from dir name over other ∙ ap (λ r. with_found r (λ l. Ok (Done, moving files from dir name (l ∷ []) now))) gone ∙ ap (λ g. Ok (Done, g)) (sym is)

-- what follows where both ends of a move are there
ends_then : (tree : Tree) (old new : List ℕ) (next : Entry → Entry → Plan)
    → with_found (walked tree old) (λ from. with_found (parent_of tree new) (λ parent. refuse (is_under (components old) (components new)) Einval (next from parent))) ≡ with_found (ends_of tree old new) (λ ends. next ends.0 ends.1)
ends_then tree old new next = by (walked tree old) (parent_of tree new) (is_under (components old) (components new))
  where
    pair : Entry → Entry → Result (Entry × Entry) Refusal
    pair from parent = Ok (from, parent)

    by : (a b : Result Entry Refusal) (under : Bool) → with_found a (λ from. with_found b (λ parent. refuse under Einval (next from parent)))
        ≡ with_found (with_found a (λ from. with_found b (λ parent. refuse under Einval (pair from parent)))) (λ ends. next ends.0 ends.1)
    by (Err refusal) b under = refl
    by (Ok from) (Err refusal) under = refl
    by (Ok from) (Ok parent) true = refl
    by (Ok from) (Ok parent) false = refl

-- what is not renamed, since an end of the move isn't there
pub renamed_not : (files : Files) (now : ℕ) (old new : List ℕ) (refusal : Refusal)
    → (is_name_path old && is_name_path new) ≡ true → (has_long_name old || has_long_name new) ≡ false → ends_of files.tree old new ≡ Err refusal → renamed files now old new ≡ Err refusal
renamed_not files now old new refusal names short stops =
    let next : Entry → Entry → Plan = λ from parent. moved files now from parent.ino (last_of (components new)) (entry_at files.tree parent.ino (last_of (components new))) in
    rw (names, short) (ends_then files.tree old new next ∙ ap (λ r. with_found r (λ ends. next ends.0 ends.1)) stops)

-- what is renamed where both ends of the move are there
pub renamed_is : (files : Files) (now : ℕ) (old new : List ℕ) (from parent : Entry) (over : Option Entry) (plan : Plan)
    → (is_name_path old && is_name_path new) ≡ true → (has_long_name old || has_long_name new) ≡ false → walked files.tree old ≡ Ok from → parent_of files.tree new ≡ Ok parent
    → is_under (components old) (components new) ≡ false → entry_at files.tree parent.ino (last_of (components new)) ≡ over
    → moved files now from parent.ino (last_of (components new)) over ≡ plan → renamed files now old new ≡ plan
renamed_is files now old new from parent over plan names short there at apart is moves = rw (names, short, there, at, apart, is) moves

-- what is not linked, since it can't have a further name
pub not_linkable : (files : Files) (now : ℕ) (old new : List ℕ) (refusal : Refusal)
    → (is_name_path old && is_name_path new) ≡ true → (has_long_name old || has_long_name new) ≡ false → linkable files.tree old ≡ Err refusal → linked files now old new ≡ Err refusal
not_linkable files now old new refusal names short stops =
    let next : Entry → Inode → Plan = λ entry inode. with_found (parent_of files.tree new) (λ parent. refuse (is_some (entry_at files.tree parent.ino (last_of (components new)))) Eexist (Ok (Done, linking files.tree entry inode parent.ino (last_of (components new)) now))) in
    rw (names, short) (linkable_then files.tree old next ∙ ap (λ r. with_found r (λ found. next found.0 found.1)) stops)

-- what is not linked, since something stands there
pub linked_not : (files : Files) (now : ℕ) (old new : List ℕ) (from : Entry) (inode : Inode) (refusal : Refusal)
    → (is_name_path old && is_name_path new) ≡ true → (has_long_name old || has_long_name new) ≡ false → walked files.tree old ≡ Ok from → is_dir from.kind ≡ false
    → inode_at files.tree from.ino ≡ Some inode → is_linked_out inode.nlink ≡ false → free_parent files.tree new ≡ Err refusal → linked files now old new ≡ Err refusal
linked_not files now old new from inode refusal names short there plain found room stops =
    let next : Entry → Inode → Entry → Plan = λ entry inode parent. Ok (Done, linking files.tree entry inode parent.ino (last_of (components new)) now) in
    let later : Entry → Inode → Plan = λ entry inode. with_found (parent_of files.tree new) (λ parent. refuse (is_some (entry_at files.tree parent.ino (last_of (components new)))) Eexist (next entry inode parent)) in
    rw (names, short) (linkable_then files.tree old later ∙ ap (λ r. with_found r (λ found. later found.0 found.1)) (linkable_is files.tree old from inode there plain found room) ∙ free_then files.tree new (next from inode) ∙ ap (λ r. with_found r (next from inode)) stops)

-- what is linked where nothing refuses it
pub linked_is : (files : Files) (now : ℕ) (old new : List ℕ) (from : Entry) (inode : Inode) (parent : Entry) (group : List Change)
    → (is_name_path old && is_name_path new) ≡ true → (has_long_name old || has_long_name new) ≡ false → walked files.tree old ≡ Ok from → is_dir from.kind ≡ false
    → inode_at files.tree from.ino ≡ Some inode → is_linked_out inode.nlink ≡ false → parent_of files.tree new ≡ Ok parent
    → entry_at files.tree parent.ino (last_of (components new)) ≡ None → group ≡ linking files.tree from inode parent.ino (last_of (components new)) now
    → linked files now old new ≡ Ok (Done, group)
linked_is files now old new from inode parent group names short there plain found room at free is = subst (λ g. linked files now old new ≡ Ok (Done, g)) (sym is) (rw (names, short, there, plain, found, room, at, free) refl)
