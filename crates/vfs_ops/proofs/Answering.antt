-- Files that are alike give the same outcome of each operation.
use Rattle.std.proofs.Common.{◌≡◌, ℕ, ◌<◌, ◌/◌, inl, inr, Bool, true, false, cond, ◌&&◌, ◌||◌, not, min, map, List, [], ◌∷◌, Option, Some, None, Ok, Err, refl, sym, ap, subst, ◌∙◌, arith, Result}
use Rattle.std.specs.Prelude.{◌==◌, ◌+◌, ◌-◌, ◌%◌, get_or, if◌then◌else◌, is_some, nat_le, nat_lt, suc, unwrap_or, zero}
use Rattle.std.proofs.lemmas.Bool.{false≢true}
use Rattle.std.proofs.lemmas.Bool.Decides.{eqb_tells}
use Rattle.std.specs.BTreeMap.{insert_entry, is_at}
use Rattle.std.specs.List.{range_with_len}
use Rattle.std.specs.Map.{lookup, remove_entry}
use Rattle.fs_model.specs.declared.change.Change.{Change}
use Rattle.fs_model.specs.declared.change.Change.TheVariants.{DropInode, SetInode}
use Rattle.fs_model.specs.declared.inode.Entry.{Entry}
use Rattle.fs_model.specs.declared.inode.Inode.{Inode}
use Rattle.fs_model.specs.declared.op.Op.{Op}
use Rattle.fs_model.specs.declared.op.Op.TheVariants.{Create, Mkdir, Symlink, Link, Unlink, Rmdir, Rename, OpenFile, Close, Read, Write, Truncate, Fsync, Flush, List as ListDir, Stat, Readlink, Chmod}
use Rattle.fs_model.specs.declared.refusal.Refusal.{Refusal}
use Rattle.fs_model.specs.declared.refusal.Refusal.TheVariants.{Eexist, Enotdir, Eisdir, Enotempty, Enametoolong, Einval, Emlink, Efbig, Enfile, Enoent, Ebadf}
use Rattle.fs_model.specs.declared.refusal.Table.TheVariants.{Inodes as InodeTable}
use Rattle.fs_model.specs.declared.reply.Reply.TheVariants.{Done, Ino, Count, Bytes, List as Listed, Stat as Told, Target}
use Rattle.fs_model.specs.Attributes.{found, is_symlink, link_read, listed, mode_set, stat_of, told}
use Rattle.fs_model.specs.Change.{apply, without_inode}
use Rattle.fs_model.specs.Directory.{by_hash, dir_links, entries_in, has_no_entry, is_linked_out, links_of, shown_size}
use Rattle.fs_model.specs.Files.{Blocks, Files, Handles, block_at, byte_at, bytes_from, entry_at, handle_at, inode_at, pair_cmp, size_of}
use Rattle.fs_model.specs.Handles.{bytes_read, bytes_written, closed, is_bad_slot, opened, size_limit, synced, tree_written}
use Rattle.fs_model.specs.Links.{dir_removed, linked, linking, removing, unlinked}
use Rattle.fs_model.specs.Making.{inode_limit, is_bad_mode, is_bad_target, is_name_path, made, making, new_dir, new_file, new_symlink, touched}
use Rattle.fs_model.specs.Operation.{group_of, outcome_of, plan_of}
use Rattle.fs_model.specs.Orphan.{is_nameless, is_open, without_lost}
use Rattle.fs_model.specs.Outcome.{Outcome, Plan, done_by, group_in, refuse, with_found, with_some}
use Rattle.fs_model.specs.Path.{child, components, front_of, has_long_name, is_dir, is_file, is_path, last_of, only_dir, parent_of, reached, root_entry, walked}
use Rattle.fs_model.specs.Proper.{IsProper}
use Rattle.fs_model.specs.Rename.{is_under, moved, renamed}
use Rattle.fs_model.specs.Same.{before_zeros, trimmed, trimmed_blocks}
use Rattle.fs_model.specs.Truncation.{truncating}
use Rattle.fs_laws.specs.Sound.{IsSound}
use Rattle.buffered_files.specs.Alike.{IsAlike}
use Rattle.buffered_files.specs.Follow.{AreOfNames}
use Rattle.vfs_ops.specs.Operations.{is_of_names}
use Rattle.vfs_ops.specs.Replies.{IsAlikeOutcome}
use Rattle.vfs_ops.proofs.Buffering.{open_file, plain_file}
use Rattle.vfs_ops.proofs.Groups.{group_fits, names_of, outcome_is}
use Rattle.vfs_ops.proofs.Truncating.{sizes_related}

found_same : {A B : Type 0} (x y : Result A Refusal) (k l : A → Result B Refusal) → x ≡ y → ((v : A) → k v ≡ l v) → with_found x k ≡ with_found y l
found_same {A} {B} x y k l same each = subst (λ z. with_found x k ≡ with_found z l) same (by x)
  where
    by : (z : Result A Refusal) → with_found z k ≡ with_found z l
    by (Err e) = refl
    by (Ok v) = each v

refuse_both : (b : Bool) (e : Refusal) (x y : Outcome) → IsAlikeOutcome x y → IsAlikeOutcome (refuse b e x) (refuse b e y)
refuse_both true e x y h = refl
refuse_both false e x y h = h

found_both : {A : Type 0} (x y : Result A Refusal) (k l : A → Outcome) → x ≡ y → ((v : A) → IsAlikeOutcome (k v) (l v)) → IsAlikeOutcome (with_found x k) (with_found y l)
found_both {A} x y k l same each = subst (λ z. IsAlikeOutcome (with_found x k) (with_found z l)) same (by x)
  where
    by : (z : Result A Refusal) → IsAlikeOutcome (with_found z k) (with_found z l)
    by (Err e) = refl
    by (Ok v) = each v

some_both : {A : Type 0} (o : Option A) (e : Refusal) (k l : A → Outcome) → ((v : A) → o ≡ Some v → IsAlikeOutcome (k v) (l v)) → IsAlikeOutcome (with_some o e k) (with_some o e l)
some_both None e k l each = refl
some_both (Some v) e k l each = each v refl

-- zeros at the end of a block are read where nothing stands
get_trimmed : (bytes : List ℕ) (k : ℕ) → get_or (trimmed bytes) k 0 ≡ get_or bytes k 0
get_trimmed [] k = refl
get_trimmed (b ∷ bytes) k = by (trimmed bytes) (get_trimmed bytes) k
  where
    first : (byte : ℕ) (rest : List ℕ) → ((j : ℕ) → get_or {A = ℕ} [] j 0 ≡ get_or rest j 0) → (z : Bool) → (byte == 0) ≡ z → (j : ℕ) → get_or (cond z [] (byte ∷ [])) j 0 ≡ get_or (byte ∷ rest) j 0
    first byte rest each true none zero = elim (eqb_tells byte 0) [
      | inl same ↦ sym same.1
      | inr other ↦ absurd (false≢true (sym other.0 ∙ none))
    ]
    first byte rest each true none (suc j) = each j
    first byte rest each false some zero = refl
    first byte rest each false some (suc j) = each j

    by : (t : List ℕ) → ((j : ℕ) → get_or t j 0 ≡ get_or bytes j 0) → (j : ℕ) → get_or (before_zeros b t) j 0 ≡ get_or (b ∷ bytes) j 0
    by [] each j = first b bytes each (b == 0) refl j
    by (t ∷ ts) each zero = refl
    by (t ∷ ts) each (suc j) = each j

pub trimmed_at : (blocks : Blocks) (ino block : ℕ) → block_at (trimmed_blocks blocks) ino block ≡ trimmed (block_at blocks ino block)
trimmed_at [] ino block = refl
trimmed_at (e ∷ blocks) ino block = by (trimmed_at blocks ino block) (is_at (pair_cmp (ino, block)) e.0)
  where
    by : block_at (trimmed_blocks blocks) ino block ≡ trimmed (block_at blocks ino block) → (b : Bool) → unwrap_or (cond b (Some (trimmed e.1)) (lookup (is_at (pair_cmp (ino, block))) (trimmed_blocks blocks))) [] ≡ trimmed (unwrap_or (cond b (Some e.1) (lookup (is_at (pair_cmp (ino, block))) blocks)) [])
    by more true = refl
    by more false = more

byte_same : (a b : Blocks) → trimmed_blocks a ≡ trimmed_blocks b → (ino place : ℕ) → byte_at a ino place ≡ byte_at b ino place
byte_same a b same ino place =
    let k = place % 4096 in
    let n = place / 4096 in
    sym (get_trimmed (block_at a ino n) k)
    ∙ ap (λ bytes. get_or bytes k 0) (sym (trimmed_at a ino n) ∙ ap (λ blocks. block_at blocks ino n) same ∙ trimmed_at b ino n)
    ∙ get_trimmed (block_at b ino n) k

bytes_same : (a b : Blocks) → trimmed_blocks a ≡ trimmed_blocks b → (ino : ℕ) (places : List ℕ) → map (byte_at a ino) places ≡ map (byte_at b ino) places
bytes_same a b same ino [] = refl
bytes_same a b same ino (place ∷ places) = ap (λ byte. byte ∷ map (byte_at a ino) places) (byte_same a b same ino place) ∙ ap (λ bytes. byte_at b ino place ∷ bytes) (bytes_same a b same ino places)

-- the same files over other blocks
abbrev pub with_blocks : Files → Blocks → Files
with_blocks a blocks = record a { tree = record a.tree { blocks = blocks } }

reached_same : (a : Files) (blocks : Blocks) (at : Result Entry Refusal) (names : List (List ℕ)) → reached a.tree at names ≡ reached (with_blocks a blocks).tree at names
reached_same a blocks at [] = refl
reached_same a blocks (Err e) (name ∷ names) = reached_same a blocks (Err e) names
reached_same a blocks (Ok at) (name ∷ names) = reached_same a blocks (child a.tree name (Ok at)) names

walked_same : (a : Files) (blocks : Blocks) (path : List ℕ) → walked a.tree path ≡ walked (with_blocks a blocks).tree path
walked_same a blocks path = reached_same a blocks (Ok root_entry) (components path)

parent_same : (a : Files) (blocks : Blocks) (path : List ℕ) → parent_of a.tree path ≡ parent_of (with_blocks a blocks).tree path
parent_same a blocks path = ap only_dir (reached_same a blocks (Ok root_entry) (front_of (components path)))

found_alike : (a : Files) (blocks : Blocks) (path : List ℕ) → found a path ≡ found (with_blocks a blocks) path
found_alike a blocks path = ap (λ w. refuse (not (is_path path)) Einval (refuse (has_long_name path) Enametoolong w)) (walked_same a blocks path)

-- the plans of operations on names ask for no block
made_same : (a : Files) (blocks : Blocks) (now : ℕ) (path : List ℕ) (inode : Inode) → made a now path inode ≡ made (with_blocks a blocks) now path inode
made_same a blocks now path inode =
    let name = last_of (components path) in
    let next : Entry → Plan = λ parent.
    refuse (is_some (entry_at a.tree parent.ino name)) Eexist (refuse (is_dir inode.kind && is_linked_out (dir_links a.tree parent.ino)) Emlink
    (refuse (nat_le inode_limit a.tree.highest) (Enfile InodeTable inode_limit) (Ok (Ino (a.tree.highest + 1), making a.tree parent.ino name inode now)))) in
    ap (λ w. refuse (has_long_name path) Enametoolong (with_found w next)) (parent_same a blocks path)

linked_same : (a : Files) (blocks : Blocks) (now : ℕ) (old new : List ℕ) → linked a now old new ≡ linked (with_blocks a blocks) now old new
linked_same a blocks now old new =
    let name = last_of (components new) in
    let M : Result Entry Refusal → Result Entry Refusal → Plan = λ w p.
    refuse (not (is_name_path old && is_name_path new)) Einval (refuse (has_long_name old || has_long_name new) Enametoolong
    (with_found w (λ entry. refuse (is_dir entry.kind) Eisdir (with_some (inode_at a.tree entry.ino) Enoent (λ inode. refuse (is_linked_out inode.nlink) Emlink
    (with_found p (λ parent. refuse (is_some (entry_at a.tree parent.ino name)) Eexist (Ok (Done, linking a.tree entry inode parent.ino name now))))))))) in
    ap (λ w. M w (parent_of a.tree new)) (walked_same a blocks old) ∙ ap (λ p. M (walked (with_blocks a blocks).tree old) p) (parent_same a blocks new)

unlinked_same : (a : Files) (blocks : Blocks) (now : ℕ) (path : List ℕ) → unlinked a now path ≡ unlinked (with_blocks a blocks) now path
unlinked_same a blocks now path =
    let next : Entry → Plan = λ entry. refuse (is_dir entry.kind) Eisdir (with_some (inode_at a.tree entry.ino) Enoent (λ inode. Ok (Done, removing a entry inode now))) in
    ap (λ w. refuse (not (is_name_path path)) Einval (refuse (has_long_name path) Enametoolong (with_found w next))) (walked_same a blocks path)

dir_removed_same : (a : Files) (blocks : Blocks) (now : ℕ) (path : List ℕ) → dir_removed a now path ≡ dir_removed (with_blocks a blocks) now path
dir_removed_same a blocks now path =
    let next : Entry → Plan = λ entry.
    refuse (not (is_dir entry.kind)) Enotdir (refuse (not (has_no_entry a.tree entry.ino)) Enotempty (with_some (inode_at a.tree entry.ino) Enoent (λ inode. Ok (Done, removing a entry inode now)))) in
    ap (λ w. refuse (not (is_name_path path)) Einval (refuse (has_long_name path) Enametoolong (with_found w next))) (walked_same a blocks path)

moved_same : (a : Files) (blocks : Blocks) (now : ℕ) (from : Entry) (dir : ℕ) (name : List ℕ) (at : Option Entry) → moved a now from dir name at ≡ moved (with_blocks a blocks) now from dir name at
moved_same a blocks now from dir name None = refl
moved_same a blocks now from dir name (Some over) = refl

renamed_same : (a : Files) (blocks : Blocks) (now : ℕ) (old new : List ℕ) → renamed a now old new ≡ renamed (with_blocks a blocks) now old new
renamed_same a blocks now old new =
    let name = last_of (components new) in
    let k : Files → Entry → Entry → Plan = λ f from parent. refuse (is_under (components old) (components new)) Einval (moved f now from parent.ino name (entry_at f.tree parent.ino name)) in
    let m : Files → Entry → Plan = λ f from. with_found (parent_of f.tree new) (k f from) in
    ap (λ x. refuse (not (is_name_path old && is_name_path new)) Einval (refuse (has_long_name old || has_long_name new) Enametoolong x))
    (found_same (walked a.tree old) (walked (with_blocks a blocks).tree old) (m a) (m (with_blocks a blocks)) (walked_same a blocks old) (λ from.
    found_same (parent_of a.tree new) (parent_of (with_blocks a blocks).tree new) (k a from) (k (with_blocks a blocks) from) (parent_same a blocks new) (λ parent.
    ap (λ x. refuse (is_under (components old) (components new)) Einval x) (moved_same a blocks now from parent.ino name (entry_at a.tree parent.ino name)))))

mode_set_same : (a : Files) (blocks : Blocks) (now : ℕ) (path : List ℕ) (mode : ℕ) → mode_set a now path mode ≡ mode_set (with_blocks a blocks) now path mode
mode_set_same a blocks now path mode =
    let next : Entry → Plan = λ at. with_some (inode_at a.tree at.ino) Enoent (λ inode. Ok (Done, SetInode at.ino (touched now (record inode { mode = mode })) ∷ [])) in
    ap (λ w. refuse (is_bad_mode mode) Einval (with_found w next)) (found_alike a blocks path)

pub plan_same : (a : Files) (blocks : Blocks) (caller now : ℕ) (op : Op) → is_of_names op ≡ true → plan_of a caller now op ≡ plan_of (with_blocks a blocks) caller now op
plan_same a blocks caller now (Create path mode) is = ap (λ x. refuse (is_bad_mode mode || not (is_name_path path)) Einval x) (made_same a blocks now path (new_file mode now))
plan_same a blocks caller now (Mkdir path mode) is = ap (λ x. refuse (is_bad_mode mode || not (is_name_path path)) Einval x) (made_same a blocks now path (new_dir mode now))
plan_same a blocks caller now (Symlink path target) is = ap (λ x. refuse (is_bad_target target || not (is_name_path path)) Einval x) (made_same a blocks now path (new_symlink target now))
plan_same a blocks caller now (Link old new) is = linked_same a blocks now old new
plan_same a blocks caller now (Unlink path) is = unlinked_same a blocks now path
plan_same a blocks caller now (Rmdir path) is = dir_removed_same a blocks now path
plan_same a blocks caller now (Rename old new) is = renamed_same a blocks now old new
plan_same a blocks caller now (Chmod path mode) is = mode_set_same a blocks now path mode
plan_same a blocks caller now (Truncate slot size) is = absurd cc
plan_same a blocks caller now op is = refl

-- what is known of two states that are alike: both are sound, and what changes leaves them alike
pub record Laws : Type 0 where
  pub groups : (x y : Files) (group : List Change) → IsProper x.tree → IsProper y.tree → AreOfNames x.tree group → IsAlike x y → IsAlike (record x { tree = apply x.tree group }) (record y { tree = apply y.tree group })
  pub writes : (x y : Files) (ino : ℕ) (inode : Inode) (now offs n byte : ℕ) → 0 < n → inode_at x.tree ino ≡ Some inode → is_dir inode.kind ≡ false → IsAlike x y
      → IsAlike (record x { tree = tree_written x.tree ino inode now offs n byte }) (record y { tree = tree_written y.tree ino inode now offs n byte })
  pub sizes : (x y : Files) (ino : ℕ) (inode : Inode) (size now : ℕ) → IsProper x.tree → IsProper y.tree → inode_at x.tree ino ≡ Some inode → is_dir inode.kind ≡ false → IsAlike x y
      → IsAlike (record x { tree = apply x.tree (truncating x.tree ino inode size now) }) (record y { tree = apply y.tree (truncating y.tree ino inode size now) })

record Two (a : Files) (blocks : Blocks) : Type 0 where
  pub sound : IsSound a
  pub proper : IsProper (with_blocks a blocks).tree
  pub alike : IsAlike a (with_blocks a blocks)
  pub laws : Laws

names_alike : (a : Files) (blocks : Blocks) (caller now : ℕ) (op : Op) → is_of_names op ≡ true → Two a blocks → IsAlikeOutcome (outcome_of a caller now op) (outcome_of (with_blocks a blocks) caller now op)
names_alike a blocks caller now op is t =
    let y = with_blocks a blocks in
    let fits = group_fits a caller now op is in
    let names : AreOfNames a.tree (group_of a caller now op) = names_of a.tree fits.gone (group_of a caller now op) fits.all in
    let put = t.laws.groups a y (group_of a caller now op) t.sound.proper t.proper names t.alike in
    subst (λ o. IsAlikeOutcome o (outcome_of y caller now op)) (sym (outcome_is a caller now op is))
    (subst (λ o. IsAlikeOutcome (done_by a (plan_of a caller now op)) o) (sym (outcome_is y caller now op is))
    (subst (λ p. IsAlikeOutcome (done_by a (plan_of a caller now op)) (done_by y p)) (plan_same a blocks caller now op is) (by (plan_of a caller now op) put)))
  where
    by : (plan : Plan) → IsAlike (record a { tree = apply a.tree (group_in plan) }) (record (with_blocks a blocks) { tree = apply (with_blocks a blocks).tree (group_in plan) }) → IsAlikeOutcome (done_by a plan) (done_by (with_blocks a blocks) plan)
    by (Err e) put = refl
    by (Ok found) put = (refl, put)

-- the same handles, opened or closed
with_handles : (a : Files) (blocks : Blocks) (handles : Handles) → IsAlike a (with_blocks a blocks) → IsAlike (record a { handles = handles }) (record (with_blocks a blocks) { handles = handles })
with_handles a blocks handles h = record { inodes = refl; blocks = h.blocks; entries = refl; highest = refl; handles = refl; sizes = h.sizes }

opened_alike : (a : Files) (blocks : Blocks) (caller : ℕ) (path : List ℕ) (slot : ℕ) → Two a blocks → IsAlikeOutcome (opened a caller path slot) (opened (with_blocks a blocks) caller path slot)
opened_alike a blocks caller path slot t =
    let y = with_blocks a blocks in
    let last : Files → Entry → Outcome = λ f entry. Ok (Ino entry.ino, record f { handles = insert_entry pair_cmp a.handles (caller, slot) entry.ino }) in
    let file : Files → Entry → Outcome = λ f entry. refuse (not (is_file entry.kind)) Einval (last f entry) in
    let plain : Files → Entry → Outcome = λ f entry. refuse (is_dir entry.kind) Eisdir (file f entry) in
    let walk : Files → Outcome = λ f. with_found (walked f.tree path) (plain f) in
    let free : Files → Outcome = λ f. refuse (is_some (handle_at a caller slot)) Ebadf (walk f) in
    refuse_both (is_bad_slot slot || not (is_path path)) Einval (refuse (has_long_name path) Enametoolong (free a)) (refuse (has_long_name path) Enametoolong (free y))
    (refuse_both (has_long_name path) Enametoolong (free a) (free y)
    (refuse_both (is_some (handle_at a caller slot)) Ebadf (walk a) (walk y)
    (found_both (walked a.tree path) (walked y.tree path) (plain a) (plain y) (walked_same a blocks path) (λ entry.
    refuse_both (is_dir entry.kind) Eisdir (file a entry) (file y entry)
    (refuse_both (not (is_file entry.kind)) Einval (last a entry) (last y entry) (refl, with_handles a blocks (insert_entry pair_cmp a.handles (caller, slot) entry.ino) t.alike))))))

gone_alike : (a : Files) (blocks : Blocks) (handles : Handles) (ino : ℕ) → Two a blocks → IsAlike (record { tree = without_inode a.tree ino; handles = handles }) (record { tree = without_inode (with_blocks a blocks).tree ino; handles = handles })
gone_alike a blocks handles ino t =
    let g = t.laws.groups a (with_blocks a blocks) (DropInode ino ∷ []) t.sound.proper t.proper (tt, tt) t.alike in
    record { inodes = g.inodes; blocks = g.blocks; entries = g.entries; highest = refl; handles = refl; sizes = g.sizes }

closed_alike : (a : Files) (blocks : Blocks) (caller slot : ℕ) → Two a blocks → IsAlikeOutcome (closed a caller slot) (closed (with_blocks a blocks) caller slot)
closed_alike a blocks caller slot t =
    let y = with_blocks a blocks in
    let handles = remove_entry (is_at (pair_cmp (caller, slot))) a.handles in
    let last : Files → ℕ → Outcome = λ f ino. Ok (Done, without_lost (record f { handles = handles }) ino) in
    refuse_both (is_bad_slot slot) Einval (with_some (handle_at a caller slot) Ebadf (last a)) (with_some (handle_at a caller slot) Ebadf (last y))
    (some_both (handle_at a caller slot) Ebadf (last a) (last y) (λ ino at. (refl, by ino handles (is_nameless a.tree ino && not (is_open (record a { handles = handles }) ino)))))
  where
    by : (ino : ℕ) (handles : Handles) (lost : Bool) → IsAlike (cond lost (record { tree = without_inode a.tree ino; handles = handles }) (record a { handles = handles }))
        (cond lost (record { tree = without_inode (with_blocks a blocks).tree ino; handles = handles }) (record (with_blocks a blocks) { handles = handles }))
    by ino handles true = gone_alike a blocks handles ino t
    by ino handles false = with_handles a blocks handles t.alike

read_alike : (a : Files) (blocks : Blocks) (caller slot offs len : ℕ) → Two a blocks → IsAlikeOutcome (bytes_read a caller slot offs len) (bytes_read (with_blocks a blocks) caller slot offs len)
read_alike a blocks caller slot offs len t =
    let y = with_blocks a blocks in
    let last : Files → ℕ → Inode → Outcome = λ f ino inode. Ok (Bytes (bytes_from f.tree.blocks ino offs (min len (size_of f.tree ino inode - offs))), f) in
    let there : Files → ℕ → Outcome = λ f ino. with_some (inode_at a.tree ino) Ebadf (last f ino) in
    refuse_both (is_bad_slot slot || nat_lt 65536 len) Einval (with_some (handle_at a caller slot) Ebadf (there a)) (with_some (handle_at a caller slot) Ebadf (there y))
    (some_both (handle_at a caller slot) Ebadf (there a) (there y) (λ ino at.
    some_both (inode_at a.tree ino) Ebadf (last a ino) (last y ino) (λ inode is.
    let size : size_of a.tree ino inode ≡ size_of y.tree ino inode = t.alike.sizes ino inode is (plain_file a ino inode (open_file a caller slot ino t.sound at) is) in
    let there_is = bytes_same a.tree.blocks blocks t.alike.blocks ino (range_with_len offs (min len (size_of a.tree ino inode - offs))) in
    (ap (λ bytes. Bytes bytes) (there_is ∙ ap (λ n. bytes_from blocks ino offs (min len (n - offs))) size), t.alike))))

written_alike : (a : Files) (blocks : Blocks) (caller now slot offs len byte : ℕ) → Two a blocks → IsAlikeOutcome (bytes_written a caller now slot offs len byte) (bytes_written (with_blocks a blocks) caller now slot offs len byte)
written_alike a blocks caller now slot offs len byte t =
    let y = with_blocks a blocks in
    let last : Files → ℕ → Inode → Outcome = λ f ino inode. Ok (Count len, if len == 0 then f else record f { tree = tree_written f.tree ino inode now offs len byte }) in
    let few : Files → ℕ → Inode → Outcome = λ f ino inode. refuse (nat_lt size_limit (offs + len)) Efbig (last f ino inode) in
    let there : Files → ℕ → Outcome = λ f ino. with_some (inode_at a.tree ino) Ebadf (few f ino) in
    refuse_both (is_bad_slot slot || nat_lt 65536 len) Einval (with_some (handle_at a caller slot) Ebadf (there a)) (with_some (handle_at a caller slot) Ebadf (there y))
    (some_both (handle_at a caller slot) Ebadf (there a) (there y) (λ ino at.
    some_both (inode_at a.tree ino) Ebadf (few a ino) (few y ino) (λ inode is.
    refuse_both (nat_lt size_limit (offs + len)) Efbig (last a ino inode) (last y ino inode)
    (refl, by ino inode is (plain_file a ino inode (open_file a caller slot ino t.sound at) is) (len == 0) refl))))
  where
    some_of : (len == 0) ≡ false → 0 < len
    some_of some = elim (eqb_tells len 0) [
      | inl none ↦ absurd (false≢true (sym some ∙ none.0))
      | inr more ↦ (let n = more.1 in omega (arith, n))
    ]

    by : (ino : ℕ) (inode : Inode) → inode_at a.tree ino ≡ Some inode → is_dir inode.kind ≡ false → (z : Bool) → (len == 0) ≡ z
        → IsAlike (cond z a (record a { tree = tree_written a.tree ino inode now offs len byte })) (cond z (with_blocks a blocks) (record (with_blocks a blocks) { tree = tree_written (with_blocks a blocks).tree ino inode now offs len byte }))
    by ino inode is plain true none = t.alike
    by ino inode is plain false some = t.laws.writes a (with_blocks a blocks) ino inode now offs len byte (some_of some) is plain t.alike

synced_alike : (a : Files) (blocks : Blocks) (caller slot : ℕ) → Two a blocks → IsAlikeOutcome (synced a caller slot) (synced (with_blocks a blocks) caller slot)
synced_alike a blocks caller slot t =
    let last : Files → ℕ → Outcome = λ f ino. Ok (Done, f) in
    refuse_both (is_bad_slot slot) Einval (with_some (handle_at a caller slot) Ebadf (last a)) (with_some (handle_at a caller slot) Ebadf (last (with_blocks a blocks)))
    (some_both (handle_at a caller slot) Ebadf (last a) (last (with_blocks a blocks)) (λ ino at. (refl, t.alike)))

listed_alike : (a : Files) (blocks : Blocks) (path : List ℕ) → Two a blocks → IsAlikeOutcome (listed a path) (listed (with_blocks a blocks) path)
listed_alike a blocks path t =
    let last : Files → Entry → Outcome = λ f at. Ok (Listed (by_hash (entries_in a.tree at.ino)), f) in
    let dir : Files → Entry → Outcome = λ f at. refuse (not (is_dir at.kind)) Enotdir (last f at) in
    found_both (found a path) (found (with_blocks a blocks) path) (dir a) (dir (with_blocks a blocks)) (found_alike a blocks path) (λ at.
    refuse_both (not (is_dir at.kind)) Enotdir (last a at) (last (with_blocks a blocks) at) (refl, t.alike))

told_alike : (a : Files) (blocks : Blocks) (path : List ℕ) → Two a blocks → IsAlikeOutcome (told a path) (told (with_blocks a blocks) path)
told_alike a blocks path t =
    let last : Files → Entry → Inode → Outcome = λ f at inode. Ok (stat_of f.tree at.ino inode, f) in
    let there : Files → Entry → Outcome = λ f at. with_some (inode_at a.tree at.ino) Enoent (last f at) in
    found_both (found a path) (found (with_blocks a blocks) path) (there a) (there (with_blocks a blocks)) (found_alike a blocks path) (λ at.
    some_both (inode_at a.tree at.ino) Enoent (last a at) (last (with_blocks a blocks) at) (λ inode is.
    (ap (λ size. Told inode.kind at.ino inode.mode (links_of a.tree at.ino inode) size inode.mtime) (by at.ino inode is (is_dir inode.kind) refl), t.alike)))
  where
    by : (ino : ℕ) (inode : Inode) → inode_at a.tree ino ≡ Some inode → (d : Bool) → is_dir inode.kind ≡ d → shown_size a.tree ino inode ≡ shown_size (with_blocks a blocks).tree ino inode
    by ino inode is true dir = rw dir refl
    by ino inode is false dir = rw dir (t.alike.sizes ino inode is dir)

link_alike : (a : Files) (blocks : Blocks) (path : List ℕ) → Two a blocks → IsAlikeOutcome (link_read a path) (link_read (with_blocks a blocks) path)
link_alike a blocks path t =
    let last : Files → Inode → Outcome = λ f inode. Ok (Target inode.extra, f) in
    let there : Files → Entry → Outcome = λ f at. with_some (inode_at a.tree at.ino) Enoent (last f) in
    let link : Files → Entry → Outcome = λ f at. refuse (not (is_symlink at.kind)) Einval (there f at) in
    found_both (found a path) (found (with_blocks a blocks) path) (link a) (link (with_blocks a blocks)) (found_alike a blocks path) (λ at.
    refuse_both (not (is_symlink at.kind)) Einval (there a at) (there (with_blocks a blocks) at)
    (some_both (inode_at a.tree at.ino) Enoent (last a) (last (with_blocks a blocks)) (λ inode is. (refl, t.alike))))

sized_alike : (a : Files) (blocks : Blocks) (caller now slot size : ℕ) → Two a blocks → IsAlikeOutcome (outcome_of a caller now (Truncate slot size)) (outcome_of (with_blocks a blocks) caller now (Truncate slot size))
sized_alike a blocks caller now slot size t =
    let y = with_blocks a blocks in
    sizes_related (λ p q. IsAlikeOutcome (done_by a p) (done_by y q)) a blocks caller now slot size t.sound (λ e. refl) (λ ino inode is plain. (refl, t.laws.sizes a y ino inode size now t.sound.proper t.proper is plain t.alike))

all_alike : (a : Files) (blocks : Blocks) (caller now : ℕ) (op : Op) → Two a blocks → IsAlikeOutcome (outcome_of a caller now op) (outcome_of (with_blocks a blocks) caller now op)
all_alike a blocks caller now (OpenFile path slot) t = opened_alike a blocks caller path slot t
all_alike a blocks caller now (Close slot) t = closed_alike a blocks caller slot t
all_alike a blocks caller now (Read slot offs len) t = read_alike a blocks caller slot offs len t
all_alike a blocks caller now (Write slot offs len byte) t = written_alike a blocks caller now slot offs len byte t
all_alike a blocks caller now (Truncate slot size) t = sized_alike a blocks caller now slot size t
all_alike a blocks caller now (Fsync slot) t = synced_alike a blocks caller slot t
all_alike a blocks caller now Flush t = (refl, t.alike)
all_alike a blocks caller now (ListDir path) t = listed_alike a blocks path t
all_alike a blocks caller now (Stat path) t = told_alike a blocks path t
all_alike a blocks caller now (Readlink path) t = link_alike a blocks path t
all_alike a blocks caller now op t = names_alike a blocks caller now op refl t

-- files that are alike differ in blocks alone
-- files that are alike differ in blocks alone
pub with_same : (a b : Files) → IsAlike a b → with_blocks a b.tree.blocks ≡ b
with_same a b h =
    ap (λ inodes. record { tree = record { inodes = inodes; blocks = b.tree.blocks; entries = a.tree.entries; highest = a.tree.highest }; handles = a.handles }) h.inodes
    ∙ ap (λ entries. record { tree = record b.tree { entries = entries; highest = a.tree.highest }; handles = a.handles }) h.entries
    ∙ ap (λ highest. record { tree = record b.tree { highest = highest }; handles = a.handles }) h.highest
    ∙ ap (λ handles. record { tree = b.tree; handles = handles }) h.handles

pub alike_outcomes : (a b : Files) (caller now : ℕ) (op : Op) → Laws → IsSound a → IsProper b.tree → IsAlike a b → IsAlikeOutcome (outcome_of a caller now op) (outcome_of b caller now op)
alike_outcomes a b caller now op laws sound proper h =
    let same = with_same a b h in
    let two : Two a b.tree.blocks = record {
      sound = sound;
      proper = subst (λ (f : Files). IsProper f.tree) (sym same) proper;
      alike = subst (λ f. IsAlike a f) (sym same) h;
      laws = laws;
    } in
    subst (λ f. IsAlikeOutcome (outcome_of a caller now op) (outcome_of f caller now op)) same (all_alike a b.tree.blocks caller now op two)
