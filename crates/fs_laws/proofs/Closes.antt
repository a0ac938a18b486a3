-- A slot that is opened or closed.
use Rattle.std.proofs.Common.{◌≡◌, ℕ, Bool, true, false, cond, not, ◌&&◌, ◌||◌, List, Some, Ok, Err, refl, sym, subst, ◌∙◌, arith, inl, inr}
use Rattle.std.specs.Prelude.{◌==◌, nat_le, is_some}
use Rattle.std.specs.Map.{keys_of, remove_entry}
use Rattle.std.specs.BTreeMap.{is_at, insert_entry}
use Rattle.std.specs.Ordering.{nat_cmp}
use Rattle.std.proofs.lemmas.Bool.{false≢true, eqb-true, eq-eqb}
use Rattle.fs_model.specs.declared.inode.Entry.{Entry}
use Rattle.fs_model.specs.declared.inode.Kind.{Kind}
use Rattle.fs_model.specs.declared.inode.Kind.TheVariants.{File, Dir}
use Rattle.fs_model.specs.declared.refusal.Refusal.{Refusal}
use Rattle.fs_model.specs.declared.refusal.Refusal.TheVariants.{Eisdir, Enametoolong, Einval, Ebadf}
use Rattle.fs_model.specs.declared.reply.Reply.TheVariants.{Done, Ino}
use Rattle.fs_model.specs.Change.{without_inode}
use Rattle.fs_model.specs.Files.{Tree, Files, Inodes, Entries, handle_at, pair_cmp, name_cmp}
use Rattle.fs_model.specs.Handles.{is_bad_slot, opened, closed}
use Rattle.fs_model.specs.Orphan.{is_open, is_nameless, without_lost}
use Rattle.fs_model.specs.Outcome.{Outcome, refuse, with_found, with_some, files_in}
use Rattle.fs_model.specs.Path.{is_path, has_long_name, walked, is_dir, is_file, components}
use Rattle.fs_model.specs.Proper.{ascends, is_inode_node, is_block_node}
use Rattle.fs_laws.specs.Sound.{IsSound, LeavesSound}
use Rattle.fs_laws.proofs.Climb.{proper_of}
use Rattle.fs_laws.proofs.InodeKinds.{is_dir_same}
use Rattle.fs_laws.proofs.Linked.{linked_left}
use Rattle.fs_laws.proofs.Local.{IsLocal, local_of}
use Rattle.fs_laws.proofs.Losses.{IsChildless, kind_left}
use Rattle.fs_laws.specs.Maps.{all_at, all_insert, all_remove, all_filter, count_found, filter_ascends, key_cases, remove_ascends, removed_here, removed_other}
use Rattle.fs_laws.specs.Orders.{numbers, pairs}
use Rattle.fs_laws.proofs.Plans.{refuse_to, found_to, some_to}
use Rattle.fs_laws.proofs.Rel.{Rel, there_of, rel_of, inode_in, kind_is, names}
use Rattle.fs_laws.proofs.Removals.{dir_agrees, handles_left}
use Rattle.fs_laws.proofs.Walks.{placed_kind, reached_placed}

pub local_without : (tree : Tree) (ino : ℕ) → IsLocal tree → IsLocal (without_inode tree ino)
local_without tree ino local =
    let kept : (ℕ × ℕ) × List ℕ → Bool = λ b. not (b.0.0 == ino) in
    record {
      inodes_ascend = remove_ascends nat_cmp numbers (is_at (nat_cmp ino)) tree.inodes local.inodes_ascend;
      blocks_ascend = filter_ascends pair_cmp pairs kept tree.blocks local.blocks_ascend;
      entries_ascend = local.entries_ascend;
      inode_nodes = all_remove is_inode_node (is_at (nat_cmp ino)) tree.inodes local.inode_nodes;
      block_nodes = all_filter is_block_node kept tree.blocks local.block_nodes;
      entry_nodes = local.entry_nodes;
      inode_numbers = all_remove (λ e. nat_le e.0 tree.highest) (is_at (nat_cmp ino)) tree.inodes local.inode_numbers;
      block_numbers = all_filter (λ e. nat_le e.0.0 tree.highest) kept tree.blocks local.block_numbers;
    }

pub stays_sound : (files : Files) → IsSound files → LeavesSound files files
stays_sound files sound = record { sound = sound }

-- an inode without a name goes
pub rel_forgotten : (inodes : Inodes) (entries : Entries) (ino : ℕ) → ascends nat_cmp (keys_of inodes) ≡ true → IsChildless entries ino → (ino ≡ 1 → ⊥) → names entries ino ≡ 0 → Rel inodes entries → Rel (remove_entry (is_at (nat_cmp ino)) inodes) entries
rel_forgotten inodes entries ino h none root zero rel = record {
  root = kind_left inodes ino 1 Dir (λ same. root (sym same)) rel.root;
  entry = λ key x f.
      let sound = rel.entry key x f in
      let other : x.ino ≡ ino → ⊥ = λ same. (let some = count_found name_cmp (λ (y : Entry). y.ino == ino) entries key x f (eq-eqb x.ino ino same) in omega (arith, zero, some)) in
      record { dir = kind_left inodes ino x.dir Dir (none key x f) sound.dir; ino = kind_left inodes ino x.ino x.kind other sound.ino; root = sound.root };
  inode = λ x i f. elim (key_cases nat_cmp numbers x ino) [
    | inl same ↦
        let gone = removed_here nat_cmp numbers inodes ino h in
        let g = subst (λ k. inode_in (remove_entry (is_at (nat_cmp ino)) inodes) k ≡ Some i) same f in absurd cc
    | inr other ↦ rel.inode x i (sym (removed_other nat_cmp numbers inodes ino x other) ∙ f)
  ];
}

lost_sound : (files : Files) (ino : ℕ) → IsSound files → kind_is files.tree.inodes ino File ≡ true → LeavesSound files (without_lost files ino)
lost_sound files ino sound file = by (is_nameless files.tree ino) refl (is_open files ino) refl
  where
    rel : Rel files.tree.inodes files.tree.entries
    rel = rel_of files.tree sound.proper

    gone : is_nameless files.tree ino ≡ true → is_open files ino ≡ false → LeavesSound files (record files { tree = without_inode files.tree ino })
    gone n o =
        let it = there_of files.tree.inodes ino File file in
        let none : it.inode.nlink ≡ 0 = eqb-true it.inode.nlink 0 (rw it.found at n) in
        let links = (rel.inode ino it.inode it.found).plain (is_dir_same it.inode.kind File it.same) in
        let childless : IsChildless files.tree.entries ino = λ key x f same.
        false≢true (dir_agrees files.tree.inodes ino File Dir file (subst (λ k. kind_is files.tree.inodes k Dir ≡ true) same (rel.entry key x f).dir)) in
        let root : ino ≡ 1 → ⊥ = λ same. false≢true (dir_agrees files.tree.inodes ino File Dir file (subst (λ k. kind_is files.tree.inodes k Dir ≡ true) (sym same) rel.root)) in
        record {
          sound = record {
            proper = proper_of (without_inode files.tree ino) (local_without files.tree ino (local_of files.tree sound.proper)) (rel_forgotten files.tree.inodes files.tree.entries ino sound.proper.inodes_ascend childless root (sym links ∙ none) rel) (linked_left files.tree.inodes ino sound.proper.linked);
            handles = handles_left files.tree.inodes (remove_entry (is_at (nat_cmp ino)) files.tree.inodes) ino (λ x k other h. kind_left files.tree.inodes ino x k other h) files.handles sound.handles o;
          };
        }

    by : (n : Bool) → is_nameless files.tree ino ≡ n → (o : Bool) → is_open files ino ≡ o → LeavesSound files (cond (n && not o) (record files { tree = without_inode files.tree ino }) files)
    by true n false o = gone n o
    by true n true o = stays_sound files sound
    by false n o p = stays_sound files sound

pub closed_sound : (files : Files) (caller slot : ℕ) → IsSound files → LeavesSound files (files_in files (closed files caller slot))
closed_sound files caller slot sound =
    let P : Outcome → Type 0 = λ outcome. LeavesSound files (files_in files outcome) in
    let nothing : (e : Refusal) → P (Err e) = λ e. stays_sound files sound in
    let left : Files = record files { handles = remove_entry (is_at (pair_cmp (caller, slot))) files.handles } in
    let last : ℕ → Outcome = λ ino. Ok (Done, without_lost left ino) in
    refuse_to P (is_bad_slot slot) Einval (with_some (handle_at files caller slot) Ebadf last) nothing (λ good.
    some_to P (handle_at files caller slot) Ebadf last nothing (λ ino held.
    let it = lost_sound left ino (record { proper = sound.proper; handles = all_remove (λ h. kind_is files.tree.inodes h.1 File) (is_at (pair_cmp (caller, slot))) files.handles sound.handles })
    (all_at pair_cmp pairs (λ h. kind_is files.tree.inodes h.1 File) files.handles (caller, slot) ino sound.handles held) in
    record { sound = it.sound }))

file_eq : (kind : Kind) → not (is_file kind) ≡ false → kind ≡ File
file_eq File h = refl
file_eq kind h = absurd (false≢true (sym h))

pub opened_sound : (files : Files) (caller : ℕ) (path : List ℕ) (slot : ℕ) → IsSound files → LeavesSound files (files_in files (opened files caller path slot))
opened_sound files caller path slot sound =
    let tree : Tree = files.tree in
    let P : Outcome → Type 0 = λ outcome. LeavesSound files (files_in files outcome) in
    let nothing : (e : Refusal) → P (Err e) = λ e. stays_sound files sound in
    let last : Entry → Outcome = λ entry. Ok (Ino entry.ino, record files { handles = insert_entry pair_cmp files.handles (caller, slot) entry.ino }) in
    let regular : Entry → Outcome = λ entry. refuse (not (is_file entry.kind)) Einval (last entry) in
    let plain : Entry → Outcome = λ entry. refuse (is_dir entry.kind) Eisdir (regular entry) in
    let free : Outcome = refuse (is_some (handle_at files caller slot)) Ebadf (with_found (walked tree path) plain) in
    refuse_to P (is_bad_slot slot || not (is_path path)) Einval (refuse (has_long_name path) Enametoolong free) nothing (λ good.
    refuse_to P (has_long_name path) Enametoolong free nothing (λ short.
    refuse_to P (is_some (handle_at files caller slot)) Ebadf (with_found (walked tree path) plain) nothing (λ absent.
    found_to P (walked tree path) plain nothing (λ entry at.
    refuse_to P (is_dir entry.kind) Eisdir (regular entry) nothing (λ nodir.
    refuse_to P (not (is_file entry.kind)) Einval (last entry) nothing (λ file.
    let kind = placed_kind tree (rel_of tree sound.proper) entry (reached_placed tree (local_of tree sound.proper) (components path) entry at) in
    record {
      sound = record {
        proper = sound.proper;
        handles = all_insert pair_cmp pairs (λ h. kind_is tree.inodes h.1 File) files.handles (caller, slot) entry.ino (subst (λ k. kind_is tree.inodes entry.ino k ≡ true) (file_eq entry.kind file) kind) sound.handles;
      };
    }))))))
