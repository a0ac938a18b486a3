-- A name goes, its inode loses a link, and its directory changes.
use Rattle.std.proofs.Common.{◌≡◌, ℕ, ◌+◌, ◌-◌, ◌<◌, ◌≤◌, ◌^◌, Bool, true, false, cond, not, ◌&&◌, List, [], ◌∷◌, length, Some, Ok, Err, refl, sym, ap, subst, ◌∙◌, arith, inl, inr}
use Rattle.std.specs.Prelude.{◌==◌, nat_lt, if◌then◌else◌}
use Rattle.std.specs.List.{list_all, list_any}
use Rattle.std.specs.Map.{remove_entry}
use Rattle.std.specs.BTreeMap.{is_at, insert_entry}
use Rattle.std.specs.Ordering.{nat_cmp}
use Rattle.std.proofs.lemmas.Bool.{false≢true, and_parts, and_from, or_parts, or_cases, eqb-true, eq-eqb}
use Rattle.std.proofs.lemmas.Bool.Decides.{eqb_tells}
use Rattle.fs_model.specs.declared.change.Change.{Change}
use Rattle.fs_model.specs.declared.change.Change.TheVariants.{SetInode, DropEntry, DropInode}
use Rattle.fs_model.specs.declared.inode.Inode.{Inode}
use Rattle.fs_model.specs.declared.inode.Entry.{Entry}
use Rattle.fs_model.specs.declared.inode.Kind.{Kind}
use Rattle.fs_model.specs.declared.inode.Kind.TheVariants.{File, Dir}
use Rattle.fs_model.specs.declared.refusal.Refusal.{Refusal}
use Rattle.fs_model.specs.declared.refusal.Refusal.TheVariants.{Enoent, Enotdir, Eisdir, Enotempty, Enametoolong, Einval}
use Rattle.fs_model.specs.declared.reply.Reply.TheVariants.{Done}
use Rattle.fs_model.specs.Backing.{is_node}
use Rattle.fs_model.specs.Change.{applied, apply}
use Rattle.fs_model.specs.Directory.{counted, entries_in, has_no_entry, no_share, share_of}
use Rattle.fs_model.specs.Files.{Tree, Files, Inodes, Handles, inode_at, name_cmp}
use Rattle.fs_model.specs.Links.{less_linked, removing, unlinked, dir_removed}
use Rattle.fs_model.specs.Making.{is_name_path, touched, touching}
use Rattle.fs_model.specs.Orphan.{is_open}
use Rattle.fs_model.specs.Outcome.{Plan, refuse, with_found, with_some, group_in}
use Rattle.fs_model.specs.Path.{has_long_name, walked, is_dir, is_empty}
use Rattle.fs_model.specs.Proper.{is_inode_node, is_entry_node, is_name, are_words}
use Rattle.fs_model.specs.Orphan.{revives_none, all_revive_none, drops_named}
use Rattle.fs_laws.proofs.Revives.{linked_drops, linked_revives, less_revives}
use Rattle.fs_laws.specs.Sound.{IsSound, KeepsSound}
use Rattle.fs_laws.proofs.Climb.{proper_of}
use Rattle.fs_laws.proofs.Groups.{bytes_few, keeps_nothing, keeps_sound, node_at, touching_is}
use Rattle.fs_laws.proofs.InodeKinds.{is_dir_same}
use Rattle.fs_laws.proofs.Linked.{counted_linked, dir_linked, linked_left, linked_set, plain_linked}
use Rattle.fs_laws.proofs.Local.{local_of, local_group}
use Rattle.fs_laws.proofs.Losses.{IsChildless, without, rel_dropped, rel_unlinked, kind_left}
use Rattle.fs_laws.specs.Maps.{all_at, count_found, removed_other, set_other}
use Rattle.fs_laws.proofs.Nodes.{node_of, node_number, node_touched, node_changed, node_linked, node_links}
use Rattle.fs_laws.specs.Orders.{numbers, named}
use Rattle.fs_laws.proofs.Plans.{refuse_to, found_to, some_to}
use Rattle.fs_laws.proofs.Rel.{Rel, There, there_of, rel_of, inode_in, kind_is, names}
use Rattle.fs_laws.proofs.Sizes.{cap_most, cap_plain}
use Rattle.fs_laws.proofs.Steps.{KeepsKinds, keeps_kinds, some_same, rel_touched}
use Rattle.fs_laws.proofs.Walks.{IsIn, entry_node_of, walked_in}

-- kinds of one inode agree
pub dir_agrees : (inodes : Inodes) (ino : ℕ) (a b : Kind) → kind_is inodes ino a ≡ true → kind_is inodes ino b ≡ true → is_dir a ≡ is_dir b
dir_agrees inodes ino a b h k =
    let x = there_of inodes ino a h in
    let y = there_of inodes ino b k in
    let is = some_same (sym x.found ∙ y.found) in
    sym (is_dir_same x.inode.kind a x.same) ∙ ap (λ (i : Inode). is_dir i.kind) is ∙ is_dir_same y.inode.kind b y.same

pub handles_left : (inodes after : Inodes) (gone : ℕ) → ((x : ℕ) (k : Kind) → (x ≡ gone → ⊥) → kind_is inodes x k ≡ true → kind_is after x k ≡ true) → (handles : Handles) → list_all (λ h. kind_is inodes h.1 File) handles ≡ true → list_any (λ h. h.1 == gone) handles ≡ false → list_all (λ h. kind_is after h.1 File) handles ≡ true
handles_left inodes after gone keeps [] t o = refl
handles_left inodes after gone keeps (h ∷ handles) t o =
    let p = and_parts (kind_is inodes h.1 File) (list_all (λ x. kind_is inodes x.1 File) handles) t in
    let q = or_parts (h.1 == gone) (list_any (λ x. x.1 == gone) handles) o in
    and_from (kind_is after h.1 File) (list_all (λ x. kind_is after x.1 File) handles) (keeps h.1 File (λ same. false≢true (sym q.0 ∙ eq-eqb h.1 gone same)) p.0) (handles_left inodes after gone keeps handles p.1 q.1)

open_file : (inodes : Inodes) (ino : ℕ) (handles : Handles) → list_all (λ h. kind_is inodes h.1 File) handles ≡ true → list_any (λ h. h.1 == ino) handles ≡ true → kind_is inodes ino File ≡ true
open_file inodes ino [] t o = absurd (false≢true o)
open_file inodes ino (h ∷ handles) t o =
    let p = and_parts (kind_is inodes h.1 File) (list_all (λ x. kind_is inodes x.1 File) handles) t in
    elim (or_cases (h.1 == ino) (list_any (λ x. x.1 == ino) handles) o) [
      | inl here ↦ subst (λ x. kind_is inodes x File ≡ true) (eqb-true h.1 ino here) p.0
      | inr more ↦ open_file inodes ino handles p.1 more
    ]

-- what is asked of a name that goes
pub record Leaves (files : Files) (e : Entry) (inode left : Inode) (now : ℕ) : Type 0 where
  pub sound : IsSound files
  pub moment : now < 2 ^ 64
  pub here : IsIn files.tree.entries e
  pub childless : IsChildless files.tree.entries e.ino
  pub found : inode_at files.tree e.ino ≡ Some inode
  pub kind : left.kind ≡ inode.kind
  pub node : is_inode_node (e.ino, left) ≡ true
  pub dir : is_dir inode.kind ≡ true → left.nlink ≡ 0
  pub plain : is_dir inode.kind ≡ false → left.nlink ≡ inode.nlink - 1

-- an inode that has one name has links
pub has_links : (files : Files) (e : Entry) (inode left : Inode) (now : ℕ) → Leaves files e inode left now → names files.tree.entries e.ino ≡ 1 → (inode.nlink == 0) ≡ false
has_links files e inode left now it one = by (is_dir inode.kind) refl
  where
    by : (d : Bool) → is_dir inode.kind ≡ d → (inode.nlink == 0) ≡ false
    by true d = dir_linked files.tree.inodes e.ino inode it.found d it.sound.proper.linked
    by false d =
        let links = ((rel_of files.tree it.sound.proper).inode e.ino inode it.found).plain d in
        elim (eqb_tells inode.nlink 0) [ inl none ↦ (let z = none.1 in absurd (omega (arith, z, links, one))) | inr some ↦ some.0 ]

pub drop_node : (files : Files) (e : Entry) → IsSound files → IsIn files.tree.entries e → (are_words (e.dir ∷ []) && is_name e.name) ≡ true
drop_node files e sound here =
    let node = entry_node_of (e.dir, e.name) e (all_at name_cmp named is_entry_node files.tree.entries (e.dir, e.name) e sound.proper.entry_nodes here) in
    let word = and_parts (nat_lt e.dir (2 ^ 32)) (are_words (e.ino ∷ [])) node.words in
    and_from (are_words (e.dir ∷ [])) (is_name e.name) (and_from (nat_lt e.dir (2 ^ 32)) true word.0 refl) node.name

pub parent_of_entry : (files : Files) (e : Entry) → IsSound files → IsIn files.tree.entries e → There files.tree.inodes e.dir Dir
parent_of_entry files e sound here = there_of files.tree.inodes e.dir Dir ((rel_of files.tree sound.proper).entry (e.dir, e.name) e here).dir

drop_keeps : (files : Files) (e : Entry) (inode left : Inode) (now : ℕ) → Leaves files e inode left now → names files.tree.entries e.ino ≡ 1 → is_open files e.ino ≡ false → KeepsSound files (DropEntry e.dir e.name ∷ DropInode e.ino ∷ touching files.tree e.dir now no_share (share_of e))
drop_keeps files e inode left now it one closed =
    let tree : Tree = files.tree in
    let rel = rel_of tree it.sound.proper in
    let up = parent_of_entry files e it.sound it.here in
    let is_a_dir : is_dir up.inode.kind ≡ true = is_dir_same up.inode.kind Dir up.same in
    let left_up : Inode = touched now (counted no_share (share_of e) up.inode) in
    let apart : e.dir ≡ e.ino → ⊥ = it.childless (e.dir, e.name) e it.here in
    let first = rel_dropped tree.inodes tree.entries e it.sound.proper.inodes_ascend it.sound.proper.entries_ascend it.here it.childless one rel in
    let left_inodes : Inodes = remove_entry (is_at (nat_cmp e.ino)) tree.inodes in
    let at : inode_in left_inodes e.dir ≡ Some up.inode = removed_other nat_cmp numbers tree.inodes e.ino e.dir apart ∙ up.found in
    let last = rel_touched left_inodes (without tree.entries e) e.dir up.inode left_up at refl (λ d. absurd (false≢true (sym d ∙ is_a_dir))) first in
    let group : List Change = DropEntry e.dir e.name ∷ DropInode e.ino ∷ SetInode e.dir left_up ∷ [] in
    let up_node = node_at tree it.sound.proper e.dir up.inode up.found in
    let own = node_of e.ino left it.node in
    let nodes : list_all is_node group ≡ true =
    and_from (are_words (e.dir ∷ []) && is_name e.name) (list_all is_node (DropInode e.ino ∷ SetInode e.dir left_up ∷ [])) (drop_node files e it.sound it.here)
    (and_from (not (e.ino == 0) && are_words (e.ino ∷ [])) (list_all is_node (SetInode e.dir left_up ∷ []))
    (and_from (not (e.ino == 0)) (are_words (e.ino ∷ [])) own.ino (and_from (nat_lt e.ino (2 ^ 32)) true (node_number e.ino left it.node) refl))
    (and_from (is_inode_node (e.dir, left_up)) true (node_changed e.dir no_share (share_of e) up.inode now it.moment up_node) refl)) in
    let after : Inodes = insert_entry nat_cmp left_inodes e.dir left_up in
    let kept : (x : ℕ) (k : Kind) → (x ≡ e.ino → ⊥) → kind_is tree.inodes x k ≡ true → kind_is after x k ≡ true = λ x k o h.
    keeps_kinds left_inodes e.dir left_up (λ i f. ap (λ (j : Inode). j.kind) (some_same (sym at ∙ f))) x k (kind_left tree.inodes e.ino x k o h) in
    let plain = cap_plain e.dir left_up Dir refl up.same in
    let all : KeepsSound files group = record {
      nodes = nodes;
      drops = and_from (drops_named (applied tree (DropEntry e.dir e.name)) (DropInode e.ino)) true (linked_drops (applied tree (DropEntry e.dir e.name)) e.ino inode it.found (has_links files e inode left now it one)) refl;
      revives_none = and_from (revives_none (applied (applied tree (DropEntry e.dir e.name)) (DropInode e.ino)) (SetInode e.dir left_up)) true (linked_revives (applied (applied tree (DropEntry e.dir e.name)) (DropInode e.ino)) e.dir up.inode left_up at (dir_linked tree.inodes e.dir up.inode up.found is_a_dir it.sound.proper.linked)) refl;
      limit = bytes_few files group it.sound nodes (omega (arith, plain));
      proper = proper_of (apply tree group) (local_group group tree nodes (local_of tree it.sound.proper)) last (linked_set left_inodes e.dir left_up (counted_linked e.dir no_share (share_of e) up.inode now is_a_dir) (linked_left tree.inodes e.ino it.sound.proper.linked));
      handles = handles_left tree.inodes after e.ino kept files.handles it.sound.handles closed;
    } in
    let P : List Change → Type 0 = λ rest. KeepsSound files (DropEntry e.dir e.name ∷ DropInode e.ino ∷ rest) in
    subst P (sym (touching_is tree e.dir now no_share (share_of e) up.inode up.found)) all

unlink_keeps : (files : Files) (e : Entry) (inode left : Inode) (now : ℕ) → Leaves files e inode left now → is_dir inode.kind ≡ false → left.nlink + 1 ≡ names files.tree.entries e.ino → KeepsSound files (DropEntry e.dir e.name ∷ SetInode e.ino left ∷ touching files.tree e.dir now no_share (share_of e))
unlink_keeps files e inode left now it plain links =
    let tree : Tree = files.tree in
    let rel = rel_of tree it.sound.proper in
    let up = parent_of_entry files e it.sound it.here in
    let is_a_dir : is_dir up.inode.kind ≡ true = is_dir_same up.inode.kind Dir up.same in
    let left_up : Inode = touched now (counted no_share (share_of e) up.inode) in
    let apart : e.dir ≡ e.ino → ⊥ = it.childless (e.dir, e.name) e it.here in
    let first = rel_unlinked tree.inodes tree.entries e inode left it.sound.proper.entries_ascend it.here it.childless it.found it.kind (ap is_dir it.kind ∙ plain) links rel in
    let left_inodes : Inodes = insert_entry nat_cmp tree.inodes e.ino left in
    let at : inode_in left_inodes e.dir ≡ Some up.inode = set_other nat_cmp numbers tree.inodes e.ino left e.dir apart ∙ up.found in
    let last = rel_touched left_inodes (without tree.entries e) e.dir up.inode left_up at refl (λ d. absurd (false≢true (sym d ∙ is_a_dir))) first in
    let group : List Change = DropEntry e.dir e.name ∷ SetInode e.ino left ∷ SetInode e.dir left_up ∷ [] in
    let up_node = node_at tree it.sound.proper e.dir up.inode up.found in
    let nodes : list_all is_node group ≡ true =
    and_from (are_words (e.dir ∷ []) && is_name e.name) (list_all is_node (SetInode e.ino left ∷ SetInode e.dir left_up ∷ [])) (drop_node files e it.sound it.here)
    (and_from (is_inode_node (e.ino, left)) (list_all is_node (SetInode e.dir left_up ∷ [])) it.node
    (and_from (is_inode_node (e.dir, left_up)) true (node_changed e.dir no_share (share_of e) up.inode now it.moment up_node) refl)) in
    let kept : KeepsKinds tree.inodes (insert_entry nat_cmp left_inodes e.dir left_up) = λ x k h.
    keeps_kinds left_inodes e.dir left_up (λ i f. ap (λ (j : Inode). j.kind) (some_same (sym at ∙ f))) x k
    (keeps_kinds tree.inodes e.ino left (λ o f. it.kind ∙ ap (λ (j : Inode). j.kind) (some_same (sym it.found ∙ f))) x k h) in
    let named : Tree = applied tree (DropEntry e.dir e.name) in
    let revives : all_revive_none tree group ≡ true = and_from (revives_none named (SetInode e.ino left)) (all_revive_none (applied named (SetInode e.ino left)) (SetInode e.dir left_up ∷ []))
    (less_revives named e.ino inode left it.found (it.plain plain))
    (and_from (revives_none (applied named (SetInode e.ino left)) (SetInode e.dir left_up)) true (linked_revives (applied named (SetInode e.ino left)) e.dir up.inode left_up at (dir_linked tree.inodes e.dir up.inode up.found is_a_dir it.sound.proper.linked)) refl) in
    let most = cap_most (SetInode e.ino left) in
    let dir = cap_plain e.dir left_up Dir refl up.same in
    let P : List Change → Type 0 = λ rest. KeepsSound files (DropEntry e.dir e.name ∷ SetInode e.ino left ∷ rest) in
    subst P (sym (touching_is tree e.dir now no_share (share_of e) up.inode up.found)) (keeps_sound files group it.sound nodes revives refl (omega (arith, most, dir)) last kept (λ h. linked_set left_inodes e.dir left_up (counted_linked e.dir no_share (share_of e) up.inode now is_a_dir) (linked_set tree.inodes e.ino left (plain_linked e.ino left (ap is_dir it.kind ∙ plain)) h)))

-- either the inode goes, or it stays with a link less
pub leaving_cases : (files : Files) (e : Entry) (inode left : Inode) (now : ℕ) → Leaves files e inode left now → (P : Change → Type 0) → (names files.tree.entries e.ino ≡ 1 → is_open files e.ino ≡ false → P (DropInode e.ino)) → (is_dir inode.kind ≡ false → left.nlink + 1 ≡ names files.tree.entries e.ino → P (SetInode e.ino left))
    → P (cond ((left.nlink == 0) && not (is_open files e.ino)) (DropInode e.ino) (SetInode e.ino left))
leaving_cases files e inode left now it P drops sets = by (is_dir inode.kind) refl (left.nlink == 0) refl (is_open files e.ino) refl
  where
    rel : Rel files.tree.inodes files.tree.entries
    rel = rel_of files.tree it.sound.proper

    some : 1 ≤ names files.tree.entries e.ino
    some = count_found name_cmp (λ (x : Entry). x.ino == e.ino) files.tree.entries (e.dir, e.name) e it.here (eq-eqb e.ino e.ino refl)

    by : (d : Bool) → is_dir inode.kind ≡ d → (z : Bool) → (left.nlink == 0) ≡ z → (o : Bool) → is_open files e.ino ≡ o → P (cond (z && not o) (DropInode e.ino) (SetInode e.ino left))
    by true d true z false o = drops ((rel.inode e.ino inode it.found).one d (rel.entry (e.dir, e.name) e it.here).root) o
    by false d true z false o =
        let n = eqb-true left.nlink 0 z in
        let m = it.plain d in
        let links = (rel.inode e.ino inode it.found).plain d in
        let few = some in
        drops (omega (arith, n, m, links, few)) o
    by true d true z true o =
        let file = open_file files.tree.inodes e.ino files.handles it.sound.handles o in
        let a = there_of files.tree.inodes e.ino File file in
        let is = some_same (sym a.found ∙ it.found) in
        absurd (false≢true (sym (is_dir_same a.inode.kind File a.same) ∙ ap (λ (i : Inode). is_dir i.kind) is ∙ d))
    by true d false z o p = absurd (false≢true (sym z ∙ eq-eqb left.nlink 0 (it.dir d)))
    by false d true z true o =
        let m = it.plain d in
        let links = (rel.inode e.ino inode it.found).plain d in
        let few = some in
        sets d (omega (arith, m, links, few))
    by false d false z o p =
        let m = it.plain d in
        let links = (rel.inode e.ino inode it.found).plain d in
        let few = some in
        sets d (omega (arith, m, links, few))

leaving_keeps : (files : Files) (e : Entry) (inode left : Inode) (now : ℕ) → Leaves files e inode left now → KeepsSound files (DropEntry e.dir e.name ∷ cond ((left.nlink == 0) && not (is_open files e.ino)) (DropInode e.ino) (SetInode e.ino left) ∷ touching files.tree e.dir now no_share (share_of e))
leaving_keeps files e inode left now it =
    let P : Change → Type 0 = λ change. KeepsSound files (DropEntry e.dir e.name ∷ change ∷ touching files.tree e.dir now no_share (share_of e)) in
    leaving_cases files e inode left now it P (λ one closed. drop_keeps files e inode left now it one closed) (λ plain links. unlink_keeps files e inode left now it plain links)

less_small : (b : Bool) (n : ℕ) → n < 2 ^ 32 → (if b then 0 else n - 1) < 2 ^ 32
less_small true n h = omega arith
less_small false n h = omega (arith, h)

pub leaves_less : (files : Files) (e : Entry) (inode : Inode) (now : ℕ) → IsSound files → now < 2 ^ 64 → IsIn files.tree.entries e → IsChildless files.tree.entries e.ino → inode_at files.tree e.ino ≡ Some inode → Leaves files e inode (less_linked now inode) now
leaves_less files e inode now sound moment here childless found =
    let node = node_at files.tree sound.proper e.ino inode found in
    let nlink : ℕ = if is_dir inode.kind then 0 else inode.nlink - 1 in
    record {
      sound = sound;
      moment = moment;
      here = here;
      childless = childless;
      found = found;
      kind = refl;
      node = node_touched e.ino (record inode { nlink = nlink }) now moment (node_linked e.ino inode nlink (less_small (is_dir inode.kind) inode.nlink (node_links e.ino inode node)) node);
      dir = λ d. rw d refl;
      plain = λ d. rw d refl;
    }

pub removing_keeps : (files : Files) (e : Entry) (inode : Inode) (now : ℕ) → IsSound files → now < 2 ^ 64 → IsIn files.tree.entries e → IsChildless files.tree.entries e.ino → inode_at files.tree e.ino ≡ Some inode → KeepsSound files (removing files e inode now)
removing_keeps files e inode now sound moment here childless found = leaving_keeps files e inode (less_linked now inode) now (leaves_less files e inode now sound moment here childless found)

-- nothing stands in what is no directory
pub plain_childless : (files : Files) (e : Entry) → IsSound files → IsIn files.tree.entries e → is_dir e.kind ≡ false → IsChildless files.tree.entries e.ino
plain_childless files e sound here file key x f same =
    let rel = rel_of files.tree sound.proper in
    let a = subst (λ n. kind_is files.tree.inodes n Dir ≡ true) same (rel.entry key x f).dir in
    false≢true (sym file ∙ dir_agrees files.tree.inodes e.ino e.kind Dir (rel.entry (e.dir, e.name) e here).ino a)

pub unlinked_keeps : (files : Files) (now : ℕ) (path : List ℕ) → IsSound files → now < 2 ^ 64 → KeepsSound files (group_in (unlinked files now path))
unlinked_keeps files now path sound moment =
    let tree : Tree = files.tree in
    let local = local_of tree sound.proper in
    let rel = rel_of tree sound.proper in
    let P : Plan → Type 0 = λ plan. KeepsSound files (group_in plan) in
    let nothing : (e : Refusal) → P (Err e) = λ e. keeps_nothing files sound in
    let last : Entry → Inode → Plan = λ e inode. Ok (Done, removing files e inode now) in
    let with_it : Entry → Plan = λ e. with_some (inode_at tree e.ino) Enoent (last e) in
    let plain : Entry → Plan = λ e. refuse (is_dir e.kind) Eisdir (with_it e) in
    refuse_to P (not (is_name_path path)) Einval (refuse (has_long_name path) Enametoolong (with_found (walked tree path) plain)) nothing (λ good.
    refuse_to P (has_long_name path) Enametoolong (with_found (walked tree path) plain) nothing (λ short.
    found_to P (walked tree path) plain nothing (λ e at.
    refuse_to P (is_dir e.kind) Eisdir (with_it e) nothing (λ file.
    some_to P (inode_at tree e.ino) Enoent (last e) nothing (λ inode found.
    let here = walked_in tree local path e good at in
    removing_keeps files e inode now sound moment here (λ key x f same.
    let a = subst (λ n. kind_is tree.inodes n Dir ≡ true) same (rel.entry key x f).dir in
    let b = (rel.entry (e.dir, e.name) e here).ino in
    false≢true (sym file ∙ dir_agrees tree.inodes e.ino e.kind Dir b a)) found)))))

pub no_entry_childless : (tree : Tree) (ino : ℕ) → not (has_no_entry tree ino) ≡ false → IsChildless tree.entries ino
no_entry_childless tree ino none key x f same =
    let some = count_found name_cmp (λ (y : Entry). y.dir == ino) tree.entries key x f (eq-eqb x.dir ino same) in
    by (entries_in tree ino) none some
  where
    by : (es : List Entry) → not (is_empty es) ≡ false → 1 ≤ length es → ⊥
    by [] n s = omega (arith, s)
    by (y ∷ ys) n s = false≢true (sym n)

pub dir_removed_keeps : (files : Files) (now : ℕ) (path : List ℕ) → IsSound files → now < 2 ^ 64 → KeepsSound files (group_in (dir_removed files now path))
dir_removed_keeps files now path sound moment =
    let tree : Tree = files.tree in
    let local = local_of tree sound.proper in
    let P : Plan → Type 0 = λ plan. KeepsSound files (group_in plan) in
    let nothing : (e : Refusal) → P (Err e) = λ e. keeps_nothing files sound in
    let last : Entry → Inode → Plan = λ e inode. Ok (Done, removing files e inode now) in
    let with_it : Entry → Plan = λ e. with_some (inode_at tree e.ino) Enoent (last e) in
    let empty : Entry → Plan = λ e. refuse (not (has_no_entry tree e.ino)) Enotempty (with_it e) in
    let dir : Entry → Plan = λ e. refuse (not (is_dir e.kind)) Enotdir (empty e) in
    refuse_to P (not (is_name_path path)) Einval (refuse (has_long_name path) Enametoolong (with_found (walked tree path) dir)) nothing (λ good.
    refuse_to P (has_long_name path) Enametoolong (with_found (walked tree path) dir) nothing (λ short.
    found_to P (walked tree path) dir nothing (λ e at.
    refuse_to P (not (is_dir e.kind)) Enotdir (empty e) nothing (λ file.
    refuse_to P (not (has_no_entry tree e.ino)) Enotempty (with_it e) nothing (λ none.
    some_to P (inode_at tree e.ino) Enoent (last e) nothing (λ inode found.
    removing_keeps files e inode now sound moment (walked_in tree local path e good at) (no_entry_childless tree e.ino none) found))))))
