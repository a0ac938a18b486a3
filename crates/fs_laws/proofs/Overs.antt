-- A name that moves over another one, whose inode loses it.
use Rattle.std.proofs.Common.{◌≡◌, ℕ, ◌<◌, ◌^◌, Bool, true, false, cond, not, ◌&&◌, ◌||◌, List, [], ◌∷◌, Some, Ok, Err, refl, sym, ap, subst, ◌∙◌, arith}
use Rattle.std.specs.Prelude.{◌==◌, Option, None}
use Rattle.std.specs.List.{list_all}
use Rattle.std.specs.Map.{remove_entry}
use Rattle.std.specs.BTreeMap.{is_at, insert_entry}
use Rattle.std.specs.Ordering.{nat_cmp}
use Rattle.std.proofs.lemmas.Bool.{false≢true, and_from, or_parts, eq-eqb}
use Rattle.fs_model.specs.declared.change.Change.{Change}
use Rattle.fs_model.specs.declared.change.Change.TheVariants.{SetInode, SetEntry, DropEntry, DropInode}
use Rattle.fs_model.specs.declared.inode.Inode.{Inode}
use Rattle.fs_model.specs.declared.inode.Entry.{Entry}
use Rattle.fs_model.specs.declared.inode.Kind.TheVariants.{File, Dir}
use Rattle.fs_model.specs.declared.refusal.Refusal.{Refusal}
use Rattle.fs_model.specs.declared.refusal.Refusal.TheVariants.{Enoent, Enotdir, Eisdir, Enotempty, Enametoolong, Einval, Emlink}
use Rattle.fs_model.specs.declared.reply.Reply.TheVariants.{Done}
use Rattle.fs_model.specs.Backing.{is_node}
use Rattle.fs_model.specs.Change.{applied, apply}
use Rattle.fs_model.specs.Directory.{has_no_entry, no_share, share_of}
use Rattle.fs_model.specs.Files.{Tree, Files, Inodes, Entries, inode_at, entry_at, name_cmp}
use Rattle.fs_model.specs.Links.{less_linked, losing}
use Rattle.fs_model.specs.Making.{is_name_path}
use Rattle.fs_model.specs.Orphan.{is_open}
use Rattle.fs_model.specs.Outcome.{Plan, refuse, with_found, with_some, group_in}
use Rattle.fs_model.specs.Path.{has_long_name, components, last_of, walked, parent_of, is_dir}
use Rattle.fs_model.specs.Proper.{are_bytes, are_words, is_entry_node, is_name}
use Rattle.fs_model.specs.Rename.{is_under, comes_linked_out, moving, moved, renamed}
use Rattle.fs_model.specs.Orphan.{revives_none, drops_named}
use Rattle.fs_laws.proofs.Revives.{less_revives, linked_drops}
use Rattle.fs_laws.specs.Sound.{IsSound, KeepsSound}
use Rattle.fs_laws.proofs.Groups.{keeps_nothing, node_at}
use Rattle.fs_laws.proofs.Linking.{both_paths}
use Rattle.fs_laws.proofs.Linked.{are_linked, linked_left, linked_set, plain_linked}
use Rattle.fs_laws.proofs.Local.{local_of}
use Rattle.fs_laws.proofs.Losses.{IsChildless, without, kind_left, rel_dropped, rel_unlinked, still_there, up_less}
use Rattle.fs_laws.proofs.Makes.{entry_is_node}
use Rattle.fs_laws.specs.Maps.{all_at, all_weaken, insert_again, remove_ascends, removed_here, removed_other, set_other}
use Rattle.fs_laws.proofs.Moves.{IsNot, Moves, moved_entries, placed_at, rel_moved}
use Rattle.fs_laws.proofs.Names.{last_is_name}
use Rattle.fs_laws.proofs.Nodes.{InodeNode, node_of, node_number}
use Rattle.fs_laws.specs.Orders.{numbers, named}
use Rattle.fs_laws.proofs.Plans.{refuse_to, found_to, some_to}
use Rattle.fs_laws.proofs.Rel.{Rel, Reaches, there_of, rel_of, inode_in, entry_in, kind_is}
use Rattle.fs_laws.proofs.Removals.{Leaves, has_links, leaves_less, leaving_cases, drop_node, parent_of_entry, handles_left, no_entry_childless, plain_childless}
use Rattle.fs_laws.proofs.Renames.{Dirs, both, both_touch, joined_keeps, moving_free}
use Rattle.fs_laws.proofs.Sizes.{cap_most}
use Rattle.fs_laws.proofs.Steps.{keeps_kinds, some_same}
use Rattle.fs_laws.proofs.Ways.{reaches_apart}
use Rattle.fs_laws.proofs.Walks.{IsIn, dir_eq, entry_node_of, is_in, parent_in, walked_in}

-- what the change does by which an inode loses a name
record Lost (files : Files) (e : Entry) (change : Change) : Type 0 where
  pub inodes : Inodes
  pub node : is_node change ≡ true
  pub rel : Rel inodes (without files.tree.entries e)
  pub makes : (t : Tree) → t.inodes ≡ files.tree.inodes → (applied t change).inodes ≡ inodes
  pub leaves : (t : Tree) → (applied t change).entries ≡ t.entries
  pub revives : (t : Tree) → t.inodes ≡ files.tree.inodes → revives_none t change ≡ true
  pub drops : (t : Tree) → t.inodes ≡ files.tree.inodes → drops_named t change ≡ true
  pub others : (x : ℕ) → (x ≡ e.ino → ⊥) → inode_in inodes x ≡ inode_in files.tree.inodes x
  pub handles : list_all (λ h. kind_is inodes h.1 File) files.handles ≡ true
  pub linked : are_linked files.tree.inodes ≡ true → are_linked inodes ≡ true

lost_by : (files : Files) (e : Entry) (inode left : Inode) (now : ℕ) → Leaves files e inode left now → Lost files e (cond ((left.nlink == 0) && not (is_open files e.ino)) (DropInode e.ino) (SetInode e.ino left))
lost_by files e inode left now it = leaving_cases files e inode left now it (Lost files e)
    (λ one closed. record {
      inodes = remove_entry (is_at (nat_cmp e.ino)) files.tree.inodes;
      node = and_from (not (e.ino == 0)) (are_words (e.ino ∷ [])) own.ino (rw (node_number e.ino left it.node) refl);
      rel = rel_dropped files.tree.inodes files.tree.entries e it.sound.proper.inodes_ascend it.sound.proper.entries_ascend it.here it.childless one rel;
      makes = λ t same. ap (λ (is : Inodes). remove_entry (is_at (nat_cmp e.ino)) is) same;
      linked = λ h. linked_left files.tree.inodes e.ino h;
      revives = λ t same. refl;
      drops = λ t same. linked_drops t e.ino inode (ap (λ (is : Inodes). inode_in is e.ino) same ∙ it.found) (has_links files e inode left now it one);
      leaves = λ t. refl;
      others = λ x other. removed_other nat_cmp numbers files.tree.inodes e.ino x other;
      handles = handles_left files.tree.inodes (remove_entry (is_at (nat_cmp e.ino)) files.tree.inodes) e.ino (λ x k other h. kind_left files.tree.inodes e.ino x k other h) files.handles it.sound.handles closed;
    })
    (λ plain links. record {
      inodes = insert_entry nat_cmp files.tree.inodes e.ino left;
      node = it.node;
      rel = rel_unlinked files.tree.inodes files.tree.entries e inode left it.sound.proper.entries_ascend it.here it.childless it.found it.kind (ap is_dir it.kind ∙ plain) links rel;
      makes = λ t same. ap (λ (is : Inodes). insert_entry nat_cmp is e.ino left) same;
      revives = λ t same. less_revives t e.ino inode left (ap (λ (is : Inodes). inode_in is e.ino) same ∙ it.found) (it.plain plain);
      drops = λ t same. refl;
      linked = λ h. linked_set files.tree.inodes e.ino left (plain_linked e.ino left (ap is_dir it.kind ∙ plain)) h;
      leaves = λ t. refl;
      others = λ x other. set_other nat_cmp numbers files.tree.inodes e.ino left x other;
      handles = all_weaken (λ h. kind_is files.tree.inodes h.1 File) (λ h. kind_is (insert_entry nat_cmp files.tree.inodes e.ino left) h.1 File)
          (λ h t. keeps_kinds files.tree.inodes e.ino left (λ o f. it.kind ∙ ap (λ (j : Inode). j.kind) (some_same (sym it.found ∙ f))) h.1 File t) files.handles it.sound.handles;
    })
  where
    rel : Rel files.tree.inodes files.tree.entries
    rel = rel_of files.tree it.sound.proper

    own : InodeNode e.ino left
    own = node_of e.ino left it.node

-- where an entry stands
abbrev place_of : Entry → ℕ × List ℕ
place_of e = (e.dir, e.name)

-- what is asked of a name that moves over another one
record Covers (files : Files) (from over : Entry) (dir : ℕ) (name : List ℕ) : Type 0 where
  pub here : IsIn files.tree.entries from
  pub there : IsIn files.tree.entries over
  pub place : place_of over ≡ (dir, name)
  pub apart : from.ino ≡ over.ino → ⊥
  pub childless : IsChildless files.tree.entries over.ino
  pub into : kind_is files.tree.inodes dir Dir ≡ true
  pub above : is_dir from.kind ≡ true → Reaches (IsNot from.ino) files.tree.entries dir

moving_over : (files : Files) (from over : Entry) (dir : ℕ) (name : List ℕ) (change : Change) (now : ℕ) → IsSound files → now < 2 ^ 64 → Covers files from over dir name → is_name name ≡ true → Lost files over change → KeepsSound files (moving files from dir name (change ∷ []) now)
moving_over files from over dir name change now sound moment it good lost =
    let tree : Tree = files.tree in
    let rel = rel_of tree sound.proper in
    let e : Entry = placed_at from dir name in
    let old = parent_of_entry files from sound it.here in
    let new = there_of tree.inodes dir Dir it.into in
    let old_node = node_at tree sound.proper from.dir old.inode old.found in
    let new_node = node_at tree sound.proper dir new.inode new.found in
    let own = there_of tree.inodes from.ino from.kind (rel.entry (from.dir, from.name) from it.here).ino in
    let word = node_number from.ino own.inode (node_at tree sound.proper from.ino own.inode own.found) in
    let before : List Change = SetEntry e ∷ DropEntry from.dir from.name ∷ [] in
    let front : List Change = SetEntry e ∷ DropEntry from.dir from.name ∷ change ∷ [] in
    let nodes : list_all is_node front ≡ true = and_from (is_node (SetEntry e)) (list_all is_node (DropEntry from.dir from.name ∷ change ∷ [])) (entry_is_node e good (node_number dir new.inode new_node) word (node_of from.ino own.inode (node_at tree sound.proper from.ino own.inode own.found)).ino)
    (and_from (are_words (from.dir ∷ []) && is_name from.name) (list_all is_node (change ∷ [])) (drop_node files from sound it.here) (and_from (is_node change) true lost.node refl)) in
    let from_apart : from.dir ≡ over.ino → ⊥ = it.childless (from.dir, from.name) from it.here in
    let dir_is : over.dir ≡ dir = ap (λ (k : ℕ × List ℕ). k.0) it.place in
    let dir_apart : dir ≡ over.ino → ⊥ = λ same. it.childless (over.dir, over.name) over it.there (dir_is ∙ same) in
    let gone : Entries = without tree.entries over in
    let moves : Moves lost.inodes gone from dir name = record {
      ascend = remove_ascends name_cmp named (is_at (name_cmp (over.dir, over.name))) tree.entries sound.proper.entries_ascend;
      here = still_there tree.entries over it.there (from.dir, from.name) from it.here it.apart;
      free = subst (λ (k : ℕ × List ℕ). entry_in gone k ≡ None) it.place (removed_here name_cmp named tree.entries (over.dir, over.name) sound.proper.entries_ascend);
      into = rw (lost.others dir dir_apart) it.into;
      above = λ d. let up = it.above d in (up.0, up_less (IsNot from.ino) tree.entries over it.there it.childless up.0 dir dir_apart up.1);
    } in
    let moved_rel = rel_moved lost.inodes gone from dir name lost.rel moves in
    let there : entry_in tree.entries (dir, name) ≡ Some over = subst (λ (k : ℕ × List ℕ). entry_in tree.entries k ≡ Some over) it.place it.there in
    let again : insert_entry name_cmp (without tree.entries over) (dir, name) e ≡ insert_entry name_cmp tree.entries (dir, name) e =
    ap (λ (k : ℕ × List ℕ). insert_entry name_cmp (remove_entry (is_at (name_cmp k)) tree.entries) (dir, name) e) it.place ∙ insert_again name_cmp named tree.entries (dir, name) over e sound.proper.entries_ascend there in
    let entries : moved_entries gone from dir name ≡ (apply tree front).entries = ap (λ (es : Entries). remove_entry (is_at (name_cmp (from.dir, from.name))) es) again ∙ sym (lost.leaves (apply tree before)) in
    let inodes : lost.inodes ≡ (apply tree front).inodes = sym (lost.makes (apply tree before) refl) in
    let P : Inodes → Type 0 = λ is. Rel is (apply tree front).entries in
    let Q : Entries → Type 0 = λ es. Rel lost.inodes es in
    let after : Rel (apply tree front).inodes (apply tree front).entries = subst P inodes (subst Q entries moved_rel) in
    let at_old : inode_in (apply tree front).inodes from.dir ≡ Some old.inode = subst (λ (is : Inodes). inode_in is from.dir ≡ Some old.inode) inodes (lost.others from.dir from_apart ∙ old.found) in
    let at_new : inode_in (apply tree front).inodes dir ≡ Some new.inode = subst (λ (is : Inodes). inode_in is dir ≡ Some new.inode) inodes (lost.others dir dir_apart ∙ new.found) in
    let handles = subst (λ (is : Inodes). list_all (λ h. kind_is is h.1 File) files.handles ≡ true) inodes lost.handles in
    let most = cap_most change in
    let dirs : Dirs tree from.dir dir = record { p = old.inode; q = new.inode; at_a = old.found; at_b = new.found; dir_p = old.same; dir_q = new.same; node_p = old_node; node_q = new_node; linked = sound.proper.linked } in
    joined_keeps files front (both tree from.dir dir now no_share (share_of from)) sound nodes (and_from (revives_none (apply tree before) change) true (lost.revives (apply tree before) refl) refl) (and_from (drops_named (apply tree before) change) true (lost.drops (apply tree before) refl) refl) (omega (arith, most)) (λ h. subst (λ (is : Inodes). are_linked is ≡ true) inodes (lost.linked h))
    (both_touch tree (apply tree front) from.dir dir now no_share (share_of from) dirs moment at_old at_new after) handles

over_childless : (files : Files) (over : Entry) → IsSound files → IsIn files.tree.entries over → (is_dir over.kind && not (has_no_entry files.tree over.ino)) ≡ false → IsChildless files.tree.entries over.ino
over_childless files over sound here empty = by (is_dir over.kind) refl empty
  where
    by : (d : Bool) → is_dir over.kind ≡ d → (d && not (has_no_entry files.tree over.ino)) ≡ false → IsChildless files.tree.entries over.ino
    by true d e = no_entry_childless files.tree over.ino e
    by false d e = plain_childless files over sound here d

-- an entry moves to a name in a directory, whatever stands there
pub moved_keeps : (files : Files) (now : ℕ) (from : Entry) (dir : ℕ) (name : List ℕ) → IsSound files → now < 2 ^ 64 → is_name name ≡ true → IsIn files.tree.entries from → kind_is files.tree.inodes dir Dir ≡ true → (is_dir from.kind ≡ true → Reaches (IsNot from.ino) files.tree.entries dir)
    → KeepsSound files (group_in (moved files now from dir name (entry_at files.tree dir name)))
moved_keeps files now from dir name sound moment good here into above = by (entry_at files.tree dir name) refl
  where
    over_it : (over : Entry) → entry_at files.tree dir name ≡ Some over → (over.ino == from.ino) ≡ false → KeepsSound files (group_in (refuse (is_dir from.kind && not (is_dir over.kind)) Enotdir
        (refuse (not (is_dir from.kind) && is_dir over.kind) Eisdir
        (refuse (is_dir over.kind && not (has_no_entry files.tree over.ino)) Enotempty
        (with_some (inode_at files.tree over.ino) Enoent (λ inode. Ok (Done, moving files from dir name (losing files over.ino now inode ∷ []) now)))))))
    over_it over f other =
        let P : Plan → Type 0 = λ plan. KeepsSound files (group_in plan) in
        let nothing : (e : Refusal) → P (Err e) = λ e. keeps_nothing files sound in
        let last : Inode → Plan = λ inode. Ok (Done, moving files from dir name (losing files over.ino now inode ∷ []) now) in
        let with_it : Plan = with_some (inode_at files.tree over.ino) Enoent last in
        let empty : Plan = refuse (is_dir over.kind && not (has_no_entry files.tree over.ino)) Enotempty with_it in
        let plain : Plan = refuse (not (is_dir from.kind) && is_dir over.kind) Eisdir empty in
        refuse_to P (is_dir from.kind && not (is_dir over.kind)) Enotdir plain nothing (λ a.
        refuse_to P (not (is_dir from.kind) && is_dir over.kind) Eisdir empty nothing (λ b.
        refuse_to P (is_dir over.kind && not (has_no_entry files.tree over.ino)) Enotempty with_it nothing (λ none.
        some_to P (inode_at files.tree over.ino) Enoent last nothing (λ inode found.
        let there = is_in files.tree (local_of files.tree sound.proper) (dir, name) over f in
        let node = entry_node_of (dir, name) over (all_at name_cmp named is_entry_node files.tree.entries (dir, name) over sound.proper.entry_nodes f) in
        let childless = over_childless files over sound there none in
        let leaves = leaves_less files over inode now sound moment there childless found in
        moving_over files from over dir name (losing files over.ino now inode) now sound moment
        (record { here = here; there = there; place = sym node.key; apart = λ same. false≢true (sym other ∙ eq-eqb over.ino from.ino (sym same)); childless = childless; into = into; above = above }) good
        (lost_by files over inode (less_linked now inode) now leaves)))))

    one : (over : Entry) → entry_at files.tree dir name ≡ Some over → (b : Bool) → (over.ino == from.ino) ≡ b → KeepsSound files (group_in (cond b (Ok (Done, [])) (refuse (is_dir from.kind && not (is_dir over.kind)) Enotdir
        (refuse (not (is_dir from.kind) && is_dir over.kind) Eisdir
        (refuse (is_dir over.kind && not (has_no_entry files.tree over.ino)) Enotempty
        (with_some (inode_at files.tree over.ino) Enoent (λ inode. Ok (Done, moving files from dir name (losing files over.ino now inode ∷ []) now))))))))
    one over f true e = keeps_nothing files sound
    one over f false e = over_it over f e

    by : (o : Option Entry) → entry_at files.tree dir name ≡ o → KeepsSound files (group_in (moved files now from dir name o))
    by None f =
        let P : Plan → Type 0 = λ plan. KeepsSound files (group_in plan) in
        refuse_to P (comes_linked_out files from dir) Emlink (Ok (Done, moving files from dir name [] now)) (λ e. keeps_nothing files sound) (λ few.
        moving_free files from dir name now sound moment (record { ascend = sound.proper.entries_ascend; here = here; free = f; into = into; above = above }) good)
    by (Some over) f = one over f (over.ino == from.ino) refl

-- a name moves
pub renamed_keeps : (files : Files) (now : ℕ) (old new : List ℕ) → IsSound files → now < 2 ^ 64 → are_bytes new ≡ true → KeepsSound files (group_in (renamed files now old new))
renamed_keeps files now old new sound moment bytes =
    let tree : Tree = files.tree in
    let local = local_of tree sound.proper in
    let rel = rel_of tree sound.proper in
    let name : List ℕ = last_of (components new) in
    let P : Plan → Type 0 = λ plan. KeepsSound files (group_in plan) in
    let nothing : (e : Refusal) → P (Err e) = λ e. keeps_nothing files sound in
    let last : Entry → Entry → Plan = λ from parent. moved files now from parent.ino name (entry_at tree parent.ino name) in
    let under : Entry → Entry → Plan = λ from parent. refuse (is_under (components old) (components new)) Einval (last from parent) in
    let above : Entry → Plan = λ from. with_found (parent_of tree new) (under from) in
    refuse_to P (not (is_name_path old && is_name_path new)) Einval (refuse (has_long_name old || has_long_name new) Enametoolong (with_found (walked tree old) above)) nothing (λ good.
    refuse_to P (has_long_name old || has_long_name new) Enametoolong (with_found (walked tree old) above) nothing (λ short.
    found_to P (walked tree old) above nothing (λ from at.
    found_to P (parent_of tree new) (under from) nothing (λ parent up.
    refuse_to P (is_under (components old) (components new)) Einval (last from parent) nothing (λ apart.
    let paths = both_paths (is_name_path old) (is_name_path new) good in
    let lengths = or_parts (has_long_name old) (has_long_name new) short in
    let here = walked_in tree local old from paths.0 at in
    moved_keeps files now from parent.ino name sound moment (last_is_name new bytes paths.1 lengths.1) here (parent_in tree local rel new parent up) (λ d.
    reaches_apart tree local rel old new from parent paths.1 at up apart (subst (λ k. kind_is tree.inodes from.ino k ≡ true) (dir_eq from.kind d) (rel.entry (from.dir, from.name) from here).ino)))))))
