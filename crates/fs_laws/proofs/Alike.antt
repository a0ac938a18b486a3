-- Trees that are built alike are proper together, and stay alike over a group.
use Rattle.std.proofs.Common.{◌≡◌, ℕ, ◌≤◌, zero, suc, Bool, true, false, cond, not, ◌&&◌, ◌||◌, max, List, [], ◌∷◌, length, Some, refl, sym, ap, subst, ◌∙◌, inl, inr, arith}
use Rattle.std.specs.Prelude.{◌==◌, nat_le, nat_lt, is_some, filter, sum_by}
use Rattle.std.specs.List.{list_all, list_any}
use Rattle.std.specs.Map.{lookup, remove_entry, keys_of, values_of}
use Rattle.std.specs.BTreeMap.{insert_entry, is_at}
use Rattle.std.specs.Option.{option_map_or}
use Rattle.std.specs.Ordering.{nat_cmp, match_ordering}
use Rattle.std.specs.declared.cmp.Ordering.{Ordering}
use Rattle.std.specs.declared.cmp.Ordering.TheVariants.{Less, Equal, Greater}
use Rattle.std.proofs.lemmas.Bool.{and_parts, and_from}
use Rattle.std.proofs.lemmas.List.Sums.{sum_by-cons}
use Rattle.fs_model.specs.declared.change.Change.{Change}
use Rattle.fs_model.specs.declared.change.Change.TheVariants.{SetInode, SetEntry, DropEntry, SetBlock, CutBlocks, DropInode}
use Rattle.fs_model.specs.declared.inode.Inode.{Inode}
use Rattle.fs_model.specs.declared.inode.Entry.{Entry}
use Rattle.fs_model.specs.declared.inode.Kind.{Kind}
use Rattle.fs_model.specs.declared.inode.Kind.TheVariants.{File, Dir}
use Rattle.fs_model.specs.declared.space.Grant.{Grant}
use Rattle.fs_model.specs.Backing.{FitsGroup, FitsOrphans, group_limit}
use Rattle.fs_model.specs.Change.{applied, apply}
use Rattle.fs_model.specs.Cover.{inode_bytes}
use Rattle.fs_model.specs.Files.{Tree, Inodes, Blocks, Handles, inode_at, name_cmp, with_block}
use Rattle.fs_model.specs.Need.{change_bytes}
use Rattle.fs_model.specs.Path.{is_dir}
use Rattle.fs_model.specs.Proper.{IsProper, ascends, same_kind, climbs, names_of, has_kind, is_entry_node, is_sound_entry, is_sound_dir, is_sound_inode, is_linked, are_numbered}
use Rattle.fs_model.specs.Orphan.{nameless, is_nameless, revives_none, all_revive_none, drops_named, all_drop_named}
use Rattle.fs_laws.specs.Alike.{kind_and_links, told_by, IsBuiltAlike, HasNodes}
use Rattle.fs_laws.specs.Sound.{AreFiles}
use Rattle.fs_laws.proofs.Local.{local_of, local_group}
use Rattle.fs_laws.specs.Maps.{all_weaken}

told_keys : {X : Type 0} (what : Inode → X) (inodes : Inodes) → keys_of (told_by what inodes) ≡ keys_of inodes
told_keys what [] = refl
told_keys what (e ∷ inodes) = ap (λ keys. e.0 ∷ keys) (told_keys what inodes)

told_all : {X : Type 0} (what : Inode → X) (test : ℕ × X → Bool) (inodes : Inodes) → list_all test (told_by what inodes) ≡ list_all (λ e. test (e.0, what e.1)) inodes
told_all what test [] = refl
told_all what test (e ∷ inodes) = ap (λ b. test (e.0, what e.1) && b) (told_all what test inodes)

told_length : {X : Type 0} (what : Inode → X) (inodes : Inodes) → length (told_by what inodes) ≡ length inodes
told_length what [] = refl
told_length what (e ∷ inodes) = ap (λ n. suc n) (told_length what inodes)

-- what is seen of an inode through what is told
told_found : {X Y : Type 0} (what : Inode → X) (more : X → Y) (none : Y) (ino : ℕ) (inodes : Inodes)
    → option_map_or more (lookup (is_at (nat_cmp ino)) (told_by what inodes)) none ≡ option_map_or (λ inode. more (what inode)) (lookup (is_at (nat_cmp ino)) inodes) none
told_found what more none ino [] = refl
told_found {X} {Y} what more none ino (e ∷ inodes) = by (told_found what more none ino inodes) (is_at (nat_cmp ino) e.0)
  where
    by : option_map_or more (lookup (is_at (nat_cmp ino)) (told_by what inodes)) none ≡ option_map_or (λ inode. more (what inode)) (lookup (is_at (nat_cmp ino)) inodes) none → (b : Bool)
        → option_map_or more (cond b (Some (what e.1)) (lookup (is_at (nat_cmp ino)) (told_by what inodes))) none ≡ option_map_or (λ inode. more (what inode)) (cond b (Some e.1) (lookup (is_at (nat_cmp ino)) inodes)) none
    by rest true = refl
    by rest false = rest

kind_alike : (a b : Tree) → told_by kind_and_links a.inodes ≡ told_by kind_and_links b.inodes → (ino : ℕ) (kind : Kind) → has_kind a ino kind ≡ has_kind b ino kind
kind_alike a b h ino kind =
    let more : Kind × ℕ → Bool = λ l. same_kind l.0 kind in
    sym (told_found kind_and_links more false ino a.inodes)
    ∙ ap (λ told. option_map_or more (lookup (is_at (nat_cmp ino)) told) false) h
    ∙ told_found kind_and_links more false ino b.inodes

names_alike : (a b : Tree) → a.entries ≡ b.entries → (ino : ℕ) → names_of a ino ≡ names_of b ino
names_alike a b h ino = ap (λ entries. filter (λ (e : Entry). e.ino == ino) (values_of entries)) h

any_alike : (p q : Entry → Bool) → ((e : Entry) → p e ≡ q e) → (es : List Entry) → list_any p es ≡ list_any q es
any_alike p q h [] = refl
any_alike p q h (e ∷ es) = let first = h e in let rest = any_alike p q h es in cc

climbs_alike : (a b : Tree) → a.entries ≡ b.entries → (n ino : ℕ) → climbs a n ino ≡ climbs b n ino
climbs_alike a b h zero ino = refl
climbs_alike a b h (suc n) ino =
    ap (λ any. (ino == 1) || any)
    (any_alike (λ e. climbs a n e.dir) (λ e. climbs b n e.dir) (λ e. climbs_alike a b h n e.dir) (names_of a ino)
    ∙ ap (λ es. list_any (λ e. climbs b n e.dir) es) (names_alike a b h ino))

-- whether an inode of this kind and so many links is in its place
abbrev is_placed : Tree → ℕ × (Kind × ℕ) → Bool
is_placed tree e = cond (is_dir e.1.0) (is_sound_dir tree e.0) (e.1.1 == length (names_of tree e.0))

dir_alike : (a b : Tree) → IsBuiltAlike a b → (ino : ℕ) → is_sound_dir a ino ≡ is_sound_dir b ino
dir_alike a b h ino =
    let names = names_alike a b h.entries ino in
    let many : length a.inodes ≡ length b.inodes = sym (told_length kind_and_links a.inodes) ∙ ap (λ told. length told) h.inodes ∙ told_length kind_and_links b.inodes in
    let up = ap (λ n. climbs a n ino) many ∙ climbs_alike a b h.entries (length b.inodes) ino in
    ap (λ es. (ino == 1) || ((length es == 1) && climbs a (length a.inodes) ino)) names
    ∙ ap (λ c. (ino == 1) || ((length (names_of b ino) == 1) && c)) up

placed_alike : (a b : Tree) → IsBuiltAlike a b → (e : ℕ × (Kind × ℕ)) → is_placed a e ≡ true → is_placed b e ≡ true
placed_alike a b h e t =
    sym (ap (λ d. cond (is_dir e.1.0) d (e.1.1 == length (names_of a e.0))) (dir_alike a b h e.0)
    ∙ ap (λ es. cond (is_dir e.1.0) (is_sound_dir b e.0) (e.1.1 == length es)) (names_alike a b h.entries e.0)) ∙ t

entry_alike : (a b : Tree) → IsBuiltAlike a b → (e : Entry) → is_sound_entry a e ≡ true → is_sound_entry b e ≡ true
entry_alike a b h e t =
    sym (ap (λ d. d && has_kind a e.ino e.kind && not (e.ino == 1)) (kind_alike a b h.inodes e.dir Dir)
    ∙ ap (λ i. has_kind b e.dir Dir && i && not (e.ino == 1)) (kind_alike a b h.inodes e.ino e.kind)) ∙ t

inodes_alike : (a b : Tree) → IsBuiltAlike a b → list_all (is_sound_inode a) a.inodes ≡ true → list_all (is_sound_inode b) b.inodes ≡ true
inodes_alike a b h t =
    let there : list_all (is_placed a) (told_by kind_and_links b.inodes) ≡ true = subst (λ told. list_all (is_placed a) told ≡ true) h.inodes (told_all kind_and_links (is_placed a) a.inodes ∙ t) in
    sym (told_all kind_and_links (is_placed b) b.inodes) ∙ all_weaken (is_placed a) (is_placed b) (λ e u. placed_alike a b h e u) (told_by kind_and_links b.inodes) there

linked_alike : (a b : Tree) → IsBuiltAlike a b → list_all is_linked a.inodes ≡ true → list_all is_linked b.inodes ≡ true
linked_alike a b h t =
    let test : ℕ × (Kind × ℕ) → Bool = λ e. not (is_dir e.1.0 && (e.1.1 == 0)) in
    sym (told_all kind_and_links test b.inodes) ∙ ap (λ told. list_all test told) (sym h.inodes) ∙ told_all kind_and_links test a.inodes ∙ t

entries_alike : (a b : Tree) → IsBuiltAlike a b → list_all (is_sound_entry a) (values_of a.entries) ≡ true → list_all (is_sound_entry b) (values_of b.entries) ≡ true
entries_alike a b h t =
    all_weaken (is_sound_entry a) (is_sound_entry b) (λ e u. entry_alike a b h e u) (values_of b.entries) (subst (λ es. list_all (is_sound_entry a) (values_of es) ≡ true) h.entries t)

numbers_alike : (a b : Tree) → IsBuiltAlike a b → list_all (λ e. nat_le e.0.0 b.highest) b.blocks ≡ true → are_numbered a ≡ true → are_numbered b ≡ true
numbers_alike a b h blocks t =
    let parts = and_parts (list_all (λ e. nat_le e.0 a.highest) a.inodes && list_all (λ e. nat_le e.0.0 a.highest) a.blocks) (list_all (λ e. nat_le e.0.0 a.highest && nat_le e.1.ino a.highest) a.entries) t in
    let more = and_parts (list_all (λ e. nat_le e.0 a.highest) a.inodes) (list_all (λ e. nat_le e.0.0 a.highest) a.blocks) parts.0 in
    let test : ℕ → ℕ × (Kind × ℕ) → Bool = λ highest e. nat_le e.0 highest in
    let inodes : list_all (λ e. nat_le e.0 b.highest) b.inodes ≡ true =
    sym (told_all kind_and_links (test b.highest) b.inodes)
    ∙ ap (λ told. list_all (test b.highest) told) (sym h.inodes)
    ∙ ap (λ highest. list_all (test highest) (told_by kind_and_links a.inodes)) (sym h.highest)
    ∙ told_all kind_and_links (test a.highest) a.inodes
    ∙ more.0 in
    let entries : list_all (λ e. nat_le e.0.0 b.highest && nat_le e.1.ino b.highest) b.entries ≡ true =
    ap (λ es. list_all (λ e. nat_le e.0.0 b.highest && nat_le e.1.ino b.highest) es) (sym h.entries)
    ∙ ap (λ highest. list_all (λ e. nat_le e.0.0 highest && nat_le e.1.ino highest) a.entries) (sym h.highest)
    ∙ parts.1 in
    and_from (list_all (λ e. nat_le e.0 b.highest) b.inodes && list_all (λ e. nat_le e.0.0 b.highest) b.blocks) (list_all (λ e. nat_le e.0.0 b.highest && nat_le e.1.ino b.highest) b.entries)
    (and_from (list_all (λ e. nat_le e.0 b.highest) b.inodes) (list_all (λ e. nat_le e.0.0 b.highest) b.blocks) inodes blocks) entries

-- a tree that is built as a proper one is proper
pub proper_alike : (a b : Tree) → IsProper a → IsBuiltAlike a b → HasNodes b → IsProper b
proper_alike a b proper h nodes = record {
  inodes_ascend = subst (λ keys. ascends nat_cmp keys ≡ true) (sym (told_keys kind_and_links a.inodes) ∙ ap (λ told. keys_of told) h.inodes ∙ told_keys kind_and_links b.inodes) proper.inodes_ascend;
  blocks_ascend = nodes.blocks_ascend;
  entries_ascend = subst (λ es. ascends name_cmp (keys_of es) ≡ true) h.entries proper.entries_ascend;
  inode_nodes = nodes.inode_nodes;
  block_nodes = nodes.block_nodes;
  entry_nodes = subst (λ es. list_all is_entry_node es ≡ true) h.entries proper.entry_nodes;
  root = sym (kind_alike a b h.inodes 1 Dir) ∙ proper.root;
  entries = entries_alike a b h proper.entries;
  inodes = inodes_alike a b h proper.inodes;
  linked = linked_alike a b h proper.linked;
  numbers = numbers_alike a b h nodes.block_numbers proper.numbers;
}

-- what is regular in one is so in the other
pub files_alike : (a b : Tree) (handles : Handles) → IsBuiltAlike a b → AreFiles a handles → AreFiles b handles
files_alike a b handles h files = all_weaken (λ handle. has_kind a handle.1 File) (λ handle. has_kind b handle.1 File) (λ handle t. sym (kind_alike a b h.inodes handle.1 File) ∙ t) handles files

told_insert : {X : Type 0} (what : Inode → X) (inodes : Inodes) (ino : ℕ) (inode : Inode) → told_by what (insert_entry nat_cmp inodes ino inode) ≡ insert_entry nat_cmp (told_by what inodes) ino (what inode)
told_insert what [] ino inode = refl
told_insert {X} what (e ∷ inodes) ino inode = by (told_insert what inodes ino inode) (nat_cmp ino e.0)
  where
    by : told_by what (insert_entry nat_cmp inodes ino inode) ≡ insert_entry nat_cmp (told_by what inodes) ino (what inode) → (o : Ordering)
        → told_by what (match_ordering o ((ino, inode) ∷ e ∷ inodes) ((e.0, inode) ∷ inodes) (e ∷ insert_entry nat_cmp inodes ino inode))
        ≡ match_ordering o ((ino, what inode) ∷ (e.0, what e.1) ∷ told_by what inodes) ((e.0, what inode) ∷ told_by what inodes) ((e.0, what e.1) ∷ insert_entry nat_cmp (told_by what inodes) ino (what inode))
    by more Less = refl
    by more Equal = refl
    by more Greater = ap (λ z. (e.0, what e.1) ∷ z) more

told_remove : {X : Type 0} (what : Inode → X) (gone : ℕ → Bool) (inodes : Inodes) → told_by what (remove_entry gone inodes) ≡ remove_entry gone (told_by what inodes)
told_remove what gone [] = refl
told_remove {X} what gone (e ∷ inodes) = by (told_remove what gone inodes) (gone e.0)
  where
    by : told_by what (remove_entry gone inodes) ≡ remove_entry gone (told_by what inodes) → (b : Bool)
        → told_by what (cond b inodes (e ∷ remove_entry gone inodes)) ≡ cond b (told_by what inodes) ((e.0, what e.1) ∷ remove_entry gone (told_by what inodes))
    by more true = refl
    by more false = ap (λ z. (e.0, what e.1) ∷ z) more

-- a block that is set leaves inodes, entries and the highest number
block_only : (there : Bool) (tree : Tree) (blocks : Blocks) → IsBuiltAlike tree (cond there (record tree { blocks = blocks }) tree)
block_only true tree blocks = record { inodes = refl; entries = refl; highest = refl }
block_only false tree blocks = record { inodes = refl; entries = refl; highest = refl }

change_alike : (a b : Tree) (change : Change) → IsBuiltAlike a b → IsBuiltAlike (applied a change) (applied b change)
change_alike a b (SetInode ino inode) h = record {
  inodes = told_insert kind_and_links a.inodes ino inode ∙ ap (λ told. insert_entry nat_cmp told ino (kind_and_links inode)) h.inodes ∙ sym (told_insert kind_and_links b.inodes ino inode);
  entries = h.entries;
  highest = ap (λ n. max n ino) h.highest;
}
change_alike a b (SetEntry entry) h = record {
  inodes = h.inodes;
  entries = ap (λ es. insert_entry name_cmp es (entry.dir, entry.name) entry) h.entries;
  highest = ap (λ n. max n entry.dir) h.highest;
}
change_alike a b (DropEntry dir name) h = record {
  inodes = h.inodes;
  entries = ap (λ es. remove_entry (is_at (name_cmp (dir, name))) es) h.entries;
  highest = ap (λ n. max n dir) h.highest;
}
change_alike a b (SetBlock ino block bytes) h =
    let x = block_only (is_some (inode_at a ino)) a (with_block a.blocks ino block bytes) in
    let y = block_only (is_some (inode_at b ino)) b (with_block b.blocks ino block bytes) in
    record {
      inodes = sym x.inodes ∙ h.inodes ∙ y.inodes;
      entries = sym x.entries ∙ h.entries ∙ y.entries;
      highest = ap (λ n. max n ino) h.highest;
    }
change_alike a b (CutBlocks ino old_size new_size) h = record { inodes = h.inodes; entries = h.entries; highest = ap (λ n. max n ino) h.highest }
change_alike a b (DropInode ino) h = record {
  inodes = told_remove kind_and_links (is_at (nat_cmp ino)) a.inodes ∙ ap (λ told. remove_entry (is_at (nat_cmp ino)) told) h.inodes ∙ sym (told_remove kind_and_links (is_at (nat_cmp ino)) b.inodes);
  entries = h.entries;
  highest = ap (λ n. max n ino) h.highest;
}

group_alike : (group : List Change) (a b : Tree) → IsBuiltAlike a b → IsBuiltAlike (apply a group) (apply b group)
group_alike [] a b h = h
group_alike (change ∷ group) a b h = group_alike group (applied a change) (applied b change) (change_alike a b change h)

bytes_alike : (a b : Tree) → told_by inode_bytes a.inodes ≡ told_by inode_bytes b.inodes → (change : Change) → change_bytes a change ≡ change_bytes b change
bytes_alike a b h (SetInode ino inode) = refl
bytes_alike a b h (SetEntry entry) = refl
bytes_alike a b h (DropEntry dir name) = refl
bytes_alike a b h (SetBlock ino block bytes) = refl
bytes_alike a b h (CutBlocks ino old_size new_size) = refl
bytes_alike a b h (DropInode ino) =
    let same : ℕ → ℕ = λ n. n in
    sym (told_found inode_bytes same 160 ino a.inodes)
    ∙ ap (λ told. option_map_or same (lookup (is_at (nat_cmp ino)) told) 160) h
    ∙ told_found inode_bytes same 160 ino b.inodes

sum_alike : (a b : Tree) → told_by inode_bytes a.inodes ≡ told_by inode_bytes b.inodes → (group : List Change) → sum_by (change_bytes a) group ≡ sum_by (change_bytes b) group
sum_alike a b h [] = refl
sum_alike a b h (change ∷ group) =
    let first = bytes_alike a b h change in
    let rest = sum_alike a b h group in
    let left = sum_by-cons (change_bytes a) change group in
    let right = sum_by-cons (change_bytes b) change group in
    omega (arith, first, rest, left, right)

-- what brings back no inode brings back none over the other
change_revives : (a b : Tree) (change : Change) → IsBuiltAlike a b → revives_none b change ≡ revives_none a change
change_revives a b (SetInode ino inode) h =
    sym (told_found kind_and_links (λ k. (inode.nlink == 0) || not (k.1 == 0)) (nat_lt b.highest ino) ino b.inodes)
    ∙ ap (λ told. option_map_or (λ (k : Kind × ℕ). (inode.nlink == 0) || not (k.1 == 0)) (lookup (is_at (nat_cmp ino)) told) (nat_lt b.highest ino)) (sym h.inodes)
    ∙ ap (λ n. option_map_or (λ (k : Kind × ℕ). (inode.nlink == 0) || not (k.1 == 0)) (lookup (is_at (nat_cmp ino)) (told_by kind_and_links a.inodes)) (nat_lt n ino)) (sym h.highest)
    ∙ told_found kind_and_links (λ k. (inode.nlink == 0) || not (k.1 == 0)) (nat_lt a.highest ino) ino a.inodes
change_revives a b (SetEntry entry) h = refl
change_revives a b (DropEntry dir name) h = refl
change_revives a b (SetBlock ino block bytes) h = refl
change_revives a b (CutBlocks ino old_size new_size) h = refl
change_revives a b (DropInode ino) h = refl

revive_alike : (group : List Change) (a b : Tree) → IsBuiltAlike a b → all_revive_none b group ≡ all_revive_none a group
revive_alike [] a b h = refl
revive_alike (change ∷ group) a b h =
    ap (λ c. c && all_revive_none (applied b change) group) (change_revives a b change h)
    ∙ ap (λ c. revives_none a change && c) (revive_alike group (applied a change) (applied b change) (change_alike a b change h))

-- what drops no inode without a name drops none over the other
nameless_alike : (a b : Tree) (ino : ℕ) → IsBuiltAlike a b → is_nameless b ino ≡ is_nameless a ino
nameless_alike a b ino h =
    sym (told_found kind_and_links (λ k. k.1 == 0) false ino b.inodes)
    ∙ ap (λ told. option_map_or (λ (k : Kind × ℕ). k.1 == 0) (lookup (is_at (nat_cmp ino)) told) false) (sym h.inodes)
    ∙ told_found kind_and_links (λ k. k.1 == 0) false ino a.inodes

change_drops : (a b : Tree) (change : Change) → IsBuiltAlike a b → drops_named b change ≡ drops_named a change
change_drops a b (SetInode ino inode) h = refl
change_drops a b (SetEntry entry) h = refl
change_drops a b (DropEntry dir name) h = refl
change_drops a b (SetBlock ino block bytes) h = refl
change_drops a b (CutBlocks ino old_size new_size) h = refl
change_drops a b (DropInode ino) h = ap not (nameless_alike a b ino h)

drop_alike : (group : List Change) (a b : Tree) → IsBuiltAlike a b → all_drop_named b group ≡ all_drop_named a group
drop_alike [] a b h = refl
drop_alike (change ∷ group) a b h =
    ap (λ c. c && all_drop_named (applied b change) group) (change_drops a b change h)
    ∙ ap (λ c. drops_named a change && c) (drop_alike group (applied a change) (applied b change) (change_alike a b change h))

-- a group that its grant pays over one tree is paid over the other
pub group_fits_alike : (a b : Tree) (grant : Grant) (group : List Change) → IsBuiltAlike a b → told_by inode_bytes a.inodes ≡ told_by inode_bytes b.inodes → IsProper b → FitsGroup a grant group → FitsGroup b grant group
group_fits_alike a b grant group h bytes proper fits =
    let local = local_group group b fits.are_nodes (local_of b proper) in
    let same = sum_alike a b bytes group in
    record {
      are_nodes = fits.are_nodes;
      nodes = fits.nodes;
      bytes = subst (λ n. n ≤ grant.bytes) same fits.bytes;
      limit = subst (λ n. n ≤ group_limit) same fits.limit;
      revives_none = revive_alike group a b h ∙ fits.revives_none;
      drops = drop_alike group a b h ∙ fits.drops;
      proper = proper_alike (apply a group) (apply b group) fits.proper (group_alike group a b h)
          (record { inode_nodes = local.inode_nodes; blocks_ascend = local.blocks_ascend; block_nodes = local.block_nodes; block_numbers = local.block_numbers });
    }

-- as many inodes have no name
nameless_told : (inodes : Inodes) → length (keys_of (filter (λ e. e.1.nlink == 0) inodes)) ≡ length (filter (λ e. e.1.1 == 0) (told_by kind_and_links inodes))
nameless_told [] = refl
nameless_told (e ∷ inodes) = by (e.1.nlink == 0) (nameless_told inodes)
  where
    by : (b : Bool) → length (keys_of (filter (λ e. e.1.nlink == 0) inodes)) ≡ length (filter (λ e. e.1.1 == 0) (told_by kind_and_links inodes))
        → length (keys_of (cond b (e ∷ filter (λ e. e.1.nlink == 0) inodes) (filter (λ e. e.1.nlink == 0) inodes))) ≡ length (cond b ((e.0, kind_and_links e.1) ∷ filter (λ e. e.1.1 == 0) (told_by kind_and_links inodes)) (filter (λ e. e.1.1 == 0) (told_by kind_and_links inodes)))
    by true more = ap (λ n. suc n) more
    by false more = more

pub as_many_nameless : (a b : Tree) → IsBuiltAlike a b → length (nameless a) ≡ length (nameless b)
as_many_nameless a b h = nameless_told a.inodes ∙ ap (λ told. length (filter (λ (e : ℕ × (Kind × ℕ)). e.1.1 == 0) told)) h.inodes ∙ sym (nameless_told b.inodes)

pub orphans_alike : (a b : Tree) (closed limit : ℕ) (group : List Change) → IsBuiltAlike a b → FitsOrphans a closed limit group → FitsOrphans b closed limit group
orphans_alike a b closed limit group h fits = by fits
  where
    before : length (nameless a) ≡ length (nameless b)
    before = as_many_nameless a b h

    after : length (nameless (apply a group)) ≡ length (nameless (apply b group))
    after = as_many_nameless (apply a group) (apply b group) (group_alike group a b h)

    by : FitsOrphans a closed limit group → FitsOrphans b closed limit group
    by (inl few) = let x = before in let y = after in inl (omega (arith, few, x, y))
    by (inr room) = let y = after in inr (omega (arith, room, y))
