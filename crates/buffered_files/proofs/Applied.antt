-- Files that are alike stay alike over a group.
use Rattle.std.proofs.Common.{◌≡◌, ℕ, ◌+◌, ◌*◌, ◌<◌, ◌≤◌, ◌⊎◌, inl, inr, Bool, true, false, cond, not, ◌&&◌, max, List, [], ◌∷◌, length, Some, refl, sym, ap, subst, ◌∙◌, arith}
use Rattle.std.specs.Prelude.{◌==◌, filter, nat_le, is_some}
use Rattle.std.specs.List.{list_all}
use Rattle.std.specs.Map.{lookup, remove_entry, keys_of}
use Rattle.std.specs.BTreeMap.{insert_entry, is_at}
use Rattle.std.specs.Ordering.{nat_cmp}
use Rattle.std.proofs.lemmas.Bool.{and_parts, false≢true}
use Rattle.std.proofs.lemmas.Bool.Decides.{eqb_tells, nat_tests}
use Rattle.fs_model.specs.declared.change.Change.{Change}
use Rattle.fs_model.specs.declared.change.Change.TheVariants.{SetInode, SetEntry, DropEntry, SetBlock, CutBlocks, DropInode}
use Rattle.fs_model.specs.declared.inode.Inode.{Inode}
use Rattle.fs_model.specs.Change.{applied, apply, cut_blocks, without_blocks}
use Rattle.fs_model.specs.Cover.{inode_bytes}
use Rattle.fs_model.specs.Files.{Tree, Files, Inodes, Blocks, inode_at, name_cmp, pair_cmp, blocks_end, size_of, with_block}
use Rattle.fs_model.specs.Path.{is_dir}
use Rattle.fs_model.specs.Proper.{IsProper, ascends}
use Rattle.fs_model.specs.Same.{trimmed, trimmed_blocks}
use Rattle.fs_laws.specs.Alike.{kind_and_links, told_by, IsBuiltAlike}
use Rattle.fs_laws.specs.Maps.{key_cases, set_here, set_other, removed_here, removed_other, insert_ascends, remove_ascends}
use Rattle.fs_laws.specs.Orders.{numbers}
use Rattle.buffered_files.specs.Alike.{IsAlike}
use Rattle.buffered_files.specs.Follow.{KeepsSize, IsOfNames, AreOfNames}
use Rattle.buffered_files.proofs.Trimmed.{trimmed-insert}

pub built_alike : (a b : Files) → IsAlike a b → IsBuiltAlike a.tree b.tree
built_alike a b h = record { inodes = ap (λ inodes. told_by kind_and_links inodes) h.inodes; entries = h.entries; highest = h.highest }

pub bytes_alike : (a b : Files) → IsAlike a b → told_by inode_bytes a.tree.inodes ≡ told_by inode_bytes b.tree.inodes
bytes_alike a b h = ap (λ inodes. told_by inode_bytes inodes) h.inodes

-- what is asked of a group asks for the inodes and the highest number alone
names_on : (a b : Tree) (change : Change) → a.inodes ≡ b.inodes → a.highest ≡ b.highest → IsOfNames a change → IsOfNames b change
names_on a b (SetInode ino inode) same high names = by names
  where
    by : ((old : Inode) × (inode_at a ino ≡ Some old) × KeepsSize old inode) ⊎ (a.highest < ino) → ((old : Inode) × (inode_at b ino ≡ Some old) × KeepsSize old inode) ⊎ (b.highest < ino)
    by (inl there) = inl (there.0, subst (λ inodes. lookup (is_at (nat_cmp ino)) inodes ≡ Some there.0) same there.1, there.2)
    by (inr new) = inr (omega (arith, new, high))
names_on a b (SetEntry entry) same high names = tt
names_on a b (DropEntry dir name) same high names = tt
names_on a b (SetBlock ino block bytes) same high names = names
names_on a b (CutBlocks ino old_size new_size) same high names = names
names_on a b (DropInode ino) same high names = tt

all_names_on : (a b : Tree) (group : List Change) → a.inodes ≡ b.inodes → a.highest ≡ b.highest → AreOfNames a group → AreOfNames b group
all_names_on a b [] same high all = all
all_names_on a b (change ∷ group) same high all = (names_on a b change same high all.0, all_names_on a b group same high all.1)

-- and so it holds where files are alike
pub names_alike : (a b : Files) (group : List Change) → IsAlike a b → AreOfNames a.tree group → AreOfNames b.tree group
names_alike a b group h all = all_names_on a.tree b.tree group h.inodes h.highest all

-- what is alike but for sizes
pub record Agrees (a b : Files) : Type 0 where
  pub inodes : a.tree.inodes ≡ b.tree.inodes
  pub blocks : trimmed_blocks a.tree.blocks ≡ trimmed_blocks b.tree.blocks
  pub entries : a.tree.entries ≡ b.tree.entries
  pub highest : a.tree.highest ≡ b.tree.highest
  pub handles : a.handles ≡ b.handles

pub trimmed_filter : (test : ℕ × ℕ → Bool) (blocks : Blocks) → trimmed_blocks (filter (λ b. test b.0) blocks) ≡ filter (λ b. test b.0) (trimmed_blocks blocks)
trimmed_filter test [] = refl
trimmed_filter test (e ∷ blocks) = by (trimmed_filter test blocks) (test e.0)
  where
    by : trimmed_blocks (filter (λ b. test b.0) blocks) ≡ filter (λ b. test b.0) (trimmed_blocks blocks) → (t : Bool)
        → trimmed_blocks (cond t (e ∷ filter (λ b. test b.0) blocks) (filter (λ b. test b.0) blocks)) ≡ cond t ((e.0, trimmed e.1) ∷ filter (λ b. test b.0) (trimmed_blocks blocks)) (filter (λ b. test b.0) (trimmed_blocks blocks))
    by more true = ap (λ z. (e.0, trimmed e.1) ∷ z) more
    by more false = more

pub agrees_of : (a b : Files) → IsAlike a b → Agrees a b
agrees_of a b h = record { inodes = h.inodes; blocks = h.blocks; entries = h.entries; highest = h.highest; handles = h.handles }

change_agrees : (change : Change) (a b : Files) → Agrees a b → Agrees (record a { tree = applied a.tree change }) (record b { tree = applied b.tree change })
change_agrees (SetInode ino inode) a b h = record {
  inodes = ap (λ inodes. insert_entry nat_cmp inodes ino inode) h.inodes;
  blocks = h.blocks;
  entries = h.entries;
  highest = ap (λ n. max n ino) h.highest;
  handles = h.handles;
}
change_agrees (SetEntry entry) a b h = record {
  inodes = h.inodes;
  blocks = h.blocks;
  entries = ap (λ entries. insert_entry name_cmp entries (entry.dir, entry.name) entry) h.entries;
  highest = ap (λ n. max n entry.dir) h.highest;
  handles = h.handles;
}
change_agrees (DropEntry dir name) a b h = record {
  inodes = h.inodes;
  blocks = h.blocks;
  entries = ap (λ entries. remove_entry (is_at (name_cmp (dir, name))) entries) h.entries;
  highest = ap (λ n. max n dir) h.highest;
  handles = h.handles;
}
change_agrees (SetBlock ino block bytes) a b h = by (is_some (inode_at a.tree ino)) (is_some (inode_at b.tree ino)) (ap (λ (inodes : Inodes). is_some (lookup (is_at (nat_cmp ino)) inodes)) h.inodes)
  where
    made : Files → Bool → Files
    made x there = record x { tree = record (cond there (record x.tree { blocks = with_block x.tree.blocks ino block bytes }) x.tree) { highest = max x.tree.highest ino } }

    set : trimmed_blocks (with_block a.tree.blocks ino block bytes) ≡ trimmed_blocks (with_block b.tree.blocks ino block bytes)
    set = trimmed-insert a.tree.blocks (ino, block) bytes ∙ ap (λ blocks. insert_entry pair_cmp blocks (ino, block) (trimmed bytes)) h.blocks ∙ sym (trimmed-insert b.tree.blocks (ino, block) bytes)

    by : (s t : Bool) → s ≡ t → Agrees (made a s) (made b t)
    by true true same = record { inodes = h.inodes; blocks = set; entries = h.entries; highest = ap (λ n. max n ino) h.highest; handles = h.handles }
    by false false same = record { inodes = h.inodes; blocks = h.blocks; entries = h.entries; highest = ap (λ n. max n ino) h.highest; handles = h.handles }
    by true false same = absurd (false≢true (sym same))
    by false true same = absurd (false≢true same)
change_agrees (CutBlocks ino old_size new_size) a b h = record {
  inodes = h.inodes;
  blocks = trimmed_filter (λ k. not ((k.0 == ino) && nat_le new_size (4096 * k.1))) a.tree.blocks ∙ ap (λ blocks. cut_blocks blocks ino new_size) h.blocks ∙ sym (trimmed_filter (λ k. not ((k.0 == ino) && nat_le new_size (4096 * k.1))) b.tree.blocks);
  entries = h.entries;
  highest = ap (λ n. max n ino) h.highest;
  handles = h.handles;
}
change_agrees (DropInode ino) a b h = record {
  inodes = ap (λ inodes. remove_entry (is_at (nat_cmp ino)) inodes) h.inodes;
  blocks = trimmed_filter (λ k. not (k.0 == ino)) a.tree.blocks ∙ ap (λ blocks. filter (λ b. not (b.0.0 == ino)) blocks) h.blocks ∙ sym (trimmed_filter (λ k. not (k.0 == ino)) b.tree.blocks);
  entries = h.entries;
  highest = ap (λ n. max n ino) h.highest;
  handles = h.handles;
}

pub group_agrees : (group : List Change) (a b : Files) → Agrees a b → Agrees (record a { tree = apply a.tree group }) (record b { tree = apply b.tree group })
group_agrees [] a b h = h
group_agrees (change ∷ group) a b h = group_agrees group (record a { tree = applied a.tree change }) (record b { tree = applied b.tree change }) (change_agrees change a b h)

ends_gone : (blocks : Blocks) (ino : ℕ) → blocks_end (without_blocks blocks ino) ino ≡ 0
ends_gone [] ino = refl
ends_gone (e ∷ blocks) ino = by (ends_gone blocks ino) (e.0.0 == ino) refl
  where
    by : blocks_end (without_blocks blocks ino) ino ≡ 0 → (t : Bool) → (e.0.0 == ino) ≡ t → blocks_end (cond (not t) (e ∷ without_blocks blocks ino) (without_blocks blocks ino)) ino ≡ 0
    by more true t = more
    by more false t = rw t more

ends_stay : (blocks : Blocks) (gone ino : ℕ) → (ino ≡ gone → ⊥) → blocks_end (without_blocks blocks gone) ino ≡ blocks_end blocks ino
ends_stay [] gone ino other = refl
ends_stay (e ∷ blocks) gone ino other = by (ends_stay blocks gone ino other) (eqb_tells e.0.0 gone) (eqb_tells e.0.0 ino)
  where
    by : blocks_end (without_blocks blocks gone) ino ≡ blocks_end blocks ino → (((e.0.0 == gone) ≡ true) × (e.0.0 ≡ gone)) ⊎ (((e.0.0 == gone) ≡ false) × (e.0.0 ≡ gone → ⊥))
        → (((e.0.0 == ino) ≡ true) × (e.0.0 ≡ ino)) ⊎ (((e.0.0 == ino) ≡ false) × (e.0.0 ≡ ino → ⊥)) → blocks_end (without_blocks (e ∷ blocks) gone) ino ≡ blocks_end (e ∷ blocks) ino
    by more (inl g) (inl i) = absurd (other (sym i.1 ∙ g.1))
    by more (inl g) (inr i) = rw (g.0, i.0) more
    by more (inr g) (inl i) = rw (g.0, i.0) (ap (λ n. max (4096 * e.0.1 + length e.1) n) more)
    by more (inr g) (inr i) = rw (g.0, i.0) more

-- no block has a number above the highest
none_above : (blocks : Blocks) (highest ino : ℕ) → list_all (λ e. nat_le e.0.0 highest) blocks ≡ true → highest < ino → blocks_end blocks ino ≡ 0
none_above [] highest ino all above = refl
none_above (e ∷ blocks) highest ino all above =
    let parts = and_parts (nat_le e.0.0 highest) (list_all (λ b. nat_le b.0.0 highest) blocks) all in
    by parts.0 (none_above blocks highest ino parts.1 above) (eqb_tells e.0.0 ino)
  where
    by : nat_le e.0.0 highest ≡ true → blocks_end blocks ino ≡ 0 → (((e.0.0 == ino) ≡ true) × (e.0.0 ≡ ino)) ⊎ (((e.0.0 == ino) ≡ false) × (e.0.0 ≡ ino → ⊥)) → blocks_end (e ∷ blocks) ino ≡ 0
    by low more (inl i) = let le : e.0.0 ≤ highest = grind (arith, nat_tests) in let is = i.1 in absurd (omega (arith, le, is, above))
    by low more (inr i) = rw i.0 more

above_proper : (tree : Tree) (ino : ℕ) → IsProper tree → tree.highest < ino → blocks_end tree.blocks ino ≡ 0
above_proper tree ino proper above =
    let parts = and_parts (list_all (λ e. nat_le e.0 tree.highest) tree.inodes && list_all (λ e. nat_le e.0.0 tree.highest) tree.blocks) (list_all (λ e. nat_le e.0.0 tree.highest && nat_le e.1.ino tree.highest) tree.entries) proper.numbers in
    none_above tree.blocks tree.highest ino (and_parts (list_all (λ e. nat_le e.0 tree.highest) tree.inodes) (list_all (λ e. nat_le e.0.0 tree.highest) tree.blocks) parts.0).1 above

-- an inode has the kind of the one that a tree has and, unless it is a directory, its size, or is new to it
abbrev IsSized : Tree → ℕ → Inode → Type 0
IsSized t ino inode = ((old : Inode) × (inode_at t ino ≡ Some old) × KeepsSize old inode) ⊎ (t.highest < ino)

-- a file's blocks end where they did in either of two trees, or are gone from both
abbrev AreEnds : Blocks → Blocks → Blocks → Blocks → ℕ → Type 0
AreEnds a b now later ino =
    ((blocks_end now ino ≡ 0) × (blocks_end later ino ≡ 0)) ⊎ ((blocks_end now ino ≡ blocks_end a ino) × (blocks_end later ino ≡ blocks_end b ino))

-- what holds of sizes in the midst of a group that two trees take
record Sized (a b now later : Tree) : Type 0 where
  pub up : ascends nat_cmp (keys_of now.inodes) ≡ true
  pub inodes : (ino : ℕ) (inode : Inode) → inode_at now ino ≡ Some inode → IsSized a ino inode
  pub ends : (ino : ℕ) → AreEnds a.blocks b.blocks now.blocks later.blocks ino

change_sized : (a b now later : Tree) (change : Change) → IsOfNames a change → Sized a b now later → Sized a b (applied now change) (applied later change)
change_sized a b now later (SetInode n new) names s = record {
  up = insert_ascends nat_cmp numbers now.inodes n new s.up;
  inodes = λ ino inode found. by ino inode found (key_cases nat_cmp numbers ino n);
  ends = s.ends;
}
  where
    sized : (inode : Inode) → new ≡ inode → ((old : Inode) × (inode_at a n ≡ Some old) × KeepsSize old new) ⊎ (a.highest < n) → IsSized a n inode
    sized inode same (inl there) = inl (there.0, there.1, subst (λ i. KeepsSize there.0 i) same there.2)
    sized inode same (inr high) = inr high

    by : (ino : ℕ) (inode : Inode) → lookup (is_at (nat_cmp ino)) (insert_entry nat_cmp now.inodes n new) ≡ Some inode → (ino ≡ n) ⊎ (ino ≡ n → ⊥) → IsSized a ino inode
    by ino inode found (inl same) =
        let here : lookup (is_at (nat_cmp n)) (insert_entry nat_cmp now.inodes n new) ≡ Some inode = subst (λ k. lookup (is_at (nat_cmp k)) (insert_entry nat_cmp now.inodes n new) ≡ Some inode) same found in
        let both : Some new ≡ Some inode = sym (set_here nat_cmp numbers now.inodes n new) ∙ here in
        let P : ℕ → Type 0 = λ k. IsSized a k inode in
        subst P (sym same) (sized inode (cc both) names)
    by ino inode found (inr other) = s.inodes ino inode (sym (set_other nat_cmp numbers now.inodes n new ino other) ∙ found)
change_sized a b now later (SetEntry entry) names s = record { up = s.up; inodes = s.inodes; ends = s.ends }
change_sized a b now later (DropEntry dir name) names s = record { up = s.up; inodes = s.inodes; ends = s.ends }
change_sized a b now later (SetBlock ino block bytes) names s = absurd names
change_sized a b now later (CutBlocks ino old_size new_size) names s = absurd names
change_sized a b now later (DropInode n) names s = record {
  up = remove_ascends nat_cmp numbers (is_at (nat_cmp n)) now.inodes s.up;
  inodes = λ ino inode found. by ino inode found (key_cases nat_cmp numbers ino n);
  ends = λ ino. end ino (key_cases nat_cmp numbers ino n) (s.ends ino);
}
  where
    by : (ino : ℕ) (inode : Inode) → lookup (is_at (nat_cmp ino)) (remove_entry (is_at (nat_cmp n)) now.inodes) ≡ Some inode → (ino ≡ n) ⊎ (ino ≡ n → ⊥) → IsSized a ino inode
    by ino inode found (inl same) =
        let none = removed_here nat_cmp numbers now.inodes n s.up in
        let some = subst (λ k. lookup (is_at (nat_cmp k)) (remove_entry (is_at (nat_cmp n)) now.inodes) ≡ Some inode) same found in
        absurd cc
    by ino inode found (inr other) = s.inodes ino inode (sym (removed_other nat_cmp numbers now.inodes n ino other) ∙ found)

    end : (ino : ℕ) → (ino ≡ n) ⊎ (ino ≡ n → ⊥) → AreEnds a.blocks b.blocks now.blocks later.blocks ino → AreEnds a.blocks b.blocks (without_blocks now.blocks n) (without_blocks later.blocks n) ino
    end ino (inl same) ends =
        let P : ℕ → Type 0 = λ k. AreEnds a.blocks b.blocks (without_blocks now.blocks n) (without_blocks later.blocks n) k in
        subst P (sym same) (inl (ends_gone now.blocks n, ends_gone later.blocks n))
    end ino (inr other) (inl none) = inl (ends_stay now.blocks n ino other ∙ none.0, ends_stay later.blocks n ino other ∙ none.1)
    end ino (inr other) (inr same) = inr (ends_stay now.blocks n ino other ∙ same.0, ends_stay later.blocks n ino other ∙ same.1)

group_sized : (a b : Tree) (group : List Change) (now later : Tree) → AreOfNames a group → Sized a b now later → Sized a b (apply now group) (apply later group)
group_sized a b [] now later names s = s
group_sized a b (change ∷ group) now later names s = group_sized a b group (applied now change) (applied later change) names.1 (change_sized a b now later change names.0 s)

sizes_alike : (a b : Files) (now later : Tree) → IsProper a.tree → IsProper b.tree → IsAlike a b → Sized a.tree b.tree now later → (ino : ℕ) (inode : Inode) → inode_at now ino ≡ Some inode → is_dir inode.kind ≡ false → size_of now ino inode ≡ size_of later ino inode
sizes_alike a b now later pa pb h s ino inode found plain = by (s.ends ino) (s.inodes ino inode found)
  where
    by : AreEnds a.tree.blocks b.tree.blocks now.blocks later.blocks ino → IsSized a.tree ino inode → size_of now ino inode ≡ size_of later ino inode
    by (inl none) sized = ap (λ n. max inode.size n) (none.0 ∙ sym none.1)
    by (inr same) (inl old) =
        let file : is_dir old.0.kind ≡ false = ap is_dir (sym old.2.kind) ∙ plain in
        let before = h.sizes ino old.0 old.1 file in
        let size = old.2.size file in
        let x = same.0 in
        let y = same.1 in
        omega (arith, before, size, x, y)
    by (inr same) (inr new) =
        let high = h.highest in
        ap (λ n. max inode.size n) (same.0 ∙ above_proper a.tree ino pa new ∙ sym (same.1 ∙ above_proper b.tree ino pb (omega (arith, new, high))))

pub group_alike : (group : List Change) (a b : Files) → IsProper a.tree → IsProper b.tree → AreOfNames a.tree group → IsAlike a b → IsAlike (record a { tree = apply a.tree group }) (record b { tree = apply b.tree group })
group_alike group a b pa pb names h =
    let same = group_agrees group a b (agrees_of a b h) in
    let begin : Sized a.tree b.tree a.tree b.tree = record { up = pa.inodes_ascend; inodes = λ ino inode found. inl (inode, found, record { kind = refl; size = λ d. refl }); ends = λ ino. inr (refl, refl) } in
    record {
      inodes = same.inodes;
      blocks = same.blocks;
      entries = same.entries;
      highest = same.highest;
      handles = same.handles;
      sizes = sizes_alike a b (apply a.tree group) (apply b.tree group) pa pb h (group_sized a.tree b.tree group a.tree b.tree names begin);
    }

-- what callers see once a group was put over files that are alike
pub alike_put : (group : List Change) (a b after : Files) → IsProper a.tree → IsProper b.tree → AreOfNames a.tree group → IsAlike a b → after ≡ record b { tree = apply b.tree group } → IsAlike (record a { tree = apply a.tree group }) after
alike_put group a b after pa pb names h made = subst (λ files. IsAlike (record a { tree = apply a.tree group }) files) (sym made) (group_alike group a b pa pb names h)
