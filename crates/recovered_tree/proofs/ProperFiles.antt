-- A proper tree without blocks of inodes that it hasn't is proper.
use Rattle.std.proofs.Common.{◌≡◌, ℕ, zero, suc, Bool, true, cond, List, [], ◌∷◌, filter, length, refl, ap, ◌∙◌}
use Rattle.std.specs.Prelude.{◌==◌, ◌&&◌, ◌||◌, if◌then◌else◌, is_some, nat_le}
use Rattle.std.specs.List.{list_all, list_any}
use Rattle.std.proofs.lemmas.Bool.{and_from, and_parts}
use Rattle.fs_laws.specs.Maps.{all_filter, filter_ascends}
use Rattle.fs_laws.specs.Orders.{pairs}
use Rattle.fs_model.specs.declared.inode.Entry.{Entry}
use Rattle.fs_model.specs.declared.inode.Inode.{Inode}
use Rattle.fs_model.specs.Files.{Inodes, Tree, inode_at, pair_cmp}
use Rattle.fs_model.specs.Path.{is_dir}
use Rattle.fs_model.specs.Proper.{IsProper, climbs, is_block_node, is_sound_inode, names_of}
use Rattle.recovered_tree.specs.Files.{without_lone_blocks}

any_alike : (p q : Entry → Bool) → ((e : Entry) → p e ≡ q e) → (es : List Entry) → list_any p es ≡ list_any q es
any_alike p q same [] = refl
any_alike p q same (e ∷ es) = ap (λ (b : Bool). b || list_any p es) (same e) ∙ ap (λ (b : Bool). q e || b) (any_alike p q same es)

-- blocks don't lead upwards
climbs_alike : (tree : Tree) (steps ino : ℕ) → climbs (without_lone_blocks tree) steps ino ≡ climbs tree steps ino
climbs_alike tree zero ino = refl
climbs_alike tree (suc steps) ino =
    ap (λ (b : Bool). (ino == 1) || b) (any_alike (λ e. climbs (without_lone_blocks tree) steps e.dir) (λ e. climbs tree steps e.dir) (λ e. climbs_alike tree steps e.dir) (names_of tree ino))

inode_alike : (tree : Tree) (e : ℕ × Inode) → is_sound_inode (without_lone_blocks tree) e ≡ is_sound_inode tree e
inode_alike tree e =
    let P : Bool → Bool = λ b. if is_dir e.1.kind then (e.0 == 1) || ((length (names_of tree e.0) == 1) && b) else e.1.nlink == length (names_of tree e.0) in
    ap P (climbs_alike tree (length tree.inodes) e.0)

all_alike : (p q : ℕ × Inode → Bool) → ((e : ℕ × Inode) → p e ≡ q e) → (es : Inodes) → list_all p es ≡ list_all q es
all_alike p q same [] = refl
all_alike p q same (e ∷ es) = ap (λ (b : Bool). b && list_all p es) (same e) ∙ ap (λ (b : Bool). q e && b) (all_alike p q same es)

pub proper_files : (tree : Tree) → IsProper tree → IsProper (without_lone_blocks tree)
proper_files tree h =
    let there : (ℕ × ℕ) × List ℕ → Bool = λ b. is_some (inode_at tree b.0.0) in
    let low : (ℕ × ℕ) × List ℕ → Bool = λ e. nat_le e.0.0 tree.highest in
    let inodes : Bool = list_all (λ (e : ℕ × Inode). nat_le e.0 tree.highest) tree.inodes in
    let entries : Bool = list_all (λ (e : (ℕ × List ℕ) × Entry). nat_le e.0.0 tree.highest && nat_le e.1.ino tree.highest) tree.entries in
    let p = and_parts (inodes && list_all low tree.blocks) entries h.numbers in
    let q = and_parts inodes (list_all low tree.blocks) p.0 in
    record {
      inodes_ascend = h.inodes_ascend;
      blocks_ascend = filter_ascends pair_cmp pairs there tree.blocks h.blocks_ascend;
      entries_ascend = h.entries_ascend;
      inode_nodes = h.inode_nodes;
      block_nodes = all_filter is_block_node there tree.blocks h.block_nodes;
      entry_nodes = h.entry_nodes;
      root = h.root;
      entries = h.entries;
      inodes = all_alike (is_sound_inode (without_lone_blocks tree)) (is_sound_inode tree) (inode_alike tree) tree.inodes ∙ h.inodes;
      linked = h.linked;
      numbers = and_from (inodes && list_all low (filter there tree.blocks)) entries (and_from inodes (list_all low (filter there tree.blocks)) q.0 (all_filter low there tree.blocks q.1)) p.1;
    }

-- where each block's inode is there, none goes
kept_all : {X : Type 0} (test : X → Bool) (xs : List X) → list_all test xs ≡ true → filter test xs ≡ xs
kept_all test [] h = refl
kept_all {X} test (x ∷ xs) h =
    let p = and_parts (test x) (list_all test xs) h in
    ap (λ (b : Bool). cond b (x ∷ filter test xs) (filter test xs)) p.0 ∙ ap (λ (ys : List X). x ∷ ys) (kept_all test xs p.1)

pub whole_files : (tree : Tree) → list_all (λ (b : (ℕ × ℕ) × List ℕ). is_some (inode_at tree b.0.0)) tree.blocks ≡ true → without_lone_blocks tree ≡ tree
whole_files tree h = let same = kept_all (λ (b : (ℕ × ℕ) × List ℕ). is_some (inode_at tree b.0.0)) tree.blocks h in λ i. record tree { blocks = same i }
