-- A put leaves a proper tree, and skips no number.
use Rattle.std.proofs.Common.{◌≡◌, ◌+◌, ℕ, suc, Bool, true, false, cond, max, List, [], ◌∷◌, length, length-append, map, refl, ap, ◌∙◌, arith}
use Rattle.std.specs.Prelude.{◌&&◌, fold, is_some, nat_le}
use Rattle.std.specs.List.{list_all}
use Rattle.std.proofs.lemmas.Bool.{and_parts, and_from}
use Rattle.fs_model.specs.declared.change.Change.TheVariants.{SetBlock, SetInode}
use Rattle.fs_model.specs.declared.page_node.PageNode.{PageNode}
use Rattle.fs_model.specs.Backing.{FitsPage, is_node}
use Rattle.fs_model.specs.Change.{apply}
use Rattle.fs_model.specs.Files.{Tree, inode_at, with_block}
use Rattle.fs_model.specs.Orphan.{revives_none}
use Rattle.fs_model.specs.Proper.{IsProper, is_inode_node}
use Rattle.fs_laws.specs.Alike.{HasNodes, IsBuiltAlike}
use Rattle.store_model.specs.Events.{after_part, credit, granted, paid, Part, Payment, put, Putting}
use Rattle.store_model.specs.Heads.{numbered_group}
use Rattle.store_model.specs.Legal.{AreLegalParts, KeepsProper, nodes_of_parts}
use Rattle.store_model.specs.Store.{Carried, Store}
use Rattle.store_model.proofs.LebRows.{all_weaker}
use Rattle.store_model.proofs.Numbers.{last_consecutive}
use Rattle.store_model.proofs.PutSums.{length_carried}

-- ---- trees
parts_proper : (parts : List Part) (m : Store) → AreLegalParts m parts → IsProper m.tree → IsProper (fold after_part m parts).tree
parts_proper [] m are h = h
parts_proper (part ∷ parts) m are h = parts_proper parts (after_part m part) are.1 are.0.keeps.proper

pub put_proper : (m : Store) (p : Putting) → AreLegalParts m p.parts → IsProper m.tree → IsProper (put p m).tree
put_proper m p are h = by p.payment (parts_proper p.parts m are h)
  where
    by : (payment : Payment) → IsProper (fold after_part m p.parts).tree → IsProper (paid payment (fold after_part m p.parts)).tree
    by credit h = h
    by granted h = h

-- ---- pages
abbrev AlikeLaw : Type 0
AlikeLaw = (a b : Tree) → IsProper a → IsBuiltAlike a b → HasNodes b → IsProper b

abbrev with_set : Tree → PageNode → Tree
with_set tree page = apply tree (SetInode page.ino page.inode ∷ [])

-- the tree with the block, if its inode is there
abbrev with_both : Tree → PageNode → Bool → Tree
with_both t page b = record (cond {A = Tree} b (record t { blocks = with_block t.blocks page.ino page.block page.bytes }) t) { highest = max t.highest page.ino }

max_twice : (h n : ℕ) → max (max h n) n ≡ max h n
max_twice h n = grind (arith)

max_more : (k h n : ℕ) → nat_le k h ≡ true → nat_le k (max h n) ≡ true
max_more k h n e = grind (arith)

alike : (t : Tree) (page : PageNode) (b : Bool) → max t.highest page.ino ≡ t.highest → IsBuiltAlike (with_both t page b) t
alike t page true e = record { inodes = refl; entries = refl; highest = e }
alike t page false e = record { inodes = refl; entries = refl; highest = e }

nodes_left : (t : Tree) (page : PageNode) (b : Bool) → list_all is_inode_node (with_both t page b).inodes ≡ true → list_all is_inode_node t.inodes ≡ true
nodes_left t page true h = h
nodes_left t page false h = h

pub inode_keeps : AlikeLaw → (tree : Tree) (page : PageNode) → IsProper tree → FitsPage tree page → KeepsProper tree (SetInode page.ino page.inode ∷ [])
inode_keeps law tree page proper fits =
    let t : Tree = apply tree (SetInode page.ino page.inode ∷ []) in
    let b : Bool = is_some (inode_at t page.ino) in
    let p = and_parts (revives_none tree (SetInode page.ino page.inode)) (revives_none t (SetBlock page.ino page.block page.bytes) && true) fits.revives_none in
    let inodes : Bool = list_all (λ e. nat_le e.0 tree.highest) tree.inodes in
    let blocks : Bool = list_all (λ e. nat_le e.0.0 tree.highest) tree.blocks in
    let entries : Bool = list_all (λ e. nat_le e.0.0 tree.highest && nat_le e.1.ino tree.highest) tree.entries in
    let numbers = (and_parts inodes blocks (and_parts (inodes && blocks) entries proper.numbers).0).1 in
    record {
      are_nodes = and_from (is_node (SetInode page.ino page.inode)) true fits.inode refl;
      revives_none = and_from (revives_none tree (SetInode page.ino page.inode)) true p.0 refl;
      drops = refl;
      proper = law (with_both t page b) t fits.proper (alike t page b (max_twice tree.highest page.ino)) (record {
        inode_nodes = nodes_left t page b fits.proper.inode_nodes;
        blocks_ascend = proper.blocks_ascend;
        block_nodes = proper.block_nodes;
        block_numbers = all_weaker (λ (e : (ℕ × ℕ) × List ℕ). nat_le e.0.0 tree.highest) (λ e. nat_le e.0.0 (max tree.highest page.ino)) (λ e h. max_more e.0.0 tree.highest page.ino h) tree.blocks numbers;
      });
    }

pub block_keeps : (tree : Tree) (page : PageNode) → FitsPage tree page → KeepsProper (apply tree (SetInode page.ino page.inode ∷ [])) (SetBlock page.ino page.block page.bytes ∷ [])
block_keeps tree page fits = record { are_nodes = and_from (is_node (SetBlock page.ino page.block page.bytes)) true fits.block refl; revives_none = refl; drops = refl; proper = fits.proper }

-- ---- numbers
length_numbered : (group : List Carried) → length (numbered_group group) ≡ length group
length_numbered [] = refl
length_numbered (c ∷ group) = ap (λ n. suc n) (length_numbered group)

parts_numbered : (parts : List Part) (m : Store) → AreLegalParts m parts → (fold after_part m parts).sqnum ≡ m.sqnum + length (nodes_of_parts parts)
parts_numbered [] m are = omega arith
parts_numbered (part ∷ parts) m are =
    let here = last_consecutive m.sqnum (numbered_group part.group) are.0.numbers in
    let rest = parts_numbered parts (after_part m part) are.1 in
    let both = length-append (map (λ c. c.placed) part.group) (nodes_of_parts parts) in
    let carried = length_carried part.group in
    let given = length_numbered part.group in
    omega (arith, rest, here, both, carried, given)

pub put_numbered : (m : Store) (p : Putting) → AreLegalParts m p.parts → (put p m).sqnum ≡ m.sqnum + length (nodes_of_parts p.parts)
put_numbered m p are = by p.payment ∙ parts_numbered p.parts m are
  where
    by : (payment : Payment) → (paid payment (fold after_part m p.parts)).sqnum ≡ (fold after_part m p.parts).sqnum
    by credit = refl
    by granted = refl
