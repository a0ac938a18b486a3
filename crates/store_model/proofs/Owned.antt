-- Blocks of the live leaves have their inodes, and no key has a number above the highest, after changes too.
use Rattle.std.proofs.Common.{◌≡◌, ◌⊎◌, ◌∙◌, ℕ, max, Bool, true, false, cond, not, List, [], ◌∷◌, map, refl, sym, ap, subst, arith, inl, inr, Option, Some, None}
use Rattle.std.specs.Prelude.{◌==◌, ◌||◌, filter, fold, is_some, nat_le}
use Rattle.std.specs.BTreeMap.{is_at}
use Rattle.std.specs.List.{AllByRecursion, list_all}
use Rattle.std.specs.Map.{lookup}
use Rattle.std.specs.Option.{option_map}
use Rattle.std.specs.Ordering.{nat_cmp}
use Rattle.std.proofs.lemmas.Bool.{and_parts, and_from, eqb-true, eq-eqb, false≢true}
use Rattle.ubifs_base.specs.declared.key.Key.{Key}
use Rattle.ubifs_base.specs.Key.{key_words}
use Rattle.index_tree.specs.Order.{leaf_rank}
use Rattle.media_leaf.specs.LeafNode.{IsLeaf, LeafNode, inode, block, entry, truncation}
use Rattle.media_leaf.specs.declared.dent_node.DentNode.{DentNode}
use Rattle.media_leaf.specs.declared.ino_node.InoNode.{InoNode}
use Rattle.fs_model.specs.declared.change.Change.{Change}
use Rattle.fs_model.specs.declared.change.Change.TheVariants.{SetInode, SetEntry, DropEntry, SetBlock, CutBlocks, DropInode}
use Rattle.fs_model.specs.declared.inode.Inode.{Inode}
use Rattle.fs_model.specs.declared.inode.Kind.{Kind}
use Rattle.fs_model.specs.Change.{applied, apply, key_number, without_inode}
use Rattle.fs_model.specs.Files.{Inodes, Tree, inode_at, with_block}
use Rattle.fs_laws.specs.Maps.{key_cases, removed_other, set_here, set_other}
use Rattle.fs_laws.specs.Orders.{numbers}
use Rattle.group_nodes.specs.Nodes.{bits_of, inode_of, kind_of_bits, kind_of_type}
use Rattle.leaf_map.specs.After.{ShowsChange, goes, has_inode, is_gone, is_idle, is_inode, is_set, kept_by, put_leaf}
use Rattle.leaf_map.specs.Allowed.{HasInode}
use Rattle.leaf_map.specs.Kept.{Kept, kept_at, node_key, shown, shown_by}
use Rattle.leaf_map.specs.Shown.{inodes_of, with_shown_inode}
use Rattle.leaf_map.specs.Recovered.{highest_key}
use Rattle.index_tree.specs.Distinct.{AreDistinct}
use Rattle.store_model.specs.Events.{after_change, after_part, at_its_copy, Copying, credit, drop_inode, granted, Held, move, paid, Part, Payment, put, Putting}
use Rattle.store_model.specs.Heads.{changes_of}
use Rattle.store_model.specs.Invariant.{AreOwned, HasFiles}
use Rattle.store_model.specs.Legal.{AreLegalParts, CanMove, IsCarried}
use Rattle.store_model.specs.Store.{Carried, StoreIndex, Store}
use Rattle.store_model.proofs.LebLeaves.{all_filter, all_put}
use Rattle.store_model.proofs.LebRows.{all_weaker}
use Rattle.store_model.proofs.Moves.{StaysLeaf, all_leaves, copies_stay}
use Rattle.store_model.proofs.Puts.{change_shows, group_shows, KeptLaw, Show, TreeLaw}
use Rattle.store_model.proofs.RecoveryCopies.{either_of}

-- ---- leaves and inodes
-- leaves that have an inode show it
has_step : (q : ℕ) (s : Option Change) (rest : Inodes) (b : Bool) → (b ≡ true → is_some (lookup (is_at (nat_cmp q)) rest) ≡ true) → (is_inode q s || b) ≡ true → is_some (lookup (is_at (nat_cmp q)) (with_shown_inode s rest)) ≡ true
has_step q (Some (SetInode other i)) rest b more h = by (is_at (nat_cmp q) other) refl
  where
    by : (c : Bool) → is_at (nat_cmp q) other ≡ c → is_some (cond c (Some i) (lookup (is_at (nat_cmp q)) rest)) ≡ true
    by true e = refl
    by false e = of (either_of (other == q) b h)
      where
        here : (other == q) ≡ true → is_at (nat_cmp q) other ≡ true
        here same = subst (λ (n : ℕ). is_at (nat_cmp q) n ≡ true) (sym (eqb-true other q same)) (rw (numbers.same q) refl)

        of : ((other == q) ≡ true) ⊎ (b ≡ true) → is_some (lookup (is_at (nat_cmp q)) rest) ≡ true
        of (inl same) = absurd (false≢true (sym e ∙ here same))
        of (inr left) = more left
has_step q s rest b more h = more h

shows_inode : (q : ℕ) (live : List Kept) → has_inode live q ≡ true → is_some (lookup (is_at (nat_cmp q)) (inodes_of live)) ≡ true
shows_inode q [] h = absurd (false≢true h)
shows_inode q (x ∷ live) h = has_step q (shown_by x) (inodes_of live) (has_inode live q) (shows_inode q live) h

-- whether a block that is shown has its inode
abbrev housed : Tree → Option Change → Bool
housed tree (Some (SetBlock ino number bytes)) = is_some (inode_at tree ino)
housed tree shown = true

housed_of : (tree : Tree) (s : Option Change) → HasInode tree s → housed tree s ≡ true
housed_of tree (Some (SetBlock ino number bytes)) h = h
housed_of tree s h = refl

of_housed : (tree : Tree) (s : Option Change) → housed tree s ≡ true → HasInode tree s
of_housed tree (Some (SetBlock ino number bytes)) h = h
of_housed tree s h = tt

pub all_housed : (tree : Tree) (live : List Kept) → AllByRecursion (λ x. HasInode tree (shown_by x)) live → list_all (λ x. housed tree (shown_by x)) live ≡ true
all_housed tree [] h = refl
all_housed tree (x ∷ live) h = and_from (housed tree (shown_by x)) (list_all (λ x. housed tree (shown_by x)) live) (housed_of tree (shown_by x) h.0) (all_housed tree live h.1)

pub all_of_housed : (tree : Tree) (live : List Kept) → list_all (λ x. housed tree (shown_by x)) live ≡ true → AllByRecursion (λ x. HasInode tree (shown_by x)) live
all_of_housed tree [] h = tt
all_of_housed tree (x ∷ live) h =
    let p = and_parts (housed tree (shown_by x)) (list_all (λ x. housed tree (shown_by x)) live) h in
    (of_housed tree (shown_by x) p.0, all_of_housed tree live p.1)

-- ---- trees with the inodes that were there
abbrev Keeps : Tree → Tree → Type 0
Keeps a b = (q : ℕ) → is_some (inode_at a q) ≡ true → is_some (inode_at b q) ≡ true

housed_more : (a b : Tree) → Keeps a b → (s : Option Change) → housed a s ≡ true → housed b s ≡ true
housed_more a b keeps (Some (SetBlock ino number bytes)) h = keeps ino h
housed_more a b keeps s h = refl

set_keeps : (tree : Tree) (ino : ℕ) (i : Inode) → Keeps tree (applied tree (SetInode ino i))
set_keeps tree ino i q h = elim (key_cases nat_cmp numbers q ino) [
  | inl same ↦ subst (λ (n : ℕ). is_some (inode_at (applied tree (SetInode ino i)) n) ≡ true) (sym same) (rw (set_here nat_cmp numbers tree.inodes ino i) refl)
  | inr other ↦ rw (set_other nat_cmp numbers tree.inodes ino i q other) h
]

block_keeps : (tree : Tree) (ino number : ℕ) (bytes : List ℕ) → Keeps tree (applied tree (SetBlock ino number bytes))
block_keeps tree ino number bytes q h = by (is_some (inode_at tree ino))
  where
    by : (b : Bool) → is_some (lookup (is_at (nat_cmp q)) (cond {A = Tree} b (record tree { blocks = with_block tree.blocks ino number bytes }) tree).inodes) ≡ true
    by true = h
    by false = h

-- what an inode that goes leaves
gone_housed : (tree : Tree) (ino : ℕ) (s : Option Change) → goes (DropInode ino) s ≡ false → housed tree s ≡ true → housed (applied tree (DropInode ino)) s ≡ true
gone_housed tree ino (Some (SetBlock other number bytes)) g h = rw (removed_other nat_cmp numbers tree.inodes ino other (λ same. false≢true (sym g ∙ eq-eqb other ino same))) h
gone_housed tree ino s g h = refl

not_gone : (p q t : Kept → Bool) → ((x : Kept) → t x ≡ false → p x ≡ true → q x ≡ true) → (xs : List Kept) → list_all p xs ≡ true → list_all q (filter (λ x. not (t x)) xs) ≡ true
not_gone p q t more [] h = refl
not_gone p q t more (x ∷ xs) h = let both = and_parts (p x) (list_all p xs) h in by both.0 (not_gone p q t more xs both.1) (t x) refl
  where
    by : p x ≡ true → list_all q (filter (λ x. not (t x)) xs) ≡ true → (b : Bool) → t x ≡ b → list_all q (cond (not b) (x ∷ filter (λ x. not (t x)) xs) (filter (λ x. not (t x)) xs)) ≡ true
    by first rest true e = rest
    by first rest false e = and_from (q x) (list_all q (filter (λ x. not (t x)) xs)) (more x e first) rest

-- ---- a change
change_housed : (change : Change) (new : Kept) (live : List Kept) (tree : Tree) → (is_set change ≡ true → shown_by new ≡ Some change) → ((q : ℕ) → has_inode live q ≡ true → is_some (inode_at tree q) ≡ true)
    → list_all (λ x. housed tree (shown_by x)) live ≡ true → list_all (λ x. housed (applied tree change) (shown_by x)) (kept_by change new live) ≡ true
change_housed (SetInode ino i) new live tree shows has h =
    let t : Tree = applied tree (SetInode ino i) in
    all_put (λ x. housed t (shown_by x)) (is_gone (SetInode ino i)) new live (ap (housed t) (shows refl))
    (all_weaker (λ (x : Kept). housed tree (shown_by x)) (λ x. housed t (shown_by x)) (λ x. housed_more tree t (set_keeps tree ino i) (shown_by x)) live h)
change_housed (SetEntry e) new live tree shows has h =
    let t : Tree = applied tree (SetEntry e) in
    all_put (λ x. housed t (shown_by x)) (is_gone (SetEntry e)) new live (ap (housed t) (shows refl))
    (all_weaker (λ (x : Kept). housed tree (shown_by x)) (λ x. housed t (shown_by x)) (λ x. housed_more tree t (λ q k. k) (shown_by x)) live h)
change_housed (DropEntry dir name) new live tree shows has h =
    not_gone (λ x. housed tree (shown_by x)) (λ x. housed (applied tree (DropEntry dir name)) (shown_by x)) (is_gone (DropEntry dir name)) (λ x g. housed_more tree (applied tree (DropEntry dir name)) (λ q k. k) (shown_by x)) live h
change_housed (CutBlocks ino old_size new_size) new live tree shows has h =
    not_gone (λ x. housed tree (shown_by x)) (λ x. housed (applied tree (CutBlocks ino old_size new_size)) (shown_by x)) (is_gone (CutBlocks ino old_size new_size))
    (λ x g. housed_more tree (applied tree (CutBlocks ino old_size new_size)) (λ q k. k) (shown_by x)) live h
change_housed (DropInode ino) new live tree shows has h =
    not_gone (λ x. housed tree (shown_by x)) (λ x. housed (applied tree (DropInode ino)) (shown_by x)) (is_gone (DropInode ino)) (λ x g. gone_housed tree ino (shown_by x) g) live h
change_housed (SetBlock ino number bytes) new live tree shows has h = by (has_inode live ino) refl
  where
    t : Tree
    t = applied tree (SetBlock ino number bytes)

    old : list_all (λ x. housed t (shown_by x)) live ≡ true
    old = all_weaker (λ (x : Kept). housed tree (shown_by x)) (λ x. housed t (shown_by x)) (λ x. housed_more tree t (block_keeps tree ino number bytes) (shown_by x)) live h

    by : (b : Bool) → has_inode live ino ≡ b → list_all (λ x. housed t (shown_by x)) (cond (not b) live (put_leaf (is_gone (SetBlock ino number bytes)) new live)) ≡ true
    by true e = all_put (λ x. housed t (shown_by x)) (is_gone (SetBlock ino number bytes)) new live (ap (housed t) (shows refl) ∙ block_keeps tree ino number bytes ino (has ino e)) old
    by false e = old

carries_set : (change : Change) (node : LeafNode) → ShowsChange change node → is_set change ≡ true → shown node ≡ Some change
carries_set (SetInode ino i) node c e = c
carries_set (SetEntry e) node c s = c
carries_set (SetBlock ino number bytes) node c e = c
carries_set change node c e = absurd (false≢true e)

-- ---- numbers
inode_number : (node : InoNode) (change : Change) (k : Option Kind) → option_map (λ kind. SetInode node.ino (inode_of node kind)) k ≡ Some change → key_number change ≡ node.ino
inode_number node change None e = absurd cc
inode_number node change (Some kind) e = let same : SetInode node.ino (inode_of node kind) ≡ change = cc in ap key_number (sym same)

entry_number : (node : DentNode) (change : Change) (a z : Bool) (k : Option Kind) → node.attribute ≡ a
    → cond a None (cond z (Some (DropEntry node.dir node.name)) (option_map (λ kind. SetEntry (record { dir = node.dir; name = node.name; ino = node.inum; kind = kind })) k)) ≡ Some change
    → key_number change ≡ (key_words (node_key (entry node))).0
entry_number node change true z k h e = absurd cc
entry_number node change false true k h e = let same : DropEntry node.dir node.name ≡ change = cc in ap key_number (sym same) ∙ rw h refl
entry_number node change false false None h e = absurd cc
entry_number node change false false (Some kind) h e =
    let same : SetEntry (record { dir = node.dir; name = node.name; ino = node.inum; kind = kind }) ≡ change = cc in ap key_number (sym same) ∙ rw h refl

-- the key of a node that shows a change has its number
shown_number : (node : LeafNode) (change : Change) → shown node ≡ Some change → key_number change ≡ (key_words (node_key node)).0
shown_number (inode node) change e = inode_number node change (kind_of_bits (bits_of node.mode)) e
shown_number (block node) change e = let same : SetBlock node.ino node.block node.bytes ≡ change = cc in ap key_number (sym same)
shown_number (entry node) change e = entry_number node change node.attribute (node.inum == 0) (kind_of_type node.kind) refl e
shown_number (truncation node) change e = let same : CutBlocks node.ino node.old_size node.new_size ≡ change = cc in ap key_number (sym same)

abbrev low_key : ℕ → Kept → Bool
low_key highest x = nat_le (key_words x.leaf.key).0 highest

low_more : (n h k : ℕ) → nat_le n h ≡ true → nat_le n (max h k) ≡ true
low_more n h k e = grind (arith)

low_new : (n h k : ℕ) → k ≡ n → nat_le n (max h k) ≡ true
low_new n h k e = grind (arith)

change_low : (change : Change) (new : Kept) (live : List Kept) (highest : ℕ) → (is_set change ≡ true → (key_words new.leaf.key).0 ≡ key_number change) → list_all (low_key highest) live ≡ true
    → list_all (low_key (max highest (key_number change))) (kept_by change new live) ≡ true
change_low change new live highest keyed h = by (is_idle live change) (is_set change) refl
  where
    now : ℕ
    now = max highest (key_number change)

    old : list_all (low_key now) live ≡ true
    old = all_weaker (low_key highest) (low_key now) (λ x e. low_more (key_words x.leaf.key).0 highest (key_number change) e) live h

    by : (idle set : Bool) → is_set change ≡ set → list_all (low_key now) (cond idle live (cond set (put_leaf (is_gone change) new live) (filter (λ x. not (is_gone change x)) live))) ≡ true
    by true set e = old
    by false true e = all_put (low_key now) (is_gone change) new live (low_new (key_words new.leaf.key).0 highest (key_number change) (sym (keyed e))) old
    by false false e = all_filter (low_key now) (λ x. not (is_gone change x)) live old

-- ---- leaves of a tree
-- what is so of each leaf is so of those that are left, and of a new one with them
all_left : (P : Kept → Type 0) (t : Kept → Bool) (xs : List Kept) → AllByRecursion P xs → AllByRecursion P (filter t xs)
all_left P t [] h = tt
all_left P t (x ∷ xs) h = by (t x) (all_left P t xs h.1)
  where
    by : (b : Bool) → AllByRecursion P (filter t xs) → AllByRecursion P (cond b (x ∷ filter t xs) (filter t xs))
    by true rest = (h.0, rest)
    by false rest = rest

all_with : (P : Kept → Type 0) (old : Kept → Bool) (new : Kept) (xs : List Kept) → P new → AllByRecursion P xs → AllByRecursion P (put_leaf old new xs)
all_with P old new [] n h = (n, tt)
all_with P old new (x ∷ xs) n h = by (old x) (nat_le (leaf_rank x.leaf) (leaf_rank new.leaf)) (all_with P old new xs n h.1)
  where
    by : (a b : Bool) → AllByRecursion P (put_leaf old new xs) → AllByRecursion P (cond a (new ∷ xs) (cond b (x ∷ put_leaf old new xs) (new ∷ x ∷ xs)))
    by true b rest = (n, h.1)
    by false true rest = (h.0, rest)
    by false false rest = (n, h)

change_keeps : (P : Kept → Type 0) (change : Change) (new : Kept) (live : List Kept) → P new → AllByRecursion P live → AllByRecursion P (kept_by change new live)
change_keeps P change new live n h = by (is_idle live change) (is_set change)
  where
    by : (idle set : Bool) → AllByRecursion P (cond idle live (cond set (put_leaf (is_gone change) new live) (filter (λ x. not (is_gone change x)) live)))
    by true set = h
    by false true = all_with P (is_gone change) new live n h
    by false false = all_left P (λ x. not (is_gone change x)) live h

pub record IsOwned (live : List Kept) (tree : Tree) : Type 0 where
  pub nodes : AllByRecursion (λ x. IsLeaf x.node) live
  pub inodes : list_all (λ x. housed tree (shown_by x)) live ≡ true
  pub low : list_all (low_key tree.highest) live ≡ true

has_of : (live : List Kept) (tree : Tree) → Show live tree → (q : ℕ) → has_inode live q ≡ true → is_some (inode_at tree q) ≡ true
has_of live tree s q h = subst (λ (t : Tree). is_some (inode_at t q) ≡ true) s.tree_is (shows_inode q live h)

carried_owned : (c : Carried) (live : List Kept) (tree : Tree) → IsCarried c → Show live tree → IsOwned live tree → IsOwned (kept_by c.change (kept_at c.placed) live) (applied tree c.change)
carried_owned c live tree is s o = record {
  nodes = change_keeps (λ x. IsLeaf x.node) c.change (kept_at c.placed) live is.node o.nodes;
  inodes = change_housed c.change (kept_at c.placed) live tree (carries_set c.change c.placed.node is.carries) (has_of live tree s) o.inodes;
  low = change_low c.change (kept_at c.placed) live tree.highest (λ e. sym (shown_number c.placed.node c.change (carries_set c.change c.placed.node is.carries e))) o.low;
}

group_owned : TreeLaw → KeptLaw → (group : List Carried) (h : Held) (tree : Tree) → AllByRecursion IsCarried group → Show h.live tree → IsOwned h.live tree → IsOwned (fold after_change h group).live (apply tree (changes_of group))
group_owned trees keeps [] h tree is s o = o
group_owned trees keeps (c ∷ group) h tree is s o =
    group_owned trees keeps group (after_change h c) (applied tree c.change) is.1 (change_shows trees keeps c h.live tree is.0 s) (carried_owned c h.live tree is.0 s o)

parts_owned : TreeLaw → KeptLaw → (parts : List Part) (m : Store) → AreLegalParts m parts → Show m.live m.tree → IsOwned m.live m.tree → IsOwned (fold after_part m parts).live (fold after_part m parts).tree
parts_owned trees keeps [] m are s o = o
parts_owned trees keeps (part ∷ parts) m are s o =
    let h : Held = record { live = m.live; held = m.held } in
    parts_owned trees keeps parts (after_part m part) are.1 (group_shows trees keeps part.group h m.tree are.0.carried s) (group_owned trees keeps part.group h m.tree are.0.carried s o)

from_owned : (m : Store) → IsOwned m.live m.tree → AreOwned m
from_owned m o = record { nodes = o.nodes; inodes = all_of_housed m.tree m.live o.inodes; highest = o.low }

to_owned : (m : Store) → AreOwned m → IsOwned m.live m.tree
to_owned m o = record { nodes = o.nodes; inodes = all_housed m.tree m.live o.inodes; low = o.highest }

pub put_owned : TreeLaw → KeptLaw → (m : Store) (p : Putting) → AreLegalParts m p.parts → HasFiles m → AreOwned m → AreOwned (put p m)
put_owned trees keeps m p are f o = by p.payment (parts_owned trees keeps p.parts m are (record { leaves = f.leaves; tree_is = f.tree }) (to_owned m o))
  where
    end : Store
    end = fold after_part m p.parts

    by : (payment : Payment) → IsOwned end.live end.tree → AreOwned (record (paid payment end) { index = p.index })
    by credit o = from_owned (record (paid credit end) { index = p.index }) o
    by granted o = from_owned (record (paid granted end) { index = p.index }) o

pub drop_owned : (m : Store) (ino : ℕ) (index : StoreIndex) → AreOwned m → AreOwned (drop_inode ino index m)
drop_owned m ino index o =
    let old = to_owned m o in
    let tree : Tree = without_inode m.tree ino in
    from_owned (drop_inode ino index m) (record {
      nodes = all_left (λ x. IsLeaf x.node) (λ x. not (is_gone (DropInode ino) x)) m.live old.nodes;
      inodes = not_gone (λ x. housed m.tree (shown_by x)) (λ x. housed tree (shown_by x)) (is_gone (DropInode ino)) (λ x g h. housed_more (applied m.tree (DropInode ino)) tree (λ q k. k) (shown_by x) (gone_housed m.tree ino (shown_by x) g h)) m.live old.inodes;
      low = all_filter (low_key m.tree.highest) (λ x. not (is_gone (DropInode ino) x)) m.live old.low;
    })

-- leaves that stand elsewhere, under their keys
moved_owned : (go : Kept → Kept) (tree : Tree) (live : List Kept) → AllByRecursion (StaysLeaf go) live → IsOwned live tree → IsOwned (map go live) tree
moved_owned go tree [] s o = record { nodes = tt; inodes = refl; low = refl }
moved_owned go tree (x ∷ live) s o =
    let a = and_parts (housed tree (shown_by x)) (list_all (λ x. housed tree (shown_by x)) live) o.inodes in
    let b = and_parts (low_key tree.highest x) (list_all (low_key tree.highest) live) o.low in
    let rest = moved_owned go tree live s.1 (record { nodes = o.nodes.1; inodes = a.1; low = b.1 }) in
    record {
      nodes = (subst IsLeaf (sym s.0.1) o.nodes.0, rest.nodes);
      inodes = and_from (housed tree (shown_by (go x))) (list_all (λ x. housed tree (shown_by x)) (map go live)) (ap (λ (node : LeafNode). housed tree (shown node)) s.0.1 ∙ a.0) rest.inodes;
      low = and_from (low_key tree.highest (go x)) (list_all (low_key tree.highest) (map go live)) (ap (λ (key : Key). nat_le (key_words key).0 tree.highest) s.0.0 ∙ b.0) rest.low;
    }

pub move_owned : (m : Store) (c : Copying) → CanMove m c → AreDistinct (map (λ x. x.leaf) m.live) → HasFiles m → AreOwned m → AreOwned (move c m)
move_owned m c can d f o =
    from_owned (move c m) (moved_owned (at_its_copy c) m.tree m.live (copies_stay c m.live m.live d f.leaves.keyed can.live can.node_is (all_leaves m.live)) (to_owned m o))

-- where the leaves and the files stay
pub same_owned : (m k : Store) → k.live ≡ m.live → k.tree ≡ m.tree → AreOwned m → AreOwned k
same_owned m k live tree o = record { nodes = rw live o.nodes; inodes = rw (live, tree) o.inodes; highest = rw (live, tree) o.highest }

-- ---- the highest number of keys
max_low : (h n : ℕ) → nat_le n h ≡ true → max h n ≡ h
max_low h n e = grind (arith)

pub highest_is : (highest : ℕ) (live : List Kept) → list_all (λ x. nat_le (key_words x.leaf.key).0 highest) live ≡ true → highest_key highest (map (λ x. x.leaf.key) live) ≡ highest
highest_is highest [] h = refl
highest_is highest (x ∷ live) h =
    let p = and_parts (nat_le (key_words x.leaf.key).0 highest) (list_all (λ x. nat_le (key_words x.leaf.key).0 highest) live) h in
    ap (λ (n : ℕ). highest_key n (map (λ x. x.leaf.key) live)) (max_low highest (key_words x.leaf.key).0 p.0) ∙ highest_is highest live p.1
