-- What events make of the bytes of live and of held leaves.
use Rattle.std.proofs.Common.{◌≡◌, ◌≤◌, ◌+◌, ℕ, Bool, true, false, cond, List, [], ◌∷◌, ◌++◌, map, arith, refl, not}
use Rattle.std.specs.Prelude.{filter, fold}
use Rattle.std.specs.List.{AllByRecursion}
use Rattle.std.proofs.lemmas.List.Sums.{sum_by-append, sum_by-cons}
use Rattle.media_leaf.specs.LeafNode.{IsLeaf}
use Rattle.fs_model.specs.Cover.{round_8}
use Rattle.fs_model.specs.declared.change.Change.{Change}
use Rattle.fs_model.specs.declared.change.Change.TheVariants.{DropInode}
use Rattle.group_nodes.specs.Nodes.{node_of}
use Rattle.leaf_map.specs.After.{ShowsChange, come_by, gone_by, is_gone, is_idle, is_set, kept_by, used_by}
use Rattle.leaf_map.specs.Kept.{Kept, Placed, kept_at, kept_bytes}
use Rattle.leaf_map.specs.LeafMap.{IsLeafMap}
use Rattle.store_model.specs.Events.{Held, Part, Payment, after_change, after_part, credit, granted, nodes_len, paid}
use Rattle.store_model.specs.Legal.{AreLegalParts, IsCarried, nodes_of_parts}
use Rattle.store_model.specs.Store.{Carried, Store}
use Rattle.store_model.proofs.Puts.{KeptLaw}

-- bytes of leaves add up
abbrev pub ByteLaw : Type 0
ByteLaw = (change : Change) (new : Placed) (kept : List Kept) → IsLeaf new.node → ShowsChange change new.node → IsLeafMap kept
    → used_by (kept_by change (kept_at new) kept) + used_by (gone_by change kept) ≡ used_by kept + used_by (come_by change (kept_at new) kept)

abbrev bytes_in : Held → ℕ
bytes_in h = used_by h.live + used_by h.held

used_more : (a b : List Kept) → used_by (a ++ b) ≡ used_by a + used_by b
used_more a b = sum_by-append kept_bytes a b

nodes_more : (a b : List Placed) → nodes_len (a ++ b) ≡ nodes_len a + nodes_len b
nodes_more a b = sum_by-append (λ placed. round_8 placed.len) a b

-- a change brings no more than its node
come_most : (change : Change) (new : Placed) (kept : List Kept) → used_by (come_by change (kept_at new) kept) ≤ round_8 new.len
come_most change new kept = by (is_idle kept change) (is_set change)
  where
    by : (idle set : Bool) → used_by (cond idle [] (cond set (kept_at new ∷ []) [])) ≤ round_8 new.len
    by true set = omega arith
    by false true = omega (arith, sum_by-cons kept_bytes (kept_at new) [])
    by false false = omega arith

change_bytes : ByteLaw → (h : Held) (c : Carried) → IsCarried c → IsLeafMap h.live → bytes_in (after_change h c) ≤ bytes_in h + round_8 c.placed.len
change_bytes law h c is leaves =
    omega (arith, law c.change c.placed h.live is.node is.carries leaves, used_more h.held (gone_by c.change h.live), come_most c.change c.placed h.live)

group_leaves : KeptLaw → (group : List Carried) (h : Held) → AllByRecursion IsCarried group → IsLeafMap h.live → IsLeafMap (fold after_change h group).live
group_leaves keeps [] h is leaves = leaves
group_leaves keeps (c ∷ group) h is leaves = group_leaves keeps group (after_change h c) is.1 (keeps c.change c.placed h.live is.0.node is.0.carries leaves)

group_bytes : ByteLaw → KeptLaw → (group : List Carried) (h : Held) → AllByRecursion IsCarried group → IsLeafMap h.live
    → bytes_in (fold after_change h group) ≤ bytes_in h + nodes_len (map (λ c. c.placed) group)
group_bytes law keeps [] h is leaves = omega arith
group_bytes law keeps (c ∷ group) h is leaves =
    let rest = group_bytes law keeps group (after_change h c) is.1 (keeps c.change c.placed h.live is.0.node is.0.carries leaves) in
    omega (arith, rest, change_bytes law h c is.0 leaves, sum_by-cons (λ (placed : Placed). round_8 placed.len) c.placed (map (λ c. c.placed) group))

-- groups that can be put
pub parts_bytes : ByteLaw → KeptLaw → (parts : List Part) (m : Store) → AreLegalParts m parts → IsLeafMap m.live
    → used_by (fold after_part m parts).live + used_by (fold after_part m parts).held ≤ used_by m.live + used_by m.held + nodes_len (nodes_of_parts parts)
parts_bytes law keeps [] m are leaves = omega arith
parts_bytes law keeps (part ∷ parts) m are leaves =
    let h : Held = record { live = m.live; held = m.held } in
    let first = group_bytes law keeps part.group h are.0.carried leaves in
    let rest = parts_bytes law keeps parts (after_part m part) are.1 (group_leaves keeps part.group h are.0.carried leaves) in
    omega (arith, first, rest, nodes_more (map (λ c. c.placed) part.group) (nodes_of_parts parts))

-- what pays changes none
pub paid_bytes : (payment : Payment) (m : Store) → used_by (paid payment m).live + used_by (paid payment m).held ≡ used_by m.live + used_by m.held
paid_bytes credit m = refl
paid_bytes granted m = refl

-- the node of an inode that goes, wherever it might stand
abbrev gone_node : ℕ → Placed
gone_node ino = record { node = node_of (DropInode ino); sqnum = 0; group = 0; lnum = 0; offs = 0; len = 0 }

-- the leaves of an inode that goes are held, or aren't
pub drop_bytes : ByteLaw → (ino : ℕ) (live held : List Kept) (synced : Bool) → 1 ≤ ino → IsLeafMap live
    → used_by (filter (λ x. not (is_gone (DropInode ino) x)) live) + used_by (cond synced held (held ++ filter (is_gone (DropInode ino)) live)) ≤ used_by live + used_by held
drop_bytes law ino live held synced some leaves = by synced
  where
    is : IsLeaf (node_of (DropInode ino))
    is = record { numbered = some; most = omega arith; plain = λ _. refl }

    both : used_by (filter (λ x. not (is_gone (DropInode ino) x)) live) + used_by (filter (is_gone (DropInode ino)) live) ≡ used_by live + used_by (come_by (DropInode ino) (kept_at (gone_node ino)) live)
    both = law (DropInode ino) (gone_node ino) live is refl leaves

    by : (synced : Bool) → used_by (filter (λ x. not (is_gone (DropInode ino) x)) live) + used_by (cond synced held (held ++ filter (is_gone (DropInode ino)) live)) ≤ used_by live + used_by held
    by true = omega (arith, both)
    by false = omega (arith, both, used_more held (filter (is_gone (DropInode ino)) live))
