-- What groups that are put make of the leaves is what their changes make of the files.
use Rattle.std.proofs.Common.{◌≡◌, ℕ, List, [], ◌∷◌, ap, ◌∙◌}
use Rattle.std.specs.Prelude.{max, fold}
use Rattle.std.specs.List.{AllByRecursion}
use Rattle.media_leaf.specs.LeafNode.{IsLeaf}
use Rattle.fs_model.specs.declared.change.Change.{Change}
use Rattle.fs_model.specs.Change.{applied, apply, key_number}
use Rattle.fs_model.specs.Files.{Tree}
use Rattle.leaf_map.specs.After.{ShowsChange, kept_by}
use Rattle.leaf_map.specs.Kept.{Kept, Placed, kept_at}
use Rattle.leaf_map.specs.LeafMap.{IsLeafMap}
use Rattle.leaf_map.specs.Shown.{tree_of}
use Rattle.store_model.specs.Events.{Held, Part, Payment, credit, granted, after_change, after_part, paid}
use Rattle.store_model.specs.Heads.{changes_of}
use Rattle.store_model.specs.Legal.{AreLegalParts, IsCarried}
use Rattle.store_model.specs.Store.{Carried, Store}

-- a change of leaves is one of the tree
abbrev pub TreeLaw : Type 0
TreeLaw = (change : Change) (new : Placed) (kept : List Kept) (highest : ℕ) → IsLeaf new.node → ShowsChange change new.node → IsLeafMap kept
    → tree_of (kept_by change (kept_at new) kept) (max highest (key_number change)) ≡ applied (tree_of kept highest) change

-- leaves of an index stay so
abbrev pub KeptLaw : Type 0
KeptLaw = (change : Change) (new : Placed) (kept : List Kept) → IsLeaf new.node → ShowsChange change new.node → IsLeafMap kept → IsLeafMap (kept_by change (kept_at new) kept)

-- leaves of an index that show a tree
pub record Show (live : List Kept) (tree : Tree) : Type 0 where
  pub leaves : IsLeafMap live
  pub tree_is : tree_of live tree.highest ≡ tree

pub change_shows : TreeLaw → KeptLaw → (c : Carried) (live : List Kept) (tree : Tree) → IsCarried c → Show live tree → Show (kept_by c.change (kept_at c.placed) live) (applied tree c.change)
change_shows trees keeps c live tree is s = record {
  leaves = keeps c.change c.placed live is.node is.carries s.leaves;
  tree_is = trees c.change c.placed live tree.highest is.node is.carries s.leaves ∙ ap (λ t. applied t c.change) s.tree_is;
}

pub group_shows : TreeLaw → KeptLaw → (group : List Carried) (h : Held) (tree : Tree) → AllByRecursion IsCarried group → Show h.live tree
    → Show (fold after_change h group).live (apply tree (changes_of group))
group_shows trees keeps [] h tree is s = s
group_shows trees keeps (c ∷ group) h tree is s = group_shows trees keeps group (after_change h c) (applied tree c.change) is.1 (change_shows trees keeps c h.live tree is.0 s)

-- parts that can be put
pub parts_show : TreeLaw → KeptLaw → (parts : List Part) (m : Store) → AreLegalParts m parts → Show m.live m.tree
    → Show (fold after_part m parts).live (fold after_part m parts).tree
parts_show trees keeps [] m are s = s
parts_show trees keeps (part ∷ parts) m are s =
    parts_show trees keeps parts (after_part m part) are.1 (group_shows trees keeps part.group (record { live = m.live; held = m.held }) m.tree are.0.carried s)

-- what pays changes neither
pub paid_shows : (payment : Payment) (m : Store) → Show m.live m.tree → Show (paid payment m).live (paid payment m).tree
paid_shows credit m s = s
paid_shows granted m s = s
