-- What is told of nodes and leaves, and which tests are told.
use Rattle.std.proofs.Common.{◌≡◌, ℕ, Bool, true, false, cond, ◌&&◌, ◌||◌, List, [], ◌∷◌, map, refl, sym, ap, subst, ◌∙◌, Option, Some, None}
use Rattle.std.specs.Prelude.{◌==◌, nat_le}
use Rattle.ubifs_base.specs.declared.key.Key.{Key}
use Rattle.media_leaf.specs.LeafNode.{IsLeaf}
use Rattle.media_sys.specs.declared.ref_node.RefNode.{RefNode}
use Rattle.index_tree.specs.declared.leaf.Leaf.{Leaf}
use Rattle.fs_model.specs.declared.change.Change.{Change}
use Rattle.group_nodes.specs.Nodes.{change_of}
use Rattle.leaf_map.specs.Kept.{Kept, Placed, kept_at, shown, shown_by}
use Rattle.leaf_map.specs.LeafMap.{shows_same}
use Rattle.leaf_map.specs.Parts.{Committed, Parts, in_bud, is_named, is_own, is_shown, own_node}
use Rattle.journal_scan.specs.Content.{node_content_of, told}
use Rattle.journal_scan.specs.declared.node_content.NodeContent.{NodeContent}
use Rattle.journal_scan.specs.declared.journal_node.JournalNode.{JournalNode}
use Rattle.log_replay.specs.Replay.{told_committed}
use Rattle.log_replay.specs.Settling.{HasGrammar}
use Rattle.log_replay.specs.declared.committed_leaf.CommittedLeaf.{CommittedLeaf}
use Rattle.leaf_recovery.specs.declared.recovered_leaf.RecoveredLeaf.{RecoveredLeaf}
use Rattle.leaf_recovery.specs.Found.{is_own_told, leaf_read, own_node_told}
use Rattle.leaf_recovery.specs.Named.{in_bud_told, is_named_told, named_by_reference}
use Rattle.leaf_recovery.specs.Things.{leaf_told, shows_thing, shows_told}
use Rattle.leaf_recovery.specs.Told.{WasRead, IsLeafTold}
use Rattle.leaf_recovery.proofs.Pairs.{IfBoth}
use Rattle.leaf_recovery.proofs.Rough.{carried_of, change_told, key_of_is, rough_of, shown_of, shown_rough, shown_told, shows_is, shows_rough, thing_is}

-- this is told of a node that was read
pub record NodeTold (parts : Parts) (p : Placed) (j : JournalNode) : Type 0 where
  pub is : j ≡ told p
  pub leaf : IsLeaf p.node
  pub read : WasRead parts p

-- this is told of a committed leaf
pub record LeafTold (parts : Parts) (c : Committed) (l : CommittedLeaf) : Type 0 where
  pub is : l ≡ told_committed c
  pub grammar : HasGrammar c
  pub read : (p : Placed) → c.found ≡ Some p → WasRead parts p

-- this is told of a leaf with its node
pub record KeptTold (parts : Parts) (x : Kept) (r : RecoveredLeaf) : Type 0 where
  pub told : IsLeafTold parts x r
  pub shows : shown_told r.content ≡ rough_of (shown_by x)

-- ---- nodes
pub node_shows : (parts : Parts) (p : Placed) (j : JournalNode) → NodeTold parts p j → shown_told j.content ≡ rough_of (shown p.node)
node_shows parts p j h = ap (λ (n : JournalNode). shown_told n.content) h.is ∙ shown_of p.node h.leaf

pub node_carries : (parts : Parts) (p : Placed) (j : JournalNode) → NodeTold parts p j → change_told j.content ≡ rough_of (change_of p.node)
node_carries parts p j h = ap (λ (n : JournalNode). change_told n.content) h.is ∙ carried_of p.node h.leaf

pub told_leaf_is : (p : Placed) → leaf_told (told p) ≡ (kept_at p).leaf
told_leaf_is p = ap (λ (k : Key). record { key = k; lnum = p.lnum; offs = p.offs; len = p.len }) (key_of_is p.node)

pub node_leaf : (parts : Parts) (p : Placed) (j : JournalNode) → NodeTold parts p j → leaf_told j ≡ (kept_at p).leaf
node_leaf parts p j h = ap leaf_told h.is ∙ told_leaf_is p

pub node_sqnum : (parts : Parts) (p : Placed) (j : JournalNode) → NodeTold parts p j → j.sqnum ≡ p.sqnum
node_sqnum parts p j h = ap (λ (n : JournalNode). n.sqnum) h.is

-- what two nodes show is the same
pub same_shown : (c d : NodeContent) (s t : Option Change) → shown_told c ≡ rough_of s → shown_told d ≡ rough_of t → shows_told c d ≡ shows_same s t
same_shown c d s t h k = shows_is c d ∙ ap (λ z. shows_same z (shown_told d)) h ∙ ap (shows_same (rough_of s)) k ∙ shows_rough s t

pub thing_shown : (c : NodeContent) (s : Option Change) → shown_told c ≡ rough_of s → shows_thing c ≡ is_shown s
thing_shown c s h = thing_is c ∙ ap is_shown h ∙ shown_rough s

-- the leaf of a node that was read
pub kept_node : (parts : Parts) (p : Placed) (j : JournalNode) (leaf : Leaf) → NodeTold parts p j → KeptTold parts (record { leaf = leaf; sqnum = p.sqnum; node = p.node }) (leaf_read leaf j)
kept_node parts p j leaf h =
    subst (λ (n : JournalNode). KeptTold parts (record { leaf = leaf; sqnum = p.sqnum; node = p.node }) (leaf_read leaf n)) (sym h.is)
    (record { told = record { leaf = refl; content = refl; sqnum = refl; source = (p, h.read, refl, refl) }; shows = shown_of p.node h.leaf })

pub kept_there : (parts : Parts) (p : Placed) (j : JournalNode) → NodeTold parts p j → KeptTold parts (kept_at p) (leaf_read (leaf_told j) j)
kept_there parts p j h = subst (λ (l : Leaf). KeptTold parts (kept_at p) (leaf_read l j)) (sym (node_leaf parts p j h)) (kept_node parts p j (kept_at p).leaf h)

-- ---- references
pub in_bud_is : (references : List RefNode) (leaf : Leaf) → in_bud_told references leaf ≡ in_bud (map named_by_reference references) leaf
in_bud_is [] leaf = refl
in_bud_is (b ∷ references) leaf = ap (λ z. ((b.lnum == leaf.lnum) && nat_le b.offs leaf.offs) || z) (in_bud_is references leaf)

pub named_is : (references : List RefNode) (lnum : ℕ) → is_named_told references lnum ≡ is_named (map named_by_reference references) lnum
named_is [] lnum = refl
named_is (b ∷ references) lnum = ap (λ z. (b.lnum == lnum) || z) (named_is references lnum)

-- ---- own nodes
pub own_is : (references : List RefNode) (leaf : Leaf) (p : Placed) → IsLeaf p.node → is_own_told references leaf (told p) ≡ is_own (map named_by_reference references) leaf p
own_is references leaf p h =
    rw (in_bud_is references leaf, thing_shown (node_content_of p.node) (shown p.node) (shown_of p.node h), told_leaf_is p) refl

pub own_pair : (parts : Parts) (references : List RefNode) (c : Committed) → HasGrammar c → ((p : Placed) → c.found ≡ Some p → WasRead parts p)
    → IfBoth (NodeTold parts) (own_node (map named_by_reference references) c) (own_node_told references (told_committed c))
own_pair parts references c g r = by c.found g r
  where
    test : (p : Placed) → IsLeaf p.node → WasRead parts p → (a b : Bool) → b ≡ a → IfBoth (NodeTold parts) (cond a (Some p) None) (cond b (Some (told p)) None)
    test p h read true true e = record { is = refl; leaf = h; read = read }
    test p h read false false e = tt
    test p h read true false e = absurd cc
    test p h read false true e = absurd cc

    by : (found : Option Placed) → HasGrammar (record { leaf = c.leaf; found = found }) → ((p : Placed) → found ≡ Some p → WasRead parts p)
        → IfBoth (NodeTold parts) (own_node (map named_by_reference references) (record { leaf = c.leaf; found = found })) (own_node_told references (told_committed (record { leaf = c.leaf; found = found })))
    by None g r = tt
    by (Some p) g r = test p g (r p refl) (is_own (map named_by_reference references) c.leaf p) (is_own_told references c.leaf (told p)) (own_is references c.leaf p g)
