-- What is read where no node can stand, and what is shown where one does.
use Rattle.std.proofs.Common.{◌≡◌, ℕ, ◌-◌, ◌<◌, ◌≤◌, List, [], length, take, drop, min, Option, Some, None, IfNone, IfOk, Result, Ok, Err, ap, sym, ◌∙◌, arith, length-drop}
use Rattle.std.specs.Prelude.{IfSome}
use Rattle.std.proofs.lemmas.List.{length-take}
use Rattle.media_leaf.specs.LeafNode.{IsLeafNode, LeafNode, inode, block, entry, truncation}
use Rattle.media_leaf.specs.declared.ino_node.InoNode.{InoNode}
use Rattle.ubifs_base.specs.NodeLaws.{IsBytes}
use Rattle.fs_model.specs.declared.change.Change.{Change}
use Rattle.group_nodes.specs.LengthLaws.{leaf_length, length_most}
use Rattle.group_nodes.specs.Nodes.{IsChangeReadOf}
use Rattle.leaf_map.specs.Kept.{shown}
use Rattle.recovered_tree.specs.Sets.{IsShownIn}

none_in_nothing : (read : Option Change) (bytes : List ℕ) → length bytes ≡ 0 → IsShownIn bytes read
none_in_nothing read bytes empty sqnum group node h = let least = (leaf_length bytes sqnum group node h).0 in absurd (omega (arith, empty, least))

pub none_past : (read : Option Change) (leb : List ℕ) (offs len : ℕ) → leb ≡ [] → IsShownIn (take len (drop offs leb)) read
none_past read leb offs len e =
    let far = length-drop offs leb in
    let empty = ap length e in
    none_in_nothing read (take len (drop offs leb)) (let most = length_most len (drop offs leb) in omega (arith, far, empty, most))

pub none_behind : (read : Option Change) (leb : List ℕ) (offs len : ℕ) → length leb < offs → IsShownIn (take len (drop offs leb)) read
none_behind read leb offs len past =
    let far = length-drop offs leb in
    none_in_nothing read (take len (drop offs leb)) (let most = length_most len (drop offs leb) in omega (arith, far, past, most))

pub none_longer : (read : Option Change) (leb : List ℕ) (offs len count size : ℕ) → length leb ≡ size → offs ≤ size → count ≡ min len (size - offs) → 4256 < count → IsShownIn (take len (drop offs leb)) read
none_longer read leb offs len count size long inside is more sqnum group node h =
    let most = (leaf_length (take len (drop offs leb)) sqnum group node h).1 in
    let have = length-take len (drop offs leb) ∙ ap (min len) (length-drop offs leb ∙ ap (λ n. n - offs) long) ∙ sym is in
    absurd (omega (arith, most, have, more))

-- ---- what is shown
-- bytes are at most one node
abbrev pub IsOneNode : Type 0
IsOneNode = (bytes : List ℕ) (s1 g1 s2 g2 : ℕ) (n1 n2 : LeafNode) → IsBytes bytes → IsLeafNode bytes s1 g1 n1 → IsLeafNode bytes s2 g2 n2 → (s1 ≡ s2) × (g1 ≡ g2) × (n1 ≡ n2)

-- where an inode's node was found, that is what is shown
pub inode_shown_in : IsOneNode → (bytes : List ℕ) (found : Option InoNode) (node : InoNode) (read : Option Change) → IsBytes bytes → found ≡ Some node
    → IfSome found (λ (n : InoNode). (sqnum : ℕ) × (group : ℕ) × IsLeafNode bytes sqnum group (inode n)) → read ≡ shown (inode node) → IsShownIn bytes read
inode_shown_in one bytes None node read fits is h made sqnum group other there = absurd cc
inode_shown_in one bytes (Some n) node read fits is (s, g, h) made sqnum group other there =
    let same : n ≡ node = cc in
    made ∙ ap (λ (m : InoNode). shown (inode m)) (sym same) ∙ ap shown (one bytes s g sqnum group (inode n) other fits h there).2

-- what another node carries is what it shows
carried : (bytes : List ℕ) (read : Option Change) → ((sqnum group : ℕ) (n : InoNode) → IsLeafNode bytes sqnum group (inode n) → ⊥) → IsChangeReadOf bytes read → IsShownIn bytes read
carried bytes read none of sqnum group (inode n) h = absurd (none sqnum group n h)
carried bytes read none of sqnum group (block n) h = of.exact sqnum group (block n) h
carried bytes read none of sqnum group (entry n) h = of.exact sqnum group (entry n) h
carried bytes read none of sqnum group (truncation n) h = of.exact sqnum group (truncation n) h

pub other_shown_in : (bytes : List ℕ) (found : Option InoNode) → found ≡ None → IfNone found ((sqnum group : ℕ) (n : InoNode) → IsLeafNode bytes sqnum group (inode n) → ⊥) → {E : Type 0} (r : Result (Option Change) E) → IfOk r (IsChangeReadOf bytes) → IfOk r (IsShownIn bytes)
other_shown_in bytes (Some n) is none r h = absurd cc
other_shown_in bytes None is none (Ok read) h = carried bytes read none h
other_shown_in bytes None is none (Err e) h = tt
