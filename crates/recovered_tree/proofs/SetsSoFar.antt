-- Leaves are read one after another.
use Rattle.std.proofs.Common.{◌≡◌, ℕ, List, [], ◌∷◌, ◌++◌, length, map, Option, Some, None, refl, ap, sym, ◌∙◌, subst, append_assoc, arith}
use Rattle.std.specs.Prelude.{take, drop}
use Rattle.std.specs.List.{AllByRecursion}
use Rattle.std.proofs.lemmas.List.{append-nil}
use Rattle.fs_model.specs.declared.change.Change.{Change}
use Rattle.fs_model.specs.declared.change.Change.TheVariants.{SetBlock, SetEntry, SetInode, DropEntry, CutBlocks, DropInode}
use Rattle.index_tree.specs.declared.leaf.Leaf.{Leaf}
use Rattle.media_leaf.specs.LeafNode.{IsLeafNode}
use Rattle.leaf_map.specs.Kept.{Kept, shown_by}
use Rattle.leaf_map.specs.Parts.{Parts}
use Rattle.leaf_recovery.specs.Told.{AreLeavesTold}
use Rattle.leaf_recovery.specs.declared.recovered_leaf.RecoveredLeaf.{RecoveredLeaf}
use Rattle.sound_image.specs.Tree.{ShowsItsNode}
use Rattle.recovered_tree.specs.Sets.{AreSetsOf, IsShownIn, set_inodes, set_others, with_set_inode, with_set_other}
use Rattle.recovered_tree.specs.declared.leaf_sets.LeafSets.{LeafSets}

-- of leaves, these are left, and what was kept and what the rest of them sets is what all of them set
pub record ReadSoFar (contents : ℕ → List ℕ) (kept : List Kept) (left : List Leaf) (sets : LeafSets) : Type 0 where
  pub rest : List Kept
  pub left_are : left ≡ map (λ (x : Kept). x.leaf) rest
  pub stand : AllByRecursion (ShowsItsNode contents) rest
  pub inodes : sets.inodes.items ++ set_inodes rest ≡ set_inodes kept
  pub others : sets.others.items ++ set_others rest ≡ set_others kept

pub read_starts : (contents : ℕ → List ℕ) (kept : List Kept) (left : List Leaf) (sets : LeafSets) → sets.inodes.items ≡ [] → sets.others.items ≡ [] → left ≡ map (λ (x : Kept). x.leaf) kept → AllByRecursion (ShowsItsNode contents) kept
    → ReadSoFar contents kept left sets
read_starts contents kept left sets i o l s = record {
  rest = kept;
  left_are = l;
  stand = s;
  inodes = ap (λ (cs : List Change). cs ++ set_inodes kept) i;
  others = ap (λ (cs : List Change). cs ++ set_others kept) o;
}

before_inodes : (s : Option Change) (cs : List Change) → with_set_inode s [] ++ cs ≡ with_set_inode s cs
before_inodes None cs = refl
before_inodes (Some (SetInode ino inode)) cs = refl
before_inodes (Some (SetBlock ino number bytes)) cs = refl
before_inodes (Some (SetEntry e)) cs = refl
before_inodes (Some (DropEntry dir name)) cs = refl
before_inodes (Some (CutBlocks ino old_size new_size)) cs = refl
before_inodes (Some (DropInode ino)) cs = refl

before_others : (s : Option Change) (cs : List Change) → with_set_other s [] ++ cs ≡ with_set_other s cs
before_others None cs = refl
before_others (Some (SetInode ino inode)) cs = refl
before_others (Some (SetBlock ino number bytes)) cs = refl
before_others (Some (SetEntry e)) cs = refl
before_others (Some (DropEntry dir name)) cs = refl
before_others (Some (CutBlocks ino old_size new_size)) cs = refl
before_others (Some (DropInode ino)) cs = refl

-- one leaf more
pub read_next : (contents : ℕ → List ℕ) (kept : List Kept) (left next : List Leaf) (leaf : Leaf) (sets new : LeafSets) (shown : Option Change) → left ≡ leaf ∷ next
    → IsShownIn (take leaf.len (drop leaf.offs (contents leaf.lnum))) shown → new.inodes.items ≡ sets.inodes.items ++ with_set_inode shown [] → new.others.items ≡ sets.others.items ++ with_set_other shown []
    → ReadSoFar contents kept left sets → ReadSoFar contents kept next new
read_next contents kept left next leaf sets new shown e read i o so = by so.rest so.left_are so.stand so.inodes so.others
  where
    by : (rest : List Kept) → left ≡ map (λ (x : Kept). x.leaf) rest → AllByRecursion (ShowsItsNode contents) rest → sets.inodes.items ++ set_inodes rest ≡ set_inodes kept → sets.others.items ++ set_others rest ≡ set_others kept
        → ReadSoFar contents kept next new
    by [] l s a b = absurd (let wrong : leaf ∷ next ≡ [] = sym e ∙ l in cc)
    by (x ∷ rest) l s a b =
        let both : leaf ∷ next ≡ x.leaf ∷ map (λ (y : Kept). y.leaf) rest = sym e ∙ l in
        let here : leaf ≡ x.leaf = cc in
        let more : next ≡ map (λ (y : Kept). y.leaf) rest = cc in
        let P : Leaf → Type 0 = λ k. IsLeafNode (take k.len (drop k.offs (contents k.lnum))) s.0.sqnum s.0.group x.node in
        let shows : shown ≡ shown_by x = read s.0.sqnum s.0.group x.node (subst P (sym here) s.0.is) in
        record {
          rest = rest;
          left_are = more;
          stand = s.1;
          inodes = ap (λ (cs : List Change). cs ++ set_inodes rest) i ∙ append_assoc sets.inodes.items (with_set_inode shown []) (set_inodes rest)
              ∙ ap (λ (cs : List Change). sets.inodes.items ++ cs) (before_inodes shown (set_inodes rest) ∙ ap (λ (s : Option Change). with_set_inode s (set_inodes rest)) shows) ∙ a;
          others = ap (λ (cs : List Change). cs ++ set_others rest) o ∙ append_assoc sets.others.items (with_set_other shown []) (set_others rest)
              ∙ ap (λ (cs : List Change). sets.others.items ++ cs) (before_others shown (set_others rest) ∙ ap (λ (s : Option Change). with_set_other s (set_others rest)) shows) ∙ b;
        }

-- no leaf is left
pub read_all : (contents : ℕ → List ℕ) (kept : List Kept) (left : List Leaf) (sets : LeafSets) → length left ≡ 0 → ReadSoFar contents kept left sets → AreSetsOf kept sets
read_all contents kept left sets none so = by so.rest (ap length (sym so.left_are) ∙ none) so.inodes so.others
  where
    by : (rest : List Kept) → length (map (λ (x : Kept). x.leaf) rest) ≡ 0 → sets.inodes.items ++ set_inodes rest ≡ set_inodes kept → sets.others.items ++ set_others rest ≡ set_others kept → AreSetsOf kept sets
    by [] n a b = record { inodes = sym (append-nil sets.inodes.items) ∙ a; others = sym (append-nil sets.others.items) ∙ b }
    by (x ∷ rest) n a b = absurd (omega (arith, n))

-- ---- the recovered leaves
pub places_same : (parts : Parts) (kept : List Kept) (rs : List RecoveredLeaf) → AreLeavesTold parts kept rs → map (λ (r : RecoveredLeaf). r.leaf) rs ≡ map (λ (x : Kept). x.leaf) kept
places_same parts [] [] h = refl
places_same parts [] (r ∷ rs) h = absurd h
places_same parts (x ∷ kept) [] h = absurd h
places_same parts (x ∷ kept) (r ∷ rs) h = ap (λ (l : Leaf). l ∷ map (λ (y : RecoveredLeaf). y.leaf) rs) h.0.leaf ∙ ap (λ (ls : List Leaf). x.leaf ∷ ls) (places_same parts kept rs h.1)
