-- What a mount makes of leaves that each have a node of their own, where there is no journal: it leaves them as they are.
use Rattle.std.proofs.Common.{◌≡◌, ℕ, Bool, true, false, List, [], ◌∷◌, Some, refl, ap, ◌∙◌}
use Rattle.std.specs.Prelude.{◌==◌, map, cond}
use Rattle.std.specs.List.{AllByRecursion}
use Rattle.std.proofs.lemmas.Bool.{eq-eqb}
use Rattle.index_tree.specs.Order.{leaf_rank}
use Rattle.index_tree.specs.Removal.{same_leaf}
use Rattle.index_tree.specs.declared.leaf.Leaf.{Leaf}
use Rattle.leaf_map.specs.Allowed.{AreOriginals}
use Rattle.leaf_map.specs.Kept.{Kept, Placed, kept_at, shown}
use Rattle.leaf_map.specs.Lost.{empty_names, lost_leaves, missing_leaves}
use Rattle.leaf_map.specs.Parts.{Committed, Parts, is_shown, own_node}
use Rattle.leaf_map.specs.Recovered.{is_copied, leaves_found, leaves_left, moved_to_its_copy, recovered_of}
use Rattle.laid_image.specs.Laid.{leaf_of_placed}

-- a leaf as it was read: with the node that stands at its place
abbrev pub read : Placed → Committed
read x = record { leaf = leaf_of_placed x; found = Some x }

-- what a mount has read of such leaves
abbrev pub parts_read : ℕ → List Placed → Parts
parts_read highest nodes = record { highest = highest; committed = map read nodes; named = []; nodes = []; copies = []; listed = [] }

same_number : (n : ℕ) → (n == n) ≡ true
same_number n = eq-eqb n n refl

same_itself : (x : Leaf) → same_leaf x x ≡ true
unfolding same_leaf
same_itself x = rw (same_number (leaf_rank x), same_number x.lnum, same_number x.offs, same_number x.len) refl

-- each node is its leaf's own
own : (x : Placed) → is_shown (shown x.node) ≡ true → own_node [] (read x) ≡ Some x
own x s = rw (s, same_itself (leaf_of_placed x)) refl

abbrev Show : List Placed → Type 0
Show nodes = AllByRecursion (λ x. is_shown (shown x.node) ≡ true) nodes

originals : (nodes : List Placed) → Show nodes → AreOriginals [] (map kept_at nodes) (map read nodes)
originals [] s = tt
originals (x ∷ nodes) s = (x, own x s.0, refl, originals nodes s.1)

-- nothing is lost
none_lost : (nodes : List Placed) → Show nodes → lost_leaves [] [] (map read nodes) ≡ []
none_lost [] s = refl
none_lost (x ∷ nodes) s = rw (own x s.0) (none_lost nodes s.1)

-- where there are no copies, a leaf stays where it is
stays : (highest : ℕ) (nodes : List Placed) (kept : List Kept) (x : Kept) → moved_to_its_copy (parts_read highest nodes) kept x ≡ x
stays highest nodes kept x = either (is_copied [] kept x.leaf.lnum)
  where
    either : (b : Bool) → cond b x x ≡ x
    either true = refl
    either false = refl

all_stay : (highest : ℕ) (nodes : List Placed) (all kept : List Kept) → map (moved_to_its_copy (parts_read highest nodes) all) kept ≡ kept
all_stay highest nodes all [] = refl
all_stay highest nodes all (x ∷ kept) = ap (λ y. y ∷ map (moved_to_its_copy (parts_read highest nodes) all) kept) (stays highest nodes all x) ∙ ap (λ more. x ∷ more) (all_stay highest nodes all kept)

module _ (found : (parts : Parts) (kept : List Kept) → AreOriginals parts.named kept parts.committed → leaves_found parts ≡ kept) where
  pub found_as_laid : (highest : ℕ) (nodes : List Placed) → Show nodes → leaves_found (parts_read highest nodes) ≡ map kept_at nodes
  found_as_laid highest nodes s = found (parts_read highest nodes) (map kept_at nodes) (originals nodes s)

  pub kept_as_laid : (highest : ℕ) (nodes : List Placed) → Show nodes → (recovered_of (parts_read highest nodes)).kept ≡ map kept_at nodes
  kept_as_laid highest nodes s =
      all_stay highest nodes (leaves_left (parts_read highest nodes)) (leaves_left (parts_read highest nodes)) ∙ found_as_laid highest nodes s

pub none_missing : (highest : ℕ) (nodes : List Placed) → Show nodes → missing_leaves (parts_read highest nodes) ≡ []
none_missing highest nodes s = rw (none_lost nodes s) refl

pub none_empty : (highest : ℕ) (nodes : List Placed) → Show nodes → empty_names (parts_read highest nodes) ≡ []
none_empty highest nodes s = rw (none_lost nodes s) refl
