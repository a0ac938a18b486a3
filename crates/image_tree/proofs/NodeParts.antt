-- Nodes, copies and committed leaves, where nothing is wrong with them.
use Rattle.std.proofs.Common.{◌≡◌, ◌⊎◌, inl, inr, Bool, true, false, List, [], ◌∷◌, ◌++◌, refl, ap, ◌∙◌, append_assoc, Option, Some, None}
use Rattle.std.specs.Prelude.{All, IfNone, IsSome, cond, map}
use Rattle.std.specs.List.{AllByRecursion, IsDistinct}
use Rattle.std.proofs.lemmas.Bool.{cases_Bool}
use Rattle.std.proofs.lemmas.List.Elements.{All-from_recursion}
use Rattle.ubifs_base.specs.Key.{key_words}
use Rattle.fs_model.specs.declared.change.Change.{Change}
use Rattle.group_nodes.specs.Nodes.{change_of}
use Rattle.index_tree.specs.Distinct.{AreDistinct}
use Rattle.index_tree.specs.Removal.{holds, same_leaf}
use Rattle.index_tree.specs.declared.leaf.Leaf.{Leaf}
use Rattle.leaf_map.specs.Kept.{Placed}
use Rattle.leaf_map.specs.Parts.{Parts}
use Rattle.sound_image.specs.Breaches.{IsCommittedTwice, IsWrongNode}
use Rattle.sound_image.specs.Tree.{IsCopy}
use Rattle.sound_image.specs.Wrong.{IsOneOf, Wrong, differs}
use Rattle.image_check.specs.FirstLaws.{first_of_both, first_same}
use Rattle.image_check.specs.WrongValues.{IsFirstOf, sooner_of}
use Rattle.image_check.specs.declared.wrong_value.WrongValue.{WrongValue}
use Rattle.shown_leaves.specs.FalseNodes.{IsFalseCopy, IsUnchanging, wrong_node}
use Rattle.image_tree.specs.Trees.{HasPartNodes}
use Rattle.image_tree.proofs.Members.{none_wrong, one_more, right_both}

changes_all : (nodes part : List Placed) → ((at : Wrong) → IsUnchanging nodes at → ⊥) → ((x : Placed) → IsOneOf x part → IsOneOf x nodes) → AllByRecursion (λ (x : Placed). IsSome (change_of x.node)) part
changes_all nodes [] none within = tt
changes_all nodes (x ∷ part) none within = (by (change_of x.node) refl, changes_all nodes part none (λ y one. within y (one_more y x part one)))
  where
    by : (c : Option Change) → change_of x.node ≡ c → IsSome c
    by None e = absurd (none (wrong_node x) (x, within x ([], part, refl), e, refl))
    by (Some change) e = search

-- ---- committed leaves
abbrev NoneTwice : List Leaf → Type 0
NoneTwice all = (leaf : Leaf) (before behind : List Leaf) → all ≡ before ++ (leaf ∷ behind) → holds leaf before ≡ true → ⊥

there : (x y : Leaf) (before mid : List Leaf) → same_leaf x y ≡ true → holds y (before ++ (x ∷ mid)) ≡ true
there x y [] mid e = ap (λ (b : Bool). cond b true (holds y mid)) e
there x y (z ∷ before) mid e = by (same_leaf z y) (there x y before mid e)
  where
    by : (b : Bool) → holds y (before ++ (x ∷ mid)) ≡ true → cond b true (holds y (before ++ (x ∷ mid))) ≡ true
    by true h = refl
    by false h = h

others : (all : List Leaf) → NoneTwice all → (before mid rest : List Leaf) (x : Leaf) → all ≡ before ++ (x ∷ (mid ++ rest)) → AllByRecursion (λ y. same_leaf x y ≡ false) rest
others all none before mid [] x parts = tt
others all none before mid (y ∷ rest) x parts =
    (other, others all none before (mid ++ y ∷ []) rest x (parts ∙ (let e : before ++ (x ∷ (mid ++ (y ∷ rest))) ≡ before ++ (x ∷ ((mid ++ y ∷ []) ++ rest)) = simp append_assoc in e)))
  where
    split : all ≡ (before ++ (x ∷ mid)) ++ (y ∷ rest)
    split = parts ∙ (let e : before ++ (x ∷ (mid ++ (y ∷ rest))) ≡ (before ++ (x ∷ mid)) ++ (y ∷ rest) = simp append_assoc in e)

    other : same_leaf x y ≡ false
    other = elim (cases_Bool (same_leaf x y)) [ inl same ↦ absurd (none y (before ++ (x ∷ mid)) rest split (there x y before mid same)) | inr apart ↦ apart ]

distinct_from : (all : List Leaf) → NoneTwice all → (before rest : List Leaf) → all ≡ before ++ rest → IsDistinct same_leaf rest
unfolding IsDistinct
distinct_from all none before [] parts = tt
distinct_from all none before (x ∷ rest) parts =
    (others all none before [] rest x parts, distinct_from all none (before ++ x ∷ []) rest (parts ∙ (let e : before ++ (x ∷ rest) ≡ (before ++ x ∷ []) ++ rest = simp append_assoc in e)))

distinct_all : (parts : Parts) → ((at : Wrong) → IsCommittedTwice parts at → ⊥) → AreDistinct (map (λ x. x.leaf) parts.committed)
distinct_all parts none =
    distinct_from (map (λ x. x.leaf) parts.committed)
    (λ leaf before behind e twice. none (record { lnum = leaf.lnum; offs = leaf.offs; misfit = differs (key_words leaf.key).0 0 }) (leaf, before, behind, e, twice, refl)) [] (map (λ x. x.leaf) parts.committed) refl

-- ---- all of them
pub nodes_first : (parts : Parts) (u c t : Option WrongValue) → ((at : Wrong) → IsWrongNode parts at → IsUnchanging parts.nodes at ⊎ IsFalseCopy parts at) → ((at : Wrong) → IsUnchanging parts.nodes at ⊎ IsFalseCopy parts at → IsWrongNode parts at)
    → IsFirstOf (IsUnchanging parts.nodes) u → IsFirstOf (IsFalseCopy parts) c → IsFirstOf (IsCommittedTwice parts) t → IsFirstOf (λ at. IsWrongNode parts at ⊎ IsCommittedTwice parts at) (sooner_of (sooner_of u c) t)
nodes_first parts u c t of to first_u first_c first_t =
    let node = first_same (λ at. IsUnchanging parts.nodes at ⊎ IsFalseCopy parts at) (IsWrongNode parts) (sooner_of u c) to of (first_of_both (IsUnchanging parts.nodes) (IsFalseCopy parts) u c first_u first_c) in
    first_of_both (IsWrongNode parts) (IsCommittedTwice parts) (sooner_of u c) t node first_t

pub nodes_right : (parts : Parts) (u c t : Option WrongValue) → IsFirstOf (IsUnchanging parts.nodes) u → IfNone c (All (IsCopy parts) parts.copies) → IsFirstOf (IsCommittedTwice parts) t → IfNone (sooner_of (sooner_of u c) t) (HasPartNodes parts)
nodes_right parts u c t first_u copies first_t =
    let U = (at : Wrong) → IsUnchanging parts.nodes at → ⊥ in
    let C = All (IsCopy parts) parts.copies in
    let T = (at : Wrong) → IsCommittedTwice parts at → ⊥ in
    right_both (sooner_of u c) t (U × C) T (HasPartNodes parts)
    (λ h none. record {
      changes = All-from_recursion (λ (x : Placed). IsSome (change_of x.node)) parts.nodes (changes_all parts.nodes parts.nodes h.0 (λ x one. one));
      copies = h.1;
      distinct = distinct_all parts none;
    })
    (right_both u c U C (U × C) (λ none all. (none, all)) (none_wrong (IsUnchanging parts.nodes) u first_u) copies)
    (none_wrong (IsCommittedTwice parts) t first_t)
