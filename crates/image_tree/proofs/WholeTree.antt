-- The parts of the rule on the tree, joined.
use Rattle.std.proofs.Common.{◌⊎◌, inl, inr, ℕ, List, refl, Option}
use Rattle.std.specs.Prelude.{IfNone, []}
use Rattle.media_sys.specs.declared.master.Master.{Master}
use Rattle.leaf_map.specs.Lost.{empty_names}
use Rattle.leaf_map.specs.Parts.{Parts}
use Rattle.leaf_map.specs.Recovered.{leaves_found, recovered_of, tree_found}
use Rattle.leaf_recovery.specs.Repeated.{repeated_leaves}
use Rattle.sound_image.specs.Breaches.{IsCommittedTwice, IsRepeated, IsWrongInTree, IsWrongNode}
use Rattle.sound_image.specs.Tree.{HasTree}
use Rattle.sound_image.specs.Wrong.{Wrong}
use Rattle.image_check.specs.FirstLaws.{first_of_both, first_same}
use Rattle.image_check.specs.WrongValues.{IsFirstOf, sooner_of}
use Rattle.image_check.specs.declared.wrong_value.WrongValue.{WrongValue}
use Rattle.image_tree.specs.Trees.{AreWellPlaced, HasPartNodes, IsNamedIn, IsWrongPlaced}
use Rattle.image_tree.proofs.Members.{IsAtOne, none_wrong, right_both}
use Rattle.image_tree.proofs.NamedLeaves.{no_empty, wrong_empty, wrong_named}
use Rattle.image_tree.proofs.RepeatedLeaves.{all_apart, repeated, repeats}

module _ (contents : ℕ → List ℕ) (master : Master) (parts : Parts) where
  abbrev root : ℕ × ℕ
  root = (master.root_lnum, master.root_offs)

  abbrev Nodes : Wrong → Type 0
  Nodes at = IsWrongNode parts at ⊎ IsCommittedTwice parts at

  abbrev Repeated : Wrong → Type 0
  Repeated at = IsNamedIn (repeated_leaves (leaves_found parts)) at

  abbrev Empty : Wrong → Type 0
  Empty at = IsAtOne wrong_empty (empty_names parts) at

  abbrev Placed : Wrong → Type 0
  Placed at = IsWrongPlaced contents (recovered_of parts).kept (tree_found parts) root at

  repeated_to : (at : Wrong) → Repeated at → IsRepeated parts at
  repeated_to at (x, one, e) = let (before, behind, split, any) = repeats [] (leaves_found parts) x one in (x, before, behind, split, any, e)

  repeated_from : (at : Wrong) → IsRepeated parts at → Repeated at
  repeated_from at (x, before, behind, split, any, e) = (x, repeated [] (leaves_found parts) before behind x split any, e)

  to : (at : Wrong) → (Nodes at ⊎ (Repeated at ⊎ Empty at)) ⊎ Placed at → IsWrongInTree contents master parts at
  to at (inl (inl (inl node))) = inl node
  to at (inl (inl (inr twice))) = inr (inl twice)
  to at (inl (inr (inl again))) = inr (inr (inl (repeated_to at again)))
  to at (inl (inr (inr empty))) = inr (inr (inr (inr (inl empty))))
  to at (inr (inl (x, one, (unlike, e)))) = inr (inr (inr (inl (x, one, e, inl unlike))))
  to at (inr (inr (inl (x, one, out, e)))) = inr (inr (inr (inl (x, one, e, inr out))))
  to at (inr (inr (inr missing))) = inr (inr (inr (inr (inr missing))))

  from : (at : Wrong) → IsWrongInTree contents master parts at → (Nodes at ⊎ (Repeated at ⊎ Empty at)) ⊎ Placed at
  from at (inl node) = inl (inl (inl node))
  from at (inr (inl twice)) = inl (inl (inr twice))
  from at (inr (inr (inl again))) = inl (inr (inl (repeated_from at again)))
  from at (inr (inr (inr (inl (x, one, e, inl unlike))))) = inr (inl (x, one, (unlike, e)))
  from at (inr (inr (inr (inl (x, one, e, inr out))))) = inr (inr (inl (x, one, out, e)))
  from at (inr (inr (inr (inr (inl empty))))) = inl (inr (inr empty))
  from at (inr (inr (inr (inr (inr missing))))) = inr (inr (inr missing))

  pub tree_first : (n r e k : Option WrongValue) → IsFirstOf Nodes n → IsFirstOf Repeated r → IsFirstOf Empty e → IsFirstOf Placed k → IsFirstOf (IsWrongInTree contents master parts) (sooner_of (sooner_of n (sooner_of r e)) k)
  tree_first n r e k first_n first_r first_e first_k =
      first_same (λ at. (Nodes at ⊎ (Repeated at ⊎ Empty at)) ⊎ Placed at) (IsWrongInTree contents master parts) (sooner_of (sooner_of n (sooner_of r e)) k) to from
      (first_of_both (λ at. Nodes at ⊎ (Repeated at ⊎ Empty at)) Placed (sooner_of n (sooner_of r e)) k
      (first_of_both Nodes (λ at. Repeated at ⊎ Empty at) n (sooner_of r e) first_n (first_of_both Repeated Empty r e first_r first_e)) first_k)

  pub tree_right : (n r e k : Option WrongValue) → IfNone n (HasPartNodes parts) → IsFirstOf Repeated r → IsFirstOf Empty e → IfNone k (AreWellPlaced contents (recovered_of parts).kept (tree_found parts))
      → IfNone (sooner_of (sooner_of n (sooner_of r e)) k) (HasTree contents parts)
  tree_right n r e k nodes first_r first_e placed =
      let N = HasPartNodes parts in
      let R = (at : Wrong) → Repeated at → ⊥ in
      let E = (at : Wrong) → Empty at → ⊥ in
      let K = AreWellPlaced contents (recovered_of parts).kept (tree_found parts) in
      right_both (sooner_of n (sooner_of r e)) k (N × (R × E)) K (HasTree contents parts)
      (λ h well. record {
        changes = h.0.changes;
        copies = h.0.copies;
        distinct = h.0.distinct;
        named = no_empty (empty_names parts) h.1.1;
        found = all_apart (leaves_found parts) (λ x before behind split any. h.1.0 (wrong_named x) (x, repeated [] (leaves_found parts) before behind x split any, refl)) [] (leaves_found parts) refl;
        shown = well.shown;
        apart = well.in_place.apart;
        root = well.in_place.root;
        entries = well.in_place.entries;
        dirs = well.in_place.dirs;
      })
      (right_both n (sooner_of r e) N (R × E) (N × (R × E)) (λ a b. (a, b)) nodes (right_both r e R E (R × E) (λ a b. (a, b)) (none_wrong Repeated r first_r) (none_wrong Empty e first_e)))
      placed
