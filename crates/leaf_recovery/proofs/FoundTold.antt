-- What is told of the committed leaves and of the copies gives what is found.
use Rattle.std.proofs.Common.{◌≡◌, Bool, true, false, not, ◌&&◌, List, [], ◌∷◌, ◌++◌, map, refl, sym, ap, subst, ◌∙◌, Option, Some, None}
use Rattle.std.specs.Prelude.{◌==◌, filter, is_some}
use Rattle.std.specs.List.{cons_option, list_any}
use Rattle.std.specs.Option.{option_map}
use Rattle.ubifs_base.specs.declared.key.Key.{Key}
use Rattle.ubifs_base.specs.declared.key.Key.TheVariants.{Ino, Block, Dent, Xent}
use Rattle.media_leaf.specs.LeafNode.{LeafNode, IsLeaf}
use Rattle.media_sys.specs.declared.ref_node.RefNode.{RefNode}
use Rattle.index_tree.specs.declared.leaf.Leaf.{Leaf}
use Rattle.index_tree.specs.Order.{leaf_rank}
use Rattle.fs_model.specs.Path.{is_empty}
use Rattle.leaf_map.specs.Kept.{Kept, Placed, kept_at, shown}
use Rattle.leaf_map.specs.LeafMap.{shows_same}
use Rattle.leaf_map.specs.Parts.{Committed, Named, Parts, is_own, own_node}
use Rattle.leaf_map.specs.Recovered.{copies_left, copy_of_key, found_leaves, is_original, leaf_found_for, stand_in}
use Rattle.journal_scan.specs.Content.{told}
use Rattle.journal_scan.specs.declared.journal_node.JournalNode.{JournalNode}
use Rattle.log_replay.specs.Replay.{told_committed}
use Rattle.log_replay.specs.Settling.{HasGrammar}
use Rattle.log_replay.specs.declared.committed_leaf.CommittedLeaf.{CommittedLeaf}
use Rattle.leaf_recovery.specs.Found.{copies_left_told, copy_of_key_told, found_leaves_told, is_original_told, leaf_at_copy, leaf_found_told, left_behind, own_node_told, spare_copies_told, unread_leaf}
use Rattle.leaf_recovery.specs.Named.{named_by_reference}
use Rattle.leaf_recovery.specs.Things.{leaf_told, shows_told}
use Rattle.leaf_recovery.specs.Told.{Pairwise}
use Rattle.leaf_recovery.proofs.Pairs.{IfBoth, any_pairs, cons_pairs, filter_pairs, find_pairs}
use Rattle.leaf_recovery.proofs.Rough.{shown_of}
use Rattle.leaf_recovery.proofs.Telling.{KeptTold, LeafTold, NodeTold, kept_node, kept_there, node_leaf, node_shows, own_is, own_pair, same_shown}

-- ---- the definitions, with what there is in place of lists
-- what is found of a leaf at a copy, if there is one
abbrev pub found_copy : Leaf → Option Placed → Option Kept
found_copy leaf None = option_map (λ node. record { leaf = leaf; sqnum = 0; node = node }) (stand_in leaf.key)
found_copy leaf (Some copy) = Some (kept_at copy)

-- what is found of a leaf
abbrev pub leaf_found : List Placed → Committed → Option Placed → Option Kept
leaf_found copies x (Some own) = Some (record { leaf = x.leaf; sqnum = own.sqnum; node = own.node })
leaf_found copies x None = found_copy x.leaf (copy_of_key x.leaf copies)

-- the copies that are left where this one was given to a leaf
abbrev pub left_after : Option Placed → List Placed → List Placed
left_after None copies = copies
left_after (Some copy) copies = filter (λ c. not (shows_same (shown copy.node) (shown c.node))) copies

found_is : (copies : List Placed) (x : Committed) (own : Option Placed) (rest : List Kept) → leaf_found_for copies x own ++ rest ≡ cons_option (leaf_found copies x own) rest
found_is copies x (Some own) rest = refl
found_is copies x None rest = by (copy_of_key x.leaf copies) refl
  where
    unread : copy_of_key x.leaf copies ≡ None → (s : Option LeafNode) → stand_in x.leaf.key ≡ s → leaf_found_for copies x None ++ rest ≡ cons_option (leaf_found copies x None) rest
    unread e None f = rw (e, f) refl
    unread e (Some node) f = rw (e, f) refl

    by : (d : Option Placed) → copy_of_key x.leaf copies ≡ d → leaf_found_for copies x None ++ rest ≡ cons_option (leaf_found copies x None) rest
    by None e = unread e (stand_in x.leaf.key) refl
    by (Some d) e = rw e refl

pub empty_is : (copies : List Placed) (x : Committed) (own : Option Placed) → is_empty (leaf_found_for copies x own) ≡ not (is_some (leaf_found copies x own))
empty_is copies x (Some own) = refl
empty_is copies x None = by (copy_of_key x.leaf copies) refl
  where
    unread : copy_of_key x.leaf copies ≡ None → (s : Option LeafNode) → stand_in x.leaf.key ≡ s → is_empty (leaf_found_for copies x None) ≡ not (is_some (leaf_found copies x None))
    unread e None f = rw (e, f) refl
    unread e (Some node) f = rw (e, f) refl

    by : (d : Option Placed) → copy_of_key x.leaf copies ≡ d → is_empty (leaf_found_for copies x None) ≡ not (is_some (leaf_found copies x None))
    by None e = unread e (stand_in x.leaf.key) refl
    by (Some d) e = rw e refl

left_is : (copies : List Placed) (x : Committed) → copies_left copies x None ≡ left_after (copy_of_key x.leaf copies) copies
left_is copies x = by (copy_of_key x.leaf copies) refl
  where
    by : (d : Option Placed) → copy_of_key x.leaf copies ≡ d → copies_left copies x None ≡ left_after (copy_of_key x.leaf copies) copies
    by None e = rw e refl
    by (Some d) e = rw e refl

-- ---- what stands for a node that nobody can read
unread_pair : (parts : Parts) (leaf : Leaf) → IfBoth (KeptTold parts) (found_copy leaf None) (unread_leaf leaf)
unread_pair parts leaf = by leaf.key refl
  where
    by : (k : Key) → leaf.key ≡ k → IfBoth (KeptTold parts) (found_copy leaf None) (unread_leaf leaf)
    by (Ino ino) e = rw e (record { told = record { leaf = refl; content = refl; sqnum = refl; source = refl }; shows = refl })
    by (Block ino number) e = rw e (record { told = record { leaf = refl; content = refl; sqnum = refl; source = refl }; shows = refl })
    by (Dent dir hash) e = rw e tt
    by (Xent ino hash) e = rw e tt

module _ (parts : Parts) (references : List RefNode) where
  abbrev pub named : List Named
  named = map named_by_reference references

  -- ---- one leaf
  copy_pair : (leaf : Leaf) (o : Option Placed) (p : Option JournalNode) → IfBoth (NodeTold parts) o p → IfBoth (KeptTold parts) (found_copy leaf o) (leaf_at_copy leaf p)
  copy_pair leaf None None h = unread_pair parts leaf
  copy_pair leaf None (Some j) h = absurd h
  copy_pair leaf (Some c) None h = absurd h
  copy_pair leaf (Some c) (Some j) h = kept_there parts c j h

  key_pair : (leaf : Leaf) (cs : List Placed) (js : List JournalNode) → Pairwise (NodeTold parts) cs js → IfBoth (NodeTold parts) (copy_of_key leaf cs) (copy_of_key_told leaf js)
  key_pair leaf cs js h =
      find_pairs (NodeTold parts) (λ c. leaf_rank (kept_at c).leaf == leaf_rank leaf) (λ j. leaf_rank (leaf_told j) == leaf_rank leaf)
      (λ c j t. ap (λ (l : Leaf). leaf_rank l == leaf_rank leaf) (sym (node_leaf parts c j t))) cs js h

  pub found_pair : (x : Committed) (own : Option Placed) (own' : Option JournalNode) (cs : List Placed) (js : List JournalNode) → IfBoth (NodeTold parts) own own' → Pairwise (NodeTold parts) cs js
      → IfBoth (KeptTold parts) (leaf_found cs x own) (leaf_found_told js (told_committed x) own')
  found_pair x None None cs js o h = copy_pair x.leaf (copy_of_key x.leaf cs) (copy_of_key_told x.leaf js) (key_pair x.leaf cs js h)
  found_pair x None (Some j) cs js o h = absurd o
  found_pair x (Some p) None cs js o h = absurd o
  found_pair x (Some p) (Some j) cs js o h = kept_node parts p j x.leaf o

  behind_pair : (o : Option Placed) (p : Option JournalNode) (cs : List Placed) (js : List JournalNode) → IfBoth (NodeTold parts) o p → Pairwise (NodeTold parts) cs js → Pairwise (NodeTold parts) (left_after o cs) (left_behind p js)
  behind_pair None None cs js o h = h
  behind_pair None (Some j) cs js o h = absurd o
  behind_pair (Some c) None cs js o h = absurd o
  behind_pair (Some c) (Some j) cs js o h =
      filter_pairs (NodeTold parts) (λ d. not (shows_same (shown c.node) (shown d.node))) (λ k. not (shows_told j.content k.content))
      (λ d k t. ap not (sym (same_shown j.content k.content (shown c.node) (shown d.node) (node_shows parts c j o) (node_shows parts d k t)))) cs js h

  pub left_pair : (x : Committed) (own : Option Placed) (own' : Option JournalNode) (cs : List Placed) (js : List JournalNode) → IfBoth (NodeTold parts) own own' → Pairwise (NodeTold parts) cs js
      → Pairwise (NodeTold parts) (copies_left cs x own) (copies_left_told js (told_committed x) own')
  left_pair x None None cs js o h =
      subst (λ (zs : List Placed). Pairwise (NodeTold parts) zs (copies_left_told js (told_committed x) None)) (sym (left_is cs x))
      (behind_pair (copy_of_key x.leaf cs) (copy_of_key_told x.leaf js) cs js (key_pair x.leaf cs js h) h)
  left_pair x None (Some j) cs js o h = absurd o
  left_pair x (Some p) None cs js o h = absurd o
  left_pair x (Some p) (Some j) cs js o h = h

  -- ---- all leaves
  pub found_all : (xs : List Committed) (ls : List CommittedLeaf) (cs : List Placed) (js : List JournalNode) → Pairwise (LeafTold parts) xs ls → Pairwise (NodeTold parts) cs js
      → Pairwise (KeptTold parts) (found_leaves named cs xs) (found_leaves_told references js ls)
  found_all [] [] cs js l h = tt
  found_all [] (k ∷ ls) cs js l h = absurd l
  found_all (x ∷ xs) [] cs js l h = absurd l
  found_all (x ∷ xs) (k ∷ ls) cs js l h =
      subst (λ (z : CommittedLeaf). Pairwise (KeptTold parts) (found_leaves named cs (x ∷ xs)) (found_leaves_told references js (z ∷ ls))) (sym l.0.is)
      (step (own_node named x) (own_node_told references (told_committed x)) (own_pair parts references x l.0.grammar l.0.read) (found_all xs ls))
    where
      step : (own : Option Placed) (own' : Option JournalNode) → IfBoth (NodeTold parts) own own'
          → ((ds : List Placed) (ks : List JournalNode) → Pairwise (LeafTold parts) xs ls → Pairwise (NodeTold parts) ds ks → Pairwise (KeptTold parts) (found_leaves named ds xs) (found_leaves_told references ks ls))
          → Pairwise (KeptTold parts) (leaf_found_for cs x own ++ found_leaves named (copies_left cs x own) xs)
          (cons_option (leaf_found_told js (told_committed x) own') (found_leaves_told references (copies_left_told js (told_committed x) own') ls))
      step own own' o more =
          let rest = found_leaves named (copies_left cs x own) xs in
          let rest' = found_leaves_told references (copies_left_told js (told_committed x) own') ls in
          subst (λ (zs : List Kept). Pairwise (KeptTold parts) zs (cons_option (leaf_found_told js (told_committed x) own') rest')) (sym (found_is cs x own rest))
          (cons_pairs (KeptTold parts) (leaf_found cs x own) (leaf_found_told js (told_committed x) own') rest rest' (found_pair x own own' cs js o h)
          (more (copies_left cs x own) (copies_left_told js (told_committed x) own') l.1 (left_pair x own own' cs js o h)))

  -- ---- the copies of what no own node shows
  and_true : (s : Bool) → s && true ≡ s
  and_true true = refl
  and_true false = refl

  and_false : (s : Bool) → s && false ≡ false
  and_false true = refl
  and_false false = refl

  original_is : (c : Placed) (j : JournalNode) (x : Committed) (k : CommittedLeaf) → NodeTold parts c j → LeafTold parts x k → is_original named c x ≡ is_original_told references j k
  original_is c j x k t l = subst (λ (z : CommittedLeaf). is_original named c x ≡ is_original_told references j z) (sym l.is) (by x.found l.grammar)
    where
      test : (p : Placed) → IsLeaf p.node → (b : Bool) → is_own named x.leaf p ≡ b → is_original named c (record { leaf = x.leaf; found = Some p }) ≡ shows_told (told p).content j.content && b
      test p h true e = rw e (sym (same_shown (told p).content j.content (shown p.node) (shown c.node) (shown_of p.node h) (node_shows parts c j t)) ∙ sym (and_true (shows_told (told p).content j.content)))
      test p h false e = rw e (sym (and_false (shows_told (told p).content j.content)))

      by : (found : Option Placed) → HasGrammar (record { leaf = x.leaf; found = found }) → is_original named c (record { leaf = x.leaf; found = found }) ≡ is_original_told references j (told_committed (record { leaf = x.leaf; found = found }))
      by None g = refl
      by (Some p) g = test p g (is_own named x.leaf p) refl ∙ ap (λ (b : Bool). shows_told (told p).content j.content && b) (sym (own_is references x.leaf p g))

  pub spare_all : (xs : List Committed) (ls : List CommittedLeaf) (cs : List Placed) (js : List JournalNode) → Pairwise (LeafTold parts) xs ls → Pairwise (NodeTold parts) cs js
      → Pairwise (NodeTold parts) (filter (λ c. not (list_any (is_original named c) xs)) cs) (spare_copies_told references ls js)
  spare_all xs ls cs js l h =
      filter_pairs (NodeTold parts) (λ c. not (list_any (is_original named c) xs)) (λ j. not (list_any (is_original_told references j) ls))
      (λ c j t. ap not (any_pairs (LeafTold parts) (is_original named c) (is_original_told references j) (λ x k m. original_is c j x k t m) xs ls l)) cs js h
