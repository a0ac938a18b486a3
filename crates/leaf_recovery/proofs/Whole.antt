-- What is told of what was read gives what recovery makes of it.
use Rattle.std.proofs.Common.{◌≡◌, inl, inr, ℕ, Bool, true, false, cond, not, ◌&&◌, List, [], ◌∷◌, map, refl, sym, ap, subst, ◌∙◌, Some}
use Rattle.std.specs.Prelude.{filter, fold, nat_lt}
use Rattle.std.specs.List.{AllByRecursion, list_any}
use Rattle.std.proofs.lemmas.List.Elements.{filter_agree}
use Rattle.media_leaf.specs.LeafNode.{IsLeaf}
use Rattle.media_sys.specs.declared.ref_node.RefNode.{RefNode}
use Rattle.leaf_map.specs.Kept.{Kept, Placed}
use Rattle.leaf_map.specs.Lost.{empty_names, have_same_name, is_read_name, is_renamed, lost_leaves, missing_leaves, unnamed}
use Rattle.leaf_map.specs.Parts.{Committed, Named, Parts, is_linked_unknown, shows_nothing}
use Rattle.leaf_map.specs.Recovered.{found_leaves, nodes_in_order, is_original, leaves_after, leaves_found, leaves_left, listed_left, placed_node, recovered_of}
use Rattle.journal_scan.specs.Content.{told}
use Rattle.journal_scan.specs.declared.journal_node.JournalNode.{JournalNode}
use Rattle.log_replay.specs.Replay.{told_committed}
use Rattle.log_replay.specs.Settling.{HasGrammar}
use Rattle.log_replay.specs.declared.committed_leaf.CommittedLeaf.{CommittedLeaf}
use Rattle.leaf_recovery.specs.declared.recovered_leaf.RecoveredLeaf.{RecoveredLeaf}
use Rattle.leaf_recovery.specs.declared.recovered_leaf.RecoveredLeaves.{RecoveredLeaves}
use Rattle.leaf_recovery.specs.Applied.{is_spared_by, kept_after_told, leaves_left_told, listed_left_told}
use Rattle.leaf_recovery.specs.Found.{spare_copies_told}
use Rattle.leaf_recovery.specs.Lost.{lost_leaf_told, spare_names_told}
use Rattle.leaf_recovery.specs.Named.{named_by_reference}
use Rattle.leaf_recovery.specs.Recovery.{empty_names_told, leaves_found_told, lost_told, missing_told, recovered_told, repeated_told}
use Rattle.leaf_recovery.specs.Repeated.{repeated_leaves}
use Rattle.leaf_recovery.specs.Told.{AreTold, AreLeavesTold, IsAtLeaf, IsOneNode, WasRead, IsRecoveredFrom, IsLeafTold, Pairwise}
use Rattle.leaf_recovery.proofs.AppliedTold.{nodes_pairs, orphans_pairs}
use Rattle.leaf_recovery.proofs.FoundTold.{found_all, spare_all}
use Rattle.leaf_recovery.proofs.LostTold.{LostTold, any_spared, empty_names_is, lost_all, lost_kept, names_pairs, unnamed_is}
use Rattle.leaf_recovery.proofs.MovedTold.{moved_pairs}
use Rattle.leaf_recovery.proofs.Pairs.{told_pairs, weaker_pairs}
use Rattle.leaf_recovery.proofs.RepeatedTold.{repeated_pairs}
use Rattle.leaf_recovery.proofs.Telling.{KeptTold, LeafTold, NodeTold}

-- ---- what was read
all_more : {A : Type 0} (P Q : A → Type 0) → ((x : A) → P x → Q x) → (xs : List A) → AllByRecursion P xs → AllByRecursion Q xs
all_more P Q f [] h = tt
all_more P Q f (x ∷ xs) h = (f x h.0, all_more P Q f xs h.1)

all_both : {A : Type 0} (P Q : A → Type 0) (xs : List A) → AllByRecursion P xs → AllByRecursion Q xs → AllByRecursion (λ x. P x × Q x) xs
all_both P Q [] h k = tt
all_both P Q (x ∷ xs) h k = ((h.0, k.0), all_both P Q xs h.1 k.1)

each_one : (xs : List Placed) → AllByRecursion (λ p. IsOneNode p xs) xs
each_one [] = tt
each_one (x ∷ xs) = (inl refl, all_more (λ p. IsOneNode p xs) (λ p. IsOneNode p (x ∷ xs)) (λ p h. inr h) xs (each_one xs))

-- what stands at a leaf's place was read
abbrev Reads : (Placed → Type 0) → Committed → Type 0
Reads P c = (p : Placed) → c.found ≡ Some p → P p

each_leaf : (cs : List Committed) → AllByRecursion (Reads (λ p. IsAtLeaf p cs)) cs
each_leaf [] = tt
each_leaf (c ∷ cs) = (λ p e. inl e, all_more (Reads (λ p. IsAtLeaf p cs)) (Reads (λ p. IsAtLeaf p (c ∷ cs))) (λ d h p e. inr (h p e)) cs (each_leaf cs))

put_all : (P : Placed → Type 0) (xs : List Placed) (new : Placed) → AllByRecursion P xs → P new → AllByRecursion P (placed_node xs new)
put_all P [] new h n = (n, tt)
put_all P (x ∷ xs) new h n = by (nat_lt new.sqnum x.sqnum) (put_all P xs new h.1 n)
  where
    by : (b : Bool) → AllByRecursion P (placed_node xs new) → AllByRecursion P (cond b (new ∷ x ∷ xs) (x ∷ placed_node xs new))
    by true more = (n, h)
    by false more = (h.0, more)

order_all : (P : Placed → Type 0) (xs ys : List Placed) → AllByRecursion P ys → AllByRecursion P xs → AllByRecursion P (fold placed_node xs ys)
order_all P xs [] h k = k
order_all P xs (y ∷ ys) h k = order_all P (placed_node xs y) ys h.1 (put_all P xs y k h.0)

module _ (parts : Parts) (ls : List CommittedLeaf) (references : List RefNode) (ns cs : List JournalNode) (listed : List ℕ) (is : AreTold parts ls references ns cs listed) where
  -- of the grammar, and read
  abbrev IsGood : Placed → Type 0
  IsGood p = IsLeaf p.node × WasRead parts p

  told_good : (p : Placed) → IsGood p → NodeTold parts p (told p)
  told_good p h = record { is = refl; leaf = h.0; read = h.1 }

  pub nodes : Pairwise (NodeTold parts) (nodes_in_order parts.nodes) ns
  nodes =
      subst (Pairwise (NodeTold parts) (nodes_in_order parts.nodes)) (sym is.of_nodes)
      (told_pairs (NodeTold parts) IsGood told told_good (nodes_in_order parts.nodes)
      (order_all IsGood [] parts.nodes (all_both (λ p. IsLeaf p.node) (WasRead parts) parts.nodes is.node_nodes (all_more (λ p. IsOneNode p parts.nodes) (WasRead parts) (λ p h. inr (inl h)) parts.nodes (each_one parts.nodes))) tt))

  pub copies : Pairwise (NodeTold parts) parts.copies cs
  copies =
      subst (Pairwise (NodeTold parts) parts.copies) (sym is.of_copies)
      (told_pairs (NodeTold parts) IsGood told told_good parts.copies
      (all_both (λ p. IsLeaf p.node) (WasRead parts) parts.copies is.copy_nodes (all_more (λ p. IsOneNode p parts.copies) (WasRead parts) (λ p h. inr (inr h)) parts.copies (each_one parts.copies))))

  pub leaves : Pairwise (LeafTold parts) parts.committed ls
  leaves =
      subst (Pairwise (LeafTold parts) parts.committed) (sym is.of_leaves)
      (told_pairs (LeafTold parts) (λ c. HasGrammar c × Reads (WasRead parts) c) told_committed (λ c h. record { is = refl; grammar = h.0; read = h.1 }) parts.committed
      (all_both HasGrammar (Reads (WasRead parts)) parts.committed is.leaf_nodes (all_more (Reads (λ p. IsAtLeaf p parts.committed)) (Reads (WasRead parts)) (λ c h p e. inl (h p e)) parts.committed (each_leaf parts.committed))))

  -- ---- the steps
  abbrev pub refs : List Named
  refs = map named_by_reference references

  -- the copies of what no own node shows, where these are named
  abbrev spare_of : List Named → List Placed
  spare_of named = filter (λ c. not (list_any (is_original named c) parts.committed)) parts.copies

  spare : Pairwise (NodeTold parts) (spare_of refs) (spare_copies_told references ls cs)
  spare = spare_all parts references parts.committed ls parts.copies cs leaves copies

  found : Pairwise (KeptTold parts) (leaves_found parts) (leaves_found_told references ls cs)
  found =
      subst (λ (n : List Named). Pairwise (KeptTold parts) (found_leaves n (spare_of n) parts.committed) (leaves_found_told references ls cs)) (sym is.of_references)
      (found_all parts references parts.committed ls (spare_of refs) (spare_copies_told references ls cs) leaves spare)

  -- the listed inodes that may go
  bare : listed_left parts ≡ listed_left_told references ls listed
  bare =
      ap (λ (n : List Named). filter (λ ino. not (list_any (is_linked_unknown n ino) parts.committed)) parts.listed) is.of_references
      ∙ filter_agree (λ ino. not (list_any (is_linked_unknown refs ino) parts.committed)) (λ ino. not (list_any (is_spared_by references ino) ls)) (λ ino. ap not (any_spared parts references ino parts.committed ls leaves)) parts.listed
      ∙ ap (listed_left_told references ls) is.of_list

  left : Pairwise (KeptTold parts) (leaves_left parts) (leaves_left_told (leaves_found_told references ls cs) ns (listed_left_told references ls listed))
  left =
      subst (λ (l : List ℕ). Pairwise (KeptTold parts) (leaves_left parts) (leaves_left_told (leaves_found_told references ls cs) ns l)) bare
      (orphans_pairs parts (listed_left parts) (leaves_after (leaves_found parts) (nodes_in_order parts.nodes)) (fold kept_after_told (leaves_found_told references ls cs) ns)
      (nodes_pairs parts (nodes_in_order parts.nodes) ns nodes (leaves_found parts) (leaves_found_told references ls cs) found))

  kept : Pairwise (KeptTold parts) (recovered_of parts).kept (recovered_told references ls ns cs listed)
  kept = moved_pairs parts references is.of_references cs copies (leaves_left parts) (leaves_left_told (leaves_found_told references ls cs) ns (listed_left_told references ls listed)) left

  repeated : Pairwise (KeptTold parts) (repeated_leaves (leaves_found parts)) (repeated_told references ls cs)
  repeated = repeated_pairs parts [] [] tt (leaves_found parts) (leaves_found_told references ls cs) found

  -- ---- what is lost
  lost : Pairwise (LeafTold parts) (lost_leaves refs (spare_of refs) parts.committed) (lost_told references ls cs)
  lost = lost_all parts references parts.committed ls (spare_of refs) (spare_copies_told references ls cs) leaves spare

  lost_pairs : Pairwise (LostTold refs (nodes_in_order parts.nodes)) (lost_leaves refs (spare_of refs) parts.committed) (map (lost_leaf_told references ns) (lost_told references ls cs))
  lost_pairs = lost_kept parts references (nodes_in_order parts.nodes) ns nodes (lost_leaves refs (spare_of refs) parts.committed) (lost_told references ls cs) lost

  -- the nodes that may stand for names, where these are named
  abbrev names_of : List Named → List Placed
  names_of named = filter (λ y. not (is_read_name named parts.committed y) && not (list_any (λ k. have_same_name k.node y.node) (leaves_found parts))) (nodes_in_order parts.nodes)

  names : Pairwise (NodeTold parts) (names_of refs) (spare_names_told references ls (leaves_found_told references ls cs) ns)
  names = names_pairs parts references (nodes_in_order parts.nodes) ns nodes parts.committed ls leaves (leaves_found parts) (leaves_found_told references ls cs) found

  missing : missing_told references ls ns cs ≡ missing_leaves parts
  missing =
      unnamed_is parts references (nodes_in_order parts.nodes) ns nodes (lost_leaves refs (spare_of refs) parts.committed) (map (lost_leaf_told references ns) (lost_told references ls cs)) lost_pairs
      (names_of refs) (spare_names_told references ls (leaves_found_told references ls cs) ns) names
      ∙ ap (λ (n : List Named). unnamed n (names_of n) (lost_leaves n (spare_of n) parts.committed)) (sym is.of_references)

  empty : empty_names_told references ls ns cs ≡ empty_names parts
  empty =
      empty_names_is parts references (nodes_in_order parts.nodes) ns nodes (lost_leaves refs (spare_of refs) parts.committed) (map (lost_leaf_told references ns) (lost_told references ls cs)) lost_pairs
      ∙ ap (λ (n : List Named). map (λ (x : Committed). x.leaf) (filter (λ x. shows_nothing n x && not (is_renamed (nodes_in_order parts.nodes) x)) (lost_leaves n (spare_of n) parts.committed))) (sym is.of_references)

  told_of : (xs : List Kept) (rs : List RecoveredLeaf) → Pairwise (KeptTold parts) xs rs → AreLeavesTold parts xs rs
  told_of xs rs h = weaker_pairs (KeptTold parts) (IsLeafTold parts) (λ x r t. t.told) xs rs h

  pub whole : (made : RecoveredLeaves) → made.kept.items ≡ recovered_told references ls ns cs listed → made.missing.items ≡ missing_told references ls ns cs → made.empty.items ≡ empty_names_told references ls ns cs
      → made.repeated.items ≡ repeated_told references ls cs → IsRecoveredFrom parts made
  whole made k m e r = record {
    kept = subst (AreLeavesTold parts (recovered_of parts).kept) (sym k) (told_of (recovered_of parts).kept (recovered_told references ls ns cs listed) kept);
    missing = m ∙ missing;
    empty = e ∙ empty;
    repeated = subst (AreLeavesTold parts (repeated_leaves (leaves_found parts))) (sym r) (told_of (repeated_leaves (leaves_found parts)) (repeated_told references ls cs) repeated);
  }
