-- What fits a view loses no committed leaf.
use Rattle.std.proofs.Common.{◌≡◌, ◌⊎◌, ℕ, Bool, true, false, cond, not, ◌&&◌, List, [], ◌∷◌, refl, sym, subst, ap, ◌∙◌, inl, inr, Option, Some, None}
use Rattle.std.specs.Prelude.{◌==◌, get_or, is_some}
use Rattle.std.specs.List.{AllByRecursion, list_any}
use Rattle.std.specs.Option.{option_map}
use Rattle.std.proofs.lemmas.Bool.{false≢true}
use Rattle.media_leaf.specs.LeafNode.{IsLeaf, LeafNode}
use Rattle.index_tree.specs.Removal.{same_leaf}
use Rattle.fs_model.specs.declared.change.Change.{Change}
use Rattle.fs_model.specs.declared.change.Change.TheVariants.{SetInode, SetBlock}
use Rattle.fs_model.specs.Files.{Tree, inode_at}
use Rattle.fs_model.specs.Orphan.{is_nameless}
use Rattle.fs_model.specs.Proper.{IsInOrder}
use Rattle.fs_model.specs.Recovery.{KeepsSynced, taken}
use Rattle.leaf_map.specs.After.{is_gone}
use Rattle.leaf_map.specs.Allowed.{AreReadLeaves, FitsLeaves, HasInode, IsNodeCopied, IsNodeOfLeaves, IsOfForgotten, IsOwnNode, IsSafe, IsTouchedIn, in_turn, sets_inode}
use Rattle.leaf_map.specs.Kept.{Kept, Placed, kept_at, shown, shown_by}
use Rattle.leaf_map.specs.LeafMap.{IsKeyed, IsLeafMap}
use Rattle.leaf_map.specs.Parts.{Committed, Named, Parts, in_bud, is_shown, own_node, shows_nothing}
use Rattle.leaf_map.specs.Recovered.{committed_highest}
use Rattle.leaf_map.specs.Shown.{tree_of}
use Rattle.store_model.specs.Fits.{AreLeavesCommitted, AreLeavesLeft, AreOfListed, AreOwn, Faced, FitsFaced, HasOwn, HasOwnOrNone, IsLeafLeft, IsOfNameless, IsOneOfLists, is_of_listed}
use Rattle.store_model.specs.Heads.{copies_of, heads_of}
use Rattle.store_model.specs.Invariant.{HasCommittedView, IsCopyOf}
use Rattle.store_model.specs.Lebs.{is_among}
use Rattle.store_model.specs.Recovery.{read_changes}
use Rattle.store_model.proofs.RecoveryCopies.{all_taken, copied, either_of, keyed_shown, number_turned}
use Rattle.store_model.proofs.RecoveryOrder.{all_in_turn, any_in_turn, or_left, or_right}

-- ---- what was read of the leaves
node_or : LeafNode → Option Placed → LeafNode
node_or node None = node
node_or node (Some found) = found.node

-- what has its own node shows something
own_shows : (named : List Named) (c : Committed) (own : Placed) → own_node named c ≡ Some own → shows_nothing named c ≡ false
own_shows named c own e = by c.found e
  where
    test : (found : Placed) (b s l : Bool) → cond ((not b && s) && l) (Some found) None ≡ Some own → (not b && (not s && l)) ≡ false
    test found true s l f = refl
    test found false true l f = refl
    test found false false l f = absurd cc

    by : (found : Option Placed) → own_node named (record { leaf = c.leaf; found = found }) ≡ Some own → shows_nothing named (record { leaf = c.leaf; found = found }) ≡ false
    by None f = absurd cc
    by (Some found) f = test found (in_bud named c.leaf) (is_shown (shown found.node)) (same_leaf c.leaf (kept_at found).leaf) f

read_leaves : (parts : Parts) (committed : List Committed) (kept : List Kept) → AreLeavesCommitted parts.named committed kept → AreReadLeaves parts kept committed
unfolding node_or
read_leaves parts [] [] h = tt
read_leaves parts [] (x ∷ kept) h = absurd h
read_leaves parts (c ∷ committed) [] h = absurd h
read_leaves parts (c ∷ committed) (x ∷ kept) h = (record { leaf = h.0; own = by h.1; known = known h.1 }, read_leaves parts committed kept h.2)
  where
    by : HasOwnOrNone parts.named c x → (found : Placed) → own_node parts.named c ≡ Some found → found.node ≡ x.node
    by (inl (own, is, node, number)) found e = ap (node_or x.node) (sym e ∙ is) ∙ node
    by (inr none) found e = absurd (false≢true (ap is_some (sym none.0 ∙ e)))

    known : HasOwnOrNone parts.named c x → shows_nothing parts.named c ≡ false
    known (inl (own, is, node, number)) = own_shows parts.named c own is
    known (inr none) = none.1

-- a copy is the node of a leaf
node_among : (kept : List Kept) (d : Placed) → IsCopyOf kept d → IsNodeOfLeaves kept d.node
node_among [] d i = absurd i
node_among (x ∷ kept) d (inl same) = inl same.0
node_among (x ∷ kept) d (inr i) = inr (node_among kept d i)

copied_nodes : (kept : List Kept) (ds : List Placed) → AllByRecursion (λ d. IsLeaf d.node × IsCopyOf kept d) ds → AllByRecursion (λ d. IsLeaf d.node × IsNodeOfLeaves kept d.node) ds
copied_nodes kept [] h = tt
copied_nodes kept (d ∷ ds) h = ((h.0.0, node_among kept d h.0.1), copied_nodes kept ds h.1)

pub fits_leaves : (f : Faced) (parts : Parts) → HasCommittedView f.view → FitsFaced f parts → FitsLeaves parts f.view.kept
fits_leaves f parts has fits = record {
  leaves = has.leaves;
  read = read_leaves parts parts.committed f.view.kept fits.committed;
  copies = subst (AllByRecursion (λ d. IsLeaf d.node × IsNodeOfLeaves f.view.kept d.node)) (sym fits.copies_are)
      (all_taken (λ d. IsLeaf d.node × IsNodeOfLeaves f.view.kept d.node) fits.copies (copies_of f.view.buds) (copied_nodes f.view.kept (copies_of f.view.buds) has.copies));
}

-- ---- leaves that are left
-- a number that is on each list is on the one that was read
on_list : (lists : List (List ℕ)) (list : List ℕ) (x : Kept) → AreOfListed lists x → IsOneOfLists lists list → is_of_listed list (shown_by x) ≡ true
on_list [] list x h one = absurd one
on_list (first ∷ lists) list x h (inl same) = subst (λ l. is_of_listed l (shown_by x) ≡ true) (sym same) h.0
on_list (first ∷ lists) list x h (inr one) = on_list lists list x h.1 one

pub among_turned : (list : List ℕ) (q : ℕ) → is_among list q ≡ true → list_any (λ ino. q == ino) list ≡ true
among_turned [] q h = h
among_turned (k ∷ list) q h = by (among_turned list q) (either_of (k == q) (is_among list q) h)
  where
    by : (is_among list q ≡ true → list_any (λ ino. q == ino) list ≡ true) → ((k == q) ≡ true) ⊎ (is_among list q ≡ true) → list_any (λ ino. q == ino) (k ∷ list) ≡ true
    by more (inl e) = or_left (q == k) (list_any (λ ino. q == ino) list) (number_turned k q e)
    by more (inr e) = or_right (q == k) (list_any (λ ino. q == ino) list) (more e)

-- an inode's tests see no highest number
forgotten : (f : Faced) (list : List ℕ) (counts : List ℕ) (h : ℕ) (s : Option Change) → tree_of f.view.kept f.view.tree.highest ≡ f.view.tree → KeepsSynced (heads_of f.view.buds f.synced) counts
    → is_of_listed list s ≡ true → IsOfNameless f s → IsOfForgotten list (in_turn (taken (heads_of f.view.buds f.synced) counts)) (tree_of f.view.kept h) s
forgotten f list counts h (Some (SetInode ino inode)) e keeps on stays = record {
  nameless = subst (λ (t : Tree). is_nameless t ino ≡ true) (sym e) stays.0;
  listed = among_turned list ino on;
  unset = all_in_turn (λ c. not (sets_inode ino c)) (taken (heads_of f.view.buds f.synced) counts) (stays.1 counts keeps);
}
forgotten f list counts h (Some (SetBlock ino number bytes)) e keeps on stays = record {
  nameless = subst (λ (t : Tree). is_nameless t ino ≡ true) (sym e) stays.0;
  listed = among_turned list ino on;
  unset = all_in_turn (λ c. not (sets_inode ino c)) (taken (heads_of f.view.buds f.synced) counts) (stays.1 counts keeps);
}
forgotten f list counts h s e keeps on stays = absurd stays

has_inode : (kept : List Kept) (tree : Tree) (h : ℕ) (s : Option Change) → tree_of kept tree.highest ≡ tree → HasInode tree s → HasInode (tree_of kept h) s
has_inode kept tree h (Some (SetBlock ino number bytes)) e is = subst (λ (t : Tree). is_some (inode_at t ino) ≡ true) (sym e) is
has_inode kept tree h s e is = tt

-- ---- each leaf
abbrev pub SortedLaw : Type 0
SortedLaw = (kept : List Kept) (highest : ℕ) → IsLeafMap kept → IsInOrder (tree_of kept highest)

abbrev pub TouchesLaw : Type 0
TouchesLaw = (changes : List Change) (tree : Tree) (x : Kept) → IsInOrder tree → HasInode tree (shown_by x) → is_shown (shown_by x) ≡ true → list_any (λ change. is_gone change x) changes ≡ true
    → IsTouchedIn tree changes (shown_by x)

-- the tree that the leaves show
abbrev shown_tree : Faced → Parts → Tree
shown_tree f parts = tree_of f.view.kept (committed_highest parts)

abbrev Safe : (f : Faced) → (parts : Parts) → FitsFaced f parts → Kept → Type 0
Safe f parts fits x = IsSafe parts (shown_tree f parts) (in_turn (read_changes f parts fits)) x

left_safe : SortedLaw → TouchesLaw → (f : Faced) (parts : Parts) (fits : FitsFaced f parts) → HasCommittedView f.view → (x : Kept) → IsKeyed x → HasInode f.view.tree (shown_by x) → IsNodeOfLeaves f.view.kept x.node
    → IsLeafLeft f x → Safe f parts fits x
left_safe sorted touches f parts fits has x keyed inode of (inl copy) =
    inl (inr (subst (λ (ds : List Placed). IsNodeCopied ds x.node) (sym fits.copies_are)
    (copied f.view.kept x (get_or f.synced 0 0) fits.copies (copies_of f.view.buds) fits.synced_copies has.leaves.keyed has.leaves.apart of (copied_nodes f.view.kept (copies_of f.view.buds) has.copies) copy)))
left_safe sorted touches f parts fits has x keyed inode of (inr (inl touched)) =
    let any = any_in_turn (λ c. is_gone c x) (read_changes f parts fits) (touched (0 ∷ fits.base ∷ fits.data_groups ∷ []) fits.keeps) in
    inr (inl (touches (in_turn (read_changes f parts fits)) (shown_tree f parts) x (sorted f.view.kept (committed_highest parts) has.leaves)
    (has_inode f.view.kept f.view.tree (committed_highest parts) (shown_by x) has.tree inode) (keyed_shown x.leaf (shown_by x) keyed) any))
left_safe sorted touches f parts fits has x keyed inode of (inr (inr gone)) =
    inr (inr (forgotten f parts.listed (0 ∷ fits.base ∷ fits.data_groups ∷ []) (committed_highest parts) (shown_by x) has.tree fits.keeps (on_list f.lists parts.listed x gone.0 fits.listed) gone.1))

-- leaves behind others, whose nodes and own nodes are among all
record Behind (f : Faced) (parts : Parts) (committed : List Committed) (kept : List Kept) : Type 0 where
  pub read : AreLeavesCommitted parts.named committed kept
  pub keyed : AllByRecursion IsKeyed kept
  pub inodes : AllByRecursion (λ x. HasInode f.view.tree (shown_by x)) kept
  pub lebs : (lnum : ℕ) → AreOwn parts.named lnum committed kept ⊎ AreLeavesLeft f lnum kept
  pub own : (n : LeafNode) → IsOwnNode parts.named committed n → IsOwnNode parts.named parts.committed n
  pub node : (n : LeafNode) → IsNodeOfLeaves kept n → IsNodeOfLeaves f.view.kept n

all_safe : SortedLaw → TouchesLaw → (f : Faced) (parts : Parts) (fits : FitsFaced f parts) → HasCommittedView f.view → (committed : List Committed) (kept : List Kept) → Behind f parts committed kept
    → AllByRecursion (Safe f parts fits) kept
all_safe sorted touches f parts fits has [] [] b = tt
all_safe sorted touches f parts fits has (c ∷ committed) [] b = tt
all_safe sorted touches f parts fits has [] (x ∷ kept) b = absurd b.read
all_safe sorted touches f parts fits has (c ∷ committed) (x ∷ kept) b = (first (b.lebs x.leaf.lnum), all_safe sorted touches f parts fits has committed kept rest)
  where
    first : AreOwn parts.named x.leaf.lnum (c ∷ committed) (x ∷ kept) ⊎ AreLeavesLeft f x.leaf.lnum (x ∷ kept) → Safe f parts fits x
    first (inl own) = by (own.0 refl)
      where
        by : HasOwn parts.named c x → Safe f parts fits x
        by (found, is, node, number) = inl (inl (b.own x.node (inl (ap (option_map (λ (p : Placed). p.node)) is ∙ ap Some node))))
    first (inr left) = left_safe sorted touches f parts fits has x b.keyed.0 b.inodes.0 (b.node x.node (inl refl)) (left.0 refl)

    behind : (lnum : ℕ) → AreOwn parts.named lnum (c ∷ committed) (x ∷ kept) ⊎ AreLeavesLeft f lnum (x ∷ kept) → AreOwn parts.named lnum committed kept ⊎ AreLeavesLeft f lnum kept
    behind lnum (inl own) = inl own.1
    behind lnum (inr left) = inr left.1

    rest : Behind f parts committed kept
    rest = record {
      read = b.read.2;
      keyed = b.keyed.1;
      inodes = b.inodes.1;
      lebs = λ lnum. behind lnum (b.lebs lnum);
      own = λ n i. b.own n (inr i);
      node = λ n i. b.node n (inr i);
    }

pub none_lost : SortedLaw → TouchesLaw → (f : Faced) (parts : Parts) → HasCommittedView f.view → (fits : FitsFaced f parts) → AllByRecursion (Safe f parts fits) f.view.kept
none_lost sorted touches f parts has fits = all_safe sorted touches f parts fits has parts.committed f.view.kept (record {
  read = fits.committed;
  keyed = has.leaves.keyed;
  inodes = has.inodes;
  lebs = fits.lebs;
  own = λ n i. i;
  node = λ n i. i;
})
