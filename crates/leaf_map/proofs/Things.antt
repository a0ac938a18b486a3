-- What is shown at one place of the order: the same inode or block, or names of one hash.
use Rattle.std.proofs.Common.{◌≡◌, Bool, true, false, not, List, [], ◌∷◌, refl, sym, subst, ◌∙◌, inl, inr, Option, Some, None}
use Rattle.std.specs.List.{AllByRecursion, list_all}
use Rattle.std.proofs.lemmas.Bool.{false≢true, and_parts}
use Rattle.media_leaf.specs.LeafNode.{LeafNode}
use Rattle.index_tree.specs.declared.leaf.Leaf.{Leaf}
use Rattle.fs_model.specs.declared.change.Change.{Change}
use Rattle.fs_model.specs.declared.change.Change.TheVariants.{SetInode, SetEntry, SetBlock}
use Rattle.leaf_map.specs.After.{is_set}
use Rattle.leaf_map.specs.Allowed.{IsNodeOfLeaves}
use Rattle.leaf_map.specs.Kept.{Kept, shown, shown_by}
use Rattle.leaf_map.specs.LeafMap.{HasKeyOf, IsKeyed, are_apart, shows_same}
use Rattle.leaf_map.specs.Parts.{is_shown}
use Rattle.leaf_map.specs.RankLaws.{rank_shown, is_entry}
use Rattle.leaf_map.proofs.Apart.{through, turned}
use Rattle.leaf_map.proofs.Ranks.{same_rank}

-- what is set
pub shown_set : (s : Option Change) → is_shown s ≡ true → (c : Change) → s ≡ Some c → is_set c ≡ true
shown_set s h c e = subst (λ z. is_shown z ≡ true) e h

pub same_turned : (s t : Option Change) → is_shown s ≡ true → is_shown t ≡ true → shows_same s t ≡ true → shows_same t s ≡ true
same_turned s None h g e = absurd (false≢true g)
same_turned s (Some change) h g e = turned change s g (shown_set s h) e

pub same_through : (a s t : Option Change) → is_shown a ≡ true → shows_same a s ≡ true → shows_same a t ≡ true → shows_same s t ≡ true
same_through None s t h e f = absurd (false≢true h)
same_through (Some change) s t h e f = through change s t h e f

pub same_place : (s t : Option Change) → is_shown s ≡ true → shows_same s t ≡ true → rank_shown s ≡ rank_shown t
same_place None t h e = absurd (false≢true h)
same_place (Some change) t h e = sym (same_rank change t h e)

pub same_kind : (s t : Option Change) → is_shown s ≡ true → shows_same s t ≡ true → is_entry s ≡ is_entry t
same_kind (Some (SetInode a x)) (Some (SetInode b y)) h e = refl
same_kind (Some (SetBlock a n x)) (Some (SetBlock b m y)) h e = refl
same_kind (Some (SetEntry a)) (Some (SetEntry b)) h e = refl
same_kind (Some (SetInode a x)) t h e = absurd (false≢true e)
same_kind (Some (SetBlock a n x)) t h e = absurd (false≢true e)
same_kind (Some (SetEntry a)) t h e = absurd (false≢true e)
same_kind s t h e = absurd (false≢true h)

pub keyed_shown : (l : Leaf) (s : Option Change) → HasKeyOf l s → is_shown s ≡ true
keyed_shown l (Some (SetInode a x)) h = refl
keyed_shown l (Some (SetBlock a n x)) h = refl
keyed_shown l (Some (SetEntry e)) h = refl
keyed_shown l s h = absurd h

-- what all leaves pass their nodes pass
pub at_node : (p : Option Change → Bool) (kept : List Kept) (n : LeafNode) → list_all (λ y. p (shown_by y)) kept ≡ true → IsNodeOfLeaves kept n → p (shown n) ≡ true
at_node p [] n h i = absurd i
at_node p (x ∷ kept) n h (inl e) = subst (λ z. p (shown z) ≡ true) (sym e) (and_parts (p (shown_by x)) (list_all (λ y. p (shown_by y)) kept) h).0
at_node p (x ∷ kept) n h (inr i) = at_node p kept n (and_parts (p (shown_by x)) (list_all (λ y. p (shown_by y)) kept) h).1 i

pub node_shown : (kept : List Kept) (n : LeafNode) → AllByRecursion IsKeyed kept → IsNodeOfLeaves kept n → is_shown (shown n) ≡ true
node_shown [] n k i = absurd i
node_shown (x ∷ kept) n k (inl e) = subst (λ z. is_shown (shown z) ≡ true) (sym e) (keyed_shown x.leaf (shown_by x) k.0)
node_shown (x ∷ kept) n k (inr i) = node_shown kept n k.1 i

pub not_true : (b : Bool) → not b ≡ true → b ≡ false
not_true true h = absurd (false≢true h)
not_true false h = refl

-- of leaves of which none shows what another does one node alone shows it
pub one_node : (kept : List Kept) (m n : LeafNode) → AllByRecursion IsKeyed kept → are_apart kept ≡ true → IsNodeOfLeaves kept m → IsNodeOfLeaves kept n → shows_same (shown m) (shown n) ≡ true → m ≡ n
one_node [] m n k a i j e = absurd i
one_node (x ∷ kept) m n k a (inl i) (inl j) e = i ∙ sym j
one_node (x ∷ kept) m n k a (inl i) (inr j) e =
    let p = and_parts (list_all (λ y. not (shows_same (shown_by x) (shown_by y))) kept) (are_apart kept) a in
    let no = not_true (shows_same (shown_by x) (shown n)) (at_node (λ t. not (shows_same (shown_by x) t)) kept n p.0 j) in
    absurd (false≢true (sym no ∙ subst (λ (z : LeafNode). shows_same (shown z) (shown n) ≡ true) i e))
one_node (x ∷ kept) m n k a (inr i) (inl j) e =
    let p = and_parts (list_all (λ y. not (shows_same (shown_by x) (shown_by y))) kept) (are_apart kept) a in
    let no = not_true (shows_same (shown_by x) (shown m)) (at_node (λ t. not (shows_same (shown_by x) t)) kept m p.0 i) in
    let back = same_turned (shown m) (shown n) (node_shown kept m k.1 i) (subst (λ z. is_shown (shown z) ≡ true) (sym j) (keyed_shown x.leaf (shown_by x) k.0)) e in
    absurd (false≢true (sym no ∙ subst (λ (z : LeafNode). shows_same (shown z) (shown m) ≡ true) j back))
one_node (x ∷ kept) m n k a (inr i) (inr j) e =
    let p = and_parts (list_all (λ y. not (shows_same (shown_by x) (shown_by y))) kept) (are_apart kept) a in
    one_node kept m n k.1 p.1 i j e
