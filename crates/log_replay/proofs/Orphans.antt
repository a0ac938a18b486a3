-- A listed inode goes if it has no links.
use Rattle.std.proofs.Common.{◌≡◌, ℕ, Bool, true, false, cond, not, ◌&&◌, ◌||◌, List, [], ◌∷◌, refl, sym, ap, subst, ◌∙◌, Option, Some, None}
use Rattle.std.specs.Prelude.{◌==◌, if◌then◌else◌, filter}
use Rattle.std.specs.BTreeMap.{get, is_at}
use Rattle.std.specs.List.{find, list_all, list_any}
use Rattle.std.specs.Option.{option_map}
use Rattle.std.specs.Ordering.{nat_cmp}
use Rattle.std.proofs.lemmas.Bool.{false≢true, and_parts, eqb-true, eq-eqb}
use Rattle.ubifs_base.specs.declared.key.Key.TheVariants.{Ino}
use Rattle.index_tree.specs.Distinct.{AreDistinct}
use Rattle.index_tree.specs.Order.{key_rank}
use Rattle.index_tree.specs.RangeRemoval.{outside_range}
use Rattle.fs_model.specs.declared.change.Change.{Change}
use Rattle.fs_model.specs.declared.change.Change.TheVariants.{SetInode, DropInode}
use Rattle.leaf_map.specs.After.{is_gone, is_inode}
use Rattle.leaf_map.specs.Follows.{last_block_key}
use Rattle.leaf_map.specs.Kept.{Kept, shown_by}
use Rattle.leaf_map.specs.LeafMap.{IsLeafMap, are_apart, shows_same}
use Rattle.leaf_map.specs.Recovered.{is_unlinked, without_orphan}
use Rattle.log_replay.specs.declared.standing.Standing.{Standing}
use Rattle.log_replay.specs.Changes.{StandingDropsInode, DropsOrphan, is_without_links}
use Rattle.log_replay.specs.Standing.{StandsForLeaves, is_linked_inode, leaves, links_among}
use Rattle.log_replay.proofs.Distinct.{names_stay}
use Rattle.log_replay.proofs.Maps.{links_dropped, place_stay}
use Rattle.log_replay.proofs.OneNode.{same_places}
use Rattle.log_replay.proofs.Tests.{all_goes}

-- the laws of an orphan
pub record OrphanLaws : Type 0 where
  pub orphan : (ino : ℕ) (kept : List Kept) → IsLeafMap kept → leaves (without_orphan kept ino) ≡ (if list_any (λ x. is_unlinked ino (shown_by x)) kept
      then outside_range (key_rank (Ino ino)) (key_rank (last_block_key ino)) (leaves kept) else leaves kept)
  pub left : (ino : ℕ) (kept : List Kept) → IsLeafMap kept → IsLeafMap (without_orphan kept ino)

-- what shows another inode than one without links is none
not_inode : (ino : ℕ) (s : Option Change) → is_inode ino s ≡ false → is_unlinked ino s ≡ false
not_inode ino (Some (SetInode other node)) h = rw h refl
not_inode ino s h = refl

is_the_inode : (ino : ℕ) (s : Option Change) → is_inode ino s ≡ true → is_unlinked ino s ≡ not (is_linked_inode s)
is_the_inode ino (Some (SetInode other node)) h = rw h (by (node.nlink == 0))
  where
    by : (b : Bool) → b ≡ not (not b)
    by true = refl
    by false = refl
is_the_inode ino s h = absurd (false≢true h)

-- behind an inode no other one of its number is shown
none_behind : (ino : ℕ) (s t : Option Change) → is_inode ino s ≡ true → not (shows_same s t) ≡ true → is_unlinked ino t ≡ false
none_behind ino (Some (SetInode a x)) (Some (SetInode b y)) h n = by (b == ino) refl
  where
    by : (c : Bool) → (b == ino) ≡ c → (c && (y.nlink == 0)) ≡ false
    by false e = refl
    by true e = absurd (false≢true (ap not (sym (eq-eqb b a (eqb-true b ino e ∙ sym (eqb-true a ino h)))) ∙ n))
none_behind ino (Some (SetInode a x)) t h n = refl
none_behind ino s t h n = absurd (false≢true h)

all_behind : (ino : ℕ) (s : Option Change) (kept : List Kept) → is_inode ino s ≡ true → list_all (λ y. not (shows_same s (shown_by y))) kept ≡ true → list_any (λ x. is_unlinked ino (shown_by x)) kept ≡ false
all_behind ino s [] h n = refl
all_behind ino s (y ∷ kept) h n =
    let p = and_parts (not (shows_same s (shown_by y))) (list_all (λ y. not (shows_same s (shown_by y))) kept) n in
    rw (none_behind ino s (shown_by y) h p.0) (all_behind ino s kept h p.1)

-- leaves have an inode without links if the first of its number has none
pub bare_is : (ino : ℕ) (kept : List Kept) → are_apart kept ≡ true → list_any (λ x. is_unlinked ino (shown_by x)) kept ≡ is_without_links (links_among kept ino)
bare_is ino [] h = refl
bare_is ino (x ∷ kept) h =
    let p = and_parts (list_all (λ y. not (shows_same (shown_by x) (shown_by y))) kept) (are_apart kept) h in
    by p.0 (bare_is ino kept p.1) (is_inode ino (shown_by x)) refl
  where
    by : list_all (λ y. not (shows_same (shown_by x) (shown_by y))) kept ≡ true → list_any (λ x. is_unlinked ino (shown_by x)) kept ≡ is_without_links (links_among kept ino) → (b : Bool) → is_inode ino (shown_by x) ≡ b
        → (is_unlinked ino (shown_by x) || list_any (λ x. is_unlinked ino (shown_by x)) kept) ≡ is_without_links (option_map (λ x. is_linked_inode (shown_by x)) (cond b (Some x) (find (λ x. is_inode ino (shown_by x)) kept)))
    by n more true e = rw (is_the_inode ino (shown_by x) e, all_behind ino (shown_by x) kept e n) (none (is_linked_inode (shown_by x)))
      where
        none : (b : Bool) → (not b || false) ≡ not b
        none true = refl
        none false = refl
    by n more false e = rw (not_inode ino (shown_by x) e) more

-- an inode that goes
drops : OrphanLaws → (ino : ℕ) (kept : List Kept) (s t : Standing) → list_any (λ x. is_unlinked ino (shown_by x)) kept ≡ true → StandsForLeaves kept s → StandingDropsInode ino s t → StandsForLeaves (without_orphan kept ino) t
drops L ino kept s t any st d =
    let gone : Kept → Bool = is_gone (DropInode ino) in
    let left : List Kept = filter (λ x. not (is_gone (DropInode ino) x)) kept in
    let same : without_orphan kept ino ≡ filter (λ x. not (is_gone (DropInode ino) x)) kept = rw any refl in
    let range : leaves (without_orphan kept ino) ≡ outside_range (key_rank (Ino ino)) (key_rank (last_block_key ino)) (leaves kept) = L.orphan ino kept st.leaf_map ∙ rw any refl in
    subst (λ (ks : List Kept). StandsForLeaves ks t) (sym same) (record {
      in_index = d.leaves ∙ ap (outside_range (key_rank (Ino ino)) (key_rank (last_block_key ino))) st.in_index ∙ sym range ∙ ap leaves same;
      leaf_map = subst IsLeafMap same (L.left ino kept st.leaf_map);
      distinct = subst (λ (xs : List Kept). AreDistinct (leaves xs)) (sym (names_stay gone kept (λ x g. all_goes ino (shown_by x) g))) st.distinct;
      inodes = λ q. d.inodes q ∙ ap (λ (z : Option Bool). cond (is_at (nat_cmp ino) q) None z) (st.inodes q) ∙ sym (links_dropped ino kept q);
      names = λ q. same_places s t d.names q ∙ st.names q ∙ sym (place_stay gone kept q (λ x g. all_goes ino (shown_by x) g));
    })

pub orphan_stands : OrphanLaws → (ino : ℕ) (kept : List Kept) (s t : Standing) → DropsOrphan ino s t → StandsForLeaves kept s → StandsForLeaves (without_orphan kept ino) t
orphan_stands L ino kept s t d st = by (list_any (λ x. is_unlinked ino (shown_by x)) kept) refl
  where
    bare : is_without_links (get nat_cmp s.inodes ino) ≡ list_any (λ x. is_unlinked ino (shown_by x)) kept
    bare = ap is_without_links (st.inodes ino) ∙ sym (bare_is ino kept st.leaf_map.apart)

    by : (b : Bool) → list_any (λ x. is_unlinked ino (shown_by x)) kept ≡ b → StandsForLeaves (without_orphan kept ino) t
    by true e = drops L ino kept s t e st (d.bare (bare ∙ e))
    by false e =
        let same : without_orphan kept ino ≡ kept = rw e refl in
        subst (λ (ks : List Kept). StandsForLeaves ks t) (sym same) (subst (StandsForLeaves kept) (sym (d.other (bare ∙ e))) st)
