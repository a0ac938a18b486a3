-- The leaves that were found in LEBs which the log doesn't name.
use Rattle.std.proofs.Common.{◌≡◌, ℕ, Bool, true, false, cond, not, List, [], ◌∷◌, map, refl, sym, ap, ◌∙◌, Option, Some, None}
use Rattle.std.specs.Prelude.{◌==◌, is_some}
use Rattle.std.specs.BTreeMap.{BTreeMap, get}
use Rattle.std.specs.List.{AllByRecursion}
use Rattle.std.specs.Option.{option_map}
use Rattle.std.specs.Ordering.{nat_cmp}
use Rattle.media_leaf.specs.LeafNode.{LeafNode}
use Rattle.index_tree.specs.declared.leaf.Leaf.{Leaf}
use Rattle.index_tree.specs.Order.{leaf_rank}
use Rattle.leaf_map.specs.Kept.{Kept, Placed, kept_at, shown}
use Rattle.leaf_map.specs.LeafMap.{shows_same}
use Rattle.leaf_map.specs.Parts.{Committed, Parts, is_named, own_node}
use Rattle.leaf_map.specs.Recovered.{copies_left, copy_of_key, found_leaves, stand_in}
use Rattle.journal_scan.specs.Places.{HasNamedPlace}
use Rattle.log_replay.specs.declared.candidate.Candidate.{Candidate}
use Rattle.log_replay.specs.Moving.{candidate_at, candidate_of, candidates_of, outside, with_candidate}
use Rattle.log_replay.specs.Settling.{kept_of, read_as, settled_at, settled_of, settled_one}
use Rattle.log_replay.proofs.Carried.{bud_named}
use Rattle.log_replay.proofs.Founds.{at_copy, found_as, leaf_found, with_one}
use Rattle.log_replay.proofs.Ranked.{filter_all, find_all}

module _ (parts : Parts) (m : BTreeMap ℕ ℕ) (same : (lnum : ℕ) → is_some (get nat_cmp m lnum) ≡ is_named parts.named lnum) where
  -- the candidate that a leaf is
  abbrev of_kept : Option Kept → Option Candidate
  of_kept None = None
  of_kept (Some x) = cond (is_named parts.named x.leaf.lnum) None (Some (candidate_at parts.copies x))

  read_cand : (leaf : Leaf) (own : Bool) (k : Option Kept) → ((x : Kept) → k ≡ Some x → x.leaf ≡ leaf) → candidate_of m (read_as parts leaf own k) ≡ of_kept k
  read_cand leaf own None h = refl
  read_cand leaf own (Some x) h = rw (same x.leaf.lnum) (ap (λ (l : Leaf). cond (is_named parts.named x.leaf.lnum) None (Some (record { leaf = l; copy = (candidate_at parts.copies x).copy }))) (sym (h x refl)))

  kept_here : (c : Committed) (own : Option Placed) (x : Kept) → kept_of c own ≡ Some x → x.leaf ≡ c.leaf
  kept_here c (Some own) x e = let s : record { leaf = c.leaf; sqnum = own.sqnum; node = own.node } ≡ x = cc in ap (λ (y : Kept). y.leaf) (sym s)
  kept_here c None x e = by (stand_in c.leaf.key) e
    where
      by : (s : Option LeafNode) → option_map (λ (node : LeafNode). record { leaf = c.leaf; sqnum = 0; node = node }) s ≡ Some x → x.leaf ≡ c.leaf
      by None f = absurd cc
      by (Some node) f = let s : record { leaf = c.leaf; sqnum = 0; node = node } ≡ x = cc in ap (λ (y : Kept). y.leaf) (sym s)

  one_cand : (left : List Placed) (c : Committed) (own : Option Placed) → own_node parts.named c ≡ own → AllByRecursion (HasNamedPlace parts.named) left → candidate_of m (settled_one parts left c own) ≡ of_kept (found_as left c own)
  one_cand left c (Some own) e all = rw e (read_cand c.leaf true (kept_of c (Some own)) (kept_here c (Some own)))
  one_cand left c None e all = by (copy_of_key c.leaf left) refl
    where
      by : (d : Option Placed) → copy_of_key c.leaf left ≡ d → candidate_of m (settled_at parts c d) ≡ of_kept (at_copy c d)
      by None f = rw e (read_cand c.leaf false (kept_of c None) (kept_here c None))
      by (Some d) f =
          let named : is_named parts.named d.lnum ≡ true = bud_named parts.named (kept_at d).leaf (find_all (HasNamedPlace parts.named) (λ z. leaf_rank (kept_at z).leaf == leaf_rank c.leaf) left d all f) in
          rw (same d.lnum ∙ named, named) refl

  kept_outside : (k : Option Kept) (rest : List Kept) → with_candidate (of_kept k) (map (candidate_at parts.copies) (outside parts.named rest)) ≡ map (candidate_at parts.copies) (outside parts.named (with_one k rest))
  kept_outside None rest = refl
  kept_outside (Some x) rest = by (is_named parts.named x.leaf.lnum)
    where
      by : (b : Bool) → with_candidate (cond b None (Some (candidate_at parts.copies x))) (map (candidate_at parts.copies) (outside parts.named rest)) ≡ map (candidate_at parts.copies) (cond (not b) (x ∷ outside parts.named rest) (outside parts.named rest))
      by true = refl
      by false = refl

  left_named : (c : Committed) (left : List Placed) (own : Option Placed) → AllByRecursion (HasNamedPlace parts.named) left → AllByRecursion (HasNamedPlace parts.named) (copies_left left c own)
  left_named c left (Some own) all = all
  left_named c left None all = by (copy_of_key c.leaf left) refl
    where
      by : (d : Option Placed) → copy_of_key c.leaf left ≡ d → AllByRecursion (HasNamedPlace parts.named) (copies_left left c None)
      by None f = rw f all
      by (Some d) f = rw f (filter_all (HasNamedPlace parts.named) (λ z. not (shows_same (shown d.node) (shown z.node))) left all)

  pub all_cands : (left : List Placed) (cs : List Committed) → AllByRecursion (HasNamedPlace parts.named) left → candidates_of m (settled_of parts left cs) ≡ map (candidate_at parts.copies) (outside parts.named (found_leaves parts.named left cs))
  all_cands left [] all = refl
  all_cands left (c ∷ cs) all =
      let own = own_node parts.named c in
      let rest = copies_left left c own in
      ap (λ z. with_candidate z (candidates_of m (settled_of parts rest cs))) (one_cand left c own refl all)
      ∙ ap (with_candidate (of_kept (found_as left c own))) (all_cands rest cs (left_named c left own all))
      ∙ kept_outside (found_as left c own) (found_leaves parts.named rest cs)
      ∙ ap (λ z. map (candidate_at parts.copies) (outside parts.named z)) (leaf_found left c own (found_leaves parts.named rest cs))
