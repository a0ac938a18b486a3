-- A commit that is offered meets the invariant, with a group put before it and one put while it runs.
use Rattle.std.proofs.Common.{◌≡◌, ◌⊎◌, ◌≤◌, ◌∙◌, ℕ, zero, suc, arith, refl, sym, subst, inl, inr, List, [], ◌∷◌, map, Option, Some, None}
use Rattle.std.specs.List.{AllByRecursion, IsDistinct}
use Rattle.ubifs_base.specs.R5.{r5_of}
use Rattle.index_tree.specs.Distinct.{AreDistinct}
use Rattle.index_tree.specs.Order.{key_rank}
use Rattle.index_tree.specs.Removal.{same_leaf}
use Rattle.media_leaf.specs.LeafNode.{IsLeaf}
use Rattle.fs_model.specs.Files.{Tree}
use Rattle.fs_model.specs.Proper.{IsProper}
use Rattle.fs_model.specs.Recovery.{KeepsSynced, recovered, taken}
use Rattle.store_model.specs.Events.{run}
use Rattle.store_model.specs.Fits.{faced_now}
use Rattle.store_model.specs.Heads.{heads_of, numbered_group}
use Rattle.store_model.specs.Invariant.{AreWholeOrLeft, HasCommittedView, HasFiles, IsStore}
use Rattle.store_model.specs.Legal.{IsCarried}
use Rattle.store_model.specs.LogRing.{HasLogLebs}
use Rattle.store_model.specs.Store.{Next, Store, View}
use Rattle.store_model.specs.Worked.{am_entry, am_inode, am_tree, bb_entry, bb_inode, bb_tree, root_tree, rooted_store, until_offer}
use Rattle.store_model.proofs.BareLebs.{bare_by}
use Rattle.store_model.proofs.LegalPut.{am_is_proper}
use Rattle.store_model.proofs.LegalRuns.{bb_is_proper}
use Rattle.store_model.proofs.WorkedStates.{offered_stands}
use Rattle.store_model.proofs.WorkedStore.{geometry}

abbrev offering : Store
offering = run until_offer rooted_store

-- its view, and the commit that runs
abbrev commit_of : Option Next → View → View
commit_of None view = view
commit_of (Some next) view = next.view

abbrev later : View
later = commit_of offering.next offering.now

-- ---- what a cut leaves
none : {A : Type 0} → (n : ℕ) → suc n ≤ 0 → A
none n high = absurd (omega (arith, high))

now_left : (counts : List ℕ) → KeepsSynced (heads_of offering.now.buds offering.synced) counts
    → (recovered root_tree (taken (heads_of offering.now.buds offering.synced) counts) ≡ am_tree) ⊎ (recovered root_tree (taken (heads_of offering.now.buds offering.synced) counts) ≡ bb_tree)
now_left [] keeps = absurd keeps
now_left (suc n ∷ counts) (low, high, rest) = none n high
now_left (zero ∷ []) (low, high, rest) = absurd rest
now_left (zero ∷ zero ∷ counts) (l, h, (low, high, rest)) = absurd (omega (arith, low))
now_left (zero ∷ suc (suc (suc n)) ∷ counts) (l, h, (low, high, rest)) = absurd (omega (arith, high))
now_left (zero ∷ suc zero ∷ []) (l, h, (low, high, rest)) = absurd rest
now_left (zero ∷ suc zero ∷ suc n ∷ counts) (l, h, (k, i, (low, high, rest))) = none n high
now_left (zero ∷ suc zero ∷ zero ∷ []) keeps = inl refl
now_left (zero ∷ suc zero ∷ zero ∷ n ∷ counts) (l, h, (k, i, (low, high, rest))) = absurd rest
now_left (zero ∷ suc (suc zero) ∷ []) (l, h, (low, high, rest)) = absurd rest
now_left (zero ∷ suc (suc zero) ∷ suc n ∷ counts) (l, h, (k, i, (low, high, rest))) = none n high
now_left (zero ∷ suc (suc zero) ∷ zero ∷ []) keeps = inr refl
now_left (zero ∷ suc (suc zero) ∷ zero ∷ n ∷ counts) (l, h, (k, i, (low, high, rest))) = absurd rest

later_left : (counts : List ℕ) → KeepsSynced (heads_of later.buds (0 ∷ 0 ∷ 0 ∷ [])) counts
    → (recovered am_tree (taken (heads_of later.buds (0 ∷ 0 ∷ 0 ∷ [])) counts) ≡ am_tree) ⊎ (recovered am_tree (taken (heads_of later.buds (0 ∷ 0 ∷ 0 ∷ [])) counts) ≡ bb_tree)
later_left [] keeps = absurd keeps
later_left (suc n ∷ counts) (low, high, rest) = none n high
later_left (zero ∷ []) (low, high, rest) = absurd rest
later_left (zero ∷ suc (suc n) ∷ counts) (l, h, (low, high, rest)) = absurd (omega (arith, high))
later_left (zero ∷ zero ∷ []) (l, h, (low, high, rest)) = absurd rest
later_left (zero ∷ zero ∷ suc n ∷ counts) (l, h, (k, i, (low, high, rest))) = none n high
later_left (zero ∷ zero ∷ zero ∷ []) keeps = inl refl
later_left (zero ∷ zero ∷ zero ∷ n ∷ counts) (l, h, (k, i, (low, high, rest))) = absurd rest
later_left (zero ∷ suc zero ∷ []) (l, h, (low, high, rest)) = absurd rest
later_left (zero ∷ suc zero ∷ suc n ∷ counts) (l, h, (k, i, (low, high, rest))) = none n high
later_left (zero ∷ suc zero ∷ zero ∷ []) keeps = inr refl
later_left (zero ∷ suc zero ∷ zero ∷ n ∷ counts) (l, h, (k, i, (low, high, rest))) = absurd rest

either_proper : (tree found : Tree) → tree ≡ found → (found ≡ am_tree) ⊎ (found ≡ bb_tree) → IsProper tree
either_proper tree found e (inl am) = subst IsProper (sym (e ∙ am)) am_is_proper
either_proper tree found e (inr bb) = subst IsProper (sym (e ∙ bb)) bb_is_proper

-- ---- the views
committed : HasCommittedView offering.now
unfolding IsDistinct key_rank r5_of
committed = record { leaves = record { keyed = (refl, tt); ordered = refl; apart = refl }; distinct = (tt, tt); tree = refl; inodes = (tt, tt); highest = refl; copies = tt }

later_distinct : AreDistinct (map (λ x. x.leaf) later.kept)
unfolding IsDistinct key_rank r5_of same_leaf
later_distinct = ((refl, (refl, tt)), ((refl, tt), (tt, tt)))

later_committed : HasCommittedView later
unfolding key_rank r5_of
later_committed = record { leaves = record { keyed = (refl, (refl, (refl, tt))); ordered = refl; apart = refl }; distinct = later_distinct; tree = refl; inodes = (tt, (tt, (tt, tt))); highest = refl; copies = tt }

am_carried : AllByRecursion IsCarried (am_entry ∷ am_inode ∷ [])
am_carried = (
  record { node = record { inum_fits = omega arith; kind_known = omega arith; some = omega arith; most = omega arith; plain = refl }; carries = refl },
  (record { node = record { numbered = omega arith; most = omega arith; plain = λ _. refl }; carries = refl }, tt),
)

bb_carried : AllByRecursion IsCarried (bb_entry ∷ bb_inode ∷ [])
bb_carried = (
  record { node = record { inum_fits = omega arith; kind_known = omega arith; some = omega arith; most = omega arith; plain = refl }; carries = refl },
  (record { node = record { numbered = omega arith; most = omega arith; plain = λ _. refl }; carries = refl }, tt),
)

files : HasFiles offering
unfolding key_rank r5_of same_leaf
files = record { leaves = record { keyed = (refl, (refl, (refl, (refl, (refl, tt))))); ordered = refl; apart = refl }; tree = refl; index = refl }

distinct : AreDistinct (map (λ x. x.leaf) offering.live)
unfolding IsDistinct key_rank r5_of same_leaf
distinct = ((refl, (refl, (refl, (refl, tt)))), ((refl, (refl, (refl, tt))), ((refl, (refl, tt)), ((refl, tt), (tt, tt)))))

whole : AreWholeOrLeft offering (faced_now offering)
unfolding key_rank r5_of same_leaf
whole lnum = inl ((λ _. (inl (refl, inl refl), refl)), tt)

nodes : AllByRecursion (λ x. IsLeaf x.node) offering.live
unfolding key_rank r5_of same_leaf
nodes = (
  record { numbered = omega arith; most = omega arith; plain = λ _. refl },
  (am_carried.0.node, (bb_carried.0.node, (am_carried.1.0.node, (bb_carried.1.0.node, tt)))),
)

log_lebs : HasLogLebs offering
log_lebs = record { heads = refl; synced = refl; first = omega arith; last = omega arith; within = omega arith; unit = refl; kept = omega arith; on_the_way = (omega arith, omega arith, omega arith) }

pub offering_is_store : IsStore offering
unfolding key_rank r5_of same_leaf
offering_is_store = record {
  geometry = geometry;
  main = refl;
  files = files;
  owned = record { nodes = nodes; inodes = (tt, (tt, (tt, (tt, (tt, tt))))); highest = refl };
  views = record { committed = (committed, later_committed); carried = ((am_carried.0, (am_carried.1.0, bb_carried)), bb_carried) };
  distinct = distinct;
  places = refl;
  stands = (inl (refl, inl refl), (inr (inr (inl (refl, inl refl))), (inr (inr (inl (refl, inr (inr (inl refl))))), (inr (inr (inl (refl, inr (inl refl)))), (inr (inr (inl (refl, inr (inr (inr (inl refl)))))), tt)))));
  bare = bare_by offering.lebs refl;
  proper_now = bb_is_proper;
  proper = (λ tree r. either_proper tree (recovered root_tree (taken (heads_of offering.now.buds offering.synced) r.counts)) r.tree_is (now_left r.counts r.synced), λ tree r. either_proper tree (recovered am_tree (taken (heads_of later.buds (0 ∷ 0 ∷ 0 ∷ [])) r.counts)) r.tree_is (later_left r.counts r.synced));
  data_head = (refl, refl);
  history = (refl, refl);
  leads = record { named = refl; leads = refl };
  numbers = record { both = (record { base = refl; data_nodes = refl; apart = refl; kept = refl }, record { base = refl; data_nodes = refl; apart = refl; kept = refl }); live = refl; synced = refl };
  accounted = ((inl (inl refl), tt), (inl (inl refl), (inl (inr (inl refl)), (inl (inr (inr (inr (inl refl)))), tt))));
  gone = (record { lost = refl; unset = refl; held = tt; orphans = tt }, record { lost = refl; unset = refl; held = tt; orphans = tt });
  whole_or_left = (whole, λ lnum. inl ((λ _. (inl (refl, inl refl), refl)), ((λ _. (inr (inr (inl (refl, inl refl))), refl)), ((λ _. (inr (inr (inl (refl, inr (inl refl)))), refl)), tt))));
  orphans = record { now = refl; later = (refl, refl, refl) };
  nameless_are = refl;
  apart = record { numbers = refl; used = refl; buds = refl; ends = (refl, tt); index = refl; leaves = refl; victim = refl };
  taking = (refl, refl, omega arith, refl, λ _. refl, refl);
  allotted = record { clean = None ∷ []; places = refl; lebs = refl; apart = refl };
  since = record {
    copies = record { before = []; is = refl; all_synced = omega arith };
    base = record { before = (am_entry ∷ am_inode ∷ []) ∷ []; is = refl; all_synced = omega arith };
    data_nodes = record { before = []; is = refl; all_synced = omega arith };
    ends = (refl, tt);
  };
  begun = record {
    before = [] ∷ (numbered_group (am_entry ∷ am_inode ∷ []) ∷ []) ∷ [] ∷ [];
    mark = 13;
    heads = refl;
    parted = record { long = refl; low = refl; high = refl; above = omega arith };
    began = refl;
  };
  standing = offered_stands;
  weight = (omega arith, omega arith);
  next_index = record { lebs = omega arith; weight = omega arith };
  log = log_lebs;
  covered = record { room = record { fits = omega arith } };
  settled = record { cut = record { empty = omega arith; index = omega arith }; end = record { empty = omega arith; index = omega arith } };
}
