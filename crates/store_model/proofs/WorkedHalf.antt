-- Half a collection meets the invariant: one leaf of three is copied.
use Rattle.std.proofs.Common.{arith, ◌∙◌, refl, sym, subst, inl, inr}
use Rattle.std.specs.List.{IsDistinct}
use Rattle.std.specs.Prelude.{map}
use Rattle.ubifs_base.specs.R5.{r5_of}
use Rattle.index_tree.specs.Distinct.{AreDistinct}
use Rattle.index_tree.specs.Order.{key_rank}
use Rattle.index_tree.specs.Removal.{same_leaf}
use Rattle.fs_model.specs.Proper.{IsProper}
use Rattle.store_model.specs.Events.{run}
use Rattle.store_model.specs.Fits.{faced_now}
use Rattle.store_model.specs.Invariant.{AreProper, AreWholeOrLeft, HasCommittedView, HasFiles, IsStore}
use Rattle.store_model.specs.LogRing.{HasLogLebs}
use Rattle.store_model.specs.Store.{Store}
use Rattle.store_model.specs.Worked.{am_tree, half_collected, one_file}
use Rattle.store_model.proofs.BareLebs.{bare_by}
use Rattle.store_model.proofs.WorkedStates.{half_stands}
use Rattle.store_model.proofs.WorkedStore.{file_is_proper, geometry, same_tree}

abbrev half : Store
half = run half_collected one_file

files : HasFiles half
unfolding key_rank r5_of same_leaf
files = record { leaves = record { keyed = (refl, (refl, (refl, tt))); ordered = refl; apart = refl }; tree = refl; index = refl }

kept_distinct : AreDistinct (map (λ x. x.leaf) half.now.kept)
unfolding IsDistinct key_rank r5_of same_leaf
kept_distinct = ((refl, (refl, tt)), ((refl, tt), (tt, tt)))

distinct : AreDistinct (map (λ x. x.leaf) half.live)
unfolding IsDistinct key_rank r5_of same_leaf
distinct = ((refl, (refl, tt)), ((refl, tt), (tt, tt)))

committed : HasCommittedView half.now
unfolding key_rank r5_of
committed = record {
  leaves = record { keyed = (refl, (refl, (refl, tt))); ordered = refl; apart = refl };
  distinct = kept_distinct;
  tree = refl;
  inodes = (tt, (tt, (tt, tt)));
  highest = refl;
  copies = ((record { numbered = omega arith; most = omega arith; plain = λ _. refl }, inl (refl, refl)), tt);
}

proper : AreProper (faced_now half)
proper tree r = subst IsProper (sym (same_tree am_tree r.counts refl r.synced) ∙ sym r.tree_is) file_is_proper

whole : AreWholeOrLeft half (faced_now half)
unfolding key_rank r5_of same_leaf
whole lnum = inl ((λ _. (inl (refl, inl refl), refl)), ((λ _. (inl (refl, inr (inl refl)), refl)), ((λ _. (inl (refl, inr (inr (inl refl))), refl)), tt)))

log_lebs : HasLogLebs half
log_lebs = record { heads = refl; synced = refl; first = omega arith; last = omega arith; within = omega arith; unit = refl; kept = omega arith; on_the_way = tt }

pub half_is_store : IsStore half
unfolding key_rank r5_of same_leaf
half_is_store = record {
  geometry = geometry;
  main = refl;
  files = files;
  owned = record {
    nodes = (
      record { numbered = omega arith; most = omega arith; plain = λ _. refl },
      (record { inum_fits = omega arith; kind_known = omega arith; some = omega arith; most = omega arith; plain = refl }, (record { numbered = omega arith; most = omega arith; plain = λ _. refl }, tt)),
    );
    inodes = (tt, (tt, (tt, tt)));
    highest = refl;
  };
  views = record { committed = (committed, tt); carried = (tt, tt) };
  distinct = distinct;
  places = refl;
  stands = (inr (inr (inr (inr (inl (refl, inl refl))))), (inl (refl, inr (inl refl)), (inl (refl, inr (inr (inl refl))), tt)));
  bare = bare_by half.lebs refl;
  proper_now = file_is_proper;
  proper = (proper, tt);
  data_head = (refl, tt);
  history = (refl, tt);
  leads = record { named = refl; leads = refl };
  numbers = record { both = (record { base = refl; data_nodes = refl; apart = refl; kept = refl }, tt); live = refl; synced = refl };
  accounted = ((inr (inr (inl (refl, refl))), (inl (inr (inl refl)), (inl (inr (inr (inl refl))), tt))), tt);
  gone = (record { lost = refl; unset = refl; held = tt; orphans = tt }, tt);
  whole_or_left = (whole, tt);
  orphans = record { now = refl; later = refl };
  nameless_are = refl;
  apart = record { numbers = refl; used = refl; buds = refl; ends = (refl, tt); index = refl; leaves = refl; victim = refl };
  taking = tt;
  allotted = tt;
  since = tt;
  begun = tt;
  standing = half_stands;
  weight = (omega arith, tt);
  next_index = tt;
  log = log_lebs;
  covered = record { room = record { fits = omega arith } };
  settled = record { empty = omega arith; index = omega arith };
}
