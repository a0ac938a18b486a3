-- Worked stores meet the invariant.
use Rattle.std.proofs.Common.{◌≡◌, ◌≤◌, ℕ, zero, suc, arith, ◌∙◌, refl, sym, subst, inl, inr, [], ◌∷◌, List}
use Rattle.std.specs.Int.Count.{count_leading_zeros, ones}
use Rattle.std.specs.List.{IsDistinct}
use Rattle.std.specs.Prelude.{map}
use Rattle.ubifs_base.specs.Geometry.{IsGeometry}
use Rattle.ubifs_base.specs.Properties.{fls, height_from, tree_height, tree_len}
use Rattle.ubifs_base.specs.R5.{r5_of}
use Rattle.index_tree.specs.Distinct.{AreDistinct}
use Rattle.index_tree.specs.Order.{key_rank}
use Rattle.index_tree.specs.Removal.{same_leaf}
use Rattle.media_lpt.specs.declared.leb_kind.LebKind.TheVariants as kind
use Rattle.fs_model.specs.Files.{Tree}
use Rattle.fs_model.specs.Proper.{IsProper}
use Rattle.fs_model.specs.Recovery.{KeepsSynced, recovered, taken}
use Rattle.store_model.specs.Fits.{faced_now}
use Rattle.store_model.specs.Heads.{heads_of}
use Rattle.store_model.specs.Indexed.{IsIndexed}
use Rattle.store_model.specs.Invariant.{AreOfViews, AreProper, AreWholeOrLeft, HasCommittedView, HasFiles, IsStore}
use Rattle.store_model.specs.LogRing.{HasLogLebs}
use Rattle.store_model.specs.Texts.{AreTexts, IsLaidOut}
use Rattle.store_model.specs.Worked.{am_tree, geo, one_file, root_tree, rooted_store}
use Rattle.store_model.proofs.BareLebs.{bare_by}

root_is_proper : IsProper root_tree
root_is_proper = record {
  inodes_ascend = refl;
  blocks_ascend = refl;
  entries_ascend = refl;
  inode_nodes = refl;
  block_nodes = refl;
  entry_nodes = refl;
  root = refl;
  entries = refl;
  inodes = refl;
  linked = refl;
  numbers = refl;
}

pub file_is_proper : IsProper am_tree
file_is_proper = record {
  inodes_ascend = refl;
  blocks_ascend = refl;
  entries_ascend = refl;
  inode_nodes = refl;
  block_nodes = refl;
  entry_nodes = refl;
  root = refl;
  entries = refl;
  inodes = refl;
  linked = refl;
  numbers = refl;
}

none : {A : Type 0} → (n : ℕ) → suc n ≤ 0 → A
none n high = absurd (omega (arith, high))

-- nothing was put, so a cut leaves the committed tree
pub same_tree : (tree : Tree) (counts : List ℕ) → recovered tree (taken (heads_of [] (0 ∷ 0 ∷ 0 ∷ [])) (0 ∷ 0 ∷ 0 ∷ [])) ≡ tree → KeepsSynced (heads_of [] (0 ∷ 0 ∷ 0 ∷ [])) counts
    → recovered tree (taken (heads_of [] (0 ∷ 0 ∷ 0 ∷ [])) counts) ≡ tree
same_tree tree [] still keeps = absurd keeps
same_tree tree (suc n ∷ counts) still (low, high, rest) = none n high
same_tree tree (zero ∷ []) still (low, high, rest) = absurd rest
same_tree tree (zero ∷ suc n ∷ counts) still (l, h, (low, high, rest)) = none n high
same_tree tree (zero ∷ zero ∷ []) still (l, h, (low, high, rest)) = absurd rest
same_tree tree (zero ∷ zero ∷ suc n ∷ counts) still (l, h, (k, i, (low, high, rest))) = none n high
same_tree tree (zero ∷ zero ∷ zero ∷ []) still keeps = still
same_tree tree (zero ∷ zero ∷ zero ∷ n ∷ counts) still (l, h, (k, i, (low, high, rest))) = absurd rest

worked_tree_len : tree_len geo ≡ 102
unfolding fls count_leading_zeros tree_height height_from
worked_tree_len = refl

pub geometry : IsGeometry geo
unfolding ones
geometry = record {
  min_io = (refl, omega arith, omega arith);
  leb_size = (omega arith, omega arith, refl, omega arith);
  log_lebs = (omega arith, omega arith);
  lpt_lebs = (omega arith, omega arith);
  orph_lebs = (omega arith, omega arith);
  leb_cnt = (omega arith, omega arith);
  max_leb_cnt = omega arith;
  one_leb = omega (arith, worked_tree_len);
  fanout = (omega arith, omega arith);
}

-- ---- the root alone
files : HasFiles rooted_store
unfolding key_rank r5_of same_leaf
files = record { leaves = record { keyed = (refl, tt); ordered = refl; apart = refl }; tree = refl; index = refl }

distinct : AreDistinct (map (λ x. x.leaf) rooted_store.live)
unfolding IsDistinct
distinct = (tt, tt)

committed : HasCommittedView rooted_store.now
unfolding key_rank r5_of
committed = record { leaves = record { keyed = (refl, tt); ordered = refl; apart = refl }; distinct = distinct; tree = refl; inodes = (tt, tt); highest = refl; copies = tt }

proper : AreProper (faced_now rooted_store)
proper tree r = subst IsProper (sym (same_tree root_tree r.counts refl r.synced) ∙ sym r.tree_is) root_is_proper

whole : AreWholeOrLeft rooted_store (faced_now rooted_store)
whole lnum = inl ((λ _. (inl (refl, inl refl), refl)), tt)

-- a LEB without a text
laid : {lnum : ℕ} → IsLaidOut geo (record { lnum = lnum; role = kind.Free; text = [] })
laid = record { places = refl; fits = omega arith }

texts : AreTexts rooted_store
unfolding key_rank r5_of
texts = record {
  laid = (record { places = refl; fits = omega arith }, (record { places = refl; fits = omega arith }, (laid, (laid, (laid, (laid, (laid, (laid, (laid, (laid, (laid, (laid, tt))))))))))));
  buds = record { distinct = refl; each = tt };
  later = tt;
  ends = (tt, (tt, (tt, tt)));
  written = tt;
}

indexed : IsIndexed rooted_store
unfolding key_rank r5_of
indexed = record { now = record { nodes = (inr refl, tt); apart = refl }; next = tt; last = (inl (refl, refl), tt); children = refl }

of_views : AreOfViews rooted_store
of_views = record { live = ((inr (inl refl), tt), tt); held = tt }

log_lebs : HasLogLebs rooted_store
log_lebs = record { heads = refl; synced = refl; first = omega arith; last = omega arith; within = omega arith; unit = refl; kept = omega arith; on_the_way = tt }

pub root_is_store : IsStore rooted_store
unfolding key_rank r5_of same_leaf
root_is_store = record {
  geometry = geometry;
  main = refl;
  files = files;
  owned = record { nodes = (record { numbered = omega arith; most = omega arith; plain = λ _. refl }, tt); inodes = (tt, tt); highest = refl };
  views = record { committed = (committed, tt); carried = (tt, tt) };
  distinct = distinct;
  places = refl;
  stands = (inl (refl, inl refl), tt);
  bare = bare_by rooted_store.lebs refl;
  proper_now = root_is_proper;
  proper = (proper, tt);
  data_head = (refl, tt);
  history = (refl, tt);
  leads = record { named = refl; leads = refl };
  numbers = record { both = (record { base = refl; data_nodes = refl; apart = refl; kept = refl }, tt); live = refl; synced = refl };
  accounted = ((inl (inl refl), tt), tt);
  gone = (record { lost = refl; unset = refl; held = tt; orphans = tt }, tt);
  whole_or_left = (whole, tt);
  orphans = record { now = refl; later = refl };
  nameless_are = refl;
  apart = record { numbers = refl; used = refl; buds = refl; ends = tt; index = refl; leaves = refl; victim = refl };
  taking = tt;
  allotted = tt;
  since = tt;
  begun = tt;
  standing = record { texts = texts; indexed = indexed; of_views = of_views };
  weight = (omega arith, tt);
  next_index = tt;
  log = log_lebs;
  covered = record { room = record { fits = omega arith } };
  settled = record { empty = omega arith; index = omega arith };
}

-- ---- a file with its name
file_files : HasFiles one_file
unfolding key_rank r5_of same_leaf
file_files = record { leaves = record { keyed = (refl, (refl, (refl, tt))); ordered = refl; apart = refl }; tree = refl; index = refl }

file_distinct : AreDistinct (map (λ x. x.leaf) one_file.live)
unfolding IsDistinct key_rank r5_of same_leaf
file_distinct = ((refl, (refl, tt)), ((refl, tt), (tt, tt)))

file_committed : HasCommittedView one_file.now
unfolding key_rank r5_of
file_committed = record { leaves = record { keyed = (refl, (refl, (refl, tt))); ordered = refl; apart = refl }; distinct = file_distinct; tree = refl; inodes = (tt, (tt, (tt, tt))); highest = refl; copies = tt }

file_proper : AreProper (faced_now one_file)
file_proper tree r = subst IsProper (sym (same_tree am_tree r.counts refl r.synced) ∙ sym r.tree_is) file_is_proper

file_whole : AreWholeOrLeft one_file (faced_now one_file)
file_whole lnum = inl ((λ _. (inl (refl, inl refl), refl)), ((λ _. (inl (refl, inr (inl refl)), refl)), ((λ _. (inl (refl, inr (inr (inl refl))), refl)), tt)))

file_texts : AreTexts one_file
unfolding key_rank r5_of
file_texts = record {
  laid = (record { places = refl; fits = omega arith }, (record { places = refl; fits = omega arith }, (laid, (laid, (laid, (laid, (laid, (laid, (laid, (laid, (laid, (laid, tt))))))))))));
  buds = record { distinct = refl; each = tt };
  later = tt;
  ends = (tt, (tt, (tt, tt)));
  written = tt;
}

file_indexed : IsIndexed one_file
unfolding key_rank r5_of
file_indexed = record { now = record { nodes = (inr refl, tt); apart = refl }; next = tt; last = (inl (refl, refl), tt); children = refl }

file_of_views : AreOfViews one_file
file_of_views = record { live = ((inr (inl refl), tt), ((inr (inr (inl refl)), tt), ((inr (inr (inr (inl refl))), tt), tt))); held = tt }

file_log_lebs : HasLogLebs one_file
file_log_lebs = record { heads = refl; synced = refl; first = omega arith; last = omega arith; within = omega arith; unit = refl; kept = omega arith; on_the_way = tt }

pub file_is_store : IsStore one_file
unfolding key_rank r5_of same_leaf
file_is_store = record {
  geometry = geometry;
  main = refl;
  files = file_files;
  owned = record {
    nodes = (
      record { numbered = omega arith; most = omega arith; plain = λ _. refl },
      (record { inum_fits = omega arith; kind_known = omega arith; some = omega arith; most = omega arith; plain = refl }, (record { numbered = omega arith; most = omega arith; plain = λ _. refl }, tt)),
    );
    inodes = (tt, (tt, (tt, tt)));
    highest = refl;
  };
  views = record { committed = (file_committed, tt); carried = (tt, tt) };
  distinct = file_distinct;
  places = refl;
  stands = (inl (refl, inl refl), (inl (refl, inr (inl refl)), (inl (refl, inr (inr (inl refl))), tt)));
  bare = bare_by one_file.lebs refl;
  proper_now = file_is_proper;
  proper = (file_proper, tt);
  data_head = (refl, tt);
  history = (refl, tt);
  leads = record { named = refl; leads = refl };
  numbers = record { both = (record { base = refl; data_nodes = refl; apart = refl; kept = refl }, tt); live = refl; synced = refl };
  accounted = ((inl (inl refl), (inl (inr (inl refl)), (inl (inr (inr (inl refl))), tt))), tt);
  gone = (record { lost = refl; unset = refl; held = tt; orphans = tt }, tt);
  whole_or_left = (file_whole, tt);
  orphans = record { now = refl; later = refl };
  nameless_are = refl;
  apart = record { numbers = refl; used = refl; buds = refl; ends = tt; index = refl; leaves = refl; victim = refl };
  taking = tt;
  allotted = tt;
  since = tt;
  begun = tt;
  standing = record { texts = file_texts; indexed = file_indexed; of_views = file_of_views };
  weight = (omega arith, tt);
  next_index = tt;
  log = file_log_lebs;
  covered = record { room = record { fits = omega arith } };
  settled = record { empty = omega arith; index = omega arith };
}
