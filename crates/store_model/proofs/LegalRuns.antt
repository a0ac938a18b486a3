-- The events of a whole commit with a put inside, and of a whole collection, meet their conditions.
use Rattle.std.proofs.Common.{arith, refl, inl, inr, [], ◌∷◌}
use Rattle.ubifs_base.specs.R5.{r5_of}
use Rattle.index_tree.specs.Order.{key_rank}
use Rattle.index_tree.specs.Removal.{same_leaf}
use Rattle.fs_model.specs.Proper.{IsProper}
use Rattle.store_model.specs.Events.{after, Begin, Move, Open, put, run, Start, Sync}
use Rattle.store_model.specs.Legal.{AreEventsLegal, CanBegin, CanFree, CanMove, CanOpen, CanPut, CanStart, IsLegalPart, IsIndexAfter}
use Rattle.store_model.specs.Store.{Store}
use Rattle.store_model.specs.Worked.{bb_entry, bb_inode, bb_leaves, bb_tree, changed_index, collected_events, moving_entry, moving_file, moving_root, one_file, put_am, putting_bb, rooted_store, whole_commit}
use Rattle.store_model.proofs.LegalPut.{can, opened}

-- ---- a commit
abbrev am_put : Store
am_put = run put_am rooted_store

abbrev am_synced : Store
am_synced = after Sync am_put

starts : CanStart am_synced (23 ∷ [])
unfolding key_rank r5_of same_leaf
starts = record {
  idle = refl;
  unlent = refl;
  synced = record { counts = refl; none_held = refl; orphans = refl };
  empty = refl;
  distinct = refl;
  count = refl;
  spare = omega arith;
  log = omega arith;
}

abbrev started : Store
started = after (Start (23 ∷ [])) am_synced

pub bb_is_proper : IsProper bb_tree
bb_is_proper = record {
  inodes_ascend = refl;
  blocks_ascend = refl;
  entries_ascend = refl;
  inode_nodes = refl;
  block_nodes = refl;
  entry_nodes = refl;
  root = refl;
  entries = refl;
  inodes = refl;
  linked = refl;
  numbers = refl;
}

part : IsLegalPart started (record { head = 1; group = bb_entry ∷ bb_inode ∷ [] })
part = record {
  head = inl refl;
  data_nodes = λ other. absurd (omega (arith, other));
  group = (refl, refl);
  numbers = (refl, (refl, tt));
  carried = (
    record { node = record { inum_fits = omega arith; kind_known = omega arith; some = omega arith; most = omega arith; plain = refl }; carries = refl },
    (record { node = record { numbered = omega arith; most = omega arith; plain = λ _. refl }; carries = refl }, tt),
  );
  fits = ((refl, refl, refl, (refl, refl, refl, tt)), omega arith);
  keeps = record { are_nodes = refl; revives_none = refl; drops = refl; proper = bb_is_proper };
}

index : IsIndexAfter started 2 (put putting_bb started).live (changed_index bb_leaves)
unfolding key_rank r5_of same_leaf
index = record { contents_are = refl; weight = omega arith; all = refl; places = tt; children = refl }

puts : CanPut started putting_bb
unfolding key_rank r5_of same_leaf
puts = record {
  parts = (part, tt);
  paid = (omega arith, omega arith, omega arith);
  index = index;
  settled = record { cut = record { empty = omega arith; index = omega arith }; end = record { empty = omega arith; index = omega arith } };
}

-- each event of the commit
pub legal_commit : AreEventsLegal rooted_store whole_commit
legal_commit = (opened, (can, (tt, (starts, (puts, (omega arith, ((refl, refl), (refl, tt))))))))

-- ---- a collection
begins : CanBegin one_file 20
begins = record { idle = refl; leaf_leb = refl }

abbrev begun : Store
begun = after (Begin 20) one_file

opens : CanOpen begun 0 24
opens = record { head_is = omega arith; empty = refl; log = refl; settled = record { empty = omega arith; index = omega arith } }

abbrev ready : Store
ready = after (Open 0 24) begun

root_moves : CanMove ready moving_root
unfolding key_rank r5_of same_leaf
root_moves = record {
  live = inl refl;
  victim = refl;
  node_is = refl;
  sqnum = refl;
  fits = ((refl, refl, refl, tt), omega arith);
  index = record { contents_are = refl; weight = omega arith; all = refl; places = tt; children = refl };
}

abbrev half : Store
half = after (Move moving_root) ready

entry_moves : CanMove half moving_entry
unfolding key_rank r5_of same_leaf
entry_moves = record {
  live = inr (inl refl);
  victim = refl;
  node_is = refl;
  sqnum = refl;
  fits = ((refl, refl, refl, tt), omega arith);
  index = record { contents_are = refl; weight = omega arith; all = refl; places = tt; children = refl };
}

abbrev two_moved : Store
two_moved = after (Move moving_entry) half

file_moves : CanMove two_moved moving_file
unfolding key_rank r5_of same_leaf
file_moves = record {
  live = inr (inr (inl refl));
  victim = refl;
  node_is = refl;
  sqnum = refl;
  fits = ((refl, refl, refl, tt), omega arith);
  index = record { contents_are = refl; weight = omega arith; all = refl; places = tt; children = refl };
}

abbrev copied : Store
copied = after Sync (after (Move moving_file) two_moved)

frees : CanFree copied
unfolding key_rank r5_of same_leaf
frees = record { synced = record { counts = refl; none_held = refl; orphans = refl }; empty = refl }

-- each event of the collection
pub legal_collection : AreEventsLegal one_file collected_events
legal_collection = (begins, (opens, (root_moves, (entry_moves, (file_moves, (tt, (frees, tt)))))))
