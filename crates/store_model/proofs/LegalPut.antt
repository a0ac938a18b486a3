-- The events of a worked put meet their conditions.
use Rattle.std.proofs.Common.{arith, refl, inl, [], ◌∷◌}
use Rattle.ubifs_base.specs.R5.{r5_of}
use Rattle.index_tree.specs.Order.{key_rank}
use Rattle.index_tree.specs.Removal.{same_leaf}
use Rattle.fs_model.specs.Proper.{IsProper}
use Rattle.store_model.specs.Events.{after, Open, put}
use Rattle.store_model.specs.Legal.{AreEventsLegal, CanOpen, CanPut, IsLegalPart, IsIndexAfter}
use Rattle.store_model.specs.Store.{Store}
use Rattle.store_model.specs.Worked.{am_entry, am_inode, am_leaves, am_tree, changed_index, put_am, putting_am, rooted_store}

pub opened : CanOpen rooted_store 1 22
opened = record { head_is = omega arith; empty = refl; log = refl; settled = record { empty = omega arith; index = omega arith } }

pub am_is_proper : IsProper am_tree
am_is_proper = record {
  inodes_ascend = refl;
  blocks_ascend = refl;
  entries_ascend = refl;
  inode_nodes = refl;
  block_nodes = refl;
  entry_nodes = refl;
  root = refl;
  entries = refl;
  inodes = refl;
  linked = refl;
  numbers = refl;
}

abbrev before : Store
before = after (Open 1 22) rooted_store

part : IsLegalPart before (record { head = 1; group = am_entry ∷ am_inode ∷ [] })
part = record {
  head = inl refl;
  data_nodes = λ other. absurd (omega (arith, other));
  group = (refl, refl);
  numbers = (refl, (refl, tt));
  carried = (
    record { node = record { inum_fits = omega arith; kind_known = omega arith; some = omega arith; most = omega arith; plain = refl }; carries = refl },
    (record { node = record { numbered = omega arith; most = omega arith; plain = λ _. refl }; carries = refl }, tt),
  );
  fits = ((refl, refl, refl, (refl, refl, refl, tt)), omega arith);
  keeps = record { are_nodes = refl; revives_none = refl; drops = refl; proper = am_is_proper };
}

index : IsIndexAfter before 2 (put putting_am before).live (changed_index am_leaves)
unfolding key_rank r5_of same_leaf
index = record { contents_are = refl; weight = omega arith; all = refl; places = tt; children = refl }

pub can : CanPut before putting_am
can = record {
  parts = (part, tt);
  paid = (record { bytes = 4096; nodes = 8 }, refl, omega arith, omega arith);
  index = index;
  settled = record { empty = omega arith; index = omega arith };
}

pub legal : AreEventsLegal rooted_store put_am
legal = (opened, (can, tt))
