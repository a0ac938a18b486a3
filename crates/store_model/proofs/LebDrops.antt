-- What an inode that is dropped makes of LEBs, and that a running commit's LEBs stay taken.
use Rattle.std.proofs.Common.{◌≡◌, ℕ, Bool, true, false, cond, not, [], ◌∷◌, ◌++◌, refl, ◌∙◌}
use Rattle.std.specs.Prelude.{◌==◌, ◌||◌, filter}
use Rattle.std.specs.List.{list_any}
use Rattle.std.proofs.lemmas.List.Folds.{list_any-append}
use Rattle.fs_model.specs.declared.change.Change.TheVariants.{DropInode}
use Rattle.fs_model.specs.Change.{without_inode}
use Rattle.leaf_map.specs.After.{is_gone}
use Rattle.store_model.specs.Events.{drop_inode, is_synced_orphan, last_list}
use Rattle.store_model.specs.Invariant.{AreRolesApart}
use Rattle.store_model.specs.Lebs.{is_among, stands_in}
use Rattle.store_model.specs.Store.{StoreIndex, Store}
use Rattle.store_model.proofs.LebFrees.{HasFewer, tidied_apart}
use Rattle.store_model.proofs.LebLeaves.{all_filter, any_filter, or_none}
use Rattle.store_model.proofs.Sorting.{or_false}

abbrev pub dropped_store : ℕ → StoreIndex → Store → Store
dropped_store ino index m = record m {
  tree = without_inode m.tree ino;
  index = index;
  live = filter (λ x. not (is_gone (DropInode ino) x)) m.live;
  held = cond (is_synced_orphan m.orphans ino) m.held (m.held ++ filter (is_gone (DropInode ino)) m.live);
  orphans = filter (λ orphan. not (orphan.ino == ino)) m.orphans;
  closed = cond (is_among (last_list m) ino) (m.closed ++ ino ∷ []) m.closed;
}

drop_fewer : (m : Store) (ino : ℕ) (index : StoreIndex) → HasFewer m (dropped_store ino index m)
drop_fewer m ino index = record { lebs = refl; none = none; live = λ test h. all_filter (λ x. test x.leaf.lnum) (λ x. not (is_gone (DropInode ino) x)) m.live h; buds = refl; places = refl; next = refl; moving = refl }
  where
    none : (lnum : ℕ) → (list_any (stands_in lnum) m.live || list_any (stands_in lnum) m.held) ≡ false
        → (list_any (stands_in lnum) (filter (λ x. not (is_gone (DropInode ino) x)) m.live)
        || list_any (stands_in lnum) (cond (is_synced_orphan m.orphans ino) m.held (m.held ++ filter (is_gone (DropInode ino)) m.live))) ≡ false
    none lnum h =
        let q = or_false (list_any (stands_in lnum) m.live) (list_any (stands_in lnum) m.held) h in
        or_none (list_any (stands_in lnum) (filter (λ x. not (is_gone (DropInode ino) x)) m.live))
        (list_any (stands_in lnum) (cond (is_synced_orphan m.orphans ino) m.held (m.held ++ filter (is_gone (DropInode ino)) m.live)))
        (any_filter (stands_in lnum) (λ x. not (is_gone (DropInode ino) x)) m.live q.0) (by q.0 q.1 (is_synced_orphan m.orphans ino))
      where
        by : list_any (stands_in lnum) m.live ≡ false → list_any (stands_in lnum) m.held ≡ false → (b : Bool)
            → list_any (stands_in lnum) (cond b m.held (m.held ++ filter (is_gone (DropInode ino)) m.live)) ≡ false
        by a b true = b
        by a b false =
            list_any-append (stands_in lnum) m.held (filter (is_gone (DropInode ino)) m.live)
            ∙ or_none (list_any (stands_in lnum) m.held) (list_any (stands_in lnum) (filter (is_gone (DropInode ino)) m.live)) b (any_filter (stands_in lnum) (is_gone (DropInode ino)) m.live a)

pub drop_apart : (m : Store) (ino : ℕ) (index : StoreIndex) → AreRolesApart m → AreRolesApart (drop_inode ino index m)
drop_apart m ino index a = tidied_apart m (dropped_store ino index m) a (drop_fewer m ino index) a.ends
