-- What a sync leaves synced, and what it keeps of numbers.
use Rattle.std.proofs.Common.{◌≡◌, ℕ, true, List, [], ◌∷◌, refl, map, arith, Option, Some, None}
use Rattle.std.specs.Prelude.{IsTrue, nat_le}
use Rattle.std.specs.List.{list_all}
use Rattle.store_model.specs.Events.{sync, synced_orphan}
use Rattle.store_model.specs.Invariant.{AreNumbered, HasNumbers, OfNext, are_within}
use Rattle.store_model.specs.Heads.{head_counts}
use Rattle.store_model.specs.Store.{Next, Orphan, Store}

-- orphans that are synced are all synced
pub all_synced : (orphans : List Orphan) → IsTrue (list_all (λ orphan. orphan.synced) (map synced_orphan orphans))
all_synced [] = refl
all_synced (orphan ∷ orphans) = all_synced orphans

nat_le_self : (n : ℕ) → nat_le n n ≡ true
nat_le_self n = grind (arith)

-- counts are within themselves
pub within_self : (counts : List ℕ) → IsTrue (are_within counts counts)
within_self [] = refl
within_self (n ∷ counts) = rw (nat_le_self n) (within_self counts)

next_numbers : (m : Store) (next : Option Next) → OfNext m next (AreNumbered m) → OfNext (sync m) next (AreNumbered (sync m))
next_numbers m None n = n
next_numbers m (Some next) n = record { base = n.base; data_nodes = n.data_nodes; apart = n.apart; kept = n.kept }

-- numbers that were given stay so, and what was put is synced
pub synced_numbers : (m : Store) → HasNumbers m → HasNumbers (sync m)
synced_numbers m n = record {
  both = (record { base = n.both.0.base; data_nodes = n.both.0.data_nodes; apart = n.both.0.apart; kept = n.both.0.kept }, next_numbers m m.next n.both.1);
  live = n.live;
  synced = within_self (head_counts m.now.buds);
}
