-- What a running commit began on, as the journal tells it.
use Rattle.std.specs.Prelude.{◌≡◌, ℕ, List, [], Option, Some, None}
use Rattle.fs_model.specs.JournalLaws.{groups_of}
use Rattle.fs_model.specs.Orphan.{nameless, without_nameless}
use Rattle.fs_model.specs.Recovery.{Numbered}
use Rattle.fs_model.specs.RecoveryLaws.{in_heads, IsParted, joined, replayed}
use Rattle.store_model.specs.Heads.{heads_of, synced_since}
use Rattle.store_model.specs.Store.{Next, Store}

-- All groups, put on what was committed, lead to the files, but for what has no name; and what was committed has a name.
pub record JournalLeads (m : Store) : Type 0 where
  pub named : nameless (without_nameless m.now.tree) ≡ []
  pub leads : without_nameless m.tree ≡ replayed (without_nameless m.now.tree) (in_heads (groups_of (heads_of m.now.buds m.synced)))

-- Of the groups of each head these came before a running commit began: their numbers are the lower ones, all are synced, and they lead to the tree on which it began.
pub record IsCommitBegun (m : Store) (next : Next) : Type 0 where
  pub before : List (List Numbered)
  pub mark : ℕ
  pub heads : heads_of m.now.buds m.synced ≡ joined before (heads_of next.view.buds (synced_since m next))
  pub parted : IsParted mark m.sqnum before (heads_of next.view.buds (synced_since m next))
  pub began : without_nameless next.view.tree ≡ replayed (without_nameless m.now.tree) (in_heads before)

abbrev pub HasBegun : Store → Option Next → Type 0
HasBegun m None = Unit {0}
HasBegun m (Some next) = IsCommitBegun m next
