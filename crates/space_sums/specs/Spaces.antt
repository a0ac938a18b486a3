-- Which numbers of a store may follow which.
use Rattle.std.specs.Prelude.{◌≡◌, ℕ, ◌+◌, ◌-◌, ◌*◌, ◌≤◌, nat_le, if◌then◌else◌}
use Rattle.ubifs_base.specs.declared.raw_geometry.RawGeometry.{RawGeometry}
use Rattle.fs_model.specs.declared.space.Space.{Space}
use Rattle.fs_model.specs.declared.space.Need.{Need}
use Rattle.fs_model.specs.declared.space.Class.TheVariants.{Removal}
use Rattle.fs_model.specs.Cover.{index_lebs, reserve, credit_bytes, needed, room_for}
use Rattle.fs_model.specs.Settled.{IsSettled}

-- with so many more empty LEBs, as where a commit gives back those that it took
abbrev pub with_empty : ℕ → Space → Space
with_empty lebs space = record space { empty = space.empty + lebs }

-- with so many more main LEBs, all empty
abbrev pub with_lebs : ℕ → Space → Space
with_lebs lebs space = record space { empty = space.empty + lebs; main = space.main + lebs }

-- with so many more credits
abbrev pub with_credits : ℕ → Space → Space
with_credits credits space = record space { credits = space.credits + credits }

-- what an admitted need has beside its credits
abbrev pub grant_of : Need → Need
grant_of need = record { credits = 0; bytes = need.bytes; nodes = need.nodes; class = Removal }

-- the need has room beside all credits that were granted before
pub record HasRoom (geo : RawGeometry) (space : Space) (need : Need) : Type 0 where
  pub fits : needed space need ≤ room_for geo space need

-- a page was put: a credit is spent, for the bytes and the weight of two nodes
pub record IsAfterPage (old new : Space) : Type 0 where
  pub bytes : new.used + new.held ≤ old.used + old.held + credit_bytes
  pub credits : new.credits + 1 ≡ old.credits
  pub weight : new.weight ≤ old.weight + 2
  pub index : new.index ≡ old.index
  pub main : new.main ≡ old.main

-- a group was put, of no more bytes and nodes than were granted
pub record IsAfterGroup (grant : Need) (old new : Space) : Type 0 where
  pub bytes : new.used + new.held ≤ old.used + old.held + grant.bytes
  pub credits : new.credits ≡ old.credits
  pub weight : new.weight ≤ old.weight + grant.nodes
  pub index : new.index ≡ old.index
  pub main : new.main ≡ old.main

-- what a cut leaves: nothing is held or granted, and what a commit took is empty again
pub record IsLeftByCut (taken : ℕ) (old new : Space) : Type 0 where
  pub used : new.used ≤ old.used + old.held
  pub held : new.held ≡ 0
  pub credits : new.credits ≡ 0
  pub empty : old.empty + taken ≤ new.empty
  pub index : new.index ≡ old.index
  pub weight : new.weight ≤ old.weight
  pub main : new.main ≡ old.main

-- what a commit leaves: an index of no more weight, in at most twice the LEBs that the old weight asks for
pub record IsAfterCommit (geo : RawGeometry) (old new : Space) : Type 0 where
  pub bytes : new.used + new.held ≤ old.used + old.held
  pub credits : new.credits ≡ old.credits
  pub index : new.index ≤ 2 * index_lebs geo old.weight
  pub weight : new.weight ≤ old.weight
  pub main : new.main ≡ old.main

-- neither more bytes nor more weight: a collection moves leaves, and an inode that is dropped takes its own out
pub record IsNoMore (old new : Space) : Type 0 where
  pub bytes : new.used + new.held ≤ old.used + old.held
  pub credits : new.credits ≡ old.credits
  pub weight : new.weight ≤ old.weight
  pub index : new.index ≡ old.index
  pub main : new.main ≡ old.main

-- A commit that runs: the LEBs that it took, those that its index has, and the weight that the store has at its end: that of its index, and of the nodes put since it began.
pub record Running : Type 0 where
  pub taken : ℕ
  pub lebs : ℕ
  pub weight : ℕ

-- no index outgrows twice what the weight asks for, nor weighs more than the store did
pub record IsNextIndex (geo : RawGeometry) (next : Running) (space : Space) : Type 0 where
  pub lebs : next.lebs ≤ 2 * index_lebs geo space.weight
  pub weight : next.weight ≤ space.weight

-- what a cut leaves while a commit runs: what it took is empty again
abbrev pub at_cut : Running → Space → Space
at_cut next space = with_empty next.taken space

-- what the commit's end leaves: its LEBs are the index's, and all others that it took, or that the old index had, are empty
abbrev pub at_end : Running → Space → Space
at_end next space = record space { empty = space.empty + space.index + next.taken - next.lebs; index = next.lebs; weight = next.weight }

-- settled while a commit runs: as a cut leaves the store, and as the commit's end does
pub record IsSettledTwice (geo : RawGeometry) (next : Running) (space : Space) : Type 0 where
  pub cut : IsSettled geo (at_cut next space)
  pub end : IsSettled geo (at_end next space)

-- The LEBs that a commit takes, of an index of so many nodes of which some changed: those of the changed ones, or, where these and the index that is there come to more than twice what the weight asks for, those of all.
abbrev pub taken_lebs : RawGeometry → Space → ℕ → ℕ → ℕ
taken_lebs geo space nodes dirty =
    if nat_le (space.index + index_lebs geo dirty) (2 * index_lebs geo space.weight) then index_lebs geo dirty else index_lebs geo nodes

-- so many heads went on to LEBs that were empty, and so many nodes were put
abbrev pub with_heads : ℕ → ℕ → Space → Space
with_heads opened nodes space = record space { empty = space.empty - opened; weight = space.weight + nodes }

-- no number of the second pair is lower, but that of main LEBs, which is no higher
pub record AsksNoLess (less : Space) (asked : Need) (more : Space) (asked_more : Need) : Type 0 where
  pub used : less.used ≤ more.used
  pub held : less.held ≤ more.held
  pub credits : less.credits + asked.credits ≤ more.credits + asked_more.credits
  pub bytes : asked.bytes ≤ asked_more.bytes
  pub nodes : asked.nodes ≤ asked_more.nodes
  pub index : less.index ≤ more.index
  pub weight : less.weight ≤ more.weight
  pub main : more.main ≤ less.main
  pub reserve : reserve asked.class ≤ reserve asked_more.class
