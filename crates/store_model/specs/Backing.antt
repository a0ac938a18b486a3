-- A store as a backing of files.
use Rattle.std.specs.Prelude.{ℕ, ◌-◌, List, [], ◌∷◌, length, map, Option, Some, None}
use Rattle.std.specs.List.{list_any}
use Rattle.std.specs.Option.{option_map, option_map_or}
use Rattle.fs_model.specs.declared.backing_answers.Mode.{Mode}
use Rattle.fs_model.specs.declared.change.Change.{Change}
use Rattle.fs_model.specs.Backing.{BackingState}
use Rattle.fs_model.specs.Files.{Tree}
use Rattle.fs_model.specs.Journal.{Journal, Medium}
use Rattle.fs_model.specs.Orphan.{without_nameless}
use Rattle.space_budget.specs.Books.{BookState}
use Rattle.store_model.specs.Events.{Part}
use Rattle.store_model.specs.Heads.{begun_of, changes_of, heads_of}
use Rattle.store_model.specs.Lebs.{is_victim, space_of}
use Rattle.store_model.specs.Store.{Next, Store}

-- what a store doesn't keep itself: the limit of its list of orphans, the bytes of its volume where they are told, and how it stands with that
pub record Outside : Type 0 where
  pub orphan_limit : ℕ
  pub contents : Option (List ℕ)
  pub mode : Mode
  pub faults : ℕ

-- how many groups each head had when the running commit began; the collector's head has none
abbrev pub begun_groups : Store → Option Next → List ℕ
begun_groups m None = []
begun_groups m (Some next) = by (begun_of m next)
  where
    by : List ℕ → List ℕ
    by [] = []
    by (copies ∷ groups) = 0 ∷ groups

-- the tree on which the running commit began
abbrev pub started_tree : Store → Tree
started_tree m = without_nameless (option_map_or (λ next. next.view.tree) m.next m.now.tree)

-- what the journal tells
abbrev pub store_medium_of : Store → Medium
store_medium_of m = record {
  committed = without_nameless m.now.tree;
  heads = heads_of m.now.buds m.synced;
  sqnum = m.sqnum;
  started = started_tree m;
  begun = begun_groups m m.next;
}

abbrev pub store_journal_of : Store → Journal
store_journal_of m = record {
  running = option_map (λ next. next.view.cmt_no) m.next;
  left = option_map_or (λ next. length next.taken - next.written) m.next 0;
  nodes = m.now.put;
  later = option_map_or (λ next. next.view.put) m.next 0;
  medium = Some (store_medium_of m);
}

-- the numbers of a store as a book has them, with what is granted
abbrev pub book_of : Store → BookState
book_of m = record { geo = m.geo; space = space_of m; grant = m.grant }

-- all that there is to say of a store as a backing
abbrev pub backing_of : Store → Outside → BackingState
backing_of m outside = record {
  geometry = m.geo;
  orphan_limit = outside.orphan_limit;
  closed = length m.closed;
  tree = m.tree;
  space = space_of m;
  grant = m.grant;
  journal = store_journal_of m;
  victim = list_any (is_victim m) m.lebs;
  contents = outside.contents;
  mode = outside.mode;
  faults = outside.faults;
}

-- the groups of a put as a backing's, each at its head
abbrev pub puts_of : List Part → List (ℕ × List Change)
puts_of parts = map (λ part. (part.head, changes_of part.group)) parts
