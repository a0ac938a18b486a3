-- A backing in memory: what there is to say of it, and the numbers that it keeps.
use Rattle.std.specs.Prelude.{◌≡◌, ℕ, ◌+◌, ◌-◌, Bool, false, if◌then◌else◌, min, max, Some, None}
use Rattle.ubifs_base.specs.declared.raw_geometry.RawGeometry.{RawGeometry}
use Rattle.ubifs_base.specs.Areas.{main_lebs}
use Rattle.ubifs_base.specs.RawOf.{raw_of}
use Rattle.fs_model.specs.declared.backing_answers.Mode.{Mode}
use Rattle.fs_model.specs.declared.backing_answers.Mode.TheVariants.{ReadWrite, ReadOnly}
use Rattle.fs_model.specs.declared.backing_answers.StoreFault.{StoreFault}
use Rattle.fs_model.specs.declared.backing_answers.StoreFault.TheVariants.{Memory, Volume, ReadOnly as IsReadOnly}
use Rattle.plain_backing.specs.declared.numbers.Numbers.{Numbers}
use Rattle.plain_backing.specs.declared.backing.PlainBacking.{PlainBacking}
use Rattle.fs_model.specs.declared.refusal.Cause.TheVariants.{Faulted}
use Rattle.fs_model.specs.declared.space.Need.{Need}
use Rattle.fs_model.specs.declared.space.Space.{Space}
use Rattle.fs_model.specs.Backing.{BackingState, Outlook}
use Rattle.fs_model.specs.Cover.{tree_bytes}
use Rattle.fs_model.specs.Files.{Tree}
use Rattle.fs_model.specs.Journal.{Journal}
use Rattle.plain_backing.specs.Covering.{IsCovering}
use Rattle.plain_backing.specs.Story.{Story, medium_of, opened_story}

-- nothing of an index is ever left to write
abbrev pub journal_of : Numbers → Story → Journal
journal_of n s = record { running = n.running; left = 0; nodes = n.nodes; later = n.later; medium = Some (medium_of s) }

-- all that there is to say of a tree with these numbers and this story: nothing is held, and collection never gains
abbrev pub backing_state_with : RawGeometry → Tree → Numbers → Story → BackingState
backing_state_with geo tree n s = record {
  geometry = geo;
  orphan_limit = n.orphan_limit;
  closed = n.closed;
  tree = tree;
  space = record { used = tree_bytes tree; held = 0; credits = n.credits; empty = n.empty; index = n.index; weight = n.weight; main = main_lebs geo };
  grant = n.grant;
  journal = journal_of n s;
  victim = false;
  contents = None;
  mode = n.mode;
  faults = n.faults;
}

abbrev pub backing_state_of : PlainBacking → BackingState
backing_state_of b = backing_state_with (raw_of b.geo) b.tree b.numbers b.story.value

-- all that was promised has room
abbrev pub Covers : BackingState → Type 0
Covers state = IsCovering state.geometry state.tree state.space state.grant

-- it is sure while no failing call is set and all that was promised has room, and never spent
abbrev pub outlook_with : RawGeometry → Tree → Numbers → Story → Outlook
outlook_with geo tree n s = record { sure = (n.strike ≡ 0) × Covers (backing_state_with geo tree n s); spent = ⊥; strike = Some n.strike }

abbrev pub outlook_of : PlainBacking → Outlook
outlook_of b = outlook_with (raw_of b.geo) b.tree b.numbers b.story.value

-- a call that doesn't fail brings the one that does nearer
abbrev pub counted_call : Numbers → Numbers
counted_call n = record n { strike = n.strike - 1 }

-- the mode after a fault
abbrev pub faulted : Mode → ℕ → Mode
faulted ReadWrite count = ReadOnly (Faulted count)
faulted mode count = mode

-- the call that fails
abbrev pub failed : Numbers → Numbers
failed n = let count = min (n.faults + 1) 18446744073709551615 in record n { strike = 0; faults = count; mode = faulted n.mode count }

-- what there is to say of a new one in this mode: no credit is covered, no commit runs and nothing was put
abbrev pub new_state : RawGeometry → Tree → Space → ℕ → Mode → BackingState
new_state geo tree space orphan_room mode = record {
  geometry = geo;
  orphan_limit = orphan_room;
  closed = 0;
  tree = tree;
  space = record space { used = tree_bytes tree; held = 0 };
  grant = None;
  journal = record { running = None; left = 0; nodes = 0; later = 0; medium = Some (medium_of (opened_story tree)) };
  victim = false;
  contents = None;
  mode = mode;
  faults = 0;
}

-- the credits are covered, and the bytes and nodes are the grant
abbrev pub admitted : Numbers → Need → Numbers
admitted n need = record n { credits = n.credits + need.credits; grant = Some (record { bytes = need.bytes; nodes = need.nodes }) }

-- a number that stays at the end of its type
abbrev pub plus : ℕ → ℕ → ℕ
plus a b = min (a + b) 18446744073709551615

-- so many nodes were put
abbrev pub with_nodes_put : Numbers → ℕ → Numbers
with_nodes_put n nodes = record n { weight = n.weight + nodes; nodes = plus n.nodes nodes; later = plus n.later nodes }

-- a credit is spent on a page
abbrev pub page_spent : Numbers → Numbers
page_spent n = with_nodes_put (record n { credits = n.credits - 1 }) 2

-- the grant is spent on a group of so many nodes
abbrev pub group_spent : Numbers → ℕ → Numbers
group_spent n nodes = with_nodes_put (record n { grant = None }) nodes

-- a commit runs, of the next number; no orphan was closed since its start
abbrev pub begun : Numbers → Numbers
begun n = record n { running = Some (plus n.ended 1); later = 0; closed = 0 }

-- an orphan was closed, which the last commit's list may name
abbrev pub with_closed : Numbers → Bool → Numbers
with_closed n named = record n { closed = if named then plus n.closed 1 else n.closed }

-- The commit of this number has ended. The weight is that of its index, or the first one if that is more, but no more than before.
abbrev pub ended_as : Numbers → ℕ → ℕ → Numbers
ended_as n cmt_no index = record n { running = None; ended = cmt_no; nodes = n.later; weight = min n.weight (max n.base index) }

-- a changing call that isn't done: it is the one that fails, or the store is read-only
abbrev pub IsChangeRefused : Numbers → Numbers → StoreFault → Type 0
IsChangeRefused old new Memory = ⊥
IsChangeRefused old new (Volume count) = (new ≡ failed old) × (old.strike ≡ 1) × (old.mode ≡ ReadWrite) × (count ≡ new.faults)
IsChangeRefused old new (IsReadOnly cause) = (new ≡ old) × (old.mode ≡ ReadOnly cause)
