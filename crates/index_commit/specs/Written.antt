-- What a commit leaves of an index, in memory and on the volume.
use Rattle.std.specs.Prelude.{◌≡◌, ◌⊎◌, ◌<◌, ◌≤◌, ◌+◌, ◌-◌, ◌*◌, ◌%◌, ◌==◌, ℕ, if◌then◌else◌, List, [], ◌∷◌, ◌++◌, Option, None, Some, length, slice_get, All}
use Rattle.ubifs_base.specs.Gap.{gap_of}
use Rattle.ubifs_base.specs.declared.raw_geometry.RawGeometry.{RawGeometry}
use Rattle.index_media.specs.Clean.{placed_of}
use Rattle.index_media.specs.KeyedRow.{KeyedRow, no_more, all_clean}
use Rattle.index_media.specs.PlacedRow.{PlacedRow, Stretch, lebs_of}
use Rattle.index_media.specs.Standing.{AreStandingAs}
use Rattle.index_media.specs.Stored.{IsStoredIndex}
use Rattle.media_sys.specs.declared.branch.Branch.{Branch}
use Rattle.table_nodes.specs.NodeView.{tree_at}
use Rattle.node_table.specs.Placing.{KeepsPlaces, without_number}
use Rattle.table_nodes.specs.Stubs.{unplaced}
use Rattle.table_nodes.specs.declared.node.Root.{Root}
use Rattle.ubi_volume.specs.Frame.{Elsewhere, IsSameLeb, Works}
use Rattle.ubi_volume.specs.Volume.{VolumeState, Keeps, Leaves, Only, filled}
use Rattle.index_cache.specs.Commit.{said_of}
use Rattle.index_cache.specs.Paged.{dirty_of, frozen_of, keyed_tree_of, KeepsRoots}
use Rattle.index_cache.specs.declared.paged.PagedIndex.{PagedIndex}
use Rattle.index_commit.specs.Lebs.{AreLebsApart, IsGiven}
use Rattle.index_commit.specs.LebTexts.{firsts, in_rooms, said_by}
use Rattle.index_commit.specs.Rooms.{Room, room_in, place_by_number, AreDistinctNumbers, AreInRooms, IsNotAmong, whole_units}
use Rattle.index_commit.specs.Standing.{AreOutside}
use Rattle.index_commit.specs.declared.index_at.IndexAt.{IndexAt}
use Rattle.index_commit.specs.declared.index_at.IndexHead.{IndexHead}

-- The index in memory: below each root, the frozen one and the one that is seen included, stands what stood there, but that
-- nodes that were dirty may have places. A node keeps its level and its links, and one that isn't loaded keeps its place and what it tells
pub record IsIndexKept (old new : PagedIndex) : Type 0 where
  pub levels : (number : ℕ) → (said_of new number).level ≡ (said_of old number).level
  pub unplaced : unplaced new.table.nodes.items ≡ unplaced old.table.nodes.items
  pub frozen : KeepsPlaces (frozen_of old) (frozen_of new)
  pub tree : KeepsPlaces (keyed_tree_of old) (keyed_tree_of new)
  pub trees : (root : Option Root) → KeepsPlaces (tree_at old.table.nodes.items root) (tree_at new.table.nodes.items root)
  pub roots : KeepsRoots old new

-- these dirty nodes were written, in this order: each time the first one, by its number
abbrev pub AreFirstsTaken : List ℕ → List ℕ → List ℕ → Type 0
AreFirstsTaken [] old new = new ≡ old
AreFirstsTaken (number ∷ numbers) old new = (slice_get old 0 ≡ Some number) × AreFirstsTaken numbers (without_number number old) new

-- The index is kept. These nodes were written, none twice: each has its place in the next room, and took the next sequence number.
-- All other nodes have the places that they had
pub record IsIndexTaken (room : ℕ → Room) (old new : PagedIndex) (before after : ℕ) : Type 0 where
  pub kept : IsIndexKept old new
  pub numbers : List ℕ
  pub taken : AreFirstsTaken numbers (dirty_of old) (dirty_of new)
  pub firsts : firsts (length numbers) (dirty_of old) ≡ numbers
  pub distinct : AreDistinctNumbers numbers
  pub rooms : AreInRooms room new numbers
  pub others : (number : ℕ) → IsNotAmong numbers number → place_by_number new number ≡ place_by_number old number
  pub number : after ≡ before + length numbers
  pub most : after + length (dirty_of new) ≤ before + length (dirty_of old)

-- nothing was written, and no node was given a place
pub record IsIndexUntouched (old new : VolumeState) (before after : PagedIndex) (first last : ℕ) : Type 0 where
  pub volume : Keeps old new
  pub index : after ≡ before
  pub number : last ≡ first

-- a LEB's bytes in the place of those that it holds
abbrev pub with_leb_bytes : ℕ → List ℕ → (ℕ → List ℕ) → ℕ → List ℕ
with_leb_bytes lnum bytes contents k = if k == lnum then bytes else contents k

-- an index in memory, the sequence number that was given last, and the bytes that are laid for a LEB
pub record Laying : Type 0 where
  pub index : PagedIndex
  pub sqnum : ℕ
  pub bytes : List ℕ

-- what is asked of a clean node: that it stands in none of some LEBs, and if in one of others, with a number between these bounds
-- and in no group
pub record Demand : Type 0 where
  pub outside : List ℕ
  pub lebs : List ℕ
  pub first : ℕ
  pub last : ℕ

-- a place, a number and a group meet it
abbrev pub Meets : Demand → Stretch → ℕ → ℕ → Type 0
Meets asked place number group =
    (IsGiven asked.outside place.lnum → ⊥) × (IsGiven asked.lebs place.lnum → (asked.first < number) × (number ≤ asked.last) × (group ≡ 0))

-- Nodes were laid for this LEB, each in so much room, behind the bytes that were there. With these bytes in it clean nodes stand, and meet what is asked,
-- if those that stood before do, and each place in the LEB with one of the numbers given since, and in no group
pub record AreNodesLaid (lnum room : ℕ) (old new : Laying) : Type 0 where
  pub index : IsIndexTaken (room_in lnum room (length old.bytes)) old.index new.index old.sqnum new.sqnum
  pub more : List ℕ
  pub bytes : new.bytes ≡ old.bytes ++ more
  pub long : length new.bytes ≡ length old.bytes + length index.numbers * room
  pub text : more ≡ in_rooms room old.sqnum (said_by new.index index.numbers)
  pub stand : (contents : ℕ → List ℕ) (asked : Demand) (root : Option Root)
      → ((place : Stretch) (number : ℕ) → place.lnum ≡ lnum → old.sqnum < number → number ≤ new.sqnum → Meets asked place number 0)
      → AreStandingAs (with_leb_bytes lnum old.bytes contents) (Meets asked) (tree_at old.index.table.nodes.items root)
      → AreStandingAs (with_leb_bytes lnum new.bytes contents) (Meets asked) (tree_at new.index.table.nodes.items root)

-- A node with this place, number and group was written: into a given LEB, of which a cut leaves what it holds, with one of the
-- numbers that were given since, and in no group
pub record IsNew (state : VolumeState) (lebs : List ℕ) (before after : ℕ) (place : Stretch) (number group : ℕ) : Type 0 where
  pub given : IsGiven lebs place.lnum
  pub left : Only (state.holds place.lnum) (state.left_now place.lnum)
  pub above : before < number
  pub most : number ≤ after
  pub single : group ≡ 0

-- if its place is in a given LEB, the node was written so
abbrev pub IsNewIn : VolumeState → List ℕ → ℕ → ℕ → Stretch → ℕ → ℕ → Type 0
IsNewIn state lebs before after place number group = IsGiven lebs place.lnum → IsNew state lebs before after place number group

-- Below each root whose clean nodes stood outside of the given LEBs, and of others, all clean nodes stand outside of the others:
-- those that were given places too, so they are in given LEBs. Each that is in a given LEB was
-- written since. A given LEB is as it was, or a cut leaves of it what it holds
pub record AreStanding (old new : VolumeState) (lebs : List ℕ) (before after : PagedIndex) (first last : ℕ) : Type 0 where
  pub nodes : (others : List ℕ) (root : Option Root) → AreLebsApart lebs others → AreOutside old.holds (lebs ++ others) (tree_at before.table.nodes.items root)
      → AreOutside new.holds others (tree_at after.table.nodes.items root)
  pub written : (root : Option Root) → AreOutside old.holds lebs (tree_at before.table.nodes.items root)
      → AreStandingAs new.holds (IsNewIn new lebs first last) (tree_at after.table.nodes.items root)
  pub settled : (k : ℕ) → IsGiven lebs k → IsSameLeb old new k ⊎ Only (new.holds k) (new.left_now k)

-- a node with this place, number and group was written into a given LEB that isn't idle
pub record IsNodePut (lebs idle : List ℕ) (before after : ℕ) (place : Stretch) (number group : ℕ) : Type 0 where
  pub given : IsGiven lebs place.lnum
  pub busy : IsGiven idle place.lnum → ⊥
  pub above : before < number
  pub most : number ≤ after
  pub single : group ≡ 0

-- Some given LEBs are idle: they are as they were. Of the others a cut leaves what they hold. Clean nodes stand, and meet what is
-- asked, if those of before, outside of the given LEBs, do, and those that were written
pub record AreWritten (old new : VolumeState) (lebs : List ℕ) (before after : PagedIndex) (first last : ℕ) : Type 0 where
  pub idle : List ℕ
  pub among : (k : ℕ) → IsGiven idle k → IsGiven lebs k
  pub nodes : (asked : Demand) (root : Option Root)
      → ((place : Stretch) (number group : ℕ) → IsNodePut lebs idle first last place number group → Meets asked place number group)
      → AreStandingAs old.holds (λ place number group. (IsGiven lebs place.lnum → ⊥) × Meets asked place number group) (tree_at before.table.nodes.items root)
      → AreStandingAs new.holds (Meets asked) (tree_at after.table.nodes.items root)
  pub settled : (k : ℕ) → IsGiven lebs k → (IsGiven idle k × IsSameLeb old new k) ⊎ Only (new.holds k) (new.left_now k)

-- These bytes were put into a LEB, if there are any, and a gap to the end of the unit: other LEBs hold what they held
pub record IsLebPut (old new : VolumeState) (lnum : ℕ) (bytes : List ℕ) (used end : ℕ) : Type 0 where
  pub grown : (k : ℕ) → (more : List ℕ) × (new.holds k ≡ with_leb_bytes lnum bytes old.holds k ++ more)
  pub whole : 0 < used → new.holds lnum ≡ filled old.leb_size (bytes ++ gap_of (end - used))
  pub same : used ≡ 0 → IsSameLeb old new lnum
  pub settled : IsSameLeb old new lnum ⊎ Only (new.holds lnum) (new.left_now lnum)
  pub left : 0 < used → Only (new.holds lnum) (new.left_now lnum)
  pub ended : 0 < used → (new.written lnum ≡ end) × (end % new.min_io ≡ 0)

-- While these bytes were put into a LEB, a cut left what it might have left before. Or it left the bytes, if there are some, a gap to the end of the
-- unit, and nothing behind.
pub record IsPutLeft (geo : RawGeometry) (old new : VolumeState) (lnum : ℕ) (bytes : List ℕ) (used : ℕ) : Type 0 where
  pub busy : 0 < used → Leaves old new (λ c. old.left_now lnum (c lnum) ⊎ (c lnum ≡ filled old.leb_size (bytes ++ gap_of (whole_units geo used - used))))
  pub idle : used ≡ 0 → Leaves old new (λ c. old.left_now lnum (c lnum))

-- other LEBs are as they were, and a cut at any moment leaves of them what it might have left before
abbrev pub WorksInLebs : VolumeState → VolumeState → List ℕ → Type 0
WorksInLebs old new lebs = Works old new (IsGiven lebs) (Elsewhere old (IsGiven lebs))

-- a LEB isn't a given one, and a cut leaves of it what it holds
abbrev pub IsSettledOutside : VolumeState → List ℕ → ℕ → Type 0
IsSettledOutside state lebs k = (IsGiven lebs k → ⊥) × Only (state.holds k) (state.left_now k)

-- each index that stands in settled LEBs outside of the given ones stands in what a cut at any moment leaves
abbrev pub KeepsOtherIndexes : VolumeState → VolumeState → List ℕ → Type 0
KeepsOtherIndexes old new lebs = (fanout : ℕ) (root : Branch) (placed : PlacedRow) → IsStoredIndex old.holds fanout root placed
    → All (IsSettledOutside old lebs) (lebs_of placed) → Leaves old new (λ c. IsStoredIndex c fanout root placed)

-- where this is the frozen index, it stands in contents from its root's branch on; without a root it is empty
abbrev pub IsRootOf : (ℕ → List ℕ) → ℕ → KeyedRow → Option Branch → Type 0
IsRootOf contents fanout row None = row ≡ no_more
IsRootOf contents fanout row (Some root) = IsStoredIndex contents fanout root (placed_of row)

-- the head is where the written part of one of these LEBs ends
abbrev pub IsHeadIn : VolumeState → List ℕ → Option IndexHead → Type 0
IsHeadIn state lebs None = ⊥
IsHeadIn state lebs (Some head) = IsGiven lebs head.lnum × (state.written head.lnum ≡ head.offs) × (head.offs % state.min_io ≡ 0)

-- The head is in these LEBs exactly if one of these nodes was dirty, and else it is that of before
abbrev pub IsHeadAfter : VolumeState → List ℕ → List ℕ → Option IndexHead → Option IndexHead → Type 0
IsHeadAfter state lebs dirty before now = ((now ≡ before) × (dirty ≡ [])) ⊎ ((0 < length dirty) × IsHeadIn state lebs now)

-- of each given LEB in which a node of the row stands a cut leaves what it holds
abbrev pub AreLebsSettled : VolumeState → List ℕ → PlacedRow → Type 0
AreLebsSettled state lebs row = All (λ k. IsGiven lebs k → Only (state.holds k) (state.left_now k)) (lebs_of row)

-- The frozen index, of nodes with at most fanout children, is clean and stands on the volume, and this tells where. No node is
-- dirty, and of the given LEBs that it is in a cut leaves what they hold
pub record IsIndexAt (state : VolumeState) (fanout : ℕ) (lebs : List ℕ) (old new : PagedIndex) (at : IndexAt) : Type 0 where
  pub none : dirty_of new ≡ []
  pub clean : frozen_of new ≡ all_clean (placed_of (frozen_of new))
  pub root : IsRootOf state.holds fanout (frozen_of new) at.root
  pub left : AreLebsSettled state lebs (placed_of (frozen_of new))
  pub head : IsHeadAfter state lebs (dirty_of old) None at.head
