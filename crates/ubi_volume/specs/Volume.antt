-- What a volume holds, what its calls do, and what a power cut may leave of it. Contents are a list of bytes for each
-- number of a LEB (logical erase block).
use Rattle.std.specs.Prelude.{◌≡◌, ◌≢◌, ◌⊎◌, ◌↔◌, ℕ, ◌+◌, ◌-◌, ◌%◌, ◌<◌, ◌≤◌, suc, zero, List, [], ◌++◌, length, take, drop, replicate}
use Rattle.ubifs_base.specs.NodeLaws.{IsBytes}

-- what there is to say of a volume at one moment
pub record VolumeState : Type 1 where
  -- the bytes of a LEB, the bytes that are written at once, and the number of LEBs
  pub leb_size : ℕ
  pub min_io : ℕ
  pub leb_cnt : ℕ
  -- the bytes of a LEB, as a read gives them, and the length of its part that isn't open for writing
  pub holds : ℕ → List ℕ
  pub written : ℕ → ℕ
  -- what a power cut now may leave of a LEB, and the same where no unmapping is undone
  pub left_now : ℕ → List ℕ → Type 0
  pub left_mapped : ℕ → List ℕ → Type 0
  -- the clock, a number that never falls, and what a cut at some moment since it stood at a number might have left
  pub moment : ℕ
  pub left_since : ℕ → (ℕ → List ℕ) → Type 0
  -- how often it has failed
  pub faults : ℕ
  -- no call fails
  pub sure : Type 0
  -- it takes no more writing, and so for good
  pub spent : Type 0
  -- no call that failed is under way
  pub unbroken : Type 0

-- these contents, LEB by LEB
abbrev pub Each : (ℕ → List ℕ → Type 0) → (ℕ → List ℕ) → Type 0
Each left contents = (lnum : ℕ) → left lnum (contents lnum)

-- a cut leaves this and nothing else
abbrev pub Only : List ℕ → (List ℕ → Type 0) → Type 0
Only bytes left = (c : List ℕ) → left c → c ≡ bytes

-- these bytes, and unwritten ones, which are 255, to the LEB's end
abbrev pub filled : ℕ → List ℕ → List ℕ
filled size bytes = bytes ++ replicate (size - length bytes) 255

-- these bytes at this offset
abbrev pub put : ℕ → List ℕ → List ℕ → List ℕ
put offs bytes old = take offs old ++ bytes ++ drop (offs + length bytes) old

-- the bytes of the first n LEBs, one after another
abbrev pub image_of : (ℕ → List ℕ) → ℕ → List ℕ
image_of holds zero = []
image_of holds (suc n) = image_of holds n ++ holds n

-- bytes that a LEB of this size can have
pub record IsLebBytes (size : ℕ) (leb : List ℕ) : Type 0 where
  pub len : length leb ≡ size
  pub bytes : IsBytes leb

-- what a cut leaves of a unit of a write under way: as it was, as it is to be, or anything of its length
abbrev pub IsUnitLeft : List ℕ → List ℕ → List ℕ → Type 0
IsUnitLeft old new left = (left ≡ old) ⊎ ((left ≡ new) ⊎ (length left ≡ length old))

-- A write of n bytes under way, which are whole units: each unit by itself, in any order, is as it was, as it is to be, or
-- anything of its length, and all other bytes are as they were. 'Anything' covers the other two, so nothing is said of the
-- bytes between offs and offs + n but how many they are; TornLaws has it unit by unit. No order of units is promised: a
-- later one may be new in front of which an earlier one is old, or reads as a gap. So what is built on this is safe only
-- under the premise that an item whose bytes aren't all as they were meant begins no item.
pub record Torn (offs n : ℕ) (old new : List ℕ) : Type 0 where
  pub front : take offs new ≡ take offs old
  pub back : drop (offs + n) new ≡ drop (offs + n) old
  pub len : length new ≡ length old

-- the same, said unit by unit of a write of these bytes
pub record IsTornInUnits (unit offs : ℕ) (bytes old new : List ℕ) : Type 0 where
  pub front : take offs new ≡ take offs old
  pub back : drop (offs + length bytes) new ≡ drop (offs + length bytes) old
  pub len : length new ≡ length old
  pub units : (k : ℕ) → offs ≤ k → k + unit ≤ offs + length bytes → k % unit ≡ 0 → IsUnitLeft (take unit (drop k old)) (take unit (drop k (put offs bytes old))) (take unit (drop k new))

-- a positive number of whole units, which begins at a unit
pub record AreUnits (unit offs n : ℕ) : Type 0 where
  pub some : 0 < n
  pub whole : n % unit ≡ 0
  pub starts : offs % unit ≡ 0

-- the shape is as it was
pub record SameShape (old new : VolumeState) : Type 0 where
  pub leb_size : new.leb_size ≡ old.leb_size
  pub min_io : new.min_io ≡ old.min_io
  pub leb_cnt : new.leb_cnt ≡ old.leb_cnt

-- A cut at any moment from old to new leaves contents with P, or what it might have left at a moment before.
pub record Leaves (old new : VolumeState) (P : (ℕ → List ℕ) → Type 0) : Type 0 where
  pub later : old.moment ≤ new.moment
  pub nothing_else : (t : ℕ) (c : ℕ → List ℕ) → t ≤ old.moment → new.left_since t c → old.left_since t c ⊎ P c

-- while a call works on a LEB: During there, and elsewhere what a cut might leave before
abbrev pub UnderWay : VolumeState → ℕ → (List ℕ → Type 0) → (ℕ → List ℕ) → Type 0
UnderWay old lnum During c = ((k : ℕ) → k ≢ lnum → old.left_now k (c k)) × During (c lnum)

-- a call that works on one LEB, whatever it answers
pub record WorksOn (old new : VolumeState) (lnum : ℕ) (During : List ℕ → Type 0) : Type 0 where
  pub others : (k : ℕ) → k ≢ lnum → new.holds k ≡ old.holds k
  pub others_written : (k : ℕ) → k ≢ lnum → new.written k ≡ old.written k
  pub others_left : (k : ℕ) (c : List ℕ) → k ≢ lnum → new.left_now k c → old.left_now k c
  pub others_mapped : (k : ℕ) (c : List ℕ) → k ≢ lnum → new.left_mapped k c → old.left_mapped k c
  pub left : (c : List ℕ) → new.left_now lnum c → During c
  pub time : Leaves old new (UnderWay old lnum During)
  pub spent : old.spent → new.spent
  pub unbroken : new.unbroken → old.unbroken

-- a call that leaves contents and outcomes as they were
pub record Keeps (old new : VolumeState) : Type 0 where
  pub holds : (k : ℕ) → new.holds k ≡ old.holds k
  pub written : (k : ℕ) → new.written k ≡ old.written k
  pub left : (k : ℕ) (c : List ℕ) → new.left_now k c ↔ old.left_now k c
  pub left_mapped : (k : ℕ) (c : List ℕ) → new.left_mapped k c ↔ old.left_mapped k c
  pub later : old.moment ≤ new.moment
  pub time : (t : ℕ) (c : ℕ → List ℕ) → t ≤ old.moment → new.left_since t c ↔ old.left_since t c
  pub spent : old.spent → new.spent
  pub unbroken : new.unbroken → old.unbroken

-- the LEB was replaced as a whole
pub record IsChanged (old new : VolumeState) (lnum : ℕ) (bytes : List ℕ) : Type 0 where
  pub holds : new.holds lnum ≡ filled old.leb_size bytes
  pub written : new.written lnum ≡ length bytes
  pub left : Only (filled old.leb_size bytes) (new.left_now lnum)

-- these bytes were written at this offset
pub record IsWritten (old new : VolumeState) (lnum offs : ℕ) (bytes : List ℕ) : Type 0 where
  pub holds : new.holds lnum ≡ put offs bytes (old.holds lnum)
  pub written : new.written lnum ≡ offs + length bytes
  pub left : (c : List ℕ) → new.left_now lnum c → (d : List ℕ) × old.left_mapped lnum d × (c ≡ put offs bytes d)

-- the LEB is unwritten; until it is mapped, written or changed, a cut may undo that
pub record IsUnmapped (old new : VolumeState) (lnum : ℕ) : Type 0 where
  pub holds : new.holds lnum ≡ filled old.leb_size []
  pub written : new.written lnum ≡ 0
  pub left_mapped : Only (filled old.leb_size []) (new.left_mapped lnum)

-- the LEB is as it was, and no unmapping of it can be undone
pub record IsMapped (old new : VolumeState) (lnum : ℕ) : Type 0 where
  pub holds : new.holds lnum ≡ old.holds lnum
  pub written : new.written lnum ≡ old.written lnum
  pub left : (c : List ℕ) → new.left_now lnum c → old.left_mapped lnum c

-- what a cut during a change leaves
abbrev pub ChangeUnderWay : VolumeState → ℕ → List ℕ → List ℕ → Type 0
ChangeUnderWay old lnum bytes c = old.left_now lnum c ⊎ (c ≡ filled old.leb_size bytes)

-- what a cut during a write leaves
abbrev pub WriteUnderWay : VolumeState → ℕ → ℕ → ℕ → List ℕ → Type 0
WriteUnderWay old lnum offs n c = old.left_now lnum c ⊎ ((d : List ℕ) × old.left_mapped lnum d × Torn offs n d c)
