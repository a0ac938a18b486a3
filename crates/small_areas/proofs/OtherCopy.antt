-- The copy that isn't the latest is mended.
use Rattle.std.proofs.Common.{◌≡◌, ◌≢◌, ◌⊎◌, ℕ, ◌+◌, ◌<◌, ◌≤◌, List, Option, Some, None, refl, ap, sym, ◌∙◌, subst, inl, inr, arith}
use Rattle.ubifs_base.specs.NodeLaws.{IsBytes}
use Rattle.media_sys.specs.declared.master.Master.{Master}
use Rattle.ubi_volume.specs.Volume.{VolumeState, Keeps, UnderWay, WorksOn, filled, put}
use Rattle.ubi_volume.specs.Frame.{Works}
use Rattle.ubi_volume.specs.FrameLaws.{Works-keeps, Works-on, Works-then}
use Rattle.small_areas.specs.Copies.{copy_of, master_node, other_leb, HasMaster, IsCopied, IsMasterLeb, IsMeant, IsMended, IsMendNumbered, IsMendWritten, IsNodeOf, IsOldOrNew, IsOpen, IsPlace, IsRoom, IsStart, CopyUnderWay, MendUnderWay}
use Rattle.small_areas.specs.Later.{IsReadOf}
use Rattle.small_areas.specs.Masters.{IsLastMaster, IsLatest}
use Rattle.small_areas.specs.declared.placed_master.PlacedMaster.{PlacedMaster}
use Rattle.small_areas.proofs.BothCopies.{HasMapped, IsCall, copied_spelled, spelled}
use Rattle.small_areas.proofs.CopyRuns.{copying_kept, first_stage, new_first, new_second, old_reads, open_after, open_still, read_as}
use Rattle.small_areas.proofs.LaidCopy.{standing_at}
use Rattle.small_areas.specs.MasterLaws.{OneNode, OneText, last_or_none, one_last}
use Rattle.small_areas.proofs.TornCopy.{copied, left_of}

-- a moment while LEB 1 is mended
moment_first : OneText → OneNode → (c : VolumeState) (node : List ℕ) (room number : ℕ) (old : PlacedMaster) → IsRoom room → IsNodeOf node (number + 1) old.master → HasMapped c → IsStart c number old
    → (x : ℕ → List ℕ) → UnderWay c 1 (CopyUnderWay c 1 room (copy_of room node)) x → IsMeant (c.holds 1) room node (x 1) → IsOldOrNew old old.master (x 1) (x 2)
moment_first one one_node c node room number old is_room is_node sub start x w meant =
    let h = old_reads (c.holds 1) (c.holds 2) old number start.low start.latest in
    let P : List ℕ → Type 0 = λ leb. IsReadOf 2 leb h.second in
    let ne : 2 ≢ 1 = omega arith in
    first_stage (c.holds 1) (c.holds 2) (x 1) (x 2) old old.master number h (subst P (sym (start.second (x 2) (w.0 2 ne))) h.second_read)
    (left_of one one_node c node (x 1) 1 room (number + 1) old.master h.first is_room is_node start.first (sub 1) h.first_read w.1 meant)

-- a moment while LEB 2 is mended, where LEB 1 has the latest
moment_second : OneText → OneNode → (c : VolumeState) (node : List ℕ) (room number : ℕ) (old : PlacedMaster) → IsRoom room → IsNodeOf node (number + 1) old.master → HasMapped c → IsStart c number old → old.lnum ≡ 1 → IsLastMaster (c.holds 1) old
    → (x : ℕ → List ℕ) → UnderWay c 2 (CopyUnderWay c 2 room (copy_of room node)) x → IsMeant (c.holds 2) room node (x 2) → IsOldOrNew old old.master (x 1) (x 2)
moment_second one one_node c node room number old is_room is_node sub start is last x w meant =
    let h = old_reads (c.holds 1) (c.holds 2) old number start.low start.latest in
    let ne : 1 ≢ 2 = omega arith in
    let same : x 1 ≡ c.holds 1 = start.first (x 1) (w.0 1 ne) in
    let P : List ℕ → Type 0 = λ leb. IsReadOf 1 leb h.first in
    let Q : List ℕ → Type 0 = λ leb. IsReadOf 1 leb (Some old) in
    let low = start.low in
    elim (left_of one one_node c node (x 2) 2 room (number + 1) old.master h.second is_room is_node start.second (sub 2) h.second_read w.1 meant) [
      | inl kept ↦ first_stage (c.holds 1) (c.holds 2) (x 1) (x 2) old old.master number h kept (inl (subst P (sym same) h.first_read))
      | inr (place, r) ↦ (
        standing_at 2 place (number + 1) old.master,
        new_second (x 1) (x 2) old (standing_at 2 place (number + 1) old.master) (subst Q (sym same) (read_as (c.holds 1) 1 old is last)) r (omega (arith, low)),
        inr refl,
      )
    ]

-- either of them
moment : OneText → OneNode → (c : VolumeState) (node : List ℕ) (room number lnum : ℕ) (old : PlacedMaster) → IsRoom room → IsNodeOf node (number + 1) old.master → HasMapped c → IsStart c number old → lnum ≡ other_leb old.lnum
    → (x : ℕ → List ℕ) → UnderWay c lnum (CopyUnderWay c lnum room (copy_of room node)) x → IsMeant (c.holds lnum) room node (x lnum) → IsOldOrNew old old.master (x 1) (x 2)
moment one one_node c node room number lnum old is_room is_node sub start at x w meant =
    let U : ℕ → Type 0 = λ n. UnderWay c n (CopyUnderWay c n room (copy_of room node)) x in
    let M : ℕ → Type 0 = λ n. IsMeant (c.holds n) room node (x n) in
    elim start.latest [
      | inl (is, last, rest) ↦
          let e : lnum ≡ 2 = omega (arith, at, is) in
          moment_second one one_node c node room number old is_room is_node sub start is last x (subst U e w) (subst M e meant)
      | inr (is, last, rest) ↦
          let e : lnum ≡ 1 = omega (arith, at, is) in
          moment_first one one_node c node room number old is_room is_node sub start x (subst U e w) (subst M e meant)
    ]

-- a start is one still where all is kept
start_kept : (a c : VolumeState) (number : ℕ) (old : PlacedMaster) → Keeps a c → IsStart a number old → IsStart c number old
start_kept a c number old keeps start =
    let P : List ℕ → List ℕ → Type 0 = λ one two. IsLatest one two old in
    let Q : List ℕ → Type 0 = λ two. P (c.holds 1) two in
    let R : List ℕ → Type 0 = λ one. P one (a.holds 2) in
    record {
      latest = subst Q (sym (keeps.holds 2)) (subst R (sym (keeps.holds 1)) start.latest);
      low = start.low;
      first = λ x h. start.first x ((keeps.left 1 x).0 h) ∙ sym (keeps.holds 1);
      second = λ x h. start.second x ((keeps.left 2 x).0 h) ∙ sym (keeps.holds 2);
    }

-- a master's LEB is the first or the second
pub mended_leb : (lnum : ℕ) → (lnum ≡ 1) ⊎ (lnum ≡ 2) → IsMasterLeb (other_leb lnum)
mended_leb lnum (inl h) = inr (omega (arith, h))
mended_leb lnum (inr h) = inl (omega (arith, h))

-- nothing is written: a cut leaves what it might have left before
pub works_idle : (a c : VolumeState) (room number : ℕ) (old : PlacedMaster) → Keeps a c → Works a c IsMasterLeb (MendUnderWay a room number old)
works_idle a c room number old keeps =
    Works-keeps a c IsMasterLeb (MendUnderWay a room number old) (λ x each. record {
      elsewhere = λ k apart. each k;
      copy = inl (inl (each (other_leb old.lnum)));
      same = λ start meant.
          let Q : List ℕ → Type 0 = λ two. IsLatest (x 1) two old in
          let R : List ℕ → Type 0 = λ one. IsLatest one (a.holds 2) old in
          (old, subst Q (sym (start.second (x 2) (each 2))) (subst R (sym (start.first (x 1) (each 1))) start.latest), inl refl);
    }) keeps

-- the other copy is written, after reading
pub works_mend : OneText → OneNode → (a c e : VolumeState) (node : List ℕ) (room number lnum : ℕ) (old : PlacedMaster) → IsRoom room → HasMapped c → Keeps a c → c.leb_size ≡ a.leb_size → lnum ≡ other_leb old.lnum → IsMasterLeb lnum
    → IsCall c e lnum room (number + 1) old.master node → Works a e IsMasterLeb (MendUnderWay a room number old)
works_mend one one_node a c e node room number lnum old is_room sub keeps size at is_leb call =
    let n1 : List ℕ = master_node (number + 1) old.master in
    let h = spelled c e lnum room (number + 1) old.master node call in
    let D : List ℕ → Type 0 = CopyUnderWay c lnum room (copy_of room n1) in
    let T : ℕ → Type 0 = λ k. k ≡ lnum in
    let M : ℕ → Type 0 = IsMasterLeb in
    Works-then a c e IsMasterLeb T IsMasterLeb (MendUnderWay a room number old) (UnderWay c lnum D) (MendUnderWay a room number old) (λ k is. is) (λ k is. subst M (sym is) is_leb) (λ x w. w) (λ x w. record {
      elsewhere = λ k apart. (keeps.left k (x k)).0 (w.0 k (λ is. apart (is ∙ at)));
      copy = let C : ℕ → Type 0 = λ n. CopyUnderWay a n room (copy_of room n1) (x n) in subst C at (copying_kept a c lnum room (copy_of room n1) keeps size (x lnum) w.1);
      same = λ start meant.
          let P : ℕ → Type 0 = λ n. IsMeant (a.holds n) room n1 (x n) in
          let Q : List ℕ → Type 0 = λ leb. IsMeant leb room n1 (x lnum) in
          moment one one_node c n1 room number lnum old is_room h.is_node sub (start_kept a c number old keeps start) at x w (subst Q (sym (keeps.holds lnum)) (subst P (sym at) meant));
    }) (works_idle a c room number old keeps) (Works-on c e lnum D h.works)

-- a LEB is open still
open_kept : (a c : VolumeState) (lnum room : ℕ) → Keeps a c → IsOpen a lnum room → IsOpen c lnum room
open_kept a c lnum room keeps open_before = λ place is.
    let P : List ℕ → Type 0 = λ leb. IsPlace leb room place in
    let written = keeps.written lnum in
    let before = open_before place (subst P (keeps.holds lnum) is) in
    omega (arith, written, before)

-- which copy is the latest
has_latest : (one two : List ℕ) (old : PlacedMaster) → IsLatest one two old → ((old.lnum ≡ 1) × IsLastMaster one old) ⊎ ((old.lnum ≡ 2) × IsLastMaster two old)
has_latest one two old (inl (is, last, rest)) = inl (is, last)
has_latest one two old (inr (is, last, rest)) = inr (is, last)

-- where they said the same before
pub mended_idle : (a c : VolumeState) (room number : ℕ) (old other : PlacedMaster) → Keeps a c → IsLatest (a.holds 1) (a.holds 2) old → IsLastMaster (a.holds (other_leb old.lnum)) other → other.master ≡ old.master → IsOpen a 1 room → IsOpen a 2 room
    → IsMended c room number old
mended_idle a c room number old other keeps latest last same open_one open_two =
    let F : List ℕ → Type 0 = λ leb. HasMaster leb old.master in
    let both : HasMaster (a.holds 1) old.master × HasMaster (a.holds 2) old.master = elim (has_latest (a.holds 1) (a.holds 2) old latest) [
      | inl (is, here) ↦
          let P : ℕ → Type 0 = λ n. IsLastMaster (a.holds n) other in
          let e : other_leb old.lnum ≡ 2 = omega (arith, is) in
          ((old, here, refl), (other, subst P e last, same))
      | inr (is, here) ↦
          let P : ℕ → Type 0 = λ n. IsLastMaster (a.holds n) other in
          let e : other_leb old.lnum ≡ 1 = omega (arith, is) in
          ((other, subst P e last, same), (old, here, refl))
    ] in
    let Q : List ℕ → Type 0 = λ two. IsLatest (c.holds 1) two old in
    let R : List ℕ → Type 0 = λ one. IsLatest one (a.holds 2) old in
    record {
      first = subst F (sym (keeps.holds 1)) both.0;
      second = subst F (sym (keeps.holds 2)) both.1;
      still = λ low. (old, subst Q (sym (keeps.holds 2)) (subst R (sym (keeps.holds 1)) latest), refl, omega (arith, low));
      open_first = open_kept a c 1 room keeps open_one;
      open_second = open_kept a c 2 room keeps open_two;
    }

-- LEB 1 was mended
mended_first : OneText → OneNode → (c e : VolumeState) (node : List ℕ) (room number : ℕ) (old : PlacedMaster) → IsRoom room → IsNodeOf node (number + 1) old.master → IsLatest (c.holds 1) (c.holds 2) old → old.lnum ≡ 2 → IsLastMaster (c.holds 2) old
    → IsOpen c 2 room → WorksOn c e 1 (CopyUnderWay c 1 room (copy_of room node)) → IsCopied c e 1 room (copy_of room node) → IsBytes (e.holds 1) → IsMended e room number old
mended_first one one_node c e node room number old is_room is_node latest is last open_two works done fits =
    let there = copied one_node c e node 1 room (number + 1) old.master is_room is_node done in
    let ne : 2 ≢ 1 = omega arith in
    let D : List ℕ → Type 0 = CopyUnderWay c 1 room (copy_of room node) in
    let L : List ℕ → Type 0 = λ leb. IsLastMaster leb old in
    let new : PlacedMaster = standing_at 1 there.0 (number + 1) old.master in
    record {
      first = (new, there.1.read.some.0, refl);
      second = (old, subst L (sym (works.others 2 ne)) last, refl);
      still = λ low. (
        new,
        new_first (e.holds 1) (e.holds 2) new (Some old) number there.1.read (read_as (e.holds 2) 2 old is (subst L (sym (works.others 2 ne)) last)) low (omega arith),
        refl,
        omega arith,
      );
      open_first = open_after one e 1 room there.0 (number + 1) old.master fits there.1 there.2;
      open_second = open_still c e 2 1 room D ne works open_two;
    }

-- LEB 2 was
mended_second : OneText → OneNode → (c e : VolumeState) (node : List ℕ) (room number : ℕ) (old : PlacedMaster) → IsRoom room → IsNodeOf node (number + 1) old.master → IsLatest (c.holds 1) (c.holds 2) old → old.lnum ≡ 1 → IsLastMaster (c.holds 1) old
    → IsOpen c 1 room → WorksOn c e 2 (CopyUnderWay c 2 room (copy_of room node)) → IsCopied c e 2 room (copy_of room node) → IsBytes (e.holds 2) → IsMended e room number old
mended_second one one_node c e node room number old is_room is_node latest is last open_one works done fits =
    let there = copied one_node c e node 2 room (number + 1) old.master is_room is_node done in
    let ne : 1 ≢ 2 = omega arith in
    let D : List ℕ → Type 0 = CopyUnderWay c 2 room (copy_of room node) in
    let L : List ℕ → Type 0 = λ leb. IsLastMaster leb old in
    let new : PlacedMaster = standing_at 2 there.0 (number + 1) old.master in
    let here : IsLastMaster (e.holds 1) old = subst L (sym (works.others 1 ne)) last in
    record {
      first = (old, here, refl);
      second = (new, there.1.read.some.0, refl);
      still = λ low. (
        new,
        new_second (e.holds 1) (e.holds 2) old new (read_as (e.holds 1) 1 old is here) there.1.read (omega (arith, low)),
        refl,
        omega arith,
      );
      open_first = open_still c e 1 2 room D ne works open_one;
      open_second = open_after one e 2 room there.0 (number + 1) old.master fits there.1 there.2;
    }

-- after the other copy was written
pub mended : OneText → OneNode → (a c e : VolumeState) (node : List ℕ) (room number lnum : ℕ) (old : PlacedMaster) → IsRoom room → Keeps a c → IsLatest (a.holds 1) (a.holds 2) old → lnum ≡ other_leb old.lnum → IsOpen a 1 room → IsOpen a 2 room
    → IsCall c e lnum room (number + 1) old.master node → IsCopied c e lnum room (copy_of room node) → IsBytes (e.holds lnum) → IsMended e room number old
mended one one_node a c e node room number lnum old is_room keeps latest at open_one open_two call done fits =
    let W : ℕ → Type 0 = λ n. WorksOn c e n (CopyUnderWay c n room (copy_of room node)) in
    let C : ℕ → Type 0 = λ n. IsCopied c e n room (copy_of room node) in
    let B : ℕ → Type 0 = λ n. IsBytes (e.holds n) in
    let Q : List ℕ → Type 0 = λ two. IsLatest (c.holds 1) two old in
    let R : List ℕ → Type 0 = λ one. IsLatest one (a.holds 2) old in
    let L : List ℕ → Type 0 = λ leb. IsLastMaster leb old in
    let now = subst Q (sym (keeps.holds 2)) (subst R (sym (keeps.holds 1)) latest) in
    elim (has_latest (a.holds 1) (a.holds 2) old latest) [
      | inl (is, last) ↦
          let e2 : lnum ≡ 2 = omega (arith, at, is) in
          mended_second one one_node c e node room number old is_room call.is_node now is (subst L (sym (keeps.holds 1)) last) (open_kept a c 1 room keeps open_one) (subst W e2 call.works) (subst C e2 done) (subst B e2 fits)
      | inr (is, last) ↦
          let e1 : lnum ≡ 1 = omega (arith, at, is) in
          mended_first one one_node c e node room number old is_room call.is_node now is (subst L (sym (keeps.holds 2)) last) (open_kept a c 2 room keeps open_two) (subst W e1 call.works) (subst C e1 done) (subst B e1 fits)
    ]

-- the LEB that isn't the latest's is the first or the second
pub other_is : (one two : List ℕ) (old : PlacedMaster) → IsLatest one two old → IsMasterLeb (other_leb old.lnum)
other_is one two old latest = elim (has_latest one two old latest) [ inl (is, last) ↦ mended_leb old.lnum (inl is) | inr (is, last) ↦ mended_leb old.lnum (inr is) ]

pub lnum_low : (one two : List ℕ) (old : PlacedMaster) → IsLatest one two old → old.lnum ≤ 3
lnum_low one two old latest = elim (has_latest one two old latest) [ inl (is, last) ↦ omega (arith, is) | inr (is, last) ↦ omega (arith, is) ]

pub below_three : (lnum n : ℕ) → IsMasterLeb lnum → 2 < n → lnum < n
below_three lnum n (inl is) more = omega (arith, is, more)
below_three lnum n (inr is) more = omega (arith, is, more)

-- the other LEB is open after reading
pub open_other : (a c : VolumeState) (lnum room : ℕ) → Keeps a c → IsMasterLeb lnum → IsOpen a 1 room → IsOpen a 2 room → IsOpen c lnum room
open_other a c lnum room keeps (inl is) one two = let P : ℕ → Type 0 = λ n. IsOpen c n room in subst P (sym is) (open_kept a c 1 room keeps one)
open_other a c lnum room keeps (inr is) one two = let P : ℕ → Type 0 = λ n. IsOpen c n room in subst P (sym is) (open_kept a c 2 room keeps two)

-- where a master was found that says the same, nothing is left to do
pub mended_found : (a c : VolumeState) (room number lnum : ℕ) (old : PlacedMaster) (found : Option PlacedMaster) → Keeps a c → IsLatest (a.holds 1) (a.holds 2) old → lnum ≡ other_leb old.lnum → IsReadOf lnum (a.holds lnum) found
    → ((placed : PlacedMaster) × (found ≡ Some placed) × (placed.master ≡ old.master)) → IsOpen a 1 room → IsOpen a 2 room → IsMended c room number old
mended_found a c room number lnum old found keeps latest at read (placed, is, same) one two =
    let P : Option PlacedMaster → Type 0 = λ o. IsReadOf lnum (a.holds lnum) o in
    let Q : ℕ → Type 0 = λ n. IsLastMaster (a.holds n) placed in
    mended_idle a c room number old placed keeps latest (subst Q at (subst P is read).some.0) same one two

-- nothing was written where reading failed or the copies agree
pub numbered_idle : (a c : VolumeState) (number : ℕ) (latest : PlacedMaster) → Keeps a c → IsMendNumbered a c number number latest
numbered_idle a c number latest keeps = record { numbered = inl (refl, keeps); agreed = λ same. (refl, keeps) }

-- what was read says the same where the LEB does
told : OneNode → OneText → (leb : List ℕ) (lnum : ℕ) (m : Master) (found : Option PlacedMaster) → IsBytes leb → IsReadOf lnum leb found → HasMaster leb m → (placed : PlacedMaster) × (found ≡ Some placed) × (placed.master ≡ m)
told node text leb lnum m None bytes read (placed, last, same) = absurd (last_or_none text leb placed bytes last read.none)
told node text leb lnum m (Some found) bytes read (placed, last, same) = (found, refl, (one_last node text leb found placed bytes read.some.0 last).1 ∙ same)

-- a number was taken where the copies don't agree
pub numbered_mend : OneNode → OneText → (a e : VolumeState) (number lnum : ℕ) (latest : PlacedMaster) (found : Option PlacedMaster) → lnum ≡ other_leb latest.lnum → IsBytes (a.holds lnum) → IsReadOf lnum (a.holds lnum) found
    → ((placed : PlacedMaster) × (found ≡ Some placed) × (placed.master ≡ latest.master) → ⊥) → IsMendNumbered a e number (number + 1) latest
numbered_mend node text a e number lnum latest found at bytes read unlike =
    let P : ℕ → Type 0 = λ n. HasMaster (a.holds n) latest.master in
    record {
      numbered = inr refl;
      agreed = λ same. absurd (unlike (told node text (a.holds lnum) lnum latest.master found bytes read (subst P (sym at) same)));
    }

-- what was found says the same, and nothing was written
pub written_idle : (a c : VolumeState) (room number lnum : ℕ) (old : PlacedMaster) (found : Option PlacedMaster) → Keeps a c → lnum ≡ other_leb old.lnum → IsReadOf lnum (a.holds lnum) found
    → ((placed : PlacedMaster) × (found ≡ Some placed) × (placed.master ≡ old.master)) → IsMendWritten a c room number old
written_idle a c room number lnum old found keeps at read (placed, is, same) =
    let P : Option PlacedMaster → Type 0 = λ o. IsReadOf lnum (a.holds lnum) o in
    let Q : ℕ → Type 0 = λ n. IsLastMaster (a.holds n) placed in
    record { alone = keeps.holds old.lnum; copied = inl (placed, subst Q at (subst P is read).some.0, same) }

-- a copy was written after reading
copied_kept : (a c e : VolumeState) (lnum room : ℕ) (copy : List ℕ) → Keeps a c → c.leb_size ≡ a.leb_size → IsCopied c e lnum room copy → IsCopied a e lnum room copy
copied_kept a c e lnum room copy keeps size (inl (place, is, w)) =
    let P : List ℕ → Type 0 = λ leb. IsPlace leb room place in
    inl (
      place,
      subst P (keeps.holds lnum) is,
      record {
        holds = w.holds ∙ ap (put place copy) (keeps.holds lnum);
        written = w.written;
        left = λ x l. let d = w.left x l in (d.0, (keeps.left_mapped lnum d.0).0 d.1, d.2);
      },
    )
copied_kept a c e lnum room copy keeps size (inr (none, w)) =
    inr (
      λ place is. let P : List ℕ → Type 0 = λ leb. IsPlace leb room place in none place (subst P (sym (keeps.holds lnum)) is),
      record { holds = w.holds ∙ ap (λ (s : ℕ). filled s copy) size; written = w.written; left = λ x l. w.left x l ∙ ap (λ (s : ℕ). filled s copy) size },
    )

pub written_mend : (a c e : VolumeState) (node : List ℕ) (room number lnum : ℕ) (old : PlacedMaster) → Keeps a c → c.leb_size ≡ a.leb_size → IsLatest (a.holds 1) (a.holds 2) old → lnum ≡ other_leb old.lnum
    → IsCall c e lnum room (number + 1) old.master node → IsCopied c e lnum room (copy_of room node) → IsMendWritten a e room number old
written_mend a c e node room number lnum old keeps size latest at call done =
    let n1 : List ℕ = master_node (number + 1) old.master in
    let ne : old.lnum ≢ lnum = λ same. elim (has_latest (a.holds 1) (a.holds 2) old latest) [ inl (is, last) ↦ omega (arith, at, is, same) | inr (is, last) ↦ omega (arith, at, is, same) ] in
    let C : ℕ → Type 0 = λ n. IsCopied a e n room (copy_of room n1) in
    record {
      alone = call.works.others old.lnum ne ∙ keeps.holds old.lnum;
      copied = inr (subst C at (copied_kept a c e lnum room (copy_of room n1) keeps size (copied_spelled c e lnum room (number + 1) old.master node call.spelling done)));
    }
