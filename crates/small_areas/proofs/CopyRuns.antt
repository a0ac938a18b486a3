-- Two copies, one after the other, as a volume sees them.
use Rattle.std.proofs.Common.{◌≡◌, ◌≢◌, ◌⊎◌, ℕ, ◌+◌, ◌<◌, ◌≤◌, List, Option, Some, None, IfSome, IfNone, Result, Ok, Err, refl, ap, sym, ◌∙◌, subst, inl, inr, arith}
use Rattle.std.specs.Prelude.{OnOk}
use Rattle.std.proofs.lemmas.Bool.{lt-ltb, le-ltb}
use Rattle.ubifs_base.specs.NodeLaws.{IsBytes}
use Rattle.ubi_volume.specs.TornLaws.{Torn-units, units-Torn}
use Rattle.ubi_volume.specs.Volume.{VolumeState, Only, filled, put, UnderWay, WorksOn, Keeps}
use Rattle.ubi_volume.specs.VolumeLaws.{Leaves-then, Leaves-keeps}
use Rattle.media_sys.specs.declared.master.Master.{Master}
use Rattle.leb_scan.specs.declared.tail.Tail.TheVariants.{Clean}
use Rattle.small_areas.specs.Copies.{copy_of, IsNodeOf, IsRoom, IsStart, IsPlace, HasNoPlace, IsOpen, IsCopied, CopyUnderWay, IsMeant, IsOldOrNew}
use Rattle.small_areas.specs.Later.{IsReadOf, later_of}
use Rattle.small_areas.specs.Masters.{IsLastMaster, HasNoMaster, IsLatest}
use Rattle.small_areas.specs.Puts.{IsPut, PutUnderWay}
use Rattle.small_areas.specs.declared.placed_master.PlacedMaster.{PlacedMaster}
use Rattle.small_areas.proofs.LaidCopy.{standing_at, HasCopy}
use Rattle.small_areas.specs.MasterLaws.{OneNode, OneText}
use Rattle.small_areas.proofs.Places.{place_ends}
use Rattle.small_areas.proofs.TornCopy.{copied, left_of}
use Rattle.small_areas.proofs.TwoMasters.{later_found}

pub on_ok : {T E : Type 0} (r : Result T E) (A B : Type 0) → (A → B) → OnOk r A → OnOk r B
on_ok (Ok x) A B f h = f h
on_ok (Err e) A B f h = h

pub on_always : {T E : Type 0} (r : Result T E) (A : Type 0) → A → OnOk r A
on_always (Ok x) A h = h
on_always (Err e) A h = tt

pub on_two : {T E : Type 0} (r : Result T E) (A B C : Type 0) → (A → B → C) → OnOk r A → OnOk r B → OnOk r C
on_two (Ok x) A B C f h k = f h k
on_two (Err e) A B C f h k = h

-- a call that works on a LEB, after one that keeps all
pub works_after : (a b c : VolumeState) (lnum : ℕ) (D E : List ℕ → Type 0) → ((x : List ℕ) → D x → E x) → Keeps a b → WorksOn b c lnum D → WorksOn a c lnum E
works_after a b c lnum D E more keeps works = record {
  others = λ k ne. works.others k ne ∙ keeps.holds k;
  others_written = λ k ne. works.others_written k ne ∙ keeps.written k;
  others_left = λ k x ne h. (keeps.left k x).0 (works.others_left k x ne h);
  others_mapped = λ k x ne h. (keeps.left_mapped k x).0 (works.others_mapped k x ne h);
  left = λ x h. more x (works.left x h);
  time = Leaves-then a b c (UnderWay a lnum E) (UnderWay b lnum D) (UnderWay a lnum E) (λ x h. h) (λ x h. (λ k ne. (keeps.left k (x k)).0 (h.0 k ne), more (x lnum) h.1))
      (Leaves-keeps a b (UnderWay a lnum E) keeps) works.time;
  spent = λ h. works.spent (keeps.spent h);
  unbroken = λ h. keeps.unbroken (works.unbroken h);
}

pub put_copying : (a b : VolumeState) (lnum room : ℕ) (copy : List ℕ) (place : Option ℕ) → Keeps a b → b.leb_size ≡ a.leb_size → IsBytes (a.holds lnum) → IfSome place (IsPlace (a.holds lnum) room) → IfNone place (HasNoPlace (a.holds lnum) room)
    → (x : List ℕ) → PutUnderWay b lnum copy place x → CopyUnderWay a lnum room copy x
put_copying a b lnum room copy None keeps size fits is none x (inl now) = inl (inl ((keeps.left lnum x).0 now))
put_copying a b lnum room copy None keeps size fits is none x (inr e) = inl (inr (none, e ∙ ap (λ (s : ℕ). filled s copy) size))
put_copying a b lnum room copy (Some offs) keeps size fits is none x (inl now) = inl (inl ((keeps.left lnum x).0 now))
put_copying a b lnum room copy (Some offs) keeps size fits is none x (inr (d, mapped, torn)) =
    inr (record { place = offs; bytes = fits; is_place = is; before = d; mapped = (keeps.left_mapped lnum d).0 mapped; torn = Torn-units a.min_io offs copy d x torn })

pub put_copied : (a b c : VolumeState) (lnum room : ℕ) (copy : List ℕ) (place : Option ℕ) → Keeps a b → b.leb_size ≡ a.leb_size → IfSome place (IsPlace (a.holds lnum) room) → IfNone place (HasNoPlace (a.holds lnum) room)
    → IsPut b c lnum copy place → IsCopied a c lnum room copy
put_copied a b c lnum room copy None keeps size is none w =
    inr (none, record { holds = w.holds ∙ ap (λ (s : ℕ). filled s copy) size; written = w.written; left = λ x l. w.left x l ∙ ap (λ (s : ℕ). filled s copy) size })
put_copied a b c lnum room copy (Some offs) keeps size is none w =
    inl (
      offs,
      is,
      record {
        holds = w.holds ∙ ap (put offs copy) (keeps.holds lnum);
        written = w.written;
        left = λ x l. let d = w.left x l in (d.0, (keeps.left_mapped lnum d.0).0 d.1, d.2);
      },
    )

-- a copy stands while another LEB is worked on
pub copied_then : (a c e : VolumeState) (lnum other room : ℕ) (copy : List ℕ) (D : List ℕ → Type 0) → lnum ≢ other → WorksOn c e other D → IsCopied a c lnum room copy → IsCopied a e lnum room copy
copied_then a c e lnum other room copy D ne works (inl (place, is, w)) =
    inl (
      place,
      is,
      record {
        holds = works.others lnum ne ∙ w.holds;
        written = works.others_written lnum ne ∙ w.written;
        left = λ x l. w.left x (works.others_left lnum x ne l);
      },
    )
copied_then a c e lnum other room copy D ne works (inr (none, w)) =
    inr (
      none,
      record {
        holds = works.others lnum ne ∙ w.holds;
        written = works.others_written lnum ne ∙ w.written;
        left = λ x l. w.left x (works.others_left lnum x ne l);
      },
    )

-- a copy after another LEB was worked on
pub copied_from : (a c e : VolumeState) (lnum other room : ℕ) (copy : List ℕ) (D : List ℕ → Type 0) → lnum ≢ other → c.leb_size ≡ a.leb_size → WorksOn a c other D → IsCopied c e lnum room copy → IsCopied a e lnum room copy
copied_from a c e lnum other room copy D ne size works (inl (place, is, w)) =
    let P : List ℕ → Type 0 = λ leb. IsPlace leb room place in
    inl (
      place,
      subst P (works.others lnum ne) is,
      record {
        holds = w.holds ∙ ap (put place copy) (works.others lnum ne);
        written = w.written;
        left = λ x l. let d = w.left x l in (d.0, works.others_mapped lnum d.0 ne d.1, d.2);
      },
    )
copied_from a c e lnum other room copy D ne size works (inr (none, w)) =
    let P : List ℕ → Type 0 = λ leb. HasNoPlace leb room in
    inr (
      subst P (works.others lnum ne) none,
      record {
        holds = w.holds ∙ ap (λ (s : ℕ). filled s copy) size;
        written = w.written;
        left = λ x l. w.left x l ∙ ap (λ (s : ℕ). filled s copy) size;
      },
    )

-- a copy under way after another LEB was worked on
pub copying_from : (a c : VolumeState) (lnum other room : ℕ) (copy : List ℕ) (D : List ℕ → Type 0) → lnum ≢ other → c.leb_size ≡ a.leb_size → WorksOn a c other D → (x : List ℕ) → CopyUnderWay c lnum room copy x → CopyUnderWay a lnum room copy x
copying_from a c lnum other room copy D ne size works x (inl (inl now)) = inl (inl (works.others_left lnum x ne now))
copying_from a c lnum other room copy D ne size works x (inl (inr (none, is))) =
    let P : List ℕ → Type 0 = λ leb. HasNoPlace leb room in
    inl (inr (subst P (works.others lnum ne) none, is ∙ ap (λ (s : ℕ). filled s copy) size))
copying_from a c lnum other room copy D ne size works x (inr w) =
    let P : List ℕ → Type 0 = λ leb. IsPlace leb room w.place in
    let B : List ℕ → Type 0 = λ leb. IsBytes leb in
    let still = works.others lnum ne in
    inr (record {
      place = w.place;
      bytes = subst B still w.bytes;
      is_place = subst P still w.is_place;
      before = w.before;
      mapped = works.others_mapped lnum w.before ne w.mapped;
      torn = Torn-units a.min_io w.place copy w.before x (units-Torn c.min_io w.place copy w.before x w.torn);
    })

-- and after a call that keeps all
pub copying_kept : (a c : VolumeState) (lnum room : ℕ) (copy : List ℕ) → Keeps a c → c.leb_size ≡ a.leb_size → (x : List ℕ) → CopyUnderWay c lnum room copy x → CopyUnderWay a lnum room copy x
copying_kept a c lnum room copy keeps size x (inl (inl now)) = inl (inl ((keeps.left lnum x).0 now))
copying_kept a c lnum room copy keeps size x (inl (inr (none, is))) =
    let P : List ℕ → Type 0 = λ leb. HasNoPlace leb room in
    inl (inr (subst P (keeps.holds lnum) none, is ∙ ap (λ (s : ℕ). filled s copy) size))
copying_kept a c lnum room copy keeps size x (inr w) =
    let P : List ℕ → Type 0 = λ leb. IsPlace leb room w.place in
    let B : List ℕ → Type 0 = λ leb. IsBytes leb in
    let still = keeps.holds lnum in
    inr (record {
      place = w.place;
      bytes = subst B still w.bytes;
      is_place = subst P still w.is_place;
      before = w.before;
      mapped = (keeps.left_mapped lnum w.before).0 w.mapped;
      torn = Torn-units a.min_io w.place copy w.before x (units-Torn c.min_io w.place copy w.before x w.torn);
    })

-- where a cut left what a LEB held, it does so after the copy
pub settled : (a c : VolumeState) (lnum room : ℕ) (copy : List ℕ) → Only (a.holds lnum) (a.left_now lnum) → ((x : List ℕ) → a.left_mapped lnum x → a.left_now lnum x) → IsCopied a c lnum room copy → Only (c.holds lnum) (c.left_now lnum)
settled a c lnum room copy only sub (inl (place, is, w)) = λ x l. let d = w.left x l in d.2 ∙ ap (put place copy) (only d.0 (sub d.0 d.1)) ∙ sym w.holds
settled a c lnum room copy only sub (inr (none, w)) = λ x l. w.left x l ∙ sym w.holds

-- the last masters of two LEBs whose latest one is this
pub record HasOld (one two : List ℕ) (old : PlacedMaster) (number : ℕ) : Type 0 where
  pub first : Option PlacedMaster
  pub second : Option PlacedMaster
  pub first_read : IsReadOf 1 one first
  pub second_read : IsReadOf 2 two second
  pub later : later_of first second ≡ Some old
  pub low : IfSome second (λ (p : PlacedMaster). p.sqnum ≤ number)

abbrev pub with_lnum : ℕ → PlacedMaster → PlacedMaster
with_lnum lnum p = record { lnum = lnum; offs = p.offs; sqnum = p.sqnum; master = p.master }

pub read_with : (leb : List ℕ) (lnum : ℕ) (p : PlacedMaster) → IsLastMaster leb p → IsReadOf lnum leb (Some (with_lnum lnum p))
read_with leb lnum p h = record { some = (record { found = h.found; last = h.last; offs = h.offs; sqnum = h.sqnum; is = h.is }, refl); none = tt }

pub read_as : (leb : List ℕ) (lnum : ℕ) (p : PlacedMaster) → p.lnum ≡ lnum → IsLastMaster leb p → IsReadOf lnum leb (Some p)
read_as leb lnum p is h = record { some = (h, is); none = tt }

read_none : (leb : List ℕ) (lnum : ℕ) → HasNoMaster leb → IsReadOf lnum leb None
read_none leb lnum h = record { some = tt; none = h }

pub old_reads : (one two : List ℕ) (old : PlacedMaster) (number : ℕ) → old.sqnum ≤ number → IsLatest one two old → HasOld one two old number
old_reads one two old number low (inl (is, last, inl none)) = record { first = Some old; second = None; first_read = read_as one 1 old is last; second_read = read_none two 2 none; later = refl; low = tt }
old_reads one two old number low (inl (is, last, inr (other, older, le))) = record {
  first = Some old;
  second = Some (with_lnum 2 other);
  first_read = read_as one 1 old is last;
  second_read = read_with two 2 other older;
  later = rw (le-ltb old.sqnum other.sqnum le) refl;
  low = omega (arith, le, low);
}
old_reads one two old number low (inr (is, last, inl none)) = record { first = None; second = Some old; first_read = read_none one 1 none; second_read = read_as two 2 old is last; later = refl; low = low }
old_reads one two old number low (inr (is, last, inr (other, older, lt))) = record {
  first = Some (with_lnum 1 other);
  second = Some old;
  first_read = read_with one 1 other older;
  second_read = read_as two 2 old is last;
  later = rw (lt-ltb other.sqnum old.sqnum lt) refl;
  low = low;
}

-- a new master in LEB 1 beside an older one in LEB 2
pub new_first : (one two : List ℕ) (p : PlacedMaster) (o : Option PlacedMaster) (number : ℕ) → IsReadOf 1 one (Some p) → IsReadOf 2 two o → IfSome o (λ (q : PlacedMaster). q.sqnum ≤ number) → number < p.sqnum → IsLatest one two p
new_first one two p None number h k low less = inl (h.some.1, h.some.0, inl k.none)
new_first one two p (Some q) number h k low less = inl (h.some.1, h.some.0, inr (q, k.some.0, omega (arith, low, less)))

-- and a newer one in LEB 2
pub new_second : (one two : List ℕ) (p q : PlacedMaster) → IsReadOf 1 one (Some p) → IsReadOf 2 two (Some q) → p.sqnum < q.sqnum → IsLatest one two q
new_second one two p q h k less = inr (k.some.1, k.some.0, inr (p, h.some.0, less))

pub first_stage : (one two x y : List ℕ) (old : PlacedMaster) (new : Master) (number : ℕ) (h : HasOld one two old number) → IsReadOf 2 y h.second
    → IsReadOf 1 x h.first ⊎ ((place : ℕ) × IsReadOf 1 x (Some (standing_at 1 place (number + 1) new))) → IsOldOrNew old new x y
first_stage one two x y old new number h k (inl r) =
    let P : Option PlacedMaster → Type 0 = λ o. IfSome o (IsLatest x y) in
    (old, subst P h.later (later_found x y h.first h.second r k), inl refl)
first_stage one two x y old new number h k (inr (place, r)) = (standing_at 1 place (number + 1) new, new_first x y (standing_at 1 place (number + 1) new) h.second number r k h.low (omega arith), inr refl)

second_stage : (one two x y : List ℕ) (old : PlacedMaster) (new : Master) (number place : ℕ) (h : HasOld one two old number) → IsReadOf 1 x (Some (standing_at 1 place (number + 1) new))
    → IsReadOf 2 y h.second ⊎ ((there : ℕ) × IsReadOf 2 y (Some (standing_at 2 there (number + 2) new))) → IsOldOrNew old new x y
second_stage one two x y old new number place h k (inl r) = (standing_at 1 place (number + 1) new, new_first x y (standing_at 1 place (number + 1) new) h.second number k r h.low (omega arith), inr refl)
second_stage one two x y old new number place h k (inr (there, r)) = (standing_at 2 there (number + 2) new, new_second x y (standing_at 1 place (number + 1) new) (standing_at 2 there (number + 2) new) k r (omega arith), inr refl)

-- a moment of the first copy
pub first_moment : OneText → OneNode → (a : VolumeState) (node other : List ℕ) (room number : ℕ) (new : Master) (old : PlacedMaster) → IsRoom room → IsNodeOf node (number + 1) new
    → ((k : ℕ) (x : List ℕ) → a.left_mapped k x → a.left_now k x) → IsStart a number old
    → (x : ℕ → List ℕ) → UnderWay a 1 (CopyUnderWay a 1 room (copy_of room node)) x → IsMeant (a.holds 1) room node (x 1) → IsMeant (a.holds 2) room other (x 2) → IsOldOrNew old new (x 1) (x 2)
first_moment one one_node a node other room number new old is_room is_node sub start x w meant more =
    let h = old_reads (a.holds 1) (a.holds 2) old number start.low start.latest in
    let P : List ℕ → Type 0 = λ leb. IsReadOf 2 leb h.second in
    let ne : 2 ≢ 1 = omega arith in
    first_stage (a.holds 1) (a.holds 2) (x 1) (x 2) old new number h (subst P (sym (start.second (x 2) (w.0 2 ne))) h.second_read)
    (left_of one one_node a node (x 1) 1 room (number + 1) new h.first is_room is_node start.first (sub 1) h.first_read w.1 meant)

-- a moment of the second copy
pub second_moment : OneText → OneNode → (a c : VolumeState) (node other : List ℕ) (room number : ℕ) (new : Master) (old : PlacedMaster) (D : List ℕ → Type 0) → IsRoom room → IsNodeOf node (number + 1) new → IsNodeOf other (number + 2) new
    → ((k : ℕ) (x : List ℕ) → a.left_mapped k x → a.left_now k x) → ((k : ℕ) (x : List ℕ) → c.left_mapped k x → c.left_now k x) → IsStart a number old → WorksOn a c 1 D → IsCopied a c 1 room (copy_of room node)
    → (x : ℕ → List ℕ) → UnderWay c 2 (CopyUnderWay c 2 room (copy_of room other)) x → IsMeant (a.holds 1) room node (x 1) → IsMeant (a.holds 2) room other (x 2) → IsOldOrNew old new (x 1) (x 2)
second_moment one one_node a c node other room number new old D is_room is_node is_other sub_a sub_c start works done x w meant more =
    let h = old_reads (a.holds 1) (a.holds 2) old number start.low start.latest in
    let ne12 : 1 ≢ 2 = omega arith in
    let ne21 : 2 ≢ 1 = omega arith in
    let there = copied one_node a c node 1 room (number + 1) new is_room is_node done in
    let same : x 1 ≡ c.holds 1 = settled a c 1 room (copy_of room node) start.first (sub_a 1) done (x 1) (w.0 1 ne12) in
    let P : List ℕ → Type 0 = λ leb. IsReadOf 1 leb (Some (standing_at 1 there.0 (number + 1) new)) in
    let Q : List ℕ → Type 0 = λ leb. IsReadOf 2 leb h.second in
    let R : List ℕ → Type 0 = λ leb. IsMeant leb room other (x 2) in
    let still : a.holds 2 ≡ c.holds 2 = sym (works.others 2 ne21) in
    let only : Only (c.holds 2) (c.left_now 2) = λ y l. start.second y (works.others_left 2 y ne21 l) ∙ still in
    second_stage (a.holds 1) (a.holds 2) (x 1) (x 2) old new number there.0 h (subst P (sym same) there.1.read)
    (left_of one one_node c other (x 2) 2 room (number + 2) new h.second is_room is_other only (sub_c 2) (subst Q still h.second_read) w.1 (subst R still more))

-- where the next copy goes, the LEB is open
pub open_after : OneText → (state : VolumeState) (lnum room place sqnum : ℕ) (new : Master) → IsBytes (state.holds lnum) → HasCopy (state.holds lnum) lnum place (place + room) sqnum new → state.written lnum ≡ place + room → IsOpen state lnum room
open_after one state lnum room place sqnum new fits h written = λ next is.
    let same = (place_ends one (state.holds lnum) room next (place + room) Clean fits (h.items, h.is_text) is).0 in
    omega (arith, same, written)

-- a LEB is open as before while another is worked on
pub open_still : (a c : VolumeState) (lnum other room : ℕ) (D : List ℕ → Type 0) → lnum ≢ other → WorksOn a c other D → IsOpen a lnum room → IsOpen c lnum room
open_still a c lnum other room D ne works open_before = λ place is.
    let P : List ℕ → Type 0 = λ leb. IsPlace leb room place in
    let written = works.others_written lnum ne in
    let before = open_before place (subst P (works.others lnum ne) is) in
    omega (arith, written, before)
