-- What the LEBs of a commit hold, and what a cut leaves of them.
use Rattle.std.proofs.Common.{◌≡◌, ℕ, ◌+◌, ◌-◌, ◌*◌, ◌<◌, ◌≤◌, List, [], ◌∷◌, ◌++◌, length, refl, ap, sym, ◌∙◌, subst, arith, inl, inr, append-nil}
use Rattle.std.specs.Prelude.{◌⊎◌}
use Rattle.std.proofs.lemmas.List.{length-map}
use Rattle.ubifs_base.specs.declared.raw_geometry.RawGeometry.{RawGeometry}
use Rattle.ubifs_base.specs.Gap.{gap_of}
use Rattle.ubifs_base.specs.Geometry.{index_node_len, index_nodes_per_leb}
use Rattle.media_sys.specs.Index.{Index}
use Rattle.ubi_volume.specs.Volume.{VolumeState, filled, UnderWay, WorksOn, Leaves, ChangeUnderWay}
use Rattle.ubi_volume.specs.VolumeLaws.{Leaves-more, Leaves-none}
use Rattle.index_cache.specs.Commit.{said_of}
use Rattle.index_cache.specs.Paged.{dirty_of}
use Rattle.index_cache.specs.declared.paged.PagedIndex.{PagedIndex}
use Rattle.index_commit.specs.Lebs.{IsGiven}
use Rattle.index_commit.specs.LebTexts.{AreLebsOf, IsLebOf, in_rooms, nodes_written, said_by, AreLebsLeft, IsLebLeft}
use Rattle.index_commit.specs.Rooms.{Room, whole_units}
use Rattle.index_commit.specs.Written.{AreFirstsTaken, IsIndexTaken, AreNodesLaid, IsLebPut, WorksInLebs, IsPutLeft}
use Rattle.index_commit.proofs.LastTaken.{none_from_none}
use Rattle.index_commit.proofs.LebTexts.{leb_of, lebs_both, none_lebs, none_written_nodes, written_are, written_both, leb_left, lefts_both, lefts_first}
use Rattle.index_commit.proofs.Lebs.{none_works}

-- ---- what the LEBs hold
pub leb_text : (geo : RawGeometry) (old new : VolumeState) (lnum room used end i j : ℕ) (a b : PagedIndex) (bytes : List ℕ) → room ≡ index_node_len geo → geo.leb_size ≡ old.leb_size → end ≡ whole_units geo used
    → length bytes ≡ used → AreNodesLaid lnum room (record { index = a; sqnum = i; bytes = [] }) (record { index = b; sqnum = j; bytes = bytes }) → IsLebPut old new lnum bytes used end
    → IsLebOf geo old new lnum i (nodes_written a b (j - i))
leb_text geo old new lnum room used end i j a b bytes is size units long laid put =
    let len = index_node_len geo in
    let nodes = said_by b laid.index.numbers in
    let some : 0 < len = omega arith in
    let whole = laid.long in
    let same : length nodes ≡ length laid.index.numbers = length-map laid.index.numbers (λ (number : ℕ). said_of b number) in
    let times = ap (λ (n : ℕ). n * room) same in
    let wide = ap (λ (n : ℕ). length nodes * n) is in
    let count : used ≡ length nodes * len = omega (arith, whole, times, wide, long) in
    let text : bytes ≡ in_rooms len i nodes = laid.bytes ∙ laid.text ∙ ap (λ (n : ℕ). in_rooms n i nodes) is in
    let P : List Index → Type 0 = λ l. IsLebOf geo old new lnum i l in
    subst P (sym (written_are a b i j laid.index)) (leb_of geo old new lnum used end i bytes nodes some size units count text put)

-- and while they are written
pub leb_text_left : (geo : RawGeometry) (old new : VolumeState) (lnum room used i j : ℕ) (a b : PagedIndex) (bytes : List ℕ) → room ≡ index_node_len geo → geo.leb_size ≡ old.leb_size → length bytes ≡ used
    → AreNodesLaid lnum room (record { index = a; sqnum = i; bytes = [] }) (record { index = b; sqnum = j; bytes = bytes }) → IsPutLeft geo old new lnum bytes used
    → Leaves old new (λ c. IsLebLeft geo old lnum i (nodes_written a b (j - i)) (c lnum))
leb_text_left geo old new lnum room used i j a b bytes is size long laid put =
    let len = index_node_len geo in
    let nodes = said_by b laid.index.numbers in
    let some : 0 < len = omega arith in
    let whole = laid.long in
    let same : length nodes ≡ length laid.index.numbers = length-map laid.index.numbers (λ (number : ℕ). said_of b number) in
    let times = ap (λ (n : ℕ). n * room) same in
    let wide = ap (λ (n : ℕ). length nodes * n) is in
    let count : used ≡ length nodes * len = omega (arith, whole, times, wide, long) in
    let text : bytes ≡ in_rooms len i nodes = laid.bytes ∙ laid.text ∙ ap (λ (n : ℕ). in_rooms n i nodes) is in
    let P : List Index → Type 0 = λ l. Leaves old new (λ c. IsLebLeft geo old lnum i l (c lnum)) in
    subst P (sym (written_are a b i j laid.index)) (leb_left geo old new lnum used i bytes nodes some size count text put)

nodes_count : {r : ℕ → Room} (a b : PagedIndex) (i j : ℕ) → IsIndexTaken r a b i j → length (nodes_written a b (j - i)) ≡ j - i
nodes_count a b i j h =
    let number = h.number in
    let same = length-map h.numbers (λ (number : ℕ). said_of b number) in
    let are = ap length (written_are a b i j h) in
    omega (arith, number, same, are)

pub first_lebs : {r : ℕ → Room} (geo : RawGeometry) (a b : VolumeState) (lnum : ℕ) (lebs all : List ℕ) (x y : PagedIndex) (i j : ℕ) → all ≡ lnum ∷ lebs → (IsGiven lebs lnum → ⊥) → WorksInLebs a b (lnum ∷ [])
    → IsIndexTaken r x y i j → j ≤ i + index_nodes_per_leb geo → IsLebOf geo a b lnum i (nodes_written x y (j - i)) → AreLebsOf geo all a b i (nodes_written x y (j - i))
first_lebs geo a b lnum lebs all x y i j e apart works taken most one =
    let nodes = nodes_written x y (j - i) in
    let count = nodes_count x y i j taken in
    let P : List ℕ → Type 0 = λ l. AreLebsOf geo l a b i nodes in
    let Q : List Index → Type 0 = λ l. AreLebsOf geo (lnum ∷ lebs) a b i l in
    subst P (sym e) (subst Q (append-nil nodes) (
    lebs_both geo a b b lnum lebs i j nodes [] apart works (none_works b lebs) (omega (arith, count, most)) (inl refl) one (none_lebs geo b lebs j [] refl)
    ))

pub all_lebs : {r1 r2 r : ℕ → Room} (geo : RawGeometry) (a b c : VolumeState) (lnum : ℕ) (lebs all : List ℕ) (x y z : PagedIndex) (i j k : ℕ) → all ≡ lnum ∷ lebs → (IsGiven lebs lnum → ⊥)
    → WorksInLebs a b (lnum ∷ []) → WorksInLebs b c lebs → IsIndexTaken r1 x y i j → IsIndexTaken r2 y z j k → IsIndexTaken r x z i k → j ≤ i + index_nodes_per_leb geo
    → (dirty_of y ≡ []) ⊎ (j ≡ i + index_nodes_per_leb geo) → IsLebOf geo a b lnum i (nodes_written x y (j - i)) → AreLebsOf geo lebs b c j (nodes_written y z (k - j))
    → AreLebsOf geo all a c i (nodes_written x z (k - i))
all_lebs geo a b c lnum lebs all x y z i j k e apart ab bc first then whole most full one rest =
    let xs = nodes_written x y (j - i) in
    let ys = nodes_written y z (k - j) in
    let count = nodes_count x y i j first in
    let P : List ℕ → Type 0 = λ l. AreLebsOf geo l a c i (nodes_written x z (k - i)) in
    let Q : List Index → Type 0 = λ l. AreLebsOf geo (lnum ∷ lebs) a c i l in
    let behind : (ys ≡ []) ⊎ ((length xs ≡ index_nodes_per_leb geo) × (j ≡ i + index_nodes_per_leb geo)) = elim full [
      | inl none ↦
          let T : List ℕ → Type 0 = λ l. AreFirstsTaken then.numbers l (dirty_of z) in
          let empty = none_from_none then.numbers (dirty_of z) (subst T none then.taken) in
          inl (written_are y z j k then ∙ ap (said_by z) empty)
      | inr all ↦ inr (omega (arith, count, all), all)
    ] in
    subst P (sym e) (subst Q (sym (written_both x y z i j k first then whole)) (lebs_both geo a b c lnum lebs i j xs ys apart ab bc (omega (arith, count, most)) behind one rest))

pub first_lefts : {r : ℕ → Room} (geo : RawGeometry) (a b : VolumeState) (lnum : ℕ) (lebs all : List ℕ) (x y : PagedIndex) (i j : ℕ) → all ≡ lnum ∷ lebs → (IsGiven lebs lnum → ⊥) → WorksInLebs a b (lnum ∷ [])
    → IsIndexTaken r x y i j → j ≤ i + index_nodes_per_leb geo → Leaves a b (λ c. IsLebLeft geo a lnum i (nodes_written x y (j - i)) (c lnum)) → Leaves a b (AreLebsLeft geo all a i (nodes_written x y (j - i)))
first_lefts geo a b lnum lebs all x y i j e apart works taken most one =
    let nodes = nodes_written x y (j - i) in
    let count = nodes_count x y i j taken in
    let P : List ℕ → Type 0 = λ l. Leaves a b (AreLebsLeft geo l a i nodes) in
    let Q : List Index → Type 0 = λ l. Leaves a b (AreLebsLeft geo (lnum ∷ lebs) a i l) in
    subst P (sym e) (subst Q (append-nil nodes) (lefts_first geo a b lnum lebs i nodes [] apart works (omega (arith, count, most)) (inl refl) one))

pub all_lefts : {r1 r2 r : ℕ → Room} (geo : RawGeometry) (a b c : VolumeState) (lnum : ℕ) (lebs all : List ℕ) (x y z : PagedIndex) (i j k : ℕ) → all ≡ lnum ∷ lebs → (IsGiven lebs lnum → ⊥)
    → WorksInLebs a b (lnum ∷ []) → WorksInLebs b c lebs → IsIndexTaken r1 x y i j → IsIndexTaken r2 y z j k → IsIndexTaken r x z i k → j ≤ i + index_nodes_per_leb geo
    → (dirty_of y ≡ []) ⊎ (j ≡ i + index_nodes_per_leb geo) → IsLebOf geo a b lnum i (nodes_written x y (j - i)) → Leaves a b (λ d. IsLebLeft geo a lnum i (nodes_written x y (j - i)) (d lnum))
    → Leaves b c (AreLebsLeft geo lebs b j (nodes_written y z (k - j))) → Leaves a c (AreLebsLeft geo all a i (nodes_written x z (k - i)))
all_lefts geo a b c lnum lebs all x y z i j k e apart ab bc first then whole most full is one rest =
    let xs = nodes_written x y (j - i) in
    let ys = nodes_written y z (k - j) in
    let count = nodes_count x y i j first in
    let P : List ℕ → Type 0 = λ l. Leaves a c (AreLebsLeft geo l a i (nodes_written x z (k - i))) in
    let Q : List Index → Type 0 = λ l. Leaves a c (AreLebsLeft geo (lnum ∷ lebs) a i l) in
    let behind : (ys ≡ []) ⊎ ((length xs ≡ index_nodes_per_leb geo) × (j ≡ i + index_nodes_per_leb geo)) = elim full [
      | inl none ↦
          let T : List ℕ → Type 0 = λ l. AreFirstsTaken then.numbers l (dirty_of z) in
          let empty = none_from_none then.numbers (dirty_of z) (subst T none then.taken) in
          inl (written_are y z j k then ∙ ap (said_by z) empty)
      | inr all ↦ inr (omega (arith, count, all), all)
    ] in
    subst P (sym e) (subst Q (sym (written_both x y z i j k first then whole)) (lefts_both geo a b c lnum lebs i j xs ys apart ab bc (omega (arith, count, most)) behind is one rest))

-- bytes that are put into a LEB
pub put_left : (geo : RawGeometry) (old new : VolumeState) (lnum used end : ℕ) (front bytes : List ℕ) → 0 < used → end ≡ whole_units geo used → bytes ≡ front ++ gap_of (end - used)
    → WorksOn old new lnum (ChangeUnderWay old lnum bytes) → IsPutLeft geo old new lnum front used
put_left geo old new lnum used end front bytes some units e works =
    let same : filled old.leb_size bytes ≡ filled old.leb_size (front ++ gap_of (whole_units geo used - used)) =
    ap (filled old.leb_size) e ∙ ap (λ (n : ℕ). filled old.leb_size (front ++ gap_of (n - used))) units in
    record {
      busy = λ more. Leaves-more old new (UnderWay old lnum (ChangeUnderWay old lnum bytes))
          (λ c. old.left_now lnum (c lnum) ⊎ (c lnum ≡ filled old.leb_size (front ++ gap_of (whole_units geo used - used))))
          (λ c under. elim under.1 [ inl before ↦ inl before | inr is ↦ inr (is ∙ same) ]) works.time;
      idle = λ none. absurd (omega (arith, some, none));
    }

pub none_left : (geo : RawGeometry) (state : VolumeState) (lnum used : ℕ) (front : List ℕ) → used ≡ 0 → IsPutLeft geo state state lnum front used
none_left geo state lnum used front none = record {
  busy = λ some. absurd (omega (arith, none, some));
  idle = λ same. Leaves-none state (λ c. state.left_now lnum (c lnum));
}

pub idle_lebs : (geo : RawGeometry) (state : VolumeState) (lebs : List ℕ) (a : PagedIndex) (i : ℕ) → AreLebsOf geo lebs state state i (nodes_written a a (i - i))
idle_lebs geo state lebs a i = none_lebs geo state lebs i (nodes_written a a (i - i)) (none_written_nodes a i)
