-- Nodes that are laid one behind another, and the LEBs that hold them.
use Rattle.std.proofs.Common.{◌≡◌, ℕ, zero, suc, ◌+◌, ◌-◌, ◌*◌, ◌<◌, ◌≤◌, List, [], ◌∷◌, ◌++◌, length, take, drop, true, refl, ap, sym, ◌∙◌, subst, arith, inl, inr, append-nil, append_assoc, length-append}
use Rattle.std.specs.Prelude.{◌⊎◌, Some, slice_get}
use Rattle.std.proofs.Math.Nat.{add-mul}
use Rattle.std.proofs.Math.Seq.{drop-append-add, take-append_seam}
use Rattle.std.proofs.lemmas.List.{drop_all, length-map, map-append, take_all}
use Rattle.ubifs_base.specs.Gap.{gap_of}
use Rattle.ubifs_base.specs.Geometry.{index_node_len, index_nodes_per_leb}
use Rattle.ubifs_base.specs.declared.raw_geometry.RawGeometry.{RawGeometry}
use Rattle.index_media.specs.Clean.{is_clean_row}
use Rattle.index_media.specs.PlacedRow.{node_end}
use Rattle.media_sys.specs.Index.{Index}
use Rattle.node_table.specs.Placing.{without_number}
use Rattle.ubi_volume.specs.Frame.{Elsewhere, IsSameLeb}
use Rattle.ubi_volume.specs.FrameLaws.{IsSameLeb-none, IsSameLeb-then, Only-same}
use Rattle.ubi_volume.specs.VolumeLaws.{Leaves-both, Leaves-more, Leaves-then}
use Rattle.ubi_volume.specs.Volume.{VolumeState, Leaves, filled}
use Rattle.index_cache.specs.Commit.{IsNextNode, below_node, node_length, said_of}
use Rattle.index_cache.specs.Paged.{dirty_of}
use Rattle.index_cache.specs.declared.paged.PagedIndex.{PagedIndex}
use Rattle.index_commit.specs.declared.index_at.IndexHead.{IndexHead}
use Rattle.index_commit.specs.Lebs.{IsGiven}
use Rattle.index_commit.specs.LebTexts.{index_bytes, AreLebsLeft, AreLebsOf, IsLebLeft, leb_of_nodes, IsLebOf, IsNextLeb, firsts, in_room, in_rooms, nodes_written, rooms_end, said_by}
use Rattle.index_commit.specs.Rooms.{Room, AreInRooms, whole_units}
use Rattle.index_commit.specs.Written.{AreFirstsTaken, IsIndexKept, IsIndexTaken, IsLebPut, WorksInLebs, IsPutLeft}
use Rattle.index_commit.proofs.Rooms.{said_stays, taken_then}

abbrev pub head_at : ℕ → ℕ → IndexHead
head_at lnum offs = record { lnum = lnum; offs = offs }

-- ---- what nodes say
-- nodes that have their places say the same later
pub said_later : (r : ℕ → Room) (b c : PagedIndex) (numbers : List ℕ) → IsIndexKept b c → AreInRooms r b numbers → said_by c numbers ≡ said_by b numbers
said_later r b c [] kept h = refl
said_later r b c (x ∷ numbers) kept h =
    let first : said_of c x ≡ said_of b x = said_stays b c x kept (h 0 x refl).clean in
    let rest : said_by c numbers ≡ said_by b numbers = said_later (λ n. r (suc n)) b c numbers kept (λ n number is. h (suc n) number is) in
    ap (λ (s : Index). s ∷ said_by c numbers) first ∙ ap (λ (l : List Index). said_of b x ∷ l) rest

pub said_both : (r : ℕ → Room) (b c : PagedIndex) (xs ys : List ℕ) → IsIndexKept b c → AreInRooms r b xs → said_by c (xs ++ ys) ≡ said_by b xs ++ said_by c ys
said_both r b c xs ys kept h = map-append (λ (number : ℕ). said_of c number) xs ys ∙ ap (λ (l : List Index). l ++ said_by c ys) (said_later r b c xs kept h)

rooms_then : (len s : ℕ) (xs ys : List Index) → in_rooms len s (xs ++ ys) ≡ in_rooms len s xs ++ in_rooms len (s + length xs) ys
rooms_then len s [] ys = let none : s ≡ s + 0 = omega arith in ap (λ (n : ℕ). in_rooms len n ys) none
rooms_then len s (x ∷ xs) ys =
    let sum : s + 1 + length xs ≡ s + suc (length xs) = omega arith in
    ap (λ (l : List ℕ). in_room len (s + 1) x ++ l) (rooms_then len (s + 1) xs ys ∙ ap (λ (n : ℕ). in_rooms len (s + 1) xs ++ in_rooms len n ys) sum)
    ∙ sym (append_assoc (in_room len (s + 1) x) (in_rooms len (s + 1) xs) (in_rooms len (s + suc (length xs)) ys))

pub both_texts : (r : ℕ → Room) (len i j : ℕ) (b c : PagedIndex) (xs ys front back : List ℕ) → IsIndexKept b c → AreInRooms r b xs → j ≡ i + length xs → front ≡ in_rooms len i (said_by b xs)
    → back ≡ in_rooms len j (said_by c ys) → front ++ back ≡ in_rooms len i (said_by c (xs ++ ys))
both_texts r len i j b c xs ys front back kept h count one other =
    let long : length (said_by b xs) ≡ length xs = length-map xs (λ (number : ℕ). said_of b number) in
    let start : j ≡ i + length (said_by b xs) = omega (arith, count, long) in
    ap (λ (l : List ℕ). l ++ back) one ∙ ap (λ (l : List ℕ). in_rooms len i (said_by b xs) ++ l) (other ∙ ap (λ (n : ℕ). in_rooms len n (said_by c ys)) start)
    ∙ sym (rooms_then len i (said_by b xs) (said_by c ys)) ∙ ap (in_rooms len i) (sym (said_both r b c xs ys kept h))

pub one_text : (len sqnum after : ℕ) (old new : PagedIndex) (node : ℕ) (own : List ℕ) → IsIndexKept old new → is_clean_row (below_node old node) ≡ true → after ≡ sqnum + 1
    → own ≡ in_room len after (said_of old node) → own ≡ in_rooms len sqnum (said_by new (node ∷ []))
one_text len sqnum after old new node own kept clean e text =
    let said : said_of old node ≡ said_of new node = sym (said_stays old new node kept clean) in
    text ∙ ap (λ (n : ℕ). in_room len n (said_of old node)) e ∙ ap (in_room len (sqnum + 1)) said ∙ sym (append-nil (in_room len (sqnum + 1) (said_of new node)))

-- ---- which nodes are written
pub firsts_taken : (numbers old new : List ℕ) → AreFirstsTaken numbers old new → firsts (length numbers) old ≡ numbers
firsts_taken [] old new h = refl
firsts_taken (x ∷ numbers) [] new h = let bad = h.0 in absurd cc
firsts_taken (x ∷ numbers) (y ∷ old) new h =
    let same : x ≡ y = let first = h.0 in cc in
    let rest : firsts (length numbers) (without_number x (y ∷ old)) ≡ numbers = firsts_taken numbers (without_number x (y ∷ old)) new h.1 in
    let P : ℕ → Type 0 = λ k. firsts (length numbers) (without_number k (y ∷ old)) ≡ numbers in
    ap (λ (l : List ℕ). y ∷ l) (subst P same rest) ∙ ap (λ (k : ℕ). k ∷ numbers) (sym same)

pub written_are : {r : ℕ → Room} (a b : PagedIndex) (i j : ℕ) → (h : IsIndexTaken r a b i j) → nodes_written a b (j - i) ≡ said_by b h.numbers
written_are a b i j h =
    let number = h.number in
    let count : j - i ≡ length h.numbers = omega (arith, number) in
    ap (λ (n : ℕ). nodes_written a b n) count ∙ ap (said_by b) (firsts_taken h.numbers (dirty_of a) (dirty_of b) h.taken)

pub written_both : {r1 r2 r : ℕ → Room} (a b c : PagedIndex) (i j k : ℕ) → IsIndexTaken r1 a b i j → IsIndexTaken r2 b c j k → IsIndexTaken r a c i k
    → nodes_written a c (k - i) ≡ nodes_written a b (j - i) ++ nodes_written b c (k - j)
written_both {r1 = r1} a b c i j k h g whole =
    let first = h.number in
    let second = g.number in
    let count : k - i ≡ length (h.numbers ++ g.numbers) = let sum = length-append h.numbers g.numbers in omega (arith, first, second, sum) in
    let taken = taken_then h.numbers g.numbers (dirty_of a) (dirty_of b) (dirty_of c) h.taken g.taken in
    ap (λ (n : ℕ). nodes_written a c n) count ∙ ap (said_by c) (firsts_taken (h.numbers ++ g.numbers) (dirty_of a) (dirty_of c) taken) ∙ said_both r1 b c h.numbers g.numbers g.kept h.rooms
    ∙ ap (λ (l : List Index). l ++ said_by c g.numbers) (sym (written_are a b i j h)) ∙ ap (λ (l : List Index). nodes_written a b (j - i) ++ l) (sym (written_are b c j k g))

-- ---- one LEB
pub leb_of : (geo : RawGeometry) (old new : VolumeState) (lnum used end i : ℕ) (bytes : List ℕ) (nodes : List Index) → 0 < index_node_len geo → geo.leb_size ≡ old.leb_size → end ≡ whole_units geo used
    → used ≡ length nodes * index_node_len geo → bytes ≡ in_rooms (index_node_len geo) i nodes → IsLebPut old new lnum bytes used end → IsLebOf geo old new lnum i nodes
leb_of geo old new lnum used end i bytes [] some size units count text put = put.same (omega (arith, count))
leb_of geo old new lnum used end i bytes (node ∷ nodes) some size units count text put =
    let room = index_node_len geo in
    let sum = add-mul 1 (length nodes) room in
    let succ : suc (length nodes) ≡ 1 + length nodes = omega arith in
    let more = ap (λ (n : ℕ). n * room) succ in
    let busy : 0 < used = omega (arith, count, sum, more, some) in
    let stop : end ≡ rooms_end geo (length (node ∷ nodes)) = units ∙ ap (whole_units geo) count in
    let gap : end - used ≡ rooms_end geo (length (node ∷ nodes)) - length (node ∷ nodes) * room = omega (arith, stop, count) in
    record {
      holds = put.whole busy ∙ ap (λ (l : List ℕ). filled old.leb_size (l ++ gap_of (end - used))) text
          ∙ ap (λ (n : ℕ). filled old.leb_size (in_rooms room i (node ∷ nodes) ++ gap_of n)) gap
          ∙ ap (λ (n : ℕ). filled n (in_rooms room i (node ∷ nodes) ++ gap_of (rooms_end geo (length (node ∷ nodes)) - length (node ∷ nodes) * room))) (sym size);
      written = (put.ended busy).0 ∙ stop;
      left = put.left busy;
    }

leb_later : (geo : RawGeometry) (a b c : VolumeState) (lnum sqnum : ℕ) (nodes : List Index) → IsLebOf geo a b lnum sqnum nodes → IsSameLeb b c lnum → IsLebOf geo a c lnum sqnum nodes
leb_later geo a b c lnum sqnum [] h same = IsSameLeb-then a b c lnum h same
leb_later geo a b c lnum sqnum (node ∷ nodes) h same = record {
  holds = same.holds ∙ h.holds;
  written = same.written ∙ h.written;
  left = Only-same b c lnum h.left same;
}

leb_sooner : (geo : RawGeometry) (a b c : VolumeState) (lnum sqnum : ℕ) (nodes : List Index) → IsSameLeb a b lnum → IsLebOf geo b c lnum sqnum nodes → IsLebOf geo a c lnum sqnum nodes
leb_sooner geo a b c lnum sqnum [] same h = IsSameLeb-then a b c lnum same h
leb_sooner geo a b c lnum sqnum (node ∷ nodes) same h = h

-- ---- several LEBs
-- the nodes of the first LEB are all, or as many as it takes
first_part : (q : ℕ) (xs ys : List Index) → length xs ≤ q → (ys ≡ []) ⊎ (length xs ≡ q) → take q (drop (0 * q) (xs ++ ys)) ≡ xs
first_part q xs ys fits (inl none) =
    let start : 0 * q ≡ 0 = omega arith in
    ap (λ (n : ℕ). take q (drop n (xs ++ ys))) start ∙ ap (λ (l : List Index). take q (xs ++ l)) none ∙ ap (take q) (append-nil xs) ∙ take_all q xs fits
first_part q xs ys fits (inr full) =
    let start : 0 * q ≡ 0 = omega arith in
    ap (λ (n : ℕ). take q (drop n (xs ++ ys))) start ∙ ap (λ (n : ℕ). take n (xs ++ ys)) (sym full) ∙ take-append_seam xs ys

next_part : (q n : ℕ) (xs ys : List Index) → length xs ≡ q → take q (drop (suc n * q) (xs ++ ys)) ≡ take q (drop (n * q) ys)
next_part q n xs ys full =
    let sum = add-mul 1 n q in
    let succ : suc n ≡ 1 + n = omega arith in
    let more = ap (λ (m : ℕ). m * q) succ in
    let past : suc n * q ≡ length xs + n * q = omega (arith, sum, more, full) in
    ap (λ (m : ℕ). take q (drop m (xs ++ ys))) past ∙ ap (take q) (drop-append-add xs ys (n * q))

none_part : (q n : ℕ) (xs ys : List Index) → length xs ≤ q → ys ≡ [] → take q (drop (suc n * q) (xs ++ ys)) ≡ []
none_part q n xs ys fits none =
    let sum = add-mul 1 n q in
    let succ : suc n ≡ 1 + n = omega arith in
    let more = ap (λ (m : ℕ). m * q) succ in
    let past : length xs ≤ suc n * q = omega (arith, sum, more, fits) in
    ap (λ (l : List Index). take q (drop (suc n * q) (xs ++ l))) none ∙ ap (λ (l : List Index). take q (drop (suc n * q) l)) (append-nil xs) ∙ ap (take q) (drop_all (suc n * q) xs past) ∙ take_all q [] (omega arith)

empty_part : (q n : ℕ) (ys : List Index) → ys ≡ [] → take q (drop n ys) ≡ []
empty_part q n ys none = ap (λ (l : List Index). take q (drop n l)) none ∙ ap (take q) (drop_all n [] (omega arith)) ∙ take_all q [] (omega arith)

got_given : (lebs : List ℕ) (n m : ℕ) → slice_get lebs n ≡ Some m → IsGiven lebs m
got_given [] n m h = absurd cc
got_given (lnum ∷ lebs) zero m h = let same : m ≡ lnum = cc in inl same
got_given (lnum ∷ lebs) (suc n) m h = inr (got_given lebs n m h)

pub lebs_both : (geo : RawGeometry) (a b c : VolumeState) (lnum : ℕ) (lebs : List ℕ) (i j : ℕ) (xs ys : List Index) → (IsGiven lebs lnum → ⊥) → WorksInLebs a b (lnum ∷ []) → WorksInLebs b c lebs
    → length xs ≤ index_nodes_per_leb geo → (ys ≡ []) ⊎ ((length xs ≡ index_nodes_per_leb geo) × (j ≡ i + index_nodes_per_leb geo)) → IsLebOf geo a b lnum i xs → AreLebsOf geo lebs b c j ys
    → AreLebsOf geo (lnum ∷ lebs) a c i (xs ++ ys)
lebs_both geo a b c lnum lebs i j xs ys apart ab bc fits full one rest zero m is =
    let q = index_nodes_per_leb geo in
    let same : lnum ≡ m = cc in
    let part : take q (drop (0 * q) (xs ++ ys)) ≡ xs = first_part q xs ys fits (elim full [ inl none ↦ inl none | inr both ↦ inr both.0 ]) in
    let start : i ≡ i + 0 * q = omega arith in
    let P : List Index → Type 0 = λ l. IsLebOf geo a c lnum (i + 0 * q) l in
    let S : ℕ → Type 0 = λ s. IsLebOf geo a c lnum s xs in
    let L : ℕ → Type 0 = λ k. IsLebOf geo a c k (i + 0 * q) (take q (drop (0 * q) (xs ++ ys))) in
    subst L same (subst P (sym part) (subst S start (leb_later geo a b c lnum i xs one (bc.others lnum apart))))
lebs_both geo a b c lnum lebs i j xs ys apart ab bc fits full one rest (suc n) m is =
    let q = index_nodes_per_leb geo in
    let other : IsGiven (lnum ∷ []) m → ⊥ = λ given. elim given [
      | inl e ↦ let Q : ℕ → Type 0 = λ k. IsGiven lebs k in apart (subst Q e (got_given lebs n m is))
      | inr none ↦ none
    ] in
    let own = rest n m is in
    let P : List Index → Type 0 = λ l. IsLebOf geo a c m (i + suc n * q) l in
    elim full [
      | inl none ↦
          let B : List Index → Type 0 = λ l. IsLebOf geo b c m (j + n * q) l in
          subst P (sym (none_part q n xs ys fits none)) (IsSameLeb-then a b c m (ab.others m other) (subst B (empty_part q (n * q) ys none) own))
      | inr both ↦
          let sum = add-mul 1 n q in
          let succ : suc n ≡ 1 + n = omega arith in
          let more = ap (λ (k : ℕ). k * q) succ in
          let behind = both.1 in
          let start : j + n * q ≡ i + suc n * q = omega (arith, sum, more, behind) in
          let S : ℕ → Type 0 = λ s. IsLebOf geo a c m s (take q (drop (n * q) ys)) in
          subst P (sym (next_part q n xs ys both.0)) (subst S start (leb_sooner geo a b c m (j + n * q) (take q (drop (n * q) ys)) (ab.others m other) own))
    ]

-- LEBs to which nothing was written
pub none_lebs : (geo : RawGeometry) (state : VolumeState) (lebs : List ℕ) (sqnum : ℕ) (nodes : List Index) → nodes ≡ [] → AreLebsOf geo lebs state state sqnum nodes
none_lebs geo state lebs sqnum nodes none k lnum is =
    let q = index_nodes_per_leb geo in
    let P : List Index → Type 0 = λ l. IsLebOf geo state state lnum (sqnum + k * q) l in
    subst P (sym (empty_part q (k * q) nodes none)) (IsSameLeb-none state lnum)

-- nothing is written where no number was given
pub none_written_nodes : (a : PagedIndex) (i : ℕ) → nodes_written a a (i - i) ≡ []
none_written_nodes a i = let none : i - i ≡ 0 = omega arith in ap (λ (n : ℕ). nodes_written a a n) none

pub idle_leb : (geo : RawGeometry) (state : VolumeState) (lnum : ℕ) (a : PagedIndex) (i : ℕ) → IsLebOf geo state state lnum i (nodes_written a a (i - i))
idle_leb geo state lnum a i =
    let P : List Index → Type 0 = λ l. IsLebOf geo state state lnum i l in
    subst P (sym (none_written_nodes a i)) (IsSameLeb-none state lnum)

-- ---- one LEB alone
pub next_leb : (geo : RawGeometry) (lnum offs i j : ℕ) (dirty : List ℕ) → i < j → j ≤ i + index_nodes_per_leb geo → (dirty ≡ []) ⊎ (j ≡ i + index_nodes_per_leb geo)
    → offs ≡ whole_units geo ((j - i) * index_node_len geo) → IsNextLeb geo lnum (j - i) dirty (head_at lnum offs)
next_leb geo lnum offs i j dirty more most full end = record {
  some = omega (arith, more);
  most = omega (arith, most);
  all = elim full [ inl none ↦ inl none | inr whole ↦ inr (omega (arith, whole)) ];
  head = ap (head_at lnum) end;
}

-- ---- the bytes of nodes
bytes_both : (xs ys : List Index) → index_bytes (xs ++ ys) ≡ index_bytes xs + index_bytes ys
bytes_both [] ys = omega arith
bytes_both (x ∷ xs) ys = let more = bytes_both xs ys in omega (arith, more)

pub bytes_then : {r1 r2 r : ℕ → Room} (a b c : PagedIndex) (i j k : ℕ) → IsIndexTaken r1 a b i j → IsIndexTaken r2 b c j k → IsIndexTaken r a c i k
    → index_bytes (nodes_written a c (k - i)) ≡ index_bytes (nodes_written a b (j - i)) + index_bytes (nodes_written b c (k - j))
bytes_then a b c i j k h g whole = ap index_bytes (written_both a b c i j k h g whole) ∙ bytes_both (nodes_written a b (j - i)) (nodes_written b c (k - j))

pub no_bytes : (a : PagedIndex) (i : ℕ) → index_bytes (nodes_written a a (i - i)) ≡ 0
no_bytes a i = ap index_bytes (none_written_nodes a i)

only_number : (numbers old new : List ℕ) (node : ℕ) → length numbers ≡ 1 → AreFirstsTaken numbers old new → slice_get old 0 ≡ Some node → numbers ≡ node ∷ []
only_number [] old new node long h first = absurd (omega (arith, long))
only_number (x ∷ []) old new node long h first =
    let same : x ≡ node = let own = sym h.0 ∙ first in cc in
    ap (λ (k : ℕ). k ∷ []) same
only_number (x ∷ y ∷ numbers) old new node long h first = absurd (omega (arith, long))

-- of one node
pub one_bytes : {r : ℕ → Room} (a b : PagedIndex) (i j node : ℕ) → IsIndexTaken r a b i j → j ≡ i + 1 → IsNextNode a node → index_bytes (nodes_written a b (j - i)) ≡ node_end (node_length (said_of a node))
one_bytes a b i j node h e next =
    let number = h.number in
    let only = only_number h.numbers (dirty_of a) (dirty_of b) node (omega (arith, number, e)) h.taken next.first in
    let said = said_stays a b node h.kept next.ready.below in
    let none : node_end (node_length (said_of a node)) + 0 ≡ node_end (node_length (said_of a node)) = omega arith in
    ap index_bytes (written_are a b i j h ∙ ap (said_by b) only) ∙ ap (λ (s : Index). node_end (node_length s) + 0) said ∙ none

-- ---- what a cut leaves
left_before : (geo : RawGeometry) (a : VolumeState) (lnum sqnum : ℕ) (nodes : List Index) (c : List ℕ) → a.left_now lnum c → IsLebLeft geo a lnum sqnum nodes c
left_before geo a lnum sqnum [] c h = h
left_before geo a lnum sqnum (node ∷ nodes) c h = inl h

-- of a LEB that was written, afterwards
left_after : (geo : RawGeometry) (a b : VolumeState) (lnum sqnum : ℕ) (nodes : List Index) (c : List ℕ) → IsLebOf geo a b lnum sqnum nodes → b.left_now lnum c → IsLebLeft geo a lnum sqnum nodes c
left_after geo a b lnum sqnum [] c h left = h.left c left
left_after geo a b lnum sqnum (node ∷ nodes) c h left = inr (h.left c left ∙ h.holds)

left_sooner : (geo : RawGeometry) (a b : VolumeState) (lnum sqnum : ℕ) (nodes : List Index) (c : List ℕ) → IsSameLeb a b lnum → IsLebLeft geo b lnum sqnum nodes c → IsLebLeft geo a lnum sqnum nodes c
left_sooner geo a b lnum sqnum [] c same h = same.left c h
left_sooner geo a b lnum sqnum (node ∷ nodes) c same (inl h) = inl (same.left c h)
left_sooner geo a b lnum sqnum (node ∷ nodes) c same (inr e) = inr e

-- while bytes are put into a LEB
pub leb_left : (geo : RawGeometry) (old new : VolumeState) (lnum used i : ℕ) (bytes : List ℕ) (nodes : List Index) → 0 < index_node_len geo → geo.leb_size ≡ old.leb_size
    → used ≡ length nodes * index_node_len geo → bytes ≡ in_rooms (index_node_len geo) i nodes → IsPutLeft geo old new lnum bytes used → Leaves old new (λ c. IsLebLeft geo old lnum i nodes (c lnum))
leb_left geo old new lnum used i bytes [] some size count text put = put.idle (omega (arith, count))
leb_left geo old new lnum used i bytes (node ∷ nodes) some size count text put =
    let room = index_node_len geo in
    let sum = add-mul 1 (length nodes) room in
    let succ : suc (length nodes) ≡ 1 + length nodes = omega arith in
    let more = ap (λ (n : ℕ). n * room) succ in
    let busy : 0 < used = omega (arith, count, sum, more, some) in
    let stop : whole_units geo used ≡ rooms_end geo (length (node ∷ nodes)) = ap (whole_units geo) count in
    let gap : whole_units geo used - used ≡ rooms_end geo (length (node ∷ nodes)) - length (node ∷ nodes) * room = omega (arith, stop, count) in
    let same : filled old.leb_size (bytes ++ gap_of (whole_units geo used - used)) ≡ leb_of_nodes geo i (node ∷ nodes) =
    ap (λ (l : List ℕ). filled old.leb_size (l ++ gap_of (whole_units geo used - used))) text ∙ ap (λ (n : ℕ). filled old.leb_size (in_rooms room i (node ∷ nodes) ++ gap_of n)) gap
    ∙ ap (λ (n : ℕ). filled n (in_rooms room i (node ∷ nodes) ++ gap_of (rooms_end geo (length (node ∷ nodes)) - length (node ∷ nodes) * room))) (sym size) in
    Leaves-more old new (λ c. old.left_now lnum (c lnum) ⊎ (c lnum ≡ filled old.leb_size (bytes ++ gap_of (whole_units geo used - used)))) (λ c. IsLebLeft geo old lnum i (node ∷ nodes) (c lnum))
    (λ c left. elim left [ inl before ↦ inl before | inr e ↦ inr (e ∙ same) ]) (put.busy busy)

-- while the first LEB is written, with those behind it as they were
left_first : (geo : RawGeometry) (a : VolumeState) (lnum : ℕ) (lebs : List ℕ) (i : ℕ) (xs ys : List Index) (c : ℕ → List ℕ) → (IsGiven lebs lnum → ⊥) → length xs ≤ index_nodes_per_leb geo
    → (ys ≡ []) ⊎ (length xs ≡ index_nodes_per_leb geo) → IsLebLeft geo a lnum i xs (c lnum) → Elsewhere a (IsGiven (lnum ∷ [])) c → AreLebsLeft geo (lnum ∷ lebs) a i (xs ++ ys) c
left_first geo a lnum lebs i xs ys c apart fits full one others zero m is =
    let q = index_nodes_per_leb geo in
    let same : lnum ≡ m = cc in
    let start : i ≡ i + 0 * q = omega arith in
    let P : List Index → Type 0 = λ l. IsLebLeft geo a lnum (i + 0 * q) l (c lnum) in
    let S : ℕ → Type 0 = λ s. IsLebLeft geo a lnum s xs (c lnum) in
    let L : ℕ → Type 0 = λ k. IsLebLeft geo a k (i + 0 * q) (take q (drop (0 * q) (xs ++ ys))) (c k) in
    subst L same (subst P (sym (first_part q xs ys fits full)) (subst S start one))
left_first geo a lnum lebs i xs ys c apart fits full one others (suc n) m is =
    let q = index_nodes_per_leb geo in
    let other : IsGiven (lnum ∷ []) m → ⊥ = λ given. elim given [
      | inl e ↦ let Q : ℕ → Type 0 = λ k. IsGiven lebs k in apart (subst Q e (got_given lebs n m is))
      | inr none ↦ none
    ] in
    left_before geo a m (i + suc n * q) (take q (drop (suc n * q) (xs ++ ys))) (c m) (others m other)

-- and while those behind it are
left_behind : (geo : RawGeometry) (a b : VolumeState) (lnum : ℕ) (lebs : List ℕ) (i j : ℕ) (xs ys : List Index) (c : ℕ → List ℕ) → (IsGiven lebs lnum → ⊥) → WorksInLebs a b (lnum ∷ [])
    → length xs ≤ index_nodes_per_leb geo → (ys ≡ []) ⊎ ((length xs ≡ index_nodes_per_leb geo) × (j ≡ i + index_nodes_per_leb geo)) → IsLebOf geo a b lnum i xs → AreLebsLeft geo lebs b j ys c
    → Elsewhere b (IsGiven lebs) c → AreLebsLeft geo (lnum ∷ lebs) a i (xs ++ ys) c
left_behind geo a b lnum lebs i j xs ys c apart ab fits full one rest others zero m is =
    let q = index_nodes_per_leb geo in
    let same : lnum ≡ m = cc in
    let start : i ≡ i + 0 * q = omega arith in
    let whole : (ys ≡ []) ⊎ (length xs ≡ q) = elim full [ inl none ↦ inl none | inr both ↦ inr both.0 ] in
    let P : List Index → Type 0 = λ l. IsLebLeft geo a lnum (i + 0 * q) l (c lnum) in
    let S : ℕ → Type 0 = λ s. IsLebLeft geo a lnum s xs (c lnum) in
    let L : ℕ → Type 0 = λ k. IsLebLeft geo a k (i + 0 * q) (take q (drop (0 * q) (xs ++ ys))) (c k) in
    subst L same (subst P (sym (first_part q xs ys fits whole)) (subst S start (left_after geo a b lnum i xs (c lnum) one (others lnum apart))))
left_behind geo a b lnum lebs i j xs ys c apart ab fits full one rest others (suc n) m is =
    let q = index_nodes_per_leb geo in
    let other : IsGiven (lnum ∷ []) m → ⊥ = λ given. elim given [
      | inl e ↦ let Q : ℕ → Type 0 = λ k. IsGiven lebs k in apart (subst Q e (got_given lebs n m is))
      | inr none ↦ none
    ] in
    let own = left_sooner geo a b m (j + n * q) (take q (drop (n * q) ys)) (c m) (ab.others m other) (rest n m is) in
    let P : List Index → Type 0 = λ l. IsLebLeft geo a m (i + suc n * q) l (c m) in
    elim full [
      | inl none ↦
          let B : List Index → Type 0 = λ l. IsLebLeft geo a m (j + n * q) l (c m) in
          subst P (sym (none_part q n xs ys fits none)) (subst B (empty_part q (n * q) ys none) own)
      | inr both ↦
          let sum = add-mul 1 n q in
          let succ : suc n ≡ 1 + n = omega arith in
          let more = ap (λ (k : ℕ). k * q) succ in
          let behind = both.1 in
          let start : j + n * q ≡ i + suc n * q = omega (arith, sum, more, behind) in
          let S : ℕ → Type 0 = λ s. IsLebLeft geo a m s (take q (drop (n * q) ys)) (c m) in
          subst P (sym (next_part q n xs ys both.0)) (subst S start own)
    ]

pub lefts_first : (geo : RawGeometry) (a b : VolumeState) (lnum : ℕ) (lebs : List ℕ) (i : ℕ) (xs ys : List Index) → (IsGiven lebs lnum → ⊥) → WorksInLebs a b (lnum ∷ []) → length xs ≤ index_nodes_per_leb geo
    → (ys ≡ []) ⊎ (length xs ≡ index_nodes_per_leb geo) → Leaves a b (λ c. IsLebLeft geo a lnum i xs (c lnum)) → Leaves a b (AreLebsLeft geo (lnum ∷ lebs) a i (xs ++ ys))
lefts_first geo a b lnum lebs i xs ys apart works fits full one =
    Leaves-more a b (λ c. IsLebLeft geo a lnum i xs (c lnum) × Elsewhere a (IsGiven (lnum ∷ [])) c) (AreLebsLeft geo (lnum ∷ lebs) a i (xs ++ ys))
    (λ c h. left_first geo a lnum lebs i xs ys c apart fits full h.0 h.1) (Leaves-both a b (λ c. IsLebLeft geo a lnum i xs (c lnum)) (Elsewhere a (IsGiven (lnum ∷ []))) one works.time)

pub lefts_both : (geo : RawGeometry) (a b d : VolumeState) (lnum : ℕ) (lebs : List ℕ) (i j : ℕ) (xs ys : List Index) → (IsGiven lebs lnum → ⊥) → WorksInLebs a b (lnum ∷ []) → WorksInLebs b d lebs
    → length xs ≤ index_nodes_per_leb geo → (ys ≡ []) ⊎ ((length xs ≡ index_nodes_per_leb geo) × (j ≡ i + index_nodes_per_leb geo)) → IsLebOf geo a b lnum i xs
    → Leaves a b (λ c. IsLebLeft geo a lnum i xs (c lnum)) → Leaves b d (AreLebsLeft geo lebs b j ys) → Leaves a d (AreLebsLeft geo (lnum ∷ lebs) a i (xs ++ ys))
lefts_both geo a b d lnum lebs i j xs ys apart ab bd fits full is one rest =
    let R : (ℕ → List ℕ) → Type 0 = AreLebsLeft geo (lnum ∷ lebs) a i (xs ++ ys) in
    let first = lefts_first geo a b lnum lebs i xs ys apart ab fits (elim full [ inl none ↦ inl none | inr both ↦ inr both.0 ]) one in
    let later = Leaves-both b d (AreLebsLeft geo lebs b j ys) (Elsewhere b (IsGiven lebs)) rest bd.time in
    Leaves-then a b d R (λ c. AreLebsLeft geo lebs b j ys c × Elsewhere b (IsGiven lebs) c) R (λ c h. h) (λ c h. left_behind geo a b lnum lebs i j xs ys c apart ab fits full is h.0 h.1) first later
