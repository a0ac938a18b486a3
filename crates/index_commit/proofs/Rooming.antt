-- The rooms of several LEBs, and what stands behind the last one.
use Rattle.std.proofs.Common.{◌≡◌, ℕ, zero, suc, ◌+◌, ◌-◌, ◌*◌, ◌/◌, ◌%◌, ◌<◌, ◌≤◌, List, [], ◌∷◌, length, refl, ap, sym, ◌∙◌, subst, arith, inl, inr, true}
use Rattle.std.specs.Prelude.{◌⊎◌, ◌==◌, get_or, Option, None, Some, slice_get}
use Rattle.std.proofs.lemmas.Bool.{cases_Bool}
use Rattle.std.proofs.lemmas.Bool.Decides.{nat_tests}
use Rattle.std.proofs.lemmas.Nat.{div-mul-add, mod-mul-add}
use Rattle.std.proofs.lemmas.Option.{get_or_from_slice_get}
use Rattle.std.proofs.Math.Nat.{add-mod_left, add-mul, add-mul-div_left, div-eq_of_lt, mod-eq_of_lt}
use Rattle.ubifs_base.specs.Geometry.{index_node_len, index_nodes_per_leb}
use Rattle.ubifs_base.specs.declared.raw_geometry.RawGeometry.{RawGeometry}
use Rattle.index_tree.specs.Shape.{fits}
use Rattle.index_media.specs.Clean.{placed_of}
use Rattle.index_media.specs.KeyedRow.{KeyedRow, no_more, node_in, bare}
use Rattle.index_media.specs.PlacedRow.{Stretch, branches_of}
use Rattle.media_sys.specs.declared.branch.Branch.{Branch}
use Rattle.node_table.specs.Dirty.{dirty_below}
use Rattle.table_nodes.specs.NodeView.{tree_at, node_views}
use Rattle.table_nodes.specs.declared.node.Root.{Root}
use Rattle.index_cache.specs.Commit.{below_node, node_length, said_of}
use Rattle.index_cache.specs.Paged.{dirty_of, fanout_of, frozen_of}
use Rattle.index_cache.specs.declared.paged.PagedIndex.{PagedIndex}
use Rattle.index_commit.specs.Rooms.{Room, IsIndexLaidOut, LeadsToRoom, head_after, head_behind, last_head, place_by_number, room_in, taken_room, whole_units}
use Rattle.index_commit.specs.Written.{AreFirstsTaken, IsIndexTaken}
use Rattle.index_commit.specs.declared.index_at.IndexHead.{IndexHead}
use Rattle.index_commit.proofs.Laid.{BothAreKept, index_rooms, index_then}
use Rattle.index_commit.proofs.LastTaken.{none_from_none, root_is_last}
use Rattle.index_commit.proofs.RowRooms.{row_rooms}
use Rattle.index_commit.proofs.Rooms.{view_node}

abbrev room_at : ℕ → ℕ → Room
room_at lnum offs = record { lnum = lnum; offs = offs }

-- ---- the rooms of the first LEB, and those of the others
first_room : (geo : RawGeometry) (lnum : ℕ) (lebs all : List ℕ) (n : ℕ) → all ≡ lnum ∷ lebs → n < index_nodes_per_leb geo → room_in lnum (index_node_len geo) 0 n ≡ taken_room geo all n
first_room geo lnum lebs all n e less =
    let q = index_nodes_per_leb geo in
    let len = index_node_len geo in
    let first : n / q ≡ 0 = div-eq_of_lt less in
    let same : n % q ≡ n = mod-eq_of_lt less in
    let leb : get_or all (n / q) 0 ≡ lnum = ap (λ (xs : List ℕ). get_or xs (n / q) 0) e ∙ ap (λ (k : ℕ). get_or (lnum ∷ lebs) k 0) first in
    let start : 0 + n * len ≡ n * len = omega arith in
    let offs : 0 + n * len ≡ n % q * len = start ∙ ap (λ (k : ℕ). k * len) (sym same) in
    ap (λ (o : ℕ). room_at lnum o) offs ∙ ap (λ (k : ℕ). room_at k (n % q * len)) (sym leb)

other_room : (geo : RawGeometry) (lnum : ℕ) (lebs all : List ℕ) (m n : ℕ) → all ≡ lnum ∷ lebs → 0 < index_nodes_per_leb geo → m ≡ index_nodes_per_leb geo
    → taken_room geo lebs n ≡ taken_room geo all (m + n)
other_room geo lnum lebs all m n e some full =
    let q = index_nodes_per_leb geo in
    let len = index_node_len geo in
    let sum : m + n ≡ n + q * 1 = omega (arith, full) in
    let turned : m + n ≡ q + n = omega (arith, full) in
    let past : (n + q * 1) / q ≡ n / q + 1 = add-mul-div_left n 1 some in
    let succ : n / q + 1 ≡ suc (n / q) = omega arith in
    let next : (m + n) / q ≡ suc (n / q) = ap (λ (k : ℕ). k / q) sum ∙ past ∙ succ in
    let rest : (m + n) % q ≡ n % q = ap (λ (k : ℕ). k % q) turned ∙ add-mod_left q n in
    let leb : get_or all ((m + n) / q) 0 ≡ get_or lebs (n / q) 0 = ap (λ (xs : List ℕ). get_or xs ((m + n) / q) 0) e ∙ ap (λ (k : ℕ). get_or (lnum ∷ lebs) k 0) next in
    ap (λ (k : ℕ). room_at k (n % q * len)) (sym leb) ∙ ap (λ (k : ℕ). room_at (get_or all ((m + n) / q) 0) (k * len)) (sym rest)

-- the nodes of the first LEB alone
pub first_taken : (geo : RawGeometry) (lnum : ℕ) (lebs all : List ℕ) (a b : PagedIndex) (i j : ℕ) → all ≡ lnum ∷ lebs → j ≤ i + index_nodes_per_leb geo
    → IsIndexTaken (room_in lnum (index_node_len geo) 0) a b i j → IsIndexTaken (taken_room geo all) a b i j
first_taken geo lnum lebs all a b i j e most h =
    let number = h.number in
    index_rooms (taken_room geo all) (room_in lnum (index_node_len geo) 0) a b i j h (λ n less. first_room geo lnum lebs all n e (omega (arith, less, number, most)))

-- and those of the others behind them: of which there are none, or it is full
pub both_taken : BothAreKept → (geo : RawGeometry) (lnum : ℕ) (lebs all : List ℕ) (a b c : PagedIndex) (i j k : ℕ) → all ≡ lnum ∷ lebs → 0 < index_nodes_per_leb geo
    → j ≤ i + index_nodes_per_leb geo → (dirty_of b ≡ []) ⊎ (j ≡ i + index_nodes_per_leb geo)
    → IsIndexTaken (room_in lnum (index_node_len geo) 0) a b i j → IsIndexTaken (taken_room geo lebs) b c j k → IsIndexTaken (taken_room geo all) a c i k
both_taken both geo lnum lebs all a b c i j k e some most full h g =
    let number = h.number in
    index_then both (taken_room geo all) (room_in lnum (index_node_len geo) 0) (taken_room geo lebs) a b c i j k h g (λ n less. first_room geo lnum lebs all n e (omega (arith, less, number, most)))
    (λ n less. elim full [
      | inl none ↦
          let P : List ℕ → Type 0 = λ l. AreFirstsTaken g.numbers l (dirty_of c) in
          let empty = ap length (none_from_none g.numbers (dirty_of c) (subst P none g.taken)) in
          absurd (omega (arith, empty, less))
      | inr whole ↦ other_room geo lnum lebs all (length h.numbers) n e some (omega (arith, whole, number))
    ])

-- the next LEB behind some that are full
pub next_taken : BothAreKept → (geo : RawGeometry) (lebs : List ℕ) (full lnum : ℕ) (a b c : PagedIndex) (i j k : ℕ) → slice_get lebs full ≡ Some lnum → j ≡ i + full * index_nodes_per_leb geo
    → k ≤ j + index_nodes_per_leb geo → IsIndexTaken (taken_room geo lebs) a b i j → IsIndexTaken (room_in lnum (index_node_len geo) 0) b c j k → IsIndexTaken (taken_room geo lebs) a c i k
next_taken both geo lebs full lnum a b c i j k here whole most h g =
    let number = h.number in
    let count = g.number in
    index_then both (taken_room geo lebs) (taken_room geo lebs) (room_in lnum (index_node_len geo) 0) a b c i j k h g (λ n less. refl)
    (λ n less. next_room geo lebs full lnum (length h.numbers) n here (omega (arith, number, whole)) (omega (arith, less, count, most)))
  where
    next_room : (geo : RawGeometry) (lebs : List ℕ) (full lnum m n : ℕ) → slice_get lebs full ≡ Some lnum → m ≡ full * index_nodes_per_leb geo → n < index_nodes_per_leb geo
        → room_in lnum (index_node_len geo) 0 n ≡ taken_room geo lebs (m + n)
    next_room geo lebs full lnum m n here e less =
        let q = index_nodes_per_leb geo in
        let len = index_node_len geo in
        let sum : m + n ≡ full * q + n = omega (arith, e) in
        let leb : (m + n) / q ≡ full = ap (λ (k : ℕ). k / q) sum ∙ div-mul-add full q n less in
        let own : (m + n) % q ≡ n = ap (λ (k : ℕ). k % q) sum ∙ mod-mul-add full q n less in
        let got : get_or lebs ((m + n) / q) 0 ≡ lnum = ap (λ (k : ℕ). get_or lebs k 0) leb ∙ get_or_from_slice_get lebs full lnum 0 here in
        let start : 0 + n * len ≡ n * len = omega arith in
        let offs : 0 + n * len ≡ (m + n) % q * len = start ∙ ap (λ (k : ℕ). k * len) (sym own) in
        ap (λ (o : ℕ). room_at lnum o) offs ∙ ap (λ (k : ℕ). room_at k ((m + n) % q * len)) (sym got)

-- ---- the head
head_first : (geo : RawGeometry) (lnum : ℕ) (lebs all : List ℕ) (offs n : ℕ) → all ≡ lnum ∷ lebs → n < index_nodes_per_leb geo → offs ≡ whole_units geo ((n + 1) * index_node_len geo)
    → Some (record { lnum = lnum; offs = offs }) ≡ last_head geo all (suc n)
head_first geo lnum lebs all offs n e less end =
    let len = index_node_len geo in
    let sum = add-mul n 1 len in
    let behind : (n + 1) * len ≡ 0 + n * len + len = omega (arith, sum) in
    let H : ℕ → Option IndexHead = λ o. Some (record { lnum = lnum; offs = o }) in
    ap H (end ∙ ap (whole_units geo) behind) ∙ ap (λ (r : Room). Some (head_behind geo r)) (first_room geo lnum lebs all n e less)

pub head_both : (geo : RawGeometry) (lnum : ℕ) (lebs all left : List ℕ) (offs i j k : ℕ) (before now found : Option IndexHead) → all ≡ lnum ∷ lebs → 0 < index_nodes_per_leb geo → i < j → j ≤ k
    → j ≤ i + index_nodes_per_leb geo → (k ≡ j) ⊎ (j ≡ i + index_nodes_per_leb geo) → offs ≡ whole_units geo ((j - i) * index_node_len geo) → now ≡ Some (record { lnum = lnum; offs = offs })
    → found ≡ head_after geo lebs now (k - j) → found ≡ head_after geo all before (k - i)
head_both geo lnum lebs all left offs i j k before now found e some more later most full end is h = elim (cases_Bool (k == j)) [
  | inl t ↦
      let same : k ≡ j = grind (arith, nat_tests, t) in
      let none : k - j ≡ 0 = omega (arith, same) in
      let n = j - i - 1 in
      let count : k - i ≡ suc n = omega (arith, same, more) in
      let up : n + 1 ≡ j - i = omega (arith, more) in
      let less : n < index_nodes_per_leb geo = omega (arith, more, most) in
      let here : offs ≡ whole_units geo ((n + 1) * index_node_len geo) = end ∙ ap (λ (m : ℕ). whole_units geo (m * index_node_len geo)) (sym up) in
      h ∙ ap (head_after geo lebs now) none ∙ is ∙ head_first geo lnum lebs all offs n e less here ∙ ap (head_after geo all before) (sym count)
  | inr t ↦
      let past : j < k = grind (arith, nat_tests, t, later) in
      let whole : j ≡ i + index_nodes_per_leb geo = elim full [ inl same ↦ absurd (omega (arith, same, past)) | inr whole ↦ whole ] in
      let n = k - j - 1 in
      let own : k - j ≡ suc n = omega (arith, past) in
      let q = index_nodes_per_leb geo in
      let count : k - i ≡ suc (q + n) = omega (arith, whole, past) in
      h ∙ ap (head_after geo lebs now) own ∙ ap (λ (r : Room). Some (head_behind geo r)) (other_room geo lnum lebs all q n e some refl) ∙ ap (head_after geo all before) (sym count)
]

-- ---- the root
same_head : (geo : RawGeometry) (lebs : List ℕ) (n : ℕ) → head_after geo lebs None n ≡ last_head geo lebs n
same_head geo lebs zero = refl
same_head geo lebs (suc n) = refl

abbrev first_branch : KeyedRow → Option Branch
first_branch row = slice_get (branches_of (placed_of row)) 0

leads_to : (room : Room) (len : ℕ) (root : Root) (b : PagedIndex) → place_by_number b root.number ≡ Some (record { lnum = room.lnum; offs = room.offs; len = len })
    → LeadsToRoom room (first_branch (tree_at b.table.nodes.items (Some root)))
leads_to room len root b place =
    let P : Option Branch → Type 0 = λ o. LeadsToRoom room o in
    let row = view_node root.key (slice_get (node_views b.table.nodes.items) root.number) in
    let O : Option Stretch → KeyedRow = λ o. node_in root.key o (below_node b root.number) no_more in
    subst P (sym (ap first_branch (row ∙ ap O place))) (refl, refl)

root_last : (geo : RawGeometry) (lebs : List ℕ) (a b : PagedIndex) (i k n : ℕ) (frozen : Option Root) → a.frozen ≡ frozen → IsIndexTaken (taken_room geo lebs) a b i k → dirty_of b ≡ [] → k - i ≡ n + 1
    → LeadsToRoom (taken_room geo lebs n) (first_branch (tree_at b.table.nodes.items frozen))
root_last geo lebs a b i k n frozen is h none count =
    let number = h.number in
    let long : length h.numbers ≡ n + 1 = omega (arith, number, count) in
    let A : List ℕ → Type 0 = λ l. AreFirstsTaken h.numbers (dirty_of a) l in
    let F : Option Root → Type 0 = λ o. AreFirstsTaken h.numbers (dirty_below a.table.nodes.items o) [] in
    by frozen long (subst F is (subst A none h.taken))
  where
    by : (o : Option Root) → length h.numbers ≡ n + 1 → AreFirstsTaken h.numbers (dirty_below a.table.nodes.items o) [] → LeadsToRoom (taken_room geo lebs n) (first_branch (tree_at b.table.nodes.items o))
    by None long taken = let empty = ap length (none_from_none h.numbers [] taken) in absurd (omega (arith, empty, long))
    by (Some root) long taken =
        let placed = h.rooms n root.number (root_is_last a.table.nodes.items root h.numbers n taken long) in
        leads_to (taken_room geo lebs n) (node_length (said_of b root.number)) root b placed.place

pub ended : (geo : RawGeometry) (lebs : List ℕ) (a b : PagedIndex) (i k : ℕ) (root : Option Branch) (head : Option IndexHead) → IsIndexTaken (taken_room geo lebs) a b i k → dirty_of b ≡ []
    → root ≡ slice_get (branches_of (placed_of (frozen_of b))) 0 → head ≡ head_after geo lebs None (k - i) → fits (fanout_of a) (bare (frozen_of a)) ≡ true → IsIndexLaidOut geo lebs (k - i) a b (record { root = root; head = head })
ended geo lebs a b i k root head h none first end fit = record {
  head = end ∙ same_head geo lebs (k - i);
  root = λ n count.
      let P : Option Branch → Type 0 = λ o. LeadsToRoom (taken_room geo lebs n) o in
      subst P (sym first) (root_last geo lebs a b i k n b.frozen (sym h.kept.roots.frozen) h none count);
  rooms = row_rooms geo lebs a b i k h none fit;
}
