-- The nodes of a text stand at multiples of 8.
use Rattle.std.proofs.Common.{◌≡◌, ℕ, ◌+◌, ◌%◌, ◌<◌, ◌≤◌, ◌⊎◌, inl, inr, List, [], ◌∷◌, length, min, arith}
use Rattle.std.specs.List.{All}
use Rattle.std.proofs.lemmas.Bool.{cases_lt}
use Rattle.std.proofs.lemmas.List.Elements.{All-nil, All-cons}
use Rattle.ubifs_base.specs.NodeLaws.{IsBytes}
use Rattle.leb_scan.specs.Text.{Begins, behind, up_to_8, Stand, IsText, nodes_of}
use Rattle.leb_scan.specs.declared.found.Found.{Found}
use Rattle.leb_scan.specs.declared.item.Item.{Item}
use Rattle.leb_scan.specs.declared.item.Item.TheVariants.{Node, Padding, Word}
use Rattle.leb_scan.specs.declared.tail.Tail.{Tail}
use Rattle.leb_scan.proofs.OneItem.{long_node}
use Rattle.leb_scan.proofs.Places.{word_room}

-- a multiple of 8, or the end of the LEB, where no item begins
abbrev IsStepped : ℕ → ℕ → Type 0
IsStepped place len = (place % 8 ≡ 0) ⊎ (len ≤ place)

abbrev IsStep : List ℕ → ℕ → Type 0
IsStep leb place = IsStepped place (length leb)

inside : (leb : List ℕ) (place : ℕ) (item : Item) → IsBytes leb → Begins leb place item → place < length leb
inside leb place (Node found) fits h =
    let long = long_node leb place found h.node fits h.stands in
    let room = h.stands.room in
    omega (arith, long, room)
inside leb place (Padding found pad_len) fits h = let room = h.inside in omega (arith, room)
inside leb place Word fits h = let room = word_room leb place h in omega (arith, room)

aligned_here : (leb : List ℕ) (place : ℕ) (item : Item) → IsBytes leb → IsStep leb place → Begins leb place item → place % 8 ≡ 0
aligned_here leb place item fits step h = let before = inside leb place item fits h in elim step [ inl even ↦ even | inr end ↦ absurd (omega (arith, before, end)) ]

rounded : (end len : ℕ) → IsStepped (min (up_to_8 end) len) len
rounded end len = elim (cases_lt (up_to_8 end) len) [
  | inl below ↦ let e : min (up_to_8 end) len ≡ up_to_8 end = omega (arith, below) in let even : up_to_8 end % 8 ≡ 0 = omega arith in inl (rw e even)
  | inr above ↦ let e : min (up_to_8 end) len ≡ len = omega (arith, above) in inr (omega (arith, e))
]

step_on : (leb : List ℕ) (place : ℕ) (item : Item) → place % 8 ≡ 0 → Begins leb place item → IsStep leb (behind leb place item)
step_on leb place (Node found) even h = rounded (place + found.len) (length leb)
step_on leb place (Padding found pad_len) even h = let gap = h.even in inl (omega (arith, even, gap))
step_on leb place Word even h = inl (omega (arith, even))

aligned_from : (leb : List ℕ) (from end : ℕ) (items : List Item) → IsBytes leb → IsStep leb from → Stand leb from items end → All (λ found. found.offs % 8 ≡ 0) (nodes_of items)
aligned_from leb from end [] fits step h = All-nil (λ (found : Found). found.offs % 8 ≡ 0)
aligned_from leb from end (Node found ∷ items) fits step h =
    let even = aligned_here leb from (Node found) fits step h.0 in
    let first : found.offs % 8 ≡ 0 = rw h.0.stands.here even in
    All-cons (λ (found : Found). found.offs % 8 ≡ 0) found (nodes_of items) first (aligned_from leb (behind leb from (Node found)) end items fits (step_on leb from (Node found) even h.0) h.1)
aligned_from leb from end (Padding found pad_len ∷ items) fits step h =
    let even = aligned_here leb from (Padding found pad_len) fits step h.0 in
    let first : found.offs % 8 ≡ 0 = rw h.0.stands.here even in
    All-cons (λ (found : Found). found.offs % 8 ≡ 0) found (nodes_of items) first (aligned_from leb (behind leb from (Padding found pad_len)) end items fits (step_on leb from (Padding found pad_len) even h.0) h.1)
aligned_from leb from end (Word ∷ items) fits step h =
    let even = aligned_here leb from Word fits step h.0 in
    aligned_from leb (behind leb from Word) end items fits (step_on leb from Word even h.0) h.1

pub aligned : (leb : List ℕ) (from end : ℕ) (items : List Item) (tail : Tail) → IsBytes leb → from % 8 ≡ 0 → IsText leb from items end tail → All (λ found. found.offs % 8 ≡ 0) (nodes_of items)
aligned leb from end items tail fits even h = aligned_from leb from end items fits (inl even) h.stand
