-- Of the nodes that were put on a head a cut leaves a first part, and it has all that were synced: while nodes are put, and while the head is synced, wherever units begin.
use Rattle.std.proofs.Common.{◌≡◌, ℕ, ◌+◌, ◌-◌, ◌≤◌, List, ◌++◌, length, take, drop, replicate, sym, ap, ◌∙◌, arith, length-append}
use Rattle.std.proofs.lemmas.List.{append_assoc, length-replicate, length-take-le, take-append-le, take-take}
use Rattle.leb_scan.specs.MeantLaws.{first_items, first_items-within}
use Rattle.leb_scan.specs.declared.item.Item.{Item}
use Rattle.ubi_volume.specs.Volume.{VolumeState, Torn, filled}
use Rattle.write_buffer.specs.Buffer.{Buffered, IsOpenFor, text_of}
use Rattle.journal_heads.specs.Prefixes.{AreSyncedItems, IsCutHead, IsMeantText, ShowsPut}

length-filled : (size : ℕ) (text : List ℕ) → length text ≤ size → length (filled size text) ≡ size
length-filled size text fits =
    let l = length-append text (replicate (size - length text) 255) in
    let r = length-replicate {A = ℕ} (size - length text) 255 in
    omega (arith, l, r, fits)

-- the first bytes of a list that begins with the first ones of another
front_of : (n : ℕ) (xs ys : List ℕ) → n ≤ length xs → take n (take n xs ++ ys) ≡ take n xs
front_of n xs ys inside =
    let long = length-take-le n xs inside in
    take-append-le n (take n xs) ys (omega (arith, long)) ∙ take-take n n xs (omega arith)

-- the text of a head begins with what is written
front_of_text : (state : VolumeState) (buffer : Buffered) (lnum : ℕ) (bytes : List ℕ) (size : ℕ) → buffer.place ≤ length (state.holds lnum) →
    take buffer.place (filled size (text_of state buffer lnum ++ bytes)) ≡ take buffer.place (state.holds lnum)
front_of_text state buffer lnum bytes size inside =
    let front = take buffer.place (state.holds lnum) in
    let pad = replicate (size - length (text_of state buffer lnum ++ bytes)) 255 in
    ap (λ (l : List ℕ). take buffer.place l)
    (append_assoc (front ++ buffer.tail) bytes pad ∙ append_assoc front buffer.tail (bytes ++ pad))
    ∙ front_of buffer.place (state.holds lnum) (buffer.tail ++ (bytes ++ pad)) inside

-- what a cut left shows a first part of the items
pub first_of_head : (state : VolumeState) (buffer : Buffered) (lnum : ℕ) (bytes : List ℕ) (items : List Item) (left : List ℕ) →
    IsCutHead state buffer lnum bytes items left → ShowsPut state buffer lnum bytes items left
first_of_head state buffer lnum bytes items left cut =
    let text = text_of state buffer lnum ++ bytes in
    let torn = cut.torn.1 in
    let inside : buffer.place ≤ length (state.holds lnum) = omega (arith, cut.held, cut.opened.fits) in
    let long : length left ≡ length (filled state.leb_size text) = torn.len ∙ cut.held ∙ sym (length-filled state.leb_size text cut.meant.fits) in
    first_items (filled state.leb_size text) left 0 (length text) buffer.place items long
    (torn.front ∙ sym (front_of_text state buffer lnum bytes state.leb_size inside))
    cut.meant.stand cut.premise

-- and it begins with those that end in what was written
pub synced_of_head : (state : VolumeState) (buffer : Buffered) (lnum : ℕ) (bytes : List ℕ) (items before more : List Item) (left : List ℕ) →
    (shown : ShowsPut state buffer lnum bytes items left) → AreSyncedItems state buffer lnum bytes before → items ≡ before ++ more →
    (extra : List Item) × (shown.first ≡ before ++ extra)
synced_of_head state buffer lnum bytes items before more left shown synced split =
    first_items-within (filled state.leb_size (text_of state buffer lnum ++ bytes)) left 0 (length (text_of state buffer lnum ++ bytes)) buffer.place synced.end
    items before more shown synced.stand synced.written split
