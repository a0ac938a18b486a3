-- The one premise on checksums, and what it makes of the text that a cut left.
use Rattle.std.specs.Prelude.{◌≡◌, ◌⊎◌, ⊤, ℕ, ◌+◌, ◌<◌, List, [], ◌∷◌, ◌++◌, take, drop}
use Rattle.leb_scan.specs.Text.{Begins, behind, Stand, IsText, tail_at}
use Rattle.leb_scan.specs.declared.item.Item.{Item}
use Rattle.leb_scan.specs.declared.item.Item.TheVariants.{Node, Padding, Word}

-- how many bytes are an item's own: those of its node, or a word's eight; what stands behind them, as a gap, may be anything
abbrev pub own_len : Item → ℕ
own_len (Node found) = found.len
own_len (Padding found pad_len) = found.len
own_len Word = 8

-- at this place, the item's own bytes were all left as they were meant
abbrev pub IsUntorn : List ℕ → ℕ → Item → List ℕ → Type 0
IsUntorn meant place item left = take (own_len item) (drop place left) ≡ take (own_len item) (drop place meant)

-- so were those of all these items, one behind another
abbrev pub AreUntorn : List ℕ → ℕ → List Item → List ℕ → Type 0
AreUntorn meant from [] left = ⊤
AreUntorn meant from (item ∷ items) left = IsUntorn meant from item left × AreUntorn meant (behind meant from item) items left

-- at this place, not all of the item's own bytes were left as they were meant
pub record IsTorn (meant : List ℕ) (place : ℕ) (item : Item) (left : List ℕ) : Type 0 where
  pub differs : IsUntorn meant place item left → ⊥

-- no item begins here
pub record NothingBegins (leb : List ℕ) (place : ℕ) : Type 0 where
  pub none : (item : Item) → Begins leb place item → ⊥

-- The premise on checksums, of items that stand in the meant bytes from a place on, and of what a cut left: if an item was torn, no item begins at its place.
abbrev pub IsMeant : List ℕ → ℕ → List Item → List ℕ → Type 0
IsMeant meant from [] left = ⊤
IsMeant meant from (item ∷ items) left =
    (IsTorn meant from item left → NothingBegins left from)
    × IsMeant meant (behind meant from item) items left

-- From a place on, what was left shows a first part of the meant items, each untorn, and its text ends there, unless no item is missing.
-- The first that is missing doesn't end within so many bytes.
pub record ShowsFirst (meant : List ℕ) (from end : ℕ) (items : List Item) (within : ℕ) (left : List ℕ) : Type 0 where
  pub first : List Item
  pub rest : List Item
  pub place : ℕ
  pub split : items ≡ first ++ rest
  pub meant_so : Stand meant from first place
  pub stand : Stand left from first place
  pub untorn : AreUntorn meant from first left
  pub ends : ((rest ≡ []) × (place ≡ end)) ⊎ IsText left from first place (tail_at left place)
  pub reaches : (item : Item) (more : List Item) → rest ≡ item ∷ more → within < place + own_len item
