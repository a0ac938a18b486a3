-- What the premise on checksums holds of, and what it leaves to be seen at the place of an item that was meant.
use Rattle.std.proofs.Common.{◌≡◌, ℕ, true, List, [], ◌∷◌, ◌++◌, length, take, drop, refl, sym, arith}
use Rattle.ubifs_base.specs.NodeLaws.{IsBytes}
use Rattle.leb_scan.specs.Fronts.{own_before, begins_alike}
use Rattle.leb_scan.specs.Gaps.{padding_found}
use Rattle.leb_scan.specs.Meant.{IsUntorn, IsMeant, AreUntorn}
use Rattle.leb_scan.specs.MeantLaws.{AreUntorn-front, IsMeant-behind, untorn_where_begins}
use Rattle.leb_scan.specs.Text.{Begins, behind, Stand, is_blank}
use Rattle.leb_scan.specs.TextLaws.{blank_later}
use Rattle.leb_scan.specs.declared.item.Item.{Item}
use Rattle.leb_scan.specs.declared.item.Item.TheVariants.{Padding}
use Rattle.leb_scan.proofs.OneItem.{one_item}
use Rattle.leb_scan.proofs.Unwritten.{blank_no_item}

pub of_untorn : (meant left : List ℕ) (from : ℕ) (items : List Item) → AreUntorn meant from items left → IsMeant meant from items left
of_untorn meant left from [] h = tt
of_untorn meant left from (item ∷ items) h = ((λ torn. absurd (torn.differs h.0)), of_untorn meant left (behind meant from item) items h.1)

pub of_front : (meant left : List ℕ) (from end : ℕ) (items : List Item) → take end left ≡ take end meant → Stand meant from items end → IsMeant meant from items left
of_front meant left from end items same h = of_untorn meant left from items (AreUntorn-front meant left from end items same h)

pub of_meant : (meant : List ℕ) (from : ℕ) (items : List Item) → IsMeant meant from items meant
of_meant meant from [] = tt
of_meant meant from (item ∷ items) = ((λ torn. absurd (torn.differs refl)), of_meant meant (behind meant from item) items)

pub of_padding : (meant left : List ℕ) (place pad_len : ℕ) → take 28 (drop place left) ≡ take 28 (drop place meant) → IsMeant meant place (Padding (padding_found place pad_len) pad_len ∷ []) left
of_padding meant left place pad_len same = of_untorn meant left place (Padding (padding_found place pad_len) pad_len ∷ []) (same, tt)

pub shown : (meant left : List ℕ) (from place : ℕ) (before more : List Item) (item other : Item) → IsBytes left → length left ≡ length meant
    → IsMeant meant from (before ++ item ∷ more) left → Stand meant from before place → Begins meant place item → Begins left place other → (other ≡ item) × IsUntorn meant place item left
shown meant left from place before more item other fits long m stand begins there =
    let untorn = untorn_where_begins meant left place item other more (IsMeant-behind meant left from place before (item ∷ more) stand m) there in
    (one_item left place other item fits there (begins_alike meant left place item (sym long) (sym untorn) begins), untorn)

pub unwritten : (meant left : List ℕ) (from end : ℕ) (items : List Item) → IsBytes left → is_blank (drop from left) ≡ true → Stand meant from items end → IsMeant meant from items left
unwritten meant left from end [] fits blank h = tt
unwritten meant left from end (item ∷ items) fits blank h =
    let own = own_before meant from item h.0 in
    ((λ torn. record { none = λ other begins. blank_no_item left from other fits blank begins }), unwritten meant left (behind meant from item) end items fits (blank_later left from (behind meant from item) blank (omega (arith, own))) h.1)
