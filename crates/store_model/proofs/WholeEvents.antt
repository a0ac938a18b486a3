-- What a collection's begin and the offer of a commit's master keep: LEBs, texts, and settledness.
use Rattle.std.proofs.Common.{◌≡◌, ◌⊎◌, ℕ, List, [], ◌∷◌, inl, inr, Option, Some, None}
use Rattle.std.specs.Option.{option_map}
use Rattle.leaf_map.specs.Kept.{Kept}
use Rattle.store_model.specs.Events.{begin, Begin, Drop, Offer, offer, offered, Open, Put, Putting, Sync}
use Rattle.store_model.specs.Fits.{AreLeavesLeft, Faced, faced_now}
use Rattle.store_model.specs.Invariant.{AreWhole, AreWholeOrLeft, faced_later, OfBoth, OfNext}
use Rattle.store_model.specs.Lebs.{IsSettledWith, IsStoreSettled, lent, space_of}
use Rattle.space_sums.specs.Spaces.{with_empty}
use Rattle.store_model.specs.Store.{StoreIndex, Next, Store, View}
use Rattle.store_model.specs.Texts.{AreNextBudsIn, AreTexts}

pub is_no_begin : (victim : ℕ) (p : Putting) → Begin victim ≡ Put p → ⊥
is_no_begin victim p e = absurd cc

pub is_no_open : (head lnum : ℕ) (p : Putting) → Open head lnum ≡ Put p → ⊥
is_no_open head lnum p e = absurd cc

pub is_no_offer : (p : Putting) → Offer ≡ Put p → ⊥
is_no_offer p e = absurd cc

pub is_no_sync : (p : Putting) → Sync ≡ Put p → ⊥
is_no_sync p e = absurd cc

pub is_no_drop : (ino : ℕ) (index : StoreIndex) (p : Putting) → Drop ino index ≡ Put p → ⊥
is_no_drop ino index p e = absurd cc

-- ---- a collection begins
same_whole : (m : Store) (victim : ℕ) (view : View) (lnum : ℕ) (kept : List Kept) → AreWhole m view lnum kept → AreWhole (begin victim m) view lnum kept
same_whole m victim view lnum [] h = tt
same_whole m victim view lnum (x ∷ kept) h = (h.0, same_whole m victim view lnum kept h.1)

begin_one : (m : Store) (victim : ℕ) (f : Faced) → AreWholeOrLeft m f → AreWholeOrLeft (begin victim m) f
begin_one m victim f h lnum = by (h lnum)
  where
    by : AreWhole m f.view lnum f.view.kept ⊎ AreLeavesLeft f lnum f.view.kept → AreWhole (begin victim m) f.view lnum f.view.kept ⊎ AreLeavesLeft f lnum f.view.kept
    by (inl whole) = inl (same_whole m victim f.view lnum f.view.kept whole)
    by (inr left) = inr left

pub begin_whole : (m : Store) (victim : ℕ) → OfBoth m (AreWholeOrLeft m) → OfBoth (begin victim m) (AreWholeOrLeft (begin victim m))
begin_whole m victim h = (begin_one m victim (faced_now m) h.0, by m.next h.1)
  where
    by : (next : Option Next) → OfNext m next (AreWholeOrLeft m) → OfNext (begin victim m) next (AreWholeOrLeft (begin victim m))
    by None g = tt
    by (Some next) g = begin_one m victim (faced_later m next) g

pub begin_texts : (m : Store) (victim : ℕ) → AreTexts m → AreTexts (begin victim m)
begin_texts m victim t = record { laid = t.laid; buds = t.buds; later = t.later; ends = t.ends; written = t.written }

-- ---- a master is offered
pub offer_texts : (m : Store) → AreTexts m → AreTexts (offer m)
offer_texts m t = record { laid = t.laid; buds = t.buds; later = by m.next t.later; ends = t.ends; written = t.written }
  where
    by : (next : Option Next) → AreNextBudsIn m.lebs next → AreNextBudsIn m.lebs (option_map offered next)
    by None h = tt
    by (Some next) h = h

pub offer_settled : (m : Store) → IsStoreSettled m → IsStoreSettled (offer m)
offer_settled m s = by m.next s
  where
    by : (next : Option Next) → IsSettledWith m (with_empty (lent m.moving) (space_of m)) next → IsSettledWith (offer m) (with_empty (lent m.moving) (space_of (offer m))) (option_map offered next)
    by None s = s
    by (Some next) s = s
