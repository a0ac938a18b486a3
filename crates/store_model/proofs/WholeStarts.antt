-- Whole or left LEBs where a commit starts: all live leaves stand, each in front of where a head ends in its LEB.
use Rattle.std.proofs.Common.{◌≡◌, ◌⊎◌, ◌≤◌, ◌<◌, ◌+◌, ◌∙◌, ℕ, suc, arith, Bool, true, false, not, List, [], ◌∷◌, map, refl, sym, ap, subst, inl, inr, Option, Some, None}
use Rattle.std.specs.Prelude.{◌==◌, ◌&&◌, ◌||◌, nat_le}
use Rattle.std.specs.List.{AllByRecursion}
use Rattle.std.proofs.lemmas.Bool.{eqb-true}
use Rattle.ubifs_base.specs.declared.raw_geometry.RawGeometry.{RawGeometry}
use Rattle.index_tree.specs.declared.leaf.Leaf.{Leaf}
use Rattle.fs_model.specs.Cover.{round_8}
use Rattle.group_nodes.specs.Texts.{leaf_len}
use Rattle.leaf_map.specs.Kept.{Kept, Placed}
use Rattle.leaf_map.specs.Parts.{in_bud}
use Rattle.store_model.specs.Events.{open_buds, start, take_leb, view_now}
use Rattle.store_model.specs.Fits.{AreLeavesLeft, faced_now, named_by_log, next_lists}
use Rattle.store_model.specs.Invariant.{AreRolesApart, AreWhole, AreWholeOrLeft, IsMeantIn, OfBoth, LeafStands}
use Rattle.store_model.specs.Legal.{CanStart}
use Rattle.store_model.specs.Store.{At, branching, gap, Item, leaf, Leb, Next, Store, View}
use Rattle.store_model.specs.Texts.{AreTexts, IsEnd, IsLaidOut, item_len, items_len, laid_at, leaf_nodes, standing_nodes, text_in}
use Rattle.store_model.proofs.DistinctLeaves.{round_more, some_len, stood_low}
use Rattle.store_model.proofs.OfViews.{each_weaker}
use Rattle.store_model.proofs.StandEvents.{start_stands}
use Rattle.store_model.proofs.WholeOpens.{all_left_as}

-- ---- a leaf that stands has a length
text_long : (lnum offs : ℕ) (x : Kept) (text : List Item) → leaf_nodes text ≡ standing_nodes lnum offs text → IsMeantIn x text → 0 < x.leaf.len
text_long lnum offs x [] e is = absurd is
text_long lnum offs x (leaf p ∷ text) e (inl same) =
    let at : p ≡ laid_at lnum offs p = cc in
    let len : p.len ≡ leaf_len p.node = ap (λ (q : Placed). q.len) at in
    let some = some_len p.node in
    subst (λ (k : Kept). 0 < k.leaf.len) same (omega (arith, len, some))
text_long lnum offs x (leaf p ∷ text) e (inr more) = let rest : leaf_nodes text ≡ standing_nodes lnum (offs + round_8 p.len) text = cc in text_long lnum (offs + round_8 p.len) x text rest more
text_long lnum offs x (branching b ∷ text) e is = text_long lnum (offs + item_len (branching b)) x text e is
text_long lnum offs x (gap n ∷ text) e is = text_long lnum (offs + n) x text e is

stood_long : (geo : RawGeometry) (lebs : List Leb) (x : Kept) → AllByRecursion (IsLaidOut geo) lebs → LeafStands lebs x → 0 < x.leaf.len
stood_long geo [] x laid s = absurd s
stood_long geo (leb ∷ lebs) x laid (inl is) = text_long leb.lnum 0 x leb.text laid.0.places is.1
stood_long geo (leb ∷ lebs) x laid (inr s) = stood_long geo lebs x laid.1 s

-- ---- it is in front of the buds of a new section
abbrev IsBefore : Kept → Option At → Type 0
IsBefore x None = Unit {0}
IsBefore x (Some at) = x.leaf.lnum ≡ at.lnum → x.leaf.offs < at.offs

before_ends : (m : Store) (x : Kept) → AreRolesApart m → AreTexts m → LeafStands m.lebs x → AllByRecursion (IsBefore x) m.ends
before_ends m x a t s = each_weaker (IsEnd m.geo m.lebs) (IsBefore x) low m.ends t.ends
  where
    low : (o : Option At) → IsEnd m.geo m.lebs o → IsBefore x o
    low None h = tt
    low (Some at) h = λ same.
        let within = subst (λ (n : ℕ). x.leaf.offs + round_8 x.leaf.len ≤ items_len (text_in m.lebs n)) same (stood_low m.geo m.lebs x t.laid a.numbers s) in
        let long = stood_long m.geo m.lebs x t.laid s in
        let more = round_more x.leaf.len in
        let off = h.0 in
        omega (arith, within, long, more, off)

not_up : (a b : ℕ) → a < b → nat_le b a ≡ false
not_up a b h = grind (arith)

not_in : (lnum from : ℕ) (found : Leaf) → (found.lnum ≡ lnum → found.offs < from) → ((lnum == found.lnum) && nat_le from found.offs) ≡ false
not_in lnum from found low = by (lnum == found.lnum) refl
  where
    by : (b : Bool) → (lnum == found.lnum) ≡ b → (b && nat_le from found.offs) ≡ false
    by true e = not_up found.offs from (low (sym (eqb-true lnum found.lnum e)))
    by false e = refl

in_none : (k : ℕ) (ends : List (Option At)) (x : Kept) → AllByRecursion (IsBefore x) ends → in_bud (map named_by_log (open_buds k ends)) x.leaf ≡ false
in_none k [] x h = refl
in_none k (None ∷ ends) x h = in_none (suc k) ends x h.1
in_none k (Some at ∷ ends) x h = ap (λ (b : Bool). b || in_bud (map named_by_log (open_buds (suc k) ends)) x.leaf) (not_in at.lnum at.offs x.leaf h.0) ∙ in_none (suc k) ends x h.1

-- ---- both views
live_whole : (m : Store) (taken : List ℕ) (n : ℕ) (xs : List Kept) → AllByRecursion (LeafStands (map (take_leb taken) m.lebs)) xs → AllByRecursion (λ x. AllByRecursion (IsBefore x) m.ends) xs → AreWhole (start taken m) (view_now m taken) n xs
live_whole m taken n [] s b = tt
live_whole m taken n (x ∷ xs) s b = (λ at. (s.0, ap not (in_none 0 m.ends x b.0)), live_whole m taken n xs s.1 b.1)

same_whole : (m : Store) (taken : List ℕ) (view : View) (n : ℕ) (kept : List Kept) → AreWhole m view n kept → AreWhole (start taken m) view n kept
same_whole m taken view n [] h = tt
same_whole m taken view n (x ∷ kept) h = (λ at. ((start_stands m taken (x ∷ []) ((h.0 at).0, tt)).0, (h.0 at).1), same_whole m taken view n kept h.1)

pub start_whole : (m : Store) (taken : List ℕ) → CanStart m taken → AreRolesApart m → AreTexts m → AllByRecursion (LeafStands m.lebs) m.live → OfBoth m (AreWholeOrLeft m) → OfBoth (start taken m) (AreWholeOrLeft (start taken m))
start_whole m taken can a t s h = (now, λ n. inl (live_whole m taken n m.live (start_stands m taken m.live s) (each_weaker (LeafStands m.lebs) (λ x. AllByRecursion (IsBefore x) m.ends) (λ x stands. before_ends m x a t stands) m.live s)))
  where
    k : Store
    k = start taken m

    now : AreWholeOrLeft k (faced_now k)
    now n = by (h.0 n)
      where
        by : AreWhole m m.now n m.now.kept ⊎ AreLeavesLeft (faced_now m) n m.now.kept → AreWhole k m.now n m.now.kept ⊎ AreLeavesLeft (faced_now k) n m.now.kept
        by (inl whole) = inl (same_whole m taken m.now n m.now.kept whole)
        by (inr left) = inr (all_left_as (faced_now m) (faced_now k) n m.now.kept (record { tree = refl; copies = refl; synced = refl; heads = refl; lists = sym (ap (λ (o : Option Next). m.listed ∷ next_lists o) can.idle) }) left)
