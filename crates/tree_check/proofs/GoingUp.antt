-- Leaves whose keys go up, or are those of other names, show nothing twice.
use Rattle.std.proofs.Common.{◌≡◌, length, ◌<◌, ◌+◌, ◌*◌, ◌^◌, ◌++◌, ◌||◌, ◌==◌, ℕ, Bool, true, false, List, [], ◌∷◌, map, refl, sym, ap, subst, ◌∙◌, Option, arith, inl, inr}
use Rattle.std.specs.Prelude.{⊤}
use Rattle.std.specs.List.{list_any}
use Rattle.std.specs.Cmp.Lexicographic.{slice_cmp}
use Rattle.std.specs.Ordering.{nat_cmp}
use Rattle.std.proofs.lemmas.Bool.{and_parts, eqb-true}
use Rattle.ubifs_base.specs.R5.{r5_of}
use Rattle.fs_model.specs.Path.{is_same_name}
use Rattle.image_check.specs.declared.wrong_value.WrongValue.{WrongValue}
use Rattle.tree_check.specs.Facts.{Facts, is_misplaced}
use Rattle.tree_check.specs.KeyOrder.{DoKeysGoUp, IsAheadOf, ShowNothingTwice, shown_rank}
use Rattle.tree_check.specs.Places.{wrong_alone, wrong_if, wrongs_behind}
use Rattle.tree_check.specs.Seen.{same_told}
use Rattle.tree_check.specs.declared.shown_leaf.Shown.{Shown}
use Rattle.tree_check.specs.declared.shown_leaf.Shown.TheVariants.{Inode, Entry, Deletion, Block, Truncation, Nothing}
use Rattle.tree_check.specs.declared.shown_leaf.ShownLeaf.{ShownLeaf}
use Rattle.tree_check.proofs.SeenMore.{name_from}
use Rattle.tree_check.proofs.TestLaws.{or_none}

pub no : false ≡ true → ⊥
no e = absurd cc

-- what two leaves show alike has one place
same_rank : (a b : Shown) → 0 < shown_rank a → same_told a b ≡ true → shown_rank a ≡ shown_rank b
same_rank (Inode ino k l) (Inode q m n) h t = ap (λ (z : ℕ). z * 2 ^ 34) (sym (eqb-true q ino t))
same_rank (Inode ino k l) (Entry d n i m) h t = absurd (no t)
same_rank (Inode ino k l) (Deletion d n) h t = absurd (no t)
same_rank (Inode ino k l) (Block q m) h t = absurd (no t)
same_rank (Inode ino k l) (Truncation q m) h t = absurd (no t)
same_rank (Inode ino k l) Nothing h t = absurd (no t)
same_rank (Block ino b) (Block q m) h t =
    let p = and_parts (q == ino) (m == b) t in
    ap (λ (z : ℕ). z * 2 ^ 34 + (2 ^ 32 + b)) (sym (eqb-true q ino p.0)) ∙ ap (λ (z : ℕ). q * 2 ^ 34 + (2 ^ 32 + z)) (sym (eqb-true m b p.1))
same_rank (Block ino b) (Inode q m n) h t = absurd (no t)
same_rank (Block ino b) (Entry d n i m) h t = absurd (no t)
same_rank (Block ino b) (Deletion d n) h t = absurd (no t)
same_rank (Block ino b) (Truncation q m) h t = absurd (no t)
same_rank (Block ino b) Nothing h t = absurd (no t)
same_rank (Entry dir name ino k) (Entry d n i m) h t =
    let p = and_parts (d == dir) (is_same_name n name) t in
    ap (λ (z : ℕ). z * 2 ^ 34 + (2 * 2 ^ 32 + r5_of name)) (sym (eqb-true d dir p.0))
    ∙ ap (λ (z : List ℕ). d * 2 ^ 34 + (2 * 2 ^ 32 + r5_of z)) (sym (name_from n name (slice_cmp nat_cmp n name) refl p.1))
same_rank (Entry dir name ino k) (Inode q m n) h t = absurd (no t)
same_rank (Entry dir name ino k) (Deletion d n) h t = absurd (no t)
same_rank (Entry dir name ino k) (Block q m) h t = absurd (no t)
same_rank (Entry dir name ino k) (Truncation q m) h t = absurd (no t)
same_rank (Entry dir name ino k) Nothing h t = absurd (no t)
same_rank (Deletion d n) b h t = absurd (omega arith)
same_rank (Truncation q m) b h t = absurd (omega arith)
same_rank Nothing b h t = absurd (omega arith)

-- what is ahead of others has a place in the order
has_place : (s : Shown) (leaves : List ShownLeaf) → IsAheadOf s leaves → 0 < shown_rank s
has_place s [] a = a
has_place s (y ∷ leaves) (inl a) = a.0
has_place s (y ∷ leaves) (inr a) = has_place s leaves a.2

through : (a b c : ℕ) → a < b → b < c → a < c
through a b c h k = omega arith

apart : (m n : ℕ) → m ≡ n → m < n → ⊥
apart m n e h = omega arith

-- what stands further on isn't shown by what has a lesser place
not_shown : (s t : Shown) → 0 < shown_rank s → shown_rank s < shown_rank t → (b : Bool) → same_told s t ≡ b → b ≡ false
not_shown s t p l false e = refl
not_shown s t p l true e = absurd (apart (shown_rank s) (shown_rank t) (same_rank s t p e) l)

none_and : (b c : Bool) → b ≡ false → c ≡ false → (b || c) ≡ false
none_and false c e h = h
none_and true c e h = absurd (no (sym e))

-- where the first of some leaves stands further on, all do
none_further : (s : Shown) → 0 < shown_rank s → (y : ShownLeaf) (leaves : List ShownLeaf) → shown_rank s < shown_rank y.shown → IsAheadOf y.shown leaves → DoKeysGoUp leaves
    → list_any (λ z. same_told s z.shown) leaves ≡ false
none_further s p y [] l a g = refl
none_further s p y (z ∷ leaves) l (inl a) g =
    let on = through (shown_rank s) (shown_rank y.shown) (shown_rank z.shown) l a.1 in
    none_and (same_told s z.shown) (list_any (λ z. same_told s z.shown) leaves) (not_shown s z.shown p on (same_told s z.shown) refl) (none_further s p z leaves on g.0 g.1)
none_further s p y (z ∷ leaves) l (inr a) g =
    let on = subst (λ (n : ℕ). shown_rank s < n) a.0 l in
    none_and (same_told s z.shown) (list_any (λ z. same_told s z.shown) leaves) (not_shown s z.shown p on (same_told s z.shown) refl) (none_further s p z leaves on g.0 g.1)

-- what is ahead of leaves that go up shows none of them
none_behind : (s : Shown) (leaves : List ShownLeaf) → IsAheadOf s leaves → DoKeysGoUp leaves → list_any (λ y. same_told s y.shown) leaves ≡ false
none_behind s [] a g = refl
none_behind s (y ∷ leaves) (inl a) g =
    none_and (same_told s y.shown) (list_any (λ y. same_told s y.shown) leaves) (not_shown s y.shown a.0 a.1 (same_told s y.shown) refl) (none_further s a.0 y leaves a.1 g.0 g.1)
none_behind s (y ∷ leaves) (inr a) g = none_and (same_told s y.shown) (list_any (λ y. same_told s y.shown) leaves) a.1 (none_behind s leaves a.2 g.1)

pub nothing_twice : (leaves : List ShownLeaf) → DoKeysGoUp leaves → ShowNothingTwice leaves
nothing_twice [] g = tt
nothing_twice (x ∷ leaves) g = (none_behind x.shown leaves g.0 g.1, nothing_twice leaves g.1)

-- ---- from one leaf to the next
-- what is at a lesser place is ahead
pub is_ahead : (s : Shown) (next : ShownLeaf) (left rest : List ShownLeaf) (there : ℕ) → left ≡ next ∷ rest → 0 < shown_rank s → shown_rank s < there → there ≡ shown_rank next.shown → IsAheadOf s left
is_ahead s next left rest there e p l h =
    let P : List ShownLeaf → Type 0 = λ ls. IsAheadOf s ls in
    let on : shown_rank s < shown_rank next.shown = subst (λ (n : ℕ). shown_rank s < n) h l in
    subst P (sym e) (inl (p, on))

place_behind : (s : Shown) (next : ShownLeaf) (rest : List ShownLeaf) → 0 < shown_rank s → IsAheadOf s (next ∷ rest) → 0 < shown_rank next.shown
place_behind s next rest p (inl a) = let l = a.1 in omega (arith, p, l)
place_behind s next rest p (inr a) = subst (λ (n : ℕ). 0 < n) a.0 p

-- one of some leaves is ahead of those behind it, of which the first is the next
pub record IsFollowed (first : ShownLeaf) (behind : List ShownLeaf) (last : ShownLeaf) (left : List ShownLeaf) : Type 0 where
  pub on : DoKeysGoUp (last ∷ left) → DoKeysGoUp (first ∷ behind)
  pub place : 0 < shown_rank last.shown

pub followed_on : (first last next : ShownLeaf) (behind left rest : List ShownLeaf) → left ≡ next ∷ rest → IsAheadOf last.shown left → IsFollowed first behind last left → IsFollowed first behind next rest
followed_on first last next behind left rest e a h =
    let P : List ShownLeaf → Type 0 = λ ls. IsAheadOf last.shown ls in
    let Q : List ShownLeaf → Type 0 = λ ls. DoKeysGoUp ls in
    record { on = λ g. h.on (a, subst Q (sym e) g); place = place_behind last.shown next rest h.place (subst P e a) }

pub followed_all : (first last : ShownLeaf) (behind left : List ShownLeaf) → length left ≡ 0 → IsFollowed first behind last left → DoKeysGoUp (first ∷ behind)
followed_all first last behind [] e h = h.on (h.place, tt)
followed_all first last behind (x ∷ left) e h = absurd (omega (arith, e))

-- ---- what is wrong with them
-- none of these leaves is shown by some others
abbrev pub AreNew : List ShownLeaf → List ShownLeaf → Type 0
AreNew before [] = ⊤
AreNew before (x ∷ leaves) = (list_any (λ y. same_told y.shown x.shown) before ≡ false) × AreNew before leaves

any_more : (s : Shown) (before : List ShownLeaf) (x : ShownLeaf) → list_any (λ y. same_told y.shown s) before ≡ false → same_told x.shown s ≡ false
    → list_any (λ y. same_told y.shown s) (before ++ x ∷ []) ≡ false
any_more s [] x h e = none_and (same_told x.shown s) false e refl
any_more s (y ∷ before) x h e = by (same_told y.shown s) h (λ k. any_more s before x k e)
  where
    by : (b : Bool) → (b || list_any (λ y. same_told y.shown s) before) ≡ false
        → (list_any (λ y. same_told y.shown s) before ≡ false → list_any (λ y. same_told y.shown s) (before ++ x ∷ []) ≡ false) → (b || list_any (λ y. same_told y.shown s) (before ++ x ∷ [])) ≡ false
    by false h more = more h
    by true h more = absurd (no (sym h))

new_more : (before leaves : List ShownLeaf) (x : ShownLeaf) → AreNew before leaves → list_any (λ y. same_told x.shown y.shown) leaves ≡ false → AreNew (before ++ x ∷ []) leaves
new_more before [] x a h = tt
new_more before (z ∷ leaves) x a h = by (same_told x.shown z.shown) refl h (λ k. new_more before leaves x a.1 k)
  where
    by : (b : Bool) → same_told x.shown z.shown ≡ b → (b || list_any (λ y. same_told x.shown y.shown) leaves) ≡ false
        → (list_any (λ y. same_told x.shown y.shown) leaves ≡ false → AreNew (before ++ x ∷ []) leaves) → AreNew (before ++ x ∷ []) (z ∷ leaves)
    by false e h more = (any_more z.shown before x a.0 e, more h)
    by true e h more = absurd (no (sym h))

new_alone : (leaves : List ShownLeaf) → AreNew [] leaves
new_alone [] = tt
new_alone (x ∷ leaves) = (refl, new_alone leaves)

wrongs_new : (facts : Facts) (before leaves : List ShownLeaf) → AreNew before leaves → ShowNothingTwice leaves → wrongs_behind facts before leaves ≡ map (wrong_alone facts) leaves
wrongs_new facts before [] a h = refl
wrongs_new facts before (x ∷ leaves) a h =
    ap (λ (b : Bool). wrong_if (is_misplaced facts x.shown || b) x ∷ wrongs_behind facts (before ++ x ∷ []) leaves) a.0
    ∙ ap (λ (b : Bool). wrong_if b x ∷ wrongs_behind facts (before ++ x ∷ []) leaves) (sym (or_none (is_misplaced facts x.shown)))
    ∙ ap (λ (ws : List (Option WrongValue)). wrong_if (is_misplaced facts x.shown) x ∷ ws) (wrongs_new facts (before ++ x ∷ []) leaves (new_more before leaves x a.1 h.0) h.1)

-- each is wrong by itself alone
pub wrongs_alone : (facts : Facts) (leaves : List ShownLeaf) → ShowNothingTwice leaves → wrongs_behind facts [] leaves ≡ map (wrong_alone facts) leaves
wrongs_alone facts leaves h = wrongs_new facts [] leaves (new_alone leaves) h
