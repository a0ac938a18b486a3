-- Leaves whose keys go up, or that show other things, show nothing twice.
use Rattle.std.proofs.Common.{◌≡◌, length, ◌<◌, ◌++◌, ℕ, Bool, true, false, cond, List, [], ◌∷◌, refl, sym, ap, subst, ◌∙◌, ◌||◌, ◌==◌, arith, inl, inr}
use Rattle.std.specs.Prelude.{⊤}
use Rattle.std.specs.List.{list_any}
use Rattle.std.proofs.lemmas.Bool.{false≢true, and_parts, eqb-true}
use Rattle.ubifs_base.specs.R5.{r5_of}
use Rattle.ubifs_base.specs.declared.key.Key.TheVariants.{Ino, Block as BlockKey, Dent}
use Rattle.index_tree.specs.Order.{key_rank}
use Rattle.fs_model.specs.Path.{is_same_name}
use Rattle.journal_scan.specs.declared.node_content.NodeContent.{NodeContent}
use Rattle.journal_scan.specs.declared.node_content.NodeContent.TheVariants.{Inode, Block, Entry, Truncation, Unknown}
use Rattle.leaf_recovery.specs.declared.recovered_leaf.RecoveredLeaf.{RecoveredLeaf}
use Rattle.leaf_recovery.specs.Repeated.{IsFoundAhead, RepeatNothing, repeated_behind_told}
use Rattle.leaf_recovery.specs.Things.{rank_of_shown, shows_told}
use Rattle.leaf_recovery.proofs.Seeing.{text_is}

-- what two nodes show alike has one key
same_rank : (a b : NodeContent) → 0 < rank_of_shown a → shows_told a b ≡ true → rank_of_shown a ≡ rank_of_shown b
same_rank (Inode ino l) (Inode q m) h t = ap (λ (n : ℕ). key_rank (Ino n)) (sym (eqb-true q ino t))
same_rank (Inode ino l) (Block q m) h t = absurd (false≢true t)
same_rank (Inode ino l) (Entry q m k) h t = absurd (false≢true t)
same_rank (Inode ino l) (Truncation q m) h t = absurd (false≢true t)
same_rank (Inode ino l) (Unknown q m) h t = absurd (false≢true t)
same_rank (Block ino n) (Block q m) h t =
    let p = and_parts (q == ino) (m == n) t in
    ap (λ (z : ℕ). key_rank (BlockKey z n)) (sym (eqb-true q ino p.0)) ∙ ap (λ (z : ℕ). key_rank (BlockKey q z)) (sym (eqb-true m n p.1))
same_rank (Block ino n) (Inode q m) h t = absurd (false≢true t)
same_rank (Block ino n) (Entry q m k) h t = absurd (false≢true t)
same_rank (Block ino n) (Truncation q m) h t = absurd (false≢true t)
same_rank (Block ino n) (Unknown q m) h t = absurd (false≢true t)
same_rank (Entry dir name l) (Entry q m true) h t =
    let p = and_parts (q == dir) (is_same_name m name) t in
    ap (λ (z : ℕ). key_rank (Dent z (r5_of name))) (sym (eqb-true q dir p.0)) ∙ ap (λ (z : List ℕ). key_rank (Dent q (r5_of z))) (sym (text_is m name p.1))
same_rank (Entry dir name l) (Entry q m false) h t = absurd (false≢true t)
same_rank (Entry dir name l) (Inode q m) h t = absurd (false≢true t)
same_rank (Entry dir name l) (Block q m) h t = absurd (false≢true t)
same_rank (Entry dir name l) (Truncation q m) h t = absurd (false≢true t)
same_rank (Entry dir name l) (Unknown q m) h t = absurd (false≢true t)
same_rank (Truncation ino n) b h t = absurd (omega arith)
same_rank (Unknown key l) b h t = absurd (false≢true t)

-- each of these leaves is ahead of those behind it
abbrev pub DoKeysGoUp : List RecoveredLeaf → Type 0
DoKeysGoUp [] = ⊤
DoKeysGoUp (x ∷ leaves) = IsFoundAhead x.content leaves × DoKeysGoUp leaves

pub none_left : (leaves : List RecoveredLeaf) → length leaves ≡ 0 → DoKeysGoUp leaves
none_left [] h = tt
none_left (x ∷ leaves) h = absurd (omega (arith, h))

through : (a b c : ℕ) → a < b → b < c → a < c
through a b c h k = omega arith

apart : (m n : ℕ) → m ≡ n → m < n → ⊥
apart m n e h = omega arith

-- what stands further on isn't shown by what has a lesser key
not_shown : (s t : NodeContent) → 0 < rank_of_shown s → rank_of_shown s < rank_of_shown t → (b : Bool) → shows_told s t ≡ b → b ≡ false
not_shown s t p l false e = refl
not_shown s t p l true e = absurd (apart (rank_of_shown s) (rank_of_shown t) (same_rank s t p e) l)

none_and : (b c : Bool) → b ≡ false → c ≡ false → (b || c) ≡ false
none_and false c e h = h
none_and true c e h = absurd (false≢true (sym e))

-- where the first of some leaves stands further on, all do
none_further : (s : NodeContent) → 0 < rank_of_shown s → (y : RecoveredLeaf) (leaves : List RecoveredLeaf) → rank_of_shown s < rank_of_shown y.content → IsFoundAhead y.content leaves → DoKeysGoUp leaves
    → list_any (λ z. shows_told s z.content) leaves ≡ false
none_further s p y [] l a g = refl
none_further s p y (z ∷ leaves) l (inl a) g =
    let on = through (rank_of_shown s) (rank_of_shown y.content) (rank_of_shown z.content) l a.1 in
    none_and (shows_told s z.content) (list_any (λ z. shows_told s z.content) leaves) (not_shown s z.content p on (shows_told s z.content) refl) (none_further s p z leaves on g.0 g.1)
none_further s p y (z ∷ leaves) l (inr a) g =
    let on = subst (λ (n : ℕ). rank_of_shown s < n) a.0 l in
    none_and (shows_told s z.content) (list_any (λ z. shows_told s z.content) leaves) (not_shown s z.content p on (shows_told s z.content) refl) (none_further s p z leaves on g.0 g.1)

-- what is ahead of leaves that go up shows none of them
none_behind : (s : NodeContent) (leaves : List RecoveredLeaf) → IsFoundAhead s leaves → DoKeysGoUp leaves → list_any (λ y. shows_told s y.content) leaves ≡ false
none_behind s [] a g = refl
none_behind s (y ∷ leaves) (inl a) g =
    none_and (shows_told s y.content) (list_any (λ y. shows_told s y.content) leaves) (not_shown s y.content a.0 a.1 (shows_told s y.content) refl) (none_further s a.0 y leaves a.1 g.0 g.1)
none_behind s (y ∷ leaves) (inr a) g = none_and (shows_told s y.content) (list_any (λ y. shows_told s y.content) leaves) a.1 (none_behind s leaves a.2 g.1)

pub nothing_twice : (leaves : List RecoveredLeaf) → DoKeysGoUp leaves → RepeatNothing leaves
nothing_twice [] g = tt
nothing_twice (x ∷ leaves) g = (none_behind x.content leaves g.0 g.1, nothing_twice leaves g.1)

-- ---- so none is repeated
-- none of these leaves is shown by some others
abbrev pub AreNew : List RecoveredLeaf → List RecoveredLeaf → Type 0
AreNew before [] = ⊤
AreNew before (x ∷ leaves) = (list_any (λ y. shows_told y.content x.content) before ≡ false) × AreNew before leaves

new_more : (before leaves : List RecoveredLeaf) (x : RecoveredLeaf) → AreNew before leaves → list_any (λ y. shows_told x.content y.content) leaves ≡ false → AreNew (x ∷ before) leaves
new_more before [] x a h = tt
new_more before (z ∷ leaves) x a h = by (shows_told x.content z.content) refl h (λ k. new_more before leaves x a.1 k)
  where
    by : (b : Bool) → shows_told x.content z.content ≡ b → (b || list_any (λ y. shows_told x.content y.content) leaves) ≡ false
        → (list_any (λ y. shows_told x.content y.content) leaves ≡ false → AreNew (x ∷ before) leaves) → AreNew (x ∷ before) (z ∷ leaves)
    by false e h more = (none_and (shows_told x.content z.content) (list_any (λ y. shows_told y.content z.content) before) e a.0, more h)
    by true e h more = absurd (false≢true (sym h))

new_alone : (leaves : List RecoveredLeaf) → AreNew [] leaves
new_alone [] = tt
new_alone (x ∷ leaves) = (refl, new_alone leaves)

none_repeated : (before leaves : List RecoveredLeaf) → AreNew before leaves → RepeatNothing leaves → repeated_behind_told before leaves ≡ []
none_repeated before [] a h = refl
none_repeated before (x ∷ leaves) a h =
    ap (λ (b : Bool). cond b (x ∷ []) [] ++ repeated_behind_told (x ∷ before) leaves) a.0
    ∙ none_repeated (x ∷ before) leaves (new_more before leaves x a.1 h.0) h.1

pub nothing_repeated : (leaves : List RecoveredLeaf) → RepeatNothing leaves → repeated_behind_told [] leaves ≡ []
nothing_repeated leaves h = none_repeated [] leaves (new_alone leaves) h
