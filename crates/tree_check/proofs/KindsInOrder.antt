-- The kinds of inodes in order of number.
use Rattle.std.proofs.Common.{◌≡◌, ◌<◌, ◌==◌, ◌++◌, ℕ, zero, suc, Bool, true, false, cond, not, List, [], ◌∷◌, length, drop, filter, Option, Some, None, refl, sym, ap, subst, ◌∙◌, ltb, ltb-false, ltb-true, eq-eqb, eqb-true, arith, zero-le, suc-le-suc}
use Rattle.std.specs.Prelude.{◌&&◌, if◌then◌else◌, slice_index_or}
use Rattle.std.specs.BTreeMap.{is_at}
use Rattle.std.specs.List.{AllWithin}
use Rattle.std.specs.List.Sorted.{IsNonDecreasingBy, IsPartitionPoint, ties}
use Rattle.std.specs.Ordering.{is_lt, nat_cmp}
use Rattle.std.proofs.lemmas.List.Sorted.{IsNonDecreasingBy-drop}
use Rattle.fs_laws.specs.Orders.{numbers}
use Rattle.fs_model.specs.declared.inode.Kind.{Kind}
use Rattle.fs_model.specs.declared.inode.Kind.TheVariants.{Dir}
use Rattle.tree_check.specs.Kinds.{first_kind, inode_kind, inode_kinds, kind_at, kind_shown, with_kind}
use Rattle.tree_check.specs.declared.inode_kind.InodeKind.{InodeKind}
use Rattle.tree_check.specs.declared.shown_leaf.Shown.{Shown}
use Rattle.tree_check.specs.declared.shown_leaf.Shown.TheVariants.{Inode, Entry, Deletion, Block, Truncation, Nothing}
use Rattle.tree_check.specs.declared.shown_leaf.ShownLeaf.{ShownLeaf}
use Rattle.tree_check.proofs.InOrder.{dropped_within}
use Rattle.tree_check.proofs.TestLaws.{at_here, at_same, same_tests}

abbrev number : InodeKind → ℕ
number inode = inode.ino

at_number : (a b : ℕ) → is_at (nat_cmp a) b ≡ (a == b)
at_number a b = same_tests (is_at (nat_cmp a) b) (a == b) (λ h. eq-eqb a b (at_same nat_cmp numbers a b h)) (λ h. at_here nat_cmp numbers a b (eqb-true a b h))

-- an inode of another number
apart : (a b : ℕ) → (a ≡ b → ⊥) → (t : Bool) → (a == b) ≡ t → t ≡ false
apart a b h false e = refl
apart a b h true e = absurd (h (eqb-true a b e))

passed : (inode : InodeKind) (inodes : List InodeKind) (q : ℕ) → (inode.ino ≡ q → ⊥) → kind_at inodes q ≡ kind_at (inode ∷ inodes) q
passed inode inodes q h = ap (λ (t : Bool). cond t (Some inode.kind) (kind_at inodes q)) (sym (at_number inode.ino q ∙ apart inode.ino q h (inode.ino == q) refl))

found : (inode : InodeKind) (inodes : List InodeKind) (q : ℕ) → inode.ino ≡ q → Some inode.kind ≡ kind_at (inode ∷ inodes) q
found inode inodes q h = ap (λ (t : Bool). cond t (Some inode.kind) (kind_at inodes q)) (sym (at_number inode.ino q ∙ eq-eqb inode.ino q h))

-- ---- by bisection
left_out : (q : ℕ) (xs : List InodeKind) (i : ℕ) → AllWithin (λ y. ltb (number y) q ≡ true) xs 0 i → kind_at (drop i xs) q ≡ kind_at xs q
left_out q xs zero h = refl
left_out q [] (suc i) h = refl
left_out q (x ∷ xs) (suc i) h =
    left_out q xs i (λ k d l u. h (suc k) d zero-le (suc-le-suc u))
    ∙ passed x xs q (λ e. let l = ltb-true x.ino q (h 0 x zero-le (suc-le-suc zero-le)) in absurd (omega (arith, l, e)))

none_above : (q : ℕ) (xs : List InodeKind) → ((k : ℕ) (d : InodeKind) → k < length xs → q < number (slice_index_or xs k d)) → None ≡ kind_at xs q
none_above q [] h = refl
none_above q (x ∷ xs) h = none_above q xs (λ k d u. h (suc k) d (suc-le-suc u)) ∙ passed x xs q (λ e. let l = h 0 x (suc-le-suc zero-le) in absurd (omega (arith, l, e)))

first_is : (q : ℕ) (xs : List InodeKind) → IsNonDecreasingBy number xs → AllWithin (λ y. ltb (number y) q ≡ false) xs 0 (length xs) → first_kind xs q ≡ kind_at xs q
first_is q [] o h = refl
first_is q (x ∷ xs) o h = by (x.ino == q) refl
  where
    by : (b : Bool) → (x.ino == q) ≡ b → (if b then Some x.kind else None) ≡ kind_at (x ∷ xs) q
    by true e = found x xs q (eqb-true x.ino q e)
    by false e =
        let l = ltb-false x.ino q (h 0 x zero-le (suc-le-suc zero-le)) in
        let other : x.ino ≡ q → ⊥ = λ s. (let t : true ≡ false = sym (eq-eqb x.ino q s) ∙ e in absurd cc) in
        let more : q < x.ino = omega (arith, l, other) in
        none_above q xs (λ k d u. let r = o 0 (suc k) d zero-le (suc-le-suc u) in omega (arith, more, r)) ∙ passed x xs q other

pub kind_found : (q : ℕ) (xs ys : List InodeKind) (i : ℕ) → ys ≡ drop i xs → IsNonDecreasingBy number xs → IsPartitionPoint (λ y. ltb (number y) q ≡ true) (λ y. ltb (number y) q ≡ false) xs i → first_kind ys q ≡ kind_at xs q
kind_found q xs ys i e o p =
    ap (λ (zs : List InodeKind). first_kind zs q) e
    ∙ first_is q (drop i xs) (IsNonDecreasingBy-drop number i xs o) (dropped_within number q (λ y. ltb (number y) q ≡ false) xs i p.1)
    ∙ left_out q xs i p.0

-- ---- in another order
-- neither of two inodes has a lesser number
abbrev ties_at : InodeKind → InodeKind → Bool
ties_at x y = ties (λ a b. is_lt (nat_cmp (number a) (number b))) x y

same_ties : (x y : InodeKind) → y.ino ≡ x.ino → ties_at x y ≡ true
same_ties x y e =
    let P : ℕ → Type 0 = λ z. (not (is_lt (nat_cmp x.ino z)) && not (is_lt (nat_cmp z x.ino))) ≡ true in
    subst P (sym e) (ap (λ o. not (is_lt o) && not (is_lt o)) (numbers.same x.ino))

kept : (x : InodeKind) (ys : List InodeKind) → kind_at (filter (ties_at x) ys) x.ino ≡ kind_at ys x.ino
kept x [] = refl
kept x (y ∷ ys) = by (ties_at x y) refl (kept x ys)
  where
    by : (b : Bool) → ties_at x y ≡ b → kind_at (filter (ties_at x) ys) x.ino ≡ kind_at ys x.ino → kind_at (cond b (y ∷ filter (ties_at x) ys) (filter (ties_at x) ys)) x.ino ≡ kind_at (y ∷ ys) x.ino
    by true e more = ap (λ (o : Option Kind). cond (is_at (nat_cmp y.ino) x.ino) (Some y.kind) o) more
    by false e more = more ∙ passed y ys x.ino (λ s. (let t : true ≡ false = sym (same_ties x y s) ∙ e in absurd cc))

pub same_kinds : (xs ys : List InodeKind) → ((x : InodeKind) → filter (ties_at x) ys ≡ filter (ties_at x) xs) → (q : ℕ) → kind_at ys q ≡ kind_at xs q
same_kinds xs ys h q =
    let x : InodeKind = record { ino = q; kind = Dir } in
    sym (kept x ys) ∙ ap (λ (zs : List InodeKind). kind_at zs q) (h x) ∙ kept x xs

-- ---- of leaves
pub kinds_are_shown : (leaves : List ShownLeaf) (q : ℕ) → kind_at (inode_kinds leaves) q ≡ kind_shown leaves q
kinds_are_shown [] q = refl
kinds_are_shown (x ∷ leaves) q = by x.shown (kinds_are_shown leaves q)
  where
    by : (s : Shown) → kind_at (inode_kinds leaves) q ≡ kind_shown leaves q → kind_at (inode_kind s ++ inode_kinds leaves) q ≡ with_kind s q (kind_shown leaves q)
    by (Inode ino kind links) more = ap (λ (o : Option Kind). cond (is_at (nat_cmp ino) q) (Some kind) o) more
    by (Entry dir name ino kind) more = more
    by (Deletion dir name) more = more
    by (Block ino block) more = more
    by (Truncation ino size) more = more
    by Nothing more = more
