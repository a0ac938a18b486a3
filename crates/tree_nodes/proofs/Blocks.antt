-- The blocks of a tree's inodes, inode by inode, are the blocks whose inode is there.
use Rattle.std.proofs.Common.{◌≡◌, ◌++◌, ◌<◌, ◌≤◌, ℕ, Bool, true, false, cond, List, [], ◌∷◌, refl, sym, ap, subst, ◌∙◌, arith, inl, inr, Some, None}
use Rattle.std.specs.Prelude.{◌==◌, filter, is_some}
use Rattle.std.specs.BTreeMap.{is_at}
use Rattle.std.specs.List.{AllByRecursion, list_all}
use Rattle.std.specs.Map.{keys_of, lookup}
use Rattle.std.specs.Ordering.{is_eq, is_lt, nat_cmp}
use Rattle.std.specs.declared.cmp.Ordering.{Ordering}
use Rattle.std.specs.declared.cmp.Ordering.TheVariants.{Less, Equal, Greater}
use Rattle.std.proofs.lemmas.Bool.{false≢true, and_parts, cases_lt}
use Rattle.std.proofs.lemmas.Bool.Decides.{eqb_tells, nat_tests}
use Rattle.fs_model.specs.declared.inode.Inode.{Inode}
use Rattle.fs_model.specs.Files.{Blocks, Inodes, Tree, pair_cmp}
use Rattle.fs_model.specs.Proper.{IsProper, ascends}
use Rattle.fs_laws.specs.Maps.{apart, below_rest, missing_before, missing_first, tail_ascends}
use Rattle.fs_laws.specs.Orders.{numbers, pairs}
use Rattle.tree_nodes.specs.Stored.{is_owned}
use Rattle.tree_nodes.proofs.Before.{pair_less}
use Rattle.tree_nodes.proofs.Shown.{blocks_by}

-- the blocks of the inodes that pass
abbrev those : (ℕ → Bool) → Blocks → Blocks
those test bs = filter (λ b. test b.0.0) bs

other_number : (a b : ℕ) → b < a → (a == b) ≡ false
other_number a b l = grind (arith, nat_tests)

-- whether these pass, or this one does
abbrev with_one : ℕ → (ℕ → Bool) → ℕ → Bool
with_one n test q = cond (q == n) true (test q)

all_past : (n : ℕ) (test : ℕ → Bool) (bs : Blocks) → AllByRecursion (λ (b : (ℕ × ℕ) × List ℕ). n < b.0.0) bs → (those (λ q. q == n) bs ≡ []) × (those (with_one n test) bs ≡ those test bs)
all_past n test [] h = (refl, refl)
all_past n test (b ∷ bs) h =
    let more = all_past n test bs h.1 in
    let miss = other_number b.0.0 n h.0 in
    (rw miss more.0, rw miss (ap (λ z. cond (test b.0.0) (b ∷ z) z) more.1))

behind : (n : ℕ) (b : (ℕ × ℕ) × List ℕ) (bs : Blocks) → n < b.0.0 → list_all (λ f. is_lt (pair_cmp b.0 f.0)) bs ≡ true → AllByRecursion (λ (f : (ℕ × ℕ) × List ℕ). n < f.0.0) bs
behind n b [] l h = tt
behind n b (f ∷ bs) l h =
    let parts = and_parts (is_lt (pair_cmp b.0 f.0)) (list_all (λ f. is_lt (pair_cmp b.0 f.0)) bs) h in
    let first : n < f.0.0 = elim (pair_less nat_cmp b.0 f.0 parts.0) [
      | inl less ↦ omega (arith, l, less)
      | inr same ↦ let s = same.0 in omega (arith, l, s)
    ] in
    (first, behind n b bs l parts.1)

-- sorted blocks of one inode, and behind them those of later ones
parted : (n : ℕ) (test : ℕ → Bool) → ((q : ℕ) → q ≤ n → test q ≡ false) → (bs : Blocks) → ascends pair_cmp (keys_of bs) ≡ true → those (with_one n test) bs ≡ those (λ q. q == n) bs ++ those test bs
parted n test none [] h = refl
parted n test none (b ∷ bs) h = elim (cases_lt n b.0.0) [
  | inl past ↦
      let all = all_past n test (b ∷ bs) (past, behind n b bs past (below_rest pair_cmp pairs bs b h)) in
      all.1 ∙ ap (λ z. z ++ those test (b ∷ bs)) (sym all.0)
  | inr upto ↦
      by (parted n test none bs (tail_ascends pair_cmp bs b h)) (b.0.0 == n) (none b.0.0 upto)
]
  where
    by : those (with_one n test) bs ≡ those (λ q. q == n) bs ++ those test bs → (t : Bool) → test b.0.0 ≡ false
        → cond (cond t true (test b.0.0)) (b ∷ those (with_one n test) bs) (those (with_one n test) bs) ≡ cond t (b ∷ those (λ q. q == n) bs) (those (λ q. q == n) bs) ++ cond (test b.0.0) (b ∷ those test bs) (those test bs)
    by more true miss = rw miss (ap (λ z. b ∷ z) more)
    by more false miss = rw miss more

-- whether an inode is among these
abbrev is_in : Inodes → ℕ → Bool
is_in inodes q = is_some (lookup (is_at (nat_cmp q)) inodes)

lt_is : (o : Ordering) → is_lt o ≡ true → o ≡ Less
lt_is Less h = refl
lt_is Equal h = absurd (false≢true h)
lt_is Greater h = absurd (false≢true h)

less_cmp : (a b : ℕ) → a < b → is_lt (nat_cmp a b) ≡ true
less_cmp a b l = grind (arith, nat_tests)

differ : (a b : ℕ) → a < b → a ≡ b → ⊥
differ a b l e = omega (arith, l, e)

-- no inode stands behind the first that has its number or a lower one
before_rest : (e : ℕ × Inode) (inodes : Inodes) → ascends nat_cmp (keys_of (e ∷ inodes)) ≡ true → (q : ℕ) → q ≤ e.0 → is_in inodes q ≡ false
before_rest e inodes h q l = elim (cases_lt q e.0) [
  | inl less ↦
      let none = missing_before nat_cmp numbers inodes e q h (lt_is (nat_cmp q e.0) (less_cmp q e.0 less)) in
      let rest : lookup (is_at (nat_cmp q)) inodes ≡ None = rw (apart nat_cmp numbers q e.0 (differ q e.0 less)) at none in
      ap is_some rest
  | inr past ↦
      let same : e.0 ≡ q = omega (arith, l, past) in
      ap is_some (subst (λ n. lookup (is_at (nat_cmp n)) inodes ≡ None) same (missing_first nat_cmp numbers inodes e h))
]

in_first : (e : ℕ × Inode) (inodes : Inodes) (q : ℕ) → with_one e.0 (is_in inodes) q ≡ is_in (e ∷ inodes) q
in_first e inodes q = elim (eqb_tells q e.0) [
  | inl same ↦
      let at : is_at (nat_cmp q) e.0 ≡ true = subst (λ n. is_at (nat_cmp n) e.0 ≡ true) (sym same.1) (ap is_eq (numbers.same e.0)) in
      ap (λ b. cond b true (is_in inodes q)) same.0 ∙ sym (ap (λ b. is_some (cond b (Some e.1) (lookup (is_at (nat_cmp q)) inodes))) at)
  | inr other ↦ ap (λ b. cond b true (is_in inodes q)) other.0 ∙ sym (ap (λ b. is_some (cond b (Some e.1) (lookup (is_at (nat_cmp q)) inodes))) (apart nat_cmp numbers q e.0 other.1))
]

those_same : (p q : ℕ → Bool) → ((n : ℕ) → p n ≡ q n) → (bs : Blocks) → those p bs ≡ those q bs
those_same p q h [] = refl
those_same p q h (b ∷ bs) = ap (λ (t : Bool). cond t (b ∷ those p bs) (those p bs)) (h b.0.0) ∙ ap (λ z. cond (q b.0.0) (b ∷ z) z) (those_same p q h bs)

those_none : (bs : Blocks) → those (λ q. false) bs ≡ []
those_none [] = refl
those_none (b ∷ bs) = those_none bs

by_inode : (tree : Tree) → ascends pair_cmp (keys_of tree.blocks) ≡ true → (inodes : Inodes) → ascends nat_cmp (keys_of inodes) ≡ true → blocks_by tree inodes ≡ those (is_in inodes) tree.blocks
by_inode tree up [] h = sym (those_none tree.blocks)
by_inode tree up (e ∷ inodes) h =
    ap (λ z. those (λ q. q == e.0) tree.blocks ++ z) (by_inode tree up inodes (tail_ascends nat_cmp inodes e h))
    ∙ sym (parted e.0 (is_in inodes) (before_rest e inodes h) tree.blocks up)
    ∙ those_same (with_one e.0 (is_in inodes)) (is_in (e ∷ inodes)) (in_first e inodes) tree.blocks

-- the blocks that have nodes are those whose inode is there
pub blocks_owned : (tree : Tree) → IsProper tree → blocks_by tree tree.inodes ≡ filter (is_owned tree) tree.blocks
blocks_owned tree p = by_inode tree p.blocks_ascend tree.inodes p.inodes_ascend
