-- The last block of an inode is the greatest.
use Rattle.std.proofs.Common.{◌≡◌, ℕ, ◌≤◌, ◌<◌, ◌&&◌, Bool, true, false, cond, List, [], ◌∷◌, Option, Some, None, refl, sym, ap, ◌∙◌, arith, inl, inr, max}
use Rattle.std.specs.Prelude.{◌==◌, IfSome, is_some, unwrap_or}
use Rattle.std.specs.BTreeMap.{is_at}
use Rattle.std.specs.Map.{lookup}
use Rattle.std.proofs.lemmas.Bool.{false≢true, cases_lt}
use Rattle.std.proofs.lemmas.Bool.Decides.{eqb_tells, nat_tests}
use Rattle.fs_model.specs.Files.{Blocks, pair_cmp, last_block_of}
use Rattle.plain_backing.specs.TreeReads.{has_block, IsGreatestBlock}
use Rattle.plain_backing.proofs.Walk.{at_key}

-- whether a block is there, by the first entry
first_has : (e : (ℕ × ℕ) × List ℕ) (bs : Blocks) (ino block : ℕ) → has_block (e ∷ bs) ino block ≡ cond ((e.0.0 == ino) && (e.0.1 == block)) true (has_block bs ino block)
first_has e bs ino block = ap (λ b. is_some (cond b (Some e.1) (lookup (is_at (pair_cmp (ino, block))) bs))) (at_key ino block e.0) ∙ by ((e.0.0 == ino) && (e.0.1 == block))
  where
    by : (b : Bool) → is_some (cond b (Some e.1) (lookup (is_at (pair_cmp (ino, block))) bs)) ≡ cond b true (has_block bs ino block)
    by true = refl
    by false = refl

-- a block that is there has no number past the last
within_last : (bs : Blocks) (ino block : ℕ) → has_block bs ino block ≡ true → (is_some (last_block_of bs ino) ≡ true) × (block ≤ unwrap_or (last_block_of bs ino) 0)
within_last [] ino block h = absurd (false≢true h)
within_last (e ∷ bs) ino block h = elim (eqb_tells e.0.0 ino) [
  | inr other ↦ rw other.0 (within_last bs ino block (rw other.0 at (sym (first_has e bs ino block) ∙ h)))
  | inl same ↦ rw same.0 (refl, by (e.0.1 == block) refl (rw same.0 at (sym (first_has e bs ino block) ∙ h)) (within_last bs ino block))
]
  where
    by : (b : Bool) → (e.0.1 == block) ≡ b → cond b true (has_block bs ino block) ≡ true → (has_block bs ino block ≡ true → (is_some (last_block_of bs ino) ≡ true) × (block ≤ unwrap_or (last_block_of bs ino) 0)) → block ≤ max e.0.1 (unwrap_or (last_block_of bs ino) 0)
    by true t g more = let eq : e.0.1 ≡ block = grind (arith, nat_tests) in omega arith
    by false t g more = let le = (more g).1 in omega arith

some_zero : (o : Option ℕ) (n : ℕ) → n < unwrap_or o 0 → is_some o ≡ true
some_zero None n h = absurd (omega arith)
some_zero (Some x) n h = refl

has_more : (b : Bool) (x : Bool) → x ≡ true → cond b true x ≡ true
has_more true x h = refl
has_more false x h = h

-- and the last is there
last_there : (bs : Blocks) (ino : ℕ) → is_some (last_block_of bs ino) ≡ true → has_block bs ino (unwrap_or (last_block_of bs ino) 0) ≡ true
last_there [] ino h = absurd (false≢true h)
last_there (e ∷ bs) ino h = elim (eqb_tells e.0.0 ino) [
  | inr other ↦ first_has e bs ino (unwrap_or (last_block_of (e ∷ bs) ino) 0) ∙ rw other.0 (last_there bs ino (rw other.0 at h))
  | inl same ↦ first_has e bs ino (unwrap_or (last_block_of (e ∷ bs) ino) 0) ∙ rw same.0 (elim (cases_lt e.0.1 (unwrap_or (last_block_of bs ino) 0)) [
    | inl l ↦
        let m : max e.0.1 (unwrap_or (last_block_of bs ino) 0) ≡ unwrap_or (last_block_of bs ino) 0 = omega arith in
        rw m (has_more (e.0.1 == unwrap_or (last_block_of bs ino) 0) (has_block bs ino (unwrap_or (last_block_of bs ino) 0)) (last_there bs ino (some_zero (last_block_of bs ino) e.0.1 l)))
    | inr g ↦
        let m : max e.0.1 (unwrap_or (last_block_of bs ino) 0) ≡ e.0.1 = omega arith in
        let t : (e.0.1 == e.0.1) ≡ true = grind (arith, nat_tests) in
        rw (m, t) refl
  ])
]

pub last_is_greatest : (bs : Blocks) (ino : ℕ) → IfSome (last_block_of bs ino) (IsGreatestBlock bs ino)
last_is_greatest bs ino = by (last_block_of bs ino) refl
  where
    by : (o : Option ℕ) → last_block_of bs ino ≡ o → IfSome o (IsGreatestBlock bs ino)
    by None e = tt
    by (Some n) e = record {
      there = ap (λ o. has_block bs ino (unwrap_or o 0)) (sym e) ∙ last_there bs ino (ap is_some e);
      greatest = λ block h. let le = (within_last bs ino block h).1 in let at : unwrap_or (last_block_of bs ino) 0 ≡ n = ap (λ o. unwrap_or o 0) e in omega (arith, le, at);
    }

pub none_is_last : (bs : Blocks) (ino block : ℕ) → last_block_of bs ino ≡ None → has_block bs ino block ≡ false
none_is_last bs ino block e = by (has_block bs ino block) refl
  where
    by : (b : Bool) → has_block bs ino block ≡ b → b ≡ false
    by false h = refl
    by true h = absurd (false≢true (sym (ap is_some e) ∙ (within_last bs ino block h).0))
