-- Groups that are put have the next numbers, so those of a head go on ascending and were given.
use Rattle.std.proofs.Common.{◌≡◌, ◌<◌, ◌≤◌, ◌+◌, ◌∙◌, ℕ, suc, Bool, true, List, [], ◌∷◌, ◌++◌, length, refl, sym, ap, arith, map}
use Rattle.std.specs.Prelude.{nat_le, nat_lt}
use Rattle.std.specs.Cmp.{ranks, nat_cmp_is}
use Rattle.std.specs.List.{list_all}
use Rattle.std.specs.Ordering.{nat_cmp, is_lt, MatchOrdering}
use Rattle.std.specs.declared.cmp.Ordering.{Ordering}
use Rattle.std.specs.declared.cmp.Ordering.TheVariants.{Less, Equal, Greater}
use Rattle.std.proofs.lemmas.Bool.{and_parts, false≢true}
use Rattle.fs_model.specs.declared.change.Change.{Change}
use Rattle.fs_model.specs.Journal.{AreNext, last_number}
use Rattle.fs_model.specs.Proper.{ascends}
use Rattle.fs_model.specs.Recovery.{Numbered}
use Rattle.leaf_map.specs.Kept.{Kept}
use Rattle.store_model.specs.Invariant.{are_given}
use Rattle.store_model.specs.Legal.{AreConsecutive}

-- every number passes a test that is weaker than one that every number passes
weaker : (test weak : ℕ → Bool) → ((n : ℕ) → test n ≡ true → weak n ≡ true) → (changes : Numbered) → list_all (λ c. test c.0) changes ≡ true → list_all (λ c. weak c.0) changes ≡ true
weaker test weak more [] h = refl
weaker test weak more (c ∷ changes) h =
    let p = and_parts (test c.0) (list_all (λ c. test c.0) changes) h in
    rw (more c.0 p.0) (weaker test weak more changes p.1)

less_is : (x y : ℕ) → is_lt (nat_cmp x y) ≡ true → x < y
less_is x y h = by (nat_cmp x y) (ranks x y) h
  where
    by : (o : Ordering) → MatchOrdering o (x < y) (x ≡ y) (y < x) → is_lt o ≡ true → x < y
    by Less r g = r
    by Equal r g = absurd (false≢true g)
    by Greater r g = absurd (false≢true g)

is_less : (x y : ℕ) → x < y → is_lt (nat_cmp x y) ≡ true
is_less x y h = ap is_lt (sym (nat_cmp_is x y Less h))

lt_of : (x y : ℕ) → x < y → nat_lt x y ≡ true
lt_of x y h = grind (arith)

lt_then : (a b : ℕ) → a < b → (n : ℕ) → nat_lt b n ≡ true → nat_lt a n ≡ true
lt_then a b h n g = grind (arith)

le_then : (a b : ℕ) → nat_le a b ≡ true → (n : ℕ) → nat_le n a ≡ true → nat_le n b ≡ true
le_then a b h n g = grind (arith)

le_self : (n : ℕ) → nat_le n n ≡ true
le_self n = grind (arith)

le_of_lt : (a b c : ℕ) → nat_lt a b ≡ true → nat_le b c ≡ true → nat_le a c ≡ true
le_of_lt a b c h g = grind (arith)

less_between : (a n b : ℕ) → nat_le a n ≡ true → nat_lt n b ≡ true → a < b
less_between a n b h g = grind (arith)

-- numbers that ascend are above the first
above_first : (c : ℕ × Change) (changes : Numbered) → ascends nat_cmp (map (λ c. c.0) (c ∷ changes)) ≡ true → list_all (λ d. nat_lt c.0 d.0) changes ≡ true
above_first c [] h = refl
above_first c (d ∷ changes) h =
    let p = and_parts (is_lt (nat_cmp c.0 d.0)) (ascends nat_cmp (map (λ c. c.0) (d ∷ changes))) h in
    let less = less_is c.0 d.0 p.0 in
    rw (lt_of c.0 d.0 less) (weaker (nat_lt d.0) (nat_lt c.0) (lt_then c.0 d.0 less) changes (above_first d changes p.1))

tail : (c : ℕ × Change) (changes : Numbered) → ascends nat_cmp (map (λ c. c.0) (c ∷ changes)) ≡ true → ascends nat_cmp (map (λ c. c.0) changes) ≡ true
tail c [] h = refl
tail c (d ∷ changes) h = (and_parts (is_lt (nat_cmp c.0 d.0)) (ascends nat_cmp (map (λ c. c.0) (d ∷ changes))) h).1

-- the last number is none below
pub no_less : (n : ℕ) (changes : Numbered) → AreNext n changes → nat_le n (last_number n changes) ≡ true
no_less n [] next = le_self n
no_less n (c ∷ changes) next =
    let p = and_parts (nat_lt n c.0) (list_all (λ d. nat_lt n d.0) changes) next.above in
    le_of_lt n c.0 (last_number c.0 changes) p.0 (no_less c.0 changes (record { ascending = tail c changes next.ascending; above = above_first c changes next.ascending }))

pub none_greater : (n : ℕ) (changes : Numbered) → AreNext n changes → list_all (λ c. nat_le c.0 (last_number n changes)) changes ≡ true
none_greater n [] next = refl
none_greater n (c ∷ changes) next =
    let rest : AreNext c.0 changes = record { ascending = tail c changes next.ascending; above = above_first c changes next.ascending } in
    rw (no_less c.0 changes rest) (none_greater c.0 changes rest)

joined : (n : ℕ) (old changes : Numbered) → ascends nat_cmp (map (λ c. c.0) old) ≡ true → list_all (λ c. nat_le c.0 n) old ≡ true → AreNext n changes → ascends nat_cmp (map (λ c. c.0) (old ++ changes)) ≡ true
joined n [] changes up below next = next.ascending
joined n (c ∷ []) [] up below next = refl
joined n (c ∷ []) (d ∷ changes) up below next =
    let p = and_parts (nat_lt n d.0) (list_all (λ d. nat_lt n d.0) changes) next.above in
    let q = and_parts (nat_le c.0 n) true below in
    rw (is_less c.0 d.0 (less_between c.0 n d.0 q.0 p.0)) next.ascending
joined n (c ∷ d ∷ old) changes up below next =
    let p = and_parts (is_lt (nat_cmp c.0 d.0)) (ascends nat_cmp (map (λ c. c.0) (d ∷ old))) up in
    let q = and_parts (nat_le c.0 n) (list_all (λ c. nat_le c.0 n) (d ∷ old)) below in
    rw p.0 (joined n (d ∷ old) changes p.1 q.1 next)

both_all : (test : ℕ → Bool) (old changes : Numbered) → list_all (λ c. test c.0) old ≡ true → list_all (λ c. test c.0) changes ≡ true → list_all (λ c. test c.0) (old ++ changes) ≡ true
both_all test [] changes h g = g
both_all test (c ∷ old) changes h g =
    let p = and_parts (test c.0) (list_all (λ c. test c.0) old) h in
    rw p.0 (both_all test old changes p.1 g)

-- numbers of which none is skipped are the next ones
all_above : (n k : ℕ) (changes : Numbered) → n ≤ k → AreConsecutive k changes → list_all (λ c. nat_lt n c.0) changes ≡ true
all_above n k [] low follow = refl
all_above n k (c ∷ changes) low follow = rw (lt_of n c.0 (let here = follow.0 in omega (arith, here, low))) (all_above n (k + 1) changes (omega (arith, low)) follow.1)

all_ascend : (k : ℕ) (changes : Numbered) → AreConsecutive k changes → ascends nat_cmp (map (λ c. c.0) changes) ≡ true
all_ascend k [] follow = refl
all_ascend k (c ∷ []) follow = refl
all_ascend k (c ∷ d ∷ changes) follow =
    rw (is_less c.0 d.0 (let here = follow.0 in let next = follow.1.0 in omega (arith, here, next))) (all_ascend (k + 1) (d ∷ changes) follow.1)

pub consecutive_next : (n : ℕ) (changes : Numbered) → AreConsecutive n changes → AreNext n changes
consecutive_next n changes follow = record { ascending = all_ascend n changes follow; above = all_above n n changes (omega arith) follow }

-- and the last of them is as many further as they are
pub last_consecutive : (n : ℕ) (changes : Numbered) → AreConsecutive n changes → last_number n changes ≡ n + length changes
last_consecutive n [] follow = omega arith
last_consecutive n (c ∷ changes) follow =
    let rest = last_consecutive (n + 1) changes follow.1 in
    ap (λ k. last_number k changes) follow.0 ∙ rest ∙ further
  where
    further : n + 1 + length changes ≡ n + suc (length changes)
    further = omega arith

-- numbers that were given, and a group's behind them
pub given_after : (n : ℕ) (old changes : Numbered) → are_given n old ≡ true → AreNext n changes → are_given (last_number n changes) (old ++ changes) ≡ true
given_after n old changes given next =
    let p = and_parts (ascends nat_cmp (map (λ c. c.0) old)) (list_all (λ c. nat_le c.0 n) old) given in
    rw (joined n old changes p.0 p.1 next)
    (both_all (λ k. nat_le k (last_number n changes)) old changes
    (weaker (λ k. nat_le k n) (λ k. nat_le k (last_number n changes)) (le_then n (last_number n changes) (no_less n changes next)) old p.1)
    (none_greater n changes next))

-- or none
pub given_still : (n : ℕ) (old changes : Numbered) → are_given n old ≡ true → AreNext n changes → are_given (last_number n changes) old ≡ true
given_still n old changes given next =
    let p = and_parts (ascends nat_cmp (map (λ c. c.0) old)) (list_all (λ c. nat_le c.0 n) old) given in
    rw p.0 (weaker (λ k. nat_le k n) (λ k. nat_le k (last_number n changes)) (le_then n (last_number n changes) (no_less n changes next)) old p.1)

-- numbers that were given, where more were
pub given_up : (n k : ℕ) → nat_le n k ≡ true → (old : Numbered) → are_given n old ≡ true → are_given k old ≡ true
given_up n k more old given =
    let p = and_parts (ascends nat_cmp (map (λ c. c.0) old)) (list_all (λ c. nat_le c.0 n) old) given in
    rw p.0 (weaker (λ j. nat_le j n) (λ j. nat_le j k) (le_then n k more) old p.1)

-- leaves whose numbers were given
pub kept_still : (n k : ℕ) → nat_le n k ≡ true → (kept : List Kept) → list_all (λ x. nat_le x.sqnum n) kept ≡ true → list_all (λ x. nat_le x.sqnum k) kept ≡ true
kept_still n k more [] h = refl
kept_still n k more (x ∷ kept) h =
    let p = and_parts (nat_le x.sqnum n) (list_all (λ x. nat_le x.sqnum n) kept) h in
    rw (le_then n k more x.sqnum p.0) (kept_still n k more kept p.1)
