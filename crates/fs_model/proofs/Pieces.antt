-- Pieces of blocks: what is read page by page is what is read byte by byte.
use Rattle.std.proofs.Common.{◌≡◌, ℕ, zero, suc, ◌+◌, ◌-◌, ◌/◌, ◌%◌, ◌<◌, ◌≤◌, List, [], ◌∷◌, ◌++◌, length, take, drop, get_or, map, refl, ap, sym, ◌∙◌, arith, length-append}
use Rattle.std.specs.Prelude.{replicate, Result, Ok, Err, OnOk, is_ok, cond}
use Rattle.std.specs.List.{range_with_len}
use Rattle.std.proofs.Common.{inl, inr, append_assoc, take_all}
use Rattle.std.proofs.lemmas.Bool.{cases_lt}
use Rattle.std.proofs.lemmas.List.{get_or_past, drop_all}
use Rattle.std.proofs.Math.Seq.{drop-cons, take-nil}
use Rattle.std.proofs.lemmas.List.FromFn.{length-map-range_with_len}
use Rattle.fs_model.specs.Files.{Blocks, block_at, byte_at, bytes_from, piece_of}

pub map_range-append : (f : ℕ → ℕ) (a n m : ℕ) → map f (range_with_len a (n + m)) ≡ map f (range_with_len a n) ++ map f (range_with_len (a + n) m)
map_range-append f a zero m = let e : zero + m ≡ m = omega arith in let d : a + zero ≡ a = omega arith in rw (e, d) refl
map_range-append f a (suc n) m =
    let e : suc n + m ≡ suc (n + m) = omega arith in
    let d : a + suc n ≡ a + 1 + n = omega arith in
    rw (e, d) (ap (λ xs. f a ∷ xs) (map_range-append f (a + 1) n m))

pub map_range-same : (f g : ℕ → ℕ) (a b n : ℕ) → ((k : ℕ) → k < n → f (a + k) ≡ g (b + k)) → map f (range_with_len a n) ≡ map g (range_with_len b n)
map_range-same f g a b zero h = refl
map_range-same f g a b (suc n) h =
    let ea : a + 0 ≡ a = omega arith in
    let eb : b + 0 ≡ b = omega arith in
    let first : f a ≡ g b = ap f (sym ea) ∙ h 0 (omega arith) ∙ ap g eb in
    let more : (k : ℕ) → k < n → f (a + 1 + k) ≡ g (b + 1 + k) = λ k below.
    let sa : a + 1 + k ≡ a + suc k = omega arith in let sb : b + 1 + k ≡ b + suc k = omega arith in ap f sa ∙ h (suc k) (omega arith) ∙ ap g (sym sb) in
    rw (first, map_range-same f g (a + 1) (b + 1) n more) refl

-- within one page
pub bytes_from-page : (blocks : Blocks) (ino place n : ℕ) → place % 4096 + n ≤ 4096 → bytes_from blocks ino place n ≡ piece_of (block_at blocks ino (place / 4096)) (place % 4096) n
bytes_from-page blocks ino place n h = map_range-same (byte_at blocks ino) (λ k. get_or (block_at blocks ino (place / 4096)) k 0) place (place % 4096) n
    (λ k below.
    let page : (place + k) / 4096 ≡ place / 4096 = omega arith in
    let at : (place + k) % 4096 ≡ place % 4096 + k = omega arith in
    rw (page, at) refl)

pub bytes_from-append : (blocks : Blocks) (ino place n m : ℕ) → bytes_from blocks ino place (n + m) ≡ bytes_from blocks ino place n ++ bytes_from blocks ino (place + n) m
bytes_from-append blocks ino place n m = map_range-append (byte_at blocks ino) place n m

piece_past : (xs : List ℕ) (from n : ℕ) → length xs ≤ from → piece_of xs from n ≡ replicate n 0
piece_past xs from zero h = refl
piece_past xs from (suc n) h =
    let first : get_or xs from 0 ≡ 0 = get_or_past xs from 0 h in
    rw (first, piece_past xs (from + 1) n (omega arith)) refl

piece_none : (xs : List ℕ) (from n : ℕ) → length xs ≤ from → piece_of xs from n ≡ take n (drop from xs) ++ replicate (n - length (take n (drop from xs))) 0
piece_none xs from n h =
    let none : take n (drop from xs) ≡ [] = rw (drop_all from xs h) (take-nil n) in
    let all : n - 0 ≡ n = omega arith in
    rw (none, all) (piece_past xs from n h)

piece_cons : (xs : List ℕ) (from n : ℕ) → from < length xs → piece_of xs (from + 1) n ≡ take n (drop (from + 1) xs) ++ replicate (n - length (take n (drop (from + 1) xs))) 0
    → piece_of xs from (suc n) ≡ take (suc n) (drop from xs) ++ replicate (suc n - length (take (suc n) (drop from xs))) 0
piece_cons xs from n h more =
    let e : suc from ≡ from + 1 = omega arith in
    let rest = drop-cons xs from 0 h in
    let less : suc n - suc (length (take n (drop (from + 1) xs))) ≡ n - length (take n (drop (from + 1) xs)) = omega arith in
    rw (rest, e, less, more) refl

-- the bytes that there are, and zeros
pub piece_of-parts : (xs : List ℕ) (from n : ℕ) → piece_of xs from n ≡ take n (drop from xs) ++ replicate (n - length (take n (drop from xs))) 0
piece_of-parts xs from zero = refl
piece_of-parts xs from (suc n) = elim (cases_lt from (length xs)) [ inl h ↦ piece_cons xs from n h (piece_of-parts xs (from + 1) n) | inr h ↦ piece_none xs from (suc n) h ]

-- a list that is filled up with zeros behind a part
pub filled_up : (out part new : List ℕ) (count : ℕ) → length part ≤ count → new ≡ take (length (out ++ part) + (count - length part)) (out ++ part) ++ replicate (length (out ++ part) + (count - length part) - length (out ++ part)) 0
    → new ≡ out ++ (part ++ replicate (count - length part) 0)
filled_up out part new count h e =
    let zeros : length (out ++ part) + (count - length part) - length (out ++ part) ≡ count - length part = omega arith in
    e ∙ rw (take_all (length (out ++ part) + (count - length part)) (out ++ part) (omega arith), zeros) (append_assoc out part (replicate (count - length part) 0))

-- the first bytes of what is read, and the place behind them
pub record ReadSoFar (blocks : Blocks) (ino offs n place : ℕ) (out : List ℕ) : Type 0 where
  pub read : out ≡ bytes_from blocks ino offs (length out)
  pub at : place ≡ offs + length out
  pub within : length out ≤ n

pub length-piece_of : (xs : List ℕ) (from n : ℕ) → length (piece_of xs from n) ≡ n
length-piece_of xs from n = length-map-range_with_len (λ k. get_or xs k 0) from n

-- one page more
pub read_more : (blocks : Blocks) (ino offs n place count : ℕ) (out new block : List ℕ) → block ≡ block_at blocks ino (place / 4096) → ReadSoFar blocks ino offs n place out → place % 4096 + count ≤ 4096 → length out + count ≤ n
    → new ≡ out ++ piece_of block (place % 4096) count → ReadSoFar blocks ino offs n (place + count) new
read_more blocks ino offs n place count out new block is so page fits told =
    let e : new ≡ out ++ piece_of (block_at blocks ino (place / 4096)) (place % 4096) count = told ∙ ap (λ b. out ++ piece_of b (place % 4096) count) is in
    let piece = piece_of (block_at blocks ino (place / 4096)) (place % 4096) count in
    let len : length new ≡ length out + count = ap length e ∙ length-append out piece ∙ ap (λ k. length out + k) (length-piece_of (block_at blocks ino (place / 4096)) (place % 4096) count) in
    record {
      read = e ∙ ap (λ xs. xs ++ piece) so.read ∙ ap (λ xs. bytes_from blocks ino offs (length out) ++ xs) (sym (bytes_from-page blocks ino place count page) ∙ ap (λ p. bytes_from blocks ino p count) so.at)
          ∙ sym (bytes_from-append blocks ino offs (length out) count) ∙ ap (bytes_from blocks ino offs) (sym len);
      at = let a = so.at in omega (arith, len, a);
      within = omega (arith, len, fits);
    }

-- what filling up a Vec leaves where it ends well
pub pushed : {T E : Type 0} (r : Result T E) (out part joined new block : List ℕ) (from count len : ℕ) → part ≡ take count (drop from block) → length part ≤ count → joined ≡ out ++ part → len ≡ length joined
    → new ≡ cond (is_ok r) (take (len + (count - length part)) joined ++ replicate (len + (count - length part) - len) 0) joined
    → OnOk r (new ≡ out ++ piece_of block from count)
pushed (Err t) out part joined new block from count len is few e l h = tt
pushed (Ok t) out part joined new block from count len is few e l h =
    let el : len ≡ length (out ++ part) = l ∙ ap length e in
    let h2 = rw (el, e) at h in
    filled_up out part new count few h2 ∙ ap (λ xs. out ++ xs) (rw is (sym (piece_of-parts block from count)))
