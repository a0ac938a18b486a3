-- How nodes are read.
use Rattle.std.specs.Prelude.{◌≡◌, ℕ, zero, suc, ◌+◌, ◌*◌, ◌/◌, ◌%◌, ◌^◌, ◌<◌, ◌≤◌, ◌==◌, ◌||◌, not, nat_lt, Bool, true, false, cond, List, [], ◌∷◌, ◌++◌, length, take, drop, slice_index, get_or, Ok, Err}
use Rattle.std.proofs.Common.{refl, ap, sym, ◌∙◌, arith, subst, length-drop, drop-drop, take-append-drop, take_all, drop-cons, length-take, get_or-drop}
use Rattle.std.proofs.Math.Nat.{div-div-eq-div-mul, pow-suc, mul_comm}
use Rattle.std.proofs.lemmas.Bool.{ltb-false, le-ltb, eqb-true, eq-eqb, not-false}
use Rattle.ubifs_base.specs.declared.header.FrameFault.TheVariants.{Short, Magic, Len, Crc}
use Rattle.byteorder.specs.Endian.{little_bytes, little_number}
use Rattle.byteorder.specs.Numbers.{little_from-cons, little_from-lt, little_from-append, little_number-reads_back}
use Rattle.std.proofs.lemmas.List.{drop-append-le}
use Rattle.std.specs.Int.{byte_at, bytes_low_first}
use Rattle.ubifs_base.specs.Crc.{crc32_of}
use Rattle.ubifs_base.specs.CrcLaws.{crc32_of-lt}
use Rattle.ubifs_base.specs.Frame.{unframed, HasHead}
use Rattle.ubifs_base.specs.Node.{covered, node_bytes, IsNode}
use Rattle.ubifs_base.specs.declared.header.Head.{Head}
use Rattle.ubifs_base.specs.declared.header.TheConstants.{MAGIC}

-- each item is a byte
abbrev pub IsBytes : List ℕ → Type 0
IsBytes bytes = (i : ℕ) → get_or bytes i 0 < 256

byte_at-above : (i b y : ℕ) → b < 256 → byte_at (suc i) (b + 256 * y) ≡ byte_at i y
byte_at-above zero b y h = let e : (b + 256 * y) / 256 ≡ y = omega arith in ap (λ x. x % 256) e
byte_at-above (suc i) b y h =
    let e : (b + 256 * y) / 256 ≡ y = omega arith in
    let p : 256 ^ suc (suc i) ≡ 256 * 256 ^ suc i = pow-suc 256 (suc i) ∙ mul_comm (256 ^ suc i) 256 in
    rw (p, ← div-div-eq-div-mul (b + 256 * y) 256 (256 ^ suc i), e) refl

bytes_low_first-above : (n i b y : ℕ) → b < 256 → bytes_low_first (suc i) n (b + 256 * y) ≡ bytes_low_first i n y
bytes_low_first-above zero i b y h = refl
bytes_low_first-above (suc n) i b y h = rw (byte_at-above i b y h, bytes_low_first-above n (suc i) b y h) refl

-- the bytes of the number that the first n bytes spell are those bytes
pub little_bytes-number : (n : ℕ) (xs : List ℕ) → n ≤ length xs → IsBytes xs → little_bytes n (little_number n xs) ≡ take n xs
little_bytes-number zero xs long fits = refl
little_bytes-number (suc n) [] long fits = absurd (omega arith)
little_bytes-number (suc n) (x ∷ xs) long fits =
    let h : x < 256 = fits 0 in
    let first : (x + 256 * little_number n xs) % 256 ≡ x = omega arith in
    rw (little_from-cons 0 n x xs, first, bytes_low_first-above n 0 x (little_number n xs) h, little_bytes-number n xs (omega arith) (λ i. fits (suc i))) refl

chain_ok : {X Y : Type 0} (a b c d : Bool) (e1 e2 e3 e4 : Y) (x y : X) → cond a (Err e1) (cond b (Err e2) (cond c (Err e3) (cond d (Err e4) (Ok x)))) ≡ Ok y
    → (a ≡ false) × (b ≡ false) × (c ≡ false) × (d ≡ false) × (x ≡ y)
chain_ok true b c d e1 e2 e3 e4 x y h = absurd cc
chain_ok false true c d e1 e2 e3 e4 x y h = absurd cc
chain_ok false false true d e1 e2 e3 e4 x y h = absurd cc
chain_ok false false false true e1 e2 e3 e4 x y h = absurd cc
chain_ok false false false false e1 e2 e3 e4 x y h = (refl, refl, refl, refl, cc)

pub or_false : (a b : Bool) → (a || b) ≡ false → (a ≡ false) × (b ≡ false)
or_false true b h = absurd cc
or_false false b h = (refl, h)

pub unframed-ok : (bytes : List ℕ) (head : Head) → unframed bytes ≡ Ok head → HasHead bytes head
unfolding unframed
unframed-ok bytes head h =
    let magic = little_number 4 bytes in
    let found = little_number 4 (drop 4 bytes) in
    let len = little_number 4 (drop 16 bytes) in
    let wanted = crc32_of (drop 8 (take len bytes)) in
    let read : Head = record { sqnum = little_number 8 (drop 8 bytes); len = len; kind = slice_index bytes 20; group = slice_index bytes 21 } in
    let parts = chain_ok (nat_lt (length bytes) 24) (not (magic == MAGIC)) (nat_lt len 24 || nat_lt (length bytes) len) (not (found == wanted))
    (Short (length bytes)) (Magic magic) (Len len) (Crc wanted found) read head h in
    let both = or_false (nat_lt len 24) (nat_lt (length bytes) len) parts.2 in
    let same : read ≡ head = parts.4 in
    let P : Head → Type 0 = λ r. HasHead bytes r in
    subst P same (record {
      long = ltb-false (length bytes) 24 parts.0;
      magic = eqb-true magic MAGIC (not-false (magic == MAGIC) parts.1);
      low = ltb-false len 24 both.0;
      high = ltb-false (length bytes) len both.1;
      crc = eqb-true found wanted (not-false (found == wanted) parts.3);
      sqnum = refl;
      len = refl;
      kind = refl;
      group = refl;
    })

pub unframed-has_head : (bytes : List ℕ) (head : Head) → HasHead bytes head → unframed bytes ≡ Ok head
unfolding unframed
unframed-has_head bytes head h =
    let l : little_number 4 (drop 16 bytes) ≡ head.len = sym h.len in
    let t1 : nat_lt (length bytes) 24 ≡ false = le-ltb (length bytes) 24 h.long in
    let t2 : (little_number 4 bytes == MAGIC) ≡ true = eq-eqb (little_number 4 bytes) MAGIC h.magic in
    let t3 : nat_lt head.len 24 ≡ false = le-ltb head.len 24 h.low in
    let t4 : nat_lt (length bytes) head.len ≡ false = le-ltb (length bytes) head.len h.high in
    let t5 : (little_number 4 (drop 4 bytes) == crc32_of (drop 8 (take head.len bytes))) ≡ true = eq-eqb (little_number 4 (drop 4 bytes)) (crc32_of (drop 8 (take head.len bytes))) h.crc in
    rw (t1, t2, l, t3, t4, t5, ← h.sqnum, ← h.kind, ← h.group) refl

two_of : (xs : List ℕ) → length xs ≡ 2 → (a : ℕ) × (b : ℕ) × (xs ≡ a ∷ b ∷ [])
two_of [] h = absurd (omega arith)
two_of (a ∷ []) h = absurd (omega arith)
two_of (a ∷ b ∷ []) h = (a, b, refl)
two_of (a ∷ b ∷ c ∷ xs) h = absurd (omega arith)

has_head_at : (body : List ℕ) (sqnum kind group a b : ℕ) → sqnum < 2 ^ 64 → 24 + length body < 2 ^ 32 → IsBytes (node_bytes sqnum kind group (a ∷ b ∷ []) body)
    → let bytes = node_bytes sqnum kind group (a ∷ b ∷ []) body in
    HasHead bytes (record { sqnum = sqnum; len = length bytes; kind = kind; group = group }) × (drop 24 bytes ≡ body)
unfolding node_bytes
has_head_at body sqnum kind group a b sq top fits =
    let bytes = node_bytes sqnum kind group (a ∷ b ∷ []) body in
    let long : length bytes ≡ 24 + length body = omega arith in
    let crc = crc32_of (covered (24 + length body) sqnum kind group (a ∷ b ∷ []) body) in (
      record {
        long = omega (arith, long);
        magic = refl;
        low = omega (arith, long);
        high = omega arith;
        crc = little_number-reads_back 4 crc (drop 8 bytes) (crc32_of-lt (drop 8 bytes) (λ i. fits (suc (suc (suc (suc (suc (suc (suc (suc i)))))))))) ∙ ap (λ b. crc32_of (drop 8 b)) (sym (take_all (length bytes) bytes (omega arith)));
        sqnum = sym (little_number-reads_back 8 sqnum (drop 16 bytes) sq);
        len = long ∙ sym (little_number-reads_back 4 (24 + length body) (drop 20 bytes) top);
        kind = refl;
        group = refl;
      },
      refl,
    )

-- a node's header is read
pub has_head : (bytes body : List ℕ) (sqnum kind group : ℕ) → IsBytes bytes → IsNode bytes sqnum kind group body
    → HasHead bytes (record { sqnum = sqnum; len = length bytes; kind = kind; group = group }) × (drop 24 bytes ≡ body)
has_head bytes body sqnum kind group fits h =
    let pad = two_of h.padding h.two in
    let e : bytes ≡ node_bytes sqnum kind group (pad.0 ∷ pad.1 ∷ []) body = h.spelled ∙ ap (λ p. node_bytes sqnum kind group p body) pad.2 in
    let P : List ℕ → Type 0 = λ b. HasHead b (record { sqnum = sqnum; len = length b; kind = kind; group = group }) × (drop 24 b ≡ body) in
    let Q : List ℕ → Type 0 = λ b. IsBytes b in
    subst P (sym e) (has_head_at body sqnum kind group pad.0 pad.1 h.sqnum_fits h.len_fits (subst Q e fits))

-- a number at a place, and what follows it
pub part : (n m x : ℕ) (bytes rest : List ℕ) → n + m ≤ length bytes → IsBytes bytes → x ≡ little_number m (drop n bytes) → drop (n + m) bytes ≡ rest → drop n bytes ≡ little_bytes m x ++ rest
part n m x bytes rest long fits is more =
    let fewer : m ≤ length (drop n bytes) = rw length-drop (omega arith) in
    sym (rw (is, little_bytes-number m (drop n bytes) fewer (λ i. rw get_or-drop (fits (n + i))), ← more, ← drop-drop) (take-append-drop m (drop n bytes)))

-- one byte at a place
pub cell : (n x : ℕ) (bytes rest : List ℕ) → n < length bytes → x ≡ slice_index bytes n → drop (n + 1) bytes ≡ rest → drop n bytes ≡ x ∷ rest
cell n x bytes rest long is more = let e : suc n ≡ n + 1 = omega arith in drop-cons bytes n 0 long ∙ rw (is, ← more, e) refl

-- bytes that may be anything
pub gap : (n m : ℕ) (bytes rest : List ℕ) → drop (n + m) bytes ≡ rest → drop n bytes ≡ take m (drop n bytes) ++ rest
gap n m bytes rest more = sym (rw (← more, ← drop-drop) (take-append-drop m (drop n bytes)))

-- bytes with a header that fits are a node
pub is_node : (bytes : List ℕ) (head : Head) → IsBytes bytes → HasHead bytes head → head.len ≡ length bytes → head.group ≤ 2 → length bytes < 2 ^ 32
    → IsNode bytes head.sqnum head.kind head.group (drop 24 bytes)
unfolding node_bytes
is_node bytes head fits h len group top =
    let body = drop 24 bytes in
    let pad = take 2 (drop 22 bytes) in
    let wide : 24 + length body ≡ head.len = rw length-drop (let l = h.low in omega (arith, l, len)) in
    let at22 = gap 22 2 bytes body refl in
    let at21 = cell 21 head.group bytes (pad ++ body) (let l = h.long in omega (arith, l)) h.group at22 in
    let at20 = cell 20 head.kind bytes (head.group ∷ (pad ++ body)) (let l = h.long in omega (arith, l)) h.kind at21 in
    let at16 = part 16 4 (24 + length body) bytes (head.kind ∷ head.group ∷ (pad ++ body)) (let l = h.long in omega (arith, l)) fits (wide ∙ h.len) at20 in
    let at8 = part 8 8 head.sqnum bytes _ (let l = h.long in omega (arith, l)) fits h.sqnum at16 in
    let crc : crc32_of (covered (24 + length body) head.sqnum head.kind head.group pad body) ≡ little_number 4 (drop 4 bytes) =
    sym (h.crc ∙ ap (λ b. crc32_of (drop 8 b)) (take_all head.len bytes (omega (arith, len))) ∙ ap crc32_of at8) in
    let at4 = part 4 4 (crc32_of (covered (24 + length body) head.sqnum head.kind head.group pad body)) bytes _ (let l = h.long in omega (arith, l)) fits crc at8 in
    let at0 = part 0 4 MAGIC bytes _ (let l = h.long in omega (arith, l)) fits (sym h.magic) at4 in
    record {
      padding = pad;
      two = rw (length-take, length-drop) (let l = h.long in omega (arith, l));
      spelled = at0;
      sqnum_fits = rw h.sqnum (little_from-lt 0 8 (drop 8 bytes) (λ i. rw get_or-drop (fits (8 + i))));
      kind_fits = rw h.kind (fits 20);
      group_known = group;
      len_fits = omega (arith, wide, len);
    }

-- no node begins another
pub node-prefix : (a x b body1 body2 : List ℕ) (s1 k1 g1 s2 k2 g2 : ℕ) → IsBytes a → IsBytes b → IsNode a s1 k1 g1 body1 → IsNode b s2 k2 g2 body2 → a ++ x ≡ b → length a ≡ length b
node-prefix a x b body1 body2 s1 k1 g1 s2 k2 g2 fa fb na nb e =
    let ha = (has_head a body1 s1 k1 g1 fa na).0 in
    let hb = (has_head b body2 s2 k2 g2 fb nb).0 in
    let long = ha.long in
    let room : 4 ≤ length (drop 16 a) = rw length-drop (omega (arith, long)) in
    ha.len ∙ sym (hb.len ∙ ap (λ z. little_number 4 (drop 16 z)) (sym e) ∙ ap (little_number 4) (drop-append-le 16 a x (omega (arith, long))) ∙ little_from-append 4 (drop 16 a) x room)
