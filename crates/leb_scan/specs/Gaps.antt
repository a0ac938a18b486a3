-- The items of a gap: words of padding, or a padding node.
use Rattle.std.proofs.Common.{◌≡◌, ℕ, zero, suc, ◌+◌, ◌-◌, ◌*◌, ◌/◌, ◌%◌, ◌^◌, ◌<◌, ◌≤◌, nat_lt, Bool, true, false, List, [], ◌∷◌, ◌++◌, length, take, drop, replicate, refl, ap, sym, ◌∙◌, subst, inl, inr, arith, append_assoc, length-append, length-drop}
use Rattle.std.specs.Prelude.{All}
use Rattle.std.proofs.lemmas.Bool.{cases_Bool, ltb-false}
use Rattle.std.proofs.lemmas.List.{drop-drop, take_at, length-replicate, replicate-append-replicate}
use Rattle.std.proofs.lemmas.List.Elements.{All-nil, All-cons, All-take}
use Rattle.byteorder.specs.Endian.{little_bytes}
use Rattle.ubifs_base.specs.Gap.{gap_of, padding_node}
use Rattle.ubifs_base.specs.Node.{node_bytes}
use Rattle.ubifs_base.specs.declared.node_type.NodeType.TheVariants as types
use Rattle.node_fields.specs.Fields.{Spells}
use Rattle.media_sys.specs.SystemNode.{padding, IsSystemNode}
use Rattle.leb_scan.specs.Text.{IsPaddingAt, Stand, nodes_of}
use Rattle.leb_scan.specs.TextLaws.{nodes_of-append}
use Rattle.leb_scan.specs.declared.found.Found.{Found}
use Rattle.leb_scan.specs.declared.item.Item.{Item}
use Rattle.leb_scan.specs.declared.item.Item.TheVariants.{Padding, Word}

-- so many words of padding
abbrev pub padding_words : ℕ → List Item
padding_words zero = []
padding_words (suc n) = Word ∷ padding_words n

-- a padding node at this place
abbrev pub padding_found : ℕ → ℕ → Found
padding_found place pad_len = record { offs = place; len = 28; kind = types.Padding; group = 0; sqnum = 0 }

abbrev gap_by : ℕ → ℕ → Bool → List Item
gap_by place n true = padding_words (n / 8)
gap_by place n false = Padding (padding_found place (n - 28)) (n - 28) ∷ []

-- the items of a gap of n bytes at this place
abbrev pub gap_items : ℕ → ℕ → List Item
gap_items place n = gap_by place n (nat_lt n 28)

-- this is a padding node
abbrev pub IsPadding : Found → Type 0
IsPadding found = found.kind ≡ types.Padding

abbrev eights : ℕ → List ℕ
eights zero = []
eights (suc n) = 0xCE ∷ 0xCE ∷ 0xCE ∷ 0xCE ∷ 0xCE ∷ 0xCE ∷ 0xCE ∷ 0xCE ∷ eights n

eights_are : (n : ℕ) → replicate (8 * n) 0xCE ≡ eights n
eights_are zero = refl
eights_are (suc n) =
    let e : 8 * suc n ≡ 8 + 8 * n = omega arith in
    ap (λ (k : ℕ). replicate k 0xCE) e ∙ sym (replicate-append-replicate 8 (8 * n) 0xCE) ∙ ap (λ (r : List ℕ). replicate 8 0xCE ++ r) (eights_are n)

words_stand : (n : ℕ) (leb : List ℕ) (place : ℕ) (back : List ℕ) → drop place leb ≡ eights n ++ back → Stand leb place (padding_words n) (place + 8 * n)
words_stand zero leb place back h = omega arith
words_stand (suc n) leb place back h =
    let rest : drop (place + 8) leb ≡ eights n ++ back = sym (drop-drop 8 place leb) ∙ ap (drop 8) h in
    let P : ℕ → Type 0 = λ end. Stand leb (place + 8) (padding_words n) end in
    let e : place + 8 + 8 * n ≡ place + 8 * suc n = omega arith in
    (ap (take 8) h, subst P e (words_stand n leb (place + 8) back rest))

words_none : (n : ℕ) → nodes_of (padding_words n) ≡ []
words_none zero = refl
words_none (suc n) = words_none n

pad_is : (pad_len : ℕ) → pad_len < 2 ^ 32 → IsSystemNode (padding_node pad_len) 0 0 (padding (record { pad_len = pad_len }))
unfolding Spells
pad_is pad_len fits = record {
  body = little_bytes 4 pad_len;
  framed = record {
    padding = 0 ∷ 0 ∷ [];
    two = refl;
    spelled = refl;
    sqnum_fits = omega arith;
    kind_fits = omega arith;
    group_known = omega arith;
    len_fits = omega arith;
  };
  spelled = (omega (arith, fits), refl, refl);
  is = tt;
}

pad_length : (pad_len : ℕ) → length (padding_node pad_len) ≡ 28
unfolding node_bytes
pad_length pad_len = refl

pad_stands : (n : ℕ) (leb : List ℕ) (place : ℕ) (back : List ℕ) → 28 ≤ n → n < 2 ^ 32 → n % 8 ≡ 0 → drop place leb ≡ padding_node (n - 28) ++ replicate (n - 28) 0 ++ back
    → Stand leb place (Padding (padding_found place (n - 28)) (n - 28) ∷ []) (place + n)
pad_stands n leb place back long fits even h =
    let k : ℕ = n - 28 in
    let node = padding_node k in
    let zeros : List ℕ = replicate k 0 in
    let split : drop place leb ≡ node ++ (zeros ++ back) = h ∙ append_assoc node zeros back in
    let front : take 28 (drop place leb) ≡ node = ap (take 28) split ∙ take_at node (zeros ++ back) 28 (pad_length k) in
    let a : length (drop place leb) ≡ length node + length (zeros ++ back) = ap length split ∙ length-append node (zeros ++ back) in
    let b : length (zeros ++ back) ≡ length zeros + length back = length-append zeros back in
    let d : length zeros ≡ k = length-replicate k 0 in
    let f : length node ≡ 28 = pad_length k in
    let size : length (drop place leb) ≡ length leb - place = length-drop place leb in
    let inside : place + (28 + k) ≤ length leb = omega (arith, a, b, d, f, size, long) in
    let room : place + 28 ≤ length leb = omega (arith, inside) in
    let P : List ℕ → Type 0 = λ bytes. IsSystemNode bytes 0 0 (padding (record { pad_len = k })) in
    let even_gap : (28 + k) % 8 ≡ 0 = omega (arith, long, even) in
    let there : IsPaddingAt leb place (padding_found place k) k = record { stands = record { here = refl; room = room; kind = refl; is = subst P (sym front) (pad_is k (omega (arith, fits))) }; inside = inside; even = even_gap } in
    (there, omega (arith, long))

gap_words : (n : ℕ) → nat_lt n 28 ≡ true → gap_of n ≡ replicate n 0xCE
unfolding gap_of
gap_words n h = rw h refl

gap_padding : (n : ℕ) → nat_lt n 28 ≡ false → gap_of n ≡ padding_node (n - 28) ++ replicate (n - 28) 0
unfolding gap_of
gap_padding n h = rw h refl

-- a gap of n bytes has n bytes
pub gap_length : (n : ℕ) → length (gap_of n) ≡ n
gap_length n = elim (cases_Bool (nat_lt n 28)) [
  | inl h ↦ ap length (gap_words n h) ∙ length-replicate n 0xCE
  | inr h ↦
      let long = ltb-false n 28 h in
      let zeros : List ℕ = replicate (n - 28) 0 in
      let a : length (padding_node (n - 28) ++ zeros) ≡ length (padding_node (n - 28)) + length zeros = length-append (padding_node (n - 28)) zeros in
      let b : length zeros ≡ n - 28 = length-replicate (n - 28) 0 in
      let d = pad_length (n - 28) in
      let e : length (gap_of n) ≡ length (padding_node (n - 28) ++ zeros) = ap length (gap_padding n h) in
      omega (arith, long, a, b, d, e)
]

-- where a gap is, these items stand
pub gap_stands : (n : ℕ) (leb : List ℕ) (place : ℕ) (back : List ℕ) → n < 2 ^ 32 → n % 8 ≡ 0 → drop place leb ≡ gap_of n ++ back → Stand leb place (gap_items place n) (place + n)
gap_stands n leb place back fits even h = elim (cases_Bool (nat_lt n 28)) [
  | inl t ↦
      let e : 8 * (n / 8) ≡ n = omega (arith, even) in
      let P : ℕ → Type 0 = λ k. Stand leb place (padding_words (n / 8)) (place + k) in
      let Q : Bool → Type 0 = λ b. Stand leb place (gap_by place n b) (place + n) in
      subst Q (sym t) (subst P e (words_stand (n / 8) leb place back (h ∙ ap (λ (b : List ℕ). b ++ back) (gap_words n t ∙ ap (λ (k : ℕ). replicate k 0xCE) (sym e) ∙ eights_are (n / 8)))))
  | inr t ↦
      let Q : Bool → Type 0 = λ b. Stand leb place (gap_by place n b) (place + n) in
      subst Q (sym t) (pad_stands n leb place back (ltb-false n 28 t) fits even (h ∙ ap (λ (b : List ℕ). b ++ back) (gap_padding n t)))
]

padding_by : (place n : ℕ) (b : Bool) → All IsPadding (nodes_of (gap_by place n b))
padding_by place n true = let P : List Found → Type 0 = λ nodes. All IsPadding nodes in subst P (sym (words_none (n / 8))) (All-nil IsPadding)
padding_by place n false = All-cons IsPadding (padding_found place (n - 28)) [] refl (All-nil IsPadding)

-- and they have no other nodes than padding
pub gap_padding_alone : (place n : ℕ) → All IsPadding (nodes_of (gap_items place n))
gap_padding_alone place n = padding_by place n (nat_lt n 28)

-- nor has a first part of them
pub gap_part_alone : (place n : ℕ) (first rest : List Item) → gap_items place n ≡ first ++ rest → All IsPadding (nodes_of first)
gap_part_alone place n first rest split =
    let P : List Found → Type 0 = λ nodes. All IsPadding nodes in
    let count : ℕ = length (nodes_of first) in
    let both : nodes_of (gap_items place n) ≡ nodes_of first ++ nodes_of rest = ap nodes_of split ∙ nodes_of-append first rest in
    let front : take count (nodes_of (gap_items place n)) ≡ nodes_of first = ap (take count) both ∙ take_at (nodes_of first) (nodes_of rest) count refl in
    subst P front (All-take IsPadding count (nodes_of (gap_items place n)) (gap_padding_alone place n))
