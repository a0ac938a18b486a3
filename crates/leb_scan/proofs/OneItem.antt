-- At a place at most one item begins.
use Rattle.std.proofs.Common.{◌≡◌, ℕ, ◌-◌, ◌≤◌, List, [], length, take, drop, replicate, refl, ap, sym, ◌∙◌, arith, length-drop}
use Rattle.std.proofs.lemmas.List.{length-take-le}
use Rattle.byteorder.specs.Endian.{little_number}
use Rattle.byteorder.specs.Numbers.{little_from-take}
use Rattle.ubifs_base.specs.NodeLaws.{IsBytes}
use Rattle.node_fields.specs.FieldLaws.{reads_back, length-read}
use Rattle.media_sys.specs.SystemNode.{padding, fields_of}
use Rattle.leb_scan.specs.Text.{AnyNode, system, StandsAt, Begins, IsWordAt}
use Rattle.leb_scan.specs.declared.found.Found.{Found}
use Rattle.ubifs_base.specs.declared.node_type.NodeType.{NodeType}
use Rattle.ubifs_base.specs.declared.node_type.NodeType.TheVariants as types
use Rattle.leb_scan.specs.declared.item.Item.{Item}
use Rattle.leb_scan.specs.declared.item.Item.TheVariants.{Node, Padding, Word}
use Rattle.leb_scan.specs.TypeLaws.{type_same}
use Rattle.leb_scan.proofs.Heads.{number_front, standing}

found_same : (o1 o2 l1 l2 g1 g2 s1 s2 : ℕ) (k1 k2 : NodeType) → o1 ≡ o2 → l1 ≡ l2 → k1 ≡ k2 → g1 ≡ g2 → s1 ≡ s2
    → let a : Found = record { offs = o1; len = l1; kind = k1; group = g1; sqnum = s1 } in
    let b : Found = record { offs = o2; len = l2; kind = k2; group = g2; sqnum = s2 } in
    a ≡ b
found_same o1 o2 l1 l2 g1 g2 s1 s2 k1 k2 o l k g s = rw (o, l, k, g, s) refl

-- at most one node
pub one_found : (leb : List ℕ) (place : ℕ) (f g : Found) (m n : AnyNode) → IsBytes leb → StandsAt leb place f m → StandsAt leb place g n → f ≡ g
one_found leb place f g m n fits h1 h2 =
    let a = (standing leb place f m fits h1).head in
    let b = (standing leb place g n fits h2).head in
    found_same f.offs g.offs f.len g.len f.group g.group f.sqnum g.sqnum f.kind g.kind
    (h1.here ∙ sym h2.here) (a.len ∙ sym b.len) (type_same f.kind g.kind (a.kind ∙ sym b.kind)) (a.group ∙ sym b.group) (a.sqnum ∙ sym b.sqnum)

-- a header has 24 bytes
pub long_node : (leb : List ℕ) (place : ℕ) (found : Found) (node : AnyNode) → IsBytes leb → StandsAt leb place found node → 24 ≤ found.len
long_node leb place found node fits h = (standing leb place found node fits h).head.low

-- what a padding node announces stands behind its header
pub record IsPadded (leb : List ℕ) (place : ℕ) (found : Found) (pad_len : ℕ) : Type 0 where
  pub len : found.len ≡ 28
  pub kind : found.kind ≡ types.Padding
  pub pad_len_is : little_number 4 (drop 24 (drop place leb)) ≡ pad_len

pub padded : (leb : List ℕ) (place : ℕ) (found : Found) (pad_len : ℕ) → IsBytes leb → StandsAt leb place found (system (padding (record { pad_len = pad_len }))) → IsPadded leb place found pad_len
padded leb place found pad_len fits h =
    let rest = drop place leb in
    let front = take found.len rest in
    let is = standing leb place found (system (padding (record { pad_len = pad_len }))) fits h in
    let back = reads_back 0 (fields_of (padding (record { pad_len = pad_len }))) [] (drop 24 front) (omega arith) is.body.spelled in
    let size : length (drop 24 front) ≡ 4 = length-read (fields_of (padding (record { pad_len = pad_len }))) [] (drop 24 front) back in
    let low = is.head.low in
    let high = is.head.high in
    let wide : length (drop 24 front) ≡ length front - 24 = length-drop 24 front in
    let long : length front ≡ found.len = length-take-le found.len rest high in
    let len : found.len ≡ 28 = omega (arith, size, wide, long, low) in
    record { len = len; kind = h.kind; pad_len_is = sym (number_front 4 24 found.len rest (omega (arith, len))) ∙ back.numbers.0 }

-- eight bytes 0xCE are no magic
word_magic : (bytes : List ℕ) → take 8 bytes ≡ replicate 8 0xCE → little_number 4 bytes ≡ 0xCECECECE
word_magic bytes h = sym (little_from-take 0 4 8 bytes (omega arith)) ∙ ap (little_number 4) h

pub word_no_node : (leb : List ℕ) (place : ℕ) (found : Found) (node : AnyNode) → IsBytes leb → IsWordAt leb place → StandsAt leb place found node → ⊥
word_no_node leb place found node fits word h =
    let magic = (standing leb place found node fits h).head.magic in
    let other = word_magic (drop place leb) word in
    absurd (omega (arith, magic, other))

pub one_item : (leb : List ℕ) (place : ℕ) (a b : Item) → IsBytes leb → Begins leb place a → Begins leb place b → a ≡ b
one_item leb place (Node f) (Node g) fits h1 h2 = ap (λ (found : Found). Node found) (one_found leb place f g h1.node h2.node fits h1.stands h2.stands)
one_item leb place (Node f) (Padding g p) fits h1 h2 =
    let same = one_found leb place f g h1.node (system (padding (record { pad_len = p }))) fits h1.stands h2.stands in
    absurd (h1.other (ap (λ (found : Found). found.kind) same ∙ h2.stands.kind))
one_item leb place (Padding f p) (Node g) fits h1 h2 =
    let same = one_found leb place g f h2.node (system (padding (record { pad_len = p }))) fits h2.stands h1.stands in
    absurd (h2.other (ap (λ (found : Found). found.kind) same ∙ h1.stands.kind))
one_item leb place (Padding f p) (Padding g q) fits h1 h2 =
    let same = one_found leb place f g (system (padding (record { pad_len = p }))) (system (padding (record { pad_len = q }))) fits h1.stands h2.stands in
    let alike : p ≡ q = sym (padded leb place f p fits h1.stands).pad_len_is ∙ (padded leb place g q fits h2.stands).pad_len_is in
    ap (λ (found : Found). Padding found p) same ∙ ap (λ (pad_len : ℕ). Padding g pad_len) alike
one_item leb place Word Word fits h1 h2 = refl
one_item leb place Word (Node g) fits h1 h2 = absurd (word_no_node leb place g h2.node fits h1 h2.stands)
one_item leb place Word (Padding g q) fits h1 h2 = absurd (word_no_node leb place g (system (padding (record { pad_len = q }))) fits h1 h2.stands)
one_item leb place (Node f) Word fits h1 h2 = absurd (word_no_node leb place f h1.node fits h2 h1.stands)
one_item leb place (Padding f p) Word fits h1 h2 = absurd (word_no_node leb place f (system (padding (record { pad_len = p }))) fits h2 h1.stands)
