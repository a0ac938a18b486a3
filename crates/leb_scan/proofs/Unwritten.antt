-- Where nothing is written no item begins.
use Rattle.std.proofs.Common.{◌≡◌, ℕ, zero, suc, ◌≤◌, ◌==◌, ◌&&◌, true, false, List, [], ◌∷◌, length, take, drop, replicate, get_or, min, refl, ap, sym, ◌∙◌, arith, length-take, take-append-drop}
use Rattle.std.proofs.lemmas.Bool.{and_parts, eqb-true, false_from_ne_true}
use Rattle.std.proofs.lemmas.List.Folds.{list_all-append}
use Rattle.byteorder.specs.Endian.{little_bytes, little_number}
use Rattle.byteorder.specs.Numbers.{little_from-take}
use Rattle.ubifs_base.specs.NodeLaws.{IsBytes, little_bytes-number}
use Rattle.media_sys.specs.SystemNode.{padding}
use Rattle.leb_scan.specs.Text.{AnyNode, system, StandsAt, Begins, is_blank}
use Rattle.leb_scan.specs.declared.found.Found.{Found}
use Rattle.leb_scan.specs.declared.item.Item.{Item}
use Rattle.leb_scan.specs.declared.item.Item.TheVariants.{Node, Padding, Word}
use Rattle.leb_scan.proofs.Heads.{standing}

-- the front of unwritten bytes
pub blank_front : (n : ℕ) (bytes : List ℕ) → is_blank bytes ≡ true → n ≤ length bytes → take n bytes ≡ replicate n 0xFF
blank_front zero bytes h long = refl
blank_front (suc n) [] h long = absurd (omega arith)
blank_front (suc n) (x ∷ bytes) h long =
    let parts = and_parts (x == 0xFF) (is_blank bytes) h in
    let first : x ≡ 0xFF = eqb-true x 0xFF parts.0 in
    rw (first, blank_front n bytes parts.1 (omega arith)) refl

blank_no_node : (leb : List ℕ) (place : ℕ) (found : Found) (node : AnyNode) → IsBytes leb → is_blank (drop place leb) ≡ true → StandsAt leb place found node → ⊥
blank_no_node leb place found node fits blank h =
    let rest = drop place leb in
    let head = (standing leb place found node fits h).head in
    let long = head.long in
    let magic = head.magic in
    let other : little_number 4 rest ≡ 0xFFFFFFFF = sym (little_from-take 0 4 4 rest (omega arith)) ∙ ap (little_number 4) (blank_front 4 rest blank (omega (arith, long))) in
    absurd (omega (arith, magic, other))

pub word_long : (bytes : List ℕ) → take 8 bytes ≡ replicate 8 0xCE → 8 ≤ length bytes
word_long bytes h = let e : min 8 (length bytes) ≡ 8 = sym (length-take 8 bytes) ∙ ap length h in omega (arith, e)

blank_no_word : (bytes : List ℕ) → is_blank bytes ≡ true → take 8 bytes ≡ replicate 8 0xCE → ⊥
blank_no_word bytes blank word =
    let e : replicate 8 0xCE ≡ replicate 8 0xFF = sym word ∙ blank_front 8 bytes blank (word_long bytes word) in
    let first : 0xCE ≡ 0xFF = ap (λ (b : List ℕ). get_or b 0 0) e in
    absurd (omega (arith, first))

pub blank_no_item : (leb : List ℕ) (place : ℕ) (item : Item) → IsBytes leb → is_blank (drop place leb) ≡ true → Begins leb place item → ⊥
blank_no_item leb place (Node found) fits blank h = blank_no_node leb place found h.node fits blank h.stands
blank_no_item leb place (Padding found pad_len) fits blank h = blank_no_node leb place found (system (padding (record { pad_len = pad_len }))) fits blank h.stands
blank_no_item leb place Word fits blank h = blank_no_word (drop place leb) blank h

-- eight bytes at a time
pub blank_word : (bytes : List ℕ) → IsBytes bytes → 8 ≤ length bytes → little_number 8 bytes ≡ 0xFFFFFFFFFFFFFFFF → is_blank (drop 8 bytes) ≡ is_blank bytes
blank_word bytes fits long h =
    let front : take 8 bytes ≡ replicate 8 0xFF = sym (little_bytes-number 8 bytes long fits) ∙ ap (little_bytes 8) h in
    sym (ap is_blank (sym (take-append-drop 8 bytes)) ∙ list_all-append (λ (byte : ℕ). byte == 0xFF) (take 8 bytes) (drop 8 bytes) ∙ ap (λ (b : List ℕ). is_blank b && is_blank (drop 8 bytes)) front)

pub written_word : (bytes : List ℕ) → 8 ≤ length bytes → (little_number 8 bytes ≡ 0xFFFFFFFFFFFFFFFF → ⊥) → is_blank bytes ≡ false
written_word bytes long h = false_from_ne_true (is_blank bytes)
    (λ blank. h (sym (little_from-take 0 8 8 bytes (omega arith)) ∙ ap (little_number 8) (blank_front 8 bytes blank long)))
