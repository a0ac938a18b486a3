-- A text is one manifest, or has one first bad line.
use Rattle.std.proofs.Common.{◌≡◌, ℕ, Bool, List, [], ◌++◌, arith, sym, ap, ◌∙◌, append-nil, inl, inr}
use Rattle.std.specs.Prelude.{codes}
use Rattle.std.proofs.lemmas.List.{append_cancel_left}
use Rattle.script_text.specs.declared.manifest.Manifest.{Manifest}
use Rattle.script_text.specs.Manifest.{volume_line, HasRange, IsManifest, IsFirstBadManifestLine}
use Rattle.text_lines.specs.Lines.{ended}
use Rattle.script_text.proofs.Lines.{end_cut, number_cut, volume_bytes, leb_size_bytes, min_io_bytes, main_bytes, fanout_bytes}

made : ℕ → ℕ → ℕ → ℕ → Bool → Manifest
made l u m f p = record { leb_size = l; min_io = u; main = m; fanout = f; packed = p }

same_fields : (a b : Manifest) → a.leb_size ≡ b.leb_size → a.min_io ≡ b.min_io → a.main ≡ b.main → a.fanout ≡ b.fanout → a.packed ≡ b.packed → a ≡ b
unfolding made
same_fields a b l u m f p =
    ap (λ (x : ℕ). made x a.min_io a.main a.fanout a.packed) l ∙ ap (λ (x : ℕ). made b.leb_size x a.main a.fanout a.packed) u
    ∙ ap (λ (x : ℕ). made b.leb_size b.min_io x a.fanout a.packed) m ∙ ap (λ (x : ℕ). made b.leb_size b.min_io b.main x a.packed) f
    ∙ ap (λ (x : Bool). made b.leb_size b.min_io b.main b.fanout x) p

-- a text begins with one geometry's line, and has one rest
pub volume_once : (a b : Manifest) (x y : List ℕ) → HasRange a → HasRange b → volume_line a ++ x ≡ volume_line b ++ y → (a ≡ b) × (x ≡ y)
volume_once a b x y ra rb e =
    let p0 = append_cancel_left (codes "volume ") (leb_size_bytes a x) (leb_size_bytes b y) (sym (volume_bytes a x) ∙ e ∙ volume_bytes b y) in
    let p1 = number_cut 32 a.leb_size b.leb_size (min_io_bytes a x) (min_io_bytes b y) (omega arith) (omega arith) (omega arith) p0 in
    let p2 = number_cut 32 a.min_io b.min_io (main_bytes a x) (main_bytes b y) (omega arith) (omega arith) (omega arith) p1.1 in
    let p3 = number_cut 32 a.main b.main (fanout_bytes a x) (fanout_bytes b y) (omega arith) (omega arith) (omega arith) p2.1 in
    let p4 = end_cut a.fanout b.fanout a.packed b.packed x y (omega arith) (omega arith) p3.1 in
    (same_fields a b p1.0 p2.0 p3.0 p4.0 p4.1, p4.2)

abbrev end_bytes : List ℕ
end_bytes = ended (codes "end")

pub manifest_once : (text : List ℕ) (a b : Manifest) → IsManifest text a → IsManifest text b → a ≡ b
manifest_once text a b h k = (volume_once a b end_bytes end_bytes h.range k.range (sym h.lines ∙ k.lines)).0

pub manifest_no_bad : (text : List ℕ) (m : Manifest) (n : ℕ) → IsManifest text m → IsFirstBadManifestLine text n → ⊥
manifest_no_bad text m n h bad = elim bad [
  | inl one ↦ one.1 end_bytes (m, h.range, h.plain, h.lines)
  | inr more ↦ elim more [
    | inl two ↦ two.1.2 [] ((volume_once two.1.1.0 m two.1.0 end_bytes two.1.1.1 h.range (sym two.1.1.3 ∙ h.lines)).1 ∙ sym (append-nil end_bytes))
    | inr three ↦ three.1.1 (append_cancel_left end_bytes three.1.0 [] ((volume_once three.1.2.0 m (end_bytes ++ three.1.0) end_bytes three.1.2.1 h.range (sym three.1.2.3 ∙ h.lines)).1 ∙ sym (append-nil end_bytes)))
  ]
]

pub manifest_bad_once : (text : List ℕ) (m n : ℕ) → IsFirstBadManifestLine text m → IsFirstBadManifestLine text n → m ≡ n
manifest_bad_once text m n a b = elim a [
  | inl one ↦ elim b [
    | inl other ↦ one.0 ∙ sym other.0
    | inr more ↦ elim more [ inl two ↦ absurd (one.1 two.1.0 two.1.1) | inr three ↦ absurd (one.1 (end_bytes ++ three.1.0) three.1.2) ]
  ]
  | inr some ↦ elim some [
    | inl two ↦ elim b [
      | inl other ↦ absurd (other.1 two.1.0 two.1.1)
      | inr more ↦ elim more [
        | inl other ↦ two.0 ∙ sym other.0
        | inr three ↦ absurd (two.1.2 three.1.0 (volume_once two.1.1.0 three.1.2.0 two.1.0 (end_bytes ++ three.1.0) two.1.1.1 three.1.2.1 (sym two.1.1.3 ∙ three.1.2.3)).1)
      ]
    ]
    | inr three ↦ elim b [
      | inl other ↦ absurd (other.1 (end_bytes ++ three.1.0) three.1.2)
      | inr more ↦ elim more [
        | inl two ↦ absurd (two.1.2 three.1.0 (volume_once two.1.1.0 three.1.2.0 two.1.0 (end_bytes ++ three.1.0) two.1.1.1 three.1.2.1 (sym two.1.1.3 ∙ three.1.2.3)).1)
        | inr other ↦ three.0 ∙ sym other.0
      ]
    ]
  ]
]
