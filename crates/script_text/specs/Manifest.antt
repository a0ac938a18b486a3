-- Manifests: a line with the geometry, and the line `end`.
use Rattle.std.specs.Prelude.{ℕ, ◌<◌, ◌^◌, ◌≡◌, ◌≢◌, ◌⊎◌, Bool, true, false, List, [], ◌∷◌, ◌++◌, codes}
use Rattle.std.specs.Fmt.{decimal}
use Rattle.script_text.specs.declared.manifest.Manifest.{Manifest}
use Rattle.text_lines.specs.Lines.{ended, line_of}

-- the word behind the geometry, if the main area has just the LEBs that are needed
abbrev pub packed_words : Bool → List (List ℕ)
packed_words true = codes "packed" ∷ []
packed_words false = []

-- the line with the geometry
abbrev pub volume_line : Manifest → List ℕ
volume_line m = line_of (codes "volume" ∷ decimal m.leb_size ∷ decimal m.min_io ∷ decimal m.main ∷ decimal m.fanout ∷ packed_words m.packed)

-- what stands behind the last number of that line: the line's end, and then this
abbrev pub volume_end : Bool → List ℕ → List ℕ
volume_end true rest = 32 ∷ (codes "packed" ++ (10 ∷ rest))
volume_end false rest = 10 ∷ rest

-- the numbers are in range
abbrev pub HasRange : Manifest → Type 0
HasRange m = (m.leb_size < 2 ^ 32) × (m.min_io < 2 ^ 32) × (m.main < 2 ^ 31) × (m.fanout < 2 ^ 32)

-- the text is the geometry's line, without `packed`, and the line `end`
pub record IsManifest (text : List ℕ) (m : Manifest) : Type 0 where
  pub lines : text ≡ volume_line m ++ ended (codes "end")
  pub range : HasRange m
  pub plain : m.packed ≡ false

-- the text begins with a line with a geometry in range, without `packed`, and then has this
abbrev pub BeginsWithVolume : List ℕ → List ℕ → Type 0
BeginsWithVolume text rest = (m : Manifest) × HasRange m × (m.packed ≡ false) × (text ≡ volume_line m ++ rest)

-- The line of this number is the first that isn't in the grammar: no geometry stands there; or no `end` behind it; or something behind that.
abbrev pub IsFirstBadManifestLine : List ℕ → ℕ → Type 0
IsFirstBadManifestLine text number =
    ((number ≡ 1) × ((rest : List ℕ) → BeginsWithVolume text rest → ⊥))
    ⊎ ((number ≡ 2) × ((rest : List ℕ) × BeginsWithVolume text rest × ((more : List ℕ) → rest ≢ ended (codes "end") ++ more)))
    ⊎ ((number ≡ 3) × ((more : List ℕ) × (more ≢ []) × BeginsWithVolume text (ended (codes "end") ++ more)))
