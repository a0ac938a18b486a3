-- The rows of the ltab.
use Rattle.std.proofs.Common.{◌≡◌, ℕ, zero, suc, ◌+◌, ◌-◌, ◌≤◌, ◌==◌, if◌then◌else◌, Bool, true, false, List, [], ◌∷◌, ◌++◌, length, ap, ◌∙◌, arith, refl}
use Rattle.std.specs.List.{flat_map}
use Rattle.ubifs_base.specs.Areas.{lpt_first}
use Rattle.ubifs_base.specs.Geometry.{IsGeometry}
use Rattle.ubifs_base.specs.Properties.{tree_len}
use Rattle.ubifs_base.specs.declared.raw_geometry.RawGeometry.{RawGeometry}
use Rattle.media_lpt.specs.Nodes.{IsLtab, row_fields}
use Rattle.media_lpt.specs.Packed.{AllFit}
use Rattle.media_lpt.specs.PackedLaws.{AllFit-append}
use Rattle.media_lpt.specs.declared.ltab.LptRow.{LptRow}
use Rattle.lpt_area.specs.Written.{rows_from, ltab_rows, tree_row, empty_row, in_units}
use Rattle.lpt_area.proofs.NodeFits.{leb_size-fits}

-- the row of the written LEB, or of another
abbrev pub row_at : RawGeometry → Bool → LptRow
row_at geo b = if b then tree_row geo else empty_row geo

pub rows-next : (geo : RawGeometry) (lnum n from : ℕ) → rows_from geo lnum (n + 1) from ≡ rows_from geo lnum n from ++ (if from + n == lnum then tree_row geo else empty_row geo) ∷ []
unfolding rows_from
rows-next geo lnum zero from = let e : from ≡ from + 0 = omega arith in ap (λ (m : ℕ). (if m == lnum then tree_row geo else empty_row geo) ∷ []) e
rows-next geo lnum (suc n) from =
    let e : suc n + 1 ≡ suc (n + 1) = omega arith in
    let f : suc from + n ≡ from + suc n = omega arith in
    let head : LptRow = if from == lnum then tree_row geo else empty_row geo in
    ap (λ (m : ℕ). rows_from geo lnum m from) e
    ∙ ap (λ (r : List LptRow). head ∷ r) (rows-next geo lnum n (suc from) ∙ ap (λ (m : ℕ). rows_from geo lnum n (suc from) ++ (if m == lnum then tree_row geo else empty_row geo) ∷ []) f)

abbrev pub row_with : ℕ → ℕ → LptRow
row_with free dirty = record { free = free; dirty = dirty }

pub row_is : (geo : RawGeometry) (b : Bool) (end dirty : ℕ) → end ≡ in_units geo.min_io (tree_len geo) → dirty + tree_len geo ≡ end
    → (if b then row_with (geo.leb_size - end) dirty else row_with geo.leb_size 0) ≡ (if b then tree_row geo else empty_row geo)
row_is geo true end dirty is_end is_dirty =
    let same : dirty ≡ in_units geo.min_io (tree_len geo) - tree_len geo = omega (arith, is_end, is_dirty) in
    let R : ℕ → ℕ → LptRow = λ e d. record { free = geo.leb_size - e; dirty = d } in
    ap (λ (e : ℕ). R e dirty) is_end ∙ ap (λ (d : ℕ). R (in_units geo.min_io (tree_len geo)) d) same
row_is geo false end dirty is_end is_dirty = refl

pub rows-length : (geo : RawGeometry) (lnum n from : ℕ) → length (rows_from geo lnum n from) ≡ n
unfolding rows_from
rows-length geo lnum zero from = refl
rows-length geo lnum (suc n) from = let rest = rows-length geo lnum n (suc from) in omega (arith, rest)

row_fits : (geo : RawGeometry) (b : Bool) → IsGeometry geo → in_units geo.min_io (tree_len geo) ≤ geo.leb_size → AllFit (row_fields geo (if b then tree_row geo else empty_row geo))
unfolding row_fields AllFit
row_fits geo true h fits = let size = leb_size-fits geo h in (omega (arith, size), (omega (arith, size, fits), tt))
row_fits geo false h fits = let size = leb_size-fits geo h in (size, (omega (arith, size), tt))

rows_fit : (geo : RawGeometry) (lnum n from : ℕ) → IsGeometry geo → in_units geo.min_io (tree_len geo) ≤ geo.leb_size → AllFit (flat_map (row_fields geo) (rows_from geo lnum n from))
unfolding rows_from AllFit
rows_fit geo lnum zero from h fits = tt
rows_fit geo lnum (suc n) from h fits =
    AllFit-append (row_fields geo (if from == lnum then tree_row geo else empty_row geo)) (flat_map (row_fields geo) (rows_from geo lnum n (suc from))) (row_fits geo (from == lnum) h fits) (rows_fit geo lnum n (suc from) h fits)

pub is_ltab : (geo : RawGeometry) (lnum : ℕ) → IsGeometry geo → in_units geo.min_io (tree_len geo) ≤ geo.leb_size → IsLtab geo (ltab_rows geo lnum)
is_ltab geo lnum h fits = record { whole = rows-length geo lnum geo.lpt_lebs (lpt_first geo); fit = rows_fit geo lnum geo.lpt_lebs (lpt_first geo) h fits }
