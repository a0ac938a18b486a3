-- Cells of a map: a key's cell holds a value or nothing, and what is seen are the values.
use Rattle.std.specs.Prelude.{◌≡◌, Bool, true, false, not, List, filter_map, map, is_some, if◌then◌else◌, Some, None}
use Rattle.std.specs.declared.option.Option.{Option}
use Rattle.std.specs.declared.cmp.Ordering.{Ordering}
use Rattle.std.specs.Option.{option_map}
use Rattle.std.specs.Map.{lookup}
use Rattle.std.specs.BTreeMap.{is_at}

-- the values that cells hold, by key
abbrev pub seen_cells : {K V : Type 0} → List (K × Option V) → List (K × V)
seen_cells cells = filter_map (λ c. option_map (λ v. (c.0, v)) c.1) cells

-- whether a key has a cell, be it empty
abbrev pub has_cell : {K V : Type 0} → (K → K → Ordering) → List (K × Option V) → K → Bool
has_cell cmp cells key = is_some (lookup (is_at (cmp key)) cells)

-- a key that had a cell has one still
abbrev pub KeepsCells : {K V : Type 0} → (K → K → Ordering) → List (K × Option V) → List (K × Option V) → Type 0
KeepsCells {K} cmp old new = (key : K) → has_cell cmp old key ≡ true → has_cell cmp new key ≡ true

-- whether a cell is there and empty
abbrev pub is_empty_cell : {V : Type 0} → Option (Option V) → Bool
is_empty_cell None = false
is_empty_cell (Some held) = not (is_some held)

-- the cells, of which those are emptied whose keys pass
abbrev pub cleared : {K V : Type 0} → (K → Bool) → List (K × Option V) → List (K × Option V)
cleared test cells = map (λ c. (c.0, if test c.0 then None else c.1)) cells
