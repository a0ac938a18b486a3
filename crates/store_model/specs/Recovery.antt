-- What a mount has read of the groups that were put, and which trees it may find.
use Rattle.std.specs.Prelude.{◌⊎◌, List, ◌∷◌, []}
use Rattle.fs_model.specs.Files.{Tree}
use Rattle.fs_model.specs.Recovery.{IsRecovered, Numbered, taken}
use Rattle.leaf_map.specs.Parts.{Parts}
use Rattle.store_model.specs.Fits.{Faced, FitsFaced}
use Rattle.store_model.specs.Heads.{heads_of}

-- the changes of the groups that were read
abbrev pub read_changes : (f : Faced) → (parts : Parts) → FitsFaced f parts → Numbered
read_changes f parts fits = taken (heads_of f.view.buds f.synced) (0 ∷ fits.base ∷ fits.data_groups ∷ [])

-- a cut may leave this tree of what one of these masters leads to
abbrev pub IsFoundBy : List Faced → Tree → Type 0
IsFoundBy [] tree = ⊥
IsFoundBy (f ∷ faced) tree = IsRecovered f.view.tree (heads_of f.view.buds f.synced) tree ⊎ IsFoundBy faced tree
