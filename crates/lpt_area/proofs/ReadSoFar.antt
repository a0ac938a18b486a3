-- How far a row, and the levels of a tree, are read.
use Rattle.std.proofs.Common.{◌≡◌, ℕ, suc, ◌+◌, ◌<◌, List, [], ◌∷◌, ◌++◌, length, take, get_or, ap, subst, sym, ◌∙◌}
use Rattle.std.specs.List.{All}
use Rattle.ubi_volume.specs.Volume.{VolumeState}
use Rattle.ubifs_base.specs.Properties.{pnode_count, tree_height}
use Rattle.ubifs_base.specs.declared.raw_geometry.RawGeometry.{RawGeometry}
use Rattle.media_lpt.specs.Nodes.{IsPlace}
use Rattle.media_lpt.specs.declared.lprop.Lprop.{Lprop}
use Rattle.media_lpt.specs.declared.nnode.LptPlace.{LptPlace}
use Rattle.lpt_area.specs.KeptLaws.{IsKept, kept_start}
use Rattle.lpt_area.specs.Only.{IsOnly, HasNone, SameFor}
use Rattle.lpt_area.specs.Tree.{AtPlace, Row, HasNnode, IsBelow, no_place, row_len}
use Rattle.lpt_area.proofs.PlaceRows.{row_next, row_fails, all_take, all_of, only_moved, none_moved}
use Rattle.lpt_area.proofs.Decided.{level_down, level_fails, same_then, same_fails, same_self}

-- the places of a row so far say these
pub record RowSoFar {X : Type 0} (S : List ℕ → ℕ → List X → Type 0) (none : X) (old now : VolumeState) (row : List LptPlace) (i : ℕ) (all : List X) : Type 0 where
  pub kept : IsKept old now
  pub only : IsOnly (Row S none old.holds (take i row)) all

module _ {X : Type 0} (S : List ℕ → ℕ → List X → Type 0) (none : X) (old now : VolumeState) (row : List LptPlace) (i : ℕ) (d : LptPlace) where
  -- one place more, in a volume that is as it was
  pub read_next : (new : VolumeState) (all four longer : List X) → RowSoFar S none old now row i all → i < length row → IsOnly (AtPlace S none (now.holds (get_or row i d).lnum) (get_or row i d)) four
      → longer ≡ all ++ four → IsKept old new → RowSoFar S none old new row (i + 1) longer
  read_next new all four longer before lt step is kept =
      let P : List ℕ → Type 0 = λ leb. IsOnly (AtPlace S none leb (get_or row i d)) four in
      record { kept = kept; only = row_next S none old.holds row i d all four longer lt before.only (subst P (before.kept.keeps.holds (get_or row i d).lnum) step) is }

  pub read_fails : IsKept old now → i < length row → HasNone (AtPlace S none (now.holds (get_or row i d).lnum) (get_or row i d)) → HasNone (Row S none old.holds row)
  read_fails kept lt fails =
      let P : List ℕ → Type 0 = λ leb. HasNone (AtPlace S none leb (get_or row i d)) in
      row_fails S none old.holds row i d lt (subst P (kept.keeps.holds (get_or row i d).lnum) fails)

-- the tree from the root down is what it is from this row down
pub record LevelsSoFar (geo : RawGeometry) (old now : VolumeState) (root : LptPlace) (level : ℕ) (row : List LptPlace) : Type 0 where
  pub kept : IsKept old now
  pub places : All (IsPlace geo) row
  pub same : SameFor (IsBelow geo old.holds (tree_height (pnode_count geo)) (root ∷ [])) (IsBelow geo old.holds level row)

-- at the root
pub levels_start : (geo : RawGeometry) (old : VolumeState) (root : LptPlace) (level : ℕ) (row : List LptPlace) → IsPlace geo root → level ≡ tree_height (pnode_count geo) → row ≡ root ∷ [] → LevelsSoFar geo old old root level row
levels_start geo old root level row place height is =
    let P : List LptPlace → Type 0 = λ r. All (IsPlace geo) r in
    let Q : ℕ → List LptPlace → Type 0 = λ l r. SameFor (IsBelow geo old.holds (tree_height (pnode_count geo)) (root ∷ [])) (IsBelow geo old.holds l r) in
    let R : ℕ → Type 0 = λ l. Q l (root ∷ []) in
    record {
      kept = kept_start old;
      places = subst P (sym is) (all_of (IsPlace geo) (root ∷ []) (place, tt));
      same = subst (Q level) (sym is) (subst R (sym height) (same_self (IsBelow geo old.holds (tree_height (pnode_count geo)) (root ∷ []))));
    }

-- one level down
pub levels_next : (geo : RawGeometry) (old now new : VolumeState) (root : LptPlace) (above level : ℕ) (row all below : List LptPlace) (n : ℕ) → LevelsSoFar geo old now root above row → above ≡ suc level
    → IsOnly (Row (HasNnode geo) no_place now.holds row) all → All (IsPlace geo) all → n ≡ row_len geo level → below ≡ take n all → IsKept old new → LevelsSoFar geo old new root level below
levels_next geo old now new root above level row all below n before up only places len is kept =
    let top : List Lprop → Type 0 = IsBelow geo old.holds (tree_height (pnode_count geo)) (root ∷ []) in
    let P : ℕ → Type 0 = λ l. SameFor top (IsBelow geo old.holds l row) in
    let Q : List LptPlace → Type 0 = λ r. SameFor top (IsBelow geo old.holds level r) in
    let R : List LptPlace → Type 0 = λ r. All (IsPlace geo) r in
    let taken : below ≡ take (row_len geo level) all = is ∙ ap (λ (m : ℕ). take m all) len in
    let here = only_moved (HasNnode geo) no_place old.holds now.holds row all before.kept.keeps.holds only in
    record {
      kept = kept;
      places = subst R (sym is) (all_take (IsPlace geo) n all places);
      same = subst Q (sym taken) (same_then top (IsBelow geo old.holds (suc level) row) (IsBelow geo old.holds level (take (row_len geo level) all)) (subst P up before.same) (level_down geo old.holds level row all here));
    }

-- a level that isn't there
pub levels_fail : (geo : RawGeometry) (old now : VolumeState) (root : LptPlace) (above level : ℕ) (row : List LptPlace) → LevelsSoFar geo old now root above row → above ≡ suc level
    → HasNone (Row (HasNnode geo) no_place now.holds row) → HasNone (IsBelow geo old.holds (tree_height (pnode_count geo)) (root ∷ []))
levels_fail geo old now root above level row before up fails =
    let top : List Lprop → Type 0 = IsBelow geo old.holds (tree_height (pnode_count geo)) (root ∷ []) in
    let P : ℕ → Type 0 = λ l. SameFor top (IsBelow geo old.holds l row) in
    same_fails top (IsBelow geo old.holds (suc level) row) (subst P up before.same) (level_fails geo old.holds level row (none_moved (HasNnode geo) no_place old.holds now.holds row before.kept.keeps.holds fails))
