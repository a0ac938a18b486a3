-- An index of dirty nodes alone stands on each volume, and a change leaves it so.
use Rattle.std.proofs.Common.{◌≡◌, ℕ, List, [], ◌∷◌, refl, sym, subst, inl}
use Rattle.std.specs.Prelude.{None, Some}
use Rattle.index_media.specs.KeyedRow.{KeyedRow, no_more, leaf_in, node_in}
use Rattle.index_cache.specs.Paged.{DoesIndexStand, keyed_tree_of}
use Rattle.index_cache.specs.declared.paged.PagedIndex.{PagedIndex}
use Rattle.index_commit.specs.Standing.{AreOutside}
use Rattle.node_cache.specs.OnVolume.{IsOnVolume}
use Rattle.node_table.specs.StandingRows.{standing_row}
use Rattle.ubi_volume.specs.Volume.{VolumeState}
use Rattle.benchmarks.specs.Dirty.{AreAllDirty}

row_stands : (state : VolumeState) (row : KeyedRow) → ((lebs : List ℕ) → AreOutside state.holds lebs row) → IsOnVolume state row
row_stands state no_more h = tt
row_stands state (leaf_in x rest) h = row_stands state rest h
row_stands state (node_in key None children rest) h = (tt, row_stands state children (λ lebs. (h lebs).1), row_stands state rest (λ lebs. (h lebs).2))
row_stands state (node_in key (Some place) children rest) h = absurd ((h (place.lnum ∷ [])).0.holds (inl refl))

pub all_stand : (state : VolumeState) (index : PagedIndex) → AreAllDirty index → IsOnVolume state (keyed_tree_of index)
all_stand state index dirty = row_stands state (keyed_tree_of index) (dirty state.holds)

pub index_stands : (state : VolumeState) (index : PagedIndex) → AreAllDirty index → DoesIndexStand state index
index_stands state index dirty = standing_row state index.table.nodes.items index.root (all_stand state index dirty)

pub same_dirty : (old new : PagedIndex) → keyed_tree_of new ≡ keyed_tree_of old → AreAllDirty old → AreAllDirty new
same_dirty old new same dirty contents lebs = let O : KeyedRow → Type 0 = λ row. AreOutside contents lebs row in subst O (sym same) (dirty contents lebs)

pub changed_dirty : {made : KeyedRow} (old new : PagedIndex) → keyed_tree_of new ≡ made → ((contents : ℕ → List ℕ) (lebs : List ℕ) → AreOutside contents lebs (keyed_tree_of old) → AreOutside contents lebs made)
    → AreAllDirty old → AreAllDirty new
changed_dirty old new is keeps dirty contents lebs = let O : KeyedRow → Type 0 = λ row. AreOutside contents lebs row in subst O (sym is) (keeps contents lebs (dirty contents lebs))
