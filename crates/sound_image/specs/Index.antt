-- The rule on the index (`dbg_check_tnc` and `dbg_walk_index` of Linux fs/ubifs).
use Rattle.std.specs.Prelude.{◌≡◌, ℕ, IsTrue, List, [], ◌∷◌, All, map, take}
use Rattle.ubifs_base.specs.declared.key.Key.{Key}
use Rattle.ubifs_base.specs.declared.raw_geometry.RawGeometry.{RawGeometry}
use Rattle.media_lpt.specs.declared.lprop.Lprop.{Lprop}
use Rattle.media_sys.specs.declared.branch.Branch.{Branch}
use Rattle.media_sys.specs.declared.master.Master.{Master}
use Rattle.index_media.specs.PlacedRow.{PlacedRow, branches_of, lebs_of}
use Rattle.index_media.specs.Stored.{IsStoredIndex}
use Rattle.sound_image.specs.Properties.{is_marked_index}

-- the branch to the root by the master's address, which names no key
abbrev pub root_branch : Master → Key → Branch
root_branch master key = record { lnum = master.root_lnum; offs = master.root_offs; len = master.root_len; key = key }

-- From the master's root on, each index node is intact where its branch leads, one level below its parent, with 1 to fanout
-- children, whose keys are at least its branch's and at most the next branch's. Each stands in a LEB that is marked as the
-- index's. The root has the key of its first child.
pub record HasIndex (contents : ℕ → List ℕ) (geo : RawGeometry) (master : Master) (props : List Lprop) (placed : PlacedRow) : Type 0 where
  pub key : Key
  pub index : IsStoredIndex contents geo.fanout (root_branch master key) placed
  pub first : map (λ branch. branch.key) (take 1 (branches_of index.children)) ≡ key ∷ []
  pub marked : All (λ lnum. IsTrue (is_marked_index geo props lnum)) (lebs_of placed)
