-- The walk over an index: the nodes that wait, those that were taken, and what is wrong first.
use Rattle.std.specs.Prelude.{◌≡◌, ◌⊎◌, ℕ, ◌+◌, ◌-◌, ◌*◌, ◌^◌, ◌<◌, ◌≤◌, ◌==◌, is_some, if◌then◌else◌, List, [], ◌∷◌, ◌++◌, Option, Some, None, IfSome, Result, length, map, reverse, take, drop}
use Rattle.ubifs_base.specs.Areas.{main_lebs}
use Rattle.ubifs_base.specs.Key.{IsKey}
use Rattle.ubifs_base.specs.declared.key.Key.{Key}
use Rattle.ubifs_base.specs.declared.raw_geometry.RawGeometry.{RawGeometry}
use Rattle.ubi_volume.specs.Faults.{HasAreaCause, StaysSureArea}
use Rattle.ubi_volume.specs.Volume.{VolumeState, Keeps, SameShape}
use Rattle.ubi_volume.specs.declared.fault.AreaFault.{AreaFault}
use Rattle.media_lpt.specs.declared.lprop.Lprop.{Lprop}
use Rattle.media_sys.specs.Index.{Index}
use Rattle.media_sys.specs.SystemNode.{IsSystemNode, index}
use Rattle.media_sys.specs.declared.branch.Branch.{Branch}
use Rattle.media_sys.specs.declared.master.Master.{Master}
use Rattle.index_tree.specs.declared.leaf.Leaf.{Leaf}
use Rattle.index_media.specs.PlacedRow.{leaf_of, node_end}
use Rattle.index_media.specs.Stored.{IsIndexNodeAt}
use Rattle.sound_image.specs.IndexBreaches.{LacksIndexNode, NodeWanted, index_misfit, most_below, root_wanted}
use Rattle.sound_image.specs.Wrong.{Misfit, Wrong, differs}
use Rattle.image_check.specs.WrongValues.{sooner_of, wrong_at}
use Rattle.image_check.specs.declared.wrong_value.WrongValue.{WrongValue}
use Rattle.index_check.specs.declared.value_misfit.ValueMisfit.{ValueMisfit}
use Rattle.index_check.specs.declared.index_walk.IndexWalk.{IndexWalk}
use Rattle.index_check.specs.declared.wanted.Wanted.{Wanted}

-- a call that only reads a volume
pub record OnlyReads {T : Type 0} (old new : VolumeState) (result : Result T AreaFault) : Type 0 where
  pub keeps : Keeps old new
  pub shape : SameShape old new
  pub cause : HasAreaCause old.faults new.faults result
  pub sure : StaysSureArea old new result

-- what is wrong with a node
abbrev pub told_misfit : ValueMisfit → Misfit
told_misfit misfit = differs misfit.wanted misfit.found

-- a node that is wanted
abbrev pub wanted_of : Wanted → NodeWanted
wanted_of wanted = record { branch = wanted.branch; level = wanted.level; most = wanted.most }

-- the keys that bound it are keys
pub record HasKeys (wanted : Wanted) : Type 0 where
  pub least : IsKey wanted.branch.key
  pub most : IfSome wanted.most IsKey

-- an intact index node of this length stands at an offset of a LEB
pub record IsIndexNodeIn (leb : List ℕ) (offs len : ℕ) : Type 0 where
  pub sqnum : ℕ
  pub group : ℕ
  pub said : Index
  pub room : offs + len ≤ length leb
  pub is : IsSystemNode (take len (drop offs leb)) sqnum group (index said)

-- where a node is wanted no intact one of its length stands, or something is wrong with it
pub record IsWrongWanted (contents : ℕ → List ℕ) (geo : RawGeometry) (props : List Lprop) (node : NodeWanted) (at : Wrong) : Type 0 where
  pub lnum : at.lnum ≡ node.branch.lnum
  pub offs : at.offs ≡ node.branch.offs
  pub wrong : LacksIndexNode contents node.branch at.misfit
      ⊎ ((said : Index) × IsIndexNodeAt contents node.branch said × (index_misfit geo props node said ≡ Some at.misfit))

-- the nodes that are wanted below one with these branches, from left to right
abbrev pub wanted_below : ℕ → Option Key → List Branch → List NodeWanted
wanted_below level most [] = []
wanted_below level most (branch ∷ behind) = record { branch = branch; level = Some level; most = most_below behind most } ∷ wanted_below level most behind

-- those that wait, of which the last is the next
abbrev pub waiting_in : List Wanted → List NodeWanted
waiting_in items = map wanted_of (reverse items)

-- the branch by which a node with these branches is told: the root's has its first child's key
abbrev pub told_branch : NodeWanted → List Branch → Branch
told_branch wanted [] = wanted.branch
told_branch wanted (first ∷ behind) = if is_some wanted.level then wanted.branch else record wanted.branch { key = first.key }

-- the leaves below a node, and the nodes that are wanted below it
abbrev pub leaves_below : Index → List Leaf
leaves_below said = if said.level == 0 then map leaf_of said.branches else []

abbrev pub nodes_below : NodeWanted → Index → List NodeWanted
nodes_below wanted said = if said.level == 0 then [] else wanted_below (said.level - 1) wanted.most said.branches

-- a node that says this was taken, and its bytes up to the next multiple of 8
pub record HasTaken (wanted : NodeWanted) (said : Index) (old new : IndexWalk) : Type 0 where
  pub level : said.level < 2 ^ 16
  pub nodes : new.nodes.items ≡ old.nodes.items ++ told_branch wanted said.branches ∷ []
  pub leaves : new.leaves.items ≡ old.leaves.items ++ leaves_below said
  pub waiting : waiting_in new.waiting.items ≡ nodes_below wanted said ++ waiting_in old.waiting.items
  pub first : new.first ≡ old.first
  pub room : new.room + node_end wanted.branch.len ≡ old.room

-- something is wrong at a node, which is kept if it comes first
pub record HasPassed (node : WrongValue) (old new : IndexWalk) : Type 0 where
  pub nodes : new.nodes.items ≡ old.nodes.items
  pub leaves : new.leaves.items ≡ old.leaves.items
  pub waiting : new.waiting.items ≡ old.waiting.items
  pub first : new.first ≡ sooner_of old.first (Some node)
  pub room : new.room ≡ old.room

-- where a node is wanted one stands with which nothing is wrong, and it was taken; or something is wrong there
abbrev pub IsIndexStep : (ℕ → List ℕ) → RawGeometry → List Lprop → NodeWanted → IndexWalk → IndexWalk → Type 0
IsIndexStep contents geo props wanted old new =
    ((said : Index) × IsIndexNodeAt contents wanted.branch said × (index_misfit geo props wanted said ≡ None) × HasTaken wanted said old new)
    ⊎ ((node : WrongValue) × IsWrongWanted contents geo props wanted (wrong_at node) × HasPassed node old new)

-- nothing was seen, the root waits, and nodes may take as many bytes as the main LEBs have
pub record BeginsAtRoot (geo : RawGeometry) (master : Master) (walk : IndexWalk) : Type 0 where
  pub nodes : walk.nodes.items ≡ []
  pub leaves : walk.leaves.items ≡ []
  pub waiting : waiting_in walk.waiting.items ≡ root_wanted master ∷ []
  pub first : walk.first ≡ None
  pub room : walk.room ≡ main_lebs geo * geo.leb_size
