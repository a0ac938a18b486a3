-- What breaks the rule on the index, and where.
use Rattle.std.specs.Prelude.{◌≡◌, ◌≢◌, ◌⊎◌, ℕ, zero, suc, ◌+◌, ◌-◌, ◌*◌, ◌^◌, ◌<◌, ◌≤◌, ◌==◌, ◌||◌, nat_lt, not, Bool, false, if◌then◌else◌, List, [], ◌∷◌, ◌++◌, Option, Some, None, length, take, drop}
use Rattle.std.specs.List.{find}
use Rattle.std.specs.Option.{option_map, option_map_or}
use Rattle.ubifs_base.specs.Key.{key_words}
use Rattle.ubifs_base.specs.declared.key.Key.{Key}
use Rattle.ubifs_base.specs.declared.key.Key.TheVariants.{Ino}
use Rattle.ubifs_base.specs.declared.raw_geometry.RawGeometry.{RawGeometry}
use Rattle.media_lpt.specs.declared.lprop.Lprop.{Lprop}
use Rattle.media_sys.specs.Index.{Index}
use Rattle.media_sys.specs.SystemNode.{IsSystemNode, index}
use Rattle.media_sys.specs.declared.branch.Branch.{Branch}
use Rattle.media_sys.specs.declared.master.Master.{Master}
use Rattle.index_tree.specs.Order.{key_rank}
use Rattle.index_media.specs.Stored.{IsIndexNodeAt}
use Rattle.sound_image.specs.Index.{root_branch}
use Rattle.sound_image.specs.Properties.{is_marked_index}
use Rattle.sound_image.specs.Wrong.{Misfit, Wrong, differs, type_byte}

-- Where a node of the index has to stand: a branch leads there, with the key that bounds its keys below; and the level that it has to have
-- and the key that bounds its keys above, which the root doesn't have.
pub record NodeWanted : Type 0 where
  pub branch : Branch
  pub level : Option ℕ
  pub most : Option Key

-- the root, by the master's address
abbrev pub root_wanted : Master → NodeWanted
root_wanted master = record { branch = root_branch master (Ino 0); level = None; most = None }

-- a key as a number, its first word before its second
abbrev pub key_value : Key → ℕ
key_value key = (key_words key).0 * 2 ^ 32 + (key_words key).1

-- whether a key is below the branch's, or above the one that bounds it
abbrev pub is_below : NodeWanted → Key → Bool
is_below wanted key = nat_lt (key_rank key) (key_rank wanted.branch.key)

abbrev pub is_above : NodeWanted → Key → Bool
is_above wanted key = option_map_or (λ most. nat_lt (key_rank most) (key_rank key)) wanted.most false

-- whether a node hasn't the level that it has to have
abbrev pub is_off_level : NodeWanted → Index → Bool
is_off_level wanted said = option_map_or (λ level. not (said.level == level)) wanted.level false

-- whether a branch has a key that is out of bounds
abbrev pub is_out : NodeWanted → Branch → Bool
is_out wanted branch = is_below wanted branch.key || is_above wanted branch.key

-- the limit that a key passes, and the key
abbrev pub key_misfit : NodeWanted → Key → Misfit
key_misfit wanted key = if is_below wanted key then differs (key_value wanted.branch.key) (key_value key) else differs (option_map_or key_value wanted.most 0) (key_value key)

-- What is wrong with a node that stands there, first: it has more children than the fanout, its LEB isn't marked as the index's,
-- it has another level, or a child has a key out of its bounds.
abbrev pub index_misfit : RawGeometry → List Lprop → NodeWanted → Index → Option Misfit
index_misfit geo props wanted said =
    if nat_lt geo.fanout (length said.branches) then Some (differs geo.fanout (length said.branches))
    else if not (is_marked_index geo props wanted.branch.lnum) then Some (differs 1 0)
    else if is_off_level wanted said then Some (differs (option_map_or (λ (level : ℕ). level) wanted.level 0) said.level)
    else option_map (λ (branch : Branch). key_misfit wanted branch.key) (find (is_out wanted) said.branches)

-- the key that bounds those below a branch: the next branch's, or that of its own node
abbrev pub most_below : List Branch → Option Key → Option Key
most_below [] most = most
most_below (next ∷ behind) most = Some next.key

-- A node is wanted here: the root, or so far below it a child of a node with which nothing is wrong.
abbrev pub IsWanted : (ℕ → List ℕ) → RawGeometry → Master → List Lprop → ℕ → NodeWanted → Type 0
IsWanted contents geo master props zero wanted = wanted ≡ root_wanted master
IsWanted contents geo master props (suc depth) wanted =
    (above : NodeWanted) × (said : Index) × IsWanted contents geo master props depth above
    × IsIndexNodeAt contents above.branch said × (index_misfit geo props above said ≡ None) × (0 < said.level)
    × (before : List Branch) × (behind : List Branch) × (said.branches ≡ before ++ (wanted.branch ∷ behind))
    × (wanted.level ≡ Some (said.level - 1)) × (wanted.most ≡ most_below behind above.most)

-- an intact index node of this length stands where a branch leads
pub record HasIndexNodeOf (contents : ℕ → List ℕ) (branch : Branch) (len : ℕ) : Type 0 where
  pub sqnum : ℕ
  pub group : ℕ
  pub said : Index
  pub room : branch.offs + len ≤ length (contents branch.lnum)
  pub is : IsSystemNode (take len (drop branch.offs (contents branch.lnum))) sqnum group (index said)

-- no intact index node stands there, or one of another length than the branch says
abbrev pub LacksIndexNode : (ℕ → List ℕ) → Branch → Misfit → Type 0
LacksIndexNode contents branch misfit =
    (((len : ℕ) → HasIndexNodeOf contents branch len → ⊥) × (misfit ≡ differs 9 (type_byte (contents branch.lnum) branch.offs)))
    ⊎ ((len : ℕ) × HasIndexNodeOf contents branch len × (len ≢ branch.len) × (misfit ≡ differs branch.len len))

-- Where a node of the index is wanted, none stands that is intact and as long as its branch says, or something is wrong with it.
pub record IsWrongIndex (contents : ℕ → List ℕ) (geo : RawGeometry) (master : Master) (props : List Lprop) (at : Wrong) : Type 0 where
  pub depth : ℕ
  pub node : NodeWanted
  pub wanted : IsWanted contents geo master props depth node
  pub lnum : at.lnum ≡ node.branch.lnum
  pub offs : at.offs ≡ node.branch.offs
  pub wrong : LacksIndexNode contents node.branch at.misfit
      ⊎ ((said : Index) × IsIndexNodeAt contents node.branch said × (index_misfit geo props node said ≡ Some at.misfit))
