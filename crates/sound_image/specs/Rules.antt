-- The rules by name, and their order.
use Rattle.std.specs.Prelude.{ℕ, ◌<◌, List}
use Rattle.bud_log.specs.Buds.{buds_of}
use Rattle.bud_log.specs.Log.{references_of}
use Rattle.leaf_map.specs.Recovered.{tree_found}
use Rattle.sound_image.specs.Buds.{HasBuds}
use Rattle.sound_image.specs.Image.{Image, parts_of}
use Rattle.sound_image.specs.Index.{HasIndex}
use Rattle.sound_image.specs.Leaves.{HasLeaves}
use Rattle.sound_image.specs.Log.{HasLog}
use Rattle.sound_image.specs.Masters.{HasMasters}
use Rattle.sound_image.specs.OrphanLists.{HasOrphanLists}
use Rattle.sound_image.specs.Properties.{HasProperties}
use Rattle.sound_image.specs.Space.{HasErasedEnds, HasSums}
use Rattle.sound_image.specs.Superblock.{HasSuperblock}
use Rattle.sound_image.specs.Tree.{HasLinks, HasTree}
use Rattle.sound_image.specs.declared.rule.Rule.{Rule}
use Rattle.sound_image.specs.declared.rule.Rule.TheVariants.{Superblock, Masters, Properties, Index, Log, Buds, Leaves, Sums, Ends, Orphans, Tree, Links}

-- the number of a rule, by which a check names it
abbrev pub rule_number : Rule → ℕ
rule_number Superblock = 1
rule_number Masters = 2
rule_number Properties = 3
rule_number Index = 4
rule_number Log = 5
rule_number Buds = 6
rule_number Leaves = 7
rule_number Sums = 8
rule_number Ends = 9
rule_number Orphans = 10
rule_number Tree = 11
rule_number Links = 12

-- the contents meet a rule, if they say this
abbrev pub MeetsRule : (ℕ → List ℕ) → Image → Rule → Type 0
MeetsRule contents image Superblock = HasSuperblock contents image.geo
MeetsRule contents image Masters = HasMasters contents image.geo image.latest
MeetsRule contents image Properties = HasProperties contents image.geo image.latest.master image.props
MeetsRule contents image Index = HasIndex contents image.geo image.latest.master image.props image.placed
MeetsRule contents image Log = HasLog contents image.geo image.latest.master image.log
MeetsRule contents image Buds = HasBuds contents (buds_of (references_of image.log)) image.buds
MeetsRule contents image Leaves = HasLeaves contents image
MeetsRule contents image Sums = HasSums image.geo image.props image.placed
MeetsRule contents image Ends = HasErasedEnds contents image.geo image.latest.master image.props image.log
MeetsRule contents image Orphans = HasOrphanLists contents image.geo
MeetsRule contents image Tree = HasTree contents (parts_of image)
MeetsRule contents image Links = HasLinks (tree_found (parts_of image))

-- and all rules before it
abbrev pub MeetsBefore : (ℕ → List ℕ) → Image → Rule → Type 0
MeetsBefore contents image rule = (other : Rule) → rule_number other < rule_number rule → MeetsRule contents image other
