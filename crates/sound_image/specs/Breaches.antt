-- What breaks a rule, where, and with which values; and which breach is the first.
use Rattle.std.specs.Prelude.{◌≡◌, ◌≢◌, ◌⊎◌, ℕ, ◌+◌, ◌-◌, ◌<◌, ◌≤◌, ◌==◌, ◌&&◌, ◌||◌, not, IsTrue, IsFalse, Bool, List, [], ◌∷◌, ◌++◌, Option, Some, None, get_or, length, map}
use Rattle.std.specs.List.{list_any}
use Rattle.ubifs_base.specs.Areas.{orph_first, main_first}
use Rattle.ubifs_base.specs.GeometryFaults.{IsFirstOut, tested_fields}
use Rattle.ubifs_base.specs.Key.{key_words}
use Rattle.ubifs_base.specs.NodeType.{type_number}
use Rattle.ubifs_base.specs.declared.node_type.NodeType.TheVariants as types
use Rattle.ubifs_base.specs.declared.raw_geometry.GeomFault.{GeomFault}
use Rattle.ubifs_base.specs.declared.raw_geometry.GeomField.{GeomField}
use Rattle.ubifs_base.specs.declared.raw_geometry.GeomField.TheVariants as geometry
use Rattle.ubifs_base.specs.declared.raw_geometry.RawGeometry.{RawGeometry}
use Rattle.media_lpt.specs.declared.lprop.Lprop.{Lprop}
use Rattle.media_sys.specs.Features.{features_of, first_of, geometry_of}
use Rattle.media_sys.specs.declared.master.Master.{Master}
use Rattle.media_sys.specs.declared.feature.Feature.{Feature}
use Rattle.media_sys.specs.declared.super_field.SuperField.{SuperField}
use Rattle.media_sys.specs.declared.super_field.SuperField.TheVariants as superblock
use Rattle.media_sys.specs.declared.super_node.Super.{Super}
use Rattle.leb_scan.specs.Text.{IsText, nodes_of}
use Rattle.leb_scan.specs.declared.found.Found.{Found}
use Rattle.leb_scan.specs.declared.item.Item.{Item}
use Rattle.leb_scan.specs.declared.tail.Tail.{Tail}
use Rattle.leb_scan.specs.declared.tail.Tail.TheVariants.{Torn}
use Rattle.small_areas.specs.Addresses.{addresses_of, first_past}
use Rattle.small_areas.specs.Masters.{HasNoMaster, IsLatest}
use Rattle.small_areas.specs.Orphans.{AreOrphans}
use Rattle.small_areas.specs.declared.placed_master.PlacedMaster.{PlacedMaster}
use Rattle.bud_log.specs.Buds.{buds_of}
use Rattle.bud_log.specs.Log.{references_of}
use Rattle.bud_log.specs.LogText.{LogText}
use Rattle.bud_log.specs.declared.head_at.HeadAt.{HeadAt}
use Rattle.index_tree.specs.Removal.{holds}
use Rattle.index_tree.specs.Shape.{contents as leaves_in}
use Rattle.index_tree.specs.declared.leaf.Leaf.{Leaf}
use Rattle.index_media.specs.PlacedRow.{PlacedRow, plain}
use Rattle.group_nodes.specs.Nodes.{change_of}
use Rattle.fs_model.specs.declared.change.Change.{Change}
use Rattle.fs_model.specs.declared.change.Change.TheVariants.{SetEntry, SetInode}
use Rattle.fs_model.specs.declared.inode.Inode.{Inode}
use Rattle.fs_model.specs.declared.inode.Kind.TheVariants.{Dir}
use Rattle.fs_model.specs.Files.{Tree, inode_at}
use Rattle.fs_model.specs.Proper.{has_kind, names_of}
use Rattle.leaf_map.specs.Kept.{Kept, Placed, node_key, shown_by}
use Rattle.leaf_map.specs.LeafMap.{shows_same}
use Rattle.leaf_map.specs.Lost.{empty_names}
use Rattle.leaf_map.specs.Parts.{Committed, Parts}
use Rattle.leaf_map.specs.Recovered.{leaves_found, recovered_of, tree_found}
use Rattle.sound_image.specs.Buds.{MayStandInBud}
use Rattle.sound_image.specs.Frames.{NeedsFeature}
use Rattle.sound_image.specs.Image.{Image, parts_of}
use Rattle.sound_image.specs.IndexBreaches.{IsWrongIndex}
use Rattle.sound_image.specs.LeafBreaches.{IsWrongLeaf}
use Rattle.sound_image.specs.Leaves.{AreCommitted}
use Rattle.sound_image.specs.LogBreaches.{IsBrokenLog}
use Rattle.sound_image.specs.Properties.{prop_of}
use Rattle.sound_image.specs.PropertyBreaches.{IsWrongProperty}
use Rattle.sound_image.specs.Rules.{MeetsBefore}
use Rattle.sound_image.specs.Space.{committed_bytes}
use Rattle.sound_image.specs.Superblock.{BeginsWithSuper, HasSuperblock}
use Rattle.sound_image.specs.Tree.{IsCopy, ShowsItsNode, has_its_links, is_in_place, is_named_well}
use Rattle.sound_image.specs.Wrong.{IsFirstWrong, IsOneOf, Misfit, Wrong, differs, needs, type_byte}
use Rattle.sound_image.specs.declared.breach.Breach.{Breach}
use Rattle.sound_image.specs.declared.breach.Breach.TheVariants.{Super as InSuper, Feature as NeedsOne, NoMaster, Damaged}
use Rattle.sound_image.specs.declared.rule.Rule.{Rule}
use Rattle.sound_image.specs.declared.rule.Rule.TheVariants as rules

-- the latest master has an address that passes its limit, and this is the first
pub record IsMisplaced (contents : ℕ → List ℕ) (geo : RawGeometry) (at : Wrong) : Type 0 where
  pub latest : PlacedMaster
  pub is_latest : IsLatest (contents 1) (contents 2) latest
  pub wanted : ℕ
  pub found : ℕ
  pub past : first_past (addresses_of geo latest.master) ≡ Some (record { wanted = wanted; found = found })
  pub is : at ≡ record { lnum = latest.lnum; offs = latest.offs; misfit = differs wanted found }

-- a node of a bud's text may not stand there, or it or the tail needs an unknown feature
pub record IsWrongInBud (contents : ℕ → List ℕ) (bud : HeadAt) (at : Wrong) : Type 0 where
  pub items : List Item
  pub end : ℕ
  pub tail : Tail
  pub is_text : IsText (contents bud.lnum) bud.offs items end tail
  pub lnum : at.lnum ≡ bud.lnum
  pub wrong : ((found : Found) × IsOneOf found (nodes_of items) × (MayStandInBud found.kind → ⊥) × (at.offs ≡ found.offs) × (at.misfit ≡ differs 1 (type_number found.kind)))
      ⊎ ((what : Feature) × NeedsFeature (contents bud.lnum) at.offs what × ((at.offs ≡ end) ⊎ ((found : Found) × IsOneOf found (nodes_of items) × (at.offs ≡ found.offs))) × (at.misfit ≡ needs what))

-- in one of the buds
abbrev pub IsWrongInBuds : (ℕ → List ℕ) → List HeadAt → Wrong → Type 0
IsWrongInBuds contents buds at = (bud : HeadAt) × IsOneOf bud buds × IsWrongInBud contents bud at

-- the free, dirty and committed bytes of a main LEB aren't all its bytes
pub record IsWrongSum (geo : RawGeometry) (props : List Lprop) (placed : PlacedRow) (at : Wrong) : Type 0 where
  pub prop : Lprop
  pub has : prop_of geo props at.lnum ≡ Some prop
  pub start : at.offs ≡ 0
  pub other : prop.free + prop.dirty + committed_bytes placed at.lnum ≢ geo.leb_size
  pub values : at.misfit ≡ differs geo.leb_size (prop.free + prop.dirty + committed_bytes placed at.lnum)

-- where the log names no bud, a byte is written among the free ones at the end of a main LEB
pub record IsWrittenEnd (contents : ℕ → List ℕ) (geo : RawGeometry) (master : Master) (props : List Lprop) (log : List LogText) (at : Wrong) : Type 0 where
  pub no_bud : references_of log ≡ []
  pub prop : Lprop
  pub has : prop_of geo props at.lnum ≡ Some prop
  pub some : 0 < prop.free
  pub not_all : prop.free < geo.leb_size
  pub elsewhere : at.lnum ≢ master.ihead_lnum
  pub behind : geo.leb_size - prop.free ≤ at.offs
  pub byte : get_or (contents at.lnum) at.offs 255 ≢ 255
  pub values : at.misfit ≡ differs 255 (get_or (contents at.lnum) at.offs 255)

-- in a LEB of the orphan area a node stands that is neither an orphan node nor padding, or the text has a torn tail
pub record IsNoOrphan (contents : ℕ → List ℕ) (geo : RawGeometry) (at : Wrong) : Type 0 where
  pub low : orph_first geo ≤ at.lnum
  pub high : at.lnum < main_first geo
  pub items : List Item
  pub end : ℕ
  pub tail : Tail
  pub is_text : IsText (contents at.lnum) 0 items end tail
  pub wrong : ((found : Found) × IsOneOf found (nodes_of items) × (found.kind ≢ types.Orphans) × (found.kind ≢ types.Padding) × (at.offs ≡ found.offs) × (at.misfit ≡ differs 11 (type_number found.kind)))
      ⊎ ((tail ≡ Torn) × (at.offs ≡ end) × (at.misfit ≡ differs 11 (type_byte (contents at.lnum) end)))

-- this is wrong at the node of a recovered leaf
abbrev pub IsAtNode : Kept → Misfit → Wrong → Type 0
IsAtNode x misfit at = at ≡ record { lnum = x.leaf.lnum; offs = x.leaf.offs; misfit = misfit }

-- the inode number by which a leaf is named: that for which an entry stands, and else the one in its key
abbrev pub inode_number_of : Kept → ℕ
inode_number_of x = by (shown_by x)
  where
    by : Option Change → ℕ
    by (Some (SetEntry e)) = e.ino
    by other = (key_words x.leaf.key).0

-- whether a leaf shows a name or a directory that is out of its place, or inode 1, which is no directory
abbrev pub is_misfit : Tree → Option Change → Bool
is_misfit tree (Some (SetInode ino inode)) = not (is_in_place tree (ino, inode)) || ((ino == 1) && not (has_kind tree 1 Dir))
is_misfit tree other = not (is_named_well tree other)

-- what a node of the journal says is no change, or a node of the collector's is no copy; the inode number of its key is wanted
abbrev pub IsWrongNode : Parts → Wrong → Type 0
IsWrongNode parts at =
    (x : Placed) × ((IsOneOf x parts.nodes × (change_of x.node ≡ None)) ⊎ (IsOneOf x parts.copies × (IsCopy parts x → ⊥)))
    × (at ≡ record { lnum = x.lnum; offs = x.offs; misfit = differs (key_words (node_key x.node)).0 0 })

-- one of these leaves, which show this tree, shows what is out of its place, or what one before it shows
abbrev pub IsOutOfPlace : List Kept → Tree → Kept → Type 0
IsOutOfPlace kept tree x =
    IsTrue (is_misfit tree (shown_by x))
    ⊎ ((before : List Kept) × (behind : List Kept) × (kept ≡ before ++ (x ∷ behind)) × IsTrue (list_any (λ y. shows_same (shown_by y) (shown_by x)) before))

-- a recovered leaf doesn't show what stands at its place, or is out of its place
abbrev pub IsWrongThere : (ℕ → List ℕ) → Parts → Kept → Type 0
IsWrongThere contents parts x = (ShowsItsNode contents x → ⊥) ⊎ IsOutOfPlace (recovered_of parts).kept (tree_found parts) x

-- a leaf that is found shows what one before it shows
abbrev pub IsRepeated : Parts → Wrong → Type 0
IsRepeated parts at =
    (x : Kept) × (before : List Kept) × (behind : List Kept) × (leaves_found parts ≡ before ++ (x ∷ behind)) × IsTrue (list_any (λ y. shows_same (shown_by y) (shown_by x)) before) × IsAtNode x (differs (inode_number_of x) 0) at

-- a committed leaf has the key and the place of one before it; the number in its key is wanted
abbrev pub IsCommittedTwice : Parts → Wrong → Type 0
IsCommittedTwice parts at =
    (leaf : Leaf) × (before : List Leaf) × (behind : List Leaf) × (map (λ x. x.leaf) parts.committed ≡ before ++ (leaf ∷ behind)) × IsTrue (holds leaf before)
    × (at ≡ record { lnum = leaf.lnum; offs = leaf.offs; misfit = differs (key_words leaf.key).0 0 })

-- A node isn't what it should be, a committed leaf is there twice, a leaf is repeated, a recovered leaf is wrong, a name is one of inode number 0,
-- or there is no inode 1, which is wrong at the root of the index.
abbrev pub IsWrongInTree : (ℕ → List ℕ) → Master → Parts → Wrong → Type 0
IsWrongInTree contents master parts at =
    IsWrongNode parts at
    ⊎ (IsCommittedTwice parts at
    ⊎ (IsRepeated parts at
    ⊎ (((x : Kept) × IsOneOf x (recovered_of parts).kept × IsAtNode x (differs (inode_number_of x) 0) at × IsWrongThere contents parts x)
    ⊎ (((leaf : Leaf) × IsOneOf leaf (empty_names parts) × (at ≡ record { lnum = leaf.lnum; offs = leaf.offs; misfit = differs 0 0 }))
    ⊎ ((inode_at (tree_found parts) 1 ≡ None) × (at ≡ record { lnum = master.root_lnum; offs = master.root_offs; misfit = differs 1 0 }))))))

-- one of these leaves, which show this tree, shows an inode that is no directory and has other links than names, or none
pub record IsWrongLinkOf (kept : List Kept) (tree : Tree) (at : Wrong) : Type 0 where
  pub x : Kept
  pub one : IsOneOf x kept
  pub ino : ℕ
  pub inode : Inode
  pub shows : shown_by x ≡ Some (SetInode ino inode)
  pub other : IsFalse (has_its_links tree (ino, inode))
  pub is : IsAtNode x (differs (length (names_of tree ino)) inode.nlink) at

-- a recovered leaf does
abbrev pub IsWrongLink : Parts → Wrong → Type 0
IsWrongLink parts at = IsWrongLinkOf (recovered_of parts).kept (tree_found parts) at

-- The committed leaves and the orphans are read, and among the leaves after recovery one is wrong first.
pub record IsBrokenLeaf (contents : ℕ → List ℕ) (image : Image) (at : Wrong) : Type 0 where
  pub committed : List Committed
  pub listed : List ℕ
  pub are_committed : AreCommitted contents (leaves_in (plain image.placed)) committed
  pub are_listed : AreOrphans contents (orph_first image.geo) image.geo.orph_lebs listed
  pub first : IsFirstWrong (IsWrongLeaf contents image.geo image.props (parts_of (record image { committed = committed; listed = listed }))) at

-- A rule is broken first here, with what is wrong.
abbrev pub IsBroken : (ℕ → List ℕ) → Image → Rule → Wrong → Type 0
IsBroken contents image rules.Superblock at = ⊥
IsBroken contents image rules.Masters at = IsFirstWrong (IsMisplaced contents image.geo) at
IsBroken contents image rules.Properties at = IsFirstWrong (IsWrongProperty contents image.geo image.latest.master) at
IsBroken contents image rules.Index at = IsFirstWrong (IsWrongIndex contents image.geo image.latest.master image.props) at
IsBroken contents image rules.Log at = IsBrokenLog contents image.geo image.latest.master at
IsBroken contents image rules.Buds at = IsFirstWrong (IsWrongInBuds contents (buds_of (references_of image.log))) at
IsBroken contents image rules.Leaves at = IsBrokenLeaf contents image at
IsBroken contents image rules.Sums at = IsFirstWrong (IsWrongSum image.geo image.props image.placed) at
IsBroken contents image rules.Ends at = IsFirstWrong (IsWrittenEnd contents image.geo image.latest.master image.props image.log) at
IsBroken contents image rules.Orphans at = IsFirstWrong (IsNoOrphan contents image.geo) at
IsBroken contents image rules.Tree at = IsFirstWrong (IsWrongInTree contents image.latest.master (parts_of image)) at
IsBroken contents image rules.Links at = IsFirstWrong (IsWrongLink (parts_of image)) at

-- this rule is the first that is broken: the contents meet all before it
abbrev pub IsFirstBroken : (ℕ → List ℕ) → Rule → Wrong → Type 0
IsFirstBroken contents rule at = (image : Image) × MeetsBefore contents image rule × IsBroken contents image rule at

-- the field of a superblock that is a field of its geometry
abbrev pub super_field_of : GeomField → SuperField
super_field_of geometry.LebSize = superblock.LebSize
super_field_of geometry.MinIo = superblock.MinIo
super_field_of geometry.LogLebs = superblock.LogLebs
super_field_of geometry.LptLebs = superblock.LptLebs
super_field_of geometry.OrphLebs = superblock.OrphLebs
super_field_of geometry.LebCnt = superblock.LebCnt
super_field_of geometry.MaxLebCnt = superblock.MaxLebCnt
super_field_of geometry.Fanout = superblock.Fanout
super_field_of geometry.LsaveCnt = superblock.LsaveCnt

-- LEB 0 begins with no superblock, or with one that needs no unknown feature and whose first field out of its range is this
abbrev pub IsWrongField : List ℕ → SuperField → Type 0
IsWrongField leb field =
    (((node : Super) → BeginsWithSuper leb node → ⊥) × (field ≡ superblock.Node))
    ⊎ ((node : Super) × BeginsWithSuper leb node × (first_of (features_of node) ≡ None)
    × ((out : GeomFault) × IsFirstOut (geometry_of node) tested_fields out × (field ≡ super_field_of out.field)))

-- a superblock needs this feature first, and it is at the start of LEB 0
abbrev pub SuperNeeds : List ℕ → Feature → Wrong → Type 0
SuperNeeds leb what at = (node : Super) × BeginsWithSuper leb node × (first_of (features_of node) ≡ Some what) × (at ≡ record { lnum = 0; offs = 0; misfit = needs what })

-- What is wrong with contents first, in the order of the rules: the superblock, that there is no master, or another rule.
abbrev pub IsFirstBreach : (ℕ → List ℕ) → Breach → Type 0
IsFirstBreach contents (InSuper field) = IsWrongField (contents 0) field
IsFirstBreach contents (NeedsOne what lnum offs) = by (record { lnum = lnum; offs = offs; misfit = needs what })
  where
    by : Wrong → Type 0
    by at = SuperNeeds (contents 0) what at ⊎ (IsFirstBroken contents rules.Buds at ⊎ IsFirstBroken contents rules.Leaves at)
IsFirstBreach contents NoMaster = (geo : RawGeometry) × HasSuperblock contents geo × HasNoMaster (contents 1) × HasNoMaster (contents 2)
IsFirstBreach contents (Damaged rule lnum offs wanted found) = IsFirstBroken contents rule (record { lnum = lnum; offs = offs; misfit = differs wanted found })
