-- Which field of a geometry is the first out of its range.
use Rattle.std.specs.Prelude.{◌≡◌, ℕ, ⊤, List, [], ◌∷◌, ◌⊎◌}
use Rattle.ubifs_base.specs.declared.raw_geometry.RawGeometry.{RawGeometry}
use Rattle.ubifs_base.specs.declared.raw_geometry.GeomField.{GeomField}
use Rattle.ubifs_base.specs.declared.raw_geometry.GeomField.TheVariants.{LebSize, MinIo, LogLebs, LptLebs, OrphLebs, LebCnt, MaxLebCnt, Fanout, LsaveCnt}
use Rattle.ubifs_base.specs.declared.raw_geometry.GeomFault.{GeomFault}
use Rattle.ubifs_base.specs.Geometry.{IsMinIo, IsLebSize, IsLogLebs, IsLptLebs, IsOrphLebs, IsLebCnt, IsMaxLebCnt, FitsOneLeb, IsFanout}

-- the field is in its range; any lsave_cnt is, and too many LEBs are those over which the properties tree doesn't fit one LEB too
abbrev pub InRange : RawGeometry → GeomField → Type 0
InRange geo MinIo = IsMinIo geo
InRange geo LebSize = IsLebSize geo
InRange geo LogLebs = IsLogLebs geo
InRange geo LptLebs = IsLptLebs geo
InRange geo OrphLebs = IsOrphLebs geo
InRange geo LebCnt = IsLebCnt geo
InRange geo MaxLebCnt = IsMaxLebCnt geo × FitsOneLeb geo
InRange geo Fanout = IsFanout geo
InRange geo LsaveCnt = ⊤

-- what the field says
abbrev pub value_of : RawGeometry → GeomField → ℕ
value_of geo MinIo = geo.min_io
value_of geo LebSize = geo.leb_size
value_of geo LogLebs = geo.log_lebs
value_of geo LptLebs = geo.lpt_lebs
value_of geo OrphLebs = geo.orph_lebs
value_of geo LebCnt = geo.leb_cnt
value_of geo MaxLebCnt = geo.max_leb_cnt
value_of geo Fanout = geo.fanout
value_of geo LsaveCnt = geo.lsave_cnt

-- the fields in the order in which they are tested
abbrev pub tested_fields : List GeomField
tested_fields = MinIo ∷ LebSize ∷ LogLebs ∷ LptLebs ∷ OrphLebs ∷ LebCnt ∷ MaxLebCnt ∷ Fanout ∷ []

-- the fault names the first of these fields that is out of its range, and what it says
abbrev pub IsFirstOut : RawGeometry → List GeomField → GeomFault → Type 0
IsFirstOut geo [] fault = ⊥
IsFirstOut geo (field ∷ fields) fault =
    (¬ InRange geo field × (fault ≡ record { field = field; value = value_of geo field })) ⊎ (InRange geo field × IsFirstOut geo fields fault)
