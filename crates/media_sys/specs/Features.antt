-- What a superblock says of the volume's geometry, and which features it needs.
use Rattle.std.specs.Prelude.{ℕ, ◌==◌, ◌&&◌, ◌||◌, not, if◌then◌else◌, bit_and, Bool, List, [], ◌∷◌, Option, Some, None}
use Rattle.ubifs_base.specs.declared.raw_geometry.RawGeometry.{RawGeometry}
use Rattle.media_sys.specs.declared.feature.Feature.{Feature}
use Rattle.media_sys.specs.declared.feature.Feature.TheVariants.{KeyHash, KeyFmt, Version, Heads, DoubleHash, Encryption, Authentication, Flags, BigModel}
use Rattle.media_sys.specs.declared.super_node.Super.{Super}

-- whether any of these flags is set
abbrev pub has_flags : Super → ℕ → Bool
has_flags node flags = not (bit_and node.flags flags == 0)

-- the geometry of the volume, not tested
abbrev pub geometry_of : Super → RawGeometry
geometry_of node = record {
  leb_size = node.leb_size;
  min_io = node.min_io_size;
  log_lebs = node.log_lebs;
  lpt_lebs = node.lpt_lebs;
  orph_lebs = node.orph_lebs;
  leb_cnt = node.leb_cnt;
  max_leb_cnt = node.max_leb_cnt;
  fanout = node.fanout;
  lsave_cnt = node.lsave_cnt;
  big = has_flags node 0x02;
}

-- whether the format's version is known, and the one with which the volume may be read too
abbrev pub is_known_version : Super → Bool
is_known_version node = (node.fmt_version == 4 || node.fmt_version == 5) && node.ro_compat_version == 0

-- where each feature applies, in the order in which they are tested
abbrev pub features_of : Super → List (Bool × Feature)
features_of node =
    (not (node.key_hash == 0), KeyHash)
    ∷ (not (node.key_fmt == 0), KeyFmt)
    ∷ (not (is_known_version node), Version)
    ∷ (not (node.jhead_cnt == 1), Heads)
    ∷ (has_flags node 0x08, DoubleHash)
    ∷ (has_flags node 0x10, Encryption)
    ∷ (has_flags node 0x20, Authentication)
    ∷ (has_flags node 0xFFFFFFC1, Flags)
    ∷ (has_flags node 0x02, BigModel)
    ∷ []

-- the first that applies
abbrev pub first_of : List (Bool × Feature) → Option Feature
first_of [] = None
first_of (line ∷ rest) = if line.0 then Some line.1 else first_of rest
