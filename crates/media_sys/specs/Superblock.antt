-- Superblock nodes: the layout of a volume.
use Rattle.std.specs.Prelude.{◌≡◌, ℕ, ◌==◌, ◌&&◌, Bool, List, [], ◌∷◌, ◌++◌, length, drop, slice_index}
use Rattle.byteorder.specs.Endian.{little_bytes, little_number}
use Rattle.ubifs_base.specs.NodeLaws.{IsBytes}
use Rattle.node_fields.specs.Fields.{Field, number, ignored}
use Rattle.media_sys.specs.declared.super_node.Super.{Super}

-- what a superblock may say: its volume's identifier is 16 bytes
pub record IsSuperNode (node : Super) : Type 0 where
  pub sixteen : length node.uuid ≡ 16
  pub bytes : IsBytes node.uuid

-- padding, the formats of names and keys, the flags, and the sizes of the volume
abbrev pub size_fields : Super → List Field
size_fields node =
    ignored 2 ∷ number 1 node.key_hash ∷ number 1 node.key_fmt ∷ number 4 node.flags ∷ number 4 node.min_io_size ∷ number 4 node.leb_size
    ∷ number 4 node.leb_cnt ∷ number 4 node.max_leb_cnt ∷ number 8 node.max_bud_bytes ∷ []

-- the sizes of its areas and trees, and the version of the format
abbrev pub area_fields : Super → List Field
area_fields node =
    number 4 node.log_lebs ∷ number 4 node.lpt_lebs ∷ number 4 node.orph_lebs ∷ number 4 node.jhead_cnt ∷ number 4 node.fanout
    ∷ number 4 node.lsave_cnt ∷ number 4 node.fmt_version ∷ []

-- compression, padding, who may use the reserved pool, and the granularity of times
abbrev pub pool_fields : Super → List Field
pool_fields node =
    number 2 node.default_compr ∷ ignored 2 ∷ number 4 node.rp_uid ∷ number 4 node.rp_gid ∷ number 8 node.rp_size ∷ number 4 node.time_gran ∷ []

-- the volume's identifier, and the version with which it may be read
abbrev pub version_fields : Super → List Field
version_fields node = number 16 (little_number 16 node.uuid) ∷ number 4 node.ro_compat_version ∷ []

-- after the header: the above, and ignored bytes to 4096
abbrev pub super_fields : Super → List Field
super_fields node = size_fields node ++ (area_fields node ++ (pool_fields node ++ (version_fields node ++ (ignored 3968 ∷ []))))

-- whether a body of this type is that of a superblock node
unfoldable pub is_super : ℕ → List ℕ → Bool
is_super kind body = kind == 6 && length body == 4072

-- and which
unfoldable pub super_at : List ℕ → Super
super_at body = record {
  key_hash = slice_index body 2;
  key_fmt = slice_index body 3;
  flags = little_number 4 (drop 4 body);
  min_io_size = little_number 4 (drop 8 body);
  leb_size = little_number 4 (drop 12 body);
  leb_cnt = little_number 4 (drop 16 body);
  max_leb_cnt = little_number 4 (drop 20 body);
  max_bud_bytes = little_number 8 (drop 24 body);
  log_lebs = little_number 4 (drop 32 body);
  lpt_lebs = little_number 4 (drop 36 body);
  orph_lebs = little_number 4 (drop 40 body);
  jhead_cnt = little_number 4 (drop 44 body);
  fanout = little_number 4 (drop 48 body);
  lsave_cnt = little_number 4 (drop 52 body);
  fmt_version = little_number 4 (drop 56 body);
  default_compr = little_number 2 (drop 60 body);
  rp_uid = little_number 4 (drop 64 body);
  rp_gid = little_number 4 (drop 68 body);
  rp_size = little_number 8 (drop 72 body);
  time_gran = little_number 4 (drop 80 body);
  uuid = little_bytes 16 (little_number 16 (drop 84 body));
  ro_compat_version = little_number 4 (drop 100 body);
}
