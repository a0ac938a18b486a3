-- Master nodes: where a commit left everything.
use Rattle.std.specs.Prelude.{ℕ, ◌^◌, ◌<◌, ◌==◌, ◌&&◌, nat_lt, Bool, List, [], ◌∷◌, ◌++◌, length, drop}
use Rattle.byteorder.specs.Endian.{little_number}
use Rattle.node_fields.specs.Fields.{Field, number, ignored}
use Rattle.media_sys.specs.declared.master.Master.{Master}

-- what a master may say: an inode number has 32 bits, though it has 8 bytes here
pub record IsMasterNode (node : Master) : Type 0 where
  pub highest_fits : node.highest_inum < 2 ^ 32

-- the highest inode number, the commit's number, the flags, where the log begins, and the root of the index
abbrev pub root_fields : Master → List Field
root_fields node =
    number 8 node.highest_inum ∷ number 8 node.cmt_no ∷ number 4 node.flags ∷ number 4 node.log_lnum ∷ number 4 node.root_lnum
    ∷ number 4 node.root_offs ∷ number 4 node.root_len ∷ []

-- the LEB kept for collection, where index nodes are written, and the size of the index
abbrev pub head_fields : Master → List Field
head_fields node = number 4 node.gc_lnum ∷ number 4 node.ihead_lnum ∷ number 4 node.ihead_offs ∷ number 8 node.index_size ∷ []

-- the totals of the main area
abbrev pub total_fields : Master → List Field
total_fields node =
    number 8 node.total_free ∷ number 8 node.total_dirty ∷ number 8 node.total_used ∷ number 8 node.total_dead ∷ number 8 node.total_dark ∷ []

-- the properties tree: its root, where it is written, and its tables
abbrev pub lpt_fields : Master → List Field
lpt_fields node =
    number 4 node.lpt_lnum ∷ number 4 node.lpt_offs ∷ number 4 node.nhead_lnum ∷ number 4 node.nhead_offs ∷ number 4 node.ltab_lnum
    ∷ number 4 node.ltab_offs ∷ number 4 node.lsave_lnum ∷ number 4 node.lsave_offs ∷ number 4 node.lscan_lnum ∷ []

-- the numbers of LEBs
abbrev pub count_fields : Master → List Field
count_fields node = number 4 node.empty_lebs ∷ number 4 node.idx_lebs ∷ number 4 node.leb_cnt ∷ []

-- after the header: the above, and ignored bytes to 512
abbrev pub master_fields : Master → List Field
master_fields node = root_fields node ++ (head_fields node ++ (total_fields node ++ (lpt_fields node ++ (count_fields node ++ (ignored 344 ∷ [])))))

-- whether a body of this type is that of a master node
unfoldable pub is_master : ℕ → List ℕ → Bool
is_master kind body = kind == 7 && (length body == 488 && nat_lt (little_number 8 body) (2 ^ 32))

-- and which
unfoldable pub master_at : List ℕ → Master
master_at body = record {
  highest_inum = little_number 8 body;
  cmt_no = little_number 8 (drop 8 body);
  flags = little_number 4 (drop 16 body);
  log_lnum = little_number 4 (drop 20 body);
  root_lnum = little_number 4 (drop 24 body);
  root_offs = little_number 4 (drop 28 body);
  root_len = little_number 4 (drop 32 body);
  gc_lnum = little_number 4 (drop 36 body);
  ihead_lnum = little_number 4 (drop 40 body);
  ihead_offs = little_number 4 (drop 44 body);
  index_size = little_number 8 (drop 48 body);
  total_free = little_number 8 (drop 56 body);
  total_dirty = little_number 8 (drop 64 body);
  total_used = little_number 8 (drop 72 body);
  total_dead = little_number 8 (drop 80 body);
  total_dark = little_number 8 (drop 88 body);
  lpt_lnum = little_number 4 (drop 96 body);
  lpt_offs = little_number 4 (drop 100 body);
  nhead_lnum = little_number 4 (drop 104 body);
  nhead_offs = little_number 4 (drop 108 body);
  ltab_lnum = little_number 4 (drop 112 body);
  ltab_offs = little_number 4 (drop 116 body);
  lsave_lnum = little_number 4 (drop 120 body);
  lsave_offs = little_number 4 (drop 124 body);
  lscan_lnum = little_number 4 (drop 128 body);
  empty_lebs = little_number 4 (drop 132 body);
  idx_lebs = little_number 4 (drop 136 body);
  leb_cnt = little_number 4 (drop 140 body);
}
