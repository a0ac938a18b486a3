-- Commit start nodes: which commit begins.
use Rattle.std.specs.Prelude.{ℕ, ◌==◌, ◌&&◌, Bool, List, [], ◌∷◌, length}
use Rattle.byteorder.specs.Endian.{little_number}
use Rattle.node_fields.specs.Fields.{Field, number}
use Rattle.media_sys.specs.declared.commit_start.CommitStart.{CommitStart}

-- after the header: the commit's number
abbrev pub commit_start_fields : CommitStart → List Field
commit_start_fields node = number 8 node.cmt_no ∷ []

-- whether a body of this type is that of a commit start node
unfoldable pub is_commit_start : ℕ → List ℕ → Bool
is_commit_start kind body = kind == 10 && length body == 8

-- and which
unfoldable pub commit_start_at : List ℕ → CommitStart
commit_start_at body = record { cmt_no = little_number 8 body }
