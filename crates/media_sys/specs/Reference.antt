-- Reference nodes: a journal head goes on in another LEB.
use Rattle.std.specs.Prelude.{ℕ, ◌==◌, ◌&&◌, nat_le, Bool, if◌then◌else◌, List, [], ◌∷◌, length, drop}
use Rattle.byteorder.specs.Endian.{little_number}
use Rattle.ubifs_base.specs.JournalHead.{head_number}
use Rattle.ubifs_base.specs.declared.journal_head.JournalHead.{JournalHead}
use Rattle.ubifs_base.specs.declared.journal_head.JournalHead.TheVariants.{Collector, Base, Data}
use Rattle.node_fields.specs.Fields.{Field, number, ignored}
use Rattle.media_sys.specs.declared.ref_node.RefNode.{RefNode}

-- after the header: the LEB, the offset in it, the journal head, and padding
abbrev pub reference_fields : RefNode → List Field
reference_fields node = number 4 node.lnum ∷ number 4 node.offs ∷ number 4 (head_number node.head) ∷ ignored 28 ∷ []

-- whether a body of this type is that of a reference node: there are three journal heads
unfoldable pub is_reference : ℕ → List ℕ → Bool
is_reference kind body = kind == 8 && (length body == 40 && nat_le (little_number 4 (drop 8 body)) 2)

-- the head of this number, which is at most 2
abbrev pub head_of : ℕ → JournalHead
head_of n = if n == 0 then Collector else if n == 1 then Base else Data

-- the head of a body that passes
unfoldable pub head_at : List ℕ → JournalHead
head_at body = head_of (little_number 4 (drop 8 body))

-- and which node it is
unfoldable pub reference_at : List ℕ → RefNode
reference_at body = record { lnum = little_number 4 body; offs = little_number 4 (drop 4 body); head = head_at body }
