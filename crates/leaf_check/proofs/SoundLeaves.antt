-- Whether a leaf is sound, told by the bytes at its place.
use Rattle.std.proofs.Common.{◌≡◌, ℕ, ◌+◌, ◌≤◌, List, length, take, drop, Option, Some, refl, ap, sym, ◌∙◌, subst, arith, length-drop, take-append-drop, take_all}
use Rattle.std.specs.Prelude.{IsTrue}
use Rattle.std.proofs.lemmas.List.{drop-append-le, length-take-le}
use Rattle.byteorder.specs.Endian.{little_number}
use Rattle.byteorder.specs.Numbers.{little_from-append}
use Rattle.ubifs_base.specs.Node.{IsNode}
use Rattle.ubifs_base.specs.NodeLaws.{IsBytes, has_head}
use Rattle.ubifs_base.specs.NodeType.{type_number}
use Rattle.ubifs_base.specs.declared.node_type.NodeType.{NodeType}
use Rattle.ubifs_base.specs.declared.raw_geometry.RawGeometry.{RawGeometry}
use Rattle.media_leaf.specs.LeafNode.{IsLeafNode, LeafNode, type_of}
use Rattle.media_lpt.specs.declared.lprop.Lprop.{Lprop}
use Rattle.leb_scan.specs.Text.{leaf_type}
use Rattle.group_nodes.specs.Nodes.{leaf_key}
use Rattle.ubifs_base.specs.declared.key.Key.{Key}
use Rattle.leb_scan.specs.declared.found.Found.{Found}
use Rattle.index_tree.specs.declared.leaf.Leaf.{Leaf}
use Rattle.sound_image.specs.Frames.{HasFrameAt, IsKnownAt}
use Rattle.sound_image.specs.Leaves.{HasItsNode, IsSoundLeaf}
use Rattle.sound_image.specs.Properties.{is_unmarked}
use Rattle.leaf_check.specs.Committed.{HasBytes}
use Rattle.leaf_check.specs.LeafReads.{HasWholeLeaf, IsItsNode, IsLeafRead, IsWholeOf}
use Rattle.leaf_check.proofs.CommittedLeaves.{its_moved, placed_whole}
use Rattle.leaf_check.proofs.Standings.{needs_moved}
use Rattle.leaf_check.proofs.WholeLeaves.{IsOneLeaf, bytes_drop, bytes_take}

-- the header says how long the node in front is
pub front_len : (rest : List ℕ) (n sqnum kind group : ℕ) (body : List ℕ) → IsBytes rest → n ≤ length rest → IsNode (take n rest) sqnum kind group body → n ≡ little_number 4 (drop 16 rest)
front_len rest n sqnum kind group body fits room h =
    let front = take n rest in
    let long : length front ≡ n = length-take-le n rest room in
    let head = (has_head front body sqnum kind group (bytes_take n rest fits) h).0 in
    let least = head.long in
    let more : 4 ≤ length (drop 16 front) = rw length-drop (omega (arith, least)) in
    sym long ∙ head.len ∙ sym (ap (λ (z : List ℕ). little_number 4 (drop 16 z)) (sym (take-append-drop n rest)) ∙ ap (little_number 4) (drop-append-le 16 front (drop n rest) (omega (arith, least))) ∙ little_from-append 4 (drop 16 front) (drop n rest) more)

module _ (leb : List ℕ) (offs len : ℕ) (fits : IsBytes leb) (room : offs + len ≤ length leb) (sqnum group : ℕ) (node : LeafNode) (is : IsLeafNode (take len (drop offs leb)) sqnum group node) where
  high : len ≤ length (drop offs leb)
  high = let cut = length-drop offs leb in omega (arith, room, cut)

  own_len : len ≡ little_number 4 (drop 16 (drop offs leb))
  own_len = front_len (drop offs leb) len sqnum (type_of node) group is.body (bytes_drop offs leb fits) high is.framed

  own_long : length (take len (drop offs leb)) ≡ len
  own_long = length-take-le len (drop offs leb) high

  frame_in : (type : NodeType) (body : List ℕ) → HasFrameAt leb offs type body → HasFrameAt (take len (drop offs leb)) 0 type body
  frame_in type body h =
      let cut = length-drop offs leb in
      let there = h.room in
      let same : h.len ≡ len = front_len (drop offs leb) h.len h.sqnum (type_number type) h.group body (bytes_drop offs leb fits) (omega (arith, there, cut)) h.framed ∙ sym own_len in
      let P : ℕ → Type 0 = λ n. IsNode (take n (drop offs leb)) h.sqnum (type_number type) h.group body in
      let Q : List ℕ → Type 0 = λ b. IsNode b h.sqnum (type_number type) h.group body in
      let long = own_long in
      record { len = len; sqnum = h.sqnum; group = h.group; room = omega (arith, long); framed = subst Q (sym (take_all len (take len (drop offs leb)) (omega (arith, long)))) (subst P same h.framed) }

  frame_out : (type : NodeType) (body : List ℕ) → HasFrameAt (take len (drop offs leb)) 0 type body → HasFrameAt leb offs type body
  frame_out type body h =
      let front = take len (drop offs leb) in
      let there = h.room in
      let long = own_long in
      let P : ℕ → Type 0 = λ n. IsNode (take n front) h.sqnum (type_number type) h.group body in
      let Q : List ℕ → Type 0 = λ b. IsNode b h.sqnum (type_number type) h.group body in
      let same : h.len ≡ len = front_len front h.len h.sqnum (type_number type) h.group body (bytes_take len (drop offs leb) (bytes_drop offs leb fits)) (omega (arith, there)) h.framed ∙ sym (front_len front len sqnum (type_of node) group is.body (bytes_take len (drop offs leb) (bytes_drop offs leb fits)) (omega (arith, long)) (let R : List ℕ → Type 0 = λ b. IsNode b sqnum (type_of node) group is.body in subst R (sym (take_all len front (omega (arith, long)))) is.framed)) in
      record { len = len; sqnum = h.sqnum; group = h.group; room = room; framed = subst Q (take_all len front (omega (arith, long))) (subst P same h.framed) }

  pub known_in : IsKnownAt leb offs → IsKnownAt (take len (drop offs leb)) 0
  known_in h what needs = h what (needs_moved (take len (drop offs leb)) leb 0 offs what frame_out needs)

  pub known_out : IsKnownAt (take len (drop offs leb)) 0 → IsKnownAt leb offs
  known_out h what needs = h what (needs_moved leb (take len (drop offs leb)) offs 0 what frame_in needs)

-- ---- a leaf at whose place a node was read
pub its_node : (contents : ℕ → List ℕ) (x : Leaf) → IsBytes (contents x.lnum) → x.offs + x.len ≤ length (contents x.lnum) → IsItsNode (take x.len (drop x.offs (contents x.lnum))) x → HasItsNode contents x
its_node contents x fits room h = record {
  node = record { node = h.node; sqnum = h.sqnum; group = h.group; lnum = x.lnum; offs = x.offs; len = x.len };
  placed = record { lnum = refl; offs = refl; len = refl };
  stands = record { room = room; is = h.is };
  key = h.key;
  known = known_out (contents x.lnum) x.offs x.len fits room h.sqnum h.group h.node h.is h.known;
}

has_its : (contents : ℕ → List ℕ) (x : Leaf) → IsBytes (contents x.lnum) → HasItsNode contents x → IsItsNode (take x.len (drop x.offs (contents x.lnum))) x
has_its contents x fits h =
    let whole = placed_whole contents x h.node h.placed h.stands in
    record {
      sqnum = h.node.sqnum;
      group = h.node.group;
      node = h.node.node;
      is = whole.is;
      key = h.key;
      known = known_in (contents x.lnum) x.offs x.len fits whole.room h.node.sqnum h.node.group h.node.node whole.is h.known;
    }

-- it is sound if the node is its own, and the LEB isn't marked
pub read_sound : (contents : ℕ → List ℕ) (geo : RawGeometry) (props : List Lprop) (x : Leaf) (buffer bytes : List ℕ) (found : Found) → IsBytes (contents x.lnum) → (h : IsLeafRead contents x buffer found) → bytes ≡ take found.len buffer → IsTrue (is_unmarked geo props x.lnum) → IsItsNode bytes x → IsSoundLeaf contents geo props x
read_sound contents geo props x buffer bytes found fits h cut free own =
    let P : List ℕ → Type 0 = λ b. IsItsNode b x in
    (its_node contents x fits h.room (subst P (cut ∙ ap (λ (n : ℕ). take n buffer) h.len ∙ h.bytes) own), free)

-- its place has its node
pub read_its : (contents : ℕ → List ℕ) (x : Leaf) (bytes : List ℕ) → HasBytes contents x bytes → IsItsNode bytes x → HasItsNode contents x
read_its contents x bytes h own = let P : List ℕ → Type 0 = λ b. IsItsNode b x in its_node contents x h.fits h.room (subst P h.is own)

pub sound_read : (contents : ℕ → List ℕ) (geo : RawGeometry) (props : List Lprop) (x : Leaf) (buffer bytes : List ℕ) (found : Found) → IsBytes (contents x.lnum) → (h : IsLeafRead contents x buffer found) → bytes ≡ take found.len buffer → IsSoundLeaf contents geo props x → IsItsNode bytes x
sound_read contents geo props x buffer bytes found fits h cut sound =
    let P : List ℕ → Type 0 = λ b. IsItsNode b x in
    subst P (sym (cut ∙ ap (λ (n : ℕ). take n buffer) h.len ∙ h.bytes)) (has_its contents x fits sound.0)

-- and where none was read it isn't
pub sound_whole : (contents : ℕ → List ℕ) (geo : RawGeometry) (props : List Lprop) (x : Leaf) → IsSoundLeaf contents geo props x → HasWholeLeaf contents x
sound_whole contents geo props x h = placed_whole contents x h.0.node h.0.placed h.0.stands

-- contents that are the same have the same sound leaves
pub sound_moved : (c d : ℕ → List ℕ) (geo : RawGeometry) (props : List Lprop) (x : Leaf) → ((k : ℕ) → c k ≡ d k) → IsSoundLeaf c geo props x → IsSoundLeaf d geo props x
sound_moved c d geo props x e h = (its_moved c d x e h.0, h.1)

-- ---- bytes that are a leaf's own node
pub its_node_of : (bytes : List ℕ) (x : Leaf) (found : Found) (o : Option Key) → (node : (node : LeafNode) × IsWholeOf bytes found node)
    → ((sqnum group : ℕ) (node : LeafNode) → IsLeafNode bytes sqnum group node → found.kind ≡ leaf_type node → o ≡ leaf_key node) → IsKnownAt bytes 0 → o ≡ Some x.key → IsItsNode bytes x
its_node_of bytes x found o node keyed known same = record {
  sqnum = found.sqnum;
  group = found.group;
  node = node.0;
  is = node.1.is;
  key = sym (keyed found.sqnum found.group node.0 node.1.is node.1.kind) ∙ same;
  known = known;
}

pub key_of_its : IsOneLeaf → (bytes : List ℕ) (x : Leaf) (found : Found) (o : Option Key) → IsBytes bytes → (node : (node : LeafNode) × IsWholeOf bytes found node)
    → ((sqnum group : ℕ) (node : LeafNode) → IsLeafNode bytes sqnum group node → found.kind ≡ leaf_type node → o ≡ leaf_key node) → IsItsNode bytes x → o ≡ Some x.key
key_of_its one bytes x found o fits node keyed its =
    keyed its.sqnum its.group its.node its.is (node.1.kind ∙ ap leaf_type (one bytes found.sqnum found.group its.sqnum its.group node.0 its.node fits node.1.is its.is).2) ∙ its.key

-- the node that was read is such a one
pub whole_of_read : (contents : ℕ → List ℕ) (x : Leaf) (buffer bytes : List ℕ) (found : Found) → (h : IsLeafRead contents x buffer found) → bytes ≡ take found.len buffer → (node : LeafNode) × IsWholeOf bytes found node
whole_of_read contents x buffer bytes found h cut =
    let P : List ℕ → Type 0 = λ b. IsLeafNode b found.sqnum found.group h.node in
    (h.node, record { kind = h.kind; is = subst P (sym (cut ∙ ap (λ (n : ℕ). take n buffer) h.len)) h.is })
