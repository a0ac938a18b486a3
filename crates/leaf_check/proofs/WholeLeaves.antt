-- Bytes that are a leaf node, and what their header says of it.
use Rattle.std.proofs.Common.{◌≡◌, ℕ, zero, suc, ◌+◌, ◌^◌, ◌<◌, ◌≤◌, Bool, true, false, List, [], ◌∷◌, length, take, drop, Option, Some, None, IfSome, IfNone, Result, Ok, refl, ap, sym, ◌∙◌, subst, arith, length-append, length-drop, get_or-drop, take-append-drop}
use Rattle.std.specs.Prelude.{if◌then◌else◌}
use Rattle.std.proofs.lemmas.List.{drop-append-le, length-take-le}
use Rattle.byteorder.specs.Endian.{little_number}
use Rattle.byteorder.specs.Numbers.{little_from-append}
use Rattle.ubifs_base.specs.Frame.{HasHead, unframed}
use Rattle.ubifs_base.specs.NodeLaws.{IsBytes, has_head, is_node, unframed-has_head, unframed-ok}
use Rattle.ubifs_base.specs.Node.{IsNode, node_bytes}
use Rattle.ubifs_base.specs.NodeType.{type_number, type_numbered, type-numbered}
use Rattle.ubifs_base.specs.declared.header.FrameFault.{FrameFault}
use Rattle.ubifs_base.specs.declared.header.Head.{Head}
use Rattle.ubifs_base.specs.declared.node_type.NodeType.{NodeType}
use Rattle.ubifs_base.specs.declared.node_type.NodeType.TheVariants as types
use Rattle.node_fields.specs.Fields.{total_width}
use Rattle.node_fields.specs.FieldLaws.{reads_back, length-read}
use Rattle.node_fields.specs.Form.{IsBody}
use Rattle.media_leaf.specs.Entry.{entry_tail}
use Rattle.media_leaf.specs.LeafNode.{LeafNode, IsLeafNode, block, entry, fields_of, inode, leaf_form, tail_of, truncation, type_of}
use Rattle.leb_scan.specs.Text.{StandsAt, leaf, leaf_type}
use Rattle.leb_scan.specs.TypeLaws.{some_same}
use Rattle.leb_scan.specs.declared.found.Found.{Found}
use Rattle.index_tree.specs.declared.leaf.Leaf.{Leaf}
use Rattle.leaf_check.specs.LeafReads.{HasWholeLeaf, IsLeafRead, IsWholeLeaf}

-- bytes are at most one node
abbrev pub IsOneLeaf : Type 0
IsOneLeaf = (bytes : List ℕ) (s1 g1 s2 g2 : ℕ) (n1 n2 : LeafNode) → IsBytes bytes → IsLeafNode bytes s1 g1 n1 → IsLeafNode bytes s2 g2 n2 → (s1 ≡ s2) × (g1 ≡ g2) × (n1 ≡ n2)

pub bytes_drop : (n : ℕ) (bytes : List ℕ) → IsBytes bytes → IsBytes (drop n bytes)
bytes_drop n bytes fits = λ i. rw get_or-drop (fits (n + i))

pub bytes_take : (n : ℕ) (bytes : List ℕ) → IsBytes bytes → IsBytes (take n bytes)
bytes_take zero bytes fits i = omega arith
bytes_take (suc n) [] fits i = fits i
bytes_take (suc n) (x ∷ bytes) fits zero = fits 0
bytes_take (suc n) (x ∷ bytes) fits (suc i) = bytes_take n bytes (λ j. fits (suc j)) i

-- ---- the header
entry_numbered : (attribute : Bool) → type_number (if attribute then types.Attribute else types.Entry) ≡ (if attribute then type_number types.Attribute else type_number types.Entry)
entry_numbered true = refl
entry_numbered false = refl

-- the number of a node's type is that of its header
pub leaf_numbered : (node : LeafNode) → type_of node ≡ type_number (leaf_type node)
leaf_numbered (inode node) = refl
leaf_numbered (block node) = refl
leaf_numbered (entry node) = sym (entry_numbered node.attribute)
leaf_numbered (truncation node) = refl

-- what the header of a leaf node says
pub leaf_head : (bytes : List ℕ) (sqnum group : ℕ) (node : LeafNode) → IsBytes bytes → IsLeafNode bytes sqnum group node
    → HasHead bytes (record { sqnum = sqnum; len = length bytes; kind = type_of node; group = group }) × IsBody leaf_form (type_of node) (drop 24 bytes) node
leaf_head bytes sqnum group node fits h =
    let head = has_head bytes h.body sqnum (type_of node) group fits h.framed in
    let P : List ℕ → Type 0 = λ b. IsBody leaf_form (type_of node) b node in
    (head.0, subst P (sym head.1) (record { kind_is = refl; spelled = h.spelled; is = h.is }))

head_same : (a b : Head) → ◌≡◌ {A = Result Head FrameFault} (Ok a) (Ok b) → a ≡ b
head_same a b e = cc

-- a header that was read is that of the node
pub head_is : (bytes : List ℕ) (sqnum group : ℕ) (node : LeafNode) (r : Result Head FrameFault) (head : Head) → IsBytes bytes → r ≡ unframed bytes → r ≡ Ok head → IsLeafNode bytes sqnum group node
    → head ≡ record { sqnum = sqnum; len = length bytes; kind = type_of node; group = group }
head_is bytes sqnum group node r head fits exact is h =
    let own : Head = record { sqnum = sqnum; len = length bytes; kind = type_of node; group = group } in
    head_same head own (sym is ∙ exact ∙ unframed-has_head bytes own (leaf_head bytes sqnum group node fits h).0)

-- where none was read there is no node
pub no_head : (bytes : List ℕ) (r : Result Head FrameFault) → IsBytes bytes → r ≡ unframed bytes → ((head : Head) → r ≡ Ok head → ⊥) → (sqnum group : ℕ) (node : LeafNode) → IsLeafNode bytes sqnum group node → ⊥
no_head bytes r fits exact none sqnum group node h =
    let own : Head = record { sqnum = sqnum; len = length bytes; kind = type_of node; group = group } in
    none own (exact ∙ unframed-has_head bytes own (leaf_head bytes sqnum group node fits h).0)

pub head_read : (bytes : List ℕ) (r : Result Head FrameFault) (head : Head) → r ≡ unframed bytes → r ≡ Ok head → HasHead bytes head
head_read bytes r head exact is = unframed-ok bytes head (sym exact ∙ is)

type_told : (kind : NodeType) (node : LeafNode) (number : ℕ) → type_numbered number ≡ Some kind → number ≡ type_of node → kind ≡ leaf_type node
type_told kind node number known is = some_same kind (leaf_type node) (sym known ∙ ap type_numbered (is ∙ leaf_numbered node) ∙ type-numbered (leaf_type node))

-- a header with the length of all bytes and a leaf's body are a leaf node
pub leaf_from : (bytes : List ℕ) (head : Head) (kind : NodeType) (node : LeafNode) → IsBytes bytes → length bytes < 2 ^ 32 → HasHead bytes head → head.group ≤ 2 → head.len ≡ length bytes → type_numbered head.kind ≡ Some kind
    → IsBody leaf_form head.kind (drop 24 bytes) node → IsWholeLeaf bytes (record { offs = 0; len = head.len; kind = kind; group = head.group; sqnum = head.sqnum }) node
leaf_from bytes head kind node fits top h known len type body =
    let P : ℕ → Type 0 = λ k. IsNode bytes head.sqnum k head.group (drop 24 bytes) in
    record {
      here = refl;
      len = len;
      kind = type_told kind node head.kind type body.kind_is;
      is = record { body = drop 24 bytes; framed = subst P body.kind_is (is_node bytes head fits h len known top); spelled = body.spelled; is = body.is };
    }

-- where the type has no number there is no node
pub no_type : (bytes : List ℕ) (head : Head) (sqnum group : ℕ) (node : LeafNode) (o : Option NodeType) → head ≡ record { sqnum = sqnum; len = length bytes; kind = type_of node; group = group } → o ≡ type_numbered head.kind → ((kind : NodeType) → o ≡ Some kind → ⊥) → ⊥
no_type bytes head sqnum group node o is exact none = none (leaf_type node) (exact ∙ ap type_numbered (ap (λ (h : Head). h.kind) is ∙ leaf_numbered node) ∙ type-numbered (leaf_type node))

-- ---- the node with which bytes begin
-- the length that its header says
pub stands_len : (bytes : List ℕ) (found : Found) (node : LeafNode) → IsBytes bytes → (h : StandsAt bytes 0 found (leaf node)) → (24 ≤ found.len) × (found.len ≡ little_number 4 (drop 16 bytes))
stands_len bytes found node fits h =
    let front = take found.len bytes in
    let room = h.room in
    let long : length front ≡ found.len = length-take-le found.len bytes (omega (arith, room)) in
    let head = (leaf_head front found.sqnum found.group node (bytes_take found.len bytes fits) h.is).0 in
    let least = head.long in
    let more : 4 ≤ length (drop 16 front) = rw length-drop (omega (arith, least)) in (
      omega (arith, least, long),
      sym long ∙ head.len ∙ sym (ap (λ (z : List ℕ). little_number 4 (drop 16 z)) (sym (take-append-drop found.len bytes)) ∙ ap (little_number 4) (drop-append-le 16 front (drop found.len bytes) (omega (arith, least))) ∙ little_from-append 4 (drop 16 front) (drop found.len bytes) more),
    )

found_same : (o1 o2 l1 l2 g1 g2 s1 s2 : ℕ) (k1 k2 : NodeType) → o1 ≡ o2 → l1 ≡ l2 → k1 ≡ k2 → g1 ≡ g2 → s1 ≡ s2
    → let a : Found = record { offs = o1; len = l1; kind = k1; group = g1; sqnum = s1 } in
    let b : Found = record { offs = o2; len = l2; kind = k2; group = g2; sqnum = s2 } in
    a ≡ b
found_same o1 o2 l1 l2 g1 g2 s1 s2 k1 k2 o l k g s = rw (o, l, k, g, s) refl

-- the front that is a node stands there
pub front_stands : (bytes front : List ℕ) (n : ℕ) (found : Found) (node : LeafNode) → n ≤ length bytes → front ≡ take n bytes → IsWholeLeaf front found node → StandsAt bytes 0 found (leaf node)
front_stands bytes front n found node room cut h =
    let long : length front ≡ n = ap length cut ∙ length-take-le n bytes room in
    let len : found.len ≡ n = h.len ∙ long in
    let P : List ℕ → Type 0 = λ b. IsLeafNode b found.sqnum found.group node in
    record { here = h.here; room = omega (arith, len, room); kind = h.kind; is = subst P (cut ∙ ap (λ (k : ℕ). take k bytes) (sym len)) h.is }

pub some_stands : (bytes front : List ℕ) (n : ℕ) (o : Option Found) → n ≤ length bytes → front ≡ take n bytes → IfSome o (λ found. (node : LeafNode) × IsWholeLeaf front found node) → IfSome o (λ found. (node : LeafNode) × StandsAt bytes 0 found (leaf node))
some_stands bytes front n (Some found) room cut h = (h.0, front_stands bytes front n found h.0 room cut h.1)
some_stands bytes front n None room cut h = tt

-- and no other does
pub only_stands : IsOneLeaf → (bytes front : List ℕ) (n : ℕ) (o : Option Found) (found : Found) (node : LeafNode) → IsBytes bytes → n ≤ length bytes → n ≡ little_number 4 (drop 16 bytes) → front ≡ take n bytes
    → IfSome o (λ found. (node : LeafNode) × IsWholeLeaf front found node) → IfNone o ((sqnum group : ℕ) (node : LeafNode) → IsLeafNode front sqnum group node → ⊥) → StandsAt bytes 0 found (leaf node) → o ≡ Some found
only_stands one bytes front n o found node fits room is cut some none h = by o some none
  where
    len : found.len ≡ n
    len = (stands_len bytes found node fits h).1 ∙ sym is

    own : IsLeafNode front found.sqnum found.group node
    own = let P : List ℕ → Type 0 = λ b. IsLeafNode b found.sqnum found.group node in subst P (ap (λ (k : ℕ). take k bytes) len ∙ sym cut) h.is

    long : length front ≡ n
    long = ap length cut ∙ length-take-le n bytes room

    by : (o : Option Found) → IfSome o (λ found. (node : LeafNode) × IsWholeLeaf front found node) → IfNone o ((sqnum group : ℕ) (node : LeafNode) → IsLeafNode front sqnum group node → ⊥) → o ≡ Some found
    by None some none = absurd (none found.sqnum found.group node own)
    by (Some other) some none =
        let P : List ℕ → Type 0 = λ b. IsBytes b in
        let same = one front other.sqnum other.group found.sqnum found.group some.0 node (subst P (sym cut) (bytes_take n bytes fits)) some.1.is own in
        ap (λ (f : Found). Some f) (found_same other.offs found.offs other.len found.len other.group found.group other.sqnum found.sqnum other.kind found.kind (some.1.here ∙ sym h.here) (some.1.len ∙ long ∙ sym len) (some.1.kind ∙ ap leaf_type same.2 ∙ sym h.kind) same.1 same.0)

-- ---- how long a leaf node is
pub node_length : (sqnum kind group : ℕ) (pad body : List ℕ) → length pad ≡ 2 → length (node_bytes sqnum kind group pad body) ≡ 24 + length body
unfolding node_bytes
node_length sqnum kind group [] body two = absurd (omega (arith, two))
node_length sqnum kind group (a ∷ []) body two = absurd (omega (arith, two))
node_length sqnum kind group (a ∷ b ∷ []) body two = omega arith
node_length sqnum kind group (a ∷ b ∷ x ∷ pad) body two = absurd (omega (arith, two))

whole_length : (bytes : List ℕ) (sqnum group : ℕ) (node : LeafNode) → IsLeafNode bytes sqnum group node → length bytes ≡ 24 + (total_width (fields_of node) + length (tail_of node))
whole_length bytes sqnum group node h =
    let body = length-read (fields_of node) (tail_of node) h.body (reads_back 0 (fields_of node) (tail_of node) h.body (omega arith) h.spelled) in
    let whole = ap length h.framed.spelled ∙ node_length sqnum (type_of node) group h.framed.padding h.body h.framed.two in
    omega (arith, body, whole)

-- at most an inode's, with a page of data
pub most_bytes : (bytes : List ℕ) (sqnum group : ℕ) (node : LeafNode) → IsLeafNode bytes sqnum group node → length bytes ≤ 4256
most_bytes bytes sqnum group (inode node) h =
    let whole = whole_length bytes sqnum group (inode node) h in
    let most = h.is.most in
    omega (arith, whole, most)
most_bytes bytes sqnum group (block node) h =
    let whole = whole_length bytes sqnum group (block node) h in
    let most = h.is.most in
    omega (arith, whole, most)
most_bytes bytes sqnum group (entry node) h =
    let whole = whole_length bytes sqnum group (entry node) h in
    let most = h.is.most in
    let tail : length (entry_tail node) ≡ length node.name + 1 = length-append node.name (0 ∷ []) in
    omega (arith, whole, most, tail)
most_bytes bytes sqnum group (truncation node) h =
    let whole = whole_length bytes sqnum group (truncation node) h in
    omega (arith, whole)

-- the body behind the header is the node's
pub body_is : (bytes back : List ℕ) (sqnum group : ℕ) (node : LeafNode) (head : Head) → IsBytes bytes → back ≡ drop 24 bytes → head ≡ record { sqnum = sqnum; len = length bytes; kind = type_of node; group = group } → IsLeafNode bytes sqnum group node → IsBody leaf_form head.kind back node
body_is bytes back sqnum group node head fits cut is h =
    let P : ℕ → Type 0 = λ k. IsBody leaf_form k back node in
    let Q : List ℕ → Type 0 = λ b. IsBody leaf_form (type_of node) b node in
    subst P (sym (ap (λ (k : Head). k.kind) is)) (subst Q (sym cut) (leaf_head bytes sqnum group node fits h).1)

-- ---- where a leaf's node stands
-- at a leaf's place a whole node is no longer than any
pub whole_most : (contents : ℕ → List ℕ) (x : Leaf) → (h : HasWholeLeaf contents x) → x.len ≤ 4256
whole_most contents x h =
    let room = h.room in
    let cut = length-drop x.offs (contents x.lnum) in
    let long = length-take-le x.len (drop x.offs (contents x.lnum)) (omega (arith, room, cut)) in
    let most = most_bytes (take x.len (drop x.offs (contents x.lnum))) h.sqnum h.group h.node h.is in
    omega (arith, long, most)

-- it has some bytes
pub whole_some : (contents : ℕ → List ℕ) (x : Leaf) → IsBytes (contents x.lnum) → (h : HasWholeLeaf contents x) → 24 ≤ x.len
whole_some contents x fits h =
    let room = h.room in
    let cut = length-drop x.offs (contents x.lnum) in
    let long = length-take-le x.len (drop x.offs (contents x.lnum)) (omega (arith, room, cut)) in
    let least = (leaf_head (take x.len (drop x.offs (contents x.lnum))) h.sqnum h.group h.node (bytes_take x.len (drop x.offs (contents x.lnum)) (bytes_drop x.offs (contents x.lnum) fits)) h.is).0.long in
    omega (arith, long, least)

-- none does behind the last LEB
pub whole_nowhere : (contents : ℕ → List ℕ) (x : Leaf) → contents x.lnum ≡ [] → HasWholeLeaf contents x → ⊥
whole_nowhere contents x e h =
    let P : List ℕ → Type 0 = λ leb. IsBytes leb in
    let some = whole_some contents x (subst P (sym e) (λ i. omega arith)) h in
    let room = h.room in
    let none = ap length e in
    absurd (omega (arith, some, room, none))

-- what was read at a leaf's place
pub read_none : {X : Type 0} (o : Option X) (contents : ℕ → List ℕ) (x : Leaf) (bytes : List ℕ) → bytes ≡ take x.len (drop x.offs (contents x.lnum)) → IfNone o ((sqnum group : ℕ) (node : LeafNode) → IsLeafNode bytes sqnum group node → ⊥) → IfNone o (HasWholeLeaf contents x → ⊥)
read_none (Some y) contents x bytes e h = tt
read_none None contents x bytes e h = λ there. (let P : List ℕ → Type 0 = λ b. IsLeafNode b there.sqnum there.group there.node in h there.sqnum there.group there.node (subst P (sym e) there.is))

pub read_some : (o : Option Found) (contents : ℕ → List ℕ) (x : Leaf) (bytes buffer : List ℕ) → bytes ≡ take x.len (drop x.offs (contents x.lnum)) → take x.len buffer ≡ bytes → length bytes ≡ x.len → x.offs + x.len ≤ length (contents x.lnum)
    → IfSome o (λ found. (node : LeafNode) × IsWholeLeaf bytes found node) → IfSome o (IsLeafRead contents x buffer)
read_some None contents x bytes buffer e f long room h = tt
read_some (Some found) contents x bytes buffer e f long room h =
    let P : List ℕ → Type 0 = λ b. IsLeafNode b found.sqnum found.group h.0 in
    record { node = h.0; room = room; bytes = f ∙ e; len = h.1.len ∙ long; kind = h.1.kind; is = subst P (sym f) h.1.is }
