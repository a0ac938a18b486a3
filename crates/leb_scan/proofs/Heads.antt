-- A node at a place is told by the header there, by its body and by nothing else.
use Rattle.std.proofs.Common.{◌≡◌, Bool, true, false, Some, ℕ, zero, suc, ◌+◌, ◌-◌, ◌^◌, ◌<◌, ◌≤◌, List, [], ◌∷◌, length, take, drop, get_or, refl, ap, sym, ◌∙◌, subst, arith, length-drop, get_or-drop, take_all}
use Rattle.std.proofs.lemmas.List.{drop-take, length-take-le, get_or-take}
use Rattle.std.specs.Prelude.{if◌then◌else◌}
use Rattle.byteorder.specs.Endian.{little_number}
use Rattle.byteorder.specs.Numbers.{little_from-take}
use Rattle.ubifs_base.specs.Crc.{crc32_of}
use Rattle.ubifs_base.specs.Frame.{HasHead}
use Rattle.ubifs_base.specs.NodeLaws.{IsBytes, has_head, is_node}
use Rattle.ubifs_base.specs.Node.{IsNode}
use Rattle.ubifs_base.specs.NodeType.{type_number, type_numbered, type-numbered}
use Rattle.ubifs_base.specs.declared.header.Head.{Head}
use Rattle.ubifs_base.specs.declared.node_type.NodeType.{NodeType}
use Rattle.ubifs_base.specs.declared.node_type.NodeType.TheVariants as types
use Rattle.node_fields.specs.Form.{Form, IsBody, IsOf}
use Rattle.media_leaf.specs.LeafNode.{inode, block, entry, truncation, leaf_form}
use Rattle.media_sys.specs.SystemNode.{system_form}
use Rattle.leb_scan.specs.Known.{IsBodyOf}
use Rattle.leb_scan.specs.Text.{AnyNode, leaf, system, kind_of, IsAnyNode, StandsAt}
use Rattle.leb_scan.specs.TypeLaws.{some_same}
use Rattle.leb_scan.specs.declared.found.Found.{Found}

-- a number within the front of the bytes
pub number_front : (m n len : ℕ) (bytes : List ℕ) → n + m ≤ len → little_number m (drop n (take len bytes)) ≡ little_number m (drop n bytes)
number_front m n len bytes room =
    let e : len ≡ n + (len - n) = omega (arith, room) in
    ap (λ (k : ℕ). little_number m (drop n (take k bytes))) e ∙ ap (little_number m) (drop-take n (len - n) bytes) ∙ little_from-take 0 m (len - n) (drop n bytes) (omega (arith, room))

-- the front of the bytes has the header that the bytes have
pub front_head : (bytes : List ℕ) (head : Head) → HasHead bytes head → HasHead (take head.len bytes) head
front_head bytes head h =
    let len = head.len in
    let low = h.low in
    let long : length (take len bytes) ≡ len = length-take-le len bytes h.high in
    record {
      long = omega (arith, long, low);
      magic = number_front 4 0 len bytes (omega (arith, low)) ∙ h.magic;
      low = low;
      high = omega (arith, long);
      crc = number_front 4 4 len bytes (omega (arith, low)) ∙ h.crc ∙ ap (λ (b : List ℕ). crc32_of (drop 8 b)) (sym (take_all len (take len bytes) (omega (arith, long))));
      sqnum = h.sqnum ∙ sym (number_front 8 8 len bytes (omega (arith, low)));
      len = h.len ∙ sym (number_front 4 16 len bytes (omega (arith, low)));
      kind = h.kind ∙ sym (get_or-take len bytes 20 0 (omega (arith, low)));
      group = h.group ∙ sym (get_or-take len bytes 21 0 (omega (arith, low)));
    }

-- and the other way round
pub whole_head : (bytes : List ℕ) (head : Head) → head.len ≤ length bytes → HasHead (take head.len bytes) head → HasHead bytes head
whole_head bytes head high h =
    let len = head.len in
    let low = h.low in
    let long : length (take len bytes) ≡ len = length-take-le len bytes high in
    record {
      long = omega (arith, high, low);
      magic = sym (number_front 4 0 len bytes (omega (arith, low))) ∙ h.magic;
      low = low;
      high = high;
      crc = sym (number_front 4 4 len bytes (omega (arith, low))) ∙ h.crc ∙ ap (λ (b : List ℕ). crc32_of (drop 8 b)) (take_all len (take len bytes) (omega (arith, long)));
      sqnum = h.sqnum ∙ number_front 8 8 len bytes (omega (arith, low));
      len = h.len ∙ number_front 4 16 len bytes (omega (arith, low));
      kind = h.kind ∙ get_or-take len bytes 20 0 (omega (arith, low));
      group = h.group ∙ get_or-take len bytes 21 0 (omega (arith, low));
    }

pub bytes_drop : (n : ℕ) (bytes : List ℕ) → IsBytes bytes → IsBytes (drop n bytes)
bytes_drop n bytes fits = λ i. rw get_or-drop (fits (n + i))

bytes_cons : (x : ℕ) (bytes : List ℕ) → x < 256 → IsBytes bytes → (i : ℕ) → get_or (x ∷ bytes) i 0 < 256
bytes_cons x bytes first rest zero = first
bytes_cons x bytes first rest (suc i) = rest i

pub bytes_take : (n : ℕ) (bytes : List ℕ) → IsBytes bytes → IsBytes (take n bytes)
bytes_take zero bytes fits = λ i. omega arith
bytes_take (suc n) [] fits = fits
bytes_take (suc n) (x ∷ bytes) fits = bytes_cons x (take n bytes) (fits 0) (bytes_take n bytes (λ i. fits (suc i)))

-- what a node's bytes say of their header and body
pub record IsHeaded (bytes : List ℕ) (sqnum group kind : ℕ) : Type 0 where
  pub head : HasHead bytes (record { sqnum = sqnum; len = length bytes; kind = kind; group = group })
  pub known : group ≤ 2

of_form : {N : Type 0} (form : Form N) (bytes : List ℕ) (sqnum group : ℕ) (node : N) → IsBytes bytes → IsOf form bytes sqnum group node
    → IsHeaded bytes sqnum group (form.type_of node) × IsBody form (form.type_of node) (drop 24 bytes) node
of_form form bytes sqnum group node fits h =
    let head = has_head bytes h.body sqnum (form.type_of node) group fits h.framed in
    let P : List ℕ → Type 0 = λ b. IsBody form (form.type_of node) b node in
    (record { head = head.0; known = h.framed.group_known }, subst P (sym head.1) (record { kind_is = refl; spelled = h.spelled; is = h.is }))

-- the number of a node's type is that of its header
abbrev pub header_number : AnyNode → ℕ
header_number (leaf node) = leaf_form.type_of node
header_number (system node) = system_form.type_of node

entry_numbered : (attribute : Bool) → type_number (if attribute then types.Attribute else types.Entry) ≡ (if attribute then type_number types.Attribute else type_number types.Entry)
entry_numbered true = refl
entry_numbered false = refl

pub numbered : (node : AnyNode) → header_number node ≡ type_number (kind_of node)
numbered (leaf (inode node)) = refl
numbered (leaf (block node)) = refl
numbered (leaf (entry node)) = sym (entry_numbered node.attribute)
numbered (leaf (truncation node)) = refl
numbered (system node) = refl

any_headed : (bytes : List ℕ) (sqnum group : ℕ) (node : AnyNode) → IsBytes bytes → IsAnyNode bytes sqnum group node
    → IsHeaded bytes sqnum group (header_number node) × IsBodyOf (header_number node) (drop 24 bytes) node
any_headed bytes sqnum group (leaf node) fits h = of_form leaf_form bytes sqnum group node fits h
any_headed bytes sqnum group (system node) fits h = of_form system_form bytes sqnum group node fits h

to_form : {N : Type 0} (form : Form N) (bytes : List ℕ) (head : Head) (node : N) → IsBytes bytes → HasHead bytes head → head.len ≡ length bytes → head.group ≤ 2 → length bytes < 2 ^ 32
    → IsBody form head.kind (drop 24 bytes) node → IsOf form bytes head.sqnum head.group node
to_form form bytes head node fits h len group top is =
    let P : ℕ → Type 0 = λ k. IsNode bytes head.sqnum k head.group (drop 24 bytes) in
    record { body = drop 24 bytes; framed = subst P is.kind_is (is_node bytes head fits h len group top); spelled = is.spelled; is = is.is }

any_from : (bytes : List ℕ) (head : Head) (node : AnyNode) → IsBytes bytes → HasHead bytes head → head.len ≡ length bytes → head.group ≤ 2 → length bytes < 2 ^ 32
    → IsBodyOf head.kind (drop 24 bytes) node → IsAnyNode bytes head.sqnum head.group node × (head.kind ≡ header_number node)
any_from bytes head (leaf node) fits h len group top is = (to_form leaf_form bytes head node fits h len group top is, is.kind_is)
any_from bytes head (system node) fits h len group top is = (to_form system_form bytes head node fits h len group top is, is.kind_is)

-- the header that was found
abbrev pub head_of : Found → Head
head_of found = record { sqnum = found.sqnum; len = found.len; kind = type_number found.kind; group = found.group }

-- what is found where a header is read
abbrev pub found_at : ℕ → NodeType → Head → Found
found_at place kind head = record { offs = place; len = head.len; kind = kind; group = head.group; sqnum = head.sqnum }

-- the header and the body that stand where a node stands
pub record IsStanding (leb : List ℕ) (place : ℕ) (found : Found) (node : AnyNode) : Type 0 where
  pub head : HasHead (drop place leb) (head_of found)
  pub known : found.group ≤ 2
  pub body : IsBodyOf (type_number found.kind) (drop 24 (take found.len (drop place leb))) node

pub standing : (leb : List ℕ) (place : ℕ) (found : Found) (node : AnyNode) → IsBytes leb → StandsAt leb place found node → IsStanding leb place found node
standing leb place found node fits h =
    let rest = drop place leb in
    let front = take found.len rest in
    let room = h.room in
    let high : found.len ≤ length rest = rw length-drop (omega (arith, room)) in
    let long : length front ≡ found.len = length-take-le found.len rest high in
    let both = any_headed front found.sqnum found.group node (bytes_take found.len rest (bytes_drop place leb fits)) h.is in
    let P : ℕ → Type 0 = λ len. HasHead front (record { sqnum = found.sqnum; len = len; kind = header_number node; group = found.group }) in
    let Q : ℕ → Type 0 = λ kind. HasHead front (record { sqnum = found.sqnum; len = found.len; kind = kind; group = found.group }) in
    let R : ℕ → Type 0 = λ kind. IsBodyOf kind (drop 24 front) node in
    let same : header_number node ≡ type_number found.kind = numbered node ∙ ap type_number (sym h.kind) in
    record {
      head = whole_head rest (head_of found) high (subst Q same (subst P long both.0.head));
      known = both.0.known;
      body = subst R same both.1;
    }

type_told : (kind : NodeType) (node : AnyNode) (number : ℕ) → type_numbered number ≡ Some kind → number ≡ header_number node → kind ≡ kind_of node
type_told kind node number known is = some_same kind (kind_of node) (sym known ∙ ap type_numbered (is ∙ numbered node) ∙ type-numbered (kind_of node))

-- a header that is read and a body that is a node's are a node that stands there
pub stands : (leb : List ℕ) (place : ℕ) (kind : NodeType) (head : Head) (node : AnyNode) → IsBytes leb → place ≤ length leb → length leb < 2 ^ 32 → HasHead (drop place leb) head → head.group ≤ 2
    → type_numbered head.kind ≡ Some kind → IsBodyOf head.kind (drop 24 (take head.len (drop place leb))) node → StandsAt leb place (found_at place kind head) node
stands leb place kind head node fits within top h group known is =
    let rest = drop place leb in
    let front = take head.len rest in
    let high = h.high in
    let size : length rest ≡ length leb - place = length-drop place leb in
    let long : length front ≡ head.len = length-take-le head.len rest high in
    let both = any_from front head node (bytes_take head.len rest (bytes_drop place leb fits)) (front_head rest head h) (sym long) group (omega (arith, long, high, size, top)) is in
    record { here = refl; room = omega (arith, high, size, within); kind = type_told kind node head.kind known both.1; is = both.0 }
