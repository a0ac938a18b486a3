-- What begins at a place, told by the tests that the code makes.
use Rattle.std.proofs.Common.{◌≡◌, ℕ, ◌+◌, ◌-◌, ◌%◌, ◌<◌, ◌≤◌, Bool, true, false, List, length, take, drop, replicate, min, Option, Some, None, IfNone, Result, Ok, ap, sym, ◌∙◌, subst, arith, length-drop}
use Rattle.std.specs.Prelude.{if◌then◌else◌}
use Rattle.byteorder.specs.Endian.{little_number}
use Rattle.ubifs_base.specs.Frame.{HasHead, unframed}
use Rattle.ubifs_base.specs.NodeLaws.{IsBytes, unframed-has_head, unframed-ok}
use Rattle.ubifs_base.specs.NodeType.{type_number, type_numbered, type-numbered}
use Rattle.ubifs_base.specs.declared.header.Head.{Head}
use Rattle.ubifs_base.specs.declared.node_type.NodeType.{NodeType}
use Rattle.ubifs_base.specs.declared.node_type.NodeType.TheVariants as types
use Rattle.ubifs_base.specs.declared.header.FrameFault.{FrameFault}
use Rattle.node_fields.specs.Form.{IsBody}
use Rattle.media_leaf.specs.LeafNode.{LeafNode, inode, block, entry, truncation, leaf_form}
use Rattle.media_sys.specs.SystemNode.{SystemNode, padding, superblock, master, reference, index, commit_start, orphans, system_form}
use Rattle.leb_scan.specs.Known.{IsBodyOf}
use Rattle.leb_scan.specs.Text.{AnyNode, leaf, system, kind_of, StandsAt, IsNodeAt, IsPaddingAt, IsWordAt, Begins, up_to_8}
use Rattle.leb_scan.specs.declared.found.Found.{Found}
use Rattle.leb_scan.specs.declared.item.Item.{Item}
use Rattle.leb_scan.specs.declared.item.Item.TheVariants.{Node, Padding, Word}
use Rattle.leb_scan.proofs.Heads.{head_of, standing}
use Rattle.leb_scan.proofs.OneItem.{long_node, one_found, padded}
use Rattle.leb_scan.proofs.Unwritten.{word_long}

-- a node's header is read
pub read_head : (leb : List ℕ) (place : ℕ) (found : Found) (node : AnyNode) → IsBytes leb → StandsAt leb place found node → unframed (drop place leb) ≡ Ok (head_of found)
read_head leb place found node fits h = unframed-has_head (drop place leb) (head_of found) (standing leb place found node fits h).head

pub head_there : (leb rest : List ℕ) (place : ℕ) (r : Result Head FrameFault) (head : Head) → rest ≡ drop place leb → r ≡ unframed rest → r ≡ Ok head → HasHead (drop place leb) head
head_there leb rest place r head there exact is = unframed-ok (drop place leb) head (sym (ap unframed there) ∙ sym exact ∙ is)

-- where none is read no node stands
pub no_head : (leb rest : List ℕ) (place : ℕ) (r : Result Head FrameFault) → IsBytes leb → rest ≡ drop place leb → r ≡ unframed rest → ((head : Head) → r ≡ Ok head → ⊥)
    → (found : Found) (node : AnyNode) → StandsAt leb place found node → ⊥
no_head leb rest place r fits there exact none found node h = none (head_of found) (exact ∙ ap unframed there ∙ read_head leb place found node fits h)

-- the body behind the header
pub body_there : (leb rest front body : List ℕ) (place len : ℕ) → rest ≡ drop place leb → front ≡ take len rest → body ≡ drop 24 front → body ≡ drop 24 (take len (drop place leb))
body_there leb rest front body place len there front_is body_is = body_is ∙ ap (drop 24) front_is ∙ ap (λ (b : List ℕ). drop 24 (take len b)) there

-- and is the header that stands there
pub same_group : (leb : List ℕ) (place : ℕ) (head : Head) (found : Found) (node : AnyNode) → IsBytes leb → HasHead (drop place leb) head → StandsAt leb place found node → head.group ≤ 2
same_group leb place head found node fits read h =
    let is = standing leb place found node fits h in
    let known = is.known in
    let same : head.group ≡ found.group = read.group ∙ sym is.head.group in
    omega (arith, known, same)

pub same_body : (leb : List ℕ) (place : ℕ) (head : Head) (found : Found) (node : AnyNode) → IsBytes leb → HasHead (drop place leb) head → StandsAt leb place found node
    → IsBodyOf head.kind (drop 24 (take head.len (drop place leb))) node
same_body leb place head found node fits read h =
    let is = standing leb place found node fits h in
    let kind : type_number found.kind ≡ head.kind = is.head.kind ∙ sym read.kind in
    let len : found.len ≡ head.len = is.head.len ∙ sym read.len in
    let P : ℕ → Type 0 = λ k. IsBodyOf k (drop 24 (take found.len (drop place leb))) node in
    let Q : ℕ → Type 0 = λ l. IsBodyOf head.kind (drop 24 (take l (drop place leb))) node in
    subst Q len (subst P kind is.body)

-- where a header has no type that is known no node stands
pub no_type : (leb : List ℕ) (place : ℕ) (head : Head) (r : Option NodeType) → IsBytes leb → HasHead (drop place leb) head → r ≡ type_numbered head.kind → ((kind : NodeType) → r ≡ Some kind → ⊥)
    → (found : Found) (node : AnyNode) → StandsAt leb place found node → ⊥
no_type leb place head r fits read exact none found node h =
    let is = standing leb place found node fits h in
    none found.kind (exact ∙ ap type_numbered (read.kind ∙ sym is.head.kind) ∙ type-numbered found.kind)

-- a leaf is no padding node
entry_other : (attribute : Bool) → (if attribute then types.Attribute else types.Entry) ≡ types.Padding → ⊥
entry_other true h = absurd cc
entry_other false h = absurd cc

leaf_other : (node : LeafNode) → kind_of (leaf node) ≡ types.Padding → ⊥
leaf_other (inode node) h = absurd cc
leaf_other (block node) h = absurd cc
leaf_other (entry node) h = entry_other node.attribute h
leaf_other (truncation node) h = absurd cc

-- a node of the type of padding is a padding node
pub record IsPadAt (leb : List ℕ) (place : ℕ) (found : Found) : Type 0 where
  pub pad_len : ℕ
  pub stands : StandsAt leb place found (system (padding (record { pad_len = pad_len })))

system_padding : (leb : List ℕ) (place : ℕ) (found : Found) (node : SystemNode) → StandsAt leb place found (system node) → kind_of (system node) ≡ types.Padding → IsPadAt leb place found
system_padding leb place found (padding node) h is = record { pad_len = node.pad_len; stands = h }
system_padding leb place found (superblock node) h is = absurd cc
system_padding leb place found (master node) h is = absurd cc
system_padding leb place found (reference node) h is = absurd cc
system_padding leb place found (index node) h is = absurd cc
system_padding leb place found (commit_start node) h is = absurd cc
system_padding leb place found (orphans node) h is = absurd cc

pub padding_there : (leb : List ℕ) (place : ℕ) (found : Found) (node : AnyNode) → StandsAt leb place found node → found.kind ≡ types.Padding → IsPadAt leb place found
padding_there leb place found (leaf node) h kind = absurd (leaf_other node (sym h.kind ∙ kind))
padding_there leb place found (system node) h kind = system_padding leb place found node h (sym h.kind ∙ kind)

-- a padding node has room for its length
pub pad_room : (leb : List ℕ) (place : ℕ) (found : Found) → IsBytes leb → IsPadAt leb place found → 28 ≤ length (drop place leb)
pad_room leb place found fits h =
    let len = (padded leb place found h.pad_len fits h.stands).len in
    let high = (standing leb place found (system (padding (record { pad_len = h.pad_len }))) fits h.stands).head.high in
    omega (arith, len, high)

pub padding_begins : (leb : List ℕ) (place : ℕ) (found : Found) (pad_len : ℕ) → IsBytes leb → IsPadAt leb place found → pad_len ≡ little_number 4 (drop 24 (drop place leb))
    → 28 + pad_len ≤ length (drop place leb) → (28 + pad_len) % 8 ≡ 0 → IsPaddingAt leb place found pad_len
padding_begins leb place found pad_len fits h is inside even =
    let same : h.pad_len ≡ pad_len = sym (is ∙ (padded leb place found h.pad_len fits h.stands).pad_len_is) in
    let P : ℕ → Type 0 = λ n. StandsAt leb place found (system (padding (record { pad_len = n }))) in
    let size : length (drop place leb) ≡ length leb - place = length-drop place leb in
    record { stands = subst P same h.stands; inside = omega (arith, inside, size); even = even }

pub announced : (leb : List ℕ) (place : ℕ) (found : Found) (pad_len : ℕ) → IsBytes leb → IsPaddingAt leb place found pad_len → little_number 4 (drop 24 (drop place leb)) ≡ pad_len
announced leb place found pad_len fits h = (padded leb place found pad_len fits h.stands).pad_len_is

-- no node and no word is no item
pub no_node : (leb : List ℕ) (place : ℕ) → (IsWordAt leb place → ⊥) → ((found : Found) (node : AnyNode) → StandsAt leb place found node → ⊥) → (item : Item) → Begins leb place item → ⊥
no_node leb place word none (Node found) h = none found h.node h.stands
no_node leb place word none (Padding found pad_len) h = none found (system (padding (record { pad_len = pad_len }))) h.stands
no_node leb place word none Word h = word h

-- nor is a padding node with no gap
pub no_padding : (leb : List ℕ) (place : ℕ) (found : Found) (node : AnyNode) → IsBytes leb → (IsWordAt leb place → ⊥) → StandsAt leb place found node → found.kind ≡ types.Padding
    → ((pad_len : ℕ) → IsPaddingAt leb place found pad_len → ⊥) → (item : Item) → Begins leb place item → ⊥
no_padding leb place found node fits word stands kind none (Node other) h =
    let same = one_found leb place other found h.node node fits h.stands stands in
    h.other (ap (λ (f : Found). f.kind) same ∙ kind)
no_padding leb place found node fits word stands kind none (Padding other pad_len) h =
    let same = one_found leb place other found (system (padding (record { pad_len = pad_len }))) node fits h.stands stands in
    let P : Found → Type 0 = λ f. IsPaddingAt leb place f pad_len in
    none pad_len (subst P same h)
no_padding leb place found node fits word stands kind none Word h = word h

-- an item ends behind its place
pub node_later : (leb : List ℕ) (place : ℕ) (found : Found) → IsBytes leb → IsNodeAt leb place found → place < min (up_to_8 (place + found.len)) (length leb)
node_later leb place found fits h =
    let room = h.stands.room in
    let long = long_node leb place found h.node fits h.stands in
    omega (arith, room, long)

pub word_room : (leb : List ℕ) (place : ℕ) → IsWordAt leb place → place + 8 ≤ length leb
word_room leb place h =
    let long = word_long (drop place leb) h in
    let size : length (drop place leb) ≡ length leb - place = length-drop place leb in
    omega (arith, long, size)

pub not_word : (leb rest : List ℕ) (place : ℕ) (b : Bool) → rest ≡ drop place leb → (take 8 rest ≡ replicate 8 0xCE → b ≡ true) → b ≡ false → IsWordAt leb place → ⊥
not_word leb rest place b there test off word = let e : b ≡ true = test (ap (take 8) there ∙ word) in absurd cc

-- none where the gap is none
pub none_padding : (leb : List ℕ) (place : ℕ) (found : Found) (node : AnyNode) (r : Option Item) → IsBytes leb → (IsWordAt leb place → ⊥) → StandsAt leb place found node → found.kind ≡ types.Padding
    → IfNone r ((pad_len : ℕ) → IsPaddingAt leb place found pad_len → ⊥) → IfNone r ((item : Item) → Begins leb place item → ⊥)
none_padding leb place found node (Some item) fits word stands kind none = tt
none_padding leb place found node None fits word stands kind none = no_padding leb place found node fits word stands kind none

known_node : (kind : ℕ) (body : List ℕ) (a b : Bool) → a ≡ false → ((node : LeafNode) × IsBody leaf_form kind body node → a ≡ true) → ((node : SystemNode) × IsBody system_form kind body node → b ≡ true)
    → (node : AnyNode) → IsBodyOf kind body node → b ≡ true
known_node kind body a b off leaves systems (leaf node) h = let yes : a ≡ true = leaves (node, h) in absurd cc
known_node kind body a b off leaves systems (system node) h = systems (node, h)

-- a leaf or else a system node
pub known_else : (kind : ℕ) (body : List ℕ) (a b : Bool) → a ≡ false → ((node : LeafNode) × IsBody leaf_form kind body node → a ≡ true) → ((node : SystemNode) × IsBody system_form kind body node → b ≡ true)
    → (node : AnyNode) × IsBodyOf kind body node → b ≡ true
known_else kind body a b off leaves systems h = known_node kind body a b off leaves systems h.0 h.1
