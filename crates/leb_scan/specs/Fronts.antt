-- LEBs that begin alike, and the items that stand there.
use Rattle.std.proofs.Common.{◌≡◌, ℕ, ◌+◌, ◌-◌, ◌≤◌, List, [], ◌∷◌, ◌++◌, length, take, drop, min, refl, ap, sym, ◌∙◌, subst, arith, length-drop}
use Rattle.std.proofs.lemmas.List.{drop-take, take-take, length-take-le}
use Rattle.ubifs_base.specs.Node.{node_bytes}
use Rattle.ubifs_base.specs.NodeType.{type_number}
use Rattle.ubifs_base.specs.declared.node_type.NodeType.TheVariants as types
use Rattle.node_fields.specs.FieldLaws.{reads_back, length-read}
use Rattle.media_sys.specs.SystemNode.{padding, fields_of, IsSystemNode}
use Rattle.media_sys.specs.declared.pad_node.PadNode.{PadNode}
use Rattle.leb_scan.specs.Text.{AnyNode, IsAnyNode, StandsAt, IsPaddingAt, Begins, behind, up_to_8, Stand, nodes_of}
use Rattle.leb_scan.specs.Meant.{own_len, IsUntorn}
use Rattle.leb_scan.specs.TextLaws.{same_parts}
use Rattle.leb_scan.specs.declared.found.Found.{Found}
use Rattle.leb_scan.specs.declared.item.Item.{Item}
use Rattle.leb_scan.specs.declared.item.Item.TheVariants.{Node, Padding, Word}

-- a part of the beginning
pub same_part : (a b : List ℕ) (end place n : ℕ) → take end a ≡ take end b → place + n ≤ end → take n (drop place a) ≡ take n (drop place b)
same_part a b end place n same room =
    sym (drop-take place n a) ∙ ap (drop place) (sym (take-take (place + n) end a room) ∙ ap (take (place + n)) same ∙ take-take (place + n) end b room) ∙ drop-take place n b

-- a header has 24 bytes
node_length : (sqnum kind group : ℕ) (pad body : List ℕ) → length pad ≡ 2 → length (node_bytes sqnum kind group pad body) ≡ 24 + length body
unfolding node_bytes
node_length sqnum kind group [] body two = absurd (omega (arith, two))
node_length sqnum kind group (a ∷ []) body two = absurd (omega (arith, two))
node_length sqnum kind group (a ∷ b ∷ []) body two = omega arith
node_length sqnum kind group (a ∷ b ∷ x ∷ pad) body two = absurd (omega (arith, two))

-- a padding node has 28
padding_length : (bytes : List ℕ) (sqnum group : ℕ) (node : PadNode) → IsSystemNode bytes sqnum group (padding node) → length bytes ≡ 28
padding_length bytes sqnum group node h =
    let body : length h.body ≡ 4 = length-read (fields_of (padding node)) [] h.body (reads_back 0 (fields_of (padding node)) [] h.body (omega arith) h.spelled) in
    ap length h.framed.spelled ∙ node_length sqnum (type_number types.Padding) group h.framed.padding h.body h.framed.two ∙ ap (λ (n : ℕ). 24 + n) body

pub short_padding : (leb : List ℕ) (place : ℕ) (found : Found) (pad_len : ℕ) → IsPaddingAt leb place found pad_len → found.len ≡ 28
short_padding leb place found pad_len h =
    let room = h.stands.room in
    let size : length (drop place leb) ≡ length leb - place = length-drop place leb in
    let high : found.len ≤ length (drop place leb) = omega (arith, room, size) in
    sym (length-take-le found.len (drop place leb) high) ∙ padding_length (take found.len (drop place leb)) found.sqnum found.group (record { pad_len = pad_len }) h.stands.is

-- an item's own bytes end in front of the next item, or where it begins
pub own_before : (leb : List ℕ) (place : ℕ) (item : Item) → Begins leb place item → place + own_len item ≤ behind leb place item
own_before leb place (Node found) h = let room = h.stands.room in omega (arith, room)
own_before leb place (Padding found pad_len) h = let len = short_padding leb place found pad_len h in omega (arith, len)
own_before leb place Word h = omega arith

-- items don't end in front of where they begin
pub not_before : (leb : List ℕ) (place end : ℕ) (items : List Item) → Stand leb place items end → place ≤ end
not_before leb place end [] h = omega (arith, h)
not_before leb place end (item ∷ items) h =
    let first = own_before leb place item h.0 in
    let rest = not_before leb (behind leb place item) end items h.1 in
    omega (arith, first, rest)

stands_alike : (a b : List ℕ) (place : ℕ) (found : Found) (node : AnyNode) → length a ≡ length b → take found.len (drop place a) ≡ take found.len (drop place b) → StandsAt a place found node → StandsAt b place found node
stands_alike a b place found node long same h =
    let P : List ℕ → Type 0 = λ bytes. IsAnyNode bytes found.sqnum found.group node in
    let room = h.room in
    record { here = h.here; room = omega (arith, room, long); kind = h.kind; is = subst P same h.is }

-- where an item's own bytes stand, it begins
pub begins_alike : (a b : List ℕ) (place : ℕ) (item : Item) → length a ≡ length b → IsUntorn b place item a → Begins a place item → Begins b place item
begins_alike a b place (Node found) long same h = record { node = h.node; stands = stands_alike a b place found h.node long same h.stands; other = h.other }
begins_alike a b place (Padding found pad_len) long same h =
    let inside = h.inside in
    record { stands = stands_alike a b place found _ long same h.stands; inside = omega (arith, inside, long); even = h.even }
begins_alike a b place Word long same h = sym same ∙ h

-- and ends at the same place
pub behind_alike : (a b : List ℕ) (place : ℕ) (item : Item) → length a ≡ length b → behind a place item ≡ behind b place item
behind_alike a b place (Node found) long = ap (λ (n : ℕ). min (up_to_8 (place + found.len)) n) long
behind_alike a b place (Padding found pad_len) long = refl
behind_alike a b place Word long = refl

-- items that stand where two LEBs are alike stand in both
pub stand_alike : (a b : List ℕ) (end place : ℕ) (items : List Item) → take end a ≡ take end b → length a ≡ length b → Stand a place items end → Stand b place items end
stand_alike a b end place [] same long h = h
stand_alike a b end place (item ∷ items) same long h =
    let own = own_before a place item h.0 in
    let rest = not_before a (behind a place item) end items h.1 in
    let alike : IsUntorn b place item a = same_part a b end place (own_len item) same (omega (arith, own, rest)) in
    let P : ℕ → Type 0 = λ next. Stand b next items end in
    (begins_alike a b place item long alike h.0, subst P (behind_alike a b place item long) (stand_alike a b end (behind a place item) items same long h.1))

-- each node ends within them
pub within : (leb : List ℕ) (items : List Item) (place end : ℕ) (before rest : List Found) (found : Found) → Stand leb place items end → nodes_of items ≡ before ++ (found ∷ rest) → found.offs + found.len ≤ end
within leb [] place end [] rest found h e = absurd cc
within leb [] place end (b ∷ before) rest found h e = absurd cc
within leb (Word ∷ items) place end before rest found h e = within leb items (behind leb place Word) end before rest found h.1 e
within leb (Node first ∷ items) place end [] rest found h e =
    let P : Found → Type 0 = λ f. f.offs + f.len ≤ end in
    let own = own_before leb place (Node first) h.0 in
    let here = h.0.stands.here in
    let later = not_before leb (behind leb place (Node first)) end items h.1 in
    let fits : first.offs + first.len ≤ end = omega (arith, own, here, later) in
    subst P (same_parts first found (nodes_of items) rest e).0 fits
within leb (Node first ∷ items) place end (b ∷ before) rest found h e =
    within leb items (behind leb place (Node first)) end before rest found h.1 (same_parts first b (nodes_of items) (before ++ (found ∷ rest)) e).1
within leb (Padding first pad_len ∷ items) place end [] rest found h e =
    let P : Found → Type 0 = λ f. f.offs + f.len ≤ end in
    let own = own_before leb place (Padding first pad_len) h.0 in
    let here = h.0.stands.here in
    let later = not_before leb (behind leb place (Padding first pad_len)) end items h.1 in
    let fits : first.offs + first.len ≤ end = omega (arith, own, here, later) in
    subst P (same_parts first found (nodes_of items) rest e).0 fits
within leb (Padding first pad_len ∷ items) place end (b ∷ before) rest found h e =
    within leb items (behind leb place (Padding first pad_len)) end before rest found h.1 (same_parts first b (nodes_of items) (before ++ (found ∷ rest)) e).1
