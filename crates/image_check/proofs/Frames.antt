-- Frames at a place, and the features that they need.
use Rattle.std.proofs.Common.{◌≡◌, ℕ, zero, suc, ◌+◌, ◌-◌, ◌^◌, ◌<◌, ◌≤◌, List, [], ◌∷◌, Some, Option, None, Result, Ok, length, take, drop, refl, ap, sym, ◌∙◌, subst, arith, length-drop, get_or-drop, take_all, inl, inr}
use Rattle.std.specs.Prelude.{IfSome}
use Rattle.std.proofs.lemmas.List.{drop-take, length-take-le, get_or-take}
use Rattle.byteorder.specs.Endian.{little_number}
use Rattle.byteorder.specs.Numbers.{little_from-take}
use Rattle.ubifs_base.specs.Crc.{crc32_of}
use Rattle.ubifs_base.specs.Frame.{HasHead, unframed}
use Rattle.ubifs_base.specs.NodeLaws.{IsBytes, has_head, is_node, unframed-has_head}
use Rattle.ubifs_base.specs.Node.{IsNode}
use Rattle.ubifs_base.specs.NodeType.{type_number}
use Rattle.ubifs_base.specs.declared.header.FrameFault.{FrameFault}
use Rattle.ubifs_base.specs.declared.header.Head.{Head}
use Rattle.ubifs_base.specs.declared.node_type.NodeType.{NodeType}
use Rattle.ubifs_base.specs.declared.node_type.NodeType.TheVariants as types
use Rattle.media_sys.specs.declared.feature.Feature.{Feature}
use Rattle.sound_image.specs.Frames.{HasAttributes, HasFrameAt, IsCompressed, NeedsFeature}
use Rattle.image_check.specs.Needs.{IsNeededBy}

-- a number within the front of the bytes
number_front : (m n len : ℕ) (bytes : List ℕ) → n + m ≤ len → little_number m (drop n (take len bytes)) ≡ little_number m (drop n bytes)
number_front m n len bytes room =
    let e : len ≡ n + (len - n) = omega (arith, room) in
    ap (λ (k : ℕ). little_number m (drop n (take k bytes))) e ∙ ap (little_number m) (drop-take n (len - n) bytes) ∙ little_from-take 0 m (len - n) (drop n bytes) (omega (arith, room))

-- the front of the bytes has the header that the bytes have
front_head : (bytes : List ℕ) (head : Head) → HasHead bytes head → HasHead (take head.len bytes) head
front_head bytes head h =
    let len = head.len in
    let low = h.low in
    let long : length (take len bytes) ≡ len = length-take-le len bytes h.high in
    record {
      long = omega (arith, long, low);
      magic = number_front 4 0 len bytes (omega (arith, low)) ∙ h.magic;
      low = low;
      high = omega (arith, long);
      crc = number_front 4 4 len bytes (omega (arith, low)) ∙ h.crc ∙ ap (λ (b : List ℕ). crc32_of (drop 8 b)) (sym (take_all len (take len bytes) (omega (arith, long))));
      sqnum = h.sqnum ∙ sym (number_front 8 8 len bytes (omega (arith, low)));
      len = h.len ∙ sym (number_front 4 16 len bytes (omega (arith, low)));
      kind = h.kind ∙ sym (get_or-take len bytes 20 0 (omega (arith, low)));
      group = h.group ∙ sym (get_or-take len bytes 21 0 (omega (arith, low)));
    }

-- and the other way round
whole_head : (bytes : List ℕ) (head : Head) → head.len ≤ length bytes → HasHead (take head.len bytes) head → HasHead bytes head
whole_head bytes head high h =
    let len = head.len in
    let low = h.low in
    let long : length (take len bytes) ≡ len = length-take-le len bytes high in
    record {
      long = omega (arith, high, low);
      magic = sym (number_front 4 0 len bytes (omega (arith, low))) ∙ h.magic;
      low = low;
      high = high;
      crc = sym (number_front 4 4 len bytes (omega (arith, low))) ∙ h.crc ∙ ap (λ (b : List ℕ). crc32_of (drop 8 b)) (take_all len (take len bytes) (omega (arith, long)));
      sqnum = h.sqnum ∙ number_front 8 8 len bytes (omega (arith, low));
      len = h.len ∙ number_front 4 16 len bytes (omega (arith, low));
      kind = h.kind ∙ get_or-take len bytes 20 0 (omega (arith, low));
      group = h.group ∙ get_or-take len bytes 21 0 (omega (arith, low));
    }

bytes_drop : (n : ℕ) (bytes : List ℕ) → IsBytes bytes → IsBytes (drop n bytes)
bytes_drop n bytes fits = λ i. rw get_or-drop (fits (n + i))

bytes_take : (n : ℕ) (bytes : List ℕ) → IsBytes bytes → IsBytes (take n bytes)
bytes_take zero bytes fits i = omega arith
bytes_take (suc n) [] fits i = fits i
bytes_take (suc n) (x ∷ bytes) fits zero = fits 0
bytes_take (suc n) (x ∷ bytes) fits (suc i) = bytes_take n bytes (λ j. fits (suc j)) i

-- the header and the body of the frame that begins at a place
record IsFramed (rest body : List ℕ) (kind : ℕ) : Type 0 where
  head : Head
  has : HasHead rest head
  is_kind : head.kind ≡ kind
  known : head.group ≤ 2
  is_body : drop 24 (take head.len rest) ≡ body

framed : (leb body : List ℕ) (place : ℕ) (type : NodeType) → IsBytes leb → HasFrameAt leb place type body → IsFramed (drop place leb) body (type_number type)
framed leb body place type fits h =
    let rest = drop place leb in
    let front = take h.len rest in
    let room = h.room in
    let cut = length-drop place leb in
    let high : h.len ≤ length rest = omega (arith, room, cut) in
    let long : length front ≡ h.len = length-take-le h.len rest high in
    let own = has_head front body h.sqnum (type_number type) h.group (bytes_take h.len rest (bytes_drop place leb fits)) h.framed in
    let P : ℕ → Type 0 = λ len. HasHead front (record { sqnum = h.sqnum; len = len; kind = type_number type; group = h.group }) in
    record {
      head = record { sqnum = h.sqnum; len = h.len; kind = type_number type; group = h.group };
      has = whole_head rest (record { sqnum = h.sqnum; len = h.len; kind = type_number type; group = h.group }) high (subst P long own.0);
      is_kind = refl;
      known = h.framed.group_known;
      is_body = own.1;
    }

-- a header that is read is that of a frame
frame_from : (leb : List ℕ) (place : ℕ) (head : Head) (type : NodeType) → IsBytes leb → length leb < 2 ^ 32 → HasHead (drop place leb) head → head.group ≤ 2 → head.kind ≡ type_number type → HasFrameAt leb place type (drop 24 (take head.len (drop place leb)))
frame_from leb place head type fits top h known kind =
    let rest = drop place leb in
    let front = take head.len rest in
    let long : length front ≡ head.len = length-take-le head.len rest h.high in
    let cut = length-drop place leb in
    let high = h.high in
    let low = h.low in
    let P : ℕ → Type 0 = λ k. IsNode front head.sqnum k head.group (drop 24 front) in
    record {
      len = head.len;
      sqnum = head.sqnum;
      group = head.group;
      room = omega (arith, cut, high, low);
      framed = subst P kind (is_node front head (bytes_take head.len rest (bytes_drop place leb fits)) (front_head rest head h) (sym long) known (omega (arith, long, cut, high, top)));
    }

-- ---- what a place needs is what its frame needs
pub needs_by : (leb : List ℕ) (place : ℕ) (head : Head) (what : Feature) → IsBytes leb → length leb < 2 ^ 32 → HasHead (drop place leb) head → head.group ≤ 2 → IsNeededBy head.kind (drop 24 (take head.len (drop place leb))) what → NeedsFeature leb place what
needs_by leb place head what fits top h known (inl (is, kind, body)) = inl (is, _, frame_from leb place head types.Data fits top h known kind, body)
needs_by leb place head what fits top h known (inr (is, inl kind)) = inr (is, _, inl (frame_from leb place head types.Attribute fits top h known kind))
needs_by leb place head what fits top h known (inr (is, inr (kind, body))) = inr (is, _, inr (frame_from leb place head types.Inode fits top h known kind, body))

-- the frame that a need speaks of
pub record IsNeedOf (rest : List ℕ) (what : Feature) : Type 0 where
  pub head : Head
  pub has : HasHead rest head
  pub known : head.group ≤ 2
  pub needs : IsNeededBy head.kind (drop 24 (take head.len rest)) what

pub need_of : (leb : List ℕ) (place : ℕ) (what : Feature) → IsBytes leb → NeedsFeature leb place what → IsNeedOf (drop place leb) what
need_of leb place what fits (inl (is, body, frame, c)) =
    let f = framed leb body place types.Data fits frame in
    let P : List ℕ → Type 0 = λ b. IsCompressed b in
    record { head = f.head; has = f.has; known = f.known; needs = inl (is, f.is_kind, subst P (sym f.is_body) c) }
need_of leb place what fits (inr (is, body, inl frame)) =
    let f = framed leb body place types.Attribute fits frame in
    record { head = f.head; has = f.has; known = f.known; needs = inr (is, inl f.is_kind) }
need_of leb place what fits (inr (is, body, inr (frame, a))) =
    let f = framed leb body place types.Inode fits frame in
    let P : List ℕ → Type 0 = λ b. HasAttributes b in
    record { head = f.head; has = f.has; known = f.known; needs = inr (is, inr (f.is_kind, subst P (sym f.is_body) a)) }

ok_same : (a b : Head) → ◌≡◌ {A = Result Head FrameFault} (Ok a) (Ok b) → a ≡ b
ok_same a b e = cc

-- where a header was read, it is that one
pub need_here : (rest : List ℕ) (head : Head) (what : Feature) → IsNeedOf rest what → unframed rest ≡ Ok head → (head.group ≤ 2) × IsNeededBy head.kind (drop 24 (take head.len rest)) what
need_here rest head what h e =
    let same : h.head ≡ head = ok_same h.head head (sym (unframed-has_head rest h.head h.has) ∙ e) in
    let P : Head → Type 0 = λ x. (x.group ≤ 2) × IsNeededBy x.kind (drop 24 (take x.len rest)) what in
    subst P same (h.known, h.needs)

-- where none was read, there is no need
pub no_need : (rest : List ℕ) (what : Feature) → ((head : Head) → unframed rest ≡ Ok head → ⊥) → IsNeedOf rest what → ⊥
no_need rest what none h = none h.head (unframed-has_head rest h.head h.has)

pub some_need : (kind : ℕ) (leb body : List ℕ) (place : ℕ) (o : Option Feature) → ((what : Feature) → IsNeededBy kind body what → NeedsFeature leb place what) → IfSome o (IsNeededBy kind body) → IfSome o (NeedsFeature leb place)
some_need kind leb body place (Some what) f h = f what h
some_need kind leb body place None f h = tt

-- ---- along what calls answer
pub read_head : (leb rest : List ℕ) (place : ℕ) (r : Result Head FrameFault) (head : Head) → rest ≡ drop place leb → r ≡ unframed rest → r ≡ Ok head → unframed (drop place leb) ≡ Ok head
read_head leb rest place r head back exact is = ap unframed (sym back) ∙ sym exact ∙ is

pub read_none : (leb rest : List ℕ) (place : ℕ) (r : Result Head FrameFault) → rest ≡ drop place leb → r ≡ unframed rest → ((head : Head) → r ≡ Ok head → ⊥) → (head : Head) → unframed (drop place leb) ≡ Ok head → ⊥
read_none leb rest place r back exact none head is = none head (exact ∙ ap unframed back ∙ is)

pub body_there : (leb rest front body : List ℕ) (place len : ℕ) → rest ≡ drop place leb → front ≡ take len rest → body ≡ drop 24 front → body ≡ drop 24 (take len (drop place leb))
body_there leb rest front body place len a b c = c ∙ ap (drop 24) b ∙ ap (λ (x : List ℕ). drop 24 (take len x)) a

pub need_room : (leb : List ℕ) (place : ℕ) (what : Feature) → NeedsFeature leb place what → place ≤ length leb
need_room leb place what (inl (is, body, frame, c)) = let room = frame.room in omega (arith, room)
need_room leb place what (inr (is, body, inl frame)) = let room = frame.room in omega (arith, room)
need_room leb place what (inr (is, body, inr (frame, a))) = let room = frame.room in omega (arith, room)
