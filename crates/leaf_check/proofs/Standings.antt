-- What stands at a place, told from the bytes behind it.
use Rattle.std.proofs.Common.{◌≡◌, ◌⊎◌, ℕ, ◌+◌, ◌≤◌, Bool, true, false, List, length, take, drop, Option, Some, None, IfSome, refl, ap, sym, ◌∙◌, subst, inl, inr, arith, length-drop, get_or-drop}
use Rattle.std.specs.Prelude.{◌==◌, if◌then◌else◌}
use Rattle.std.proofs.lemmas.Bool.{cases_Bool, eqb-true, eq-eqb}
use Rattle.std.proofs.lemmas.List.{length-take-le}
use Rattle.ubifs_base.specs.NodeLaws.{IsBytes}
use Rattle.ubifs_base.specs.NodeType.{type_number}
use Rattle.ubifs_base.specs.declared.node_type.NodeType.{NodeType}
use Rattle.media_leaf.specs.LeafNode.{LeafNode}
use Rattle.media_sys.specs.declared.feature.Feature.{Feature}
use Rattle.leb_scan.specs.Text.{StandsAt, leaf, leaf_type}
use Rattle.leb_scan.specs.TypeLaws.{type_same}
use Rattle.leb_scan.specs.declared.found.Found.{Found}
use Rattle.index_tree.specs.declared.leaf.Leaf.{Leaf}
use Rattle.sound_image.specs.Frames.{HasFrameAt, IsKnownAt, NeedsFeature}
use Rattle.sound_image.specs.LeafBreaches.{HasLeafNodeOf, IsLeafMisfit, key_type}
use Rattle.sound_image.specs.Wrong.{Misfit, differs, needs, type_byte}
use Rattle.leaf_check.specs.Standings.{TellsStanding, known_misfit, leaf_number, standing_misfit}
use Rattle.leaf_check.specs.declared.standing.Standing.{Standing}
use Rattle.leaf_check.proofs.WholeLeaves.{bytes_drop, node_length, stands_len}

-- ---- frames at a place are those with which what follows it begins
frame_long : (leb : List ℕ) (offs : ℕ) (type : NodeType) (body : List ℕ) → (h : HasFrameAt (drop offs leb) 0 type body) → offs + h.len ≤ length leb
frame_long leb offs type body h =
    let room = h.room in
    let long : length (take h.len (drop offs leb)) ≡ h.len = length-take-le h.len (drop offs leb) (omega (arith, room)) in
    let whole = ap length h.framed.spelled ∙ node_length h.sqnum (type_number type) h.group h.framed.padding body h.framed.two in
    let cut = length-drop offs leb in
    omega (arith, room, long, whole, cut)

frame_out : (leb : List ℕ) (offs : ℕ) (type : NodeType) (body : List ℕ) → HasFrameAt (drop offs leb) 0 type body → HasFrameAt leb offs type body
frame_out leb offs type body h = record { len = h.len; sqnum = h.sqnum; group = h.group; room = frame_long leb offs type body h; framed = h.framed }

frame_in : (leb : List ℕ) (offs : ℕ) (type : NodeType) (body : List ℕ) → HasFrameAt leb offs type body → HasFrameAt (drop offs leb) 0 type body
frame_in leb offs type body h =
    let room = h.room in
    let cut = length-drop offs leb in
    record { len = h.len; sqnum = h.sqnum; group = h.group; room = omega (arith, room, cut); framed = h.framed }

-- what is needed at a place is needed at another, where the same frames stand
pub needs_moved : (a b : List ℕ) (p q : ℕ) (what : Feature) → ((type : NodeType) (body : List ℕ) → HasFrameAt a p type body → HasFrameAt b q type body) → NeedsFeature a p what → NeedsFeature b q what
needs_moved a b p q what f (inl (is, body, frame, c)) = inl (is, body, f _ body frame, c)
needs_moved a b p q what f (inr (is, body, inl frame)) = inr (is, body, inl (f _ body frame))
needs_moved a b p q what f (inr (is, body, inr (frame, c))) = inr (is, body, inr (f _ body frame, c))

needs_out : (leb : List ℕ) (offs : ℕ) (what : Feature) → NeedsFeature (drop offs leb) 0 what → NeedsFeature leb offs what
needs_out leb offs what h = needs_moved (drop offs leb) leb 0 offs what (frame_out leb offs) h

needs_in : (leb : List ℕ) (offs : ℕ) (what : Feature) → NeedsFeature leb offs what → NeedsFeature (drop offs leb) 0 what
needs_in leb offs what h = needs_moved leb (drop offs leb) offs 0 what (frame_in leb offs) h

byte_out : (leb : List ℕ) (offs : ℕ) → type_byte (drop offs leb) 0 ≡ type_byte leb offs
byte_out leb offs = rw get_or-drop refl

-- ---- leaf nodes
-- the node of a leaf's key that stands at its place
node_in : (contents : ℕ → List ℕ) (x : Leaf) (len : ℕ) → (h : HasLeafNodeOf contents x len) → StandsAt (drop x.offs (contents x.lnum)) 0 (record { offs = 0; len = len; kind = leaf_type h.node; group = h.group; sqnum = h.sqnum }) (leaf h.node)
node_in contents x len h =
    let room = h.room in
    let cut = length-drop x.offs (contents x.lnum) in
    record { here = refl; room = omega (arith, room, cut); kind = refl; is = h.is }

node_out : (contents : ℕ → List ℕ) (x : Leaf) (found : Found) (node : LeafNode) → IsBytes (contents x.lnum) → StandsAt (drop x.offs (contents x.lnum)) 0 found (leaf node) → type_number found.kind ≡ leaf_number x → HasLeafNodeOf contents x found.len
node_out contents x found node fits h type =
    let room = h.room in
    let cut = length-drop x.offs (contents x.lnum) in
    let low = (stands_len (drop x.offs (contents x.lnum)) found node (bytes_drop x.offs (contents x.lnum) fits) h).0 in
    record { sqnum = found.sqnum; group = found.group; node = node; room = omega (arith, room, cut, low); is = h.is; type = sym h.kind ∙ type_same found.kind (key_type x.key) type }

if_true : {X : Type 0} (b : Bool) (x y : X) → b ≡ true → (if b then x else y) ≡ x
if_true true x y h = refl
if_true false x y h = absurd cc

if_false : {X : Type 0} (b : Bool) (x y : X) → b ≡ false → (if b then x else y) ≡ y
if_false false x y h = refl
if_false true x y h = absurd cc

-- along the options that were found
some_of : {X : Type 0} (o : Option X) (x : X) (P : X → Type 0) → o ≡ Some x → IfSome o P → P x
some_of {X} o x P e h = let Q : Option X → Type 0 = λ r. IfSome r P in subst Q e h

some_same : {X : Type 0} (a b : X) → Some a ≡ Some b → a ≡ b
some_same a b h = cc

none_some : {X : Type 0} (a : X) → None ≡ Some a → ⊥
none_some a h = cc

-- the options that are looked at, each with what it is
split_option : {X : Type 0} (o : Option X) → (o ≡ None) ⊎ ((x : X) × (o ≡ Some x))
split_option None = inl refl
split_option (Some x) = inr (x, refl)

known_none : (s : Standing) (x : Leaf) → s.node ≡ None → known_misfit s x ≡ differs (leaf_number x) s.byte
known_none s x e = rw e refl

known_other : (s : Standing) (x : Leaf) (found : Found) → s.node ≡ Some found → (type_number found.kind == leaf_number x) ≡ false → known_misfit s x ≡ differs (leaf_number x) s.byte
known_other s x found e f = rw (e, f) refl

known_same : (s : Standing) (x : Leaf) (found : Found) → s.node ≡ Some found → (type_number found.kind == leaf_number x) ≡ true → known_misfit s x ≡ differs x.len found.len
known_same s x found e f = rw (e, f) refl

pub misfit_needs : (s : Standing) (x : Leaf) (what : Feature) → s.feature ≡ Some what → standing_misfit s x ≡ needs what
misfit_needs s x what e = rw e refl

pub misfit_known : (s : Standing) (x : Leaf) → s.feature ≡ None → standing_misfit s x ≡ known_misfit s x
misfit_known s x e = rw e refl

-- ---- what is told of a leaf
module _ (contents : ℕ → List ℕ) (x : Leaf) (s : Standing) (fits : IsBytes (contents x.lnum)) (is : TellsStanding (drop x.offs (contents x.lnum)) s) where
  leb : List ℕ
  leb = contents x.lnum

  is_known : s.feature ≡ None → IsKnownAt (contents x.lnum) x.offs
  is_known e what h = none_some what (sym e ∙ is.only what (needs_in (contents x.lnum) x.offs what h))

  byte_there : s.byte ≡ type_byte (contents x.lnum) x.offs
  byte_there = is.byte_is ∙ byte_out (contents x.lnum) x.offs

  -- a node of this type that stands there was found
  was_found : (len : ℕ) → HasLeafNodeOf contents x len → (found : Found) × (s.node ≡ Some found) × ((type_number found.kind == leaf_number x) ≡ true) × (found.len ≡ len)
  was_found len h =
      let found : Found = record { offs = 0; len = len; kind = leaf_type h.node; group = h.group; sqnum = h.sqnum } in
      (found, is.one found h.node (node_in contents x len h), eq-eqb (type_number found.kind) (leaf_number x) (ap type_number h.type), refl)

  none_there : s.node ≡ None → (len : ℕ) → HasLeafNodeOf contents x len → ⊥
  none_there e len h = let w = was_found len h in none_some w.0 (sym e ∙ w.1)

  other_there : (found : Found) → s.node ≡ Some found → (type_number found.kind == leaf_number x) ≡ false → (len : ℕ) → HasLeafNodeOf contents x len → ⊥
  other_there found e f len h =
      let w = was_found len h in
      let g : true ≡ false = sym w.2 ∙ ap (λ (k : Found). type_number k.kind == leaf_number x) (some_same w.0 found (sym w.1 ∙ e)) ∙ f in
      absurd cc

  values_is : s.feature ≡ None → IsLeafMisfit contents x (known_misfit s x)
  values_is none = elim (split_option s.node) [
    | inl e ↦ inr (is_known none, inl (none_there e, known_none s x e ∙ ap (differs (leaf_number x)) byte_there))
    | inr (found, e) ↦ elim (cases_Bool (type_number found.kind == leaf_number x)) [
      | inl same ↦
          let stands = some_of s.node found (λ found. (node : LeafNode) × StandsAt (drop x.offs (contents x.lnum)) 0 found (leaf node)) e is.stands in
          inr (is_known none, inr (found.len, node_out contents x found stands.0 fits stands.1 (eqb-true (type_number found.kind) (leaf_number x) same), known_same s x found e same))
      | inr other ↦ inr (is_known none, inl (other_there found e other, known_other s x found e other ∙ ap (differs (leaf_number x)) byte_there))
    ]
  ]

  -- this is told of a leaf
  pub misfit_is : IsLeafMisfit contents x (standing_misfit s x)
  misfit_is = elim (split_option s.feature) [
    | inl none ↦ let P : Misfit → Type 0 = λ m. IsLeafMisfit contents x m in subst P (sym (misfit_known s x none)) (values_is none)
    | inr (what, e) ↦ inl (what, needs_out (contents x.lnum) x.offs what (some_of s.feature what (NeedsFeature (drop x.offs (contents x.lnum)) 0) e is.needed), misfit_needs s x what e)
  ]

  not_needed : IsKnownAt (contents x.lnum) x.offs → s.feature ≡ None
  not_needed known = elim (split_option s.feature) [
    | inl none ↦ none
    | inr (what, e) ↦ absurd (known what (needs_out (contents x.lnum) x.offs what (some_of s.feature what (NeedsFeature (drop x.offs (contents x.lnum)) 0) e is.needed)))
  ]

  values_only : s.feature ≡ None → (m : Misfit) → ((len : ℕ) → HasLeafNodeOf contents x len → ⊥) → m ≡ differs (leaf_number x) (type_byte (contents x.lnum) x.offs) → m ≡ known_misfit s x
  values_only none m absent value = elim (split_option s.node) [
    | inl e ↦ value ∙ ap (differs (leaf_number x)) (sym byte_there) ∙ sym (known_none s x e)
    | inr (found, e) ↦ elim (cases_Bool (type_number found.kind == leaf_number x)) [
      | inl same ↦
          let stands = some_of s.node found (λ found. (node : LeafNode) × StandsAt (drop x.offs (contents x.lnum)) 0 found (leaf node)) e is.stands in
          absurd (absent found.len (node_out contents x found stands.0 fits stands.1 (eqb-true (type_number found.kind) (leaf_number x) same)))
      | inr other ↦ value ∙ ap (differs (leaf_number x)) (sym byte_there) ∙ sym (known_other s x found e other)
    ]
  ]

  -- and nothing else is
  pub misfit_only : (m : Misfit) → IsLeafMisfit contents x m → m ≡ standing_misfit s x
  misfit_only m (inl (what, need, value)) = value ∙ sym (misfit_needs s x what (is.only what (needs_in (contents x.lnum) x.offs what need)))
  misfit_only m (inr (known, inl (absent, value))) = let none = not_needed known in values_only none m absent value ∙ sym (misfit_known s x none)
  misfit_only m (inr (known, inr (len, there, value))) =
      let w = was_found len there in
      value ∙ ap (differs x.len) (sym w.3) ∙ sym (known_same s x w.0 w.1 w.2) ∙ sym (misfit_known s x (not_needed known))
