-- A row of the properties tree, gone over.
use Rattle.std.proofs.Common.{◌≡◌, ℕ, zero, suc, ◌+◌, ◌*◌, ◌<◌, Bool, true, false, List, [], ◌∷◌, ◌++◌, Option, Some, None, length, take, slice_get, refl, ap, sym, ◌∙◌, subst, inl, inr, arith, append_assoc, append-nil, length-append}
use Rattle.std.specs.Prelude.{◌≢◌, ◌-◌, ◌≤◌, drop, if◌then◌else◌, min}
use Rattle.std.proofs.Math.Nat.{min-eq_right}
use Rattle.std.proofs.lemmas.Bool.{cases_lt, eq-eqb}
use Rattle.std.proofs.lemmas.List.{length-drop, length-take}
use Rattle.ubifs_base.specs.Properties.{nnode_len, pnode_len}
use Rattle.ubifs_base.specs.declared.raw_geometry.RawGeometry.{RawGeometry}
use Rattle.media_lpt.specs.Nodes.{IsNnodeBytes, IsPnodeBytes}
use Rattle.media_lpt.specs.declared.nnode.LptPlace.{LptPlace}
use Rattle.media_lpt.specs.declared.nnode.Nnode.{Nnode}
use Rattle.media_lpt.specs.declared.pnode.Pnode.{Pnode}
use Rattle.lpt_area.specs.Tree.{AtPlace, HasNnode, HasPnode, Row, alone}
use Rattle.sound_image.specs.Wrong.{Wrong, comes_before}
use Rattle.image_check.specs.PropertyWalk.{IsNodeRead, IsRowRead, RowKind, nnodes, pnodes}
use Rattle.image_check.specs.WrongValues.{sooner_of, wrong_at}
use Rattle.image_check.specs.declared.wrong_value.WrongValue.{WrongValue}
use Rattle.image_check.specs.FirstLaws.{before_not, not_before_itself, not_before_then}

-- ---- items of lists
get_front : {X : Type 0} (front back : List X) (i : ℕ) → i < length front → slice_get (front ++ back) i ≡ slice_get front i
get_front [] back i h = absurd (omega (arith, h))
get_front (x ∷ front) back zero h = refl
get_front (x ∷ front) back (suc i) h = get_front front back i (omega (arith, h))

get_behind : {X : Type 0} (front back : List X) (i : ℕ) → slice_get (front ++ back) (length front + i) ≡ slice_get back i
get_behind [] back i = let e : 0 + i ≡ i = omega arith in ap (slice_get back) e
get_behind (x ∷ front) back i = let e : length (x ∷ front) + i ≡ suc (length front + i) = omega arith in ap (slice_get (x ∷ (front ++ back))) e ∙ get_behind front back i

pub get_taken : {X : Type 0} (n i : ℕ) (xs : List X) → i < n → slice_get (take n xs) i ≡ slice_get xs i
get_taken zero i xs h = absurd (omega (arith, h))
get_taken (suc n) i [] h = refl
get_taken (suc n) zero (x ∷ xs) h = refl
get_taken (suc n) (suc i) (x ∷ xs) h = get_taken n i xs (omega (arith, h))

pub taken_inside : {X : Type 0} (n i : ℕ) (xs : List X) (x : X) → slice_get (take n xs) i ≡ Some x → (i < n) × (slice_get xs i ≡ Some x)
taken_inside zero i xs x h = absurd cc
taken_inside (suc n) i [] x h = absurd cc
taken_inside (suc n) zero (y ∷ xs) x h = (omega arith, h)
taken_inside (suc n) (suc i) (y ∷ xs) x h = let more = taken_inside n i xs x h in let less = more.0 in (omega (arith, less), more.1)

pub get_inside : {X : Type 0} (xs : List X) (i : ℕ) (x : X) → slice_get xs i ≡ Some x → i < length xs
get_inside [] i x h = absurd cc
get_inside (y ∷ xs) zero x h = omega arith
get_inside (y ∷ xs) (suc i) x h = let less = get_inside xs i x h in omega (arith, less)

pub get_there : {X : Type 0} (xs : List X) (i : ℕ) → i < length xs → (x : X) × (slice_get xs i ≡ Some x)
get_there [] i h = absurd (omega (arith, h))
get_there (y ∷ xs) zero h = (y, refl)
get_there (y ∷ xs) (suc i) h = get_there xs i (omega (arith, h))

pub some_same : {X : Type 0} (a b : X) → Some a ≡ Some b → a ≡ b
some_same a b h = cc

-- ---- one LEB
pub alone_here : (lnum k : ℕ) (leb : List ℕ) → k ≡ lnum → alone lnum leb k ≡ leb
alone_here lnum k leb e = rw (eq-eqb k lnum e) refl

-- what is asked of a kind: it says four
pub record IsRowKind {X : Type 0} (kind : RowKind X) : Type 0 where
  pub four : (leb : List ℕ) (offs : ℕ) (all : List X) → kind.Stands leb offs all → length all ≡ 4

pub nnodes_are : (geo : RawGeometry) → IsRowKind (nnodes geo)
nnodes_are geo = record { four = λ leb offs all h. ap length h.says ∙ h.is.is.four }

pub pnodes_are : (geo : RawGeometry) → IsRowKind (pnodes geo)
pnodes_are geo = record { four = λ leb offs all h. ap length h.says ∙ h.is.is.four }

-- a step says four
step_four : {X : Type 0} (kind : RowKind X) → IsRowKind kind → (lnum : ℕ) (holds : ℕ → List ℕ) (place : LptPlace) (first : Option WrongValue) (four : List X) (next : Option WrongValue) → IsNodeRead kind lnum holds place first four next → length four ≡ 4
step_four kind k lnum holds place first four next (inl (inl (none, e), own, same)) = ap length e
step_four kind k lnum holds place first four next (inl (inr (some, h), own, same)) = k.four (holds place.lnum) place.offs four h
step_four kind k lnum holds place first four next (inr (node, wrong, e, same)) = ap length e

-- what the place of one number says in a row, and where it stands among what all say
pub record IsSaidAt {X : Type 0} (kind : RowKind X) (lnum : ℕ) (holds : ℕ → List ℕ) (all : List X) (number : ℕ) (place : LptPlace) : Type 0 where
  pub four : List X
  pub before : Option WrongValue
  pub after : Option WrongValue
  pub step : IsNodeRead kind lnum holds place before four after
  pub among : (j : ℕ) → j < 4 → slice_get all (4 * number + j) ≡ slice_get four j

pub said_at : {X : Type 0} (kind : RowKind X) → IsRowKind kind → (lnum : ℕ) (holds : ℕ → List ℕ) (row : List LptPlace) (first : Option WrongValue) (all : List X) (last : Option WrongValue) (number : ℕ) (place : LptPlace)
    → IsRowRead kind lnum holds row first all last → slice_get row number ≡ Some place → IsSaidAt kind lnum holds all number place
said_at kind k lnum holds [] first all last number place h e = absurd cc
said_at {X = X} kind k lnum holds (p ∷ row) first all last zero place (four, more, next, step, rest, whole) e =
    let P : LptPlace → Type 0 = λ q. IsNodeRead kind lnum holds q first four next in
    let n = step_four kind k lnum holds p first four next step in
    record {
      four = four;
      before = first;
      after = next;
      step = subst P (some_same p place e) step;
      among = λ j less. ap (λ (xs : List X). slice_get xs (4 * 0 + j)) whole ∙ ap (slice_get (four ++ more)) (start j) ∙ get_front four more j (omega (arith, less, n));
    }
  where
    start : (j : ℕ) → 4 * 0 + j ≡ j
    start j = omega arith
said_at {X = X} kind k lnum holds (p ∷ row) first all last (suc number) place (four, more, next, step, rest, whole) e =
    let own = said_at kind k lnum holds row next more last number place rest e in
    let n = step_four kind k lnum holds p first four next step in
    record {
      four = own.four;
      before = own.before;
      after = own.after;
      step = own.step;
      among = λ j less.
          let at : 4 * suc number + j ≡ length four + (4 * number + j) = omega (arith, n) in
          ap (λ (xs : List X). slice_get xs (4 * suc number + j)) whole ∙ ap (slice_get (four ++ more)) at ∙ get_behind four more (4 * number + j) ∙ own.among j less;
    }

-- four for each place
pub walked_long : {X : Type 0} (kind : RowKind X) → IsRowKind kind → (lnum : ℕ) (holds : ℕ → List ℕ) (row : List LptPlace) (first : Option WrongValue) (all : List X) (last : Option WrongValue) → IsRowRead kind lnum holds row first all last → length all ≡ 4 * length row
walked_long kind k lnum holds [] first all last (e, same) = ap length e
walked_long {X = X} kind k lnum holds (p ∷ row) first all last (four, more, next, step, rest, whole) =
    let n = step_four kind k lnum holds p first four next step in
    let m = walked_long kind k lnum holds row next more last rest in
    let l = ap length whole in
    let s = length-append four more in
    omega (arith, n, m, l, s)

-- the end of a row, and one place more in front
pub walked_end : {X : Type 0} (kind : RowKind X) (lnum : ℕ) (holds : ℕ → List ℕ) (first : Option WrongValue) → IsRowRead kind lnum holds [] first [] first
walked_end kind lnum holds first = (refl, refl)

-- while a row is gone over: whatever the rest says, the whole row says it behind what was said so far
abbrev pub RowSoFar : {X : Type 0} → RowKind X → ℕ → (ℕ → List ℕ) → List LptPlace → Option WrongValue → List LptPlace → Option WrongValue → List X → Type 0
RowSoFar {X = X} kind lnum holds row first left now so_far =
    (more : List X) (last : Option WrongValue) → IsRowRead kind lnum holds left now more last → IsRowRead kind lnum holds row first (so_far ++ more) last

pub row_start : {X : Type 0} (kind : RowKind X) (lnum : ℕ) (holds : ℕ → List ℕ) (row left : List LptPlace) (first : Option WrongValue) (so_far : List X) → so_far ≡ [] → left ≡ row → RowSoFar kind lnum holds row first left first so_far
row_start {X = X} kind lnum holds row left first so_far none same more last h =
    let P : List X → Type 0 = λ xs. IsRowRead kind lnum holds row first (xs ++ more) last in
    let Q : List LptPlace → Type 0 = λ r. IsRowRead kind lnum holds r first more last in
    subst P (sym none) (subst Q same h)

pub row_next : {X : Type 0} (kind : RowKind X) (lnum : ℕ) (holds : ℕ → List ℕ) (row left rest : List LptPlace) (place : LptPlace) (first now next : Option WrongValue) (so_far four new : List X) → RowSoFar kind lnum holds row first left now so_far → left ≡ place ∷ rest
    → IsNodeRead kind lnum holds place now four next → new ≡ so_far ++ four → RowSoFar kind lnum holds row first rest next new
row_next {X = X} kind lnum holds row left rest place first now next so_far four new before cut step e more last h =
    let P : List LptPlace → Type 0 = λ r. IsRowRead kind lnum holds r now (four ++ more) last in
    let Q : List X → Type 0 = λ xs. IsRowRead kind lnum holds row first xs last in
    subst Q (sym (append_assoc so_far four more) ∙ ap (λ (xs : List X). xs ++ more) (sym e)) (before (four ++ more) last (subst P (sym cut) (four, more, next, step, h, refl)))

pub row_end : {X : Type 0} (kind : RowKind X) (lnum : ℕ) (holds : ℕ → List ℕ) (row left : List LptPlace) (first now : Option WrongValue) (so_far : List X) → RowSoFar kind lnum holds row first left now so_far → length left ≡ 0 → IsRowRead kind lnum holds row first so_far now
row_end {X = X} kind lnum holds row left first now so_far before none =
    let P : List LptPlace → Type 0 = λ r. IsRowRead kind lnum holds r now [] now in
    let Q : List X → Type 0 = λ xs. IsRowRead kind lnum holds row first xs now in
    subst Q (append-nil so_far) (before [] now (subst P (sym (nothing left none)) (walked_end kind lnum holds now)))
  where
    nothing : (xs : List LptPlace) → length xs ≡ 0 → xs ≡ []
    nothing [] h = refl
    nothing (x ∷ xs) h = absurd (omega (arith, h))

-- ---- where nothing was wrong, the places say what all say
keeps_some : (b : Bool) (first node : WrongValue) → (if b then Some node else Some first) ≡ None → ⊥
keeps_some true first node h = absurd cc
keeps_some false first node h = absurd cc

sooner_some : (first : Option WrongValue) (node : WrongValue) → sooner_of first (Some node) ≡ None → ⊥
sooner_some None node h = absurd cc
sooner_some (Some first) node h = keeps_some (comes_before (wrong_at node) (wrong_at first)) first node h

-- what stands in the root's LEB stands where that is alone
at_alone : {X : Type 0} (kind : RowKind X) (lnum : ℕ) (holds : ℕ → List ℕ) (place : LptPlace) (four : List X) → AtPlace kind.Stands kind.none (holds place.lnum) place four → (place.lnum ≢ 0 → place.lnum ≡ lnum)
    → AtPlace kind.Stands kind.none (alone lnum (holds lnum) place.lnum) place four
at_alone kind lnum holds place four (inl none) own = inl none
at_alone kind lnum holds place four (inr (some, h)) own =
    let P : List ℕ → Type 0 = λ leb. kind.Stands leb place.offs four in
    inr (some, subst P (ap holds (own some) ∙ sym (alone_here lnum place.lnum (holds lnum) (own some))) h)

pub walked_row : {X : Type 0} (kind : RowKind X) (lnum : ℕ) (holds : ℕ → List ℕ) (row : List LptPlace) (first : Option WrongValue) (all : List X) (last : Option WrongValue) → IsRowRead kind lnum holds row first all last → last ≡ None
    → (first ≡ None) × Row kind.Stands kind.none (alone lnum (holds lnum)) row all
unfolding Row
walked_row kind lnum holds [] first all last (e, same) none = (sym same ∙ none, e)
walked_row kind lnum holds (p ∷ row) first all last (four, more, next, inl (says, own, same), rest, whole) none =
    let later = walked_row kind lnum holds row next more last rest none in
    (sym same ∙ later.0, (four, more, at_alone kind lnum holds p four says own, later.1, whole))
walked_row kind lnum holds (p ∷ row) first all last (four, more, next, inr (node, wrong, e, same), rest, whole) none =
    let later = walked_row kind lnum holds row next more last rest none in
    absurd (sooner_some first node (sym same ∙ later.0))

-- ---- which of two comes first
-- something is kept before which this doesn't come
abbrev pub IsKeptBefore : Wrong → Option WrongValue → Type 0
IsKeptBefore other first = (node : WrongValue) × (first ≡ Some node) × (comes_before other (wrong_at node) ≡ false)

older_of : (b : Bool) (other : Wrong) (first node : WrongValue) → comes_before (wrong_at node) (wrong_at first) ≡ b → comes_before other (wrong_at first) ≡ false → IsKeptBefore other (if b then Some node else Some first)
older_of true other first node e h = (node, refl, not_before_then (wrong_at node) (wrong_at first) other (before_not (wrong_at node) (wrong_at first) e) h)
older_of false other first node e h = (first, refl, h)

some_first : (first : WrongValue) (o : Option WrongValue) (node : WrongValue) → o ≡ Some node → Some first ≡ o → first ≡ node
some_first first o node e h = some_same first node (h ∙ e)

pub older_kept : (other : Wrong) (first : Option WrongValue) (node : WrongValue) → IsKeptBefore other first → IsKeptBefore other (sooner_of first (Some node))
older_kept other None node (old, e, h) = absurd cc
older_kept other (Some first) node (old, e, h) =
    let P : WrongValue → Type 0 = λ n. comes_before other (wrong_at n) ≡ false in
    older_of (comes_before (wrong_at node) (wrong_at first)) other first node refl (subst P (sym (some_same first old e)) h)

newer_of : (b : Bool) (first node : WrongValue) → comes_before (wrong_at node) (wrong_at first) ≡ b → IsKeptBefore (wrong_at node) (if b then Some node else Some first)
newer_of true first node e = (node, refl, not_before_itself (wrong_at node))
newer_of false first node e = (first, refl, e)

newer_kept : (first : Option WrongValue) (node : WrongValue) → IsKeptBefore (wrong_at node) (sooner_of first (Some node))
newer_kept None node = (node, refl, not_before_itself (wrong_at node))
newer_kept (Some first) node = newer_of (comes_before (wrong_at node) (wrong_at first)) first node refl

pub new_kept : (other : Wrong) (first : Option WrongValue) (node : WrongValue) → other ≡ wrong_at node → IsKeptBefore other (sooner_of first (Some node))
new_kept other first node e = let P : Wrong → Type 0 = λ w. IsKeptBefore w (sooner_of first (Some node)) in subst P (sym e) (newer_kept first node)

either_of : (b : Bool) (P : WrongValue → Type 0) (first node kept : WrongValue) → P first → P node → (if b then Some node else Some first) ≡ Some kept → P kept
either_of true P first node kept old new e = subst P (some_same node kept e) new
either_of false P first node kept old new e = subst P (some_same first kept e) old

pub kept_is : (P : WrongValue → Type 0) (first : Option WrongValue) (node kept : WrongValue) → ((old : WrongValue) → first ≡ Some old → P old) → P node → sooner_of first (Some node) ≡ Some kept → P kept
kept_is P None node kept old new e = subst P (some_same node kept e) new
kept_is P (Some first) node kept old new e = either_of (comes_before (wrong_at node) (wrong_at first)) P first node kept (old first refl) new e

-- ---- a node that stands in another LEB than the root's
inside_of : (long n size : ℕ) → 0 < long → long ≡ min long (size - n) → n + long ≤ size
inside_of long n size some e = elim (cases_lt long (size - n)) [
  | inl less ↦ omega (arith, some, less)
  | inr high ↦ let same : long ≡ size - n = e ∙ min-eq_right {n = size - n} {m = long} high in omega (arith, some, same)
]

part_inside : (long offs : ℕ) (leb bytes : List ℕ) → 0 < long → bytes ≡ take long (drop offs leb) → length bytes ≡ long → offs + long ≤ length leb
part_inside long offs leb bytes some is e =
    inside_of long offs (length leb) some (sym e ∙ ap length is ∙ length-take long (drop offs leb) ∙ ap (min long) (length-drop offs leb))

pub stands_nnode : (geo : RawGeometry) (leb : List ℕ) (offs : ℕ) (bytes : List ℕ) (node : Nnode) → bytes ≡ take (nnode_len geo) (drop offs leb) → length bytes ≡ nnode_len geo → IsNnodeBytes geo bytes node → HasNnode geo leb offs node.places
stands_nnode geo leb offs bytes node is e own =
    let P : List ℕ → Type 0 = λ b. IsNnodeBytes geo b node in
    record { node = node; inside = part_inside (nnode_len geo) offs leb bytes (omega arith) is e; is = subst P is own; says = refl }

pub stands_pnode : (geo : RawGeometry) (leb : List ℕ) (offs : ℕ) (bytes : List ℕ) (node : Pnode) → bytes ≡ take (pnode_len geo) (drop offs leb) → length bytes ≡ pnode_len geo → IsPnodeBytes geo bytes node → HasPnode geo leb offs node.props
stands_pnode geo leb offs bytes node is e own =
    let P : List ℕ → Type 0 = λ b. IsPnodeBytes geo b node in
    record { node = node; inside = part_inside (pnode_len geo) offs leb bytes (omega arith) is e; is = subst P is own; says = refl }

pub elsewhere_read : {X : Type 0} (kind : RowKind X) (root : ℕ) (holds : ℕ → List ℕ) (place : LptPlace) (first : Option WrongValue) (node : WrongValue) (four : List X) (next : Option WrongValue) → place.lnum ≢ 0 → place.lnum ≢ root → kind.Stands (holds place.lnum) place.offs four
    → node.lnum ≡ place.lnum → node.offs ≡ place.offs → node.wanted ≡ root → node.found ≡ place.lnum → next ≡ sooner_of first (Some node) → IsNodeRead kind root holds place first (kind.none ∷ kind.none ∷ kind.none ∷ kind.none ∷ []) next
elsewhere_read kind root holds place first node four next some out stands l o w f e = inr (node, record { some = some; in_leb = l; at = o; wrong = inr (out, (four, stands), w, f) }, refl, e)
