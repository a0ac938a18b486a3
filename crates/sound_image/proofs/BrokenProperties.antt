-- A tree of properties in which something is wrong doesn't meet its rule.
use Rattle.std.proofs.Common.{◌≡◌, ℕ, zero, suc, ◌+◌, ◌-◌, ◌*◌, ◌/◌, ◌%◌, ◌<◌, ◌≤◌, List, [], ◌∷◌, ◌++◌, Some, length, take, drop, refl, ap, sym, ◌∙◌, subst, inl, inr, arith}
use Rattle.std.specs.Prelude.{◌≢◌, slice_get}
use Rattle.std.proofs.lemmas.Bool.{cases_eq, eq-eqb, ne_eqb}
use Rattle.ubifs_base.specs.NodeLaws.{IsBytes}
use Rattle.ubifs_base.specs.Properties.{nnode_len, pnode_len}
use Rattle.ubifs_base.specs.declared.raw_geometry.RawGeometry.{RawGeometry}
use Rattle.media_lpt.specs.Nodes.{IsNnodeBytes}
use Rattle.media_lpt.specs.declared.lprop.Lprop.{Lprop}
use Rattle.media_lpt.specs.declared.nnode.LptPlace.{LptPlace}
use Rattle.media_lpt.specs.declared.nnode.Nnode.{Nnode}
use Rattle.media_sys.specs.declared.master.Master.{Master}
use Rattle.lpt_area.specs.Tree.{AtPlace, HasNnode, HasPnode, IsBelow, Row, alone, empty_leb, no_place, row_len}
use Rattle.sound_image.specs.Properties.{HasProperties, lpt_root}
use Rattle.sound_image.specs.PropertyBreaches.{IsPlaceBelow, IsWrongProperty, pnode_depth}
use Rattle.sound_image.specs.Wrong.{Wrong}
use Rattle.sound_image.proofs.OneReads.{part_bytes}

-- bytes are at most one nnode
abbrev pub OneNnode : Type 0
OneNnode = (geo : RawGeometry) (bytes : List ℕ) (a b : Nnode) → IsBytes bytes → IsNnodeBytes geo bytes a → IsNnodeBytes geo bytes b → a ≡ b

-- ---- items of lists
get_front : {X : Type 0} (front back : List X) (i : ℕ) → i < length front → slice_get (front ++ back) i ≡ slice_get front i
get_front [] back i h = absurd (omega (arith, h))
get_front (x ∷ front) back zero h = refl
get_front (x ∷ front) back (suc i) h = get_front front back i (omega (arith, h))

get_behind : {X : Type 0} (front back : List X) (i : ℕ) → slice_get (front ++ back) (length front + i) ≡ slice_get back i
get_behind [] back i = let e : 0 + i ≡ i = omega arith in ap (slice_get back) e
get_behind (x ∷ front) back i = let e : length (x ∷ front) + i ≡ suc (length front + i) = omega arith in ap (slice_get (x ∷ (front ++ back))) e ∙ get_behind front back i

get_taken : {X : Type 0} (n i : ℕ) (xs : List X) → i < n → slice_get (take n xs) i ≡ slice_get xs i
get_taken zero i xs h = absurd (omega (arith, h))
get_taken (suc n) i [] h = refl
get_taken (suc n) zero (x ∷ xs) h = refl
get_taken (suc n) (suc i) (x ∷ xs) h = get_taken n i xs (omega (arith, h))

some_same : {X : Type 0} (a b : X) → Some a ≡ Some b → a ≡ b
some_same a b h = cc

-- what the place of one number says in a row, and where it stands among what all say
record IsSaid {X : Type 0} (S : List ℕ → ℕ → List X → Type 0) (none : X) (holds : ℕ → List ℕ) (all : List X) (number : ℕ) (place : LptPlace) : Type 0 where
  four : List X
  says : AtPlace S none (holds place.lnum) place four
  among : (j : ℕ) → j < 4 → slice_get all (4 * number + j) ≡ slice_get four j

said_at : {X : Type 0} (S : List ℕ → ℕ → List X → Type 0) (none : X) (holds : ℕ → List ℕ) (places : List LptPlace) (all : List X) (number : ℕ) (place : LptPlace) → ((leb : List ℕ) (at : LptPlace) (four : List X) → AtPlace S none leb at four → length four ≡ 4)
    → Row S none holds places all → slice_get places number ≡ Some place → IsSaid S none holds all number place
unfolding Row
said_at S none holds [] all number place long h e = absurd cc
said_at {X = X} S none holds (p ∷ places) all zero place long (four, more, says, rest, whole) e =
    let P : LptPlace → Type 0 = λ q. AtPlace S none (holds q.lnum) q four in
    let n = long (holds p.lnum) p four says in
    record {
      four = four;
      says = subst P (some_same p place e) says;
      among = λ j less. ap (λ (xs : List X). slice_get xs (4 * 0 + j)) whole ∙ ap (slice_get (four ++ more)) (first j) ∙ get_front four more j (omega (arith, less, n));
    }
  where
    first : (j : ℕ) → 4 * 0 + j ≡ j
    first j = omega arith
said_at {X = X} S none holds (p ∷ places) all (suc number) place long (four, more, says, rest, whole) e =
    let own = said_at S none holds places more number place long rest e in
    let n = long (holds p.lnum) p four says in
    record {
      four = own.four;
      says = own.says;
      among = λ j less.
          let at : 4 * suc number + j ≡ length four + (4 * number + j) = omega (arith, n) in
          ap (λ (xs : List X). slice_get xs (4 * suc number + j)) whole ∙ ap (slice_get (four ++ more)) at ∙ get_behind four more (4 * number + j) ∙ own.among j less;
    }

-- ---- nodes
pnodes_long : (geo : RawGeometry) (leb : List ℕ) (at : LptPlace) (four : List Lprop) → AtPlace (HasPnode geo) (empty_leb geo) leb at four → length four ≡ 4
pnodes_long geo leb at four (inl (none, e)) = ap length e
pnodes_long geo leb at four (inr (some, h)) = ap length h.says ∙ h.is.is.four

nnodes_long : (geo : RawGeometry) (leb : List ℕ) (at : LptPlace) (four : List LptPlace) → AtPlace (HasNnode geo) no_place leb at four → length four ≡ 4
nnodes_long geo leb at four (inl (none, e)) = ap length e
nnodes_long geo leb at four (inr (some, h)) = ap length h.says ∙ h.is.is.four

some_byte : (n : ℕ) → 0 < (16 + 4 + n + 7) / 8
some_byte n = omega arith

one_four : OneNnode → (geo : RawGeometry) (leb : List ℕ) (offs : ℕ) (a b : List LptPlace) → IsBytes leb → HasNnode geo leb offs a → HasNnode geo leb offs b → a ≡ b
one_four one geo leb offs a b fits x y = x.says ∙ ap (λ (n : Nnode). n.places) (one geo (take (nnode_len geo) (drop offs leb)) x.node y.node (part_bytes (nnode_len geo) offs leb fits) x.is y.is) ∙ sym y.says

alone_here : (lnum k : ℕ) (leb : List ℕ) → k ≡ lnum → alone lnum leb k ≡ leb
alone_here lnum k leb e = rw (eq-eqb k lnum e) refl

alone_other : (lnum k : ℕ) (leb : List ℕ) → k ≢ lnum → alone lnum leb k ≡ []
alone_other lnum k leb ne = rw (ne_eqb k lnum ne) refl

-- ---- the walk down
-- a row has each node over main LEBs to which nodes lead
abbrev IsRowBelow : RawGeometry → List ℕ → LptPlace → ℕ → ℕ → List LptPlace → Type 0
IsRowBelow geo leb root depth level places = (number : ℕ) (place : LptPlace) → number < row_len geo level → IsPlaceBelow geo leb root depth number place → slice_get places number ≡ Some place

module _ (one : OneNnode) (geo : RawGeometry) (leb : List ℕ) (root : LptPlace) (fits : IsBytes leb) (inside : 0 < root.lnum) where
  abbrev holds : ℕ → List ℕ
  holds = alone root.lnum leb

  there : (place above : LptPlace) (four : List LptPlace) → above.lnum ≡ root.lnum → AtPlace (HasNnode geo) no_place (holds above.lnum) above four → HasNnode geo leb above.offs four
  there place above four same (inl (none, e)) = absurd (omega (arith, same, none, inside))
  there place above four same (inr (some, h)) = let P : List ℕ → Type 0 = λ bytes. HasNnode geo bytes above.offs four in subst P (alone_here root.lnum above.lnum leb same) h

  row_below : (depth level : ℕ) (places all : List LptPlace) → Row (HasNnode geo) no_place holds places all → IsRowBelow geo leb root depth (suc level) places → IsRowBelow geo leb root (suc depth) level (take (row_len geo level) all)
  row_below depth level places all row known number place less (above, four, leads, same, node, get) =
      let parent : number / 4 < row_len geo (suc level) = omega (arith, less) in
      let own = said_at (HasNnode geo) no_place holds places all (number / 4) above (nnodes_long geo) row (known (number / 4) above parent leads) in
      let fours = one_four one geo leb above.offs four own.four fits node (there place above own.four same own.says) in
      let low : number % 4 < 4 = omega arith in
      let at : 4 * (number / 4) + number % 4 ≡ number = omega arith in
      get_taken (row_len geo level) number all less ∙ ap (slice_get all) (sym at) ∙ own.among (number % 4) low ∙ ap (λ (xs : List LptPlace). slice_get xs (number % 4)) (sym fours) ∙ get

  -- what stands at a place of a row isn't wrong
  nnode_right : (place : LptPlace) (four : List LptPlace) → place.lnum ≢ 0 → AtPlace (HasNnode geo) no_place (holds place.lnum) place four → (place.lnum ≡ root.lnum) × HasNnode geo leb place.offs four
  nnode_right place four some (inl (none, e)) = absurd (some none)
  nnode_right place four some (inr (also, h)) = elim (cases_eq place.lnum root.lnum) [
    | inl same ↦ let P : List ℕ → Type 0 = λ bytes. HasNnode geo bytes place.offs four in (same, subst P (alone_here root.lnum place.lnum leb same) h)
    | inr other ↦
        let P : List ℕ → Type 0 = λ bytes. place.offs + nnode_len geo ≤ length bytes in
        let none : place.offs + nnode_len geo ≤ 0 = subst P (alone_other root.lnum place.lnum leb other) h.inside in
        let long : 0 < nnode_len geo = omega arith in
        absurd (omega (arith, none, long))
  ]

  pnode_right : (place : LptPlace) (four : List Lprop) → place.lnum ≢ 0 → AtPlace (HasPnode geo) (empty_leb geo) (holds place.lnum) place four → (place.lnum ≡ root.lnum) × HasPnode geo leb place.offs four
  pnode_right place four some (inl (none, e)) = absurd (some none)
  pnode_right place four some (inr (also, h)) = elim (cases_eq place.lnum root.lnum) [
    | inl same ↦ let P : List ℕ → Type 0 = λ bytes. HasPnode geo bytes place.offs four in (same, subst P (alone_here root.lnum place.lnum leb same) h)
    | inr other ↦
        let P : List ℕ → Type 0 = λ bytes. place.offs + pnode_len geo ≤ length bytes in
        let none : place.offs + pnode_len geo ≤ 0 = subst P (alone_other root.lnum place.lnum leb other) h.inside in
        let long : 0 < pnode_len geo = omega arith in
        absurd (omega (arith, none, long))
  ]

properties_wrong : OneNnode → (contents : ℕ → List ℕ) (geo : RawGeometry) (master : Master) (props : List Lprop) (at : Wrong) → IsBytes (contents master.lpt_lnum) → 0 < master.lpt_lnum → (wrong : IsWrongProperty contents geo master at) → (level depth : ℕ) (places : List LptPlace)
    → depth + level ≡ pnode_depth geo → depth ≤ wrong.depth → IsRowBelow geo (contents master.lpt_lnum) (lpt_root master) depth level places → IsBelow geo (alone master.lpt_lnum (contents master.lpt_lnum)) level places props → ⊥
unfolding IsBelow
properties_wrong one contents geo master props at fits inside wrong zero depth places end before known (all, row, is) =
    let root = lpt_root master in
    let leb = contents master.lpt_lnum in
    let low = wrong.in_tree in
    let here : wrong.depth ≡ depth = omega (arith, end, before, low) in
    let level : pnode_depth geo - wrong.depth ≡ 0 = omega (arith, end, here) in
    let L : ℕ → Type 0 = λ n. wrong.number < row_len geo n in
    let D : ℕ → Type 0 = λ n. IsPlaceBelow geo leb root n wrong.number wrong.place in
    let found = known wrong.number wrong.place (subst L level wrong.over_main) (subst D here wrong.leads) in
    let own = said_at (HasPnode geo) (empty_leb geo) (alone master.lpt_lnum leb) places all wrong.number wrong.place (pnodes_long geo) row found in
    let right = pnode_right one geo leb root fits inside wrong.place own.four wrong.some own.says in
    let P : ℕ → Type 0 = λ n. HasPnode geo (contents n) wrong.place.offs own.four in
    elim wrong.wrong [
      | inl (inl (deep, none, values)) ↦ none own.four (subst P (sym right.0) right.1)
      | inl (inr (high, none, values)) ↦ omega (arith, high, here, end)
      | inr (other, stands, values) ↦ other right.0
    ]
properties_wrong one contents geo master props at fits inside wrong (suc level) depth places end before known (all, row, is) =
    let root = lpt_root master in
    let leb = contents master.lpt_lnum in
    elim (cases_eq wrong.depth depth) [
      | inl here ↦
          let under : pnode_depth geo - wrong.depth ≡ suc level = omega (arith, end, here) in
          let L : ℕ → Type 0 = λ n. wrong.number < row_len geo n in
          let D : ℕ → Type 0 = λ n. IsPlaceBelow geo leb root n wrong.number wrong.place in
          let found = known wrong.number wrong.place (subst L under wrong.over_main) (subst D here wrong.leads) in
          let own = said_at (HasNnode geo) no_place (alone master.lpt_lnum leb) places all wrong.number wrong.place (nnodes_long geo) row found in
          let right = nnode_right one geo leb root fits inside wrong.place own.four wrong.some own.says in
          let P : ℕ → Type 0 = λ n. HasNnode geo (contents n) wrong.place.offs own.four in
          elim wrong.wrong [
            | inl (inl (deep, none, values)) ↦ omega (arith, deep, here, end)
            | inl (inr (high, none, values)) ↦ none own.four (subst P (sym right.0) right.1)
            | inr (other, stands, values) ↦ other right.0
          ]
      | inr deeper ↦
          properties_wrong one contents geo master props at fits inside wrong level (suc depth) (take (row_len geo level) all) (omega (arith, end)) (omega (arith, before, deeper)) (row_below one geo leb root fits inside depth level places all row known) is
    ]

root_row : (geo : RawGeometry) (leb : List ℕ) (root : LptPlace) (level : ℕ) → IsRowBelow geo leb root 0 level (root ∷ [])
root_row geo leb root level number place less (first, is) = ap (slice_get (root ∷ [])) first ∙ ap Some (sym is)

pub properties_broken : OneNnode → (contents : ℕ → List ℕ) (geo : RawGeometry) (master : Master) (props : List Lprop) (at : Wrong) → IsBytes (contents master.lpt_lnum) → IsWrongProperty contents geo master at → HasProperties contents geo master props → ⊥
properties_broken one contents geo master props at fits wrong h =
    let low = h.low in
    properties_wrong one contents geo master props at fits (omega (arith, low)) wrong (pnode_depth geo) 0 (lpt_root master ∷ []) (omega arith) (omega arith) (root_row geo (contents master.lpt_lnum) (lpt_root master) (pnode_depth geo)) h.below
