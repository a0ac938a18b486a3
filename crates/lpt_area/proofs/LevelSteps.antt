-- A tree that is laid level by level.
use Rattle.std.proofs.Common.{◌≡◌, ◌≢◌, ℕ, zero, suc, ◌+◌, ◌*◌, ◌^◌, ◌<◌, ◌≤◌, List, [], ◌∷◌, ◌++◌, length, take, drop, ap, sym, ◌∙◌, arith, subst, refl, inl, inr, length-append, append_assoc, append-nil}
use Rattle.std.proofs.lemmas.List.{take-take, take_at, take_all, drop_at, length-take-le}
use Rattle.std.proofs.lemmas.Bool.{eq-eqb}
use Rattle.std.proofs.Math.Nat.{suc-mul, add-mul, mul-le-mul_right, eq-or-lt_of_le}
use Rattle.ubifs_base.specs.Geometry.{IsGeometry}
use Rattle.std.specs.Prelude.{nat_le}
use Rattle.std.proofs.lemmas.Bool.{cases_Bool}
use Rattle.ubifs_base.specs.Areas.{main_lebs}
use Rattle.ubifs_base.specs.Properties.{quarter, pnode_len, nnode_len, pnode_count, level_nodes, nnodes_up_to, nnode_count, ltab_len, tree_height, height_from}
use Rattle.ubifs_base.specs.declared.raw_geometry.RawGeometry.{RawGeometry}
use Rattle.media_lpt.specs.Nodes.{IsPnodeBytes, IsNnodeBytes}
use Rattle.media_lpt.specs.declared.lprop.Lprop.{Lprop}
use Rattle.media_lpt.specs.declared.nnode.LptPlace.{LptPlace}
use Rattle.media_lpt.specs.declared.nnode.Nnode.{Nnode}
use Rattle.media_lpt.specs.declared.pnode.Pnode.{Pnode}
use Rattle.lpt_area.specs.Laid.{items_from, fours, places, IsLaid, IsLevelLaid, ArePnodesLaid, AreLevelsLaid, past_main}
use Rattle.lpt_area.specs.Tree.{AtPlace, Row, HasPnode, HasNnode, IsBelow, no_place, empty_leb, alone, row_len}
use Rattle.lpt_area.proofs.Counts.{four_props, four_places, level_nodes-mono}
use Rattle.lpt_area.proofs.Growing.{alone_extends, row_grows, below_grows, pnode_grows, nnode_grows}
use Rattle.lpt_area.proofs.LaidItems.{take-fours, fours-next, places-next, places-length, place_of}
use Rattle.lpt_area.proofs.PlaceRows.{row_take, row_append, row_one}

-- a node behind other bytes
behind : (front bytes : List ℕ) (offs len : ℕ) → length front ≡ offs → length bytes ≡ len → take len (drop offs (front ++ bytes)) ≡ bytes
behind front bytes offs len at long =
    ap (take len) (drop_at front bytes offs at) ∙ ap (take len) (sym (append-nil bytes)) ∙ take_at bytes [] len long

pub pnode_behind : (geo : RawGeometry) (node : Pnode) (front bytes : List ℕ) (offs : ℕ) (four : List Lprop) → length front ≡ offs → length bytes ≡ pnode_len geo → IsPnodeBytes geo bytes node → four ≡ node.props
    → HasPnode geo (front ++ bytes) offs four
pnode_behind geo node front bytes offs four at long is says =
    let sum = length-append front bytes in
    let P : List ℕ → Type 0 = λ bs. IsPnodeBytes geo bs node in
    record { node = node; inside = omega (arith, sum, at, long); is = subst P (sym (behind front bytes offs (pnode_len geo) at long)) is; says = says }

pub nnode_behind : (geo : RawGeometry) (node : Nnode) (front bytes : List ℕ) (offs : ℕ) (four : List LptPlace) → length front ≡ offs → length bytes ≡ nnode_len geo → IsNnodeBytes geo bytes node → four ≡ node.places
    → HasNnode geo (front ++ bytes) offs four
nnode_behind geo node front bytes offs four at long is says =
    let sum = length-append front bytes in
    let P : List ℕ → Type 0 = λ bs. IsNnodeBytes geo bs node in
    record { node = node; inside = omega (arith, sum, at, long); is = subst P (sym (behind front bytes offs (nnode_len geo) at long)) is; says = says }

-- one node more of a row
pub row_longer : {X : Type 0} (S : List ℕ → ℕ → List X → Type 0) (none : X) (lnum offs len n : ℕ) (front more new : List ℕ) (all four : List X)
    → ((a more : List ℕ) (offs : ℕ) (four : List X) → S a offs four → S (a ++ more) offs four) → lnum ≢ 0 → new ≡ front ++ more
    → Row S none (alone lnum front) (places lnum offs len n) all → S (front ++ more) (offs + n * len) four → Row S none (alone lnum new) (places lnum offs len (n + 1)) (all ++ four)
row_longer {X = X} S none lnum offs len n front more new all four grows some is row here =
    let P : List LptPlace → Type 0 = λ r. Row S none (alone lnum new) r (all ++ four) in
    let Q : List ℕ → Type 0 = λ leb. S leb (offs + n * len) four in
    let mine : alone lnum new lnum ≡ new = rw (eq-eqb lnum lnum refl) refl in
    let at : AtPlace S none (alone lnum new lnum) (place_of lnum (offs + n * len)) four = inr (some, subst Q (sym is ∙ sym mine) here) in
    subst P (sym (places-next lnum offs len n))
    (row_append S none (alone lnum new) (places lnum offs len n) (place_of lnum (offs + n * len) ∷ []) all four
    (row_grows S none (alone lnum front) (alone lnum new) (places lnum offs len n) all grows (alone_extends lnum front new more is) row)
    (row_one S none (alone lnum new) (place_of lnum (offs + n * len)) four at))

-- a level over another
pub level_up : (geo : RawGeometry) (holds : ℕ → List ℕ) (level n : ℕ) (row below : List LptPlace) (props : List Lprop) → row_len geo (suc level) ≤ n → row_len geo level ≤ length below
    → Row (HasNnode geo) no_place holds row (fours no_place n below) → IsBelow geo holds level (take (row_len geo level) below) props → IsBelow geo holds (suc level) (take (row_len geo (suc level)) row) props
unfolding IsBelow
level_up geo holds level n row below props enough room laid tree =
    let w = row_len geo level in
    let v = row_len geo (suc level) in
    let all : List LptPlace = take (4 * v) (fours no_place n below) in
    let same : take w all ≡ take w below = take-take w (4 * v) (fours no_place n below) (omega arith) ∙ take-fours no_place w n below (omega (arith, enough)) room in
    let P : List LptPlace → Type 0 = λ r. IsBelow geo holds level r props in
    (all, row_take (HasNnode geo) no_place holds row v (fours no_place n below) (four_places geo) laid, subst P (sym same) tree)

-- the pnodes
pub pnodes_up : (geo : RawGeometry) (holds : ℕ → List ℕ) (n : ℕ) (row : List LptPlace) (props : List Lprop) → quarter (main_lebs geo) ≤ n → length props ≡ main_lebs geo
    → Row (HasPnode geo) (empty_leb geo) holds row (fours past_main n props) → IsBelow geo holds 0 (take (row_len geo 0) row) props
unfolding IsBelow
pnodes_up geo holds n row props enough long laid =
    let m = main_lebs geo in
    let v = row_len geo 0 in
    let all : List Lprop = take (4 * v) (fours past_main n props) in
    let same : take m all ≡ props = take-take m (4 * v) (fours past_main n props) (omega arith) ∙ take-fours past_main m n props (omega (arith, enough)) (omega (arith, long)) ∙ take_all m props (omega (arith, long)) in
    (all, row_take (HasPnode geo) (empty_leb geo) holds row v (fours past_main n props) (four_props geo) laid, sym same)

pub no_row : {X : Type 0} (S : List ℕ → ℕ → List X → Type 0) (none : X) (holds : ℕ → List ℕ) (other : X) (lnum offs len : ℕ) (xs : List X) → Row S none holds (places lnum offs len 0) (fours other 0 xs)
unfolding Row places items_from
no_row S none holds other lnum offs len xs = refl

one_more : (i len : ℕ) → (i + 1) * len ≡ i * len + len
one_more i len = let e : i + 1 ≡ suc i = omega arith in ap (λ (n : ℕ). n * len) e ∙ suc-mul i len

-- one pnode more
pub pnodes_next : (geo : RawGeometry) (props : List Lprop) (out new : List ℕ) (i offs : ℕ) (node : Pnode) → IsLaid (λ bytes. IsPnodeBytes geo bytes node) out new offs (pnode_len geo) → offs ≡ i * pnode_len geo
    → node.props ≡ items_from past_main 4 (4 * i) props → offs ≤ length out → ArePnodesLaid geo props out i → ArePnodesLaid geo props new (i + 1)
pnodes_next geo props out new i offs node laid at says room before lnum some =
    let len = pnode_len geo in
    let front : List ℕ = take (i * len) out in
    let four : List Lprop = items_from past_main 4 (4 * i) props in
    let more = one_more i len in
    let e : (i + 1) * len ≡ offs + len = omega (arith, more, at) in
    let is : take ((i + 1) * len) new ≡ front ++ laid.bytes = ap (λ (n : ℕ). take n new) e ∙ laid.front ∙ ap (λ (n : ℕ). take n out ++ laid.bytes) at in
    let front_at = length-take-le (i * len) out (omega (arith, at, room)) in
    let front_len : length front ≡ 0 + i * len = omega (arith, front_at) in
    let P : List Lprop → Type 0 = λ all. Row (HasPnode geo) (empty_leb geo) (alone lnum (take ((i + 1) * len) new)) (places lnum 0 len (i + 1)) all in
    subst P (sym (fours-next past_main i props))
    (row_longer (HasPnode geo) (empty_leb geo) lnum 0 len i front laid.bytes (take ((i + 1) * len) new) (fours past_main i props) four (pnode_grows geo) some is (before lnum some)
    (pnode_behind geo node front laid.bytes (0 + i * len) four front_len laid.long laid.node (sym says)))

-- one nnode more
pub nnodes_next : (geo : RawGeometry) (lnum : ℕ) (below : List LptPlace) (old out new : List ℕ) (offs len i at : ℕ) (node : Nnode) → IsLaid (λ bytes. IsNnodeBytes geo bytes node) out new at (nnode_len geo)
    → at ≡ offs + i * len → len ≡ nnode_len geo → node.places ≡ items_from no_place 4 (4 * i) below → at ≤ length out → lnum ≢ 0 → IsLevelLaid geo lnum below old out offs len i
    → IsLevelLaid geo lnum below old new offs len (i + 1)
nnodes_next geo lnum below old out new offs len i at node laid place is_len says room some before =
    let front : List ℕ = take (offs + i * len) out in
    let four : List LptPlace = items_from no_place 4 (4 * i) below in
    let more = one_more i len in
    let e : offs + (i + 1) * len ≡ at + nnode_len geo = omega (arith, more, place, is_len) in
    let is : take (offs + (i + 1) * len) new ≡ front ++ laid.bytes = ap (λ (n : ℕ). take n new) e ∙ laid.front ∙ ap (λ (n : ℕ). take n out ++ laid.bytes) place in
    let front_len : length front ≡ offs + i * len = length-take-le (offs + i * len) out (omega (arith, place, room)) in
    let P : List LptPlace → Type 0 = λ all. Row (HasNnode geo) no_place (alone lnum (take (offs + (i + 1) * len) new)) (places lnum offs len (i + 1)) all in
    let grown = before.grown in
    record {
      row = subst P (sym (fours-next no_place i below))
          (row_longer (HasNnode geo) no_place lnum offs len i front laid.bytes (take (offs + (i + 1) * len) new) (fours no_place i below) four (nnode_grows geo) some is before.row
          (nnode_behind geo node front laid.bytes (offs + i * len) four front_len laid.long laid.node (sym says)));
      grown = record {
        more = grown.more ++ laid.bytes;
        front = is ∙ ap (λ (f : List ℕ). f ++ laid.bytes) grown.front ∙ append_assoc (take offs old) grown.more laid.bytes;
        size = laid.size ∙ grown.size;
      };
    }

pub level_start : (geo : RawGeometry) (lnum : ℕ) (below : List LptPlace) (out : List ℕ) (offs len : ℕ) → IsLevelLaid geo lnum below out out offs len 0
level_start geo lnum below out offs len =
    let e : offs + 0 * len ≡ offs = omega arith in
    record {
      row = no_row (HasNnode geo) no_place (alone lnum (take (offs + 0 * len) out)) no_place lnum offs len below;
      grown = record { more = []; front = ap (λ (n : ℕ). take n out) e ∙ sym (append-nil (take offs out)); size = refl };
    }

-- before the first nnode
pub levels_none : (geo : RawGeometry) (lnum : ℕ) (out : List ℕ) (offs len n : ℕ) → offs ≡ 0 → len ≡ pnode_len geo → n ≡ pnode_count geo → AreLevelsLaid geo lnum out out offs len n 0
levels_none geo lnum out offs len n no_offs is_len is_n =
    let base = pnode_count geo * pnode_len geo in
    let e : offs + n * len ≡ base = ap (λ (o : ℕ). o + n * len) no_offs ∙ ap (λ (m : ℕ). 0 + m * len) is_n ∙ ap (λ (l : ℕ). 0 + pnode_count geo * l) is_len ∙ omega arith in
    let none : 0 * nnode_len geo ≡ 0 = omega arith in
    let row : places lnum 0 (pnode_len geo) (pnode_count geo) ≡ places lnum offs len n =
    sym (ap (λ (o : ℕ). places lnum o len n) no_offs ∙ ap (λ (l : ℕ). places lnum 0 l n) is_len ∙ ap (λ (m : ℕ). places lnum 0 (pnode_len geo) m) is_n) in
    record {
      count = is_n;
      end = omega (arith, e, none);
      grown = record { more = []; front = ap (λ (m : ℕ). take m out) e ∙ sym (append-nil (take base out)); size = refl };
      tree = λ props h.
          let P : List LptPlace → Type 0 = λ r. IsBelow geo (alone lnum (take base out)) 0 (take (row_len geo 0) r) props in
          let Q : ℕ → Type 0 = λ m. IsBelow geo (alone lnum (take m out)) 0 (take (row_len geo 0) (places lnum offs len n)) props in
          subst Q (sym e) (subst P row h);
    }

-- one level of nnodes more
pub levels_next : (geo : RawGeometry) (lnum : ℕ) (old out new : List ℕ) (offs len n level offs' n' : ℕ) → quarter (main_lebs geo) ≤ pnode_count geo → offs' ≡ offs + n * len → n' ≡ quarter n
    → IsLevelLaid geo lnum (places lnum offs len n) out new offs' (nnode_len geo) n' → AreLevelsLaid geo lnum old out offs len n level → AreLevelsLaid geo lnum old new offs' (nnode_len geo) n' (level + 1)
levels_next geo lnum old out new offs len n level offs' n' fewer is_offs is_n laid before =
    let P = pnode_count geo in
    let up : suc level ≡ level + 1 = omega arith in
    let L : ℕ → Type 0 = λ l. AreLevelsLaid geo lnum old new offs' (nnode_len geo) n' l in
    let count : n' ≡ level_nodes P (suc level) = is_n ∙ ap quarter before.count in
    let before_end = before.end in
    let sum = add-mul (nnodes_up_to P level) (level_nodes P (suc level)) (nnode_len geo) in
    let this : n' * nnode_len geo ≡ level_nodes P (suc level) * nnode_len geo = ap (λ (m : ℕ). m * nnode_len geo) count in
    let first = before.grown in
    let second = laid.grown in
    let mid : take offs' out ≡ take (offs + n * len) out = ap (λ (m : ℕ). take m out) is_offs in
    let whole : take (offs' + n' * nnode_len geo) new ≡ take (offs + n * len) out ++ second.more = second.front ∙ ap (λ (f : List ℕ). f ++ second.more) mid in
    let enough = level_nodes-mono (quarter (main_lebs geo)) P (suc level) fewer in
    let room = level_nodes-mono (quarter (main_lebs geo)) P level fewer in
    let below_len = places-length lnum offs len n in
    let n_is = before.count in
    subst L up (record {
      count = count;
      end = omega (arith, is_offs, before_end, sum, this);
      grown = record {
        more = first.more ++ second.more;
        front = whole ∙ ap (λ (f : List ℕ). f ++ second.more) first.front ∙ append_assoc (take (P * pnode_len geo) old) first.more second.more;
        size = second.size ∙ first.size;
      };
      tree = λ props h.
          level_up geo (alone lnum (take (offs' + n' * nnode_len geo) new)) level n' (places lnum offs' (nnode_len geo) n') (places lnum offs len n) props (omega (arith, enough, count)) (omega (arith, room, below_len, n_is)) laid.row
          (below_grows geo (alone lnum (take (offs + n * len) out)) (alone lnum (take (offs' + n' * nnode_len geo) new)) level (take (row_len geo level) (places lnum offs len n)) props
          (alone_extends lnum (take (offs + n * len) out) (take (offs' + n' * nnode_len geo) new) second.more whole) (before.tree props h));
    })

-- the nnodes of the levels up to a lower one are no more
pub nnodes_up_to-mono : (pnodes a b : ℕ) → a ≤ b → nnodes_up_to pnodes a ≤ nnodes_up_to pnodes b
nnodes_up_to-mono pnodes zero b h = omega arith
nnodes_up_to-mono pnodes (suc a) zero h = absurd (omega (arith, h))
nnodes_up_to-mono pnodes (suc a) (suc b) h = elim (eq-or-lt_of_le {n = a} {m = b} (omega (arith, h))) [
  | inl same ↦ let P : ℕ → Type 0 = λ n. nnodes_up_to pnodes (suc a) ≤ nnodes_up_to pnodes (suc n) in subst P same (omega arith)
  | inr less ↦ let below = nnodes_up_to-mono pnodes (suc a) b (omega (arith, less)) in omega (arith, below)
]

-- the next level fits the LEB, with the ltab behind it
pub level_fits : (geo : RawGeometry) (offs len n level : ℕ) → IsGeometry geo → level < tree_height (pnode_count geo) → n ≡ level_nodes (pnode_count geo) level
    → offs + n * len ≡ pnode_count geo * pnode_len geo + nnodes_up_to (pnode_count geo) level * nnode_len geo → offs + n * len + quarter n * nnode_len geo + ltab_len geo ≤ geo.leb_size
level_fits geo offs len n level h lower count end =
    let P = pnode_count geo in
    let tree = h.one_leb in
    let sum = add-mul (nnodes_up_to P level) (level_nodes P (suc level)) (nnode_len geo) in
    let this : quarter n * nnode_len geo ≡ level_nodes P (suc level) * nnode_len geo = ap (λ (m : ℕ). quarter m * nnode_len geo) count in
    let all : nnodes_up_to P (suc level) * nnode_len geo ≤ nnode_count geo * nnode_len geo = mul-le-mul_right (nnode_len geo) (nnodes_up_to-mono P (suc level) (tree_height P) (omega (arith, lower))) in
    omega (arith, tree, sum, this, all, end)

pub nnode_len-some : (geo : RawGeometry) → 0 < nnode_len geo
nnode_len-some geo = omega arith

pub pnode_len-some : (geo : RawGeometry) → 0 < pnode_len geo
pnode_len-some geo = omega arith

height_from-some : (tries height pnodes : ℕ) → 1 ≤ height → 1 ≤ height_from tries height pnodes
unfolding height_from
height_from-some zero height pnodes h = h
height_from-some (suc tries) height pnodes h = elim (cases_Bool (nat_le pnodes (4 ^ height))) [
  | inl found ↦ rw found h
  | inr above ↦ rw above (height_from-some tries (height + 1) pnodes (omega (arith, h)))
]

pub tree_height-some : (pnodes : ℕ) → 1 ≤ tree_height pnodes
unfolding tree_height
tree_height-some pnodes = height_from-some 16 1 pnodes (omega arith)
