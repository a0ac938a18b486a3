-- What stands in bytes still stands where more follow them.
use Rattle.std.proofs.Common.{◌≡◌, ℕ, zero, suc, ◌+◌, ◌≤◌, List, [], ◌∷◌, ◌++◌, length, take, drop, ap, sym, ◌∙◌, arith, subst, refl, inl, inr, length-append, length-drop, append-nil}
use Rattle.std.proofs.lemmas.Bool.Decides.{eqb_tells}
use Rattle.std.proofs.lemmas.List.{take-append-le, drop-append-le}
use Rattle.ubifs_base.specs.Properties.{pnode_len, nnode_len}
use Rattle.ubifs_base.specs.declared.raw_geometry.RawGeometry.{RawGeometry}
use Rattle.media_lpt.specs.Nodes.{IsPnodeBytes, IsNnodeBytes}
use Rattle.media_lpt.specs.declared.lprop.Lprop.{Lprop}
use Rattle.media_lpt.specs.declared.nnode.LptPlace.{LptPlace}
use Rattle.lpt_area.specs.Tree.{AtPlace, Row, HasPnode, HasNnode, IsBelow, IsTree, IsTreeIn, no_place, empty_leb, alone, row_len}

-- each LEB has the same bytes, and more behind them
abbrev pub Extends : (ℕ → List ℕ) → (ℕ → List ℕ) → Type 0
Extends holds other = (k : ℕ) → (more : List ℕ) × (other k ≡ holds k ++ more)

part_of : (a more : List ℕ) (offs len : ℕ) → offs + len ≤ length a → take len (drop offs (a ++ more)) ≡ take len (drop offs a)
part_of a more offs len inside =
    let long = length-drop offs a in
    ap (take len) (drop-append-le offs a more (omega (arith, inside))) ∙ take-append-le len (drop offs a) more (omega (arith, inside, long))

pub pnode_grows : (geo : RawGeometry) (a more : List ℕ) (offs : ℕ) (four : List Lprop) → HasPnode geo a offs four → HasPnode geo (a ++ more) offs four
pnode_grows geo a more offs four h =
    let inside = h.inside in
    let sum = length-append a more in
    let P : List ℕ → Type 0 = λ bytes. IsPnodeBytes geo bytes h.node in
    record { node = h.node; inside = omega (arith, inside, sum); is = subst P (sym (part_of a more offs (pnode_len geo) h.inside)) h.is; says = h.says }

pub nnode_grows : (geo : RawGeometry) (a more : List ℕ) (offs : ℕ) (four : List LptPlace) → HasNnode geo a offs four → HasNnode geo (a ++ more) offs four
nnode_grows geo a more offs four h =
    let inside = h.inside in
    let sum = length-append a more in
    let P : List ℕ → Type 0 = λ bytes. IsNnodeBytes geo bytes h.node in
    record { node = h.node; inside = omega (arith, inside, sum); is = subst P (sym (part_of a more offs (nnode_len geo) h.inside)) h.is; says = h.says }

pub row_grows : {X : Type 0} (S : List ℕ → ℕ → List X → Type 0) (none : X) (holds other : ℕ → List ℕ) (row : List LptPlace) (all : List X)
    → ((a more : List ℕ) (offs : ℕ) (four : List X) → S a offs four → S (a ++ more) offs four) → Extends holds other → Row S none holds row all → Row S none other row all
unfolding Row
row_grows S none holds other [] all grows ext h = h
row_grows {X = X} S none holds other (x ∷ row) all grows ext h =
    let more = ext x.lnum in
    let P : List ℕ → Type 0 = λ leb. AtPlace S none leb x h.0 in
    let here : AtPlace S none (holds x.lnum ++ more.0) x h.0 = at_grows (holds x.lnum) more.0 x h.0 h.2 in
    (h.0, h.1, subst P (sym more.1) here, row_grows S none holds other row h.1 grows ext h.3, h.4)
  where
    at_grows : (a more : List ℕ) (place : LptPlace) (four : List X) → AtPlace S none a place four → AtPlace S none (a ++ more) place four
    at_grows a more place four (inl p) = inl p
    at_grows a more place four (inr p) = inr (p.0, grows a more place.offs four p.1)

pub below_grows : (geo : RawGeometry) (holds other : ℕ → List ℕ) (level : ℕ) (row : List LptPlace) (props : List Lprop) → Extends holds other → IsBelow geo holds level row props → IsBelow geo other level row props
unfolding IsBelow
below_grows geo holds other zero row props ext h = (h.0, row_grows (HasPnode geo) (empty_leb geo) holds other row h.0 (pnode_grows geo) ext h.1, h.2)
below_grows geo holds other (suc level) row props ext h =
    (h.0, row_grows (HasNnode geo) no_place holds other row h.0 (nnode_grows geo) ext h.1, below_grows geo holds other level (take (row_len geo level) h.0) props ext h.2)

-- a LEB alone, with more behind its bytes
pub alone_extends : (lnum : ℕ) (a b more : List ℕ) → b ≡ a ++ more → Extends (alone lnum a) (alone lnum b)
alone_extends lnum a b more is k = elim (eqb_tells k lnum) [ inl same ↦ rw same.0 (more, is) | inr other ↦ rw other.0 ([], refl) ]

-- a LEB among others
pub alone_among : (lnum : ℕ) (leb : List ℕ) (holds : ℕ → List ℕ) → holds lnum ≡ leb → Extends (alone lnum leb) holds
alone_among lnum leb holds is k = elim (eqb_tells k lnum) [
  | inl same ↦ rw same.0 ([], ap holds same.1 ∙ is ∙ sym (append-nil leb))
  | inr other ↦ rw other.0 (holds k, refl)
]

-- a tree in one LEB is a tree in all contents that have it
pub tree_among : (geo : RawGeometry) (lnum : ℕ) (leb : List ℕ) (holds : ℕ → List ℕ) (root : LptPlace) (props : List Lprop) → holds lnum ≡ leb → IsTreeIn geo lnum leb root props → IsTree geo holds root props
tree_among geo lnum leb holds root props is h =
    record { low = h.low; high = h.high; below = below_grows geo (alone lnum leb) holds _ (root ∷ []) props (alone_among lnum leb holds is) h.below }
