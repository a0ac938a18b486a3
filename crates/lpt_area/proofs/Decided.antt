-- What a place and a level say, and that they say nothing else.
use Rattle.std.proofs.Common.{◌≡◌, ◌≢◌, ℕ, zero, suc, ◌+◌, ◌<◌, ◌≤◌, List, [], ◌∷◌, length, take, drop, refl, ap, sym, ◌∙◌, arith, subst, inl, inr}
use Rattle.ubifs_base.specs.Areas.{main_lebs}
use Rattle.ubifs_base.specs.NodeLaws.{IsBytes}
use Rattle.ubifs_base.specs.Properties.{pnode_len, nnode_len}
use Rattle.ubifs_base.specs.declared.raw_geometry.RawGeometry.{RawGeometry}
use Rattle.media_lpt.specs.Nodes.{IsPnodeBytes, IsNnodeBytes}
use Rattle.media_lpt.specs.declared.lprop.Lprop.{Lprop}
use Rattle.media_lpt.specs.declared.nnode.LptPlace.{LptPlace}
use Rattle.media_lpt.specs.declared.nnode.Nnode.{Nnode}
use Rattle.media_lpt.specs.declared.pnode.Pnode.{Pnode}
use Rattle.lpt_area.specs.Tree.{AtPlace, Row, HasPnode, HasNnode, IsBelow, row_len, no_place, empty_leb}
use Rattle.lpt_area.specs.Only.{IsOnly, HasNone, SameFor}

module _ {X : Type 0} (S : List ℕ → ℕ → List X → Type 0) (none : X) (leb : List ℕ) (place : LptPlace) where
  -- no place
  pub at_no_place : place.lnum ≡ 0 → IsOnly (AtPlace S none leb place) (none ∷ none ∷ none ∷ none ∷ [])
  at_no_place is_none = (inl (is_none, refl), λ y h. elim h [ inl same ↦ same.1 | inr there ↦ absurd (there.0 is_none) ])

  -- a place
  pub at_found : (four : List X) → place.lnum ≢ 0 → S leb place.offs four → ((y : List X) → S leb place.offs y → y ≡ four) → IsOnly (AtPlace S none leb place) four
  at_found four some is only = (inr (some, is), λ y h. elim h [ inl gone ↦ absurd (some gone.0) | inr there ↦ only y there.1 ])

  pub at_fails : place.lnum ≢ 0 → HasNone (S leb place.offs) → HasNone (AtPlace S none leb place)
  at_fails some fails y h = elim h [ inl gone ↦ absurd (some gone.0) | inr there ↦ fails y there.1 ]

-- the law that bytes are at most one node
abbrev pub OneNnode : RawGeometry → Type 0
OneNnode geo = (bytes : List ℕ) (a b : Nnode) → IsBytes bytes → IsNnodeBytes geo bytes a → IsNnodeBytes geo bytes b → a ≡ b

abbrev pub OnePnode : RawGeometry → Type 0
OnePnode geo = (bytes : List ℕ) (a b : Pnode) → IsBytes bytes → IsPnodeBytes geo bytes a → IsPnodeBytes geo bytes b → a ≡ b

module _ (geo : RawGeometry) (leb bytes : List ℕ) (place : LptPlace) where
  pub nnode_found : (node : Nnode) → OneNnode geo → place.lnum ≢ 0 → place.offs + nnode_len geo ≤ length leb → bytes ≡ take (nnode_len geo) (drop place.offs leb) → IsBytes bytes → IsNnodeBytes geo bytes node
      → IsOnly (AtPlace (HasNnode geo) no_place leb place) node.places
  nnode_found node one some inside read fits is =
      let P : List ℕ → Type 0 = λ bs. IsNnodeBytes geo bs node in
      at_found (HasNnode geo) no_place leb place node.places some (record { node = node; inside = inside; is = subst P read is; says = refl }) (λ y h.
      let Q : List ℕ → Type 0 = λ bs. IsNnodeBytes geo bs h.node in
      h.says ∙ ap (λ (n : Nnode). n.places) (one bytes h.node node fits (subst Q (sym read) h.is) is))

  pub nnode_fails : place.lnum ≢ 0 → bytes ≡ take (nnode_len geo) (drop place.offs leb) → ((node : Nnode) → IsNnodeBytes geo bytes node → ⊥) → HasNone (AtPlace (HasNnode geo) no_place leb place)
  nnode_fails some read fails = at_fails (HasNnode geo) no_place leb place some (λ y h. let P : List ℕ → Type 0 = λ bs. IsNnodeBytes geo bs h.node in fails h.node (subst P (sym read) h.is))

  pub nnode_outside : place.lnum ≢ 0 → length leb < place.offs + nnode_len geo → HasNone (AtPlace (HasNnode geo) no_place leb place)
  nnode_outside some outside = at_fails (HasNnode geo) no_place leb place some (λ y h. let inside = h.inside in absurd (omega (arith, inside, outside)))

  pub pnode_found : (node : Pnode) → OnePnode geo → place.lnum ≢ 0 → place.offs + pnode_len geo ≤ length leb → bytes ≡ take (pnode_len geo) (drop place.offs leb) → IsBytes bytes → IsPnodeBytes geo bytes node
      → IsOnly (AtPlace (HasPnode geo) (empty_leb geo) leb place) node.props
  pnode_found node one some inside read fits is =
      let P : List ℕ → Type 0 = λ bs. IsPnodeBytes geo bs node in
      at_found (HasPnode geo) (empty_leb geo) leb place node.props some (record { node = node; inside = inside; is = subst P read is; says = refl }) (λ y h.
      let Q : List ℕ → Type 0 = λ bs. IsPnodeBytes geo bs h.node in
      h.says ∙ ap (λ (n : Pnode). n.props) (one bytes h.node node fits (subst Q (sym read) h.is) is))

  pub pnode_fails : place.lnum ≢ 0 → bytes ≡ take (pnode_len geo) (drop place.offs leb) → ((node : Pnode) → IsPnodeBytes geo bytes node → ⊥) → HasNone (AtPlace (HasPnode geo) (empty_leb geo) leb place)
  pnode_fails some read fails = at_fails (HasPnode geo) (empty_leb geo) leb place some (λ y h. let P : List ℕ → Type 0 = λ bs. IsPnodeBytes geo bs h.node in fails h.node (subst P (sym read) h.is))

  pub pnode_outside : place.lnum ≢ 0 → length leb < place.offs + pnode_len geo → HasNone (AtPlace (HasPnode geo) (empty_leb geo) leb place)
  pnode_outside some outside = at_fails (HasPnode geo) (empty_leb geo) leb place some (λ y h. let inside = h.inside in absurd (omega (arith, inside, outside)))

-- a level down
pub level_down : (geo : RawGeometry) (holds : ℕ → List ℕ) (level : ℕ) (row all : List LptPlace) → IsOnly (Row (HasNnode geo) no_place holds row) all
    → SameFor (IsBelow geo holds (suc level) row) (IsBelow geo holds level (take (row_len geo level) all))
unfolding IsBelow
level_down geo holds level row all only =
    (λ props h. (let P : List LptPlace → Type 0 = λ a. IsBelow geo holds level (take (row_len geo level) a) props in subst P (only.1 h.0 h.1) h.2), λ props h. (all, only.0, h))

pub level_fails : (geo : RawGeometry) (holds : ℕ → List ℕ) (level : ℕ) (row : List LptPlace) → HasNone (Row (HasNnode geo) no_place holds row) → HasNone (IsBelow geo holds (suc level) row)
unfolding IsBelow
level_fails geo holds level row fails props h = fails h.0 h.1

pub pnodes_say : (geo : RawGeometry) (holds : ℕ → List ℕ) (row : List LptPlace) (all : List Lprop) → Row (HasPnode geo) (empty_leb geo) holds row all → IsBelow geo holds zero row (take (main_lebs geo) all)
unfolding IsBelow
pnodes_say geo holds row all h = (all, h, refl)

pub pnodes_fail : (geo : RawGeometry) (holds : ℕ → List ℕ) (row : List LptPlace) → HasNone (Row (HasPnode geo) (empty_leb geo) holds row) → HasNone (IsBelow geo holds zero row)
unfolding IsBelow
pnodes_fail geo holds row fails props h = fails h.0 h.1

pub same_then : {X : Type 0} (P Q R : X → Type 0) → SameFor P Q → SameFor Q R → SameFor P R
same_then P Q R pq qr = (λ x h. qr.0 x (pq.0 x h), λ x h. pq.1 x (qr.1 x h))

pub same_fails : {X : Type 0} (P Q : X → Type 0) → SameFor P Q → HasNone Q → HasNone P
same_fails P Q pq fails x h = fails x (pq.0 x h)

pub same_self : {X : Type 0} (P : X → Type 0) → SameFor P P
same_self P = (λ x h. h, λ x h. h)
