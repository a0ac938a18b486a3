-- The whole tree of LEB properties, gone over.
use Rattle.std.proofs.Common.{◌≡◌, ℕ, zero, suc, ◌+◌, ◌<◌, ◌≤◌, nat_lt, Bool, true, false, List, [], ◌∷◌, Option, Some, None, Result, Ok, Err, IfOk, take, drop, slice_get, refl, ap, sym, ◌∙◌, subst, inl, inr, arith}
use Rattle.std.specs.Prelude.{◌≢◌, ◌%◌, if◌then◌else◌, IfErr}
use Rattle.std.specs.declared.vec.Vec.{Vec}
use Rattle.std.specs.declared.alloc.Global.{Global}
use Rattle.std.specs.List.{AllByRecursion}
use Rattle.std.specs.Option.{option_or}
use Rattle.std.proofs.lemmas.Bool.{ltb-false, ltb-true}
use Rattle.ubifs_base.specs.Areas.{lpt_first, main_lebs, orph_first}
use Rattle.ubifs_base.specs.Geometry.{IsGeometry}
use Rattle.ubifs_base.specs.NodeLaws.{IsBytes}
use Rattle.ubifs_base.specs.Properties.{level_nodes, quarter}
use Rattle.ubifs_base.specs.declared.raw_geometry.RawGeometry.{RawGeometry}
use Rattle.media_lpt.specs.Nodes.{IsPlace}
use Rattle.media_lpt.specs.declared.lprop.Lprop.{Lprop}
use Rattle.media_lpt.specs.declared.nnode.LptPlace.{LptPlace}
use Rattle.media_sys.specs.declared.master.Master.{Master}
use Rattle.small_areas.specs.Addresses.{Address, addresses_of, first_past, in_area, past_limit}
use Rattle.small_areas.specs.declared.misplaced.Misplaced.{Misplaced}
use Rattle.lpt_area.specs.Tree.{HasNnode, HasPnode, IsBelow, Row, alone, empty_leb, no_place, row_len}
use Rattle.sound_image.specs.Properties.{HasProperties, lpt_root}
use Rattle.sound_image.specs.PropertyBreaches.{IsPlaceBelow, IsWrongProperty, LacksNode, StandsNode, pnode_depth}
use Rattle.sound_image.specs.Wrong.{IsFirstWrong, Wrong, comes_before, differs}
use Rattle.sound_image.specs.declared.breach.Breach.{Breach}
use Rattle.sound_image.specs.declared.breach.Breach.TheVariants.{Super as InSuper, Feature as NeedsOne, NoMaster, Damaged}
use Rattle.sound_image.specs.declared.rule.Rule.TheVariants as rules
use Rattle.image_check.specs.Told.{IsBreachOf}
use Rattle.image_check.specs.PropertyWalk.{IsAreaOf, IsFirstAbove, IsRowRead, IsWalkedTo, breach_at, lpt_leb_in, nnodes, pnodes}
use Rattle.image_check.specs.WrongValues.{wrong_at}
use Rattle.image_check.specs.declared.wrong_value.WrongValue.{WrongValue}
use Rattle.image_check.proofs.WalkedRows.{some_same, walked_row}
use Rattle.image_check.proofs.PropertyWalks.{IsRowAt, OneNnode, first_row, nnodes_at, pnodes_at, row_below}

-- ---- the root
some_nodes : (n level : ℕ) → 0 < n → 0 < level_nodes (quarter n) level
some_nodes n zero some = omega (arith, some)
some_nodes n (suc level) some = let below = some_nodes n level some in omega (arith, below)

root_alone : (root place : LptPlace) (number : ℕ) → slice_get (root ∷ []) number ≡ Some place → (number ≡ 0) × (place ≡ root)
root_alone root place zero e = (refl, sym (some_same root place e))
root_alone root place (suc number) e = absurd cc

pub walk_start : (geo : RawGeometry) (master : Master) (holds : ℕ → List ℕ) (level : ℕ) (row : List LptPlace) → IsGeometry geo → level ≡ pnode_depth geo → row ≡ lpt_root master ∷ [] → IsWalkedTo geo master holds level row None
walk_start geo master holds level row in_range top is =
    let count = in_range.leb_cnt in
    let P : ℕ → Type 0 = λ l. IsWalkedTo geo master holds l row None in
    let Q : List LptPlace → Type 0 = λ r. IsWalkedTo geo master holds (pnode_depth geo) r None in
    subst P (sym top) (subst Q (sym is) (record {
      depth = 0;
      is_depth = omega arith;
      sound = λ number place e some.
          let at = root_alone (lpt_root master) place number e in
          let nodes = some_nodes (main_lebs geo) (pnode_depth geo) (omega (arith, count)) in
          let zeroth = at.0 in
          (omega (arith, zeroth, nodes), at);
      complete = λ number place less leads. ap (slice_get (lpt_root master ∷ [])) leads.0 ∙ ap Some (sym leads.1);
      wrong = record { is = λ node e. absurd cc; least = λ other h low. absurd (omega (arith, low)) };
      tree = λ none props h. h;
    }))

row_at : (geo : RawGeometry) (master : Master) (holds : ℕ → List ℕ) (level : ℕ) (row : List LptPlace) (first : Option WrongValue) (h : IsWalkedTo geo master holds level row first) → IsRowAt geo master holds h.depth level row
row_at geo master holds level row first h = record { is_depth = h.is_depth; sound = h.sound; complete = h.complete }

-- ---- one row more
below_more : (geo : RawGeometry) (holds : ℕ → List ℕ) (level : ℕ) (row all : List LptPlace) (props : List Lprop) → Row (HasNnode geo) no_place holds row all → IsBelow geo holds level (take (row_len geo level) all) props → IsBelow geo holds (suc level) row props
unfolding IsBelow
below_more geo holds level row all props h more = (all, h, more)

pub walk_next : OneNnode → (geo : RawGeometry) (master : Master) (holds : ℕ → List ℕ) (level : ℕ) (row : List LptPlace) (first : Option WrongValue) (all : List LptPlace) (last : Option WrongValue) → IsBytes (holds master.lpt_lnum) → 0 < master.lpt_lnum
    → IsWalkedTo geo master holds (suc level) row first → IsRowRead (nnodes geo) master.lpt_lnum holds row first all last → IsWalkedTo geo master holds level (take (row_len geo level) all) last
walk_next one geo master holds level row first all last fits inside before walked =
    let here = row_at geo master holds (suc level) row first before in
    let at = before.is_depth in
    let below = row_below geo master holds one fits inside before.depth level row here first all last walked in
    record {
      depth = suc before.depth;
      is_depth = below.is_depth;
      sound = below.sound;
      complete = below.complete;
      wrong = first_row geo master holds (nnodes geo) before.depth (suc level) row (nnodes_at geo before.depth (omega (arith, at))) here first all last walked before.wrong;
      tree = λ none props h.
          let rows = walked_row (nnodes geo) master.lpt_lnum holds row first all last walked none in
          before.tree rows.0 props (below_more geo (alone master.lpt_lnum (holds master.lpt_lnum)) level row all props rows.1 h);
    }

-- the same along what calls answer
pub walk_on : OneNnode → (geo : RawGeometry) (master : Master) (holds : ℕ → List ℕ) (level lower : ℕ) (row new : List LptPlace) (first : Option WrongValue) (all : List LptPlace) (last : Option WrongValue) (n : ℕ) → IsBytes (holds master.lpt_lnum) → 0 < master.lpt_lnum → level ≡ lower + 1
    → IsWalkedTo geo master holds level row first → IsRowRead (nnodes geo) master.lpt_lnum holds row first all last → n ≡ row_len geo lower → new ≡ take n all → IsWalkedTo geo master holds lower new last
walk_on one geo master holds level lower row new first all last n fits inside step before walked count is =
    let P : ℕ → Type 0 = λ l. IsWalkedTo geo master holds l row first in
    let Q : List LptPlace → Type 0 = λ r. IsWalkedTo geo master holds lower r last in
    let up : level ≡ suc lower = omega (arith, step) in
    subst Q (sym (is ∙ ap (λ (k : ℕ). take k all) count)) (walk_next one geo master holds lower row first all last fits inside (subst P up before) walked)

-- ---- the pnodes
props_below : (geo : RawGeometry) (holds : ℕ → List ℕ) (row : List LptPlace) (all : List Lprop) → Row (HasPnode geo) (empty_leb geo) holds row all → IsBelow geo holds 0 row (take (main_lebs geo) all)
unfolding IsBelow
props_below geo holds row all h = (all, h, refl)

-- of the whole tree, what is kept is wrong first
whole_first : (geo : RawGeometry) (master : Master) (holds : ℕ → List ℕ) (depth : ℕ) (first : Option WrongValue) (node : WrongValue) → pnode_depth geo < depth → IsFirstAbove geo master holds depth first → first ≡ Some node → IsFirstWrong (IsWrongProperty holds geo master) (wrong_at node)
whole_first geo master holds depth first node deep h e = record {
  wrong = h.is node e;
  least = λ other w.
      let in_tree = w.in_tree in
      let kept = h.least other w (omega (arith, deep, in_tree)) in
      let P : WrongValue → Type 0 = λ n. comes_before other (wrong_at n) ≡ false in
      subst P (some_same kept.0 node (sym kept.1 ∙ e)) kept.2;
}

past_row : (geo : RawGeometry) (master : Master) (holds : ℕ → List ℕ) (row : List LptPlace) (first : Option WrongValue) (all : List Lprop) (last : Option WrongValue) (h : IsWalkedTo geo master holds 0 row first) → IsRowRead (pnodes geo) master.lpt_lnum holds row first all last → IsFirstAbove geo master holds (suc h.depth) last
past_row geo master holds row first all last h walked =
    let at = h.is_depth in
    first_row geo master holds (pnodes geo) h.depth 0 row (pnodes_at geo h.depth (omega (arith, at))) (row_at geo master holds 0 row first h) first all last walked h.wrong

pub walk_broken : (geo : RawGeometry) (master : Master) (holds : ℕ → List ℕ) (row : List LptPlace) (first : Option WrongValue) (all : List Lprop) (last : Option WrongValue) (node : WrongValue) → IsWalkedTo geo master holds 0 row first → IsRowRead (pnodes geo) master.lpt_lnum holds row first all last → last ≡ Some node
    → IsBreachOf rules.Properties (IsFirstWrong (IsWrongProperty holds geo master)) (breach_at node)
walk_broken geo master holds row first all last node h walked e =
    let at = h.is_depth in
    (refl, whole_first geo master holds (suc h.depth) last node (omega (arith, at)) (past_row geo master holds row first all last h walked) e)

-- ---- where the master says that the root stands
or_parts_none : {X : Type 0} (a b : Option X) → option_or a b ≡ None → (a ≡ None) × (b ≡ None)
or_parts_none None b h = (refl, h)
or_parts_none (Some x) b h = absurd cc

abbrev limit_by : ℕ → ℕ → ℕ → Bool → Bool → Option Misplaced
limit_by lnum first past a b = if a then Some (record { wanted = first; found = lnum }) else if b then None else Some (record { wanted = past; found = lnum })

area_of : (lnum first past : ℕ) (a b : Bool) → nat_lt lnum first ≡ a → nat_lt lnum past ≡ b → limit_by lnum first past a b ≡ None → (first ≤ lnum) × (lnum < past)
area_of lnum first past true b e f h = absurd cc
area_of lnum first past false true e f h = (ltb-false lnum first e, ltb-true lnum past f)
area_of lnum first past false false e f h = absurd cc

first_none : (address : Address) (rest : List Address) → first_past (address ∷ rest) ≡ None → (past_limit address ≡ None) × (first_past rest ≡ None)
first_none address rest h = or_parts_none (past_limit address) (first_past rest) h

later_none : (n : ℕ) (xs : List Address) → first_past xs ≡ None → first_past (drop n xs) ≡ None
later_none zero xs h = h
later_none (suc n) [] h = h
later_none (suc n) (x ∷ xs) h = later_none n xs (first_none x xs h).1

pub root_in_area : (geo : RawGeometry) (master : Master) → first_past (addresses_of geo master) ≡ None → (lpt_first geo ≤ master.lpt_lnum) × (master.lpt_lnum < orph_first geo)
root_in_area geo master h =
    let own = (first_none (in_area master.lpt_lnum (lpt_first geo) (orph_first geo)) (drop 6 (addresses_of geo master)) (later_none 5 (addresses_of geo master) h)).0 in
    area_of master.lpt_lnum (lpt_first geo) (orph_first geo) (nat_lt master.lpt_lnum (lpt_first geo)) (nat_lt master.lpt_lnum (orph_first geo)) refl refl own

pub walk_met : (geo : RawGeometry) (master : Master) (holds : ℕ → List ℕ) (row : List LptPlace) (first : Option WrongValue) (all props : List Lprop) (last : Option WrongValue) (n : ℕ) → first_past (addresses_of geo master) ≡ None → IsWalkedTo geo master holds 0 row first
    → IsRowRead (pnodes geo) master.lpt_lnum holds row first all last → last ≡ None → n ≡ main_lebs geo → props ≡ take n all → HasProperties holds geo master props
walk_met geo master holds row first all props last n placed h walked none count is =
    let rows = walked_row (pnodes geo) master.lpt_lnum holds row first all last walked none in
    let area = root_in_area geo master placed in
    let P : List Lprop → Type 0 = λ p. HasProperties holds geo master p in
    subst P (sym (is ∙ ap (λ (k : ℕ). take k all) count)) (record { low = area.0; high = area.1; below = h.tree rows.0 (take (main_lebs geo) all) (props_below geo (alone master.lpt_lnum (holds master.lpt_lnum)) row all rows.1) })

-- ---- the area in its contents
leads_in : (geo : RawGeometry) (a b : List ℕ) (root : LptPlace) (depth number : ℕ) (place : LptPlace) → a ≡ b → IsPlaceBelow geo a root depth number place → IsPlaceBelow geo b root depth number place
leads_in geo a b root depth number place e h = let P : List ℕ → Type 0 = λ leb. IsPlaceBelow geo leb root depth number place in subst P e h

one_of : (P : LptPlace → Type 0) (xs : List LptPlace) (i : ℕ) (x : LptPlace) → AllByRecursion P xs → slice_get xs i ≡ Some x → P x
one_of P [] i x h e = absurd cc
one_of P (y ∷ xs) zero x h e = subst P (some_same y x e) h.0
one_of P (y ∷ xs) (suc i) x h e = one_of P xs i x h.1 e

-- a place to which intact nodes lead is one of the properties area
in_the_area : (geo : RawGeometry) (master : Master) (leb : List ℕ) (depth number : ℕ) (place : LptPlace) → first_past (addresses_of geo master) ≡ None → IsPlaceBelow geo leb (lpt_root master) depth number place → place.lnum ≢ 0 → (lpt_first geo ≤ place.lnum) × (place.lnum < orph_first geo)
in_the_area geo master leb zero number place placed (first, is) some =
    let P : LptPlace → Type 0 = λ p. (lpt_first geo ≤ p.lnum) × (p.lnum < orph_first geo) in
    subst P (sym is) (root_in_area geo master placed)
in_the_area geo master leb (suc depth) number place placed (above, four, leads, here, node, get) some =
    let Q : List LptPlace → Type 0 = λ xs. slice_get xs (number % 4) ≡ Some place in
    elim (one_of (IsPlace geo) node.node.places (number % 4) place node.is.is.places (subst Q node.says get)) [ inl none ↦ absurd (some none) | inr inside ↦ inside ]

wrong_in : (geo : RawGeometry) (master : Master) (x y : ℕ → List ℕ) (at : Wrong) → first_past (addresses_of geo master) ≡ None → ((k : ℕ) → lpt_first geo ≤ k → k < orph_first geo → x k ≡ y k) → IsWrongProperty x geo master at → IsWrongProperty y geo master at
wrong_in geo master x y at placed e w =
    let root = root_in_area geo master placed in
    let area = in_the_area geo master (x master.lpt_lnum) w.depth w.number w.place placed w.leads w.some in
    let here = e w.place.lnum area.0 area.1 in
    let P : List ℕ → Type 0 = λ leb. LacksNode geo leb w.depth w.place.offs at.misfit in
    let Q : List ℕ → Type 0 = λ leb. StandsNode geo leb w.depth w.place.offs in
    record {
      depth = w.depth;
      number = w.number;
      place = w.place;
      in_tree = w.in_tree;
      over_main = w.over_main;
      leads = leads_in geo (x master.lpt_lnum) (y master.lpt_lnum) (lpt_root master) w.depth w.number w.place (e master.lpt_lnum root.0 root.1) w.leads;
      some = w.some;
      lnum = w.lnum;
      offs = w.offs;
      wrong = elim w.wrong [ inl lacks ↦ inl (subst P here lacks) | inr (out, stands, values) ↦ inr (out, subst Q here stands, values) ];
    }

first_in : (geo : RawGeometry) (master : Master) (x y : ℕ → List ℕ) (at : Wrong) → first_past (addresses_of geo master) ≡ None → ((k : ℕ) → lpt_first geo ≤ k → k < orph_first geo → x k ≡ y k) → IsFirstWrong (IsWrongProperty x geo master) at → IsFirstWrong (IsWrongProperty y geo master) at
first_in geo master x y at placed e h = record { wrong = wrong_in geo master x y at placed e h.wrong; least = λ other w. h.least other (wrong_in geo master y x other placed (λ k low high. sym (e k low high)) w) }

breach_in : (geo : RawGeometry) (master : Master) (x y : ℕ → List ℕ) (breach : Breach) → first_past (addresses_of geo master) ≡ None → ((k : ℕ) → lpt_first geo ≤ k → k < orph_first geo → x k ≡ y k) → IsBreachOf rules.Properties (IsFirstWrong (IsWrongProperty x geo master)) breach
    → IsBreachOf rules.Properties (IsFirstWrong (IsWrongProperty y geo master)) breach
breach_in geo master x y (Damaged broken lnum offs wanted found) placed e h = (h.0, first_in geo master x y (record { lnum = lnum; offs = offs; misfit = differs wanted found }) placed e h.1)
breach_in geo master x y (InSuper field) placed e h = absurd h
breach_in geo master x y (NeedsOne what lnum offs) placed e (told, h) = absurd cc
breach_in geo master x y NoMaster placed e h = absurd h

-- what was told of the bytes of the properties area
pub met_in : (geo : RawGeometry) (master : Master) (holds : ℕ → List ℕ) (area : List ℕ) (r : Result (Vec Lprop Global) Breach) → first_past (addresses_of geo master) ≡ None → IsAreaOf geo holds area → IfOk r (λ props. HasProperties (lpt_leb_in geo area) geo master props.items)
    → IfOk r (λ props. HasProperties holds geo master props.items)
met_in geo master holds area (Ok props) placed e h =
    let root = root_in_area geo master placed in
    let P : List ℕ → Type 0 = λ b. HasProperties (λ k. b) geo master props.items in
    subst P (e master.lpt_lnum root.0 root.1) h
met_in geo master holds area (Err breach) placed e h = tt

pub broken_in : (geo : RawGeometry) (master : Master) (holds : ℕ → List ℕ) (area : List ℕ) (r : Result (Vec Lprop Global) Breach) → first_past (addresses_of geo master) ≡ None → IsAreaOf geo holds area
    → IfErr r (IsBreachOf rules.Properties (IsFirstWrong (IsWrongProperty (lpt_leb_in geo area) geo master))) → IfErr r (IsBreachOf rules.Properties (IsFirstWrong (IsWrongProperty holds geo master)))
broken_in geo master holds area (Ok props) placed e h = tt
broken_in geo master holds area (Err breach) placed e h = breach_in geo master (lpt_leb_in geo area) holds breach placed e h
