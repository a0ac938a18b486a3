-- The tree of LEB properties, gone over row by row.
use Rattle.std.proofs.Common.{◌≡◌, ◌⊎◌, ℕ, zero, suc, ◌+◌, ◌-◌, ◌*◌, ◌/◌, ◌%◌, ◌<◌, List, [], ◌∷◌, Option, Some, length, take, drop, slice_get, refl, ap, sym, ◌∙◌, subst, inl, inr, arith, get_or-drop}
use Rattle.std.specs.Prelude.{◌≢◌}
use Rattle.std.proofs.lemmas.Bool.{cases_eq, cases_lt}
use Rattle.ubifs_base.specs.NodeLaws.{IsBytes}
use Rattle.ubifs_base.specs.Properties.{nnode_len}
use Rattle.ubifs_base.specs.declared.raw_geometry.RawGeometry.{RawGeometry}
use Rattle.media_lpt.specs.Nodes.{IsNnodeBytes}
use Rattle.media_lpt.specs.declared.nnode.LptPlace.{LptPlace}
use Rattle.media_lpt.specs.declared.nnode.Nnode.{Nnode}
use Rattle.media_sys.specs.declared.master.Master.{Master}
use Rattle.small_areas.specs.MasterLaws.{take_bytes}
use Rattle.lpt_area.specs.Tree.{AtPlace, HasNnode, no_place, row_len}
use Rattle.sound_image.specs.Properties.{lpt_root}
use Rattle.sound_image.specs.PropertyBreaches.{IsPlaceBelow, IsWrongProperty, LacksNode, StandsNode, lpt_misfit, pnode_depth}
use Rattle.sound_image.specs.Wrong.{Misfit, Wrong, differs}
use Rattle.image_check.specs.PropertyWalk.{IsFirstAbove, IsNodeRead, IsRowRead, IsWrongPlace, RowKind, nnodes, pnodes}
use Rattle.image_check.specs.WrongValues.{wrong_at}
use Rattle.image_check.specs.declared.wrong_value.WrongValue.{WrongValue}
use Rattle.image_check.proofs.WalkedRows.{IsKeptBefore, IsRowKind, get_inside, get_taken, get_there, kept_is, new_kept, nnodes_are, older_kept, pnodes_are, said_at, some_same, taken_inside, walked_long}

-- bytes are at most one nnode
abbrev pub OneNnode : Type 0
OneNnode = (geo : RawGeometry) (bytes : List ℕ) (a b : Nnode) → IsBytes bytes → IsNnodeBytes geo bytes a → IsNnodeBytes geo bytes b → a ≡ b

one_four : OneNnode → (geo : RawGeometry) (leb : List ℕ) (offs : ℕ) (a b : List LptPlace) → IsBytes leb → HasNnode geo leb offs a → HasNnode geo leb offs b → a ≡ b
one_four one geo leb offs a b fits x y =
    x.says ∙ ap (λ (n : Nnode). n.places) (one geo (take (nnode_len geo) (drop offs leb)) x.node y.node (take_bytes (nnode_len geo) (drop offs leb) (λ i. rw get_or-drop (fits (offs + i)))) x.is y.is) ∙ sym y.says

-- what a kind of node lacks at a depth, and what stands
pub record IsKindAt {X : Type 0} (geo : RawGeometry) (kind : RowKind X) (depth : ℕ) : Type 0 where
  pub kinds : IsRowKind kind
  pub lacks : (leb : List ℕ) (offs : ℕ) (misfit : Misfit) → ((four : List X) → kind.Stands leb offs four → ⊥) → misfit ≡ lpt_misfit kind.type (take kind.len (drop offs leb)) → LacksNode geo leb depth offs misfit
  pub lacked : (leb : List ℕ) (offs : ℕ) (misfit : Misfit) → LacksNode geo leb depth offs misfit → ((four : List X) → kind.Stands leb offs four → ⊥) × (misfit ≡ lpt_misfit kind.type (take kind.len (drop offs leb)))
  pub stands : (leb : List ℕ) (offs : ℕ) → (four : List X) × kind.Stands leb offs four → StandsNode geo leb depth offs
  pub stood : (leb : List ℕ) (offs : ℕ) → StandsNode geo leb depth offs → (four : List X) × kind.Stands leb offs four

pub nnodes_at : (geo : RawGeometry) (depth : ℕ) → depth < pnode_depth geo → IsKindAt geo (nnodes geo) depth
nnodes_at geo depth high = record {
  kinds = nnodes_are geo;
  lacks = λ leb offs misfit none values. inr (high, none, values);
  lacked = λ leb offs misfit h. elim h [ inl (deep, none, values) ↦ absurd (omega (arith, high, deep)) | inr (less, none, values) ↦ (none, values) ];
  stands = λ leb offs h. inr (high, h.0, h.1);
  stood = λ leb offs h. elim h [ inl (deep, four, own) ↦ absurd (omega (arith, high, deep)) | inr (less, four, own) ↦ (four, own) ];
}

pub pnodes_at : (geo : RawGeometry) (depth : ℕ) → depth ≡ pnode_depth geo → IsKindAt geo (pnodes geo) depth
pnodes_at geo depth deep = record {
  kinds = pnodes_are geo;
  lacks = λ leb offs misfit none values. inl (deep, none, values);
  lacked = λ leb offs misfit h. elim h [ inl (same, none, values) ↦ (none, values) | inr (less, none, values) ↦ absurd (omega (arith, less, deep)) ];
  stands = λ leb offs h. inl (deep, h.0, h.1);
  stood = λ leb offs h. elim h [ inl (same, four, own) ↦ (four, own) | inr (less, four, own) ↦ absurd (omega (arith, less, deep)) ];
}

wrong_same : (a b : Wrong) → a.lnum ≡ b.lnum → a.offs ≡ b.offs → a.misfit ≡ b.misfit → a ≡ b
wrong_same a b e f g =
    let P : ℕ → Type 0 = λ n. a ≡ record { lnum = n; offs = a.offs; misfit = a.misfit } in
    let Q : ℕ → Type 0 = λ n. a ≡ record { lnum = b.lnum; offs = n; misfit = a.misfit } in
    let R : Misfit → Type 0 = λ m. a ≡ record { lnum = b.lnum; offs = b.offs; misfit = m } in
    subst R g (subst Q f (subst P e refl))

differs_same : (a b c d : ℕ) → a ≡ c → b ≡ d → differs a b ≡ differs c d
differs_same a b c d e f = ap (λ (n : ℕ). differs n b) e ∙ ap (differs c) f

module _ (geo : RawGeometry) (master : Master) (holds : ℕ → List ℕ) where
  abbrev leb : List ℕ
  leb = holds master.lpt_lnum

  abbrev root : LptPlace
  root = lpt_root master

  abbrev IsWrongHere : Wrong → Type 0
  IsWrongHere = IsWrongProperty holds geo master

  -- what is wrong first of all nodes of the rows above one, and of the first ones of this row
  record FirstTo (depth number : ℕ) (first : Option WrongValue) : Type 0 where
    is : (node : WrongValue) → first ≡ Some node → IsWrongHere (wrong_at node)
    least : (other : Wrong) (h : IsWrongHere other) → ((h.depth < depth) ⊎ ((h.depth ≡ depth) × (h.number < number))) → IsKeptBefore other first

  -- no node of a kind stands at a place, and one does
  not_both : {X : Type 0} (kind : RowKind X) (own place : LptPlace) → own ≡ place → ((four : List X) → kind.Stands (holds own.lnum) own.offs four → ⊥) → (four : List X) → kind.Stands (holds place.lnum) place.offs four → ⊥
  not_both {X = X} kind own place same none = let N : LptPlace → Type 0 = λ p. (all : List X) → kind.Stands (holds p.lnum) p.offs all → ⊥ in subst N same none

  lacks_at : {X : Type 0} (kind : RowKind X) (depth : ℕ) → IsKindAt geo kind depth → (other : Wrong) (h : IsWrongHere other) → h.depth ≡ depth → LacksNode geo (holds h.place.lnum) h.depth h.place.offs other.misfit
      → ((four : List X) → kind.Stands (holds h.place.lnum) h.place.offs four → ⊥) × (other.misfit ≡ lpt_misfit kind.type (take kind.len (drop h.place.offs (holds h.place.lnum))))
  lacks_at kind depth k other h deep lacks = let D : ℕ → Type 0 = λ d. LacksNode geo (holds h.place.lnum) d h.place.offs other.misfit in k.lacked (holds h.place.lnum) h.place.offs other.misfit (subst D deep lacks)

  -- at a place that is said, nothing is wrong
  nothing_wrong : {X : Type 0} (kind : RowKind X) (depth : ℕ) → IsKindAt geo kind depth → (place : LptPlace) (four : List X) (other : Wrong) (h : IsWrongHere other) → h.depth ≡ depth → h.place ≡ place
      → AtPlace kind.Stands kind.none (holds place.lnum) place four → (place.lnum ≢ 0 → place.lnum ≡ master.lpt_lnum) → ⊥
  nothing_wrong kind depth k place four other h deep same (inl (none, e)) own = h.some (ap (λ (p : LptPlace). p.lnum) same ∙ none)
  nothing_wrong kind depth k place four other h deep same (inr (some, stands)) own = elim h.wrong [
    | inl lacks ↦ not_both kind h.place place same (lacks_at kind depth k other h deep lacks).0 four stands
    | inr (elsewhere, there, values) ↦ elsewhere (ap (λ (p : LptPlace). p.lnum) same ∙ own some)
  ]

  -- at a place that is wrong, this is
  same_wrong : {X : Type 0} (kind : RowKind X) (depth : ℕ) → IsKindAt geo kind depth → (place : LptPlace) (node : WrongValue) (other : Wrong) (h : IsWrongHere other) → h.depth ≡ depth → h.place ≡ place → IsWrongPlace kind master.lpt_lnum holds place node → other ≡ wrong_at node
  same_wrong kind depth k place node other h deep same w =
      let l = ap (λ (p : LptPlace). p.lnum) same in
      let o = ap (λ (p : LptPlace). p.offs) same in
      let S : ℕ → Type 0 = λ d. StandsNode geo (holds h.place.lnum) d h.place.offs in
      wrong_same other (wrong_at node) (h.lnum ∙ l ∙ sym w.in_leb) (h.offs ∙ o ∙ sym w.at) (elim h.wrong [
        | inl lacks ↦ elim w.wrong [
          | inl (none, misfit) ↦ (lacks_at kind depth k other h deep lacks).1 ∙ ap (λ (p : LptPlace). lpt_misfit kind.type (take kind.len (drop p.offs (holds p.lnum)))) same ∙ sym misfit
          | inr (out, there, wanted, found) ↦ absurd (not_both kind h.place place same (lacks_at kind depth k other h deep lacks).0 there.0 there.1)
        ]
        | inr (elsewhere, there, values) ↦ elim w.wrong [
          | inl (none, misfit) ↦ let own = k.stood (holds h.place.lnum) h.place.offs (subst S deep there) in absurd (not_both kind place h.place (sym same) none own.0 own.1)
          | inr (out, stands, wanted, found) ↦ values ∙ differs_same master.lpt_lnum h.place.lnum node.wanted node.found (sym wanted) (l ∙ sym found)
        ]
      ])

  -- what is wrong at a place to which nodes lead is wrong in the tree
  is_wrong : {X : Type 0} (kind : RowKind X) (depth level number : ℕ) → IsKindAt geo kind depth → depth + level ≡ pnode_depth geo → (place : LptPlace) (node : WrongValue) → number < row_len geo level → IsPlaceBelow geo leb root depth number place
      → IsWrongPlace kind master.lpt_lnum holds place node → IsWrongHere (wrong_at node)
  is_wrong kind depth level number k deep place node main leads w =
      let under : level ≡ pnode_depth geo - depth = omega (arith, deep) in
      let L : ℕ → Type 0 = λ n. number < row_len geo n in
      record {
        depth = depth;
        number = number;
        place = place;
        in_tree = omega (arith, deep);
        over_main = subst L under main;
        leads = leads;
        some = w.some;
        lnum = w.in_leb;
        offs = w.at;
        wrong = elim w.wrong [
          | inl (none, misfit) ↦ inl (k.lacks (holds place.lnum) place.offs (differs node.wanted node.found) none misfit)
          | inr (out, there, wanted, found) ↦ inr (out, k.stands (holds place.lnum) place.offs there, differs_same node.wanted node.found master.lpt_lnum place.lnum wanted found)
        ];
      }

  -- what the rows down to one say
  pub record IsRowAt (depth level : ℕ) (row : List LptPlace) : Type 0 where
    pub is_depth : depth + level ≡ pnode_depth geo
    pub sound : (number : ℕ) (place : LptPlace) → slice_get row number ≡ Some place → place.lnum ≢ 0 → (number < row_len geo level) × IsPlaceBelow geo leb root depth number place
    pub complete : (number : ℕ) (place : LptPlace) → number < row_len geo level → IsPlaceBelow geo leb root depth number place → slice_get row number ≡ Some place

  -- a wrong node of this depth is in its row
  in_row : (depth level : ℕ) (row : List LptPlace) → IsRowAt depth level row → (other : Wrong) (h : IsWrongHere other) → h.depth ≡ depth → slice_get row h.number ≡ Some h.place
  in_row depth level row r other h deep =
      let at = r.is_depth in
      let under : pnode_depth geo - h.depth ≡ level = omega (arith, at, deep) in
      let L : ℕ → Type 0 = λ n. h.number < row_len geo n in
      let D : ℕ → Type 0 = λ n. IsPlaceBelow geo leb root n h.number h.place in
      r.complete h.number h.place (subst L under h.over_main) (subst D deep h.leads)

  -- one place of a row more
  first_next : {X : Type 0} (kind : RowKind X) (depth level : ℕ) (row : List LptPlace) → IsKindAt geo kind depth → IsRowAt depth level row → (number : ℕ) (place : LptPlace) (first : Option WrongValue) (four : List X) (next : Option WrongValue) → slice_get row number ≡ Some place
      → IsNodeRead kind master.lpt_lnum holds place first four next → FirstTo depth number first → FirstTo depth (suc number) next
  first_next kind depth level row k r number place first four next there (inl (says, alike, same)) before = record {
    is = λ node e. before.is node (sym same ∙ e);
    least = λ other h at.
        let K : Option WrongValue → Type 0 = λ o. IsKeptBefore other o in
        subst K (sym same) (elim at [
          | inl above ↦ before.least other h (inl above)
          | inr (deep, less) ↦ elim (cases_lt h.number number) [
            | inl lower ↦ before.least other h (inr (deep, lower))
            | inr high ↦
                let here : h.number ≡ number = omega (arith, less, high) in
                let P : ℕ → Type 0 = λ n. slice_get row n ≡ Some h.place in
                let own = some_same h.place place (sym (subst P here (in_row depth level row r other h deep)) ∙ there) in
                absurd (nothing_wrong kind depth k place four other h deep own says alike)
          ]
        ]);
  }
  first_next kind depth level row k r number place first four next there (inr (node, wrong, none, same)) before = record {
    is = λ kept e.
        let reached = r.sound number place there wrong.some in
        kept_is (λ n. IsWrongHere (wrong_at n)) first node kept before.is (is_wrong kind depth level number k r.is_depth place node reached.0 reached.1 wrong) (sym same ∙ e);
    least = λ other h at.
        let K : Option WrongValue → Type 0 = λ o. IsKeptBefore other o in
        subst K (sym same) (elim at [
          | inl above ↦ older_kept other first node (before.least other h (inl above))
          | inr (deep, less) ↦ elim (cases_lt h.number number) [
            | inl lower ↦ older_kept other first node (before.least other h (inr (deep, lower)))
            | inr high ↦
                let here : h.number ≡ number = omega (arith, less, high) in
                let P : ℕ → Type 0 = λ n. slice_get row n ≡ Some h.place in
                let own = some_same h.place place (sym (subst P here (in_row depth level row r other h deep)) ∙ there) in
                new_kept other first node (same_wrong kind depth k place node other h deep own wrong)
          ]
        ]);
  }

  -- and all of it
  first_all : {X : Type 0} (kind : RowKind X) (depth level : ℕ) (row : List LptPlace) → IsKindAt geo kind depth → IsRowAt depth level row → (rest : List LptPlace) (number : ℕ) (first : Option WrongValue) (all : List X) (last : Option WrongValue)
      → ((i : ℕ) (place : LptPlace) → slice_get rest i ≡ Some place → slice_get row (number + i) ≡ Some place) → IsRowRead kind master.lpt_lnum holds rest first all last → FirstTo depth number first → FirstTo depth (number + length rest) last
  first_all kind depth level row k r [] number first all last part (e, same) before =
      let P : Option WrongValue → Type 0 = λ o. FirstTo depth (number + 0) o in
      let Q : ℕ → Type 0 = λ n. FirstTo depth n first in
      let n : number ≡ number + 0 = omega arith in
      subst P (sym same) (subst Q n before)
  first_all kind depth level row k r (p ∷ rest) number first all last part (four, more, next, step, walked, whole) before =
      let S : ℕ → Type 0 = λ n. slice_get row n ≡ Some p in
      let start : number + 0 ≡ number = omega arith in
      let one = first_next kind depth level row k r number p first four next (subst S start (part 0 p refl)) step before in
      let Q : ℕ → Type 0 = λ n. FirstTo depth n last in
      let end : suc number + length rest ≡ number + length (p ∷ rest) = omega arith in
      subst Q end (first_all kind depth level row k r rest (suc number) next more last (λ i place e. let T : ℕ → Type 0 = λ n. slice_get row n ≡ Some place in let at : number + suc i ≡ suc number + i = omega arith in subst T at (part (suc i) place e)) walked one)

  -- so nodes down to the next row are told
  pub first_row : {X : Type 0} (kind : RowKind X) (depth level : ℕ) (row : List LptPlace) → IsKindAt geo kind depth → IsRowAt depth level row → (first : Option WrongValue) (all : List X) (last : Option WrongValue) → IsRowRead kind master.lpt_lnum holds row first all last
      → IsFirstAbove geo master holds depth first → IsFirstAbove geo master holds (suc depth) last
  first_row kind depth level row k r first all last walked before =
      let none : FirstTo depth 0 first = record { is = before.is; least = λ other h at. elim at [ inl above ↦ before.least other h above | inr (deep, less) ↦ absurd (omega (arith, less)) ] } in
      let whole = first_all kind depth level row k r row 0 first all last (λ i place e. let T : ℕ → Type 0 = λ n. slice_get row n ≡ Some place in let at : i ≡ 0 + i = omega arith in subst T at e) walked none in
      record {
        is = whole.is;
        least = λ other h low. elim (cases_eq h.depth depth) [
          | inl deep ↦
              let inside = get_inside row h.number h.place (in_row depth level row r other h deep) in
              whole.least other h (inr (deep, omega (arith, inside)))
          | inr above ↦ whole.least other h (inl (omega (arith, low, above)))
        ];
      }

  -- the row below one
  pub row_below : OneNnode → IsBytes leb → (0 < master.lpt_lnum) → (depth level : ℕ) (row : List LptPlace) → IsRowAt depth (suc level) row → (first : Option WrongValue) (all : List LptPlace) (last : Option WrongValue) → IsRowRead (nnodes geo) master.lpt_lnum holds row first all last
      → IsRowAt (suc depth) level (take (row_len geo level) all)
  row_below one fits inside depth level row r first all last walked =
      let at = r.is_depth in
      record {
        is_depth = omega (arith, at);
        sound = λ number place e some.
            let cut = taken_inside (row_len geo level) number all place e in
            let low : number % 4 < 4 = omega arith in
            let long = walked_long (nnodes geo) (nnodes_are geo) master.lpt_lnum holds row first all last walked in
            let inside_all = get_inside all number place cut.1 in
            let above = get_there row (number / 4) (omega (arith, long, inside_all)) in
            let said = said_at (nnodes geo) (nnodes_are geo) master.lpt_lnum holds row first all last (number / 4) above.0 walked above.1 in
            let spot : 4 * (number / 4) + number % 4 ≡ number = omega arith in
            let get : slice_get said.four (number % 4) ≡ Some place = sym (said.among (number % 4) low) ∙ ap (slice_get all) spot ∙ cut.1 in
            let four = said_node above.0 said.four said.before said.after (number % 4) place said.step low get some in
            let leads = r.sound (number / 4) above.0 above.1 (λ z. absurd (omega (arith, z, four.0, inside))) in
            (cut.0, (above.0, said.four, leads.1, four.0, four.1, get));
        complete = λ number place less leads.
            let parent : number / 4 < row_len geo (suc level) = omega (arith, less) in
            let there = r.complete (number / 4) leads.0 parent leads.2 in
            let said = said_at (nnodes geo) (nnodes_are geo) master.lpt_lnum holds row first all last (number / 4) leads.0 walked there in
            let low : number % 4 < 4 = omega arith in
            let spot : 4 * (number / 4) + number % 4 ≡ number = omega arith in
            let fours = same_four leads.0 leads.1 said.four said.before said.after leads.3 leads.4 said.step in
            get_taken (row_len geo level) number all less ∙ ap (slice_get all) (sym spot) ∙ said.among (number % 4) low ∙ ap (λ (xs : List LptPlace). slice_get xs (number % 4)) (sym fours) ∙ leads.5;
      }
    where
      nones : (n : ℕ) (place : LptPlace) → n < 4 → slice_get (no_place ∷ no_place ∷ no_place ∷ no_place ∷ []) n ≡ Some place → place.lnum ≡ 0
      nones zero place less e = ap (λ (p : LptPlace). p.lnum) (sym (some_same no_place place e))
      nones (suc zero) place less e = ap (λ (p : LptPlace). p.lnum) (sym (some_same no_place place e))
      nones (suc (suc zero)) place less e = ap (λ (p : LptPlace). p.lnum) (sym (some_same no_place place e))
      nones (suc (suc (suc zero))) place less e = ap (λ (p : LptPlace). p.lnum) (sym (some_same no_place place e))
      nones (suc (suc (suc (suc n)))) place less e = absurd (omega (arith, less))

      said_node : (above : LptPlace) (four : List LptPlace) (before after : Option WrongValue) (n : ℕ) (place : LptPlace) → IsNodeRead (nnodes geo) master.lpt_lnum holds above before four after → n < 4 → slice_get four n ≡ Some place → place.lnum ≢ 0
          → (above.lnum ≡ master.lpt_lnum) × HasNnode geo leb above.offs four
      said_node above four before after n place (inl (inl (none, e), own, same)) less get some = absurd (some (nones n place less (ap (λ (xs : List LptPlace). slice_get xs n) (sym e) ∙ get)))
      said_node above four before after n place (inr (node, wrong, e, same)) less get some = absurd (some (nones n place less (ap (λ (xs : List LptPlace). slice_get xs n) (sym e) ∙ get)))
      said_node above four before after n place (inl (inr (there, h), own, same)) less get some =
          let P : ℕ → Type 0 = λ k. HasNnode geo (holds k) above.offs four in
          (own there, subst P (own there) h)

      same_four : (above : LptPlace) (four own : List LptPlace) (before after : Option WrongValue) → above.lnum ≡ master.lpt_lnum → HasNnode geo leb above.offs four → IsNodeRead (nnodes geo) master.lpt_lnum holds above before own after → four ≡ own
      same_four above four own before after here h (inl (inl (none, e), alike, same)) = absurd (omega (arith, none, here, inside))
      same_four above four own before after here h (inl (inr (some, there), alike, same)) =
          let P : ℕ → Type 0 = λ k. HasNnode geo (holds k) above.offs own in
          one_four one geo leb above.offs four own fits h (subst P here there)
      same_four above four own before after here h (inr (node, wrong, e, same)) = elim wrong.wrong [
        | inl (none, misfit) ↦ let P : ℕ → Type 0 = λ k. HasNnode geo (holds k) above.offs four in absurd (none four (subst P (sym here) h))
        | inr (out, there, wanted, found) ↦ absurd (out here)
      ]
