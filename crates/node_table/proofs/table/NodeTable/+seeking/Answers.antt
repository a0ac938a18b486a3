use Rattle.std.proofs.Common.{◌≡◌, true, false, ℕ, List, [], ◌∷◌, length, refl, ap, sym, ◌∙◌, subst, arith}
use Rattle.std.specs.Prelude.{Option, None, Some, is_some, slice_get}
use Rattle.std.proofs.lemmas.Option.{slice_get_within}
use Rattle.index_tree.specs.Shape.{fits}
use Rattle.index_media.specs.Clean.{is_clean_row}
use Rattle.index_media.specs.KeyedRow.{KeyedRow, bare}
use Rattle.table_nodes.specs.BeyondLaws.{dirty_row}
use Rattle.node_table.specs.Dirty.{dirty_lists, dirty_among}
use Rattle.table_nodes.specs.NodeView.{children_in, node_views, node_view_of, row_of}
use Rattle.node_table.specs.Pruning.{stretch_in}
use Rattle.table_nodes.specs.Links.{AreLinksIn}
use Rattle.table_nodes.specs.declared.link.Link.{Link}
use Rattle.table_nodes.specs.declared.node.NodePlace.{NodePlace}
use Rattle.node_table.proofs.Cleaning.{placed_is_clean, placed_list, dirty_list, dirty_view, first_some, first_none}
use Rattle.node_table.proofs.DirtyLists.{dirty_opened, dirty_past}
use Rattle.node_table.proofs.Rows.{row_size}
use Rattle.table_nodes.specs.LinkLaws.{links_there}
use Rattle.table_nodes.specs.NodeViewLaws.{children_fit, views_length}
use Rattle.node_table.proofs.table.NodeTable.+seeking.Goals as goal

without_place : (place : Option NodePlace) → is_some place ≡ false → place ≡ None
without_place None h = refl
without_place (Some p) h = absurd cc

pub first_dirty-returns-in-None-clause-first : goal.first_dirty-returns-in-None-clause-first
first_dirty-returns-in-None-clause-first t c = sym (ap (λ (d : List ℕ). slice_get d 0) (dirty_past c.args.self.now.nodes.items c.args.number c.in-None.ensures.none))

pub first_dirty-returns-then-is_some-clause-first : goal.first_dirty-returns-then-is_some-clause-first
first_dirty-returns-then-is_some-clause-first t c =
    let s = c.args.self.now in
    let n = c.in-Some.node.now in
    let placed = sym c.is_some.ensures ∙ c.if-is_some.true in
    let whole = dirty_opened s.fanout s.nodes.items c.args.number n s.sound c.in-Some.ensures.some in
    sym (ap (λ (d : List ℕ). slice_get d 0) (whole ∙ placed_list n.place c.args.number (dirty_among (dirty_lists s.nodes.items) n.links.items) placed))

pub first_dirty-returns-then-is_some-clause-none : goal.first_dirty-returns-then-is_some-clause-none
first_dirty-returns-then-is_some-clause-none t c = λ h.
    let s = c.args.self.now in
    placed_is_clean s.nodes.items c.args.number c.in-Some.node.now s.clean c.in-Some.ensures.seen (sym c.is_some.ensures ∙ c.if-is_some.true)

pub first_dirty-first_dirty_among-requires : goal.first_dirty-first_dirty_among-requires
first_dirty-first_dirty_among-requires t c =
    let s = c.args.self.now in
    let seen = node_views s.nodes.items in
    let n = c.in-Some.node.now in
    let same = ap (λ v. row_size (row_of seen v)) c.as_slice.ensures.value in
    let row = dirty_row seen n (without_place n.place (sym c.is_some.ensures ∙ c.if-is_some.false)) in
    let whole = ap row_size (ap children_in c.in-Some.ensures.seen ∙ row) in
    let F : KeyedRow → Type 0 = λ r. fits s.fanout (bare r) ≡ true in
    let there = links_there s.fanout seen n.links.items (subst F row (children_fit s.fanout (node_view_of seen n) c.in-Some.ensures.sound)) in
    let P : List Link → Type 0 = λ v. AreLinksIn (length s.nodes.items) v in
    let Q : ℕ → Type 0 = λ k. AreLinksIn k n.links.items in
    (omega (arith, same, whole), subst P (sym c.as_slice.ensures.value) (subst Q (views_length s.nodes.items) there))

pub first_dirty-returns-in-None-first_dirty_among-clause-first : goal.first_dirty-returns-in-None-first_dirty_among-clause-first
first_dirty-returns-in-None-first_dirty_among-clause-first t c =
    let s = c.args.self.now in
    let n = c.in-Some.node.now in
    let known = dirty_lists s.nodes.items in
    let below = dirty_among known n.links.items in
    let dirty = sym c.is_some.ensures ∙ c.if-is_some.false in
    let whole = dirty_opened s.fanout s.nodes.items c.args.number n s.sound c.in-Some.ensures.some ∙ dirty_list n.place c.args.number below dirty in
    let none = c.in-None-first_dirty_among.ensures.first ∙ ap (λ (v : List Link). slice_get (dirty_among known v) 0) c.as_slice.ensures.value in
    sym (ap (λ (d : List ℕ). slice_get d 0) whole ∙ first_none below (c.args.number ∷ []) none)

pub first_dirty-returns-in-None-first_dirty_among-clause-ready : goal.first_dirty-returns-in-None-first_dirty_among-clause-ready
first_dirty-returns-in-None-first_dirty_among-clause-ready t c =
    let s = c.args.self.now in
    let seen = node_views s.nodes.items in
    let n = c.in-Some.node.now in
    let dirty = sym c.is_some.ensures ∙ c.if-is_some.false in
    record {
      there = slice_get_within s.nodes.items c.args.number n c.in-Some.ensures.some;
      dirty = ap stretch_in c.in-Some.ensures.seen ∙ dirty_view n.place dirty;
      below = ap is_clean_row (ap children_in c.in-Some.ensures.seen ∙ dirty_row seen n (without_place n.place dirty)) ∙ ap (λ (v : List Link). is_clean_row (row_of seen v)) (sym c.as_slice.ensures.value) ∙ c.in-None-first_dirty_among.ensures.none;
    }

pub first_dirty-returns-in-Some-first_dirty_among-clause-first : goal.first_dirty-returns-in-Some-first_dirty_among-clause-first
first_dirty-returns-in-Some-first_dirty_among-clause-first t c =
    let s = c.args.self.now in
    let n = c.in-Some.node.now in
    let known = dirty_lists s.nodes.items in
    let below = dirty_among known n.links.items in
    let dirty = sym c.is_some.ensures ∙ c.if-is_some.false in
    let whole = dirty_opened s.fanout s.nodes.items c.args.number n s.sound c.in-Some.ensures.some ∙ dirty_list n.place c.args.number below dirty in
    let found = c.in-Some-first_dirty_among.ensures.first ∙ ap (λ (v : List Link). slice_get (dirty_among known v) 0) c.as_slice.ensures.value in
    first_some below (c.args.number ∷ []) c.in-Some-first_dirty_among.below found ∙ sym (ap (λ (d : List ℕ). slice_get d 0) whole)
