use Rattle.std.proofs.Common.{ℕ, ◌≡◌, ◌-◌, ◌^◌, false, List, length, refl, ap, sym, ◌∙◌, arith}
use Rattle.std.specs.Prelude.{Option, None, Some, is_some, min}
use Rattle.node_table.specs.Dirty.{dirty_lists, dirty_among}
use Rattle.table_nodes.specs.BeyondLaws.{dirty_row}
use Rattle.table_nodes.specs.NodeView.{children_in, node_views, row_of}
use Rattle.table_nodes.specs.declared.link.Link.{Link}
use Rattle.table_nodes.specs.declared.node.NodePlace.{NodePlace}
use Rattle.node_table.proofs.Cleaning.{placed_list, dirty_list}
use Rattle.node_table.proofs.DirtyLists.{dirty_opened, dirty_past}
use Rattle.node_table.proofs.Rows.{row_size}
use Rattle.index_cache.proofs.DirtyCounted.{both_counted, one_more}
use Rattle.index_cache.proofs.counting.+counting.Goals as goal

without_place : (place : Option NodePlace) → is_some place ≡ false → place ≡ None
without_place None h = refl
without_place (Some p) h = absurd cc

pub count_at-returns-in-None : goal.count_at-returns-in-None
count_at-returns-in-None t c = sym (ap (λ (d : List ℕ). min (length d) (2 ^ 64 - 1)) (dirty_past c.args.table.now.nodes.items c.args.number c.in-None.ensures.none))

pub count_at-returns-then-is_some : goal.count_at-returns-then-is_some
count_at-returns-then-is_some t c =
    let s = c.args.table.now in
    let n = c.in-Some.node.now in
    let placed = sym c.is_some.ensures ∙ c.if-is_some.true in
    let whole = dirty_opened s.fanout s.nodes.items c.args.number n s.sound c.in-Some.ensures.some in
    sym (ap (λ (d : List ℕ). min (length d) (2 ^ 64 - 1)) (whole ∙ placed_list n.place c.args.number (dirty_among (dirty_lists s.nodes.items) n.links.items) placed))

pub count_at-count_among-requires : goal.count_at-count_among-requires
count_at-count_among-requires t c =
    let seen = node_views c.args.table.now.nodes.items in
    let same = ap (λ v. row_size (row_of seen v)) c.as_slice.ensures.value in
    let n = c.in-Some.node.now in
    let row = dirty_row seen n (without_place n.place (sym c.is_some.ensures ∙ c.if-is_some.false)) in
    let whole = ap row_size (ap children_in c.in-Some.ensures.seen ∙ row) in
    omega (arith, same, whole)

pub count_at-returns-else-is_some : goal.count_at-returns-else-is_some
count_at-returns-else-is_some t c =
    let s = c.args.table.now in
    let n = c.in-Some.node.now in
    let known = dirty_lists s.nodes.items in
    let below = dirty_among known n.links.items in
    let dirty = sym c.is_some.ensures ∙ c.if-is_some.false in
    let whole = dirty_opened s.fanout s.nodes.items c.args.number n s.sound c.in-Some.ensures.some ∙ dirty_list n.place c.args.number below dirty in
    let under = c.count_among.ensures ∙ ap (λ (v : List Link). min (length (dirty_among known v)) (2 ^ 64 - 1)) c.as_slice.ensures.value in
    c.saturating_add.ensures ∙ one_more (2 ^ 64 - 1) c.count_among.result c.args.number _ below whole under

pub count_among-returns-in-Some : goal.count_among-returns-in-Some
count_among-returns-in-Some t c =
    c.saturating_add.ensures
    ∙ both_counted (2 ^ 64 - 1) c.count_link-here.result c.count_among-behind.result (dirty_lists c.args.table.now.nodes.items) c.args.links.now c.in-Some.rest.now c.in-Some.link.now
    c.in-Some.ensures.cases.0 c.count_link-here.ensures c.count_among-behind.ensures
