use Rattle.std.proofs.Common.{◌≡◌, ℕ, ◌<◌, true, take, drop, map, List, [], ◌∷◌, ap, sym, subst, ◌∙◌, refl, arith}
use Rattle.std.specs.Prelude.{All}
use Rattle.std.proofs.lemmas.List.Elements.{All-drop, All-same, All-head}
use Rattle.index_tree.specs.declared.node.Node.{Node}
use Rattle.index_tree.proofs.PlaceLaws.{kept-append}
use Rattle.index_tree.specs.Places.{joined_rows}
use Rattle.index_tree.specs.Rebuild.{joined}
use Rattle.index_tree.specs.Tree.{below, kept, row, kept_all}
use Rattle.index_tree.proofs.Rebuilding.{join_step, join_none, rows-none}
use Rattle.index_tree.proofs.rebuild.+join.Goals as goal

pub returns-then-n-eq0-clause-row : goal.returns-then-n-eq0-clause-row
returns-then-n-eq0-clause-row t c =
    let ns = c.args.nodes.now.items in
    let P : ℕ → Type 0 = λ k. row ns ≡ joined_rows (row ns) (joined (take k (map below c.args.parts.now))) in
    let zero : 0 ≡ c.args.n = omega arith in
    subst P zero (sym (rows-none (row ns)))

pub join-requires : goal.join-requires
join-requires t c =
    let P : Node → Type 0 = λ part. kept part ≡ true in
    let ns = c.args.nodes.now.items in
    let old = c.args.parts.now in
    let left = All-same P c.pop_front.new.self (drop 1 old) c.pop_front.ensures.rest (All-drop P 1 old c.requires.parts_kept) in
    (omega (arith, c.decreases), (left, c.requires.first_keys))

pub join-requires-in-Some : goal.join-requires-in-Some
join-requires-in-Some t c =
    let P : Node → Type 0 = λ part. kept part ≡ true in
    let ns = c.args.nodes.now.items in
    let old = c.args.parts.now in
    let left = All-same P c.pop_front.new.self (drop 1 old) c.pop_front.ensures.rest (All-drop P 1 old c.requires.parts_kept) in
    let A : List Node → Type 0 = λ v. All P v in
    let keeps = All-head P c.in-Some.one c.pop_front.new.self (subst A c.in-Some.ensures.items c.requires.parts_kept) in
    let all : kept_all c.push.new.self.items ≡ true = ap kept_all c.in_ok-push-in-Some.ensures.items ∙ kept-append ns (c.in-Some.one ∷ []) c.requires.first_keys (rw keeps refl) in
    (omega (arith, c.decreases), (left, all))

pub returns-in_err-push-in-Some-clause-still_kept : goal.returns-in_err-push-in-Some-clause-still_kept
returns-in_err-push-in-Some-clause-still_kept t c =
    let P : Node → Type 0 = λ part. kept part ≡ true in
    let ns = c.args.nodes.now.items in
    let old = c.args.parts.now in
    let left = All-same P c.pop_front.new.self (drop 1 old) c.pop_front.ensures.rest (All-drop P 1 old c.requires.parts_kept) in
    left

pub returns-in-None-clause-row : goal.returns-in-None-clause-row
returns-in-None-clause-row t c =
    let P : Node → Type 0 = λ part. kept part ≡ true in
    let ns = c.args.nodes.now.items in
    let old = c.args.parts.now in
    let left = All-same P c.pop_front.new.self (drop 1 old) c.pop_front.ensures.rest (All-drop P 1 old c.requires.parts_kept) in
    sym (ap (λ v. joined_rows (row ns) v) (join_none c.args.n old c.in-None.ensures.cases.0) ∙ rows-none (row ns))

pub returns-in_ok-join-in-Some-2-clause-row : goal.returns-in_ok-join-in-Some-2-clause-row
returns-in_ok-join-in-Some-2-clause-row t c =
    let some : 0 < c.args.n = omega arith in
    join_step c.args.n c.in-Some.one c.args.parts.now c.pop_front.new.self c.args.nodes.now.items c.push.new.self.items c.join-in-Some.new.nodes.items some c.in-Some.ensures.items (sym c.is_empty.ensures ∙ c.if-is_empty.false) c.in_ok-push-in-Some.ensures.items c.in_ok-join-in-Some-2.ensures.row
