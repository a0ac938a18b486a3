use Rattle.std.proofs.Common.{ap, sym, ◌∙◌, map, []}
use Rattle.index_tree.specs.Listing.{listed_node, listed}
use Rattle.index_tree.specs.Rebuild.{waiting_after}
use Rattle.index_tree.specs.Tree.{shape, below}
use Rattle.index_tree.proofs.Rebuilding.{root_is}
use Rattle.index_tree.proofs.index.Index.of.Goals as goal

pub invariant_of-result-clause-whole : goal.invariant_of-result-clause-whole
invariant_of-result-clause-whole c =
    let given = c.requires.of_an_index in
    let parts = c.in_ok-parts.ensures.rows ∙ ap (λ v. waiting_after [] (map listed_node v)) c.as_slice.ensures.value in
    let e = root_is c.args.fanout given.0 (shape c.root_of-root.result) (map listed_node c.args.nodes.items) (map below c.in_ok-parts.parts) given.1 given.2 parts c.root_of-root.ensures.row in
    rw e given.1.whole

pub invariant_of-result-clause-sound : goal.invariant_of-result-clause-sound
invariant_of-result-clause-sound c =
    let given = c.requires.of_an_index in
    let parts = c.in_ok-parts.ensures.rows ∙ ap (λ v. waiting_after [] (map listed_node v)) c.as_slice.ensures.value in
    let e = root_is c.args.fanout given.0 (shape c.root_of-root.result) (map listed_node c.args.nodes.items) (map below c.in_ok-parts.parts) given.1 given.2 parts c.root_of-root.ensures.row in
    rw e given.1.sound

pub invariant_of-result-clause-ordered : goal.invariant_of-result-clause-ordered
invariant_of-result-clause-ordered c =
    let given = c.requires.of_an_index in
    let parts = c.in_ok-parts.ensures.rows ∙ ap (λ v. waiting_after [] (map listed_node v)) c.as_slice.ensures.value in
    let e = root_is c.args.fanout given.0 (shape c.root_of-root.result) (map listed_node c.args.nodes.items) (map below c.in_ok-parts.parts) given.1 given.2 parts c.root_of-root.ensures.row in
    rw e given.1.ordered

pub invariant_of-result-clause-levels : goal.invariant_of-result-clause-levels
invariant_of-result-clause-levels c =
    let given = c.requires.of_an_index in
    let parts = c.in_ok-parts.ensures.rows ∙ ap (λ v. waiting_after [] (map listed_node v)) c.as_slice.ensures.value in
    let e = root_is c.args.fanout given.0 (shape c.root_of-root.result) (map listed_node c.args.nodes.items) (map below c.in_ok-parts.parts) given.1 given.2 parts c.root_of-root.ensures.row in
    rw e given.1.levels

pub invariant_of-result-clause-keyed : goal.invariant_of-result-clause-keyed
invariant_of-result-clause-keyed c =
    let given = c.requires.of_an_index in
    let parts = c.in_ok-parts.ensures.rows ∙ ap (λ v. waiting_after [] (map listed_node v)) c.as_slice.ensures.value in
    let e = root_is c.args.fanout given.0 (shape c.root_of-root.result) (map listed_node c.args.nodes.items) (map below c.in_ok-parts.parts) given.1 given.2 parts c.root_of-root.ensures.row in
    rw e given.1.keyed

pub returns-clause-only : goal.returns-clause-only
returns-clause-only c =
    let parts = c.in_ok-parts.ensures.rows ∙ ap (λ v. waiting_after [] (map listed_node v)) c.as_slice.ensures.value in
    λ s i e. root_is c.args.fanout s (shape c.root_of-root.result) (map listed_node c.args.nodes.items) (map below c.in_ok-parts.parts) i (sym e) parts c.root_of-root.ensures.row

pub returns-clause-made : goal.returns-clause-made
returns-clause-made c =
    let given = c.requires.of_an_index in
    let parts = c.in_ok-parts.ensures.rows ∙ ap (λ v. waiting_after [] (map listed_node v)) c.as_slice.ensures.value in
    let e = root_is c.args.fanout given.0 (shape c.root_of-root.result) (map listed_node c.args.nodes.items) (map below c.in_ok-parts.parts) given.1 given.2 parts c.root_of-root.ensures.row in
    ap listed e ∙ sym given.2
