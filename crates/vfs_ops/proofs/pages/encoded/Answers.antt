use Rattle.std.proofs.Common.{◌≡◌, List, ℕ, Some, refl, sym, ap, subst, ◌∙◌}
use Rattle.std.specs.Prelude.{IsSome, Option}
use Rattle.std.specs.Option.{option_map}
use Rattle.fs_model.specs.declared.page_node.PageNode.{PageNode}
use Rattle.vfs_ops.proofs.Picking.{shown, shown_page}
use Rattle.vfs_ops.proofs.pages.encoded.Goals as goal

pub unwrap-bytes-requires : goal.unwrap-bytes-requires
unwrap-bytes-requires c =
    let s = shown c.args.kept.now c.requires.pages c.args.ticket.now c.requires.oldest in
    let e : c.in_ok-found.found ≡ Some s.node.bytes = c.in_ok-found.ensures ∙ ap (λ (o : Option PageNode). option_map (λ made. made.bytes) o) s.found in
    subst (λ (o : Option (List ℕ)). IsSome o) (sym e) refl

pub returns-clause-page : goal.returns-clause-page
returns-clause-page c =
    let s = shown c.args.kept.now c.requires.pages c.args.ticket.now c.requires.oldest in
    shown_page c.args.kept.now c.args.ticket.now s c.unwrap-bytes.result (sym c.unwrap-bytes.ensures ∙ c.in_ok-found.ensures)
