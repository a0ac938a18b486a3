use Rattle.std.proofs.Common.{ℕ, ◌+◌, List, take, drop, length-drop, get_or-drop, sym, ap, ◌∙◌, arith}
use Rattle.ubifs_base.specs.NodeLaws.{IsBytes, little_bytes-number}
use Rattle.media_sys.proofs.super_node.uuid_at.Goals as goal

pub returns : goal.returns
returns c =
    let body = c.args.body.now in
    let fits : IsBytes (drop 84 body) = λ i. rw get_or-drop (omega (arith, c.type_inv.body (84 + i))) in
    c.copy_from_slice.ensures.after ∙ c.split_at-2.ensures.front ∙ ap (λ (b : List ℕ). take 16 b) c.split_at.ensures.back
    ∙ sym (little_bytes-number 16 (drop 84 body) (rw length-drop (omega arith)) fits)
