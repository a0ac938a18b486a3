use Rattle.std.proofs.Common.{ℕ, ◌≤◌, List, take, drop, length, length-drop, ap, ◌∙◌, arith}
use Rattle.ubifs_base.specs.Key.{key_of}
use Rattle.media_sys.proofs.KeyLemmas.{key_of-take}
use Rattle.media_sys.proofs.idx_node.key_at.Goals as goal

pub returns-clause-exact : goal.returns-clause-exact
returns-clause-exact c =
    let back = drop c.args.at c.args.body.now in
    let long : 8 ≤ length back = rw length-drop (omega arith) in
    c.read_key.ensures.exact ∙ ap key_of (c.copy_from_slice.ensures.after ∙ c.split_at-2.ensures.front ∙ ap (λ (b : List ℕ). take 8 b) c.split_at.ensures.back) ∙ key_of-take back long
