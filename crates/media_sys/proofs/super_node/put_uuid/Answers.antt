use Rattle.std.proofs.Common.{ℕ, ◌+◌, List, ◌++◌, drop, sym, ap, ◌∙◌, arith}
use Rattle.ubifs_base.specs.NodeLaws.{IsBytes}
use Rattle.media_sys.proofs.SuperLemmas.{bytes_of_number}
use Rattle.media_sys.proofs.super_node.put_uuid.Goals as goal

pub returns-clause-bytes : goal.returns-clause-bytes
returns-clause-bytes c = λ i. omega (arith, c.type_inv.uuid i)

pub returns-clause-place : goal.returns-clause-place
returns-clause-place c =
    let uuid = c.args.uuid.now in
    let fits : IsBytes uuid = λ i. omega (arith, c.type_inv.uuid i) in
    c.put_bytes.ensures ∙ ap (λ n. uuid ++ drop (c.args.at + n) c.args.body.now) c.requires.sixteen
    ∙ ap (λ (b : List ℕ). b ++ drop (c.args.at + 16) c.args.body.now) (sym (bytes_of_number 16 uuid c.requires.sixteen fits))
