use Rattle.std.proofs.Common.{ℕ, List, subst, sym, arith}
use Rattle.media_sys.specs.SystemNode.{system_form, IsSystemNode, reference}
use Rattle.node_fields.specs.FormLaws.{framed-written, written_is}
use Rattle.media_sys.proofs.ref_node.RefNode.encode.Goals as goal

pub returns-clause-spelling : goal.returns-clause-spelling
returns-clause-spelling c =
    framed-written system_form c.args.sqnum c.args.group (reference c.args.self.now) c.frame.new.node c.split_at_mut.result.0.now c.write_body.new.body
    c.frame.ensures c.split_at_mut.ensures.front_len c.write_body.ensures.spelling

pub returns-clause-grammar : goal.returns-clause-grammar
returns-clause-grammar c =
    let node = reference c.args.self.now in
    let P : List ℕ → Type 0 = λ b. IsSystemNode b c.args.sqnum c.args.group node in
    subst P (sym (returns-clause-spelling c)) (written_is system_form c.args.sqnum c.args.group node (omega arith) c.requires.group (omega arith) c.write_body.ensures.fits (omega arith) tt)
