use Rattle.std.proofs.Common.{List, ℕ, ap, arith, subst, sym, ◌∙◌}
use Rattle.ubifs_base.specs.declared.header.Head.{Head}
use Rattle.node_fields.specs.Form.{IsBody}
use Rattle.media_leaf.specs.LeafNode.{leaf_form}
use Rattle.leaf_check.proofs.WholeLeaves.{body_is, head_is, head_read, leaf_from, no_head, no_type}
use Rattle.leaf_check.proofs.nodes.whole_leaf.Goals as goal

pub returns-in_default-clause-none : goal.returns-in_default-clause-none
returns-in_default-clause-none c = no_head c.args.bytes.now c.unframe.result (λ i. omega (arith, c.type_inv.bytes i)) c.unframe.ensures.exact c.in_default.not-Ok

pub returns-then-head-gt2-clause-none : goal.returns-then-head-gt2-clause-none
returns-then-head-gt2-clause-none c = λ sqnum group node h.
    let is = head_is c.args.bytes.now sqnum group node c.unframe.result c.in-Ok.head (λ i. omega (arith, c.type_inv.bytes i)) c.unframe.ensures.exact c.in-Ok.is h in
    let same = ap (λ (k : Head). k.group) is in
    let known = h.framed.group_known in
    let over = c.if-head-gt2.true in
    absurd (omega (arith, same, known, over))

pub returns-then-head-bytes-clause-none : goal.returns-then-head-bytes-clause-none
returns-then-head-bytes-clause-none c = λ sqnum group node h.
    let is = head_is c.args.bytes.now sqnum group node c.unframe.result c.in-Ok.head (λ i. omega (arith, c.type_inv.bytes i)) c.unframe.ensures.exact c.in-Ok.is h in
    absurd (c.if-head-bytes.true (ap (λ (k : Head). k.len) is))

pub returns-then-not-is_leaf-clause-none : goal.returns-then-not-is_leaf-clause-none
returns-then-not-is_leaf-clause-none c = λ sqnum group node h.
    let is = head_is c.args.bytes.now sqnum group node c.unframe.result c.in-Ok.head (λ i. omega (arith, c.type_inv.bytes i)) c.unframe.ensures.exact c.in-Ok.is h in
    let body = body_is c.args.bytes.now c.split_at.result.1.now sqnum group node c.in-Ok.head (λ i. omega (arith, c.type_inv.bytes i)) c.split_at.ensures.back is h in
    let known = c.is_leaf.ensures.1 (node, body) in
    absurd (cc (known, c.if-not-is_leaf.true))

pub returns-in_default-of-clause-none : goal.returns-in_default-of-clause-none
returns-in_default-of-clause-none c = λ sqnum group node h.
    let is = head_is c.args.bytes.now sqnum group node c.unframe.result c.in-Ok.head (λ i. omega (arith, c.type_inv.bytes i)) c.unframe.ensures.exact c.in-Ok.is h in
    absurd (no_type c.args.bytes.now c.in-Ok.head sqnum group node c.of.result is c.of.ensures c.in_default-of.not-Some)

pub returns-clause-some : goal.returns-clause-some
returns-clause-some c =
    let leaf = c.is_leaf.ensures.0 c.if-not-is_leaf.false in
    let P : List ℕ → Type 0 = λ b. IsBody leaf_form c.in-Ok.head.kind b leaf.0 in
    (leaf.0, leaf_from c.args.bytes.now c.in-Ok.head c.in-Some.kind leaf.0 (λ i. omega (arith, c.type_inv.bytes i)) c.requires (head_read c.args.bytes.now c.unframe.result c.in-Ok.head c.unframe.ensures.exact c.in-Ok.is) c.if-head-gt2.false c.if-head-bytes.false (sym c.of.ensures ∙ c.in-Some.is) (subst P c.split_at.ensures.back leaf.1))
