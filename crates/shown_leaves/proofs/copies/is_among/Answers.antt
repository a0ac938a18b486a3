use Rattle.std.proofs.Common.{◌∙◌, sym}
use Rattle.std.proofs.lemmas.Bool.{false≢true}
use Rattle.image_check.specs.KeptLaws.{kept_next, sure_of_area}
use Rattle.shown_leaves.specs.Stored.{leaf_node}
use Rattle.shown_leaves.proofs.CopiedNodes.{found_kept, left_found, left_next, left_none}
use Rattle.shown_leaves.proofs.Members.{no_left}
use Rattle.shown_leaves.proofs.copies.is_among.Goals as goal

pub returns-then-branch-clause-own : goal.returns-then-branch-clause-own
returns-then-branch-clause-own g c named leaves read =
    let old = g.V.Volume.state c.args.volume.now in
    let now = g.V.Volume.state c.comparing.volume in
    let i = c.comparing.invariant in
    left_found old.holds named c.args.rank c.args.references.now leaves c.comparing.left.now c.in-Some.rest.now c.in-Some.leaf.now (leaf_node c.args.node.now) c.in-Some.ensures.cases.0
    (λ x is stands. (c.in_ok-is_own_node.ensures.own x is (found_kept old.holds now.holds i.kept.keeps.holds x stands)).0 c.if-branch.true)
    (i.among named leaves read)

pub comparing-preserved : goal.comparing-preserved
comparing-preserved g c =
    let old = g.V.Volume.state c.args.volume.now in
    let now = g.V.Volume.state c.comparing.volume in
    let new = g.V.Volume.state c.is_own_node.new.volume in
    let i = c.comparing.invariant in
    record {
      kept = kept_next old now new i.kept c.is_own_node.ensures.keeps c.is_own_node.ensures.shape c.in_ok-is_own_node.ensures.cause (sure_of_area now new c.is_own_node.result c.is_own_node.ensures.sure);
      among = λ named leaves read. left_next old.holds named c.args.rank c.args.references.now leaves c.comparing.left.now c.in-Some.rest.now c.in-Some.leaf.now (leaf_node c.args.node.now) c.in-Some.ensures.cases.0
          (λ x is stands h. false≢true (sym c.if-branch.false ∙ (c.in_ok-is_own_node.ensures.own x is (found_kept old.holds now.holds i.kept.keeps.holds x stands)).1 h))
          (i.among named leaves read);
    }

pub returns-clause-own : goal.returns-clause-own
returns-clause-own g c named leaves read =
    left_none (g.V.Volume.state c.args.volume.now).holds named c.args.rank c.args.references.now leaves c.comparing.left.now (leaf_node c.args.node.now) (no_left c.comparing.left.now c.in_default.ensures.cases) (c.comparing.invariant.among named leaves read)
