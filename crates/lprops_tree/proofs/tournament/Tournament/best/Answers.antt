use Rattle.std.proofs.Common.{List, drop, sym, subst, ◌∙◌, ap}
use Rattle.lprops_tree.specs.declared.candidate.Candidate.{Candidate}
use Rattle.lprops_tree.specs.Tournament.{IsWinner, node}
use Rattle.lprops_tree.proofs.Winning.{first_wins}
use Rattle.lprops_tree.proofs.tournament.Tournament.best.Goals as goal

pub returns : goal.returns
returns c =
    let P : List Candidate → Type 0 = λ v. IsWinner v c.node_at.result in
    let Q : Candidate → Type 0 = λ v. IsWinner (drop c.self.inside.count c.self.inside.nodes.items) v in
    subst P c.self.view_is (subst Q (ap (λ v. node v 1) (sym c.as_slice.ensures.value) ∙ sym c.node_at.ensures) (first_wins c.self.inside.count c.self.inside.nodes.items c.self.invariant))
