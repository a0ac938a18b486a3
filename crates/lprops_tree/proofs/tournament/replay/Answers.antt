use Rattle.std.proofs.Common.{◌≡◌, ℕ, ◌+◌, ◌*◌, ◌/◌, ◌<◌, set, subst, ◌∙◌, arith}
use Rattle.std.proofs.lemmas.List.{drop-set-lt, drop-set-add}
use Rattle.lprops_tree.specs.declared.candidate.Candidate.{Candidate}
use Rattle.lprops_tree.specs.Tournament.{winner, node}
use Rattle.lprops_tree.proofs.Replaying.{IsWonBut, replay-begins, replay-goes_on}
use Rattle.lprops_tree.proofs.tournament.replay.Goals as goal

pub loop-place-init : goal.loop-place-init
loop-place-init c = record {
  won = replay-begins c.args.count c.args.at c.args.nodes.now c.args.one c.requires.tournament c.requires.at;
  candidates = drop-set-add c.args.count c.args.nodes.now c.args.at c.args.one;
}

pub loop-place-preserved : goal.loop-place-preserved
loop-place-preserved c =
    let p : ℕ = c.loop-place.place / 2 in
    let h : IsWonBut c.args.count c.loop-place.place c.loop-place.nodes = c.loop-place.invariant.won in
    let is : winner (node c.loop-place.nodes (2 * p)) (node c.loop-place.nodes (2 * p + 1)) ≡ c.winner.result = cc in
    let P : Candidate → Type 0 = λ v. IsWonBut c.args.count p (set c.loop-place.nodes p v) in
    let low : p < c.args.count = omega (arith, h.high) in
    record {
      won = subst P is (replay-goes_on c.args.count c.loop-place.place c.loop-place.nodes h (omega arith));
      candidates = drop-set-lt c.args.count c.loop-place.nodes p c.winner.result low ∙ c.loop-place.invariant.candidates;
    }
