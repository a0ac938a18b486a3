use Rattle.std.proofs.Common.{inl, inr, refl, ap, subst, ◌∙◌, ◌-◌, ◌≤◌, arith}
use Rattle.fs_model.specs.Backing.{BackingState}
use Rattle.buffered_files.specs.Calls.{GrowsBy, IsCoveredAtLast, added_or_refused}
use Rattle.vfs_ops.specs.Writing.{HasGroupRoom, credits_need, write_need}
use Rattle.buffered_files.specs.Cuts.{PutsSeen}
use Rattle.vfs_ops.proofs.Cutting.{cut_same}
use Rattle.vfs_ops.proofs.Admitted.{on_ok}
use Rattle.vfs_ops.proofs.Buffering.{modest_need}
use Rattle.vfs_ops.proofs.Weighing.{weigh_granted}
use Rattle.vfs_ops.proofs.writes.cover.Goals as goal

pub admit-requires-clause-modest : goal.admit-requires-clause-modest
admit-requires-clause-modest g c =
    modest_need c.args.kept.now.pages.dirty c.args.ino c.args.offs c.args.len c.args.grant c.args.touched c.saturating_sub-lacking.result c.credits_need.result c.requires.few c.requires.touched c.saturating_sub-lacking.ensures c.credits_need.ensures

pub returns-then-lacking-eq0-clause-admitted : goal.returns-then-lacking-eq0-clause-admitted
returns-then-lacking-eq0-clause-admitted g c =
    let none = c.if-lacking-eq0.true in
    let less = c.saturating_sub-lacking.ensures in
    let counted = c.requires.touched in
    inl (omega (arith, none, less, counted))

pub returns-in-Ok-clause-admitted : goal.returns-in-Ok-clause-admitted
returns-in-Ok-clause-admitted g c =
    let asks = c.credits_need.ensures ∙ ap (λ n. credits_need n) (c.saturating_sub-lacking.ensures ∙ ap (λ n. n - c.args.grant) c.requires.touched) in
    inr (inl (subst (λ need. HasGroupRoom (g.B.Backing.state c.args.backing.now) need) asks (c.in-Ok.ensures.covered.0 refl)))

pub returns-in-Err-clause-admitted : goal.returns-in-Err-clause-admitted
returns-in-Err-clause-admitted g c =
    let need = write_need c.args.offs c.args.len c.args.grant in
    on_ok c.cover_again.result (λ last. inr (inr (subst (λ (s : BackingState). IsCoveredAtLast s (g.B.Backing.state c.cover_again.new.backing) c.args.kept.now need 0) c.in-Err.ensures.err last))) c.cover_again.ensures.admitted

pub returns-in-Ok-clause-grows : goal.returns-in-Ok-clause-grows
returns-in-Ok-clause-grows g c = weigh_granted 0 (g.B.Backing.state c.args.backing.now) (g.B.Backing.state c.args.backing.now) (g.B.Backing.state c.admit.new.self) c.credits_need.result c.args.kept.now c.args.kept.now (omega arith) c.in-Ok.ensures.ok

pub returns-in-Err-clause-grows : goal.returns-in-Err-clause-grows
returns-in-Err-clause-grows g c =
    subst (λ (s : BackingState). GrowsBy (added_or_refused 0 2 c.cover_again.result) s (g.B.Backing.state c.cover_again.new.backing) c.args.kept.now c.cover_again.new.kept) c.in-Err.ensures.err c.cover_again.ensures.grows

pub returns-in-Err-clause-closed : goal.returns-in-Err-clause-closed
returns-in-Err-clause-closed g c = subst (λ (s : BackingState). (g.B.Backing.state c.cover_again.new.backing).closed ≤ s.closed) c.in-Err.ensures.err c.cover_again.ensures.closed

pub returns-in-Ok-clause-closed : goal.returns-in-Ok-clause-closed
returns-in-Ok-clause-closed g c = let same = ap (λ (s : BackingState). s.closed) c.in-Ok.ensures.ok in omega (arith, same)

pub returns-then-lacking-eq0-clause-cut : goal.returns-then-lacking-eq0-clause-cut
returns-then-lacking-eq0-clause-cut g c = cut_same (g.B.Backing.state c.args.backing.now) (g.B.Backing.state c.args.backing.now) c.args.kept.now refl

pub returns-in-Ok-clause-cut : goal.returns-in-Ok-clause-cut
returns-in-Ok-clause-cut g c = cut_same (g.B.Backing.state c.args.backing.now) (g.B.Backing.state c.admit.new.self) c.args.kept.now (ap (λ (s : BackingState). s.journal) c.in-Ok.ensures.ok)

pub returns-in-Err-clause-cut : goal.returns-in-Err-clause-cut
returns-in-Err-clause-cut g c = subst (λ (s : BackingState). PutsSeen s (g.B.Backing.state c.cover_again.new.backing) c.args.kept.now) c.in-Err.ensures.err c.cover_again.ensures.cut
