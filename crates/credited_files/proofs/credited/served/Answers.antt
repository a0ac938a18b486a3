use Rattle.std.proofs.Common.{◌≡◌, ◌⊎◌, ℕ, ◌-◌, ◌≤◌, ◌<◌, Contains, List, length, ap, subst, sym, ◌∙◌, arith}
use Rattle.fs_model.specs.Legal.{pages_in}
use Rattle.credit_pool.specs.States.{MasterState, without}
use Rattle.vfs_ops.specs.Fs.{files_state}
use Rattle.credited_files.specs.Calls.{IsFullFor}
use Rattle.credited_files.proofs.Moving.{dirty_same, others_then}
use Rattle.credited_files.proofs.Others.{may_come_again, split_leaves}
use Rattle.credited_files.proofs.credited.served.Goals as goal

pub returns-clause-step : goal.returns-clause-step
returns-clause-step g c =
    let first = files_state c.args.fs.now in
    let mid = files_state c.completed-grant.new.fs in
    let last = files_state c.cleared.new.fs in
    let joined = c.joined.ensures in
    let done = c.completed-grant.ensures in
    let clear = c.cleared.ensures in
    let grant = c.completed-grant.result in
    let pages : c.pages_touched-pages.result ≡ pages_in c.args.op = c.pages_touched-pages.ensures in
    let held : c.completed-grant.new.master.held ≡ c.args.held = ap (λ (m : MasterState). m.held) done.master ∙ ap (λ (m : MasterState). m.held) joined.master in
    let out : c.completed-grant.new.master.out ≡ without c.args.caller c.args.master.now.out = ap (λ (m : MasterState). m.out) done.master ∙ ap (λ (m : MasterState). m.out) joined.master in
    let few = c.requires.few.1 in
    let long = ap length out in
    let credits = done.credits in
    let cleared = clear.credits in
    let dirty = dirty_same mid last clear.only in
    let above = done.grant.0 in
    let least = clear.held in
    record {
      between = last;
      only = others_then first mid last done.only clear.only;
      grant = grant;
      brought = done.grant.0;
      most = subst (λ (n : ℕ). grant ≤ n) pages done.grant.1;
      whole = subst (λ (n : ℕ). n ≤ 17 → (grant ≡ n) ⊎ IsFullFor first.backing (n - grant)) pages done.whole;
      covered = omega (arith, credits, cleared, dirty, above, least, held);
      kept = λ no. let same = clear.kept no in let more = done.issued in let was = c.requires.credits in let pages_same = dirty_same first mid done.only in omega (arith, same, more, was, credits, cleared, pages_same);
      few = let less = clear.less in let most = done.few in let was = c.requires.credits in let pages_same = dirty_same first mid done.only in omega (arith, less, most, was, credits, cleared, pages_same);
      drained = λ yes. let empty = clear.empty yes in omega (arith, credits, cleared, dirty, empty, held, long, few);
      left = c.made-op.result.2;
      step = c.made-op.ensures.step;
    }

pub returns-clause-master : goal.returns-clause-master
returns-clause-master g c =
    let settled = c.settled.ensures.master in
    let out : c.settled.new.master.out ≡ without c.args.caller c.args.master.now.out =
    ap (λ (m : MasterState). m.out) settled ∙ (ap (λ (m : MasterState). m.out) c.cleared.ensures.master ∙ (ap (λ (m : MasterState). m.out) c.completed-grant.ensures.master ∙ ap (λ (m : MasterState). m.out) c.joined.ensures.master)) in
    let few : length c.settled.new.master.out < c.args.callers = subst (λ (l : List ℕ). length l < c.args.callers) (sym out) c.requires.few.1 in
    let after = split_leaves c.split.result c.args.pool.now c.args.caller c.args.callers c.settled.new.master c.split.new.master (ap (λ (m : MasterState). m.pool) settled) few c.split.ensures.out c.split.ensures.err in (
      after.0,
      after.1 ∙ ap (λ (m : MasterState). m.held) settled,
      after.2 ∙ ap (λ (m : MasterState). m.issued) settled,
      after.3,
    )

pub returns-clause-again : goal.returns-clause-again
returns-clause-again g c =
    let out : c.settled.new.master.out ≡ c.joined.new.master.out =
    ap (λ (m : MasterState). m.out) c.settled.ensures.master ∙ (ap (λ (m : MasterState). m.out) c.cleared.ensures.master ∙ ap (λ (m : MasterState). m.out) c.completed-grant.ensures.master) in
    let away : ¬ Contains c.settled.new.master.out c.args.caller = subst (λ (l : List ℕ). ¬ Contains l c.args.caller) (sym out) c.joined.ensures.gone in
    let few : length c.settled.new.master.out < c.args.callers = subst (λ (l : List ℕ). length l < c.args.callers) (sym (out ∙ ap (λ (m : MasterState). m.out) c.joined.ensures.master)) c.requires.few.1 in
    let after = may_come_again c.split.result c.args.pool.now c.args.caller c.args.callers c.settled.new.master c.split.new.master away few c.split.ensures.out c.split.ensures.err in (
      after.0,
      λ no. after.1 (sym c.ok-seat.ensures.variant ∙ no),
    )
