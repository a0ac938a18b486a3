use Rattle.std.proofs.Common.{◌≡◌, ℕ, ◌+◌, List, [], ◌∷◌, ◌++◌, length, inr, ap, sym, ◌∙◌, subst, rules, arith}
use mathlib.Core.List.{IsPrefix}
use Rattle.fs_model.specs.declared.op.Op.{Op}
use Rattle.fs_model.specs.declared.reply.Reply.{Reply}
use Rattle.fs_model.specs.declared.trace.TraceLine.{TraceLine}
use Rattle.trace_word.specs.Knowledge.{lines_of}
use Rattle.vfs_ops.specs.FilesState.{FilesState}
use Rattle.vfs_ops.specs.Fs.{files_state}
use Rattle.credited_files.specs.Calls.{WasServed}
use Rattle.traced_files.specs.Start.{IsHistoryFrom}
use Rattle.traced_files.specs.States.{TracedPassState, TracedState}
use Rattle.traced_files.specs.Traced.{IsTraced}
use Rattle.traced_files.proofs.Entering.{entered}
use Rattle.traced_files.proofs.Keeping.{AreStates, WasMade, traced_on}
use Rattle.traced_files.proofs.traced.TracedFs.call.Given.{Over}
use Rattle.traced_files.proofs.traced.TracedFs.call.Goals as goal

pub enter-requires-clause-lines : goal.enter-requires-clause-lines
enter-requires-clause-lines g c =
    let met = c.meet.ensures in
    ap (λ (x : ℕ × List TraceLine). lines_of x.0 x.1) (λ k. (met.pass.1 k, met.recorder.1 k)) ∙ met.lines ∙ sym met.pass.2

pub invariant_of-pass : goal.invariant_of-pass
invariant_of-pass g c = record {
  caller = c.enter.ensures.pass.1 ∙ (c.meet.ensures.pass.1 ∙ c.pass.invariant.caller);
  claimed = c.enter.ensures.pass.2 ∙ ap (λ (n : ℕ). n + 1) (c.meet.ensures.pass.2 ∙ c.pass.invariant.claimed);
  lines = ap (λ (x : ℕ × List TraceLine). lines_of x.0 x.1) (λ k. (sym (c.meet.ensures.pass.1 ∙ c.pass.invariant.caller) k, c.enter.ensures.seen k)) ∙ (c.enter.ensures.lines ∙ ap (λ (n : ℕ). n + 1) (c.meet.ensures.pass.2 ∙ c.pass.invariant.claimed));
  stock = (c.call-op.ensures.stock.1 ∙ (c.requires.stock.1 ∙ sym (ap (λ (p : TracedPassState). p.caller) c.pass.view_is)), c.call-op.ensures.stock.2);
}

-- the lines before the call, and its line
abbrev before : (g : Over) (c : goal.After-push_reserved g) → List TraceLine
before g c = c.self.inside.trace.items

abbrev line_of : (g : Over) (c : goal.After-push_reserved g) (op : Op) (reply : Reply) → TraceLine
line_of g c op reply = record { caller = c.pass.inside.caller; number = c.pass.inside.made + 1; now = c.args.now; op = op; reply = reply }

-- the line that is told is that of the call's operation, with the reply that is given
told_is : (g : Over) (c : goal.After-push_reserved g) → line_of g c c.call-op.result.0 c.twice-reply.result.1 ≡ line_of g c c.args.op c.twice-reply.result.0
told_is g c = λ k. line_of g c (c.call-op.ensures.step.0 k) (c.twice-reply.ensures.same k)

lines_before : (g : Over) (c : goal.After-push_reserved g) → lines_of c.pass.inside.caller (before g c) ≡ c.pass.inside.made
lines_before g c = ap (λ (x : ℕ × List TraceLine). lines_of x.0 x.1) (λ k. (sym c.pass.invariant.caller k, sym c.self.invariant.0.seen k)) ∙ c.meet.ensures.lines ∙ c.pass.invariant.claimed

-- what the recorder knows, and what the pass has seen
known : (g : Over) (c : goal.After-push_reserved g) → c.enter.new.recorder.known.seen ≡ before g c ++ line_of g c c.args.op c.twice-reply.result.0 ∷ []
known g c =
    c.enter.ensures.trace ∙ ap (λ (t : List TraceLine). t ++ line_of g c c.call-op.result.0 c.twice-reply.result.1 ∷ []) (c.meet.ensures.recorder.1 ∙ c.self.invariant.0.seen) ∙ ap (λ (l : TraceLine). before g c ++ l ∷ []) (told_is g c)

seen : (g : Over) (c : goal.After-push_reserved g) → c.enter.new.pass.known.seen ≡ before g c ++ line_of g c c.args.op c.twice-reply.result.0 ∷ []
seen g c =
    c.enter.ensures.seen ∙ ap (λ (t : List TraceLine). t ++ line_of g c c.call-op.result.0 c.twice-reply.result.1 ∷ []) (c.meet.ensures.recorder.1 ∙ c.self.invariant.0.seen) ∙ ap (λ (l : TraceLine). before g c ++ l ∷ []) (told_is g c)

kept : (g : Over) (c : goal.After-push_reserved g) → c.push_reserved.new.self.items ≡ before g c ++ line_of g c c.args.op c.twice-reply.result.0 ∷ []
kept g c =
    c.push_reserved.ensures.items ∙ ap (λ (t : List TraceLine). t ++ line_of g c c.call-op.result.0 c.twice-reply.result.1 ∷ []) c.reserve.ensures.items ∙ ap (λ (l : TraceLine). before g c ++ l ∷ []) (told_is g c)

traced : (g : Over) (c : goal.After-push_reserved g) → IsTraced g.J.Site.word g.J.Site.start (files_state c.call-op.new.self.fs) (g.B.Backing.outlook c.call-op.new.self.fs.backing) c.enter.new.recorder (before g c ++ line_of g c c.args.op c.twice-reply.result.0 ∷ [])
traced g c =
    let old = files_state c.self.inside.credited.fs in
    let new = files_state c.call-op.new.self.fs in
    let states : AreStates old new = record {
      ready = c.self.inside.credited.fs.ready;
      after = c.call-op.new.self.fs.ready;
      used = g.met.B.Backing.used c.call-op.new.self.fs.backing;
      first = g.met.B.Backing.main c.self.inside.credited.fs.backing;
      main = g.met.B.Backing.main c.call-op.new.self.fs.backing;
      journal = g.met.B.Backing.journal c.self.inside.credited.fs.backing;
      journal_after = g.met.B.Backing.journal c.call-op.new.self.fs.backing;
    } in
    let caller : c.args.stock.caller ≡ c.pass.inside.caller = c.requires.stock.1 ∙ sym (ap (λ (p : TracedPassState). p.caller) c.pass.view_is) in
    let served : ℕ × ℕ → Type 0 = λ x. WasServed x.0 c.args.stock.held old new x.1 c.args.now c.args.op c.call-op.result.1 in
    let made : WasMade g.J.Site.word g.J.Site.start.callers c.args.stock.held (before g c) old new (line_of g c c.args.op c.call-op.result.1) c.twice-reply.result.0 c.enter.new.recorder = record {
      served = subst served (λ k. (c.self.invariant.2 k, caller k)) c.call-op.ensures.step.1;
      moment = omega (arith, c.ranges.now.fits);
      call = c.requires.call;
      states = states;
      number = sym (ap (λ (n : ℕ). n + 1) (lines_before g c));
      says = c.twice-reply.ensures.told;
      of_word = c.enter.ensures.recorder.0 ∙ c.requires.word.0;
      seen = known g c;
    } in
    traced_on g.J.Site.word g.J.Site.start c.args.stock.held old new (line_of g c c.args.op c.call-op.result.1) c.twice-reply.result.0 (g.B.Backing.outlook c.self.inside.credited.fs.backing) (g.B.Backing.outlook c.call-op.new.self.fs.backing) c.self.inside.recorder c.enter.new.recorder (before g c) c.laws.ensures c.self.invariant.0 made c.call-op.ensures.sure

pub invariant_of-self-2 : goal.invariant_of-self-2
invariant_of-self-2 g c = (
  subst (λ (t : List TraceLine). IsTraced g.J.Site.word g.J.Site.start (files_state c.call-op.new.self.fs) (g.B.Backing.outlook c.call-op.new.self.fs.backing) c.enter.new.recorder t) (sym (kept g c)) (traced g c),
  c.call-op.ensures.same.0 ∙ c.requires.word.1,
  c.call-op.ensures.same.1 ∙ c.self.invariant.2,
)

pub returns : goal.returns
returns g c =
    let caller : c.pass.inside.caller ≡ c.args.pass.caller = ap (λ (p : TracedPassState). p.caller) c.pass.view_is in
    let new : TracedPassState = record { word = c.enter.new.pass.word; pool = c.call-op.result.2.pool; caller = c.pass.inside.caller; made = c.pass.inside.made + 1; last = c.len-last.result; seen = c.enter.new.pass.known.seen } in
    let begins : IsPrefix c.args.pass.seen (before g c) = subst (λ (x : List TraceLine × List TraceLine). IsPrefix x.0 x.1) (λ k. (ap (λ (p : TracedPassState). p.seen) c.pass.view_is k, c.self.invariant.0.seen k)) c.meet.ensures.begins in
    let done : lines_of c.pass.inside.caller c.enter.new.pass.known.seen ≡ c.pass.inside.made + 1 =
    ap (λ (x : ℕ × List TraceLine). lines_of x.0 x.1) (λ k. (sym (c.meet.ensures.pass.1 ∙ c.pass.invariant.caller) k, c.enter.ensures.seen k)) ∙ (c.enter.ensures.lines ∙ ap (λ (n : ℕ). n + 1) (c.meet.ensures.pass.2 ∙ c.pass.invariant.claimed)) in
    let named : before g c ++ line_of g c c.args.op c.twice-reply.result.0 ∷ [] ≡ before g c ++ (record { caller = c.args.pass.caller; number = c.pass.inside.made + 1; now = c.args.now; op = c.args.op; reply = c.twice-reply.result.0 }) ∷ [] =
    ap (λ (x : ℕ). before g c ++ (record { caller = x; number = c.pass.inside.made + 1; now = c.args.now; op = c.args.op; reply = c.twice-reply.result.0 }) ∷ []) caller in
    let legal : IsHistoryFrom g.J.Site.start c.enter.new.pass.known.seen (files_state c.call-op.new.self.fs) = subst (λ (t : List TraceLine). IsHistoryFrom g.J.Site.start t (files_state c.call-op.new.self.fs)) (sym (seen g c)) (traced g c).history in
    let last : c.len-last.result ≡ length (before g c) = search rules in
    let served : ℕ × FilesState × ℕ → Type 0 = λ x. WasServed x.0 c.args.stock.held x.1 (files_state c.call-op.new.self.fs) x.2 c.args.now c.args.op c.call-op.result.1 in
    record {
      called = inr (
        entered g.J.Site.start (files_state c.call-op.new.self.fs) c.args.pass new c.args.now c.args.op c.twice-reply.result.0 (before g c) (c.enter.ensures.pass.0 ∙ (c.requires.word.0 ∙ sym c.requires.pass.0)) (c.call-op.ensures.stock.0 ∙ (c.requires.word.1 ∙ sym c.requires.pass.1)) caller (ap (λ (p : TracedPassState). p.made + 1) c.pass.view_is) last (seen g c ∙ named) begins done legal,
        kept g c ∙ sym (seen g c),
        record {
          answer = c.call-op.result.1;
          served = subst served (λ k. (c.self.invariant.2 k, ap (λ (s : TracedState). s.files) c.self.view_is k, c.requires.stock.1 k)) c.call-op.ensures.step.1;
          told_as = c.twice-reply.ensures.told;
        },
      );
    }
