use Rattle.std.proofs.Common.{◌≡◌, ◌≤◌, List, ap, sym, ◌∙◌, subst, rules}
use mathlib.Core.List.{IsPrefix}
use Rattle.fs_model.specs.declared.trace.TraceLine.{TraceLine}
use Rattle.trace_word.specs.Knowledge.{lines_of}
use Rattle.trace_word.specs.declared.view.Known.{Known}
use Rattle.trace_word.specs.States.{RecorderState, PassState, NoteState}
use Rattle.trace_word.proofs.Meeting.{heard, saw, all_claimed}
use Rattle.trace_word.proofs.word.TraceWord.meet.Goals as goal

begins : (c : goal.After-look_as_pass) → IsPrefix c.args.pass.now.known.seen c.args.recorder.now.known.seen
begins c = heard c.tell_recorder.new.recorder.known c.args.recorder.now.known c.note_of_pass-note.result.known c.args.pass.now.known c.args.pass.now.caller c.args.pass.now.claim (ap (λ (k : RecorderState). k.known) c.tell_recorder.ensures) (ap (λ (n : NoteState). n.known) c.note_of_pass-note.ensures.note) c.look_as_recorder.ensures.earlier

seen : (c : goal.After-look_as_pass) → c.tell_pass.new.pass.known.seen ≡ c.args.recorder.now.known.seen
seen c =
    let k : c.look_as_recorder.new.recorder.known.seen ≡ c.args.recorder.now.known.seen =
    ap (λ (x : RecorderState). x.known.seen) c.look_as_recorder.ensures.same ∙ ap (λ (x : RecorderState). x.known.seen) c.tell_recorder.ensures in
    let p : c.note_of_pass-note.new.pass.known.seen ≡ c.args.pass.now.known.seen = ap (λ (x : PassState). x.known.seen) c.note_of_pass-note.ensures.pass in
    let pre = subst (λ (x : List TraceLine × List TraceLine). IsPrefix x.0 x.1) (λ i. (sym p i, sym k i)) (begins c) in
    saw c.tell_pass.new.pass.known c.note_of_pass-note.new.pass.known c.note_of_recorder-note.result.known c.look_as_recorder.new.recorder.known (ap (λ (x : PassState). x.known) c.tell_pass.ensures) (ap (λ (n : NoteState). n.known) c.note_of_recorder-note.ensures.note) pre ∙ k

pub returns-clause-begins : goal.returns-clause-begins
returns-clause-begins c = begins c

pub returns-clause-lines : goal.returns-clause-lines
returns-clause-lines c =
    let recorder : Known = c.args.recorder.now.known in
    let old : Known = c.args.pass.now.known in
    let now : PassState = c.tell_pass.new.pass in
    let same : now.caller ≡ c.args.pass.now.caller = search rules in
    let claim : now.claim ≡ c.args.pass.now.claim = search rules in
    let few : lines_of c.args.pass.now.caller recorder.seen ≤ c.args.pass.now.claim = rw (← seen c, ← same, ← claim) c.look_as_pass.ensures.seen in
    all_claimed c.args.pass.now.caller c.args.pass.now.claim old.seen recorder.seen (begins c) c.requires.lines few

pub returns-clause-seen : goal.returns-clause-seen
returns-clause-seen c = ap (λ (x : PassState). x.known.seen) c.look_as_pass.ensures.same ∙ seen c
