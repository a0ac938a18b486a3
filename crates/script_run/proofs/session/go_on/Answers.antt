use Rattle.std.proofs.Common.{◌≡◌, ◌++◌, ℕ, List, [], refl, sym, subst}
use Rattle.std.specs.Prelude.{OnOk}
use Rattle.std.proofs.lemmas.List.{append-nil}
use Rattle.script_text.specs.declared.part.Part.{Part}
use Rattle.script_text.specs.Script.{MayStand}
use Rattle.script_run.specs.Replies.{IsPartCalled}
use Rattle.script_run.specs.Run.{IsScriptPart}
use Rattle.script_run.specs.Sessions.{running_of, state_in}
use Rattle.script_run.proofs.session.go_on.Goals as goal

pub unreachable-requires : goal.unreachable-requires
unreachable-requires c = c.requires.other c.in-Unmount.is

pub serve-requires-clause-call : goal.serve-requires-clause-call
serve-requires-clause-call c = subst IsPartCalled c.in-Line.is c.requires.call

pub serve-requires-clause-mounted : goal.serve-requires-clause-mounted
serve-requires-clause-mounted c = subst (MayStand c.args.session.now.mounted) c.in-Line.is c.requires.stands

pub returns-in-Now-clause-part : goal.returns-in-Now-clause-part
returns-in-Now-clause-part c =
    let session = c.args.session.now in
    let geo = (state_in session).geometry in
    let new = record (running_of session) { now = c.in-Now.now; number = 0 } in
    ([], subst (λ (part : Part). IsScriptPart geo (running_of session) part [] new) (sym c.in-Now.is) (refl, refl), sym (append-nil c.args.text.now.items))

pub returns-in-Workers-clause-part : goal.returns-in-Workers-clause-part
returns-in-Workers-clause-part c =
    let session = c.args.session.now in
    let geo = (state_in session).geometry in
    let new = record (running_of session) { workers = c.in-Workers.count; number = 0 } in
    ([], subst (λ (part : Part). IsScriptPart geo (running_of session) part [] new) (sym c.in-Workers.is) (refl, refl), sym (append-nil c.args.text.now.items))

pub returns-in-Mount-clause-part : goal.returns-in-Mount-clause-part
returns-in-Mount-clause-part c =
    let old = c.args.session.now in
    let P : Part → Type 0 = λ part. OnOk c.mount.result ((x : List ℕ) × IsScriptPart (state_in old).geometry (running_of old) part x (running_of c.mount.new.session) × (c.mount.new.text.items ≡ c.args.text.now.items ++ x)) in
    subst P (sym c.in-Mount.is) c.mount.ensures.part

pub returns-in-Line-clause-part : goal.returns-in-Line-clause-part
returns-in-Line-clause-part c =
    let old = c.args.session.now in
    let P : Part → Type 0 = λ part. OnOk c.serve.result ((x : List ℕ) × IsScriptPart (state_in old).geometry (running_of old) part x (running_of c.serve.new.session) × (c.serve.new.text.items ≡ c.args.text.now.items ++ x)) in
    subst P (sym c.in-Line.is) c.serve.ensures.part
