use Rattle.std.proofs.Common.{◌≡◌, ◌++◌, ℕ, List, [], refl, sym, subst}
use Rattle.std.specs.Prelude.{OnOk}
use Rattle.std.proofs.lemmas.List.{append-nil}
use Rattle.script_text.specs.declared.part.Part.{Part}
use Rattle.script_text.specs.Script.{IsInRange}
use Rattle.script_run.specs.Readers.{reading_of}
use Rattle.script_run.specs.Reading.{IsReadPart, no_numbers}
use Rattle.script_run.proofs.reader.read_part.Goals as goal

pub unreachable-requires : goal.unreachable-requires
unreachable-requires c = c.requires.other c.in-Unmount.is

pub read_served-requires-clause-call : goal.read_served-requires-clause-call
read_served-requires-clause-call c = (subst IsInRange c.in-Line.is c.requires.range).1

pub read_served-requires-clause-caller : goal.read_served-requires-clause-caller
read_served-requires-clause-caller c = (subst IsInRange c.in-Line.is c.requires.range).0.1

pub returns-in-Now-clause-part : goal.returns-in-Now-clause-part
returns-in-Now-clause-part c =
    let reader = c.args.reader.now in
    let new = record (reading_of reader) { now = c.in-Now.now; numbers = no_numbers } in
    ([], subst (λ (part : Part). IsReadPart reader.cause (reading_of reader) part [] new) (sym c.in-Now.is) (refl, refl), sym (append-nil c.args.text.now.items))

pub returns-in-Workers-clause-part : goal.returns-in-Workers-clause-part
returns-in-Workers-clause-part c =
    let reader = c.args.reader.now in
    let new = record (reading_of reader) { numbers = no_numbers } in
    ([], subst (λ (part : Part). IsReadPart reader.cause (reading_of reader) part [] new) (sym c.in-Workers.is) (refl, refl), sym (append-nil c.args.text.now.items))

pub returns-in-Mount-clause-part : goal.returns-in-Mount-clause-part
returns-in-Mount-clause-part c =
    let old = c.args.reader.now in
    let P : Part → Type 0 = λ part. OnOk c.read_mounted.result ((x : List ℕ) × IsReadPart old.cause (reading_of old) part x (reading_of c.read_mounted.new.reader) × (c.read_mounted.new.text.items ≡ c.args.text.now.items ++ x)) in
    subst P (sym c.in-Mount.is) c.read_mounted.ensures.part

pub returns-in-Line-clause-part : goal.returns-in-Line-clause-part
returns-in-Line-clause-part c =
    let old = c.args.reader.now in
    let P : Part → Type 0 = λ part. OnOk c.read_served.result ((x : List ℕ) × IsReadPart old.cause (reading_of old) part x (reading_of c.read_served.new.reader) × (c.read_served.new.text.items ≡ c.args.text.now.items ++ x)) in
    subst P (sym c.in-Line.is) c.read_served.ensures.part
