use Rattle.std.proofs.Common.{◌≡◌, ◌++◌, ℕ, List, sym, subst}
use Rattle.std.specs.Prelude.{IfOk}
use Rattle.script_text.specs.declared.part.Part.{Part}
use Rattle.script_run.specs.Readers.{reading_of}
use Rattle.script_run.specs.Reading.{IsReadPart}
use Rattle.script_run.proofs.reader.read_next.Goals as goal

pub read_further-requires-clause-other : goal.read_further-requires-clause-other
read_further-requires-clause-other c = c.in_default.not-Unmount

pub returns-in-Unmount-clause-part : goal.returns-in-Unmount-clause-part
returns-in-Unmount-clause-part c =
    let reader = c.args.reader in
    let P : Part → Type 0 = λ part. IfOk c.read_unmounted.result (λ new. (x : List ℕ) × IsReadPart reader.cause (reading_of reader) part x (reading_of new) × (c.read_unmounted.new.text.items ≡ c.args.text.now.items ++ x)) in
    subst P (sym c.in-Unmount.is) c.read_unmounted.ensures.part
