use Rattle.std.proofs.Common.{inl, inr, subst, map}
use Rattle.std.specs.Prelude.{Option, IfSome}
use Rattle.std.specs.String.{string_bytes}
use Rattle.command_words.specs.Words.{AreWordsOf}
use Rattle.command_words.specs.declared.command.Command.{Command}
use Rattle.ubifs_tools.proofs.top.ubifs.Goals as goal

pub returns-in-Ok-Some-Run-clause-done : goal.returns-in-Ok-Some-Run-clause-done
returns-in-Ok-Some-Run-clause-done g c = λ h.
    let P : Option Command → Type 0 = λ said. IfSome said (AreWordsOf (map string_bytes c.args.words.now)) in
    let Q : Command → Type 0 = λ said. AreWordsOf (map string_bytes c.args.words.now) said in
    let is = subst Q c.in-Ok-Some-Run.field-0-0-is (subst P c.in-Ok-Some-Run.field-0-is c.in-Ok-Some-Run.ensures.some) in
    inl (record { volume = c.in-Ok-Some-Run.volume.now; script = c.in-Ok-Some-Run.script.now; image = c.in-Ok-Some-Run.image.now; is = is; holds = c.run_told.ensures.done h })

pub returns-in-Ok-Some-Run-clause-output : goal.returns-in-Ok-Some-Run-clause-output
returns-in-Ok-Some-Run-clause-output g c = λ h.
    let P : Option Command → Type 0 = λ said. IfSome said (AreWordsOf (map string_bytes c.args.words.now)) in
    let Q : Command → Type 0 = λ said. AreWordsOf (map string_bytes c.args.words.now) said in
    let is = subst Q c.in-Ok-Some-Run.field-0-0-is (subst P c.in-Ok-Some-Run.field-0-is c.in-Ok-Some-Run.ensures.some) in
    inl (record { volume = c.in-Ok-Some-Run.volume.now; script = c.in-Ok-Some-Run.script.now; image = c.in-Ok-Some-Run.image.now; is = is; holds = c.run_told.ensures.output h })

pub returns-in-Ok-Some-Run-clause-kept : goal.returns-in-Ok-Some-Run-clause-kept
returns-in-Ok-Some-Run-clause-kept g c =
    let P : Option Command → Type 0 = λ said. IfSome said (AreWordsOf (map string_bytes c.args.words.now)) in
    let Q : Command → Type 0 = λ said. AreWordsOf (map string_bytes c.args.words.now) said in
    let is = subst Q c.in-Ok-Some-Run.field-0-0-is (subst P c.in-Ok-Some-Run.field-0-is c.in-Ok-Some-Run.ensures.some) in
    elim c.run_told.ensures.kept [
      | inl same ↦ inl same
      | inr done ↦ inr (inl (record { volume = c.in-Ok-Some-Run.volume.now; script = c.in-Ok-Some-Run.script.now; image = c.in-Ok-Some-Run.image.now; is = is; holds = done }))
    ]

pub returns-in-Ok-Some-Mkfs-clause-done : goal.returns-in-Ok-Some-Mkfs-clause-done
returns-in-Ok-Some-Mkfs-clause-done g c = λ h.
    let P : Option Command → Type 0 = λ said. IfSome said (AreWordsOf (map string_bytes c.args.words.now)) in
    let Q : Command → Type 0 = λ said. AreWordsOf (map string_bytes c.args.words.now) said in
    let is = subst Q c.in-Ok-Some-Mkfs.field-0-0-is (subst P c.in-Ok-Some-Mkfs.field-0-is c.in-Ok-Some-Mkfs.ensures.some) in
    inr (inr (record { manifest = c.in-Ok-Some-Mkfs.manifest.now; image = c.in-Ok-Some-Mkfs.image.now; is = is; holds = c.mkfs_told.ensures.done h }))

pub returns-in-Ok-Some-Mkfs-clause-output : goal.returns-in-Ok-Some-Mkfs-clause-output
returns-in-Ok-Some-Mkfs-clause-output g c = λ h.
    let P : Option Command → Type 0 = λ said. IfSome said (AreWordsOf (map string_bytes c.args.words.now)) in
    let Q : Command → Type 0 = λ said. AreWordsOf (map string_bytes c.args.words.now) said in
    let is = subst Q c.in-Ok-Some-Mkfs.field-0-0-is (subst P c.in-Ok-Some-Mkfs.field-0-is c.in-Ok-Some-Mkfs.ensures.some) in
    inr (inr (record { manifest = c.in-Ok-Some-Mkfs.manifest.now; image = c.in-Ok-Some-Mkfs.image.now; is = is; holds = c.mkfs_told.ensures.output h }))

pub returns-in-Ok-Some-Mkfs-clause-kept : goal.returns-in-Ok-Some-Mkfs-clause-kept
returns-in-Ok-Some-Mkfs-clause-kept g c =
    let P : Option Command → Type 0 = λ said. IfSome said (AreWordsOf (map string_bytes c.args.words.now)) in
    let Q : Command → Type 0 = λ said. AreWordsOf (map string_bytes c.args.words.now) said in
    let is = subst Q c.in-Ok-Some-Mkfs.field-0-0-is (subst P c.in-Ok-Some-Mkfs.field-0-is c.in-Ok-Some-Mkfs.ensures.some) in
    elim c.mkfs_told.ensures.kept [
      | inl same ↦ inl same
      | inr made ↦ inr (inr (record { manifest = c.in-Ok-Some-Mkfs.manifest.now; image = c.in-Ok-Some-Mkfs.image.now; is = is; holds = made }))
    ]
