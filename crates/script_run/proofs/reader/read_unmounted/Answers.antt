use Rattle.std.proofs.Common.{◌≡◌, ◌+◌, ◌*◌, ◌∙◌, false, ap, arith, length, refl, rules, sym}
use Rattle.std.specs.Prelude.{codes}
use Rattle.fs_model.specs.Files.{Files}
use Rattle.plain_backing.specs.PlainBacking.{backing_state_of}
use Rattle.text_lines.specs.Lines.{ended}
use Rattle.script_run.specs.Readers.{seen_over}
use Rattle.script_run.specs.Reading.{Reading, no_numbers}
use Rattle.script_run.proofs.Closed.{none_dirty}
use Rattle.script_run.proofs.Running.{bare_files}
use Rattle.script_run.proofs.reader.read_unmounted.Goals as goal

pub returns-clause-closed : goal.returns-clause-closed
returns-clause-closed c =
    let was = c.requires.closed in
    let same = c.in_ok-fs.ensures.backing ∙ c.into_parts-backing.ensures in
    let weight = ap (λ b. (backing_state_of b).space.weight) same in
    let none : length c.in_ok-fs.fs.kept.pages.dirty ≡ 0 = ap (λ dirty. length dirty) c.in_ok-fs.ensures.bare.pages in
    let light : (backing_state_of c.args.reader.fs.backing).space.weight + 2 * length c.args.reader.fs.kept.pages.dirty ≡ 0 = was.light in
    record { mode = ap (λ b. (backing_state_of b).mode) same ∙ was.mode; light = omega (arith, weight, none, light) }

pub returns-clause-part : goal.returns-clause-part
returns-clause-part c =
    let was = c.requires.closed in
    let backing = c.args.reader.fs.backing in
    let same = c.in_ok-fs.ensures.backing ∙ c.into_parts-backing.ensures in
    let clean = c.clean_files_are_those_of_the_backing.ensures (backing_state_of backing).tree c.args.reader.fs.kept c.args.reader.fs.ready.kept_fits
    (none_dirty c.args.reader.fs.kept.pages.dirty (backing_state_of backing).space.weight was.light) in
    let stored = ap (λ b. (backing_state_of b).tree) same ∙ sym clean in
    let files = bare_files (backing_state_of c.in_ok-fs.fs.backing).tree (seen_over backing c.args.reader.fs.kept).tree c.in_ok-fs.fs.kept stored c.in_ok-fs.ensures.bare in (
      ended (codes "unmount unchanged"),
      (refl, ap (λ (f : Files). let r : Reading = record { files = f; mounted = false; now = c.args.reader.now; numbers = no_numbers } in r) files),
      search (rules, c.as_slice.ensures, c.in_ok-extend_from_slice.ensures.items),
    )
