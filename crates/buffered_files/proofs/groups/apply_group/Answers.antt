use Rattle.std.proofs.Common.{rules, arith, ◌≡◌, ◌+◌, Err, ap, subst, sym, ◌*◌, length}
use Rattle.fs_model.specs.declared.space.Grant.{Grant}
use Rattle.buffered_files.specs.Present.{present}
use Rattle.buffered_files.proofs.Applied.{built_alike, bytes_alike, names_alike, alike_put}
use Rattle.buffered_files.specs.declared.kept.Kept.{Kept}
use Rattle.buffered_files.specs.Calls.{IsNotEnospc, refusal_of}
use Rattle.buffered_files.specs.CutLaws.{Puts-with, Refused-none}
use Rattle.buffered_files.specs.Cuts.{refused_fate}
use Rattle.buffered_files.specs.Cuts.GroupFate.{WasPut}
use Rattle.buffered_files.proofs.Cutting.{group_then}
use Rattle.buffered_files.proofs.Growing.{admitted_failed, grows_on, not_admitted}
use Rattle.buffered_files.proofs.MakingRoom.{fault_told, goes_at_once, put_refused}
use Rattle.buffered_files.specs.CallLaws.{Covered-then, Goes-none, Goes-then, Goes-within, Sure-then, fewer_closed}
use Rattle.buffered_files.proofs.groups.apply_group.Goals as goal

pub put_group-requires-clause-granted : goal.put_group-requires-clause-granted
put_group-requires-clause-granted g c =
    let now = g.B.Backing.state c.admit.new.backing in
    let before = present (g.B.Backing.state c.args.backing.now).tree c.args.kept.now in
    let seen = present now.tree c.admit.new.kept in
    let alike = c.admit.ensures.same in
    let grant : Grant = record { bytes = c.args.need.now.bytes; nodes = c.args.need.now.nodes } in
    let proper = c.present_files_are_sound.ensures.proper now.tree c.admit.new.kept c.admit.ensures.kept in
    (grant, c.in_ok-admit.ensures.grant, c.groups_fit_trees_built_alike.ensures.fits before.tree seen.tree grant c.args.group.now (built_alike before seen alike) (bytes_alike before seen alike) proper c.requires.fits)

pub put_group-requires-clause-orphans : goal.put_group-requires-clause-orphans
put_group-requires-clause-orphans g c =
    let old = g.B.Backing.state c.args.backing.now in
    let now = g.B.Backing.state c.admit.new.backing in
    let before = present old.tree c.args.kept.now in
    let seen = present now.tree c.admit.new.kept in
    let fits = c.groups_fit_trees_built_alike.ensures.orphans before.tree seen.tree old.closed old.orphan_limit c.args.group.now (built_alike before seen c.admit.ensures.same) c.requires.orphans in
    fewer_closed seen.tree old.closed now.closed old.orphan_limit now.orphan_limit c.args.group.now c.admit.ensures.closed (sym c.admit.ensures.goes.orphan_limit) fits

pub put_group-requires-clause-names : goal.put_group-requires-clause-names
put_group-requires-clause-names g c =
    let before = present (g.B.Backing.state c.args.backing.now).tree c.args.kept.now in
    let seen = present (g.B.Backing.state c.admit.new.backing).tree c.admit.new.kept in
    names_alike before seen c.args.group.now c.admit.ensures.same c.requires.names

pub returns-in-Ok-clause-ok : goal.returns-in-Ok-clause-ok
returns-in-Ok-clause-ok g c =
    let before = present (g.B.Backing.state c.args.backing.now).tree c.args.kept.now in
    let seen = present (g.B.Backing.state c.admit.new.backing).tree c.admit.new.kept in
    let proper = c.present_files_are_sound.ensures.proper (g.B.Backing.state c.args.backing.now).tree c.args.kept.now c.requires.kept in
    let later = c.present_files_are_sound.ensures.proper (g.B.Backing.state c.admit.new.backing).tree c.admit.new.kept c.admit.ensures.kept in
    alike_put c.args.group.now before seen (present (g.B.Backing.state c.put_group.new.backing).tree c.put_group.new.kept) proper later c.requires.names c.admit.ensures.same c.in-Ok.ensures.ok

pub returns-in-Ok-clause-goes : goal.returns-in-Ok-clause-goes
returns-in-Ok-clause-goes g c =
    Goes-then (2 * length c.args.kept.now.pages.dirty) (length c.args.group.now) (g.B.Backing.state c.args.backing.now) (g.B.Backing.state c.admit.new.backing) (g.B.Backing.state c.put_group.new.backing) c.admit.ensures.goes c.put_group.ensures.goes

pub returns-in-Err-clause-goes : goal.returns-in-Err-clause-goes
returns-in-Err-clause-goes g c =
    Goes-then (2 * length c.args.kept.now.pages.dirty) (length c.args.group.now) (g.B.Backing.state c.args.backing.now) (g.B.Backing.state c.admit.new.backing) (g.B.Backing.state c.put_group.new.backing) c.admit.ensures.goes c.put_group.ensures.goes

pub returns-in-Ok-clause-admitted : goal.returns-in-Ok-clause-admitted
returns-in-Ok-clause-admitted g c =
    let need = c.args.need.now in
    Covered-then (length c.args.group.now) (g.B.Backing.state c.args.backing.now) (g.B.Backing.state c.admit.new.backing) (g.B.Backing.state c.put_group.new.backing) c.args.kept.now need need c.in_ok-admit.ensures.tested c.put_group.ensures.goes

pub returns-in-Err-clause-refused : goal.returns-in-Err-clause-refused
returns-in-Err-clause-refused g c =
    let why = put_refused (g.B.Backing.state c.args.backing.now) (g.B.Backing.state c.admit.new.backing) (g.B.Backing.state c.put_group.new.backing) c.put_group.new.kept c.args.need.now c.in-Err.fault c.admit.ensures.goes.faults c.in-Err.ensures.cause c.in-Err.ensures.mode in
    search (rules, why)

pub returns-in_err-admit-clause-goes : goal.returns-in_err-admit-clause-goes
returns-in_err-admit-clause-goes g c =
    Goes-within (2 * length c.args.kept.now.pages.dirty) (2 * length c.args.kept.now.pages.dirty + length c.args.group.now) (g.B.Backing.state c.args.backing.now) (g.B.Backing.state c.admit.new.backing) (omega arith) c.admit.ensures.goes

pub returns-in_err-admit-clause-grows : goal.returns-in_err-admit-clause-grows
returns-in_err-admit-clause-grows g c =
    let f = not_admitted (Unit {0}) (Unit {0}) (length c.args.group.now) c.in_err-admit.field-0.0 (g.B.Backing.state c.args.backing.now) (g.B.Backing.state c.admit.new.backing) c.args.kept.now c.admit.new.kept c.in_err-admit.ensures.grows in
    search (rules, f)

pub returns-in-Ok-clause-grows : goal.returns-in-Ok-clause-grows
returns-in-Ok-clause-grows g c =
    grows_on (length c.args.group.now) (g.B.Backing.state c.args.backing.now) (g.B.Backing.state c.admit.new.backing) (g.B.Backing.state c.put_group.new.backing) c.args.kept.now c.admit.new.kept c.put_group.new.kept c.in_ok-admit.ensures.grows c.in-Ok.ensures.grows

pub returns-in-Err-clause-grows : goal.returns-in-Err-clause-grows
returns-in-Err-clause-grows g c =
    let f = admitted_failed (Unit {0}) (Unit {0}) (length c.args.group.now) c.in-Err.fault (g.B.Backing.state c.args.backing.now) (g.B.Backing.state c.admit.new.backing) (g.B.Backing.state c.put_group.new.backing) c.args.kept.now c.admit.new.kept c.put_group.new.kept c.in_ok-admit.ensures.grows c.in-Err.ensures.grows in
    search (rules, f)

pub returns-in-Ok-clause-closed : goal.returns-in-Ok-clause-closed
returns-in-Ok-clause-closed g c = let first = c.admit.ensures.closed in let second = c.put_group.ensures.closed in omega (arith, first, second)

pub returns-in-Err-clause-closed : goal.returns-in-Err-clause-closed
returns-in-Err-clause-closed g c = let first = c.admit.ensures.closed in let second = c.put_group.ensures.closed in omega (arith, first, second)

pub returns-in_err-admit-clause-cut : goal.returns-in_err-admit-clause-cut
returns-in_err-admit-clause-cut g c =
    let old = g.B.Backing.state c.args.backing.now in
    let refusal = c.in_err-admit.field-0.0 in
    let f = Puts-with (present old.tree c.args.kept.now).tree c.args.group.now (refused_fate refusal) old.journal (g.B.Backing.state c.admit.new.backing).journal (Refused-none refusal c.args.group.now) c.admit.ensures.cut in
    search (rules, f)

pub returns-in-Ok-clause-cut : goal.returns-in-Ok-clause-cut
returns-in-Ok-clause-cut g c =
    let old = g.B.Backing.state c.args.backing.now in
    let now = g.B.Backing.state c.admit.new.backing in
    group_then old now (g.B.Backing.state c.put_group.new.backing) c.args.kept.now c.admit.new.kept c.args.group.now WasPut c.requires.kept c.admit.ensures.kept c.admit.ensures.same c.admit.ensures.cut c.in-Ok.ensures.cut

pub returns-in-Err-clause-cut : goal.returns-in-Err-clause-cut
returns-in-Err-clause-cut g c =
    let old = g.B.Backing.state c.args.backing.now in
    let now = g.B.Backing.state c.admit.new.backing in
    let new = g.B.Backing.state c.put_group.new.backing in
    let f = group_then old now new c.args.kept.now c.admit.new.kept c.args.group.now (refused_fate (refusal_of c.in-Err.fault)) c.requires.kept c.admit.ensures.kept c.admit.ensures.same c.admit.ensures.cut c.in-Err.ensures.cut in
    search (rules, f)

pub returns-in-Ok-clause-alone : goal.returns-in-Ok-clause-alone
returns-in-Ok-clause-alone g c room =
    goes_at_once (length c.args.group.now) (g.B.Backing.state c.args.backing.now) (g.B.Backing.state c.admit.new.backing) (g.B.Backing.state c.put_group.new.backing) c.args.need.now (c.admit.ensures.covered room).1 c.put_group.ensures.goes

pub returns-in-Err-clause-alone : goal.returns-in-Err-clause-alone
returns-in-Err-clause-alone g c room =
    goes_at_once (length c.args.group.now) (g.B.Backing.state c.args.backing.now) (g.B.Backing.state c.admit.new.backing) (g.B.Backing.state c.put_group.new.backing) c.args.need.now (c.admit.ensures.covered room).1 c.put_group.ensures.goes

pub returns-in_err-admit-clause-alone : goal.returns-in_err-admit-clause-alone
returns-in_err-admit-clause-alone g c room =
    goes_at_once (length c.args.group.now) (g.B.Backing.state c.args.backing.now) (g.B.Backing.state c.admit.new.backing) (g.B.Backing.state c.admit.new.backing) c.args.need.now (c.admit.ensures.covered room).1 (Goes-within 0 (length c.args.group.now) (g.B.Backing.state c.admit.new.backing) (g.B.Backing.state c.admit.new.backing) (omega arith) (Goes-none (g.B.Backing.state c.admit.new.backing)))

pub returns-in-Ok-clause-sure : goal.returns-in-Ok-clause-sure
returns-in-Ok-clause-sure g c =
    Sure-then (g.B.Backing.outlook c.args.backing.now) (g.B.Backing.outlook c.admit.new.backing) (g.B.Backing.outlook c.put_group.new.backing) (g.B.Backing.state c.args.backing.now) (g.B.Backing.state c.admit.new.backing) (g.B.Backing.state c.put_group.new.backing) c.admit.ensures.sure c.put_group.ensures.sure

pub returns-in-Err-clause-sure : goal.returns-in-Err-clause-sure
returns-in-Err-clause-sure g c =
    Sure-then (g.B.Backing.outlook c.args.backing.now) (g.B.Backing.outlook c.admit.new.backing) (g.B.Backing.outlook c.put_group.new.backing) (g.B.Backing.state c.args.backing.now) (g.B.Backing.state c.admit.new.backing) (g.B.Backing.state c.put_group.new.backing) c.admit.ensures.sure c.put_group.ensures.sure

pub returns-in-Err-clause-at_once : goal.returns-in-Err-clause-at_once
returns-in-Err-clause-at_once g c room = subst (λ refusal. IsNotEnospc {T = Unit {0}} (Err refusal)) (sym c.from.ensures) (fault_told (Unit {0}) c.in-Err.fault)

pub returns-in-Ok-clause-issued : goal.returns-in-Ok-clause-issued
returns-in-Ok-clause-issued g c =
    let first = c.in_ok-admit.ensures.issued in
    let second = c.in-Ok.ensures.issued in
    let none = c.requires.credits in
    omega (arith, first, second, none)

pub returns-in-Err-clause-issued : goal.returns-in-Err-clause-issued
returns-in-Err-clause-issued g c =
    let first = c.in_ok-admit.ensures.issued in
    let none = c.requires.credits in
    let same : length c.put_group.new.kept.pages.dirty ≡ length c.admit.new.kept.pages.dirty = ap (λ (kept : Kept). length kept.pages.dirty) c.in-Err.ensures.same in
    let credits = c.in-Err.ensures.files.credits in
    omega (arith, first, none, same, credits)
