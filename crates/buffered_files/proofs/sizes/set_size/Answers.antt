use Rattle.std.proofs.Common.{◌≡◌, Err, Some, ap, arith, length, rules, subst, sym, ◌∙◌}
use Rattle.fs_model.specs.declared.space.Grant.{Grant}
use Rattle.fs_model.specs.declared.space.Need.{Need}
use Rattle.buffered_files.specs.declared.kept.Kept.{Kept}
use Rattle.buffered_files.specs.CallLaws.{Goes-none, Goes-within, Sure-then}
use Rattle.buffered_files.specs.Calls.{IsNotEnospc, IsWithoutRoom, WasCovered, refusal_of}
use Rattle.buffered_files.specs.Cuts.{refused_fate}
use Rattle.buffered_files.specs.Cuts.GroupFate.{WasPut}
use Rattle.buffered_files.specs.Present.{present}
use Rattle.buffered_files.specs.Resized.{size_need}
use Rattle.buffered_files.proofs.Growing.{not_admitted}
use Rattle.buffered_files.proofs.MakingRoom.{fault_told, goes_at_once, put_refused}
use Rattle.buffered_files.proofs.SizeAdmitted.{alike_then, asked_is, asked_modest, asked_none, covered_then, cut_then, failed_then, found_on, goes_alone, goes_then, granted_asked, grows_then, need_on, not_cut, not_goes, sized_on}
use Rattle.buffered_files.proofs.sizes.set_size.Goals as goal

pub admit-requires-clause-modest : goal.admit-requires-clause-modest
admit-requires-clause-modest g c = asked_modest c.need_of-need.result _ c.need_of-need.ensures

pub put_size-requires-clause-found : goal.put_size-requires-clause-found
put_size-requires-clause-found g c =
    found_on (g.B.Backing.state c.args.backing.now) (g.B.Backing.state c.admit.new.backing) c.args.kept.now c.admit.new.kept c.args.ino c.args.inode c.args.size c.args.now c.requires.kept c.admit.ensures.kept c.requires.found c.requires.file c.admit.ensures.same

pub put_size-requires-clause-sized : goal.put_size-requires-clause-sized
put_size-requires-clause-sized g c =
    c.requires.sized ∙ sized_on (g.B.Backing.state c.args.backing.now) (g.B.Backing.state c.admit.new.backing) c.args.kept.now c.admit.new.kept c.args.ino c.args.inode c.args.size c.args.now c.requires.kept c.admit.ensures.kept c.requires.found c.requires.file c.admit.ensures.same

pub put_size-requires-clause-granted : goal.put_size-requires-clause-granted
put_size-requires-clause-granted g c =
    let old = g.B.Backing.state c.args.backing.now in
    let mid = g.B.Backing.state c.admit.new.backing in
    let on = need_on old mid c.args.kept.now c.admit.new.kept c.args.ino c.args.inode c.args.size c.args.now c.requires.kept c.admit.ensures.kept c.requires.found c.requires.file c.admit.ensures.same in
    let asked = asked_is c.need_of-need.result c.args.old_size (present old.tree c.args.kept.now).tree c.args.ino c.args.inode c.args.size c.args.now c.need_of-need.ensures c.requires.sized in
    let grant : Need → Grant = λ n. record { bytes = n.bytes; nodes = n.nodes } in
    c.in_ok-admit.ensures.grant ∙ ap (λ n. Some (grant n)) (asked ∙ sym on)

pub returns-in-Ok-clause-ok : goal.returns-in-Ok-clause-ok
returns-in-Ok-clause-ok g c =
    let old = g.B.Backing.state c.args.backing.now in
    let mid = g.B.Backing.state c.admit.new.backing in
    alike_then old mid c.args.kept.now c.admit.new.kept c.args.ino c.args.inode c.args.size c.args.now c.requires.kept c.admit.ensures.kept c.requires.found c.requires.file c.admit.ensures.same (g.B.Backing.state c.put_size.new.backing).tree c.put_size.new.kept
    c.resized_files_stay_alike.ensures (c.present_files_are_sound.ensures.proper old.tree c.args.kept.now c.requires.kept) (c.present_files_are_sound.ensures.proper mid.tree c.admit.new.kept c.admit.ensures.kept) c.in-Ok.ensures.ok

pub returns-in-Ok-clause-admitted : goal.returns-in-Ok-clause-admitted
returns-in-Ok-clause-admitted g c =
    let old = g.B.Backing.state c.args.backing.now in
    let mid = g.B.Backing.state c.admit.new.backing in
    let asked = asked_is c.need_of-need.result c.args.old_size (present old.tree c.args.kept.now).tree c.args.ino c.args.inode c.args.size c.args.now c.need_of-need.ensures c.requires.sized in
    covered_then old mid c.args.kept.now c.admit.new.kept c.args.ino c.args.inode c.args.size c.args.now c.requires.kept c.admit.ensures.kept c.requires.found c.requires.file c.admit.ensures.same (g.B.Backing.state c.put_size.new.backing)
    (subst (λ n. WasCovered old mid c.args.kept.now n n 0) asked c.in_ok-admit.ensures.tested) c.put_size.ensures.goes

pub returns-in-Ok-clause-goes : goal.returns-in-Ok-clause-goes
returns-in-Ok-clause-goes g c =
    goes_then (g.B.Backing.state c.args.backing.now) (g.B.Backing.state c.admit.new.backing) c.args.kept.now c.admit.new.kept c.args.ino c.args.inode c.args.size c.args.now c.requires.kept c.admit.ensures.kept c.requires.found c.requires.file c.admit.ensures.same (g.B.Backing.state c.put_size.new.backing) c.admit.ensures.goes c.put_size.ensures.goes

pub returns-in-Err-clause-goes : goal.returns-in-Err-clause-goes
returns-in-Err-clause-goes g c =
    goes_then (g.B.Backing.state c.args.backing.now) (g.B.Backing.state c.admit.new.backing) c.args.kept.now c.admit.new.kept c.args.ino c.args.inode c.args.size c.args.now c.requires.kept c.admit.ensures.kept c.requires.found c.requires.file c.admit.ensures.same (g.B.Backing.state c.put_size.new.backing) c.admit.ensures.goes c.put_size.ensures.goes

pub returns-in_err-admit-clause-goes : goal.returns-in_err-admit-clause-goes
returns-in_err-admit-clause-goes g c = not_goes (g.B.Backing.state c.args.backing.now) (g.B.Backing.state c.admit.new.backing) (length c.args.kept.now.pages.dirty) _ c.admit.ensures.goes

pub returns-in-Err-clause-refused : goal.returns-in-Err-clause-refused
returns-in-Err-clause-refused g c =
    let why = put_refused (g.B.Backing.state c.args.backing.now) (g.B.Backing.state c.admit.new.backing) (g.B.Backing.state c.put_size.new.backing) c.put_size.new.kept (size_need (present (g.B.Backing.state c.args.backing.now).tree c.args.kept.now).tree c.args.ino c.args.inode c.args.size c.args.now) c.in-Err.fault c.admit.ensures.goes.faults c.in-Err.ensures.cause c.in-Err.ensures.mode in
    search (rules, why)

pub returns-in_err-admit-clause-refused : goal.returns-in_err-admit-clause-refused
returns-in_err-admit-clause-refused g c =
    let old = g.B.Backing.state c.args.backing.now in
    let asked = asked_is c.need_of-need.result c.args.old_size (present old.tree c.args.kept.now).tree c.args.ino c.args.inode c.args.size c.args.now c.need_of-need.ensures c.requires.sized in
    let why = subst (λ n. IsWithoutRoom old (g.B.Backing.state c.admit.new.backing) c.admit.new.kept n c.in_err-admit.field-0.0) asked c.in_err-admit.ensures.refused in
    search (rules, why)

pub returns-in-Ok-clause-grows : goal.returns-in-Ok-clause-grows
returns-in-Ok-clause-grows g c =
    grows_then (g.B.Backing.state c.args.backing.now) (g.B.Backing.state c.admit.new.backing) c.args.kept.now c.admit.new.kept c.args.ino c.args.inode c.args.size c.args.now c.requires.kept c.admit.ensures.kept c.requires.found c.requires.file c.admit.ensures.same (g.B.Backing.state c.put_size.new.backing) c.put_size.new.kept c.in_ok-admit.ensures.grows c.in-Ok.ensures.grows

pub returns-in-Err-clause-grows : goal.returns-in-Err-clause-grows
returns-in-Err-clause-grows g c =
    let f = failed_then (g.B.Backing.state c.args.backing.now) (g.B.Backing.state c.admit.new.backing) c.args.kept.now c.admit.new.kept c.args.ino c.args.inode c.args.size c.args.now c.requires.kept c.admit.ensures.kept c.requires.found c.requires.file c.admit.ensures.same (Unit {0}) (Unit {0}) c.in-Err.fault (g.B.Backing.state c.put_size.new.backing) c.put_size.new.kept c.in_ok-admit.ensures.grows c.in-Err.ensures.grows in
    search (rules, f)

pub returns-in_err-admit-clause-grows : goal.returns-in_err-admit-clause-grows
returns-in_err-admit-clause-grows g c =
    let f = not_admitted (Unit {0}) (Unit {0}) (size_need (present (g.B.Backing.state c.args.backing.now).tree c.args.kept.now).tree c.args.ino c.args.inode c.args.size c.args.now).nodes c.in_err-admit.field-0.0 (g.B.Backing.state c.args.backing.now) (g.B.Backing.state c.admit.new.backing) c.args.kept.now c.admit.new.kept c.in_err-admit.ensures.grows in
    search (rules, f)

pub returns-in-Ok-clause-closed : goal.returns-in-Ok-clause-closed
returns-in-Ok-clause-closed g c = let first = c.admit.ensures.closed in let second = c.put_size.ensures.closed in omega (arith, first, second)

pub returns-in-Err-clause-closed : goal.returns-in-Err-clause-closed
returns-in-Err-clause-closed g c = let first = c.admit.ensures.closed in let second = c.put_size.ensures.closed in omega (arith, first, second)

pub returns-in_err-admit-clause-cut : goal.returns-in_err-admit-clause-cut
returns-in_err-admit-clause-cut g c =
    let f = not_cut (g.B.Backing.state c.args.backing.now) (g.B.Backing.state c.admit.new.backing) c.args.kept.now c.args.ino c.args.inode c.args.size c.args.now c.in_err-admit.field-0.0 c.admit.ensures.cut in
    search (rules, f)

pub returns-in-Ok-clause-cut : goal.returns-in-Ok-clause-cut
returns-in-Ok-clause-cut g c =
    cut_then (g.B.Backing.state c.args.backing.now) (g.B.Backing.state c.admit.new.backing) c.args.kept.now c.admit.new.kept c.args.ino c.args.inode c.args.size c.args.now c.requires.kept c.admit.ensures.kept c.requires.found c.requires.file c.admit.ensures.same (g.B.Backing.state c.put_size.new.backing) WasPut c.admit.ensures.cut c.in-Ok.ensures.cut

pub returns-in-Err-clause-cut : goal.returns-in-Err-clause-cut
returns-in-Err-clause-cut g c =
    let f = cut_then (g.B.Backing.state c.args.backing.now) (g.B.Backing.state c.admit.new.backing) c.args.kept.now c.admit.new.kept c.args.ino c.args.inode c.args.size c.args.now c.requires.kept c.admit.ensures.kept c.requires.found c.requires.file c.admit.ensures.same (g.B.Backing.state c.put_size.new.backing) (refused_fate (refusal_of c.in-Err.fault)) c.admit.ensures.cut c.in-Err.ensures.cut in
    search (rules, f)

pub returns-in-Ok-clause-issued : goal.returns-in-Ok-clause-issued
returns-in-Ok-clause-issued g c =
    let first = c.in_ok-admit.ensures.issued in
    let second = c.in-Ok.ensures.issued in
    let none = asked_none c.need_of-need.result _ c.need_of-need.ensures in
    omega (arith, first, second, none)

pub returns-in-Err-clause-issued : goal.returns-in-Err-clause-issued
returns-in-Err-clause-issued g c =
    let first = c.in_ok-admit.ensures.issued in
    let none = asked_none c.need_of-need.result _ c.need_of-need.ensures in
    let same : length c.put_size.new.kept.pages.dirty ≡ length c.admit.new.kept.pages.dirty = ap (λ (kept : Kept). length kept.pages.dirty) c.in-Err.ensures.same in
    let credits = c.in-Err.ensures.files.credits in
    omega (arith, first, none, same, credits)

pub returns-in-Ok-clause-sure : goal.returns-in-Ok-clause-sure
returns-in-Ok-clause-sure g c =
    Sure-then (g.B.Backing.outlook c.args.backing.now) (g.B.Backing.outlook c.admit.new.backing) (g.B.Backing.outlook c.put_size.new.backing) (g.B.Backing.state c.args.backing.now) (g.B.Backing.state c.admit.new.backing) (g.B.Backing.state c.put_size.new.backing) c.admit.ensures.sure c.put_size.ensures.sure

pub returns-in-Err-clause-sure : goal.returns-in-Err-clause-sure
returns-in-Err-clause-sure g c =
    Sure-then (g.B.Backing.outlook c.args.backing.now) (g.B.Backing.outlook c.admit.new.backing) (g.B.Backing.outlook c.put_size.new.backing) (g.B.Backing.state c.args.backing.now) (g.B.Backing.state c.admit.new.backing) (g.B.Backing.state c.put_size.new.backing) c.admit.ensures.sure c.put_size.ensures.sure

pub returns-in-Ok-clause-alone : goal.returns-in-Ok-clause-alone
returns-in-Ok-clause-alone g c room =
    let old = g.B.Backing.state c.args.backing.now in
    let mid = g.B.Backing.state c.admit.new.backing in
    let asked = asked_is c.need_of-need.result c.args.old_size (present old.tree c.args.kept.now).tree c.args.ino c.args.inode c.args.size c.args.now c.need_of-need.ensures c.requires.sized in
    goes_alone old mid c.args.kept.now c.admit.new.kept c.args.ino c.args.inode c.args.size c.args.now c.requires.kept c.admit.ensures.kept c.requires.found c.requires.file c.admit.ensures.same (g.B.Backing.state c.put_size.new.backing)
    (granted_asked old mid c.need_of-need.result _ asked room (λ fits. (c.admit.ensures.covered fits).1)) c.put_size.ensures.goes

pub returns-in-Err-clause-alone : goal.returns-in-Err-clause-alone
returns-in-Err-clause-alone g c room =
    let old = g.B.Backing.state c.args.backing.now in
    let mid = g.B.Backing.state c.admit.new.backing in
    let asked = asked_is c.need_of-need.result c.args.old_size (present old.tree c.args.kept.now).tree c.args.ino c.args.inode c.args.size c.args.now c.need_of-need.ensures c.requires.sized in
    goes_alone old mid c.args.kept.now c.admit.new.kept c.args.ino c.args.inode c.args.size c.args.now c.requires.kept c.admit.ensures.kept c.requires.found c.requires.file c.admit.ensures.same (g.B.Backing.state c.put_size.new.backing)
    (granted_asked old mid c.need_of-need.result _ asked room (λ fits. (c.admit.ensures.covered fits).1)) c.put_size.ensures.goes

pub returns-in_err-admit-clause-alone : goal.returns-in_err-admit-clause-alone
returns-in_err-admit-clause-alone g c room =
    let old = g.B.Backing.state c.args.backing.now in
    let mid = g.B.Backing.state c.admit.new.backing in
    let asked = asked_is c.need_of-need.result c.args.old_size (present old.tree c.args.kept.now).tree c.args.ino c.args.inode c.args.size c.args.now c.need_of-need.ensures c.requires.sized in
    let need : Need = size_need (present old.tree c.args.kept.now).tree c.args.ino c.args.inode c.args.size c.args.now in
    goes_at_once need.nodes old mid mid need (granted_asked old mid c.need_of-need.result need asked room (λ fits. (c.admit.ensures.covered fits).1)) (Goes-within 0 need.nodes mid mid (omega arith) (Goes-none mid))

pub returns-in-Err-clause-at_once : goal.returns-in-Err-clause-at_once
returns-in-Err-clause-at_once g c room = subst (λ refusal. IsNotEnospc {T = Unit {0}} (Err refusal)) (sym c.from.ensures) (fault_told (Unit {0}) c.in-Err.fault)
