use Rattle.std.proofs.Common.{◌≡◌, ℕ, ◌+◌, ◌-◌, ◌*◌, Bool, List, rules, sym, subst, arith}
use Rattle.std.specs.Prelude.{length}
use Rattle.fs_model.specs.declared.inode.Inode.{Inode}
use Rattle.fs_model.specs.Files.{Files}
use Rattle.buffered_files.specs.Alike.{IsAlike}
use Rattle.buffered_files.specs.Present.{IsKept, present}
use Rattle.buffered_files.specs.CallLaws.{Goes-then, Goes-within, Sure-then}
use Rattle.buffered_files.proofs.Cutting.{seen_then}
use Rattle.buffered_files.proofs.Growing.{failed_on}
use Rattle.buffered_files.proofs.Putting.{written_more, let_go, let_go_still, none_left}
use Rattle.buffered_files.proofs.put.write_back.Goals as goal

pub loop-left-preserved : goal.loop-left-preserved
loop-left-preserved g c =
    let some = c.loop-left-test.true in
    written_more (g.B.Backing.outlook c.args.backing.now) (g.B.Backing.outlook c.loop-left.backing) (g.B.Backing.outlook c.put_oldest.new.backing) (g.B.Backing.state c.args.backing.now) (g.B.Backing.state c.loop-left.backing) (g.B.Backing.state c.put_oldest.new.backing) c.args.kept.now c.loop-left.kept c.put_oldest.new.kept
    c.loop-left.left (c.loop-left.left - 1) c.requires.kept c.loop-left.invariant (omega (arith, some)) c.put_oldest.ensures.kept c.put_oldest.ensures.same c.put_oldest.ensures.paid c.put_oldest.ensures.issued c.in_ok-put_oldest.ensures.pages c.put_oldest.ensures.goes c.in_ok-put_oldest.ensures.grows c.put_oldest.ensures.closed c.put_oldest.ensures.cut c.put_oldest.ensures.sure

pub returns-in_err-put_oldest-clause-goes : goal.returns-in_err-put_oldest-clause-goes
returns-in_err-put_oldest-clause-goes g c =
    let old = g.B.Backing.state c.args.backing.now in
    let now = g.B.Backing.state c.loop-left.backing in
    let new = g.B.Backing.state c.put_oldest.new.backing in
    let some = c.loop-left-test.true in
    let few = c.loop-left.invariant.few in
    let n = length c.args.kept.now.pages.dirty in
    Goes-within (2 * (n - c.loop-left.left) + 2) (2 * n) old new (omega (arith, some, few)) (Goes-then (2 * (n - c.loop-left.left)) 2 old now new c.loop-left.invariant.goes c.put_oldest.ensures.goes)

pub returns-clause-same : goal.returns-clause-same
returns-clause-same g c =
    let w = c.loop-left.invariant in
    let left = c.loop-left-test.false in
    let zero : c.loop-left.left ≡ 0 = omega (arith, left) in
    let none = none_left c.loop-left.kept.pages.dirty c.loop-left.left w.count zero in
    let P : List (ℕ × Inode) → Type 0 = λ inodes. IsAlike (present (g.B.Backing.state c.args.backing.now).tree c.args.kept.now) (present (g.B.Backing.state c.loop-left.backing).tree (record c.loop-left.kept { inodes = inodes })) in
    let Q : Files → Type 0 = λ files. IsAlike (present (g.B.Backing.state c.args.backing.now).tree c.args.kept.now) files in
    subst P (sym c.clear.ensures) (subst Q (sym (let_go (g.B.Backing.state c.loop-left.backing).tree c.loop-left.kept w.fits none)) w.same)

pub returns-clause-kept : goal.returns-clause-kept
returns-clause-kept g c =
    let w = c.loop-left.invariant in
    let left = c.loop-left-test.false in
    let zero : c.loop-left.left ≡ 0 = omega (arith, left) in
    let none = none_left c.loop-left.kept.pages.dirty c.loop-left.left w.count zero in
    let P : List (ℕ × Inode) → Type 0 = λ inodes. IsKept (g.B.Backing.state c.loop-left.backing).tree (record c.loop-left.kept { inodes = inodes }) in
    subst P (sym c.clear.ensures) (let_go_still (g.B.Backing.state c.loop-left.backing).tree c.loop-left.kept w.fits none)

pub returns-in_err-put_oldest-clause-sure : goal.returns-in_err-put_oldest-clause-sure
returns-in_err-put_oldest-clause-sure g c =
    Sure-then (g.B.Backing.outlook c.args.backing.now) (g.B.Backing.outlook c.loop-left.backing) (g.B.Backing.outlook c.put_oldest.new.backing)
    (g.B.Backing.state c.args.backing.now) (g.B.Backing.state c.loop-left.backing) (g.B.Backing.state c.put_oldest.new.backing) c.loop-left.invariant.sure c.put_oldest.ensures.sure

pub returns-clause-sure : goal.returns-clause-sure
returns-clause-sure g c = c.loop-left.invariant.sure

pub returns-in_err-put_oldest-clause-grows : goal.returns-in_err-put_oldest-clause-grows
returns-in_err-put_oldest-clause-grows g c =
    let f = failed_on Bool (Unit {0}) c.in_err-put_oldest.field-0.0 (g.B.Backing.state c.args.backing.now) (g.B.Backing.state c.loop-left.backing) (g.B.Backing.state c.put_oldest.new.backing) c.args.kept.now c.loop-left.kept c.put_oldest.new.kept c.loop-left.invariant.grows c.in_err-put_oldest.ensures.grows in
    search (rules, f)

pub returns-in_err-put_oldest-clause-cut : goal.returns-in_err-put_oldest-clause-cut
returns-in_err-put_oldest-clause-cut g c =
    let w = c.loop-left.invariant in
    seen_then (g.B.Backing.state c.args.backing.now) (g.B.Backing.state c.loop-left.backing) (g.B.Backing.state c.put_oldest.new.backing) c.args.kept.now c.loop-left.kept c.requires.kept w.fits w.same w.cut c.put_oldest.ensures.cut

pub returns-clause-cut : goal.returns-clause-cut
returns-clause-cut g c = c.loop-left.invariant.cut
