use Rattle.std.proofs.Common.{inl, inr, ◌+◌, ◌-◌, ◌≤◌, refl, ◌∙◌, arith}
use Rattle.std.proofs.lemmas.Bool.Decides.{nat_tests}
use Rattle.vfs_ops.specs.Fs.{files_state}
use Rattle.credited_files.proofs.Moving.{dirty_same, none_covered, sure_still}
use Rattle.credited_files.proofs.credits.completed.Goals as goal

pub returns-then-held-pages-clause-whole : goal.returns-then-held-pages-clause-whole
returns-then-held-pages-clause-whole g c = λ few. let le = c.requires.held in inl (grind (arith, nat_tests, c.if-held-pages.true, le))

pub returns-then-held-pages-clause-master : goal.returns-then-held-pages-clause-master
returns-then-held-pages-clause-master g c = λ k. record { pool = c.requires.pool k; issued = c.requires.counted k; held = c.args.master.now.held; out = c.args.master.now.out }

pub returns-then-held-pages-clause-sure : goal.returns-then-held-pages-clause-sure
returns-then-held-pages-clause-sure g c = sure_still (g.B.Backing.outlook c.args.fs.now.backing) (files_state c.args.fs.now).backing

pub returns-then-pages-gt-MOST-clause-whole : goal.returns-then-pages-gt-MOST-clause-whole
returns-then-pages-gt-MOST-clause-whole g c = λ few. absurd (grind (arith, nat_tests, c.if-pages-gt-MOST.true, few))

pub returns-then-pages-gt-MOST-clause-master : goal.returns-then-pages-gt-MOST-clause-master
returns-then-pages-gt-MOST-clause-master g c = λ k. record { pool = c.requires.pool k; issued = c.requires.counted k; held = c.args.master.now.held; out = c.args.master.now.out }

pub returns-then-pages-gt-MOST-clause-sure : goal.returns-then-pages-gt-MOST-clause-sure
returns-then-pages-gt-MOST-clause-sure g c = sure_still (g.B.Backing.outlook c.args.fs.now.backing) (files_state c.args.fs.now).backing

pub returns-then-all-wanted-clause-whole : goal.returns-then-all-wanted-clause-whole
returns-then-all-wanted-clause-whole g c = λ few.
    inr (none_covered (files_state c.args.fs.now).backing (c.args.pages - c.args.held) c.covered_at_once-all.result c.covered_at_once-all.ensures.all (grind (arith, nat_tests, c.if-all-wanted.true))).1

pub returns-then-all-wanted-clause-credits : goal.returns-then-all-wanted-clause-credits
returns-then-all-wanted-clause-credits g c =
    let none = (none_covered (files_state c.args.fs.now).backing (c.args.pages - c.args.held) c.covered_at_once-all.result c.covered_at_once-all.ensures.all (grind (arith, nat_tests, c.if-all-wanted.true))).0 in
    let credits = c.covered_at_once-all.ensures.credits in
    let dirty = dirty_same (files_state c.args.fs.now) (files_state c.covered_at_once-all.new.fs) c.covered_at_once-all.ensures.only in
    let was = c.requires.credits in
    omega (arith, none, credits, dirty, was)

pub returns-then-all-wanted-clause-master : goal.returns-then-all-wanted-clause-master
returns-then-all-wanted-clause-master g c = λ k. record { pool = c.requires.pool k; issued = c.requires.counted k; held = c.args.master.now.held; out = c.args.master.now.out }

pub returns-clause-few : goal.returns-clause-few
returns-clause-few g c =
    let enough : c.args.pages - c.args.held ≤ c.covered_at_once-all.result = grind (arith, nat_tests, c.if-all-wanted.false) in
    let few = c.covered_at_once-all.ensures.few in
    let held = c.requires.held in
    omega (arith, enough, few, held)

pub returns-clause-whole : goal.returns-clause-whole
returns-clause-whole g c = λ few. inl refl

pub returns-clause-credits : goal.returns-clause-credits
returns-clause-credits g c =
    let enough : c.args.pages - c.args.held ≤ c.covered_at_once-all.result = grind (arith, nat_tests, c.if-all-wanted.false) in
    let credits = c.covered_at_once-all.ensures.credits in
    let dirty = dirty_same (files_state c.args.fs.now) (files_state c.covered_at_once-all.new.fs) c.covered_at_once-all.ensures.only in
    let was = c.requires.credits in
    let held = c.requires.held in
    omega (arith, enough, credits, dirty, was, held)

pub returns-clause-master : goal.returns-clause-master
returns-clause-master g c =
    c.refill.ensures
    ∙ (λ k. record { pool = c.args.pool.now; issued = c.requires.counted k + (c.covered_at_once-all.result - (c.args.pages - c.args.held)); held = c.args.master.now.held; out = c.args.master.now.out })
