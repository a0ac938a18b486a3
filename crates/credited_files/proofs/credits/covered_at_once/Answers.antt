use Rattle.std.proofs.Common.{◌≤◌, ◌<◌, inl, arith}
use Rattle.std.proofs.lemmas.Bool.Decides.{nat_tests}
use Rattle.vfs_ops.specs.Fs.{files_state}
use Rattle.credited_files.proofs.Moving.{at_once, no_more, others_then, sure_then}
use Rattle.credited_files.proofs.credits.covered_at_once.Goals as goal

pub returns-then-all-wanted-clause-all : goal.returns-then-all-wanted-clause-all
returns-then-all-wanted-clause-all g c = inl (grind (arith, nat_tests, c.if-all-wanted.true))

pub returns-then-all-wanted-clause-few : goal.returns-then-all-wanted-clause-few
returns-then-all-wanted-clause-few g c =
    let wanted = c.requires.some.1 in
    no_more (files_state c.args.fs.now) (files_state c.covered-all.new.fs) c.max.result 17 c.covered-all.result c.covered-all.ensures.all (omega (arith, c.max.ensures, wanted))

pub returns : goal.returns
returns g c =
    let old = files_state c.args.fs.now in
    let mid = files_state c.covered-all.new.fs in
    let new = files_state c.covered.new.fs in
    let first = c.covered-all.ensures in
    let second = c.covered.ensures in
    let less : c.covered-all.result < c.args.wanted = grind (arith, nat_tests, c.if-all-wanted.false) in
    let le : c.args.wanted ≤ c.max.result = omega (arith, c.max.ensures) in
    let both = at_once old mid new c.max.result c.args.wanted c.covered-all.result c.covered.result le first.all less second.all in
    let none = both.0 in
    let a = first.credits in
    let b = second.credits in
    record {
      all = both.1;
      few = no_more mid new c.args.wanted 17 c.covered.result second.all c.requires.some.1;
      only = others_then old mid new first.only second.only;
      credits = omega (arith, none, a, b);
      sure = sure_then (g.B.Backing.outlook c.args.fs.now.backing) (g.B.Backing.outlook c.covered-all.new.fs.backing) (g.B.Backing.outlook c.covered.new.fs.backing) old.backing mid.backing new.backing first.sure second.sure;
    }
