use Rattle.std.proofs.Common.{◌∙◌, length, refl, arith}
use Rattle.index_check.specs.IndexWalk.{told_misfit}
use Rattle.index_check.proofs.Contents.{read_bytes}
use Rattle.index_check.proofs.Fronts.{lack_front, none_front}
use Rattle.index_check.proofs.reading.lack_read.Goals as goal

pub lack_in-requires : goal.lack_in-requires
lack_in-requires g c =
    let old = g.V.Volume.state c.args.volume.now in
    let leb = old.holds c.args.branch.now.lnum in
    let n = length c.args.front.now in
    let size = g.met.V.Volume.leb_len c.args.volume.now c.args.branch.now.lnum c.requires.lnum in
    let range = c.requires.range in
    none_front old.holds c.args.branch.now c.read.new.out (record {
      count = n;
      is = c.in_ok-read.ensures.read ∙ read_bytes leb c.args.branch.now.offs n n refl;
      room = omega (arith, size, range);
      far = λ less. (let e = c.requires.far less in omega (arith, e, size));
    }) c.requires.none

pub returns-clause-lack : goal.returns-clause-lack
returns-clause-lack g c =
    let old = g.V.Volume.state c.args.volume.now in
    let leb = old.holds c.args.branch.now.lnum in
    let n = length c.args.front.now in
    let size = g.met.V.Volume.leb_len c.args.volume.now c.args.branch.now.lnum c.requires.lnum in
    let range = c.requires.range in
    lack_front old.holds c.args.branch.now c.read.new.out (told_misfit c.in_ok-misfit.misfit) (record {
      count = n;
      is = c.in_ok-read.ensures.read ∙ read_bytes leb c.args.branch.now.offs n n refl;
      room = omega (arith, size, range);
      far = λ less. (let e = c.requires.far less in omega (arith, e, size));
    }) c.in_ok-misfit.ensures
