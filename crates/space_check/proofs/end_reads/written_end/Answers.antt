use Rattle.std.proofs.Common.{◌≡◌, ◌-◌, drop, ◌∙◌, arith}
use Rattle.space_check.specs.Ends.{IsFirstIn, IsFirstWritten}
use Rattle.space_check.proofs.FreeEnds.{end_bytes, first_in_leb, none_then, some_then, unwritten_in_leb}
use Rattle.space_check.proofs.end_reads.written_end.Goals as goal

pub returns-clause-none : goal.returns-clause-none
returns-clause-none g c =
    let state = g.V.Volume.state c.args.volume.now in
    let leb = state.holds c.args.lnum in
    let from = c.args.geometry.now.leb_size - c.args.prop.now.free in
    let size = g.met.V.Volume.leb_len c.args.volume.now c.args.lnum c.requires.lnum in
    let same = c.requires.geometry.leb_size in
    let front = c.split_at_mut-end.ensures.front_len in
    let bytes : c.read.new.out ≡ drop from leb = c.in_ok-read.ensures.read ∙ end_bytes leb from _ (omega (arith, size, same, front)) in
    none_then c.first_written.result (λ all free. unwritten_in_leb leb c.read.new.out from bytes all) c.first_written.ensures.none

pub returns-clause-some : goal.returns-clause-some
returns-clause-some g c =
    let state = g.V.Volume.state c.args.volume.now in
    let leb = state.holds c.args.lnum in
    let from = c.args.geometry.now.leb_size - c.args.prop.now.free in
    let size = g.met.V.Volume.leb_len c.args.volume.now c.args.lnum c.requires.lnum in
    let same = c.requires.geometry.leb_size in
    let front = c.split_at_mut-end.ensures.front_len in
    let bytes : c.read.new.out ≡ drop from leb = c.in_ok-read.ensures.read ∙ end_bytes leb from _ (omega (arith, size, same, front)) in
    some_then (IsFirstIn c.read.new.out from) (IsFirstWritten leb from) c.first_written.result (λ at first. first_in_leb leb c.read.new.out from at bytes first) c.first_written.ensures.some
