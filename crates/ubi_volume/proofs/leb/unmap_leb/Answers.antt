use Rattle.std.specs.Prelude.{slice_index_or}
use Rattle.std.proofs.lemmas.Option.{slice_get-get_or}
use Rattle.ubi_volume.proofs.LebWork.{unmapped_replaced, unmapped_left}
use Rattle.ubi_volume.proofs.leb.unmap_leb.Goals as goal

pub returns-clause-changed : goal.returns-clause-changed
returns-clause-changed c =
    let lebs = c.args.lebs.now in
    let lnum = c.args.lnum in
    let leb = slice_index_or lebs lnum c.index-lebs-lnum.result in
    let call = c.erase_leb in
    unmapped_replaced c.args.size lnum lebs leb call.new.leb c.requires.lnum c.requires.sizes (slice_get-get_or lebs lnum c.index-lebs-lnum.result c.requires.lnum) call.ensures.leb call.ensures.bytes
    call.ensures.written call.ensures.pending

pub returns-clause-left : goal.returns-clause-left
returns-clause-left c =
    let lebs = c.args.lebs.now in
    let lnum = c.args.lnum in
    let leb = slice_index_or lebs lnum c.index-lebs-lnum.result in
    let call = c.erase_leb in
    unmapped_left c.args.size lnum lebs leb call.new.leb c.requires.lnum (slice_get-get_or lebs lnum c.index-lebs-lnum.result c.requires.lnum) call.ensures.left
