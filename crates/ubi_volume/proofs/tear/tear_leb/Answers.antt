use Rattle.std.proofs.Common.{◌≡◌, ◌+◌, ◌-◌, ◌≤◌, List, ℕ, Option, Some, length, drop, replicate, ap, sym, subst, ◌∙◌}
use Rattle.std.specs.Prelude.{slice_index_or, slice_get}
use Rattle.std.proofs.lemmas.Option.{slice_get-get_or}
use Rattle.ubi_volume.specs.Lebs.{bytes_in, written_in}
use Rattle.ubi_volume.specs.Patterns.{write_left}
use Rattle.ubi_volume.specs.declared.leb.Leb.{Leb}
use Rattle.ubi_volume.proofs.LebWork.{put_replaced}
use Rattle.ubi_volume.proofs.tear.tear_leb.Goals as goal

pub returns-clause-put : goal.returns-clause-put
returns-clause-put c =
    let lebs = c.args.lebs.now in
    let size = c.args.size in
    let leb = slice_index_or lebs c.args.lnum c.index-lebs-lnum.result in
    let offs = c.args.offs in
    let end = offs + length c.args.bytes.now in
    let is = c.requires.sizes c.args.lnum c.index-lebs-lnum.result c.requires.lnum in
    let there : slice_get lebs c.args.lnum ≡ Some leb = slice_get-get_or lebs c.args.lnum c.index-lebs-lnum.result c.requires.lnum in
    let lent = c.deref_mut.ensures.value in
    let Behind : Option Leb → Type 0 = λ o. written_in o ≤ offs in
    let Blank : List ℕ → Type 0 = λ b. drop leb.written b ≡ replicate (size - leb.written) 255 in
    let blank = c.tear_at.ensures.blank leb.written size (subst Behind there c.requires.open) (subst Blank (sym lent) is.blank) in
    let put = c.tear_at.ensures.put ∙ ap (write_left c.args.tear.unit c.args.tear.done c.args.tear.digit offs c.args.bytes.now) (lent ∙ ap bytes_in (sym there)) in
    put_replaced size c.args.lnum end lebs leb c.tear_at.new.buffer _ c.requires.lnum c.requires.sizes is (c.tear_at.ensures.torn.len ∙ ap length lent) c.tear_at.ensures.bytes blank put
