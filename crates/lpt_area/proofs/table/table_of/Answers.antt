use Rattle.std.proofs.Common.{◌≡◌, ◌==◌, ℕ, ◌+◌, ◌∙◌, ap, sym, arith, subst, List, ◌++◌, ◌∷◌, []}
use Rattle.ubifs_base.specs.Areas.{lpt_first}
use Rattle.ubifs_base.specs.RawOf.{raw_of}
use Rattle.media_lpt.specs.Nodes.{IsLtab}
use Rattle.media_lpt.specs.declared.ltab.LptRow.{LptRow}
use Rattle.lpt_area.specs.Written.{rows_from, ltab_rows}
use Rattle.lpt_area.proofs.TableRows.{rows-next, row_is, row_at, is_ltab}
use Rattle.lpt_area.proofs.table.table_of.Goals as goal

pub loop-leb-init : goal.loop-leb-init
unfolding rows_from
loop-leb-init c = c.new-rows.ensures.items

pub loop-leb-preserved : goal.loop-leb-preserved
loop-leb-preserved c =
    let geo = raw_of c.args.geo.now in
    let from = lpt_first geo in
    let b = c.lpt_first-first.result + c.loop-leb.leb == c.args.lnum in
    let at = ap (λ (n : ℕ). n + c.loop-leb.leb == c.args.lnum) c.lpt_first-first.ensures in
    let row = c.row_of.ensures ∙ row_is geo b c.args.end c.args.dirty c.requires.end c.requires.dirty ∙ ap (row_at geo) at in
    c.in_ok-push.ensures.items ∙ ap (λ (r : LptRow). c.loop-leb.rows.items ++ r ∷ []) row ∙ ap (λ (rs : List LptRow). rs ++ row_at geo (from + c.loop-leb.leb == c.args.lnum) ∷ []) c.loop-leb.invariant ∙ sym (rows-next geo c.args.lnum c.loop-leb.leb from)

pub returns-clause-rows : goal.returns-clause-rows
returns-clause-rows c =
    let geo = raw_of c.args.geo.now in
    let all : c.loop-leb.leb ≡ geo.lpt_lebs = omega (arith, c.loop-leb-test.false, c.loop-leb.auto.leb-end) in
    c.from_vec.ensures ∙ c.loop-leb.invariant ∙ ap (λ (n : ℕ). rows_from geo c.args.lnum n (lpt_first geo)) all

pub returns-clause-table : goal.returns-clause-table
returns-clause-table c =
    let geo = raw_of c.args.geo.now in
    let all : c.loop-leb.leb ≡ geo.lpt_lebs = omega (arith, c.loop-leb-test.false, c.loop-leb.auto.leb-end) in
    let rows : c.from_vec.result ≡ ltab_rows geo c.args.lnum = c.from_vec.ensures ∙ c.loop-leb.invariant ∙ ap (λ (n : ℕ). rows_from geo c.args.lnum n (lpt_first geo)) all in
    let P : List LptRow → Type 0 = λ rs. IsLtab geo rs in
    let end = c.requires.end in
    let fits = c.requires.fits in
    subst P (sym rows) (is_ltab geo c.args.lnum c.args.geo.now.in_range (omega (arith, end, fits)))
