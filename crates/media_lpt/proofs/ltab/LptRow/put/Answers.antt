use Rattle.std.proofs.Common.{ℕ, [], ◌∷◌, subst}
use Rattle.media_lpt.specs.Nodes.{row_fields}
use Rattle.media_lpt.specs.Packed.{field, IsPut}
use Rattle.media_lpt.specs.PackedLaws.{IsPut-cons}
use Rattle.media_lpt.proofs.ltab.LptRow.put.Goals as goal

pub returns-clause-put : goal.returns-clause-put
unfolding row_fields
returns-clause-put c =
    let row = c.args.self.now in
    let width = c.row_space-width.result in
    let P : ℕ → Type 0 = λ w. IsPut c.args.out.now c.args.bit (field w row.free ∷ field w row.dirty ∷ []) c.put-2.new.out in
    subst P c.row_space-width.ensures.number
    (IsPut-cons c.args.out.now c.put.new.out c.put-2.new.out c.args.bit width row.free (field width row.dirty ∷ []) c.put.ensures.put c.put-2.ensures.put)
