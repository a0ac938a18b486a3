use Rattle.std.proofs.Common.{ℕ, [], ◌∷◌, ◌+◌, ◌/◌, subst}
use Rattle.std.specs.Prelude.{if◌then◌else◌}
use Rattle.media_lpt.specs.Nodes.{lprop_fields}
use Rattle.media_lpt.specs.Packed.{field, IsPut}
use Rattle.media_lpt.specs.PackedLaws.{IsPut-cons}
use Rattle.media_lpt.proofs.lprop.Lprop.put.Goals as goal

pub returns-clause-put : goal.returns-clause-put
unfolding lprop_fields
returns-clause-put c =
    let prop = c.args.self.now in
    let width = c.space-width.result in
    let index : ℕ = if prop.index then 1 else 0 in
    let P : ℕ → Type 0 = λ w. IsPut c.args.out.now c.args.bit (field w (prop.free / 8) ∷ field w (prop.dirty / 8) ∷ field 1 index ∷ []) c.put-3.new.out in
    let third = (let Q : ℕ → Type 0 = λ v. IsPut c.put-2.new.out (c.args.bit + width + width) (field 1 v ∷ []) c.put-3.new.out in subst Q c.bit_of.ensures.number c.put-3.ensures.put) in
    subst P c.space-width.ensures.number
    (IsPut-cons c.args.out.now c.put.new.out c.put-3.new.out c.args.bit width (prop.free / 8) (field width (prop.dirty / 8) ∷ field 1 index ∷ []) c.put.ensures.put
    (IsPut-cons c.put.new.out c.put-2.new.out c.put-3.new.out (c.args.bit + width) width (prop.dirty / 8) (field 1 index ∷ []) c.put-2.ensures.put third))
