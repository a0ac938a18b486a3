use Rattle.std.proofs.Common.{ℕ, [], ◌∷◌, subst}
use Rattle.ubifs_base.specs.RawOf.{raw_of}
use Rattle.ubifs_base.specs.Properties.{place_offs_bits}
use Rattle.media_lpt.specs.Nodes.{place_fields, place_value}
use Rattle.media_lpt.specs.Packed.{field, IsPut}
use Rattle.media_lpt.specs.PackedLaws.{IsPut-cons}
use Rattle.media_lpt.proofs.nnode.LptPlace.put.Goals as goal

pub returns-clause-put : goal.returns-clause-put
unfolding place_fields
returns-clause-put c =
    let place = c.args.self.now in
    let width = c.place_lnum-lnum_bits.result in
    let offs_bits = c.place_offs.result in
    let P : ℕ → Type 0 = λ w. IsPut c.args.out.now c.args.bit (field w (place_value (raw_of c.args.geo.now) place) ∷ field (place_offs_bits (raw_of c.args.geo.now)) place.offs ∷ []) c.put-2.new.out in
    let Q : ℕ → Type 0 = λ w. IsPut c.args.out.now c.args.bit (field width (place_value (raw_of c.args.geo.now) place) ∷ field w place.offs ∷ []) c.put-2.new.out in
    let R : ℕ → Type 0 = λ v. IsPut c.args.out.now c.args.bit (field width v ∷ []) c.put.new.out in
    subst P c.place_lnum-lnum_bits.ensures.number (subst Q c.place_offs.ensures.number
    (IsPut-cons c.args.out.now c.put.new.out c.put-2.new.out c.args.bit width (place_value (raw_of c.args.geo.now) place) (field offs_bits place.offs ∷ []) (subst R c.value.ensures c.put.ensures.put) c.put-2.ensures.put))
