use Rattle.std.proofs.Common.{◌≡◌, ℕ, ◌+◌, List, length, take, sym, ap, ◌∙◌}
use Rattle.std.specs.Prelude.{slice_range}
use Rattle.ubi_volume.specs.Volume.{filled}
use Rattle.image_volume.specs.ImageVolumeLaws.{held_inside}
use Rattle.image_volume.specs.Reading.{read_of}
use Rattle.image_volume.proofs.image_volume.ImageVolumeVolume.read.Goals as goal

pub returns-clause-read : goal.returns-clause-read
returns-clause-read c =
    let v = c.args.self.now in
    let offs = c.args.offs in
    let n = length c.args.out.now in
    c.fill_from.ensures ∙ ap (λ (xs : List ℕ). filled n (take n xs)) c.bytes_from.ensures
    ∙ sym (read_of v.shape.leb_size c.args.lnum offs n v.bytes.now c.requires.range)
    ∙ ap (λ (leb : List ℕ). slice_range leb offs (offs + n)) (sym (held_inside v c.args.lnum c.requires.lnum))
