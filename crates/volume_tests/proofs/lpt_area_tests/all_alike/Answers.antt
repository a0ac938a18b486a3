use Rattle.std.proofs.Common.{subst, sym, refl}
use Rattle.std.proofs.lemmas.List.{get_or-replicate}
use Rattle.ubifs_base.specs.Geometry.{plain_geometry}
use Rattle.media_lpt.specs.declared.lprop.Lprop.{Lprop}
use Rattle.lpt_area.specs.Written.{IsLprop}
use Rattle.volume_tests.proofs.lpt_area_tests.all_alike.Goals as goal

pub returns : goal.returns
returns c =
    let P : Lprop → Type 0 = IsLprop (plain_geometry 16384 512 64 8) in
    record { count = refl; each = λ k d lt. subst P (sym (get_or-replicate 64 k c.args.prop d lt)) c.requires }
