use Rattle.std.proofs.Common.{List, ℕ, ◌∙◌, subst, arith}
use Rattle.ubifs_tools.specs.Copies.{FilesStay}
use Rattle.ubifs_tools.specs.Making.{HasNoImage, IsFilledAs, IsMadeOf, IsVolumeMade}
use Rattle.ubifs_tools.specs.Pieces.{volume_image}
use Rattle.ubifs_tools.specs.declared.mkfs.Filled.{Filled}
use Rattle.ubifs_tools.specs.declared.mkfs.MadeVolume.{MadeVolume}
use Rattle.ubifs_tools.proofs.EndedRuns.{left_same}
use Rattle.ubifs_tools.proofs.MadeImages.{made_out}
use Rattle.ubifs_tools.proofs.Readings.{made_before, no_image_before, stay_all}
use Rattle.ubifs_tools.proofs.mkfs.mkfs.Goals as goal

pub make_volume-requires-clause-range : goal.make_volume-requires-clause-range
make_volume-requires-clause-range g c =
    let P : Filled → Type 0 = λ f. IsFilledAs (g.K.Keeper.state c.read.new.self) (g.K.Keeper.state c.fill_manifest.new.keeper) c.deref.result.now f in
    (subst P c.in-Made.is c.in_ok-line.ensures.filled).0.is.is.listed.range.2

pub returns-in-BadGeometry-clause-ended : goal.returns-in-BadGeometry-clause-ended
returns-in-BadGeometry-clause-ended g c =
    let old = g.K.Keeper.state c.args.keeper.now in
    let mid = g.K.Keeper.state c.read.new.self in
    let new = g.K.Keeper.state c.fill_manifest.new.keeper in
    let counted = c.in-Ok.ensures.counted in
    let stay : FilesStay old mid = record { same = c.read.ensures.files; telling = c.read.ensures.telling; counted = omega (arith, counted) } in
    let P : Filled → Type 0 = λ f. IsFilledAs mid new c.deref.result.now f in
    let Q : MadeVolume → Type 0 = λ d. IsVolumeMade mid c.deref.result.now d in
    let R : List ℕ → Type 0 = λ t. HasNoImage old t c.in-BadGeometry.line.items in
    let filled = subst P c.in-Made.is c.in_ok-line.ensures.filled in
    let none = subst Q c.in-BadGeometry.is (c.in_ok-line-2.ensures mid c.deref.result.now filled.0) in
    record {
      text = c.in-Ok.text.items;
      read = c.in-Ok.ensures.file;
      why = subst R c.deref.ensures.value (no_image_before old mid c.deref.result.now c.in-BadGeometry.line.items stay none);
      same = (stay_all old mid new stay c.fill_manifest.ensures.stay).same;
    }

pub returns : goal.returns
returns g c =
    let old = g.K.Keeper.state c.args.keeper.now in
    let mid = g.K.Keeper.state c.read.new.self in
    let new = g.K.Keeper.state c.fill_manifest.new.keeper in
    let counted = c.in-Ok.ensures.counted in
    let stay : FilesStay old mid = record { same = c.read.ensures.files; telling = c.read.ensures.telling; counted = omega (arith, counted) } in
    let P : Filled → Type 0 = λ f. IsFilledAs mid new c.deref.result.now f in
    let Q : MadeVolume → Type 0 = λ d. IsVolumeMade mid c.deref.result.now d in
    let bytes = volume_image c.in-Done.volume in
    let R : List ℕ → Type 0 = λ t. IsMadeOf old t c.in-Done.text.items bytes in
    let filled = subst P c.in-Made.is c.in_ok-line.ensures.filled in
    let made = subst Q c.in-Done.is (c.in_ok-line-2.ensures mid c.deref.result.now filled.0) in
    record {
      ended = made_out c.write_volume.result old new (g.K.Keeper.state c.write_volume.new.keeper) c.args.manifest.now c.args.image.now c.in-Ok.text.items c.in-Done.text.items bytes c.in-Ok.ensures.file
          (subst R c.deref.ensures.value (made_before old mid c.deref.result.now c.in-Done.text.items bytes stay made)) (stay_all old mid new stay c.fill_manifest.ensures.stay) c.write_volume.ensures.written;
      err = left_same c.write_volume.result old mid new (g.K.Keeper.state c.write_volume.new.keeper) stay c.fill_manifest.ensures.stay c.write_volume.ensures.err;
    }
