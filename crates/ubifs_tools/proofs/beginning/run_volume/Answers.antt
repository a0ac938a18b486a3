use Rattle.std.proofs.Common.{subst}
use Rattle.ubifs_base.specs.RawOf.{raw_of}
use Rattle.script_run.specs.declared.whole.Played.{Played}
use Rattle.script_run.specs.Played.{CanBeImaged, IsPlayedOn}
use Rattle.ubifs_tools.proofs.Covered.{covered_tree}
use Rattle.ubifs_tools.proofs.Performing.{unchanged_run, written_run}
use Rattle.ubifs_tools.proofs.beginning.run_volume.Goals as goal

pub image_bytes-requires-clause-proper : goal.image_bytes-requires-clause-proper
image_bytes-requires-clause-proper g c =
    let P : Played → Type 0 = λ p. CanBeImaged (raw_of c.args.geometry) p in (subst P c.in-Written.is c.in_ok-run.ensures.imaged).0

pub image_bytes-requires-clause-covered : goal.image_bytes-requires-clause-covered
image_bytes-requires-clause-covered g c =
    let P : Played → Type 0 = λ p. CanBeImaged (raw_of c.args.geometry) p in
    covered_tree (raw_of c.args.geometry) c.in-Written.run'.tree (subst P c.in-Written.is c.in_ok-run.ensures.imaged).1

pub returns-in_ok-image-in-Written : goal.returns-in_ok-image-in-Written
returns-in_ok-image-in-Written g c =
    let geo = raw_of c.args.geometry in
    let P : Played → Type 0 = λ p. IsPlayedOn geo c.args.tree c.args.space.now c.args.parts.items p in
    written_run geo c.args.start.items c.args.tree c.args.space.now c.args.parts.items c.in-Written.run' c.in_ok-image-in-Written.image.items (subst P c.in-Written.is c.in_ok-run.ensures.played) c.in_ok-image-in-Written.ensures

pub returns-in-Unchanged : goal.returns-in-Unchanged
returns-in-Unchanged g c =
    let geo = raw_of c.args.geometry in
    let P : Played → Type 0 = λ p. IsPlayedOn geo c.args.tree c.args.space.now c.args.parts.items p in
    let played = subst P c.in-Unchanged.is c.in_ok-run.ensures.played in
    unchanged_run geo c.args.start.items c.args.tree c.args.space.now c.args.parts.items c.in-Unchanged.text.items played.0 played.1 played.2
