use Rattle.std.specs.declared.vec.Vec.{Vec}
use Rattle.std.specs.declared.alloc.Global.{Global}
use Rattle.std.proofs.Common.{◌≡◌, length}
use Rattle.ubifs_base.specs.Areas.{main_lebs}
use Rattle.ubifs_base.specs.RawOf.{raw_of}
use Rattle.media_lpt.specs.declared.lprop.Lprop.{Lprop}
use Rattle.sound_image.specs.Properties.{HasProperties}
use Rattle.sound_image.specs.PropertyBreaches.{IsWrongProperty}
use Rattle.sound_image.specs.Wrong.{IsFirstWrong}
use Rattle.sound_image.specs.declared.rule.Rule.TheVariants as rules
use Rattle.image_check.specs.Told.{IsBreachOf}
use Rattle.image_check.proofs.Answered.{met_then, told_broken, told_cause, told_met, told_sure}
use Rattle.image_check.proofs.TreeCounts.{main_count}
use Rattle.image_check.proofs.properties.check_properties.Goals as goal

pub returns-clause-met : goal.returns-clause-met
returns-clause-met g c = told_met (λ (props : Vec Lprop Global). HasProperties (g.V.Volume.state c.args.volume.now).holds (raw_of c.args.geometry.now) c.args.master.now props.items) c.read_properties.result c.told.result c.told.ensures c.read_properties.ensures.met

pub returns-clause-count : goal.returns-clause-count
returns-clause-count g c =
    let a = g.V.Volume.state c.args.volume.now in
    let geo = raw_of c.args.geometry.now in
    let P : Vec Lprop Global → Type 0 = λ props. HasProperties a.holds geo c.args.master.now props.items in
    met_then P (λ props. length props.items ≡ main_lebs geo) c.told.result (λ props h. main_count a.holds geo c.args.master.now props.items c.args.geometry.now.in_range h) (told_met P c.read_properties.result c.told.result c.told.ensures c.read_properties.ensures.met)

pub returns-clause-broken : goal.returns-clause-broken
returns-clause-broken g c = told_broken (IsBreachOf rules.Properties (IsFirstWrong (IsWrongProperty (g.V.Volume.state c.args.volume.now).holds (raw_of c.args.geometry.now) c.args.master.now))) c.read_properties.result c.told.result c.told.ensures c.read_properties.ensures.broken

pub returns-clause-cause : goal.returns-clause-cause
returns-clause-cause g c = told_cause (g.V.Volume.state c.args.volume.now).faults (g.V.Volume.state c.read_properties.new.volume).faults c.read_properties.result c.told.result c.told.ensures c.read_properties.ensures.cause

pub returns-clause-sure : goal.returns-clause-sure
returns-clause-sure g c = told_sure (g.V.Volume.state c.args.volume.now) (g.V.Volume.state c.read_properties.new.volume) c.read_properties.result c.told.result c.told.ensures c.read_properties.ensures.sure
