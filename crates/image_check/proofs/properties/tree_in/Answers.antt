use Rattle.std.proofs.Common.{List, subst, sym}
use Rattle.ubifs_base.specs.RawOf.{raw_of}
use Rattle.media_lpt.specs.declared.nnode.LptPlace.{LptPlace}
use Rattle.sound_image.specs.PropertyBreaches.{IsWrongProperty}
use Rattle.sound_image.specs.Wrong.{IsFirstWrong}
use Rattle.sound_image.specs.declared.breach.Breach.{Breach}
use Rattle.sound_image.specs.declared.rule.Rule.TheVariants as rules
use Rattle.image_check.specs.PropertyWalk.{IsRowRead, lpt_leb_in, pnodes}
use Rattle.image_check.specs.Told.{IsBreachOf}
use Rattle.image_check.proofs.WholeWalks.{walk_broken, walk_met}
use Rattle.image_check.proofs.properties.tree_in.Goals as goal

pub returns-in-Some-clause-broken : goal.returns-in-Some-clause-broken
returns-in-Some-clause-broken c =
    let geo = raw_of c.args.geo.now in
    let master = c.args.master.now in
    let holds = lpt_leb_in geo c.args.area.now in
    let W : List LptPlace → Type 0 = λ row. IsRowRead (pnodes geo) master.lpt_lnum holds row c.in_ok-row.row.first c.in_ok-read.read.all.items c.in_ok-read.read.first in
    let P : Breach → Type 0 = λ b. IsBreachOf rules.Properties (IsFirstWrong (IsWrongProperty holds geo master)) b in
    subst P (sym c.breach_of.ensures) (walk_broken geo master holds c.in_ok-row.row.all.items c.in_ok-row.row.first c.in_ok-read.read.all.items c.in_ok-read.read.first c.in-Some.node c.in_ok-row.ensures (subst W c.deref.ensures.value c.in_ok-read.ensures) c.in-Some.is)

pub returns-clause-met : goal.returns-clause-met
returns-clause-met c =
    let geo = raw_of c.args.geo.now in
    let master = c.args.master.now in
    let holds = lpt_leb_in geo c.args.area.now in
    let W : List LptPlace → Type 0 = λ row. IsRowRead (pnodes geo) master.lpt_lnum holds row c.in_ok-row.row.first c.in_ok-read.read.all.items c.in_ok-read.read.first in
    walk_met geo master holds c.in_ok-row.row.all.items c.in_ok-row.row.first c.in_ok-read.read.all.items c.truncate.new.self.items c.in_ok-read.read.first c.main_lebs.result c.requires c.in_ok-row.ensures (subst W c.deref.ensures.value c.in_ok-read.ensures) c.in_default.is c.main_lebs.ensures
    c.truncate.ensures.items
