use Rattle.std.proofs.Common.{ℕ, List, subst, sym}
use Rattle.std.specs.Prelude.{All}
use Rattle.std.proofs.Math.Path.{fun_ext}
use Rattle.ubifs_base.specs.RawOf.{raw_of}
use Rattle.ubi_volume.specs.VolumeLaws.{Keeps-then, SameShape-then}
use Rattle.sound_image.specs.Breaches.{IsBrokenLeaf}
use Rattle.sound_image.specs.Image.{Image}
use Rattle.sound_image.specs.Leaves.{HasItsNode}
use Rattle.sound_image.specs.LeafBreaches.{IsWrongOfLeaves}
use Rattle.sound_image.specs.Wrong.{IsFirstWrong}
use Rattle.sound_image.specs.declared.rule.Rule.TheVariants as rules
use Rattle.image_check.specs.Told.{IsBreachOf, TellsBreach}
use Rattle.image_check.specs.declared.fault.CheckFault.{CheckFault}
use Rattle.image_tree.specs.Reads.{AreLeavesMet, IsReadOfSome, IsImageReadSoFar, ReadBefore, leaves_told}
use Rattle.image_tree.specs.declared.tree_read.TreeRead.{TreeRead}
use Rattle.image_tree.proofs.StandingNodes.{StandingLaws}
use Rattle.image_tree.proofs.WholeImage.{broken_of, met_of, whole_broken, whole_met}
use Rattle.image_tree.proofs.recovered.check_recovered.Goals as goal

pub check_read-requires : goal.check_read-requires
check_read-requires g c = subst (λ (holds : ℕ → List ℕ). All (HasItsNode holds) c.in-Ok.found.intact.items) (sym (fun_ext c.in-Ok.ensures.keeps.holds)) c.in-Ok.ensures.intact

pub returns-in-Ok-clause-met : goal.returns-in-Ok-clause-met
returns-in-Ok-clause-met g c =
    let old = g.V.Volume.state c.args.volume.now in
    let now = g.V.Volume.state c.read_tree.new.volume in
    let geo = raw_of c.args.geometry.now in
    let laws : StandingLaws = record { nodes = c.what_was_read_stands.ensures.nodes; copies = c.what_was_read_stands.ensures.copies; grammar = c.what_was_read_stands.ensures.grammar } in
    let read = c.in-Ok.found.read in
    let before : ReadBefore = record { geo = geo; props = c.args.props.now; leaves = c.args.leaves.now; references = c.args.references.now; journal = c.args.journal.now } in
    let Met : (ℕ → List ℕ) → Type 0 = λ holds. AreLeavesMet holds geo c.args.props.now read.recovered.missing.items (leaves_told read.recovered) in
    let Answer : TreeRead → Type 0 = λ made. (image : Image) → IsImageReadSoFar old.holds before image → IsReadOfSome old.holds before image made in
    met_of c.check_read.result read (Met now.holds) Answer c.check_read.ensures.same c.check_read.ensures.met
    (λ met image s. whole_met laws old.holds before image read s c.in-Ok.ensures.read (subst Met (fun_ext c.in-Ok.ensures.keeps.holds) met))

pub returns-in-Ok-clause-broken : goal.returns-in-Ok-clause-broken
returns-in-Ok-clause-broken g c =
    let old = g.V.Volume.state c.args.volume.now in
    let now = g.V.Volume.state c.read_tree.new.volume in
    let geo = raw_of c.args.geometry.now in
    let laws : StandingLaws = record { nodes = c.what_was_read_stands.ensures.nodes; copies = c.what_was_read_stands.ensures.copies; grammar = c.what_was_read_stands.ensures.grammar } in
    let read = c.in-Ok.found.read in
    let before : ReadBefore = record { geo = geo; props = c.args.props.now; leaves = c.args.leaves.now; references = c.args.references.now; journal = c.args.journal.now } in
    let Told : (ℕ → List ℕ) → CheckFault → Type 0 = λ holds fault. TellsBreach (IsBreachOf rules.Leaves (IsFirstWrong (IsWrongOfLeaves holds geo c.args.props.now read.recovered.missing.items (leaves_told read.recovered)))) fault in
    let Answer : CheckFault → Type 0 = λ fault. (image : Image) → IsImageReadSoFar old.holds before image → TellsBreach (IsBreachOf rules.Leaves (IsBrokenLeaf old.holds image)) fault in
    broken_of c.check_read.result (Told now.holds) Answer
    (λ fault told image s. whole_broken laws old.holds before image read s c.in-Ok.ensures.read fault (subst (λ (holds : ℕ → List ℕ). Told holds fault) (fun_ext c.in-Ok.ensures.keeps.holds) told))
    c.check_read.ensures.broken

pub returns-in-Ok-clause-keeps : goal.returns-in-Ok-clause-keeps
returns-in-Ok-clause-keeps g c =
    let old = g.V.Volume.state c.args.volume.now in
    let now = g.V.Volume.state c.read_tree.new.volume in
    let new = g.V.Volume.state c.check_read.new.volume in
    (Keeps-then old now new c.in-Ok.ensures.keeps c.check_read.ensures.keeps.0, SameShape-then old now new c.in-Ok.ensures.shape c.check_read.ensures.keeps.1)
