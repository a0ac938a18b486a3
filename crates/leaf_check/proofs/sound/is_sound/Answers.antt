use Rattle.std.proofs.Common.{sym, ◌∙◌}
use Rattle.ubifs_base.specs.RawOf.{raw_of}
use Rattle.sound_image.specs.ContentsLaws.{contents_bytes}
use Rattle.leaf_check.proofs.CommittedLeaves.{none_at, some_at}
use Rattle.leaf_check.proofs.SoundLeaves.{read_sound, sound_read, sound_whole, whole_of_read}
use Rattle.leaf_check.proofs.sound.is_sound.Goals as goal

pub returns-then-intact-clause-yes : goal.returns-then-intact-clause-yes
returns-then-intact-clause-yes g c = λ h. (c.requires.intact c.if-intact.true, sym c.is_unmarked-unmarked.ensures ∙ h)

pub returns-then-intact-clause-no : goal.returns-then-intact-clause-no
returns-then-intact-clause-no g c = λ off sound. let on = c.is_unmarked-unmarked.ensures ∙ sound.1 in absurd (cc (on, off))

pub is_its_node-requires-clause-node : goal.is_its_node-requires-clause-node
is_its_node-requires-clause-node g c =
    whole_of_read (g.V.Volume.state c.args.volume.now).holds c.args.leaf.now c.read_node.new.buffer c.split_at.result.0.now c.in-Some.found (some_at c.in_ok-read.read c.in-Some.found _ c.in-Some.is c.in_ok-read.ensures.some) c.split_at.ensures.front

pub returns-in_default-clause-no : goal.returns-in_default-clause-no
returns-in_default-clause-no g c = λ off sound. none_at c.in_ok-read.read _ c.in_default.is c.in_ok-read.ensures.none (sound_whole (g.V.Volume.state c.args.volume.now).holds (raw_of c.args.geometry.now) c.args.props.now c.args.leaf.now sound)

pub returns-clause-yes : goal.returns-clause-yes
returns-clause-yes g c = λ h.
    let state = g.V.Volume.state c.args.volume.now in
    let fits = contents_bytes state (g.met.V.Volume.leb_bytes c.args.volume.now) (g.met.V.Volume.none c.args.volume.now) in
    read_sound state.holds (raw_of c.args.geometry.now) c.args.props.now c.args.leaf.now c.read_node.new.buffer c.split_at.result.0.now c.in-Some.found (fits c.args.leaf.now.lnum) (some_at c.in_ok-read.read c.in-Some.found _ c.in-Some.is c.in_ok-read.ensures.some) c.split_at.ensures.front (sym c.is_unmarked-unmarked.ensures ∙ c.if-not-unmarked.false) (c.is_its_node.ensures.0 h)

pub returns-clause-no : goal.returns-clause-no
returns-clause-no g c = λ off sound.
    let state = g.V.Volume.state c.args.volume.now in
    let fits = contents_bytes state (g.met.V.Volume.leb_bytes c.args.volume.now) (g.met.V.Volume.none c.args.volume.now) in
    let on = c.is_its_node.ensures.1 (sound_read state.holds (raw_of c.args.geometry.now) c.args.props.now c.args.leaf.now c.read_node.new.buffer c.split_at.result.0.now c.in-Some.found (fits c.args.leaf.now.lnum) (some_at c.in_ok-read.read c.in-Some.found _ c.in-Some.is c.in_ok-read.ensures.some) c.split_at.ensures.front sound) in
    absurd (cc (on, off))
