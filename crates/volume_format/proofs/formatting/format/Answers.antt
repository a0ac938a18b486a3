use Rattle.std.proofs.Common.{arith}
use Rattle.ubifs_base.specs.RawOf.{raw_of}
use Rattle.ubi_volume.specs.FaultLaws.{HasAreaCause-before}
use Rattle.media_sys.specs.SystemNode.{superblock, written}
use Rattle.sound_image.specs.ContentsLaws.{contents_bytes}
use Rattle.volume_format.proofs.Formatted.{formatted, sure_then}
use Rattle.volume_format.proofs.formatting.format.Goals as goal

pub returns-clause-made : goal.returns-clause-made
returns-clause-made g c =
    let geo = raw_of c.args.geometry.now in
    let s0 = g.V.Volume.state c.args.volume.now in
    let s1 = g.V.Volume.state c.lay_main.new.volume in
    let s2 = g.V.Volume.state c.lay_areas.new.volume in
    let s3 = g.V.Volume.state c.write_superblock.new.volume in
    formatted geo c.args.geometry.now.in_range c.requires.small c.requires.three c.args.now c.args.uuid.now c.in_ok-at.at s0 s1 s2 s3 c.requires.geometry.leb_cnt c.requires.unwritten
    c.in_ok-at.ensures.laid c.in_ok-lay_areas.ensures.laid c.write_superblock.ensures.works
    (contents_bytes s3 (g.met.V.Volume.leb_bytes c.write_superblock.new.volume) (g.met.V.Volume.none c.write_superblock.new.volume))
    c.what_is_written_meets_the_rules.ensures.properties c.what_is_written_meets_the_rules.ensures.none (record { sound = c.a_laid_image_is_sound.ensures.sound; tree = c.a_laid_image_is_sound.ensures.tree })
    (written 6 0 (superblock c.new_superblock-node.result)) c.new_superblock-node.result c.write_superblock.result c.new_superblock-node.ensures c.write_superblock.ensures.done

pub returns-clause-cause : goal.returns-clause-cause
returns-clause-cause g c =
    let s0 = g.V.Volume.state c.args.volume.now in
    let s2 = g.V.Volume.state c.lay_areas.new.volume in
    let s3 = g.V.Volume.state c.write_superblock.new.volume in
    let first = c.in_ok-at.ensures.cause in
    let second = c.in_ok-lay_areas.ensures.cause in
    HasAreaCause-before s0.faults s2.faults s3.faults c.write_superblock.result (omega (arith, first, second)) c.write_superblock.ensures.cause

pub returns-clause-sure : goal.returns-clause-sure
returns-clause-sure g c =
    let s0 = g.V.Volume.state c.args.volume.now in
    let s1 = g.V.Volume.state c.lay_main.new.volume in
    let s2 = g.V.Volume.state c.lay_areas.new.volume in
    let s3 = g.V.Volume.state c.write_superblock.new.volume in
    sure_then s0 s2 s3 (sure_then s0 s1 s2 c.lay_main.ensures.sure c.lay_areas.ensures.spent c.lay_areas.ensures.sure) c.write_superblock.ensures.works.spent c.write_superblock.ensures.sure
