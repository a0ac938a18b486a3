use Rattle.std.proofs.Common.{◌+◌, sym, ◌∙◌, arith}
use Rattle.ubifs_base.specs.RawOf.{raw_of}
use Rattle.ubi_volume.specs.FaultLaws.{HasAreaCause-before}
use Rattle.media_sys.specs.SystemNode.{superblock, written}
use Rattle.sound_image.specs.ContentsLaws.{contents_bytes}
use Rattle.made_image.proofs.Chained.{finished, main_so_far, main_stays, masters_blank, sure_then}
use Rattle.made_image.proofs.finishing.finish_image.Goals as goal

pub returns-clause-made : goal.returns-clause-made
returns-clause-made g c =
    let geo = raw_of c.args.geometry.now in
    let s0 = g.V.Volume.state c.args.volume.now in
    let s1 = g.V.Volume.state c.lay_properties.new.volume in
    let s2 = g.V.Volume.state c.lay_areas.new.volume in
    let s3 = g.V.Volume.state c.write_superblock.new.volume in
    let size = c.write_superblock.ensures.shape.leb_size ∙ c.lay_areas.ensures.shape.leb_size ∙ c.lay_properties.ensures.shape.leb_size in
    let count = c.write_superblock.ensures.shape.leb_cnt ∙ c.lay_areas.ensures.shape.leb_cnt ∙ c.lay_properties.ensures.shape.leb_cnt in
    let most = c.requires.geometry.leb_cnt in
    finished geo c.args.geometry.now.in_range s0 s1 s2 s3 c.lay_properties.ensures.others c.lay_areas.ensures.others c.write_superblock.ensures.works
    c.requires.small c.args.main.now c.requires.filled c.args.sqnum c.requires.number c.args.uuid.now c.requires.blank
    c.in_ok-master.master c.in_ok-master.ensures.laid c.in_ok-lay_areas.ensures.laid
    (contents_bytes s3 (g.met.V.Volume.leb_bytes c.write_superblock.new.volume) (g.met.V.Volume.none c.write_superblock.new.volume))
    (λ lnum low. g.met.V.Volume.leb_len c.write_superblock.new.volume lnum (omega (arith, low, count, most)) ∙ size ∙ sym c.requires.geometry.leb_size)
    c.what_is_written_meets_the_rules.ensures.none c.what_is_written_meets_the_rules.ensures.properties
    (record {
      sums = c.laid_lebs_have_their_properties.ensures.sums;
      ends = c.laid_lebs_have_their_properties.ensures.ends;
      leaves = c.laid_lebs_have_their_properties.ensures.leaves;
      index = c.laid_lebs_have_their_properties.ensures.index;
    })
    c.an_index_depends_on_its_lebs_alone.ensures
    (written (c.args.sqnum + 4) 0 (superblock c.new_superblock-node.result)) c.new_superblock-node.result c.write_superblock.result c.new_superblock-node.ensures c.write_superblock.ensures.done

pub returns-clause-main : goal.returns-clause-main
returns-clause-main g c lnum low =
    main_stays (raw_of c.args.geometry.now) c.args.geometry.now.in_range (g.V.Volume.state c.args.volume.now) (g.V.Volume.state c.lay_properties.new.volume) (g.V.Volume.state c.lay_areas.new.volume)
    (g.V.Volume.state c.write_superblock.new.volume) c.lay_properties.ensures.others c.lay_areas.ensures.others c.write_superblock.ensures.works lnum low

pub returns-clause-cause : goal.returns-clause-cause
returns-clause-cause g c =
    let s0 = g.V.Volume.state c.args.volume.now in
    let s2 = g.V.Volume.state c.lay_areas.new.volume in
    let s3 = g.V.Volume.state c.write_superblock.new.volume in
    let first = c.in_ok-master.ensures.cause in
    let second = c.in_ok-lay_areas.ensures.cause in
    HasAreaCause-before s0.faults s2.faults s3.faults c.write_superblock.result (omega (arith, first, second)) c.write_superblock.ensures.cause

pub returns-clause-sure : goal.returns-clause-sure
returns-clause-sure g c =
    let s0 = g.V.Volume.state c.args.volume.now in
    let s1 = g.V.Volume.state c.lay_properties.new.volume in
    let s2 = g.V.Volume.state c.lay_areas.new.volume in
    let s3 = g.V.Volume.state c.write_superblock.new.volume in
    sure_then s0 s2 s3 (sure_then s0 s1 s2 c.lay_properties.ensures.sure c.lay_areas.ensures.spent c.lay_areas.ensures.sure) c.write_superblock.ensures.works.spent c.write_superblock.ensures.sure

pub lay_areas-requires-clause-blank : goal.lay_areas-requires-clause-blank
lay_areas-requires-clause-blank g c =
    masters_blank (raw_of c.args.geometry.now) c.args.geometry.now.in_range (g.V.Volume.state c.args.volume.now) (g.V.Volume.state c.lay_properties.new.volume) c.lay_properties.ensures.shape.leb_size
    c.lay_properties.ensures.others c.requires.blank c.requires.open_there

pub returns-in_err-lay_areas-clause-main : goal.returns-in_err-lay_areas-clause-main
returns-in_err-lay_areas-clause-main g c lnum low =
    main_so_far (raw_of c.args.geometry.now) c.args.geometry.now.in_range (g.V.Volume.state c.args.volume.now) (g.V.Volume.state c.lay_properties.new.volume) (g.V.Volume.state c.lay_areas.new.volume)
    c.lay_properties.ensures.others c.lay_areas.ensures.others lnum low
