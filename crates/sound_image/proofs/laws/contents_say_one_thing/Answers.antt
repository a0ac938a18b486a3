use Rattle.std.proofs.Common.{refl}
use Rattle.small_areas.specs.MasterLaws.{one_latest}
use Rattle.sound_image.specs.Properties.{lpt_root}
use Rattle.sound_image.proofs.BrokenLog.{reading_of}
use Rattle.sound_image.proofs.OneImage.{one_geometry, one_placed}
use Rattle.sound_image.proofs.OneLog.{one_reading}
use Rattle.sound_image.proofs.OneBreach.{laws_of, one_image}
use Rattle.sound_image.proofs.laws.contents_say_one_thing.Goals as goal

pub returns-clause-geometry : goal.returns-clause-geometry
returns-clause-geometry c = one_geometry c.one_node.ensures

pub returns-clause-master : goal.returns-clause-master
returns-clause-master c contents geo other a b fits x y = one_latest c.one_node.ensures c.one_text.ensures (contents 1) (contents 2) a b (fits 1) (fits 2) x.is_latest y.is_latest

pub returns-clause-properties : goal.returns-clause-properties
returns-clause-properties c contents geo master a b fits x y =
    let leb = contents master.lpt_lnum in
    let there = c.still_there.ensures geo contents master.lpt_lnum leb (lpt_root master) in
    c.one_list.ensures geo contents (lpt_root master) a b fits (there a refl x) (there b refl y)

pub returns-clause-index : goal.returns-clause-index
returns-clause-index c = one_placed c.one_node.ensures c.a_root_leads_to_one_index.ensures

pub returns-clause-log : goal.returns-clause-log
returns-clause-log c contents geo master a b fits x y =
    (one_reading c.one_node.ensures c.one_text.ensures contents geo master.log_lnum x.start y.start a b fits (reading_of contents geo master a x) (reading_of contents geo master b y)).1

pub returns-clause-image : goal.returns-clause-image
returns-clause-image c = one_image (laws_of c.one_node.ensures c.one_node-2.ensures c.one_node-3.ensures.nnode c.one_text.ensures c.a_root_leads_to_one_index.ensures c.one_list.ensures c.still_there.ensures)
