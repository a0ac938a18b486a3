use Rattle.ubifs_base.specs.RawOf.{raw_of}
use Rattle.whole_image.proofs.Refusals.{all_out_of_lebs, few_bytes, lebs_left}
use Rattle.whole_image.proofs.making.make_image.Goals as goal

pub lay_image-requires-clause-few : goal.lay_image-requires-clause-few
lay_image-requires-clause-few c = few_bytes (raw_of c.args.geometry.now) c.args.tree.now c.args.geometry.now.in_range c.in_ok-test_tree.ensures.ok.fits

pub lay_image-requires-clause-room : goal.lay_image-requires-clause-room
lay_image-requires-clause-room c =
    let geo = raw_of c.args.geometry.now in
    let ranges = c.args.geometry.now.in_range in
    let fits = c.in_ok-test_tree.ensures.ok.fits in
    lebs_left geo c.args.tree.now ranges c.requires.proper fits (c.leaves_of_a_tree_are_few.ensures.lebs geo c.args.tree.now ranges c.requires.proper (few_bytes geo c.args.tree.now ranges fits))

pub returns-clause-refused : goal.returns-clause-refused
returns-clause-refused c = all_out_of_lebs (raw_of c.args.geometry.now) c.args.tree.now c.lay_image.result c.lay_image.ensures.refused
