use Rattle.ubifs_base.specs.RawOf.{raw_of}
use Rattle.tree_lines.proofs.Contents.{shape_at}
use Rattle.tree_lines.proofs.read.Goals as goal

pub read_tree_of-requires : goal.read_tree_of-requires
read_tree_of-requires g c k = (search, shape_at c.contents_say_one_thing.ensures.geometry c.args.image.now (raw_of c.in_ok-opened.opened.geometry) c.in_ok-opened.opened.volume c.in_ok-opened.ensures.opened.volume c.in_ok-opened.ensures.opened.loaded)
