use Rattle.std.proofs.Common.{◌≡◌, length, take, ◌+◌}
use Rattle.ubifs_base.specs.Areas.{main_first}
use Rattle.ubifs_base.specs.RawOf.{raw_of}
use Rattle.lprops_tree.proofs.props.Props.from_list.Given as goal

abbrev pub invariant-loop-leb : goal.invariant-loop-leb
invariant-loop-leb l = record {
  geo : l.props.geo ≡ raw_of l.geo;
  all : length l.props.lebs ≡ length l.list;
  number : l.lnum ≡ main_first (raw_of l.geo) + l.leb-index;
  done : take l.leb-index l.props.lebs ≡ take l.leb-index l.list;
}
