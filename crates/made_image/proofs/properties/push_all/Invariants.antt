use Rattle.std.proofs.Common.{◌≡◌, ◌++◌, take}
use Rattle.std.specs.Prelude.{map}
use Rattle.ubifs_base.specs.RawOf.{raw_of}
use Rattle.laid_main.specs.Props.{prop_behind}
use Rattle.made_image.proofs.properties.push_all.Given as goal

abbrev pub invariant-loop-bytes : goal.invariant-loop-bytes
invariant-loop-bytes l = l.props.items ≡ l.fn.props.items ++ map (λ bytes. prop_behind (raw_of l.geometry) bytes l.index) (take l.bytes-index l.used)
