use Rattle.std.proofs.Common.{◌≡◌, ◌+◌, ◌-◌, ◌*◌, None, IfSome}
use Rattle.ubifs_base.specs.Key.{IsKey}
use Rattle.media_sys.specs.Index.{keys_follow}
use Rattle.media_sys.proofs.idx_node.keys_follow.Given as goal

abbrev pub invariant-loop-i : goal.invariant-loop-i
invariant-loop-i l = record {
  rest : keys_follow l.count None 16 l.body ≡ keys_follow (l.count - l.i) l.before (16 + 20 * l.i) l.body;
  fits : IfSome l.before IsKey;
}
