use Rattle.std.proofs.Common.{sym, ap, ◌∙◌}
use Rattle.std.specs.BTreeMap.{is_at}
use Rattle.std.specs.Ordering.{nat_cmp}
use Rattle.buffered_files.proofs.Throughs.{set_missing}
use Rattle.buffered_files.proofs.dirty_inodes.set.Goals as goal

pub returns-in_default : goal.returns-in_default
returns-in_default c = ap (λ m. m.entries) c.get_mut.follows.holds-at-none ∙ sym (set_missing (is_at (nat_cmp c.args.ino)) c.args.map.now.entries c.args.inode (sym c.in_default.ensures.value))
