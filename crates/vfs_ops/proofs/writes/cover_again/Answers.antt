use Rattle.std.proofs.Common.{◌≡◌, ℕ, ◌*◌, ap, arith, length, refl, rules, subst, sym}
use Rattle.fs_model.specs.Backing.{BackingState, Goes, granted}
use Rattle.buffered_files.specs.CallLaws.{Goes-granted, Goes-none}
use Rattle.vfs_ops.specs.Writing.{HasGroupRoom, write_need}
use Rattle.buffered_files.specs.Cuts.{PutsSeen}
use Rattle.vfs_ops.proofs.Cutting.{cut_granted}
use Rattle.vfs_ops.proofs.Buffering.{modest_need, more_new, no_room, whole_need}
use Rattle.buffered_files.specs.Calls.{GrowsBy}
use Rattle.vfs_ops.proofs.Weighing.{fault_told, weigh_granted}
use Rattle.vfs_ops.proofs.writes.cover_again.Goals as goal

pub admit-requires-clause-modest : goal.admit-requires-clause-modest
admit-requires-clause-modest g c =
    modest_need c.make_room.new.kept.pages.dirty c.args.ino c.args.offs c.args.len c.args.grant c.newly.result c.saturating_sub-all.result c.credits_need.result c.requires.few c.newly.ensures c.saturating_sub-all.ensures c.credits_need.ensures

pub returns-in-Ok-admit-clause-goes : goal.returns-in-Ok-admit-clause-goes
returns-in-Ok-admit-clause-goes g c =
    Goes-granted (2 * length c.args.kept.now.pages.dirty) (g.B.Backing.state c.args.backing.now) (g.B.Backing.state c.make_room.new.backing) (g.B.Backing.state c.admit.new.self) c.credits_need.result c.make_room.ensures.goes c.in-Ok-admit.ensures.ok

pub returns-in-Err-admit-clause-refused : goal.returns-in-Err-admit-clause-refused
returns-in-Err-admit-clause-refused g c =
    no_room (g.B.Backing.state c.make_room.new.backing) (g.B.Backing.state c.admit.new.self) c.make_room.new.kept c.args.ino c.args.offs c.args.len c.args.grant c.newly.result c.saturating_sub-all.result c.credits_need.result c.in-Err-admit.space
    c.in-Err-admit.ensures.err c.credits_need.ensures c.saturating_sub-all.ensures c.newly.ensures c.in-Ok.ensures.pages c.in-Ok.ensures.done c.in-Err-admit.ensures.told (λ le. let never = c.in-Err-admit.ensures.covered.1 le in absurd cc)

pub returns-in-Ok-admit-clause-admitted : goal.returns-in-Ok-admit-clause-admitted
returns-in-Ok-admit-clause-admitted g c =
    let made = g.B.Backing.state c.make_room.new.backing in
    let whole = whole_need c.make_room.new.kept c.args.ino c.args.offs c.args.len c.args.grant c.newly.result c.saturating_sub-all.result c.credits_need.result c.credits_need.ensures c.saturating_sub-all.ensures c.newly.ensures c.in-Ok.ensures.pages in
    let same = subst (λ need. g.B.Backing.state c.admit.new.self ≡ granted made need) whole c.in-Ok-admit.ensures.ok in
    record {
      state = made;
      room = c.in-Ok.ensures.room;
      covered = subst (λ need. HasGroupRoom made need) whole (c.in-Ok-admit.ensures.covered.0 refl);
      since = subst (λ (s : BackingState). Goes 0 (granted made (write_need c.args.offs c.args.len c.args.grant)) s) (sym same) (Goes-none (granted made (write_need c.args.offs c.args.len c.args.grant)));
    }

pub returns-in-Ok-admit-clause-exact : goal.returns-in-Ok-admit-clause-exact
returns-in-Ok-admit-clause-exact g c =
    let more = more_new c.args.kept.now.pages.dirty c.make_room.new.kept.pages.dirty c.args.ino c.args.offs c.args.len c.in-Ok.ensures.pages in
    let counted = c.newly.ensures in
    let all = c.saturating_sub-all.ensures in
    let lacking = c.requires.lacking in
    omega (arith, more, counted, all, lacking)

pub returns-in-Ok-admit-clause-grows : goal.returns-in-Ok-admit-clause-grows
returns-in-Ok-admit-clause-grows g c = weigh_granted 0 (g.B.Backing.state c.args.backing.now) (g.B.Backing.state c.make_room.new.backing) (g.B.Backing.state c.admit.new.self) c.credits_need.result c.args.kept.now c.make_room.new.kept c.in-Ok.ensures.grows c.in-Ok-admit.ensures.ok

pub returns-in-Err-admit-clause-grows : goal.returns-in-Err-admit-clause-grows
returns-in-Err-admit-clause-grows g c = subst (λ (s : BackingState). GrowsBy 0 (g.B.Backing.state c.args.backing.now) s c.args.kept.now c.make_room.new.kept) (sym c.in-Err-admit.ensures.err) c.in-Ok.ensures.grows

pub returns-in-Err-clause-grows : goal.returns-in-Err-clause-grows
returns-in-Err-clause-grows g c =
    let f = fault_told (Unit {0}) ℕ 0 2 c.in-Err.fault (g.B.Backing.state c.args.backing.now) (g.B.Backing.state c.make_room.new.backing) c.args.kept.now c.make_room.new.kept c.in-Err.ensures.grows in
    search (rules, f)

pub returns-in-Ok-admit-clause-closed : goal.returns-in-Ok-admit-clause-closed
returns-in-Ok-admit-clause-closed g c = let same = ap (λ (s : BackingState). s.closed) c.in-Ok-admit.ensures.ok in let few = c.make_room.ensures.closed in omega (arith, same, few)

pub returns-in-Err-admit-clause-closed : goal.returns-in-Err-admit-clause-closed
returns-in-Err-admit-clause-closed g c = let same = ap (λ (s : BackingState). s.closed) c.in-Err-admit.ensures.err in let few = c.make_room.ensures.closed in omega (arith, same, few)

pub returns-in-Ok-admit-clause-cut : goal.returns-in-Ok-admit-clause-cut
returns-in-Ok-admit-clause-cut g c = cut_granted (g.B.Backing.state c.args.backing.now) (g.B.Backing.state c.make_room.new.backing) (g.B.Backing.state c.admit.new.self) c.args.kept.now c.credits_need.result c.make_room.ensures.cut c.in-Ok-admit.ensures.ok

pub returns-in-Err-admit-clause-cut : goal.returns-in-Err-admit-clause-cut
returns-in-Err-admit-clause-cut g c = subst (λ (s : BackingState). PutsSeen (g.B.Backing.state c.args.backing.now) s c.args.kept.now) (sym c.in-Err-admit.ensures.err) c.make_room.ensures.cut
