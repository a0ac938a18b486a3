use Rattle.std.proofs.Common.{◌≡◌, ◌+◌, ◌-◌, ◌^◌, ◌≤◌, ◌<◌, arith, sym, ap, ◌∙◌, suc}
use Rattle.std.proofs.Math.Nat.{pow-suc}
use Rattle.ubifs_base.specs.Properties.{height_from, tree_height}
use Rattle.ubifs_base.specs.PropertiesLaws.{height_from-found, height_from-next, height_from-none}
use Rattle.ubifs_base.proofs.properties.height_found.Goals as goal

pub returns-then-pnodes-room-clause-number : goal.returns-then-pnodes-room-clause-number
unfolding tree_height
returns-then-pnodes-room-clause-number c =
    let room = c.loop-try.invariant.room in
    let fits : c.args.pnodes ≤ 4 ^ c.loop-try.height = omega arith in
    sym (height_from-found (16 - c.loop-try._try) c.loop-try.height c.args.pnodes (omega arith) fits) ∙ c.loop-try.invariant.rest

pub loop-try-preserved : goal.loop-try-preserved
loop-try-preserved c =
    let height = c.loop-try.height in
    let tried = c.loop-try._try in
    let room = c.loop-try.invariant.room in
    let above : 4 ^ height < c.args.pnodes = omega arith in
    let next : 16 - (tried + 1) ≡ 16 - tried - 1 = omega arith in
    record {
      counted = omega arith;
      room = let e : height + 1 ≡ suc height = omega arith in rw (room, e) (sym (pow-suc 4 height));
      rest = ap (λ n. height_from n (height + 1) c.args.pnodes) next ∙ sym (height_from-next (16 - tried) height c.args.pnodes (omega arith) above) ∙ c.loop-try.invariant.rest;
    }

pub returns-clause-number : goal.returns-clause-number
unfolding tree_height
returns-clause-number c =
    let ended : 0 ≡ 16 - c.loop-try._try = omega arith in
    sym (height_from-none c.loop-try.height c.args.pnodes) ∙ ap (λ n. height_from n c.loop-try.height c.args.pnodes) ended ∙ c.loop-try.invariant.rest
