use Rattle.std.proofs.Common.{ℕ, arith}
use Rattle.journal_heads.proofs.Syncing.{stands_then, sure_then, syncing_all, syncing_more, syncing_none, works_then}
use Rattle.journal_heads.proofs.heads.Heads.sync_all.Goals as goal

pub returns-in_err-sync_if_attached-clause-works : goal.returns-in_err-sync_if_attached-clause-works
returns-in_err-sync_if_attached-clause-works g c =
    works_then (g.V.Volume.state c.args.volume.now) (g.V.Volume.state c.loop-head.volume) (g.V.Volume.state c.sync_if_attached.new.volume) c.args.self.now c.loop-head.self c.loop-head.head c.loop-head.invariant
    c.sync_if_attached.ensures.works

pub loop-head-init : goal.loop-head-init
loop-head-init g c = syncing_none (g.V.Volume.state c.args.volume.now) c.args.self.now c.requires

pub loop-head-preserved : goal.loop-head-preserved
loop-head-preserved g c =
    let a = g.V.Volume.state c.args.volume.now in
    let b = g.V.Volume.state c.loop-head.volume in
    let e = g.V.Volume.state c.sync_if_attached.new.volume in
    let n = c.loop-head.head in
    let now = λ (k : ℕ). g.met.V.Volume.mapped_now c.sync_if_attached.new.volume k (e.holds k) (g.met.V.Volume.holds_now c.sync_if_attached.new.volume k) in
    let so = c.loop-head.invariant in
    let works = c.sync_if_attached.ensures.works in
    let count = so.count in
    let more = c.in_ok-sync_if_attached.ensures.cause in
    syncing_more a b e c.args.self.now c.loop-head.self c.sync_if_attached.new.self n so works now c.sync_if_attached.ensures.adds c.in_ok-sync_if_attached.ensures.done (omega (arith, count, more))
    (sure_then a b e c.sync_if_attached.result works.spent so.sure c.sync_if_attached.ensures.sure)

pub returns-clause-done : goal.returns-clause-done
returns-clause-done g c =
    let past = c.loop-head-test.false in
    syncing_all (g.V.Volume.state c.args.volume.now) (g.V.Volume.state c.loop-head.volume) c.args.self.now c.loop-head.self c.loop-head.head (omega (arith, past)) c.loop-head.invariant

pub returns-in_err-sync_if_attached-clause-stands : goal.returns-in_err-sync_if_attached-clause-stands
returns-in_err-sync_if_attached-clause-stands g c =
    stands_then (g.V.Volume.state c.args.volume.now) (g.V.Volume.state c.loop-head.volume) (g.V.Volume.state c.sync_if_attached.new.volume) c.args.self.now c.loop-head.self c.sync_if_attached.new.self c.loop-head.head
    c.loop-head.invariant c.sync_if_attached.ensures.works c.sync_if_attached.ensures.adds
