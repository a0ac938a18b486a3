use Rattle.std.proofs.Common.{◌≡◌, ℕ, ◌<◌, inr, refl, ap, sym, ◌∙◌, subst, arith}
use Rattle.ubifs_base.specs.RawOf.{raw_of}
use Rattle.ubi_volume.specs.FrameLaws.{IsSameLeb-keeps}
use Rattle.bud_log.specs.AfterCut.{OpensReady, log_opened_at}
use Rattle.bud_log.specs.Buds.{named_also}
use Rattle.bud_log.specs.Log.{IsLogLeb, log_of}
use Rattle.bud_log.specs.HeldLaws.{IsSection-moved, IsSection-same}
use Rattle.bud_log.specs.LogAnswers.{IsSection}
use Rattle.bud_log.specs.LogAt.{LogAt, IsAt}
use Rattle.bud_log.specs.Writing.{IsLogReady}
use Rattle.bud_log.proofs.Reopened.{reopened, opened_is}
use Rattle.bud_log.proofs.client.open_unmounted.Goals as goal

pub open_bud-requires-clause-at : goal.open_bud-requires-clause-at
open_bud-requires-clause-at g c =
    let a = g.V.Volume.state c.args.volume.now in
    let b = g.V.Volume.state c.read_log.new.volume in
    let at = c.args.log.now in
    let geo = raw_of c.args.geometry.now in
    let read = c.in-Ok.read in
    let s = c.requires.stands in
    let lebs = c.requires.at.lebs in
    let inside : (k : ℕ) → IsLogLeb at.geo k → k < a.leb_cnt = λ k is. (let high = is.high in omega (arith, high, lebs)) in
    let O : ℕ → Type 0 = λ n. OpensReady a b geo n read in
    let now : c.at-again.result ≡ log_opened_at geo at.section (log_of read).ends = c.at-again.ensures ∙ opened_is geo c.section-from.result at.section c.place_behind-offs.result (log_of read).ends c.section-from.ensures c.place_behind-offs.ensures in
    let opened = reopened c.one_text.ensures a b at geo s.0 s.1 s.2 read c.requires.geo s.3 c.requires.at s.4 (λ k is. g.met.V.Volume.leb_bytes c.args.volume.now k (inside k is))
    (λ k is. g.met.V.Volume.mapped_now c.args.volume.now k (a.holds k) (g.met.V.Volume.holds_now c.args.volume.now k)) (subst O c.section-from.ensures c.in-Ok.ensures.ready) in
    let P : LogAt → Type 0 = λ z. IsAt b z in
    subst P (sym now) opened.0

pub returns-clause-ready : goal.returns-clause-ready
returns-clause-ready g c = λ number buds h.
    let a = g.V.Volume.state c.args.volume.now in
    let b = g.V.Volume.state c.read_log.new.volume in
    let at = c.args.log.now in
    let geo = raw_of c.args.geometry.now in
    let read = c.in-Ok.read in
    let s = c.requires.stands in
    let lebs = c.requires.at.lebs in
    let inside : (k : ℕ) → IsLogLeb at.geo k → k < a.leb_cnt = λ k is. (let high = is.high in omega (arith, high, lebs)) in
    let O : ℕ → Type 0 = λ n. OpensReady a b geo n read in
    let now : c.at-again.result ≡ log_opened_at geo at.section (log_of read).ends = c.at-again.ensures ∙ opened_is geo c.section-from.result at.section c.place_behind-offs.result (log_of read).ends c.section-from.ensures c.place_behind-offs.ensures in
    let again = c.at-again.result in
    let e = g.V.Volume.state c.open_bud.new.volume in
    let after = c.open_bud.new.self in
    let opened = reopened c.one_text.ensures a b at geo number s.1 buds read c.requires.geo h c.requires.at s.4 (λ k is. g.met.V.Volume.leb_bytes c.args.volume.now k (inside k is))
    (λ k is. g.met.V.Volume.mapped_now c.args.volume.now k (a.holds k) (g.met.V.Volume.holds_now c.args.volume.now k)) (subst O c.section-from.ensures c.in-Ok.ensures.ready) in
    let P : LogAt → Type 0 = λ z. IsLogReady b z.geo z.section z.lnum z.offs read.sqnum buds in
    let done = c.in-Ok-open_bud.ensures.done again.section buds (inr refl) (subst P (sym now) opened.1) in
    let R : ℕ → Type 0 = λ n. IsLogReady e after.geo n after.lnum after.offs c.open_bud.new.sqnum (named_also buds (record { lnum = c.args.lnum; offs = 0; head = c.args.head })) in
    subst R (sym (ap (λ (z : LogAt). z.section) c.in-Ok-open_bud.ensures.opened.moved)) done

pub returns-clause-stands : goal.returns-clause-stands
returns-clause-stands g c = λ number low buds h section.
    let a = g.V.Volume.state c.args.volume.now in
    let b = g.V.Volume.state c.read_log.new.volume in
    let at = c.args.log.now in
    let geo = raw_of c.args.geometry.now in
    let read = c.in-Ok.read in
    let s = c.requires.stands in
    let lebs = c.requires.at.lebs in
    let inside : (k : ℕ) → IsLogLeb at.geo k → k < a.leb_cnt = λ k is. (let high = is.high in omega (arith, high, lebs)) in
    let O : ℕ → Type 0 = λ n. OpensReady a b geo n read in
    let now : c.at-again.result ≡ log_opened_at geo at.section (log_of read).ends = c.at-again.ensures ∙ opened_is geo c.section-from.result at.section c.place_behind-offs.result (log_of read).ends c.section-from.ensures c.place_behind-offs.ensures in
    let again = c.at-again.result in
    let opened = reopened c.one_text.ensures a b at geo number low buds read c.requires.geo h c.requires.at section (λ k is. g.met.V.Volume.leb_bytes c.args.volume.now k (inside k is))
    (λ k is. g.met.V.Volume.mapped_now c.args.volume.now k (a.holds k) (g.met.V.Volume.holds_now c.args.volume.now k)) (subst O c.section-from.ensures c.in-Ok.ensures.ready) in
    let P : LogAt → Type 0 = λ z. IsLogReady b z.geo z.section z.lnum z.offs read.sqnum buds in
    let S : LogAt → Type 0 = λ z. IsSection b z low in
    let there : LogAt = log_opened_at geo at.section (log_of read).ends in
    let still : IsSection b at low = IsSection-same a b at low c.requires.at.section c.requires.at.here (λ k is. IsSameLeb-keeps a b k c.read_log.ensures.keeps) section in
    let placed : IsSection b there low = IsSection-moved b at there low (sym c.requires.geo) refl opened.2 still in
    c.in-Ok-open_bud.ensures.opened.section read.sqnum low buds (subst P (sym now) opened.1) (subst S (sym now) placed)
