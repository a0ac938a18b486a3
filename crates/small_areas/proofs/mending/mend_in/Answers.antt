use Rattle.std.proofs.Common.{ℕ, ◌+◌, ◌<◌, arith, inl, inr, sym, subst, ◌∙◌}
use Rattle.std.proofs.lemmas.Grind
use native.Mathlib.Omega
use Rattle.ubi_volume.specs.FaultLaws.{HasCause-before}
use Rattle.ubifs_base.specs.NodeLaws.{IsBytes}
use Rattle.small_areas.specs.Copies.{copy_of, other_leb, IsCopied, IsMasterLeb, IsMended, IsMendWritten}
use Rattle.small_areas.proofs.BothCopies.{IsCall}
use Rattle.small_areas.proofs.CopyRuns.{on_ok, on_two}
use Rattle.small_areas.proofs.OtherCopy.{below_three, lnum_low, mended, mended_found, numbered_idle, numbered_mend, open_other, other_is, works_idle, works_mend, written_idle, written_mend}
use Rattle.small_areas.proofs.mending.mend_in.Goals as goal

pub other_of-other-requires : goal.other_of-other-requires
other_of-other-requires g c =
    let a = g.V.Volume.state c.args.volume.now in
    lnum_low (a.holds 1) (a.holds 2) c.args.latest.now c.requires.latest

pub master_in-requires-clause-lnum : goal.master_in-requires-clause-lnum
master_in-requires-clause-lnum g c =
    let a = g.V.Volume.state c.args.volume.now in
    let P : ℕ → Type 0 = λ n. n < a.leb_cnt in
    subst P (sym c.other_of-other.ensures) (below_three (other_leb c.args.latest.now.lnum) a.leb_cnt (other_is (a.holds 1) (a.holds 2) c.args.latest.now c.requires.latest) c.requires.lebs)

pub returns-in_err-found-clause-works : goal.returns-in_err-found-clause-works
returns-in_err-found-clause-works g c = works_idle (g.V.Volume.state c.args.volume.now) (g.V.Volume.state c.master_in.new.volume) c.args.room c.args.sqnum.now c.args.latest.now c.master_in.ensures.keeps

pub returns-then-says-clause-done : goal.returns-then-says-clause-done
returns-then-says-clause-done g c =
    mended_found (g.V.Volume.state c.args.volume.now) (g.V.Volume.state c.master_in.new.volume) c.args.room c.args.sqnum.now c.other_of-other.result c.args.latest.now c.in_ok-found.found c.master_in.ensures.keeps c.requires.latest
    c.other_of-other.ensures c.in_ok-found.ensures.read (c.says.ensures.0 c.if-says.true) c.requires.first c.requires.second

pub returns-then-says-clause-works : goal.returns-then-says-clause-works
returns-then-says-clause-works g c = works_idle (g.V.Volume.state c.args.volume.now) (g.V.Volume.state c.master_in.new.volume) c.args.room c.args.sqnum.now c.args.latest.now c.master_in.ensures.keeps

pub write_copy-requires-clause-lnum : goal.write_copy-requires-clause-lnum
write_copy-requires-clause-lnum g c =
    let a = g.V.Volume.state c.args.volume.now in
    let b = g.V.Volume.state c.master_in.new.volume in
    let P : ℕ → Type 0 = λ n. n < b.leb_cnt in
    let count = c.master_in.ensures.shape.leb_cnt in
    let more = c.requires.lebs in
    subst P (sym c.other_of-other.ensures) (below_three (other_leb c.args.latest.now.lnum) b.leb_cnt (other_is (a.holds 1) (a.holds 2) c.args.latest.now c.requires.latest) (omega (arith, count, more)))

pub write_copy-requires-clause-open : goal.write_copy-requires-clause-open
write_copy-requires-clause-open g c =
    let a = g.V.Volume.state c.args.volume.now in
    let is_leb = subst IsMasterLeb (sym c.other_of-other.ensures) (other_is (a.holds 1) (a.holds 2) c.args.latest.now c.requires.latest) in
    open_other a (g.V.Volume.state c.master_in.new.volume) c.other_of-other.result c.args.room c.master_in.ensures.keeps is_leb c.requires.first c.requires.second

pub returns-clause-works : goal.returns-clause-works
returns-clause-works g c =
    let a = g.V.Volume.state c.args.volume.now in
    let b = g.V.Volume.state c.master_in.new.volume in
    let e = g.V.Volume.state c.write_copy.new.volume in
    let latest = c.args.latest.now in
    let lnum = c.other_of-other.result in
    let is_leb = subst IsMasterLeb (sym c.other_of-other.ensures) (other_is (a.holds 1) (a.holds 2) latest c.requires.latest) in
    let call : IsCall b e lnum c.args.room (c.args.sqnum.now + 1) latest.master c.spell.new.node = record { spelling = c.spell.ensures.spelling; is_node = c.spell.ensures.is_node; works = c.write_copy.ensures.works } in
    works_mend c.one_text.ensures c.one_node.ensures a b e c.spell.new.node c.args.room c.args.sqnum.now lnum latest c.requires.room (g.met.V.Volume.mapped_now c.master_in.new.volume) c.master_in.ensures.keeps c.master_in.ensures.shape.leb_size c.other_of-other.ensures is_leb call

pub returns-clause-done : goal.returns-clause-done
returns-clause-done g c =
    let a = g.V.Volume.state c.args.volume.now in
    let b = g.V.Volume.state c.master_in.new.volume in
    let e = g.V.Volume.state c.write_copy.new.volume in
    let latest = c.args.latest.now in
    let lnum = c.other_of-other.result in
    let call : IsCall b e lnum c.args.room (c.args.sqnum.now + 1) latest.master c.spell.new.node = record { spelling = c.spell.ensures.spelling; is_node = c.spell.ensures.is_node; works = c.write_copy.ensures.works } in
    on_two c.write_copy.result (IsCopied b e lnum c.args.room (copy_of c.args.room c.spell.new.node)) (IsBytes (e.holds lnum)) (IsMended e c.args.room c.args.sqnum.now latest)
    (λ done bytes. mended c.one_text.ensures c.one_node.ensures a b e c.spell.new.node c.args.room c.args.sqnum.now lnum latest c.requires.room c.master_in.ensures.keeps c.requires.latest c.other_of-other.ensures c.requires.first c.requires.second call done bytes)
    c.write_copy.ensures.done c.write_copy.ensures.bytes

pub returns-in_err-found-clause-raised : goal.returns-in_err-found-clause-raised
returns-in_err-found-clause-raised g c = numbered_idle (g.V.Volume.state c.args.volume.now) (g.V.Volume.state c.master_in.new.volume) c.args.sqnum.now c.args.latest.now c.master_in.ensures.keeps

pub returns-then-says-clause-raised : goal.returns-then-says-clause-raised
returns-then-says-clause-raised g c = numbered_idle (g.V.Volume.state c.args.volume.now) (g.V.Volume.state c.master_in.new.volume) c.args.sqnum.now c.args.latest.now c.master_in.ensures.keeps

pub returns-clause-raised : goal.returns-clause-raised
returns-clause-raised g c =
    let a = g.V.Volume.state c.args.volume.now in
    let lnum = c.other_of-other.result in
    let latest = c.args.latest.now in
    let P : ℕ → Type 0 = λ n. n < a.leb_cnt in
    let below = subst P (sym c.other_of-other.ensures) (below_three (other_leb latest.lnum) a.leb_cnt (other_is (a.holds 1) (a.holds 2) latest c.requires.latest) c.requires.lebs) in
    numbered_mend c.one_node.ensures c.one_text.ensures a (g.V.Volume.state c.write_copy.new.volume) c.args.sqnum.now lnum latest c.in_ok-found.found c.other_of-other.ensures (g.met.V.Volume.leb_bytes c.args.volume.now lnum below) c.in_ok-found.ensures.read
    (λ same. let yes = c.says.ensures.1 same in let no = c.if-says.false in absurd cc)

pub returns-then-says-clause-written : goal.returns-then-says-clause-written
returns-then-says-clause-written g c =
    written_idle (g.V.Volume.state c.args.volume.now) (g.V.Volume.state c.master_in.new.volume) c.args.room c.args.sqnum.now c.other_of-other.result c.args.latest.now c.in_ok-found.found c.master_in.ensures.keeps
    c.other_of-other.ensures c.in_ok-found.ensures.read (c.says.ensures.0 c.if-says.true)

pub returns-clause-written : goal.returns-clause-written
returns-clause-written g c =
    let a = g.V.Volume.state c.args.volume.now in
    let b = g.V.Volume.state c.master_in.new.volume in
    let e = g.V.Volume.state c.write_copy.new.volume in
    let latest = c.args.latest.now in
    let lnum = c.other_of-other.result in
    let call : IsCall b e lnum c.args.room (c.args.sqnum.now + 1) latest.master c.spell.new.node = record { spelling = c.spell.ensures.spelling; is_node = c.spell.ensures.is_node; works = c.write_copy.ensures.works } in
    on_ok c.write_copy.result (IsCopied b e lnum c.args.room (copy_of c.args.room c.spell.new.node)) (IsMendWritten a e c.args.room c.args.sqnum.now latest)
    (λ done. written_mend a b e c.spell.new.node c.args.room c.args.sqnum.now lnum latest c.master_in.ensures.keeps c.master_in.ensures.shape.leb_size c.requires.latest c.other_of-other.ensures call done) c.write_copy.ensures.done

pub returns-in_err-found-clause-done : goal.returns-in_err-found-clause-done
returns-in_err-found-clause-done g c = grind (Omega.arith, Grind.common_steps) steps 2000000

pub returns-in_err-found-clause-written : goal.returns-in_err-found-clause-written
returns-in_err-found-clause-written g c = grind (Omega.arith, Grind.common_steps) steps 2000000

pub returns-in_err-found-clause-cause : goal.returns-in_err-found-clause-cause
returns-in_err-found-clause-cause g c = grind (Omega.arith, Grind.common_steps) steps 2000000

pub returns-in_err-found-clause-sure : goal.returns-in_err-found-clause-sure
returns-in_err-found-clause-sure g c = grind (Omega.arith, Grind.common_steps) steps 2000000

pub returns-clause-cause : goal.returns-clause-cause
returns-clause-cause g c = HasCause-before _ _ _ _ c.in_ok-found.ensures.cause c.write_copy.ensures.cause

pub returns-clause-sure : goal.returns-clause-sure
returns-clause-sure g c s = elim (c.master_in.ensures.sure s) [
  | inl gone ↦ inl (c.write_copy.ensures.works.spent gone)
  | inr still ↦ elim (c.write_copy.ensures.sure still.0) [ inl gone ↦ inl gone | inr fine ↦ inr (fine.0, (fine.1.0 ∙ still.1.0, fine.1.1)) ]
]
