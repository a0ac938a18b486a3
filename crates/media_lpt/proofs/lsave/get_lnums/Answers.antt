use Rattle.std.proofs.Common.{arith, ◌+◌, ◌*◌, ◌∷◌, [], List, ℕ, subst, sym, ◌∙◌, ap, length, length-append}
use Rattle.std.specs.List.{flat_map}
use Rattle.ubifs_base.specs.RawOf.{raw_of}
use Rattle.media_lpt.specs.Nodes.{lnum_fields}
use Rattle.media_lpt.specs.Packed.{IsAt}
use Rattle.media_lpt.specs.PackedLaws.{IsAt-none}
use Rattle.media_lpt.proofs.ItemLemmas.{at_step, next_place}
use Rattle.media_lpt.proofs.TableLemmas.{bits_len-lnum}
use Rattle.media_lpt.proofs.lsave.get_lnums.Goals as goal

pub loop-lnum-init : goal.loop-lnum-init
loop-lnum-init c =
    let P : List ℕ → Type 0 = λ lnums. IsAt c.args.bytes.now 20 (flat_map (lnum_fields (raw_of c.args.geo.now)) lnums) in
    record { at = subst P (sym c.new-lnums.ensures.items) (IsAt-none c.args.bytes.now 20); place = omega arith; count = ap length c.new-lnums.ensures.items }

pub loop-lnum-preserved : goal.loop-lnum-preserved
loop-lnum-preserved c =
    let step = c.lnum-step.result in
    let before = c.loop-lnum.invariant in
    let P : List ℕ → Type 0 = λ lnums. IsAt c.args.bytes.now 20 (flat_map (lnum_fields (raw_of c.args.geo.now)) lnums) in
    record {
      at = subst P (sym c.in_ok-push.ensures.items) (at_step (lnum_fields (raw_of c.args.geo.now)) step c.args.bytes.now 20 c.loop-lnum.at c.loop-lnum.lnums.items c.get_lnum.result
          (λ lnum. bits_len-lnum (raw_of c.args.geo.now) lnum ∙ sym c.lnum-step.ensures.number) (before.place ∙ ap (λ n. 20 + n * step) (sym before.count)) before.at c.get_lnum.ensures);
      place = next_place 20 c.loop-lnum._lnum step c.loop-lnum.at before.place;
      count = ap length c.in_ok-push.ensures.items ∙ length-append c.loop-lnum.lnums.items (c.get_lnum.result ∷ []) ∙ ap (λ n. n + 1) before.count;
    }
