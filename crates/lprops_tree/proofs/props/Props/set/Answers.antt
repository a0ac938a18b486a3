use Rattle.std.proofs.Common.{ℕ, ◌-◌, ◌<◌, length, get_or, set, sym, ap, subst, ◌∙◌, arith}
use Rattle.std.proofs.lemmas.List.{get_or_read}
use Rattle.ubifs_base.specs.RawOf.{raw_of}
use Rattle.lprops_tree.specs.declared.totals.Totals.{Totals}
use Rattle.lprops_tree.specs.Candidates.{leaf_candidate}
use Rattle.lprops_tree.specs.PropsTree.{IsPropsTree}
use Rattle.lprops_tree.specs.MainArea.{MainArea, IsMainLeb, IsWithinLeb, unknown}
use Rattle.lprops_tree.specs.Totals.{IsFew, IsPart, exchanged, leb_totals, totals_of}
use Rattle.lprops_tree.proofs.Keeping.{kept-put}
use Rattle.lprops_tree.proofs.Sums.{one_is_part, sums_are_few}
use Rattle.lprops_tree.proofs.props.Props.set.Goals as goal

pub exchange-self-inside-requires-clause-old : goal.exchange-self-inside-requires-clause-old
exchange-self-inside-requires-clause-old c =
    let area : MainArea = record { geo = raw_of c.self.inside.geo; lebs = c.self.inside.lebs.items } in
    let M : MainArea → Type 0 = λ v. IsMainLeb v.geo c.args.lnum in
    let main : IsMainLeb area.geo c.args.lnum = subst M (sym c.self.view_is) c.requires.main in
    let k : ℕ = c.args.lnum - c.main_first.result in
    let h : IsPropsTree area c.self.inside.free c.self.inside.leaves c.self.inside.totals = c.self.invariant in
    let place : k < length area.lebs = omega (arith, main.low, main.high, h.count, c.main_first.ensures) in
    let read = get_or_read area.lebs k c.index-old.result.now place c.index-old.ensures unknown in
    let T : Totals → Type 0 = λ v. IsPart c.totals_of_leb-less.result v in
    let L : Totals → Type 0 = λ v. IsPart v (totals_of area) in
    subst T (sym h.sums) (subst L (sym (c.totals_of_leb-less.ensures ∙ ap (leb_totals area.geo) read)) (one_is_part area k place))

pub exchange-self-inside-requires-clause-all : goal.exchange-self-inside-requires-clause-all
exchange-self-inside-requires-clause-all c =
    let area : MainArea = record { geo = raw_of c.self.inside.geo; lebs = c.self.inside.lebs.items } in
    let h : IsPropsTree area c.self.inside.free c.self.inside.leaves c.self.inside.totals = c.self.invariant in
    let T : Totals → Type 0 = λ v. IsFew v in
    subst T (sym h.sums) (sums_are_few area h.geometry h.count h.within)

pub invariant_of-self : goal.invariant_of-self
invariant_of-self c =
    let area : MainArea = record { geo = raw_of c.self.inside.geo; lebs = c.self.inside.lebs.items } in
    let M : MainArea → Type 0 = λ v. IsMainLeb v.geo c.args.lnum in
    let W : MainArea → Type 0 = λ v. IsWithinLeb v.geo c.args.prop in
    let main : IsMainLeb area.geo c.args.lnum = subst M (sym c.self.view_is) c.requires.main in
    let within : IsWithinLeb area.geo c.args.prop = subst W (sym c.self.view_is) c.requires.within in
    let k : ℕ = c.args.lnum - c.main_first.result in
    let h : IsPropsTree area c.self.inside.free c.self.inside.leaves c.self.inside.totals = c.self.invariant in
    let place : k < length area.lebs = omega (arith, main.low, main.high, h.count, c.main_first.ensures) in
    let read = get_or_read area.lebs k c.index-old.result.now place c.index-old.ensures unknown in
    let less : Totals = leb_totals area.geo (get_or area.lebs k unknown) in
    kept-put area c.self.inside.free c.self.inside.leaves c.self.inside.totals c.main_first.result c.args.lnum (c.args.prop, c.args.kind)
    c.put.new.self c.put-2.new.self c.exchange-self-inside.result c.main_first.ensures main within h
    (c.put.ensures ∙ ap (set c.self.inside.free k) c.free_candidate.ensures)
    (c.put-2.ensures ∙ ap (set c.self.inside.leaves k) (c.leaf_candidate.ensures ∙ ap (λ used. leaf_candidate used c.args.lnum c.args.kind) c.used_bytes-used.ensures))
    (c.exchange-self-inside.ensures ∙ (ap (λ t. exchanged c.self.inside.totals t c.totals_of_leb-more.result) (c.totals_of_leb-less.ensures ∙ ap (leb_totals area.geo) read)
    ∙ ap (exchanged c.self.inside.totals less) c.totals_of_leb-more.ensures))
