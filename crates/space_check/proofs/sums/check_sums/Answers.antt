use Rattle.std.proofs.Common.{◌≡◌, List, ℕ, ◌+◌, ◌<◌, get_or, length, ap, subst, ◌∙◌}
use Rattle.std.proofs.lemmas.List.{get_or_default}
use Rattle.ubifs_base.specs.RawOf.{raw_of}
use Rattle.space_check.specs.Sums.{AreSums, IsFirstOther}
use Rattle.space_check.proofs.LebSums.{sums_broken, sums_met}
use Rattle.space_check.proofs.sums.check_sums.Goals as goal

pub returns-in_default-first_other-clause-met : goal.returns-in_default-first_other-clause-met
returns-in_default-first_other-clause-met c = λ placed lists.
    let P : ℕ → Type 0 = λ n. AreSums n c.args.props.now c.args.leaves.now c.args.nodes.now c.in-Ok.sums.items in
    let S : List ℕ → Type 0 = λ xs. (at : ℕ) → at < length xs → get_or xs at 0 ≡ c.args.geometry.now.leb_size in
    sums_met (raw_of c.args.geometry.now) c.args.props.now placed c.args.leaves.now c.args.nodes.now c.in-Ok.sums.items lists (subst P c.main_first-first.ensures c.in-Ok.ensures) (subst S c.deref.ensures.value c.in_default-first_other.ensures.none)

pub returns-clause-broken : goal.returns-clause-broken
returns-clause-broken c = λ placed lists.
    let P : ℕ → Type 0 = λ n. AreSums n c.args.props.now c.args.leaves.now c.args.nodes.now c.in-Ok.sums.items in
    let S : List ℕ → Type 0 = λ xs. IsFirstOther c.args.geometry.now.leb_size xs c.in-Some.at in
    sums_broken (raw_of c.args.geometry.now) c.args.props.now placed c.args.leaves.now c.args.nodes.now c.in-Ok.sums.items c.in-Some.at _ _ lists (subst P c.main_first-first.ensures c.in-Ok.ensures) (subst S c.deref.ensures.value c.in-Some.ensures.some)
    (ap (λ n. n + c.in-Some.at) c.main_first-first.ensures) (c.index.ensures ∙ get_or_default c.in-Ok.sums.items c.in-Some.at c.index.result.now 0 (subst S c.deref.ensures.value c.in-Some.ensures.some).inside)
