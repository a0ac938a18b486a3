use Rattle.std.proofs.Common.{◌+◌, ℕ, ap, ◌∙◌, subst, arith, take, ◌++◌, ◌-◌, replicate}
use Rattle.std.proofs.lemmas.Grind
use native.Mathlib.Omega
use Rattle.lpt_area.specs.Written.{in_units}
use Rattle.ubifs_base.specs.Properties.{pnode_count, tree_height}
use Rattle.ubifs_base.specs.RawOf.{raw_of}
use Rattle.lpt_area.specs.Laid.{AreLevelsLaid}
use Rattle.lpt_area.proofs.TreeLeb.{tree_leb}
use Rattle.lpt_area.proofs.writing.lay_tree.Goals as goal

pub returns-clause-laid : goal.returns-clause-laid
returns-clause-laid c =
    let geo = raw_of c.args.geo.now in
    let root = c.lay_levels-root in
    let E : ℕ → ℕ → Type 0 = λ n l. AreLevelsLaid geo c.args.lnum c.lay_pnodes-pnodes.new.out root.new.out root.result.offs l n (tree_height (pnode_count geo)) in
    let F : ℕ → Type 0 = λ n. E n root.result.len in
    let levels = subst (E 1) root.ensures.len (subst F root.ensures.count root.ensures.laid) in
    let len = c.ltab_len.ensures in
    let at = root.result.offs + root.result.len in
    let end = c.in_units-end.result in
    let more = c.in_units-end.ensures.more in
    let size = c.in_ok-lay_ltab.ensures.size in
    let second = root.ensures.size in
    let first = c.lay_pnodes-pnodes.ensures.size in
    let start = c.requires.room in
    tree_leb geo c.args.lnum c.args.props.now c.lay_pnodes-pnodes.new.out root.new.out c.lay_ltab.new.out _ root.result.offs at end c.args.geo.now.in_range c.requires.props c.requires.low c.requires.high
    c.lay_pnodes-pnodes.ensures.laid levels (ap (λ (n : ℕ). root.result.offs + n) root.ensures.len) c.in_ok-lay_ltab.ensures.laid (omega (arith, size, second, first, start))
    (c.pad.ensures.front ∙ ap (λ (n : ℕ). take (at + n) c.lay_ltab.new.out ++ replicate (end - (at + n)) 255) len) (c.in_units-end.ensures.number ∙ ap (λ (n : ℕ). in_units geo.min_io (at + n)) len)
    (omega (arith, more, len)) c.in_units-end.ensures.fits

pub lay_pnodes-pnodes-requires-clause-room : goal.lay_pnodes-pnodes-requires-clause-room
lay_pnodes-pnodes-requires-clause-room c = grind (Omega.arith, Grind.common_steps) steps 2000000

pub lay_levels-root-requires-clause-offs : goal.lay_levels-root-requires-clause-offs
lay_levels-root-requires-clause-offs c = grind (Omega.arith, Grind.common_steps) steps 2000000

pub lay_levels-root-requires-clause-len : goal.lay_levels-root-requires-clause-len
lay_levels-root-requires-clause-len c = grind (Omega.arith, Grind.common_steps) steps 2000000

pub lay_levels-root-requires-clause-room : goal.lay_levels-root-requires-clause-room
lay_levels-root-requires-clause-room c = grind (Omega.arith, Grind.common_steps) steps 2000000

pub overflow_add-ltab_offs : goal.overflow_add-ltab_offs
overflow_add-ltab_offs c = grind (Omega.arith, Grind.common_steps) steps 2000000

pub overflow_add-used : goal.overflow_add-used
overflow_add-used c = grind (Omega.arith, Grind.common_steps) steps 2000000

pub in_units-end-requires : goal.in_units-end-requires
in_units-end-requires c = grind (Omega.arith, Grind.common_steps) steps 2000000

pub lay_ltab-requires-clause-end : goal.lay_ltab-requires-clause-end
lay_ltab-requires-clause-end c = grind (Omega.arith, Grind.common_steps) steps 2000000

pub lay_ltab-requires-clause-fits : goal.lay_ltab-requires-clause-fits
lay_ltab-requires-clause-fits c = grind (Omega.arith, Grind.common_steps) steps 2000000

pub lay_ltab-requires-clause-place : goal.lay_ltab-requires-clause-place
lay_ltab-requires-clause-place c = grind (Omega.arith, Grind.common_steps) steps 2000000

pub lay_ltab-requires-clause-room : goal.lay_ltab-requires-clause-room
lay_ltab-requires-clause-room c = grind (Omega.arith, Grind.common_steps) steps 2000000

pub pad-requires-clause-order : goal.pad-requires-clause-order
pad-requires-clause-order c = grind (Omega.arith, Grind.common_steps) steps 2000000

pub pad-requires-clause-room : goal.pad-requires-clause-room
pad-requires-clause-room c = grind (Omega.arith, Grind.common_steps) steps 2000000

pub returns-clause-some : goal.returns-clause-some
returns-clause-some c = grind (Omega.arith, Grind.common_steps) steps 2000000

pub returns-clause-size : goal.returns-clause-size
returns-clause-size c = grind (Omega.arith, Grind.common_steps) steps 2000000
