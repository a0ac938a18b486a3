use Rattle.std.proofs.Common.{◌≤◌, length, subst, sym, arith}
use Rattle.buffered_files.proofs.SizePut.{left_few}
use Rattle.buffered_files.proofs.truncations.drop_pages.Goals as goal

fewer : (c : goal.After-dirty) → length c.cut_pages.new.kept.pages.dirty ≤ length c.args.kept.now.pages.dirty
fewer c = subst (λ kept. length kept.pages.dirty ≤ length c.args.kept.now.pages.dirty) (sym c.cut_pages.ensures) (left_few c.args.kept.now.pages c.args.group.now)

pub overflow_sub-result : goal.overflow_sub-result
overflow_sub-result c = let before = c.dirty-before.ensures.count in let now = c.dirty.ensures.count in let few = fewer c in omega (arith, before, now, few)

pub returns-clause-gone : goal.returns-clause-gone
returns-clause-gone c = let before = c.dirty-before.ensures.count in let now = c.dirty.ensures.count in let few = fewer c in omega (arith, before, now, few)
