use Rattle.std.proofs.Common.{◌≤◌, [], ◌∷◌, length, subst, sym, arith}
use Rattle.fs_model.specs.declared.change.Change.TheVariants.{DropInode}
use Rattle.page_cache.specs.Pages.{Pages}
use Rattle.buffered_files.proofs.Following.{followed_few}
use Rattle.buffered_files.proofs.orphans.let_go.Goals as goal

fewer : (c : goal.After-dirty) → length c.cut.new.self.dirty ≤ length c.args.kept.now.pages.dirty
fewer c =
    let P : Pages → Type 0 = λ pages. length pages.dirty ≤ length c.args.kept.now.pages.dirty in
    subst P (sym c.cut.ensures.pages) (followed_few (DropInode c.args.ino ∷ []) c.args.kept.now)

pub overflow_sub-result : goal.overflow_sub-result
overflow_sub-result c = let before = c.dirty-before.ensures.count in let now = c.dirty.ensures.count in let few = fewer c in omega (arith, before, now, few)

pub returns-clause-gone : goal.returns-clause-gone
returns-clause-gone c = let before = c.dirty-before.ensures.count in let now = c.dirty.ensures.count in let few = fewer c in omega (arith, before, now, few)
