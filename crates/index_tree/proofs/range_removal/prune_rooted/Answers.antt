use Rattle.std.proofs.Common.{ap, sym, ◌∙◌}
use Rattle.index_tree.specs.Removal.{collapsed}
use Rattle.index_tree.proofs.RangeLaws.{without_range-is, without_range-laws, without_range-ordered}
use Rattle.index_tree.proofs.KeyedLaws.{without_range-keyed}
use Rattle.index_tree.proofs.LevelLaws.{without_range-levelled}
use Rattle.index_tree.specs.Tree.{shape}
use Rattle.index_tree.proofs.range_removal.prune_rooted.Goals as goal

pub returns-clause-still_whole : goal.returns-clause-still_whole
returns-clause-still_whole c =
    let s = shape c.args.root.now in
    let e = c.tidy_root.ensures.tidy ∙ ap (λ v. collapsed v) c.prune_below-gone.ensures.taken_out ∙ sym (without_range-is c.args.from c.args.to s) in
    rw e (without_range-laws c.args.fanout c.args.from c.args.to s c.requires.whole c.requires.sound).whole

pub returns-clause-still_sound : goal.returns-clause-still_sound
returns-clause-still_sound c =
    let s = shape c.args.root.now in
    let e = c.tidy_root.ensures.tidy ∙ ap (λ v. collapsed v) c.prune_below-gone.ensures.taken_out ∙ sym (without_range-is c.args.from c.args.to s) in
    rw e (without_range-laws c.args.fanout c.args.from c.args.to s c.requires.whole c.requires.sound).sound

pub returns-clause-still_ordered : goal.returns-clause-still_ordered
returns-clause-still_ordered c =
    let s = shape c.args.root.now in
    let e = c.tidy_root.ensures.tidy ∙ ap (λ v. collapsed v) c.prune_below-gone.ensures.taken_out ∙ sym (without_range-is c.args.from c.args.to s) in
    rw e (without_range-ordered c.args.fanout c.args.from c.args.to s c.requires.whole c.requires.sound c.requires.ordered)

pub returns-clause-still_keyed : goal.returns-clause-still_keyed
returns-clause-still_keyed c =
    let s = shape c.args.root.now in
    let e = c.tidy_root.ensures.tidy ∙ ap (λ v. collapsed v) c.prune_below-gone.ensures.taken_out ∙ sym (without_range-is c.args.from c.args.to s) in
    rw e (without_range-keyed c.args.fanout c.args.from c.args.to s c.requires.whole c.requires.sound c.requires.keyed)

pub returns-clause-still_levelled : goal.returns-clause-still_levelled
returns-clause-still_levelled c =
    let s = shape c.args.root.now in
    let e = c.tidy_root.ensures.tidy ∙ ap (λ v. collapsed v) c.prune_below-gone.ensures.taken_out ∙ sym (without_range-is c.args.from c.args.to s) in
    rw e (without_range-levelled c.args.fanout c.args.from c.args.to s c.requires.whole c.requires.sound c.requires.levels)
