use Rattle.std.proofs.Common.{ap, sym, ◌∙◌}
use Rattle.index_tree.specs.Removal.{collapsed}
use Rattle.index_tree.proofs.CollapseLaws.{without_leaf-is, without_leaf-laws, without_leaf-ordered}
use Rattle.index_tree.proofs.KeyedLaws.{without_leaf-keyed}
use Rattle.index_tree.proofs.LevelLaws.{without_leaf-levelled}
use Rattle.index_tree.specs.Tree.{shape}
use Rattle.index_tree.proofs.removal.remove_rooted.Goals as goal

pub returns-clause-still_whole : goal.returns-clause-still_whole
returns-clause-still_whole c =
    let s = shape c.args.root.now in
    let e = c.tidy_root.ensures.tidy ∙ ap (λ v. collapsed v) (c.remove_below.ensures.taken_out c.if-not-remove_below.false) ∙ sym (without_leaf-is c.args.gone.now s) in
    rw e (without_leaf-laws c.args.fanout c.args.gone.now s c.requires.whole c.requires.sound).whole

pub returns-clause-still_sound : goal.returns-clause-still_sound
returns-clause-still_sound c =
    let s = shape c.args.root.now in
    let e = c.tidy_root.ensures.tidy ∙ ap (λ v. collapsed v) (c.remove_below.ensures.taken_out c.if-not-remove_below.false) ∙ sym (without_leaf-is c.args.gone.now s) in
    rw e (without_leaf-laws c.args.fanout c.args.gone.now s c.requires.whole c.requires.sound).sound

pub returns-clause-still_ordered : goal.returns-clause-still_ordered
returns-clause-still_ordered c =
    let s = shape c.args.root.now in
    let e = c.tidy_root.ensures.tidy ∙ ap (λ v. collapsed v) (c.remove_below.ensures.taken_out c.if-not-remove_below.false) ∙ sym (without_leaf-is c.args.gone.now s) in
    rw e (without_leaf-ordered c.args.fanout c.args.gone.now s c.requires.whole c.requires.sound c.requires.ordered)

pub returns-clause-still_keyed : goal.returns-clause-still_keyed
returns-clause-still_keyed c =
    let s = shape c.args.root.now in
    let e = c.tidy_root.ensures.tidy ∙ ap (λ v. collapsed v) (c.remove_below.ensures.taken_out c.if-not-remove_below.false) ∙ sym (without_leaf-is c.args.gone.now s) in
    rw e (without_leaf-keyed c.args.fanout c.args.gone.now s c.requires.whole c.requires.sound c.requires.keyed)

pub returns-clause-still_levelled : goal.returns-clause-still_levelled
returns-clause-still_levelled c =
    let s = shape c.args.root.now in
    let e = c.tidy_root.ensures.tidy ∙ ap (λ v. collapsed v) (c.remove_below.ensures.taken_out c.if-not-remove_below.false) ∙ sym (without_leaf-is c.args.gone.now s) in
    rw e (without_leaf-levelled c.args.fanout c.args.gone.now s c.requires.whole c.requires.sound c.requires.levels)
