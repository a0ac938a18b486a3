use Rattle.std.proofs.Common.{sym, ◌∙◌}
use Rattle.index_tree.proofs.InsertLaws.{with_leaf-is, with_leaf-laws, with_leaf-ordered}
use Rattle.index_tree.proofs.KeyedLaws.{with_leaf-keyed}
use Rattle.index_tree.proofs.LevelLaws.{with_leaf-levelled}
use Rattle.index_tree.specs.Tree.{shape}
use Rattle.index_tree.proofs.insertion.insert_rooted.Goals as goal

pub returns-clause-still_sound : goal.returns-clause-still_sound
returns-clause-still_sound c =
    let f = c.args.fanout in
    let x = c.args.leaf in
    let s = shape c.args.root.now in
    let e = c.in_ok-insert_below.ensures.ok ∙ sym (with_leaf-is f x s) in
    rw e (with_leaf-laws f x s c.requires.least c.requires.whole c.requires.sound).sound

pub returns-clause-still_ordered : goal.returns-clause-still_ordered
returns-clause-still_ordered c =
    let f = c.args.fanout in
    let x = c.args.leaf in
    let s = shape c.args.root.now in
    let e = c.in_ok-insert_below.ensures.ok ∙ sym (with_leaf-is f x s) in
    rw e (with_leaf-ordered f x s c.requires.least c.requires.whole c.requires.sound c.requires.ordered)

pub returns-clause-still_keyed : goal.returns-clause-still_keyed
returns-clause-still_keyed c =
    let f = c.args.fanout in
    let x = c.args.leaf in
    let s = shape c.args.root.now in
    let e = c.in_ok-insert_below.ensures.ok ∙ sym (with_leaf-is f x s) in
    rw e (with_leaf-keyed f x s c.requires.least c.requires.whole c.requires.sound c.requires.ordered c.requires.key c.requires.keyed)

pub returns-clause-still_levelled : goal.returns-clause-still_levelled
returns-clause-still_levelled c =
    let f = c.args.fanout in
    let x = c.args.leaf in
    let s = shape c.args.root.now in
    let e = c.in_ok-insert_below.ensures.ok ∙ sym (with_leaf-is f x s) in
    rw e (with_leaf-levelled f x s c.requires.least c.requires.whole c.requires.sound c.requires.levels)
