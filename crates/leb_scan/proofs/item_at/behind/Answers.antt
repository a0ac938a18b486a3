use Rattle.std.proofs.Common.{subst, arith}
use Rattle.leb_scan.specs.Text.{Begins}
use Rattle.leb_scan.specs.declared.item.Item.{Item}
use Rattle.leb_scan.proofs.Places.{node_later, word_room}
use Rattle.leb_scan.proofs.item_at.behind.Goals as goal

pub overflow_add-result-in-Word : goal.overflow_add-result-in-Word
overflow_add-result-in-Word c =
    let P : Item → Type 0 = λ item. Begins c.args.leb.now c.args.place item in
    let room = word_room c.args.leb.now c.args.place (subst P c.in-Word.is c.requires.item) in
    omega (arith, room, c.requires.len)

pub returns-in-Node-clause-later : goal.returns-in-Node-clause-later
returns-in-Node-clause-later c =
    let P : Item → Type 0 = λ item. Begins c.args.leb.now c.args.place item in
    rw c.behind_node.ensures (node_later c.args.leb.now c.args.place c.in-Node.found (λ i. omega (arith, c.type_inv.leb i)) (subst P c.in-Node.is c.requires.item))

pub returns-in-Word-clause-within : goal.returns-in-Word-clause-within
returns-in-Word-clause-within c =
    let P : Item → Type 0 = λ item. Begins c.args.leb.now c.args.place item in
    word_room c.args.leb.now c.args.place (subst P c.in-Word.is c.requires.item)
