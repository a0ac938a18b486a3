use Rattle.std.proofs.Common.{◌≡◌, ◌-◌, List, [], ◌∷◌, length, Some, refl, sym, subst, arith, rules}
use Rattle.table_nodes.specs.Links.{AreLinksIn}
use Rattle.table_nodes.specs.declared.link.Link.{Link}
use Rattle.table_nodes.proofs.Unloaded.{leaf_child, leaf_in_links, stub_added, stub_child, stub_child_there}
use Rattle.table_nodes.specs.StubLaws.{stubs_none}
use Rattle.table_nodes.specs.declared.node.TableNode.{TableNode}
use Rattle.table_nodes.proofs.stubs.push_child.Goals as goal

pub returns-then-levels-eq0-clause-pushed : goal.returns-then-levels-eq0-clause-pushed
returns-then-levels-eq0-clause-pushed c = λ rest.
    leaf_child c.args.told.now.value c.args.levels c.args.nodes.now.items c.args.links.now.items c.push.new.self.items c.args.branch.now c.leaf_by.result rest c.if-levels-eq0.true c.leaf_by.ensures c.in_ok-push.ensures.items

pub returns-then-levels-eq0-clause-there : goal.returns-then-levels-eq0-clause-there
returns-then-levels-eq0-clause-there c =
    let P : List Link → Type 0 = λ v. AreLinksIn (length c.args.nodes.now.items) v in
    subst P (sym c.in_ok-push.ensures.items) (leaf_in_links c.args.nodes.now.items c.args.links.now.items c.leaf_by.result c.requires.there)

pub returns-clause-pushed : goal.returns-clause-pushed
returns-clause-pushed c = λ rest.
    let branch = c.args.branch.now in
    let node : TableNode = record {
      level = c.args.levels - 1;
      place = Some (record { lnum = branch.lnum; offs = branch.offs; len = branch.len });
      links = c.new.result;
      beyond = Some c.tell_again.result;
    } in
    let last : c.len-number.result ≡ length c.args.nodes.now.items = omega (arith, c.len-number.ensures) in
    stub_child c.args.told.now.value c.args.levels c.args.nodes.now.items c.push-2.new.self.items c.args.links.now.items c.push-3.new.self.items c.len-number.result branch node c.tell_again.result rest (omega (arith, c.if-levels-eq0.false)) refl refl refl
    c.tell_again.ensures c.in_ok-push-2.ensures.items last c.in_ok-push-3.ensures.items c.requires.there

pub returns-clause-there : goal.returns-clause-there
returns-clause-there c =
    let branch = c.args.branch.now in
    let node : TableNode = record {
      level = c.args.levels - 1;
      place = Some (record { lnum = branch.lnum; offs = branch.offs; len = branch.len });
      links = c.new.result;
      beyond = Some c.tell_again.result;
    } in
    let last : c.len-number.result ≡ length c.args.nodes.now.items = omega (arith, c.len-number.ensures) in
    stub_child_there c.args.nodes.now.items c.push-2.new.self.items c.args.links.now.items c.push-3.new.self.items c.len-number.result branch.key node c.in_ok-push-2.ensures.items last c.in_ok-push-3.ensures.items c.requires.there

pub returns-then-levels-eq0-clause-stubs : goal.returns-then-levels-eq0-clause-stubs
returns-then-levels-eq0-clause-stubs c = stubs_none c.args.told.now.value c.args.levels (c.args.branch.now ∷ []) c.args.nodes.now.items c.args.nodes.now.items refl

pub returns-clause-stubs : goal.returns-clause-stubs
returns-clause-stubs c =
    let branch = c.args.branch.now in
    let node : TableNode = record {
      level = c.args.levels - 1;
      place = Some (record { lnum = branch.lnum; offs = branch.offs; len = branch.len });
      links = c.new.result;
      beyond = Some c.tell_again.result;
    } in
    stub_added c.args.told.now.value c.args.levels c.args.nodes.now.items c.push-2.new.self.items branch node c.tell_again.result (omega (arith, c.if-levels-eq0.false)) refl refl refl c.tell_again.ensures c.in_ok-push-2.ensures.items

pub returns-in_err-push-clause-stubs : goal.returns-in_err-push-clause-stubs
returns-in_err-push-clause-stubs c = stubs_none c.args.told.now.value c.args.levels (c.args.branch.now ∷ []) c.args.nodes.now.items c.args.nodes.now.items refl

pub returns-in_err-push-2-clause-stubs : goal.returns-in_err-push-2-clause-stubs
returns-in_err-push-2-clause-stubs c = stubs_none c.args.told.now.value c.args.levels (c.args.branch.now ∷ []) c.args.nodes.now.items c.push-2.new.self.items (search rules)

pub returns-in_err-push-3-clause-stubs : goal.returns-in_err-push-3-clause-stubs
returns-in_err-push-3-clause-stubs c =
    let branch = c.args.branch.now in
    let node : TableNode = record {
      level = c.args.levels - 1;
      place = Some (record { lnum = branch.lnum; offs = branch.offs; len = branch.len });
      links = c.new.result;
      beyond = Some c.tell_again.result;
    } in
    stub_added c.args.told.now.value c.args.levels c.args.nodes.now.items c.push-2.new.self.items branch node c.tell_again.result (omega (arith, c.if-levels-eq0.false)) refl refl refl c.tell_again.ensures c.in_ok-push-2.ensures.items
