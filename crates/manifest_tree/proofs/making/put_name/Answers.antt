use Rattle.std.proofs.Common.{◌≡◌, ◌∙◌, true, false, Some, arith, rules, refl, sym, subst}
use Rattle.std.specs.Prelude.{nat_le, OnOk}
use Rattle.std.specs.List.{list_all}
use Rattle.fs_model.specs.declared.inode.Kind.TheVariants.{Dir, File}
use Rattle.fs_model.specs.Backing.{is_node}
use Rattle.fs_model.specs.Change.{apply}
use Rattle.fs_model.specs.Files.{inode_at}
use Rattle.fs_model.specs.Links.{linking}
use Rattle.fs_model.specs.Making.{inode_limit}
use Rattle.fs_model.specs.Path.{components, last_of}
use Rattle.fs_model.specs.Proper.{IsProper}
use Rattle.manifest_tree.proofs.Groups.{closed, closed_sound, new_file_group}
use Rattle.manifest_tree.proofs.Linking.{linked_proper}
use Rattle.manifest_tree.proofs.Pages.{settled}
use Rattle.manifest_tree.proofs.Placing.{place_known}
use Rattle.manifest_tree.proofs.making.put_name.Goals as goal

pub returns-clause-proper : goal.returns-clause-proper
returns-clause-proper c =
    let tree = c.args.tree.now in
    let place = c.args.place in
    let path = c.args.path.now in
    let entry = c.args.entry in
    let inode = c.args.inode in
    let p = c.requires.place in
    let dir = place.parent.ino in
    let numbers : nat_le inode_limit tree.highest ≡ false = search rules in
    let here : inode_at tree dir ≡ Some c.in-Some.parent = search rules in
    let dir_kind : c.in-Some.parent.kind ≡ Dir = search rules in
    let file : inode.kind ≡ File = search rules in
    let kept = c.a_new_file_keeps_trees_proper.ensures (closed tree) 1 0 path 0 (closed_sound tree c.requires.proper) (omega arith) c.requires.path in
    let nodes = subst (λ group. list_all is_node group ≡ true) (new_file_group tree path dir 0 p.free refl numbers) kept.nodes in
    let proper = linked_proper tree entry inode c.in-Some.parent dir (last_of (components path)) c.requires.proper (place_known tree path dir p.free).free c.requires.inode file c.requires.file here dir_kind (omega arith) nodes in
    let put : OnOk c.apply.result (c.apply.new.self ≡ apply tree (linking tree entry inode dir place.name 0)) = search rules in
    settled c.apply.result tree c.apply.new.self (apply tree (linking tree entry inode dir place.name 0)) put c.apply.ensures.err c.requires.proper
    (subst (λ n. IsProper (apply tree (linking tree entry inode dir n 0))) (sym p.name) proper)
