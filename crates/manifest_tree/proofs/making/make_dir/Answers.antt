use Rattle.std.proofs.Common.{◌≡◌, ◌∙◌, true, false, Some, arith, rules, refl, sym, subst}
use Rattle.std.specs.Prelude.{nat_le}
use Rattle.std.specs.List.{list_all}
use Rattle.std.proofs.lemmas.Bool.{leb-false}
use Rattle.fs_model.specs.declared.inode.Inode.{Inode}
use Rattle.fs_model.specs.declared.inode.Kind.TheVariants.{Dir}
use Rattle.fs_model.specs.Backing.{is_node}
use Rattle.fs_model.specs.Change.{apply}
use Rattle.fs_model.specs.Files.{inode_at}
use Rattle.fs_model.specs.Making.{inode_limit, is_bad_mode, making, new_dir}
use Rattle.fs_model.specs.Path.{components, last_of}
use Rattle.fs_model.specs.Proper.{IsProper}
use Rattle.manifest_tree.specs.Places.{IsFreePlace}
use Rattle.manifest_tree.proofs.Groups.{closed, closed_sound, new_file_group}
use Rattle.manifest_tree.proofs.Linking.{new_dir_proper}
use Rattle.manifest_tree.proofs.Pages.{good_mode}
use Rattle.manifest_tree.proofs.Placing.{place_known}
use Rattle.manifest_tree.proofs.making.make_dir.Goals as goal

pub returns-clause-proper : goal.returns-clause-proper
returns-clause-proper c =
    let tree = c.args.tree.now in
    let place = c.in-Some.place in
    let path = c.args.path.now in
    let p : IsFreePlace tree path place = rw c.in-Some.is at c.in_ok-place.ensures.found in
    let numbers : nat_le inode_limit tree.highest ≡ false = search rules in
    let good : is_bad_mode c.args.mode ≡ false = search rules in
    let dir : (inode : Inode) × (place.parent.inode ≡ Some inode) × (inode.kind ≡ Dir) = search rules in
    let made : c.put_new.new.tree ≡ apply tree (making tree place.parent.ino place.name (new_dir c.args.mode 0) 0) = search rules in
    let kept = c.a_new_file_keeps_trees_proper.ensures (closed tree) 1 0 path 0 (closed_sound tree c.requires.proper) (omega arith) c.requires.path in
    let nodes = subst (λ group. list_all is_node group ≡ true) (new_file_group tree path place.parent.ino 0 p.free refl numbers) kept.nodes in
    let low = leb-false inode_limit tree.highest numbers in
    let proper = new_dir_proper tree dir.0 place.parent.ino c.args.mode (last_of (components path)) c.requires.proper (place_known tree path place.parent.ino p.free).free (p.parent ∙ dir.1) dir.2
    (good_mode c.args.mode good) (omega (arith, low)) nodes in
    subst (λ t. IsProper t) (sym made) (subst (λ n. IsProper (apply tree (making tree place.parent.ino n (new_dir c.args.mode 0) 0))) (sym p.name) proper)
