use Rattle.std.proofs.Common.{◌≡◌, ◌+◌, [], ◌∷◌, refl, rules}
use Rattle.fs_model.specs.declared.change.Change.TheVariants.{SetEntry, SetInode}
use Rattle.fs_model.specs.declared.inode.Entry.{Entry}
use Rattle.fs_model.specs.Making.{touched}
use Rattle.manifest_tree.proofs.Linking.{linking_is}
use Rattle.manifest_tree.proofs.links.linking.Goals as goal

pub returns : goal.returns
returns c = λ tree there.
    let e : Entry = record c.args.entry { dir = c.args.dir; name = c.args.name } in
    let grown = c.with_entry-parent.ensures e c.requires.file refl in
    let pushed : c.push-3.new.self ≡ SetEntry e ∷ SetInode c.args.entry.ino (touched 0 (record c.args.inode { nlink = c.args.inode.nlink + 1 })) ∷ SetInode c.args.dir (touched 0 c.with_entry-parent.result) ∷ [] = search rules in
    linking_is tree c.args.entry c.args.inode c.args.parent c.with_entry-parent.result c.args.dir c.args.name c.push-3.new.self pushed grown there
