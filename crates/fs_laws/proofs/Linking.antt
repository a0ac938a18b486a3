-- A further name of an inode that is no directory.
use Rattle.fs_model.specs.declared.change.Change.TheVariants.{SetEntry}
use Rattle.fs_model.specs.Change.{applied}
use Rattle.std.proofs.Common.{◌≡◌, ℕ, ◌+◌, ◌<◌, ◌^◌, Bool, true, false, not, ◌&&◌, ◌||◌, List, Ok, Err, refl, sym, ap, subst, ◌∙◌, inl, inr, arith}
use Rattle.std.specs.Prelude.{is_some}
use Rattle.std.proofs.lemmas.Bool.{false≢true, or_parts, ltb-false, eq-eqb}
use Rattle.std.proofs.lemmas.Bool.Decides.{eqb_tells}
use Rattle.std.specs.Prelude.{◌==◌}
use Rattle.fs_model.specs.declared.inode.Inode.{Inode}
use Rattle.fs_model.specs.declared.inode.Entry.{Entry}
use Rattle.fs_model.specs.declared.inode.Kind.TheVariants.{Dir}
use Rattle.fs_model.specs.declared.refusal.Refusal.{Refusal}
use Rattle.fs_model.specs.declared.refusal.Refusal.TheVariants.{Enoent, Eexist, Eisdir, Enametoolong, Einval, Emlink}
use Rattle.fs_model.specs.declared.reply.Reply.TheVariants.{Done}
use Rattle.fs_model.specs.Directory.{is_linked_out}
use Rattle.fs_model.specs.Files.{Tree, Files, inode_at, entry_at, name_cmp}
use Rattle.fs_model.specs.Links.{linking, linked}
use Rattle.fs_model.specs.Making.{is_name_path, touched}
use Rattle.fs_model.specs.Outcome.{Plan, refuse, with_found, with_some, group_in}
use Rattle.fs_model.specs.Path.{has_long_name, components, last_of, walked, parent_of, is_dir}
use Rattle.fs_model.specs.Proper.{are_bytes, same_kind}
use Rattle.fs_laws.specs.Maps.{count_found}
use Rattle.fs_laws.specs.Sound.{IsSound, KeepsSound}
use Rattle.fs_laws.proofs.Groups.{keeps_nothing, node_at}
use Rattle.fs_laws.proofs.InodeKinds.{is_dir_same}
use Rattle.fs_laws.proofs.Linked.{plain_linked}
use Rattle.fs_laws.proofs.Local.{local_of}
use Rattle.fs_laws.proofs.Makes.{naming_keeps, none_of}
use Rattle.fs_laws.proofs.Names.{last_is_name}
use Rattle.fs_laws.proofs.Nodes.{node_touched, node_linked}
use Rattle.fs_laws.proofs.Plans.{refuse_to, found_to, some_to}
use Rattle.fs_laws.proofs.Rel.{there_of, rel_of, kind_is}
use Rattle.fs_laws.proofs.Revives.{linked_revives}
use Rattle.fs_laws.proofs.Removals.{dir_agrees}
use Rattle.fs_laws.proofs.Steps.{Comes, some_same}
use Rattle.fs_laws.proofs.Walks.{walked_in, parent_in}

pub both_paths : (a b : Bool) → not (a && b) ≡ false → (not a ≡ false) × (not b ≡ false)
both_paths true true h = (refl, refl)
both_paths true false h = absurd (false≢true (sym h))
both_paths false b h = absurd (false≢true (sym h))

pub linked_keeps : (files : Files) (now : ℕ) (old new : List ℕ) → IsSound files → now < 2 ^ 64 → are_bytes new ≡ true → KeepsSound files (group_in (linked files now old new))
linked_keeps files now old new sound moment bytes =
    let tree : Tree = files.tree in
    let local = local_of tree sound.proper in
    let rel = rel_of tree sound.proper in
    let name : List ℕ = last_of (components new) in
    let P : Plan → Type 0 = λ plan. KeepsSound files (group_in plan) in
    let nothing : (e : Refusal) → P (Err e) = λ e. keeps_nothing files sound in
    let last : Entry → Inode → Entry → Plan = λ entry inode parent. Ok (Done, linking tree entry inode parent.ino name now) in
    let free : Entry → Inode → Entry → Plan = λ entry inode parent. refuse (is_some (entry_at tree parent.ino name)) Eexist (last entry inode parent) in
    let above : Entry → Inode → Plan = λ entry inode. with_found (parent_of tree new) (free entry inode) in
    let few : Entry → Inode → Plan = λ entry inode. refuse (is_linked_out inode.nlink) Emlink (above entry inode) in
    let with_it : Entry → Plan = λ entry. with_some (inode_at tree entry.ino) Enoent (few entry) in
    let plain : Entry → Plan = λ entry. refuse (is_dir entry.kind) Eisdir (with_it entry) in
    refuse_to P (not (is_name_path old && is_name_path new)) Einval (refuse (has_long_name old || has_long_name new) Enametoolong (with_found (walked tree old) plain)) nothing (λ good.
    refuse_to P (has_long_name old || has_long_name new) Enametoolong (with_found (walked tree old) plain) nothing (λ short.
    found_to P (walked tree old) plain nothing (λ entry at.
    refuse_to P (is_dir entry.kind) Eisdir (with_it entry) nothing (λ file.
    some_to P (inode_at tree entry.ino) Enoent (few entry) nothing (λ inode found.
    refuse_to P (is_linked_out inode.nlink) Emlink (above entry inode) nothing (λ low.
    found_to P (parent_of tree new) (free entry inode) nothing (λ parent up.
    refuse_to P (is_some (entry_at tree parent.ino name)) Eexist (last entry inode parent) nothing (λ absent.
    let paths = both_paths (is_name_path old) (is_name_path new) good in
    let lengths = or_parts (has_long_name old) (has_long_name new) short in
    let here = walked_in tree local old entry paths.0 at in
    let was = rel.entry (entry.dir, entry.name) entry here in
    let it = there_of tree.inodes entry.ino entry.kind was.ino in
    let is = some_same (sym it.found ∙ found) in
    let kind = subst (λ (i : Inode). is_dir i.kind ≡ is_dir entry.kind) is (is_dir_same it.inode.kind entry.kind it.same) in
    let links = (rel.inode entry.ino inode found).plain (kind ∙ file) in
    let up_dir = parent_in tree local rel new parent up in
    let small = ltb-false 64999 inode.nlink low in
    let linked_inode : Inode = record inode { nlink = inode.nlink + 1 } in
    let e : Entry = record entry { dir = parent.ino; name = name } in
    let comes : Comes tree.inodes tree.entries e (touched now linked_inode) = record {
      free = none_of (entry_at tree parent.ino name) absent;
      dir = up_dir;
      kind = subst (λ (i : Inode). same_kind i.kind entry.kind ≡ true) is it.same;
      root = was.root;
      same = λ o f. ap (λ (i : Inode). i.kind) (some_same (sym found ∙ f));
      links = λ d. omega (arith, links);
      none = λ d. absurd (false≢true (sym file ∙ sym kind ∙ d));
    } in
    naming_keeps files e (touched now linked_inode) now sound moment comes (last_is_name new bytes paths.1 lengths.1)
    (node_touched entry.ino linked_inode now moment (node_linked entry.ino inode (inode.nlink + 1) (omega (arith, small)) (node_at tree sound.proper entry.ino inode found)))
    (plain_linked entry.ino (touched now linked_inode) (kind ∙ file))
    (linked_revives (applied tree (SetEntry e)) entry.ino inode (touched now linked_inode) found (elim (eqb_tells inode.nlink 0) [ inl none ↦ (let z = none.1 in let some = count_found name_cmp (λ (x : Entry). x.ino == entry.ino) tree.entries (entry.dir, entry.name) entry here (eq-eqb entry.ino entry.ino refl) in absurd (omega (arith, z, links, some))) | inr some ↦ some.0 ]))
    (λ same. false≢true (sym file ∙ dir_agrees tree.inodes entry.ino entry.kind Dir was.ino (subst (λ n. kind_is tree.inodes n Dir ≡ true) same up_dir)))))))))))
