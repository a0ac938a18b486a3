-- A new inode with its name.
use Rattle.fs_model.specs.Change.{applied}
use Rattle.std.proofs.Common.{max, ◌≡◌, ℕ, ◌+◌, ◌<◌, ◌≤◌, ◌^◌, true, false, not, ◌&&◌, ◌||◌, List, [], ◌∷◌, length, Some, Ok, Err, refl, sym, ap, subst, ◌∙◌, arith, inl, inr}
use Rattle.std.specs.Prelude.{◌==◌, nat_le, nat_lt, is_some, Option, None}
use Rattle.std.specs.List.{list_all}
use Rattle.std.specs.BTreeMap.{insert_entry}
use Rattle.std.specs.Ordering.{nat_cmp}
use Rattle.std.proofs.lemmas.Bool.{false≢true, and_from, or_parts, or_right, lt-ltb, ltb-false, le-leb, leb-true, leb-false, eq-eqb}
use Rattle.std.proofs.lemmas.Bool.Decides.{eqb_tells}
use Rattle.fs_model.specs.declared.change.Change.{Change}
use Rattle.fs_model.specs.declared.change.Change.TheVariants.{SetInode, SetEntry}
use Rattle.fs_model.specs.declared.inode.Inode.{Inode}
use Rattle.fs_model.specs.declared.inode.Entry.{Entry}
use Rattle.fs_model.specs.declared.inode.Kind.{Kind}
use Rattle.fs_model.specs.declared.inode.Kind.TheVariants.{File, Dir, Symlink}
use Rattle.fs_model.specs.declared.refusal.Refusal.{Refusal}
use Rattle.fs_model.specs.declared.refusal.Refusal.TheVariants.{Eexist, Enametoolong, Einval, Emlink, Enfile}
use Rattle.fs_model.specs.declared.refusal.Table.TheVariants.{Inodes as InodeTable}
use Rattle.fs_model.specs.declared.reply.Reply.TheVariants.{Ino}
use Rattle.fs_model.specs.Backing.{is_node}
use Rattle.fs_model.specs.Directory.{counted, dir_links, is_linked_out, no_share, share_of}
use Rattle.fs_model.specs.Files.{Tree, Files, Inodes, entry_at, name_cmp}
use Rattle.fs_model.specs.Making.{inode_limit, is_bad_mode, is_name_path, is_bad_target, new_inode, new_file, new_dir, new_symlink, touched, touching, making, made, created, dir_made, symlink_made}
use Rattle.fs_model.specs.Outcome.{Plan, refuse, with_found, group_in}
use Rattle.fs_model.specs.Path.{has_long_name, is_empty, components, last_of, parent_of, is_dir, is_same_name}
use Rattle.fs_model.specs.Proper.{are_bytes, are_words, are_long_words, has_data, is_inode_node, is_entry_node, is_linked, is_name}
use Rattle.fs_model.specs.Orphan.{revives_none, all_revive_none}
use Rattle.fs_laws.proofs.Revives.{linked_revives}
use Rattle.fs_laws.specs.Sound.{IsSound, KeepsSound}
use Rattle.fs_laws.proofs.Climb.{numbered}
use Rattle.fs_laws.proofs.Groups.{keeps_nothing, keeps_sound, node_at, touching_is}
use Rattle.fs_laws.proofs.InodeKinds.{is_dir_same, same_self}
use Rattle.fs_laws.proofs.Linked.{counted_linked, dir_linked, linked_set}
use Rattle.fs_laws.proofs.Local.{IsLocal, local_of}
use Rattle.fs_laws.specs.Maps.{set_other, count_none}
use Rattle.fs_laws.proofs.Names.{last_is_name}
use Rattle.fs_laws.proofs.Nodes.{node_of, node_from, node_number, node_changed}
use Rattle.fs_laws.specs.Orders.{numbers, named, bytes_same}
use Rattle.fs_laws.proofs.Plans.{refuse_to, found_to}
use Rattle.fs_laws.proofs.Rel.{Rel, there_of, rel_of, inode_in, entry_in, kind_is, names}
use Rattle.fs_laws.proofs.Sizes.{cap_most, cap_plain}
use Rattle.fs_laws.proofs.Steps.{KeepsKinds, keeps_kinds, some_same, Comes, rel_named, rel_touched}
use Rattle.fs_laws.proofs.Walks.{parent_in}

same_number : (a : ℕ) → (a == a) ≡ true
same_number a = eq-eqb a a refl

pub entry_node_from : (e : Entry) → is_name e.name ≡ true → nat_lt e.dir (2 ^ 32) ≡ true → nat_lt e.ino (2 ^ 32) ≡ true → is_entry_node ((e.dir, e.name), e) ≡ true
entry_node_from e name dir ino =
    let same : is_same_name e.name e.name ≡ true = rw (bytes_same e.name) refl in
    and_from ((e.dir == e.dir) && is_same_name e.name e.name && is_name e.name) (are_words (e.dir ∷ e.ino ∷ []))
    (and_from ((e.dir == e.dir) && is_same_name e.name e.name) (is_name e.name) (and_from (e.dir == e.dir) (is_same_name e.name e.name) (same_number e.dir) same) name)
    (and_from (nat_lt e.dir (2 ^ 32)) (are_words (e.ino ∷ [])) dir (and_from (nat_lt e.ino (2 ^ 32)) true ino refl))

pub entry_is_node : (e : Entry) → is_name e.name ≡ true → nat_lt e.dir (2 ^ 32) ≡ true → nat_lt e.ino (2 ^ 32) ≡ true → not (e.ino == 0) ≡ true → is_node (SetEntry e) ≡ true
entry_is_node e name dir ino some = and_from (is_entry_node ((e.dir, e.name), e)) (not (e.ino == 0)) (entry_node_from e name dir ino) some

pub none_of : {X : Type 0} (o : Option X) → is_some o ≡ false → o ≡ None
none_of None h = refl
none_of (Some x) h = absurd (false≢true (sym h))

pub apart_by_none : (inodes : Inodes) (a b : ℕ) (i : Inode) → inode_in inodes a ≡ Some i → inode_in inodes b ≡ None → a ≡ b → ⊥
apart_by_none inodes a b i f none same = let g = subst (λ x. inode_in inodes x ≡ Some i) same f in absurd cc

pub no_inode : (tree : Tree) → IsLocal tree → inode_in tree.inodes (tree.highest + 1) ≡ None
no_inode tree local = by (inode_in tree.inodes (tree.highest + 1)) refl
  where
    by : (o : Option Inode) → inode_in tree.inodes (tree.highest + 1) ≡ o → o ≡ None
    by None f = refl
    by (Some i) f = let few = leb-true (tree.highest + 1) tree.highest (numbered tree local (tree.highest + 1) i f) in absurd (omega (arith, few))

pub no_names : (tree : Tree) → IsLocal tree → Rel tree.inodes tree.entries → names tree.entries (tree.highest + 1) ≡ 0
no_names tree local rel = count_none name_cmp named (λ (e : Entry). e.ino == tree.highest + 1) tree.entries local.entries_ascend (λ key e f.
    elim (eqb_tells e.ino (tree.highest + 1)) [
      | inl same ↦
          let it = there_of tree.inodes e.ino e.kind (rel.entry key e f).ino in
          let few = leb-true e.ino tree.highest (numbered tree local e.ino it.inode it.found) in
          let same_as = same.1 in
          absurd (omega (arith, few, same_as))
      | inr other ↦ other.0
    ])

not_zero : (n : ℕ) → not (n + 1 == 0) ≡ true
not_zero n = elim (eqb_tells (n + 1) 0) [ inl same ↦ (let e = same.1 in absurd (omega (arith, e))) | inr other ↦ rw other.0 refl ]

-- what is asked of a new inode
pub record IsNew (inode : Inode) : Type 0 where
  pub node : (number : ℕ) → not (number == 0) ≡ true → nat_lt number (2 ^ 32) ≡ true → is_inode_node (number, inode) ≡ true
  pub link : is_dir inode.kind ≡ false → inode.nlink ≡ 1
  pub links : not (is_dir inode.kind && (inode.nlink == 0)) ≡ true

-- a name comes with its inode, and its directory changes
pub naming_keeps : (files : Files) (e : Entry) (new : Inode) (now : ℕ) → IsSound files → now < 2 ^ 64 → Comes files.tree.inodes files.tree.entries e new → is_name e.name ≡ true → is_inode_node (e.ino, new) ≡ true → is_linked (e.ino, new) ≡ true → revives_none (applied files.tree (SetEntry e)) (SetInode e.ino new) ≡ true → (e.dir ≡ e.ino → ⊥)
    → KeepsSound files (SetEntry e ∷ SetInode e.ino new ∷ touching files.tree e.dir now (share_of e) no_share)
naming_keeps files e new now sound moment comes good node links revives apart =
    let tree : Tree = files.tree in
    let rel = rel_of tree sound.proper in
    let it = there_of tree.inodes e.dir Dir comes.dir in
    let dir_node = node_at tree sound.proper e.dir it.inode it.found in
    let is_a_dir : is_dir it.inode.kind ≡ true = is_dir_same it.inode.kind Dir it.same in
    let up : Inode = touched now (counted (share_of e) no_share it.inode) in
    let first = rel_named tree.inodes tree.entries e new comes rel in
    let at : inode_in (insert_entry nat_cmp tree.inodes e.ino new) e.dir ≡ Some it.inode = set_other nat_cmp numbers tree.inodes e.ino new e.dir apart ∙ it.found in
    let last = rel_touched (insert_entry nat_cmp tree.inodes e.ino new) (insert_entry name_cmp tree.entries (e.dir, e.name) e) e.dir it.inode up at refl (λ d. absurd (false≢true (sym d ∙ is_a_dir))) first in
    let kept : KeepsKinds tree.inodes (insert_entry nat_cmp (insert_entry nat_cmp tree.inodes e.ino new) e.dir up) = λ x k h.
    keeps_kinds (insert_entry nat_cmp tree.inodes e.ino new) e.dir up (λ o f. ap (λ (i : Inode). i.kind) (some_same (sym at ∙ f))) x k
    (keeps_kinds tree.inodes e.ino new comes.same x k h) in
    let group : List Change = SetEntry e ∷ SetInode e.ino new ∷ SetInode e.dir up ∷ [] in
    let nodes : list_all is_node group ≡ true =
    and_from (is_node (SetEntry e)) (list_all is_node (SetInode e.ino new ∷ SetInode e.dir up ∷ [])) (entry_is_node e good (node_number e.dir it.inode dir_node) (node_number e.ino new node) (node_of e.ino new node).ino)
    (and_from (is_inode_node (e.ino, new)) (list_all is_node (SetInode e.dir up ∷ [])) node
    (and_from (is_inode_node (e.dir, up)) true (node_changed e.dir (share_of e) no_share it.inode now moment dir_node) refl)) in
    let named_tree : Tree = applied tree (SetEntry e) in
    let all_revive : all_revive_none tree group ≡ true = and_from (revives_none named_tree (SetInode e.ino new)) (all_revive_none (applied named_tree (SetInode e.ino new)) (SetInode e.dir up ∷ [])) revives
    (and_from (revives_none (applied named_tree (SetInode e.ino new)) (SetInode e.dir up)) true (linked_revives (applied named_tree (SetInode e.ino new)) e.dir it.inode up at (dir_linked tree.inodes e.dir it.inode it.found is_a_dir sound.proper.linked)) refl) in
    let most = cap_most (SetInode e.ino new) in
    let plain = cap_plain e.dir up Dir refl it.same in
    let P : List Change → Type 0 = λ rest. KeepsSound files (SetEntry e ∷ SetInode e.ino new ∷ rest) in
    subst P (sym (touching_is tree e.dir now (share_of e) no_share it.inode it.found)) (keeps_sound files group sound nodes all_revive refl (omega (arith, most, plain)) last kept (λ h. linked_set (insert_entry nat_cmp tree.inodes e.ino new) e.dir up (counted_linked e.dir (share_of e) no_share it.inode now is_a_dir) (linked_set tree.inodes e.ino new links h)))

making_keeps : (files : Files) (dir : ℕ) (name : List ℕ) (inode : Inode) (now : ℕ) → IsSound files → now < 2 ^ 64 → IsNew inode → is_name name ≡ true → kind_is files.tree.inodes dir Dir ≡ true → entry_in files.tree.entries (dir, name) ≡ None → files.tree.highest < inode_limit
    → KeepsSound files (making files.tree dir name inode now)
making_keeps files dir name inode now sound moment new good isdir free room =
    let tree : Tree = files.tree in
    let local = local_of tree sound.proper in
    let rel = rel_of tree sound.proper in
    let ino : ℕ = tree.highest + 1 in
    let e : Entry = record { dir = dir; name = name; ino = ino; kind = inode.kind } in
    let it = there_of tree.inodes dir Dir isdir in
    let small : nat_lt ino (2 ^ 32) ≡ true = lt-ltb ino (2 ^ 32) (omega (arith, room)) in
    let root = there_of tree.inodes 1 Dir rel.root in
    let some = leb-true 1 tree.highest (numbered tree local 1 root.inode root.found) in
    let fresh = no_inode tree local in
    let unnamed = no_names tree local rel in
    let comes : Comes tree.inodes tree.entries e inode = record {
      free = free;
      dir = isdir;
      kind = same_self inode.kind;
      root = λ one. omega (arith, one, some);
      same = λ old f. absurd (apart_by_none tree.inodes ino ino old f fresh refl);
      links = λ d. new.link d ∙ ap (λ n. 1 + n) (sym unnamed);
      none = λ d. unnamed;
    } in
    let low = leb-true dir tree.highest (numbered tree local dir it.inode it.found) in
    let is_new : revives_none (applied tree (SetEntry e)) (SetInode ino inode) ≡ true = rw fresh (lt-ltb (max tree.highest dir) ino (omega (arith, low))) in
    naming_keeps files e inode now sound moment comes good (new.node ino (not_zero tree.highest) small) new.links is_new (apart_by_none tree.inodes dir ino it.inode it.found fresh)

pub made_keeps : (files : Files) (now : ℕ) (path : List ℕ) (inode : Inode) → IsSound files → now < 2 ^ 64 → are_bytes path ≡ true → not (is_name_path path) ≡ false → IsNew inode → KeepsSound files (group_in (made files now path inode))
made_keeps files now path inode sound moment bytes good new =
    let tree : Tree = files.tree in
    let local = local_of tree sound.proper in
    let rel = rel_of tree sound.proper in
    let name : List ℕ = last_of (components path) in
    let P : Plan → Type 0 = λ plan. KeepsSound files (group_in plan) in
    let nothing : (e : Refusal) → P (Err e) = λ e. keeps_nothing files sound in
    let last : Entry → Plan = λ parent. Ok (Ino (tree.highest + 1), making tree parent.ino name inode now) in
    let room : Entry → Plan = λ parent. refuse (nat_le inode_limit tree.highest) (Enfile InodeTable inode_limit) (last parent) in
    let links : Entry → Plan = λ parent. refuse (is_dir inode.kind && is_linked_out (dir_links tree parent.ino)) Emlink (room parent) in
    let free : Entry → Plan = λ parent. refuse (is_some (entry_at tree parent.ino name)) Eexist (links parent) in
    refuse_to P (has_long_name path) Enametoolong (with_found (parent_of tree path) free) nothing (λ short.
    found_to P (parent_of tree path) free nothing (λ parent at.
    refuse_to P (is_some (entry_at tree parent.ino name)) Eexist (links parent) nothing (λ absent.
    refuse_to P (is_dir inode.kind && is_linked_out (dir_links tree parent.ino)) Emlink (room parent) nothing (λ few.
    refuse_to P (nat_le inode_limit tree.highest) (Enfile InodeTable inode_limit) (last parent) nothing (λ low.
    making_keeps files parent.ino name inode now sound moment new (last_is_name path bytes good short) (parent_in tree local rel path parent at) (none_of (entry_at tree parent.ino name) absent) (leb-false inode_limit tree.highest low))))))

node_new : (kind : Kind) (mode nlink size : ℕ) (extra : List ℕ) (now : ℕ) → mode ≤ 4095 → nlink ≤ 2 → size ≤ 4096 → now < 2 ^ 64 → are_bytes extra ≡ true → length extra ≤ 4096 → (is_empty extra || has_data kind) ≡ true
    → (number : ℕ) → not (number == 0) ≡ true → nat_lt number (2 ^ 32) ≡ true → is_inode_node (number, new_inode kind mode nlink size extra now) ≡ true
node_new kind mode nlink size extra now small few short moment bytes long own number nonzero word =
    let time : nat_lt now (2 ^ 64) ≡ true = lt-ltb now (2 ^ 64) moment in
    node_from number (new_inode kind mode nlink size extra now) (record {
      ino = nonzero;
      mode = lt-ltb mode 4096 (omega (arith, small));
      words = and_from (nat_lt number (2 ^ 32)) (are_words (0 ∷ 0 ∷ 0 ∷ nlink ∷ [])) word (and_from (nat_lt nlink (2 ^ 32)) true (lt-ltb nlink (2 ^ 32) (omega (arith, few))) refl);
      longs = and_from (nat_lt size (2 ^ 64)) (are_long_words (now ∷ now ∷ now ∷ [])) (lt-ltb size (2 ^ 64) (omega (arith, short))) (rw time refl);
      bytes = bytes;
      short = le-leb (length extra) 4096 long;
      own = own;
    })

pub created_keeps : (files : Files) (now : ℕ) (path : List ℕ) (mode : ℕ) → IsSound files → now < 2 ^ 64 → are_bytes path ≡ true → KeepsSound files (group_in (created files now path mode))
created_keeps files now path mode sound moment bytes =
    let P : Plan → Type 0 = λ plan. KeepsSound files (group_in plan) in
    refuse_to P (is_bad_mode mode || not (is_name_path path)) Einval (made files now path (new_file mode now)) (λ e. keeps_nothing files sound) (λ good.
    let parts = or_parts (is_bad_mode mode) (not (is_name_path path)) good in
    made_keeps files now path (new_file mode now) sound moment bytes parts.1 (record {
      node = node_new File mode 1 0 [] now (ltb-false 4095 mode parts.0) (omega arith) (omega arith) moment refl (omega arith) refl;
      link = λ d. refl;
      links = refl;
    }))

pub dir_made_keeps : (files : Files) (now : ℕ) (path : List ℕ) (mode : ℕ) → IsSound files → now < 2 ^ 64 → are_bytes path ≡ true → KeepsSound files (group_in (dir_made files now path mode))
dir_made_keeps files now path mode sound moment bytes =
    let P : Plan → Type 0 = λ plan. KeepsSound files (group_in plan) in
    refuse_to P (is_bad_mode mode || not (is_name_path path)) Einval (made files now path (new_dir mode now)) (λ e. keeps_nothing files sound) (λ good.
    let parts = or_parts (is_bad_mode mode) (not (is_name_path path)) good in
    made_keeps files now path (new_dir mode now) sound moment bytes parts.1 (record {
      node = node_new Dir mode 2 160 [] now (ltb-false 4095 mode parts.0) (omega arith) (omega arith) moment refl (omega arith) refl;
      link = λ d. absurd (false≢true (sym d));
      links = refl;
    }))

pub symlink_keeps : (files : Files) (now : ℕ) (path target : List ℕ) → IsSound files → now < 2 ^ 64 → are_bytes path ≡ true → are_bytes target ≡ true → KeepsSound files (group_in (symlink_made files now path target))
symlink_keeps files now path target sound moment bytes letters =
    let P : Plan → Type 0 = λ plan. KeepsSound files (group_in plan) in
    refuse_to P (is_bad_target target || not (is_name_path path)) Einval (made files now path (new_symlink target now)) (λ e. keeps_nothing files sound) (λ good.
    let parts = or_parts (is_bad_target target) (not (is_name_path path)) good in
    let short = ltb-false 4095 (length target) (or_parts (is_empty target) (nat_lt 4095 (length target)) parts.0).1 in
    made_keeps files now path (new_symlink target now) sound moment bytes parts.1 (record {
      node = node_new Symlink 511 1 (length target) target now (omega arith) (omega arith) (omega (arith, short)) moment letters (omega (arith, short)) (or_right (is_empty target) true refl);
      link = λ d. refl;
      links = refl;
    }))
