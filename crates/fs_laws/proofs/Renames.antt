-- A name that moves to a free place, and the directories that change with it.
use Rattle.std.proofs.Common.{◌≡◌, ℕ, ◌<◌, ◌≤◌, ◌^◌, Bool, true, false, cond, ◌&&◌, List, [], ◌∷◌, ◌++◌, Some, refl, sym, ap, subst, ◌∙◌, arith}
use Rattle.std.specs.Prelude.{◌==◌, sum_by, if◌then◌else◌}
use Rattle.std.specs.List.{list_all}
use Rattle.std.specs.BTreeMap.{insert_entry}
use Rattle.std.specs.Ordering.{nat_cmp}
use Rattle.std.proofs.lemmas.List.Sums.{sum_by-append}
use Rattle.std.proofs.lemmas.Bool.{false≢true, and_parts, and_from, eq-eqb}
use Rattle.fs_model.specs.declared.change.Change.{Change}
use Rattle.fs_model.specs.declared.change.Change.TheVariants.{SetInode, SetEntry, DropEntry}
use Rattle.fs_model.specs.declared.inode.Inode.{Inode}
use Rattle.fs_model.specs.declared.inode.Entry.{Entry}
use Rattle.fs_model.specs.declared.inode.Kind.TheVariants.{File, Dir}
use Rattle.fs_model.specs.Backing.{is_node}
use Rattle.fs_model.specs.Change.{applied, apply}
use Rattle.fs_model.specs.declared.share.Share.{Share}
use Rattle.fs_model.specs.Directory.{counted, no_share, share_of}
use Rattle.fs_model.specs.Files.{Tree, Files, inode_at}
use Rattle.fs_model.specs.Making.{touched, touching}
use Rattle.fs_model.specs.Path.{is_dir}
use Rattle.fs_model.specs.Proper.{same_kind, is_inode_node, is_name, are_words}
use Rattle.fs_model.specs.Rename.{moving}
use Rattle.fs_model.specs.Orphan.{revives_none, all_revive_none, all_drop_named}
use Rattle.fs_laws.proofs.Revives.{drop_append, linked_revives, revive_append}
use Rattle.fs_laws.specs.Sound.{IsSound, KeepsSound}
use Rattle.fs_laws.proofs.Climb.{proper_of}
use Rattle.fs_laws.proofs.Groups.{KeepsLinks, bytes_few, node_at, touching_is}
use Rattle.fs_laws.proofs.InodeKinds.{is_dir_same}
use Rattle.fs_laws.proofs.Linked.{are_linked, counted_linked, dir_linked, linked_set}
use Rattle.fs_laws.proofs.Local.{local_of, local_group}
use Rattle.fs_laws.proofs.Makes.{entry_is_node}
use Rattle.fs_laws.specs.Maps.{all_weaken, set_other}
use Rattle.fs_laws.proofs.Moves.{Moves, placed_at, rel_moved}
use Rattle.fs_laws.proofs.Nodes.{node_of, node_number, node_changed}
use Rattle.fs_laws.specs.Orders.{numbers}
use Rattle.fs_laws.proofs.Rel.{Rel, there_of, rel_of, inode_in, kind_is}
use Rattle.fs_laws.proofs.Removals.{drop_node, parent_of_entry}
use Rattle.fs_laws.proofs.Sizes.{cap, cap_plain}
use Rattle.fs_laws.proofs.Steps.{KeepsKinds, keeps_kinds, rel_touched, some_same}

apply_append : (a b : List Change) (t : Tree) → apply t (a ++ b) ≡ apply (apply t a) b
apply_append [] b t = refl
apply_append (c ∷ a) b t = apply_append a b (applied t c)

nodes_append : (a b : List Change) → list_all is_node a ≡ true → list_all is_node b ≡ true → list_all is_node (a ++ b) ≡ true
nodes_append [] b x y = y
nodes_append (c ∷ a) b x y = let q = and_parts (is_node c) (list_all is_node a) x in and_from (is_node c) (list_all is_node (a ++ b)) q.0 (nodes_append a b q.1 y)

-- changes that leave kinds, and a link to each directory
pub record Touches (t : Tree) (group : List Change) : Type 0 where
  pub nodes : list_all is_node group ≡ true
  pub few : sum_by cap group ≤ 320
  pub revives : all_revive_none t group ≡ true
  pub drops : all_drop_named t group ≡ true
  pub linked : KeepsLinks t group
  pub rel : Rel (apply t group).inodes (apply t group).entries
  pub kinds : KeepsKinds t.inodes (apply t group).inodes

pub joined_keeps : (files : Files) (front tail : List Change) → IsSound files → list_all is_node front ≡ true → all_revive_none files.tree front ≡ true → all_drop_named files.tree front ≡ true → sum_by cap front ≤ 4880 → KeepsLinks files.tree front → Touches (apply files.tree front) tail → list_all (λ h. kind_is (apply files.tree front).inodes h.1 File) files.handles ≡ true → KeepsSound files (front ++ tail)
joined_keeps files front tail sound nodes revives drops few linked it handles =
    let same = sym (apply_append front tail files.tree) in
    let all = nodes_append front tail nodes it.nodes in
    let rel = subst (λ (t : Tree). Rel t.inodes t.entries) same it.rel in
    let kinds = subst (λ (t : Tree). KeepsKinds (apply files.tree front).inodes t.inodes) same it.kinds in
    let more = it.few in
    let sums = sum_by-append cap front tail in
    record {
      nodes = all;
      revives_none = revive_append front tail files.tree revives it.revives;
      drops = drop_append front tail files.tree drops it.drops;
      limit = bytes_few files (front ++ tail) sound all (omega (arith, few, more, sums));
      proper = proper_of (apply files.tree (front ++ tail)) (local_group (front ++ tail) files.tree all (local_of files.tree sound.proper)) rel (subst (λ (t : Tree). are_linked t.inodes ≡ true) same (it.linked (linked sound.proper.linked)));
      handles = all_weaken (λ h. kind_is (apply files.tree front).inodes h.1 File) (λ h. kind_is (apply files.tree (front ++ tail)).inodes h.1 File) (λ h t. kinds h.1 File t) files.handles handles;
    }

-- the two directories of a move, as they were found, with what comes and goes in each
pub record Dirs (tree : Tree) (a b : ℕ) : Type 0 where
  pub p : Inode
  pub q : Inode
  pub at_a : inode_at tree a ≡ Some p
  pub at_b : inode_at tree b ≡ Some q
  pub dir_p : same_kind p.kind Dir ≡ true
  pub dir_q : same_kind q.kind Dir ≡ true
  pub node_p : is_inode_node (a, p) ≡ true
  pub node_q : is_inode_node (b, q) ≡ true
  pub linked : are_linked tree.inodes ≡ true

-- both directories change, or the one if they are one
abbrev pub both : Tree → ℕ → ℕ → ℕ → Share → Share → List Change
both tree a b now came gone = touching tree a now (if a == b then came else no_share) gone ++ (if a == b then [] else touching tree b now came no_share)

pub both_touch : (tree t : Tree) (a b now : ℕ) (came gone : Share) → (d : Dirs tree a b) → now < 2 ^ 64 → inode_in t.inodes a ≡ Some d.p → inode_in t.inodes b ≡ Some d.q → Rel t.inodes t.entries → Touches t (both tree a b now came gone)
both_touch tree t a b now came gone d moment ga gb rel =
    let P : List Change → Type 0 = λ first. Touches t (first ++ (if a == b then [] else touching tree b now came no_share)) in
    let Q : List Change → Type 0 = λ second. Touches t (SetInode a (touched now (counted (if a == b then came else no_share) gone d.p)) ∷ (if a == b then [] else second)) in
    subst P (sym (touching_is tree a now (if a == b then came else no_share) gone d.p d.at_a)) (subst Q (sym (touching_is tree b now came no_share d.q d.at_b)) (by (a == b) refl))
  where
    p_dir : is_dir d.p.kind ≡ true
    p_dir = is_dir_same d.p.kind Dir d.dir_p

    q_dir : is_dir d.q.kind ≡ true
    q_dir = is_dir_same d.q.kind Dir d.dir_q

    -- the first directory, where this comes
    left : Share → Inode
    left c = touched now (counted c gone d.p)

    one : (c : Share) → Rel (insert_entry nat_cmp t.inodes a (left c)) t.entries
    one c = rel_touched t.inodes t.entries a d.p (left c) ga refl (λ z. absurd (false≢true (sym z ∙ p_dir))) rel

    kept : (c : Share) → KeepsKinds t.inodes (insert_entry nat_cmp t.inodes a (left c))
    kept c = keeps_kinds t.inodes a (left c) (λ o f. ap (λ (i : Inode). i.kind) (some_same (sym ga ∙ f)))

    first : (c : Share) → cap (SetInode a (left c)) ≡ 160
    first c = cap_plain a (left c) Dir refl d.dir_p

    first_revives : (c : Share) → revives_none t (SetInode a (left c)) ≡ true
    first_revives c = linked_revives t a d.p (left c) ga (dir_linked tree.inodes a d.p d.at_a p_dir d.linked)

    first_linked : (c : Share) → KeepsLinks t (SetInode a (left c) ∷ [])
    first_linked c = λ h. linked_set t.inodes a (left c) (counted_linked a c gone d.p now p_dir) h

    come : Inode
    come = touched now (counted came no_share d.q)

    second : cap (SetInode b come) ≡ 160
    second = cap_plain b come Dir refl d.dir_q

    by : (s : Bool) → (a == b) ≡ s → Touches t (SetInode a (left (cond s came no_share)) ∷ cond s [] (SetInode b come ∷ []))
    by true e = let few = first came in record { nodes = and_from (is_inode_node (a, left came)) true (node_changed a came gone d.p now moment d.node_p) refl; few = omega (arith, few); revives = and_from (revives_none t (SetInode a (left came))) true (first_revives came) refl; drops = refl; linked = first_linked came; rel = one came; kinds = kept came }
    by false e =
        let it : Inode = left no_share in
        let few = first no_share in
        let apart : b ≡ a → ⊥ = λ same. false≢true (sym e ∙ eq-eqb a b (sym same)) in
        let at : inode_in (insert_entry nat_cmp t.inodes a it) b ≡ Some d.q = set_other nat_cmp numbers t.inodes a it b apart ∙ gb in
        record {
          nodes = and_from (is_inode_node (a, it)) (list_all is_node (SetInode b come ∷ [])) (node_changed a no_share gone d.p now moment d.node_p) (and_from (is_inode_node (b, come)) true (node_changed b came no_share d.q now moment d.node_q) refl);
          few = omega (arith, few, second);
          revives = and_from (revives_none t (SetInode a it)) (all_revive_none (applied t (SetInode a it)) (SetInode b come ∷ [])) (first_revives no_share)
              (and_from (revives_none (applied t (SetInode a it)) (SetInode b come)) true (linked_revives (applied t (SetInode a it)) b d.q come at (dir_linked tree.inodes b d.q d.at_b q_dir d.linked)) refl);
          drops = refl;
          linked = λ h. linked_set (insert_entry nat_cmp t.inodes a it) b come (counted_linked b came no_share d.q now q_dir) (first_linked no_share h);
          rel = rel_touched (insert_entry nat_cmp t.inodes a it) t.entries b d.q come at refl (λ z. absurd (false≢true (sym z ∙ q_dir))) (one no_share);
          kinds = λ x k h. keeps_kinds (insert_entry nat_cmp t.inodes a it) b come (λ o f. ap (λ (i : Inode). i.kind) (some_same (sym at ∙ f))) x k (kept no_share x k h);
        }

-- a name moves to a free place
pub moving_free : (files : Files) (from : Entry) (dir : ℕ) (name : List ℕ) (now : ℕ) → IsSound files → now < 2 ^ 64 → Moves files.tree.inodes files.tree.entries from dir name → is_name name ≡ true → KeepsSound files (moving files from dir name [] now)
moving_free files from dir name now sound moment m good =
    let tree : Tree = files.tree in
    let rel = rel_of tree sound.proper in
    let e : Entry = placed_at from dir name in
    let old = parent_of_entry files from sound m.here in
    let new = there_of tree.inodes dir Dir m.into in
    let old_node = node_at tree sound.proper from.dir old.inode old.found in
    let new_node = node_at tree sound.proper dir new.inode new.found in
    let it = there_of tree.inodes from.ino from.kind (rel.entry (from.dir, from.name) from m.here).ino in
    let word = node_number from.ino it.inode (node_at tree sound.proper from.ino it.inode it.found) in
    let front : List Change = SetEntry e ∷ DropEntry from.dir from.name ∷ [] in
    let nodes : list_all is_node front ≡ true = and_from (is_node (SetEntry e)) (list_all is_node (DropEntry from.dir from.name ∷ [])) (entry_is_node e good (node_number dir new.inode new_node) word (node_of from.ino it.inode (node_at tree sound.proper from.ino it.inode it.found)).ino)
    (and_from (are_words (from.dir ∷ []) && is_name from.name) true (drop_node files from sound m.here) refl) in
    let after = rel_moved tree.inodes tree.entries from dir name rel m in
    let dirs : Dirs tree from.dir dir = record { p = old.inode; q = new.inode; at_a = old.found; at_b = new.found; dir_p = old.same; dir_q = new.same; node_p = old_node; node_q = new_node; linked = sound.proper.linked } in
    joined_keeps files front (both tree from.dir dir now (share_of e) (share_of from)) sound nodes refl refl (omega arith) (λ h. h)
    (both_touch tree (apply tree front) from.dir dir now (share_of e) (share_of from) dirs moment old.found new.found after) sound.handles
