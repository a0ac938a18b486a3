-- The last change that touches a place makes what stands there.
use Rattle.std.proofs.Common.{◌≡◌, ℕ, ◌*◌, Bool, true, false, cond, not, ◌&&◌, List, [], ◌∷◌, refl, sym, ap, subst, ◌∙◌, inl, inr, Option, Some, None}
use Rattle.std.specs.Prelude.{◌==◌, nat_le, is_some, filter}
use Rattle.std.specs.BTreeMap.{is_at, insert_entry}
use Rattle.std.specs.Map.{lookup, remove_entry}
use Rattle.std.specs.Ordering.{nat_cmp}
use Rattle.std.specs.declared.cmp.Ordering.{Ordering}
use Rattle.std.specs.declared.cmp.Ordering.TheVariants.{Less, Equal, Greater}
use Rattle.std.proofs.lemmas.Bool.{false≢true, and_parts, and_from, eqb-true, eq-eqb}
use Rattle.std.proofs.lemmas.Bool.Decides.{eqb_tells}
use Rattle.fs_model.specs.declared.change.Change.{Change}
use Rattle.fs_model.specs.declared.change.Change.TheVariants.{SetInode, SetEntry, DropEntry, SetBlock, CutBlocks, DropInode}
use Rattle.fs_model.specs.Change.{applied, apply}
use Rattle.fs_model.specs.Files.{Tree, Blocks, inode_at, name_cmp, pair_cmp, with_block}
use Rattle.fs_model.specs.Path.{is_same_name}
use Rattle.fs_model.specs.Proper.{IsInOrder}
use Rattle.fs_laws.specs.Forgotten.{applied_in_order}
use Rattle.fs_laws.specs.Maps.{removed_here, removed_other, set_here, set_other}
use Rattle.fs_laws.specs.Orders.{named, numbers, pairs}
use Rattle.leaf_map.specs.LastChange.{Made, last_made, later, makes_block, makes_entry, makes_inode, there}
use Rattle.leaf_map.proofs.Names.{is_name}
use Rattle.leaf_map.proofs.Ranks.{name_is}

-- ---- one change
pub one_inode : (q : ℕ) (tree : Tree) (change : Change) → IsInOrder tree → inode_at (applied tree change) q ≡ there (makes_inode q tree change) (inode_at tree q)
one_inode q tree (SetInode ino inode) s = elim (eqb_tells ino q) [
  | inl same ↦ rw same.0 (subst (λ k. lookup (is_at (nat_cmp k)) (insert_entry nat_cmp tree.inodes ino inode) ≡ Some inode) same.1 (set_here nat_cmp numbers tree.inodes ino inode))
  | inr other ↦ rw other.0 (set_other nat_cmp numbers tree.inodes ino inode q (λ e. other.1 (sym e)))
]
one_inode q tree (SetEntry e) s = refl
one_inode q tree (DropEntry dir name) s = refl
one_inode q tree (SetBlock ino number bytes) s = by (is_some (inode_at tree ino))
  where
    by : (b : Bool) → lookup (is_at (nat_cmp q)) (cond b (record tree { blocks = with_block tree.blocks ino number bytes }) tree).inodes ≡ inode_at tree q
    by true = refl
    by false = refl
one_inode q tree (CutBlocks ino old_size new_size) s = refl
one_inode q tree (DropInode ino) s = elim (eqb_tells ino q) [
  | inl same ↦ rw same.0 (subst (λ k. lookup (is_at (nat_cmp k)) (remove_entry (is_at (nat_cmp ino)) tree.inodes) ≡ None) same.1 (removed_here nat_cmp numbers tree.inodes ino s.inodes))
  | inr other ↦ rw other.0 (removed_other nat_cmp numbers tree.inodes ino q (λ e. other.1 (sym e)))
]

abbrev nothing : Option (List ℕ)
nothing = None

-- what is found among the blocks that stay
pub found_filter : (stay : ℕ × ℕ → Bool) (blocks : Blocks) (q : ℕ × ℕ) → lookup (is_at (pair_cmp q)) (filter (λ b. stay b.0) blocks) ≡ cond (stay q) (lookup (is_at (pair_cmp q)) blocks) None
found_filter stay [] q = by (stay q)
  where
    by : (b : Bool) → nothing ≡ cond b nothing nothing
    by true = refl
    by false = refl
found_filter stay (e ∷ blocks) q = by (found_filter stay blocks q) (pair_cmp q e.0) refl (stay e.0) refl
  where
    by : lookup (is_at (pair_cmp q)) (filter (λ b. stay b.0) blocks) ≡ cond (stay q) (lookup (is_at (pair_cmp q)) blocks) None → (o : Ordering) → pair_cmp q e.0 ≡ o → (t : Bool) → stay e.0 ≡ t
        → lookup (is_at (pair_cmp q)) (cond t (e ∷ filter (λ b. stay b.0) blocks) (filter (λ b. stay b.0) blocks)) ≡ cond (stay q) (lookup (is_at (pair_cmp q)) (e ∷ blocks)) None
    by more Less x true t = rw x more
    by more Greater x true t = rw x more
    by more Less x false t = rw x more
    by more Greater x false t = rw x more
    by more Equal x true t =
        let here : stay q ≡ true = ap stay (pairs.exact q e.0 x) ∙ t in
        rw (x, here) refl
    by more Equal x false t =
        let here : stay q ≡ false = ap stay (pairs.exact q e.0 x) ∙ t in
        more ∙ rw here refl

pub one_block : (q : ℕ × ℕ) (tree : Tree) (change : Change) → IsInOrder tree → lookup (is_at (pair_cmp q)) (applied tree change).blocks ≡ there (makes_block q tree change) (lookup (is_at (pair_cmp q)) tree.blocks)
one_block q tree (SetInode ino inode) s = refl
one_block q tree (SetEntry e) s = refl
one_block q tree (DropEntry dir name) s = refl
one_block q tree (SetBlock ino number bytes) s = by (is_some (inode_at tree ino)) ((ino == q.0) && (number == q.1)) refl
  where
    found : Blocks → Option (List ℕ)
    found blocks = lookup (is_at (pair_cmp q)) blocks

    set : Blocks
    set = with_block tree.blocks ino number bytes

    here : ((ino == q.0) && (number == q.1)) ≡ true → found set ≡ Some bytes
    here t =
        let p = and_parts (ino == q.0) (number == q.1) t in
        let a = eqb-true ino q.0 p.0 in
        let b = eqb-true number q.1 p.1 in
        let P : ℕ × ℕ → Type 0 = λ k. lookup (is_at (pair_cmp k)) set ≡ Some bytes in
        let first : P (q.0, number) = subst (λ (n : ℕ). P (n, number)) a (set_here pair_cmp pairs tree.blocks (ino, number) bytes) in
        subst (λ (n : ℕ). P (q.0, n)) b first

    apart : ((ino == q.0) && (number == q.1)) ≡ false → found set ≡ found tree.blocks
    apart t = set_other pair_cmp pairs tree.blocks (ino, number) bytes q (λ e.
        let a : q.0 ≡ ino = ap (λ (k : ℕ × ℕ). k.0) e in
        let b : q.1 ≡ number = ap (λ (k : ℕ × ℕ). k.1) e in
        false≢true (sym t ∙ and_from (ino == q.0) (number == q.1) (eq-eqb ino q.0 (sym a)) (eq-eqb number q.1 (sym b))))

    by : (i t : Bool) → ((ino == q.0) && (number == q.1)) ≡ t → found (cond i (record tree { blocks = set }) tree).blocks ≡ there (cond (t && i) (Some (Some bytes)) None) (found tree.blocks)
    by true true t = here t
    by true false t = apart t
    by false true t = refl
    by false false t = refl
one_block q tree (CutBlocks ino old_size new_size) s = found_filter (λ k. not ((k.0 == ino) && nat_le new_size (4096 * k.1))) tree.blocks q ∙ by ((q.0 == ino) && nat_le new_size (4096 * q.1))
  where
    by : (b : Bool) → cond (not b) (lookup (is_at (pair_cmp q)) tree.blocks) None ≡ there (cond b (Some None) None) (lookup (is_at (pair_cmp q)) tree.blocks)
    by true = refl
    by false = refl
one_block q tree (DropInode ino) s = found_filter (λ k. not (k.0 == ino)) tree.blocks q ∙ by (q.0 == ino)
  where
    by : (b : Bool) → cond (not b) (lookup (is_at (pair_cmp q)) tree.blocks) None ≡ there (cond b (Some None) None) (lookup (is_at (pair_cmp q)) tree.blocks)
    by true = refl
    by false = refl

-- names that are told as one have one key
one_key : (dir : ℕ) (name : List ℕ) (q : ℕ × List ℕ) → ((dir == q.0) && is_same_name name q.1) ≡ true → (P : ℕ × List ℕ → Type 0) → P (dir, name) → P q
one_key dir name q t P p =
    let parts = and_parts (dir == q.0) (is_same_name name q.1) t in
    let first : P (q.0, name) = subst (λ (n : ℕ). P (n, name)) (eqb-true dir q.0 parts.0) p in
    subst (λ (z : List ℕ). P (q.0, z)) (name_is name q.1 parts.1) first

two_keys : (dir : ℕ) (name : List ℕ) (q : ℕ × List ℕ) → ((dir == q.0) && is_same_name name q.1) ≡ false → q ≡ (dir, name) → ⊥
two_keys dir name q t e =
    let a : q.0 ≡ dir = ap (λ (k : ℕ × List ℕ). k.0) e in
    let b : q.1 ≡ name = ap (λ (k : ℕ × List ℕ). k.1) e in
    false≢true (sym t ∙ and_from (dir == q.0) (is_same_name name q.1) (eq-eqb dir q.0 (sym a)) (is_name name q.1 (sym b)))

pub one_entry : (q : ℕ × List ℕ) (tree : Tree) (change : Change) → IsInOrder tree → lookup (is_at (name_cmp q)) (applied tree change).entries ≡ there (makes_entry q tree change) (lookup (is_at (name_cmp q)) tree.entries)
one_entry q tree (SetInode ino inode) s = refl
one_entry q tree (SetEntry e) s = by ((e.dir == q.0) && is_same_name e.name q.1) refl
  where
    by : (b : Bool) → ((e.dir == q.0) && is_same_name e.name q.1) ≡ b → lookup (is_at (name_cmp q)) (insert_entry name_cmp tree.entries (e.dir, e.name) e) ≡ there (cond b (Some (Some e)) None) (lookup (is_at (name_cmp q)) tree.entries)
    by true t = one_key e.dir e.name q t (λ k. lookup (is_at (name_cmp k)) (insert_entry name_cmp tree.entries (e.dir, e.name) e) ≡ Some e) (set_here name_cmp named tree.entries (e.dir, e.name) e)
    by false t = set_other name_cmp named tree.entries (e.dir, e.name) e q (two_keys e.dir e.name q t)
one_entry q tree (DropEntry dir name) s = by ((dir == q.0) && is_same_name name q.1) refl
  where
    by : (b : Bool) → ((dir == q.0) && is_same_name name q.1) ≡ b → lookup (is_at (name_cmp q)) (remove_entry (is_at (name_cmp (dir, name))) tree.entries) ≡ there (cond b (Some None) None) (lookup (is_at (name_cmp q)) tree.entries)
    by true t = one_key dir name q t (λ k. lookup (is_at (name_cmp k)) (remove_entry (is_at (name_cmp (dir, name))) tree.entries) ≡ None) (removed_here name_cmp named tree.entries (dir, name) s.entries)
    by false t = removed_other name_cmp named tree.entries (dir, name) q (two_keys dir name q t)
one_entry q tree (SetBlock ino number bytes) s = by (is_some (inode_at tree ino))
  where
    by : (b : Bool) → lookup (is_at (name_cmp q)) (cond b (record tree { blocks = with_block tree.blocks ino number bytes }) tree).entries ≡ lookup (is_at (name_cmp q)) tree.entries
    by true = refl
    by false = refl
one_entry q tree (CutBlocks ino old_size new_size) s = refl
one_entry q tree (DropInode ino) s = refl

-- ---- and many
there_later : {X : Type 0} (last first : Made X) (before : Option X) → there last (there first before) ≡ there (later last first) before
there_later None first before = refl
there_later (Some made) first before = refl

-- a place that one change makes so is made so by many
pub many : {X : Type 0} (at : Tree → Option X) (makes : Tree → Change → Made X) → ((tree : Tree) (change : Change) → IsInOrder tree → at (applied tree change) ≡ there (makes tree change) (at tree))
    → (changes : List Change) (tree : Tree) → IsInOrder tree → at (apply tree changes) ≡ there (last_made makes tree changes) (at tree)
many at makes one [] tree s = refl
many at makes one (change ∷ changes) tree s =
    many at makes one changes (applied tree change) (applied_in_order tree change s)
    ∙ ap (there (last_made makes (applied tree change) changes)) (one tree change s)
    ∙ there_later (last_made makes (applied tree change) changes) (makes tree change) (at tree)

pub last_inode : (q : ℕ) (changes : List Change) (tree : Tree) → IsInOrder tree → inode_at (apply tree changes) q ≡ there (last_made (makes_inode q) tree changes) (inode_at tree q)
last_inode q = many (λ tree. inode_at tree q) (makes_inode q) (one_inode q)

pub last_block : (q : ℕ × ℕ) (changes : List Change) (tree : Tree) → IsInOrder tree → lookup (is_at (pair_cmp q)) (apply tree changes).blocks ≡ there (last_made (makes_block q) tree changes) (lookup (is_at (pair_cmp q)) tree.blocks)
last_block q = many (λ tree. lookup (is_at (pair_cmp q)) tree.blocks) (makes_block q) (one_block q)

pub last_entry : (q : ℕ × List ℕ) (changes : List Change) (tree : Tree) → IsInOrder tree → lookup (is_at (name_cmp q)) (apply tree changes).entries ≡ there (last_made (makes_entry q) tree changes) (lookup (is_at (name_cmp q)) tree.entries)
last_entry q = many (λ tree. lookup (is_at (name_cmp q)) tree.entries) (makes_entry q) (one_entry q)
