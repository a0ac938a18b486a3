-- A change that makes a leaf obsolete touches what the leaf shows; of a block, where the tree has its inode.
use Rattle.std.proofs.Common.{◌≡◌, ◌⊎◌, ℕ, Bool, true, false, cond, arith, List, [], ◌∷◌, refl, sym, ap, subst, ◌∙◌, inl, inr, Option, Some, None}
use Rattle.std.specs.Prelude.{◌==◌, ◌||◌, ◌&&◌, is_some}
use Rattle.std.specs.List.{list_any}
use Rattle.std.proofs.lemmas.Bool.{false≢true, and_parts, and_from, eqb-true, eq-eqb}
use Rattle.std.proofs.lemmas.Bool.Decides.{eqb_tells, nat_tests}
use Rattle.fs_model.specs.declared.change.Change.{Change}
use Rattle.fs_model.specs.declared.change.Change.TheVariants.{SetInode, SetEntry, DropEntry, SetBlock, CutBlocks, DropInode}
use Rattle.fs_model.specs.declared.inode.Entry.{Entry}
use Rattle.fs_model.specs.declared.inode.Inode.{Inode}
use Rattle.fs_model.specs.Change.{applied}
use Rattle.fs_model.specs.Files.{Tree, inode_at}
use Rattle.fs_model.specs.Path.{is_same_name}
use Rattle.fs_model.specs.Proper.{IsInOrder}
use Rattle.fs_laws.specs.Forgotten.{applied_in_order}
use Rattle.leaf_map.specs.After.{goes}
use Rattle.leaf_map.specs.Allowed.{HasInode, IsTouched, IsTouchedIn}
use Rattle.leaf_map.specs.LastChange.{Made, last_made, makes_block, makes_entry, makes_inode, there}
use Rattle.leaf_map.specs.Parts.{is_shown}
use Rattle.leaf_map.proofs.Agrees.{touched_later}
use Rattle.leaf_map.proofs.Lasts.{one_inode}
use Rattle.leaf_map.proofs.Names.{is_name}
use Rattle.leaf_map.proofs.Ranks.{name_is}

or_either : (a b : Bool) → (a || b) ≡ true → (a ≡ true) ⊎ (b ≡ true)
or_either true b h = inl refl
or_either false b h = inr h

one_inode_touched : (ino : ℕ) (inode : Inode) (change : Change) (tree : Tree) → goes change (Some (SetInode ino inode)) ≡ true → IsTouched (makes_inode ino tree change)
one_inode_touched ino inode (SetInode q x) tree h = rw (eq-eqb q ino (sym (eqb-true ino q h))) refl
one_inode_touched ino inode (DropInode q) tree h = rw (eq-eqb q ino (sym (eqb-true ino q h))) refl
one_inode_touched ino inode change tree h = absurd (false≢true h)

inode_touched : (ino : ℕ) (inode : Inode) (changes : List Change) (tree : Tree) → list_any (λ c. goes c (Some (SetInode ino inode))) changes ≡ true → IsTouched (last_made (makes_inode ino) tree changes)
inode_touched ino inode [] tree h = absurd (false≢true h)
inode_touched ino inode (change ∷ changes) tree h = touched_later (last_made (makes_inode ino) (applied tree change) changes) (makes_inode ino tree change)
    (elim (or_either (goes change (Some (SetInode ino inode))) (list_any (λ c. goes c (Some (SetInode ino inode))) changes) h) [
      | inl e ↦ inr (one_inode_touched ino inode change tree e)
      | inr e ↦ inl (inode_touched ino inode changes (applied tree change) e)
    ])

one_entry_touched : (one : Entry) (change : Change) (tree : Tree) → goes change (Some (SetEntry one)) ≡ true → IsTouched (makes_entry (one.dir, one.name) tree change)
one_entry_touched one (SetEntry e) tree h = turned e.dir e.name (λ b. cond b (Some (Some e)) None) refl h
  where
    turned : (dir : ℕ) (name : List ℕ) (f : Bool → Made Entry) → f true ≡ Some (Some e) → ((one.dir == dir) && is_same_name one.name name) ≡ true → IsTouched (f ((dir == one.dir) && is_same_name name one.name))
    turned dir name f t h =
        let p = and_parts (one.dir == dir) (is_same_name one.name name) h in
        let a = and_from (dir == one.dir) (is_same_name name one.name) (eq-eqb dir one.dir (sym (eqb-true one.dir dir p.0))) (is_name name one.name (sym (name_is one.name name p.1))) in
        ap (λ (b : Bool). is_some (f b)) a ∙ ap is_some t
one_entry_touched one (DropEntry dir name) tree h =
    let p = and_parts (one.dir == dir) (is_same_name one.name name) h in
    let a = and_from (dir == one.dir) (is_same_name name one.name) (eq-eqb dir one.dir (sym (eqb-true one.dir dir p.0))) (is_name name one.name (sym (name_is one.name name p.1))) in
    rw a refl
one_entry_touched one change tree h = absurd (false≢true h)

entry_touched : (one : Entry) (changes : List Change) (tree : Tree) → list_any (λ c. goes c (Some (SetEntry one))) changes ≡ true → IsTouched (last_made (makes_entry (one.dir, one.name)) tree changes)
entry_touched one [] tree h = absurd (false≢true h)
entry_touched one (change ∷ changes) tree h = touched_later (last_made (makes_entry (one.dir, one.name)) (applied tree change) changes) (makes_entry (one.dir, one.name) tree change)
    (elim (or_either (goes change (Some (SetEntry one))) (list_any (λ c. goes c (Some (SetEntry one))) changes) h) [
      | inl e ↦ inr (one_entry_touched one change tree e)
      | inr e ↦ inl (entry_touched one changes (applied tree change) e)
    ])

one_block_touched : (ino number : ℕ) (bytes : List ℕ) (change : Change) (tree : Tree) → is_some (inode_at tree ino) ≡ true → goes change (Some (SetBlock ino number bytes)) ≡ true → IsTouched (makes_block (ino, number) tree change)
one_block_touched ino number bytes (SetBlock q at x) tree there h =
    let p = and_parts (ino == q) (number == at) h in
    let e : ino ≡ q = eqb-true ino q p.0 in
    let is : is_some (inode_at tree q) ≡ true = subst (λ (z : ℕ). is_some (inode_at tree z) ≡ true) e there in
    rw (eq-eqb q ino (sym e), eq-eqb at number (sym (eqb-true number at p.1)), is) refl
one_block_touched ino number bytes (CutBlocks q old_size new_size) tree there h = rw h refl
one_block_touched ino number bytes (DropInode q) tree there h = rw h refl
one_block_touched ino number bytes change tree there h = absurd (false≢true h)

-- where a change takes the inode away it drops it with its blocks
lost_block : (ino number : ℕ) (change : Change) (tree : Tree) → IsInOrder tree → is_some (inode_at tree ino) ≡ true → is_some (inode_at (applied tree change) ino) ≡ false → IsTouched (makes_block (ino, number) tree change)
lost_block ino number (DropInode q) tree s t f = elim (eqb_tells ino q) [
  | inl same ↦ rw same.0 refl
  | inr differ ↦
      let away : (q == ino) ≡ false = turned differ.0 in
      let stays : inode_at (applied tree (DropInode q)) ino ≡ inode_at tree ino = one_inode ino tree (DropInode q) s ∙ ap (λ (b : Bool). there_is b) away in
      absurd (false≢true (sym f ∙ ap is_some stays ∙ t))
]
  where
    there_is : Bool → Option Inode
    there_is b = there (cond b (Some None) None) (inode_at tree ino)

    turned : (ino == q) ≡ false → (q == ino) ≡ false
    turned h = grind (arith, nat_tests)
lost_block ino number (SetInode q x) tree s t f = absurd (by (q == ino) (ap is_some (sym (one_inode ino tree (SetInode q x) s)) ∙ f))
  where
    by : (b : Bool) → is_some (there (cond b (Some (Some x)) None) (inode_at tree ino)) ≡ false → ⊥
    by true h = false≢true (sym h)
    by false h = false≢true (sym h ∙ t)
lost_block ino number (SetEntry e) tree s t f = absurd (false≢true (sym f ∙ ap is_some (one_inode ino tree (SetEntry e) s) ∙ t))
lost_block ino number (DropEntry dir name) tree s t f = absurd (false≢true (sym f ∙ ap is_some (one_inode ino tree (DropEntry dir name) s) ∙ t))
lost_block ino number (SetBlock q at x) tree s t f = absurd (false≢true (sym f ∙ ap is_some (one_inode ino tree (SetBlock q at x) s) ∙ t))
lost_block ino number (CutBlocks q a b) tree s t f = absurd (false≢true (sym f ∙ ap is_some (one_inode ino tree (CutBlocks q a b) s) ∙ t))

block_touched : (ino number : ℕ) (bytes : List ℕ) (changes : List Change) (tree : Tree) → IsInOrder tree → is_some (inode_at tree ino) ≡ true → list_any (λ c. goes c (Some (SetBlock ino number bytes))) changes ≡ true
    → IsTouched (last_made (makes_block (ino, number)) tree changes)
block_touched ino number bytes [] tree s t h = absurd (false≢true h)
block_touched ino number bytes (change ∷ changes) tree s t h = touched_later (last_made (makes_block (ino, number)) (applied tree change) changes) (makes_block (ino, number) tree change)
    (elim (or_either (goes change (Some (SetBlock ino number bytes))) (list_any (λ c. goes c (Some (SetBlock ino number bytes))) changes) h) [
      | inl e ↦ inr (one_block_touched ino number bytes change tree t e)
      | inr e ↦ by (λ still. block_touched ino number bytes changes (applied tree change) (applied_in_order tree change s) still e) (is_some (inode_at (applied tree change) ino)) refl
    ])
  where
    Later : Type 0
    Later = IsTouched (last_made (makes_block (ino, number)) (applied tree change) changes)

    by : (is_some (inode_at (applied tree change) ino) ≡ true → Later) → (b : Bool) → is_some (inode_at (applied tree change) ino) ≡ b → Later ⊎ IsTouched (makes_block (ino, number) tree change)
    by more true e = inl (more e)
    by more false e = inr (lost_block ino number change tree s t e)

-- the inode of a block is there
pub goes_touched : (changes : List Change) (tree : Tree) (s : Option Change) → IsInOrder tree → HasInode tree s → is_shown s ≡ true → list_any (λ c. goes c s) changes ≡ true → IsTouchedIn tree changes s
goes_touched changes tree (Some (SetInode ino inode)) sorted has shown h = inode_touched ino inode changes tree h
goes_touched changes tree (Some (SetBlock ino number bytes)) sorted has shown h = block_touched ino number bytes changes tree sorted has h
goes_touched changes tree (Some (SetEntry e)) sorted has shown h = entry_touched e changes tree h
goes_touched changes tree s sorted has shown h = absurd (false≢true shown)
