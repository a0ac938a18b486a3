-- Trees that differ in nothing but what changes touch are one after these changes.
use Rattle.std.proofs.Common.{◌≡◌, ◌⊎◌, ℕ, Bool, true, false, cond, not, ◌&&◌, max, List, [], ◌∷◌, refl, sym, ap, ◌∙◌, inl, inr, Option, Some, None}
use Rattle.std.specs.Prelude.{◌==◌, is_some}
use Rattle.std.specs.BTreeMap.{is_at}
use Rattle.std.specs.List.{list_all}
use Rattle.std.specs.Map.{lookup}
use Rattle.std.proofs.lemmas.Bool.{false≢true, and_parts, eq-eqb}
use Rattle.std.proofs.lemmas.Bool.Decides.{eqb_tells}
use Rattle.fs_model.specs.declared.change.Change.{Change}
use Rattle.fs_model.specs.declared.change.Change.TheVariants.{SetInode, SetEntry, DropEntry, SetBlock, CutBlocks, DropInode}
use Rattle.fs_model.specs.declared.inode.Inode.{Inode}
use Rattle.fs_model.specs.Change.{applied, apply, key_number}
use Rattle.fs_model.specs.Files.{Tree, inode_at, name_cmp, pair_cmp}
use Rattle.fs_model.specs.Proper.{IsInOrder}
use Rattle.fs_laws.specs.Forgotten.{applied_in_order}
use Rattle.leaf_map.specs.Allowed.{AgreeBut, AreForgotten, IsTouched, sets_inode}
use Rattle.leaf_map.specs.LastChange.{Made, last_made, later, makes_block, makes_entry, makes_inode, there}
use Rattle.leaf_map.proofs.Forgets.{AreClose, IsGone, unlinked}
use Rattle.leaf_map.proofs.Lasts.{last_block, last_entry, last_inode, one_inode}

-- ---- what is made of an inode and of a name doesn't go by the tree
one_inode_made : (q : ℕ) (a b : Tree) (change : Change) → makes_inode q a change ≡ makes_inode q b change
one_inode_made q a b (SetInode ino inode) = refl
one_inode_made q a b (DropInode ino) = refl
one_inode_made q a b change = refl

same_inode_made : (q : ℕ) (changes : List Change) (a b : Tree) → last_made (makes_inode q) a changes ≡ last_made (makes_inode q) b changes
same_inode_made q [] a b = refl
same_inode_made q (change ∷ changes) a b =
    ap (λ m. later m (makes_inode q a change)) (same_inode_made q changes (applied a change) (applied b change))
    ∙ ap (later (last_made (makes_inode q) (applied b change) changes)) (one_inode_made q a b change)

one_entry_made : (q : ℕ × List ℕ) (a b : Tree) (change : Change) → makes_entry q a change ≡ makes_entry q b change
one_entry_made q a b (SetEntry e) = refl
one_entry_made q a b (DropEntry dir name) = refl
one_entry_made q a b change = refl

same_entry_made : (q : ℕ × List ℕ) (changes : List Change) (a b : Tree) → last_made (makes_entry q) a changes ≡ last_made (makes_entry q) b changes
same_entry_made q [] a b = refl
same_entry_made q (change ∷ changes) a b =
    ap (λ m. later m (makes_entry q a change)) (same_entry_made q changes (applied a change) (applied b change))
    ∙ ap (later (last_made (makes_entry q) (applied b change) changes)) (one_entry_made q a b change)

-- ---- what is made of a block goes by the inodes that are there
abbrev HaveSame : Tree → Tree → Type 0
HaveSame a b = (q : ℕ) → is_some (inode_at a q) ≡ is_some (inode_at b q)

there_some : {X : Type 0} (made : Made X) (x y : Option X) → is_some x ≡ is_some y → is_some (there made x) ≡ is_some (there made y)
there_some None x y h = h
there_some (Some made) x y h = refl

have_applied : (change : Change) (a b : Tree) → IsInOrder a → IsInOrder b → HaveSame a b → HaveSame (applied a change) (applied b change)
have_applied change a b s t h q =
    ap is_some (one_inode q a change s)
    ∙ ap (λ m. is_some (there m (inode_at a q))) (one_inode_made q a b change)
    ∙ there_some (makes_inode q b change) (inode_at a q) (inode_at b q) (h q)
    ∙ sym (ap is_some (one_inode q b change t))

one_block_made : (q : ℕ × ℕ) (a b : Tree) (change : Change) → HaveSame a b → makes_block q a change ≡ makes_block q b change
one_block_made q a b (SetBlock ino number bytes) h = ap (λ (i : Bool). cond ((ino == q.0) && (number == q.1) && i) (Some (Some bytes)) None) (h ino)
one_block_made q a b (CutBlocks ino old_size new_size) h = refl
one_block_made q a b (DropInode ino) h = refl
one_block_made q a b change h = refl

same_block_made : (q : ℕ × ℕ) (changes : List Change) (a b : Tree) → IsInOrder a → IsInOrder b → HaveSame a b → last_made (makes_block q) a changes ≡ last_made (makes_block q) b changes
same_block_made q [] a b s t h = refl
same_block_made q (change ∷ changes) a b s t h =
    ap (λ m. later m (makes_block q a change)) (same_block_made q changes (applied a change) (applied b change) (applied_in_order a change s) (applied_in_order b change t) (have_applied change a b s t h))
    ∙ ap (later (last_made (makes_block q) (applied b change) changes)) (one_block_made q a b change h)

touched : {X : Type 0} (made : Made X) (x y : Option X) → IsTouched made → there made x ≡ there made y
touched None x y h = absurd cc
touched (Some made) x y h = refl

same_highest : (changes : List Change) (a b : Tree) → a.highest ≡ b.highest → (apply a changes).highest ≡ (apply b changes).highest
same_highest [] a b h = h
same_highest (change ∷ changes) a b h = same_highest changes (applied a change) (applied b change) (ap (λ n. max n (key_number change)) h)

-- ---- an inode that no change sets
-- what a change makes of an inode that it sets, or drops
abbrev made : Inode → Bool → Made Inode
made inode b = cond b (Some (Some inode)) None

abbrev dropped : Bool → Made Inode
dropped b = cond b (Some None) None

one_unset : (q : ℕ) (change : Change) (tree : Tree) → not (sets_inode q change) ≡ true → (makes_inode q tree change ≡ None) ⊎ (makes_inode q tree change ≡ Some None)
one_unset q (SetInode ino inode) tree h = inl (by (ino == q) h)
  where
    by : (b : Bool) → not b ≡ true → made inode b ≡ None
    by true t = absurd (false≢true t)
    by false t = refl
one_unset q (DropInode ino) tree h = by (ino == q)
  where
    by : (b : Bool) → (dropped b ≡ None) ⊎ (dropped b ≡ Some None)
    by true = inr refl
    by false = inl refl
one_unset q change tree h = inl refl

-- is dropped or not touched
unset_made : (q : ℕ) (changes : List Change) (tree : Tree) → list_all (λ change. not (sets_inode q change)) changes ≡ true → (last_made (makes_inode q) tree changes ≡ None) ⊎ (last_made (makes_inode q) tree changes ≡ Some None)
unset_made q [] tree h = inl refl
unset_made q (change ∷ changes) tree h =
    let p = and_parts (not (sets_inode q change)) (list_all (λ change. not (sets_inode q change)) changes) h in
    elim (unset_made q changes (applied tree change) p.1) [
      | inl e ↦ elim (one_unset q change tree p.0) [
        | inl f ↦ inl (ap (λ m. later m (makes_inode q tree change)) e ∙ f)
        | inr f ↦ inr (ap (λ m. later m (makes_inode q tree change)) e ∙ f)
      ]
      | inr e ↦ inr (ap (λ m. later m (makes_inode q tree change)) e)
    ]

pub touched_later : {X : Type 0} (m n : Made X) → IsTouched m ⊎ IsTouched n → IsTouched (later m n)
touched_later None n (inl t) = absurd (false≢true t)
touched_later None n (inr t) = t
touched_later (Some x) n t = refl

drop_touches : (q : ℕ × ℕ) (change : Change) (tree : Tree) → not (sets_inode q.0 change) ≡ true → makes_inode q.0 tree change ≡ Some None → IsTouched (makes_block q tree change)
drop_touches q (SetInode ino inode) tree h e = by (ino == q.0) h e
  where
    by : (b : Bool) → not b ≡ true → made inode b ≡ Some None → IsTouched (makes_block q tree (SetInode ino inode))
    by true t f = absurd (false≢true t)
    by false t f = absurd cc
drop_touches q (DropInode ino) tree h e = elim (eqb_tells ino q.0) [
  | inl same ↦ rw (eq-eqb q.0 ino (sym same.1)) refl
  | inr differ ↦ absurd (never (rw differ.0 at e))
]
  where
    never : dropped false ≡ Some None → ⊥
    never f = absurd cc
drop_touches q change tree h e = absurd cc

-- and where it is dropped its blocks go
drop_block : (q : ℕ × ℕ) (changes : List Change) (tree : Tree) → list_all (λ change. not (sets_inode q.0 change)) changes ≡ true → last_made (makes_inode q.0) tree changes ≡ Some None → IsTouched (last_made (makes_block q) tree changes)
drop_block q [] tree h e = absurd cc
drop_block q (change ∷ changes) tree h e =
    let p = and_parts (not (sets_inode q.0 change)) (list_all (λ change. not (sets_inode q.0 change)) changes) h in
    elim (unset_made q.0 changes (applied tree change) p.1) [
      | inl f ↦
          let here : makes_inode q.0 tree change ≡ Some None = sym (ap (λ m. later m (makes_inode q.0 tree change)) f) ∙ e in
          touched_later (last_made (makes_block q) (applied tree change) changes) (makes_block q tree change) (inr (drop_touches q change tree p.0 here))
      | inr f ↦ touched_later (last_made (makes_block q) (applied tree change) changes) (makes_block q tree change) (inl (drop_block q changes (applied tree change) p.1 f))
    ]

pub agree_after : (listed : List ℕ) (changes : List Change) (a b : Tree) → IsInOrder a → IsInOrder b → AgreeBut listed changes a b → AreClose listed (apply a changes) (apply b changes)
agree_after listed changes a b s t h = record {
  inodes = λ q. inode q (h.inodes q);
  blocks = λ q. block q (h.blocks q);
  entries = λ q. last_entry q changes a s ∙ ap (λ m. there m (lookup (is_at (name_cmp q)) a.entries)) (same_entry_made q changes a b) ∙ entry q (h.entries q) ∙ sym (last_entry q changes b t);
  highest = same_highest changes a b h.highest;
}
  where
    inode_is : (q : ℕ) → there (last_made (makes_inode q) b changes) (inode_at a q) ≡ there (last_made (makes_inode q) b changes) (inode_at b q) → inode_at (apply a changes) q ≡ inode_at (apply b changes) q
    inode_is q e = last_inode q changes a s ∙ ap (λ m. there m (inode_at a q)) (same_inode_made q changes a b) ∙ e ∙ sym (last_inode q changes b t)

    block_is : (q : ℕ × ℕ) → there (last_made (makes_block q) b changes) (lookup (is_at (pair_cmp q)) a.blocks) ≡ there (last_made (makes_block q) b changes) (lookup (is_at (pair_cmp q)) b.blocks)
        → lookup (is_at (pair_cmp q)) (apply a changes).blocks ≡ lookup (is_at (pair_cmp q)) (apply b changes).blocks
    block_is q e = last_block q changes a s ∙ ap (λ m. there m (lookup (is_at (pair_cmp q)) a.blocks)) (same_block_made q changes a b s t h.there) ∙ e ∙ sym (last_block q changes b t)

    -- an inode that isn't touched and goes
    goes_still : (q : ℕ) → AreForgotten listed changes a b q → last_made (makes_inode q) b changes ≡ None → IsGone listed (apply a changes) (apply b changes) q
    goes_still q out e = (
      ap unlinked (last_inode q changes a s ∙ ap (λ m. there m (inode_at a q)) (same_inode_made q changes a b ∙ e)) ∙ out.0.nameless,
      ap unlinked (last_inode q changes b t ∙ ap (λ m. there m (inode_at b q)) e) ∙ out.1.nameless,
      out.1.listed,
    )

    inode : (q : ℕ) → (inode_at a q ≡ inode_at b q) ⊎ (IsTouched (last_made (makes_inode q) b changes) ⊎ AreForgotten listed changes a b q) → (inode_at (apply a changes) q ≡ inode_at (apply b changes) q) ⊎ IsGone listed (apply a changes) (apply b changes) q
    inode q (inl e) = inl (inode_is q (ap (there (last_made (makes_inode q) b changes)) e))
    inode q (inr (inl m)) = inl (inode_is q (touched (last_made (makes_inode q) b changes) (inode_at a q) (inode_at b q) m))
    inode q (inr (inr out)) = elim (unset_made q changes b out.1.unset) [
      | inl e ↦ inr (goes_still q out e)
      | inr e ↦ inl (inode_is q (touched (last_made (makes_inode q) b changes) (inode_at a q) (inode_at b q) (ap is_some e)))
    ]

    block : (q : ℕ × ℕ) → (lookup (is_at (pair_cmp q)) a.blocks ≡ lookup (is_at (pair_cmp q)) b.blocks) ⊎ (IsTouched (last_made (makes_block q) b changes) ⊎ AreForgotten listed changes a b q.0)
        → (lookup (is_at (pair_cmp q)) (apply a changes).blocks ≡ lookup (is_at (pair_cmp q)) (apply b changes).blocks) ⊎ IsGone listed (apply a changes) (apply b changes) q.0
    block q (inl e) = inl (block_is q (ap (there (last_made (makes_block q) b changes)) e))
    block q (inr (inl m)) = inl (block_is q (touched (last_made (makes_block q) b changes) (lookup (is_at (pair_cmp q)) a.blocks) (lookup (is_at (pair_cmp q)) b.blocks) m))
    block q (inr (inr out)) = elim (unset_made q.0 changes b out.1.unset) [
      | inl e ↦ inr (goes_still q.0 out e)
      | inr e ↦ inl (block_is q (touched (last_made (makes_block q) b changes) (lookup (is_at (pair_cmp q)) a.blocks) (lookup (is_at (pair_cmp q)) b.blocks) (drop_block q changes b out.1.unset e)))
    ]

    entry : (q : ℕ × List ℕ) → (lookup (is_at (name_cmp q)) a.entries ≡ lookup (is_at (name_cmp q)) b.entries) ⊎ IsTouched (last_made (makes_entry q) b changes)
        → there (last_made (makes_entry q) b changes) (lookup (is_at (name_cmp q)) a.entries) ≡ there (last_made (makes_entry q) b changes) (lookup (is_at (name_cmp q)) b.entries)
    entry q (inl e) = ap (there (last_made (makes_entry q) b changes)) e
    entry q (inr m) = touched (last_made (makes_entry q) b changes) (lookup (is_at (name_cmp q)) a.entries) (lookup (is_at (name_cmp q)) b.entries) m
