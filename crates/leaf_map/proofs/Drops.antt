-- An inode that goes is taken out of the inodes that leaves show.
use Rattle.std.proofs.Common.{◌≡◌, ℕ, Bool, true, false, cond, not, List, [], ◌∷◌, refl, sym, ap, subst, ◌∙◌, inl, inr, Option, Some, None}
use Rattle.std.specs.Prelude.{filter}
use Rattle.std.specs.List.{list_all}
use Rattle.std.specs.BTreeMap.{is_at}
use Rattle.std.specs.Map.{lookup, remove_entry}
use Rattle.std.specs.Ordering.{nat_cmp}
use Rattle.std.proofs.lemmas.Bool.{false≢true, and_parts, eqb-true, eq-eqb}
use Rattle.std.proofs.lemmas.Bool.Decides.{eqb_tells}
use Rattle.fs_model.specs.declared.change.Change.{Change}
use Rattle.fs_model.specs.declared.change.Change.TheVariants.{SetInode, DropInode}
use Rattle.fs_model.specs.declared.inode.Inode.{Inode}
use Rattle.fs_model.specs.Files.{Inodes}
use Rattle.fs_laws.specs.Maps.{apart}
use Rattle.fs_laws.specs.Orders.{numbers}
use Rattle.leaf_map.specs.After.{goes, is_gone}
use Rattle.leaf_map.specs.Kept.{Kept, shown_by}
use Rattle.leaf_map.specs.LeafMap.{are_apart, shows_same}
use Rattle.leaf_map.specs.Shown.{inodes_of, with_shown_inode}
use Rattle.leaf_map.proofs.Maps.{remove_missing, equal_is}

missing_step : (ino : ℕ) (old : Inode) (s : Option Change) (rest : Inodes) → not (goes (SetInode ino old) s) ≡ true → lookup (is_at (nat_cmp ino)) rest ≡ None → lookup (is_at (nat_cmp ino)) (with_shown_inode s rest) ≡ None
missing_step ino old (Some (SetInode other inode)) rest n h = elim (eqb_tells other ino) [
  | inl same ↦ let no = rw same.0 at n in absurd (false≢true no)
  | inr differ ↦ rw (apart nat_cmp numbers ino other (λ e. differ.1 (sym e))) h
]
missing_step ino old s rest n h = h

-- no inode of this number is shown where no leaf shows it
pub missing_inode : (ino : ℕ) (old : Inode) (kept : List Kept) → list_all (λ y. not (goes (SetInode ino old) (shown_by y))) kept ≡ true → lookup (is_at (nat_cmp ino)) (inodes_of kept) ≡ None
missing_inode ino old [] h = refl
missing_inode ino old (x ∷ kept) h =
    let p = and_parts (not (goes (SetInode ino old) (shown_by x))) (list_all (λ y. not (goes (SetInode ino old) (shown_by y))) kept) h in
    missing_step ino old (shown_by x) (inodes_of kept) p.0 (missing_inode ino old kept p.1)

drop_step : (ino : ℕ) (s : Option Change) (rest less : Inodes) (kept : List Kept) → less ≡ remove_entry (is_at (nat_cmp ino)) rest → inodes_of kept ≡ rest → list_all (λ y. not (shows_same s (shown_by y))) kept ≡ true → (b : Bool) → goes (DropInode ino) s ≡ b
    → cond (not b) (with_shown_inode s less) less ≡ remove_entry (is_at (nat_cmp ino)) (with_shown_inode s rest)
drop_step ino (Some (SetInode other old)) rest less kept l r h true g =
    let same : other ≡ ino = eqb-true other ino g in
    let P : ℕ → Type 0 = λ n. list_all (λ y. not (goes (SetInode n old) (shown_by y))) kept ≡ true in
    let none = missing_inode ino old kept (subst P same h) in
    let gone : lookup (is_at (nat_cmp ino)) rest ≡ None = subst (λ z. lookup (is_at (nat_cmp ino)) z ≡ None) r none in
    rw (equal_is ino other (sym same)) (l ∙ remove_missing (is_at (nat_cmp ino)) rest gone)
drop_step ino (Some (SetInode other old)) rest less kept l r h false g =
    let differ : ino ≡ other → ⊥ = λ e. false≢true (sym g ∙ eq-eqb other ino (sym e)) in
    rw (apart nat_cmp numbers ino other differ) (ap (λ z. (other, old) ∷ z) l)
drop_step ino s rest less kept l r h true g = l
drop_step ino s rest less kept l r h false g = l

pub drop_inodes : (ino : ℕ) (kept : List Kept) → are_apart kept ≡ true → inodes_of (filter (λ x. not (is_gone (DropInode ino) x)) kept) ≡ remove_entry (is_at (nat_cmp ino)) (inodes_of kept)
drop_inodes ino [] h = refl
drop_inodes ino (x ∷ kept) h =
    let p = and_parts (list_all (λ y. not (shows_same (shown_by x) (shown_by y))) kept) (are_apart kept) h in
    by (drop_inodes ino kept p.1) p.0 (is_gone (DropInode ino) x) refl
  where
    stay : Kept → Bool
    stay = λ x. not (is_gone (DropInode ino) x)

    by : inodes_of (filter stay kept) ≡ remove_entry (is_at (nat_cmp ino)) (inodes_of kept) → list_all (λ y. not (shows_same (shown_by x) (shown_by y))) kept ≡ true → (b : Bool) → is_gone (DropInode ino) x ≡ b
        → inodes_of (cond (not b) (x ∷ filter stay kept) (filter stay kept)) ≡ remove_entry (is_at (nat_cmp ino)) (inodes_of (x ∷ kept))
    by more here true g = drop_step ino (shown_by x) (inodes_of kept) (inodes_of (filter stay kept)) kept more refl here true g
    by more here false g = drop_step ino (shown_by x) (inodes_of kept) (inodes_of (filter stay kept)) kept more refl here false g
