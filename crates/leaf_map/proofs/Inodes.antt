-- What changes make of the inodes that leaves show.
use Rattle.std.proofs.Common.{◌≡◌, ℕ, ◌*◌, ◌^◌, ◌<◌, ◌≤◌, Bool, true, false, List, [], ◌∷◌, refl, sym, ap, ◌∙◌, arith, inl, inr, Option, Some}
use Rattle.std.specs.Prelude.{◌==◌, ◌||◌, nat_le, is_some}
use Rattle.std.specs.List.{list_all, AllByRecursion}
use Rattle.std.specs.BTreeMap.{is_at, insert_entry}
use Rattle.std.specs.Map.{lookup}
use Rattle.std.specs.Ordering.{nat_cmp, is_lt}
use Rattle.std.proofs.lemmas.Bool.{false≢true, and_parts, eqb-true, leb-true, leb-false}
use Rattle.std.proofs.lemmas.Bool.Decides.{nat_tests, eqb_tells}
use Rattle.index_tree.specs.Order.{leaf_rank, ordered_from}
use Rattle.fs_model.specs.declared.change.Change.{Change}
use Rattle.fs_model.specs.declared.change.Change.TheVariants.{SetInode}
use Rattle.fs_model.specs.declared.inode.Inode.{Inode}
use Rattle.fs_model.specs.Files.{Inodes}
use Rattle.fs_laws.specs.Maps.{apart}
use Rattle.fs_laws.specs.Orders.{numbers}
use Rattle.leaf_map.specs.After.{goes, is_gone, is_inode, has_inode, put_leaf}
use Rattle.leaf_map.specs.Kept.{Kept, shown_by}
use Rattle.leaf_map.specs.LeafMap.{IsKeyed}
use Rattle.leaf_map.specs.RankLaws.{rank_is, rank_shown}
use Rattle.leaf_map.specs.Shown.{inodes_of, with_shown_inode}
use Rattle.leaf_map.proofs.Maps.{insert_front, less_is, greater_is, equal_is}
use Rattle.leaf_map.proofs.Ranks.{leaves, are_from, ordered_all}
use Rattle.leaf_map.proofs.Steps.{Reads, put_here, put_past, put_before}

pub read_inodes : Reads with_shown_inode inodes_of
read_inodes = record { step = λ x kept. refl }

lower : (a b : ℕ) → (a == b) ≡ false → a * 2 ^ 33 ≤ b * 2 ^ 33 → a < b
lower a b h l = grind (arith, nat_tests)

pub higher : (a b : ℕ) → (a == b) ≡ false → b * 2 ^ 33 ≤ a * 2 ^ 33 → b < a
higher a b h l = grind (arith, nat_tests)

inode_here : (ino : ℕ) (inode : Inode) (s : Option Change) (rest : Inodes) → goes (SetInode ino inode) s ≡ true → (ino, inode) ∷ rest ≡ insert_entry nat_cmp (with_shown_inode s rest) ino inode
inode_here ino inode (Some (SetInode other old)) rest h =
    let same = eqb-true other ino h in rw (equal_is ino other (sym same)) (ap (λ (n : ℕ). (n, inode) ∷ rest) (sym same))
inode_here ino inode s rest h = absurd (false≢true h)

inode_past : (ino : ℕ) (inode : Inode) (s : Option Change) (rest : Inodes) → goes (SetInode ino inode) s ≡ false → rank_shown s ≤ ino * 2 ^ 33
    → with_shown_inode s (insert_entry nat_cmp rest ino inode) ≡ insert_entry nat_cmp (with_shown_inode s rest) ino inode
inode_past ino inode (Some (SetInode other old)) rest h l = rw (greater_is ino other (lower other ino h l)) refl
inode_past ino inode s rest h l = refl

inode_before : (ino : ℕ) (inode : Inode) (s : Option Change) (rest : Inodes) → goes (SetInode ino inode) s ≡ false → ino * 2 ^ 33 ≤ rank_shown s → list_all (λ e. is_lt (nat_cmp ino e.0)) rest ≡ true
    → (ino, inode) ∷ with_shown_inode s rest ≡ insert_entry nat_cmp (with_shown_inode s rest) ino inode
inode_before ino inode (Some (SetInode other old)) rest h l above = rw (less_is ino other (higher other ino h l)) refl
inode_before ino inode s rest h l above = sym (insert_front nat_cmp rest ino inode above)

above_step : (ino : ℕ) (s : Option Change) (rest : Inodes) → ino * 2 ^ 33 < rank_shown s → list_all (λ e. is_lt (nat_cmp ino e.0)) rest ≡ true → list_all (λ e. is_lt (nat_cmp ino e.0)) (with_shown_inode s rest) ≡ true
above_step ino (Some (SetInode other old)) rest l h = let less : ino < other = omega (arith, l) in rw (less_is ino other less) h
above_step ino s rest l h = h

-- inodes of leaves behind a place are above its number
pub inodes_above : (ino low : ℕ) (kept : List Kept) → AllByRecursion IsKeyed kept → ino * 2 ^ 33 < low → are_from low kept ≡ true → list_all (λ e. is_lt (nat_cmp ino e.0)) (inodes_of kept) ≡ true
inodes_above ino low [] k l h = refl
inodes_above ino low (x ∷ kept) k l h =
    let p = and_parts (nat_le low (leaf_rank x.leaf)) (are_from low kept) h in
    let here = leb-true low (leaf_rank x.leaf) p.0 in
    let rank = rank_is x.leaf (shown_by x) k.0 in
    above_step ino (shown_by x) (inodes_of kept) (omega (arith, l, here, rank)) (inodes_above ino low kept k.1 l p.1)

-- an inode that is put is set
pub put_inodes : (ino : ℕ) (inode : Inode) (new : Kept) (low : ℕ) (kept : List Kept) → shown_by new ≡ Some (SetInode ino inode) → leaf_rank new.leaf ≡ ino * 2 ^ 33 → AllByRecursion IsKeyed kept → ordered_from low (leaves kept) ≡ true
    → inodes_of (put_leaf (is_gone (SetInode ino inode)) new kept) ≡ insert_entry nat_cmp (inodes_of kept) ino inode
put_inodes ino inode new low [] s r k o = ap (λ z. with_shown_inode z []) s
put_inodes ino inode new low (x ∷ kept) s r k o =
    let p = and_parts (nat_le low (leaf_rank x.leaf)) (ordered_from (leaf_rank x.leaf) (leaves kept)) o in
    by p.1 (put_inodes ino inode new (leaf_rank x.leaf) kept s r k.1 p.1) (goes (SetInode ino inode) (shown_by x)) refl (nat_le (leaf_rank x.leaf) (leaf_rank new.leaf)) refl
  where
    old : Kept → Bool
    old = is_gone (SetInode ino inode)

    rank : leaf_rank x.leaf ≡ rank_shown (shown_by x)
    rank = rank_is x.leaf (shown_by x) k.0

    by : ordered_from (leaf_rank x.leaf) (leaves kept) ≡ true → inodes_of (put_leaf old new kept) ≡ insert_entry nat_cmp (inodes_of kept) ino inode → (b : Bool) → goes (SetInode ino inode) (shown_by x) ≡ b → (l : Bool) → nat_le (leaf_rank x.leaf) (leaf_rank new.leaf) ≡ l
        → inodes_of (put_leaf old new (x ∷ kept)) ≡ insert_entry nat_cmp (inodes_of (x ∷ kept)) ino inode
    by rest more true g l e = ap inodes_of (put_here old new x kept g) ∙ ap (λ z. with_shown_inode z (inodes_of kept)) s ∙ inode_here ino inode (shown_by x) (inodes_of kept) g
    by rest more false g true e =
        let le = leb-true (leaf_rank x.leaf) (leaf_rank new.leaf) e in
        let here = rank in
        ap inodes_of (put_past old new x kept g e) ∙ ap (with_shown_inode (shown_by x)) more ∙ inode_past ino inode (shown_by x) (inodes_of kept) g (omega (arith, le, r, here))
    by rest more false g false e =
        let gt = leb-false (leaf_rank x.leaf) (leaf_rank new.leaf) e in
        let here = rank in
        let above = inodes_above ino (leaf_rank x.leaf) kept k.1 (omega (arith, gt, r)) (ordered_all (leaf_rank x.leaf) (leaf_rank x.leaf) kept (omega arith) rest) in
        ap inodes_of (put_before old new x kept g e) ∙ ap (λ z. with_shown_inode z (inodes_of (x ∷ kept))) s ∙ inode_before ino inode (shown_by x) (inodes_of kept) g (omega (arith, gt, r, here)) above

-- whether leaves have an inode is whether their tree has it
has_step : (ino : ℕ) (s : Option Change) (rest : Inodes) (b : Bool) → b ≡ is_some (lookup (is_at (nat_cmp ino)) rest) → (is_inode ino s || b) ≡ is_some (lookup (is_at (nat_cmp ino)) (with_shown_inode s rest))
has_step ino (Some (SetInode other old)) rest b h = elim (eqb_tells other ino) [
  | inl same ↦ rw (same.0, equal_is ino other (sym same.1)) refl
  | inr differ ↦ rw (differ.0, apart nat_cmp numbers ino other (λ e. differ.1 (sym e))) h
]
has_step ino s rest b h = h

pub has_is : (ino : ℕ) (kept : List Kept) → has_inode kept ino ≡ is_some (lookup (is_at (nat_cmp ino)) (inodes_of kept))
has_is ino [] = refl
has_is ino (x ∷ kept) = has_step ino (shown_by x) (inodes_of kept) (has_inode kept ino) (has_is ino kept)
