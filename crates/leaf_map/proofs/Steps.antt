-- One leaf that is put: in the place of the one that goes, past one of no greater key, or in front of the others.
use Rattle.std.proofs.Common.{◌≡◌, Bool, true, false, cond, not, List, [], ◌∷◌, refl, sym, ap, ◌∙◌, Option}
use Rattle.std.specs.Prelude.{nat_le, filter}
use Rattle.index_tree.specs.Order.{leaf_rank}
use Rattle.fs_model.specs.declared.change.Change.{Change}
use Rattle.leaf_map.specs.After.{goes, is_gone, put_leaf}
use Rattle.leaf_map.specs.Kept.{Kept, shown_by}

pub put_here : (old : Kept → Bool) (new x : Kept) (kept : List Kept) → old x ≡ true → put_leaf old new (x ∷ kept) ≡ new ∷ kept
put_here old new x kept h = rw h refl

pub put_past : (old : Kept → Bool) (new x : Kept) (kept : List Kept) → old x ≡ false → nat_le (leaf_rank x.leaf) (leaf_rank new.leaf) ≡ true → put_leaf old new (x ∷ kept) ≡ x ∷ put_leaf old new kept
put_past old new x kept h l = rw (h, l) refl

pub put_before : (old : Kept → Bool) (new x : Kept) (kept : List Kept) → old x ≡ false → nat_le (leaf_rank x.leaf) (leaf_rank new.leaf) ≡ false → put_leaf old new (x ∷ kept) ≡ new ∷ x ∷ kept
put_before old new x kept h l = rw (h, l) refl

-- what is read off leaves one by one, by what each shows
pub record Reads {A : Type 0} (read : Option Change → A → A) (of : List Kept → A) : Type 0 where
  pub step : (x : Kept) (kept : List Kept) → of (x ∷ kept) ≡ read (shown_by x) (of kept)

-- is as before where it has nothing of what is put, nor of what goes
pub put_leaves : {A : Type 0} (read : Option Change → A → A) (of : List Kept → A) (change : Change) (new : Kept) → Reads read of → ((a : A) → read (shown_by new) a ≡ a) → ((s : Option Change) (a : A) → goes change s ≡ true → read s a ≡ a)
    → (kept : List Kept) → of (put_leaf (is_gone change) new kept) ≡ of kept
put_leaves read of change new r n g [] = r.step new [] ∙ n (of [])
put_leaves {A} read of change new r n g (x ∷ kept) = by (put_leaves read of change new r n g kept) (is_gone change x) refl (nat_le (leaf_rank x.leaf) (leaf_rank new.leaf)) refl
  where
    by : of (put_leaf (is_gone change) new kept) ≡ of kept → (b : Bool) → is_gone change x ≡ b → (l : Bool) → nat_le (leaf_rank x.leaf) (leaf_rank new.leaf) ≡ l → of (put_leaf (is_gone change) new (x ∷ kept)) ≡ of (x ∷ kept)
    by more true h l e = ap of (put_here (is_gone change) new x kept h) ∙ r.step new kept ∙ n (of kept) ∙ sym (g (shown_by x) (of kept) h) ∙ sym (r.step x kept)
    by more false h true e = ap of (put_past (is_gone change) new x kept h e) ∙ r.step x (put_leaf (is_gone change) new kept) ∙ ap (read (shown_by x)) more ∙ sym (r.step x kept)
    by more false h false e = ap of (put_before (is_gone change) new x kept h e) ∙ r.step new (x ∷ kept) ∙ n (of (x ∷ kept))

pub drop_leaves : {A : Type 0} (read : Option Change → A → A) (of : List Kept → A) (change : Change) → Reads read of → ((s : Option Change) (a : A) → goes change s ≡ true → read s a ≡ a)
    → (kept : List Kept) → of (filter (λ x. not (is_gone change x)) kept) ≡ of kept
drop_leaves read of change r g [] = refl
drop_leaves {A} read of change r g (x ∷ kept) = by (drop_leaves read of change r g kept) (is_gone change x) refl
  where
    by : of (filter (λ x. not (is_gone change x)) kept) ≡ of kept → (b : Bool) → is_gone change x ≡ b
        → of (cond (not b) (x ∷ filter (λ x. not (is_gone change x)) kept) (filter (λ x. not (is_gone change x)) kept)) ≡ of (x ∷ kept)
    by more true h = more ∙ sym (g (shown_by x) (of kept) h) ∙ sym (r.step x kept)
    by more false h = r.step x (filter (λ x. not (is_gone change x)) kept) ∙ ap (read (shown_by x)) more ∙ sym (r.step x kept)
