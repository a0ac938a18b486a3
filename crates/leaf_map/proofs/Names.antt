-- What changes make of the names that leaves show.
use Rattle.std.proofs.Common.{◌≡◌, ℕ, Bool, true, false, cond, not, ◌&&◌, List, [], ◌∷◌, refl, sym, ap, subst, ◌∙◌, Option, Some}
use Rattle.std.specs.Prelude.{◌==◌, nat_le, filter}
use Rattle.std.specs.BTreeMap.{is_at, insert_entry}
use Rattle.std.specs.Map.{remove_entry, keys_of}
use Rattle.std.proofs.lemmas.Bool.{false≢true, and_parts, and_from, eqb-true, eq-eqb}
use Rattle.index_tree.specs.Order.{leaf_rank}
use Rattle.fs_model.specs.declared.change.Change.{Change}
use Rattle.fs_model.specs.declared.change.Change.TheVariants.{SetEntry, DropEntry}
use Rattle.fs_model.specs.declared.inode.Entry.{Entry}
use Rattle.fs_model.specs.Files.{Entries, name_cmp}
use Rattle.fs_model.specs.Path.{is_same_name}
use Rattle.fs_model.specs.Proper.{ascends}
use Rattle.fs_laws.specs.Maps.{insert_ascends}
use Rattle.fs_laws.specs.Orders.{named, bytes_same}
use Rattle.leaf_map.specs.After.{goes, is_gone, put_leaf}
use Rattle.leaf_map.specs.Kept.{Kept, shown_by}
use Rattle.leaf_map.specs.Shown.{entries_of, with_entry}
use Rattle.fs_laws.specs.Insertions.{insert_twice, insert_swap}
use Rattle.leaf_map.proofs.Maps.{remove_insert, remove_swap}
use Rattle.leaf_map.proofs.Ranks.{name_is}
use Rattle.leaf_map.proofs.Steps.{Reads, put_here, put_past, put_before}

pub read_entries : Reads with_entry entries_of
read_entries = record { step = λ x kept. refl }

-- the key of a name
abbrev pub key : ℕ → List ℕ → ℕ × List ℕ
key dir name = (dir, name)

pub same_key : (old : Entry) (dir : ℕ) (name : List ℕ) → ((old.dir == dir) && is_same_name old.name name) ≡ true → key old.dir old.name ≡ key dir name
same_key old dir name h =
    let p = and_parts (old.dir == dir) (is_same_name old.name name) h in
    ap (λ (n : ℕ). key n old.name) (eqb-true old.dir dir p.0) ∙ ap (key dir) (name_is old.name name p.1)

pub is_name : (a b : List ℕ) → a ≡ b → is_same_name a b ≡ true
is_name a b e = subst (λ z. is_same_name a z ≡ true) e (rw (bytes_same a) refl)

pub other_key : (old : Entry) (dir : ℕ) (name : List ℕ) → ((old.dir == dir) && is_same_name old.name name) ≡ false → key dir name ≡ key old.dir old.name → ⊥
other_key old dir name h e =
    let a : old.dir ≡ dir = sym (ap (λ (k : ℕ × List ℕ). k.0) e) in
    let b : old.name ≡ name = sym (ap (λ (k : ℕ × List ℕ). k.1) e) in
    false≢true (sym h ∙ and_from (old.dir == dir) (is_same_name old.name name) (eq-eqb old.dir dir a) (is_name old.name name b))

entry_here : (e : Entry) (s : Option Change) (rest : Entries) → goes (SetEntry e) s ≡ true → insert_entry name_cmp rest (e.dir, e.name) e ≡ insert_entry name_cmp (with_entry s rest) (e.dir, e.name) e
entry_here e (Some (SetEntry old)) rest h =
    subst (λ (k : ℕ × List ℕ). insert_entry name_cmp rest (e.dir, e.name) e ≡ insert_entry name_cmp (insert_entry name_cmp rest k old) (e.dir, e.name) e) (sym (same_key old e.dir e.name h)) (sym (insert_twice name_cmp named rest (e.dir, e.name) old e))
entry_here e s rest h = absurd (false≢true h)

entry_past : (e : Entry) (s : Option Change) (rest : Entries) → goes (SetEntry e) s ≡ false → with_entry s (insert_entry name_cmp rest (e.dir, e.name) e) ≡ insert_entry name_cmp (with_entry s rest) (e.dir, e.name) e
entry_past e (Some (SetEntry old)) rest h = insert_swap name_cmp named rest (e.dir, e.name) (old.dir, old.name) e old (other_key old e.dir e.name h)
entry_past e s rest h = refl

-- a name that is put is set
pub put_entries : (e : Entry) (new : Kept) (kept : List Kept) → shown_by new ≡ Some (SetEntry e) → entries_of (put_leaf (is_gone (SetEntry e)) new kept) ≡ insert_entry name_cmp (entries_of kept) (e.dir, e.name) e
put_entries e new [] s = ap (λ z. with_entry z []) s
put_entries e new (x ∷ kept) s = by (put_entries e new kept s) (goes (SetEntry e) (shown_by x)) refl (nat_le (leaf_rank x.leaf) (leaf_rank new.leaf)) refl
  where
    old : Kept → Bool
    old = is_gone (SetEntry e)

    by : entries_of (put_leaf old new kept) ≡ insert_entry name_cmp (entries_of kept) (e.dir, e.name) e → (b : Bool) → goes (SetEntry e) (shown_by x) ≡ b → (l : Bool) → nat_le (leaf_rank x.leaf) (leaf_rank new.leaf) ≡ l
        → entries_of (put_leaf old new (x ∷ kept)) ≡ insert_entry name_cmp (entries_of (x ∷ kept)) (e.dir, e.name) e
    by more true g l h = ap entries_of (put_here old new x kept g) ∙ ap (λ z. with_entry z (entries_of kept)) s ∙ entry_here e (shown_by x) (entries_of kept) g
    by more false g true h = ap entries_of (put_past old new x kept g h) ∙ ap (with_entry (shown_by x)) more ∙ entry_past e (shown_by x) (entries_of kept) g
    by more false g false h = ap entries_of (put_before old new x kept g h) ∙ ap (λ z. with_entry z (entries_of (x ∷ kept))) s

entry_ascends : (s : Option Change) (rest : Entries) → ascends name_cmp (keys_of rest) ≡ true → ascends name_cmp (keys_of (with_entry s rest)) ≡ true
entry_ascends (Some (SetEntry e)) rest h = insert_ascends name_cmp named rest (e.dir, e.name) e h
entry_ascends s rest h = h

-- the names are sorted
pub entries_ascend : (kept : List Kept) → ascends name_cmp (keys_of (entries_of kept)) ≡ true
entries_ascend [] = refl
entries_ascend (x ∷ kept) = entry_ascends (shown_by x) (entries_of kept) (entries_ascend kept)

drop_step : (dir : ℕ) (name : List ℕ) (s : Option Change) (rest : Entries) → ascends name_cmp (keys_of rest) ≡ true → (b : Bool) → goes (DropEntry dir name) s ≡ b
    → cond (not b) (with_entry s (remove_entry (is_at (name_cmp (dir, name))) rest)) (remove_entry (is_at (name_cmp (dir, name))) rest) ≡ remove_entry (is_at (name_cmp (dir, name))) (with_entry s rest)
drop_step dir name (Some (SetEntry old)) rest a true h =
    subst (λ (k : ℕ × List ℕ). remove_entry (is_at (name_cmp (dir, name))) rest ≡ remove_entry (is_at (name_cmp (dir, name))) (insert_entry name_cmp rest k old)) (sym (same_key old dir name h)) (sym (remove_insert name_cmp named rest (dir, name) old a))
drop_step dir name (Some (SetEntry old)) rest a false h = sym (remove_swap name_cmp named rest (dir, name) (old.dir, old.name) old (other_key old dir name h) a)
drop_step dir name s rest a true h = absurd (false≢true h)
drop_step dir name s rest a false h = refl

-- and a name that goes is taken out
pub drop_entries : (dir : ℕ) (name : List ℕ) (kept : List Kept) → entries_of (filter (λ x. not (is_gone (DropEntry dir name) x)) kept) ≡ remove_entry (is_at (name_cmp (dir, name))) (entries_of kept)
drop_entries dir name [] = refl
drop_entries dir name (x ∷ kept) = by (drop_entries dir name kept) (is_gone (DropEntry dir name) x) refl
  where
    stay : Kept → Bool
    stay = λ x. not (is_gone (DropEntry dir name) x)

    by : entries_of (filter stay kept) ≡ remove_entry (is_at (name_cmp (dir, name))) (entries_of kept) → (b : Bool) → is_gone (DropEntry dir name) x ≡ b
        → entries_of (cond (not b) (x ∷ filter stay kept) (filter stay kept)) ≡ remove_entry (is_at (name_cmp (dir, name))) (entries_of (x ∷ kept))
    by more true h = more ∙ drop_step dir name (shown_by x) (entries_of kept) (entries_ascend kept) true h
    by more false h = ap (with_entry (shown_by x)) more ∙ drop_step dir name (shown_by x) (entries_of kept) (entries_ascend kept) false h
