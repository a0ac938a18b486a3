-- How far the rounds of a group have come.
use Rattle.std.proofs.Common.{◌≡◌, ℕ, ◌+◌, ◌^◌, ◌<◌, ◌≤◌, List, [], ◌∷◌, ◌++◌, length, drop, drop-cons, get_or, refl, sym, ap, subst, ◌∙◌, arith, suc}
use Rattle.std.specs.Prelude.{sum_by, reverse}
use Rattle.std.specs.List.{AllByRecursion}
use Rattle.std.proofs.Math.Seq.{drop-length}
use Rattle.std.proofs.lemmas.List.{reverse-append}
use Rattle.std.proofs.lemmas.List.Sums.{sum_by_push}
use Rattle.fs_model.specs.declared.change.Change.{Change}
use Rattle.plain_backing.specs.declared.tree_cells.TreeCells.{TreeCells}
use Rattle.fs_model.specs.Change.{apply, applied}
use Rattle.plain_backing.specs.TreeCells.{tree_of_cells, set_bytes, HasCellRoom, AreCellsCounted, KeepsRoom, Makes}
use Rattle.plain_backing.proofs.Counted.{rooms_kept}

all_push : {X : Type 0} (P : X → Type 0) (xs : List X) (x : X) → AllByRecursion P xs → P x → AllByRecursion P (xs ++ x ∷ [])
all_push P [] x h p = (p, tt)
all_push P (y ∷ xs) x h p = (h.0, all_push P xs x h.1 p)

all_popped : {X : Type 0} (P : X → Type 0) (xs : List X) (x : X) → AllByRecursion P (xs ++ x ∷ []) → AllByRecursion P xs × P x
all_popped P [] x h = (tt, h.0)
all_popped P (y ∷ xs) x h = let more = all_popped P xs x h.1 in ((h.0, more.0), more.1)

reverse_push : {X : Type 0} (xs : List X) (x : X) → reverse (xs ++ x ∷ []) ≡ x ∷ reverse xs
reverse_push xs x = reverse-append xs (x ∷ [])

drop_one : (xs : List Change) (i j : ℕ) (x : Change) → i < length xs → j ≡ suc i → x ≡ get_or xs i x → drop i xs ≡ x ∷ drop j xs
drop_one xs i j x h e at = drop-cons xs i x h ∙ ap (λ y. y ∷ drop (suc i) xs) (sym at) ∙ ap (λ n. x ∷ drop n xs) (sym e)

-- the changes from the last one down to this place are copied, and have their cells
pub record PreparedSoFar (old now : TreeCells) (changes copies : List Change) (left total : ℕ) : Type 0 where
  pub tree : tree_of_cells now ≡ tree_of_cells old
  pub bytes : now.bytes ≡ old.bytes
  pub orphans : now.orphans ≡ old.orphans
  pub copied : reverse copies ≡ drop left changes
  pub within : left ≤ length changes
  pub room : AllByRecursion (HasCellRoom now) copies
  pub sum : total ≡ old.bytes + sum_by set_bytes copies
  pub fits : total < 2 ^ 40

pub prepare_begins : (c : TreeCells) (changes copies : List Change) (n : ℕ) → copies ≡ [] → n ≡ length changes → c.bytes < 2 ^ 40 → PreparedSoFar c c changes copies n c.bytes
prepare_begins c changes copies n none all small =
    rw (none, all) (record { tree = refl; bytes = refl; orphans = refl; copied = sym (drop-length changes); within = omega arith; room = tt; sum = omega arith; fits = small })

pub prepared_more : (old now new : TreeCells) (changes copies more : List Change) (left next total grown added : ℕ) (change here : Change) → PreparedSoFar old now changes copies left total → left ≡ suc next → here ≡ get_or changes next here → change ≡ here → added ≡ set_bytes change → grown ≡ total + added → grown < 2 ^ 40
    → tree_of_cells new ≡ tree_of_cells now → new.bytes ≡ now.bytes → new.orphans ≡ now.orphans → KeepsRoom now new → HasCellRoom new change → more ≡ copies ++ change ∷ [] → PreparedSoFar old new changes more next grown
prepared_more old now new changes copies more left next total grown added change here so less at copy size sum small tree bytes orphans keeps made push =
    let sums = ap (sum_by set_bytes) push ∙ sum_by_push set_bytes copies change in
    let before = so.sum in
    let same : change ≡ get_or changes next change = copy ∙ at ∙ ap (get_or changes next) (sym copy) in
    record {
      tree = tree ∙ so.tree;
      bytes = bytes ∙ so.bytes;
      orphans = orphans ∙ so.orphans;
      copied = ap reverse push ∙ reverse_push copies change ∙ ap (λ xs. change ∷ xs) so.copied ∙ sym (drop_one changes next left change (omega (arith, so.within, less)) less same);
      within = omega (arith, so.within, less);
      room = subst (AllByRecursion (HasCellRoom new)) (sym push) (all_push (HasCellRoom new) copies change (rooms_kept now new keeps copies so.room) made);
      sum = omega (arith, sums, before, size, sum);
      fits = small;
    }

-- the changes that are made make, with those that are left, what all make
pub record MadeSoFar (old now : TreeCells) (all left : List Change) : Type 0 where
  pub made : apply (tree_of_cells now) (reverse left) ≡ apply (tree_of_cells old) (reverse all)
  pub room : AllByRecursion (HasCellRoom now) left
  pub fits : now.bytes + sum_by set_bytes left < 2 ^ 40
  pub counted : AreCellsCounted now

-- what the next change needs
pub record Ready (now : TreeCells) (change : Change) : Type 0 where
  pub room : HasCellRoom now change
  pub fits : now.bytes + set_bytes change < 2 ^ 64

pub next_ready : (old now : TreeCells) (all left rest : List Change) (change : Change) → MadeSoFar old now all left → left ≡ rest ++ change ∷ [] → Ready now change
next_ready old now all left rest change so is =
    let sums = ap (sum_by set_bytes) is ∙ sum_by_push set_bytes rest change in
    let fits = so.fits in
    record { room = (all_popped (HasCellRoom now) rest change (subst (AllByRecursion (HasCellRoom now)) is so.room)).1; fits = omega (arith, sums, fits) }

pub made_more : (old now new : TreeCells) (all left rest : List Change) (change : Change) → MadeSoFar old now all left → left ≡ rest ++ change ∷ [] → Makes now new (applied (tree_of_cells now) change) (set_bytes change) → MadeSoFar old new all rest
made_more old now new all left rest change so is makes =
    let sums = ap (sum_by set_bytes) is ∙ sum_by_push set_bytes rest change in
    let fits = so.fits in
    let bytes = makes.bytes in
    let list : reverse left ≡ change ∷ reverse rest = ap reverse is ∙ reverse_push rest change in
    record {
      made = ap (λ t. apply t (reverse rest)) makes.tree ∙ ap (apply (tree_of_cells now)) (sym list) ∙ so.made;
      room = rooms_kept now new makes.room rest (all_popped (HasCellRoom now) rest change (subst (AllByRecursion (HasCellRoom now)) is so.room)).0;
      fits = omega (arith, sums, fits, bytes);
      counted = makes.counted;
    }
