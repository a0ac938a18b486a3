-- Room was made.
use Rattle.std.proofs.Common.{◌≡◌, ℕ, ◌+◌, ◌*◌, ◌≤◌, inl, inr, Ok, Err, [], length, refl, sym, ap, subst, arith}
use Rattle.std.specs.Prelude.{Result, OnOk}
use Rattle.ubifs_base.specs.Areas.{main_lebs}
use Rattle.fs_model.specs.declared.backing_answers.StoreFault.{StoreFault}
use Rattle.fs_model.specs.declared.backing_answers.StoreFault.TheVariants.{Memory, Volume, ReadOnly as IsReadOnly}
use Rattle.fs_model.specs.declared.space.Need.{Need}
use Rattle.fs_model.specs.Backing.{BackingState, Goes, HasCause, Rose, granted}
use Rattle.fs_model.specs.Cover.{tree_bytes}
use Rattle.fs_model.specs.Files.{Files, Inodes, Tree}
use Rattle.buffered_files.specs.declared.kept.Kept.{Kept}
use Rattle.buffered_files.specs.Alike.{IsAlike}
use Rattle.buffered_files.specs.CallLaws.{Goes-granted, Goes-none, Goes-then, Goes-within}
use Rattle.buffered_files.specs.Calls.{HasCommitted, HasMadeRoom, IsNotEnospc, IsWithoutRoom, TellsMode, refusal_of}
use Rattle.buffered_files.specs.Present.{DirtyPages, covered, present}

-- what holds after Ok holds where something weaker is asked
pub on_ok : {T E : Type 0} {P Q : Type 0} (r : Result T E) → (P → Q) → OnOk r P → OnOk r Q
on_ok (Ok x) f h = f h
on_ok (Err e) f h = tt

-- files with no page dirty are the tree's
bare : (a : Files) (tree last : Tree) (kept : Kept) → IsAlike a (present tree kept) → kept.pages.dirty ≡ [] → kept.inodes ≡ [] → last ≡ tree → IsAlike a (record { tree = last; handles = a.handles })
bare a tree last kept alike pages inodes same = subst (λ t. IsAlike a (record { tree = t; handles = a.handles })) (sym same) by
  where
    P : Inodes → DirtyPages → Type 0
    P is ps = IsAlike a (record { tree = covered tree is ps; handles = kept.handles })

    none : P [] []
    none = subst (λ ps. P [] ps) pages (subst (λ is. P is kept.pages.dirty) inodes alike)

    by : IsAlike a (record { tree = tree; handles = a.handles })
    by = record { inodes = none.inodes; blocks = none.blocks; entries = none.entries; highest = none.highest; handles = refl; sizes = none.sizes }

pub all_put : (old put new : BackingState) (before kept : Kept) → HasCommitted new → IsAlike (present old.tree before) (present put.tree kept) → kept.pages.dirty ≡ [] → kept.inodes ≡ [] → new.tree ≡ put.tree → new.space.credits ≡ put.space.credits
    → put.space.credits + length before.pages.dirty ≡ old.space.credits + length kept.pages.dirty → new.space.used ≡ tree_bytes new.tree → new.space.main ≡ main_lebs new.geometry → Goes (2 * length before.pages.dirty) old new → HasMadeRoom old new before
all_put old put new before kept done alike pages inodes tree credits issued used main goes = record {
  committed = done;
  files = bare (present old.tree before) put.tree new.tree kept alike pages inodes tree;
  credits = let none : length kept.pages.dirty ≡ 0 = ap (λ ps. length ps) pages in omega (arith, none, credits, issued);
  used = used;
  main = main;
  goes = goes;
}

rose_later : (a b count : ℕ) → a ≤ b → Rose b count → Rose a count
rose_later a b count h (inl r) = inl (omega (arith, h, r))
rose_later a b count h (inr r) = inr r

-- a group that was admitted isn't put for a fault
pub put_refused : (old mid new : BackingState) (kept : Kept) (need : Need) (fault : StoreFault) → old.faults ≤ mid.faults → HasCause {T = Unit {0}} mid new (Err fault) → TellsMode {T = Unit {0}} new (Err fault) → IsWithoutRoom old new kept need (refusal_of fault)
put_refused old mid new kept need Memory more cause mode = tt
put_refused old mid new kept need (Volume count) more cause mode = (rose_later old.faults mid.faults new.faults more cause.0, cause.1, cause.2)
put_refused old mid new kept need (IsReadOnly why) more cause mode = mode

-- what is put once its need was admitted at once is all that is put
pub goes_at_once : (n : ℕ) (old mid new : BackingState) (need : Need) → mid ≡ granted old need → Goes n mid new → Goes n old new
goes_at_once n old mid new need same goes = Goes-within (0 + n) n old new (omega arith) (Goes-then 0 n old mid new (Goes-granted 0 old old mid need (Goes-none old) same) goes)

-- a fault of the backing isn't told as want of room
pub fault_told : (T : Type 0) (fault : StoreFault) → IsNotEnospc {T = T} (Err (refusal_of fault))
fault_told T Memory = tt
fault_told T (Volume count) = tt
fault_told T (IsReadOnly why) = tt
