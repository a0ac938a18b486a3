-- What a write leaves whose pages are covered: all that it needs of the credits, told of numbers alone.
use Rattle.std.proofs.Common.{◌≡◌, ℕ, ◌+◌, ◌-◌, ◌≤◌, ◌⊎◌, inr, length, Ok, Err, ap, subst, sym, ◌∙◌, arith}
use Rattle.fs_model.specs.declared.refusal.Refusal.{Refusal}
use Rattle.fs_model.specs.declared.refusal.Refusal.TheVariants.{Eio, Enomem}
use Rattle.fs_model.specs.Backing.{BackingState, Goes, Outlook, given_back}
use Rattle.fs_model.specs.Files.{Files}
use Rattle.buffered_files.specs.declared.kept.Kept.{Kept}
use Rattle.buffered_files.specs.Alike.{IsAlike}
use Rattle.buffered_files.specs.Present.{IsKept, newly_dirty, present}
use Rattle.vfs_plans.specs.Answers.{IsFault, Looks}
use Rattle.vfs_ops.specs.Writing.{IsBuffered, IsCovered}
use Rattle.vfs_ops.proofs.Held.{fault_at_once, fault_after}

-- what was covered pays the pages that a write is about to touch
pub covers_more : (c0 c1 d0 d1 new grant have : ℕ) → d0 + grant ≤ c0 → c1 + d0 + grant ≡ c0 + d1 + have → new ≤ have → d1 + new ≤ c1
covers_more c0 c1 d0 d1 new grant have paid issued enough = omega (arith, paid, issued, enough)

-- and those that it has touched
pub covers_written : (c0 c1 c2 d0 d1 d2 new grant have : ℕ) → d0 + grant ≤ c0 → c1 + d0 + grant ≡ c0 + d1 + have → new ≤ have → d2 ≡ d1 + new → c2 ≡ c1 → d2 ≤ c2
covers_written c0 c1 c2 d0 d1 d2 new grant have paid issued enough count same = omega (arith, paid, issued, enough, count, same)

-- what is left of a grant is what was covered less the pages touched
pub issued_written : (c0 c1 c2 d0 d1 d2 new grant have left : ℕ) → c1 + d0 + grant ≡ c0 + d1 + have → new ≤ have → have - new ≡ left → d2 ≡ d1 + new → c2 ≡ c1 → c2 + d0 + grant ≡ c0 + d2 + left
issued_written c0 c1 c2 d0 d1 d2 new grant have left issued enough exact count same = omega (arith, issued, enough, exact, count, same)

-- where nothing was touched, what was covered beyond the grant is given back
pub issued_returned : (c0 c1 c2 c3 d0 d1 d2 grant have : ℕ) → d0 + grant ≤ c0 → c1 + d0 + grant ≡ c0 + d1 + have → grant ≤ have → d2 ≡ d1 → c2 ≡ c1 → c3 ≡ c2 - (have - grant) → c3 + d0 ≡ c0 + d2
issued_returned c0 c1 c2 c3 d0 d1 d2 grant have paid issued more count same given = omega (arith, paid, issued, more, count, same, given)

-- the dirty pages are paid then
pub covers_returned : (c0 c3 d0 d2 grant : ℕ) → d0 + grant ≤ c0 → c3 + d0 ≡ c0 + d2 → d2 ≤ c3
covers_returned c0 c3 d0 d2 grant paid issued = omega (arith, paid, issued)

-- what is kept fits a backing that got credits back
pub kept_given : (a b : BackingState) (credits : ℕ) (kept : Kept) → b ≡ given_back a credits → IsKept a.tree kept → IsKept b.tree kept
kept_given a b credits kept given fits = subst (λ (s : BackingState). IsKept s.tree kept) (sym given) fits

-- callers see the same then
pub same_given : (a b : BackingState) (credits : ℕ) (before mid : Files) (kept : Kept) → b ≡ given_back a credits → present a.tree kept ≡ mid → IsAlike before mid → IsAlike before (present b.tree kept)
same_given a b credits before mid kept given same alike = subst (λ (s : BackingState). IsAlike before (present s.tree kept)) (sym given) (subst (λ (files : Files). IsAlike before files) (sym same) alike)

-- and a fault is one still
pub fault_given : (n : ℕ) (old a b c : BackingState) (credits : ℕ) (r : Refusal) → Goes n old a → c ≡ given_back b credits → IsFault a b r → IsFault old c r
fault_given n old a b c credits (Eio count) goes given fault = subst (λ (s : BackingState). IsFault old s (Eio count)) (sym given) (fault_after n old a b (Eio count) goes fault)
fault_given n old a b c credits Enomem goes given fault = tt
fault_given n old a b c credits r goes given fault = absurd fault

-- either of two, the second
pub second_of : (P Q : Type 0) → Q → P ⊎ Q
second_of P Q holds = inr holds

-- a write whose pages are covered is kept in memory
pub covered_buffered : {x y : Outlook} {a b : BackingState} → Looks x y a b → (old : BackingState) (kept mid after : Kept) (ino offs len have left : ℕ) → IsCovered {T = ℕ} old a kept mid (Ok have) → length after.pages.dirty ≡ length mid.pages.dirty + newly_dirty mid.pages.dirty ino offs len
    → IsBuffered {T = ℕ} old b kept after ino offs len (Ok left)
covered_buffered {x} {y} {a} {b} looks old kept mid after ino offs len have left covered count = record {
  geometry = ap (λ (s : BackingState). s.geometry) looks.reads ∙ covered.geometry;
  tree = ap (λ (s : BackingState). s.tree) looks.reads ∙ covered.tree;
  journal = ap (λ (s : BackingState). s.journal) looks.reads ∙ covered.journal;
  room = tt;
  dirty = count ∙ ap (λ (k : Kept). length k.pages.dirty + newly_dirty k.pages.dirty ino offs len) covered.still;
  refused = tt;
}

-- and one that a fault refuses has put nothing
pub fault_buffered : {x y : Outlook} {a b : BackingState} → Looks x y a b → (old c : BackingState) (kept mid after : Kept) (ino offs len have credits : ℕ) (r : Refusal) → IsCovered {T = ℕ} old a kept mid (Ok have) → after.pages.dirty ≡ mid.pages.dirty → c ≡ given_back b credits
    → IsFault a b r → IsBuffered {T = ℕ} old c kept after ino offs len (Err r)
fault_buffered {x} {y} {a} {b} looks old c kept mid after ino offs len have credits r covered same given fault = record {
  geometry = ap (λ (s : BackingState). s.geometry) given ∙ ap (λ (s : BackingState). s.geometry) looks.reads ∙ covered.geometry;
  tree = ap (λ (s : BackingState). s.tree) given ∙ ap (λ (s : BackingState). s.tree) looks.reads ∙ covered.tree;
  journal = ap (λ (s : BackingState). s.journal) given ∙ ap (λ (s : BackingState). s.journal) looks.reads ∙ covered.journal;
  room = fault_at_once ℕ a b r fault;
  dirty = tt;
  refused = same ∙ ap (λ (k : Kept). k.pages.dirty) covered.still;
}
