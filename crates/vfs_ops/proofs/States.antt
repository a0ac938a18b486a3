-- What holds after looks at a backing.
use Rattle.std.proofs.Common.{◌≡◌, ℕ, ◌≤◌, inl, inr, ap, ◌∙◌, arith}
use Rattle.fs_model.specs.Backing.{BackingState, Outlook, Rose}
use Rattle.fs_model.specs.declared.refusal.Refusal.{Refusal}
use Rattle.fs_model.specs.declared.refusal.Refusal.TheVariants.{Enospc, Erofs, Eio, Enomem}
use Rattle.fs_model.specs.declared.space.Need.{Need}
use Rattle.buffered_files.specs.declared.kept.Kept.{Kept}
use Rattle.buffered_files.specs.Calls.{IsWithoutRoom}
use Rattle.buffered_files.specs.CallLaws.{Goes-then, Sure-then}
use Rattle.vfs_plans.specs.Answers.{Looks, IsFault}

-- looking twice is looking
pub both : {x y z : Outlook} {a b c : BackingState} → Looks x y a b → Looks y z b c → Looks x z a c
both {x} {y} {z} {a} {b} {c} first second = record {
  reads = let P : BackingState → BackingState = λ s. record s { mode = c.mode; faults = c.faults } in second.reads ∙ ap P first.reads;
  goes = Goes-then 0 0 a b c first.goes second.goes;
  sure = Sure-then x y z a b c first.sure second.sure;
}

-- the tree stays
pub tree_on : {x y : Outlook} {a b : BackingState} → Looks x y a b → b.tree ≡ a.tree
tree_on looks = ap (λ s. s.tree) looks.reads

-- and so do the credits
pub credits_on : {x y : Outlook} {a b : BackingState} → Looks x y a b → b.space.credits ≡ a.space.credits
credits_on looks = ap (λ s. s.space.credits) looks.reads

rose_later : (a b count : ℕ) → a ≤ b → Rose b count → Rose a count
rose_later a b count h (inl r) = inl (omega (arith, h, r))
rose_later a b count h (inr r) = inr r

-- a fault after a look is one
pub fault_later : {x y : Outlook} {a b : BackingState} → Looks x y a b → (c : BackingState) (r : Refusal) → IsFault b c r → IsFault a c r
fault_later {x} {y} {a} {b} looks c (Eio count) fault = (rose_later a.faults b.faults c.faults looks.goes.faults fault.0, fault.1, fault.2)
fault_later looks c Enomem fault = tt
fault_later looks c refusal fault = absurd fault

-- and want of room after a look is that
pub room_later : {x y : Outlook} {a b : BackingState} → Looks x y a b → (c : BackingState) (kept : Kept) (need : Need) (r : Refusal) → IsWithoutRoom b c kept need r → IsWithoutRoom a c kept need r
room_later {x} {y} {a} {b} looks c kept need (Eio count) h = (rose_later a.faults b.faults c.faults looks.goes.faults h.0, h.1, h.2)
room_later looks c kept need (Enospc space) h = h
room_later looks c kept need (Erofs cause) h = h
room_later looks c kept need Enomem h = tt
room_later looks c kept need refusal h = absurd h
