-- Credits that are covered and given back, and what else stays.
use Rattle.std.proofs.Common.{◌≡◌, ◌⊎◌, inl, inr, ℕ, ◌+◌, ◌-◌, ◌<◌, ◌≤◌, length, refl, sym, ap, subst, ◌∙◌, arith}
use Rattle.std.specs.Prelude.{Option}
use Rattle.fs_model.specs.declared.space.Grant.{Grant}
use Rattle.fs_model.specs.Backing.{BackingState, Outlook, given_back, granted}
use Rattle.buffered_files.specs.Calls.{SureGoes}
use Rattle.vfs_ops.specs.declared.event.Event.TheVariants.{Drain, Refill}
use Rattle.vfs_ops.specs.declared.event.Outcome.{Outcome}
use Rattle.vfs_ops.specs.declared.event.Outcome.TheVariants.{Drained, Granted, Refused}
use Rattle.vfs_ops.specs.Background.{granted_in}
use Rattle.vfs_ops.specs.FilesState.{FilesState}
use Rattle.vfs_ops.specs.Passing.{IsStep}
use Rattle.vfs_ops.specs.Writing.{credits_need}
use Rattle.credited_files.specs.Calls.{IsFullFor}
use Rattle.credited_files.specs.States.{HasOtherCredits}

-- a volume that was sure is so after two steps, if it is after each
pub sure_then : (a b c : Outlook) (x y z : BackingState) → SureGoes a b x y → SureGoes b c y z → SureGoes a c x z
sure_then a b c x y z h k = record { sure = λ s. by (h.sure s); spent = λ s. k.spent (h.spent s) }
  where
    again : c.spent ⊎ (c.sure × (z.faults ≡ y.faults)) → y.faults ≡ x.faults → c.spent ⊎ (c.sure × (z.faults ≡ x.faults))
    again (inl spent) same = inl spent
    again (inr still) same = inr (still.0, still.1 ∙ same)

    by : b.spent ⊎ (b.sure × (y.faults ≡ x.faults)) → c.spent ⊎ (c.sure × (z.faults ≡ x.faults))
    by (inl spent) = inl (k.spent spent)
    by (inr still) = again (k.sure still.0) still.1

pub sure_still : (a : Outlook) (x : BackingState) → SureGoes a a x x
sure_still a x = record { sure = λ s. inr (s, refl); spent = λ s. s }

-- files with so many credits covered, and this grant
abbrev pub covering : ℕ → Option Grant → FilesState → FilesState
covering credits grant s = record s { backing = record s.backing { space = record s.backing.space { credits = credits }; grant = grant } }

pub others_then : (a b c : FilesState) → HasOtherCredits a b → HasOtherCredits b c → HasOtherCredits a c
others_then a b c h k = k ∙ ap (covering c.backing.space.credits c.backing.grant) h

pub others_still : (a : FilesState) → HasOtherCredits a a
others_still a = refl

-- what an event makes of credits
pub record AreCovered (old new : FilesState) (n more : ℕ) : Type 0 where
  pub all : (more ≡ n) ⊎ ((more ≡ 0) × IsFullFor old.backing n × (new ≡ old))
  pub only : HasOtherCredits old new
  pub credits : new.backing.space.credits ≡ old.backing.space.credits + more

pub of_refill : (old new : FilesState) (n : ℕ) (outcome : Outcome) → IsStep old new (Refill n) outcome → AreCovered old new n (granted_in outcome)
of_refill old new n (Granted m) h =
    let made = h.made.0 in
    let is : new ≡ record old { backing = granted old.backing (credits_need n) } = h.made.1 ∙ ap (λ (b : BackingState). record old { backing = b }) made.1.1 in
    record {
      all = inl made.0;
      only = subst (λ (x : FilesState). HasOtherCredits old x) (sym is) refl;
      credits = ap (λ (x : FilesState). x.backing.space.credits) is ∙ ap (λ (k : ℕ). old.backing.space.credits + k) (sym made.0);
    }
of_refill old new n (Refused space) h =
    let made = h.made.0 in
    let is : new ≡ old = h.made.1 ∙ ap (λ (b : BackingState). record old { backing = b }) made.0 in
    let need = made.1 in
    let room = made.2 in
    let less = made.3 in
    record {
      all = inr (refl, omega (arith, need, room, less), is);
      only = subst (λ (x : FilesState). HasOtherCredits old x) (sym is) refl;
      credits = let same = ap (λ (x : FilesState). x.backing.space.credits) is in omega (arith, same);
    }
of_refill old new n outcome h = absurd h.made.0

pub record AreGivenBack (old new : FilesState) (n : ℕ) : Type 0 where
  pub only : HasOtherCredits old new
  pub credits : new.backing.space.credits ≡ old.backing.space.credits - n

pub of_drain : (old new : FilesState) (n : ℕ) (outcome : Outcome) → IsStep old new (Drain n) outcome → AreGivenBack old new n
of_drain old new n (Drained m) h =
    let is : new ≡ record old { backing = given_back old.backing n } = h.made.1 ∙ ap (λ (b : BackingState). record old { backing = b }) h.made.0.1 in
    record { only = subst (λ (x : FilesState). HasOtherCredits old x) (sym is) refl; credits = ap (λ (x : FilesState). x.backing.space.credits) is }
of_drain old new n outcome h = absurd h.made.0

-- the first attempt covers all, or changes nothing, and then the second tells
pub at_once : (old mid new : FilesState) (n wanted first second : ℕ) → wanted ≤ n → (first ≡ n) ⊎ ((first ≡ 0) × IsFullFor old.backing n × (mid ≡ old)) → first < wanted → (second ≡ wanted) ⊎ ((second ≡ 0) × IsFullFor mid.backing wanted × (new ≡ mid))
    → (first ≡ 0) × ((wanted ≤ second) ⊎ ((second ≡ 0) × IsFullFor old.backing wanted))
at_once old mid new n wanted first second le (inl all) less h = absurd (omega (arith, le, all, less))
at_once old mid new n wanted first second le (inr none) less (inl all) = (none.0, inl (omega (arith, all)))
at_once old mid new n wanted first second le (inr none) less (inr full) = (none.0, inr (full.0, subst (λ (x : FilesState). IsFullFor x.backing wanted) none.2 full.1))

-- what is covered is no more than what was asked for
pub no_more : (old new : FilesState) (n most all : ℕ) → (all ≡ n) ⊎ ((all ≡ 0) × IsFullFor old.backing n × (new ≡ old)) → n ≤ most → all ≤ most
no_more old new n most all (inl is) le = omega (arith, is, le)
no_more old new n most all (inr none) le = let zero = none.0 in omega (arith, zero)

-- no page becomes dirty or clean
pub dirty_same : (old new : FilesState) → HasOtherCredits old new → length new.kept.pages.dirty ≡ length old.kept.pages.dirty
dirty_same old new only = ap (λ (x : FilesState). length x.kept.pages.dirty) only

-- fewer than wanted is none, since there is no room
pub none_covered : (state : BackingState) (wanted all : ℕ) → (wanted ≤ all) ⊎ ((all ≡ 0) × IsFullFor state wanted) → all < wanted → (all ≡ 0) × IsFullFor state wanted
none_covered state wanted all (inl enough) less = absurd (omega (arith, enough, less))
none_covered state wanted all (inr none) less = none
