-- How much heavier the index gets.
use Rattle.std.proofs.Common.{◌≡◌, ℕ, ◌+◌, ◌*◌, ◌≤◌, true, [], length, refl, ap, arith}
use Rattle.ubifs_base.specs.declared.raw_geometry.RawGeometry.{RawGeometry}
use Rattle.fs_model.specs.Backing.{BackingState, Goes}
use Rattle.buffered_files.specs.declared.kept.Kept.{Kept}
use Rattle.buffered_files.specs.Calls.{GrowsBy}
use Rattle.plain_backing.specs.declared.backing.PlainBacking.{PlainBacking}
use Rattle.plain_backing.specs.PlainBacking.{backing_state_of}
use Rattle.space_sums.proofs.Index.{index_lebs-grows}
use Rattle.vfs_ops.specs.declared.event.Event.{Event}
use Rattle.vfs_ops.specs.declared.event.Event.TheVariants.{Put}
use Rattle.vfs_ops.specs.declared.event.Outcome.{Outcome}
use Rattle.vfs_ops.specs.declared.event.Outcome.TheVariants.{Fault}
use Rattle.fs_model.specs.declared.backing_answers.StoreFault.TheVariants.{Volume}
use Rattle.vfs_ops.specs.Background.{added_in, is_work, nodes_in}
use Rattle.script_run.specs.Run.{HasGrown, ScriptRunning}
use Rattle.script_run.specs.Sessions.{mounted_over}

-- over a step that puts so many nodes
pub grown_of : (old new : PlainBacking) (before after : Kept) (now added put n : ℕ) → GrowsBy added (backing_state_of old) (backing_state_of new) before after → Goes n (backing_state_of old) (backing_state_of new)
    → n ≤ 2 * length before.pages.dirty + put → HasGrown (backing_state_of old).geometry added put (mounted_over old before now) (mounted_over new after now)
grown_of old new before after now added put n grows goes few =
    let geo = (backing_state_of old).geometry in
    let weight = (backing_state_of old).space.weight in
    let lebs = index_lebs-grows geo (weight + n) (weight + 2 * length before.pages.dirty + put) (omega (arith, few)) in
    let index = goes.index in
    record { weight = grows; index = omega (arith, index, lebs) }

-- one after another
pub grown_then : (geo : RawGeometry) (a b c : ScriptRunning) → HasGrown geo 0 0 a b → HasGrown geo 0 0 b c → HasGrown geo 0 0 a c
grown_then geo a b c first second =
    let one = first.weight in
    let two = second.weight in
    let lebs = index_lebs-grows geo (b.weight + 0) (a.weight + 0) (omega (arith, one)) in
    let x = first.index in
    let y = second.index in
    record { weight = omega (arith, one, two); index = omega (arith, x, y, lebs) }

-- a backing made anew on a tree, with the index of the one before
pub grown_anew : (geo : RawGeometry) (old new : PlainBacking) (before after : Kept) → (backing_state_of new).space.weight ≡ (backing_state_of old).space.weight → (backing_state_of new).space.index ≡ (backing_state_of old).space.index → after.pages.dirty ≡ []
    → HasGrown geo 0 0 (mounted_over old before 0) (mounted_over new after 0)
grown_anew geo old new before after weight index clean =
    let none : length after.pages.dirty ≡ 0 = ap (λ dirty. length dirty) clean in
    record { weight = omega (arith, weight, none); index = omega (arith, index) }

-- work on what was put adds nothing
pub no_puts : (event : Event) → is_work event ≡ true → nodes_in event ≡ 0
no_puts (Put shown) w = absurd cc
no_puts event w = refl

pub adds_none : (event : Event) (outcome : Outcome) → nodes_in event ≡ 0 → added_in event outcome ≡ 0
adds_none event (Fault (Volume count)) e = e
adds_none event outcome e = refl

pub no_growth : (added : ℕ) (old new : BackingState) (before after : Kept) → added ≡ 0 → GrowsBy added old new before after → GrowsBy 0 old new before after
no_growth added old new before after none h = omega (arith, none, h)
