-- A volume that may be written has room for all that it has.
use Rattle.std.proofs.Common.{◌≡◌, ℕ, ◌+◌, ◌*◌, ◌≤◌, Option, Some, None, true, false, Bool, refl, arith}
use Rattle.std.specs.Prelude.{nat_le, if◌then◌else◌}
use Rattle.std.specs.Option.{option_or}
use Rattle.ubifs_base.specs.declared.raw_geometry.RawGeometry.{RawGeometry}
use Rattle.fs_model.specs.declared.backing_answers.Mode.TheVariants.{ReadOnly}
use Rattle.fs_model.specs.declared.refusal.Cause.{Cause}
use Rattle.fs_model.specs.declared.refusal.Cause.TheVariants.{Tight, Faulted, Spent}
use Rattle.fs_model.specs.declared.refusal.Scarce.{Scarce}
use Rattle.fs_model.specs.declared.refusal.Scarce.TheVariants as scarce
use Rattle.fs_model.specs.declared.space.Need.{Need}
use Rattle.fs_model.specs.declared.space.Space.{Space}
use Rattle.fs_model.specs.Cover.{index_lebs, tree_bytes}
use Rattle.fs_model.specs.Files.{Tree}
use Rattle.fs_model.specs.Proper.{IsProper}
use Rattle.fs_model.specs.Settled.{IsCovered, cause_of, leaf_room, nothing, settled}
use Rattle.space_sums.specs.Spaces.{AsksNoLess, HasRoom}
use Rattle.plain_backing.specs.Covering.{IsCovering, leaf_count}
use Rattle.plain_backing.specs.Spending.{is_spent}

-- What is used has room, so it has where no LEB of the index is counted.
pub opening_covers : (geo : RawGeometry) (tree : Tree) (space plain : Space) → plain ≡ record { used = space.used; held = 0; credits = 0; empty = space.empty; index = 0; weight = space.weight; main = space.main }
    → IsProper tree → leaf_count tree ≤ geo.fanout * space.weight → space.used ≡ tree_bytes tree
    → ((g : RawGeometry) (less more : Space) (asked asked_more : Need) → AsksNoLess less asked more asked_more → HasRoom g more asked_more → HasRoom g less asked)
    → IsCovered geo space → IsCovering geo tree (record plain { used = tree_bytes tree; held = 0 }) None
opening_covers geo tree space plain e proper weighed used law covered =
    let bare : Space = record { used = tree_bytes tree; held = 0; credits = 0; empty = space.empty; index = 0; weight = space.weight; main = space.main } in
    let Q : Space → Type 0 = λ s. IsCovering geo tree (record s { used = tree_bytes tree; held = 0 }) None in
    rw e (record {
      proper = proper;
      room = law geo bare space nothing nothing
          (record { used = omega (arith, used); held = omega arith; credits = omega arith; bytes = omega arith; nodes = omega arith; index = omega arith; weight = omega arith; main = omega arith; reserve = omega arith })
          (record { fits = covered.fits });
      weighed = weighed;
    })

-- a cause that the numbers give is that something is scarce, so no number is used up
tight_of : (what : Scarce) (need room : ℕ) (cause : Cause) → cause_of what need room ≡ Some cause → is_spent (ReadOnly cause) ≡ false
tight_of what need room (Tight scarce n r) e = refl
tight_of what need room (Faulted count) e = refl
tight_of what need room (Spent sqnum cmt_no) e = absurd (by (nat_le need room) e)
  where
    by : (b : Bool) → (if b then None else Some (Tight what need room)) ≡ Some (Spent sqnum cmt_no) → ⊥
    by true h = absurd cc
    by false h = absurd cc

first_tight : (a : Option Cause) (b : Option Cause) (cause : Cause) → ((x : Cause) → a ≡ Some x → is_spent (ReadOnly x) ≡ false) → ((x : Cause) → b ≡ Some x → is_spent (ReadOnly x) ≡ false)
    → option_or a b ≡ Some cause → is_spent (ReadOnly cause) ≡ false
first_tight (Some x) b cause left right e = left cause e
first_tight None b cause left right e = right cause e

pub settled_unspent : (geo : RawGeometry) (space : Space) (cause : Cause) → settled geo space ≡ Some cause → is_spent (ReadOnly cause) ≡ false
settled_unspent geo space cause e =
    let kept = space.used + space.held in
    let bytes = leaf_room geo space in
    let next = 1 + index_lebs geo space.weight in
    let later = 1 + 3 * index_lebs geo space.weight in
    let lebs = space.empty + space.index in
    first_tight (cause_of scarce.Space kept bytes) (option_or (cause_of scarce.Empty next space.empty) (cause_of scarce.Index later lebs)) cause (tight_of scarce.Space kept bytes)
    (λ x. first_tight (cause_of scarce.Empty next space.empty) (cause_of scarce.Index later lebs) x (tight_of scarce.Empty next space.empty) (tight_of scarce.Index later lebs)) e
