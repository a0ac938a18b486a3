-- A volume in memory from its start over a write, a cut that falls into a change, and its revival.
use Rattle.std.proofs.Common.{◌≡◌, ℕ, ◌+◌, ◌-◌, ◌/◌, ◌%◌, Bool, true, false, List, [], ◌++◌, length, drop, replicate, refl, ap, ◌∙◌, arith}
use Rattle.std.specs.Prelude.{◌==◌, if◌then◌else◌, Result, Ok}
use Rattle.std.proofs.lemmas.List.{drop-replicate}
use Rattle.ubifs_base.specs.declared.arm.Arm.TheVariants.{Cut}
use Rattle.ubi_volume.specs.Volume.{filled, put}
use Rattle.ubi_volume.specs.Arming.{nothing_armed, one_more, fate_of, after_call}
use Rattle.ubi_volume.specs.Patterns.{left_in}
use Rattle.ubi_volume.specs.Effects.{MemState, HasNoPast, HasEffect, IsArmed, armed, leb_after, answer_of, final_leb, write_effect, change_effect, no_effect}
use Rattle.ubi_volume.specs.MemVolume.{contents_left}
use Rattle.ubi_volume.specs.declared.arming.Arming.{Arming}
use Rattle.ubi_volume.specs.declared.arming.Fate.TheVariants.{Runs, Struck}
use Rattle.ubi_volume.specs.declared.fault.VolFault.{VolFault}

-- what is armed where a cut falls into the next step, once it has struck, and once the volume is revived
abbrev pub cut_next : ℕ → Arming
cut_next p = record { cut_step = 1; pattern = p; is_cut = false; fail = 0; steps = 0; faults = 0 }

abbrev pub has_cut : ℕ → Arming
has_cut p = record { cut_step = 1; pattern = p; is_cut = true; fail = 0; steps = 1; faults = one_more 0 }

abbrev pub revived : Arming
revived = record { cut_step = 0; pattern = 0; is_cut = false; fail = 0; steps = 1; faults = one_more 0 }

-- at first a call runs
first_runs : (n : ℕ) → fate_of nothing_armed n ≡ Runs
unfolding fate_of
first_runs n = refl

armed_next : (p n : ℕ) → armed (Cut (record { step = 1; pattern = p })) (after_call nothing_armed n) ≡ cut_next p
unfolding after_call
armed_next p n = refl

-- the next meets the cut
next_strikes : (p : ℕ) → fate_of (cut_next p) 1 ≡ Struck 0 (p % 4) (one_more 0)
unfolding fate_of
next_strikes p = refl

next_cut : (p : ℕ) → after_call (cut_next p) 1 ≡ has_cut p
unfolding after_call
next_cut p = refl

-- and behind the revival calls run again
last_runs : (n : ℕ) → fate_of revived n ≡ Runs
unfolding fate_of
last_runs n = refl

-- what is written to an unwritten LEB stands at its front
put_first : (size : ℕ) (bytes : List ℕ) → put 0 bytes (filled size []) ≡ filled size bytes
put_first size bytes =
    let whole : size - 0 ≡ size = omega arith in
    let front : 0 + length bytes ≡ length bytes = omega arith in
    let rest : drop (0 + length bytes) (replicate (size - 0) 255) ≡ replicate (size - length bytes) 255 =
    ap (λ n. drop n (replicate (size - 0) 255)) front ∙ drop-replicate (length bytes) (size - 0) 255 ∙ ap (λ n. replicate (n - length bytes) 255) whole in
    ap (λ l. bytes ++ l) rest

-- of a LEB whose unmapping can't be undone a cut leaves what it holds
same_either : (b : Bool) (bytes : List ℕ) → (if b then bytes else bytes) ≡ bytes
same_either true bytes = refl
same_either false bytes = refl

final_stays : (digit : ℕ) (bytes : List ℕ) (written : ℕ) → left_in digit (final_leb bytes written) ≡ bytes
final_stays digit bytes written = same_either (digit == 0) bytes

one_stays : (b : Bool) (digit : ℕ) (x y : List ℕ) (m n : ℕ) → left_in digit (if b then final_leb x m else final_leb y n) ≡ (if b then x else y)
one_stays true digit x y m n = final_stays digit x m
one_stays false digit x y m n = final_stays digit y n

filled_either : (b : Bool) (size : ℕ) (x y : List ℕ) → (if b then filled size x else filled size y) ≡ filled size (if b then x else y)
filled_either true size x y = refl
filled_either false size x y = refl

-- the first write is answered
pub first_answer : (v w : MemState) (unit : ℕ) (bytes : List ℕ) (r : Result (Unit {0}) VolFault) → HasNoPast v → HasEffect v w 0 (write_effect unit 0 bytes (v.leb 0)) r → r ≡ Ok (tt {0})
first_answer v w unit bytes r start call =
    let n = length bytes / unit in
    call.answer ∙ ap (λ a. answer_of (fate_of a n)) start.arming ∙ ap answer_of (first_runs n)

-- and its bytes stand in LEB 0
first_leb : (v w : MemState) (unit size : ℕ) (bytes : List ℕ) (r : Result (Unit {0}) VolFault) → HasNoPast v → (v.leb 0).bytes ≡ filled size [] → HasEffect v w 0 (write_effect unit 0 bytes (v.leb 0)) r
    → w.leb 0 ≡ final_leb (filled size bytes) (length bytes)
first_leb v w unit size bytes r start blank call =
    let n = length bytes / unit in
    let effect = write_effect unit 0 bytes (v.leb 0) in
    let front : 0 + length bytes ≡ length bytes = omega arith in
    call.leb ∙ ap (λ a. leb_after (fate_of a n) effect (v.leb 0)) start.arming ∙ ap (λ f. leb_after f effect (v.leb 0)) (first_runs n)
    ∙ ap (λ m. final_leb (put 0 bytes (v.leb 0).bytes) m) front ∙ ap (λ b. final_leb b (length bytes)) (ap (put 0 bytes) blank ∙ put_first size bytes)

-- what is armed when the change begins
armed_then : (u v w : MemState) (unit p : ℕ) (bytes : List ℕ) (r : Result (Unit {0}) VolFault) → HasNoPast u → HasEffect u v 0 (write_effect unit 0 bytes (u.leb 0)) r
    → IsArmed v w (Cut (record { step = 1; pattern = p })) → w.arming ≡ cut_next p
armed_then u v w unit p bytes r start call arm =
    let n = length bytes / unit in
    arm.arming ∙ ap (armed (Cut (record { step = 1; pattern = p }))) (call.arming ∙ ap (λ a. after_call a n) start.arming) ∙ armed_next p n

-- what the cut leaves of LEB 0
pub left_behind : (u v w x : MemState) (unit size p : ℕ) (first second : List ℕ) (r s : Result (Unit {0}) VolFault) → HasNoPast u → (u.leb 0).bytes ≡ filled size []
    → HasEffect u v 0 (write_effect unit 0 first (u.leb 0)) r → IsArmed v w (Cut (record { step = 1; pattern = p })) → HasEffect w x 0 (change_effect size second (w.leb 0)) s
    → contents_left x 0 ≡ filled size (if p % 4 == 1 then second else first)
left_behind u v w x unit size p first second r s start blank write arm change =
    let arming = armed_then u v w unit p first r start write arm in
    let leb = arm.lebs 0 ∙ first_leb u v unit size first r start blank write in
    let b = p % 4 == 1 in
    let new = final_leb (filled size second) (length second) in
    let left : x.leb 0 ≡ (if b then new else final_leb (filled size first) (length first)) =
    change.leb ∙ ap (λ a. leb_after (fate_of a 1) (change_effect size second (w.leb 0)) (w.leb 0)) arming
    ∙ ap (λ f. leb_after f (change_effect size second (w.leb 0)) (w.leb 0)) (next_strikes p) ∙ ap (λ l. if b then new else l) leb in
    ap (left_in _) left ∙ one_stays b _ (filled size second) (filled size first) (length second) (length first) ∙ filled_either b size second first

-- the read at the end is answered
pub last_answer : (u v w x y z : MemState) (unit size p : ℕ) (first second : List ℕ) (r s t : Result (Unit {0}) VolFault) → HasNoPast u
    → HasEffect u v 0 (write_effect unit 0 first (u.leb 0)) r → IsArmed v w (Cut (record { step = 1; pattern = p })) → HasEffect w x 0 (change_effect size second (w.leb 0)) s
    → y.arming ≡ record (x.arming) { cut_step = 0; pattern = 0; is_cut = false } → HasEffect y z 0 (no_effect (y.leb 0)) t → t ≡ Ok (tt {0})
last_answer u v w x y z unit size p first second r s t start write arm change revive read =
    let cut : x.arming ≡ has_cut p = change.arming ∙ ap (λ a. after_call a 1) (armed_then u v w unit p first r start write arm) ∙ next_cut p in
    let again : y.arming ≡ revived = revive ∙ ap (λ (a : Arming). record a { cut_step = 0; pattern = 0; is_cut = false }) cut in
    read.answer ∙ ap (λ a. answer_of (fate_of a 0)) again ∙ ap answer_of (last_runs 0)
