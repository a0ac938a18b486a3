-- What a call on a LEB of a volume in memory does, exactly.
use Rattle.std.specs.Prelude.{◌≡◌, ◌≢◌, ℕ, ◌+◌, ◌*◌, ◌/◌, ◌==◌, if◌then◌else◌, List, [], length, Some, None, Result, Ok, Err}
use Rattle.std.specs.Option.{unwrap_or}
use Rattle.ubifs_base.specs.declared.arm.Arm.{Arm}
use Rattle.ubifs_base.specs.declared.arm.Arm.TheVariants.{Cut, Fail}
use Rattle.ubi_volume.specs.Volume.{put, filled}
use Rattle.ubi_volume.specs.Lebs.{LebView}
use Rattle.ubi_volume.specs.Arming.{nothing_armed, fate_of, after_call}
use Rattle.ubi_volume.specs.Patterns.{write_left}
use Rattle.ubi_volume.specs.declared.arming.Arming.{Arming}
use Rattle.ubi_volume.specs.declared.arming.Fate.{Fate}
use Rattle.ubi_volume.specs.declared.arming.Fate.TheVariants.{Runs, Refused, Struck}
use Rattle.ubi_volume.specs.declared.fault.VolFault.{VolFault}
use Rattle.ubi_volume.specs.declared.fault.VolFault.TheVariants.{Failed}

-- all that decides what the calls of a volume do
pub record MemState : Type 0 where
  pub leb : ℕ → LebView
  pub arming : Arming

-- as of a volume that was just made or loaded: nothing is armed or counted, no cut has struck, and no unmapping may be undone
pub record HasNoPast (v : MemState) : Type 0 where
  pub arming : v.arming ≡ nothing_armed
  pub final : (k : ℕ) → (v.leb k).pending ≡ None

-- what a call has for its LEB: its steps, what it makes of the LEB, and what of it a cut leaves behind so many steps, by its digit
pub record Effect : Type 0 where
  pub steps : ℕ
  pub done : LebView
  pub struck : ℕ → ℕ → LebView

-- a LEB whose unmapping can't be undone
abbrev pub final_leb : List ℕ → ℕ → LebView
final_leb bytes written = record { bytes = bytes; written = written; pending = None }

-- A write of these bytes at this offset has a step for each unit; the units before that of the cut are new.
abbrev pub write_effect : ℕ → ℕ → List ℕ → LebView → Effect
write_effect unit offs bytes leb = record {
  steps = length bytes / unit;
  done = final_leb (put offs bytes leb.bytes) (offs + length bytes);
  struck = λ behind digit. final_leb (write_left unit (behind * unit) digit offs bytes leb.bytes) (offs + length bytes);
}

-- a call of one step, which has happened if the digit is 1
abbrev pub one_step : LebView → LebView → Effect
one_step new old = record { steps = 1; done = new; struck = λ behind digit. if digit == 1 then new else old }

-- a change into these bytes
abbrev pub change_effect : ℕ → List ℕ → LebView → Effect
change_effect size bytes leb = one_step (final_leb (filled size bytes) (length bytes)) leb

-- the LEB unwritten; what stood there before the first unmapping that may be undone is kept
abbrev pub unmapped_leb : ℕ → LebView → LebView
unmapped_leb size leb = record { bytes = filled size []; written = 0; pending = Some (unwrap_or leb.pending leb.bytes) }

abbrev pub unmap_effect : ℕ → LebView → Effect
unmap_effect size leb = one_step (unmapped_leb size leb) leb

abbrev pub map_effect : LebView → Effect
map_effect leb = one_step (final_leb leb.bytes leb.written) leb

-- a call of no step, which changes nothing
abbrev pub no_effect : LebView → Effect
no_effect leb = record { steps = 0; done = leb; struck = λ behind digit. leb }

-- the LEB after a call with this fate
abbrev pub leb_after : Fate → Effect → LebView → LebView
leb_after Runs effect leb = effect.done
leb_after (Refused count) effect leb = leb
leb_after (Struck behind digit count) effect leb = effect.struck behind digit

-- and the answer
abbrev pub answer_of : Fate → Result (Unit {0}) VolFault
answer_of Runs = Ok (tt {0})
answer_of (Refused count) = Err (Failed count)
answer_of (Struck behind digit count) = Err (Failed count)

-- A call on this LEB did what it has to do where it runs, nothing where it is refused, and what a cut leaves where one falls into it.
pub record HasEffect (old new : MemState) (lnum : ℕ) (effect : Effect) (result : Result (Unit {0}) VolFault) : Type 0 where
  pub arming : new.arming ≡ after_call old.arming effect.steps
  pub leb : new.leb lnum ≡ leb_after (fate_of old.arming effect.steps) effect (old.leb lnum)
  pub others : (k : ℕ) → k ≢ lnum → new.leb k ≡ old.leb k
  pub answer : result ≡ answer_of (fate_of old.arming effect.steps)

-- What is armed after arming this, in the place of what was armed of its kind; the steps are counted from a cut's arming on.
-- A cut that has struck is what it is until the volume is revived: no other is armed then.
abbrev pub armed : Arm → Arming → Arming
armed (Cut cut) a = if a.is_cut then a else record a { cut_step = cut.step; pattern = cut.pattern; steps = 0 }
armed (Fail call) a = record a { fail = call }

-- this was armed, and nothing else changed
pub record IsArmed (old new : MemState) (what : Arm) : Type 0 where
  pub arming : new.arming ≡ armed what old.arming
  pub lebs : (k : ℕ) → new.leb k ≡ old.leb k
