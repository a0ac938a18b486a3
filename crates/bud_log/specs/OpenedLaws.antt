-- A log that a cut left is opened where nothing is written.
use Rattle.std.proofs.Common.{◌≡◌, inl, inr, ℕ, ◌+◌, ◌-◌, ◌%◌, ◌≤◌, Bool, true, List, [], ◌∷◌, length, take, drop, replicate, refl, ap, sym, ◌∙◌, subst, arith, length-drop}
use Rattle.std.specs.Prelude.{◌==◌, if◌then◌else◌, min}
use Rattle.std.proofs.Math.Nat.{min-le_right}
use Rattle.std.proofs.lemmas.Bool.{and_parts, cases_Bool, eqb-true, le-ltb}
use Rattle.std.proofs.lemmas.List.{drop_all, length-take}
use Rattle.ubifs_base.specs.Areas.{lpt_first}
use Rattle.ubifs_base.specs.Geometry.{IsGeometry}
use Rattle.ubifs_base.specs.declared.raw_geometry.RawGeometry.{RawGeometry}
use Rattle.ubi_volume.specs.Volume.{VolumeState}
use Rattle.ubi_volume.specs.Loading.{IsErased, IsWrittenPart}
use Rattle.leb_scan.specs.Text.{Begins, behind, up_to_8, Stand, IsText, is_blank, IsTail}
use Rattle.leb_scan.specs.declared.item.Item.{Item}
use Rattle.leb_scan.specs.declared.item.Item.TheVariants.{Node, Padding, Word}
use Rattle.leb_scan.specs.declared.tail.Tail.{Tail}
use Rattle.leb_scan.specs.declared.tail.Tail.TheVariants.{Clean, Torn}
use Rattle.bud_log.specs.AfterCut.{IsHeldLog, IsOpenBehind, log_opened_at}
use Rattle.bud_log.specs.AfterCutLaws.{further_run}
use Rattle.bud_log.specs.Log.{Log, IsLogLeb, next_leb, Run, log_end_of}
use Rattle.bud_log.specs.LogAt.{IsAt, steps_to}
use Rattle.bud_log.specs.LogLaws.{next_in}
use Rattle.bud_log.specs.LogText.{LogText, IsLogTextOf, begins_with, start_of, is_start_alone}
use Rattle.bud_log.specs.Writing.{offs_behind}
use Rattle.bud_log.specs.declared.log_end.LogEnd.{LogEnd}

-- the text at whose end a log ends, in a LEB of the log
record IsEndText (c : ℕ → List ℕ) (geo : RawGeometry) (ends : LogEnd) : Type 0 where
  text : LogText
  in_log : IsLogLeb geo ends.lnum
  is_text : IsLogTextOf (c ends.lnum) ends.lnum text
  ends_are : text.ends ≡ ends

end_text : (c : ℕ → List ℕ) (geo : RawGeometry) (lnum : ℕ) (text : LogText) → IsLogLeb geo lnum → IsLogTextOf (c lnum) lnum text → IsEndText c geo text.ends
end_text c geo lnum text l is =
    let P : ℕ → Type 0 = λ n. IsLogLeb geo n in
    let Q : ℕ → Type 0 = λ n. IsLogTextOf (c n) n text in
    record { text = text; in_log = subst P (sym is.here) l; is_text = subst Q (sym is.here) is; ends_are = refl }

run_end_text : (c : ℕ → List ℕ) (geo : RawGeometry) (from start lnum past : ℕ) (before : LogEnd) (texts : List LogText) → IsEndText c geo before → IsLogLeb geo lnum → Run c geo from start lnum texts past → IsEndText c geo (log_end_of before texts)
run_end_text c geo from start lnum past before [] first l run = first
run_end_text c geo from start lnum past before (text ∷ []) first l run =
    let P : Bool → Type 0 = λ b. IsEndText c geo (if b then before else text.ends) in
    elim (cases_Bool (is_start_alone text.nodes)) [ inl alone ↦ subst P (sym alone) first | inr other ↦ subst P (sym other) (end_text c geo lnum text l run.1) ]
run_end_text c geo from start lnum past before (text ∷ (other ∷ more)) first l run = run_end_text c geo from start (next_leb geo lnum) past text.ends (other ∷ more) (end_text c geo lnum text l run.1) (next_in geo lnum l) run.3

blank_is : (bytes : List ℕ) → is_blank bytes ≡ true → bytes ≡ replicate (length bytes) 255
blank_is [] h = refl
blank_is (x ∷ bytes) h =
    let parts = and_parts (x == 0xFF) (is_blank bytes) h in
    ap (λ (y : ℕ). y ∷ bytes) (eqb-true x 255 parts.0) ∙ ap (λ (rest : List ℕ). 255 ∷ rest) (blank_is bytes parts.1)

-- where it goes on a unit begins, nothing is written, and the LEB doesn't end before
record IsOpenPlace (unit size : ℕ) (leb : List ℕ) (offs : ℕ) : Type 0 where
  within : offs ≤ size
  whole : offs % unit ≡ 0
  erased : IsErased offs leb

at_end : (unit size : ℕ) (leb : List ℕ) → length leb ≡ size → size % unit ≡ 0 → IsOpenPlace unit size leb size
at_end unit size leb long whole =
    let n : ℕ = length leb - size in
    let zero_left : n ≡ 0 = omega (arith, long) in
    record { within = omega arith; whole = whole; erased = drop_all size leb (omega (arith, long)) ∙ ap (λ (k : ℕ). replicate k 255) (sym zero_left) }

open_if : (geo : RawGeometry) (leb : List ℕ) (lnum offs : ℕ) (tail : Tail) → length leb ≡ geo.leb_size → geo.leb_size % geo.min_io ≡ 0 → offs ≤ length leb → IsTail leb offs tail
    → let ends : LogEnd = record { lnum = lnum; offs = offs; tail = tail } in
    IsOpenPlace geo.min_io geo.leb_size leb (offs_behind geo ends)
open_if geo leb lnum offs Torn long whole inside ends = at_end geo.min_io geo.leb_size leb long whole
open_if geo leb lnum offs Clean long whole inside ends =
    let P : Bool → Type 0 = λ b. IsOpenPlace geo.min_io geo.leb_size leb (if b then offs else geo.leb_size) in
    let clean : IsErased offs leb = blank_is (drop offs leb) ends ∙ ap (λ (n : ℕ). replicate n 255) (length-drop offs leb) in
    elim (cases_Bool (offs % geo.min_io == 0)) [
      | inl unit ↦ subst P (sym unit) (record { within = omega (arith, inside, long); whole = eqb-true (offs % geo.min_io) 0 unit; erased = clean })
      | inr part ↦ subst P (sym part) (at_end geo.min_io geo.leb_size leb long whole)
    ]

word_room : (leb : List ℕ) (place : ℕ) → Begins leb place Word → place + 8 ≤ length leb
word_room leb place h =
    let a : length (take 8 (drop place leb)) ≡ 8 = ap length h in
    let b : length (take 8 (drop place leb)) ≡ min 8 (length (drop place leb)) = length-take 8 (drop place leb) in
    let c : length (drop place leb) ≡ length leb - place = length-drop place leb in
    omega (arith, a, b, c)

-- items that stand in a LEB end in it
stand_inside : (leb : List ℕ) (place end : ℕ) (items : List Item) → place ≤ length leb → Stand leb place items end → end ≤ length leb
stand_inside leb place end [] inside h = omega (arith, inside, h)
stand_inside leb place end (Node found ∷ items) inside h = stand_inside leb (behind leb place (Node found)) end items (min-le_right (up_to_8 (place + found.len)) (length leb)) h.1
stand_inside leb place end (Padding found pad_len ∷ items) inside h = stand_inside leb (behind leb place (Padding found pad_len)) end items h.0.inside h.1
stand_inside leb place end (Word ∷ items) inside h = stand_inside leb (behind leb place Word) end items (word_room leb place h.0) h.1

from_itself : (geo : RawGeometry) (from lnum : ℕ) → steps_to geo from from ≤ steps_to geo from lnum
from_itself geo from lnum = let none : steps_to geo from from ≡ from - from = rw (le-ltb from from (omega arith)) refl in omega (arith, none)

-- the LEB in which a log ends is one of the log, and what is behind the place where the log goes on is erased
record IsBehind (state : VolumeState) (geo : RawGeometry) (ends : LogEnd) : Type 0 where
  in_log : IsLogLeb geo ends.lnum
  place : IsOpenPlace geo.min_io geo.leb_size (state.holds ends.lnum) (offs_behind geo ends)

held_behind : (state : VolumeState) (geo : RawGeometry) (from number : ℕ) (log : Log) → IsGeometry geo → IsLogLeb geo from → geo.leb_size ≡ state.leb_size → ((k : ℕ) → IsLogLeb geo k → length (state.holds k) ≡ state.leb_size) → IsHeldLog state geo from number log
    → IsBehind state geo log.ends
held_behind state geo from number log geometry f size long held =
    let h = held.ready in
    let first = h.is_log.first in
    let run = further_run state.holds geo from h.start (start_of (begins_with first.nodes)) h.is_log.more h.starts h.is_log.are_further in
    let E : LogEnd → Type 0 = λ e. IsEndText state.holds geo e in
    let at = subst E (sym h.is_log.ends) (run_end_text state.holds geo from h.start (next_leb geo from) run.0 first.ends h.is_log.more (end_text state.holds geo from first f h.is_log.is_first) (next_in geo from f) run.1) in
    let lnum = log.ends.lnum in
    let T : LogEnd → Type 0 = λ e. IsText (state.holds lnum) 0 at.is_text.items e.offs e.tail in
    let text = subst T at.ends_are at.is_text.is_text in
    record {
      in_log = at.in_log;
      place = open_if geo (state.holds lnum) lnum log.ends.offs log.ends.tail (long lnum at.in_log ∙ sym size) geometry.leb_size.2 (stand_inside (state.holds lnum) 0 log.ends.offs at.is_text.items (omega arith) text.stand) text.ends;
    }

-- A log that is held is opened where it goes on, if nothing counts as written there.
pub IsHeldLog-at : (state : VolumeState) (geo : RawGeometry) (from number : ℕ) (log : Log) → IsGeometry geo → IsLogLeb geo from → lpt_first geo ≤ state.leb_cnt → geo.leb_size ≡ state.leb_size → geo.min_io ≡ state.min_io
    → ((k : ℕ) → IsLogLeb geo k → length (state.holds k) ≡ state.leb_size) → IsHeldLog state geo from number log → IsOpenBehind state geo log.ends → IsAt state (log_opened_at geo from log.ends)
IsHeldLog-at state geo from number log geometry f lebs size unit long held is_open =
    let behind = held_behind state geo from number log geometry f size long held in
    record {
      leb_size = size;
      min_io = unit;
      lebs = lebs;
      first = f;
      section = f;
      here = behind.in_log;
      on_the_way = from_itself geo from log.ends.lnum;
      within = behind.place.within;
      unit = behind.place.whole;
      is_open = is_open;
    }

-- As after a cut: of the LEB the part up to the last unit that isn't erased counts as written.
pub IsHeldLog-open : (state : VolumeState) (geo : RawGeometry) (from number : ℕ) (log : Log) → IsGeometry geo → IsLogLeb geo from → geo.leb_size ≡ state.leb_size → geo.min_io ≡ state.min_io → ((k : ℕ) → IsLogLeb geo k → length (state.holds k) ≡ state.leb_size)
    → IsHeldLog state geo from number log → ((k : ℕ) → IsLogLeb geo k → IsWrittenPart state.min_io (state.holds k) (state.written k)) → IsOpenBehind state geo log.ends
IsHeldLog-open state geo from number log geometry f size unit long held written =
    let behind = held_behind state geo from number log geometry f size long held in
    let W : ℕ → Type 0 = λ u. offs_behind geo log.ends % u ≡ 0 in
    (written log.ends.lnum behind.in_log).least (offs_behind geo log.ends) (subst W unit behind.place.whole) behind.place.erased
