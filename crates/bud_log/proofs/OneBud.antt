-- A bud is opened: its LEB is emptied, and a reference is written.
use Rattle.std.proofs.Common.{◌≡◌, ◌⊎◌, inl, inr, ℕ, ◌<◌, ◌≤◌, Bool, true, false, List, [], ◌∷◌, sym, ◌∙◌, subst, arith}
use Rattle.std.specs.Prelude.{◌≢◌}
use Rattle.ubifs_base.specs.Areas.{main_first}
use Rattle.ubifs_base.specs.declared.raw_geometry.RawGeometry.{RawGeometry}
use Rattle.ubi_volume.specs.Volume.{VolumeState, UnderWay, WorksOn, Leaves, ChangeUnderWay}
use Rattle.ubi_volume.specs.VolumeLaws.{Leaves-more}
use Rattle.ubi_volume.specs.Frame.{IsSameLeb, Works}
use Rattle.media_sys.specs.SystemNode.{reference}
use Rattle.media_sys.specs.declared.ref_node.RefNode.{RefNode}
use Rattle.bud_log.specs.Log.{IsLogLeb, next_leb}
use Rattle.bud_log.specs.LogAt.{LogAt, IsAt, IsLogStart, has_room, used_lebs, lnum_at, offs_at, next_lnum, next_offs, references_to, section_nodes}
use Rattle.bud_log.specs.LogCalls.{IsEmptied, AddDuring, OpenUnderWay}
use Rattle.bud_log.specs.Writing.{AreSpelled, IsLogReady, IsOldOrMeant}
use Rattle.bud_log.specs.AfterCut.{IsLeftOpened, IsLeftStarted}
use Rattle.bud_log.specs.AfterCutLaws.{IsReady-left}
use Rattle.bud_log.specs.declared.head_at.HeadAt.{HeadAt}
use Rattle.bud_log.specs.LogLaws.{next_in}
use Rattle.bud_log.proofs.Opened.{HasMapped, opened_moment, started_moment}
use Rattle.bud_log.specs.References.{OneSystemNode}
use Rattle.bud_log.proofs.Steps.{next_free}
use Rattle.bud_log.proofs.Works.{emptied_works, opened_works}

-- a main LEB is none of the log's
pub main_out : (geo : RawGeometry) (lnum : ℕ) → main_first geo ≤ lnum → IsLogLeb geo lnum → ⊥
main_out geo lnum main is = let high = is.high in absurd (omega (arith, main, high))

pub start_in : (a : VolumeState) (at : LogAt) (from : ℕ) → IsAt a at → IsLogStart at from → IsLogLeb at.geo from
start_in a at from h (inl e) = let P : ℕ → Type 0 = λ n. IsLogLeb at.geo n in subst P (sym e) h.first
start_in a at from h (inr e) = let P : ℕ → Type 0 = λ n. IsLogLeb at.geo n in subst P (sym e) h.section

there_in : (here : Bool) (at : LogAt) → IsLogLeb at.geo at.lnum → IsLogLeb at.geo (lnum_at here at)
there_in true at is = is
there_in false at is = next_in at.geo at.lnum is

pub there_other : (here : Bool) (at : LogAt) (bud : ℕ) → IsLogLeb at.geo at.lnum → main_first at.geo ≤ bud → lnum_at here at ≢ bud
there_other here at bud is main e = let P : ℕ → Type 0 = λ n. IsLogLeb at.geo n in main_out at.geo bud main (subst P e (there_in here at is))

pub free_of : (a : VolumeState) (at : LogAt) (from : ℕ) → IsAt a at → IsLogStart at from → used_lebs at < at.geo.log_lebs → next_leb at.geo at.lnum ≢ from
free_of a at from h start room = next_free at from h.first h.here h.on_the_way room start

-- the bud's LEB was emptied, or that failed
pub bud_moment : (a b : VolumeState) (at : LogAt) (from number : ℕ) (buds : List HeadAt) (node : RefNode) (M : (ℕ → List ℕ) → Type 0) (D : List ℕ → Type 0) → IsAt a at → IsLogStart at from → main_first at.geo ≤ node.lnum
    → IsLogReady a at.geo from at.lnum at.offs number buds → WorksOn a b node.lnum D → Leaves a b (λ left. M left → IsLeftOpened left at from number buds node)
bud_moment a b at from number buds node M D h start main ready w =
    let f = start_in a at from h start in
    let P : ℕ → Type 0 = λ n. IsLogLeb at.geo n in
    Leaves-more a b (UnderWay a node.lnum D) (λ left. M left → IsLeftOpened left at from number buds node)
    (λ x u meant. inl (IsReady-left a at.geo from at.lnum at.offs number buds x f ready (λ k is. u.0 k (λ e. main_out at.geo node.lnum main (subst P e is)))))
    w.time

-- the bud's LEB was emptied, or that failed: what that does
pub first_works : (here : Bool) (a b : VolumeState) (at : LogAt) (bud n : ℕ) → IsAt a at → here ≡ has_room at → main_first at.geo ≤ bud → WorksOn a b bud (ChangeUnderWay a bud []) → Works a b (λ k. (k ≡ bud) ⊎ (k ≡ next_lnum at)) (OpenUnderWay (has_room at) a at bud n)
first_works here a b at bud n h e main ab =
    let H : Bool → Type 0 = λ r. Works a b (λ k. (k ≡ bud) ⊎ (k ≡ lnum_at r at)) (OpenUnderWay r a at bud n) in
    subst H e (emptied_works here a b at bud n (there_other here at bud h.here main) ab)

-- and the log is as it was
pub log_same : (here : Bool) (a b : VolumeState) (at : LogAt) (bud : ℕ) (D : List ℕ → Type 0) → IsAt a at → here ≡ has_room at → main_first at.geo ≤ bud → WorksOn a b bud D → IsSameLeb a b (next_lnum at)
log_same here a b at bud D h e main w =
    let P : Bool → Type 0 = λ r. IsSameLeb a b (lnum_at r at) in
    let there = lnum_at here at in
    let ne = there_other here at bud h.here main in
    subst P e (record { holds = w.others there ne; written = w.others_written there ne; left = λ c. w.others_left there c ne; mapped = λ c. w.others_mapped there c ne })

-- what both calls do
pub both_works : (here : Bool) (a b c : VolumeState) (at : LogAt) (bud n : ℕ) → IsAt a at → here ≡ has_room at → main_first at.geo ≤ bud → b.leb_size ≡ a.leb_size → IsEmptied a b bud → WorksOn a b bud (ChangeUnderWay a bud []) → WorksOn b c (lnum_at here at) (AddDuring here b at n)
    → Works a c (λ k. (k ≡ bud) ⊎ (k ≡ next_lnum at)) (OpenUnderWay (has_room at) a at bud n)
both_works here a b c at bud n h e main same done ab bc =
    let H : Bool → Type 0 = λ r. Works a c (λ k. (k ≡ bud) ⊎ (k ≡ lnum_at r at)) (OpenUnderWay r a at bud n) in
    subst H e (opened_works here a b c at bud n (there_other here at bud h.here main) same done ab bc)

pub both_moment : OneSystemNode → (here : Bool) (a b c : VolumeState) (at : LogAt) (from number n : ℕ) (buds : List HeadAt) (node : RefNode) → IsAt a at → here ≡ has_room at → ((here ≡ false) → used_lebs at < at.geo.log_lebs) → main_first at.geo ≤ node.lnum → IsLogStart at from
    → HasMapped a → AreSpelled number (reference node ∷ []) → b.leb_size ≡ a.leb_size → IsEmptied a b node.lnum → WorksOn a b node.lnum (ChangeUnderWay a node.lnum []) → WorksOn b c (lnum_at here at) (AddDuring here b at n) → IsLogReady a at.geo from at.lnum at.offs number buds
    → Leaves a c (λ left. IsOldOrMeant a (next_lnum at) (next_offs at) number (reference node ∷ []) (left (next_lnum at)) → IsLeftOpened left at from number buds node)
both_moment one here a b c at from number n buds node h e kept main start sub spelled same done ab bc ready =
    let f = start_in a at from h start in
    let works = opened_works here a b c at node.lnum n (there_other here at node.lnum h.here main) same done ab bc in
    let H : Bool → Type 0 = λ r. Leaves a c (λ left. IsOldOrMeant a (lnum_at r at) (offs_at r at) number (reference node ∷ []) (left (lnum_at r at)) → IsLeftOpened left at from number buds node) in
    subst H e (opened_moment one here a c at from number n buds node e ready f (λ r. free_of a at from h start (kept r)) sub spelled (main_out at.geo node.lnum main) works.time)

-- the bud's LEB stays empty
pub emptied_still : (here : Bool) (a b c : VolumeState) (at : LogAt) (bud : ℕ) (D : List ℕ → Type 0) → IsAt a at → main_first at.geo ≤ bud → IsEmptied a b bud → WorksOn b c (lnum_at here at) D → IsEmptied a c bud
emptied_still here a b c at bud D h main w works =
    let ne : bud ≢ lnum_at here at = λ e. there_other here at bud h.here main (sym e) in
    record { holds = works.others bud ne ∙ w.holds; written = works.others_written bud ne ∙ w.written; left = λ x left. w.left x (works.others_left bud x ne left) }

-- a section is started, or that failed
pub section_moment : OneSystemNode → (a b : VolumeState) (at : LogAt) (from number n cmt_no : ℕ) (buds heads : List HeadAt) → IsAt a at → used_lebs at < at.geo.log_lebs → IsLogStart at from → HasMapped a → AreSpelled number (section_nodes cmt_no heads)
    → WorksOn a b (next_leb at.geo at.lnum) (AddDuring false a at n) → IsLogReady a at.geo from at.lnum at.offs number buds
    → Leaves a b (λ left. IsOldOrMeant a (next_leb at.geo at.lnum) 0 number (section_nodes cmt_no heads) (left (next_leb at.geo at.lnum)) → IsLeftStarted left at from number buds (references_to heads))
section_moment one a b at from number n cmt_no buds heads h kept start sub spelled works ready =
    started_moment one a b at from number n cmt_no buds heads ready (start_in a at from h start) (free_of a at from h start kept) sub spelled works.time
