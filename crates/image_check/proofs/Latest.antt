-- The place of the latest master, and what is wrong with it first.
use Rattle.std.proofs.Common.{◌≡◌, ℕ, ◌<◌, ◌≤◌, List, [], ◌∷◌, ◌++◌, Option, Some, IfSome, ap, sym, subst, ◌∙◌, inl, inr, arith, refl}
use Rattle.std.specs.Prelude.{◌⊎◌, ◌≢◌}
use Rattle.std.proofs.lemmas.List.Elements.{All-head, All-tail}
use Rattle.ubifs_base.specs.NodeLaws.{IsBytes}
use Rattle.ubifs_base.specs.declared.node_type.NodeType.TheVariants as types
use Rattle.ubifs_base.specs.declared.raw_geometry.RawGeometry.{RawGeometry}
use Rattle.leb_scan.specs.Text.{nodes_of}
use Rattle.leb_scan.specs.TextLaws.{same_parts}
use Rattle.leb_scan.specs.declared.found.Found.{Found}
use Rattle.small_areas.specs.Addresses.{addresses_of, first_past}
use Rattle.small_areas.specs.MasterLaws.{OneNode, OneText, last_or_none, one_last, one_latest}
use Rattle.small_areas.specs.Masters.{HasNoMaster, HasNone, IsLastMaster, IsLatest}
use Rattle.small_areas.specs.declared.misplaced.Misplaced.{Misplaced}
use Rattle.small_areas.specs.declared.placed_master.PlacedMaster.{PlacedMaster}
use Rattle.media_sys.specs.declared.master.Master.{Master}
use Rattle.index_media.specs.PlacedRow.{ended}
use Rattle.sound_image.specs.Breaches.{IsFirstBreach, IsMisplaced}
use Rattle.sound_image.specs.Image.{Image}
use Rattle.sound_image.specs.Rules.{MeetsBefore}
use Rattle.sound_image.specs.Superblock.{HasSuperblock}
use Rattle.sound_image.specs.Wrong.{IsFirstWrong, Wrong, differs}
use Rattle.sound_image.specs.declared.breach.Breach.TheVariants.{Damaged}
use Rattle.sound_image.specs.declared.rule.Rule.TheVariants as rules
use Rattle.image_check.specs.FirstLaws.{not_before_place}

none_has : (before behind : List Found) (found : Found) → HasNone (before ++ found ∷ behind) → found.kind ≡ types.Master → ⊥
none_has [] behind found none kind = let P : Found → Type 0 = λ f. f.kind ≢ types.Master in All-head P found behind none kind
none_has (b ∷ before) behind found none kind = let P : Found → Type 0 = λ f. f.kind ≢ types.Master in none_has before behind found (All-tail P b (before ++ found ∷ behind) none) kind

-- the last master of a list is one
last_same : (b1 c1 b2 c2 : List Found) (f1 f2 : Found) → b1 ++ f1 ∷ c1 ≡ b2 ++ f2 ∷ c2 → f1.kind ≡ types.Master → f2.kind ≡ types.Master → HasNone c1 → HasNone c2 → f1 ≡ f2
last_same [] c1 [] c2 f1 f2 e k1 k2 n1 n2 = (same_parts f1 f2 c1 c2 e).0
last_same [] c1 (b ∷ b2) c2 f1 f2 e k1 k2 n1 n2 =
    let P : List Found → Type 0 = λ c. HasNone c in
    absurd (none_has b2 c2 f2 (subst P (same_parts f1 b c1 (b2 ++ f2 ∷ c2) e).1 n1) k2)
last_same (b ∷ b1) c1 [] c2 f1 f2 e k1 k2 n1 n2 =
    let P : List Found → Type 0 = λ c. HasNone c in
    absurd (none_has b1 c1 f1 (subst P (sym (same_parts b f2 (b1 ++ f1 ∷ c1) c2 e).1) n2) k1)
last_same (a ∷ b1) c1 (b ∷ b2) c2 f1 f2 e k1 k2 n1 n2 = last_same b1 c1 b2 c2 f1 f2 (same_parts a b (b1 ++ f1 ∷ c1) (b2 ++ f2 ∷ c2) e).1 k1 k2 n1 n2

-- so the last master of a LEB has one place
last_place : OneText → (leb : List ℕ) (p q : PlacedMaster) → IsBytes leb → IsLastMaster leb p → IsLastMaster leb q → p.offs ≡ q.offs
last_place one leb p q fits a b =
    let same = ap nodes_of (one leb 0 a.last.end b.last.end a.last.items b.last.items a.last.tail b.last.tail fits a.last.is_text b.last.is_text).0 in
    let found = last_same a.last.last.before a.last.last.behind b.last.last.before b.last.last.behind a.found b.found (sym a.last.last.split ∙ same ∙ b.last.last.split) a.last.last.kind b.last.last.kind a.last.last.none b.last.last.none in
    a.offs ∙ ap (λ (f : Found). f.offs) found ∙ sym b.offs

crossed : OneNode → OneText → (one two : List ℕ) (p q : PlacedMaster) → IsBytes one → IsBytes two → IsLastMaster one p → IsLastMaster two q
    → (HasNoMaster two ⊎ ((o : PlacedMaster) × IsLastMaster two o × (o.sqnum ≤ p.sqnum))) → (HasNoMaster one ⊎ ((o : PlacedMaster) × IsLastMaster one o × (o.sqnum < q.sqnum))) → ⊥
crossed node text one two p q f1 f2 a b (inl none) second = last_or_none text two q f2 b none
crossed node text one two p q f1 f2 a b (inr first) (inl none) = last_or_none text one p f1 a none
crossed node text one two p q f1 f2 a b (inr first) (inr second) =
    let x = (one_last node text two first.0 q f2 first.1 b).0 in
    let y = (one_last node text one second.0 p f1 second.1 a).0 in
    omega (arith, first.2, second.2, x, y)

-- and the latest of two LEBs stands in one of them, at one place
latest_place : OneNode → OneText → (one two : List ℕ) (p q : PlacedMaster) → IsBytes one → IsBytes two → IsLatest one two p → IsLatest one two q → (p.lnum ≡ q.lnum) × (p.offs ≡ q.offs)
latest_place node text one two p q f1 f2 (inl a) (inl b) = (a.0 ∙ sym b.0, last_place text one p q f1 a.1 b.1)
latest_place node text one two p q f1 f2 (inr a) (inr b) = (a.0 ∙ sym b.0, last_place text two p q f2 a.1 b.1)
latest_place node text one two p q f1 f2 (inl a) (inr b) = absurd (crossed node text one two p q f1 f2 a.1 b.1 a.2 b.2)
latest_place node text one two p q f1 f2 (inr a) (inl b) = absurd (crossed node text one two q p f1 f2 b.1 a.1 b.2 a.2)

one_misplaced : (m n : Misplaced) → Some m ≡ Some n → m ≡ n
one_misplaced m n h = cc

-- an address of the latest that passes its limit, before all others, is what is wrong with masters first
misplaced_first : OneNode → OneText → (contents : ℕ → List ℕ) (geo : RawGeometry) (latest : PlacedMaster) (wanted found : ℕ) → IsBytes (contents 1) → IsBytes (contents 2) → IsLatest (contents 1) (contents 2) latest
    → first_past (addresses_of geo latest.master) ≡ Some (record { wanted = wanted; found = found }) → IsFirstWrong (IsMisplaced contents geo) (record { lnum = latest.lnum; offs = latest.offs; misfit = differs wanted found })
misplaced_first node text contents geo latest wanted found f1 f2 is past = record {
  wrong = record { latest = latest; is_latest = is; wanted = wanted; found = found; past = past; is = refl };
  least = λ other w.
      let at : Wrong = record { lnum = latest.lnum; offs = latest.offs; misfit = differs wanted found } in
      let place = latest_place node text (contents 1) (contents 2) latest w.latest f1 f2 is w.is_latest in
      let master = one_latest node text (contents 1) (contents 2) latest w.latest f1 f2 is w.is_latest in
      let lnum : other.lnum ≡ latest.lnum = ap (λ (x : Wrong). x.lnum) w.is ∙ sym place.0 in
      let offs : other.offs ≡ latest.offs = ap (λ (x : Wrong). x.offs) w.is ∙ sym place.1 in
      let own : Misplaced = record { wanted = w.wanted; found = w.found } in
      let first : Misplaced = record { wanted = wanted; found = found } in
      let same = one_misplaced own first (sym w.past ∙ sym (ap (λ (m : Master). first_past (addresses_of geo m)) master) ∙ past) in
      let misfit : other.misfit ≡ differs wanted found = ap (λ (x : Wrong). x.misfit) w.is ∙ ap (λ (m : Misplaced). differs m.wanted m.found) same in
      not_before_place other at (omega (arith, lnum)) (λ s. omega (arith, offs)) (λ s t. misfit);
}

-- an image of which nothing but the geometry and the latest master is told
abbrev begun : RawGeometry → PlacedMaster → Image
begun geo latest = record { geo = geo; latest = latest; props = []; placed = ended; log = []; buds = []; committed = []; listed = [] }

before_masters : (contents : ℕ → List ℕ) (image : Image) → HasSuperblock contents image.geo → MeetsBefore contents image rules.Masters
before_masters contents image h rules.Superblock n = h
before_masters contents image h rules.Masters n = absurd (omega (arith, n))
before_masters contents image h rules.Properties n = absurd (omega (arith, n))
before_masters contents image h rules.Index n = absurd (omega (arith, n))
before_masters contents image h rules.Log n = absurd (omega (arith, n))
before_masters contents image h rules.Buds n = absurd (omega (arith, n))
before_masters contents image h rules.Leaves n = absurd (omega (arith, n))
before_masters contents image h rules.Sums n = absurd (omega (arith, n))
before_masters contents image h rules.Ends n = absurd (omega (arith, n))
before_masters contents image h rules.Orphans n = absurd (omega (arith, n))
before_masters contents image h rules.Tree n = absurd (omega (arith, n))
before_masters contents image h rules.Links n = absurd (omega (arith, n))

pub misplaced_breach : OneNode → OneText → (contents : ℕ → List ℕ) (geo : RawGeometry) (latest : PlacedMaster) (m : Misplaced) → IsBytes (contents 1) → IsBytes (contents 2) → HasSuperblock contents geo → IsLatest (contents 1) (contents 2) latest
    → first_past (addresses_of geo latest.master) ≡ Some m → IsFirstBreach contents (Damaged rules.Masters latest.lnum latest.offs m.wanted m.found)
misplaced_breach node text contents geo latest m f1 f2 super is past =
    (begun geo latest, before_masters contents (begun geo latest) super, misplaced_first node text contents geo latest m.wanted m.found f1 f2 is past)

-- what is said of an answer that is there, or of one that isn't
pub of_some : {X : Type 0} (P : X → Type 0) (o : Option X) (x : X) → o ≡ Some x → IfSome o P → P x
of_some {X = X} P o x e h = let Q : Option X → Type 0 = λ v. IfSome v P in subst Q e h
