-- A bud in which something is wrong isn't sound.
use Rattle.std.proofs.Common.{◌≡◌, ℕ, List, [], ◌∷◌, ◌++◌, ap, sym, ◌∙◌, subst, inl, inr}
use Rattle.std.specs.Prelude.{All, map}
use Rattle.std.specs.List.{AllByRecursion}
use Rattle.ubifs_base.specs.NodeLaws.{IsBytes}
use Rattle.media_sys.specs.declared.feature.Feature.{Feature}
use Rattle.leb_scan.specs.Text.{IsText, nodes_of}
use Rattle.leb_scan.specs.declared.found.Found.{Found}
use Rattle.leb_scan.specs.declared.item.Item.{Item}
use Rattle.leb_scan.specs.declared.tail.Tail.{Tail}
use Rattle.bud_log.specs.declared.head_at.HeadAt.{HeadAt}
use Rattle.journal_scan.specs.Journal.{BudRead}
use Rattle.journal_scan.specs.declared.bud_text.BudText.{BudText}
use Rattle.small_areas.specs.MasterLaws.{OneText}
use Rattle.sound_image.specs.Breaches.{IsWrongInBud, IsWrongInBuds}
use Rattle.sound_image.specs.Buds.{HasBuds, IsSoundBud, MayStandInBud, bud_text}
use Rattle.sound_image.specs.Frames.{IsKnownAt, NeedsFeature}
use Rattle.sound_image.specs.Wrong.{Wrong}
use Rattle.sound_image.proofs.Lists.{all_at, cons_parts}

-- what was read of one of the LEBs
read_of : (contents : ℕ → List ℕ) (before behind : List HeadAt) (bud : HeadAt) (reads : List BudRead) → map (λ x. x.bud) reads ≡ map (bud_text contents) (before ++ (bud ∷ behind)) → AllByRecursion IsSoundBud reads
    → (read : BudRead) × (read.bud ≡ bud_text contents bud) × IsSoundBud read
read_of contents [] behind bud [] e h = absurd cc
read_of contents (b ∷ before) behind bud [] e h = absurd cc
read_of contents [] behind bud (read ∷ reads) e h = (read, (cons_parts read.bud (bud_text contents bud) (map (λ x. x.bud) reads) (map (bud_text contents) behind) e).0, h.0)
read_of contents (b ∷ before) behind bud (read ∷ reads) e h =
    read_of contents before behind bud reads (cons_parts read.bud (bud_text contents b) (map (λ x. x.bud) reads) (map (bud_text contents) (before ++ (bud ∷ behind))) e).1 h.1

-- the text of bytes that are the same, from the same offset on
moved : (a b : List ℕ) (from to : ℕ) (items : List Item) (end : ℕ) (tail : Tail) → a ≡ b → from ≡ to → IsText a from items end tail → IsText b to items end tail
moved a b from to items end tail e f h =
    let P : List ℕ → Type 0 = λ bytes. IsText bytes from items end tail in
    let Q : ℕ → Type 0 = λ n. IsText b n items end tail in
    subst Q f (subst P e h)

bud_broken : OneText → (contents : ℕ → List ℕ) (bud : HeadAt) (at : Wrong) (read : BudRead) → IsBytes (contents bud.lnum) → read.bud ≡ bud_text contents bud → IsSoundBud read → IsWrongInBud contents bud at → ⊥
bud_broken one contents bud at read fits is h wrong =
    let leb = contents bud.lnum in
    let own = h.is_read in
    let bytes : read.bud.bytes ≡ leb = ap (λ (b : BudText). b.bytes) is in
    let from : read.bud.from ≡ bud.offs = ap (λ (b : BudText). b.from) is in
    let F : List ℕ → Type 0 = λ b. IsBytes b in
    let text = own.text in
    let same = one read.bud.bytes read.bud.from own.end wrong.end own.items wrong.items read.tail wrong.tail (subst F (sym bytes) fits) text (moved leb read.bud.bytes bud.offs read.bud.from wrong.items wrong.end wrong.tail (sym bytes) (sym from) wrong.is_text) in
    let nodes : nodes_of own.items ≡ nodes_of wrong.items = ap nodes_of same.0 in
    let K : List Found → Type 0 = λ founds. All (λ (found : Found). MayStandInBud found.kind) founds in
    let N : List Found → Type 0 = λ founds. All (λ (found : Found). IsKnownAt read.bud.bytes found.offs) founds in
    let known : (place : ℕ) (what : Feature) → IsKnownAt read.bud.bytes place → NeedsFeature leb place what → ⊥ = λ place what k needs. k what (subst (λ (b : List ℕ). NeedsFeature b place what) (sym bytes) needs) in
    elim wrong.wrong [
      | inl (found, one_of, not_may, offs, values) ↦ not_may (all_at (λ (x : Found). MayStandInBud x.kind) found (nodes_of wrong.items) one_of (subst K nodes h.kinds))
      | inr (what, needs, inl here, values) ↦ known at.offs what (subst (λ (n : ℕ). IsKnownAt read.bud.bytes n) (same.1 ∙ sym here) h.tail) needs
      | inr (what, needs, inr (found, one_of, here), values) ↦
          known at.offs what (subst (λ (n : ℕ). IsKnownAt read.bud.bytes n) (sym here) (all_at (λ (x : Found). IsKnownAt read.bud.bytes x.offs) found (nodes_of wrong.items) one_of (subst N nodes h.known))) needs
    ]

pub buds_broken : OneText → (contents : ℕ → List ℕ) (buds : List HeadAt) (reads : List BudRead) (at : Wrong) → ((k : ℕ) → IsBytes (contents k)) → IsWrongInBuds contents buds at → HasBuds contents buds reads → ⊥
buds_broken one contents buds reads at fits (bud, (before, behind, parts), wrong) h =
    let found = read_of contents before behind bud reads (h.of_buds ∙ ap (map (bud_text contents)) parts) h.sound in
    bud_broken one contents bud at found.0 (fits bud.lnum) found.1 found.2 wrong
