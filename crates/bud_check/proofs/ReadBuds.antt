-- Buds, read one after another.
use Rattle.std.proofs.Common.{◌≡◌, ℕ, List, [], ◌∷◌, ◌++◌, length, map, refl, ap, sym, subst, ◌∙◌, append_assoc, append-nil, arith}
use Rattle.std.specs.List.{AllByRecursion}
use Rattle.ubi_volume.specs.Volume.{VolumeState}
use Rattle.bud_log.specs.declared.head_at.HeadAt.{HeadAt}
use Rattle.journal_scan.specs.declared.bud_text.BudText.{BudText}
use Rattle.sound_image.specs.Buds.{bud_text}
use Rattle.image_check.specs.KeptLaws.{IsKept, kept_start}
use Rattle.bud_check.specs.Findings.{IsInVolume}

-- the texts of those that were read, and those that are left
pub record ReadSoFar (old now : VolumeState) (left all : List HeadAt) (texts : List BudText) : Type 0 where
  pub kept : IsKept old now
  pub fit : AllByRecursion (IsInVolume old.leb_cnt) left
  pub are : texts ++ map (bud_text old.holds) left ≡ map (bud_text old.holds) all

pub read_start : (old : VolumeState) (all : List HeadAt) (texts : List BudText) → texts ≡ [] → AllByRecursion (IsInVolume old.leb_cnt) all → ReadSoFar old old all all texts
read_start old all texts none fit = record { kept = kept_start old; fit = fit; are = ap (λ (ts : List BudText). ts ++ map (bud_text old.holds) all) none }

same_text : (c d : ℕ → List ℕ) (bud : HeadAt) → c bud.lnum ≡ d bud.lnum → bud_text c bud ≡ bud_text d bud
same_text c d bud e = ap (λ (b : List ℕ). record { head = bud.head; lnum = bud.lnum; from = bud.offs; bytes = b }) e

pub read_next : (old now new : VolumeState) (left all : List HeadAt) (bud : HeadAt) (rest : List HeadAt) (texts more : List BudText) (text : BudText) → left ≡ bud ∷ rest → text ≡ bud_text now.holds bud → more ≡ texts ++ text ∷ [] → ReadSoFar old now left all texts → IsKept old new → ReadSoFar old new rest all more
read_next old now new left all bud rest texts more text cut is pushed before kept =
    let F : List HeadAt → Type 0 = λ bs. AllByRecursion (IsInVolume old.leb_cnt) bs in
    let T = map (bud_text old.holds) in
    let own : text ≡ bud_text old.holds bud = is ∙ same_text now.holds old.holds bud (before.kept.keeps.holds bud.lnum) in
    record {
      kept = kept;
      fit = (subst F cut before.fit).1;
      are = ap (λ (ts : List BudText). ts ++ T rest) pushed ∙ append_assoc texts (text ∷ []) (T rest) ∙ ap (λ (t : BudText). texts ++ (t ∷ T rest)) own ∙ ap (λ (bs : List HeadAt). texts ++ T bs) (sym cut) ∙ before.are;
    }

pub read_end : (old now : VolumeState) (left all : List HeadAt) (texts : List BudText) → left ≡ [] → ReadSoFar old now left all texts → texts ≡ map (bud_text old.holds) all
read_end old now left all texts none h = sym (append-nil texts) ∙ ap (λ (bs : List HeadAt). texts ++ map (bud_text old.holds) bs) (sym none) ∙ h.are

pub no_more : (left : List HeadAt) → length left ≡ 0 → left ≡ []
no_more [] h = refl
no_more (b ∷ left) h = absurd (omega (arith, h))
