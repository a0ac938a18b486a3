-- Of a log that begins with a commit start one list of texts is read.
use Rattle.std.proofs.Common.{◌≡◌, ℕ, true, false, List, [], ◌∷◌, Some, refl, ap, sym, ◌∙◌, subst, inl, inr}
use Rattle.std.specs.Prelude.{◌≢◌, IsTrue}
use Rattle.ubifs_base.specs.NodeLaws.{IsBytes}
use Rattle.ubifs_base.specs.declared.raw_geometry.RawGeometry.{RawGeometry}
use Rattle.bud_log.specs.Log.{Run, Stops, next_leb}
use Rattle.bud_log.specs.LogText.{IsLogTextOf, LogText, begins_with, is_later, start_of}
use Rattle.small_areas.specs.MasterLaws.{OneNode, OneText}
use Rattle.bud_log.specs.OneTextLaws.{one_log_text}
use Rattle.sound_image.specs.LogBreaches.{IsReadOfLog}

-- a LEB can't be both read and not read
not_both : OneNode → OneText → (contents : ℕ → List ℕ) (from number lnum past : ℕ) (text : LogText) → ((k : ℕ) → IsBytes (contents k)) → Stops contents from number past → lnum ≡ past → lnum ≢ from → IsLogTextOf (contents lnum) lnum text
    → IsTrue (is_later number (begins_with text.nodes)) → ⊥
not_both one unique contents from number lnum past text fits (inl again) e ne is later = ne (e ∙ again)
not_both one unique contents from number lnum past text fits (inr (other, there, not_later)) e ne is later =
    let P : ℕ → Type 0 = λ n. IsLogTextOf (contents n) n text in
    let same = one_log_text one unique (contents past) past text other (fits past) (subst P e is) there in
    let both : true ≡ false = sym later ∙ ap (λ (t : LogText). is_later number (begins_with t.nodes)) same ∙ not_later in
    absurd cc

one_run : OneNode → OneText → (contents : ℕ → List ℕ) (geo : RawGeometry) (from number lnum p q : ℕ) (a b : List LogText) → ((k : ℕ) → IsBytes (contents k)) → Run contents geo from number lnum a p → Stops contents from number p
    → Run contents geo from number lnum b q → Stops contents from number q → a ≡ b
one_run one unique contents geo from number lnum p q [] [] fits h s k t = refl
one_run one unique contents geo from number lnum p q [] (y ∷ b) fits h s k t = absurd (not_both one unique contents from number lnum p y fits s h k.0 k.1 k.2)
one_run one unique contents geo from number lnum p q (x ∷ a) [] fits h s k t = absurd (not_both one unique contents from number lnum q x fits t k h.0 h.1 h.2)
one_run one unique contents geo from number lnum p q (x ∷ a) (y ∷ b) fits h s k t =
    ap (λ (z : LogText). z ∷ a) (one_log_text one unique (contents lnum) lnum x y (fits lnum) h.1 k.1) ∙ ap (λ (z : List LogText). y ∷ z) (one_run one unique contents geo from number (next_leb geo lnum) p q a b fits h.3 s k.3 t)

some_same : (a b : ℕ) → Some a ≡ Some b → a ≡ b
some_same a b h = cc

pub one_reading : OneNode → OneText → (contents : ℕ → List ℕ) (geo : RawGeometry) (from s t : ℕ) (a b : List LogText) → ((k : ℕ) → IsBytes (contents k)) → IsReadOfLog contents geo from s a → IsReadOfLog contents geo from t b → (s ≡ t) × (a ≡ b)
one_reading one unique contents geo from s t a b fits x y =
    let first = one_log_text one unique (contents from) from x.first y.first (fits from) x.chain.is_first y.chain.is_first in
    let start = some_same s t (sym x.chain.starts ∙ ap (λ (z : LogText). start_of (begins_with z.nodes)) first ∙ y.chain.starts) in
    let P : ℕ → Type 0 = λ n. Run contents geo from n (next_leb geo from) x.more x.past in
    let Q : ℕ → Type 0 = λ n. Stops contents from n x.past in
    let more = one_run one unique contents geo from t (next_leb geo from) x.past y.past x.more y.more fits (subst P start x.chain.run) (subst Q start x.stops) y.chain.run y.stops in
    (start, x.whole ∙ ap (λ (z : LogText). z ∷ x.more) first ∙ ap (λ (z : List LogText). y.first ∷ z) more ∙ sym y.whole)
