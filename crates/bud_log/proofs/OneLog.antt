-- Contents are at most one log.
use Rattle.std.proofs.Common.{◌≡◌, inl, inr, ℕ, true, false, List, [], ◌∷◌, Option, Some, None, refl, ap, sym, ◌∙◌, subst}
use Rattle.std.specs.Prelude.{◌≢◌, IsTrue}
use Rattle.ubifs_base.specs.NodeLaws.{IsBytes}
use Rattle.ubifs_base.specs.declared.raw_geometry.RawGeometry.{RawGeometry}
use Rattle.bud_log.specs.Buds.{buds_of}
use Rattle.bud_log.specs.Log.{IsLogLeb, next_leb, Run, Stops, AreFurther, references_of, greatest_of, log_end_of, IsLog, Log}
use Rattle.bud_log.specs.LogLaws.{next_in}
use Rattle.bud_log.specs.LogText.{LogText, IsLogTextOf, begins_with, start_of, BeginsCommit, is_later}
use Rattle.bud_log.specs.OneTextLaws.{one_log_text}
use Rattle.bud_log.specs.declared.head_at.HeadAt.{HeadAt}
use Rattle.bud_log.specs.declared.log_end.LogEnd.{LogEnd}
use Rattle.bud_log.specs.References.{OneSystemNode, one_commit}
use Rattle.bud_log.specs.RingRuns.{OneLebText}

-- a LEB can't be both read and not read
not_both : OneLebText → OneSystemNode → (contents : ℕ → List ℕ) (from number lnum past : ℕ) (text : LogText) → IsBytes (contents past) → Stops contents from number past → lnum ≡ past → lnum ≢ from → IsLogTextOf (contents lnum) lnum text
    → IsTrue (is_later number (begins_with text.nodes)) → ⊥
not_both one one_node contents from number lnum past text fits (inl again) e ne is later = ne (e ∙ again)
not_both one one_node contents from number lnum past text fits (inr (other, there, not_later)) e ne is later =
    let P : ℕ → Type 0 = λ n. IsLogTextOf (contents n) n text in
    let same = one_log_text one_node one (contents past) past text other fits (subst P e is) there in
    let both : true ≡ false = sym later ∙ ap (λ (t : LogText). is_later number (begins_with t.nodes)) same ∙ not_later in
    absurd cc

one_run : OneLebText → OneSystemNode → (contents : ℕ → List ℕ) (geo : RawGeometry) (from number lnum p q : ℕ) (a b : List LogText) → IsLogLeb geo lnum → ((k : ℕ) → IsLogLeb geo k → IsBytes (contents k)) → Run contents geo from number lnum a p → Stops contents from number p
    → Run contents geo from number lnum b q → Stops contents from number q → a ≡ b
one_run one one_node contents geo from number lnum p q [] [] l fits h s k t = refl
one_run one one_node contents geo from number lnum p q [] (y ∷ b) l fits h s k t = let P : ℕ → Type 0 = λ n. IsLogLeb geo n in absurd (not_both one one_node contents from number lnum p y (fits p (subst P h l)) s h k.0 k.1 k.2)
one_run one one_node contents geo from number lnum p q (x ∷ a) [] l fits h s k t = let P : ℕ → Type 0 = λ n. IsLogLeb geo n in absurd (not_both one one_node contents from number lnum q x (fits q (subst P k l)) t k h.0 h.1 h.2)
one_run one one_node contents geo from number lnum p q (x ∷ a) (y ∷ b) l fits h s k t =
    ap (λ (z : LogText). z ∷ a) (one_log_text one_node one (contents lnum) lnum x y (fits lnum l) h.1 k.1) ∙ ap (λ (z : List LogText). y ∷ z) (one_run one one_node contents geo from number (next_leb geo lnum) p q a b (next_in geo lnum l) fits h.3 s k.3 t)

one_further : OneLebText → OneSystemNode → (contents : ℕ → List ℕ) (geo : RawGeometry) (from : ℕ) (start : Option ℕ) (a b : List LogText) → IsLogLeb geo from → ((k : ℕ) → IsLogLeb geo k → IsBytes (contents k)) → AreFurther contents geo from start a → AreFurther contents geo from start b → a ≡ b
one_further one one_node contents geo from None a b f fits h k = h ∙ sym k
one_further one one_node contents geo from (Some number) a b f fits (p, h, s) (q, k, t) = one_run one one_node contents geo from number (next_leb geo from) p q a b (next_in geo from f) fits h s k t

log_same : (c1 c2 : Option ℕ) (b1 b2 : List HeadAt) (s1 s2 : ℕ) (e1 e2 : LogEnd) → c1 ≡ c2 → b1 ≡ b2 → s1 ≡ s2 → e1 ≡ e2
    → let a : Log = record { commit = c1; buds = b1; sqnum = s1; ends = e1 } in
    let b : Log = record { commit = c2; buds = b2; sqnum = s2; ends = e2 } in
    a ≡ b
log_same c1 c2 b1 b2 s1 s2 e1 e2 c b s e = rw (c, b, s, e) refl

pub one_log_of : OneLebText → OneSystemNode → (contents : ℕ → List ℕ) (geo : RawGeometry) (from : ℕ) (a b : Log) → IsLogLeb geo from → ((k : ℕ) → IsLogLeb geo k → IsBytes (contents k)) → IsLog contents geo from a → IsLog contents geo from b → a ≡ b
one_log_of one one_node contents geo from a b f fits h k =
    let first = one_log_text one_node one (contents from) from h.first k.first (fits from f) h.is_first k.is_first in
    let P : LogText → Type 0 = λ t. AreFurther contents geo from (start_of (begins_with t.nodes)) h.more in
    let more = one_further one one_node contents geo from (start_of (begins_with k.first.nodes)) h.more k.more f fits (subst P first h.are_further) k.are_further in
    let Q : LogText → Type 0 = λ t. BeginsCommit (contents from) (begins_with t.nodes) a.commit in
    let commit = one_commit one_node (contents from) (fits from f) (begins_with k.first.nodes) a.commit b.commit (subst Q first h.commit) k.commit in
    log_same a.commit b.commit a.buds b.buds a.sqnum b.sqnum a.ends b.ends commit
    (h.buds ∙ ap (λ (t : LogText). buds_of (references_of (t ∷ h.more))) first ∙ ap (λ (ts : List LogText). buds_of (references_of (k.first ∷ ts))) more ∙ sym k.buds)
    (h.sqnum ∙ ap (λ (t : LogText). greatest_of 0 (t ∷ h.more)) first ∙ ap (λ (ts : List LogText). greatest_of 0 (k.first ∷ ts)) more ∙ sym k.sqnum)
    (h.ends ∙ ap (λ (t : LogText). log_end_of t.ends h.more) first ∙ ap (λ (ts : List LogText). log_end_of k.first.ends ts) more ∙ sym k.ends)
