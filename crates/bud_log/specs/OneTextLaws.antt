-- A node is one reference at most, and a LEB of a log has one text.
use Rattle.std.proofs.Common.{◌≡◌, ℕ, List, [], ◌∷◌, take, drop, ap, sym, ◌∙◌, subst, inl, inr}
use Rattle.ubifs_base.specs.NodeLaws.{IsBytes}
use Rattle.media_sys.specs.SystemNode.{reference}
use Rattle.media_sys.specs.declared.ref_node.RefNode.{RefNode}
use Rattle.leb_scan.specs.Text.{nodes_of}
use Rattle.leb_scan.specs.declared.found.Found.{Found}
use Rattle.bud_log.specs.Bytes.{bytes_drop, bytes_take}
use Rattle.bud_log.specs.LogText.{IsReferenceAt, IsLogTextOf, LogText, Refer}
use Rattle.bud_log.specs.References.{OneSystemNode, reference_same}
use Rattle.bud_log.specs.RingRuns.{OneLebText, ends_same}

-- a node is one reference
pub one_reference : OneSystemNode → (leb : List ℕ) (found : Found) (m n : RefNode) → IsBytes leb → IsReferenceAt leb found m → IsReferenceAt leb found n → m ≡ n
one_reference one leb found m n fits is also =
    let bytes = take found.len (drop found.offs leb) in
    reference_same m n (one bytes found.sqnum found.group found.sqnum found.group (reference m) (reference n) (bytes_take found.len (drop found.offs leb) (bytes_drop found.offs leb fits)) is also).2

one_refer : OneSystemNode → (leb : List ℕ) → IsBytes leb → (nodes : List Found) (a b : List RefNode) → Refer leb nodes a → Refer leb nodes b → a ≡ b
one_refer one leb fits [] a b h k = h ∙ sym k
one_refer one leb fits (found ∷ nodes) a b (inl (other, h)) (inl (again, k)) = one_refer one leb fits nodes a b h k
one_refer one leb fits (found ∷ nodes) a b (inl (other, h)) (inr (kind, node, more, is, e, k)) = absurd (other kind)
one_refer one leb fits (found ∷ nodes) a b (inr (kind, node, more, is, e, h)) (inl (other, k)) = absurd (other kind)
one_refer one leb fits (found ∷ nodes) a b (inr (kind, m, rest, is, e, h)) (inr (again, n, others, also, f, k)) =
    e ∙ ap (λ (x : RefNode). x ∷ rest) (one_reference one leb found m n fits is also) ∙ ap (λ (x : List RefNode). n ∷ x) (one_refer one leb fits nodes rest others h k) ∙ sym f

text_same : (a b : LogText) → a.nodes ≡ b.nodes → a.references ≡ b.references → a.ends ≡ b.ends → a ≡ b
text_same a b n r e =
    ap (λ (nodes : List Found). record a { nodes = nodes }) n
    ∙ ap (λ (references : List RefNode). record a { nodes = b.nodes; references = references }) r
    ∙ ap (λ ends. record b { ends = ends }) e

-- a LEB has one text
pub one_log_text : OneSystemNode → OneLebText → (leb : List ℕ) (lnum : ℕ) (a b : LogText) → IsBytes leb → IsLogTextOf leb lnum a → IsLogTextOf leb lnum b → a ≡ b
one_log_text one text leb lnum a b fits h k =
    let same = text leb 0 a.ends.offs b.ends.offs h.items k.items a.ends.tail b.ends.tail fits h.is_text k.is_text in
    let nodes : a.nodes ≡ b.nodes = h.nodes ∙ ap nodes_of same.0 ∙ sym k.nodes in
    let P : List Found → Type 0 = λ n. Refer leb n a.references in
    text_same a b nodes (one_refer one leb fits b.nodes a.references b.references (subst P nodes h.refer) k.refer)
    (ends_same a.ends.lnum b.ends.lnum a.ends.offs b.ends.offs a.ends.tail b.ends.tail (h.here ∙ sym k.here) same.1 same.2)
