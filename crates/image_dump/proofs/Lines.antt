-- Lines of nodes, one behind another.
use Rattle.std.proofs.Common.{◌≡◌, ℕ, List, [], ◌∷◌, ◌++◌, ap, sym, ◌∙◌, append_assoc, append-nil}
use Rattle.leb_scan.specs.Text.{IsLast, tail_at}
use Rattle.leb_scan.specs.Gathered.{IsGathered, gathered_end}
use Rattle.leb_scan.specs.declared.found.Found.{Found}
use Rattle.leb_scan.specs.declared.tail.Tail.{Tail}
use Rattle.image_dump.specs.Listing.{node_line, node_lines, leb_line, tail_line, IsTextListing}

-- one node more
pub node_lines-push : (nodes : List Found) (found : Found) → node_lines (nodes ++ found ∷ []) ≡ node_lines nodes ++ node_line found
node_lines-push [] found = append-nil (node_line found)
node_lines-push (x ∷ nodes) found = ap (λ (t : List ℕ). node_line x ++ t) (node_lines-push nodes found) ∙ sym (append_assoc (node_line x) (node_lines nodes) (node_line found))

-- and its line
pub more_lines : (start out new line : List ℕ) (nodes : List Found) (found : Found) → out ≡ start ++ node_lines nodes → new ≡ out ++ line → line ≡ node_line found → new ≡ start ++ node_lines (nodes ++ found ∷ [])
more_lines start out new line nodes found before pushed is =
    pushed ∙ ap (λ (t : List ℕ). t ++ line) before ∙ append_assoc start (node_lines nodes) line
    ∙ ap (λ (t : List ℕ). start ++ t) (ap (λ (t : List ℕ). node_lines nodes ++ t) is ∙ sym (node_lines-push nodes found))

-- the whole text of a LEB
pub text_listed : (lnum : ℕ) (leb old start out new : List ℕ) (place end there : ℕ) (nodes : List Found) (tail : Tail) → IsGathered leb 0 place nodes → IsLast leb place end (tail_at leb end) → there ≡ end → tail ≡ tail_at leb end
    → start ≡ old ++ leb_line lnum → out ≡ start ++ node_lines nodes → new ≡ out ++ tail_line tail there → (text : List ℕ) × IsTextListing lnum leb text × (new ≡ old ++ text)
text_listed lnum leb old start out new place end there nodes tail gathered last there_is tail_is begun lines ended =
    let text = gathered_end leb 0 place end there nodes tail gathered last there_is tail_is in
    let body = leb_line lnum ++ node_lines nodes ++ tail_line tail there in
    let e : new ≡ old ++ body =
    ended ∙ ap (λ (t : List ℕ). t ++ tail_line tail there) (lines ∙ ap (λ (t : List ℕ). t ++ node_lines nodes) begun ∙ append_assoc old (leb_line lnum) (node_lines nodes))
    ∙ append_assoc old (leb_line lnum ++ node_lines nodes) (tail_line tail there) in
    (body, record { items = text.0; end = there; tail = tail; is_text = text.1; lines = ap (λ (n : List Found). leb_line lnum ++ node_lines n ++ tail_line tail there) text.2 }, e)
