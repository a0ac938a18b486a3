-- What is kept beside the list stays true where one LEB is changed.
use Rattle.std.proofs.Common.{◌≡◌, ℕ, ◌+◌, ◌-◌, ◌<◌, inl, inr, sym, ap, subst, ◌∙◌, List, length, get_or, set, arith}
use Rattle.std.proofs.lemmas.Bool.{cases_eq}
use Rattle.std.proofs.lemmas.List.{length-set, get_or-set_same, get_or-set_other}
use Rattle.std.proofs.lemmas.List.Elements.{All-set}
use Rattle.ubifs_base.specs.Areas.{main_first}
use Rattle.media_lpt.specs.declared.leb_kind.LebKind.{LebKind}
use Rattle.media_lpt.specs.declared.lprop.Lprop.{Lprop}
use Rattle.lprops_tree.specs.declared.candidate.Candidate.{Candidate}
use Rattle.lprops_tree.specs.declared.totals.Totals.{Totals}
use Rattle.lprops_tree.specs.Candidates.{free_candidate, leaf_candidate}
use Rattle.lprops_tree.specs.PropsTree.{AreThese, IsPropsTree, free_at, leaf_at}
use Rattle.lprops_tree.specs.MainArea.{MainArea, IsMainLeb, IsWithinLeb, used_bytes, unknown}
use Rattle.lprops_tree.specs.Totals.{exchanged, leb_totals}
use Rattle.lprops_tree.specs.Tournament.{nobody}
use Rattle.lprops_tree.proofs.Sums.{totals_exchanged}

-- one candidate is put
these-set : (count : ℕ) (old new : ℕ → Candidate) (list : List Candidate) (k : ℕ) (one : Candidate) → k < count → new k ≡ one →
    ((i : ℕ) → (i ≡ k → ⊥) → new i ≡ old i) → AreThese count old list → AreThese count new (set list k one)
these-set count old new list k one l is others h = record { all = length-set list k one ∙ h.all; each = each }
  where
    each : (i : ℕ) → i < count → get_or (set list k one) i nobody ≡ new i
    each i few = elim (cases_eq i k) [
      | inl same ↦ let P : ℕ → Type 0 = λ v. get_or (set list k one) v nobody ≡ new v in
          subst P (sym same) (get_or-set_same list k one nobody (omega (arith, h.all)) ∙ sym is)
      | inr differs ↦ get_or-set_other list k i one nobody differs ∙ (h.each i few ∙ sym (others i differs))
    ]

pub kept-set : (area : MainArea) (free leaves : List Candidate) (totals : Totals) (k : ℕ) (leb : Lprop × LebKind) → k < length area.lebs → IsWithinLeb area.geo leb.0 →
    IsPropsTree area free leaves totals →
    IsPropsTree (record area { lebs = set area.lebs k leb })
    (set free k (free_candidate (main_first area.geo + k) leb.1))
    (set leaves k (leaf_candidate (used_bytes area.geo leb.0) (main_first area.geo + k) leb.1))
    (exchanged totals (leb_totals area.geo (get_or area.lebs k unknown)) (leb_totals area.geo leb))
kept-set area free leaves totals k leb l fits h =
    let new : MainArea = record area { lebs = set area.lebs k leb } in
    let long : length new.lebs ≡ length area.lebs = length-set area.lebs k leb in
    let here : get_or new.lebs k unknown ≡ leb = get_or-set_same area.lebs k leb unknown l in
    let others : (i : ℕ) → (i ≡ k → ⊥) → get_or new.lebs i unknown ≡ get_or area.lebs i unknown = λ i differs. get_or-set_other area.lebs k i leb unknown differs in
    let free_one : Candidate = free_candidate (main_first area.geo + k) leb.1 in
    let leaf_one : Candidate = leaf_candidate (used_bytes area.geo leb.0) (main_first area.geo + k) leb.1 in
    let F : ℕ → Type 0 = λ n. AreThese n (free_at new) (set free k free_one) in
    let L : ℕ → Type 0 = λ n. AreThese n (leaf_at new) (set leaves k leaf_one) in
    record {
      geometry = h.geometry;
      count = long ∙ h.count;
      within = All-set (λ x. IsWithinLeb area.geo x.0) area.lebs k leb fits h.within;
      free_ones = subst F (sym long) (these-set (length area.lebs) (free_at area) (free_at new) free k free_one l
          (ap (λ x. free_candidate (main_first area.geo + k) x.1) here)
          (λ i differs. ap (λ x. free_candidate (main_first area.geo + i) x.1) (others i differs)) h.free_ones);
      leaf_ones = subst L (sym long) (these-set (length area.lebs) (leaf_at area) (leaf_at new) leaves k leaf_one l
          (ap (λ x. leaf_candidate (used_bytes area.geo x.0) (main_first area.geo + k) x.1) here)
          (λ i differs. ap (λ x. leaf_candidate (used_bytes area.geo x.0) (main_first area.geo + i) x.1) (others i differs)) h.leaf_ones);
      sums = ap (λ t. exchanged t (leb_totals area.geo (get_or area.lebs k unknown)) (leb_totals area.geo leb)) h.sums ∙ totals_exchanged area k leb l;
    }

-- the same by the LEB's number, and with what the calls answered
pub kept-put : (area : MainArea) (free leaves : List Candidate) (totals : Totals) (first lnum : ℕ) (leb : Lprop × LebKind) (new_free new_leaves : List Candidate) (new_totals : Totals) →
    first ≡ main_first area.geo → IsMainLeb area.geo lnum → IsWithinLeb area.geo leb.0 → IsPropsTree area free leaves totals →
    new_free ≡ set free (lnum - first) (free_candidate lnum leb.1) →
    new_leaves ≡ set leaves (lnum - first) (leaf_candidate (used_bytes area.geo leb.0) lnum leb.1) →
    new_totals ≡ exchanged totals (leb_totals area.geo (get_or area.lebs (lnum - first) unknown)) (leb_totals area.geo leb) →
    IsPropsTree (record area { lebs = set area.lebs (lnum - first) leb }) new_free new_leaves new_totals
kept-put area free leaves totals first lnum leb new_free new_leaves new_totals is main fits h a b c =
    let k : ℕ = lnum - first in
    let number : main_first area.geo + k ≡ lnum = omega (arith, main.low) in
    let place : k < length area.lebs = omega (arith, main.low, main.high, h.count) in
    let kept = kept-set area free leaves totals k leb place fits h in
    let new : MainArea = record area { lebs = set area.lebs k leb } in
    let N : ℕ → Type 0 = λ n. IsPropsTree new (set free k (free_candidate n leb.1)) (set leaves k (leaf_candidate (used_bytes area.geo leb.0) n leb.1))
    (exchanged totals (leb_totals area.geo (get_or area.lebs k unknown)) (leb_totals area.geo leb)) in
    let F : List Candidate → Type 0 = λ v. IsPropsTree new v (set leaves k (leaf_candidate (used_bytes area.geo leb.0) lnum leb.1))
    (exchanged totals (leb_totals area.geo (get_or area.lebs k unknown)) (leb_totals area.geo leb)) in
    let L : List Candidate → Type 0 = λ v. IsPropsTree new new_free v (exchanged totals (leb_totals area.geo (get_or area.lebs k unknown)) (leb_totals area.geo leb)) in
    let T : Totals → Type 0 = λ v. IsPropsTree new new_free new_leaves v in
    subst T (sym c) (subst L (sym b) (subst F (sym a) (subst N number kept)))
