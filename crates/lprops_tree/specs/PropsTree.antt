-- What is kept beside the list of LEBs.
use Rattle.std.specs.Prelude.{◌≡◌, ℕ, ◌+◌, ◌<◌, List, length, get_or, All}
use Rattle.ubifs_base.specs.Areas.{main_first, main_lebs}
use Rattle.ubifs_base.specs.Geometry.{IsGeometry}
use Rattle.lprops_tree.specs.declared.candidate.Candidate.{Candidate}
use Rattle.lprops_tree.specs.declared.totals.Totals.{Totals}
use Rattle.lprops_tree.specs.MainArea.{MainArea, IsWithinLeb, used_bytes, unknown}
use Rattle.lprops_tree.specs.Candidates.{free_candidate, leaf_candidate}
use Rattle.lprops_tree.specs.Totals.{totals_of}
use Rattle.lprops_tree.specs.Tournament.{nobody}

-- who stands for the LEB at this place of the list, where a free one is picked
abbrev pub free_at : MainArea → ℕ → Candidate
free_at area k = free_candidate (main_first area.geo + k) (get_or area.lebs k unknown).1

-- the same where one with leaves is picked
abbrev pub leaf_at : MainArea → ℕ → Candidate
leaf_at area k = leaf_candidate (used_bytes area.geo (get_or area.lebs k unknown).0) (main_first area.geo + k) (get_or area.lebs k unknown).1

-- the candidates are these, one for each of so many LEBs
pub record AreThese (count : ℕ) (one_at : ℕ → Candidate) (candidates : List Candidate) : Type 0 where
  pub all : length candidates ≡ count
  pub each : (k : ℕ) → k < count → get_or candidates k nobody ≡ one_at k

-- each main LEB is there, and the tournaments and the totals are those of the list
pub record IsPropsTree (area : MainArea) (free leaves : List Candidate) (totals : Totals) : Type 0 where
  pub geometry : IsGeometry area.geo
  pub count : length area.lebs ≡ main_lebs area.geo
  pub within : All (λ leb. IsWithinLeb area.geo leb.0) area.lebs
  pub free_ones : AreThese (length area.lebs) (free_at area) free
  pub leaf_ones : AreThese (length area.lebs) (leaf_at area) leaves
  pub sums : totals ≡ totals_of area
