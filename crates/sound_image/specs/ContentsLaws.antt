-- The contents of a volume are bytes.
use Rattle.std.proofs.Common.{◌≡◌, ℕ, ◌≤◌, List, [], sym, subst, inl, inr, arith}
use Rattle.std.specs.Prelude.{◌<◌}
use Rattle.std.proofs.lemmas.Bool.{cases_lt}
use Rattle.ubifs_base.specs.NodeLaws.{IsBytes}
use Rattle.ubi_volume.specs.Volume.{VolumeState}

-- each LEB that it has is of bytes, and another one has none
pub contents_bytes : (s : VolumeState) → ((k : ℕ) → k < s.leb_cnt → IsBytes (s.holds k)) → ((k : ℕ) → s.leb_cnt ≤ k → s.holds k ≡ []) → (k : ℕ) → IsBytes (s.holds k)
contents_bytes s bytes none k = elim (cases_lt k s.leb_cnt) [
  | inl less ↦ bytes k less
  | inr high ↦ let P : List ℕ → Type 0 = λ leb. IsBytes leb in subst P (sym (none k high)) (λ i. omega arith)
]
