-- A leaf that was judged, in contents that are the same.
use Rattle.std.proofs.Common.{◌≡◌, ℕ, List, Option, sym, subst, inl, inr}
use Rattle.ubifs_base.specs.declared.raw_geometry.RawGeometry.{RawGeometry}
use Rattle.media_lpt.specs.declared.lprop.Lprop.{Lprop}
use Rattle.index_tree.specs.declared.leaf.Leaf.{Leaf}
use Rattle.sound_image.specs.Leaves.{IsSoundLeaf}
use Rattle.sound_image.specs.Wrong.{IsOneOf}
use Rattle.leaf_check.specs.Overlaps.{StandsBefore}
use Rattle.leaf_check.specs.Sweep.{IsLeafJudged}
use Rattle.leaf_check.proofs.SoundLeaves.{sound_moved}

pub judged_moved : (c d : ℕ → List ℕ) (geo : RawGeometry) (props : List Lprop) (last : Option Leaf) (x : Leaf) (behind old new : List Leaf) → ((k : ℕ) → c k ≡ d k) → IsLeafJudged (IsSoundLeaf c geo props) last x behind old new → IsLeafJudged (IsSoundLeaf d geo props) last x behind old new
judged_moved c d geo props last x behind old new e (inl (pushed, inl touched)) = inl (pushed, inl touched)
judged_moved c d geo props last x behind old new e (inl (pushed, inr unsound)) = inl (pushed, inr (λ sound. unsound (sound_moved d c geo props x (λ k. sym (e k)) sound)))
judged_moved c d geo props last x behind old new e (inr (same, apart, sound)) = inr (same, apart, sound_moved c d geo props x e sound)

-- one of the wrong leaves stands before a leaf
pub past_of : (seen wrong : List Leaf) (x : Leaf) → seen ≡ wrong → (other : Leaf) × IsOneOf other seen × StandsBefore other x → (other : Leaf) × IsOneOf other wrong × StandsBefore other x
past_of seen wrong x e h = let P : List Leaf → Type 0 = λ zs. (other : Leaf) × IsOneOf other zs × StandsBefore other x in subst P e h
