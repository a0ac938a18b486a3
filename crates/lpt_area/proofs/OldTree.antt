-- The tree before stands in what a cut leaves.
use Rattle.std.proofs.Common.{◌≡◌, ◌≢◌, ℕ, List, [], subst, sym, inl, inr, ◌∙◌, refl, length}
use Rattle.ubi_volume.specs.Volume.{VolumeState, Only, ChangeUnderWay, UnderWay, IsChanged, filled}
use Rattle.ubi_volume.specs.VolumeLaws.{Leaves-none}
use Rattle.ubifs_base.specs.declared.raw_geometry.RawGeometry.{RawGeometry}
use Rattle.media_lpt.specs.declared.lprop.Lprop.{Lprop}
use Rattle.lpt_area.specs.Tree.{root_of}
use Rattle.lpt_area.specs.Written.{KeepsTrees, ChangesOne, IsWritten, IsTreeLeb, next_lpt}
use Rattle.lpt_area.specs.declared.lpt_at.LptAt.{LptAt}
use Rattle.lpt_area.proofs.Growing.{tree_among}

pub keeps_trees : (geo : RawGeometry) (old new : VolumeState) (lnum after : ℕ) → lnum ≢ after → ChangesOne old new lnum → KeepsTrees geo old new after
keeps_trees geo old new lnum after other changes root props tree only =
    let works = changes.1 in
    let apart : after ≢ lnum = λ same. other (sym same) in
    record {
      later = works.time.later;
      nothing_else = λ t left early is. elim (works.time.nothing_else t left early is) [
        | inl older ↦ inl older
        | inr under ↦ inr (tree_among geo after (old.holds after) left root props (only (left after) (under.0 after apart)) tree)
      ];
    }

-- no call at all
pub changes_none : (a : VolumeState) (lnum : ℕ) → ChangesOne a a lnum
changes_none a lnum = (
  [],
  record {
    others = λ k ne. refl;
    others_written = λ k ne. refl;
    others_left = λ k x ne h. h;
    others_mapped = λ k x ne h. h;
    left = λ x h. inl h;
    time = Leaves-none a (UnderWay a lnum (ChangeUnderWay a lnum []));
    spent = λ h. h;
    unbroken = λ h. h;
  },
)

pub changes_at : (old new : VolumeState) (lnum other : ℕ) → lnum ≡ other → ChangesOne old new lnum → ChangesOne old new other
changes_at old new lnum other same h = let P : ℕ → Type 0 = λ n. ChangesOne old new n in subst P same h

pub is_written : (geo : RawGeometry) (old new : VolumeState) (props : List Lprop) (after lnum : ℕ) (bytes : List ℕ) (at : LptAt) → lnum ≡ next_lpt geo after → lnum ≢ after → geo.leb_size ≡ old.leb_size
    → length bytes ≡ at.nhead_offs → IsTreeLeb geo lnum props (filled geo.leb_size bytes) at → IsChanged old new lnum bytes → IsWritten geo after props new at
is_written geo old new props after lnum bytes at next other size long leb changed =
    let F : ℕ → Type 0 = λ n. IsTreeLeb geo lnum props (filled n bytes) at in
    let H : List ℕ → Type 0 = λ b. IsTreeLeb geo lnum props b at in
    let here = subst H (sym changed.holds) (subst F size leb) in
    let N : ℕ → Type 0 = λ n. IsTreeLeb geo n props (new.holds n) at in
    let W : ℕ → Type 0 = λ n. new.written n ≡ at.nhead_offs in
    let L : ℕ → Type 0 = λ n. Only (new.holds n) (new.left_now n) in
    let O : List ℕ → Type 0 = λ b. Only b (new.left_now lnum) in
    let T : ℕ → Type 0 = λ n. n ≢ after in
    record {
      leb = subst N next here;
      written = subst W (sym here.lnum) (changed.written ∙ long);
      left = subst L (sym here.lnum) (subst O (sym changed.holds) changed.left);
      tree = tree_among geo lnum (new.holds lnum) new.holds (root_of at) props refl here.tree;
      other = subst T (sym here.lnum) other;
    }
