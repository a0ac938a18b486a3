-- A LEB that was replaced by a node and a gap holds that node alone.
use Rattle.std.proofs.Common.{◌≡◌, ℕ, ◌+◌, ◌-◌, ◌%◌, ◌^◌, ◌<◌, List, ◌++◌, true, length, take, drop, replicate, inl, inr, refl, ap, sym, ◌∙◌, subst, append_assoc, length-append, arith}
use Rattle.std.proofs.lemmas.List.{drop_at, take_at}
use Rattle.ubifs_base.specs.Gap.{gap_of}
use Rattle.ubi_volume.specs.Volume.{ChangeUnderWay, IsChanged, VolumeState, WorksOn, filled}
use Rattle.ubi_volume.specs.VolumeLaws.{WorksOn-more}
use Rattle.leb_scan.specs.Text.{is_blank}
use Rattle.leb_scan.specs.TextLaws.{blank_replicate}
use Rattle.lpt_area.specs.Written.{in_units}
use Rattle.ubifs_base.specs.declared.raw_geometry.RawGeometry.{RawGeometry}
use Rattle.media_sys.specs.SystemNode.{IsSuper, superblock, written}
use Rattle.media_sys.specs.declared.super_node.Super.{Super}
use Rattle.sound_image.specs.Laid.{BeginsAlone}
use Rattle.sound_image.specs.Superblock.{BeginsWithSuper}
use Rattle.volume_format.specs.Alone.{AloneUnderWay, HoldsAlone}
use Rattle.volume_format.proofs.Units.{mod_left}

-- what was laid: a node's bytes, and a gap that fills whole words
pub record IsLaid (node all : List ℕ) (gap : ℕ) : Type 0 where
  pub bytes : all ≡ node ++ gap_of gap
  pub words : length node % 8 ≡ 0
  pub even : gap % 8 ≡ 0
  pub fits : gap < 2 ^ 32

pub begins_alone : (size : ℕ) (node all : List ℕ) (gap : ℕ) → IsLaid node all gap → BeginsAlone (filled size all) node
begins_alone size node all gap laid = record { size = size; gap = gap; is = ap (filled size) laid.bytes; words = laid.words; even = laid.even; fits = laid.fits }

pub alone_works : (old new : VolumeState) (lnum : ℕ) (node all : List ℕ) (gap : ℕ) → IsLaid node all gap → WorksOn old new lnum (ChangeUnderWay old lnum all) → WorksOn old new lnum (AloneUnderWay old lnum node)
alone_works old new lnum node all gap laid works =
    let P : List ℕ → Type 0 = λ leb. BeginsAlone leb node in
    WorksOn-more old new lnum (ChangeUnderWay old lnum all) (AloneUnderWay old lnum node)
    (λ left h. elim h [ inl before ↦ inl before | inr after ↦ inr (subst P (sym after) (begins_alone old.leb_size node all gap laid)) ]) works

pub alone_done : (geo : RawGeometry) (old new : VolumeState) (lnum : ℕ) (node all : List ℕ) (gap : ℕ) → IsLaid node all gap → length all ≡ in_units geo.min_io (length node) → IsChanged old new lnum all → HoldsAlone geo new lnum node
alone_done geo old new lnum node all gap laid long done =
    let P : List ℕ → Type 0 = λ leb. BeginsAlone leb node in
    let back : List ℕ = replicate (old.leb_size - length all) 255 in
    let B : List ℕ → Type 0 = λ bytes. is_blank bytes ≡ true in
    let rest : drop (new.written lnum) (new.holds lnum) ≡ back = ap (λ (n : ℕ). drop n (new.holds lnum)) done.written ∙ ap (drop (length all)) done.holds ∙ drop_at all back (length all) refl in
    record {
      begins = subst P (sym done.holds) (begins_alone old.leb_size node all gap laid);
      units = done.written ∙ long;
      behind = subst B (sym rest) (blank_replicate (old.leb_size - length all));
      settled = λ left h. done.left left h ∙ sym done.holds;
    }

-- so many bytes were laid: the node's, and a gap for the others
pub laid_so : (node all : List ℕ) (n k : ℕ) → all ≡ node ++ gap_of (n - k) → length node ≡ k → k % 8 ≡ 0 → n % 8 ≡ 0 → n < 2 ^ 32 → IsLaid node all (n - k)
laid_so node all n k is long words whole few = record {
  bytes = is;
  words = ap (λ (m : ℕ). m % 8) long ∙ words;
  even = mod_left n k 8 whole words;
  fits = omega (arith, few);
}

-- a LEB that holds a superblock node alone begins with it
pub begins_super : (leb : List ℕ) (node : Super) (sqnum : ℕ) → BeginsAlone leb (written sqnum 0 (superblock node)) → length (written sqnum 0 (superblock node)) ≡ 4096
    → IsSuper (written sqnum 0 (superblock node)) sqnum 0 node → BeginsWithSuper leb node
begins_super leb node sqnum alone long is =
    let bytes : List ℕ = written sqnum 0 (superblock node) in
    let rest : List ℕ = gap_of alone.gap ++ replicate (alone.size - length (bytes ++ gap_of alone.gap)) 255 in
    let parts : leb ≡ bytes ++ rest = alone.is ∙ append_assoc bytes (gap_of alone.gap) (replicate (alone.size - length (bytes ++ gap_of alone.gap)) 255) in
    let P : List ℕ → Type 0 = λ front. IsSuper front sqnum 0 node in
    let size : length leb ≡ length bytes + length rest = ap length parts ∙ length-append bytes rest in
    record {
      room = omega (arith, size, long);
      sqnum = sqnum;
      group = 0;
      is = subst P (sym (ap (take 4096) parts ∙ take_at bytes rest 4096 long)) is;
    }

-- the same of a LEB whose number is another's
pub alone_works_at : (old new : VolumeState) (lnum at : ℕ) (node all : List ℕ) (gap : ℕ) → lnum ≡ at → IsLaid node all gap → WorksOn old new lnum (ChangeUnderWay old lnum all) → WorksOn old new at (AloneUnderWay old at node)
alone_works_at old new lnum at node all gap e laid works =
    let P : ℕ → Type 0 = λ n. WorksOn old new n (AloneUnderWay old n node) in
    subst P e (alone_works old new lnum node all gap laid works)

pub alone_done_at : (geo : RawGeometry) (old new : VolumeState) (lnum at : ℕ) (node all : List ℕ) (gap : ℕ) → lnum ≡ at → IsLaid node all gap → length all ≡ in_units geo.min_io (length node) → IsChanged old new lnum all → HoldsAlone geo new at node
alone_done_at geo old new lnum at node all gap e laid long done =
    let P : ℕ → Type 0 = λ n. HoldsAlone geo new n node in
    subst P e (alone_done geo old new lnum node all gap laid long done)

-- the units of what was laid are those of its node
pub units_of : (geo : RawGeometry) (node all : List ℕ) (size k : ℕ) → length all ≡ size → size ≡ in_units geo.min_io k → length node ≡ k → length all ≡ in_units geo.min_io (length node)
units_of geo node all size k long units node_long = long ∙ units ∙ ap (λ (n : ℕ). in_units geo.min_io n) (sym node_long)
