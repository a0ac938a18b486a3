-- The answers of a making of an image.
use Rattle.std.proofs.Common.{◌≡◌, cond, false, Some, ℕ, ◌≤◌, List, ap, refl, sym, subst, ◌∙◌, inl, inr, arith}
use Rattle.std.proofs.lemmas.Bool.{false≢true}
use Rattle.std.specs.Prelude.{codes, IsTrue, Result, Ok, Err, IfOk}
use Rattle.std.specs.Str.{bytes_eq}
use Rattle.ubifs_base.specs.declared.raw_geometry.RawGeometry.{RawGeometry}
use Rattle.ubifs_base.specs.Areas.{main_lebs}
use Rattle.ubifs_base.specs.Geometry.{IsGeometry}
use Rattle.script_text.specs.declared.fault.TextFault.{TextFault}
use Rattle.script_text.specs.declared.fault.TextFault.TheVariants.{Memory, Line}
use Rattle.script_text.specs.declared.manifest.Manifest.{Manifest}
use Rattle.script_text.specs.Script.{OnLine}
use Rattle.fs_model.specs.Files.{Tree}
use Rattle.fs_model.specs.Proper.{IsProper}
use Rattle.manifest_tree.specs.ManifestTree.{IsFirstBadTreeLine}
use Rattle.whole_image.specs.Made.{packed_geometry, packed_lebs}
use Rattle.io_edges.specs.Keeper.{KeeperState, SameFiles, SetsFile}
use Rattle.ubifs_tools.specs.Copies.{IsFilledManifest}
use Rattle.ubifs_tools.specs.Command.{bad_line, manifest_geometry}
use Rattle.ubifs_tools.specs.Making.{IsBadTree, IsImageMade, IsPackedMade, IsToldImage, IsVolumeMade, made_geometry}
use Rattle.ubifs_tools.specs.Pieces.{volume_image}
use Rattle.ubifs_tools.specs.declared.mkfs.MadeVolume.{MadeVolume}
use Rattle.ubifs_tools.specs.declared.mkfs.MadeVolume.TheVariants.{BadGeometry, Done}

pub bad_tree : (fault : TextFault) (text line word : List ℕ) → word ≡ codes "manifest" → OnLine fault (IsFirstBadTreeLine text) → OnLine fault (λ number. line ≡ bad_line word number) → (fault ≡ Memory → ⊥) → IsBadTree text line
bad_tree Memory text line word e bad told never = absurd (never refl)
bad_tree (Line number) text line word e bad told never = record { number = number; bad = bad; line_is = told ∙ ap (λ w. bad_line w number) e }

-- what was made of a tree is what was made of the text, if it doesn't say `packed`
pub made_of : (files : KeeperState) (text : List ℕ) (volume : Manifest) (tree : Tree) (raw : RawGeometry) (made_volume : MadeVolume) → IsFilledManifest files text volume tree → IsProper tree → IsGeometry raw → raw ≡ manifest_geometry volume → volume.packed ≡ false → 24 ≤ volume.main
    → IsImageMade raw tree made_volume → IsVolumeMade files text made_volume
made_of files text volume tree raw (BadGeometry line) is proper ranges e plain main made =
    record { volume = volume; tree = tree; is = is; why = inr (inr (inr (subst (λ g. IsGeometry g) e ranges, plain, main, subst (λ g. IsImageMade g tree (BadGeometry line)) e made))) }
made_of files text volume tree raw (Done told volume_made) is proper ranges e plain main made =
    let both = subst (λ g. IsImageMade g tree (Done told volume_made)) e made in
    let same : made_geometry volume tree ≡ manifest_geometry volume = rw plain refl in record {
      volume = volume;
      tree = tree;
      is = is;
      proper = proper;
      geometry = subst (λ g. IsGeometry g) e ranges;
      roomy = λ _. (main, both.0);
      made = subst (λ g. IsToldImage g tree told.items (volume_image volume_made)) (sym same) both.1;
    }

-- and if it says so
pub packed_of : (files : KeeperState) (text : List ℕ) (volume : Manifest) (tree : Tree) (raw : RawGeometry) (made_volume : MadeVolume) → IsFilledManifest files text volume tree → IsProper tree → IsGeometry raw → raw ≡ manifest_geometry volume → IsTrue volume.packed
    → IsPackedMade raw tree made_volume → IsVolumeMade files text made_volume
packed_of files text volume tree raw (BadGeometry line) is proper ranges e packed made =
    record { volume = volume; tree = tree; is = is; why = inr (inl (subst (λ g. IsGeometry g) e ranges, packed, subst (λ g. IsPackedMade g tree (BadGeometry line)) e made)) }
packed_of files text volume tree raw (Done told volume_made) is proper ranges e packed made =
    let there = subst (λ g. IsPackedMade g tree (Done told volume_made)) e made in
    let same : made_geometry volume tree ≡ packed_geometry (manifest_geometry volume) tree = rw packed refl in record {
      volume = volume;
      tree = tree;
      is = is;
      proper = proper;
      geometry = subst (λ g. IsGeometry g) e ranges;
      roomy = λ plain. absurd (false≢true (sym plain ∙ packed));
      made = subst (λ g. IsToldImage g tree told.items (volume_image volume_made)) (sym same) there;
    }

-- the same of a call's answer
pub all_made : {E : Type 0} (r : Result MadeVolume E) (files : KeeperState) (text : List ℕ) (volume : Manifest) (tree : Tree) (raw : RawGeometry) → IfOk r (IsImageMade raw tree) → IsFilledManifest files text volume tree → IsProper tree → IsGeometry raw → raw ≡ manifest_geometry volume
    → volume.packed ≡ false → 24 ≤ volume.main → IfOk r (IsVolumeMade files text)
all_made (Ok made_volume) files text volume tree raw made is proper ranges e plain main = made_of files text volume tree raw made_volume is proper ranges e plain main made
all_made (Err fault) files text volume tree raw made is proper ranges e plain main = tt

pub all_packed : {E : Type 0} (r : Result MadeVolume E) (files : KeeperState) (text : List ℕ) (volume : Manifest) (tree : Tree) (raw : RawGeometry) → IfOk r (IsPackedMade raw tree) → IsFilledManifest files text volume tree → IsProper tree → IsGeometry raw → raw ≡ manifest_geometry volume
    → IsTrue volume.packed → IfOk r (IsVolumeMade files text)
all_packed (Ok made_volume) files text volume tree raw made is proper ranges e packed = packed_of files text volume tree raw made_volume is proper ranges e packed made
all_packed (Err fault) files text volume tree raw made is proper ranges e packed = tt

-- a volume of just as many main LEBs as a tree takes has them
packed_counts : (geo : RawGeometry) (tree : Tree) → packed_lebs (packed_geometry geo tree) tree ≡ main_lebs (packed_geometry geo tree)
packed_counts geo tree = omega arith

pub packed_has : (geo made : RawGeometry) (tree : Tree) → made ≡ packed_geometry geo tree → packed_lebs made tree ≡ main_lebs made
packed_has geo made tree e = subst (λ g. packed_lebs g tree ≡ main_lebs g) (sym e) (packed_counts geo tree)

-- an image on a volume of this geometry
pub told_packed : (geo made : RawGeometry) (tree : Tree) (told image : List ℕ) → made ≡ packed_geometry geo tree → IsToldImage made tree told image → IsToldImage (packed_geometry geo tree) tree told image
told_packed geo made tree told image e is = subst (λ g. IsToldImage g tree told image) e is

-- a file is set among those that were there before something was read
pub sets_over : (old mid new : KeeperState) (name bytes given : List ℕ) → SameFiles old mid → mid.tells ≡ old.tells → given ≡ bytes → (IsTrue mid.tells → SetsFile mid name given new) → IsTrue old.tells → SetsFile old name bytes new
sets_over old mid new name bytes given same tells e h told = λ other.
    h (tells ∙ told) other ∙ (ap (λ x. cond (bytes_eq name other) (Some given) x) (same other) ∙ ap (λ (b : List ℕ). cond (bytes_eq name other) (Some b) (old.content other)) e)
