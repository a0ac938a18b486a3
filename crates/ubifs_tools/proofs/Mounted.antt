-- With which numbers an image is mounted that was made of a manifest.
use Rattle.std.proofs.Common.{◌≡◌, ℕ, ◌+◌, ◌≤◌, cond, Bool, true, false, None, List, [], ◌∷◌, refl, ap, sym, subst, ◌∙◌, arith}
use Rattle.std.specs.Prelude.{IsTrue, filter, is_some}
use Rattle.std.specs.List.{list_all}
use Rattle.std.proofs.lemmas.Bool.{and_parts}
use Rattle.ubifs_base.specs.Areas.{main_lebs}
use Rattle.ubifs_base.specs.Geometry.{IsGeometry}
use Rattle.ubifs_base.specs.NodeLaws.{IsBytes}
use Rattle.ubifs_base.specs.declared.raw_geometry.RawGeometry.{RawGeometry}
use Rattle.ubi_volume.specs.Volume.{image_of}
use Rattle.fs_model.specs.declared.space.Space.{Space}
use Rattle.fs_model.specs.Cover.{tree_bytes}
use Rattle.fs_model.specs.Files.{Blocks, Tree, inode_at}
use Rattle.fs_model.specs.Proper.{IsProper}
use Rattle.fs_model.specs.Settled.{settled}
use Rattle.image_report.specs.Lebs.{AreLebsOfGeometry}
use Rattle.image_report.specs.Told.{HoldsFiles, HoldsSoundImage, HoldsVolume}
use Rattle.io_edges.specs.Keeper.{KeeperState}
use Rattle.recovered_tree.specs.Files.{files_of_image, without_lone_blocks}
use Rattle.script_run.specs.Opening.{mounted_space}
use Rattle.sound_image.specs.Image.{Image}
use Rattle.sound_image.specs.Sound.{SoundImage}
use Rattle.sound_image.specs.Summary.{space_of_image}
use Rattle.tree_nodes.specs.Stored.{stored_tree}
use Rattle.tree_space.specs.Laid.{IsTreeAdmitted}
use Rattle.whole_image.specs.Made.{IsMadeSpace}
use Rattle.ubifs_tools.specs.Command.{manifest_geometry}
use Rattle.ubifs_tools.specs.Making.{IsMadeOf, IsToldImage, made_geometry}
use Rattle.ubifs_tools.proofs.Sequel.{AreBytes, HoldFiles, HoldOneTree, stored_owned, told_bytes, told_holds}

-- what the crates below say of the bytes of a volume, and of an admitted tree
abbrev pub HoldImage : Type 0
HoldImage = (contents : ℕ → List ℕ) (image : Image) → AreLebsOfGeometry contents image.geo → SoundImage contents image → HoldsSoundImage (image_of contents image.geo.leb_cnt) image

abbrev pub HoldOneSpace : Type 0
HoldOneSpace = (bytes : List ℕ) (a b : RawGeometry) (s t : Tree) (x y : Space) → IsBytes bytes → HoldsVolume bytes a s x → HoldsVolume bytes b t y → x ≡ y

abbrev pub AdmittedMayBeWritten : Type 0
AdmittedMayBeWritten = (geo : RawGeometry) (tree : Tree) (space : Space) → IsGeometry geo → IsProper tree → IsTreeAdmitted geo tree → IsMadeSpace geo tree space → space.used + space.held ≤ tree_bytes tree
    → space.main ≡ main_lebs geo → settled geo space ≡ None

-- blocks that all pass stay
all_kept : (p : (ℕ × ℕ) × List ℕ → Bool) (blocks : Blocks) → IsTrue (list_all p blocks) → filter p blocks ≡ blocks
all_kept p [] h = refl
all_kept p (b ∷ blocks) h =
    let parts = and_parts (p b) (list_all p blocks) h in
    ap (λ (t : Bool). cond t (b ∷ filter p blocks) (filter p blocks)) parts.0 ∙ ap (λ (more : Blocks). b ∷ more) (all_kept p blocks parts.1)

-- A told image is a volume with the space of the image that was made.
told_space : HoldFiles → HoldImage → (geo : RawGeometry) (tree : Tree) (told image : List ℕ) (made : IsToldImage geo tree told image) → HoldsVolume image geo (stored_tree tree) (space_of_image made.made.image)
told_space hold hold_image geo tree told image made =
    let whole = made.made in
    let G : RawGeometry → Type 0 = λ g. AreLebsOfGeometry made.holds g in
    let B : List ℕ → Type 0 = λ bytes. HoldsSoundImage bytes whole.image in
    let bytes : image_of made.holds whole.image.geo.leb_cnt ≡ image = ap (λ (g : RawGeometry). image_of made.holds g.leb_cnt) whole.geometry ∙ sym made.image_is in
    let kept : without_lone_blocks (stored_tree tree) ≡ stored_tree tree =
    ap (λ (blocks : Blocks). record (stored_tree tree) { blocks = blocks }) (all_kept (λ b. is_some (inode_at (stored_tree tree) b.0.0)) (stored_tree tree).blocks (stored_owned tree)) in
    record {
      files = record {
        image = whole.image;
        holds = subst B bytes (hold_image made.holds whole.image (subst G (sym whole.geometry) made.lebs) whole.sound);
        geometry = whole.geometry;
        files = sym (ap without_lone_blocks whole.files ∙ kept);
        proper = (told_holds hold geo tree told image made).proper;
      };
      space_is = refl;
    }

-- A mount counts of it what is laid of the tree.
pub told_numbers : HoldFiles → HoldImage → AreBytes → HoldOneSpace → (geo more : RawGeometry) (tree files : Tree) (space : Space) (told image : List ℕ) → IsToldImage geo tree told image → HoldsVolume image more files space
    → IsMadeSpace geo tree space
told_numbers hold hold_image bytes one geo more tree files space told image made volume =
    let same = one image more geo files (stored_tree tree) space (space_of_image made.made.image) (told_bytes bytes geo tree told image made) volume (told_space hold hold_image geo tree told image made) in
    let P : Space → Type 0 = λ s. IsMadeSpace geo tree s in
    subst P (sym same) made.made.space

-- So the volume of a manifest that isn't packed may be written.
pub made_writable : HoldFiles → HoldImage → AreBytes → HoldOneTree → HoldOneSpace → AdmittedMayBeWritten → ((tree : Tree) → tree_bytes (stored_tree tree) ≤ tree_bytes tree)
    → (files : KeeperState) (geo : RawGeometry) (tree : Tree) (space : Space) (text told image : List ℕ) (made : IsMadeOf files text told image) → made.volume.packed ≡ false → HoldsVolume image geo tree space
    → settled geo (mounted_space geo tree space) ≡ None
made_writable hold hold_image bytes one one_space admitted fewer files geo tree space text told image made plain volume =
    let own = manifest_geometry made.volume in
    let same : made_geometry made.volume made.tree ≡ own = rw plain refl in
    let there = made_geometry made.volume made.tree in
    let numbers = told_numbers hold hold_image bytes one_space there geo made.tree tree space told image made.made volume in
    let N : RawGeometry → Type 0 = λ g. IsMadeSpace g made.tree space in
    let on_own = subst N same numbers in
    let less = fewer made.tree in
    let both = one image geo there tree (stored_tree made.tree) (told_bytes bytes there made.tree told image made.made) volume.files (told_holds hold there made.tree told image made.made) in
    let P : RawGeometry → Type 0 = λ g. settled g (mounted_space g tree space) ≡ None in
    let Q : Tree → Type 0 = λ t. settled own (mounted_space own t space) ≡ None in
    subst P (sym (both.0 ∙ same))
    (subst Q (sym both.1)
    (admitted own made.tree (mounted_space own (stored_tree made.tree) space) made.geometry made.proper (made.roomy plain).1 (record { index = on_own.index; empty = on_own.empty; weight = on_own.weight }) (omega (arith, less))
    refl))
