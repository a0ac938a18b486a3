-- Contents as bytes, one LEB behind another.
use Rattle.std.proofs.Common.{◌≡◌, ℕ, zero, suc, ◌+◌, ◌-◌, ◌*◌, ◌%◌, ◌<◌, ◌≤◌, Bool, true, false, List, [], ◌∷◌, ◌++◌, length, take, drop, replicate, refl, ap, sym, subst, ◌∙◌, inl, inr, arith, length-append, length-drop, take_all}
use Rattle.std.specs.Prelude.{nat_lt, if◌then◌else◌, IsTrue, is_some}
use Rattle.std.specs.List.{list_all}
use Rattle.std.proofs.Math.Nat.{mul-le-mul_right, mul-mod_left}
use Rattle.std.proofs.Math.Path.{fun_ext}
use Rattle.std.proofs.Math.Seq.{drop-append_seam}
use Rattle.std.proofs.lemmas.Bool.{cases_lt, ltb-true, ltb-false}
use Rattle.std.proofs.lemmas.List.{append-nil, drop-append-le, drop_all, take-append-le, take-take}
use Rattle.ubifs_base.specs.Node.{IsNode, node_bytes}
use Rattle.ubifs_base.specs.NodeLaws.{IsBytes}
use Rattle.ubifs_base.specs.declared.raw_geometry.RawGeometry.{RawGeometry}
use Rattle.ubi_volume.specs.Loading.{Fits, leb_of}
use Rattle.ubi_volume.specs.Volume.{filled, image_of}
use Rattle.media_sys.specs.SystemNode.{IsSuper}
use Rattle.media_sys.specs.declared.super_node.Super.{Super}
use Rattle.sound_image.specs.Image.{Image}
use Rattle.sound_image.specs.Sound.{SoundImage}
use Rattle.sound_image.specs.Superblock.{BeginsWithSuper}
use Rattle.sound_image.specs.Summary.{tree_of_image}
use Rattle.fs_model.specs.Files.{Tree, inode_at}
use Rattle.fs_model.specs.Proper.{IsProper}
use Rattle.recovered_tree.specs.Files.{files_of_image}
use Rattle.image_dump.specs.Opening.{contents_of, shape_of}
use Rattle.image_report.specs.Lebs.{AreLebsOfGeometry, AreSoundLebs}
use Rattle.image_report.specs.Told.{HoldsFiles, HoldsSoundImage}
use Rattle.image_report.proofs.Contents.{ProperFiles}
use Rattle.image_report.proofs.OneTold.{OneShape, contents_bytes, joined_bytes}

-- the first n LEBs have this size
abbrev AreSized : ℕ → (ℕ → List ℕ) → ℕ → Type 0
AreSized size contents n = (k : ℕ) → k < n → length (contents k) ≡ size

fewer : (size : ℕ) (contents : ℕ → List ℕ) (n : ℕ) → AreSized size contents (suc n) → AreSized size contents n
fewer size contents n sized = λ k less. sized k (omega (arith, less))

-- so their bytes are so many
laid_length : (size : ℕ) (contents : ℕ → List ℕ) (n : ℕ) → AreSized size contents n → length (image_of contents n) ≡ n * size
laid_length size contents zero sized = omega arith
laid_length size contents (suc n) sized =
    let front = laid_length size contents n (fewer size contents n sized) in
    let last = sized n (omega arith) in
    let both = length-append (image_of contents n) (contents n) in
    omega (arith, front, last, both)

-- and each of them stands at its place
laid_leb : (size : ℕ) (contents : ℕ → List ℕ) (n k : ℕ) → AreSized size contents n → k < n → take size (drop (k * size) (image_of contents n)) ≡ contents k
laid_leb size contents zero k sized less = absurd (omega (arith, less))
laid_leb size contents (suc n) k sized less = elim (cases_lt k n) [
  | inl before ↦
      let within : suc k * size ≤ n * size = mul-le-mul_right {m = suc k} {n = n} size (omega (arith, before)) in
      let next : suc k * size ≡ k * size + size = omega arith in
      let gone = length-drop (k * size) (image_of contents n) in
      ap (take size) (drop-append-le (k * size) (image_of contents n) (contents n) (omega (arith, within, next, long)))
      ∙ take-append-le size (drop (k * size) (image_of contents n)) (contents n) (omega (arith, within, next, long, gone))
      ∙ laid_leb size contents n k (fewer size contents n sized) before
  | inr behind ↦
      let here : n ≡ k = omega (arith, behind, less) in
      let at_end : length (image_of contents n) ≡ k * size = long ∙ ap (λ j. j * size) here in
      let P : ℕ → Type 0 = λ place. take size (drop place (image_of contents n ++ contents n)) ≡ contents n in
      let last = sized n (omega arith) in
      subst P at_end (ap (take size) (drop-append_seam (image_of contents n) (contents n)) ∙ take_all size (contents n) (omega (arith, last))) ∙ ap contents here
]
  where
    long : length (image_of contents n) ≡ n * size
    long = laid_length size contents n (fewer size contents n sized)

-- read at its place, with nothing to fill
laid_leb_of : (size : ℕ) (contents : ℕ → List ℕ) (n k : ℕ) → AreSized size contents n → k < n → leb_of size (image_of contents n) k ≡ contents k
laid_leb_of size contents n k sized less =
    let full = sized k less in
    let none : size - length (contents k) ≡ 0 = omega (arith, full) in
    ap (filled size) (laid_leb size contents n k sized less) ∙ ap (λ m. contents k ++ replicate m 255) none ∙ append-nil (contents k)

-- The bytes of a volume say what it holds.
pub laid_contents : (contents : ℕ → List ℕ) (geo : RawGeometry) → AreLebsOfGeometry contents geo → contents_of geo (image_of contents geo.leb_cnt) ≡ contents
laid_contents contents geo are = fun_ext (λ k. at k (nat_lt k geo.leb_cnt) refl)
  where
    at : (k : ℕ) (b : Bool) → nat_lt k geo.leb_cnt ≡ b → (if b then leb_of geo.leb_size (image_of contents geo.leb_cnt) k else []) ≡ contents k
    at k true e = laid_leb_of geo.leb_size contents geo.leb_cnt k are.lebs.full (ltb-true k geo.leb_cnt e)
    at k false e = sym (are.none k (ltb-false k geo.leb_cnt e))

-- they begin with the superblock that LEB 0 begins with
laid_begins : (contents : ℕ → List ℕ) (geo : RawGeometry) (node : Super) → AreLebsOfGeometry contents geo → 0 < geo.leb_cnt → 4096 ≤ geo.leb_size → BeginsWithSuper (contents 0) node
    → BeginsWithSuper (image_of contents geo.leb_cnt) node
laid_begins contents geo node are some large begins =
    let bytes = image_of contents geo.leb_cnt in
    let first : take geo.leb_size bytes ≡ contents 0 = let P : ℕ → Type 0 = λ place. take geo.leb_size (drop place bytes) ≡ contents 0 in
    let start : 0 * geo.leb_size ≡ 0 = omega arith in subst P start (laid_leb geo.leb_size contents geo.leb_cnt 0 are.lebs.full some) in
    let same : take 4096 (contents 0) ≡ take 4096 bytes = ap (take 4096) (sym first) ∙ take-take 4096 geo.leb_size bytes large in
    let long = laid_length geo.leb_size contents geo.leb_cnt are.lebs.full in
    let one : 1 * geo.leb_size ≤ geo.leb_cnt * geo.leb_size = mul-le-mul_right {m = 1} {n = geo.leb_cnt} geo.leb_size some in
    let P : List ℕ → Type 0 = λ front. IsSuper front begins.sqnum begins.group node in
    record { room = omega (arith, long, one, large); sqnum = begins.sqnum; group = begins.group; is = subst P same begins.is }

-- and are those of whole LEBs, with nothing behind them
laid_fits : (contents : ℕ → List ℕ) (geo : RawGeometry) → AreLebsOfGeometry contents geo → 0 < geo.leb_cnt → 4096 ≤ geo.leb_size → Fits (shape_of geo) (image_of contents geo.leb_cnt)
laid_fits contents geo are some large =
    let bytes = image_of contents geo.leb_cnt in
    let long = laid_length geo.leb_size contents geo.leb_cnt are.lebs.full in
    let one : 1 * geo.leb_size ≤ geo.leb_cnt * geo.leb_size = mul-le-mul_right {m = 1} {n = geo.leb_cnt} geo.leb_size some in
    let all : length bytes ≤ geo.leb_size * geo.leb_cnt = omega (arith, long) in
    let none : length bytes - geo.leb_size * geo.leb_cnt ≡ 0 = omega (arith, all) in
    record {
      some = omega (arith, long, one, large);
      whole = ap (λ n. n % geo.leb_size) long ∙ mul-mod_left geo.leb_cnt geo.leb_size;
      no_more = drop_all (geo.leb_size * geo.leb_cnt) bytes all ∙ ap (λ n. replicate n 255) (sym none);
    }

-- So they hold the sound image that it holds.
pub laid_holds : (contents : ℕ → List ℕ) (image : Image) → AreLebsOfGeometry contents image.geo → SoundImage contents image → HoldsSoundImage (image_of contents image.geo.leb_cnt) image
laid_holds contents image are sound =
    let has = sound.superblock in
    let size = has.in_range.leb_size.0 in
    let count = has.in_range.leb_cnt.0 in
    let some : 0 < image.geo.leb_cnt = omega (arith, count) in
    let large : 4096 ≤ image.geo.leb_size = omega (arith, size) in
    let P : (ℕ → List ℕ) → Type 0 = λ held. SoundImage held image in
    record {
      volume = record {
        geometry = record { node = has.node; begins = laid_begins contents image.geo has.node are some large has.begins; known = has.known; geometry = has.geometry; in_range = has.in_range };
        fits = laid_fits contents image.geo are some large;
      };
      sound = subst P (sym (laid_contents contents image.geo are)) sound;
    }

-- of bytes
pub laid_bytes : (contents : ℕ → List ℕ) (n : ℕ) → ((k : ℕ) → IsBytes (contents k)) → IsBytes (image_of contents n)
laid_bytes contents zero fits = λ i. omega arith
laid_bytes contents (suc n) fits = joined_bytes (image_of contents n) (contents n) (laid_bytes contents n fits) (fits n)

-- what recovered_tree says: the files of an image are all of the tree of a mount, if each block's inode is there; contents have one tree of files
abbrev pub WholeFiles : Type 0
WholeFiles = (image : Image) → IsTrue (list_all (λ b. is_some (inode_at (tree_of_image image) b.0.0)) (tree_of_image image).blocks) → files_of_image image ≡ tree_of_image image

abbrev pub OneTree : Type 0
OneTree = (contents : ℕ → List ℕ) (a b : Image) → ((k : ℕ) → IsBytes (contents k)) → SoundImage contents a → SoundImage contents b → files_of_image a ≡ files_of_image b

-- So they hold its files.
laid_tree : ProperFiles → WholeFiles → (contents : ℕ → List ℕ) (image : Image) (tree : Tree) → AreLebsOfGeometry contents image.geo → SoundImage contents image → tree_of_image image ≡ tree
    → IsTrue (list_all (λ b. is_some (inode_at tree b.0.0)) tree.blocks) → HoldsFiles (image_of contents image.geo.leb_cnt) image.geo tree
laid_tree proper whole contents image tree are sound said owned =
    let Owned : Tree → Type 0 = λ t. IsTrue (list_all (λ b. is_some (inode_at t b.0.0)) t.blocks) in
    let same : tree ≡ files_of_image image = sym said ∙ sym (whole image (subst Owned (sym said) owned)) in
    let P : Tree → Type 0 = λ t. IsProper t in
    record { image = image; holds = laid_holds contents image are sound; geometry = refl; files = same; proper = subst P (sym same) (proper contents image are.lebs.bytes sound) }

pub laid_files : ProperFiles → WholeFiles → (contents : ℕ → List ℕ) (geo : RawGeometry) (tree : Tree) → AreSoundLebs contents geo tree
    → IsTrue (list_all (λ b. is_some (inode_at tree b.0.0)) tree.blocks) → HoldsFiles (image_of contents geo.leb_cnt) geo tree
laid_files proper whole contents geo tree are owned =
    let P : RawGeometry → Type 0 = λ g. AreLebsOfGeometry contents g in
    let Q : RawGeometry → Type 0 = λ g. HoldsFiles (image_of contents g.leb_cnt) g tree in
    subst Q are.geometry (laid_tree proper whole contents are.image tree (subst P (sym are.geometry) are.all) are.sound are.recovered owned)

-- Bytes hold one geometry and one tree of files.
pub one_files : OneShape → OneTree → (bytes : List ℕ) (a b : RawGeometry) (s t : Tree) → IsBytes bytes → HoldsFiles bytes a s → HoldsFiles bytes b t → (a ≡ b) × (s ≡ t)
one_files shape one bytes a b s t fits first second =
    let geo = first.image.geo in
    let same : second.image.geo ≡ geo = shape bytes second.image.geo geo fits second.holds.volume.geometry first.holds.volume.geometry in
    let P : RawGeometry → Type 0 = λ g. SoundImage (contents_of g bytes) second.image in
    let trees = one (contents_of geo bytes) first.image second.image (contents_bytes geo bytes fits) first.holds.sound (subst P same second.holds.sound) in
    (sym first.geometry ∙ sym same ∙ second.geometry, first.files ∙ trees ∙ sym second.files)

-- a node begins with the magic number
magic_of : (bytes : List ℕ) (sqnum kind group : ℕ) (body : List ℕ) → IsNode bytes sqnum kind group body → take 4 bytes ≡ 0x31 ∷ 0x18 ∷ 0x10 ∷ 0x06 ∷ []
unfolding node_bytes
magic_of bytes sqnum kind group body node = ap (take 4) node.spelled

-- and so do bytes that hold files
pub files_magic : (bytes : List ℕ) (geo : RawGeometry) (tree : Tree) → HoldsFiles bytes geo tree → take 4 bytes ≡ 0x31 ∷ 0x18 ∷ 0x10 ∷ 0x06 ∷ []
files_magic bytes geo tree h =
    let begins = h.holds.volume.geometry.begins in
    sym (take-take 4 4096 bytes (omega arith)) ∙ magic_of (take 4096 bytes) begins.sqnum _ begins.group begins.is.body begins.is.framed
