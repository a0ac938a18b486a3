-- Where a run begins that is given what another left.
use Rattle.std.proofs.Common.{◌≡◌, ℕ, cond, Bool, true, false, Option, Some, None, List, [], ◌∷◌, get_or, map, refl, ap, sym, subst, ◌∙◌, inl, inr, arith, take}
use Rattle.std.specs.Prelude.{IsTrue, codes, filter, is_some}
use Rattle.std.specs.BTreeMap.{is_at}
use Rattle.std.specs.List.{list_all, list_any}
use Rattle.std.specs.Map.{keys_of}
use Rattle.std.specs.Option.{unwrap_or}
use Rattle.std.specs.Ordering.{nat_cmp}
use Rattle.std.specs.Str.{bytes_eq}
use Rattle.std.proofs.lemmas.List.{take-take}
use Rattle.std.proofs.lemmas.Map.{update_same}
use Rattle.std.proofs.lemmas.Map.Made.{is_some-lookup}
use Rattle.std.proofs.lemmas.Slice.Eq.{bytes_eq-Decides}
use Rattle.ubifs_base.specs.NodeLaws.{IsBytes}
use Rattle.ubifs_base.specs.declared.raw_geometry.RawGeometry.{RawGeometry}
use Rattle.ubi_volume.specs.Volume.{image_of}
use Rattle.fs_model.specs.declared.refusal.Cause.{Cause}
use Rattle.fs_model.specs.Settled.{settled}
use Rattle.fs_model.specs.Files.{Blocks, Handles, Inodes, Tree, inode_at}
use Rattle.fs_model.specs.Same.{IsSame}
use Rattle.image_report.specs.Lebs.{AreLebsOfGeometry, AreSoundLebs}
use Rattle.image_report.specs.Told.{HoldsFiles}
use Rattle.io_edges.specs.Keeper.{KeeperState, SetsFile}
use Rattle.script_run.specs.Opening.{mounted_space}
use Rattle.script_text.specs.declared.part.Part.{Part}
use Rattle.tree_nodes.specs.Stored.{as_stored, is_owned, stored_tree}
use Rattle.whole_image.specs.Made.{IsMadeImage}
use Rattle.ubifs_tools.specs.Command.{IsLeftImage, Told, no_identifier}
use Rattle.ubifs_tools.specs.Ended.{IsFinished}
use Rattle.ubifs_tools.specs.Making.{IsToldImage}
use Rattle.ubifs_tools.specs.RunCommand.{BeginsAsManifest, ImageRun, IsBegunOn, IsRunDone, IsRunFor, IsRunWritten, IsVolumeOf, files_left, mount_numbers}

-- what the crates below say of the bytes of a volume, and of a stored tree
abbrev pub HoldFiles : Type 0
HoldFiles = (contents : ℕ → List ℕ) (geo : RawGeometry) (tree : Tree) → AreSoundLebs contents geo tree → IsTrue (list_all (λ b. is_some (inode_at tree b.0.0)) tree.blocks)
    → HoldsFiles (image_of contents geo.leb_cnt) geo tree

abbrev pub AreBytes : Type 0
AreBytes = (contents : ℕ → List ℕ) (geo : RawGeometry) → AreLebsOfGeometry contents geo → IsBytes (image_of contents geo.leb_cnt)

abbrev pub BeginWithMagic : Type 0
BeginWithMagic = (bytes : List ℕ) (geo : RawGeometry) (tree : Tree) → HoldsFiles bytes geo tree → take 4 bytes ≡ 0x31 ∷ 0x18 ∷ 0x10 ∷ 0x06 ∷ []

abbrev pub HoldOneTree : Type 0
HoldOneTree = (bytes : List ℕ) (a b : RawGeometry) (s t : Tree) → IsBytes bytes → HoldsFiles bytes a s → HoldsFiles bytes b t → (a ≡ b) × (s ≡ t)

abbrev pub StoredIsSame : Type 0
StoredIsSame = (tree : Tree) (handles : Handles) → IsTrue (list_all (is_owned tree) tree.blocks)
    → IsSame (record { tree = stored_tree tree; handles = handles }) (record { tree = tree; handles = handles })

-- what passes a test passes another that tells the same
kept_pass : (p q : (ℕ × ℕ) × List ℕ → Bool) → ((b : (ℕ × ℕ) × List ℕ) → q b ≡ p b) → (bs : Blocks) → IsTrue (list_all q (filter p bs))
kept_pass p q same [] = refl
kept_pass p q same (b ∷ bs) = by (p b) refl (kept_pass p q same bs)
  where
    by : (t : Bool) → p b ≡ t → IsTrue (list_all q (filter p bs)) → IsTrue (list_all q (cond t (b ∷ filter p bs) (filter p bs)))
    by true e more = rw (same b ∙ e) more
    by false e more = more

-- as an image says a tree, it has the same inodes
same_keys : (tree : Tree) (inodes : Inodes) → keys_of (map (as_stored tree) inodes) ≡ keys_of inodes
same_keys tree [] = refl
same_keys tree (e ∷ inodes) = ap (λ keys. e.0 ∷ keys) (same_keys tree inodes)

same_owner : (tree : Tree) (b : (ℕ × ℕ) × List ℕ) → is_some (inode_at (stored_tree tree) b.0.0) ≡ is_owned tree b
same_owner tree b =
    is_some-lookup (is_at (nat_cmp b.0.0)) (map (as_stored tree) tree.inodes)
    ∙ ap (list_any (is_at (nat_cmp b.0.0))) (same_keys tree tree.inodes)
    ∙ sym (is_some-lookup (is_at (nat_cmp b.0.0)) tree.inodes)

-- so each block's inode is there
pub stored_owned : (tree : Tree) → IsTrue (list_all (λ b. is_some (inode_at (stored_tree tree) b.0.0)) (stored_tree tree).blocks)
stored_owned tree = kept_pass (is_owned tree) (λ b. is_some (inode_at (stored_tree tree) b.0.0)) (same_owner tree) tree.blocks

-- an image doesn't begin as a manifest does
not_manifest : (bytes : List ℕ) → take 4 bytes ≡ 0x31 ∷ 0x18 ∷ 0x10 ∷ 0x06 ∷ [] → BeginsAsManifest bytes → ⊥
not_manifest bytes magic begins =
    let front : take 4 (codes "volume ") ≡ 0x31 ∷ 0x18 ∷ 0x10 ∷ 0x06 ∷ [] = ap (take 4) (sym begins) ∙ take-take 4 7 bytes (omega arith) ∙ magic in
    let first : 118 ≡ 49 = ap (λ (b : List ℕ). get_or b 0 0) front in
    absurd (omega (arith, first))

-- the contents of an image that a run leaves are sound
left_lebs : (geo : RawGeometry) (tree : Tree) (holds : ℕ → List ℕ) → IsLeftImage geo tree holds → AreLebsOfGeometry holds geo → AreSoundLebs holds geo (stored_tree tree)
unfolding IsLeftImage
left_lebs geo tree holds left lebs =
    let made : IsMadeImage holds geo no_identifier tree = left in
    record { all = lebs; image = made.image; sound = made.sound; geometry = made.geometry; recovered = made.files }

-- The image of what was put holds the files that are left of it.
written_holds : HoldFiles → (it : ImageRun) → IsRunWritten it → HoldsFiles it.image it.geo it.left
written_holds hold it ended =
    let files = files_left ended.run in
    let P : List ℕ → Type 0 = λ bytes. HoldsFiles bytes it.geo files in
    let Q : Tree → Type 0 = λ t. HoldsFiles it.image it.geo t in
    subst Q (sym ended.left_is) (subst P (sym ended.image_is) (hold ended.holds it.geo files (left_lebs it.geo ended.run.tree ended.holds ended.image_left ended.lebs) (stored_owned ended.run.tree)))

-- So does the image that was there, where the volume may only be read.
run_holds : HoldFiles → (cause : Option Cause) (it : ImageRun) → IsRunFor cause it → HoldsFiles it.start it.geo it.tree → HoldsFiles it.image it.geo it.left
run_holds hold None it run holds = written_holds hold it run
run_holds hold (Some cause) it run holds =
    let P : List ℕ → Type 0 = λ bytes. HoldsFiles bytes it.geo it.tree in
    let Q : Tree → Type 0 = λ t. HoldsFiles it.image it.geo t in
    subst Q (sym run.left_is) (subst P (sym run.image_is) holds)

run_bytes : AreBytes → (cause : Option Cause) (it : ImageRun) → IsRunFor cause it → IsBytes it.start → IsBytes it.image
run_bytes bytes None it run are = let P : List ℕ → Type 0 = λ b. IsBytes b in subst P (sym run.image_is) (bytes run.holds it.geo run.lebs)
run_bytes bytes (Some cause) it run are = let P : List ℕ → Type 0 = λ b. IsBytes b in subst P (sym run.image_is) are

-- the run of work that was done
abbrev run_of : (files : KeeperState) (texts : List ℕ × List ℕ) (text image : List ℕ) → IsRunDone files texts text image → ImageRun
run_of files texts text image done =
    record { geo = done.geo; start = done.start; tree = done.tree; space = done.space; parts = done.parts; text = text; image = image; left = done.left }

done_holds : HoldFiles → (files : KeeperState) (texts : List ℕ × List ℕ) (text image : List ℕ) (done : IsRunDone files texts text image) → HoldsFiles image done.geo done.left
done_holds hold files texts text image done =
    let it : ImageRun = run_of files texts text image done in
    run_holds hold (settled done.geo (mount_numbers it)) it done.run done.volume.files

done_bytes : AreBytes → (files : KeeperState) (texts : List ℕ × List ℕ) (text image : List ℕ) → IsRunDone files texts text image → IsBytes image
done_bytes bytes files texts text image done =
    let it : ImageRun = run_of files texts text image done in
    run_bytes bytes (settled done.geo (mount_numbers it)) it done.run done.bytes

-- a sound image is a volume
volume_of : BeginWithMagic → (other : KeeperState) (image : List ℕ) (geo : RawGeometry) (tree : Tree) → HoldsFiles image geo tree → IsVolumeOf other image geo tree
volume_of magic other image geo tree holds = record { start = image; begun = inr (not_manifest image (magic image geo tree holds), refl); holds = holds }

-- in one way
one_volume : BeginWithMagic → HoldOneTree → (other : KeeperState) (image : List ℕ) (geo more : RawGeometry) (left tree : Tree) → IsBytes image → HoldsFiles image geo left → IsVolumeOf other image more tree
    → (more ≡ geo) × (tree ≡ left)
one_volume magic one other image geo more left tree bytes holds volume = by volume.begun
  where
    by : IsBegunOn other image volume.start → (more ≡ geo) × (tree ≡ left)
    by (inl manifest) = absurd (not_manifest image (magic image geo left holds) manifest.0)
    by (inr (none, same)) = let P : List ℕ → Type 0 = λ b. HoldsFiles b more tree in one image more geo tree left bytes (subst P same volume.holds) holds

-- The image of a run is a volume of its geometry with the files that it left, and with no others.
pub done_volume : HoldFiles → BeginWithMagic → (files other : KeeperState) (texts : List ℕ × List ℕ) (text image : List ℕ) (done : IsRunDone files texts text image) → IsVolumeOf other image done.geo done.left
done_volume hold magic files other texts text image done = volume_of magic other image done.geo done.left (done_holds hold files texts text image done)

pub done_only : HoldFiles → AreBytes → BeginWithMagic → HoldOneTree → (files other : KeeperState) (texts : List ℕ × List ℕ) (geo : RawGeometry) (tree : Tree) (text image : List ℕ) (done : IsRunDone files texts text image)
    → IsVolumeOf other image geo tree → (geo ≡ done.geo) × (tree ≡ done.left)
done_only hold bytes magic one files other texts geo tree text image done volume =
    one_volume magic one other image done.geo geo done.left tree (done_bytes bytes files texts text image done) (done_holds hold files texts text image done) volume

-- An image that is told as made holds the tree as an image says it.
pub told_holds : HoldFiles → (geo : RawGeometry) (tree : Tree) (told image : List ℕ) → IsToldImage geo tree told image → HoldsFiles image geo (stored_tree tree)
told_holds hold geo tree told image made =
    let left = stored_tree tree in
    let P : List ℕ → Type 0 = λ bytes. HoldsFiles bytes geo left in
    let lebs : AreSoundLebs made.holds geo left = record { all = made.lebs; image = made.made.image; sound = made.made.sound; geometry = made.made.geometry; recovered = made.made.files } in
    subst P (sym made.image_is) (hold made.holds geo left lebs (stored_owned tree))

pub told_bytes : AreBytes → (geo : RawGeometry) (tree : Tree) (told image : List ℕ) → IsToldImage geo tree told image → IsBytes image
told_bytes bytes geo tree told image made = let P : List ℕ → Type 0 = λ b. IsBytes b in subst P (sym made.image_is) (bytes made.holds geo made.lebs)

pub told_volume : HoldFiles → BeginWithMagic → (other : KeeperState) (geo : RawGeometry) (tree : Tree) (told image : List ℕ) → IsToldImage geo tree told image → IsVolumeOf other image geo (stored_tree tree)
told_volume hold magic other geo tree told image made = volume_of magic other image geo (stored_tree tree) (told_holds hold geo tree told image made)

-- and no other
pub told_only : HoldFiles → AreBytes → BeginWithMagic → HoldOneTree → (other : KeeperState) (geo more : RawGeometry) (tree files : Tree) (told image : List ℕ) → IsToldImage geo tree told image
    → IsVolumeOf other image more files → (more ≡ geo) × (files ≡ stored_tree tree)
told_only hold bytes magic one other geo more tree files told image made volume =
    one_volume magic one other image geo more (stored_tree tree) files (told_bytes bytes geo tree told image made) (told_holds hold geo tree told image made) volume

-- a file that was written is read as it was written
read_back : (old mid : KeeperState) (name written read : List ℕ) → IsTrue old.tells → IsTrue mid.tells → (IsTrue old.tells → SetsFile old name written mid) → Told mid name read → read ≡ written
read_back old mid name written read tells still sets told =
    let set = sets tells name ∙ update_same bytes_eq old.content name (Some written) name ((bytes_eq-Decides name name).1 refl) in
    ap (λ (file : Option (List ℕ)). unwrap_or file []) (sym (told still) ∙ set)

-- So a run on the file to which another's image was written begins with its files.
pub next_begins : HoldFiles → AreBytes → BeginWithMagic → HoldOneTree → (old mid new : KeeperState) (manifest script image other_script other_image text more : List ℕ) → IsTrue old.tells
    → (first : IsFinished old mid manifest script image text) (second : IsFinished mid new image other_script other_image more)
    → (second.done.geo ≡ first.done.geo) × (second.done.tree ≡ first.done.left)
next_begins hold bytes magic one old mid new manifest script image other_script other_image text more tells first second =
    let same = read_back old mid image first.bytes second.texts.0 tells (first.telling ∙ tells) first.written second.read.manifest_told in
    let P : List ℕ → Type 0 = λ b. IsVolumeOf mid b second.done.geo second.done.tree in
    let begins : IsVolumeOf mid second.texts.0 second.done.geo second.done.tree = record { start = second.done.start; begun = second.done.begun; holds = second.done.volume.files } in
    done_only hold bytes magic one old mid first.texts second.done.geo second.done.tree text first.bytes first.done (subst P same begins)

-- To every caller a stored tree is the tree without blocks of no inode.
pub left_same : StoredIsSame → (tree : Tree) (handles : Handles)
    → IsSame (record { tree = stored_tree tree; handles = handles }) (record { tree = record tree { blocks = filter (is_owned tree) tree.blocks }; handles = handles })
left_same same tree handles =
    let whole : Tree = record tree { blocks = filter (is_owned tree) tree.blocks } in
    let told = same whole handles (kept_pass (is_owned tree) (is_owned whole) (λ b. refl) tree.blocks) in
    record { inodes = told.inodes; blocks = refl; entries = refl; highest = refl; handles = refl }
