-- The answers of a run.
use Rattle.std.proofs.Common.{◌≡◌, ℕ, Bool, true, false, Option, Some, None, List, [], ◌∷◌, ap, refl, sym, ◌∙◌, subst, inl, inr}
use Rattle.std.specs.Prelude.{◌==◌, not, codes, Result, Ok, Err, IfOk, IsErr}
use Rattle.ubifs_base.specs.declared.raw_geometry.RawGeometry.{RawGeometry}
use Rattle.ubi_volume.specs.Volume.{image_of}
use Rattle.media_sys.specs.Features.{features_of, first_of, has_flags, is_known_version}
use Rattle.media_sys.specs.declared.feature.Feature.{Feature}
use Rattle.media_sys.specs.declared.feature.Feature.TheVariants.{KeyHash, KeyFmt, Version, Heads, DoubleHash, Encryption, Authentication, Flags, BigModel}
use Rattle.media_sys.specs.declared.super_node.Super.{Super}
use Rattle.fs_model.specs.declared.refusal.Cause.{Cause}
use Rattle.fs_model.specs.declared.space.Space.{Space}
use Rattle.fs_model.specs.Files.{Tree}
use Rattle.fs_model.specs.Settled.{settled}
use Rattle.script_text.specs.declared.fault.TextFault.{TextFault}
use Rattle.script_text.specs.declared.fault.TextFault.TheVariants.{Memory, Line}
use Rattle.script_text.specs.declared.part.Part.{Part}
use Rattle.script_text.specs.Script.{IsScript, IsFirstBadLine, OnLine}
use Rattle.script_run.specs.declared.whole.Played.TheVariants.{Written}
use Rattle.script_run.specs.declared.whole.Run.{Run}
use Rattle.script_run.specs.Opening.{mounted_space}
use Rattle.script_run.specs.Played.{IsPlayedOn, IsReadText}
use Rattle.image_report.specs.Lebs.{AreLebsOfGeometry}
use Rattle.image_report.specs.Told.{HoldsFiles}
use Rattle.io_edges.specs.Keeper.{KeeperState}
use Rattle.ubifs_tools.specs.Command.{IsLeftImage, bad_line}
use Rattle.ubifs_tools.specs.Copies.{IsUnfilled}
use Rattle.ubifs_tools.specs.Making.{IsMadeOf}
use Rattle.ubifs_tools.specs.Performed.{IsRunFrom}
use Rattle.ubifs_tools.specs.RunCommand.{BeginsAsManifest, HasGoodText, IsBadText, IsCopyUnread, ImageRun, IsRunDone, IsRunFor, IsRunOf, files_left}

pub bad_script : (fault : TextFault) (volume script line word : List ℕ) → word ≡ codes "script" → HasGoodText volume → OnLine fault (IsFirstBadLine script) → OnLine fault (λ number. line ≡ bad_line word number) → (fault ≡ Memory → ⊥)
    → IsBadText (volume, script) line
bad_script Memory volume script line word e good bad told never = absurd (never refl)
bad_script (Line number) volume script line word e good bad told never = inr (good, (number, bad, told ∙ ap (λ w. bad_line w number) e))

-- A run on what was made of a manifest is one on the manifest.
pub made_done : (files : KeeperState) (text script told image : List ℕ) (parts : List Part) (out left : List ℕ) → BeginsAsManifest text → IsMadeOf files text told image → IsScript script parts → IsRunFrom image parts out left
    → IsRunDone files (text, script) out left
made_done files text script told image parts out left begins made is_script from = record {
  start = image;
  begun = inl (begins, (told, made));
  bytes = from.bytes;
  geo = from.geo;
  tree = from.tree;
  space = from.space;
  volume = from.volume;
  parts = parts;
  script = is_script;
  left = from.left;
  run = from.run;
}

-- a run on an image
pub image_done : (files : KeeperState) (bytes script : List ℕ) (parts : List Part) (out left : List ℕ) → (BeginsAsManifest bytes → ⊥) → IsScript script parts → IsRunFrom bytes parts out left
    → IsRunDone files (bytes, script) out left
image_done files bytes script parts out left none is_script from = record {
  start = bytes;
  begun = inr (none, refl);
  bytes = from.bytes;
  geo = from.geo;
  tree = from.tree;
  space = from.space;
  volume = from.volume;
  parts = parts;
  script = is_script;
  left = from.left;
  run = from.run;
}

-- what was put of a volume that may be written
pub written_run : (geo : RawGeometry) (start : List ℕ) (tree : Tree) (space : Space) (parts : List Part) (run : Run) (image : List ℕ) → IsPlayedOn geo tree space parts (Written run)
    → (x : ℕ → List ℕ) × IsLeftImage geo run.tree x × AreLebsOfGeometry x geo × (image ≡ image_of x geo.leb_cnt)
    → (left : Tree) × IsRunOf (record { geo = geo; start = start; tree = tree; space = space; parts = parts; text = run.text.items; image = image; left = left })
written_run geo start tree space parts run image played (holds, left, lebs, is) =
    let it : ImageRun = record { geo = geo; start = start; tree = tree; space = space; parts = parts; text = run.text.items; image = image; left = files_left run } in
    let P : Option Cause → Type 0 = λ cause. IsRunFor cause it in
    (files_left run, subst P (sym played.0) (record { run = run; played = played.1; text_is = refl; holds = holds; image_left = left; lebs = lebs; image_is = is; left_is = refl }))

-- what is left of one that may only be read
pub unchanged_run : (geo : RawGeometry) (start : List ℕ) (tree : Tree) (space : Space) (parts : List Part) (text : List ℕ) (cause : Cause) → settled geo (mounted_space geo tree space) ≡ Some cause → IsReadText cause tree parts text
    → (left : Tree) × IsRunOf (record { geo = geo; start = start; tree = tree; space = space; parts = parts; text = text; image = start; left = left })
unchanged_run geo start tree space parts text cause closed printed =
    let it : ImageRun = record { geo = geo; start = start; tree = tree; space = space; parts = parts; text = text; image = start; left = tree } in
    let P : Option Cause → Type 0 = λ why. IsRunFor why it in
    (tree, subst P (sym closed) (record { printed = printed; image_is = refl; left_is = refl }))

-- a file that the manifest copies wasn't read
pub copy_unread : (old new : KeeperState) (text script line : List ℕ) (parts : List Part) → BeginsAsManifest text → IsScript script parts → IsUnfilled old new text line → IsCopyUnread old new (text, script) line
copy_unread old new text script line parts begins is_script unread =
    record { parts = parts; script = is_script; manifest = begins; name = unread.name; copies = unread.copies; why = unread.why; line_is = unread.line_is }

-- where no feature is needed, the first isn't, nor any behind it
none_of : (line : Bool × Feature) (rest : List (Bool × Feature)) → first_of (line ∷ rest) ≡ None → (line.0 ≡ false) × (first_of rest ≡ None)
none_of (true, what) rest h = absurd cc
none_of (false, what) rest h = (refl, h)

-- so the large model of properties isn't
not_large : (node : Super) → first_of (features_of node) ≡ None → has_flags node 0x02 ≡ false
not_large node h =
    by (not (node.key_hash == 0), KeyHash) (not (node.key_fmt == 0), KeyFmt) (not (is_known_version node), Version) (not (node.jhead_cnt == 1), Heads) (has_flags node 0x08, DoubleHash) (has_flags node 0x10, Encryption)
    (has_flags node 0x20, Authentication) (has_flags node 0xFFFFFFC1, Flags) (has_flags node 0x02, BigModel) h
  where
    by : (a b d e f g i j k : Bool × Feature) → first_of (a ∷ b ∷ d ∷ e ∷ f ∷ g ∷ i ∷ j ∷ k ∷ []) ≡ None → k.0 ≡ false
    by a b d e f g i j k h =
        let at_b = (none_of a (b ∷ d ∷ e ∷ f ∷ g ∷ i ∷ j ∷ k ∷ []) h).1 in
        let at_d = (none_of b (d ∷ e ∷ f ∷ g ∷ i ∷ j ∷ k ∷ []) at_b).1 in
        let at_e = (none_of d (e ∷ f ∷ g ∷ i ∷ j ∷ k ∷ []) at_d).1 in
        let at_f = (none_of e (f ∷ g ∷ i ∷ j ∷ k ∷ []) at_e).1 in
        let at_g = (none_of f (g ∷ i ∷ j ∷ k ∷ []) at_f).1 in
        let at_i = (none_of g (i ∷ j ∷ k ∷ []) at_g).1 in
        let at_j = (none_of i (j ∷ k ∷ []) at_i).1 in
        let at_k = (none_of j (k ∷ []) at_j).1 in
        (none_of k [] at_k).0

pub small_files : (bytes : List ℕ) (geo : RawGeometry) (tree : Tree) → HoldsFiles bytes geo tree → geo.big ≡ false
small_files bytes geo tree h =
    let has = h.holds.volume.geometry in
    ap (λ (g : RawGeometry). g.big) (sym h.geometry ∙ has.geometry) ∙ not_large has.node has.known

pub no_error : {T E : Type 0} (r : Result T E) (x : T) → r ≡ Ok x → IsErr r → ⊥
no_error (Ok y) x e h = absurd cc
no_error (Err y) x e h = absurd cc
