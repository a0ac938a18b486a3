-- What the keeper has of files, over readings of it.
use Rattle.std.proofs.Common.{◌≡◌, List, ℕ, [], ◌∷◌, ◌++◌, ◌⊎◌, inl, inr, refl, sym, subst, ◌∙◌, arith, length}
use Rattle.std.proofs.lemmas.List.{append-nil}
use Rattle.ubifs_base.specs.Faults.{Rose, Rose-before}
use Rattle.manifest_tree.specs.CopiedFiles.{IsNamedManifest, with_files}
use Rattle.manifest_tree.specs.declared.copied.CopiedFile.{CopiedFile}
use Rattle.script_text.specs.declared.manifest.Manifest.{Manifest}
use Rattle.fs_model.specs.Files.{Tree}
use Rattle.io_edges.specs.Keeper.{KeeperState}
use Rattle.ubifs_tools.specs.Command.{IsMissing, Told}
use Rattle.ubifs_tools.specs.Copies.{AreCopiesTold, ComesTo, CopiesFile, FilesStay, IsFilledManifest, IsUnfilled, IsUnreadCopy}
use Rattle.ubifs_tools.specs.Making.{HasNoImage, IsMadeOf, IsMkfsUnread, ReadsCopy}
use Rattle.ubifs_tools.specs.RunCommand.{IsBadGeometry, IsBegunOn, IsCopyUnread, IsRunDone}

pub stay_all : (old mid new : KeeperState) → FilesStay old mid → FilesStay mid new → FilesStay old new
stay_all old mid new a b = record {
  same = λ name. b.same name ∙ a.same name;
  telling = b.telling ∙ a.telling;
  counted = let p = a.counted in let q = b.counted in omega (arith, p, q);
}

-- what is told of a file behind a reading, was told before it
pub told_before : (old mid : KeeperState) (name bytes : List ℕ) → FilesStay old mid → Told mid name bytes → Told old name bytes
told_before old mid name bytes stay told = λ tells. sym (stay.same name) ∙ told (stay.telling ∙ tells)

pub missing_before : (old mid : KeeperState) (name : List ℕ) → FilesStay old mid → IsMissing mid name → IsMissing old name
missing_before old mid name stay missing = (sym stay.telling ∙ missing.0, sym (stay.same name) ∙ missing.1)

pub why_before : (old mid new : KeeperState) (name : List ℕ) → FilesStay old mid → Rose mid.faults new.faults ⊎ IsMissing mid name → Rose old.faults new.faults ⊎ IsMissing old name
why_before old mid new name stay (inl rose) = inl (Rose-before old.faults mid.faults new.faults stay.counted rose)
why_before old mid new name stay (inr missing) = inr (missing_before old mid name stay missing)

pub copies_before : (old mid : KeeperState) (copied : List CopiedFile) (files : List (List ℕ)) → FilesStay old mid → AreCopiesTold mid copied files → AreCopiesTold old copied files
copies_before old mid [] [] stay told = tt
copies_before old mid [] (bytes ∷ more) stay told = absurd told
copies_before old mid (copied ∷ rest) [] stay told = absurd told
copies_before old mid (copied ∷ rest) (bytes ∷ more) stay told = (told_before old mid copied.name bytes stay told.0, copies_before old mid rest more stay told.1)

pub comes_before : (old mid : KeeperState) (copied : List CopiedFile) (name : List ℕ) → FilesStay old mid → ComesTo mid copied name → ComesTo old copied name
comes_before old mid [] name stay comes = absurd comes
comes_before old mid (copied ∷ rest) name stay (inl e) = inl e
comes_before old mid (copied ∷ rest) name stay (inr comes) =
    inr ((comes.0.0, told_before old mid copied.name comes.0.0 stay comes.0.1), comes_before old mid rest name stay comes.1)

pub filled_before : (old mid : KeeperState) (text : List ℕ) (volume : Manifest) (tree : Tree) → FilesStay old mid → IsFilledManifest mid text volume tree → IsFilledManifest old text volume tree
filled_before old mid text volume tree stay filled = record { bytes = filled.bytes; is = filled.is; told = copies_before old mid filled.is.copied filled.bytes stay filled.told }

pub file_before : (old mid : KeeperState) (text name : List ℕ) → FilesStay old mid → CopiesFile mid text name → CopiesFile old text name
file_before old mid text name stay copies =
    record { volume = copies.volume; copied = copies.copied; tree = copies.tree; is = copies.is; comes = comes_before old mid copies.copied name stay copies.comes }

-- as many files were read as are copied
pub copies_length : (files : KeeperState) (copied : List CopiedFile) (bytes : List (List ℕ)) → AreCopiesTold files copied bytes → length bytes ≡ length copied
copies_length files [] [] told = refl
copies_length files [] (bytes ∷ more) told = absurd told
copies_length files (copied ∷ rest) [] told = absurd told
copies_length files (copied ∷ rest) (bytes ∷ more) told = let e = copies_length files rest more told.1 in omega (arith, e)

-- once none are left, all were read
pub told_all : (files : KeeperState) (copied left : List CopiedFile) (bytes : List (List ℕ)) → length left ≡ 0 → ((rest : List (List ℕ)) → AreCopiesTold files left rest → AreCopiesTold files copied (bytes ++ rest)) → AreCopiesTold files copied bytes
told_all files copied [] bytes e told = subst (λ b. AreCopiesTold files copied b) (append-nil bytes) (told [] tt)
told_all files copied (file ∷ left) bytes e told = absurd (omega (arith, e))

-- what became of the files is what became of the manifest
pub unfilled : (old new : KeeperState) (text : List ℕ) (volume : Manifest) (copied : List CopiedFile) (tree : Tree) (line : List ℕ) → IsNamedManifest text volume copied tree → IsUnreadCopy old new copied line → IsUnfilled old new text line
unfilled old new text volume copied tree line is unread = record {
  name = unread.name;
  copies = record { volume = volume; copied = copied; tree = tree; is = is; comes = unread.comes };
  why = unread.why;
  line_is = unread.line_is;
}

pub filled_with : (files : KeeperState) (text : List ℕ) (volume : Manifest) (copied : List CopiedFile) (names tree : Tree) (bytes : List (List ℕ)) → IsNamedManifest text volume copied names → AreCopiesTold files copied bytes → tree ≡ with_files copied bytes names → IsFilledManifest files text volume tree
filled_with files text volume copied names tree bytes is told e = record {
  bytes = bytes;
  is = record { copied = copied; names = names; is = is; given = copies_length files copied bytes told; filled = e };
  told = told;
}

-- why a file that a manifest copies wasn't read
why_of : (old new : KeeperState) (manifest image name : List ℕ) → ReadsCopy old manifest name → Rose old.faults new.faults ⊎ IsMissing old name
    → (Rose old.faults new.faults × ((name ≡ manifest) ⊎ (name ≡ image) ⊎ ReadsCopy old manifest name)) ⊎ (IsMissing old name × ((name ≡ manifest) ⊎ ReadsCopy old manifest name))
why_of old new manifest image name there (inl rose) = inl (rose, inr (inr there))
why_of old new manifest image name there (inr missing) = inr (missing, inr there)

-- a file that isn't read behind the manifest
pub unread_behind : (old mid new : KeeperState) (manifest image text line : List ℕ) → FilesStay old mid → FilesStay mid new → Told old manifest text → IsUnfilled mid new text line → IsMkfsUnread old new manifest image line
unread_behind old mid new manifest image text line stay more read unread =
    let there : ReadsCopy old manifest unread.name = record { text = text; read = read; copies = file_before old mid text unread.name stay unread.copies } in
    record {
      name = unread.name;
      why = why_of old new manifest image unread.name there (why_before old mid new unread.name stay unread.why);
      line_is = unread.line_is;
      same = (stay_all old mid new stay more).same;
    }

-- what was made over the keeper behind a reading was made over the one before it
pub made_before : (old mid : KeeperState) (text told image : List ℕ) → FilesStay old mid → IsMadeOf mid text told image → IsMadeOf old text told image
made_before old mid text told image stay made =
    record { volume = made.volume; tree = made.tree; is = filled_before old mid text made.volume made.tree stay made.is; proper = made.proper; geometry = made.geometry; roomy = made.roomy; made = made.made }

pub no_image_before : (old mid : KeeperState) (text line : List ℕ) → FilesStay old mid → HasNoImage mid text line → HasNoImage old text line
no_image_before old mid text line stay none =
    record { volume = none.volume; tree = none.tree; is = filled_before old mid text none.volume none.tree stay none.is; why = none.why }

-- the same of what a run made, and of why it made nothing
pub begun_before : (old mid : KeeperState) (bytes start : List ℕ) → FilesStay old mid → IsBegunOn mid bytes start → IsBegunOn old bytes start
begun_before old mid bytes start stay (inl (begins, (told, made))) = inl (begins, (told, made_before old mid bytes told start stay made))
begun_before old mid bytes start stay (inr none) = inr none

pub done_before : (old mid : KeeperState) (texts : List ℕ × List ℕ) (text image : List ℕ) → FilesStay old mid → IsRunDone mid texts text image → IsRunDone old texts text image
done_before old mid texts text image stay done = record {
  start = done.start;
  begun = begun_before old mid texts.0 done.start stay done.begun;
  bytes = done.bytes;
  geo = done.geo;
  tree = done.tree;
  space = done.space;
  volume = done.volume;
  parts = done.parts;
  script = done.script;
  left = done.left;
  run = done.run;
}

pub bad_before : (old mid : KeeperState) (texts : List ℕ × List ℕ) (line : List ℕ) → FilesStay old mid → IsBadGeometry mid texts line → IsBadGeometry old texts line
bad_before old mid texts line stay bad = record { parts = bad.parts; script = bad.script; manifest = bad.manifest; none = no_image_before old mid texts.0 line stay bad.none }

pub copy_before : (old mid new : KeeperState) (texts : List ℕ × List ℕ) (line : List ℕ) → FilesStay old mid → IsCopyUnread mid new texts line → IsCopyUnread old new texts line
copy_before old mid new texts line stay unread = record {
  parts = unread.parts;
  script = unread.script;
  manifest = unread.manifest;
  name = unread.name;
  copies = file_before old mid texts.0 unread.name stay unread.copies;
  why = why_before old mid new unread.name stay unread.why;
  line_is = unread.line_is;
}
