-- Lines are made one after another, and a text is one manifest.
use Rattle.std.proofs.Common.{◌≡◌, ℕ, ◌+◌, Option, Some, None, Result, Ok, Err, List, [], ◌∷◌, ap, sym, ◌∙◌, inl, inr}
use Rattle.std.specs.Option.{option_map_or}
use Rattle.fs_model.specs.Files.{Tree}
use Rattle.script_text.specs.declared.manifest.Manifest.{Manifest}
use Rattle.script_text.specs.declared.manifest_line.ManifestLine.{ManifestLine}
use Rattle.script_text.specs.ManifestLines.{HasNoVolume, IsListedManifest}
use Rattle.manifest_tree.specs.ManifestTree.{IsFirstBadTreeLine, line_made, lines_made, manifest_tree}
use Rattle.manifest_tree.specs.CopiedFiles.{IsMadeManifest, IsNamedManifest, copied_files, with_files}
use Rattle.manifest_tree.specs.declared.copied.CopiedFile.{CopiedFile}

-- what lines behind a line make
after : ℕ → List ManifestLine → Option Tree → Result Tree ℕ
after number rest o = option_map_or (λ made. lines_made (number + 1) made rest) o (Err number)

-- a line was made, and the others are made of its tree
pub lines_go : (number : ℕ) (tree made : Tree) (line : ManifestLine) (rest all : List ManifestLine) (whole : Result Tree ℕ) → all ≡ line ∷ rest → line_made tree line ≡ Some made → lines_made number tree all ≡ whole → lines_made (number + 1) made rest ≡ whole
unfolding after
lines_go number tree made line rest all whole e m h = sym (ap (after number rest) m) ∙ (sym (ap (lines_made number tree) e) ∙ h)

-- a line is refused
pub lines_stop : (number : ℕ) (tree : Tree) (line : ManifestLine) (rest all : List ManifestLine) (whole : Result Tree ℕ) → all ≡ line ∷ rest → line_made tree line ≡ None → lines_made number tree all ≡ whole → whole ≡ Err number
unfolding after
lines_stop number tree line rest all whole e m h = sym h ∙ (ap (lines_made number tree) e ∙ ap (after number rest) m)

-- all lines were made
pub lines_end : (number : ℕ) (tree : Tree) (all : List ManifestLine) (whole : Result Tree ℕ) → all ≡ [] → lines_made number tree all ≡ whole → whole ≡ Ok tree
lines_end number tree all whole e h = sym h ∙ ap (lines_made number tree) e

-- a text is listed in one way
abbrev pub OneListing : Type 0
OneListing = (text : List ℕ) → (this that : Manifest) → (these those : List ManifestLine) → (bad other : Option ℕ) → IsListedManifest text this these bad → IsListedManifest text that those other
    → (this ≡ that) × (these ≡ those) × (bad ≡ other)

-- and one that is listed has a geometry
abbrev pub NeverBoth : Type 0
NeverBoth = (text : List ℕ) → (volume : Manifest) → (lines : List ManifestLine) → (bad : Option ℕ) → IsListedManifest text volume lines bad → HasNoVolume text → ⊥

one_ok : (a b : Tree) (r : Result Tree ℕ) → r ≡ Ok a → r ≡ Ok b → a ≡ b
one_ok a b (Ok c) e f = let x : c ≡ a = cc in let y : c ≡ b = cc in sym x ∙ y
one_ok a b (Err n) e f = absurd cc

one_err : (a b : ℕ) (r : Result Tree ℕ) → r ≡ Err a → r ≡ Err b → a ≡ b
one_err a b (Ok tree) e f = absurd cc
one_err a b (Err c) e f = let x : c ≡ a = cc in let y : c ≡ b = cc in sym x ∙ y

not_both : (tree : Tree) (n : ℕ) (r : Result Tree ℕ) → r ≡ Ok tree → r ≡ Err n → ⊥
not_both tree n (Ok other) e f = absurd cc
not_both tree n (Err m) e f = absurd cc

pub names_once : OneListing → (text : List ℕ) (this that : Manifest) (files others : List CopiedFile) (these those : Tree) → IsNamedManifest text this files these → IsNamedManifest text that others those
    → (this ≡ that) × (files ≡ others) × (these ≡ those)
names_once one text this that files others these those h k =
    let p = one text this that h.lines k.lines None None h.listed k.listed in
    (p.0, h.copied_are ∙ (ap copied_files p.1 ∙ sym k.copied_are), one_ok these those (manifest_tree h.lines) h.made (ap manifest_tree p.1 ∙ k.made))

pub made_once : OneListing → (text : List ℕ) (this that : Manifest) (files : List (List ℕ)) (these those : Tree) → IsMadeManifest text this files these → IsMadeManifest text that files those → (this ≡ that) × (these ≡ those)
made_once one text this that files these those h k =
    let p = names_once one text this that h.copied k.copied h.names k.names h.is k.is in
    (p.0, h.filled ∙ (ap (λ (copied : List CopiedFile). with_files copied files h.names) p.1 ∙ (ap (with_files k.copied files) p.2 ∙ sym k.filled)))

pub names_no_bad : OneListing → NeverBoth → (text : List ℕ) (volume : Manifest) (files : List CopiedFile) (tree : Tree) (number : ℕ) → IsNamedManifest text volume files tree → IsFirstBadTreeLine text number → ⊥
names_no_bad one never text volume files tree number h bad = elim bad [
  | inl none ↦ never text volume h.lines None h.listed none.1
  | inr listed ↦
      let p = one text volume listed.0 h.lines listed.1 None listed.2 h.listed listed.3 in
      elim listed.4 [
        | inl refused ↦ not_both tree number (manifest_tree h.lines) h.made (ap manifest_tree p.1 ∙ refused)
        | inr words ↦ let e : None ≡ Some number = p.2 ∙ words.2 in absurd cc
      ]
]

pub bad_tree_once : OneListing → NeverBoth → (text : List ℕ) (this that : ℕ) → IsFirstBadTreeLine text this → IsFirstBadTreeLine text that → this ≡ that
bad_tree_once one never text this that a b = elim a [
  | inl none ↦ elim b [
    | inl other ↦ none.0 ∙ sym other.0
    | inr listed ↦ absurd (never text listed.0 listed.1 listed.2 listed.3 none.1)
  ]
  | inr here ↦ elim b [
    | inl none ↦ absurd (never text here.0 here.1 here.2 here.3 none.1)
    | inr there ↦
        let p = one text here.0 there.0 here.1 there.1 here.2 there.2 here.3 there.3 in
        elim here.4 [
          | inl x ↦ elim there.4 [
            | inl y ↦ one_err this that (manifest_tree here.1) x (ap manifest_tree p.1 ∙ y)
            | inr y ↦ absurd (not_both y.0 this (manifest_tree there.1) y.1 (sym (ap manifest_tree p.1) ∙ x))
          ]
          | inr x ↦ elim there.4 [
            | inl y ↦ absurd (not_both x.0 that (manifest_tree here.1) x.1 (ap manifest_tree p.1 ∙ y))
            | inr y ↦ let e : Some this ≡ Some that = sym x.2 ∙ (p.2 ∙ y.2) in cc
          ]
        ]
  ]
]
