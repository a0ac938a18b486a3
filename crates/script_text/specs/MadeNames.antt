-- What stands behind the first word of a manifest's line.
use Rattle.std.specs.Prelude.{ℕ, ◌≡◌, List}
use Rattle.script_text.specs.declared.manifest_line.ManifestLine.{ManifestLine}
use Rattle.script_text.specs.ManifestLines.{made_name, made_words, HasFewBytes}
use Rattle.script_text.specs.Words.{AreSpacedWords}

-- a line has this first word, these are the words behind it, and no file has too many bytes
pub record SaysMade (name : List ℕ) (line : ManifestLine) (text : List ℕ) : Type 0 where
  pub name_is : made_name line ≡ name
  pub words : AreSpacedWords (made_words line) text
  pub few : HasFewBytes line
