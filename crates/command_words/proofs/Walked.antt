-- What `clap` makes of words that are in the grammar.
use Rattle.std.proofs.Common.{◌≡◌, ◌≢◌, ◌∙◌, ℕ, true, false, refl, ap, inl, inr, rules, List, [], ◌∷◌, Some, None, codes}
use Rattle.std.specs.Prelude.{◌==◌}
use Rattle.std.specs.Str.{bytes_eq}
use Rattle.clap.specs.Lexer.{long_of, short_of}
use Rattle.clap.specs.Walk.{Text}
use Rattle.clap.specs.Words.{subcommand_of, subcommand_rows_of, takes}
use Rattle.clap.specs.declared.parser.ArgMatches.{ArgMatches}
use Rattle.clap.proofs.OnLiterals.{clap_on_literals}
use Rattle.command_words.specs.declared.command.ImageCommand.{ImageCommand}
use Rattle.command_words.specs.declared.command.ImageCommand.TheVariants.{Check, Dump}
use Rattle.command_words.specs.Words.{IsFileName, IsInGrammar, command_word}
use Rattle.command_words.specs.Parser.{AreTakenApart, program_app, word_row}

-- a word that names a file is no flag
record IsPlainWord (word : Text) : Type 0 where
  pub no_dashes : bytes_eq word (45 ∷ 45 ∷ []) ≡ false
  pub no_long : long_of word ≡ None
  pub no_short : short_of word ≡ None

not_dash : (x : ℕ) → x ≢ 45 → (x == 45) ≡ false
not_dash x h = search (rules, h)

plain_word : (word : Text) → IsFileName word → IsPlainWord word
plain_word [] h = absurd (h.0 refl)
plain_word (x ∷ xs) h =
    let off = not_dash x h.1 in
    record { no_dashes = rw off refl; no_long = rw off refl; no_short = rw off refl }

-- a run takes three words
pub run_takes : (volume script image : Text) → IsFileName volume → IsFileName script → IsFileName image
    → takes program_app (codes "run" ∷ volume ∷ script ∷ image ∷ []) ≡ true
unfolding clap_on_literals
run_takes volume script image first second third =
    let a = plain_word volume first in
    let b = plain_word script second in
    let c = plain_word image third in
    rw (a.no_dashes, a.no_long, a.no_short, b.no_dashes, b.no_long, b.no_short, c.no_dashes, c.no_long, c.no_short) refl

pub run_has : (volume script image : Text) → IsFileName volume → IsFileName script → IsFileName image
    → subcommand_of program_app (codes "run" ∷ volume ∷ script ∷ image ∷ [])
    ≡ Some (codes "run", word_row (codes "volume") volume ∷ word_row (codes "script") script ∷ word_row (codes "image") image ∷ [])
unfolding clap_on_literals
run_has volume script image first second third =
    let a = plain_word volume first in
    let b = plain_word script second in
    let c = plain_word image third in
    rw (a.no_dashes, a.no_long, a.no_short, b.no_dashes, b.no_long, b.no_short, c.no_dashes, c.no_long, c.no_short) refl

-- a making of an image takes two
pub mkfs_takes : (manifest image : Text) → IsFileName manifest → IsFileName image → takes program_app (codes "mkfs" ∷ manifest ∷ image ∷ []) ≡ true
unfolding clap_on_literals
mkfs_takes manifest image first second =
    let a = plain_word manifest first in
    let b = plain_word image second in
    rw (a.no_dashes, a.no_long, a.no_short, b.no_dashes, b.no_long, b.no_short) refl

pub mkfs_has : (manifest image : Text) → IsFileName manifest → IsFileName image
    → subcommand_of program_app (codes "mkfs" ∷ manifest ∷ image ∷ [])
    ≡ Some (codes "mkfs", word_row (codes "manifest") manifest ∷ word_row (codes "image") image ∷ [])
unfolding clap_on_literals
mkfs_has manifest image first second =
    let a = plain_word manifest first in
    let b = plain_word image second in
    rw (a.no_dashes, a.no_long, a.no_short, b.no_dashes, b.no_long, b.no_short) refl

-- a command on an image takes one
pub of_image_takes : (command : ImageCommand) (image : Text) → IsFileName image → takes program_app (command_word command ∷ image ∷ []) ≡ true
unfolding clap_on_literals
of_image_takes Check image name =
    let a = plain_word image name in
    rw (a.no_dashes, a.no_long, a.no_short) refl
of_image_takes Dump image name =
    let a = plain_word image name in
    rw (a.no_dashes, a.no_long, a.no_short) refl

pub of_image_has : (command : ImageCommand) (image : Text) → IsFileName image
    → subcommand_of program_app (command_word command ∷ image ∷ []) ≡ Some (command_word command, word_row (codes "image") image ∷ [])
unfolding clap_on_literals
of_image_has Check image name =
    let a = plain_word image name in
    rw (a.no_dashes, a.no_long, a.no_short) refl
of_image_has Dump image name =
    let a = plain_word image name in
    rw (a.no_dashes, a.no_long, a.no_short) refl

-- Words of the grammar are taken.
pub grammar_takes : (words : List Text) → IsInGrammar words → takes program_app words ≡ true
grammar_takes words (inl run) = ap (takes program_app) run.is.words_are ∙ run_takes _ _ _ run.is.volume_is run.is.script_is run.is.image_is
grammar_takes words (inr (inl mkfs)) = ap (takes program_app) mkfs.is.words_are ∙ mkfs_takes _ _ mkfs.is.manifest_is mkfs.is.image_is
grammar_takes words (inr (inr image)) = ap (takes program_app) image.is.words_are ∙ of_image_takes image.command _ image.is.image_is

-- What is found of them is their subcommand with just its names.
pub grammar_has : (words : List Text) (m : ArgMatches) → IsInGrammar words → subcommand_rows_of m ≡ subcommand_of program_app words → AreTakenApart words m
grammar_has words m (inl run) has = (
  _,
  inl (
    has ∙ ap (subcommand_of program_app) run.is.words_are ∙ run_has _ _ _ run.is.volume_is run.is.script_is run.is.image_is,
    record {
      volume = run.volume;
      script = run.script;
      image = run.image;
      is = run.is;
      rows_are = refl;
    },
  ),
)
grammar_has words m (inr (inl mkfs)) has = (
  _,
  inr (inl (
    has ∙ ap (subcommand_of program_app) mkfs.is.words_are ∙ mkfs_has _ _ mkfs.is.manifest_is mkfs.is.image_is,
    record {
      manifest = mkfs.manifest;
      image = mkfs.image;
      is = mkfs.is;
      rows_are = refl;
    },
  )),
)
grammar_has words m (inr (inr image)) has = (
  _,
  inr (inr (
    image.command,
    has ∙ ap (subcommand_of program_app) image.is.words_are ∙ of_image_has image.command _ image.is.image_is,
    record {
      image = image.image;
      is = image.is;
      rows_are = refl;
    },
  )),
)
