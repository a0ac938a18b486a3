use Rattle.std.proofs.Common.{◌≡◌, ◌<◌, ◌^◌, drop}
use Rattle.std.specs.List.{list_all}
use Rattle.script_text.specs.Words.{is_octal_digit, octal_number}
use Rattle.script_text.proofs.words.mode_word.Given as goal

abbrev pub invariant-loop-digit : goal.invariant-loop-digit
invariant-loop-digit l = record {
  value : octal_number l.mode (drop l.digit-index l.word) ≡ octal_number 0 l.word;
  octal : list_all is_octal_digit (drop l.digit-index l.word) ≡ list_all is_octal_digit l.word;
  fits : l.mode < 8 ^ l.digit-index;
}
