use Rattle.std.proofs.Common.{◌∙◌, sym, ap, true≢false, is_some, option_map}
use Rattle.clap.specs.Words.{found_of}
use Rattle.clap.proofs.WalkLemmas.{first_value-rows}
use Rattle.command_words.proofs.read.value.Goals as goal

pub unreachable-requires : goal.unreachable-requires
unreachable-requires c =
    let read = c.get_str.ensures ∙ first_value-rows (found_of c.args.found.now) c.args.id.now in
    absurd (true≢false (sym (ap is_some c.requires.1) ∙ sym (ap is_some read) ∙ ap (λ r. is_some (option_map (λ s. s.now) r)) c.in-None.is))

pub returns : goal.returns
returns c = sym (c.get_str.ensures ∙ first_value-rows (found_of c.args.found.now) c.args.id.now) ∙ ap (option_map (λ s. s.now)) c.in-Some.is
