use Rattle.std.proofs.Common.{◌||◌, rules, tests, ◌∙◌, sym, ap, refl}
use Rattle.std.specs.Prelude.{◌==◌}
use Rattle.std.specs.List.{list_any}
use Rattle.std.proofs.lemmas.Iterator.Search.{any_from_yields_List}
use Rattle.std.proofs.lemmas.Iterator.Splits.{YieldsList-from_slice_split}
use Rattle.fs_model.specs.Path.{is_dots, is_empty}
use Rattle.op_groups.proofs.Parts.{components_split}
use Rattle.op_groups.proofs.paths.has_bad_part.Goals as goal

pub returns-in-len1-up : goal.returns-in-len1-up
returns-in-len1-up c =
    any_from_yields_List (λ n. is_empty n || is_dots n) _ _ c.any.result c.any.ensures.ran (YieldsList-from_slice_split _ (λ b. b == 47) _ c.split.ensures.rest c.split.ensures.done c.split.ensures.closure (λ x b q k. search (rules, tests))) (λ x b q k. search (rules, tests))
    ∙ sym (ap (λ l. list_any (λ n. is_empty n || is_dots n) l) (components_split c.args.path.now _ c.in-len1-up.len_at_least refl))
