use Rattle.std.proofs.Common.{refl, ap, ◌∙◌}
use Rattle.leaf_map.specs.Recovered.{recovered_of, tree_found}
use Rattle.laid_image.proofs.Sound.{kept_are, laid_is_sound, plain_parts, tree_is}
use Rattle.laid_image.proofs.law.a_laid_image_is_sound.Goals as goal

pub returns-clause-sound : goal.returns-clause-sound
returns-clause-sound c contents geo latest props placed nodes h =
    laid_is_sound c.originals_are_found.ensures contents geo latest props placed nodes h c.plain_nodes_need_no_feature.ensures.plain c.a_fresh_log_meets_the_rule.ensures

pub returns-clause-leaves : goal.returns-clause-leaves
returns-clause-leaves c geo latest props placed log nodes contents none h =
    ap (λ parts. (recovered_of parts).kept) (plain_parts geo latest props placed log nodes none) ∙ kept_are c.originals_are_found.ensures contents geo latest props placed nodes h

pub returns-clause-tree : goal.returns-clause-tree
returns-clause-tree c geo latest props placed log nodes contents none h =
    ap tree_found (plain_parts geo latest props placed log nodes none) ∙ tree_is c.originals_are_found.ensures contents geo latest props placed nodes h

pub returns-clause-clean : goal.returns-clause-clean
returns-clause-clean c geo latest props placed log nodes = refl
