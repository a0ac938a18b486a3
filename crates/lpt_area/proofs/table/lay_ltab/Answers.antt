use Rattle.std.proofs.Common.{rules, ap, ◌∙◌, drop, subst, refl, List}
use Rattle.ubifs_base.specs.RawOf.{raw_of}
use Rattle.media_lpt.specs.Nodes.{IsLtabBytes}
use Rattle.media_lpt.specs.declared.ltab.LptRow.{LptRow}
use Rattle.lpt_area.proofs.LaidNodes.{laid}
use Rattle.lpt_area.proofs.table.lay_ltab.Goals as goal

pub returns-clause-laid : goal.returns-clause-laid
returns-clause-laid c =
    let P : List LptRow → Type 0 = λ rows. IsLtabBytes (raw_of c.args.geo.now) c.encode.new.out rows in
    laid _ _ _ c.encode.new.out _ _ _ _ _ c.requires.room c.split_at_mut-before.ensures.front c.split_at_mut-before.ensures.back
    (c.split_at_mut-place.ensures.back ∙ ap (λ n. drop n c.split_at_mut-before.result.1.now) c.ltab_len-len.ensures) (subst P c.in_ok-table.ensures.rows c.encode.ensures) (search rules) refl
