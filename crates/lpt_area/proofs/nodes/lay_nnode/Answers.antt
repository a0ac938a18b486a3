use Rattle.std.proofs.Common.{rules, ap, ◌∙◌, drop}
use Rattle.lpt_area.proofs.LaidNodes.{laid}
use Rattle.lpt_area.proofs.nodes.lay_nnode.Goals as goal

pub returns : goal.returns
returns c = laid _ _ _ c.encode.new.out _ _ _ _ _ c.requires.room c.split_at_mut-before.ensures.front c.split_at_mut-before.ensures.back (c.split_at_mut-place.ensures.back ∙ ap (λ n. drop n c.split_at_mut-before.result.1.now) c.nnode_len-len.ensures) c.encode.ensures (search rules) (search rules)
