use Rattle.table_nodes.specs.Beyond.{lebs_held}
use Rattle.table_nodes.proofs.seen.see_medium.Given as goal

abbrev pub ghost-tell_of : goal.ghost-tell_of
ghost-tell_of g a = λ volume. lebs_held (g.V.Volume.state volume).holds (g.V.Volume.state volume).leb_cnt
