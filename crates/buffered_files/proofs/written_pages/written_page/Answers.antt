use Rattle.std.proofs.Common.{arith, ◌∙◌}
use Rattle.buffered_files.proofs.Reading.{seen, seen_short}
use Rattle.buffered_files.proofs.WholePage.{whole_written}
use Rattle.buffered_files.proofs.written_pages.written_page.Goals as goal

pub returns-then-count-eq4096-clause-bytes : goal.returns-then-count-eq4096-clause-bytes
returns-then-count-eq4096-clause-bytes g c =
    let tree = (g.B.Backing.state c.args.backing.now).tree in
    let short = seen_short tree c.args.kept.now c.args.ino c.args.page c.requires.kept in
    whole_written (seen tree c.args.kept.now) c.args.ino c.args.offs c.args.n c.args.byte c.args.page c.saturating_sub-from.result c.min-to.result _ short (omega arith) (omega arith) (omega arith) (c.from_vec.ensures ∙ c.in_ok-whole.ensures.items_if_clones_equal (λ y e. e))
