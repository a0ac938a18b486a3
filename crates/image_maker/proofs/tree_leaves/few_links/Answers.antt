use Rattle.std.proofs.Common.{◌≡◌, ap, arith}
use Rattle.std.specs.List.{sum_by}
use Rattle.fs_model.specs.Cover.{entry_bytes}
use Rattle.fs_model.specs.Directory.{entries_in}
use Rattle.image_maker.proofs.Sums.{count_le-sum_by}
use Rattle.image_maker.proofs.tree_leaves.few_links.Goals as goal

pub overflow_cast-result : goal.overflow_cast-result
overflow_cast-result c =
    let listed = c.requires.listed in
    let few = c.requires.few in
    let links = c.dir_links.ensures listed.0 listed.1 listed.2 in
    let count = count_le-sum_by (entries_in listed.0 listed.1) in
    let same : sum_by entry_bytes (entries_in listed.0 listed.1) ≡ sum_by entry_bytes c.args.entries.now = ap (sum_by entry_bytes) listed.2 in
    omega (arith, few, links, count, same)
