use Rattle.std.proofs.Common.{◌≡◌, ℕ, ◌+◌, ◌-◌, ◌*◌, List, [], length, true, rules, ap, sym, subst, arith}
use Rattle.ubi_volume.specs.Volume.{filled}
use Rattle.media_sys.specs.Orphans.{Orphans}
use Rattle.media_sys.specs.SystemNode.{orphans, written}
use Rattle.small_areas.specs.Orphans.{HasOrphans}
use Rattle.small_areas.proofs.OrphanLists.{gap_listed, node_listed}
use Rattle.small_areas.proofs.orphans.lay_list.Goals as goal

pub returns-then-is_empty-clause-has : goal.returns-then-is_empty-clause-has
returns-then-is_empty-clause-has c = λ size.
    let none : c.args.inos.now ≡ [] = search rules in
    let out = c.fill_gap.new.out in
    let P : List ℕ → Type 0 = λ inos. HasOrphans (filled size out) inos in
    let F : List ℕ → List ℕ = λ b. filled size b in
    subst P (sym none) (gap_listed (filled size out) size (length c.args.out.now) (ap F c.fill_gap.ensures) c.requires.size c.requires.words)

pub returns-clause-has : goal.returns-clause-has
returns-clause-has c = λ size.
    let inos = c.in_ok-to_vec.field-0.items in
    let same : inos ≡ c.args.inos.now = search rules in
    let out = c.lay_node.new.out in
    let o : Orphans = record { cmt_no = c.args.cmt_no; last = true; inos = inos } in
    let node : List ℕ = written c.args.sqnum 0 (orphans o) in
    let long = c.lay_node.ensures.long in
    let high = c.requires.size in
    let even = c.requires.words in
    let P : List ℕ → Type 0 = λ xs. HasOrphans (filled size out) xs in
    let F : List ℕ → List ℕ = λ b. filled size b in
    subst P same (node_listed (filled size out) node size (length c.args.out.now - (32 + 8 * length inos)) c.args.sqnum o (ap F c.lay_node.ensures.bytes) c.lay_node.ensures.node (omega (arith, long)) (omega (arith, high)) (omega (arith, even)))
