use Rattle.std.proofs.Common.{List, ℕ, sym, subst}
use Rattle.std.specs.List.{AllByRecursion}
use Rattle.leb_scan.specs.declared.found.Found.{Found}
use Rattle.journal_scan.specs.Stands.{HasNode}
use Rattle.journal_scan.proofs.Found.{each_stands}
use Rattle.journal_scan.proofs.leaves.read_bud.Goals as goal

pub leaves_of-requires : goal.leaves_of-requires
leaves_of-requires c =
    let text = c.in_ok-text.ensures in
    let leb = c.as_slice.result.now in
    let P : List Found → Type 0 = λ founds. AllByRecursion (HasNode c.args.bud.now.bytes) founds in
    let Q : List ℕ → Type 0 = λ bytes. AllByRecursion (HasNode bytes) c.in_ok-text.text.nodes.items in
    let R : List Found → Type 0 = λ founds. AllByRecursion (HasNode leb) founds in
    subst Q c.as_slice.ensures (subst R (sym text.2) (each_stands leb c.args.bud.now.from c.in_ok-text.text.end text.0 text.1.stand))
