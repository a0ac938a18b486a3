use Rattle.std.proofs.Common.{◌++◌, ◌∷◌, [], refl, arith}
use Rattle.leb_scan.specs.Gathered.{gathered_next}
use Rattle.image_dump.specs.Listing.{node_line}
use Rattle.image_dump.proofs.Lines.{more_lines, text_listed}
use Rattle.image_dump.proofs.leb.push_text.Goals as goal

pub loop-found-preserved : goal.loop-found-preserved
loop-found-preserved c =
    let before = c.loop-found.invariant.0 in
    let found = c.in-Some.found in (
      (
        before.0 ++ found ∷ [],
        gathered_next c.args.leb.now 0 c.loop-found.scanner.place c.next.new.self.place before.0 found before.1 c.in-Some.ensures.some,
        more_lines c.push_leb.new.out.items c.loop-found.out.items c.push_node.new.out.items (node_line found) before.0 found before.2 c.in_ok-push_node.ensures refl,
      ),
      omega arith,
    )

pub returns : goal.returns
returns c =
    let before = c.loop-found.invariant.0 in
    text_listed c.args.lnum c.args.leb.now c.args.out.now.items c.push_leb.new.out.items c.loop-found.out.items c.push_tail.new.out.items
    c.loop-found.scanner.place c.next.new.self.place c.place.result before.0 c.tail.result before.1 c.in_default.ensures.none c.place.ensures c.tail.ensures c.in_ok-push_leb.ensures before.2 c.in_ok-push_tail.ensures
