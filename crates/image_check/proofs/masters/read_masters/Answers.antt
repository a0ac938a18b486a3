use Rattle.std.proofs.Common.{arith, sym, ◌∙◌}
use Rattle.ubifs_base.specs.RawOf.{raw_of}
use Rattle.small_areas.specs.Masters.{HasNoMaster, IsLatest}
use Rattle.image_check.proofs.Latest.{misplaced_breach}
use Rattle.image_check.proofs.masters.read_masters.Goals as goal

pub returns-in_default-clause-broken : goal.returns-in_default-clause-broken
returns-in_default-clause-broken g c =
    let state = g.V.Volume.state c.args.volume.now in
    let none : HasNoMaster (state.holds 1) × HasNoMaster (state.holds 2) = rw c.in_default.is at c.in_ok-placed.ensures.none in
    (raw_of c.args.geometry.now, c.requires.superblock, none.0, none.1)

pub returns-in-Some-misplaced_address-clause-broken : goal.returns-in-Some-misplaced_address-clause-broken
returns-in-Some-misplaced_address-clause-broken g c =
    let state = g.V.Volume.state c.args.volume.now in
    let count = c.requires.geometry.leb_cnt in
    let least = c.args.geometry.now.in_range.leb_cnt in
    let found : IsLatest (state.holds 1) (state.holds 2) c.in-Some.placed = rw c.in-Some.is at c.in_ok-placed.ensures.found in
    misplaced_breach c.one_node.ensures c.one_text.ensures state.holds (raw_of c.args.geometry.now) c.in-Some.placed c.in-Some-misplaced_address.misplaced (g.met.V.Volume.leb_bytes c.args.volume.now 1 (omega (arith, count, least)))
    (g.met.V.Volume.leb_bytes c.args.volume.now 2 (omega (arith, count, least))) c.requires.superblock found (sym c.misplaced_address.ensures ∙ c.in-Some-misplaced_address.is)

pub returns-clause-met : goal.returns-clause-met
returns-clause-met g c = record { is_latest = rw c.in-Some.is at c.in_ok-placed.ensures.found; in_areas = sym c.misplaced_address.ensures ∙ c.in_default-misplaced_address.is }
