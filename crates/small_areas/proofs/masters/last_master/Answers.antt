use Rattle.std.proofs.Common.{take, ap, refl, ◌∙◌, arith}
use Rattle.small_areas.proofs.LastMaster.{found_there, read_there, none_there}
use Rattle.small_areas.proofs.masters.last_master.Goals as goal

pub split_at-requires : goal.split_at-requires
split_at-requires c = let room = (found_there c.args.leb.now c.in-Some.found c.in-Some.ensures.some).0 in omega (arith, room)

pub split_at-requires-2 : goal.split_at-requires-2
split_at-requires-2 c =
    let room = (found_there c.args.leb.now c.in-Some.found c.in-Some.ensures.some).0 in
    let back = c.split_at.ensures.back_len in
    omega (arith, room, back)

pub returns-in_err-master-clause-none : goal.returns-in_err-master-clause-none
returns-in_err-master-clause-none c =
    let bytes = c.split_at-2.ensures.front ∙ ap (take c.in-Some.found.len) c.split_at.ensures.back in
    absurd (none_there c.args.leb.now c.split_at-2.result.0.now c.in-Some.found bytes c.in-Some.ensures.some c.in_err-master.ensures.none)

pub returns-clause-some : goal.returns-clause-some
returns-clause-some c =
    let bytes = c.split_at-2.ensures.front ∙ ap (take c.in-Some.found.len) c.split_at.ensures.back in
    (read_there c.args.leb.now c.split_at-2.result.0.now c.args.lnum c.in-Some.found c.in_ok-master.master bytes c.in-Some.ensures.some c.in_ok-master.ensures.some, refl)
