use Rattle.std.proofs.Common.{refl}
use Rattle.ubifs_base.specs.RawOf.{raw_of}
use Rattle.script_run.proofs.Openings.{opening_covers}
use Rattle.script_run.proofs.opening.writable_volume.Goals as goal

pub invariant_of-result-clause-covers : goal.invariant_of-result-clause-covers
invariant_of-result-clause-covers c =
    let geo = raw_of c.args.geometry in
    let space = c.args.space.now in
    opening_covers geo c.args.tree space _ refl c.requires.proper c.requires.weighed c.requires.used c.more_never_lowers_the_need.ensures.admitted
    ((c.a_settled_store_has_no_cause.ensures.covered geo space c.requires.credits).0 c.requires.settled).0
