use Rattle.std.proofs.Common.{[]}
use Rattle.commit_steps.specs.UnderWayLaws.{index_stays}
use Rattle.mounted_index.proofs.client.commit_beside_put.Goals as goal

pub returns-in_err-found-clause-old_stays : goal.returns-in_err-found-clause-old_stays
returns-in_err-found-clause-old_stays g c = λ kept fanout root row settled apart all stored.
    let a = g.V.Volume.state c.args.volume.now in
    let b = g.V.Volume.state c.put_between_steps.new.volume in
    (index_stays c.an_index_depends_on_its_lebs_alone.ensures a b kept fanout root row (c.put_between_steps.ensures.beside kept apart) settled all stored).1

pub returns-then-has_nodes_left-clause-old_stays : goal.returns-then-has_nodes_left-clause-old_stays
returns-then-has_nodes_left-clause-old_stays g c = λ kept fanout root row settled apart all stored.
    let a = g.V.Volume.state c.args.volume.now in
    let b = g.V.Volume.state c.put_between_steps.new.volume in
    (index_stays c.an_index_depends_on_its_lebs_alone.ensures a b kept fanout root row (c.put_between_steps.ensures.beside kept apart) settled all stored).1

pub returns-clause-old_stays : goal.returns-clause-old_stays
returns-clause-old_stays g c = λ kept fanout root row settled apart all stored.
    let a = g.V.Volume.state c.args.volume.now in
    let b = g.V.Volume.state c.put_between_steps.new.volume in
    (index_stays c.an_index_depends_on_its_lebs_alone.ensures a b kept fanout root row (c.put_between_steps.ensures.beside kept apart) settled all stored).1

pub returns-clause-committed : goal.returns-clause-committed
returns-clause-committed g c = λ row kept s stands settled apart.
    let put = c.in_ok-found.ensures.put row row kept [] (c.begin_commit.ensures.begun row kept s stands settled) apart in
    (put.0, c.end_commit-root.ensures.ended put.0.now row kept put.0.since put.1)

pub end_commit-root-requires-clause-running : goal.end_commit-root-requires-clause-running
end_commit-root-requires-clause-running g c =
    let own = c.requires.shown in
    let put = c.in_ok-found.ensures.put own.0 own.0 own.1 [] (c.begin_commit.ensures.begun own.0 own.1 own.2 own.3 own.4) own.5 in
    (put.0.now, own.0, own.1, put.0.since, put.1)
