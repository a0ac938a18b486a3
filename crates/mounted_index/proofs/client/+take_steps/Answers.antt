use Rattle.std.proofs.Common.{◌<◌, ◌≤◌, ◌+◌, ◌*◌, ◌^◌, ◌++◌, ◌∷◌, ℕ, List, length, refl, ap, sym, subst, arith, inl}
use Rattle.ubifs_base.specs.Geometry.{index_nodes_per_leb}
use Rattle.ubifs_base.specs.RawOf.{raw_of}
use Rattle.ubifs_base.specs.declared.geometry.Geometry.{Geometry}
use Rattle.commit_steps.specs.UnderWayLaws.{WorksBeside-none, WorksBeside-step, WorksBeside-then}
use Rattle.index_commit.specs.Lebs.{AreLebsApart, AreGivable}
use Rattle.mounted_index.specs.Running.{AreStepsTaken}
use Rattle.mounted_index.proofs.ClientSteps.{apart_later, apart_then, geometry_now, givable_now, given_at_first, given_since, number_later, number_most, on_ok_more}
use Rattle.mounted_index.proofs.client.+take_steps.Goals as goal

pub returns-in_default-clause-taken : goal.returns-in_default-clause-taken
returns-in_default-clause-taken g t c = λ row begun kept given h apart.
    record { now = row; places = c.places_are_kept.ensures.none row; since = given; among = given_at_first c.args.lebs.now given; running = h }

pub returns-in_default-clause-beside : goal.returns-in_default-clause-beside
returns-in_default-clause-beside g t c = λ others apart. WorksBeside-none (g.V.Volume.state c.args.volume.now) others

pub returns-then-not-has_nodes_left-clause-taken : goal.returns-then-not-has_nodes_left-clause-taken
returns-then-not-has_nodes_left-clause-taken g t c = λ row begun kept given h apart.
    record { now = row; places = c.places_are_kept.ensures.none row; since = given; among = given_at_first c.args.lebs.now given; running = h }

pub returns-in_err-write_step-clause-beside : goal.returns-in_err-write_step-clause-beside
returns-in_err-write_step-clause-beside g t c = λ others apart.
    let L : List ℕ → Type 0 = λ l. AreLebsApart others l in
    let all = subst L c.in-Some.ensures.cases.0 apart in
    WorksBeside-step (g.V.Volume.state c.args.volume.now) (g.V.Volume.state c.write_step.new.volume) c.in-Some.lnum.now others (λ given. all c.in-Some.lnum.now given (inl refl)) c.write_step.ensures.written.works

pub take_steps-requires : goal.take_steps-requires
take_steps-requires g t c κs within =
    let a = g.V.Volume.state c.args.volume.now in
    let b = g.V.Volume.state c.write_step.new.volume in
    let lnum = c.in-Some.lnum.now in
    let rest = c.in-Some.rest.now in
    let is = c.in-Some.ensures.cases.0 in
    let long = ap length is in
    let own = c.requires.running in
    let L : List ℕ → Type 0 = λ l. AreLebsApart (own.3 ++ own.2) l in
    let apart = subst L is own.5 in
    let V : List ℕ → Type 0 = λ l. AreGivable a.leb_cnt l in
    let lebs = subst V is c.requires.volume.1 in
    let step = (c.in_ok-write_step.ensures.step own.0 own.1 own.2 own.3 own.4 (λ given. apart lnum given (inl refl))).0 in
    let shape = c.write_step.ensures.answer.0.shape in
    let same = c.write_step.ensures.next.1 in
    let N : Geometry → Type 0 = λ g. c.write_step.new.sqnum + index_nodes_per_leb (raw_of g) * length rest < 2 ^ 63 in (
      omega (arith, long, c.decreases),
      (
        within,
        (
          (geometry_now c.args.index.now.geometry c.write_step.new.self.geometry a b same shape c.requires.volume.0, givable_now a b rest shape lebs.2),
          (
            (step.now, own.1, own.2, lnum ∷ own.3, step.running, apart_then (own.3 ++ own.2) lnum rest lebs.1 apart),
            subst N (sym same) (number_later (index_nodes_per_leb (raw_of c.args.index.now.geometry)) (2 ^ 63) c.args.sqnum.now c.write_step.new.sqnum c.args.lebs.now lnum rest is c.in_ok-write_step.ensures.next.0.most c.requires.number),
          ),
        ),
      ),
    )

pub returns-clause-taken : goal.returns-clause-taken
returns-clause-taken g t c = λ row begun kept given h apart.
    let lnum = c.in-Some.lnum.now in
    let rest = c.in-Some.rest.now in
    let is = c.in-Some.ensures.cases.0 in
    let e = g.V.Volume.state c.take_steps.new.volume in
    let L : List ℕ → Type 0 = λ l. AreLebsApart (given ++ kept) l in
    let all = subst L is apart in
    let V : List ℕ → Type 0 = λ l. AreGivable (g.V.Volume.state c.args.volume.now).leb_cnt l in
    let lebs = subst V is c.requires.volume.1 in
    let step = (c.in_ok-write_step.ensures.step row begun kept given h (λ given. all lnum given (inl refl))).0 in
    let then = c.take_steps.ensures.taken step.now begun kept (lnum ∷ given) step.running (apart_then (given ++ kept) lnum rest lebs.1 all) in
    let G : List ℕ → Type 0 = λ l. AreStepsTaken e l kept given begun row c.take_steps.new.index in
    on_ok_more c.take_steps.result (λ way. subst G (sym is) (record {
      now = way.now;
      places = c.places_are_kept.ensures.both row step.now way.now step.places way.places;
      since = way.since;
      among = given_since lnum rest given way.since way.among;
      running = way.running;
    })) then

pub returns-clause-beside : goal.returns-clause-beside
returns-clause-beside g t c = λ others apart.
    let a = g.V.Volume.state c.args.volume.now in
    let b = g.V.Volume.state c.write_step.new.volume in
    let lnum = c.in-Some.lnum.now in
    let L : List ℕ → Type 0 = λ l. AreLebsApart others l in
    let all = subst L c.in-Some.ensures.cases.0 apart in
    WorksBeside-then a b (g.V.Volume.state c.take_steps.new.volume) others (WorksBeside-step a b lnum others (λ given. all lnum given (inl refl)) c.write_step.ensures.written.works)
    (c.take_steps.ensures.beside others (apart_later others lnum c.in-Some.rest.now all))

pub returns-clause-number : goal.returns-clause-number
returns-clause-number g t c =
    let rest = c.in-Some.rest.now in
    let q = index_nodes_per_leb (raw_of c.args.index.now.geometry) in
    let M : Geometry → Type 0 = λ g. c.take_steps.new.sqnum ≤ c.write_step.new.sqnum + index_nodes_per_leb (raw_of g) * length rest in
    on_ok_more c.take_steps.result (λ most. number_most q c.args.sqnum.now c.write_step.new.sqnum c.take_steps.new.sqnum c.args.lebs.now c.in-Some.lnum.now rest c.in-Some.ensures.cases.0 c.in_ok-write_step.ensures.next.0.most (subst M c.write_step.ensures.next.1 most))
    c.take_steps.ensures.number
