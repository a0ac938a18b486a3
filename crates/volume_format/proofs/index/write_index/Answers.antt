use Rattle.std.proofs.Common.{◌≡◌, ℕ, ◌+◌, ◌-◌, ◌++◌, List, length, refl, rules, ap, ◌∙◌}
use Rattle.std.proofs.lemmas.List.{take_at}
use Rattle.ubifs_base.specs.Areas.{main_first}
use Rattle.ubifs_base.specs.Gap.{gap_of}
use Rattle.ubifs_base.specs.RawOf.{raw_of}
use Rattle.media_sys.specs.SystemNode.{index, written}
use Rattle.volume_format.specs.Format.{root_index}
use Rattle.volume_format.proofs.Alone.{alone_done_at, alone_works_at, laid_so, units_of}
use Rattle.volume_format.proofs.index.write_index.Goals as goal

pub returns-in_err-change-clause-works : goal.returns-in_err-change-clause-works
returns-in_err-change-clause-works g c =
    let node : List ℕ = written 2 0 (index (root_index (raw_of c.args.geometry.now))) in
    let same : c.deref.result.now ≡ c.lay.new.out = c.deref.ensures.value ∙ take_at _ _ _ (search rules) in
    let wide : length c.deref_mut.result.now ≡ c.in_units-size.result = search rules in
    let laid = laid_so node c.deref.result.now c.in_units-size.result 48 (same ∙ c.in_ok-lay.ensures.bytes ∙ ap (λ (n : ℕ). node ++ gap_of (n - 48)) wide) c.in_ok-lay.ensures.long refl c.in_units-size.ensures.words (search rules) in
    alone_works_at (g.V.Volume.state c.args.volume.now) (g.V.Volume.state c.change.new.self) (c.main_first-first.result + 1) (main_first (raw_of c.args.geometry.now) + 1) node c.deref.result.now (c.in_units-size.result - 48) (ap (λ (n : ℕ). n + 1) c.main_first-first.ensures) laid c.change.ensures.works

pub returns-clause-works : goal.returns-clause-works
returns-clause-works g c =
    let node : List ℕ = written 2 0 (index (root_index (raw_of c.args.geometry.now))) in
    let same : c.deref.result.now ≡ c.lay.new.out = c.deref.ensures.value ∙ take_at _ _ _ (search rules) in
    let wide : length c.deref_mut.result.now ≡ c.in_units-size.result = search rules in
    let laid = laid_so node c.deref.result.now c.in_units-size.result 48 (same ∙ c.in_ok-lay.ensures.bytes ∙ ap (λ (n : ℕ). node ++ gap_of (n - 48)) wide) c.in_ok-lay.ensures.long refl c.in_units-size.ensures.words (search rules) in
    alone_works_at (g.V.Volume.state c.args.volume.now) (g.V.Volume.state c.change.new.self) (c.main_first-first.result + 1) (main_first (raw_of c.args.geometry.now) + 1) node c.deref.result.now (c.in_units-size.result - 48) (ap (λ (n : ℕ). n + 1) c.main_first-first.ensures) laid c.change.ensures.works

pub returns-clause-done : goal.returns-clause-done
returns-clause-done g c =
    let node : List ℕ = written 2 0 (index (root_index (raw_of c.args.geometry.now))) in
    let same : c.deref.result.now ≡ c.lay.new.out = c.deref.ensures.value ∙ take_at _ _ _ (search rules) in
    let wide : length c.deref_mut.result.now ≡ c.in_units-size.result = search rules in
    let laid = laid_so node c.deref.result.now c.in_units-size.result 48 (same ∙ c.in_ok-lay.ensures.bytes ∙ ap (λ (n : ℕ). node ++ gap_of (n - 48)) wide) c.in_ok-lay.ensures.long refl c.in_units-size.ensures.words (search rules) in
    alone_done_at (raw_of c.args.geometry.now) (g.V.Volume.state c.args.volume.now) (g.V.Volume.state c.change.new.self) (c.main_first-first.result + 1) (main_first (raw_of c.args.geometry.now) + 1) node c.deref.result.now (c.in_units-size.result - 48) (ap (λ (n : ℕ). n + 1) c.main_first-first.ensures) laid (units_of (raw_of c.args.geometry.now) node c.deref.result.now c.in_units-size.result 48 (search rules) c.in_units-size.ensures.number c.in_ok-lay.ensures.long) c.in_ok-change.ensures.done
