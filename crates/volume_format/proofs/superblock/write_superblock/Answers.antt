use Rattle.std.proofs.Common.{◌≡◌, ℕ, ◌-◌, ◌++◌, List, length, refl, rules, ap, ◌∙◌}
use Rattle.std.proofs.lemmas.List.{take_at}
use Rattle.ubifs_base.specs.Gap.{gap_of}
use Rattle.ubifs_base.specs.RawOf.{raw_of}
use Rattle.lpt_area.specs.Written.{in_units}
use Rattle.media_sys.specs.SystemNode.{superblock, written}
use Rattle.volume_format.proofs.Alone.{alone_done, alone_works, begins_super, laid_so, units_of}
use Rattle.volume_format.proofs.superblock.write_superblock.Goals as goal

pub returns-in_err-change-clause-works : goal.returns-in_err-change-clause-works
returns-in_err-change-clause-works g c =
    let node : List ℕ = written c.args.sqnum 0 (superblock c.args.node.now) in
    let same : c.deref.result.now ≡ c.lay.new.out = c.deref.ensures.value ∙ take_at _ _ _ (search rules) in
    let wide : length c.deref_mut.result.now ≡ c.in_units-size.result = search rules in
    let laid = laid_so node c.deref.result.now c.in_units-size.result 4096 (same ∙ c.lay.ensures.bytes ∙ ap (λ (n : ℕ). node ++ gap_of (n - 4096)) wide) c.lay.ensures.long refl c.in_units-size.ensures.words (search rules) in
    alone_works (g.V.Volume.state c.args.volume.now) (g.V.Volume.state c.change.new.self) 0 node c.deref.result.now (c.in_units-size.result - 4096) laid c.change.ensures.works

pub returns-clause-works : goal.returns-clause-works
returns-clause-works g c =
    let node : List ℕ = written c.args.sqnum 0 (superblock c.args.node.now) in
    let same : c.deref.result.now ≡ c.lay.new.out = c.deref.ensures.value ∙ take_at _ _ _ (search rules) in
    let wide : length c.deref_mut.result.now ≡ c.in_units-size.result = search rules in
    let laid = laid_so node c.deref.result.now c.in_units-size.result 4096 (same ∙ c.lay.ensures.bytes ∙ ap (λ (n : ℕ). node ++ gap_of (n - 4096)) wide) c.lay.ensures.long refl c.in_units-size.ensures.words (search rules) in
    alone_works (g.V.Volume.state c.args.volume.now) (g.V.Volume.state c.change.new.self) 0 node c.deref.result.now (c.in_units-size.result - 4096) laid c.change.ensures.works

pub returns-clause-done : goal.returns-clause-done
returns-clause-done g c =
    let node : List ℕ = written c.args.sqnum 0 (superblock c.args.node.now) in
    let same : c.deref.result.now ≡ c.lay.new.out = c.deref.ensures.value ∙ take_at _ _ _ (search rules) in
    let wide : length c.deref_mut.result.now ≡ c.in_units-size.result = search rules in
    let laid = laid_so node c.deref.result.now c.in_units-size.result 4096 (same ∙ c.lay.ensures.bytes ∙ ap (λ (n : ℕ). node ++ gap_of (n - 4096)) wide) c.lay.ensures.long refl c.in_units-size.ensures.words (search rules) in
    let alone = alone_done (raw_of c.args.geometry.now) (g.V.Volume.state c.args.volume.now) (g.V.Volume.state c.change.new.self) 0 node c.deref.result.now (c.in_units-size.result - 4096) laid (units_of (raw_of c.args.geometry.now) node c.deref.result.now c.in_units-size.result 4096 (search rules) (c.in_units-size.ensures.number ∙ ap (λ (n : ℕ). in_units c.args.geometry.now.min_io n) c.len.ensures) c.lay.ensures.long) c.in_ok-change.ensures.done in
    (alone, begins_super ((g.V.Volume.state c.change.new.self).holds 0) c.args.node.now c.args.sqnum alone.begins c.lay.ensures.long c.lay.ensures.node)
