use Rattle.std.proofs.Common.{◌≡◌, ℕ, ◌-◌, ◌++◌, List, length, refl, rules, ap, ◌∙◌}
use Rattle.std.proofs.lemmas.List.{take_at}
use Rattle.ubifs_base.specs.Areas.{main_first}
use Rattle.ubifs_base.specs.Gap.{gap_of}
use Rattle.ubifs_base.specs.RawOf.{raw_of}
use Rattle.media_leaf.specs.LeafNode.{inode, written}
use Rattle.volume_format.specs.Format.{root_node}
use Rattle.volume_format.proofs.Alone.{alone_done_at, alone_works_at, laid_so, units_of}
use Rattle.volume_format.proofs.root.write_root.Goals as goal

pub returns-in_err-change-clause-works : goal.returns-in_err-change-clause-works
returns-in_err-change-clause-works g c =
    let node : List ℕ = written 1 0 (inode (root_node c.args.now)) in
    let same : c.deref.result.now ≡ c.lay.new.out = c.deref.ensures.value ∙ take_at _ _ _ (search rules) in
    let wide : length c.deref_mut.result.now ≡ c.in_units-size.result = search rules in
    let laid = laid_so node c.deref.result.now c.in_units-size.result 160 (same ∙ c.lay.ensures.bytes ∙ ap (λ (n : ℕ). node ++ gap_of (n - 160)) wide) c.lay.ensures.long refl c.in_units-size.ensures.words (search rules) in
    alone_works_at (g.V.Volume.state c.args.volume.now) (g.V.Volume.state c.change.new.self) c.main_first.result (main_first (raw_of c.args.geometry.now)) node c.deref.result.now (c.in_units-size.result - 160) c.main_first.ensures laid c.change.ensures.works

pub returns-clause-works : goal.returns-clause-works
returns-clause-works g c =
    let node : List ℕ = written 1 0 (inode (root_node c.args.now)) in
    let same : c.deref.result.now ≡ c.lay.new.out = c.deref.ensures.value ∙ take_at _ _ _ (search rules) in
    let wide : length c.deref_mut.result.now ≡ c.in_units-size.result = search rules in
    let laid = laid_so node c.deref.result.now c.in_units-size.result 160 (same ∙ c.lay.ensures.bytes ∙ ap (λ (n : ℕ). node ++ gap_of (n - 160)) wide) c.lay.ensures.long refl c.in_units-size.ensures.words (search rules) in
    alone_works_at (g.V.Volume.state c.args.volume.now) (g.V.Volume.state c.change.new.self) c.main_first.result (main_first (raw_of c.args.geometry.now)) node c.deref.result.now (c.in_units-size.result - 160) c.main_first.ensures laid c.change.ensures.works

pub returns-clause-done : goal.returns-clause-done
returns-clause-done g c =
    let node : List ℕ = written 1 0 (inode (root_node c.args.now)) in
    let same : c.deref.result.now ≡ c.lay.new.out = c.deref.ensures.value ∙ take_at _ _ _ (search rules) in
    let wide : length c.deref_mut.result.now ≡ c.in_units-size.result = search rules in
    let laid = laid_so node c.deref.result.now c.in_units-size.result 160 (same ∙ c.lay.ensures.bytes ∙ ap (λ (n : ℕ). node ++ gap_of (n - 160)) wide) c.lay.ensures.long refl c.in_units-size.ensures.words (search rules) in
    alone_done_at (raw_of c.args.geometry.now) (g.V.Volume.state c.args.volume.now) (g.V.Volume.state c.change.new.self) c.main_first.result (main_first (raw_of c.args.geometry.now)) node c.deref.result.now (c.in_units-size.result - 160) c.main_first.ensures laid (units_of (raw_of c.args.geometry.now) node c.deref.result.now c.in_units-size.result 160 (search rules) c.in_units-size.ensures.number c.lay.ensures.long) c.in_ok-change.ensures.done
