use Rattle.std.proofs.Common.{◌≡◌, ℕ, ◌+◌, List, length, rules, ap, sym, subst, ◌∙◌}
use Rattle.std.proofs.lemmas.List.{take_at}
use Rattle.std.proofs.lemmas.Grind
use native.Mathlib.Omega
use Rattle.ubifs_base.specs.RawOf.{raw_of}
use Rattle.ubi_volume.specs.Volume.{filled}
use Rattle.small_areas.specs.Orphans.{HasOrphans, OrphanList, list_bytes}
use Rattle.small_areas.proofs.OrphanLists.{list_works, list_written}
use Rattle.small_areas.proofs.orphans.write_orphans.Goals as goal

pub returns-in_err-change-clause-works : goal.returns-in_err-change-clause-works
returns-in_err-change-clause-works g c =
    let inos = c.args.inos.now in
    let number = c.args.sqnum.now + c.node_count.result in
    let list : OrphanList = record { cmt_no = c.args.cmt_no; sqnum = number; inos = inos } in
    let same : c.deref.result.now ≡ c.lay_list.new.out = c.deref.ensures.value ∙ take_at _ _ _ (search rules) in
    let wide : length c.deref_mut.result.now ≡ c.list_size-size.result = search rules in
    let B : ℕ → List ℕ = λ n. list_bytes n c.args.cmt_no number inos in
    let H : List ℕ → Type 0 = λ bytes. (n : ℕ) → HasOrphans (filled n bytes) inos in
    list_works (raw_of c.args.geometry.now) (g.V.Volume.state c.args.volume.now) (g.V.Volume.state c.change.new.self) c.orph_first.result c.deref.result.now list c.orph_first.ensures c.requires.geometry.leb_size
    (same ∙ c.in_ok-lay_list.ensures.bytes ∙ ap B (wide ∙ c.list_size-size.ensures.size)) (subst H (sym same) c.in_ok-lay_list.ensures.has) c.change.ensures.works

pub returns-clause-works : goal.returns-clause-works
returns-clause-works g c =
    let inos = c.args.inos.now in
    let number = c.args.sqnum.now + c.node_count.result in
    let list : OrphanList = record { cmt_no = c.args.cmt_no; sqnum = number; inos = inos } in
    let same : c.deref.result.now ≡ c.lay_list.new.out = c.deref.ensures.value ∙ take_at _ _ _ (search rules) in
    let wide : length c.deref_mut.result.now ≡ c.list_size-size.result = search rules in
    let B : ℕ → List ℕ = λ n. list_bytes n c.args.cmt_no number inos in
    let H : List ℕ → Type 0 = λ bytes. (n : ℕ) → HasOrphans (filled n bytes) inos in
    list_works (raw_of c.args.geometry.now) (g.V.Volume.state c.args.volume.now) (g.V.Volume.state c.change.new.self) c.orph_first.result c.deref.result.now list c.orph_first.ensures c.requires.geometry.leb_size
    (same ∙ c.in_ok-lay_list.ensures.bytes ∙ ap B (wide ∙ c.list_size-size.ensures.size)) (subst H (sym same) c.in_ok-lay_list.ensures.has) c.change.ensures.works

pub returns-clause-answer : goal.returns-clause-answer
returns-clause-answer g c =
    let inos = c.args.inos.now in
    let number = c.args.sqnum.now + c.node_count.result in
    let list : OrphanList = record { cmt_no = c.args.cmt_no; sqnum = number; inos = inos } in
    let same : c.deref.result.now ≡ c.lay_list.new.out = c.deref.ensures.value ∙ take_at _ _ _ (search rules) in
    let wide : length c.deref_mut.result.now ≡ c.list_size-size.result = search rules in
    let B : ℕ → List ℕ = λ n. list_bytes n c.args.cmt_no number inos in
    let H : List ℕ → Type 0 = λ bytes. (n : ℕ) → HasOrphans (filled n bytes) inos in
    list_written (raw_of c.args.geometry.now) (g.V.Volume.state c.args.volume.now) (g.V.Volume.state c.change.new.self) c.orph_first.result c.deref.result.now list c.orph_first.ensures c.requires.geometry.leb_size
    (same ∙ c.in_ok-lay_list.ensures.bytes ∙ ap B (wide ∙ c.list_size-size.ensures.size)) (subst H (sym same) c.in_ok-lay_list.ensures.has) (ap length same ∙ c.lay_list.ensures.len ∙ wide ∙ c.list_size-size.ensures.size) c.in_ok-change.ensures.done

pub lay_list-requires-clause-room : goal.lay_list-requires-clause-room
lay_list-requires-clause-room g c = grind (Omega.arith, Grind.common_steps) steps 2000000

pub lay_list-requires-clause-size : goal.lay_list-requires-clause-size
lay_list-requires-clause-size g c = grind (Omega.arith, Grind.common_steps) steps 2000000

pub lay_list-requires-clause-words : goal.lay_list-requires-clause-words
lay_list-requires-clause-words g c = grind (Omega.arith, Grind.common_steps) steps 2000000

pub change-requires-clause-units : goal.change-requires-clause-units
change-requires-clause-units g c = grind (Omega.arith, Grind.common_steps) steps 2000000

pub change-requires-clause-range : goal.change-requires-clause-range
change-requires-clause-range g c = grind (Omega.arith, Grind.common_steps) steps 2000000

pub returns-clause-sure : goal.returns-clause-sure
returns-clause-sure g c = grind (Omega.arith, Grind.common_steps) steps 2000000

pub returns-clause-cause : goal.returns-clause-cause
returns-clause-cause g c = grind (Omega.arith, Grind.common_steps) steps 2000000
