use Rattle.std.proofs.Common.{ℕ, List, ap, ◌∙◌}
use Rattle.std.specs.Prelude.{slice_get}
use Rattle.index_media.specs.Clean.{is_clean_row, placed_of}
use Rattle.index_cache.specs.Paged.{fanout_of, frozen_of}
use Rattle.index_commit.specs.Standing.{IsOutside}
use Rattle.index_commit.proofs.Whole.{IsFrozenIndex, root_of}
use Rattle.index_commit.proofs.root.committed_root.Goals as goal
use Rattle.node_cache.specs.CleanRows.{all_is_clean}

pub returns-in-Some-clause-clean : goal.returns-in-Some-clause-clean
returns-in-Some-clause-clean c =
    let bad = c.in-Some.ensures.first ∙ ap (λ (numbers : List ℕ). slice_get numbers 0) c.requires.none in
    absurd cc

pub returns-in-Some-clause-root : goal.returns-in-Some-clause-root
returns-in-Some-clause-root c =
    let bad = c.in-Some.ensures.first ∙ ap (λ (numbers : List ℕ). slice_get numbers 0) c.requires.none in
    absurd cc

pub returns-in-None-clause-root : goal.returns-in-None-clause-root
returns-in-None-clause-root c = λ contents lebs out.
    let index = c.args.index.now in
    let branch = c.frozen_branch.ensures in
    let is : IsFrozenIndex (fanout_of index) (frozen_of index) = record {
      clean = ap is_clean_row c.in-None.ensures.none ∙ all_is_clean (placed_of (frozen_of index));
      fits = branch.fits;
      whole = branch.whole;
      levels = branch.levels;
      bounded = branch.sound.bounded;
    } in
    root_of contents (IsOutside lebs) (fanout_of index) (frozen_of index) is out c.frozen_branch.result branch.first
