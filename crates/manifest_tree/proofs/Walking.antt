-- A walk goes on from what was found, and ends where nothing is.
use Rattle.std.proofs.Common.{◌≡◌, ℕ, Some, None, Result, Ok, Err, List, [], ◌∷◌, refl, ap}
use Rattle.fs_model.specs.declared.inode.Entry.{Entry}
use Rattle.fs_model.specs.declared.refusal.Refusal.{Refusal}
use Rattle.fs_model.specs.Files.{Tree}
use Rattle.fs_model.specs.Path.{child, reached}
use Rattle.manifest_tree.specs.Places.{entry_found}

-- nothing is found behind a refusal
pub never_found : (tree : Tree) (refusal : Refusal) (names : List (List ℕ)) → entry_found (reached tree (Err refusal) names) ≡ None
never_found tree refusal [] = refl
never_found tree refusal (name ∷ names) = never_found tree refusal names

lost_here : (tree : Tree) (r : Result Entry Refusal) (names : List (List ℕ)) → entry_found r ≡ None → entry_found (reached tree r names) ≡ None
lost_here tree (Err refusal) names e = never_found tree refusal names
lost_here tree (Ok entry) names e = absurd cc

pub walk_lost : (tree : Tree) (at : Entry) (name : List ℕ) (names all : List (List ℕ)) → all ≡ name ∷ names → entry_found (child tree name (Ok at)) ≡ None → entry_found (reached tree (Ok at) all) ≡ None
walk_lost tree at name names all e h = rw e (lost_here tree (child tree name (Ok at)) names h)

-- what was found is where the walk goes on
pub found_ok : (r : Result Entry Refusal) (entry : Entry) → entry_found r ≡ Some entry → r ≡ Ok entry
found_ok (Err refusal) entry e = absurd cc
found_ok (Ok other) entry e = let same : other ≡ entry = cc in ap Ok same

pub walk_on : (tree : Tree) (at next : Entry) (name : List ℕ) (names all : List (List ℕ)) → all ≡ name ∷ names → entry_found (child tree name (Ok at)) ≡ Some next → reached tree (Ok next) names ≡ reached tree (Ok at) all
walk_on tree at next name names all e h = rw (e, found_ok (child tree name (Ok at)) next h) refl
