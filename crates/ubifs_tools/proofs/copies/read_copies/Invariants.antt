use Rattle.std.proofs.Common.{List, ℕ, ◌++◌, length}
use Rattle.ubifs_tools.specs.Copies.{AreCopiesTold, ComesTo, FilesStay}
use Rattle.ubifs_tools.proofs.copies.read_copies.Given as goal

-- what is read of those that are left makes all of it, behind what was read so far; and what they come to, all come to
abbrev pub invariant-reading : goal.invariant-reading
invariant-reading g l =
    let old = g.K.Keeper.state l.fn.keeper in
    record {
      stay : FilesStay old (g.K.Keeper.state l.keeper);
      told : (rest : List (List ℕ)) → AreCopiesTold old l.left rest → AreCopiesTold old l.copied (l.files.items ++ rest);
      comes : (name : List ℕ) → ComesTo old l.left name → ComesTo old l.copied name;
    }

abbrev pub decreases-reading : goal.decreases-reading
decreases-reading g l = length l.left
