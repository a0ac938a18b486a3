-- Where no node that shows nothing stands at a committed leaf's place, all listed inodes without links go.
use Rattle.std.proofs.Common.{◌≡◌, ℕ, Bool, true, false, not, ◌&&◌, List, [], ◌∷◌, refl, ap}
use Rattle.std.specs.Prelude.{filter}
use Rattle.std.specs.List.{list_any}
use Rattle.std.specs.Option.{option_map_or}
use Rattle.leaf_map.specs.Allowed.{FitsLeaves, IsReadLeaf}
use Rattle.leaf_map.specs.Kept.{Kept, Placed}
use Rattle.leaf_map.specs.Parts.{Committed, Parts, has_links, is_linked_unknown}
use Rattle.leaf_map.specs.Recovered.{listed_left}
use Rattle.leaf_map.proofs.FoundLeaves.{pairs_of}
use Rattle.leaf_map.proofs.Walk.{Pairs}

never : (b : Bool) → (b && false) ≡ false
never true = refl
never false = refl

none_unknown : (parts : Parts) (ino : ℕ) (ks : List Kept) (cs : List Committed) → Pairs (IsReadLeaf parts) ks cs → list_any (is_linked_unknown parts.named ino) cs ≡ false
none_unknown parts ino [] [] h = refl
none_unknown parts ino [] (c ∷ cs) h = absurd h
none_unknown parts ino (x ∷ ks) [] h = absurd h
none_unknown parts ino (x ∷ ks) (c ∷ cs) (pair, more) =
    rw (pair.known, never (option_map_or (λ (found : Placed). has_links ino found.node) c.found false)) (none_unknown parts ino ks cs more)

all_stay : (listed : List ℕ) (test : ℕ → Bool) → ((ino : ℕ) → test ino ≡ false) → filter (λ ino. not (test ino)) listed ≡ listed
all_stay [] test none = refl
all_stay (ino ∷ listed) test none = rw (none ino) (ap (λ (inos : List ℕ). ino ∷ inos) (all_stay listed test none))

pub all_left : (parts : Parts) (kept : List Kept) → FitsLeaves parts kept → listed_left parts ≡ parts.listed
all_left parts kept fits = all_stay parts.listed (λ ino. list_any (is_linked_unknown parts.named ino) parts.committed) (λ ino. none_unknown parts ino kept parts.committed (pairs_of parts kept parts.committed fits.read))
