-- The story of a tree on which nothing was put.
use Rattle.std.proofs.Common.{◌≡◌, ℕ, Bool, true, false, cond, List, [], ◌∷◌, Option, Some, None, refl, sym, ap, ◌∙◌, inl, inr, arith}
use Rattle.std.specs.Prelude.{◌==◌, filter}
use Rattle.std.specs.BTreeMap.{is_at}
use Rattle.std.specs.List.Sorted.{IsStrictlySortedBy}
use Rattle.std.specs.Map.{lookup, keys_of}
use Rattle.std.specs.Option.{option_map_or}
use Rattle.std.specs.Ordering.{nat_cmp, is_lt}
use Rattle.std.specs.declared.cmp.Ordering.{Ordering}
use Rattle.std.proofs.lemmas.Bool.{and_from}
use Rattle.fs_model.specs.declared.inode.Inode.{Inode}
use Rattle.fs_model.specs.Files.{Tree, Inodes, inode_at}
use Rattle.fs_model.specs.Orphan.{nameless, without_nameless}
use Rattle.fs_model.specs.Proper.{ascends, IsInOrder}
use Rattle.fs_laws.specs.Forgotten.{found_inode, forgotten_in_order, forgotten_twice}
use Rattle.fs_laws.specs.Maps.{apart, missing_first, tail_ascends, key_cases}
use Rattle.fs_laws.specs.Orders.{numbers}
use Rattle.plain_backing.specs.Story.{IsStory, opened_story}

-- keys that are sorted ascend
pub sorted_ascends : {K : Type 0} (cmp : K → K → Ordering) (keys : List K) → IsStrictlySortedBy cmp keys → ascends cmp keys ≡ true
unfolding IsStrictlySortedBy
sorted_ascends cmp [] s = refl
sorted_ascends cmp (key ∷ []) s = refl
sorted_ascends cmp (key ∷ next ∷ keys) s = and_from (is_lt (cmp key next)) (ascends cmp (next ∷ keys)) (ap is_lt s.0.0) (sorted_ascends cmp (next ∷ keys) s.1)

-- whether an inode that may be there has no name
abbrev has_no_name : Option Inode → Bool
has_no_name o = option_map_or (λ (inode : Inode). inode.nlink == 0) o false

-- where no inode is found that has no name, there is none
none_found : (inodes : Inodes) → ascends nat_cmp (keys_of inodes) ≡ true → ((q : ℕ) → has_no_name (lookup (is_at (nat_cmp q)) inodes) ≡ false) → keys_of (filter (λ e. e.1.nlink == 0) inodes) ≡ []
none_found [] h each = refl
none_found (e ∷ inodes) h each = by (e.1.nlink == 0) here (none_found inodes (tail_ascends nat_cmp inodes e h) rest)
  where
    here : (e.1.nlink == 0) ≡ false
    here = let f = each e.0 in rw (numbers.same e.0) at f

    rest : (q : ℕ) → has_no_name (lookup (is_at (nat_cmp q)) inodes) ≡ false
    rest q = elim (key_cases nat_cmp numbers q e.0) [
      | inl same ↦ rw same (ap has_no_name (missing_first nat_cmp numbers inodes e h))
      | inr other ↦ let f = each q in rw (apart nat_cmp numbers q e.0 other) at f
    ]

    by : (b : Bool) → b ≡ false → keys_of (filter (λ e. e.1.nlink == 0) inodes) ≡ [] → keys_of (cond b (e ∷ filter (λ e. e.1.nlink == 0) inodes) (filter (λ e. e.1.nlink == 0) inodes)) ≡ []
    by true t more = absurd cc
    by false t more = more

not_found : (o : Option Inode) → has_no_name (cond (has_no_name o) None o) ≡ false
not_found None = refl
not_found (Some inode) = by (inode.nlink == 0) refl
  where
    by : (b : Bool) → (inode.nlink == 0) ≡ b → has_no_name (cond b None (Some inode)) ≡ false
    by true e = refl
    by false e = e

-- once all is forgotten that has no name, each inode has one
forgotten_named : (tree : Tree) → IsInOrder tree → nameless (without_nameless tree) ≡ []
forgotten_named tree h = none_found (without_nameless tree).inodes (forgotten_in_order tree h).inodes (λ q. ap has_no_name (found_inode tree q h) ∙ not_found (inode_at tree q))

pub open_done : (tree : Tree) → IsInOrder tree → IsStory tree (opened_story tree)
open_done tree h = record {
  in_order = h;
  three = refl;
  parted = record { long = refl; low = refl; high = refl; above = omega arith };
  given = refl;
  began = refl;
  named = forgotten_named tree h;
  ordered = forgotten_in_order tree h;
  keeps = (omega arith, omega arith, (omega arith, omega arith, (omega arith, omega arith, tt)));
  left = sym (forgotten_twice tree h);
}
