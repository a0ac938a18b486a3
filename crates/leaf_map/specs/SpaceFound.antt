-- What a mount counts of the main area once it has recovered.
use Rattle.std.specs.Prelude.{ℕ, ◌+◌, ◌==◌, ◌&&◌, ◌||◌, not, Bool, false, List, filter, length, count_by, Option}
use Rattle.std.specs.List.{find, list_all, list_any}
use Rattle.std.specs.Option.{option_map_or}
use Rattle.fs_model.specs.declared.space.Space.{Space}
use Rattle.leaf_map.specs.After.{used_by}
use Rattle.leaf_map.specs.Kept.{Kept}
use Rattle.leaf_map.specs.Parts.{Named, Parts, is_named}
use Rattle.leaf_map.specs.Recovered.{recovered_of}

-- the LEBs of the main area, lowest first; those in which nodes of the committed index stand; and that index's weight
pub record MainAreaFound : Type 0 where
  pub lebs : List ℕ
  pub indexed : List ℕ
  pub weight : ℕ

-- whether a node of the index stands in a LEB
abbrev pub is_indexed : MainAreaFound → ℕ → Bool
is_indexed area lnum = list_any (λ n. n == lnum) area.indexed

-- whether neither the index nor a leaf stands in a LEB
abbrev pub is_bare_leb : MainAreaFound → List Kept → ℕ → Bool
is_bare_leb area kept lnum = not (is_indexed area lnum) && not (list_any (λ x. x.leaf.lnum == lnum) kept)

-- whether the log names a LEB for head 0 alone, the collector's
abbrev pub is_collectors : List Named → ℕ → Bool
is_collectors named lnum = is_named named lnum && list_all (λ b. not (b.lnum == lnum) || (b.head == 0)) named

-- the lowest LEB that the collector opened and in which nothing stands
abbrev pub opened_in_vain : MainAreaFound → List Named → List Kept → Option ℕ
opened_in_vain area named kept = find (λ lnum. is_bare_leb area kept lnum && is_collectors named lnum) area.lebs

-- A LEB counts as empty in which nothing stands, if the log doesn't name it. The lowest that the collector opened in vain counts too, so that an unfinished collection costs no empty LEB.
abbrev pub counts_as_empty : MainAreaFound → List Named → List Kept → ℕ → Bool
counts_as_empty area named kept lnum =
    is_bare_leb area kept lnum && (not (is_named named lnum) || option_map_or (λ n. n == lnum) (opened_in_vain area named kept) false)

-- the empty LEBs
abbrev pub empty_lebs : MainAreaFound → Parts → List ℕ
empty_lebs area parts = filter (counts_as_empty area parts.named (recovered_of parts).kept) area.lebs

-- The numbers that admission reckons with after a mount: nothing is held and no credit is granted. The weight is that of the committed index and a node for each one that was applied.
abbrev pub space_found : MainAreaFound → Parts → Space
space_found area parts = record {
  used = used_by (recovered_of parts).kept;
  held = 0;
  credits = 0;
  empty = length (empty_lebs area parts);
  index = count_by (is_indexed area) area.lebs;
  weight = area.weight + (recovered_of parts).nodes;
  main = length area.lebs;
}
