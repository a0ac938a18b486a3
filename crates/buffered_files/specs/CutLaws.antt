-- What follows of cuts over several calls.
use Rattle.std.proofs.Common.{◌≡◌, ℕ, List, [], ◌∷◌, ◌++◌, refl, sym, subst, inl, inr, append_assoc, append-nil}
use Rattle.std.specs.Prelude.{◌⊎◌, Result, Ok, Err}
use Rattle.std.specs.List.{AllByRecursion}
use Rattle.fs_model.specs.declared.change.Change.{Change}
use Rattle.fs_model.specs.declared.refusal.Refusal.{Refusal}
use Rattle.fs_model.specs.declared.refusal.Refusal.TheVariants.{Eio}
use Rattle.fs_model.specs.Files.{Tree}
use Rattle.fs_model.specs.Journal.{Journal, Leaves}
use Rattle.fs_model.specs.JournalLaws.{Leaves-none, Leaves-then}
use Rattle.buffered_files.specs.Cuts.{TreePlace, Value, Values, value_at, replayed_on, GroupFate, GivesOnly, IsLastPut, PutsOnly, PutsWith, ValuesOf, ValuesWith, group_fate, refused_fate}
use Rattle.buffered_files.specs.Cuts.GroupFate.{NotPut}

-- these values are among those
abbrev pub AreAmong : Values → Values → Type 0
AreAmong few all = (place : TreePlace) (value : Value) → few place value → all place value

all_among : (few all : Values) → AreAmong few all → (puts : List (ℕ × List Change)) → AllByRecursion (λ put. GivesOnly few put.1) puts → AllByRecursion (λ put. GivesOnly all put.1) puts
all_among few all among [] h = h
all_among few all among (put ∷ puts) h = (λ tree place order. by tree place (h.0 tree place order), all_among few all among puts h.1)
  where
    by : (tree : Tree) (place : TreePlace) → (value_at (replayed_on tree put.1) place ≡ value_at tree place) ⊎ few place (value_at (replayed_on tree put.1) place)
        → (value_at (replayed_on tree put.1) place ≡ value_at tree place) ⊎ all place (value_at (replayed_on tree put.1) place)
    by tree place (inl same) = inl same
    by tree place (inr one) = inr (among place (value_at (replayed_on tree put.1) place) one)

all_both : (values : Values) (first second : List (ℕ × List Change)) → AllByRecursion (λ put. GivesOnly values put.1) first → AllByRecursion (λ put. GivesOnly values put.1) second → AllByRecursion (λ put. GivesOnly values put.1) (first ++ second)
all_both values [] second h k = k
all_both values (put ∷ first) second h k = (h.0, all_both values first second h.1 k)

-- nothing was put
pub Puts-none : (values : Values) (a : Journal) → PutsOnly values a a
Puts-none values a = record { puts = []; gives = tt; cut = Leaves-none a }

-- a call that puts nothing
pub Puts-nothing : (values : Values) (a b : Journal) → Leaves a b [] → PutsOnly values a b
Puts-nothing values a b cut = record { puts = []; gives = tt; cut = cut }

-- one call after another
pub Puts-then : (values : Values) (a b c : Journal) → PutsOnly values a b → PutsOnly values b c → PutsOnly values a c
Puts-then values a b c first second = record {
  puts = first.puts ++ second.puts;
  gives = all_both values first.puts second.puts first.gives second.gives;
  cut = Leaves-then a b c first.puts second.puts first.cut second.cut;
}

-- what puts some values puts no others than more
pub Puts-among : (few all : Values) (a b : Journal) → AreAmong few all → PutsOnly few a b → PutsOnly all a b
Puts-among few all a b among first = record { puts = first.puts; gives = all_among few all among first.puts first.gives; cut = first.cut }

-- a refusal tells of no group that was put, unless the volume failed
pub Refused-none : (refusal : Refusal) (group : List Change) → IsLastPut (refused_fate refusal) group []
Refused-none (Eio count) group = inl refl
Refused-none refusal group = refl

-- and neither does an answer where nothing changes
pub Answered-none : {T : Type 0} (result : Result T Refusal) (group : List Change) → group ≡ [] → IsLastPut (group_fate result) group []
Answered-none (Ok x) group none = inr (none, refl)
Answered-none (Err refusal) group none = Refused-none refusal group

-- no group was put after pages
pub Puts-with : (tree : Tree) (group : List Change) (fate : GroupFate) (a b : Journal) → IsLastPut fate group [] → PutsOnly (ValuesOf tree) a b → PutsWith tree group fate a b
Puts-with tree group fate a b none first = record {
  pages = first.puts;
  gives = first.gives;
  last = [];
  whole = none;
  makes = tt;
  cut = subst (λ (puts : List (ℕ × List Change)). Leaves a b puts) (sym (append-nil first.puts)) first.cut;
}

-- where it wasn't put, nothing else was put than the values of the tree
pub Puts-refused : (tree : Tree) (group : List Change) (a b : Journal) → PutsWith tree group NotPut a b → PutsOnly (ValuesOf tree) a b
Puts-refused tree group a b both = record {
  puts = both.pages;
  gives = both.gives;
  cut = subst (λ (puts : List (ℕ × List Change)). Leaves a b puts) (append-nil both.pages) (subst (λ (last : List (ℕ × List Change)). Leaves a b (both.pages ++ last)) both.whole both.cut);
}

-- with a group nothing else was put than the values of the tree and of what the group makes of it
pub Puts-all : (tree : Tree) (group : List Change) (fate : GroupFate) (a b : Journal) → PutsWith tree group fate a b → PutsOnly (ValuesWith tree group) a b
Puts-all tree group fate a b both = record {
  puts = both.pages ++ both.last;
  gives = all_both (ValuesWith tree group) both.pages both.last (all_among (ValuesOf tree) (ValuesWith tree group) (λ place value one. inl one) both.pages both.gives) both.makes;
  cut = both.cut;
}

-- a group was put after pages, on files that have no other values
pub Puts-last : (tree now : Tree) (group : List Change) (fate : GroupFate) (a b c : Journal) → AreAmong (ValuesOf now) (ValuesOf tree) → AreAmong (ValuesWith now group) (ValuesWith tree group)
    → PutsOnly (ValuesOf tree) a b → PutsWith now group fate b c → PutsWith tree group fate a c
Puts-last tree now group fate a b c among with_group first second = record {
  pages = first.puts ++ second.pages;
  gives = all_both (ValuesOf tree) first.puts second.pages first.gives (all_among (ValuesOf now) (ValuesOf tree) among second.pages second.gives);
  last = second.last;
  whole = second.whole;
  makes = all_among (ValuesWith now group) (ValuesWith tree group) with_group second.last second.makes;
  cut = subst (λ (puts : List (ℕ × List Change)). Leaves a c puts) (sym (append_assoc first.puts second.pages second.last)) (Leaves-then a b c first.puts (second.pages ++ second.last) first.cut second.cut);
}
