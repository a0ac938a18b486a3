-- From which offset on each LEB is named.
use Rattle.std.specs.Prelude.{◌≡◌, ℕ, nat_le, is_some, min, Bool, false, List, Option, Some, None}
use Rattle.std.specs.BTreeMap.{BTreeMap, get}
use Rattle.std.specs.Ordering.{nat_cmp}
use Rattle.index_tree.specs.declared.leaf.Leaf.{Leaf}
use Rattle.leaf_map.specs.Parts.{Named, in_bud, is_named}

-- the lower of two offsets, if there is a second one
abbrev pub lower : ℕ → Option ℕ → ℕ
lower from None = from
lower from (Some other) = min from other

-- whether a leaf's place is at an offset or behind it, if there is one
abbrev pub is_from : Leaf → Option ℕ → Bool
is_from leaf None = false
is_from leaf (Some from) = nat_le from leaf.offs

-- whether a leaf's place is named
abbrev pub in_named : BTreeMap ℕ ℕ → Leaf → Bool
in_named named leaf = is_from leaf (get nat_cmp named leaf.lnum)

-- A map names the LEBs and the places that these references name.
pub record IsNamed (references : List Named) (named : BTreeMap ℕ ℕ) : Type 0 where
  pub bud : (leaf : Leaf) → in_named named leaf ≡ in_bud references leaf
  pub leb : (lnum : ℕ) → is_some (get nat_cmp named lnum) ≡ is_named references lnum
