-- What keeps an index where it stands.
use Rattle.std.proofs.Common.{refl, ◌≡◌, ℕ, ◌+◌, ◌-◌, ◌<◌, ◌≤◌, true, List, [], ◌∷◌, ◌++◌, length, take, drop, ap, sym, ◌∙◌, subst, arith, inl, inr, length-drop, length-take, drop-drop}
use Rattle.std.specs.Prelude.{None, All, map, ◌==◌, ◌||◌, nat_le}
use Rattle.std.specs.List.{AllByRecursion, list_all}
use Rattle.std.proofs.lemmas.Bool.{cases_eq, or_cases, and_parts, leb-true, eq-eqb}
use Rattle.std.proofs.lemmas.List.{drop-take, take-take}
use Rattle.std.proofs.lemmas.List.Elements.{recursion_from_All}
use Rattle.media_sys.specs.Index.{Index}
use Rattle.media_sys.specs.SystemNode.{index, IsSystemNode}
use Rattle.media_sys.specs.declared.branch.Branch.{Branch}
use Rattle.index_media.specs.Keys.{AreBounded}
use Rattle.index_tree.specs.Shape.{fits}
use Rattle.index_media.specs.PlacedRow.{PlacedRow, ended, leaf_at, node_at, branches_of, all_nodes, lebs_of, node_end, is_apart, is_apart_from, plain, Stretch}
use Rattle.index_media.specs.Stored.{IsIndexNodeAt, AreStored, IsStoredIndex, AreChangedAt}
use Rattle.index_media.proofs.Lens.{node_len, index_length}

-- what a branch leads to in old contents, it leads to in new ones
abbrev pub Keeps : (ℕ → List ℕ) → (ℕ → List ℕ) → Branch → Type 0
Keeps old new branch = (said : Index) → IsIndexNodeAt old branch said → IsIndexNodeAt new branch said

pub split : {X : Type 0} (P : X → Type 0) (xs ys : List X) → AllByRecursion P (xs ++ ys) → AllByRecursion P xs × AllByRecursion P ys
split P [] ys h = (tt, h)
split P (x ∷ xs) ys h = let rest = split P xs ys h.1 in ((h.0, rest.0), rest.1)

pub stored_moves : (old new : ℕ → List ℕ) (levels : ℕ) (row : PlacedRow) → AllByRecursion (λ branch. Keeps old new branch) (all_nodes row) → AreStored old levels row → AreStored new levels row
unfolding AreStored
stored_moves old new levels ended k h = tt
stored_moves old new levels (leaf_at x rest) k h = (h.0, stored_moves old new levels rest k h.1)
stored_moves old new levels (node_at branch children rest) k h =
    let parts = split (λ one. Keeps old new one) (all_nodes children) (all_nodes rest) k.1 in
    (h.0, k.0 (record { level = levels - 1; branches = branches_of children }) h.1, stored_moves old new (levels - 1) children parts.0 h.2, stored_moves old new levels rest parts.1 h.3)

pub index_moves : (old new : ℕ → List ℕ) (fanout : ℕ) (root : Branch) (placed : PlacedRow) → AllByRecursion (λ branch. Keeps old new branch) (all_nodes placed)
    → IsStoredIndex old fanout root placed → IsStoredIndex new fanout root placed
index_moves old new fanout root placed k h = record {
  children = h.children;
  whole = h.whole;
  levels = h.levels;
  stored = stored_moves old new h.levels placed k h.stored;
  fits = h.fits;
  bounded = h.bounded;
}

-- a LEB that has the same bytes at a place is as long there
as_long : (a b : List ℕ) (offs len : ℕ) → 0 < len → take len (drop offs a) ≡ take len (drop offs b) → offs + len ≤ length b → offs + len ≤ length a
as_long a b offs len some same room =
    let la = length-take len (drop offs a) in
    let lb = length-take len (drop offs b) in
    let da = length-drop offs a in
    let db = length-drop offs b in
    let e = ap length same in
    grind (arith, la, lb, da, db, e, some, room)

same_bytes : (old new : ℕ → List ℕ) (branch : Branch) → take branch.len (drop branch.offs (new branch.lnum)) ≡ take branch.len (drop branch.offs (old branch.lnum)) → Keeps old new branch
same_bytes old new branch same said h =
    let len = node_len old branch said h in
    let some : 0 < branch.len = omega (arith, len) in
    let P : List ℕ → Type 0 = λ bytes. IsSystemNode bytes h.sqnum h.group (index said) in
    record {
      sqnum = h.sqnum;
      group = h.group;
      room = as_long (new branch.lnum) (old branch.lnum) branch.offs branch.len some same h.room;
      is = subst P (sym same) h.is;
    }

same_leb : (old new : ℕ → List ℕ) (branch : Branch) → new branch.lnum ≡ old branch.lnum → Keeps old new branch
same_leb old new branch e = same_bytes old new branch (ap (λ (leb : List ℕ). take branch.len (drop branch.offs leb)) e)

keep_lebs : (old new : ℕ → List ℕ) (nodes : List Branch) → AllByRecursion (λ k. new k ≡ old k) (map (λ branch. branch.lnum) nodes) → AllByRecursion (λ branch. Keeps old new branch) nodes
keep_lebs old new [] h = tt
keep_lebs old new (branch ∷ nodes) h = (same_leb old new branch h.0, keep_lebs old new nodes h.1)

pub lebs_alone : (old new : ℕ → List ℕ) (fanout : ℕ) (root : Branch) (placed : PlacedRow) → All (λ k. new k ≡ old k) (lebs_of placed) → IsStoredIndex old fanout root placed → IsStoredIndex new fanout root placed
lebs_alone old new fanout root placed same h =
    index_moves old new fanout root placed (keep_lebs old new (all_nodes placed) (recursion_from_All (λ k. new k ≡ old k) (lebs_of placed) same)) h

-- a part of the beginning
same_part : (a b : List ℕ) (end place n : ℕ) → take end a ≡ take end b → place + n ≤ end → take n (drop place a) ≡ take n (drop place b)
same_part a b end place n same room =
    sym (drop-take place n a) ∙ ap (drop place) (sym (take-take (place + n) end a room) ∙ ap (take (place + n)) same ∙ take-take (place + n) end b room) ∙ drop-take place n b

-- a part of what is behind
same_rest : (a b : List ℕ) (start place n : ℕ) → drop start a ≡ drop start b → start ≤ place → take n (drop place a) ≡ take n (drop place b)
same_rest a b start place n same after =
    let e : start + (place - start) ≡ place = omega (arith, after) in
    let P : ℕ → Type 0 = λ p. take n (drop p a) ≡ take n (drop p b) in
    subst P e (ap (take n) (sym (drop-drop (place - start) start a) ∙ ap (drop (place - start)) same ∙ drop-drop (place - start) start b))

-- a node in a LEB that is changed elsewhere
kept_beside : (old new : ℕ → List ℕ) (place : Stretch) (branch : Branch) → AreChangedAt old new place → branch.lnum ≡ place.lnum
    → (nat_le (node_end (place.offs + place.len)) branch.offs || nat_le (node_end (branch.offs + branch.len)) place.offs) ≡ true → Keeps old new branch
kept_beside old new place branch c e apart =
    let P : ℕ → Type 0 = λ k. take branch.len (drop branch.offs (new k)) ≡ take branch.len (drop branch.offs (old k)) in
    same_bytes old new branch (subst P (sym e) (elim (or_cases (nat_le (node_end (place.offs + place.len)) branch.offs) (nat_le (node_end (branch.offs + branch.len)) place.offs) apart) [
      | inl behind ↦ same_rest (new place.lnum) (old place.lnum) (node_end (place.offs + place.len)) branch.offs branch.len c.behind (leb-true (node_end (place.offs + place.len)) branch.offs behind)
      | inr before ↦
          let ends = leb-true (node_end (branch.offs + branch.len)) place.offs before in
          same_part (new place.lnum) (old place.lnum) place.offs branch.offs branch.len c.before (omega (arith, ends))
    ]))

kept_apart : (old new : ℕ → List ℕ) (place : Stretch) (branch : Branch) → AreChangedAt old new place → is_apart place branch ≡ true → Keeps old new branch
kept_apart old new place branch c apart = elim (cases_eq branch.lnum place.lnum) [
  | inr other ↦ same_leb old new branch (c.others branch.lnum other)
  | inl e ↦
      let same : (place.lnum == branch.lnum) ≡ true = eq-eqb place.lnum branch.lnum (sym e) in
      kept_beside old new place branch c e (rw same at apart)
]

keep_apart : (old new : ℕ → List ℕ) (place : Stretch) (nodes : List Branch) → AreChangedAt old new place → list_all (λ branch. is_apart place branch) nodes ≡ true → AllByRecursion (λ branch. Keeps old new branch) nodes
keep_apart old new place [] c apart = tt
keep_apart old new place (branch ∷ nodes) c apart =
    let both = and_parts (is_apart place branch) (list_all (λ one. is_apart place one) nodes) apart in
    (kept_apart old new place branch c both.0, keep_apart old new place nodes c both.1)

pub row_stays : (old new : ℕ → List ℕ) (place : Stretch) (levels : ℕ) (row : PlacedRow) → AreChangedAt old new place → is_apart_from place row ≡ true → AreStored old levels row → AreStored new levels row
row_stays old new place levels row c apart h = stored_moves old new levels row (keep_apart old new place (all_nodes row) c apart) h

pub index_stays : (old new : ℕ → List ℕ) (place : Stretch) (root : Branch) (fanout : ℕ) (placed : PlacedRow) → AreChangedAt old new place → is_apart_from place placed ≡ true
    → IsStoredIndex old fanout root placed → IsStoredIndex new fanout root placed
index_stays old new place root fanout placed c apart h = index_moves old new fanout root placed (keep_apart old new place (all_nodes placed) c apart) h

-- a node above children that stand
pub parent_stands : (old new : ℕ → List ℕ) (changed : Stretch) (place : Branch) (levels : ℕ) (row : PlacedRow) → AreChangedAt old new changed → is_apart_from changed row ≡ true → AreStored old levels row
    → IsIndexNodeAt new place (record { level = levels; branches = branches_of row }) → AreStored new (levels + 1) (node_at place row ended)
unfolding AreStored
parent_stands old new changed place levels row c apart h node =
    let e : levels + 1 - 1 ≡ levels = omega arith in
    let P : ℕ → Type 0 = λ n. IsIndexNodeAt new place (record { level = n; branches = branches_of row }) in
    let Q : ℕ → Type 0 = λ n. AreStored new n row in
    (omega arith, subst P (sym e) node, subst Q (sym e) (row_stays old new changed levels row c apart h), tt)

-- a root above children that stand
pub root_stands : (old new : ℕ → List ℕ) (changed : Stretch) (place : Branch) (fanout levels : ℕ) (row : PlacedRow) → AreChangedAt old new changed → is_apart_from changed row ≡ true → AreStored old levels row
    → IsIndexNodeAt new place (record { level = levels; branches = branches_of row }) → fits fanout (plain (node_at place row ended)) ≡ true → AreBounded 0 None (node_at place row ended)
    → IsStoredIndex new fanout place (node_at place row ended)
root_stands old new changed place fanout levels row c apart h node full bounded = record {
  children = row;
  whole = refl;
  levels = levels + 1;
  stored = parent_stands old new changed place levels row c apart h node;
  fits = full;
  bounded = bounded;
}

-- nodes of one level beside each other
pub beside : (media : ℕ → List ℕ) (levels : ℕ) (branch : Branch) (row rest : PlacedRow) → AreStored media levels (node_at branch row ended) → AreStored media levels rest → AreStored media levels (node_at branch row rest)
unfolding AreStored
beside media levels branch row rest h others = (h.0, h.1, h.2, others)

-- a node that was written
pub node_written : (media : ℕ → List ℕ) (place : Branch) (said : Index) (sqnum group : ℕ) (bytes : List ℕ) → IsSystemNode bytes sqnum group (index said) → place.len ≡ length bytes
    → take place.len (drop place.offs (media place.lnum)) ≡ bytes → IsIndexNodeAt media place said
node_written media place said sqnum group bytes is len there =
    let leb = media place.lnum in
    let size = index_length bytes sqnum group said is in
    let some : 0 < length bytes = omega (arith, size) in
    let taken = length-take place.len (drop place.offs leb) in
    let left = length-drop place.offs leb in
    let same : length (take place.len (drop place.offs leb)) ≡ length bytes = ap length there in
    let P : List ℕ → Type 0 = λ part. IsSystemNode part sqnum group (index said) in
    record { sqnum = sqnum; group = group; room = grind (arith, some, taken, left, same, len); is = subst P (sym there) is }
