-- What a put makes of the numbers of a store.
use Rattle.std.proofs.Common.{◌≡◌, ◌≤◌, ◌+◌, ℕ, suc, Bool, true, false, cond, List, [], ◌∷◌, ◌++◌, map, refl, sym, subst, ap, arith, ◌∙◌, Option, Some, None}
use Rattle.std.specs.Prelude.{◌==◌, fold, length, sum_by}
use Rattle.std.specs.Option.{option_map_or}
use Rattle.std.proofs.lemmas.List.{length-append}
use Rattle.std.proofs.lemmas.List.Sums.{sum_by-cons}
use Rattle.media_lpt.specs.declared.leb_kind.LebKind.{LebKind}
use Rattle.media_lpt.specs.declared.leb_kind.LebKind.TheVariants as kind
use Rattle.index_tree.specs.Shape.{shape_weight}
use Rattle.fs_model.specs.declared.space.Grant.{Grant}
use Rattle.leaf_map.specs.LeafMap.{IsLeafMap}
use Rattle.space_sums.specs.Spaces.{IsAfterGroup, IsAfterPage}
use Rattle.store_model.specs.Events.{Part, Payment, after_part, credit, end_at, granted, nodes_len, paid, with_items}
use Rattle.store_model.specs.Lebs.{is_role, role_count, space_of, weight_of}
use Rattle.store_model.specs.Legal.{AreLegalParts, IsPaid, need_of_grant, nodes_of_parts}
use Rattle.store_model.specs.Store.{At, Carried, StoreIndex, Item, leaf, Leb, Store}
use Rattle.store_model.proofs.Bytes.{ByteLaw, parts_bytes}
use Rattle.store_model.proofs.Puts.{KeptLaw}

-- the LEBs with their roles
abbrev pub uses : List Leb → List (ℕ × LebKind)
uses lebs = map (λ leb. (leb.lnum, leb.role)) lebs

more_items : (lnum : ℕ) (items : List Item) (lebs : List Leb) → uses (with_items lnum items lebs) ≡ uses lebs
more_items lnum items [] = refl
more_items lnum items (leb ∷ lebs) = by (leb.lnum == lnum) (more_items lnum items lebs)
  where
    by : (b : Bool) → uses (with_items lnum items lebs) ≡ uses lebs → uses (cond b (record leb { text = leb.text ++ items }) leb ∷ with_items lnum items lebs) ≡ uses (leb ∷ lebs)
    by true same = ap (λ rest. (leb.lnum, leb.role) ∷ rest) same
    by false same = ap (λ rest. (leb.lnum, leb.role) ∷ rest) same

part_uses : (m : Store) (part : Part) → uses (after_part m part).lebs ≡ uses m.lebs
part_uses m part = by (end_at m.ends part.head)
  where
    by : (end : Option At) → uses (option_map_or (λ at. with_items at.lnum (map leaf (map (λ c. c.placed) part.group)) m.lebs) end m.lebs) ≡ uses m.lebs
    by None = refl
    by (Some at) = more_items at.lnum (map leaf (map (λ c. c.placed) part.group)) m.lebs

pub parts_uses : (parts : List Part) (m : Store) → uses (fold after_part m parts).lebs ≡ uses m.lebs
parts_uses [] m = refl
parts_uses (part ∷ parts) m = parts_uses parts (after_part m part) ∙ part_uses m part

pub paid_uses : (payment : Payment) (m : Store) → uses (paid payment m).lebs ≡ uses m.lebs
paid_uses credit m = refl
paid_uses granted m = refl

-- ---- numbers
count_uses : (role : LebKind) (lebs : List Leb) → role_count role lebs ≡ sum_by (λ (u : ℕ × LebKind). cond (is_role role u.1) 1 0) (uses lebs)
count_uses role [] = refl
count_uses role (leb ∷ lebs) =
    sum_by-cons (λ (x : Leb). cond (is_role role x.role) 1 0) leb lebs
    ∙ ap (λ n. cond (is_role role leb.role) 1 0 + n) (count_uses role lebs)
    ∙ sym (sum_by-cons (λ (u : ℕ × LebKind). cond (is_role role u.1) 1 0) (leb.lnum, leb.role) (uses lebs))

-- LEBs with the same roles count the same
pub same_count : (role : LebKind) (a b : List Leb) → uses a ≡ uses b → role_count role a ≡ role_count role b
same_count role a b same = count_uses role a ∙ ap (λ us. sum_by (λ (u : ℕ × LebKind). cond (is_role role u.1) 1 0) us) same ∙ sym (count_uses role b)

length_uses : (lebs : List Leb) → length (uses lebs) ≡ length lebs
length_uses [] = refl
length_uses (leb ∷ lebs) = ap (λ n. suc n) (length_uses lebs)

pub same_length : (a b : List Leb) → uses a ≡ uses b → length a ≡ length b
same_length a b same = sym (length_uses a) ∙ ap (λ us. length us) same ∙ length_uses b

pub length_carried : (group : List Carried) → length (map (λ c. c.placed) group) ≡ length group
length_carried [] = refl
length_carried (c ∷ group) = ap (λ n. suc n) (length_carried group)

-- the nodes put count as weight
pub parts_weight : (parts : List Part) (m : Store) → (fold after_part m parts).now.put ≡ m.now.put + length (nodes_of_parts parts)
parts_weight [] m = omega arith
parts_weight (part ∷ parts) m =
    let rest = parts_weight parts (after_part m part) in
    let both = length-append (map (λ c. c.placed) part.group) (nodes_of_parts parts) in
    omega (arith, rest, both, length_carried part.group)

pub parts_shape : (parts : List Part) (m : Store) → (fold after_part m parts).now.shape ≡ m.now.shape
parts_shape [] m = refl
parts_shape (part ∷ parts) m = parts_shape parts (after_part m part)

pub parts_geo : (parts : List Part) (m : Store) → (fold after_part m parts).geo ≡ m.geo
parts_geo [] m = refl
parts_geo (part ∷ parts) m = parts_geo parts (after_part m part)

pub parts_credits : (parts : List Part) (m : Store) → (fold after_part m parts).credits ≡ m.credits
parts_credits [] m = refl
parts_credits (part ∷ parts) m = parts_credits parts (after_part m part)

-- the numbers of a put, by what pays
pub weight_put : (parts : List Part) (m : Store) → weight_of (fold after_part m parts).geo (fold after_part m parts).now ≡ weight_of m.geo m.now + length (nodes_of_parts parts)
weight_put parts m =
    let same : shape_weight (fold after_part m parts).geo.fanout (fold after_part m parts).now.shape ≡ shape_weight m.geo.fanout m.now.shape
    = rw (parts_geo parts m, parts_shape parts m) refl in
    omega (arith, same, parts_weight parts m)

-- a put that a credit pays for
pub page : ByteLaw → KeptLaw → (m : Store) (parts : List Part) (index : StoreIndex) → AreLegalParts m parts → IsLeafMap m.live → IsPaid m credit (nodes_of_parts parts)
    → IsAfterPage (space_of m) (space_of (record (paid credit (fold after_part m parts)) { index = index }))
page law keeps m parts index are leaves pays = record {
  bytes = omega (arith, parts_bytes law keeps parts m are leaves, pays.2);
  credits = omega (arith, parts_credits parts m, pays.0);
  weight = omega (arith, weight_put parts m, pays.1);
  index = same_count kind.Index (fold after_part m parts).lebs m.lebs (parts_uses parts m);
  main = same_length (fold after_part m parts).lebs m.lebs (parts_uses parts m);
}

-- a put of what was granted
pub group : ByteLaw → KeptLaw → (m : Store) (parts : List Part) (index : StoreIndex) (grant : Grant) → AreLegalParts m parts → IsLeafMap m.live → length (nodes_of_parts parts) ≤ grant.nodes → nodes_len (nodes_of_parts parts) ≤ grant.bytes
    → IsAfterGroup (need_of_grant grant) (space_of m) (space_of (record (paid granted (fold after_part m parts)) { index = index }))
group law keeps m parts index grant are leaves nodes bytes = record {
  bytes = omega (arith, parts_bytes law keeps parts m are leaves, bytes);
  credits = parts_credits parts m;
  weight = omega (arith, weight_put parts m, nodes);
  index = same_count kind.Index (fold after_part m parts).lebs m.lebs (parts_uses parts m);
  main = same_length (fold after_part m parts).lebs m.lebs (parts_uses parts m);
}

-- whatever pays, where it is a credit
pub by_credit : ByteLaw → KeptLaw → (m : Store) (parts : List Part) (index : StoreIndex) (payment : Payment) → AreLegalParts m parts → IsLeafMap m.live → IsPaid m payment (nodes_of_parts parts) → payment ≡ credit
    → IsAfterPage (space_of m) (space_of (record (paid payment (fold after_part m parts)) { index = index }))
by_credit law keeps m parts index credit are leaves pays same = page law keeps m parts index are leaves pays
by_credit law keeps m parts index granted are leaves pays same = absurd cc

-- or what was granted
pub by_grant : ByteLaw → KeptLaw → (m : Store) (parts : List Part) (index : StoreIndex) (grant : Grant) (payment : Payment) → AreLegalParts m parts → IsLeafMap m.live → IsPaid m payment (nodes_of_parts parts) → payment ≡ granted → m.grant ≡ Some grant
    → IsAfterGroup (need_of_grant grant) (space_of m) (space_of (record (paid payment (fold after_part m parts)) { index = index }))
by_grant law keeps m parts index grant credit are leaves pays same given = absurd cc
by_grant law keeps m parts index grant granted are leaves (other, is, nodes, bytes) same given =
    let both : Some other ≡ Some grant = sym is ∙ given in
    let one : other ≡ grant = cc in
    group law keeps m parts index grant are leaves
    (subst (λ (g : Grant). length (nodes_of_parts parts) ≤ g.nodes) one nodes)
    (subst (λ (g : Grant). nodes_len (nodes_of_parts parts) ≤ g.bytes) one bytes)
