-- What was granted stays covered: of the numbers that admission reckons with, no event raises more than was paid for.
use Rattle.std.proofs.Common.{◌≡◌, ◌≤◌, ◌+◌, ◌∙◌, ℕ, suc, arith, Bool, true, false, cond, List, [], ◌∷◌, length, map, refl, sym, ap, subst, Option, Some, None}
use Rattle.std.specs.Prelude.{◌==◌, fold, get_or}
use Rattle.std.specs.List.{AllByRecursion, flat_map, list_all}
use Rattle.std.proofs.lemmas.Bool.{eqb-true}
use Rattle.media_lpt.specs.declared.leb_kind.LebKind.{LebKind}
use Rattle.media_lpt.specs.declared.leb_kind.LebKind.TheVariants as kind
use Rattle.ubifs_base.specs.declared.raw_geometry.RawGeometry.{RawGeometry}
use Rattle.fs_model.specs.declared.space.Grant.{Grant}
use Rattle.fs_model.specs.declared.space.Need.{Need}
use Rattle.fs_model.specs.declared.space.Space.{Space}
use Rattle.fs_model.specs.Settled.{IsCovered}
use Rattle.space_budget.specs.Books.{AreGrantsCovered, next_group_need}
use Rattle.space_sums.specs.Spaces.{HasRoom, IsAfterGroup, IsAfterPage, IsNoMore}
use Rattle.store_model.specs.Backing.{book_of}
use Rattle.store_model.specs.Events.{after_part, credit, drop_inode, free_victim, granted, node_items, open_leb, paid, Part, Payment, put, Putting, start, sync, view_branchings, write_index}
use Rattle.store_model.specs.Invariant.{AreRolesApart}
use Rattle.store_model.specs.Lebs.{has_role, is_among, is_role, space_of}
use Rattle.store_model.specs.Legal.{CanStart, IsPaid, need_of_grant, nodes_of_parts}
use Rattle.store_model.specs.Store.{StoreIndex, Leb, Moving, Next, Store}
use Rattle.store_model.proofs.LebCollections.{free_row, free_rows}
use Rattle.store_model.proofs.LebCounts.{count_rows, drop_index, open_index, row_count, sync_index, sync_rows}
use Rattle.store_model.proofs.LebDrops.{dropped_store}
use Rattle.store_model.proofs.LebEnds.{set_rows}
use Rattle.store_model.proofs.LebFrees.{freed_rows}
use Rattle.store_model.proofs.LebOpens.{open_lebs}
use Rattle.store_model.proofs.LebRows.{IsRowIn, Row, all_in, all_weaker, has_row, one_role, role_row, rows, to_rows, victim_row}
use Rattle.store_model.proofs.LebStarts.{take_row, take_rows, taken_free}
use Rattle.store_model.proofs.PutSums.{parts_geo}

-- ---- LEBs
rows_length : (lebs : List Leb) → length (rows lebs) ≡ length lebs
rows_length [] = refl
rows_length (leb ∷ lebs) = ap (λ n. suc n) (rows_length lebs)

mapped_length : (g : Row → Row) (rs : List Row) → length (map g rs) ≡ length rs
mapped_length g [] = refl
mapped_length g (r ∷ rs) = ap (λ n. suc n) (mapped_length g rs)

-- rows that are changed are as many
same_main : (g : Row → Row) (a b : List Leb) → rows a ≡ map g (rows b) → length a ≡ length b
same_main g a b e = sym (rows_length a) ∙ ap (λ (rs : List Row). length rs) e ∙ mapped_length g (rows b) ∙ rows_length b

-- and as many have a role, where none gets it or loses it
same_roles : (role : LebKind) (g : Row → Row) (all : List Row) → ((r : Row) → IsRowIn all r → is_role role (g r).1 ≡ is_role role r.1) → (rs : List Row) → AllByRecursion (IsRowIn all) rs → row_count role (map g rs) ≡ row_count role rs
same_roles role g all same [] at = refl
same_roles role g all same (r ∷ rs) at =
    ap (λ (b : Bool). cond b (1 + row_count role (map g rs)) (row_count role (map g rs))) (same r at.0) ∙ ap (λ (n : ℕ). cond (is_role role r.1) (1 + n) n) (same_roles role g all same rs at.1)

role_same : (role : LebKind) (g : Row → Row) (a b : List Leb) → rows a ≡ map g (rows b) → ((r : Row) → IsRowIn (rows b) r → is_role role (g r).1 ≡ is_role role r.1) → row_count role (rows a) ≡ row_count role (rows b)
role_same role g a b e same = ap (row_count role) e ∙ same_roles role g (rows b) same (rows b) (all_in (rows b))

pub start_index : (m : Store) (taken : List ℕ) → CanStart m taken → AreRolesApart m → (space_of (start taken m)).index ≡ (space_of m).index
start_index m taken can a =
    count_rows kind.Index (start taken m).lebs ∙ role_same kind.Index (take_row taken) (start taken m).lebs m.lebs (take_rows taken m.lebs) (λ r there. by r there (is_among taken r.0) refl) ∙ sym (count_rows kind.Index m.lebs)
  where
    free : list_all (has_row kind.Free (rows m.lebs)) taken ≡ true
    free = all_weaker (has_role kind.Free m.lebs) (has_row kind.Free (rows m.lebs)) (λ n h. sym (role_row kind.Free m.lebs n) ∙ h) taken can.empty

    by : (r : Row) → IsRowIn (rows m.lebs) r → (b : Bool) → is_among taken r.0 ≡ b → is_role kind.Index (cond {A = Row} b (r.0, kind.Taken) r).1 ≡ is_role kind.Index r.1
    by r there true e = ap (is_role kind.Index) (one_role kind.Free r.1 (rows m.lebs) r.0 (to_rows m a).numbers (taken_free (rows m.lebs) taken r.0 free e) there)
    by r there false e = refl

pub free_index : (m : Store) (moving : Moving) → m.moving ≡ Some moving → AreRolesApart m → (space_of (free_victim m (Some moving))).index ≡ (space_of m).index
free_index m moving is a =
    count_rows kind.Index (free_victim m (Some moving)).lebs
    ∙ role_same kind.Index (free_row moving.victim) (free_victim m (Some moving)).lebs m.lebs (free_rows moving.victim m.lebs) (λ r there. by r there (r.0 == moving.victim) refl) ∙ sym (count_rows kind.Index m.lebs)
  where
    leaf : has_row kind.Leaf (rows m.lebs) moving.victim ≡ true
    leaf = subst (λ (o : Option Moving). victim_row (rows m.lebs) o ≡ true) is (to_rows m a).victim

    by : (r : Row) → IsRowIn (rows m.lebs) r → (b : Bool) → (r.0 == moving.victim) ≡ b → is_role kind.Index (cond {A = Row} b (r.0, kind.Free) r).1 ≡ is_role kind.Index r.1
    by r there true e =
        let here = subst (λ (n : ℕ). has_row kind.Leaf (rows m.lebs) n ≡ true) (sym (eqb-true r.0 moving.victim e)) leaf in
        ap (is_role kind.Index) (one_role kind.Leaf r.1 (rows m.lebs) r.0 (to_rows m a).numbers here there)
    by r there false e = refl

-- ---- what was granted
abbrev pub NoMoreLaw : Type 0
NoMoreLaw = (geo : RawGeometry) (old new : Space) (need : Need) → IsNoMore old new → HasRoom geo old need → HasRoom geo new need

abbrev pub PageLaw : Type 0
PageLaw = (geo : RawGeometry) (old new : Space) (grant : Need) → IsAfterPage old new → HasRoom geo old grant → HasRoom geo new grant

abbrev pub GroupLaw : Type 0
GroupLaw = (geo : RawGeometry) (old new : Space) (grant : Need) → IsAfterGroup grant old new → HasRoom geo old grant → IsCovered geo new

covered_still : NoMoreLaw → (m k : Store) → k.geo ≡ m.geo → k.grant ≡ m.grant → IsNoMore (space_of m) (space_of k) → AreGrantsCovered (book_of m) → AreGrantsCovered (book_of k)
covered_still law m k geo grant less c = record {
  room = subst (λ (g : RawGeometry). HasRoom g (space_of k) (next_group_need k.grant)) (sym geo) (subst (λ (o : Option Grant). HasRoom m.geo (space_of k) (next_group_need o)) (sym grant) (law m.geo (space_of m) (space_of k) (next_group_need m.grant) less c.room));
}

pub open_covered : NoMoreLaw → (m : Store) (head lnum : ℕ) → has_role kind.Free m.lebs lnum ≡ true → AreRolesApart m → AreGrantsCovered (book_of m) → AreGrantsCovered (book_of (open_leb head lnum m))
open_covered law m head lnum empty a = covered_still law m (open_leb head lnum m) refl refl (record {
  bytes = omega arith;
  credits = refl;
  weight = omega arith;
  index = open_index m head lnum empty a;
  main = same_main _ (open_leb head lnum m).lebs m.lebs (open_lebs m head lnum);
})

pub sync_covered : NoMoreLaw → (m : Store) → AreGrantsCovered (book_of m) → AreGrantsCovered (book_of (sync m))
sync_covered law m = covered_still law m (sync m) refl refl (record {
  bytes = (let held : (space_of (sync m)).held ≡ 0 = refl in let used : (space_of (sync m)).used ≡ (space_of m).used = refl in omega (arith, held, used));
  credits = refl;
  weight = omega arith;
  index = sync_index m;
  main = same_main _ (sync m).lebs m.lebs (sync_rows m);
})

pub drop_covered : NoMoreLaw → (m : Store) (ino : ℕ) (index : StoreIndex) → (space_of (drop_inode ino index m)).used + (space_of (drop_inode ino index m)).held ≤ (space_of m).used + (space_of m).held
    → AreGrantsCovered (book_of m) → AreGrantsCovered (book_of (drop_inode ino index m))
drop_covered law m ino index bytes = covered_still law m (drop_inode ino index m) refl refl (record {
  bytes = bytes;
  credits = refl;
  weight = omega arith;
  index = drop_index m ino index;
  main = same_main _ (drop_inode ino index m).lebs m.lebs (freed_rows (dropped_store ino index m) m.lebs);
})

pub start_covered : NoMoreLaw → (m : Store) (taken : List ℕ) → CanStart m taken → AreRolesApart m → AreGrantsCovered (book_of m) → AreGrantsCovered (book_of (start taken m))
start_covered law m taken can a = covered_still law m (start taken m) refl refl (record {
  bytes = omega arith;
  credits = refl;
  weight = omega arith;
  index = start_index m taken can a;
  main = same_main (take_row taken) (start taken m).lebs m.lebs (take_rows taken m.lebs);
})

pub free_covered : NoMoreLaw → (m : Store) (moving : Option Moving) → m.moving ≡ moving → AreRolesApart m → AreGrantsCovered (book_of m) → AreGrantsCovered (book_of (free_victim m moving))
free_covered law m None is a c = c
free_covered law m (Some moving) is a c = covered_still law m (free_victim m (Some moving)) refl refl (record {
  bytes = omega arith;
  credits = refl;
  weight = omega arith;
  index = free_index m moving is a;
  main = same_main (free_row moving.victim) (free_victim m (Some moving)).lebs m.lebs (free_rows moving.victim m.lebs);
}) c

-- ---- a put
pub page_covered : PageLaw → (m k : Store) → k.geo ≡ m.geo → k.grant ≡ m.grant → IsAfterPage (space_of m) (space_of k) → AreGrantsCovered (book_of m) → AreGrantsCovered (book_of k)
page_covered law m k geo grant after c = record {
  room = subst (λ (g : RawGeometry). HasRoom g (space_of k) (next_group_need k.grant)) (sym geo) (subst (λ (o : Option Grant). HasRoom m.geo (space_of k) (next_group_need o)) (sym grant) (law m.geo (space_of m) (space_of k) (next_group_need m.grant) after c.room));
}

pub group_covered : GroupLaw → (m k : Store) (grant : Grant) → k.geo ≡ m.geo → m.grant ≡ Some grant → k.grant ≡ None → IsAfterGroup (need_of_grant grant) (space_of m) (space_of k) → AreGrantsCovered (book_of m) → AreGrantsCovered (book_of k)
group_covered law m k grant geo given none after c =
    let old : HasRoom m.geo (space_of m) (need_of_grant grant) = subst (λ (o : Option Grant). HasRoom m.geo (space_of m) (next_group_need o)) given c.room in
    let fits : IsCovered k.geo (space_of k) = subst (λ (g : RawGeometry). IsCovered g (space_of k)) (sym geo) (law m.geo (space_of m) (space_of k) (need_of_grant grant) after old) in
    record { room = subst (λ (o : Option Grant). HasRoom k.geo (space_of k) (next_group_need o)) (sym none) (record { fits = fits.fits }) }

parts_grant : (parts : List Part) (m : Store) → (fold after_part m parts).grant ≡ m.grant
parts_grant [] m = refl
parts_grant (part ∷ parts) m = parts_grant parts (after_part m part)

put_geo : (m : Store) (p : Putting) → (put p m).geo ≡ m.geo
put_geo m p = by p.payment ∙ parts_geo p.parts m
  where
    by : (payment : Payment) → (paid payment (fold after_part m p.parts)).geo ≡ (fold after_part m p.parts).geo
    by credit = refl
    by granted = refl

-- a put, whatever pays
pub put_covered : PageLaw → GroupLaw → (m : Store) (p : Putting) → IsPaid m p.payment (nodes_of_parts p.parts) → (p.payment ≡ credit → IsAfterPage (space_of m) (space_of (put p m)))
    → ((grant : Grant) → p.payment ≡ granted → m.grant ≡ Some grant → IsAfterGroup (need_of_grant grant) (space_of m) (space_of (put p m))) → AreGrantsCovered (book_of m) → AreGrantsCovered (book_of (put p m))
put_covered pages groups m p pays page group c = by p.payment refl pays
  where
    end : Store
    end = fold after_part m p.parts

    by : (payment : Payment) → p.payment ≡ payment → IsPaid m payment (nodes_of_parts p.parts) → AreGrantsCovered (book_of (put p m))
    by credit e pays = page_covered pages m (put p m) (put_geo m p) (ap (λ (payment : Payment). (paid payment end).grant) e ∙ parts_grant p.parts m) (page e) c
    by granted e (grant, is, nodes, bytes) = group_covered groups m (put p m) grant (put_geo m p) is (ap (λ (payment : Payment). (paid payment end).grant) e) (group grant e is) c

-- ---- a LEB of a running commit is written
pub write_covered : NoMoreLaw → (m : Store) (next : Option Next) → AreGrantsCovered (book_of m) → AreGrantsCovered (book_of (write_index m next))
write_covered law m None c = c
write_covered law m (Some next) c =
    let k : Store = write_index m (Some next) in
    let lnum : ℕ = get_or next.taken next.written 0 in
    let same : rows k.lebs ≡ rows m.lebs = set_rows lnum (flat_map (node_items m.geo) (view_branchings next.view lnum m.sqnum)) m.lebs in
    covered_still law m k refl refl (record {
      bytes = omega arith;
      credits = refl;
      weight = omega arith;
      index = count_rows kind.Index k.lebs ∙ ap (row_count kind.Index) same ∙ sym (count_rows kind.Index m.lebs);
      main = sym (rows_length k.lebs) ∙ ap (λ (rs : List Row). length rs) same ∙ rows_length m.lebs;
    }) c
