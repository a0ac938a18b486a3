-- A running commit keeps the LEBs that it took.
use Rattle.std.proofs.Common.{◌≡◌, ◌⊎◌, ℕ, Bool, true, List, [], ◌∷◌, ◌++◌, length, map, refl, sym, ap, ◌∙◌, inl, inr, Option, Some, None}
use Rattle.std.proofs.lemmas.Bool.{and_from}
use Rattle.std.proofs.lemmas.List.Folds.{list_all-append}
use Rattle.std.specs.Prelude.{◌&&◌, ◌||◌, fold}
use Rattle.std.specs.List.{list_all}
use Rattle.std.specs.Option.{option_map}
use Rattle.media_lpt.specs.declared.leb_kind.LebKind.{LebKind}
use Rattle.media_lpt.specs.declared.leb_kind.LebKind.TheVariants as kind
use Rattle.store_model.specs.Events.{after_part, credit, drop_inode, granted, in_next, new_bud, open_leb, paid, Part, Payment, put, Putting, sync}
use Rattle.store_model.specs.Heads.{with_head_group}
use Rattle.store_model.specs.Invariant.{AreRolesApart, IsTaking}
use Rattle.store_model.specs.Lebs.{has_role, is_among}
use Rattle.store_model.specs.Store.{Bud, StoreIndex, Next, IndexNodePlace, Store}
use Rattle.store_model.proofs.LebCounts.{part_rows, sync_rows}
use Rattle.store_model.proofs.LebDrops.{dropped_store}
use Rattle.store_model.proofs.LebFrees.{keeps_bud, freed_number, freed_row, freed_rows, keeps_index, keeps_taken, synced_store}
use Rattle.store_model.proofs.LebOpens.{opened_bud, open_keeps, open_lebs, open_row}
use Rattle.store_model.proofs.LebPuts.{buds_pass}
use Rattle.store_model.proofs.LebRows.{Row, all_weaker, has_row, role_row, row_kept, rows, to_rows}
use Rattle.store_model.proofs.RecoveryCopies.{either_of}
use Rattle.store_model.proofs.RecoveryOrder.{or_left, or_right}

-- LEBs with this role have it still
abbrev pub Keeps : LebKind → Store → Store → Type 0
Keeps role m k = (lnum : ℕ) → has_role role m.lebs lnum ≡ true → has_role role k.lebs lnum ≡ true

-- buds that are changed so are buds
abbrev pub KeepsBuds : (List Bud → List Bud) → Store → Store → Type 0
KeepsBuds change m k = (buds : List Bud) → list_all (λ bud. has_role kind.Bud m.lebs bud.lnum) buds ≡ true → list_all (λ bud. has_role kind.Bud k.lebs bud.lnum) (change buds) ≡ true

some_more : (a b c : Bool) → (a ≡ true → b ≡ true) → (a || c) ≡ true → (b || c) ≡ true
some_more a b c more h = by (either_of a c h)
  where
    by : (a ≡ true) ⊎ (c ≡ true) → (b || c) ≡ true
    by (inl e) = or_left b c (more e)
    by (inr e) = or_right b c e

pub taking_buds : (change : List Bud → List Bud) (n : ℕ) (m k : Store) (next : Option Next) → Keeps kind.Taken m k → Keeps kind.Index m k → KeepsBuds change m k → IsTaking m next → IsTaking k (option_map (in_next change n) next)
taking_buds change n m k None taken index buds t = tt
taking_buds change n m k (Some next) taken index buds t = (
  all_weaker (has_role kind.Taken m.lebs) (has_role kind.Taken k.lebs) taken next.taken t.0,
  all_weaker (λ (place : IndexNodePlace). has_role kind.Index m.lebs place.lnum || is_among next.taken place.lnum) (λ place. has_role kind.Index k.lebs place.lnum || is_among next.taken place.lnum)
      (λ place h. some_more (has_role kind.Index m.lebs place.lnum) (has_role kind.Index k.lebs place.lnum) (is_among next.taken place.lnum) (index place.lnum) h) next.view.places t.1,
  t.2,
  buds next.view.buds t.3,
  t.4,
  t.5,
)

pub taking_same : (m k : Store) (next : Option Next) → Keeps kind.Taken m k → Keeps kind.Index m k → Keeps kind.Bud m k → IsTaking m next → IsTaking k next
taking_same m k None taken index buds t = tt
taking_same m k (Some next) taken index buds t = (
  all_weaker (has_role kind.Taken m.lebs) (has_role kind.Taken k.lebs) taken next.taken t.0,
  all_weaker (λ (place : IndexNodePlace). has_role kind.Index m.lebs place.lnum || is_among next.taken place.lnum) (λ place. has_role kind.Index k.lebs place.lnum || is_among next.taken place.lnum)
      (λ place h. some_more (has_role kind.Index m.lebs place.lnum) (has_role kind.Index k.lebs place.lnum) (is_among next.taken place.lnum) (index place.lnum) h) next.view.places t.1,
  t.2,
  all_weaker (λ (bud : Bud). has_role kind.Bud m.lebs bud.lnum) (λ bud. has_role kind.Bud k.lebs bud.lnum) (λ bud h. buds bud.lnum h) next.view.buds t.3,
  t.4,
  t.5,
)

-- what the rows of LEBs say
pub of_rows : (role : LebKind) (m k : Store) (g : Row → Row) → rows k.lebs ≡ map g (rows m.lebs) → ((lnum : ℕ) → has_row role (rows m.lebs) lnum ≡ true → has_row role (map g (rows m.lebs)) lnum ≡ true) → Keeps role m k
of_rows role m k g same keeps lnum h =
    role_row role k.lebs lnum ∙ ap (λ (rs : List Row). has_row role rs lnum) same ∙ keeps lnum (sym (role_row role m.lebs lnum) ∙ h)

pub of_same : (role : LebKind) (m k : Store) → rows k.lebs ≡ rows m.lebs → Keeps role m k
of_same role m k same lnum h = role_row role k.lebs lnum ∙ ap (λ (rs : List Row). has_row role rs lnum) same ∙ sym (role_row role m.lebs lnum) ∙ h

part_buds : (m : Store) (part : Part) → KeepsBuds (with_head_group part.head part.group) m (after_part m part)
part_buds m part buds h =
    buds_pass (λ bud. has_role kind.Bud (after_part m part).lebs bud.lnum) (λ bud groups. refl) part.head part.group buds
    ∙ all_weaker (λ (bud : Bud). has_role kind.Bud m.lebs bud.lnum) (λ bud. has_role kind.Bud (after_part m part).lebs bud.lnum) (λ bud e. of_same kind.Bud m (after_part m part) (part_rows m part) bud.lnum e) buds h

pub part_taking : (m : Store) (part : Part) → IsTaking m m.next → IsTaking (after_part m part) (after_part m part).next
part_taking m part t =
    taking_buds (with_head_group part.head part.group) (length part.group) m (after_part m part) m.next (of_same kind.Taken m (after_part m part) (part_rows m part)) (of_same kind.Index m (after_part m part) (part_rows m part)) (part_buds m part) t

parts_taking : (parts : List Part) (m : Store) → IsTaking m m.next → IsTaking (fold after_part m parts) (fold after_part m parts).next
parts_taking [] m t = t
parts_taking (part ∷ parts) m t = parts_taking parts (after_part m part) (part_taking m part t)

pub put_taking : (m : Store) (p : Putting) → IsTaking m m.next → IsTaking (put p m) (put p m).next
put_taking m p t = by p.payment (parts_taking p.parts m t)
  where
    end : Store
    end = fold after_part m p.parts

    by : (payment : Payment) → IsTaking end end.next → IsTaking (record (paid payment end) { index = p.index }) (record (paid payment end) { index = p.index }).next
    by credit t = taking_same end (record (paid credit end) { index = p.index }) end.next (λ n h. h) (λ n h. h) (λ n h. h) t
    by granted t = taking_same end (record (paid granted end) { index = p.index }) end.next (λ n h. h) (λ n h. h) (λ n h. h) t

pub open_taking : (m : Store) (head lnum : ℕ) → has_role kind.Free m.lebs lnum ≡ true → AreRolesApart m → IsTaking m m.next → IsTaking (open_leb head lnum m) (open_leb head lnum m).next
open_taking m head lnum empty a t =
    let k : Store = open_leb head lnum m in
    let r = to_rows m a in
    let free = sym (role_row kind.Free m.lebs lnum) ∙ empty in
    let old : Keeps kind.Bud m k = of_rows kind.Bud m k (open_row lnum) (open_lebs m head lnum) (λ n h. open_keeps kind.Bud lnum n (rows m.lebs) r.numbers free refl h) in
    let new : has_role kind.Bud k.lebs lnum ≡ true = role_row kind.Bud k.lebs lnum ∙ ap (λ (rs : List Row). has_row kind.Bud rs lnum) (open_lebs m head lnum) ∙ opened_bud kind.Free lnum (rows m.lebs) free in
    let more : KeepsBuds (λ buds. buds ++ new_bud head lnum 0 ∷ []) m k = λ buds h. list_all-append (λ (bud : Bud). has_role kind.Bud k.lebs bud.lnum) buds (new_bud head lnum 0 ∷ [])
    ∙ and_from (list_all (λ (bud : Bud). has_role kind.Bud k.lebs bud.lnum) buds) (has_role kind.Bud k.lebs lnum && true)
    (all_weaker (λ (bud : Bud). has_role kind.Bud m.lebs bud.lnum) (λ bud. has_role kind.Bud k.lebs bud.lnum) (λ bud e. old bud.lnum e) buds h) (and_from (has_role kind.Bud k.lebs lnum) true new refl) in
    taking_buds (λ buds. buds ++ new_bud head lnum 0 ∷ []) 0 m k m.next
    (of_rows kind.Taken m k (open_row lnum) (open_lebs m head lnum) (λ n h. open_keeps kind.Taken lnum n (rows m.lebs) r.numbers free refl h))
    (of_rows kind.Index m k (open_row lnum) (open_lebs m head lnum) (λ n h. open_keeps kind.Index lnum n (rows m.lebs) r.numbers free refl h)) more t

pub sync_taking : (m : Store) → IsTaking m m.next → IsTaking (sync m) (sync m).next
sync_taking m t =
    let g : Row → Row = freed_row (synced_store m) in
    taking_same m (sync m) m.next
    (of_rows kind.Taken m (sync m) g (sync_rows m) (λ n h. row_kept kind.Taken g (freed_number (synced_store m)) (keeps_taken (synced_store m)) (rows m.lebs) n h))
    (of_rows kind.Index m (sync m) g (sync_rows m) (λ n h. row_kept kind.Index g (freed_number (synced_store m)) (keeps_index (synced_store m)) (rows m.lebs) n h))
    (of_rows kind.Bud m (sync m) g (sync_rows m) (λ n h. row_kept kind.Bud g (freed_number (synced_store m)) (keeps_bud (synced_store m)) (rows m.lebs) n h)) t

pub drop_taking : (m : Store) (ino : ℕ) (index : StoreIndex) → IsTaking m m.next → IsTaking (drop_inode ino index m) (drop_inode ino index m).next
drop_taking m ino index t =
    let k : Store = dropped_store ino index m in
    let g : Row → Row = freed_row k in
    taking_same m (drop_inode ino index m) m.next
    (of_rows kind.Taken m (drop_inode ino index m) g (freed_rows k m.lebs) (λ n h. row_kept kind.Taken g (freed_number k) (keeps_taken k) (rows m.lebs) n h))
    (of_rows kind.Index m (drop_inode ino index m) g (freed_rows k m.lebs) (λ n h. row_kept kind.Index g (freed_number k) (keeps_index k) (rows m.lebs) n h))
    (of_rows kind.Bud m (drop_inode ino index m) g (freed_rows k m.lebs) (λ n h. row_kept kind.Bud g (freed_number k) (keeps_bud k) (rows m.lebs) n h)) t
