-- What was put to buds is in the texts of their LEBs, where one LEB gets nodes, or none does.
use Rattle.std.proofs.Common.{◌≡◌, ◌≤◌, ℕ, ◌+◌, arith, Bool, true, false, cond, not, List, [], ◌∷◌, ◌++◌, map, refl, sym, ap, subst, ◌∙◌, Option, Some, None}
use Rattle.std.specs.Prelude.{◌==◌, ◌&&◌, ◌||◌, nat_le}
use Rattle.std.specs.List.{AllByRecursion, list_all, list_any}
use Rattle.std.specs.Option.{option_or}
use Rattle.std.proofs.lemmas.Bool.{and_parts, eqb-true, eq-eqb, false≢true}
use Rattle.std.proofs.lemmas.List.Elements.{filter-append}
use Rattle.leaf_map.specs.Kept.{Placed}
use Rattle.store_model.specs.Heads.{changed_last, has_bud}
use Rattle.store_model.specs.Invariant.{last_bud}
use Rattle.store_model.specs.Legal.{are_distinct}
use Rattle.store_model.specs.Store.{Bud, Item, leaf, Leb}
use Rattle.store_model.specs.Texts.{AreBudsIn, bud_nodes, IsBudIn, items_len, leaf_nodes, nodes_from, text_in}
use Rattle.store_model.proofs.BackingPuts.{has_last}
use Rattle.store_model.proofs.RecoveryCopies.{not_true}
use Rattle.store_model.proofs.RecoveryOrder.{or_left, or_right}
use Rattle.store_model.proofs.TextItems.{leaves_append, leaves_map, len_append}

abbrev pub bud_lnums : List Bud → List ℕ
bud_lnums buds = map (λ bud. bud.lnum) buds

-- ---- a LEB that gets no nodes
pub record KeepsNodes (old new : List Leb) (lnum : ℕ) : Type 0 where
  pub nodes : leaf_nodes (text_in new lnum) ≡ leaf_nodes (text_in old lnum)
  pub longer : items_len (text_in old lnum) ≤ items_len (text_in new lnum)

pub same_nodes : (old new : List Leb) (lnum : ℕ) → text_in new lnum ≡ text_in old lnum → KeepsNodes old new lnum
same_nodes old new lnum e = let n : items_len (text_in new lnum) ≡ items_len (text_in old lnum) = ap items_len e in record { nodes = ap leaf_nodes e; longer = omega (arith, n) }

pub bud_stays : (old new : List Leb) (bud : Bud) → KeepsNodes old new bud.lnum → IsBudIn old bud → IsBudIn new bud
bud_stays old new bud keeps b =
    let more = keeps.longer in
    let from = b.from in
    record { nodes = ap (nodes_from bud.from) keeps.nodes ∙ b.nodes; from = omega (arith, more, from) }

pub buds_stay : (old new : List Leb) (test : ℕ → Bool) (buds : List Bud) → ((k : ℕ) → test k ≡ true → KeepsNodes old new k) → list_all (λ bud. test bud.lnum) buds ≡ true
    → AllByRecursion (IsBudIn old) buds → AllByRecursion (IsBudIn new) buds
buds_stay old new test [] keeps h all = tt
buds_stay old new test (bud ∷ buds) keeps h all =
    let p = and_parts (test bud.lnum) (list_all (λ bud. test bud.lnum) buds) h in
    (bud_stays old new bud (keeps bud.lnum p.0) all.0, buds_stay old new test buds keeps p.1 all.1)

-- ---- LEBs of buds
pub turned : (a b : ℕ) → (a == b) ≡ false → (b == a) ≡ false
turned a b h = grind (arith)

-- a number among these isn't one that isn't
pub in_not : (n l : ℕ) (ls : List ℕ) → list_any (λ k. k == n) ls ≡ false → list_any (λ k. k == l) ls ≡ true → (l == n) ≡ false
in_not n l ls none some = by (l == n) refl
  where
    by : (b : Bool) → (l == n) ≡ b → b ≡ false
    by true e = absurd (false≢true (sym none ∙ subst (λ (i : ℕ). list_any (λ k. k == i) ls ≡ true) (eqb-true l n e) some))
    by false e = refl

pub none_there : (n : ℕ) (buds : List Bud) → list_any (λ k. k == n) (bud_lnums buds) ≡ false → list_all (λ bud. not (n == bud.lnum)) buds ≡ true
none_there n [] h = refl
none_there n (bud ∷ buds) h = by (none_there n buds) (bud.lnum == n) refl h
  where
    by : (list_any (λ k. k == n) (bud_lnums buds) ≡ false → list_all (λ bud. not (n == bud.lnum)) buds ≡ true) → (b : Bool) → (bud.lnum == n) ≡ b → (b || list_any (λ k. k == n) (bud_lnums buds)) ≡ false
        → list_all (λ bud. not (n == bud.lnum)) (bud ∷ buds) ≡ true
    by rest true e h = absurd (false≢true (sym h))
    by rest false e h = rw (turned bud.lnum n e) (rest h)

pub last_none : (head : ℕ) (buds : List Bud) → last_bud buds head ≡ None → has_bud head buds ≡ false
last_none head [] e = refl
last_none head (bud ∷ buds) e = by (last_none head buds) (last_bud buds head) refl (bud.head == head) refl e
  where
    by : (last_bud buds head ≡ None → has_bud head buds ≡ false) → (o : Option ℕ) → last_bud buds head ≡ o → (b : Bool) → (bud.head == head) ≡ b → option_or o (cond b (Some bud.lnum) None) ≡ None → has_bud head (bud ∷ buds) ≡ false
    by rest (Some l) o b m e = absurd cc
    by rest None o true m e = absurd cc
    by rest None o false m e = rw m (rest o)

pub last_in : (head l : ℕ) (buds : List Bud) → last_bud buds head ≡ Some l → list_any (λ k. k == l) (bud_lnums buds) ≡ true
last_in head l [] e = absurd cc
last_in head l (bud ∷ buds) e = by (last_in head l buds) (last_bud buds head) refl (bud.head == head) e
  where
    by : (last_bud buds head ≡ Some l → list_any (λ k. k == l) (bud_lnums buds) ≡ true) → (o : Option ℕ) → last_bud buds head ≡ o → (b : Bool) → option_or o (cond b (Some bud.lnum) None) ≡ Some l
        → ((bud.lnum == l) || list_any (λ k. k == l) (bud_lnums buds)) ≡ true
    by rest (Some k) o b e = or_right (bud.lnum == l) (list_any (λ k. k == l) (bud_lnums buds)) (rest (o ∙ e))
    by rest None o true e = let is : bud.lnum ≡ l = cc in or_left (bud.lnum == l) (list_any (λ k. k == l) (bud_lnums buds)) (eq-eqb bud.lnum l is)
    by rest None o false e = absurd cc

-- two heads are open in two LEBs
pub other_head : (a b la lb : ℕ) (buds : List Bud) → are_distinct (bud_lnums buds) ≡ true → (a == b) ≡ false → last_bud buds a ≡ Some la → last_bud buds b ≡ Some lb → (la == lb) ≡ false
other_head a b la lb [] d away ea eb = absurd cc
other_head a b la lb (bud ∷ buds) d away ea eb = by (λ x y. other_head a b la lb buds parts.1 away x y) (last_bud buds a) refl (last_bud buds b) refl (bud.head == a) refl (bud.head == b) refl ea eb
  where
    parts : (not (list_any (λ k. k == bud.lnum) (bud_lnums buds)) ≡ true) × (are_distinct (bud_lnums buds) ≡ true)
    parts = and_parts (not (list_any (λ k. k == bud.lnum) (bud_lnums buds))) (are_distinct (bud_lnums buds)) d

    none : list_any (λ k. k == bud.lnum) (bud_lnums buds) ≡ false
    none = not_true (list_any (λ k. k == bud.lnum) (bud_lnums buds)) parts.0

    by : (last_bud buds a ≡ Some la → last_bud buds b ≡ Some lb → (la == lb) ≡ false) → (oa : Option ℕ) → last_bud buds a ≡ oa → (ob : Option ℕ) → last_bud buds b ≡ ob → (ma : Bool) → (bud.head == a) ≡ ma → (mb : Bool) → (bud.head == b) ≡ mb
        → option_or oa (cond ma (Some bud.lnum) None) ≡ Some la → option_or ob (cond mb (Some bud.lnum) None) ≡ Some lb → (la == lb) ≡ false
    by rest (Some x) e (Some y) f ma m mb n ea eb = rest (e ∙ ea) (f ∙ eb)
    by rest (Some x) e None f ma m true n ea eb =
        let is : bud.lnum ≡ lb = cc in
        subst (λ (i : ℕ). (la == i) ≡ false) is (in_not bud.lnum la (bud_lnums buds) none (last_in a la buds (e ∙ ea)))
    by rest (Some x) e None f ma m false n ea eb = absurd cc
    by rest None e (Some y) f true m mb n ea eb =
        let is : bud.lnum ≡ la = cc in
        subst (λ (i : ℕ). (i == lb) ≡ false) is (turned lb bud.lnum (in_not bud.lnum lb (bud_lnums buds) none (last_in b lb buds (f ∙ eb))))
    by rest None e (Some y) f false m mb n ea eb = absurd cc
    by rest None e None f true m true n ea eb =
        let one : bud.head ≡ a = eqb-true bud.head a m in
        let two : bud.head ≡ b = eqb-true bud.head b n in
        absurd (false≢true (sym away ∙ eq-eqb a b (sym one ∙ two)))
    by rest None e None f true m false n ea eb = absurd cc
    by rest None e None f false m mb n ea eb = absurd cc

-- ---- a LEB that gets nodes
pub record Adds (old new : List Leb) (lnum : ℕ) (nodes : List Placed) : Type 0 where
  pub here : text_in new lnum ≡ text_in old lnum ++ map leaf nodes
  pub away : (k : ℕ) → (lnum == k) ≡ false → text_in new k ≡ text_in old k
  pub behind : list_all (λ p. nat_le (items_len (text_in old lnum)) p.offs) nodes ≡ true

-- the last bud of a head gets them
pub record PutsTo (head : ℕ) (change : Bud → Bud) (nodes : List Placed) : Type 0 where
  pub lnum : (bud : Bud) → (change bud).lnum ≡ bud.lnum
  pub from : (bud : Bud) → (change bud).from ≡ bud.from
  pub more : (bud : Bud) → (bud.head == head) ≡ true → bud_nodes (change bud) ≡ bud_nodes bud ++ nodes

passes : (from low n : ℕ) → from ≤ low → nat_le low n ≡ true → nat_le from n ≡ true
passes from low n a b = grind (arith)

all_pass : (from low : ℕ) (nodes : List Placed) → from ≤ low → list_all (λ p. nat_le low p.offs) nodes ≡ true → nodes_from from nodes ≡ nodes
all_pass from low [] a h = refl
all_pass from low (p ∷ nodes) a h =
    let q = and_parts (nat_le low p.offs) (list_all (λ p. nat_le low p.offs) nodes) h in
    rw (passes from low p.offs a q.0) (ap (λ (ns : List Placed). p ∷ ns) (all_pass from low nodes a q.1))

bud_grows : (old new : List Leb) (head lnum : ℕ) (change : Bud → Bud) (nodes : List Placed) (bud : Bud) → Adds old new lnum nodes → PutsTo head change nodes → (bud.head == head) ≡ true → bud.lnum ≡ lnum
    → IsBudIn old bud → IsBudIn new (change bud)
bud_grows old new head lnum change nodes bud adds puts mine here b = record {
  nodes = rw (puts.from bud, puts.lnum bud) (all ∙ ap (λ (ns : List Placed). ns ++ nodes) b.nodes ∙ sym (puts.more bud mine));
  from = rw (puts.from bud, puts.lnum bud) (let from = b.from in omega (arith, from, long));
}
  where
    text : text_in new bud.lnum ≡ text_in old bud.lnum ++ map leaf nodes
    text = subst (λ (n : ℕ). text_in new n ≡ text_in old n ++ map leaf nodes) (sym here) adds.here

    long : items_len (text_in new bud.lnum) ≡ items_len (text_in old bud.lnum) + items_len (map leaf nodes)
    long = ap items_len text ∙ len_append (text_in old bud.lnum) (map leaf nodes)

    behind : list_all (λ p. nat_le (items_len (text_in old bud.lnum)) p.offs) nodes ≡ true
    behind = subst (λ (n : ℕ). list_all (λ p. nat_le (items_len (text_in old n)) p.offs) nodes ≡ true) (sym here) adds.behind

    all : nodes_from bud.from (leaf_nodes (text_in new bud.lnum)) ≡ nodes_from bud.from (leaf_nodes (text_in old bud.lnum)) ++ nodes
    all =
        ap (λ (t : List Item). nodes_from bud.from (leaf_nodes t)) text
        ∙ ap (nodes_from bud.from) (leaves_append (text_in old bud.lnum) (map leaf nodes) ∙ ap (λ (ns : List Placed). leaf_nodes (text_in old bud.lnum) ++ ns) (leaves_map nodes))
        ∙ filter-append (λ (p : Placed). nat_le bud.from p.offs) (leaf_nodes (text_in old bud.lnum)) nodes
        ∙ ap (λ (ns : List Placed). nodes_from bud.from (leaf_nodes (text_in old bud.lnum)) ++ ns) (all_pass bud.from (items_len (text_in old bud.lnum)) nodes b.from behind)

buds_grow : (old new : List Leb) (head lnum : ℕ) (change : Bud → Bud) (nodes : List Placed) (buds : List Bud) → Adds old new lnum nodes → PutsTo head change nodes → are_distinct (bud_lnums buds) ≡ true
    → last_bud buds head ≡ Some lnum → AllByRecursion (IsBudIn old) buds → AllByRecursion (IsBudIn new) (changed_last head change buds)
buds_grow old new head lnum change nodes [] adds puts d last all = tt
buds_grow old new head lnum change nodes (bud ∷ buds) adds puts d last all = by (λ e. buds_grow old new head lnum change nodes buds adds puts parts.1 e all.1) (last_bud buds head) refl (bud.head == head) refl last
  where
    parts : (not (list_any (λ k. k == bud.lnum) (bud_lnums buds)) ≡ true) × (are_distinct (bud_lnums buds) ≡ true)
    parts = and_parts (not (list_any (λ k. k == bud.lnum) (bud_lnums buds))) (are_distinct (bud_lnums buds)) d

    none : list_any (λ k. k == bud.lnum) (bud_lnums buds) ≡ false
    none = not_true (list_any (λ k. k == bud.lnum) (bud_lnums buds)) parts.0

    others : bud.lnum ≡ lnum → AllByRecursion (IsBudIn new) buds
    others here = buds_stay old new (λ k. not (bud.lnum == k)) buds
        (λ k away. same_nodes old new k (adds.away k (subst (λ (i : ℕ). (i == k) ≡ false) here (not_true (bud.lnum == k) away)))) (none_there bud.lnum buds none) all.1

    deeper : AllByRecursion (IsBudIn new) (changed_last head change buds) → last_bud buds head ≡ Some lnum → AllByRecursion (IsBudIn new) (bud ∷ changed_last head change buds)
    deeper rest e = (
      bud_stays old new bud (same_nodes old new bud.lnum (adds.away bud.lnum (in_not bud.lnum lnum (bud_lnums buds) none (last_in head lnum buds e)))) all.0,
      rest,
    )

    by : (last_bud buds head ≡ Some lnum → AllByRecursion (IsBudIn new) (changed_last head change buds)) → (o : Option ℕ) → last_bud buds head ≡ o → (mine : Bool) → (bud.head == head) ≡ mine
        → option_or o (cond mine (Some bud.lnum) None) ≡ Some lnum → AllByRecursion (IsBudIn new) (changed_last head change (bud ∷ buds))
    by rest None e true m is =
        let here : bud.lnum ≡ lnum = cc in
        rw (m, last_none head buds e) (bud_grows old new head lnum change nodes bud adds puts m here all.0, others here)
    by rest None e false m is = absurd cc
    by rest (Some l) e true m is = let more = has_last buds head lnum (e ∙ is) in rw (m, more) (deeper (rest (e ∙ is)) (e ∙ is))
    by rest (Some l) e false m is = rw m (deeper (rest (e ∙ is)) (e ∙ is))

pub lnums_stay : (head : ℕ) (change : Bud → Bud) (buds : List Bud) → ((bud : Bud) → (change bud).lnum ≡ bud.lnum) → bud_lnums (changed_last head change buds) ≡ bud_lnums buds
lnums_stay head change [] same = refl
lnums_stay head change (bud ∷ buds) same = by (lnums_stay head change buds same) ((bud.head == head) && not (has_bud head buds)) refl
  where
    by : bud_lnums (changed_last head change buds) ≡ bud_lnums buds → (b : Bool) → ((bud.head == head) && not (has_bud head buds)) ≡ b → bud_lnums (changed_last head change (bud ∷ buds)) ≡ bud_lnums (bud ∷ buds)
    by rest true e = rw e (ap (λ (n : ℕ). n ∷ bud_lnums buds) (same bud))
    by rest false e = rw e (ap (λ (ns : List ℕ). bud.lnum ∷ ns) rest)

pub all_grow : (old new : List Leb) (head lnum : ℕ) (change : Bud → Bud) (nodes : List Placed) (buds : List Bud) → Adds old new lnum nodes → PutsTo head change nodes → last_bud buds head ≡ Some lnum
    → AreBudsIn old buds → AreBudsIn new (changed_last head change buds)
all_grow old new head lnum change nodes buds adds puts last b = record {
  distinct = ap are_distinct (lnums_stay head change buds puts.lnum) ∙ b.distinct;
  each = buds_grow old new head lnum change nodes buds adds puts b.distinct last b.each;
}
