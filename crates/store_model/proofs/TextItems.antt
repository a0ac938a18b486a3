-- Texts of main LEBs: what items behind others make of them, and what a change of one LEB leaves of the others.
use Rattle.std.proofs.Common.{◌≡◌, ◌⊎◌, ◌≤◌, ℕ, ◌+◌, arith, Bool, true, false, cond, not, List, [], ◌∷◌, ◌++◌, map, refl, sym, ap, subst, ◌∙◌, inl, inr}
use Rattle.std.specs.Prelude.{◌==◌, ◌&&◌, ◌||◌, nat_le}
use Rattle.std.specs.List.{AllByRecursion, list_all, list_any}
use Rattle.std.proofs.lemmas.Bool.{and_from, and_parts, eq-eqb, eqb-true, false≢true}
use Rattle.std.proofs.lemmas.List.Sums.{sum_by-append}
use Rattle.ubifs_base.specs.declared.raw_geometry.RawGeometry.{RawGeometry}
use Rattle.fs_model.specs.Cover.{round_8}
use Rattle.group_nodes.specs.Texts.{leaf_len}
use Rattle.leaf_map.specs.Kept.{Placed}
use Rattle.media_lpt.specs.declared.leb_kind.LebKind.{LebKind}
use Rattle.store_model.specs.Events.{nodes_len, with_items}
use Rattle.store_model.specs.Lebs.{changed_leb, is_role}
use Rattle.store_model.specs.Legal.{are_distinct, StandFrom}
use Rattle.store_model.specs.Store.{Item, leaf, branching, gap, Leb}
use Rattle.store_model.specs.Texts.{IsLaidOut, item_len, items_len, leaf_nodes, laid_at, standing_nodes, text_in}
use Rattle.store_model.proofs.LebRows.{has_row, rows}
use Rattle.store_model.proofs.RecoveryCopies.{either_of, not_true}
use Rattle.store_model.proofs.RecoveryOrder.{or_left, or_right}

-- ---- items behind others
plus_assoc : (a b c : ℕ) → (a + b) + c ≡ a + (b + c)
plus_assoc a b c = omega arith

plus_none : (a : ℕ) → a ≡ a + 0
plus_none a = omega arith

pub none_plus : (a : ℕ) → 0 + a ≡ a
none_plus a = omega arith

pub leaves_append : (a b : List Item) → leaf_nodes (a ++ b) ≡ leaf_nodes a ++ leaf_nodes b
leaves_append [] b = refl
leaves_append (leaf p ∷ a) b = ap (λ (ns : List Placed). p ∷ ns) (leaves_append a b)
leaves_append (branching x ∷ a) b = leaves_append a b
leaves_append (gap n ∷ a) b = leaves_append a b

pub len_append : (a b : List Item) → items_len (a ++ b) ≡ items_len a + items_len b
len_append [] b = sym (none_plus (items_len b))
len_append (item ∷ a) b = ap (λ (n : ℕ). item_len item + n) (len_append a b) ∙ sym (plus_assoc (item_len item) (items_len a) (items_len b))

pub standing_append : (lnum offs : ℕ) (a b : List Item) → standing_nodes lnum offs (a ++ b) ≡ standing_nodes lnum offs a ++ standing_nodes lnum (offs + items_len a) b
standing_append lnum offs [] b = ap (λ (n : ℕ). standing_nodes lnum n b) (plus_none offs)
standing_append lnum offs (leaf p ∷ a) b =
    ap (λ (ns : List Placed). laid_at lnum offs p ∷ ns)
    (standing_append lnum (offs + round_8 p.len) a b
    ∙ ap (λ (n : ℕ). standing_nodes lnum (offs + round_8 p.len) a ++ standing_nodes lnum n b) (plus_assoc offs (round_8 p.len) (items_len a)))
standing_append lnum offs (branching x ∷ a) b =
    standing_append lnum (offs + item_len (branching x)) a b
    ∙ ap (λ (n : ℕ). standing_nodes lnum (offs + item_len (branching x)) a ++ standing_nodes lnum n b) (plus_assoc offs (item_len (branching x)) (items_len a))
standing_append lnum offs (gap k ∷ a) b =
    standing_append lnum (offs + k) a b
    ∙ ap (λ (n : ℕ). standing_nodes lnum (offs + k) a ++ standing_nodes lnum n b) (plus_assoc offs k (items_len a))

-- leaf nodes alone
pub leaves_map : (nodes : List Placed) → leaf_nodes (map leaf nodes) ≡ nodes
leaves_map [] = refl
leaves_map (p ∷ nodes) = ap (λ (ns : List Placed). p ∷ ns) (leaves_map nodes)

pub len_map : (nodes : List Placed) → items_len (map leaf nodes) ≡ nodes_len nodes
len_map [] = refl
len_map (p ∷ nodes) =
    ap (λ (n : ℕ). round_8 p.len + n) (len_map nodes)
    ∙ sym (ap (λ (n : ℕ). n + nodes_len nodes) (none_plus (round_8 p.len)))
    ∙ sym (sum_by-append (λ (q : Placed). round_8 q.len) (p ∷ []) nodes)

pub one_len : (p : Placed) → nodes_len (p ∷ []) ≡ round_8 p.len
one_len p = none_plus (round_8 p.len)

same_placed : (lnum offs len : ℕ) (p : Placed) → p.lnum ≡ lnum → p.offs ≡ offs → p.len ≡ len → record p { lnum = lnum; offs = offs; len = len } ≡ p
same_placed lnum offs len p a b c =
    ap (λ (n : ℕ). record p { lnum = n; offs = offs; len = len }) (sym a)
    ∙ ap (λ (n : ℕ). record p { offs = n; len = len }) (sym b)
    ∙ ap (λ (n : ℕ). record p { len = n }) (sym c)

pub standing_map : (lnum offs : ℕ) (nodes : List Placed) → StandFrom lnum offs nodes → standing_nodes lnum offs (map leaf nodes) ≡ nodes
standing_map lnum offs [] s = refl
standing_map lnum offs (p ∷ nodes) s =
    ap (λ (q : Placed). q ∷ standing_nodes lnum (offs + round_8 p.len) (map leaf nodes)) (same_placed lnum offs (leaf_len p.node) p s.0 s.1 s.2)
    ∙ ap (λ (ns : List Placed). p ∷ ns) (standing_map lnum (offs + round_8 p.len) nodes (subst (λ (n : ℕ). StandFrom lnum (offs + n) nodes) (one_len p) s.3))

-- a LEB with items behind its text
pub laid_more : (geo : RawGeometry) (leb : Leb) (items : List Item) → leaf_nodes items ≡ standing_nodes leb.lnum (items_len leb.text) items → items_len leb.text + items_len items ≤ geo.leb_size
    → IsLaidOut geo leb → IsLaidOut geo (record leb { text = leb.text ++ items })
laid_more geo leb items stand room laid = record {
  places =
      leaves_append leb.text items
      ∙ ap (λ (ns : List Placed). ns ++ leaf_nodes items) laid.places
      ∙ ap (λ (ns : List Placed). standing_nodes leb.lnum 0 leb.text ++ ns) (stand ∙ ap (λ (n : ℕ). standing_nodes leb.lnum n items) (sym (none_plus (items_len leb.text))))
      ∙ sym (standing_append leb.lnum 0 leb.text items);
  fits = subst (λ (n : ℕ). n ≤ geo.leb_size) (sym (len_append leb.text items)) room;
}

-- a node that stands in a text ends in it
ends_within : (offs at len rest : ℕ) → at ≡ offs → nat_le (at + len) (offs + (len + rest)) ≡ true
ends_within offs at len rest same = grind (arith)

pub standing_ends : (lnum offs : ℕ) (items : List Item) → leaf_nodes items ≡ standing_nodes lnum offs items
    → list_all (λ p. (p.lnum == lnum) && nat_le (p.offs + round_8 p.len) (offs + items_len items)) (leaf_nodes items) ≡ true
standing_ends lnum offs [] same = refl
standing_ends lnum offs (leaf p ∷ items) same =
    let is : p ≡ laid_at lnum offs p = cc in
    let rest : leaf_nodes items ≡ standing_nodes lnum (offs + round_8 p.len) items = cc in
    and_from ((p.lnum == lnum) && nat_le (p.offs + round_8 p.len) (offs + (round_8 p.len + items_len items)))
    (list_all (λ q. (q.lnum == lnum) && nat_le (q.offs + round_8 q.len) (offs + (round_8 p.len + items_len items))) (leaf_nodes items))
    (and_from (p.lnum == lnum) (nat_le (p.offs + round_8 p.len) (offs + (round_8 p.len + items_len items)))
    (eq-eqb p.lnum lnum (ap (λ (q : Placed). q.lnum) is)) (ends_within offs p.offs (round_8 p.len) (items_len items) (ap (λ (q : Placed). q.offs) is)))
    (subst (λ (n : ℕ). list_all (λ q. (q.lnum == lnum) && nat_le (q.offs + round_8 q.len) n) (leaf_nodes items) ≡ true) (plus_assoc offs (round_8 p.len) (items_len items))
    (standing_ends lnum (offs + round_8 p.len) items rest))
standing_ends lnum offs (branching x ∷ items) same =
    subst (λ (n : ℕ). list_all (λ q. (q.lnum == lnum) && nat_le (q.offs + round_8 q.len) n) (leaf_nodes items) ≡ true) (plus_assoc offs (item_len (branching x)) (items_len items))
    (standing_ends lnum (offs + item_len (branching x)) items same)
standing_ends lnum offs (gap k ∷ items) same =
    subst (λ (n : ℕ). list_all (λ q. (q.lnum == lnum) && nat_le (q.offs + round_8 q.len) n) (leaf_nodes items) ≡ true) (plus_assoc offs k (items_len items))
    (standing_ends lnum (offs + k) items same)

-- ---- the text of a LEB after a change of one LEB
abbrev pub is_there : ℕ → List Leb → Bool
is_there lnum lebs = list_any (λ leb. leb.lnum == lnum) lebs

pub row_there : (role : LebKind) (lnum : ℕ) (lebs : List Leb) → has_row role (rows lebs) lnum ≡ true → is_there lnum lebs ≡ true
row_there role lnum [] h = h
row_there role lnum (leb ∷ lebs) h = by (row_there role lnum lebs) (either_of ((leb.lnum == lnum) && is_role role leb.role) (has_row role (rows lebs) lnum) h)
  where
    by : (has_row role (rows lebs) lnum ≡ true → is_there lnum lebs ≡ true) → (((leb.lnum == lnum) && is_role role leb.role) ≡ true) ⊎ (has_row role (rows lebs) lnum ≡ true) → is_there lnum (leb ∷ lebs) ≡ true
    by rest (inl e) = or_left (leb.lnum == lnum) (is_there lnum lebs) (and_parts (leb.lnum == lnum) (is_role role leb.role) e).0
    by rest (inr e) = or_right (leb.lnum == lnum) (is_there lnum lebs) (rest e)

pub text_other : (n k : ℕ) (change : Leb → Leb) → ((leb : Leb) → (change leb).lnum ≡ leb.lnum) → (n == k) ≡ false → (lebs : List Leb) → text_in (changed_leb n change lebs) k ≡ text_in lebs k
text_other n k change keeps away [] = refl
text_other n k change keeps away (leb ∷ lebs) = by (text_other n k change keeps away lebs) (leb.lnum == n) refl
  where
    by : text_in (changed_leb n change lebs) k ≡ text_in lebs k → (b : Bool) → (leb.lnum == n) ≡ b → text_in (cond b (change leb) leb ∷ changed_leb n change lebs) k ≡ text_in (leb ∷ lebs) k
    by rest true e =
        let past : (leb.lnum == k) ≡ false = ap (λ (i : ℕ). i == k) (eqb-true leb.lnum n e) ∙ away in
        rw (keeps leb, past) rest
    by rest false e = ap (λ (t : List Item). cond (leb.lnum == k) leb.text t) rest

pub text_more : (n : ℕ) (items : List Item) (lebs : List Leb) → is_there n lebs ≡ true → text_in (with_items n items lebs) n ≡ text_in lebs n ++ items
text_more n items [] h = absurd (false≢true h)
text_more n items (leb ∷ lebs) h = by (text_more n items lebs) (leb.lnum == n) refl h
  where
    by : (is_there n lebs ≡ true → text_in (with_items n items lebs) n ≡ text_in lebs n ++ items) → (b : Bool) → (leb.lnum == n) ≡ b → (b || is_there n lebs) ≡ true
        → text_in (cond b (record leb { text = leb.text ++ items }) leb ∷ with_items n items lebs) n ≡ text_in (leb ∷ lebs) n ++ items
    by rest true e h = rw e refl
    by rest false e h = rw e (rest h)

-- as it was, or with the items behind
pub text_grows : (n k : ℕ) (items : List Item) (lebs : List Leb) → (text_in (with_items n items lebs) k ≡ text_in lebs k) ⊎ (text_in (with_items n items lebs) k ≡ text_in lebs k ++ items)
text_grows n k items [] = inl refl
text_grows n k items (leb ∷ lebs) = by (text_grows n k items lebs) (leb.lnum == n) (leb.lnum == k) refl
  where
    Grown : List Item → List Item → Type 0
    Grown new old = (new ≡ old) ⊎ (new ≡ old ++ items)

    by : Grown (text_in (with_items n items lebs) k) (text_in lebs k) → (b c : Bool) → (leb.lnum == k) ≡ c
        → Grown (text_in (cond b (record leb { text = leb.text ++ items }) leb ∷ with_items n items lebs) k) (text_in (leb ∷ lebs) k)
    by rest true true e = inr (rw e refl)
    by rest true false e = rw e rest
    by rest false true e = inl (rw e refl)
    by rest false false e = rw e rest

pub emptied_text : (n : ℕ) (change : Leb → Leb) → ((leb : Leb) → (change leb).lnum ≡ leb.lnum) → ((leb : Leb) → (change leb).text ≡ []) → (lebs : List Leb) → text_in (changed_leb n change lebs) n ≡ []
emptied_text n change keeps empty [] = refl
emptied_text n change keeps empty (leb ∷ lebs) = by (emptied_text n change keeps empty lebs) (leb.lnum == n) refl
  where
    by : text_in (changed_leb n change lebs) n ≡ [] → (b : Bool) → (leb.lnum == n) ≡ b → text_in (cond b (change leb) leb ∷ changed_leb n change lebs) n ≡ []
    by rest true e = rw (keeps leb, e) (empty leb)
    by rest false e = rw e rest

-- ---- what is so of each LEB
abbrev pub lnums : List Leb → List ℕ
lnums lebs = map (λ leb. leb.lnum) lebs

pub same_lnums : (n : ℕ) (change : Leb → Leb) → ((leb : Leb) → (change leb).lnum ≡ leb.lnum) → (lebs : List Leb) → lnums (changed_leb n change lebs) ≡ lnums lebs
same_lnums n change keeps [] = refl
same_lnums n change keeps (leb ∷ lebs) = by (leb.lnum == n) (same_lnums n change keeps lebs)
  where
    by : (b : Bool) → lnums (changed_leb n change lebs) ≡ lnums lebs → (cond b (change leb) leb).lnum ∷ lnums (changed_leb n change lebs) ≡ leb.lnum ∷ lnums lebs
    by true rest = ap (λ (i : ℕ). i ∷ lnums (changed_leb n change lebs)) (keeps leb) ∙ ap (λ (ns : List ℕ). leb.lnum ∷ ns) rest
    by false rest = ap (λ (ns : List ℕ). leb.lnum ∷ ns) rest

none_changed : (n : ℕ) (change : Leb → Leb) (lebs : List Leb) → list_any (λ k. k == n) (lnums lebs) ≡ false → changed_leb n change lebs ≡ lebs
none_changed n change [] h = refl
none_changed n change (leb ∷ lebs) h = by (none_changed n change lebs) (leb.lnum == n) refl h
  where
    by : (list_any (λ k. k == n) (lnums lebs) ≡ false → changed_leb n change lebs ≡ lebs) → (b : Bool) → (leb.lnum == n) ≡ b → (b || list_any (λ k. k == n) (lnums lebs)) ≡ false
        → cond b (change leb) leb ∷ changed_leb n change lebs ≡ leb ∷ lebs
    by rest true e h = absurd (false≢true (sym h))
    by rest false e h = ap (λ (z : List Leb). leb ∷ z) (rest h)

pub all_changed : (P : Leb → Type 0) (n : ℕ) (change : Leb → Leb) (lebs : List Leb) → ((leb : Leb) → leb.lnum ≡ n → leb.text ≡ text_in lebs n → P leb → P (change leb)) → are_distinct (lnums lebs) ≡ true
    → AllByRecursion P lebs → AllByRecursion P (changed_leb n change lebs)
all_changed P n change [] one d h = tt
all_changed P n change (leb ∷ lebs) one d h = by (λ other distinct. all_changed P n change lebs other distinct h.1) (leb.lnum == n) refl
  where
    parts : (not (list_any (λ k. k == leb.lnum) (lnums lebs)) ≡ true) × (are_distinct (lnums lebs) ≡ true)
    parts = and_parts (not (list_any (λ k. k == leb.lnum) (lnums lebs))) (are_distinct (lnums lebs)) d

    by : (((leb : Leb) → leb.lnum ≡ n → leb.text ≡ text_in lebs n → P leb → P (change leb)) → are_distinct (lnums lebs) ≡ true → AllByRecursion P (changed_leb n change lebs))
        → (b : Bool) → (leb.lnum == n) ≡ b → AllByRecursion P (cond b (change leb) leb ∷ changed_leb n change lebs)
    by rest true e =
        let same = eqb-true leb.lnum n e in
        let none = subst (λ (k : ℕ). list_any (λ i. i == k) (lnums lebs) ≡ false) same (not_true (list_any (λ k. k == leb.lnum) (lnums lebs)) parts.0) in
        (one leb same (rw e refl) h.0, subst (AllByRecursion P) (sym (none_changed n change lebs none)) h.1)
    by rest false e = (h.0, rest (λ other same text p. one other same (text ∙ rw e refl) p) parts.1)

pub all_text : (geo : RawGeometry) (lebs : List Leb) (k : ℕ) → AllByRecursion (IsLaidOut geo) lebs → leaf_nodes (text_in lebs k) ≡ standing_nodes k 0 (text_in lebs k)
all_text geo [] k h = refl
all_text geo (leb ∷ lebs) k h = by (all_text geo lebs k h.1) (leb.lnum == k) refl
  where
    by : leaf_nodes (text_in lebs k) ≡ standing_nodes k 0 (text_in lebs k) → (b : Bool) → (leb.lnum == k) ≡ b → leaf_nodes (cond b leb.text (text_in lebs k)) ≡ standing_nodes k 0 (cond b leb.text (text_in lebs k))
    by rest true e = subst (λ (i : ℕ). leaf_nodes leb.text ≡ standing_nodes i 0 leb.text) (eqb-true leb.lnum k e) h.0.places
    by rest false e = rest

pub all_fit : (geo : RawGeometry) (lebs : List Leb) (k : ℕ) → AllByRecursion (IsLaidOut geo) lebs → items_len (text_in lebs k) ≤ geo.leb_size
all_fit geo [] k h = omega arith
all_fit geo (leb ∷ lebs) k h = by (all_fit geo lebs k h.1) (leb.lnum == k)
  where
    by : items_len (text_in lebs k) ≤ geo.leb_size → (b : Bool) → items_len (cond b leb.text (text_in lebs k)) ≤ geo.leb_size
    by rest true = h.0.fits
    by rest false = rest
