-- Copies of what own nodes show go, and leaves without a node of their own take the first of those that are left.
use Rattle.std.proofs.Common.{◌≡◌, ℕ, Bool, true, false, cond, not, ◌||◌, List, [], ◌∷◌, ◌++◌, map, append_assoc, append-nil, refl, sym, ap, subst, ◌∙◌, Option, Some, None}
use Rattle.std.specs.Prelude.{filter, is_some, slice_get}
use Rattle.std.specs.BTreeMap.{is_at}
use Rattle.std.specs.List.{AllByRecursion, list_any}
use Rattle.std.specs.Option.{option_map}
use Rattle.std.specs.Ordering.{nat_cmp}
use Rattle.index_tree.specs.Order.{leaf_rank}
use Rattle.leaf_map.specs.Kept.{Kept, Placed, shown}
use Rattle.leaf_map.specs.LeafMap.{shows_same}
use Rattle.leaf_map.specs.Parts.{Committed, Parts, own_node}
use Rattle.leaf_map.specs.Recovered.{copies_left, copy_of_key, is_original}
use Rattle.journal_scan.specs.Content.{told}
use Rattle.journal_scan.specs.declared.journal_node.JournalNode.{JournalNode}
use Rattle.log_replay.specs.declared.read_leaf.ReadLeaf.{ReadLeaf}
use Rattle.log_replay.specs.Copies.{at_rank, first_taken, Ranked}
use Rattle.log_replay.specs.Settling.{CanSettle, DropsOwned, HasCopies, HasGrammar, SettlesLeaf, at_copy_told, kept_of, read_as, leaf_read_of, settled_at, settled_of, settled_one, spare_of}
use Rattle.log_replay.specs.Told.{IsSetting}
use Rattle.log_replay.proofs.Owning.{own_rank, owns}
use Rattle.log_replay.proofs.Ranked.{drops, filter_setting, first_told, takes, takes_none}

-- ---- the copies of what own nodes show
stay : (left : List Placed) → filter (λ (d : Placed). not false) left ≡ left
stay [] = refl
stay (x ∷ left) = ap (λ z. x ∷ z) (stay left)

pub one_dropped : (parts : Parts) (c : Committed) (left : List Placed) (old new : Ranked) → HasGrammar c → AllByRecursion (λ d. IsSetting d.node) left → HasCopies left old
    → DropsOwned (leaf_read_of parts c) old new → HasCopies (filter (λ d. not (is_original parts.named d c)) left) new
one_dropped parts c left old new g all has d = by (own_node parts.named c) refl d
  where
    same : (r : ℕ) (b : Bool) → cond b (at_rank old r) (at_rank old r) ≡ at_rank old r
    same r true = refl
    same r false = refl

    unread : (k : Option Kept) → DropsOwned (read_as parts c.leaf false k) old new → HasCopies left new
    unread None f r = f r ∙ same r (is_at (nat_cmp (leaf_rank c.leaf)) r) ∙ has r
    unread (Some k) f r = f r ∙ same r (is_at (nat_cmp (leaf_rank c.leaf)) r) ∙ has r

    by : (own : Option Placed) → own_node parts.named c ≡ own → DropsOwned (read_as parts c.leaf (is_some own) (kept_of c own)) old new → HasCopies (filter (λ d. not (is_original parts.named d c)) left) new
    by None e f = rw (e, stay left) (unread (kept_of c None) f)
    by (Some own) e f =
        let o = owns parts.named c own g e in
        rw e (drops (leaf_rank c.leaf) own.node left old new o.setting.shown (own_rank parts.named c own o) all has f)

both : (parts : Parts) (c : Committed) (cs : List Committed) (left : List Placed) → spare_of parts cs (filter (λ d. not (is_original parts.named d c)) left) ≡ spare_of parts (c ∷ cs) left
both parts c cs [] = refl
both parts c cs (d ∷ left) = by (is_original parts.named d c) (list_any (is_original parts.named d) cs) refl (both parts c cs left)
  where
    rest : List Placed
    rest = filter (λ d. not (is_original parts.named d c)) left

    by : (a b : Bool) → list_any (is_original parts.named d) cs ≡ b → spare_of parts cs rest ≡ spare_of parts (c ∷ cs) left
        → spare_of parts cs (cond (not a) (d ∷ rest) rest) ≡ cond (not (a || b)) (d ∷ spare_of parts (c ∷ cs) left) (spare_of parts (c ∷ cs) left)
    by true b e more = more
    by false true e more = rw e more
    by false false e more = rw e (ap (λ z. d ∷ z) more)

-- the copies of what the first own nodes show are dropped, and the others are left
pub record Dropping (parts : Parts) (last : List Placed) (rest : List ReadLeaf) (ranked : Ranked) : Type 0 where
  pub committed : List Committed
  pub left : List Placed
  pub can : CanSettle parts committed left
  pub reads : rest ≡ map (leaf_read_of parts) committed
  pub has : HasCopies left ranked
  pub leads : spare_of parts committed left ≡ last

pub drop_start : (parts : Parts) (cs : List Committed) (left : List Placed) (reads : List ReadLeaf) (ranked : Ranked) → CanSettle parts cs left → reads ≡ map (leaf_read_of parts) cs → HasCopies left ranked → Dropping parts (spare_of parts cs left) reads ranked
drop_start parts cs left reads ranked can e has = record { committed = cs; left = left; can = can; reads = e; has = has; leads = refl }

pub drop_on : (parts : Parts) (last : List Placed) (before rest : List ReadLeaf) (r : ReadLeaf) (old new : Ranked) → before ≡ r ∷ rest → Dropping parts last before old → DropsOwned r old new → Dropping parts last rest new
drop_on parts last before rest r old new split s d = by s.committed s.can (sym split ∙ s.reads) s.leads
  where
    by : (cs : List Committed) → CanSettle parts cs s.left → r ∷ rest ≡ map (leaf_read_of parts) cs → spare_of parts cs s.left ≡ last → Dropping parts last rest new
    by [] can e l = absurd cc
    by (c ∷ cs) can e l =
        let one : r ≡ leaf_read_of parts c = cc in
        let others : rest ≡ map (leaf_read_of parts) cs = cc in
        let p = λ (d : Placed). not (is_original parts.named d c) in
        record {
          committed = cs;
          left = filter p s.left;
          can = record { found = can.found.1; copies = can.copies; copies_left = filter_setting p s.left can.copies_left };
          reads = others;
          has = one_dropped parts c s.left old new can.found.0 can.copies_left s.has (subst (λ (x : ReadLeaf). DropsOwned x old new) one d);
          leads = both parts c cs s.left ∙ l;
        }

pub drop_end : (parts : Parts) (last : List Placed) (rest : List ReadLeaf) (ranked : Ranked) → rest ≡ [] → Dropping parts last rest ranked → HasCopies last ranked
drop_end parts last rest ranked e s = by s.committed (sym e ∙ s.reads) s.leads
  where
    by : (cs : List Committed) → [] ≡ map (leaf_read_of parts) cs → spare_of parts cs s.left ≡ last → HasCopies last ranked
    by [] r l = subst (λ (xs : List Placed). HasCopies xs ranked) (sym (stay s.left) ∙ l) s.has
    by (c ∷ cs) r l = absurd cc

-- ---- the copies that are left
pub record SettledOne (parts : Parts) (c : Committed) (left : List Placed) (settled : ReadLeaf) (new : Ranked) : Type 0 where
  pub is : settled ≡ settled_one parts left c (own_node parts.named c)
  pub has : HasCopies (copies_left left c (own_node parts.named c)) new

unread_at : (parts : Parts) (c : Committed) (d : Option Placed) → own_node parts.named c ≡ None → at_copy_told (leaf_read_of parts c) (option_map told d) ≡ settled_at parts c d
unread_at parts c None e = refl
unread_at parts c (Some d) e = by (kept_of c (own_node parts.named c))
  where
    by : (k : Option Kept) → at_copy_told (read_as parts c.leaf (is_some (own_node parts.named c)) k) (Some (told d)) ≡ settled_at parts c (Some d)
    by None = refl
    by (Some k) = refl

pub settled_once : (parts : Parts) (c : Committed) (left : List Placed) (read settled : ReadLeaf) (old new : Ranked) → AllByRecursion (λ d. IsSetting d.node) left → read ≡ leaf_read_of parts c → HasCopies left old → SettlesLeaf read settled old new
    → SettledOne parts c left settled new
settled_once parts c left read settled old new all e has s = by (own_node parts.named c) refl (subst (λ (r : ReadLeaf). SettlesLeaf r settled old new) e s)
  where
    taken : (d : Option Placed) → copy_of_key c.leaf left ≡ d → own_node parts.named c ≡ None → settled ≡ at_copy_told (leaf_read_of parts c) (slice_get (at_rank old (leaf_rank c.leaf)) 0)
        → ((q : ℕ) → at_rank new q ≡ cond (is_at (nat_cmp (leaf_rank c.leaf)) q) (first_taken (at_rank old q)) (at_rank old q)) → SettledOne parts c left settled new
    taken d f o is t = record {
      is = is ∙ ap (at_copy_told (leaf_read_of parts c)) (ap (λ (z : List JournalNode). slice_get z 0) (has (leaf_rank c.leaf)) ∙ first_told (leaf_rank c.leaf) left) ∙ unread_at parts c (copy_of_key c.leaf left) o ∙ sym (ap (settled_one parts left c) o);
      has = subst (λ (own : Option Placed). HasCopies (copies_left left c own) new) (sym o) (left_is d f);
    }
      where
        left_is : (d : Option Placed) → copy_of_key c.leaf left ≡ d → HasCopies (copies_left left c None) new
        left_is None f = rw f (takes_none (leaf_rank c.leaf) left old new f has t)
        left_is (Some d) f = rw f (takes (leaf_rank c.leaf) d left old new all f has t)

    own_as : (k : Option Kept) (own : Placed) → SettlesLeaf (read_as parts c.leaf true k) settled old new → (settled ≡ read_as parts c.leaf true k) × (new ≡ old)
    own_as None own f = f
    own_as (Some k) own f = f

    un_as : (k : Option Kept) → SettlesLeaf (read_as parts c.leaf false k) settled old new → (settled ≡ at_copy_told (read_as parts c.leaf false k) (slice_get (at_rank old (leaf_rank c.leaf)) 0))
        × ((q : ℕ) → at_rank new q ≡ cond (is_at (nat_cmp (leaf_rank c.leaf)) q) (first_taken (at_rank old q)) (at_rank old q))
    un_as None f = f
    un_as (Some k) f = f

    by : (own : Option Placed) → own_node parts.named c ≡ own → SettlesLeaf (read_as parts c.leaf (is_some own) (kept_of c own)) settled old new → SettledOne parts c left settled new
    by (Some own) o f =
        let p = own_as (kept_of c (Some own)) own f in
        record {
          is = p.0 ∙ ap (λ (z : Option Placed). read_as parts c.leaf (is_some z) (kept_of c z)) (sym o) ∙ sym (ap (settled_one parts left c) o);
          has = subst (λ (z : Option Placed). HasCopies (copies_left left c z) new) (sym o) (subst (HasCopies left) (sym p.1) has);
        }
    by None o f =
        let p = un_as (kept_of c None) f in
        taken (copy_of_key c.leaf left) refl o (p.0 ∙ ap (λ (z : Option Placed). at_copy_told (read_as parts c.leaf (is_some z) (kept_of c z)) (slice_get (at_rank old (leaf_rank c.leaf)) 0)) (sym o)) p.1

pub left_setting : (parts : Parts) (c : Committed) (left : List Placed) (own : Option Placed) → AllByRecursion (λ d. IsSetting d.node) left → AllByRecursion (λ d. IsSetting d.node) (copies_left left c own)
left_setting parts c left (Some own) all = all
left_setting parts c left None all = by (copy_of_key c.leaf left) refl
  where
    by : (d : Option Placed) → copy_of_key c.leaf left ≡ d → AllByRecursion (λ d. IsSetting d.node) (copies_left left c None)
    by None f = rw f all
    by (Some d) f = rw f (filter_setting (λ z. not (shows_same (shown d.node) (shown z.node))) left all)

-- some leaves are settled, and the others are left
pub record Settling (parts : Parts) (all : List ReadLeaf) (settled rest : List ReadLeaf) (ranked : Ranked) : Type 0 where
  pub committed : List Committed
  pub left : List Placed
  pub can : CanSettle parts committed left
  pub reads : rest ≡ map (leaf_read_of parts) committed
  pub has : HasCopies left ranked
  pub whole : all ≡ settled ++ settled_of parts left committed

pub settle_on : (parts : Parts) (all settled rest : List ReadLeaf) (read one : ReadLeaf) (old new : Ranked) → Settling parts all settled (read ∷ rest) old → SettlesLeaf read one old new → Settling parts all (settled ++ one ∷ []) rest new
settle_on parts all settled rest read one old new s t = by s.committed s.can s.reads s.whole
  where
    by : (cs : List Committed) → CanSettle parts cs s.left → read ∷ rest ≡ map (leaf_read_of parts) cs → all ≡ settled ++ settled_of parts s.left cs → Settling parts all (settled ++ one ∷ []) rest new
    by [] can e w = absurd cc
    by (c ∷ cs) can e w =
        let first : read ≡ leaf_read_of parts c = cc in
        let others : rest ≡ map (leaf_read_of parts) cs = cc in
        let o = settled_once parts c s.left read one old new can.copies_left first s.has t in
        record {
          committed = cs;
          left = copies_left s.left c (own_node parts.named c);
          can = record { found = can.found.1; copies = can.copies; copies_left = left_setting parts c s.left (own_node parts.named c) can.copies_left };
          reads = others;
          has = o.has;
          whole = w ∙ ap (λ (x : ReadLeaf). settled ++ x ∷ settled_of parts (copies_left s.left c (own_node parts.named c)) cs) (sym o.is) ∙ sym (append_assoc settled (one ∷ []) (settled_of parts (copies_left s.left c (own_node parts.named c)) cs));
        }

pub settle_start : (parts : Parts) (cs : List Committed) (left : List Placed) (reads settled rest : List ReadLeaf) (ranked : Ranked) → CanSettle parts cs left → reads ≡ map (leaf_read_of parts) cs → HasCopies left ranked → rest ≡ reads → settled ≡ []
    → Settling parts (settled_of parts left cs) settled rest ranked
settle_start parts cs left reads settled rest ranked can e has r s =
    record { committed = cs; left = left; can = can; reads = r ∙ e; has = has; whole = sym (ap (λ (xs : List ReadLeaf). xs ++ settled_of parts left cs) s) }

pub settle_end : (parts : Parts) (all settled rest : List ReadLeaf) (ranked : Ranked) → rest ≡ [] → Settling parts all settled rest ranked → settled ≡ all
settle_end parts all settled rest ranked e s = by s.committed (sym e ∙ s.reads) s.whole
  where
    by : (cs : List Committed) → [] ≡ map (leaf_read_of parts) cs → all ≡ settled ++ settled_of parts s.left cs → settled ≡ all
    by [] r w = sym (w ∙ append-nil settled)
    by (c ∷ cs) r w = absurd cc
