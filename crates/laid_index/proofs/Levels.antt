-- One level, node by node.
use Rattle.std.proofs.Common.{◌≡◌, ℕ, suc, zero, ◌+◌, ◌-◌, ◌<◌, ◌≤◌, Bool, true, List, [], ◌∷◌, ◌++◌, length, take, drop, refl, ap, sym, ◌∙◌, subst, arith, append-nil, append_assoc, length-append, length-drop, inl, inr}
use Rattle.std.specs.Prelude.{Option, Some, None, min, ◌&&◌, ◌||◌, ◌==◌, nat_lt, ◌⊎◌}
use Rattle.std.specs.List.{AllByRecursion}
use Rattle.std.proofs.lemmas.Bool.{and_parts, and_from, eq-eqb, eqb-true, lt-ltb, ltb-true, or_cases, or_left, or_right}
use Rattle.std.proofs.lemmas.List.{length-take, take_min, drop_min}
use Rattle.ubifs_base.specs.Geometry.{IsGeometry}
use Rattle.ubifs_base.specs.Key.{IsKey, key_words}
use Rattle.ubifs_base.specs.declared.key.Key.{Key}
use Rattle.ubifs_base.specs.declared.raw_geometry.RawGeometry.{RawGeometry}
use Rattle.media_sys.specs.Index.{IsIdxNode, in_order, is_entry, may_follow}
use Rattle.media_sys.specs.declared.branch.Branch.{Branch}
use Rattle.index_media.specs.Stored.{IsIndexNodeAt}
use Rattle.laid_main.specs.Filling.{TakesOfLebs}
use Rattle.laid_index.specs.Opened.{GoesOnInLeb, IsLebOpen, AreNodesReady, Lays, taken_after, bytes_taken_of}
use Rattle.laid_index.specs.Packing.{len_over, level_lens}
use Rattle.laid_index.specs.Rows.{AreInOrder, AreOver, HasFirstKey, StandOver}
use Rattle.laid_index.specs.declared.open_leb.OpenLeb.{OpenLeb}
use Rattle.laid_index.proofs.Making.{more_taken}
use Rattle.laid_index.proofs.Packs.{level_none, level_step}

-- nothing is laid yet
pub lays_none : (geo : RawGeometry) (leb : OpenLeb) (was : ℕ → List ℕ) → IsLebOpen geo leb was → Lays geo [] [] leb was leb was
lays_none geo leb was o = record {
  is_open = o;
  first = refl;
  goes_on = λ contents c. c;
  takes = λ before h. let P : List Branch → Type 0 = λ l. TakesOfLebs leb.first (bytes_taken_of leb) l in subst P (sym (append-nil before)) h;
  after = λ lens. refl;
  number = omega arith;
  many = refl;
}

-- one node more is laid
pub lays_then : (geo : RawGeometry) (xs ys : List ℕ) (ps qs : List Branch) (old mid new : OpenLeb) (was then' now : ℕ → List ℕ) → Lays geo xs ps old was mid then' → Lays geo ys qs mid then' new now
    → Lays geo (xs ++ ys) (ps ++ qs) old was new now
lays_then geo xs ys ps qs old mid new was then' now a b = record {
  is_open = b.is_open;
  first = b.first ∙ a.first;
  goes_on = λ contents c. a.goes_on contents (b.goes_on contents c);
  takes = λ before h.
      let P : List Branch → Type 0 = λ l. TakesOfLebs new.first (bytes_taken_of new) l in
      subst P (append_assoc before ps qs) (b.takes (before ++ ps) (a.takes before h));
  after = λ lens. b.after lens ∙ a.after (ys ++ lens) ∙ ap (taken_after geo old) (sym (append_assoc xs ys lens));
  number = let m = a.number in let n = b.number in let l = length-append ps qs in omega (arith, m, n, l);
  many = let m = a.many in let n = b.many in let l = length-append ps qs in let k = length-append xs ys in omega (arith, m, n, l, k);
}

-- what is over some siblings is over more
pub over_more : (f : ℕ) (siblings made rest : List Branch) (b : Branch) → AreOver f siblings made rest → HasFirstKey b rest → AreOver f siblings (made ++ b ∷ []) (drop f rest)
over_more f siblings [] rest b h key = (let P : List Branch → Type 0 = λ l. HasFirstKey b l in subst P (sym h) key, ap (drop f) h)
over_more f siblings (m ∷ made) rest b h key = (h.0, over_more f (drop f siblings) made rest b h.1 key)

pub stand_more : (contents : ℕ → List ℕ) (f level : ℕ) (siblings made rest : List Branch) (b : Branch) → AreOver f siblings made rest → StandOver contents f level siblings made
    → IsIndexNodeAt contents b (record { level = level; branches = take f rest }) → StandOver contents f level siblings (made ++ b ∷ [])
stand_more contents f level siblings [] rest b over h node =
    (let P : List Branch → Type 0 = λ l. IsIndexNodeAt contents b (record { level = level; branches = take f l }) in subst P (sym over) node, tt)
stand_more contents f level siblings (m ∷ made) rest b over h node = (h.0, stand_more contents f level (drop f siblings) made rest b over.1 h.1 node)

-- The nodes of a level that are laid so far, and the siblings that are left.
pub record IsLevelUnderWay (geo : RawGeometry) (level : ℕ) (siblings made rest : List Branch) (old : OpenLeb) (was : ℕ → List ℕ) (new : OpenLeb) (now : ℕ → List ℕ) : Type 0 where
  pub lens : List ℕ
  pub split : level_lens geo.fanout (length siblings) ≡ lens ++ level_lens geo.fanout (length rest)
  pub lays : Lays geo lens made old was new now
  pub over : AreOver geo.fanout siblings made rest
  pub stand : (contents : ℕ → List ℕ) → GoesOnInLeb new now contents → StandOver contents geo.fanout level siblings made
  pub order : AreInOrder rest

pub level_begins : (geo : RawGeometry) (level : ℕ) (siblings : List Branch) (leb : OpenLeb) (was : ℕ → List ℕ) → IsLebOpen geo leb was → AreInOrder siblings
    → IsLevelUnderWay geo level siblings [] siblings leb was leb was
level_begins geo level siblings leb was o order = record { lens = []; split = refl; lays = lays_none geo leb was o; over = refl; stand = λ contents c. tt; order = order }

keys_take : (n : ℕ) (xs : List Branch) → AllByRecursion (λ (b : Branch). IsKey b.key) xs → AllByRecursion (λ (b : Branch). IsKey b.key) (take n xs)
keys_take zero xs h = tt
keys_take (suc n) [] h = tt
keys_take (suc n) (x ∷ xs) h = (h.0, keys_take n xs h.1)

keys_drop : (n : ℕ) (xs : List Branch) → AllByRecursion (λ (b : Branch). IsKey b.key) xs → AllByRecursion (λ (b : Branch). IsKey b.key) (drop n xs)
keys_drop zero xs h = h
keys_drop (suc n) [] h = tt
keys_drop (suc n) (x ∷ xs) h = keys_drop n xs h.1

order_take : (before : Option Key) (n : ℕ) (xs : List Branch) → in_order before xs ≡ true → in_order before (take n xs) ≡ true
order_take before zero xs h = refl
order_take before (suc n) [] h = refl
order_take before (suc n) (x ∷ xs) h =
    let parts = and_parts (may_follow before x.key) (in_order (Some x.key) xs) h in
    and_from (may_follow before x.key) (in_order (Some x.key) (take n xs)) parts.0 (order_take (Some x.key) n xs parts.1)

order_none : (before : Option Key) (xs : List Branch) → in_order before xs ≡ true → in_order None xs ≡ true
order_none before [] h = refl
order_none before (x ∷ xs) h = (and_parts (may_follow before x.key) (in_order (Some x.key) xs) h).1

order_drop : (before : Option Key) (n : ℕ) (xs : List Branch) → in_order before xs ≡ true → in_order None (drop n xs) ≡ true
order_drop before zero xs h = order_none before xs h
order_drop before (suc n) [] h = refl
order_drop before (suc n) (x ∷ xs) h = order_drop (Some x.key) n xs (and_parts (may_follow before x.key) (in_order (Some x.key) xs) h).1

-- the next siblings can be a node's branches
pub next_node : (level n f : ℕ) (rest : List Branch) → n ≡ min (length rest) f → 0 < length rest → 0 < f → f ≤ 256 → AreInOrder rest → IsIdxNode (record { level = level; branches = take n rest })
next_node level n f rest is some one most order =
    let e = length-take n rest in
    record {
      some = grind (arith, e, is, some, one);
      most = grind (arith, e, is, most);
      keys = keys_take n rest order.keys;
      order = order_take None n rest order.order;
    }

-- and be laid
pub next_ready : (geo : RawGeometry) (level n : ℕ) (siblings made rest : List Branch) (old new : OpenLeb) (was now : ℕ → List ℕ) → IsGeometry geo → n ≡ min (length rest) geo.fanout → 0 < length rest
    → AreNodesReady geo (level_lens geo.fanout (length siblings)) old was → IsLevelUnderWay geo level siblings made rest old was new now → AreNodesReady geo (len_over n ∷ []) new now
next_ready geo level n siblings made rest old new was now g is some ready under =
    let wide = g.fanout.0 in
    let more = level_lens geo.fanout (length rest - n) in
    let step : level_lens geo.fanout (length rest) ≡ len_over n ∷ more = level_step geo.fanout (length rest) n (omega (arith, wide)) some is in
    let same : taken_after geo new (len_over n ∷ more) ≡ taken_after geo old (level_lens geo.fanout (length siblings)) =
    under.lays.after (len_over n ∷ more) ∙ ap (taken_after geo old) (ap (λ (l : List ℕ). under.lens ++ l) (sym step) ∙ sym under.split) in
    let fewer = more_taken geo (len_over n ∷ []) more new in
    let long = ap length same in
    let all = ap length (under.split ∙ ap (λ (l : List ℕ). under.lens ++ l) step) in
    let parts = length-append under.lens (len_over n ∷ more) in
    let room = ready.room in
    let number = ready.number in
    let counted = under.lays.number in
    let many = under.lays.many in
    let first = under.lays.first in
    record {
      is_open = under.lays.is_open;
      room = omega (arith, fewer, long, room, first);
      number = omega (arith, all, parts, number, counted, many);
    }

-- it goes into LEBs of the level
pub next_within : (geo : RawGeometry) (level n : ℕ) (siblings made rest : List Branch) (old new : OpenLeb) (was now : ℕ → List ℕ) → IsGeometry geo → n ≡ min (length rest) geo.fanout → 0 < length rest
    → IsLevelUnderWay geo level siblings made rest old was new now
    → new.first + length (taken_after geo new (len_over n ∷ [])) ≤ old.first + length (taken_after geo old (level_lens geo.fanout (length siblings)))
next_within geo level n siblings made rest old new was now g is some under =
    let wide = g.fanout.0 in
    let more = level_lens geo.fanout (length rest - n) in
    let step : level_lens geo.fanout (length rest) ≡ len_over n ∷ more = level_step geo.fanout (length rest) n (omega (arith, wide)) some is in
    let same : taken_after geo new (len_over n ∷ more) ≡ taken_after geo old (level_lens geo.fanout (length siblings)) =
    under.lays.after (len_over n ∷ more) ∙ ap (taken_after geo old) (ap (λ (l : List ℕ). under.lens ++ l) (sym step) ∙ sym under.split) in
    let fewer = more_taken geo (len_over n ∷ []) more new in
    let long = ap length same in
    let first = under.lays.first in
    omega (arith, fewer, long, first)

-- One node more.
pub level_more : (geo : RawGeometry) (level n : ℕ) (siblings made rest own behind : List Branch) (b : Branch) (old mid new : OpenLeb) (was then' now : ℕ → List ℕ) → IsGeometry geo
    → n ≡ min (length rest) geo.fanout → 0 < length rest → own ≡ take n rest → behind ≡ drop n rest
    → IsLevelUnderWay geo level siblings made rest old was mid then'
    → Lays geo (len_over (length own) ∷ []) (b ∷ []) mid then' new now
    → ((contents : ℕ → List ℕ) → GoesOnInLeb new now contents → IsIndexNodeAt contents b (record { level = level; branches = own }))
    → HasFirstKey b own
    → IsLevelUnderWay geo level siblings (made ++ b ∷ []) behind old was new now
level_more geo level n siblings made rest own behind b old mid new was then' now g is some own_is behind_is under lays stands key =
    let wide = g.fanout.0 in
    let f = geo.fanout in
    let front : own ≡ take f rest = own_is ∙ ap (λ (k : ℕ). take k rest) (is ∙ min_swap (length rest) f) ∙ take_min f rest in
    let back : behind ≡ drop f rest = behind_is ∙ ap (λ (k : ℕ). drop k rest) (is ∙ min_swap (length rest) f) ∙ drop_min f rest in
    let size : length own ≡ n = ap length own_is ∙ length-take n rest ∙ min_of n (length rest) f is in
    let left : length behind ≡ length rest - n = ap length behind_is ∙ length-drop n rest in
    let step : level_lens f (length rest) ≡ len_over n ∷ level_lens f (length rest - n) = level_step f (length rest) n (omega (arith, wide)) some is in
    let P : List Branch → Type 0 = λ l. AreOver f siblings (made ++ b ∷ []) l in
    record {
      lens = under.lens ++ len_over (length own) ∷ [];
      split = under.split ∙ ap (λ (l : List ℕ). under.lens ++ l) (step ∙ ap (λ (k : ℕ). len_over k ∷ level_lens f (length rest - n)) (sym size) ∙ ap (λ (k : ℕ). len_over (length own) ∷ level_lens f k) (sym left))
          ∙ sym (append_assoc under.lens (len_over (length own) ∷ []) (level_lens f (length behind)));
      lays = lays_then geo under.lens (len_over (length own) ∷ []) made (b ∷ []) old mid new was then' now under.lays lays;
      over = subst P (sym back) (over_more f siblings made rest b under.over (key_rest f b own rest (omega (arith, wide)) front key));
      stand = λ contents c. stand_more contents f level siblings made rest b under.over (under.stand contents (lays.goes_on contents c))
          (let N : List Branch → Type 0 = λ l. IsIndexNodeAt contents b (record { level = level; branches = l }) in subst N front (stands contents c));
      order = order_behind f rest behind back under.order;
    }
  where
    min_swap : (a b : ℕ) → min a b ≡ min b a
    min_swap a b = omega arith

    min_of : (n a f : ℕ) → n ≡ min a f → min n a ≡ n
    min_of n a f e = omega (arith, e)

    key_rest : (f : ℕ) (b : Branch) (own rest : List Branch) → 1 ≤ f → own ≡ take f rest → HasFirstKey b own → HasFirstKey b rest
    key_rest zero b own rest one e key = absurd (omega (arith, one))
    key_rest (suc f) b own [] one e key = let P : List Branch → Type 0 = λ l. HasFirstKey b l in subst P e key
    key_rest (suc f) b own (x ∷ rest) one e key = let P : List Branch → Type 0 = λ l. HasFirstKey b l in subst P e key

    order_behind : (f : ℕ) (rest behind : List Branch) → behind ≡ drop f rest → AreInOrder rest → AreInOrder behind
    order_behind f rest behind e h =
        let P : List Branch → Type 0 = λ l. AreInOrder l in
        subst P (sym e) (record { keys = keys_drop f rest h.keys; order = order_drop None f rest h.order })

-- All are laid.
pub level_lays : (geo : RawGeometry) (level : ℕ) (siblings made rest : List Branch) (old new : OpenLeb) (was now : ℕ → List ℕ) → rest ≡ []
    → IsLevelUnderWay geo level siblings made rest old was new now → Lays geo (level_lens geo.fanout (length siblings)) made old was new now
level_lays geo level siblings made rest old new was now e under =
    let P : List ℕ → Type 0 = λ l. Lays geo l made old was new now in
    let none : level_lens geo.fanout (length rest) ≡ [] = ap (λ (l : List Branch). level_lens geo.fanout (length l)) e ∙ level_none geo.fanout in
    subst P (sym (under.split ∙ ap (λ (l : List ℕ). under.lens ++ l) none ∙ append-nil under.lens)) under.lays

pub level_over : (geo : RawGeometry) (level : ℕ) (siblings made rest : List Branch) (old new : OpenLeb) (was now : ℕ → List ℕ) → rest ≡ []
    → IsLevelUnderWay geo level siblings made rest old was new now → AreOver geo.fanout siblings made []
level_over geo level siblings made rest old new was now e under = let P : List Branch → Type 0 = λ l. AreOver geo.fanout siblings made l in subst P e under.over

-- A key that may follow another: it is greater, or the same key of an entry
abbrev IsBehind : ℕ → ℕ → ℕ → ℕ → Bool → Type 0
IsBehind a0 a1 b0 b1 e = (a0 < b0) ⊎ ((a0 ≡ b0) × ((a1 < b1) ⊎ ((a1 ≡ b1) × (e ≡ true))))

to_behind : (a0 a1 b0 b1 : ℕ) (e : Bool) → (nat_lt a0 b0 || (a0 == b0 && (nat_lt a1 b1 || (a1 == b1 && e)))) ≡ true → IsBehind a0 a1 b0 b1 e
to_behind a0 a1 b0 b1 e h = elim (or_cases (nat_lt a0 b0) (a0 == b0 && (nat_lt a1 b1 || (a1 == b1 && e))) h) [
  | inl lt ↦ inl (ltb-true a0 b0 lt)
  | inr both ↦
      let parts = and_parts (a0 == b0) (nat_lt a1 b1 || (a1 == b1 && e)) both in
      inr (
        eqb-true a0 b0 parts.0,
        elim (or_cases (nat_lt a1 b1) (a1 == b1 && e) parts.1) [
          | inl lt ↦ inl (ltb-true a1 b1 lt)
          | inr eq ↦ let own = and_parts (a1 == b1) e eq in inr (eqb-true a1 b1 own.0, own.1)
        ],
      )
]

from_behind : (a0 a1 b0 b1 : ℕ) (e : Bool) → IsBehind a0 a1 b0 b1 e → (nat_lt a0 b0 || (a0 == b0 && (nat_lt a1 b1 || (a1 == b1 && e)))) ≡ true
from_behind a0 a1 b0 b1 e (inl lt) = or_left (nat_lt a0 b0) (a0 == b0 && (nat_lt a1 b1 || (a1 == b1 && e))) (lt-ltb a0 b0 lt)
from_behind a0 a1 b0 b1 e (inr (same, inl lt)) =
    or_right (nat_lt a0 b0) (a0 == b0 && (nat_lt a1 b1 || (a1 == b1 && e))) (and_from (a0 == b0) (nat_lt a1 b1 || (a1 == b1 && e)) (eq-eqb a0 b0 same) (or_left (nat_lt a1 b1) (a1 == b1 && e) (lt-ltb a1 b1 lt)))
from_behind a0 a1 b0 b1 e (inr (same, inr (equal, is))) =
    or_right (nat_lt a0 b0) (a0 == b0 && (nat_lt a1 b1 || (a1 == b1 && e)))
    (and_from (a0 == b0) (nat_lt a1 b1 || (a1 == b1 && e)) (eq-eqb a0 b0 same) (or_right (nat_lt a1 b1) (a1 == b1 && e) (and_from (a1 == b1) e (eq-eqb a1 b1 equal) is)))

behind_both : (a0 a1 b0 b1 c0 c1 : ℕ) (e g : Bool) → IsBehind a0 a1 b0 b1 e → IsBehind b0 b1 c0 c1 g → IsBehind a0 a1 c0 c1 g
behind_both a0 a1 b0 b1 c0 c1 e g (inl x) (inl y) = inl (omega (arith, x, y))
behind_both a0 a1 b0 b1 c0 c1 e g (inl x) (inr (s, y)) = inl (omega (arith, x, s))
behind_both a0 a1 b0 b1 c0 c1 e g (inr (s, x)) (inl y) = inl (omega (arith, y, s))
behind_both a0 a1 b0 b1 c0 c1 e g (inr (s, inl x)) (inr (t, inl y)) = inr (s ∙ t, inl (omega (arith, x, y)))
behind_both a0 a1 b0 b1 c0 c1 e g (inr (s, inl x)) (inr (t, inr (u, y))) = inr (s ∙ t, inl (omega (arith, x, u)))
behind_both a0 a1 b0 b1 c0 c1 e g (inr (s, inr (u, x))) (inr (t, inl y)) = inr (s ∙ t, inl (omega (arith, u, y)))
behind_both a0 a1 b0 b1 c0 c1 e g (inr (s, inr (u, x))) (inr (t, inr (v, y))) = inr (s ∙ t, inr (u ∙ v, y))

follows_both : (a b c : Key) → may_follow (Some a) b ≡ true → may_follow (Some b) c ≡ true → may_follow (Some a) c ≡ true
follows_both a b c h k =
    let x = key_words a in
    let y = key_words b in
    let z = key_words c in
    from_behind x.0 x.1 z.0 z.1 (is_entry c)
    (behind_both x.0 x.1 y.0 y.1 z.0 z.1 (is_entry b) (is_entry c) (to_behind x.0 x.1 y.0 y.1 (is_entry b) h) (to_behind y.0 y.1 z.0 z.1 (is_entry c) k))

-- what may follow a key, may follow one before it
order_skip : (a b : Key) (xs : List Branch) → may_follow (Some a) b ≡ true → in_order (Some b) xs ≡ true → in_order (Some a) xs ≡ true
order_skip a b [] h k = refl
order_skip a b (x ∷ xs) h k =
    let parts = and_parts (may_follow (Some b) x.key) (in_order (Some x.key) xs) k in
    and_from (may_follow (Some a) x.key) (in_order (Some x.key) xs) (follows_both a b x.key h parts.0) parts.1

order_past : (a : Key) (n : ℕ) (xs : List Branch) → in_order (Some a) xs ≡ true → in_order (Some a) (drop n xs) ≡ true
order_past a zero xs h = h
order_past a (suc n) [] h = refl
order_past a (suc n) (x ∷ xs) h =
    let parts = and_parts (may_follow (Some a) x.key) (in_order (Some x.key) xs) h in
    order_past a n xs (order_skip a x.key xs parts.0 parts.1)

same_key : (a b : Key) → a ∷ [] ≡ b ∷ [] → a ≡ b
same_key a b e = cc

order_over : (f : ℕ) (before : Option Key) (siblings made left : List Branch) → 1 ≤ f → AreOver f siblings made left → in_order before siblings ≡ true → in_order before made ≡ true
order_over f before siblings [] left one over h = refl
order_over zero before siblings (b ∷ bs) left one over h = absurd (omega (arith, one))
order_over (suc f) before [] (b ∷ bs) left one over h = absurd cc
order_over (suc f) before (s ∷ siblings) (b ∷ bs) left one over h =
    let parts = and_parts (may_follow before s.key) (in_order (Some s.key) siblings) h in
    let e = same_key s.key b.key over.0 in
    let P : Key → Type 0 = λ k. may_follow before k ≡ true in
    let Q : Key → Type 0 = λ k. in_order (Some k) bs ≡ true in
    and_from (may_follow before b.key) (in_order (Some b.key) bs) (subst P e parts.0)
    (subst Q e (order_over (suc f) (Some s.key) (drop f siblings) bs left one over.1 (order_past s.key f siblings parts.1)))

keys_over : (f : ℕ) (siblings made left : List Branch) → AreOver f siblings made left → AllByRecursion (λ (b : Branch). IsKey b.key) siblings → AllByRecursion (λ (b : Branch). IsKey b.key) made
keys_over f siblings [] left over h = tt
keys_over f [] (b ∷ bs) left over h = absurd cc
keys_over f (s ∷ siblings) (b ∷ bs) left over h =
    let P : Key → Type 0 = λ k. IsKey k in
    (subst P (same_key s.key b.key over.0) h.0, keys_over f (drop f (s ∷ siblings)) bs left over.1 (keys_drop f (s ∷ siblings) h))

-- Branches to nodes over siblings that are in order are in order.
pub level_order : (f : ℕ) (siblings made left : List Branch) → 1 ≤ f → AreOver f siblings made left → AreInOrder siblings → AreInOrder made
level_order f siblings made left one over h = record { keys = keys_over f siblings made left over h.keys; order = order_over f None siblings made left one over h.order }
