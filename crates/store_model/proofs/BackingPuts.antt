-- A put, as a backing's: its groups are made of the tree, and stand last at their heads.
use Rattle.std.proofs.Common.{◌≡◌, ◌⊎◌, ◌≤◌, ℕ, ◌-◌, arith, Bool, true, false, cond, List, [], ◌∷◌, ◌++◌, length, map, refl, sym, ap, subst, ◌∙◌, inl, inr, Option, Some, None, append_assoc, append-nil}
use Rattle.std.specs.Prelude.{◌==◌, ◌||◌, fold}
use Rattle.std.specs.List.{flat_map}
use Rattle.std.specs.Option.{option_or}
use Rattle.std.proofs.lemmas.Bool.{false≢true}
use Rattle.std.proofs.lemmas.List.{map-append}
use Rattle.std.proofs.lemmas.List.Sums.{fold-append}
use Rattle.fs_model.specs.declared.change.Change.{Change}
use Rattle.fs_model.specs.declared.page_node.PageNode.{PageNode}
use Rattle.fs_model.specs.Backing.{IsGroupPut, IsPagePut, page_puts}
use Rattle.fs_model.specs.Change.{applied, apply}
use Rattle.fs_model.specs.Files.{Tree}
use Rattle.fs_model.specs.Journal.{Leaves, MightLeave, Puts, with_group_at}
use Rattle.fs_model.specs.Recovery.{Head}
use Rattle.store_model.specs.Backing.{Outside, backing_of, store_journal_of, puts_of}
use Rattle.store_model.specs.Events.{after_part, credit, end_at, granted, paid, Part, Payment, put, Putting}
use Rattle.store_model.specs.Heads.{changes_of, groups_of_head, has_bud, heads_of, numbered_group, with_head_group}
use Rattle.store_model.specs.Invariant.{AreRolesApart, last_bud}
use Rattle.store_model.specs.Legal.{AreLegalParts, FitHead, IsPaid, IsLegalPart, nodes_of_parts}
use Rattle.store_model.specs.Store.{At, Bud, Carried, Store}
use Rattle.store_model.proofs.Apart.{groups_other}
use Rattle.store_model.proofs.LebPuts.{end_bud, part_apart}
use Rattle.store_model.proofs.Numbers.{consecutive_next}
use Rattle.store_model.proofs.PutGroups.{none_of}

-- ---- the tree and the numbers
abbrev all_changes : List Part → List Change
all_changes parts = flat_map (λ part. changes_of part.group) parts

parts_tree : (parts : List Part) (m : Store) → (fold after_part m parts).tree ≡ apply m.tree (all_changes parts)
parts_tree [] m = refl
parts_tree (part ∷ parts) m = parts_tree parts (after_part m part) ∙ sym (fold-append applied m.tree (changes_of part.group) (all_changes parts))

record IsLikeIn (m k : Store) : Type 0 where
  credits : k.credits ≡ m.credits
  grant : k.grant ≡ m.grant
  closed : k.closed ≡ m.closed

parts_like : (parts : List Part) (m : Store) → IsLikeIn m (fold after_part m parts)
parts_like [] m = record { credits = refl; grant = refl; closed = refl }
parts_like (part ∷ parts) m = let rest = parts_like parts (after_part m part) in record { credits = rest.credits; grant = rest.grant; closed = rest.closed }

paid_tree : (payment : Payment) (m : Store) → (paid payment m).tree ≡ m.tree
paid_tree credit m = refl
paid_tree granted m = refl

paid_closed : (payment : Payment) (m : Store) → (paid payment m).closed ≡ m.closed
paid_closed credit m = refl
paid_closed granted m = refl

put_tree : (m : Store) (p : Putting) → (put p m).tree ≡ apply m.tree (all_changes p.parts)
put_tree m p = paid_tree p.payment (fold after_part m p.parts) ∙ parts_tree p.parts m

closed_no_more : (m : Store) (p : Putting) → length (put p m).closed ≤ length m.closed
closed_no_more m p = let same = ap (λ (l : List ℕ). length l) (paid_closed p.payment (fold after_part m p.parts) ∙ (parts_like p.parts m).closed) in omega (arith, same)

pub group_put : (m : Store) (p : Putting) (part : Part) (outside : Outside) → p.payment ≡ granted → p.parts ≡ part ∷ [] → IsGroupPut (backing_of m outside) (backing_of (put p m) outside) (changes_of part.group)
group_put m p part outside pays one = record {
  tree = put_tree m p ∙ ap (apply m.tree) (ap all_changes one ∙ append-nil (changes_of part.group));
  credits = ap (λ (payment : Payment). (paid payment (fold after_part m p.parts)).credits) pays ∙ (parts_like p.parts m).credits;
  grant = ap (λ (payment : Payment). (paid payment (fold after_part m p.parts)).grant) pays;
  closed = closed_no_more m p;
}

puts_changes : (parts : List Part) → all_changes parts ≡ flat_map (λ put. put.1) (puts_of parts)
puts_changes [] = refl
puts_changes (part ∷ parts) = ap (λ (z : List Change). changes_of part.group ++ z) (puts_changes parts)

pub page_put : (m : Store) (p : Putting) (page : PageNode) (outside : Outside) → IsPaid m p.payment (nodes_of_parts p.parts) → p.payment ≡ credit → puts_of p.parts ≡ page_puts page
    → IsPagePut (backing_of m outside) (backing_of (put p m) outside) page
page_put m p page outside pays by_credit is = record {
  tree = put_tree m p ∙ ap (apply m.tree) (puts_changes p.parts ∙ ap (λ (puts : List (ℕ × List Change)). flat_map (λ put. put.1) puts) is);
  credits =
      let some = (subst (λ (payment : Payment). IsPaid m payment (nodes_of_parts p.parts)) by_credit pays).0 in
      let left = ap (λ (payment : Payment). (paid payment (fold after_part m p.parts)).credits) by_credit ∙ ap (λ (n : ℕ). n - 1) (parts_like p.parts m).credits in
      omega (arith, some, left);
  grant = ap (λ (payment : Payment). (paid payment (fold after_part m p.parts)).grant) by_credit ∙ (parts_like p.parts m).grant;
  closed = closed_no_more m p;
}

-- ---- the heads
pub has_last : (buds : List Bud) (head l : ℕ) → last_bud buds head ≡ Some l → has_bud head buds ≡ true
has_last [] head l e = absurd cc
has_last (bud ∷ buds) head l e = by (has_last buds head) (last_bud buds head) refl (bud.head == head) e
  where
    by : ((k : ℕ) → last_bud buds head ≡ Some k → has_bud head buds ≡ true) → (o : Option ℕ) → last_bud buds head ≡ o → (b : Bool) → option_or o (cond b (Some bud.lnum) None) ≡ Some l → (b || has_bud head buds) ≡ true
    by rest o same true e = refl
    by rest (Some k) same false e = rest k same
    by rest None same false e = absurd cc

pub groups_added : (h : ℕ) (group : List Carried) (buds : List Bud) → has_bud h buds ≡ true → groups_of_head h (with_head_group h group buds) ≡ groups_of_head h buds ++ group ∷ []
groups_added h group [] has = absurd (false≢true has)
groups_added h group (bud ∷ buds) has = by (groups_added h group buds) (has_bud h buds) refl (bud.head == h) refl has
  where
    by : (has_bud h buds ≡ true → groups_of_head h (with_head_group h group buds) ≡ groups_of_head h buds ++ group ∷ []) → (o : Bool) → has_bud h buds ≡ o → (m : Bool) → (bud.head == h) ≡ m → (m || o) ≡ true → groups_of_head h (with_head_group h group (bud ∷ buds)) ≡ groups_of_head h (bud ∷ buds) ++ group ∷ []
    by rest true o true m any = rw (o, m, m) (ap (λ gs. bud.groups ++ gs) (rest o) ∙ sym (append_assoc bud.groups (groups_of_head h buds) (group ∷ [])))
    by rest true o false m any = rw (o, m, m) (rest o)
    by rest false o true m any =
        let none = none_of h buds o in
        rw (m, o, m) (ap (λ gs. (bud.groups ++ group ∷ []) ++ gs) none ∙ append-nil (bud.groups ++ group ∷ []) ∙ sym (ap (λ gs. (bud.groups ++ gs) ++ group ∷ []) none ∙ ap (λ gs. gs ++ group ∷ []) (append-nil bud.groups)))
    by rest false o false m any = absurd (false≢true any)

pub heads_put : (h : ℕ) (group : List Carried) (buds : List Bud) (synced : List ℕ) → (h ≡ 1) ⊎ (h ≡ 2) → has_bud h buds ≡ true → heads_of (with_head_group h group buds) synced ≡ with_group_at (heads_of buds synced) h (numbered_group group)
heads_put h group buds synced (inl one) has =
    let mine = subst (λ (k : ℕ). groups_of_head k (with_head_group h group buds) ≡ groups_of_head k buds ++ group ∷ []) one (groups_added h group buds has) in
    let other = groups_other 2 h group buds (ap (λ (k : ℕ). k == 2) one) in
    subst (λ (k : ℕ). heads_of (with_head_group h group buds) synced ≡ with_group_at (heads_of buds synced) k (numbered_group group)) (sym one)
    (rw (mine, other, map-append numbered_group (groups_of_head 1 buds) (group ∷ [])) refl)
heads_put h group buds synced (inr two) has =
    let mine = subst (λ (k : ℕ). groups_of_head k (with_head_group h group buds) ≡ groups_of_head k buds ++ group ∷ []) two (groups_added h group buds has) in
    let other = groups_other 1 h group buds (ap (λ (k : ℕ). k == 1) two) in
    subst (λ (k : ℕ). heads_of (with_head_group h group buds) synced ≡ with_group_at (heads_of buds synced) k (numbered_group group)) (sym two)
    (rw (mine, other, map-append numbered_group (groups_of_head 2 buds) (group ∷ [])) refl)

numbered_changes : (group : List Carried) → map (λ c. c.1) (numbered_group group) ≡ changes_of group
numbered_changes [] = refl
numbered_changes (c ∷ group) = ap (λ (z : List Change). c.change ∷ z) (numbered_changes group)

part_left : (m : Store) (part : Part) (more : List (ℕ × List Change)) (tree : Tree) → IsLegalPart m part → AreRolesApart m → MightLeave (store_journal_of (after_part m part)) more tree
    → MightLeave (store_journal_of m) ((part.head, changes_of part.group) ∷ more) tree
part_left m part more tree is a (heads, are, left) = by (end_at m.ends part.head) refl is.fits
  where
    by : (o : Option At) → end_at m.ends part.head ≡ o → FitHead m o (map (λ c. c.placed) part.group) → MightLeave (store_journal_of m) ((part.head, changes_of part.group) ∷ more) tree
    by None e fits = absurd fits
    by (Some at) e fits =
        let last = end_bud m.now.buds 0 part.head part.head m.ends at (omega arith) a.ends e in
        let stand = heads_put part.head part.group m.now.buds m.synced is.head (has_last m.now.buds part.head at.lnum last) in
        (heads, (numbered_group part.group, consecutive_next m.sqnum (numbered_group part.group) is.numbers, numbered_changes part.group, subst (λ (z : List Head). Puts (after_part m part).sqnum z more heads) stand are), left)

parts_left : (parts : List Part) (m : Store) (more : List (ℕ × List Change)) (tree : Tree) → AreLegalParts m parts → AreRolesApart m → MightLeave (store_journal_of (fold after_part m parts)) more tree
    → MightLeave (store_journal_of m) (puts_of parts ++ more) tree
parts_left [] m more tree are a left = left
parts_left (part ∷ parts) m more tree are a left =
    part_left m part (puts_of parts ++ more) tree are.0 a (parts_left parts (after_part m part) more tree are.1 (part_apart m part are.0 a) left)

paid_left : (p : Putting) (payment : Payment) (m : Store) (more : List (ℕ × List Change)) (tree : Tree) → MightLeave (store_journal_of (record (paid payment m) { index = p.index })) more tree → MightLeave (store_journal_of m) more tree
paid_left p credit m more tree left = left
paid_left p granted m more tree left = left

pub put_leaves : (m : Store) (p : Putting) → AreLegalParts m p.parts → AreRolesApart m → Leaves (store_journal_of m) (store_journal_of (put p m)) (puts_of p.parts)
put_leaves m p are a more tree left = parts_left p.parts m more tree are a (paid_left p p.payment (fold after_part m p.parts) more tree left)
