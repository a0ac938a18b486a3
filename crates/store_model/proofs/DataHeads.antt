-- The head of data has blocks alone, after each event too.
use Rattle.std.proofs.Common.{◌≡◌, ◌∙◌, ℕ, Bool, true, false, List, [], ◌∷◌, ◌++◌, refl, sym, ap, subst, inl, inr, Option, Some, None}
use Rattle.std.specs.Prelude.{◌==◌, fold}
use Rattle.std.specs.List.{flat_map, list_all}
use Rattle.std.specs.Option.{option_map}
use Rattle.std.proofs.lemmas.Bool.{and_from, and_parts, eqb-true}
use Rattle.std.proofs.lemmas.List.Folds.{list_all-append}
use Rattle.fs_model.specs.Recovery.{Numbered}
use Rattle.store_model.specs.Events.{after_part, begin, Copying, credit, drop_inode, end_commit, free_victim, granted, in_next, move, new_bud, offer, offered, open_buds, open_leb, paid, Part, Payment, put, Putting, start, sync, write_index}
use Rattle.store_model.specs.Heads.{changes_of, groups_of_head, numbered_group, with_copy, with_head_group}
use Rattle.store_model.specs.Invariant.{HasBlocks, HasDataHead, OfNext, head_numbers}
use Rattle.store_model.specs.Legal.{AreLegalParts, IsLegalPart, is_block}
use Rattle.store_model.specs.Store.{Bud, Carried, StoreIndex, Moving, Next, Store}
use Rattle.store_model.proofs.Apart.{groups_other}
use Rattle.store_model.proofs.BackingStarts.{no_groups}
use Rattle.store_model.proofs.EventNumbers.{groups_copied}
use Rattle.store_model.proofs.Opens.{groups_open}
use Rattle.store_model.proofs.PutGroups.{IsGrown, groups_put, numbers_end}

abbrev are_blocks : Numbered → Bool
are_blocks changes = list_all (λ c. is_block c.1) changes

carried_blocks : (group : List Carried) → list_all is_block (changes_of group) ≡ true → are_blocks (numbered_group group) ≡ true
carried_blocks [] h = refl
carried_blocks (c ∷ group) h =
    let p = and_parts (is_block c.change) (list_all is_block (changes_of group)) h in
    and_from (is_block c.change) (are_blocks (numbered_group group)) p.0 (carried_blocks group p.1)

-- ---- buds with the same groups, or a group more
same_blocks : (old new : List Bud) → groups_of_head 2 new ≡ groups_of_head 2 old → are_blocks (head_numbers old 2) ≡ true → are_blocks (head_numbers new 2) ≡ true
same_blocks old new same h = subst (λ (gs : List (List Carried)). are_blocks (flat_map numbered_group gs) ≡ true) (sym same) h

blocks_put : (h : ℕ) (group : List Carried) (buds : List Bud) → (h ≡ 2 → list_all is_block (changes_of group) ≡ true) → are_blocks (head_numbers buds 2) ≡ true → are_blocks (head_numbers (with_head_group h group buds) 2) ≡ true
blocks_put h group buds blocks old = by (h == 2) refl
  where
    grown : list_all is_block (changes_of group) ≡ true → IsGrown (groups_of_head 2 buds) group (groups_of_head 2 (with_head_group h group buds)) → are_blocks (head_numbers (with_head_group h group buds) 2) ≡ true
    grown all (inl same) = same_blocks buds (with_head_group h group buds) same old
    grown all (inr more) =
        let ns : Numbered = head_numbers buds 2 in
        subst (λ (gs : List (List Carried)). are_blocks (flat_map numbered_group gs) ≡ true) (sym more)
        (ap are_blocks (numbers_end (groups_of_head 2 buds) group) ∙ list_all-append (λ c. is_block c.1) ns (numbered_group group) ∙ and_from (are_blocks ns) (are_blocks (numbered_group group)) old (carried_blocks group all))

    by : (b : Bool) → (h == 2) ≡ b → are_blocks (head_numbers (with_head_group h group buds) 2) ≡ true
    by true e = grown (blocks (eqb-true h 2 e)) (groups_put 2 h group buds)
    by false e = same_blocks buds (with_head_group h group buds) (groups_other 2 h group buds e) old

-- buds that are changed so have blocks alone
abbrev KeepsBlocks : (List Bud → List Bud) → Type 0
KeepsBlocks change = (buds : List Bud) → are_blocks (head_numbers buds 2) ≡ true → are_blocks (head_numbers (change buds) 2) ≡ true

next_blocks : (change : List Bud → List Bud) (n : ℕ) (m k : Store) (next : Option Next) → KeepsBlocks change → OfNext m next (λ f. HasBlocks f.view) → OfNext k (option_map (in_next change n) next) (λ f. HasBlocks f.view)
next_blocks change n m k None keeps h = tt
next_blocks change n m k (Some next) keeps h = keeps next.view.buds h

same_next : (m k : Store) (next : Option Next) → OfNext m next (λ f. HasBlocks f.view) → OfNext k next (λ f. HasBlocks f.view)
same_next m k None h = tt
same_next m k (Some next) h = h

-- ---- events
part_data : (m : Store) (part : Part) → IsLegalPart m part → HasDataHead m → HasDataHead (after_part m part)
part_data m part is d =
    let keeps : KeepsBlocks (with_head_group part.head part.group) = λ buds h. blocks_put part.head part.group buds is.data_nodes h in
    (keeps m.now.buds d.0, next_blocks (with_head_group part.head part.group) _ m (after_part m part) m.next keeps d.1)

parts_data : (parts : List Part) (m : Store) → AreLegalParts m parts → HasDataHead m → HasDataHead (fold after_part m parts)
parts_data [] m are d = d
parts_data (part ∷ parts) m are d = parts_data parts (after_part m part) are.1 (part_data m part are.0 d)

pub put_data : (m : Store) (p : Putting) → AreLegalParts m p.parts → HasDataHead m → HasDataHead (put p m)
put_data m p are d = by p.payment (parts_data p.parts m are d)
  where
    end : Store
    end = fold after_part m p.parts

    by : (payment : Payment) → HasDataHead end → HasDataHead (record (paid payment end) { index = p.index })
    by credit d = (d.0, same_next end (record (paid credit end) { index = p.index }) end.next d.1)
    by granted d = (d.0, same_next end (record (paid granted end) { index = p.index }) end.next d.1)

pub open_data : (m : Store) (head lnum : ℕ) → HasDataHead m → HasDataHead (open_leb head lnum m)
open_data m head lnum d =
    let keeps : KeepsBlocks (λ buds. buds ++ new_bud head lnum 0 ∷ []) = λ buds h. same_blocks buds (buds ++ new_bud head lnum 0 ∷ []) (groups_open 2 head lnum buds) h in
    (keeps m.now.buds d.0, next_blocks (λ buds. buds ++ new_bud head lnum 0 ∷ []) 0 m (open_leb head lnum m) m.next keeps d.1)

pub move_data : (m : Store) (c : Copying) → HasDataHead m → HasDataHead (move c m)
move_data m c d =
    let keeps : KeepsBlocks (with_copy c.copy) = λ buds h. same_blocks buds (with_copy c.copy buds) (groups_copied 2 c.copy buds) h in
    (keeps m.now.buds d.0, next_blocks (with_copy c.copy) 0 m (move c m) m.next keeps d.1)

pub start_data : (m : Store) (taken : List ℕ) → HasDataHead m → HasDataHead (start taken m)
start_data m taken d = (d.0, same_blocks [] (open_buds 0 m.ends) (no_groups 2 0 m.ends) refl)

pub end_data : (m : Store) (next : Option Next) → m.next ≡ next → HasDataHead m → HasDataHead (end_commit m next)
end_data m None e d = d
end_data m (Some next) e d = (subst (λ (o : Option Next). OfNext m o (λ f. HasBlocks f.view)) e d.1, tt)

pub write_data : (m : Store) (next : Option Next) → m.next ≡ next → HasDataHead m → HasDataHead (write_index m next)
write_data m None e d = d
write_data m (Some next) e d = (d.0, subst (λ (o : Option Next). OfNext m o (λ f. HasBlocks f.view)) e d.1)

pub offer_data : (m : Store) → HasDataHead m → HasDataHead (offer m)
offer_data m d = (d.0, by m.next d.1)
  where
    by : (next : Option Next) → OfNext m next (λ f. HasBlocks f.view) → OfNext (offer m) (option_map offered next) (λ f. HasBlocks f.view)
    by None h = tt
    by (Some next) h = h

pub free_data : (m : Store) (moving : Option Moving) → HasDataHead m → HasDataHead (free_victim m moving)
free_data m None d = d
free_data m (Some moving) d = (d.0, same_next m (free_victim m (Some moving)) m.next d.1)

pub sync_data : (m : Store) → HasDataHead m → HasDataHead (sync m)
sync_data m d = (d.0, same_next m (sync m) m.next d.1)

pub begin_data : (m : Store) (victim : ℕ) → HasDataHead m → HasDataHead (begin victim m)
begin_data m victim d = (d.0, same_next m (begin victim m) m.next d.1)

pub drop_data : (m : Store) (ino : ℕ) (index : StoreIndex) → HasDataHead m → HasDataHead (drop_inode ino index m)
drop_data m ino index d = (d.0, same_next m (drop_inode ino index m) m.next d.1)
