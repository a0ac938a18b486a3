-- A running commit's nodes are to stand one behind another in the LEBs that it took, and all others in none of these.
use Rattle.std.proofs.Common.{◌≡◌, ◌∙◌, ℕ, Bool, true, false, cond, not, List, [], ◌∷◌, length, map, refl, sym, ap, subst, Option, Some, None}
use Rattle.std.specs.Prelude.{◌+◌, ◌*◌, fold, nat_le}
use Rattle.std.specs.List.{list_all}
use Rattle.std.specs.Option.{option_map, option_map_or}
use Rattle.std.proofs.lemmas.Bool.{false≢true}
use Rattle.ubifs_base.specs.declared.raw_geometry.RawGeometry.{RawGeometry}
use Rattle.media_lpt.specs.declared.leb_kind.LebKind.{LebKind}
use Rattle.media_lpt.specs.declared.leb_kind.LebKind.TheVariants as kind
use Rattle.index_tree.specs.Shape.{node_count}
use Rattle.fs_model.specs.Cover.{index_lebs}
use Rattle.store_model.specs.Events.{after, after_part, Begin, clean_places, credit, dirty_count, Drop, End, end_commit, Event, Free, free_victim, granted, in_next, Move, Offer, offered, Open, paid, Part, Payment, Put, put, Putting, start, Start, Sync, Write, write_index}
use Rattle.store_model.specs.Heads.{with_head_group}
use Rattle.store_model.specs.Invariant.{HasAllotted, IsAllotted, IsStore}
use Rattle.store_model.specs.Lebs.{has_role, is_among, is_role, space_of}
use Rattle.store_model.specs.Legal.{CanStart, IsLegalEvent}
use Rattle.store_model.specs.Store.{Bud, Moving, Next, IndexNodePlace, Store}
use Rattle.store_model.proofs.LebRows.{all_weaker, has_row, one_role, role_row, rows, to_rows}
use Rattle.store_model.proofs.LebStarts.{taken_free}
use Rattle.store_model.proofs.NextIndexes.{nodes_there}
use Rattle.store_model.proofs.TakingStarts.{all_dirty, none_placed}

-- what is put, and what is written, changes no place
in_allotted : (geo : RawGeometry) (change : List Bud → List Bud) (n : ℕ) (next : Option Next) → HasAllotted geo next → HasAllotted geo (option_map (in_next change n) next)
in_allotted geo change n None h = tt
in_allotted geo change n (Some next) h = record { clean = h.clean; places = h.places; lebs = h.lebs; apart = h.apart }

offer_allotted : (geo : RawGeometry) (next : Option Next) → HasAllotted geo next → HasAllotted geo (option_map offered next)
offer_allotted geo None h = tt
offer_allotted geo (Some next) h = record { clean = h.clean; places = h.places; lebs = h.lebs; apart = h.apart }

write_allotted : (m : Store) (next : Option Next) → m.next ≡ next → HasAllotted m.geo m.next → HasAllotted (write_index m next).geo (write_index m next).next
write_allotted m None e h = h
write_allotted m (Some next) e h =
    let old : IsAllotted m.geo next = subst (λ (o : Option Next). HasAllotted m.geo o) e h in
    record { clean = old.clean; places = old.places; lebs = old.lebs; apart = old.apart }

parts_allotted : (parts : List Part) (m : Store) → HasAllotted m.geo m.next → HasAllotted (fold after_part m parts).geo (fold after_part m parts).next
parts_allotted [] m h = h
parts_allotted (part ∷ parts) m h = parts_allotted parts (after_part m part) (in_allotted m.geo (with_head_group part.head part.group) (length part.group) m.next h)

put_allotted : (m : Store) (p : Putting) → HasAllotted m.geo m.next → HasAllotted (put p m).geo (put p m).next
put_allotted m p h = by p.payment (parts_allotted p.parts m h)
  where
    end : Store
    end = fold after_part m p.parts

    by : (payment : Payment) → HasAllotted end.geo end.next → HasAllotted (record (paid payment end) { index = p.index }).geo (record (paid payment end) { index = p.index }).next
    by credit h = h
    by granted h = h

free_allotted : (m : Store) (moving : Option Moving) → HasAllotted m.geo m.next → HasAllotted (free_victim m moving).geo (free_victim m moving).next
free_allotted m None h = h
free_allotted m (Some moving) h = h

end_allotted : (m : Store) (next : Option Next) → HasAllotted m.geo m.next → HasAllotted (end_commit m next).geo (end_commit m next).next
end_allotted m None h = h
end_allotted m (Some next) h = tt

-- ---- a commit starts
-- a LEB of the index is none of those that were empty
not_taken : (m : Store) (taken : List ℕ) → CanStart m taken → IsStore m → (o : Option IndexNodePlace) → option_map_or (λ (place : IndexNodePlace). has_role kind.Index m.lebs place.lnum) o true ≡ true
    → option_map_or (λ (place : IndexNodePlace). not (is_among taken place.lnum)) o true ≡ true
not_taken m taken can s None h = refl
not_taken m taken can s (Some place) h = by (is_among taken place.lnum) refl
  where
    free : list_all (has_row kind.Free (rows m.lebs)) taken ≡ true
    free = all_weaker (has_role kind.Free m.lebs) (has_row kind.Free (rows m.lebs)) (λ n h. sym (role_row kind.Free m.lebs n) ∙ h) taken can.empty

    by : (b : Bool) → is_among taken place.lnum ≡ b → not b ≡ true
    by true e =
        let index : has_row kind.Index (rows m.lebs) place.lnum ≡ true = sym (role_row kind.Index m.lebs place.lnum) ∙ h in
        let same : kind.Free ≡ kind.Index = one_role kind.Free kind.Index (rows m.lebs) place.lnum (to_rows m s.apart).numbers (taken_free (rows m.lebs) taken place.lnum free e) index in
        absurd (false≢true (subst (λ (r : LebKind). is_role kind.Free r ≡ true) same refl))
    by false e = refl

record IsClean (m : Store) (taken : List ℕ) (clean : List (Option IndexNodePlace)) : Type 0 where
  lebs : length taken ≡ index_lebs m.geo (dirty_count clean)
  apart : list_all (λ o. option_map_or (λ (place : IndexNodePlace). not (is_among taken place.lnum)) o true) clean ≡ true

start_clean : (m : Store) (taken : List ℕ) → CanStart m taken → IsStore m → IsClean m taken (clean_places m)
start_clean m taken can s = by (nat_le ((space_of m).index + index_lebs m.geo (dirty_count m.index.places)) (2 * index_lebs m.geo (space_of m).weight)) can.count
  where
    by : (b : Bool) → length taken ≡ cond b (index_lebs m.geo (dirty_count m.index.places)) (index_lebs m.geo (node_count m.index.shape)) → IsClean m taken (cond (not b) (map (λ place. None) m.index.places) m.index.places)
    by true long = record {
      lebs = long;
      apart = all_weaker (λ (o : Option IndexNodePlace). option_map_or (λ (place : IndexNodePlace). has_role kind.Index m.lebs place.lnum) o true) (λ o. option_map_or (λ (place : IndexNodePlace). not (is_among taken place.lnum)) o true)
          (not_taken m taken can s) m.index.places (nodes_there m can.idle s);
    }
    by false long = record {
      lebs = long ∙ ap (index_lebs m.geo) (sym (all_dirty m.index.places ∙ s.places));
      apart = none_placed (λ n. not (is_among taken n)) m.index.places;
    }

start_allotted : (m : Store) (taken : List ℕ) → CanStart m taken → IsStore m → HasAllotted (start taken m).geo (start taken m).next
start_allotted m taken can s = let is = start_clean m taken can s in record { clean = clean_places m; places = refl; lebs = is.lebs; apart = is.apart }

-- ---- each event
pub each_allotted : (m : Store) (event : Event) → IsLegalEvent m event → IsStore m → HasAllotted (after event m).geo (after event m).next
each_allotted m (Put p) can s = put_allotted m p s.allotted
each_allotted m (Open head lnum) can s = in_allotted m.geo _ 0 m.next s.allotted
each_allotted m Sync can s = s.allotted
each_allotted m (Begin victim) can s = s.allotted
each_allotted m (Move c) can s = in_allotted m.geo _ 0 m.next s.allotted
each_allotted m Free can s = free_allotted m m.moving s.allotted
each_allotted m (Start taken) can s = start_allotted m taken can s
each_allotted m Write can s = write_allotted m m.next refl s.allotted
each_allotted m Offer can s = offer_allotted m.geo m.next s.allotted
each_allotted m End can s = end_allotted m m.next s.allotted
each_allotted m (Drop ino index) can s = s.allotted
