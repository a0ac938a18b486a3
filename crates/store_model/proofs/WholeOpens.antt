-- Whole or left LEBs where a LEB is opened: no committed leaf that stands was in it.
use Rattle.std.proofs.Common.{◌≡◌, ◌⊎◌, ◌∙◌, ℕ, Bool, true, false, cond, List, [], ◌∷◌, ◌++◌, map, refl, sym, ap, subst, inl, inr, Option, Some, None}
use Rattle.std.specs.Prelude.{◌==◌, ◌&&◌, ◌||◌, ◌+◌, get_or, nat_le, not, take}
use Rattle.std.specs.List.{AllByRecursion, list_any}
use Rattle.std.specs.Option.{option_map}
use Rattle.std.proofs.lemmas.Bool.{eq-eqb, eqb-true, false≢true}
use Rattle.media_lpt.specs.declared.leb_kind.LebKind.TheVariants as kind
use Rattle.index_tree.specs.declared.leaf.Leaf.{Leaf}
use Rattle.fs_model.specs.declared.change.Change.{Change}
use Rattle.fs_model.specs.declared.change.Change.TheVariants.{CutBlocks, DropEntry, DropInode, SetBlock, SetEntry, SetInode}
use Rattle.fs_model.specs.Files.{Tree}
use Rattle.fs_model.specs.Orphan.{is_nameless}
use Rattle.fs_model.specs.Recovery.{Head}
use Rattle.leaf_map.specs.Kept.{Kept, Placed, shown, shown_by}
use Rattle.leaf_map.specs.LeafMap.{shows_same}
use Rattle.leaf_map.specs.Parts.{in_bud}
use Rattle.store_model.specs.Events.{end_at, in_next, new_bud, open_leb, padded_head}
use Rattle.store_model.specs.Fits.{AreLeavesLeft, AreOfListed, Faced, faced_now, IsLeafLeft, IsOfNameless, IsTouchedBy, IsUnset, named_by_log, next_lists}
use Rattle.store_model.specs.Heads.{copies_of, head_counts, heads_of, less}
use Rattle.store_model.specs.Invariant.{AreRolesApart, AreWhole, AreWholeOrLeft, faced_later, IsBareOfLeaves, IsMeantIn, OfBoth, OfNext, LeafStands}
use Rattle.store_model.specs.Lebs.{has_role}
use Rattle.store_model.specs.Store.{Bud, Leb, Next, Store, View}
use Rattle.store_model.proofs.BackingCalls.{heads_open}
use Rattle.store_model.proofs.BareLebs.{none_stands, own_rows}
use Rattle.store_model.proofs.BegunEvents.{same_since}
use Rattle.store_model.proofs.LebRows.{has_row, role_row, rows}
use Rattle.store_model.proofs.LiveLeaves.{changed_number, padded_stand, stands_map}
use Rattle.store_model.proofs.Opens.{copies_open, groups_open}
use Rattle.store_model.proofs.TextOpens.{opened}

-- ---- leaves that needn't stand
-- a master that leads to the same, but for a bud to which nothing was put
pub record IsAsLeft (f g : Faced) : Type 0 where
  pub tree : g.view.tree ≡ f.view.tree
  pub copies : copies_of g.view.buds ≡ copies_of f.view.buds
  pub synced : g.synced ≡ f.synced
  pub heads : heads_of g.view.buds g.synced ≡ heads_of f.view.buds f.synced
  pub lists : g.lists ≡ f.lists

nameless_as : (f g : Faced) → IsAsLeft f g → (s : Option Change) → IsOfNameless f s → IsOfNameless g s
nameless_as f g same (Some (SetInode ino inode)) h = (subst (λ (t : Tree). is_nameless t ino ≡ true) (sym same.tree) h.0, subst (λ (hs : List Head). IsUnset hs ino) (sym same.heads) h.1)
nameless_as f g same (Some (SetBlock ino block bytes)) h = (subst (λ (t : Tree). is_nameless t ino ≡ true) (sym same.tree) h.0, subst (λ (hs : List Head). IsUnset hs ino) (sym same.heads) h.1)
nameless_as f g same (Some (SetEntry entry)) h = absurd h
nameless_as f g same (Some (DropEntry dir name)) h = absurd h
nameless_as f g same (Some (CutBlocks ino old new)) h = absurd h
nameless_as f g same (Some (DropInode ino)) h = absurd h
nameless_as f g same None h = absurd h

pub left_as : (f g : Faced) (x : Kept) → IsAsLeft f g → IsLeafLeft f x → IsLeafLeft g x
left_as f g x same (inl copy) =
    let copied : List ℕ → List Placed → Bool = λ synced copies. list_any (λ c. (c.sqnum == x.sqnum) && shows_same (shown_by x) (shown c.node)) (take (get_or synced 0 0) copies) in
    inl (ap (λ (s : List ℕ). copied s (copies_of g.view.buds)) same.synced ∙ ap (copied f.synced) same.copies ∙ copy)
left_as f g x same (inr (inl touched)) = inr (inl (subst (λ (hs : List Head). IsTouchedBy hs x) (sym same.heads) touched))
left_as f g x same (inr (inr (of, none))) = inr (inr (subst (λ (ls : List (List ℕ)). AreOfListed ls x) (sym same.lists) of, nameless_as f g same (shown_by x) none))

pub all_left_as : (f g : Faced) (n : ℕ) (kept : List Kept) → IsAsLeft f g → AreLeavesLeft f n kept → AreLeavesLeft g n kept
all_left_as f g n [] same h = tt
all_left_as f g n (x ∷ kept) same h = (λ at. left_as f g x same (h.0 at), all_left_as f g n kept same h.1)

-- ---- leaves that stand
-- in another LEB a leaf is in no bud more
no_more : (lnum : ℕ) (bud : Bud) (leaf : Leaf) (buds : List Bud) → bud.lnum ≡ lnum → (lnum == leaf.lnum) ≡ false → in_bud (map named_by_log (buds ++ bud ∷ [])) leaf ≡ in_bud (map named_by_log buds) leaf
no_more lnum bud leaf [] is away = ap (λ (n : ℕ). ((n == leaf.lnum) && nat_le bud.from leaf.offs) || false) is ∙ ap (λ (b : Bool). (b && nat_le bud.from leaf.offs) || false) away
no_more lnum bud leaf (first ∷ buds) is away = ap (λ (b : Bool). ((first.lnum == leaf.lnum) && nat_le first.from leaf.offs) || b) (no_more lnum bud leaf buds is away)

whole_open : (m : Store) (head lnum : ℕ) (view : View) (n : ℕ) (kept : List Kept) → has_role kind.Free m.lebs lnum ≡ true → AreRolesApart m → AllByRecursion IsBareOfLeaves m.lebs → AreWhole m view n kept
    → AreWhole (open_leb head lnum m) (record view { buds = view.buds ++ new_bud head lnum 0 ∷ []; put = view.put + 0 }) n kept
whole_open m head lnum view n [] empty a bare h = tt
whole_open m head lnum view n (x ∷ kept) empty a bare h = (λ at. by (h.0 at) (lnum == x.leaf.lnum) refl, whole_open m head lnum view n kept empty a bare h.1)
  where
    before : List Leb
    before = padded_head m.geo m.lebs (end_at m.ends head)

    free : has_row kind.Free (rows m.lebs) lnum ≡ true
    free = sym (role_row kind.Free m.lebs lnum) ∙ empty

    keeps : (leb : Leb) → leb.lnum ≡ x.leaf.lnum → IsMeantIn x leb.text → (lnum == x.leaf.lnum) ≡ false → (b : Bool) → (leb.lnum == lnum) ≡ b → IsMeantIn x (cond b (opened leb) leb).text
    keeps leb same is away true e = absurd (false≢true (sym away ∙ eq-eqb lnum x.leaf.lnum (sym (eqb-true leb.lnum lnum e) ∙ same)))
    keeps leb same is away false e = is

    by : LeafStands m.lebs x × (not (in_bud (map named_by_log view.buds) x.leaf) ≡ true) → (b : Bool) → (lnum == x.leaf.lnum) ≡ b
        → LeafStands (open_leb head lnum m).lebs x × (not (in_bud (map named_by_log (view.buds ++ new_bud head lnum 0 ∷ [])) x.leaf) ≡ true)
    by w true e = absurd (none_stands m x m.lebs a (subst (λ (k : ℕ). has_row kind.Free (rows m.lebs) k ≡ true) (eqb-true lnum x.leaf.lnum e) free) (own_rows m.lebs) bare w.0)
    by w false e = (
      stands_map (λ leb. cond (leb.lnum == lnum) (opened leb) leb) x before (λ leb. changed_number lnum opened (λ leb. refl) leb (leb.lnum == lnum)) (λ leb same is. keeps leb same is e (leb.lnum == lnum) refl)
          (padded_stand m.geo m.lebs (end_at m.ends head) x w.0),
      ap not (no_more lnum (new_bud head lnum 0) x.leaf view.buds refl e) ∙ w.1,
    )

counts_open : (head lnum : ℕ) (buds : List Bud) → head_counts (buds ++ new_bud head lnum 0 ∷ []) ≡ head_counts buds
counts_open head lnum buds = rw (copies_open head lnum buds, groups_open 1 head lnum buds, groups_open 2 head lnum buds) refl

pub opened_now : (m : Store) (head lnum : ℕ) → IsAsLeft (faced_now m) (faced_now (open_leb head lnum m))
opened_now m head lnum = record { tree = refl; copies = copies_open head lnum m.now.buds; synced = refl; heads = heads_open head lnum m.now.buds m.synced; lists = ap (λ (ls : List (List ℕ)). m.listed ∷ ls) (lists m.next) }
  where
    lists : (next : Option Next) → next_lists (option_map (in_next (λ buds. buds ++ new_bud head lnum 0 ∷ []) 0) next) ≡ next_lists next
    lists None = refl
    lists (Some next) = refl

pub opened_later : (m : Store) (head lnum : ℕ) (next : Next) → IsAsLeft (faced_later m next) (faced_later (open_leb head lnum m) (in_next (λ buds. buds ++ new_bud head lnum 0 ∷ []) 0 next))
opened_later m head lnum next = record {
  tree = refl;
  copies = copies_open head lnum next.view.buds;
  synced = ap (λ (all : List ℕ). less m.synced (less all (head_counts after.view.buds))) (counts_open head lnum m.now.buds) ∙ ap (λ (last : List ℕ). less m.synced (less (head_counts m.now.buds) last)) (counts_open head lnum next.view.buds);
  heads = same_since (open_leb head lnum m) m next after refl (groups_open 1 head lnum m.now.buds) (groups_open 2 head lnum m.now.buds) (groups_open 1 head lnum next.view.buds) (groups_open 2 head lnum next.view.buds);
  lists = refl;
}
  where
    after : Next
    after = in_next (λ buds. buds ++ new_bud head lnum 0 ∷ []) 0 next

pub open_whole : (m : Store) (head lnum : ℕ) → has_role kind.Free m.lebs lnum ≡ true → AreRolesApart m → AllByRecursion IsBareOfLeaves m.lebs → OfBoth m (AreWholeOrLeft m) → OfBoth (open_leb head lnum m) (AreWholeOrLeft (open_leb head lnum m))
open_whole m head lnum empty a bare h = (now, later m.next h.1)
  where
    k : Store
    k = open_leb head lnum m

    now : AreWholeOrLeft k (faced_now k)
    now n = by (h.0 n)
      where
        by : AreWhole m m.now n m.now.kept ⊎ AreLeavesLeft (faced_now m) n m.now.kept → AreWhole k k.now n m.now.kept ⊎ AreLeavesLeft (faced_now k) n m.now.kept
        by (inl whole) = inl (whole_open m head lnum m.now n m.now.kept empty a bare whole)
        by (inr left) = inr (all_left_as (faced_now m) (faced_now k) n m.now.kept (opened_now m head lnum) left)

    later : (next : Option Next) → OfNext m next (AreWholeOrLeft m) → OfNext k (option_map (in_next (λ buds. buds ++ new_bud head lnum 0 ∷ []) 0) next) (AreWholeOrLeft k)
    later None g = tt
    later (Some next) g = λ n. by n (g n)
      where
        after : Next
        after = in_next (λ buds. buds ++ new_bud head lnum 0 ∷ []) 0 next

        by : (n : ℕ) → AreWhole m next.view n next.view.kept ⊎ AreLeavesLeft (faced_later m next) n next.view.kept → AreWhole k after.view n next.view.kept ⊎ AreLeavesLeft (faced_later k after) n next.view.kept
        by n (inl whole) = inl (whole_open m head lnum next.view n next.view.kept empty a bare whole)
        by n (inr left) = inr (all_left_as (faced_later m next) (faced_later k after) n next.view.kept (opened_later m head lnum next) left)
