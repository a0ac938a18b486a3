-- A leaf that needn't stand because its inode is listed needn't once a commit's list may be there too: that has the inode.
use Rattle.std.proofs.Common.{◌≡◌, ◌⊎◌, ℕ, true, List, [], ◌∷◌, refl, sym, ap, subst, inl, inr, Option, Some, None}
use Rattle.std.specs.Option.{option_map}
use Rattle.fs_model.specs.declared.change.Change.{Change}
use Rattle.fs_model.specs.declared.change.Change.TheVariants.{SetInode, SetEntry, DropEntry, SetBlock, CutBlocks, DropInode}
use Rattle.fs_model.specs.Files.{Tree}
use Rattle.fs_model.specs.Orphan.{is_nameless}
use Rattle.leaf_map.specs.Kept.{Kept, shown_by}
use Rattle.store_model.specs.Events.{offer, offered}
use Rattle.store_model.specs.Fits.{AreLeavesLeft, AreOfListed, faced_now, is_of_listed, IsLeafLeft, IsOfNameless, next_lists}
use Rattle.store_model.specs.Invariant.{AreViewOrphans, AreWhole, AreWholeOrLeft, faced_later, HasCommittedView, IsStore, KeepOrphans, OfBoth, OfNext}
use Rattle.store_model.specs.Lebs.{is_among}
use Rattle.store_model.specs.Store.{Next, Store}
use Rattle.store_model.proofs.RecoveryListed.{leaf_listed}

offer_whole : (m : Store) (lnum : ℕ) (kept : List Kept) → AreWhole m m.now lnum kept → AreWhole (offer m) (offer m).now lnum kept
offer_whole m lnum [] h = tt
offer_whole m lnum (x ∷ kept) h = (h.0, offer_whole m lnum kept h.1)

-- the inode of such a leaf is a committed one without links, so the list has it
of_list : (m : Store) (list : List ℕ) (s : Option Change) → HasCommittedView m.now → AreViewOrphans (is_among list) m.now → IsOfNameless (faced_now m) s → is_of_listed list s ≡ true
of_list m list s has on none = by s none
  where
    listed : (ino : ℕ) → is_nameless m.now.tree ino ≡ true → is_among list ino ≡ true
    listed ino lost = leaf_listed list ino m.now.kept (subst (λ (t : Tree). is_nameless t ino ≡ true) (sym has.tree) lost) on

    by : (s : Option Change) → IsOfNameless (faced_now m) s → is_of_listed list s ≡ true
    by (Some (SetInode ino inode)) stays = listed ino stays.0
    by (Some (SetBlock ino number bytes)) stays = listed ino stays.0
    by (Some (SetEntry e)) stays = absurd stays
    by (Some (DropEntry dir name)) stays = absurd stays
    by (Some (CutBlocks ino old new)) stays = absurd stays
    by (Some (DropInode ino)) stays = absurd stays
    by None stays = absurd stays

nameless_same : (m : Store) (s : Option Change) → IsOfNameless (faced_now m) s → IsOfNameless (faced_now (offer m)) s
nameless_same m (Some (SetInode ino inode)) stays = stays
nameless_same m (Some (SetBlock ino number bytes)) stays = stays
nameless_same m (Some (SetEntry e)) stays = absurd stays
nameless_same m (Some (DropEntry dir name)) stays = absurd stays
nameless_same m (Some (CutBlocks ino old new)) stays = absurd stays
nameless_same m (Some (DropInode ino)) stays = absurd stays
nameless_same m None stays = absurd stays

pub offer_left : (m : Store) (next : Next) → m.next ≡ Some next → HasCommittedView m.now → AreViewOrphans (is_among next.listed) m.now → (lnum : ℕ) (kept : List Kept) → AreLeavesLeft (faced_now m) lnum kept → AreLeavesLeft (faced_now (offer m)) lnum kept
offer_left m next e has on lnum [] h = tt
offer_left m next e has on lnum (x ∷ kept) h = (λ at. by (h.0 at), offer_left m next e has on lnum kept h.1)
  where
    lists : next_lists (offer m).next ≡ next.listed ∷ []
    lists = ap (λ (o : Option Next). next_lists (option_map offered o)) e

    by : IsLeafLeft (faced_now m) x → IsLeafLeft (faced_now (offer m)) x
    by (inl copy) = inl copy
    by (inr (inl touched)) = inr (inl touched)
    by (inr (inr (of, none))) =
        let one = of_list m next.listed (shown_by x) has on none in
        let both : AreOfListed (m.listed ∷ next.listed ∷ []) x = (of.0, (one, tt)) in
        inr (inr (subst (λ (ls : List (List ℕ)). AreOfListed (m.listed ∷ ls) x) (sym lists) both, nameless_same m (shown_by x) none))

pub offer_keeps_left : (m : Store) → IsStore m → OfBoth (offer m) (AreWholeOrLeft (offer m))
offer_keeps_left m s = (now, later m.next s.whole_or_left.1)
  where
    by : (o : Option Next) → m.next ≡ o → KeepOrphans m o → (lnum : ℕ) → AreWhole m m.now lnum m.now.kept ⊎ AreLeavesLeft (faced_now m) lnum m.now.kept → AreWhole (offer m) m.now lnum m.now.kept ⊎ AreLeavesLeft (faced_now (offer m)) lnum m.now.kept
    by o e orphans lnum (inl whole) = inl (offer_whole m lnum m.now.kept whole)
    by (Some next) e orphans lnum (inr left) = inr (offer_left m next e s.views.committed.0 orphans.0 lnum m.now.kept left)
    by None e orphans lnum (inr left) = inr (subst (λ (o : Option Next). AreLeavesLeft (record (faced_now m) { lists = m.listed ∷ next_lists (option_map offered o) }) lnum m.now.kept) (sym e) (subst (λ (o : Option Next). AreLeavesLeft (record (faced_now m) { lists = m.listed ∷ next_lists o }) lnum m.now.kept) e left))

    now : AreWholeOrLeft (offer m) (faced_now (offer m))
    now lnum = by m.next refl s.orphans.later lnum (s.whole_or_left.0 lnum)

    later_whole : (next : Next) (lnum : ℕ) (kept : List Kept) → AreWhole m next.view lnum kept → AreWhole (offer m) (offered next).view lnum kept
    later_whole next lnum [] h = tt
    later_whole next lnum (x ∷ kept) h = (h.0, later_whole next lnum kept h.1)

    later : (o : Option Next) → OfNext m o (AreWholeOrLeft m) → OfNext (offer m) (option_map offered o) (AreWholeOrLeft (offer m))
    later None h = tt
    later (Some next) h = λ lnum. which lnum (h lnum)
      where
        which : (lnum : ℕ) → AreWhole m next.view lnum next.view.kept ⊎ AreLeavesLeft (faced_later m next) lnum next.view.kept → AreWhole (offer m) next.view lnum next.view.kept ⊎ AreLeavesLeft (faced_later (offer m) (offered next)) lnum next.view.kept
        which lnum (inl whole) = inl (later_whole next lnum next.view.kept whole)
        which lnum (inr left) = inr left
