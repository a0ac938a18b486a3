-- What the maps say after a change.
use Rattle.std.proofs.Common.{◌≡◌, ℕ, Bool, true, false, cond, not, List, refl, sym, ap, subst, ◌∙◌, Option, Some, None}
use Rattle.std.specs.Prelude.{filter}
use Rattle.std.specs.BTreeMap.{is_at}
use Rattle.std.specs.Option.{option_map}
use Rattle.std.specs.Ordering.{nat_cmp}
use Rattle.std.proofs.lemmas.Bool.{eq-eqb}
use Rattle.index_tree.specs.declared.leaf.Leaf.{Leaf}
use Rattle.fs_model.specs.declared.change.Change.TheVariants.{SetInode, SetEntry, DropEntry, DropInode}
use Rattle.fs_model.specs.declared.inode.Entry.{Entry}
use Rattle.fs_model.specs.declared.inode.Inode.{Inode}
use Rattle.fs_model.specs.Files.{name_cmp}
use Rattle.leaf_map.specs.After.{is_gone, is_inode, put_leaf}
use Rattle.leaf_map.specs.Kept.{Kept, shown_by}
use Rattle.log_replay.specs.Standing.{is_entry, is_linked_inode, is_name_shown, links_among, leaf_of_name}
use Rattle.log_replay.proofs.Finding.{filter_beside, filter_gone, put_beside, put_found}
use Rattle.log_replay.proofs.Tests.{all_other, all_stay, entry_is, entry_other, inode_is, inode_other, key, key_other, key_same, name_here, no_name, number_other, number_same}

abbrev links : Option Kept → Option Bool
links o = option_map (λ x. is_linked_inode (shown_by x)) o

abbrev pub place : Option Kept → Option Leaf
place o = option_map (λ x. x.leaf) o

-- an inode is set
pub links_set : (ino : ℕ) (inode : Inode) (new : Kept) (kept : List Kept) (q : ℕ) → shown_by new ≡ Some (SetInode ino inode)
    → links_among (put_leaf (is_gone (SetInode ino inode)) new kept) q ≡ cond (is_at (nat_cmp ino) q) (Some (is_linked_inode (shown_by new))) (links_among kept q)
links_set ino inode new kept q s = by (is_at (nat_cmp ino) q) refl
  where
    put : List Kept
    put = put_leaf (is_gone (SetInode ino inode)) new kept

    here : links_among put ino ≡ Some (is_linked_inode (shown_by new))
    here = ap links (put_found (λ x. is_inode ino (shown_by x)) (is_gone (SetInode ino inode)) new kept (ap (is_inode ino) s ∙ eq-eqb ino ino refl) (λ x. inode_is ino inode (shown_by x)))

    by : (b : Bool) → is_at (nat_cmp ino) q ≡ b → links_among put q ≡ cond b (Some (is_linked_inode (shown_by new))) (links_among kept q)
    by true e = subst (λ (n : ℕ). links_among put n ≡ Some (is_linked_inode (shown_by new))) (number_same ino q e) here
    by false e = ap links (put_beside (λ x. is_inode q (shown_by x)) (is_gone (SetInode ino inode)) new kept
        (inode_other ino q (number_other ino q e) (shown_by new) (ap (is_inode ino) s ∙ eq-eqb ino ino refl))
        (λ x g. inode_other ino q (number_other ino q e) (shown_by x) (sym (inode_is ino inode (shown_by x)) ∙ g)))

-- an inode goes
pub links_dropped : (ino : ℕ) (kept : List Kept) (q : ℕ) → links_among (filter (λ x. not (is_gone (DropInode ino) x)) kept) q ≡ cond (is_at (nat_cmp ino) q) None (links_among kept q)
links_dropped ino kept q = by (is_at (nat_cmp ino) q) refl
  where
    left : List Kept
    left = filter (λ x. not (is_gone (DropInode ino) x)) kept

    here : links_among left ino ≡ None
    here = ap links (filter_gone (λ x. is_inode ino (shown_by x)) (is_gone (DropInode ino)) kept (λ x g. all_stay ino (shown_by x) g))

    by : (b : Bool) → is_at (nat_cmp ino) q ≡ b → links_among left q ≡ cond b None (links_among kept q)
    by true e = subst (λ (n : ℕ). links_among left n ≡ None) (number_same ino q e) here
    by false e = ap links (filter_beside (λ x. is_inode q (shown_by x)) (is_gone (DropInode ino)) kept (λ x g. all_other ino q (number_other ino q e) (shown_by x) g))

-- something else is put, or goes
pub links_beside : (old : Kept → Bool) (new : Kept) (kept : List Kept) (q : ℕ) → is_inode q (shown_by new) ≡ false → ((x : Kept) → old x ≡ true → is_inode q (shown_by x) ≡ false) → links_among (put_leaf old new kept) q ≡ links_among kept q
links_beside old new kept q n h = ap links (put_beside (λ x. is_inode q (shown_by x)) old new kept n h)

pub links_stay : (gone : Kept → Bool) (kept : List Kept) (q : ℕ) → ((x : Kept) → gone x ≡ true → is_inode q (shown_by x) ≡ false) → links_among (filter (λ x. not (gone x)) kept) q ≡ links_among kept q
links_stay gone kept q h = ap links (filter_beside (λ x. is_inode q (shown_by x)) gone kept h)

-- a name is set
pub place_set : (e : Entry) (new : Kept) (kept : List Kept) (q : ℕ × List ℕ) → shown_by new ≡ Some (SetEntry e)
    → leaf_of_name (put_leaf (is_gone (SetEntry e)) new kept) q ≡ cond (is_at (name_cmp (key e)) q) (Some new.leaf) (leaf_of_name kept q)
place_set e new kept q s = by (is_at (name_cmp (key e)) q) refl
  where
    put : List Kept
    put = put_leaf (is_gone (SetEntry e)) new kept

    shows : is_name_shown (key e) (shown_by new) ≡ true
    shows = ap (is_name_shown (key e)) s ∙ name_here (key e) e refl

    here : leaf_of_name put (key e) ≡ Some new.leaf
    here = ap place (put_found (λ x. is_name_shown (key e) (shown_by x)) (is_gone (SetEntry e)) new kept shows (λ x. entry_is e (shown_by x)))

    by : (b : Bool) → is_at (name_cmp (key e)) q ≡ b → leaf_of_name put q ≡ cond b (Some new.leaf) (leaf_of_name kept q)
    by true t = subst (λ (k : ℕ × List ℕ). leaf_of_name put k ≡ Some new.leaf) (key_same (key e) q t) here
    by false t = ap place (put_beside (λ x. is_name_shown q (shown_by x)) (is_gone (SetEntry e)) new kept
        (entry_other (key e) q (key_other (key e) q t) (shown_by new) shows)
        (λ x g. entry_other (key e) q (key_other (key e) q t) (shown_by x) (sym (entry_is e (shown_by x)) ∙ g)))

-- a name goes
pub place_dropped : (dir : ℕ) (name : List ℕ) (kept : List Kept) (q : ℕ × List ℕ) → leaf_of_name (filter (λ x. not (is_gone (DropEntry dir name) x)) kept) q ≡ cond (is_at (name_cmp (dir, name)) q) None (leaf_of_name kept q)
place_dropped dir name kept q = by (is_at (name_cmp (dir, name)) q) refl
  where
    left : List Kept
    left = filter (λ x. not (is_gone (DropEntry dir name) x)) kept

    here : leaf_of_name left (dir, name) ≡ None
    here = ap place (filter_gone (λ x. is_name_shown (dir, name) (shown_by x)) (is_gone (DropEntry dir name)) kept (λ x g. g))

    by : (b : Bool) → is_at (name_cmp (dir, name)) q ≡ b → leaf_of_name left q ≡ cond b None (leaf_of_name kept q)
    by true t = subst (λ (k : ℕ × List ℕ). leaf_of_name left k ≡ None) (key_same (dir, name) q t) here
    by false t = ap place (filter_beside (λ x. is_name_shown q (shown_by x)) (is_gone (DropEntry dir name)) kept (λ x g. entry_other (dir, name) q (key_other (dir, name) q t) (shown_by x) g))

-- no name is put, or goes
pub place_beside : (old : Kept → Bool) (new : Kept) (kept : List Kept) (q : ℕ × List ℕ) → is_entry (shown_by new) ≡ false → ((x : Kept) → old x ≡ true → is_entry (shown_by x) ≡ false) → leaf_of_name (put_leaf old new kept) q ≡ leaf_of_name kept q
place_beside old new kept q n h = ap place (put_beside (λ x. is_name_shown q (shown_by x)) old new kept (no_name q (shown_by new) n) (λ x g. no_name q (shown_by x) (h x g)))

pub place_stay : (gone : Kept → Bool) (kept : List Kept) (q : ℕ × List ℕ) → ((x : Kept) → gone x ≡ true → is_entry (shown_by x) ≡ false) → leaf_of_name (filter (λ x. not (gone x)) kept) q ≡ leaf_of_name kept q
place_stay gone kept q h = ap place (filter_beside (λ x. is_name_shown q (shown_by x)) gone kept (λ x g. no_name q (shown_by x) (h x g)))
