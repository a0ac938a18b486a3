-- An inode without a name after all changes is a committed one, and listed.
use Rattle.std.proofs.Common.{◌≡◌, ℕ, Bool, true, false, cond, not, List, [], ◌∷◌, refl, sym, subst, inl, inr, Option, Some, None}
use Rattle.std.specs.Prelude.{◌==◌, ◌||◌}
use Rattle.std.specs.BTreeMap.{is_at}
use Rattle.std.specs.List.{list_all, list_any}
use Rattle.std.specs.Map.{lookup}
use Rattle.std.specs.Option.{option_map_or}
use Rattle.std.specs.Ordering.{nat_cmp, is_eq}
use Rattle.std.specs.declared.cmp.Ordering.{Ordering}
use Rattle.std.specs.declared.cmp.Ordering.TheVariants.{Less, Equal, Greater}
use Rattle.std.proofs.lemmas.Bool.{false≢true, and_parts, and_from}
use Rattle.std.proofs.lemmas.Map.Lookups.{exact_unsigned}
use Rattle.fs_model.specs.declared.change.Change.{Change}
use Rattle.fs_model.specs.declared.change.Change.TheVariants.{SetInode, SetEntry, DropEntry, SetBlock, CutBlocks, DropInode}
use Rattle.fs_model.specs.declared.inode.Inode.{Inode}
use Rattle.fs_model.specs.Change.{applied, apply}
use Rattle.fs_model.specs.Files.{Inodes, Tree, inode_at}
use Rattle.fs_model.specs.Orphan.{is_nameless}
use Rattle.fs_model.specs.Proper.{IsInOrder}
use Rattle.fs_model.specs.Recovery.{Numbered, as_replayed}
use Rattle.leaf_map.specs.Allowed.{in_turn}
use Rattle.leaf_map.specs.Kept.{Kept, shown_by}
use Rattle.leaf_map.specs.LastChange.{Made, last_made, later, makes_inode, there}
use Rattle.leaf_map.specs.Parts.{Parts}
use Rattle.leaf_map.specs.Recovered.{committed_highest}
use Rattle.leaf_map.specs.Shown.{inodes_of, tree_of, with_shown_inode}
use Rattle.store_model.specs.Fits.{Faced, FitsFaced, IsOneOfLists}
use Rattle.store_model.specs.Invariant.{HasCommittedView, HaveOrphans, is_listed}
use Rattle.store_model.specs.Lebs.{is_among}
use Rattle.store_model.specs.Recovery.{read_changes}
use Rattle.store_model.proofs.RecoveryOrder.{all_in_turn}
use Rattle.store_model.proofs.RecoverySafe.{SortedLaw, among_turned}

-- an inode is there that has no links
abbrev pub has_none : Option Inode → Bool
has_none o = option_map_or (λ inode. inode.nlink == 0) o false

-- a change sets no inode without links
abbrev pub gives_links : Change → Bool
gives_links (SetInode ino inode) = not (inode.nlink == 0)
gives_links change = true

replayed_gives : (c : Change) → gives_links (as_replayed c) ≡ true
replayed_gives (SetInode ino inode) = by (inode.nlink == 0) refl
  where
    by : (b : Bool) → (inode.nlink == 0) ≡ b → gives_links (cond b (DropInode ino) (SetInode ino inode)) ≡ true
    by true e = refl
    by false e = rw e refl
replayed_gives (SetEntry e) = refl
replayed_gives (DropEntry dir name) = refl
replayed_gives (SetBlock ino number bytes) = refl
replayed_gives (CutBlocks ino old new) = refl
replayed_gives (DropInode ino) = refl

all_give : (cs : Numbered) → list_all (λ c. gives_links (as_replayed c.1)) cs ≡ true
all_give [] = refl
all_give (c ∷ cs) = and_from (gives_links (as_replayed c.1)) (list_all (λ c. gives_links (as_replayed c.1)) cs) (replayed_gives c.1) (all_give cs)

-- what one such change leaves without links had none before
one_gives : (q : ℕ) (tree : Tree) (c : Change) (o : Option Inode) → gives_links c ≡ true → has_none (there (makes_inode q tree c) o) ≡ true → has_none o ≡ true
one_gives q tree (SetInode ino inode) o g h = by (ino == q) h
  where
    by : (b : Bool) → has_none (there (cond b (Some (Some inode)) None) o) ≡ true → has_none o ≡ true
    by true h = absurd (false≢true (subst (λ b. not b ≡ true) h g))
    by false h = h
one_gives q tree (DropInode ino) o g h = by (ino == q) h
  where
    by : (b : Bool) → has_none (there (cond b (Some None) None) o) ≡ true → has_none o ≡ true
    by true h = absurd (false≢true h)
    by false h = h
one_gives q tree (SetEntry e) o g h = h
one_gives q tree (DropEntry dir name) o g h = h
one_gives q tree (SetBlock ino number bytes) o g h = h
one_gives q tree (CutBlocks ino old new) o g h = h

there_later : {X : Type 0} → (a b : Made X) (o : Option X) → there (later a b) o ≡ there a (there b o)
there_later None b o = refl
there_later (Some made) b o = refl

made_gives : (q : ℕ) (changes : List Change) (tree : Tree) (o : Option Inode) → list_all gives_links changes ≡ true → has_none (there (last_made (makes_inode q) tree changes) o) ≡ true → has_none o ≡ true
made_gives q [] tree o g h = h
made_gives q (c ∷ changes) tree o g h =
    let p = and_parts (gives_links c) (list_all gives_links changes) g in
    let two = there_later (last_made (makes_inode q) (applied tree c) changes) (makes_inode q tree c) o in
    one_gives q tree c o p.0 (made_gives q changes (applied tree c) (there (makes_inode q tree c) o) p.1 (subst (λ (z : Option Inode). has_none z ≡ true) two h))

-- a committed inode without links is one of the leaves', and listed
pub at_number : (q ino : ℕ) → is_at (nat_cmp q) ino ≡ true → q ≡ ino
at_number q ino h = by (nat_cmp q ino) refl h
  where
    by : (o : Ordering) → nat_cmp q ino ≡ o → is_eq o ≡ true → q ≡ ino
    by Less e t = absurd (false≢true t)
    by Equal e t = exact_unsigned q ino e
    by Greater e t = absurd (false≢true t)

shown_listed : (list : List ℕ) (q : ℕ) (s : Option Change) (rest : Inodes) → has_none (lookup (is_at (nat_cmp q)) (with_shown_inode s rest)) ≡ true → is_listed (is_among list) s ≡ true
    → (has_none (lookup (is_at (nat_cmp q)) rest) ≡ true → is_among list q ≡ true) → is_among list q ≡ true
shown_listed list q (Some (SetInode ino inode)) rest h on more = by (is_at (nat_cmp q) ino) refl h
  where
    told : (b : Bool) → (inode.nlink == 0) ≡ b → b ≡ true → (not b || is_among list ino) ≡ true → is_among list ino ≡ true
    told true e t g = g
    told false e t g = absurd (false≢true t)

    by : (b : Bool) → is_at (nat_cmp q) ino ≡ b → has_none (cond b (Some inode) (lookup (is_at (nat_cmp q)) rest)) ≡ true → is_among list q ≡ true
    by true e h = subst (λ (z : ℕ). is_among list z ≡ true) (sym (at_number q ino e)) (told (inode.nlink == 0) refl h on)
    by false e h = more h
shown_listed list q (Some (SetEntry e)) rest h on more = more h
shown_listed list q (Some (DropEntry dir name)) rest h on more = more h
shown_listed list q (Some (SetBlock ino number bytes)) rest h on more = more h
shown_listed list q (Some (CutBlocks ino old new)) rest h on more = more h
shown_listed list q (Some (DropInode ino)) rest h on more = more h
shown_listed list q None rest h on more = more h

pub leaf_listed : (list : List ℕ) (q : ℕ) (kept : List Kept) → has_none (lookup (is_at (nat_cmp q)) (inodes_of kept)) ≡ true → list_all (λ x. is_listed (is_among list) (shown_by x)) kept ≡ true → is_among list q ≡ true
leaf_listed list q [] h on = absurd (false≢true h)
leaf_listed list q (x ∷ kept) h on =
    let p = and_parts (is_listed (is_among list) (shown_by x)) (list_all (λ x. is_listed (is_among list) (shown_by x)) kept) on in
    shown_listed list q (shown_by x) (inodes_of kept) h p.0 (λ g. leaf_listed list q kept g p.1)

-- the list that was read has them
has_orphans : (f : Faced) (lists : List (List ℕ)) (list : List ℕ) → HaveOrphans f lists → IsOneOfLists lists list → list_all (λ x. is_listed (is_among list) (shown_by x)) f.view.kept ≡ true
has_orphans f [] list h one = absurd one
has_orphans f (first ∷ lists) list h (inl same) = subst (λ (l : List ℕ). list_all (λ x. is_listed (is_among l) (shown_by x)) f.view.kept ≡ true) (sym same) h.0
has_orphans f (first ∷ lists) list h (inr one) = has_orphans f lists list h.1 one

abbrev pub InodeLaw : Type 0
InodeLaw = (q : ℕ) (changes : List Change) (tree : Tree) → IsInOrder tree → inode_at (apply tree changes) q ≡ there (last_made (makes_inode q) tree changes) (inode_at tree q)

pub all_listed : SortedLaw → InodeLaw → (f : Faced) (parts : Parts) → HasCommittedView f.view → HaveOrphans f f.lists → (fits : FitsFaced f parts) → (q : ℕ)
    → is_nameless (apply (tree_of f.view.kept (committed_highest parts)) (in_turn (read_changes f parts fits))) q ≡ true → list_any (λ ino. q == ino) parts.listed ≡ true
all_listed sorted inode f parts has orphans fits q h =
    let tree : Tree = tree_of f.view.kept (committed_highest parts) in
    let changes : List Change = in_turn (read_changes f parts fits) in
    let made = subst (λ (o : Option Inode). has_none o ≡ true) (inode q changes tree (sorted f.view.kept (committed_highest parts) has.leaves)) h in
    let before = made_gives q changes tree (inode_at tree q) (all_in_turn gives_links (read_changes f parts fits) (all_give (read_changes f parts fits))) made in
    among_turned parts.listed q (leaf_listed parts.listed q f.view.kept before (has_orphans f f.lists parts.listed orphans fits.listed))
