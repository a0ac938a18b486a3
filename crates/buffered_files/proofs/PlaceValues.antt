-- Which values a page and a group of names give, on whichever tree they are replayed.
use Rattle.std.proofs.Common.{◌≡◌, ℕ, ◌⊎◌, inl, inr, Bool, true, false, cond, not, List, [], ◌∷◌, Some, refl, sym, ap, subst, ◌∙◌}
use Rattle.std.specs.Prelude.{◌==◌, Option, None, Result, Ok, Err, fold, is_some, unwrap_or, max}
use Rattle.std.specs.List.{AllByRecursion}
use Rattle.std.specs.Option.{option_map_or}
use Rattle.std.specs.BTreeMap.{is_at, insert_entry}
use Rattle.std.specs.Map.{lookup, keys_of, remove_entry}
use Rattle.std.specs.Ordering.{nat_cmp}
use Rattle.std.proofs.lemmas.Bool.Decides.{eqb_tells}
use Rattle.fs_model.specs.declared.backing_answers.StoreFault.{StoreFault}
use Rattle.fs_model.specs.declared.backing_answers.StoreFault.TheVariants.{Memory, Volume, ReadOnly as IsReadOnly}
use Rattle.fs_model.specs.declared.change.Change.{Change}
use Rattle.fs_model.specs.declared.change.Change.TheVariants.{SetInode, SetEntry, DropEntry, SetBlock, CutBlocks, DropInode}
use Rattle.fs_model.specs.declared.inode.Inode.{Inode}
use Rattle.fs_model.specs.declared.inode.Entry.{Entry}
use Rattle.fs_model.specs.declared.page_node.PageNode.{PageNode}
use Rattle.fs_model.specs.Backing.{page_puts, put_by}
use Rattle.fs_model.specs.Change.{apply, applied, without_inode, without_blocks}
use Rattle.fs_model.specs.Files.{Tree, Files, Inodes, Blocks, inode_at, entry_at, block_at, name_cmp, pair_cmp, with_block}
use Rattle.fs_model.specs.Journal.{Journal, Leaves, base_head}
use Rattle.fs_model.specs.Orphan.{is_nameless, nameless, without_nameless, all_revive_none}
use Rattle.fs_model.specs.Proper.{ascends, IsInOrder}
use Rattle.fs_model.specs.Recovery.{as_replayed}
use Rattle.fs_model.specs.Same.{trimmed, trimmed_blocks}
use Rattle.fs_laws.specs.Forgotten.{applied_in_order, apply_in_order, found_inode, found_block, forgotten_in_order, group_forgotten}
use Rattle.fs_laws.specs.Maps.{apart, set_here, set_other, removed_here, removed_other, insert_ascends, key_cases}
use Rattle.fs_laws.specs.Orders.{numbers, pairs, named}
use Rattle.buffered_files.specs.declared.kept.Kept.{Kept}
use Rattle.buffered_files.specs.CutLaws.{AreAmong, Puts-nothing}
use Rattle.buffered_files.specs.Cuts.{TreePlace, Value, value_at, ValuesOf, ValuesWith, replayed_on, GivesOnly, PutsOnly, PutsWith, put_fate}
use Rattle.buffered_files.specs.Cuts.TreePlace.{InodeAt, EntryAt, BlockAt}
use Rattle.buffered_files.specs.Cuts.GroupFate.{WasPut}
use Rattle.buffered_files.specs.Cuts.Value.{AnInode, AnEntry, ABlock}
use Rattle.buffered_files.specs.Follow.{IsOfNames, AreOfNames}
use Rattle.buffered_files.specs.Present.{DirtyPages, IsKept, present, with_page}
use Rattle.buffered_files.proofs.Applied.{Agrees, group_agrees}

-- the key of an entry, and that of a block
abbrev key : ℕ → List ℕ → ℕ × List ℕ
key dir name = (dir, name)

abbrev pair : ℕ → ℕ → ℕ × ℕ
pair ino block = (ino, block)

abbrev found_in : Blocks → ℕ × ℕ → Option (List ℕ)
found_in blocks q = lookup (is_at (pair_cmp q)) blocks

-- what is found of a block once those of an inode are gone
cleared : (blocks : Blocks) (ino : ℕ) (q : ℕ × ℕ) → lookup (is_at (pair_cmp q)) (without_blocks blocks ino) ≡ cond (q.0 == ino) None (lookup (is_at (pair_cmp q)) blocks)
cleared [] ino q = none (q.0 == ino)
  where
    none : (b : Bool) → found_in [] q ≡ cond b None (found_in [] q)
    none true = refl
    none false = refl
cleared (e ∷ blocks) ino q = by (cleared blocks ino q) (key_cases pair_cmp pairs q e.0) (e.0.0 == ino) refl
  where
    Goal : Bool → Type 0
    Goal b = lookup (is_at (pair_cmp q)) (cond (not b) (e ∷ without_blocks blocks ino) (without_blocks blocks ino)) ≡ cond (q.0 == ino) None (lookup (is_at (pair_cmp q)) (e ∷ blocks))

    at : (b : Bool) → q ≡ e.0 → (e.0.0 == ino) ≡ b → (q.0 == ino) ≡ b
    at b same t = ap (λ (k : ℕ × ℕ). k.0 == ino) same ∙ t

    found : q ≡ e.0 → is_at (pair_cmp q) e.0 ≡ true
    found same = subst (λ k. is_at (pair_cmp k) e.0 ≡ true) (sym same) (rw (pairs.same e.0) refl)

    by : lookup (is_at (pair_cmp q)) (without_blocks blocks ino) ≡ cond (q.0 == ino) None (lookup (is_at (pair_cmp q)) blocks) → (q ≡ e.0) ⊎ (q ≡ e.0 → ⊥) → (b : Bool) → (e.0.0 == ino) ≡ b → Goal b
    by more (inl same) true t = more ∙ rw (at true same t) refl
    by more (inl same) false t = rw (at false same t, found same) refl
    by more (inr other) true t = more ∙ rw (apart pair_cmp pairs q e.0 other) refl
    by more (inr other) false t = rw (apart pair_cmp pairs q e.0 other) more

forgotten_entries : (gone : List ℕ) (tree : Tree) → (fold without_inode tree gone).entries ≡ tree.entries
forgotten_entries [] tree = refl
forgotten_entries (ino ∷ gone) tree = forgotten_entries gone (without_inode tree ino)

-- At a place two trees stay as they are, or get the same value.
abbrev pub Steady : TreePlace → Tree → Tree → Tree → Tree → Type 0
Steady place t after u later = ((value_at after place ≡ value_at t place) × (value_at later place ≡ value_at u place)) ⊎ (value_at after place ≡ value_at later place)

pub steady_drop : (ino : ℕ) (t u : Tree) → IsInOrder t → IsInOrder u → (place : TreePlace) → Steady place t (applied t (DropInode ino)) u (applied u (DropInode ino))
steady_drop ino t u h i (InodeAt q) = by (key_cases nat_cmp numbers q ino)
  where
    gone : (x : Tree) → IsInOrder x → q ≡ ino → inode_at (applied x (DropInode ino)) q ≡ None
    gone x o same = subst (λ k. lookup (is_at (nat_cmp k)) (remove_entry (is_at (nat_cmp ino)) x.inodes) ≡ None) (sym same) (removed_here nat_cmp numbers x.inodes ino o.inodes)

    by : (q ≡ ino) ⊎ (q ≡ ino → ⊥) → Steady (InodeAt q) t (applied t (DropInode ino)) u (applied u (DropInode ino))
    by (inl same) = inr (ap AnInode (gone t h same ∙ sym (gone u i same)))
    by (inr other) = inl (ap AnInode (removed_other nat_cmp numbers t.inodes ino q other), ap AnInode (removed_other nat_cmp numbers u.inodes ino q other))
steady_drop ino t u h i (EntryAt dir name) = inl (refl, refl)
steady_drop ino t u h i (BlockAt q block) = by (q == ino) refl
  where
    told : (x : Tree) (b : Bool) → (q == ino) ≡ b → value_at (applied x (DropInode ino)) (BlockAt q block) ≡ ABlock (trimmed (unwrap_or (cond b None (lookup (is_at (pair_cmp (q, block))) x.blocks)) []))
    told x b t = ap (λ found. ABlock (trimmed (unwrap_or found []))) (cleared x.blocks ino (q, block) ∙ ap (λ b. cond b None (lookup (is_at (pair_cmp (q, block))) x.blocks)) t)

    by : (b : Bool) → (q == ino) ≡ b → Steady (BlockAt q block) t (applied t (DropInode ino)) u (applied u (DropInode ino))
    by true z = inr (told t true z ∙ sym (told u true z))
    by false z = inl (told t false z, told u false z)

pub steady_inode : (ino : ℕ) (inode : Inode) (t u : Tree) (place : TreePlace) → Steady place t (applied t (SetInode ino inode)) u (applied u (SetInode ino inode))
steady_inode ino inode t u (InodeAt q) = by (key_cases nat_cmp numbers q ino)
  where
    here : (x : Tree) → q ≡ ino → inode_at (applied x (SetInode ino inode)) q ≡ Some inode
    here x same = subst (λ k. lookup (is_at (nat_cmp k)) (insert_entry nat_cmp x.inodes ino inode) ≡ Some inode) (sym same) (set_here nat_cmp numbers x.inodes ino inode)

    by : (q ≡ ino) ⊎ (q ≡ ino → ⊥) → Steady (InodeAt q) t (applied t (SetInode ino inode)) u (applied u (SetInode ino inode))
    by (inl same) = inr (ap AnInode (here t same ∙ sym (here u same)))
    by (inr other) = inl (ap AnInode (set_other nat_cmp numbers t.inodes ino inode q other), ap AnInode (set_other nat_cmp numbers u.inodes ino inode q other))
steady_inode ino inode t u (EntryAt dir name) = inl (refl, refl)
steady_inode ino inode t u (BlockAt q block) = inl (refl, refl)

steady_entry : (entry : Entry) (t u : Tree) (place : TreePlace) → Steady place t (applied t (SetEntry entry)) u (applied u (SetEntry entry))
steady_entry entry t u (InodeAt q) = inl (refl, refl)
steady_entry entry t u (EntryAt dir name) = by (key_cases name_cmp named (dir, name) (entry.dir, entry.name))
  where
    here : (x : Tree) → key dir name ≡ key entry.dir entry.name → entry_at (applied x (SetEntry entry)) dir name ≡ Some entry
    here x same = subst (λ (k : ℕ × List ℕ). lookup (is_at (name_cmp k)) (insert_entry name_cmp x.entries (entry.dir, entry.name) entry) ≡ Some entry) (sym same) (set_here name_cmp named x.entries (entry.dir, entry.name) entry)

    by : (key dir name ≡ key entry.dir entry.name) ⊎ (key dir name ≡ key entry.dir entry.name → ⊥) → Steady (EntryAt dir name) t (applied t (SetEntry entry)) u (applied u (SetEntry entry))
    by (inl same) = inr (ap AnEntry (here t same ∙ sym (here u same)))
    by (inr other) = inl (ap AnEntry (set_other name_cmp named t.entries (entry.dir, entry.name) entry (dir, name) other), ap AnEntry (set_other name_cmp named u.entries (entry.dir, entry.name) entry (dir, name) other))
steady_entry entry t u (BlockAt q block) = inl (refl, refl)

steady_name : (from : ℕ) (gone : List ℕ) (t u : Tree) → IsInOrder t → IsInOrder u → (place : TreePlace) → Steady place t (applied t (DropEntry from gone)) u (applied u (DropEntry from gone))
steady_name from gone t u h i (InodeAt q) = inl (refl, refl)
steady_name from gone t u h i (EntryAt dir name) = by (key_cases name_cmp named (dir, name) (from, gone))
  where
    none : (x : Tree) → IsInOrder x → key dir name ≡ key from gone → entry_at (applied x (DropEntry from gone)) dir name ≡ None
    none x o same = subst (λ (k : ℕ × List ℕ). lookup (is_at (name_cmp k)) (remove_entry (is_at (name_cmp (from, gone))) x.entries) ≡ None) (sym same) (removed_here name_cmp named x.entries (from, gone) o.entries)

    by : (key dir name ≡ key from gone) ⊎ (key dir name ≡ key from gone → ⊥) → Steady (EntryAt dir name) t (applied t (DropEntry from gone)) u (applied u (DropEntry from gone))
    by (inl same) = inr (ap AnEntry (none t h same ∙ sym (none u i same)))
    by (inr other) = inl (ap AnEntry (removed_other name_cmp named t.entries (from, gone) (dir, name) other), ap AnEntry (removed_other name_cmp named u.entries (from, gone) (dir, name) other))
steady_name from gone t u h i (BlockAt q block) = inl (refl, refl)

steady_one : (tree : Tree) (change : Change) → IsOfNames tree change → (t u : Tree) → IsInOrder t → IsInOrder u → (place : TreePlace) → Steady place t (applied t (as_replayed change)) u (applied u (as_replayed change))
steady_one tree (SetInode ino inode) is t u h i place = by (inode.nlink == 0)
  where
    by : (b : Bool) → Steady place t (applied t (cond b (DropInode ino) (SetInode ino inode))) u (applied u (cond b (DropInode ino) (SetInode ino inode)))
    by true = steady_drop ino t u h i place
    by false = steady_inode ino inode t u place
steady_one tree (SetEntry entry) is t u h i place = steady_entry entry t u place
steady_one tree (DropEntry dir name) is t u h i place = steady_name dir name t u h i place
steady_one tree (SetBlock ino block bytes) is t u h i place = absurd is
steady_one tree (CutBlocks ino old_size new_size) is t u h i place = absurd is
steady_one tree (DropInode ino) is t u h i place = steady_drop ino t u h i place

-- one change after another
pub steady_then : (place : TreePlace) (t mid after u other later : Tree) → Steady place t mid u other → Steady place mid after other later → Steady place t after u later
steady_then place t mid after u other later (inl first) (inl more) = inl (more.0 ∙ first.0, more.1 ∙ first.1)
steady_then place t mid after u other later (inr same) (inl more) = inr (more.0 ∙ same ∙ sym more.1)
steady_then place t mid after u other later first (inr same) = inr same

-- A group of names leaves a place of every tree as it is, or gives every tree the same value there.
steady_all : (tree : Tree) (group : List Change) → AreOfNames tree group → (t u : Tree) → IsInOrder t → IsInOrder u → (place : TreePlace) → Steady place t (replayed_on t group) u (replayed_on u group)
steady_all tree [] names t u h i place = inl (refl, refl)
steady_all tree (change ∷ group) names t u h i place =
    let c = as_replayed change in
    steady_then place t (applied t c) (replayed_on (applied t c) group) u (applied u c) (replayed_on (applied u c) group)
    (steady_one tree change names.0 t u h i place) (steady_all tree group names.1 (applied t c) (applied u c) (applied_in_order t c h) (applied_in_order u c i) place)

-- a group that was reckoned on a tree, and does so, gives no values but those of what it makes of that tree
pub gives_by : (tree : Tree) (group : List Change) → IsInOrder tree → all_revive_none tree group ≡ true → ((t u : Tree) → IsInOrder t → IsInOrder u → (place : TreePlace) → Steady place t (replayed_on t group) u (replayed_on u group)) → GivesOnly (ValuesWith tree group) group
gives_by tree group order revives steady on place at = by (steady on (without_nameless tree) at (forgotten_in_order tree order) place)
  where
    by : Steady place on (replayed_on on group) (without_nameless tree) (replayed_on (without_nameless tree) group) → (value_at (replayed_on on group) place ≡ value_at on place) ⊎ ValuesWith tree group place (value_at (replayed_on on group) place)
    by (inl kept) = inl kept.0
    by (inr same) = inr (inr (inr (same ∙ ap (λ t. value_at t place) (sym (group_forgotten group tree order revives)))))

pub group_gives : (tree : Tree) (group : List Change) → IsInOrder tree → AreOfNames tree group → all_revive_none tree group ≡ true → GivesOnly (ValuesWith tree group) group
group_gives tree group order names revives = gives_by tree group order revives (λ t u h i place. steady_all tree group names t u h i place)

-- an inode that a tree has gives no values but those of the tree
inode_gives : (tree : Tree) (ino : ℕ) (inode : Inode) → IsInOrder tree → inode_at tree ino ≡ Some inode → GivesOnly (ValuesOf tree) (SetInode ino inode ∷ [])
inode_gives tree ino inode order found on place at = by (inode.nlink == 0) refl place
  where
    named_at : (q : ℕ) → q ≡ ino → inode_at tree q ≡ Some inode
    named_at q same = ap (inode_at tree) same ∙ found

    lost : (q : ℕ) → q ≡ ino → (inode.nlink == 0) ≡ true → is_nameless tree q ≡ true
    lost q same z = ap (λ o. option_map_or (λ (i : Inode). i.nlink == 0) o false) (named_at q same) ∙ z

    here : (q : ℕ) → q ≡ ino → inode_at (applied on (SetInode ino inode)) q ≡ Some inode
    here q same = subst (λ k. lookup (is_at (nat_cmp k)) (insert_entry nat_cmp on.inodes ino inode) ≡ Some inode) (sym same) (set_here nat_cmp numbers on.inodes ino inode)

    gone : (q : ℕ) → q ≡ ino → inode_at (applied on (DropInode ino)) q ≡ None
    gone q same = subst (λ k. lookup (is_at (nat_cmp k)) (remove_entry (is_at (nat_cmp ino)) on.inodes) ≡ None) (sym same) (removed_here nat_cmp numbers on.inodes ino at.inodes)

    Goal : Tree → TreePlace → Type 0
    Goal made place = (value_at made place ≡ value_at on place) ⊎ ValuesOf tree place (value_at made place)

    set : (q : ℕ) → (q ≡ ino) ⊎ (q ≡ ino → ⊥) → Goal (applied on (SetInode ino inode)) (InodeAt q)
    set q (inl same) = inr (inl (ap AnInode (here q same ∙ sym (named_at q same))))
    set q (inr other) = inl (ap AnInode (set_other nat_cmp numbers on.inodes ino inode q other))

    dropped : (q : ℕ) → (inode.nlink == 0) ≡ true → (q ≡ ino) ⊎ (q ≡ ino → ⊥) → Goal (applied on (DropInode ino)) (InodeAt q)
    dropped q z (inl same) = inr (inr (ap AnInode (gone q same ∙ sym (found_inode tree q order ∙ rw (lost q same z) refl))))
    dropped q z (inr other) = inl (ap AnInode (removed_other nat_cmp numbers on.inodes ino q other))

    block_of : Option (List ℕ) → Value
    block_of found = ABlock (trimmed (unwrap_or found []))

    emptied : (q block : ℕ) (b : Bool) → (q == ino) ≡ b → (inode.nlink == 0) ≡ true → Goal (applied on (DropInode ino)) (BlockAt q block)
    emptied q block true t z =
        let same : q ≡ ino = elim (eqb_tells q ino) [ inl is ↦ is.1 | inr other ↦ absurd cc ] in
        let none : found_in (without_blocks on.blocks ino) (q, block) ≡ None = cleared on.blocks ino (q, block) ∙ rw t refl in
        let lacks : found_in (without_nameless tree).blocks (q, block) ≡ None = found_block tree (q, block) order ∙ rw (lost q same z) refl in
        inr (inr (ap block_of none ∙ sym (ap block_of lacks)))
    emptied q block false t z =
        let kept : found_in (without_blocks on.blocks ino) (q, block) ≡ found_in on.blocks (q, block) = cleared on.blocks ino (q, block) ∙ rw t refl in
        inl (ap block_of kept)

    by : (b : Bool) → (inode.nlink == 0) ≡ b → (place : TreePlace) → Goal (applied on (cond b (DropInode ino) (SetInode ino inode))) place
    by true z (InodeAt q) = dropped q z (key_cases nat_cmp numbers q ino)
    by true z (EntryAt dir name) = inl refl
    by true z (BlockAt q block) = emptied q block (q == ino) refl z
    by false z (InodeAt q) = set q (key_cases nat_cmp numbers q ino)
    by false z (EntryAt dir name) = inl refl
    by false z (BlockAt q block) = inl refl

-- and a block that it has, but for zeros at the end
block_gives : (tree : Tree) (ino block : ℕ) (bytes : List ℕ) → trimmed bytes ≡ trimmed (block_at tree.blocks ino block) → GivesOnly (ValuesOf tree) (SetBlock ino block bytes ∷ [])
block_gives tree ino block bytes same on place at = by (is_some (inode_at on ino)) place
  where
    made : Bool → Tree
    made b = record (cond b (record on { blocks = with_block on.blocks ino block bytes }) on) { highest = max on.highest ino }

    Goal : Bool → TreePlace → Type 0
    Goal b place = (value_at (made b) place ≡ value_at on place) ⊎ ValuesOf tree place (value_at (made b) place)

    block_of : Option (List ℕ) → Value
    block_of found = ABlock (trimmed (unwrap_or found []))

    set : (q number : ℕ) → (pair q number ≡ pair ino block) ⊎ (pair q number ≡ pair ino block → ⊥) → Goal true (BlockAt q number)
    set q number (inl here) =
        let P : ℕ × ℕ → Type 0 = λ k. block_of (lookup (is_at (pair_cmp k)) (with_block on.blocks ino block bytes)) ≡ ABlock (trimmed (block_at tree.blocks k.0 k.1)) in
        inr (inl (subst P (sym here) (ap block_of (set_here pair_cmp pairs on.blocks (ino, block) bytes) ∙ ap ABlock same)))
    set q number (inr other) = inl (ap block_of (set_other pair_cmp pairs on.blocks (ino, block) bytes (q, number) other))

    by : (b : Bool) → (place : TreePlace) → Goal b place
    by true (InodeAt q) = inl refl
    by true (EntryAt dir name) = inl refl
    by true (BlockAt q number) = set q number (key_cases pair_cmp pairs (q, number) (ino, block))
    by false (InodeAt q) = inl refl
    by false (EntryAt dir name) = inl refl
    by false (BlockAt q number) = inl refl

-- a page of these files puts none but their values
pub page_cut : {T : Type 0} (tree : Tree) (page : PageNode) (a b : Journal) (result : Result T StoreFault) → IsInOrder tree → inode_at tree page.ino ≡ Some page.inode → trimmed page.bytes ≡ trimmed (block_at tree.blocks page.ino page.block)
    → Leaves a b (put_by result (page_puts page)) → PutsOnly (ValuesOf tree) a b
page_cut {T} tree page a b result order inode block = by result
  where
    all : Leaves a b (page_puts page) → PutsOnly (ValuesOf tree) a b
    all cut = record { puts = page_puts page; gives = (inode_gives tree page.ino page.inode order inode, (block_gives tree page.ino page.block page.bytes block, tt)); cut = cut }

    by : (result : Result T StoreFault) → Leaves a b (put_by result (page_puts page)) → PutsOnly (ValuesOf tree) a b
    by (Ok x) cut = all cut
    by (Err Memory) cut = Puts-nothing (ValuesOf tree) a b cut
    by (Err (Volume count)) cut = all cut
    by (Err (IsReadOnly cause)) cut = Puts-nothing (ValuesOf tree) a b cut

-- and a group is put as the answer tells
pub put_as_told : {T : Type 0} (tree : Tree) (group : List Change) (a b : Journal) (result : Result T StoreFault) → GivesOnly (ValuesWith tree group) group
    → Leaves a b (put_by result ((base_head, group) ∷ [])) → PutsWith tree group (put_fate result) a b
put_as_told {T} tree group a b result gives = by result
  where
    makes : AllByRecursion (λ (put : ℕ × List Change). GivesOnly (ValuesWith tree group) put.1) ((base_head, group) ∷ [])
    makes = (gives, tt)

    by : (result : Result T StoreFault) → Leaves a b (put_by result ((base_head, group) ∷ [])) → PutsWith tree group (put_fate result) a b
    by (Ok x) cut = record { pages = []; gives = tt; last = (base_head, group) ∷ []; whole = inl refl; makes = makes; cut = cut }
    by (Err Memory) cut = record { pages = []; gives = tt; last = []; whole = refl; makes = tt; cut = cut }
    by (Err (Volume count)) cut = record { pages = []; gives = tt; last = (base_head, group) ∷ []; whole = inr refl; makes = makes; cut = cut }
    by (Err (IsReadOnly cause)) cut = record { pages = []; gives = tt; last = []; whole = refl; makes = tt; cut = cut }

-- one of names
pub group_cut : {T : Type 0} (tree : Tree) (group : List Change) (a b : Journal) (result : Result T StoreFault) → IsInOrder tree → AreOfNames tree group → all_revive_none tree group ≡ true
    → Leaves a b (put_by result ((base_head, group) ∷ [])) → PutsWith tree group (put_fate result) a b
group_cut {T} tree group a b result order names revives = put_as_told {T = T} tree group a b result (group_gives tree group order names revives)

-- done, it was put
pub group_done_cut : (T : Type 0) (tree : Tree) (group : List Change) (a b : Journal) → IsInOrder tree → AreOfNames tree group → all_revive_none tree group ≡ true → Leaves a b ((base_head, group) ∷ []) → PutsWith tree group WasPut a b
group_done_cut T tree group a b order names revives cut = group_cut {T = Unit {0}} tree group a b (Ok tt) order names revives cut

-- and with this fault it was or wasn't
pub group_failed_cut : (T : Type 0) (tree : Tree) (group : List Change) (a b : Journal) (fault : StoreFault) → IsInOrder tree → AreOfNames tree group → all_revive_none tree group ≡ true
    → Leaves a b (put_by {T = T} (Err fault) ((base_head, group) ∷ [])) → PutsWith tree group (put_fate {T = T} (Err fault)) a b
group_failed_cut T tree group a b fault = group_cut {T = T} tree group a b (Err fault)

inodes_ascend : (new es : Inodes) → ascends nat_cmp (keys_of es) ≡ true → ascends nat_cmp (keys_of (fold (λ (all : Inodes) (e : ℕ × Inode). insert_entry nat_cmp all e.0 e.1) es new)) ≡ true
inodes_ascend [] es h = h
inodes_ascend (e ∷ new) es h = inodes_ascend new (insert_entry nat_cmp es e.0 e.1) (insert_ascends nat_cmp numbers es e.0 e.1 h)

pages_ascend : (dirty : DirtyPages) (blocks : Blocks) → ascends pair_cmp (keys_of blocks) ≡ true → ascends pair_cmp (keys_of (fold with_page blocks dirty)) ≡ true
pages_ascend [] blocks h = h
pages_ascend (e ∷ dirty) blocks h = pages_ascend dirty (with_page blocks e) (insert_ascends pair_cmp pairs blocks e.0 e.1.bytes h)

-- the present tree is in order
pub present_ordered : (tree : Tree) (kept : Kept) → IsKept tree kept → IsInOrder (present tree kept).tree
present_ordered tree kept is = record {
  inodes = inodes_ascend kept.inodes tree.inodes is.proper.inodes_ascend;
  blocks = pages_ascend kept.pages.dirty tree.blocks is.proper.blocks_ascend;
  entries = is.proper.entries_ascend;
}

trimmed_at : (blocks : Blocks) (q : ℕ × ℕ) → trimmed (unwrap_or (lookup (is_at (pair_cmp q)) blocks) []) ≡ unwrap_or (lookup (is_at (pair_cmp q)) (trimmed_blocks blocks)) []
trimmed_at [] q = refl
trimmed_at (e ∷ blocks) q = by (trimmed_at blocks q) (is_at (pair_cmp q) e.0)
  where
    by : trimmed (unwrap_or (lookup (is_at (pair_cmp q)) blocks) []) ≡ unwrap_or (lookup (is_at (pair_cmp q)) (trimmed_blocks blocks)) [] → (b : Bool) → trimmed (unwrap_or (cond b (Some e.1) (lookup (is_at (pair_cmp q)) blocks)) []) ≡ unwrap_or (cond b (Some (trimmed e.1)) (lookup (is_at (pair_cmp q)) (trimmed_blocks blocks))) []
    by more true = refl
    by more false = more

alike_block : (a b : Files) → Agrees a b → (q : ℕ × ℕ) → trimmed (unwrap_or (lookup (is_at (pair_cmp q)) b.tree.blocks) []) ≡ trimmed (unwrap_or (lookup (is_at (pair_cmp q)) a.tree.blocks) [])
alike_block a b h q = trimmed_at b.tree.blocks q ∙ ap (λ (bs : Blocks). unwrap_or (lookup (is_at (pair_cmp q)) bs) []) (sym h.blocks) ∙ sym (trimmed_at a.tree.blocks q)

-- files that are alike have the same values
alike_at : (a b : Files) → Agrees a b → (place : TreePlace) → value_at b.tree place ≡ value_at a.tree place
alike_at a b h (InodeAt q) = ap (λ (es : Inodes). AnInode (lookup (is_at (nat_cmp q)) es)) (sym h.inodes)
alike_at a b h (EntryAt dir name) = ap (λ (es : List ((ℕ × List ℕ) × Entry)). AnEntry (lookup (is_at (name_cmp (dir, name))) es)) (sym h.entries)
alike_at a b h (BlockAt q block) = ap ABlock (alike_block a b h (q, block))

alike_named : (a b : Files) → Agrees a b → IsInOrder a.tree → IsInOrder b.tree → (place : TreePlace) → value_at (without_nameless b.tree) place ≡ value_at (without_nameless a.tree) place
alike_named a b h o p (InodeAt q) =
    ap AnInode (found_inode b.tree q p ∙ ap (λ (es : Inodes). named_in (lookup (is_at (nat_cmp q)) es)) (sym h.inodes) ∙ sym (found_inode a.tree q o))
  where
    named_in : Option Inode → Option Inode
    named_in found = cond (option_map_or (λ inode. inode.nlink == 0) found false) None found
alike_named a b h o p (EntryAt dir name) =
    ap (λ (es : List ((ℕ × List ℕ) × Entry)). AnEntry (lookup (is_at (name_cmp (dir, name))) es)) (forgotten_entries (nameless b.tree) b.tree ∙ sym h.entries ∙ sym (forgotten_entries (nameless a.tree) a.tree))
alike_named a b h o p (BlockAt q block) =
    let lost : is_nameless b.tree q ≡ is_nameless a.tree q = ap (λ (es : Inodes). option_map_or (λ (inode : Inode). inode.nlink == 0) (lookup (is_at (nat_cmp q)) es) false) (sym h.inodes) in
    ap block_of (found_block b.tree (q, block) p) ∙ ap (λ t. block_of (cond t None (lookup (is_at (pair_cmp (q, block))) b.tree.blocks))) lost
    ∙ by (is_nameless a.tree q) ∙ sym (ap block_of (found_block a.tree (q, block) o))
  where
    block_of : Option (List ℕ) → Value
    block_of found = ABlock (trimmed (unwrap_or found []))

    by : (t : Bool) → block_of (cond t None (lookup (is_at (pair_cmp (q, block))) b.tree.blocks)) ≡ block_of (cond t None (lookup (is_at (pair_cmp (q, block))) a.tree.blocks))
    by true = refl
    by false = ap ABlock (alike_block a b h (q, block))

pub alike_among : (a b : Files) → Agrees a b → IsInOrder a.tree → IsInOrder b.tree → AreAmong (ValuesOf b.tree) (ValuesOf a.tree)
alike_among a b h o p place value (inl is) = inl (is ∙ alike_at a b h place)
alike_among a b h o p place value (inr is) = inr (is ∙ alike_named a b h o p place)

-- also with a group
pub alike_with : (a b : Files) (group : List Change) → Agrees a b → IsInOrder a.tree → IsInOrder b.tree → AreAmong (ValuesWith b.tree group) (ValuesWith a.tree group)
alike_with a b group h o p place value (inl is) = inl (alike_among a b h o p place value is)
alike_with a b group h o p place value (inr is) =
    inr (alike_among (record a { tree = apply a.tree group }) (record b { tree = apply b.tree group }) (group_agrees group a b h) (apply_in_order group a.tree o) (apply_in_order group b.tree p) place value is)
