-- The group of a new size was put and followed, after which credits were given back.
use Rattle.std.proofs.Common.{◌≡◌, ℕ, ◌+◌, ◌≤◌, Bool, true, false, cond, not, ◌&&◌, List, [], ◌∷◌, length, Some, refl, sym, ap, subst, ◌∙◌, arith}
use Rattle.std.specs.Prelude.{◌==◌, ◌/◌, ◌%◌, Result, OnOk, filter, nat_lt, take}
use Rattle.std.specs.List.{IsDistinct}
use Rattle.std.specs.Result.{IsErr}
use Rattle.std.specs.Map.{keys_of}
use Rattle.std.proofs.lemmas.Bool.Decides.{nat_tests}
use Rattle.fs_model.specs.declared.change.Change.{Change}
use Rattle.fs_model.specs.declared.change.Change.TheVariants.{SetInode, SetEntry, DropEntry, SetBlock, CutBlocks, DropInode}
use Rattle.fs_model.specs.declared.inode.Inode.{Inode}
use Rattle.fs_model.specs.declared.inode.Kind.TheVariants.{File}
use Rattle.fs_model.specs.declared.op.Op.{Op}
use Rattle.fs_model.specs.declared.op.Op.TheVariants.{Truncate}
use Rattle.fs_model.specs.declared.backing_answers.StoreFault.{StoreFault}
use Rattle.fs_model.specs.declared.space.Need.{Need}
use Rattle.fs_model.specs.declared.space.Grant.{Grant}
use Rattle.fs_model.specs.Backing.{BackingState, FitsGroup, Goes, IsGroupPut, Reads, given_back}
use Rattle.fs_model.specs.Change.{apply}
use Rattle.fs_model.specs.Files.{Tree, Files, block_at, inode_at, size_of}
use Rattle.fs_model.specs.Handles.{size_limit}
use Rattle.fs_model.specs.Making.{touched}
use Rattle.fs_model.specs.Need.{need_of, truncation_need}
use Rattle.fs_model.specs.Operation.{group_of}
use Rattle.fs_model.specs.Proper.{IsProper, has_kind}
use Rattle.fs_model.specs.Truncation.{shortening, truncating}
use Rattle.fs_laws.specs.Sound.{IsCall, IsMoment, IsSound, Pays}
use Rattle.page_cache.specs.Pages.{Pages, is_cut, is_page}
use Rattle.buffered_files.specs.declared.kept.Kept.{Kept}
use Rattle.buffered_files.specs.CallLaws.{Goes-then, Goes-within}
use Rattle.buffered_files.specs.Calls.{GrowsBy, added_or_failed}
use Rattle.buffered_files.specs.Cuts.{GroupFate, PutsSeenWith, put_fate}
use Rattle.buffered_files.specs.Follow.{followed, is_of_inode}
use Rattle.buffered_files.specs.Present.{IsKept, present}
use Rattle.buffered_files.specs.Resized.{EndsInside, IsResizing, first_gone, pages_left, resized, size_need}
use Rattle.buffered_files.proofs.Following.{filter_few, followed_inodes}
use Rattle.buffered_files.proofs.GroupPut.{GroupPut}
use Rattle.buffered_files.proofs.Resizing.{size_put}
use Rattle.buffered_files.proofs.SizeValues.{none_by_fault}

module _ (tree : Tree) (ino : ℕ) (inode : Inode) (size now : ℕ) where
  abbrev set : Inode
  set = touched now (record inode { size = size })

  -- what holds of each form that the group of a new size has
  each_form : (P : List Change → Type 0) → P (SetInode ino set ∷ []) → P (SetInode ino set ∷ CutBlocks ino (size_of tree ino inode) size ∷ [])
      → ((bytes : List ℕ) → P (SetInode ino set ∷ CutBlocks ino (size_of tree ino inode) size ∷ SetBlock ino (size / 4096) bytes ∷ [])) → P (truncating tree ino inode size now)
  each_form P greater even inside = by (nat_lt size (size_of tree ino inode))
    where
      shorter : (b : Bool) → P (SetInode ino set ∷ CutBlocks ino (size_of tree ino inode) size ∷ cond b (SetBlock ino (size / 4096) (take (size % 4096) (block_at tree.blocks ino (size / 4096))) ∷ []) [])
      shorter true = inside (take (size % 4096) (block_at tree.blocks ino (size / 4096)))
      shorter false = even

      by : (b : Bool) → P (SetInode ino set ∷ cond b (CutBlocks ino (size_of tree ino inode) size ∷ shortening tree.blocks ino size) [])
      by true = shorter (not (size % 4096 == 0) && nat_lt (size % 4096) (length (block_at tree.blocks ino (size / 4096))))
      by false = greater

  -- it has as many changes as are asked for, or fewer
  pub few_changes : length (truncating tree ino inode size now) ≤ (size_need tree ino inode size now).nodes
  few_changes = by (nat_lt size (size_of tree ino inode))
    where
      Few : List Change → Type 0
      Few group = length group ≤ (truncation_need group).nodes

      shorter : (b : Bool) → Few (SetInode ino set ∷ CutBlocks ino (size_of tree ino inode) size ∷ cond b (SetBlock ino (size / 4096) (take (size % 4096) (block_at tree.blocks ino (size / 4096))) ∷ []) [])
      shorter true = omega arith
      shorter false = omega arith

      by : (b : Bool) → Few (SetInode ino set ∷ cond b (CutBlocks ino (size_of tree ino inode) size ∷ shortening tree.blocks ino size) [])
      by true = shorter (not (size % 4096 == 0) && nat_lt (size % 4096) (length (block_at tree.blocks ino (size / 4096))))
      by false = omega arith

pub ends_inside : (tree : Tree) (group : List Change) → IsResizing tree group → EndsInside group
ends_inside tree group r = subst EndsInside (sym r.group_is) (each_form tree r.ino r.inode r.size r.now EndsInside tt r.inside (λ bytes. r.inside))

-- no page goes with the inode alone
pub followed_pages : (tree : Tree) (group : List Change) (kept : Kept) → IsResizing tree group → (followed kept group).pages ≡ kept.pages
followed_pages tree group kept r =
    let P : List Change → Type 0 = λ g. (followed kept g).pages ≡ kept.pages in
    subst P (sym r.group_is) (each_form tree r.ino r.inode r.size r.now P refl refl (λ bytes. refl))

-- no page more is dirty
pub left_few : (pages : Pages) (group : List Change) → length (pages_left pages group).dirty ≤ length pages.dirty
left_few pages [] = omega arith
left_few pages (set ∷ []) = omega arith
left_few pages (set ∷ SetInode ino inode ∷ rest) = omega arith
left_few pages (set ∷ SetEntry entry ∷ rest) = omega arith
left_few pages (set ∷ DropEntry dir name ∷ rest) = omega arith
left_few pages (set ∷ SetBlock ino block bytes ∷ rest) = omega arith
left_few pages (set ∷ CutBlocks ino old_size new_size ∷ rest) = filter_few (λ e. not (is_cut ino (first_gone new_size rest) e.0)) pages.dirty
left_few pages (set ∷ DropInode ino ∷ rest) = omega arith

-- callers see the group, and what is kept fits
pub size_made : (old put new : BackingState) (kept after : Kept) (group copies : List Change) (grant : Grant) (credits : ℕ) → IsKept old.tree kept → IsDistinct is_page (keys_of kept.pages.dirty) → IsResizing (present old.tree kept).tree group → FitsGroup old.tree grant group
    → IsGroupPut old put group → copies ≡ filter is_of_inode group → after ≡ record (followed kept copies) { pages = pages_left (followed kept copies).pages group } → new ≡ given_back put credits → GroupPut old.tree new.tree kept after group
size_made old put new kept after group copies grant credits is once r fits made copied follow given =
    let tree : new.tree ≡ apply old.tree group = ap (λ s. s.tree) given ∙ made.tree in
    let left : Kept → Kept = λ k. record k { pages = pages_left k.pages group } in
    let whole : after ≡ resized kept group = follow ∙ ap left (ap (λ c. followed kept c) copied ∙ followed_inodes group kept) ∙ ap (λ pages. record (followed kept group) { pages = pages_left pages group }) (followed_pages (present old.tree kept).tree group kept r) in
    subst (λ t. GroupPut old.tree t kept after group) (sym tree)
    (subst (λ k. GroupPut old.tree (apply old.tree group) kept k group) (sym whole) (size_put old.tree kept group is once r fits.proper))

-- the group is that of an operation
pub group_is_of : (files : Files) (ino : ℕ) (inode : Inode) (size now : ℕ) → inode_at files.tree ino ≡ Some inode → size ≤ size_limit
    → group_of (record files { handles = ((0, 0), ino) ∷ [] }) 0 now (Truncate 0 size) ≡ truncating files.tree ino inode size now
group_is_of files ino inode size now found inside =
    let within : nat_lt size_limit size ≡ false = grind (arith, nat_tests) in
    rw (found, within) refl

-- what holds of the law of groups and their grants
abbrev pub IsFitting : Type 0
IsFitting = (files : Files) (caller now : ℕ) (op : Op) (grant : Grant) → IsSound files → IsMoment now → IsCall op → Pays grant (need_of files caller now op) → FitsGroup files.tree grant (group_of files caller now op)

-- a grant of what a new size asks for pays its group
pub size_fits : (files : Files) (ino : ℕ) (inode : Inode) (size now : ℕ) → IsFitting → IsProper files.tree → inode_at files.tree ino ≡ Some inode → inode.kind ≡ File → size ≤ size_limit → IsMoment now
    → FitsGroup files.tree (record { bytes = (size_need files.tree ino inode size now).bytes; nodes = (size_need files.tree ino inode size now).nodes }) (truncating files.tree ino inode size now)
size_fits files ino inode size now law proper found file inside moment =
    let open_files : Files = record files { handles = ((0, 0), ino) ∷ [] } in
    let group = group_is_of files ino inode size now found inside in
    let need : need_of open_files 0 now (Truncate 0 size) ≡ size_need files.tree ino inode size now = ap truncation_need group in
    let grant : Grant = record { bytes = (size_need files.tree ino inode size now).bytes; nodes = (size_need files.tree ino inode size now).nodes } in
    let there : has_kind files.tree ino File ≡ true = rw (found, file) refl in
    let bytes = ap (λ (n : Need). n.bytes) need in
    let nodes = ap (λ (n : Need). n.nodes) need in
    subst (λ g. FitsGroup files.tree grant g) group
    (law open_files 0 now (Truncate 0 size) grant (record { proper = proper; handles = rw there refl }) moment refl (record { bytes = omega (arith, bytes); nodes = omega (arith, nodes) }))

-- what was reckoned on a tree is a new size there
pub resizing_on : (t tree : Tree) (kept : Kept) (group : List Change) (ino : ℕ) (inode : Inode) (size now : ℕ) → t ≡ tree → inode_at (present tree kept).tree ino ≡ Some inode → inode.kind ≡ File → size ≤ size_limit
    → group ≡ truncating (present tree kept).tree ino inode size now → IsResizing (present t kept).tree group
resizing_on t tree kept group ino inode size now same found file inside is =
    subst (λ s. IsResizing (present s kept).tree group) (sym same) (record { ino = ino; inode = inode; size = size; now = now; found = found; file = file; inside = inside; group_is = is })

-- what is put over a backing that was looked at is put over it
module _ (old mid new : BackingState) (kept after : Kept) (group made : List Change) (looks : Reads old mid) (same : group ≡ made) where
  pub ok_on : {E : Type 0} (r : Result (Unit {0}) E) → OnOk r (present new.tree after ≡ record (present mid.tree kept) { tree = apply (present mid.tree kept).tree group }) → OnOk r (present new.tree after ≡ record (present old.tree kept) { tree = apply (present old.tree kept).tree made })
  ok_on r done =
      let Q : BackingState → List Change → Type 0 = λ s g. OnOk r (present new.tree after ≡ record (present s.tree kept) { tree = apply (present s.tree kept).tree g }) in
      subst (λ g. Q old g) same (subst (λ s. Q s group) looks done)

  pub cut_on : (fate : GroupFate) → PutsSeenWith mid new kept group fate → PutsSeenWith old new kept made fate
  cut_on fate put = subst (λ g. PutsSeenWith old new kept g fate) same (subst (λ s. PutsSeenWith s new kept group fate) looks put)

  pub goes_on : Goes 0 old mid → Goes (length group) mid new → Goes (length made) old new
  goes_on first second = subst (λ (g : List Change). Goes (length g) old new) same (Goes-within (0 + length group) (length group) old new (omega arith) (Goes-then 0 (length group) old mid new first second))

  pub grows_by : (r : Result (Unit {0}) StoreFault) → GrowsBy (added_or_failed (length group) (length group) r) mid new kept after → GrowsBy (added_or_failed (length made) (length made) r) old new kept after
  grows_by r grows = subst (λ (g : List Change). GrowsBy (added_or_failed (length g) (length g) r) old new kept after) same (subst (λ s. GrowsBy (added_or_failed (length group) (length group) r) s new kept after) looks grows)

-- nothing was put by who only looked
pub none_looked : (T : Type 0) (r : Result T StoreFault) (old mid : BackingState) (kept : Kept) (group : List Change) → Reads old mid → IsErr r → PutsSeenWith old mid kept group (put_fate r)
none_looked T r old mid kept group looks err =
    subst (λ s. PutsSeenWith old s kept group (put_fate r)) (sym looks) (none_by_fault T r (present old.tree kept).tree group old.journal err)
