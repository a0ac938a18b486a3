-- A new size is put once it was admitted, where pages may have been put first.
use Rattle.std.proofs.Common.{◌≡◌, ℕ, ◌+◌, ◌*◌, ◌≤◌, Bool, true, false, cond, max, List, [], ◌∷◌, Err, length, Some, refl, sym, ap, subst, ◌∙◌, arith}
use Rattle.std.specs.Prelude.{nat_lt}
use Rattle.fs_model.specs.declared.backing_answers.StoreFault.{StoreFault}
use Rattle.fs_model.specs.declared.change.Change.{Change}
use Rattle.fs_model.specs.declared.change.Change.TheVariants.{SetInode, CutBlocks}
use Rattle.fs_model.specs.declared.inode.Inode.{Inode}
use Rattle.fs_model.specs.declared.inode.Kind.TheVariants.{File}
use Rattle.fs_model.specs.declared.refusal.Refusal.{Refusal}
use Rattle.fs_model.specs.declared.refusal.Refusal.TheVariants.{Eio}
use Rattle.fs_model.specs.declared.space.Need.{Need}
use Rattle.fs_model.specs.Backing.{BackingState, Goes, IsModest, granted}
use Rattle.fs_model.specs.Change.{apply}
use Rattle.fs_model.specs.Cover.{needed, room_for}
use Rattle.fs_model.specs.Files.{Files, Inodes, Tree, inode_at, size_of}
use Rattle.fs_model.specs.Making.{touched}
use Rattle.fs_model.specs.Need.{truncation_need}
use Rattle.fs_model.specs.Path.{is_dir}
use Rattle.fs_model.specs.Proper.{IsProper}
use Rattle.fs_model.specs.Truncation.{shortening, truncating}
use Rattle.std.specs.Map.{lookup}
use Rattle.std.specs.BTreeMap.{is_at}
use Rattle.std.specs.Ordering.{nat_cmp}
use Rattle.buffered_files.specs.declared.kept.Kept.{Kept}
use Rattle.buffered_files.specs.Alike.{IsAlike}
use Rattle.buffered_files.specs.CallLaws.{Covered-then, Goes-then, Goes-within}
use Rattle.buffered_files.specs.Calls.{GrowsBy, WasCovered, added_or_failed, added_or_refused, refusal_of}
use Rattle.buffered_files.specs.CutLaws.{Puts-with, Refused-none}
use Rattle.buffered_files.specs.Cuts.{GroupFate, PutsSeen, PutsSeenWith, refused_fate}
use Rattle.buffered_files.specs.Present.{IsKept, present}
use Rattle.buffered_files.specs.Resized.{PutsSize, need_by, size_need}
use Rattle.buffered_files.proofs.Cutting.{group_then}
use Rattle.buffered_files.proofs.Growing.{admitted_failed, grows_on}
use Rattle.buffered_files.proofs.MakingRoom.{goes_at_once}
use Rattle.buffered_files.proofs.Putting.{same-none}
use Rattle.buffered_files.proofs.SizePut.{few_changes}

need_told : (tree : Tree) (ino : ℕ) (inode : Inode) (size now : ℕ) → size_need tree ino inode size now ≡ need_by (nat_lt size (size_of tree ino inode))
need_told tree ino inode size now = by (nat_lt size (size_of tree ino inode))
  where
    set : Inode
    set = touched now (record inode { size = size })

    by : (b : Bool) → truncation_need (SetInode ino set ∷ cond b (CutBlocks ino (size_of tree ino inode) size ∷ shortening tree.blocks ino size) []) ≡ need_by b
    by true = refl
    by false = refl

modest_by : (b : Bool) → IsModest (need_by b)
modest_by true = record { credits = omega arith; bytes = omega arith; nodes = omega arith }
modest_by false = record { credits = omega arith; bytes = omega arith; nodes = omega arith }

none_by : (b : Bool) → (need_by b).credits ≡ 0
none_by true = refl
none_by false = refl

-- what is asked for
pub asked_is : (need : Need) (old_size : ℕ) (tree : Tree) (ino : ℕ) (inode : Inode) (size now : ℕ) → need ≡ need_by (nat_lt size old_size) → old_size ≡ size_of tree ino inode → need ≡ size_need tree ino inode size now
asked_is need old_size tree ino inode size now is sized = is ∙ ap (λ n. need_by (nat_lt size n)) sized ∙ sym (need_told tree ino inode size now)

pub asked_modest : (need : Need) (b : Bool) → need ≡ need_by b → IsModest need
asked_modest need b is = subst (λ n. IsModest n) (sym is) (modest_by b)

pub asked_none : (need : Need) (b : Bool) → need ≡ need_by b → need.credits ≡ 0
asked_none need b is = ap (λ (n : Need). n.credits) is ∙ none_by b

refused_more : (T U : Type 0) (m n : ℕ) (r : Refusal) (a b : BackingState) (first last : Kept) → m ≤ n → GrowsBy (added_or_refused {T = T} m (max 2 m) (Err r)) a b first last → GrowsBy (added_or_refused {T = U} n (max 2 n) (Err r)) a b first last
refused_more T U m n (Eio count) a b first last more p = omega (arith, p, more)
refused_more T U m n r a b first last more p = p

-- what was asked for is granted where it has room
pub granted_asked : (old mid : BackingState) (need whole : Need) → need ≡ whole → needed old.space whole ≤ room_for old.geometry old.space whole → (needed old.space need ≤ room_for old.geometry old.space need → mid ≡ granted old need) → mid ≡ granted old whole
granted_asked old mid need whole same room made = subst (λ n. mid ≡ granted old n) same (made (subst (λ n. needed old.space n ≤ room_for old.geometry old.space n) (sym same) room))

-- the law that files alike stay alike
abbrev pub IsStaying : Type 0
IsStaying = (a b : Files) (ino : ℕ) (inode : Inode) (size now : ℕ) → IsProper a.tree → IsProper b.tree → inode_at a.tree ino ≡ Some inode → is_dir inode.kind ≡ false → IsAlike a b
    → IsAlike (record a { tree = apply a.tree (truncating a.tree ino inode size now) }) (record b { tree = apply b.tree (truncating b.tree ino inode size now) })

module _ (old mid : BackingState) (kept still : Kept) (ino : ℕ) (inode : Inode) (size now : ℕ) (is : IsKept old.tree kept) (fits : IsKept mid.tree still) (found : inode_at (present old.tree kept).tree ino ≡ Some inode) (file : inode.kind ≡ File) (same : IsAlike (present old.tree kept) (present mid.tree still)) where
  abbrev need : Need
  need = size_need (present old.tree kept).tree ino inode size now

  abbrev group : List Change
  group = truncating (present mid.tree still).tree ino inode size now

  plain : is_dir inode.kind ≡ false
  plain = ap is_dir file

  pub found_on : inode_at (present mid.tree still).tree ino ≡ Some inode
  found_on = subst (λ (es : Inodes). lookup (is_at (nat_cmp ino)) es ≡ Some inode) same.inodes found

  pub sized_on : size_of (present old.tree kept).tree ino inode ≡ size_of (present mid.tree still).tree ino inode
  sized_on = same.sizes ino inode found plain

  pub need_on : size_need (present mid.tree still).tree ino inode size now ≡ need
  need_on = need_told (present mid.tree still).tree ino inode size now ∙ ap (λ n. need_by (nat_lt size n)) (sym sized_on) ∙ sym (need_told (present old.tree kept).tree ino inode size now)

  few : length group ≤ need.nodes
  few =
      let n = few_changes (present mid.tree still).tree ino inode size now in
      let e = ap (λ (m : Need). m.nodes) need_on in
      omega (arith, n, e)

  pub alike_then : (new : Tree) (after : Kept) → IsStaying → IsProper (present old.tree kept).tree → IsProper (present mid.tree still).tree → present new after ≡ record (present mid.tree still) { tree = apply (present mid.tree still).tree group }
      → IsAlike (record (present old.tree kept) { tree = apply (present old.tree kept).tree (truncating (present old.tree kept).tree ino inode size now) }) (present new after)
  alike_then new after law proper later made =
      subst (λ files. IsAlike (record (present old.tree kept) { tree = apply (present old.tree kept).tree (truncating (present old.tree kept).tree ino inode size now) }) files) (sym made)
      (law (present old.tree kept) (present mid.tree still) ino inode size now proper later found plain same)

  pub cut_then : (new : BackingState) (fate : GroupFate) → PutsSeen old mid kept → PutsSeenWith mid new still group fate → PutsSize old new kept ino inode size now fate
  cut_then new fate first second = (present mid.tree still, same, group_then old mid new kept still group fate is fits same first second)

  pub goes_then : (new : BackingState) → Goes (2 * length kept.pages.dirty) old mid → Goes (length group) mid new → Goes (2 * length kept.pages.dirty + need.nodes) old new
  goes_then new first second =
      let n = few in
      Goes-within (2 * length kept.pages.dirty + length group) (2 * length kept.pages.dirty + need.nodes) old new (omega (arith, n)) (Goes-then (2 * length kept.pages.dirty) (length group) old mid new first second)

  pub goes_alone : (new : BackingState) → mid ≡ granted old need → Goes (length group) mid new → Goes need.nodes old new
  goes_alone new same goes = goes_at_once need.nodes old mid new need same (Goes-within (length group) need.nodes mid new few goes)

  pub covered_then : (new : BackingState) → WasCovered old mid kept need need 0 → Goes (length group) mid new → WasCovered old new kept need need need.nodes
  covered_then new tested goes = Covered-then need.nodes old mid new kept need need tested (Goes-within (length group) need.nodes mid new few goes)

  pub grows_then : (new : BackingState) (after : Kept) → GrowsBy 0 old mid kept still → GrowsBy (length group) mid new still after → GrowsBy need.nodes old new kept after
  grows_then new after first second = let n = few in let all = grows_on (length group) old mid new kept still after first second in omega (arith, all, n)

  pub failed_then : (T U : Type 0) (fault : StoreFault) (new : BackingState) (after : Kept) → GrowsBy 0 old mid kept still → GrowsBy (added_or_failed {T = T} (length group) (length group) (Err fault)) mid new still after
      → GrowsBy (added_or_refused {T = U} need.nodes (max 2 need.nodes) (Err (refusal_of fault))) old new kept after
  failed_then T U fault new after first second =
      refused_more U U (length group) need.nodes (refusal_of fault) old new kept after few (admitted_failed T U (length group) fault old mid new kept still after first second)

-- where it isn't admitted no group is put
pub not_cut : (old mid : BackingState) (kept : Kept) (ino : ℕ) (inode : Inode) (size now : ℕ) (refusal : Refusal) → PutsSeen old mid kept → PutsSize old mid kept ino inode size now (refused_fate refusal)
not_cut old mid kept ino inode size now refusal first =
    let group = truncating (present old.tree kept).tree ino inode size now in
    (present old.tree kept, same-none (present old.tree kept), Puts-with (present old.tree kept).tree group (refused_fate refusal) old.journal mid.journal (Refused-none refusal group) first)

pub not_goes : (old mid : BackingState) (d n : ℕ) → Goes (2 * d) old mid → Goes (2 * d + n) old mid
not_goes old mid d n goes = Goes-within (2 * d) (2 * d + n) old mid (omega arith) goes
