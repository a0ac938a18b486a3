-- What holds while names are walked.
use Rattle.std.proofs.Common.{◌≡◌, ℕ, ◌≤◌, ◌<◌, inl, inr, List, [], ◌∷◌, refl, sym, ap, subst, ◌∙◌, arith}
use Rattle.std.specs.Prelude.{Ok, Err, drop, length, get_or, suc}
use Rattle.std.proofs.Math.Seq.{drop-cons}
use Rattle.fs_model.specs.Files.{Tree}
use Rattle.fs_model.specs.declared.inode.Entry.{Entry}
use Rattle.fs_model.specs.declared.refusal.Refusal.{Refusal}
use Rattle.fs_model.specs.declared.refusal.Refusal.TheVariants.{Enoent, Eexist, Enotdir, Eisdir, Enotempty, Enospc, Erofs, Eio, Enomem, Efbig, Enametoolong, Einval, Emlink, Enfile, Ebadf}
use Rattle.fs_model.specs.Backing.{BackingState, Outlook, Reads}
use Rattle.fs_model.specs.Path.{reached, child, root_entry}
use Rattle.buffered_files.specs.declared.kept.Kept.{Kept}
use Rattle.buffered_files.specs.Present.{present}
use Rattle.vfs_plans.specs.Answers.{Looks, IsFault, IsRefused}
use Rattle.buffered_files.specs.CallLaws.{Goes-none, Goes-then, Sure-none, Sure-then}

-- looking twice is looking
pub reads_then : (a b c : BackingState) → Reads a b → Reads b c → Reads a c
reads_then a b c first second = let P : BackingState → BackingState = λ s. record s { mode = c.mode; faults = c.faults } in second ∙ ap P first

pub Looks-then : (x y z : Outlook) (a b c : BackingState) → Looks x y a b → Looks y z b c → Looks x z a c
Looks-then x y z a b c first second = record {
  reads = reads_then a b c first.reads second.reads;
  goes = Goes-then 0 0 a b c first.goes second.goes;
  sure = Sure-then x y z a b c first.sure second.sure;
}

pub Looks-none : (x : Outlook) (a : BackingState) → Looks x x a a
Looks-none x a = record { reads = refl; goes = Goes-none a; sure = Sure-none x a }

-- the tree stays
pub same_tree : (x y : Outlook) (a b : BackingState) → Looks x y a b → b.tree ≡ a.tree
same_tree x y a b looks = ap (λ s. s.tree) looks.reads

-- a fault of a later call is one of both
pub fault_later : (a b c : BackingState) (refusal : Refusal) → a.faults ≤ b.faults → IsFault b c refusal → IsFault a c refusal
fault_later a b c (Eio count) h (inl r, same, mode) = (inl (omega (arith, h, r)), same, mode)
fault_later a b c (Eio count) h (inr r, same, mode) = (inr r, same, mode)
fault_later a b c Enomem h f = tt
fault_later a b c Enoent h f = f
fault_later a b c Eexist h f = f
fault_later a b c Enotdir h f = f
fault_later a b c Eisdir h f = f
fault_later a b c Enotempty h f = f
fault_later a b c (Enospc space) h f = f
fault_later a b c (Erofs cause) h f = f
fault_later a b c Efbig h f = f
fault_later a b c Enametoolong h f = f
fault_later a b c Einval h f = f
fault_later a b c Emlink h f = f
fault_later a b c (Enfile what limit) h f = f
fault_later a b c Ebadf h f = f

-- what holds while names are walked, of which so many are done
pub record Walking (x y : Outlook) (old now : BackingState) (kept : Kept) (names : List (List ℕ)) (at : Entry) (done : ℕ) : Type 0 where
  pub so_far : reached (present old.tree kept).tree (Ok root_entry) names ≡ reached (present old.tree kept).tree (Ok at) (drop done names)
  pub looks : Looks x y old now

pub walking_begins : (x : Outlook) (old : BackingState) (kept : Kept) (names : List (List ℕ)) (at : Entry) → at ≡ root_entry → Walking x x old old kept names at 0
walking_begins x old kept names at same = record { so_far = rw same refl; looks = Looks-none x old }

-- one name more
pub walking_more : (x y z : Outlook) (old now new : BackingState) (kept : Kept) (names : List (List ℕ)) (at next : Entry) (done more : ℕ) (name : List ℕ) → Walking x y old now kept names at done → done < length names → name ≡ get_or names done name → more ≡ suc done
    → child (present now.tree kept).tree name (Ok at) ≡ Ok next → Looks y z now new → Walking x z old new kept names next more
walking_more x y z old now new kept names at next done more name w few is one found looks =
    let tree = same_tree x y old now w.looks in
    let first : drop done names ≡ name ∷ drop (suc done) names = drop-cons names done name few ∙ ap (λ n. n ∷ drop (suc done) names) (sym is) in
    let here : child (present old.tree kept).tree name (Ok at) ≡ Ok next = subst (λ t. child (present t kept).tree name (Ok at) ≡ Ok next) tree found in
    record {
      so_far = w.so_far ∙ ap (λ rest. reached (present old.tree kept).tree (Ok at) rest) first ∙ ap (λ r. reached (present old.tree kept).tree r (drop (suc done) names)) here ∙ ap (λ n. reached (present old.tree kept).tree (Ok next) (drop n names)) (sym one);
      looks = Looks-then x y z old now new w.looks looks;
    }

lost : (tree : Tree) (refusal : Refusal) (names : List (List ℕ)) → reached tree (Err refusal) names ≡ Err refusal
lost tree refusal [] = refl
lost tree refusal (name ∷ names) = lost tree refusal names

-- a name that leads nowhere
pub walking_ends : (x y : Outlook) (old now new : BackingState) (kept : Kept) (names : List (List ℕ)) (at : Entry) (done : ℕ) (name : List ℕ) (refusal : Refusal) → Walking x y old now kept names at done → done < length names → name ≡ get_or names done name
    → IsRefused now new (child (present now.tree kept).tree name (Ok at)) refusal → IsRefused old new (reached (present old.tree kept).tree (Ok root_entry) names) refusal
walking_ends x y old now new kept names at done name refusal w few is (inl found) =
    let tree = same_tree x y old now w.looks in
    let first : drop done names ≡ name ∷ drop (suc done) names = drop-cons names done name few ∙ ap (λ n. n ∷ drop (suc done) names) (sym is) in
    let here : child (present old.tree kept).tree name (Ok at) ≡ Err refusal = subst (λ t. child (present t kept).tree name (Ok at) ≡ Err refusal) tree found in
    inl (w.so_far ∙ ap (λ rest. reached (present old.tree kept).tree (Ok at) rest) first ∙ ap (λ r. reached (present old.tree kept).tree r (drop (suc done) names)) here ∙ lost (present old.tree kept).tree refusal (drop (suc done) names))
walking_ends x y old now new kept names at done name refusal w few is (inr fault) = inr (fault_later old now new refusal w.looks.goes.faults fault)

-- the same, for searches
pub looks_on : {x y z : Outlook} {a b c : BackingState} → Looks x y a b → Looks y z b c → Looks x z a c
looks_on {x} {y} {z} {a} {b} {c} first second = Looks-then x y z a b c first second
