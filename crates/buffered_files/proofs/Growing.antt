-- How much heavier the index gets, dirty pages included.
use Rattle.std.proofs.Common.{◌≡◌, ℕ, ◌+◌, ◌≤◌, Err, List, length, max, sym, subst, arith}
use Rattle.fs_model.specs.declared.backing_answers.StoreFault.{StoreFault}
use Rattle.fs_model.specs.declared.backing_answers.StoreFault.TheVariants.{Memory, Volume, ReadOnly as IsReadOnly}
use Rattle.fs_model.specs.declared.change.Change.{Change}
use Rattle.fs_model.specs.declared.page_node.PageNode.{PageNode}
use Rattle.fs_model.specs.declared.refusal.Refusal.{Refusal}
use Rattle.fs_model.specs.declared.refusal.Refusal.TheVariants.{Eio}
use Rattle.fs_model.specs.declared.space.Need.{Need}
use Rattle.fs_model.specs.Backing.{BackingState, Goes, granted, page_group, put_by}
use Rattle.buffered_files.specs.declared.kept.Kept.{Kept}
use Rattle.buffered_files.specs.Calls.{GrowsBy, added_or_failed, added_or_refused, refusal_of}

-- a page that wasn't put for a fault
pub page_failed : (T U : Type 0) (fault : StoreFault) (page : PageNode) (a b : BackingState) (kept : Kept) → Goes (length (put_by {T = T} (Err fault) (page_group page))) a b → GrowsBy (added_or_failed {T = U} 0 2 (Err fault)) a b kept kept
page_failed T U Memory page a b kept goes = let w = goes.weight in omega (arith, w)
page_failed T U (Volume count) page a b kept goes = let w = goes.weight in omega (arith, w)
page_failed T U (IsReadOnly cause) page a b kept goes = let w = goes.weight in omega (arith, w)

-- a page that was put is dirty no longer
pub page_done : (a b : BackingState) (before after : Kept) → Goes 2 a b → b.space.credits + 1 ≡ a.space.credits → b.space.credits + length before.pages.dirty ≡ a.space.credits + length after.pages.dirty → GrowsBy 0 a b before after
page_done a b before after goes spent issued = let w = goes.weight in omega (arith, w, spent, issued)

-- a group that wasn't put for a fault
pub group_failed : (T U : Type 0) (fault : StoreFault) (group : List Change) (a b : BackingState) (kept : Kept) → Goes (length (put_by {T = T} (Err fault) group)) a b → GrowsBy (added_or_failed {T = U} (length group) (length group) (Err fault)) a b kept kept
group_failed T U Memory group a b kept goes = let w = goes.weight in omega (arith, w)
group_failed T U (Volume count) group a b kept goes = let w = goes.weight in omega (arith, w)
group_failed T U (IsReadOnly cause) group a b kept goes = let w = goes.weight in omega (arith, w)

-- no page more is dirty
pub no_more : (n : ℕ) (a b : BackingState) (before after : Kept) → Goes n a b → length after.pages.dirty ≤ length before.pages.dirty → GrowsBy n a b before after
no_more n a b before after goes few = let w = goes.weight in omega (arith, w, few)

-- one call after another, of which the first adds nothing
pub grows_on : (n : ℕ) (a b c : BackingState) (first mid last : Kept) → GrowsBy 0 a b first mid → GrowsBy n b c mid last → GrowsBy n a c first last
grows_on n a b c first mid last p q = omega (arith, p, q)

-- the same of what is told as a refusal
pub grows_refused : (T U : Type 0) (done failed : ℕ) (fault : StoreFault) (a b : BackingState) (before after : Kept) → GrowsBy (added_or_failed {T = T} done failed (Err fault)) a b before after → GrowsBy (added_or_refused {T = U} done failed (Err (refusal_of fault))) a b before after
grows_refused T U done failed Memory a b before after p = p
grows_refused T U done failed (Volume count) a b before after p = p
grows_refused T U done failed (IsReadOnly cause) a b before after p = p

-- a group that was admitted isn't put for a fault
pub admitted_failed : (T U : Type 0) (n : ℕ) (fault : StoreFault) (a b c : BackingState) (first mid last : Kept) → GrowsBy 0 a b first mid → GrowsBy (added_or_failed {T = T} n n (Err fault)) b c mid last → GrowsBy (added_or_refused {T = U} n (max 2 n) (Err (refusal_of fault))) a c first last
admitted_failed T U n Memory a b c first mid last p q = omega (arith, p, q)
admitted_failed T U n (Volume count) a b c first mid last p q = omega (arith, p, q)
admitted_failed T U n (IsReadOnly cause) a b c first mid last p q = omega (arith, p, q)

-- a put that fails once others were done
pub failed_on : (T U : Type 0) (fault : StoreFault) (a b c : BackingState) (first mid last : Kept) → GrowsBy 0 a b first mid → GrowsBy (added_or_failed {T = T} 0 2 (Err fault)) b c mid last → GrowsBy (added_or_failed {T = U} 0 2 (Err fault)) a c first last
failed_on T U Memory a b c first mid last p q = omega (arith, p, q)
failed_on T U (Volume count) a b c first mid last p q = omega (arith, p, q)
failed_on T U (IsReadOnly cause) a b c first mid last p q = omega (arith, p, q)

-- a call that puts nothing, after another
pub none_put : (n : ℕ) (a b c : BackingState) (first mid : Kept) → GrowsBy 0 a b first mid → Goes 0 b c → GrowsBy n a c first mid
none_put n a b c first mid p goes = let w = goes.weight in omega (arith, p, w)

-- to cover credits adds nothing
pub grows_granted : (a b c : BackingState) (need : Need) (first last : Kept) → GrowsBy 0 a b first last → c ≡ granted b need → GrowsBy 0 a c first last
grows_granted a b c need first last p same = subst (λ s. GrowsBy 0 a s first last) (sym same) p

-- a group that wasn't admitted
pub not_admitted : (T U : Type 0) (n : ℕ) (r : Refusal) (a b : BackingState) (first last : Kept) → GrowsBy (added_or_refused {T = T} 0 2 (Err r)) a b first last → GrowsBy (added_or_refused {T = U} n (max 2 n) (Err r)) a b first last
not_admitted T U n (Eio count) a b first last p = omega (arith, p)
not_admitted T U n r a b first last p = p
