-- Laws of what several calls of a backing keep to, one after another.
use Rattle.std.proofs.Common.{◌≡◌, ℕ, ◌+◌, ◌-◌, ◌*◌, ◌/◌, ◌≤◌, ◌⊎◌, inl, inr, max, zero, suc, Ok, Err, List, length, refl, sym, ap, subst, ◌∙◌, arith}
use Rattle.std.proofs.Math.Nat.{div-mul-le_self, div-zero}
use Rattle.std.proofs.lemmas.Nat.{le-div}
use Rattle.ubifs_base.specs.declared.raw_geometry.RawGeometry.{RawGeometry}
use Rattle.ubifs_base.specs.Geometry.{index_nodes_per_leb}
use Rattle.std.specs.Prelude.{Result}
use Rattle.fs_model.specs.declared.backing_answers.StoreFault.{StoreFault}
use Rattle.fs_model.specs.declared.backing_answers.StoreFault.TheVariants.{Memory, Volume, ReadOnly as IsReadOnly}
use Rattle.fs_model.specs.declared.space.Need.{Need}
use Rattle.fs_model.specs.Backing.{BackingState, Outlook, FitsOrphans, Goes, ModeGoes, Rose, KeepsFiles, granted, put_by}
use Rattle.fs_model.specs.Cover.{index_lebs}
use Rattle.fs_model.specs.declared.change.Change.{Change}
use Rattle.fs_model.specs.Files.{Tree}
use Rattle.buffered_files.specs.declared.kept.Kept.{Kept}
use Rattle.buffered_files.specs.Calls.{SureGoes, WasCovered}

quotient-grows : (q m n : ℕ) → m ≤ n → m / q ≤ n / q
quotient-grows zero m n h = rw (div-zero m, div-zero n) (omega arith)
quotient-grows (suc q) m n h =
    let below = div-mul-le_self m (suc q) in
    le-div (m / suc q) n (suc q) (omega arith) (omega (arith, below, h))

index_grows : (geo : RawGeometry) (m n : ℕ) → m ≤ n → index_lebs geo m ≤ index_lebs geo n
index_grows geo m n h = quotient-grows (index_nodes_per_leb geo) (m + index_nodes_per_leb geo - 1) (n + index_nodes_per_leb geo - 1) (omega (arith, h))

rose_later : (a b count : ℕ) → a ≤ b → Rose b count → Rose a count
rose_later a b count h (inl r) = inl (omega (arith, h, r))
rose_later a b count h (inr r) = inr r

rose_sooner : (a b c : ℕ) → Rose a b → b ≤ c → Rose a c
rose_sooner a b c (inl r) h = inl (omega (arith, h, r))
rose_sooner a b c (inr r) h = inr (omega (arith, h, r))

mode_then : (a b c : BackingState) → a.faults ≤ b.faults → b.faults ≤ c.faults → ModeGoes a b → ModeGoes b c → ModeGoes a c
mode_then a b c f g (inl same) (inl again) = inl (again ∙ same)
mode_then a b c f g (inl same) (inr (was, inl lost)) = inr (sym same ∙ was, inl (lost.0, lost.1, rose_later a.faults b.faults lost.0 f lost.2, lost.3))
mode_then a b c f g (inl same) (inr (was, inr lost)) = inr (sym same ∙ was, inr lost)
mode_then a b c f g (inr (was, inl lost)) (inl same) = inr (was, inl (lost.0, same ∙ lost.1, lost.2, omega (arith, lost.3, g)))
mode_then a b c f g (inr (was, inr lost)) (inl same) = inr (was, inr (lost.0, lost.1, same ∙ lost.2, lost.3))
mode_then a b c f g (inr (was, inl lost)) (inr (again, more)) = let n = sym lost.1 ∙ again in absurd cc
mode_then a b c f g (inr (was, inr lost)) (inr (again, more)) = let n = sym lost.2 ∙ again in absurd cc

-- one call after another: what both put adds up
pub Goes-then : (m n : ℕ) (a b c : BackingState) → Goes m a b → Goes n b c → Goes (m + n) a c
Goes-then m n a b c first second = record {
  geometry = second.geometry ∙ first.geometry;
  orphan_limit = second.orphan_limit ∙ first.orphan_limit;
  mode = mode_then a b c first.faults second.faults first.mode second.mode;
  faults = let p = first.faults in let q = second.faults in omega (arith, p, q);
  weight = let p = first.weight in let q = second.weight in omega (arith, p, q);
  index =
      let p = first.index in
      let w = first.weight in
      let same : index_lebs b.geometry (b.space.weight + n) ≡ index_lebs a.geometry (b.space.weight + n) = ap (λ geo. index_lebs geo (b.space.weight + n)) first.geometry in
      let q : c.space.index ≤ max b.space.index (2 * index_lebs a.geometry (b.space.weight + n)) = rw same at second.index in
      let u = index_grows a.geometry (a.space.weight + m) (a.space.weight + (m + n)) (omega arith) in
      let v = index_grows a.geometry (b.space.weight + n) (a.space.weight + (m + n)) (omega (arith, w)) in
      omega (arith, p, q, u, v);
  nodes_put = let p = first.nodes_put in let q = second.nodes_put in omega (arith, p, q);
  told = second.told ∙ first.told;
}

-- no call at all
pub Goes-none : (a : BackingState) → Goes 0 a a
Goes-none a = record { geometry = refl; orphan_limit = refl; mode = inl refl; faults = omega arith; weight = omega arith; index = omega arith; nodes_put = omega arith; told = refl }

-- fewer nodes are within more
pub Goes-within : (m n : ℕ) (a b : BackingState) → m ≤ n → Goes m a b → Goes n a b
Goes-within m n a b h goes = record {
  geometry = goes.geometry;
  orphan_limit = goes.orphan_limit;
  mode = goes.mode;
  faults = goes.faults;
  weight = let p = goes.weight in omega (arith, p, h);
  index = let p = goes.index in let q = index_grows a.geometry (a.space.weight + m) (a.space.weight + n) (omega (arith, h)) in omega (arith, p, q);
  nodes_put = let p = goes.nodes_put in omega (arith, p, h);
  told = goes.told;
}

-- a volume that is sure stays so over two calls
pub Sure-then : (x y z : Outlook) (a b c : BackingState) → SureGoes x y a b → SureGoes y z b c → SureGoes x z a c
Sure-then x y z a b c first second = record { sure = λ s. by (first.sure s); spent = λ s. second.spent (first.spent s) }
  where
    next : b.faults ≡ a.faults → z.spent ⊎ (z.sure × (c.faults ≡ b.faults)) → z.spent ⊎ (z.sure × (c.faults ≡ a.faults))
    next e (inl s) = inl s
    next e (inr s) = inr (s.0, s.1 ∙ e)

    by : y.spent ⊎ (y.sure × (b.faults ≡ a.faults)) → z.spent ⊎ (z.sure × (c.faults ≡ a.faults))
    by (inl s) = inl (second.spent s)
    by (inr s) = next s.1 (second.sure s.0)

pub Sure-none : (x : Outlook) (a : BackingState) → SureGoes x x a a
Sure-none x a = record { sure = λ s. inr (s, refl); spent = λ s. s }

pub Files-then : (a b c : BackingState) → KeepsFiles a b → KeepsFiles b c → KeepsFiles a c
Files-then a b c first second = record {
  tree = second.tree ∙ first.tree;
  credits = second.credits ∙ first.credits;
  grant = second.grant ∙ first.grant;
  held = let p = first.held in let q = second.held in omega (arith, p, q);
  closed = let p = first.closed in let q = second.closed in omega (arith, p, q);
}

-- a put puts at most what it would
pub Goes-put : {T X : Type 0} (result : Result T StoreFault) (puts : List X) (a b : BackingState) → Goes (length (put_by result puts)) a b → Goes (length puts) a b
Goes-put (Ok x) puts a b goes = goes
Goes-put (Err Memory) puts a b goes = Goes-within 0 (length puts) a b (omega arith) goes
Goes-put (Err (Volume count)) puts a b goes = goes
Goes-put (Err (IsReadOnly cause)) puts a b goes = Goes-within 0 (length puts) a b (omega arith) goes

-- to cover credits puts nothing
pub Goes-granted : (n : ℕ) (a b c : BackingState) (need : Need) → Goes n a b → c ≡ granted b need → Goes n a c
Goes-granted n a b c need goes same = subst (λ s. Goes n a s) (sym same) record {
  geometry = goes.geometry;
  orphan_limit = goes.orphan_limit;
  mode = goes.mode;
  faults = goes.faults;
  weight = goes.weight;
  index = goes.index;
  nodes_put = goes.nodes_put;
  told = goes.told;
}

-- what was admitted still is once so much was put
pub Covered-then : (n : ℕ) (a b c : BackingState) (kept : Kept) (first second : Need) → WasCovered a b kept first second 0 → Goes n b c → WasCovered a c kept first second n
Covered-then n a b c kept first second (inl now) goes = inl now
Covered-then n a b c kept first second (inr last) goes =
    inr (record { state = last.state; room = last.room; covered = last.covered; since = Goes-within (0 + n) n (granted last.state second) c (omega arith) (Goes-then 0 n (granted last.state second) b c last.since goes) })

-- where fewer are closed, a list of orphans still has room
pub fewer_closed : (tree : Tree) (more closed limit same : ℕ) (group : List Change) → closed ≤ more → limit ≡ same → FitsOrphans tree more limit group → FitsOrphans tree closed same group
fewer_closed tree more closed limit same group less e (inl few) = inl few
fewer_closed tree more closed limit same group less e (inr room) = inr (omega (arith, less, e, room))
