-- Changes are made one after another.
use Rattle.std.proofs.Common.{◌≡◌, ℕ, zero, suc, ◌+◌, ◌<◌, ◌≤◌, false, List, [], ◌∷◌, ◌++◌, length, take, refl, ap, sym, subst, ◌∙◌, arith, inl, inr}
use Rattle.std.specs.Prelude.{get_or, slice_get, Option, None, Some, Result, Ok, Err}
use Rattle.std.specs.Result.{IsErrAnd}
use Rattle.std.proofs.lemmas.Bool.{cases_Bool}
use Rattle.std.proofs.lemmas.List.{take_more}
use Rattle.node_cache.specs.Loaded.{IsReadOnlyCall}
use Rattle.ubi_volume.specs.FaultLaws.{HasAreaCause-before}
use Rattle.ubi_volume.specs.Faults.{StaysSureArea}
use Rattle.ubi_volume.specs.Volume.{VolumeState, Keeps}
use Rattle.ubi_volume.specs.VolumeLaws.{Keeps-then, SameShape-then}
use Rattle.ubi_volume.specs.declared.fault.AreaFault.{AreaFault}
use Rattle.ubi_volume.specs.declared.fault.AreaFault.TheVariants.{Memory}
use Rattle.index_tree.specs.Removal.{same_leaf, holds, without}
use Rattle.index_tree.specs.Shape.{contents, count}
use Rattle.index_tree.specs.declared.leaf.Leaf.{Leaf}
use Rattle.index_media.specs.KeyedRemoval.{without_leaf_by_keys}
use Rattle.index_media.specs.KeyedRow.{KeyedRow, no_more, bare}
use Rattle.node_table.specs.Changing.{IsChange, AreChanges, changed_row, changed_by, leaves_after_change, leaves_after_all}
use Rattle.node_table.specs.Exchange.{tree_without}
use Rattle.table_nodes.specs.NodeView.{NodeView, node_before, node_views, tree_at}
use Rattle.node_table.specs.declared.change.Change.{Change}
use Rattle.table_nodes.specs.declared.node.Root.{Root}
use Rattle.table_nodes.specs.declared.node.TableNode.{TableNode}

-- one change more
changed_last : (f : ℕ) (changes : List Change) (change : Change) (row : KeyedRow) → changed_by f (changes ++ change ∷ []) row ≡ changed_row f change (changed_by f changes row)
changed_last f [] change row = refl
changed_last f (first ∷ rest) change row = changed_last f rest change (changed_row f first row)

leaves_last : (changes : List Change) (change : Change) (xs : List Leaf) → leaves_after_all (changes ++ change ∷ []) xs ≡ leaves_after_change change (leaves_after_all changes xs)
leaves_last [] change xs = refl
leaves_last (first ∷ rest) change xs = leaves_last rest change (leaves_after_change first xs)

pub changed_more : (f : ℕ) (changes : List Change) (i : ℕ) (d : Change) (row : KeyedRow) → i < length changes
    → changed_row f (get_or changes i d) (changed_by f (take i changes) row) ≡ changed_by f (take (i + 1) changes) row
changed_more f changes i d row h = sym (ap (λ v. changed_by f v row) (take_more changes i d h) ∙ changed_last f (take i changes) (get_or changes i d) row)

pub leaves_more : (changes : List Change) (i : ℕ) (d : Change) (xs : List Leaf) → i < length changes
    → leaves_after_change (get_or changes i d) (leaves_after_all (take i changes) xs) ≡ leaves_after_all (take (i + 1) changes) xs
leaves_more changes i d xs h = sym (ap (λ v. leaves_after_all v xs) (take_more changes i d h) ∙ leaves_last (take i changes) (get_or changes i d) xs)

pub change_at : (changes : List Change) (i : ℕ) (d : Change) → AreChanges changes → i < length changes → IsChange (get_or changes i d)
change_at [] i d a h = absurd (omega (arith, h))
change_at (first ∷ rest) zero d a h = a.0
change_at (first ∷ rest) (suc i) d a h = change_at rest i d a.1 (omega (arith, h))

-- two calls that only read the volume, of which the first one succeeded
sure_then : {S T : Type 0} (a b d : VolumeState) (x : S) (r : Result T AreaFault) → Keeps b d → StaysSureArea {T = S} a b (Ok x) → StaysSureArea {T = T} b d r → StaysSureArea {T = T} a d r
sure_then a b d x r keeps one two = λ sure. elim (one sure) [
  | inl spent ↦ inl (keeps.spent spent)
  | inr p ↦ elim (two p.0) [ inl spent ↦ inl spent | inr q ↦ inr (q.0, (q.1.0 ∙ p.1.0, q.1.1)) ]
]

pub reads_then : {S T : Type 0} (a b d : VolumeState) (x : S) (r : Result T AreaFault) → IsReadOnlyCall {T = S} a b (Ok x) → IsReadOnlyCall {T = T} b d r → IsReadOnlyCall {T = T} a d r
reads_then a b d x r one two = record {
  keeps = Keeps-then a b d one.keeps two.keeps;
  shape = SameShape-then a b d one.shape two.shape;
  cause = HasAreaCause-before a.faults b.faults d.faults r one.cause two.cause;
  sure = sure_then a b d x r two.keeps one.sure two.sure;
}

-- the same where both succeeded
pub reads_both : {S T U : Type 0} (a b d : VolumeState) (x : S) (y : T) (z : U) → IsReadOnlyCall {T = S} a b (Ok x) → IsReadOnlyCall {T = T} b d (Ok y) → IsReadOnlyCall {T = U} a d (Ok z)
reads_both {U = U} a b d x y z one two =
    let then : IsReadOnlyCall {T = U} b d (Ok z) = record { keeps = two.keeps; shape = two.shape; cause = two.cause; sure = two.sure } in
    reads_then a b d x (Ok z) one then

-- the same where the second one's fault is handed on
pub reads_failed : {S T U : Type 0} (a b d : VolumeState) (x : S) (fault : AreaFault) (r : Result U AreaFault) → IsErrAnd r (λ y. y ≡ fault) → IsReadOnlyCall {T = S} a b (Ok x) → IsReadOnlyCall {T = T} b d (Err fault) → IsReadOnlyCall {T = U} a d r
reads_failed a b d x fault (Ok z) e one two = absurd e
reads_failed {U = U} a b d x fault (Err y) e one two =
    let P : AreaFault → Type 0 = λ f. IsReadOnlyCall {T = U} b d (Err f) in
    reads_then a b d x (Err y) one (subst P (sym e) (record { keeps = two.keeps; shape = two.shape; cause = two.cause; sure = two.sure }))

-- a call that only read the volume, behind which memory was wanting
pub reads_wanting : {S U : Type 0} (a b : VolumeState) (x : S) (r : Result U AreaFault) → IsErrAnd r (λ y. y ≡ Memory) → IsReadOnlyCall {T = S} a b (Ok x) → IsReadOnlyCall {T = U} a b r
reads_wanting a b x (Ok z) e one = absurd e
reads_wanting {U = U} a b x (Err y) e one =
    let P : AreaFault → Type 0 = λ f. IsReadOnlyCall {T = U} a b (Err f) in
    subst P (sym e) (record { keeps = one.keeps; shape = one.shape; cause = one.cause; sure = one.sure })

-- an index is a row of one node at most
node_short : (o : Option NodeView) (root : Root) → count (bare (node_before root.key o no_more)) ≡ 1
node_short None root = refl
node_short (Some v) root = refl

pub top_short : (nodes : List TableNode) (root : Option Root) → count (bare (tree_at nodes root)) ≤ 1
top_short nodes None = omega arith
top_short nodes (Some root) = let one = node_short (slice_get (node_views nodes) root.number) root in omega (arith, one)

-- the leaves that a removal leaves
without_same : (z : Leaf) (xs : List Leaf) → holds z xs ≡ false → without z xs ≡ xs
without_same z [] h = refl
without_same z (x ∷ xs) h = elim (cases_Bool (same_leaf x z)) [
  | inl e ↦ let there = rw e at h in absurd cc
  | inr e ↦ rw e (ap (λ (v : List Leaf). x ∷ v) (without_same z xs (rw e at h)))
]

pub without_leaves : (z : Leaf) (row : KeyedRow) → contents (bare (without_leaf_by_keys z row)) ≡ without z (contents (bare row)) → contents (bare (tree_without z row)) ≡ without z (contents (bare row))
without_leaves z row h = elim (cases_Bool (holds z (contents (bare row)))) [
  | inl e ↦ rw e h
  | inr e ↦ rw e (sym (without_same z (contents (bare row)) e))
]
