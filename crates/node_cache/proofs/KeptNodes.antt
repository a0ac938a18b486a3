-- Nodes that are kept while others come and go, and while a volume is read.
use Rattle.std.proofs.Common.{◌≡◌, ℕ, ◌≤◌, Bool, true, inl, inr, List, [], length, ap, sym, subst, ◌∙◌, arith}
use Rattle.std.specs.Prelude.{Option, None, Some, IfSome, Contains, ◌==◌, ◌&&◌}
use Rattle.std.specs.Map.{lookup, remove_entry}
use Rattle.std.proofs.lemmas.Bool.{and_parts, eqb-true}
use Rattle.lru.specs.LruCache.{LruCache, lru_cache, put_entries}
use Rattle.lru.proofs.Splits.{Contains-nil}
use Rattle.lru.proofs.CallerLemmas.{Contains-lookup, Contains-remove_entry, Contains-put_entries}
use Rattle.media_sys.specs.Index.{Index, index_of}
use Rattle.media_sys.specs.declared.branch.Branch.{Branch}
use Rattle.media_sys.specs.declared.idx_node.IdxNode.{IdxNode}
use Rattle.index_media.specs.Stored.{IsIndexNodeAt}
use Rattle.node_cache.specs.Kept.{branch_place, to_place, IsIndexNodeOf}
use Rattle.node_cache.specs.RowsOn.{node_moved, said_is_node}

-- the same of entries
abbrev pub AreKeptIn : (ℕ → List ℕ) → LruCache (ℕ × ℕ × ℕ) IdxNode → Type 0
AreKeptIn contents nodes = (place : ℕ × ℕ × ℕ) (node : IdxNode) → Contains nodes.entries (place, node) → IsIndexNodeOf contents place node

abbrev pub is_place : ℕ × ℕ × ℕ → ℕ × ℕ × ℕ → Bool
is_place a b = (a.0 == b.0 && a.1 == b.1) && a.2 == b.2

pub same_place : (a b : ℕ × ℕ × ℕ) → is_place a b ≡ true → a ≡ b
same_place a b h =
    let both = and_parts (a.0 == b.0 && a.1 == b.1) (a.2 == b.2) h in
    let front = and_parts (a.0 == b.0) (a.1 == b.1) both.0 in
    ap (λ (x : ℕ). (x, a.1, a.2)) (eqb-true a.0 b.0 front.0) ∙ ap (λ (y : ℕ). (b.0, y, a.2)) (eqb-true a.1 b.1 front.1) ∙ ap (λ (z : ℕ). (b.0, b.1, z)) (eqb-true a.2 b.2 both.1)

-- ---- a node that is looked up, one that goes, and one that comes
pub kept_node : (contents : ℕ → List ℕ) (nodes : LruCache (ℕ × ℕ × ℕ) IdxNode) (place : ℕ × ℕ × ℕ) (o : Option IdxNode) → o ≡ lookup (is_place place) nodes.entries → AreKeptIn contents nodes → IfSome o (IsIndexNodeOf contents place)
kept_node contents nodes place None e h = tt
kept_node contents nodes place (Some node) e h =
    let found = Contains-lookup (is_place place) nodes.entries node (sym e) in
    let P : ℕ × ℕ × ℕ → Type 0 = λ p. IsIndexNodeOf contents p node in
    subst P (sym (same_place place found.0 found.2)) (h found.0 node found.1)

pub kept_without : (contents : ℕ → List ℕ) (old new : LruCache (ℕ × ℕ × ℕ) IdxNode) (place : ℕ × ℕ × ℕ) → new ≡ lru_cache (remove_entry (is_place place) old.entries) old.cap → AreKeptIn contents old → AreKeptIn contents new
kept_without contents old new place e h =
    let rest : LruCache (ℕ × ℕ × ℕ) IdxNode = lru_cache (remove_entry (is_place place) old.entries) old.cap in
    let P : LruCache (ℕ × ℕ × ℕ) IdxNode → Type 0 = λ l. AreKeptIn contents l in
    subst P (sym e) (λ p node c. h p node (Contains-remove_entry (is_place place) old.entries (p, node) c))

put_one : (contents : ℕ → List ℕ) (old : LruCache (ℕ × ℕ × ℕ) IdxNode) (place p : ℕ × ℕ × ℕ) (own node : IdxNode) → AreKeptIn contents old → IsIndexNodeOf contents place own
    → Contains (put_entries is_place old place own) (p, node) → IsIndexNodeOf contents p node
put_one contents old place p own node h is c =
    let N : IdxNode → Type 0 = λ n. IsIndexNodeOf contents p n in
    let P : ℕ × ℕ × ℕ → Type 0 = λ q. IsIndexNodeOf contents q own in
    elim (Contains-put_entries is_place old place own (p, node) c) [
      | inl was ↦ h p node was
      | inr put ↦ subst N (sym put.0) (elim (put.1) [
        | inl same ↦ subst P (sym same) is
        | inr other ↦ subst P (same_place place p other.2) is
      ])
    ]

pub kept_with : (contents : ℕ → List ℕ) (old new : LruCache (ℕ × ℕ × ℕ) IdxNode) (place : ℕ × ℕ × ℕ) (own : IdxNode) → new ≡ lru_cache (put_entries is_place old place own) old.cap → AreKeptIn contents old → IsIndexNodeOf contents place own
    → AreKeptIn contents new
kept_with contents old new place own e h is =
    let P : LruCache (ℕ × ℕ × ℕ) IdxNode → Type 0 = λ l. AreKeptIn contents l in
    subst P (sym e) (λ p node c. put_one contents old place p own node h is c)

pub kept_as : (contents : ℕ → List ℕ) (old new : LruCache (ℕ × ℕ × ℕ) IdxNode) → new ≡ old → AreKeptIn contents old → AreKeptIn contents new
kept_as contents old new e h =
    let P : LruCache (ℕ × ℕ × ℕ) IdxNode → Type 0 = λ l. AreKeptIn contents l in
    subst P (sym e) h

-- ---- a volume that is read
pub kept_moved : (old new : ℕ → List ℕ) (nodes : LruCache (ℕ × ℕ × ℕ) IdxNode) → ((k : ℕ) → new k ≡ old k) → AreKeptIn old nodes → AreKeptIn new nodes
kept_moved old new nodes e h = λ place node c said at. h place node c said (node_moved new old (to_place place) said (sym (e place.0)) at)

-- ---- a branch and its place
pub at_place : (contents : ℕ → List ℕ) (branch : Branch) (said : Index) → IsIndexNodeAt contents branch said → IsIndexNodeAt contents (to_place (branch_place branch)) said
at_place contents branch said h = record { sqnum = h.sqnum; group = h.group; room = h.room; is = h.is }

at_branch : (contents : ℕ → List ℕ) (branch : Branch) (said : Index) → IsIndexNodeAt contents (to_place (branch_place branch)) said → IsIndexNodeAt contents branch said
at_branch contents branch said h = record { sqnum = h.sqnum; group = h.group; room = h.room; is = h.is }

-- what is read where a branch leads is the node of its place, as long as the volume holds the same
pub node_of : (old new : ℕ → List ℕ) (branch : Branch) (node : IdxNode) → ((k : ℕ) → new k ≡ old k) → ((said : Index) → IsIndexNodeAt old branch said → index_of node ≡ said) → IsIndexNodeOf new (branch_place branch) node
node_of old new branch node e h = λ said at. h said (node_moved new old branch said (sym (e branch.lnum)) (at_branch new branch said at))

pub few_said : (contents : ℕ → List ℕ) (branch : Branch) (node : IdxNode) (said : Index) → IsIndexNodeAt contents branch said → index_of node ≡ said → length node.branches.items ≤ 256
few_said contents branch node said h e =
    let most = (said_is_node contents branch said h).most in
    let long = ap (λ (i : Index). length i.branches) e in
    omega (arith, most, long)

-- ---- other LEBs that are written
pub kept_beside : (old new : ℕ → List ℕ) (nodes : LruCache (ℕ × ℕ × ℕ) IdxNode) → ((place : ℕ × ℕ × ℕ) (node : IdxNode) → Contains nodes.entries (place, node) → new place.0 ≡ old place.0) → AreKeptIn old nodes → AreKeptIn new nodes
kept_beside old new nodes e h = λ place node c said at. h place node c said (node_moved new old (to_place place) said (sym (e place node c)) at)

-- ---- no nodes
pub none_kept : (contents : ℕ → List ℕ) (nodes : LruCache (ℕ × ℕ × ℕ) IdxNode) → nodes.entries ≡ [] → AreKeptIn contents nodes
none_kept contents nodes e = λ place node c. let P : List ((ℕ × ℕ × ℕ) × IdxNode) → Type 0 = λ es. Contains es (place, node) in absurd (Contains-nil (place, node) (subst P e c))
