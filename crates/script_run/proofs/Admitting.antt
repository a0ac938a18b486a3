-- What a line that is done had room for, from what its step says was admitted.
use Rattle.std.proofs.Common.{◌≡◌, ◌⊎◌, inl, inr, ℕ, ◌+◌, ◌-◌, ◌*◌, ◌<◌, ◌≤◌, Bool, true, false, cond, not, is_some, Option, Some, None, List, [], ◌∷◌, length, refl, sym, ap, subst, ◌∙◌, arith}
use Rattle.std.specs.Prelude.{filter, fold, sum_by}
use Rattle.std.specs.List.{AllByRecursion}
use Rattle.std.specs.BTreeMap.{insert_entry, is_at}
use Rattle.std.specs.Map.{lookup, values_of}
use Rattle.std.specs.Option.{option_map_or}
use Rattle.std.specs.Ordering.{match_ordering}
use Rattle.std.specs.declared.cmp.Ordering.{Ordering}
use Rattle.std.specs.declared.cmp.Ordering.TheVariants.{Less, Equal, Greater}
use Rattle.std.proofs.Math.Nat.{mul-le-mul_right}
use Rattle.std.proofs.lemmas.Bool.{false≢true}
use Rattle.std.proofs.lemmas.List.Sums.{sum_by-cons}
use Rattle.ubifs_base.specs.declared.raw_geometry.RawGeometry.{RawGeometry}
use Rattle.ubifs_base.specs.Areas.{main_lebs}
use Rattle.ubifs_base.specs.Geometry.{leb_reserve}
use Rattle.fs_model.specs.declared.change.Change.{Change}
use Rattle.fs_model.specs.declared.op.Op.{Op}
use Rattle.fs_model.specs.declared.op.Op.TheVariants.{Unlink, Rmdir, OpenFile, Close, Read, Write, Truncate, Fsync, Flush, List as ListDir, Stat, Readlink}
use Rattle.fs_model.specs.declared.reply.Reply.{Reply}
use Rattle.fs_model.specs.declared.space.Need.{Need}
use Rattle.fs_model.specs.declared.space.Space.{Space}
use Rattle.fs_model.specs.Backing.{BackingState, Goes}
use Rattle.fs_model.specs.Cover.{block_bytes, credit_bytes, inode_bytes, needed, reserve, room_for, tree_bytes}
use Rattle.fs_model.specs.Files.{Blocks, Files, Inodes, Tree, handle_at, pages_of, pair_cmp}
use Rattle.fs_model.specs.Need.{need_of, truncation_need}
use Rattle.fs_model.specs.Operation.{group_of}
use Rattle.fs_model.specs.Proper.{is_block_node}
use Rattle.fs_laws.specs.Alike.{told_by}
use Rattle.fs_laws.specs.Maps.{set_here, set_other}
use Rattle.fs_laws.specs.Orders.{pairs}
use Rattle.page_cache.specs.Pages.{is_page}
use Rattle.buffered_files.specs.declared.kept.Kept.{Kept}
use Rattle.buffered_files.specs.Alike.{IsAlike}
use Rattle.buffered_files.specs.Calls.{WasCovered}
use Rattle.buffered_files.specs.Present.{DirtyPages, FitsPages, IsKept, newly_dirty, present, with_page}
use Rattle.buffered_files.proofs.Alike.{present_bytes}
use Rattle.buffered_files.proofs.Covers.{page_cases}
use Rattle.vfs_ops.specs.Operations.{nodes_asked}
use Rattle.vfs_ops.specs.Replies.{is_refusal}
use Rattle.vfs_ops.specs.Steps.{IsAdmittedReply, WasAdmitted}
use Rattle.vfs_ops.specs.Writing.{WasPaid, credits_need, write_need}
use Rattle.traced_files.proofs.Sides.{block_short, room_mono}
use Rattle.script_run.specs.Admission.{HadRoom, fresh_pages, least_need, space_beside}

-- a block that is set adds its bytes at most
block_added : (blocks : Blocks) (k : ℕ × ℕ) (bytes : List ℕ) → sum_by block_bytes (values_of (insert_entry pair_cmp blocks k bytes)) ≤ sum_by block_bytes (values_of blocks) + block_bytes bytes
block_added [] k bytes = let one = sum_by-cons block_bytes bytes [] in omega (arith, one)
block_added (e ∷ es) k bytes = by (block_added es k bytes) (pair_cmp k e.0)
  where
    by : sum_by block_bytes (values_of (insert_entry pair_cmp es k bytes)) ≤ sum_by block_bytes (values_of es) + block_bytes bytes → (o : Ordering)
        → sum_by block_bytes (values_of (match_ordering o ((k, bytes) ∷ e ∷ es) ((e.0, bytes) ∷ es) (e ∷ insert_entry pair_cmp es k bytes))) ≤ sum_by block_bytes (values_of (e ∷ es)) + block_bytes bytes
    by more Less = let new = sum_by-cons block_bytes bytes (values_of (e ∷ es)) in omega (arith, new)
    by more Equal =
        let new = sum_by-cons block_bytes bytes (values_of es) in
        let old = sum_by-cons block_bytes e.1 (values_of es) in
        omega (arith, new, old)
    by more Greater =
        let new = sum_by-cons block_bytes e.1 (values_of (insert_entry pair_cmp es k bytes)) in
        let old = sum_by-cons block_bytes e.1 (values_of es) in
        omega (arith, more, new, old)

-- dirty pages add no more than a whole block each
pages_added : (inodes : Inodes) (dirty : DirtyPages) (blocks : Blocks) → AllByRecursion (FitsPages inodes) dirty → sum_by block_bytes (values_of (fold with_page blocks dirty)) ≤ sum_by block_bytes (values_of blocks) + 4144 * length dirty
pages_added inodes [] blocks all = omega arith
pages_added inodes (e ∷ dirty) blocks all =
    let node : is_block_node (e.0, e.1.bytes) ≡ true = all.0.2 in
    let few : length e.1.bytes ≤ 4096 = grind (arith, node) in
    let short = block_short e.1.bytes few in
    let one = block_added blocks e.0 e.1.bytes in
    let more = pages_added inodes dirty (with_page blocks e) all.1 in
    omega (arith, short, one, more)

-- the bytes of inodes, from what is told of them
told_bytes : (inodes : Inodes) → sum_by inode_bytes (values_of inodes) ≡ sum_by (λ (e : ℕ × ℕ). e.1) (told_by inode_bytes inodes)
told_bytes [] = refl
told_bytes (e ∷ inodes) =
    let more = told_bytes inodes in
    let a = sum_by-cons inode_bytes e.1 (values_of inodes) in
    let b = sum_by-cons (λ (x : ℕ × ℕ). x.1) (e.0, inode_bytes e.1) (told_by inode_bytes inodes) in
    omega (arith, more, a, b)

-- what callers see takes no more bytes than what is stored and a credit for each dirty page
seen_bytes : (tree : Tree) (kept : Kept) → IsKept tree kept → tree_bytes (present tree kept).tree ≤ tree_bytes tree + credit_bytes * length kept.pages.dirty
seen_bytes tree kept is =
    let inodes = told_bytes (present tree kept).tree.inodes ∙ ap (λ (told : List (ℕ × ℕ)). sum_by (λ (e : ℕ × ℕ). e.1) told) (present_bytes tree kept is) ∙ sym (told_bytes tree.inodes) in
    let blocks = pages_added kept.inodes kept.pages.dirty tree.blocks is.pages in
    omega (arith, inodes, blocks)

-- a page that is dirty has a block that callers see, and so has one that is stored
seen_there : (dirty : DirtyPages) (blocks : Blocks) (k : ℕ × ℕ) → (is_some (lookup (is_page k) dirty) ≡ true) ⊎ (is_some (lookup (is_at (pair_cmp k)) blocks) ≡ true) → is_some (lookup (is_at (pair_cmp k)) (fold with_page blocks dirty)) ≡ true
seen_there [] blocks k (inl found) = absurd (false≢true found)
seen_there [] blocks k (inr there) = there
seen_there (e ∷ dirty) blocks k h = seen_there dirty (with_page blocks e) k (by (page_cases k e.0) h)
  where
    by : ((k ≡ e.0) × (is_page k e.0 ≡ true)) ⊎ ((k ≡ e.0 → ⊥) × (is_page k e.0 ≡ false)) → (is_some (lookup (is_page k) (e ∷ dirty)) ≡ true) ⊎ (is_some (lookup (is_at (pair_cmp k)) blocks) ≡ true)
        → (is_some (lookup (is_page k) dirty) ≡ true) ⊎ (is_some (lookup (is_at (pair_cmp k)) (with_page blocks e)) ≡ true)
    by (inl same) h =
        inr (ap (λ (o : Option (List ℕ)). is_some o) (subst (λ (q : ℕ × ℕ). lookup (is_at (pair_cmp q)) (with_page blocks e) ≡ Some e.1.bytes) (sym same.0) (set_here pair_cmp pairs blocks e.0 e.1.bytes)))
    by (inr other) (inl found) = inl (subst (λ (b : Bool). is_some (cond b (Some e.1) (lookup (is_page k) dirty)) ≡ true) other.1 found)
    by (inr other) (inr there) = inr (ap (λ (o : Option (List ℕ)). is_some o) (set_other pair_cmp pairs blocks e.0 e.1.bytes k other.0) ∙ there)

-- as many pass a test, or fewer, if each that passes it passes another
few_pass : {A : Type 0} (p q : A → Bool) (xs : List A) → ((x : A) → p x ≡ true → q x ≡ true) → length (filter p xs) ≤ length (filter q xs)
few_pass p q [] so = omega arith
few_pass {A} p q (x ∷ xs) so = by (p x) (q x) (so x) (few_pass p q xs so)
  where
    by : (a b : Bool) → (a ≡ true → b ≡ true) → length (filter p xs) ≤ length (filter q xs) → length (cond a (x ∷ filter p xs) (filter p xs)) ≤ length (cond b (x ∷ filter q xs) (filter q xs))
    by true true one more = omega (arith, more)
    by true false one more = absurd (false≢true (one refl))
    by false true one more = omega (arith, more)
    by false false one more = more

-- a page without a block isn't dirty
few_fresh : (tree : Tree) (kept : Kept) (ino place n : ℕ) → fresh_pages (present tree kept).tree ino place n ≤ newly_dirty kept.pages.dirty ino place n
few_fresh tree kept ino place n =
    few_pass (λ page. not (is_some (lookup (is_at (pair_cmp (ino, page))) (fold with_page tree.blocks kept.pages.dirty)))) (λ page. not (is_some (lookup (is_page (ino, page)) kept.pages.dirty))) (pages_of place n)
    (λ page none. by page (is_some (lookup (is_page (ino, page)) kept.pages.dirty)) refl none)
  where
    by : (page : ℕ) (b : Bool) → is_some (lookup (is_page (ino, page)) kept.pages.dirty) ≡ b → not (is_some (lookup (is_at (pair_cmp (ino, page))) (fold with_page tree.blocks kept.pages.dirty))) ≡ true → not b ≡ true
    by page true is none = absurd (false≢true (sym (ap not (seen_there kept.pages.dirty tree.blocks (ino, page) (inl is))) ∙ none))
    by page false is none = refl

-- What is known where a test of admission held: with which numbers, for which need, and how heavy the index is afterwards.
pub record IsTested (geo : RawGeometry) (seen : Files) (put : Tree) (space : Space) (first need : Need) (index : ℕ) : Type 0 where
  pub same : IsAlike seen (record seen { tree = put })
  pub held : tree_bytes put ≤ space.used + space.held + credit_bytes * space.credits
  pub main : space.main ≡ main_lebs geo
  pub credits : need.credits ≤ first.credits
  pub bytes : need.bytes ≡ first.bytes
  pub nodes : need.nodes ≡ first.nodes
  pub class : need.class ≡ first.class
  pub passed : needed space first ≤ room_for geo space first
  pub weight : index ≤ space.weight + 2 * space.credits + need.nodes

fits_beside : (bytes used held credits asked own more room greater : ℕ) → bytes ≤ used + held + 4304 * credits → own ≤ asked → used + held + 4304 * (credits + asked) + more ≤ room → room ≤ greater → bytes + 0 + 4304 * (0 + own) + more ≤ greater
fits_beside bytes used held credits asked own more room greater few own_few fits le = omega (arith, few, own_few, fits, le)

tested : (geo : RawGeometry) (seen : Files) (put : Tree) (space : Space) (first need : Need) (index : ℕ) → IsTested geo seen put space first need index → HadRoom geo seen need index
tested geo seen put space first need index h =
    let weight : ℕ = space.weight + 2 * space.credits in
    let credits = h.credits in
    let nodes = h.nodes in
    let main = h.main in
    let lebs = room_mono geo 0 space.index (weight + 2 * (0 + need.credits) + need.nodes) (space.weight + 2 * (space.credits + first.credits) + first.nodes) (omega arith) (omega (arith, credits, nodes)) in
    let same : reserve need.class ≡ reserve first.class = ap reserve h.class in
    let more : room_for geo space first ≤ room_for geo (space_beside geo put weight) need = mul-le-mul_right (geo.leb_size - leb_reserve geo) (omega (arith, lebs, main, same)) in
    let passed : space.used + space.held + 4304 * (space.credits + first.credits) + need.bytes ≤ room_for geo space first =
    subst (λ (b : ℕ). space.used + space.held + 4304 * (space.credits + first.credits) + b ≤ room_for geo space first) (sym h.bytes) h.passed in
    record {
      put = put;
      same = h.same;
      weight = weight;
      room = record { fits = fits_beside (tree_bytes put) space.used space.held space.credits first.credits need.credits need.bytes (room_for geo space first) (room_for geo (space_beside geo put weight) need) h.held h.credits passed more };
      heavy = h.weight;
    }

-- What is known of a step over a backing of which no call fails.
pub record IsHeavy (geo : RawGeometry) (old new : BackingState) (kept : Kept) (nodes : ℕ) : Type 0 where
  pub fits : IsKept old.tree kept
  pub geometry : old.geometry ≡ geo
  pub main : old.space.main ≡ main_lebs old.geometry
  pub used : old.space.used ≡ tree_bytes old.tree
  pub credits : old.space.credits ≡ length kept.pages.dirty
  pub goes : Goes (2 * length kept.pages.dirty + nodes) old new

-- what was covered had room, at the first test or at the second
covered_room : (geo : RawGeometry) (old new : BackingState) (kept : Kept) (first second need : Need) (nodes : ℕ) → IsHeavy geo old new kept nodes → nodes ≡ need.nodes → need.credits ≤ first.credits → need.credits ≤ second.credits
    → (need.bytes ≡ first.bytes) × (need.nodes ≡ first.nodes) × (need.class ≡ first.class) → (need.bytes ≡ second.bytes) × (need.nodes ≡ second.nodes) × (need.class ≡ second.class)
    → WasCovered old new kept first second nodes → HadRoom geo (present old.tree kept) need new.space.weight
covered_room geo old new kept first second need nodes h asks few few_too a b (inl passed) =
    let bytes = seen_bytes old.tree kept h.fits in
    let used = h.used in
    let credits = h.credits in
    let weight = h.goes.weight in
    let P : RawGeometry → Type 0 = λ g. needed old.space first ≤ room_for g old.space first in
    tested geo (present old.tree kept) (present old.tree kept).tree old.space first need new.space.weight (record {
      same = record { inodes = refl; blocks = refl; entries = refl; highest = refl; handles = refl; sizes = λ ino inode found file. refl };
      held = omega (arith, bytes, used, credits);
      main = h.main ∙ ap main_lebs h.geometry;
      credits = few;
      bytes = a.0;
      nodes = a.1;
      class = a.2;
      passed = subst P h.geometry passed;
      weight = omega (arith, weight, credits, asks);
    })
covered_room geo old new kept first second need nodes h asks few few_too a b (inr last) =
    let state = last.state in
    let room = last.room in
    let used = room.used in
    let was = h.credits in
    let credits = room.credits in
    let weight = last.since.weight in
    let same : state.geometry ≡ geo = room.goes.geometry ∙ h.geometry in
    let P : RawGeometry → Type 0 = λ g. needed state.space second ≤ room_for g state.space second in
    tested geo (present old.tree kept) state.tree state.space second need new.space.weight (record {
      same = room.files;
      held = omega (arith, used);
      main = room.main ∙ ap main_lebs same;
      credits = few_too;
      bytes = b.0;
      nodes = b.1;
      class = b.2;
      passed = subst P same last.covered;
      weight = omega (arith, weight, asks);
    })

-- a write that adds a block was paid at a test
write_room : (geo : RawGeometry) (old new : BackingState) (kept : Kept) (found : Option ℕ) (offs len : ℕ) → IsHeavy geo old new kept 0 → ((ino : ℕ) → found ≡ Some ino → WasPaid old new kept ino offs len 0)
    → 0 < option_map_or (λ ino. fresh_pages (present old.tree kept).tree ino offs len) found 0 + 0 → HadRoom geo (present old.tree kept) (credits_need (option_map_or (λ ino. fresh_pages (present old.tree kept).tree ino offs len) found 0)) new.space.weight
write_room geo old new kept None offs len h paid asks = absurd (omega (arith, asks))
write_room geo old new kept (Some ino) offs len h paid asks = by (paid ino refl)
  where
    fresh : ℕ
    fresh = fresh_pages (present old.tree kept).tree ino offs len

    few : fresh ≤ newly_dirty kept.pages.dirty ino offs len
    few = few_fresh old.tree kept ino offs len

    all : fresh ≤ length (pages_of offs len)
    all = fewest (λ page. not (is_some (lookup (is_at (pair_cmp (ino, page))) (present old.tree kept).tree.blocks))) (pages_of offs len)
      where
        fewest : (p : ℕ → Bool) (xs : List ℕ) → length (filter p xs) ≤ length xs
        fewest p [] = omega arith
        fewest p (x ∷ xs) = step (p x) (fewest p xs)
          where
            step : (b : Bool) → length (filter p xs) ≤ length xs → length (cond b (x ∷ filter p xs) (filter p xs)) ≤ length (x ∷ xs)
            step true le = omega (arith, le)
            step false le = omega (arith, le)

    by : WasPaid old new kept ino offs len 0 → HadRoom geo (present old.tree kept) (credits_need fresh) new.space.weight
    by (inl none) = absurd (omega (arith, none, few, asks))
    by (inr covered) = covered_room geo old new kept (credits_need (newly_dirty kept.pages.dirty ino offs len - 0)) (write_need offs len 0) (credits_need fresh) 0 h refl (omega (arith, few)) (omega (arith, all)) (refl, refl, refl) (refl, refl, refl) covered

-- a group with a node was admitted
group_room : (geo : RawGeometry) (old new : BackingState) (kept : Kept) (need : Need) → IsHeavy geo old new kept need.nodes → WasCovered old new kept need need need.nodes → HadRoom geo (present old.tree kept) need new.space.weight
group_room geo old new kept need h covered = covered_room geo old new kept need need need need.nodes h refl (omega arith) (omega arith) (refl, refl, refl) (refl, refl, refl) covered

nothing_asked : (credits nodes : ℕ) → credits ≡ 0 → nodes ≡ 0 → 0 < credits + nodes → ⊥
nothing_asked credits nodes a b asks = omega (arith, a, b, asks)

-- a new size without a change asks for nothing
no_size : (group : List Change) → length group ≡ 0 → 0 < (truncation_need group).credits + (truncation_need group).nodes → ⊥
no_size [] none asks = nothing_asked 0 0 refl refl asks
no_size (change ∷ group) none asks = omega (arith, none)

-- what a reply that is done had room for
pub admitted_of : (geo : RawGeometry) (old new : BackingState) (kept : Kept) (caller now : ℕ) (op : Op) (reply : Reply) → IsHeavy geo old new kept (nodes_asked (present old.tree kept) caller now op) → IsAdmittedReply old new kept caller now 0 op reply
    → is_refusal reply ≡ false → 0 < (least_need (present old.tree kept) caller now op).credits + (least_need (present old.tree kept) caller now op).nodes → HadRoom geo (present old.tree kept) (least_need (present old.tree kept) caller now op) new.space.weight
admitted_of geo old new kept caller now op reply h (inl refused) done asks = absurd (false≢true (sym done ∙ ap is_refusal refused.1))
admitted_of geo old new kept caller now op reply h (inr admitted) done asks = by op h admitted asks
  where
    seen : Files
    seen = present old.tree kept

    by : (op : Op) → IsHeavy geo old new kept (nodes_asked seen caller now op) → WasAdmitted old new kept caller now 0 op → 0 < (least_need seen caller now op).credits + (least_need seen caller now op).nodes → HadRoom geo seen (least_need seen caller now op) new.space.weight
    by (OpenFile path slot) h a asks = absurd (nothing_asked _ _ refl refl asks)
    by (Close slot) h a asks = absurd (nothing_asked _ _ refl refl asks)
    by (Read slot offs len) h a asks = absurd (nothing_asked _ _ refl refl asks)
    by (ListDir path) h a asks = absurd (nothing_asked _ _ refl refl asks)
    by (Stat path) h a asks = absurd (nothing_asked _ _ refl refl asks)
    by (Readlink path) h a asks = absurd (nothing_asked _ _ refl refl asks)
    by (Fsync slot) h a asks = absurd (nothing_asked _ _ refl refl asks)
    by Flush h a asks = absurd (nothing_asked _ _ refl refl asks)
    by (Write slot offs len byte) h a asks = write_room geo old new kept (handle_at seen caller slot) offs len h a asks
    by (Truncate slot size) h a asks = elim (a refl) [
      | inl none ↦ absurd (no_size (group_of seen caller now (Truncate slot size)) none asks)
      | inr covered ↦ group_room geo old new kept (need_of seen caller now (Truncate slot size)) h covered
    ]
    by (Unlink path) h a asks = elim (a refl) [
      | inl none ↦ absurd (nothing_asked _ _ refl none asks)
      | inr covered ↦ group_room geo old new kept (need_of seen caller now (Unlink path)) h covered
    ]
    by (Rmdir path) h a asks = elim (a refl) [
      | inl none ↦ absurd (nothing_asked _ _ refl none asks)
      | inr covered ↦ group_room geo old new kept (need_of seen caller now (Rmdir path)) h covered
    ]
    by op h a asks = elim (a refl) [
      | inl none ↦ absurd (nothing_asked _ _ refl none asks)
      | inr covered ↦ group_room geo old new kept (need_of seen caller now op) h covered
    ]
