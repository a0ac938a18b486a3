-- What a write leaves.
use Rattle.std.proofs.Common.{◌≡◌, ℕ, zero, suc, ◌+◌, ◌-◌, ◌*◌, ◌/◌, ◌<◌, ◌≤◌, ◌^◌, Bool, true, false, cond, ◌||◌, min, max, List, [], ◌∷◌, ◌++◌, length, take, drop, Some, Ok, Err, refl, sym, ap, subst, ◌∙◌, arith, length-append, length-take, length-drop}
use Rattle.std.specs.Prelude.{◌==◌, nat_le, nat_lt, Option, None, unwrap_or, replicate, fold, if◌then◌else◌}
use Rattle.std.specs.List.{list_all, range_with_len}
use Rattle.std.specs.Map.{keys_of, lookup}
use Rattle.std.specs.BTreeMap.{is_at, insert_entry}
use Rattle.std.specs.Ordering.{nat_cmp}
use Rattle.std.proofs.lemmas.Bool.{false≢true, and_parts, and_from, lt-ltb, ltb-false, eq-eqb}
use Rattle.std.proofs.lemmas.List.{length-replicate}
use Rattle.fs_model.specs.declared.inode.Inode.{Inode}
use Rattle.fs_model.specs.declared.inode.Kind.TheVariants.{File}
use Rattle.fs_model.specs.declared.refusal.Refusal.{Refusal}
use Rattle.fs_model.specs.declared.refusal.Refusal.TheVariants.{Efbig, Einval, Ebadf}
use Rattle.fs_model.specs.declared.reply.Reply.TheVariants.{Count}
use Rattle.fs_model.specs.Files.{Tree, Files, Blocks, inode_at, handle_at, block_at, size_of, pair_cmp, overlaid, with_page, blocks_written}
use Rattle.fs_model.specs.Handles.{is_bad_slot, size_limit, tree_written, bytes_written}
use Rattle.fs_model.specs.Making.{touched}
use Rattle.fs_model.specs.Outcome.{Outcome, refuse, with_some, files_in}
use Rattle.fs_model.specs.Proper.{ascends, are_bytes, is_inode_node, is_block_node}
use Rattle.fs_laws.specs.Sound.{IsSound, LeavesSound}
use Rattle.fs_laws.proofs.Climb.{proper_of, numbered}
use Rattle.fs_laws.proofs.Closes.{stays_sound}
use Rattle.fs_laws.proofs.Groups.{node_at}
use Rattle.fs_laws.proofs.Linked.{linked_same}
use Rattle.fs_laws.proofs.Local.{IsLocal, local_of}
use Rattle.fs_laws.specs.Maps.{all_at, all_insert, all_weaken, insert_ascends}
use Rattle.fs_laws.proofs.Nodes.{block_node_of, block_node_from, node_number, node_size, node_sized, node_touched}
use Rattle.fs_laws.specs.Orders.{numbers, pairs}
use Rattle.fs_laws.proofs.Plans.{refuse_to, some_to}
use Rattle.fs_laws.proofs.Rel.{rel_of, kind_is}
use Rattle.fs_laws.proofs.Steps.{keeps_kinds, rel_touched, some_same}
use Rattle.fs_laws.proofs.Truncates.{ends_low, all_take, full_from}

-- what is asked of blocks
record AreSound (blocks : Blocks) (highest : ℕ) : Type 0 where
  pub ascend : ascends pair_cmp (keys_of blocks) ≡ true
  pub nodes : list_all is_block_node blocks ≡ true
  pub below : list_all (λ e. nat_le e.0.0 highest) blocks ≡ true

all_append : {X : Type 0} (p : X → Bool) (xs ys : List X) → list_all p xs ≡ true → list_all p ys ≡ true → list_all p (xs ++ ys) ≡ true
all_append p [] ys a b = b
all_append p (x ∷ xs) ys a b = let q = and_parts (p x) (list_all p xs) a in and_from (p x) (list_all p (xs ++ ys)) q.0 (all_append p xs ys q.1 b)

all_drop : {X : Type 0} (p : X → Bool) (n : ℕ) (xs : List X) → list_all p xs ≡ true → list_all p (drop n xs) ≡ true
all_drop p zero xs h = h
all_drop p (suc n) [] h = refl
all_drop p (suc n) (x ∷ xs) h = all_drop p n xs (and_parts (p x) (list_all p xs) h).1

all_replicate : {X : Type 0} (p : X → Bool) (n : ℕ) (x : X) → p x ≡ true → list_all p (replicate n x) ≡ true
all_replicate p zero x h = refl
all_replicate p (suc n) x h = and_from (p x) (list_all p (replicate n x)) h (all_replicate p n x h)

-- what is stored of a block
record IsStored (bytes : List ℕ) : Type 0 where
  pub short : length bytes ≤ 4096
  pub letters : are_bytes bytes ≡ true

stored : (blocks : Blocks) (ino page : ℕ) → list_all is_block_node blocks ≡ true → IsStored (block_at blocks ino page)
stored blocks ino page h = by (lookup (is_at (pair_cmp (ino, page))) blocks) refl
  where
    by : (o : Option (List ℕ)) → lookup (is_at (pair_cmp (ino, page))) blocks ≡ o → IsStored (unwrap_or o [])
    by None f = record { short = omega arith; letters = refl }
    by (Some bytes) f = let n = block_node_of ((ino, page), bytes) (all_at pair_cmp pairs is_block_node blocks (ino, page) bytes h f) in record { short = n.short; letters = n.bytes }

overlaid_short : (old : List ℕ) (from to byte : ℕ) → from ≤ to → length (overlaid old from to byte) ≤ max (length old) to
overlaid_short old from to byte h = simp (length-append, length-take, length-drop, length-replicate) (omega arith)

overlaid_long : (old : List ℕ) (from to byte : ℕ) → from ≤ to → to ≤ length (overlaid old from to byte)
overlaid_long old from to byte h = simp (length-append, length-take, length-drop, length-replicate) (omega arith)

overlaid_bytes : (old : List ℕ) (from to byte : ℕ) → are_bytes old ≡ true → byte < 256 → are_bytes (overlaid old from to byte) ≡ true
overlaid_bytes old from to byte h small =
    let p : ℕ → Bool = λ b. nat_lt b 256 in
    let zeros : List ℕ = replicate (from - length old) 0 in
    let new : List ℕ = replicate (to - from) byte in
    all_append p (take from (old ++ zeros) ++ new) (drop to old)
    (all_append p (take from (old ++ zeros)) new (all_take p from (old ++ zeros) (all_append p old zeros h (all_replicate p (from - length old) 0 refl))) (all_replicate p (to - from) byte (lt-ltb byte 256 small)))
    (all_drop p to old h)

page_sound : (blocks : Blocks) (highest ino place n byte page : ℕ) → nat_le ino highest ≡ true → nat_lt ino (2 ^ 32) ≡ true → byte < 256 → place + n ≤ 2199023255552 → place / 4096 ≤ page → 4096 * page < place + n → AreSound blocks highest → AreSound (with_page ino place n byte blocks page) highest
page_sound blocks highest ino place n byte page low word small all first last sound =
    let old : List ℕ = block_at blocks ino page in
    let from : ℕ = place - 4096 * page in
    let to : ℕ = min (place + n - 4096 * page) 4096 in
    let was = stored blocks ino page sound.nodes in
    let short = was.short in
    let order : from ≤ to = omega (arith, first, last) in
    let few = overlaid_short old from to byte order in
    let many = overlaid_long old from to byte order in
    let node = block_node_from ((ino, page), overlaid old from to byte) (record {
      ino = word;
      block = omega (arith, all, last);
      full = full_from (overlaid old from to byte) (omega (arith, many, last));
      short = omega (arith, few, short);
      bytes = overlaid_bytes old from to byte was.letters small;
    }) in
    record {
      ascend = insert_ascends pair_cmp pairs blocks (ino, page) (overlaid old from to byte) sound.ascend;
      nodes = all_insert pair_cmp pairs is_block_node blocks (ino, page) (overlaid old from to byte) node sound.nodes;
      below = all_insert pair_cmp pairs (λ e. nat_le e.0.0 highest) blocks (ino, page) (overlaid old from to byte) low sound.below;
    }

pages_sound : (count page : ℕ) (blocks : Blocks) (highest ino place n byte : ℕ) → nat_le ino highest ≡ true → nat_lt ino (2 ^ 32) ≡ true → byte < 256 → place + n ≤ 2199023255552 → place / 4096 ≤ page → 4096 * (page + count) < place + n + 4096 → AreSound blocks highest
    → AreSound (fold (with_page ino place n byte) blocks (range_with_len page count)) highest
pages_sound zero page blocks highest ino place n byte low word small all first last sound = sound
pages_sound (suc count) page blocks highest ino place n byte low word small all first last sound =
    pages_sound count (page + 1) (with_page ino place n byte blocks page) highest ino place n byte low word small all (omega (arith, first)) (omega (arith, last))
    (page_sound blocks highest ino place n byte page low word small all first (omega (arith, last)) sound)

blocks_sound : (blocks : Blocks) (highest ino place n byte : ℕ) → nat_le ino highest ≡ true → nat_lt ino (2 ^ 32) ≡ true → byte < 256 → place + n ≤ 2199023255552 → (n == 0) ≡ false → AreSound blocks highest → AreSound (blocks_written blocks ino place n byte) highest
blocks_sound blocks highest ino place n byte low word small all some sound =
    let apart : n ≡ 0 → ⊥ = λ none. false≢true (sym some ∙ eq-eqb n 0 none) in
    let many = pos n apart in
    let count : ℕ = suc ((place + n - 1) / 4096 - place / 4096) in
    let P : Bool → Type 0 = λ b. AreSound (fold (with_page ino place n byte) blocks (cond b [] (range_with_len (place / 4096) count))) highest in
    subst P (sym some) (pages_sound count (place / 4096) blocks highest ino place n byte low word small all (omega arith) (omega (arith, many)) sound)
  where
    pos : (n : ℕ) → (n ≡ 0 → ⊥) → 1 ≤ n
    pos zero h = absurd (h refl)
    pos (suc n) h = omega arith

written_sound : (files : Files) (ino : ℕ) (inode : Inode) (now offs n byte : ℕ) → IsSound files → now < 2 ^ 64 → byte < 256 → inode_at files.tree ino ≡ Some inode → offs + n ≤ 2199023255552 → (n == 0) ≡ false → LeavesSound files (record files { tree = tree_written files.tree ino inode now offs n byte })
written_sound files ino inode now offs n byte sound moment small found all some =
    let tree : Tree = files.tree in
    let local = local_of tree sound.proper in
    let node = node_at tree sound.proper ino inode found in
    let size : ℕ = max (size_of tree ino inode) (offs + n) in
    let a = node_size ino inode node in
    let b = ends_low tree.blocks ino sound.proper.block_nodes in
    let new : Inode = touched now (record inode { size = size }) in
    let new_node : is_inode_node (ino, new) ≡ true = node_touched ino (record inode { size = size }) now moment (node_sized ino inode size (omega (arith, a, b, all)) node) in
    let low = numbered tree local ino inode found in
    let blocks = blocks_sound tree.blocks tree.highest ino offs n byte low (node_number ino inode node) small all some (record { ascend = local.blocks_ascend; nodes = local.block_nodes; below = local.block_numbers }) in
    let keeps = keeps_kinds tree.inodes ino new (λ o f. ap (λ (i : Inode). i.kind) (some_same (sym found ∙ f))) in
    let after : IsLocal (tree_written tree ino inode now offs n byte) = record {
      inodes_ascend = insert_ascends nat_cmp numbers tree.inodes ino new local.inodes_ascend;
      blocks_ascend = blocks.ascend;
      entries_ascend = local.entries_ascend;
      inode_nodes = all_insert nat_cmp numbers is_inode_node tree.inodes ino new new_node local.inode_nodes;
      block_nodes = blocks.nodes;
      entry_nodes = local.entry_nodes;
      inode_numbers = all_insert nat_cmp numbers (λ e. nat_le e.0 tree.highest) tree.inodes ino new low local.inode_numbers;
      block_numbers = blocks.below;
    } in
    record {
      sound = record {
        proper = proper_of (tree_written tree ino inode now offs n byte) after (rel_touched tree.inodes tree.entries ino inode new found refl (λ d. refl) (rel_of tree sound.proper)) (linked_same tree.inodes ino inode new found refl refl sound.proper.linked);
        handles = all_weaken (λ h. kind_is tree.inodes h.1 File) (λ h. kind_is (insert_entry nat_cmp tree.inodes ino new) h.1 File) (λ h t. keeps h.1 File t) files.handles sound.handles;
      };
    }

pub bytes_written_sound : (files : Files) (caller now slot offs len byte : ℕ) → IsSound files → now < 2 ^ 64 → byte < 256 → LeavesSound files (files_in files (bytes_written files caller now slot offs len byte))
bytes_written_sound files caller now slot offs len byte sound moment small =
    let P : Outcome → Type 0 = λ outcome. LeavesSound files (files_in files outcome) in
    let nothing : (e : Refusal) → P (Err e) = λ e. stays_sound files sound in
    let last : ℕ → Inode → Outcome = λ ino inode. Ok (Count len, if len == 0 then files else record files { tree = tree_written files.tree ino inode now offs len byte }) in
    let low : ℕ → Inode → Outcome = λ ino inode. refuse (nat_lt size_limit (offs + len)) Efbig (last ino inode) in
    let with_it : ℕ → Outcome = λ ino. with_some (inode_at files.tree ino) Ebadf (low ino) in
    refuse_to P (is_bad_slot slot || nat_lt 65536 len) Einval (with_some (handle_at files caller slot) Ebadf with_it) nothing (λ good.
    some_to P (handle_at files caller slot) Ebadf with_it nothing (λ ino held.
    some_to P (inode_at files.tree ino) Ebadf (low ino) nothing (λ inode found.
    refuse_to P (nat_lt size_limit (offs + len)) Efbig (last ino inode) nothing (λ fits.
    by ino inode found (ltb-false 2199023255552 (offs + len) fits) (len == 0) refl))))
  where
    by : (ino : ℕ) (inode : Inode) → inode_at files.tree ino ≡ Some inode → offs + len ≤ 2199023255552 → (b : Bool) → (len == 0) ≡ b → LeavesSound files (cond b files (record files { tree = tree_written files.tree ino inode now offs len byte }))
    by ino inode found all true e = stays_sound files sound
    by ino inode found all false e = written_sound files ino inode now offs len byte sound moment small found all e
