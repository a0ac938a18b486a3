-- A new size.
use Rattle.std.proofs.Common.{◌≡◌, ℕ, ◌+◌, ◌*◌, ◌/◌, ◌%◌, ◌<◌, ◌≤◌, ◌^◌, Bool, true, false, cond, not, ◌&&◌, max, List, [], ◌∷◌, length, take, Some, Ok, Err, refl, sym, subst, ◌∙◌, arith, suc, zero, length-take, inl, inr}
use Rattle.std.specs.Prelude.{◌==◌, nat_lt, Option, None, unwrap_or, is_some, sum_by}
use Rattle.std.specs.List.{list_all}
use Rattle.std.specs.Map.{lookup}
use Rattle.std.specs.BTreeMap.{is_at}
use Rattle.std.proofs.lemmas.Bool.{false≢true, and_parts, and_from, lt-ltb, ltb-true, ltb-false}
use Rattle.std.proofs.lemmas.Bool.Decides.{eqb_tells}
use Rattle.fs_model.specs.declared.change.Change.{Change}
use Rattle.fs_model.specs.declared.change.Change.TheVariants.{SetInode, SetBlock, CutBlocks}
use Rattle.fs_model.specs.declared.inode.Inode.{Inode}
use Rattle.fs_model.specs.declared.inode.Kind.TheVariants.{File}
use Rattle.fs_model.specs.declared.refusal.Refusal.{Refusal}
use Rattle.fs_model.specs.declared.refusal.Refusal.TheVariants.{Efbig, Einval, Ebadf}
use Rattle.fs_model.specs.declared.reply.Reply.TheVariants.{Done}
use Rattle.fs_model.specs.Backing.{is_node}
use Rattle.fs_model.specs.Change.{applied, apply}
use Rattle.fs_model.specs.Files.{Tree, Files, Blocks, inode_at, handle_at, block_at, blocks_end, size_of, pair_cmp, with_block}
use Rattle.fs_model.specs.Handles.{is_bad_slot, size_limit}
use Rattle.fs_model.specs.Making.{touched}
use Rattle.fs_model.specs.Need.{truncation_need}
use Rattle.fs_model.specs.Outcome.{Plan, refuse, with_some, group_in}
use Rattle.fs_model.specs.Path.{is_empty}
use Rattle.fs_model.specs.Proper.{same_kind, are_words, are_long_words, is_inode_node, is_block_node}
use Rattle.fs_model.specs.Truncation.{truncating, truncated}
use Rattle.fs_laws.specs.Sound.{IsSound, KeepsSound}
use Rattle.fs_laws.proofs.Groups.{keeps_nothing, node_at, set_keeps}
use Rattle.fs_laws.specs.Maps.{all_at}
use Rattle.fs_laws.proofs.Nodes.{block_node_of, block_node_from, node_number, node_size, node_sized, node_touched}
use Rattle.fs_laws.specs.Orders.{pairs}
use Rattle.fs_laws.proofs.Plans.{refuse_to, some_to}
use Rattle.fs_laws.proofs.Rel.{there_of, kind_is}
use Rattle.fs_laws.proofs.Sizes.{cap, cap_plain}
use Rattle.fs_laws.proofs.Steps.{some_same}

-- no block ends past the greatest size
pub ends_low : (blocks : Blocks) (ino : ℕ) → list_all is_block_node blocks ≡ true → blocks_end blocks ino ≤ 2199023255552
ends_low [] ino h = omega arith
ends_low (e ∷ blocks) ino h =
    let p = and_parts (is_block_node e) (list_all is_block_node blocks) h in
    let n = block_node_of e p.0 in
    by n.block n.short (ends_low blocks ino p.1) (e.0.0 == ino)
  where
    by : e.0.1 < 536870912 → length e.1 ≤ 4096 → blocks_end blocks ino ≤ 2199023255552 → (b : Bool) → cond b (max (4096 * e.0.1 + length e.1) (blocks_end blocks ino)) (blocks_end blocks ino) ≤ 2199023255552
    by a l rest true = omega (arith, a, l, rest)
    by a l rest false = rest

pub all_take : {X : Type 0} (p : X → Bool) (n : ℕ) (xs : List X) → list_all p xs ≡ true → list_all p (take n xs) ≡ true
all_take p zero xs h = refl
all_take p (suc n) [] h = refl
all_take p (suc n) (x ∷ xs) h = let q = and_parts (p x) (list_all p xs) h in and_from (p x) (list_all p (take n xs)) q.0 (all_take p n xs q.1)

pub full_from : (xs : List ℕ) → 0 < length xs → not (is_empty xs) ≡ true
full_from [] h = absurd (omega (arith, h))
full_from (x ∷ xs) h = refl

pub set_block_inodes : (tree : Tree) (ino block : ℕ) (bytes : List ℕ) → ((applied tree (SetBlock ino block bytes)).inodes ≡ tree.inodes) × ((applied tree (SetBlock ino block bytes)).entries ≡ tree.entries)
set_block_inodes tree ino block bytes = by (is_some (inode_at tree ino))
  where
    by : (b : Bool) → ((cond b (record tree { blocks = with_block tree.blocks ino block bytes }) tree).inodes ≡ tree.inodes) × ((cond b (record tree { blocks = with_block tree.blocks ino block bytes }) tree).entries ≡ tree.entries)
    by true = (refl, refl)
    by false = (refl, refl)

block_bytes_node : (blocks : Blocks) (ino block : ℕ) → list_all is_block_node blocks ≡ true → 0 < length (block_at blocks ino block) → is_block_node ((ino, block), block_at blocks ino block) ≡ true
block_bytes_node blocks ino block h some = by (lookup (is_at (pair_cmp (ino, block))) blocks) refl some
  where
    by : (o : Option (List ℕ)) → lookup (is_at (pair_cmp (ino, block))) blocks ≡ o → 0 < length (unwrap_or o []) → is_block_node ((ino, block), unwrap_or o []) ≡ true
    by None f s = absurd (omega (arith, s))
    by (Some bytes) f s = all_at pair_cmp pairs is_block_node blocks (ino, block) bytes h f

shorter_node : (blocks : Blocks) (ino size : ℕ) → list_all is_block_node blocks ≡ true → size ≤ 2199023255552 → (not (size % 4096 == 0) && nat_lt (size % 4096) (length (block_at blocks ino (size / 4096)))) ≡ true
    → is_block_node ((ino, size / 4096), take (size % 4096) (block_at blocks ino (size / 4096))) ≡ true
shorter_node blocks ino size h low t =
    let bytes : List ℕ = block_at blocks ino (size / 4096) in
    let p = and_parts (not (size % 4096 == 0)) (nat_lt (size % 4096) (length bytes)) t in
    let less = ltb-true (size % 4096) (length bytes) p.1 in
    let n = block_node_of ((ino, size / 4096), bytes) (block_bytes_node blocks ino (size / 4096) h (omega (arith, less))) in
    let len = length-take (size % 4096) bytes in
    elim (eqb_tells (size % 4096) 0) [
      | inl zero_is ↦ absurd (false≢true (rw zero_is.0 at p.0))
      | inr some ↦
          let apart = some.1 in
          block_node_from ((ino, size / 4096), take (size % 4096) bytes) (record {
            ino = n.ino;
            block = omega (arith, low, apart);
            full = full_from (take (size % 4096) bytes) (omega (arith, len, less, apart));
            short = omega (arith, len);
            bytes = all_take (λ b. nat_lt b 256) (size % 4096) bytes n.bytes;
          })
    ]

cut_node : (ino old new : ℕ) → nat_lt ino (2 ^ 32) ≡ true → old < 2 ^ 64 → new < 2 ^ 64 → (are_words (ino ∷ []) && are_long_words (old ∷ new ∷ [])) ≡ true
cut_node ino old new word a b =
    and_from (are_words (ino ∷ [])) (are_long_words (old ∷ new ∷ [])) (and_from (nat_lt ino (2 ^ 32)) true word refl)
    (and_from (nat_lt old (2 ^ 64)) (are_long_words (new ∷ [])) (lt-ltb old (2 ^ 64) a) (and_from (nat_lt new (2 ^ 64)) true (lt-ltb new (2 ^ 64) b) refl))

-- a group that keeps the files sound and asks for no more than a truncation
pub record Sized (files : Files) (group : List Change) : Type 0 where
  pub keeps : KeepsSound files group
  pub bytes : sum_by cap group ≤ (truncation_need group).bytes
  pub nodes : length group ≤ (truncation_need group).nodes

sized_keeps : (files : Files) (ino : ℕ) (inode : Inode) (size now : ℕ) → IsSound files → now < 2 ^ 64 → inode_at files.tree ino ≡ Some inode → same_kind inode.kind File ≡ true → size ≤ 2199023255552 → Sized files (truncating files.tree ino inode size now)
sized_keeps files ino inode size now sound moment found file low =
    by (nat_lt size (size_of files.tree ino inode)) (not (size % 4096 == 0) && nat_lt (size % 4096) (length (block_at files.tree.blocks ino (size / 4096)))) refl
  where
    at : is_inode_node (ino, inode) ≡ true
    at = node_at files.tree sound.proper ino inode found

    node : is_inode_node (ino, touched now (record inode { size = size })) ≡ true
    node = node_touched ino (record inode { size = size }) now moment (node_sized ino inode size (omega (arith, low)) at)

    plain : cap (SetInode ino (touched now (record inode { size = size }))) ≡ 160
    plain = cap_plain ino (touched now (record inode { size = size })) File refl file

    by : (l s : Bool) → (not (size % 4096 == 0) && nat_lt (size % 4096) (length (block_at files.tree.blocks ino (size / 4096)))) ≡ s
        → Sized files (SetInode ino (touched now (record inode { size = size })) ∷ cond l (CutBlocks ino (size_of files.tree ino inode) size ∷ cond s (SetBlock ino (size / 4096) (take (size % 4096) (block_at files.tree.blocks ino (size / 4096))) ∷ []) []) [])
    by false s e = record { keeps = set_keeps files ino inode (touched now (record inode { size = size })) [] sound found refl refl node refl refl refl (omega (arith, plain)) refl refl; bytes = omega (arith, plain); nodes = omega arith }
    by true false e =
        let a = node_size ino inode at in
        let b = ends_low files.tree.blocks ino sound.proper.block_nodes in
        let cut = cut_node ino (size_of files.tree ino inode) size (node_number ino inode at) (omega (arith, a, b)) (omega (arith, low)) in
        record { keeps = set_keeps files ino inode (touched now (record inode { size = size })) (CutBlocks ino (size_of files.tree ino inode) size ∷ []) sound found refl refl node (rw cut refl) refl refl (omega (arith, plain)) refl refl; bytes = omega (arith, plain); nodes = omega arith }
    by true true e =
        let a = node_size ino inode at in
        let b = ends_low files.tree.blocks ino sound.proper.block_nodes in
        let cut = cut_node ino (size_of files.tree ino inode) size (node_number ino inode at) (omega (arith, a, b)) (omega (arith, low)) in
        let bytes : List ℕ = take (size % 4096) (block_at files.tree.blocks ino (size / 4096)) in
        let set = shorter_node files.tree.blocks ino size sound.proper.block_nodes low e in
        let rest : List Change = CutBlocks ino (size_of files.tree ino inode) size ∷ SetBlock ino (size / 4096) bytes ∷ [] in
        let before : Tree = apply files.tree (SetInode ino (touched now (record inode { size = size })) ∷ CutBlocks ino (size_of files.tree ino inode) size ∷ []) in
        let same = set_block_inodes before ino (size / 4096) bytes in
        let nodes : list_all is_node rest ≡ true = and_from (are_words (ino ∷ []) && are_long_words (size_of files.tree ino inode ∷ size ∷ [])) (list_all is_node (SetBlock ino (size / 4096) bytes ∷ [])) cut (and_from (is_block_node ((ino, size / 4096), bytes)) true set refl) in
        record { keeps = set_keeps files ino inode (touched now (record inode { size = size })) rest sound found refl refl node nodes refl refl (omega (arith, plain)) same.0 same.1; bytes = omega (arith, plain); nodes = omega arith }

pub truncated_keeps : (files : Files) (caller now slot size : ℕ) → IsSound files → now < 2 ^ 64 → Sized files (group_in (truncated files caller now slot size))
truncated_keeps files caller now slot size sound moment =
    let P : Plan → Type 0 = λ plan. Sized files (group_in plan) in
    let nothing : (e : Refusal) → P (Err e) = λ e. record { keeps = keeps_nothing files sound; bytes = omega arith; nodes = omega arith } in
    let last : ℕ → Inode → Plan = λ ino inode. Ok (Done, truncating files.tree ino inode size now) in
    let low : ℕ → Inode → Plan = λ ino inode. refuse (nat_lt size_limit size) Efbig (last ino inode) in
    let with_it : ℕ → Plan = λ ino. with_some (inode_at files.tree ino) Ebadf (low ino) in
    refuse_to P (is_bad_slot slot) Einval (with_some (handle_at files caller slot) Ebadf with_it) nothing (λ good.
    some_to P (handle_at files caller slot) Ebadf with_it nothing (λ ino held.
    some_to P (inode_at files.tree ino) Ebadf (low ino) nothing (λ inode found.
    refuse_to P (nat_lt size_limit size) Efbig (last ino inode) nothing (λ fits.
    let it = there_of files.tree.inodes ino File (all_at pair_cmp pairs (λ h. kind_is files.tree.inodes h.1 File) files.handles (caller, slot) ino sound.handles held) in
    let file = subst (λ (i : Inode). same_kind i.kind File ≡ true) (some_same (sym it.found ∙ found)) it.same in
    sized_keeps files ino inode size now sound moment found file (ltb-false 2199023255552 size fits)))))
