-- What changes leave once all is forgotten that has no name: what their replay makes of a tree from which that was gone before.
use Rattle.std.proofs.Common.{◌≡◌, ℕ, Bool, true, false, cond, not, ◌&&◌, ◌||◌, List, [], ◌∷◌, map, refl, sym, ap, subst, ◌∙◌, inl, inr, max}
use Rattle.std.specs.Prelude.{◌==◌, ◌*◌, Option, Some, None, is_some, nat_lt, nat_le, filter, fold}
use Rattle.std.specs.List.{list_any}
use Rattle.std.specs.Map.{lookup, remove_entry, keys_of}
use Rattle.std.specs.BTreeMap.{is_at, insert_entry}
use Rattle.std.specs.Option.{option_map_or}
use Rattle.std.specs.Ordering.{nat_cmp}
use Rattle.std.proofs.lemmas.Bool.{false≢true, and_parts}
use Rattle.std.proofs.lemmas.Bool.Decides.{eqb_tells}
use Rattle.fs_model.specs.declared.change.Change.{Change}
use Rattle.fs_model.specs.declared.change.Change.TheVariants.{SetInode, SetEntry, DropEntry, SetBlock, CutBlocks, DropInode}
use Rattle.fs_model.specs.declared.inode.Inode.{Inode}
use Rattle.fs_model.specs.Change.{apply, applied, without_inode, without_blocks}
use Rattle.fs_model.specs.Files.{Tree, Inodes, Blocks, inode_at, name_cmp, pair_cmp, with_block}
use Rattle.fs_model.specs.Orphan.{is_nameless, nameless, without_nameless, revives_none, all_revive_none}
use Rattle.fs_model.specs.Proper.{ascends, IsInOrder}
use Rattle.fs_model.specs.Recovery.{as_replayed}
use Rattle.fs_laws.specs.Maps.{apart, missing_first, tail_ascends, set_here, set_other, removed_here, removed_other, insert_ascends, remove_ascends, filter_ascends, key_cases}
use Rattle.fs_laws.specs.Orders.{named, numbers, pairs}
use Rattle.fs_laws.specs.SameMaps.{same_maps}

-- inodes without those of these numbers
abbrev without : Inodes → List ℕ → Inodes
without inodes inos = fold (λ es ino. remove_entry (is_at (nat_cmp ino)) es) inodes inos

-- blocks without those of these inodes
abbrev clear : Blocks → List ℕ → Blocks
clear blocks inos = fold without_blocks blocks inos

-- whether a number is one of these
abbrev is_one : ℕ → List ℕ → Bool
is_one q inos = list_any (λ i. i == q) inos

parts_inodes : (inos : List ℕ) (tree : Tree) → (fold without_inode tree inos).inodes ≡ without tree.inodes inos
parts_inodes [] tree = refl
parts_inodes (ino ∷ inos) tree = parts_inodes inos (without_inode tree ino)

parts_blocks : (inos : List ℕ) (tree : Tree) → (fold without_inode tree inos).blocks ≡ clear tree.blocks inos
parts_blocks [] tree = refl
parts_blocks (ino ∷ inos) tree = parts_blocks inos (without_inode tree ino)

parts_entries : (inos : List ℕ) (tree : Tree) → (fold without_inode tree inos).entries ≡ tree.entries
parts_entries [] tree = refl
parts_entries (ino ∷ inos) tree = parts_entries inos (without_inode tree ino)

parts_highest : (inos : List ℕ) (tree : Tree) → (fold without_inode tree inos).highest ≡ tree.highest
parts_highest [] tree = refl
parts_highest (ino ∷ inos) tree = parts_highest inos (without_inode tree ino)

without_ascends : (inos : List ℕ) (inodes : Inodes) → ascends nat_cmp (keys_of inodes) ≡ true → ascends nat_cmp (keys_of (without inodes inos)) ≡ true
without_ascends [] inodes h = h
without_ascends (ino ∷ inos) inodes h = without_ascends inos (remove_entry (is_at (nat_cmp ino)) inodes) (remove_ascends nat_cmp numbers (is_at (nat_cmp ino)) inodes h)

clear_ascends : (inos : List ℕ) (blocks : Blocks) → ascends pair_cmp (keys_of blocks) ≡ true → ascends pair_cmp (keys_of (clear blocks inos)) ≡ true
clear_ascends [] blocks h = h
clear_ascends (ino ∷ inos) blocks h = clear_ascends inos (without_blocks blocks ino) (filter_ascends pair_cmp pairs (λ b. not (b.0.0 == ino)) blocks h)

removed : (inodes : Inodes) (ino q : ℕ) → ascends nat_cmp (keys_of inodes) ≡ true → lookup (is_at (nat_cmp q)) (remove_entry (is_at (nat_cmp ino)) inodes) ≡ cond (ino == q) None (lookup (is_at (nat_cmp q)) inodes)
removed inodes ino q h = elim (eqb_tells ino q) [
  | inl same ↦ rw same.0 (subst (λ k. lookup (is_at (nat_cmp k)) (remove_entry (is_at (nat_cmp ino)) inodes) ≡ None) same.1 (removed_here nat_cmp numbers inodes ino h))
  | inr other ↦ rw other.0 (removed_other nat_cmp numbers inodes ino q (λ e. other.1 (sym e)))
]

in_without : (inos : List ℕ) (inodes : Inodes) (q : ℕ) → ascends nat_cmp (keys_of inodes) ≡ true → lookup (is_at (nat_cmp q)) (without inodes inos) ≡ cond (is_one q inos) None (lookup (is_at (nat_cmp q)) inodes)
in_without [] inodes q h = refl
in_without (ino ∷ inos) inodes q h =
    in_without inos (remove_entry (is_at (nat_cmp ino)) inodes) q (remove_ascends nat_cmp numbers (is_at (nat_cmp ino)) inodes h)
    ∙ ap (λ z. cond (is_one q inos) None z) (removed inodes ino q h) ∙ by (ino == q) (is_one q inos)
  where
    by : (b c : Bool) → cond c None (cond b None (lookup (is_at (nat_cmp q)) inodes)) ≡ cond (b || c) None (lookup (is_at (nat_cmp q)) inodes)
    by true true = refl
    by true false = refl
    by false c = refl

none_either : {X : Type 0} (b : Bool) (o : Option X) → o ≡ None → cond b None o ≡ None
none_either true o e = refl
none_either false o e = e

-- blocks of which those go whose key passes
kept_block : (goes : ℕ × ℕ → Bool) (blocks : Blocks) (q : ℕ × ℕ) → lookup (is_at (pair_cmp q)) (filter (λ b. not (goes b.0)) blocks) ≡ cond (goes q) None (lookup (is_at (pair_cmp q)) blocks)
kept_block goes [] q = sym (none_either (goes q) None refl)
kept_block goes (b ∷ blocks) q = elim (key_cases pair_cmp pairs q b.0) [
  | inl here ↦ by (kept_block goes blocks q) (goes b.0) (rw (ap goes here) refl) (rw (ap (λ k. pair_cmp k b.0) here ∙ pairs.same b.0) refl)
  | inr other ↦ away (kept_block goes blocks q) (goes b.0) (apart pair_cmp pairs q b.0 other)
]
  where
    More : Type 0
    More = lookup (is_at (pair_cmp q)) (filter (λ b. not (goes b.0)) blocks) ≡ cond (goes q) None (lookup (is_at (pair_cmp q)) blocks)

    by : More → (g : Bool) → goes q ≡ g → is_at (pair_cmp q) b.0 ≡ true → lookup (is_at (pair_cmp q)) (cond (not g) (b ∷ filter (λ b. not (goes b.0)) blocks) (filter (λ b. not (goes b.0)) blocks)) ≡ cond (goes q) None (lookup (is_at (pair_cmp q)) (b ∷ blocks))
    by more true e at = more ∙ rw e refl
    by more false e at = rw (at, e) refl

    away : More → (g : Bool) → is_at (pair_cmp q) b.0 ≡ false → lookup (is_at (pair_cmp q)) (cond (not g) (b ∷ filter (λ b. not (goes b.0)) blocks) (filter (λ b. not (goes b.0)) blocks)) ≡ cond (goes q) None (lookup (is_at (pair_cmp q)) (b ∷ blocks))
    away more true at = rw at more
    away more false at = rw at more

in_clear : (inos : List ℕ) (blocks : Blocks) (q : ℕ × ℕ) → lookup (is_at (pair_cmp q)) (clear blocks inos) ≡ cond (is_one q.0 inos) None (lookup (is_at (pair_cmp q)) blocks)
in_clear [] blocks q = refl
in_clear (ino ∷ inos) blocks q =
    in_clear inos (without_blocks blocks ino) q ∙ ap (λ z. cond (is_one q.0 inos) None z) (kept_block (λ k. k.0 == ino) blocks q ∙ ap (λ b. cond b None (lookup (is_at (pair_cmp q)) blocks)) (turned q.0 ino)) ∙ by (ino == q.0) (is_one q.0 inos)
  where
    turned : (a b : ℕ) → (a == b) ≡ (b == a)
    turned a b = elim (eqb_tells a b) [
      | inl same ↦ elim (eqb_tells b a) [
        | inl back ↦ same.0 ∙ sym back.0
        | inr other ↦ absurd (other.1 (sym same.1))
      ]
      | inr other ↦ elim (eqb_tells b a) [
        | inl back ↦ absurd (other.1 (sym back.1))
        | inr more ↦ other.0 ∙ sym more.0
      ]
    ]

    by : (b c : Bool) → cond c None (cond b None (lookup (is_at (pair_cmp q)) blocks)) ≡ cond (b || c) None (lookup (is_at (pair_cmp q)) blocks)
    by true true = refl
    by true false = refl
    by false c = refl

-- the inodes that have no name are those that are found to have none
told_nameless : (inodes : Inodes) (q : ℕ) → ascends nat_cmp (keys_of inodes) ≡ true
    → is_one q (keys_of (filter (λ e. e.1.nlink == 0) inodes)) ≡ option_map_or (λ (i : Inode). i.nlink == 0) (lookup (is_at (nat_cmp q)) inodes) false
told_nameless [] q h = refl
told_nameless (e ∷ inodes) q h = elim (key_cases nat_cmp numbers q e.0) [
  | inl here ↦ at (told_nameless inodes q (tail_ascends nat_cmp inodes e h)) here (e.1.nlink == 0) refl
  | inr other ↦ away (told_nameless inodes q (tail_ascends nat_cmp inodes e h)) other (e.1.nlink == 0)
]
  where
    others : List ℕ
    others = keys_of (filter (λ e. e.1.nlink == 0) inodes)

    More : Type 0
    More = is_one q others ≡ option_map_or (λ (i : Inode). i.nlink == 0) (lookup (is_at (nat_cmp q)) inodes) false

    at : More → q ≡ e.0 → (b : Bool) → (e.1.nlink == 0) ≡ b → is_one q (keys_of (cond b (e ∷ filter (λ e. e.1.nlink == 0) inodes) (filter (λ e. e.1.nlink == 0) inodes))) ≡ option_map_or (λ (i : Inode). i.nlink == 0) (lookup (is_at (nat_cmp q)) (e ∷ inodes)) false
    at more here b z =
        let none : lookup (is_at (nat_cmp q)) inodes ≡ None = subst (λ k. lookup (is_at (nat_cmp k)) inodes ≡ None) (sym here) (missing_first nat_cmp numbers inodes e h) in
        let unlisted : is_one q others ≡ false = more ∙ rw none refl in
        let first : lookup (is_at (nat_cmp q)) (e ∷ inodes) ≡ Some e.1 = rw (ap (λ k. nat_cmp k e.0) here ∙ numbers.same e.0) refl in
        let same : (e.0 == q) ≡ true = elim (eqb_tells e.0 q) [
          | inl s ↦ s.0
          | inr s ↦ absurd (s.1 (sym here))
        ] in
        rw first (rw z (out b unlisted same))
      where
        out : (b : Bool) → is_one q others ≡ false → (e.0 == q) ≡ true → is_one q (keys_of (cond b (e ∷ filter (λ e. e.1.nlink == 0) inodes) (filter (λ e. e.1.nlink == 0) inodes))) ≡ b
        out true unlisted same = rw same refl
        out false unlisted same = unlisted

    away : More → (q ≡ e.0 → ⊥) → (b : Bool) → is_one q (keys_of (cond b (e ∷ filter (λ e. e.1.nlink == 0) inodes) (filter (λ e. e.1.nlink == 0) inodes))) ≡ option_map_or (λ (i : Inode). i.nlink == 0) (lookup (is_at (nat_cmp q)) (e ∷ inodes)) false
    away more other b =
        let apart_from = apart nat_cmp numbers q e.0 other in
        let differs : (e.0 == q) ≡ false = elim (eqb_tells e.0 q) [
          | inl s ↦ absurd (other (sym s.1))
          | inr s ↦ s.0
        ] in
        rw apart_from (out b differs)
      where
        out : (b : Bool) → (e.0 == q) ≡ false → is_one q (keys_of (cond b (e ∷ filter (λ e. e.1.nlink == 0) inodes) (filter (λ e. e.1.nlink == 0) inodes))) ≡ option_map_or (λ (i : Inode). i.nlink == 0) (lookup (is_at (nat_cmp q)) inodes) false
        out true differs = rw differs more
        out false differs = more

-- what is found of an inode once all is forgotten that has no name
pub found_inode : (tree : Tree) (q : ℕ) → IsInOrder tree → inode_at (without_nameless tree) q ≡ cond (is_nameless tree q) None (inode_at tree q)
found_inode tree q h =
    ap (λ es. lookup (is_at (nat_cmp q)) es) (parts_inodes (nameless tree) tree) ∙ in_without (nameless tree) tree.inodes q h.inodes
    ∙ ap (λ b. cond b None (inode_at tree q)) (told_nameless tree.inodes q h.inodes)

-- and of a block
pub found_block : (tree : Tree) (q : ℕ × ℕ) → IsInOrder tree → lookup (is_at (pair_cmp q)) (without_nameless tree).blocks ≡ cond (is_nameless tree q.0) None (lookup (is_at (pair_cmp q)) tree.blocks)
found_block tree q h =
    ap (λ bs. lookup (is_at (pair_cmp q)) bs) (parts_blocks (nameless tree) tree) ∙ in_clear (nameless tree) tree.blocks q
    ∙ ap (λ b. cond b None (lookup (is_at (pair_cmp q)) tree.blocks)) (told_nameless tree.inodes q.0 h.inodes)

pub forgotten_in_order : (tree : Tree) → IsInOrder tree → IsInOrder (without_nameless tree)
forgotten_in_order tree h = record {
  inodes = rw (parts_inodes (nameless tree) tree) (without_ascends (nameless tree) tree.inodes h.inodes);
  blocks = rw (parts_blocks (nameless tree) tree) (clear_ascends (nameless tree) tree.blocks h.blocks);
  entries = rw (parts_entries (nameless tree) tree) h.entries;
}

pub applied_in_order : (tree : Tree) (change : Change) → IsInOrder tree → IsInOrder (applied tree change)
applied_in_order tree (SetInode ino inode) h = record { inodes = insert_ascends nat_cmp numbers tree.inodes ino inode h.inodes; blocks = h.blocks; entries = h.entries }
applied_in_order tree (SetEntry entry) h = record { inodes = h.inodes; blocks = h.blocks; entries = insert_ascends name_cmp named tree.entries (entry.dir, entry.name) entry h.entries }
applied_in_order tree (DropEntry dir name) h = record { inodes = h.inodes; blocks = h.blocks; entries = remove_ascends name_cmp named (is_at (name_cmp (dir, name))) tree.entries h.entries }
applied_in_order tree (SetBlock ino block bytes) h = by (is_some (inode_at tree ino))
  where
    by : (b : Bool) → IsInOrder (record (cond b (record tree { blocks = with_block tree.blocks ino block bytes }) tree) { highest = max tree.highest ino })
    by true = record { inodes = h.inodes; blocks = insert_ascends pair_cmp pairs tree.blocks (ino, block) bytes h.blocks; entries = h.entries }
    by false = record { inodes = h.inodes; blocks = h.blocks; entries = h.entries }
applied_in_order tree (CutBlocks ino old_size new_size) h = record { inodes = h.inodes; blocks = filter_ascends pair_cmp pairs (λ b. not ((b.0.0 == ino) && nat_le new_size (4096 * b.0.1))) tree.blocks h.blocks; entries = h.entries }
applied_in_order tree (DropInode ino) h = record { inodes = remove_ascends nat_cmp numbers (is_at (nat_cmp ino)) tree.inodes h.inodes; blocks = filter_ascends pair_cmp pairs (λ b. not (b.0.0 == ino)) tree.blocks h.blocks; entries = h.entries }

pub apply_in_order : (changes : List Change) (tree : Tree) → IsInOrder tree → IsInOrder (apply tree changes)
apply_in_order [] tree h = h
apply_in_order (change ∷ changes) tree h = apply_in_order changes (applied tree change) (applied_in_order tree change h)

pub dropped_in_order : (tree : Tree) (ino : ℕ) → IsInOrder tree → IsInOrder (without_inode tree ino)
dropped_in_order tree ino h = record { inodes = remove_ascends nat_cmp numbers (is_at (nat_cmp ino)) tree.inodes h.inodes; blocks = filter_ascends pair_cmp pairs (λ b. not (b.0.0 == ino)) tree.blocks h.blocks; entries = h.entries }

-- trees in which the same is found
record FindsSame (a b : Tree) : Type 0 where
  inodes : (q : ℕ) → inode_at a q ≡ inode_at b q
  blocks : (q : ℕ × ℕ) → lookup (is_at (pair_cmp q)) a.blocks ≡ lookup (is_at (pair_cmp q)) b.blocks
  entries : a.entries ≡ b.entries
  highest : a.highest ≡ b.highest

same_trees : (a b : Tree) → IsInOrder a → IsInOrder b → FindsSame a b → a ≡ b
same_trees a b h i same =
    ap (λ es. record a { inodes = es }) (same_maps nat_cmp numbers a.inodes b.inodes h.inodes i.inodes same.inodes)
    ∙ ap (λ bs. record a { inodes = b.inodes; blocks = bs }) (same_maps pair_cmp pairs a.blocks b.blocks h.blocks i.blocks same.blocks)
    ∙ ap (λ es. record a { inodes = b.inodes; blocks = b.blocks; entries = es }) same.entries
    ∙ ap (λ (n : ℕ). record b { highest = n }) same.highest

-- what is forgotten leaves no inode without a name
pub forgotten_twice : (tree : Tree) → IsInOrder tree → without_nameless (without_nameless tree) ≡ without_nameless tree
forgotten_twice tree h =
    let once = without_nameless tree in
    let order = forgotten_in_order tree h in
    same_trees (without_nameless once) once (forgotten_in_order once order) order (record {
      inodes = λ q. found_inode once q order ∙ by q;
      blocks = λ q. found_block once q order ∙ bys q;
      entries = parts_entries (nameless once) once;
      highest = parts_highest (nameless once) once;
    })
  where
    none : (q : ℕ) → is_nameless (without_nameless tree) q ≡ false
    none q = rw (found_inode tree q h) (out (inode_at tree q))
      where
        out : (o : Option Inode) → option_map_or (λ (i : Inode). i.nlink == 0) (cond (option_map_or (λ (i : Inode). i.nlink == 0) o false) None o) false ≡ false
        out None = refl
        out (Some i) = in_it (i.nlink == 0) refl
          where
            in_it : (b : Bool) → (i.nlink == 0) ≡ b → option_map_or (λ (i : Inode). i.nlink == 0) (cond b None (Some i)) false ≡ false
            in_it true e = refl
            in_it false e = e

    by : (q : ℕ) → cond (is_nameless (without_nameless tree) q) None (inode_at (without_nameless tree) q) ≡ inode_at (without_nameless tree) q
    by q = rw (none q) refl

    bys : (q : ℕ × ℕ) → cond (is_nameless (without_nameless tree) q.0) None (lookup (is_at (pair_cmp q)) (without_nameless tree).blocks) ≡ lookup (is_at (pair_cmp q)) (without_nameless tree).blocks
    bys q = rw (none q.0) refl

-- whether an inode that may be there has no name
abbrev lost : Option Inode → Bool
lost o = option_map_or (λ i. i.nlink == 0) o false

-- one that has a name, or none
abbrev kept : Option Inode → Option Inode
kept o = cond (lost o) None o

entries_same : (a b : Tree) → a.entries ≡ b.entries → (without_nameless a).entries ≡ b.entries
entries_same a b e = parts_entries (nameless a) a ∙ e

highest_same : (tree a : Tree) (number : ℕ) → a.highest ≡ max tree.highest number → (without_nameless a).highest ≡ max (without_nameless tree).highest number
highest_same tree a number e = parts_highest (nameless a) a ∙ e ∙ ap (λ n. max n number) (sym (parts_highest (nameless tree) tree))

set_lost : (tree : Tree) (ino : ℕ) (inode : Inode) → IsInOrder tree → (inode.nlink == 0) ≡ true → FindsSame (without_nameless (applied tree (SetInode ino inode))) (applied (without_nameless tree) (DropInode ino))
set_lost tree ino inode h z =
    let a : Tree = applied tree (SetInode ino inode) in
    let order = applied_in_order tree (SetInode ino inode) h in
    let w = without_nameless tree in
    let wo = forgotten_in_order tree h in
    record {
      inodes = λ q. found_inode a q order ∙ found q ∙ ap (λ o. cond (ino == q) None o) (sym (found_inode tree q h)) ∙ sym (removed w.inodes ino q wo.inodes);
      blocks = λ q. found_block a q order ∙ block q ∙ ap (λ o. cond (q.0 == ino) None o) (sym (found_block tree q h)) ∙ sym (kept_block (λ k. k.0 == ino) w.blocks q);
      entries = entries_same a tree refl ∙ sym (parts_entries (nameless tree) tree);
      highest = highest_same tree a ino refl;
    }
  where
    here : inode_at (applied tree (SetInode ino inode)) ino ≡ Some inode
    here = set_here nat_cmp numbers tree.inodes ino inode

    away : (q : ℕ) → (q ≡ ino → ⊥) → inode_at (applied tree (SetInode ino inode)) q ≡ inode_at tree q
    away q other = set_other nat_cmp numbers tree.inodes ino inode q other

    found : (q : ℕ) → kept (inode_at (applied tree (SetInode ino inode)) q) ≡ cond (ino == q) None (kept (inode_at tree q))
    found q = elim (eqb_tells ino q) [
      | inl same ↦ rw same.0 (subst (λ k. kept (inode_at (applied tree (SetInode ino inode)) k) ≡ None) same.1 (ap kept here ∙ rw z refl))
      | inr other ↦ rw other.0 (ap kept (away q (λ e. other.1 (sym e))))
    ]

    block : (q : ℕ × ℕ) → cond (is_nameless (applied tree (SetInode ino inode)) q.0) None (lookup (is_at (pair_cmp q)) tree.blocks) ≡ cond (q.0 == ino) None (cond (is_nameless tree q.0) None (lookup (is_at (pair_cmp q)) tree.blocks))
    block q = elim (eqb_tells q.0 ino) [
      | inl same ↦
          let gone : is_nameless (applied tree (SetInode ino inode)) q.0 ≡ true = subst (λ k. is_nameless (applied tree (SetInode ino inode)) k ≡ true) (sym same.1) (ap lost here ∙ z) in
          rw (same.0, gone) refl
      | inr other ↦
          let e : is_nameless (applied tree (SetInode ino inode)) q.0 ≡ is_nameless tree q.0 = ap lost (away q.0 other.1) in
          rw (other.0, e) refl
    ]

set_named : (tree : Tree) (ino : ℕ) (inode : Inode) → IsInOrder tree → (inode.nlink == 0) ≡ false → is_nameless tree ino ≡ false → FindsSame (without_nameless (applied tree (SetInode ino inode))) (applied (without_nameless tree) (SetInode ino inode))
set_named tree ino inode h z named =
    let a : Tree = applied tree (SetInode ino inode) in
    let order = applied_in_order tree (SetInode ino inode) h in
    record {
      inodes = λ q. found_inode a q order ∙ found q;
      blocks = λ q. found_block a q order ∙ block q ∙ sym (found_block tree q h);
      entries = entries_same a tree refl ∙ sym (parts_entries (nameless tree) tree);
      highest = highest_same tree a ino refl;
    }
  where
    here : inode_at (applied tree (SetInode ino inode)) ino ≡ Some inode
    here = set_here nat_cmp numbers tree.inodes ino inode

    away : (q : ℕ) → (q ≡ ino → ⊥) → inode_at (applied tree (SetInode ino inode)) q ≡ inode_at tree q
    away q other = set_other nat_cmp numbers tree.inodes ino inode q other

    found : (q : ℕ) → kept (inode_at (applied tree (SetInode ino inode)) q) ≡ inode_at (applied (without_nameless tree) (SetInode ino inode)) q
    found q = elim (eqb_tells ino q) [
      | inl same ↦ subst (λ k. kept (inode_at (applied tree (SetInode ino inode)) k) ≡ inode_at (applied (without_nameless tree) (SetInode ino inode)) k) same.1
          (ap kept here ∙ rw z refl ∙ sym (set_here nat_cmp numbers (without_nameless tree).inodes ino inode))
      | inr other ↦ ap kept (away q (λ e. other.1 (sym e))) ∙ sym (found_inode tree q h) ∙ sym (set_other nat_cmp numbers (without_nameless tree).inodes ino inode q (λ e. other.1 (sym e)))
    ]

    block : (q : ℕ × ℕ) → cond (is_nameless (applied tree (SetInode ino inode)) q.0) None (lookup (is_at (pair_cmp q)) tree.blocks) ≡ cond (is_nameless tree q.0) None (lookup (is_at (pair_cmp q)) tree.blocks)
    block q = elim (eqb_tells q.0 ino) [
      | inl same ↦
          let new : is_nameless (applied tree (SetInode ino inode)) q.0 ≡ false = subst (λ k. is_nameless (applied tree (SetInode ino inode)) k ≡ false) (sym same.1) (ap lost here ∙ z) in
          let old : is_nameless tree q.0 ≡ false = subst (λ k. is_nameless tree k ≡ false) (sym same.1) named in
          rw (new, old) refl
      | inr other ↦ rw (ap lost (away q.0 other.1)) refl
    ]

both : {X : Type 0} (a b : Bool) (o : Option X) → cond a None (cond b None o) ≡ cond b None (cond a None o)
both true true o = refl
both true false o = refl
both false b o = refl

cut_forgotten : (tree : Tree) (ino old_size new_size : ℕ) → IsInOrder tree → FindsSame (without_nameless (applied tree (CutBlocks ino old_size new_size))) (applied (without_nameless tree) (CutBlocks ino old_size new_size))
cut_forgotten tree ino old_size new_size h =
    let a : Tree = applied tree (CutBlocks ino old_size new_size) in
    let order = applied_in_order tree (CutBlocks ino old_size new_size) h in
    let goes : ℕ × ℕ → Bool = λ k. (k.0 == ino) && nat_le new_size (4096 * k.1) in
    record {
      inodes = λ q. found_inode a q order ∙ sym (found_inode tree q h);
      blocks = λ q. found_block a q order ∙ ap (λ o. cond (is_nameless tree q.0) None o) (kept_block goes tree.blocks q)
          ∙ both (is_nameless tree q.0) (goes q) (lookup (is_at (pair_cmp q)) tree.blocks) ∙ ap (λ o. cond (goes q) None o) (sym (found_block tree q h)) ∙ sym (kept_block goes (without_nameless tree).blocks q);
      entries = entries_same a tree refl ∙ sym (parts_entries (nameless tree) tree);
      highest = highest_same tree a ino refl;
    }

drop_finds : (tree a : Tree) (ino : ℕ) → IsInOrder tree → IsInOrder a → a.inodes ≡ remove_entry (is_at (nat_cmp ino)) tree.inodes → a.blocks ≡ without_blocks tree.blocks ino
    → ((q : ℕ) → inode_at (without_nameless a) q ≡ cond (ino == q) None (inode_at (without_nameless tree) q)) × ((q : ℕ × ℕ) → lookup (is_at (pair_cmp q)) (without_nameless a).blocks ≡ cond (q.0 == ino) None (lookup (is_at (pair_cmp q)) (without_nameless tree).blocks))
drop_finds tree a ino h order i b = (
  (λ q. found_inode a q order ∙ ap kept (at q) ∙ out (ino == q) (inode_at tree q) ∙ ap (λ o. cond (ino == q) None o) (sym (found_inode tree q h))),
  (λ q. found_block a q order ∙ ap (λ bs. cond (is_nameless a q.0) None (lookup (is_at (pair_cmp q)) bs)) b ∙ ap (λ o. cond (is_nameless a q.0) None o) (kept_block (λ k. k.0 == ino) tree.blocks q) ∙ block q ∙ ap (λ o. cond (q.0 == ino) None o) (sym (found_block tree q h))),
)
  where
    at : (q : ℕ) → inode_at a q ≡ cond (ino == q) None (inode_at tree q)
    at q = ap (λ es. lookup (is_at (nat_cmp q)) es) i ∙ removed tree.inodes ino q h.inodes

    out : (b : Bool) (o : Option Inode) → kept (cond b None o) ≡ cond b None (kept o)
    out true o = refl
    out false o = refl

    block : (q : ℕ × ℕ) → cond (is_nameless a q.0) None (cond (q.0 == ino) None (lookup (is_at (pair_cmp q)) tree.blocks)) ≡ cond (q.0 == ino) None (cond (is_nameless tree q.0) None (lookup (is_at (pair_cmp q)) tree.blocks))
    block q = elim (eqb_tells q.0 ino) [
      | inl same ↦ rw same.0 (none_either (is_nameless a q.0) None refl)
      | inr other ↦
          let differs : (ino == q.0) ≡ false = elim (eqb_tells ino q.0) [
            | inl back ↦ absurd (other.1 (sym back.1))
            | inr more ↦ more.0
          ] in
          let there : inode_at a q.0 ≡ inode_at tree q.0 = at q.0 ∙ ap (λ b. cond b None (inode_at tree q.0)) differs in
          let e : is_nameless a q.0 ≡ is_nameless tree q.0 = ap lost there in
          rw (other.0, e) refl
    ]

drop_forgotten : (tree : Tree) (ino : ℕ) → IsInOrder tree → FindsSame (without_nameless (applied tree (DropInode ino))) (applied (without_nameless tree) (DropInode ino))
drop_forgotten tree ino h =
    let a : Tree = applied tree (DropInode ino) in
    let it = drop_finds tree a ino h (applied_in_order tree (DropInode ino) h) refl refl in
    let w = without_nameless tree in
    record {
      inodes = λ q. it.0 q ∙ sym (removed w.inodes ino q (forgotten_in_order tree h).inodes);
      blocks = λ q. it.1 q ∙ sym (kept_block (λ k. k.0 == ino) w.blocks q);
      entries = entries_same a tree refl ∙ sym (parts_entries (nameless tree) tree);
      highest = highest_same tree a ino refl;
    }

-- an inode without a name that is dropped is forgotten already
pub dropped_forgotten : (tree : Tree) (ino : ℕ) → IsInOrder tree → is_nameless tree ino ≡ true → without_nameless (without_inode tree ino) ≡ without_nameless tree
dropped_forgotten tree ino h gone =
    let a : Tree = without_inode tree ino in
    let order = dropped_in_order tree ino h in
    let it = drop_finds tree a ino h order refl refl in
    same_trees (without_nameless a) (without_nameless tree) (forgotten_in_order a order) (forgotten_in_order tree h) (record {
      inodes = λ q. it.0 q ∙ here q;
      blocks = λ q. it.1 q ∙ block q;
      entries = entries_same a tree refl ∙ sym (parts_entries (nameless tree) tree);
      highest = parts_highest (nameless a) a ∙ sym (parts_highest (nameless tree) tree);
    })
  where
    none : inode_at (without_nameless tree) ino ≡ None
    none = found_inode tree ino h ∙ rw gone refl

    here : (q : ℕ) → cond (ino == q) None (inode_at (without_nameless tree) q) ≡ inode_at (without_nameless tree) q
    here q = elim (eqb_tells ino q) [
      | inl same ↦ rw same.0 (sym (subst (λ k. inode_at (without_nameless tree) k ≡ None) same.1 none))
      | inr other ↦ rw other.0 refl
    ]

    block : (q : ℕ × ℕ) → cond (q.0 == ino) None (lookup (is_at (pair_cmp q)) (without_nameless tree).blocks) ≡ lookup (is_at (pair_cmp q)) (without_nameless tree).blocks
    block q = elim (eqb_tells q.0 ino) [
      | inl same ↦
          let lost_it : is_nameless tree q.0 ≡ true = subst (λ k. is_nameless tree k ≡ true) (sym same.1) gone in
          rw same.0 (sym (found_block tree q h ∙ rw lost_it refl))
      | inr other ↦ rw other.0 refl
    ]

names_forgotten : (tree a b : Tree) (number : ℕ) → IsInOrder tree → IsInOrder a → a.inodes ≡ tree.inodes → a.blocks ≡ tree.blocks → a.highest ≡ max tree.highest number
    → b.inodes ≡ (without_nameless tree).inodes → b.blocks ≡ (without_nameless tree).blocks → b.highest ≡ max (without_nameless tree).highest number → a.entries ≡ b.entries → FindsSame (without_nameless a) b
names_forgotten tree a b number h order i bs top j cs high e =
    let at : (q : ℕ) → inode_at a q ≡ inode_at tree q = λ q. ap (λ es. lookup (is_at (nat_cmp q)) es) i in
    record {
      inodes = λ q. found_inode a q order ∙ ap kept (at q) ∙ sym (found_inode tree q h) ∙ ap (λ es. lookup (is_at (nat_cmp q)) es) (sym j);
      blocks = λ q. found_block a q order ∙ ap (λ o. cond (lost o) None (lookup (is_at (pair_cmp q)) a.blocks)) (at q.0) ∙ ap (λ z. cond (is_nameless tree q.0) None (lookup (is_at (pair_cmp q)) z)) bs
          ∙ sym (found_block tree q h) ∙ ap (λ z. lookup (is_at (pair_cmp q)) z) (sym cs);
      entries = parts_entries (nameless a) a ∙ e;
      highest = highest_same tree a number top ∙ sym high;
    }

block_forgotten : (tree : Tree) (ino block : ℕ) (bytes : List ℕ) → IsInOrder tree → FindsSame (without_nameless (applied tree (SetBlock ino block bytes))) (applied (without_nameless tree) (SetBlock ino block bytes))
block_forgotten tree ino block bytes h = by (inode_at tree ino) refl
  where
    w : Tree
    w = without_nameless tree

    unset : (t : Tree) → inode_at t ino ≡ None → applied t (SetBlock ino block bytes) ≡ record t { highest = max t.highest ino }
    unset t e = rw e refl

    set : (t : Tree) (i : Inode) → inode_at t ino ≡ Some i → applied t (SetBlock ino block bytes) ≡ record t { blocks = with_block t.blocks ino block bytes; highest = max t.highest ino }
    set t i e = rw e refl

    raised : Tree
    raised = record tree { highest = max tree.highest ino }

    filled : Tree
    filled = record tree { blocks = with_block tree.blocks ino block bytes; highest = max tree.highest ino }

    filled_order : IsInOrder filled
    filled_order = record { inodes = h.inodes; blocks = insert_ascends pair_cmp pairs tree.blocks (ino, block) bytes h.blocks; entries = h.entries }

    without_it : is_nameless tree ino ≡ true → (q : ℕ × ℕ) → cond (is_nameless tree q.0) None (lookup (is_at (pair_cmp q)) filled.blocks) ≡ cond (is_nameless tree q.0) None (lookup (is_at (pair_cmp q)) tree.blocks)
    without_it gone q = elim (key_cases pair_cmp pairs q (ino, block)) [
      | inl same ↦
          let lost_it : is_nameless tree q.0 ≡ true = subst (λ (k : ℕ × ℕ). is_nameless tree k.0 ≡ true) (sym same) gone in
          rw lost_it refl
      | inr other ↦ ap (λ o. cond (is_nameless tree q.0) None o) (set_other pair_cmp pairs tree.blocks (ino, block) bytes q other)
    ]

    with_it : is_nameless tree ino ≡ false → (q : ℕ × ℕ) → cond (is_nameless tree q.0) None (lookup (is_at (pair_cmp q)) filled.blocks) ≡ lookup (is_at (pair_cmp q)) (with_block w.blocks ino block bytes)
    with_it named q = elim (key_cases pair_cmp pairs q (ino, block)) [
      | inl same ↦ subst (λ (k : ℕ × ℕ). cond (is_nameless tree k.0) None (lookup (is_at (pair_cmp k)) filled.blocks) ≡ lookup (is_at (pair_cmp k)) (with_block w.blocks ino block bytes)) (sym same)
          (rw named (set_here pair_cmp pairs tree.blocks (ino, block) bytes) ∙ sym (set_here pair_cmp pairs w.blocks (ino, block) bytes))
      | inr other ↦
          ap (λ o. cond (is_nameless tree q.0) None o) (set_other pair_cmp pairs tree.blocks (ino, block) bytes q other) ∙ sym (found_block tree q h) ∙ sym (set_other pair_cmp pairs w.blocks (ino, block) bytes q other)
    ]

    ends : (a b : Tree) → applied tree (SetBlock ino block bytes) ≡ a → applied w (SetBlock ino block bytes) ≡ b → FindsSame (without_nameless a) b → FindsSame (without_nameless (applied tree (SetBlock ino block bytes))) (applied w (SetBlock ino block bytes))
    ends a b e f is = subst (λ z. FindsSame (without_nameless z) (applied w (SetBlock ino block bytes))) (sym e) (subst (λ z. FindsSame (without_nameless a) z) (sym f) is)

    by : (o : Option Inode) → inode_at tree ino ≡ o → FindsSame (without_nameless (applied tree (SetBlock ino block bytes))) (applied w (SetBlock ino block bytes))
    by None e =
        let none : inode_at w ino ≡ None = found_inode tree ino h ∙ rw e refl in
        ends raised (record w { highest = max w.highest ino }) (unset tree e) (unset w none)
        (names_forgotten tree raised (record w { highest = max w.highest ino }) ino h (record { inodes = h.inodes; blocks = h.blocks; entries = h.entries }) refl refl refl refl refl refl (sym (parts_entries (nameless tree) tree)))
    by (Some i) e = named (i.nlink == 0) refl
      where
        named : (z : Bool) → (i.nlink == 0) ≡ z → FindsSame (without_nameless (applied tree (SetBlock ino block bytes))) (applied w (SetBlock ino block bytes))
        named true z =
            let gone : is_nameless tree ino ≡ true = ap lost e ∙ z in
            let none : inode_at w ino ≡ None = found_inode tree ino h ∙ rw gone refl in
            ends filled (record w { highest = max w.highest ino }) (set tree i e) (unset w none) (record {
              inodes = λ q. found_inode filled q filled_order ∙ sym (found_inode tree q h);
              blocks = λ q. found_block filled q filled_order ∙ without_it gone q ∙ sym (found_block tree q h);
              entries = parts_entries (nameless filled) filled ∙ sym (parts_entries (nameless tree) tree);
              highest = highest_same tree filled ino refl;
            })
        named false z =
            let there : is_nameless tree ino ≡ false = ap lost e ∙ z in
            let some : inode_at w ino ≡ Some i = found_inode tree ino h ∙ rw there e in
            ends filled (record w { blocks = with_block w.blocks ino block bytes; highest = max w.highest ino }) (set tree i e) (set w i some) (record {
              inodes = λ q. found_inode filled q filled_order ∙ sym (found_inode tree q h);
              blocks = λ q. found_block filled q filled_order ∙ with_it there q;
              entries = parts_entries (nameless filled) filled ∙ sym (parts_entries (nameless tree) tree);
              highest = highest_same tree filled ino refl;
            })

-- a change that brings back no inode
forgotten : (tree : Tree) (change : Change) → IsInOrder tree → revives_none tree change ≡ true → FindsSame (without_nameless (applied tree change)) (applied (without_nameless tree) (as_replayed change))
forgotten tree (SetInode ino inode) h none = by (inode.nlink == 0) refl
  where
    named : (inode.nlink == 0) ≡ false → is_nameless tree ino ≡ false
    named z = at (inode_at tree ino) none
      where
        at : (o : Option Inode) → option_map_or (λ old. (inode.nlink == 0) || not (old.nlink == 0)) o (nat_lt tree.highest ino) ≡ true → lost o ≡ false
        at None t = refl
        at (Some old) t = turn (old.nlink == 0) (rw z at t)
          where
            turn : (b : Bool) → not b ≡ true → b ≡ false
            turn true t = absurd (false≢true t)
            turn false t = refl

    by : (b : Bool) → (inode.nlink == 0) ≡ b → FindsSame (without_nameless (applied tree (SetInode ino inode))) (applied (without_nameless tree) (cond b (DropInode ino) (SetInode ino inode)))
    by true z = set_lost tree ino inode h z
    by false z = set_named tree ino inode h z (named z)
forgotten tree (SetEntry entry) h none =
    names_forgotten tree (applied tree (SetEntry entry)) (applied (without_nameless tree) (SetEntry entry)) entry.dir h (applied_in_order tree (SetEntry entry) h) refl refl refl refl refl refl
    (ap (λ es. insert_entry name_cmp es (entry.dir, entry.name) entry) (sym (parts_entries (nameless tree) tree)))
forgotten tree (DropEntry dir name) h none =
    names_forgotten tree (applied tree (DropEntry dir name)) (applied (without_nameless tree) (DropEntry dir name)) dir h (applied_in_order tree (DropEntry dir name) h) refl refl refl refl refl refl
    (ap (λ es. remove_entry (is_at (name_cmp (dir, name))) es) (sym (parts_entries (nameless tree) tree)))
forgotten tree (SetBlock ino block bytes) h none = block_forgotten tree ino block bytes h
forgotten tree (CutBlocks ino old_size new_size) h none = cut_forgotten tree ino old_size new_size h
forgotten tree (DropInode ino) h none = drop_forgotten tree ino h

pub change_forgotten : (tree : Tree) (change : Change) → IsInOrder tree → revives_none tree change ≡ true → without_nameless (applied tree change) ≡ applied (without_nameless tree) (as_replayed change)
change_forgotten tree change h none =
    same_trees (without_nameless (applied tree change)) (applied (without_nameless tree) (as_replayed change)) (forgotten_in_order (applied tree change) (applied_in_order tree change h))
    (applied_in_order (without_nameless tree) (as_replayed change) (forgotten_in_order tree h)) (forgotten tree change h none)

-- so does a group, and the tree stays in order
pub group_forgotten : (group : List Change) (tree : Tree) → IsInOrder tree → all_revive_none tree group ≡ true → without_nameless (apply tree group) ≡ apply (without_nameless tree) (map as_replayed group)
group_forgotten [] tree h none = refl
group_forgotten (change ∷ group) tree h none =
    let parts = and_parts (revives_none tree change) (all_revive_none (applied tree change) group) none in
    group_forgotten group (applied tree change) (applied_in_order tree change h) parts.1 ∙ ap (λ t. apply t (map as_replayed group)) (change_forgotten tree change h parts.0)
