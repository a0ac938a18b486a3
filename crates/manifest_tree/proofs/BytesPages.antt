-- A page of a file's bytes is a file's page.
use Rattle.std.proofs.Common.{◌≡◌, ℕ, zero, suc, ◌+◌, ◌-◌, ◌*◌, ◌/◌, ◌<◌, ◌≤◌, ◌^◌, Bool, true, false, min, Some, List, [], ◌∷◌, length, arith, refl, ap, sym, subst, ◌∙◌, get_or}
use Rattle.std.specs.Prelude.{nat_lt, take, drop}
use Rattle.std.specs.Option.{option_map_or}
use Rattle.std.specs.Ordering.{nat_cmp}
use Rattle.std.proofs.lemmas.Bool.{and_from, and_parts, lt-ltb}
use Rattle.std.proofs.lemmas.Bool.Decides.{nat_tests}
use Rattle.std.proofs.lemmas.List.{length-take, length-drop}
use Rattle.fs_model.specs.declared.change.Change.TheVariants.{SetBlock, SetInode}
use Rattle.fs_model.specs.declared.inode.Inode.{Inode}
use Rattle.fs_model.specs.declared.inode.Kind.TheVariants.{File}
use Rattle.fs_model.specs.Backing.{page_group}
use Rattle.fs_model.specs.Change.{apply}
use Rattle.fs_model.specs.Files.{Tree, inode_at}
use Rattle.fs_model.specs.Path.{is_empty}
use Rattle.fs_model.specs.Proper.{IsProper, are_bytes, is_block_node, is_inode_node}
use Rattle.fs_laws.specs.Maps.{all_at}
use Rattle.fs_laws.specs.Orders.{numbers}
use Rattle.fs_laws.specs.Sound.{IsFilePage}
use Rattle.manifest_tree.specs.CopiedFiles.{bytes_page, with_bytes_page}
use Rattle.manifest_tree.proofs.InodeNodes.{resized_node}
use Rattle.manifest_tree.proofs.Pages.{le-is}

-- items below 256 are bytes
pub given_bytes : (bytes : List ℕ) → ((i : ℕ) → get_or bytes i 0 < 256) → are_bytes bytes ≡ true
given_bytes [] h = refl
given_bytes (b ∷ bytes) h =
    let first = h 0 in
    and_from (nat_lt b 256) (are_bytes bytes) (grind (arith, nat_tests, first)) (given_bytes bytes (λ i. h (suc i)))

taken_bytes : (n : ℕ) (bytes : List ℕ) → are_bytes bytes ≡ true → are_bytes (take n bytes) ≡ true
taken_bytes zero [] h = refl
taken_bytes zero (b ∷ bytes) h = refl
taken_bytes (suc n) [] h = refl
taken_bytes (suc n) (b ∷ bytes) h = let p = and_parts (nat_lt b 256) (are_bytes bytes) h in and_from (nat_lt b 256) (are_bytes (take n bytes)) p.0 (taken_bytes n bytes p.1)

dropped_bytes : (n : ℕ) (bytes : List ℕ) → are_bytes bytes ≡ true → are_bytes (drop n bytes) ≡ true
dropped_bytes zero [] h = refl
dropped_bytes zero (b ∷ bytes) h = h
dropped_bytes (suc n) [] h = refl
dropped_bytes (suc n) (b ∷ bytes) h = dropped_bytes n bytes (and_parts (nat_lt b 256) (are_bytes bytes) h).1

bytes_there : (bytes : List ℕ) → 1 ≤ length bytes → is_empty bytes ≡ false
bytes_there [] h = absurd (omega (arith, h))
bytes_there (b ∷ bytes) h = refl

bytes_block : (ino page : ℕ) (block : List ℕ) → ino < 2 ^ 32 → page < 2 ^ 29 → 1 ≤ length block → length block ≤ 4096 → are_bytes block ≡ true → is_block_node ((ino, page), block) ≡ true
bytes_block ino page block small low some few bytes = rw (lt-ltb ino (2 ^ 32) small, lt-ltb page (2 ^ 29) low, bytes_there block some, le-is (length block) 4096 few, bytes) refl

pub is_bytes_page : (tree : Tree) (ino page : ℕ) (inode : Inode) (bytes : List ℕ) → IsProper tree → inode_at tree ino ≡ Some inode → inode.kind ≡ File → ino < 2 ^ 32 → are_bytes bytes ≡ true
    → length bytes ≤ 2 ^ 41 → page < (length bytes + 4095) / 4096 → IsFilePage tree (bytes_page ino inode bytes page)
is_bytes_page tree ino page inode bytes proper there kind small are few within =
    let long : length (take 4096 (drop (4096 * page) bytes)) ≡ min 4096 (length bytes - 4096 * page) = length-take 4096 (drop (4096 * page) bytes) ∙ ap (λ (n : ℕ). min 4096 n) (length-drop (4096 * page) bytes) in
    record {
      file = rw (there, kind) refl;
      kind = λ other e. ap (λ (i : Inode). i.kind) (one inode other (sym there ∙ e));
      links = λ other e. ap (λ (i : Inode). i.nlink) (one inode other (sym there ∙ e));
      inode = resized_node ino (length bytes) inode (omega (arith, few)) (all_at nat_cmp numbers is_inode_node tree.inodes ino inode proper.inode_nodes there);
      block = bytes_block ino page (take 4096 (drop (4096 * page) bytes)) small (omega (arith, within, few)) (omega (arith, long, within)) (omega (arith, long))
          (taken_bytes 4096 (drop (4096 * page) bytes) (dropped_bytes (4096 * page) bytes are));
    }
  where
    one : (a b : Inode) → Some a ≡ Some b → a ≡ b
    one a b e = cc

take_none : (n : ℕ) (xs : List ℕ) → xs ≡ [] → take n xs ≡ []
take_none zero [] e = refl
take_none (suc n) [] e = refl
take_none n (x ∷ xs) e = absurd cc

-- as many items as there are, at most
pub take_few : (xs : List ℕ) (n : ℕ) → take (min (length xs) n) xs ≡ take n xs
take_few [] n = take_none (min 0 n) [] refl ∙ sym (take_none n [] refl)
take_few (x ∷ xs) zero = let e : min (length (x ∷ xs)) 0 ≡ 0 = omega arith in rw e refl
take_few (x ∷ xs) (suc n) = let e : min (length (x ∷ xs)) (suc n) ≡ suc (min (length xs) n) = omega arith in rw e (ap (λ (t : List ℕ). x ∷ t) (take_few xs n))

-- the page's group was put
pub bytes_put : (tree new : Tree) (ino page : ℕ) (inode : Inode) (bytes block : List ℕ) → inode_at tree ino ≡ Some inode → block ≡ take 4096 (drop (4096 * page) bytes)
    → new ≡ apply tree (SetInode ino (record inode { size = length bytes }) ∷ SetBlock ino page block ∷ []) → new ≡ with_bytes_page ino bytes tree page
bytes_put tree new ino page inode bytes block there is put =
    put ∙ (ap (λ (b : List ℕ). apply tree (SetInode ino (record inode { size = length bytes }) ∷ SetBlock ino page b ∷ [])) is
    ∙ sym (ap (λ o. option_map_or (λ i. apply tree (page_group (bytes_page ino i bytes page))) o tree) there))

pub bytes_proper : (tree : Tree) (ino page : ℕ) (inode : Inode) (bytes : List ℕ) → inode_at tree ino ≡ Some inode → IsProper (apply tree (page_group (bytes_page ino inode bytes page))) → IsProper (with_bytes_page ino bytes tree page)
bytes_proper tree ino page inode bytes there h = rw there h
