-- A page of copies of a byte is a file's page.
use Rattle.std.proofs.Common.{◌≡◌, ℕ, ◌+◌, ◌-◌, ◌*◌, ◌/◌, ◌<◌, ◌≤◌, ◌^◌, true, false, min, Some, Result, Ok, Err, arith, zero, suc, refl, ap, sym, subst, ◌∙◌}
use Rattle.std.specs.Prelude.{◌==◌, nat_lt, nat_le, fold, replicate, OnOk, OnErr, ⊤}
use Rattle.std.specs.List.{range_with_len}
use Rattle.std.proofs.lemmas.Bool.{lt-ltb}
use Rattle.std.proofs.lemmas.List.{length-replicate}
use Rattle.fs_model.specs.declared.inode.Inode.{Inode}
use Rattle.fs_model.specs.declared.inode.Kind.TheVariants.{File}
use Rattle.fs_model.specs.Files.{Tree, inode_at}
use Rattle.fs_model.specs.Making.{is_bad_mode}
use Rattle.fs_model.specs.Path.{is_empty}
use Rattle.fs_model.specs.Proper.{IsProper, are_bytes, is_block_node, is_inode_node}
use Rattle.fs_laws.specs.Sound.{IsFilePage}
use Rattle.manifest_tree.specs.ManifestTree.{copies_page}

copies_are_bytes : (n byte : ℕ) → byte < 256 → are_bytes (replicate n byte) ≡ true
copies_are_bytes zero byte h = refl
copies_are_bytes (suc n) byte h = rw (lt-ltb byte 256 h, copies_are_bytes n byte h) refl

copies_there : (n byte : ℕ) → 1 ≤ n → is_empty (replicate n byte) ≡ false
copies_there zero byte h = absurd (omega (arith, h))
copies_there (suc n) byte h = refl

pub le-is : (a b : ℕ) → a ≤ b → nat_le a b ≡ true
le-is a b h = grind (arith, h)

pub good_mode : (mode : ℕ) → is_bad_mode mode ≡ false → nat_lt mode 4096 ≡ true
good_mode mode h = grind (arith, h)

file_inode : (ino mode len : ℕ) → (ino ≡ 0 → ⊥) → is_bad_mode mode ≡ false → ino < 2 ^ 32 → len < 2 ^ 64 → is_inode_node (ino, (copies_page ino mode len 0 0).inode) ≡ true
file_inode ino mode len some good small short =
    let a : (ino == 0) ≡ false = grind (arith, some) in
    rw (a, good_mode mode good, lt-ltb ino (2 ^ 32) small, lt-ltb len (2 ^ 64) short) refl

file_block : (ino page n byte : ℕ) → ino < 2 ^ 32 → page < 2 ^ 29 → 1 ≤ n → n ≤ 4096 → byte < 256 → is_block_node ((ino, page), replicate n byte) ≡ true
file_block ino page n byte small low some few h =
    rw (lt-ltb ino (2 ^ 32) small, lt-ltb page (2 ^ 29) low, copies_there n byte some, length-replicate n byte, le-is n 4096 few, copies_are_bytes n byte h) refl

pub is_file_page : (tree : Tree) (ino mode len byte page : ℕ) (inode : Inode) → inode_at tree ino ≡ Some inode → inode.kind ≡ File → inode.nlink ≡ 1 → (ino ≡ 0 → ⊥) → is_bad_mode mode ≡ false
    → ino < 2 ^ 32 → len ≤ 16777216 → byte < 256 → page < (len + 4095) / 4096 → IsFilePage tree (copies_page ino mode len byte page)
is_file_page tree ino mode len byte page inode there kind links some good small few h within = record {
  file = rw (there, kind) refl;
  kind = λ other e. let same : other ≡ inode = one other inode (sym e ∙ there) in sym (ap (λ (i : Inode). i.kind) same ∙ kind);
  links = λ other e. let same : other ≡ inode = one other inode (sym e ∙ there) in sym (ap (λ (i : Inode). i.nlink) same ∙ links);
  inode = file_inode ino mode len some good small (omega (arith, few));
  block = file_block ino page (min (len - 4096 * page) 4096) byte small (omega (arith, within, few)) (omega (arith, within)) (omega arith) h;
}
  where
    one : (a b : Inode) → Some a ≡ Some b → a ≡ b
    one a b e = cc

-- a tree that a call may have changed is proper, if the changed one is
pub settled : {E : Type 0} (r : Result ⊤ E) (old new made : Tree) → OnOk r (new ≡ made) → OnErr r (new ≡ old) → IsProper old → IsProper made → IsProper new
settled (Ok x) old new made ok err h k = subst (λ t. IsProper t) (sym ok) k
settled (Err e) old new made ok err h k = subst (λ t. IsProper t) (sym err) h

-- one page more
pub pages_go : (f : Tree → ℕ → Tree) (t new whole : Tree) (a n : ℕ) → a < n → new ≡ f t a → fold f t (range_with_len a (n - a)) ≡ whole → fold f new (range_with_len (a + 1) (n - (a + 1))) ≡ whole
pages_go f t new whole a n low e h =
    let more : n - a ≡ suc (n - (a + 1)) = omega (arith, low) in
    ap (λ x. fold f x (range_with_len (a + 1) (n - (a + 1)))) e ∙ (sym (ap (λ k. fold f t (range_with_len a k)) more) ∙ h)
