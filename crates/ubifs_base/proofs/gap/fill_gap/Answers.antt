use Rattle.std.proofs.Common.{ℕ, List, ◌≡◌, ◌≤◌, ◌-◌, ◌++◌, length, take, drop, replicate, arith, refl, ap, sym, ◌∙◌, length-take}
use Rattle.std.proofs.lemmas.List.{drop-replicate}
use Rattle.std.proofs.lemmas.Bool.{le-ltb}
use Rattle.ubifs_base.specs.Gap.{gap_of, padding_node}
use Rattle.ubifs_base.proofs.gap.fill_gap.Goals as goal

front : (n : ℕ) (bytes : List ℕ) → n ≤ length bytes → length (take n bytes) ≡ n
front n bytes h = rw length-take (omega arith)

pub slice_bounds-write_padding_node-end-2 : goal.slice_bounds-write_padding_node-end-2
slice_bounds-write_padding_node-end-2 c = sym (front 28 c.set_all-2.new.out (omega arith))

pub write_padding_node-requires : goal.write_padding_node-requires
write_padding_node-requires c = front 28 c.set_all-2.new.out (omega arith)

-- a padding node in front of zeros
filled : (n pad_len : ℕ) (node bytes : List ℕ) → 28 ≤ n → pad_len ≡ n - 28 → node ≡ padding_node pad_len → bytes ≡ replicate n 0 → node ++ drop 28 bytes ≡ gap_of n
unfolding gap_of
filled n pad_len node bytes long len is zeros =
    ap (λ x. x ++ drop 28 bytes) (is ∙ ap padding_node len)
    ∙ ap (λ x. padding_node (n - 28) ++ x) (ap (drop 28) zeros ∙ drop-replicate 28 n 0)
    ∙ rw (le-ltb n 28 long) refl

pub returns : goal.returns
returns c =
    let n = length c.args.out.now in
    let long : 28 ≤ n = omega arith in
    filled n _ c.write_padding_node.new.node c.set_all-2.new.out long (omega arith) c.write_padding_node.ensures c.set_all-2.ensures
