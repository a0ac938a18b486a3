-- Bytes are at most one node of any kind, and no node begins another.
use Rattle.std.proofs.Common.{◌≡◌, ℕ, ◌≤◌, Bool, true, false, List, ◌++◌, length, sym, subst, arith}
use Rattle.ubifs_base.specs.NodeLaws.{IsBytes}
use Rattle.media_leaf.specs.Data.{read_data}
use Rattle.media_leaf.specs.Entry.{entry_type, read_entry}
use Rattle.media_leaf.specs.Inode.{read_inode}
use Rattle.media_leaf.specs.Truncation.{read_truncation}
use Rattle.media_leaf.specs.LeafNode.{leaf_form, LeafNode, inode, block, entry, truncation, IsLeafNode}
use Rattle.media_leaf.specs.declared.dent_node.DentNode.{DentNode}
use Rattle.node_fields.specs.Form.{IsBody}
use Rattle.node_fields.specs.FormLaws.{alike, one_of, whole_of}
use Rattle.media_leaf.proofs.DataLemmas.{data_reader}
use Rattle.media_leaf.proofs.EntryLemmas.{entry_reader}
use Rattle.media_leaf.proofs.InodeLemmas.{inode_reader}
use Rattle.media_leaf.proofs.TruncationLemmas.{truncation_reader}
use Rattle.std.specs.Prelude.{if◌then◌else◌}

two_or_three : (attribute : Bool) → let kind : ℕ = if attribute then 3 else 2 in (2 ≤ kind) × (kind ≤ 3)
two_or_three true = (omega arith, omega arith)
two_or_three false = (omega arith, omega arith)

-- the type of an entry is no other kind's
not_other : (node : DentNode) (kind : ℕ) → kind ≡ entry_type node → (2 ≤ kind) × (kind ≤ 3)
not_other node kind e = let P : ℕ → Type 0 = λ k. (2 ≤ k) × (k ≤ 3) in subst P (sym e) (two_or_three node.attribute)

same : (kind : ℕ) (body : List ℕ) (m n : LeafNode) → IsBody leaf_form kind body m → IsBody leaf_form kind body n → m ≡ n
same kind body (inode m) (inode n) hm hn = alike leaf_form inode read_inode inode_reader kind body m n hm hn
same kind body (block m) (block n) hm hn = alike leaf_form block read_data data_reader kind body m n hm hn
same kind body (entry m) (entry n) hm hn = alike leaf_form entry read_entry entry_reader kind body m n hm hn
same kind body (truncation m) (truncation n) hm hn = alike leaf_form truncation read_truncation truncation_reader kind body m n hm hn
same kind body (inode m) (block n) hm hn = let a = hm.kind_is in let b = hn.kind_is in absurd (omega (arith, a, b))
same kind body (inode m) (truncation n) hm hn = let a = hm.kind_is in let b = hn.kind_is in absurd (omega (arith, a, b))
same kind body (block m) (inode n) hm hn = let a = hm.kind_is in let b = hn.kind_is in absurd (omega (arith, a, b))
same kind body (block m) (truncation n) hm hn = let a = hm.kind_is in let b = hn.kind_is in absurd (omega (arith, a, b))
same kind body (truncation m) (inode n) hm hn = let a = hm.kind_is in let b = hn.kind_is in absurd (omega (arith, a, b))
same kind body (truncation m) (block n) hm hn = let a = hm.kind_is in let b = hn.kind_is in absurd (omega (arith, a, b))
same kind body (inode m) (entry n) hm hn = let a = hm.kind_is in let b = not_other n kind hn.kind_is in absurd (omega (arith, a, b))
same kind body (block m) (entry n) hm hn = let a = hm.kind_is in let b = not_other n kind hn.kind_is in absurd (omega (arith, a, b))
same kind body (truncation m) (entry n) hm hn = let a = hm.kind_is in let b = not_other n kind hn.kind_is in absurd (omega (arith, a, b))
same kind body (entry m) (inode n) hm hn = let a = hn.kind_is in let b = not_other m kind hm.kind_is in absurd (omega (arith, a, b))
same kind body (entry m) (block n) hm hn = let a = hn.kind_is in let b = not_other m kind hm.kind_is in absurd (omega (arith, a, b))
same kind body (entry m) (truncation n) hm hn = let a = hn.kind_is in let b = not_other m kind hm.kind_is in absurd (omega (arith, a, b))

pub one : (bytes : List ℕ) (s1 g1 s2 g2 : ℕ) (n1 n2 : LeafNode) → IsBytes bytes → IsLeafNode bytes s1 g1 n1 → IsLeafNode bytes s2 g2 n2
    → (s1 ≡ s2) × (g1 ≡ g2) × (n1 ≡ n2)
one = one_of leaf_form same

pub whole : (a x b : List ℕ) (s1 g1 s2 g2 : ℕ) (n1 n2 : LeafNode) → IsBytes a → IsBytes b → IsLeafNode a s1 g1 n1 → IsLeafNode b s2 g2 n2
    → a ++ x ≡ b → length a ≡ length b
whole = whole_of leaf_form leaf_form
