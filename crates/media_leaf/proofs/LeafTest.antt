-- A type and a body pass one of the four tests exactly where they are a leaf node.
use Rattle.std.proofs.Common.{◌≡◌, ℕ, Bool, true, false, ◌||◌, List, refl}
use Rattle.ubifs_base.specs.NodeLaws.{IsBytes}
use Rattle.node_fields.specs.Form.{IsBody}
use Rattle.media_leaf.specs.Data.{data_at, is_data}
use Rattle.media_leaf.specs.Entry.{entry_at, is_entry}
use Rattle.media_leaf.specs.Inode.{inode_at, is_inode}
use Rattle.media_leaf.specs.Truncation.{is_truncation, truncation_at}
use Rattle.media_leaf.specs.LeafNode.{leaf_form, LeafNode, inode, block, entry, truncation}
use Rattle.media_leaf.proofs.DataLemmas.{data_test}
use Rattle.media_leaf.proofs.EntryLemmas.{entry_test}
use Rattle.media_leaf.proofs.InodeLemmas.{inode_test}
use Rattle.media_leaf.proofs.TruncationLemmas.{truncation_test}

one_of_four : (a b c d : Bool) (P : Type 0) → (a ≡ true → P) → (b ≡ true → P) → (c ≡ true → P) → (d ≡ true → P) → (a || b || c || d) ≡ true → P
one_of_four true b c d P pa pb pc pd h = pa refl
one_of_four false true c d P pa pb pc pd h = pb refl
one_of_four false false true d P pa pb pc pd h = pc refl
one_of_four false false false true P pa pb pc pd h = pd refl
one_of_four false false false false P pa pb pc pd h = absurd cc

first : (a b c d : Bool) → a ≡ true → (a || b || c || d) ≡ true
first true b c d h = refl
first false b c d h = absurd cc

second : (a b c d : Bool) → b ≡ true → (a || b || c || d) ≡ true
second true b c d h = refl
second false true c d h = refl
second false false c d h = absurd cc

third : (a b c d : Bool) → c ≡ true → (a || b || c || d) ≡ true
third true b c d h = refl
third false true c d h = refl
third false false true d h = refl
third false false false d h = absurd cc

fourth : (a b c d : Bool) → d ≡ true → (a || b || c || d) ≡ true
fourth true b c d h = refl
fourth false true c d h = refl
fourth false false true d h = refl
fourth false false false true h = refl
fourth false false false false h = absurd cc

pub is_some_leaf : (kind : ℕ) (body : List ℕ) → IsBytes body → (is_data kind body || is_inode kind body || is_entry kind body || is_truncation kind body) ≡ true
    → (node : LeafNode) × IsBody leaf_form kind body node
is_some_leaf kind body fits h =
    one_of_four (is_data kind body) (is_inode kind body) (is_entry kind body) (is_truncation kind body) ((node : LeafNode) × IsBody leaf_form kind body node)
    (λ e. (block (data_at body), data_test.spells kind body fits e))
    (λ e. (inode (inode_at body), inode_test.spells kind body fits e))
    (λ e. (entry (entry_at kind body), entry_test.spells kind body fits e))
    (λ e. (truncation (truncation_at body), truncation_test.spells kind body fits e))
    h

passes : (kind : ℕ) (body : List ℕ) (node : LeafNode) → IsBody leaf_form kind body node → (is_data kind body || is_inode kind body || is_entry kind body || is_truncation kind body) ≡ true
passes kind body (block node) h = first (is_data kind body) (is_inode kind body) (is_entry kind body) (is_truncation kind body) (data_test.passes kind body node h)
passes kind body (inode node) h = second (is_data kind body) (is_inode kind body) (is_entry kind body) (is_truncation kind body) (inode_test.passes kind body node h)
passes kind body (entry node) h = third (is_data kind body) (is_inode kind body) (is_entry kind body) (is_truncation kind body) (entry_test.passes kind body node h)
passes kind body (truncation node) h = fourth (is_data kind body) (is_inode kind body) (is_entry kind body) (is_truncation kind body) (truncation_test.passes kind body node h)

pub leaf_passes : (kind : ℕ) (body : List ℕ) → (node : LeafNode) × IsBody leaf_form kind body node → (is_data kind body || is_inode kind body || is_entry kind body || is_truncation kind body) ≡ true
leaf_passes kind body h = passes kind body h.0 h.1
