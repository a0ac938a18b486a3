-- A test of bodies and a place of each number make a reader; four tests make that of a leaf.
use Rattle.std.proofs.Common.{◌≡◌, ℕ, Bool, true, false, cond, List, Some, None, refl, subst}
use Rattle.std.specs.Prelude.{if◌then◌else◌}
use Rattle.ubifs_base.specs.NodeLaws.{IsBytes}
use Rattle.node_fields.specs.Form.{Form, IsBody}
use Rattle.node_fields.specs.FormLaws.{IsReader, some_same}

-- past a test that failed
pub past : (a o : Bool) → cond a false o ≡ true → (a ≡ false) × (o ≡ true)
past true o h = absurd cc
past false o h = (refl, h)

-- a test that a node's body passes and no other, and the node that stands in a body
pub record IsTest {N X : Type 0} (form : Form N) (of : X → N) (is : ℕ → List ℕ → Bool) (at : ℕ → List ℕ → X) : Type 0 where
  pub passes : (kind : ℕ) (body : List ℕ) (node : X) → IsBody form kind body (of node) → is kind body ≡ true
  pub reads : (kind : ℕ) (body : List ℕ) (node : X) → IsBody form kind body (of node) → at kind body ≡ node
  pub spells : (kind : ℕ) (body : List ℕ) → IsBytes body → is kind body ≡ true → IsBody form kind body (of (at kind body))

chosen : {X : Type 0} (b : Bool) (x y : X) → cond b (Some x) None ≡ Some y → (b ≡ true) × (x ≡ y)
chosen true x y h = (refl, some_same x y h)
chosen false x y h = absurd cc

moved : {N X : Type 0} (form : Form N) (of : X → N) (kind : ℕ) (body : List ℕ) (x y : X) → x ≡ y → IsBody form kind body (of x) → IsBody form kind body (of y)
moved {X = X} form of kind body x y e h = let P : X → Type 0 = λ n. IsBody form kind body (of n) in subst P e h

pub reader_of : {N X : Type 0} (form : Form N) (of : X → N) (is : ℕ → List ℕ → Bool) (at : ℕ → List ℕ → X) → IsTest form of is at
    → IsReader form of (λ kind body. if is kind body then Some (at kind body) else None)
reader_of form of is at test = record {
  takes = λ kind body node h. rw (test.passes kind body node h, test.reads kind body node h) refl;
  gives = λ kind body node fits h.
      let read = chosen (is kind body) (at kind body) node h in
      moved form of kind body (at kind body) node read.1 (test.spells kind body fits read.0);
}
