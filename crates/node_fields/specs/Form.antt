-- What the nodes of a family look like, and which bytes they are.
use Rattle.std.specs.Prelude.{◌≡◌, ℕ, List, [], ◌∷◌}
use Rattle.ubifs_base.specs.Node.{IsNode, node_bytes}
use Rattle.node_fields.specs.Fields.{Field, Spells, spelling}

-- the type that a node's header names, what follows the header, and which nodes there may be
pub record Form (N : Type 0) : Type 1 where
  pub type_of : N → ℕ
  pub fields_of : N → List Field
  pub tail_of : N → List ℕ
  pub Allowed : N → Type 0

-- a type and a body are this node's
pub record IsBody {N : Type 0} (form : Form N) (kind : ℕ) (body : List ℕ) (node : N) : Type 0 where
  pub kind_is : kind ≡ form.type_of node
  pub spelled : Spells (form.fields_of node) (form.tail_of node) body
  pub is : form.Allowed node

-- These bytes are this node, all of them. Ignored bytes may be anything.
pub record IsOf {N : Type 0} (form : Form N) (bytes : List ℕ) (sqnum group : ℕ) (node : N) : Type 0 where
  pub body : List ℕ
  pub framed : IsNode bytes sqnum (form.type_of node) group body
  pub spelled : Spells (form.fields_of node) (form.tail_of node) body
  pub is : form.Allowed node

-- the one spelling that is written, in which all that is ignored is 0
abbrev pub written_as : {N : Type 0} → Form N → ℕ → ℕ → N → List ℕ
written_as form sqnum group node = node_bytes sqnum (form.type_of node) group (0 ∷ 0 ∷ []) (spelling (form.fields_of node) (form.tail_of node))
