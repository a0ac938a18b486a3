-- How long index nodes are.
use Rattle.std.proofs.Common.{◌≡◌, ℕ, ◌+◌, ◌*◌, ◌≤◌, ◌-◌, List, [], ◌∷◌, length, take, drop, refl, ap, sym, ◌∙◌, arith, length-drop}
use Rattle.std.specs.List.{flat_map}
use Rattle.std.proofs.lemmas.List.{length-take-le}
use Rattle.ubifs_base.specs.Node.{node_bytes}
use Rattle.node_fields.specs.Fields.{total_width}
use Rattle.node_fields.specs.FieldLaws.{reads_back, length-read}
use Rattle.media_sys.specs.Index.{Index, branch_fields, index_fields}
use Rattle.media_sys.specs.SystemNode.{index, IsSystemNode}
use Rattle.media_sys.specs.declared.branch.Branch.{Branch}
use Rattle.index_media.specs.Stored.{IsIndexNodeAt}

-- a header has 24 bytes
node_length : (sqnum kind group : ℕ) (pad body : List ℕ) → length pad ≡ 2 → length (node_bytes sqnum kind group pad body) ≡ 24 + length body
unfolding node_bytes
node_length sqnum kind group [] body two = absurd (omega (arith, two))
node_length sqnum kind group (a ∷ []) body two = absurd (omega (arith, two))
node_length sqnum kind group (a ∷ b ∷ []) body two = omega arith
node_length sqnum kind group (a ∷ b ∷ x ∷ pad) body two = absurd (omega (arith, two))

-- a branch has 20
branches_width : (branches : List Branch) → total_width (flat_map branch_fields branches) ≡ 20 * length branches
branches_width [] = refl
branches_width (branch ∷ rest) = let others = branches_width rest in omega (arith, others)

-- an index node has 28 and its branches
pub index_length : (bytes : List ℕ) (sqnum group : ℕ) (said : Index) → IsSystemNode bytes sqnum group (index said) → length bytes ≡ 28 + 20 * length said.branches
index_length bytes sqnum group said h =
    let body : length h.body ≡ total_width (index_fields said) + 0 = length-read (index_fields said) [] h.body (reads_back 0 (index_fields said) [] h.body (omega arith) h.spelled) in
    let branches = branches_width said.branches in
    let whole = ap length h.framed.spelled ∙ node_length sqnum 9 group h.framed.padding h.body h.framed.two in
    omega (arith, body, branches, whole)

pub node_len : (contents : ℕ → List ℕ) (branch : Branch) (said : Index) → IsIndexNodeAt contents branch said → branch.len ≡ 28 + 20 * length said.branches
node_len contents branch said h =
    let leb = contents branch.lnum in
    let room = h.room in
    let size : length (drop branch.offs leb) ≡ length leb - branch.offs = length-drop branch.offs leb in
    let long : branch.len ≤ length (drop branch.offs leb) = omega (arith, room, size) in
    sym (length-take-le branch.len (drop branch.offs leb) long) ∙ index_length (take branch.len (drop branch.offs leb)) h.sqnum h.group said h.is
