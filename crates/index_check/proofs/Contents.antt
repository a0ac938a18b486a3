-- Contents that are the same say the same.
use Rattle.std.proofs.Common.{◌≡◌, ℕ, ◌+◌, ◌-◌, ◌≤◌, List, ◌++◌, length, take, drop, ap, sym, ◌∙◌, subst, inl, inr, arith}
use Rattle.std.proofs.Math.Seq.{take-append_seam}
use Rattle.ubifs_base.specs.declared.raw_geometry.RawGeometry.{RawGeometry}
use Rattle.media_lpt.specs.declared.lprop.Lprop.{Lprop}
use Rattle.media_sys.specs.Index.{Index}
use Rattle.media_sys.specs.SystemNode.{IsSystemNode, index}
use Rattle.media_sys.specs.declared.branch.Branch.{Branch}
use Rattle.index_media.specs.Stored.{IsIndexNodeAt}
use Rattle.sound_image.specs.IndexBreaches.{HasIndexNodeOf, LacksIndexNode, NodeWanted}
use Rattle.sound_image.specs.Wrong.{Misfit, Wrong, differs, type_byte}
use Rattle.index_check.specs.IndexWalk.{IsIndexStep, IsWrongWanted}
use Rattle.image_check.specs.WrongValues.{wrong_at}
use Rattle.index_check.specs.declared.index_walk.IndexWalk.{IndexWalk}

pub node_moved : (a b : ℕ → List ℕ) (branch : Branch) (said : Index) → b branch.lnum ≡ a branch.lnum → IsIndexNodeAt b branch said → IsIndexNodeAt a branch said
node_moved a b branch said e h =
    let P : List ℕ → Type 0 = λ leb. branch.offs + branch.len ≤ length leb in
    let Q : List ℕ → Type 0 = λ leb. IsSystemNode (take branch.len (drop branch.offs leb)) h.sqnum h.group (index said) in
    record { sqnum = h.sqnum; group = h.group; room = subst P e h.room; is = subst Q e h.is }

len_moved : (a b : ℕ → List ℕ) (branch : Branch) (len : ℕ) → b branch.lnum ≡ a branch.lnum → HasIndexNodeOf b branch len → HasIndexNodeOf a branch len
len_moved a b branch len e h =
    let P : List ℕ → Type 0 = λ leb. branch.offs + len ≤ length leb in
    let Q : List ℕ → Type 0 = λ leb. IsSystemNode (take len (drop branch.offs leb)) h.sqnum h.group (index h.said) in
    record { sqnum = h.sqnum; group = h.group; said = h.said; room = subst P e h.room; is = subst Q e h.is }

pub lack_moved : (a b : ℕ → List ℕ) (branch : Branch) (misfit : Misfit) → b branch.lnum ≡ a branch.lnum → LacksIndexNode b branch misfit → LacksIndexNode a branch misfit
lack_moved a b branch misfit e (inl (none, values)) = inl ((λ len h. none len (len_moved b a branch len (sym e) h)), values ∙ ap (λ (leb : List ℕ). differs 9 (type_byte leb branch.offs)) e)
lack_moved a b branch misfit e (inr (len, there, ne, values)) = inr (len, len_moved a b branch len e there, ne, values)

wrong_moved : (a b : ℕ → List ℕ) (geo : RawGeometry) (props : List Lprop) (node : NodeWanted) (at : Wrong) → b node.branch.lnum ≡ a node.branch.lnum → IsWrongWanted b geo props node at → IsWrongWanted a geo props node at
wrong_moved a b geo props node at e h = record {
  lnum = h.lnum;
  offs = h.offs;
  wrong = elim h.wrong [
    | inl lack ↦ inl (lack_moved a b node.branch at.misfit e lack)
    | inr (said, stands, misfit) ↦ inr (said, node_moved a b node.branch said e stands, misfit)
  ];
}

pub step_moved : (a b : ℕ → List ℕ) (geo : RawGeometry) (props : List Lprop) (wanted : NodeWanted) (old new : IndexWalk) → ((k : ℕ) → b k ≡ a k) → IsIndexStep b geo props wanted old new → IsIndexStep a geo props wanted old new
step_moved a b geo props wanted old new e (inl (said, stands, right, taken)) = inl (said, node_moved a b wanted.branch said (e wanted.branch.lnum) stands, right, taken)
step_moved a b geo props wanted old new e (inr (node, wrong, passed)) = inr (node, wrong_moved a b geo props wanted (wrong_at node) (e wanted.branch.lnum) wrong, passed)

-- the bytes that are read
pub read_bytes : (leb : List ℕ) (offs n len : ℕ) → n ≡ len → take (offs + n - offs) (drop offs leb) ≡ take len (drop offs leb)
read_bytes leb offs n len e = let same : offs + n - offs ≡ len = omega (arith, e) in ap (λ k. take k (drop offs leb)) same

pub written_back : (xs ys : List ℕ) (n : ℕ) → n ≡ length xs → take n (xs ++ ys) ≡ xs
written_back xs ys n e = ap (λ k. take k (xs ++ ys)) e ∙ take-append_seam xs ys
