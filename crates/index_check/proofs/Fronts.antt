-- What is read at an offset of a LEB, as far as an index node can reach.
use Rattle.std.proofs.Common.{◌≡◌, ℕ, ◌+◌, ◌*◌, ◌<◌, ◌≤◌, List, [], ◌∷◌, length, take, drop, refl, ap, sym, ◌∙◌, subst, inl, inr, arith, length-drop}
use Rattle.std.specs.Prelude.{get_or}
use Rattle.std.specs.List.{flat_map}
use Rattle.std.proofs.lemmas.Bool.{cases_lt}
use Rattle.std.proofs.lemmas.List.{get_or-drop, get_or-take, get_or_past, length-take-le, take-take}
use Rattle.ubifs_base.specs.Node.{node_bytes}
use Rattle.node_fields.specs.Fields.{total_width}
use Rattle.node_fields.specs.FieldLaws.{reads_back, length-read}
use Rattle.media_sys.specs.Index.{Index, branch_fields, index_fields}
use Rattle.media_sys.specs.SystemNode.{IsSystemNode, index}
use Rattle.media_sys.specs.declared.branch.Branch.{Branch}
use Rattle.index_media.specs.Stored.{IsIndexNodeAt}
use Rattle.sound_image.specs.IndexBreaches.{LacksIndexNode}
use Rattle.sound_image.specs.Wrong.{Misfit, differs, type_byte}
use Rattle.index_check.specs.IndexWalk.{IsIndexNodeIn}
use Rattle.index_check.proofs.StandingNodes.{at_len, in_leb, of_len}

-- ---- how long an index node is
-- a header has 24 bytes
node_length : (sqnum kind group : ℕ) (pad body : List ℕ) → length pad ≡ 2 → length (node_bytes sqnum kind group pad body) ≡ 24 + length body
unfolding node_bytes
node_length sqnum kind group [] body two = absurd (omega (arith, two))
node_length sqnum kind group (a ∷ []) body two = absurd (omega (arith, two))
node_length sqnum kind group (a ∷ b ∷ []) body two = omega arith
node_length sqnum kind group (a ∷ b ∷ x ∷ pad) body two = absurd (omega (arith, two))

-- a branch has 20
branches_width : (branches : List Branch) → total_width (flat_map branch_fields branches) ≡ 20 * length branches
branches_width [] = refl
branches_width (branch ∷ rest) = let others = branches_width rest in omega (arith, others)

-- an index node has 28 and its branches, of which there are at most 256
most_bytes : (bytes : List ℕ) (sqnum group : ℕ) (said : Index) → IsSystemNode bytes sqnum group (index said) → length bytes ≤ 5148
most_bytes bytes sqnum group said h =
    let body : length h.body ≡ total_width (index_fields said) + 0 = length-read (index_fields said) [] h.body (reads_back 0 (index_fields said) [] h.body (omega arith) h.spelled) in
    let branches = branches_width said.branches in
    let most = h.is.most in
    let whole = ap length h.framed.spelled ∙ node_length sqnum 9 group h.framed.padding h.body h.framed.two in
    omega (arith, body, branches, most, whole)

most_len : (leb : List ℕ) (offs len : ℕ) → IsIndexNodeIn leb offs len → len ≤ 5148
most_len leb offs len h =
    let room = h.room in
    let far = length-drop offs leb in
    let long = length-take-le len (drop offs leb) (omega (arith, room, far)) in
    let most = most_bytes (take len (drop offs leb)) h.sqnum h.group h.said h.is in
    omega (arith, long, most)

-- none stands where a branch says that it is longer
pub none_longer : (contents : ℕ → List ℕ) (branch : Branch) (said : Index) → 5148 < branch.len → IsIndexNodeAt contents branch said → ⊥
none_longer contents branch said long h =
    let most = most_len (contents branch.lnum) branch.offs branch.len (in_leb contents branch said h) in
    omega (arith, long, most)

-- ---- so many bytes from an offset on, as many as a node can have or all up to the LEB's end
pub record IsFront (leb : List ℕ) (offs : ℕ) (front : List ℕ) : Type 0 where
  pub count : ℕ
  pub is : front ≡ take count (drop offs leb)
  pub room : offs + count ≤ length leb
  pub far : count < 5148 → offs + count ≡ length leb

within : (leb : List ℕ) (offs len : ℕ) (front : List ℕ) → (f : IsFront leb offs front) → IsIndexNodeIn leb offs len → len ≤ f.count
within leb offs len front f h =
    let room = h.room in
    let most = most_len leb offs len h in
    elim (cases_lt f.count 5148) [
      | inl less ↦ let e = f.far less in omega (arith, room, e)
      | inr high ↦ omega (arith, most, high)
    ]

front_long : (leb : List ℕ) (offs : ℕ) (front : List ℕ) → (f : IsFront leb offs front) → length front ≡ f.count
front_long leb offs front f =
    let room = f.room in
    let far = length-drop offs leb in
    ap length f.is ∙ length-take-le f.count (drop offs leb) (omega (arith, room, far))

same_part : (leb : List ℕ) (offs len : ℕ) (front : List ℕ) → (f : IsFront leb offs front) → len ≤ f.count → take len front ≡ take len (drop offs leb)
same_part leb offs len front f le = ap (take len) f.is ∙ take-take len f.count (drop offs leb) le

-- a node in the LEB begins the bytes that were read, and the other way
in_front : (leb : List ℕ) (offs len : ℕ) (front : List ℕ) → IsFront leb offs front → IsIndexNodeIn leb offs len → IsIndexNodeIn front 0 len
in_front leb offs len front f h =
    let le = within leb offs len front f h in
    let long = front_long leb offs front f in
    let P : List ℕ → Type 0 = λ bytes. IsSystemNode bytes h.sqnum h.group (index h.said) in
    record { sqnum = h.sqnum; group = h.group; said = h.said; room = omega (arith, le, long); is = subst P (sym (same_part leb offs len front f le)) h.is }

of_front : (leb : List ℕ) (offs len : ℕ) (front : List ℕ) → IsFront leb offs front → IsIndexNodeIn front 0 len → IsIndexNodeIn leb offs len
of_front leb offs len front f h =
    let room = h.room in
    let long = front_long leb offs front f in
    let all = f.room in
    let le : len ≤ f.count = omega (arith, room, long) in
    let P : List ℕ → Type 0 = λ bytes. IsSystemNode bytes h.sqnum h.group (index h.said) in
    record { sqnum = h.sqnum; group = h.group; said = h.said; room = omega (arith, le, all); is = subst P (same_part leb offs len front f le) h.is }

same_type : (leb : List ℕ) (offs : ℕ) (front : List ℕ) → IsFront leb offs front → type_byte front 0 ≡ type_byte leb offs
same_type leb offs front f = elim (cases_lt 20 f.count) [
  | inl far ↦ ap (λ (bytes : List ℕ). get_or bytes 20 255) f.is ∙ get_or-take f.count (drop offs leb) 20 255 far ∙ get_or-drop offs leb 20 255
  | inr near ↦
      let long = front_long leb offs front f in
      let e = f.far (omega (arith, near)) in
      get_or_past front 20 255 (omega (arith, long, near)) ∙ sym (get_or_past leb (offs + 20) 255 (omega (arith, e, near)))
]

-- none of its length begins them
pub none_front : (contents : ℕ → List ℕ) (branch : Branch) (front : List ℕ) → IsFront (contents branch.lnum) branch.offs front → ((said : Index) → IsIndexNodeAt contents branch said → ⊥) → IsIndexNodeIn front 0 branch.len → ⊥
none_front contents branch front f none h =
    let g = of_front (contents branch.lnum) branch.offs branch.len front f h in
    none g.said (record { sqnum = g.sqnum; group = g.group; room = g.room; is = g.is })

-- what is wrong with them is wrong in the LEB
pub lack_front : (contents : ℕ → List ℕ) (branch : Branch) (front : List ℕ) (misfit : Misfit) → IsFront (contents branch.lnum) branch.offs front
    → LacksIndexNode (λ k. front) (record branch { offs = 0 }) misfit → LacksIndexNode contents branch misfit
lack_front contents branch front misfit f (inl (none, values)) = inl (
  (λ len h. none len (of_len (λ k. front) (record branch { offs = 0 }) len (in_front (contents branch.lnum) branch.offs len front f (at_len contents branch len h)))),
  values ∙ ap (differs 9) (same_type (contents branch.lnum) branch.offs front f),
)
lack_front contents branch front misfit f (inr (len, there, ne, values)) =
    inr (len, of_len contents branch len (of_front (contents branch.lnum) branch.offs len front f (at_len (λ k. front) (record branch { offs = 0 }) len there)), ne, values)

-- nothing stands past the LEB's end
pub lack_behind : (contents : ℕ → List ℕ) (branch : Branch) → length (contents branch.lnum) < branch.offs → LacksIndexNode contents branch (differs 9 255)
lack_behind contents branch past = inl (
  (λ len h. (let room = h.room in omega (arith, past, room))),
  ap (differs 9) (sym (get_or_past (contents branch.lnum) (branch.offs + 20) 255 (omega (arith, past)))),
)
