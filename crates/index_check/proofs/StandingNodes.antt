-- At most one index node stands at a place, and at most one thing is wrong where a node is wanted.
use Rattle.std.proofs.Common.{◌≡◌, ℕ, zero, suc, ◌+◌, ◌<◌, ◌≤◌, List, [], ◌∷◌, Option, Some, None, IfNone, length, take, drop, refl, ap, sym, ◌∙◌, subst, inl, inr, arith, length-drop, take-append-drop, get_or-drop}
use Rattle.std.proofs.lemmas.List.{drop-append-le, length-take-le}
use Rattle.std.specs.Prelude.{get_or}
use Rattle.byteorder.specs.Endian.{little_number}
use Rattle.byteorder.specs.Numbers.{little_from-append}
use Rattle.ubifs_base.specs.NodeLaws.{IsBytes, has_head}
use Rattle.ubifs_base.specs.declared.raw_geometry.RawGeometry.{RawGeometry}
use Rattle.media_lpt.specs.declared.lprop.Lprop.{Lprop}
use Rattle.media_sys.specs.Index.{Index}
use Rattle.media_sys.specs.SystemNode.{SystemNode, IsSystemNode, index}
use Rattle.media_sys.specs.declared.branch.Branch.{Branch}
use Rattle.index_media.specs.Stored.{IsIndexNodeAt}
use Rattle.sound_image.specs.IndexBreaches.{HasIndexNodeOf, LacksIndexNode, NodeWanted, index_misfit}
use Rattle.sound_image.specs.Wrong.{Misfit, Wrong, differs, type_byte}
use Rattle.index_check.specs.IndexWalk.{IsIndexNodeIn, IsWrongWanted}

-- bytes are at most one node
abbrev pub IsOneNode : Type 0
IsOneNode = (bytes : List ℕ) (s1 g1 s2 g2 : ℕ) (n1 n2 : SystemNode) → IsBytes bytes → IsSystemNode bytes s1 g1 n1 → IsSystemNode bytes s2 g2 n2 → (s1 ≡ s2) × (g1 ≡ g2) × (n1 ≡ n2)

index_same : (a b : Index) → index a ≡ index b → a ≡ b
index_same a b h = cc

bytes_behind : (n : ℕ) (bytes : List ℕ) → IsBytes bytes → IsBytes (drop n bytes)
bytes_behind n bytes fits i = rw get_or-drop (fits (n + i))

taken_byte : (n : ℕ) (bytes : List ℕ) → IsBytes bytes → (i : ℕ) → get_or (take n bytes) i 0 < 256
taken_byte zero bytes fits i = omega arith
taken_byte (suc n) [] fits i = omega arith
taken_byte (suc n) (x ∷ xs) fits zero = fits 0
taken_byte (suc n) (x ∷ xs) fits (suc i) = taken_byte n xs (λ k. fits (suc k)) i

part_bytes : (offs len : ℕ) (leb : List ℕ) → IsBytes leb → IsBytes (take len (drop offs leb))
part_bytes offs len leb fits = taken_byte len (drop offs leb) (bytes_behind offs leb fits)

-- one index node stands where a branch leads
pub one_said : IsOneNode → (contents : ℕ → List ℕ) (branch : Branch) (a b : Index) → ((k : ℕ) → IsBytes (contents k)) → IsIndexNodeAt contents branch a → IsIndexNodeAt contents branch b → a ≡ b
one_said one contents branch a b fits x y =
    index_same a b (one (take branch.len (drop branch.offs (contents branch.lnum))) x.sqnum x.group y.sqnum y.group (index a) (index b) (part_bytes branch.offs branch.len (contents branch.lnum) (fits branch.lnum)) x.is y.is).2

-- the header says how long the node is
pub header_len : (leb : List ℕ) (offs len : ℕ) → IsBytes leb → (h : IsIndexNodeIn leb offs len) → (24 ≤ len) × (len ≡ little_number 4 (drop 16 (drop offs leb)))
header_len leb offs len fits h =
    let rest = drop offs leb in
    let node = take len rest in
    let room = h.room in
    let far = length-drop offs leb in
    let long : length node ≡ len = length-take-le len rest (omega (arith, far, room)) in
    let head = (has_head node h.is.body h.sqnum 9 h.group (part_bytes offs len leb fits) h.is.framed).0 in
    let least = head.long in
    let more : 4 ≤ length (drop 16 node) = rw length-drop (omega (arith, least)) in (
      omega (arith, least, long),
      sym long ∙ head.len ∙ sym (ap (λ (z : List ℕ). little_number 4 (drop 16 z)) (sym (take-append-drop len rest)) ∙ ap (little_number 4) (drop-append-le 16 node (drop len rest) (omega (arith, least))) ∙ little_from-append 4 (drop 16 node) (drop len rest) more),
    )

-- the same node, of the contents and of the LEB
pub in_leb : (contents : ℕ → List ℕ) (branch : Branch) (said : Index) → IsIndexNodeAt contents branch said → IsIndexNodeIn (contents branch.lnum) branch.offs branch.len
in_leb contents branch said h = record { sqnum = h.sqnum; group = h.group; said = said; room = h.room; is = h.is }

pub at_len : (contents : ℕ → List ℕ) (branch : Branch) (len : ℕ) → HasIndexNodeOf contents branch len → IsIndexNodeIn (contents branch.lnum) branch.offs len
at_len contents branch len h = record { sqnum = h.sqnum; group = h.group; said = h.said; room = h.room; is = h.is }

pub of_len : (contents : ℕ → List ℕ) (branch : Branch) (len : ℕ) → IsIndexNodeIn (contents branch.lnum) branch.offs len → HasIndexNodeOf contents branch len
of_len contents branch len h = record { sqnum = h.sqnum; group = h.group; said = h.said; room = h.room; is = h.is }

-- nodes at one place have one length
pub one_len : (leb : List ℕ) (offs a b : ℕ) → IsBytes leb → IsIndexNodeIn leb offs a → IsIndexNodeIn leb offs b → a ≡ b
one_len leb offs a b fits x y = (header_len leb offs a fits x).1 ∙ sym (header_len leb offs b fits y).1

-- where a node stands none is lacking
pub none_lacks : (contents : ℕ → List ℕ) (branch : Branch) (said : Index) (misfit : Misfit) → ((k : ℕ) → IsBytes (contents k)) → IsIndexNodeAt contents branch said → LacksIndexNode contents branch misfit → ⊥
none_lacks contents branch said misfit fits x (inl (none, values)) = none branch.len (record { sqnum = x.sqnum; group = x.group; said = said; room = x.room; is = x.is })
none_lacks contents branch said misfit fits x (inr (len, other, ne, values)) = ne (one_len (contents branch.lnum) branch.offs len branch.len (fits branch.lnum) (at_len contents branch len other) (in_leb contents branch said x))

one_lack : (contents : ℕ → List ℕ) (branch : Branch) (a b : Misfit) → ((k : ℕ) → IsBytes (contents k)) → LacksIndexNode contents branch a → LacksIndexNode contents branch b → a ≡ b
one_lack contents branch a b fits (inl (none, e)) (inl (other, f)) = e ∙ sym f
one_lack contents branch a b fits (inl (none, e)) (inr (len, there, ne, f)) = absurd (none len there)
one_lack contents branch a b fits (inr (len, there, ne, e)) (inl (none, f)) = absurd (none len there)
one_lack contents branch a b fits (inr (len, there, ne, e)) (inr (more, also, nf, f)) =
    e ∙ ap (differs branch.len) (one_len (contents branch.lnum) branch.offs len more (fits branch.lnum) (at_len contents branch len there) (at_len contents branch more also)) ∙ sym f

some_one : (a b : Misfit) → Some a ≡ Some b → a ≡ b
some_one a b h = cc

wrong_same : (l m o p : ℕ) (x y : Misfit) → l ≡ m → o ≡ p → x ≡ y
    → let a : Wrong = record { lnum = l; offs = o; misfit = x } in
    let b : Wrong = record { lnum = m; offs = p; misfit = y } in
    a ≡ b
wrong_same l m o p x y e f g = rw (e, f, g) refl

one_misfit : IsOneNode → (contents : ℕ → List ℕ) (geo : RawGeometry) (props : List Lprop) (node : NodeWanted) (a b : Wrong) → ((k : ℕ) → IsBytes (contents k)) → (x : IsWrongWanted contents geo props node a) → (y : IsWrongWanted contents geo props node b) → a.misfit ≡ b.misfit
one_misfit one contents geo props node a b fits x y = elim x.wrong [
  | inl lack ↦ elim y.wrong [
    | inl other ↦ one_lack contents node.branch a.misfit b.misfit fits lack other
    | inr (said, stands, e) ↦ absurd (none_lacks contents node.branch said a.misfit fits stands lack)
  ]
  | inr (said, stands, e) ↦ elim y.wrong [
    | inl lack ↦ absurd (none_lacks contents node.branch said b.misfit fits stands lack)
    | inr (also, there, f) ↦ some_one a.misfit b.misfit (sym e ∙ ap (index_misfit geo props node) (one_said one contents node.branch said also fits stands there) ∙ f)
  ]
]

-- one thing is wrong where a node is wanted
pub one_wrong_there : IsOneNode → (contents : ℕ → List ℕ) (geo : RawGeometry) (props : List Lprop) (node : NodeWanted) (a b : Wrong) → ((k : ℕ) → IsBytes (contents k)) → IsWrongWanted contents geo props node a → IsWrongWanted contents geo props node b → a ≡ b
one_wrong_there one contents geo props node a b fits x y =
    wrong_same a.lnum b.lnum a.offs b.offs a.misfit b.misfit (x.lnum ∙ sym y.lnum) (x.offs ∙ sym y.offs) (one_misfit one contents geo props node a b fits x y)

-- and nothing is where a node stands with which nothing is wrong
pub none_wrong_there : IsOneNode → (contents : ℕ → List ℕ) (geo : RawGeometry) (props : List Lprop) (node : NodeWanted) (said : Index) (at : Wrong) → ((k : ℕ) → IsBytes (contents k)) → IsIndexNodeAt contents node.branch said → index_misfit geo props node said ≡ None
    → IsWrongWanted contents geo props node at → ⊥
none_wrong_there one contents geo props node said at fits stands right wrong = elim wrong.wrong [
  | inl lack ↦ none_lacks contents node.branch said at.misfit fits stands lack
  | inr (also, there, f) ↦
      let e : None ≡ Some at.misfit = sym right ∙ ap (index_misfit geo props node) (one_said one contents node.branch said also fits stands there) ∙ f in
      absurd cc
]

-- ---- where no node stands
pub too_short : (leb rest : List ℕ) (offs len : ℕ) → IsBytes leb → rest ≡ drop offs leb → length rest < 24 → IsIndexNodeIn leb offs len → ⊥
too_short leb rest offs len fits e short h =
    let room = h.room in
    let least = (header_len leb offs len fits h).0 in
    let far = ap length e ∙ length-drop offs leb in
    omega (arith, room, least, far, short)

pub too_long : (leb rest : List ℕ) (offs len n : ℕ) → IsBytes leb → rest ≡ drop offs leb → n ≡ little_number 4 (drop 16 rest) → length rest < n → IsIndexNodeIn leb offs len → ⊥
too_long leb rest offs len n fits e is long h =
    let room = h.room in
    let same : len ≡ n = (header_len leb offs len fits h).1 ∙ ap (λ (r : List ℕ). little_number 4 (drop 16 r)) (sym e) ∙ sym is in
    let far = ap length e ∙ length-drop offs leb in
    omega (arith, room, same, far, long)

pub no_node : (leb rest bytes : List ℕ) (offs len n : ℕ) → IsBytes leb → rest ≡ drop offs leb → n ≡ little_number 4 (drop 16 rest) → bytes ≡ take n rest → ((sqnum group : ℕ) (node : Index) → IsSystemNode bytes sqnum group (index node) → ⊥) → IsIndexNodeIn leb offs len → ⊥
no_node leb rest bytes offs len n fits e is whole none h =
    let same : len ≡ n = (header_len leb offs len fits h).1 ∙ ap (λ (r : List ℕ). little_number 4 (drop 16 r)) (sym e) ∙ sym is in
    let P : List ℕ → Type 0 = λ b. IsSystemNode b h.sqnum h.group (index h.said) in
    none h.sqnum h.group h.said (subst P (ap (λ (k : ℕ). take k (drop offs leb)) same ∙ ap (take n) (sym e) ∙ sym whole) h.is)

empty_bytes : (leb : List ℕ) → leb ≡ [] → IsBytes leb
empty_bytes leb e = let P : List ℕ → Type 0 = λ bytes. IsBytes bytes in subst P (sym e) (λ i. omega arith)

-- none stands in an empty LEB
never_in : (leb : List ℕ) (offs len : ℕ) → leb ≡ [] → IsIndexNodeIn leb offs len → ⊥
never_in leb offs len e h =
    let room = h.room in
    let least = (header_len leb offs len (empty_bytes leb e) h).0 in
    let none = ap length e in
    omega (arith, room, least, none)

pub none_past : (contents : ℕ → List ℕ) (branch : Branch) (said : Index) → contents branch.lnum ≡ [] → IsIndexNodeAt contents branch said → ⊥
none_past contents branch said e h = never_in (contents branch.lnum) branch.offs branch.len e (in_leb contents branch said h)

pub lack_past : (contents : ℕ → List ℕ) (branch : Branch) → contents branch.lnum ≡ [] → LacksIndexNode contents branch (differs 9 255)
lack_past contents branch e = inl ((λ len h. never_in (contents branch.lnum) branch.offs len e (at_len contents branch len h)), ap (λ (leb : List ℕ). differs 9 (type_byte leb branch.offs)) (sym e))

-- what was read is none
pub none_read : {X : Type 0} (read : Option X) (contents : ℕ → List ℕ) (branch : Branch) (bytes : List ℕ) → bytes ≡ take branch.len (drop branch.offs (contents branch.lnum)) → IfNone read ((sqnum group : ℕ) (node : Index) → IsSystemNode bytes sqnum group (index node) → ⊥)
    → IfNone read ((said : Index) → IsIndexNodeAt contents branch said → ⊥)
none_read (Some x) contents branch bytes e h = h
none_read None contents branch bytes e h = λ said there.
    let P : List ℕ → Type 0 = λ b. IsSystemNode b there.sqnum there.group (index said) in
    h there.sqnum there.group said (subst P (sym e) there.is)

pub lack_none : (leb : List ℕ) (branch : Branch) (there : Option ℕ) (byte : ℕ) → there ≡ None → IfNone there ((len : ℕ) → IsIndexNodeIn leb branch.offs len → ⊥) → byte ≡ type_byte leb branch.offs → LacksIndexNode (λ k. leb) branch (differs 9 byte)
lack_none leb branch None byte e h same = inl ((λ len is. h len (at_len (λ k. leb) branch len is)), ap (differs 9) same)
lack_none leb branch (Some len) byte e h same = absurd cc

pub none_of : {X : Type 0} (o : Option X) {P : Type 0} → o ≡ None → IfNone o P → P
none_of None e h = h
none_of (Some x) e h = absurd cc

pub same_values : (a b c d : ℕ) → c ≡ a → d ≡ b → differs a b ≡ differs c d
same_values a b c d e f = rw (e, f) refl
