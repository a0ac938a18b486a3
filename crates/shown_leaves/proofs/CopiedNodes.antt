-- Which of the collector's nodes are copies, by what is told and by what stands in the volume.
use Rattle.std.proofs.Common.{◌≡◌, ◌⊎◌, ℕ, ◌+◌, ◌≤◌, Bool, true, false, cond, not, ◌&&◌, ◌||◌, List, [], ◌∷◌, ◌++◌, Option, Some, None, length, map, take, drop, refl, ap, sym, subst, ◌∙◌, inl, inr, append-nil, append_assoc}
use Rattle.std.specs.Prelude.{◌==◌, ◌↔◌, All, IfNone, IsTrue, is_some}
use Rattle.std.proofs.lemmas.List.Elements.{All-from_recursion}
use Rattle.std.specs.List.{AllByRecursion, list_any}
use Rattle.std.specs.Option.{option_map}
use Rattle.std.proofs.lemmas.Bool.{and_parts, eqb-true, false≢true}
use Rattle.ubifs_base.specs.NodeLaws.{IsBytes}
use Rattle.ubifs_base.specs.declared.key.Key.{Key}
use Rattle.media_leaf.specs.LeafNode.{IsLeaf, IsLeafNode, LeafNode}
use Rattle.media_sys.specs.declared.ref_node.RefNode.{RefNode}
use Rattle.index_tree.specs.Order.{key_rank, leaf_rank}
use Rattle.index_tree.specs.Removal.{same_leaf}
use Rattle.index_tree.specs.declared.leaf.Leaf.{Leaf}
use Rattle.leaf_map.specs.Allowed.{IsOwnNode}
use Rattle.leaf_map.specs.Kept.{Placed, kept_at, node_key, shown}
use Rattle.leaf_map.specs.Parts.{Committed, Named, Parts, in_bud, is_own, is_shown, own_node}
use Rattle.journal_scan.specs.Content.{told}
use Rattle.journal_scan.specs.declared.journal_node.JournalNode.{JournalNode}
use Rattle.log_replay.specs.KeyToldLaws.{if_set, told_key}
use Rattle.log_replay.specs.Replay.{told_committed}
use Rattle.log_replay.specs.Things.{is_at_leaf, key_told}
use Rattle.log_replay.specs.declared.committed_leaf.CommittedLeaf.{CommittedLeaf}
use Rattle.sound_image.specs.Image.{named_by_ref_node}
use Rattle.sound_image.specs.Leaves.{IsPlacedIn}
use Rattle.sound_image.specs.Tree.{IsCopy}
use Rattle.sound_image.specs.Wrong.{IsOneOf, Wrong}
use Rattle.sound_image.specs.WrongLaws.{is_one_at_end, front_or_end, in_front, one_of_none}
use Rattle.image_check.specs.FirstLaws.{first_alone, first_of_both, first_same}
use Rattle.image_check.specs.WrongValues.{IsFirstOf, sooner_of}
use Rattle.image_check.specs.declared.wrong_value.WrongValue.{WrongValue}
use Rattle.shown_leaves.specs.Copies.{AreCommittedTold, ArePartsTold, DecidesCopy, FoundStands, IsOwnAmong, IsOwnAt, has_own_told, is_lost_at}
use Rattle.shown_leaves.specs.FalseNodes.{IsFalseCopy, wrong_node}
use Rattle.shown_leaves.specs.Sources.{bytes_of}
use Rattle.shown_leaves.specs.Stored.{IsStoredIn, leaf_node}
use Rattle.shown_leaves.specs.Told.{wrong_node_told}
use Rattle.shown_leaves.specs.declared.stored_node.StoredNode.{StoredNode}
use Rattle.shown_leaves.proofs.Contents.{wrong_is}
use Rattle.shown_leaves.proofs.Rights.{all_end, right_more, right_never}
use Rattle.shown_leaves.proofs.Stored.{IsOneNode, part_bytes, read_is}

-- ---- a leaf's own node
-- one key and one place
record IsOne (x y : Leaf) : Type 0 where
  pub rank : leaf_rank x ≡ leaf_rank y
  pub lnum : x.lnum ≡ y.lnum
  pub offs : x.offs ≡ y.offs
  pub len : x.len ≡ y.len

is_one : (x y : Leaf) → same_leaf x y ≡ true → IsOne x y
unfolding same_leaf
is_one x y h = by (leaf_rank x == leaf_rank y) refl (x.lnum == y.lnum) refl (x.offs == y.offs) refl (x.len == y.len) refl h
  where
    by : (a : Bool) → (leaf_rank x == leaf_rank y) ≡ a → (b : Bool) → (x.lnum == y.lnum) ≡ b → (c : Bool) → (x.offs == y.offs) ≡ c → (d : Bool) → (x.len == y.len) ≡ d → cond a (cond b (cond c d false) false) false ≡ true → IsOne x y
    by true i true e true f true g t = record { rank = eqb-true (leaf_rank x) (leaf_rank y) i; lnum = eqb-true x.lnum y.lnum e; offs = eqb-true x.offs y.offs f; len = eqb-true x.len y.len g }
    by true i true e true f false g t = absurd (false≢true t)
    by true i true e false f d g t = absurd (false≢true t)
    by true i false e c f d g t = absurd (false≢true t)
    by false i b e c f d g t = absurd (false≢true t)

-- what is told of a node at a leaf's place
at_leaf : (leaf : Leaf) (found : Placed) → IsLeaf found.node → is_at_leaf leaf (told found) ≡ (is_shown (shown found.node) && same_leaf leaf (kept_at found).leaf)
at_leaf leaf found is = by (is_shown (shown found.node)) refl
  where
    by : (b : Bool) → is_shown (shown found.node) ≡ b → is_at_leaf leaf (told found) ≡ (is_shown (shown found.node) && same_leaf leaf (kept_at found).leaf)
    by true e = rw (told_key found.node is, e) refl
    by false e = rw (told_key found.node is, e) refl

turned : (s l n : Bool) (found : Placed) → (((s && l) && n)) ≡ is_some (cond ((n && s) && l) (Some found) None)
turned true true true found = refl
turned true true false found = refl
turned true false true found = refl
turned true false false found = refl
turned false l true found = refl
turned false l false found = refl

pub has_own : (contents : ℕ → List ℕ) (references : List RefNode) (named : List Named) (c : Committed) → named ≡ map named_by_ref_node references → FoundStands contents c → has_own_told references (told_committed c) ≡ is_some (own_node named c)
has_own contents references named c log stands = by c.found stands
  where
    by : (o : Option Placed) → FoundStands contents (record { leaf = c.leaf; found = o }) → has_own_told references (told_committed (record { leaf = c.leaf; found = o })) ≡ is_some (own_node named (record { leaf = c.leaf; found = o }))
    by None h = refl
    by (Some found) h =
        let n = in_bud (map named_by_ref_node references) c.leaf in
        ap (λ t. t && not n) (at_leaf c.leaf found h.is.is)
        ∙ turned (is_shown (shown found.node)) (same_leaf c.leaf (kept_at found).leaf) (not n) found
        ∙ ap (λ (ns : List Named). is_some (own_node ns (record { leaf = c.leaf; found = Some found }))) (sym log)

-- a leaf's own node shows something, and stands at the leaf's place
pub record Owns (contents : ℕ → List ℕ) (c : Committed) (own : Placed) : Type 0 where
  pub shows : is_shown (shown own.node) ≡ true
  pub rank : leaf_rank c.leaf ≡ leaf_rank (kept_at own).leaf
  pub stands : IsLeafNode (bytes_of contents c.leaf) own.sqnum own.group own.node

placed_there : (contents : ℕ → List ℕ) (leaf : Leaf) (own : Placed) → IsOne leaf (kept_at own).leaf → IsPlacedIn contents own → IsLeafNode (bytes_of contents leaf) own.sqnum own.group own.node
placed_there contents leaf own one placed =
    let L : ℕ → Type 0 = λ lnum. IsLeafNode (take own.len (drop own.offs (contents lnum))) own.sqnum own.group own.node in
    let O : ℕ → Type 0 = λ offs. IsLeafNode (take own.len (drop offs (contents leaf.lnum))) own.sqnum own.group own.node in
    let N : ℕ → Type 0 = λ len. IsLeafNode (take len (drop leaf.offs (contents leaf.lnum))) own.sqnum own.group own.node in
    subst N (sym one.len) (subst O (sym one.offs) (subst L (sym one.lnum) placed.is))

pub owns : (contents : ℕ → List ℕ) (named : List Named) (c : Committed) (own : Placed) → FoundStands contents c → own_node named c ≡ Some own → Owns contents c own
owns contents named c own stands e = by c.found stands e
  where
    test : (found : Placed) → IsPlacedIn contents found → (b : Bool) → is_own named c.leaf found ≡ b → cond b (Some found) None ≡ Some own → Owns contents c own
    test found placed false o f = absurd cc
    test found placed true o f =
        let same : found ≡ own = cc in
        let p = and_parts (not (in_bud named c.leaf) && is_shown (shown found.node)) (same_leaf c.leaf (kept_at found).leaf) o in
        let q = and_parts (not (in_bud named c.leaf)) (is_shown (shown found.node)) p.0 in
        let one = is_one c.leaf (kept_at found).leaf p.1 in
        subst (Owns contents c) same (record { shows = q.1; rank = one.rank; stands = placed_there contents c.leaf found one placed })

    by : (o : Option Placed) → FoundStands contents (record { leaf = c.leaf; found = o }) → own_node named (record { leaf = c.leaf; found = o }) ≡ Some own → Owns contents c own
    by None h f = absurd cc
    by (Some found) h f = test found h (is_own named c.leaf found) refl f

node_of_own : (o : Option Placed) (node : LeafNode) → option_map (λ (found : Placed). found.node) o ≡ Some node → (own : Placed) × (o ≡ Some own) × (own.node ≡ node)
node_of_own None node e = absurd cc
node_of_own (Some own) node e = (own, refl, cc)

some_own : (o : Option Placed) → is_some o ≡ true → (own : Placed) × (o ≡ Some own)
some_own None e = absurd (false≢true e)
some_own (Some own) e = (own, refl)

-- ---- whether a node is one leaf's
pub not_of_rank : (named : List Named) (rank : ℕ) (c : Committed) (node : LeafNode) → (leaf_rank c.leaf ≡ rank → ⊥) → IsOwnAt named rank c node → ⊥
not_of_rank named rank c node other h = other h.key

pub not_own : (named : List Named) (rank : ℕ) (c : Committed) (node : LeafNode) → is_some (own_node named c) ≡ false → IsOwnAt named rank c node → ⊥
not_own named rank c node none h =
    let own = node_of_own (own_node named c) node h.own in
    false≢true (sym none ∙ ap (λ (o : Option Placed). is_some o) own.1)

pub not_there : (contents : ℕ → List ℕ) (named : List Named) (rank : ℕ) (c : Committed) (node : LeafNode) → FoundStands contents c → IsStoredIn (bytes_of contents c.leaf) None → IsOwnAt named rank c node → ⊥
not_there contents named rank c node stands none h =
    let own = node_of_own (own_node named c) node h.own in
    none own.0.sqnum own.0.group own.0.node (owns contents named c own.0 stands own.1).stands

pub own_if : IsOneNode → (contents : ℕ → List ℕ) → ((k : ℕ) → IsBytes (contents k)) → (named : List Named) (rank : ℕ) (c : Committed) (there node : StoredNode) (same : Bool) → FoundStands contents c → leaf_rank c.leaf ≡ rank → is_some (own_node named c) ≡ true
    → IsStoredIn (bytes_of contents c.leaf) (Some there) → (IsTrue same ↔ (leaf_node there ≡ leaf_node node)) → IsTrue same ↔ IsOwnAt named rank c (leaf_node node)
own_if one contents fits named rank c there node same stands key has (s, g, h) tests = (to, from)
  where
    is_there : (own : Placed) → own_node named c ≡ Some own → leaf_node there ≡ own.node
    is_there own e = (one (bytes_of contents c.leaf) s g own.sqnum own.group (leaf_node there) own.node (part_bytes c.leaf.offs c.leaf.len (contents c.leaf.lnum) (fits c.leaf.lnum)) h (owns contents named c own stands e).stands).2

    to : IsTrue same → IsOwnAt named rank c (leaf_node node)
    to said =
        let own = some_own (own_node named c) has in
        record { key = key; own = ap (λ (o : Option Placed). option_map (λ (found : Placed). found.node) o) own.1 ∙ ap (λ (n : LeafNode). Some n) (sym (is_there own.0 own.1) ∙ tests.0 said) }

    from : IsOwnAt named rank c (leaf_node node) → IsTrue same
    from is = let own = node_of_own (own_node named c) (leaf_node node) is.own in tests.1 (is_there own.0 own.1 ∙ own.2)

-- ---- whether it is one of several leaves'
pub record OwnLeft (contents : ℕ → List ℕ) (named : List Named) (rank : ℕ) (references : List RefNode) (leaves : List Committed) (left : List CommittedLeaf) (node : LeafNode) : Type 0 where
  pub rest : List Committed
  pub read : AreCommittedTold contents named rest references left
  pub same : IsOwnAmong named rank leaves node ↔ IsOwnAmong named rank rest node

pub left_start : (contents : ℕ → List ℕ) (named : List Named) (rank : ℕ) (references : List RefNode) (leaves : List Committed) (left : List CommittedLeaf) (node : LeafNode) → AreCommittedTold contents named leaves references left → OwnLeft contents named rank references leaves left node
left_start contents named rank references leaves left node read = record { rest = leaves; read = read; same = ((λ h. h), (λ h. h)) }

told_first : (first : CommittedLeaf) (more : List CommittedLeaf) (leaves : List Committed) → first ∷ more ≡ map told_committed leaves → (c : Committed) × (rest : List Committed) × (leaves ≡ c ∷ rest) × (first ≡ told_committed c) × (more ≡ map told_committed rest)
told_first first more [] e = absurd cc
told_first first more (c ∷ rest) e = (c, rest, refl, cc, cc)

told_none : (leaves : List Committed) → [] ≡ map told_committed leaves → leaves ≡ []
told_none [] e = refl
told_none (c ∷ rest) e = absurd cc

pub left_next : (contents : ℕ → List ℕ) (named : List Named) (rank : ℕ) (references : List RefNode) (leaves : List Committed) (left more : List CommittedLeaf) (first : CommittedLeaf) (node : LeafNode) → left ≡ first ∷ more
    → ((c : Committed) → first ≡ told_committed c → FoundStands contents c → IsOwnAt (map named_by_ref_node references) rank c node → ⊥) → OwnLeft contents named rank references leaves left node → OwnLeft contents named rank references leaves more node
left_next contents named rank references leaves left more first node cut none before =
    let (c, rest, is, here, further) = told_first first more before.rest (sym cut ∙ before.read.told_leaves) in
    let stand = subst (AllByRecursion (FoundStands contents)) is before.read.stand in
    let P : List Committed → Type 0 = λ cs. IsOwnAmong named rank leaves node ↔ IsOwnAmong named rank cs node in
    let same = subst P is before.same in
    let N : List Named → Type 0 = λ ns. IsOwnAt ns rank c node → ⊥ in
    let other = subst N (sym before.read.log) (none c here stand.0) in
    record {
      rest = rest;
      read = record { log = before.read.log; told_leaves = further; stand = stand.1 };
      same = ((λ h. elim (same.0 h) [ inl own ↦ absurd (other own) | inr behind ↦ behind ]), (λ h. same.1 (inr h)));
    }

pub left_found : (contents : ℕ → List ℕ) (named : List Named) (rank : ℕ) (references : List RefNode) (leaves : List Committed) (left more : List CommittedLeaf) (first : CommittedLeaf) (node : LeafNode) → left ≡ first ∷ more
    → ((c : Committed) → first ≡ told_committed c → FoundStands contents c → IsOwnAt (map named_by_ref_node references) rank c node) → OwnLeft contents named rank references leaves left node → IsTrue true ↔ IsOwnAmong named rank leaves node
left_found contents named rank references leaves left more first node cut own before =
    let (c, rest, is, here, further) = told_first first more before.rest (sym cut ∙ before.read.told_leaves) in
    let stand = subst (AllByRecursion (FoundStands contents)) is before.read.stand in
    let P : List Committed → Type 0 = λ cs. IsOwnAmong named rank leaves node ↔ IsOwnAmong named rank cs node in
    let same = subst P is before.same in
    let N : List Named → Type 0 = λ ns. IsOwnAt ns rank c node in
    ((λ yes. same.1 (inl (subst N (sym before.read.log) (own c here stand.0)))), (λ h. refl))

pub left_none : (contents : ℕ → List ℕ) (named : List Named) (rank : ℕ) (references : List RefNode) (leaves : List Committed) (left : List CommittedLeaf) (node : LeafNode) → left ≡ [] → OwnLeft contents named rank references leaves left node → IsTrue false ↔ IsOwnAmong named rank leaves node
left_none contents named rank references leaves left node none before =
    let P : List Committed → Type 0 = λ cs. IsOwnAmong named rank leaves node ↔ IsOwnAmong named rank cs node in
    let same = subst P (told_none before.rest (sym none ∙ before.read.told_leaves)) before.same in
    ((λ yes. absurd (false≢true yes)), (λ h. absurd (same.0 h)))

-- ---- whether a node is a copy
own_among : (contents : ℕ → List ℕ) (named : List Named) (rank : ℕ) (leaves : List Committed) (x : Placed) → AllByRecursion (FoundStands contents) leaves → leaf_rank (kept_at x).leaf ≡ rank → IsOwnNode named leaves x.node → IsOwnAmong named rank leaves x.node
own_among contents named rank [] x stand key h = h
own_among contents named rank (c ∷ leaves) x stand key (inl own) =
    let n = node_of_own (own_node named c) x.node own in
    inl (record { key = (owns contents named c n.0 stand.0 n.1).rank ∙ ap (λ (m : LeafNode). key_rank (node_key m)) n.2 ∙ key; own = own })
own_among contents named rank (c ∷ leaves) x stand key (inr more) = inr (own_among contents named rank leaves x stand.1 key more)

among_own : (named : List Named) (rank : ℕ) (leaves : List Committed) (node : LeafNode) → IsOwnAmong named rank leaves node → IsOwnNode named leaves node
among_own named rank [] node h = h
among_own named rank (c ∷ leaves) node (inl own) = inl own.own
among_own named rank (c ∷ leaves) node (inr more) = inr (among_own named rank leaves node more)

-- what an own node is shows something
own_shows : (contents : ℕ → List ℕ) (named : List Named) (leaves : List Committed) (node : LeafNode) → AllByRecursion (FoundStands contents) leaves → IsOwnNode named leaves node → is_shown (shown node) ≡ true
own_shows contents named [] node stand h = absurd h
own_shows contents named (c ∷ leaves) node stand (inl own) =
    let n = node_of_own (own_node named c) node own in
    ap (λ (m : LeafNode). is_shown (shown m)) (sym n.2) ∙ (owns contents named c n.0 stand.0 n.1).shows
own_shows contents named (c ∷ leaves) node stand (inr more) = own_shows contents named leaves node stand.1 more

no_key : (b : Bool) (key : Key) → if_set b key ≡ None → b ≡ false
no_key true key e = absurd cc
no_key false key e = refl

a_key : (b : Bool) (key found : Key) → if_set b key ≡ Some found → (b ≡ true) × (found ≡ key)
a_key true key found e = (refl, cc)
a_key false key found e = absurd cc

-- a node without a key is none
pub no_copy : (contents : ℕ → List ℕ) (parts : Parts) (references : List RefNode) (committed : List CommittedLeaf) (copy : JournalNode) (x : Placed) → AreCommittedTold contents parts.named parts.committed references committed → IsPlacedIn contents x → copy ≡ told x
    → key_told copy.content ≡ None → DecidesCopy parts x false
no_copy contents parts references committed copy x read placed is none h =
    let hidden = no_key (is_shown (shown x.node)) (node_key x.node) (sym (ap (λ (c : JournalNode). key_told c.content) is ∙ told_key x.node placed.is.is) ∙ none) in
    elim h [
      | inl own ↦ false≢true (sym hidden ∙ own_shows contents parts.named parts.committed x.node read.stand own)
      | inr lost ↦ false≢true (sym hidden ∙ (and_parts (is_shown (shown x.node)) _ lost).0)
    ]

-- what is read at its place is its node
pub node_there : IsOneNode → (contents : ℕ → List ℕ) → ((k : ℕ) → IsBytes (contents k)) → (copy : JournalNode) (x : Placed) (found : Option StoredNode) → copy ≡ told x → IsPlacedIn contents x → IsStoredIn (take copy.len (drop copy.offs (contents copy.lnum))) found
    → option_map leaf_node found ≡ Some x.node
node_there one contents fits copy x found is placed read =
    let P : JournalNode → Type 0 = λ c. IsStoredIn (take c.len (drop c.offs (contents c.lnum))) found in
    read_is one (take x.len (drop x.offs (contents x.lnum))) x.sqnum x.group x.node found (part_bytes x.offs x.len (contents x.lnum) (fits x.lnum)) placed.is (subst P is read)

-- its key's rank, and that it shows something
pub record HasRank (x : Placed) (rank : ℕ) : Type 0 where
  pub shows : is_shown (shown x.node) ≡ true
  pub key : leaf_rank (kept_at x).leaf ≡ rank

pub rank_is : (contents : ℕ → List ℕ) (copy : JournalNode) (x : Placed) (key : Key) (rank : ℕ) → IsPlacedIn contents x → copy ≡ told x → key_told copy.content ≡ Some key → rank ≡ key_rank key → HasRank x rank
rank_is contents copy x key rank placed is some e =
    let p = a_key (is_shown (shown x.node)) (node_key x.node) key (sym (ap (λ (c : JournalNode). key_told c.content) is ∙ told_key x.node placed.is.is) ∙ some) in
    record { shows = p.0; key = ap key_rank (sym p.1) ∙ sym e }

-- whether a committed leaf of this rank has no own node
abbrev is_lost : List Named → ℕ → Committed → Bool
is_lost named rank c = not (is_some (own_node named c)) && (leaf_rank c.leaf == rank)

swapped : (a b : Bool) → (a && b) ≡ (b && a)
swapped true true = refl
swapped true false = refl
swapped false true = refl
swapped false false = refl

lost_told : (contents : ℕ → List ℕ) (references : List RefNode) (named : List Named) (rank : ℕ) (leaves : List Committed) → named ≡ map named_by_ref_node references → AllByRecursion (FoundStands contents) leaves
    → list_any (is_lost_at references rank) (map told_committed leaves) ≡ list_any (is_lost named rank) leaves
lost_told contents references named rank [] log stand = refl
lost_told contents references named rank (c ∷ leaves) log stand =
    let one : is_lost_at references rank (told_committed c) ≡ is_lost named rank c =
    ap (λ t. (leaf_rank c.leaf == rank) && not t) (has_own contents references named c log stand.0) ∙ swapped (leaf_rank c.leaf == rank) (not (is_some (own_node named c))) in
    ap (λ t. t || list_any (is_lost_at references rank) (map told_committed leaves)) one
    ∙ ap (λ t. is_lost named rank c || t) (lost_told contents references named rank leaves log stand.1)

lost_is : (contents : ℕ → List ℕ) (parts : Parts) (references : List RefNode) (committed : List CommittedLeaf) (x : Placed) (rank : ℕ) (lost : Bool) → AreCommittedTold contents parts.named parts.committed references committed → HasRank x rank
    → lost ≡ list_any (is_lost_at references rank) committed
    → lost ≡ (is_shown (shown x.node) && list_any (λ c. not (is_some (own_node parts.named c)) && (leaf_rank c.leaf == leaf_rank (kept_at x).leaf)) parts.committed)
lost_is contents parts references committed x rank lost read has e =
    e ∙ ap (list_any (is_lost_at references rank)) read.told_leaves ∙ lost_told contents references parts.named rank parts.committed read.log read.stand
    ∙ ap (λ r. list_any (is_lost parts.named r) parts.committed) (sym has.key)
    ∙ ap (λ t. t && list_any (is_lost parts.named (leaf_rank (kept_at x).leaf)) parts.committed) (sym has.shows)

-- a copy of a leaf whose own node can't be read
pub lost_copy : (contents : ℕ → List ℕ) (parts : Parts) (references : List RefNode) (committed : List CommittedLeaf) (x : Placed) (rank : ℕ) (lost : Bool) → AreCommittedTold contents parts.named parts.committed references committed → HasRank x rank
    → lost ≡ list_any (is_lost_at references rank) committed → lost ≡ true → DecidesCopy parts x true
lost_copy contents parts references committed x rank lost read has e said = inr (sym (lost_is contents parts references committed x rank lost read has e) ∙ said)

-- else it is one if it is an own node
pub own_copy : (contents : ℕ → List ℕ) (parts : Parts) (references : List RefNode) (committed : List CommittedLeaf) (x : Placed) (rank : ℕ) (lost is : Bool) (node : LeafNode) → AreCommittedTold contents parts.named parts.committed references committed → HasRank x rank
    → lost ≡ list_any (is_lost_at references rank) committed → lost ≡ false → node ≡ x.node → (IsTrue is ↔ IsOwnAmong parts.named rank parts.committed node) → DecidesCopy parts x is
own_copy contents parts references committed x rank lost is node read has e other same tests = by is (subst (λ n. IsTrue is ↔ IsOwnAmong parts.named rank parts.committed n) same tests)
  where
    by : (b : Bool) → (IsTrue b ↔ IsOwnAmong parts.named rank parts.committed x.node) → DecidesCopy parts x b
    by true t = inl (among_own parts.named rank parts.committed x.node (t.0 refl))
    by false t = λ h. elim h [
      | inl own ↦ false≢true (t.1 (own_among contents parts.named rank parts.committed x read.stand has.key own))
      | inr found ↦ false≢true (sym other ∙ lost_is contents parts references committed x rank lost read has e ∙ found)
    ]

-- ---- one of the collector's nodes after another
-- one of these nodes is no copy
abbrev pub IsFalseIn : Parts → List Placed → Wrong → Type 0
IsFalseIn parts nodes at = (x : Placed) × IsOneOf x nodes × (IsCopy parts x → ⊥) × (at ≡ wrong_node x)

pub record FalseSoFar (contents : ℕ → List ℕ) (parts : Parts) (left : List JournalNode) (first : Option WrongValue) : Type 0 where
  pub done : List Placed
  pub rest : List Placed
  pub all : done ++ rest ≡ parts.copies
  pub told_rest : left ≡ map told rest
  pub stand : AllByRecursion (IsPlacedIn contents) rest
  pub wrong : IsFirstOf (IsFalseIn parts done) first
  pub right : IfNone first (AllByRecursion (IsCopy parts) done)

pub false_start : (contents : ℕ → List ℕ) (parts : Parts) (references : List RefNode) (committed : List CommittedLeaf) (copies : List JournalNode) → ArePartsTold contents parts references committed copies → FalseSoFar contents parts copies None
false_start contents parts references committed copies read = record {
  done = [];
  rest = parts.copies;
  all = refl;
  told_rest = read.told_copies;
  stand = read.stand;
  wrong = λ at wrong. one_of_none wrong.0 wrong.1;
  right = tt;
}

first_node : (first : JournalNode) (more : List JournalNode) (nodes : List Placed) → first ∷ more ≡ map told nodes → (x : Placed) × (rest : List Placed) × (nodes ≡ x ∷ rest) × (first ≡ told x) × (more ≡ map told rest)
first_node first more [] e = absurd cc
first_node first more (x ∷ rest) e = (x, rest, refl, cc, cc)

no_node : (nodes : List Placed) → [] ≡ map told nodes → nodes ≡ []
no_node [] e = refl
no_node (x ∷ rest) e = absurd cc

copy_here : (parts : Parts) (done : List Placed) (x : Placed) (first : Option WrongValue) → DecidesCopy parts x true → IsFirstOf (IsFalseIn parts done) first → IsFirstOf (IsFalseIn parts (done ++ x ∷ [])) first
copy_here parts done x first is h = first_same (IsFalseIn parts done) (IsFalseIn parts (done ++ x ∷ [])) first
    (λ at w. (w.0, in_front w.0 x done w.1, w.2, w.3))
    (λ at w. elim (front_or_end w.0 x done w.1) [
      | inl there ↦ (w.0, there, w.2, w.3)
      | inr e ↦ absurd (w.2 (subst (IsCopy parts) (sym e) is))
    ]) h

false_here : (parts : Parts) (done : List Placed) (x : Placed) (first next : Option WrongValue) → DecidesCopy parts x false → next ≡ sooner_of first (Some (wrong_node_told (told x))) → IsFirstOf (IsFalseIn parts done) first → IsFirstOf (IsFalseIn parts (done ++ x ∷ [])) next
false_here parts done x first next none e h =
    let Q : Wrong → Type 0 = λ at. at ≡ wrong_node x in
    let here = first_alone Q (wrong_node_told (told x)) (wrong_is x) (λ at w. w ∙ sym (wrong_is x)) in
    subst (IsFirstOf (IsFalseIn parts (done ++ x ∷ []))) (sym e)
    (first_same (λ at. IsFalseIn parts done at ⊎ Q at) (IsFalseIn parts (done ++ x ∷ [])) (sooner_of first (Some (wrong_node_told (told x))))
    (λ at w. elim w [ inl old ↦ (old.0, in_front old.0 x done old.1, old.2, old.3) | inr is ↦ (x, is_one_at_end x done, none, is) ])
    (λ at w. elim (front_or_end w.0 x done w.1) [
      | inl there ↦ inl (w.0, there, w.2, w.3)
      | inr same ↦ inr (w.3 ∙ ap wrong_node same)
    ])
    (first_of_both (IsFalseIn parts done) Q first (Some (wrong_node_told (told x))) h here))

pub copy_next : (contents : ℕ → List ℕ) (parts : Parts) (left more : List JournalNode) (copy : JournalNode) (first : Option WrongValue) → left ≡ copy ∷ more
    → ((x : Placed) → IsPlacedIn contents x → copy ≡ told x → DecidesCopy parts x true) → FalseSoFar contents parts left first → FalseSoFar contents parts more first
copy_next contents parts left more copy first cut is before =
    let (x, rest, e, here, further) = first_node copy more before.rest (sym cut ∙ before.told_rest) in
    let stand = subst (AllByRecursion (IsPlacedIn contents)) e before.stand in
    record {
      done = before.done ++ x ∷ [];
      rest = rest;
      all = append_assoc before.done (x ∷ []) rest ∙ ap (λ ys. before.done ++ ys) (sym e) ∙ before.all;
      told_rest = further;
      stand = stand.1;
      wrong = copy_here parts before.done x first (is x stand.0 here) before.wrong;
      right = right_more first (AllByRecursion (IsCopy parts) before.done) (AllByRecursion (IsCopy parts) (before.done ++ x ∷ [])) (λ all. all_end (IsCopy parts) before.done x all (is x stand.0 here)) before.right;
    }

pub false_next : (contents : ℕ → List ℕ) (parts : Parts) (left more : List JournalNode) (copy : JournalNode) (first next : Option WrongValue) → left ≡ copy ∷ more → next ≡ sooner_of first (Some (wrong_node_told copy))
    → ((x : Placed) → IsPlacedIn contents x → copy ≡ told x → DecidesCopy parts x false) → FalseSoFar contents parts left first → FalseSoFar contents parts more next
false_next contents parts left more copy first next cut sooner is before =
    let (x, rest, e, here, further) = first_node copy more before.rest (sym cut ∙ before.told_rest) in
    let stand = subst (AllByRecursion (IsPlacedIn contents)) e before.stand in
    record {
      done = before.done ++ x ∷ [];
      rest = rest;
      all = append_assoc before.done (x ∷ []) rest ∙ ap (λ ys. before.done ++ ys) (sym e) ∙ before.all;
      told_rest = further;
      stand = stand.1;
      wrong = false_here parts before.done x first next (is x stand.0 here) (sooner ∙ ap (λ (c : JournalNode). sooner_of first (Some (wrong_node_told c))) here) before.wrong;
      right = subst (λ (o : Option WrongValue). IfNone o (AllByRecursion (IsCopy parts) (before.done ++ x ∷ []))) (sym sooner) (right_never first (wrong_node_told copy) (AllByRecursion (IsCopy parts) (before.done ++ x ∷ [])));
    }

pub false_end : (contents : ℕ → List ℕ) (parts : Parts) (left : List JournalNode) (first : Option WrongValue) → left ≡ [] → FalseSoFar contents parts left first → IsFirstOf (IsFalseCopy parts) first
false_end contents parts left first none before =
    let e : before.done ≡ parts.copies = sym (append-nil before.done) ∙ ap (λ ys. before.done ++ ys) (sym (no_node before.rest (sym none ∙ before.told_rest))) ∙ before.all in
    subst (λ nodes. IsFirstOf (IsFalseIn parts nodes) first) e before.wrong

-- where none is false, all are copies
pub right_end : (contents : ℕ → List ℕ) (parts : Parts) (left : List JournalNode) (first : Option WrongValue) → left ≡ [] → FalseSoFar contents parts left first → IfNone first (All (IsCopy parts) parts.copies)
right_end contents parts left first none before =
    let e : before.done ≡ parts.copies = sym (append-nil before.done) ∙ ap (λ ys. before.done ++ ys) (sym (no_node before.rest (sym none ∙ before.told_rest))) ∙ before.all in
    right_more first (AllByRecursion (IsCopy parts) before.done) (All (IsCopy parts) parts.copies) (λ all. All-from_recursion (IsCopy parts) parts.copies (subst (AllByRecursion (IsCopy parts)) e all)) before.right

-- ---- contents that are the same
placed_moved : (a b : ℕ → List ℕ) → ((k : ℕ) → b k ≡ a k) → (node : Placed) → IsPlacedIn a node → IsPlacedIn b node
placed_moved a b e node h =
    let P : List ℕ → Type 0 = λ leb. node.offs + node.len ≤ length leb in
    let Q : List ℕ → Type 0 = λ leb. IsLeafNode (take node.len (drop node.offs leb)) node.sqnum node.group node.node in
    record { room = subst P (sym (e node.lnum)) h.room; is = subst Q (sym (e node.lnum)) h.is }

pub placed_kept : (a b : ℕ → List ℕ) → ((k : ℕ) → b k ≡ a k) → (node : Placed) → IsPlacedIn a node → IsPlacedIn b node
placed_kept a b e node h = placed_moved a b e node h

pub found_kept : (a b : ℕ → List ℕ) → ((k : ℕ) → b k ≡ a k) → (c : Committed) → FoundStands a c → FoundStands b c
found_kept a b e c h = by c.found h
  where
    by : (o : Option Placed) → FoundStands a (record { leaf = c.leaf; found = o }) → FoundStands b (record { leaf = c.leaf; found = o })
    by None stands = stands
    by (Some node) stands = placed_moved a b e node stands

pub all_kept : (a b : ℕ → List ℕ) → ((k : ℕ) → b k ≡ a k) → (leaves : List Committed) → AllByRecursion (FoundStands a) leaves → AllByRecursion (FoundStands b) leaves
all_kept a b e [] h = tt
all_kept a b e (c ∷ leaves) h = (found_kept a b e c h.0, all_kept a b e leaves h.1)

pub read_kept : (a b : ℕ → List ℕ) → ((k : ℕ) → b k ≡ a k) → (named : List Named) (leaves : List Committed) (references : List RefNode) (committed : List CommittedLeaf) → AreCommittedTold a named leaves references committed → AreCommittedTold b named leaves references committed
read_kept a b e named leaves references committed h = record { log = h.log; told_leaves = h.told_leaves; stand = all_kept a b e leaves h.stand }
