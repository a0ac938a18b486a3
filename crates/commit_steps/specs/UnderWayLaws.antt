-- What a commit in steps comes to, whatever else is done between its steps.
use Rattle.std.proofs.Common.{◌≡◌, ℕ, ◌+◌, ◌-◌, ◌<◌, ◌≤◌, true, List, [], ◌∷◌, ◌++◌, length, take, drop, map, refl, ap, sym, ◌∙◌, subst, arith, inl, inr}
use Rattle.std.specs.Prelude.{◌⊎◌, ◌&&◌, Bool, false, Option, None, Some, All}
use Rattle.std.proofs.lemmas.Bool.{cases_eq}
use Rattle.std.proofs.lemmas.List.Elements.{All-cons, All-head, All-nil, All-tail, All-weaker}
use Rattle.ubifs_base.specs.declared.key.Key.{Key}
use Rattle.ubifs_base.specs.declared.raw_geometry.RawGeometry.{RawGeometry}
use Rattle.index_media.specs.Clean.{is_clean_row, node_branch, placed_of}
use Rattle.index_media.specs.KeyedRow.{KeyedRow, no_more, leaf_in, node_in, all_clean}
use Rattle.index_media.specs.PlacedRow.{PlacedRow, Stretch, all_nodes, branches_of, lebs_of}
use Rattle.index_media.specs.Standing.{AreStandingAs, OfClean, StandsAs}
use Rattle.index_media.specs.Stored.{IsIndexNodeAt, IsStoredIndex}
use Rattle.media_sys.specs.Index.{Index}
use Rattle.media_sys.specs.SystemNode.{IsSystemNode, index as index_node}
use Rattle.media_sys.specs.declared.branch.Branch.{Branch}
use Rattle.node_cache.specs.OnVolume.{IsOnVolume}
use Rattle.table_nodes.specs.NodeView.{tree_at}
use Rattle.node_table.specs.Placing.{KeepsPlaces}
use Rattle.table_nodes.specs.declared.node.Root.{Root}
use Rattle.ubi_volume.specs.Frame.{Elsewhere, Works}
use Rattle.ubi_volume.specs.FrameLaws.{IsSameLeb-keeps, IsSameLeb-none, IsSameLeb-then, Only-same, Works-on}
use Rattle.ubi_volume.specs.Volume.{VolumeState, Keeps, Leaves, Only, UnderWay, WorksOn}
use Rattle.ubi_volume.specs.VolumeLaws.{Leaves-keeps, Leaves-more, Leaves-none, Leaves-then}
use Rattle.index_cache.specs.Paged.{dirty_of, frozen_of, keyed_tree_of}
use Rattle.index_cache.specs.declared.paged.PagedIndex.{PagedIndex}
use Rattle.index_commit.specs.Lebs.{AreLebsApart, IsGiven}
use Rattle.index_commit.specs.LebTexts.{IsLebOf, firsts, nodes_written, said_by}
use Rattle.index_commit.specs.Rooms.{Room}
use Rattle.index_commit.specs.Standing.{AreOutside, IsOutside}
use Rattle.index_commit.specs.Written.{AreStanding, IsIndexKept, IsIndexTaken, WorksInLebs}
use Rattle.commit_steps.specs.UnderWay.{AreSettledLebs, AreWithinLebs, IsCommitUnderWay, IsSeenWithin, IsWithinLebs, WorksBeside}

-- ---- LEBs
-- a LEB is one of these, or it isn't
is_given : (lebs : List ℕ) (k : ℕ) → IsGiven lebs k ⊎ (IsGiven lebs k → ⊥)
is_given [] k = inr (λ g. g)
is_given (lnum ∷ lebs) k = elim (cases_eq k lnum) [
  | inl e ↦ inl (inl e)
  | inr ne ↦ elim (is_given lebs k) [
    | inl g ↦ inl (inr g)
    | inr out ↦ inr (λ g. elim g [ inl e ↦ ne e | inr h ↦ out h ])
  ]
]

pub given_front : (xs ys : List ℕ) (k : ℕ) → IsGiven xs k → IsGiven (xs ++ ys) k
given_front [] ys k h = absurd h
given_front (x ∷ xs) ys k (inl e) = inl e
given_front (x ∷ xs) ys k (inr h) = inr (given_front xs ys k h)

pub given_behind : (xs ys : List ℕ) (k : ℕ) → IsGiven ys k → IsGiven (xs ++ ys) k
given_behind [] ys k h = h
given_behind (x ∷ xs) ys k h = inr (given_behind xs ys k h)

pub given_of : (xs ys : List ℕ) (k : ℕ) → IsGiven (xs ++ ys) k → IsGiven xs k ⊎ IsGiven ys k
given_of [] ys k h = inr h
given_of (x ∷ xs) ys k (inl e) = inl (inl e)
given_of (x ∷ xs) ys k (inr h) = elim (given_of xs ys k h) [
  | inl one ↦ inl (inr one)
  | inr other ↦ inr other
]

pub all_given : (P : ℕ → Type 0) (xs : List ℕ) → All P xs → (k : ℕ) → IsGiven xs k → P k
all_given P [] all k given = absurd given
all_given P (x ∷ xs) all k (inl e) = subst P (sym e) (All-head P x xs all)
all_given P (x ∷ xs) all k (inr h) = all_given P xs (All-tail P x xs all) k h

pub given_all : (P : ℕ → Type 0) (xs : List ℕ) → ((k : ℕ) → IsGiven xs k → P k) → All P xs
given_all P [] f = All-nil P
given_all P (x ∷ xs) f = All-cons P x xs (f x (inl refl)) (given_all P xs (λ k one. f k (inr one)))

-- ---- nodes that stand still do
node_moved : (old new : ℕ → List ℕ) (branch : Branch) (said : Index) → new branch.lnum ≡ old branch.lnum → IsIndexNodeAt old branch said → IsIndexNodeAt new branch said
node_moved old new branch said e h =
    let P : List ℕ → Type 0 = λ leb. branch.offs + branch.len ≤ length leb in
    let Q : List ℕ → Type 0 = λ leb. IsSystemNode (take branch.len (drop branch.offs leb)) h.sqnum h.group (index_node said) in
    record { sqnum = h.sqnum; group = h.group; room = subst P (sym e) h.room; is = subst Q (sym e) h.is }

-- what holds of clean nodes says more of them
abbrev Moves : (ℕ → List ℕ) → (ℕ → List ℕ) → (Stretch → ℕ → ℕ → Type 0) → (Stretch → ℕ → ℕ → Type 0) → Type 0
Moves old new P Q = (s : Stretch) (n g : ℕ) → P s n g → (new s.lnum ≡ old s.lnum) × Q s n g

stands_moved : (old new : ℕ → List ℕ) (P Q : Stretch → ℕ → ℕ → Type 0) (key : Key) (place : Stretch) (children : KeyedRow) → Moves old new P Q → StandsAs old P key place children → StandsAs new Q key place children
unfolding node_moved
stands_moved old new P Q key place children f h =
    let both = f place h.node.sqnum h.node.group h.holds in
    record {
      clean = h.clean;
      level = h.level;
      levels = h.levels;
      node = node_moved old new (node_branch key (Some place)) (record { level = h.level; branches = branches_of (placed_of children) }) both.0 h.node;
      holds = both.1;
    }

own_moved : (old new : ℕ → List ℕ) (P Q : Stretch → ℕ → ℕ → Type 0) (key : Key) (place : Option Stretch) (children : KeyedRow) → Moves old new P Q → OfClean (StandsAs old P) key place children → OfClean (StandsAs new Q) key place children
own_moved old new P Q key None children f h = tt
own_moved old new P Q key (Some s) children f h = stands_moved old new P Q key s children f h

row_moved : (old new : ℕ → List ℕ) (P Q : Stretch → ℕ → ℕ → Type 0) (row : KeyedRow) → Moves old new P Q → AreStandingAs old P row → AreStandingAs new Q row
row_moved old new P Q no_more f h = tt
row_moved old new P Q (leaf_in x rest) f h = row_moved old new P Q rest f h
row_moved old new P Q (node_in key place children rest) f h = (own_moved old new P Q key place children f h.0, row_moved old new P Q children f h.1, row_moved old new P Q rest f h.2)

-- nodes within LEBs of a volume stand on it
pub within_there : (state : VolumeState) (lebs : List ℕ) (row : KeyedRow) → ((k : ℕ) → IsGiven lebs k → k < state.leb_cnt) → AreWithinLebs state.holds lebs row → IsOnVolume state row
within_there state lebs row there h = row_moved state.holds state.holds (IsWithinLebs lebs) (λ place sqnum group. place.lnum < state.leb_cnt) row (λ s n g given. (refl, there s.lnum given)) h

-- ---- nodes within some LEBs are outside of others
pub outside_of : (contents : ℕ → List ℕ) (lebs others : List ℕ) (row : KeyedRow) → AreLebsApart lebs others → AreWithinLebs contents lebs row → AreOutside contents others row
outside_of contents lebs others row two h = row_moved contents contents (IsWithinLebs lebs) (IsOutside others) row (λ s n g given. (refl, λ other. two s.lnum given other)) h

-- the other way round, where they are outside of all others
abbrev pub AreOutsideOthers : (ℕ → List ℕ) → List ℕ → KeyedRow → Type 0
AreOutsideOthers contents lebs row = (others : List ℕ) → AreLebsApart lebs others → AreOutside contents others row

own_within : (contents : ℕ → List ℕ) (lebs : List ℕ) (key : Key) (place : Option Stretch) (children : KeyedRow)
    → ((others : List ℕ) → AreLebsApart lebs others → OfClean (StandsAs contents (IsOutside others)) key place children) → OfClean (StandsAs contents (IsWithinLebs lebs)) key place children
own_within contents lebs key None children f = tt
own_within contents lebs key (Some s) children f =
    let one = f [] (λ k a b. b) in
    elim (is_given lebs s.lnum) [
      | inl g ↦ record { clean = one.clean; level = one.level; levels = one.levels; node = one.node; holds = g }
      | inr out ↦
          let G : ℕ → Type 0 = λ m. IsGiven lebs m in
          let two : AreLebsApart lebs (s.lnum ∷ []) = λ k a b. elim b [ inl e ↦ out (subst G e a) | inr n ↦ n ] in
          absurd ((f (s.lnum ∷ []) two).holds (inl refl))
    ]

pub within_of : (contents : ℕ → List ℕ) (lebs : List ℕ) (row : KeyedRow) → AreOutsideOthers contents lebs row → AreWithinLebs contents lebs row
within_of contents lebs no_more f = tt
within_of contents lebs (leaf_in x rest) f = within_of contents lebs rest f
within_of contents lebs (node_in key place children rest) f = (
  own_within contents lebs key place children (λ others two. (f others two).0),
  within_of contents lebs children (λ others two. (f others two).1),
  within_of contents lebs rest (λ others two. (f others two).2),
)

-- ---- before a commit
-- an index that is loaded from settled LEBs, where its nodes stand outside of all others
pub index_loaded : (state : VolumeState) (placed : PlacedRow) (index : PagedIndex) → ((others : List ℕ) → All (λ k. IsGiven others k → ⊥) (lebs_of placed) → AreOutside state.holds others (all_clean placed))
    → keyed_tree_of index ≡ all_clean placed → AreSettledLebs state (lebs_of placed) → IsSeenWithin state (lebs_of placed) index
index_loaded state placed index stands loaded settled =
    let lebs : List ℕ = lebs_of placed in
    let W : KeyedRow → Type 0 = λ r. AreWithinLebs state.holds lebs r in
    record {
      settled = settled;
      seen = subst W (sym loaded) (within_of state.holds lebs (all_clean placed) (λ others two. stands others (given_all (λ k. IsGiven others k → ⊥) lebs (λ k one other. two k one other))));
    }

-- a change of the index that is seen
pub seen_changed : (state : VolumeState) (lebs : List ℕ) (a b : PagedIndex) → ((others : List ℕ) → AreOutside state.holds others (keyed_tree_of a) → AreOutside state.holds others (keyed_tree_of b))
    → IsSeenWithin state lebs a → IsSeenWithin state lebs b
seen_changed state lebs a b keeps h =
    record { settled = h.settled; seen = within_of state.holds lebs (keyed_tree_of b) (λ others two. keeps others (outside_of state.holds lebs others (keyed_tree_of a) two h.seen)) }

-- ---- a commit begins
pub commit_begun : (state : VolumeState) (kept : List ℕ) (a b : PagedIndex) → frozen_of b ≡ keyed_tree_of a → keyed_tree_of b ≡ keyed_tree_of a → IsSeenWithin state kept a → IsCommitUnderWay state kept [] b
commit_begun state kept a b frozen seen h =
    let W : KeyedRow → Type 0 = λ r. AreWithinLebs state.holds kept r in
    record {
      settled = h.settled;
      frozen = subst W (sym frozen) h.seen;
      seen = subst W (sym seen) h.seen;
      shared = λ others two out. let O : KeyedRow → Type 0 = λ r. AreOutside state.holds others r in subst O (frozen ∙ sym seen) out;
    }

-- ---- one LEB more
-- the clean nodes below a root after a step
step_within : (old new : VolumeState) (lnum i j : ℕ) (lebs : List ℕ) (a b : PagedIndex) (root : Option Root) → (IsGiven lebs lnum → ⊥) → AreStanding old new (lnum ∷ []) a b i j
    → AreWithinLebs old.holds lebs (tree_at a.table.nodes.items root) → AreWithinLebs new.holds (lnum ∷ lebs) (tree_at b.table.nodes.items root)
step_within old new lnum i j lebs a b root apart standing h =
    let G : ℕ → Type 0 = λ m. IsGiven lebs m in
    within_of new.holds (lnum ∷ lebs) (tree_at b.table.nodes.items root) (λ others two.
    let new_apart : AreLebsApart (lnum ∷ []) others = λ k one other. elim one [ inl e ↦ two k (inl e) other | inr none ↦ none ] in
    let old_apart : AreLebsApart lebs (lnum ∷ others) = λ k one other. elim other [ inl e ↦ apart (subst G e one) | inr more ↦ two k (inr one) more ] in
    standing.nodes others root new_apart (outside_of old.holds lebs (lnum ∷ others) (tree_at a.table.nodes.items root) old_apart h))

-- a frozen node that was clean before the step stood outside of what it stands outside of after it
own_before : (old new : ℕ → List ℕ) (lnum : ℕ) (lebs others : List ℕ) (key : Key) (place now : Option Stretch) (children children' : KeyedRow) → (IsGiven lebs lnum → ⊥) → (now ≡ place) ⊎ (place ≡ None)
    → OfClean (StandsAs old (IsWithinLebs lebs)) key place children → OfClean (StandsAs new (IsOutside others)) key now children' → OfClean (StandsAs old (IsOutside (lnum ∷ others))) key place children
own_before old new lnum lebs others key None now children children' apart same h out = tt
own_before old new lnum lebs others key (Some s) now children children' apart (inr none) h out = absurd cc
own_before old new lnum lebs others key (Some s) now children children' apart (inl e) h out =
    let O : Option Stretch → Type 0 = λ o. OfClean (StandsAs new (IsOutside others)) key o children' in
    let there = subst O e out in
    let G : ℕ → Type 0 = λ m. IsGiven lebs m in
    record {
      clean = h.clean;
      level = h.level;
      levels = h.levels;
      node = h.node;
      holds = λ given. elim given [ inl same ↦ apart (subst G same h.holds) | inr more ↦ there.holds more ];
    }

row_before : (old new : ℕ → List ℕ) (lnum : ℕ) (lebs others : List ℕ) (row now : KeyedRow) → (IsGiven lebs lnum → ⊥) → KeepsPlaces row now → AreWithinLebs old lebs row → AreOutside new others now
    → AreOutside old (lnum ∷ others) row
row_before old new lnum lebs others no_more now apart kept h out = tt
row_before old new lnum lebs others (leaf_in x rest) now apart kept h out = row_before old new lnum lebs others rest kept.0 apart kept.2 h (subst (AreOutside new others) kept.1 out)
row_before old new lnum lebs others (node_in key place children rest) now apart kept h out =
    let parts = subst (AreOutside new others) kept.3 out in (
      own_before old new lnum lebs others key place kept.0 children kept.1 apart kept.4 h.0 parts.0,
      row_before old new lnum lebs others children kept.1 apart kept.5 h.1 parts.1,
      row_before old new lnum lebs others rest kept.2 apart kept.6 h.2 parts.2,
    )

-- the LEBs are settled
step_settled : (old new : VolumeState) (lnum : ℕ) (lebs : List ℕ) → (IsGiven lebs lnum → ⊥) → WorksInLebs old new (lnum ∷ []) → Only (new.holds lnum) (new.left_now lnum) → AreSettledLebs old lebs
    → AreSettledLebs new (lnum ∷ lebs)
step_settled old new lnum lebs apart works only settled k given = elim given [
  | inl e ↦ let P : ℕ → Type 0 = λ m. Only (new.holds m) (new.left_now m) in subst P (sym e) only
  | inr more ↦
      let G : ℕ → Type 0 = λ m. IsGiven lebs m in
      Only-same old new k (settled k more) (works.others k (λ one. elim one [ inl e ↦ apart (subst G e more) | inr none ↦ none ]))
]

-- A step of a commit: what is written to a LEB that is none of those before it leads on.
pub commit_stepped : (old new : VolumeState) (kept given : List ℕ) (lnum i j : ℕ) (a b : PagedIndex) → (IsGiven (given ++ kept) lnum → ⊥) → IsIndexKept a b → AreStanding old new (lnum ∷ []) a b i j
    → WorksInLebs old new (lnum ∷ []) → Only (new.holds lnum) (new.left_now lnum) → IsCommitUnderWay old kept given a → IsCommitUnderWay new kept (lnum ∷ given) b
commit_stepped old new kept given lnum i j a b apart index standing works only h =
    let lebs : List ℕ = given ++ kept in
    let W : Option Root → Type 0 = λ root. AreWithinLebs new.holds (lnum ∷ lebs) (tree_at b.table.nodes.items root) in
    record {
      settled = step_settled old new lnum lebs apart works only h.settled;
      frozen = subst W (sym index.roots.frozen) (step_within old new lnum i j lebs a b a.frozen apart standing h.frozen);
      seen = subst W (sym index.roots.root) (step_within old new lnum i j lebs a b a.root apart standing h.seen);
      shared = λ others two out.
          let O : Option Root → Type 0 = λ root. AreOutside new.holds others (tree_at b.table.nodes.items root) in
          let G : ℕ → Type 0 = λ m. IsGiven given m in
          let before = row_before old.holds new.holds lnum lebs others (frozen_of a) (frozen_of b) apart index.frozen h.frozen out in
          let old_apart : AreLebsApart given (lnum ∷ others) = λ k one other. elim other [ inl e ↦ apart (given_front given kept lnum (subst G e one)) | inr more ↦ two k (inr one) more ] in
          let new_apart : AreLebsApart (lnum ∷ []) others = λ k one other. elim one [ inl e ↦ two k (inl e) other | inr none ↦ none ] in
          subst O (sym index.roots.root) (standing.nodes others a.root new_apart (h.shared (lnum ∷ others) old_apart before));
    }

-- what is written to a LEB settles it
said_long : (paged : PagedIndex) (numbers : List ℕ) → length (said_by paged numbers) ≡ length numbers
said_long paged [] = refl
said_long paged (n ∷ numbers) = let more = said_long paged numbers in omega (arith, more)

some_written : {room : ℕ → Room} (a b : PagedIndex) (i j : ℕ) → IsIndexTaken room a b i j → i < j → 0 < length (nodes_written a b (j - i))
some_written a b i j taken less =
    let number = taken.number in
    let count : j - i ≡ length taken.numbers = omega (arith, number) in
    let same : firsts (j - i) (dirty_of a) ≡ taken.numbers = ap (λ (n : ℕ). firsts n (dirty_of a)) count ∙ taken.firsts in
    let long = said_long b (firsts (j - i) (dirty_of a)) in
    let whole = ap length same in
    omega (arith, long, whole, number, less)

leb_settled : (geo : RawGeometry) (old new : VolumeState) (lnum sqnum : ℕ) (nodes : List Index) → 0 < length nodes → IsLebOf geo old new lnum sqnum nodes → Only (new.holds lnum) (new.left_now lnum)
leb_settled geo old new lnum sqnum [] some h = absurd (omega (arith, some))
leb_settled geo old new lnum sqnum (node ∷ nodes) some h = h.left

-- a step by a call that says which nodes it wrote
pub commit_step : {room : ℕ → Room} (geo : RawGeometry) (old new : VolumeState) (kept given : List ℕ) (lnum i j : ℕ) (a b : PagedIndex) → (IsGiven (given ++ kept) lnum → ⊥) → IsIndexTaken room a b i j → i < j
    → AreStanding old new (lnum ∷ []) a b i j × IsLebOf geo old new lnum i (nodes_written a b (j - i)) → WorksInLebs old new (lnum ∷ []) → IsCommitUnderWay old kept given a → IsCommitUnderWay new kept (lnum ∷ given) b
commit_step geo old new kept given lnum i j a b apart taken less standing works h =
    commit_stepped old new kept given lnum i j a b apart taken.kept standing.0 works (leb_settled geo old new lnum i (nodes_written a b (j - i)) (some_written a b i j taken less) standing.1) h

-- ---- what comes between
-- a change of the index that is seen
pub index_changed : (state : VolumeState) (kept given : List ℕ) (a b : PagedIndex) → ((others : List ℕ) → AreOutside state.holds others (keyed_tree_of a) → AreOutside state.holds others (keyed_tree_of b)) → frozen_of b ≡ frozen_of a
    → IsCommitUnderWay state kept given a → IsCommitUnderWay state kept given b
index_changed state kept given a b keeps frozen h =
    let lebs : List ℕ = given ++ kept in
    let W : KeyedRow → Type 0 = λ r. AreWithinLebs state.holds lebs r in
    record {
      settled = h.settled;
      frozen = subst W (sym frozen) h.frozen;
      seen = within_of state.holds lebs (keyed_tree_of b) (λ others two. keeps others (outside_of state.holds lebs others (keyed_tree_of a) two h.seen));
      shared = λ others two out. let O : KeyedRow → Type 0 = λ r. AreOutside state.holds others r in keeps others (h.shared others two (subst O frozen out));
    }

-- ---- other work
pub WorksBeside-none : (state : VolumeState) (lebs : List ℕ) → WorksBeside state state lebs
WorksBeside-none state lebs = record { same = λ k given. IsSameLeb-none state k; time = Leaves-none state (λ c. (k : ℕ) → IsGiven lebs k → state.left_now k (c k)) }

-- a call that keeps all
pub WorksBeside-keeps : (old new : VolumeState) (lebs : List ℕ) → Keeps old new → WorksBeside old new lebs
WorksBeside-keeps old new lebs keeps = record { same = λ k given. IsSameLeb-keeps old new k keeps; time = Leaves-keeps old new (λ c. (k : ℕ) → IsGiven lebs k → old.left_now k (c k)) keeps }

pub WorksBeside-then : (a b c : VolumeState) (lebs : List ℕ) → WorksBeside a b lebs → WorksBeside b c lebs → WorksBeside a c lebs
WorksBeside-then a b c lebs ab bc =
    let P : (ℕ → List ℕ) → Type 0 = λ x. (k : ℕ) → IsGiven lebs k → a.left_now k (x k) in
    let Q : (ℕ → List ℕ) → Type 0 = λ x. (k : ℕ) → IsGiven lebs k → b.left_now k (x k) in
    record {
      same = λ k given. IsSameLeb-then a b c k (ab.same k given) (bc.same k given);
      time = Leaves-then a b c P Q P (λ x h. h) (λ x h k given. (ab.same k given).left (x k) (h k given)) ab.time bc.time;
    }

-- calls that touch other LEBs
pub WorksBeside-of : (old new : VolumeState) (T : ℕ → Type 0) (P : (ℕ → List ℕ) → Type 0) (lebs : List ℕ) → ((k : ℕ) → IsGiven lebs k → T k → ⊥)
    → ((c : ℕ → List ℕ) → P c → (k : ℕ) → IsGiven lebs k → old.left_now k (c k)) → Works old new T P → WorksBeside old new lebs
WorksBeside-of old new T P lebs apart left works = record {
  same = λ k given. works.others k (apart k given);
  time = Leaves-more old new P (λ c. (k : ℕ) → IsGiven lebs k → old.left_now k (c k)) left works.time;
}

-- a call on another LEB
pub WorksBeside-on : (old new : VolumeState) (lnum : ℕ) (P : List ℕ → Type 0) (lebs : List ℕ) → (IsGiven lebs lnum → ⊥) → WorksOn old new lnum P → WorksBeside old new lebs
WorksBeside-on old new lnum P lebs apart works =
    let G : ℕ → Type 0 = λ m. IsGiven lebs m in
    let two : (k : ℕ) → IsGiven lebs k → k ≡ lnum → ⊥ = λ k given e. apart (subst G e given) in
    WorksBeside-of old new (λ k. k ≡ lnum) (UnderWay old lnum P) lebs two (λ c left k given. left.0 k (two k given)) (Works-on old new lnum P works)

-- a step, beside the LEBs that it isn't given
pub WorksBeside-step : (old new : VolumeState) (lnum : ℕ) (lebs : List ℕ) → (IsGiven lebs lnum → ⊥) → WorksInLebs old new (lnum ∷ []) → WorksBeside old new lebs
WorksBeside-step old new lnum lebs apart works =
    let G : ℕ → Type 0 = λ m. IsGiven lebs m in
    let two : (k : ℕ) → IsGiven lebs k → IsGiven (lnum ∷ []) k → ⊥ = λ k given one. elim one [ inl e ↦ apart (subst G e given) | inr none ↦ none ] in
    WorksBeside-of old new (IsGiven (lnum ∷ [])) (Elsewhere old (IsGiven (lnum ∷ []))) lebs two (λ c left k given. left k (two k given)) works

settled_beside : (old new : VolumeState) (lebs : List ℕ) → WorksBeside old new lebs → AreSettledLebs old lebs → AreSettledLebs new lebs
settled_beside old new lebs works settled k given = Only-same old new k (settled k given) (works.same k given)

-- nodes that stand within some LEBs still do where these hold what they held
pub within_moved : (old new : ℕ → List ℕ) (lebs : List ℕ) (row : KeyedRow) → ((k : ℕ) → IsGiven lebs k → new k ≡ old k) → AreWithinLebs old lebs row → AreWithinLebs new lebs row
within_moved old new lebs row same h = row_moved old new (IsWithinLebs lebs) (IsWithinLebs lebs) row (λ s n g given. (same s.lnum given, given)) h

within_beside : (old new : VolumeState) (lebs : List ℕ) (row : KeyedRow) → WorksBeside old new lebs → AreWithinLebs old.holds lebs row → AreWithinLebs new.holds lebs row
within_beside old new lebs row works h = within_moved old.holds new.holds lebs row (λ k given. (works.same k given).holds) h

-- nodes that stand within these LEBs, and outside of others, in what the LEBs held before
outside_before : (old new : VolumeState) (lebs others : List ℕ) (row : KeyedRow) → WorksBeside old new lebs → AreWithinLebs old.holds lebs row → AreOutside new.holds others row → AreOutside old.holds others row
outside_before old new lebs others no_more works h out = tt
outside_before old new lebs others (leaf_in x rest) works h out = outside_before old new lebs others rest works h out
outside_before old new lebs others (node_in key None children rest) works h out = (tt, outside_before old new lebs others children works h.1 out.1, outside_before old new lebs others rest works h.2 out.2)
outside_before old new lebs others (node_in key (Some s) children rest) works h out = (
  record { clean = h.0.clean; level = h.0.level; levels = h.0.levels; node = h.0.node; holds = out.0.holds },
  outside_before old new lebs others children works h.1 out.1,
  outside_before old new lebs others rest works h.2 out.2,
)

stands_here : (old new : ℕ → List ℕ) (others : List ℕ) (key : Key) (s : Stretch) (children : KeyedRow) → new s.lnum ≡ old s.lnum → StandsAs old (IsOutside others) key s children → StandsAs new (IsOutside others) key s children
unfolding node_moved
stands_here old new others key s children e h = record {
  clean = h.clean;
  level = h.level;
  levels = h.levels;
  node = node_moved old new (node_branch key (Some s)) (record { level = h.level; branches = branches_of (placed_of children) }) e h.node;
  holds = h.holds;
}

outside_beside : (old new : VolumeState) (lebs others : List ℕ) (row : KeyedRow) → WorksBeside old new lebs → AreWithinLebs old.holds lebs row → AreOutside old.holds others row → AreOutside new.holds others row
outside_beside old new lebs others no_more works h out = tt
outside_beside old new lebs others (leaf_in x rest) works h out = outside_beside old new lebs others rest works h out
outside_beside old new lebs others (node_in key None children rest) works h out = (tt, outside_beside old new lebs others children works h.1 out.1, outside_beside old new lebs others rest works h.2 out.2)
outside_beside old new lebs others (node_in key (Some s) children rest) works h out = (
  stands_here old.holds new.holds others key s children (works.same s.lnum h.0.holds).holds out.0,
  outside_beside old new lebs others children works h.1 out.1,
  outside_beside old new lebs others rest works h.2 out.2,
)

-- other work beside the LEBs of a commit
pub commit_beside : (old new : VolumeState) (kept given : List ℕ) (index : PagedIndex) → WorksBeside old new (given ++ kept) → IsCommitUnderWay old kept given index → IsCommitUnderWay new kept given index
commit_beside old new kept given index works h =
    let lebs : List ℕ = given ++ kept in
    record {
      settled = settled_beside old new lebs works h.settled;
      frozen = within_beside old new lebs (frozen_of index) works h.frozen;
      seen = within_beside old new lebs (keyed_tree_of index) works h.seen;
      shared = λ others two out. outside_beside old new lebs others (keyed_tree_of index) works h.seen (h.shared others two (outside_before old new lebs others (frozen_of index) works h.frozen out));
    }

pub seen_beside : (old new : VolumeState) (lebs : List ℕ) (index : PagedIndex) → WorksBeside old new lebs → IsSeenWithin old lebs index → IsSeenWithin new lebs index
seen_beside old new lebs index works h = record { settled = settled_beside old new lebs works h.settled; seen = within_beside old new lebs (keyed_tree_of index) works h.seen }

-- ---- what stood before
-- contents that agree on an index's LEBs hold the same index
abbrev pub DependsOnItsLebs : Type 0
DependsOnItsLebs = (old new : ℕ → List ℕ) (fanout : ℕ) (root : Branch) (placed : PlacedRow) → All (λ k. new k ≡ old k) (lebs_of placed)
    → IsStoredIndex old fanout root placed → IsStoredIndex new fanout root placed

-- an index that stands in settled LEBs beside which work is done stands, and does in what a cut at any moment leaves
pub index_stays : DependsOnItsLebs → (old new : VolumeState) (lebs : List ℕ) (fanout : ℕ) (root : Branch) (placed : PlacedRow) → WorksBeside old new lebs → AreSettledLebs old lebs → All (IsGiven lebs) (lebs_of placed)
    → IsStoredIndex old.holds fanout root placed → IsStoredIndex new.holds fanout root placed × Leaves old new (λ c. IsStoredIndex c fanout root placed)
index_stays depends old new lebs fanout root placed works settled all stored = (
  depends old.holds new.holds fanout root placed (All-weaker (IsGiven lebs) (λ k. new.holds k ≡ old.holds k) (λ k given. (works.same k given).holds) (lebs_of placed) all) stored,
  Leaves-more old new (λ c. (k : ℕ) → IsGiven lebs k → old.left_now k (c k)) (λ c. IsStoredIndex c fanout root placed)
      (λ c left. depends old.holds c fanout root placed (All-weaker (IsGiven lebs) (λ k. c k ≡ old.holds k) (λ k given. settled k given (c k) (left k given)) (lebs_of placed) all) stored) works.time,
)

-- ---- a commit ends
and_left : (a b : Bool) → (a && b) ≡ true → a ≡ true
and_left true b h = refl
and_left false b h = absurd cc

and_right : (a b : Bool) → (a && b) ≡ true → b ≡ true
and_right true b h = h
and_right false b h = absurd cc

abbrev leb_of : Branch → ℕ
leb_of branch = branch.lnum

both_all : (P : ℕ → Type 0) (xs ys : List Branch) → All P (map leb_of xs) → All P (map leb_of ys) → All P (map leb_of (xs ++ ys))
both_all P [] ys h k = k
both_all P (x ∷ xs) ys h k = All-cons P x.lnum (map leb_of (xs ++ ys)) (All-head P x.lnum (map leb_of xs) h) (both_all P xs ys (All-tail P x.lnum (map leb_of xs) h) k)

-- the LEBs of a clean row are among those that its nodes are within
pub clean_lebs : (contents : ℕ → List ℕ) (lebs : List ℕ) (row : KeyedRow) → is_clean_row row ≡ true → AreWithinLebs contents lebs row → All (IsGiven lebs) (lebs_of (placed_of row))
clean_lebs contents lebs no_more c h = All-nil (IsGiven lebs)
clean_lebs contents lebs (leaf_in x rest) c h = clean_lebs contents lebs rest c h
clean_lebs contents lebs (node_in key None children rest) c h = absurd cc
clean_lebs contents lebs (node_in key (Some s) children rest) c h =
    let below = all_nodes (placed_of children) in
    let others = all_nodes (placed_of rest) in
    All-cons (IsGiven lebs) s.lnum (map leb_of (below ++ others)) h.0.holds (both_all (IsGiven lebs) below others
    (clean_lebs contents lebs children (and_left (is_clean_row children) (is_clean_row rest) c) h.1)
    (clean_lebs contents lebs rest (and_right (is_clean_row children) (is_clean_row rest) c) h.2))

given_map_front : (xs ys : List Branch) (k : ℕ) → IsGiven (map leb_of xs) k → IsGiven (map leb_of (xs ++ ys)) k
given_map_front [] ys k h = absurd h
given_map_front (x ∷ xs) ys k (inl e) = inl e
given_map_front (x ∷ xs) ys k (inr h) = inr (given_map_front xs ys k h)

given_map_behind : (xs ys : List Branch) (k : ℕ) → IsGiven (map leb_of ys) k → IsGiven (map leb_of (xs ++ ys)) k
given_map_behind [] ys k h = h
given_map_behind (x ∷ xs) ys k h = inr (given_map_behind xs ys k h)

-- a row whose nodes stand somewhere stands outside of all but its own LEBs
own_outside : (contents : ℕ → List ℕ) (lebs others : List ℕ) (row : KeyedRow) → ((k : ℕ) → IsGiven (lebs_of (placed_of row)) k → IsGiven others k → ⊥) → AreWithinLebs contents lebs row → AreOutside contents others row
own_outside contents lebs others no_more two h = tt
own_outside contents lebs others (leaf_in x rest) two h = own_outside contents lebs others rest two h
own_outside contents lebs others (node_in key None children rest) two h = (
  tt,
  own_outside contents lebs others children (λ k given. two k (inr (given_map_front (all_nodes (placed_of children)) (all_nodes (placed_of rest)) k given))) h.1,
  own_outside contents lebs others rest (λ k given. two k (inr (given_map_behind (all_nodes (placed_of children)) (all_nodes (placed_of rest)) k given))) h.2,
)
own_outside contents lebs others (node_in key (Some s) children rest) two h = (
  record { clean = h.0.clean; level = h.0.level; levels = h.0.levels; node = h.0.node; holds = two s.lnum (inl refl) },
  own_outside contents lebs others children (λ k given. two k (inr (given_map_front (all_nodes (placed_of children)) (all_nodes (placed_of rest)) k given))) h.1,
  own_outside contents lebs others rest (λ k given. two k (inr (given_map_behind (all_nodes (placed_of children)) (all_nodes (placed_of rest)) k given))) h.2,
)

-- the frozen index is clean: of each LEB that it is in a cut leaves what it holds
pub commit_settled : (state : VolumeState) (kept given : List ℕ) (index : PagedIndex) → is_clean_row (frozen_of index) ≡ true → IsCommitUnderWay state kept given index
    → All (λ k. Only (state.holds k) (state.left_now k)) (lebs_of (placed_of (frozen_of index)))
commit_settled state kept given index clean h =
    let lebs : List ℕ = given ++ kept in
    All-weaker (IsGiven lebs) (λ k. Only (state.holds k) (state.left_now k)) h.settled (lebs_of (placed_of (frozen_of index))) (clean_lebs state.holds lebs (frozen_of index) clean h.frozen)

-- All of the index that is seen stands within the LEBs of the one that was written, and those that the commit was given. So each other
-- LEB that was kept is free of it
pub commit_ended : (state : VolumeState) (kept given : List ℕ) (index : PagedIndex) → is_clean_row (frozen_of index) ≡ true → IsCommitUnderWay state kept given index
    → IsSeenWithin state (given ++ lebs_of (placed_of (frozen_of index))) index
commit_ended state kept given index clean h =
    let lebs : List ℕ = given ++ kept in
    let own : List ℕ = lebs_of (placed_of (frozen_of index)) in
    let all = commit_settled state kept given index clean h in
    record {
      settled = λ k one. elim (given_of given own k one) [
        | inl front ↦ h.settled k (given_front given kept k front)
        | inr behind ↦ all_given (λ m. Only (state.holds m) (state.left_now m)) own all k behind
      ];
      seen = within_of state.holds (given ++ own) (keyed_tree_of index) (λ others two.
          h.shared others (λ k one other. two k (given_front given own k one) other)
          (own_outside state.holds lebs others (frozen_of index) (λ k one other. two k (given_behind given own k one) other) h.frozen));
    }
