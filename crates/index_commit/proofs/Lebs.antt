-- LEBs that a commit writes, one after another.
use Rattle.std.proofs.Common.{◌≡◌, ℕ, ◌+◌, ◌-◌, ◌*◌, ◌/◌, ◌%◌, ◌<◌, ◌≤◌, true, false, List, [], ◌∷◌, ◌++◌, length, take, drop, replicate, refl, ap, sym, ◌∙◌, subst, arith, inl, inr, append-nil, append_assoc}
use Rattle.std.specs.Prelude.{◌⊎◌, ◌==◌, is_none, Option, None, Some, Result, Ok, Err, IfOk, OnOk, All, slice_get}
use Rattle.std.proofs.Math.Nat.{add-mul, div-lt_iff_lt-mul, le-div_iff_mul-le, mul-add}
use Rattle.std.proofs.lemmas.Bool.{cases_Bool}
use Rattle.std.proofs.lemmas.Bool.Decides.{nat_tests}
use Rattle.std.proofs.lemmas.List.Elements.{All-weaker}
use Rattle.ubifs_base.specs.declared.key.Key.{Key}
use Rattle.ubifs_base.specs.declared.raw_geometry.RawGeometry.{RawGeometry}
use Rattle.ubifs_base.specs.Gap.{gap_of}
use Rattle.index_media.specs.Clean.{node_branch, placed_of}
use Rattle.index_media.specs.KeyedRow.{KeyedRow}
use Rattle.index_media.specs.PlacedRow.{PlacedRow, Stretch, branches_of, lebs_of}
use Rattle.index_media.specs.Standing.{AreStandingAs, StandsAs}
use Rattle.index_media.specs.Stored.{IsIndexNodeAt, IsStoredIndex}
use Rattle.media_sys.specs.Index.{Index}
use Rattle.media_sys.specs.SystemNode.{index, IsSystemNode}
use Rattle.media_sys.specs.declared.branch.Branch.{Branch}
use Rattle.table_nodes.specs.NodeView.{tree_at}
use Rattle.table_nodes.specs.declared.node.Root.{Root}
use Rattle.ubi_volume.specs.Frame.{Elsewhere, IsSameLeb}
use Rattle.ubi_volume.specs.Geometry.{IsGeometryOf}
use Rattle.ubi_volume.specs.FrameLaws.{IsSameLeb-none, IsSameLeb-then, Only-same, Works-more, Works-none, Works-on, Works-then}
use Rattle.ubi_volume.specs.Volume.{VolumeState, IsChanged, Keeps, Only, filled, SameShape, UnderWay, WorksOn}
use Rattle.ubi_volume.specs.VolumeLaws.{Leaves-keeps, Leaves-more, Leaves-then}
use Rattle.index_cache.specs.Paged.{dirty_of}
use Rattle.index_cache.specs.declared.paged.PagedIndex.{PagedIndex}
use Rattle.index_commit.specs.Answers.{IsIndexNotFailed}
use Rattle.index_commit.specs.declared.index_fault.IndexFault.{IndexFault}
use Rattle.index_commit.specs.Lebs.{AreGivable, IsGiven}
use Rattle.index_commit.specs.Standing.{IsOutside}
use Rattle.index_commit.specs.Written.{AreStanding, AreFirstsTaken, AreWritten, IsHeadAfter, IsHeadIn, AreNodesLaid, IsLebPut, IsNewIn, IsNodePut, Demand, Meets, IsSettledOutside, KeepsOtherIndexes, WorksInLebs, with_leb_bytes}
use Rattle.index_commit.specs.declared.index_at.IndexHead.{IndexHead}
use Rattle.index_commit.proofs.Laid.{AreFewer, taken_fewer}
use Rattle.index_commit.proofs.Standing.{are_standing, clean_more}

-- ---- one LEB
leb_there : (lnum k : ℕ) (bytes : List ℕ) (contents : ℕ → List ℕ) → (k ≡ lnum → ⊥) → with_leb_bytes lnum bytes contents k ≡ contents k
leb_there lnum k bytes contents ne = elim (cases_Bool (k == lnum)) [
  | inl e ↦ absurd (ne (grind (arith, nat_tests, e)))
  | inr e ↦ rw e refl
]

node_moved : (old new : ℕ → List ℕ) (branch : Branch) (said : Index) → new branch.lnum ≡ old branch.lnum → IsIndexNodeAt old branch said → IsIndexNodeAt new branch said
node_moved old new branch said e h =
    let P : List ℕ → Type 0 = λ leb. branch.offs + branch.len ≤ length leb in
    let Q : List ℕ → Type 0 = λ leb. IsSystemNode (take branch.len (drop branch.offs leb)) h.sqnum h.group (index said) in
    record { sqnum = h.sqnum; group = h.group; room = subst P (sym e) h.room; is = subst Q (sym e) h.is }

-- nodes outside of a LEB stand whatever it holds
as_there : (lnum : ℕ) (bytes : List ℕ) (contents : ℕ → List ℕ) (P : Stretch → ℕ → ℕ → Type 0) (key : Key) (place : Stretch) (children : KeyedRow)
    → StandsAs contents (λ place number group. (IsGiven (lnum ∷ []) place.lnum → ⊥) × P place number group) key place children → StandsAs (with_leb_bytes lnum bytes contents) P key place children
unfolding node_moved
as_there lnum bytes contents P key place children h = record {
  clean = h.clean;
  level = h.level;
  levels = h.levels;
  node = node_moved contents (with_leb_bytes lnum bytes contents) (node_branch key (Some place)) (record { level = h.level; branches = branches_of (placed_of children) })
      (leb_there lnum place.lnum bytes contents (λ e. h.holds.0 (inl e))) h.node;
  holds = h.holds.1;
}

one_times : (n room : ℕ) → 1 ≤ n → room ≤ n * room
one_times n room some =
    let back : n - 1 + 1 ≡ n = omega (arith, some) in
    let whole = ap (λ (k : ℕ). k * room) back in
    let sum = add-mul (n - 1) 1 room in
    omega (arith, whole, sum)

none_taken : (numbers old new : List ℕ) → length numbers ≡ 0 → AreFirstsTaken numbers old new → new ≡ old
none_taken [] old new none h = h
none_taken (n ∷ numbers) old new none h = absurd (omega (arith, none))

-- where a number was given, a node was laid, so the LEB is written
some_used : (room used nodes i j n : ℕ) → 0 < room → used ≡ nodes * room → j ≡ i + nodes → i < n → n ≤ j → 0 < used
some_used room used nodes i j n some long number low most =
    let more : 1 ≤ nodes = omega (arith, number, low, most) in
    let less = one_times nodes room more in
    omega (arith, long, less, some)

pub leb_standing : (old new : VolumeState) (lnum room used end i j : ℕ) (a b : PagedIndex) (bytes : List ℕ) → 0 < room → length bytes ≡ used
    → AreNodesLaid lnum room (record { index = a; sqnum = i; bytes = [] }) (record { index = b; sqnum = j; bytes = bytes }) → IsLebPut old new lnum bytes used end
    → AreWritten old new (lnum ∷ []) a b i j
leb_standing old new lnum room used end i j a b bytes some size laid put =
    let long = laid.long in
    let whole : used ≡ (length laid.index.numbers) * room = omega (arith, long, size) in
    let stand : (asked : Demand) (root : Option Root) → ((place : Stretch) (n : ℕ) → place.lnum ≡ lnum → i < n → n ≤ j → 0 < used → Meets asked place n 0)
    → AreStandingAs old.holds (λ place number group. (IsGiven (lnum ∷ []) place.lnum → ⊥) × Meets asked place number group) (tree_at a.table.nodes.items root)
    → AreStandingAs new.holds (Meets asked) (tree_at b.table.nodes.items root) = λ asked root own h.
    let P : Stretch → ℕ → ℕ → Type 0 = Meets asked in
    let Q : Stretch → ℕ → ℕ → Type 0 = λ place number group. (IsGiven (lnum ∷ []) place.lnum → ⊥) × P place number group in
    let before = clean_more (StandsAs old.holds Q) (StandsAs (with_leb_bytes lnum [] old.holds) P) (tree_at a.table.nodes.items root)
    (λ key place children. as_there lnum [] old.holds P key place children) h in
    let after = laid.stand old.holds asked root (λ place n e low most. own place n e low most (some_used room used (length laid.index.numbers) i j n some whole laid.index.number low most)) before in
    are_standing (with_leb_bytes lnum bytes old.holds) new.holds P P (tree_at b.table.nodes.items root) put.grown (λ s n g x. x) after in
    let S : ℕ → Type 0 = λ m. (IsGiven (lnum ∷ []) m × IsSameLeb old new m) ⊎ Only (new.holds m) (new.left_now m) in
    let T : ℕ → Type 0 = λ m. (IsGiven [] m × IsSameLeb old new m) ⊎ Only (new.holds m) (new.left_now m) in
    elim (cases_Bool (used == 0)) [
      | inl e ↦
          let idle : used ≡ 0 = grind (arith, nat_tests, e) in
          record {
            idle = lnum ∷ [];
            among = λ k given. given;
            nodes = λ asked root own h. stand asked root (λ place n t low most busy. absurd (omega (arith, idle, busy))) h;
            settled = λ k given. elim given [
              | inl t ↦ subst S (sym t) (elim put.settled [ inl same ↦ inl (inl refl, same) | inr only ↦ inr only ])
              | inr none ↦ absurd none
            ];
          }
      | inr e ↦
          let busy : 0 < used = grind (arith, nat_tests, e) in
          record {
            idle = [];
            among = λ k given. absurd given;
            nodes = λ asked root own h. stand asked root (λ place n t low most there. own place n 0 (record { given = inl t; busy = λ given. given; above = low; most = most; single = refl })) h;
            settled = λ k given. elim given [
              | inl t ↦ subst T (sym t) (inr (put.left busy))
              | inr none ↦ absurd none
            ];
          }
    ]

-- ---- what is put into it
pub none_put : (state : VolumeState) (lnum end : ℕ) (leb : List ℕ) → IsLebPut state state lnum (take 0 leb) 0 end
none_put state lnum end leb = record {
  grown = λ k. elim (cases_Bool (k == lnum)) [
    | inl e ↦ (state.holds k, rw e refl)
    | inr e ↦ ([], rw e (sym (append-nil (state.holds k))))
  ];
  whole = λ some. absurd (omega (arith, some));
  same = λ none. IsSameLeb-none state lnum;
  settled = inl (IsSameLeb-none state lnum);
  left = λ some. absurd (omega (arith, some));
  ended = λ some. absurd (omega (arith, some));
}

pub leb_put : (old new : VolumeState) (lnum used end : ℕ) (P : List ℕ → Type 0) (front bytes : List ℕ) → 0 < used → bytes ≡ front ++ gap_of (end - used) → IsChanged old new lnum bytes → WorksOn old new lnum P
    → length bytes ≡ end → end % new.min_io ≡ 0 → IsLebPut old new lnum front used end
leb_put old new lnum used end P front bytes some e done works long whole =
    let gap : List ℕ = gap_of (end - used) in
    let behind : List ℕ = replicate (old.leb_size - length bytes) 255 in
    let here : new.holds lnum ≡ front ++ (gap ++ behind) = done.holds ∙ ap (λ x. x ++ behind) e ∙ append_assoc front gap behind in
    record {
      grown = λ k. elim (cases_Bool (k == lnum)) [
        | inl t ↦
            let same : k ≡ lnum = grind (arith, nat_tests, t) in
            (gap ++ behind, rw t (ap new.holds same ∙ here))
        | inr t ↦
            let ne : k ≡ lnum → ⊥ = λ same. let itself : (k == lnum) ≡ true = grind (arith, nat_tests, same) in absurd cc in
            ([], rw t (works.others k ne ∙ sym (append-nil (old.holds k))))
      ];
      whole = λ more. done.holds ∙ ap (filled old.leb_size) e;
      same = λ none. absurd (omega (arith, some, none));
      settled = inr (λ c left. done.left c left ∙ sym done.holds);
      left = λ some c left. done.left c left ∙ sym done.holds;
      ended = λ some. (done.written ∙ long, whole);
    }

pub one_works : (old new : VolumeState) (lnum : ℕ) (P : List ℕ → Type 0) → WorksOn old new lnum P → WorksInLebs old new (lnum ∷ [])
one_works old new lnum P works =
    Works-more old new (λ k. k ≡ lnum) (IsGiven (lnum ∷ [])) (UnderWay old lnum P) (Elsewhere old (IsGiven (lnum ∷ []))) (λ k e. inl e) (λ x under k apart. under.0 k (λ e. apart (inl e)))
    (Works-on old new lnum P works)

pub none_works : (state : VolumeState) (lebs : List ℕ) → WorksInLebs state state lebs
none_works state lebs = Works-none state (IsGiven lebs) (Elsewhere state (IsGiven lebs)) (λ x each k apart. each k)

-- ---- one LEB after another
works_then : (a b c : VolumeState) (lnum : ℕ) (lebs : List ℕ) → WorksInLebs a b (lnum ∷ []) → WorksInLebs b c lebs → WorksInLebs a c (lnum ∷ lebs)
works_then a b c lnum lebs ab bc =
    let first : (k : ℕ) → IsGiven (lnum ∷ []) k → IsGiven (lnum ∷ lebs) k = λ k given. elim given [ inl e ↦ inl e | inr none ↦ absurd none ] in
    Works-then a b c (IsGiven (lnum ∷ [])) (IsGiven lebs) (IsGiven (lnum ∷ lebs)) (Elsewhere a (IsGiven (lnum ∷ []))) (Elsewhere b (IsGiven lebs)) (Elsewhere a (IsGiven (lnum ∷ lebs)))
    first (λ k given. inr given) (λ x left k apart. left k (λ given. apart (first k given)))
    (λ x left k apart. (ab.others k (λ given. apart (first k given))).left (x k) (left k (λ given. apart (inr given)))) ab bc

-- a LEB of the one list, or of the other
pub given_front : (xs ys : List ℕ) (k : ℕ) → IsGiven xs k → IsGiven (xs ++ ys) k
given_front [] ys k h = absurd h
given_front (x ∷ xs) ys k (inl e) = inl e
given_front (x ∷ xs) ys k (inr h) = inr (given_front xs ys k h)

given_behind : (xs ys : List ℕ) (k : ℕ) → IsGiven ys k → IsGiven (xs ++ ys) k
given_behind [] ys k h = h
given_behind (x ∷ xs) ys k h = inr (given_behind xs ys k h)

pub given_of : (xs ys : List ℕ) (k : ℕ) → IsGiven (xs ++ ys) k → IsGiven xs k ⊎ IsGiven ys k
given_of [] ys k h = inr h
given_of (x ∷ xs) ys k (inl e) = inl (inl e)
given_of (x ∷ xs) ys k (inr h) = elim (given_of xs ys k h) [
  | inl one ↦ inl (inr one)
  | inr other ↦ inr other
]

-- what is said of clean nodes says less of them
pub said_less : (media : ℕ → List ℕ) (P Q : Stretch → ℕ → ℕ → Type 0) (row : KeyedRow) → ((s : Stretch) (n g : ℕ) → P s n g → Q s n g) → AreStandingAs media P row → AreStandingAs media Q row
said_less media P Q row less h = are_standing media media P Q row (λ k. ([], sym (append-nil (media k)))) less h

-- what is asked, and to be outside of more LEBs
abbrev asked_outside : List ℕ → Demand → Demand
asked_outside lebs asked = record { outside = lebs ++ asked.outside; lebs = asked.lebs; first = asked.first; last = asked.last }

meets_outside : (lebs : List ℕ) (asked : Demand) (s : Stretch) (n g : ℕ) → (IsGiven lebs s.lnum → ⊥) → Meets asked s n g → Meets (asked_outside lebs asked) s n g
meets_outside lebs asked s n g apart h = (λ given. elim (given_of lebs asked.outside s.lnum given) [ inl one ↦ apart one | inr other ↦ h.0 other ], h.1)

meets_less : (lebs : List ℕ) (asked : Demand) (s : Stretch) (n g : ℕ) → Meets (asked_outside lebs asked) s n g → (IsGiven lebs s.lnum → ⊥) × Meets asked s n g
meets_less lebs asked s n g h = (λ given. h.0 (given_front lebs asked.outside s.lnum given), ((λ given. h.0 (given_behind lebs asked.outside s.lnum given)), h.1))

-- a node that the first of several LEBs has
put_first : (lnum : ℕ) (lebs idle more : List ℕ) (i j k : ℕ) (s : Stretch) (n g : ℕ) → j ≤ k → (IsGiven lebs lnum → ⊥) → ((m : ℕ) → IsGiven more m → IsGiven lebs m)
    → IsNodePut (lnum ∷ []) idle i j s n g → (IsGiven lebs s.lnum → ⊥) × IsNodePut (lnum ∷ lebs) (idle ++ more) i k s n g
put_first lnum lebs idle more i j k s n g later apart among new =
    let e : s.lnum ≡ lnum = elim new.given [ inl e ↦ e | inr none ↦ absurd none ] in
    let G : ℕ → Type 0 = λ m. IsGiven lebs m in
    let other : IsGiven lebs s.lnum → ⊥ = λ given. apart (subst G e given) in
    let most = new.most in (
      other,
      record {
        given = inl e;
        busy = λ h. elim (given_of idle more s.lnum h) [ inl one ↦ new.busy one | inr two ↦ other (among s.lnum two) ];
        above = new.above;
        most = omega (arith, most, later);
        single = new.single;
      },
    )

put_later : (lnum : ℕ) (lebs idle more : List ℕ) (i j k : ℕ) (s : Stretch) (n g : ℕ) → i ≤ j → (IsGiven lebs lnum → ⊥) → ((m : ℕ) → IsGiven idle m → IsGiven (lnum ∷ []) m)
    → IsNodePut lebs more j k s n g → IsNodePut (lnum ∷ lebs) (idle ++ more) i k s n g
put_later lnum lebs idle more i j k s n g sooner apart among new =
    let above = new.above in
    let G : ℕ → Type 0 = λ m. IsGiven lebs m in
    record {
      given = inr new.given;
      busy = λ h. elim (given_of idle more s.lnum h) [
        | inl one ↦ elim (among s.lnum one) [ inl e ↦ apart (subst G e new.given) | inr none ↦ none ]
        | inr two ↦ new.busy two
      ];
      above = omega (arith, above, sooner);
      most = new.most;
      single = new.single;
    }

written_then : (a b c : VolumeState) (lnum : ℕ) (lebs : List ℕ) (x y z : PagedIndex) (i j k : ℕ) → i ≤ j → j ≤ k → (IsGiven lebs lnum → ⊥) → WorksInLebs a b (lnum ∷ []) → WorksInLebs b c lebs
    → AreWritten a b (lnum ∷ []) x y i j → AreWritten b c lebs y z j k → AreWritten a c (lnum ∷ lebs) x z i k
written_then a b c lnum lebs x y z i j k sooner later apart ab bc one rest = record {
  idle = one.idle ++ rest.idle;
  among = λ m h. elim (given_of one.idle rest.idle m h) [
    | inl t ↦ elim (one.among m t) [ inl e ↦ inl e | inr none ↦ absurd none ]
    | inr t ↦ inr (rest.among m t)
  ];
  nodes = λ asked root own h.
      let B : Demand = asked_outside lebs asked in
      let A : Stretch → ℕ → ℕ → Type 0 = λ s n g. (IsGiven (lnum ∷ lebs) s.lnum → ⊥) × Meets asked s n g in
      let C : Stretch → ℕ → ℕ → Type 0 = λ s n g. (IsGiven (lnum ∷ []) s.lnum → ⊥) × Meets B s n g in
      let D : Stretch → ℕ → ℕ → Type 0 = λ s n g. (IsGiven lebs s.lnum → ⊥) × Meets asked s n g in
      let apart_now = said_less a.holds A C (tree_at x.table.nodes.items root)
      (λ s n g said. (λ given. said.0 (elim given [ inl e ↦ inl e | inr none ↦ absurd none ]), meets_outside lebs asked s n g (λ given. said.0 (inr given)) said.1)) h in
      let first = one.nodes B root
      (λ s n g new. let both = put_first lnum lebs one.idle rest.idle i j k s n g later apart rest.among new in meets_outside lebs asked s n g both.0 (own s n g both.1)) apart_now in
      let then = said_less b.holds (Meets B) D (tree_at y.table.nodes.items root) (λ s n g said. meets_less lebs asked s n g said) first in
      rest.nodes asked root (λ s n g new. own s n g (put_later lnum lebs one.idle rest.idle i j k s n g sooner apart one.among new)) then;
  settled = λ n given. elim given [
    | inl e ↦
        let P : ℕ → Type 0 = λ m. (IsGiven (one.idle ++ rest.idle) m × IsSameLeb a c m) ⊎ Only (c.holds m) (c.left_now m) in
        subst P (sym e) (elim (one.settled lnum (inl refl)) [
          | inl same ↦ inl (given_front one.idle rest.idle lnum same.0, IsSameLeb-then a b c lnum same.1 (bc.others lnum apart))
          | inr only ↦ inr (Only-same b c lnum only (bc.others lnum apart))
        ])
    | inr more ↦
        let other : IsGiven (lnum ∷ []) n → ⊥ = λ g. elim g [ inl e ↦ let Q : ℕ → Type 0 = λ m. IsGiven lebs m in apart (subst Q e more) | inr none ↦ none ] in
        elim (rest.settled n more) [
          | inl same ↦ inl (given_behind one.idle rest.idle n same.0, IsSameLeb-then a b c n (ab.others n other) same.1)
          | inr only ↦ inr only
        ]
  ];
}

pub none_written : (state : VolumeState) (lebs : List ℕ) (x : PagedIndex) (i : ℕ) → AreWritten state state lebs x x i i
none_written state lebs x i = record {
  idle = lebs;
  among = λ k given. given;
  nodes = λ asked root own h.
      let A : Stretch → ℕ → ℕ → Type 0 = λ s n g. (IsGiven lebs s.lnum → ⊥) × Meets asked s n g in
      said_less state.holds A (Meets asked) (tree_at x.table.nodes.items root) (λ s n g said. said.1) h;
  settled = λ k given. inl (given, IsSameLeb-none state k);
}

-- of one LEB alone
pub one_written : (a b : VolumeState) (lnum : ℕ) (lebs all : List ℕ) (x y : PagedIndex) (i j : ℕ) → all ≡ lnum ∷ lebs → i ≤ j → (IsGiven lebs lnum → ⊥) → WorksInLebs a b (lnum ∷ [])
    → AreWritten a b (lnum ∷ []) x y i j → AreWritten a b all x y i j
one_written a b lnum lebs all x y i j e later apart works one =
    let P : List ℕ → Type 0 = λ xs. AreWritten a b xs x y i j in
    subst P (sym e) (written_then a b b lnum lebs x y y i j j later (omega arith) apart works (none_works b lebs) one (none_written b lebs y j))

pub both_written : (a b c : VolumeState) (lnum : ℕ) (lebs all : List ℕ) (x y z : PagedIndex) (i j k : ℕ) → all ≡ lnum ∷ lebs → i ≤ j → j ≤ k → (IsGiven lebs lnum → ⊥)
    → WorksInLebs a b (lnum ∷ []) → WorksInLebs b c lebs → AreWritten a b (lnum ∷ []) x y i j → AreWritten b c lebs y z j k → AreWritten a c all x z i k
both_written a b c lnum lebs all x y z i j k e sooner later apart ab bc one rest =
    let P : List ℕ → Type 0 = λ xs. AreWritten a c xs x z i k in
    subst P (sym e) (written_then a b c lnum lebs x y z i j k sooner later apart ab bc one rest)

-- what stands then
new_in : (old new : VolumeState) (lebs : List ℕ) (x y : PagedIndex) (i j : ℕ) (w : AreWritten old new lebs x y i j) (s : Stretch) (n g : ℕ)
    → Meets (record { outside = w.idle; lebs = lebs; first = i; last = j }) s n g → IsNewIn new lebs i j s n g
new_in old new lebs x y i j w s n g h given =
    let said = h.1 given in
    record {
      given = given;
      left = elim (w.settled s.lnum given) [ inl same ↦ absurd (h.0 same.0) | inr only ↦ only ];
      above = said.0;
      most = said.1;
      single = said.2;
    }

pub written_standing : (old new : VolumeState) (lebs : List ℕ) (x y : PagedIndex) (i j : ℕ) → AreWritten old new lebs x y i j → AreStanding old new lebs x y i j
written_standing old new lebs x y i j w = record {
  nodes = λ others root two h.
      let asked : Demand = record { outside = others; lebs = []; first = i; last = j } in
      let A : Stretch → ℕ → ℕ → Type 0 = λ s n g. (IsGiven lebs s.lnum → ⊥) × Meets asked s n g in
      said_less new.holds (Meets asked) (IsOutside others) (tree_at y.table.nodes.items root) (λ s n g said. said.0)
      (w.nodes asked root (λ s n g new. (λ given. two s.lnum new.given given, λ given. absurd given))
      (said_less old.holds (IsOutside (lebs ++ others)) A (tree_at x.table.nodes.items root)
      (λ s n g out. (λ given. out (given_front lebs others s.lnum given), ((λ given. out (given_behind lebs others s.lnum given)), λ given. absurd given))) h));
  written = λ root h.
      let asked : Demand = record { outside = w.idle; lebs = lebs; first = i; last = j } in
      let A : Stretch → ℕ → ℕ → Type 0 = λ s n g. (IsGiven lebs s.lnum → ⊥) × Meets asked s n g in
      said_less new.holds (Meets asked) (IsNewIn new lebs i j) (tree_at y.table.nodes.items root) (λ s n g said. new_in old new lebs x y i j w s n g said)
      (w.nodes asked root (λ s n g new. (new.busy, λ given. (new.above, new.most, new.single)))
      (said_less old.holds (IsOutside lebs) A (tree_at x.table.nodes.items root) (λ s n g out. (out, ((λ given. out (w.among s.lnum given)), λ given. absurd (out given)))) h));
  settled = λ k given. elim (w.settled k given) [ inl same ↦ inl same.1 | inr only ↦ inr only ];
}

pub none_standing : (state : VolumeState) (lebs : List ℕ) (x : PagedIndex) (i : ℕ) → AreStanding state state lebs x x i i
none_standing state lebs x i = written_standing state state lebs x x i i (none_written state lebs x i)

pub one_worked : (a b : VolumeState) (lnum : ℕ) (lebs all : List ℕ) → all ≡ lnum ∷ lebs → WorksInLebs a b (lnum ∷ []) → WorksInLebs a b all
one_worked a b lnum lebs all e works =
    let P : List ℕ → Type 0 = λ xs. WorksInLebs a b xs in
    subst P (sym e) (works_then a b b lnum lebs works (none_works b lebs))

pub both_worked : (a b c : VolumeState) (lnum : ℕ) (lebs all : List ℕ) → all ≡ lnum ∷ lebs → WorksInLebs a b (lnum ∷ []) → WorksInLebs b c lebs → WorksInLebs a c all
both_worked a b c lnum lebs all e ab bc =
    let P : List ℕ → Type 0 = λ xs. WorksInLebs a c xs in
    subst P (sym e) (works_then a b c lnum lebs ab bc)

-- ---- the head
head_more : (state : VolumeState) (lnum : ℕ) (lebs : List ℕ) (found : Option IndexHead) → IsHeadIn state lebs found → IsHeadIn state (lnum ∷ lebs) found
head_more state lnum lebs None h = h
head_more state lnum lebs (Some head) h = (inr h.0, h.1, h.2)

head_then : (b c : VolumeState) (lnum offs : ℕ) (lebs dirty left : List ℕ) (before now found : Option IndexHead) → (IsGiven lebs lnum → ⊥) → 0 < length dirty → WorksInLebs b c lebs → SameShape b c
    → now ≡ Some (record { lnum = lnum; offs = offs }) → (b.written lnum ≡ offs) × (offs % b.min_io ≡ 0) → IsHeadAfter c lebs left now found → IsHeadAfter c (lnum ∷ lebs) dirty before found
head_then b c lnum offs lebs dirty left before now found apart some works shape is end (inl h) =
    let P : Option IndexHead → Type 0 = λ o. IsHeadIn c (lnum ∷ lebs) o in
    let unit = ap (λ (n : ℕ). offs % n) shape.min_io in
    inr (some, subst P (sym (h.0 ∙ is)) (inl refl, (works.others lnum apart).written ∙ end.0, unit ∙ end.1))
head_then b c lnum offs lebs dirty left before now found apart some works shape is end (inr h) = inr (some, head_more c lnum lebs found h.1)

pub head_behind : (b c : VolumeState) (lnum offs : ℕ) (lebs all dirty left : List ℕ) (before now found : Option IndexHead) → all ≡ lnum ∷ lebs → (IsGiven lebs lnum → ⊥) → 0 < length dirty → WorksInLebs b c lebs → SameShape b c
    → now ≡ Some (record { lnum = lnum; offs = offs }) → (b.written lnum ≡ offs) × (offs % b.min_io ≡ 0) → IsHeadAfter c lebs left now found → IsHeadAfter c all dirty before found
head_behind b c lnum offs lebs all dirty left before now found e apart some works shape is end h =
    let P : List ℕ → Type 0 = λ xs. IsHeadAfter c xs dirty before found in
    subst P (sym e) (head_then b c lnum offs lebs dirty left before now found apart some works shape is end h)

-- ---- how many nodes a LEB takes
pub full_leb : (size room nodes : ℕ) → 0 < room → size < nodes * room + room → size / room ≤ nodes
full_leb size room nodes some more =
    let sum = add-mul nodes 1 room in
    let bound : size < (nodes + 1) * room = omega (arith, more, sum) in
    let less = (div-lt_iff_lt-mul {k = room} {x = size} {y = nodes + 1} some).1 bound in
    omega (arith, less)

pub leb_full : AreFewer → (lnum room size used i j : ℕ) (a b : PagedIndex) (bytes : List ℕ) → 0 < room → length bytes ≡ used
    → (laid : AreNodesLaid lnum room (record { index = a; sqnum = i; bytes = [] }) (record { index = b; sqnum = j; bytes = bytes })) → (dirty_of b ≡ []) ⊎ (size < used + room)
    → (dirty_of b ≡ []) ⊎ (length (dirty_of b) + size / room ≤ length (dirty_of a))
leb_full fewer lnum room size used i j a b bytes some long laid (inl none) = inl none
leb_full fewer lnum room size used i j a b bytes some long laid (inr full) =
    let whole = laid.long in
    let most = full_leb size room (length laid.index.numbers) some (omega (arith, whole, long, full)) in
    let less = taken_fewer fewer laid.index.numbers (dirty_of a) (dirty_of b) laid.index.taken in
    inr (omega (arith, most, less))

-- no more nodes are laid than a LEB takes, and where it has no room for one they are as many
pub laid_most : (lnum room size used i j : ℕ) (a b : PagedIndex) (bytes : List ℕ) → 0 < room → length bytes ≡ used → used ≤ size
    → AreNodesLaid lnum room (record { index = a; sqnum = i; bytes = [] }) (record { index = b; sqnum = j; bytes = bytes }) → j ≤ i + size / room
laid_most lnum room size used i j a b bytes some long fits laid =
    let whole = laid.long in
    let number = laid.index.number in
    let nodes = length laid.index.numbers in
    let most = (le-div_iff_mul-le {k = room} {x = nodes} {y = size} some).1 (omega (arith, whole, long, fits)) in
    omega (arith, most, number)

pub laid_all : (lnum room size used i j : ℕ) (a b : PagedIndex) (bytes : List ℕ) → 0 < room → length bytes ≡ used → used ≤ size
    → (laid : AreNodesLaid lnum room (record { index = a; sqnum = i; bytes = [] }) (record { index = b; sqnum = j; bytes = bytes })) → (dirty_of b ≡ []) ⊎ (size < used + room)
    → (dirty_of b ≡ []) ⊎ (j ≡ i + size / room)
laid_all lnum room size used i j a b bytes some long fits laid (inl none) = inl none
laid_all lnum room size used i j a b bytes some long fits laid (inr full) =
    let whole = laid.long in
    let number = laid.index.number in
    let most = laid_most lnum room size used i j a b bytes some long fits laid in
    let least = full_leb size room (length laid.index.numbers) some (omega (arith, whole, long, full)) in
    inr (omega (arith, most, least, number))

-- a node that is dirty is laid, or its LEB has no room for one
pub leb_used : (lnum room size used i j : ℕ) (a b : PagedIndex) (bytes : List ℕ) → 0 < room → room ≤ size → length bytes ≡ used → 0 < length (dirty_of a)
    → (laid : AreNodesLaid lnum room (record { index = a; sqnum = i; bytes = [] }) (record { index = b; sqnum = j; bytes = bytes })) → (dirty_of b ≡ []) ⊎ (size < used + room) → 0 < used
leb_used lnum room size used i j a b bytes some fits long dirty laid (inr full) = omega (arith, fits, full)
leb_used lnum room size used i j a b bytes some fits long dirty laid (inl none) = elim (cases_Bool ((length laid.index.numbers) == 0)) [
  | inl e ↦
      let zero : (length laid.index.numbers) ≡ 0 = grind (arith, nat_tests, e) in
      let same = none_taken laid.index.numbers (dirty_of a) (dirty_of b) zero laid.index.taken in
      let empty = ap length (sym same ∙ none) in
      absurd (omega (arith, empty, dirty))
  | inr e ↦
      let more : 1 ≤ (length laid.index.numbers) = grind (arith, nat_tests, e) in
      let whole = laid.long in
      let less = one_times (length laid.index.numbers) room more in
      omega (arith, whole, long, less, some)
]

pub leb_more : (lnum room size used i j : ℕ) (a b : PagedIndex) (bytes : List ℕ) → 0 < room → room ≤ size → length bytes ≡ used → 0 < length (dirty_of a)
    → (laid : AreNodesLaid lnum room (record { index = a; sqnum = i; bytes = [] }) (record { index = b; sqnum = j; bytes = bytes })) → (dirty_of b ≡ []) ⊎ (size < used + room) → i < j
leb_more lnum room size used i j a b bytes some fits long dirty laid full = elim (cases_Bool (length laid.index.numbers == 0)) [
  | inl e ↦
      let none : length laid.index.numbers ≡ 0 = grind (arith, nat_tests, e) in
      let whole = laid.long in
      let zero = ap (λ (n : ℕ). n * room) none in
      let busy = leb_used lnum room size used i j a b bytes some fits long dirty laid full in
      absurd (omega (arith, whole, zero, busy, long))
  | inr e ↦
      let more : 1 ≤ length laid.index.numbers = grind (arith, nat_tests, e) in
      let number = laid.index.number in
      omega (arith, more, number)
]

-- the bytes that are laid are those of the rooms
pub laid_bytes : (lnum room used i j : ℕ) (a b : PagedIndex) (bytes : List ℕ) → length bytes ≡ used
    → AreNodesLaid lnum room (record { index = a; sqnum = i; bytes = [] }) (record { index = b; sqnum = j; bytes = bytes }) → used ≡ (j - i) * room
laid_bytes lnum room used i j a b bytes long laid =
    let whole = laid.long in
    let number = laid.index.number in
    let count : j - i ≡ length laid.index.numbers = omega (arith, number) in
    let times = ap (λ (n : ℕ). n * room) count in
    omega (arith, whole, times, long)

-- ---- what stands elsewhere
abbrev pub DependsOnItsLebs : Type 0
DependsOnItsLebs = (old new : ℕ → List ℕ) (fanout : ℕ) (root : Branch) (placed : PlacedRow) → All (λ k. new k ≡ old k) (lebs_of placed)
    → IsStoredIndex old fanout root placed → IsStoredIndex new fanout root placed

pub keeps_indexes : DependsOnItsLebs → (old new : VolumeState) (lebs : List ℕ) → WorksInLebs old new lebs → KeepsOtherIndexes old new lebs
keeps_indexes depends old new lebs works fanout root placed stored all =
    Leaves-more old new (Elsewhere old (IsGiven lebs)) (λ c. IsStoredIndex c fanout root placed)
    (λ c left. depends old.holds c fanout root placed (All-weaker (IsSettledOutside old lebs) (λ k. c k ≡ old.holds k) (λ k h. h.1 (c k) (left k h.0)) (lebs_of placed) all) stored) works.time

-- after a call that keeps all
pub kept_indexes_then : DependsOnItsLebs → (a b d : VolumeState) (lebs : List ℕ) → Keeps a b → KeepsOtherIndexes b d lebs → KeepsOtherIndexes a d lebs
kept_indexes_then depends a b d lebs keeps works = λ fanout root placed stored all.
    let P : (ℕ → List ℕ) → Type 0 = λ c. IsStoredIndex c fanout root placed in
    let same = All-weaker (IsSettledOutside a lebs) (λ k. b.holds k ≡ a.holds k) (λ k h. keeps.holds k) (lebs_of placed) all in
    let settled = All-weaker (IsSettledOutside a lebs) (IsSettledOutside b lebs) (λ k h. (h.0, λ c left. h.1 c ((keeps.left k c).0 left) ∙ sym (keeps.holds k))) (lebs_of placed) all in
    Leaves-then a b d P P P (λ c h. h) (λ c h. h) (Leaves-keeps a b P keeps) (works fanout root placed (depends a.holds b.holds fanout root placed same stored) settled)

-- ---- the LEBs that are left
pub givable_then : (n m : ℕ) (lnum : ℕ) (lebs all : List ℕ) → m ≡ n → all ≡ lnum ∷ lebs → AreGivable n all → (lnum < n) × (IsGiven lebs lnum → ⊥) × AreGivable m lebs
givable_then n m lnum lebs all e is h =
    let P : List ℕ → Type 0 = λ xs. AreGivable n xs in
    let Q : ℕ → Type 0 = λ k. AreGivable k lebs in
    let parts = subst P is h in
    (parts.0, parts.1, subst Q (sym e) parts.2)

-- nothing is dirty where no number is the first
pub none_dirty : (numbers : List ℕ) → slice_get numbers 0 ≡ None → numbers ≡ []
none_dirty [] e = refl
none_dirty (n ∷ numbers) e = absurd cc

-- some is dirty where a number is the first
pub some_dirty : (numbers : List ℕ) → is_none (slice_get numbers 0) ≡ false → 0 < length numbers
some_dirty [] e = absurd cc
some_dirty (n ∷ numbers) e = omega arith

-- what is left fits into the LEBs that are left
pub fits_then : (each before after : ℕ) (left : List ℕ) (lnum : ℕ) (lebs all : List ℕ) → all ≡ lnum ∷ lebs → before ≤ each * length all → after ≡ length left → (left ≡ []) ⊎ (after + each ≤ before) → after ≤ each * length lebs
fits_then each before after left lnum lebs all e fits long (inl none) = let empty = ap length none in omega (arith, empty, long)
fits_then each before after left lnum lebs all e fits long (inr less) =
    let count = ap length e in
    let whole = ap (λ (n : ℕ). each * n) count in
    let sum = mul-add each (length lebs) 1 in
    omega (arith, fits, less, whole, sum)

pub geometry_then : (geo : RawGeometry) (a b : VolumeState) → SameShape a b → IsGeometryOf geo a → IsGeometryOf geo b
geometry_then geo a b shape h =
    let P : ℕ → Type 0 = λ n. geo.leb_cnt ≤ n in
    record { leb_size = h.leb_size ∙ sym shape.leb_size; min_io = h.min_io ∙ sym shape.min_io; leb_cnt = subst P (sym shape.leb_cnt) h.leb_cnt }

pub if_ok : {T E : Type 0} (P Q : T → Type 0) (r : Result T E) → ((x : T) → P x → Q x) → IfOk r P → IfOk r Q
if_ok P Q (Ok x) f h = f x h
if_ok P Q (Err e) f h = tt

pub on_ok : {T : Type 0} (P : Type 0) (r : Result T IndexFault) → (IsIndexNotFailed r → P) → OnOk r P
on_ok P (Ok x) f = f tt
on_ok P (Err e) f = tt
