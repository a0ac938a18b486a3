-- LEBs of a caller's steps.
use Rattle.std.proofs.Common.{◌≡◌, ℕ, ◌-◌, ◌<◌, ◌≤◌, true, List, [], ◌∷◌, ◌++◌, refl, ap, sym, ◌∙◌, subst, inl, inr}
use Rattle.std.proofs.lemmas.List.Elements.{All-weaker}
use Rattle.commit_steps.specs.UnderWay.{AreWithinLebs, IsCommitUnderWay, IsWithinLebs, WorksBeside}
use Rattle.commit_steps.specs.UnderWayLaws.{WorksBeside-keeps, WorksBeside-on, WorksBeside-then, commit_step, given_all, given_behind, given_front, given_of, outside_of, within_moved}
use Rattle.std.specs.Prelude.{All, None, Option, Result, Ok, Err, IfOk, OnOk, slice_get}
use Rattle.index_media.specs.Clean.{is_clean_row}
use Rattle.index_media.specs.KeyedRow.{KeyedRow, all_clean}
use Rattle.index_media.specs.PlacedRow.{PlacedRow}
use Rattle.ubi_volume.specs.Geometry.{IsGeometryOf}
use Rattle.ubi_volume.specs.Volume.{Keeps, SameShape, VolumeState, WorksOn}
use Rattle.ubifs_base.specs.declared.raw_geometry.RawGeometry.{RawGeometry}
use Rattle.index_commit.specs.Lebs.{AreLebsApart, AreGivable, IsGiven}
use Rattle.index_commit.specs.declared.index_fault.IndexFault.{IndexFault}
use Rattle.index_commit.specs.LebTexts.{IsLebOf, nodes_written}
use Rattle.index_commit.specs.Rooms.{Room}
use Rattle.index_commit.specs.Standing.{AreOutside, IsOutside}
use Rattle.index_commit.specs.Written.{AreStanding, IsIndexKept, IsIndexTaken, WorksInLebs}
use Rattle.index_cache.specs.Paged.{DoesIndexStand, keyed_tree_of}
use Rattle.index_cache.specs.declared.paged.PagedIndex.{PagedIndex}
use Rattle.node_cache.specs.CleanRows.{all_is_clean}
use Rattle.node_cache.specs.OnVolume.{IsOnVolume}
use Rattle.node_table.specs.StandingRows.{root_written}
use Rattle.node_table.specs.Unloaded.{DoesRootStand}
use Rattle.table_nodes.specs.NodeView.{tree_at}
use Rattle.table_nodes.specs.declared.node.Root.{Root}
use Rattle.table_nodes.specs.declared.node.TableNode.{TableNode}

pub on_ok_more : {T : Type 0} {P Q : Type 0} (r : Result T IndexFault) → (P → Q) → OnOk r P → OnOk r Q
on_ok_more (Ok x) f p = f p
on_ok_more (Err e) f p = tt

pub if_ok_both : {T : Type 0} (P : T → Type 0) (Q : Type 0) (R : T → Type 0) (r : Result T IndexFault) → ((x : T) → P x → Q → R x) → IfOk r P → OnOk r Q → IfOk r R
if_ok_both P Q R (Ok x) f p q = f x p q
if_ok_both P Q R (Err e) f p q = tt

pub geometry_then : (geo : RawGeometry) (a b : VolumeState) → SameShape a b → IsGeometryOf geo a → IsGeometryOf geo b
geometry_then geo a b shape h =
    let P : ℕ → Type 0 = λ n. geo.leb_cnt ≤ n in
    record { leb_size = h.leb_size ∙ sym shape.leb_size; min_io = h.min_io ∙ sym shape.min_io; leb_cnt = subst P (sym shape.leb_cnt) h.leb_cnt }

-- the LEBs of a step: one for puts, the next one, and the rest
pub record AreStepLebs (n bud lnum : ℕ) (rest : List ℕ) : Type 0 where
  pub own : bud < n
  pub next : lnum < n
  pub two : bud ≡ lnum → ⊥
  pub first : IsGiven rest lnum → ⊥
  pub then : AreGivable n (bud ∷ rest)

pub step_lebs : (n m bud lnum : ℕ) (rest lebs : List ℕ) → m ≡ n → lebs ≡ lnum ∷ rest → AreGivable n (bud ∷ lebs) → AreStepLebs m bud lnum rest
step_lebs n m bud lnum rest lebs same is h =
    let P : List ℕ → Type 0 = λ xs. AreGivable n (bud ∷ xs) in
    let Q : ℕ → Type 0 = λ k. AreStepLebs k bud lnum rest in
    let parts = subst P is h in
    subst Q (sym same) (record {
      own = parts.0;
      next = parts.2.0;
      two = λ e. parts.1 (inl e);
      first = parts.2.1;
      then = (parts.0, (λ given. parts.1 (inr given)), parts.2.2);
    })

-- LEBs that are apart from those of all steps are apart from those of each
pub record AreApartNow (others : List ℕ) (bud lnum : ℕ) (rest : List ℕ) : Type 0 where
  pub put : IsGiven others bud → ⊥
  pub step : IsGiven others lnum → ⊥
  pub later : AreLebsApart others (bud ∷ rest)

pub apart_now : (others : List ℕ) (bud lnum : ℕ) (rest lebs : List ℕ) → lebs ≡ lnum ∷ rest → AreLebsApart others (bud ∷ lebs) → AreApartNow others bud lnum rest
apart_now others bud lnum rest lebs is h =
    let P : List ℕ → Type 0 = λ xs. AreLebsApart others (bud ∷ xs) in
    let all = subst P is h in
    record {
      put = λ given. all bud given (inl refl);
      step = λ given. all lnum given (inr (inl refl));
      later = λ k given other. elim other [ inl e ↦ all k given (inl e) | inr more ↦ all k given (inr (inr more)) ];
    }

pub apart_then : (n : ℕ) (kept given : List ℕ) (bud lnum : ℕ) (rest : List ℕ) → AreStepLebs n bud lnum rest → AreLebsApart (given ++ kept) (bud ∷ rest) → AreLebsApart ((lnum ∷ given) ++ kept) (bud ∷ rest)
apart_then n kept given bud lnum rest lebs apart k one other =
    let G : ℕ → Type 0 = λ m. IsGiven rest m in
    elim one [
      | inl e ↦ elim other [ inl f ↦ lebs.two (sym f ∙ e) | inr more ↦ lebs.first (subst G e more) ]
      | inr before ↦ apart k before other
    ]

pub bud_apart : (n : ℕ) (kept given : List ℕ) (bud lnum : ℕ) (rest : List ℕ) → AreStepLebs n bud lnum rest → AreLebsApart (given ++ kept) (bud ∷ rest) → IsGiven ((lnum ∷ given) ++ kept) bud → ⊥
bud_apart n kept given bud lnum rest lebs apart one = elim one [ inl e ↦ lebs.two e | inr before ↦ apart bud before (inl refl) ]

-- behind a step the commit goes on: the LEB for puts, and those of later steps, are none of its LEBs
pub record IsStepDone (state : VolumeState) (kept given : List ℕ) (bud lnum : ℕ) (rest : List ℕ) (index : PagedIndex) : Type 0 where
  pub put : IsGiven ((lnum ∷ given) ++ kept) bud → ⊥
  pub later : AreLebsApart ((lnum ∷ given) ++ kept) (bud ∷ rest)
  pub way : IsCommitUnderWay state kept (lnum ∷ given) index

-- a step by a call that says which nodes it wrote leads there
pub step_done : {room : ℕ → Room} (geo : RawGeometry) (old new : VolumeState) (kept given : List ℕ) (bud lnum i j : ℕ) (rest lebs : List ℕ) (a b : PagedIndex) → lebs ≡ lnum ∷ rest → AreGivable old.leb_cnt (bud ∷ lebs)
    → IsIndexTaken room a b i j → i < j → AreStanding old new (lnum ∷ []) a b i j × IsLebOf geo old new lnum i (nodes_written a b (j - i)) → WorksInLebs old new (lnum ∷ [])
    → AreLebsApart (given ++ kept) (bud ∷ lebs) → IsCommitUnderWay old kept given a → IsStepDone new kept given bud lnum rest b
step_done {room} geo old new kept given bud lnum i j rest lebs a b is givable taken less standing works apart way =
    let now = apart_now (given ++ kept) bud lnum rest lebs is apart in
    let step = step_lebs old.leb_cnt old.leb_cnt bud lnum rest lebs refl is givable in
    record {
      put = bud_apart old.leb_cnt kept given bud lnum rest step now.later;
      later = apart_then old.leb_cnt kept given bud lnum rest step now.later;
      way = commit_step {room = room} geo old new kept given lnum i j a b now.step taken less standing works way;
    }

-- without a step, the LEBs that a commit was given are those that it was given before
pub given_at_first : (lebs given : List ℕ) → All (IsGiven (lebs ++ given)) given
given_at_first lebs given = given_all (IsGiven (lebs ++ given)) given (λ k one. given_behind lebs given k one)

-- after a step, the next LEB is one of them
pub given_since : (lnum : ℕ) (rest lebs given now : List ℕ) → lebs ≡ lnum ∷ rest → All (IsGiven (rest ++ (lnum ∷ given))) now → All (IsGiven (lebs ++ given)) now
given_since lnum rest lebs given now is all =
    let P : List ℕ → Type 0 = λ xs. All (IsGiven (xs ++ given)) now in
    let more : (k : ℕ) → IsGiven (rest ++ (lnum ∷ given)) k → IsGiven (lnum ∷ (rest ++ given)) k = λ k one. elim (given_of rest (lnum ∷ given) k one) [
      | inl later ↦ inr (given_front rest given k later)
      | inr before ↦ elim before [ inl e ↦ inl e | inr old ↦ inr (given_behind rest given k old) ]
    ] in
    subst P (sym is) (All-weaker (IsGiven (rest ++ (lnum ∷ given))) (IsGiven (lnum ∷ (rest ++ given))) more now all)

pub clean_row : (row : KeyedRow) (placed : PlacedRow) → row ≡ all_clean placed → is_clean_row row ≡ true
clean_row row placed e = ap is_clean_row e ∙ all_is_clean placed

pub none_dirty : (numbers : List ℕ) → slice_get numbers 0 ≡ None → numbers ≡ []
none_dirty [] e = refl
none_dirty (n ∷ numbers) e = absurd cc

-- a put reads, and writes to a LEB that is none of these
pub put_beside : (a s b : VolumeState) (bud : ℕ) (P : List ℕ → Type 0) (lebs : List ℕ) → (IsGiven lebs bud → ⊥) → Keeps a s → WorksOn s b bud P → WorksBeside a b lebs
put_beside a s b bud P lebs apart keeps works = WorksBeside-then a s b lebs (WorksBeside-keeps a s lebs keeps) (WorksBeside-on s b bud P lebs apart works)

-- an index that is seen with a change stands outside of all LEBs that the one before it did
pub change_seen : {made : KeyedRow} (contents : ℕ → List ℕ) (old new : KeyedRow) → new ≡ made → ((others : List ℕ) → AreOutside contents others old → AreOutside contents others made)
    → (others : List ℕ) → AreOutside contents others old → AreOutside contents others new
change_seen contents old new is keeps others out = let O : KeyedRow → Type 0 = λ r. AreOutside contents others r in subst O (sym is) (keeps others out)

-- What isn't loaded of a changed index stood at s, and does still when a LEB beside all nodes of the index before the change was written
pub put_stands : (a s b : VolumeState) (lebs : List ℕ) (old new : PagedIndex) → WorksBeside a b lebs → SameShape s b → AreWithinLebs a.holds lebs (keyed_tree_of old)
    → ((others : List ℕ) → AreOutside b.holds others (keyed_tree_of old) → AreOutside b.holds others (keyed_tree_of new)) → DoesIndexStand s new → DoesIndexStand b new
put_stands a s b lebs old new works shape within changed h =
    let now = within_moved a.holds b.holds lebs (keyed_tree_of old) (λ k given. (works.same k given).holds) within in
    root_written s b (IsOutside []) new.table.nodes.items new.root shape (changed [] (outside_of b.holds lebs [] (keyed_tree_of old) (λ k one none. none) now)) h

-- what isn't loaded stands behind a step, if all clean nodes do
pub step_stands : (a b : VolumeState) (lebs : List ℕ) (old new : PagedIndex) → SameShape a b → IsIndexKept old new → AreWithinLebs b.holds lebs (keyed_tree_of new) → DoesIndexStand a old → DoesIndexStand b new
step_stands a b lebs old new shape kept within h =
    let D : List TableNode → Type 0 = λ ns. IsOnVolume a (tree_at ns new.root) in
    let R : Option Root → Type 0 = λ r. DoesRootStand a old.table.nodes.items r in
    root_written a b (IsWithinLebs lebs) new.table.nodes.items new.root shape within (subst D (sym kept.unplaced) (subst R (sym kept.roots.root) h))
