-- The last master of several nodes.
use Rattle.std.proofs.Common.{◌≡◌, ◌⊎◌, inl, inr, List, [], ◌∷◌, ◌++◌, length, refl, ap, sym, ◌∙◌, subst, append_assoc}
use Rattle.std.proofs.lemmas.List.{drop_at}
use Rattle.std.proofs.lemmas.List.Elements.{All-nil, All-cons, All-append, All-drop, All-head}
use Rattle.std.specs.Prelude.{◌≢◌, All}
use Rattle.ubifs_base.specs.declared.node_type.NodeType.TheVariants as types
use Rattle.leb_scan.specs.TypeLaws.{cases_type}
use Rattle.leb_scan.specs.declared.found.Found.{Found}
use Rattle.small_areas.specs.Masters.{HasNone, IsLastOf}

abbrev IsOther : Found → Type 0
IsOther found = found.kind ≢ types.Master

pub none_of_none : HasNone []
none_of_none = All-nil IsOther

pub none_of_both : (front back : List Found) → HasNone front → HasNone back → HasNone (front ++ back)
none_of_both front back h k = All-append IsOther front back h k

-- behind other nodes
pub last_behind : (front nodes : List Found) (found : Found) → IsLastOf nodes found → IsLastOf (front ++ nodes) found
last_behind front nodes found h = record {
  before = front ++ h.before;
  behind = h.behind;
  split = ap (λ (n : List Found). front ++ n) h.split ∙ sym (append_assoc front h.before (found ∷ h.behind));
  kind = h.kind;
  none = h.none;
}

-- before nodes that are no masters
pub last_before : (nodes back : List Found) (found : Found) → IsLastOf nodes found → HasNone back → IsLastOf (nodes ++ back) found
last_before nodes back found h none = record {
  before = h.before;
  behind = h.behind ++ back;
  split = ap (λ (n : List Found). n ++ back) h.split ∙ append_assoc h.before (found ∷ h.behind) back;
  kind = h.kind;
  none = All-append IsOther h.behind back h.none none;
}

first_last : (found : Found) (nodes : List Found) → HasNone nodes → (found.kind ≡ types.Master) ⊎ (found.kind ≡ types.Master → ⊥) → HasNone (found ∷ nodes) ⊎ ((last : Found) × IsLastOf (found ∷ nodes) last)
first_last found nodes none (inl same) = inr (found, record { before = []; behind = nodes; split = refl; kind = same; none = none })
first_last found nodes none (inr other) = inl (All-cons IsOther found nodes other none)

some_last : (found : Found) (nodes : List Found) → HasNone nodes ⊎ ((last : Found) × IsLastOf nodes last) → HasNone (found ∷ nodes) ⊎ ((last : Found) × IsLastOf (found ∷ nodes) last)
some_last found nodes (inl none) = first_last found nodes none (cases_type found.kind types.Master)
some_last found nodes (inr (last, h)) = inr (last, last_behind (found ∷ []) nodes last h)

-- there is one, or none
pub last_of : (nodes : List Found) → HasNone nodes ⊎ ((last : Found) × IsLastOf nodes last)
last_of [] = inl none_of_none
last_of (found ∷ nodes) = some_last found nodes (last_of nodes)

-- what is so of each node is so of the last master
pub of_last : (P : Found → Type 0) (nodes : List Found) (found : Found) → All P nodes → IsLastOf nodes found → P found
of_last P nodes found each h =
    let Q : List Found → Type 0 = λ n. All P n in
    let rest = All-drop P (length h.before) (h.before ++ (found ∷ h.behind)) (subst Q h.split each) in
    All-head P found h.behind (subst Q (drop_at h.before (found ∷ h.behind) (length h.before) refl) rest)
