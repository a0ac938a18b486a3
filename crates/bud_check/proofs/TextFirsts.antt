-- What is wrong first in the text of a bud, and in all texts.
use Rattle.std.proofs.Common.{◌≡◌, ◌⊎◌, ℕ, true, false, List, [], ◌∷◌, ◌++◌, Option, Some, None, length, refl, ap, sym, subst, ◌∙◌, inl, inr, arith}
use Rattle.ubifs_base.specs.NodeLaws.{IsBytes}
use Rattle.ubifs_base.specs.NodeType.{type_number}
use Rattle.ubifs_base.specs.declared.node_type.NodeType.{NodeType}
use Rattle.ubifs_base.specs.declared.node_type.NodeType.TheVariants as types
use Rattle.media_sys.specs.declared.feature.Feature.{Feature}
use Rattle.leb_scan.specs.Gathered.{IsGathered, gathered_end}
use Rattle.leb_scan.specs.Text.{IsLast, IsText, nodes_of, tail_at}
use Rattle.leb_scan.specs.declared.found.Found.{Found}
use Rattle.leb_scan.specs.declared.item.Item.{Item}
use Rattle.leb_scan.specs.declared.tail.Tail.{Tail}
use Rattle.small_areas.specs.MasterLaws.{OneText}
use Rattle.journal_scan.specs.declared.bud_text.BudText.{BudText}
use Rattle.sound_image.specs.Buds.{MayStandInBud}
use Rattle.sound_image.specs.Frames.{NeedsFeature}
use Rattle.sound_image.specs.Wrong.{IsOneOf, Wrong, differs, needs}
use Rattle.sound_image.specs.WrongLaws.{is_one_at_end, front_or_end, in_front, one_of_none}
use Rattle.bud_check.specs.Findings.{IsFirstFound, IsWrongEnd, IsWrongFound, IsWrongText, IsWrongTexts, first_of_two, may_stand}
use Rattle.bud_check.specs.declared.bud_wrong.BudMisfit.TheVariants.{Needs, Unwanted}
use Rattle.bud_check.specs.declared.bud_wrong.BudWrong.{BudWrong}
use Rattle.bud_check.proofs.Firsts.{either_first, feature_once, first_same, there_not, type_once}

-- ---- which types may stand in a bud
pub allowed : (kind : NodeType) → may_stand kind ≡ true → MayStandInBud kind
allowed types.Inode h = inl refl
allowed types.Data h = inl refl
allowed types.Entry h = inl refl
allowed types.Attribute h = inl refl
allowed types.Truncation h = inl refl
allowed types.Padding h = inr refl
allowed types.Superblock h = absurd cc
allowed types.Master h = absurd cc
allowed types.Reference h = absurd cc
allowed types.Index h = absurd cc
allowed types.CommitStart h = absurd cc
allowed types.Orphans h = absurd cc

pub not_allowed : (kind : NodeType) → may_stand kind ≡ false → MayStandInBud kind → ⊥
not_allowed types.Inode h m = absurd cc
not_allowed types.Data h m = absurd cc
not_allowed types.Entry h m = absurd cc
not_allowed types.Attribute h m = absurd cc
not_allowed types.Truncation h m = absurd cc
not_allowed types.Padding h m = absurd cc
not_allowed types.Superblock h (inl e) = absurd cc
not_allowed types.Superblock h (inr e) = absurd cc
not_allowed types.Master h (inl e) = absurd cc
not_allowed types.Master h (inr e) = absurd cc
not_allowed types.Reference h (inl e) = absurd cc
not_allowed types.Reference h (inr e) = absurd cc
not_allowed types.Index h (inl e) = absurd cc
not_allowed types.Index h (inr e) = absurd cc
not_allowed types.CommitStart h (inl e) = absurd cc
not_allowed types.CommitStart h (inr e) = absurd cc
not_allowed types.Orphans h (inl e) = absurd cc
not_allowed types.Orphans h (inr e) = absurd cc

-- ---- one node, and the tail
none_is : (o : Option Feature) (what : Feature) → o ≡ None → o ≡ Some what → ⊥
none_is o what e f = let g = sym e ∙ f in absurd cc

one_feature : (a b : Feature) (o : Option Feature) → o ≡ Some a → o ≡ Some b → a ≡ b
one_feature a b o e f = let g = sym e ∙ f in cc

-- what a feature's need tells is first at its place
pub node_needs : (leb : List ℕ) (lnum : ℕ) (found : Found) (what : Feature) (o : Option Feature) → o ≡ Some what → NeedsFeature leb found.offs what → ((other : Feature) → NeedsFeature leb found.offs other → o ≡ Some other)
    → IsFirstFound (IsWrongFound leb lnum found) (Some (record { lnum = lnum; offs = found.offs; misfit = Needs what }))
node_needs leb lnum found what o is needed only = record {
  wrong = record { in_leb = refl; here = refl; wrong = inr (what, needed, refl) };
  least = λ other w. elim w.wrong [
    | inl (never, value) ↦ there_not other lnum found.offs (differs 1 (type_number found.kind)) (needs what) w.in_leb w.here value refl
    | inr (there, also, value) ↦ there_not other lnum found.offs (needs what) (needs what) w.in_leb w.here (value ∙ ap needs (sym (one_feature what there o is (only there also)))) (feature_once what)
  ];
}

pub node_fine : (leb : List ℕ) (lnum : ℕ) (found : Found) (o : Option Feature) → o ≡ None → may_stand found.kind ≡ true → ((other : Feature) → NeedsFeature leb found.offs other → o ≡ Some other) → IsFirstFound (IsWrongFound leb lnum found) None
node_fine leb lnum found o none may only = λ at w. elim w.wrong [
  | inl (never, value) ↦ never (allowed found.kind may)
  | inr (there, also, value) ↦ none_is o there none (only there also)
]

pub node_type : (leb : List ℕ) (lnum kind : ℕ) (found : Found) (o : Option Feature) → o ≡ None → kind ≡ type_number found.kind → may_stand found.kind ≡ false → ((other : Feature) → NeedsFeature leb found.offs other → o ≡ Some other)
    → IsFirstFound (IsWrongFound leb lnum found) (Some (record { lnum = lnum; offs = found.offs; misfit = Unwanted kind }))
node_type leb lnum kind found o none is may only = record {
  wrong = record { in_leb = refl; here = refl; wrong = inl (not_allowed found.kind may, ap (differs 1) is) };
  least = λ other w. elim w.wrong [
    | inl (never, value) ↦ there_not other lnum found.offs (differs 1 kind) (differs 1 kind) w.in_leb w.here (value ∙ ap (differs 1) (sym is)) (type_once kind)
    | inr (there, also, value) ↦ absurd (none_is o there none (only there also))
  ];
}

pub end_needs : (leb : List ℕ) (lnum end : ℕ) (what : Feature) (o : Option Feature) → o ≡ Some what → NeedsFeature leb end what → ((other : Feature) → NeedsFeature leb end other → o ≡ Some other)
    → IsFirstFound (IsWrongEnd leb lnum end) (Some (record { lnum = lnum; offs = end; misfit = Needs what }))
end_needs leb lnum end what o is needed only = record {
  wrong = record { in_leb = refl; here = refl; wrong = (what, needed, refl) };
  least = λ other w. there_not other lnum end (needs what) (needs what) w.in_leb w.here (w.wrong.2 ∙ ap needs (sym (one_feature what w.wrong.0 o is (only w.wrong.0 w.wrong.1)))) (feature_once what);
}

pub end_fine : (leb : List ℕ) (lnum end : ℕ) (o : Option Feature) → o ≡ None → ((other : Feature) → NeedsFeature leb end other → o ≡ Some other) → IsFirstFound (IsWrongEnd leb lnum end) None
end_fine leb lnum end o none only = λ at w. none_is o w.wrong.0 none (only w.wrong.0 w.wrong.1)

-- ---- the nodes of a text
-- at one of these nodes
abbrev pub IsWrongAmong : List ℕ → ℕ → List Found → Wrong → Type 0
IsWrongAmong leb lnum nodes at = (found : Found) × IsOneOf found nodes × IsWrongFound leb lnum found at

pub nodes_none : (leb : List ℕ) (lnum : ℕ) → IsFirstFound (IsWrongAmong leb lnum []) None
nodes_none leb lnum = λ at w. one_of_none w.0 w.1

pub nodes_next : (leb : List ℕ) (lnum : ℕ) (nodes : List Found) (found : Found) (first one next : Option BudWrong) → next ≡ first_of_two first one → IsFirstFound (IsWrongAmong leb lnum nodes) first → IsFirstFound (IsWrongFound leb lnum found) one
    → IsFirstFound (IsWrongAmong leb lnum (nodes ++ found ∷ [])) next
nodes_next leb lnum nodes found first one next e h k =
    let R : Option BudWrong → Type 0 = λ o. IsFirstFound (IsWrongAmong leb lnum (nodes ++ found ∷ [])) o in
    subst R (sym e) (first_same (λ at. IsWrongAmong leb lnum nodes at ⊎ IsWrongFound leb lnum found at) (IsWrongAmong leb lnum (nodes ++ found ∷ [])) (first_of_two first one)
    (λ at w. elim w [ inl (own, among, wrong) ↦ (own, in_front own found nodes among, wrong) | inr wrong ↦ (found, is_one_at_end found nodes, wrong) ])
    (λ at w. elim (front_or_end w.0 found nodes w.1) [ inl among ↦ inl (w.0, among, w.2) | inr is ↦ inr (let P : Found → Type 0 = λ f. IsWrongFound leb lnum f at in subst P is w.2) ])
    (either_first (IsWrongAmong leb lnum nodes) (IsWrongFound leb lnum found) first one h k))

-- ---- a text
to_text : (bud : BudText) (items : List Item) (end : ℕ) (tail : Tail) → IsText bud.bytes bud.from items end tail → (at : Wrong) → IsWrongAmong bud.bytes bud.lnum (nodes_of items) at ⊎ IsWrongEnd bud.bytes bud.lnum end at → IsWrongText bud at
to_text bud items end tail text at (inl (found, among, w)) = record {
  items = items;
  end = end;
  tail = tail;
  is_text = text;
  lnum = w.in_leb;
  wrong = elim w.wrong [
    | inl (never, value) ↦ inl (found, among, never, w.here, value)
    | inr (what, needed, value) ↦ inr (what, (let P : ℕ → Type 0 = λ n. NeedsFeature bud.bytes n what in subst P (sym w.here) needed), inr (found, among, w.here), value)
  ];
}
to_text bud items end tail text at (inr w) = record {
  items = items;
  end = end;
  tail = tail;
  is_text = text;
  lnum = w.in_leb;
  wrong = inr (w.wrong.0, (let P : ℕ → Type 0 = λ n. NeedsFeature bud.bytes n w.wrong.0 in subst P (sym w.here) w.wrong.1), inl w.here, w.wrong.2);
}

from_text : OneText → (bud : BudText) (items : List Item) (end : ℕ) (tail : Tail) → IsBytes bud.bytes → IsText bud.bytes bud.from items end tail → (at : Wrong) → IsWrongText bud at → IsWrongAmong bud.bytes bud.lnum (nodes_of items) at ⊎ IsWrongEnd bud.bytes bud.lnum end at
from_text one bud items end tail fits text at w =
    let same = one bud.bytes bud.from w.end end w.items items w.tail tail fits w.is_text text in
    let N : List Item → Type 0 = λ xs. (found : Found) → IsOneOf found (nodes_of w.items) → IsOneOf found (nodes_of xs) in
    let move : (found : Found) → IsOneOf found (nodes_of w.items) → IsOneOf found (nodes_of items) = subst N same.0 (λ found h. h) in
    elim w.wrong [
      | inl (found, among, never, here, value) ↦ inl (found, move found among, record { in_leb = w.lnum; here = here; wrong = inl (never, value) })
      | inr (what, needed, inl here, value) ↦
          let P : ℕ → Type 0 = λ n. NeedsFeature bud.bytes n what in
          inr (record { in_leb = w.lnum; here = here ∙ same.1; wrong = (what, subst P (here ∙ same.1) needed, value) })
      | inr (what, needed, inr (found, among, here), value) ↦
          let P : ℕ → Type 0 = λ n. NeedsFeature bud.bytes n what in
          inl (found, move found among, record { in_leb = w.lnum; here = here; wrong = inr (what, subst P here needed, value) })
    ]

pub text_first : OneText → (bud : BudText) (place end there : ℕ) (nodes : List Found) (first tail next : Option BudWrong) → IsBytes bud.bytes → IsGathered bud.bytes bud.from place nodes → IsLast bud.bytes place end (tail_at bud.bytes end) → there ≡ end
    → next ≡ first_of_two first tail → IsFirstFound (IsWrongAmong bud.bytes bud.lnum nodes) first → IsFirstFound (IsWrongEnd bud.bytes bud.lnum there) tail → IsFirstFound (IsWrongText bud) next
text_first one bud place end there nodes first tail next fits gathered last at e h k =
    let text = gathered_end bud.bytes bud.from place end there nodes (tail_at bud.bytes end) gathered last at refl in
    let N : List Found → Type 0 = λ ns. IsFirstFound (IsWrongAmong bud.bytes bud.lnum ns) first in
    let R : Option BudWrong → Type 0 = λ o. IsFirstFound (IsWrongText bud) o in
    subst R (sym e) (first_same (λ w. IsWrongAmong bud.bytes bud.lnum (nodes_of text.0) w ⊎ IsWrongEnd bud.bytes bud.lnum there w) (IsWrongText bud) (first_of_two first tail)
    (to_text bud text.0 there (tail_at bud.bytes end) text.1) (from_text one bud text.0 there (tail_at bud.bytes end) fits text.1)
    (either_first (IsWrongAmong bud.bytes bud.lnum (nodes_of text.0)) (IsWrongEnd bud.bytes bud.lnum there) first tail (subst N text.2 h) k))

-- ---- all texts
pub texts_none : IsFirstFound (IsWrongTexts []) None
texts_none = λ at w. one_of_none w.0 w.1

pub texts_next : (texts : List BudText) (bud : BudText) (first one next : Option BudWrong) → next ≡ first_of_two first one → IsFirstFound (IsWrongTexts texts) first → IsFirstFound (IsWrongText bud) one → IsFirstFound (IsWrongTexts (texts ++ bud ∷ [])) next
texts_next texts bud first one next e h k =
    let R : Option BudWrong → Type 0 = λ o. IsFirstFound (IsWrongTexts (texts ++ bud ∷ [])) o in
    subst R (sym e) (first_same (λ at. IsWrongTexts texts at ⊎ IsWrongText bud at) (IsWrongTexts (texts ++ bud ∷ [])) (first_of_two first one)
    (λ at w. elim w [ inl (own, among, wrong) ↦ (own, in_front own bud texts among, wrong) | inr wrong ↦ (bud, is_one_at_end bud texts, wrong) ])
    (λ at w. elim (front_or_end w.0 bud texts w.1) [ inl among ↦ inl (w.0, among, w.2) | inr is ↦ inr (let P : BudText → Type 0 = λ b. IsWrongText b at in subst P is w.2) ])
    (either_first (IsWrongTexts texts) (IsWrongText bud) first one h k))

pub no_left : (texts : List BudText) → length texts ≡ 0 → texts ≡ []
no_left [] h = refl
no_left (x ∷ texts) h = absurd (omega (arith, h))
