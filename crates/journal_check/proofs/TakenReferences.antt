-- The references of a LEB, one more at a time.
use Rattle.std.proofs.Common.{◌≡◌, ℕ, List, [], ◌∷◌, ◌++◌, Option, Some, None, refl, ap, sym, ◌∙◌, subst, inl, inr, append-nil, append_assoc}
use Rattle.std.specs.Prelude.{◌≢◌, ◌⊎◌}
use Rattle.ubifs_base.specs.NodeLaws.{IsBytes}
use Rattle.ubifs_base.specs.declared.node_type.NodeType.TheVariants as types
use Rattle.ubifs_base.specs.declared.raw_geometry.RawGeometry.{RawGeometry}
use Rattle.media_sys.specs.declared.ref_node.RefNode.{RefNode}
use Rattle.leb_scan.specs.Text.{IsLast, tail_at}
use Rattle.leb_scan.specs.Gathered.{IsGathered, gathered_end}
use Rattle.leb_scan.specs.declared.found.Found.{Found}
use Rattle.small_areas.specs.declared.misplaced.Misplaced.{Misplaced}
use Rattle.bud_log.specs.LogText.{IsReferenceAt, Refer}
use Rattle.bud_log.specs.OneTextLaws.{one_reference}
use Rattle.bud_log.specs.References.{OneSystemNode, refer_then}
use Rattle.sound_image.specs.LogBreaches.{misnamed}
use Rattle.sound_image.specs.Wrong.{Wrong, differs}
use Rattle.sound_image.specs.WrongLaws.{first_or_behind, back_of_two, one_of_two, front_of_two, one_of_none}
use Rattle.image_check.specs.WrongValues.{IsFirstOf, sooner_of}
use Rattle.journal_check.specs.LogChecks.{AreTaken, IsMisnamedAmong, differing_at}
use Rattle.image_check.specs.declared.wrong_value.WrongValue.{WrongValue}
use Rattle.image_check.specs.FirstLaws.{first_alone, first_of_both, first_same}

pub placed_same : (m n : Misplaced) → Some m ≡ Some n → m ≡ n
placed_same m n h = cc

-- one of two lists of nodes has such a reference
among_either : (geo : RawGeometry) (leb : List ℕ) (lnum : ℕ) (a b : List Found) (at : Wrong) → IsMisnamedAmong geo leb lnum a at ⊎ IsMisnamedAmong geo leb lnum b at → IsMisnamedAmong geo leb lnum (a ++ b) at
among_either geo leb lnum a b at (inl w) = record { found = w.found; stands = front_of_two w.found a b w.stands; kind = w.kind; node = w.node; is = w.is; wanted = w.wanted; there = w.there; past = w.past; at_is = w.at_is }
among_either geo leb lnum a b at (inr w) = record { found = w.found; stands = back_of_two w.found a b w.stands; kind = w.kind; node = w.node; is = w.is; wanted = w.wanted; there = w.there; past = w.past; at_is = w.at_is }

among_parts : (geo : RawGeometry) (leb : List ℕ) (lnum : ℕ) (a b : List Found) (at : Wrong) → IsMisnamedAmong geo leb lnum (a ++ b) at → IsMisnamedAmong geo leb lnum a at ⊎ IsMisnamedAmong geo leb lnum b at
among_parts geo leb lnum a b at w = elim (one_of_two w.found a b w.stands) [
  | inl here ↦ inl (record { found = w.found; stands = here; kind = w.kind; node = w.node; is = w.is; wanted = w.wanted; there = w.there; past = w.past; at_is = w.at_is })
  | inr there ↦ inr (record { found = w.found; stands = there; kind = w.kind; node = w.node; is = w.is; wanted = w.wanted; there = w.there; past = w.past; at_is = w.at_is })
]

-- it is the one that there is
the_one : (geo : RawGeometry) (leb : List ℕ) (lnum : ℕ) (found : Found) (at : Wrong) (w : IsMisnamedAmong geo leb lnum (found ∷ []) at) → w.found ≡ found
the_one geo leb lnum found at w = elim (first_or_behind w.found found [] w.stands) [ inl e ↦ e | inr more ↦ absurd (one_of_none w.found more) ]

-- of one reference alone, what is wrong is one thing
one_misnamed : OneSystemNode → (geo : RawGeometry) (leb : List ℕ) (lnum : ℕ) (found : Found) (node : RefNode) → IsBytes leb → found.kind ≡ types.Reference → IsReferenceAt leb found node
    → IsFirstOf (IsMisnamedAmong geo leb lnum (found ∷ [])) (differing_at lnum found.offs (misnamed geo node))
one_misnamed one geo leb lnum found node fits kind is = by (misnamed geo node) refl
  where
    same_node : (at : Wrong) (w : IsMisnamedAmong geo leb lnum (found ∷ []) at) → misnamed geo node ≡ Some (record { wanted = w.wanted; found = w.there })
    same_node at w =
        let P : Found → Type 0 = λ f. IsReferenceAt leb f w.node in
        ap (misnamed geo) (one_reference one leb found node w.node fits is (subst P (the_one geo leb lnum found at w) w.is)) ∙ w.past

    by : (m : Option Misplaced) → misnamed geo node ≡ m → IsFirstOf (IsMisnamedAmong geo leb lnum (found ∷ [])) (differing_at lnum found.offs m)
    by None e = λ at w. (let k = sym e ∙ same_node at w in absurd cc)
    by (Some m) e =
        first_alone (IsMisnamedAmong geo leb lnum (found ∷ [])) (record { lnum = lnum; offs = found.offs; wanted = m.wanted; found = m.found })
        (record { found = found; stands = ([], [], refl); kind = kind; node = node; is = is; wanted = m.wanted; there = m.found; past = e; at_is = refl })
        (λ at w.
        let told : Misplaced → Wrong = λ x. record { lnum = lnum; offs = found.offs; misfit = differs x.wanted x.found } in
        let place : Found → Wrong = λ f. record { lnum = lnum; offs = f.offs; misfit = differs w.wanted w.there } in
        w.at_is ∙ ap place (the_one geo leb lnum found at w) ∙ ap told (placed_same (record { wanted = w.wanted; found = w.there }) m (sym (same_node at w) ∙ e)))

-- what the loop over a text keeps
pub record AreTakenSoFar (geo : RawGeometry) (leb : List ℕ) (lnum : ℕ) (nodes : List Found) (old new : List RefNode) (first : Option WrongValue) : Type 0 where
  pub references : List RefNode
  pub refer : Refer leb nodes references
  pub are : new ≡ old ++ references
  pub is_first : IsFirstOf (IsMisnamedAmong geo leb lnum nodes) first

pub taken_none : (geo : RawGeometry) (leb : List ℕ) (lnum : ℕ) (old : List RefNode) → AreTakenSoFar geo leb lnum [] old old None
taken_none geo leb lnum old = record { references = []; refer = refl; are = sym (append-nil old); is_first = λ at w. one_of_none w.found w.stands }

pub taken_other : (geo : RawGeometry) (leb : List ℕ) (lnum : ℕ) (nodes : List Found) (old new : List RefNode) (first : Option WrongValue) (found : Found) → found.kind ≢ types.Reference → AreTakenSoFar geo leb lnum nodes old new first
    → AreTakenSoFar geo leb lnum (nodes ++ found ∷ []) old new first
taken_other geo leb lnum nodes old new first found other h =
    let P : List RefNode → Type 0 = λ x. Refer leb (nodes ++ found ∷ []) x in
    record {
      references = h.references;
      refer = subst P (append-nil h.references) (refer_then leb nodes (found ∷ []) h.references [] h.refer (inl (other, refl)));
      are = h.are;
      is_first = first_same (IsMisnamedAmong geo leb lnum nodes) (IsMisnamedAmong geo leb lnum (nodes ++ found ∷ [])) first (λ at w. among_either geo leb lnum nodes (found ∷ []) at (inl w))
          (λ at w. elim (among_parts geo leb lnum nodes (found ∷ []) at w) [ inl here ↦ here | inr there ↦ absurd (other (ap (λ (f : Found). f.kind) (sym (the_one geo leb lnum found at there)) ∙ there.kind)) ])
          h.is_first;
    }

pub taken_more : OneSystemNode → (geo : RawGeometry) (leb : List ℕ) (lnum : ℕ) (nodes : List Found) (old now new : List RefNode) (first next misplaced : Option WrongValue) (found : Found) (node : RefNode) → IsBytes leb → found.kind ≡ types.Reference → IsReferenceAt leb found node
    → AreTakenSoFar geo leb lnum nodes old now first → misplaced ≡ differing_at lnum found.offs (misnamed geo node) → next ≡ sooner_of first misplaced → new ≡ now ++ node ∷ [] → AreTakenSoFar geo leb lnum (nodes ++ found ∷ []) old new next
taken_more one geo leb lnum nodes old now new first next misplaced found node fits kind is h misplaced_is next_is new_is =
    let own = one_misnamed one geo leb lnum found node fits kind is in
    let F : Option WrongValue → Type 0 = λ o. IsFirstOf (IsMisnamedAmong geo leb lnum (nodes ++ found ∷ [])) o in
    let G : Option WrongValue → Type 0 = λ o. IsFirstOf (IsMisnamedAmong geo leb lnum (found ∷ [])) o in
    let both = first_of_both (IsMisnamedAmong geo leb lnum nodes) (IsMisnamedAmong geo leb lnum (found ∷ [])) first misplaced h.is_first (subst G (sym misplaced_is) own) in
    record {
      references = h.references ++ node ∷ [];
      refer = refer_then leb nodes (found ∷ []) h.references (node ∷ []) h.refer (inr (kind, node, [], is, refl, refl));
      are = new_is ∙ ap (λ (x : List RefNode). x ++ node ∷ []) h.are ∙ append_assoc old h.references (node ∷ []);
      is_first = subst F (sym next_is)
          (first_same (λ at. IsMisnamedAmong geo leb lnum nodes at ⊎ IsMisnamedAmong geo leb lnum (found ∷ []) at) (IsMisnamedAmong geo leb lnum (nodes ++ found ∷ [])) (sooner_of first misplaced) (λ at w. among_either geo leb lnum nodes (found ∷ []) at w) (λ at w. among_parts geo leb lnum nodes (found ∷ []) at w) both);
    }

-- at the end of the text
pub taken_all : (geo : RawGeometry) (leb : List ℕ) (lnum place end : ℕ) (nodes : List Found) (old new : List RefNode) (first : Option WrongValue) → IsGathered leb 0 place nodes → AreTakenSoFar geo leb lnum nodes old new first → IsLast leb place end (tail_at leb end)
    → AreTaken geo leb lnum old new first
taken_all geo leb lnum place end nodes old new first gathered h last =
    let text = gathered_end leb 0 place end end nodes (tail_at leb end) gathered last refl refl in
    let P : List Found → Type 0 = λ n. Refer leb n h.references in
    let Q : List Found → Type 0 = λ n. IsFirstOf (IsMisnamedAmong geo leb lnum n) first in
    record { items = text.0; end = end; tail = tail_at leb end; is_text = text.1; references = h.references; refer = subst P text.2 h.refer; are = h.are; is_first = subst Q text.2 h.is_first }
