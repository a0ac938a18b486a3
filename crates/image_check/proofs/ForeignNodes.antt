-- What stands in a LEB of the orphan area.
use Rattle.std.proofs.Common.{◌≡◌, ℕ, ◌+◌, ◌<◌, ◌≤◌, Bool, true, false, List, [], ◌∷◌, ◌++◌, Option, Some, None, IfSome, IfNone, length, drop, ap, sym, subst, ◌∙◌, inl, inr, arith, refl, append_assoc}
use Rattle.std.specs.Prelude.{◌⊎◌, ◌≢◌, All, if◌then◌else◌}
use Rattle.std.proofs.lemmas.List.{length-take}
use Rattle.std.proofs.lemmas.List.Elements.{All-head, All-nil, All-push, All-tail}
use Rattle.ubifs_base.specs.Node.{node_bytes}
use Rattle.ubifs_base.specs.NodeLaws.{IsBytes}
use Rattle.ubifs_base.specs.NodeType.{type_number}
use Rattle.ubifs_base.specs.declared.node_type.NodeType.{NodeType}
use Rattle.ubifs_base.specs.declared.node_type.NodeType.TheVariants as types
use Rattle.leb_scan.specs.Fronts.{own_before}
use Rattle.leb_scan.specs.Fronts as front
use Rattle.leb_scan.specs.Gathered.{IsGathered, gathered_end}
use Rattle.leb_scan.specs.Text.{AnyNode, IsLast, IsText, Stand, StandsAt, behind, leaf, nodes_of, system, tail_at}
use Rattle.leb_scan.specs.TextLaws.{same_parts}
use Rattle.leb_scan.specs.declared.found.Found.{Found}
use Rattle.leb_scan.specs.declared.item.Item.{Item}
use Rattle.leb_scan.specs.declared.item.Item.TheVariants.{Node, Padding, Word}
use Rattle.leb_scan.specs.declared.tail.Tail.{Tail}
use Rattle.leb_scan.specs.declared.tail.Tail.TheVariants.{Clean, Torn}
use Rattle.small_areas.specs.MasterLaws.{OneText}
use Rattle.sound_image.specs.OrphanLists.{HasOrphanNodes}
use Rattle.sound_image.specs.Wrong.{IsOneOf, type_byte}
use Rattle.image_check.specs.Firsts.{IsFirstForeign, IsForeign, first_foreign_of, foreign_or_tail, is_orphan_or_padding}
use Rattle.image_check.specs.declared.orphan_lists.Foreign.{Foreign}

-- ---- types
abbrev pub MayBeListed : Found → Type 0
MayBeListed found = (found.kind ≡ types.Orphans) ⊎ (found.kind ≡ types.Padding)

known_type : (kind : NodeType) → is_orphan_or_padding kind ≡ true → (kind ≡ types.Orphans) ⊎ (kind ≡ types.Padding)
known_type types.Orphans h = inl refl
known_type types.Padding h = inr refl
known_type types.Inode h = absurd cc
known_type types.Data h = absurd cc
known_type types.Entry h = absurd cc
known_type types.Attribute h = absurd cc
known_type types.Truncation h = absurd cc
known_type types.Superblock h = absurd cc
known_type types.Master h = absurd cc
known_type types.Reference h = absurd cc
known_type types.Index h = absurd cc
known_type types.CommitStart h = absurd cc

foreign_type : (kind : NodeType) → is_orphan_or_padding kind ≡ false → (kind ≢ types.Orphans) × (kind ≢ types.Padding)
foreign_type kind h = (λ e. let k = sym (ap is_orphan_or_padding e) ∙ h in absurd cc, λ e. let k = sym (ap is_orphan_or_padding e) ∙ h in absurd cc)

-- ---- places in a text
node_length : (sqnum kind group : ℕ) (pad body : List ℕ) → length pad ≡ 2 → length (node_bytes sqnum kind group pad body) ≡ 24 + length body
unfolding node_bytes
node_length sqnum kind group [] body two = absurd (omega (arith, two))
node_length sqnum kind group (a ∷ []) body two = absurd (omega (arith, two))
node_length sqnum kind group (a ∷ b ∷ []) body two = omega arith
node_length sqnum kind group (a ∷ b ∷ x ∷ pad) body two = absurd (omega (arith, two))

-- a node has a header of 24 bytes
long_at : (leb : List ℕ) (place : ℕ) (found : Found) (node : AnyNode) → StandsAt leb place found node → 24 ≤ found.len
long_at leb place found (leaf node) h =
    let spelled = ap length h.is.framed.spelled ∙ node_length found.sqnum _ found.group h.is.framed.padding h.is.body h.is.framed.two in
    let cut = length-take found.len (drop place leb) in
    omega (arith, spelled, cut)
long_at leb place found (system node) h =
    let spelled = ap length h.is.framed.spelled ∙ node_length found.sqnum _ found.group h.is.framed.padding h.is.body h.is.framed.two in
    let cut = length-take found.len (drop place leb) in
    omega (arith, spelled, cut)

-- no node of items stands before them
from_place : (leb : List ℕ) (items : List Item) (place end : ℕ) (before rest : List Found) (found : Found) → Stand leb place items end → nodes_of items ≡ before ++ (found ∷ rest) → place ≤ found.offs
from_place leb [] place end [] rest found h e = absurd cc
from_place leb [] place end (b ∷ before) rest found h e = absurd cc
from_place leb (Word ∷ items) place end before rest found h e =
    let own = own_before leb place Word h.0 in
    let more = from_place leb items (behind leb place Word) end before rest found h.1 e in
    omega (arith, own, more)
from_place leb (Node first ∷ items) place end [] rest found h e =
    let here = h.0.stands.here in
    let same = ap (λ (f : Found). f.offs) (same_parts first found (nodes_of items) rest e).0 in
    omega (arith, here, same)
from_place leb (Node first ∷ items) place end (b ∷ before) rest found h e =
    let own = own_before leb place (Node first) h.0 in
    let more = from_place leb items (behind leb place (Node first)) end before rest found h.1 (same_parts first b (nodes_of items) (before ++ (found ∷ rest)) e).1 in
    omega (arith, own, more)
from_place leb (Padding first pad_len ∷ items) place end [] rest found h e =
    let here = h.0.stands.here in
    let same = ap (λ (f : Found). f.offs) (same_parts first found (nodes_of items) rest e).0 in
    omega (arith, here, same)
from_place leb (Padding first pad_len ∷ items) place end (b ∷ before) rest found h e =
    let own = own_before leb place (Padding first pad_len) h.0 in
    let more = from_place leb items (behind leb place (Padding first pad_len)) end before rest found h.1 (same_parts first b (nodes_of items) (before ++ (found ∷ rest)) e).1 in
    omega (arith, own, more)

-- each node ends a header's length behind its place at least, and the nodes behind it stand behind that
after_node : (leb : List ℕ) (items : List Item) (place end : ℕ) (before rest : List Found) (found : Found) → Stand leb place items end → nodes_of items ≡ before ++ (found ∷ rest)
    → (found.offs < end) × ((b c : List Found) (other : Found) → rest ≡ b ++ (other ∷ c) → found.offs < other.offs)
after_node leb [] place end [] rest found h e = absurd cc
after_node leb [] place end (b ∷ before) rest found h e = absurd cc
after_node leb (Word ∷ items) place end before rest found h e = after_node leb items (behind leb place Word) end before rest found h.1 e
after_node leb (Node first ∷ items) place end [] rest found h e =
    let parts = same_parts first found (nodes_of items) rest e in
    let own = own_before leb place (Node first) h.0 in
    let here = h.0.stands.here in
    let same = ap (λ (f : Found). f.offs) parts.0 in
    let long = long_at leb place first h.0.node h.0.stands in
    let later = front.not_before leb (behind leb place (Node first)) end items h.1 in (
      omega (arith, own, here, same, long, later),
      λ b c other is. let more = from_place leb items (behind leb place (Node first)) end b c other h.1 (parts.1 ∙ is) in omega (arith, own, here, same, long, more),
    )
after_node leb (Node first ∷ items) place end (b ∷ before) rest found h e =
    after_node leb items (behind leb place (Node first)) end before rest found h.1 (same_parts first b (nodes_of items) (before ++ (found ∷ rest)) e).1
after_node leb (Padding first pad_len ∷ items) place end [] rest found h e =
    let parts = same_parts first found (nodes_of items) rest e in
    let own = own_before leb place (Padding first pad_len) h.0 in
    let here = h.0.stands.here in
    let same = ap (λ (f : Found). f.offs) parts.0 in
    let long = long_at leb place first (system _) h.0.stands in
    let later = front.not_before leb (behind leb place (Padding first pad_len)) end items h.1 in (
      omega (arith, own, here, same, long, later),
      λ b c other is. let more = from_place leb items (behind leb place (Padding first pad_len)) end b c other h.1 (parts.1 ∙ is) in omega (arith, own, here, same, long, more),
    )
after_node leb (Padding first pad_len ∷ items) place end (b ∷ before) rest found h e =
    after_node leb items (behind leb place (Padding first pad_len)) end before rest found h.1 (same_parts first b (nodes_of items) (before ++ (found ∷ rest)) e).1

-- ---- what was found first
-- of these nodes this was found first: none, if all may stand there
abbrev pub IsFirstAmong : List Found → Option Foreign → Type 0
IsFirstAmong nodes None = All MayBeListed nodes
IsFirstAmong nodes (Some foreign) =
    (before : List Found) × (found : Found) × (rest : List Found) × (nodes ≡ before ++ (found ∷ rest)) × All MayBeListed before
    × (is_orphan_or_padding found.kind ≡ false) × (foreign.offs ≡ found.offs) × (foreign.kind ≡ type_number found.kind)

pub among_none : IsFirstAmong [] None
among_none = All-nil MayBeListed

from_next : (nodes : List Found) (found : Found) (b : Bool) → is_orphan_or_padding found.kind ≡ b → All MayBeListed nodes → IsFirstAmong (nodes ++ found ∷ []) (if b then None else Some (record { offs = found.offs; kind = type_number found.kind }))
from_next nodes found true e all = All-push MayBeListed nodes found all (known_type found.kind e)
from_next nodes found false e all = (nodes, found, [], refl, all, e, refl, refl)

among_next : (nodes : List Found) (first : Option Foreign) (found : Found) → IsFirstAmong nodes first → IsFirstAmong (nodes ++ found ∷ []) (first_foreign_of first found)
among_next nodes None found h = from_next nodes found (is_orphan_or_padding found.kind) refl h
among_next nodes (Some foreign) found (before, one, rest, parts, known, other, offs, kind) =
    (before, one, rest ++ found ∷ [], ap (λ (n : List Found). n ++ found ∷ []) parts ∙ append_assoc before (one ∷ rest) (found ∷ []), known, other, offs, kind)

-- the same along what a call answers
pub among_after : (nodes : List Found) (first next : Option Foreign) (found : Found) → next ≡ first_foreign_of first found → IsFirstAmong nodes first → IsFirstAmong (nodes ++ found ∷ []) next
among_after nodes first next found e h = let P : Option Foreign → Type 0 = λ o. IsFirstAmong (nodes ++ found ∷ []) o in subst P (sym e) (among_next nodes first found h)

-- where a list is cut at two places, the second is before, at or behind the first
two_cuts : (b1 c1 b2 c2 : List Found) (f1 f2 : Found) → b1 ++ (f1 ∷ c1) ≡ b2 ++ (f2 ∷ c2) → IsOneOf f2 b1 ⊎ ((f1 ≡ f2) ⊎ IsOneOf f2 c1)
two_cuts [] c1 [] c2 f1 f2 e = inr (inl (same_parts f1 f2 c1 c2 e).0)
two_cuts [] c1 (b ∷ b2) c2 f1 f2 e = inr (inr (b2, c2, (same_parts f1 b c1 (b2 ++ (f2 ∷ c2)) e).1))
two_cuts (a ∷ b1) c1 [] c2 f1 f2 e = inl ([], b1, ap (λ (f : Found). f ∷ b1) (same_parts a f2 (b1 ++ (f1 ∷ c1)) c2 e).0)
two_cuts (a ∷ b1) c1 (b ∷ b2) c2 f1 f2 e =
    let parts = same_parts a b (b1 ++ (f1 ∷ c1)) (b2 ++ (f2 ∷ c2)) e in
    elim (two_cuts b1 c1 b2 c2 f1 f2 parts.1) [ inl (before, rest, is) ↦ inl (a ∷ before, rest, ap (λ (n : List Found). a ∷ n) is) | inr other ↦ inr other ]

one_of_all : (P : Found → Type 0) (xs before rest : List Found) (found : Found) → xs ≡ before ++ (found ∷ rest) → All P xs → P found
one_of_all P xs [] rest found e h = let Q : List Found → Type 0 = λ n. All P n in All-head P found rest (subst Q e h)
one_of_all P xs (b ∷ before) rest found e h = let Q : List Found → Type 0 = λ n. All P n in one_of_all P (before ++ (found ∷ rest)) before rest found refl (All-tail P b (before ++ (found ∷ rest)) (subst Q e h))

not_both : (kind : NodeType) → kind ≢ types.Orphans → kind ≢ types.Padding → (kind ≡ types.Orphans) ⊎ (kind ≡ types.Padding) → ⊥
not_both kind a b (inl e) = a e
not_both kind a b (inr e) = b e

-- a LEB in which something else stands hasn't orphan nodes and padding alone
pub foreign_not : OneText → (leb : List ℕ) (offs kind : ℕ) → IsBytes leb → IsForeign leb offs kind → HasOrphanNodes leb → ⊥
foreign_not text leb offs kind fits wrong own =
    let same = text leb 0 own.end wrong.end own.items wrong.items Clean wrong.tail fits own.is_text wrong.is_text in
    elim wrong.wrong [
      | inl (found, (before, rest, parts), no_orphan, no_padding, at, is) ↦ not_both found.kind no_orphan no_padding (one_of_all MayBeListed (nodes_of own.items) before rest found (ap nodes_of same.0 ∙ parts) own.kinds)
      | inr (torn, at, is) ↦ let e = same.2 ∙ torn in absurd cc
    ]

-- a node that was found first is the first place at which something else stands
foreign_found : OneText → (leb : List ℕ) (place end : ℕ) (nodes : List Found) (foreign : Foreign) → IsBytes leb → IsGathered leb 0 place nodes → IsFirstAmong nodes (Some foreign) → IsLast leb place end (tail_at leb end) → IsFirstForeign leb foreign.offs foreign.kind
foreign_found one leb place end nodes foreign fits gathered (before, found, rest, parts, known, other, offs, kind) last =
    let text = gathered_end leb 0 place end end nodes (tail_at leb end) gathered last refl refl in
    let cut = sym text.2 ∙ parts in
    let type = foreign_type found.kind other in
    let after = after_node leb text.0 0 end before rest found text.1.stand cut in
    record {
      is = record { items = text.0; end = end; tail = tail_at leb end; is_text = text.1; wrong = inl (found, (before, rest, cut), type.0, type.1, offs, kind) };
      least = λ there value h.
          let same = one leb 0 end h.end text.0 h.items (tail_at leb end) h.tail fits text.1 h.is_text in
          elim h.wrong [
            | inl (own, (b, c, is), no_orphan, no_padding, own_offs, own_kind) ↦ elim (two_cuts before rest b c found own (sym cut ∙ ap nodes_of same.0 ∙ is)) [
              | inl (x, y, among) ↦ absurd (not_both own.kind no_orphan no_padding (one_of_all MayBeListed before x y own among known))
              | inr (inl it) ↦ let e = ap (λ (f : Found). f.offs) it in (omega (arith, e, offs, own_offs), λ s. own_kind ∙ sym (ap (λ (f : Found). type_number f.kind) it) ∙ sym kind)
              | inr (inr (x, y, among)) ↦ let less = after.1 x y own among in (omega (arith, less, offs, own_offs), λ s. absurd (omega (arith, s, less, offs, own_offs)))
            ]
            | inr (torn, own_offs, own_kind) ↦ let less = after.0 in let e = same.1 in (omega (arith, less, offs, own_offs, e), λ s. absurd (omega (arith, s, less, offs, own_offs, e)))
          ];
    }

-- where none was found, all nodes may stand there
all_listed : (nodes : List Found) (first : Option Foreign) → first ≡ None → IsFirstAmong nodes first → All MayBeListed nodes
all_listed nodes first e h = let P : Option Foreign → Type 0 = λ o. IsFirstAmong nodes o in subst P e h

foreign_none : (leb : List ℕ) (place end : ℕ) (nodes : List Found) (first : Option Foreign) → first ≡ None → tail_at leb end ≡ Clean → IsGathered leb 0 place nodes → IsFirstAmong nodes first → IsLast leb place end (tail_at leb end) → HasOrphanNodes leb
foreign_none leb place end nodes first none clean gathered h last =
    let text = gathered_end leb 0 place end end nodes (tail_at leb end) gathered last refl refl in
    let P : Tail → Type 0 = λ t. IsText leb 0 text.0 end t in
    let Q : List Found → Type 0 = λ n. All MayBeListed n in
    record { items = text.0; end = end; is_text = subst P clean text.1; kinds = subst Q text.2 (all_listed nodes first none h) }

-- and a torn tail is the first place at which something else stands
foreign_tail : OneText → (leb : List ℕ) (place end : ℕ) (nodes : List Found) (first : Option Foreign) → first ≡ None → tail_at leb end ≡ Torn → IsBytes leb → IsGathered leb 0 place nodes → IsFirstAmong nodes first → IsLast leb place end (tail_at leb end)
    → IsFirstForeign leb end (type_byte leb end)
foreign_tail one leb place end nodes first none torn fits gathered h last =
    let text = gathered_end leb 0 place end end nodes (tail_at leb end) gathered last refl refl in
    let known = all_listed nodes first none h in
    record {
      is = record { items = text.0; end = end; tail = tail_at leb end; is_text = text.1; wrong = inr (torn, refl, refl) };
      least = λ there value w.
          let same = one leb 0 end w.end text.0 w.items (tail_at leb end) w.tail fits text.1 w.is_text in
          elim w.wrong [
            | inl (own, (b, c, is), no_orphan, no_padding, own_offs, own_kind) ↦ absurd (not_both own.kind no_orphan no_padding (one_of_all MayBeListed nodes b c own (text.2 ∙ ap nodes_of same.0 ∙ is) known))
            | inr (also, own_offs, own_kind) ↦ let e = same.1 in (omega (arith, own_offs, e), λ s. own_kind ∙ ap (type_byte leb) (sym e))
          ];
    }

-- at the end of the text
some_by : OneText → (leb : List ℕ) (place end : ℕ) (nodes : List Found) (first : Option Foreign) (tail : Tail) → tail_at leb end ≡ tail → IsBytes leb → IsGathered leb 0 place nodes → IsFirstAmong nodes first → IsLast leb place end (tail_at leb end)
    → IfSome (foreign_or_tail leb first end tail) (λ foreign. IsFirstForeign leb foreign.offs foreign.kind)
some_by one leb place end nodes (Some foreign) tail e fits gathered h last = foreign_found one leb place end nodes foreign fits gathered h last
some_by one leb place end nodes None Clean e fits gathered h last = tt
some_by one leb place end nodes None Torn e fits gathered h last = foreign_tail one leb place end nodes None refl e fits gathered h last

none_by : (leb : List ℕ) (place end : ℕ) (nodes : List Found) (first : Option Foreign) (tail : Tail) → tail_at leb end ≡ tail → IsGathered leb 0 place nodes → IsFirstAmong nodes first → IsLast leb place end (tail_at leb end)
    → IfNone (foreign_or_tail leb first end tail) (HasOrphanNodes leb)
none_by leb place end nodes (Some foreign) tail e gathered h last = tt
none_by leb place end nodes None Clean e gathered h last = foreign_none leb place end nodes None refl e gathered h last
none_by leb place end nodes None Torn e gathered h last = tt

told_as : (leb : List ℕ) (first : Option Foreign) (end there : ℕ) (tail : Tail) (o : Option Foreign) → there ≡ end → tail ≡ tail_at leb end → o ≡ foreign_or_tail leb first there tail → o ≡ foreign_or_tail leb first end (tail_at leb end)
told_as leb first end there tail o at is e = e ∙ ap (λ (n : ℕ). foreign_or_tail leb first n tail) at ∙ ap (foreign_or_tail leb first end) is

pub end_some : OneText → (leb : List ℕ) (place end there : ℕ) (nodes : List Found) (first : Option Foreign) (tail : Tail) (o : Option Foreign) → IsBytes leb → IsGathered leb 0 place nodes → IsFirstAmong nodes first → IsLast leb place end (tail_at leb end)
    → there ≡ end → tail ≡ tail_at leb end → o ≡ foreign_or_tail leb first there tail → IfSome o (λ foreign. IsFirstForeign leb foreign.offs foreign.kind)
end_some one leb place end there nodes first tail o fits gathered h last at is e =
    let P : Option Foreign → Type 0 = λ x. IfSome x (λ foreign. IsFirstForeign leb foreign.offs foreign.kind) in
    subst P (sym (told_as leb first end there tail o at is e)) (some_by one leb place end nodes first (tail_at leb end) refl fits gathered h last)

pub end_none : (leb : List ℕ) (place end there : ℕ) (nodes : List Found) (first : Option Foreign) (tail : Tail) (o : Option Foreign) → IsGathered leb 0 place nodes → IsFirstAmong nodes first → IsLast leb place end (tail_at leb end)
    → there ≡ end → tail ≡ tail_at leb end → o ≡ foreign_or_tail leb first there tail → IfNone o (HasOrphanNodes leb)
end_none leb place end there nodes first tail o gathered h last at is e =
    let P : Option Foreign → Type 0 = λ x. IfNone x (HasOrphanNodes leb) in
    subst P (sym (told_as leb first end there tail o at is e)) (none_by leb place end nodes first (tail_at leb end) refl gathered h last)
