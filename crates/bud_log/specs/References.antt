-- The references among the nodes of a text.
use Rattle.std.proofs.Common.{◌≡◌, inl, inr, ℕ, ◌+◌, ◌≤◌, Bool, true, false, List, [], ◌∷◌, ◌++◌, length, take, drop, Option, Some, None, IfSome, IfNone, refl, ap, sym, ◌∙◌, subst, arith, append-nil}
use Rattle.std.specs.Prelude.{◌≢◌, ◌==◌, if◌then◌else◌, fold, IsSome}
use Rattle.std.proofs.lemmas.Bool.{cases_Bool, eqb-true}
use Rattle.std.proofs.lemmas.List.Sums.{fold-append}
use Rattle.ubifs_base.specs.NodeLaws.{IsBytes}
use Rattle.ubifs_base.specs.NodeType.{type_number}
use Rattle.ubifs_base.specs.declared.node_type.NodeType.TheVariants as types
use Rattle.media_sys.specs.SystemNode.{SystemNode, padding, superblock, master, reference, index, commit_start, orphans, IsRef, IsCommitStart, IsSystemNode}
use Rattle.media_sys.specs.declared.commit_start.CommitStart.{CommitStart}
use Rattle.media_sys.specs.declared.ref_node.RefNode.{RefNode}
use Rattle.leb_scan.specs.Text.{AnyNode, leaf, system, StandsAt, Stand, behind, nodes_of, IsNext, IsLast, tail_at}
use Rattle.leb_scan.specs.TypeLaws.{type_same, cases_type, leaf_low}
use Rattle.leb_scan.specs.Gathered.{IsGathered, gathered_end}
use Rattle.leb_scan.specs.declared.found.Found.{Found}
use Rattle.leb_scan.specs.declared.item.Item.{Item}
use Rattle.leb_scan.specs.declared.item.Item.TheVariants.{Node, Padding, Word}
use Rattle.bud_log.specs.Buds.{named_also}
use Rattle.bud_log.specs.LogText.{LogText, IsReferenceAt, Refer, IsLogTextOf, IsStartAt, begins_with, BeginsCommit, others, is_one_start, is_start_alone}
use Rattle.bud_log.specs.Seen.{HasBeginning, IsSeen, AreNamed}
use Rattle.bud_log.specs.declared.head_at.HeadAt.{HeadAt}
use Rattle.bud_log.specs.declared.seen.Seen.{Seen}
use Rattle.bud_log.specs.Bytes.{bytes_drop, bytes_take}

-- a node that stands at the place that it tells
abbrev pub StandsWhereTold : List ℕ → Found → Type 0
StandsWhereTold leb found = (node : AnyNode) × StandsAt leb found.offs found node

placed : (leb : List ℕ) (place : ℕ) (first found : Found) (node : AnyNode) → first ≡ found → StandsAt leb place first node → StandsWhereTold leb found
placed leb place first found node same stands =
    let P : ℕ → Type 0 = λ p. StandsAt leb p first node in
    let Q : Found → Type 0 = λ f. StandsWhereTold leb f in
    subst Q same (node, subst P (sym stands.here) stands)

pub equal_heads : {X : Type 0} (x y : X) (xs ys : List X) → x ∷ xs ≡ y ∷ ys → (x ≡ y) × (xs ≡ ys)
equal_heads x y xs ys h = (cc, cc)

-- the first of the nodes of items that stand there
stands_first : (leb : List ℕ) (items : List Item) (place end : ℕ) (found : Found) (nodes : List Found) → Stand leb place items end → nodes_of items ≡ found ∷ nodes → StandsWhereTold leb found
stands_first leb [] place end found nodes h e = absurd cc
stands_first leb (Word ∷ items) place end found nodes h e = stands_first leb items (behind leb place Word) end found nodes h.1 e
stands_first leb (Node first ∷ items) place end found nodes h e = placed leb place first found h.0.node (equal_heads first found (nodes_of items) nodes e).0 h.0.stands
stands_first leb (Padding first pad_len ∷ items) place end found nodes h e = placed leb place first found _ (equal_heads first found (nodes_of items) nodes e).0 h.0.stands

-- the next node of a text stands there
pub next_stands : (leb : List ℕ) (from to : ℕ) (found : Found) → IsNext leb from to found → StandsWhereTold leb found
next_stands leb from to found h = stands_first leb h.items from to found [] h.stand h.node

-- a node of the type of references is a reference
pub reference_there : (leb : List ℕ) (found : Found) → found.kind ≡ types.Reference → StandsWhereTold leb found → (node : RefNode) × IsReferenceAt leb found node
reference_there leb found kind (leaf node, h) = let k = ap type_number (sym h.kind ∙ kind) in let l = leaf_low node in absurd (omega (arith, k, l))
reference_there leb found kind (system (reference node), h) = (node, h.is)
reference_there leb found kind (system (padding node), h) = let k = h.kind in absurd cc
reference_there leb found kind (system (superblock node), h) = let k = h.kind in absurd cc
reference_there leb found kind (system (master node), h) = let k = h.kind in absurd cc
reference_there leb found kind (system (index node), h) = let k = h.kind in absurd cc
reference_there leb found kind (system (commit_start node), h) = let k = h.kind in absurd cc
reference_there leb found kind (system (orphans node), h) = let k = h.kind in absurd cc

-- and one of the type of commit starts a commit start
commit_there : (leb : List ℕ) (found : Found) → StandsWhereTold leb found → found.kind ≡ types.CommitStart → (node : CommitStart) × IsStartAt leb found node
commit_there leb found (leaf node, h) kind = let k = ap type_number (sym h.kind ∙ kind) in let l = leaf_low node in absurd (omega (arith, k, l))
commit_there leb found (system (commit_start node), h) kind = (node, h.is)
commit_there leb found (system (padding node), h) kind = let k = h.kind in absurd cc
commit_there leb found (system (superblock node), h) kind = let k = h.kind in absurd cc
commit_there leb found (system (master node), h) kind = let k = h.kind in absurd cc
commit_there leb found (system (index node), h) kind = let k = h.kind in absurd cc
commit_there leb found (system (reference node), h) kind = let k = h.kind in absurd cc
commit_there leb found (system (orphans node), h) kind = let k = h.kind in absurd cc

begins_there : (leb : List ℕ) (nodes : List Found) → ((found : Found) (more : List Found) → nodes ≡ found ∷ more → StandsWhereTold leb found) → HasBeginning leb (begins_with nodes)
begins_there leb [] stands = tt
begins_there leb (found ∷ more) stands =
    let P : Bool → Type 0 = λ b. HasBeginning leb (if b then Some found else None) in
    let there = stands found more refl in
    elim (cases_Bool (found.offs == 0)) [ inl first ↦ subst P (sym first) (there.1.room, commit_there leb found there) | inr behind ↦ subst P (sym behind) tt ]

-- the node with which a text begins
pub text_begins : (leb : List ℕ) (lnum : ℕ) (text : LogText) → IsLogTextOf leb lnum text → HasBeginning leb (begins_with text.nodes)
text_begins leb lnum text h =
    let P : List Found → Type 0 = λ nodes. HasBeginning leb (begins_with nodes) in
    subst P (sym h.nodes) (begins_there leb (nodes_of h.items) (λ found more e. stands_first leb h.items 0 text.ends.offs found more h.is_text.stand e))

pub seen_begins : (leb : List ℕ) (seen : Seen) → IsSeen leb seen → HasBeginning leb seen.begins
seen_begins leb seen h =
    let P : Option Found → Type 0 = λ begins. HasBeginning leb begins in
    subst P (sym h.begins) (begins_there leb (nodes_of h.items) (λ found more e. stands_first leb h.items 0 seen.offs found more h.is_text.stand e))

-- and the commit that it starts
pub some_commit : (leb : List ℕ) (begins : Option Found) → HasBeginning leb begins → (commit : Option ℕ) × BeginsCommit leb begins commit
some_commit leb None h = (None, refl)
some_commit leb (Some found) h = elim (cases_type found.kind types.CommitStart) [ inl kind ↦ let node = h.1 kind in (Some node.0.cmt_no, inr (kind, node.0, node.1, refl)) | inr other ↦ (None, inl (other, refl)) ]

pub padded_room_of : (leb : List ℕ) (found : Found) → StandsWhereTold leb found → found.offs + found.len ≤ length leb
padded_room_of leb found h = h.1.room

-- bytes are at most one system node
abbrev pub OneSystemNode : Type 0
OneSystemNode = (bytes : List ℕ) (s1 g1 s2 g2 : ℕ) (n1 n2 : SystemNode) → IsBytes bytes → IsSystemNode bytes s1 g1 n1 → IsSystemNode bytes s2 g2 n2 → (s1 ≡ s2) × (g1 ≡ g2) × (n1 ≡ n2)

pub reference_same : (m n : RefNode) → reference m ≡ reference n → m ≡ n
reference_same m n h = cc

-- and so at most one reference
pub only_reference : OneSystemNode → (bytes : List ℕ) → IsBytes bytes → (o : Option RefNode) → IfSome o (λ (m : RefNode). (sqnum : ℕ) × (group : ℕ) × IsRef bytes sqnum group m)
    → IfSome o (λ (m : RefNode). (sqnum group : ℕ) (node : RefNode) → IsRef bytes sqnum group node → m ≡ node)
only_reference one bytes fits None read = tt
only_reference one bytes fits (Some m) read = λ sqnum group node is. reference_same m node (one bytes read.0 read.1 sqnum group (reference m) (reference node) fits read.2 is).2

commit_same : (m n : CommitStart) → commit_start m ≡ commit_start n → m ≡ n
commit_same m n h = cc

-- bytes are at most one commit start, and a LEB begins with the start of one commit at most
pub only_commit : OneSystemNode → (bytes : List ℕ) → IsBytes bytes → (sqnum group s g : ℕ) (m n : CommitStart) → IsCommitStart bytes sqnum group m → IsCommitStart bytes s g n → m ≡ n
only_commit one bytes fits sqnum group s g m n is also = commit_same m n (one bytes sqnum group s g (commit_start m) (commit_start n) fits is also).2

pub one_commit : OneSystemNode → (leb : List ℕ) → IsBytes leb → (begins : Option Found) (a b : Option ℕ) → BeginsCommit leb begins a → BeginsCommit leb begins b → a ≡ b
one_commit one leb fits None a b h k = h ∙ sym k
one_commit one leb fits (Some found) a b (inl (other, h)) (inl (again, k)) = h ∙ sym k
one_commit one leb fits (Some found) a b (inl (other, h)) (inr (kind, n, also, k)) = absurd (other kind)
one_commit one leb fits (Some found) a b (inr (kind, m, is, h)) (inl (other, k)) = absurd (other kind)
one_commit one leb fits (Some found) a b (inr (kind, m, is, h)) (inr (again, n, also, k)) =
    let bytes = take found.len (drop found.offs leb) in
    let same = only_commit one bytes (bytes_take found.len (drop found.offs leb) (bytes_drop found.offs leb fits)) found.sqnum found.group found.sqnum found.group m n is also in
    h ∙ ap (λ (x : CommitStart). Some x.cmt_no) same ∙ sym k

-- references behind references
pub refer_then : (leb : List ℕ) (a b : List Found) (r s : List RefNode) → Refer leb a r → Refer leb b s → Refer leb (a ++ b) (r ++ s)
refer_then leb [] b r s h k = let P : List RefNode → Type 0 = λ x. Refer leb b (x ++ s) in subst P (sym h) k
refer_then leb (found ∷ a) b r s (inl (other, h)) k = inl (other, refer_then leb a b r s h k)
refer_then leb (found ∷ a) b r s (inr (kind, node, more, is, e, h)) k = inr (kind, node, more ++ s, is, ap (λ (x : List RefNode). x ++ s) e, refer_then leb a b more s h k)

-- what the loop over a text keeps: the references so far, which were named
pub record IsNamedSoFar (leb : List ℕ) (nodes : List Found) (old new : List HeadAt) : Type 0 where
  pub references : List RefNode
  pub refer : Refer leb nodes references
  pub named_are : new ≡ fold named_also old references

pub named_none : (leb : List ℕ) (old : List HeadAt) → IsNamedSoFar leb [] old old
named_none leb old = record { references = []; refer = refl; named_are = refl }

pub named_other : (leb : List ℕ) (nodes : List Found) (old new : List HeadAt) (found : Found) → found.kind ≢ types.Reference → IsNamedSoFar leb nodes old new → IsNamedSoFar leb (nodes ++ found ∷ []) old new
named_other leb nodes old new found other h =
    let P : List RefNode → Type 0 = λ x. Refer leb (nodes ++ found ∷ []) x in
    record {
      references = h.references ++ [];
      refer = refer_then leb nodes (found ∷ []) h.references [] h.refer (inl (other, refl));
      named_are = h.named_are ∙ ap (fold named_also old) (sym (append-nil h.references));
    }

pub named_more : (leb : List ℕ) (nodes : List Found) (old now new : List HeadAt) (found : Found) (node : RefNode) → found.kind ≡ types.Reference → IsReferenceAt leb found node → IsNamedSoFar leb nodes old now → new ≡ named_also now node
    → IsNamedSoFar leb (nodes ++ found ∷ []) old new
named_more leb nodes old now new found node kind is h e = record {
  references = h.references ++ node ∷ [];
  refer = refer_then leb nodes (found ∷ []) h.references (node ∷ []) h.refer (inr (kind, node, [], is, refl, refl));
  named_are = e ∙ ap (λ (x : List HeadAt). named_also x node) h.named_are ∙ sym (fold-append named_also old h.references (node ∷ []));
}

-- at the end of the text
pub named_all : (leb : List ℕ) (place end : ℕ) (nodes : List Found) (old new : List HeadAt) → IsGathered leb 0 place nodes → IsNamedSoFar leb nodes old new → IsLast leb place end (tail_at leb end) → AreNamed leb old new
named_all leb place end nodes old new gathered h last =
    let text = gathered_end leb 0 place end end nodes (tail_at leb end) gathered last refl refl in
    let P : List Found → Type 0 = λ n. Refer leb n h.references in
    record { items = text.0; offs = end; tail = tail_at leb end; is_text = text.1; references = h.references; refer = subst P text.2 h.refer; named_are = h.named_are }

more_references : (leb : List ℕ) (found : Found) (nodes : List Found) → StandsWhereTold leb found → (references : List RefNode) × Refer leb nodes references → (references : List RefNode) × Refer leb (found ∷ nodes) references
more_references leb found nodes stands (rest, h) = elim (cases_type found.kind types.Reference) [
  | inl kind ↦ let node = reference_there leb found kind stands in (node.0 ∷ rest, inr (kind, node.0, rest, node.1, refl, h))
  | inr other ↦ (rest, inl (other, h))
]

-- the references of items that stand there
pub some_references : (leb : List ℕ) (items : List Item) (place end : ℕ) → Stand leb place items end → (references : List RefNode) × Refer leb (nodes_of items) references
some_references leb [] place end h = ([], refl)
some_references leb (Word ∷ items) place end h = some_references leb items (behind leb place Word) end h.1
some_references leb (Node found ∷ items) place end h =
    more_references leb found (nodes_of items) (placed leb place found found h.0.node refl h.0.stands) (some_references leb items (behind leb place (Node found)) end h.1)
some_references leb (Padding found pad_len ∷ items) place end h =
    more_references leb found (nodes_of items) (placed leb place found found _ refl h.0.stands) (some_references leb items (behind leb place (Padding found pad_len)) end h.1)

pub others_skip : (found : Found) (nodes : List Found) → (type_number found.kind == 5) ≡ true → others (found ∷ nodes) ≡ others nodes
others_skip found nodes is = rw is refl

pub others_keep : (found : Found) (nodes : List Found) → (type_number found.kind == 5) ≡ false → others (found ∷ nodes) ≡ found ∷ others nodes
others_keep found nodes is = rw is refl

-- where padding alone stands there are no references
padding_references : (leb : List ℕ) (nodes : List Found) (references : List RefNode) → Refer leb nodes references → others nodes ≡ [] → references ≡ []
padding_references leb [] references h none = h
padding_references leb (found ∷ nodes) references h none = elim (cases_Bool (type_number found.kind == 5)) [
  | inl is_gap ↦
      let five = type_same found.kind types.Padding (eqb-true (type_number found.kind) 5 is_gap) in
      let rest : others nodes ≡ [] = sym (others_skip found nodes is_gap) ∙ none in
      elim h [ inl (other, more) ↦ padding_references leb nodes references more rest | inr (eight, node, more, is, e, k) ↦ absurd cc ]
  | inr node ↦ let cons : found ∷ others nodes ≡ [] = sym (others_keep found nodes node) ∙ none in absurd cc
]

pub one_parts : (found : Found) (rest : List Found) → is_one_start (found ∷ rest) ≡ true → (rest ≡ []) × (found.kind ≡ types.CommitStart)
one_parts found [] h = (refl, type_same found.kind types.CommitStart (eqb-true (type_number found.kind) 10 h))
one_parts found (other ∷ rest) h = absurd cc

-- nor where a commit start stands alone
pub lone_references : (leb : List ℕ) (nodes : List Found) (references : List RefNode) → Refer leb nodes references → is_start_alone nodes ≡ true → references ≡ []
lone_references leb [] references h alone = absurd cc
lone_references leb (found ∷ nodes) references h alone = elim (cases_Bool (type_number found.kind == 5)) [
  | inl is_gap ↦
      let five = type_same found.kind types.Padding (eqb-true (type_number found.kind) 5 is_gap) in
      let rest : is_start_alone nodes ≡ true = ap is_one_start (sym (others_skip found nodes is_gap)) ∙ alone in
      elim h [ inl (other, more) ↦ lone_references leb nodes references more rest | inr (eight, node, more, is, e, k) ↦ absurd cc ]
  | inr node ↦
      let parts = one_parts found (others nodes) (ap is_one_start (sym (others_keep found nodes node)) ∙ alone) in
      let ten = parts.1 in
      elim h [ inl (other, more) ↦ padding_references leb nodes references more parts.0 | inr (eight, n, more, is, e, k) ↦ absurd cc ]
]

-- where bytes are a commit start, it is found, and no other
pub start_is_there : (bytes : List ℕ) (sqnum group : ℕ) (node : CommitStart) (o : Option CommitStart) → IsCommitStart bytes sqnum group node → IfNone o ((s g : ℕ) (other : CommitStart) → IsCommitStart bytes s g other → ⊥) → IsSome o
start_is_there bytes sqnum group node None is none = absurd (none sqnum group node is)
start_is_there bytes sqnum group node (Some other) is none = refl

pub only_start : OneSystemNode → (bytes : List ℕ) → IsBytes bytes → (o : Option CommitStart) → IfSome o (λ (m : CommitStart). (sqnum : ℕ) × (group : ℕ) × IsCommitStart bytes sqnum group m)
    → IfSome o (λ (m : CommitStart). (sqnum group : ℕ) (node : CommitStart) → IsCommitStart bytes sqnum group node → m ≡ node)
only_start one bytes fits None read = tt
only_start one bytes fits (Some m) read = λ sqnum group node is. only_commit one bytes fits read.0 read.1 sqnum group m node read.2 is

-- where bytes are a reference, it is found
pub is_there : (bytes : List ℕ) (sqnum group : ℕ) (node : RefNode) (o : Option RefNode) → IsRef bytes sqnum group node → IfNone o ((s g : ℕ) (other : RefNode) → IsRef bytes s g other → ⊥) → IsSome o
is_there bytes sqnum group node None is none = absurd (none sqnum group node is)
is_there bytes sqnum group node (Some other) is none = refl
