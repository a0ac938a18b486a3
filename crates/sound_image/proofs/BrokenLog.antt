-- A log in which something is wrong doesn't meet its rule.
use Rattle.std.proofs.Common.{◌≡◌, ℕ, ◌%◌, ◌<◌, nat_lt, true, false, List, [], ◌∷◌, ◌++◌, Option, Some, None, length, refl, ap, sym, ◌∙◌, subst, inl, inr, arith}
use Rattle.std.specs.Prelude.{◌⊎◌, ◌==◌, IsSome, IsTrue}
use Rattle.std.specs.List.{AllByRecursion}
use Rattle.std.proofs.lemmas.Bool.{eq-eqb, le-ltb, lt-ltb}
use Rattle.ubifs_base.specs.Areas.{main_first}
use Rattle.ubifs_base.specs.NodeLaws.{IsBytes}
use Rattle.ubifs_base.specs.declared.node_type.NodeType.TheVariants as types
use Rattle.ubifs_base.specs.declared.raw_geometry.RawGeometry.{RawGeometry}
use Rattle.media_sys.specs.declared.master.Master.{Master}
use Rattle.media_sys.specs.declared.ref_node.RefNode.{RefNode}
use Rattle.leb_scan.specs.declared.found.Found.{Found}
use Rattle.leb_scan.specs.declared.tail.Tail.TheVariants.{Clean}
use Rattle.bud_log.specs.Log.{Run, next_leb, references_of}
use Rattle.bud_log.specs.LogText.{BeginsCommit, IsReferenceAt, IsLogTextOf, LogText, Refer, begins_with, is_later, start_of}
use Rattle.bud_log.specs.References.{one_commit}
use Rattle.small_areas.specs.MasterLaws.{OneNode, OneText}
use Rattle.bud_log.specs.OneTextLaws.{one_log_text, one_reference}
use Rattle.sound_image.specs.Log.{EndWhole, HasLog, NamesMain, ends_in_start}
use Rattle.sound_image.specs.LogBreaches.{HasNoneSpare, IsBrokenBehindStart, IsBrokenIn, IsBrokenLog, IsReadOfLog, IsTornWithin, LacksItsStart, LooksNewer, NamesNoMain, misnamed}
use Rattle.sound_image.specs.Wrong.{IsFirstOr, IsFirstWrong, Wrong}
use Rattle.sound_image.proofs.FirstWrong.{one_first, one_first_or}
use Rattle.sound_image.proofs.OneLog.{one_reading}
use Rattle.sound_image.proofs.Lists.{cons_parts}

pub reading_of : (contents : ℕ → List ℕ) (geo : RawGeometry) (master : Master) (texts : List LogText) (h : HasLog contents geo master texts) → IsReadOfLog contents geo master.log_lnum h.start texts
reading_of contents geo master texts h = record { first = h.first; more = h.more; whole = h.whole; past = h.past; chain = h.chain; stops = h.stops }

some_same : (a b : ℕ) → Some a ≡ Some b → a ≡ b
some_same a b h = cc

start_broken : OneNode → OneText → (contents : ℕ → List ℕ) (geo : RawGeometry) (master : Master) (texts : List LogText) (at : Wrong) → ((k : ℕ) → IsBytes (contents k)) → HasLog contents geo master texts → LacksItsStart contents master at → ⊥
start_broken one unique contents geo master texts at fits h wrong =
    let from = master.log_lnum in
    let same = one_log_text one unique (contents from) from wrong.text h.first (fits from) wrong.is_text h.chain.is_first in
    elim wrong.wrong [
      | inl (none, values) ↦ let e : None ≡ Some h.start = sym none ∙ ap (λ (t : LogText). start_of (begins_with t.nodes)) same ∙ h.chain.starts in absurd cc
      | inr (cmt_no, begins, other, values) ↦
          let P : LogText → Type 0 = λ t. BeginsCommit (contents from) (begins_with t.nodes) (Some cmt_no) in
          other (some_same cmt_no master.cmt_no (one_commit one (contents from) (fits from) (begins_with h.first.nodes) (Some cmt_no) (Some master.cmt_no) (subst P same begins) h.commit))
    ]

-- ---- references
-- where texts are read, each is that of its LEB
each_of_run : (contents : ℕ → List ℕ) (geo : RawGeometry) (from number lnum past : ℕ) (before behind : List LogText) (text : LogText) → Run contents geo from number lnum (before ++ (text ∷ behind)) past → IsLogTextOf (contents text.ends.lnum) text.ends.lnum text
each_of_run contents geo from number lnum past [] behind text h = let P : ℕ → Type 0 = λ n. IsLogTextOf (contents n) n text in subst P (sym h.1.here) h.1
each_of_run contents geo from number lnum past (b ∷ before) behind text h = each_of_run contents geo from number (next_leb geo lnum) past before behind text h.3

each_text : (contents : ℕ → List ℕ) (geo : RawGeometry) (from start : ℕ) (texts before behind : List LogText) (text : LogText) → IsReadOfLog contents geo from start texts → texts ≡ before ++ (text ∷ behind) → IsLogTextOf (contents text.ends.lnum) text.ends.lnum text
each_text contents geo from start texts [] behind text h e =
    let same = (cons_parts h.first text h.more behind (sym h.whole ∙ e)).0 in
    let P : ℕ → Type 0 = λ n. IsLogTextOf (contents n) n text in
    let Q : LogText → Type 0 = λ t. IsLogTextOf (contents from) from t in
    let is = subst Q same h.chain.is_first in
    subst P (sym is.here) is
each_text contents geo from start texts (b ∷ before) behind text h e =
    let R : List LogText → Type 0 = λ ts. Run contents geo from start (next_leb geo from) ts h.past in
    each_of_run contents geo from start (next_leb geo from) h.past before behind text (subst R (cons_parts h.first b h.more (before ++ (text ∷ behind)) (sym h.whole ∙ e)).1 h.chain.run)

-- what holds of all references of a text holds of each that is found there
one_referred : (P : RefNode → Type 0) → OneNode → (leb : List ℕ) (before behind : List Found) (found : Found) (node : RefNode) (references : List RefNode) → IsBytes leb → Refer leb (before ++ (found ∷ behind)) references
    → found.kind ≡ types.Reference → IsReferenceAt leb found node → AllByRecursion P references → P node
one_referred P one leb [] behind found node references fits (inl (other, h)) kind is all = absurd (other kind)
one_referred P one leb [] behind found node references fits (inr (kind, m, rest, also, e, h)) same is all =
    let Q : List RefNode → Type 0 = λ xs. AllByRecursion P xs in
    subst P (one_reference one leb found m node fits also is) (subst Q e all).0
one_referred P one leb (b ∷ before) behind found node references fits (inl (other, h)) kind is all = one_referred P one leb before behind found node references fits h kind is all
one_referred P one leb (b ∷ before) behind found node references fits (inr (own, m, rest, also, e, h)) kind is all =
    let Q : List RefNode → Type 0 = λ xs. AllByRecursion P xs in
    one_referred P one leb before behind found node rest fits h kind is (subst Q e all).1

-- of those of all texts it holds of each text's
all_parts : (P : RefNode → Type 0) (a b : List RefNode) → AllByRecursion P (a ++ b) → AllByRecursion P a × AllByRecursion P b
all_parts P [] b h = (tt, h)
all_parts P (x ∷ a) b h = let rest = all_parts P a b h.1 in ((h.0, rest.0), rest.1)

one_text_of_all : (P : RefNode → Type 0) (before behind : List LogText) (text : LogText) → AllByRecursion P (references_of (before ++ (text ∷ behind))) → AllByRecursion P text.references
one_text_of_all P [] behind text h = (all_parts P text.references (references_of behind) h).0
one_text_of_all P (b ∷ before) behind text h = one_text_of_all P before behind text (all_parts P b.references (references_of (before ++ (text ∷ behind))) h).1

-- the place of a main LEB isn't misnamed
well_named : (geo : RawGeometry) (node : RefNode) → NamesMain geo node → misnamed geo node ≡ None
well_named geo node h =
    let low = h.low in
    let a : nat_lt node.lnum (main_first geo) ≡ false = le-ltb node.lnum (main_first geo) low in
    let b : nat_lt node.lnum geo.leb_cnt ≡ true = lt-ltb node.lnum geo.leb_cnt h.high in
    let c : nat_lt geo.leb_size node.offs ≡ false = le-ltb geo.leb_size node.offs h.inside in
    let d : (node.offs % 8 == 0) ≡ true = eq-eqb (node.offs % 8) 0 h.even in
    rw (a, b, c, d) refl

named_broken : OneNode → (contents : ℕ → List ℕ) (geo : RawGeometry) (from start : ℕ) (texts : List LogText) (at : Wrong) → ((k : ℕ) → IsBytes (contents k)) → IsReadOfLog contents geo from start texts → AllByRecursion (NamesMain geo) (references_of texts)
    → NamesNoMain contents geo texts at → ⊥
named_broken one contents geo from start texts at fits read all wrong =
    let text = wrong.text in
    let leb = contents text.ends.lnum in
    let is_text = each_text contents geo from start texts wrong.one.0 wrong.one.1 text read wrong.one.2 in
    let Q : List LogText → Type 0 = λ ts. AllByRecursion (NamesMain geo) (references_of ts) in
    let own = one_text_of_all (NamesMain geo) wrong.one.0 wrong.one.1 text (subst Q wrong.one.2 all) in
    let R : List Found → Type 0 = λ nodes. Refer leb nodes text.references in
    let main = one_referred (NamesMain geo) one leb wrong.stands.0 wrong.stands.1 wrong.found wrong.node text.references (fits text.ends.lnum) (subst R wrong.stands.2 is_text.refer) wrong.kind wrong.is own in
    let e = sym (well_named geo wrong.node main) ∙ wrong.past in
    absurd cc

-- ---- torn tails, spare LEBs, LEBs that look newer
torn_within : (before behind : List LogText) (text next : LogText) → EndWhole (before ++ (text ∷ (next ∷ behind))) → (text.ends.tail ≡ Clean) ⊎ IsSome (start_of (begins_with next.nodes))
torn_within [] behind text next h = h.0
torn_within (a ∷ []) behind text next h = h.1.0
torn_within (a ∷ (b ∷ before)) behind text next h = torn_within (b ∷ before) behind text next h.1

torn_broken : (contents : ℕ → List ℕ) (texts : List LogText) (at : Wrong) → EndWhole texts → IsTornWithin contents texts at → ⊥
torn_broken contents texts at h wrong =
    let P : List LogText → Type 0 = λ ts. EndWhole ts in
    elim (torn_within wrong.before wrong.behind wrong.text wrong.next (subst P wrong.parts h)) [
      | inl clean ↦ let e = sym clean ∙ wrong.torn in absurd cc
      | inr some ↦ let Q : Option ℕ → Type 0 = λ o. IsSome o in let e = subst Q wrong.none some in absurd cc
    ]

spare_broken : (geo : RawGeometry) (texts more : List LogText) (first : LogText) (at : Wrong) → texts ≡ first ∷ more → (length texts < geo.log_lebs) ⊎ IsTrue (ends_in_start more) → HasNoneSpare geo texts at → ⊥
spare_broken geo texts more first at whole (inl less) wrong = let all = wrong.all in absurd (omega (arith, less, all))
spare_broken geo texts more first at whole (inr start) wrong =
    let same = (cons_parts first wrong.first more wrong.more (sym whole ∙ wrong.whole)).1 in
    let e : true ≡ false = sym start ∙ ap ends_in_start same ∙ wrong.no_start in
    absurd cc

newer_broken : OneNode → OneText → (contents : ℕ → List ℕ) (geo : RawGeometry) (master : Master) (texts : List LogText) (at : Wrong) → ((k : ℕ) → IsBytes (contents k)) → (h : HasLog contents geo master texts) → LooksNewer contents geo h.start texts at → ⊥
newer_broken one unique contents geo master texts at fits h wrong =
    let (other, is, not_later) = h.older at.lnum wrong.in_log wrong.other in
    let same = one_log_text one unique (contents at.lnum) at.lnum other wrong.text (fits at.lnum) is wrong.is_text in
    let later : is_later h.start (Some wrong.found) ≡ false = ap (is_later h.start) (sym wrong.begins) ∙ ap (λ (t : LogText). is_later h.start (begins_with t.nodes)) (sym same) ∙ not_later in
    let e : true ≡ false = sym (lt-ltb h.start wrong.found.sqnum wrong.newer) ∙ later in
    absurd cc

pub log_broken : OneNode → OneText → (contents : ℕ → List ℕ) (geo : RawGeometry) (master : Master) (texts : List LogText) (at : Wrong) → ((k : ℕ) → IsBytes (contents k)) → IsBrokenLog contents geo master at → HasLog contents geo master texts → ⊥
log_broken one unique contents geo master texts at fits (inl first) h = start_broken one unique contents geo master texts at fits h first.wrong
log_broken one unique contents geo master texts at fits (inr (none, (start, read, is_read, parts))) h =
    let from = master.log_lnum in
    let own = reading_of contents geo master texts h in
    let same = one_reading one unique contents geo from start h.start read texts fits is_read own in
    elim parts [
      | inl named ↦ let P : List LogText → Type 0 = λ ts. NamesNoMain contents geo ts at in named_broken one contents geo from h.start texts at fits own h.named (subst P same.1 named.wrong)
      | inr (a, inl torn) ↦ let P : List LogText → Type 0 = λ ts. IsTornWithin contents ts at in torn_broken contents texts at h.torn (subst P same.1 torn.wrong)
      | inr (a, inr (b, inl spare)) ↦ let P : List LogText → Type 0 = λ ts. HasNoneSpare geo ts at in spare_broken geo texts h.more h.first at h.whole h.spare (subst P same.1 spare.wrong)
      | inr (a, inr (b, inr (c, newer))) ↦
          let P : List LogText → Type 0 = λ ts. LooksNewer contents geo start ts at in
          let Q : ℕ → Type 0 = λ n. LooksNewer contents geo n texts at in
          newer_broken one unique contents geo master texts at fits h (subst Q same.0 (subst P same.1 newer.wrong))
    ]

-- ---- the log is broken at one place
start_or_behind : OneNode → OneText → (contents : ℕ → List ℕ) (geo : RawGeometry) (master : Master) (p q : Wrong) → ((k : ℕ) → IsBytes (contents k)) → IsBrokenBehindStart contents geo master p → IsBrokenBehindStart contents geo master q → p ≡ q
start_or_behind one unique contents geo master p q fits (s, texts, is, h) (t, others, also, k) =
    let same = one_reading one unique contents geo master.log_lnum s t texts others fits is also in
    let P : List LogText → Type 0 = λ xs. IsBrokenIn contents geo s xs p in
    let Q : ℕ → Type 0 = λ n. IsBrokenIn contents geo n others p in
    one_first_or (NamesNoMain contents geo others) (IsFirstOr (IsTornWithin contents others) (IsFirstOr (HasNoneSpare geo others) (IsFirstWrong (LooksNewer contents geo t others)))) p q
    (one_first_or (IsTornWithin contents others) (IsFirstOr (HasNoneSpare geo others) (IsFirstWrong (LooksNewer contents geo t others))) p q
    (one_first_or (HasNoneSpare geo others) (IsFirstWrong (LooksNewer contents geo t others)) p q (one_first (LooksNewer contents geo t others) p q)))
    (subst Q same.0 (subst P same.1 h)) k

pub one_broken_log : OneNode → OneText → (contents : ℕ → List ℕ) (geo : RawGeometry) (master : Master) (p q : Wrong) → ((k : ℕ) → IsBytes (contents k)) → IsBrokenLog contents geo master p → IsBrokenLog contents geo master q → p ≡ q
one_broken_log one unique contents geo master p q fits x y = one_first_or (LacksItsStart contents master) (IsBrokenBehindStart contents geo master) p q (start_or_behind one unique contents geo master p q fits) x y
