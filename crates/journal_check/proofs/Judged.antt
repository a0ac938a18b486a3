-- The answer of a check of the log.
use Rattle.std.proofs.Common.{◌≡◌, ◌⊎◌, inl, inr, ℕ, suc, ◌-◌, ◌%◌, ◌<◌, nat_lt, Bool, true, false, List, [], ◌∷◌, ◌++◌, length, Option, Some, None, refl, ap, sym, ◌∙◌, subst, arith}
use Rattle.std.specs.Prelude.{◌≢◌, ◌==◌, ◌||◌, IsSome, IsTrue, if◌then◌else◌}
use Rattle.std.specs.List.{AllByRecursion, list_any}
use Rattle.std.specs.Option.{option_or}
use Rattle.std.proofs.lemmas.Bool.{cases_Bool, cases_lt, eqb-true, lt-ltb, le-ltb, ltb-false, ltb-true}
use Rattle.ubifs_base.specs.Areas.{main_first}
use Rattle.ubifs_base.specs.NodeLaws.{IsBytes}
use Rattle.ubifs_base.specs.declared.node_type.NodeType.TheVariants as types
use Rattle.ubifs_base.specs.declared.raw_geometry.RawGeometry.{RawGeometry}
use Rattle.media_sys.specs.declared.master.Master.{Master}
use Rattle.media_sys.specs.declared.ref_node.RefNode.{RefNode}
use Rattle.leb_scan.specs.declared.found.Found.{Found}
use Rattle.leb_scan.specs.declared.tail.Tail.{Tail}
use Rattle.leb_scan.specs.declared.tail.Tail.TheVariants.{Clean, Torn}
use Rattle.small_areas.specs.declared.misplaced.Misplaced.{Misplaced}
use Rattle.bud_log.specs.Log.{IsLogLeb, Run, next_leb, references_of}
use Rattle.bud_log.specs.LogText.{BeginsCommit, IsReferenceAt, IsLogTextOf, LogText, Refer, begins_with, is_later, start_of}
use Rattle.bud_log.specs.OneTextLaws.{one_log_text}
use Rattle.bud_log.specs.References.{OneSystemNode, one_commit}
use Rattle.bud_log.specs.RingRuns.{OneLebText}
use Rattle.bud_log.specs.Writing.{IsAmong, IsOlder}
use Rattle.bud_log.specs.Seen.{IsSeen}
use Rattle.bud_log.specs.declared.seen.Seen.{Seen}
use Rattle.sound_image.specs.Log.{EndWhole, NamesMain, ends_in_start}
use Rattle.sound_image.specs.LogBreaches.{HasNoneSpare, IsBrokenIn, IsTornWithin, LacksItsStart, LooksNewer, NamesNoMain, misnamed, uneven}
use Rattle.sound_image.specs.Wrong.{IsFirstWrong, IsOneOf, Misfit, Wrong, differs, type_byte}
use Rattle.sound_image.specs.WrongLaws.{one_behind}
use Rattle.image_check.specs.WrongValues.{IsFirstOf, wrong_at}
use Rattle.journal_check.specs.LogChecks.{IsFirstNewer, IsJudgedLog, IsOtherStart, IsReadWhole, first_broken, last_lnum, none_spare, verdict_by, verdict_of}
use Rattle.image_check.specs.declared.wrong_value.WrongValue.{WrongValue}
use Rattle.journal_check.specs.declared.log_verdict.LogVerdict.TheVariants.{Broken}
use Rattle.journal_check.specs.declared.read_lebs.ReadLebs.{ReadLebs}
use Rattle.image_check.specs.FirstLaws.{first_alone}
use Rattle.journal_check.proofs.LogTexts.{last_of_some, lnum_then}
use Rattle.journal_check.proofs.NewerLebs.{among_any, lnums_of}
use Rattle.journal_check.proofs.OneText.{begins_start, text_seen}

some_same : (a b : ℕ) → Some a ≡ Some b → a ≡ b
some_same a b h = cc

-- ---- the first part: the start
wrong_same : (l m o p : ℕ) (x y : Misfit) → l ≡ m → o ≡ p → x ≡ y
    → let a : Wrong = record { lnum = l; offs = o; misfit = x } in
    let b : Wrong = record { lnum = m; offs = p; misfit = y } in
    a ≡ b
wrong_same l m o p x y e f g = rw (e, f, g) refl

differs_same : (a b c d : ℕ) → a ≡ c → b ≡ d → differs a b ≡ differs c d
differs_same a b c d e f = ap (λ (n : ℕ). differs n b) e ∙ ap (differs c) f

-- the start is missing, or another commit's
pub start_wrong : OneSystemNode → OneLebText → (contents : ℕ → List ℕ) (geo : RawGeometry) (master : Master) (text : LogText) (begins : Option Found) (at : WrongValue) → IsBytes (contents master.log_lnum) → IsLogTextOf (contents master.log_lnum) master.log_lnum text
    → begins ≡ begins_with text.nodes → IsOtherStart (contents master.log_lnum) master.log_lnum begins master.cmt_no at → IsJudgedLog contents geo master (Broken at)
start_wrong one unique contents geo master text begins at fits is_text begins_is h = inl (by h.wrong)
  where
    from : ℕ
    from = master.log_lnum

    leb : List ℕ
    leb = contents from

    same_text : (w : Wrong) (k : LacksItsStart contents master w) → begins_with k.text.nodes ≡ begins
    same_text w k = ap (λ (t : LogText). begins_with t.nodes) (one_log_text one unique leb from k.text text fits k.is_text is_text) ∙ sym begins_is

    place : (w : Wrong) (k : LacksItsStart contents master w) → w.misfit ≡ differs at.wanted at.found → w ≡ wrong_at at
    place w k values = wrong_same w.lnum at.lnum w.offs at.offs w.misfit (differs at.wanted at.found) (k.lnum ∙ sym h.lnum_is) (k.offs ∙ sym h.offs_is) values

    by : ((start_of begins ≡ None) × (at.wanted ≡ 10) × (at.found ≡ type_byte leb 0)) ⊎ ((other : ℕ) × BeginsCommit leb begins (Some other) × (other ≢ master.cmt_no) × (at.wanted ≡ master.cmt_no) × (at.found ≡ other)) → IsFirstWrong (LacksItsStart contents master) (wrong_at at)
    by (inl (none, wanted, found)) =
        first_alone (LacksItsStart contents master) at
        (record { text = text; is_text = is_text; lnum = h.lnum_is; offs = h.offs_is; wrong = inl (ap start_of (sym begins_is) ∙ none, differs_same at.wanted at.found 10 (type_byte leb 0) wanted found) })
        (λ w k. place w k (elim k.wrong [
          | inl (other, values) ↦ values ∙ sym (differs_same at.wanted at.found 10 (type_byte leb 0) wanted found)
          | inr (cmt_no, is, ne, values) ↦
              let P : Option Found → Type 0 = λ b. BeginsCommit leb b (Some cmt_no) in
              let start = begins_start leb begins cmt_no (subst P (same_text w k) is) in
              let e = sym none ∙ start.1 in
              absurd cc
        ]))
    by (inr (other, is, ne, wanted, found)) =
        let Q : Option Found → Type 0 = λ b. BeginsCommit leb b (Some other) in
        first_alone (LacksItsStart contents master) at
        (record { text = text; is_text = is_text; lnum = h.lnum_is; offs = h.offs_is; wrong = inr (other, subst Q begins_is is, ne, differs_same at.wanted at.found master.cmt_no other wanted found) })
        (λ w k. place w k (elim k.wrong [
          | inl (none, values) ↦
              let start = begins_start leb begins other is in
              let e = sym (ap start_of (same_text w k)) ∙ none in
              let f = sym e ∙ start.1 in
              absurd cc
          | inr (cmt_no, also, not, values) ↦
              let P : Option Found → Type 0 = λ b. BeginsCommit leb b (Some cmt_no) in
              let same = some_same cmt_no other (one_commit one leb fits begins (Some cmt_no) (Some other) (subst P (same_text w k) also) is) in
              values ∙ differs_same master.cmt_no cmt_no at.wanted at.found (sym wanted) (same ∙ sym found)
        ]))

-- nothing is wrong with it
start_right : OneSystemNode → OneLebText → (contents : ℕ → List ℕ) (master : Master) (text : LogText) (number : ℕ) → IsBytes (contents master.log_lnum) → IsLogTextOf (contents master.log_lnum) master.log_lnum text → start_of (begins_with text.nodes) ≡ Some number
    → BeginsCommit (contents master.log_lnum) (begins_with text.nodes) (Some master.cmt_no) → (at : Wrong) → LacksItsStart contents master at → ⊥
start_right one unique contents master text number fits is_text start is at k =
    let from = master.log_lnum in
    let leb = contents from in
    let same = ap (λ (t : LogText). begins_with t.nodes) (one_log_text one unique leb from k.text text fits k.is_text is_text) in
    elim k.wrong [
      | inl (none, values) ↦ let e = sym none ∙ ap start_of same ∙ start in absurd cc
      | inr (cmt_no, also, not, values) ↦
          let P : Option Found → Type 0 = λ b. BeginsCommit leb b (Some cmt_no) in
          not (some_same cmt_no master.cmt_no (one_commit one leb fits (begins_with text.nodes) (Some cmt_no) (Some master.cmt_no) (subst P same also) is))
    ]

-- ---- the second part: references
-- each text is that of its LEB
abbrev AreTexts : (ℕ → List ℕ) → List LogText → Type 0
AreTexts contents texts = AllByRecursion (λ (text : LogText). IsLogTextOf (contents text.ends.lnum) text.ends.lnum text) texts

text_there : (contents : ℕ → List ℕ) (lnum : ℕ) (text : LogText) → IsLogTextOf (contents lnum) lnum text → IsLogTextOf (contents text.ends.lnum) text.ends.lnum text
text_there contents lnum text is = let P : ℕ → Type 0 = λ n. IsLogTextOf (contents n) n text in subst P (sym is.here) is

texts_of_run : (contents : ℕ → List ℕ) (geo : RawGeometry) (from number lnum past : ℕ) (texts : List LogText) → Run contents geo from number lnum texts past → AreTexts contents texts
texts_of_run contents geo from number lnum past [] h = tt
texts_of_run contents geo from number lnum past (text ∷ texts) h = (text_there contents lnum text h.1, texts_of_run contents geo from number (next_leb geo lnum) past texts h.3)

not_some : (o : Option Misplaced) → ((wanted found : ℕ) → o ≡ Some (record { wanted = wanted; found = found }) → ⊥) → o ≡ None
not_some None h = refl
not_some (Some m) h = absurd (h m.wanted m.found refl)

-- what isn't misnamed is the place of a main LEB
main_named : (geo : RawGeometry) (node : RefNode) → misnamed geo node ≡ None → NamesMain geo node
main_named geo node h = elim (cases_lt node.lnum (main_first geo)) [
  | inl low ↦
      let e : misnamed geo node ≡ Some (record { wanted = main_first geo; found = node.lnum }) = rw (lt-ltb node.lnum (main_first geo) low) refl in
      let f = sym h ∙ e in
      absurd cc
  | inr low ↦ elim (cases_lt node.lnum geo.leb_cnt) [
    | inr high ↦
        let e : misnamed geo node ≡ Some (record { wanted = geo.leb_cnt; found = node.lnum }) = rw (le-ltb node.lnum (main_first geo) low, le-ltb node.lnum geo.leb_cnt high) refl in
        let f = sym h ∙ e in
        absurd cc
    | inl high ↦ elim (cases_lt geo.leb_size node.offs) [
      | inl past ↦
          let e : misnamed geo node ≡ Some (record { wanted = geo.leb_size; found = node.offs }) = rw (le-ltb node.lnum (main_first geo) low, lt-ltb node.lnum geo.leb_cnt high, lt-ltb geo.leb_size node.offs past) refl in
          let f = sym h ∙ e in
          absurd cc
      | inr inside ↦ elim (cases_Bool (node.offs % 8 == 0)) [
        | inl even ↦ record { low = low; high = high; inside = inside; even = eqb-true (node.offs % 8) 0 even }
        | inr odd ↦
            let e : misnamed geo node ≡ uneven node.offs = rw (le-ltb node.lnum (main_first geo) low, lt-ltb node.lnum geo.leb_cnt high, le-ltb geo.leb_size node.offs inside) refl in
            absurd (even_none node.offs odd (sym e ∙ h))
      ]
    ]
  ]
]
  where
    even_none : (offs : ℕ) → (offs % 8 == 0) ≡ false → uneven offs ≡ None → ⊥
    even_none offs odd h = (let k = rw odd at h in absurd cc)

refer_all : (geo : RawGeometry) (leb : List ℕ) (nodes : List Found) (references : List RefNode) → Refer leb nodes references
    → ((found : Found) (node : RefNode) → IsOneOf found nodes → found.kind ≡ types.Reference → IsReferenceAt leb found node → misnamed geo node ≡ None) → AllByRecursion (NamesMain geo) references
refer_all geo leb [] references h all = let P : List RefNode → Type 0 = λ xs. AllByRecursion (NamesMain geo) xs in subst P (sym h) tt
refer_all geo leb (found ∷ nodes) references (inl (other, h)) all = refer_all geo leb nodes references h (λ f node one. all f node (one_behind f found nodes one))
refer_all geo leb (found ∷ nodes) references (inr (kind, node, more, is, e, h)) all =
    let P : List RefNode → Type 0 = λ xs. AllByRecursion (NamesMain geo) xs in
    subst P (sym e) (main_named geo node (all found node ([], nodes, refl) kind is), refer_all geo leb nodes more h (λ f n one. all f n (one_behind f found nodes one)))

all_then : (geo : RawGeometry) (a b : List RefNode) → AllByRecursion (NamesMain geo) a → AllByRecursion (NamesMain geo) b → AllByRecursion (NamesMain geo) (a ++ b)
all_then geo [] b h k = k
all_then geo (x ∷ a) b h k = (h.0, all_then geo a b h.1 k)

named_all : (contents : ℕ → List ℕ) (geo : RawGeometry) (texts : List LogText) → AreTexts contents texts → ((at : Wrong) → NamesNoMain contents geo texts at → ⊥) → AllByRecursion (NamesMain geo) (references_of texts)
named_all contents geo [] are none = tt
named_all contents geo (text ∷ texts) are none =
    all_then geo text.references (references_of texts)
    (refer_all geo (contents text.ends.lnum) text.nodes text.references are.0.refer (λ found node one kind is. not_some (misnamed geo node) (λ wanted there past.
    none (record { lnum = text.ends.lnum; offs = found.offs; misfit = differs wanted there })
    (record { text = text; one = ([], texts, refl); found = found; stands = one; kind = kind; node = node; is = is; wanted = wanted; there = there; past = past; at_is = refl }))))
    (named_all contents geo texts are.1 (λ at w. none at (record { text = w.text; one = one_behind w.text text texts w.one; found = w.found; stands = w.stands; kind = w.kind; node = w.node; is = w.is; wanted = w.wanted; there = w.there; past = w.past; at_is = w.at_is })))

-- ---- the third part: torn tails
pair_whole : (tail : Tail) (start : Option ℕ) → (tail ≡ Torn → start ≡ None → ⊥) → (tail ≡ Clean) ⊎ IsSome start
pair_whole Clean start h = inl refl
pair_whole Torn (Some number) h = inr refl
pair_whole Torn None h = absurd (h refl refl)

end_whole : (contents : ℕ → List ℕ) (texts : List LogText) → ((at : Wrong) → IsTornWithin contents texts at → ⊥) → EndWhole texts
end_whole contents [] none = tt
end_whole contents (text ∷ []) none = tt
end_whole contents (text ∷ (next ∷ more)) none = (
  pair_whole text.ends.tail (start_of (begins_with next.nodes)) (λ torn start.
      none (record { lnum = next.ends.lnum; offs = 0; misfit = differs 10 (type_byte (contents next.ends.lnum) 0) }) (record { before = []; text = text; next = next; behind = more; parts = refl; torn = torn; none = start; at_is = refl })),
  end_whole contents (next ∷ more)
      (λ at w. none at (record { before = text ∷ w.before; text = w.text; next = w.next; behind = w.behind; parts = ap (λ (x : List LogText). text ∷ x) w.parts; torn = w.torn; none = w.none; at_is = w.at_is })),
)

-- ---- the fourth part: a spare LEB
more_same : (a b : LogText) (xs ys : List LogText) → a ∷ xs ≡ b ∷ ys → xs ≡ ys
more_same a b xs ys h = cc

lnums_len : (texts : List LogText) → length (lnums_of texts) ≡ length texts
lnums_len [] = refl
lnums_len (text ∷ texts) = ap suc (lnums_len texts)

first_spare : (geo : RawGeometry) (first : LogText) (more : List LogText) (alone : Bool) (count last : ℕ) → alone ≡ ends_in_start more → count ≡ length (first ∷ more) → last ≡ last_lnum (first ∷ more)
    → IsFirstOf (HasNoneSpare geo (first ∷ more)) (if alone || nat_lt count geo.log_lebs then None else Some (record { lnum = last; offs = 0; wanted = geo.log_lebs - 1; found = geo.log_lebs }))
first_spare geo first more true count last alone_is count_is last_is = λ at w. (let e : true ≡ false = alone_is ∙ ap ends_in_start (more_same first w.first more w.more w.whole) ∙ w.no_start in absurd cc)
first_spare geo first more false count last alone_is count_is last_is = elim (cases_Bool (nat_lt count geo.log_lebs)) [
  | inl less ↦ rw less (λ at w. let a = w.all in let l = ltb-true count geo.log_lebs less in absurd (omega (arith, a, l, count_is)))
  | inr not ↦
      let some = last_of_some first more in
      let l = ltb-false count geo.log_lebs not in
      let there : (before : List LogText) (x : LogText) → first ∷ more ≡ before ++ x ∷ [] → last ≡ x.ends.lnum = λ before x e. last_is ∙ ap last_lnum e ∙ lnum_then before x in
      let Q : ℕ → Wrong = λ n. record { lnum = n; offs = 0; misfit = differs (geo.log_lebs - 1) geo.log_lebs } in
      rw not (first_alone (HasNoneSpare geo (first ∷ more)) (record { lnum = last; offs = 0; wanted = geo.log_lebs - 1; found = geo.log_lebs })
      (record { first = first; more = more; whole = refl; all = omega (arith, l, count_is); no_start = sym alone_is; before = some.0; last = some.1; parts = some.2; at_is = ap Q (there some.0 some.1 some.2) })
      (λ at w. w.at_is ∙ ap Q (sym (there w.before w.last w.parts))))
]

is_spare : (geo : RawGeometry) (first : LogText) (more : List LogText) → ((at : Wrong) → HasNoneSpare geo (first ∷ more) at → ⊥) → (length (first ∷ more) < geo.log_lebs) ⊎ IsTrue (ends_in_start more)
is_spare geo first more none = elim (cases_lt (length (first ∷ more)) geo.log_lebs) [
  | inl less ↦ inl less
  | inr all ↦ elim (cases_Bool (ends_in_start more)) [
    | inl start ↦ inr start
    | inr no_start ↦
        let some = last_of_some first more in
        absurd (none (record { lnum = some.1.ends.lnum; offs = 0; misfit = differs (geo.log_lebs - 1) geo.log_lebs })
        (record { first = first; more = more; whole = refl; all = all; no_start = no_start; before = some.0; last = some.1; parts = some.2; at_is = refl }))
  ]
]

-- ---- the fifth part: LEBs that look newer
later_found : (number : ℕ) (begins : Option Found) → is_later number begins ≡ true → (found : Found) × (begins ≡ Some found) × (number < found.sqnum)
later_found number None h = absurd cc
later_found number (Some found) h = (found, refl, ltb-true number found.sqnum h)

all_older : (contents : ℕ → List ℕ) (geo : RawGeometry) (number : ℕ) (texts : List LogText) → ((at : Wrong) → LooksNewer contents geo number texts at → ⊥)
    → ((lnum : ℕ) → IsLogLeb geo lnum → (IsAmong lnum texts → ⊥) → (seen : Seen) × IsSeen (contents lnum) seen) → (lnum : ℕ) → IsLogLeb geo lnum → (IsAmong lnum texts → ⊥) → IsOlder number lnum (contents lnum)
all_older contents geo number texts none seen lnum in_log other =
    let s = seen lnum in_log other in
    let text = text_seen (contents lnum) lnum s.0 s.1 in
    elim (cases_Bool (is_later number (begins_with text.0.nodes))) [
      | inr not ↦ (text.0, text.1, not)
      | inl later ↦
          let f = later_found number (begins_with text.0.nodes) later in
          absurd (none (record { lnum = lnum; offs = 0; misfit = differs number f.0.sqnum })
          (record { in_log = in_log; other = other; text = text.0; is_text = text.1; found = f.0; begins = f.1; newer = f.2; offs = refl; values = refl }))
    ]

-- ---- all together
-- what is wrong first by the second to the fifth part, if anything is
abbrev Told : (ℕ → List ℕ) → RawGeometry → ℕ → List LogText → Option WrongValue → Type 0
Told contents geo number texts None =
    ((at : Wrong) → NamesNoMain contents geo texts at → ⊥) × ((at : Wrong) → IsTornWithin contents texts at → ⊥) × ((at : Wrong) → HasNoneSpare geo texts at → ⊥) × ((at : Wrong) → LooksNewer contents geo number texts at → ⊥)
Told contents geo number texts (Some at) = IsBrokenIn contents geo number texts (wrong_at at)

told_by : (contents : ℕ → List ℕ) (geo : RawGeometry) (number : ℕ) (texts : List LogText) (named torn spare newer : Option WrongValue) → IsFirstOf (NamesNoMain contents geo texts) named → IsFirstOf (IsTornWithin contents texts) torn → IsFirstOf (HasNoneSpare geo texts) spare
    → IsFirstOf (LooksNewer contents geo number texts) newer → Told contents geo number texts (option_or named (option_or torn (option_or spare newer)))
told_by contents geo number texts (Some a) torn spare newer h1 h2 h3 h4 = inl h1
told_by contents geo number texts None (Some a) spare newer h1 h2 h3 h4 = inr (h1, inl h2)
told_by contents geo number texts None None (Some a) newer h1 h2 h3 h4 = inr (h1, inr (h2, inl h3))
told_by contents geo number texts None None None (Some a) h1 h2 h3 h4 = inr (h1, inr (h2, inr (h3, h4)))
told_by contents geo number texts None None None None h1 h2 h3 h4 = (h1, h2, h3, h4)

pub judged : OneSystemNode → OneLebText → (contents : ℕ → List ℕ) (geo : RawGeometry) (master : Master) (number : ℕ) (read : ReadLebs) (newer : Option WrongValue) (text : LogText) → IsBytes (contents master.log_lnum) → IsLogTextOf (contents master.log_lnum) master.log_lnum text
    → BeginsCommit (contents master.log_lnum) (begins_with text.nodes) (Some master.cmt_no) → IsReadWhole contents geo master.log_lnum number read → IsFirstNewer contents geo number read.lnums.items newer → IsJudgedLog contents geo master (verdict_of geo read newer)
judged one unique contents geo master number read newer text fits is_text commit h newest = by (first_broken geo read newer) refl
  where
    from : ℕ
    from = master.log_lnum

    texts : List LogText
    texts = h.first ∷ h.more

    same_text : text ≡ h.first
    same_text = one_log_text one unique (contents from) from text h.first fits is_text h.chain.is_first

    own : BeginsCommit (contents from) (begins_with h.first.nodes) (Some master.cmt_no)
    own = (let P : LogText → Type 0 = λ t. BeginsCommit (contents from) (begins_with t.nodes) (Some master.cmt_no) in subst P same_text commit)

    no_start : (at : Wrong) → LacksItsStart contents master at → ⊥
    no_start = start_right one unique contents master h.first number fits h.chain.is_first h.chain.starts own

    told : Told contents geo number texts (first_broken geo read newer)
    told = told_by contents geo number texts read.misnamed read.torn (none_spare geo read) newer h.are.misnamed h.are.torn (first_spare geo h.first h.more read.alone (length read.lnums.items) read.last h.alone (ap length h.are.lnums ∙ lnums_len texts) h.are.last) (newest.least texts h.are.lnums)

    by : (o : Option WrongValue) → first_broken geo read newer ≡ o → IsJudgedLog contents geo master (verdict_by read o)
    by (Some at) e =
        let P : Option WrongValue → Type 0 = λ o. Told contents geo number texts o in
        inr (no_start, (number, texts, record { first = h.first; more = h.more; whole = refl; past = h.past; chain = h.chain; stops = h.stops }, subst P e told))
    by None e =
        let P : Option WrongValue → Type 0 = λ o. Told contents geo number texts o in
        let none = subst P e told in
        let seen : (lnum : ℕ) → IsLogLeb geo lnum → (IsAmong lnum texts → ⊥) → (s : Seen) × IsSeen (contents lnum) s = λ lnum in_log other.
        (newest.seen lnum in_log (elim (cases_Bool (list_any (λ k. k == lnum) read.lnums.items)) [
          | inr not ↦ not
          | inl any ↦ (let Q : List ℕ → Type 0 = λ xs. list_any (λ k. k == lnum) xs ≡ true in absurd (other (among_any lnum texts (subst Q h.are.lnums any))))
        ])) in (
          texts,
          record {
            first = h.first;
            more = h.more;
            whole = refl;
            start = number;
            past = h.past;
            chain = h.chain;
            stops = h.stops;
            commit = own;
            named = named_all contents geo texts (text_there contents from h.first h.chain.is_first, texts_of_run contents geo from number (next_leb geo from) h.past h.more h.chain.run) none.0;
            torn = end_whole contents texts none.1;
            spare = is_spare geo h.first h.more none.2;
            older = all_older contents geo number texts none.3 seen;
          },
          h.are.references,
        )
