-- The first file on a fresh volume of 64 main LEBs, beside a worker.
use Rattle.std.proofs.Common.{◌≡◌, ◌⊎◌, ℕ, ◌++◌, Bool, cond, List, [], ◌∷◌, true, false, All, map, inl, inr, refl, sym, ap, subst, ◌∙◌, arith}
use Rattle.std.specs.Prelude.{◌==◌, codes, filter}
use Rattle.std.proofs.lemmas.Bool.{false≢true}
use Rattle.std.proofs.lemmas.Bool.Decides.{nat_tests}
use Rattle.std.proofs.lemmas.List.{append-nil}
use Rattle.std.proofs.lemmas.List.Elements.{All-head}
use Rattle.fs_model.specs.declared.backing_answers.Mode.TheVariants.{ReadWrite}
use Rattle.fs_model.specs.declared.op.Op.{Op}
use Rattle.fs_model.specs.declared.op.Op.TheVariants.{Create}
use Rattle.fs_model.specs.declared.refusal.Refusal.{Refusal}
use Rattle.fs_model.specs.declared.refusal.Refusal.TheVariants.{Enospc, Erofs, Eio, Enomem, Enfile}
use Rattle.fs_model.specs.declared.refusal.Table.TheVariants.{Orphans}
use Rattle.fs_model.specs.declared.reply.Reply.{Reply}
use Rattle.fs_model.specs.declared.reply.Reply.TheVariants.{Ino, Refused}
use Rattle.fs_model.specs.declared.trace.TraceLine.{TraceLine}
use Rattle.fs_model.specs.Files.{Files}
use Rattle.fs_model.specs.Journal.{Journal}
use Rattle.fs_model.specs.Legal.{AreLines, IsPlain, IsRefusal, IsRefused, Opening}
use Rattle.script_text.specs.Reply.{reply_line}
use Rattle.script_text.specs.declared.part.Part.TheVariants.{Workers}
use Rattle.text_lines.specs.Lines.{ended}
use Rattle.script_phase.specs.declared.lines.CallerLine.{CallerLine}
use Rattle.script_phase.specs.Phases.{callers_in, is_memory, ops_by, traced_by}
use Rattle.script_run.specs.Heaviest.{one_create, worked_geometry}
use Rattle.script_run.specs.Phases.{ArePhases, AreServedTogether, IsPhase, opened_on, place_at, trace_text}
use Rattle.script_run.specs.Run.{ScriptRunning, opening}

abbrev creating : Op
creating = Create (codes "/f") 420

abbrev one_line : List CallerLine
one_line = (record { caller = 1; op = creating }) ∷ []

-- where the script is before it
abbrev beside : Journal → ScriptRunning
beside journal = record (opening journal) { mounted = true; number = 0; workers = 1 }

abbrev opened : Journal → Opening
opened journal = opened_on worked_geometry (callers_in one_line) (beside journal)

equal_is : (n : ℕ) → (n == n) ≡ true
equal_is n = grind (arith, nat_tests)

is_one : (n : ℕ) → (1 == n) ≡ true → n ≡ 1
is_one n e = grind (arith, nat_tests, e)

abbrev op_in : TraceLine → Op
op_in line = line.op

-- the first line is one of its caller's
first_own : (l : TraceLine) (rest : List TraceLine) → traced_by l.caller (l ∷ rest) ≡ l.op ∷ traced_by l.caller rest
first_own l rest = ap (λ (b : Bool). map op_in (cond b (l ∷ filter (λ (x : TraceLine). x.caller == l.caller) rest) (filter (λ (x : TraceLine). x.caller == l.caller) rest))) (equal_is l.caller)

-- the line of caller 1 is nobody else's
given : (caller : ℕ) → ops_by caller one_line ≡ cond (1 == caller) (creating ∷ []) []
given caller = by (1 == caller) refl
  where
    by : (b : Bool) → (1 == caller) ≡ b → ops_by caller one_line ≡ cond (1 == caller) (creating ∷ []) []
    by true e = ap (λ (b : Bool). map (λ (x : CallerLine). x.op) (cond b one_line [])) e ∙ sym (ap (λ (b : Bool). cond b (creating ∷ []) []) e)
    by false e = ap (λ (b : Bool). map (λ (x : CallerLine). x.op) (cond b one_line [])) e ∙ sym (ap (λ (b : Bool). cond b (creating ∷ []) []) e)

-- so a line of a trace that has just this one is caller 1's
of_one : (l : TraceLine) (more : List Op) → l.op ∷ more ≡ cond (1 == l.caller) (creating ∷ []) [] → (l.caller ≡ 1) × (l.op ≡ creating) × (more ≡ [])
of_one l more e = by (1 == l.caller) refl e
  where
    by : (b : Bool) → (1 == l.caller) ≡ b → l.op ∷ more ≡ cond b (creating ∷ []) [] → (l.caller ≡ 1) × (l.op ≡ creating) × (more ≡ [])
    by true is e = (is_one l.caller is, cc, cc)
    by false is e = absurd cc

-- what is known of such a trace
pub record IsOneLine (trace : List TraceLine) : Type 0 where
  pub line : TraceLine
  pub all : trace ≡ line ∷ []
  pub caller : line.caller ≡ 1
  pub op : line.op ≡ creating

none_more : (l : TraceLine) (rest : List TraceLine) → l.caller ≡ 1 → traced_by l.caller rest ≡ [] → ((caller : ℕ) → traced_by caller (l ∷ rest) ≡ ops_by caller one_line) → rest ≡ []
none_more l [] is none own = refl
none_more l (m ∷ more) is none own = by (l.caller == m.caller) refl
  where
    of_m : m.op ∷ traced_by m.caller more ≡ [] → ⊥
    of_m e = absurd cc

    by : (b : Bool) → (l.caller == m.caller) ≡ b → ◌≡◌ {A = List TraceLine} (m ∷ more) []
    by true e =
        let same : l.caller ≡ m.caller = grind (arith, nat_tests, e) in
        absurd (of_m (sym (first_own m more) ∙ (ap (λ (c : ℕ). traced_by c (m ∷ more)) (sym same) ∙ none)))
    by false e =
        let told : traced_by m.caller (m ∷ more) ≡ traced_by m.caller (l ∷ m ∷ more) = sym (ap (λ (b : Bool). map op_in (cond b (l ∷ filter (λ (x : TraceLine). x.caller == m.caller) (m ∷ more)) (filter (λ (x : TraceLine). x.caller == m.caller) (m ∷ more)))) e) in
        let one = of_one m (traced_by m.caller more) (sym (first_own m more) ∙ (told ∙ (own m.caller ∙ given m.caller))) in
        absurd (false≢true (sym e ∙ (ap (λ (n : ℕ). l.caller == n) (one.0 ∙ sym is) ∙ equal_is l.caller)))

one_traced : (trace : List TraceLine) → ((caller : ℕ) → traced_by caller trace ≡ ops_by caller one_line) → IsOneLine trace
one_traced [] own = let e : [] ≡ creating ∷ [] = own 1 in absurd cc
one_traced (l ∷ rest) own =
    let one = of_one l (traced_by l.caller rest) (sym (first_own l rest) ∙ (own l.caller ∙ given l.caller)) in
    record { line = l; all = ap (λ (xs : List TraceLine). l ∷ xs) (none_more l rest one.0 one.2 own); caller = one.0; op = one.1 }

-- the line, with what is known of it
abbrev known : ℕ → Reply → TraceLine
known number reply = record { caller = 1; number = number; now = 0; op = creating; reply = reply }

not_full : (journal : Journal) (number : ℕ) (reply : Reply) (refusal : Refusal) → is_memory reply ≡ false → reply ≡ Refused refusal → IsRefusal (opened journal) (place_at (beside journal)) ReadWrite (known number reply) refusal → ⊥
not_full journal number reply (Enospc sides) memory told (free, why) =
    let need = why.need in
    let room = why.room in
    let above = why.exceeds in
    absurd (omega (arith, need, room, above))
not_full journal number reply (Erofs cause) memory told why = absurd cc
not_full journal number reply (Eio count) memory told why = why refl
not_full journal number reply Enomem memory told why = false≢true (sym memory ∙ ap is_memory told)
not_full journal number reply (Enfile Orphans limit) memory told why = let none = why.2 in absurd (omega (arith, none))
not_full journal number reply refusal memory told why = why

replied : (journal : Journal) (number : ℕ) (reply : Reply) (after : Files) → is_memory reply ≡ false → IsPlain (place_at (beside journal)) ReadWrite (known number reply) after ⊎ IsRefused (opened journal) (place_at (beside journal)) ReadWrite (known number reply) after → reply ≡ Ino 65
replied journal number reply after memory (inl plain) = plain.told
replied journal number reply after memory (inr refused) = absurd (not_full journal number reply refused.refusal memory refused.told refused.why)

-- what is printed of the phase
shown : (journal : Journal) (text : List ℕ) (last : ScriptRunning) → AreServedTogether worked_geometry (beside journal) one_line text last → text ≡ reply_line 1 1 (Ino 65)
shown journal text last h =
    let one = one_traced h.trace h.own in
    let l = one.line in
    let now : l.now ≡ 0 = All-head (λ (line : TraceLine). line.now ≡ 0) l [] (subst (All (λ (line : TraceLine). line.now ≡ 0)) one.all h.time) in
    let memory : is_memory l.reply ≡ false = All-head (λ (line : TraceLine). is_memory line.reply ≡ false) l [] (subst (All (λ (line : TraceLine). is_memory line.reply ≡ false)) one.all h.memory) in
    let is : l ≡ known l.number l.reply = λ i. record { caller = one.caller i; number = l.number; now = now i; op = one.op i; reply = l.reply } in
    let lines : AreLines (opened journal) ReadWrite (place_at (beside journal)) (known l.number l.reply ∷ []) h.last =
    subst (λ (x : TraceLine). AreLines (opened journal) ReadWrite (place_at (beside journal)) (x ∷ []) h.last) is (subst (λ (t : List TraceLine). AreLines (opened journal) ReadWrite (place_at (beside journal)) t h.last) one.all h.answered) in
    let reply : l.reply ≡ Ino 65 = replied journal l.number l.reply lines.1 memory lines.2 in
    h.printed ∙ ap trace_text one.all ∙ append-nil (reply_line l.caller l.number l.reply) ∙ (λ i. reply_line (one.caller i) (lines.0 i) (reply i))

pub first_text_beside : (journal : Journal) (text : List ℕ) (last : ScriptRunning) → ArePhases worked_geometry (opening journal) [] (Workers 1 ∷ one_create) text last → text ≡ ended (codes "mount rw") ++ reply_line 1 1 (Ino 65)
first_text_beside journal text last (front, next, rest, turn, (front_too, next_too, rest_too, turn_too, phase, all_too), all) =
    let here : next ≡ record (opening journal) { workers = 1; number = 0 } = turn.control.1 ∙ ap (λ (s : ScriptRunning). record s { workers = 1; number = 0 }) turn.phase.1 in
    let there : next_too ≡ beside journal = turn_too.control.1 ∙ ap (λ (s : ScriptRunning). record s { mounted = true; number = 0 }) (turn_too.phase.1 ∙ here) in
    let served : AreServedTogether worked_geometry (beside journal) one_line rest_too last = subst (λ (s : ScriptRunning). IsPhase worked_geometry s one_line rest_too last) there phase in
    let none : front ≡ [] = turn.printed ∙ (ap (λ (t : List ℕ). t ++ turn.line) turn.phase.0 ∙ turn.control.0) in
    let mounted : front_too ≡ ended (codes "mount rw") = turn_too.printed ∙ (ap (λ (t : List ℕ). t ++ turn_too.line) turn_too.phase.0 ∙ turn_too.control.0) in
    all ∙ (ap (λ (t : List ℕ). t ++ rest) none ∙ (all_too ∙ (λ i. mounted i ++ shown journal rest_too last served i)))
