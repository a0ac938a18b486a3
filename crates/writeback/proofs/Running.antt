-- Operations of one caller, one after another.
use Rattle.std.proofs.Common.{◌≡◌, ◌⊎◌, inl, inr, ℕ, zero, suc, ◌+◌, ◌-◌, ◌<◌, ◌≤◌, ◌==◌, Bool, true, false, cond, List, [], ◌∷◌, ◌++◌, length, Some, get_or, refl, ap, sym, ◌∙◌, subst, arith, append_assoc, length-append}
use Rattle.std.specs.Prelude.{slice_get, filter, count_by}
use Rattle.std.proofs.lemmas.List.{append-nil, nil_from_length, get_or-append-add}
use Rattle.std.proofs.lemmas.Bool.Decides.{nat_tests}
use Rattle.std.proofs.lemmas.List.Elements.{filter-append}
use Rattle.std.proofs.lemmas.List.Sums.{sum_by-cons, sum_by-append, length-filter}
use Rattle.std.proofs.lemmas.Option.{slice_get_within, get_or_from_slice_get}
use Rattle.fs_model.specs.declared.op.Op.{Op}
use Rattle.fs_model.specs.declared.reply.Reply.{Reply}
use Rattle.fs_model.specs.declared.trace.TraceLine.{TraceLine}
use Rattle.trace_word.specs.Knowledge.{lines_of}
use Rattle.traced_files.specs.Calls.{IsEntered, IsUndone}
use Rattle.traced_files.specs.Start.{Start}
use Rattle.traced_files.specs.States.{TracedPassState}
use Rattle.writeback.specs.Runs.{AreCalls, HasRun, lines_by}

module _ {A : Type 0} (p : A → Bool) where
  abbrev one : A → ℕ
  one x = cond (p x) 1 0

  counted_there : (xs : List A) (k : ℕ) (x : A) → k < length xs → get_or xs k x ≡ x → p x ≡ true → 1 ≤ count_by p xs
  counted_there [] k x lt is pass = absurd (omega arith)
  counted_there (y ∷ ys) zero x lt is pass =
      let a = sum_by-cons one y ys in
      let b : one y ≡ 1 = ap one is ∙ ap (λ (b : Bool). cond b 1 0) pass in
      omega arith
  counted_there (y ∷ ys) (suc k) x lt is pass =
      let a = sum_by-cons one y ys in
      let b = counted_there ys k x (omega arith) is pass in
      omega arith

  by_head : (y : A) (ys : List A) (k : ℕ) (x : A) → k < length ys → get_or ys k x ≡ x → p x ≡ true → count_by p (y ∷ ys) ≡ 1 → (b : Bool) → p y ≡ b → (count_by p ys ≡ 1 → filter p ys ≡ x ∷ []) → filter p (y ∷ ys) ≡ x ∷ []
  by_head y ys k x lt is pass count true here more =
      let a = sum_by-cons one y ys in
      let b : one y ≡ 1 = ap (λ (b : Bool). cond b 1 0) here in
      let two = counted_there ys k x lt is pass in
      absurd (omega arith)
  by_head y ys k x lt is pass count false here more =
      let a = sum_by-cons one y ys in
      let b : one y ≡ 0 = ap (λ (b : Bool). cond b 1 0) here in
      ap (λ (b : Bool). cond b (y ∷ filter p ys) (filter p ys)) here ∙ more (omega arith)

  -- where one item passes, and this one does, it is all that passes
  pub only_one : (xs : List A) (k : ℕ) (x : A) → k < length xs → get_or xs k x ≡ x → p x ≡ true → count_by p xs ≡ 1 → filter p xs ≡ x ∷ []
  only_one [] k x lt is pass count = absurd (omega arith)
  only_one (y ∷ ys) zero x lt is pass count =
      let a = sum_by-cons one y ys in
      let here : p y ≡ true = ap p is ∙ pass in
      let b : one y ≡ 1 = ap (λ (b : Bool). cond b 1 0) here in
      let none : filter p ys ≡ [] = nil_from_length (filter p ys) (length-filter p ys ∙ omega arith) in
      ap (λ (b : Bool). cond b (y ∷ filter p ys) (filter p ys)) here ∙ ap (λ (l : List A). y ∷ l) none ∙ ap (λ (z : A). z ∷ []) is
  only_one (y ∷ ys) (suc k) x lt is pass count =
      by_head y ys k x (omega arith) is pass count (p y) refl (λ fewer. only_one ys k x (omega arith) is pass fewer)

  -- what passes behind a beginning is one item, where one more passes in all and it stands there
  pub one_behind : (front rest : List A) (at : ℕ) (x : A) → length front ≤ at → slice_get (front ++ rest) at ≡ Some x → p x ≡ true → count_by p (front ++ rest) ≡ count_by p front + 1 → filter p (front ++ rest) ≡ filter p front ++ x ∷ []
  one_behind front rest at x behind there pass count =
      let k : ℕ = at - length front in
      let long = length-append front rest in
      let within = slice_get_within (front ++ rest) at x there in
      let is : get_or (front ++ rest) at x ≡ x = get_or_from_slice_get (front ++ rest) at x x there in
      let place : length front + k ≡ at = omega arith in
      let is' : get_or rest k x ≡ x = sym (get_or-append-add front rest k x) ∙ ap (λ (n : ℕ). get_or (front ++ rest) n x) place ∙ is in
      let sums = sum_by-append one front rest in
      filter-append p front rest ∙ ap (λ (l : List A). filter p front ++ l) (only_one rest k x (omega arith) is' pass (omega arith))

abbrev of_caller : ℕ → TraceLine → Bool
of_caller caller line = line.caller == caller

-- the caller's lines once its call was made
pub entered_lines : (start : Start) (old new : TracedPassState) (now : ℕ) (op : Op) (reply : Reply) → lines_of old.caller old.seen ≡ old.made → IsEntered start old now op new reply
    → lines_by old.caller new.seen ≡ lines_by old.caller old.seen ++ (record { caller = old.caller; number = old.made + 1; now = now; op = op; reply = reply }) ∷ []
entered_lines start old new now op reply counted e =
    let line : TraceLine = record { caller = old.caller; number = old.made + 1; now = now; op = op; reply = reply } in
    let rest : List TraceLine = e.begins.0 in
    let whole : old.seen ++ rest ≡ new.seen = e.begins.1 in
    let there : slice_get (old.seen ++ rest) new.last ≡ Some line =
    ap (λ (t : List TraceLine). slice_get t new.last) whole ∙ (e.line ∙ ap (λ (n : ℕ). Some (record { caller = old.caller; number = n; now = now; op = op; reply = reply })) e.made) in
    let count : lines_of old.caller (old.seen ++ rest) ≡ lines_of old.caller old.seen + 1 =
    ap (lines_of old.caller) whole ∙ (ap (λ (c : ℕ). lines_of c new.seen) (sym e.caller) ∙ (e.lines ∙ (e.made ∙ ap (λ (n : ℕ). n + 1) (sym counted)))) in
    ap (lines_by old.caller) (sym whole) ∙ one_behind (of_caller old.caller) old.seen rest new.last line e.behind there (own old.caller) count
  where
    own : (n : ℕ) → (n == n) ≡ true
    own n = grind (arith, nat_tests)

-- one operation more, which has a line
calls_push : (caller now made : ℕ) (ops : List Op) (lines : List TraceLine) (op : Op) (reply : Reply) → AreCalls caller now made ops lines
    → AreCalls caller now made (ops ++ op ∷ []) (lines ++ (record { caller = caller; number = (made + length lines) + 1; now = now; op = op; reply = reply }) ∷ [])
calls_push caller now made [] lines op reply none =
    let line : ℕ → TraceLine = λ n. record { caller = caller; number = n + 1; now = now; op = op; reply = reply } in
    let number : made + length lines ≡ made = omega (arith, ap length none) in
    inr (reply, [], ap (λ (x : List TraceLine × ℕ). x.0 ++ line x.1 ∷ []) (λ k. (none k, number k)), refl)
calls_push caller now made (x ∷ xs) lines op reply (inl h) = inl (calls_push caller now made xs lines op reply h)
calls_push caller now made (x ∷ xs) lines op reply (inr h) =
    let line : ℕ → TraceLine = λ n. record { caller = caller; number = n + 1; now = now; op = op; reply = reply } in
    let first : TraceLine = record { caller = caller; number = made + 1; now = now; op = x; reply = h.0 } in
    let number : (made + 1) + length h.1 ≡ made + length lines = omega (arith, ap length h.2) in
    inr (
      h.0,
      h.1 ++ line (made + length lines) ∷ [],
      ap (λ (l : List TraceLine). l ++ line (made + length lines) ∷ []) h.2,
      subst (λ (n : ℕ). AreCalls caller now (made + 1) (xs ++ op ∷ []) (h.1 ++ line n ∷ [])) number (calls_push caller now (made + 1) xs h.1 op reply h.3),
    )

-- one operation more, for whose line there was no memory
calls_pass : (caller now made : ℕ) (ops : List Op) (lines : List TraceLine) (op : Op) → AreCalls caller now made ops lines → AreCalls caller now made (ops ++ op ∷ []) lines
calls_pass caller now made [] lines op none = inl none
calls_pass caller now made (x ∷ xs) lines op (inl h) = inl (calls_pass caller now made xs lines op h)
calls_pass caller now made (x ∷ xs) lines op (inr h) = inr (h.0, h.1, h.2, calls_pass caller now (made + 1) xs h.1 op h.3)

-- nothing was made yet
pub run_none : (old : TracedPassState) (now : ℕ) → lines_of old.caller old.seen ≡ old.made → HasRun old now [] old
run_none old now counted = record {
  word = refl;
  pool = refl;
  caller = refl;
  begins = ([], append-nil old.seen);
  calls = [];
  are = refl;
  lines = sym (append-nil (lines_by old.caller old.seen));
  made = omega arith;
  counted = counted;
}

run_pass : (old : TracedPassState) (now : ℕ) (ops : List Op) (new : TracedPassState) (op : Op) → HasRun old now ops new → HasRun old now (ops ++ op ∷ []) new
run_pass old now ops new op h = record {
  word = h.word;
  pool = h.pool;
  caller = h.caller;
  begins = h.begins;
  calls = h.calls;
  are = calls_pass old.caller now old.made ops h.calls op h.are;
  lines = h.lines;
  made = h.made;
  counted = h.counted;
}

run_enter : (start : Start) (old mid new : TracedPassState) (now : ℕ) (ops : List Op) (op : Op) (reply : Reply) → HasRun old now ops mid → IsEntered start mid now op new reply → HasRun old now (ops ++ op ∷ []) new
run_enter start old mid new now ops op reply h e =
    let line : ℕ → ℕ → TraceLine = λ c n. record { caller = c; number = n + 1; now = now; op = op; reply = reply } in
    let added : lines_by old.caller new.seen ≡ lines_by old.caller mid.seen ++ line old.caller (old.made + length h.calls) ∷ [] =
    subst (λ (x : ℕ × ℕ). lines_by x.0 new.seen ≡ lines_by x.0 mid.seen ++ line x.0 x.1 ∷ []) (λ k. (h.caller k, h.made k)) (entered_lines start mid new now op reply h.counted e) in
    record {
      word = e.word ∙ h.word;
      pool = e.pool ∙ h.pool;
      caller = e.caller ∙ h.caller;
      begins = (h.begins.0 ++ e.begins.0, sym (append_assoc old.seen h.begins.0 e.begins.0) ∙ (ap (λ (t : List TraceLine). t ++ e.begins.0) h.begins.1 ∙ e.begins.1));
      calls = h.calls ++ line old.caller (old.made + length h.calls) ∷ [];
      are = calls_push old.caller now old.made ops h.calls op reply h.are;
      lines = added ∙ (ap (λ (t : List TraceLine). t ++ line old.caller (old.made + length h.calls) ∷ []) h.lines ∙ append_assoc (lines_by old.caller old.seen) h.calls (line old.caller (old.made + length h.calls) ∷ []));
      made = omega (arith, e.made, h.made, length-append h.calls (line old.caller (old.made + length h.calls) ∷ []));
      counted = e.lines;
    }

-- one call more
pub run_push : (start : Start) (old mid new : TracedPassState) (now : ℕ) (ops : List Op) (op : Op) (reply : Reply) → HasRun old now ops mid → IsUndone mid new reply ⊎ IsEntered start mid now op new reply → HasRun old now (ops ++ op ∷ []) new
run_push start old mid new now ops op reply h (inl undone) = subst (HasRun old now (ops ++ op ∷ [])) (sym undone.1) (run_pass old now ops mid op h)
run_push start old mid new now ops op reply h (inr e) = run_enter start old mid new now ops op reply h e
