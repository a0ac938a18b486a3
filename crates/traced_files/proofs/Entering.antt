-- A trace with one line more, as a pass sees it.
use Rattle.std.proofs.Common.{◌≡◌, ℕ, zero, suc, ◌+◌, List, [], ◌∷◌, ◌++◌, length, Some, refl, ap, sym, ◌∙◌, subst, arith, append_assoc, length-append}
use Rattle.std.specs.Prelude.{slice_get}
use mathlib.Core.List.{IsPrefix}
use Rattle.fs_model.specs.declared.op.Op.{Op}
use Rattle.fs_model.specs.declared.reply.Reply.{Reply}
use Rattle.fs_model.specs.declared.trace.TraceLine.{TraceLine}
use Rattle.trace_word.specs.Knowledge.{lines_of}
use Rattle.vfs_ops.specs.FilesState.{FilesState}
use Rattle.traced_files.specs.Calls.{IsEntered}
use Rattle.traced_files.specs.Start.{IsHistoryFrom, Start}
use Rattle.traced_files.specs.States.{TracedPassState}

get_last : (xs : List TraceLine) (x : TraceLine) (k : ℕ) → k ≡ length xs → slice_get (xs ++ x ∷ []) k ≡ Some x
get_last [] x zero is = refl
get_last [] x (suc k) is = absurd (omega arith)
get_last (y ∷ ys) x zero is = absurd (omega arith)
get_last (y ∷ ys) x (suc k) is = get_last ys x k (omega arith)

-- what a call leaves, where the trace got its line
pub entered : (start : Start) (state : FilesState) (old new : TracedPassState) (now : ℕ) (op : Op) (reply : Reply) (trace : List TraceLine) → new.word ≡ old.word → new.pool ≡ old.pool → new.caller ≡ old.caller → new.made ≡ old.made + 1
    → new.last ≡ length trace → new.seen ≡ trace ++ (record { caller = old.caller; number = new.made; now = now; op = op; reply = reply }) ∷ [] → IsPrefix old.seen trace → lines_of new.caller new.seen ≡ new.made
    → IsHistoryFrom start new.seen state → IsEntered start old now op new reply
entered start state old new now op reply trace word pool caller made last seen begins lines legal =
    let line : TraceLine = record { caller = old.caller; number = new.made; now = now; op = op; reply = reply } in
    record {
      word = word;
      pool = pool;
      caller = caller;
      made = made;
      line = ap (λ (t : List TraceLine). slice_get t new.last) seen ∙ get_last trace line new.last last;
      begins = subst (IsPrefix old.seen) (sym seen) (begins.0 ++ line ∷ [], sym (append_assoc old.seen begins.0 (line ∷ [])) ∙ ap (λ (t : List TraceLine). t ++ line ∷ []) begins.1);
      behind = omega (arith, last, sym (ap length begins.1) ∙ length-append old.seen begins.0);
      lines = lines;
      legal = (state, legal);
    }
