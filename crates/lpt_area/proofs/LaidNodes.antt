-- A node that was laid into a buffer.
use Rattle.std.proofs.Common.{◌≡◌, ℕ, ◌+◌, ◌≤◌, List, ◌++◌, length, take, drop, ap, sym, ◌∙◌, arith, append_assoc, length-append, length-drop}
use Rattle.std.proofs.lemmas.List.{take_at, length-take-le}
use Rattle.lpt_area.specs.Laid.{IsLaid}

pub laid : (N : List ℕ → Type 0) (old new bytes front rest behind : List ℕ) (offs len : ℕ) → offs + len ≤ length old → front ≡ take offs old → rest ≡ drop offs old → behind ≡ drop len rest
    → N bytes → length bytes ≡ len → new ≡ front ++ (bytes ++ behind) → IsLaid N old new offs len
laid N old new bytes front rest behind offs len room is_front is_rest is_behind node long is =
    let front_len : length front ≡ offs = ap length is_front ∙ length-take-le offs old (omega arith) in
    let both : length (front ++ bytes) ≡ offs + len = length-append front bytes ∙ omega (arith, front_len, long) in
    let whole : new ≡ (front ++ bytes) ++ behind = is ∙ sym (append_assoc front bytes behind) in
    let rest_len = ap length is_rest ∙ length-drop offs old in
    let behind_len = ap length is_behind ∙ length-drop len rest in
    let sum = ap length whole ∙ length-append (front ++ bytes) behind in
    record {
      bytes = bytes;
      node = node;
      long = long;
      front = ap (take (offs + len)) whole ∙ take_at (front ++ bytes) behind (offs + len) both ∙ ap (λ (f : List ℕ). f ++ bytes) is_front;
      size = omega (arith, rest_len, behind_len, sum, both, room);
    }
