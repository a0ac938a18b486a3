-- What is read where no node can stand.
use Rattle.std.proofs.Common.{◌≡◌, ℕ, ◌-◌, ◌<◌, ◌≤◌, List, [], length, take, drop, min, ap, sym, ◌∙◌, arith, length-drop, None}
use Rattle.std.proofs.lemmas.List.{length-take}
use Rattle.group_nodes.specs.LengthLaws.{leaf_length, length_most}
use Rattle.shown_leaves.specs.Stored.{IsStoredIn}

none_in_nothing : (bytes : List ℕ) → length bytes ≡ 0 → IsStoredIn bytes None
none_in_nothing bytes empty sqnum group node h = let least = (leaf_length bytes sqnum group node h).0 in omega (arith, empty, least)

pub none_past : (leb : List ℕ) (offs len : ℕ) → leb ≡ [] → IsStoredIn (take len (drop offs leb)) None
none_past leb offs len e =
    let far = length-drop offs leb in
    let empty = ap length e in
    none_in_nothing (take len (drop offs leb)) (let most = length_most len (drop offs leb) in omega (arith, far, empty, most))

pub none_behind : (leb : List ℕ) (offs len : ℕ) → length leb < offs → IsStoredIn (take len (drop offs leb)) None
none_behind leb offs len past =
    let far = length-drop offs leb in
    none_in_nothing (take len (drop offs leb)) (let most = length_most len (drop offs leb) in omega (arith, far, past, most))

pub none_longer : (leb : List ℕ) (offs len count size : ℕ) → length leb ≡ size → offs ≤ size → count ≡ min len (size - offs) → 4256 < count → IsStoredIn (take len (drop offs leb)) None
none_longer leb offs len count size long inside is more sqnum group node h =
    let most = (leaf_length (take len (drop offs leb)) sqnum group node h).1 in
    let have = length-take len (drop offs leb) ∙ ap (min len) (length-drop offs leb ∙ ap (λ n. n - offs) long) ∙ sym is in
    omega (arith, most, have, more)
