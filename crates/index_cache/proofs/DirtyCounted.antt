-- The numbers of dirty nodes, up to a most.
use Rattle.std.proofs.Common.{◌≡◌, ℕ, ◌+◌, List, [], ◌∷◌, ◌++◌, length, refl, ap, sym, ◌∙◌, arith, length-append, append-nil}
use Rattle.std.specs.Prelude.{min, slice_get, unwrap_or}
use Rattle.node_table.specs.Dirty.{dirty_among}
use Rattle.table_nodes.specs.declared.link.Link.{Link}
use Rattle.table_nodes.specs.declared.link.Link.TheVariants.{ToLeaf, ToNode}

-- those of one link, and those behind it
first_apart : (known : List (List ℕ)) (link : Link) (rest : List Link) → dirty_among known (link ∷ rest) ≡ dirty_among known (link ∷ []) ++ dirty_among known rest
first_apart known (ToLeaf x) rest = refl
first_apart known (ToNode key number) rest = ap (λ (v : List ℕ). v ++ dirty_among known rest) (sym (append-nil (unwrap_or (slice_get known number) [])))

pub both_counted : (most here behind : ℕ) (known : List (List ℕ)) (links rest : List Link) (link : Link) → links ≡ link ∷ rest → here ≡ min (length (dirty_among known (link ∷ []))) most
    → behind ≡ min (length (dirty_among known rest)) most → min (here + behind) most ≡ min (length (dirty_among known links)) most
both_counted most here behind known links rest link e h b =
    let long = ap (λ (v : List Link). length (dirty_among known v)) e ∙ ap length (first_apart known link rest) in
    let sum = length-append (dirty_among known (link ∷ [])) (dirty_among known rest) in
    grind (arith, long, sum, h, b)

pub one_more : (most below number : ℕ) (whole under : List ℕ) → whole ≡ under ++ number ∷ [] → below ≡ min (length under) most → min (below + 1) most ≡ min (length whole) most
one_more most below number whole under e h =
    let long = ap length e in
    let sum = length-append under (number ∷ []) in
    grind (arith, long, sum, h)

pub node_counted : (known : List (List ℕ)) (number most n : ℕ) → n ≡ min (length (unwrap_or (slice_get known number) [])) most → n ≡ min (length (unwrap_or (slice_get known number) [] ++ [])) most
node_counted known number most n h = let long = ap length (append-nil (unwrap_or (slice_get known number) [])) in grind (arith, long, h)
