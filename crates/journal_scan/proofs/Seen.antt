-- Leaf nodes among those that were found, one after another.
use Rattle.std.proofs.Common.{◌≡◌, ℕ, zero, suc, ◌+◌, ◌≤◌, ◌==◌, true, false, List, [], ◌∷◌, ◌++◌, length, map, take, refl, ap, sym, ◌∙◌, subst, arith, append_assoc, append-nil, length-append, take_all, inl, inr}
use Rattle.std.proofs.lemmas.Bool.{cases_Bool, eqb-true}
use Rattle.std.proofs.lemmas.List.{map-append, length-map}
use Rattle.std.specs.List.{AllByRecursion}
use Rattle.media_leaf.specs.LeafNode.{LeafNode}
use Rattle.media_sys.specs.SystemNode.{SystemNode}
use Rattle.leb_scan.specs.Text.{StandsAt, leaf, system}
use Rattle.leb_scan.specs.declared.found.Found.{Found}
use Rattle.leaf_map.specs.Kept.{Placed}
use Rattle.journal_scan.specs.Content.{told}
use Rattle.journal_scan.specs.Journal.{AreLeaves, placed_at, whole_groups}
use Rattle.journal_scan.specs.Stands.{HasNode}
use Rattle.journal_scan.specs.declared.bud_text.BudText.{BudText}
use Rattle.journal_scan.specs.declared.journal_node.JournalNode.{JournalNode}
use Rattle.journal_scan.proofs.Groups.{whole_all, whole_same}

-- Of those that were found the rest is still to be seen. So many nodes are of whole groups.
pub record AreSeen (bud : BudText) (founds rest : List Found) (seen : List JournalNode) (whole : ℕ) : Type 0 where
  pub nodes : List Placed
  pub before : (more : List Placed) → AreLeaves bud rest more → AreLeaves bud founds (nodes ++ more)
  pub each : AllByRecursion (HasNode bud.bytes) rest
  pub are_told : seen ≡ map told nodes
  pub whole_are : whole_groups nodes ≡ take whole nodes
  pub within : whole ≤ length nodes

pub seen_none : (bud : BudText) (founds : List Found) → AllByRecursion (HasNode bud.bytes) founds → AreSeen bud founds founds [] 0
seen_none bud founds each = record { nodes = []; before = λ more h. h; each = each; are_told = refl; whole_are = refl; within = omega arith }

-- a node of another kind
pub seen_other : (bud : BudText) (founds rest : List Found) (found : Found) (seen : List JournalNode) (whole : ℕ) → AreSeen bud founds (found ∷ rest) seen whole
    → (n : SystemNode) × StandsAt bud.bytes found.offs found (system n) → AreSeen bud founds rest seen whole
seen_other bud founds rest found seen whole s there = record {
  nodes = s.nodes;
  before = λ more h. s.before more ([], more, there, h, refl);
  each = s.each.1;
  are_told = s.are_told;
  whole_are = s.whole_are;
  within = s.within;
}

take_front : (n : ℕ) (xs ys : List Placed) → n ≤ length xs → take n (xs ++ ys) ≡ take n xs
take_front zero xs ys h = refl
take_front (suc n) [] ys h = absurd (omega (arith, h))
take_front (suc n) (x ∷ xs) ys h = ap (λ zs. x ∷ zs) (take_front n xs ys (omega (arith, h)))

is_one : (group : ℕ) → group ≡ 1 → (group == 1) ≡ true
is_one group e = rw e refl

isnt_one : (group : ℕ) → (group ≡ 1 → ⊥) → (group == 1) ≡ false
isnt_one group other = elim (cases_Bool (group == 1)) [ inl e ↦ absurd (other (eqb-true group 1 e)) | inr e ↦ e ]

module _ (bud : BudText) (founds rest : List Found) (found : Found) (seen : List JournalNode) (node : JournalNode) (n : LeafNode) (stands : StandsAt bud.bytes found.offs found (leaf n)) (is : node ≡ told (placed_at bud found n)) where
  abbrev x : Placed
  x = placed_at bud found n

  one_more : (whole later : ℕ) (s : AreSeen bud founds (found ∷ rest) seen whole) → whole_groups (s.nodes ++ x ∷ []) ≡ take later (s.nodes ++ x ∷ []) → later ≤ length s.nodes + 1 → AreSeen bud founds rest (seen ++ node ∷ []) later
  one_more whole later s groups most =
      let P : List Placed → Type 0 = λ zs. AreLeaves bud founds zs in
      let long : length (s.nodes ++ x ∷ []) ≡ length s.nodes + 1 = length-append s.nodes (x ∷ []) in
      record {
        nodes = s.nodes ++ x ∷ [];
        before = λ more h. subst P (sym (append_assoc s.nodes (x ∷ []) more)) (s.before (x ∷ more) (x ∷ [], more, (stands, refl), h, refl));
        each = s.each.1;
        are_told = ap (λ z. seen ++ z ∷ []) is ∙ ap (λ zs. zs ++ told x ∷ []) s.are_told ∙ sym (map-append told s.nodes (x ∷ []));
        whole_are = groups;
        within = omega (arith, long, most);
      }

  -- a leaf node of a group that isn't its last
  pub seen_within : (whole : ℕ) → AreSeen bud founds (found ∷ rest) seen whole → found.group ≡ 1 → AreSeen bud founds rest (seen ++ node ∷ []) whole
  seen_within whole s e =
      let most = s.within in
      one_more whole whole s (whole_same s.nodes x (is_one found.group e) ∙ s.whole_are ∙ sym (take_front whole s.nodes (x ∷ []) most)) (omega (arith, most))

  -- the last one of a group, or one by itself
  pub seen_last : (whole later : ℕ) → AreSeen bud founds (found ∷ rest) seen whole → (found.group ≡ 1 → ⊥) → later ≡ length (seen ++ node ∷ []) → AreSeen bud founds rest (seen ++ node ∷ []) later
  seen_last whole later s e is_len =
      let a : length (s.nodes ++ x ∷ []) ≡ length s.nodes + 1 = length-append s.nodes (x ∷ []) in
      let b : length (seen ++ node ∷ []) ≡ length seen + 1 = length-append seen (node ∷ []) in
      let d : length seen ≡ length s.nodes = ap length s.are_told ∙ length-map s.nodes told in
      one_more whole later s (whole_all s.nodes x (isnt_one found.group e) ∙ sym (take_all later (s.nodes ++ x ∷ []) (omega (arith, a, b, d, is_len)))) (omega (arith, a, b, d, is_len))

-- where all are seen they are the leaf nodes
pub seen_all : (bud : BudText) (founds rest : List Found) (seen : List JournalNode) (whole : ℕ) → AreSeen bud founds rest seen whole → length rest ≡ 0
    → (nodes : List Placed) × AreLeaves bud founds nodes × (seen ≡ map told nodes) × (whole_groups nodes ≡ take whole nodes)
seen_all bud founds [] seen whole s e =
    let P : List Placed → Type 0 = λ zs. AreLeaves bud founds zs in
    (s.nodes, subst P (append-nil s.nodes) (s.before [] refl), s.are_told, s.whole_are)
seen_all bud founds (found ∷ rest) seen whole s e = absurd (omega (arith, e))
