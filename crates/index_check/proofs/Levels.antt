-- What is below a node on the lowest level, and on one above it.
use Rattle.std.proofs.Common.{◌≡◌, ℕ, ◌-◌, ◌<◌, Bool, List, [], ◌∷◌, ◌++◌, Option, Some, map, refl, ap, sym, ◌∙◌, arith, append_assoc}
use Rattle.std.specs.Prelude.{if◌then◌else◌}
use Rattle.std.proofs.lemmas.Bool.{eq-eqb, ne_eqb}
use Rattle.std.proofs.lemmas.List.{reverse-append}
use Rattle.ubifs_base.specs.declared.key.Key.{Key}
use Rattle.index_media.specs.PlacedRow.{leaf_of}
use Rattle.media_sys.specs.Index.{Index}
use Rattle.media_sys.specs.declared.branch.Branch.{Branch}
use Rattle.sound_image.specs.IndexBreaches.{NodeWanted, most_below}
use Rattle.index_check.specs.IndexWalk.{leaves_below, nodes_below, waiting_in, wanted_below, wanted_of}
use Rattle.index_check.specs.declared.wanted.Wanted.{Wanted}

pub nodes_above : (wanted : NodeWanted) (said : Index) → 0 < said.level → nodes_below wanted said ≡ wanted_below (said.level - 1) wanted.most said.branches
nodes_above wanted said some = ap (λ (b : Bool). if b then [] else wanted_below (said.level - 1) wanted.most said.branches) (ne_eqb said.level 0 (λ z. omega (arith, z, some)))

pub nodes_none : (wanted : NodeWanted) (said : Index) → said.level ≡ 0 → nodes_below wanted said ≡ []
nodes_none wanted said zero = ap (λ (b : Bool). if b then [] else wanted_below (said.level - 1) wanted.most said.branches) (eq-eqb said.level 0 zero)

pub leaves_all : (said : Index) → said.level ≡ 0 → leaves_below said ≡ map leaf_of said.branches
leaves_all said zero = ap (λ (b : Bool). if b then map leaf_of said.branches else []) (eq-eqb said.level 0 zero)

pub leaves_none : (said : Index) → 0 < said.level → leaves_below said ≡ []
leaves_none said some = ap (λ (b : Bool). if b then map leaf_of said.branches else []) (ne_eqb said.level 0 (λ z. omega (arith, z, some)))

most_pushed : (before : List Branch) (last : Branch) (most : Option Key) → most_below (before ++ last ∷ []) most ≡ most_below before (Some last.key)
most_pushed [] last most = refl
most_pushed (next ∷ before) last most = refl

-- with the last branch, which bounds those before it
below_last : (level : ℕ) (most : Option Key) (before : List Branch) (last : Branch)
    → wanted_below level most (before ++ last ∷ []) ≡ wanted_below level (Some last.key) before ++ (record { branch = last; level = Some level; most = most }) ∷ []
below_last level most [] last = refl
below_last level most (branch ∷ before) last =
    ap (λ (key : Option Key). (record { branch = branch; level = Some level; most = key }) ∷ wanted_below level most (before ++ last ∷ [])) (most_pushed before last most)
    ∙ ap (λ (ws : List NodeWanted). (record { branch = branch; level = Some level; most = most_below before (Some last.key) }) ∷ ws) (below_last level most before last)

-- one more waits
pub pushed : (items new : List Wanted) (wanted : Wanted) → new ≡ items ++ wanted ∷ [] → waiting_in new ≡ wanted_of wanted ∷ waiting_in items
pushed items new wanted e = ap waiting_in e ∙ ap (map wanted_of) (reverse-append items (wanted ∷ []))

pub pushed_next : (level : ℕ) (most : Option Key) (left before : List Branch) (last : Branch) (items new : List Wanted) (wanted : Wanted) (all : List NodeWanted) → left ≡ before ++ last ∷ [] → wanted_of wanted ≡ record { branch = last; level = Some level; most = most } → new ≡ items ++ wanted ∷ []
    → wanted_below level most left ++ waiting_in items ≡ all → wanted_below level (Some last.key) before ++ waiting_in new ≡ all
pushed_next level most left before last items new wanted all cut is push h =
    let front = wanted_below level (Some last.key) before in
    ap (λ (ws : List NodeWanted). front ++ ws) (pushed items new wanted push ∙ ap (λ (w : NodeWanted). w ∷ waiting_in items) is)
    ∙ sym (append_assoc front ((record { branch = last; level = Some level; most = most }) ∷ []) (waiting_in items))
    ∙ ap (λ (ws : List NodeWanted). ws ++ waiting_in items) (sym (below_last level most before last))
    ∙ ap (λ (bs : List Branch). wanted_below level most bs ++ waiting_in items) (sym cut) ∙ h
