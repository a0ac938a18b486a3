-- The root that stands at a place, whichever key it is given.
use Rattle.std.proofs.Common.{◌≡◌, ℕ, ◌∙◌, List, [], ◌∷◌, map, take, ap, sym, subst}
use Rattle.std.specs.List.{AllByRecursion}
use Rattle.ubifs_base.specs.Key.{IsKey}
use Rattle.ubifs_base.specs.declared.key.Key.{Key}
use Rattle.media_sys.specs.Index.{Index}
use Rattle.media_sys.specs.declared.branch.Branch.{Branch}
use Rattle.index_media.specs.Stored.{IsIndexNodeAt}
use Rattle.table_nodes.specs.declared.node.NodePlace.{NodePlace}
use Rattle.index_cache.specs.Loaded.{root_at}

pub any_key : (media : ℕ → List ℕ) (place : NodePlace) (key other : Key) (said : Index) → IsIndexNodeAt media (root_at place key) said → IsIndexNodeAt media (root_at place other) said
any_key media place key other said h = record { sqnum = h.sqnum; group = h.group; room = h.room; is = h.is }

pub first_key_of : (branches found rest : List Branch) (first : Branch) → found ≡ branches → found ≡ first ∷ rest → map (λ (b : Branch). b.key) (take 1 branches) ≡ first.key ∷ []
first_key_of branches found rest first e is = ap (λ (v : List Branch). map (λ (b : Branch). b.key) (take 1 v)) (sym e ∙ is)

pub first_is_key : (branches found rest : List Branch) (first : Branch) → found ≡ branches → found ≡ first ∷ rest → AllByRecursion (λ (b : Branch). IsKey b.key) branches → IsKey first.key
first_is_key branches found rest first e is h =
    let P : List Branch → Type 0 = λ v. AllByRecursion (λ (b : Branch). IsKey b.key) v in
    (subst P (sym e ∙ is) h).0
