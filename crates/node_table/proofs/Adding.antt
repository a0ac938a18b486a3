-- What a node that is added leaves.
use Rattle.std.proofs.Common.{◌≡◌, ℕ, List, [], ◌∷◌, ◌++◌, length, refl, ap, sym, ◌∙◌, subst, arith, inl, inr}
use Rattle.std.specs.Prelude.{Option, None, Some, slice_get, Bool, true, false, is_some, if◌then◌else◌}
use Rattle.std.proofs.lemmas.Bool.{cases_Bool}
use Rattle.std.proofs.lemmas.List.Elements.{All-push}
use Rattle.std.proofs.lemmas.List.Folds.{list_all-append}
use Rattle.std.proofs.lemmas.Option.{slice_get-get_or}
use Rattle.ubifs_base.specs.declared.key.Key.{Key}
use Rattle.index_media.specs.KeyedRow.{no_more, node_in}
use Rattle.table_nodes.specs.Clean.{is_clean_below, are_clean_below}
use Rattle.table_nodes.specs.NodeView.{node_before, node_view_of, stretch_at, node_views, tree_at, IsRootIn}
use Rattle.table_nodes.specs.Sound.{IsSoundView, AreSoundViews}
use Rattle.table_nodes.specs.Stubs.{are_placed, AreOpened}
use Rattle.node_table.specs.Unloaded.{is_loaded_if_dirty, are_loaded_if_dirty}
use Rattle.table_nodes.specs.declared.node.Root.{Root}
use Rattle.table_nodes.specs.declared.node.TableNode.{TableNode}
use Rattle.table_nodes.specs.NodeViewLaws.{get_left, get_seam, views_push, views_length}

pub pushed_sound : (fanout : ℕ) (nodes : List TableNode) (n : TableNode) → AreSoundViews fanout (node_views nodes) → IsSoundView fanout (node_view_of (node_views nodes) n)
    → AreSoundViews fanout (node_views (nodes ++ n ∷ []))
pushed_sound fanout nodes n s h = subst (λ v. AreSoundViews fanout v) (sym (views_push nodes n)) (All-push (λ v. IsSoundView fanout v) (node_views nodes) (node_view_of (node_views nodes) n) s h)

pub pushed_kept : (nodes : List TableNode) (n : TableNode) (root : Option Root) → IsRootIn nodes root → tree_at (nodes ++ n ∷ []) root ≡ tree_at nodes root
pushed_kept nodes n None h = refl
pushed_kept nodes n (Some root) h =
    let seen = node_views nodes in
    let v = node_view_of seen n in
    let long = views_length nodes in
    let there = slice_get-get_or seen root.number v (omega (arith, h, long)) in
    let after = ap (λ w. slice_get w root.number) (views_push nodes n) ∙ get_left seen (v ∷ []) root.number _ there in
    ap (λ o. node_before root.key o no_more) (after ∙ sym there)

pub pushed_made : (nodes : List TableNode) (n : TableNode) (key : Key) (number : ℕ) → number ≡ length nodes
    → tree_at (nodes ++ n ∷ []) (Some (record { key = key; number = number })) ≡ node_in key (stretch_at n.place) (node_view_of (node_views nodes) n).children no_more
pushed_made nodes n key number e =
    let seen = node_views nodes in
    let v = node_view_of seen n in
    let place : number ≡ length seen = e ∙ sym (views_length nodes) in
    ap (λ o. node_before key o no_more) (ap (λ w. slice_get w number) (views_push nodes n) ∙ ap (λ k. slice_get (seen ++ v ∷ []) k) place ∙ get_seam seen v [])

-- the table after a node that may have found no memory
pub after_push : (fanout : ℕ) (nodes new : List TableNode) (n : TableNode) (b : Bool) → new ≡ (if b then nodes ++ n ∷ [] else nodes) → AreSoundViews fanout (node_views nodes)
    → IsSoundView fanout (node_view_of (node_views nodes) n) → AreSoundViews fanout (node_views new)
after_push fanout nodes new n true e s h = subst (λ v. AreSoundViews fanout (node_views v)) (sym e) (pushed_sound fanout nodes n s h)
after_push fanout nodes new n false e s h = subst (λ v. AreSoundViews fanout (node_views v)) (sym e) s

pub after_push_settled : (nodes new : List TableNode) (n : TableNode) (b : Bool) → new ≡ (if b then nodes ++ n ∷ [] else nodes) → are_clean_below (node_views nodes) ≡ true
    → is_clean_below (node_view_of (node_views nodes) n) ≡ true → are_clean_below (node_views new) ≡ true
after_push_settled nodes new n true e s h =
    let seen = node_views nodes in
    let v = node_view_of seen n in
    let one : are_clean_below (v ∷ []) ≡ true = rw h refl in
    ap (λ v. are_clean_below (node_views v)) e ∙ ap are_clean_below (views_push nodes n) ∙ list_all-append is_clean_below seen (v ∷ []) ∙ rw (s, one) refl
after_push_settled nodes new n false e s h = ap (λ v. are_clean_below (node_views v)) e ∙ s

pub after_push_dirty : (nodes new : List TableNode) (n : TableNode) (b : Bool) → new ≡ (if b then nodes ++ n ∷ [] else nodes) → are_loaded_if_dirty nodes ≡ true → is_loaded_if_dirty n ≡ true
    → are_loaded_if_dirty new ≡ true
after_push_dirty nodes new n true e s h =
    let one : are_loaded_if_dirty (n ∷ []) ≡ true = rw h refl in
    ap are_loaded_if_dirty e ∙ list_all-append is_loaded_if_dirty nodes (n ∷ []) ∙ rw (s, one) refl
after_push_dirty nodes new n false e s h = ap are_loaded_if_dirty e ∙ s

-- nodes that are added where one is opened have places
placed_loaded : (nodes : List TableNode) → are_placed nodes ≡ true → are_loaded_if_dirty nodes ≡ true
placed_loaded [] h = refl
placed_loaded (n ∷ ns) h = elim (cases_Bool (is_some n.place)) [
  | inl e ↦ let more = placed_loaded ns (rw e at h) in rw (e, more) refl
  | inr e ↦ let none = rw e at h in absurd cc
]

pub opened_dirty : (old new : List TableNode) → AreOpened old new → are_loaded_if_dirty old ≡ true → are_loaded_if_dirty new ≡ true
opened_dirty old new o h = let more = placed_loaded o.added.more o.placed in ap are_loaded_if_dirty o.added.is ∙ list_all-append is_loaded_if_dirty old o.added.more ∙ rw (h, more) refl

pub ruleset adding = (pushed_sound, pushed_kept, pushed_made, views_push)
