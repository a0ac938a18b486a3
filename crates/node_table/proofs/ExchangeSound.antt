-- A node whose child gave way is one of a table, if it has children left.
use Rattle.std.proofs.Common.{◌≡◌, ℕ, ◌<◌, ◌≤◌, true, refl, arith}
use Rattle.std.specs.Prelude.{Option, None, Some}
use Rattle.ubifs_base.specs.Key.{IsKey}
use Rattle.index_tree.specs.Levels.{levelled}
use Rattle.index_tree.specs.Order.{leaf_rank}
use Rattle.index_tree.specs.Shape.{done, count, fits}
use Rattle.index_tree.specs.declared.leaf.Leaf.{Leaf}
use Rattle.index_media.specs.InsertionSound.{AreKeys, fit_node, fits_node}
use Rattle.index_media.specs.KeyedKeys.{AreKeysBounded}
use Rattle.index_media.specs.KeyedRemoval.{removed_by_keys, replaced_by_keys}
use Rattle.index_media.specs.KeyedRow.{KeyedRow, bare}
use Rattle.node_table.specs.Exchange.{IsExchange, exchanged_row}
use Rattle.table_nodes.specs.Sound.{IsSoundView}

-- what a change of rows keeps
pub record Keeps (change : KeyedRow → KeyedRow) : Type 0 where
  pub number : (row : KeyedRow) → count (bare (change row)) ≤ count (bare row)
  pub children : (f : ℕ) (row : KeyedRow) → fits f (bare row) ≡ true → fits f (bare (change row)) ≡ true
  pub levels : (h : ℕ) (row : KeyedRow) → levelled h (bare row) ≡ true → levelled h (bare (change row)) ≡ true
  pub bounded : (row : KeyedRow) → AreKeysBounded 0 None row → AreKeysBounded 0 None (change row)
  pub keys : (row : KeyedRow) → AreKeys row → AreKeys (change row)

pub kept_sound : (f level : ℕ) (change : KeyedRow → KeyedRow) (row : KeyedRow) → Keeps change → IsSoundView f (record { level = level; place = None; children = row })
    → 0 < count (bare (change row)) → IsSoundView f (record { level = level; place = None; children = change row })
kept_sound f level change row k s some =
    let n = fit_node f (bare row) done s.0 in
    let most = n.most in
    let fewer = k.number row in
    (fits_node f (bare (change row)) done some (omega (arith, most, fewer)) (k.children f row n.children) refl, k.levels level row s.1, k.bounded row s.2, k.keys row s.3)

pub exchange_sound : (f level : ℕ) (gone : Leaf) (come : Option Leaf) (row : KeyedRow) → Keeps (λ r. removed_by_keys gone r)
    → ((new : Leaf) → leaf_rank new ≡ leaf_rank gone → IsKey new.key → Keeps (λ r. replaced_by_keys gone new r)) → IsExchange gone come
    → IsSoundView f (record { level = level; place = None; children = row }) → 0 < count (bare (exchanged_row gone come row))
    → IsSoundView f (record { level = level; place = None; children = exchanged_row gone come row })
exchange_sound f level gone None row a b k s some = kept_sound f level (λ r. removed_by_keys gone r) row a s some
exchange_sound f level gone (Some new) row a b k s some = kept_sound f level (λ r. replaced_by_keys gone new r) row (b new k.0 k.1) s some
