-- What a walk hands on: the links behind the first one, and an answer of a call that may fail.
use Rattle.std.proofs.Common.{◌≡◌, ◌<◌, List, ◌∷◌, ap, subst, arith}
use Rattle.std.specs.Prelude.{None, IfOk, Result, Ok, Err}
use Rattle.index_tree.specs.Order.{key_rank}
use Rattle.index_media.specs.KeyedBounds.{lower_least}
use Rattle.index_media.specs.KeyedKeys.{AreKeysBounded}
use Rattle.table_nodes.specs.NodeView.{NodeView, link_key, row_of}
use Rattle.table_nodes.specs.declared.link.Link.{Link}
use Rattle.ubi_volume.specs.declared.fault.AreaFault.{AreaFault}
use Rattle.node_table.proofs.Rows.{link_bounds, linked_size, row_size}

pub on_ok : {T : Type 0} (r : Result T AreaFault) (P Q : T → Type 0) → ((x : T) → P x → Q x) → IfOk r P → IfOk r Q
on_ok (Ok x) P Q f h = f x h
on_ok (Err e) P Q f h = tt

pub rest_small : (seen : List NodeView) (links rest : List Link) (link : Link) → links ≡ link ∷ rest → row_size (row_of seen rest) < row_size (row_of seen links)
rest_small seen links rest link is =
    let whole = ap (λ (v : List Link). row_size (row_of seen v)) is in
    let size = linked_size seen link (row_of seen rest) in
    omega (arith, whole, size)

pub rest_bounded : (seen : List NodeView) (links rest : List Link) (link : Link) → links ≡ link ∷ rest → AreKeysBounded 0 None (row_of seen links) → AreKeysBounded 0 None (row_of seen rest)
rest_bounded seen links rest link is h =
    let P : List Link → Type 0 = λ v. AreKeysBounded 0 None (row_of seen v) in
    lower_least 0 (key_rank (link_key link)) None (row_of seen rest) (omega arith) (link_bounds seen 0 None link (row_of seen rest) (subst P is h)).behind
