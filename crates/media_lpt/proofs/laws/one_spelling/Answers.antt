use Rattle.media_lpt.specs.Nodes.{pnode_fields, nnode_fields, row_fields, lnum_fields}
use Rattle.std.specs.List.{flat_map}
use Rattle.media_lpt.proofs.LawLemmas.{one_packed}
use Rattle.media_lpt.proofs.laws.one_spelling.Goals as goal

pub returns-clause-pnode : goal.returns-clause-pnode
returns-clause-pnode c geo a b node fa fb ha hb = one_packed a b 0 (pnode_fields geo node) fa fb ha.packed hb.packed

pub returns-clause-nnode : goal.returns-clause-nnode
returns-clause-nnode c geo a b node fa fb ha hb = one_packed a b 1 (nnode_fields geo node) fa fb ha.packed hb.packed

pub returns-clause-ltab : goal.returns-clause-ltab
returns-clause-ltab c geo a b rows fa fb ha hb = one_packed a b 2 (flat_map (row_fields geo) rows) fa fb ha.packed hb.packed

pub returns-clause-lsave : goal.returns-clause-lsave
returns-clause-lsave c geo a b lnums fa fb ha hb = one_packed a b 3 (flat_map (lnum_fields geo) lnums) fa fb ha.packed hb.packed
