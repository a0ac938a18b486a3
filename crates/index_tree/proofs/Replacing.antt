-- The steps of a replacement.
use Rattle.std.proofs.lemmas.Bool.Decides.{nat_tests}
use Rattle.index_tree.proofs.OrderLaws.{ordered_head, ordered-weaken, ordered-left, ordered-right}
use Rattle.index_tree.proofs.SearchLaws.{node_filled}
use Rattle.index_tree.proofs.InsertLaws.{fits-filled}
use Rattle.index_tree.proofs.RemovalLaws.{holds-append, absent_left, absent_right, absent_behind}
use Rattle.index_tree.proofs.ReplacementLaws.{replaced-absent, replaced-contents, replaced-same, replaced-whole, swapped-ordered}

pub ruleset replacing = (nat_tests, node_filled, ordered_head, ordered-weaken, ordered-left, ordered-right, holds-append, replaced-absent, absent_left, absent_right, absent_behind)

pub ruleset replacing_rooted = (fits-filled, replaced-absent, replaced-contents, replaced-same, replaced-whole, swapped-ordered)
