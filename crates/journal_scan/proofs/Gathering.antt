-- What was read of LEBs, and of others behind them.
use Rattle.std.proofs.Common.{◌≡◌, List, [], ◌∷◌, ◌++◌, map, refl, ap, sym, ◌∙◌, append_assoc, append-nil}
use Rattle.std.proofs.lemmas.List.{map-append}
use Rattle.leaf_map.specs.Kept.{Placed}
use Rattle.journal_scan.specs.Content.{told}
use Rattle.journal_scan.specs.Gathered.{AreGathered, IsOneMore}
use Rattle.journal_scan.specs.Journal.{BudRead, copies_in, greatest_in, journal_nodes_in}
use Rattle.journal_scan.specs.declared.bud_text.BudText.{BudText}
use Rattle.journal_scan.specs.declared.journal_node.JournalNode.{JournalNode}
use Rattle.journal_scan.specs.declared.journal_read.JournalRead.{JournalRead}

pub gathered_none : (read : JournalRead) → AreGathered [] [] read read
gathered_none read = record {
  of_buds = refl;
  texts = tt;
  behind = record { nodes = sym (append-nil read.nodes.items); copies = sym (append-nil read.copies.items); sqnum = refl; tails = sym (append-nil read.tails.items) };
}

-- two lists of nodes, one behind the other
joined : (old mid new : List JournalNode) (a b : List Placed) → mid ≡ old ++ map told (a ++ []) → new ≡ mid ++ map told b → new ≡ old ++ map told (a ++ b)
joined old mid new a b first second =
    second ∙ ap (λ zs. zs ++ map told b) (first ∙ ap (λ zs. old ++ map told zs) (append-nil a)) ∙ append_assoc old (map told a) (map told b) ∙ ap (λ zs. old ++ zs) (sym (map-append told a b))

-- what one LEB says, and then others
pub gathered_more : (bud : BudText) (buds : List BudText) (one : BudRead) (reads : List BudRead) (old mid new : JournalRead) → IsOneMore bud one old mid → AreGathered buds reads mid new
    → AreGathered (bud ∷ buds) (one ∷ reads) old new
gathered_more bud buds one reads old mid new first rest = record {
  of_buds = ap (λ b. b ∷ map (λ (x : BudRead). x.bud) reads) first.of_bud ∙ ap (λ bs. bud ∷ bs) rest.of_buds;
  texts = (first.text, rest.texts);
  behind = record {
    nodes = joined old.nodes.items mid.nodes.items new.nodes.items _ (journal_nodes_in reads) first.behind.nodes rest.behind.nodes;
    copies = joined old.copies.items mid.copies.items new.copies.items _ (copies_in reads) first.behind.copies rest.behind.copies;
    sqnum = rest.behind.sqnum ∙ ap (λ n. greatest_in n reads) first.behind.sqnum;
    tails = rest.behind.tails ∙ ap (λ zs. zs ++ map (λ (x : BudRead). x.tail) reads) first.behind.tails ∙ append_assoc old.tails.items (one.tail ∷ []) (map (λ (x : BudRead). x.tail) reads);
  };
}
