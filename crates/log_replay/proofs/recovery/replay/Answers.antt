use Rattle.std.proofs.Common.{◌≡◌, ℕ, length, max, ap, ◌∙◌, arith, List, map}
use Rattle.journal_scan.specs.Journal.{journal_nodes_in}
use Rattle.journal_scan.specs.Places.{named_by}
use Rattle.log_replay.specs.declared.committed_leaf.CommittedLeaf.{CommittedLeaf}
use Rattle.log_replay.specs.Replay.{highest_of}
use Rattle.log_replay.specs.Spared.{unspared}
use Rattle.log_replay.proofs.Recovering.{highest_is, nodes_counted, parts_read, parts_recover}
use Rattle.log_replay.proofs.recovery.replay.Goals as goal

pub returns-clause-recovered : goal.returns-clause-recovered
returns-clause-recovered c =
    let r = c.in_ok-read.ensures in
    let read = c.in_ok-read.read in
    let committed = c.args.leaves.items in
    let listed = c.args.listed.now in
    let named = c.in_ok-named.named in
    let left : c.deref-3.result.now ≡ unspared named committed listed = c.deref-3.ensures.value ∙ c.in_ok-left.ensures ∙ ap (λ (xs : List CommittedLeaf). unspared named xs listed) c.deref-2.ensures.value in
    let most : c.max.result ≡ max (highest_of committed) read.highest = c.max.ensures ∙ ap (λ (n : ℕ). max n read.highest) (c.highest_of-highest.ensures ∙ ap highest_of c.deref.ensures.value) in
    let count : c.len-nodes.result ≡ length read.nodes.items = omega (arith, c.len-nodes.ensures) in
    record {
      reads = r.reads;
      of_buds = r.of_buds;
      texts = r.texts;
      recovered = λ parts is. c.in_ok-index.ensures.leaves parts (parts_recover parts r.reads c.args.buds.now named c.args.committed committed listed c.deref-3.result.now read.nodes.items is r.of_buds c.in_ok-named.ensures left r.nodes)
          (c.in_ok-found.ensures parts (map named_by c.args.buds.now) c.in_ok-named.ensures (parts_read parts r.reads c.args.buds.now c.args.committed committed listed read.copies.items is r.of_buds r.copies));
      nodes = count ∙ nodes_counted (journal_nodes_in r.reads) read.nodes.items r.nodes;
      highest = most ∙ highest_is committed r.reads read.highest r.highest;
      sqnum = r.sqnum;
      tails = r.tails;
    }
