-- What is found of the committed leaves is what the first step finds, and the index after the others is the recovered one.
use Rattle.std.proofs.Common.{◌≡◌, ℕ, ◌+◌, Bool, true, false, cond, not, List, [], ◌∷◌, map, length, max, refl, sym, ap, subst, ◌∙◌, arith}
use Rattle.std.specs.Prelude.{filter, fold, nat_lt}
use Rattle.std.specs.BTreeMap.{BTreeMap}
use Rattle.std.specs.List.{AllByRecursion, list_any}
use Rattle.ubifs_base.specs.declared.key.Key.{Key}
use Rattle.ubifs_base.specs.Key.{key_words}
use Rattle.media_leaf.specs.LeafNode.{IsLeaf}
use Rattle.index_tree.specs.declared.index.Index.{Index}
use Rattle.index_tree.specs.Distinct.{AreDistinct}
use Rattle.index_tree.specs.Shape.{contents}
use Rattle.index_tree.specs.Tree.{shape}
use Rattle.leaf_map.specs.Kept.{Kept, Placed, node_key}
use Rattle.leaf_map.specs.LeafMap.{IsKeyed}
use Rattle.leaf_map.specs.Parts.{Committed, Named, Parts}
use Rattle.leaf_map.specs.Recovered.{highest_key, nodes_in_order, is_original, leaves_after, leaves_found, leaves_left, listed_left, placed_node, recovered_of, spare_copies}
use Rattle.journal_scan.specs.Content.{told}
use Rattle.journal_scan.specs.Journal.{BudRead, copies_in, journal_nodes_in}
use Rattle.journal_scan.specs.Places.{HasNamedPlace, named_by}
use Rattle.journal_scan.specs.declared.bud_text.BudText.{BudText}
use Rattle.journal_scan.specs.declared.journal_node.JournalNode.{JournalNode}
use Rattle.log_replay.specs.declared.candidate.Candidate.{Candidate}
use Rattle.log_replay.specs.declared.committed_leaf.CommittedLeaf.{CommittedLeaf}
use Rattle.log_replay.specs.declared.read_leaf.ReadLeaf.{ReadLeaf}
use Rattle.log_replay.specs.declared.standing.Standing.{Standing}
use Rattle.log_replay.specs.Copies.{Ranked, at_rank, is_of_rank}
use Rattle.log_replay.specs.Moving.{candidate_at, candidates_of, moved_all, outside}
use Rattle.log_replay.specs.Named.{IsNamed}
use Rattle.log_replay.specs.Noting.{Says}
use Rattle.log_replay.specs.Placing.{ArePlaced, AreSettled, LeafFound, pair_told, present_leaves}
use Rattle.log_replay.specs.Reading.{read_told}
use Rattle.log_replay.specs.Replay.{AreFound, AreParts, CanFind, CanRecover, NameTheSame, highest_of, highest_read, told_committed}
use Rattle.log_replay.specs.Settling.{CanSettle, HasCopies, leaf_read_of, settled_of, spare_of}
use Rattle.log_replay.specs.Spared.{unspared}
use Rattle.log_replay.specs.Standing.{StandsForLeaves, leaves, leaves_in}
use Rattle.log_replay.specs.Told.{AreNodesOf, IsOfJournal, without_orphans}
use Rattle.log_replay.proofs.Carried.{nodes_carried, orphans_carried, start_carried}
use Rattle.log_replay.proofs.Distinct.{all_distinct}
use Rattle.log_replay.proofs.Founds.{found_pairs, found_places, found_present, found_well, founds, true_keys}
use Rattle.log_replay.proofs.Moved.{all_moved}
use Rattle.log_replay.proofs.Outer.{all_cands}
use Rattle.log_replay.proofs.Owning.{reads_are_told}
use Rattle.log_replay.proofs.Places.{names_differ, nodes_fresh, order_all}
use Rattle.log_replay.proofs.Ranked.{filter_all, filter_setting, has_copies}
use Rattle.log_replay.proofs.Sparing.{left_told}

-- ---- first
pub leaves_are_found : (parts : Parts) (committed : List CommittedLeaf) (references : List Named) (copies : List JournalNode) (m : BTreeMap ℕ ℕ) (ranked spare : Ranked) (reads settled : List ReadLeaf) (outer : List Candidate)
    → CanFind parts committed references copies → IsNamed references m → ((r : ℕ) → at_rank ranked r ≡ filter (is_of_rank r) copies) → reads ≡ map (read_told m ranked) committed
    → ((parts : Parts) (cs : List Committed) (left : List Placed) → CanSettle parts cs left → reads ≡ map (leaf_read_of parts) cs → HasCopies left ranked → HasCopies (spare_of parts cs left) spare)
    → ((parts : Parts) (cs : List Committed) (left : List Placed) → CanSettle parts cs left → reads ≡ map (leaf_read_of parts) cs → HasCopies left spare → settled ≡ settled_of parts left cs)
    → outer ≡ candidates_of m settled → AreFound parts settled outer
leaves_are_found parts committed references copies m ranked spare reads settled outer is named ranks read drops settles outers =
    let set = is.journal.copies in
    let has : HasCopies parts.copies ranked = has_copies copies parts.copies ranked set is.copies ranks in
    let as_read : reads ≡ map (leaf_read_of parts) parts.committed =
    read ∙ ap (map (read_told m ranked)) is.of_leaves ∙ reads_are_told parts m ranked parts.committed is.grammar set (λ leaf. named.bud leaf ∙ sym (is.named.bud leaf)) has in
    let left = spare_copies parts in
    let spare_set = filter_setting (λ c. not (list_any (is_original parts.named c) parts.committed)) parts.copies set in
    let have = drops parts parts.committed parts.copies (record { found = is.grammar; copies = set; copies_left = set }) as_read has in
    let all = settles parts parts.committed left (record { found = is.grammar; copies = set; copies_left = spare_set }) as_read have in
    let named_left = filter_all (HasNamedPlace parts.named) (λ c. not (list_any (is_original parts.named c) parts.committed)) parts.copies is.journal.places.copies_named in
    record {
      settled = all;
      candidates = outers ∙ ap (candidates_of m) all ∙ all_cands parts m (λ lnum. named.leb lnum ∙ sym (is.named.leb lnum)) left parts.committed named_left;
    }

-- ---- second to fourth
module _ (parts : Parts) (j : IsOfJournal parts) where
  abbrev pub fs : List LeafFound
  fs = founds parts (spare_copies parts) parts.committed

  presents : present_leaves fs ≡ leaves_found parts
  presents = found_present parts (spare_copies parts) parts.committed

  pub start_settled : (index : Index) (s : Standing) (settled : List ReadLeaf) → contents (shape index.root) ≡ map (λ c. c.leaf) parts.committed → s.index ≡ index → Says [] s → settled ≡ settled_of parts (spare_copies parts) parts.committed
      → AreSettled fs s settled
  start_settled index s settled i e says all = record {
    in_index = ap (λ (x : Index). contents (shape x.root)) e ∙ i ∙ sym (found_places parts (spare_copies parts) parts.committed);
    told = ap (map pair_told) all ∙ found_pairs parts (spare_copies parts) parts.committed;
    distinct = subst AreDistinct (sym (found_places parts (spare_copies parts) parts.committed)) j.distinct;
    well = found_well parts (spare_copies parts) parts.committed (true_keys parts.committed (contents (shape index.root)) i index.keyed) (subst (AllByRecursion IsKeyed) (sym presents) j.found.keyed);
    says = says;
  }

  pub placed_stands : (s : Standing) → ArePlaced fs s → StandsForLeaves (leaves_found parts) s
  placed_stands s p =
      let q : ArePlaced fs s = p in
      let i : leaves_in s ≡ leaves (leaves_found parts) = p.in_index ∙ ap leaves presents in
      let says : Says (leaves_found parts) s = subst (λ (ks : List Kept). Says ks s) presents p.says in
      record { in_index = i; leaf_map = j.found; distinct = names_differ parts j; inodes = says.inodes; names = says.names }

  pub nodes_are : (applied : List JournalNode) → applied ≡ map told (nodes_in_order parts.nodes) → AreNodesOf (leaves_found parts) (nodes_in_order parts.nodes) applied
  nodes_are applied e = record { of_nodes = e; leaf_nodes = order_all (λ x. IsLeaf x.node) parts.nodes j.places.leaf_nodes; fresh = nodes_fresh parts j }

  pub recovered : (outer : List Candidate) (s : Standing) (listed : List ℕ) → listed_left parts ≡ listed → StandsForLeaves (without_orphans (leaves_after (leaves_found parts) (nodes_in_order parts.nodes)) listed) s → (settled : List ReadLeaf) → AreFound parts settled outer
      → moved_all outer (leaves_in s) ≡ leaves (recovered_of parts).kept
  recovered outer s listed e st settled found =
      let found_all = leaves_found parts in
      let left = leaves_left parts in
      let here : StandsForLeaves left s = subst (λ (inos : List ℕ). StandsForLeaves (without_orphans (leaves_after found_all (nodes_in_order parts.nodes)) inos) s) (sym e) st in
      let carried = orphans_carried parts.named found_all (leaves_after found_all (nodes_in_order parts.nodes)) (listed_left parts)
      (nodes_carried parts.named found_all found_all (nodes_in_order parts.nodes) (order_all (HasNamedPlace parts.named) parts.nodes j.places.nodes_named) (start_carried parts.named found_all)) in
      ap (λ (z : List Candidate). moved_all z (leaves_in s)) found.candidates ∙ ap (moved_all (map (candidate_at parts.copies) (outside parts.named found_all))) here.in_index
      ∙ all_moved parts found_all left here.leaf_map.keyed j.found.keyed carried (all_distinct found_all j.found.keyed j.found.apart (names_differ parts j)) j.copies j.places.copies_named
      (all_distinct left here.leaf_map.keyed here.leaf_map.apart here.distinct)

-- ---- numbers
highest_more : (n : ℕ) (keys : List Key) → highest_key n keys ≡ max n (highest_key 0 keys)
highest_more n [] = omega arith
highest_more n (k ∷ keys) =
    let a = highest_more (max n (key_words k).0) keys in
    let b = highest_more (max 0 (key_words k).0) keys in
    omega (arith, a, b)

committed_keys : (n : ℕ) (cs : List Committed) → fold (λ m x. max m (key_words x.leaf.key).0) n (map told_committed cs) ≡ highest_key n (map (λ c. c.leaf.key) cs)
committed_keys n [] = refl
committed_keys n (c ∷ cs) = committed_keys (max n (key_words c.leaf.key).0) cs

pub highest_is : (committed : List CommittedLeaf) (reads : List BudRead) (read : ℕ) → read ≡ highest_key 0 (map (λ x. node_key x.node) (nodes_in_order (journal_nodes_in reads))) → max (highest_of committed) read ≡ highest_read committed reads
highest_is committed reads read r = let a = highest_more (highest_of committed) (map (λ x. node_key x.node) (nodes_in_order (journal_nodes_in reads))) in omega (arith, a, r)

highest_all : (parts : Parts) (committed : List CommittedLeaf) → committed ≡ map told_committed parts.committed
    → max parts.highest (highest_key (highest_of committed) (map (λ x. node_key x.node) (nodes_in_order parts.nodes))) ≡ (recovered_of parts).highest
highest_all parts committed e =
    let a : highest_of committed ≡ highest_key 0 (map (λ c. c.leaf.key) parts.committed) = ap highest_of e ∙ committed_keys 0 parts.committed in
    let b = highest_more parts.highest (map (λ c. c.leaf.key) parts.committed) in
    let d = highest_more (highest_key parts.highest (map (λ c. c.leaf.key) parts.committed)) (map (λ x. node_key x.node) (nodes_in_order parts.nodes)) in
    let r = highest_more (highest_of committed) (map (λ x. node_key x.node) (nodes_in_order parts.nodes)) in
    omega (arith, a, b, d, r)

-- and with the master's number it is the recovered one
pub highest_recovered : (parts : Parts) (reads : List BudRead) (index : Index) (committed : List CommittedLeaf) (listed : List ℕ) → AreParts parts reads index committed listed
    → max parts.highest (highest_read committed reads) ≡ (recovered_of parts).highest
highest_recovered parts reads index committed listed is =
    ap (λ (ns : List Placed). max parts.highest (highest_key (highest_of committed) (map (λ x. node_key x.node) (nodes_in_order ns)))) (sym is.nodes) ∙ highest_all parts committed is.told

placed_length : (nodes : List Placed) (new : Placed) → length (placed_node nodes new) ≡ length nodes + 1
placed_length [] new = refl
placed_length (x ∷ nodes) new = by (nat_lt new.sqnum x.sqnum) (placed_length nodes new)
  where
    by : (b : Bool) → length (placed_node nodes new) ≡ length nodes + 1 → length (cond b (new ∷ x ∷ nodes) (x ∷ placed_node nodes new)) ≡ length (x ∷ nodes) + 1
    by true more = omega arith
    by false more = omega (arith, more)

order_length : (acc nodes : List Placed) → length (fold placed_node acc nodes) ≡ length acc + length nodes
order_length acc [] = omega arith
order_length acc (x ∷ nodes) = let a = order_length (placed_node acc x) nodes in let b = placed_length acc x in omega (arith, a, b)

pub nodes_counted : (nodes : List Placed) (applied : List JournalNode) → applied ≡ map told (nodes_in_order nodes) → length applied ≡ length nodes
nodes_counted nodes applied e =
    let a = ap length e in
    let b = map_length (nodes_in_order nodes) in
    let d = order_length [] nodes in
    omega (arith, a, b, d)
  where
    map_length : (xs : List Placed) → length (map told xs) ≡ length xs
    map_length [] = refl
    map_length (x ∷ xs) = let a = map_length xs in omega (arith, a)

-- ---- all of it
same_references : (parts : Parts) (reads : List BudRead) (buds : List BudText) → NameTheSame parts.named (map (λ x. named_by x.bud) reads) → map (λ x. x.bud) reads ≡ buds → NameTheSame parts.named (map named_by buds)
same_references parts reads buds named of = subst (NameTheSame parts.named) (two reads ∙ ap (map named_by) of) named
  where
    two : (rs : List BudRead) → map (λ x. named_by x.bud) rs ≡ map named_by (map (λ x. x.bud) rs)
    two [] = refl
    two (r ∷ rs) = ap (λ z. named_by r.bud ∷ z) (two rs)

pub parts_read : (parts : Parts) (reads : List BudRead) (buds : List BudText) (index : Index) (committed : List CommittedLeaf) (listed : List ℕ) (copies : List JournalNode) → AreParts parts reads index committed listed → map (λ x. x.bud) reads ≡ buds
    → copies ≡ map told (copies_in reads) → CanFind parts committed (map named_by buds) copies
parts_read parts reads buds index committed listed copies is of copy = record {
  of_leaves = is.told;
  grammar = is.grammar;
  named = same_references parts reads buds is.named of;
  copies = copy ∙ sym (ap (map told) is.copies);
  journal = is.journal;
}

pub parts_recover : (parts : Parts) (reads : List BudRead) (buds : List BudText) (m : BTreeMap ℕ ℕ) (index : Index) (committed : List CommittedLeaf) (listed left : List ℕ) (applied : List JournalNode) → AreParts parts reads index committed listed
    → map (λ x. x.bud) reads ≡ buds → IsNamed (map named_by buds) m → left ≡ unspared m committed listed → applied ≡ map told (nodes_in_order (journal_nodes_in reads)) → CanRecover parts index applied left
parts_recover parts reads buds m index committed listed left applied is of named l e = record {
  in_index = is.in_index;
  nodes = e ∙ sym (ap (λ (ns : List Placed). map told (nodes_in_order ns)) is.nodes);
  list = left_told parts m (λ leaf. named.bud leaf ∙ sym (here.bud leaf)) ∙ ap (λ (cs : List CommittedLeaf). unspared m cs parts.listed) (sym is.told) ∙ ap (unspared m committed) is.list ∙ sym l;
  journal = is.journal;
}
  where
    here : NameTheSame parts.named (map named_by buds)
    here = same_references parts reads buds is.named of
