-- Clean nodes stand: where contents grow, and where a node gets its place.
use Rattle.std.proofs.Common.{◌≡◌, ℕ, ◌+◌, ◌≤◌, true, List, ◌++◌, length, take, drop, ap, sym, ◌∙◌, subst, arith, inl, inr, length-append, length-drop}
use Rattle.std.specs.Prelude.{◌⊎◌, Option, None, Some, is_some}
use Rattle.std.proofs.lemmas.List.{take-append-le, drop-append-le}
use Rattle.ubifs_base.specs.declared.key.Key.{Key}
use Rattle.index_media.specs.Clean.{is_clean_row, node_branch, placed_of}
use Rattle.index_media.specs.KeyedRow.{KeyedRow, no_more, leaf_in, node_in}
use Rattle.index_media.specs.PlacedRow.{Stretch, branches_of}
use Rattle.index_media.specs.Standing.{OfClean, OfCleanNodes, StandsAs, AreStandingAs}
use Rattle.index_media.specs.Stored.{IsIndexNodeAt}
use Rattle.media_sys.specs.Index.{Index}
use Rattle.media_sys.specs.SystemNode.{index, IsSystemNode}
use Rattle.media_sys.specs.declared.branch.Branch.{Branch}
use Rattle.table_nodes.specs.NodeView.{stretch_at}
use Rattle.node_table.specs.Placing.{IsPlacedRow}
use Rattle.table_nodes.specs.declared.node.NodePlace.{NodePlace}
use Rattle.node_cache.specs.CleanRows.{clean_node}

-- ---- clean rows
same_place : (p : NodePlace) (b children : KeyedRow) (old now : Option Stretch) → is_some old ≡ true → (now ≡ old) ⊎ ((old ≡ None) × (now ≡ stretch_at (Some p)) × (children ≡ b)) → now ≡ old
same_place p b children None now s h = absurd cc
same_place p b children (Some x) now s (inl e) = e
same_place p b children (Some x) now s (inr e) = let bad = e.0 in absurd cc

-- a place that is given changes nothing where all is clean
pub clean_same : (p : NodePlace) (b row new : KeyedRow) → is_clean_row row ≡ true → IsPlacedRow p b row new → new ≡ row
clean_same p b no_more new c h = h
clean_same p b (leaf_in x rest) new c h = h.1 ∙ ap (leaf_in x) (clean_same p b rest h.0 c h.2)
clean_same p b (node_in key old children rest) new c h =
    let parts = clean_node key old children rest c in
    let place = same_place p b children old h.0 parts.0 h.4 in
    let below = clean_same p b children h.1 parts.1 h.5 in
    let behind = clean_same p b rest h.2 parts.2 h.6 in
    h.3 ∙ ap (λ (o : Option Stretch). node_in key o h.1 h.2) place ∙ ap (λ (c : KeyedRow). node_in key old c h.2) below ∙ ap (node_in key old children) behind

-- ---- contents that grow
-- each LEB has the same bytes, and more behind them
abbrev pub Grows : (ℕ → List ℕ) → (ℕ → List ℕ) → Type 0
Grows old new = (k : ℕ) → (more : List ℕ) × (new k ≡ old k ++ more)

pub part_of : (a more : List ℕ) (offs len : ℕ) → offs + len ≤ length a → take len (drop offs (a ++ more)) ≡ take len (drop offs a)
part_of a more offs len inside =
    let long = length-drop offs a in
    ap (take len) (drop-append-le offs a more (omega (arith, inside))) ∙ take-append-le len (drop offs a) more (omega (arith, inside, long))

node_grows : (old new : ℕ → List ℕ) (branch : Branch) (said : Index) → Grows old new → IsIndexNodeAt old branch said → IsIndexNodeAt new branch said
node_grows old new branch said g h =
    let more = g branch.lnum in
    let long = length-append (old branch.lnum) more.0 in
    let inside = h.room in
    let P : List ℕ → Type 0 = λ leb. branch.offs + branch.len ≤ length leb in
    let Q : List ℕ → Type 0 = λ leb. IsSystemNode (take branch.len (drop branch.offs leb)) h.sqnum h.group (index said) in
    let R : List ℕ → Type 0 = λ bytes. IsSystemNode bytes h.sqnum h.group (index said) in
    record {
      sqnum = h.sqnum;
      group = h.group;
      room = subst P (sym more.1) (omega (arith, long, inside));
      is = subst Q (sym more.1) (subst R (sym (part_of (old branch.lnum) more.0 branch.offs branch.len h.room)) h.is);
    }

pub as_grows : (old new : ℕ → List ℕ) (P Q : Stretch → ℕ → ℕ → Type 0) (key : Key) (place : Stretch) (children : KeyedRow) → Grows old new → ((s : Stretch) (n g : ℕ) → P s n g → Q s n g)
    → StandsAs old P key place children → StandsAs new Q key place children
unfolding node_grows
as_grows old new P Q key place children g more h = record {
  clean = h.clean;
  level = h.level;
  levels = h.levels;
  node = node_grows old new (node_branch key (Some place)) (record { level = h.level; branches = branches_of (placed_of children) }) g h.node;
  holds = more place h.node.sqnum h.node.group h.holds;
}

-- ---- what holds of clean nodes
of_more : (P Q : Key → Stretch → KeyedRow → Type 0) (key : Key) (place : Option Stretch) (children : KeyedRow) → ((k : Key) (s : Stretch) (c : KeyedRow) → P k s c → Q k s c)
    → OfClean P key place children → OfClean Q key place children
of_more P Q key None children f h = tt
of_more P Q key (Some s) children f h = f key s children h

pub clean_more : (P Q : Key → Stretch → KeyedRow → Type 0) (row : KeyedRow) → ((k : Key) (s : Stretch) (c : KeyedRow) → P k s c → Q k s c) → OfCleanNodes P row → OfCleanNodes Q row
clean_more P Q no_more f h = tt
clean_more P Q (leaf_in x rest) f h = clean_more P Q rest f h
clean_more P Q (node_in key place children rest) f h = (of_more P Q key place children f h.0, clean_more P Q children f h.1, clean_more P Q rest f h.2)

pub are_standing : (old new : ℕ → List ℕ) (P Q : Stretch → ℕ → ℕ → Type 0) (row : KeyedRow) → Grows old new → ((s : Stretch) (n g : ℕ) → P s n g → Q s n g) → AreStandingAs old P row → AreStandingAs new Q row
are_standing old new P Q row g more h = clean_more (StandsAs old P) (StandsAs new Q) row (λ key place children. as_grows old new P Q key place children g more) h

-- ---- a node gets its place
node_placed : (old new : ℕ → List ℕ) (P : Stretch → ℕ → ℕ → Type 0) (p : NodePlace) (b : KeyedRow) (key : Key) (before now : Option Stretch) (children children' : KeyedRow) → Grows old new
    → ((k : Key) → StandsAs new P k (record { lnum = p.lnum; offs = p.offs; len = p.len }) b) → is_clean_row b ≡ true
    → (now ≡ before) ⊎ ((before ≡ None) × (now ≡ stretch_at (Some p)) × (children ≡ b)) → IsPlacedRow p b children children'
    → OfClean (StandsAs old P) key before children → OfClean (StandsAs new P) key now children'
node_placed old new P p b key None now children children' g own clean (inl e) h k =
    let O : Option Stretch → Type 0 = λ o. OfClean (StandsAs new P) key o children' in
    subst O (sym e) tt
node_placed old new P p b key (Some s) now children children' g own clean (inl e) h k =
    let O : Option Stretch → Type 0 = λ o. OfClean (StandsAs new P) key o children' in
    let Q : KeyedRow → Type 0 = λ c. StandsAs new P key s c in
    subst O (sym e) (subst Q (sym (clean_same p b children children' k.clean h)) (as_grows old new P P key s children g (λ s n m x. x) k))
node_placed old new P p b key before now children children' g own clean (inr e) h k =
    let O : Option Stretch → Type 0 = λ o. OfClean (StandsAs new P) key o children' in
    let Q : KeyedRow → Type 0 = λ c. StandsAs new P key (record { lnum = p.lnum; offs = p.offs; len = p.len }) c in
    let C : KeyedRow → Type 0 = λ c. is_clean_row c ≡ true in
    let same : children' ≡ b = clean_same p b children children' (subst C (sym e.2) clean) h ∙ e.2 in
    subst O (sym e.1) (subst Q (sym same) (own key))

pub row_placed : (old new : ℕ → List ℕ) (P : Stretch → ℕ → ℕ → Type 0) (p : NodePlace) (b row now : KeyedRow) → Grows old new
    → ((k : Key) → StandsAs new P k (record { lnum = p.lnum; offs = p.offs; len = p.len }) b) → is_clean_row b ≡ true → IsPlacedRow p b row now
    → AreStandingAs old P row → AreStandingAs new P now
row_placed old new P p b no_more now g own clean h k = subst (AreStandingAs new P) (sym h) tt
row_placed old new P p b (leaf_in x rest) now g own clean h k =
    subst (AreStandingAs new P) (sym h.1) (row_placed old new P p b rest h.0 g own clean h.2 k)
row_placed old new P p b (node_in key before children rest) now g own clean h k =
    subst (AreStandingAs new P) (sym h.3) (
      node_placed old new P p b key before h.0 children h.1 g own clean h.4 h.5 k.0,
      row_placed old new P p b children h.1 g own clean h.5 k.1,
      row_placed old new P p b rest h.2 g own clean h.6 k.2,
    )
