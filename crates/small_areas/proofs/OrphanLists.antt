-- Lists of orphans, as they are read and as they are written.
use Rattle.std.proofs.Common.{◌≡◌, ℕ, suc, ◌+◌, ◌-◌, ◌*◌, ◌/◌, ◌%◌, ◌^◌, ◌<◌, min, true, List, [], ◌∷◌, ◌++◌, length, take, drop, replicate, refl, ap, sym, ◌∙◌, subst, inl, inr, arith, append_assoc, append-nil, length-append}
use Rattle.std.specs.Prelude.{◌≢◌, All}
use Rattle.std.proofs.lemmas.List.{drop-drop, take_at, drop_at}
use Rattle.std.proofs.lemmas.List.Elements.{All-head, All-tail}
use Rattle.ubifs_base.specs.Gap.{gap_of}
use Rattle.ubi_volume.specs.Volume.{VolumeState, ChangeUnderWay, IsChanged, WorksOn, filled}
use Rattle.ubi_volume.specs.VolumeLaws.{WorksOn-more}
use Rattle.ubifs_base.specs.Areas.{orph_first}
use Rattle.ubifs_base.specs.declared.raw_geometry.RawGeometry.{RawGeometry}
use Rattle.media_sys.specs.Orphans.{Orphans}
use Rattle.media_sys.specs.SystemNode.{padding, superblock, master, reference, index, commit_start, orphans, IsSystemNode}
use Rattle.ubifs_base.specs.NodeType.{type_number}
use Rattle.ubifs_base.specs.declared.node_type.NodeType.TheVariants as types
use Rattle.leb_scan.specs.Text.{leaf, system, IsNodeAt, IsNext, IsLast, Stand, is_blank, nodes_of, tail_at}
use Rattle.leb_scan.specs.Gaps.{gap_items, gap_length, gap_padding_alone, gap_stands}
use Rattle.leb_scan.specs.TextLaws.{blank_replicate}
use Rattle.leb_scan.specs.Gathered.{IsGathered, gathered_end, gathered_next}
use Rattle.leb_scan.specs.TypeLaws.{leaf_low}
use Rattle.leb_scan.specs.declared.found.Found.{Found}
use Rattle.leb_scan.specs.declared.item.Item.TheVariants.{Node}
use Rattle.leb_scan.specs.declared.tail.Tail.TheVariants.{Clean}
use Rattle.small_areas.specs.Orphans.{AreListed, AreOrphans, HasOrphans, IsListLeb, IsListWritten, ListUnderWay, OrphanList, list_bytes, list_size}
use Rattle.small_areas.proofs.Standing.{Stands, stands_in}

-- what some nodes and the nodes behind them have
pub listed_then : (leb : List ℕ) (nodes more : List Found) (a b : List ℕ) → AreListed leb nodes a → AreListed leb more b → AreListed leb (nodes ++ more) (a ++ b)
listed_then leb [] more a b h k = let P : List ℕ → Type 0 = λ f. AreListed leb more (f ++ b) in subst P (sym h) k
listed_then leb (found ∷ nodes) more a b (inl (other, h)) k = inl (other, listed_then leb nodes more a b h k)
listed_then leb (found ∷ nodes) more a b (inr (node, rest, is, h, e)) k =
    inr (node, rest ++ b, is, listed_then leb nodes more rest b h k, ap (λ (f : List ℕ). f ++ b) e ∙ append_assoc node.inos rest b)

-- padding nodes have none
pub listed_padding : (leb : List ℕ) (nodes : List Found) → All (λ (found : Found). found.kind ≡ types.Padding) nodes → AreListed leb nodes []
listed_padding leb [] h = refl
listed_padding leb (found ∷ nodes) h =
    let P : Found → Type 0 = λ (f : Found). f.kind ≡ types.Padding in
    let kind : found.kind ≡ types.Padding = All-head P found nodes h in
    inl (λ e. absurd cc, listed_padding leb nodes (All-tail P found nodes h))

-- a node of the type of orphan nodes is an orphan node
pub orphans_there : (leb : List ℕ) (found : Found) → found.kind ≡ types.Orphans → Stands leb found → (node : Orphans) × IsSystemNode (take found.len (drop found.offs leb)) found.sqnum found.group (orphans node)
orphans_there leb found kind (leaf node, h) = let k = ap type_number (sym h.kind ∙ kind) in let l = leaf_low node in absurd (omega (arith, k, l))
orphans_there leb found kind (system (orphans node), h) = (node, h.is)
orphans_there leb found kind (system (padding node), h) = let k = h.kind in absurd cc
orphans_there leb found kind (system (superblock node), h) = let k = h.kind in absurd cc
orphans_there leb found kind (system (master node), h) = let k = h.kind in absurd cc
orphans_there leb found kind (system (reference node), h) = let k = h.kind in absurd cc
orphans_there leb found kind (system (index node), h) = let k = h.kind in absurd cc
orphans_there leb found kind (system (commit_start node), h) = let k = h.kind in absurd cc

-- a node that isn't one has no numbers
pub listed_other : (leb : List ℕ) (found : Found) (inos : List ℕ) → found.kind ≢ types.Orphans → (here : List ℕ) × AreListed leb (found ∷ []) here × (inos ≡ inos ++ here)
listed_other leb found inos other = ([], inl (other, refl), sym (append-nil inos))

-- one that is has its own
pub listed_one : (leb bytes : List ℕ) (found : Found) (node : Orphans) (old new : List ℕ) → bytes ≡ take found.len (drop found.offs leb) → ((sqnum : ℕ) × (group : ℕ) × IsSystemNode bytes sqnum group (orphans node)) → new ≡ old ++ node.inos
    → (here : List ℕ) × AreListed leb (found ∷ []) here × (new ≡ old ++ here)
listed_one leb bytes found node old new same (sqnum, group, is) more =
    let P : List ℕ → Type 0 = λ b. IsSystemNode b sqnum group (orphans node) in
    (node.inos, inr (node, [], record { sqnum = sqnum; group = group; is = subst P same is }, refl, sym (append-nil node.inos)), more)

-- what the nodes of a LEB up to a place have, behind what was there before
pub record IsGatheredTo (leb : List ℕ) (place : ℕ) (old new : List ℕ) : Type 0 where
  pub nodes : List Found
  pub here : List ℕ
  pub gathered : IsGathered leb 0 place nodes
  pub listed : AreListed leb nodes here
  pub is : new ≡ old ++ here

-- one node more
pub to_next : (leb : List ℕ) (from to : ℕ) (found : Found) (old now new : List ℕ) → IsGatheredTo leb from old now → IsNext leb from to found → ((here : List ℕ) × AreListed leb (found ∷ []) here × (new ≡ now ++ here)) → IsGatheredTo leb to old new
to_next leb from to found old now new h next (more, listed, is) = record {
  nodes = h.nodes ++ found ∷ [];
  here = h.here ++ more;
  gathered = gathered_next leb 0 from to h.nodes found h.gathered next;
  listed = listed_then leb h.nodes (found ∷ []) h.here more h.listed listed;
  is = is ∙ ap (λ (f : List ℕ). f ++ more) h.is ∙ append_assoc old h.here more;
}

-- where it stands
pub next_stands : (leb : List ℕ) (from to : ℕ) (found : Found) → IsNext leb from to found → Stands leb found
next_stands leb from to found next = stands_in leb next.items from to [] [] found next.stand next.node

-- at the end of the text
pub to_end : (leb : List ℕ) (place end : ℕ) (old new : List ℕ) → IsGatheredTo leb place old new → IsLast leb place end (tail_at leb end) → (here : List ℕ) × HasOrphans leb here × (new ≡ old ++ here)
to_end leb place end old new h last =
    let text = gathered_end leb 0 place end end h.nodes (tail_at leb end) h.gathered last refl refl in
    let P : List Found → Type 0 = λ nodes. AreListed leb nodes h.here in
    (h.here, record { items = text.0; end = end; tail = tail_at leb end; is_text = text.1; listed = subst P text.2 h.listed }, h.is)

-- a LEB that has a gap alone
pub gap_listed : (leb : List ℕ) (size g : ℕ) → leb ≡ filled size (gap_of g) → g < 2 ^ 32 → g % 8 ≡ 0 → HasOrphans leb []
gap_listed leb size g is fits even =
    let back : List ℕ = replicate (size - length (gap_of g)) 255 in
    let stand : Stand leb 0 (gap_items 0 g) (0 + g) = gap_stands g leb 0 back fits even is in
    let end : 0 + g ≡ g = omega arith in
    let rest : drop (0 + g) leb ≡ back = ap (λ (n : ℕ). drop n leb) end ∙ ap (drop g) is ∙ drop_at (gap_of g) back g (gap_length g) in
    let R : List ℕ → Type 0 = λ bytes. is_blank bytes ≡ true in
    record {
      items = gap_items 0 g;
      end = 0 + g;
      tail = Clean;
      is_text = record { stand = stand; ends = subst R (sym rest) (blank_replicate (size - length (gap_of g))) };
      listed = listed_padding leb (nodes_of (gap_items 0 g)) (gap_padding_alone 0 g);
    }

-- a LEB that has an orphan node and a gap
pub node_listed : (leb node : List ℕ) (size g sqnum : ℕ) (o : Orphans) → leb ≡ filled size (node ++ gap_of g) → IsSystemNode node sqnum 0 (orphans o) → length node % 8 ≡ 0 → g < 2 ^ 32 → g % 8 ≡ 0 → HasOrphans leb o.inos
node_listed leb node size g sqnum o is is_node even fits even_gap =
    let back : List ℕ = replicate (size - length (node ++ gap_of g)) 255 in
    let n : ℕ = length node in
    let whole : leb ≡ node ++ (gap_of g ++ back) = is ∙ append_assoc node (gap_of g) back in
    let front : take n leb ≡ node = ap (take n) whole ∙ take_at node (gap_of g ++ back) n refl in
    let rest : drop n leb ≡ gap_of g ++ back = ap (drop n) whole ∙ drop_at node (gap_of g ++ back) n refl in
    let behind_it : drop (n + g) leb ≡ back = sym (drop-drop g n leb) ∙ ap (drop g) rest ∙ drop_at (gap_of g) back g (gap_length g) in
    let long : length leb ≡ n + length (gap_of g ++ back) = ap length whole ∙ length-append node (gap_of g ++ back) in
    let stand : Stand leb n (gap_items n g) (n + g) = gap_stands g leb n back fits even_gap rest in
    let found : Found = record { offs = 0; len = n; kind = types.Orphans; group = 0; sqnum = sqnum } in
    let P : List ℕ → Type 0 = λ bytes. IsSystemNode bytes sqnum 0 (orphans o) in
    let there : IsNodeAt leb 0 found = record { node = system (orphans o); stands = record { here = refl; room = omega (arith, long); kind = refl; is = subst P (sym front) is_node }; other = λ e. absurd cc } in
    let next : n ≡ min ((0 + n + 7) / 8 * 8) (length leb) = omega (arith, even, long) in
    let Q : ℕ → Type 0 = λ p. Stand leb p (gap_items n g) (n + g) in
    let R : List ℕ → Type 0 = λ bytes. is_blank bytes ≡ true in
    record {
      items = Node found ∷ gap_items n g;
      end = n + g;
      tail = Clean;
      is_text = record { stand = (there, subst Q next stand); ends = subst R (sym behind_it) (blank_replicate (size - length (node ++ gap_of g))) };
      listed = inr (o, [], record { sqnum = sqnum; group = 0; is = subst P (sym front) is_node }, listed_padding leb (nodes_of (gap_items n g)) (gap_padding_alone n g), sym (append-nil o.inos));
    }

-- one LEB more
pub orphans_next : (a b : ℕ → List ℕ) (first there at : ℕ) (old new : List ℕ) → AreOrphans a first at old → there ≡ first → b (there + at) ≡ a (there + at) → ((here : List ℕ) × HasOrphans (b (there + at)) here × (new ≡ old ++ here))
    → AreOrphans a first (at + 1) new
orphans_next a b first there at old new h where_it_is same (here, has, is) =
    let P : ℕ → Type 0 = λ n. AreOrphans a first n new in
    let e : suc at ≡ at + 1 = omega arith in
    let H : List ℕ → Type 0 = λ leb. HasOrphans leb here in
    let F : ℕ → Type 0 = λ n. HasOrphans (a (n + at)) here in
    subst P e (old, here, h, subst F where_it_is (subst H same has), is)

-- a LEB that was replaced by the bytes of a list
pub list_leb : (geo : RawGeometry) (list : OrphanList) (bytes leb : List ℕ) (size : ℕ) → geo.leb_size ≡ size → bytes ≡ list_bytes (list_size geo.min_io list.inos) list.cmt_no list.sqnum list.inos → ((n : ℕ) → HasOrphans (filled n bytes) list.inos)
    → leb ≡ filled size bytes → IsListLeb geo list leb
list_leb geo list bytes leb size same is has there =
    let H : List ℕ → Type 0 = λ l. HasOrphans l list.inos in
    let F : List ℕ → List ℕ = λ b. filled geo.leb_size b in
    record { bytes = there ∙ ap (λ (n : ℕ). filled n bytes) (sym same) ∙ ap F is; has = subst H (sym there) (has size) }

-- while it is
pub list_works : (geo : RawGeometry) (a e : VolumeState) (lnum : ℕ) (bytes : List ℕ) (list : OrphanList) → lnum ≡ orph_first geo → geo.leb_size ≡ a.leb_size → bytes ≡ list_bytes (list_size geo.min_io list.inos) list.cmt_no list.sqnum list.inos
    → ((n : ℕ) → HasOrphans (filled n bytes) list.inos) → WorksOn a e lnum (ChangeUnderWay a lnum bytes) → WorksOn a e (orph_first geo) (ListUnderWay geo a list)
list_works geo a e lnum bytes list at size is has works =
    let P : ℕ → Type 0 = λ n. WorksOn a e n (ChangeUnderWay a n bytes) in
    WorksOn-more a e (orph_first geo) (ChangeUnderWay a (orph_first geo) bytes) (ListUnderWay geo a list) (λ x h. elim h [ inl now ↦ inl now | inr new ↦ inr (list_leb geo list bytes x a.leb_size size is has new) ]) (subst P at works)

-- and afterwards
pub list_written : (geo : RawGeometry) (a e : VolumeState) (lnum : ℕ) (bytes : List ℕ) (list : OrphanList) → lnum ≡ orph_first geo → geo.leb_size ≡ a.leb_size → bytes ≡ list_bytes (list_size geo.min_io list.inos) list.cmt_no list.sqnum list.inos
    → ((n : ℕ) → HasOrphans (filled n bytes) list.inos) → length bytes ≡ list_size geo.min_io list.inos → IsChanged a e lnum bytes → IsListWritten geo list e
list_written geo a e lnum bytes list at size is has long changed =
    let P : ℕ → Type 0 = λ n. IsChanged a e n bytes in
    let done = subst P at changed in
    record {
      leb = list_leb geo list bytes (e.holds (orph_first geo)) a.leb_size size is has done.holds;
      written = done.written ∙ long;
      left = λ c h. done.left c h ∙ sym done.holds;
    }
