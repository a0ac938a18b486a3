-- The last master of the nodes that were gone over.
use Rattle.std.proofs.Common.{◌≡◌, ℕ, List, [], ◌∷◌, ◌++◌, Option, Some, None, IfSome, IfNone, ◌+◌, ◌≤◌, length, take, drop, refl, ap, sym, subst, ◌∙◌, append_assoc, rules}
use Rattle.std.proofs.lemmas.List.Elements.{All-push}
use Rattle.std.specs.Prelude.{◌≢◌}
use Rattle.ubifs_base.specs.declared.node_type.NodeType.TheVariants as types
use Rattle.leb_scan.specs.declared.found.Found.{Found}
use Rattle.ubifs_base.specs.NodeLaws.{IsBytes}
use Rattle.media_sys.specs.SystemNode.{IsMaster, master}
use Rattle.media_sys.specs.declared.master.Master.{Master}
use Rattle.leb_scan.specs.Text.{IsLast, tail_at}
use Rattle.leb_scan.specs.Gathered.{IsGathered, gathered_end}
use Rattle.small_areas.specs.Masters.{HasNone, IsLastOf, IsLastFound, IsLastMaster, HasNoMaster}
use Rattle.small_areas.specs.MasterLaws.{OneNode}
use Rattle.small_areas.proofs.Standing.{stands_in, master_there}

-- what was seen last among these nodes
abbrev pub IsSeen : List Found → Option Found → Type 0
IsSeen nodes None = HasNone nodes
IsSeen nodes (Some found) = IsLastOf nodes found

-- behind another node
pub seen_other : (nodes : List Found) (last : Option Found) (found : Found) → (found.kind ≢ types.Master) → IsSeen nodes last → IsSeen (nodes ++ found ∷ []) last
seen_other nodes None found other seen = let P : Found → Type 0 = λ node. node.kind ≢ types.Master in All-push P nodes found seen other
seen_other nodes (Some x) found other seen =
    let P : Found → Type 0 = λ node. node.kind ≢ types.Master in
    record {
      before = seen.before;
      behind = seen.behind ++ found ∷ [];
      split = ap (λ (n : List Found). n ++ found ∷ []) seen.split ∙ append_assoc seen.before (x ∷ seen.behind) (found ∷ []);
      kind = seen.kind;
      none = All-push P seen.behind found seen.none other;
    }

-- behind a master
pub seen_master : (nodes : List Found) (found : Found) → found.kind ≡ types.Master → IsSeen (nodes ++ found ∷ []) (Some found)
seen_master nodes found kind = record { before = nodes; behind = []; split = refl; kind = kind; none = search rules }

-- the nodes of the whole text
pub text_seen_last : (leb : List ℕ) (place end : ℕ) (nodes : List Found) (found : Found) → IsGathered leb 0 place nodes → IsSeen nodes (Some found) → IsLast leb place end (tail_at leb end) → IsLastFound leb found
text_seen_last leb place end nodes found gathered seen last =
    let text = gathered_end leb 0 place end end nodes (tail_at leb end) gathered last refl refl in
    let P : List Found → Type 0 = λ n. IsLastOf n found in
    record { items = text.0; end = end; tail = tail_at leb end; is_text = text.1; last = subst P text.2 seen }

pub text_seen_none : (leb : List ℕ) (place end : ℕ) (nodes : List Found) → IsGathered leb 0 place nodes → IsSeen nodes None → IsLast leb place end (tail_at leb end) → HasNoMaster leb
text_seen_none leb place end nodes gathered seen last =
    let text = gathered_end leb 0 place end end nodes (tail_at leb end) gathered last refl refl in
    let P : List Found → Type 0 = λ n. HasNone n in
    record { items = text.0; end = end; tail = tail_at leb end; is_text = text.1; none = subst P text.2 seen }

pub seen_some : (leb : List ℕ) (place end : ℕ) (nodes : List Found) (o : Option Found) → IsGathered leb 0 place nodes → IsSeen nodes o → IsLast leb place end (tail_at leb end) → IfSome o (IsLastFound leb)
seen_some leb place end nodes None gathered seen last = tt
seen_some leb place end nodes (Some found) gathered seen last = text_seen_last leb place end nodes found gathered seen last

pub seen_none : (leb : List ℕ) (place end : ℕ) (nodes : List Found) (o : Option Found) → IsGathered leb 0 place nodes → IsSeen nodes o → IsLast leb place end (tail_at leb end) → IfNone o (HasNoMaster leb)
seen_none leb place end nodes None gathered seen last = text_seen_none leb place end nodes gathered seen last
seen_none leb place end nodes (Some found) gathered seen last = tt

-- where the last master stands, and which it is
pub found_there : (leb : List ℕ) (found : Found) → IsLastFound leb found → (found.offs + found.len ≤ length leb) × ((node : Master) × IsMaster (take found.len (drop found.offs leb)) found.sqnum found.group node)
found_there leb found h =
    let stands = stands_in leb h.items 0 h.end h.last.before h.last.behind found h.is_text.stand h.last.split in
    (stands.1.room, master_there leb found h.last.kind stands)

-- a master that was read there is that one
pub read_there : (leb bytes : List ℕ) (lnum : ℕ) (found : Found) (read : Master) → bytes ≡ take found.len (drop found.offs leb) → IsLastFound leb found
    → ((sqnum group : ℕ) (node : Master) → IsMaster bytes sqnum group node → read ≡ node) → IsLastMaster leb (record { lnum = lnum; offs = found.offs; sqnum = found.sqnum; master = read })
read_there leb bytes lnum found read e h same =
    let there = (found_there leb found h).1 in
    let P : List ℕ → Type 0 = λ b. IsMaster b found.sqnum found.group there.0 in
    let is_that = same found.sqnum found.group there.0 (subst P (sym e) there.1) in
    let Q : Master → Type 0 = λ m. IsMaster (take found.len (drop found.offs leb)) found.sqnum found.group m in
    record { found = found; last = h; offs = refl; sqnum = refl; is = subst Q (sym is_that) there.1 }

-- and one is read there
pub none_there : (leb bytes : List ℕ) (found : Found) → bytes ≡ take found.len (drop found.offs leb) → IsLastFound leb found
    → ((sqnum group : ℕ) (node : Master) → IsMaster bytes sqnum group node → ⊥) → ⊥
none_there leb bytes found e h none =
    let there = (found_there leb found h).1 in
    let P : List ℕ → Type 0 = λ b. IsMaster b found.sqnum found.group there.0 in
    none found.sqnum found.group there.0 (subst P (sym e) there.1)

pub master_same : (m n : Master) → master m ≡ master n → m ≡ n
master_same m n h = cc

-- and so at most one master
pub only_master : OneNode → (bytes : List ℕ) → IsBytes bytes → (o : Option Master) → IfSome o (λ (m : Master). (sqnum : ℕ) × (group : ℕ) × IsMaster bytes sqnum group m)
    → IfSome o (λ (m : Master). (sqnum group : ℕ) (node : Master) → IsMaster bytes sqnum group node → m ≡ node)
only_master one bytes fits None read = tt
only_master one bytes fits (Some m) read = λ sqnum group node is. master_same m node (one bytes read.0 read.1 sqnum group (master m) (master node) fits read.2 is).2
