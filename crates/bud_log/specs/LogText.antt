-- What the text of a log LEB says.
use Rattle.std.specs.Prelude.{◌≡◌, ◌≢◌, ◌⊎◌, ℕ, ◌==◌, nat_lt, max, not, Bool, true, false, if◌then◌else◌, Option, Some, None, List, [], ◌∷◌, filter, fold, take, drop}
use Rattle.ubifs_base.specs.NodeType.{type_number}
use Rattle.ubifs_base.specs.declared.node_type.NodeType.TheVariants as types
use Rattle.media_sys.specs.SystemNode.{IsRef, IsCommitStart}
use Rattle.media_sys.specs.declared.commit_start.CommitStart.{CommitStart}
use Rattle.media_sys.specs.declared.ref_node.RefNode.{RefNode}
use Rattle.leb_scan.specs.Text.{IsText, nodes_of}
use Rattle.leb_scan.specs.declared.found.Found.{Found}
use Rattle.leb_scan.specs.declared.item.Item.{Item}
use Rattle.bud_log.specs.declared.log_end.LogEnd.{LogEnd}

-- the nodes of a text, the references among them, and where and how it ends
pub record LogText : Type 0 where
  pub nodes : List Found
  pub references : List RefNode
  pub ends : LogEnd

-- the bytes of this node of a LEB are this reference
abbrev pub IsReferenceAt : List ℕ → Found → RefNode → Type 0
IsReferenceAt leb found node = IsRef (take found.len (drop found.offs leb)) found.sqnum found.group node

-- the references among these nodes of a LEB are these, in order
abbrev pub Refer : List ℕ → List Found → List RefNode → Type 0
Refer leb [] references = references ≡ []
Refer leb (found ∷ nodes) references =
    ((found.kind ≢ types.Reference) × Refer leb nodes references)
    ⊎ ((found.kind ≡ types.Reference) × (node : RefNode) × (others : List RefNode) × IsReferenceAt leb found node × (references ≡ node ∷ others) × Refer leb nodes others)

-- the LEB of this number has this text
pub record IsLogTextOf (leb : List ℕ) (lnum : ℕ) (text : LogText) : Type 0 where
  pub items : List Item
  pub is_text : IsText leb 0 items text.ends.offs text.ends.tail
  pub here : text.ends.lnum ≡ lnum
  pub nodes : text.nodes ≡ nodes_of items
  pub refer : Refer leb text.nodes text.references

-- the bytes of this node of a LEB are this commit start
abbrev pub IsStartAt : List ℕ → Found → CommitStart → Type 0
IsStartAt leb found node = IsCommitStart (take found.len (drop found.offs leb)) found.sqnum found.group node

-- the first of these nodes
abbrev pub first_found_node : List Found → Option Found
first_found_node [] = None
first_found_node (found ∷ nodes) = Some found

-- if it stands at the LEB's start
abbrev pub at_start : Option Found → Option Found
at_start None = None
at_start (Some found) = if found.offs == 0 then Some found else None

-- the node with which a LEB of these nodes begins
abbrev pub begins_with : List Found → Option Found
begins_with nodes = at_start (first_found_node nodes)

-- the number of the commit start with which a LEB begins
abbrev pub start_of : Option Found → Option ℕ
start_of None = None
start_of (Some found) = if type_number found.kind == type_number types.CommitStart then Some found.sqnum else None

-- the number of the commit with whose start a LEB begins, which begins with this node; none if it begins with no commit start
abbrev pub BeginsCommit : List ℕ → Option Found → Option ℕ → Type 0
BeginsCommit leb None commit = commit ≡ None
BeginsCommit leb (Some found) commit =
    ((found.kind ≢ types.CommitStart) × (commit ≡ None))
    ⊎ ((found.kind ≡ types.CommitStart) × (node : CommitStart) × IsStartAt leb found node × (commit ≡ Some node.cmt_no))

-- the LEB begins with the start of the commit of this number
abbrev pub StartsCommit : List ℕ → ℕ → ℕ → Type 0
StartsCommit leb lnum cmt_no = (text : LogText) × IsLogTextOf leb lnum text × BeginsCommit leb (begins_with text.nodes) (Some cmt_no)

-- whether a LEB begins with a node whose number is greater than this one
abbrev pub is_later : ℕ → Option Found → Bool
is_later number None = false
is_later number (Some found) = nat_lt number found.sqnum

-- the greatest sequence number of these nodes, or 0
abbrev pub greatest_found : List Found → ℕ
greatest_found nodes = fold (λ n (found : Found). max n found.sqnum) 0 nodes

-- the nodes that are no padding
abbrev pub others : List Found → List Found
others nodes = filter (λ (found : Found). not (type_number found.kind == type_number types.Padding)) nodes

-- whether these nodes are one commit start
abbrev pub is_one_start : List Found → Bool
is_one_start [] = false
is_one_start (found ∷ []) = type_number found.kind == type_number types.CommitStart
is_one_start (found ∷ (other ∷ more)) = false

-- whether a text, padding aside, is a commit start alone
abbrev pub is_start_alone : List Found → Bool
is_start_alone nodes = is_one_start (others nodes)

-- the LEB's text is a commit start alone
abbrev pub IsLoneStart : List ℕ → ℕ → Type 0
IsLoneStart leb lnum = (text : LogText) × IsLogTextOf leb lnum text × (is_start_alone text.nodes ≡ true)

-- the LEB's text is something else
abbrev pub IsNoLoneStart : List ℕ → ℕ → Type 0
IsNoLoneStart leb lnum = (text : LogText) × IsLogTextOf leb lnum text × (is_start_alone text.nodes ≡ false)
