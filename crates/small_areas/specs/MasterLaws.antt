-- What stands in a LEB has one last master, and two LEBs have one latest.
use Rattle.std.proofs.Common.{◌≡◌, ℕ, zero, suc, ◌+◌, ◌<◌, ◌≤◌, List, [], ◌∷◌, ◌++◌, take, drop, get_or, ap, sym, subst, ◌∙◌, inl, inr, arith, get_or-drop}
use Rattle.std.specs.Prelude.{◌⊎◌, ◌≢◌}
use Rattle.std.proofs.lemmas.List.Elements.{All-head, All-tail}
use Rattle.ubifs_base.specs.NodeLaws.{IsBytes}
use Rattle.ubifs_base.specs.declared.node_type.NodeType.TheVariants as types
use Rattle.media_sys.specs.SystemNode.{SystemNode, master, IsSystemNode, IsMaster}
use Rattle.media_sys.specs.declared.master.Master.{Master}
use Rattle.leb_scan.specs.Text.{IsText, nodes_of}
use Rattle.leb_scan.specs.declared.found.Found.{Found}
use Rattle.leb_scan.specs.declared.item.Item.{Item}
use Rattle.leb_scan.specs.declared.tail.Tail.{Tail}
use Rattle.small_areas.specs.Masters.{HasNone, IsLastFound, IsLastMaster, HasNoMaster, IsLatest}
use Rattle.small_areas.specs.declared.placed_master.PlacedMaster.{PlacedMaster}

-- bytes are at most one system node
abbrev pub OneNode : Type 0
OneNode = (bytes : List ℕ) (s1 g1 s2 g2 : ℕ) (n1 n2 : SystemNode) → IsBytes bytes → IsSystemNode bytes s1 g1 n1 → IsSystemNode bytes s2 g2 n2 → (s1 ≡ s2) × (g1 ≡ g2) × (n1 ≡ n2)

-- a LEB has at most one text
abbrev pub OneText : Type 0
OneText = (leb : List ℕ) (from end1 end2 : ℕ) (items1 items2 : List Item) (tail1 tail2 : Tail) → IsBytes leb
    → IsText leb from items1 end1 tail1 → IsText leb from items2 end2 tail2 → (items1 ≡ items2) × (end1 ≡ end2) × (tail1 ≡ tail2)

-- parts of bytes are bytes
cons_bytes : (x : ℕ) (bytes : List ℕ) → x < 256 → IsBytes bytes → (i : ℕ) → get_or (x ∷ bytes) i 0 < 256
cons_bytes x bytes first rest zero = first
cons_bytes x bytes first rest (suc i) = rest i

pub take_bytes : (n : ℕ) (bytes : List ℕ) → IsBytes bytes → IsBytes (take n bytes)
take_bytes zero bytes fits = λ i. omega arith
take_bytes (suc n) [] fits = fits
take_bytes (suc n) (x ∷ bytes) fits = cons_bytes x (take n bytes) (fits 0) (take_bytes n bytes (λ i. fits (suc i)))

-- where there is a master there isn't none
none_has : (before behind : List Found) (found : Found) → HasNone (before ++ found ∷ behind) → found.kind ≡ types.Master → ⊥
none_has [] behind found none kind = let P : Found → Type 0 = λ f. f.kind ≢ types.Master in All-head P found behind none kind
none_has (b ∷ before) behind found none kind = let P : Found → Type 0 = λ f. f.kind ≢ types.Master in none_has before behind found (All-tail P b (before ++ found ∷ behind) none) kind

head_same : {X : Type 0} (x y : X) (xs ys : List X) → x ∷ xs ≡ y ∷ ys → (x ≡ y) × (xs ≡ ys)
head_same x y xs ys h = (cc, cc)

-- the last master of a list is one
last_same : (b1 c1 b2 c2 : List Found) (f1 f2 : Found) → b1 ++ f1 ∷ c1 ≡ b2 ++ f2 ∷ c2 → f1.kind ≡ types.Master → f2.kind ≡ types.Master → HasNone c1 → HasNone c2 → f1 ≡ f2
last_same [] c1 [] c2 f1 f2 e k1 k2 n1 n2 = (head_same f1 f2 c1 c2 e).0
last_same [] c1 (b ∷ b2) c2 f1 f2 e k1 k2 n1 n2 =
    let P : List Found → Type 0 = λ c. HasNone c in
    absurd (none_has b2 c2 f2 (subst P (head_same f1 b c1 (b2 ++ f2 ∷ c2) e).1 n1) k2)
last_same (b ∷ b1) c1 [] c2 f1 f2 e k1 k2 n1 n2 =
    let P : List Found → Type 0 = λ c. HasNone c in
    absurd (none_has b1 c1 f1 (subst P (sym (head_same b f2 (b1 ++ f1 ∷ c1) c2 e).1) n2) k1)
last_same (a ∷ b1) c1 (b ∷ b2) c2 f1 f2 e k1 k2 n1 n2 = last_same b1 c1 b2 c2 f1 f2 (head_same a b (b1 ++ f1 ∷ c1) (b2 ++ f2 ∷ c2) e).1 k1 k2 n1 n2

found_same : OneText → (leb : List ℕ) (f1 f2 : Found) → IsBytes leb → IsLastFound leb f1 → IsLastFound leb f2 → f1 ≡ f2
found_same one leb f1 f2 fits h1 h2 =
    let same = ap nodes_of (one leb 0 h1.end h2.end h1.items h2.items h1.tail h2.tail fits h1.is_text h2.is_text).0 in
    last_same h1.last.before h1.last.behind h2.last.before h2.last.behind f1 f2 (sym h1.last.split ∙ same ∙ h2.last.split) h1.last.kind h2.last.kind h1.last.none h2.last.none

master_same : (m n : Master) → master m ≡ master n → m ≡ n
master_same m n h = cc

-- and so is the last master of a LEB
pub one_last : OneNode → OneText → (leb : List ℕ) (p q : PlacedMaster) → IsBytes leb → IsLastMaster leb p → IsLastMaster leb q → (p.sqnum ≡ q.sqnum) × (p.master ≡ q.master)
one_last node text leb p q fits a b =
    let same = found_same text leb a.found b.found fits a.last b.last in
    let bytes = take b.found.len (drop b.found.offs leb) in
    let P : Found → Type 0 = λ f. IsMaster (take f.len (drop f.offs leb)) f.sqnum f.group p.master in
    let part : IsBytes bytes = take_bytes b.found.len (drop b.found.offs leb) (λ i. rw get_or-drop (fits (b.found.offs + i))) in
    let e = (node bytes b.found.sqnum b.found.group b.found.sqnum b.found.group (master p.master) (master q.master) part (subst P same a.is) b.is).2 in
    (a.sqnum ∙ ap (λ (f : Found). f.sqnum) same ∙ sym b.sqnum, master_same p.master q.master e)

pub last_or_none : OneText → (leb : List ℕ) (p : PlacedMaster) → IsBytes leb → IsLastMaster leb p → HasNoMaster leb → ⊥
last_or_none one leb p fits a none =
    let same = ap nodes_of (one leb 0 a.last.end none.end a.last.items none.items a.last.tail none.tail fits a.last.is_text none.is_text).0 in
    let P : List Found → Type 0 = λ nodes. HasNone nodes in
    none_has a.last.last.before a.last.last.behind a.found (subst P (sym same ∙ a.last.last.split) none.none) a.last.last.kind

-- of two LEBs only one can have the latest master
crossed : OneNode → OneText → (one two : List ℕ) (p q : PlacedMaster) → IsBytes one → IsBytes two → IsLastMaster one p → IsLastMaster two q
    → (HasNoMaster two ⊎ ((o : PlacedMaster) × IsLastMaster two o × (o.sqnum ≤ p.sqnum))) → (HasNoMaster one ⊎ ((o : PlacedMaster) × IsLastMaster one o × (o.sqnum < q.sqnum))) → ⊥
crossed node text one two p q f1 f2 a b (inl none) second = last_or_none text two q f2 b none
crossed node text one two p q f1 f2 a b (inr first) (inl none) = last_or_none text one p f1 a none
crossed node text one two p q f1 f2 a b (inr first) (inr second) =
    let x = (one_last node text two first.0 q f2 first.1 b).0 in
    let y = (one_last node text one second.0 p f1 second.1 a).0 in
    omega (arith, first.2, second.2, x, y)

-- the latest master is one
pub one_latest : OneNode → OneText → (one two : List ℕ) (p q : PlacedMaster) → IsBytes one → IsBytes two → IsLatest one two p → IsLatest one two q → p.master ≡ q.master
one_latest node text one two p q f1 f2 (inl a) (inl b) = (one_last node text one p q f1 a.1 b.1).1
one_latest node text one two p q f1 f2 (inr a) (inr b) = (one_last node text two p q f2 a.1 b.1).1
one_latest node text one two p q f1 f2 (inl a) (inr b) = absurd (crossed node text one two p q f1 f2 a.1 b.1 a.2 b.2)
one_latest node text one two p q f1 f2 (inr a) (inl b) = absurd (crossed node text one two q p f1 f2 b.1 a.1 b.2 a.2)

-- and where there is one, one of the LEBs has a master
pub latest_or_none : OneText → (one two : List ℕ) (p : PlacedMaster) → IsBytes one → IsBytes two → IsLatest one two p → HasNoMaster one → HasNoMaster two → ⊥
latest_or_none text one two p f1 f2 (inl a) n1 n2 = last_or_none text one p f1 a.1 n1
latest_or_none text one two p f1 f2 (inr a) n1 n2 = last_or_none text two p f2 a.1 n2
