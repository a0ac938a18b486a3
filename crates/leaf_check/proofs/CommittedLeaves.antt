-- Leaves with what stands at their places, read one after another.
use Rattle.std.proofs.Common.{◌≡◌, ℕ, ◌+◌, ◌≤◌, Bool, true, false, List, [], ◌∷◌, ◌++◌, length, map, take, drop, Option, Some, None, IfNone, IfSome, refl, ap, sym, subst, ◌∙◌, append_assoc, append-nil, arith}
use Rattle.std.specs.Prelude.{◌==◌, All, Err, IfOk, IsTrue, MatchResult, Ok, Result}
use Rattle.std.specs.Borrow.{Bor}
use Rattle.std.specs.List.{AllByRecursion, AllZip}
use Rattle.rayon.proofs.ListFacts.{AllZip-append}
use Rattle.rayon.proofs.ToStd.{slice-AllZip}
use Rattle.std.proofs.lemmas.Bool.{eqb-true}
use Rattle.std.proofs.lemmas.List.{take-append-drop}
use Rattle.std.proofs.lemmas.List.Elements.{All-append, All-from_recursion}
use Rattle.ubifs_base.specs.NodeLaws.{IsBytes}
use Rattle.ubi_volume.specs.Volume.{VolumeState}
use Rattle.media_leaf.specs.LeafNode.{IsLeafNode, LeafNode}
use Rattle.leb_scan.specs.declared.found.Found.{Found}
use Rattle.leb_scan.specs.Text.{leaf_type}
use Rattle.index_tree.specs.declared.leaf.Leaf.{Leaf}
use Rattle.leaf_map.specs.Kept.{Placed}
use Rattle.leaf_map.specs.Parts.{Committed}
use Rattle.journal_scan.specs.Content.{node_content_of}
use Rattle.journal_scan.specs.declared.journal_node.JournalNode.{JournalNode}
use Rattle.journal_scan.specs.declared.node_content.NodeContent.{NodeContent}
use Rattle.log_replay.specs.Replay.{told_committed}
use Rattle.log_replay.specs.Settling.{HasGrammar}
use Rattle.log_replay.specs.declared.committed_leaf.CommittedLeaf.{CommittedLeaf}
use Rattle.sound_image.specs.Frames.{IsKnownAt}
use Rattle.sound_image.specs.Leaves.{AreCommitted, HasItsNode, IsFoundAt, IsPlaceOf, IsPlacedIn}
use Rattle.image_check.specs.KeptLaws.{IsKept, kept_start}
use Rattle.leaf_check.specs.Committed.{HasBytes, IsAnswerTo, IsCommittedRead, IsLeafAnswer, IsReadFor, intact_leaves, nothing_told}
use Rattle.leaf_check.specs.LeafReads.{HasWholeLeaf, IsWholeOf}
use Rattle.leaf_check.specs.declared.leaf_answer.LeafAnswer.{LeafAnswer}
use Rattle.leaf_check.specs.declared.leaf_bytes.LeafBytes.{LeafBytes}

-- ---- one leaf
-- where no whole node stands none is placed
abbrev pub placed_whole : (contents : ℕ → List ℕ) (x : Leaf) (node : Placed) → IsPlaceOf x node → IsPlacedIn contents node → HasWholeLeaf contents x
placed_whole contents x node place h =
    let P : ℕ → Type 0 = λ l. node.offs + node.len ≤ length (contents l) in
    let Q : ℕ → Type 0 = λ o. o + node.len ≤ length (contents x.lnum) in
    let R : ℕ → Type 0 = λ n. x.offs + n ≤ length (contents x.lnum) in
    let S : ℕ → Type 0 = λ l. IsLeafNode (take node.len (drop node.offs (contents l))) node.sqnum node.group node.node in
    let T : ℕ → Type 0 = λ o. IsLeafNode (take node.len (drop o (contents x.lnum))) node.sqnum node.group node.node in
    let U : ℕ → Type 0 = λ n. IsLeafNode (take n (drop x.offs (contents x.lnum))) node.sqnum node.group node.node in
    record {
      sqnum = node.sqnum;
      group = node.group;
      node = node.node;
      room = subst R place.len (subst Q place.offs (subst P place.lnum h.room));
      is = subst U place.len (subst T place.offs (subst S place.lnum h.is));
    }

pub none_told : (contents : ℕ → List ℕ) (x : Leaf) → (HasWholeLeaf contents x → ⊥) → IsLeafAnswer contents x (nothing_told x)
none_told contents x none = record {
  told = record { committed = record { leaf = x; found = None }; leaf_is = refl; found = λ node place there. none (placed_whole contents x node place there); grammar = tt; is = refl };
  intact = λ h. absurd cc;
}

-- the node that was found is placed there
pub some_told : (contents : ℕ → List ℕ) (x : Leaf) (bytes : List ℕ) (found : Found) (node : LeafNode) (content : NodeContent) → HasBytes contents x bytes → (h : IsWholeOf bytes found node)
    → ((sqnum group : ℕ) (node : LeafNode) → IsLeafNode bytes sqnum group node → found.kind ≡ leaf_type node → content ≡ node_content_of node)
    → IsCommittedRead contents x (record { leaf = x; found = Some (record { content = content; sqnum = found.sqnum; lnum = x.lnum; offs = x.offs; len = x.len }) })
some_told contents x bytes found node content here h says =
    let placed : Placed = record { node = node; sqnum = found.sqnum; group = found.group; lnum = x.lnum; offs = x.offs; len = x.len } in
    let P : List ℕ → Type 0 = λ b. IsLeafNode b found.sqnum found.group node in
    let same = says found.sqnum found.group node h.is h.kind in
    record {
      committed = record { leaf = x; found = Some placed };
      leaf_is = refl;
      found = (record { lnum = refl; offs = refl; len = refl }, record { room = here.room; is = subst P here.is h.is });
      grammar = h.is.is;
      is = ap (λ (k : NodeContent). let node : JournalNode = record { content = k; sqnum = found.sqnum; lnum = x.lnum; offs = x.offs; len = x.len } in let told : CommittedLeaf = record { leaf = x; found = Some node } in told) same;
    }

-- ---- leaves one after another
pub placed_moved : (c d : ℕ → List ℕ) (node : Placed) → ((k : ℕ) → c k ≡ d k) → IsPlacedIn c node → IsPlacedIn d node
placed_moved c d node e h =
    let P : List ℕ → Type 0 = λ leb. node.offs + node.len ≤ length leb in
    let Q : List ℕ → Type 0 = λ leb. IsLeafNode (take node.len (drop node.offs leb)) node.sqnum node.group node.node in
    record { room = subst P (e node.lnum) h.room; is = subst Q (e node.lnum) h.is }

found_moved : (c d : ℕ → List ℕ) (x : Leaf) (o : Option Placed) → ((k : ℕ) → c k ≡ d k) → IsFoundAt c x o → IsFoundAt d x o
found_moved c d x (Some node) e h = (h.0, placed_moved c d node e h.1)
found_moved c d x None e h = λ node place there. h node place (placed_moved d c node (λ k. sym (e k)) there)

-- the leaves that were read, and those that are left
pub record ReadSoFar (old now : VolumeState) (left all : List Leaf) (found : List CommittedLeaf) : Type 0 where
  pub kept : IsKept old now
  pub done : List Leaf
  pub split : done ++ left ≡ all
  pub list : List Committed
  pub are : AreCommitted old.holds done list
  pub grammar : AllByRecursion HasGrammar list
  pub is : found ≡ map told_committed list

pub read_start : (old : VolumeState) (all : List Leaf) (found : List CommittedLeaf) → found ≡ [] → ReadSoFar old old all all found
read_start old all found none = record { kept = kept_start old; done = []; split = refl; list = []; are = tt; grammar = tt; is = none }

are_more : (contents : ℕ → List ℕ) (done : List Leaf) (list : List Committed) (x : Leaf) (one : Committed) → one.leaf ≡ x → IsFoundAt contents x one.found → AreCommitted contents done list → AreCommitted contents (done ++ (x ∷ [])) (list ++ (one ∷ []))
are_more contents [] [] x one e f h = (e, f, tt)
are_more contents [] (y ∷ list) x one e f h = absurd h
are_more contents (z ∷ done) [] x one e f h = absurd h
are_more contents (z ∷ done) (y ∷ list) x one e f h = (h.0, h.1, are_more contents done list x one e f h.2)

grammar_more : (list : List Committed) (one : Committed) → HasGrammar one → AllByRecursion HasGrammar list → AllByRecursion HasGrammar (list ++ (one ∷ []))
grammar_more [] one h k = (h, tt)
grammar_more (y ∷ list) one h k = (k.0, grammar_more list one h k.1)

told_more : (list : List Committed) (one : Committed) → map told_committed (list ++ (one ∷ [])) ≡ map told_committed list ++ (told_committed one ∷ [])
told_more [] one = refl
told_more (y ∷ list) one = ap (λ (xs : List CommittedLeaf). told_committed y ∷ xs) (told_more list one)

pub read_next : (old now new : VolumeState) (left all : List Leaf) (x : Leaf) (rest : List Leaf) (found more : List CommittedLeaf) (one : CommittedLeaf) → left ≡ x ∷ rest → IsCommittedRead now.holds x one → more ≡ found ++ (one ∷ []) → ReadSoFar old now left all found → IsKept old new → ReadSoFar old new rest all more
read_next old now new left all x rest found more one cut is pushed before kept = record {
  kept = kept;
  done = before.done ++ (x ∷ []);
  split = append_assoc before.done (x ∷ []) rest ∙ ap (λ (xs : List Leaf). before.done ++ xs) (sym cut) ∙ before.split;
  list = before.list ++ (is.committed ∷ []);
  are = are_more old.holds before.done before.list x is.committed is.leaf_is (found_moved now.holds old.holds x is.committed.found before.kept.keeps.holds is.found) before.are;
  grammar = grammar_more before.list is.committed is.grammar before.grammar;
  is = pushed ∙ ap (λ (xs : List CommittedLeaf). xs ++ (one ∷ [])) before.is ∙ ap (λ (y : CommittedLeaf). map told_committed before.list ++ (y ∷ [])) is.is ∙ sym (told_more before.list is.committed);
}

pub read_end : (old now : VolumeState) (left all : List Leaf) (found : List CommittedLeaf) → left ≡ [] → ReadSoFar old now left all found → (committed : List Committed) × AreCommitted old.holds all committed × AllByRecursion HasGrammar committed × (found ≡ map told_committed committed)
read_end old now left all found none h =
    let P : List Leaf → Type 0 = λ xs. AreCommitted old.holds xs h.list in
    (h.list, subst P (sym (append-nil h.done) ∙ ap (λ (xs : List Leaf). h.done ++ xs) (sym none) ∙ h.split) h.are, h.grammar, h.is)

pub no_more : (left : List Leaf) → length left ≡ 0 → left ≡ []
no_more [] h = refl
no_more (x ∷ left) h = absurd (omega (arith, h))

-- along the option that was read
pub none_at : {X : Type 0} (o : Option X) (P : Type 0) → o ≡ None → IfNone o P → P
none_at {X} o P e h = let Q : Option X → Type 0 = λ r. IfNone r P in subst Q e h

pub some_at : {X : Type 0} (o : Option X) (x : X) (P : X → Type 0) → o ≡ Some x → IfSome o P → P x
some_at {X} o x P e h = let Q : Option X → Type 0 = λ r. IfSome r P in subst Q e h

-- ---- leaves whose places have their nodes
pub its_moved : (c d : ℕ → List ℕ) (x : Leaf) → ((k : ℕ) → c k ≡ d k) → HasItsNode c x → HasItsNode d x
its_moved c d x e h =
    let P : List ℕ → Type 0 = λ leb. IsKnownAt leb x.offs in
    record { node = h.node; placed = h.placed; stands = placed_moved c d h.node e h.stands; key = h.key; known = subst P (e x.lnum) h.known }

-- those behind others
pub all_behind : (P : Leaf → Type 0) (all before xs : List Leaf) → all ≡ before ++ xs → AllByRecursion P all → AllByRecursion P xs
all_behind P all before xs e h = let Q : List Leaf → Type 0 = λ zs. AllByRecursion P zs in back before (subst Q e h)
  where
    back : (ys : List Leaf) → AllByRecursion P (ys ++ xs) → AllByRecursion P xs
    back [] k = k
    back (y ∷ ys) k = back ys k.1

-- ---- what was read for leaves
some_through : {X : Type 0} (o : Option X) (P Q : X → Type 0) → ((x : X) → P x → Q x) → IfSome o P → IfSome o Q
some_through (Some x) P Q f h = f x h
some_through None P Q f h = tt

none_through : {X : Type 0} (o : Option X) (P Q : Type 0) → (P → Q) → IfNone o P → IfNone o Q
none_through (Some x) P Q f h = tt
none_through None P Q f h = f h

bytes_moved : (c d : ℕ → List ℕ) (x : Leaf) (bytes : List ℕ) → ((k : ℕ) → c k ≡ d k) → HasBytes c x bytes → HasBytes d x bytes
bytes_moved c d x bytes e h =
    let P : List ℕ → Type 0 = λ leb. IsBytes leb in
    let Q : List ℕ → Type 0 = λ leb. x.offs + x.len ≤ length leb in
    record { fits = subst P (e x.lnum) h.fits; room = subst Q (e x.lnum) h.room; is = h.is ∙ ap (λ (leb : List ℕ). take x.len (drop x.offs leb)) (e x.lnum) }

whole_moved : (c d : ℕ → List ℕ) (x : Leaf) → ((k : ℕ) → c k ≡ d k) → HasWholeLeaf c x → HasWholeLeaf d x
whole_moved c d x e h =
    let P : List ℕ → Type 0 = λ leb. x.offs + x.len ≤ length leb in
    let Q : List ℕ → Type 0 = λ leb. IsLeafNode (take x.len (drop x.offs leb)) h.sqnum h.group h.node in
    record { sqnum = h.sqnum; group = h.group; node = h.node; room = subst P (e x.lnum) h.room; is = subst Q (e x.lnum) h.is }

pub read_moved : (c d : ℕ → List ℕ) (x : Leaf) (read : LeafBytes) → ((k : ℕ) → c k ≡ d k) → IsReadFor c x read → IsReadFor d x read
read_moved c d x read e h = record {
  leaf_is = h.leaf_is;
  some = some_through read.bytes _ _ (λ bytes has. bytes_moved c d x bytes.items e has) h.some;
  none = none_through read.bytes _ _ (λ none there. none (whole_moved d c x (λ k. sym (e k)) there)) h.none;
}

-- leaves whose bytes were read, and those that are left
pub record PlacesRead (old now : VolumeState) (left all : List Leaf) (reads : List LeafBytes) : Type 0 where
  pub kept : IsKept old now
  pub done : List Leaf
  pub split : done ++ left ≡ all
  pub are : AllZip (IsReadFor old.holds) done reads

pub places_start : (old : VolumeState) (all : List Leaf) (reads : List LeafBytes) → reads ≡ [] → PlacesRead old old all all reads
places_start old all reads none = let P : List LeafBytes → Type 0 = λ xs. AllZip (IsReadFor old.holds) [] xs in record { kept = kept_start old; done = []; split = refl; are = subst P (sym none) tt }

pub places_next : (old now new : VolumeState) (left all : List Leaf) (x : Leaf) (rest : List Leaf) (reads more : List LeafBytes) (one : LeafBytes) → left ≡ x ∷ rest → IsReadFor now.holds x one → more ≡ reads ++ (one ∷ []) → PlacesRead old now left all reads → IsKept old new → PlacesRead old new rest all more
places_next old now new left all x rest reads more one cut is pushed before kept =
    let P : List LeafBytes → Type 0 = λ xs. AllZip (IsReadFor old.holds) (before.done ++ (x ∷ [])) xs in
    record {
      kept = kept;
      done = before.done ++ (x ∷ []);
      split = append_assoc before.done (x ∷ []) rest ∙ ap (λ (xs : List Leaf). before.done ++ xs) (sym cut) ∙ before.split;
      are = subst P (sym pushed) (AllZip-append (IsReadFor old.holds) before.done (x ∷ []) reads (one ∷ []) before.are (read_moved now.holds old.holds x one before.kept.keeps.holds is, tt));
    }

pub places_end : (old now : VolumeState) (left all : List Leaf) (reads : List LeafBytes) → left ≡ [] → PlacesRead old now left all reads → AllZip (IsReadFor old.holds) all reads
places_end old now left all reads none h =
    let P : List Leaf → Type 0 = λ xs. AllZip (IsReadFor old.holds) xs reads in
    subst P (sym (append-nil h.done) ∙ ap (λ (xs : List Leaf). h.done ++ xs) (sym none) ∙ h.split) h.are

-- ---- what is told of them
-- where no bytes were read
pub nothing_read : (contents : ℕ → List ℕ) (x : Leaf) (read : LeafBytes) (answer : LeafAnswer) → answer ≡ nothing_told read.leaf → read.bytes ≡ None → IsReadFor contents x read → IsLeafAnswer contents x answer
nothing_read contents x read answer e none h = subst (IsLeafAnswer contents x) (sym (e ∙ ap nothing_told h.leaf_is)) (none_told contents x (none_at read.bytes _ none h.none))

-- where they are no leaf node
pub no_node : (contents : ℕ → List ℕ) (x : Leaf) (read : LeafBytes) (bytes : List ℕ) (answer : LeafAnswer) → answer ≡ nothing_told read.leaf → ((sqnum group : ℕ) (node : LeafNode) → IsLeafNode bytes sqnum group node → ⊥) → HasBytes contents x bytes → read.leaf ≡ x
    → IsLeafAnswer contents x answer
no_node contents x read bytes answer e none here is =
    let P : HasWholeLeaf contents x → List ℕ → Type 0 = λ there b. IsLeafNode b there.sqnum there.group there.node in
    subst (IsLeafAnswer contents x) (sym (e ∙ ap nothing_told is)) (none_told contents x (λ there. none there.sqnum there.group there.node (subst (P there) (sym here.is) there.is)))

-- ---- a batch of leaves
pub parted : (n : ℕ) (left batch rest : List Leaf) → batch ≡ take n left → rest ≡ drop n left → left ≡ batch ++ rest
parted n left batch rest front back = sym (take-append-drop n left) ∙ ap (λ (xs : List Leaf). xs ++ drop n left) (sym front) ∙ ap (λ (xs : List Leaf). batch ++ xs) (sym back)

pub none_left : (left : List Leaf) → (length left == 0) ≡ true → left ≡ []
none_left left e = no_more left (eqb-true (length left) 0 e)

-- ---- answers side by side
pub if_ok : {A E : Type 0} (r : Result A E) (P Q : A → Type 0) (N : E → Type 0) → MatchResult r P N → ((x : A) → P x → Q x) → IfOk r Q
if_ok (Ok x) P Q N h f = f x h
if_ok (Err e) P Q N h f = tt

all_ok : {X Y : Type 0} (E : Type 0) (R : X → Y → Type 0) (xs : List X) (ys : List Y) → AllZip (λ (x : X) (r : Result Y E). IfOk r (R x)) xs (map Ok ys) → AllZip R xs ys
all_ok E R [] [] h = tt
all_ok E R [] (y ∷ ys) h = absurd h
all_ok E R (x ∷ xs) [] h = absurd h
all_ok E R (x ∷ xs) (y ∷ ys) h = (h.0, all_ok E R xs ys h.1)

pub gathered : {E : Type 0} (lent : List (Bor LeafBytes)) (reads : List LeafBytes) (results : List (Result LeafAnswer E)) (answers : List LeafAnswer) → map (λ (b : Bor LeafBytes). b.now) lent ≡ reads
    → AllZip (λ (b : Bor LeafBytes) (r : Result LeafAnswer E). IfOk r (IsAnswerTo b.now)) lent results → results ≡ map Ok answers → AllZip IsAnswerTo reads answers
gathered {E} lent reads results answers shown each ok =
    let P : List (Result LeafAnswer E) → Type 0 = λ rs. AllZip (λ (b : Bor LeafBytes) (r : Result LeafAnswer E). IfOk r (IsAnswerTo b.now)) lent rs in
    slice-AllZip lent reads shown IsAnswerTo answers (all_ok E (λ (b : Bor LeafBytes) (a : LeafAnswer). IsAnswerTo b.now a) lent answers (subst P ok each))

pub answered : (contents : ℕ → List ℕ) (leaves : List Leaf) (reads : List LeafBytes) (answers : List LeafAnswer) → AllZip (IsReadFor contents) leaves reads → AllZip IsAnswerTo reads answers → AllZip (IsLeafAnswer contents) leaves answers
answered contents [] [] [] h k = tt
answered contents [] [] (a ∷ answers) h k = absurd k
answered contents [] (r ∷ reads) answers h k = absurd h
answered contents (x ∷ leaves) [] answers h k = absurd h
answered contents (x ∷ leaves) (r ∷ reads) [] h k = absurd k
answered contents (x ∷ leaves) (r ∷ reads) (a ∷ answers) h k = (k.0 contents x h.0, answered contents leaves reads answers h.1 k.1)

-- leaves that were told of at once
batch_told : (old now : VolumeState) (batch rest left all : List Leaf) (found more : List CommittedLeaf) (answers : List LeafAnswer) → left ≡ batch ++ rest → AllZip (IsLeafAnswer now.holds) batch answers
    → more ≡ found ++ map (λ (answer : LeafAnswer). answer.told) answers → ReadSoFar old now left all found → ReadSoFar old now rest all more
batch_told old now [] rest left all found more [] cut h pushed before = record {
  kept = before.kept;
  done = before.done;
  split = ap (λ (xs : List Leaf). before.done ++ xs) (sym cut) ∙ before.split;
  list = before.list;
  are = before.are;
  grammar = before.grammar;
  is = pushed ∙ append-nil found ∙ before.is;
}
batch_told old now [] rest left all found more (a ∷ answers) cut h pushed before = absurd h
batch_told old now (x ∷ batch) rest left all found more [] cut h pushed before = absurd h
batch_told old now (x ∷ batch) rest left all found more (a ∷ answers) cut h pushed before =
    batch_told old now batch rest (batch ++ rest) all (found ++ (a.told ∷ [])) more answers refl h.1 (pushed ∙ sym (append_assoc found (a.told ∷ []) (map (λ (answer : LeafAnswer). answer.told) answers)))
    (read_next old now now left all x (batch ++ rest) found (found ++ (a.told ∷ [])) a.told cut h.0.told refl before before.kept)

pub read_more : (old now new : VolumeState) (batch rest left all : List Leaf) (found more : List CommittedLeaf) (answers : List LeafAnswer) → left ≡ batch ++ rest → AllZip (IsLeafAnswer now.holds) batch answers
    → more ≡ found ++ map (λ (answer : LeafAnswer). answer.told) answers → ReadSoFar old now left all found → IsKept old new → ReadSoFar old new rest all more
read_more old now new batch rest left all found more answers cut h pushed before kept =
    let next = batch_told old now batch rest left all found more answers cut h pushed before in
    record { kept = kept; done = next.done; split = next.split; list = next.list; are = next.are; grammar = next.grammar; is = next.is }

-- those that are called intact
one_intact : (b : Bool) (P : Leaf → Type 0) (a : LeafAnswer) (answers : List LeafAnswer) → a.intact ≡ b → (IsTrue b → P a.told.leaf) → AllByRecursion P (intact_leaves answers) → AllByRecursion P (intact_leaves (a ∷ answers))
one_intact true P a answers e has rest = rw e (has refl, rest)
one_intact false P a answers e has rest = rw e rest

intact_each : (c d : ℕ → List ℕ) (batch : List Leaf) (answers : List LeafAnswer) → ((k : ℕ) → c k ≡ d k) → AllZip (IsLeafAnswer c) batch answers → AllByRecursion (HasItsNode d) (intact_leaves answers)
intact_each c d [] [] e h = tt
intact_each c d [] (a ∷ answers) e h = absurd h
intact_each c d (x ∷ batch) [] e h = absurd h
intact_each c d (x ∷ batch) (a ∷ answers) e h =
    let P : Leaf → Type 0 = λ z. HasItsNode d z in
    let same : x ≡ a.told.leaf = sym (ap (λ (t : CommittedLeaf). t.leaf) h.0.told.is ∙ h.0.told.leaf_is) in
    one_intact a.intact P a answers refl (λ t. subst P same (its_moved c d x e (h.0.intact t))) (intact_each c d batch answers e h.1)

pub intact_more : (c d : ℕ → List ℕ) (batch : List Leaf) (answers : List LeafAnswer) (old new : List Leaf) → ((k : ℕ) → c k ≡ d k) → AllZip (IsLeafAnswer c) batch answers → new ≡ old ++ intact_leaves answers → All (HasItsNode d) old → All (HasItsNode d) new
intact_more c d batch answers old new e h pushed before =
    let P : List Leaf → Type 0 = λ xs. All (HasItsNode d) xs in
    subst P (sym pushed) (All-append (HasItsNode d) old (intact_leaves answers) before (All-from_recursion (HasItsNode d) (intact_leaves answers) (intact_each c d batch answers e h)))
