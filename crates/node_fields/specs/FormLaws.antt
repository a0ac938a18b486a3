-- Of any family of nodes: what a reader of bodies gives is what the grammar says of whole nodes.
use Rattle.std.proofs.Common.{◌≡◌, ℕ, ◌+◌, ◌^◌, ◌<◌, ◌≤◌, ◌==◌, not, nat_lt, Bool, true, false, cond, List, [], ◌∷◌, ◌++◌, length, drop, Option, Some, None, slice_index, Result, Ok, Err, IfOk, IfSome, IfNone, refl, ap, sym, ◌∙◌, subst, arith, get_or-drop}
use Rattle.std.proofs.lemmas.Bool.{ltb-false, le-ltb, eqb-true, eq-eqb, not-false}
use Rattle.byteorder.specs.Numbers.{little_from-lt}
use Rattle.ubifs_base.specs.Node.{IsNode, node_bytes}
use Rattle.ubifs_base.specs.NodeLaws.{IsBytes, has_head, node-prefix, is_node, unframed-ok, unframed-has_head}
use Rattle.ubifs_base.specs.Frame.{unframed}
use Rattle.ubifs_base.specs.declared.header.FrameFault.{FrameFault}
use Rattle.ubifs_base.specs.declared.header.Head.{Head}
use Rattle.node_fields.specs.Fields.{spelling, total_width, AllFit}
use Rattle.node_fields.specs.FieldLaws.{spelling_spells, length-spelling}
use Rattle.node_fields.specs.Form.{Form, IsBody, IsOf, written_as}
use Rattle.node_fields.specs.Opening.{opened, opened_with, decoded}
use Rattle.node_fields.specs.PlaceLaws.{drop_front}
use Rattle.std.specs.Prelude.{option_and_then}

-- past a test that failed
pub guard : {X : Type 0} (a : Bool) (o : Option X) (y : X) → cond a None o ≡ Some y → (a ≡ false) × (o ≡ Some y)
guard true o y h = absurd cc
guard false o y h = (refl, h)

pub some_same : {X : Type 0} (x y : X) → Some x ≡ Some y → x ≡ y
some_same x y h = cc

opened_node-with : (bytes body : List ℕ) (kind : ℕ) (u : Result Head FrameFault) → IsBytes bytes → unframed bytes ≡ u → opened_with bytes u ≡ Some (kind, body)
    → (sqnum : ℕ) × (group : ℕ) × IsNode bytes sqnum kind group body
opened_node-with bytes body kind (Err e) fits u h = absurd cc
opened_node-with bytes body kind (Ok head) fits u h =
    let g1 = guard (not (head.len == length bytes)) (cond (nat_lt 2 head.group) None (Some (head.kind, drop 24 bytes))) (kind, body) h in
    let g2 = guard (nat_lt 2 head.group) (Some (head.kind, drop 24 bytes)) (kind, body) g1.1 in
    let same = some_same {X = ℕ × List ℕ} (head.kind, drop 24 bytes) (kind, body) g2.1 in
    let len : head.len ≡ length bytes = eqb-true head.len (length bytes) (not-false (head.len == length bytes) g1.0) in
    let hh = unframed-ok bytes head u in
    let below : head.len < 2 ^ 32 = rw hh.len (little_from-lt 0 4 (drop 16 bytes) (λ i. rw get_or-drop (fits (16 + i)))) in
    let framed = is_node bytes head fits hh len (ltb-false 2 head.group g2.0) (omega (arith, below, len)) in
    let P : ℕ → Type 0 = λ k. IsNode bytes head.sqnum k head.group (drop 24 bytes) in
    let Q : List ℕ → Type 0 = λ b. IsNode bytes head.sqnum kind head.group b in
    (head.sqnum, head.group, subst Q (ap (λ (p : ℕ × List ℕ). p.1) same) (subst P (ap (λ (p : ℕ × List ℕ). p.0) same) framed))

-- what is opened is a node
pub opened-node : (bytes body : List ℕ) (kind : ℕ) → IsBytes bytes → opened bytes ≡ Some (kind, body) → (sqnum : ℕ) × (group : ℕ) × IsNode bytes sqnum kind group body
unfolding opened
opened-node bytes body kind fits h = opened_node-with bytes body kind (unframed bytes) fits refl h

-- and a node is opened
pub node-opened : (bytes body : List ℕ) (sqnum kind group : ℕ) → IsBytes bytes → IsNode bytes sqnum kind group body → opened bytes ≡ Some (kind, body)
unfolding opened
node-opened bytes body sqnum kind group fits h =
    let head : Head = record { sqnum = sqnum; len = length bytes; kind = kind; group = group } in
    let hh = has_head bytes body sqnum kind group fits h in
    let e = unframed-has_head bytes head hh.0 in
    let t1 : (length bytes == length bytes) ≡ true = eq-eqb (length bytes) (length bytes) refl in
    let t2 : nat_lt 2 group ≡ false = le-ltb 2 group h.group_known in
    ap (opened_with bytes) e ∙ rw (t1, t2, hh.1) refl

-- a reader of bodies gives exactly the node whose body it is
pub record IsReader {N X : Type 0} (form : Form N) (of : X → N) (read : ℕ → List ℕ → Option X) : Type 0 where
  pub takes : (kind : ℕ) (body : List ℕ) (node : X) → IsBody form kind body (of node) → read kind body ≡ Some node
  pub gives : (kind : ℕ) (body : List ℕ) (node : X) → IsBytes body → read kind body ≡ Some node → IsBody form kind body (of node)

-- in the grammar, and so decoded
pub is-decoded : {N X : Type 0} (form : Form N) (of : X → N) (read : ℕ → List ℕ → Option X) → IsReader form of read
    → (bytes : List ℕ) (sqnum group : ℕ) (node : X) → IsBytes bytes → IsOf form bytes sqnum group (of node) → decoded read bytes ≡ Some node
is-decoded form of read reader bytes sqnum group node fits h =
    let kind = form.type_of (of node) in
    rw (node-opened bytes h.body sqnum kind group fits h.framed) (reader.takes kind h.body node (record { kind_is = refl; spelled = h.spelled; is = h.is }))

decoded_from : {N X : Type 0} (form : Form N) (of : X → N) (read : ℕ → List ℕ → Option X) → IsReader form of read
    → (bytes : List ℕ) (node : X) (o : Option (ℕ × List ℕ)) → IsBytes bytes → opened bytes ≡ o → option_and_then (λ node. read node.0 node.1) o ≡ Some node
    → (sqnum : ℕ) × (group : ℕ) × IsOf form bytes sqnum group (of node)
decoded_from form of read reader bytes node None fits o h = absurd cc
decoded_from form of read reader bytes node (Some opening) fits o h =
    let kind = opening.0 in
    let body = opening.1 in
    let found = opened-node bytes body kind fits o in
    let sqnum = found.0 in
    let group = found.1 in
    let there : drop 24 bytes ≡ body = (has_head bytes body sqnum kind group fits found.2).1 in
    let P : List ℕ → Type 0 = λ b. IsBytes b in
    let read_body = reader.gives kind body node (subst P there (λ i. rw get_or-drop (fits (24 + i)))) h in
    let Q : ℕ → Type 0 = λ k. IsNode bytes sqnum k group body in
    (sqnum, group, record { body = body; framed = subst Q read_body.kind_is found.2; spelled = read_body.spelled; is = read_body.is })

-- decoded, and so in the grammar
pub decoded-is : {N X : Type 0} (form : Form N) (of : X → N) (read : ℕ → List ℕ → Option X) → IsReader form of read
    → (bytes : List ℕ) (node : X) → IsBytes bytes → decoded read bytes ≡ Some node → (sqnum : ℕ) × (group : ℕ) × IsOf form bytes sqnum group (of node)
decoded-is form of read reader bytes node fits h = decoded_from form of read reader bytes node (opened bytes) fits refl h

pub found_of : {N X E : Type 0} (form : Form N) (of : X → N) (read : ℕ → List ℕ → Option X) → IsReader form of read
    → (bytes : List ℕ) (r : Result (Option X) E) → IsBytes bytes → IfOk r (λ o. o ≡ decoded read bytes)
    → IfOk r (λ o. IfSome o (λ node. (sqnum : ℕ) × (group : ℕ) × IsOf form bytes sqnum group (of node)))
found_of form of read reader bytes (Ok (Some node)) fits h = decoded-is form of read reader bytes node fits (sym h)
found_of form of read reader bytes (Ok None) fits h = tt
found_of form of read reader bytes (Err e) fits h = tt

pub none_of : {N X E : Type 0} (form : Form N) (of : X → N) (read : ℕ → List ℕ → Option X) → IsReader form of read
    → (bytes : List ℕ) (r : Result (Option X) E) → IsBytes bytes → IfOk r (λ o. o ≡ decoded read bytes)
    → IfOk r (λ o. IfNone o ((sqnum group : ℕ) (node : X) → IsOf form bytes sqnum group (of node) → ⊥))
none_of form of read reader bytes (Ok (Some node)) fits h = tt
none_of form of read reader bytes (Ok None) fits h = λ sqnum group node is. let e = h ∙ is-decoded form of read reader bytes sqnum group node fits is in absurd cc
none_of form of read reader bytes (Err e) fits h = tt

-- the one spelling is in the grammar
pub written_is : {N : Type 0} (form : Form N) (sqnum group : ℕ) (node : N) → sqnum < 2 ^ 64 → group ≤ 2 → form.type_of node < 256 → AllFit (form.fields_of node)
    → 24 + total_width (form.fields_of node) + length (form.tail_of node) < 2 ^ 32 → form.Allowed node → IsOf form (written_as form sqnum group node) sqnum group node
written_is form sqnum group node sq known kind fit len is =
    let body = spelling (form.fields_of node) (form.tail_of node) in
    let long = length-spelling (form.fields_of node) (form.tail_of node) in
    record {
      body = body;
      framed = record { padding = 0 ∷ 0 ∷ []; two = refl; spelled = refl; sqnum_fits = sq; kind_fits = kind; group_known = known; len_fits = omega (arith, len, long) };
      spelled = spelling_spells (form.fields_of node) (form.tail_of node) fit;
      is = is;
    }

-- a header in front of a body
pub framed-written : {N : Type 0} (form : Form N) (sqnum group : ℕ) (node : N) (out front back : List ℕ) → out ≡ node_bytes sqnum (form.type_of node) group (0 ∷ 0 ∷ []) (drop 24 (front ++ back))
    → length front ≡ 24 → back ≡ spelling (form.fields_of node) (form.tail_of node) → out ≡ written_as form sqnum group node
framed-written form sqnum group node out front back framed long body =
    framed ∙ ap (node_bytes sqnum (form.type_of node) group (0 ∷ 0 ∷ [])) (drop_front 24 front back long ∙ body)

-- of one kind: both are what is read
pub alike : {N X : Type 0} (form : Form N) (of : X → N) (read : ℕ → List ℕ → Option X) → IsReader form of read
    → (kind : ℕ) (body : List ℕ) (m n : X) → IsBody form kind body (of m) → IsBody form kind body (of n) → of m ≡ of n
alike form of read reader kind body m n hm hn = ap of (some_same m n (sym (reader.takes kind body m hm) ∙ reader.takes kind body n hn))

-- the type and the body that the bytes have
pub body_in : {N : Type 0} (form : Form N) (bytes : List ℕ) (sqnum group : ℕ) (node : N) → IsBytes bytes → IsOf form bytes sqnum group node → IsBody form (slice_index bytes 20) (drop 24 bytes) node
body_in form bytes sqnum group node fits h =
    let head = has_head bytes h.body sqnum (form.type_of node) group fits h.framed in
    let P : List ℕ → Type 0 = λ b. IsBody form (slice_index bytes 20) b node in
    subst P (sym head.1) (record { kind_is = sym head.0.kind; spelled = h.spelled; is = h.is })

-- Where a body is at most one node, bytes are at most one.
pub one_of : {N : Type 0} (form : Form N) → ((kind : ℕ) (body : List ℕ) (m n : N) → IsBody form kind body m → IsBody form kind body n → m ≡ n)
    → (bytes : List ℕ) (s1 g1 s2 g2 : ℕ) (n1 n2 : N) → IsBytes bytes → IsOf form bytes s1 g1 n1 → IsOf form bytes s2 g2 n2 → (s1 ≡ s2) × (g1 ≡ g2) × (n1 ≡ n2)
one_of form same bytes s1 g1 s2 g2 n1 n2 fits h1 h2 =
    let a = (has_head bytes h1.body s1 (form.type_of n1) g1 fits h1.framed).0 in
    let b = (has_head bytes h2.body s2 (form.type_of n2) g2 fits h2.framed).0 in
    (a.sqnum ∙ sym b.sqnum, a.group ∙ sym b.group, same (slice_index bytes 20) (drop 24 bytes) n1 n2 (body_in form bytes s1 g1 n1 fits h1) (body_in form bytes s2 g2 n2 fits h2))

-- No node's bytes begin those of another, of whichever families they are.
pub whole_of : {M N : Type 0} (mform : Form M) (nform : Form N) (a x b : List ℕ) (s1 g1 s2 g2 : ℕ) (m : M) (n : N) → IsBytes a → IsBytes b
    → IsOf mform a s1 g1 m → IsOf nform b s2 g2 n → a ++ x ≡ b → length a ≡ length b
whole_of mform nform a x b s1 g1 s2 g2 m n fa fb h1 h2 e = node-prefix a x b h1.body h2.body s1 (mform.type_of m) g1 s2 (nform.type_of n) g2 fa fb h1.framed h2.framed e
