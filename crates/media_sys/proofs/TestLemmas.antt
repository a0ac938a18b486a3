-- Kinds whose bodies are tested and then taken apart.
use Rattle.std.proofs.Common.{◌≡◌, ℕ, ◌+◌, ◌&&◌, Bool, true, false, cond, List, [], length, drop, Option, Some, None, option_map, Result, Ok, Err, IfOk, IfSome, IfNone, refl, sym, ap, subst, arith, ◌∙◌}
use Rattle.std.proofs.lemmas.List.{drop_all}
use Rattle.ubifs_base.specs.NodeLaws.{IsBytes}
use Rattle.node_fields.specs.Fields.{Field, Spells, total_width, Reads}
use Rattle.node_fields.specs.FieldLaws.{spelled}
use Rattle.node_fields.specs.Form.{Form, IsBody, IsOf}
use Rattle.node_fields.specs.FormLaws.{IsReader, is-decoded, decoded-is}
use Rattle.node_fields.specs.Opening.{decoded}
use Rattle.media_sys.specs.Tested.{tested}

-- the test holds where a body is a node, and the node is then the one that is taken
pub record IsTest {N X : Type 0} (form : Form N) (of : X → N) (test : ℕ → List ℕ → Bool) (at : List ℕ → X) : Type 0 where
  pub takes : (kind : ℕ) (body : List ℕ) (node : X) → IsBody form kind body (of node) → (test kind body ≡ true) × (at body ≡ node)
  pub gives : (kind : ℕ) (body : List ℕ) → IsBytes body → test kind body ≡ true → IsBody form kind body (of (at body))

taken : {X : Type 0} (a : Bool) (x y : X) → cond a (Some x) None ≡ Some y → (a ≡ true) × (x ≡ y)
taken true x y h = (refl, cc)
taken false x y h = absurd cc

pub reader_of : {N X : Type 0} (form : Form N) (of : X → N) (test : ℕ → List ℕ → Bool) (at : List ℕ → X) → IsTest form of test at → IsReader form of (tested test at)
reader_of {X = X} form of test at is = record {
  takes = λ kind body node h. let t = is.takes kind body node h in rw (t.0) (ap (λ (n : X). Some n) t.1);
  gives = λ kind body node fits h.
      let t = taken (test kind body) (at body) node h in
      let P : X → Type 0 = λ n. IsBody form kind body (of n) in
      subst P t.1 (is.gives kind body fits t.0);
}

pub both : (a b : Bool) → a ≡ true → b ≡ true → (a && b) ≡ true
both a b ha hb = rw (ha, hb) refl

pub each : (a b : Bool) → (a && b) ≡ true → (a ≡ true) × (b ≡ true)
each true b h = (refl, h)
each false b h = absurd cc

-- fields that take all of a body, and are read there, spell it
pub all_spelled : (fields : List Field) (body : List ℕ) → IsBytes body → length body ≡ total_width fields → Reads 0 fields body → Spells fields [] body
all_spelled fields body fits long h =
    let none : drop (0 + total_width fields) body ≡ [] = drop_all (0 + total_width fields) body (omega (arith, long)) in
    let P : List ℕ → Type 0 = λ tail. Spells fields tail body in
    subst P none (spelled 0 fields body fits (omega (arith, long)) h)

-- what is read from a body, and where nothing is
pub body_found : {N X : Type 0} (form : Form N) (of : X → N) (test : ℕ → List ℕ → Bool) (at : List ℕ → X) → IsTest form of test at
    → (kind : ℕ) (body : List ℕ) (o : Option X) → IsBytes body → o ≡ tested test at kind body → IfSome o (λ node. IsBody form kind body (of node))
body_found form of test at is kind body None fits h = tt
body_found form of test at is kind body (Some node) fits h = (reader_of form of test at is).gives kind body node fits (sym h)

pub body_none : {N X : Type 0} (form : Form N) (of : X → N) (test : ℕ → List ℕ → Bool) (at : List ℕ → X) → IsTest form of test at
    → (kind : ℕ) (body : List ℕ) (o : Option X) → o ≡ tested test at kind body → IfNone o ((node : X) → IsBody form kind body (of node) → ⊥)
body_none form of test at is kind body (Some node) h = tt
body_none form of test at is kind body None h = λ node is_body. let e = h ∙ (reader_of form of test at is).takes kind body node is_body in absurd cc

-- a struct that is decoded, and seen as another value: what it is, and where there is none
pub found_seen : {N X Y E : Type 0} (form : Form N) (of : X → N) (see : Y → X) (read : ℕ → List ℕ → Option X) → IsReader form of read
    → (bytes : List ℕ) (r : Result (Option Y) E) → IsBytes bytes → IfOk r (λ o. option_map see o ≡ decoded read bytes)
    → IfOk r (λ o. IfSome o (λ node. (sqnum : ℕ) × (group : ℕ) × IsOf form bytes sqnum group (of (see node))))
found_seen form of see read reader bytes (Ok (Some node)) fits h = decoded-is form of read reader bytes (see node) fits (sym h)
found_seen form of see read reader bytes (Ok None) fits h = tt
found_seen form of see read reader bytes (Err e) fits h = tt

pub none_seen : {N X Y E : Type 0} (form : Form N) (of : X → N) (see : Y → X) (read : ℕ → List ℕ → Option X) → IsReader form of read
    → (bytes : List ℕ) (r : Result (Option Y) E) → IsBytes bytes → IfOk r (λ o. option_map see o ≡ decoded read bytes)
    → IfOk r (λ o. IfNone o ((sqnum group : ℕ) (node : X) → IsOf form bytes sqnum group (of node) → ⊥))
none_seen form of see read reader bytes (Ok (Some node)) fits h = tt
none_seen form of see read reader bytes (Ok None) fits h = λ sqnum group node is. let e = h ∙ is-decoded form of read reader bytes sqnum group node fits is in absurd cc
none_seen form of see read reader bytes (Err e) fits h = tt
