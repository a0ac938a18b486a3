-- The body of an index node is tested and read exactly where it is spelled.
use Rattle.std.proofs.Common.{◌≡◌, ℕ, zero, suc, ◌+◌, ◌*◌, ◌≤◌, ◌&&◌, ◌==◌, nat_le, true, List, [], ◌∷◌, length, drop, Option, Some, None, is_some, unwrap_or, refl, sym, ap, subst, arith, get_or-drop, length-drop, drop-drop}
use Rattle.std.specs.List.{flat_map, AllByRecursion}
use Rattle.std.proofs.lemmas.Bool.{eqb-true, eq-eqb, leb-true, le-leb}
use Rattle.byteorder.specs.Endian.{little_number}
use Rattle.ubifs_base.specs.Key.{IsKey, key_words, key_of}
use Rattle.ubifs_base.specs.NodeLaws.{IsBytes}
use Rattle.ubifs_base.specs.declared.key.Key.{Key}
use Rattle.ubifs_base.specs.declared.key.Key.TheVariants.{Ino}
use Rattle.node_fields.specs.Fields.{total_width, Reads}
use Rattle.node_fields.specs.FieldLaws.{reads_back, length-read}
use Rattle.node_fields.specs.Form.{IsBody}
use Rattle.media_sys.specs.declared.branch.Branch.{Branch}
use Rattle.media_sys.specs.Index.{Index, may_follow, in_order, branch_fields, index_fields, key_at, keys_follow, branch_at, branches_at, is_index, index_at}
use Rattle.media_sys.specs.SystemNode.{system_form, index}
use Rattle.media_sys.proofs.FieldLemmas.{Reads-append, Reads-parts, total_width-flat_map}
use Rattle.media_sys.proofs.KeyLemmas.{key_of-words, words-key_of}
use Rattle.media_sys.proofs.TestLemmas.{IsTest, each, all_spelled}

-- a branch's numbers, each at its place
record IsBranchAt (place : ℕ) (body : List ℕ) (branch : Branch) : Type 0 where
  lnum : little_number 4 (drop place body) ≡ branch.lnum
  offs : little_number 4 (drop (place + 4) body) ≡ branch.offs
  len : little_number 4 (drop (place + 8) body) ≡ branch.len
  first : little_number 4 (drop (place + 12) body) ≡ (key_words branch.key).0
  second : little_number 4 (drop 4 (drop (place + 12) body)) ≡ (key_words branch.key).1

number_from : (a b : ℕ) (body : List ℕ) (value : ℕ) → a ≡ b → little_number 4 (drop a body) ≡ value → little_number 4 (drop b body) ≡ value
number_from a b body value e h = let P : ℕ → Type 0 = λ n. little_number 4 (drop n body) ≡ value in subst P e h

read-branch : (place : ℕ) (body : List ℕ) (branch : Branch) → Reads place (branch_fields branch) body → IsBranchAt place body branch
read-branch place body branch h =
    let words = key_words branch.key in
    let P : List ℕ → Type 0 = λ b. little_number 4 b ≡ words.1 in
    let last = number_from (place + 4 + 4 + 4 + 4) (place + 12 + 4) body words.1 (omega arith) h.1.1.1.1.0 in
    record {
      lnum = h.0;
      offs = h.1.0;
      len = number_from (place + 4 + 4) (place + 8) body branch.len (omega arith) h.1.1.0;
      first = number_from (place + 4 + 4 + 4) (place + 12) body words.0 (omega arith) h.1.1.1.0;
      second = subst P (sym (drop-drop 4 (place + 12) body)) last;
    }

branch-read : (place : ℕ) (body : List ℕ) (branch : Branch) → IsBranchAt place body branch → Reads place (branch_fields branch) body
branch-read place body branch h =
    let words = key_words branch.key in
    let P : List ℕ → Type 0 = λ b. little_number 4 b ≡ words.1 in
    let last = subst P (drop-drop 4 (place + 12) body) h.second in (
      h.lnum,
      (
        h.offs,
        (
          number_from (place + 8) (place + 4 + 4) body branch.len (omega arith) h.len,
          (
            number_from (place + 12) (place + 4 + 4 + 4) body words.0 (omega arith) h.first,
            (number_from (place + 12 + 4) (place + 4 + 4 + 4 + 4) body words.1 (omega arith) last, tt),
          ),
        ),
      ),
    )

pub width : (branch : Branch) → total_width (branch_fields branch) ≡ 20
width branch = refl

pub length-branches_at : (n place : ℕ) (body : List ℕ) → length (branches_at n place body) ≡ n
unfolding branches_at
length-branches_at zero place body = refl
length-branches_at (suc n) place body = ap suc (length-branches_at n (place + 20) body)

-- branches that stand in a body are read there, and their keys are found in order
record AreFound (branches : List Branch) (before : Option Key) (place : ℕ) (body : List ℕ) : Type 0 where
  read : branches_at (length branches) place body ≡ branches
  follow : keys_follow (length branches) before (place + 12) body ≡ true

found : (branches : List Branch) (before : Option Key) (place : ℕ) (body : List ℕ) → AllByRecursion (λ branch. IsKey branch.key) branches
    → in_order before branches ≡ true → Reads place (flat_map branch_fields branches) body → AreFound branches before place body
unfolding branch_at branches_at keys_follow
found [] before place body keys order h = record { read = refl; follow = refl }
found (branch ∷ rest) before place body keys order h =
    let parts = Reads-parts place (branch_fields branch) (flat_map branch_fields rest) body h in
    let at = read-branch place body branch parts.0 in
    let key : key_of (drop (place + 12) body) ≡ Some branch.key = key_of-words (drop (place + 12) body) branch.key keys.0 at.first at.second in
    let in_place = each (may_follow before branch.key) (in_order (Some branch.key) rest) order in
    let others = found rest (Some branch.key) (place + 20) body keys.1 in_place.1 parts.1 in
    let e : place + 12 + 20 ≡ place + 20 + 12 = omega arith in
    let lnum = at.lnum in
    let offs = at.offs in
    let len = at.len in
    let read = others.read in
    let follow = others.follow in
    let first = in_place.0 in
    record { read = rw (lnum, offs, len, key, read) refl; follow = rw (key, first, e, follow) refl }

-- keys that are found in order are those of the branches that are read
record AreRead (n : ℕ) (before : Option Key) (place : ℕ) (body : List ℕ) : Type 0 where
  keys : AllByRecursion (λ branch. IsKey branch.key) (branches_at n place body)
  order : in_order before (branches_at n place body) ≡ true
  read : Reads place (flat_map branch_fields (branches_at n place body)) body

some_of : (o : Option Key) → is_some o ≡ true → o ≡ Some (unwrap_or o (Ino 0))
some_of None h = absurd cc
some_of (Some key) h = refl

read_all : (n : ℕ) (before : Option Key) (place : ℕ) (body : List ℕ) → IsBytes body → place + 20 * n ≤ length body
    → keys_follow n before (place + 12) body ≡ true → AreRead n before place body
unfolding branch_at branches_at keys_follow
read_all zero before place body fits room h = record { keys = tt; order = refl; read = tt }
read_all (suc n) before place body fits room h =
    let back = drop (place + 12) body in
    let key = key_at (place + 12) body in
    let t0 = each (is_some (key_of back)) (may_follow before key && keys_follow n (Some key) (place + 12 + 20) body) h in
    let t1 = each (may_follow before key) (keys_follow n (Some key) (place + 12 + 20) body) t0.1 in
    let words = words-key_of back key (λ i. rw get_or-drop (fits (place + 12 + i))) (rw length-drop (omega arith)) (some_of (key_of back) t0.0) in
    let at : IsBranchAt place body (branch_at place body) = record { lnum = refl; offs = refl; len = refl; first = sym words.first_word; second = sym words.second_word } in
    let P : ℕ → Type 0 = λ p. keys_follow n (Some key) p body ≡ true in
    let e : place + 12 + 20 ≡ place + 20 + 12 = omega arith in
    let others = read_all n (Some key) (place + 20) body fits (omega arith) (subst P e t1.1) in
    let first = t1.0 in
    let order = others.order in
    record {
      keys = (words.fits, others.keys);
      order = rw (first, order) refl;
      read = Reads-append place (branch_fields (branch_at place body)) (flat_map branch_fields (branches_at n (place + 20) body)) body (branch-read place body (branch_at place body) at) others.read;
    }

takes : (kind : ℕ) (body : List ℕ) (node : Index) → IsBody system_form kind body (index node) → (is_index kind body ≡ true) × (index_at body ≡ node)
unfolding is_index index_at
takes kind body node h =
    let count = length node.branches in
    let back = reads_back 0 (index_fields node) [] body (omega arith) h.spelled in
    let n = back.numbers in
    let some = h.is.some in
    let most = h.is.most in
    let there = found node.branches None 4 body h.is.keys h.is.order n.1.1 in
    let wide : total_width (flat_map branch_fields node.branches) ≡ 20 * count = total_width-flat_map branch_fields 20 node.branches width in
    let whole : length body ≡ total_width (index_fields node) + 0 = length-read (index_fields node) [] body back in
    let long : length body ≡ 4 + 20 * count = omega (arith, whole, wide) in
    let number : little_number 2 body ≡ count = n.0 in
    let level : little_number 2 (drop 2 body) ≡ node.level = n.1.0 in
    let t0 : (kind == 9) ≡ true = eq-eqb kind 9 h.kind_is in
    let t1 : nat_le 4 (length body) ≡ true = le-leb 4 (length body) (omega (arith, long)) in
    let t2 : nat_le 1 count ≡ true = le-leb 1 count some in
    let t3 : nat_le count 256 ≡ true = le-leb count 256 most in
    let t4 : (length body == 4 + 20 * count) ≡ true = eq-eqb (length body) (4 + 20 * count) long in
    let follow = there.follow in
    let read = there.read in
    (rw (number, t0, t1, t2, t3, t4, follow) refl, rw (number, level, read) refl)

gives : (kind : ℕ) (body : List ℕ) → IsBytes body → is_index kind body ≡ true → IsBody system_form kind body (index (index_at body))
unfolding is_index index_at
gives kind body fits h =
    let count = little_number 2 body in
    let follow = keys_follow count None 16 body in
    let t0 = each (kind == 9) (nat_le 4 (length body) && (nat_le 1 count && (nat_le count 256 && (length body == 4 + 20 * count && follow)))) h in
    let t1 = each (nat_le 4 (length body)) (nat_le 1 count && (nat_le count 256 && (length body == 4 + 20 * count && follow))) t0.1 in
    let t2 = each (nat_le 1 count) (nat_le count 256 && (length body == 4 + 20 * count && follow)) t1.1 in
    let t3 = each (nat_le count 256) (length body == 4 + 20 * count && follow) t2.1 in
    let t4 = each (length body == 4 + 20 * count) follow t3.1 in
    let some : 1 ≤ count = leb-true 1 count t2.0 in
    let most : count ≤ 256 = leb-true count 256 t3.0 in
    let long : length body ≡ 4 + 20 * count = eqb-true (length body) (4 + 20 * count) t4.0 in
    let branches = branches_at count 4 body in
    let number : length branches ≡ count = length-branches_at count 4 body in
    let there = read_all count None 4 body fits (omega (arith, long)) t4.1 in
    let wide : total_width (flat_map branch_fields branches) ≡ 20 * length branches = total_width-flat_map branch_fields 20 branches width in
    let whole : length body ≡ total_width (index_fields (index_at body)) = omega (arith, long, wide, number) in
    record {
      kind_is = eqb-true kind 9 t0.0;
      spelled = all_spelled (index_fields (index_at body)) body fits whole (sym number, (refl, there.read));
      is = record { some = omega (arith, some, number); most = omega (arith, most, number); keys = there.keys; order = there.order };
    }

pub index_test : IsTest system_form index is_index index_at
index_test = record { takes = takes; gives = gives }
