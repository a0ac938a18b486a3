-- What the index node says that stands where a branch leads: it is read from the bytes there.
use Rattle.std.proofs.Common.{◌≡◌, ℕ, zero, suc, ◌+◌, ◌*◌, ◌/◌, ◌%◌, ◌^◌, ◌<◌, ◌≤◌, List, [], ◌∷◌, ◌++◌, length, take, drop, Some, refl, ap, sym, ◌∙◌, subst, arith, drop-drop}
use Rattle.std.specs.List.{flat_map, AllByRecursion}
use Rattle.byteorder.specs.Endian.{little_number}
use Rattle.ubifs_base.specs.Key.{IsKey, key_from, key_of, key_words}
use Rattle.ubifs_base.specs.Node.{IsNode, node_bytes}
use Rattle.ubifs_base.specs.declared.key.Key.{Key}
use Rattle.ubifs_base.specs.declared.key.Key.TheVariants.{Ino, Block, Dent, Xent}
use Rattle.node_fields.specs.Fields.{Field, number, ignored, Reads, total_width}
use Rattle.node_fields.specs.FieldLaws.{reads_back}
use Rattle.media_sys.specs.Index.{Index, branch_at, branch_fields, branches_at, index_at, index_fields}
use Rattle.media_sys.specs.SystemNode.{IsSystemNode, index, type_of}
use Rattle.media_sys.specs.declared.branch.Branch.{Branch}
use Rattle.index_media.specs.Stored.{IsIndexNodeAt}

-- what stands where a branch leads, read as an index node behind a header of 24 bytes
abbrev pub node_said_at : (ℕ → List ℕ) → Branch → Index
node_said_at contents branch = index_at (drop 24 (take branch.len (drop branch.offs (contents branch.lnum))))

-- ---- keys
key_from-words : (key : Key) → IsKey key → key_from (key_words key).0 (key_words key).1 ≡ Some key
key_from-words (Ino ino) h = refl
key_from-words (Block ino block) h =
    let kind : (1 * 2 ^ 29 + block) / 2 ^ 29 ≡ 1 = omega (arith, h.1) in
    let value : (1 * 2 ^ 29 + block) % 2 ^ 29 ≡ block = omega (arith, h.1) in
    rw (kind, value) refl
key_from-words (Dent dir hash) h =
    let kind : (2 * 2 ^ 29 + hash) / 2 ^ 29 ≡ 2 = omega (arith, h.1) in
    let value : (2 * 2 ^ 29 + hash) % 2 ^ 29 ≡ hash = omega (arith, h.1) in
    rw (kind, value) refl
key_from-words (Xent ino hash) h =
    let kind : (3 * 2 ^ 29 + hash) / 2 ^ 29 ≡ 3 = omega (arith, h.1) in
    let value : (3 * 2 ^ 29 + hash) % 2 ^ 29 ≡ hash = omega (arith, h.1) in
    rw (kind, value) refl

key_there : (bytes : List ℕ) (key : Key) → IsKey key → little_number 4 bytes ≡ (key_words key).0 → little_number 4 (drop 4 bytes) ≡ (key_words key).1 → key_of bytes ≡ Some key
unfolding key_of
key_there bytes key h first second = rw (first, second) (key_from-words key h)

-- ---- branches
reads_behind : (place : ℕ) (f g : List Field) (bytes : List ℕ) → Reads place (f ++ g) bytes → Reads place f bytes × Reads (place + total_width f) g bytes
reads_behind place [] g bytes h = (tt, let P : ℕ → Type 0 = λ n. Reads n g bytes in let e : place ≡ place + 0 = omega arith in subst P e h)
reads_behind place (number width value ∷ f) g bytes h =
    let P : ℕ → Type 0 = λ n. Reads n g bytes in
    let e : place + width + total_width f ≡ place + (width + total_width f) = omega arith in
    let rest = reads_behind (place + width) f g bytes h.1 in
    ((h.0, rest.0), subst P e rest.1)
reads_behind place (ignored width ∷ f) g bytes h =
    let P : ℕ → Type 0 = λ n. Reads n g bytes in
    let e : place + width + total_width f ≡ place + (width + total_width f) = omega arith in
    let rest = reads_behind (place + width) f g bytes h in
    (rest.0, subst P e rest.1)

number_from : (a b : ℕ) (body : List ℕ) (value : ℕ) → a ≡ b → little_number 4 (drop a body) ≡ value → little_number 4 (drop b body) ≡ value
number_from a b body value e h = let P : ℕ → Type 0 = λ n. little_number 4 (drop n body) ≡ value in subst P e h

branch_there : (place : ℕ) (body : List ℕ) (branch : Branch) → IsKey branch.key → Reads place (branch_fields branch) body → branch_at place body ≡ branch
unfolding branch_at
branch_there place body branch key h =
    let words = key_words branch.key in
    let lnum = h.0 in
    let offs = h.1.0 in
    let len = number_from (place + 4 + 4) (place + 8) body branch.len (omega arith) h.1.1.0 in
    let first = number_from (place + 4 + 4 + 4) (place + 12) body words.0 (omega arith) h.1.1.1.0 in
    let P : List ℕ → Type 0 = λ b. little_number 4 b ≡ words.1 in
    let second = subst P (sym (drop-drop 4 (place + 12) body)) (number_from (place + 4 + 4 + 4 + 4) (place + 12 + 4) body words.1 (omega arith) h.1.1.1.1.0) in
    let own = key_there (drop (place + 12) body) branch.key key first second in
    rw (lnum, offs, len, own) refl

branches_there : (branches : List Branch) (place : ℕ) (body : List ℕ) → AllByRecursion (λ branch. IsKey branch.key) branches → Reads place (flat_map branch_fields branches) body
    → branches_at (length branches) place body ≡ branches
unfolding branches_at
branches_there [] place body keys h = refl
branches_there (branch ∷ rest) place body keys h =
    let parts = reads_behind place (branch_fields branch) (flat_map branch_fields rest) body h in
    let own = branch_there place body branch keys.0 parts.0 in
    let others = branches_there rest (place + 20) body keys.1 parts.1 in
    rw (own, others) refl

-- ---- a node
padded_body : (sqnum kind group : ℕ) (padding body : List ℕ) → length padding ≡ 2 → drop 24 (node_bytes sqnum kind group padding body) ≡ body
unfolding node_bytes
padded_body sqnum kind group [] body two = absurd (omega (arith, two))
padded_body sqnum kind group (a ∷ []) body two = absurd (omega (arith, two))
padded_body sqnum kind group (a ∷ b ∷ []) body two = refl
padded_body sqnum kind group (a ∷ b ∷ c ∷ more) body two = absurd (omega (arith, two))

body_behind : (bytes body : List ℕ) (sqnum kind group : ℕ) → IsNode bytes sqnum kind group body → drop 24 bytes ≡ body
body_behind bytes body sqnum kind group h = ap (drop 24) h.spelled ∙ padded_body sqnum kind group h.padding body h.two

-- the bytes of an index node say what it says, whatever the ignored ones are
pub bytes_say : (bytes : List ℕ) (sqnum group : ℕ) (said : Index) → IsSystemNode bytes sqnum group (index said) → index_at (drop 24 bytes) ≡ said
unfolding index_at
bytes_say bytes sqnum group said h =
    let body = h.body in
    let back = reads_back 0 (index_fields said) [] body (omega arith) h.spelled in
    let n = back.numbers in
    let number : little_number 2 body ≡ length said.branches = n.0 in
    let level : little_number 2 (drop 2 body) ≡ said.level = n.1.0 in
    let branches = branches_there said.branches 4 body h.is.keys n.1.1 in
    let whole : drop 24 bytes ≡ body = body_behind bytes body sqnum (type_of (index said)) group h.framed in
    rw (whole, number, level, branches) refl

-- so what a branch leads to is determined by the contents
pub node_said_told : (contents : ℕ → List ℕ) (branch : Branch) (said : Index) → IsIndexNodeAt contents branch said → node_said_at contents branch ≡ said
node_said_told contents branch said h = bytes_say (take branch.len (drop branch.offs (contents branch.lnum))) h.sqnum h.group said h.is
