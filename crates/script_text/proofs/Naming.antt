-- The words for operations tell them apart.
use Rattle.std.proofs.Common.{◌≡◌, ℕ, eqb, List, [], ◌∷◌, ◌++◌, Option, Some, None, sym, refl, ap, ◌∙◌, subst, inl, inr, arith}
use Rattle.std.specs.Prelude.{IfNone, codes, if◌then◌else◌}
use Rattle.std.specs.Cmp.Lexicographic.{pointwise}
use Rattle.fs_model.specs.declared.op.Op.{Op}
use Rattle.fs_model.specs.declared.op.Op.TheVariants.{Create, Mkdir, Symlink, Link, Unlink, Rmdir, Rename, OpenFile, Close, Read, Write, Truncate, Fsync, Flush, List as Listing, Stat, Readlink, Chmod}
use Rattle.script_text.specs.declared.verb.Verb.{Verb}
use Rattle.script_text.specs.declared.verb.Verb.TheVariants as verbs
use Rattle.script_text.specs.Script.{op_name, op_words}
use Rattle.script_text.specs.Verbs.{verb_name, SaysOperation}
use Rattle.script_text.specs.Words.{AreSpacedWords, Fixed, Number, Mode, Path, Target, Lacks}
use Rattle.script_text.proofs.Cutting.{cut_once, not_cut}
use Rattle.script_text.proofs.Sentences.{Tight, tight_of, tight_lacks, named}

-- the operation of a word
abbrev known : List ℕ → Option Verb
known name =
    if pointwise eqb name (codes "create") then Some verbs.Create else
    if pointwise eqb name (codes "mkdir") then Some verbs.Mkdir else
    if pointwise eqb name (codes "symlink") then Some verbs.Symlink else
    if pointwise eqb name (codes "link") then Some verbs.Link else
    if pointwise eqb name (codes "unlink") then Some verbs.Unlink else
    if pointwise eqb name (codes "rmdir") then Some verbs.Rmdir else
    if pointwise eqb name (codes "rename") then Some verbs.Rename else
    if pointwise eqb name (codes "open") then Some verbs.Open else
    if pointwise eqb name (codes "close") then Some verbs.Close else
    if pointwise eqb name (codes "read") then Some verbs.Read else
    if pointwise eqb name (codes "write") then Some verbs.Write else
    if pointwise eqb name (codes "truncate") then Some verbs.Truncate else
    if pointwise eqb name (codes "fsync") then Some verbs.Fsync else
    if pointwise eqb name (codes "list") then Some verbs.List else
    if pointwise eqb name (codes "stat") then Some verbs.Stat else
    if pointwise eqb name (codes "readlink") then Some verbs.Readlink else
    if pointwise eqb name (codes "chmod") then Some verbs.Chmod else
    None

-- the word of an operation
abbrev pub op_verb : Op → Option Verb
op_verb (Create path mode) = Some verbs.Create
op_verb (Mkdir path mode) = Some verbs.Mkdir
op_verb (Symlink path target) = Some verbs.Symlink
op_verb (Link old new) = Some verbs.Link
op_verb (Unlink path) = Some verbs.Unlink
op_verb (Rmdir path) = Some verbs.Rmdir
op_verb (Rename old new) = Some verbs.Rename
op_verb (OpenFile path slot) = Some verbs.Open
op_verb (Close slot) = Some verbs.Close
op_verb (Read slot offs len) = Some verbs.Read
op_verb (Write slot offs len byte) = Some verbs.Write
op_verb (Truncate slot size) = Some verbs.Truncate
op_verb (Fsync slot) = Some verbs.Fsync
op_verb (Listing path) = Some verbs.List
op_verb (Stat path) = Some verbs.Stat
op_verb (Readlink path) = Some verbs.Readlink
op_verb (Chmod path mode) = Some verbs.Chmod
op_verb Flush = None

known_verb : (verb : Verb) → known (verb_name verb) ≡ Some verb
known_verb verbs.Create = refl
known_verb verbs.Mkdir = refl
known_verb verbs.Symlink = refl
known_verb verbs.Link = refl
known_verb verbs.Unlink = refl
known_verb verbs.Rmdir = refl
known_verb verbs.Rename = refl
known_verb verbs.Open = refl
known_verb verbs.Close = refl
known_verb verbs.Read = refl
known_verb verbs.Write = refl
known_verb verbs.Truncate = refl
known_verb verbs.Fsync = refl
known_verb verbs.List = refl
known_verb verbs.Stat = refl
known_verb verbs.Readlink = refl
known_verb verbs.Chmod = refl

known_op : (op : Op) → known (op_name op) ≡ op_verb op
known_op (Create path mode) = refl
known_op (Mkdir path mode) = refl
known_op (Symlink path target) = refl
known_op (Link old new) = refl
known_op (Unlink path) = refl
known_op (Rmdir path) = refl
known_op (Rename old new) = refl
known_op (OpenFile path slot) = refl
known_op (Close slot) = refl
known_op (Read slot offs len) = refl
known_op (Write slot offs len byte) = refl
known_op (Fsync slot) = refl
known_op (Listing path) = refl
known_op (Stat path) = refl
known_op (Readlink path) = refl
known_op (Chmod path mode) = refl
known_op Flush = refl
known_op (Truncate slot size) = refl

-- an operation that has a word is of it
pub of_verb : (op : Op) (verb : Verb) → op_name op ≡ verb_name verb → op_verb op ≡ Some verb
of_verb op verb e = sym (known_op op) ∙ (ap known e ∙ known_verb verb)

pub tight_name : (op : Op) → Tight (op_name op)
tight_name (Create path mode) = tight_of (codes "create") refl
tight_name (Mkdir path mode) = tight_of (codes "mkdir") refl
tight_name (Symlink path target) = tight_of (codes "symlink") refl
tight_name (Link old new) = tight_of (codes "link") refl
tight_name (Unlink path) = tight_of (codes "unlink") refl
tight_name (Rmdir path) = tight_of (codes "rmdir") refl
tight_name (Rename old new) = tight_of (codes "rename") refl
tight_name (OpenFile path slot) = tight_of (codes "open") refl
tight_name (Close slot) = tight_of (codes "close") refl
tight_name (Read slot offs len) = tight_of (codes "read") refl
tight_name (Write slot offs len byte) = tight_of (codes "write") refl
tight_name (Fsync slot) = tight_of (codes "fsync") refl
tight_name (Listing path) = tight_of (codes "list") refl
tight_name (Stat path) = tight_of (codes "stat") refl
tight_name (Readlink path) = tight_of (codes "readlink") refl
tight_name (Chmod path mode) = tight_of (codes "chmod") refl
tight_name Flush = tight_of (codes "flush") refl
tight_name (Truncate slot size) = tight_of (codes "truncate") refl

-- an operation whose words are there has a word of its own
pub verb_there : (op : Op) (rest : List ℕ) → (op_words op ≡ [] → ⊥) → AreSpacedWords (op_words op) rest → (verb : Verb) × (op_name op ≡ verb_name verb)
verb_there (Create path mode) rest some h = (verbs.Create, refl)
verb_there (Mkdir path mode) rest some h = (verbs.Mkdir, refl)
verb_there (Symlink path target) rest some h = (verbs.Symlink, refl)
verb_there (Link old new) rest some h = (verbs.Link, refl)
verb_there (Unlink path) rest some h = (verbs.Unlink, refl)
verb_there (Rmdir path) rest some h = (verbs.Rmdir, refl)
verb_there (Rename old new) rest some h = (verbs.Rename, refl)
verb_there (OpenFile path slot) rest some h = (verbs.Open, refl)
verb_there (Close slot) rest some h = (verbs.Close, refl)
verb_there (Read slot offs len) rest some h = (verbs.Read, refl)
verb_there (Write slot offs len byte) rest some h = (verbs.Write, refl)
verb_there (Truncate slot size) rest some h = (verbs.Truncate, refl)
verb_there (Fsync slot) rest some h = (verbs.Fsync, refl)
verb_there (Listing path) rest some h = (verbs.List, refl)
verb_there (Stat path) rest some h = (verbs.Stat, refl)
verb_there (Readlink path) rest some h = (verbs.Readlink, refl)
verb_there (Chmod path mode) rest some h = (verbs.Chmod, refl)
verb_there Flush rest some h = absurd (some refl)

pub create_none : (text : List ℕ) → ((path : List ℕ) (mode : ℕ) → AreSpacedWords (Path path ∷ Mode mode ∷ []) text → ⊥) → (op : Op) → op_verb op ≡ Some verbs.Create → AreSpacedWords (op_words op) text → ⊥
create_none text none (Create path mode) e h = none path mode h
create_none text none op e h = absurd cc

pub mkdir_none : (text : List ℕ) → ((path : List ℕ) (mode : ℕ) → AreSpacedWords (Path path ∷ Mode mode ∷ []) text → ⊥) → (op : Op) → op_verb op ≡ Some verbs.Mkdir → AreSpacedWords (op_words op) text → ⊥
mkdir_none text none (Mkdir path mode) e h = none path mode h
mkdir_none text none op e h = absurd cc

pub symlink_none : (text : List ℕ) → ((path : List ℕ) (target : List ℕ) → AreSpacedWords (Path path ∷ Target target ∷ []) text → ⊥) → (op : Op) → op_verb op ≡ Some verbs.Symlink → AreSpacedWords (op_words op) text → ⊥
symlink_none text none (Symlink path target) e h = none path target h
symlink_none text none op e h = absurd cc

pub link_none : (text : List ℕ) → ((old : List ℕ) (new : List ℕ) → AreSpacedWords (Path old ∷ Path new ∷ []) text → ⊥) → (op : Op) → op_verb op ≡ Some verbs.Link → AreSpacedWords (op_words op) text → ⊥
link_none text none (Link old new) e h = none old new h
link_none text none op e h = absurd cc

pub rename_none : (text : List ℕ) → ((old : List ℕ) (new : List ℕ) → AreSpacedWords (Path old ∷ Path new ∷ []) text → ⊥) → (op : Op) → op_verb op ≡ Some verbs.Rename → AreSpacedWords (op_words op) text → ⊥
rename_none text none (Rename old new) e h = none old new h
rename_none text none op e h = absurd cc

pub open_none : (text : List ℕ) → ((path : List ℕ) (slot : ℕ) → AreSpacedWords (Path path ∷ Number 8 slot ∷ []) text → ⊥) → (op : Op) → op_verb op ≡ Some verbs.Open → AreSpacedWords (op_words op) text → ⊥
open_none text none (OpenFile path slot) e h = none path slot h
open_none text none op e h = absurd cc

pub read_none : (text : List ℕ) → ((slot : ℕ) (offs : ℕ) (len : ℕ) → AreSpacedWords (Number 8 slot ∷ Number 64 offs ∷ Number 32 len ∷ []) text → ⊥) → (op : Op) → op_verb op ≡ Some verbs.Read → AreSpacedWords (op_words op) text → ⊥
read_none text none (Read slot offs len) e h = none slot offs len h
read_none text none op e h = absurd cc

pub write_none : (text : List ℕ) → ((slot : ℕ) (offs : ℕ) (len : ℕ) (byte : ℕ) → AreSpacedWords (Number 8 slot ∷ Number 64 offs ∷ Number 32 len ∷ Number 8 byte ∷ []) text → ⊥) → (op : Op) → op_verb op ≡ Some verbs.Write → AreSpacedWords (op_words op) text → ⊥
write_none text none (Write slot offs len byte) e h = none slot offs len byte h
write_none text none op e h = absurd cc

pub truncate_none : (text : List ℕ) → ((slot : ℕ) (size : ℕ) → AreSpacedWords (Number 8 slot ∷ Number 64 size ∷ []) text → ⊥) → (op : Op) → op_verb op ≡ Some verbs.Truncate → AreSpacedWords (op_words op) text → ⊥
truncate_none text none (Truncate slot size) e h = none slot size h
truncate_none text none op e h = absurd cc

pub chmod_none : (text : List ℕ) → ((path : List ℕ) (mode : ℕ) → AreSpacedWords (Path path ∷ Mode mode ∷ []) text → ⊥) → (op : Op) → op_verb op ≡ Some verbs.Chmod → AreSpacedWords (op_words op) text → ⊥
chmod_none text none (Chmod path mode) e h = none path mode h
chmod_none text none op e h = absurd cc

-- what stands before the first space is the operation's word
pub name_is : (text name rest : List ℕ) → Lacks 32 name → text ≡ name ++ (32 ∷ rest) → (op : Op) → AreSpacedWords (Fixed (op_name op) ∷ op_words op) text
    → (op_words op ≡ [] → ⊥) × (name ≡ op_name op) × AreSpacedWords (op_words op) rest
name_is text name rest lacks e op h = elim (named (op_name op) (op_words op) text h) [
  | inl alone ↦ absurd (not_cut 32 (op_name op) name rest (tight_lacks 32 (op_name op) (omega arith) (tight_name op)) (sym alone.1 ∙ e))
  | inr follows ↦
      let p = cut_once 32 name rest (op_name op) follows.rest lacks (tight_lacks 32 (op_name op) (omega arith) (tight_name op)) (sym e ∙ follows.text) in
      let P : List ℕ → Type 0 = λ t. AreSpacedWords (op_words op) t in
      (follows.some, p.0, subst P (sym p.1) follows.words)
]

pub verb_none : (text name rest : List ℕ) → Lacks 32 name → text ≡ name ++ (32 ∷ rest) → ((verb : Verb) → name ≡ verb_name verb → ⊥) → (op : Op) → AreSpacedWords (Fixed (op_name op) ∷ op_words op) text → ⊥
verb_none text name rest lacks e none op h =
    let n = name_is text name rest lacks e op h in
    let v = verb_there op rest n.0 n.2 in none v.0 (n.1 ∙ v.1)

pub words_none : (text name rest : List ℕ) (verb : Verb) → Lacks 32 name → text ≡ name ++ (32 ∷ rest) → name ≡ verb_name verb → ((op : Op) → SaysOperation verb op rest → ⊥) → (op : Op) → AreSpacedWords (Fixed (op_name op) ∷ op_words op) text → ⊥
words_none text name rest verb lacks e is none op h =
    let n = name_is text name rest lacks e op h in none op (sym n.1 ∙ is, n.2)

pub if_none : {X : Type 0} (A B : Type 0) (found : Option X) → (A → B) → IfNone found A → IfNone found B
if_none A B None f h = f h
if_none A B (Some x) f h = tt
