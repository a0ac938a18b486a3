-- Paths: `/`, or components each after a slash.
use Rattle.std.specs.Prelude.{ℕ, Bool, true, false, ◌&&◌, ◌||◌, ◌==◌, not, nat_lt, if◌then◌else◌, Option, Some, None, Result, Ok, Err, List, [], ◌∷◌, length}
use Rattle.std.specs.List.{list_any}
use Rattle.std.specs.Ordering.{nat_cmp}
use Rattle.std.specs.Cmp.Lexicographic.{slice_cmp}
use Rattle.std.specs.BTreeMap.{is_at}
use Rattle.fs_model.specs.declared.inode.Entry.{Entry}
use Rattle.fs_model.specs.declared.inode.Kind.{Kind}
use Rattle.fs_model.specs.declared.inode.Kind.TheVariants.{Dir, File}
use Rattle.fs_model.specs.declared.refusal.Refusal.{Refusal}
use Rattle.fs_model.specs.declared.refusal.Refusal.TheVariants.{Enoent, Enotdir}
use Rattle.fs_model.specs.Files.{Tree, entry_at}

abbrev pub with_first : ℕ → List (List ℕ) → List (List ℕ)
with_first byte [] = (byte ∷ []) ∷ []
with_first byte (part ∷ parts) = (byte ∷ part) ∷ parts

-- what stands between the slashes
abbrev pub between_slashes : List ℕ → List (List ℕ)
between_slashes [] = [] ∷ []
between_slashes (byte ∷ bytes) = if byte == 47 then [] ∷ between_slashes bytes else with_first byte (between_slashes bytes)

-- the components, of which `/` has none
abbrev pub components : List ℕ → List (List ℕ)
components [] = []
components (slash ∷ []) = []
components (slash ∷ byte ∷ bytes) = between_slashes (byte ∷ bytes)

abbrev pub is_empty : {A : Type 0} → List A → Bool
is_empty [] = true
is_empty (x ∷ xs) = false

-- whether it begins with a slash
abbrev pub is_absolute : List ℕ → Bool
is_absolute [] = false
is_absolute (byte ∷ bytes) = byte == 47

-- `.` or `..`
abbrev pub is_dots : List ℕ → Bool
is_dots [] = false
is_dots (a ∷ []) = a == 46
is_dots (a ∷ b ∷ []) = (a == 46) && (b == 46)
is_dots (a ∷ b ∷ c ∷ bytes) = false

-- whether two names are one
abbrev pub is_same_name : List ℕ → List ℕ → Bool
is_same_name a b = is_at (slice_cmp nat_cmp a) b

-- A path that an operation takes: no empty component, none that is `.` or `..`, and no zero byte.
abbrev pub is_path : List ℕ → Bool
is_path path = is_absolute path && not (list_any (λ b. b == 0) path) && not (list_any (λ c. is_empty c || is_dots c) (components path))

-- a component of more than 255 bytes
abbrev pub has_long_name : List ℕ → Bool
has_long_name path = list_any (λ c. nat_lt 255 (length c)) (components path)

-- the entry that `/` stands for
abbrev pub root_entry : Entry
root_entry = record { dir = 1; name = []; ino = 1; kind = Dir }

abbrev pub is_dir : Kind → Bool
is_dir Dir = true
is_dir kind = false

abbrev pub is_file : Kind → Bool
is_file File = true
is_file kind = false

abbrev pub is_root : List ℕ → Bool
is_root path = is_empty (components path)

abbrev pub or_missing : Option Entry → Result Entry Refusal
or_missing None = Err Enoent
or_missing (Some entry) = Ok entry

-- one component further, below a directory
abbrev pub child : Tree → List ℕ → Result Entry Refusal → Result Entry Refusal
child tree name (Err e) = Err e
child tree name (Ok at) = if is_dir at.kind then or_missing (entry_at tree at.ino name) else Err Enotdir

-- the entry that the components lead to, each in the directory before it
abbrev pub reached : Tree → Result Entry Refusal → List (List ℕ) → Result Entry Refusal
reached tree at [] = at
reached tree at (name ∷ names) = reached tree (child tree name at) names

-- the entry that a path names
abbrev pub walked : Tree → List ℕ → Result Entry Refusal
walked tree path = reached tree (Ok root_entry) (components path)

-- all but the last
abbrev pub front_of : List (List ℕ) → List (List ℕ)
front_of [] = []
front_of (x ∷ []) = []
front_of (x ∷ y ∷ rest) = x ∷ front_of (y ∷ rest)

-- the last, of those that there are
abbrev pub last_of : List (List ℕ) → List ℕ
last_of [] = []
last_of (x ∷ []) = x
last_of (x ∷ y ∷ rest) = last_of (y ∷ rest)

abbrev pub only_dir : Result Entry Refusal → Result Entry Refusal
only_dir (Err e) = Err e
only_dir (Ok at) = if is_dir at.kind then Ok at else Err Enotdir

-- the directory in which a path's last component stands
abbrev pub parent_of : Tree → List ℕ → Result Entry Refusal
parent_of tree path = only_dir (reached tree (Ok root_entry) (front_of (components path)))
