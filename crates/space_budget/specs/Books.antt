-- The numbers of a store, what it has granted, and what each step makes of them.
use Rattle.std.specs.Prelude.{◌≡◌, ℕ, ◌+◌, ◌-◌, ◌<◌, ◌≤◌, Option, Some, None}
use Rattle.ubifs_base.specs.declared.raw_geometry.RawGeometry.{RawGeometry}
use Rattle.fs_model.specs.declared.refusal.NoSpace.{NoSpace}
use Rattle.fs_model.specs.declared.space.Space.{Space}
use Rattle.fs_model.specs.declared.space.Need.{Need}
use Rattle.fs_model.specs.declared.space.Grant.{Grant}
use Rattle.fs_model.specs.declared.space.Class.TheVariants.{Removal}
use Rattle.fs_model.specs.Cover.{credit_bytes, needed, room_for}
use Rattle.fs_model.specs.Settled.{nothing}
use Rattle.space_sums.specs.Spaces.{HasRoom, with_credits}

-- a store's numbers, and what is granted to the next group, if anything is
pub record BookState : Type 0 where
  pub geo : RawGeometry
  pub space : Space
  pub grant : Option Grant

-- what the next group may take
abbrev pub next_group_need : Option Grant → Need
next_group_need None = nothing
next_group_need (Some grant) = record { credits = 0; bytes = grant.bytes; nodes = grant.nodes; class = Removal }

-- there is room for all that was granted: a page for each credit, and the next group
pub record AreGrantsCovered (book : BookState) : Type 0 where
  pub room : HasRoom book.geo book.space (next_group_need book.grant)

-- the two sides of the admission test
pub record IsNeedRefused (book : BookState) (need : Need) (sides : NoSpace) : Type 0 where
  pub need_is : sides.need ≡ needed book.space need
  pub room_is : sides.room ≡ room_for book.geo book.space need

-- a credit is there, and pays for what a page made of the numbers
pub record IsPaidByCredit (space : Space) (used held nodes : ℕ) : Type 0 where
  pub credit : 0 < space.credits
  pub bytes_paid : used + held ≤ space.used + space.held + credit_bytes
  pub nodes_paid : nodes ≤ 2

-- a grant is there, and pays for what a group made of the numbers
pub record IsPaidByGrant (book : BookState) (used held nodes : ℕ) : Type 0 where
  pub grant : Grant
  pub is : book.grant ≡ Some grant
  pub bytes_paid : used + held ≤ book.space.used + book.space.held + grant.bytes
  pub nodes_paid : nodes ≤ grant.nodes

-- a need was admitted
abbrev pub after_admission : BookState → Need → BookState
after_admission book need = record book { space = with_credits need.credits book.space; grant = Some (record { bytes = need.bytes; nodes = need.nodes }) }

-- credits were given back
abbrev pub after_return : BookState → ℕ → BookState
after_return book credits = record book { space = record book.space { credits = book.space.credits - credits } }

-- a page was put
abbrev pub after_page : BookState → ℕ → ℕ → ℕ → BookState
after_page book used held nodes = record book {
  space = record book.space { used = used; held = held; credits = book.space.credits - 1; weight = book.space.weight + nodes };
}

-- a group was put
abbrev pub after_group : BookState → ℕ → ℕ → ℕ → BookState
after_group book used held nodes = record book { space = record book.space { used = used; held = held; weight = book.space.weight + nodes }; grant = None }

-- leaves were dropped or moved, or LEBs opened or emptied
abbrev pub after_move : BookState → ℕ → ℕ → ℕ → BookState
after_move book used held empty = record book { space = record book.space { used = used; held = held; empty = empty } }

-- all was synced
abbrev pub after_sync : BookState → BookState
after_sync book = record book { space = record book.space { held = 0 } }

-- a commit has ended
abbrev pub after_commit : BookState → ℕ → ℕ → ℕ → BookState
after_commit book weight index empty = record book { space = record book.space { weight = weight; index = index; empty = empty } }
