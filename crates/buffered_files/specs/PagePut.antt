-- What the put of one dirty page does.
use Rattle.std.specs.Prelude.{ℕ, Option, None, Result, OnOk, OnErr, length}
use Rattle.std.specs.BTreeMap.{is_at}
use Rattle.std.specs.Map.{lookup}
use Rattle.std.specs.Option.{option_map, option_map_or}
use Rattle.std.specs.Ordering.{nat_cmp}
use Rattle.fs_model.specs.declared.backing_answers.StoreFault.{StoreFault}
use Rattle.fs_model.specs.declared.page_node.PageNode.{PageNode}
use Rattle.fs_model.specs.Backing.{BackingState, Goes, HasMode, IsPagePut, KeepsFiles, page_group, page_puts, put_by}
use Rattle.fs_model.specs.Journal.{Leaves}
use Rattle.page_cache.specs.Pages.{dirty_at}
use Rattle.buffered_files.specs.declared.kept.Kept.{Kept}
use Rattle.buffered_files.specs.Present.{page_of}

-- the dirty page of a block as it is put now, where there is one
abbrev pub page_at : Kept → ℕ → ℕ → Option PageNode
page_at kept ino block = option_map_or (λ dirty. option_map (page_of ((ino, block), dirty)) (lookup (is_at (nat_cmp ino)) kept.inodes)) (dirty_at kept.pages ino block) None

-- The page was put. Or the files are as they were, since the backing is read-only, its volume failed, or memory ran out. A cut then leaves the page's two nodes, or some of them, unless nothing was put: then the index is no heavier.
pub record IsPutOrKept {T : Type 0} (old new : BackingState) (page : PageNode) (result : Result T StoreFault) : Type 0 where
  pub done : OnOk result (IsPagePut old new page)
  pub files : OnErr result (KeepsFiles old new)
  pub mode : HasMode old.mode result
  pub goes : Goes (length (put_by result (page_group page))) old new
  pub cut : Leaves old.journal new.journal (put_by result (page_puts page))
