use Rattle.std.proofs.Common.{◌≡◌}
use Rattle.std.specs.List.{list_any}
use Rattle.page_cache.specs.Pages.{is_cut}
use Rattle.page_cache.proofs.page_list.PageList.is_any_within.Given as goal

-- whether one is among those that are left
abbrev pub invariant-loop-name : goal.invariant-loop-name
invariant-loop-name g l = list_any (λ e. is_cut l.ino l.from e.0) l.name-iterator ≡ list_any (λ e. is_cut l.ino l.from e.0) l.self.entries
