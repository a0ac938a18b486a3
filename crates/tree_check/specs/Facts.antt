-- What the tree that leaves show says of inode numbers, and what is out of its place by it.
use Rattle.std.specs.Prelude.{◌≡◌, ℕ, ◌==◌, ◌&&◌, ◌||◌, not, Bool, false, List, Option}
use Rattle.std.specs.Option.{option_map_or}
use Rattle.fs_model.specs.Path.{is_dir}
use Rattle.fs_model.specs.Proper.{same_kind}
use Rattle.fs_model.specs.declared.inode.Kind.{Kind}
use Rattle.fs_model.specs.declared.inode.Kind.TheVariants.{Dir}
use Rattle.tree_check.specs.declared.facts.TreeFacts.{TreeFacts}
use Rattle.tree_check.specs.declared.shown_leaf.Shown.{Shown}
use Rattle.tree_check.specs.declared.shown_leaf.Shown.TheVariants.{Inode, Entry}
use Rattle.tree_check.specs.declared.shown_leaf.ShownLeaf.{ShownLeaf}
use Rattle.tree_check.specs.Kinds.{inodes_shown, kind_at, kind_shown}
use Rattle.tree_check.specs.Links.{count_to, links_shown}
use Rattle.tree_check.specs.Reach.{has, is_reached, reaches}

-- the kind of each inode, how many entries name each, and which are reached from the root
pub record Facts : Type 0 where
  pub kind : ℕ → Option Kind
  pub names : ℕ → ℕ
  pub reached : ℕ → Bool

abbrev pub facts_in : TreeFacts → Facts
facts_in facts = record {
  kind = kind_at facts.kinds.inodes.items;
  names = count_to facts.names.links.items;
  reached = is_reached facts.names.links.items (has facts.dirs);
}

-- they are those of the tree that leaves show
pub record AreFactsOf (leaves : List ShownLeaf) (facts : Facts) : Type 0 where
  pub kind : (q : ℕ) → facts.kind q ≡ kind_shown leaves q
  pub names : (q : ℕ) → facts.names q ≡ count_to (links_shown leaves) q
  pub reached : (q : ℕ) → facts.reached q ≡ reaches (links_shown leaves) (inodes_shown leaves) q

-- whether an inode is there and of this kind
abbrev pub is_kind : Facts → ℕ → Kind → Bool
is_kind facts q k = option_map_or (λ kind. same_kind kind k) (facts.kind q) false

-- whether an inode is a directory that isn't the root and has not one name or isn't reached, or is inode 1 and no directory
abbrev pub is_misplaced_inode : Facts → ℕ → Kind → Bool
is_misplaced_inode facts ino kind = not (not (is_dir kind) || ((ino == 1) || ((facts.names ino == 1) && facts.reached ino))) || ((ino == 1) && not (is_kind facts 1 Dir))

-- whether that is shown, or a name that stands in no directory, or leads to no inode of its kind, or to the root
abbrev pub is_misplaced : Facts → Shown → Bool
is_misplaced facts (Inode ino kind links) = is_misplaced_inode facts ino kind
is_misplaced facts (Entry dir name ino kind) = not (is_kind facts dir Dir && is_kind facts ino kind && not (ino == 1))
is_misplaced facts shown = false
