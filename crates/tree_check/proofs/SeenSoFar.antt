-- What leaves showed so far, and what is wrong first with them.
use Rattle.std.proofs.Common.{◌≡◌, Bool, false, List, [], ◌∷◌, ◌++◌, Option, refl, sym, ap, subst, ◌∙◌, append_assoc}
use Rattle.std.specs.Prelude.{◌||◌, is_some}
use Rattle.std.specs.BTreeMap.{is_at}
use Rattle.std.specs.List.{list_any}
use Rattle.std.specs.Map.{lookup}
use Rattle.std.specs.Ordering.{nat_cmp}
use Rattle.std.proofs.lemmas.List.Folds.{list_any-append}
use Rattle.fs_model.specs.Files.{name_cmp}
use Rattle.image_check.specs.WrongValues.{sooner_of}
use Rattle.image_check.specs.declared.wrong_value.WrongValue.{WrongValue}
use Rattle.tree_check.specs.Facts.{Facts, is_misplaced}
use Rattle.tree_check.specs.LinkFindings.{soonest_of}
use Rattle.tree_check.specs.Places.{wrong_if, wrongs_behind}
use Rattle.tree_check.specs.Seen.{is_seen, same_told}
use Rattle.tree_check.specs.declared.seen_leaves.SeenLeaves.{SeenLeaves}
use Rattle.tree_check.specs.declared.shown_leaf.Shown.{Shown}
use Rattle.tree_check.specs.declared.shown_leaf.Shown.TheVariants as shows
use Rattle.tree_check.specs.declared.shown_leaf.ShownLeaf.{ShownLeaf}
use Rattle.tree_check.proofs.TestLaws.{or_none}

-- the leaves before those that are left were seen, and the first of what is found so far and of those that are left is that of all
pub record IsSeenSoFar (facts : Facts) (leaves left : List ShownLeaf) (seen : SeenLeaves) (found first : Option WrongValue) : Type 0 where
  pub before : List ShownLeaf
  pub parts : leaves ≡ before ++ left
  pub seen_is : (s : Shown) → is_seen seen s ≡ list_any (λ (y : ShownLeaf). same_told y.shown s) before
  pub first_is : soonest_of first (wrongs_behind facts before left) ≡ soonest_of found (wrongs_behind facts [] leaves)

none_seen : (seen : SeenLeaves) → seen.inodes.entries ≡ [] → seen.names.entries ≡ [] → seen.blocks.entries ≡ [] → seen.cuts.entries ≡ [] → (s : Shown) → is_seen seen s ≡ false
none_seen seen i n b c (shows.Inode ino kind links) = ap (λ es. is_some (lookup (is_at (nat_cmp ino)) es)) i
none_seen seen i n b c (shows.Entry dir name ino kind) = ap (λ es. is_some (lookup (is_at (name_cmp (dir, name))) es)) n
none_seen seen i n b c (shows.Block ino block) = rw (b, c) refl
none_seen seen i n b c (shows.Deletion dir name) = refl
none_seen seen i n b c (shows.Truncation ino size) = refl
none_seen seen i n b c shows.Nothing = refl

pub seen_start : (facts : Facts) (leaves : List ShownLeaf) (seen : SeenLeaves) (found : Option WrongValue) → seen.inodes.entries ≡ [] → seen.names.entries ≡ [] → seen.blocks.entries ≡ [] → seen.cuts.entries ≡ [] → IsSeenSoFar facts leaves leaves seen found found
seen_start facts leaves seen found i n b c = record { before = []; parts = refl; seen_is = none_seen seen i n b c; first_is = refl }

pub seen_next : (facts : Facts) (leaves left rest : List ShownLeaf) (leaf : ShownLeaf) (old new : SeenLeaves) (found first wrong next : Option WrongValue) → left ≡ leaf ∷ rest → IsSeenSoFar facts leaves left old found first
    → wrong ≡ wrong_if (is_misplaced facts leaf.shown || is_seen old leaf.shown) leaf → next ≡ sooner_of first wrong → ((s : Shown) → is_seen new s ≡ (is_seen old s || same_told leaf.shown s)) → IsSeenSoFar facts leaves rest new found next
seen_next facts leaves left rest leaf old new found first wrong next split so_far is told noted =
    let before = so_far.before in
    let P : List ShownLeaf → Type 0 = λ xs. soonest_of first (wrongs_behind facts before xs) ≡ soonest_of found (wrongs_behind facts [] leaves) in
    let whole = subst P split so_far.first_is in
    let Q : Bool → Type 0 = λ b. soonest_of (sooner_of first (wrong_if (is_misplaced facts leaf.shown || b) leaf)) (wrongs_behind facts (before ++ leaf ∷ []) rest) ≡ soonest_of found (wrongs_behind facts [] leaves) in
    let seen_whole = subst Q (sym (so_far.seen_is leaf.shown)) whole in
    record {
      before = before ++ leaf ∷ [];
      parts = so_far.parts ∙ ap (λ (xs : List ShownLeaf). before ++ xs) split ∙ (let e : before ++ (leaf ∷ rest) ≡ (before ++ leaf ∷ []) ++ rest = simp append_assoc in e);
      seen_is = λ s.
          noted s ∙ ap (λ b. b || same_told leaf.shown s) (so_far.seen_is s)
          ∙ ap (λ b. list_any (λ (y : ShownLeaf). same_told y.shown s) before || b) (or_none (same_told leaf.shown s))
          ∙ sym (list_any-append (λ (y : ShownLeaf). same_told y.shown s) before (leaf ∷ []));
      first_is = ap (λ (o : Option WrongValue). soonest_of o (wrongs_behind facts (before ++ leaf ∷ []) rest)) (told ∙ ap (sooner_of first) is) ∙ seen_whole;
    }

pub seen_end : (facts : Facts) (leaves left : List ShownLeaf) (seen : SeenLeaves) (found first : Option WrongValue) → left ≡ [] → IsSeenSoFar facts leaves left seen found first → first ≡ soonest_of found (wrongs_behind facts [] leaves)
seen_end facts leaves left seen found first done so_far =
    let P : List ShownLeaf → Type 0 = λ xs. soonest_of first (wrongs_behind facts so_far.before xs) ≡ soonest_of found (wrongs_behind facts [] leaves) in
    subst P done so_far.first_is
