-- What calls make of a backing all of whose promises have room.
use Rattle.std.proofs.Common.{◌≡◌, ℕ, ◌-◌, ◌*◌, ◌≤◌, ◌<◌, Bool, List, length, Option, Some, refl, sym, ap, subst, ◌∙◌, arith, inl, inr}
use Rattle.std.specs.Prelude.{sum_by, Result, Ok, Err, OnOk, OnErr, IsOk, ◌↔◌, IsTrue, min, max}
use Rattle.std.proofs.lemmas.Bool.{cases_lt}
use Rattle.std.proofs.lemmas.Bool.Decides.{nat_tests}
use Rattle.std.proofs.Math.Nat.{mul-le-mul_left}
use Rattle.ubifs_base.specs.declared.raw_geometry.RawGeometry.{RawGeometry}
use Rattle.ubifs_base.specs.Areas.{main_lebs}
use Rattle.ubifs_base.specs.Geometry.{IsGeometry}
use Rattle.fs_model.specs.declared.change.Change.{Change}
use Rattle.fs_model.specs.declared.page_node.PageNode.{PageNode}
use Rattle.fs_model.specs.declared.refusal.NoSpace.{NoSpace}
use Rattle.fs_model.specs.declared.space.Grant.{Grant}
use Rattle.fs_model.specs.declared.space.Need.{Need}
use Rattle.fs_model.specs.declared.space.Space.{Space}
use Rattle.fs_model.specs.Backing.{FitsPage, IsAdmitted, KeepsSure, page_group}
use Rattle.fs_model.specs.Change.{apply, without_inode}
use Rattle.fs_model.specs.Cover.{needed, room_for, tree_bytes}
use Rattle.fs_model.specs.Files.{Tree}
use Rattle.fs_model.specs.Need.{change_bytes}
use Rattle.fs_model.specs.Orphan.{is_nameless}
use Rattle.fs_model.specs.Proper.{IsProper, is_block_node}
use Rattle.fs_model.specs.Settled.{IsCovered}
use Rattle.space_sums.specs.Spaces.{AsksNoLess, HasRoom, IsAfterPage, IsAfterGroup, IsNoMore, grant_of, with_credits}
use Rattle.plain_backing.specs.declared.numbers.Numbers.{Numbers}
use Rattle.plain_backing.specs.Covering.{granted_need, leaf_count}
use Rattle.plain_backing.specs.PlainBacking.{Covers, admitted, counted_call, ended_as, group_spent, outlook_with, page_spent, backing_state_with, with_closed}
use Rattle.plain_backing.specs.Story.{Story}
use Rattle.plain_backing.proofs.Covers.{bytes_grow, bytes_less, leaves_grow, leaves_less, weighed_more}

-- the numbers that admission reckons with
abbrev pub space_in : RawGeometry → Tree → Numbers → Space
space_in geo tree n = record { used = tree_bytes tree; held = 0; credits = n.credits; empty = n.empty; index = n.index; weight = n.weight; main = main_lebs geo }

-- an admission
pub admit_keeps : {T : Type 0} (geo : RawGeometry) (tree : Tree) (s : Story) (old new : Numbers) (space : Space) (need : Need) (X : Type 0) (r : Result T NoSpace)
    → space ≡ space_in geo tree old → OnOk r ((new ≡ admitted old need) × X) → OnErr r (new ≡ old) → (IsOk r ↔ (needed space need ≤ room_for geo space need))
    → (HasRoom geo space need → HasRoom geo (with_credits need.credits space) (grant_of need))
    → KeepsSure (outlook_with geo tree old s) (outlook_with geo tree new s)
admit_keeps geo tree s old new space need X (Ok x) same ok err covered law =
    let S : Space → Type 0 = λ x. HasRoom geo (with_credits need.credits x) (grant_of need) in
    let P : Numbers → Type 0 = λ n. Covers (backing_state_with geo tree n s) in
    record {
      sure = λ both. (
        ap (λ (n : Numbers). n.strike) ok.0 ∙ both.0,
        subst P (sym ok.0) (record { proper = both.1.proper; room = subst S same (law (record { fits = covered.0 refl })); weighed = both.1.weighed }),
      );
      spent = λ never. never;
      strike = ap (λ (n : Numbers). Some n.strike) ok.0;
    }
admit_keeps geo tree s old new space need X (Err x) same ok err covered law =
    let P : Numbers → Type 0 = λ n. Covers (backing_state_with geo tree n s) in
    record {
      sure = λ both. (ap (λ (n : Numbers). n.strike) err ∙ both.0, subst P (sym err) both.1);
      spent = λ never. never;
      strike = ap (λ (n : Numbers). Some n.strike) err;
    }

-- credits that are given back
pub give_back_keeps : (geo : RawGeometry) (tree : Tree) (s : Story) (old : Numbers) (credits : ℕ)
    → ((less more : Space) (asked asked_more : Need) → AsksNoLess less asked more asked_more → HasRoom geo more asked_more → HasRoom geo less asked)
    → KeepsSure (outlook_with geo tree old s) (outlook_with geo tree (record old { credits = old.credits - credits }) s)
give_back_keeps geo tree s old credits law = record {
  sure = λ both. (
    both.0,
    record {
      proper = both.1.proper;
      room = law (space_in geo tree (record old { credits = old.credits - credits })) (space_in geo tree old) (granted_need old.grant) (granted_need old.grant)
          (record {
            used = omega arith;
            held = omega arith;
            credits = omega arith;
            bytes = omega arith;
            nodes = omega arith;
            index = omega arith;
            weight = omega arith;
            main = omega arith;
            reserve = omega arith;
          })
          both.1.room;
      weighed = both.1.weighed;
    },
  );
  spent = λ never. never;
  strike = refl;
}

-- the bytes of a page's two nodes
page_bytes : (tree : Tree) (page : PageNode) → FitsPage tree page → sum_by (change_bytes tree) (page_group page) ≤ 4304
page_bytes tree page fits =
    let none : length page.inode.extra ≡ 0 = ap length fits.no_data in
    let few : length page.bytes ≤ 4096 = few_bytes page.ino page.block page.bytes fits.block in
    omega (arith, none, few)
  where
    few_bytes : (ino block : ℕ) (bytes : List ℕ) → IsTrue (is_block_node ((ino, block), bytes)) → length bytes ≤ 4096
    few_bytes ino block bytes h = grind (arith, nat_tests, h)

-- a page
pub page_covers : (geo : RawGeometry) → IsGeometry geo → (tree after : Tree) (page : PageNode) (s t : Story) (old new : Numbers)
    → after ≡ apply tree (page_group page) → (IsProper tree → FitsPage tree page) → 0 < old.credits → new ≡ page_spent (counted_call old)
    → ((before later : Space) (grant : Need) → IsAfterPage before later → HasRoom geo before grant → HasRoom geo later grant)
    → Covers (backing_state_with geo tree old s) → Covers (backing_state_with geo after new t)
page_covers geo ranges tree after page s t old new put fits some spent law covers =
    let page_fits = fits covers.proper in
    let grown = bytes_grow tree (page_group page) in
    let paid = page_bytes tree page page_fits in
    let more = leaves_grow tree (page_group page) in
    let P : Tree → Type 0 = λ x. Covers (backing_state_with geo x new t) in
    let Q : Numbers → Type 0 = λ n. Covers (backing_state_with geo (apply tree (page_group page)) n t) in
    subst P (sym put) (subst Q (sym spent) (record {
      proper = page_fits.proper;
      room = law (space_in geo tree old) (space_in geo (apply tree (page_group page)) (page_spent (counted_call old))) (granted_need old.grant)
          (record {
            bytes = omega (arith, grown, paid);
            credits = omega (arith, some);
            weight = omega arith;
            index = refl;
            main = refl;
          })
          covers.room;
      weighed = weighed_more geo.fanout (leaf_count tree) (leaf_count (apply tree (page_group page))) old.weight 2 ranges.fanout.0 covers.weighed (omega (arith, more));
    }))

-- a group
pub group_covers : (geo : RawGeometry) → IsGeometry geo → (tree after : Tree) (group : List Change) (s t : Story) (old new : Numbers)
    → after ≡ apply tree group → IsAdmitted (backing_state_with geo tree old s) group → new ≡ group_spent (counted_call old) (length group)
    → ((before later : Space) (grant : Need) → IsAfterGroup grant before later → HasRoom geo before grant → IsCovered geo later)
    → Covers (backing_state_with geo tree old s) → Covers (backing_state_with geo after new t)
group_covers geo ranges tree after group s t old new put is spent law covers =
    let fits = is.paid covers.proper in
    let grown = bytes_grow tree group in
    let paid = fits.bytes in
    let many = fits.nodes in
    let more = leaves_grow tree group in
    let N : Option Grant → Type 0 = λ g. HasRoom geo (space_in geo tree old) (granted_need g) in
    let room = subst N is.granted covers.room in
    let P : Tree → Type 0 = λ x. Covers (backing_state_with geo x new t) in
    let Q : Numbers → Type 0 = λ n. Covers (backing_state_with geo (apply tree group) n t) in
    let later = law (space_in geo tree old) (space_in geo (apply tree group) (group_spent (counted_call old) (length group))) (granted_need (Some is.grant))
    (record {
      bytes = omega (arith, grown, paid);
      credits = refl;
      weight = omega (arith, many);
      index = refl;
      main = refl;
    })
    room in
    subst P (sym put) (subst Q (sym spent) (record {
      proper = fits.proper;
      room = record { fits = later.fits };
      weighed = weighed_more geo.fanout (leaf_count tree) (leaf_count (apply tree group)) old.weight (length group) ranges.fanout.0 covers.weighed more;
    }))

-- an inode without a name that goes
pub drop_covers : (named : Bool) (geo : RawGeometry) (tree after : Tree) (ino : ℕ) (s t : Story) (old mid new : Numbers)
    → after ≡ without_inode tree ino → new ≡ with_closed mid named → mid ≡ counted_call old → IsTrue (is_nameless tree ino)
    → ((x : Tree) (n : ℕ) → IsProper x → IsTrue (is_nameless x n) → IsProper (without_inode x n))
    → ((before later : Space) (need : Need) → IsNoMore before later → HasRoom geo before need → HasRoom geo later need)
    → Covers (backing_state_with geo tree old s) → Covers (backing_state_with geo after new t)
drop_covers named geo tree after ino s t old mid new dropped closed counts nameless proper law covers =
    let less = bytes_less tree ino in
    let fewer = leaves_less tree ino in
    let weighed = covers.weighed in
    let P : Tree → Type 0 = λ x. Covers (backing_state_with geo x new t) in
    let Q : Numbers → Type 0 = λ n. Covers (backing_state_with geo (without_inode tree ino) n t) in
    subst P (sym dropped) (subst Q (sym (closed ∙ ap (λ n. with_closed n named) counts)) (record {
      proper = proper tree ino covers.proper nameless;
      room = law (space_in geo tree old) (space_in geo (without_inode tree ino) (with_closed (counted_call old) named)) (granted_need old.grant)
          (record { bytes = omega (arith, less); credits = refl; weight = omega arith; index = refl; main = refl }) covers.room;
      weighed = omega (arith, fewer, weighed);
    }))

-- the end of a commit
pub end_covers : (geo : RawGeometry) (tree : Tree) (s t : Story) (old new : Numbers) (cmt_no index leaves : ℕ)
    → new ≡ ended_as (counted_call old) cmt_no index → leaf_count tree ≤ leaves → leaves ≤ geo.fanout * index
    → ((before later : Space) (need : Need) → IsNoMore before later → HasRoom geo before need → HasRoom geo later need)
    → Covers (backing_state_with geo tree old s) → Covers (backing_state_with geo tree new t)
end_covers geo tree s t old new cmt_no index leaves ended all lowest law covers =
    let Q : Numbers → Type 0 = λ n. Covers (backing_state_with geo tree n t) in
    subst Q (sym ended) (record {
      proper = covers.proper;
      room = law (space_in geo tree old) (space_in geo tree (ended_as (counted_call old) cmt_no index)) (granted_need old.grant)
          (record { bytes = omega arith; credits = refl; weight = omega arith; index = refl; main = refl }) covers.room;
      weighed = lightest geo.fanout (leaf_count tree) old.weight old.base index covers.weighed (let le = all in omega (arith, le, lowest));
    })
  where
    lightest : (f n weight base nodes : ℕ) → n ≤ f * weight → n ≤ f * nodes → n ≤ f * min weight (max base nodes)
    lightest f n weight base nodes a b =
        let P : ℕ → Type 0 = λ w. n ≤ f * w in
        let part : f * nodes ≤ f * max base nodes = mul-le-mul_left f (omega arith) in
        elim (cases_lt weight (max base nodes)) [
          | inl lt ↦ let e : weight ≡ min weight (max base nodes) = omega (arith, lt) in subst P e a
          | inr ge ↦ let e : max base nodes ≡ min weight (max base nodes) = omega (arith, ge) in subst P e (omega (arith, part, b))
        ]
