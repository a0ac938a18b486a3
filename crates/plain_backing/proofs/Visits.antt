-- A range of cells shows the blocks of an inode.
use Rattle.std.proofs.Common.{◌≡◌, ℕ, Bool, true, false, cond, List, [], ◌∷◌, Option, Some, None, refl, sym, ap, ◌∙◌, inl, inr}
use Rattle.std.specs.Prelude.{◌==◌, filter}
use Rattle.std.specs.BTreeMap.Range.{range_contains, is_past_end}
use Rattle.std.specs.declared.ops.Bound.{Bound}
use Rattle.std.specs.declared.ops.Bound.TheVariants.{Included}
use Rattle.std.proofs.lemmas.Bool.{false≢true}
use Rattle.std.proofs.lemmas.Bool.Decides.{eqb_tells}
use Rattle.fs_model.specs.Files.{Blocks, pair_cmp}
use Rattle.plain_backing.specs.Cells.{seen_cells}
use Rattle.plain_backing.proofs.Listing.{blocks_in}

-- the blocks of an inode that cells show
abbrev pub seen_of : ℕ → List ((ℕ × ℕ) × Option (List ℕ)) → Blocks
seen_of ino cells = filter (λ stored. stored.0.0 == ino) (seen_cells cells)

seen_between : (ino : ℕ) (test : ℕ × ℕ → Bool) → ((k : ℕ × ℕ) → k.0 ≡ ino → test k ≡ true) → (cells : List ((ℕ × ℕ) × Option (List ℕ))) → seen_of ino (filter (λ c. test c.0) cells) ≡ seen_of ino cells
seen_between ino test inside [] = refl
seen_between ino test inside (c ∷ cells) = by (seen_between ino test inside cells) (test c.0) refl c.1
  where
    other : test c.0 ≡ false → (c.0.0 == ino) ≡ false
    other h = elim (eqb_tells c.0.0 ino) [ inl same ↦ absurd (false≢true (sym h ∙ inside c.0 same.1)) | inr apart ↦ apart.0 ]

    by : seen_of ino (filter (λ c. test c.0) cells) ≡ seen_of ino cells → (b : Bool) → test c.0 ≡ b → (o : Option (List ℕ))
        → seen_of ino (cond b ((c.0, o) ∷ filter (λ c. test c.0) cells) (filter (λ c. test c.0) cells)) ≡ seen_of ino ((c.0, o) ∷ cells)
    by more true h None = more
    by more true h (Some bytes) = ap (λ r. cond (c.0.0 == ino) ((c.0, bytes) ∷ r) r) more
    by more false h None = more
    by more false h (Some bytes) = rw (other h) more

pub visit_begins : (ino : ℕ) (end : Bound (ℕ × ℕ)) (cells left : List ((ℕ × ℕ) × Option (List ℕ))) → ((k : ℕ × ℕ) → k.0 ≡ ino → is_past_end pair_cmp end k ≡ false)
    → left ≡ filter (λ c. range_contains pair_cmp (Included (ino, 0)) end c.0) cells → seen_of ino left ≡ seen_of ino cells
visit_begins ino end cells left past is = ap (seen_of ino) is ∙ seen_between ino (range_contains pair_cmp (Included (ino, 0)) end) (blocks_in ino end past) cells
