-- LEBs that are loaded one after another.
use Rattle.std.proofs.Common.{◌≡◌, ℕ, ◌+◌, ◌*◌, ◌≤◌, List, [], ◌∷◌, ◌++◌, ◌-◌, length, take, drop, replicate, min, Option, Some, None, get_or, subst, ap, sym, refl, ◌∙◌, arith, inl, inr, drop-drop, length-append, length-take}
use Rattle.std.specs.Prelude.{◌⊎◌, slice_get, All, Bool, false, if◌then◌else◌}
use Rattle.std.proofs.lemmas.List.{drop_all, take_all, length-replicate, get_or_append_left, get_or_push}
use Rattle.std.proofs.lemmas.Option.{slice_get-get_or, slice_get_within, get_or_from_slice_get}
use Rattle.std.proofs.lemmas.Bool.{cases_lt}
use Rattle.ubi_volume.specs.Lebs.{IsLoadedLeb, IsBlankLeb, AreLoaded, IsLeb, IsLeft, bytes_in, written_in, pending_in}
use Rattle.ubi_volume.specs.Loading.{IsLoaded, IsWrittenPart, leb_of}
use Rattle.ubi_volume.specs.Arming.{IsUnarmed, nothing_armed}
use Rattle.ubi_volume.specs.Effects.{HasNoPast}
use Rattle.ubi_volume.specs.declared.arming.Arming.{Arming}
use Rattle.ubi_volume.specs.MemVolume.{state_of, mem_with}
use Rattle.ubi_volume.specs.MemVolumeLaws.{leb_at}
use Rattle.ubi_volume.specs.declared.mem_volume.MemVolume.{MemVolume}
use Rattle.ubi_volume.specs.declared.leb.Leb.{Leb}

-- what is left behind a LEB
pub behind_leb : (size lnum : ℕ) (image rest : List ℕ) → rest ≡ drop (lnum * size) image → drop (min (length rest) size) rest ≡ drop ((lnum + 1) * size) image
behind_leb size lnum image rest e =
    let whole : drop (min (length rest) size) rest ≡ drop size rest = grind (arith, drop_all (min (length rest) size) rest, drop_all size rest) in
    let next : lnum * size + size ≡ (lnum + 1) * size = omega arith in
    whole ∙ ap (drop size) e ∙ drop-drop size (lnum * size) image ∙ ap (λ n. drop n image) next

-- what stands in a list with one item more
pushed_item : {X : Type 0} (xs : List X) (y x : X) (k : ℕ) → slice_get (xs ++ y ∷ []) k ≡ Some x → (slice_get xs k ≡ Some x) ⊎ ((k ≡ length xs) × (y ≡ x))
pushed_item xs y x k h =
    let there = get_or_from_slice_get (xs ++ y ∷ []) k x y h in
    let inside = slice_get_within (xs ++ y ∷ []) k x h in
    let long = length-append xs (y ∷ []) in
    elim (cases_lt k (length xs)) [
      | inl before ↦ inl (slice_get-get_or xs k y before ∙ ap Some (sym (get_or_append_left xs (y ∷ []) y k before) ∙ there))
      | inr at_end ↦ let last : k ≡ length xs = omega (arith, at_end, inside, long) in inr (last, sym (get_or_push xs y y k (sym last)) ∙ there)
    ]

-- one LEB more
pub AreLoaded-push : (size unit : ℕ) (image : List ℕ) (lebs : List Leb) (leb : Leb) (n : ℕ) (front : List ℕ) → n ≡ length lebs → front ≡ take size (drop (n * size) image)
    → AreLoaded size unit image lebs → IsLoadedLeb size unit front leb → AreLoaded size unit image (lebs ++ leb ∷ [])
AreLoaded-push size unit image lebs leb n front is_len is_front loaded one = record {
  each = λ k x there. elim (pushed_item lebs leb x k there) [
    | inl before ↦ loaded.each k x before
    | inr (last, same) ↦
        let e : n ≡ k = is_len ∙ sym last in
        let P : Leb → Type 0 = λ l. IsLoadedLeb size unit (take size (drop (k * size) image)) l in
        let Q : List ℕ → Type 0 = λ b. IsLoadedLeb size unit b leb in
        subst P same (subst Q (is_front ∙ ap (λ m. take size (drop (m * size) image)) e) one)
  ];
}

-- the bytes in front of what is left are those of the next LEB
pub front_of : (size n : ℕ) (image rest : List ℕ) → rest ≡ drop (n * size) image → take (min (length rest) size) rest ≡ take size (drop (n * size) image)
front_of size n image rest e =
    let whole : take (min (length rest) size) rest ≡ take size rest = grind (arith, take_all (min (length rest) size) rest, take_all size rest) in
    whole ∙ ap (take size) e

-- a LEB with bytes of an image is a LEB
loaded_leb_is : (size unit : ℕ) (bytes : List ℕ) (leb : Leb) → length bytes ≤ size → IsLoadedLeb size unit bytes leb → IsLeb size leb
loaded_leb_is size unit bytes leb fits loaded =
    let long : length leb.content.items ≡ size = ap length loaded.content ∙ length-append bytes (replicate (size - length bytes) 255) ∙ rw length-replicate (omega (arith, fits)) in
    record {
      content = record { len = long; bytes = loaded.is_bytes };
      before = λ undone. absurd (grind (arith, undone, loaded.undo));
      room = loaded.room;
      blank = loaded.written.behind ∙ ap (λ n. replicate (n - leb.written) 255) long;
    }

-- so loaded LEBs are LEBs
pub loaded-sizes : (size unit : ℕ) (image : List ℕ) (lebs : List Leb) → AreLoaded size unit image lebs → All (IsLeb size) lebs
loaded-sizes size unit image lebs loaded k d inside =
    let bytes = take size (drop (k * size) image) in
    let short : length bytes ≤ size = rw length-take (omega arith) in
    loaded_leb_is size unit bytes (get_or lebs k d) short (loaded.each k (get_or lebs k d) (slice_get-get_or lebs k d inside))

-- of a loaded LEB a cut leaves nothing else
only_content : (o : Option Leb) (c : List ℕ) → ((leb : Leb) → o ≡ Some leb → leb.undo ≡ false) → IsLeft o c → c ≡ bytes_in o
only_content (Some leb) c final (inl same) = same
only_content (Some leb) c final (inr (undo, was)) = let never = final leb refl in grind (arith, undo, never)
only_content None c final left = left

-- where nothing is armed or counted, nothing is armed
pub unarmed_at_first : (a : Arming) → a ≡ nothing_armed → IsUnarmed a
unarmed_at_first a e = record { cut = ap (λ (x : Arming). x.cut_step) e; call = ap (λ (x : Arming). x.fail) e; whole = ap (λ (x : Arming). x.is_cut) e }

-- LEBs of which no unmapping may be undone
final_one : (o : Option Leb) → ((leb : Leb) → o ≡ Some leb → leb.undo ≡ false) → pending_in o ≡ None
final_one (Some leb) final = ap (λ (b : Bool). if b then Some leb.before.items else None) (final leb refl)
final_one None final = refl

pub final_lebs : (lebs : List Leb) (arming : Arming) → arming ≡ nothing_armed → ((k : ℕ) (leb : Leb) → slice_get lebs k ≡ Some leb → leb.undo ≡ false) → HasNoPast (mem_with lebs arming)
final_lebs lebs arming start final = record { arming = start; final = λ k. final_one (slice_get lebs k) (final k) }

-- blank LEBs are so
pub final_blank : (size : ℕ) (lebs : List Leb) → All (IsBlankLeb size) lebs → (k : ℕ) (leb : Leb) → slice_get lebs k ≡ Some leb → leb.undo ≡ false
final_blank size lebs blank k leb there =
    let P : Leb → Type 0 = λ l. l.undo ≡ false in
    subst P (get_or_from_slice_get lebs k leb leb there) (blank k leb (slice_get_within lebs k leb there)).undo

-- what loaded LEBs are as a volume
pub loaded-state : (v : MemVolume) (image : List ℕ) → v.arming ≡ nothing_armed → AreLoaded v.shape.leb_size v.shape.min_io image v.lebs.items → IsLoaded v.shape image (state_of v)
loaded-state v image start loaded =
    let unarmed = unarmed_at_first v.arming start in
    let size = v.shape.leb_size in
    let unit = v.shape.min_io in
    let lebs = v.lebs.items in
    let count = v.all in
    record {
      leb_size = refl;
      min_io = refl;
      leb_cnt = refl;
      found = record {
        holds = λ k inside.
            let leb = leb_at size lebs k (omega (arith, inside, count)) v.sizes in
            let P : Option Leb → Type 0 = λ o. bytes_in o ≡ leb_of size image k in
            subst P (sym leb.1) (loaded.each k leb.0 leb.1).content;
        written = λ k inside.
            let leb = leb_at size lebs k (omega (arith, inside, count)) v.sizes in
            let P : Option Leb → Type 0 = λ o. IsWrittenPart unit (bytes_in o) (written_in o) in
            subst P (sym leb.1) (loaded.each k leb.0 leb.1).written;
        left = λ k c left. only_content (slice_get lebs k) c (λ leb there. (loaded.each k leb there).undo) left;
        sure = unarmed;
        unbroken = unarmed.whole;
      };
      faults = ap (λ (a : Arming). a.faults) start;
    }
