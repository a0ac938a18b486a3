-- Lists of fields, one behind another.
use Rattle.std.proofs.Common.{◌≡◌, ℕ, zero, suc, ◌+◌, ◌*◌, ◌<◌, ◌≤◌, List, [], ◌∷◌, ◌++◌, length, drop, get_or, replicate, refl, sym, ap, ◌∙◌, subst, arith, append-nil}
use Rattle.std.specs.List.{flat_map}
use Rattle.std.proofs.lemmas.List.{drop_all}
use Rattle.byteorder.specs.Endian.{little_bytes}
use Rattle.node_fields.specs.Fields.{Field, number, ignored, spelling, total_width, AllFit, Reads}

-- the spelling of fields and of those behind them
pub spelling-append : (f g : List Field) (tail : List ℕ) → spelling (f ++ g) tail ≡ spelling f (spelling g tail)
unfolding spelling
spelling-append [] g tail = refl
spelling-append (number width value ∷ f) g tail = ap (λ b. little_bytes width value ++ b) (spelling-append f g tail)
spelling-append (ignored width ∷ f) g tail = ap (λ b. replicate width 0 ++ b) (spelling-append f g tail)

-- zeros to the end
pub spelling-zeros : (n m : ℕ) → n ≡ m → replicate n 0 ≡ spelling (ignored m ∷ []) []
unfolding spelling
spelling-zeros n m e = ap (λ k. replicate k 0) e ∙ sym (append-nil (replicate m 0))

pub AllFit-append : (f g : List Field) → AllFit f → AllFit g → AllFit (f ++ g)
AllFit-append [] g hf hg = hg
AllFit-append (number width value ∷ f) g hf hg = (hf.0, AllFit-append f g hf.1 hg)
AllFit-append (ignored width ∷ f) g hf hg = AllFit-append f g hf hg

pub total_width-append : (f g : List Field) → total_width (f ++ g) ≡ total_width f + total_width g
total_width-append [] g = omega arith
total_width-append (number width value ∷ f) g = let e = total_width-append f g in omega (arith, e)
total_width-append (ignored width ∷ f) g = let e = total_width-append f g in omega (arith, e)

-- what fields of one width each take together
pub total_width-flat_map : {X : Type 0} (f : X → List Field) (width : ℕ) (xs : List X) → ((x : X) → total_width (f x) ≡ width) → total_width (flat_map f xs) ≡ width * length xs
total_width-flat_map f width [] wide = omega arith
total_width-flat_map f width (x ∷ xs) wide =
    let e = total_width-flat_map f width xs wide in
    let one = wide x in
    total_width-append (f x) (flat_map f xs) ∙ omega (arith, e, one)

-- fields and those behind them are read from their places
pub Reads-append : (place : ℕ) (f g : List Field) (bytes : List ℕ) → Reads place f bytes → Reads (place + total_width f) g bytes → Reads place (f ++ g) bytes
Reads-append place [] g bytes hf hg = let P : ℕ → Type 0 = λ n. Reads n g bytes in let e : place + 0 ≡ place = omega arith in subst P e hg
Reads-append place (number width value ∷ f) g bytes hf hg =
    let P : ℕ → Type 0 = λ n. Reads n g bytes in
    let e : place + (width + total_width f) ≡ place + width + total_width f = omega arith in
    (hf.0, Reads-append (place + width) f g bytes hf.1 (subst P e hg))
Reads-append place (ignored width ∷ f) g bytes hf hg =
    let P : ℕ → Type 0 = λ n. Reads n g bytes in
    let e : place + (width + total_width f) ≡ place + width + total_width f = omega arith in
    Reads-append (place + width) f g bytes hf (subst P e hg)

pub Reads-parts : (place : ℕ) (f g : List Field) (bytes : List ℕ) → Reads place (f ++ g) bytes → Reads place f bytes × Reads (place + total_width f) g bytes
Reads-parts place [] g bytes h = (tt, let P : ℕ → Type 0 = λ n. Reads n g bytes in let e : place ≡ place + 0 = omega arith in subst P e h)
Reads-parts place (number width value ∷ f) g bytes h =
    let P : ℕ → Type 0 = λ n. Reads n g bytes in
    let e : place + width + total_width f ≡ place + (width + total_width f) = omega arith in
    let rest = Reads-parts (place + width) f g bytes h.1 in
    ((h.0, rest.0), subst P e rest.1)
Reads-parts place (ignored width ∷ f) g bytes h =
    let P : ℕ → Type 0 = λ n. Reads n g bytes in
    let e : place + width + total_width f ≡ place + (width + total_width f) = omega arith in
    let rest = Reads-parts (place + width) f g bytes h in
    (rest.0, subst P e rest.1)

-- the fields of the items from one on
pub flat_map-drop : {X : Type 0} (f : X → List Field) (xs : List X) (i : ℕ) (d : X) → i < length xs → flat_map f (drop i xs) ≡ f (get_or xs i d) ++ flat_map f (drop (suc i) xs)
flat_map-drop f [] i d h = absurd (omega arith)
flat_map-drop f (x ∷ xs) zero d h = refl
flat_map-drop f (x ∷ xs) (suc i) d h = flat_map-drop f xs i d (omega arith)

-- one item more is written in front of those that are there
pub spelled_more : {X : Type 0} (f : X → List Field) (xs : List X) (i j : ℕ) (d : X) (p q r : ℕ) (old new : List ℕ) → suc i ≡ j → i < length xs → q ≡ r
    → drop p new ≡ spelling (f (get_or xs i d)) (drop q old) → drop r old ≡ spelling (flat_map f (drop j xs)) [] → drop p new ≡ spelling (flat_map f (drop i xs)) []
spelled_more {X = X} f xs i j d p q r old new next below same put before =
    let item = f (get_or xs i d) in
    let rest : drop q old ≡ spelling (flat_map f (drop (suc i) xs)) [] =
    ap (λ n. drop n old) same ∙ before ∙ ap (λ n. spelling (flat_map f (drop n xs)) []) (sym next) in
    put ∙ ap (spelling item) rest ∙ sym (spelling-append item (flat_map f (drop (suc i) xs)) []) ∙ ap (λ (g : List Field). spelling g []) (sym (flat_map-drop f xs i d below))

pub fits_more : {X : Type 0} (f : X → List Field) (xs : List X) (i j : ℕ) (d : X) → suc i ≡ j → i < length xs → AllFit (f (get_or xs i d)) → AllFit (flat_map f (drop j xs)) → AllFit (flat_map f (drop i xs))
fits_more f xs i j d next below item before =
    let P : ℕ → Type 0 = λ n. AllFit (flat_map f (drop n xs)) in
    let Q : List Field → Type 0 = λ g. AllFit g in
    subst Q (sym (flat_map-drop f xs i d below)) (AllFit-append (f (get_or xs i d)) (flat_map f (drop (suc i) xs)) item (subst P (sym next) before))

-- no item is written yet
pub none_spelled : {X : Type 0} (f : X → List Field) (xs : List X) (p : ℕ) (body : List ℕ) → length body ≤ p → drop p body ≡ spelling (flat_map f (drop (length xs) xs)) []
unfolding spelling
none_spelled f xs p body h = rw (drop_all (length xs) xs (omega arith)) (drop_all p body h)

pub none_fits : {X : Type 0} (f : X → List Field) (xs : List X) → AllFit (flat_map f (drop (length xs) xs))
none_fits {X = X} f xs = let P : List X → Type 0 = λ ys. AllFit (flat_map f ys) in subst P (sym (drop_all (length xs) xs (omega arith))) tt
