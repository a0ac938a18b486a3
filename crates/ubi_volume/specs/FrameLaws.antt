-- Calls on several LEBs, one after another.
use Rattle.std.specs.Prelude.{◌≡◌, ◌≢◌, ◌⊎◌, ℕ, List, []}
use Rattle.std.proofs.Common.{inl, inr, refl, ap, sym, subst, ◌∙◌}
use Rattle.std.proofs.lemmas.Bool.{cases_eq}
use Rattle.ubi_volume.specs.Volume.{VolumeState, Each, Only, filled, put, SameShape, Leaves, Keeps, UnderWay, WorksOn, IsChanged, IsWritten, IsUnmapped, IsMapped, ChangeUnderWay, WriteUnderWay}
use Rattle.ubi_volume.specs.VolumeLaws.{Leaves-then, Leaves-keeps, Leaves-none, Leaves-more, Leaves-both}
use Rattle.ubi_volume.specs.Frame.{IsSameLeb, Elsewhere, Works}

-- One LEB that isn't touched.

pub IsSameLeb-none : (a : VolumeState) (k : ℕ) → IsSameLeb a a k
IsSameLeb-none a k = record { holds = refl; written = refl; left = λ c h. h; mapped = λ c h. h }

pub IsSameLeb-then : (a b c : VolumeState) (k : ℕ) → IsSameLeb a b k → IsSameLeb b c k → IsSameLeb a c k
IsSameLeb-then a b c k ab bc = record {
  holds = bc.holds ∙ ab.holds;
  written = bc.written ∙ ab.written;
  left = λ x h. ab.left x (bc.left x h);
  mapped = λ x h. ab.mapped x (bc.mapped x h);
}

-- a LEB while another is worked on
pub IsSameLeb-works : (a b : VolumeState) (lnum k : ℕ) (P : List ℕ → Type 0) → k ≢ lnum → WorksOn a b lnum P → IsSameLeb a b k
IsSameLeb-works a b lnum k P ne works = record {
  holds = works.others k ne;
  written = works.others_written k ne;
  left = λ x h. works.others_left k x ne h;
  mapped = λ x h. works.others_mapped k x ne h;
}

pub IsSameLeb-keeps : (a b : VolumeState) (k : ℕ) → Keeps a b → IsSameLeb a b k
IsSameLeb-keeps a b k keeps = record {
  holds = keeps.holds k;
  written = keeps.written k;
  left = λ x h. (keeps.left k x).0 h;
  mapped = λ x h. (keeps.left_mapped k x).0 h;
}

-- What was done to a LEB stands while others are touched: afterwards (-then), and where they were touched before (-from).

pub Only-then : (b c : VolumeState) (k : ℕ) (bytes : List ℕ) → Only bytes (b.left_now k) → IsSameLeb b c k → Only bytes (c.left_now k)
Only-then b c k bytes only same x h = only x (same.left x h)

-- where a cut left what the LEB held, it still does
pub Only-same : (b c : VolumeState) (k : ℕ) → Only (b.holds k) (b.left_now k) → IsSameLeb b c k → Only (c.holds k) (c.left_now k)
Only-same b c k only same x h = only x (same.left x h) ∙ sym same.holds

pub IsWritten-then : (a b c : VolumeState) (lnum offs : ℕ) (bytes : List ℕ) → IsWritten a b lnum offs bytes → IsSameLeb b c lnum → IsWritten a c lnum offs bytes
IsWritten-then a b c lnum offs bytes done same = record {
  holds = same.holds ∙ done.holds;
  written = same.written ∙ done.written;
  left = λ x h. done.left x (same.left x h);
}

pub IsWritten-from : (a b c : VolumeState) (lnum offs : ℕ) (bytes : List ℕ) → IsSameLeb a b lnum → IsWritten b c lnum offs bytes → IsWritten a c lnum offs bytes
IsWritten-from a b c lnum offs bytes same done = record {
  holds = done.holds ∙ ap (put offs bytes) same.holds;
  written = done.written;
  left = λ x h. let d = done.left x h in (d.0, same.mapped d.0 d.1, d.2);
}

pub IsChanged-then : (a b c : VolumeState) (lnum : ℕ) (bytes : List ℕ) → IsChanged a b lnum bytes → IsSameLeb b c lnum → IsChanged a c lnum bytes
IsChanged-then a b c lnum bytes done same = record {
  holds = same.holds ∙ done.holds;
  written = same.written ∙ done.written;
  left = λ x h. done.left x (same.left x h);
}

pub IsChanged-from : (a b c : VolumeState) (lnum : ℕ) (bytes : List ℕ) → SameShape a b → IsChanged b c lnum bytes → IsChanged a c lnum bytes
IsChanged-from a b c lnum bytes shape done = record {
  holds = done.holds ∙ ap (λ (size : ℕ). filled size bytes) shape.leb_size;
  written = done.written;
  left = λ x h. done.left x h ∙ ap (λ (size : ℕ). filled size bytes) shape.leb_size;
}

pub IsUnmapped-then : (a b c : VolumeState) (lnum : ℕ) → IsUnmapped a b lnum → IsSameLeb b c lnum → IsUnmapped a c lnum
IsUnmapped-then a b c lnum done same = record {
  holds = same.holds ∙ done.holds;
  written = same.written ∙ done.written;
  left_mapped = λ x h. done.left_mapped x (same.mapped x h);
}

pub IsUnmapped-from : (a b c : VolumeState) (lnum : ℕ) → SameShape a b → IsUnmapped b c lnum → IsUnmapped a c lnum
IsUnmapped-from a b c lnum shape done = record {
  holds = done.holds ∙ ap (λ (size : ℕ). filled size []) shape.leb_size;
  written = done.written;
  left_mapped = λ x h. done.left_mapped x h ∙ ap (λ (size : ℕ). filled size []) shape.leb_size;
}

pub IsMapped-then : (a b c : VolumeState) (lnum : ℕ) → IsMapped a b lnum → IsSameLeb b c lnum → IsMapped a c lnum
IsMapped-then a b c lnum done same = record {
  holds = same.holds ∙ done.holds;
  written = same.written ∙ done.written;
  left = λ x h. done.left x (same.left x h);
}

pub IsMapped-from : (a b c : VolumeState) (lnum : ℕ) → IsSameLeb a b lnum → IsMapped b c lnum → IsMapped a c lnum
IsMapped-from a b c lnum same done = record {
  holds = done.holds ∙ same.holds;
  written = done.written ∙ same.written;
  left = λ x h. same.mapped x (done.left x h);
}

pub ChangeUnderWay-from : (a b : VolumeState) (lnum : ℕ) (bytes x : List ℕ) → SameShape a b → IsSameLeb a b lnum → ChangeUnderWay b lnum bytes x → ChangeUnderWay a lnum bytes x
ChangeUnderWay-from a b lnum bytes x shape same (inl now) = inl (same.left x now)
ChangeUnderWay-from a b lnum bytes x shape same (inr e) = inr (e ∙ ap (λ (size : ℕ). filled size bytes) shape.leb_size)

pub WriteUnderWay-from : (a b : VolumeState) (lnum offs n : ℕ) (x : List ℕ) → IsSameLeb a b lnum → WriteUnderWay b lnum offs n x → WriteUnderWay a lnum offs n x
WriteUnderWay-from a b lnum offs n x same (inl now) = inl (same.left x now)
WriteUnderWay-from a b lnum offs n x same (inr (d, mapped, torn)) = inr (d, same.mapped d mapped, torn)

-- the same of the LEBs that calls don't touch
pub Elsewhere-from : (a b : VolumeState) (T : ℕ → Type 0) (P : (ℕ → List ℕ) → Type 0) (x : ℕ → List ℕ) → Works a b T P → Elsewhere b T x → Elsewhere a T x
Elsewhere-from a b T P x works left k apart = (works.others k apart).left (x k) (left k apart)

-- Calls on several LEBs.

-- a call on one LEB
pub Works-on : (a b : VolumeState) (lnum : ℕ) (P : List ℕ → Type 0) → WorksOn a b lnum P → Works a b (λ k. k ≡ lnum) (UnderWay a lnum P)
Works-on a b lnum P works = record {
  others = λ k ne. IsSameLeb-works a b lnum k P ne works;
  left = λ c each. (λ k ne. works.others_left k (c k) ne (each k), works.left (c lnum) (each lnum));
  time = works.time;
  spent = works.spent;
  unbroken = works.unbroken;
}

-- One run after another. P and Q are what each moment of the first and of the second leaves, and R is what both imply.
pub Works-then : (a b c : VolumeState) (T U V : ℕ → Type 0) (P Q R : (ℕ → List ℕ) → Type 0) → ((k : ℕ) → T k → V k) → ((k : ℕ) → U k → V k)
    → ((x : ℕ → List ℕ) → P x → R x) → ((x : ℕ → List ℕ) → Q x → R x) → Works a b T P → Works b c U Q → Works a c V R
Works-then a b c T U V P Q R tv uv pr qr ab bc = record {
  others = λ k apart. IsSameLeb-then a b c k (ab.others k (λ t. apart (tv k t))) (bc.others k (λ u. apart (uv k u)));
  left = λ x each. qr x (bc.left x each);
  time = Leaves-then a b c P Q R pr qr ab.time bc.time;
  spent = λ h. bc.spent (ab.spent h);
  unbroken = λ h. ab.unbroken (bc.unbroken h);
}

-- a weaker claim, and more LEBs that may be touched
pub Works-more : (a b : VolumeState) (T V : ℕ → Type 0) (P R : (ℕ → List ℕ) → Type 0) → ((k : ℕ) → T k → V k) → ((x : ℕ → List ℕ) → P x → R x) → Works a b T P → Works a b V R
Works-more a b T V P R tv more works = record {
  others = λ k apart. works.others k (λ t. apart (tv k t));
  left = λ x each. more x (works.left x each);
  time = Leaves-more a b P R more works.time;
  spent = works.spent;
  unbroken = works.unbroken;
}

-- no call at all
pub Works-none : (a : VolumeState) (T : ℕ → Type 0) (P : (ℕ → List ℕ) → Type 0) → ((x : ℕ → List ℕ) → Each a.left_now x → P x) → Works a a T P
Works-none a T P now = record {
  others = λ k apart. IsSameLeb-none a k;
  left = now;
  time = Leaves-none a P;
  spent = λ h. h;
  unbroken = λ h. h;
}

-- a call that keeps all
pub Works-keeps : (a b : VolumeState) (T : ℕ → Type 0) (P : (ℕ → List ℕ) → Type 0) → ((x : ℕ → List ℕ) → Each a.left_now x → P x) → Keeps a b → Works a b T P
Works-keeps a b T P now keeps = record {
  others = λ k apart. IsSameLeb-keeps a b k keeps;
  left = λ x each. now x (λ k. (keeps.left k (x k)).0 (each k));
  time = Leaves-keeps a b P keeps;
  spent = keeps.spent;
  unbroken = keeps.unbroken;
}

-- two claims on one run
pub Works-both : (a b : VolumeState) (T U : ℕ → Type 0) (P Q : (ℕ → List ℕ) → Type 0) → Works a b T P → Works a b U Q → Works a b T (λ x. P x × Q x)
Works-both a b T U P Q one two = record {
  others = one.others;
  left = λ x each. (one.left x each, two.left x each);
  time = Leaves-both a b P Q one.time two.time;
  spent = one.spent;
  unbroken = one.unbroken;
}

-- What a cut may leave of each LEB by itself. Nearly every call on a device is one of these: May was met, and the call works on
-- one LEB, of which each moment leaves what May permits.

pub left-may : (a b : VolumeState) (lnum : ℕ) (P : List ℕ → Type 0) (May : ℕ → List ℕ → Type 0) → ((k : ℕ) (x : List ℕ) → a.left_now k x → May k x)
    → ((x : List ℕ) → P x → May lnum x) → WorksOn a b lnum P → (k : ℕ) (x : List ℕ) → b.left_now k x → May k x
left-may a b lnum P May now more works k x h = elim (cases_eq k lnum) [
  | inl e ↦
      let L : ℕ → Type 0 = λ n. b.left_now n x in
      let M : ℕ → Type 0 = λ n. May n x in
      subst M (sym e) (more x (works.left x (subst L e h)))
  | inr ne ↦ now k x (works.others_left k x ne h)
]

each_may : (a : VolumeState) (lnum : ℕ) (P : List ℕ → Type 0) (May : ℕ → List ℕ → Type 0) → ((k : ℕ) (x : List ℕ) → a.left_now k x → May k x) → ((x : List ℕ) → P x → May lnum x)
    → (c : ℕ → List ℕ) → UnderWay a lnum P c → Each May c
each_may a lnum P May now more c under k = elim (cases_eq k lnum) [
  | inl e ↦ let M : ℕ → Type 0 = λ n. May n (c n) in subst M (sym e) (more (c lnum) under.1)
  | inr ne ↦ now k (c k) (under.0 k ne)
]

pub Leaves-may : (a b : VolumeState) (lnum : ℕ) (P : List ℕ → Type 0) (May : ℕ → List ℕ → Type 0) → ((k : ℕ) (x : List ℕ) → a.left_now k x → May k x)
    → ((x : List ℕ) → P x → May lnum x) → WorksOn a b lnum P → Leaves a b (Each May)
Leaves-may a b lnum P May now more works = Leaves-more a b (UnderWay a lnum P) (Each May) (each_may a lnum P May now more) works.time

-- both in one, and the LEB is one of those that may be touched
pub Works-may : (a b : VolumeState) (lnum : ℕ) (P : List ℕ → Type 0) (T : ℕ → Type 0) (May : ℕ → List ℕ → Type 0) → T lnum → ((k : ℕ) (x : List ℕ) → a.left_now k x → May k x)
    → ((x : List ℕ) → P x → May lnum x) → WorksOn a b lnum P → Works a b T (Each May)
Works-may a b lnum P T May there now more works = record {
  others = λ k apart. IsSameLeb-works a b lnum k P (λ e. apart (subst T (sym e) there)) works;
  left = λ c each k. left-may a b lnum P May now more works k (c k) (each k);
  time = Leaves-may a b lnum P May now more works;
  spent = works.spent;
  unbroken = works.unbroken;
}

abbrev with_leb : {A : Type 0} (k lnum : ℕ) → A → A → (k ≡ lnum) ⊎ (k ≡ lnum → ⊥) → A
with_leb k lnum one other (inl e) = one
with_leb k lnum one other (inr ne) = other

with_leb-here : {A : Type 0} (lnum : ℕ) (one other : A) (d : (lnum ≡ lnum) ⊎ (lnum ≡ lnum → ⊥)) → with_leb lnum lnum one other d ≡ one
with_leb-here lnum one other (inl e) = refl
with_leb-here lnum one other (inr ne) = absurd (ne refl)

with_leb-each : (b : VolumeState) (k lnum : ℕ) (x y : List ℕ) (d : (k ≡ lnum) ⊎ (k ≡ lnum → ⊥)) → b.left_now lnum x → b.left_now k y → b.left_now k (with_leb k lnum x y d)
with_leb-each b k lnum x y (inl e) one other = let L : ℕ → Type 0 = λ n. b.left_now n x in subst L (sym e) one
with_leb-each b k lnum x y (inr ne) one other = other

-- of a claim over whole contents, what it says of one LEB; the premise is a law of each volume
pub Works-one : (a b : VolumeState) (T : ℕ → Type 0) (P : (ℕ → List ℕ) → Type 0) → ((k : ℕ) → b.left_now k (b.holds k)) → Works a b T P
    → (lnum : ℕ) (x : List ℕ) → b.left_now lnum x → (c : ℕ → List ℕ) × (c lnum ≡ x) × P c
Works-one a b T P held works lnum x h = (
  λ k. with_leb k lnum x (b.holds k) (cases_eq k lnum),
  with_leb-here lnum x (b.holds lnum) (cases_eq lnum lnum),
  works.left (λ k. with_leb k lnum x (b.holds k) (cases_eq k lnum)) (λ k. with_leb-each b k lnum x (b.holds k) (cases_eq k lnum) h (held k)),
)
