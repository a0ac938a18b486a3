-- What follows from a volume's clauses over several calls.
use Rattle.std.specs.Prelude.{◌≡◌, ◌⊎◌, ℕ, List}
use Rattle.std.proofs.Common.{inl, inr, refl, arith, subst, ap, ◌∙◌}
use Rattle.ubi_volume.specs.Volume.{VolumeState, Only, put, Torn, SameShape, Leaves, Keeps, UnderWay, WorksOn, WriteUnderWay, IsWritten}

-- One run after another. P and Q are what each moment of the first and of the second leaves, and R is what both imply.
pub Leaves-then : (a b c : VolumeState) (P Q R : (ℕ → List ℕ) → Type 0) → ((x : ℕ → List ℕ) → P x → R x) → ((x : ℕ → List ℕ) → Q x → R x)
    → Leaves a b P → Leaves b c Q → Leaves a c R
Leaves-then a b c P Q R pr qr ab bc =
    let first = ab.later in
    let second = bc.later in
    record {
      later = omega (arith, first, second);
      nothing_else = λ t x early left.
          elim (bc.nothing_else t x (omega (arith, early, first)) left) [
            | inr q ↦ inr (qr x q)
            | inl before ↦ elim (ab.nothing_else t x early before) [ inl older ↦ inl older | inr p ↦ inr (pr x p) ]
          ];
    }

-- A call that keeps all leaves nothing else at any moment.
pub Leaves-keeps : (a b : VolumeState) (P : (ℕ → List ℕ) → Type 0) → Keeps a b → Leaves a b P
Leaves-keeps a b P keeps = record {
  later = keeps.later;
  nothing_else = λ t x early left. inl ((keeps.time t x early).0 left);
}

-- a write under way into a LEB of which a cut leaves nothing else
pub WriteUnderWay-only : (old : VolumeState) (lnum offs n : ℕ) (one : List ℕ) → Only one (old.left_now lnum)
    → ((c : List ℕ) → old.left_mapped lnum c → old.left_now lnum c) → (c : List ℕ) → WriteUnderWay old lnum offs n c → (c ≡ one) ⊎ Torn offs n one c
WriteUnderWay-only old lnum offs n one only sub c (inl now) = inl (only c now)
WriteUnderWay-only old lnum offs n one only sub c (inr (d, is, torn)) = let P : List ℕ → Type 0 = λ y. Torn offs n y c in inr (subst P (only d (sub d is)) torn)

-- what a cut leaves of such a LEB after the write
pub Only-written : (old new : VolumeState) (lnum offs : ℕ) (bytes one : List ℕ) → Only one (old.left_now lnum)
    → ((c : List ℕ) → old.left_mapped lnum c → old.left_now lnum c) → IsWritten old new lnum offs bytes → Only (put offs bytes one) (new.left_now lnum)
Only-written old new lnum offs bytes one only sub written c is =
    let from = written.left c is in
    from.2 ∙ ap (put offs bytes) (only from.0 (sub from.0 from.1))

-- Before the first call nothing else is left.
pub Leaves-none : (a : VolumeState) (P : (ℕ → List ℕ) → Type 0) → Leaves a a P
Leaves-none a P = record { later = omega arith; nothing_else = λ t x early left. inl left }

-- what each moment leaves, where it implies more
pub Leaves-more : (a b : VolumeState) (P R : (ℕ → List ℕ) → Type 0) → ((x : ℕ → List ℕ) → P x → R x) → Leaves a b P → Leaves a b R
Leaves-more a b P R more h = record {
  later = h.later;
  nothing_else = λ t x early left. elim (h.nothing_else t x early left) [ inl before ↦ inl before | inr p ↦ inr (more x p) ];
}

-- two claims on one run of calls
pub Leaves-both : (a b : VolumeState) (P Q : (ℕ → List ℕ) → Type 0) → Leaves a b P → Leaves a b Q → Leaves a b (λ x. P x × Q x)
Leaves-both a b P Q one two = record {
  later = one.later;
  nothing_else = λ t x early left. elim (one.nothing_else t x early left) [
    | inl before ↦ inl before
    | inr p ↦ elim (two.nothing_else t x early left) [ inl before ↦ inl before | inr q ↦ inr (p, q) ]
  ];
}

-- the shape over one call after another
pub SameShape-then : (a b c : VolumeState) → SameShape a b → SameShape b c → SameShape a c
SameShape-then a b c ab bc = record {
  leb_size = bc.leb_size ∙ ab.leb_size;
  min_io = bc.min_io ∙ ab.min_io;
  leb_cnt = bc.leb_cnt ∙ ab.leb_cnt;
}

-- no call at all keeps all
pub Keeps-none : (a : VolumeState) → Keeps a a
Keeps-none a = record {
  holds = λ k. refl;
  written = λ k. refl;
  left = λ k c. (λ h. h, λ h. h);
  left_mapped = λ k c. (λ h. h, λ h. h);
  later = omega arith;
  time = λ t c early. (λ h. h, λ h. h);
  spent = λ h. h;
  unbroken = λ h. h;
}

-- what keeps all, one call after another
pub Keeps-then : (a b c : VolumeState) → Keeps a b → Keeps b c → Keeps a c
Keeps-then a b c ab bc =
    let first = ab.later in
    let second = bc.later in
    record {
      holds = λ k. bc.holds k ∙ ab.holds k;
      written = λ k. bc.written k ∙ ab.written k;
      left = λ k x. (λ h. (ab.left k x).0 ((bc.left k x).0 h), λ h. (bc.left k x).1 ((ab.left k x).1 h));
      left_mapped = λ k x. (λ h. (ab.left_mapped k x).0 ((bc.left_mapped k x).0 h), λ h. (bc.left_mapped k x).1 ((ab.left_mapped k x).1 h));
      later = omega (arith, first, second);
      time = λ t x early. (λ h. (ab.time t x early).0 ((bc.time t x (omega (arith, early, first))).0 h), λ h. (bc.time t x (omega (arith, early, first))).1 ((ab.time t x early).1 h));
      spent = λ h. bc.spent (ab.spent h);
      unbroken = λ h. ab.unbroken (bc.unbroken h);
    }

-- Two calls that work on one LEB. P and Q are what each moment of the first and of the second leaves of it, and R is what both imply.
pub WorksOn-then : (a b c : VolumeState) (lnum : ℕ) (P Q R : List ℕ → Type 0) → ((x : List ℕ) → P x → R x) → ((x : List ℕ) → Q x → R x)
    → WorksOn a b lnum P → WorksOn b c lnum Q → WorksOn a c lnum R
WorksOn-then a b c lnum P Q R pr qr ab bc = record {
  others = λ k ne. bc.others k ne ∙ ab.others k ne;
  others_written = λ k ne. bc.others_written k ne ∙ ab.others_written k ne;
  others_left = λ k x ne h. ab.others_left k x ne (bc.others_left k x ne h);
  others_mapped = λ k x ne h. ab.others_mapped k x ne (bc.others_mapped k x ne h);
  left = λ x h. qr x (bc.left x h);
  time = Leaves-then a b c (UnderWay a lnum P) (UnderWay b lnum Q) (UnderWay a lnum R) (λ x h. (h.0, pr (x lnum) h.1)) (λ x h. (λ k ne. ab.others_left k (x k) ne (h.0 k ne), qr (x lnum) h.1)) ab.time bc.time;
  spent = λ h. bc.spent (ab.spent h);
  unbroken = λ h. ab.unbroken (bc.unbroken h);
}

-- a call on a LEB, where what each moment leaves of it implies more
pub WorksOn-more : (a b : VolumeState) (lnum : ℕ) (P R : List ℕ → Type 0) → ((x : List ℕ) → P x → R x) → WorksOn a b lnum P → WorksOn a b lnum R
WorksOn-more a b lnum P R more works = record {
  others = works.others;
  others_written = works.others_written;
  others_left = works.others_left;
  others_mapped = works.others_mapped;
  left = λ x h. more x (works.left x h);
  time = Leaves-then a a b (UnderWay a lnum R) (UnderWay a lnum P) (UnderWay a lnum R) (λ x h. h) (λ x h. (h.0, more (x lnum) h.1)) (Leaves-none a (UnderWay a lnum R)) works.time;
  spent = works.spent;
  unbroken = works.unbroken;
}

-- a call that keeps all works on no LEB
pub WorksOn-keeps : (a b : VolumeState) (lnum : ℕ) (P : List ℕ → Type 0) → ((x : List ℕ) → a.left_now lnum x → P x) → Keeps a b → WorksOn a b lnum P
WorksOn-keeps a b lnum P more keeps = record {
  others = λ k ne. keeps.holds k;
  others_written = λ k ne. keeps.written k;
  others_left = λ k x ne h. (keeps.left k x).0 h;
  others_mapped = λ k x ne h. (keeps.left_mapped k x).0 h;
  left = λ x h. more x ((keeps.left lnum x).0 h);
  time = Leaves-keeps a b (UnderWay a lnum P) keeps;
  spent = keeps.spent;
  unbroken = keeps.unbroken;
}

-- a call on a LEB, after one that keeps all
pub WorksOn-after : (a b c : VolumeState) (lnum : ℕ) (P R : List ℕ → Type 0) → ((x : List ℕ) → P x → R x) → Keeps a b → WorksOn b c lnum P → WorksOn a c lnum R
WorksOn-after a b c lnum P R more keeps works = record {
  others = λ k ne. works.others k ne ∙ keeps.holds k;
  others_written = λ k ne. works.others_written k ne ∙ keeps.written k;
  others_left = λ k x ne h. (keeps.left k x).0 (works.others_left k x ne h);
  others_mapped = λ k x ne h. (keeps.left_mapped k x).0 (works.others_mapped k x ne h);
  left = λ x h. more x (works.left x h);
  time = Leaves-then a b c (UnderWay a lnum R) (UnderWay b lnum P) (UnderWay a lnum R) (λ x h. h) (λ x h. (λ k ne. (keeps.left k (x k)).0 (h.0 k ne), more (x lnum) h.1))
      (Leaves-keeps a b (UnderWay a lnum R) keeps) works.time;
  spent = λ h. works.spent (keeps.spent h);
  unbroken = λ h. keeps.unbroken (works.unbroken h);
}

-- two claims on one call
pub WorksOn-both : (a b : VolumeState) (lnum : ℕ) (P Q : List ℕ → Type 0) → WorksOn a b lnum P → WorksOn a b lnum Q → WorksOn a b lnum (λ x. P x × Q x)
WorksOn-both a b lnum P Q one two = record {
  others = one.others;
  others_written = one.others_written;
  others_left = one.others_left;
  others_mapped = one.others_mapped;
  left = λ x h. (one.left x h, two.left x h);
  time = Leaves-more a b (λ x. UnderWay a lnum P x × UnderWay a lnum Q x) (UnderWay a lnum (λ x. P x × Q x)) (λ x h. (h.0.0, (h.0.1, h.1.1)))
      (Leaves-both a b (UnderWay a lnum P) (UnderWay a lnum Q) one.time two.time);
  spent = one.spent;
  unbroken = one.unbroken;
}
