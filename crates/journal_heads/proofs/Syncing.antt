-- Heads that are synced, one after another.
use Rattle.std.proofs.Common.{◌≡◌, ◌≢◌, ◌⊎◌, ℕ, ◌+◌, ◌<◌, ◌≤◌, Some, None, List, [], ◌++◌, length, take, Result, refl, ap, sym, subst, ◌∙◌, inl, inr, arith, append-nil}
use Rattle.std.proofs.lemmas.Bool.{cases_eq}
use Rattle.std.proofs.lemmas.Option.{none-some}
use Rattle.ubi_volume.specs.Volume.{VolumeState, Each, SameShape, Torn, UnderWay, WorksOn, filled}
use Rattle.ubi_volume.specs.Faults.{StaysSure}
use Rattle.ubi_volume.specs.declared.fault.VolFault.{VolFault}
use Rattle.ubi_volume.specs.VolumeLaws.{SameShape-then}
use Rattle.ubi_volume.specs.Frame.{Works}
use Rattle.ubi_volume.specs.FrameLaws.{Works-more, Works-none, Works-on, Works-then}
use Rattle.ubi_volume.specs.TornLaws.{Torn-none}
use Rattle.write_buffer.specs.Buffer.{Buffered, IsSynced, Stands, number_of, padding_of, end_of, text_of}
use Rattle.journal_heads.specs.declared.heads.Heads.{Heads}
use Rattle.journal_heads.specs.Heads.{AddsTo, AreLeft, AreOpen, AreSynced, IsFree, IsHeadLeft, IsHeads, IsOn, IsSyncedHead, StandsHead, buffer_of, head_padding}

-- the volume while one head is synced, if it has a LEB
abbrev pub SyncsHead : VolumeState → VolumeState → Buffered → Type 0
SyncsHead old new buffer = Works old new (λ lnum. buffer.leb ≡ Some lnum) (IsHeadLeft old buffer)

-- it has one
pub syncs_on : (old new : VolumeState) (buffer : Buffered) (lnum : ℕ) → buffer.leb ≡ Some lnum → WorksOn old new lnum (Torn buffer.place buffer.unit (old.holds lnum)) → SyncsHead old new buffer
syncs_on old new buffer lnum on works =
    let D : List ℕ → Type 0 = Torn buffer.place buffer.unit (old.holds lnum) in
    let same : (l : ℕ) → buffer.leb ≡ Some l → lnum ≡ l = λ l there. ap number_of (sym on ∙ there) in
    let T : ℕ → Type 0 = λ l. buffer.leb ≡ Some l in
    Works-more old new (λ k. k ≡ lnum) T (UnderWay old lnum D) (IsHeadLeft old buffer) (λ k e. on ∙ ap (λ (n : ℕ). Some n) (sym e)) (λ c h. record {
      here = λ l there. let P : ℕ → Type 0 = λ n. Torn buffer.place buffer.unit (old.holds n) (c n) in subst P (same l there) h.1;
      there = λ l off. let ne : l ≢ lnum = λ e. off (on ∙ ap (λ (n : ℕ). Some n) (sym e)) in h.0 l ne;
    }) (Works-on old new lnum D works)

-- it has none
pub syncs_none : (old : VolumeState) (buffer : Buffered) → buffer.leb ≡ None → SyncsHead old old buffer
syncs_none old buffer off =
    Works-none old (λ l. buffer.leb ≡ Some l) (IsHeadLeft old buffer) (λ c each. record {
      here = λ l there. absurd (none-some l (sym off ∙ there));
      there = λ l apart. each l;
    })

-- before any head is synced, a cut leaves what the LEBs hold
open_left : (a : VolumeState) (x : Heads) → AreOpen a x → (c : ℕ → List ℕ) → Each a.left_now c → AreLeft a x c
open_left a x is c each = record {
  each = λ k l on. Torn-none (buffer_of x k).place (buffer_of x k).unit (a.holds l) (c l) ((is.each k l on).settled (c l) (each l));
  others = λ l free. each l;
}

-- The heads below n are synced. Those from n on, and their LEBs, are as they were.
pub record Syncing (a b : VolumeState) (x y : Heads) (n : ℕ) : Type 0 where
  pub open_now : AreOpen b y
  pub shape : SameShape a b
  pub leb : (k : ℕ) → (buffer_of y k).leb ≡ (buffer_of x k).leb
  pub behind : (k : ℕ) → n ≤ k → buffer_of y k ≡ buffer_of x k
  pub held : (k l : ℕ) → n ≤ k → IsOn x k l → b.holds l ≡ a.holds l
  pub none : (k : ℕ) → k < n → (buffer_of y k).tail ≡ []
  pub synced : (k l : ℕ) → k < n → IsOn x k l → IsSynced a b (buffer_of x k) (buffer_of y k) l
  pub torn : (k l : ℕ) → IsOn x k l → Torn (buffer_of x k).place (buffer_of x k).unit (a.holds l) (b.holds l)
  pub stands : (k : ℕ) → StandsHead a b x y k
  pub works : Works a b (IsHeads x) (AreLeft a x)
  pub count : a.faults ≤ b.faults
  pub sure : a.sure → b.spent ⊎ (b.sure × (b.faults ≡ a.faults))

-- at the start
pub syncing_none : (a : VolumeState) (x : Heads) → AreOpen a x → Syncing a a x x 0
syncing_none a x is = record {
  open_now = is;
  shape = record { leb_size = refl; min_io = refl; leb_cnt = refl };
  leb = λ k. refl;
  behind = λ k le. refl;
  held = λ k l le on. refl;
  none = λ k less. absurd (omega (arith, less));
  synced = λ k l less on. absurd (omega (arith, less));
  torn = λ k l on. Torn-none (buffer_of x k).place (buffer_of x k).unit (a.holds l) (a.holds l) refl;
  stands = λ k l on. record { leb = refl; unit = refl; later = omega arith; taken = 0; text = sym (append-nil (text_of a (buffer_of x k) l)) };
  works = Works-none a (IsHeads x) (AreLeft a x) (open_left a x is);
  count = omega arith;
  sure = λ h. inr (h, refl);
}

-- the LEB of another head isn't that of head n
apart : (b : VolumeState) (x y : Heads) (n k l : ℕ) → AreOpen b y → ((m : ℕ) → (buffer_of y m).leb ≡ (buffer_of x m).leb) → k ≢ n → IsOn x k l → (buffer_of y n).leb ≡ Some l → ⊥
apart b x y n k l is leb ne on_k on_n = ne (is.apart k n l (leb k ∙ on_k) on_n)

-- a free LEB isn't that of head n
free_off : (x y : Heads) (n l : ℕ) → ((m : ℕ) → (buffer_of y m).leb ≡ (buffer_of x m).leb) → IsFree x l → (buffer_of y n).leb ≡ Some l → ⊥
free_off x y n l leb free on = free n (sym (leb n) ∙ on)

-- what a cut leaves of the LEB of a head while head n is synced, where c is what it leaves of it
torn_left : (a b : VolumeState) (x y : Heads) (n : ℕ) (c : ℕ → List ℕ) → Syncing a b x y n → IsHeadLeft b (buffer_of y n) c
    → (k l : ℕ) → IsOn x k l → Torn (buffer_of x k).place (buffer_of x k).unit (a.holds l) (c l)
torn_left a b x y n c so left k l on = elim (cases_eq k n) [
  | inl here ↦
      let P : ℕ → Type 0 = λ m. IsOn x m l in
      let Q : Buffered → Type 0 = λ z. Torn z.place z.unit (b.holds l) (c l) in
      let R : List ℕ → Type 0 = λ leb. Torn (buffer_of x n).place (buffer_of x n).unit leb (c l) in
      let S : ℕ → Type 0 = λ m. Torn (buffer_of x m).place (buffer_of x m).unit (a.holds l) (c l) in
      let on_n = subst P here on in
      let least : n ≤ n = omega arith in
      subst S (sym here) (subst R (so.held n l least on_n) (subst Q (so.behind n least) (left.here l (so.leb n ∙ on_n))))
  | inr there ↦
      let P : List ℕ → Type 0 = λ leb. Torn (buffer_of x k).place (buffer_of x k).unit (a.holds l) leb in
      let now : c l ≡ b.holds l = (so.open_now.each k l (so.leb k ∙ on)).settled (c l) (left.there l (apart b x y n k l so.open_now so.leb there on)) in
      subst P (sym now) (so.torn k l on)
]

left_then : (a b : VolumeState) (x y : Heads) (n : ℕ) (c : ℕ → List ℕ) → Syncing a b x y n → IsHeadLeft b (buffer_of y n) c → AreLeft a x c
left_then a b x y n c so left = record {
  each = torn_left a b x y n c so left;
  others = λ l free. let heads : IsHeads x l → ⊥ = λ h. free h.0 h.1 in (so.works.others l heads).left (c l) (left.there l (free_off x y n l so.leb free));
}

-- the LEBs of all heads after one head more
torn_then : (a b e : VolumeState) (x y : Heads) (n : ℕ) → Syncing a b x y n → SyncsHead b e (buffer_of y n) → ((k : ℕ) → e.left_now k (e.holds k))
    → (k l : ℕ) → IsOn x k l → Torn (buffer_of x k).place (buffer_of x k).unit (a.holds l) (e.holds l)
torn_then a b e x y n so moved now =
    torn_left a b x y n e.holds so (moved.left e.holds now)

-- a head that was synced before is so after one more
still_synced : (a b e : VolumeState) (x y z : Heads) (n k l : ℕ) → Syncing a b x y n → AreOpen e z → SameShape b e → SyncsHead b e (buffer_of y n) → k ≢ n → buffer_of z k ≡ buffer_of y k → IsOn x k l
    → IsSynced a b (buffer_of x k) (buffer_of y k) l → IsSynced a e (buffer_of x k) (buffer_of z k) l
still_synced a b e x y z n k l so is shape moved ne same on before =
    let off = apart b x y n k l so.open_now so.leb ne on in
    let text : text_of e (buffer_of z k) l ≡ text_of b (buffer_of y k) l = ap (λ (w : Buffered). text_of e w l) same ∙ ap (λ (leb : List ℕ). take (buffer_of y k).place leb ++ (buffer_of y k).tail) (moved.others l off).holds in
    record {
      text = text ∙ before.text;
      end = ap (λ (w : Buffered). w.place) same ∙ before.end;
      open_after = is.each k l (ap (λ (w : Buffered). w.leb) same ∙ so.leb k ∙ on);
      none = ap (λ (w : Buffered). w.tail) same ∙ before.none;
      left = λ c h. before.left c ((moved.others l off).left c h) ∙ ap (filled b.leb_size) (sym text) ∙ ap (λ (s : ℕ). filled s (text_of e (buffer_of z k) l)) (sym shape.leb_size);
    }

-- the head that is synced now
now_synced : (a b e : VolumeState) (x y z : Heads) (n l : ℕ) → Syncing a b x y n → IsSyncedHead b e y z n → IsOn x n l → IsSynced a e (buffer_of x n) (buffer_of z n) l
now_synced a b e x y z n l so done on =
    let least : n ≤ n = omega arith in
    let here = done.synced l (so.leb n ∙ on) in
    let same = so.behind n least in
    let text : text_of b (buffer_of y n) l ≡ text_of a (buffer_of x n) l = ap (λ (w : Buffered). text_of b w l) same ∙ ap (λ (leb : List ℕ). take (buffer_of x n).place leb ++ (buffer_of x n).tail) (so.held n l least on) in
    record {
      text = here.text ∙ ap (λ (w : Buffered). text_of b (buffer_of y n) l ++ padding_of w.unit w.tail) same ∙ ap (λ (bs : List ℕ). bs ++ padding_of (buffer_of x n).unit (buffer_of x n).tail) text;
      end = here.end ∙ ap (λ (w : Buffered). end_of w + length (padding_of w.unit w.tail)) same;
      open_after = here.open_after;
      none = here.none;
      left = here.left;
    }

-- what was put on each head stands after one head more
pub stands_then : (a b e : VolumeState) (x y z : Heads) (n : ℕ) → Syncing a b x y n → SyncsHead b e (buffer_of y n) → AddsTo b e y z n (head_padding y n) → (k : ℕ) → StandsHead a e x z k
stands_then a b e x y z n so moved adds k l on = elim (cases_eq k n) [
  | inl here ↦
      let P : ℕ → Type 0 = λ m. IsOn x m l in
      let Q : ℕ → Type 0 = λ m. Stands a e (buffer_of x m) (buffer_of z m) l (padding_of (buffer_of x m).unit (buffer_of x m).tail) in
      let on_n = subst P here on in
      let least : n ≤ n = omega arith in
      let s = adds.stands l (so.leb n ∙ on_n) in
      let same = so.behind n least in
      let text : text_of b (buffer_of y n) l ≡ text_of a (buffer_of x n) l = ap (λ (w : Buffered). text_of b w l) same ∙ ap (λ (leb : List ℕ). take (buffer_of x n).place leb ++ (buffer_of x n).tail) (so.held n l least on_n) in
      subst Q (sym here) (record {
        leb = s.leb ∙ so.leb n;
        unit = s.unit ∙ ap (λ (w : Buffered). w.unit) same;
        later = let was : (buffer_of y n).place ≡ (buffer_of x n).place = ap (λ (w : Buffered). w.place) same in let later = s.later in omega (arith, was, later);
        taken = s.taken;
        text = s.text ∙ ap (λ (w : Buffered). text_of b (buffer_of y n) l ++ take s.taken (padding_of w.unit w.tail)) same ∙ ap (λ (bs : List ℕ). bs ++ take s.taken (padding_of (buffer_of x n).unit (buffer_of x n).tail)) text;
      })
  | inr there ↦
      let s = so.stands k l on in
      let same = adds.others k there in
      let on_k : IsOn y k l = so.leb k ∙ on in
      let off : (buffer_of y n).leb ≡ Some l → ⊥ = λ h. there (so.open_now.apart k n l on_k h) in
      record {
        leb = ap (λ (w : Buffered). w.leb) same ∙ s.leb;
        unit = ap (λ (w : Buffered). w.unit) same ∙ s.unit;
        later = let is : (buffer_of z k).place ≡ (buffer_of y k).place = ap (λ (w : Buffered). w.place) same in let later = s.later in omega (arith, is, later);
        taken = s.taken;
        text = ap (λ (w : Buffered). text_of e w l) same ∙ ap (λ (leb : List ℕ). take (buffer_of y k).place leb ++ (buffer_of y k).tail) (moved.others l off).holds ∙ s.text;
      }
]

-- what a cut leaves after one head more, whatever the call answered
pub works_then : (a b e : VolumeState) (x y : Heads) (n : ℕ) → Syncing a b x y n → SyncsHead b e (buffer_of y n) → Works a e (IsHeads x) (AreLeft a x)
works_then a b e x y n so moved =
    Works-then a b e (IsHeads x) (λ l. (buffer_of y n).leb ≡ Some l) (IsHeads x) (AreLeft a x) (IsHeadLeft b (buffer_of y n)) (AreLeft a x) (λ k t. t) (λ k on. (n, sym (so.leb n) ∙ on)) (λ c h. h)
    (λ c h. left_then a b x y n c so h) so.works moved

-- one head more
pub syncing_more : (a b e : VolumeState) (x y z : Heads) (n : ℕ) → Syncing a b x y n → SyncsHead b e (buffer_of y n) → ((k : ℕ) → e.left_now k (e.holds k)) → AddsTo b e y z n (head_padding y n) → IsSyncedHead b e y z n
    → a.faults ≤ e.faults → (a.sure → e.spent ⊎ (e.sure × (e.faults ≡ a.faults))) → Syncing a e x z (n + 1)
syncing_more a b e x y z n so moved now adds done count sure = record {
  open_now = done.open_after;
  shape = SameShape-then a b e so.shape adds.shape;
  leb = λ k. elim (cases_eq k n) [
    | inl here ↦ let P : ℕ → Type 0 = λ m. (buffer_of z m).leb ≡ (buffer_of x m).leb in subst P (sym here) (adds.leb ∙ so.leb n)
    | inr there ↦ ap (λ (w : Buffered). w.leb) (adds.others k there) ∙ so.leb k
  ];
  behind = λ k le. let ne : k ≢ n = λ same. absurd (omega (arith, le, same)) in adds.others k ne ∙ so.behind k (omega (arith, le));
  held = λ k l le on. let ne : k ≢ n = λ same. absurd (omega (arith, le, same)) in (moved.others l (apart b x y n k l so.open_now so.leb ne on)).holds ∙ so.held k l (omega (arith, le)) on;
  none = λ k less. elim (cases_eq k n) [
    | inl here ↦ let P : ℕ → Type 0 = λ m. (buffer_of z m).tail ≡ [] in subst P (sym here) done.none
    | inr there ↦ ap (λ (w : Buffered). w.tail) (adds.others k there) ∙ so.none k (omega (arith, less, there))
  ];
  synced = λ k l less on. elim (cases_eq k n) [
    | inl here ↦
        let P : ℕ → Type 0 = λ m. IsSynced a e (buffer_of x m) (buffer_of z m) l in
        let Q : ℕ → Type 0 = λ m. IsOn x m l in
        subst P (sym here) (now_synced a b e x y z n l so done (subst Q here on))
    | inr there ↦ still_synced a b e x y z n k l so done.open_after adds.shape moved there (adds.others k there) on (so.synced k l (omega (arith, less, there)) on)
  ];
  torn = torn_then a b e x y n so moved now;
  stands = stands_then a b e x y z n so moved adds;
  works = works_then a b e x y n so moved;
  count = count;
  sure = sure;
}

-- after the last head
pub syncing_all : (a b : VolumeState) (x y : Heads) (n : ℕ) → 3 ≤ n → Syncing a b x y n → AreSynced a b x y
syncing_all a b x y n past so = record {
  none = λ k less. so.none k (omega (arith, past, less));
  synced = λ k l less on. so.synced k l (omega (arith, past, less)) on;
  open_after = so.open_now;
}

-- a volume that was sure is so after one call more, or spent
pub sure_then : {T : Type 0} (a b e : VolumeState) (r : Result T VolFault) → (b.spent → e.spent) → (a.sure → b.spent ⊎ (b.sure × (b.faults ≡ a.faults))) → StaysSure b e r
    → a.sure → e.spent ⊎ (e.sure × (e.faults ≡ a.faults))
sure_then a b e r spent before now h = elim (before h) [
  | inl gone ↦ inl (spent gone)
  | inr (sure, same) ↦ elim (now sure) [ inl gone ↦ inl gone | inr (still, more) ↦ inr (still, more.0 ∙ same) ]
]
