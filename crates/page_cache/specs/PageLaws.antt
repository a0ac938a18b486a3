-- What callers of a cache may count on: the page that comes next is as its ticket says, and once it is marked clean there is
-- one dirty page less. A page that was given other bytes is as before once it has its own again.
use Rattle.std.proofs.Common.{◌≡◌, ℕ, ◌+◌, Bool, true, false, cond, List, [], ◌∷◌, length, slice_get, Option, Some, None, refl, sym, ap, subst, ◌∙◌, arith}
use Rattle.std.specs.Prelude.{filter, ◌==◌, ◌&&◌}
use Rattle.std.specs.List.{AllByRecursion, IsDistinct}
use Rattle.std.specs.Option.{option_map, option_map_or}
use Rattle.std.specs.Map.{keys_of, lookup, remove_entry, set_value}
use Rattle.std.proofs.lemmas.Bool.{false≢true, eqb-true, eq-eqb}
use Rattle.std.proofs.lemmas.Map.Keys.{IsDistinct-head, IsDistinct-tail}
use Rattle.page_cache.specs.declared.dirty_page.DirtyPage.{DirtyPage}
use Rattle.page_cache.specs.declared.ticket.Ticket.{Ticket}
use Rattle.page_cache.specs.Pages.{Pages, IsCache, is_page, pages_of, ticket_of, next_of, dirty_at, is_current, with_bytes, without_dirty}

both : (a b : Bool) → (a && b) ≡ true → (a ≡ true) × (b ≡ true)
both true b h = (refl, h)
both false b h = absurd (false≢true h)

-- two names of one page are equal
pub is_page_same : (a b : ℕ × ℕ) → is_page a b ≡ true → a ≡ b
is_page_same a b is =
    let parts = both (a.0 == b.0) (a.1 == b.1) is in
    let first = eqb-true a.0 b.0 parts.0 in
    let second = eqb-true a.1 b.1 parts.1 in
    λ i. (first i, second i)

own_name : (a : ℕ × ℕ) → is_page a a ≡ true
own_name a = rw (eq-eqb a.0 a.0 refl, eq-eqb a.1 a.1 refl) refl

module _ {V : Type 0} where
  none_there : (name : ℕ × ℕ) (es : List ((ℕ × ℕ) × V)) → AllByRecursion (λ k. is_page name k ≡ false) (keys_of es) → lookup (is_page name) es ≡ None
  none_there name [] all = refl
  none_there name (e ∷ es) all = rw all.0 (none_there name es all.1)

  -- of distinct pages, the first one that passes a test is found by its name, and without it one fewer passes
  first_passing : (p : (ℕ × ℕ) × V → Bool) (es : List ((ℕ × ℕ) × V)) (e : (ℕ × ℕ) × V) → IsDistinct is_page (keys_of es) → slice_get (filter p es) 0 ≡ Some e
      → (lookup (is_page e.0) es ≡ Some e.1) × (length (filter p (remove_entry (is_page e.0) es)) + 1 ≡ length (filter p es))
  first_passing p [] e once is = absurd cc
  first_passing p (f ∷ es) e once is =
      (elim (p f) as (λ b. p f ≡ b → (lookup (is_page e.0) (f ∷ es) ≡ Some e.1) × (length (filter p (remove_entry (is_page e.0) (f ∷ es))) + 1 ≡ length (filter p (f ∷ es)))) [
        | true ↦ λ t.
            let is' = rw t at is in
            let same : f ≡ e = cc in
            let named : is_page e.0 f.0 ≡ true = subst (λ (g : (ℕ × ℕ) × V). is_page e.0 g.0 ≡ true) (sym same) (own_name e.0) in
            (rw named (ap (λ (g : (ℕ × ℕ) × V). Some g.1) same), rw (named, t) (omega arith))
        | false ↦ λ t.
            let rest = first_passing p es e (IsDistinct-tail is_page f.0 (keys_of es) once) (rw t at is) in
            let other : is_page e.0 f.0 ≡ false = apart f.0 e.0 es e.1 (IsDistinct-head is_page f.0 (keys_of es) once) rest.0 in
            (rw other rest.0, rw (other, t) rest.1)
      ]) refl
    where
      apart : (name other : ℕ × ℕ) (es : List ((ℕ × ℕ) × V)) (v : V) → AllByRecursion (λ k. is_page name k ≡ false) (keys_of es) → lookup (is_page other) es ≡ Some v → is_page other name ≡ false
      apart name other es v all found = (elim (is_page other name) as (λ b. is_page other name ≡ b → b ≡ false) [
        | true ↦ λ t.
            let none : lookup (is_page other) es ≡ None = subst (λ m. lookup (is_page m) es ≡ None) (sym (is_page_same other name t)) (none_there name es all) in
            absurd cc
        | false ↦ λ t. refl
      ]) refl

told_of : (o : Option ((ℕ × ℕ) × DirtyPage)) (ticket : Ticket) → option_map ticket_of o ≡ Some ticket → (e : (ℕ × ℕ) × DirtyPage) × (o ≡ Some e) × (ticket ≡ ticket_of e)
told_of None ticket is = absurd cc
told_of (Some e) ticket is = (e, refl, cc)

module _ (pages : Pages) (ino : ℕ) (ticket : Ticket) (cache : IsCache pages) (next : next_of pages ino ≡ Some ticket) where
  -- the ticket is current
  pub next_is_current : is_current pages ticket ≡ true
  next_is_current =
      let told = told_of (slice_get (pages_of pages.dirty ino) 0) ticket next in
      let found = first_passing (λ e. e.0.0 == ino) pages.dirty told.0 cache.dirty_once told.1 in
      subst (λ t. is_current pages t ≡ true) (sym told.2) (ap (λ o. option_map_or (λ (page : DirtyPage). page.version == told.0.1.version) o false) found.0 ∙ eq-eqb told.0.1.version told.0.1.version refl)

  -- without its page the inode has one dirty page less
  pub next_leaves_fewer : length (pages_of (without_dirty pages ticket.ino ticket.block).dirty ino) + 1 ≡ length (pages_of pages.dirty ino)
  next_leaves_fewer =
      let told = told_of (slice_get (pages_of pages.dirty ino) 0) ticket next in
      let found = first_passing (λ e. e.0.0 == ino) pages.dirty told.0 cache.dirty_once told.1 in
      subst (λ t. length (pages_of (without_dirty pages t.ino t.block).dirty ino) + 1 ≡ length (pages_of pages.dirty ino)) (sym told.2) found.1

module _ {K V : Type 0} (test : K → Bool) where
  -- a value that was set is found
  set_found : (es : List (K × V)) (v w : V) → lookup test es ≡ Some v → lookup test (set_value test es w) ≡ Some w
  set_found [] v w h = absurd cc
  set_found (e ∷ es) v w h = (elim (test e.0) as (λ b. test e.0 ≡ b → lookup test (set_value test (e ∷ es) w) ≡ Some w) [
    | true ↦ λ t. ap (λ b. lookup test (cond b ((e.0, w) ∷ es) (e ∷ set_value test es w))) t ∙ ap (λ b. cond b (Some w) (lookup test es)) t
    | false ↦ λ t.
        ap (λ b. lookup test (cond b ((e.0, w) ∷ es) (e ∷ set_value test es w))) t
        ∙ (ap (λ b. cond b (Some e.1) (lookup test (set_value test es w))) t
        ∙ set_found es v w (sym (ap (λ b. cond b (Some e.1) (lookup test es)) t) ∙ h))
  ]) refl

  -- what was there is there again once it is set
  set_back : (es : List (K × V)) (v w : V) → lookup test es ≡ Some v → set_value test (set_value test es w) v ≡ es
  set_back [] v w h = absurd cc
  set_back (e ∷ es) v w h = (elim (test e.0) as (λ b. test e.0 ≡ b → set_value test (set_value test (e ∷ es) w) v ≡ e ∷ es) [
    | true ↦ λ t.
        let one : Some e.1 ≡ Some v = sym (ap (λ b. cond b (Some e.1) (lookup test es)) t) ∙ h in
        let same : v ≡ e.1 = sym (cc one) in
        ap (λ b. set_value test (cond b ((e.0, w) ∷ es) (e ∷ set_value test es w)) v) t
        ∙ (ap (λ b. cond b ((e.0, v) ∷ es) ((e.0, w) ∷ set_value test es v)) t
        ∙ ap (λ (x : V). (e.0, x) ∷ es) same)
    | false ↦ λ t.
        ap (λ b. set_value test (cond b ((e.0, w) ∷ es) (e ∷ set_value test es w)) v) t
        ∙ (ap (λ b. cond b ((e.0, v) ∷ set_value test es w) (e ∷ set_value test (set_value test es w) v)) t
        ∙ ap (λ l. e ∷ l) (set_back es v w (sym (ap (λ b. cond b (Some e.1) (lookup test es)) t) ∙ h)))
  ]) refl

  -- what is taken out needn't be set before
  set_removed : (es : List (K × V)) (w : V) → remove_entry test (set_value test es w) ≡ remove_entry test es
  set_removed [] w = refl
  set_removed (e ∷ es) w = (elim (test e.0) as (λ b. test e.0 ≡ b → remove_entry test (set_value test (e ∷ es) w) ≡ remove_entry test (e ∷ es)) [
    | true ↦ λ t.
        ap (λ b. remove_entry test (cond b ((e.0, w) ∷ es) (e ∷ set_value test es w))) t
        ∙ (ap (λ b. cond b es ((e.0, w) ∷ remove_entry test es)) t
        ∙ sym (ap (λ b. cond b es (e ∷ remove_entry test es)) t))
    | false ↦ λ t.
        ap (λ b. remove_entry test (cond b ((e.0, w) ∷ es) (e ∷ set_value test es w))) t
        ∙ (ap (λ b. cond b (set_value test es w) (e ∷ remove_entry test (set_value test es w))) t
        ∙ (ap (λ l. e ∷ l) (set_removed es w)
        ∙ sym (ap (λ b. cond b es (e ∷ remove_entry test es)) t)))
  ]) refl

-- a page that was found has the ticket's version
current_page : (o : Option DirtyPage) (version : ℕ) → option_map_or (λ (page : DirtyPage). page.version == version) o false ≡ true → (page : DirtyPage) × (o ≡ Some page) × (page.version ≡ version)
current_page None version is = absurd (false≢true is)
current_page (Some page) version is = (page, refl, eqb-true page.version version is)

module _ (pages : Pages) (ticket : Ticket) (bytes : List ℕ) where
  -- a page that has other bytes has the ticket's version still
  pub exchanged_is_current : is_current pages ticket ≡ true → is_current (with_bytes pages ticket bytes) ticket ≡ true
  exchanged_is_current is =
      let told = current_page (dirty_at pages ticket.ino ticket.block) ticket.version is in
      let found = set_found (is_page (ticket.ino, ticket.block)) pages.dirty told.0 (record { bytes = bytes; version = ticket.version }) told.1 in
      ap (λ o. option_map_or (λ (page : DirtyPage). page.version == ticket.version) o false) found ∙ eq-eqb ticket.version ticket.version refl

  -- once it has its own bytes again all is as before
  pub exchanged_back : (own : List ℕ) → is_current pages ticket ≡ true → option_map (λ (page : DirtyPage). page.bytes) (dirty_at pages ticket.ino ticket.block) ≡ Some own
      → with_bytes (with_bytes pages ticket bytes) ticket own ≡ pages
  exchanged_back own is has =
      let told = current_page (dirty_at pages ticket.ino ticket.block) ticket.version is in
      let one : Some told.0.bytes ≡ Some own = sym (ap (option_map (λ (page : DirtyPage). page.bytes)) told.1) ∙ has in
      let same : told.0.bytes ≡ own = cc one in
      let page : Some told.0 ≡ Some (record { bytes = own; version = ticket.version }) = ap (λ bytes. Some (record { bytes = bytes; version = told.0.version })) same ∙ ap (λ version. Some (record { bytes = own; version = version })) told.2 in
      ap (λ dirty. record pages { dirty = dirty })
      (set_back (is_page (ticket.ino, ticket.block)) pages.dirty (record { bytes = own; version = ticket.version }) (record { bytes = bytes; version = ticket.version }) (told.1 ∙ page))

  -- without it nothing shows that it had other bytes
  pub exchanged_without : without_dirty (with_bytes pages ticket bytes) ticket.ino ticket.block ≡ without_dirty pages ticket.ino ticket.block
  exchanged_without =
      ap (λ dirty. record pages { dirty = dirty })
      (set_removed (is_page (ticket.ino, ticket.block)) pages.dirty (record { bytes = bytes; version = ticket.version }))
