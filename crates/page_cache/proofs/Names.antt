-- Names of pages tell pages apart.
use Rattle.std.proofs.Common.{◌≡◌, ℕ, true}
use Rattle.std.specs.Cmp.{IsEquivalence}
use Rattle.std.proofs.lemmas.Cmp.{nat_eq_equiv, on_equiv, and_equiv}
use Rattle.page_cache.specs.Pages.{is_page}

pub is_page_laws : IsEquivalence is_page
is_page_laws = and_equiv (on_equiv (λ (a : ℕ × ℕ). a.0) nat_eq_equiv) (on_equiv (λ (a : ℕ × ℕ). a.1) nat_eq_equiv)

-- the test for a page's name passes equal names alone
pub is_page_test : (name x y : ℕ × ℕ) → is_page name x ≡ true → is_page name y ≡ is_page x y
is_page_test name x y is = is_page_laws.congr name x y is
