-- The bound of a body.
use Rattle.std.proofs.Common.{◌≡◌, ℕ, ◌+◌, ◌-◌, ◌<◌, ◌≤◌, Bool, true, false, leb, sym, refl, arith, le-leb, leb-false, leb-true}
use borrow.Author.Tests.{lt-leb}
use Rattle.sched.specs.Chunk.{body_fits}

module _ (L n : ℕ) where
  pub fits : n + 8 ≤ L → body_fits L n ≡ true
  unfolding body_fits
  fits h = le-leb (n + 8) L h

  pub fits_not : L < n + 8 → body_fits L n ≡ false
  unfolding body_fits
  fits_not h = lt-leb (n + 8) L h

  pub fits_by : body_fits L n ≡ true → n + 8 ≤ L
  unfolding body_fits
  fits_by h = leb-true (n + 8) L h

  pub fits_not_by : body_fits L n ≡ false → L < n + 8
  unfolding body_fits
  fits_not_by h = leb-false (n + 8) L h

  -- the tests of the code
  pub no_header : L < 8 → false ≡ body_fits L n
  no_header h = sym (fits_not (omega (arith, h)))

  pub behind_header_lem : 8 ≤ L → leb n (L - 8) ≡ body_fits L n
  behind_header_lem h = by (leb n (L - 8)) refl
    where
      by : (b : Bool) → leb n (L - 8) ≡ b → b ≡ body_fits L n
      by true k = sym (fits (omega (arith, h, leb-true n (L - 8) k)))
      by false k = sym (fits_not (omega (arith, h, leb-false n (L - 8) k)))
