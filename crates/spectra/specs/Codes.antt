-- What the refusal of spectra decides: the tests behind it count only where it is 0, and then the floats are whole spectra, 1 to 1,024 of them.
-- Assumes nothing.
use Rattle.std.specs.Prelude.{ℕ, zero, suc, ◌+◌, ◌*◌, ◌%◌, ◌≤◌, ◌<◌, ◌≡◌, eqb, leb, ltb}
use Rattle.std.proofs.Common.{zero-mul, zero-lt-suc, div-add-mod', arith, eqb-true, leb-true, ltb-true, lit<, lit≤}
use Rattle.lists.specs.Refusals.{unless, unless_most, passed, InFront, one_in_front, both_in_front}
use Rattle.lists.specs.Tests.{both_left, both_right}
use Rattle.spectra.specs.Spectra.{spectra_in, are_spectra, spectra_code}

pub later_counts : (len n : ℕ) → InFront (spectra_code len n)
later_counts len n =
    let whole = are_spectra len n in
    both_in_front (unless whole 5) (unless (ltb 0 n) 6) (one_in_front whole 5 (lit< tt)) (one_in_front (ltb 0 n) 6 (lit< tt))

pub code_most : (len n later : ℕ) → later ≤ 11 → spectra_code len n later ≤ 11
code_most len n later l =
    unless_most (are_spectra len n) 5 _ 11 (lit≤ tt) (unless_most (ltb 0 n) 6 later 11 (lit≤ tt) l)

pub record Accepted (len n later : ℕ) : Type 0 where
  pub whole : n % (2 * len) ≡ 0
  pub some : 0 < spectra_in len n
  pub few : spectra_in len n ≤ 1024
  pub rest : later ≡ 0

some_wholes : (q w r n : ℕ) → q * w + r ≡ n → r ≡ 0 → 0 < n → 0 < q
some_wholes zero w r n e z h = absurd (omega (arith, zero-mul w))
some_wholes (suc q) w r n e z h = zero-lt-suc q

pub accepted : (len n later : ℕ) → spectra_code len n later ≡ 0 → Accepted len n later
accepted len n later e =
    let spectral = passed (are_spectra len n) 5 _ (lit< tt) e in
    let any = passed (ltb 0 n) 6 later (lit< tt) spectral.rest in
    let t = eqb (n % (2 * len)) 0 in
    let u = leb (spectra_in len n) 1024 in
    let wholes = eqb-true _ _ (both_left t u spectral.first) in
    record {
      whole = wholes;
      some = some_wholes _ (2 * len) _ n (div-add-mod' n (2 * len)) wholes (ltb-true _ _ any.first);
      few = leb-true _ _ (both_right t u spectral.first);
      rest = any.rest;
    }
