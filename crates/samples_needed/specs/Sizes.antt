-- What the codes of modes and guards bound: a mode has 2,048 to 8,192 samples, and no guard's denominator is 0.
-- Assumes nothing.
use Rattle.params.specs.declared.Mode.{Mode}
use Rattle.std.specs.Prelude.{ℕ, zero, suc, ◌+◌, ◌*◌, ◌/◌, ◌≤◌, ◌<◌, true, ◌≡◌, Option, Some, None}
use Rattle.std.proofs.Common.{zero-lt-suc, mul-le-mul, div-le_self, arith, lit≤}
use Rattle.params.specs.declared.Mode.TheVariants.{M1, M2, M3}
use Rattle.params.specs.Params.{mode_from}
use Rattle.samples_needed.specs.Samples.{known_mode, is_mode, is_guard, size_of, fft_of}

pub large : (mode : ℕ) → is_mode mode ≡ true → 2048 ≤ fft_of mode
large mode = size (mode_from mode)
  where
    size : (m : Option Mode) → known_mode m ≡ true → 2048 ≤ size_of m
    size None h = absurd (let z : ◌≡◌ {A = ℕ} 0 1 = cc in omega arith)
    size (Some M1) h = lit≤ tt
    size (Some M2) h = lit≤ tt
    size (Some M3) h = lit≤ tt

pub small : (mode n : ℕ) → n ≡ fft_of mode → n ≤ 8192
small mode n e = rw e (size (mode_from mode))
  where
    size : (m : Option Mode) → size_of m ≤ 8192
    size None = omega arith
    size (Some M1) = omega arith
    size (Some M2) = omega arith
    size (Some M3) = omega arith

pub some : (d : ℕ) → is_guard d ≡ true → 0 < d
some zero e = absurd (let z : ◌≡◌ {A = ℕ} 0 1 = cc in omega arith)
some (suc d) e = zero-lt-suc d

-- so what at most 64 symbols need fits
pub record Bounded (symbols n d : ℕ) : Type 0 where
  pub size : n ≤ 8192
  pub guard : n / d ≤ n
  pub most : (symbols + 1) * (n + n / d) ≤ 65 * 16384

pub bounded : (symbols mode n d : ℕ) → symbols ≤ 64 → n ≡ fft_of mode → Bounded symbols n d
bounded symbols mode n d s e =
    let h : n ≤ 8192 = small mode n e in
    let g : n / d ≤ n = div-le_self n d in
    let half : n + n / d ≤ 16384 = omega arith in
    let more : symbols + 1 ≤ 65 = omega arith in
    record { size = h; guard = g; most = mul-le-mul more half }
