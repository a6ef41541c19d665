-- A gain worked through: the 10,560 pairs of (1, 0) of Checked, negated or not, turned or not and amplified by 2, find the same offset and metric, and
-- a correlation of (1024, 0), which is (256, 0) multiplied by the gain twice. Multiplied once it would be another.
-- Assumes nothing.
use Rattle.std.specs.Prelude.{ℕ, ◌+◌, ◌*◌, ◌≤◌, ◌<◌, Bool, true, false, List, [], ◌∷◌, ◌≡◌, refl, length, Float, Some, Option, Some, Ok}
use Rattle.std.proofs.Common.{inr, ap, ◌∙◌, le_trans, arith, lit≤}
use Rattle.std.specs.Float.{binary32, binary64}
use Rattle.std.specs.Float.Ieee.{round, mul, lt}
use Rattle.std.specs.Float.Ieee.Back.{round_whole}
use Rattle.ieee.specs.Levels.{Whole, two}
use Rattle.complex.specs.Complex.{Pair, pair}
use Rattle.complex.specs.Changes.{Change}
use Rattle.spectra.specs.Spectra.{pair_at}
use Rattle.spectra.specs.Changes.{Changed, Wholes}
use Rattle.guess.specs.declared.ModeGuess.{ModeGuess}
use Rattle.guess.specs.Guess.{guess_answer}
use Rattle.guess.specs.Louder.{louder}
use Rattle.guess.specs.Changed.{changed_guess}
use Rattle.guess.specs.Checked.{whole, not_refused, code_10560, ones_found}

-- amplified by 2
abbrev doubled : Bool → Bool → Change
doubled negates turns = record { negates = λ j. negates; turns = turns; gain = 1 }

-- 0 and 1 are whole numbers
small_whole : (n : ℕ) → n ≤ 1 → Whole 15 (whole binary32 n)
small_whole n h = record { sign = false; size = n; few = le_trans h (lit≤ tt); is = round_whole binary32 false n (le_trans h (lit≤ tt)) }

-- 256 and 0 times 4, and 256 times 2
twice_256 : mul binary64 (whole binary64 256) (two 2) ≡ whole binary64 1024
unfolding round mul
twice_256 = refl

twice_0 : mul binary64 (whole binary64 0) (two 2) ≡ whole binary64 0
unfolding round mul
twice_0 = refl

pub once_is_less : lt (mul binary64 (whole binary64 256) (two 1)) (whole binary64 1024) ≡ true
unfolding round mul lt
once_is_less = refl

module _ (xs : List Float) (n : length xs ≡ 2 * 10560) (h : (i : ℕ) → i < 10560 → pair_at xs i ≡ pair (whole binary32 1) (whole binary32 0)) where
  all_whole : Wholes 1 xs
  all_whole =
      record {
        pairs = λ j b J B.
            let p = h (j * 1 + b) (omega (arith, rw n at J)) in
            record { re = rw (ap (λ (x : Pair). x.re) p) (small_whole 1 (lit≤ tt)); im = rw (ap (λ (x : Pair). x.im) p) (small_whole 0 (lit≤ tt)) };
      }

  pub doubled_found : (negates turns : Bool) (ys : List Float) (scratch : ℕ) → 3 * 10561 ≤ scratch → Changed (doubled negates turns) 1 (λ b. b) xs ys
      → guess_answer ys (1 ∷ []) (32 ∷ []) scratch
      ≡ Ok (Some (record {
        mode = 1;
        guard = 32;
        offset = 0;
        metric = whole binary64 1;
        correlation = record { re = whole binary64 1024; im = whole binary64 0 };
      }))
  doubled_found negates turns ys scratch r c =
      not_refused ys (1 ∷ []) (32 ∷ []) scratch (code_10560 (length ys) scratch (c.long ∙ n) r)
      ∙ ap Ok (changed_guess negates (doubled negates turns) xs ys (1 ∷ []) (32 ∷ []) refl (rw n (lit≤ tt)) (inr (lit≤ tt, all_whole)) c)
      ∙ ap (λ (b : Option ModeGuess). Ok (louder 1 b)) (ones_found xs n h)
      ∙ (λ j. Ok (Some (record { mode = 1; guard = 32; offset = 0; metric = whole binary64 1; correlation = record { re = twice_256 j; im = twice_0 j } })))
