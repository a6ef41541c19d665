-- What callers use of the sizes: bounds, and how they depend on one another.
-- Assumes nothing.
use Rattle.std.specs.Prelude.{ℕ, zero, suc, ◌+◌, ◌*◌, ◌≤◌, ◌≡◌, Bool, true, false, cond, eqb, List, length, set, Ok, Err, refl}
use Rattle.std.proofs.Common.{lit≤, sym, arith}
use Rattle.std.proofs.lemmas.Bool.{eqb-true, eqb-false}
use Rattle.std.proofs.lemmas.List.{length-map, map-set}
use Rattle.params.specs.declared.SegmentKind.{SegmentKind}
use Rattle.params.specs.declared.Refusal.{Refusal}
use Rattle.params.specs.declared.Refusal.TheVariants.{BadMode, BadKinds, BadPhase, Outside, NotWhole, NoSpectra, WrongLength}
use Rattle.params.specs.declared.Refusal.TheVariants.{BadBound, BadGuard, TooWide, BadForm}
use Rattle.params.specs.declared.Mode.{Mode}
use Rattle.params.specs.declared.Mode.TheVariants.{M1, M2, M3}
use Rattle.params.specs.Params.{carriers_per_segment, data_carriers_per_segment, total_carriers, fft_size}
use Rattle.params.specs.Params.{refusal_number, refusal_of, code_of, answered, kind_code, kind_codes}

-- what bounds the sizes of any mode
pub record Sized (m : Mode) : Type 0 where
  pub carriers_low : 108 ≤ carriers_per_segment m
  pub carriers_high : carriers_per_segment m ≤ 432
  pub data_high : data_carriers_per_segment m ≤ carriers_per_segment m
  -- thirteen segments and the edge
  pub band : total_carriers m ≡ 13 * carriers_per_segment m + 1
  pub band_high : total_carriers m ≤ 5617
  -- the band lies within the FFT
  pub within : total_carriers m ≤ fft_size m
  pub fft_high : fft_size m ≤ 8192

pub sized : (m : Mode) → Sized m
sized M1 =
    record { carriers_low = lit≤ tt; carriers_high = lit≤ tt; data_high = lit≤ tt; band = refl; band_high = lit≤ tt; within = lit≤ tt; fft_high = lit≤ tt }
sized M2 =
    record { carriers_low = lit≤ tt; carriers_high = lit≤ tt; data_high = lit≤ tt; band = refl; band_high = lit≤ tt; within = lit≤ tt; fft_high = lit≤ tt }
sized M3 =
    record { carriers_low = lit≤ tt; carriers_high = lit≤ tt; data_high = lit≤ tt; band = refl; band_high = lit≤ tt; within = lit≤ tt; fft_high = lit≤ tt }

-- ---- the codes of kinds: as many, and one more read is one more code
pub codes_length : (kinds : List SegmentKind) → length (kind_codes kinds) ≡ length kinds
unfolding kind_codes
codes_length kinds = length-map kinds kind_code

pub codes_set : (kinds : List SegmentKind) (seg : ℕ) (kind : SegmentKind) → kind_codes (set kinds seg kind) ≡ set (kind_codes kinds) seg (kind_code kind)
unfolding kind_codes
codes_set kinds seg kind = map-set kind_code kinds seg kind

-- ---- the numbers of refusals are 1 to 11
pub numbered : (n : ℕ) → (n ≡ 0 → ⊥) → n ≤ 11 → refusal_number (refusal_of n) ≡ n
numbered zero h l = absurd (h refl)
numbered (suc zero) h l = refl
numbered (suc (suc zero)) h l = refl
numbered (suc (suc (suc zero))) h l = refl
numbered (suc (suc (suc (suc zero)))) h l = refl
numbered (suc (suc (suc (suc (suc zero))))) h l = refl
numbered (suc (suc (suc (suc (suc (suc zero)))))) h l = refl
numbered (suc (suc (suc (suc (suc (suc (suc zero))))))) h l = refl
numbered (suc (suc (suc (suc (suc (suc (suc (suc zero)))))))) h l = refl
numbered (suc (suc (suc (suc (suc (suc (suc (suc (suc zero))))))))) h l = refl
numbered (suc (suc (suc (suc (suc (suc (suc (suc (suc (suc zero)))))))))) h l = refl
numbered (suc (suc (suc (suc (suc (suc (suc (suc (suc (suc (suc zero))))))))))) h l = refl
numbered (suc (suc (suc (suc (suc (suc (suc (suc (suc (suc (suc (suc n)))))))))))) h l = absurd (omega arith)

pub answered_code : {A : Type 0} (code : ℕ) (x : A) → code ≤ 11 → code_of (answered code x) ≡ code
answered_code {A} code x l = by (eqb code 0) refl
  where
    by : (b : Bool) → eqb code 0 ≡ b → code_of {A = A} (cond b (Ok x) (Err (refusal_of code))) ≡ code
    by true e = sym (eqb-true code 0 e)
    by false e = numbered code (eqb-false code 0 e) l

-- a refusal comes back from its number, whatever the call would have answered
pub refused_again : {A : Type 0} (refusal : Refusal) (x : A) → Err refusal ≡ answered (refusal_number refusal) x
refused_again BadMode x = refl
refused_again BadKinds x = refl
refused_again BadPhase x = refl
refused_again Outside x = refl
refused_again NotWhole x = refl
refused_again NoSpectra x = refl
refused_again WrongLength x = refl
refused_again BadBound x = refl
refused_again BadGuard x = refl
refused_again TooWide x = refl
refused_again BadForm x = refl

-- and that number is not 0
pub some_number : (refusal : Refusal) → refusal_number refusal ≡ 0 → ⊥
some_number BadMode e = absurd (omega arith)
some_number BadKinds e = absurd (omega arith)
some_number BadPhase e = absurd (omega arith)
some_number Outside e = absurd (omega arith)
some_number NotWhole e = absurd (omega arith)
some_number NoSpectra e = absurd (omega arith)
some_number WrongLength e = absurd (omega arith)
some_number BadBound e = absurd (omega arith)
some_number BadGuard e = absurd (omega arith)
some_number TooWide e = absurd (omega arith)
some_number BadForm e = absurd (omega arith)
