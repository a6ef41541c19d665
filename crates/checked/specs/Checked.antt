-- The checked values of document 01, mode 1, as one table. A row of the role map, the sign map or the guess says what a call gives that meets the
-- operation's contract, whatever its lent buffer held; a row of the bins is over the answer that the contract of the lookup cites.
-- Assumes nothing.
use Rattle.std.specs.Prelude.{ℕ, ◌*◌, ◌<◌, ◌≤◌, true, List, [], ◌∷◌, ◌++◌, ◌≡◌, refl, get_or, length, take, replicate}
use Rattle.std.specs.Prelude.{Float, Option, Some, None, Result, Ok, Err}
use Rattle.std.proofs.Common.{◌∙◌}
use Rattle.std.specs.Float.{binary32, binary64}
use Rattle.params.specs.declared.Mode.TheVariants.{M1}
use Rattle.params.specs.Params.{mode_from}
use Rattle.params.specs.declared.Refusal.TheVariants.{Outside}
use Rattle.ofdm.specs.Band.{bin_lookup}
use Rattle.frame.specs.declared.AcKind.TheVariants.{Ac1, Ac2}
use Rattle.frame.specs.declared.CarrierRole.{CarrierRole}
use Rattle.frame.specs.declared.CarrierRole.TheVariants.{Sp, Cp, Tmcc, Ac}
use Rattle.frame.specs.Roles.{role_byte, place_role, segment_roles, band_roles, wide}
use Rattle.frame.specs.Operations.{are_kinds, symbol_code, symbol_leaves, RoleMap}
use Rattle.complex.specs.Complex.{pair}
use Rattle.spectra.specs.Spectra.{pair_at}
use Rattle.guess.specs.Guess.{Searched}
use Rattle.guess.specs.Checked.{whole, one_short, offset_zero}
use Rattle.params.specs.declared.Refusal.{Refusal}
use Rattle.guess.specs.declared.ModeGuess.{ModeGuess}
use Rattle.prbs.specs.Signs.{after, segment_signs, band_signs}
use Rattle.prbs.specs.SignMap.{sign_map_code, sign_map_leaves, SignMap}

-- a call that is lent any 1,405 bytes is accepted, and this holds of what it leaves in them
abbrev Leaves : (List ℕ → ℕ → List ℕ → Type 0) → (List ℕ → Type 0) → Type 0
Leaves Contract Holds = (out out' : List ℕ) (code : ℕ) → length out ≡ 1405 → Contract out code out' → (code ≡ 0) × Holds out'

-- the role map at phase 0, of thirteen kinds, gives carrier k a role
abbrev Role : List ℕ → ℕ → CarrierRole → Type 0
Role kinds k role = Leaves (RoleMap (mode_from 1) 0 kinds) (λ roles. get_or roles k 0 ≡ role_byte role)

-- all coherent; and segment 0 differential
abbrev coherent : List ℕ
coherent = replicate 13 0

abbrev differential_0 : List ℕ
differential_0 = 1 ∷ replicate 12 0

-- this holds of what the sign map leaves
abbrev Signs : (List ℕ → Type 0) → Type 0
Signs = Leaves (SignMap (mode_from 1))

-- the guess with only 1/32 tried, its scratch of at least so many entries, answers r
abbrev Guess : List Float → ℕ → Result (Option ModeGuess) Refusal → Type 0
Guess xs entries r =
    (old now : List Float) (answer : Result (Option ModeGuess) Refusal) → entries ≤ length old → Searched xs (1 ∷ []) (32 ∷ []) old answer now
    → answer ≡ r

pub record Checked : Type 0 where
  pub bin_of_0 : bin_lookup (mode_from 1) 0 ≡ Ok (record { 0 = 1346 })
  pub bin_of_702 : bin_lookup (mode_from 1) 702 ≡ Ok (record { 0 = 0 })
  pub bin_of_1404 : bin_lookup (mode_from 1) 1404 ≡ Ok (record { 0 = 702 })
  pub bin_of_1405 : bin_lookup (mode_from 1) 1405 ≡ Err Outside
  pub coherent_648 : Role coherent 648 Sp
  pub coherent_683 : Role coherent 683 (Ac Ac1)
  pub coherent_697 : Role coherent 697 Tmcc
  pub differential_648 : Role differential_0 648 Cp
  pub differential_651 : Role differential_0 651 (Ac Ac2)
  -- eleven 1, nine 0, two 1
  pub signs_from_0 : Signs (λ signs. take 22 signs ≡ replicate 11 1 ++ (replicate 9 0 ++ replicate 2 1))
  pub sign_of_1404 : Signs (λ signs. get_or signs 1404 0 ≡ 1)
  -- 10,559 pairs find nothing whatever they hold; 10,560 pairs of (1, 0) find offset 0, with metric 1 and correlation (256, 0)
  pub pairs_10559 : (xs : List Float) → length xs ≡ 2 * 10559 → Guess xs (3 * 10560) (Ok None)
  pub pairs_10560 : (xs : List Float) → length xs ≡ 2 * 10560 → ((i : ℕ) → i < 10560 → pair_at xs i ≡ pair (whole binary32 1) (whole binary32 0))
      → Guess xs (3 * 10561)
      (Ok (Some (record {
        mode = 1;
        guard = 32;
        offset = 0;
        metric = whole binary64 1;
        correlation = record { re = whole binary64 256; im = whole binary64 0 };
      })))

-- ---- what such a call leaves is the whole list of the mode
role : (kinds : List ℕ) (k : ℕ) (r : CarrierRole) → are_kinds kinds ≡ true → get_or (band_roles M1 0 (wide kinds)) k 0 ≡ role_byte r → Role kinds k r
unfolding symbol_code symbol_leaves
role kinds k r g e out out' code n h = (h.code ∙ rw (g, n), let all : out' ≡ band_roles M1 0 (wide kinds) = h.leaves ∙ rw (g, n) in rw all e)

signs : (Holds : List ℕ → Type 0) → Holds (band_signs M1) → Signs Holds
unfolding sign_map_code sign_map_leaves
signs Holds e out out' code n h = (h.code ∙ rw n, let all : out' ≡ band_signs M1 = h.leaves ∙ rw n in rw all e)

pub checked : Checked
unfolding band_roles segment_roles place_role band_signs segment_signs after
checked =
    record {
      bin_of_0 = refl;
      bin_of_702 = refl;
      bin_of_1404 = refl;
      bin_of_1405 = refl;
      coherent_648 = role coherent 648 Sp refl refl;
      coherent_683 = role coherent 683 (Ac Ac1) refl refl;
      coherent_697 = role coherent 697 Tmcc refl refl;
      differential_648 = role differential_0 648 Cp refl refl;
      differential_651 = role differential_0 651 (Ac Ac2) refl refl;
      signs_from_0 = signs _ refl;
      sign_of_1404 = signs _ refl;
      pairs_10559 = λ xs n old now answer r h. h.answer ∙ one_short xs (length old) n r;
      pairs_10560 = λ xs n all old now answer r h. h.answer ∙ offset_zero xs (length old) n r all;
    }
