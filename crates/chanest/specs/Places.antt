-- How points, carriers and places of the band go together: a segment has a third as many points as carriers, in fours, and what a point's
-- number says of its place and of its carrier's place in the segment.
-- Assumes nothing.
use Rattle.std.specs.Prelude.{ℕ, ◌+◌, ◌-◌, ◌*◌, ◌/◌, ◌%◌, ◌≤◌, ◌<◌, ◌≡◌, refl}
use Rattle.std.proofs.Common.{sym, ap, ◌∙◌, mul_left_comm, mul-le-mul_right, div-add-mod', mod-lt, arith}
use Rattle.std.proofs.Math.Decide.{dec_lt}
use Rattle.std.proofs.Math.Arith.{digits_div, digits_mod, digits_lt}
use Rattle.params.specs.declared.Mode.{Mode}
use Rattle.params.specs.declared.Mode.TheVariants.{M1, M2, M3}
use Rattle.params.specs.Params.{carriers_per_segment}
use Rattle.params.specs.Laws.{sized}
use Rattle.chanest.specs.Grid.{carrier_of, segment_points, grid_points}

-- thirteen segments' points, the edge, and one that is never written
pub record Pointed (m : Mode) : Type 0 where
  pub carriers : carriers_per_segment m ≡ 3 * segment_points m
  pub in_fours : segment_points m ≡ 4 * (segment_points m / 4)
  pub all : grid_points m ≡ 13 * segment_points m + 2

pub pointed : (m : Mode) → Pointed m
pointed M1 = record { carriers = refl; in_fours = refl; all = refl }
pointed M2 = record { carriers = refl; in_fours = refl; all = refl }
pointed M3 = record { carriers = refl; in_fours = refl; all = refl }

-- the lowest point of a place has the carrier at which the place starts
pub starts : (m : Mode) (place : ℕ) → (carrier_of (place * segment_points m)).0 ≡ place * carriers_per_segment m
starts m place = mul_left_comm 3 place (segment_points m) ∙ ap (λ (c : ℕ). place * c) (sym (pointed m).carriers)

module _ (m : Mode) (i : ℕ) where
  abbrev n : ℕ
  n = segment_points m

  some : 0 < n
  some = omega (arith, (sized m).carriers_low)

  -- point i is number i % n of place i / n
  split : i / n * n + i % n ≡ i
  split = div-add-mod' i n

  low : i % n < n
  low = mod-lt i some

  -- and so its carrier is number 3 (i % n) of that place
  carrier : 3 * i ≡ i / n * carriers_per_segment m + 3 * (i % n)
  carrier =
      let thirds : i / n * carriers_per_segment m ≡ 3 * (i / n * n) = ap (λ (k : ℕ). i / n * k) (pointed m).carriers ∙ mul_left_comm (i / n) 3 n in
      omega (arith, split)

  carrier_low : 3 * (i % n) < carriers_per_segment m
  carrier_low = omega (arith, (pointed m).carriers, low)

  pub same_place : 3 * i / carriers_per_segment m ≡ i / n
  same_place = ap (λ (k : ℕ). k / carriers_per_segment m) carrier ∙ digits_div (i / n) carrier_low

  pub place_in_segment : 3 * i % carriers_per_segment m ≡ 3 * (i % n)
  place_in_segment = ap (λ (k : ℕ). k % carriers_per_segment m) carrier ∙ digits_mod (i / n) carrier_low

  pub in_phase : 3 * i % carriers_per_segment m % 12 ≡ 3 * (i % 4)
  in_phase =
      let j = n / 4 in
      let fours : i / n * n ≡ 4 * (i / n * j) = ap (λ (k : ℕ). i / n * k) (pointed m).in_fours ∙ mul_left_comm (i / n) 4 j in
      omega (arith, place_in_segment, split, fours)

  -- a point of the thirteen places, and the lowest one above such a place
  pub inside : i / n < 13 → i < 13 * n
  inside h = omega (arith, digits_lt h low, split)

  pub below : i < 13 * n → i / n < 13
  below h = by (dec_lt (i / n) 13)
    where
      by : Dec (i / n < 13) → i / n < 13
      by (yes l) = l
      by (no g) = let most : 13 * n ≤ i / n * n = mul-le-mul_right n (omega arith) in absurd (omega (arith, split))

  pub closes : i % n ≡ 0 → i / n - 1 < 13 → i ≤ 13 * n
  closes z h = let most : i / n * n ≤ 13 * n = mul-le-mul_right n (omega arith) in omega (arith, split)
