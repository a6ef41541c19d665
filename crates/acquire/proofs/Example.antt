-- What the proviso of a move is about, on captures of mode 1 with a bound of 1 and a move by one bin. It can be met (`met`). And its range must be
-- widened: of a capture whose winner beats every other shift up to the bound alone, the moved capture has another winner (`not_widened`).
-- In two spectra some bins hold (1, 0) and the others (0, 0), so that a ratio is 1.0 or 0.0 and a shift's sum is how many marked bins its pattern
-- meets.
-- Assumes nothing.
use Prim.Native.Nat.{ℕ, zero, suc, ◌+◌, ◌*◌, ◌/◌, ◌%◌, ◌≤◌, ◌<◌}
use mathlib.Core.Bool.{Bool, true, false, cond, ◌||◌}
use mathlib.Core.List.{List, [], ◌∷◌, map, map_congr_left}
use mathlib.Core.Logic.{inl}
use mathlib.Core.Path.{◌≡◌, refl, sym, ap, ◌∙◌}
use native.Mathlib.Omega.{arith}
use native.Mathlib.Nat.{mod-eq_of_lt}
use lib.Dec.{T, eqb, lit<}
use lib.IntN.{ℤ, pos, negsuc, nat_abs, ◌+ℤ◌, pos-ne-negsuc}
use lib.ListN.{get_or, length}
use lib.Ieee.{Float, nan, binary32, of_bits, round, neg, add, sub, mul, div, lt, of_int}
use Rattle.ieee.specs.Constants.{plus_zero, minus_zero, lowest}
use Rattle.root.specs.Root.{root_of}
use Rattle.ieee.specs.Narrow.{narrow_of}
use Rattle.ieee.specs.Sums.{total}
use Rattle.lists.specs.Lists.{up_to}
use Rattle.lists.specs.Select.{length_up_to, get_or_up_to}
use Rattle.params.specs.declared.Mode.TheVariants.{M1}
use Rattle.std.proofs.Common.{Some, Ok}
use Rattle.complex.specs.Changes.{Change}
use Rattle.complex.specs.Complex.{Pair, pair, norm32, norm64}
use Rattle.complex.specs.Totals.{totals}
use Rattle.spectra.specs.Spectra.{pair_at, flat, column, bin_pairs}
use Rattle.spectra.specs.Flat.{length_flat, pair_flat}
use Rattle.spectra.specs.Changes.{Changed}
use Rattle.ratio.specs.Ratio.{bin_ratios, ratio_of, correlation, energy, steps, steps_from}
use Rattle.shift.specs.Shift.{Winner, winner, searched, shifts, best_shift, found_of, pattern, pattern_carriers, moved_bin, sum_at, score_of}
use Rattle.shift.specs.Shift.{shift_code, shift_leaves, shift_answer}
use Rattle.shift.specs.Moves.{InRange, score_at, BeatsAll}
use Rattle.shift.specs.MovedBins.{moved_below}
use Rattle.shift.specs.Moved.{pattern_laid, moved_sum}
use Rattle.shift.specs.Facts.{shift_number_lem}
use Rattle.acquire.specs.Applied.{changed, applied}
use Rattle.acquire.specs.Demand3.{Proviso}
use Rattle.acquire.proofs.Demand3.{demand_3}

-- ---- two spectra of 2,048 bins, with some bins marked
-- 1.0 where a bin is marked, 0.0 elsewhere
abbrev level : Bool → Float
level b = cond b (of_bits binary32 0x3f80_0000) (plus_zero binary32)

abbrev marked_pair : Bool → Pair
marked_pair b = pair (level b) (plus_zero binary32)

marked_ratio : (b : Bool) → ratio_of (marked_pair b ∷ marked_pair b ∷ []) ≡ level b
unfolding ratio_of correlation energy steps steps_from total totals norm32 norm64 root_of narrow_of of_bits round neg add sub mul div lt
marked_ratio true = refl
marked_ratio false = refl

module _ (marked : ℕ → Bool) where
  abbrev pair_of : ℕ → Pair
  pair_of i = marked_pair (marked (i % 2048))

  unfoldable pub capture : List Float
  capture = flat (up_to pair_of 4096)

  capture_length : length capture ≡ 8192
  unfolding capture
  capture_length = length_flat (up_to pair_of 4096) ∙ ap (λ (k : ℕ). 2 * k) (length_up_to pair_of 4096)

  capture_pair : (i b : ℕ) → i < 4096 → i % 2048 ≡ b → pair_at capture i ≡ marked_pair (marked b)
  unfolding capture
  capture_pair i b h e = pair_flat pair_of 4096 i h ∙ ap (λ (k : ℕ). marked_pair (marked k)) e

  ratio_at_lem : (b : ℕ) → b < 2048 → get_or (bin_ratios 2048 capture) b nan ≡ level (marked b)
  unfolding bin_ratios column
  ratio_at_lem b h =
      let x : pair_at capture b ≡ marked_pair (marked b) = capture_pair b b (omega arith) (mod-eq_of_lt h) in
      let y : pair_at capture (b + 2048) ≡ marked_pair (marked b) = capture_pair (b + 2048) b (omega arith) (omega arith) in
      get_or_up_to (λ k. ratio_of (bin_pairs 2048 capture k)) 2048 b nan h
      ∙ ap (λ (n : ℕ). ratio_of (column capture 2048 b (n / 4096))) capture_length
      ∙ (λ j. ratio_of (x j ∷ y j ∷ []))
      ∙ marked_ratio (marked b)

  -- the marked bins that the pattern meets at shift z, as a sum
  abbrev marks_met : ℤ → Float
  marks_met z = total binary32 minus_zero (map (λ b. level (marked (moved_bin 2048 b z))) (pattern M1))

  sum_is : (z : ℤ) → sum_at 2048 (pattern M1) (bin_ratios 2048 capture) z ≡ marks_met z
  unfolding sum_at
  sum_is z = ap (total binary32 minus_zero) (map_congr_left {l = pattern M1} (λ b i. ratio_at_lem (moved_bin 2048 b z) (moved_below 2048 b z (lit< tt))))

-- a sum of n marked bins
abbrev marks : ℕ → Float
marks n = of_int binary32 (pos n)

-- the winner of three shifts with these sums, in the order of the search
abbrev after : Winner → ℤ → Float → Winner
after w z sum = cond (lt w.sum sum) (winner z sum) w

abbrev best_of : Float → Float → Float → Winner
best_of a b c = after (after (after (winner (pos 0) lowest) (negsuc 0) a) (pos 0) b) (pos 1) c

-- ---- a call with a bound of 1 and 2,048 ratios lent
module _ (xs old : List Float) (X : length xs ≡ 8192) (O : length old ≡ 2048) where
  abbrev left : List Float
  left = shift_leaves (Some M1) xs 1 old

  code_0 : shift_code (Some M1) (length xs) (length old) 1 ≡ 0
  unfolding shift_code
  code_0 = rw (X, O) refl

  left_is : left ≡ bin_ratios 2048 xs
  unfolding shift_leaves
  left_is = rw code_0 refl

  answer_is : (a b c : Float) → sum_at 2048 (pattern M1) left (negsuc 0) ≡ a → sum_at 2048 (pattern M1) left (pos 0) ≡ b
      → sum_at 2048 (pattern M1) left (pos 1) ≡ c → shift_answer (Some M1) xs 1 (length old) ≡ Ok (found_of (pattern M1) (best_of a b c))
  unfolding shift_answer best_shift searched shifts
  answer_is a b c p q r = rw code_0 (rw (sym left_is) (λ i. Ok (found_of (pattern M1) (best_of (p i) (q i) (r i)))))

-- ---- shifts near 0
near : (P : ℤ → Type 0) → P (negsuc 1) → P (negsuc 0) → P (pos 0) → P (pos 1) → P (pos 2) → (y : ℤ) → nat_abs y ≤ 2 → P y
near P a b c d e (pos zero) h = c
near P a b c d e (pos (suc zero)) h = d
near P a b c d e (pos (suc (suc zero))) h = e
near P a b c d e (pos (suc (suc (suc k)))) h = absurd (omega arith)
near P a b c d e (negsuc zero) h = b
near P a b c d e (negsuc (suc zero)) h = a
near P a b c d e (negsuc (suc (suc k))) h = absurd (omega arith)

-- ---- the proviso can be met: the pattern's own bins are marked
abbrev has : List ℕ → ℕ → Bool
has [] k = false
has (x ∷ xs) k = eqb x k || has xs k

abbrev own : ℕ → Bool
own = has (pattern M1)

own_at_0 : marks_met own (pos 0) ≡ marks 27
unfolding pattern pattern_carriers total add of_bits of_int round
own_at_0 = refl

own_near : (z : ℤ) → nat_abs z ≤ 2 → (z ≡ pos 0 → ⊥) → marks_met own z ≡ marks 0
unfolding pattern pattern_carriers total add of_bits of_int round
own_near =
    near (λ z. (z ≡ pos 0 → ⊥) → marks_met own z ≡ marks 0) (λ e. refl) (λ e. refl) (λ e. absurd (e refl)) (λ e. refl) (λ e. refl)

-- 27 marks of 27 are a score of 1.0, and more than none
all_met : score_of (pattern M1) (marks 27) ≡ of_bits binary32 0x3f80_0000
unfolding score_of pattern pattern_carriers of_int of_bits round div
all_met = refl

none_less : T (lt (score_of (pattern M1) (marks 0)) (score_of (pattern M1) (marks 27)))
unfolding score_of pattern pattern_carriers of_int round div lt
none_less = tt

own_wins : winner (pos 0) (marks 27) ≡ best_of (marks 0) (marks 27) (marks 0)
unfolding of_int of_bits round lt
own_wins = refl

pub met : (old : List Float) → length old ≡ 2048
    → (shift_answer (Some M1) (capture own) 1 (length old) ≡ Ok (record { shift = pos 0; score = of_bits binary32 0x3f80_0000 }))
    × Proviso M1 1 (pos 1) (shift_leaves (Some M1) (capture own) 1 old) (pos 0)
met old O =
    let X = capture_length own in
    let sums : (z : ℤ) → sum_at 2048 (pattern M1) (left (capture own) old X O) z ≡ marks_met own z =
    λ z. ap (λ (r : List Float). sum_at 2048 (pattern M1) r z) (left_is (capture own) old X O) ∙ sum_is own z in
    let at_0 = sums (pos 0) ∙ own_at_0 in
    let off : (z : ℤ) → nat_abs z ≤ 2 → (z ≡ pos 0 → ⊥) → sum_at 2048 (pattern M1) (left (capture own) old X O) z ≡ marks 0 =
    λ z h e. sums z ∙ own_near z h e in (
      answer_is (capture own) old X O (marks 0) (marks 27) (marks 0)
          (off (negsuc 0) (omega arith) (λ e. absurd (pos-ne-negsuc 0 0 (sym e)))) at_0 (off (pos 1) (omega arith) one_is_not_0)
          ∙ (λ i. Ok (found_of (pattern M1) (sym own_wins i)))
          ∙ ap (λ (score : Float). Ok (record { shift = pos 0; score = score })) all_met,
      (
        λ y h e. rw (off y h e, at_0) none_less,
        omega arith,
      ),
    )
  where
    one_is_not_0 : ◌≡◌ {A = ℤ} (pos 1) (pos 0) → ⊥
    one_is_not_0 e = let q : ◌≡◌ {A = ℕ} 1 0 = ap nat_abs e in omega arith

-- ---- its range must be widened: the whole pattern is marked two bins below, out of range, and two of its own bins where it stands
abbrev astray : ℕ → Bool
astray b = has (pattern M1) (moved_bin 2048 b (pos 2)) || (eqb b 702 || eqb b 695)

record Astray : Type 0 where
  below : marks_met astray (negsuc 1) ≡ marks 27
  next : marks_met astray (negsuc 0) ≡ marks 0
  here : marks_met astray (pos 0) ≡ marks 2
  above : marks_met astray (pos 1) ≡ marks 1

astray_sums : Astray
unfolding pattern pattern_carriers total add of_bits of_int round
astray_sums = record { below = refl; next = refl; here = refl; above = refl }

-- the score of n marks met
abbrev score : ℕ → Float
score n = score_of (pattern M1) (marks n)

less : T (lt (score 0) (score 2)) × T (lt (score 1) (score 2))
unfolding score_of pattern pattern_carriers of_int round div lt
less = (tt, tt)

here_wins : winner (pos 0) (marks 2) ≡ best_of (marks 0) (marks 2) (marks 1)
unfolding of_int of_bits round lt
here_wins = refl

below_wins : winner (negsuc 0) (marks 27) ≡ best_of (marks 27) (marks 0) (marks 2)
unfolding of_int of_bits round lt
below_wins = refl

-- nothing but the move by one bin
abbrev still : Change
still = record { negates = λ j. false; turns = false; gain = 0 }

-- Shift 0 beats every other shift up to the bound, 1, and moved by 1 it stays in range; but the moved capture has shift -1, not 0 + 1.
pub record NotWidened (xs ys old : List Float) : Type 0 where
  pub moved : Changed still 2048 (λ b. moved_bin 2048 b (pos 1)) xs ys
  pub answer : shift_answer (Some M1) xs 1 (length old) ≡ Ok (record { shift = pos 0; score = score 2 })
  pub beats : BeatsAll 2048 (pattern M1) (shift_leaves (Some M1) xs 1 old) 1 (pos 0)
  pub inside : InRange 1 (pos 0 +ℤ pos 1)
  pub astray : shift_answer (Some M1) ys 1 (length old) ≡ Ok (record { shift = negsuc 0; score = score 27 })

module _ (old : List Float) (O : length old ≡ 2048) where
  abbrev before : List Float
  before = capture astray

  abbrev moved : List Float
  moved = changed still 2048 (pos 1) before

  is_moved : Changed still 2048 (λ b. moved_bin 2048 b (pos 1)) before moved
  is_moved = applied still 2048 (pos 1) before

  moved_length : length moved ≡ 8192
  moved_length = is_moved.long ∙ capture_length astray

  abbrev left_before : List Float
  left_before = left before old (capture_length astray) O

  abbrev left_moved : List Float
  left_moved = left moved old moved_length O

  sums_before : (z : ℤ) → sum_at 2048 (pattern M1) left_before z ≡ marks_met astray z
  sums_before z = ap (λ (r : List Float). sum_at 2048 (pattern M1) r z) (left_is before old (capture_length astray) O) ∙ sum_is astray z

  -- each shift of the moved capture has the sum that the shift one below it had
  sums_moved : (z : ℤ) → sum_at 2048 (pattern M1) left_moved (z +ℤ pos 1) ≡ marks_met astray z
  sums_moved z =
      let kept = (demand_3 still (pos 1)).shift M1 1 before moved old (inl refl) is_moved in
      let accepted = shift_number_lem (Some M1) before 1 (length old) ∙ code_0 before old (capture_length astray) O in
      moved_sum 2048 (pattern M1) (pattern_laid M1) (pos 1) z left_before left_moved (kept.ratios accepted) ∙ sums_before z

  pub not_widened : NotWidened before moved old
  not_widened =
      let a = astray_sums in
      let next = sums_before (negsuc 0) ∙ a.next in
      let here = sums_before (pos 0) ∙ a.here in
      let above = sums_before (pos 1) ∙ a.above in
      record {
        moved = is_moved;
        answer =
            answer_is before old (capture_length astray) O (marks 0) (marks 2) (marks 1) next here above
            ∙ (λ i. Ok (found_of (pattern M1) (sym here_wins i)));
        beats = λ y h.
            near (λ y. nat_abs y ≤ 1 → (y ≡ pos 0 → ⊥) → T (lt (score_at 2048 (pattern M1) left_before y) (score_at 2048 (pattern M1) left_before (pos 0))))
            (λ k e. absurd (omega arith)) (λ k e. rw (next, here) less.0) (λ k e. absurd (e refl)) (λ k e. rw (above, here) less.1)
            (λ k e. absurd (omega arith)) y (omega arith) h;
        inside = omega arith;
        astray =
            answer_is moved old moved_length O (marks 27) (marks 0) (marks 2) (sums_moved (negsuc 1) ∙ a.below) (sums_moved (negsuc 0) ∙ a.next)
            (sums_moved (pos 0) ∙ a.here)
            ∙ (λ i. Ok (found_of (pattern M1) (sym below_wins i)));
      }
