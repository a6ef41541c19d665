-- The shift of a moved capture, for any list of bins among n. Where every bin is moved round by s, a shift z + s finds at the list's bins what z
-- found before; so if the winner beat every other shift of the range widened by the move, by divided scores, and its moved shift stays in range,
-- the moved capture's winner is the old one moved by s, with the same sum.
-- Assumes nothing.
use Rattle.std.specs.Prelude.{ℕ, zero, suc, ◌+◌, ◌-◌, ◌≤◌, ◌<◌, Bool, true, false, not, cond, ◌≡◌, refl, T, ltb, ℤ, pos, negsuc, nat_abs, neg_ℤ, ◌+ℤ◌}
use Rattle.std.specs.Prelude.{◌-ℤ◌, length, Float}
use mathlib.Core.List.{List, [], ◌∷◌, map, map_congr_left}
use Rattle.std.proofs.Math.Path.{sym, ap}
use Rattle.std.proofs.Common.{◌∙◌, le_refl, arith, ltb→lt, nltb→le}
use Rattle.std.proofs.Math.IntN.{sub_ℕ, +ℤ_idr, -ℤ-+ℤ_cancel, pos-ne-negsuc}
use Rattle.std.proofs.Math.ListN.{get_or}
use Rattle.std.specs.Float.{nan}
use Rattle.std.specs.Float.Ieee.{binary32, lt, is_nan, add, of_int}
use Rattle.std.specs.Float.Ieee.Positive.{positive}
use Rattle.ieee.specs.Constants.{minus_zero, lowest, minus_zero_is, lowest_is}
use Rattle.ieee.specs.Order.{quotient_beats, greater_number, lowest_loses}
use Rattle.ieee.specs.Signs.{negative, zero_plus_sign}
use Rattle.ieee.specs.Sums.{total, total_sign}
use Rattle.params.specs.declared.Mode.{Mode}
use Rattle.params.specs.declared.Mode.TheVariants.{M1, M2, M3}
use Rattle.params.specs.Params.{fft_size}
use Rattle.params.specs.Laws.{sized}
use Rattle.ratio.specs.Ratio.{bin_ratios}
use Rattle.ratio.specs.NoMinus.{ratios_sign}
use Rattle.shift.specs.Shift.{pattern, pattern_carriers, moved_bin, sum_at, score_of, winner, searched, shifts, best_shift}
use Rattle.shift.specs.Moves.{InRange, score_at, BeatsAll, MovedRound}
use Rattle.shift.specs.MovedBins.{moved_twice, moved_below}
use Rattle.shift.specs.Searches.{found_inside, found_greatest}

-- there are bins to move among, and a sum may be divided by the number of those laid over them
pub record Laid (n : ℕ) (bins : List ℕ) : Type 0 where
  pub some : 0 < n
  pub counted : T (positive (of_int binary32 (pos (length bins))))

pattern_counted : (mode : Mode) → T (positive (of_int binary32 (pos (length (pattern mode)))))
unfolding pattern pattern_carriers of_int
pattern_counted M1 = tt
pattern_counted M2 = tt
pattern_counted M3 = tt

pub pattern_laid : (mode : Mode) → Laid (fft_size mode) (pattern mode)
pattern_laid mode = record { some = omega (arith, (sized mode).band, (sized mode).within); counted = pattern_counted mode }

-- no ratio has a minus sign, so `f32::MIN` loses to every sum that is no NaN
abbrev pub NoMinus : ℕ → List Float → Type 0
NoMinus n old = (b : ℕ) → b < n → negative (get_or old b nan) ≡ false

pub ratios_no_minus : (n : ℕ) (xs : List Float) → NoMinus n (bin_ratios n xs)
ratios_no_minus n xs b B = ratios_sign n xs b B

-- ---- shifts
-- there is another shift than z, at most one away from 0
other : ℤ → ℤ
other (pos zero) = pos 1
other (pos (suc k)) = pos 0
other (negsuc k) = pos 0

other_near : (z : ℤ) → nat_abs (other z) ≤ 1
unfolding other
other_near (pos zero) = omega arith
other_near (pos (suc k)) = omega arith
other_near (negsuc k) = omega arith

other_is_not : (z : ℤ) → other z ≡ z → ⊥
unfolding other
other_is_not (pos zero) e = let q : ◌≡◌ {A = ℕ} 1 0 = ap nat_abs e in omega arith
other_is_not (pos (suc k)) e = let q : ◌≡◌ {A = ℕ} 0 (suc k) = ap nat_abs e in omega arith
other_is_not (negsuc k) e = pos-ne-negsuc 0 k e

-- a sum is no farther from 0 than its parts together
apart_size : (a b : ℕ) → nat_abs (sub_ℕ a b) ≤ a + b
apart_size a b = by (ltb a b) (ltb→lt a b) (nltb→le a b)
  where
    by : (l : Bool) → (T l → a < b) → (T (not l) → b ≤ a) → nat_abs (cond l (negsuc (b - suc a)) (pos (a - b))) ≤ a + b
    by true p q = omega (arith, p tt)
    by false p q = omega (arith, q tt)

sum_size : (y s : ℤ) → nat_abs (y +ℤ s) ≤ nat_abs y + nat_abs s
sum_size (pos a) (pos b) = le_refl (a + b)
sum_size (pos a) (negsuc b) = apart_size a (suc b)
sum_size (negsuc a) (pos b) = omega (arith, apart_size b (suc a))
sum_size (negsuc a) (negsuc b) = omega arith

neg_size : (s : ℤ) → nat_abs (neg_ℤ s) ≡ nat_abs s
neg_size (pos zero) = refl
neg_size (pos (suc k)) = refl
neg_size (negsuc k) = refl

-- ---- sums
-- `f32::MIN` loses to a total from -0.0 of values without a minus sign, unless that is a NaN
total_above : {A : Type 0} (g : A → Float) (bs : List A) → ((b : A) → negative (g b) ≡ false)
    → is_nan (total binary32 minus_zero (map g bs)) ≡ false → T (lt lowest (total binary32 minus_zero (map g bs)))
unfolding total lt
total_above g [] p h = rw (minus_zero_is, lowest_is) tt
total_above g (b ∷ bs) p h =
    lowest_loses (total binary32 (add binary32 minus_zero (g b)) (map g bs)) h
    (total_sign binary32 _ g bs (rw minus_zero_is (zero_plus_sign binary32 true (pos 0) (g b) (p b))) p)

module _ (n : ℕ) (bins : List ℕ) (laid : Laid n bins) where
  pub sum_above : (old : List Float) (z : ℤ) → NoMinus n old → is_nan (sum_at n bins old z) ≡ false → T (lt lowest (sum_at n bins old z))
  unfolding sum_at
  sum_above old z g h = total_above (λ b. get_or old (moved_bin n b z) nan) bins (λ b. g (moved_bin n b z) (moved_below n b z laid.some)) h

  -- what beats by its score beats by its sum
  sum_beats : (old : List Float) (y z : ℤ) → T (lt (score_at n bins old y) (score_at n bins old z)) → T (lt (sum_at n bins old y) (sum_at n bins old z))
  unfolding score_of
  sum_beats old y z h = quotient_beats binary32 _ _ (of_int binary32 (pos (length bins))) laid.counted h

  -- a shift of the moved ratios finds what the shift before the move found
  pub moved_sum : (s z : ℤ) (old new : List Float) → MovedRound n s old new → sum_at n bins new (z +ℤ s) ≡ sum_at n bins old z
  unfolding sum_at
  moved_sum s z old new m =
      ap (total binary32 minus_zero) (map_congr_left {l = bins} (λ b i.
      ap (λ (k : ℕ). get_or new k nan) (moved_twice n b z s laid.some) ∙ m (moved_bin n b z) (moved_below n b z laid.some)))

  -- not moved, the winner is the same
  pub same_winner : (bound : ℕ) (old new : List Float) → MovedRound n (pos 0) old new → best_shift n bins bound new ≡ best_shift n bins bound old
  unfolding best_shift
  same_winner bound old new m = λ i. searched (λ z. same z i) (winner (pos 0) lowest) (shifts bound)
    where
      same : (z : ℤ) → sum_at n bins new z ≡ sum_at n bins old z
      same z = ap (sum_at n bins new) (sym (+ℤ_idr z)) ∙ moved_sum (pos 0) z old new m

  -- ---- a true move: the winner before it beat some other shift, so its sum is no NaN
  winner_inside : (bound : ℕ) (old : List Float) → InRange bound (best_shift n bins bound old).shift
  unfolding best_shift
  winner_inside bound old = found_inside (sum_at n bins old) bound

  module _ (bound : ℕ) (s : ℤ) (old new : List Float) (g : NoMinus n old) (m : MovedRound n s old new) where
    abbrev old_shift : ℤ
    old_shift = (best_shift n bins bound old).shift

    abbrev before : ℤ → Float
    before y = sum_at n bins old y

    abbrev after : ℤ → Float
    after y = sum_at n bins new y

    same_sum : (y : ℤ) → after y ≡ before (y -ℤ s)
    same_sum y = ap after (sym (-ℤ-+ℤ_cancel y s)) ∙ moved_sum s (y -ℤ s) old new m

    module _ (beats : BeatsAll n bins old (bound + nat_abs s) old_shift) (inside : InRange bound (old_shift +ℤ s)) (away : 0 < nat_abs s) where
      greater : (y : ℤ) → InRange (bound + nat_abs s) y → (y ≡ old_shift → ⊥) → T (lt (before y) (before old_shift))
      greater y i e = sum_beats old y old_shift (beats y i e)

      above_lowest : T (lt lowest (before old_shift))
      above_lowest =
          sum_above old old_shift g (greater_number _ _ (greater (other old_shift) (omega (arith, other_near old_shift)) (other_is_not old_shift)))

      -- the winner's sum is the sum at its shift
      won_before : (best_shift n bins bound old).sum ≡ before old_shift
      unfolding best_shift
      won_before =
          ap (λ w. w.sum) (found_greatest before bound old_shift (winner_inside bound old) (λ y i e. greater y (omega arith) e) above_lowest)

      -- a shift y of the moved ratios was y - s before, in the widened range
      beaten : (y : ℤ) → InRange bound y → (y ≡ old_shift +ℤ s → ⊥) → T (lt (after y) (before old_shift))
      beaten y i e =
          rw (same_sum y)
          (greater (y -ℤ s) (omega (arith, sum_size y (neg_ℤ s), neg_size s)) (λ q. e (sym (-ℤ-+ℤ_cancel y s) ∙ ap (λ x. x +ℤ s) q)))

      won_after : best_shift n bins bound new ≡ winner (old_shift +ℤ s) (best_shift n bins bound old).sum
      unfolding best_shift
      won_after =
          let here : after (old_shift +ℤ s) ≡ before old_shift = moved_sum s old_shift old new m in
          found_greatest after bound (old_shift +ℤ s) inside (λ y i e. rw here (beaten y i e)) (rw here above_lowest)
          ∙ ap (winner (old_shift +ℤ s)) (here ∙ sym won_before)

  pub moved_winner : (bound : ℕ) (s : ℤ) (old new : List Float) → NoMinus n old → MovedRound n s old new
      → BeatsAll n bins old (bound + nat_abs s) (best_shift n bins bound old).shift → InRange bound ((best_shift n bins bound old).shift +ℤ s)
      → best_shift n bins bound new ≡ winner ((best_shift n bins bound old).shift +ℤ s) (best_shift n bins bound old).sum
  moved_winner bound (pos zero) old new g m beats inside =
      same_winner bound old new m ∙ ap (λ z. winner z (best_shift n bins bound old).sum) (sym (+ℤ_idr (best_shift n bins bound old).shift))
  moved_winner bound (pos (suc k)) old new g m beats inside = won_after bound (pos (suc k)) old new g m beats inside (omega arith)
  moved_winner bound (negsuc k) old new g m beats inside = won_after bound (negsuc k) old new g m beats inside (omega arith)
