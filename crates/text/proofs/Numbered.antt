-- A number's digits two at a time; a text copied in one piece.
-- Assumes nothing.
use Prim.Native.Nat.{ℕ, ◌+◌, ◌-◌, ◌/◌, ◌%◌, ◌≤◌, ◌<◌}
use mathlib.Core.Bool.{Bool, true, false}
use mathlib.Core.List.{List, ◌++◌}
use mathlib.Core.Path.{◌≡◌, refl, sym, ◌∙◌}
use borrow.Rule.Slice.PartMut.{put_mid}
use native.Mathlib.Omega.{arith}
use borrow.Author.Tests.{lt-ltb, le-ltb, ltb-true, ltb-false}
use lib.Dec.{ltb}
use lib.ListN.{length, take, drop}
use lib.Seq.{sets-eq}
use Rattle.std.proofs.Common.{append_assoc, drop-drop}
use Rattle.text.specs.Put.{Put}
use Rattle.text.specs.Decimal.{decimal}
use Rattle.text.specs.Digits.{pair, few}

pub decimal_more : (n : ℕ) → 100 ≤ n → decimal n ≡ few (n / 100) ++ pair (n % 100)
unfolding decimal
decimal_more n h = by (ltb n 1000) refl
  where
    tens : n / 10 % 10 ≡ n % 100 / 10
    tens = omega arith

    units : n % 10 ≡ n % 100 % 10
    units = omega arith

    by : (b : Bool) → ltb n 1000 ≡ b → decimal n ≡ few (n / 100) ++ pair (n % 100)
    by true e =
        let one : n / 100 < 10 = omega (arith, ltb-true n 1000 e) in
        rw (le-ltb n 10 (omega arith), le-ltb n 100 h, e, lt-ltb (n / 100) 10 one, tens, units)
    by false e =
        let two : 10 ≤ n / 100 = omega (arith, ltb-false n 1000 e) in
        let thousands : n / 1000 ≡ n / 100 / 10 = omega arith in
        rw (le-ltb n 10 (omega arith), le-ltb n 100 h, e, le-ltb (n / 100) 10 two, thousands, tens, units)

-- a text that is copied into a part of the buffer
pub put_copied : (out text part : List ℕ) (at : ℕ) → part ≡ text → at + length text ≤ length out
    → Put out at text (at + length text) (put_mid at (at + length text - at) out part)
put_copied out text part at e h =
    let n : at + length text - at ≡ length text = omega arith in
    let whole = sets-eq text out at h ∙ append_assoc (take at out) text (drop (at + length text) out) in
    record { stored = rw (n, e, drop-drop (length text) at out) (sym whole); next = refl }
