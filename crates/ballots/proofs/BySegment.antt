-- The scattered pilots by place: a coherent segment has every twelfth carrier from 3 times the phase on, a differential one has none.
-- Assumes nothing.
use Prim.Native.Nat.{ℕ, zero, suc, suc-le-suc, ◌+◌, ◌*◌, ◌-◌, ◌/◌, ◌%◌, ◌<◌}
use mathlib.Core.Bool.{Bool, true, false, true≢false, cond}
use Rattle.std.specs.List.{list_any}
use Rattle.std.proofs.lemmas.List.Folds.{Any-from_list_any, list_any_at}
use Rattle.frame.specs.Answers.{kind_again}
use mathlib.Core.List.{List, [], ◌∷◌, ◌++◌, append-nil}
use mathlib.Core.Path.{◌≡◌, refl, sym, ap, ◌∙◌}
use native.Mathlib.Nat.{le_of_suc-le-suc, not-suc-le-zero}
use native.Mathlib.Omega.{arith}
use borrow.Author.Tests.{eqb-true, eqb-false, ne_eqb}
use lib.Dec.{eqb}
use lib.ListN.{length, get_or, length-append}
use Rattle.lists.specs.Lists.{up_to, joined, chosen}
use Rattle.lists.specs.Select.{length_up_to}
use Rattle.params.specs.declared.Mode.{Mode}
use Rattle.params.specs.declared.SegmentKind.{SegmentKind}
use Rattle.params.specs.declared.SegmentKind.TheVariants.{Coherent, Differential}
use Rattle.params.specs.Params.{carriers_per_segment, kind_from, kind_codes}
use Rattle.params.specs.Laws.{sized}
use Rattle.tables.specs.Places.{is_sp}
use Rattle.ofdm.specs.Band.{order, place_of}
use Rattle.ofdm.specs.Laws.{place_below, segment_of_place, segment_below}
use Rattle.frame.specs.Roles.{role_byte, place_role, segment_roles, wide_segment}
use Rattle.frame.specs.BySegment.{by_segment}
use Rattle.ballots.specs.Ballots.{pilots}
use Rattle.ballots.specs.Inner.{twelfths, some_pilots}
use Rattle.ballots.specs.Pilots.{is_pilot, place_pilot, twelves, last_chosen}

-- ---- one segment
none_chosen : (f : ℕ → ℕ) (k : ℕ) → ((p : ℕ) → is_pilot (f p) ≡ false) → (n : ℕ) → chosen is_pilot k (up_to f n) ≡ []
none_chosen f k h zero = refl
none_chosen f k h (suc n) = last_chosen f k n ∙ rw (none_chosen f k h n, h n)

-- where a byte is 1 at each place that leaves a by 12
spaced : (f : ℕ → ℕ) (k a : ℕ) → a < 12 → ((p : ℕ) → is_pilot (f p) ≡ eqb (p % 12) a) → (n : ℕ)
    → chosen is_pilot k (up_to f n) ≡ twelfths (k + a) ((n + 11 - a) / 12)
spaced f k a h e zero = let z : (0 + 11 - a) / 12 ≡ 0 = omega arith in rw z
spaced f k a h e (suc n) = last_chosen f k n ∙ rw (spaced f k a h e n, e n) (by (eqb (n % 12) a) refl)
  where
    by : (b : Bool) → eqb (n % 12) a ≡ b → twelfths (k + a) ((n + 11 - a) / 12) ++ cond b ((k + n) ∷ []) [] ≡ twelfths (k + a) ((suc n + 11 - a) / 12)
    by true g =
        let r = eqb-true (n % 12) a g in
        let more : (suc n + 11 - a) / 12 ≡ suc ((n + 11 - a) / 12) = omega arith in
        let here : k + a + 12 * ((n + 11 - a) / 12) ≡ k + n = omega arith in
        rw (more, here)
    by false g =
        let r = eqb-false (n % 12) a g in
        let same : (suc n + 11 - a) / 12 ≡ (n + 11 - a) / 12 = omega arith in
        rw (append-nil (twelfths (k + a) ((n + 11 - a) / 12)), same)

module _ (mode : Mode) (kinds : List ℕ) (phase : ℕ) where
  -- the pilots of a segment
  unfoldable pub segment_pilots : ℕ → List ℕ
  segment_pilots seg = chosen is_pilot (place_of seg * carriers_per_segment mode) (segment_roles mode phase (wide_segment kinds seg))

  -- those of the band, segment by segment from the lowest place upward
  pub pilots_by_segment : pilots mode kinds phase ≡ joined segment_pilots order
  unfolding pilots segment_pilots
  pilots_by_segment = by_segment is_pilot refl mode phase kinds

  module _ (seg : ℕ) where
    abbrev byte : ℕ → ℕ
    byte p = role_byte (place_role mode (wide_segment kinds seg) phase p)

    abbrev from : ℕ
    from = place_of seg * carriers_per_segment mode

    ruled : (kind : SegmentKind) → kind_from (get_or kinds seg 0) ≡ kind → (p : ℕ) → is_pilot (byte p) ≡ is_sp kind phase p
    ruled kind e p = place_pilot mode (wide_segment kinds seg) phase p ∙ ap (λ (z : SegmentKind). is_sp z phase p) e

    pub coherent_pilots : phase < 4 → kind_from (get_or kinds seg 0) ≡ Coherent
        → segment_pilots seg ≡ twelfths (from + 3 * phase) (carriers_per_segment mode / 12)
    unfolding segment_pilots segment_roles
    coherent_pilots h e =
        let whole : (carriers_per_segment mode + 11 - 3 * phase) / 12 ≡ carriers_per_segment mode / 12 = omega (arith, twelves mode) in
        rw whole at (spaced byte from (3 * phase) (omega arith) (ruled Coherent e) (carriers_per_segment mode))

    pub differential_pilots : kind_from (get_or kinds seg 0) ≡ Differential → segment_pilots seg ≡ []
    unfolding segment_pilots segment_roles
    differential_pilots e = none_chosen byte from (ruled Differential e) (carriers_per_segment mode)

-- ---- whether there are any
joined_some : (f : ℕ → List ℕ) (xs : List ℕ) (i : ℕ) → i < length xs → 0 < length (f (get_or xs i 0)) → 0 < length (joined f xs)
joined_some f [] i h l = absurd (not-suc-le-zero h)
joined_some f (x ∷ xs) zero h l = omega (arith, length-append (f x) (joined f xs))
joined_some f (x ∷ xs) (suc i) h l = omega (arith, length-append (f x) (joined f xs), joined_some f xs i (le_of_suc-le-suc h) l)

joined_none : (f : ℕ → List ℕ) (xs : List ℕ) → ((i : ℕ) → i < length xs → f (get_or xs i 0) ≡ []) → joined f xs ≡ []
joined_none f [] h = refl
joined_none f (x ∷ xs) h = rw (h 0 (omega arith), joined_none f xs (λ i l. h (suc i) (suc-le-suc l)))

module _ (mode : Mode) (kinds : List ℕ) where
  pub some_pilots_lem : (seg : ℕ) → seg < 13 → kind_from (get_or kinds seg 0) ≡ Coherent → true ≡ some_pilots mode kinds
  some_pilots_lem seg h e =
      let part = coherent_pilots mode kinds 0 seg (omega arith) e in
      let size = ap length part ∙ length_up_to _ (carriers_per_segment mode / 12) in
      let here : 0 < length (segment_pilots mode kinds 0 (get_or order (place_of seg) 0)) =
      rw (segment_of_place seg h) (omega (arith, size, (sized mode).carriers_low)) in
      let some = joined_some (segment_pilots mode kinds 0) order (place_of seg) (place_below seg h) here in
      rw (pilots_by_segment mode kinds 0, ne_eqb (length (joined (segment_pilots mode kinds 0) order)) 0 (λ z. omega arith))

  pub no_pilots : ((seg : ℕ) → seg < 13 → kind_from (get_or kinds seg 0) ≡ Differential) → false ≡ some_pilots mode kinds
  no_pilots h =
      let none : (i : ℕ) → i < length order → segment_pilots mode kinds 0 (get_or order i 0) ≡ [] =
      λ i l. let seg = get_or order i 0 in differential_pilots mode kinds 0 seg (h seg (segment_below i l)) in
      rw (pilots_by_segment mode kinds 0, joined_none (segment_pilots mode kinds 0) order none)

-- so there are some where a kind passes a test that coherent kinds alone pass
module _ (mode : Mode) (kinds : List SegmentKind) (test : SegmentKind → Bool) (yes : test Coherent ≡ true) (no : test Differential ≡ false) where
  passes : (kind : SegmentKind) → test kind ≡ true → kind ≡ Coherent
  passes Coherent e = refl
  passes Differential e = absurd (true≢false (sym e ∙ no))

  fails : (kind : SegmentKind) → test kind ≡ false → kind ≡ Differential
  fails Coherent e = absurd (true≢false (sym yes ∙ e))
  fails Differential e = refl

  pub some_coherent : length kinds ≡ 13 → list_any test kinds ≡ some_pilots mode (kind_codes kinds)
  some_coherent l = by (list_any test kinds) refl
    where
      by : (b : Bool) → list_any test kinds ≡ b → b ≡ some_pilots mode (kind_codes kinds)
      by true e =
          let a = Any-from_list_any test kinds e in
          let here : get_or kinds a.0 Coherent ≡ Coherent = rw (passes a.1 a.4) at a.3 in
          some_pilots_lem mode (kind_codes kinds) a.0 (omega (arith, a.2)) (sym (kind_again kinds a.0) ∙ here)
      by false e = no_pilots mode (kind_codes kinds) (λ seg h. sym (kind_again kinds seg) ∙ fails (get_or kinds seg Coherent) (missed seg h _ refl))
        where
          missed : (seg : ℕ) → seg < 13 → (b : Bool) → test (get_or kinds seg Coherent) ≡ b → test (get_or kinds seg Coherent) ≡ false
          missed seg h true t = absurd (true≢false (sym (list_any_at test kinds seg Coherent (omega arith) t) ∙ e))
          missed seg h false t = t
