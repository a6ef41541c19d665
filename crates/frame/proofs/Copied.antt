-- Kinds that are read while they are tested: what is read is the kinds' front, and the rest decides the test.
-- Assumes nothing.
use Prim.Native.Nat.{ℕ, ◌+◌, ◌<◌, ◌≤◌}
use mathlib.Core.Bool.{true}
use mathlib.Core.List.{List, [], ◌∷◌, ◌++◌, map}
use mathlib.Core.Path.{◌≡◌, sym, ap, ◌∙◌}
use native.Mathlib.Numerals.{add-one}
use native.Mathlib.Omega.{arith}
use borrow.Author.Tests.{eq-eqb, le-leb}
use lib.Dec.{leb}
use lib.ListN.{length, get_or, take, drop, set, length-set, drop_of_length-le}
use Rattle.std.proofs.lemmas.List.{length-map, map-set}
use lib.Seq.{take-suc, take-suc-set, take_all}
use Rattle.lists.specs.Tests.{all_in, all_in_pass}
use Rattle.params.specs.declared.SegmentKind.{SegmentKind}
use Rattle.params.specs.declared.SegmentKind.TheVariants.{Coherent, Differential}
use Rattle.params.specs.Params.{kind_code, kind_codes}
use Rattle.frame.specs.Operations.{are_kinds}

kind_small : (kind : SegmentKind) → kind_code kind ≤ 1
kind_small Coherent = omega arith
kind_small Differential = omega arith

module _ (kinds : List ℕ) where
  pub record Reading (i : ℕ) (read : List SegmentKind) : Type 0 where
    pub all : length kinds ≡ 13
    pub size : length read ≡ 13
    pub front : take i (kind_codes read) ≡ take i kinds
    pub rest : all_in (λ k. leb k 1) kinds ≡ all_in (λ k. leb k 1) (drop i kinds)

  module _ (i : ℕ) (read : List SegmentKind) (r : Reading i read) (h : i < 13) where
    pub one_more : (kind : SegmentKind) → get_or kinds i 0 ≡ kind_code kind → Reading (i + 1) (set read i kind)
    unfolding kind_codes
    one_more kind e =
        let inside : i < length (map kind_code read) = omega (arith, r.size, length-map read kind_code) in
        record {
          all = r.all;
          size = length-set read i kind ∙ r.size;
          front =
              rw (add-one, map-set kind_code read i kind, take-suc-set (map kind_code read) i (kind_code kind) inside)
              (rw (take-suc kinds i 0 (omega (arith, r.all)), e) (ap (λ (z : List ℕ). z ++ kind_code kind ∷ []) r.front));
          rest = r.rest ∙ all_in_pass (λ k. leb k 1) kinds i (omega (arith, r.all)) (le-leb _ _ (rw e (kind_small kind)));
        }

  pub all_read : (i : ℕ) (read : List SegmentKind) → Reading i read → 13 ≤ i → i ≤ 13 → (are_kinds kinds ≡ true) × (kind_codes read ≡ kinds)
  unfolding kind_codes
  all_read i read r low high =
      let k : length kinds ≤ i = omega (arith, r.all) in
      let l : length (map kind_code read) ≤ i = omega (arith, r.size, length-map read kind_code) in (
        rw (eq-eqb (length kinds) 13 r.all) (r.rest ∙ ap (all_in (λ k. leb k 1)) (drop_of_length-le kinds k)),
        sym (take_all i (map kind_code read) l) ∙ (r.front ∙ take_all i kinds k),
      )
