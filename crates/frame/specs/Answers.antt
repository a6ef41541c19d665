-- What the tests on the way to a return make of an operation's definition: for the role map here, and the lists above.
-- Assumes nothing.
use Rattle.std.specs.Prelude.{ℕ, ◌≤◌, ◌<◌, List, ◌≡◌, length, get_or, map, ltb, Option, Some, None}
use Rattle.std.proofs.Math.Bool.{false}
use Rattle.std.proofs.Math.Path.{refl}
use Rattle.std.proofs.Common.{sym, ap, ◌∙◌, arith, lit≤}
use Rattle.std.proofs.Math.ListN.{get_or-map}
use mathlib.Core.List.{map_congr_left}
use borrow.Author.Tests.{eq-eqb, ne_eqb, lt-ltb, le-ltb}
use Rattle.lists.specs.Refusals.{unless_most}
use Rattle.params.specs.declared.Mode.{Mode}
use Rattle.params.specs.declared.Refusal.{Refusal}
use Rattle.params.specs.declared.Refusal.TheVariants.{BadMode, BadKinds}
use Rattle.params.specs.declared.SegmentKind.{SegmentKind}
use Rattle.params.specs.declared.SegmentKind.TheVariants.{Coherent, Differential}
use Rattle.params.specs.Params.{kind_code, kind_from, refusal_number, kind_codes}
use Rattle.frame.specs.declared.FrameLayout.{FrameLayout}
use Rattle.ofdm.specs.Band.{order}
use Rattle.frame.specs.Roles.{ofdm_segment, wide}
use Rattle.frame.specs.Operations.{are_kinds, symbol_tests, SymbolAnswer, symbol_code, symbol_leaves}
use Rattle.frame.specs.Inner.{Accepted, RefusedLayout}

-- a kind comes back from its code
known_again : (kind : SegmentKind) → kind ≡ kind_from (kind_code kind)
known_again Coherent = refl
known_again Differential = refl

pub kind_again : (kinds : List SegmentKind) (seg : ℕ) → get_or kinds seg Coherent ≡ kind_from (get_or (kind_codes kinds) seg 0)
unfolding kind_codes
kind_again kinds seg = known_again (get_or kinds seg Coherent) ∙ ap kind_from (sym (get_or-map kind_code kinds seg Coherent))

-- ---- thirteen bytes, any of them, as a layout: each definition that reads kinds reads the same from the layout's codes as from the bytes
pub code_again : (codes : List ℕ) (seg : ℕ) → kind_from (get_or (kind_codes (map kind_from codes)) seg 0) ≡ kind_from (get_or codes seg 0)
code_again codes seg = sym (kind_again (map kind_from codes) seg) ∙ get_or-map kind_from codes seg 0

pub wide_codes : (codes : List ℕ) → wide (kind_codes (map kind_from codes)) ≡ wide codes
wide_codes codes = map_congr_left {l = order} (λ seg _. ap (ofdm_segment seg) (code_again codes seg))

-- a layout that was refused: its mode is bad, or its mode is good and its kinds are not
pub by_refusal : (kinds : List ℕ) (P : Option Mode → Refusal → Type 0) → P None BadMode → ((m : Mode) → are_kinds kinds ≡ false → P (Some m) BadKinds)
    → (number : Option Mode) (refusal : Refusal) → RefusedLayout number kinds refusal → P number refusal
by_refusal kinds P bad_mode bad_kinds None refusal e = rw e bad_mode
by_refusal kinds P bad_mode bad_kinds (Some m) refusal e = rw e.1 (bad_kinds m e.0)

-- the number of a chain of an operation's tests
pub tests_most : (last : Mode → ℕ) → ((m : Mode) → last m ≤ 11) → (mode : Option Mode) (phase : ℕ) (kinds : List ℕ) → symbol_tests last mode phase kinds ≤ 11
tests_most last l None phase kinds = lit≤ tt
tests_most last l (Some m) phase kinds =
    unless_most (are_kinds kinds) 2 _ 11 (lit≤ tt) (unless_most (ltb phase 4) 3 (last m) 11 (lit≤ tt) (l m))

module _ (kinds : List ℕ) (size : Mode → ℕ) (list : Mode → List ℕ) (phase : ℕ) (out : List ℕ) where
  pub refused_layout : (number : Option Mode) (refusal : Refusal) → RefusedLayout number kinds refusal
      → SymbolAnswer size list number phase kinds out (refusal_number refusal) out
  unfolding symbol_code symbol_leaves
  refused_layout =
      by_refusal kinds (λ n r. SymbolAnswer size list n phase kinds out (refusal_number r) out) (record { code = refl; leaves = refl })
      (λ m g. record { code = rw g; leaves = rw g })

  module _ {number : Option Mode} {layout : FrameLayout} (a : Accepted number kinds layout) where
    pub refused_phase : 3 < phase → SymbolAnswer size list number phase kinds out 3 out
    unfolding symbol_code symbol_leaves
    refused_phase h = record { code = rw (a.known, a.good, le-ltb phase 4 h); leaves = rw (a.known, a.good, le-ltb phase 4 h) }

    module _ (h : phase ≤ 3) where
      in_cycle : phase < 4
      in_cycle = omega arith

      pub refused_length : (length out ≡ size layout.mode → ⊥) → SymbolAnswer size list number phase kinds out 7 out
      unfolding symbol_code symbol_leaves
      refused_length l =
          record {
            code = rw (a.known, a.good, lt-ltb phase 4 in_cycle, ne_eqb _ _ l);
            leaves = rw (a.known, a.good, lt-ltb phase 4 in_cycle, ne_eqb _ _ l);
          }

      pub answered : (out' : List ℕ) → length out ≡ size layout.mode → out' ≡ list layout.mode → SymbolAnswer size list number phase kinds out 0 out'
      unfolding symbol_code symbol_leaves
      answered out' l w =
          record {
            code = rw (a.known, a.good, lt-ltb phase 4 in_cycle, eq-eqb _ _ l);
            leaves = rw (a.known, a.good, lt-ltb phase 4 in_cycle, eq-eqb _ _ l) w;
          }
