-- `segment_kinds::SegmentRatios::is_telling` meets its contract: what is in neither list is not in the two joined.
-- Assumes nothing.
use Prim.Native.Nat.{ℕ}
use mathlib.Core.Bool.{Bool, true, false, ◌||◌, not}
use mathlib.Core.List.{List, [], ◌∷◌, ◌++◌}
use mathlib.Core.Path.{◌≡◌, refl, ◌∙◌}
use Rattle.std.proofs.Common.{nat_eq, rules}
use Rattle.std.specs.List.{list_any}
use Rattle.std.proofs.lemmas.List.Folds.{list_any-append}
use Rattle.lists.specs.Tests.{memb}
use Rattle.segment_kinds.specs.Inner.{is_telling}
use Rattle.segment_kinds.proofs.SegmentRatios.is_telling.Goals as goal

-- the list's test in the words of a slice's `contains`
memb_any : (p : ℕ) (xs : List ℕ) → memb p xs ≡ list_any (λ y. nat_eq y p) xs
memb_any p [] = refl
memb_any p (x ∷ xs) = rw (memb_any p xs)

module _ (p : ℕ) (tmcc ac1 : List ℕ) (a : Bool) (e : a ≡ list_any (λ y. nat_eq y p) tmcc) where
  joined : memb p (tmcc ++ ac1) ≡ (a || list_any (λ y. nat_eq y p) ac1)
  joined = memb_any p (tmcc ++ ac1) ∙ list_any-append (λ y. nat_eq y p) tmcc ac1 ∙ rw e

  in_first : a ≡ true → not a ≡ is_telling tmcc ac1 p
  in_first t = rw (joined, t)

  second : (b : Bool) → b ≡ list_any (λ y. nat_eq y p) ac1 → a ≡ false → not b ≡ is_telling tmcc ac1 p
  second b f t = rw (joined, t, f)

pub returns-then-not-contains : goal.returns-then-not-contains
returns-then-not-contains c =
    second c.args.p c.args.self.now.tmcc.now c.args.self.now.ac1.now _ c.contains.ensures.value _ c.contains-then-not-contains.ensures.value (search rules)

pub returns-else-not-contains : goal.returns-else-not-contains
returns-else-not-contains c =
    in_first c.args.p c.args.self.now.tmcc.now c.args.self.now.ac1.now _ c.contains.ensures.value (search rules)
