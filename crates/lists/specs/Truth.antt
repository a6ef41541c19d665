-- Tests that antt computes over all truth values, and the laws that turn a passed test into its rule at each of them.
-- Assumes nothing.
use Rattle.std.specs.Prelude.{Bool, true, false, cond, not, ◌&&◌, ◌≡◌}
use Rattle.std.proofs.Common.{sym}
use Rattle.std.proofs.lemmas.Bool.{not-true}
use Rattle.lists.specs.Tests.{both_left, both_right}

-- whether two truth values are the same
abbrev pub same : Bool → Bool → Bool
same x y = cond x y (not y)

pub same_true : (x y : Bool) → same x y ≡ true → x ≡ y
same_true true y e = sym e
same_true false y e = sym (not-true y e)

-- whether both truth values pass
abbrev pub always : (Bool → Bool) → Bool
always f = f true && f false

pub always_at : (f : Bool → Bool) → always f ≡ true → (b : Bool) → f b ≡ true
always_at f e true = both_left (f true) (f false) e
always_at f e false = both_right (f true) (f false) e

-- whether any five truth values pass
abbrev pub always5 : (Bool → Bool → Bool → Bool → Bool → Bool) → Bool
always5 f = always (λ a. always (λ b. always (λ c. always (λ d. always (λ e. f a b c d e)))))

pub always5_at : (f : Bool → Bool → Bool → Bool → Bool → Bool) → always5 f ≡ true → (a b c d e : Bool) → f a b c d e ≡ true
always5_at f h a b c d e =
    always_at (λ e. f a b c d e)
    (always_at (λ d. always (λ e. f a b c d e))
    (always_at (λ c. always (λ d. always (λ e. f a b c d e)))
    (always_at (λ b. always (λ c. always (λ d. always (λ e. f a b c d e))))
    (always_at (λ a. always (λ b. always (λ c. always (λ d. always (λ e. f a b c d e))))) h a) b) c) d) e
