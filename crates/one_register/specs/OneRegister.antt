-- Table 3-16 compared with the register itself: its rows are the states of one register that runs on across the band, whose next output
-- is the edge's sign; and the signs obey the polynomial.
-- Assumes nothing.
use Rattle.std.specs.Prelude.{ℕ, zero, suc, ◌+◌, ◌*◌, ◌<◌, List, ◌≡◌, refl, take}
use Rattle.std.proofs.Common.{arith, add_comm, zero-add, suc-add, suc-mul, lit<, get_or-take}
use Rattle.lists.specs.Tests.{values, agree}
use Rattle.params.specs.declared.Mode.{Mode}
use Rattle.params.specs.declared.Mode.TheVariants.{M1, M2, M3}
use Rattle.params.specs.Params.{carriers_per_segment}
use Rattle.tables.specs.Places.{init_of}
use Rattle.ofdm.specs.Band.{segment_at}
use Rattle.prbs.specs.Signs.{loaded, xor, after, sign_after, edge_sign}

-- the register with every bit set, which the lowest segment loads
abbrev pub ones : List ℕ
ones = loaded 0b11111111111

-- what the segment at a place of the band loads
abbrev first_state : Mode → ℕ → List ℕ
first_state mode place = loaded (init_of mode (segment_at place))

after_add : (m n : ℕ) (b : List ℕ) → after (m + n) b ≡ after m (after n b)
unfolding after
after_add zero n b = rw zero-add
after_add (suc m) n b = rw (suc-add, after_add m n b)

-- a segment on, the register holds what the next segment loads
next_tested : (mode : Mode)
    → values (λ place. after (carriers_per_segment mode) (first_state mode place)) 12 ≡ values (λ place. first_state mode (suc place)) 12
unfolding after
next_tested M1 = refl
next_tested M2 = refl
next_tested M3 = refl

-- the rows of Table 3-16 are the states of one register, which starts with ones and runs on across the band
pub one_register : (mode : Mode) (place : ℕ) → place < 13 → after (place * carriers_per_segment mode) ones ≡ loaded (init_of mode (segment_at place))
unfolding after
one_register M1 zero h = refl
one_register M2 zero h = refl
one_register M3 zero h = refl
one_register mode (suc place) h =
    rw (suc-mul, add_comm, after_add, one_register mode place (omega arith))
    (agree (λ place. after (carriers_per_segment mode) (first_state mode place)) (λ place. first_state mode (suc place)) 12
    (next_tested mode) place (omega arith))

edge_tested : (mode : Mode) → sign_after (first_state mode 12) (carriers_per_segment mode) ≡ edge_sign mode
unfolding after
edge_tested M1 = refl
edge_tested M2 = refl
edge_tested M3 = refl

-- the edge carrier's sign is the next that the register gives
pub edge_follows : (mode : Mode) → sign_after ones (13 * carriers_per_segment mode) ≡ edge_sign mode
edge_follows mode = rw (suc-mul 12, add_comm, after_add, one_register mode 12 (omega arith)) (edge_tested mode)

-- the signs obey the polynomial x^11 + x^9 + 1: each is the exclusive or of those 9 and 11 steps before it
pub polynomial : (b : List ℕ) (n : ℕ) → sign_after b (n + 11) ≡ xor (sign_after b (n + 2)) (sign_after b n)
unfolding after
polynomial b n =
    rw (
      add_comm n 11,
      add_comm n 2,
      after_add 11 n b,
      after_add 2 n b,
      get_or-take 9 (take 10 (after n b)) 8 0 (lit< tt),
      get_or-take 10 (after n b) 8 0 (lit< tt),
    )
