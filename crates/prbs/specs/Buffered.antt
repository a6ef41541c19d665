-- The band has a sign for each carrier, and the signs lie in a buffer's first k_total entries.
-- Assumes nothing.
use Rattle.std.specs.Prelude.{ℕ, ◌≤◌, List, [], ◌∷◌, ◌++◌, ◌≡◌, length, take, drop}
use Rattle.std.proofs.Common.{sym, ap, ◌∙◌, arith, length-append, length-take-le, take_at}
use Rattle.lists.specs.Lists.{joined}
use Rattle.lists.specs.Select.{length_up_to, length_joined}
use Rattle.params.specs.declared.Mode.{Mode}
use Rattle.params.specs.Params.{carriers_per_segment, total_carriers}
use Rattle.params.specs.Laws.{sized}
use Rattle.ofdm.specs.Band.{order}
use Rattle.prbs.specs.Signs.{segment_signs, edge_sign, band_signs}

pub signs_length : (mode : Mode) → length (band_signs mode) ≡ total_carriers mode
unfolding band_signs segment_signs
signs_length mode =
    let parts = length_joined (segment_signs mode) (carriers_per_segment mode) 0 order (λ i l. length_up_to _ (carriers_per_segment mode)) in
    omega (arith, length-append (joined (segment_signs mode) order) (edge_sign mode ∷ []), parts, (sized mode).band)

module _ (m : Mode) {k : ℕ} (sizes : k ≡ total_carriers m) (buffer : List ℕ) (large : 5617 ≤ length buffer) where
  pub room : k ≤ length buffer
  room = omega (arith, (sized m).band_high)

  pub front_length : length (take k buffer) ≡ k
  front_length = length-take-le k buffer room

  -- the front holds w, the signs
  module _ {w : List ℕ} (e : w ≡ band_signs m) where
    written : length w ≡ k
    written = ap length e ∙ (signs_length m ∙ sym sizes)

    pub written_room : k ≤ length (w ++ drop k buffer)
    written_room = omega (arith, written, length-append w (drop k buffer))

    pub written_front : take k (w ++ drop k buffer) ≡ band_signs m
    written_front = take_at w (drop k buffer) k written ∙ e

    pub written_length : k ≡ length (take k (w ++ drop k buffer))
    written_length = sym (length-take-le k (w ++ drop k buffer) written_room)
