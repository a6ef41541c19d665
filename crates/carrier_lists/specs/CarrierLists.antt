-- The data list and the continual list of document 01, from the roles of a band.
-- Definitions only.
use Rattle.std.specs.Prelude.{ℕ, ◌-◌, List, [], ◌∷◌, ◌++◌, length, drop}
use Rattle.lists.specs.Lists.{range, joined, chosen}
use Rattle.params.specs.declared.Mode.{Mode}
use Rattle.ofdm.specs.Band.{place_of, first_carrier}
use Rattle.frame.specs.Roles.{segment_roles, band_roles, wide_segment, wide, is_data, is_tmcc, is_ac, is_cp_byte}

-- the data carriers of segment seg of the wide band, ascending
unfoldable pub segment_data : Mode → ℕ → List ℕ → ℕ → List ℕ
segment_data mode phase kinds seg =
    chosen is_data (first_carrier mode (place_of seg)) (segment_roles mode phase (wide_segment kinds seg))

-- the data list: in segment-number order
unfoldable pub data_list : Mode → ℕ → List ℕ → List ℕ
data_list mode phase kinds = joined (segment_data mode phase kinds) (range 13)

-- the continual list of a band with these roles: all TMCC carriers, all AC carriers, all CP carriers, each group ascending, then the edge
abbrev pub continual_in : List ℕ → List ℕ
continual_in roles = chosen is_tmcc 0 roles ++ (chosen is_ac 0 roles ++ (chosen is_cp_byte 0 roles ++ ((length roles - 1) ∷ [])))

-- of the wide band: none of these carriers depends on the phase, so phase 0 serves
unfoldable pub continual_list : Mode → List ℕ → List ℕ
continual_list mode kinds = continual_in (band_roles mode 0 (wide kinds))

-- a list stored at the front of `out`, which keeps what lies beyond
abbrev pub stored_first : List ℕ → List ℕ → List ℕ
stored_first list out = list ++ drop (length list) out
