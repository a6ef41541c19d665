-- The table that the angle is read from (docs/ANGLE.md): entry i is the angle whose tangent is i / 64, in quarters of 1/65536 of a turn, rounded to the
-- nearest whole number, for i from 0 to 64. dev/arctangents writes the numbers.
-- Definitions only.
use Rattle.std.specs.Prelude.{List, [], ◌∷◌, ℕ, get_or}

unfoldable pub arctangents : List ℕ
arctangents =
    0 ∷ 652 ∷ 1303 ∷ 1954 ∷ 2604 ∷ 3253 ∷ 3900 ∷ 4545 ∷
    5188 ∷ 5829 ∷ 6467 ∷ 7101 ∷ 7733 ∷ 8361 ∷ 8985 ∷ 9605 ∷
    10221 ∷ 10832 ∷ 11439 ∷ 12040 ∷ 12637 ∷ 13228 ∷ 13814 ∷ 14394 ∷
    14968 ∷ 15537 ∷ 16100 ∷ 16656 ∷ 17206 ∷ 17750 ∷ 18288 ∷ 18819 ∷
    19344 ∷ 19862 ∷ 20374 ∷ 20879 ∷ 21378 ∷ 21870 ∷ 22355 ∷ 22834 ∷
    23306 ∷ 23771 ∷ 24230 ∷ 24682 ∷ 25128 ∷ 25568 ∷ 26001 ∷ 26427 ∷
    26848 ∷ 27262 ∷ 27670 ∷ 28072 ∷ 28467 ∷ 28857 ∷ 29241 ∷ 29619 ∷
    29991 ∷ 30357 ∷ 30718 ∷ 31073 ∷ 31423 ∷ 31767 ∷ 32106 ∷ 32439 ∷
    32768 ∷
    []

-- behind the last entry stands an eighth of a turn, as there
abbrev pub entry_at : ℕ → ℕ
entry_at i = get_or arctangents i 32768
