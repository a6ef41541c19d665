-- An f64 to the nearest f32, at a tie the even one: Rust's `x as f32`. Definitions only.
use Rattle.std.specs.Prelude.{◌*◌, Float}
use Rattle.std.specs.Float.{nan, inf, fin, binary32}
use Rattle.std.specs.Float.Ieee.{up, down, round}

unfoldable pub narrow_of : Float → Float
unfolding round
narrow_of nan = nan
narrow_of (inf s) = inf s
narrow_of (fin s m e) = round binary32 s (m * up e) (down e)
