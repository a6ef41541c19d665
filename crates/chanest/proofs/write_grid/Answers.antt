-- `chanest::write_grid` meets its contract: the window is the call's, and the signs lent beside it are the band's.
-- Assumes nothing.
use Rattle.std.proofs.Common.{rules}
use Rattle.prbs.specs.Buffered.{written_front}
use Rattle.chanest.proofs.Windows.{as_long, captured, room}
use Rattle.chanest.proofs.write_grid.Goals as goal

pub invariant_of-capture : goal.invariant_of-capture
invariant_of-capture c =
    let size = as_long c.window_of-win.ensures in
    record {
      captured = captured c.args.layout.mode c.args.spectra.now c.args.current c.args.out.now c.requires c.window_of-win.ensures
          (written_front c.args.layout.mode size _ (search rules) c.band_w.ensures);
    }

pub write_points-requires : goal.write_points-requires
write_points-requires c =
    room c.args.layout.mode c.args.spectra.now c.args.current c.args.out.now c.requires c.window_of-win.ensures
