-- The last address of a range that lies below 2 ^ 32.
use Rattle.std.proofs.Common.{◌^◌, ◌<◌, arith}
use Rattle.matching.specs.Machinery.Ranges.{network_high}
use Rattle.matching.proofs.Networks.{high_fits}
use Rattle.matching.proofs.network.network_high.Goals as goal

pub overflow_cast-result : goal.overflow_cast-result
overflow_cast-result c =
    let a = c.args in
    let high : network_high a.network a.length < 2 ^ 32 = high_fits a.network a.length c.ranges.network.fits in
    omega (arith, c.network_size-size.ensures, c.network_low-low.ensures)
