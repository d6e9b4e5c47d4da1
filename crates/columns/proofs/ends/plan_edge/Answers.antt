use Rattle.std.proofs.Common.{arith}
use Rattle.columns.proofs.PlanNetworks.{edge-most}
use Rattle.columns.proofs.ends.plan_edge.Goals as goal

pub loop-word-init : goal.loop-word-init
loop-word-init c = (omega arith, omega (arith, edge-most c.args.x c.args.plan.now))
