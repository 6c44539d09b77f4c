-- `cache::left_out` meets its contract: the four arrays are what leaving one out gives.
use Rattle.std.proofs.Common.{arith}
use Rattle.cache.proofs.Four.{min_three, out_0, out_1, out_2, out_3}
use Rattle.cache.proofs.left_out.Goals as goal

pub returns-in-0 : goal.returns-in-0
returns-in-0 c = out_0 c.args.c (omega (arith, c.well_formed)) _ (omega (arith, c.in-0.is))

pub returns-in-1 : goal.returns-in-1
returns-in-1 c = out_1 c.args.c (omega (arith, c.well_formed)) _ (omega (arith, c.in-1.is))

pub returns-in-2 : goal.returns-in-2
returns-in-2 c = out_2 c.args.c (omega (arith, c.well_formed)) _ (omega (arith, c.in-2.is))

pub returns-in_default : goal.returns-in_default
returns-in_default c =
    let rest = c.in_default.in_default-own.rest in
    out_3 c.args.c (omega (arith, c.well_formed)) _ (min_three _ rest.0.0.1 rest.0.1 rest.1)
