-- Only raw 0 stands for 2^64.
use Rattle.std.proofs.Common.{arith}
use Rattle.modular.proofs.Laws.{full_range_lem}
use Rattle.modular.proofs.Modulus.is_full_range.Goals as goal

pub returns : goal.returns
returns c = full_range_lem 64 c.args.self.0 (omega arith)
