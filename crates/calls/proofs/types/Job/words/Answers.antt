use Rattle.std.proofs.Common.{◌≤◌, length, sym, arith, take_all, rules}
use Rattle.calls.proofs.types.Job.words.Goals as goal

pub returns : goal.returns
returns c =
    let few : length c.args.self.now.args ≤ 16 = search rules in
    record { is = sym (take_all c.args.self.now.count c.args.self.now.args (omega arith)); few = few }
