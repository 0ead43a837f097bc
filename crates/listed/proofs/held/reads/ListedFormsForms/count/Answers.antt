use Rattle.std.proofs.Common.{rules}
use Rattle.listed.proofs.Known.{count_known, fold_known, fits_known}
use Rattle.listed.proofs.held.reads.ListedFormsForms.count.Goals as goal

-- No step of the code is named: the number is proved where it is the lists' length, and where they are counted one by one.
pub returns : goal.returns
returns c = let t = c.args.self.now in search (rules, count_known t, fold_known t)

pub overflow_cast-result : goal.overflow_cast-result
overflow_cast-result c = let t = c.args.self.now in search (rules, count_known t, fold_known t, fits_known t)
