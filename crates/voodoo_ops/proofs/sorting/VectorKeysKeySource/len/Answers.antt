use Rattle.voodoo_ops.proofs.Sorted.{even_keys}
use Rattle.voodoo_ops.proofs.sorting.VectorKeysKeySource.len.Goals as goal

pub returns-clause-even : goal.returns-clause-even
returns-clause-even c = even_keys c.args.self.now.len c.args.self.now.keys.items c.args.self.now.long
