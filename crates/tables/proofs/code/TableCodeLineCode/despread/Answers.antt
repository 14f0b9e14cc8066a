use Rattle.std.proofs.Common.{rules}
use Rattle.linecode.proofs.Hearing.{heard}
use Rattle.tables.specs.Codes.{code_of}
use Rattle.tables.specs.CodeLaws.{code_lawful}
use Rattle.tables.proofs.code.TableCodeLineCode.despread.Goals as goal

pub returns-clause-promise : goal.returns-clause-promise
returns-clause-promise c = heard (code_of c.args.self.now) (code_lawful c.args.self.now) c.args._position (search rules) c.args.chips.now _ (search rules)
