use Rattle.acpidis.proofs.Common.{rules, table_codes}
use Rattle.acpidis.proofs.bodies.Unread.read.Goals as goal

pub returns-in-Ok : goal.returns-in-Ok
returns-in-Ok c = λ es s. c.in-Ok.ensures.reading (table_codes c.args.self.now.set.now.tables.items) c.requires.body es s

pub returns-in-Err : goal.returns-in-Err
returns-in-Err c = λ es s.
    let reading = c.in-Err.ensures.reading (table_codes c.args.self.now.set.now.tables.items) c.requires.body es s in
    let forward = c.in-Err.ensures.forward (table_codes c.args.self.now.set.now.tables.items) c.requires.body es s in
    search rules
