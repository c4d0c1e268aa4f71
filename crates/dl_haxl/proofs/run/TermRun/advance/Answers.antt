use Rattle.dl_haxl.proofs.TicketLooks.{later_self}
use Rattle.dl_haxl.proofs.run.TermRun.advance.Goals as goal

pub returns-in-Ended-clause-tickets : goal.returns-in-Ended-clause-tickets
returns-in-Ended-clause-tickets g c = later_self c.args.self.now.tickets.items

pub returns-in-Wanting-clause-tickets : goal.returns-in-Wanting-clause-tickets
returns-in-Wanting-clause-tickets g c = later_self c.args.self.now.tickets.items
