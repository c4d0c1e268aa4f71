use Rattle.std.proofs.Common.{sym, ◌∙◌}
use Rattle.dl_plans.proofs.JoinedTables.{answers_alone, own_finds, database_finds}
use Rattle.dl_plans.proofs.joined_tables.JoinedTables.fetch_one.Goals as goal

pub returns-then-contains : goal.returns-then-contains
returns-then-contains c =
    let own = c.self.inside.own.now in
    answers_alone c.fetch.result c.args.self.now own c.args.key.now c.from_ref-keys.result.now c.from_ref-keys.ensures.value
    (own_finds c.args.self.now own c.self.inside.names.now c.args.key.now c.table.result.now c.table.ensures.text c.self.inside.database.now
    c.self.view_is c.self.invariant (sym c.contains.ensures ∙ c.if-contains.true))
    c.fetch.ensures

pub returns-in-Some : goal.returns-in-Some
returns-in-Some c =
    let database = c.in-Some.database in
    answers_alone c.fetch-in-Some.result c.args.self.now database c.args.key.now c.from_ref-keys.result.now c.from_ref-keys.ensures.value
    (database_finds c.args.self.now c.self.inside.own.now c.self.inside.names.now c.args.key.now c.table.result.now c.table.ensures.text database
    c.self.inside.database.now c.in-Some.is c.self.view_is c.self.invariant (sym c.contains.ensures ∙ c.if-contains.false))
    c.fetch-in-Some.ensures
