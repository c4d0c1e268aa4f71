use Rattle.std.proofs.Common.{rules, codes, refl}
use Rattle.dl_plans.proofs.CommandMatches.{migrates}
use Rattle.dl_plans.proofs.command.migration.Goals as goal

pub returns-in-Some-eq2 : goal.returns-in-Some-eq2
returns-in-Some-eq2 c =
    migrates c.args.matches.now c.in-Some.own.now (codes "migrate") 2 c.in-Some-eq2.field-0 (c.in-Some.ensures.found.0 refl) c.in-Some.ensures.rows c.in-Some-eq2.field-0-test
    c.in-Some-eq2.ensures.none (λ t e. let k = c.in-Some-eq2.ensures.value t e in record { numeral = search rules; value = search rules })

pub returns-in-Some-eq3 : goal.returns-in-Some-eq3
returns-in-Some-eq3 c =
    migrates c.args.matches.now c.in-Some.own.now (codes "migrate") 3 c.in-Some-eq3.field-0 (c.in-Some.ensures.found.0 refl) c.in-Some.ensures.rows c.in-Some-eq3.field-0-test
    c.in-Some-eq3.ensures.none (λ t e. let k = c.in-Some-eq3.ensures.value t e in record { numeral = search rules; value = search rules })
