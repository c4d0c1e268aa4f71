use Rattle.std.proofs.Common.{rules, ◌≡◌, ◌≤◌, ℕ, codes, subst, sym, ◌∙◌}
use Rattle.clap.proofs.WalkLemmas.{first_value-rows}
use Rattle.clap.specs.Words.{found_of, rows_of}
use Rattle.dl_plans.specs.Options.{GivesNumber, most_answer}
use Rattle.dl_plans.proofs.CommandMatches.{number_given}
use Rattle.dl_plans.proofs.command.most_bytes.Goals as goal

pub returns-in-None : goal.returns-in-None
returns-in-None c = sym (c.in-None.ensures ∙ first_value-rows (found_of c.args.matches.now) (codes "max-answer"))

pub returns-in-Some-get_one : goal.returns-in-Some-get_one
returns-in-Some-get_one c =
    let found = found_of c.args.matches.now in
    let bytes = c.in-Some-get_one.most in
    let is : c.from.result ≡ bytes = c.from.ensures in
    let least : 1 ≤ c.from.result = search rules in
    let most : c.from.result ≤ most_answer = search rules in
    let given = number_given found (codes "max-answer") bytes c.in-Some-get_one.ensures.none
    (λ t e. let k = c.in-Some-get_one.ensures.value t e in record { numeral = search rules; value = search rules }) in
    (least, most, subst (λ (n : ℕ). GivesNumber (rows_of found) (codes "max-answer") n) (sym is) given)
