use Rattle.std.proofs.Common.{ap, ◌∙◌, ◌∷◌, [], codes}
use Rattle.clap.specs.Words.{Rule, rule_of}
use Rattle.clap.specs.declared.builder.arg.Arg.{Arg}
use Rattle.dl_plans.proofs.command.bounded_answer.Goals as goal

pub returns-clause-rule : goal.returns-clause-rule
returns-clause-rule c =
    ap rule_of c.default_value.ensures ∙ ap (λ (r : Rule). record r { defaults = codes "16777216" ∷ [] }) c.max_answer.ensures.rule

pub returns-clause-local : goal.returns-clause-local
returns-clause-local c = ap (λ (a : Arg). a.global) c.default_value.ensures ∙ c.max_answer.ensures.local
