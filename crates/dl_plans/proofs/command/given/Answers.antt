use Rattle.std.proofs.Common.{rules, ◌∙◌, refl, codes}
use Rattle.clap.proofs.WalkLemmas.{first_value-rows, one_text-rows}
use Rattle.clap.specs.Words.{found_of, rows_of}
use Rattle.dl_plans.proofs.CommandMatches.{number_given, were_given}
use Rattle.dl_plans.proofs.command.given.Goals as goal

pub returns-clause-given : goal.returns-clause-given
returns-clause-given c =
    let found = found_of c.args.matches.now in
    let own = found_of c.serving-serve.result.0.now in
    were_given _ _ _ _ _ c.apart.ensures.given (record {
      own = rows_of own;
      serving = c.serving-serve.ensures;
      workers = number_given own (codes "workers") c.in-Some.workers c.in-Some.ensures.none
          (λ t e. let k = c.in-Some.ensures.value t e in record { numeral = search rules; value = search rules });
      least = search rules;
      most = search rules;
      max_answer = c.in-Some-most_bytes.ensures;
      batches = λ e. c.get_flag.ensures.value (one_text-rows found (codes "batches") ∙ e);
      no_batches = λ e. c.get_flag.ensures.other (one_text-rows found (codes "batches") ∙ e);
      explain = λ e. c.get_flag-2.ensures.value (one_text-rows found (codes "explain") ∙ e);
      no_explain = λ e. c.get_flag-2.ensures.other (one_text-rows found (codes "explain") ∙ e);
      statistics = λ e. c.get_flag-3.ensures.value (one_text-rows found (codes "statistics") ∙ e);
      no_statistics = λ e. c.get_flag-3.ensures.other (one_text-rows found (codes "statistics") ∙ e);
      picture = c.in_ok-copied.ensures ∙ (c.get_str-2.ensures ∙ first_value-rows found (codes "picture"));
      trace = c.in_ok-copied-2.ensures ∙ (c.get_str-3.ensures ∙ first_value-rows found (codes "trace"));
      database = c.in_ok-database.ensures ∙ (c.get_str.ensures ∙ first_value-rows own (codes "database"));
      tables = c.in_ok-copied-4.ensures ∙ (c.get_str-5.ensures ∙ first_value-rows own (codes "tables"));
      unread = refl;
      migrate = c.in-Some-migration.ensures;
      history = c.in_ok-copied-3.ensures ∙ (c.get_str-4.ensures ∙ first_value-rows found (codes "history"));
    })
