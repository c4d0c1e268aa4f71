-- The command line of `plans`, and what its matches give.
use Rattle.std.specs.Prelude.{◌≡◌, ◌≤◌, ℕ, ◌∷◌, [], List, Bool, true, false, pos, codes, Option, Some, None, option_map, String, string_bytes}
use Rattle.std.specs.String.{string_eq}
use Rattle.std.specs.declared.alloc.Global.{Global}
use Rattle.std.specs.Str.Parse.{digits_value, without_leading_plus, IsNumeral}
use Rattle.clap.specs.Words.{App, Shape, Row, Rule, Text, new_app, new_rule, first_of, one_of, with_rule, with_subcommand}
use Rattle.clap.specs.Simple.{on_top}
use Rattle.clap.specs.declared.builder.action.ArgAction.TheVariants.{SetTrue}
use Rattle.clap.specs.declared.builder.value_parser.ValueParser.TheVariants as vp
use Rattle.dl_migration.specs.Migrated.{number_of}
use Rattle.dl_migration.specs.declared.target.Target.{Target}
use Rattle.dl_plans.specs.declared.settings.Options.{Options}

-- the most fetch workers
abbrev pub most_workers : ℕ
most_workers = 16

-- `--workers N`, a number from 1 to the most, or 3 if the words don't give it
abbrev pub workers_rule : Rule
workers_rule = record (new_rule (codes "workers")) {
  long = Some (codes "workers");
  value_names = 1;
  parser = Some (vp.Signed (pos 1) (pos most_workers));
  defaults = codes "3" ∷ [];
}

-- the most that `--max-answer` takes
abbrev pub most_answer : ℕ
most_answer = 4294967295

-- `--max-answer N`, a number from 1 to the most
abbrev pub max_answer_rule : Rule
max_answer_rule = record (new_rule (codes "max-answer")) {
  long = Some (codes "max-answer");
  value_names = 1;
  parser = Some (vp.Signed (pos 1) (pos most_answer));
}

-- `--batches`, a flag
abbrev pub batches_rule : Rule
batches_rule = record (new_rule (codes "batches")) { long = Some (codes "batches"); action = Some SetTrue }

-- `--explain`, a flag
abbrev pub explain_rule : Rule
explain_rule = record (new_rule (codes "explain")) { long = Some (codes "explain"); action = Some SetTrue }

-- `--statistics`, a flag
abbrev pub statistics_rule : Rule
statistics_rule = record (new_rule (codes "statistics")) { long = Some (codes "statistics"); action = Some SetTrue }

-- `--picture FILE`
abbrev pub picture_rule : Rule
picture_rule = record (new_rule (codes "picture")) { long = Some (codes "picture"); value_names = 1 }

-- `--trace FILE`
abbrev pub trace_rule : Rule
trace_rule = record (new_rule (codes "trace")) { long = Some (codes "trace"); value_names = 1 }

-- `--database FILE`
abbrev pub database_rule : Rule
database_rule = record (new_rule (codes "database")) { long = Some (codes "database"); value_names = 1 }

-- `--history FILE`
abbrev pub history_rule : Rule
history_rule = record (new_rule (codes "history")) { long = Some (codes "history"); value_names = 1 }

-- the words follow the program's name
abbrev pub without_name : Shape → Shape
without_name s = record s { no_binary_name = true }

-- `--to N`, a number that is 2 or 3, or 2 if the words don't give it
abbrev pub to_rule : Rule
to_rule = record (new_rule (codes "to")) {
  long = Some (codes "to");
  value_names = 1;
  parser = Some (vp.Signed (pos 2) (pos 3));
  defaults = codes "2" ∷ [];
}

-- `migrate`, with its option
abbrev pub migrate_app : App
migrate_app = with_rule (new_app (codes "migrate")) to_rule

-- the command line without options
abbrev pub program_app : App
program_app = on_top without_name (new_app (codes "plans"))

-- the options that say how the plans are served, and what standard output has of it
abbrev pub serving_app : App
serving_app = with_rule (with_rule (with_rule program_app workers_rule) max_answer_rule) batches_rule

-- the options for answering a document that name no file
abbrev pub answering_app : App
answering_app = with_rule (with_rule serving_app explain_rule) statistics_rule

-- the options for answering a document
abbrev pub file_words_app : App
file_words_app = with_rule (with_rule (with_rule (with_rule answering_app picture_rule) trace_rule) database_rule) history_rule

-- the options for answering a document, and `migrate`
abbrev pub document_app : App
document_app = with_subcommand file_words_app migrate_app.top

-- `--max-answer N` of `serve`, where it is 16 MiB if the words don't give it
abbrev pub bounded_answer_rule : Rule
bounded_answer_rule = record max_answer_rule { defaults = codes "16777216" ∷ [] }

-- `--tables FILE`
abbrev pub tables_rule : Rule
tables_rule = record (new_rule (codes "tables")) { long = Some (codes "tables"); value_names = 1 }

-- `serve` without options
abbrev pub server_app : App
server_app = new_app (codes "serve")

-- `serve`, with its options
abbrev pub serve_app : App
serve_app = with_rule (with_rule (with_rule (with_rule server_app workers_rule) bounded_answer_rule) database_rule) tables_rule

-- the command line without its version
abbrev pub plans_words_app : App
plans_words_app = with_subcommand document_app serve_app.top

abbrev pub with_version : Shape → Shape
with_version s = record s { has_version = true }

-- the command line of `plans`
abbrev pub plans_app : App
plans_app = on_top with_version plans_words_app

-- the name of the subcommand in use, without what its own matches give
abbrev pub name_of : Option (Text × List Row) → Option Text
name_of = option_map (λ used. used.0)

-- a text is this number in decimal
pub record IsDecimal (text : Text) (n : ℕ) : Type 0 where
  pub numeral : IsNumeral 10 (without_leading_plus text)
  pub value : n ≡ digits_value 10 (without_leading_plus text)

-- a row of the matches is this number in decimal
pub record GivesNumber (rows : List Row) (id : Text) (n : ℕ) : Type 0 where
  pub text : Text
  pub row : one_of id rows ≡ Some text
  pub decimal : IsDecimal text n

-- the most bytes that a plan's answers may take, if the rows have a number
abbrev pub GivesMost : List Row → Option ℕ → Type 0
GivesMost rows None = first_of (codes "max-answer") rows ≡ None
GivesMost rows (Some most) = (1 ≤ most) × (most ≤ most_answer) × GivesNumber rows (codes "max-answer") most

-- whether there are two files, with one name
abbrev pub have_one_name : Option (String Global) → Option (String Global) → Bool
have_one_name (Some file) (Some other) = string_eq file other
have_one_name (Some file) None = false
have_one_name None other = false

-- no two of the files that are there have one name: those that are written, and one that is read
pub record AreApart (picture trace read : Option (String Global)) : Type 0 where
  pub picture_trace : have_one_name picture trace ≡ false
  pub picture_read : have_one_name picture read ≡ false
  pub trace_read : have_one_name trace read ≡ false

-- whether to write a document in another version, and in which, by the subcommand in use
abbrev pub Migrates : Option (Text × List Row) → Option Target → Type 0
Migrates used None = name_of used ≡ Some (codes "migrate") → ⊥
Migrates used (Some target) = (rows : List Row) × (used ≡ Some (codes "migrate", rows)) × GivesNumber rows (codes "to") (number_of target)

-- Whether to answer the requests of a connection, and whose options say how plans are served: those of `serve`, if that is the
-- subcommand in use, and else those of the program.
abbrev pub IsServing : Bool → List Row → Option (Text × List Row) → List Row → Type 0
IsServing true rows used own = used ≡ Some (codes "serve", own)
IsServing false rows used own = (name_of used ≡ Some (codes "serve") → ⊥) × (own ≡ rows)

-- the options and the file of the database that the matches and the subcommand in use give
pub record AreGiven (rows : List Row) (used : Option (Text × List Row)) (o : Options) (file : Option (String Global)) : Type 0 where
  pub own : List Row
  pub serving : IsServing o.serve rows used own
  pub workers : GivesNumber own (codes "workers") o.workers
  pub least : 1 ≤ o.workers
  pub most : o.workers ≤ most_workers
  pub max_answer : GivesMost own o.max_answer
  pub batches : one_of (codes "batches") rows ≡ Some (codes "true") → o.batches ≡ true
  pub no_batches : one_of (codes "batches") rows ≡ Some (codes "false") → o.batches ≡ false
  pub explain : one_of (codes "explain") rows ≡ Some (codes "true") → o.explain ≡ true
  pub no_explain : one_of (codes "explain") rows ≡ Some (codes "false") → o.explain ≡ false
  pub statistics : one_of (codes "statistics") rows ≡ Some (codes "true") → o.statistics ≡ true
  pub no_statistics : one_of (codes "statistics") rows ≡ Some (codes "false") → o.statistics ≡ false
  pub picture : option_map string_bytes o.picture ≡ first_of (codes "picture") rows
  pub trace : option_map string_bytes o.trace ≡ first_of (codes "trace") rows
  pub database : option_map string_bytes file ≡ first_of (codes "database") own
  pub tables : option_map string_bytes o.tables ≡ first_of (codes "tables") own
  pub unread : o.database ≡ None
  pub migrate : Migrates used o.migrate
  pub history : option_map string_bytes o.history ≡ first_of (codes "history") rows
