-- What a run reads and writes, what serves its plans, what it gives, and how it fails.
use Rattle.std.specs.Prelude.{◌≡◌, ℕ, ◌≤◌, List, length, take, Option, is_some}
use Rattle.std.specs.Io.KnownBytes.{Appends, Consumes}
use Rattle.serde_json.specs.Data.{Data}
use Rattle.dl_values.specs.Answering.{by_function}
use Rattle.dl_documents.specs.Document.{IsTextOf, Spells}
use Rattle.dl_documents.specs.Faults.{AppliesTo, IsLeast, most_bytes}
use Rattle.dl_documents.specs.OverDatabase.{read_as}
use Rattle.dl_documents.specs.declared.input.Input.{Input}
use Rattle.dl_documents.specs.declared.input.Input.TheVariants as input
use Rattle.dl_documents.specs.declared.input.PlanFile.{PlanFile}
use Rattle.dl_desk.specs.Service.{Service}
use Rattle.dl_source.specs.Answer.{answer_of}
use Rattle.dl_gather.specs.declared.task.Policy.TheVariants.{Eager}
use Rattle.dl_scope.specs.Report.{Report}
use Rattle.dl_scope.specs.Setup.{service_of}
use Rattle.dl_scope.specs.declared.setup.Setup.{Setup}
use Rattle.dl_scope.specs.Faults.{RefusedAs}
use Rattle.dl_scope.specs.Headline.{Headline}
use Rattle.dl_plans.specs.JoinedTables.{joined}
use Rattle.dl_plans.specs.ScriptText.{script_text}
use Rattle.dl_plans.specs.ReportText.{report_text}
use Rattle.dl_plans.specs.declared.fault.RunError.{RunError}
use Rattle.dl_plans.specs.declared.fault.RunError.TheVariants.{Read, Refused, Run, Write, OutOfMemory, NotVersion1, NotVersion1Or2, NoHistory}
use Rattle.dl_plans.specs.declared.settings.Options.{Options}

-- ---- what is read

-- the reader has lost at most this many bytes from the front of those that it had
pub record ReadsAtMost (most : ℕ) (old new : Option (List ℕ)) : Type 0 where
  pub lost : List ℕ
  pub few : length lost ≤ most
  pub consumed : Consumes old new lost

-- the tree that counts in place of a document's, by whether the options have a database
abbrev pub read_by : Options → Data → Data
read_by options = read_as (is_some options.database)

-- the bytes are those of a document, which says this
pub record IsDocument (options : Options) (bytes : List ℕ) (i : Input) : Type 0 where
  pub small : length bytes ≤ most_bytes
  pub tree : Data
  pub is_text : IsTextOf bytes tree
  pub spells : Spells (read_by options tree) i

-- ---- what serves the plans

-- how many jobs the queue between plans and workers holds
abbrev pub queue_places : ℕ
queue_places = 16

-- how the program serves a plan file: plans send as soon as none of them runs
abbrev pub setup_of : Options → PlanFile → Setup
setup_of options file = record {
  limits = file.limits;
  tables = file.table_limits;
  workers = options.workers;
  policy = Eager;
  queue = queue_places;
  max_answer = options.max_answer;
}

-- what serves the plans of a file: its tables answer, and behind them those of the database
abbrev pub file_service : Options → PlanFile → Service
file_service options file =
    service_of (setup_of options file) (length file.plans.items) (by_function (answer_of (joined file.tables options.database)))

-- ---- what is written

-- the writer has gained the beginning of the text
pub record AppendsFront (old new : Option (List ℕ)) (text : List ℕ) : Type 0 where
  pub count : ℕ
  pub within : count ≤ length text
  pub written : Appends old new (take count text)

-- the writer has gained a text that the bytes give
pub record Writes (IsGiven : List ℕ → List ℕ → Type 0) (old new : Option (List ℕ)) (bytes : List ℕ) : Type 0 where
  pub text : List ℕ
  pub given : IsGiven bytes text
  pub written : Appends old new text

-- the writer has gained the beginning of a text that the bytes give
pub record WritesFront (IsGiven : List ℕ → List ℕ → Type 0) (old new : Option (List ℕ)) (bytes : List ℕ) : Type 0 where
  pub text : List ℕ
  pub given : IsGiven bytes text
  pub written : AppendsFront old new text

-- ---- what it gives

-- The text that a document gives: that of a script, or that of a report that has the headline for the limits and plans
-- of the file, for its tables and for those of the database.
abbrev pub Outputs : Options → Input → List ℕ → Type 0
Outputs options (input.Script s) text = text ≡ script_text s
Outputs options (input.Plans file) text = (r : Report) × Headline (file_service options file) file.plans.items r × (text ≡ report_text r options.batches)

-- the text is what the bytes give: they are those of a document that gives it
abbrev pub IsOutput : Options → List ℕ → List ℕ → Type 0
IsOutput options bytes text = (i : Input) × IsDocument options bytes i × Outputs options i text

-- ---- refusals

-- if the error says that a document is refused, the refusal is the first that applies to it; if it says that plans
-- aren't served, they are those of the document, and `serve` refuses them so; both versions are answered
abbrev pub IsRefused : Options → List ℕ → RunError → Type 0
IsRefused options bytes Read = Unit {0}
IsRefused options bytes (Refused fault) = IsLeast (AppliesTo (read_by options) bytes) fault
IsRefused options bytes (Run fault) = (file : PlanFile) × IsDocument options bytes (input.Plans file)
    × RefusedAs (file_service options file) (setup_of options file) file.plans.items fault
IsRefused options bytes Write = Unit {0}
IsRefused options bytes OutOfMemory = Unit {0}
IsRefused options bytes NotVersion1 = ⊥
IsRefused options bytes NotVersion1Or2 = ⊥
IsRefused options bytes (NoHistory fault) = ⊥
