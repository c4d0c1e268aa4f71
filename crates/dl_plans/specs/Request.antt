-- What a plan file gives that a server was sent, and why it gives nothing.
use Rattle.std.specs.Prelude.{ℕ, List}
use Rattle.dl_documents.specs.Faults.{AppliesTo, IsLeast}
use Rattle.dl_documents.specs.declared.input.Input.TheVariants as input
use Rattle.dl_documents.specs.declared.input.PlanFile.{PlanFile}
use Rattle.dl_documents.specs.declared.input.Script.{Script}
use Rattle.dl_scope.specs.Faults.{RefusedAs}
use Rattle.dl_scope.specs.Headline.{Headline}
use Rattle.dl_scope.specs.Report.{Report}
use Rattle.dl_plans.specs.Run.{IsDocument, file_service, read_by, setup_of}
use Rattle.dl_plans.specs.declared.request.RequestFault.{RequestFault}
use Rattle.dl_plans.specs.declared.request.RequestFault.TheVariants.{Refused, Script as IsScript, Run, OutOfMemory}
use Rattle.dl_plans.specs.declared.settings.Options.{Options}

-- the bytes are those of this plan file
abbrev pub IsPlanFile : Options → List ℕ → PlanFile → Type 0
IsPlanFile options bytes file = IsDocument options bytes (input.Plans file)

-- the report has the headline, for the plan file that the bytes are
abbrev pub IsReport : Options → List ℕ → Report → Type 0
IsReport options bytes r = (file : PlanFile) × IsPlanFile options bytes file × Headline (file_service options file) file.plans.items r

-- there is such a report
abbrev pub HasReport : Options → List ℕ → Type 0
HasReport options bytes = (r : Report) × IsReport options bytes r

-- The refusal is the first that applies to the bytes; or they are a script; or a plan file whose plans `serve` refuses so.
abbrev pub IsNoReport : Options → List ℕ → RequestFault → Type 0
IsNoReport options bytes (Refused fault) = IsLeast (AppliesTo (read_by options) bytes) fault
IsNoReport options bytes IsScript = (s : Script) × IsDocument options bytes (input.Script s)
IsNoReport options bytes (Run fault) = (file : PlanFile) × IsPlanFile options bytes file
    × RefusedAs (file_service options file) (setup_of options file) file.plans.items fault
IsNoReport options bytes OutOfMemory = Unit {0}
