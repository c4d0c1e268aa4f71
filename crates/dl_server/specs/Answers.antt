-- What the server answers: to a request, and to all that it reads on a connection.
use Rattle.std.specs.Prelude.{◌≡◌, ◌⊎◌, ℕ, List, ◌∷◌, All, Bool, true, false, codes}
use Rattle.http.specs.Request.{body_of, head_of}
use Rattle.http.specs.declared.request.Request.{Request}
use Rattle.http_uri.specs.Uri.{uri_path}
use Rattle.http_server.specs.History.{History, IsServed}
use Rattle.http_server.specs.Response.{IsResponse}
use Rattle.http_server.specs.declared.response.Response.{Response}
use Rattle.http_server.specs.declared.state.Config.{Config}
use Rattle.dl_documents.specs.Faults.{most_bytes}
use Rattle.dl_plans.specs.Request.{HasReport, IsNoReport, IsReport}
use Rattle.dl_plans.specs.declared.request.RequestFault.{RequestFault}
use Rattle.dl_plans.specs.declared.request.RequestFault.TheVariants.{Refused, Script, Run, OutOfMemory}
use Rattle.dl_plans.specs.declared.settings.Options.{Options}
use Rattle.dl_haxl.specs.declared.fault.RunFault.TheVariants as RunFault
use Rattle.dl_scope.specs.Report.{Report}
use Rattle.dl_scope.specs.declared.fault.ScopeFault.{ScopeFault}
use Rattle.dl_scope.specs.declared.fault.ScopeFault.TheVariants as scope
use Rattle.dl_server.specs.AnswerJson.{report_json}
use Rattle.dl_server.specs.Asked.{asked_for}
use Rattle.dl_server.specs.Media.{may_be_json}
use Rattle.dl_server.specs.RefusalJson.{refusal_json, scope_fault_json, script_json}
use Rattle.dl_server.specs.Responses.{allowed, json_type, line_type, page_type, picture_type, typed}
use Rattle.dl_server.specs.declared.places.Asked.{Asked}
use Rattle.dl_server.specs.declared.places.Asked.TheVariants.{Page, Health, Answers, Picture, NoPlace, NoMethod}
use Rattle.dl_server.specs.declared.page.TheConstants.{PAGE}

-- ---- one response

abbrev pub IsLine : ℕ → List ℕ → Response → Type 0
IsLine status line r = IsResponse status (typed line_type) line r

abbrev pub IsJson : ℕ → List ℕ → Response → Type 0
IsJson status text r = IsResponse status (typed json_type) text r

-- the status for plans that `serve` refuses: a plan may need more than there is room for
abbrev pub run_status : ScopeFault → ℕ
run_status (scope.Run plan RunFault.OutOfMemory) = 413
run_status fault = 500

-- the response that says why there is no report
abbrev pub Says : RequestFault → Response → Type 0
Says (Refused fault) r = IsJson 400 (refusal_json fault) r
Says Script r = IsJson 422 script_json r
Says (Run fault) r = IsJson (run_status fault) (scope_fault_json fault) r
Says OutOfMemory r = ⊥

-- it says why, and so it is
abbrev pub Refuses : Options → List ℕ → Response → Type 0
Refuses options bytes r = (fault : RequestFault) × IsNoReport options bytes fault × Says fault r

-- The answer to a plan file: the text of a report that has the headline for it, or why there is none.
abbrev pub AnswersPlans : Options → List ℕ → Response → Type 0
AnswersPlans options bytes r = ((report : Report) × IsReport options bytes report × IsJson 200 (report_json report) r) ⊎ Refuses options bytes r

-- The picture of a plan file that has a report, or why it has none. Nothing is said of the picture.
abbrev pub AnswersPicture : Options → List ℕ → Response → Type 0
AnswersPicture options bytes r =
    (HasReport options bytes × (picture : List ℕ) × IsResponse 200 (typed picture_type) picture r) ⊎ Refuses options bytes r

-- the answer to a body that isn't said to be JSON
abbrev pub if_json : Bool → Type 0 → Response → Type 0
if_json true P r = P
if_json false P r = IsLine 415 (codes "the body must be application/json\n") r

-- the answer to what a request asks for, by whether its body may be JSON
abbrev pub Answered : Options → Asked → Bool → List ℕ → Response → Type 0
Answered options Page json bytes r = IsResponse 200 (typed page_type) PAGE.now r
Answered options Health json bytes r = IsLine 200 (codes "ok\n") r
Answered options Answers json bytes r = if_json json (AnswersPlans options bytes r) r
Answered options Picture json bytes r = if_json json (AnswersPicture options bytes r) r
Answered options NoPlace json bytes r = IsLine 404 (codes "not found\n") r
Answered options (NoMethod at) json bytes r =
    IsResponse 405 ((codes "allow", allowed at) ∷ typed line_type) (codes "method not allowed\n") r

-- The response answers the request, by its method, its path, its `content-type` and its body, and by nothing else.
abbrev pub AnswersIt : Options → Request (List ℕ) → Response → Type 0
AnswersIt options request r =
    let head = head_of request in
    Answered options (asked_for head.method (uri_path head.uri)) (may_be_json head.headers) (body_of request) r

-- ---- a connection

-- the limits of a connection: a body has at most as many bytes as a document
abbrev pub connection_limits : Config
connection_limits = record {
  limits = record { max_head_len = 16384; max_extensions_len = 16384; max_trailers_len = 16384 };
  max_body_len = most_bytes;
  max_pending = 65536;
  read_size = 8192;
}

-- What was sent answers what was read, as the history of a connection says: by HTTP's grammar the one is the responses, in their
-- order, to the first requests of the other, and the history's state says what comes behind them. Each response answers its own request.
pub record IsAnswered (options : Options) (read sent : List ℕ) (h : History) : Type 0 where
  pub served : ∥ IsServed connection_limits h ∥₁
  pub received : h.received ≡ read
  pub handed_out : h.sent ≡ sent
  pub each : All (λ c. AnswersIt options c.0 c.1) h.calls
