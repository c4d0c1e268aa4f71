use Rattle.std.proofs.Common.{ℕ, subst}
use Rattle.dl_server.specs.Answers.{IsJson}
use Rattle.dl_server.specs.RefusalJson.{scope_fault_json}
use Rattle.dl_server.proofs.Answered.{said}
use Rattle.dl_server.proofs.requests.Requests.refuse.Goals as goal

pub returns-in_ok-refusal-in-Refused : goal.returns-in_ok-refusal-in-Refused
returns-in_ok-refusal-in-Refused g c =
    said c.reply_json.result c.reply_json.new.response c.args.fault _ 400 _ _ c.in-Refused.is c.in_ok-refusal-in-Refused.ensures (λ h. h) c.reply_json.ensures

pub returns-in_ok-script-in-Script : goal.returns-in_ok-script-in-Script
returns-in_ok-script-in-Script g c =
    said c.reply_json-in-Script.result c.reply_json-in-Script.new.response c.args.fault _ 422 _ _ c.in-Script.is c.in_ok-script-in-Script.ensures (λ h. h)
    c.reply_json-in-Script.ensures

pub returns-in_ok-failure-in-Run : goal.returns-in_ok-failure-in-Run
returns-in_ok-failure-in-Run g c =
    said c.reply_json-in-Run.result c.reply_json-in-Run.new.response c.args.fault _ c.run_status.result _ _ c.in-Run.is c.in_ok-failure-in-Run.ensures
    (subst (λ (n : ℕ). IsJson n (scope_fault_json c.in-Run.fault) c.reply_json-in-Run.new.response) c.run_status.ensures) c.reply_json-in-Run.ensures
