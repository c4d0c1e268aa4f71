use Rattle.std.proofs.Common.{◌∙◌, ap}
use Rattle.http_uri.specs.Uri.{uri_path}
use Rattle.dl_server.specs.Asked.{asked_for}
use Rattle.dl_server.specs.Media.{may_be_json}
use Rattle.dl_server.proofs.Answered.{answered_as}
use Rattle.dl_server.proofs.requests.Requests.reply_to.Goals as goal

pub returns : goal.returns
returns g c =
    answered_as c.reply_as.result c.reply_as.new.response c.args.self.now.options.now _ _ _ _ _ _
    (c.asked_for-asked.ensures
    ∙ (λ i. asked_for ((c.as_str.ensures.value ∙ c.method.ensures) i) ((c.path.ensures.value ∙ ap uri_path c.uri.ensures) i)))
    (c.may_be_json-is_json.ensures ∙ ap may_be_json c.headers.ensures) (c.as_slice-bytes.ensures ∙ c.body.ensures) c.reply_as.ensures
