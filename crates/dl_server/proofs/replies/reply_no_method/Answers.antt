use Rattle.std.proofs.Common.{◌≡◌, ◌++◌, ◌∷◌, [], ◌∙◌, ap, codes, List, ℕ}
use Rattle.http1.specs.Fields.{Header}
use Rattle.http_server.specs.Response.{fields_of}
use Rattle.dl_server.specs.Responses.{allowed, typed, line_type}
use Rattle.dl_server.proofs.Filled.{filled}
use Rattle.dl_server.proofs.replies.reply_no_method.Goals as goal

pub returns : goal.returns
returns c =
    let added : fields_of c.add_header.new.self ≡ (codes "allow", allowed c.args.place) ∷ [] =
    c.in_ok-add_header.ensures.headers
    ∙ (ap (λ (s : List Header). s ++ (codes "allow", c.allowed.result.bytes) ∷ []) c.requires.headers
    ∙ ap (λ (v : List ℕ). (codes "allow", v) ∷ []) c.allowed.ensures) in
    filled c.reply.result 405 c.reply.new.response _ _ _ _ (ap (λ (s : List Header). s ++ typed line_type) added)
    (c.from_static.ensures ∙ c.as_bytes.ensures.value) c.reply.ensures
