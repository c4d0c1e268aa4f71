use Rattle.std.proofs.Common.{◌≡◌, ◌∙◌, Some, ap, sym, slice_get, string_bytes}
use Rattle.std.specs.Option.{option_copied}
use Rattle.serde_json.specs.Data.{put}
use Rattle.serde_json.specs.View.{view, members_view}
use Rattle.serde_json.specs.Written.{members_have_float}
use Rattle.serde_json.proofs.Views.{members_view-insert_entry}
use Rattle.dl_terms.specs.Joined.{put_named}
use Rattle.dl_terms.proofs.AnswerParts.{put_whole}
use Rattle.dl_terms.proofs.AskedKeys.{got}
use Rattle.dl_terms.proofs.answer_value.put_at.Goals as goal

pub returns-clause-put : goal.returns-clause-put
returns-clause-put c =
    let old = members_view c.args.members.now.entries in
    let name = c.in_ok-name.name in
    let value = c.args.value in
    let place = c.args.place in
    let named : string_bytes name ≡ c.in-Some.name.now = c.in_ok-name.ensures.ok ∙ c.as_str.ensures in
    let there : slice_get c.args.names.now place ≡ Some c.in-Some.name.now =
    sym (got c.args.names.now place c.get.result c.get.ensures.lookup) ∙ ap option_copied c.in-Some.is in
    let inserted : members_view c.insert.new.self.entries ≡ put (string_bytes name) (view value) old = ap members_view c.in_ok-insert.ensures.entries
    ∙ members_view-insert_entry c.args.members.now.entries name value in
    inserted ∙ (ap (λ k. put k (view value) old) named ∙ ap (λ o. put_named o (view value) old) (sym there))

pub returns-clause-whole : goal.returns-clause-whole
returns-clause-whole c =
    let old = members_view c.args.members.now.entries in
    let name = c.in_ok-name.name in
    let value = c.args.value in
    λ rest. ap (λ es. members_have_float (members_view es)) c.in_ok-insert.ensures.entries
    ∙ (ap members_have_float (members_view-insert_entry c.args.members.now.entries name value)
    ∙ put_whole (string_bytes name) (view value) old c.requires rest)
