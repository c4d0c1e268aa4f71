use Rattle.std.proofs.Common.{arith, ◌≡◌, ◌∙◌, sym, None, ◌<◌, length}
use Rattle.std.proofs.lemmas.Option.{slice_get_within}
use Rattle.serde_json.specs.Find.{get_member}
use Rattle.dl_documents.specs.Inside.Members.{IsPlaceOf}
use Rattle.dl_documents.specs.Inside.Trees.{object_data}
use Rattle.dl_documents.proofs.ObjectMembers.{value_there}
use Rattle.dl_documents.proofs.TopMembers.{there}
use Rattle.dl_documents.proofs.member.member.Goals as goal

pub returns-in_err-place : goal.returns-in_err-place
returns-in_err-place c =
    let none : get_member c.args.name.now (object_data c.args.top.now.members.items) ≡ None = rw c.deref.ensures.value at c.in_err-place.ensures in
    rw c.from_residual.ensures (sym (there c.args.top.now c.args.name.now c.requires ∙ none))

pub index-requires : goal.index-requires
index-requires c =
    let at : IsPlaceOf c.args.name.now c.deref.result.now c.in_ok-place.place = c.in_ok-place.ensures in
    let within : c.in_ok-place.place < length c.deref.result.now = slice_get_within c.deref.result.now c.in_ok-place.place at.member at.there in
    let len = c.deref.ensures.len in
    omega arith

pub returns : goal.returns
returns c =
    let ms = c.args.top.now.members.items in
    let at : IsPlaceOf c.args.name.now ms c.in_ok-place.place = rw c.deref.ensures.value at c.in_ok-place.ensures in
    sym (there c.args.top.now c.args.name.now c.requires ∙ value_there c.args.name.now ms c.in_ok-place.place c.index.result.now at c.index.ensures)
