use Rattle.std.proofs.Common.{◌≡◌, ◌∙◌, sym, ap, None}
use Rattle.std.specs.Option.{option_and_then}
use Rattle.serde_json.specs.Find.{as_array, get_member}
use Rattle.dl_documents.specs.Inside.Members.{IsPlaceOf}
use Rattle.dl_documents.specs.Inside.Trees.{object_data}
use Rattle.dl_documents.proofs.ObjectMembers.{value_there}
use Rattle.dl_documents.proofs.member.into_list.Goals as goal

pub returns-in_err-place : goal.returns-in_err-place
returns-in_err-place c =
    let none : get_member c.args.name.now (object_data c.args.members.items) ≡ None = rw c.deref.ensures.value at c.in_err-place.ensures in
    rw c.from_residual.ensures (sym (ap (option_and_then as_array) none))

pub returns : goal.returns
returns c =
    let ms = c.args.members.items in
    let at : IsPlaceOf c.args.name.now ms c.in_ok-place.place = rw c.deref.ensures.value at c.in_ok-place.ensures in
    c.into_items.ensures
    ∙ sym (ap (option_and_then as_array) (value_there c.args.name.now ms c.in_ok-place.place c.remove-list.result at c.remove-list.ensures.value))
