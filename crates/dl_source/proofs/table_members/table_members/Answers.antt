use Rattle.std.proofs.Common.{◌≡◌, true, false, ap, sym, ◌∙◌, subst}
use Rattle.std.specs.Option.{option_map_or}
use Rattle.serde_json.specs.View.{view, members_view}
use Rattle.dl_source.specs.Spelling.{names_all}
use Rattle.dl_source.specs.Inside.Members.{AreMembers}
use Rattle.dl_source.specs.Inside.Reading.{is_member_of}
use Rattle.dl_source.proofs.Members.{names_all-members_view, object_of}
use Rattle.dl_source.proofs.table_members.table_members.Goals as goal

pub returns-then-not-are_table_members : goal.returns-then-not-are_table_members
returns-then-not-are_table_members c =
    let test = is_member_of c.args.version in
    let none : c.are_table_members.result ≡ false = search in
    sym (sym none ∙ c.are_table_members.ensures ∙ sym (names_all-members_view test c.in_ok-members.members.entries)
    ∙ ap (λ o. option_map_or (names_all test) o false) c.in_ok-members.ensures)

pub returns : goal.returns
returns c =
    let test = is_member_of c.args.version in
    let all : c.are_table_members.result ≡ true = search in
    record {
      only = sym (sym all ∙ c.are_table_members.ensures ∙ sym (names_all-members_view test c.in_ok-members.members.entries)
          ∙ ap (λ o. option_map_or (names_all test) o false) c.in_ok-members.ensures);
      members = subst (λ d. AreMembers d c.taken.result) (object_of (view c.args.value) (members_view c.in_ok-members.members.entries) c.in_ok-members.ensures)
          c.taken.ensures;
    }
