use Rattle.std.proofs.Common.{rules, arith, ◌≡◌, ◌∷◌, [], ◌++◌, ◌<◌, length, string_bytes, ap, sym, ◌∙◌, append_assoc}
use Rattle.std.specs.Vec.Iter.{into_iter_items}
use Rattle.json.specs.Tree.{json_tokens, items_tokens, members_tokens}
use Rattle.json.specs.Value as tree
use Rattle.json.specs.Value.{value_view}
use Rattle.serde_json.specs.Data.{put}
use Rattle.serde_json.specs.View.{view, members_view}
use Rattle.serde_json.proofs.Views.{members_view-insert_entry}
use Rattle.dl_documents.specs.Inside.Trees.{list_data, object_data}
use Rattle.dl_documents.proofs.ListSpelling.{all_yielded}
use Rattle.dl_documents.proofs.ObjectMembers.{data_last}
use Rattle.dl_documents.proofs.TreeData.{items_push, item_smaller, member_smaller}
use Rattle.dl_documents.proofs.tree.+owning.Goals as goal

pub into_map-into_value-requires : goal.into_map-into_value-requires
into_map-into_value-requires t c =
    let l = c.loop-member in
    let m = c.in-Some.member in
    let rest = into_iter_items c.next.new.self in
    let is : l.yielded ++ m ∷ rest ≡ c.args.members.items = rw (← c.in-Some.ensures.steps.0) l.invariant.order in
    let smaller : length (json_tokens (value_view m.1)) < length (members_tokens (tree.members_view c.args.members.items)) =
    rw (← is) (member_smaller l.yielded m rest) in
    search rules

pub into_list-into_value-requires : goal.into_list-into_value-requires
into_list-into_value-requires t c =
    let l = c.loop-item in
    let x = c.in-Some.item in
    let rest = into_iter_items c.next.new.self in
    let is : l.yielded ++ x ∷ rest ≡ c.args.items.items = rw (← c.in-Some.ensures.steps.0) l.invariant.order in
    let smaller : length (json_tokens (value_view x)) < length (items_tokens (tree.items_view c.args.items.items)) =
    rw (← is) (item_smaller l.yielded x rest) in
    search rules

pub into_list-loop-item-preserved : goal.into_list-loop-item-preserved
into_list-loop-item-preserved t c =
    let l = c.loop-item in
    let steps : into_iter_items l.item-iterator ≡ c.in-Some.item ∷ into_iter_items c.next.new.self = c.in-Some.ensures.steps.0 in
    record {
      order = append_assoc l.yielded (c.in-Some.item ∷ []) _ ∙ rw (← steps) l.invariant.order;
      so_far = rw c.in_ok-push.ensures.items
          (items_push l.list.items l.yielded c.in_ok-into_value.field-0 c.in-Some.item l.invariant.so_far c.in_ok-into_value.ensures);
      count = (
          let was = l.invariant.count in
          let gone = c.in-Some.ensures.steps.1 in
          let short = ap length steps in
          omega arith);
    }

pub into_list-returns : goal.into_list-returns
into_list-returns t c =
    let l = c.loop-item in
    let all = all_yielded l.yielded (into_iter_items l.item-iterator) c.args.items.items l.invariant.order
    (sym l.invariant.count ∙ c.in-None.ensures.steps.0) in
    l.invariant.so_far ∙ ap list_data all

pub into_map-loop-member-preserved : goal.into_map-loop-member-preserved
into_map-loop-member-preserved t c =
    let l = c.loop-member in
    let m = c.in-Some.member in
    let steps : into_iter_items l.member-iterator ≡ m ∷ into_iter_items c.next.new.self = c.in-Some.ensures.steps.0 in
    let copied : string_bytes c.in_ok-name.name ≡ m.0.now = c.in_ok-name.ensures.ok in
    let inserted : members_view c.insert.new.self.entries ≡ put (string_bytes c.in_ok-name.name) (view c.in_ok-value.value) (members_view l.map.entries) =
    ap members_view c.in_ok-insert.ensures.entries ∙ members_view-insert_entry l.map.entries c.in_ok-name.name c.in_ok-value.value in
    record {
      order = append_assoc l.yielded (m ∷ []) _ ∙ rw (← steps) l.invariant.order;
      so_far = inserted ∙ rw (copied, c.in_ok-value.ensures, l.invariant.so_far) (sym (data_last l.yielded m));
      count = (
          let was = l.invariant.count in
          let gone = c.in-Some.ensures.steps.1 in
          let short = ap length steps in
          omega arith);
    }

pub into_map-returns : goal.into_map-returns
into_map-returns t c =
    let l = c.loop-member in
    let all = all_yielded l.yielded (into_iter_items l.member-iterator) c.args.members.items l.invariant.order
    (sym l.invariant.count ∙ c.in-None.ensures.steps.0) in
    l.invariant.so_far ∙ ap object_data all
