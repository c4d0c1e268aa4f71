use Rattle.std.proofs.Common.{arith, ◌≡◌, ◌∷◌, [], length, ap, sym, ◌∙◌, append_assoc}
use Rattle.std.specs.Vec.Iter.{into_iter_items}
use Rattle.serde_json.specs.Data.{put}
use Rattle.dl_documents.specs.Inside.Trees.{tree_data, entries_data, object_data}
use Rattle.dl_documents.proofs.ListSpelling.{all_yielded}
use Rattle.dl_documents.proofs.ObjectMembers.{data_last}
use Rattle.dl_documents.proofs.TreeLists.{entries-insert}
use Rattle.dl_documents.proofs.member.sorted.Goals as goal

pub loop-member-preserved : goal.loop-member-preserved
loop-member-preserved c =
    let l = c.loop-member in
    let m = c.in-Some.member in
    let steps : into_iter_items l.member-iterator ≡ m ∷ into_iter_items c.next.new.self = c.in-Some.ensures.steps.0 in
    let inserted : entries_data c.insert.new.self.entries ≡ put c.in_ok-name.name (tree_data m.1) (entries_data l.map.entries) =
    ap entries_data c.in_ok-insert.ensures.entries ∙ entries-insert l.map.entries c.in_ok-name.name m.1 in
    record {
      order = append_assoc l.yielded (m ∷ []) _ ∙ rw (← steps) l.invariant.order;
      so_far = inserted ∙ rw (c.in_ok-name.ensures, l.invariant.so_far) (sym (data_last l.yielded m));
      count = (
          let was = l.invariant.count in
          let gone = c.in-Some.ensures.steps.1 in
          let short = ap length steps in
          omega arith);
    }

pub returns : goal.returns
returns c =
    let l = c.loop-member in
    let all = all_yielded l.yielded (into_iter_items l.member-iterator) c.args.members.items l.invariant.order
    (sym l.invariant.count ∙ c.in-None.ensures.steps.0) in
    l.invariant.so_far ∙ ap object_data all
