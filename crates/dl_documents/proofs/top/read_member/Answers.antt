use Rattle.std.proofs.Common.{arith, ◌≡◌, ◌∙◌, true, false, sym, ap, bytes_eq, codes}
use Rattle.std.proofs.lemmas.Slice.Eq.{bytes_eq-Decides}
use Rattle.serde_json.specs.Data.{put}
use Rattle.serde_json.specs.Find.{get_member}
use Rattle.serde_json.specs.View.{view}
use Rattle.dl_documents.specs.Inside.Top.{with_tables, top_members}
use Rattle.dl_documents.specs.Inside.Trees.{tree_data, object_data}
use Rattle.dl_documents.proofs.ObjectMembers.{Member, data_last, found_before}
use Rattle.dl_documents.proofs.TopMembers.{with_new_tables, with_member}
use Rattle.dl_documents.proofs.top.read_member.Goals as goal

pub returns-in_ok-read_value-clause-ok : goal.returns-in_ok-read_value-clause-ok
returns-in_ok-read_value-clause-ok c =
    let old = c.args.top.now in
    let v = c.in_ok-read_value.field-0 in
    let same : bytes_eq c.args.name.now (codes "tables") ≡ true = grind arith in
    let is : c.args.name.now ≡ codes "tables" = (bytes_eq-Decides c.args.name.now (codes "tables")).0 same in (
      view v,
      c.in_ok-read_value.ensures.ok,
      sym (ap (λ k. put k (view v) (top_members old)) is ∙ with_new_tables old.tables v (object_data old.members.items)),
    )

pub returns-in_ok-push-clause-ok : goal.returns-in_ok-push-clause-ok
returns-in_ok-push-clause-ok c =
    let old = c.args.top.now in
    let m : Member = (c.args.name, c.in_ok-value.value) in
    let differs : bytes_eq c.args.name.now (codes "tables") ≡ false = grind arith in
    let put_last = ap object_data c.in_ok-push.ensures.items ∙ data_last old.members.items m in (
      tree_data c.in_ok-value.value,
      c.in_ok-value.ensures.ok,
      ap (with_tables old.tables) put_last
          ∙ sym (with_member old.tables c.args.name.now (tree_data c.in_ok-value.value) (object_data old.members.items) differs),
    )

pub returns-in_ok-push-clause-apart : goal.returns-in_ok-push-clause-apart
returns-in_ok-push-clause-apart c = λ apart.
    let old = c.args.top.now in
    let m : Member = (c.args.name, c.in_ok-value.value) in
    let differs : bytes_eq c.args.name.now (codes "tables") ≡ false = grind arith in
    ap (λ ms. get_member (codes "tables") (object_data ms)) c.in_ok-push.ensures.items
    ∙ found_before (codes "tables") old.members.items m differs ∙ apart
