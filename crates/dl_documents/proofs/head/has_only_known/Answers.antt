use Rattle.std.proofs.Common.{◌≡◌, ◌∙◌, sym, ap, ◌&&◌, ◌||◌, List, ℕ, Option, Bool, true, false, not, codes, is_some}
use Rattle.std.specs.List.{list_all}
use Rattle.std.specs.Option.{is_none}
use Rattle.dl_documents.specs.Document.{is_known, is_script}
use Rattle.dl_documents.specs.Inside.Top.{top_data}
use Rattle.dl_documents.proofs.TopMembers.{names_all-with_tables}
use Rattle.dl_documents.proofs.head.has_only_known.Goals as goal
use Rattle.dl_documents.proofs.head.has_only_known.Goals.{then-is_none, else-is_none}

without : {A : Type 0} (o : Option A) (none knows test : Bool) → is_some o ≡ not none → none ≡ true → knows ≡ none → knows ≡ (is_none o || test)
without o none knows test has is e = e ∙ is ∙ sym (ap (λ b. not b || test) (has ∙ ap not is))

with : {A : Type 0} (o : Option A) (none knows test : Bool) → is_some o ≡ not none → none ≡ false → knows ≡ test → knows ≡ (is_none o || test)
with o none knows test has is e = e ∙ sym (ap (λ b. not b || test) (has ∙ ap not is))

pub returns-then-knows_tables : goal.returns-then-knows_tables
returns-then-knows_tables c =
    let top = c.args.top.now in
    let test : List ℕ → Bool = is_known (is_script (top_data top)) c.args.version in
    let knows : c.if-is_none.knows_tables ≡ (is_none top.tables || test (codes "tables")) = elim c.if-is_none.branch [
      | then-is_none w ↦ without top.tables _ _ (test (codes "tables")) c.is_none.ensures w.if-is_none.true w.knows_tables-is
      | else-is_none w ↦ with top.tables _ _ (test (codes "tables")) c.is_none.ensures w.if-is_none.false
          (w.knows_tables-is ∙ (rw c.is_script-is_script.ensures at w.is_known-knows_tables.ensures))
    ] in
    (rw (c.is_script-is_script.ensures, c.deref.ensures.value) at c.all_known.ensures)
    ∙ sym (names_all-with_tables test top.tables top.members.items
    ∙ ap (λ b. b && list_all (λ m. test m.0.now) top.members.items) (sym knows ∙ c.if-knows_tables.true))

pub returns-else-knows_tables : goal.returns-else-knows_tables
returns-else-knows_tables c =
    let top = c.args.top.now in
    let test : List ℕ → Bool = is_known (is_script (top_data top)) c.args.version in
    let knows : c.if-is_none.knows_tables ≡ (is_none top.tables || test (codes "tables")) = elim c.if-is_none.branch [
      | then-is_none w ↦ without top.tables _ _ (test (codes "tables")) c.is_none.ensures w.if-is_none.true w.knows_tables-is
      | else-is_none w ↦ with top.tables _ _ (test (codes "tables")) c.is_none.ensures w.if-is_none.false
          (w.knows_tables-is ∙ (rw c.is_script-is_script.ensures at w.is_known-knows_tables.ensures))
    ] in
    c.if-knows_tables.false
    ∙ sym (names_all-with_tables test top.tables top.members.items
    ∙ ap (λ b. b && list_all (λ m. test m.0.now) top.members.items) (sym knows ∙ c.if-knows_tables.false))
