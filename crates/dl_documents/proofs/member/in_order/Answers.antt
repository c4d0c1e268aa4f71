use Rattle.std.proofs.Common.{◌≡◌, ◌∷◌, [], ◌++◌, map, ap, sym, ◌∙◌, append_assoc, rules}
use Rattle.std.proofs.lemmas.List.{append-nil}
use Rattle.dl_documents.specs.Inside.Trees.{list_data}
use Rattle.dl_documents.specs.TermReading.{names_of, values_of}
use Rattle.dl_documents.proofs.TreeLists.{entries-names, entries-values}
use Rattle.dl_documents.proofs.member.in_order.Goals as goal

pub loop-member-preserved : goal.loop-member-preserved
loop-member-preserved c =
    let l = c.loop-member in
    let m = c.in-Some.member in
    let rest = c.next.new.self in
    let steps : l.member-iterator ≡ m ∷ rest = c.in-Some.ensures.steps in
    record {
      names = ap (λ ns. ns ++ map (λ e. e.0) rest) c.in_ok-push.ensures.items ∙ append_assoc l.names.items (m.0 ∷ []) (map (λ e. e.0) rest)
          ∙ ap (λ es. l.names.items ++ map (λ e. e.0) es) (sym steps) ∙ l.invariant.names;
      values = ap (λ vs. vs ++ map (λ e. e.1) rest) c.in_ok-push-2.ensures.items ∙ append_assoc l.values.items (m.1 ∷ []) (map (λ e. e.1) rest)
          ∙ ap (λ es. l.values.items ++ map (λ e. e.1) es) (sym steps) ∙ l.invariant.values;
    }

pub returns-clause-names : goal.returns-clause-names
returns-clause-names c =
    let l = c.loop-member in
    let entries = c.in_ok-members.members.entries in
    let end : l.member-iterator ≡ [] = search rules in
    let given : c.into_iter-member-iterator.result ≡ entries = c.into_iter-member-iterator.ensures.into_iter_gives.0 in
    let all : l.names.items ≡ map (λ e. e.0) entries =
    sym (append-nil l.names.items) ∙ (ap (λ es. l.names.items ++ map (λ e. e.0) es) (sym end) ∙ (l.invariant.names ∙ ap (map (λ e. e.0)) given)) in
    all ∙ (entries-names entries ∙ ap names_of c.in_ok-members.ensures)

pub returns-clause-values : goal.returns-clause-values
returns-clause-values c =
    let l = c.loop-member in
    let entries = c.in_ok-members.members.entries in
    let end : l.member-iterator ≡ [] = search rules in
    let given : c.into_iter-member-iterator.result ≡ entries = c.into_iter-member-iterator.ensures.into_iter_gives.0 in
    let all : l.values.items ≡ map (λ e. e.1) entries =
    sym (append-nil l.values.items) ∙ (ap (λ es. l.values.items ++ map (λ e. e.1) es) (sym end) ∙ (l.invariant.values ∙ ap (map (λ e. e.1)) given)) in
    ap list_data all ∙ (entries-values entries ∙ ap values_of c.in_ok-members.ensures)
