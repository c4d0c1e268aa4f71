use Rattle.std.proofs.Common.{◌≡◌, ◌∙◌, true, false, sym}
use Rattle.dl_documents.proofs.ObjectMembers.{all_named}
use Rattle.dl_documents.proofs.Trees.{one_in_last, none_in}
use Rattle.dl_documents.proofs.member.into_only.Goals as goal

pub returns-then-all_named : goal.returns-then-all_named
returns-then-all_named c =
    let others = c.pop.new.self.items in
    let same : all_named c.in_ok-name.name.now others ≡ true = rw (← c.deref.ensures.value) (sym c.all_named.ensures ∙ c.if-all_named.true) in
    one_in_last _ c.in_ok-members.members.items others (c.in_ok-name.name, c.in_ok-name.argument) c.in_ok-members.ensures c.in_ok-name.ensures.items same

pub returns : goal.returns
returns c =
    let others = c.pop.new.self.items in
    let other : all_named c.in_ok-name.name.now others ≡ false = rw (← c.deref.ensures.value) (sym c.all_named.ensures ∙ c.if-all_named.false) in
    none_in _ c.in_ok-members.members.items others (c.in_ok-name.name, c.in_ok-name.argument) c.in_ok-members.ensures c.in_ok-name.ensures.items other
