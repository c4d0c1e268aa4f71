use Rattle.std.proofs.Common.{◌≡◌, ◌∙◌, ◌++◌, ap, subst, ℕ, List, arith, drop, length, map, take}
use Rattle.std.proofs.lemmas.List.{take-append-le, take_all}
use Rattle.dl_desk.specs.declared.event.Event.{Event}
use Rattle.dl_history.specs.Accounts.{account_of, accounts_of}
use Rattle.dl_history.specs.ClosedHistory.{History, accounts_at}
use Rattle.dl_history.specs.LoaderState.{LoaderState}
use Rattle.dl_loader.specs.Book.{Book}
use Rattle.dl_loader.specs.CloseRefusals.{RefusesClose}
use Rattle.dl_loader.specs.SerialLoader.{Serial}
use Rattle.dl_loader.proofs.SerialLemmas.{accounts_are, refuses_as}
use Rattle.dl_loader.proofs.serial_loader.SerialLoader.close.Goals as goal

-- a list that was lent whole and came back as it was
lent_back : {A : Type 0} {n : ℕ} {xs ys : List A} → n ≡ length xs → ys ≡ xs → take n (ys ++ drop (length ys) xs) ≡ xs
lent_back {n = n} {xs} long same = rw same (take-append-le n xs (drop (length xs) xs) (omega arith) ∙ take_all n xs (omega arith))

pub invariant_of-result : goal.invariant_of-result
invariant_of-result g c =
    rw (c.in-Err.ensures.book, lent_back c.self.inside.passes.ok.0 (c.in-Err.ensures.passes ∙ c.deref_mut.ensures.value)) c.self.invariant

pub returns-in-Ok-clause-accounts : goal.returns-in-Ok-clause-accounts
returns-in-Ok-clause-accounts g c =
    let traces = ap (λ (s : Serial). s.traces) c.self.view_is in
    let history = ap (λ (s : LoaderState). s.history) c.into_parts-desk.ensures.kept ∙ ap (λ (b : Book). b.history) c.in-Ok.ensures.book in
    ap (λ (h : History). h.accounts) c.of.ensures
    ∙ (ap (λ (es : List Event). accounts_at es c.in-Ok.outlines.items) history
    ∙ (c.in-Ok.ensures.closes.accounts_are
    ∙ (ap accounts_of c.deref_mut.ensures.value ∙ (accounts_are c.self.inside.passes.items ∙ ap (map account_of) traces))))

pub returns-in-Err-clause-fault : goal.returns-in-Err-clause-fault
returns-in-Err-clause-fault g c =
    let callers = g.L.LoaderName.service.callers in
    let fault = c.in-Err.fault in
    let refuses = rw (c.deref_mut.ensures.value, accounts_are c.self.inside.passes.items) at c.in-Err.ensures.fault in
    subst (λ (s : Serial). RefusesClose callers s.book (map account_of s.traces) fault) c.self.view_is
    (refuses_as callers c.self.inside.stopped c.self.inside.book _ fault refuses)
