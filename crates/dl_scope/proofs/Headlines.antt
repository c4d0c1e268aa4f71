-- The headline, from what serving plans leaves and the history of the closed loader.
use Rattle.std.proofs.Common.{◌≡◌, ◌∙◌, ap, sym, subst, refl, ℕ, ◌+◌, ◌<◌, ◌≤◌, List, [], ◌∷◌, length, map, Some, arith}
use Rattle.std.specs.Prelude.{slice_get, Result, Ok, Err, IfErr, IfOk, OnOk}
use Rattle.std.proofs.lemmas.List.{length-map}
use Rattle.dl_history.specs.Agreement.{Account, entries_of}
use Rattle.dl_history.specs.ClosedHistory.{History, IsHistory}
use Rattle.dl_history.specs.Lists.{Every}
use Rattle.dl_desk.specs.Service.{Service}
use Rattle.dl_history.specs.Accounts.{account_of, accounts_of}
use Rattle.dl_loader.specs.CloseRefusals.{IsLeastOf}
use Rattle.dl_loader.specs.Pass.{Trace, Pass}
use Rattle.dl_workers.specs.declared.queue.Tally.{Tally}
use Rattle.dl_scope.specs.Faults.{MayServe, RefusedAs}
use Rattle.dl_haxl.specs.PlanEntries.{Follows}
use Rattle.dl_scope.specs.Headline.{Headline, HeadlineBut, TellsEnd}
use Rattle.dl_workers.specs.GiveUps.{given_up}
use Rattle.dl_scope.specs.Inside.ServedPlans.{AreServed, IsCounted}
use Rattle.dl_scope.specs.Report.{Report, report}
use Rattle.dl_scope.specs.declared.fault.ScopeFault.{ScopeFault}
use Rattle.dl_scope.specs.declared.fault.ScopeFault.TheVariants.{Unfetched}
use Rattle.dl_scope.specs.declared.setup.Setup.{Setup}
use Rattle.dl_terms.specs.declared.plan.Plan.{Plan}
use Rattle.dl_haxl.specs.declared.step_answers.StepAnswer.{StepAnswer}
use Rattle.dl_scope.proofs.OneEnd.{end_once}
use Rattle.dl_scope.proofs.TallyOfEvents.{sent_tallied, taken_tallied}
use Rattle.dl_scope.proofs.PassPlaces.{parts_of, part_account, entries_at, plan_at, served_long, served_numbered, worker_after}

accounts_by_parts : (passes : List Pass) → accounts_of passes ≡ map part_account (parts_of passes)
accounts_by_parts [] = refl
accounts_by_parts (p ∷ passes) = ap (λ (given : List Account). account_of p.trace ∷ given) (accounts_by_parts passes)

module _ (service : Service) (plans : List Plan) (answers : List (List StepAnswer)) (rounds : List ℕ) (passes : List Pass) (h : History)
    (is : h.accounts ≡ accounts_of passes) (served : AreServed 0 plans answers rounds (parts_of passes)) where
  accounts_are : h.accounts ≡ map part_account (parts_of passes)
  accounts_are = is ∙ accounts_by_parts passes

  -- the entries of a caller are those of its pass
  entries_are : (n : ℕ) (p : Trace) → slice_get (parts_of passes) n ≡ Some p → entries_of n h.accounts ≡ p.entries
  entries_are n p at =
      ap (entries_of n) accounts_are
      ∙ entries_at 0 n n (parts_of passes) p (served_numbered 0 plans answers rounds (parts_of passes) served) (omega arith) at

  plan_follows : (n : ℕ) (plan : Plan) (given : List StepAnswer) (r : ℕ) → slice_get plans n ≡ Some plan
      → slice_get answers n ≡ Some given → slice_get rounds n ≡ Some r
      → Follows n plan.steps.items (entries_of n h.accounts) given r
  plan_follows n plan given r one two three =
      let found = plan_at 0 n plans answers rounds (parts_of passes) served plan given r one two three in
      let number : 0 + n ≡ n = omega arith in
      subst (λ ls. Follows n plan.steps.items ls given r) (sym (entries_are n found.0 found.1))
      (subst (λ k. Follows k plan.steps.items found.0.entries given r) number found.2)

  long : length (parts_of passes) ≡ length h.accounts
  long = length-map passes (λ (p : Pass). p.trace) ∙ (sym (length-map passes (λ (p : Pass). account_of p.trace)) ∙ ap length (sym is))

  worker_ends : length h.accounts ≡ service.callers → (n : ℕ) → length plans ≤ n → n < service.callers → Every TellsEnd (entries_of n h.accounts)
  worker_ends count n beyond inside =
      let here : n < length (parts_of passes) = omega (arith, inside, count, long) in
      let found = worker_after 0 n plans answers rounds (parts_of passes) served beyond here in
      subst (λ ls. Every TellsEnd ls) (sym (entries_are n found.0 found.1)) found.2

  headline_but : (tally : Tally) → IsHistory service h → IsCounted (length plans) (parts_of passes) tally
      → HeadlineBut (given_up h.events) service plans (report answers rounds h tally)
  headline_but tally closed counted =
      let each = served_long 0 plans answers rounds (parts_of passes) served in
      record {
        legal = closed.legal;
        count = closed.count;
        each = closed.each;
        agree = closed.agree;
        answers_each = each.0;
        rounds_each = each.1;
        follow = plan_follows;
        work = worker_ends closed.count;
        ended = closed.ended;
        once = end_once service h.events closed.legal;
        fetched = refl;
        sent = sent_tallied service h closed (parts_of passes) accounts_are (length plans) tally counted;
        taken = taken_tallied service h closed (parts_of passes) accounts_are (length plans) tally counted;
        counted = counted.sum;
      }

  -- the report, if there is one, has the headline
  pub headline_of : (tally : Tally) (result : Result Report ScopeFault) → IsHistory service h → IsCounted (length plans) (parts_of passes) tally
      → IfOk result (λ made. made ≡ report answers rounds h tally) → OnOk result (given_up h.events ≡ []) → IfOk result (Headline service plans)
  headline_of tally (Err fault) closed counted made fetched = tt
  headline_of tally (Ok r) closed counted made fetched =
      subst (Headline service plans) (sym made)
      (subst (λ batches. HeadlineBut batches service plans (report answers rounds h tally)) fetched (headline_but tally closed counted))

  -- the refusal, if there is one, names the least batch that was given up
  pub unfetched_of : (setup : Setup) (tally : Tally) (result : Result Report ScopeFault) → IsHistory service h
      → IsCounted (length plans) (parts_of passes) tally → MayServe setup (length plans)
      → IfErr result (λ fault. (batch : ℕ) × (fault ≡ Unfetched batch) × IsLeastOf (Some batch) (given_up h.events))
      → IfErr result (RefusedAs service setup plans)
  unfetched_of setup tally (Ok r) closed counted may fault = tt
  unfetched_of setup tally (Err f) closed counted may (batch, is, least) =
      subst (RefusedAs service setup plans) (sym is)
      (may, (given_up h.events, report answers rounds h tally, headline_but tally closed counted, least))
