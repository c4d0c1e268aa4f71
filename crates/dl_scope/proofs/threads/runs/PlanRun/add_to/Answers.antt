use Rattle.dl_scope.proofs.threads.runs.PlanRun.add_to.Goals as goal

pub returns-clause-gave : goal.returns-clause-gave
returns-clause-gave g c = (
  c.in-Ok.given,
  c.in-Ok.is,
  c.in_ok-push-3.ensures.items,
  c.in_ok-push-4.ensures.items,
)
