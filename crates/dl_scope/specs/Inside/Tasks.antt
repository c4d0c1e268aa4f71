-- What threads are given.
use Rattle.std.specs.Prelude.{◌≡◌, ◌+◌, List, [], ◌++◌, length, map, All}
use Rattle.dl_loader.specs.Pass.{Pass}
use Rattle.dl_workers.specs.Seats.{IsSenderOf, IsTakerOf, sent_jobs, taken_jobs}
use Rattle.dl_workers.specs.declared.queue.JobQueue.{JobQueue}
use Rattle.dl_terms.specs.declared.plan.Plan.{Plan}
use Rattle.dl_scope.specs.declared.threads.task_lists.Tasks.{Tasks}

module _ {L : Type 0} where
  -- what threads are given has these passes and plans, and all seats of the queue, which nothing has gone through
  pub record AreTasks (queue : JobQueue) (passes : List Pass) (plans : List Plan) (tasks : Tasks L) : Type 0 where
    pub passes_are : map (λ task. task.pass) tasks.plans.items ++ map (λ task. task.pass) tasks.workers.items ≡ passes
    pub plans_are : map (λ task. task.plan) tasks.plans.items ≡ plans
    pub senders_of : All (λ task. IsSenderOf queue task.sender) tasks.plans.items
    pub takers_of : All (λ task. IsTakerOf queue task.taker) tasks.workers.items
    pub own_is : IsSenderOf queue tasks.own
    pub none_sent : All (λ task. sent_jobs task.sender ≡ []) tasks.plans.items
    pub none_taken : All (λ task. taken_jobs task.taker ≡ []) tasks.workers.items
    pub own_unused : sent_jobs tasks.own ≡ []
    pub all_senders : length tasks.plans.items + 1 ≡ queue.senders
    pub all_takers : length tasks.workers.items ≡ queue.takers
