-- What of plans and their threads may cross threads. `search` finds the law of no type that holds a JSON value by itself.
use denote.RattleType.{RattleType}
use denote.Ref.{NamedLft}
use denote.Struct.Field.{shr_ref_field}
use denote.Param.SendFields.{declared_send, declared_sync, as_row_send, as_row_sync}
use denote.Param.Send.{IsSend, IsSync, sendable, shr_sync}
use Rattle.std.specs.declared.sync.ledger.Ledger as ledger
use Rattle.std.proofs.Crossing.{crosses as owners_cross}
use Rattle.dl_history.specs.declared.name.LoaderName as name
use Rattle.dl_loader.specs.contracts.loader.Loader as Loader
use Rattle.dl_history.specs.contracts.pass.Pass as Pass
use Rattle.dl_history.proofs.pass.Pass.TheSendSync as pass
use Rattle.dl_loader.proofs.ThreadSafety.{Loader-sync}
use Rattle.dl_workers.specs.contracts.queue.JobQueue as JobQueue
use Rattle.dl_workers.proofs.queue.JobQueue.TheSendSync as queue
use Rattle.dl_workers.specs.contracts.seats.Sender as Sender
use Rattle.dl_workers.proofs.seats.Sender.TheSendSync as sender
use Rattle.dl_haxl.proofs.fault.RunFault.TheSendSync as fault
use Rattle.dl_scope.specs.contracts.threads.tasks.PlanTask as PlanTask
use Rattle.dl_scope.specs.contracts.threads.runs.PlanRun as PlanRun
use Rattle.dl_terms.specs.contracts.plan.Plan as Plan
use Rattle.dl_scope.proofs.threads.server.Resources.TheSendSync as resources
use Rattle.dl_scope.specs.contracts.threads.server.Resources as Resources
use Rattle.dl_scope.specs.contracts.threads.server.Server as Server
use Rattle.std.proofs.MapsCrossing.{crosses as maps_cross}
use Rattle.dl_values.proofs.key.FetchKey.TheSendSync as key
use Rattle.dl_values.proofs.outcome.BatchFault.TheSendSync as batch
use Rattle.dl_history.proofs.ThreadSafety.{Json-send, Outcome-field-send}
use Rattle.dl_terms.proofs.term.Term.TheLaws.TheKnot.{crosses as terms_cross}
use Rattle.dl_terms.proofs.answer_value.AnswerValue.TheLaws.TheKnot.{crosses as answers_cross}
use Rattle.dl_terms.proofs.names.Names.TheSendSync as names
use Rattle.dl_terms.specs.contracts.answer.Answer as Answer
use Rattle.dl_terms.specs.contracts.plan.Step as Step
use Rattle.dl_terms.specs.contracts.term.Term as Term
use Rattle.dl_haxl.specs.contracts.step_answers.StepAnswer as StepAnswer
use Rattle.dl_haxl.specs.contracts.step_answers.StepAnswers as StepAnswers

Term-field-send : IsSend Term.the_field.row
Term-field-send = search (terms_cross, Json-send, key.the_send, names.the_send, owners_cross, maps_cross, sendable) depth 40 fits 20000

Step-send : IsSend Step.the_row
Step-send = search (Term-field-send, Outcome-field-send, key.the_send, owners_cross, sendable) depth 40 fits 20000

Plan-field-send : IsSend Plan.the_field.row
Plan-field-send = search (Step-send, owners_cross, sendable) depth 40 fits 20000

Answer-field-send : IsSend Answer.the_field.row
Answer-field-send = search (answers_cross, Json-send, maps_cross, key.the_send, names.the_send, batch.the_field_send, owners_cross, sendable) depth 40 fits 20000

StepAnswer-send : IsSend StepAnswer.the_row
StepAnswer-send = search (Answer-field-send, owners_cross, sendable) depth 40 fits 20000

StepAnswers-send : IsSend StepAnswers.the_row
StepAnswers-send = search (StepAnswer-send, owners_cross, sendable) depth 40 fits 20000

module _ (T : RattleType) (n : name.Ghosts T.Denot) (l : ledger.Ghosts T.Denot) where
  pub PlanTask-send : IsSend (PlanTask.the_row T n l)
  PlanTask-send = declared_send (PlanTask.the_type T n l) (
    as_row_send (Pass.the_field T n l) (pass.the_send T n l),
    (as_row_send Sender.the_field sender.the_field_send, (as_row_send Plan.the_field Plan-field-send, tt)),
  )

  pub PlanRun-send : IsSend (PlanRun.the_row T n l)
  PlanRun-send = declared_send (PlanRun.the_type T n l) (
    as_row_send (Pass.the_field T n l) (pass.the_send T n l),
    (
      as_row_send Sender.the_field sender.the_field_send,
      (search (as_row_send, StepAnswers-send, fault.the_send, fault.the_field_send, owners_cross, sendable) depth 40 fits 20000, tt),
    ),
  )

  module _ (S G : RattleType) (source_sync : IsSync S) (gate_sync : IsSync G) (a : NamedLft) where
    resources_sync : IsSync (Resources.the_row a S G)
    resources_sync = resources.the_sync a S G source_sync gate_sync

    pub Server-sync : IsSync (Server.the_row a T S G n l)
    Server-sync = declared_sync (Server.the_type a T S G n l) (
      as_row_sync (shr_ref_field a (Resources.the_row a S G) tt) (shr_sync _ _ _ resources_sync),
      (
        as_row_sync (shr_ref_field a (Loader.the_row T n l) tt) (shr_sync _ _ _ (Loader-sync T n l)),
        (as_row_sync (shr_ref_field a JobQueue.the_row tt) (shr_sync _ _ _ queue.the_sync), tt),
      ),
    )
