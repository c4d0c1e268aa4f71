-- The faults that runs of plans met, by their places.
use Rattle.std.proofs.Common.{◌≡◌, ◌∙◌, ap, sym, subst, refl, ℕ, zero, suc, ◌<◌, ◌⊎◌, List, [], ◌∷◌, map, take, Option, Some, None, option_map, Ok, Err, arith}
use Rattle.std.specs.Prelude.{All, IfErr, IsOk, Result, slice_get}
use Rattle.std.specs.List.{AllByRecursion}
use Rattle.std.proofs.lemmas.List.Elements.{recursion_from_All}
use Rattle.std.proofs.lemmas.Option.{same_Some, slice_get-map}
use Rattle.dl_workers.specs.declared.worker.WorkerEnd.{WorkerEnd}
use Rattle.dl_workers.specs.declared.worker.WorkerEnd.TheVariants.{GaveUp}
use Rattle.dl_haxl.specs.declared.fault.RunFault.{RunFault}
use Rattle.dl_haxl.specs.declared.step_answers.StepAnswers.{StepAnswers}
use Rattle.dl_scope.specs.Faults.{AnyGaveUp, AnyMet, IsLeastFault, IsStop, Met, WereStopped}
use Rattle.dl_scope.specs.Inside.ThreadResults.{WasTaken}
use Rattle.dl_scope.specs.Inside.Results.{MetNoOwn, fault_of, met}
use Rattle.dl_scope.specs.declared.threads.runs.PlanRun.{PlanRun}
use Rattle.dl_scope.specs.declared.threads.runs.WorkerRun.{WorkerRun}

pub met_given : (given : Result StepAnswers RunFault) (fault : RunFault) → met given ≡ Some fault → given ≡ Err fault
met_given (Ok given) fault is = absurd (let bad : ◌≡◌ {A = Option RunFault} None (Some fault) = is in cc)
met_given (Err other) fault is = ap (λ f. Err f) (same_Some other fault is)

module _ {L : Type 0} where
  stop_here : (run : PlanRun L) (fault : RunFault) → MetNoOwn run → met run.given ≡ Some fault → IsStop fault
  stop_here run fault none is = subst (λ (g : Result StepAnswers RunFault). IfErr g IsStop) (met_given run.given fault is) none

  -- the faults of the first of the runs are stops
  stops_before : (runs : List (PlanRun L)) (k : ℕ) → AllByRecursion MetNoOwn (take k runs) → (n : ℕ) (fault : RunFault) → n < k
      → Met (map fault_of runs) n fault → IsStop fault
  stops_before [] k none n fault low at = absurd (let bad : ◌≡◌ {A = Option (Option RunFault)} None (Some (Some fault)) = at in cc)
  stops_before (run ∷ runs) zero none n fault low at = absurd (omega (arith, low))
  stops_before (run ∷ runs) (suc k) (one, none) zero fault low at = stop_here run fault one (same_Some (met run.given) (Some fault) at)
  stops_before (run ∷ runs) (suc k) (one, none) (suc n) fault low at = stops_before runs k none n fault (omega (arith, low)) at

  stops_all : (runs : List (PlanRun L)) → AllByRecursion MetNoOwn runs → (n : ℕ) (fault : RunFault) → Met (map fault_of runs) n fault → IsStop fault
  stops_all [] none n fault at = absurd (let bad : ◌≡◌ {A = Option (Option RunFault)} None (Some (Some fault)) = at in cc)
  stops_all (run ∷ runs) (one, none) zero fault at = stop_here run fault one (same_Some (met run.given) (Some fault) at)
  stops_all (run ∷ runs) (one, none) (suc n) fault at = stops_all runs none n fault at

  pub met_at : (runs : List (PlanRun L)) (n : ℕ) (run : PlanRun L) (fault : RunFault) → slice_get runs n ≡ Some run → run.given ≡ Err fault
      → Met (map fault_of runs) n fault
  met_at runs n run fault at is =
      slice_get-map fault_of runs n
      ∙ (ap (λ (r : Option (PlanRun L)). option_map fault_of r) at ∙ ap (λ (g : Result StepAnswers RunFault). Some (met g)) is)

  -- the first run that met a fault of its own
  pub least_at : (runs : List (PlanRun L)) (n : ℕ) (run : PlanRun L) (fault : RunFault) → slice_get runs n ≡ Some run → run.given ≡ Err fault
      → (IsStop fault → ⊥) → All MetNoOwn (take n runs) → IsLeastFault (map fault_of runs) n fault
  least_at runs n run fault at is own before = record {
    met = met_at runs n run fault at is;
    own = own;
    least = λ m other low met_it. stops_before runs n (recursion_from_All MetNoOwn (take n runs) before) m other low met_it;
  }

  pub taken_at : (run : PlanRun L) (given : StepAnswers) → run.given ≡ Ok given → WasTaken run
  taken_at run given is = subst (λ (g : Result StepAnswers RunFault). IsOk g) (sym is) refl

  -- a worker that gave up
  pub gave_up_at : (runs : List (WorkerRun L)) (n : ℕ) (run : WorkerRun L) (batch : ℕ) → slice_get runs n ≡ Some run → run.end ≡ GaveUp batch
      → AnyGaveUp (map (λ run. run.end) runs)
  gave_up_at runs n run batch at is = (
    n,
    batch,
    slice_get-map (λ (r : WorkerRun L). r.end) runs n
        ∙ (ap (λ (r : Option (WorkerRun L)). option_map (λ (r : WorkerRun L). r.end) r) at ∙ ap (λ (e : WorkerEnd). Some e) is),
  )

  -- where no run met a fault of its own, and some met a stop or some worker gave up
  pub were_stopped : (runs : List (PlanRun L)) (ends : List WorkerEnd) → All MetNoOwn runs → AnyMet (map fault_of runs) ⊎ AnyGaveUp ends
      → WereStopped (map fault_of runs) ends
  were_stopped runs ends none some =
      record { none_own = stops_all runs (recursion_from_All MetNoOwn runs none); some = some }
