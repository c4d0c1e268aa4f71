use Rattle.std.proofs.Common.{◌≡◌, ◌∙◌, sym, ℕ, Option, Some, None, [], take, refl}
use Rattle.std.specs.Map.{lookup}
use Rattle.dl_values.specs.Key.{Key, key_eq}
use Rattle.dl_desk.specs.Inside.Preparation.{without}
use Rattle.dl_desk.proofs.BatchEnd.{option_eq-true, option_eq-false, take-next}
use Rattle.dl_desk.proofs.MemoView.{Forgot, forgot_removed, forgot_kept}
use Rattle.dl_desk.proofs.memo_and_batches.forget.Goals as goal
use Rattle.dl_desk.proofs.memo_and_batches.forget.Goals.{then-eq, else-eq}

pub loop-place-preserved : goal.loop-place-preserved
loop-place-preserved c =
    let first : Key → Option ℕ = λ k. lookup (key_eq k) c.args.memo.now.entries in
    let before : Key → Option ℕ = λ k. lookup (key_eq k) c.loop-place.memo.entries in
    let forgot : Forgot first before (take c.loop-place.place c.args.batch.now.members) = record { is = c.loop-place.invariant } in
    let held : before c.member-cell.result.0.now ≡ c.copied.result = sym c.get.ensures.value ∙ sym c.copied.ensures in
    rw (take-next c.args.batch.now.members c.loop-place.place _ c.member-cell.ensures) (elim c.if-eq.branch [
      | then-eq w ↦
          (forgot_removed first before (λ k. lookup (key_eq k) c.if-eq.memo.entries) _ c.member-cell.result.0.now c.member-cell.result.1 forgot
          (held ∙ option_eq-true c.copied.result c.member-cell.result.1 (sym c.eq.ensures ∙ w.if-eq.true))
          (λ q. rw w.memo-is (w.swap_remove.ensures.updates.0 q))).is
      | else-eq w ↦
          (forgot_kept first before (λ k. lookup (key_eq k) c.if-eq.memo.entries) _ c.member-cell.result.0.now c.member-cell.result.1 forgot
          (λ e. option_eq-false c.copied.result c.member-cell.result.1 (sym c.eq.ensures ∙ w.if-eq.false) (sym held ∙ e)) (λ q. rw w.memo-is refl)).is
    ])

pub loop-place-init : goal.loop-place-init
loop-place-init c = λ k. by k (lookup (key_eq k) c.args.memo.now.entries)
  where
    by : (k : Key) (o : Option ℕ) → o ≡ without [] k o
    by k None = refl
    by k (Some cell) = refl
