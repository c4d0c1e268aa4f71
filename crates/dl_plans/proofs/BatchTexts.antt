-- Texts of batches, one more at a time.
use Rattle.std.proofs.Common.{◌≡◌, ◌∙◌, sym, ap, ℕ, ◌+◌, List, ◌++◌}
use Rattle.std.proofs.Common.{add-one, append_assoc}
use Rattle.std.specs.Prelude.{Option, Some}
use Rattle.dl_desk.specs.History.{Atom, end_of}
use Rattle.dl_values.specs.Key.{Key}
use Rattle.dl_desk.specs.declared.reply.End.{End}
use Rattle.dl_desk.specs.Legal.{keys_of}
use Rattle.dl_plans.specs.ReportText.{batch_line, batch_lines}

-- the lines of one batch more
pub batch_more : (history : List Atom) (n : ℕ) (keys : List Key) (end : End) (before out new : List ℕ) → keys ≡ keys_of history n
    → end_of history n ≡ Some end → out ≡ before ++ batch_lines history n → new ≡ out ++ batch_line n keys (Some end)
    → new ≡ before ++ batch_lines history (n + 1)
batch_more history n keys end before out new same ended so_far pushed =
    let lines = batch_lines history n in
    pushed ∙ (ap (λ (o : List ℕ). o ++ batch_line n keys (Some end)) so_far
    ∙ (append_assoc before lines (batch_line n keys (Some end))
    ∙ (ap (λ (ks : List Key). before ++ (lines ++ batch_line n ks (Some end))) same
    ∙ (ap (λ (e : Option End). before ++ (lines ++ batch_line n (keys_of history n) e)) (sym ended)
    ∙ ap (λ (m : ℕ). before ++ batch_lines history m) (sym (add-one n))))))
