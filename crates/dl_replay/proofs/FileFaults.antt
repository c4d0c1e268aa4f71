-- Faults of lines are faults of their file.
use Rattle.std.proofs.Common.{◌≡◌, ℕ, List, subst}
use Rattle.dl_documents.specs.Faults.{Applies, IsLeast}
use Rattle.dl_documents.specs.declared.input.Script.{Script}
use Rattle.dl_replay.specs.File.{IsFileFault, IsScript, IsScriptFault, IsToldFault, first_line, next_lines}
use Rattle.dl_replay.specs.declared.fault.HistoryFault.{HistoryFault}
use Rattle.dl_replay.specs.declared.fault.HistoryFault.TheVariants.{Refused, NoScript, Answers, Replay, OutOfMemory}

pub script_fault : (bytes line : List ℕ) (f : HistoryFault) → line ≡ first_line bytes → IsScriptFault line f → IsFileFault bytes f
script_fault bytes line (Refused fault) is h = subst (λ (l : List ℕ). IsLeast (Applies l) fault) is h
script_fault bytes line NoScript is h = subst (λ (l : List ℕ). IsScriptFault l NoScript) is h
script_fault bytes line Answers is h = absurd h
script_fault bytes line (Replay fault) is h = absurd h
script_fault bytes line OutOfMemory is h = tt

pub told_fault : (bytes line next : List ℕ) (s : Script) (f : HistoryFault) → line ≡ first_line bytes → next ≡ next_lines bytes → IsScript line s
    → IsToldFault next s f → IsFileFault bytes f
told_fault bytes line next s (Refused fault) is then script h = absurd h
told_fault bytes line next s NoScript is then script h = absurd h
told_fault bytes line next s Answers is then script h =
    (s, subst (λ (l : List ℕ). IsScript l s) is script, subst (λ (l : List ℕ). IsToldFault l s Answers) then h)
told_fault bytes line next s (Replay fault) is then script h = absurd h
told_fault bytes line next s OutOfMemory is then script h = tt
