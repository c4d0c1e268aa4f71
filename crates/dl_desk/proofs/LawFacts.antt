-- Parts of a history that is answered.
use Rattle.std.proofs.Common.{List, [], ◌∷◌, ◌++◌}
use Rattle.dl_values.specs.Limits.{Rules}
use Rattle.dl_desk.specs.History.{Atom, AllAnswered}

-- what such a history begins with is one too
pub answered_before : (rules : Rules) (later before : List Atom) → AllAnswered rules (later ++ before) → AllAnswered rules before
answered_before rules [] before legal = legal
answered_before rules (a ∷ later) before legal = answered_before rules later before legal.1
