-- The accounts that passes leave.
use Rattle.std.specs.Prelude.{List, map}
use Rattle.dl_history.specs.Agreement.{Account, account}
use Rattle.dl_history.specs.Pass.{Trace, Pass}

-- the account that a pass leaves
abbrev pub account_of : Trace → Account
account_of p = account p.caller p.entries

abbrev pub accounts_of : List Pass → List Account
accounts_of passes = map (λ p. account_of p.trace) passes
