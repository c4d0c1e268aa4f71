use Rattle.std.proofs.Common.{◌≡◌, ◌∙◌, sym, rules, bytes_eq}
use Rattle.std.specs.Arc.{arc_value}
use Rattle.std.specs.Map.{lookup}
use Rattle.dl_values.proofs.Names.{lookup-named}
use Rattle.dl_values.proofs.TableLimitLemmas.{if_some}
use Rattle.dl_values.proofs.table_limits.TableLimits.limit.Goals as goal

value : (c : goal.After-copied) → c.copied.result ≡ lookup (bytes_eq c.args.table.now) c.args.self.now
value c = let same = lookup-named c.args.table.now (arc_value c.self.inside.limits) in search rules

pub returns-clause-value : goal.returns-clause-value
returns-clause-value c = value c

pub returns-clause-limit : goal.returns-clause-limit
returns-clause-limit c = if_some c.copied.result (λ n is. (rw c.self.view_is at c.self.invariant) c.args.table.now n (sym (value c) ∙ is))
