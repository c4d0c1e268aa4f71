use Rattle.std.proofs.Common.{ap}
use Rattle.std.specs.Option.{option_and_then}
use Rattle.std.proofs.lemmas.Result.{IfOk-from_err}
use Rattle.dl_documents.proofs.FindingLists.{found_first}
use Rattle.dl_documents.specs.TableNumbers.{numbers_listed}
use Rattle.dl_documents.proofs.table_numbers.table_numbers.Goals as goal

pub returns-in_err-numbers : goal.returns-in_err-numbers
returns-in_err-numbers c = IfOk-from_err _ _ c.from_residual.ensures.0

pub returns-in_err-table : goal.returns-in_err-table
returns-in_err-table c = IfOk-from_err _ _ c.from_residual-in_err-table.ensures.0

pub returns-in_err-push : goal.returns-in_err-push
returns-in_err-push c = IfOk-from_err _ _ c.from_residual-in_err-push.ensures.0

pub loop-item-init : goal.loop-item-init
loop-item-init c = found_first c.in_ok-numbers.numbers.items _ c.in_ok-numbers.ensures.items

pub returns-in_default : goal.returns-in_default
returns-in_default c = ap (option_and_then numbers_listed) c.in_default.ensures
