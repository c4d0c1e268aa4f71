use Rattle.dl_values.proofs.Errors.{on_err}
use Rattle.dl_desk.proofs.desk.Desk.load_many.Goals as goal

pub returns-in_err-replies-clause-err : goal.returns-in_err-replies-clause-err
returns-in_err-replies-clause-err c = on_err _ c.in_err-replies.ensures.book
