use Rattle.dl_documents.proofs.terms.field.Goals as goal

pub returns-in_err-part : goal.returns-in_err-part
returns-in_err-part c = rw (c.from_residual.ensures, ← c.in_err-part.ensures)

pub returns-in_err-field : goal.returns-in_err-field
returns-in_err-field c = rw (c.from_residual-in_err-field.ensures, ← c.in_ok-part.ensures, ← c.in_err-field.ensures)
