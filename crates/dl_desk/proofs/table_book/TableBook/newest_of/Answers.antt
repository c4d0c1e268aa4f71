use Rattle.std.proofs.Common.{◌∙◌, sym, inl}
use Rattle.dl_desk.proofs.TableLemmas.{renews_told}
use Rattle.dl_desk.proofs.table_book.TableBook.newest_of.Goals as goal

pub returns-in-Some-clause-renews : goal.returns-in-Some-clause-renews
returns-in-Some-clause-renews c = renews_told c.args.self.now c.args.table.now c.in-Some.newest (sym c.told.ensures ∙ c.in-Some.is)

pub returns-in-Some-clause-newest : goal.returns-in-Some-clause-newest
returns-in-Some-clause-newest c = inl (sym c.told.ensures ∙ c.in-Some.is)

pub begin-requires : goal.begin-requires
begin-requires c = sym c.told.ensures ∙ c.in_default.is
