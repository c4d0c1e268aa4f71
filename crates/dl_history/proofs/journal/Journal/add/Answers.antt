use Rattle.std.proofs.Common.{◌∙◌, sym, ap, length, subst, ℕ}
use Rattle.std.proofs.lemmas.List.{length-map}
use Rattle.dl_history.specs.Entries.{event_known}
use Rattle.dl_history.specs.Journal.{IsKnown}
use Rattle.dl_history.proofs.JournalLemmas.{journal_event}
use Rattle.dl_history.proofs.journal.Journal.add.Goals as goal

pub invariant_of-self : goal.invariant_of-self
invariant_of-self g c =
    let place = c.requires.place ∙ (sym (ap (λ j. length j.history) c.self.view_is) ∙ length-map c.self.inside.log.items (λ r. event_known r.known)) in
    let known = subst (λ (k : ℕ). IsKnown g.L.LoaderName.cells.log k c.reader.result) place c.reader.ensures.known in
    journal_event c.add.new.self.total c.push_reserved.new.self.items c.reader.result c.self.invariant c.push_reserved.ensures.items c.add.ensures.total known
