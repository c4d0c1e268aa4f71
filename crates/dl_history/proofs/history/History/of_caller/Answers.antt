use Rattle.std.proofs.Common.{◌≡◌, ◌∙◌, ℕ, List, IfOk, ap, flat_map, subst}
use Rattle.dl_history.specs.ClosedHistory.{place_of}
use Rattle.dl_history.proofs.HistoryLemmas.{caller_places}
use Rattle.dl_history.proofs.history.History.of_caller.Goals as goal

pub returns : goal.returns
returns c =
    let all = ap (flat_map place_of) c.entries.ensures.entries ∙ caller_places c.keeps.ensures.0 c.args.caller c.args.self.now c.keeps.ensures.1 in
    subst (λ (ps : List ℕ). IfOk c.places_of.result (λ found. found.items ≡ ps)) all c.places_of.ensures
