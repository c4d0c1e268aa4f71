use Rattle.std.proofs.Common.{◌≡◌, ◌∙◌, sym, refl, ap, arith, ℕ, List, ◌++◌, length, take, drop, map}
use Rattle.dl_gather.specs.Tasks.{numbers_of, numbers_turned, turned}
use Rattle.dl_gather.proofs.Counts.{numbers_of-turned, written_back}
use Rattle.dl_gather.proofs.tasks.Tasks.turn.Goals as goal

pub invariant_of-self : goal.invariant_of-self
invariant_of-self c =
    let tasks = c.self.inside.all.items in
    let after = c.turn_each.ensures ∙ ap (map (turned c.args.turn)) c.as_mut_slice.ensures.value in
    c.turned-self-inside.ensures ∙ ap (numbers_turned c.args.turn) c.self.invariant ∙ sym (numbers_of-turned c.args.turn tasks)
    ∙ ap numbers_of (sym (written_back tasks c.turn_each.new.tasks (turned c.args.turn) c.self.inside.all.len (sym c.as_mut_slice.ensures.len ∙ ap length c.as_mut_slice.ensures.value) after))
