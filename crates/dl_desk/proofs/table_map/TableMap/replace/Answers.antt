use Rattle.std.proofs.Common.{◌≡◌, ◌∙◌, sym, ap, Bool, true, false, true≢false, IsSome, None}
use Rattle.std.specs.BTreeMap.{get}
use Rattle.std.specs.Option.{option_copied_mut}
use Rattle.dl_desk.specs.Inside.TableName.{name_cmp}
use Rattle.dl_desk.proofs.TableNames.{lookup-name, lookup-told}
use Rattle.dl_desk.proofs.table_map.TableMap.replace.Goals as goal
use Rattle.dl_desk.proofs.table_map.TableMap.replace.Goals.{in-Some, in_default}

some : (c : goal.Joined-get_mut) → IsSome (get name_cmp c.self.inside.newest c.args.table.now)
some c =
    let told = rw (← c.self.view_is) at c.requires in
    rw (lookup-name c.args.table.now c.self.inside.newest.entries) told

pub returns : goal.returns
returns c = elim c.match-get_mut.branch [
  | in-Some w ↦ rw (w.self-inside-is, ← c.self.view_is)
      (lookup-told c.self.inside.newest (c.get_mut.follows.lender c.args.newest) c.args.table.now c.args.newest
      ((c.get_mut.follows.holds c.args.newest).3 (some c)))
  | in_default w ↦
      let none : get name_cmp c.self.inside.newest c.args.table.now ≡ None = sym c.get_mut.ensures.value ∙ ap option_copied_mut w.in_default.is in
      let bad : ◌≡◌ {A = Bool} false true = rw none at (some c) in
      absurd (true≢false (sym bad))
]
