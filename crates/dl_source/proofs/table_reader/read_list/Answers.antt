use Rattle.std.proofs.Common.{◌≡◌, ◌∷◌, length, ap, sym, ◌∙◌, arith, rules}
use Rattle.std.proofs.lemmas.Result.{err_from_is_err_and}
use Rattle.std.specs.Vec.Iter.{into_iter_items}
use Rattle.dl_source.specs.declared.fault.TableFault.TheVariants.{Shape}
use Rattle.dl_source.specs.Inside.Findings.{finding_of}
use Rattle.dl_source.specs.Inside.Reading.{finding_in}
use Rattle.dl_source.proofs.Lists.{nothing_left, read_more, read_none, read_all}
use Rattle.dl_source.proofs.table_reader.read_list.Goals as goal

pub returns-in_err-pairs : goal.returns-in_err-pairs
returns-in_err-pairs c =
    let p = err_from_is_err_and c.from_residual.result c.from_residual.ensures.1 in
    rw (p.1, p.2) (search rules)

pub returns-in_err-reserve_exact : goal.returns-in_err-reserve_exact
returns-in_err-reserve_exact c =
    let p = err_from_is_err_and c.from_residual-in_err-reserve_exact.result c.from_residual-in_err-reserve_exact.ensures.1 in
    rw (p.1, p.2) tt

pub loop-pair-preserved : goal.loop-pair-preserved
loop-pair-preserved c =
    let l = c.loop-pair in
    let rest = into_iter_items c.next.new.self in
    let steps : into_iter_items l.pair-iterator ≡ c.in-Some.pair ∷ rest = c.in-Some.ensures.steps.0 in
    record {
      read = rw c.in_ok-push.ensures.items (read_more (finding_in (finding_of c.args.kind)) l.findings.items c.in-Some.pair rest
          (into_iter_items l.pair-iterator) _ steps l.invariant.read c.in_ok-finding.finding (search rules));
      count = (
          let was = l.invariant.count in
          let gone = c.in-Some.ensures.steps.1 in
          let short = ap length steps in
          omega arith);
    }

pub returns-in_err-finding : goal.returns-in_err-finding
returns-in_err-finding c =
    let l = c.loop-pair in
    let rest = into_iter_items c.next.new.self in
    let p = err_from_is_err_and c.from_residual-in_err-finding.result c.from_residual-in_err-finding.ensures.1 in
    let shape : c.in_err-finding.field-0.0 ≡ Shape = search rules in
    rw (p.1, p.2, shape) (read_none (finding_in (finding_of c.args.kind)) l.findings.items c.in-Some.pair rest (into_iter_items l.pair-iterator) _
    c.in-Some.ensures.steps.0 l.invariant.read (search rules))

pub returns-in_err-push : goal.returns-in_err-push
returns-in_err-push c =
    let p = err_from_is_err_and c.from_residual-in_err-push.result c.from_residual-in_err-push.ensures.1 in
    rw (p.1, p.2) tt

pub returns : goal.returns
returns c =
    let l = c.loop-pair in
    let none = c.in-None.ensures.steps in
    read_all (finding_in (finding_of c.args.kind)) l.findings.items (into_iter_items l.pair-iterator) _ (nothing_left _ (sym l.invariant.count ∙ none.0))
    l.invariant.read
