use Rattle.std.proofs.Common.{◌≡◌, ◌∙◌, sym, ap, inr, ℕ, ◌<◌, ◌≤◌, List, true, false, cond, length, get_or, take, is_some, Some, bytes_eq, refl}
use Rattle.std.specs.Arc.{arc_value}
use Rattle.std.specs.Map.{lookup}
use Rattle.std.proofs.lemmas.List.{length-map, take_all}
use Rattle.dl_values.specs.TableLimits.{named, lists, pairs, GiveTheSame}
use Rattle.dl_values.proofs.Names.{lists-get, lists-lookup, lookup-inserted, lookup-last, lookup-unlisted}
use Rattle.dl_values.proofs.Repeats.{clashes_first, found_again, goes_on, take_next}
use Rattle.dl_values.proofs.TableLimitLemmas.{limits_given, pair_at}
use Rattle.dl_values.proofs.table_limits.TableLimits.of.Goals as goal

pub loop-limit-init : goal.loop-limit-init
loop-limit-init c = record {
  copied = λ table. ap (λ es. lookup (bytes_eq table) (named es)) c.new-map.ensures.empty;
  rest = clashes_first (pairs c.args.limits.now);
}

-- a table that the map lists stood before
before : (es us : List (List ℕ × ℕ)) (table : List ℕ) → GiveTheSame es us → lists table us ≡ lists table es
before es us table same = lists-lookup table us ∙ ap is_some (sym (same table)) ∙ sym (lists-lookup table es)

pub returns-then-is_some-clause-err : goal.returns-then-is_some-clause-err
returns-then-is_some-clause-err c =
    let ts = c.args.limits.now in
    let i : ℕ = c.loop-limit.limit-index in
    let t = c.limit-item.result in
    let e : List ℕ × ℕ = (t.table, t.limit) in
    let lt : i < length (pairs ts) = rw length-map c.loop-limit-test.true in
    let is : e ≡ get_or (pairs ts) i e = pair_at ts i t c.loop-limit-test.true c.limit-item.is in
    let name : lists t.table (named c.loop-limit.map.entries) ≡ true =
    lists-get c.loop-limit.map c.loop-limit.map c.in_ok-name.name t.table (c.in_ok-name.ensures.ok ∙ c.as_str.ensures)
    ∙ (ap is_some (sym c.in_ok-insert.ensures.old) ∙ (sym c.is_some.ensures ∙ c.if-is_some.true)) in
    let again : lists t.table (take i (pairs ts)) ≡ true = before (named c.loop-limit.map.entries) (take i (pairs ts)) t.table c.loop-limit.invariant.copied ∙ name in
    inr (refl, sym (found_again (pairs ts) i e lt is _ c.loop-limit.invariant.rest again))

pub loop-limit-preserved : goal.loop-limit-preserved
loop-limit-preserved c =
    let ts = c.args.limits.now in
    let i : ℕ = c.loop-limit.limit-index in
    let t = c.limit-item.result in
    let e : List ℕ × ℕ = (t.table, t.limit) in
    let lt : i < length (pairs ts) = rw length-map c.loop-limit-test.true in
    let is : e ≡ get_or (pairs ts) i e = pair_at ts i t c.loop-limit-test.true c.limit-item.is in
    let old = c.loop-limit.map in
    let name = c.in_ok-name.ensures.ok ∙ c.as_str.ensures in
    let unlisted : lists t.table (named old.entries) ≡ false =
    lists-get old old c.in_ok-name.name t.table name
    ∙ (ap is_some (sym c.in_ok-insert.ensures.old) ∙ (sym c.is_some.ensures ∙ c.if-is_some.false)) in
    let new : lists t.table (take i (pairs ts)) ≡ false = before (named old.entries) (take i (pairs ts)) t.table c.loop-limit.invariant.copied ∙ unlisted in
    record {
      copied = λ q.
          lookup-inserted old c.insert.new.self c.in_ok-name.name t.table name t.limit c.in_ok-insert.ensures.updates q
          ∙ ap (cond (bytes_eq t.table q) (Some t.limit)) (c.loop-limit.invariant.copied q)
          ∙ sym (lookup-last (take i (pairs ts)) t.table q t.limit (lookup-unlisted t.table (take i (pairs ts)) new))
          ∙ ap (lookup (bytes_eq q)) (sym (take_next (pairs ts) i e lt is));
      rest = goes_on (pairs ts) i e lt is _ c.loop-limit.invariant.rest new;
    }

all_given : (c : goal.In_ok-limits) → GiveTheSame (named (arc_value c.in_ok-limits.limits).entries) (pairs c.args.limits.now)
all_given c =
    let ts = c.args.limits.now in
    let i : ℕ = c.loop-limit.limit-index in
    let high : length (pairs ts) ≤ i = rw length-map c.loop-limit-test.false in
    λ table.
    ap (λ m. lookup (bytes_eq table) (named m.entries)) c.in_ok-limits.ensures.ok
    ∙ c.loop-limit.invariant.copied table
    ∙ ap (lookup (bytes_eq table)) (take_all i (pairs ts) high)

pub invariant_of-result : goal.invariant_of-result
invariant_of-result c = limits_given _ c.args.limits.now (all_given c) c.requires
