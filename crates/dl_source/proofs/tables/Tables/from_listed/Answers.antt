use Rattle.std.proofs.Common.{◌≡◌, true, false, None, ap, sym, ◌∙◌, inr}
use Rattle.std.proofs.lemmas.Result.{MatchResult-weaker}
use Rattle.dl_values.specs.TableLimits.{repeats}
use Rattle.dl_source.specs.NumberedTables.{tables_of}
use Rattle.dl_source.specs.Inside.Reading.{content_fault}
use Rattle.dl_source.proofs.Refusals.{content_first, name_next, twice_or_memory, none_left}
use Rattle.dl_source.proofs.tables.Tables.from_listed.Goals as goal

pub returns-in-Some-clause-err : goal.returns-in-Some-clause-err
returns-in-Some-clause-err c =
    inr (content_first (tables_of c.args.listed.items) c.in-Some.fault
    (ap (λ ts. content_fault (tables_of ts)) (sym c.as_slice.ensures.value) ∙ sym c.in-Some.ensures))

pub returns-then-branch-clause-err : goal.returns-then-branch-clause-err
returns-then-branch-clause-err c =
    let tables = tables_of c.args.listed.items in
    let none : content_fault tables ≡ None = ap (λ ts. content_fault (tables_of ts)) (sym c.as_slice.ensures.value) ∙ sym c.in_default.ensures in
    let twice : repeats tables ≡ true =
    ap (λ ts. repeats (tables_of ts)) (sym c.as_slice-2.ensures.value) ∙ sym c.in_ok-repeats_name.ensures ∙ c.if-branch.true in
    inr (name_next tables none twice)

pub returns-clause-ok : goal.returns-clause-ok
returns-clause-ok c =
    let tables = tables_of c.args.listed.items in
    let none : content_fault tables ≡ None = ap (λ ts. content_fault (tables_of ts)) (sym c.as_slice.ensures.value) ∙ sym c.in_default.ensures in
    let once : repeats tables ≡ false =
    ap (λ ts. repeats (tables_of ts)) (sym c.as_slice-2.ensures.value) ∙ sym c.in_ok-repeats_name.ensures ∙ c.if-branch.false in
    MatchResult-weaker c.from_tested.result c.from_tested.ensures.ok (λ t h. (h.0, none_left tables none once h.1)) (λ _ h. h)

pub returns-clause-err : goal.returns-clause-err
returns-clause-err c =
    let tables = tables_of c.args.listed.items in
    let none : content_fault tables ≡ None = ap (λ ts. content_fault (tables_of ts)) (sym c.as_slice.ensures.value) ∙ sym c.in_default.ensures in
    let once : repeats tables ≡ false =
    ap (λ ts. repeats (tables_of ts)) (sym c.as_slice-2.ensures.value) ∙ sym c.in_ok-repeats_name.ensures ∙ c.if-branch.false in
    MatchResult-weaker c.from_tested.result c.from_tested.ensures.err (λ _ h. h)
    (λ f h. twice_or_memory tables none once f h)
