use Rattle.std.proofs.Common.{◌≡◌, false, rules}
use Rattle.dl_documents.specs.Inside.Top.{top_data}
use Rattle.dl_documents.specs.Document.{IsOfVersion, IsOfNoVersion, has_only_known}
use Rattle.dl_documents.specs.Faults.{HasStrange, HasNoNumber}
use Rattle.dl_documents.specs.Numbers.{LacksNumber}
use Rattle.dl_documents.proofs.Order.{least_version, least_top}
use Rattle.dl_documents.proofs.head.read_head.Goals as goal

pub returns-in_default-clause-err : goal.returns-in_default-clause-err
returns-in_default-clause-err c =
    let none : IsOfNoVersion (top_data c.args.top.now) = search rules in
    least_version (top_data c.args.top.now) none

pub returns-then-not-has_only_known-clause-err : goal.returns-then-not-has_only_known-clause-err
returns-then-not-has_only_known-clause-err c =
    let version : IsOfVersion (top_data c.args.top.now) c.in-Some.version = search rules in
    let strange : has_only_known c.in-Some.version (top_data c.args.top.now) ≡ false = search rules in
    least_top (top_data c.args.top.now) c.in-Some.version version (HasStrange c.in-Some.version version strange)

pub returns-in-None-clause-err : goal.returns-in-None-clause-err
returns-in-None-clause-err c =
    let version : IsOfVersion (top_data c.args.top.now) c.in-Some.version = search rules in
    let lacks : LacksNumber (top_data c.args.top.now) = search rules in
    least_top (top_data c.args.top.now) c.in-Some.version version (HasNoNumber lacks.0 lacks.1)
