use Rattle.std.proofs.Common.{◌≡◌, Some, None, option_map, option_and_then, string_bytes, false, ap, sym, ◌∙◌, rules, codes}
use Rattle.std.proofs.lemmas.Result.{err_from_is_err_and}
use Rattle.serde_json.specs.Find.{get, as_str}
use Rattle.serde_json.specs.View.{view}
use Rattle.dl_source.specs.Spelling.{has_only}
use Rattle.dl_source.specs.declared.fault.TableFault.TheVariants.{Shape}
use Rattle.dl_source.specs.NumberedTables.{numbered}
use Rattle.dl_source.specs.Inside.Members.{AreTableMembers}
use Rattle.dl_source.specs.Inside.Reading.{is_member_of, number_given, number_by, findings_given, findings_in}
use Rattle.dl_source.proofs.Lists.{also_refused}
use Rattle.dl_source.proofs.Members.{together, without_number, without_findings, without_name}
use Rattle.dl_source.proofs.table_reader.read_table.Goals as goal

pub returns-in_err-members : goal.returns-in_err-members
returns-in_err-members c =
    let d = view c.args.value in
    let none : has_only (is_member_of c.args.version) d ≡ false = search rules in
    let p = err_from_is_err_and c.from_residual.result c.from_residual.ensures.1 in
    let shape : c.in_err-members.field-0.0 ≡ Shape = search rules in
    rw (p.1, p.2, shape) (ap (λ b. together b (option_and_then as_str (get (codes "name") d)) (number_by c.args.version d) (findings_in d)) none)

pub returns-in_err-number : goal.returns-in_err-number
returns-in_err-number c =
    let d = view c.args.value in
    let all : AreTableMembers c.args.version d c.in_ok-members.members = search rules in
    let only = has_only (is_member_of c.args.version) d in
    let name = option_and_then as_str (get (codes "name") d) in
    let p = err_from_is_err_and c.from_residual-in_err-number.result c.from_residual-in_err-number.ensures.1 in
    rw (p.1, p.2) (also_refused c.in_err-number.field-0.0 _ _ _ _ (λ none.
    ap (λ k. together only name k (findings_in d)) (ap (number_given c.args.version) (sym all.members.number) ∙ none) ∙ without_number only name (findings_in d))
    c.in_err-number.ensures)

pub returns-in_err-findings : goal.returns-in_err-findings
returns-in_err-findings c =
    let d = view c.args.value in
    let all : AreTableMembers c.args.version d c.in_ok-members.members = search rules in
    let only = has_only (is_member_of c.args.version) d in
    let name = option_and_then as_str (get (codes "name") d) in
    let number = number_by c.args.version d in
    let same : findings_in d ≡ findings_given (option_map view c.in_ok-members.members.rows) (option_map view c.in_ok-members.members.errors)
    (option_map view c.in_ok-members.members.breaks) = sym (rw (all.members.rows, all.members.errors, all.members.breaks)) in
    let p = err_from_is_err_and c.from_residual-in_err-findings.result c.from_residual-in_err-findings.ensures.1 in
    rw (p.1, p.2) (also_refused c.in_err-findings.field-0.0 _ _ _ _ (λ none.
    ap (together only name number) (same ∙ none) ∙ without_findings only name number) c.in_err-findings.ensures)

pub returns-in_err-name : goal.returns-in_err-name
returns-in_err-name c =
    let d = view c.args.value in
    let all : AreTableMembers c.args.version d c.in_ok-members.members = search rules in
    let only = has_only (is_member_of c.args.version) d in
    let number = number_by c.args.version d in
    let none : None ≡ option_and_then as_str (option_map view c.in_ok-members.members.name) = search rules in
    let p = err_from_is_err_and c.from_residual-in_err-name.result c.from_residual-in_err-name.ensures.1 in
    let shape : c.in_err-name.field-0.0 ≡ Shape = search rules in
    rw (p.1, p.2, shape) (ap (λ n. together only n number (findings_in d)) (ap (option_and_then as_str) (sym all.members.name) ∙ sym none)
    ∙ without_name only number (findings_in d))

pub returns : goal.returns
returns c =
    let d = view c.args.value in
    let all : AreTableMembers c.args.version d c.in_ok-members.members = search rules in
    let found : Some (string_bytes c.in_ok-name.name) ≡ option_and_then as_str (option_map view c.in_ok-members.members.name) = search rules in
    let findings : findings_in d ≡ Some c.in_ok-findings.findings.items =
    sym (rw (all.members.rows, all.members.errors, all.members.breaks)) ∙ c.in_ok-findings.ensures in
    let number : number_by c.args.version d ≡ Some c.in_ok-number.number =
    ap (number_given c.args.version) (sym all.members.number) ∙ c.in_ok-number.ensures in
    let name : option_and_then as_str (get (codes "name") d) ≡ Some (string_bytes c.in_ok-name.name) =
    ap (option_and_then as_str) (sym all.members.name) ∙ sym found in
    ap (λ b. together b (option_and_then as_str (get (codes "name") d)) (number_by c.args.version d) (findings_in d)) all.only
    ∙ ap (λ n. option_and_then (λ n. option_and_then (λ k. option_map (numbered n k) (findings_in d)) (number_by c.args.version d)) n) name
    ∙ ap (λ k. option_and_then (λ k. option_map (numbered (string_bytes c.in_ok-name.name) k) (findings_in d)) k) number
    ∙ ap (option_map (numbered (string_bytes c.in_ok-name.name) c.in_ok-number.number)) findings
    ∙ ap Some (sym c.new.ensures)
