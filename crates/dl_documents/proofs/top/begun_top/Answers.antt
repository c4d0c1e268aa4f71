use Rattle.std.proofs.Common.{rules, arith, ◌≡◌, ◌∙◌, sym, ap, inl, inr, ◌-◌, Some, None, Err}
use Rattle.json.proofs.Grammar.{read_key-shorter}
use Rattle.json.specs.Json.{read_key, value, members}
use Rattle.serde_json.specs.Read.{of_members, converted}
use Rattle.dl_documents.specs.Inside.Top.{top_members}
use Rattle.dl_documents.proofs.TokenReading.{member_turn, no_value, no_key, no_more_members}
use Rattle.dl_documents.proofs.top.begun_top.Goals as goal

pub returns-in_err-name-clause-err : goal.returns-in_err-name-clause-err
returns-in_err-name-clause-err c =
    let l = c.loop-top in
    let none : read_key l.reader ≡ None = c.in_err-name.ensures.value in
    let bad = l.invariant.read ∙ no_key (value 126) (top_members l.top) l.invariant.turns l.reader none in
    search rules

pub returns-in_err-read_member-clause-err : goal.returns-in_err-read_member-clause-err
returns-in_err-read_member-clause-err c =
    let l = c.loop-top in
    let s = c.next_key.new.self in
    let named : read_key l.reader ≡ Some (Some c.in-Some.name.now, s) = grind arith in
    let same : c.from_residual-in_err-read_member.result ≡ Err c.in_err-read_member.field-0.0 = search rules in
    rw same (elim c.in_err-read_member.ensures.err [
      | inl memory ↦ inl memory
      | inr bad ↦ inr (bad.0, l.invariant.read ∙ no_value (value 126) (top_members l.top) l.invariant.turns c.in-Some.name.now l.reader s named bad.1)
    ])

pub loop-top-preserved : goal.loop-top-preserved
loop-top-preserved c =
    let p = value 126 in
    let l = c.loop-top in
    let n = l.invariant.turns in
    let k = c.in-Some.name.now in
    let s = c.next_key.new.self in
    let named : read_key l.reader ≡ Some (Some k, s) = grind arith in
    let d = c.in_ok-read_member.ensures.ok in
    let r = c.read_member.new.reader in
    let enough = l.invariant.enough in
    let less = read_key-shorter l.reader (Some k) s named in
    let lesser = c.in_ok-read_member.ensures.shorter in
    record {
      turns = n - 1;
      enough = omega arith;
      read = l.invariant.read ∙ member_turn p (top_members l.top) n k l.reader s r d.0 (omega arith) named d.1
          ∙ ap (λ found. converted (λ ms. of_members ms found) (members p (n - 1) r)) (sym d.2);
      apart = c.in_ok-read_member.ensures.apart l.invariant.apart;
    }

pub returns-clause-ok : goal.returns-clause-ok
returns-clause-ok c =
    let l = c.loop-top in
    l.invariant.read ∙ no_more_members (value 126) (top_members l.top) l.invariant.turns l.reader c.next_key.new.self l.invariant.enough (grind arith)
