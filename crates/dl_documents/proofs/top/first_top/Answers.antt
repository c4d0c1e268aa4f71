use Rattle.std.proofs.Common.{rules, arith, ◌≡◌, ◌∙◌, refl, ap, inl, inr, ◌∷◌, [], None, Err}
use Rattle.json.proofs.Grammar.{value_is}
use Rattle.json.specs.Json.{parse_map, value}
use Rattle.json.specs.Reads.{token_of}
use Rattle.serde_json.specs.Data.{object}
use Rattle.serde_json.specs.Read.{of_json, converted}
use Rattle.serde_json.specs.View.{view}
use Rattle.dl_documents.specs.Inside.Top.{top_data}
use Rattle.dl_documents.proofs.TokenReading.{begun_object, other_value}
use Rattle.dl_documents.proofs.top.first_top.Goals as goal

pub returns-in_err-token-clause-err : goal.returns-in_err-token-clause-err
returns-in_err-token-clause-err c =
    let empty : c.args.reader.now ≡ [] = grind arith in
    let none : converted of_json (value 127 c.args.reader.now) ≡ None = rw empty (ap (converted of_json) (value_is 127 [])) in
    search rules

pub returns-in_err-top-clause-err : goal.returns-in_err-top-clause-err
returns-in_err-top-clause-err c =
    let r = c.next.new.self in
    let first : c.args.reader.now ≡ token_of c.in_ok-token.token ∷ r = grind arith in
    let begins = first ∙ ap (λ k. token_of k ∷ r) c.in-BeginObject.is in
    let same : c.from_residual-in_err-top.result ≡ Err c.in_err-top.field-0.0 = search rules in
    rw same (elim c.in_err-top.ensures.err [
      | inl memory ↦ inl memory
      | inr bad ↦ inr (bad.0, ap (λ ts. converted of_json (value 127 ts)) begins ∙ begun_object 127 r (omega arith) ∙ ap (parse_map object) bad.1)
    ])

pub returns-in-BeginObject-clause-ok : goal.returns-in-BeginObject-clause-ok
returns-in-BeginObject-clause-ok c =
    let r = c.next.new.self in
    let first : c.args.reader.now ≡ token_of c.in_ok-token.token ∷ r = grind arith in
    let begins = first ∙ ap (λ k. token_of k ∷ r) c.in-BeginObject.is in
    let top = c.in_ok-top in (
      top_data top.top,
      ap (λ ts. converted of_json (value 127 ts)) begins ∙ begun_object 127 r (omega arith) ∙ ap (parse_map object) top.ensures.ok,
      (refl, top.ensures.apart),
    )

pub returns : goal.returns
returns c =
    let first : c.args.reader.now ≡ token_of c.in_ok-token.token ∷ c.next.new.self = grind arith in
    let v = c.in_ok-begun_value in
    let read = v.ensures.ok in
    record {
      ok = (
        view v.field-0,
        ap (λ ts. converted of_json (value 127 ts)) first ∙ read,
        other_value 127 c.in_ok-token.token c.next.new.self c.begun_value.new.reader (view v.field-0) c.in_default.not-BeginObject read,
      );
      err = tt;
    }
