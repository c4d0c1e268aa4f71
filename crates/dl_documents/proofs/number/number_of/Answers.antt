use Rattle.std.proofs.Common.{◌≡◌, ◌≢◌, drop, get_or, true, false, ◌==◌, Some, None, refl, ℕ, List, [], ◌∷◌, sym, ap, ◌∙◌, arith, take_all, length-drop, ne_eqb}
use Rattle.std.specs.List.{slice_get}
use Rattle.fast_float.specs.Text.{scan}
use Rattle.serde_json.specs.Read.{number_of, number_from}
use Rattle.dl_documents.proofs.number.number_of.Goals as goal
use Rattle.dl_documents.proofs.number.number_of.Goals.{in_default-via-in-Some+in_default, in_default-via-in_default}

first_is : (s : List ℕ) (n : ℕ) → slice_get s 0 ≡ Some n → get_or s 0 0 ≡ n
first_is [] n e = absurd (cc)
first_is (x ∷ s) n e = cc

first_none : (s : List ℕ) → slice_get s 0 ≡ None → get_or s 0 0 ≡ 0
first_none [] e = refl
first_none (x ∷ s) e = absurd (cc)

pub returns-in-Some-eq45 : goal.returns-in-Some-eq45
unfolding number_of
returns-in-Some-eq45 c =
    let s = c.as_bytes-bytes.result.now in
    let first : Some 45 ≡ slice_get s 0 = rw (c.in-Some-eq45.is, c.in-Some-eq45.field-0-test) at c.first.ensures.value in
    let signed : (get_or s 0 0 == 45) ≡ true = ap (λ n. n == 45) (first_is s 45 (sym first)) in
    let parts : c.scan.result ≡ scan (drop 1 s) = c.scan.ensures.parts ∙ ap scan (take_all _ (drop 1 s) (omega (arith, length-drop 1 s))) in
    let read : number_from true (scan (drop 1 s)) ≡ number_of s = rw signed in
    c.negative.ensures ∙ ap (number_from true) parts ∙ read ∙ ap number_of c.as_bytes-bytes.ensures.value

pub returns-in_default : goal.returns-in_default
unfolding number_of
returns-in_default c =
    let s = c.as_bytes-bytes.result.now in
    let other : get_or s 0 0 ≢ 45 = elim c.in_default.branch [
      | in_default-via-in-Some+in_default w ↦ (
          let first : Some w.in_default.field-0.now ≡ slice_get s 0 = rw w.in_default.is at c.first.ensures.value in
          let is = first_is s w.in_default.field-0.now (sym first) in
          let not = w.in_default.field-0-test.1 in
          λ e. not (cc))
      | in_default-via-in_default w ↦ (
          let first : None ≡ slice_get s 0 = rw w.in_default.is at c.first.ensures.value in
          let zero = first_none s (sym first) in
          λ e. omega arith)
    ] in
    let read : number_from false (scan s) ≡ number_of s = rw (ne_eqb (get_or s 0 0) 45 other) in
    c.unsigned.ensures ∙ ap (number_from false) c.scan-in_default.ensures.parts ∙ read ∙ ap number_of c.as_bytes-bytes.ensures.value
