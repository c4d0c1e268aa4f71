use Rattle.std.proofs.Common.{rules, arith, ◌≡◌, ◌∙◌, refl, sym, ap, inl, inr, ◌∷◌, [], ◌-◌, ◌<◌, ℕ, List, length, Some, None, Err, string_bytes}
use Rattle.std.specs.Borrow.{Bor}
use Rattle.std.specs.Prelude as prelude
use Rattle.json.proofs.Grammar.{value_is, read_key-shorter}
use Rattle.json.specs.Json.{parse_map, after_end_array, read_key, value, items, members}
use Rattle.json.specs.Reads.{token_of}
use Rattle.json.specs.Token.{Token}
use Rattle.json.specs.declared.token.Token as token
use Rattle.serde_json.proofs.Views.{view-Array, view-Object, members_view-insert_entry}
use Rattle.serde_json.specs.Data.{null, boolean, number, string, array, object, put}
use Rattle.serde_json.specs.Read.{of_json, of_items, of_members, converted}
use Rattle.serde_json.specs.View.{view, number_view, items_view, members_view}
use Rattle.serde_json.specs.declared.value.Value.{String, Number, Bool, Null, the_lemmas}
use Rattle.dl_documents.proofs.TokenReading.{begun_list, begun_object, no_list, no_object, item_turn, no_item, no_more_items, one_more, after_all}
use Rattle.dl_documents.proofs.TokenReading.{member_turn, no_value, no_key, no_more_members}
use Rattle.dl_documents.proofs.TreeData.{items_after, owned_push}
use Rattle.dl_documents.proofs.owned_value.+values.Goals as goal
use Rattle.dl_documents.proofs.owned_value.+values.Goals.{begun_value-in_default-via-in-BeginArray+else-depth-gt0}
use Rattle.dl_documents.proofs.owned_value.+values.Goals.{begun_value-in_default-via-in-BeginObject+else-depth-gt0-2, begun_value-in_default-via-in_default}

-- the value that begins with another token of the same meaning
same_token : (depth : ℕ) (k l : Token) (ts : List Token) → k ≡ l → converted of_json (value depth (k ∷ ts)) ≡ converted of_json (value depth (l ∷ ts))
same_token depth k l ts e = ap (λ x. converted of_json (value depth (x ∷ ts))) e

pub read_value-returns-in_err-token-clause-err : goal.read_value-returns-in_err-token-clause-err
read_value-returns-in_err-token-clause-err t c =
    let empty : c.args.reader.now ≡ [] = grind arith in
    let none : converted of_json (value c.args.depth c.args.reader.now) ≡ None = rw empty (ap (converted of_json) (value_is c.args.depth [])) in
    search rules

-- no value begins with another token
unopened : (depth : ℕ) (t : token.Token) (ts : List Token) → (t ≡ token.Token.BeginObject → ⊥) → (t ≡ token.Token.BeginArray → ⊥)
    → ((x : Bor (List ℕ)) → t ≡ token.Token.String x → ⊥) → ((x : Bor (List ℕ)) → t ≡ token.Token.Number x → ⊥)
    → ((b : prelude.Bool) → t ≡ token.Token.Bool b → ⊥) → (t ≡ token.Token.Null → ⊥) → converted of_json (value depth (token_of t ∷ ts)) ≡ None
unopened depth token.Token.BeginObject ts o a s n b z = absurd (o refl)
unopened depth token.Token.BeginArray ts o a s n b z = absurd (a refl)
unopened depth (token.Token.String x) ts o a s n b z = absurd (s x refl)
unopened depth (token.Token.Number x) ts o a s n b z = absurd (n x refl)
unopened depth (token.Token.Bool x) ts o a s n b z = absurd (b x refl)
unopened depth token.Token.Null ts o a s n b z = absurd (z refl)
unopened depth token.Token.EndObject ts o a s n b z = ap (converted of_json) (value_is depth (Token.end_object ∷ ts))
unopened depth token.Token.EndArray ts o a s n b z = ap (converted of_json) (value_is depth (Token.end_array ∷ ts))
unopened depth (token.Token.Key x) ts o a s n b z = ap (converted of_json) (value_is depth (Token.key x.now ∷ ts))
unopened depth token.Token.Bad ts o a s n b z = ap (converted of_json) (value_is depth (Token.bad ∷ ts))

-- ---- one token

pub begun_value-returns-in_ok-from_str-in-String-clause-ok : goal.begun_value-returns-in_ok-from_str-in-String-clause-ok
begun_value-returns-in_ok-from_str-in-String-clause-ok t c =
    let s = c.in-String.text.now in
    let r = c.args.reader.now in
    let seen : view (String c.in_ok-from_str-in-String.field-0) ≡ string s = search (rules, the_lemmas) in
    same_token c.args.depth _ (Token.string s) r (ap token_of c.in-String.is) ∙ ap (converted of_json) (value_is c.args.depth (Token.string s ∷ r))
    ∙ ap (λ d. Some (d, r)) (sym seen)

pub begun_value-returns-in-Some-clause-ok : goal.begun_value-returns-in-Some-clause-ok
begun_value-returns-in-Some-clause-ok t c =
    let s = c.in-Number.text.now in
    let r = c.args.reader.now in
    let seen : view (Number c.in-Some.number) ≡ number (number_view c.in-Some.number) = search (rules, the_lemmas) in
    same_token c.args.depth _ (Token.number s) r (ap token_of c.in-Number.is) ∙ ap (converted of_json) (value_is c.args.depth (Token.number s ∷ r))
    ∙ rw (← c.in-Some.ensures, seen) refl

pub begun_value-returns-in-None-clause-err : goal.begun_value-returns-in-None-clause-err
begun_value-returns-in-None-clause-err t c =
    let s = c.in-Number.text.now in
    let r = c.args.reader.now in
    inr (
      refl,
      same_token c.args.depth _ (Token.number s) r (ap token_of c.in-Number.is) ∙ ap (converted of_json) (value_is c.args.depth (Token.number s ∷ r))
          ∙ rw (← c.in-None.ensures) refl,
    )

pub begun_value-returns-in-Bool-clause-ok : goal.begun_value-returns-in-Bool-clause-ok
begun_value-returns-in-Bool-clause-ok t c =
    let b = c.in-Bool.truth in
    let r = c.args.reader.now in
    let seen : view (Bool b) ≡ boolean b = search (rules, the_lemmas) in
    same_token c.args.depth _ (Token.boolean b) r (ap token_of c.in-Bool.is) ∙ ap (converted of_json) (value_is c.args.depth (Token.boolean b ∷ r))
    ∙ ap (λ d. Some (d, r)) (sym seen)

pub begun_value-returns-in-Null-clause-ok : goal.begun_value-returns-in-Null-clause-ok
begun_value-returns-in-Null-clause-ok t c =
    let r = c.args.reader.now in
    let seen : view Null ≡ null = search (rules, the_lemmas) in
    same_token c.args.depth _ Token.null r (ap token_of c.in-Null.is) ∙ ap (converted of_json) (value_is c.args.depth (Token.null ∷ r))
    ∙ ap (λ d. Some (d, r)) (sym seen)

pub begun_value-returns-in_default-clause-err : goal.begun_value-returns-in_default-clause-err
begun_value-returns-in_default-clause-err t c =
    let r = c.args.reader.now in
    inr (
      refl,
      elim c.in_default.branch [
        | begun_value-in_default-via-in-BeginArray+else-depth-gt0 w ↦ (
            let flat : c.args.depth ≡ 0 = omega arith in
            same_token c.args.depth _ Token.begin_array r (ap token_of w.in-BeginArray.is)
            ∙ ap (λ n. converted of_json (value n (Token.begin_array ∷ r))) flat ∙ no_list r)
        | begun_value-in_default-via-in-BeginObject+else-depth-gt0-2 w ↦ (
            let flat : c.args.depth ≡ 0 = omega arith in
            same_token c.args.depth _ Token.begin_object r (ap token_of w.in-BeginObject.is)
            ∙ ap (λ n. converted of_json (value n (Token.begin_object ∷ r))) flat ∙ no_object r)
        | begun_value-in_default-via-in_default w ↦ (
            let other = w.in_default in
            unopened c.args.depth c.args.token r other.not-BeginObject other.not-BeginArray other.not-String other.not-Number other.not-Bool other.not-Null)
      ],
    )

-- ---- brackets

pub begun_value-returns-in_err-read_items-in-BeginArray-clause-err : goal.begun_value-returns-in_err-read_items-in-BeginArray-clause-err
begun_value-returns-in_err-read_items-in-BeginArray-clause-err t c =
    let r = c.args.reader.now in
    let same : c.from_residual-in_err-read_items-in-BeginArray.result ≡ Err c.in_err-read_items-in-BeginArray.field-0.0 = search rules in
    rw same (elim c.in_err-read_items-in-BeginArray.ensures.err [
      | inl memory ↦ inl memory
      | inr bad ↦ inr (
        bad.0,
        same_token c.args.depth _ Token.begin_array r (ap token_of c.in-BeginArray.is) ∙ begun_list c.args.depth r (omega arith) ∙ ap (parse_map array) bad.1,
      )
    ])

pub begun_value-returns-in_err-read_members-in-BeginObject-clause-err : goal.begun_value-returns-in_err-read_members-in-BeginObject-clause-err
begun_value-returns-in_err-read_members-in-BeginObject-clause-err t c =
    let r = c.args.reader.now in
    let same : c.from_residual-in_err-read_members-in-BeginObject.result ≡ Err c.in_err-read_members-in-BeginObject.field-0.0 = search rules in
    rw same (elim c.in_err-read_members-in-BeginObject.ensures.err [
      | inl memory ↦ inl memory
      | inr bad ↦ inr (
        bad.0,
        same_token c.args.depth _ Token.begin_object r (ap token_of c.in-BeginObject.is) ∙ begun_object c.args.depth r (omega arith)
            ∙ ap (parse_map object) bad.1,
      )
    ])

pub begun_value-returns-in_ok-read_items-in-BeginArray-clause-ok : goal.begun_value-returns-in_ok-read_items-in-BeginArray-clause-ok
begun_value-returns-in_ok-read_items-in-BeginArray-clause-ok t c =
    let r = c.args.reader.now in
    let found = c.in_ok-read_items-in-BeginArray in
    same_token c.args.depth _ Token.begin_array r (ap token_of c.in-BeginArray.is) ∙ begun_list c.args.depth r (omega arith)
    ∙ ap (parse_map array) found.ensures.ok ∙ ap (λ d. Some (d, c.read_items.new.reader)) (sym (view-Array found.field-0))

pub begun_value-returns-in_ok-read_members-in-BeginObject-clause-ok : goal.begun_value-returns-in_ok-read_members-in-BeginObject-clause-ok
begun_value-returns-in_ok-read_members-in-BeginObject-clause-ok t c =
    let r = c.args.reader.now in
    let found = c.in_ok-read_members-in-BeginObject in
    same_token c.args.depth _ Token.begin_object r (ap token_of c.in-BeginObject.is) ∙ begun_object c.args.depth r (omega arith)
    ∙ ap (parse_map object) found.ensures.ok ∙ ap (λ d. Some (d, c.read_members.new.reader)) (sym (view-Object found.field-0))

-- ---- lists

pub read_items-returns-in_err-item-clause-err : goal.read_items-returns-in_err-item-clause-err
read_items-returns-in_err-item-clause-err t c =
    let p = value c.args.depth in
    let l = c.loop-alloc in
    let going : (after_end_array l.reader ≡ None) × (c.take_end_array.new.self ≡ l.reader) = grind arith in
    let same : c.from_residual.result ≡ Err c.in_err-item.field-0.0 = search rules in
    rw same (elim c.in_err-item.ensures.err [
      | inl memory ↦ inl memory
      | inr bad ↦ inr (
        bad.0,
        l.invariant.read ∙ ap (parse_map (items_after (items_view l.found.items))) (no_item p l.invariant.turns l.reader going.0 (rw (← going.1) bad.1)),
      )
    ])

pub read_items-loop-alloc-preserved : goal.read_items-loop-alloc-preserved
read_items-loop-alloc-preserved t c =
    let p = value c.args.depth in
    let l = c.loop-alloc in
    let n = l.invariant.turns in
    let going : (after_end_array l.reader ≡ None) × (c.take_end_array.new.self ≡ l.reader) = grind arith in
    let v = c.in_ok-item.item in
    let r = c.read_value.new.reader in
    let enough = l.invariant.enough in
    let within = l.invariant.within in
    let less : length r < length l.reader = rw (← going.1) c.in_ok-item.ensures.shorter in
    let turn = item_turn p n l.reader r (view v) (omega arith) going.0 (rw (← going.1) c.in_ok-item.ensures.ok) in
    record {
      turns = n - 1;
      enough = omega arith;
      read = l.invariant.read ∙ ap (parse_map (items_after (items_view l.found.items))) turn
          ∙ one_more (items_view l.found.items) (view v) (converted of_items (items p (n - 1) r))
          ∙ ap (λ xs. parse_map (items_after xs) (converted of_items (items p (n - 1) r)))
          (sym (ap items_view c.in_ok-push.ensures.items ∙ owned_push l.found.items v));
      within = omega arith;
    }

pub read_items-returns-clause-ok : goal.read_items-returns-clause-ok
read_items-returns-clause-ok t c =
    let p = value c.args.depth in
    let l = c.loop-alloc in
    let r = c.take_end_array.new.self in
    l.invariant.read ∙ ap (parse_map (items_after (items_view l.found.items))) (no_more_items p l.invariant.turns l.reader r l.invariant.enough (grind arith))
    ∙ ap (λ ds. Some (ds, r)) (after_all (items_view l.found.items))

-- ---- objects

pub read_members-returns-in_err-name-clause-err : goal.read_members-returns-in_err-name-clause-err
read_members-returns-in_err-name-clause-err t c =
    let p = value c.args.depth in
    let l = c.loop-found in
    let none : read_key l.reader ≡ None = c.in_err-name.ensures.value in
    let bad = l.invariant.read ∙ no_key p (members_view l.found.entries) l.invariant.turns l.reader none in
    search rules

pub read_members-returns-in_err-member-clause-err : goal.read_members-returns-in_err-member-clause-err
read_members-returns-in_err-member-clause-err t c =
    let p = value c.args.depth in
    let l = c.loop-found in
    let s = c.next_key.new.self in
    let named : read_key l.reader ≡ Some (Some c.in-Some.name.now, s) = grind arith in
    let same : c.from_residual-in_err-member.result ≡ Err c.in_err-member.field-0.0 = search rules in
    rw same (elim c.in_err-member.ensures.err [
      | inl memory ↦ inl memory
      | inr bad ↦ inr (bad.0, l.invariant.read ∙ no_value p (members_view l.found.entries) l.invariant.turns c.in-Some.name.now l.reader s named bad.1)
    ])

pub read_members-loop-found-preserved : goal.read_members-loop-found-preserved
read_members-loop-found-preserved t c =
    let p = value c.args.depth in
    let l = c.loop-found in
    let n = l.invariant.turns in
    let old = members_view l.found.entries in
    let k = c.in-Some.name.now in
    let s = c.next_key.new.self in
    let named : read_key l.reader ≡ Some (Some k, s) = grind arith in
    let v = c.in_ok-member.member in
    let r = c.read_value.new.reader in
    let enough = l.invariant.enough in
    let within = l.invariant.within in
    let less = read_key-shorter l.reader (Some k) s named in
    let lesser = c.in_ok-member.ensures.shorter in
    let copied : string_bytes c.in_ok-name-2.name ≡ k = search rules in
    let inserted : members_view c.insert.new.self.entries ≡ put k (view v) old =
    ap members_view c.in_ok-insert.ensures.entries ∙ members_view-insert_entry l.found.entries c.in_ok-name-2.name v
    ∙ ap (λ name. put name (view v) old) copied in
    record {
      turns = n - 1;
      enough = omega arith;
      read = l.invariant.read ∙ member_turn p old n k l.reader s r (view v) (omega arith) named c.in_ok-member.ensures.ok
          ∙ ap (λ found. converted (λ ms. of_members ms found) (members p (n - 1) r)) (sym inserted);
      within = omega arith;
    }

pub read_members-returns-clause-ok : goal.read_members-returns-clause-ok
read_members-returns-clause-ok t c =
    let l = c.loop-found in
    l.invariant.read ∙ no_more_members (value c.args.depth) (members_view l.found.entries) l.invariant.turns l.reader c.next_key.new.self l.invariant.enough
    (grind arith)
