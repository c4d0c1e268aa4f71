-- A call has one tree: what is found in a tree is what the tree spells, and is found again.
use Rattle.std.proofs.Common.{◌≡◌, ℕ, suc, ◌^◌, ◌<◌, true, List, codes, nat_lt, Some, option_map, refl, ap}
use Rattle.std.proofs.lemmas.Bool.{leb-true, le-leb}
use Rattle.std.proofs.lemmas.Option.{none-some}
use Rattle.std.specs.List.{AllByRecursion}
use Rattle.serde_json.specs.Data.{Data, unsigned, number, object, no_members, member}
use Rattle.dl_values.specs.Key.{IsKey}
use Rattle.dl_documents.proofs.Findings.{Spelled, kept, Finds, none_found, found_if, argued, flagged}
use Rattle.dl_documents.proofs.KeyLaws.{key_is, key_again, keys_tree, keys_is, keys_again}
use Rattle.dl_documents.specs.Script.{key_tree, one, call_tree, IsScriptCall}
use Rattle.dl_documents.specs.Reading.{key_in, keys_in, number_in, call_named, call_in}
use Rattle.dl_desk.specs.declared.call.DeskCall.{DeskCall}
use Rattle.dl_desk.specs.declared.call.DeskCall.TheVariants.{Load, LoadMany, Prime, Clear, ClearAll, Dispatch, Settle, Fail}

-- ---- numbers

abbrev batch_tree : ℕ → Data
batch_tree n = number (unsigned n)

abbrev IsBatch : ℕ → Type 0
IsBatch n = n < 2 ^ 32

batch_is : (d : Data) (x : ℕ) → number_in d ≡ Some x → Spelled batch_tree IsBatch d x
batch_is (number (unsigned n)) x h =
    let p = kept (nat_lt n (2 ^ 32)) n x h in
    let below : n < 2 ^ 32 = leb-true (suc n) (2 ^ 32) p.0 in
    rw (← p.1) (record { tree = refl; is = below })
batch_is d x h = absurd (none-some x h)

batch_again : (n : ℕ) → n < 2 ^ 32 → number_in (number (unsigned n)) ≡ Some n
batch_again n h = let e : nat_lt n (2 ^ 32) ≡ true = le-leb (suc n) (2 ^ 32) h in rw e refl

-- ---- calls

named_is : (name : List ℕ) (d : Data) → Finds call_tree IsScriptCall (one name d) (call_named name d)
named_is name d =
    found_if call_tree IsScriptCall (one name d) _ _ _
    (argued key_tree IsKey call_tree IsScriptCall Load (codes "load") name d (key_in d) (key_is d) (λ x. refl) (λ x h. h))
    (found_if call_tree IsScriptCall (one name d) _ _ _
    (argued keys_tree (AllByRecursion IsKey) call_tree IsScriptCall LoadMany (codes "loadMany") name d (keys_in d) (keys_is d) (λ x. refl) (λ x h. h))
    (found_if call_tree IsScriptCall (one name d) _ _ _
    (argued key_tree IsKey call_tree IsScriptCall Prime (codes "prime") name d (key_in d) (key_is d) (λ x. refl) (λ x h. h))
    (found_if call_tree IsScriptCall (one name d) _ _ _
    (argued key_tree IsKey call_tree IsScriptCall Clear (codes "clear") name d (key_in d) (key_is d) (λ x. refl) (λ x h. h))
    (found_if call_tree IsScriptCall (one name d) _ _ _ (flagged call_tree IsScriptCall ClearAll (codes "clearAll") name d refl tt)
    (found_if call_tree IsScriptCall (one name d) _ _ _ (flagged call_tree IsScriptCall Dispatch (codes "dispatch") name d refl tt)
    (found_if call_tree IsScriptCall (one name d) _ _ _
    (argued batch_tree IsBatch call_tree IsScriptCall Settle (codes "settle") name d (number_in d) (batch_is d) (λ x. refl) (λ x h. h))
    (found_if call_tree IsScriptCall (one name d) _ _ _
    (argued batch_tree IsBatch call_tree IsScriptCall Fail (codes "fail") name d (number_in d) (batch_is d) (λ x. refl) (λ x h. h))
    (none_found call_tree IsScriptCall (one name d)))))))))

-- the call that is found in a tree is spelled by it
pub call_is : (d : Data) (c : DeskCall) → call_in d ≡ Some c → Spelled call_tree IsScriptCall d c
call_is (object (member name d no_members)) c h = named_is name d c h
call_is d c h = absurd (none-some c h)

-- and a call is found in its tree
pub call_again : (c : DeskCall) → IsScriptCall c → call_in (call_tree c) ≡ Some c
call_again (Load k) h = ap (option_map Load) (key_again k h)
call_again (LoadMany ks) h = ap (option_map LoadMany) (keys_again ks h)
call_again (Prime k) h = ap (option_map Prime) (key_again k h)
call_again (Clear k) h = ap (option_map Clear) (key_again k h)
call_again ClearAll h = refl
call_again Dispatch h = refl
call_again (Settle n) h = ap (option_map Settle) (batch_again n h)
call_again (Fail n) h = ap (option_map Fail) (batch_again n h)
