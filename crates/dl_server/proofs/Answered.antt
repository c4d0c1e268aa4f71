-- The answer to a request, by what was read of it.
use Rattle.std.proofs.Common.{◌≡◌, ℕ, List, Bool, subst, sym, OnOk, Result}
use Rattle.std.proofs.lemmas.Result.{on_ok_weaker}
use Rattle.http_server.specs.declared.response.Response.{Response}
use Rattle.dl_plans.specs.declared.request.RequestFault.{RequestFault}
use Rattle.dl_plans.specs.declared.settings.Options.{Options}
use Rattle.dl_server.specs.Answers.{Answered, IsJson, Says}
use Rattle.dl_server.specs.declared.places.Asked.{Asked}

module _ {E : Type 0} (result : Result (Unit {0}) E) (r : Response) where
  pub answered_as : (options : Options) (asked given : Asked) (json is_json : Bool) (bytes body : List ℕ) → asked ≡ given → json ≡ is_json → bytes ≡ body
      → OnOk result (Answered options asked json bytes r) → OnOk result (Answered options given is_json body r)
  answered_as options asked given json is_json bytes body first second third h =
      subst (λ (a : Asked). OnOk result (Answered options a is_json body r)) first
      (subst (λ (b : Bool). OnOk result (Answered options asked b body r)) second
      (subst (λ (t : List ℕ). OnOk result (Answered options asked json t r)) third h))

  -- what is asked for is this
  pub asked_as : (options : Options) (asked given : Asked) (json : Bool) (bytes : List ℕ) → given ≡ asked → OnOk result (Answered options asked json bytes r)
      → OnOk result (Answered options given json bytes r)
  asked_as options asked given json bytes is h = subst (λ (a : Asked). OnOk result (Answered options a json bytes r)) (sym is) h

  -- a fault that is this one is said by this text
  pub said : (given fault : RequestFault) (status : ℕ) (text meant : List ℕ) → given ≡ fault → text ≡ meant → (IsJson status meant r → Says fault r)
      → OnOk result (IsJson status text r) → OnOk result (Says given r)
  said given fault status text meant is same says h =
      subst (λ (f : RequestFault). OnOk result (Says f r)) (sym is)
      (on_ok_weaker result says (subst (λ (t : List ℕ). OnOk result (IsJson status t r)) same h))
