-- What a connection that was served has answered.
use Rattle.std.proofs.Common.{◌≡◌, ◌∙◌, ℕ, List, [], ◌∷◌, ◌++◌, All, ap, subst, sym}
use Rattle.std.proofs.lemmas.List.Elements.{All-nil, All-cons}
use Rattle.http.specs.declared.request.Request.{Request}
use Rattle.http_server.proofs.Theorems.{always_served}
use Rattle.http_server.specs.Connection.{config_of, history}
use Rattle.http_server.specs.Exchange.{Call, Calls, Chain}
use Rattle.http_server.specs.History.{History, IsServed, new_history}
use Rattle.http_server.specs.declared.connection.Connection.{Connection}
use Rattle.http_server.specs.declared.response.Response.{Response}
use Rattle.http_server.specs.declared.state.Config.{Config}
use Rattle.dl_plans.specs.declared.settings.Options.{Options}
use Rattle.dl_server.specs.Answers.{AnswersIt, IsAnswered, connection_limits}

-- ---- a service that no call changes

module _ {S : Type 0} (IsRight : S → Request (List ℕ) → Response → Type 0) where
  abbrev Keeping : S → Request (List ℕ) → Response → S → Type 0
  Keeping old request response new = (new ≡ old) × IsRight old request response

  -- each call is right by the state that the service had at first
  each_right : (calls : List Call) (old new : S) → Chain Keeping old calls new → All (λ c. IsRight old c.0 c.1) calls
  each_right [] old new x = All-nil (λ (c : Call). IsRight old c.0 c.1)
  each_right (c ∷ calls) old new x =
      All-cons (λ (k : Call). IsRight old k.0 k.1) c calls x.1.1 (each_right calls old new (subst (λ (s : S). Chain Keeping s calls new) x.1.0 x.2))

-- ---- a connection

-- what was served from the beginning on is answered
module _ {S : Type 0} (options_of : S → Options) where
  pub answered : (made served : Connection) (old new : S) (read sent : List ℕ) → config_of made ≡ connection_limits → history made ≡ new_history
      → config_of served ≡ config_of made → (history served).received ≡ (history made).received ++ read
      → (history served).sent ≡ (history made).sent ++ sent
      → Calls (λ s request response t. (t ≡ s) × AnswersIt (options_of s) request response) old new (history made).calls (history served).calls
      → IsAnswered (options_of old) read sent (history served)
  answered made served old new read sent limits begun config received handed calls = record {
    served = subst (λ (c : Config). ∥ IsServed c (history served) ∥₁) (config ∙ limits) (always_served served);
    received = received ∙ ap (λ (h : History). h.received ++ read) begun;
    handed_out = handed ∙ ap (λ (h : History). h.sent ++ sent) begun;
    each = subst (λ (cs : List Call). All (λ c. AnswersIt (options_of old) c.0 c.1) cs)
        (sym (calls.1 ∙ ap (λ (h : History). h.calls ++ calls.0) begun))
        (each_right (λ s. AnswersIt (options_of s)) calls.0 old new calls.2);
  }
