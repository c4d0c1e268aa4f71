-- What a response is filled with.
use Rattle.std.proofs.Common.{◌≡◌, ℕ, List, subst, OnOk, Result}
use Rattle.http1.specs.Fields.{Header}
use Rattle.http_server.specs.Response.{IsResponse}
use Rattle.http_server.specs.declared.response.Response.{Response}

module _ {E : Type 0} (result : Result (Unit {0}) E) (status : ℕ) (r : Response) where
  -- the same fields and the same body, said otherwise
  pub filled : (sent said : List Header) (content meant : List ℕ) → sent ≡ said → content ≡ meant → OnOk result (IsResponse status sent content r)
      → OnOk result (IsResponse status said meant r)
  filled sent said content meant fields body h =
      subst (λ (s : List Header). OnOk result (IsResponse status s meant r)) fields
      (subst (λ (t : List ℕ). OnOk result (IsResponse status sent t r)) body h)
