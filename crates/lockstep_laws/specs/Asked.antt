-- Requests that were asked in order.
use Rattle.std.specs.Prelude.{◌≡◌, Bool, true, List, [], ◌∷◌}
use Rattle.log_spec.specs.Messages.{Note}
use Rattle.log_spec.specs.Log.{DecidedRequest}

-- each request might be asked after the exchanges before it
abbrev pub AskedAsPlanned : (List DecidedRequest → Note → Bool) → List DecidedRequest → Type 0
AskedAsPlanned may [] = Unit {0}
AskedAsPlanned may (e ∷ es) = (may es e.request ≡ true) × AskedAsPlanned may es
