-- Requests as the logs show them.
use Rattle.std.proofs.Common.{ℕ, Some, None, List, [], ◌∷◌}
use Rattle.pdu_layout.specs.Fields.{FieldValue}
use Rattle.pdu_layout.specs.Fields.FieldValue.{Number}
use Rattle.master_spec.specs.declared.requests.Answer.{Answer}
use Rattle.master_spec.specs.Requests.{Asking}

-- never answered, and answered at a place
abbrev pub opened : (code number : ℕ) → List FieldValue → (first : ℕ) → Asking
opened code number more first = record { code = code; number = number; more = more; first = first; repeats = []; decision = None }

abbrev pub decided : (code number : ℕ) → List FieldValue → (first place : ℕ) → Answer → Asking
decided code number more first place answer =
    record { code = code; number = number; more = more; first = first; repeats = []; decision = Some (record { place = place; answer = answer }) }

-- what the first request to slave 1 holds
abbrev pub identity : List FieldValue
identity = Number 0 ∷ Number 1 ∷ Number 2 ∷ Number 1 ∷ Number 0 ∷ []

abbrev pub question : (number first place : ℕ) → Answer → Asking
question number first place answer = decided 128 number [] first place answer

-- a state request without more than the state that it names
abbrev pub change : (code number state first place : ℕ) → Answer → Asking
change code number state first place answer = decided code number (Number state ∷ []) first place answer
