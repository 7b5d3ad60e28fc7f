-- The answer to a request that is taken is the first that is sent behind it.
use Rattle.std.proofs.Common.{◌≡◌, ℕ, List, [], ◌∷◌, ◌++◌, ap, ◌∙◌}
use Rattle.dcp_types.specs.declared.addresses.Address.{Address}
use Rattle.dcp_ends.specs.Events.{Send}
use Rattle.log_spec.specs.Messages.{Note, Role, Request, Answer, Value, Else}
use Rattle.log_spec.specs.Log.{role_heard, DecidedRequest}
use Rattle.slave_desc.specs.declared.descriptions.SlaveDesc.{SlaveDesc}
use Rattle.slave_spec.specs.declared.words.SlaveRequest.{SlaveRequest}
use Rattle.slave_spec.specs.declared.words.Fate.{Fate}
use Rattle.slave_spec.specs.declared.words.Fate.TheVariants.{Dropped, Refused, Repeated, Taken}
use Rattle.slave_spec.specs.Heard.{Heard, Asks, Brings, Nothing, heard}
use Rattle.slave_spec.specs.Transport.{expected, fate, send, request_sends, heard_sends}
use Rattle.slave_laws.specs.Talk.Desks.{answer_note}
use Rattle.slave_spec.specs.Foreign.{ForeignState, Choice, foreign}
use Rattle.conform_laws.specs.Served.{exchange_of, exchange_heard, AnswersStandBehind}

-- no exchange is not one
none_one : (e : DecidedRequest) → [] ≡ e ∷ [] → ⊥
none_one e h = cc

-- equal lists of one have equal exchanges
same_one : (f e : DecidedRequest) → f ∷ [] ≡ e ∷ [] → f ≡ e
same_one f e h = cc

module _ (d : SlaveDesc) (c : Choice) (x : ForeignState) (from : Address) (e : DecidedRequest) (ns : List Send) where
  abbrev StandsFirst : List Send → Type 0
  StandsFirst sent = (more : List Send) × (sent ++ ns ≡ send from e.answer.message ∷ more)

  -- of any request
  of_request : (r : SlaveRequest) (n : Note) (f : Fate) → exchange_of x r n c.answer f ≡ e ∷ [] → StandsFirst (request_sends (foreign d c) x from r f)
  of_request r n Dropped h = absurd (none_one e h)
  of_request r n (Refused code) h = absurd (none_one e h)
  of_request r n Repeated h = absurd (none_one e h)
  of_request r n Taken h =
      let many : ℕ = expected (record { request = r; answer = c.answer } ∷ x.served) in
      (ns, ap (λ (z : DecidedRequest). send from z.answer.message ∷ ns) (same_one (record { request = n; answer = answer_note r many c.answer }) e h))

  -- of any datagram
  of_heard : (k : Role) (h : Heard) → exchange_heard d c x from k h ≡ e ∷ [] → StandsFirst (heard_sends (foreign d c) x from h)
  of_heard (Request receiver n) (Asks r) h = of_request r n (fate (foreign d c) x from r) h
  of_heard (Request receiver n) (Brings number i payload) h = absurd (none_one e h)
  of_heard (Request receiver n) Nothing h = absurd (none_one e h)
  of_heard (Answer sender n) what h = absurd (none_one e h)
  of_heard (Value id n) what h = absurd (none_one e h)
  of_heard Else what h = absurd (none_one e h)

-- of any event
pub stand_behind : AnswersStandBehind
stand_behind w d x y from bytes sent may e h =
    let z = of_heard d may.choice x from e may.notices (role_heard w bytes) (heard bytes) h in
    (z.0, may.sends ∙ z.1)
