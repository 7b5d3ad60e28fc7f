-- What a slave has taken whose model is not known, read off the pieces of its entries.
use Rattle.std.specs.Prelude.{◌≡◌, ℕ, zero, suc, List, [], ◌∷◌, ◌++◌}
use Rattle.dcp_types.specs.declared.addresses.Address.{Address}
use Rattle.dcp_ends.specs.declared.entries.LogEntry.{LogEntry}
use Rattle.dcp_ends.specs.Events.{Event, Gram, Tick, Send}
use Rattle.log_spec.specs.Messages.{Note, Role, Request}
use Rattle.log_spec.specs.Log.{Parties, DecidedRequest, role_heard}
use Rattle.slave_desc.specs.declared.descriptions.SlaveDesc.{SlaveDesc}
use Rattle.slave_spec.specs.declared.words.SlaveRequest as req
use Rattle.slave_spec.specs.declared.words.Fate.{Fate}
use Rattle.slave_spec.specs.declared.words.Fate.TheVariants.{Dropped, Refused, Repeated, Taken}
use Rattle.slave_spec.specs.Heard.{Heard, Asks, heard}
use Rattle.slave_spec.specs.Transport.{SlaveAnswer, expected, fate, send}
use Rattle.slave_laws.specs.Talk.Desks.{answer_note}
use Rattle.slave_spec.specs.Foreign.{ForeignState, Choice, foreign, foreign_fresh, MaySendAt}
use Rattle.slave_spec.specs.Allowed.{Piece, Rests, Acts, AreAllowed, Allowed}

-- a request that is taken, with the answer that is chosen for it
abbrev pub exchange_of : ForeignState → req.SlaveRequest → Note → SlaveAnswer → Fate → List DecidedRequest
exchange_of x r n a Taken = record { request = n; answer = answer_note r (expected (record { request = r; answer = a } ∷ x.served)) a } ∷ []
exchange_of x r n a Dropped = []
exchange_of x r n a (Refused code) = []
exchange_of x r n a Repeated = []

abbrev pub exchange_heard : SlaveDesc → Choice → ForeignState → Address → Role → Heard → List DecidedRequest
exchange_heard d c x from (Request receiver n) (Asks r) = exchange_of x r n c.answer (fate (foreign d c) x from r)
exchange_heard d c x from role what = []

-- what a slave takes at an event, where it stands so and chooses so
abbrev pub exchange_at : Parties → SlaveDesc → Choice → ForeignState → Event → List DecidedRequest
exchange_at w d c x (Gram from bytes) = exchange_heard d c x from (role_heard w bytes) (heard bytes)
exchange_at w d c x Tick = []

-- what it has taken in so many events of these pieces, the newest first
abbrev pub first_served : Parties → (d : SlaveDesc) → (events : ℕ) → (x : ForeignState) → (pieces : List Piece) → AreAllowed d x pieces → List DecidedRequest
first_served w d n x [] h = []
first_served w d n x (Rests ∷ pieces) h = first_served w d n x pieces h
first_served w d zero x (Acts event sent ∷ pieces) h = []
first_served w d (suc n) x (Acts event sent ∷ pieces) h = first_served w d n h.0 pieces h.2 ++ exchange_at w d (h.1).choice x event

-- what a slave with allowed entries has taken in so many of its events
abbrev pub allowed_served : Parties → (d : SlaveDesc) → (entries : List LogEntry) → Allowed d entries → (events : ℕ) → List DecidedRequest
allowed_served w d entries h n = first_served w d n foreign_fresh h.pieces h.allowed

-- the answer of an exchange is the first that is sent at its event
abbrev pub AnswersStandBehind : Type 0
AnswersStandBehind = (w : Parties) (d : SlaveDesc) (x y : ForeignState) (from : Address) (bytes : List ℕ) (sent : List Send) (may : MaySendAt d x (Gram from bytes) sent y) (e : DecidedRequest) → exchange_at w d may.choice x (Gram from bytes) ≡ e ∷ []
    → (more : List Send) × (sent ≡ send from e.answer.message ∷ more)
