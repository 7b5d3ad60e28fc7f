-- What a slave does in its conversation with the master, whatever else it does.
use Rattle.std.specs.Prelude.{◌≡◌, ℕ, ◌+◌, ◌%◌, Bool, false, ◌⊎◌, List, [], ◌∷◌, length}
use Rattle.std.specs.List.{filter_map}
use Rattle.dcp_types.specs.declared.addresses.Address.{Address}
use Rattle.log_spec.specs.Messages.{Note, Role, Request, Answer, Value, Else, answer_in}
use Rattle.seq_window.specs.declared.places.Place.TheVariants.{Ahead}
use Rattle.seq_window.specs.Window.{place}
use Rattle.dcp_ends.specs.declared.entries.LogEntry.{LogEntry}
use Rattle.log_spec.specs.Log.{Parties, role_heard, DecidedRequest}
use Rattle.log_spec.specs.Moves.{Move, Asks, Comes, Tells, Hears, Brings, Turns, Rests, Other, move}

-- a datagram that is to be sent
pub record Post : Type 0 where
  pub to : Address
  pub bytes : List ℕ

pub record Desk : Type 0 where
  -- the requests that were taken, each with the answer given, the newest first
  pub served : List DecidedRequest
  -- what the last event still has to send
  pub owed : List Post

abbrev pub answers_of : Parties → List Post → List Note
answers_of w posts = filter_map (λ (p : Post). answer_in (role_heard w p.bytes)) posts

-- no request is among them
abbrev pub IsNoRequest : Role → Type 0
IsNoRequest (Request receiver n) = ⊥
IsNoRequest (Answer sender n) = Unit {0}
IsNoRequest (Value id n) = Unit {0}
IsNoRequest Else = Unit {0}

abbrev pub AskNothing : Parties → List Post → Type 0
AskNothing w [] = Unit {0}
AskNothing w (p ∷ posts) = IsNoRequest (role_heard w p.bytes) × AskNothing w posts

-- a request has no effect
pub record Drops (w : Parties) (x y : Desk) : Type 0 where
  pub served : y.served ≡ x.served
  pub owes : answers_of w y.owed ≡ []

-- it has the number that is expected, and is taken and answered
pub record TakesIt (w : Parties) (n : Note) (x y : Desk) : Type 0 where
  pub next : n.number ≡ length x.served % 65536
  pub answer : Note
  pub number : answer.number ≡ n.number
  pub served : y.served ≡ record { request = n; answer = answer } ∷ x.served
  pub owes : answers_of w y.owed ≡ answer ∷ []

-- it has the number of the one taken last, whose answer is sent again
pub record AnswersAgain (w : Parties) (n : Note) (x y : Desk) : Type 0 where
  pub again : (n.number + 1) % 65536 ≡ length x.served % 65536
  pub newest : DecidedRequest
  pub before : List DecidedRequest
  pub kept : x.served ≡ newest ∷ before
  pub served : y.served ≡ x.served
  pub owes : answers_of w y.owed ≡ newest.answer ∷ []

-- it is answered and not taken: its number is ahead, or nothing was taken and it is no register that the slave accepts
pub record RefusesNote (accepts : Note → Bool) (n : Note) (x y : Desk) : Type 0 where
  pub served : y.served ≡ x.served
  pub why : (place n.number (length x.served % 65536) ≡ Ahead) ⊎ ((x.served ≡ []) × (accepts n ≡ false))

abbrev pub Handles : Parties → (Note → Bool) → Note → Desk → Desk → Type 0
Handles w accepts n x y = Drops w x y ⊎ (TakesIt w n x y ⊎ (AnswersAgain w n x y ⊎ RefusesNote accepts n x y))

abbrev pub tail : List Post → List Post
tail [] = []
tail (p ∷ posts) = posts

-- how a slave goes on with an entry
abbrev pub ServesNote : Parties → (Note → Bool) → Move → Desk → Desk → Type 0
ServesNote w accepts (Asks n) x y = y ≡ x
ServesNote w accepts (Comes from receiver n) x y = Handles w accepts n x y
ServesNote w accepts (Tells to bytes) x y = (y.served ≡ x.served) × (y.owed ≡ tail x.owed)
ServesNote w accepts (Hears n) x y = y ≡ x
ServesNote w accepts (Brings from id n) x y = Drops w x y
ServesNote w accepts Turns x y = Drops w x y
ServesNote w accepts Rests x y = Drops w x y
ServesNote w accepts Other x y = y ≡ x

abbrev pub IsFirstPost : List Post → Address → List ℕ → Type 0
IsFirstPost [] to bytes = ⊥
IsFirstPost (p ∷ posts) to bytes = (p.to ≡ to) × (p.bytes ≡ bytes)

-- the slave sends what it owes, and has no event before that
abbrev pub SlaveMay : Move → List Post → Type 0
SlaveMay (Asks n) owed = Unit {0}
SlaveMay (Comes from receiver n) owed = owed ≡ []
SlaveMay (Tells to bytes) owed = IsFirstPost owed to bytes
SlaveMay (Hears n) owed = Unit {0}
SlaveMay (Brings from id n) owed = owed ≡ []
SlaveMay Turns owed = owed ≡ []
SlaveMay Rests owed = owed ≡ []
SlaveMay Other owed = Unit {0}

-- the sends of slave s after each of its events are exactly those that its events make; after the last they are a front of those
abbrev pub SlaveRun : Parties → ℕ → (List LogEntry → Desk) → List LogEntry → Type 0
SlaveRun w s desk [] = Unit {0}
SlaveRun w s desk (e ∷ log) = SlaveMay (move w s e) (desk log).owed × SlaveRun w s desk log

-- this is how slave s stands after each log
pub record Converses (w : Parties) (s : ℕ) (accepts : Note → Bool) (desk : List LogEntry → Desk) : Type 0 where
  pub begins : desk [] ≡ record { served = []; owed = [] }
  pub goes : (e : LogEntry) (log : List LogEntry) → SlaveMay (move w s e) (desk log).owed → ServesNote w accepts (move w s e) (desk log) (desk (e ∷ log))
  pub asks : (log : List LogEntry) → AskNothing w (desk log).owed
