-- What asking in order gives of the exchanges with a slave, the newest first.
use Rattle.std.specs.Prelude.{◌≡◌, ℕ, ◌&&◌, Bool, true, List, ◌∷◌}
use Rattle.slave_desc.specs.declared.descriptions.SlaveDesc.{SlaveDesc}
use Rattle.scenario.specs.declared.scenarios.Scenario.{Scenario}
use Rattle.log_spec.specs.Messages.{Note, is_request_code}
use Rattle.log_spec.specs.Log.{DecidedRequest}
use Rattle.lockstep_laws.specs.Steps.{run_after, view}
use Rattle.lockstep_laws.specs.Asked.{AskedAsPlanned}
use Rattle.lockstep_laws.specs.Models.Machines.{Begun}
use Rattle.plan_laws.specs.Course.Courses.{tuned, opened, may}

-- what may be asked is a request by its code: a slave hears a reset in codes that no message has
abbrev pub may_ask : Scenario → (s : ℕ) → SlaveDesc → List DecidedRequest → Note → Bool
may_ask sc s d es n = is_request_code n.message.code && may sc s d es n

abbrev pub BegunIsOpened : Type 0
BegunIsOpened = (sc : Scenario) (s : ℕ) (d : SlaveDesc) (es : List DecidedRequest) → AskedAsPlanned (may_ask sc s d) es → Begun sc.steps (view es)
    → opened sc s d (run_after sc.steps (view es).done) es ≡ true

abbrev pub OpenedStays : Type 0
OpenedStays = (sc : Scenario) (s : ℕ) (d : SlaveDesc) (r : ℕ) (e : DecidedRequest) (es : List DecidedRequest) → AskedAsPlanned (may_ask sc s d) (e ∷ es) → opened sc s d r es ≡ true
    → run_after sc.steps (view es).done ≡ r → run_after sc.steps (view (e ∷ es)).done ≡ r → opened sc s d r (e ∷ es) ≡ true

abbrev pub OpenedIsTuned : Type 0
OpenedIsTuned = (sc : Scenario) (s : ℕ) (d : SlaveDesc) (r : ℕ) (es : List DecidedRequest) → opened sc s d r es ≡ true → tuned sc s d r es ≡ true
