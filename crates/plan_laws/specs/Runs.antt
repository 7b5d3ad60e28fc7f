-- A slave from run to run: it is set up, it runs, and it is set anew, and all the while other things happen to it.
use Rattle.std.specs.Prelude.{◌≡◌, ℕ, ◌+◌, List, [], ◌∷◌, ◌++◌, None}
use Rattle.std.specs.List.{flat_map, range_with_len}
use Rattle.dcp_types.specs.declared.addresses.Address.{Address}
use Rattle.dcp_types.specs.declared.states.State.{State}
use Rattle.dcp_types.specs.declared.states.State.TheVariants.{Configuration}
use Rattle.pdu_layout.specs.declared.messages.Cfg.{Cfg}
use Rattle.pdu_layout.specs.declared.messages.Stc.{Stc}
use Rattle.pdu_layout.specs.declared.messages.Inf.{Inf}
use Rattle.slave_desc.specs.declared.descriptions.SlaveDesc.{SlaveDesc}
use Rattle.scenario.specs.declared.scenarios.Scenario.{Scenario}
use Rattle.master_spec.specs.PlanSetup.{setup_list, adjust_list}
use Rattle.slave_spec.specs.declared.words.Asked.TheVariants.{Change, Setting, Question}
use Rattle.slave_spec.specs.declared.words.SlaveSetup.{SlaveSetup}
use Rattle.slave_spec.specs.Plants.{Plant}
use Rattle.slave_spec.specs.Requests.{refusal, accepted, answers}
use Rattle.slave_spec.specs.Turns.{turns, brings}
use Rattle.plan_laws.specs.Taking.{IsTakenByPart}

-- What happens to a slave besides settings: a turn after so many quiet ones, a data message, a request to change its state, or a question. A request may be refused.
pub data Happening : Type 0 where
  Turn : (quiet : ℕ) → Happening
  Data : (from : Address) → (number id : ℕ) → List ℕ → Happening
  Move : (named : State) → Stc → Happening
  Ask : Inf → Happening

abbrev pub met : SlaveSetup → Plant → Happening → Plant
met x p (Turn quiet) = (turns x quiet p).after
met x p (Data from number id payload) = brings x from number id payload p
met x p (Move named request) = (answers x (Change named request) p).after
met x p (Ask question) = (answers x (Question question) p).after

-- where all that happens leads, in its order
abbrev pub met_all : SlaveSetup → Plant → List Happening → Plant
met_all x p [] = p
met_all x p (h ∷ hs) = met_all x (met x p h) hs

-- Settings come one after the other, and before that of place i these things happen. One that comes in CONFIGURATION is not refused, by the slave and by its part; nothing is said of those behind one that comes elsewhere.
abbrev pub TakesAmid : SlaveSetup → Plant → (happened : ℕ → List Happening) → (i : ℕ) → List Cfg → Type 0
TakesAmid x p happened i [] = Unit {0}
TakesAmid x p happened i (body ∷ bodies) =
    ((met_all x p (happened i)).state ≡ Configuration
    → (refusal x (met_all x p (happened i)) (Setting body) ≡ None) × IsTakenByPart x (met_all x p (happened i)) body
    × TakesAmid x (accepted x (met_all x p (happened i)) (Setting body)) happened (i + 1) bodies)

-- where they lead
abbrev pub after_amid : SlaveSetup → Plant → (happened : ℕ → List Happening) → (i : ℕ) → List Cfg → Plant
after_amid x p happened i [] = p
after_amid x p happened i (body ∷ bodies) = after_amid x (accepted x (met_all x p (happened i)) (Setting body)) happened (i + 1) bodies

-- the setup list of slave s, and then what is set after each of the first r runs
abbrev pub lists_until : Scenario → (s : ℕ) → SlaveDesc → (r : ℕ) → List Cfg
lists_until sc s d r = setup_list sc s d ++ flat_map (λ k. adjust_list sc k s) (range_with_len 1 r)
