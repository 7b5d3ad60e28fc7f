-- The model of a slave is at first before the first step of a run.
use Rattle.std.proofs.Common.{◌≡◌, ℕ, Bool, true, false, if◌then◌else◌, List, Option, Some, None, refl, sym, ap, ◌∙◌, subst, arith}
use Rattle.std.specs.Prelude.{slice_set}
use Rattle.dcp_types.specs.declared.addresses.Address.{Address}
use Rattle.dcp_types.specs.declared.states.State.{State}
use Rattle.dcp_types.specs.declared.error_codes.ErrorCode.{ErrorCode}
use Rattle.pdu_layout.specs.declared.messages.Stc.{Stc}
use Rattle.pdu_layout.specs.declared.messages.Stc.TheVariants as stc
use Rattle.pdu_layout.specs.declared.messages.Cfg.{Cfg}
use Rattle.pdu_layout.specs.declared.messages.Cfg.TheVariants as cfg
use Rattle.pdu_layout.specs.declared.messages.Inf.TheVariants as inf
use Rattle.fixed_models.specs.Steps.{start}
use Rattle.slave_states.specs.Transitions.{next_on}
use Rattle.slave_spec.specs.Payloads.{brought}
use Rattle.slave_spec.specs.declared.words.SlaveSetup.{SlaveSetup}
use Rattle.slave_spec.specs.declared.words.Asked.{Asked}
use Rattle.slave_spec.specs.declared.words.Asked.TheVariants.{Change, Setting, Question}
use Rattle.slave_spec.specs.Transport.{SlaveState}
use Rattle.slave_spec.specs.Plants.{Plant}
use Rattle.slave_spec.specs.Requests.{refusal, state_or, changed_to, set_to, accepted, answered_plant}
use Rattle.slave_spec.specs.Turns.{Act, Stay, Wait, Fault, Step, Pass, act, turned, is_listening, brings, counted}
use Rattle.slave_spec.specs.Slaves.{machine}
use Rattle.slave_spec.proofs.Lasting.{Keeps, lasting}
use Rattle.slave_laws.specs.Talk.Desks.{events_of_slave}
use Rattle.slave_laws.proofs.Talk.Meets.{slave_is}
use Rattle.slave_laws.specs.Model.Models.{IsFreshPlant, ModelsBeginFresh}

module _ (s : SlaveSetup) where
  -- the model, the steps of the run stay
  same : (p q : Plant) → q.model ≡ p.model → q.steps ≡ p.steps → IsFreshPlant s p → IsFreshPlant s q
  same p q e f h = record {
    kind = ap (λ m. m.kind) e ∙ h.kind;
    types = ap (λ m. m.types) e ∙ h.types;
    first = λ z. ap (λ m. m.state) e ∙ h.first (sym f ∙ z) ∙ ap (λ m. start s.desc.kind m.parameters) (sym e);
  }

  set_fresh : (p : Plant) (body : Cfg) → IsFreshPlant s p → IsFreshPlant s (set_to s p body)
  set_fresh p (cfg.Parameter vr kind value) h = record { kind = h.kind; types = h.types; first = λ z. ap (λ k. start k (slice_set p.model.parameters vr value)) h.kind }
  set_fresh p cfg.Clear h = record { kind = refl; types = refl; first = λ z. refl }
  set_fresh p (cfg.Logging category level mode) h = same p (set_to s p (cfg.Logging category level mode)) refl refl h
  set_fresh p (cfg.TimeRes x y) h = same p (set_to s p (cfg.TimeRes x y)) refl refl h
  set_fresh p (cfg.Steps x y) h = same p (set_to s p (cfg.Steps x y)) refl refl h
  set_fresh p (cfg.Input x y z k) h = same p (set_to s p (cfg.Input x y z k)) refl refl h
  set_fresh p (cfg.Output x y z) h = same p (set_to s p (cfg.Output x y z)) refl refl h
  set_fresh p (cfg.Target x) h = same p (set_to s p (cfg.Target x)) refl refl h
  set_fresh p (cfg.Source x) h = same p (set_to s p (cfg.Source x)) refl refl h
  set_fresh p (cfg.Tunable x y z k) h = same p (set_to s p (cfg.Tunable x y z k)) refl refl h
  set_fresh p (cfg.ParamNet x y z k) h = same p (set_to s p (cfg.ParamNet x y z k)) refl refl h
  set_fresh p (cfg.Scope x y) h = same p (set_to s p (cfg.Scope x y)) refl refl h

  changed_fresh : (p : Plant) (request : Stc) (state : State) → IsFreshPlant s p → IsFreshPlant s (changed_to s p request state)
  changed_fresh p stc.Reset state h = record { kind = h.kind; types = h.types; first = λ z. ap (λ k. start k p.model.parameters) h.kind }
  changed_fresh p (stc.DoStep steps) state h = same p (changed_to s p (stc.DoStep steps) state) refl refl h
  changed_fresh p (stc.Register a b c d) state h = same p (changed_to s p (stc.Register a b c d) state) refl refl h
  changed_fresh p stc.Deregister state h = same p (changed_to s p stc.Deregister state) refl refl h
  changed_fresh p stc.Prepare state h = same p (changed_to s p stc.Prepare state) refl refl h
  changed_fresh p stc.Configure state h = same p (changed_to s p stc.Configure state) refl refl h
  changed_fresh p stc.Initialize state h = same p (changed_to s p stc.Initialize state) refl refl h
  changed_fresh p (stc.Run t) state h = same p (changed_to s p (stc.Run t) state) refl refl h
  changed_fresh p stc.SendOutputs state h = same p (changed_to s p stc.SendOutputs state) refl refl h
  changed_fresh p stc.Stop state h = same p (changed_to s p stc.Stop state) refl refl h

  accepted_fresh : (p : Plant) (asked : Asked) → IsFreshPlant s p → IsFreshPlant s (accepted s p asked)
  unfolding accepted
  accepted_fresh p (Change named request) h = changed_fresh p request (state_or p.state (next_on p.state request named p.outputs_sent)) h
  accepted_fresh p (Setting body) h = set_fresh p body h
  accepted_fresh p (Question inf.State) h = h
  accepted_fresh p (Question inf.Error) h = h
  accepted_fresh p (Question (inf.Log category most)) h = same p (accepted s p (Question (inf.Log category most))) refl refl h

  answered_fresh : (p : Plant) (asked : Asked) (o : Option ErrorCode) → IsFreshPlant s p → IsFreshPlant s (answered_plant s p asked o).after
  answered_fresh p asked (Some code) h = same p (answered_plant s p asked (Some code)).after refl refl h
  answered_fresh p asked None h = same (accepted s p asked) (answered_plant s p asked None).after refl refl (accepted_fresh p asked h)

  counts : (n : ℕ) → counted n ≡ 0 → ⊥
  counts n e = omega (arith, e)

  turned_fresh : (p : Plant) (a : Act) → IsFreshPlant s p → IsFreshPlant s (turned s p a).after
  turned_fresh p Stay h = h
  turned_fresh p (Wait left) h = same p (turned s p (Wait left)).after refl refl h
  turned_fresh p (Fault code) h = same p (turned s p (Fault code)).after refl refl h
  turned_fresh p (Step x) h = record { kind = h.kind; types = h.types; first = λ z. absurd (counts p.steps z) }
  turned_fresh p Pass h = same p (turned s p Pass).after refl refl h

  brings_fresh : (from : Address) (number id : ℕ) (payload : List ℕ) (p : Plant) → IsFreshPlant s p → IsFreshPlant s (brings s from number id payload p)
  brings_fresh from number id payload p h = by (is_listening p.state)
    where
      by : (b : Bool) → IsFreshPlant s (if b then record p { wires = brought s.desc p.wires from number id payload p.steps } else p)
      by true = record { kind = h.kind; types = h.types; first = h.first }
      by false = h

  fresh_keeps : Keeps (machine s) (IsFreshPlant s)
  fresh_keeps = record {
    start = record { kind = refl; types = refl; first = λ z. refl };
    answers = λ asked p h. answered_fresh p asked (refusal s p asked) h;
    turns = λ quiet p h. turned_fresh p (act s quiet p) h;
    brings = λ from number id payload p h. brings_fresh from number id payload p h;
  }

pub begins_fresh : ModelsBeginFresh
begins_fresh s w n log = let P : SlaveState Plant → Type 0 = λ x. IsFreshPlant s x.inner in subst P (sym (slave_is (machine s) w n log)) (lasting (machine s) (IsFreshPlant s) (fresh_keeps s) (events_of_slave w n log))
