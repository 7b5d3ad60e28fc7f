-- Where there is one slave, its exchange is that of all.
use Rattle.std.proofs.Common.{◌≡◌, ℕ, ◌<◌, ◌+◌, ◌-◌, ◌*◌, ◌%◌, ◌&&◌, ◌||◌, not, nat_lt, Bool, true, IsTrue, Some, List, arith, subst, slice_get}
use Rattle.std.specs.List.{list_all}
use Rattle.std.proofs.lemmas.Bool.Decides.{nat_tests}
use Rattle.dcp_ends.specs.declared.entries.LogEntry.{LogEntry}
use Rattle.master_spec.specs.declared.setups.Slave.{Slave}
use Rattle.master_spec.specs.declared.setups.Setup.{Setup}
use Rattle.master_spec.specs.Exchanged.{IsIn, Brings, StepExchange, Exchanged, in_order, in_run, nth_of}
use Rattle.master_spec.specs.Requests.{Asking, is_step, is_stop, is_outputs, is_acked}
use Rattle.witness_laws.proofs.Shown.Lists.{each_passes}

-- the exchange of a slave is that of an equal one, at the same places
abbrev pub moved : {setup : Setup} {log : List LogEntry} {r k : ℕ} (s t : Slave) → s ≡ t → StepExchange setup log s r k → StepExchange setup log t r k
moved {setup} {log} {r} {k} s t same x = record {
  step = x.step;
  stepped = x.stepped;
  computed = x.computed;
  told_computed = x.told_computed;
  outputs = x.outputs;
  sent = x.sent;
  running = x.running;
  told_running = x.told_running;
  came = x.came;
  step_is = subst (λ s. nth_of (λ a. is_step a && is_acked a) k (in_run setup log s r) ≡ Some x.step) same x.step_is;
  single = x.single;
  step_done = x.step_done;
  computed_is = (x.computed_is.0, subst (λ s. slice_get (in_run setup log s r) x.computed_is.0 ≡ Some x.computed) same x.computed_is.1, x.computed_is.2);
  computed_done = x.computed_done;
  outputs_is = subst (λ s. nth_of is_outputs k (in_run setup log s r) ≡ Some x.outputs) same x.outputs_is;
  outputs_done = x.outputs_done;
  running_is = (x.running_is.0, subst (λ s. slice_get (in_run setup log s r) x.running_is.0 ≡ Some x.running) same x.running_is.1, x.running_is.2);
  running_done = x.running_done;
  brought = subst (λ s. Brings setup log s (((r - 1) * (setup.steps + 1) + k) % 65536) x.came) same x.brought;
  first = x.first;
  second = x.second;
  third = x.third;
  fourth = x.fourth;
}

-- a step or a stop after a place comes after two others
abbrev pub is_behind : (outputs running came : ℕ) → Asking → Bool
is_behind outputs running came a = not ((is_step a || is_stop a) && nat_lt outputs a.first) || (nat_lt running a.first && nat_lt came a.first)

behind : (outputs running came : ℕ) (a : Asking) → is_behind outputs running came a ≡ true → IsTrue (is_step a || is_stop a) → outputs < a.first
    → (running < a.first) × (came < a.first)
behind outputs running came a h k b = (grind (arith, nat_tests), grind (arith, nat_tests))

pub later : (setup : Setup) (log : List LogEntry) (s t : Slave) (outputs running came : ℕ) → s ≡ t
    → list_all (is_behind outputs running came) (in_order setup log s) ≡ true
    → (a : Asking) (n : ℕ) → slice_get (in_order setup log t) n ≡ Some a → IsTrue (is_step a || is_stop a) → outputs < a.first
    → (running < a.first) × (came < a.first)
later setup log s t outputs running came same all a n e k b =
    let here = subst (λ s. list_all (is_behind outputs running came) (in_order setup log s) ≡ true) same all in
    behind outputs running came a (each_passes (is_behind outputs running came) (in_order setup log t) n a here e) k b

-- the slave, by a lookup in a list that has it alone
abbrev pub IsAlone : Setup → Slave → Type 0
IsAlone setup s = (t : Slave) → IsIn setup t → s ≡ t

abbrev pub alone : (setup : Setup) (log : List LogEntry) (s : Slave) (r k : ℕ) → IsAlone setup s → (x : StepExchange setup log s r k)
    → list_all (is_behind x.outputs.first x.told_running x.came) (in_order setup log s) ≡ true → Exchanged setup log r k
alone setup log s r k one x all = record {
  each = λ t i. moved s t (one t i) x;
  computed = λ t u i j. before;
  sent = λ t u i j a n e kind b. later setup log s u x.outputs.first x.told_running x.came (one u j) all a n e kind b;
}
  where
    before : x.told_computed < x.outputs.first
    before = x.second
