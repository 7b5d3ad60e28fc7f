-- The whole exchange of each step with one slave, and its way from one run to the next.
use Rattle.std.proofs.Common.{◌≡◌, ℕ, zero, suc, ◌+◌, ◌-◌, ◌*◌, ◌<◌, ◌≤◌, Some, List, [], ◌∷◌, ◌++◌, length, refl, sym, ap, ◌∙◌, subst, arith, length-append}
use Rattle.std.specs.Prelude.{◌==◌, ◌&&◌, slice_get}
use Rattle.std.proofs.lemmas.List.{append_assoc}
use Rattle.dcp_types.specs.declared.states.State.TheVariants as states
use Rattle.pdu_layout.specs.declared.messages.Stc.TheVariants as stc
use Rattle.dcp_ends.specs.declared.entries.LogEntry.{LogEntry}
use Rattle.lockstep.specs.Lockstep.{row_index}
use Rattle.master_spec.specs.declared.requests.Request.TheVariants.{Change}
use Rattle.master_spec.specs.declared.tasks.Task.TheVariants as tasks
use Rattle.master_spec.specs.declared.setups.Slave.{Slave}
use Rattle.master_spec.specs.declared.setups.Setup.{Setup}
use Rattle.master_spec.specs.Setup.{jobs_of}
use Rattle.master_spec.specs.Jobs.{Job}
use Rattle.master_spec.specs.Requests.{is_prepare, is_step, is_outputs, is_stop, is_reset, is_one, is_acked}
use Rattle.master_spec.specs.Exchanged.{in_order, in_run, StepExchange}
use Rattle.master_log_laws.specs.Index.Dates.{bit, phase_before}
use Rattle.master_log_laws.proofs.Finish.Lists.{every_in}
use Rattle.master_log_laws.proofs.Finish.Codes.{count_code, count_append, kind_of, steps_kind}
use Rattle.master_log_laws.proofs.Finish.Rising.{phases_apart}
use Rattle.master_log_laws.proofs.Finish.Cuts.{Cuts}
use Rattle.master_log_laws.proofs.Finish.Scripts.{alone, some_steps, steps_long, steps_one, steps_none, steps_split, Next, RunAt, run_at}
use Rattle.master_log_laws.proofs.Finish.Starts.{InRun, Nth, started, pick}

-- the phase in which step k of run r is computed
abbrev pub phase_of : (steps r k : ℕ) → ℕ
phase_of steps r k = 6 + (r - 1) * (8 + 2 * steps) + 2 * k

-- an exchange, and the phases in which it stands
pub record Full (setup : Setup) (log : List LogEntry) (slave : Slave) (r k q : ℕ) : Type 0 where
  pub exchange : StepExchange setup log slave r k
  pub step_in : phase_before setup log (exchange.step).first ≡ q
  pub computed_in : phase_before setup log exchange.told_computed ≡ q
  pub outputs_in : phase_before setup log (exchange.outputs).first ≡ suc q
  pub running_in : phase_before setup log exchange.told_running ≡ suc q
  pub came_in : phase_before setup log exchange.came ≡ suc q
  pub job_is : slice_get (jobs_of setup slave) q ≡ Some (alone (tasks.Outputs k (row_index setup.steps r k)))

-- the stop, the reset and the next preparation
pub record Over (setup : Setup) (log : List LogEntry) (slave : Slave) (r q : ℕ) : Type 0 where
  pub stop : Nth setup log slave is_stop (alone tasks.Stop) q 1 (in_run setup log slave r)
  pub reset : Nth setup log slave is_reset (alone tasks.Reset) (suc q) 1 (in_run setup log slave r)
  pub prepare : Nth setup log slave is_prepare (alone tasks.Prepare) (suc (suc (suc q))) 1 (in_run setup log slave r)

get_over : (xs ys : List Job) (y : Job) (n : ℕ) → n ≡ length xs → slice_get (xs ++ (y ∷ ys)) n ≡ Some y
get_over [] ys y n e = let z : n ≡ 0 = e in ap (slice_get (y ∷ ys)) z
get_over (x ∷ xs) ys y zero e = absurd (omega (arith, e))
get_over (x ∷ xs) ys y (suc n) e = get_over xs ys y n (omega (arith, e))

module _ (setup : Setup) (log : List LogEntry) (slave : Slave) (cuts : Cuts setup log slave (jobs_of setup slave) 0 (in_order setup log slave)) (r : ℕ) (a : 1 ≤ r) (b : r ≤ setup.runs) where
  at_run : RunAt setup.steps (jobs_of setup slave) r (r - 1) 6 (r < setup.runs)
  at_run = run_at setup.steps setup.runs slave.script r a b

  abbrev base : ℕ
  base = suc (length at_run.pre)

  abbrev after : List Job
  after = some_steps setup.steps r 1 setup.steps ++ (alone tasks.Stop ∷ at_run.tail)

  start : InRun setup log slave after base (in_run setup log slave r)
  start =
      let P : List Job → Type 0 = λ z. Cuts setup log slave z 0 (in_order setup log slave) in
      let n = at_run.runs in
      started setup log slave at_run.pre after (alone tasks.Run) (in_order setup log slave) (subst P at_run.is cuts) refl r (omega (arith, n, a))

  from : (other : List Job) → after ≡ other → InRun setup log slave other base (in_run setup log slave r)
  from other e = let P : List Job → Type 0 = λ z. InRun setup log slave z base (in_run setup log slave r) in subst P e start

  module _ (k : ℕ) (c : 1 ≤ k) (d : k ≤ setup.steps) where
    abbrev row : ℕ
    row = row_index setup.steps r k

    abbrev front : List Job
    front = some_steps setup.steps r 1 (k - 1)

    abbrev back : List Job
    back = some_steps setup.steps r (k + 1) (setup.steps - k) ++ (alone tasks.Stop ∷ at_run.tail)

    abbrev step_job : Job
    step_job = alone (tasks.Step k)

    abbrev outputs_job : Job
    outputs_job = alone (tasks.Outputs k row)

    after_is : after ≡ front ++ (step_job ∷ outputs_job ∷ back)
    after_is =
        let X : List Job = alone tasks.Stop ∷ at_run.tail in
        let e : setup.steps ≡ (k - 1) + suc (setup.steps - k) = omega (arith, c, d) in
        let f : 1 + (k - 1) ≡ k = omega (arith, c) in
        ap (λ (n : ℕ). some_steps setup.steps r 1 n ++ X) e ∙ ap (λ (z : List Job). z ++ X) (steps_split setup.steps r 1 (k - 1) (setup.steps - k))
        ∙ ap (λ (n : ℕ). (front ++ (alone (tasks.Step n) ∷ alone (tasks.Outputs n (row_index setup.steps r n)) ∷ some_steps setup.steps r (n + 1) (setup.steps - k))) ++ X) f
        ∙ append_assoc front (step_job ∷ outputs_job ∷ some_steps setup.steps r (k + 1) (setup.steps - k)) X

    then_is : after ≡ (front ++ (step_job ∷ [])) ++ (outputs_job ∷ back)
    then_is = after_is ∙ sym (append_assoc front (step_job ∷ []) (outputs_job ∷ back))

    abbrev q : ℕ
    q = phase_of setup.steps r k

    the_step : Nth setup log slave (λ a. is_step a && is_acked a) step_job q k (in_run setup log slave r)
    the_step =
        let l = at_run.long in
        let m = steps_long setup.steps r 1 (k - 1) in
        let n = steps_one 7 refl setup.steps r 1 (k - 1) in
        pick setup log slave (λ a. is_step a && is_acked a) 6 refl steps_kind front (outputs_job ∷ back) step_job base q k (in_run setup log slave r) (from (front ++ (step_job ∷ outputs_job ∷ back)) after_is) refl (omega (arith, l, m, c)) (omega (arith, n, c))

    the_outputs : Nth setup log slave is_outputs outputs_job (suc q) k (in_run setup log slave r)
    the_outputs =
        let l = at_run.long in
        let m = steps_long setup.steps r 1 (k - 1) in
        let n = steps_one 8 refl setup.steps r 1 (k - 1) in
        let u = length-append front (step_job ∷ []) in
        let v = count_append 8 front (step_job ∷ []) in
        pick setup log slave is_outputs 7 refl (kind_of 8 refl refl) (front ++ (step_job ∷ [])) back outputs_job base (suc q) k (in_run setup log slave r) (from ((front ++ (step_job ∷ [])) ++ (outputs_job ∷ back)) then_is) refl (omega (arith, l, m, u, c)) (omega (arith, n, v, c))

    outputs_at : slice_get (jobs_of setup slave) q ≡ Some outputs_job
    outputs_at =
        let l = at_run.long in
        let m = steps_long setup.steps r 1 (k - 1) in
        let u = length-append front (step_job ∷ []) in
        let before = at_run.pre ++ (alone tasks.Run ∷ (front ++ (step_job ∷ []))) in
        let v = length-append at_run.pre (alone tasks.Run ∷ (front ++ (step_job ∷ []))) in
        ap (λ (z : List Job). slice_get z q) (at_run.is ∙ ap (λ (z : List Job). at_run.pre ++ (alone tasks.Run ∷ z)) then_is ∙ sym (append_assoc at_run.pre (alone tasks.Run ∷ (front ++ (step_job ∷ []))) (outputs_job ∷ back)))
        ∙ get_over before back outputs_job q (omega (arith, l, m, u, v, c))

    pub full : Full setup log slave r k q
    full =
        let s = the_step.one in
        let o = the_outputs.one in
        let computed = s.named states.Computed refl refl in
        let running = o.named states.Running refl refl in
        let came = (the_outputs.segment).came row refl in
        let computed_at = the_step.within computed.question computed.within in
        let running_at = the_outputs.within running.question running.within in
        let x = computed.told_in in
        let y = o.first_in in
        let z = came.came_in in
        record {
          exchange = record {
            step = s.main;
            stepped = s.place;
            computed = computed.question;
            told_computed = computed.place;
            outputs = o.main;
            sent = o.place;
            running = running.question;
            told_running = running.place;
            came = came.place;
            step_is = the_step.nth;
            single = ap is_one (s.of (Change states.Running (stc.DoStep 1)) refl).1;
            step_done = s.done;
            computed_is = (computed_at.0, computed_at.1, computed.asks);
            computed_done = computed.told;
            outputs_is = the_outputs.nth;
            outputs_done = o.done;
            running_is = (running_at.0, running_at.1, running.asks);
            running_done = running.told;
            brought = came.brings;
            first = every_in (λ a. s.place < a.first) computed.question s.questions s.later computed.within;
            second = phases_apart setup log computed.place (o.main).first (omega (arith, x, y));
            third = every_in (λ a. o.place < a.first) running.question o.questions o.later running.within;
            fourth = phases_apart setup log computed.place came.place (omega (arith, x, z));
          };
          step_in = s.first_in;
          computed_in = x;
          outputs_in = y;
          running_in = running.told_in;
          came_in = z;
          job_is = outputs_at;
        }

  module _ (more : r < setup.runs) where
    next : Next at_run.tail
    next = at_run.more more

    abbrev steps_front : List Job
    steps_front = some_steps setup.steps r 1 setup.steps

    after_next : after ≡ steps_front ++ (alone tasks.Stop ∷ alone tasks.Reset ∷ next.adjust ∷ alone tasks.Prepare ∷ next.rest)
    after_next = ap (λ (z : List Job). steps_front ++ (alone tasks.Stop ∷ z)) next.is

    abbrev reset_front : List Job
    reset_front = steps_front ++ (alone tasks.Stop ∷ [])

    abbrev prepare_front : List Job
    prepare_front = steps_front ++ (alone tasks.Stop ∷ alone tasks.Reset ∷ next.adjust ∷ [])

    pub over : Over setup log slave r (phase_of setup.steps r (setup.steps + 1))
    over =
        let q = phase_of setup.steps r (setup.steps + 1) in
        let l = at_run.long in
        let m = steps_long setup.steps r 1 setup.steps in
        let n9 = steps_none 9 refl setup.steps r 1 setup.steps in
        let n10 = steps_none 10 refl setup.steps r 1 setup.steps in
        let n3 = steps_none 3 refl setup.steps r 1 setup.steps in
        let u = length-append steps_front (alone tasks.Stop ∷ []) in
        let v = length-append steps_front (alone tasks.Stop ∷ alone tasks.Reset ∷ next.adjust ∷ []) in
        let c10 = count_append 10 steps_front (alone tasks.Stop ∷ []) in
        let c3 = count_append 3 steps_front (alone tasks.Stop ∷ alone tasks.Reset ∷ next.adjust ∷ []) in
        let none : count_code 3 (alone tasks.Stop ∷ alone tasks.Reset ∷ next.adjust ∷ []) ≡ 0 = ap (λ (n : ℕ). bit (9 == 3) + (bit (10 == 3) + (bit (n == 3) + 0))) next.adjust_is in
        record {
          stop = pick setup log slave is_stop 8 refl (kind_of 9 refl refl) steps_front at_run.tail (alone tasks.Stop) base q 1 (in_run setup log slave r) start refl (omega (arith, l, m)) (omega (arith, n9));
          reset = pick setup log slave is_reset 9 refl (kind_of 10 refl refl) reset_front (next.adjust ∷ alone tasks.Prepare ∷ next.rest) (alone tasks.Reset) base (suc q) 1 (in_run setup log slave r)
              (from (reset_front ++ (alone tasks.Reset ∷ next.adjust ∷ alone tasks.Prepare ∷ next.rest)) (after_next ∙ sym (append_assoc steps_front (alone tasks.Stop ∷ []) (alone tasks.Reset ∷ next.adjust ∷ alone tasks.Prepare ∷ next.rest)))) refl (omega (arith, l, m, u)) (omega (arith, n10, c10));
          prepare = pick setup log slave is_prepare 2 refl (kind_of 3 refl refl) prepare_front next.rest (alone tasks.Prepare) base (suc (suc (suc q))) 1 (in_run setup log slave r)
              (from (prepare_front ++ (alone tasks.Prepare ∷ next.rest)) (after_next ∙ sym (append_assoc steps_front (alone tasks.Stop ∷ alone tasks.Reset ∷ next.adjust ∷ []) (alone tasks.Prepare ∷ next.rest)))) refl (omega (arith, l, m, v)) (omega (arith, n3, c3, none));
        }
