-- The plan never asks a slave for notices of its log.
use Rattle.std.proofs.Common.{◌≡◌, ℕ, zero, suc, ◌+◌, ◌-◌, Bool, true, false, if◌then◌else◌, Option, Some, None, List, [], ◌∷◌, ◌++◌, map, subst}
use Rattle.std.specs.Prelude.{◌==◌, slice_get, slice_index_or, filter}
use Rattle.std.specs.List.{AllByRecursion, flat_map, range_with_len}
use Rattle.pdu_layout.specs.declared.messages.Stc.TheVariants as stc
use Rattle.pdu_layout.specs.declared.messages.Cfg.{Cfg}
use Rattle.pdu_layout.specs.declared.messages.Cfg.TheVariants as cfg
use Rattle.pdu_layout.specs.Message.{message_of}
use Rattle.slave_desc.specs.declared.ports.Port.{Port}
use Rattle.slave_desc.specs.declared.descriptions.SlaveDesc.{SlaveDesc}
use Rattle.scenario.specs.declared.scenarios.Setting.{Setting}
use Rattle.scenario.specs.declared.scenarios.Scenario.{Scenario}
use Rattle.scenario.specs.Settings.{setting_in}
use Rattle.master_spec.specs.declared.links.DataLink.{DataLink}
use Rattle.master_spec.specs.declared.pairs.Pair.{Pair}
use Rattle.master_spec.specs.Links.{positions, wire_links}
use Rattle.master_spec.specs.PlanSetup.{net_info, set_parameter, settings_of, numbered, input_at, output_at, told_interval, incoming, outgoing, watched, setup_list, adjust_list}
use Rattle.plan_laws.proofs.Lists.{each_append}
use Rattle.slave_laws.proofs.Wiring.Parts.{each_numbered}
use Rattle.master_spec.specs.declared.requests.Request.{Request}
use Rattle.master_spec.specs.declared.requests.Request.TheVariants.{Change, Configure, AskState, AskError}
use Rattle.master_spec.specs.declared.reactions.Reaction.TheVariants.{Ask}
use Rattle.master_spec.specs.declared.tasks.Task.{Task}
use Rattle.master_spec.specs.declared.tasks.Task.TheVariants as tasks
use Rattle.master_spec.specs.Tasks.{requests_of}
use Rattle.master_spec.specs.Jobs.{Job, asked_by, step_jobs, run_jobs, between_jobs, jobs_from, jobs}
use Rattle.master_spec.specs.News.{pdu_of}
use Rattle.master_spec.specs.Conversation.{first_of}
use Rattle.master_spec.specs.Setup.{script_of}
use Rattle.slave_spec.specs.Heard as spec
use Rattle.slave_spec.specs.declared.words.Asked as ask
use Rattle.slave_spec.specs.declared.words.Asked.TheVariants as asks

-- ---- a configuration that is not for the log
abbrev pub IsPlainSetting : Cfg → Type 0
IsPlainSetting (cfg.Logging category level mode) = ⊥
IsPlainSetting body = Unit {0}

abbrev pub IsPlainRequest : Request → Type 0
IsPlainRequest (Configure body) = IsPlainSetting body
IsPlainRequest request = Unit {0}

abbrev pub IsPlainAsked : ask.Asked → Type 0
IsPlainAsked (asks.Setting body) = IsPlainSetting body
IsPlainAsked asked = Unit {0}

abbrev pub IsPlainHeard : spec.Heard → Type 0
IsPlainHeard (spec.Asks r) = IsPlainAsked r.asked
IsPlainHeard heard = Unit {0}

-- a plain request is heard as one
pub plain_heard : (n id : ℕ) (r : Request) → IsPlainRequest r → IsPlainHeard (spec.heard_as (Some (message_of (pdu_of n id r))))
plain_heard n id (Change state (stc.Register uuid op_mode major minor)) p = tt
plain_heard n id (Change state stc.Deregister) p = tt
plain_heard n id (Change state stc.Prepare) p = tt
plain_heard n id (Change state stc.Configure) p = tt
plain_heard n id (Change state stc.Initialize) p = tt
plain_heard n id (Change state (stc.Run start_time)) p = tt
plain_heard n id (Change state (stc.DoStep steps)) p = tt
plain_heard n id (Change state stc.SendOutputs) p = tt
plain_heard n id (Change state stc.Stop) p = tt
plain_heard n id (Change state stc.Reset) p = tt
plain_heard n id (Configure (cfg.TimeRes numerator denominator)) p = tt
plain_heard n id (Configure (cfg.Steps data_id steps)) p = tt
plain_heard n id (Configure (cfg.Input data_id position vr source_type)) p = tt
plain_heard n id (Configure (cfg.Output data_id position vr)) p = tt
plain_heard n id (Configure cfg.Clear) p = tt
plain_heard n id (Configure (cfg.Target net)) p = tt
plain_heard n id (Configure (cfg.Source net)) p = tt
plain_heard n id (Configure (cfg.Parameter vr kind value)) p = tt
plain_heard n id (Configure (cfg.Tunable param_id position vr kind)) p = tt
plain_heard n id (Configure (cfg.ParamNet param_id protocol port ip)) p = tt
plain_heard n id (Configure (cfg.Logging category level mode)) p = absurd p
plain_heard n id (Configure (cfg.Scope data_id scope)) p = tt
plain_heard n id AskState p = tt
plain_heard n id AskError p = tt

-- ---- the lists of the plan
abbrev pub ArePlain : List Cfg → Type 0
ArePlain bodies = AllByRecursion IsPlainSetting bodies

module _ (sc : Scenario) where
  interval_plain : (l : DataLink) → ArePlain (told_interval l)
  interval_plain l = by (l.every == 1)
    where
      by : (b : Bool) → ArePlain (if b then [] else cfg.Steps l.id l.every ∷ [])
      by true = tt
      by false = (tt, tt)

  input_plain : (id j : ℕ) (o : Option Port) → ArePlain (input_at id j o)
  input_plain id j None = tt
  input_plain id j (Some q) = (tt, tt)

  output_plain : (id j : ℕ) (o : Option Port) → ArePlain (output_at id j o)
  output_plain id j None = tt
  output_plain id j (Some q) = (tt, tt)

  parameters_plain : (xs : List Setting) → ArePlain (map set_parameter xs)
  parameters_plain [] = tt
  parameters_plain (x ∷ xs) = (tt, parameters_plain xs)

  module _ (s : ℕ) (d : SlaveDesc) where
    incoming_plain : (l : DataLink) → ArePlain (incoming sc d l)
    incoming_plain l = each_append IsPlainSetting (numbered (λ i (q : Pair). input_at l.id i (slice_get d.inputs q.to)) 0 (positions sc.wires l.from l.to)) (cfg.Source (net_info sc l.id l.from) ∷ told_interval l)
        (each_numbered IsPlainSetting (λ i (q : Pair). input_at l.id i (slice_get d.inputs q.to)) 0 (positions sc.wires l.from l.to) (λ j q. input_plain l.id j (slice_get d.inputs q.to))) (tt, interval_plain l)

    outgoing_plain : (l : DataLink) → ArePlain (outgoing sc d l)
    outgoing_plain l = each_append IsPlainSetting (numbered (λ i (q : Pair). output_at l.id i (slice_get d.outputs q.from)) 0 (positions sc.wires l.from l.to)) (cfg.Target (net_info sc l.id l.to) ∷ told_interval l)
        (each_numbered IsPlainSetting (λ i (q : Pair). output_at l.id i (slice_get d.outputs q.from)) 0 (positions sc.wires l.from l.to) (λ j q. output_plain l.id j (slice_get d.outputs q.from))) (tt, interval_plain l)

    flat_plain : (f : DataLink → List Cfg) → ((l : DataLink) → ArePlain (f l)) → (ls : List DataLink) → ArePlain (flat_map f ls)
    flat_plain f h [] = tt
    flat_plain f h (l ∷ ls) = each_append IsPlainSetting (f l) (flat_map f ls) (h l) (flat_plain f h ls)

    setup_plain : ArePlain (setup_list sc s d)
    setup_plain =
        let a : List Cfg = cfg.Clear ∷ cfg.TimeRes d.numerator d.denominator ∷ [] in
        let b = settings_of s sc.settings in
        let c = flat_map (incoming sc d) (filter (λ (l : DataLink). l.to == s) (wire_links sc)) in
        let e = flat_map (outgoing sc d) (filter (λ (l : DataLink). l.from == s) (wire_links sc)) in
        let w = each_append IsPlainSetting (numbered (λ i (q : Port). output_at s i (Some q)) 0 d.outputs) (cfg.Target (net_info sc s 0) ∷ [])
        (each_numbered IsPlainSetting (λ i (q : Port). output_at s i (Some q)) 0 d.outputs (λ j q. output_plain s j (Some q))) (tt, tt) in
        each_append IsPlainSetting (((a ++ b) ++ c) ++ e) (watched sc s d)
        (each_append IsPlainSetting ((a ++ b) ++ c) e
        (each_append IsPlainSetting (a ++ b) c (each_append IsPlainSetting a b (tt, (tt, tt)) (parameters_plain (filter (λ x. x.slave == s) sc.settings))) (flat_plain (incoming sc d) incoming_plain (filter (λ (l : DataLink). l.to == s) (wire_links sc))))
        (flat_plain (outgoing sc d) outgoing_plain (filter (λ (l : DataLink). l.from == s) (wire_links sc)))) w

    adjust_plain : (r : ℕ) → ArePlain (adjust_list sc r s)
    adjust_plain r = parameters_plain (filter (λ x. x.slave == s) (map setting_in (filter (λ x. x.run == r + 1) sc.reruns)))

    -- ---- the jobs
    abbrev pub IsPlainJob : Job → Type 0
    IsPlainJob job = ArePlain job.list

    abbrev pub AllJobs : List Job → Type 0
    AllJobs js = AllByRecursion IsPlainJob js

    adjusts_plain : (rs : List ℕ) (i : ℕ) → ArePlain (slice_index_or (map (λ r. adjust_list sc r s) rs) i [])
    adjusts_plain [] i = tt
    adjusts_plain (r ∷ rs) zero = adjust_plain r
    adjusts_plain (r ∷ rs) (suc i) = adjusts_plain rs i

    steps_plain : (r a n : ℕ) → AllJobs (flat_map (step_jobs sc.steps r) (range_with_len a n))
    steps_plain r a zero = tt
    steps_plain r a (suc n) = (tt, (tt, steps_plain r (a + 1) n))

    run_plain : (r : ℕ) → AllJobs (run_jobs sc.steps r)
    run_plain r = (tt, (tt, (tt, (tt, (tt, each_append IsPlainJob (flat_map (step_jobs sc.steps r) (range_with_len 1 sc.steps)) (record { task = tasks.Stop; list = [] } ∷ []) (steps_plain r 1 sc.steps) (tt, tt))))))

    from_plain : (r more : ℕ) → AllJobs (jobs_from sc.steps (script_of sc s d) r more)
    from_plain r zero = each_append IsPlainJob (run_jobs sc.steps r) (record { task = tasks.Deregister; list = [] } ∷ []) (run_plain r) (tt, tt)
    from_plain r (suc more) =
        each_append IsPlainJob (run_jobs sc.steps r) (between_jobs (script_of sc s d) r ++ jobs_from sc.steps (script_of sc s d) (r + 1) more) (run_plain r)
        (tt, (adjusts_plain (range_with_len 1 (sc.runs - 1)) (r - 1), from_plain (r + 1) more))

    pub jobs_plain : AllJobs (jobs sc.steps sc.runs (script_of sc s d))
    jobs_plain = (tt, (setup_plain, from_plain 1 (sc.runs - 1)))

pub all_at : {A : Type 0} → (P : A → Type 0) (xs : List A) (i : ℕ) (x : A) → AllByRecursion P xs → slice_get xs i ≡ Some x → P x
all_at P [] i x a e = absurd cc
all_at P (y ∷ ys) zero x a e = let z : y ≡ x = cc in subst P z a.0
all_at P (y ∷ ys) (suc i) x a e = all_at P ys i x a.1 e

pub first_plain : (job : Job) (r : Request) → ArePlain job.list → first_of (asked_by job) ≡ Ask r → IsPlainRequest r
first_plain job r a e = by job.task e
  where
    one : (q : Request) → IsPlainRequest q → first_of (q ∷ []) ≡ Ask r → IsPlainRequest r
    one q p z = let y : q ≡ r = cc in subst IsPlainRequest y p

    many : (list : List Cfg) → ArePlain list → first_of (map Configure list) ≡ Ask r → IsPlainRequest r
    many [] p z = absurd cc
    many (body ∷ list) p z = let y : Configure body ≡ r = cc in subst IsPlainRequest y p.0

    by : (task : Task) → first_of (requests_of task job.list) ≡ Ask r → IsPlainRequest r
    by (tasks.Register uuid) z = one (Change _ (stc.Register uuid 2 1 0)) tt z
    by tasks.Setup z = many job.list a z
    by tasks.Prepare z = one (Change _ stc.Prepare) tt z
    by tasks.Configure z = one (Change _ stc.Configure) tt z
    by tasks.Initialize z = one (Change _ stc.Initialize) tt z
    by (tasks.FirstOutputs row) z = one (Change _ stc.SendOutputs) tt z
    by tasks.Run z = one (Change _ (stc.Run _)) tt z
    by (tasks.Step k) z = one (Change _ (stc.DoStep 1)) tt z
    by (tasks.Outputs k row) z = one (Change _ stc.SendOutputs) tt z
    by tasks.Stop z = one (Change _ stc.Stop) tt z
    by tasks.Reset z = one (Change _ stc.Reset) tt z
    by tasks.Adjust z = many job.list a z
    by tasks.Deregister z = one (Change _ stc.Deregister) tt z
