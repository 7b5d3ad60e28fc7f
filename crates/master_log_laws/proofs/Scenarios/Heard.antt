-- A sound scenario gives a setup that is heard.
use Rattle.std.proofs.Common.{◌≡◌, ℕ, zero, suc, ◌+◌, ◌-◌, ◌<◌, ◌≤◌, ◌⊎◌, inl, inr, true, Some, List, [], ◌∷◌, ◌++◌, refl, sym, ap, ◌∙◌, subst, arith}
use Rattle.std.specs.Prelude.{◌==◌, slice_get, slice_index_or}
use Rattle.std.specs.List.{AllByRecursion, flat_map, range_with_len}
use Rattle.std.proofs.lemmas.Bool.{and_parts, eqb-true, cases_lt}
use Rattle.std.proofs.lemmas.Option.{slice_get_within, get_or_from_slice_get}
use Rattle.dcp_types.specs.declared.addresses.Address.{Address}
use Rattle.dcp_ends.specs.Logs.{same_address}
use Rattle.slave_desc.specs.declared.descriptions.SlaveDesc.{SlaveDesc}
use Rattle.scenario.specs.Sound.{IsScenario}
use Rattle.scenario.specs.declared.scenarios.Scenario.{Scenario}
use Rattle.dcp_types.specs.Values.{digits}
use Rattle.pdu_layout.specs.declared.fields.FieldKind.TheVariants.{U8, U16}
use Rattle.pdu_layout.specs.Message.{message_of}
use Rattle.pdu_layout.specs.Reading.{spelling}
use Rattle.pdu_codec.proofs.Told.{read_as_spelled, has_spelling}
use Rattle.master_spec.specs.declared.requests.Request.{Request}
use Rattle.master_spec.specs.declared.requests.Request.TheVariants.{Configure, AskState, AskError}
use Rattle.master_spec.specs.declared.reactions.Reaction.TheVariants.{Ask}
use Rattle.master_spec.specs.declared.setups.Slave.{Slave}
use Rattle.master_spec.specs.declared.tasks.Task.TheVariants as tasks
use Rattle.master_spec.specs.Jobs.{Job, asked_by, step_jobs, run_jobs, between_jobs, jobs_from, jobs}
use Rattle.master_spec.specs.News.{pdu_of, request_bytes}
use Rattle.master_spec.specs.Conversation.{first_of}
use Rattle.master_spec.specs.Setup.{slaves_from}
use Rattle.master_spec.specs.Askable.{IsAskable, IsJobAskable, IsScriptAskable}
use Rattle.master_spec.proofs.Spelled.{register, prepare, configure, initialize, first_outputs, run_asked, step, outputs, stop, reset, deregister, all_asked, list_at}
use Rattle.master_spec.proofs.Planned.{all_askable}
use Rattle.master_log_laws.specs.Index.Index.{ReadBack, IsGoodJob}
use Rattle.master_log_laws.specs.Scenarios.Laws.{SetupsAreHeard}

-- ---- what can be asked reads back
pub back : (id : ℕ) (r : Request) → id < 256 → IsAskable r → ReadBack id r
unfolding request_bytes
back id r h a number n = let m = message_of (pdu_of number id r) in (read_as_spelled m (spelling m)).1 (has_spelling m (a number id n h))

ask_state : IsAskable AskState
unfolding digits
ask_state number id hn hi = (_, record { kinds = U16 ∷ U8 ∷ []; listed = refl; fits = (hn, (hi, tt)); bytes = refl; at_most = omega arith })

ask_error : IsAskable AskError
unfolding digits
ask_error number id hn hi = (_, record { kinds = U16 ∷ U8 ∷ []; listed = refl; fits = (hn, (hi, tt)); bytes = refl; at_most = omega arith })

-- ---- all jobs of a slave
abbrev AllAsked : List Job → Type 0
AllAsked js = AllByRecursion (λ job. IsJobAskable job) js

asked_append : (xs ys : List Job) → AllAsked xs → AllAsked ys → AllAsked (xs ++ ys)
asked_append [] ys a b = b
asked_append (x ∷ xs) ys a b = (a.0, asked_append xs ys a.1 b)

module _ (steps : ℕ) (slave : Slave) (h : IsScriptAskable slave) where
  adjusted : (r : ℕ) → IsJobAskable (record { task = tasks.Adjust; list = slice_index_or slave.script.adjusts (r - 1) [] })
  adjusted r = let l = list_at slave.script.adjusts (r - 1) h.adjusts in record { requests = all_asked (slice_index_or slave.script.adjusts (r - 1) []) l; list = l }

  asked_steps : (r a n : ℕ) → AllAsked (flat_map (step_jobs steps r) (range_with_len a n))
  asked_steps r a zero = tt
  asked_steps r a (suc n) = (record { requests = (step, tt); list = tt }, (record { requests = (outputs, tt); list = tt }, asked_steps r (a + 1) n))

  asked_run : (r : ℕ) → AllAsked (run_jobs steps r)
  asked_run r = (
    record { requests = (prepare, tt); list = tt },
    (
      record { requests = (configure, tt); list = tt },
      (
        record { requests = (initialize, tt); list = tt },
        (
          record { requests = (first_outputs, tt); list = tt },
          (
            record { requests = (run_asked, tt); list = tt },
            asked_append (flat_map (step_jobs steps r) (range_with_len 1 steps)) (record { task = tasks.Stop; list = [] } ∷ []) (asked_steps r 1 steps) (record { requests = (stop, tt); list = tt }, tt),
          ),
        ),
      ),
    ),
  )

  asked_from : (r more : ℕ) → AllAsked (jobs_from steps slave.script r more)
  asked_from r zero = asked_append (run_jobs steps r) (record { task = tasks.Deregister; list = [] } ∷ []) (asked_run r) (record { requests = (deregister, tt); list = tt }, tt)
  asked_from r (suc more) =
      asked_append (run_jobs steps r) (between_jobs slave.script r ++ jobs_from steps slave.script (r + 1) more) (asked_run r)
      (record { requests = (reset, tt); list = tt }, (adjusted r, asked_from (r + 1) more))

  pub asked_jobs : (runs : ℕ) → AllAsked (jobs steps runs slave.script)
  asked_jobs runs = (record { requests = (register slave.script.uuid h.uuid, tt); list = tt }, (record { requests = all_asked slave.script.setup h.setup; list = h.setup }, asked_from 1 (runs - 1)))

all_at : {A : Type 0} → (P : A → Type 0) (xs : List A) (i : ℕ) (x : A) → AllByRecursion (λ y. P y) xs → slice_get xs i ≡ Some x → P x
all_at P [] i x a e = absurd cc
all_at P (y ∷ ys) zero x a e = let z : y ≡ x = cc in subst P z a.0
all_at P (y ∷ ys) (suc i) x a e = all_at P ys i x a.1 e

good_job : (id : ℕ) (job : Job) → id < 256 → IsJobAskable job → IsGoodJob (ReadBack id) job
good_job id job h a = ((λ r e. first (asked_by job) r a.requests e), (λ i body e. back id (Configure body) h (all_at (λ b. IsAskable (Configure b)) job.list i body a.list e)))
  where
    first : (rs : List Request) (r : Request) → AllByRecursion (λ request. IsAskable request) rs → first_of rs ≡ Ask r → ReadBack id r
    first [] r a e = absurd cc
    first (q ∷ rs) r a e = let z : q ≡ r = cc in back id r h (subst IsAskable z a.0)

-- ---- the slaves of a scenario
slave_at_place : (sc : Scenario) (s : ℕ) (ds : List SlaveDesc) (i : ℕ) (slave : Slave) → slice_get (slaves_from sc s ds) i ≡ Some slave → (slave.id ≡ s + i) × ((d : SlaveDesc) × ((slice_get ds i ≡ Some d) × (d.address ≡ slave.address)))
slave_at_place sc s [] i slave e = absurd cc
slave_at_place sc s (d ∷ ds) zero slave e =
    let a : s ≡ slave.id = cc in
    let b : d.address ≡ slave.address = cc in
    (sym a ∙ omega arith, (d, (refl, b)))
slave_at_place sc s (d ∷ ds) (suc i) slave e = let k = slave_at_place sc (s + 1) ds i slave e in let z = k.0 in (omega (arith, z), k.1)

same_is : (a b : Address) → same_address a b ≡ true → a ≡ b
same_is a b h =
    let p = and_parts (a.ip == b.ip) (a.port == b.port) h in
    let x : a.ip ≡ b.ip = eqb-true a.ip b.ip p.0 in
    let y : a.port ≡ b.port = eqb-true a.port b.port p.1 in
    ap (λ (i : ℕ). record { ip = i; port = a.port }) x ∙ ap (λ (i : ℕ). record { ip = b.ip; port = i }) y

apart : (sc : Scenario) → IsScenario sc → (i j : ℕ) (s t : Slave) → slice_get (slaves_from sc 1 sc.slaves) i ≡ Some s → slice_get (slaves_from sc 1 sc.slaves) j ≡ Some t → same_address s.address t.address ≡ true → i ≡ j
apart sc h i j s t e f g = by (cases_lt i j) (cases_lt j i)
  where
    a : (s.id ≡ 1 + i) × ((d : SlaveDesc) × ((slice_get sc.slaves i ≡ Some d) × (d.address ≡ s.address)))
    a = slave_at_place sc 1 sc.slaves i s e

    b : (t.id ≡ 1 + j) × ((d : SlaveDesc) × ((slice_get sc.slaves j ≡ Some d) × (d.address ≡ t.address)))
    b = slave_at_place sc 1 sc.slaves j t f

    x : SlaveDesc
    x = (a.1).0

    y : SlaveDesc
    y = (b.1).0

    same : x.address ≡ y.address
    same = ((a.1).1).1 ∙ same_is s.address t.address g ∙ sym ((b.1).1).1

    off : i < j → ⊥
    off l =
        let p = get_or_from_slice_get sc.slaves i x x ((a.1).1).0 in
        let q = get_or_from_slice_get sc.slaves j y x ((b.1).1).0 in
        h.addresses_apart i j x l (slice_get_within sc.slaves j y ((b.1).1).0) (ap (λ (z : SlaveDesc). z.address) p ∙ same ∙ sym (ap (λ (z : SlaveDesc). z.address) q))

    off' : j < i → ⊥
    off' l =
        let p = get_or_from_slice_get sc.slaves i x x ((a.1).1).0 in
        let q = get_or_from_slice_get sc.slaves j y x ((b.1).1).0 in
        h.addresses_apart j i x l (slice_get_within sc.slaves i x ((a.1).1).0) (ap (λ (z : SlaveDesc). z.address) q ∙ sym same ∙ sym (ap (λ (z : SlaveDesc). z.address) p))

    by : (i < j) ⊎ (j ≤ i) → (j < i) ⊎ (i ≤ j) → i ≡ j
    by (inl l) m = absurd (off l)
    by (inr l) (inl m) = absurd (off' m)
    by (inr l) (inr m) = omega (arith, l, m)

pub setups_heard : SetupsAreHeard
setups_heard sc h =
    let askable : AllByRecursion (λ slave. IsScriptAskable slave) (slaves_from sc 1 sc.slaves) = all_askable sc h in
    record {
      limits = h.limits;
      numbered = λ i s e. (let z = (slave_at_place sc 1 sc.slaves i s e).0 in omega (arith, z));
      heard = record {
        runs = h.runs.0;
        apart = λ i j s t e f g. apart sc h i j s t e f g;
        state = λ i s e. back s.id AskState (all_at IsScriptAskable (slaves_from sc 1 sc.slaves) i s askable e).id ask_state;
        error = λ i s e. back s.id AskError (all_at IsScriptAskable (slaves_from sc 1 sc.slaves) i s askable e).id ask_error;
        jobs = λ i s e k job f. (let a = all_at IsScriptAskable (slaves_from sc 1 sc.slaves) i s askable e in good_job s.id job a.id (all_at IsJobAskable (jobs sc.steps sc.runs s.script) k job (asked_jobs sc.steps s a sc.runs) f));
      };
    }
