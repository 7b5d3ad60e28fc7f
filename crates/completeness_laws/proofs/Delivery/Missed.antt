-- Where a step was refused because inputs were missing, a data message that the slave waited for was sent and had not come.
use Rattle.std.proofs.Common.{◌≡◌, ℕ, ◌+◌, ◌*◌, ◌/◌, ◌%◌, ◌<◌, ◌≤◌, Bool, true, false, if◌then◌else◌, ◌⊎◌, inl, inr, Some, List, [], ◌∷◌, ◌++◌, length, refl, sym, ap, ◌∙◌, subst, arith}
use Rattle.std.specs.Prelude.{◌==◌, ◌&&◌, not, sum_by}
use Rattle.std.proofs.lemmas.Bool.{eq-eqb, cases_lt}
use Rattle.std.proofs.lemmas.Bool.Decides.{nat_tests}
use Rattle.std.proofs.lemmas.List.{append_assoc}
use Rattle.std.proofs.lemmas.Nat.{mod-mul-add, div-mul-add}
use Rattle.dcp_types.specs.Values.{width}
use Rattle.dcp_types.specs.declared.states.State.{State}
use Rattle.dcp_types.specs.declared.states.State.TheVariants.{Running}
use Rattle.dcp_ends.specs.declared.entries.LogEntry.{LogEntry}
use Rattle.dcp_ends.specs.declared.entries.LogEntry.TheVariants.{Sent, Got}
use Rattle.pdu_layout.specs.Message.{Message}
use Rattle.slave_desc.specs.declared.descriptions.SlaveDesc.{SlaveDesc}
use Rattle.scenario.specs.declared.scenarios.Scenario.{Scenario}
use Rattle.scenario.specs.Sound.{IsScenario}
use Rattle.master_spec.specs.declared.links.DataLink.{DataLink}
use Rattle.master_spec.specs.PlanSetup.{source_address, address_at}
use Rattle.plan_laws.specs.Taking.{IsScenarioSlave}
use Rattle.log_spec.specs.Log.{Parties, IsSlaveOf, values_sent}
use Rattle.log_spec.proofs.Moves.{same_self}
use Rattle.lockstep_laws.specs.Asked.{AskedAsPlanned}
use Rattle.lockstep_laws.specs.Steps.{place_after, shown_after}
use Rattle.lockstep_laws.specs.Cast.{ConversingSlaves}
use Rattle.lockstep_laws.specs.Runs.{Behaves}
use Rattle.lockstep_laws.proofs.Conversation.{earlier, drop_later}
use Rattle.lockstep_laws.proofs.Places.{fits, events_together}
use Rattle.lockstep_laws.proofs.Asking.{asked_in_order}
use Rattle.lockstep_laws.specs.Models.Ordinals.{ordinals_in_run, ordinals_below, ordinal_at}
use Rattle.lockstep_laws.specs.Models.Machines.{Machines, carried, values_owed}
use Rattle.lockstep_laws.specs.Models.Scenarios.{slave_numbered}
use Rattle.lockstep_laws.proofs.Models.EachQth.{ordinal_is, sent, count_next}
use Rattle.lockstep_laws.proofs.Models.Values.{sends_values}
use Rattle.slave_spec.specs.Changes.{input, has_id, entry_interval, steps_in_run, ordinal, source}
use Rattle.slave_spec.specs.Payloads.{Kept, kept_under, is_kept_of, is_here, is_address, input_types, is_wanted, brought, payload}
use Rattle.slave_spec.specs.declared.words.SlaveSetup.{SlaveSetup}
use Rattle.slave_spec.specs.declared.words.Session.{Session}
use Rattle.slave_spec.specs.declared.words.Session.TheVariants.{Before, During, After}
use Rattle.slave_spec.specs.Heard as spec
use Rattle.slave_spec.specs.Transport as transport
use Rattle.slave_spec.specs.Transport.{SlaveState}
use Rattle.slave_spec.specs.Plants.{Plant}
use Rattle.slave_spec.specs.Turns.{is_listening, brings}
use Rattle.slave_spec.specs.Slaves.{machine, has_ended}
use Rattle.slave_laws.specs.Talk.Desks.{got, at}
use Rattle.slave_laws.specs.Model.Models.{plant_at}
use Rattle.slave_laws.specs.Model.Tuned.{served_at}
use Rattle.slave_laws.specs.Wiring.Wired.{planned_changes, changes_restarted, is_past}
use Rattle.slave_laws.specs.Wiring.Ordinals.{IsCountedOn}
use Rattle.slave_laws.proofs.Wiring.Counting.{inputs_go_on}
use Rattle.slave_laws.proofs.Wiring.Courses.{is_planned}
use Rattle.slave_laws.specs.Wiring.Links.{interval_of, link_interval, data_link_of, from_of}
use Rattle.slave_laws.proofs.Wiring.Planned.{input_intervals}
use Rattle.slave_laws.specs.Data.Made.{machines}
use Rattle.slave_laws.proofs.Data.Held.{of_scenario, reads}
use Rattle.plan_laws.specs.Course.Taken.{told_since}
use Rattle.plan_laws.specs.Course.Courses.{may}
use Rattle.slave_laws.specs.Data.Whole.{slaves_asked}
use Rattle.slave_laws.proofs.Data.Stepping.{asked_may}
use Rattle.slave_laws.proofs.Data.Feeding.{some_interval}
use Rattle.slave_laws.proofs.Wiring.Rows.{slaves_are}
use Rattle.run_laws.specs.Laws.{parties, slave_setup_of}
use Rattle.run_laws.proofs.Headline.Behaving.{are_slaves}
use Rattle.completeness_laws.specs.Unheard.{NeverComes}
use Rattle.completeness_laws.proofs.Causes.Goings.{open_during}
use Rattle.completeness_laws.proofs.Delivery.Fronts.{values_grow}
use Rattle.completeness_laws.proofs.Delivery.Heeding.{is_on, on_at, begun_at}
use Rattle.completeness_laws.proofs.Delivery.Holding.{is_late, ToldFrom, told_grows, LateFrom, late_grows, Keeps, Waits, keeps_grows}
use Rattle.completeness_laws.proofs.Delivery.Lacked.{AtStep}
use Rattle.completeness_laws.proofs.Delivery.Opening.{told_from}
use Rattle.completeness_laws.proofs.Delivery.Ordinals.{same_run, in_run, ordinal_rises, below_rises}
use Rattle.completeness_laws.proofs.Delivery.Outputs.{sent_few}
use Rattle.completeness_laws.proofs.Delivery.Refusing.{Lacking, lacking}
use Rattle.completeness_laws.proofs.Delivery.Rising.{events_grow}
use Rattle.completeness_laws.proofs.Delivery.Values.{Says, says, SentValue, sent_value, OwnSending, own_sending}
use Rattle.completeness_laws.proofs.Delivery.Wires.{IsWiredTo, wired_to, wanted_length, from_source}

clash : true ≡ false → ⊥
clash z = cc

not_late : (t : State) → is_on t ≡ true → (is_late t ≡ true → ⊥) → (is_listening t ≡ true) × (is_past t ≡ true)
not_late t on f = by (is_late t) refl
  where
    by : (b : Bool) → is_late t ≡ b → (is_listening t ≡ true) × (is_past t ≡ true)
    by true e = absurd (f e)
    by false e = (grind (arith, nat_tests, on, e), grind (arith, nat_tests, on, e))

zero_mod : (q : ℕ) → 0 < q → 0 % q ≡ 0
zero_mod q some = let e : 0 ≡ 0 * q + 0 = omega arith in ap (λ k. k % q) e ∙ mod-mul-add 0 q 0 some

zero_div : (q : ℕ) → 0 < q → 0 / q ≡ 0
zero_div q some = let e : 0 ≡ 0 * q + 0 = omega arith in ap (λ k. k / q) e ∙ div-mul-add 0 q 0 some

near : (m n : ℕ) → m ≤ n + 1 → (m + 1) / 2 ≤ n / 2 + 1
near m n h = omega (arith, h)

halves : (m n : ℕ) → m ≤ n → m / 2 ≤ n / 2
halves m n h = omega (arith, h)

half_first : (m w : ℕ) → m ≤ 2 * w → (m + 1) / 2 ≤ w
half_first m w h = omega (arith, h)

all_five : (a b c d e : Bool) → a ≡ true → b ≡ true → c ≡ true → d ≡ true → e ≡ false → (a && b && c && d && not e) ≡ true
all_five a b c d e f g h i j = grind (arith, f, g, h, i, j)

-- the ordinal of an id after so many row events
abbrev pub j_of : Scenario → (id done : ℕ) → ℕ
j_of sc id done = ordinal_at sc.steps (interval_of sc id) (place_after done)

module _ (sc : Scenario) (other : SlaveDesc) (ok : IsScenario sc) (s : ℕ) (it : IsSlaveOf (parties sc other) s) where
  abbrev W : Parties
  W = parties sc other

  abbrev X : ConversingSlaves
  X = slaves_asked sc other

  abbrev Ms : Machines
  Ms = machines sc other

  abbrev S : SlaveSetup
  S = slave_setup_of sc other s

  abbrev p : List LogEntry → Plant
  p log = plant_at S W s log

  of : IsScenarioSlave sc s (slave_numbered sc other s)
  of = of_scenario sc other ok s it

  abbrev runs_at : List LogEntry → ℕ
  runs_at log = length (p log).earlier

  order : (log : List LogEntry) → Behaves W X log → AskedAsPlanned (may sc s (slave_numbered sc other s)) (served_at S W s log)
  order log b = asked_may sc s (slave_numbered sc other s) (served_at S W s log) (asked_in_order W X (are_slaves sc other ok) s it log b)

  -- what is known of an id where the slave is past its configuration
  module _ (log : List LogEntry) (b : Behaves W X log) (open' : transport.is_open (at (machine S) W s log).slave.session ≡ true) (past : is_past (p log).state ≡ true) (id : ℕ) where
    counted : IsCountedOn sc.steps input (planned_changes sc s (slave_numbered sc other s)) (p log).wires.changes (X.bench s log) id
    counted = inputs_go_on sc s S W of (reads sc other) log (order log b) (open_during (at (machine S) W s log).slave.session open') past id

    wiring : (p log).wires.changes ≡ changes_restarted sc.steps (planned_changes sc s (slave_numbered sc other s)) (runs_at log)
    wiring = is_planned sc s S W of (reads sc other) log (order log b) (open_during (at (machine S) W s log).slave.session open') past

    module _ (known : has_id input id (planned_changes sc s (slave_numbered sc other s)) ≡ true) where
      every : entry_interval input id (planned_changes sc s (slave_numbered sc other s)) ≡ interval_of sc id
      every = input_intervals sc s (slave_numbered sc other s) of id known

      in_run_is : steps_in_run input id (p log).wires.changes (p log).steps ≡ (p log).steps / interval_of sc id
      in_run_is = ap (λ (i : ℕ). (p log).steps / i) (counted.spaced ∙ every)

      number_is : ordinal input id (p log).wires.changes (p log).steps ≡ runs_at log * (sc.steps / interval_of sc id + 1) + (p log).steps / interval_of sc id
      number_is = counted.numbered known ∙ ap (λ (i : ℕ). runs_at log * (sc.steps / i + 1) + (p log).steps / i) every

  -- ---- the place, as an ordinal
  module _ (id : ℕ) where
    abbrev q : ℕ
    q = interval_of sc id

    some : 0 < q
    some = some_interval sc ok id

    abbrev N : ℕ
    N = ordinals_in_run sc.steps q

    most_at : (log : List LogEntry) → Behaves W X log → (p log).steps ≤ sc.steps
    most_at log b = (fits W X (are_slaves sc other ok) log b s it).placed.most

    place_at : (log : List LogEntry) → Behaves W X log → place_after (X.bench s log).events ≡ runs_at log * (sc.steps + 1) + (p log).steps
    place_at log b = (fits W X (are_slaves sc other ok) log b s it).placed.is

    ordinal_here : (log : List LogEntry) → Behaves W X log → ordinal_at sc.steps q (place_after (X.bench s log).events) ≡ runs_at log * N + (p log).steps / q
    ordinal_here log b = ap (ordinal_at sc.steps q) (place_at log b) ∙ ordinal_is sc.steps q (runs_at log) (p log).steps some (most_at log b)

  module _ (there : List LogEntry) (done : ℕ) (a : AtStep sc other s there done) where
    running : (p there).state ≡ Running
    running = (a.lacks).running

    pub lack : Lacking input (is_here (p there).wires (p there).steps) (p there).wires.changes
    lack = lacking input (is_here (p there).wires (p there).steps) (p there).wires.changes (a.lacks).lacks

    past_there : is_past (p there).state ≡ true
    past_there = ap is_past running

    pub known : has_id input lack.id (planned_changes sc s (slave_numbered sc other s)) ≡ true
    known = sym (counted there a.behaves a.opened past_there lack.id).known ∙ lack.known

    pub wired : IsWiredTo sc s (slave_numbered sc other s) lack.id
    wired = wired_to sc ok s (slave_numbered sc other s) of lack.id known

    pub sender : IsSlaveOf W (Ms.from lack.id)
    sender = (slaves_are sc other ok).feeds s lack.id known

    abbrev t : ℕ
    t = Ms.from lack.id

    abbrev pub j : ℕ
    j = j_of sc lack.id done

    j_is : j ≡ runs_at there * N lack.id + (p there).steps / q lack.id
    j_is = ap (λ (n : ℕ). ordinal_at sc.steps (q lack.id) (place_after n)) (sym a.events) ∙ ordinal_here lack.id there a.behaves

    pub sending : SentValue sc other ok there lack.id j
    sending = sent_value sc other ok there lack.id j (let z = a.sent lack.id sender in omega (arith, z))

    abbrev bytes : List ℕ
    bytes = sending.bytes

    abbrev sent' : LogEntry
    sent' = Sent sending.from sending.to sending.bytes

    behaves_sent : Behaves W X (sent' ∷ sending.sofar)
    behaves_sent = let P : List LogEntry → Type 0 = λ z. Behaves W X z in drop_later W X (are_slaves sc other ok) sending.later (sent' ∷ sending.sofar) (subst P sending.split a.behaves)

    pub own : OwnSending sc other ok sending.from sending.to sending.bytes lack.id j sending.note sending.sofar
    own = own_sending sc other ok sending.sofar sending.from sending.to sending.bytes lack.id j sending.note behaves_sent sending.read sending.ordinal

    said : Says sending.bytes lack.id sending.note
    said = says sc other s sending.bytes lack.id sending.note sending.read

    address_of : (n : ℕ) → IsSlaveOf W n → address_at sc n ≡ W.slave n
    address_of n is = ap (source_address sc) (of_scenario sc other ok n is).slave

    found : data_link_of sc lack.id ≡ Some (wired.link)
    found = ap (data_link_of sc) (sym wired.id_is) ∙ wired.found

    pub to_is : sending.to ≡ W.slave s
    to_is =
        let same : (own.goes).link ≡ wired.link = let y : Some (own.goes).link ≡ Some wired.link = sym (own.goes).found ∙ found in cc in
        (own.goes).there ∙ ap (λ (l : DataLink). address_at sc l.to) same ∙ ap (address_at sc) wired.to ∙ address_of s it

    pub from_link : (wired.link).from ≡ t
    from_link = sym (ap from_of found)

    -- what the plan says of it
    pub every_is : interval_of sc lack.id ≡ (wired.link).every
    every_is = ap link_interval found

    pub from_slave : sending.from ≡ W.slave (wired.link).from
    from_slave = own.from_is ∙ ap W.slave (sym own.owns) ∙ ap W.slave (sym from_link)

    from_is : sending.from ≡ address_at sc (wired.link).from
    from_is = own.from_is ∙ ap W.slave (sym own.owns) ∙ sym (address_of t sender) ∙ ap (address_at sc) (sym from_link)

    pub news : Says sending.bytes lack.id sending.note
    news = said

    -- ---- had it come
    module _ (after before : List LogEntry) (is : sending.later ≡ after ++ Got (W.slave s) sending.from sending.bytes ∷ before) where
      abbrev G : List LogEntry
      G = before ++ sent' ∷ sending.sofar

      abbrev came : LogEntry
      came = Got (W.slave s) sending.from sending.bytes

      whole : there ≡ after ++ came ∷ G
      whole = sending.split ∙ ap (λ (z : List LogEntry). z ++ sent' ∷ sending.sofar) is ∙ append_assoc after (came ∷ before) (sent' ∷ sending.sofar)

      behaves_came : Behaves W X (came ∷ G)
      behaves_came = let P : List LogEntry → Type 0 = λ z. Behaves W X z in drop_later W X (are_slaves sc other ok) after (came ∷ G) (subst P whole a.behaves)

      behaves_G : Behaves W X G
      behaves_G = earlier W X (are_slaves sc other ok) came G behaves_came

      -- what its sender had shown by then
      many : j + 1 ≤ ordinals_below sc.steps (q lack.id) (shown_after (X.bench t G).events)
      many =
          let v = sends_values W X (are_slaves sc other ok) Ms (slaves_are sc other ok) lack.id sender G behaves_G in
          let few = sent_few (values_owed W lack.id (X.desk t G).owed) (values_sent W lack.id G) (ordinals_below sc.steps (q lack.id) (shown_after (X.bench t G).events)) v.owes in
          let grow = values_grow W lack.id before (sent' ∷ sending.sofar) in
          let o = sending.ordinal in
          omega (arith, few, grow, o)

      least_G : j ≤ ordinal_at sc.steps (q lack.id) (place_after (X.bench s G).events)
      least_G =
          let e = events_together W X (are_slaves sc other ok) G behaves_G t s sender it in
          let h = near (X.bench t G).events (X.bench s G).events e in
          let r = below_rises sc.steps (q lack.id) (shown_after (X.bench t G).events) (place_after (X.bench s G).events + 1) (some lack.id) h in
          let n = count_next sc.steps (q lack.id) (place_after (X.bench s G).events) in
          let m = many in
          omega (arith, r, n, m)

      -- at each moment from then to the request
      record Between (log : List LogEntry) : Type 0 where
        pub front : List LogEntry
        pub back : List LogEntry
        pub is_there : there ≡ front ++ log
        pub is_here' : log ≡ back ++ G

      behaves_at : (log : List LogEntry) → Between log → Behaves W X log
      behaves_at log b = let P : List LogEntry → Type 0 = λ z. Behaves W X z in drop_later W X (are_slaves sc other ok) b.front log (subst P b.is_there a.behaves)

      ordinal_same : (log : List LogEntry) (b : Between log) → runs_at log * N lack.id + (p log).steps / q lack.id ≡ j
      ordinal_same log b =
          let bl = behaves_at log b in
          let here = ordinal_here lack.id log bl in
          let up = ordinal_rises sc.steps (q lack.id) (place_after (X.bench s log).events) (place_after (X.bench s there).events) (some lack.id)
          (halves (X.bench s log).events (X.bench s there).events (let g = events_grow sc other ok s it b.front log (let P : List LogEntry → Type 0 = λ z. Behaves W X z in subst P b.is_there a.behaves) in let z = ap (λ (l : List LogEntry). (X.bench s l).events) b.is_there in omega (arith, g, z))) in
          let low = ordinal_rises sc.steps (q lack.id) (place_after (X.bench s G).events) (place_after (X.bench s log).events) (some lack.id)
          (halves (X.bench s G).events (X.bench s log).events (let g = events_grow sc other ok s it b.back G (let P : List LogEntry → Type 0 = λ z. Behaves W X z in subst P b.is_here' bl) in let z = ap (λ (l : List LogEntry). (X.bench s l).events) b.is_here' in omega (arith, g, z))) in
          let end = ap (λ (n : ℕ). ordinal_at sc.steps (q lack.id) (place_after n)) a.events in
          let least = least_G in
          omega (arith, here, up, low, end, least)

      same_place : (log : List LogEntry) (b : Between log) → (runs_at log ≡ runs_at there) × ((p log).steps / q lack.id ≡ (p there).steps / q lack.id)
      same_place log b =
          same_run (N lack.id) (runs_at log) (runs_at there) ((p log).steps / q lack.id) ((p there).steps / q lack.id) (in_run sc.steps (q lack.id) (p log).steps (some lack.id) (most_at lack.id log (behaves_at log b)))
          (in_run sc.steps (q lack.id) (p there).steps (some lack.id) (most_at lack.id there a.behaves)) (ordinal_same log b ∙ j_is)

      at_G : Between G
      at_G = record { front = after ++ came ∷ []; back = []; is_there = whole ∙ sym (append_assoc after (came ∷ []) G); is_here' = refl }

      abbrev R : ℕ
      R = runs_at there

      -- the sender has begun the run
      begun : 2 * (R * (sc.steps + 1)) + 1 ≤ (X.bench t G).events
      begun = by (cases_lt (2 * (R * (sc.steps + 1))) (X.bench t G).events)
        where
          by : (2 * (R * (sc.steps + 1)) < (X.bench t G).events) ⊎ ((X.bench t G).events ≤ 2 * (R * (sc.steps + 1))) → 2 * (R * (sc.steps + 1)) + 1 ≤ (X.bench t G).events
          by (inl h) = omega (arith, h)
          by (inr h) =
              let few = half_first (X.bench t G).events (R * (sc.steps + 1)) h in
              let z : R * (sc.steps + 1) ≡ R * (sc.steps + 1) + 0 = omega arith in
              let r = below_rises sc.steps (q lack.id) (shown_after (X.bench t G).events) (R * (sc.steps + 1)) (some lack.id) few in
              let n = ap (ordinals_below sc.steps (q lack.id)) z ∙ sent sc.steps (q lack.id) R 0 (some lack.id) (omega arith) (zero_mod (q lack.id) (some lack.id)) in
              let d = zero_div (q lack.id) (some lack.id) in
              let m = many in
              let i = j_is in
              absurd (omega (arith, r, n, d, m, i))

      told_G : ToldFrom S W s (reads sc other) R G
      told_G = told_from sc other ok s it t sender R G behaves_G begun

      told : (log : List LogEntry) → Between log → told_since (served_at S W s log) ≡ true
      told log b = by ((let P : List LogEntry → Type 0 = λ z. ToldFrom S W s (reads sc other) R z in subst P (sym b.is_here') (told_grows S W s (reads sc other) R b.back G told_G)).told)
        where
          by : (told_since (served_at S W s log) ≡ true) ⊎ (R + 1 ≤ runs_at log) → told_since (served_at S W s log) ≡ true
          by (inl h) = h
          by (inr h) = let z = (same_place log b).0 in absurd (omega (arith, h, z))

      never_late : (log : List LogEntry) → Between log → (has_ended (at (machine S) W s log).slave.session ≡ true) ⊎ (is_late (p log).state ≡ true) → ⊥
      never_late log b h =
          let P : List LogEntry → Type 0 = λ z. LateFrom S W s (reads sc other) R z in
          by ((subst P (sym b.is_there) (late_grows S W s (reads sc other) R b.front log (record { least = (let z = (same_place log b).0 in omega (arith, z)); late = start h }))).late)
        where
          start : (has_ended (at (machine S) W s log).slave.session ≡ true) ⊎ (is_late (p log).state ≡ true) → (has_ended (at (machine S) W s log).slave.session ≡ true) ⊎ ((is_late (p log).state ≡ true) ⊎ (R + 1 ≤ runs_at log))
          start (inl x) = inl x
          start (inr x) = inr (inl x)

          ended : (session : Session) → has_ended session ≡ true → transport.is_open session ≡ true → ⊥
          ended Before x y = clash (sym y)
          ended (During master i) x y = clash (sym x)
          ended (After master i) x y = clash (sym y)

          by : (has_ended (at (machine S) W s there).slave.session ≡ true) ⊎ ((is_late (p there).state ≡ true) ⊎ (R + 1 ≤ runs_at there)) → ⊥
          by (inl x) = ended (at (machine S) W s there).slave.session x a.opened
          by (inr (inl x)) = clash (sym x ∙ ap is_late running)
          by (inr (inr x)) = omega (arith, x)

      open_at : (log : List LogEntry) → Between log → transport.is_open (at (machine S) W s log).slave.session ≡ true
      open_at log b = by (at (machine S) W s log).slave.session refl
        where
          by : (session : Session) → (at (machine S) W s log).slave.session ≡ session → transport.is_open session ≡ true
          by Before e = absurd (begun_at S W s (reads sc other) log (told log b) e)
          by (During master i) e = refl
          by (After master i) e = absurd (never_late log b (inl (ap has_ended e)))

      on : (log : List LogEntry) → Between log → is_on (p log).state ≡ true
      on log b = on_at S W s (reads sc other) log (open_at log b) (told log b)

      hears : (log : List LogEntry) → Between log → (is_listening (p log).state ≡ true) × (is_past (p log).state ≡ true)
      hears log b = not_late (p log).state (on log b) (λ z. never_late log b (inr z))

      abbrev o : ℕ
      o = (p there).steps / q lack.id

      wants : (log : List LogEntry) (b : Between log) → steps_in_run input lack.id (p log).wires.changes (p log).steps ≡ o
      wants log b = in_run_is log (behaves_at log b) (open_at log b) (hears log b).1 lack.id known ∙ (same_place log b).1

      -- ---- it was kept
      abbrev pG : Plant
      pG = p G

      source_there : is_address (source lack.id pG.wires.changes) sending.from ≡ true
      source_there = ap (is_address (source lack.id pG.wires.changes)) from_is ∙ from_source sc s (slave_numbered sc other s) of lack.id known wired (runs_at G) pG.wires.changes (wiring G behaves_G (open_at G at_G) (hears G at_G).1 lack.id)

      length_there : (length said.payload == sum_by width (input_types (slave_numbered sc other s) lack.id pG.wires.changes)) ≡ true
      length_there =
          let d = slave_numbered sc other t in
          let carries : said.payload ≡ payload d lack.id (planned_changes sc t d) own.values = sym (ap (λ (m : Message). carried (record { number = sending.note.number; message = m })) said.message_is) ∙ own.carries in
          ap (λ (l : List ℕ). length l == sum_by width (input_types (slave_numbered sc other s) lack.id pG.wires.changes)) carries
          ∙ wanted_length sc s (slave_numbered sc other s) of lack.id wired t d (of_scenario sc other ok t sender) from_link (runs_at G) pG.wires.changes own.values (wiring G behaves_G (open_at G at_G) (hears G at_G).1 lack.id)

      number_there : ((sending.note).number == ordinal input lack.id pG.wires.changes pG.steps % 65536) ≡ true
      number_there =
          eq-eqb (sending.note).number (ordinal input lack.id pG.wires.changes pG.steps % 65536)
          (own.number ∙ ap (λ (n : ℕ). n % 65536) (sym (number_is G behaves_G (open_at G at_G) (hears G at_G).1 lack.id known ∙ ordinal_same G at_G)))

      known_there : has_id input lack.id pG.wires.changes ≡ true
      known_there = (counted G behaves_G (open_at G at_G) (hears G at_G).1 lack.id).known ∙ known

      abbrev new : Kept
      new = record { id = lack.id; ordinal = steps_in_run input lack.id pG.wires.changes pG.steps; payload = said.payload }

      brought_keeps : is_kept_of o (kept_under lack.id (brings S sending.from (sending.note).number lack.id said.payload pG).wires.kept) ≡ true
      brought_keeps = by (is_listening pG.state) (hears G at_G).0
        where
          put : is_kept_of o (if lack.id == lack.id then Some new else kept_under lack.id pG.wires.kept) ≡ true
          put = ap (λ (c : Bool). is_kept_of o (if c then Some new else kept_under lack.id pG.wires.kept)) (eq-eqb lack.id lack.id refl) ∙ eq-eqb new.ordinal o (wants G at_G)

          already : (c : Bool) → is_here pG.wires pG.steps lack.id ≡ c → is_wanted (slave_numbered sc other s) pG.wires sending.from (sending.note).number lack.id said.payload pG.steps ≡ false → is_kept_of o (kept_under lack.id pG.wires.kept) ≡ true
          already true h n = ap (λ (i : ℕ). is_kept_of i (kept_under lack.id pG.wires.kept)) (sym (wants G at_G)) ∙ h
          already false h n =
              absurd (clash (sym (all_five (has_id input lack.id pG.wires.changes) (is_address (source lack.id pG.wires.changes) sending.from) (length said.payload == sum_by width (input_types (slave_numbered sc other s) lack.id pG.wires.changes)) ((sending.note).number == ordinal input lack.id pG.wires.changes pG.steps % 65536) (is_here pG.wires pG.steps lack.id)
              known_there source_there length_there number_there h) ∙ n))

          chosen : (c : Bool) → is_wanted (slave_numbered sc other s) pG.wires sending.from (sending.note).number lack.id said.payload pG.steps ≡ c → is_kept_of o (kept_under lack.id (if c then record pG.wires { kept = new ∷ pG.wires.kept } else pG.wires).kept) ≡ true
          chosen true h = put
          chosen false h = already (is_here pG.wires pG.steps lack.id) refl h

          by : (b : Bool) → b ≡ true → is_kept_of o (kept_under lack.id (if b then record pG { wires = brought (slave_numbered sc other s) pG.wires sending.from (sending.note).number lack.id said.payload pG.steps } else pG).wires.kept) ≡ true
          by true e = chosen (is_wanted (slave_numbered sc other s) pG.wires sending.from (sending.note).number lack.id said.payload pG.steps) refl
          by false e = absurd (clash (sym e))

      plant_came : p (came ∷ G) ≡ brings S sending.from (sending.note).number lack.id said.payload pG
      plant_came =
          ap (λ (b : Bool). (if b then got (machine S) W s sending.from sending.bytes (at (machine S) W s G) else at (machine S) W s G).slave.inner) (same_self (W.slave s))
          ∙ ap (λ (h : spec.Heard). (transport.after_heard (machine S) (at (machine S) W s G).slave sending.from h).inner) said.heard
          ∙ ap (λ (b : Bool). (if b then record (at (machine S) W s G).slave { inner = brings S sending.from (sending.note).number lack.id said.payload pG } else (at (machine S) W s G).slave).inner) (open_at G at_G)

      keeps_came : Keeps S W s (reads sc other) lack.id o (came ∷ G)
      keeps_came = ap (λ (z : Plant). is_kept_of o (kept_under lack.id z.wires.kept)) plant_came ∙ brought_keeps

      between : (x y : List LogEntry) (e : LogEntry) → after ≡ x ++ e ∷ y → Between (y ++ came ∷ G)
      between x y e h = record {
        front = x ++ e ∷ [];
        back = y ++ came ∷ [];
        is_there = whole ∙ ap (λ (z : List LogEntry). z ++ came ∷ G) h ∙ append_assoc x (e ∷ y) (came ∷ G) ∙ sym (append_assoc x (e ∷ []) (y ++ came ∷ G));
        is_here' = sym (append_assoc y (came ∷ []) G);
      }

      next_between : (x y : List LogEntry) (e : LogEntry) → after ≡ x ++ e ∷ y → Between (e ∷ (y ++ came ∷ G))
      next_between x y e h = record {
        front = x;
        back = e ∷ (y ++ came ∷ []);
        is_there = whole ∙ ap (λ (z : List LogEntry). z ++ came ∷ G) h ∙ append_assoc x (e ∷ y) (came ∷ G);
        is_here' = ap (λ (z : List LogEntry). e ∷ z) (sym (append_assoc y (came ∷ []) G));
      }

      waits : (x y : List LogEntry) (e : LogEntry) → after ≡ x ++ e ∷ y → Waits S W s (reads sc other) lack.id o e (y ++ came ∷ G)
      waits x y e h =
          let b = between x y e h in
          record { runs_same = (same_place (e ∷ (y ++ came ∷ G)) (next_between x y e h)).0 ∙ sym (same_place (y ++ came ∷ G) b).0; on = λ z. on (y ++ came ∷ G) b; wanted = λ z. wants (y ++ came ∷ G) b }

      keeps_there : Keeps S W s (reads sc other) lack.id o there
      keeps_there = let P : List LogEntry → Type 0 = λ z. Keeps S W s (reads sc other) lack.id o z in subst P (sym whole) (keeps_grows S W s (reads sc other) lack.id o after (came ∷ G) waits keeps_came)

      never : ⊥
      never =
          let here : is_here (p there).wires (p there).steps lack.id ≡ true = ap (λ (i : ℕ). is_kept_of i (kept_under lack.id (p there).wires.kept)) (in_run_is there a.behaves a.opened past_there lack.id known) ∙ keeps_there in
          clash (sym here ∙ lack.lacks)

    pub not_come : NeverComes (W.slave s) sending.from sending.bytes sending.later
    not_come after before is = never after before is
