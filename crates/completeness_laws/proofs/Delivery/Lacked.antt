-- Where a step was refused because inputs were missing: what the slave and the senders had done when the slave took the request.
use Rattle.std.proofs.Common.{◌≡◌, ℕ, ◌+◌, ◌/◌, ◌%◌, ◌<◌, ◌≤◌, true, false, if◌then◌else◌, ◌⊎◌, inl, inr, Option, Some, None, List, ◌∷◌, ◌++◌, length, reverse, sym, ap, ◌∙◌, subst, arith}
use Rattle.std.specs.Prelude.{◌==◌}
use Rattle.std.proofs.lemmas.Bool.{cases_lt}
use Rattle.std.proofs.lemmas.List.{append_assoc}
use Rattle.dcp_ends.specs.declared.entries.LogEntry.{LogEntry}
use Rattle.slave_desc.specs.declared.descriptions.SlaveDesc.{SlaveDesc}
use Rattle.scenario.specs.declared.scenarios.Scenario.{Scenario}
use Rattle.scenario.specs.Sound.{IsScenario}
use Rattle.log_spec.specs.Messages.{Note}
use Rattle.log_spec.specs.Log.{Parties, IsSlaveOf, requests_sent, values_sent, DecidedRequest}
use Rattle.log_spec.specs.Moves.{move, decided_exchanges}
use Rattle.lockstep_laws.specs.Steps.{RowEvent, Show, Step, Restart, event_asked, row_event_at, shown_after, place_after, BenchProgress, view, Bench}
use Rattle.lockstep_laws.specs.Cast.{ConversingSlaves}
use Rattle.lockstep_laws.specs.Runs.{Behaves}
use Rattle.lockstep_laws.proofs.Talk.{Behind, requests_of, taken_length}
use Rattle.lockstep_laws.proofs.Local.{Counts}
use Rattle.lockstep_laws.proofs.Conversation.{earlier, drop_later, known}
use Rattle.lockstep_laws.proofs.Barrier.{IsEvent, asked_first, IsOpen, UnderWay, together}
use Rattle.lockstep_laws.proofs.Places.{step_is, fits, ahead}
use Rattle.lockstep_laws.specs.Models.Ordinals.{ordinals_below, ordinal_at}
use Rattle.lockstep_laws.specs.Models.Machines.{Machines, values_owed}
use Rattle.lockstep_laws.proofs.Models.EachQth.{count_next}
use Rattle.lockstep_laws.proofs.Models.Values.{sends_values}
use Rattle.master_spec.specs.declared.requests.Answer.TheVariants.{Nack}
use Rattle.master_spec.specs.News.{Answers, news_in}
use Rattle.slave_spec.specs.declared.words.SlaveSetup.{SlaveSetup}
use Rattle.slave_spec.specs.declared.words.Asked.{Asked}
use Rattle.slave_spec.specs.declared.words.Session.TheVariants.{Before}
use Rattle.slave_spec.specs.Transport as transport
use Rattle.slave_spec.specs.Requests.{answers}
use Rattle.slave_spec.specs.Slaves.{machine}
use Rattle.slave_laws.specs.Talk.Desks.{answer_note, at}
use Rattle.slave_laws.specs.Model.Models.{plant_at}
use Rattle.slave_laws.specs.Data.Made.{machines}
use Rattle.slave_laws.proofs.Data.Held.{reads}
use Rattle.slave_laws.specs.Model.Tuned.{served_at}
use Rattle.slave_laws.specs.Data.Whole.{slaves_asked}
use Rattle.slave_laws.proofs.Data.Feeding.{some_interval}
use Rattle.slave_laws.proofs.Wiring.Rows.{slaves_are}
use Rattle.slave_laws.specs.Wiring.Links.{interval_of}
use Rattle.master_laws.specs.Hears.Laws.{IsAnswerAs}
use Rattle.run_laws.specs.Laws.{parties, slave_setup_of, IsRunInRounds}
use Rattle.run_laws.proofs.Headline.Behaving.{are_slaves}
use Rattle.completeness_laws.proofs.Causes.Goings.{Takes, Goes, stays, takes, brings, turns_on, goes}
use Rattle.completeness_laws.proofs.Delivery.Happens.{TakesIt}
use Rattle.completeness_laws.proofs.Delivery.Since.{TakenIn}
use Rattle.completeness_laws.proofs.Delivery.Ordinals.{below_rises}
use Rattle.completeness_laws.proofs.Delivery.Outputs.{sent_all}
use Rattle.completeness_laws.proofs.Delivery.Refusing.{AsksStep, asks_step_heard, LacksInputs, lacks_inputs}
use Rattle.completeness_laws.proofs.Delivery.Whole.{IsEventEntry, nothing_owed}

clash : true ≡ false → ⊥
clash z = cc

-- ---- the request is open, and it is the newest
pub record OpenHere (x : DecidedRequest) (es : List DecidedRequest) (rs : List Note) (ds : List DecidedRequest) : Type 0 where
  pub requests : rs ≡ x.request ∷ requests_of es
  pub decided : ds ≡ es

open_here : (x : DecidedRequest) (es : List DecidedRequest) (rs : List Note) (ds : List DecidedRequest) → Behind (requests_of (x ∷ es)) rs → Behind (requests_of es) rs → Behind ds es → length rs ≤ length ds + 1 → OpenHere x es rs ds
open_here x es rs ds a b c few = by a b c
  where
    n : length (requests_of es) ≡ length es
    n = taken_length es

    first : {A : Type 0} {u v : A} {us vs : List A} → u ∷ us ≡ v ∷ vs → u ≡ v
    first z = cc

    two : (y : Note) → rs ≡ y ∷ requests_of es → (requests_of (x ∷ es) ≡ rs) ⊎ ((z : Note) × (rs ≡ z ∷ requests_of (x ∷ es))) → rs ≡ x.request ∷ requests_of es
    two y q (inl p) = sym p
    two y q (inr (z, p)) = let i = ap length q in let j = ap length p in absurd (omega (arith, i, j))

    by : Behind (requests_of (x ∷ es)) rs → Behind (requests_of es) rs → Behind ds es → OpenHere x es rs ds
    by a (inl q) c = absurd (more a)
      where
        more : (requests_of (x ∷ es) ≡ rs) ⊎ ((z : Note) × (rs ≡ z ∷ requests_of (x ∷ es))) → ⊥
        more (inl p) = let i = ap length q in let j = ap length p in omega (arith, i, j)
        more (inr (z, p)) = let i = ap length q in let j = ap length p in omega (arith, i, j)
    by a (inr (y, q)) (inl p) = record { requests = two y q a; decided = p }
    by a (inr (y, q)) (inr (z, p)) = let i = ap length q in let j = ap length p in absurd (omega (arith, i, j, n, few))

pub event_of_step : (n : Note) → n.message.code ≡ 7 → event_asked n ≡ Some Step
event_of_step n e = ap (λ (c : ℕ). if c == 8 then Some Show else (if c == 7 then Some Step else (if c == 10 then Some Restart else None))) e

done_now : (steps : ℕ) (v : BenchProgress) (b : Bench) → v.waiting ≡ false → Counts steps v b → b.events ≡ v.done
done_now steps v b w c = grind arith

-- what holds right before a slave refuses a step so, after so many row events
pub record AtStep (sc : Scenario) (other : SlaveDesc) (s : ℕ) (log : List LogEntry) (done : ℕ) : Type 0 where
  pub behaves : Behaves (parties sc other) (slaves_asked sc other) log
  pub opened : transport.is_open (at (machine (slave_setup_of sc other s)) (parties sc other) s log).slave.session ≡ true
  pub lacks : LacksInputs (plant_at (slave_setup_of sc other s) (parties sc other) s log)
  pub events : ((slaves_asked sc other).bench s log).events ≡ done
  pub sent : (id : ℕ) → IsSlaveOf (parties sc other) ((machines sc other).from id) → ordinal_at sc.steps (interval_of sc id) (place_after done) + 1 ≤ length (values_sent (parties sc other) id log)

module _ (sc : Scenario) (other : SlaveDesc) (ok : IsScenario sc) (log : List LogEntry) (r : IsRunInRounds sc other log) (s : ℕ) (it : IsSlaveOf (parties sc other) s) (later now : List LogEntry) (split' : reverse log ≡ later ++ now) (behaves : Behaves (parties sc other) (slaves_asked sc other) now)
    (part base : List LogEntry) (now_is : now ≡ part ++ base) (x : DecidedRequest) (es : List DecidedRequest) (took : TakenIn sc other s part base x es) (code : ℕ) (answer_is : IsAnswerAs s x.answer (Nack code)) (eight : (code == 8) ≡ true) (step : x.request.message.code ≡ 7) where
  abbrev W : Parties
  W = parties sc other

  abbrev X : ConversingSlaves
  X = slaves_asked sc other

  abbrev Ms : Machines
  Ms = machines sc other

  abbrev S : SlaveSetup
  S = slave_setup_of sc other s

  -- right before the slave took the request, and the entry with which it did
  abbrev pub there : List LogEntry
  there = took.before ++ base

  abbrev pub entry : LogEntry
  entry = took.entry

  pub whole : now ≡ took.after ++ entry ∷ there
  whole = now_is ∙ ap (λ (v : List LogEntry). v ++ base) took.is ∙ append_assoc took.after (entry ∷ took.before) base

  behaves_taken : Behaves W X (entry ∷ there)
  behaves_taken = let P : List LogEntry → Type 0 = λ w. Behaves W X w in drop_later W X (are_slaves sc other ok) took.after (entry ∷ there) (subst P whole behaves)

  pub behaves_there : Behaves W X there
  behaves_there = earlier W X (are_slaves sc other ok) entry there behaves_taken

  split_there : reverse log ≡ (later ++ took.after) ++ entry ∷ there
  split_there = split' ∙ ap (λ (v : List LogEntry). later ++ v) whole ∙ sym (append_assoc later took.after (entry ∷ there))

  abbrev t : TakesIt sc other s (at (machine S) W s there) (at (machine S) W s (entry ∷ there)) entry
  t = took.takes

  head_same : {A : Type 0} {y z : A} {ys zs : List A} → y ∷ ys ≡ z ∷ zs → y ≡ z
  head_same q = cc

  tail_same : {A : Type 0} {y z : A} {ys zs : List A} → y ∷ ys ≡ z ∷ zs → ys ≡ zs
  tail_same q = cc

  x_is : x ≡ record { request = t.note; answer = answer_note t.request t.next_number (answers S t.request.asked (plant_at S W s there)).answer }
  x_is = head_same (sym took.newest ∙ t.served)

  note_step : t.note.message.code ≡ 7
  note_step = ap (λ (n : DecidedRequest). n.request.message.code) (sym x_is) ∙ step

  asks_step : AsksStep t.request.asked
  asks_step = asks_step_heard t.note.message.code t.note.message.values t.request note_step t.heard

  -- ---- the slave
  pub lacks : LacksInputs (plant_at S W s there)
  lacks =
      let P : Note → Type 0 = λ n. news_in (Some n.message) ≡ Answers n.number s (Nack code) in
      lacks_inputs S (plant_at S W s there) t.request t.next_number t.request.number s code asks_step eight (subst P (ap (λ (y : DecidedRequest). y.answer) x_is) answer_is)

  not_register : (asked : Asked) → AsksStep asked → transport.is_register asked ≡ true → ⊥
  not_register asked a h = clash (sym h ∙ ap transport.is_register a.is)

  served_more : (zs ws : List DecidedRequest) → zs ≡ ws → zs ≡ x ∷ es → ws ≡ es → ⊥
  served_more zs ws a b c = let i = ap length (sym b ∙ a ∙ c) in omega (arith, i)

  pub opened : transport.is_open (at (machine S) W s there).slave.session ≡ true
  opened = by (goes S W s (reads sc other) entry there)
    where
      of : (k : Takes S (at (machine S) W s there) (at (machine S) W s (entry ∷ there))) → (((at (machine S) W s there).slave.session ≡ Before) × (transport.is_register k.request.asked ≡ true)) ⊎ (transport.is_open (at (machine S) W s there).slave.session ≡ true) → transport.is_open (at (machine S) W s there).slave.session ≡ true
      of k (inr o) = o
      of k (inl b) =
          let note : k.note ≡ t.note = ap (λ (y : DecidedRequest). y.request) (head_same (sym k.served ∙ t.served)) in
          absurd (not_register k.request.asked (asks_step_heard k.note.message.code k.note.message.values k.request (ap (λ (n : Note). n.message.code) note ∙ note_step) k.heard) b.1)

      by : Goes S (move W s entry) (at (machine S) W s there) (at (machine S) W s (entry ∷ there)) → transport.is_open (at (machine S) W s there).slave.session ≡ true
      by (stays a b) = absurd (served_more (served_at S W s (entry ∷ there)) (served_at S W s there) b took.newest took.rest)
      by (brings k) = absurd (served_more (served_at S W s (entry ∷ there)) (served_at S W s there) k.served took.newest took.rest)
      by (turns_on mv k) = absurd (served_more (served_at S W s (entry ∷ there)) (served_at S W s there) k.served took.newest took.rest)
      by (takes k) = of k k.when

  -- ---- its row events
  same_requests : requests_sent W s (entry ∷ there) ≡ requests_sent W s there
  same_requests = ap (λ (y : LogEntry). requests_sent W s (y ∷ there)) t.is

  pub free : OpenHere x es (requests_sent W s there) (decided_exchanges W s there)
  free =
      let a = (known W X (are_slaves sc other ok) s it (entry ∷ there) behaves_taken).talk in
      let b = (known W X (are_slaves sc other ok) s it there behaves_there).talk in
      let P : List DecidedRequest → List Note → Type 0 = λ zs ns. Behind (requests_of zs) ns in
      let Q : List DecidedRequest → Type 0 = λ zs. Behind (decided_exchanges W s there) zs in
      open_here x es (requests_sent W s there) (decided_exchanges W s there)
      (subst (λ ns. P (x ∷ es) ns) same_requests (subst (λ zs. P zs (requests_sent W s (entry ∷ there))) took.newest a.taken))
      (subst (λ zs. P zs (requests_sent W s there)) took.rest b.taken) (subst Q took.rest b.decided) b.asked

  is_open : IsOpen (requests_sent W s there) (decided_exchanges W s there)
  is_open =
      let n = taken_length es in
      let i = ap length free.requests in
      let j = ap length free.decided in
      let P : Option RowEvent → Type 0 = IsEvent in
      let asked : asked_first (requests_sent W s there) ≡ Some Step = ap asked_first free.requests ∙ event_of_step x.request step in
      record { one = omega (arith, n, i, j); event = subst P (sym asked) tt }

  abbrev pub done : ℕ
  done = (view es).done

  turn : ((view es).waiting ≡ false) × (Step ≡ row_event_at sc.steps done)
  turn =
      let a = (together W X (are_slaves sc other ok) there behaves_there).alone s it is_open in
      let asked : asked_first (requests_sent W s there) ≡ Some Step = ap asked_first free.requests ∙ event_of_step x.request step in
      let same : Some Step ≡ Some (row_event_at sc.steps (view (decided_exchanges W s there)).done) = sym asked ∙ a.1 in
      (ap (λ (zs : List DecidedRequest). (view zs).waiting) (sym free.decided) ∙ a.0, some_same same ∙ ap (λ (zs : List DecidedRequest). row_event_at sc.steps (view zs).done) free.decided)
    where
      some_same : {A : Type 0} {y z : A} → Some y ≡ Some z → y ≡ z
      some_same q = cc

  pub odd : done % 2 ≡ 0 → ⊥
  odd = (step_is sc.steps done turn.1).0

  pub events_are : (X.bench s there).events ≡ done
  events_are =
      let f = fits W X (are_slaves sc other ok) there behaves_there s it in
      let P : List DecidedRequest → Type 0 = λ zs. Counts sc.steps (view zs) (X.bench s there) in
      done_now sc.steps (view es) (X.bench s there) turn.0 (subst P took.rest f.counts)

  pub others : (a : ℕ) → IsSlaveOf W a → done ≤ (X.bench a there).events
  others a ia =
      let u = (together W X (are_slaves sc other ok) there behaves_there).under_way s a it ia (inr is_open) in
      let v = ap (λ (zs : List DecidedRequest). (view zs).done) free.decided in
      by u v (ahead W X (are_slaves sc other ok) there behaves_there a ia)
    where
      by : (view (decided_exchanges W s there)).done ≤ (view (decided_exchanges W a there)).done → (view (decided_exchanges W s there)).done ≡ done
          → ((X.bench a there).events ≡ (view (decided_exchanges W a there)).done) ⊎ (((X.bench a there).events ≡ (view (decided_exchanges W a there)).done + 1) × UnderWay (requests_sent W a there) (decided_exchanges W a there)) → done ≤ (X.bench a there).events
      by u v (inl h) = omega (arith, u, v, h)
      by u v (inr (h, w)) = omega (arith, u, v, h)

  -- ---- what was sent
  -- of each id of a slave the ordinal of this place was sent
  pub sent_there : (id : ℕ) → IsSlaveOf W (Ms.from id) → ordinal_at sc.steps (interval_of sc id) (place_after done) + 1 ≤ length (values_sent W id there)
  sent_there id ia =
      let a = Ms.from id in
      let q = interval_of sc id in
      let some = some_interval sc ok id in
      let ev : IsEventEntry sc other ok log r a ia entry = let E : LogEntry → Type 0 = λ y. IsEventEntry sc other ok log r a ia y in subst E (sym t.is) tt in
      let none = nothing_owed sc other ok log r a ia (later ++ took.after) there entry split_there ev in
      let v = sends_values W X (are_slaves sc other ok) Ms (slaves_are sc other ok) id ia there behaves_there in
      let all = sent_all (values_owed W id (X.desk a there).owed) (values_sent W id there) (ordinals_below sc.steps q (shown_after (X.bench a there).events)) (ap (values_owed W id) none) v.owes in
      let few = others a ia in
      let no' = odd in
      let more : place_after done + 1 ≤ shown_after (X.bench a there).events = shown_more done (X.bench a there).events no' few in
      let least = below_rises sc.steps q (place_after done + 1) (shown_after (X.bench a there).events) some more in
      let next = count_next sc.steps q (place_after done) in
      omega (arith, all, least, next)
    where
      shown_more : (d n : ℕ) → (d % 2 ≡ 0 → ⊥) → d ≤ n → d / 2 + 1 ≤ (n + 1) / 2
      shown_more d n no' le = by (cases_lt 0 (d % 2))
        where
          by : (0 < d % 2) ⊎ (d % 2 ≤ 0) → d / 2 + 1 ≤ (n + 1) / 2
          by (inl h) = omega (arith, h, le)
          by (inr h) = absurd (no' (omega (arith, h)))

  pub at_step : AtStep sc other s there done
  at_step = record { behaves = behaves_there; opened = opened; lacks = lacks; events = events_are; sent = sent_there }
