-- A slave goes on with its data, entry by entry.
use Rattle.std.proofs.Common.{◌≡◌, ℕ, ◌==◌, ◌&&◌, Bool, true, false, if◌then◌else◌, ◌⊎◌, List, [], ◌∷◌, map, refl, ap, subst}
use Rattle.dcp_types.specs.declared.addresses.Address.{Address}
use Rattle.dcp_ends.specs.declared.entries.LogEntry.{LogEntry}
use Rattle.dcp_ends.specs.declared.entries.LogEntry.TheVariants.{Sent, Got, Idle, Turn}
use Rattle.slave_desc.specs.declared.descriptions.SlaveDesc.{SlaveDesc}
use Rattle.scenario.specs.declared.scenarios.Scenario.{Scenario}
use Rattle.scenario.specs.Sound.{IsScenario}
use Rattle.log_spec.specs.Messages.{Role, Request, Answer, Value, Else}
use Rattle.log_spec.specs.Log as logs
use Rattle.log_spec.specs.Log.{Parties, same, role_heard, DecidedRequest}
use Rattle.log_spec.specs.Moves.{Move, Asks, Comes, Tells, Hears, Brings, Turns, Rests, Other, sent_move, got_move, move}
use Rattle.lockstep_laws.specs.Slaves.{Post, SlaveMay}
use Rattle.lockstep_laws.specs.Asked.{AskedAsPlanned}
use Rattle.lockstep_laws.specs.Steps.{Bench, Idles, BenchShows, StepsOn, BenchFails}
use Rattle.lockstep_laws.specs.Cast.{ConversingSlaves}
use Rattle.lockstep_laws.specs.Models.Machines.{Store, Machines, values_owed, Emits, Keeps, IsAskedInOrder}
use Rattle.slave_spec.specs.declared.words.SlaveSetup.{SlaveSetup}
use Rattle.slave_spec.specs.declared.words.Fate.{Fate}
use Rattle.slave_spec.specs.declared.words.Fate.TheVariants.{Dropped, Refused, Repeated, Taken}
use Rattle.slave_spec.specs.declared.words.SlaveRequest as req
use Rattle.slave_spec.specs.Heard as spec
use Rattle.slave_spec.specs.Transport as transport
use Rattle.slave_spec.specs.Transport.{SlaveState}
use Rattle.slave_spec.specs.Plants.{Plant}
use Rattle.slave_spec.specs.Slaves.{machine}
use Rattle.slave_laws.specs.Talk.Plants.{bench_of}
use Rattle.slave_laws.specs.Talk.Desks.{post, Both, got, ticked, served_by, served_after, sent_next, at}
use Rattle.slave_laws.specs.Talk.Benches.{events_tick, events_done, bench_at}
use Rattle.slave_laws.proofs.Talk.Sending.{sends_back}
use Rattle.plan_laws.specs.Course.Courses.{may}
use Rattle.slave_laws.specs.Data.Made.{setup_at, parties, slaves, store_of, machines}
use Rattle.slave_laws.specs.Data.Holding.{KeepsOn}
use Rattle.slave_laws.proofs.Data.Held.{reads}
use Rattle.slave_laws.proofs.Data.Keeping.{keeps_data}
use Rattle.slave_laws.proofs.Data.Owing.{none_owed, heard_none}
use Rattle.slave_laws.specs.Data.Emitting.{GoesOnWithData}
use Rattle.slave_laws.proofs.Data.Shown.{turn_quiet, turn_shows}

-- ---- of what is kept and of what is owed
abbrev pub IsIdle : Move → Type 0
IsIdle (Asks n) = ⊥
IsIdle (Comes from receiver n) = Unit {0}
IsIdle (Tells to bytes) = ⊥
IsIdle (Hears n) = ⊥
IsIdle (Brings from id n) = Unit {0}
IsIdle Turns = ⊥
IsIdle Rests = Unit {0}
IsIdle Other = ⊥

abbrev pub IsTurn : Move → Type 0
IsTurn Turns = Unit {0}
IsTurn _ = ⊥

record OwesAtTurn (w : Parties) (x : ConversingSlaves) (m : Machines) (s : ℕ) (b c : Bench) (u : Store) (owed : List Post) : Type 0 where
  pub quiet : Idles b c ⊎ (StepsOn b c ⊎ BenchFails b c) → (id : ℕ) → values_owed w id owed ≡ []
  pub shows : BenchShows b c → (id : ℕ) → m.from id ≡ s → Emits w x m s id b u owed

whole : (w : Parties) (x : ConversingSlaves) (m : Machines) (s : ℕ) (mv : Move) (b c : Bench) (u v : Store) (owed : List Post) → KeepsOn x m mv b u v → (IsIdle mv → (id : ℕ) → values_owed w id owed ≡ []) → (IsTurn mv → OwesAtTurn w x m s b c u owed) → Keeps w x m s mv b c u v owed
whole w x m s (Asks n) b c u v owed k f g = k
whole w x m s (Comes from receiver n) b c u v owed k f g = (f tt, k)
whole w x m s (Tells to bytes) b c u v owed k f g = k
whole w x m s (Hears n) b c u v owed k f g = k
whole w x m s (Brings from id n) b c u v owed k f g = (f tt, k)
whole w x m s Turns b c u v owed k f g = let t = g tt in record { kept = k; quiet = t.quiet; shows = t.shows }
whole w x m s Rests b c u v owed k f g = (f tt, k)
whole w x m s Other b c u v owed k f g = k

-- ---- which entries are which
pub sent_busy : (w : Parties) (s : ℕ) (from to : Address) (bytes : List ℕ) (k : Role) → (IsIdle (sent_move w s from to bytes k) → ⊥) × (IsTurn (sent_move w s from to bytes k) → ⊥)
sent_busy w s from to bytes k = by k
  where
    told : (c : Bool) → (IsIdle (if c then Tells to bytes else Other) → ⊥) × (IsTurn (if c then Tells to bytes else Other) → ⊥)
    told true = (λ h. h, λ h. h)
    told false = (λ h. h, λ h. h)

    asked : (n : _) (b c : Bool) → (IsIdle (if b then Asks n else (if c then Tells to bytes else Other)) → ⊥) × (IsTurn (if b then Asks n else (if c then Tells to bytes else Other)) → ⊥)
    asked n true c = (λ h. h, λ h. h)
    asked n false c = told c

    by : (k : Role) → (IsIdle (sent_move w s from to bytes k) → ⊥) × (IsTurn (sent_move w s from to bytes k) → ⊥)
    by (Request receiver n) = asked n (same from w.master && same to (w.slave s)) (same from (w.slave s))
    by (Answer sender n) = told (same from (w.slave s))
    by (Value id n) = told (same from (w.slave s))
    by Else = told (same from (w.slave s))

got_idle : (w : Parties) (s : ℕ) (at' from : Address) (k : Role) → same at' (w.slave s) ≡ false → IsIdle (got_move w s at' from k) → ⊥
got_idle w s at' from (Request receiver n) e h = let P : Bool → Type 0 = λ b. IsIdle (if b then Comes from receiver n else Other) in subst P e h
got_idle w s at' from (Answer sender n) e h = by ((same at' w.master && same from (w.slave s)) && (sender == s)) (let P : Bool → Type 0 = λ b. IsIdle (if b then Rests else (if (same at' w.master && same from (w.slave s)) && (sender == s) then Hears n else Other)) in subst P e h)
  where
    by : (c : Bool) → IsIdle (if c then Hears n else Other) → ⊥
    by true k = k
    by false k = k
got_idle w s at' from (Value id n) e h = let P : Bool → Type 0 = λ b. IsIdle (if b then Brings from id n else Other) in subst P e h
got_idle w s at' from Else e h = let P : Bool → Type 0 = λ b. IsIdle (if b then Rests else Other) in subst P e h

pub got_turn : (w : Parties) (s : ℕ) (at' from : Address) (k : Role) → IsTurn (got_move w s at' from k) → ⊥
got_turn w s at' from (Request receiver n) h = by (same at' (w.slave s)) h
  where
    by : (b : Bool) → IsTurn (if b then Comes from receiver n else Other) → ⊥
    by true k = k
    by false k = k
got_turn w s at' from (Answer sender n) h = by (same at' (w.slave s)) ((same at' w.master && same from (w.slave s)) && (sender == s)) h
  where
    by : (b c : Bool) → IsTurn (if b then Rests else (if c then Hears n else Other)) → ⊥
    by true c k = k
    by false true k = k
    by false false k = k
got_turn w s at' from (Value id n) h = by (same at' (w.slave s)) h
  where
    by : (b : Bool) → IsTurn (if b then Brings from id n else Other) → ⊥
    by true k = k
    by false k = k
got_turn w s at' from Else h = by (same at' (w.slave s)) h
  where
    by : (b : Bool) → IsTurn (if b then Rests else Other) → ⊥
    by true k = k
    by false k = k

-- ---- over a log
module _ (sc : Scenario) (other : SlaveDesc) (ok : IsScenario sc) (s : ℕ) (is : logs.IsSlaveOf (parties sc other) s) where
  abbrev W : Parties
  W = parties sc other

  abbrev X : SlaveSetup
  X = setup_at sc other s

  abbrev Allowed : List DecidedRequest → Type 0
  Allowed es = AskedAsPlanned (may sc s X.desc) es

  abbrev here : List LogEntry → Both Plant
  here log = at (machine X) W s log

  -- who was asked in order was so before
  fate_less : (x : SlaveState Plant) (es : List DecidedRequest) (n : _) (r : req.SlaveRequest) (f : Fate) → Allowed (served_by (machine X) x es n r f) → Allowed es
  fate_less x es n r Taken a = a.1
  fate_less x es n r Dropped a = a
  fate_less x es n r (Refused code) a = a
  fate_less x es n r Repeated a = a

  heard_less : (x : SlaveState Plant) (es : List DecidedRequest) (from : Address) (k : Role) (h : spec.Heard) → Allowed (served_after (machine X) x es from k h) → Allowed es
  heard_less x es from (Request receiver n) (spec.Asks r) a = fate_less x es n r (transport.fate (machine X) x from r) a
  heard_less x es from (Request receiver n) (spec.Brings number i payload) a = a
  heard_less x es from (Request receiver n) spec.Nothing a = a
  heard_less x es from (Answer sender n) (spec.Asks r) a = a
  heard_less x es from (Answer sender n) (spec.Brings number i payload) a = a
  heard_less x es from (Answer sender n) spec.Nothing a = a
  heard_less x es from (Value id n) (spec.Asks r) a = a
  heard_less x es from (Value id n) (spec.Brings number i payload) a = a
  heard_less x es from (Value id n) spec.Nothing a = a
  heard_less x es from Else (spec.Asks r) a = a
  heard_less x es from Else (spec.Brings number i payload) a = a
  heard_less x es from Else spec.Nothing a = a

  sent_less : (mv : Move) (x : Both Plant) → Allowed (sent_next (machine X) W s mv x).desk.served → Allowed x.desk.served
  sent_less (Asks n) x a = a
  sent_less (Comes from receiver n) x a = a
  sent_less (Tells to bytes) x a = a
  sent_less (Hears n) x a = a
  sent_less (Brings from i n) x a = a
  sent_less Turns x a = a
  sent_less Rests x a = a
  sent_less Other x a = a

  asked_less : (e : LogEntry) (log : List LogEntry) → Allowed (here (e ∷ log)).desk.served → Allowed (here log).desk.served
  asked_less (Sent from to bytes) log a = sent_less (move W s (Sent from to bytes)) (here log) a
  asked_less (Got at' from bytes) log a = by (same at' (W.slave s)) a
    where
      by : (b : Bool) → Allowed (if b then got (machine X) W s from bytes (here log) else here log).desk.served → Allowed (here log).desk.served
      by true k = heard_less (here log).slave (here log).desk.served from (role_heard W bytes) (spec.heard bytes) k
      by false k = k
  asked_less (Idle at') log a = a
  asked_less (Turn at') log a = by (same at' (W.slave s)) a
    where
      by : (b : Bool) → Allowed (if b then ticked (machine X) W s (here log) else here log).desk.served → Allowed (here log).desk.served
      by true k = k
      by false k = k

  pub order_less : (e : LogEntry) (log : List LogEntry) → IsAskedInOrder W (slaves sc other) s (e ∷ log) → IsAskedInOrder W (slaves sc other) s log
  order_less e log o = record { run = o.run.1; asked = asked_less e log o.asked }

  -- ---- what is owed
  abbrev OwesNone : List Post → Type 0
  OwesNone owed = (id : ℕ) → values_owed W id owed ≡ []

  idle_owes : (e : LogEntry) (log : List LogEntry) → SlaveMay (move W s e) (here log).desk.owed → IsIdle (move W s e) → OwesNone (here (e ∷ log)).desk.owed
  idle_owes (Sent from to bytes) log m h id = absurd ((sent_busy W s from to bytes (role_heard W bytes)).0 h)
  idle_owes (Got at' from bytes) log m h id = by (same at' (W.slave s)) refl
    where
      by : (b : Bool) → same at' (W.slave s) ≡ b → values_owed W id (if b then got (machine X) W s from bytes (here log) else here log).desk.owed ≡ []
      by true e = none_owed W id (map post (transport.heard_sends (machine X) (here log).slave from (spec.heard bytes))) (heard_none X W id (here log).slave ((sends_back X W s (reads sc other)).sends log) from bytes (spec.heard bytes) refl)
      by false e = absurd (got_idle W s at' from (role_heard W bytes) e h)
  idle_owes (Idle at') log m h id = by (same at' (W.slave s)) m h
    where
      by : (b : Bool) → SlaveMay (if b then Rests else Other) (here log).desk.owed → IsIdle (if b then Rests else Other) → values_owed W id (here log).desk.owed ≡ []
      by true k g = ap (values_owed W id) k
      by false k g = absurd g
  idle_owes (Turn at') log m h id = by (same at' (W.slave s)) h
    where
      by : (b : Bool) → IsIdle (if b then Turns else Other) → values_owed W id (here (Turn at' ∷ log)).desk.owed ≡ []
      by true g = absurd g
      by false g = absurd g

  abbrev TurnOwes : (log : List LogEntry) → Bench → List Post → Type 0
  TurnOwes log c owed = OwesAtTurn W (slaves sc other) (machines sc other) s (bench_at X W s log) c (store_of sc other (here log).slave.inner) owed

  turn_owes : (e : LogEntry) (log : List LogEntry) → Allowed (here log).desk.served → IsTurn (move W s e) → TurnOwes log (bench_at X W s (e ∷ log)) (here (e ∷ log)).desk.owed
  turn_owes (Sent from to bytes) log a h = absurd ((sent_busy W s from to bytes (role_heard W bytes)).1 h)
  turn_owes (Got at' from bytes) log a h = absurd (got_turn W s at' from (role_heard W bytes) h)
  turn_owes (Idle at') log a h = absurd (by (same at' (W.slave s)) h)
    where
      by : (b : Bool) → IsTurn (if b then Rests else Other) → ⊥
      by true g = g
      by false g = g
  turn_owes (Turn at') log a h = by (same at' (W.slave s)) h
    where
      x : SlaveState Plant
      x = (here log).slave

      n : ℕ
      n = events_done X W s log

      c : Bench
      c = bench_of (events_tick X W s x.session x n) (transport.after_turn (machine X) x).inner

      by : (b : Bool) → IsTurn (if b then Turns else Other) → let y = (if b then ticked (machine X) W s (here log) else here log) in TurnOwes log (bench_of (if b then events_tick X W s x.session x n else n) y.slave.inner) y.desk.owed
      by true g = record {
        quiet = λ q id. none_owed W id (map post (transport.turn_sends (machine X) x.session x)) (turn_quiet sc other ok s is log a c id x.session refl refl q);
        shows = λ q id own. turn_shows sc other ok s is log a c id x.session refl refl own q;
      }
      by false g = absurd g

pub goes_on : GoesOnWithData
goes_on sc other ok s is e log o =
    let w = parties sc other in
    let x = slaves sc other in
    let m = machines sc other in
    let before = order_less sc other ok s is e log o in
    whole w x m s (move w s e) (x.bench s log) (x.bench s (e ∷ log)) (m.store s log) (m.store s (e ∷ log)) (x.desk s (e ∷ log)).owed
    (keeps_data sc other ok s is e log before) (idle_owes sc other ok s is e log o.run.0) (turn_owes sc other ok s is e log before.asked)
