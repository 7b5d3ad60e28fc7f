-- Where no request was sent again, at every moment one waits at most.
use Rattle.std.proofs.Common.{◌≡◌, ℕ, ◌%◌, ◌≤◌, Bool, true, false, if◌then◌else◌, ◌⊎◌, inl, inr, Option, Some, None, List, [], ◌∷◌, ◌++◌, length, reverse, sym, ap, ◌∙◌, subst, arith, append_assoc}
use Rattle.std.specs.Prelude.{◌==◌, ◌&&◌, filter}
use Rattle.std.proofs.lemmas.List.{reverse-append}
use Rattle.dcp_types.specs.declared.addresses.Address.{Address}
use Rattle.dcp_ends.specs.Logs.{same_address}
use Rattle.dcp_ends.specs.declared.entries.LogEntry.{LogEntry}
use Rattle.dcp_ends.specs.declared.entries.LogEntry.TheVariants.{Sent, Got, Idle, Turn}
use Rattle.dcp_net.specs.declared.openings.Opening.{Opening}
use Rattle.net_world.specs.Calls.{GivesDue}
use Rattle.net_world.specs.Deliveries.{waiting}
use Rattle.pdu_layout.specs.Reading.{message_in}
use Rattle.rounds.specs.Steps.{without_turns}
use Rattle.slave_desc.specs.declared.descriptions.SlaveDesc.{SlaveDesc}
use Rattle.scenario.specs.declared.scenarios.Scenario.{Scenario}
use Rattle.scenario.specs.Sound.{IsScenario}
use Rattle.log_spec.specs.Log.{Parties, IsSlaveOf}
use Rattle.lockstep_laws.specs.Runs.{Behaves}
use Rattle.lockstep_laws.proofs.Conversation.{drop_later}
use Rattle.master_spec.specs.declared.setups.Slave.{Slave}
use Rattle.master_spec.specs.declared.setups.Setup.{Setup}
use Rattle.master_spec.specs.News.{News, Answers, Hints, Brings, Nothing, news_of}
use Rattle.master_spec.specs.Requests.{Asking, asking_in, asks, decided_by, with_asking, with_news}
use Rattle.master_spec.specs.Setup.{setup_from, slave_of}
use Rattle.master_log_laws.specs.Index.Index.{again_at}
use Rattle.master_log_laws.specs.Index.Runs.{owed, IsFirstSend, where_it_is, IsRun}
use Rattle.master_log_laws.proofs.Index.ByEntry.{entry_by_entry}
use Rattle.master_log_laws.proofs.Index.Mine.{same_self}
use Rattle.master_laws.proofs.Meets.Asking.{sends}
use Rattle.master_laws.proofs.Meets.Sends.{IsFresh, IsSame}
use Rattle.master_log_laws.proofs.Scenarios.Heard.{setups_heard}
use Rattle.slave_laws.specs.Data.Whole.{slaves_asked}
use Rattle.lockstep_laws.specs.Models.Scenarios.{slave_numbered}
use Rattle.run_laws.specs.Laws.{parties, IsRunInRounds}
use Rattle.run_laws.proofs.Rounded.{rounds_are_runs}
use Rattle.run_laws.proofs.Runs.{party, are_parties}
use Rattle.run_laws.proofs.Headline.Behaving.{are_slaves}
use Rattle.run_laws.proofs.Headline.Moments.{so_far}
use Rattle.completeness_laws.specs.Quiet.{IsQuietPlan, is_for_slave, NoneAgain, OneRequestWaits}
use Rattle.completeness_laws.proofs.Delivery.Ended.{run_front}
use Rattle.completeness_laws.proofs.Quiet.Nets.{told, Given, given_before}
use Rattle.completeness_laws.proofs.Quiet.Emptied.{tally_length, told_is}
use Rattle.completeness_laws.proofs.Quiet.Again.{IsNewlyAsked}
use Rattle.completeness_laws.proofs.Quiet.Requests.{IsOnce, once_entry, one_waits}

-- ---- an entry before
none_repeated : (x : ℕ) (is : List ℕ) → x ∷ is ≡ [] → ⊥
none_repeated x is z = cc

asked_back : (o : Option Asking) (bs : List Asking) → NoneAgain (with_asking o bs) → NoneAgain bs
asked_back None bs h = h
asked_back (Some a) [] h = tt
asked_back (Some a) (b ∷ bs) h = by (a.number == b.number) h
  where
    by : (t : Bool) → NoneAgain (if t then record { code = b.code; number = b.number; more = b.more; first = b.first; repeats = a.first ∷ b.repeats; decision = b.decision } ∷ bs else a ∷ b ∷ bs) → NoneAgain (b ∷ bs)
    by true z = absurd (none_repeated a.first b.repeats z.0)
    by false z = z.1

news_back : (id place : ℕ) (w : News) (bs : List Asking) → NoneAgain (with_news id place w bs) → NoneAgain bs
news_back id place (Answers number sender answer) [] h = tt
news_back id place (Answers number sender answer) (b ∷ bs) h = by ((sender == id) && (number == b.number)) h
  where
    by : (t : Bool) → NoneAgain (if t then record { code = b.code; number = b.number; more = b.more; first = b.first; repeats = b.repeats; decision = decided_by b.decision (record { place = place; answer = answer }) } ∷ bs else b ∷ bs) → NoneAgain (b ∷ bs)
    by true z = z
    by false z = z
news_back id place (Hints sender) bs h = h
news_back id place (Brings number data_id payload) bs h = h
news_back id place Nothing bs h = h

entry_back : (master : Address) (slave : Slave) (e : LogEntry) (log : List LogEntry) → NoneAgain (asks master slave (e ∷ log)) → NoneAgain (asks master slave log)
entry_back master slave (Sent from to bytes) log h = by (same_address from master && same_address to slave.address) h
  where
    by : (t : Bool) → NoneAgain (if t then with_asking (asking_in (length log) (message_in bytes)) (asks master slave log) else asks master slave log) → NoneAgain (asks master slave log)
    by true z = asked_back (asking_in (length log) (message_in bytes)) (asks master slave log) z
    by false z = z
entry_back master slave (Got at from bytes) log h = by (same_address at master && same_address from slave.address) h
  where
    by : (t : Bool) → NoneAgain (if t then with_news slave.id (length log) (news_of bytes) (asks master slave log) else asks master slave log) → NoneAgain (asks master slave log)
    by true z = news_back slave.id (length log) (news_of bytes) (asks master slave log) z
    by false z = z
entry_back master slave (Idle at) log h = h
entry_back master slave (Turn at) log h = h

-- ---- at every moment
module _ (sc : Scenario) (other : SlaveDesc) (ok : IsScenario sc) (log : List LogEntry) (r : IsRunInRounds sc other log) (o : Opening) (quiet : IsQuietPlan o.plan) (given : GivesDue o [] (without_turns log)) (s : ℕ) (it : IsSlaveOf (parties sc other) s) where
  abbrev W : Parties
  W = parties sc other

  abbrev S : Setup
  S = setup_from sc

  abbrev L : Slave
  L = slave_of sc s (slave_numbered sc other s)

  -- what is known of a front of the log
  pub record IsFront (sofar : List LogEntry) : Type 0 where
    pub behaves : Behaves W (slaves_asked sc other) sofar
    pub runs : IsRun S sofar
    pub gives : Given o sofar

  given_back : (later sofar : List LogEntry) → Given o (later ++ sofar) → Given o sofar
  given_back [] sofar g = g
  given_back (e ∷ later) sofar g = given_back later sofar (given_before o e (later ++ sofar) g)

  pub front : (later sofar : List LogEntry) → reverse log ≡ later ++ sofar → IsFront sofar
  front later sofar split =
      let P : List LogEntry → Type 0 = λ z. IsRun S z in
      let Q : List LogEntry → Type 0 = λ z. Given o z in
      let R : List LogEntry → Type 0 = λ z. GivesDue o [] z in
      record {
        behaves = drop_later W (slaves_asked sc other) (are_slaves sc other ok) later sofar (so_far sc other ok log (rounds_are_runs sc other ok log r) later sofar split);
        runs = run_front S later sofar (subst P split (entry_by_entry sc log r.master));
        gives = given_back later sofar (subst Q split (subst R (sym (told_is log)) given));
      }

  new_at : (bytes : List ℕ) (sofar : List LogEntry) → IsRun S (Sent W.master (W.slave s) bytes ∷ sofar) → NoneAgain (asks S.address L (Sent W.master (W.slave s) bytes ∷ sofar)) → IsNewlyAsked sc other ok s it bytes sofar
  new_at bytes sofar run none = by (sends S (setups_heard sc ok).heard W (are_parties sc other ok) s it L (party sc other ok s it) sofar run.1 (W.slave s) bytes first (same_self L.address))
    where
      first : IsFirstSend (owed S sofar) (W.slave s) bytes
      first = let P : Bool → Type 0 = λ b. where_it_is b (IsFirstSend (owed S sofar) (W.slave s) bytes) in subst P (same_self W.master) run.0

      entry_asks : asks S.address L (Sent W.master (W.slave s) bytes ∷ sofar) ≡ with_asking (asking_in (length sofar) (message_in bytes)) (asks S.address L sofar)
      entry_asks =
          ap (λ (b : Bool). if b && same_address (W.slave s) L.address then with_asking (asking_in (length sofar) (message_in bytes)) (asks S.address L sofar) else asks S.address L sofar) (same_self W.master)
          ∙ ap (λ (b : Bool). if b then with_asking (asking_in (length sofar) (message_in bytes)) (asks S.address L sofar) else asks S.address L sofar) (same_self L.address)

      by : IsFresh L.id L.script.uuid (asks S.address L sofar) bytes ⊎ IsSame L.id (asks S.address L sofar) bytes → IsNewlyAsked sc other ok s it bytes sofar
      by (inl f) = record { number = length (asks S.address L sofar) % 65536; request = f.request; is = entry_asks ∙ f.after (length sofar) }
      by (inr f) =
          let P : List Asking → Type 0 = NoneAgain in
          let h = subst P (entry_asks ∙ f.after (length sofar) ∙ ap (again_at (length sofar)) f.is) none in
          absurd (none_repeated (length sofar) f.newest.repeats h.0)

  once_at : (sofar later : List LogEntry) → reverse log ≡ later ++ sofar → NoneAgain (asks S.address L sofar) → IsOnce o quiet sc other ok s it sofar
  once_at [] later split none = omega arith
  once_at (e ∷ sofar) later split none =
      let f = front later (e ∷ sofar) split in
      let P : LogEntry → Type 0 = λ x. IsRun S (x ∷ sofar) in
      let Q : LogEntry → Type 0 = λ x. NoneAgain (asks S.address L (x ∷ sofar)) in
      once_entry o quiet sc other ok s it e sofar f.behaves f.runs.1 f.gives (λ bytes z. new_at bytes sofar (subst P z f.runs) (subst Q z none))
      (once_at sofar (later ++ e ∷ []) (split ∙ sym (append_assoc later (e ∷ []) sofar)) (entry_back S.address L e sofar none))

  none_front : (later sofar : List LogEntry) → NoneAgain (asks S.address L (later ++ sofar)) → NoneAgain (asks S.address L sofar)
  none_front [] sofar h = h
  none_front (e ∷ later) sofar h = none_front later sofar (entry_back S.address L e (later ++ sofar) h)

  pub few_at : (later sofar : List LogEntry) → reverse log ≡ later ++ sofar → NoneAgain (asks S.address L (reverse log)) → length (filter (is_for_slave W s) (waiting o (told sofar))) ≤ 1
  few_at later sofar split none =
      let P : List LogEntry → Type 0 = λ z. NoneAgain (asks S.address L z) in
      let f = front later sofar split in
      let k = one_waits o quiet sc other ok s it sofar f.behaves f.runs (once_at sofar later split (none_front later sofar (subst P split none))) in
      let l = tally_length (is_for_slave W s) (waiting o (told sofar)) in
      omega (arith, k, l)

pub one_request : OneRequestWaits
one_request sc other ok log r o quiet given s it none before after split =
    let e : reverse log ≡ reverse after ++ reverse before = ap (λ (z : List LogEntry). reverse z) split ∙ reverse-append before after in
    let k = few_at sc other ok log r o quiet given s it (reverse after) (reverse before) e none in
    let m = ap (λ (z : List LogEntry). length (filter (is_for_slave (parties sc other) s) (waiting o z))) (told_is before) in
    omega (arith, k, m)
