-- The decided exchanges of a log are those of the master's requests, entry by entry.
use Rattle.std.proofs.Common.{◌≡◌, ℕ, suc, Bool, true, false, if◌then◌else◌, ◌⊎◌, inl, inr, Option, Some, None, List, [], ◌∷◌, map, length, refl, sym, ap, ◌∙◌, subst, arith}
use Rattle.std.specs.Prelude.{◌==◌, ◌&&◌, is_some}
use Rattle.std.proofs.lemmas.Bool.{and_parts, eqb-true, eq-eqb}
use Rattle.std.proofs.lemmas.Bool.Decides.{nat_tests}
use Rattle.dcp_types.specs.declared.addresses.Address.{Address}
use Rattle.dcp_ends.specs.declared.entries.LogEntry.{LogEntry}
use Rattle.dcp_ends.specs.declared.entries.LogEntry.TheVariants.{Sent, Got, Idle, Turn}
use Rattle.dcp_ends.specs.Logs.{same_address}
use Rattle.pdu_layout.specs.Reading.{message_in}
use Rattle.log_spec.specs.Messages.{Note, Role, Request, Answer, Value, Else, role_read}
use Rattle.log_spec.specs.Log as logs
use Rattle.log_spec.specs.Log.{Parties, IsSlaveOf, same, role_heard, requests_sent}
use Rattle.log_spec.specs.Moves.{Move, Comes, Hears, Brings, Turns, Rests, Other, got_move, move, decides, with_newest, decided_after, decided_exchanges}
use Rattle.log_spec.proofs.Moves.{same_is}
use Rattle.master_spec.specs.declared.setups.Slave.{Slave}
use Rattle.master_spec.specs.declared.setups.Setup.{Setup}
use Rattle.master_spec.specs.declared.requests.Answer as heard
use Rattle.master_spec.specs.News.{News, Answers, Hints, Brings as Values, Nothing, news_in, news_of}
use Rattle.master_spec.specs.Requests.{Asking, Decision, asking_in, with_asking, decided_by, with_news, asks}
use Rattle.master_log_laws.specs.Index.Runs.{owed, IsFirstSend, where_it_is, IsRun}
use Rattle.master_log_laws.specs.Index.Laws.{AreHeard}
use Rattle.master_log_laws.specs.Index.Index.{again_at}
use Rattle.master_log_laws.specs.Phases.Laws.{AreDecided, AreOneByOne}
use Rattle.master_log_laws.proofs.Phases.Numbered.{one_by_one}
use Rattle.master_laws.specs.Meets.Laws.{IsParty, ArePartiesOf, note_of}
use Rattle.master_laws.proofs.Meets.Sends.{IsFresh, IsSame}
use Rattle.master_laws.proofs.Meets.Answers.{answer_role}
use Rattle.master_laws.proofs.Meets.Known.{long}
use Rattle.master_laws.proofs.Meets.Asking.{same_as, sends, known, sent_decides}
use Rattle.master_laws.specs.Hears.Laws.{IsAnswerAs, IsDecision, AreDecisions, DecisionsAreTold}
use Rattle.master_laws.proofs.Hears.Reading.{answers_heard}

-- ---- one conversation
as_many : (id : ℕ) (bs : List Asking) (ds : List logs.DecidedRequest) → AreDecided bs → AreDecisions id bs ds → length ds ≡ length bs
as_many id [] ds a h = ap length h
as_many id (b ∷ bs) ds a h = by (λ es k. as_many id bs es a.1 k) b.decision a.0 ds h
  where
    by : ((es : List logs.DecidedRequest) → AreDecisions id bs es → length es ≡ length bs) → (o : Option Decision) → is_some o ≡ true → (ds : List logs.DecidedRequest) → IsDecision id b o (AreDecisions id bs) ds → length ds ≡ suc (length bs)
    by f None e ds h = absurd cc
    by f (Some d) e [] h = absurd h
    by f (Some d) e (x ∷ ds) h = ap (λ (n : ℕ). suc n) (f ds (h.1).1)

again_told : (id n : ℕ) (bs : List Asking) (ds : List logs.DecidedRequest) → AreDecisions id bs ds → AreDecisions id (again_at n bs) ds
again_told id n [] ds h = h
again_told id n (b ∷ bs) ds h = h

unheard : (a : Note) (r : Note) (rs : List Note) (ds : List logs.DecidedRequest) → (a.number == r.number) ≡ false → (if decides a (r ∷ rs) ds then with_newest (r ∷ rs) a ds else ds) ≡ ds
unheard a r rs ds e = grind (arith, nat_tests)

full : (a : Note) (rs : List Note) (ds : List logs.DecidedRequest) → length ds ≡ length rs → (if decides a rs ds then with_newest rs a ds else ds) ≡ ds
full a rs ds e = grind (arith, nat_tests)

opened : (a : Note) (r : Note) (rs : List Note) (ds : List logs.DecidedRequest) → (a.number == r.number) ≡ true → length ds ≡ length rs → (if decides a (r ∷ rs) ds then with_newest (r ∷ rs) a ds else ds) ≡ record { request = r; answer = a } ∷ ds
opened a r rs ds e l = grind (arith, nat_tests)

none_asked : (a : Note) (ds : List logs.DecidedRequest) → (if decides a [] ds then with_newest [] a ds else ds) ≡ ds
none_asked a ds = by (decides a [] ds)
  where
    by : (b : Bool) → (if b then with_newest [] a ds else ds) ≡ ds
    by true = refl
    by false = refl

module _ (id n : ℕ) (a : Note) (answer : heard.Answer) (is : IsAnswerAs id a answer) where
  hearing : (bs : List Asking) (ds : List logs.DecidedRequest) → AreOneByOne bs → AreDecisions id bs ds
      → AreDecisions id (with_news id n (Answers a.number id answer) bs) (if decides a (map (note_of id) bs) ds then with_newest (map (note_of id) bs) a ds else ds)
  hearing [] ds o h = none_asked a ds ∙ h
  hearing (b ∷ bs) ds o h = by (id == id) (eq-eqb id id refl) (a.number == b.number) refl b.decision h refl
    where
      new : Option Decision → Asking
      new x = record { code = b.code; number = b.number; more = b.more; first = b.first; repeats = b.repeats; decision = decided_by x (record { place = n; answer = answer }) }

      rs : List Note
      rs = map (note_of id) bs

      after : List logs.DecidedRequest
      after = if decides a (note_of id b ∷ rs) ds then with_newest (note_of id b ∷ rs) a ds else ds

      P : List logs.DecidedRequest → Type 0
      P z = AreDecisions id (b ∷ bs) z

      Q : Option Decision → List logs.DecidedRequest → Type 0
      Q x z = IsDecision id b (decided_by x (record { place = n; answer = answer })) (AreDecisions id bs) z

      whole : (d : Decision) → b.decision ≡ Some d → length ds ≡ length (note_of id b ∷ rs)
      whole d e = as_many id (b ∷ bs) ds (ap is_some e, (o.1).0) h ∙ ap (λ (k : ℕ). suc k) (sym (long id bs))

      by : (t : Bool) → t ≡ true → (u : Bool) → (a.number == b.number) ≡ u → (x : Option Decision) → IsDecision id b x (AreDecisions id bs) ds → b.decision ≡ x
          → AreDecisions id (if t && u then new b.decision ∷ bs else b ∷ bs) (if decides a (note_of id b ∷ rs) ds then with_newest (note_of id b ∷ rs) a ds else ds)
      by false z u p x k e = absurd cc
      by true z false p x k e = subst P (sym (unheard a (note_of id b) rs ds p)) h
      by true z true p (Some d) k e =
          let R : Option Decision → Type 0 = λ y. Q y (if decides a (note_of id b ∷ rs) ds then with_newest (note_of id b ∷ rs) a ds else ds) in
          let S : List logs.DecidedRequest → Type 0 = λ y. Q (Some d) y in
          subst R (sym e) (subst S (sym (full a (note_of id b ∷ rs) ds (whole d e))) k)
      by true z true p None k e =
          let R : Option Decision → Type 0 = λ y. Q y (if decides a (note_of id b ∷ rs) ds then with_newest (note_of id b ∷ rs) a ds else ds) in
          let S : List logs.DecidedRequest → Type 0 = λ y. Q None y in
          let l : length ds ≡ length rs = as_many id bs ds (o.1).0 k ∙ sym (long id bs) in
          subst R (sym e) (subst S (sym (opened a (note_of id b) rs ds p l)) (refl, (is, k)))

-- ---- what a datagram is to the conversation
-- it is no answer that counts
pub record IsQuiet (id : ℕ) (news : News) (mv : Move) : Type 0 where
  pub decides : (rs : List Note) (ds : List logs.DecidedRequest) → decided_after mv rs ds ≡ ds
  pub tells : (n : ℕ) (bs : List Asking) → with_news id n news bs ≡ bs

pub record IsLoud (id : ℕ) (news : News) (mv : Move) : Type 0 where
  pub note : Note
  pub answer : heard.Answer
  pub hears : mv ≡ Hears note
  pub news_is : news ≡ Answers note.number id answer
  pub is : IsAnswerAs id note answer

no_hear : (w : Parties) (s : ℕ) (at from : Address) (k : Role) → (same at w.master && same from (w.slave s)) ≡ false → (rs : List Note) (ds : List logs.DecidedRequest) → decided_after (got_move w s at from k) rs ds ≡ ds
no_hear w s at from (Request receiver n) e rs ds = by (same at (w.slave s))
  where
    by : (b : Bool) → decided_after (if b then Comes from receiver n else Other) rs ds ≡ ds
    by true = refl
    by false = refl
no_hear w s at from (Answer sender n) e rs ds = by (same at (w.slave s)) (same at w.master && same from (w.slave s)) e
  where
    by : (b c : Bool) → c ≡ false → decided_after (if b then Rests else (if c && (sender == s) then Hears n else Other)) rs ds ≡ ds
    by true c z = refl
    by false false z = refl
    by false true z = absurd cc
no_hear w s at from (Value id n) e rs ds = by (same at (w.slave s))
  where
    by : (b : Bool) → decided_after (if b then Brings from id n else Other) rs ds ≡ ds
    by true = refl
    by false = refl
no_hear w s at from Else e rs ds = by (same at (w.slave s))
  where
    by : (b : Bool) → decided_after (if b then Rests else Other) rs ds ≡ ds
    by true = refl
    by false = refl

other_sender : (id n number sender : ℕ) (answer : heard.Answer) (bs : List Asking) → (sender == id) ≡ false → with_news id n (Answers number sender answer) bs ≡ bs
other_sender id n number sender answer [] e = refl
other_sender id n number sender answer (b ∷ bs) e =
    ap (λ (t : Bool). if t && (number == b.number) then record { code = b.code; number = b.number; more = b.more; first = b.first; repeats = b.repeats; decision = decided_by b.decision (record { place = n; answer = answer }) } ∷ bs else b ∷ bs) e

module _ (setup : Setup) (h : AreHeard setup) (w : Parties) (ps : ArePartiesOf setup w) (s : ℕ) (is : IsSlaveOf w s) (slave : Slave) (p : IsParty setup w s slave) where
  at_master : (a : Address) → same a w.master ≡ same_address a setup.address
  at_master a = same_as a w.master ∙ ap (same_address a) ps.master

  at_slave : (a : Address) → same a (w.slave s) ≡ same_address a slave.address
  at_slave a = same_as a (w.slave s) ∙ ap (same_address a) (sym p.address)

  counts : (at from : Address) (bytes : List ℕ) → same at w.master ≡ true → same from (w.slave s) ≡ true → IsQuiet s (news_of bytes) (got_move w s at from (role_heard w bytes)) ⊎ IsLoud s (news_of bytes) (got_move w s at from (role_heard w bytes))
  unfolding news_of
  counts at from bytes x y = by (role_read (message_in bytes)) refl
    where
      role : role_heard w bytes ≡ role_read (message_in bytes)
      role = ap role_read (ps.read bytes)

      elsewhere : same at (w.slave s) ≡ false
      elsewhere = no (same at (w.slave s)) refl
        where
          no : (b : Bool) → same at (w.slave s) ≡ b → b ≡ false
          no true q = absurd ((ps.apart).master s is (sym (same_is at (w.slave s) q) ∙ same_is at w.master x))
          no false q = refl

      -- where it is no answer, it is none to the master
      silent : (k : Role) → role_read (message_in bytes) ≡ k → ((sender : ℕ) (n : Note) → k ≡ Answer sender n → ⊥) → (n : ℕ) (bs : List Asking) → with_news s n (news_in (message_in bytes)) bs ≡ bs
      silent k e never n bs = go (news_in (message_in bytes)) refl
        where
          go : (news : News) → news_in (message_in bytes) ≡ news → with_news s n news bs ≡ bs
          go (Answers number sender a) q = let r = answer_role number sender a (message_in bytes) q in absurd (never sender r.0 (sym e ∙ (r.1).0))
          go (Hints sender) q = refl
          go (Values number id payload) q = refl
          go Nothing q = refl

      P : Role → Type 0
      P k = IsQuiet s (news_in (message_in bytes)) (got_move w s at from k) ⊎ IsLoud s (news_in (message_in bytes)) (got_move w s at from k)

      here : (k : Role) → role_read (message_in bytes) ≡ k → P k → P (role_heard w bytes)
      here k e q = subst P (sym (role ∙ e)) q

      by : (k : Role) → role_read (message_in bytes) ≡ k → P (role_heard w bytes)
      by (Request receiver n) e = here (Request receiver n) e (inl (record { decides = λ rs ds. go rs ds (same at (w.slave s)); tells = silent (Request receiver n) e (λ sender m z. cc) }))
        where
          go : (rs : List Note) (ds : List logs.DecidedRequest) (b : Bool) → decided_after (if b then Comes from receiver n else Other) rs ds ≡ ds
          go rs ds true = refl
          go rs ds false = refl
      by (Value id n) e = here (Value id n) e (inl (record { decides = λ rs ds. go rs ds (same at (w.slave s)); tells = silent (Value id n) e (λ sender m z. cc) }))
        where
          go : (rs : List Note) (ds : List logs.DecidedRequest) (b : Bool) → decided_after (if b then Brings from id n else Other) rs ds ≡ ds
          go rs ds true = refl
          go rs ds false = refl
      by Else e = here Else e (inl (record { decides = λ rs ds. go rs ds (same at (w.slave s)); tells = silent Else e (λ sender m z. cc) }))
        where
          go : (rs : List Note) (ds : List logs.DecidedRequest) (b : Bool) → decided_after (if b then Rests else Other) rs ds ≡ ds
          go rs ds true = refl
          go rs ds false = refl
      by (Answer sender n) e = here (Answer sender n) e (mine (sender == s) refl)
        where
          z : (message_in bytes ≡ Some n.message) × ((a : heard.Answer) × IsAnswerAs sender n a)
          z = answers_heard bytes sender n e

          a : heard.Answer
          a = (z.1).0

          news : news_in (message_in bytes) ≡ Answers n.number sender a
          news = ap news_in z.0 ∙ (z.1).1

          R : Bool → Move
          R t = if same at (w.slave s) then Rests else (if (same at w.master && same from (w.slave s)) && t then Hears n else Other)

          loud : (b c d f : Bool) → b ≡ false → c ≡ true → d ≡ true → f ≡ true → (if b then Rests else (if (c && d) && f then Hears n else Other)) ≡ Hears n
          loud b c d f k l m o = grind arith

          quiet : (b c : Bool) (rs : List Note) (ds : List logs.DecidedRequest) (f : Bool) → f ≡ false → decided_after (if b then Rests else (if c && f then Hears n else Other)) rs ds ≡ ds
          quiet true c rs ds f k = refl
          quiet false true rs ds false k = refl
          quiet false false rs ds f k = refl
          quiet false true rs ds true k = absurd cc

          mine : (t : Bool) → (sender == s) ≡ t → P (Answer sender n)
          mine true q =
              let k = eqb-true sender s q in
              let I : ℕ → Type 0 = λ i. news_in (Some n.message) ≡ Answers n.number i a in
              inr (record { note = n; answer = a; hears = loud (same at (w.slave s)) (same at w.master) (same from (w.slave s)) (sender == s) elsewhere x y q; news_is = news ∙ ap (λ (i : ℕ). Answers n.number i a) k; is = subst I k (z.1).1 })
          mine false q =
              inl (record {
                decides = λ rs ds. quiet (same at (w.slave s)) (same at w.master && same from (w.slave s)) rs ds (sender == s) q;
                tells = λ i bs. (ap (λ (v : News). with_news s i v bs) news ∙ other_sender s i n.number sender a bs q);
              })

  abbrev K : List LogEntry → Type 0
  K log = AreDecisions s (asks setup.address slave log) (decided_exchanges w s log)

  sent_at : (from to : Address) (bytes : List ℕ) (log : List LogEntry) → IsRun setup (Sent from to bytes ∷ log) → K log → K (Sent from to bytes ∷ log)
  sent_at from to bytes log run k = by (same_address from setup.address && same_address to slave.address) refl
    where
      cs : List Asking
      cs = asks setup.address slave log

      P : Bool → List logs.DecidedRequest → Type 0
      P b ds = AreDecisions s (if b then with_asking (asking_in (length log) (message_in bytes)) (asks setup.address slave log) else asks setup.address slave log) ds

      decides' : decided_exchanges w s (Sent from to bytes ∷ log) ≡ decided_exchanges w s log
      decides' = sent_decides w s from to bytes (role_heard w bytes) (requests_sent w s log) (decided_exchanges w s log)

      first : same_address from setup.address ≡ true → IsFirstSend (owed setup log) to bytes
      first x = let Q : Bool → Type 0 = λ b. where_it_is b (IsFirstSend (owed setup log) to bytes) in subst Q x run.0

      asked : IsFresh slave.id slave.script.uuid (asks setup.address slave log) bytes ⊎ IsSame slave.id (asks setup.address slave log) bytes → AreDecisions s (with_asking (asking_in (length log) (message_in bytes)) (asks setup.address slave log)) (decided_exchanges w s log)
      asked (inl f) = let Q : List Asking → Type 0 = λ z. AreDecisions s z (decided_exchanges w s log) in subst Q (sym (f.after (length log))) k
      asked (inr f) = let Q : List Asking → Type 0 = λ z. AreDecisions s z (decided_exchanges w s log) in subst Q (sym (f.after (length log))) (again_told s (length log) (asks setup.address slave log) (decided_exchanges w s log) k)

      by : (b : Bool) → (same_address from setup.address && same_address to slave.address) ≡ b → K (Sent from to bytes ∷ log)
      by true x =
          let z = and_parts (same_address from setup.address) (same_address to slave.address) x in
          let Q : Bool → Type 0 = λ b. P b (decided_exchanges w s (Sent from to bytes ∷ log)) in
          let R : List logs.DecidedRequest → Type 0 = λ ds. P true ds in
          subst Q (sym x) (subst R (sym decides') (asked (sends setup h w ps s is slave p log run.1 to bytes (first z.0) z.1)))
      by false x =
          let Q : Bool → Type 0 = λ b. P b (decided_exchanges w s (Sent from to bytes ∷ log)) in
          let R : List logs.DecidedRequest → Type 0 = λ ds. P false ds in
          subst Q (sym x) (subst R (sym decides') k)

  got_at : (at from : Address) (bytes : List ℕ) (log : List LogEntry) → IsRun setup log → K log → K (Got at from bytes ∷ log)
  got_at at from bytes log run k = by (same_address at setup.address && same_address from slave.address) refl
    where
      n : ℕ
      n = length log

      mv : Move
      mv = move w s (Got at from bytes)

      P : Bool → List logs.DecidedRequest → Type 0
      P b ds = AreDecisions s (if b then with_news slave.id (length log) (news_of bytes) (asks setup.address slave log) else asks setup.address slave log) ds

      both : (same at w.master && same from (w.slave s)) ≡ (same_address at setup.address && same_address from slave.address)
      both = ap (λ (b : Bool). b && same from (w.slave s)) (at_master at) ∙ ap (λ (b : Bool). same_address at setup.address && b) (at_slave from)

      ordered : AreOneByOne (asks setup.address slave log)
      ordered = one_by_one setup h log run (p.is_in).0 slave (p.is_in).1

      requests : requests_sent w s log ≡ map (note_of s) (asks setup.address slave log)
      requests = (known setup h w ps s is slave p log run).requests

      heard' : IsQuiet s (news_of bytes) (move w s (Got at from bytes)) ⊎ IsLoud s (news_of bytes) (move w s (Got at from bytes))
          → AreDecisions s (with_news s (length log) (news_of bytes) (asks setup.address slave log)) (decided_exchanges w s (Got at from bytes ∷ log))
      heard' (inl q) =
          let Q : List Asking → Type 0 = λ z. AreDecisions s z (decided_exchanges w s (Got at from bytes ∷ log)) in
          let R : List logs.DecidedRequest → Type 0 = λ z. AreDecisions s (asks setup.address slave log) z in
          subst Q (sym (q.tells (length log) (asks setup.address slave log))) (subst R (sym (q.decides (requests_sent w s log) (decided_exchanges w s log))) k)
      heard' (inr q) =
          let Q : News → Type 0 = λ z. AreDecisions s (with_news s (length log) z (asks setup.address slave log)) (decided_exchanges w s (Got at from bytes ∷ log)) in
          let R : Move → Type 0 = λ m. AreDecisions s (with_news s (length log) (Answers q.note.number s q.answer) (asks setup.address slave log)) (decided_after m (requests_sent w s log) (decided_exchanges w s log)) in
          let S : List Note → Type 0 = λ z. AreDecisions s (with_news s (length log) (Answers q.note.number s q.answer) (asks setup.address slave log)) (if decides q.note z (decided_exchanges w s log) then with_newest z q.note (decided_exchanges w s log) else decided_exchanges w s log) in
          subst Q (sym q.news_is) (subst R (sym q.hears) (subst S (sym requests) (hearing s (length log) q.note q.answer q.is (asks setup.address slave log) (decided_exchanges w s log) ordered k)))

      by : (b : Bool) → (same_address at setup.address && same_address from slave.address) ≡ b → K (Got at from bytes ∷ log)
      by true x =
          let z = and_parts (same_address at setup.address) (same_address from slave.address) x in
          let Q : Bool → Type 0 = λ b. P b (decided_exchanges w s (Got at from bytes ∷ log)) in
          let R : ℕ → Type 0 = λ i. AreDecisions s (with_news i (length log) (news_of bytes) (asks setup.address slave log)) (decided_exchanges w s (Got at from bytes ∷ log)) in
          subst Q (sym x) (subst R (sym p.id) (heard' (counts at from bytes (at_master at ∙ z.0) (at_slave from ∙ z.1))))
      by false x =
          let Q : Bool → Type 0 = λ b. P b (decided_exchanges w s (Got at from bytes ∷ log)) in
          let R : List logs.DecidedRequest → Type 0 = λ ds. P false ds in
          subst Q (sym x) (subst R (sym (no_hear w s at from (role_heard w bytes) (both ∙ x) (requests_sent w s log) (decided_exchanges w s log))) k)

  idle_decides : (at : Address) (rs : List Note) (ds : List logs.DecidedRequest) → decided_after (move w s (Idle at)) rs ds ≡ ds
  idle_decides at rs ds = by (same at (w.slave s))
    where
      by : (b : Bool) → decided_after (if b then Rests else Other) rs ds ≡ ds
      by true = refl
      by false = refl

  turn_decides : (at : Address) (rs : List Note) (ds : List logs.DecidedRequest) → decided_after (move w s (Turn at)) rs ds ≡ ds
  turn_decides at rs ds = by (same at (w.slave s))
    where
      by : (b : Bool) → decided_after (if b then Turns else Other) rs ds ≡ ds
      by true = refl
      by false = refl

  pub decisions : (log : List LogEntry) → IsRun setup log → K log
  decisions [] run = refl
  decisions (Sent from to bytes ∷ log) run = sent_at from to bytes log run (decisions log run.1)
  decisions (Got at from bytes ∷ log) run = got_at at from bytes log run.1 (decisions log run.1)
  decisions (Idle at ∷ log) run = let P : List logs.DecidedRequest → Type 0 = λ z. AreDecisions s (asks setup.address slave log) z in subst P (sym (idle_decides at (requests_sent w s log) (decided_exchanges w s log))) (decisions log run.1)
  decisions (Turn at ∷ log) run = let P : List logs.DecidedRequest → Type 0 = λ z. AreDecisions s (asks setup.address slave log) z in subst P (sym (turn_decides at (requests_sent w s log) (decided_exchanges w s log))) (decisions log run.1)

pub are_told : DecisionsAreTold
are_told setup h w ps log run s is slave p = decisions setup h w ps s is slave p log run
