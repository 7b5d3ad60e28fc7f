-- Where the master makes something of an answer: which request it is, where the slave took it, and what else was decided then.
use Rattle.std.proofs.Common.{◌≡◌, ℕ, ◌-◌, ◌≤◌, Bool, true, false, if◌then◌else◌, inl, inr, Option, Some, None, List, [], ◌∷◌, ◌++◌, length, refl, sym, ap, ◌∙◌, subst, arith}
use Rattle.std.specs.Prelude.{◌==◌, ◌&&◌}
use Rattle.std.proofs.lemmas.Bool.{eq-eqb, eqb-true}
use Rattle.std.proofs.lemmas.List.{append_assoc, length-map}
use Rattle.dcp_types.specs.declared.addresses.Address.{Address}
use Rattle.dcp_ends.specs.declared.entries.LogEntry.{LogEntry}
use Rattle.dcp_ends.specs.declared.entries.LogEntry.TheVariants.{Got}
use Rattle.dcp_ends.specs.Logs.{same_address}
use Rattle.slave_desc.specs.declared.descriptions.SlaveDesc.{SlaveDesc}
use Rattle.scenario.specs.declared.scenarios.Scenario.{Scenario}
use Rattle.scenario.specs.Sound.{IsScenario}
use Rattle.log_spec.specs.Log.{Parties, IsSlaveOf, requests_sent, DecidedRequest}
use Rattle.log_spec.specs.Moves.{decided_exchanges}
use Rattle.lockstep_laws.specs.Cast.{ConversingSlaves}
use Rattle.lockstep_laws.specs.Runs.{Behaves}
use Rattle.lockstep_laws.proofs.Conversation.{earlier, drop_later, known}
use Rattle.lockstep_laws.proofs.Talk.{Behind, requests_of, taken_length}
use Rattle.master_spec.specs.declared.requests.Request.{Request}
use Rattle.master_spec.specs.declared.requests.Answer.{Answer}
use Rattle.master_spec.specs.declared.setups.Slave.{Slave}
use Rattle.master_spec.specs.declared.setups.Setup.{Setup}
use Rattle.master_spec.specs.Setup.{setup_from, slave_of}
use Rattle.master_spec.specs.News.{News, Answers, Hints, Brings, Nothing, news_of}
use Rattle.master_spec.specs.Course.{payload_size, mark_for, mark_of_gram}
use Rattle.master_spec.specs.Conversation.{if_open}
use Rattle.master_spec.specs.Requests.{Asking, Decision, decided_by, with_news, asks}
use Rattle.master_spec.specs.Marks.{Mark, Answered, Hinted, Brought, newest_number, open_request}
use Rattle.master_log_laws.specs.Index.Runs.{IsRun}
use Rattle.master_log_laws.specs.Index.Index.{Placed, marks_of, askings_told, IsHeadRequest}
use Rattle.master_log_laws.specs.Index.Follows.{talk_with}
use Rattle.master_log_laws.specs.Index.Laws.{AreHeard}
use Rattle.master_log_laws.specs.Phases.Laws.{AreDecided, AreOneByOne}
use Rattle.master_log_laws.proofs.Phases.Numbered.{one_by_one}
use Rattle.master_laws.specs.Meets.Laws.{note_of}
use Rattle.master_laws.proofs.Meets.Asking.{are_asked}
use Rattle.master_laws.specs.Hears.Laws.{IsAnswerAs, AreDecisions}
use Rattle.master_laws.proofs.Hears.Decided.{are_told}
use Rattle.lockstep_laws.specs.Models.Scenarios.{slave_numbered}
use Rattle.master_log_laws.proofs.Scenarios.Heard.{setups_heard}
use Rattle.slave_laws.specs.Data.Whole.{slaves_asked}
use Rattle.run_laws.specs.Laws.{parties}
use Rattle.run_laws.proofs.Runs.{party, are_parties}
use Rattle.run_laws.proofs.Headline.Behaving.{are_slaves}
use Rattle.completeness_laws.proofs.Delivery.Ended.{numbered_at, run_front, TalkFacts}
use Rattle.completeness_laws.proofs.Delivery.Askings.{FirstAt, AreAt, are_at, at_one}
use Rattle.completeness_laws.proofs.Delivery.Since.{served, TakenIn, taken_in}
use Rattle.completeness_laws.proofs.Delivery.Unanswered.{decided_length}

clash : true ≡ false → ⊥
clash z = cc

-- ---- the mark of an answer
pub record IsAnswer (slave : Slave) (marks : List Mark) (from : Address) (bytes : List ℕ) (request : Request) (answer : Answer) : Type 0 where
  pub number : ℕ
  pub of_slave : same_address from slave.address ≡ true
  pub news : news_of bytes ≡ Answers number slave.id answer
  pub newest : number ≡ newest_number marks
  pub opens : open_request marks ≡ Some request

pub answer_made : (slave : Slave) (marks : List Mark) (from : Address) (bytes : List ℕ) (request : Request) (answer : Answer) → mark_of_gram (talk_with slave marks) from bytes ≡ Some (Answered request answer) → IsAnswer slave marks from bytes request answer
answer_made slave marks from bytes request answer h = by (same_address from slave.address) refl h
  where
    never : (m : Mark) → None ≡ Some m → ⊥
    never m z = cc

    opened : (number : ℕ) (a : Answer) → news_of bytes ≡ Answers number slave.id a → same_address from slave.address ≡ true → (o : Option Request) → open_request marks ≡ o → if_open o number (newest_number marks) a ≡ Some (Answered request answer) → IsAnswer slave marks from bytes request answer
    opened number a n c None q z = absurd cc
    opened number a n c (Some r) q z = two (number == newest_number marks) refl z
      where
        two : (b : Bool) → (number == newest_number marks) ≡ b → (if b then Some (Answered r a) else None) ≡ Some (Answered request answer) → IsAnswer slave marks from bytes request answer
        two true w y =
            let u : r ≡ request = cc in
            let v : a ≡ answer = cc in
            record { number = number; of_slave = c; news = n ∙ ap (λ (x : Answer). Answers number slave.id x) v; newest = eqb-true number (newest_number marks) w; opens = q ∙ ap (λ (x : Request). Some x) u }
        two false w y = absurd cc

    heard : same_address from slave.address ≡ true → (k : News) → news_of bytes ≡ k → mark_for slave marks k ≡ Some (Answered request answer) → IsAnswer slave marks from bytes request answer
    heard c (Answers number sender a) n z = two (sender == slave.id) refl z
      where
        two : (b : Bool) → (sender == slave.id) ≡ b → (if b then if_open (open_request marks) number (newest_number marks) a else None) ≡ Some (Answered request answer) → IsAnswer slave marks from bytes request answer
        two true w y = opened number a (n ∙ ap (λ (i : ℕ). Answers number i a) (eqb-true sender slave.id w)) c (open_request marks) refl y
        two false w y = absurd cc
    heard c (Hints sender) n z = two (sender == slave.id) z
      where
        two : (b : Bool) → (if b then Some Hinted else None) ≡ Some (Answered request answer) → IsAnswer slave marks from bytes request answer
        two true y = absurd cc
        two false y = absurd cc
    heard c (Brings number id payload) n z = two ((id == slave.id) && (length payload == payload_size slave.types)) z
      where
        two : (b : Bool) → (if b then Some (Brought number payload) else None) ≡ Some (Answered request answer) → IsAnswer slave marks from bytes request answer
        two true y = absurd cc
        two false y = absurd cc
    heard c Nothing n z = absurd cc

    by : (b : Bool) → same_address from slave.address ≡ b → (if b then mark_for slave marks (news_of bytes) else None) ≡ Some (Answered request answer) → IsAnswer slave marks from bytes request answer
    by true c z = heard c (news_of bytes) refl z
    by false c z = absurd cc

-- ---- what is known then
module _ (sc : Scenario) (other : SlaveDesc) (ok : IsScenario sc) (s : ℕ) (it : IsSlaveOf (parties sc other) s) where
  abbrev W : Parties
  W = parties sc other

  abbrev X : ConversingSlaves
  X = slaves_asked sc other

  abbrev S : Setup
  S = setup_from sc

  abbrev L : Slave
  L = slave_of sc s (slave_numbered sc other s)

  heard : AreHeard S
  heard = (setups_heard sc ok).heard

  pub told : (log : List LogEntry) → IsRun S log → AreDecisions s (asks S.address L log) (decided_exchanges W s log)
  told log run = are_told S heard W (are_parties sc other ok) log run s it L (party sc other ok s it)

  pub asked : (log : List LogEntry) → IsRun S log → length (requests_sent W s log) ≡ length (asks S.address L log)
  asked log run = ap length (are_asked S heard W (are_parties sc other ok) log run s it L (party sc other ok s it)) ∙ length-map (asks S.address L log) (note_of s)

  -- what was decided was served, and what was served was asked
  pub record ServesAt (log : List LogEntry) : Type 0 where
    pub behind : Behind (decided_exchanges W s log) (served sc other s log)
    pub few : length (served sc other s log) ≤ length (asks S.address L log)

  pub serves_at : (log : List LogEntry) → Behaves W X log → IsRun S log → ServesAt log
  serves_at log b run =
      let k = known W X (are_slaves sc other ok) s it log b in
      record { behind = k.talk.decided; few = fewer k.talk.taken }
    where
      a : length (requests_sent W s log) ≡ length (asks S.address L log)
      a = asked log run

      l : length (requests_of (served sc other s log)) ≡ length (served sc other s log)
      l = taken_length (served sc other s log)

      fewer : Behind (requests_of (served sc other s log)) (requests_sent W s log) → length (served sc other s log) ≤ length (asks S.address L log)
      fewer (inl e) = let z = ap length e in omega (arith, z, a, l)
      fewer (inr (y, e)) = let z = ap length e in omega (arith, z, a, l)

  pub record DecidesHere (sofar : List LogEntry) (e : LogEntry) (request : Request) (answer : Answer) : Type 0 where
    pub newest : Asking
    pub bs : List Asking
    pub asks_is : asks S.address L sofar ≡ newest ∷ bs
    pub x : DecidedRequest
    pub es : List DecidedRequest
    pub request_is : x.request ≡ note_of s newest
    pub answer_is : IsAnswerAs s x.answer answer
    pub rest : AreDecisions s bs es
    pub all : AreDecided bs
    pub served_is : served sc other s (e ∷ sofar) ≡ x ∷ es
    pub first : FirstAt S.address L sofar newest bs
    pub taken : TakenIn sc other s (e ∷ (first.part ++ first.entry ∷ [])) first.base x es
    pub size : length es ≡ length bs

  module _ (sofar : List LogEntry) (e : LogEntry) (b : Behaves W X (e ∷ sofar)) (run : IsRun S (e ∷ sofar)) (t : TalkFacts sc other ok s it sofar) (at from : Address) (bytes : List ℕ) (is : e ≡ Got at from bytes) (own : same_address at S.address ≡ true) (request : Request) (answer : Answer)
      (made : IsAnswer L (marks_of t.follows.xs) from bytes request answer) where
    abbrev xs : List Placed
    xs = t.follows.xs

    tell : asks S.address L sofar ≡ askings_told xs
    tell = (t.follows.tracks).is

    head : IsHeadRequest (Some request) (newest_number (marks_of xs)) (asks S.address L sofar)
    head =
        let P : List Asking → Type 0 = λ z. IsHeadRequest (Some request) (newest_number (marks_of xs)) z in
        let Q : Option Request → Type 0 = λ o. IsHeadRequest o (newest_number (marks_of xs)) (askings_told xs) in
        subst P (sym tell) (subst Q made.opens (t.follows.tracks).head)

    pub decides : DecidesHere sofar e request answer
    decides = by (asks S.address L sofar) refl head
      where
        order : AreOneByOne (asks S.address L sofar)
        order = one_by_one S heard sofar run.1 (s - 1) L (numbered_at sc other ok s it)

        by : (os : List Asking) → asks S.address L sofar ≡ os → IsHeadRequest (Some request) (newest_number (marks_of xs)) os → DecidesHere sofar e request answer
        by [] z h = absurd h
        by (c ∷ bs) z h = two (decided_exchanges W s (e ∷ sofar)) refl (subst D after (told (e ∷ sofar) run))
          where
            D : List Asking → Type 0
            D os = AreDecisions s os (decided_exchanges W s (e ∷ sofar))

            d : Decision
            d = record { place = length sofar; answer = answer }

            after : asks S.address L (e ∷ sofar) ≡ record { code = c.code; number = c.number; more = c.more; first = c.first; repeats = c.repeats; decision = Some (record { place = length sofar; answer = answer }) } ∷ bs
            after =
                let P : LogEntry → List Asking = λ (y : LogEntry). asks S.address L (y ∷ sofar) in
                let n : made.number ≡ c.number = made.newest ∙ sym h.0 in
                ap P is
                ∙ ap (λ (w : Bool). if w then with_news s (length sofar) (news_of bytes) (asks S.address L sofar) else asks S.address L sofar) (both (same_address at S.address) (same_address from L.address) own made.of_slave)
                ∙ ap (λ (k : News). with_news s (length sofar) k (asks S.address L sofar)) made.news
                ∙ ap (λ (os : List Asking). with_news s (length sofar) (Answers made.number s answer) os) z
                ∙ ap (λ (w : Bool). if w then record { code = c.code; number = c.number; more = c.more; first = c.first; repeats = c.repeats; decision = decided_by c.decision (record { place = length sofar; answer = answer }) } ∷ bs else c ∷ bs) (both (s == s) (made.number == c.number) (eq-eqb s s refl) (eq-eqb made.number c.number n))
                ∙ ap (λ (o : Option Decision). record { code = c.code; number = c.number; more = c.more; first = c.first; repeats = c.repeats; decision = decided_by o (record { place = length sofar; answer = answer }) } ∷ bs) (h.1).0
              where
                both : (a b : Bool) → a ≡ true → b ≡ true → (a && b) ≡ true
                both a b x y = grind arith

            all : AreDecided bs
            all = let R : List Asking → Type 0 = λ x. AreOneByOne x in ((subst R z order).1).0

            two : (ds : List DecidedRequest) → decided_exchanges W s (e ∷ sofar) ≡ ds
                → AreDecisions s (record { code = c.code; number = c.number; more = c.more; first = c.first; repeats = c.repeats; decision = Some (record { place = length sofar; answer = answer }) } ∷ bs) (decided_exchanges W s (e ∷ sofar)) → DecidesHere sofar e request answer
            two ds y k = three ds y (subst E y k)
              where
                E : List DecidedRequest → Type 0
                E zs = AreDecisions s (record { code = c.code; number = c.number; more = c.more; first = c.first; repeats = c.repeats; decision = Some (record { place = length sofar; answer = answer }) } ∷ bs) zs

                three : (ds : List DecidedRequest) → decided_exchanges W s (e ∷ sofar) ≡ ds
                    → AreDecisions s (record { code = c.code; number = c.number; more = c.more; first = c.first; repeats = c.repeats; decision = Some (record { place = length sofar; answer = answer }) } ∷ bs) ds → DecidesHere sofar e request answer
                three [] y k = absurd k
                three (x ∷ es) y k =
                    record { newest = c; bs = bs; asks_is = z; x = x; es = es; request_is = k.0; answer_is = (k.1).0; rest = (k.1).1; all = all; served_is = serves; first = first; taken = taking; size = size }
                  where
                    size : length es ≡ length bs
                    size = decided_length s bs es all (k.1).1

                    here : ServesAt (e ∷ sofar)
                    here = serves_at (e ∷ sofar) b run

                    serves : served sc other s (e ∷ sofar) ≡ x ∷ es
                    serves = exact here.behind
                      where
                        exact : Behind (decided_exchanges W s (e ∷ sofar)) (served sc other s (e ∷ sofar)) → served sc other s (e ∷ sofar) ≡ x ∷ es
                        exact (inl q) = sym q ∙ y
                        exact (inr (w, q)) =
                            let n = ap length q in
                            let m = ap length y in
                            let l = ap length after in
                            let few = here.few in
                            absurd (omega (arith, n, m, l, few, size))

                    first : FirstAt S.address L sofar c bs
                    first =
                        let P : List Asking → Type 0 = λ os. AreAt S.address L sofar os in
                        (at_one S.address L sofar [] c bs (subst P z (are_at S.address L sofar))).first

                    run_base : IsRun S first.base
                    run_base = let P : List LogEntry → Type 0 = λ w. IsRun S w in (run_front S first.part (first.entry ∷ first.base) (subst P first.is run.1)).1

                    behaves_base : Behaves W X first.base
                    behaves_base =
                        let P : List LogEntry → Type 0 = λ w. Behaves W X w in
                        earlier W X (are_slaves sc other ok) first.entry first.base (drop_later W X (are_slaves sc other ok) first.part (first.entry ∷ first.base) (subst P first.is (earlier W X (are_slaves sc other ok) e sofar b)))

                    few : length (served sc other s first.base) ≤ length es
                    few =
                        let a = (serves_at first.base behaves_base run_base).few in
                        let l = ap length first.before in
                        omega (arith, a, l, size)

                    taking : TakenIn sc other s (e ∷ (first.part ++ first.entry ∷ [])) first.base x es
                    taking =
                        let w : e ∷ ((first.part ++ first.entry ∷ []) ++ first.base) ≡ e ∷ sofar = ap (λ (v : List LogEntry). e ∷ v) (append_assoc first.part (first.entry ∷ []) first.base ∙ sym first.is) in
                        taken_in sc other s (e ∷ (first.part ++ first.entry ∷ [])) first.base x es (ap (served sc other s) w ∙ serves) few
