-- The master asks in turn: entry by entry.
use Rattle.std.proofs.Common.{◌≡◌, ℕ, ◌%◌, Bool, true, false, if◌then◌else◌, ◌⊎◌, inl, inr, Option, Some, None, List, [], ◌∷◌, map, length, refl, sym, ap, ◌∙◌, subst, arith}
use Rattle.std.specs.Prelude.{◌==◌, ◌&&◌, slice_get}
use Rattle.std.specs.List.{cons_option}
use Rattle.std.proofs.lemmas.Bool.{and_parts, cond-true, eq-eqb}
use Rattle.dcp_types.specs.declared.addresses.Address.{Address}
use Rattle.dcp_ends.specs.declared.entries.LogEntry.{LogEntry}
use Rattle.dcp_ends.specs.declared.entries.LogEntry.TheVariants.{Sent, Got, Idle, Turn}
use Rattle.dcp_ends.specs.Events.{Send}
use Rattle.dcp_ends.specs.Logs.{same_address}
use Rattle.pdu_layout.specs.Reading.{message_in}
use Rattle.log_spec.specs.Messages.{Note, Role, Request, Answer, Value, Else, role_read}
use Rattle.log_spec.specs.Channel.{Repeats}
use Rattle.log_spec.specs.Log.{Parties, IsSlaveOf, same, role_heard, Requests, in_channel, sends_in, requests_sent, DecidedRequest}
use Rattle.log_spec.specs.Moves.{Move, Asks, Comes, Tells, Hears, Brings, Turns, Rests, Other, sent_move, got_move, move, decided_after, decided_exchanges}
use Rattle.log_spec.proofs.Moves.{same_is, asked, requests_by_move}
use Rattle.master_spec.specs.declared.reports.Report.{Report}
use Rattle.master_spec.specs.declared.setups.Slave.{Slave}
use Rattle.master_spec.specs.declared.setups.Setup.{Setup}
use Rattle.master_spec.specs.Marks.{Mark}
use Rattle.master_spec.specs.News.{News, Answers, Hints, Brings as Values, Nothing, news_in, news_of}
use Rattle.master_spec.specs.Setup.{jobs_of}
use Rattle.master_spec.specs.Requests.{Asking, asking_in, with_asking, with_news, asks}
use Rattle.master_log_laws.specs.Asking.Legal.{AreLegal, GoesByRule}
use Rattle.master_log_laws.proofs.Asking.Legal.{going}
use Rattle.master_log_laws.specs.Index.Runs.{events_of_master, course_at, owed, IsFirstSend, where_it_is, IsRun}
use Rattle.master_log_laws.specs.Index.Laws.{AreHeard}
use Rattle.master_log_laws.specs.Index.Index.{ReadBack, first_at, again_at, Owes, marks_of}
use Rattle.master_log_laws.specs.Index.Follows.{mine, talk_with}
use Rattle.master_log_laws.proofs.Index.Laws.{listens}
use Rattle.master_log_laws.proofs.Index.Reported.{reported}
use Rattle.master_log_laws.proofs.Index.Runs.{followed, with_at}
use Rattle.master_laws.specs.Meets.Laws.{IsParty, ArePartiesOf, note_of, register_for, register_note, IsNextRequest, MayAsk, RequestsAreAsked, MasterAsksInTurn}
use Rattle.master_laws.proofs.Meets.Sends.{role_told, IsFresh, IsSame, sends_now}
use Rattle.master_laws.proofs.Meets.Answers.{answer_role}
use Rattle.master_laws.proofs.Meets.Known.{Known, IsHeardAs, all_done, long, fresh_known, same_known, repeats, other_known, heard_known}

-- ---- addresses
pub same_as : (a b : Address) → same a b ≡ same_address a b
unfolding same
same_as a b = refl

pub mine_first : (a to : Address) (bytes : List ℕ) (posts : List Send) → IsFirstSend posts to bytes → same_address to a ≡ true → (more : List (List ℕ)) × (mine a posts ≡ bytes ∷ more)
mine_first a to bytes [] f e = absurd f
mine_first a to bytes (p ∷ ps) f e =
    let z : same_address p.to a ≡ true = ap (λ (x : Address). same_address x a) f.0 ∙ e in
    (mine a ps, cond-true (same_address p.to a) (p.bytes ∷ mine a ps) (mine a ps) z ∙ ap (λ (x : List ℕ). x ∷ mine a ps) f.1)

-- ---- what may be asked
no_ask : (w : Parties) (s uuid : ℕ) (log : List LogEntry) (mv : Move) → asked mv ≡ None → MayAsk w s uuid mv log
no_ask w s uuid log (Asks n) e = absurd cc
no_ask w s uuid log (Comes from receiver n) e = tt
no_ask w s uuid log (Tells to bytes) e = tt
no_ask w s uuid log (Hears n) e = tt
no_ask w s uuid log (Brings from id n) e = tt
no_ask w s uuid log Turns e = tt
no_ask w s uuid log Rests e = tt
no_ask w s uuid log Other e = tt

one_ask : (w : Parties) (s uuid : ℕ) (log : List LogEntry) (mv : Move) (n : Note) → asked mv ≡ Some n → Repeats (requests_sent w s log) n ⊎ IsNextRequest w s uuid n log → MayAsk w s uuid mv log
one_ask w s uuid log (Asks m) n e h =
    let z : m ≡ n = cc in
    let P : Note → Type 0 = λ x. Repeats (requests_sent w s log) x ⊎ IsNextRequest w s uuid x log in
    subst P (sym z) h
one_ask w s uuid log (Comes from receiver m) n e h = tt
one_ask w s uuid log (Tells to bytes) n e h = tt
one_ask w s uuid log (Hears m) n e h = tt
one_ask w s uuid log (Brings from id m) n e h = tt
one_ask w s uuid log Turns n e h = tt
one_ask w s uuid log Rests n e h = tt
one_ask w s uuid log Other n e h = tt

pub sent_decides : (w : Parties) (s : ℕ) (from to : Address) (bytes : List ℕ) (k : Role) (rs : List Note) (ds : List DecidedRequest) → decided_after (sent_move w s from to bytes k) rs ds ≡ ds
sent_decides w s from to bytes (Request receiver n) rs ds = by (same from w.master && same to (w.slave s)) (same from (w.slave s))
  where
    by : (b c : Bool) → decided_after (if b then Asks n else (if c then Tells to bytes else Other)) rs ds ≡ ds
    by true c = refl
    by false true = refl
    by false false = refl
sent_decides w s from to bytes (Answer sender n) rs ds = by (same from (w.slave s))
  where
    by : (c : Bool) → decided_after (if c then Tells to bytes else Other) rs ds ≡ ds
    by true = refl
    by false = refl
sent_decides w s from to bytes (Value id n) rs ds = by (same from (w.slave s))
  where
    by : (c : Bool) → decided_after (if c then Tells to bytes else Other) rs ds ≡ ds
    by true = refl
    by false = refl
sent_decides w s from to bytes Else rs ds = by (same from (w.slave s))
  where
    by : (c : Bool) → decided_after (if c then Tells to bytes else Other) rs ds ≡ ds
    by true = refl
    by false = refl

-- another channel, or no request
pub not_sent : (w : Parties) (s : ℕ) (from to : Address) (k : Role) → (same from w.master && same to (w.slave s)) ≡ false → in_channel w (Requests s) from to k ≡ None
not_sent w s from to (Request receiver n) e = ap (λ (b : Bool). if b then Some n else None) e
not_sent w s from to (Answer sender n) e = refl
not_sent w s from to (Value id n) e = refl
not_sent w s from to Else e = refl

heard_part : (a : Note) (b c d f : Bool) → b ≡ false → c ≡ true → d ≡ true → f ≡ true → (if b then Rests else (if (c && d) && f then Hears a else Other)) ≡ Hears a
heard_part a b c d f p q r t = grind arith

module _ (setup : Setup) (h : AreHeard setup) (w : Parties) (ps : ArePartiesOf setup w) (s : ℕ) (is : IsSlaveOf w s) (slave : Slave) (p : IsParty setup w s slave) where
  at_master : (a : Address) → same a w.master ≡ same_address a setup.address
  at_master a = same_as a w.master ∙ ap (same_address a) ps.master

  at_slave : (a : Address) → same a (w.slave s) ≡ same_address a slave.address
  at_slave a = same_as a (w.slave s) ∙ ap (same_address a) (sym p.address)

  abbrev bs : List LogEntry → List Asking
  bs log = asks setup.address slave log

  abbrev K : List LogEntry → Type 0
  K log = Known s (asks setup.address slave log) (sends_in w (Requests s) log) (decided_exchanges w s log)

  -- ---- a send of the master to the slave
  legal_at : (log : List LogEntry) (marks : List Mark) → slice_get (course_at setup log).talks (p.is_in).0 ≡ Some (talk_with slave marks) → AreLegal setup.limits (jobs_of setup slave) marks
  legal_at log marks here = (with_at (λ u m. GoesByRule setup.limits (jobs_of setup u) (course_at setup log).phase m) (course_at setup log).talks (p.is_in).0 (talk_with slave marks) (going setup h.runs (events_of_master setup log)).goes here).legal

  pub sends : (log : List LogEntry) → IsRun setup log → (to : Address) (bytes : List ℕ) → IsFirstSend (owed setup log) to bytes → same_address to slave.address ≡ true
      → IsFresh slave.id slave.script.uuid (asks setup.address slave log) bytes ⊎ IsSame slave.id (asks setup.address slave log) bytes
  sends log run to bytes first here = by (course_at setup log).report refl
    where
      first' : (more : List (List ℕ)) × (mine slave.address (owed setup log) ≡ bytes ∷ more)
      first' = mine_first slave.address to bytes (owed setup log) first here

      i : ℕ
      i = (p.is_in).0

      clash : (more : List (List ℕ)) → bytes ∷ more ≡ [] → ⊥
      clash more z = cc

      by : (o : Option Report) → (course_at setup log).report ≡ o → IsFresh slave.id slave.script.uuid (asks setup.address slave log) bytes ⊎ IsSame slave.id (asks setup.address slave log) bytes
      by None r =
          let l = listens setup h i slave (p.is_in).1 in
          let f = followed setup (ReadBack slave.id) i slave l h.runs log run r in
          let t = f.tracks in
          let P : List (List ℕ) → Type 0 = λ z. Owes (ReadBack slave.id) slave.id z f.marks (marks_of f.xs) in
          let Q : List Asking → Type 0 = λ z. IsFresh slave.id slave.script.uuid z bytes ⊎ IsSame slave.id z bytes in
          subst Q (sym t.is) (sends_now setup.limits (jobs_of setup slave) (ReadBack slave.id) slave.id slave.script.uuid f.marks f.xs bytes first'.0 refl (λ r g. g) (subst P first'.1 t.owes) (legal_at log f.marks f.here) t.head)
      by (Some report) r =
          let z = (reported setup (ReadBack slave.id) i slave (listens setup h i slave (p.is_in).1) h.runs log run report r).1 in
          absurd (clash first'.0 (sym first'.1 ∙ z))

  pub record IsSentSo (bytes : List ℕ) (n : Note) (log : List LogEntry) : Type 0 where
    pub role : role_heard w bytes ≡ Request s n
    pub known : Known s (with_asking (asking_in (length log) (message_in bytes)) (asks setup.address slave log)) (n ∷ sends_in w (Requests s) log) (decided_exchanges w s log)
    pub may : Repeats (requests_sent w s log) n ⊎ IsNextRequest w s slave.script.uuid n log

  pub sent_so : (log : List LogEntry) (bytes : List ℕ) → K log → IsFresh slave.id slave.script.uuid (asks setup.address slave log) bytes ⊎ IsSame slave.id (asks setup.address slave log) bytes → (n : Note) × IsSentSo bytes n log
  sent_so log bytes k (inl f) =
      let cs = asks setup.address slave log in
      let a = first_at (length log) (length cs % 65536) f.request in
      let read : role_heard w bytes ≡ Request s (note_of s a) = ap role_read (ps.read bytes ∙ f.read) ∙ role_told (length log) (length cs % 65536) slave.id f.request ∙ ap (λ (z : ℕ). Request z (note_of z a)) p.id in
      let P : List Asking → Type 0 = λ z. Known s z (note_of s a ∷ sends_in w (Requests s) log) (decided_exchanges w s log) in
      let l : length (requests_sent w s log) ≡ length cs = ap length k.requests ∙ long s cs in
      let d = all_done cs (decided_exchanges w s log) f.decided k.done k.most in (
        note_of s a,
        record {
          role = read;
          known = subst P (sym (f.after (length log))) (fresh_known s (length log) cs (sends_in w (Requests s) log) (decided_exchanges w s log) f.request k f.decided);
          may = inr (record { closed = d ∙ sym l; number = ap (λ (z : ℕ). z % 65536) (sym l); first = λ e. first cs f.request f.first (none cs (sym k.requests ∙ e)) });
        },
      )
    where
      none : (cs : List Asking) → map (note_of s) cs ≡ [] → cs ≡ []
      none [] e = refl
      none (c ∷ cs) e = absurd cc

      first : (cs : List Asking) (r : _) → (cs ≡ [] → r ≡ register_for slave.script.uuid) → cs ≡ [] → note_of s (first_at (length log) (length cs % 65536) r) ≡ register_note s slave.script.uuid
      first cs r g e = ap (λ (z : _). note_of s (first_at (length log) (length cs % 65536) z)) (g e) ∙ ap (λ (z : List Asking). note_of s (first_at (length log) (length z % 65536) (register_for slave.script.uuid))) e
  sent_so log bytes k (inr f) =
      let cs = asks setup.address slave log in
      let a = first_at (length log) f.newest.number f.request in
      let read : role_heard w bytes ≡ Request s (note_of s a) = ap role_read (ps.read bytes ∙ f.read) ∙ role_told (length log) f.newest.number slave.id f.request ∙ ap (λ (z : ℕ). Request z (note_of z a)) p.id in
      let Q : List Asking → Type 0 = λ z. Known s z (sends_in w (Requests s) log) (decided_exchanges w s log) in
      let k' = subst Q f.is k in
      let P : List Asking → Type 0 = λ z. Known s z (note_of s a ∷ sends_in w (Requests s) log) (decided_exchanges w s log) in (
        note_of s a,
        record {
          role = read;
          known = subst P (sym (f.after (length log) ∙ ap (again_at (length log)) f.is)) (same_known s (length log) f.newest f.rest (sends_in w (Requests s) log) (decided_exchanges w s log) f.request k' f.of);
          may = inl (repeats s (length log) f.newest f.rest (sends_in w (Requests s) log) (decided_exchanges w s log) f.request k' f.of);
        },
      )

  -- ---- any send
  record IsSentAt (from to : Address) (bytes : List ℕ) (log : List LogEntry) : Type 0 where
    pub known : K (Sent from to bytes ∷ log)
    pub may : MayAsk w s slave.script.uuid (move w s (Sent from to bytes)) log

  sent_at : (from to : Address) (bytes : List ℕ) (log : List LogEntry) → IsRun setup (Sent from to bytes ∷ log) → K log → IsSentAt from to bytes log
  sent_at from to bytes log run k = by (same_address from setup.address && same_address to slave.address) refl
    where
      e : LogEntry
      e = Sent from to bytes

      both : (same from w.master && same to (w.slave s)) ≡ (same_address from setup.address && same_address to slave.address)
      both = ap (λ (b : Bool). b && same to (w.slave s)) (at_master from) ∙ ap (λ (b : Bool). same_address from setup.address && b) (at_slave to)

      decides : decided_exchanges w s (e ∷ log) ≡ decided_exchanges w s log
      decides = sent_decides w s from to bytes (role_heard w bytes) (requests_sent w s log) (decided_exchanges w s log)

      whole : (cs : List Asking) (o : Option Note) → bs (e ∷ log) ≡ cs → in_channel w (Requests s) from to (role_heard w bytes) ≡ o → Known s cs (cons_option o (sends_in w (Requests s) log)) (decided_exchanges w s log) → K (e ∷ log)
      whole cs o x y z =
          let P : List Asking → Type 0 = λ q. Known s q (sends_in w (Requests s) (e ∷ log)) (decided_exchanges w s (e ∷ log)) in
          let Q : Option Note → Type 0 = λ q. Known s cs (cons_option q (sends_in w (Requests s) log)) (decided_exchanges w s (e ∷ log)) in
          let R : List DecidedRequest → Type 0 = λ q. Known s cs (cons_option o (sends_in w (Requests s) log)) q in
          subst P (sym x) (subst Q (sym y) (subst R (sym decides) z))

      first : same_address from setup.address ≡ true → IsFirstSend (owed setup log) to bytes
      first x = let P : Bool → Type 0 = λ b. where_it_is b (IsFirstSend (owed setup log) to bytes) in subst P x run.0

      by : (t : Bool) → (same_address from setup.address && same_address to slave.address) ≡ t → IsSentAt from to bytes log
      by false x =
          let c = not_sent w s from to (role_heard w bytes) (both ∙ x) in
          record {
            known = whole (bs log) None (ap (λ (b : Bool). if b then with_asking (asking_in (length log) (message_in bytes)) (bs log) else bs log) x) c k;
            may = no_ask w s slave.script.uuid log (move w s e) (sym (requests_by_move w s e) ∙ c);
          }
      by true x =
          let z = and_parts (same_address from setup.address) (same_address to slave.address) x in
          let f = sent_so log bytes k (sends log run.1 to bytes (first z.0) z.1) in
          let c : in_channel w (Requests s) from to (role_heard w bytes) ≡ Some f.0 = ap (in_channel w (Requests s) from to) (f.1).role ∙ ap (λ (b : Bool). if b then Some f.0 else None) (both ∙ x) in
          record {
            known = whole (with_asking (asking_in (length log) (message_in bytes)) (bs log)) (Some f.0) (ap (λ (b : Bool). if b then with_asking (asking_in (length log) (message_in bytes)) (bs log) else bs log) x) c (f.1).known;
            may = one_ask w s slave.script.uuid log (move w s e) f.0 (sym (requests_by_move w s e) ∙ c) (f.1).may;
          }

  -- ---- a datagram
  hears : (at from : Address) (bytes : List ℕ) → same_address at setup.address ≡ true → same_address from slave.address ≡ true → IsHeardAs slave.id (news_of bytes) (move w s (Got at from bytes))
  unfolding news_of
  hears at from bytes x y = by (news_in (message_in bytes)) refl
    where
      master : same at w.master ≡ true
      master = at_master at ∙ x

      other : same at (w.slave s) ≡ false
      other = no (same at (w.slave s)) refl
        where
          no : (b : Bool) → same at (w.slave s) ≡ b → b ≡ false
          no true q = absurd ((ps.apart).master s is (sym (same_is at (w.slave s) q) ∙ same_is at w.master master))
          no false q = refl

      by : (news : News) → news_in (message_in bytes) ≡ news → IsHeardAs slave.id news (move w s (Got at from bytes))
      by (Answers number sender answer) q = λ mine'. (
          let r = answer_role number sender answer (message_in bytes) q in
          let role : role_heard w bytes ≡ Answer sender r.0 = ap role_read (ps.read bytes) ∙ (r.1).0 in
          (r.0, (ap (got_move w s at from) role ∙ heard_part r.0 (same at (w.slave s)) (same at w.master) (same from (w.slave s)) (sender == s) other master (at_slave from ∙ y) (eq-eqb sender s (mine' ∙ p.id)), (r.1).1))
          )
      by (Hints sender) q = tt
      by (Values number data_id payload) q = tt
      by Nothing q = tt

  got_at : (at from : Address) (bytes : List ℕ) (log : List LogEntry) → K log → K (Got at from bytes ∷ log)
  got_at at from bytes log k = by (same_address at setup.address && same_address from slave.address) refl
    where
      e : LogEntry
      e = Got at from bytes

      whole : (cs : List Asking) → bs (e ∷ log) ≡ cs → Known s cs (sends_in w (Requests s) log) (decided_exchanges w s (e ∷ log)) → K (e ∷ log)
      whole cs x z = let P : List Asking → Type 0 = λ q. Known s q (sends_in w (Requests s) (e ∷ log)) (decided_exchanges w s (e ∷ log)) in subst P (sym x) z

      by : (t : Bool) → (same_address at setup.address && same_address from slave.address) ≡ t → K (e ∷ log)
      by false x = whole (bs log) (ap (λ (b : Bool). if b then with_news slave.id (length log) (news_of bytes) (bs log) else bs log) x) (other_known s (bs log) (sends_in w (Requests s) log) (decided_exchanges w s log) k (move w s e))
      by true x =
          let z = and_parts (same_address at setup.address) (same_address from slave.address) x in
          let P : ℕ → Type 0 = λ i. IsHeardAs i (news_of bytes) (move w s e) in
          let Q : ℕ → Type 0 = λ i. Known s (with_news i (length log) (news_of bytes) (bs log)) (sends_in w (Requests s) log) (decided_exchanges w s (e ∷ log)) in
          whole (with_news slave.id (length log) (news_of bytes) (bs log)) (ap (λ (b : Bool). if b then with_news slave.id (length log) (news_of bytes) (bs log) else bs log) x)
          (subst Q (sym p.id) (heard_known s (bs log) (sends_in w (Requests s) log) (decided_exchanges w s log) k (move w s e) (length log) (news_of bytes) (subst P p.id (hears at from bytes z.0 z.1))))

  -- ---- at every moment
  pub known : (log : List LogEntry) → IsRun setup log → K log
  known [] run = record { regular = tt; requests = refl; most = omega arith; near = omega arith; done = tt }
  known (Sent from to bytes ∷ log) run = (sent_at from to bytes log run (known log run.1)).known
  known (Got at from bytes ∷ log) run = got_at at from bytes log (known log run.1)
  known (Idle at ∷ log) run = other_known s (bs log) (sends_in w (Requests s) log) (decided_exchanges w s log) (known log run.1) (move w s (Idle at))
  known (Turn at ∷ log) run = other_known s (bs log) (sends_in w (Requests s) log) (decided_exchanges w s log) (known log run.1) (move w s (Turn at))

  pub may_ask : (e : LogEntry) (log : List LogEntry) → IsRun setup (e ∷ log) → MayAsk w s slave.script.uuid (move w s e) log
  may_ask (Sent from to bytes) log run = (sent_at from to bytes log run (known log run.1)).may
  may_ask (Got at from bytes) log run = no_ask w s slave.script.uuid log (move w s (Got at from bytes)) (sym (requests_by_move w s (Got at from bytes)))
  may_ask (Idle at) log run = no_ask w s slave.script.uuid log (move w s (Idle at)) (sym (requests_by_move w s (Idle at)))
  may_ask (Turn at) log run = no_ask w s slave.script.uuid log (move w s (Turn at)) (sym (requests_by_move w s (Turn at)))

pub are_asked : RequestsAreAsked
are_asked setup h w ps log run s is slave p = (known setup h w ps s is slave p log run).requests

pub in_turn : MasterAsksInTurn
in_turn setup h w ps e log run s is slave p = may_ask setup h w ps s is slave p e log run
