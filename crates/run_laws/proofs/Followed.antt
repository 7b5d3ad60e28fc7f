-- A log by the rules of a slave is one entry by entry.
use Rattle.std.proofs.Common.{◌≡◌, ℕ, Bool, true, false, if◌then◌else◌, List, [], ◌∷◌, ◌++◌, map, reverse, refl, sym, ap, ◌∙◌, subst, append-nil, append_assoc}
use Rattle.std.specs.Prelude.{◌==◌, ◌&&◌}
use Rattle.std.proofs.lemmas.Bool.{cond-true}
use Rattle.std.proofs.lemmas.List.{reverse-append}
use Rattle.dcp_types.specs.declared.addresses.Address.{Address}
use Rattle.dcp_ends.specs.declared.entries.LogEntry.{LogEntry}
use Rattle.dcp_ends.specs.declared.entries.LogEntry.TheVariants.{Sent, Got, Idle, Turn}
use Rattle.dcp_ends.specs.Events.{Event, Gram, Tick, Send}
use Rattle.dcp_ends.specs.Logs.{same_address, own_at, sent_by, answered, events_at}
use Rattle.log_spec.specs.Messages.{Note, Role, Request, Answer, Value, Else}
use Rattle.log_spec.specs.Log.{Parties, IsSlaveOf, PartiesApart, same, role_heard}
use Rattle.log_spec.specs.Moves.{Move, Asks, Comes, Tells, Hears, Brings, Turns, Rests, Other, sent_move, got_move}
use Rattle.log_spec.proofs.Moves.{same_is}
use Rattle.lockstep_laws.specs.Slaves.{Post, IsFirstPost, SlaveMay, SlaveRun, tail}
use Rattle.master_log_laws.proofs.Index.ByEntry.{address_turned}
use Rattle.rounds.specs.Told.{Follows}
use Rattle.slave_spec.specs.declared.words.SlaveSetup.{SlaveSetup}
use Rattle.slave_spec.specs.Slaves.{machine, slave_rules_from}
use Rattle.slave_spec.specs.Transport as transport
use Rattle.slave_laws.specs.Talk.Desks.{post, at, desk_at, events_of_slave, got, ticked, sent_next}
use Rattle.slave_laws.proofs.Talk.Meets.{slave_is}
use Rattle.master_laws.proofs.Meets.Asking.{same_as}
use Rattle.run_laws.specs.Laws.{BeginsWithEvent, RestsWhenDone}

module _ (setup : SlaveSetup) (w : Parties) (s : ℕ) (is : IsSlaveOf w s) (apart : PartiesApart w) (place : w.slave s ≡ setup.desc.address) where
  here : (b : Address) → same b (w.slave s) ≡ same_address setup.desc.address b
  here b = same_as b (w.slave s) ∙ ap (same_address b) place ∙ address_turned b setup.desc.address

  -- ---- moves
  tells : (from to : Address) (bytes : List ℕ) (k : Role) → same from (w.slave s) ≡ true → sent_move w s from to bytes k ≡ Tells to bytes
  tells from to bytes (Request receiver n) e = by (same from w.master) refl (same to (w.slave s))
    where
      by : (b : Bool) → same from w.master ≡ b → (c : Bool) → (if b && c then Asks n else (if same from (w.slave s) then Tells to bytes else Other)) ≡ Tells to bytes
      by true f c = absurd (apart.master s is (sym (same_is from (w.slave s) e) ∙ same_is from w.master f))
      by false f c = cond-true (same from (w.slave s)) (Tells to bytes) Other e
  tells from to bytes (Answer sender n) e = cond-true (same from (w.slave s)) (Tells to bytes) Other e
  tells from to bytes (Value id n) e = cond-true (same from (w.slave s)) (Tells to bytes) Other e
  tells from to bytes Else e = cond-true (same from (w.slave s)) (Tells to bytes) Other e

  -- another end's send is none of its moves
  others : (P : Move → Type 0) (from to : Address) (bytes : List ℕ) (k : Role) → same from (w.slave s) ≡ false → P Other → ((n : Note) → P (Asks n)) → P (sent_move w s from to bytes k)
  others P from to bytes (Request receiver n) e p q = by (same from w.master && same to (w.slave s)) (same from (w.slave s)) e
    where
      by : (b c : Bool) → c ≡ false → P (if b then Asks n else (if c then Tells to bytes else Other))
      by true c f = q n
      by false false f = p
      by false true f = absurd cc
  others P from to bytes (Answer sender n) e p q = let Q : Bool → Type 0 = λ c. P (if c then Tells to bytes else Other) in subst Q (sym e) p
  others P from to bytes (Value id n) e p q = let Q : Bool → Type 0 = λ c. P (if c then Tells to bytes else Other) in subst Q (sym e) p
  others P from to bytes Else e p q = let Q : Bool → Type 0 = λ c. P (if c then Tells to bytes else Other) in subst Q (sym e) p

  got_may : (at' from : Address) (k : Role) (owed : List Post) → (same at' (w.slave s) ≡ true → owed ≡ []) → SlaveMay (got_move w s at' from k) owed
  got_may at' from (Request receiver n) owed h = by (same at' (w.slave s)) refl
    where
      by : (b : Bool) → same at' (w.slave s) ≡ b → SlaveMay (if b then Comes from receiver n else Other) owed
      by true e = h e
      by false e = tt
  got_may at' from (Answer sender n) owed h = by (same at' (w.slave s)) refl ((same at' w.master && same from (w.slave s)) && (sender == s))
    where
      by : (b : Bool) → same at' (w.slave s) ≡ b → (c : Bool) → SlaveMay (if b then Rests else (if c then Hears n else Other)) owed
      by true e c = h e
      by false e true = tt
      by false e false = tt
  got_may at' from (Value id n) owed h = by (same at' (w.slave s)) refl
    where
      by : (b : Bool) → same at' (w.slave s) ≡ b → SlaveMay (if b then Brings from id n else Other) owed
      by true e = h e
      by false e = tt
  got_may at' from Else owed h = by (same at' (w.slave s)) refl
    where
      by : (b : Bool) → same at' (w.slave s) ≡ b → SlaveMay (if b then Rests else Other) owed
      by true e = h e
      by false e = tt

  turn_may : (at' : Address) (owed : List Post) → (same at' (w.slave s) ≡ true → owed ≡ []) → SlaveMay (if same at' (w.slave s) then Turns else Other) owed
  turn_may at' owed h = by (same at' (w.slave s)) refl
    where
      by : (b : Bool) → same at' (w.slave s) ≡ b → SlaveMay (if b then Turns else Other) owed
      by true e = h e
      by false e = tt

  rest_may : (at' : Address) (owed : List Post) → (same at' (w.slave s) ≡ true → owed ≡ []) → SlaveMay (if same at' (w.slave s) then Rests else Other) owed
  rest_may at' owed h = by (same at' (w.slave s)) refl
    where
      by : (b : Bool) → same at' (w.slave s) ≡ b → SlaveMay (if b then Rests else Other) owed
      by true e = h e
      by false e = tt

  -- ---- what is still to come
  no_event : (from to : Address) (bytes : List ℕ) (rest : List LogEntry) (before more : List Event) → Sent from to bytes ∷ rest ≡ answered (slave_rules_from setup) before more → ⊥
  no_event from to bytes rest before [] h = cc
  no_event from to bytes rest before (Gram f b ∷ more) h = cc
  no_event from to bytes rest before (Tick ∷ more) h = cc

  record IsNextSend (rest : List LogEntry) (before : List Event) (posts : List Send) (to : Address) (bytes : List ℕ) : Type 0 where
    pub rest_of : List Send
    pub first : Send
    pub split : posts ≡ first ∷ rest_of
    pub to_is : first.to ≡ to
    pub bytes_is : first.bytes ≡ bytes
    pub comes : own_at setup.desc.address rest ≡ sent_by setup.desc.address rest_of ++ answered (slave_rules_from setup) before (events_at setup.desc.address rest)

  next_send : (from to : Address) (bytes : List ℕ) (rest : List LogEntry) (before : List Event) (posts : List Send)
      → Sent from to bytes ∷ own_at setup.desc.address rest ≡ sent_by setup.desc.address posts ++ answered (slave_rules_from setup) before (events_at setup.desc.address rest) → IsNextSend rest before posts to bytes
  next_send from to bytes rest before [] h = absurd (no_event from to bytes (own_at setup.desc.address rest) before (events_at setup.desc.address rest) h)
  next_send from to bytes rest before (p ∷ ps) h = record { rest_of = ps; first = p; split = refl; to_is = same_to; bytes_is = same_bytes; comes = same_rest }
    where
      same_to : p.to ≡ to
      same_to = cc

      same_bytes : p.bytes ≡ bytes
      same_bytes = cc

      same_rest : own_at setup.desc.address rest ≡ sent_by setup.desc.address ps ++ answered (slave_rules_from setup) before (events_at setup.desc.address rest)
      same_rest = cc

  got_alone : (at' from : Address) (bytes : List ℕ) (rest xs : List LogEntry) (posts : List Send) → Got at' from bytes ∷ rest ≡ sent_by setup.desc.address posts ++ xs → (posts ≡ []) × (Got at' from bytes ∷ rest ≡ xs)
  got_alone at' from bytes rest xs [] h = (refl, h)
  got_alone at' from bytes rest xs (p ∷ ps) h = absurd cc

  turn_alone : (at' : Address) (rest xs : List LogEntry) (posts : List Send) → Turn at' ∷ rest ≡ sent_by setup.desc.address posts ++ xs → (posts ≡ []) × (Turn at' ∷ rest ≡ xs)
  turn_alone at' rest xs [] h = (refl, h)
  turn_alone at' rest xs (p ∷ ps) h = absurd cc

  idle_alone : (rest xs : List LogEntry) (posts : List Send) → BeginsWithEvent rest → rest ≡ sent_by setup.desc.address posts ++ xs → posts ≡ []
  idle_alone rest xs [] b h = refl
  idle_alone rest xs (p ∷ ps) b h = let P : List LogEntry → Type 0 = BeginsWithEvent in absurd (subst P h b)

  record At (rest log : List LogEntry) : Type 0 where
    pub run : SlaveRun w s (desk_at (machine setup) w s) log
    pub posts : List Send
    pub owed : (desk_at (machine setup) w s log).owed ≡ map post posts
    pub comes : own_at setup.desc.address rest ≡ sent_by setup.desc.address posts ++ answered (slave_rules_from setup) (events_of_slave w s log) (events_at setup.desc.address rest)

  nothing : (log : List LogEntry) (posts : List Send) → (desk_at (machine setup) w s log).owed ≡ map post posts → posts ≡ [] → (desk_at (machine setup) w s log).owed ≡ []
  nothing log posts o e = o ∙ ap (map post) e

  sent_at : (from to : Address) (bytes : List ℕ) (rest log : List LogEntry) → At (Sent from to bytes ∷ rest) log → At rest (Sent from to bytes ∷ log)
  sent_at from to bytes rest log x = by (same from (w.slave s)) refl
    where
      e : LogEntry
      e = Sent from to bytes

      P : Bool → Type 0
      P b = (if b then e ∷ [] else []) ++ own_at setup.desc.address rest ≡ sent_by setup.desc.address x.posts ++ answered (slave_rules_from setup) (events_of_slave w s log) (events_at setup.desc.address rest)

      Q : List Event → List Send → Type 0
      Q es posts = own_at setup.desc.address rest ≡ sent_by setup.desc.address posts ++ answered (slave_rules_from setup) es (events_at setup.desc.address rest)

      same_events : events_of_slave w s log ++ [] ≡ events_of_slave w s log
      same_events = append-nil (events_of_slave w s log)

      by : (b : Bool) → same from (w.slave s) ≡ b → At rest (e ∷ log)
      by true f =
          let z = next_send from to bytes rest (events_of_slave w s log) x.posts (subst P (sym (here from) ∙ f) x.comes) in
          let mv = tells from to bytes (role_heard w bytes) f in
          let owed : (desk_at (machine setup) w s log).owed ≡ post z.first ∷ map post z.rest_of = x.owed ∙ ap (map post) z.split in
          let R : List Post → Type 0 = λ o. IsFirstPost o to bytes in
          let S : Move → Type 0 = λ m. SlaveMay m (desk_at (machine setup) w s log).owed in
          let O : List Event → Type 0 = λ es. Q es z.rest_of in
          record {
            run = (subst S (sym mv) (subst R (sym owed) (z.to_is, z.bytes_is)), x.run);
            posts = z.rest_of;
            owed = ap (λ (m : Move). (sent_next (machine setup) w s m (at (machine setup) w s log)).desk.owed) mv ∙ ap tail owed;
            comes = subst O (sym same_events) z.comes;
          }
      by false f =
          let R : Move → Type 0 = λ m. SlaveMay m (desk_at (machine setup) w s log).owed × ((sent_next (machine setup) w s m (at (machine setup) w s log)).desk.owed ≡ map post x.posts) in
          let z = others R from to bytes (role_heard w bytes) f (tt, x.owed) (λ n. (tt, x.owed)) in
          let O : List Event → Type 0 = λ es. Q es x.posts in
          record { run = (z.0, x.run); posts = x.posts; owed = z.1; comes = subst O (sym same_events) (subst P (sym (here from) ∙ f) x.comes) }

  got_at : (at' from : Address) (bytes : List ℕ) (rest log : List LogEntry) → At (Got at' from bytes ∷ rest) log → At rest (Got at' from bytes ∷ log)
  got_at at' from bytes rest log x = by (same at' (w.slave s)) refl
    where
      e : LogEntry
      e = Got at' from bytes

      P : Bool → Type 0
      P b = (if b then e ∷ [] else []) ++ own_at setup.desc.address rest ≡ sent_by setup.desc.address x.posts ++ answered (slave_rules_from setup) (events_of_slave w s log) ((if b then Gram from bytes ∷ [] else []) ++ events_at setup.desc.address rest)

      Q : Bool → List Send → Type 0
      Q b posts = own_at setup.desc.address rest ≡ sent_by setup.desc.address posts ++ answered (slave_rules_from setup) (events_of_slave w s log ++ (if b then Gram from bytes ∷ [] else [])) (events_at setup.desc.address rest)

      after : Bool → List Post
      after b = (if b then got (machine setup) w s from bytes (at (machine setup) w s log) else at (machine setup) w s log).desk.owed

      sends_are : transport.sends (machine setup) (transport.slave (machine setup) (events_of_slave w s log)) (Gram from bytes) ≡ transport.sends (machine setup) (at (machine setup) w s log).slave (Gram from bytes)
      sends_are = ap (λ (z : _). transport.sends (machine setup) z (Gram from bytes)) (sym (slave_is (machine setup) w s log))

      by : (b : Bool) → same at' (w.slave s) ≡ b → At rest (e ∷ log)
      by true f =
          let z = got_alone at' from bytes (own_at setup.desc.address rest) (answered (slave_rules_from setup) (events_of_slave w s log) (Gram from bytes ∷ events_at setup.desc.address rest)) x.posts (subst P (sym (here at') ∙ f) x.comes) in
          let posts = transport.sends (machine setup) (transport.slave (machine setup) (events_of_slave w s log)) (Gram from bytes) in
          let O : Bool → Type 0 = λ b. Q b posts in
          record {
            run = (got_may at' from (role_heard w bytes) (desk_at (machine setup) w s log).owed (λ g. nothing log x.posts x.owed z.0), x.run);
            posts = posts;
            owed = ap after f ∙ ap (map post) (sym sends_are);
            comes = subst O (sym f) (tails z.1);
          }
        where
          tails : Got at' from bytes ∷ own_at setup.desc.address rest ≡ answered (slave_rules_from setup) (events_of_slave w s log) (Gram from bytes ∷ events_at setup.desc.address rest)
              → own_at setup.desc.address rest ≡ sent_by setup.desc.address (transport.sends (machine setup) (transport.slave (machine setup) (events_of_slave w s log)) (Gram from bytes)) ++ answered (slave_rules_from setup) (events_of_slave w s log ++ Gram from bytes ∷ []) (events_at setup.desc.address rest)
          tails y = cc
      by false f =
          let O : Bool → Type 0 = λ b. Q b x.posts in
          let g = subst P (sym (here at') ∙ f) x.comes in
          let N : List Event → Type 0 = λ es. own_at setup.desc.address rest ≡ sent_by setup.desc.address x.posts ++ answered (slave_rules_from setup) es (events_at setup.desc.address rest) in
          record {
            run = (got_may at' from (role_heard w bytes) (desk_at (machine setup) w s log).owed (λ t. absurd (clash (sym t ∙ f))), x.run);
            posts = x.posts;
            owed = ap after f ∙ x.owed;
            comes = subst O (sym f) (subst N (sym (append-nil (events_of_slave w s log))) g);
          }
        where
          clash : true ≡ false → ⊥
          clash z = cc

  turn_at : (at' : Address) (rest log : List LogEntry) → At (Turn at' ∷ rest) log → At rest (Turn at' ∷ log)
  turn_at at' rest log x = by (same at' (w.slave s)) refl
    where
      e : LogEntry
      e = Turn at'

      P : Bool → Type 0
      P b = (if b then e ∷ [] else []) ++ own_at setup.desc.address rest ≡ sent_by setup.desc.address x.posts ++ answered (slave_rules_from setup) (events_of_slave w s log) ((if b then Tick ∷ [] else []) ++ events_at setup.desc.address rest)

      Q : Bool → List Send → Type 0
      Q b posts = own_at setup.desc.address rest ≡ sent_by setup.desc.address posts ++ answered (slave_rules_from setup) (events_of_slave w s log ++ (if b then Tick ∷ [] else [])) (events_at setup.desc.address rest)

      after : Bool → List Post
      after b = (if b then ticked (machine setup) w s (at (machine setup) w s log) else at (machine setup) w s log).desk.owed

      sends_are : transport.sends (machine setup) (transport.slave (machine setup) (events_of_slave w s log)) Tick ≡ transport.sends (machine setup) (at (machine setup) w s log).slave Tick
      sends_are = ap (λ (z : _). transport.sends (machine setup) z Tick) (sym (slave_is (machine setup) w s log))

      by : (b : Bool) → same at' (w.slave s) ≡ b → At rest (e ∷ log)
      by true f =
          let z = turn_alone at' (own_at setup.desc.address rest) (answered (slave_rules_from setup) (events_of_slave w s log) (Tick ∷ events_at setup.desc.address rest)) x.posts (subst P (sym (here at') ∙ f) x.comes) in
          let posts = transport.sends (machine setup) (transport.slave (machine setup) (events_of_slave w s log)) Tick in
          let O : Bool → Type 0 = λ b. Q b posts in
          record {
            run = (turn_may at' (desk_at (machine setup) w s log).owed (λ g. nothing log x.posts x.owed z.0), x.run);
            posts = posts;
            owed = ap after f ∙ ap (map post) (sym sends_are);
            comes = subst O (sym f) (tails z.1);
          }
        where
          tails : Turn at' ∷ own_at setup.desc.address rest ≡ answered (slave_rules_from setup) (events_of_slave w s log) (Tick ∷ events_at setup.desc.address rest)
              → own_at setup.desc.address rest ≡ sent_by setup.desc.address (transport.sends (machine setup) (transport.slave (machine setup) (events_of_slave w s log)) Tick) ++ answered (slave_rules_from setup) (events_of_slave w s log ++ Tick ∷ []) (events_at setup.desc.address rest)
          tails y = cc
      by false f =
          let O : Bool → Type 0 = λ b. Q b x.posts in
          let g = subst P (sym (here at') ∙ f) x.comes in
          let N : List Event → Type 0 = λ es. own_at setup.desc.address rest ≡ sent_by setup.desc.address x.posts ++ answered (slave_rules_from setup) es (events_at setup.desc.address rest) in
          record {
            run = (turn_may at' (desk_at (machine setup) w s log).owed (λ t. absurd (clash (sym t ∙ f))), x.run);
            posts = x.posts;
            owed = ap after f ∙ x.owed;
            comes = subst O (sym f) (subst N (sym (append-nil (events_of_slave w s log))) g);
          }
        where
          clash : true ≡ false → ⊥
          clash z = cc

  idle_at : (at' : Address) (rest log : List LogEntry) → RestsWhenDone setup.desc.address (Idle at' ∷ rest) → At (Idle at' ∷ rest) log → At rest (Idle at' ∷ log)
  idle_at at' rest log done x =
      let N : List Event → Type 0 = λ es. own_at setup.desc.address rest ≡ sent_by setup.desc.address x.posts ++ answered (slave_rules_from setup) es (events_at setup.desc.address rest) in
      record {
        run = (rest_may at' (desk_at (machine setup) w s log).owed whole, x.run);
        posts = x.posts;
        owed = x.owed;
        comes = subst N (sym (append-nil (events_of_slave w s log))) x.comes;
      }
    where
      whole : same at' (w.slave s) ≡ true → (desk_at (machine setup) w s log).owed ≡ []
      whole e =
          let z : at' ≡ setup.desc.address = same_is at' (w.slave s) e ∙ place in
          let b = done [] rest (ap (λ (y : Address). Idle y ∷ rest) z) in
          nothing log x.posts x.owed (idle_alone (own_at setup.desc.address rest) (answered (slave_rules_from setup) (events_of_slave w s log) (events_at setup.desc.address rest)) x.posts b x.comes)

  rests_later : (e : LogEntry) (rest : List LogEntry) → RestsWhenDone setup.desc.address (e ∷ rest) → RestsWhenDone setup.desc.address rest
  rests_later e rest done before after z = done (e ∷ before) after (ap (λ (y : List LogEntry). e ∷ y) z)

  goes_on : (rest log : List LogEntry) → RestsWhenDone setup.desc.address rest → At rest log → At [] (reverse rest ++ log)
  goes_on [] log done x = x
  goes_on (e ∷ rest) log done x =
      let P : List LogEntry → Type 0 = λ z. At [] z in
      subst P (sym (ap (λ (z : List LogEntry). z ++ log) (reverse-append (e ∷ []) rest) ∙ append_assoc (reverse rest) (e ∷ []) log)) (goes_on rest (e ∷ log) (rests_later e rest done) (by e done x))
    where
      by : (e : LogEntry) → RestsWhenDone setup.desc.address (e ∷ rest) → At (e ∷ rest) log → At rest (e ∷ log)
      by (Sent from to bytes) d x = sent_at from to bytes rest log x
      by (Got at' from bytes) d x = got_at at' from bytes rest log x
      by (Idle at') d x = idle_at at' rest log d x
      by (Turn at') d x = turn_at at' rest log x

  pub slave_runs : (log : List LogEntry) → Follows (slave_rules_from setup) log → RestsWhenDone setup.desc.address log → SlaveRun w s (desk_at (machine setup) w s) (reverse log)
  slave_runs log f done =
      let P : List LogEntry → Type 0 = λ z. SlaveRun w s (desk_at (machine setup) w s) z in
      subst P (append-nil (reverse log)) (goes_on log [] done (record { run = tt; posts = []; owed = refl; comes = f })).run
