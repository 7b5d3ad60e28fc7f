-- Turns of a slave whose model is not known.
use Rattle.std.proofs.Common.{◌≡◌, ℕ, not, Bool, true, false, List, [], ◌∷◌, ◌++◌, map, refl, ap, sym, subst, ◌∙◌, MatchBool, ◌⊎◌, inl, inr, append_assoc, if◌then◌else◌}
use Rattle.dcp_types.specs.declared.addresses.Address.{Address}
use Rattle.dcp_types.specs.declared.states.State.{State}
use Rattle.dcp_types.specs.declared.states.State.TheVariants.{Alive, Configuration, Preparing, Prepared, Configuring, Configured, Initializing, Initialized, SendingI, Synchronizing, Synchronized, Running, Computing, Computed, SendingD, Stopping, Stopped, ErrorHandling, ErrorResolved}
use Rattle.dcp_ends.specs.Events.{Tick, Send}
use Rattle.slave_desc.specs.declared.descriptions.SlaveDesc.{SlaveDesc}
use Rattle.slave_states.specs.Transitions.{is_passing}
use Rattle.slave_spec.specs.declared.words.Session.{Session}
use Rattle.slave_spec.specs.declared.words.Session.TheVariants.{Before, During, After}
use Rattle.slave_spec.specs.Transport.{Ack, Parcel, sends, after, turn_sends, turned_sends, parcel_send, quieter, is_open}
use Rattle.slave_spec.specs.Turns.{is_missed, is_sending_state}
use Rattle.slave_spec.specs.Foreign.{ForeignState, ForeignAct, Stays, Passes, Falls, Choice, foreign, foreign_turned, passed, fallen, may_act, may_turn, is_fall, steps_passed, SendsData, AreParcels, due_ids, IsChoice, IsTurnChoice, AreNotices, MaySendAt}
use Rattle.conform.specs.Standing.{is_model, IsOver, HasOne, HasData, Reacts, state_notice, turned_to}

abbrev plain_turn : Bool → ForeignAct → Bool
plain_turn passing Stays = not passing
plain_turn passing Passes = passing
plain_turn passing Falls = false

plain : (state : State) (act : ForeignAct) → is_model state ≡ false → may_turn state act ≡ plain_turn (is_passing state) act
plain Alive Stays h = refl
plain Alive Passes h = refl
plain Alive Falls h = refl
plain Configuration Stays h = refl
plain Configuration Passes h = refl
plain Configuration Falls h = refl
plain Preparing Stays h = refl
plain Preparing Passes h = refl
plain Preparing Falls h = refl
plain Prepared Stays h = refl
plain Prepared Passes h = refl
plain Prepared Falls h = refl
plain Configuring Stays h = refl
plain Configuring Passes h = refl
plain Configuring Falls h = refl
plain Configured Stays h = refl
plain Configured Passes h = refl
plain Configured Falls h = refl
plain Initializing Stays h = absurd cc
plain Initializing Passes h = absurd cc
plain Initializing Falls h = absurd cc
plain Initialized Stays h = refl
plain Initialized Passes h = refl
plain Initialized Falls h = refl
plain SendingI Stays h = refl
plain SendingI Passes h = refl
plain SendingI Falls h = refl
plain Synchronizing Stays h = refl
plain Synchronizing Passes h = refl
plain Synchronizing Falls h = refl
plain Synchronized Stays h = refl
plain Synchronized Passes h = refl
plain Synchronized Falls h = refl
plain Running Stays h = refl
plain Running Passes h = refl
plain Running Falls h = refl
plain Computing Stays h = absurd cc
plain Computing Passes h = absurd cc
plain Computing Falls h = absurd cc
plain Computed Stays h = refl
plain Computed Passes h = refl
plain Computed Falls h = refl
plain SendingD Stays h = refl
plain SendingD Passes h = refl
plain SendingD Falls h = refl
plain Stopping Stays h = refl
plain Stopping Passes h = refl
plain Stopping Falls h = refl
plain Stopped Stays h = refl
plain Stopped Passes h = refl
plain Stopped Falls h = refl
plain ErrorHandling Stays h = refl
plain ErrorHandling Passes h = refl
plain ErrorHandling Falls h = refl
plain ErrorResolved Stays h = refl
plain ErrorResolved Passes h = refl
plain ErrorResolved Falls h = refl

pub steps_kept : (state : State) (n : ℕ) → is_sending_state state ≡ true → steps_passed state n ≡ n
steps_kept SendingI n h = refl
steps_kept SendingD n h = refl
steps_kept Alive n h = absurd cc
steps_kept Configuration n h = absurd cc
steps_kept Preparing n h = absurd cc
steps_kept Prepared n h = absurd cc
steps_kept Configuring n h = absurd cc
steps_kept Configured n h = absurd cc
steps_kept Initializing n h = absurd cc
steps_kept Initialized n h = absurd cc
steps_kept Synchronizing n h = absurd cc
steps_kept Synchronized n h = absurd cc
steps_kept Running n h = absurd cc
steps_kept Computing n h = absurd cc
steps_kept Computed n h = absurd cc
steps_kept Stopping n h = absurd cc
steps_kept Stopped n h = absurd cc
steps_kept ErrorHandling n h = absurd cc
steps_kept ErrorResolved n h = absurd cc

pub sending_passes : (state : State) → is_sending_state state ≡ true → is_passing state ≡ true
sending_passes Alive h = absurd cc
sending_passes Configuration h = absurd cc
sending_passes Preparing h = absurd cc
sending_passes Prepared h = absurd cc
sending_passes Configuring h = absurd cc
sending_passes Configured h = absurd cc
sending_passes Initializing h = absurd cc
sending_passes Initialized h = absurd cc
sending_passes SendingI h = refl
sending_passes Synchronizing h = absurd cc
sending_passes Synchronized h = absurd cc
sending_passes Running h = absurd cc
sending_passes Computing h = absurd cc
sending_passes Computed h = absurd cc
sending_passes SendingD h = refl
sending_passes Stopping h = absurd cc
sending_passes Stopped h = absurd cc
sending_passes ErrorHandling h = absurd cc
sending_passes ErrorResolved h = absurd cc

module _ (d : SlaveDesc) (x : ForeignState) (master : Address) (id : ℕ) (opened : x.session ≡ During master id) where
  free_turn : (c : Choice) → IsChoice d x Tick c → IsTurnChoice d (quieter x.quiet) x.inner c
  free_turn c h = subst (λ (s : Session). MatchBool (is_open s) (IsTurnChoice d (quieter x.quiet) x.inner c) (Unit {0})) opened h

  turn_free : (c : Choice) → IsTurnChoice d (quieter x.quiet) x.inner c → IsChoice d x Tick c
  turn_free c h = subst (λ (s : Session). MatchBool (is_open s) (IsTurnChoice d (quieter x.quiet) x.inner c) (Unit {0})) (sym opened) h

  sends_turn : (c : Choice) → sends (foreign d c) x Tick ≡ turned_sends master id (foreign_turned d (quieter x.quiet) x.inner c.act c.parcels)
  sends_turn c = ap (λ (s : Session). turn_sends (foreign d c) s x) opened

  after_turned : (c : Choice) → after (foreign d c) x Tick ≡ turned_to x (foreign_turned d (quieter x.quiet) x.inner c.act c.parcels).after
  after_turned c = ap (λ (s : Session). if is_open s then turned_to x (foreign_turned d (quieter x.quiet) x.inner c.act c.parcels).after else x) opened

  pub record Stayed (sent : List Send) (z : ForeignState) : Type 0 where
    pub may : may_act d (quieter x.quiet) x.inner.state Stays ≡ true
    pub after_is : z ≡ turned_to x x.inner
    pub told : AreNotices (turned_to x x.inner) sent

  pub record PassedOn (sent : List Send) (z : ForeignState) : Type 0 where
    pub may : may_act d (quieter x.quiet) x.inner.state Passes ≡ true
    pub parcels : List Parcel
    pub sends_data : SendsData d x.inner parcels
    pub rest : List Send
    pub sent_is : sent ≡ map parcel_send parcels ++ state_notice master id (passed x.inner).state ∷ rest
    pub after_is : z ≡ turned_to x (passed x.inner)
    pub told : AreNotices (turned_to x (passed x.inner)) rest

  pub record Fell (sent : List Send) (z : ForeignState) : Type 0 where
    pub may : may_act d (quieter x.quiet) x.inner.state Falls ≡ true
    pub rest : List Send
    pub sent_is : sent ≡ state_notice master id ErrorHandling ∷ rest
    pub after_is : z ≡ turned_to x (fallen d (quieter x.quiet) x.inner)
    pub told : AreNotices (turned_to x (fallen d (quieter x.quiet) x.inner)) rest

  abbrev pub Turned : List Send → ForeignState → Type 0
  Turned sent z = Stayed sent z ⊎ (PassedOn sent z ⊎ Fell sent z)

  pub turned : (sent : List Send) (z : ForeignState) → MaySendAt d x Tick sent z → Turned sent z
  turned sent z may = by may.choice.act may.choice.parcels (free_turn may.choice may.free) (may.sends ∙ ap (λ (l : List Send). l ++ may.notices) (sends_turn may.choice)) (may.after ∙ after_turned may.choice)
    where
      by : (act : ForeignAct) (ps : List Parcel) → IsTurnChoice d (quieter x.quiet) x.inner (record { answer = Ack; act = act; parcels = ps })
          → sent ≡ turned_sends master id (foreign_turned d (quieter x.quiet) x.inner act ps) ++ may.notices → z ≡ turned_to x (foreign_turned d (quieter x.quiet) x.inner act ps).after → Turned sent z
      by Stays ps h s a = inl (record { may = h.0; after_is = a; told = subst (λ (l : List Send). AreNotices (turned_to x x.inner) l) (sym s) (subst (λ (w : ForeignState). AreNotices w may.notices) a may.told) })
      by Passes ps h s a = inr (inl (record {
        may = h.0;
        parcels = ps;
        sends_data = h.1;
        rest = may.notices;
        sent_is = s ∙ append_assoc (map parcel_send ps) (state_notice master id (passed x.inner).state ∷ []) may.notices;
        after_is = a;
        told = subst (λ (w : ForeignState). AreNotices w may.notices) a may.told;
      }))
      by Falls ps h s a = inr (inr (record { may = h.0; rest = may.notices; sent_is = s; after_is = a; told = subst (λ (w : ForeignState). AreNotices w may.notices) a may.told }))

  pub stay_sent : may_act d (quieter x.quiet) x.inner.state Stays ≡ true → (notices : List Send) → AreNotices (turned_to x x.inner) notices → MaySendAt d x Tick notices (turned_to x x.inner)
  stay_sent may notices told =
      let c : Choice = record { answer = Ack; act = Stays; parcels = [] } in
      record { choice = c; free = turn_free c (may, refl); notices = notices; told = told; sends = ap (λ (l : List Send). l ++ notices) (sym (sends_turn c)); after = sym (after_turned c) }

  pub pass_sent : may_act d (quieter x.quiet) x.inner.state Passes ≡ true → (ps : List Parcel) → SendsData d x.inner ps → (notices : List Send) → AreNotices (turned_to x (passed x.inner)) notices
      → MaySendAt d x Tick (map parcel_send ps ++ state_notice master id (passed x.inner).state ∷ notices) (turned_to x (passed x.inner))
  pass_sent may ps data' notices told =
      let c : Choice = record { answer = Ack; act = Passes; parcels = ps } in
      record {
        choice = c;
        free = turn_free c (may, data');
        notices = notices;
        told = told;
        sends = sym (append_assoc (map parcel_send ps) (state_notice master id (passed x.inner).state ∷ []) notices) ∙ ap (λ (l : List Send). l ++ notices) (sym (sends_turn c));
        after = sym (after_turned c);
      }

  pub fall_sent : may_act d (quieter x.quiet) x.inner.state Falls ≡ true → (notices : List Send) → AreNotices (turned_to x (fallen d (quieter x.quiet) x.inner)) notices
      → MaySendAt d x Tick (state_notice master id ErrorHandling ∷ notices) (turned_to x (fallen d (quieter x.quiet) x.inner))
  fall_sent may notices told =
      let c : Choice = record { answer = Ack; act = Falls; parcels = [] } in
      record { choice = c; free = turn_free c (may, refl); notices = notices; told = told; sends = ap (λ (l : List Send). l ++ notices) (sym (sends_turn c)); after = sym (after_turned c) }

  -- ---- what a turn does by the state

  -- a heartbeat is missed
  pub missed_one : is_missed d x.inner.state (quieter x.quiet) ≡ true → HasOne d x Tick [] (state_notice master id ErrorHandling) (turned_to x (fallen d (quieter x.quiet) x.inner))
  missed_one m = record {
    onward = λ sent z may. elim (turned sent z may) [
      | inl h ↦ absurd (cc (h.may, never Stays refl))
      | inr k ↦ elim k [
        | inl h ↦ absurd (cc (h.may, never Passes refl))
        | inr h ↦ (h.rest, h.sent_is, h.after_is, h.told)
      ]
    ];
    back = λ rest told. fall_sent (act Falls) rest told;
  }
    where
      act : (a : ForeignAct) → may_act d (quieter x.quiet) x.inner.state a ≡ is_fall a
      act a = rw m refl

      never : (a : ForeignAct) → is_fall a ≡ false → may_act d (quieter x.quiet) x.inner.state a ≡ false
      never a h = act a ∙ h

  module _ (spared : is_missed d x.inner.state (quieter x.quiet) ≡ false) where
    pub acts : (a : ForeignAct) → may_act d (quieter x.quiet) x.inner.state a ≡ may_turn x.inner.state a
    acts a = rw spared refl

    -- a state that a turn does not leave
    pub stays_over : is_model x.inner.state ≡ false → is_passing x.inner.state ≡ false → IsOver d x Tick [] (turned_to x x.inner)
    stays_over m p = record {
      onward = λ rest z may. elim (turned rest z may) [
        | inl h ↦ (h.after_is, h.told)
        | inr k ↦ elim k [
          | inl h ↦ absurd (cc (h.may, by Passes p))
          | inr h ↦ absurd (cc (h.may, by Falls p))
        ]
      ];
      back = λ rest told. stay_sent (by Stays p) rest told;
    }
      where
        by : (a : ForeignAct) → is_passing x.inner.state ≡ false → may_act d (quieter x.quiet) x.inner.state a ≡ plain_turn false a
        by a e = acts a ∙ plain x.inner.state a m ∙ ap (λ (b : Bool). plain_turn b a) e

    -- a state that a turn leaves
    module _ (m : is_model x.inner.state ≡ false) (p : is_passing x.inner.state ≡ true) where
      passing : (a : ForeignAct) → may_act d (quieter x.quiet) x.inner.state a ≡ plain_turn true a
      passing a = acts a ∙ plain x.inner.state a m ∙ ap (λ (b : Bool). plain_turn b a) p

      pub passes_one : is_sending_state x.inner.state ≡ false → HasOne d x Tick [] (state_notice master id (passed x.inner).state) (turned_to x (passed x.inner))
      passes_one s = record {
        onward = λ sent z may. elim (turned sent z may) [
          | inl h ↦ absurd (cc (h.may, passing Stays))
          | inr k ↦ elim k [
            | inl h ↦ (h.rest, h.sent_is ∙ ap (λ (l : List Parcel). map parcel_send l ++ state_notice master id (passed x.inner).state ∷ h.rest) (none h.parcels h.sends_data), h.after_is, h.told)
            | inr h ↦ absurd (cc (h.may, passing Falls))
          ]
        ];
        back = λ rest told. pass_sent (passing Passes) [] (some []) rest told;
      }
        where
          none : (ps : List Parcel) → SendsData d x.inner ps → ps ≡ []
          none ps h = rw s at h

          some : (ps : List Parcel) → SendsData d x.inner []
          some ps = rw s refl

      pub passes_data : is_sending_state x.inner.state ≡ true → HasData d x Tick [] (due_ids x.inner.wires.changes x.inner.steps) (state_notice master id (passed x.inner).state) (turned_to x (passed x.inner))
      passes_data s = record {
        onward = λ sent z may. elim (turned sent z may) [
          | inl h ↦ absurd (cc (h.may, passing Stays))
          | inr k ↦ elim k [
            | inl h ↦ record { parcels = h.parcels; are = there h.parcels h.sends_data; rest = h.rest; sent_is = h.sent_is; after_is = h.after_is; told = h.told }
            | inr h ↦ absurd (cc (h.may, passing Falls))
          ]
        ];
        back = λ sent e. subst (λ (l : List Send). MaySendAt d x Tick l (turned_to x (passed x.inner))) (sym e.sent_is) (pass_sent (passing Passes) e.parcels (back_there e.parcels e.are) e.rest e.told);
      }
        where
          kept : steps_passed x.inner.state x.inner.steps ≡ x.inner.steps
          kept = steps_kept x.inner.state x.inner.steps s

          there : (ps : List Parcel) → SendsData d x.inner ps → AreParcels d x.inner.wires.changes (steps_passed x.inner.state x.inner.steps) (due_ids x.inner.wires.changes x.inner.steps) ps
          there ps h = subst (λ (n : ℕ). AreParcels d x.inner.wires.changes n (due_ids x.inner.wires.changes x.inner.steps) ps) (sym kept) (rw s at h)

          back_there : (ps : List Parcel) → AreParcels d x.inner.wires.changes (steps_passed x.inner.state x.inner.steps) (due_ids x.inner.wires.changes x.inner.steps) ps → SendsData d x.inner ps
          back_there ps h = rw s (subst (λ (n : ℕ). AreParcels d x.inner.wires.changes n (due_ids x.inner.wires.changes x.inner.steps) ps) kept h)

-- outside a session a turn does nothing
resting : (d : SlaveDesc) (x : ForeignState) (s : Session) → x.session ≡ s → is_open s ≡ false → ((c : Choice) → turn_sends (foreign d c) s x ≡ []) → Reacts d x Tick [] x
resting d x s e o h = record {
  sent_is = λ c k. ap (λ (t : Session). turn_sends (foreign d c) t x) e ∙ h c;
  after_is = λ c k. ap (λ (t : Session). if is_open t then turned_to x (foreign_turned d (quieter x.quiet) x.inner c.act c.parcels).after else x) e ∙ closed c;
  choice = record { answer = Ack; act = Stays; parcels = [] };
  free = subst (λ (t : Session). MatchBool (is_open t) (IsTurnChoice d (quieter x.quiet) x.inner (record { answer = Ack; act = Stays; parcels = [] })) (Unit {0})) (sym e) (rw o tt);
}
  where
    closed : (c : Choice) → (if is_open s then turned_to x (foreign_turned d (quieter x.quiet) x.inner c.act c.parcels).after else x) ≡ x
    closed c = rw o refl

pub before_session : (d : SlaveDesc) (x : ForeignState) → x.session ≡ Before → Reacts d x Tick [] x
before_session d x e = resting d x Before e refl (λ c. refl)

pub after_session : (d : SlaveDesc) (x : ForeignState) (master : Address) (id : ℕ) → x.session ≡ After master id → Reacts d x Tick [] x
after_session d x master id e = resting d x (After master id) e refl (λ c. refl)
