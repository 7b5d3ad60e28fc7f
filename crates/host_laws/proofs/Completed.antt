-- A log that stops among the sends of its last event is the front of one that has them all.
use Rattle.std.proofs.Common.{◌≡◌, ℕ, zero, suc, ◌≤◌, ◌⊎◌, inl, inr, true, false, List, [], ◌∷◌, ◌++◌, reverse, refl, sym, ap, ◌∙◌, subst, arith, append-nil, append_assoc}
use Rattle.std.proofs.lemmas.List.{reverse-append}
use Rattle.std.proofs.lemmas.Bool.{cases_Bool, cases_eq}
use Rattle.dcp_types.specs.declared.addresses.Address.{Address}
use Rattle.dcp_ends.specs.declared.entries.LogEntry.{LogEntry}
use Rattle.dcp_ends.specs.declared.entries.LogEntry.TheVariants.{Sent, Got, Idle, Turn}
use Rattle.dcp_ends.specs.Events.{Rules}
use Rattle.dcp_ends.specs.Logs.{same_address, events_at, own_at, answered, entry_of}
use Rattle.log_spec.specs.Log.{Parties, IsSlaveOf, IsEnd, AreAtEnds, PartiesApart}
use Rattle.log_spec.specs.Oldest.{Honest, MayStand}
use Rattle.rounds.specs.Rounds.{AllSent}
use Rattle.rounds.specs.Told.{Follows, FollowsUpTo, EndsIn}
use Rattle.rounds.proofs.Logs.{own_at-append, events_at-append, same_address-refl}
use Rattle.slave_desc.specs.declared.descriptions.SlaveDesc.{SlaveDesc}
use Rattle.scenario.specs.declared.scenarios.Scenario.{Scenario}
use Rattle.scenario.specs.Sound.{IsScenario}
use Rattle.master_spec.specs.Rules.{master_rules}
use Rattle.slave_spec.specs.Slaves.{slave_rules_from}
use Rattle.lockstep_laws.specs.Models.Scenarios.{slave_numbered}
use Rattle.pdu_layout.specs.Reading.{message_in}
use Rattle.lockstep_laws.proofs.Models.Scenarios.{has_parties}
use Rattle.run_laws.specs.Laws.{parties, slave_setup_of, IsRunOf}
use Rattle.run_laws.specs.Headline.Headline.{KeepsToReference}
use Rattle.host_laws.proofs.Left.{address_is, left_sent, one_end}
use Rattle.host_laws.proofs.Fronts.{Calm, calm_more, ends_join, ends_sent, ends_turned, other_sent, rests}

-- ---- honest with more sends
no_got : (a : Address) (before after : List LogEntry) (at from : Address) (bytes : List ℕ) → AllSent a (before ++ Got at from bytes ∷ after) → ⊥
no_got a [] after at from bytes h = absurd h
no_got a (Sent f t b ∷ before) after at from bytes h = no_got a before after at from bytes h.1
no_got a (Got x f b ∷ before) after at from bytes h = absurd h
no_got a (Idle x ∷ before) after at from bytes h = absurd h
no_got a (Turn x ∷ before) after at from bytes h = absurd h

got_within : (a : Address) (log left before after : List LogEntry) (at from : Address) (bytes : List ℕ) → AllSent a left → log ++ left ≡ before ++ Got at from bytes ∷ after
    → (rest : List LogEntry) × (log ≡ before ++ Got at from bytes ∷ rest)
got_within a [] left before after at from bytes all e = let P : List LogEntry → Type 0 = AllSent a in absurd (no_got a before after at from bytes (subst P e all))
got_within a (x ∷ log) left [] after at from bytes all e = (log, ap (λ (y : LogEntry). y ∷ log) first)
  where
    first : x ≡ Got at from bytes
    first = cc
got_within a (x ∷ log) left (y ∷ before) after at from bytes all e =
    let more = got_within a log left before after at from bytes all others in
    (more.0, ap (λ (z : LogEntry). z ∷ log) first ∙ ap (λ (l : List LogEntry). y ∷ l) more.1)
  where
    first : x ≡ y
    first = cc

    others : log ++ left ≡ before ++ Got at from bytes ∷ after
    others = cc

honest_more : (w : Parties) (a : Address) (log left : List LogEntry) → AllSent a left → Honest w log → Honest w (log ++ left)
honest_more w a log left all honest before after e form = by e form
  where
    by : (e : LogEntry) → log ++ left ≡ before ++ e ∷ after → MayStand w e before
    by (Sent from to bytes) f = tt
    by (Got at from bytes) f =
        let within = got_within a log left before after at from bytes all f in
        honest before within.0 (Got at from bytes) within.1
    by (Idle at) f = tt
    by (Turn at) f = tt

-- ---- each end with more sends
events_none : (a b : Address) (left : List LogEntry) → AllSent b left → events_at a left ≡ []
events_none a b [] all = refl
events_none a b (Sent from to bytes ∷ left) all = events_none a b left all.1
events_none a b (Got at from bytes ∷ left) all = absurd all
events_none a b (Idle at ∷ left) all = absurd all
events_none a b (Turn at ∷ left) all = absurd all

own_all : (a : Address) (left : List LogEntry) → AllSent a left → own_at a left ≡ left
own_all a [] all = refl
own_all a (Sent from to bytes ∷ left) all = rw (all.0, same_address-refl) (ap (λ (l : List LogEntry). Sent a to bytes ∷ l) (own_all a left all.1))
own_all a (Got at from bytes ∷ left) all = absurd all
own_all a (Idle at ∷ left) all = absurd all
own_all a (Turn at ∷ left) all = absurd all

events_same : (a b : Address) (log left : List LogEntry) → AllSent b left → events_at a (log ++ left) ≡ events_at a log
events_same a b log left all = events_at-append a log left ∙ ap (λ (es : _). events_at a log ++ es) (events_none a b left all) ∙ append-nil (events_at a log)

-- another end's sends are nothing to it
follows_other : (r : Rules) (b : Address) (log left : List LogEntry) → same_address r.place b ≡ false → AllSent b left → Follows r log → Follows r (log ++ left)
follows_other r b log left apart all follows =
    own_at-append r.place log left ∙ ap (λ (l : List LogEntry). own_at r.place log ++ l) (other_sent r.place b left apart all) ∙ append-nil (own_at r.place log)
    ∙ follows ∙ ap (answered r []) (sym (events_same r.place b log left all))

-- its own are what it had left
follows_all : (r : Rules) (log : List LogEntry) (up : FollowsUpTo r log) → Follows r (log ++ up.left)
follows_all r log up =
    let all = left_sent r log up.left up.own in
    own_at-append r.place log up.left ∙ ap (λ (l : List LogEntry). own_at r.place log ++ l) (own_all r.place up.left all) ∙ up.own ∙ ap (answered r []) (sym (events_same r.place r.place log up.left all))

-- either it has sent all, or the log ends in its event
settled : (r : Rules) (log : List LogEntry) → FollowsUpTo r log → Follows r log ⊎ EndsIn r.place log
settled r log up = by up.last
  where
    by : (up.left ≡ []) ⊎ EndsIn r.place log → Follows r log ⊎ EndsIn r.place log
    by (inl none) = inl (sym (append-nil (own_at r.place log)) ∙ ap (λ (l : List LogEntry). own_at r.place log ++ l) (sym none) ∙ up.own)
    by (inr ends) = inr ends

apart_false : (a b : Address) → (a ≡ b → ⊥) → same_address a b ≡ false
apart_false a b apart = by (cases_Bool (same_address a b))
  where
    by : (same_address a b ≡ true) ⊎ (same_address a b ≡ false) → same_address a b ≡ false
    by (inl same) = absurd (apart (address_is a b same))
    by (inr other) = other

-- ---- a log of all ends of a scenario, each of which may have sends of the last event left
module _ (sc : Scenario) (other : SlaveDesc) (ok : IsScenario sc) (log : List LogEntry) (honest : Honest (parties sc other) log) (ends : AreAtEnds (parties sc other) log) (calm : (a : Address) → Calm a log)
    (master : FollowsUpTo (master_rules sc) log) (slaves : (s : ℕ) → IsSlaveOf (parties sc other) s → FollowsUpTo (slave_rules_from (slave_setup_of sc other s)) log) where
  apart : PartiesApart (parties sc other)
  apart = (has_parties sc other ok message_in).apart

  -- what is left, and the run that has it
  pub record Completed : Type 0 where
    pub left : List LogEntry
    pub run : IsRunOf sc other (log ++ left)

  nothing_left : Follows (master_rules sc) log → ((s : ℕ) → IsSlaveOf (parties sc other) s → Follows (slave_rules_from (slave_setup_of sc other s)) log) → Completed
  nothing_left m f =
      let run : IsRunOf sc other log = record {
        honest = honest;
        hosted = ends_turned (parties sc other) log ends;
        master = m;
        slaves = f;
        rests = λ s is. rests (slave_numbered sc other s).address log (calm (slave_numbered sc other s).address);
      } in
      record { left = []; run = subst (λ (l : List LogEntry). IsRunOf sc other l) (sym (append-nil log)) run }

  calm_with : (a b : Address) (left : List LogEntry) → AllSent b left → EndsIn b log → Calm a (log ++ left)
  calm_with a b left all e =
      let P : List LogEntry → Type 0 = λ l. Calm a (l ++ left) in
      let Q : List LogEntry → Type 0 = λ l. Calm a l in
      let more = calm_more a b e.before e.event e.sents left e.own all (subst Q e.form (calm a)) in
      subst P (sym e.form) (subst Q (sym (append_assoc e.before (entry_of b e.event ∷ e.sents) left)) more)

  some_left : (b : Address) (left : List LogEntry) → IsEnd (parties sc other) b → AllSent b left → EndsIn b log → Follows (master_rules sc) (log ++ left)
      → ((s : ℕ) → IsSlaveOf (parties sc other) s → Follows (slave_rules_from (slave_setup_of sc other s)) (log ++ left)) → Completed
  some_left b left at_end all e m f = record {
    left = left;
    run = record {
      honest = honest_more (parties sc other) b log left all honest;
      hosted = ends_turned (parties sc other) (log ++ left) (ends_join (parties sc other) log left ends (ends_sent (parties sc other) b left at_end all));
      master = m;
      slaves = f;
      rests = λ s is. rests (slave_numbered sc other s).address (log ++ left) (calm_with (slave_numbered sc other s).address b left all e);
    };
  }

  -- the log ends in no other slave's event, so that one has sent all
  slave_whole : (b : Address) → EndsIn b log → (s : ℕ) → IsSlaveOf (parties sc other) s → ((slave_numbered sc other s).address ≡ b → ⊥) → (left : List LogEntry) → AllSent b left
      → Follows (slave_rules_from (slave_setup_of sc other s)) (log ++ left)
  slave_whole b e s is far left all = by (settled (slave_rules_from (slave_setup_of sc other s)) log (slaves s is))
    where
      by : Follows (slave_rules_from (slave_setup_of sc other s)) log ⊎ EndsIn (slave_numbered sc other s).address log → Follows (slave_rules_from (slave_setup_of sc other s)) (log ++ left)
      by (inl f) = follows_other (slave_rules_from (slave_setup_of sc other s)) b log left (apart_false (slave_numbered sc other s).address b far) all f
      by (inr x) = absurd (far (one_end (slave_numbered sc other s).address b log x e))

  -- the master's last event is the newest
  master_left : EndsIn sc.master log → Completed
  master_left e =
      let all = left_sent (master_rules sc) log master.left master.own in
      some_left sc.master master.left (inl refl) all e (follows_all (master_rules sc) log master) (λ s is. slave_whole sc.master e s is (apart.master s is) master.left all)

  -- a slave's last event is the newest
  slave_left : Follows (master_rules sc) log → (s : ℕ) → IsSlaveOf (parties sc other) s → EndsIn (slave_numbered sc other s).address log → Completed
  slave_left m s is e =
      let up = slaves s is in
      let a = (slave_numbered sc other s).address in
      let all = left_sent (slave_rules_from (slave_setup_of sc other s)) log up.left up.own in
      let far : same_address sc.master a ≡ false = apart_false sc.master a (λ z. apart.master s is (sym z)) in
      some_left a up.left (inr (s, is, refl)) all e (follows_other (master_rules sc) a log up.left far all m) (λ t it. each t it (cases_eq t s))
    where
      each : (t : ℕ) → IsSlaveOf (parties sc other) t → (t ≡ s) ⊎ (t ≡ s → ⊥) → Follows (slave_rules_from (slave_setup_of sc other t)) (log ++ (slaves s is).left)
      each t it (inl same) = subst (λ (n : ℕ). Follows (slave_rules_from (slave_setup_of sc other n)) (log ++ (slaves s is).left)) (sym same) (follows_all (slave_rules_from (slave_setup_of sc other s)) log (slaves s is))
      each t it (inr ne) =
          slave_whole (slave_numbered sc other s).address e t it (λ z. ne (apart.slaves t s it is z)) (slaves s is).left (left_sent (slave_rules_from (slave_setup_of sc other s)) log (slaves s is).left (slaves s is).own)

  abbrev Found : ℕ → Type 0
  Found n = ((s : ℕ) → IsSlaveOf (parties sc other) s → s ≤ n → Follows (slave_rules_from (slave_setup_of sc other s)) log) ⊎ ((s : ℕ) × IsSlaveOf (parties sc other) s × EndsIn (slave_numbered sc other s).address log)

  -- of the slaves up to this one all have sent all, or the log ends in an event of one of them
  find : (n : ℕ) → n ≤ (parties sc other).count → Found n
  find zero le = inl (λ s is few. absurd (omega (arith, is.0, few)))
  find (suc n) le = by (find n (omega (arith, le))) (settled (slave_rules_from (slave_setup_of sc other (suc n))) log (slaves (suc n) here))
    where
      here : IsSlaveOf (parties sc other) (suc n)
      here = (omega arith, le)

      by : Found n → Follows (slave_rules_from (slave_setup_of sc other (suc n))) log ⊎ EndsIn (slave_numbered sc other (suc n)).address log → Found (suc n)
      by (inr found) this = inr found
      by (inl f) (inr e) = inr (suc n, here, e)
      by (inl f) (inl g) = inl (λ s is few. each s is few (cases_eq s (suc n)))
        where
          each : (s : ℕ) → IsSlaveOf (parties sc other) s → s ≤ suc n → (s ≡ suc n) ⊎ (s ≡ suc n → ⊥) → Follows (slave_rules_from (slave_setup_of sc other s)) log
          each s is few (inl same) = subst (λ (k : ℕ). Follows (slave_rules_from (slave_setup_of sc other k)) log) (sym same) g
          each s is few (inr ne) = f s is (grind (arith, few, ne))

  pub completed : Completed
  completed = by (settled (master_rules sc) log master)
    where
      by : Follows (master_rules sc) log ⊎ EndsIn sc.master log → Completed
      by (inr e) = master_left e
      by (inl m) = among (find (parties sc other).count (omega arith))
        where
          among : Found (parties sc other).count → Completed
          among (inl all) = nothing_left m (λ s is. all s is is.1)
          among (inr found) = slave_left m found.0 found.1 found.2

-- what is kept to at every moment of a log is kept to at those of its front
pub keeps_front : (sc : Scenario) (other : SlaveDesc) (log left : List LogEntry) → KeepsToReference sc other (log ++ left) → KeepsToReference sc other log
keeps_front sc other log left k = record {
  rows = k.rows;
  fault = k.fault;
  reference = k.reference;
  always = λ later sofar e. k.always (reverse left ++ later) sofar (reverse-append log left ∙ ap (λ (l : List LogEntry). reverse left ++ l) e ∙ sym (append_assoc (reverse left) later sofar));
}
