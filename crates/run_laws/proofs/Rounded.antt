-- What holds of a log of whole rounds, part by part.
use Rattle.std.proofs.Common.{◌≡◌, ℕ, zero, suc, ◌+◌, ◌-◌, ◌<◌, ◌≤◌, ◌⊎◌, inl, inr, Bool, true, false, if◌then◌else◌, Some, List, [], ◌∷◌, ◌++◌, map, reverse, refl, sym, ap, ◌∙◌, subst, arith}
use Rattle.std.specs.Prelude.{slice_get, MatchBool}
use Rattle.std.proofs.lemmas.List.{reverse-append}
use Rattle.std.proofs.lemmas.Option.{slice_get_within}
use Rattle.dcp_types.specs.declared.addresses.Address.{Address}
use Rattle.dcp_ends.specs.declared.entries.LogEntry.{LogEntry}
use Rattle.dcp_ends.specs.declared.entries.LogEntry.TheVariants.{Sent, Got, Idle, Turn}
use Rattle.dcp_ends.specs.Events.{Rules}
use Rattle.dcp_ends.specs.Logs.{same_address, own_at}
use Rattle.pdu_layout.specs.Reading.{message_in}
use Rattle.slave_desc.specs.declared.descriptions.SlaveDesc.{SlaveDesc}
use Rattle.scenario.specs.declared.scenarios.Scenario.{Scenario}
use Rattle.scenario.specs.Sound.{IsScenario}
use Rattle.log_spec.specs.Log.{Parties, IsSlaveOf, IsEnd, AreAtEnds}
use Rattle.rounds.specs.Rounds.{AllSent, IsGot, IsTurn, Gots, IsLook, EachEnd, places_of, has_report, IsLooks, IsTurns, Rounds}
use Rattle.rounds.proofs.Logs.{own_at-append}
use Rattle.master_spec.specs.Rules.{master_rules}
use Rattle.slave_spec.specs.Slaves.{slave_rules_from}
use Rattle.lockstep_laws.specs.Models.Scenarios.{slave_numbered}
use Rattle.lockstep_laws.proofs.Models.Scenarios.{has_parties}
use Rattle.run_laws.specs.Laws.{parties, BeginsWithEvent, RestsWhenDone, rules_of_slaves, RoundsAreRuns}

abbrev AllAt : (Address → Type 0) → List Rules → Type 0
AllAt E [] = Unit {0}
AllAt E (r ∷ rs) = E r.place × AllAt E rs

-- ---- what holds of each part, and of two parts together, holds of whole rounds
module _ (Q : List LogEntry → Type 0) (E : Address → Type 0) (nil : Q []) (join : (p q : List LogEntry) → Q p → Q q → Q (p ++ q))
    (got : (b : Address) (part : List LogEntry) → E b → IsGot b part → Q part) (turn : (b : Address) (part : List LogEntry) → E b → IsTurn b part → Q part) (idle : (b : Address) → E b → Q (Idle b ∷ [])) where
  gots : (b : Address) (n : ℕ) (part : List LogEntry) → E b → Gots b n part → Q part
  gots b zero part e g = subst Q (sym g) nil
  gots b (suc n) part e g = subst Q (sym g.2) (join g.0 g.1 (gots b n g.0 e g.3) (got b g.1 e g.4))

  look : (b : Address) (part : List LogEntry) → E b → IsLook b part → Q part
  look b part e l = by (most l.count l.most)
    where
      most : (n : ℕ) → n ≤ 64 → (n ≡ 64) ⊎ (n < 64)
      most n h = grind arith

      by : (l.count ≡ 64) ⊎ (l.count < 64) → Q part
      by (inl h) = subst Q (sym (l.full h)) (gots b l.count l.gots e l.form)
      by (inr h) = subst Q (sym (l.idle h)) (join l.gots (Idle b ∷ []) (gots b l.count l.gots e l.form) (idle b e))

  each : (Form : Address → List LogEntry → Type 0) → ((b : Address) (part : List LogEntry) → E b → Form b part → Q part) → (rs : List Rules) → AllAt E rs → (part : List LogEntry) → EachEnd Form (places_of rs) part → Q part
  each Form f [] a part h = subst Q (sym h) nil
  each Form f (r ∷ rs) a part h = subst Q (sym h.2) (join h.0 h.1 (f r.place h.0 a.0 h.3) (each Form f rs a.1 h.1 h.4))

  module _ (m : Rules) (rs : List Rules) (me : E m.place) (all : AllAt E rs) where
    looks : (part : List LogEntry) → IsLooks (Some m) rs part → Q part
    looks part l = subst Q (sym l.form) (join l.first l.rest (look m.place l.first me l.own) (each IsLook look rs all l.rest l.others))

    turns : (log part : List LogEntry) → IsTurns (Some m) rs log part → Q part
    turns log part t = subst Q (sym t.form) (join t.first t.rest (turn m.place t.first me t.own) (by (has_report (Some m) (log ++ t.first)) t.others))
      where
        by : (b : Bool) → MatchBool b (t.rest ≡ []) (EachEnd IsTurn (places_of rs) t.rest) → Q t.rest
        by true h = subst Q (sym h) nil
        by false h = each IsTurn turn rs all t.rest h

    pub whole : (n : ℕ) (log : List LogEntry) → Rounds (Some m) rs n log → Q log
    whole zero log r = subst Q (sym r) nil
    whole (suc n) log r =
        let k = r.4 in
        subst Q (sym r.2) (join r.0 r.1 (whole n r.0 r.3) (subst Q (sym k.form) (join k.looks k.turns (looks k.looks k.looked) (turns (r.0 ++ k.looks) k.turns k.turned))))

-- ---- each entry is at an end
ends_join : (w : Parties) (p q : List LogEntry) → AreAtEnds w p → AreAtEnds w q → AreAtEnds w (p ++ q)
ends_join w [] q a b = b
ends_join w (e ∷ p) q a b = (a.0, ends_join w p q a.1 b)

ends_sent : (w : Parties) (b : Address) (part : List LogEntry) → IsEnd w b → AllSent b part → AreAtEnds w part
ends_sent w b [] e h = tt
ends_sent w b (Sent from to bytes ∷ part) e h = let P : Address → Type 0 = IsEnd w in (subst P (sym h.0) e, ends_sent w b part e h.1)
ends_sent w b (Got at from bytes ∷ part) e h = absurd h
ends_sent w b (Idle at ∷ part) e h = absurd h
ends_sent w b (Turn at ∷ part) e h = absurd h

ends_got : (w : Parties) (b : Address) (part : List LogEntry) → IsEnd w b → IsGot b part → AreAtEnds w part
ends_got w b part e g = let P : List LogEntry → Type 0 = AreAtEnds w in subst P (sym g.form) (e, ends_sent w b g.sents e g.own)

ends_turn : (w : Parties) (b : Address) (part : List LogEntry) → IsEnd w b → IsTurn b part → AreAtEnds w part
ends_turn w b part e g = let P : List LogEntry → Type 0 = AreAtEnds w in subst P (sym g.form) (e, ends_sent w b g.sents e g.own)

ends_turned : (w : Parties) (p : List LogEntry) → AreAtEnds w p → AreAtEnds w (reverse p)
ends_turned w [] a = tt
ends_turned w (e ∷ p) a = let P : List LogEntry → Type 0 = AreAtEnds w in subst P (sym (reverse-append (e ∷ []) p)) (ends_join w (reverse p) (e ∷ []) (ends_turned w p a.1) (a.0, tt))

-- ---- where an end finds nothing, it has sent all
abbrev Calm : Address → List LogEntry → Type 0
Calm a [] = Unit {0}
Calm a (Sent from to bytes ∷ log) = Calm a log
Calm a (Got at from bytes ∷ log) = Calm a log
Calm a (Idle at ∷ log) = BeginsWithEvent (own_at a log) × Calm a log
Calm a (Turn at ∷ log) = Calm a log

record IsWhole (a : Address) (p : List LogEntry) : Type 0 where
  pub begins : BeginsWithEvent (own_at a p)
  pub calm : Calm a p

events_join : (p q : List LogEntry) → BeginsWithEvent p → BeginsWithEvent q → BeginsWithEvent (p ++ q)
events_join [] q a b = b
events_join (Sent from to bytes ∷ p) q a b = absurd a
events_join (Got at from bytes ∷ p) q a b = tt
events_join (Idle at ∷ p) q a b = tt
events_join (Turn at ∷ p) q a b = tt

own_join : (a : Address) (p q : List LogEntry) → BeginsWithEvent (own_at a p) → BeginsWithEvent (own_at a q) → BeginsWithEvent (own_at a (p ++ q))
own_join a p q x y = let P : List LogEntry → Type 0 = BeginsWithEvent in subst P (sym (own_at-append a p q)) (events_join (own_at a p) (own_at a q) x y)

calm_join : (a : Address) (p q : List LogEntry) → Calm a p → Calm a q → BeginsWithEvent (own_at a q) → Calm a (p ++ q)
calm_join a [] q x y b = y
calm_join a (Sent from to bytes ∷ p) q x y b = calm_join a p q x y b
calm_join a (Got at from bytes ∷ p) q x y b = calm_join a p q x y b
calm_join a (Idle at ∷ p) q x y b = (own_join a p q x.0 b, calm_join a p q x.1 y b)
calm_join a (Turn at ∷ p) q x y b = calm_join a p q x y b

whole_join : (a : Address) (p q : List LogEntry) → IsWhole a p → IsWhole a q → IsWhole a (p ++ q)
whole_join a p q x y = record { begins = own_join a p q x.begins y.begins; calm = calm_join a p q x.calm y.calm y.begins }

calm_sent : (a b : Address) (part : List LogEntry) → AllSent b part → Calm a part
calm_sent a b [] h = tt
calm_sent a b (Sent from to bytes ∷ part) h = calm_sent a b part h.1
calm_sent a b (Got at from bytes ∷ part) h = absurd h
calm_sent a b (Idle at ∷ part) h = absurd h
calm_sent a b (Turn at ∷ part) h = absurd h

other_sent : (a b : Address) (part : List LogEntry) → same_address a b ≡ false → AllSent b part → own_at a part ≡ []
other_sent a b [] e h = refl
other_sent a b (Sent from to bytes ∷ part) e h =
    let z : same_address a from ≡ false = ap (same_address a) h.0 ∙ e in
    ap (λ (t : Bool). (if t then Sent from to bytes ∷ [] else []) ++ own_at a part) z ∙ other_sent a b part e h.1
other_sent a b (Got at from bytes ∷ part) e h = absurd h
other_sent a b (Idle at ∷ part) e h = absurd h
other_sent a b (Turn at ∷ part) e h = absurd h

block_begins : (a b : Address) (e : LogEntry) (sents : List LogEntry) → BeginsWithEvent (e ∷ own_at a sents) → AllSent b sents → BeginsWithEvent ((if same_address a b then e ∷ [] else []) ++ own_at a sents)
block_begins a b e sents x h = by (same_address a b) refl
  where
    by : (t : Bool) → same_address a b ≡ t → BeginsWithEvent ((if t then e ∷ [] else []) ++ own_at a sents)
    by true z = x
    by false z = let P : List LogEntry → Type 0 = BeginsWithEvent in subst P (sym (other_sent a b sents z h)) tt

whole_got : (a b : Address) (part : List LogEntry) → IsGot b part → IsWhole a part
whole_got a b part g =
    let P : List LogEntry → Type 0 = IsWhole a in
    subst P (sym g.form) (record { begins = block_begins a b (Got b g.from g.bytes) g.sents tt g.own; calm = calm_sent a b g.sents g.own })

whole_turn : (a b : Address) (part : List LogEntry) → IsTurn b part → IsWhole a part
whole_turn a b part g =
    let P : List LogEntry → Type 0 = IsWhole a in
    subst P (sym g.form) (record { begins = block_begins a b (Turn b) g.sents tt g.own; calm = calm_sent a b g.sents g.own })

calm_later : (a : Address) (e : LogEntry) (log : List LogEntry) → Calm a (e ∷ log) → Calm a log
calm_later a (Sent from to bytes) log c = c
calm_later a (Got at from bytes) log c = c
calm_later a (Idle at) log c = c.1
calm_later a (Turn at) log c = c

calm_at : (a : Address) (before after : List LogEntry) → Calm a (before ++ Idle a ∷ after) → BeginsWithEvent (own_at a after)
calm_at a [] after c = c.0
calm_at a (e ∷ before) after c = calm_at a before after (calm_later a e (before ++ Idle a ∷ after) c)

rests : (a : Address) (log : List LogEntry) → Calm a log → RestsWhenDone a log
rests a log c before after e = let P : List LogEntry → Type 0 = Calm a in calm_at a before after (subst P e c)

-- ---- the ends of a scenario
anywhere : (sc : Scenario) (ds : List SlaveDesc) (E : Address → Type 0) → ((i : ℕ) (d : SlaveDesc) → slice_get ds i ≡ Some d → E d.address)
    → (R : List Rules → Type 0) → R [] → ((r : Rules) (rs : List Rules) → E r.place → R rs → R (r ∷ rs)) → R (map (λ (d : SlaveDesc). slave_rules_from (record { desc = d; micro = sc.micro })) ds)
anywhere sc [] E h R nil more = nil
anywhere sc (d ∷ ds) E h R nil more = more (slave_rules_from (record { desc = d; micro = sc.micro })) (map (λ (d : SlaveDesc). slave_rules_from (record { desc = d; micro = sc.micro })) ds) (h 0 d refl) (anywhere sc ds E (λ i d e. h (suc i) d e) R nil more)

slave_end : (sc : Scenario) (other : SlaveDesc) → IsScenario sc → (i : ℕ) (d : SlaveDesc) → slice_get sc.slaves i ≡ Some d → IsEnd (parties sc other) d.address
slave_end sc other ok i d e =
    let lt = slice_get_within sc.slaves i d e in
    let is : IsSlaveOf (parties sc other) (i + 1) = (omega arith, omega (arith, lt)) in
    let m : i + 1 - 1 ≡ i = omega arith in
    let same : Some d ≡ Some (slave_numbered sc other (i + 1)) = sym e ∙ ap (slice_get sc.slaves) (sym m) ∙ (has_parties sc other ok message_in).desc (i + 1) is in
    let z : d ≡ slave_numbered sc other (i + 1) = cc in
    inr (i + 1, is, ap (λ (x : SlaveDesc). x.address) z)

all_there : (rs : List Rules) → AllAt (λ b. Unit {0}) rs
all_there [] = tt
all_there (r ∷ rs) = (tt, all_there rs)

pub rounds_are_runs : RoundsAreRuns
rounds_are_runs sc other ok log r = record {
  honest = r.honest;
  hosted = ends_turned w log (whole (AreAtEnds w) (IsEnd w) tt (ends_join w) (ends_got w) (ends_turn w) (λ b e. (e, tt)) (master_rules sc) (rules_of_slaves sc) (inl refl) all_ends r.count log r.rounds);
  master = r.master;
  slaves = r.slaves;
  rests = λ s is. (
      let a = (slave_numbered sc other s).address in
      rests a log (whole (IsWhole a) (λ b. Unit {0}) (record { begins = tt; calm = tt }) (whole_join a) (λ b part e g. whole_got a b part g) (λ b part e g. whole_turn a b part g) (λ b e. record { begins = tt; calm = (tt, tt) }) (master_rules sc) (rules_of_slaves sc) tt (all_there (rules_of_slaves sc)) r.count log r.rounds).calm
      );
}
  where
    w : Parties
    w = parties sc other

    all_ends : AllAt (IsEnd w) (rules_of_slaves sc)
    all_ends = anywhere sc sc.slaves (IsEnd w) (slave_end sc other ok) (AllAt (IsEnd w)) tt (λ r rs e h. (e, h))
