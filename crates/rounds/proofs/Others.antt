-- A part of one end tells nothing of another.
use Rattle.std.proofs.Common.{◌≡◌, ◌≢◌, ℕ, ◌+◌, ◌<◌, ◌≤◌, List, [], ◌∷◌, ◌++◌, length, map, take, set, get_or, false, refl, ap, sym, ◌∙◌, ◌⊎◌, inl, inr, arith, zero, suc, subst}
use Rattle.std.proofs.Math.Seq.{map-set_same}
use Rattle.std.proofs.Math.ListN.{get_or-map}
use Rattle.std.proofs.lemmas.Bool.{cases_eq}
use Rattle.std.proofs.lemmas.List.{append-nil, append_assoc, take_more, length-map, length-set, get_or_default, get_or-set_same, get_or-set_other}
use Rattle.std.specs.List.{All}
use Rattle.dcp_types.specs.declared.addresses.Address.{Address}
use Rattle.dcp_ends.specs.declared.entries.LogEntry.{LogEntry}
use Rattle.dcp_ends.specs.declared.entries.LogEntry.TheVariants.{Sent, Got, Idle, Turn}
use Rattle.dcp_ends.specs.Events.{Event, Rules}
use Rattle.dcp_ends.specs.Logs.{same_address, events_at, own_at, answered}
use Rattle.rounds.specs.Rounds.{AllSent, Gots, IsGot, IsLook, IsLookPart, IsTurn, IsTurnPart, EachEnd, EachPart}
use Rattle.rounds.specs.Told.{IsTold, Apart}
use Rattle.rounds.proofs.Logs.{events_at-append, own_at-append}

-- the part has no entry of this end
pub record Silent (a : Address) (part : List LogEntry) : Type 0 where
  pub events : events_at a part ≡ []
  pub own : own_at a part ≡ []

pub Silent-nil : (a : Address) → Silent a []
Silent-nil a = record { events = refl; own = refl }

pub Silent-append : (a : Address) (p q : List LogEntry) → Silent a p → Silent a q → Silent a (p ++ q)
Silent-append a p q f s = record {
  events = rw (events_at-append, f.events, s.events);
  own = rw (own_at-append, f.own, s.own);
}

pub at_most : (n : ℕ) → n ≤ 64 → (n ≡ 64) ⊎ (n < 64)
at_most n le = elim (cases_eq n 64) [ inl all ↦ inl all | inr ne ↦ inr (omega arith) ]

pub Silent-events : (a : Address) (log part : List LogEntry) → Silent a part → events_at a (log ++ part) ≡ events_at a log
Silent-events a log part silent = events_at-append a log part ∙ ap (λ more. events_at a log ++ more) silent.events ∙ append-nil _

module _ (a b : Address) (other : same_address a b ≡ false) where
  sents_silent : (part : List LogEntry) → AllSent b part → Silent a part
  sents_silent [] all = Silent-nil a
  sents_silent (Sent from to bytes ∷ part) all =
      let rest = sents_silent part all.1 in record { events = rest.events; own = rw (all.0, other) rest.own }
  sents_silent (Got at from bytes ∷ part) all = absurd all
  sents_silent (Idle at ∷ part) all = absurd all
  sents_silent (Turn at ∷ part) all = absurd all

  pub got_silent : (part : List LogEntry) → IsGot b part → Silent a part
  got_silent part got =
      let rest = sents_silent got.sents got.own in
      rw got.form (record { events = rw other rest.events; own = rw other rest.own })

  pub turn_silent : (part : List LogEntry) → IsTurn b part → Silent a part
  turn_silent part turn =
      let rest = sents_silent turn.sents turn.own in
      rw turn.form (record { events = rw other rest.events; own = rw other rest.own })

  idle_silent : Silent a (Idle b ∷ [])
  idle_silent = record { events = refl; own = refl }

  pub gots_silent : (count : ℕ) (part : List LogEntry) → Gots b count part → Silent a part
  gots_silent zero part none = rw none (Silent-nil a)
  gots_silent (suc count) part gots = rw gots.2 (Silent-append a gots.0 gots.1 (gots_silent count gots.0 gots.3) (got_silent gots.1 gots.4))

  by_count : (part : List LogEntry) (look : IsLook b part) → (look.count ≡ 64) ⊎ (look.count < 64) → Silent a part
  by_count part look (inl full) = rw (look.full full) (gots_silent look.count look.gots look.form)
  by_count part look (inr few) = rw (look.idle few) (Silent-append a look.gots (Idle b ∷ []) (gots_silent look.count look.gots look.form) idle_silent)

  pub look_silent : (part : List LogEntry) → IsLook b part → Silent a part
  look_silent part look = by_count part look (at_most look.count look.most)

  pub look_part_silent : (part : List LogEntry) → IsLookPart b part → Silent a part
  look_part_silent part look = gots_silent look.0 part look.2

  pub turn_part_silent : (part : List LogEntry) → IsTurnPart b part → Silent a part
  turn_part_silent part (inl none) = rw none (Silent-nil a)
  turn_part_silent part (inr turn) = turn_silent part turn

module _ {E : Type 0} (stands : E → List Event → Type 0) (rules : Rules) (end : E) (log part : List LogEntry) (silent : Silent rules.place part) where
  events_same : events_at rules.place (log ++ part) ≡ events_at rules.place log
  events_same = Silent-events rules.place log part silent

  own_same : own_at rules.place (log ++ part) ≡ own_at rules.place log
  own_same = own_at-append rules.place log part ∙ ap (λ more. own_at rules.place log ++ more) silent.own ∙ append-nil _

  pub IsTold-silent : IsTold stands rules end log → IsTold stands rules end (log ++ part)
  IsTold-silent told = record { stands_for = rw events_same told.stands_for; follows = own_same ∙ told.follows ∙ ap (answered rules []) (sym events_same) }

-- what no call changes of the elements, where one is changed
pub kept : {E A : Type 0} (f : E → A) (ends : List E) (i : ℕ) (w y : E) → f y ≡ f (get_or ends i w) → map f (set ends i y) ≡ map f ends
kept f ends i w y same = map-set_same f ends i y w same

-- the list with one element changed, read at the default w
module _ {E : Type 0} (rules : E → Rules) (ends : List E) (i : ℕ) (w y : E) (here : i < length ends) where
  pub rules_kept : rules y ≡ rules (get_or ends i w) → map rules (set ends i y) ≡ map rules ends
  rules_kept same = map-set_same rules ends i y w same

  pub other_places : Apart (map rules ends) → (k : ℕ) (d : E) → k < length ends → k ≢ i → same_address (rules (get_or ends k d)).place (rules (get_or ends i w)).place ≡ false
  other_places apart k d lt ne =
      let far = apart k i (rules d) (rw length-map lt) (rw length-map here) ne in
      let at_i : get_or (map rules ends) i (rules d) ≡ rules (get_or ends i w) = get_or-map rules ends i d ∙ ap rules (get_or_default ends i d w here) in
      rw (at_i, get_or-map rules ends k d) at far

  pub All-visited : (P Q : E → Type 0) → Q y → ((k : ℕ) (d : E) → k < length ends → k ≢ i → P (get_or ends k d) → Q (get_or ends k d)) → All P ends → All Q (set ends i y)
  All-visited P Q at_y others all k d lt =
      let lt' : k < length ends = rw length-set at lt in
      elim (cases_eq k i) [
        | inl same ↦ subst (λ j. Q (get_or (set ends i y) j d)) (sym same) (rw (get_or-set_same ends i y d here) at_y)
        | inr ne ↦ rw (get_or-set_other ends i k y d ne) (others k d lt' ne (all k d lt'))
      ]

module _ (Form Cut : Address → List LogEntry → Type 0) where
  pub Each-append : (places more : List Address) (p q : List LogEntry) → EachEnd Form places p → EachEnd Form more q → EachEnd Form (places ++ more) (p ++ q)
  Each-append [] more p q none rest = rw none rest
  Each-append (a ∷ places) more p q each rest =
      (each.0, each.1 ++ q, ap (λ xs. xs ++ q) each.2 ∙ append_assoc each.0 each.1 q, each.3, Each-append places more each.1 q each.4 rest)

  pub Each-one : (a : Address) (p : List LogEntry) → Form a p → EachEnd Form (a ∷ []) p
  Each-one a p form = (p, [], sym (append-nil p), form, refl)

  pub Each-more : (places : List Address) (i : ℕ) (d : Address) (p q : List LogEntry) → i < length places → EachEnd Form (take i places) p → Form (get_or places i d) q → EachEnd Form (take (i + 1) places) (p ++ q)
  Each-more places i d p q here each form = rw (take_more places i d here) (Each-append (take i places) _ p q each (Each-one _ q form))

  pub EachPart-here : (places : List Address) (i : ℕ) (d : Address) (p q : List LogEntry) → i < length places → EachEnd Form (take i places) p → Cut (get_or places i d) q → EachPart Form Cut places (p ++ q)
  EachPart-here [] i d p q here each cut = absurd (omega arith)
  EachPart-here (a ∷ places) zero d p q here none cut = rw none (inl cut)
  EachPart-here (a ∷ places) (suc i) d p q here each cut =
      let here' : i < length places = omega arith in
      inr (each.0, each.1 ++ q, ap (λ xs. xs ++ q) each.2 ∙ append_assoc each.0 each.1 q, each.3, EachPart-here places i d each.1 q here' each.4 cut)
