-- The log of a run that reported: nothing in it differs.
use Rattle.std.proofs.Common.{◌≡◌, ◌≢◌, ℕ, ◌<◌, List, [], ◌∷◌, ◌++◌, length, get_or, false, Some, zero, suc, refl, sym, ap, ◌∙◌, ◌⊎◌, inl, inr, arith, append_assoc, subst}
use Rattle.std.proofs.lemmas.Bool.{cases_Bool, cases_eq}
use Rattle.std.proofs.lemmas.List.{append-nil, get_or_default}
use Rattle.std.specs.List.{All}
use Rattle.dcp_types.specs.declared.addresses.Address.{Address}
use Rattle.dcp_ends.specs.declared.entries.LogEntry.{LogEntry}
use Rattle.dcp_ends.specs.declared.entries.LogEntry.TheVariants.{Sent, Got, Idle, Turn}
use Rattle.dcp_ends.specs.Events.{Event, Gram, Tick, Send, Rules}
use Rattle.dcp_ends.specs.Logs.{answered, events_at, own_at, same_address, sent_by}
use Rattle.rounds.specs.Rounds.{AllSent, Gots, IsLook, IsLooks, has_report}
use Rattle.rounds.specs.Told.{Apart, Follows}
use Rattle.rounds.proofs.Hosted.{Each-silent}
use Rattle.rounds.proofs.Logs.{events_at-append, own_at-append, same_address-refl}
use Rattle.rounds.proofs.Others.{Silent, at_most, look_silent}
use Rattle.replays.specs.Expected.{AreRight}
use Rattle.replays.specs.Visits.{event_in, place_in, visit_sends}
use Rattle.replays.proofs.Chunks.{AreChunks, joined}
use Rattle.replays.proofs.Reports.{Reports}
use Rattle.replays.proofs.Runs.{Headed, Rest, Taken, events_at-own}
use Rattle.replays.proofs.Steps.{silent_follows, step_entry, step_own, step_right, step_silent}

-- ---- the rest of the log begins with no Sent

others_own : (a b : Address) → same_address a b ≡ false → (xs : List LogEntry) → AllSent b xs → own_at a xs ≡ []
others_own a b other [] own = refl
others_own a b other (Sent from to bytes ∷ xs) own = let same : from ≡ b = own.0 in rw (same, other) (others_own a b other xs own.1)
others_own a b other (Got at from bytes ∷ xs) own = absurd own
others_own a b other (Idle at ∷ xs) own = absurd own
others_own a b other (Turn at ∷ xs) own = absurd own

module _ (a : Address) (left : List LogEntry) (headed : Headed (own_at a left)) where
  behind : (b : Address) → same_address a b ≡ false → (sents : List LogEntry) → AllSent b sents → Headed (own_at a (sents ++ left))
  behind b other sents own = rw (own_at-append a sents left ∙ ap (λ l. l ++ own_at a left) (others_own a b other sents own)) headed

  entry_headed : (b : Address) (entry : LogEntry) (sents : List LogEntry) → place_in entry ≡ Some b → AllSent b sents → (event_in entry ≡ [] → sents ≡ []) → Headed (own_at a (entry ∷ (sents ++ left)))
  entry_headed b (Sent from to bytes) sents is own idle = cc
  entry_headed b (Got at from bytes) sents is own idle = elim (cases_Bool (same_address a at)) [
    | inl mine ↦ rw mine tt
    | inr other ↦ let same : at ≡ b = cc in rw other (behind b (rw same at other) sents own)
  ]
  entry_headed b (Idle at) sents is own idle = let none : sents ≡ [] = idle refl in rw none headed
  entry_headed b (Turn at) sents is own idle = elim (cases_Bool (same_address a at)) [
    | inl mine ↦ rw mine tt
    | inr other ↦ let same : at ≡ b = cc in rw other (behind b (rw same at other) sents own)
  ]

pub chunks_headed : (ends : List Rules) (a : Address) (parts : List (List LogEntry)) → AreChunks ends parts → (left : List LogEntry) → Headed (own_at a left) → Headed (own_at a (joined parts ++ left))
chunks_headed ends a [] all left headed = headed
chunks_headed ends a (p ∷ ps) all left headed =
    let c = all.0 in
    let rest = chunks_headed ends a ps all.1 left headed in
    let one = entry_headed a (joined ps ++ left) rest c.r.place c.entry c.sents c.is c.own c.idle in
    rw (ap (λ l. (l ++ joined ps) ++ left) c.form ∙ ap (λ l. c.entry ∷ l) (append_assoc c.sents (joined ps) left)) one

-- ---- a report stays

module _ (m : Rules) (reports : Reports m) where
  over_stays : (xs ys : List Event) → m.over (xs ++ ys) ≡ false → m.over xs ≡ false
  over_stays xs [] none = rw append-nil at none
  over_stays xs (y ∷ ys) none = reports.stays xs y (over_stays (xs ++ y ∷ []) ys (rw append_assoc none))

  pub report_stays : (done more : List LogEntry) → has_report (Some m) (done ++ more) ≡ false → has_report (Some m) done ≡ false
  report_stays done more none = over_stays (events_at m.place done) (events_at m.place more) (ap m.over (sym (events_at-append m.place done more)) ∙ none)

  -- datagrams alone
  AllGrams : List Event → Type 0
  AllGrams [] = Unit {0}
  AllGrams (Gram from bytes ∷ events) = AllGrams events
  AllGrams (Tick ∷ events) = ⊥

  grams_append : (xs ys : List Event) → AllGrams xs → AllGrams ys → AllGrams (xs ++ ys)
  unfolding AllGrams
  grams_append [] ys one other = other
  grams_append (Gram from bytes ∷ xs) ys one other = grams_append xs ys one other
  grams_append (Tick ∷ xs) ys one other = absurd one

  grams_going : (xs ys : List Event) → m.over xs ≡ false → AllGrams ys → m.over (xs ++ ys) ≡ false
  unfolding AllGrams
  grams_going xs [] none grams = rw append-nil none
  grams_going xs (Gram from bytes ∷ ys) none grams =
      let next = grams_going (xs ++ Gram from bytes ∷ []) ys (reports.at_turns xs from bytes none) grams in rw append_assoc at next
  grams_going xs (Tick ∷ ys) none grams = absurd grams

  gots_grams : (n : ℕ) (p : List LogEntry) → Gots m.place n p → AllGrams (events_at m.place p)
  unfolding AllGrams
  gots_grams zero p none = rw none tt
  gots_grams (suc n) p gots =
      let got = gots.4 in
      let last : AllGrams (events_at m.place gots.1) = rw (got.form, same_address-refl m.place, events_at-own m.place m.place got.sents got.own) tt in
      rw (gots.2, events_at-append m.place gots.0 gots.1) (grams_append (events_at m.place gots.0) (events_at m.place gots.1) (gots_grams n gots.0 gots.3) last)

  look_grams : (p : List LogEntry) → IsLook m.place p → AllGrams (events_at m.place p)
  look_grams p look = by (at_most look.count look.most) where
    by : (look.count ≡ 64) ⊎ (look.count < 64) → AllGrams (events_at m.place p)
    by (inl full) = rw (look.full full) (gots_grams look.count look.gots look.form)
    by (inr few) = rw (look.idle few, events_at-append m.place look.gots (Idle m.place ∷ []), append-nil) (gots_grams look.count look.gots look.form)

  module _ (slaves : List Rules) (apart : Apart (m ∷ slaves)) where
    pub looks_going : (before looks : List LogEntry) → has_report (Some m) before ≡ false → IsLooks (Some m) slaves looks → has_report (Some m) (before ++ looks) ≡ false
    looks_going before looks going form =
        let rest = Each-silent IsLook look_silent m.place slaves form.rest (λ k d lt. apart 0 (suc k) d (omega arith) (omega arith) (omega arith)) form.others in
        let events : events_at m.place looks ≡ events_at m.place form.first = ap (events_at m.place) form.form ∙ events_at-append m.place form.first form.rest ∙ ap (λ l. events_at m.place form.first ++ l) rest.events ∙ append-nil _ in
        ap m.over (events_at-append m.place before looks) ∙ grams_going (events_at m.place before) (events_at m.place looks) going (rw events (look_grams form.first form.own))

-- ---- one entry and what its end then sent

module _ (m : Rules) (slaves : List Rules) (apart : Apart (m ∷ slaves)) (done left : List LogEntry) (follows : All (λ q. Follows q done) (m ∷ slaves))
    (entry : LogEntry) (sents : List LogEntry) (r : Rules) (j : ℕ) (within : j < length (m ∷ slaves)) (it : get_or (m ∷ slaves) j r ≡ r) (is : place_in entry ≡ Some r.place)
    (taken : Taken r done entry sents left) where
  abbrev pub sends : List Send
  sends = visit_sends r (events_at r.place done) entry

  abbrev pub part : List LogEntry
  part = entry ∷ sent_by r.place sends

  pub part_is : entry ∷ sents ≡ part
  part_is = ap (λ (l : List LogEntry). entry ∷ l) taken.sends_are

  far : (k : ℕ) (d : Rules) → k < length (m ∷ slaves) → k ≢ j → Silent (get_or (m ∷ slaves) k d).place part
  far k d lt ne =
      let other = apart k j d lt within ne in
      let here : get_or (m ∷ slaves) j d ≡ r = get_or_default (m ∷ slaves) j d r within ∙ it in
      step_silent r entry is _ (subst (λ (q : Rules). same_address (get_or (m ∷ slaves) k d).place q.place ≡ false) here other) sends

  mine : Follows r done
  mine = subst (λ (q : Rules). Follows q done) it (follows j r within)

  at_j : (P : Rules → Type 0) → P r → (k : ℕ) (d : Rules) → k ≡ j → P (get_or (m ∷ slaves) k d)
  at_j P one k d same =
      let here : get_or (m ∷ slaves) k d ≡ r = ap (λ (i : ℕ). get_or (m ∷ slaves) i d) same ∙ get_or_default (m ∷ slaves) j d r within ∙ it in
      subst P (sym here) one

  each : (P : Rules → Type 0) → P r → ((k : ℕ) (d : Rules) → k < length (m ∷ slaves) → k ≢ j → P (get_or (m ∷ slaves) k d)) → All P (m ∷ slaves)
  each P one others k d lt = elim (cases_eq k j) [ inl same ↦ at_j P one k d same | inr ne ↦ others k d lt ne ]

  pub follows_part : All (λ q. Follows q (done ++ part)) (m ∷ slaves)
  follows_part = each (λ q. Follows q (done ++ part)) (let own = step_own r done entry is mine (visit_sends r (events_at r.place done) entry) [] (append-nil _) in rw append-nil at own)
      (λ k d lt ne. silent_follows (get_or (m ∷ slaves) k d) done part (far k d lt ne) (follows k d lt))

  rest_other : (q : Rules) → Silent q.place part → Rest q done (part ++ left) → Rest q (done ++ part) left
  rest_other q silent rest =
      let own : own_at q.place (part ++ left) ≡ own_at q.place left = own_at-append q.place part left ∙ ap (λ l. l ++ own_at q.place left) silent.own in
      let events : events_at q.place (part ++ left) ≡ events_at q.place left = events_at-append q.place part left ∙ ap (λ l. l ++ events_at q.place left) silent.events in
      let past : events_at q.place (done ++ part) ≡ events_at q.place done = events_at-append q.place done part ∙ ap (λ l. events_at q.place done ++ l) silent.events ∙ append-nil _ in
      sym own ∙ rest ∙ ap (answered q (events_at q.place done)) events ∙ ap (λ es. answered q es (events_at q.place left)) (sym past)

  pub rest_part : All (λ q. Rest q done (part ++ left)) (m ∷ slaves) → All (λ q. Rest q (done ++ part) left) (m ∷ slaves)
  rest_part rests = each (λ q. Rest q (done ++ part) left) (subst (λ (l : List LogEntry). Rest r (done ++ l) left) part_is taken.rest)
      (λ k d lt ne. rest_other (get_or (m ∷ slaves) k d) (far k d lt ne) (rests k d lt))

  pub right_part : Reports m → AreRight (Some m) slaves done → has_report (Some m) (done ++ part) ≡ false → AreRight (Some m) slaves (done ++ part)
  right_part reports right none =
      let split : done ++ part ≡ (done ++ entry ∷ []) ++ sent_by r.place sends = sym (append_assoc done (entry ∷ []) (sent_by r.place sends)) in
      let going : has_report (Some m) (done ++ entry ∷ []) ≡ false = report_stays m reports (done ++ entry ∷ []) (sent_by r.place sends) (rw split at none) in
      let before : has_report (Some m) done ≡ false = report_stays m reports done (entry ∷ []) going in
      rw split (step_right (Some m) slaves done entry r j within it is apart follows going (step_entry (Some m) slaves done entry r j within it is apart follows before right) (visit_sends r (events_at r.place done) entry) [] (append-nil _))
